use Rattle.std.proofs.Common.{[], ◌∷◌, refl}
use Rattle.std.specs.Prelude.{None}
use Rattle.tds_service.specs.Line.{Lose}
use Rattle.tds_service.specs.Service.{Back, has_number}
use Rattle.tds_c.specs.service.Plain.{table_of}
use Rattle.tds_c.proofs.service.Steps.{closes, here_in, loses}
use Rattle.tds_c.proofs.service.Leaving.{leaves_gone}
use Rattle.tds_c.proofs.service.giving.lost.Goals as goal

pub returns-in-Some-clause-ok : goal.returns-in-Some-clause-ok
returns-in-Some-clause-ok c =
    let s = c.args.service.now in
    let seats = c.args.seats.now in
    let i = c.in-Some.index in
    let here = here_in (has_number c.args.number) s.count seats i c.requires.fits c.in-Some.ensures.first in
    loses (table_of s seats) _ c.args.number s.count seats i here refl
    (closes s.last s.given s.count seats c.take_out.new.used i (has_number c.args.number) (Lose ∷ []) (Back None) here.seat c.requires.fits here.under here.first c.take_out.ensures.len c.take_out.ensures.front)

pub returns-in-Some-clause-leaves : goal.returns-in-Some-clause-leaves
returns-in-Some-clause-leaves c =
    let s = c.args.service.now in
    let seats = c.args.seats.now in
    let i = c.in-Some.index in
    let here = here_in (has_number c.args.number) s.count seats i c.requires.fits c.in-Some.ensures.first in
    record {
      size = refl;
      clients = λ test new. leaves_gone test s.count seats c.take_out.new.used i c.requires.fits here.under c.take_out.ensures.len c.take_out.ensures.front;
    }

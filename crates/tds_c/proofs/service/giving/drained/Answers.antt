use Rattle.std.proofs.Common.{◌∙◌, [], sym, ap}
use Rattle.tds_service.specs.Service.{Did, has_number}
use Rattle.tds_c.specs.declared.service.plain.TdsSeat.{TdsSeat}
use Rattle.tds_c.specs.service.Calls.{drained_rest}
use Rattle.tds_c.specs.service.Plain.{line_of, place_of, seat_of, stage_of}
use Rattle.tds_c.proofs.service.Steps.{here_in, same_seat}
use Rattle.tds_c.specs.service.Clients.{apart}
use Rattle.tds_c.proofs.service.giving.drained.Goals as goal

pub returns-in_default-drained_rest-clause-refused : goal.returns-in_default-drained_rest-clause-refused
returns-in_default-drained_rest-clause-refused c =
    let s = c.args.service.now in
    let seats = c.args.seats.now in
    let i = c.in-Some.index in
    let test = has_number c.args.number in
    let here = here_in test s.count seats i c.requires.fits c.in-Some.ensures.first in (
      seat_of here.seat,
      here.found,
      sym (c.in_default-drained_rest.ensures ∙ ap (λ (z : TdsSeat). drained_rest (place_of z) (stage_of z.client)) (same_seat test s.count seats i here _)),
    )

pub returns-clause-ok : goal.returns-clause-ok
returns-clause-ok c =
    let s = c.args.service.now in
    let seats = c.args.seats.now in
    let i = c.in-Some.index in
    let test = has_number c.args.number in
    let here = here_in test s.count seats i c.requires.fits c.in-Some.ensures.first in
    record {
      seat = seat_of here.seat;
      found = here.found;
      rests = c.in-Some-drained_rest.ensures ∙ ap (λ (z : TdsSeat). drained_rest (place_of z) (stage_of z.client)) (same_seat test s.count seats i here _);
      put =
          c.settle.ensures.table test [] Did here.seat here.at here.first
          (ap (λ (z : TdsSeat). z.number) (same_seat test s.count seats i here _)) (ap line_of (same_seat test s.count seats i here _));
    }

pub returns-clause-leaves : goal.returns-clause-leaves
returns-clause-leaves c =
    let s = c.args.service.now in
    let seats = c.args.seats.now in
    let i = c.in-Some.index in
    let here = here_in (has_number c.args.number) s.count seats i c.requires.fits c.in-Some.ensures.first in
    let same = same_seat (has_number c.args.number) s.count seats i here _ in
    c.settle.ensures.leaves here.seat here.at (ap (λ (z : TdsSeat). z.number) same) (ap (λ (z : TdsSeat). apart z.client) same)

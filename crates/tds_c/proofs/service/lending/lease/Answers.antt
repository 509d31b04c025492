use Rattle.std.proofs.Common.{◌∙◌, sym, ap, subst}
use Rattle.std.specs.Prelude.{Option}
use Rattle.tds_wire.specs.declared.told.Token.{Token}
use Rattle.tds_service.specs.Service.{Seat, is_lendable, lends}
use Rattle.tds_service.specs.Table.{RefusesIn}
use Rattle.tds_c.specs.service.Plain.{seat_of, table_of}
use Rattle.tds_c.proofs.service.Steps.{both_ok, here_in, leases, lendable_idle, on_err, opened}
use Rattle.tds_c.proofs.service.Tables.{same_get}
use Rattle.tds_c.proofs.service.lending.lease.Goals as goal

pub lend_at-requires-clause-idle : goal.lend_at-requires-clause-idle
lend_at-requires-clause-idle c = λ d e.
    let s = c.args.service.now in
    let here = here_in is_lendable s.count c.args.seats.now c.in-Some.index c.requires.fits c.in-Some.ensures.first in
    let same = e ∙ (same_get c.args.seats.now c.in-Some.index d here.seat here.within ∙ sym here.at) in
    lendable_idle d (ap (λ x. is_lendable (seat_of x)) same ∙ here.meets)

pub returns-in-Some-clause-ok : goal.returns-in-Some-clause-ok
returns-in-Some-clause-ok c =
    let s = c.args.service.now in
    let old = table_of s c.args.seats.now in
    let here = here_in is_lendable s.count c.args.seats.now c.in-Some.index c.requires.fits c.in-Some.ensures.first in
    leases old _ (seat_of here.seat) c.in_ok-lease.lease c.lend_at.result.lease c.lend_at.result.number c.lend_at.result.had here.found c.in_ok-lease.ensures.value
    (c.lend_at.ensures.lent is_lendable here.seat here.at here.first)

pub returns-in-None-clause-ok : goal.returns-in-None-clause-ok
returns-in-None-clause-ok c =
    let old = table_of c.args.service.now c.args.seats.now in
    both_ok c.open.result _ _ _ (λ l did had. opened old _ l.lease l.number l.had c.in-None.ensures.none had did) c.open.ensures.ok c.open.ensures.had

pub returns-in-None-clause-refused : goal.returns-in-None-clause-refused
returns-in-None-clause-refused c =
    let old = table_of c.args.service.now c.args.seats.now in
    on_err c.open.result _ _ (λ refusal h. subst (λ (x : Option Seat). RefusesIn old (lends {T = Token} old x) refusal) (sym c.in-None.ensures.none) h) c.open.ensures.refused

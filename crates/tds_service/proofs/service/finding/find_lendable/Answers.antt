use Rattle.std.proofs.Common.{◌≤◌, length, ◌∙◌, sym, ap, arith, rules, below_more}
use Rattle.tds_service.specs.declared.seat.Seat.{Seat}
use Rattle.tds_service.specs.Index.{held_among, holders_in}
use Rattle.tds_service.specs.Service.{is_lendable}
use Rattle.tds_service.specs.Table.{seat_in}
use Rattle.tds_service.proofs.Latest.{all_held}
use Rattle.tds_service.proofs.Tables.{met_at, none_met}
use Rattle.tds_service.proofs.service.finding.find_lendable.Goals as goal

pub returns-then-held-seats-clause-none : goal.returns-then-held-seats-clause-none
returns-then-held-seats-clause-none c =
    let all : length c.args.seats.now ≤ held_among (holders_in c.args.seats.now) = omega (arith, c.if-held-seats.true, c.requires.held) in
    all_held c.args.seats.now all

pub returns-then-is_lendable-clause-first : goal.returns-then-is_lendable-clause-first
returns-then-is_lendable-clause-first c = record {
  within = c.loop-index-test.true;
  here = met_at is_lendable c.index-seats-index.result c.args.seats.now c.loop-index.index c.loop-index-test.true ∙ (ap (λ (x : Seat). is_lendable (seat_in x)) (sym c.index-seats-index.is) ∙ sym c.is_lendable.ensures ∙ c.if-is_lendable.true);
  before = c.loop-index.invariant;
}

pub loop-index-preserved : goal.loop-index-preserved
loop-index-preserved c =
    below_more _ _ c.loop-index.invariant
    (met_at is_lendable c.index-seats-index.result c.args.seats.now c.loop-index.index c.loop-index-test.true ∙ (ap (λ (x : Seat). is_lendable (seat_in x)) (sym c.index-seats-index.is) ∙ sym c.is_lendable.ensures ∙ c.if-is_lendable.false))

pub returns-clause-none : goal.returns-clause-none
returns-clause-none c = none_met is_lendable c.args.seats.now (λ k lt. c.loop-index.invariant k (first_of (search rules, omega arith)))

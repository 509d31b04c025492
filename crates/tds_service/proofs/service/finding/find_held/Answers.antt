use Rattle.std.proofs.Common.{◌≤◌, ◌+◌, ◌∙◌, sym, ap, arith}
use Rattle.tds_service.specs.declared.seat.Seat.{Seat}
use Rattle.tds_service.specs.Index.{number_held}
use Rattle.tds_service.specs.Table.{id_of, seat_in, test_of}
use Rattle.tds_service.proofs.Ids.{held_at}
use Rattle.tds_service.proofs.Rising.{rises}
use Rattle.tds_service.proofs.Tables.{met_at}
use Rattle.tds_service.proofs.Indexing.{first_held, none_held, none_other, none_numbered}
use Rattle.tds_service.proofs.service.finding.find_held.Goals as goal

pub find_in-requires : goal.find_in-requires
find_in-requires g c = record { rising = rises 0 _ c.requires.rising.0 c.requires.rising.1 }

pub returns-in-None-clause-none : goal.returns-in-None-clause-none
returns-in-None-clause-none g c =
    none_held c.args.seats.now c.requires.rising.0 c.args.index.now c.requires.rising.1 c.requires.finds c.args.holder (ap (number_held c.args.index.now) (sym c.id.ensures) ∙ c.in-None.ensures.absent)

pub returns-in-None-clause-few : goal.returns-in-None-clause-few
returns-in-None-clause-few g c =
    λ few.
    let one : c.find_id.new.steps ≤ c.args.steps.now + 7 = c.find_id.ensures.cost 7 (omega (arith, few, c.requires.few)) in
    omega (arith, one)

pub returns-in-None-clause-cost : goal.returns-in-None-clause-cost
returns-in-None-clause-cost g c =
    λ few.
    let one : c.find_id.new.steps ≤ c.args.steps.now + 11 = c.find_id.ensures.cost 11 (omega (arith, few, c.requires.few)) in
    omega (arith, one)

pub returns-in-None-find_in-clause-none : goal.returns-in-None-find_in-clause-none
returns-in-None-find_in-clause-none g c =
    none_numbered c.args.seats.now c.requires.rising.0 c.args.index.now c.requires.rising.1 c.requires.finds c.args.holder c.number_at.result (held_at c.args.index.now c.requires.ids.0 c.in-Some.at c.id.result (id_of c.args.holder) c.number_at.result c.requires.ids.1 c.in-Some.ensures.found.0 c.in-Some.ensures.found.1 c.id.ensures c.number_at.ensures) c.in-None-find_in.ensures.absent

pub returns-in-None-find_in-clause-few : goal.returns-in-None-find_in-clause-few
returns-in-None-find_in-clause-few g c =
    λ few.
    let one : c.find_id.new.steps ≤ c.args.steps.now + 7 = c.find_id.ensures.cost 7 (omega (arith, few, c.requires.few)) in
    let two : c.find_in.new.steps ≤ c.find_id.new.steps + 7 = c.find_in.ensures.cost 7 (omega (arith, few)) in
    omega (arith, one, two)

pub returns-in-None-find_in-clause-cost : goal.returns-in-None-find_in-clause-cost
returns-in-None-find_in-clause-cost g c =
    λ few.
    let one : c.find_id.new.steps ≤ c.args.steps.now + 11 = c.find_id.ensures.cost 11 (omega (arith, few, c.requires.few)) in
    let two : c.find_in.new.steps ≤ c.find_id.new.steps + 11 = c.find_in.ensures.cost 11 (omega (arith, few)) in
    omega (arith, one, two)

pub returns-then-is_held_by-clause-first : goal.returns-then-is_held_by-clause-first
returns-then-is_held_by-clause-first g c =
    first_held c.args.seats.now c.requires.rising.0 c.args.index.now c.requires.rising.1 c.requires.finds c.args.holder c.number_at.result c.in-Some-find_in.place (held_at c.args.index.now c.requires.ids.0 c.in-Some.at c.id.result (id_of c.args.holder) c.number_at.result c.requires.ids.1 c.in-Some.ensures.found.0 c.in-Some.ensures.found.1 c.id.ensures c.number_at.ensures) c.in-Some-find_in.ensures.found.0 c.in-Some-find_in.ensures.found.1
    (met_at (test_of c.args.holder) c.index-seats-place.result c.args.seats.now c.in-Some-find_in.place c.in-Some-find_in.ensures.found.0 ∙ (ap (λ (x : Seat). test_of c.args.holder (seat_in x)) (sym c.index-seats-place.is) ∙ (sym c.is_held_by.ensures ∙ c.if-is_held_by.true)))

pub returns-then-is_held_by-clause-few : goal.returns-then-is_held_by-clause-few
returns-then-is_held_by-clause-few g c =
    λ few.
    let one : c.find_id.new.steps ≤ c.args.steps.now + 7 = c.find_id.ensures.cost 7 (omega (arith, few, c.requires.few)) in
    let two : c.find_in.new.steps ≤ c.find_id.new.steps + 7 = c.find_in.ensures.cost 7 (omega (arith, few)) in
    omega (arith, one, two)

pub returns-then-is_held_by-clause-cost : goal.returns-then-is_held_by-clause-cost
returns-then-is_held_by-clause-cost g c =
    λ few.
    let one : c.find_id.new.steps ≤ c.args.steps.now + 11 = c.find_id.ensures.cost 11 (omega (arith, few, c.requires.few)) in
    let two : c.find_in.new.steps ≤ c.find_id.new.steps + 11 = c.find_in.ensures.cost 11 (omega (arith, few)) in
    omega (arith, one, two)

pub returns-else-is_held_by-clause-none : goal.returns-else-is_held_by-clause-none
returns-else-is_held_by-clause-none g c =
    none_other c.args.seats.now c.requires.rising.0 c.args.index.now c.requires.rising.1 c.requires.finds c.args.holder c.number_at.result c.in-Some-find_in.place (held_at c.args.index.now c.requires.ids.0 c.in-Some.at c.id.result (id_of c.args.holder) c.number_at.result c.requires.ids.1 c.in-Some.ensures.found.0 c.in-Some.ensures.found.1 c.id.ensures c.number_at.ensures) c.in-Some-find_in.ensures.found.0 c.in-Some-find_in.ensures.found.1
    (met_at (test_of c.args.holder) c.index-seats-place.result c.args.seats.now c.in-Some-find_in.place c.in-Some-find_in.ensures.found.0 ∙ (ap (λ (x : Seat). test_of c.args.holder (seat_in x)) (sym c.index-seats-place.is) ∙ (sym c.is_held_by.ensures ∙ c.if-is_held_by.false)))

pub returns-else-is_held_by-clause-few : goal.returns-else-is_held_by-clause-few
returns-else-is_held_by-clause-few g c =
    λ few.
    let one : c.find_id.new.steps ≤ c.args.steps.now + 7 = c.find_id.ensures.cost 7 (omega (arith, few, c.requires.few)) in
    let two : c.find_in.new.steps ≤ c.find_id.new.steps + 7 = c.find_in.ensures.cost 7 (omega (arith, few)) in
    omega (arith, one, two)

pub returns-else-is_held_by-clause-cost : goal.returns-else-is_held_by-clause-cost
returns-else-is_held_by-clause-cost g c =
    λ few.
    let one : c.find_id.new.steps ≤ c.args.steps.now + 11 = c.find_id.ensures.cost 11 (omega (arith, few, c.requires.few)) in
    let two : c.find_in.new.steps ≤ c.find_id.new.steps + 11 = c.find_in.ensures.cost 11 (omega (arith, few)) in
    omega (arith, one, two)

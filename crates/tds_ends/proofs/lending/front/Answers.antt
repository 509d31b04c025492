use Rattle.std.proofs.Common.{rules, ◌≡◌, ◌++◌, ◌-◌, ◌≤◌, length, take, sym, subst, ap}
use Rattle.tds_packet.specs.Stream.{IsLess}
use Rattle.tds_ends.specs.AllBytes.{new_reader}
use Rattle.tds_ends.proofs.Lent.{counts_itself, faulty_front, fronted}
use Rattle.tds_ends.proofs.lending.front.Goals as goal

pub returns-in_default-read-clause-none : goal.returns-in_default-read-clause-none
returns-in_default-read-clause-none c = λ none.
    let all : c.args.bytes.now ≡ c.in-Some.first.now ++ c.in-Some.rest.now = search rules in
    let long : length c.in-Some.first.now ≡ 8 = search rules in
    subst (IsLess (new_reader c.args.direction c.args.size)) (sym all) (faulty_front (new_reader c.args.direction c.args.size) c.in-Some.first.now c.in-Some.rest.now c.in_default-read.field-0 long c.in_default-read.ensures.fault)

pub overflow_sub-from : goal.overflow_sub-from
overflow_sub-from c =
    let least = counts_itself c.args.direction c.args.size c.in-Ok.header c.in-Some.first.now c.in-Ok.ensures.spelled c.in-Ok.ensures.lawful in
    search (rules, least)

pub returns-clause-lent : goal.returns-clause-lent
returns-clause-lent c =
    let all : c.args.bytes.now ≡ c.in-Some.first.now ++ c.in-Some.rest.now = search rules in
    let within : c.from.result - 8 ≤ length c.in-Some.rest.now = search rules in
    let is : c.in-Some-get.data.now ≡ take (c.from.result - 8) c.in-Some.rest.now = search rules in
    fronted c.args.direction c.args.size c.in-Ok.header c.args.bytes.now c.in-Some.first.now c.in-Some.rest.now c.in-Some-get.data.now (c.from.result - 8) all c.in-Ok.ensures.spelled c.in-Ok.ensures.lawful (ap (λ k. k - 8) c.from.ensures) within is

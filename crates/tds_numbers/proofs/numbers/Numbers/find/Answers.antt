use Rattle.std.proofs.Common.{◌<◌, ◌≤◌, length, sym, subst, arith}
use Rattle.tds_numbers.specs.declared.numbers.Entry.{Entry}
use Rattle.tds_numbers.specs.Table.{AreRising}
use Rattle.tds_numbers.proofs.Rising.{mapped}
use Rattle.tds_numbers.proofs.Tables.{rises}
use Rattle.tds_numbers.proofs.numbers.Numbers.find.Goals as goal

pub find_in-requires : goal.find_in-requires
find_in-requires g c =
    let es = c.deref.result.now in
    let up : AreRising es = subst AreRising (sym c.deref.ensures.value) c.self.invariant.rising in
    record { rising = λ i j lt h. rises es up i j lt (subst (λ n. j < n) (mapped (λ (e : Entry). e.number) es) h) }

pub returns-clause-few : goal.returns-clause-few
returns-clause-few g c = λ few.
    let many : length c.deref.result.now ≤ 64 = rw (c.deref.ensures.value, c.self.view_is) few in
    c.find_in.ensures.cost 7 (omega (arith, many))

pub returns-clause-cost : goal.returns-clause-cost
returns-clause-cost g c =
    let many : length c.deref.result.now ≤ 1024 = rw c.deref.ensures.value c.self.invariant.few in
    c.find_in.ensures.cost 11 (omega (arith, many))

use Rattle.std.proofs.Common.{◌≡◌, ℕ, ◌+◌, ◌-◌, ◌<◌, ◌/◌, ◌^◌, ◌∙◌, Less, Greater, length, map, slice_index, sym, ap, arith}
use Rattle.std.specs.Cmp.{ranked}
use Rattle.std.specs.Ordering.{nat_cmp}
use Rattle.tds_numbers.specs.Halving.{Lasts}
use Rattle.tds_numbers.proofs.Halves.{behind, in_front, lasts_behind, lasts_in_front}
use Rattle.tds_numbers.proofs.Rising.{mapped, at_place}
use Rattle.tds_numbers.proofs.finding.find_in.Goals as goal

begins : (most steps n : ℕ) → n < 2 ^ most → Lasts most steps steps 0 n
begins most steps n h =
    let e : steps + most - steps ≡ most = omega arith in
    record { within = omega arith; few = rw e (omega (arith, h)) }

pub halves-init : goal.halves-init
halves-init g c = record {
  where_it_is = record {
    within = omega arith;
    below = λ place lt. absurd (omega (arith, lt));
    above = λ place le lt. absurd (omega (arith, le, lt));
  };
  cost = λ most few. begins most c.args.steps.now (length c.args.among.now) few;
}

pub halves-preserved-in-Less : goal.halves-preserved-in-Less
halves-preserved-in-Less g c =
    let its = g.T.Numbered.its in
    let at = slice_index (map its c.args.among.now) in
    let middle = c.halves.low + (c.halves.high - c.halves.low) / 2 in
    let inside : middle < length c.args.among.now = omega (arith, c.halves-test.true, c.halves.invariant.where_it_is.within) in
    let is = at_place its c.args.among.now middle c.index-among-middle.result inside ∙ ap its (sym c.index-among-middle.is) in
    let told : at middle < c.args.number = ranked (at middle) c.args.number Less (c.in-Less.ensures.told ∙ ap (λ n. nat_cmp n c.args.number) (sym is)) in
    record {
      where_it_is = behind (length c.args.among.now) at c.args.number (λ i j lt h. c.requires.rising i j lt (rw (mapped its c.args.among.now) h)) c.halves.low c.halves.high c.halves-test.true c.halves.invariant.where_it_is told;
      cost = λ most few. lasts_behind most c.args.steps.now c.halves.steps c.tell.new.steps c.halves.low c.halves.high c.halves-test.true (c.halves.invariant.cost most few) c.tell.ensures.cost;
    }

pub halves-preserved : goal.halves-preserved
halves-preserved g c =
    let its = g.T.Numbered.its in
    let at = slice_index (map its c.args.among.now) in
    let middle = c.halves.low + (c.halves.high - c.halves.low) / 2 in
    let inside : middle < length c.args.among.now = omega (arith, c.halves-test.true, c.halves.invariant.where_it_is.within) in
    let is = at_place its c.args.among.now middle c.index-among-middle.result inside ∙ ap its (sym c.index-among-middle.is) in
    let told : c.args.number < at middle = ranked (at middle) c.args.number Greater (c.in-Greater.ensures.told ∙ ap (λ n. nat_cmp n c.args.number) (sym is)) in
    record {
      where_it_is = in_front (length c.args.among.now) at c.args.number (λ i j lt h. c.requires.rising i j lt (rw (mapped its c.args.among.now) h)) c.halves.low c.halves.high c.halves-test.true c.halves.invariant.where_it_is told;
      cost = λ most few. lasts_in_front most c.args.steps.now c.halves.steps c.tell.new.steps c.halves.low c.halves.high c.halves-test.true (c.halves.invariant.cost most few) c.tell.ensures.cost;
    }

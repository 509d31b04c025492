use Rattle.std.proofs.Common.{◌≡◌, ◌+◌, ◌-◌, ◌<◌, ◌/◌, ◌∙◌, Less, Equal, Greater, length, map, slice_index, sym, ap, subst, arith}
use Rattle.std.specs.Cmp.{ranked}
use Rattle.std.specs.Ordering.{nat_cmp}
use Rattle.tds_relay.specs.Sorted.{bound}
use Rattle.tds_relay.proofs.indexed.Halves.{begins, behind, in_front, lasts_behind, lasts_in_front, less_limit, more_limit, same_past, same_first}
use Rattle.tds_relay.proofs.indexed.Climbing.{climbs_at, mapped, at_place}
use Rattle.tds_relay.proofs.sorted.place_by.Goals as goal

pub halves-init : goal.halves-init
halves-init g c = record {
  cuts = record {
    within = omega arith;
    ordered = omega arith;
    below = λ place lt. absurd (omega (arith, lt));
    above = λ place le lt. absurd (omega (arith, le, lt));
  };
  cost = λ most few. begins most c.args.steps.now (length c.args.among.now) few;
}

pub halves-preserved-in-Less-default : goal.halves-preserved-in-Less-default
halves-preserved-in-Less-default g c =
    let its = g.T.Numbered.its in
    let at = slice_index (map its c.args.among.now) in
    let middle = c.halves.low + (c.halves.high - c.halves.low) / 2 in
    let limit = bound c.args.number c.args.past in
    let inside : middle < length c.args.among.now = omega (arith, c.halves-test.true, c.halves.invariant.cuts.within) in
    let is = at_place its c.args.among.now middle c.index-among-middle.result inside ∙ ap its (sym c.index-among-middle.is) in
    let told : at middle < c.args.number = ranked (at middle) c.args.number Less (c.in-Less-default.ensures.told ∙ ap (λ n. nat_cmp n c.args.number) (sym is)) in
    record {
      cuts = behind (length c.args.among.now) at limit (λ i j lt h. climbs_at (map its c.args.among.now) c.requires.climbs i j lt (subst (λ n. j < n) (sym (mapped its c.args.among.now)) h)) c.halves.low c.halves.high c.halves-test.true c.halves.invariant.cuts (less_limit (at middle) c.args.number c.args.past told);
      cost = λ most few. lasts_behind most c.args.steps.now c.halves.steps c.tell.new.steps c.halves.low c.halves.high c.halves-test.true (c.halves.invariant.cost most few) c.tell.ensures.cost;
    }

pub halves-preserved-in-Equal-true : goal.halves-preserved-in-Equal-true
halves-preserved-in-Equal-true g c =
    let its = g.T.Numbered.its in
    let at = slice_index (map its c.args.among.now) in
    let middle = c.halves.low + (c.halves.high - c.halves.low) / 2 in
    let limit = bound c.args.number c.args.past in
    let inside : middle < length c.args.among.now = omega (arith, c.halves-test.true, c.halves.invariant.cuts.within) in
    let is = at_place its c.args.among.now middle c.index-among-middle.result inside ∙ ap its (sym c.index-among-middle.is) in
    let told : at middle ≡ c.args.number = ranked (at middle) c.args.number Equal (c.in-Equal-true.ensures.told ∙ ap (λ n. nat_cmp n c.args.number) (sym is)) in
    record {
      cuts = behind (length c.args.among.now) at limit (λ i j lt h. climbs_at (map its c.args.among.now) c.requires.climbs i j lt (subst (λ n. j < n) (sym (mapped its c.args.among.now)) h)) c.halves.low c.halves.high c.halves-test.true c.halves.invariant.cuts (same_past (at middle) c.args.number c.args.past told c.in-Equal-true.is-1);
      cost = λ most few. lasts_behind most c.args.steps.now c.halves.steps c.tell.new.steps c.halves.low c.halves.high c.halves-test.true (c.halves.invariant.cost most few) c.tell.ensures.cost;
    }

pub halves-preserved-in-Equal-false : goal.halves-preserved-in-Equal-false
halves-preserved-in-Equal-false g c =
    let its = g.T.Numbered.its in
    let at = slice_index (map its c.args.among.now) in
    let middle = c.halves.low + (c.halves.high - c.halves.low) / 2 in
    let limit = bound c.args.number c.args.past in
    let inside : middle < length c.args.among.now = omega (arith, c.halves-test.true, c.halves.invariant.cuts.within) in
    let is = at_place its c.args.among.now middle c.index-among-middle.result inside ∙ ap its (sym c.index-among-middle.is) in
    let told : at middle ≡ c.args.number = ranked (at middle) c.args.number Equal (c.in-Equal-false.ensures.told ∙ ap (λ n. nat_cmp n c.args.number) (sym is)) in
    record {
      cuts = in_front (length c.args.among.now) at limit (λ i j lt h. climbs_at (map its c.args.among.now) c.requires.climbs i j lt (subst (λ n. j < n) (sym (mapped its c.args.among.now)) h)) c.halves.low c.halves.high c.halves-test.true c.halves.invariant.cuts (same_first (at middle) c.args.number c.args.past told c.in-Equal-false.is-1);
      cost = λ most few. lasts_in_front most c.args.steps.now c.halves.steps c.tell.new.steps c.halves.low c.halves.high c.halves-test.true (c.halves.invariant.cost most few) c.tell.ensures.cost;
    }

pub halves-preserved : goal.halves-preserved
halves-preserved g c =
    let its = g.T.Numbered.its in
    let at = slice_index (map its c.args.among.now) in
    let middle = c.halves.low + (c.halves.high - c.halves.low) / 2 in
    let limit = bound c.args.number c.args.past in
    let inside : middle < length c.args.among.now = omega (arith, c.halves-test.true, c.halves.invariant.cuts.within) in
    let is = at_place its c.args.among.now middle c.index-among-middle.result inside ∙ ap its (sym c.index-among-middle.is) in
    let told : c.args.number < at middle = ranked (at middle) c.args.number Greater (c.in-Greater-default.ensures.told ∙ ap (λ n. nat_cmp n c.args.number) (sym is)) in
    record {
      cuts = in_front (length c.args.among.now) at limit (λ i j lt h. climbs_at (map its c.args.among.now) c.requires.climbs i j lt (subst (λ n. j < n) (sym (mapped its c.args.among.now)) h)) c.halves.low c.halves.high c.halves-test.true c.halves.invariant.cuts (more_limit (at middle) c.args.number c.args.past told);
      cost = λ most few. lasts_in_front most c.args.steps.now c.halves.steps c.tell.new.steps c.halves.low c.halves.high c.halves-test.true (c.halves.invariant.cost most few) c.tell.ensures.cost;
    }

use Rattle.std.proofs.Common.{rules, arith, refl, ◌≡◌, ◌∙◌, ◌<◌, ◌≤◌, ◌-◌, ℕ, List, drop, take, length, ap, subst}
use Rattle.std.proofs.lemmas.List.{length-drop, take_all}
use Rattle.tds_wire.specs.Rows.{IsPassed}
use Rattle.tds_listen.proofs.Data.{nothing_heard}
use Rattle.tds_listen.proofs.Rows.{rows_heard}
use Rattle.tds_listen.proofs.hearing.walk_rows.Goals as goal

pub rows-init : goal.rows-init
rows-init c = record {
  done = omega arith;
  ready = c.if-not-is_between.ensures.ready refl;
  same = λ e. refl;
  heard = λ s listens. nothing_heard s c.args.parser.now;
  most = refl;
  features = refl;
}

pub rows-preserved : goal.rows-preserved
rows-preserved c =
    let bs = c.args.piece.now in
    let n = c.pass_row-count.result in
    let some : 0 < n = search rules in
    let all : take (length bs - c.rows.done) (drop c.rows.done bs) ≡ drop c.rows.done bs = take_all (length bs - c.rows.done) (drop c.rows.done bs) (omega (arith, length-drop c.rows.done bs)) in
    let passed = subst (λ (xs : List ℕ). IsPassed n c.rows.parser c.pass_row-count.new.self xs) all (c.pass_row-count.ensures.row some) in
    let few : n ≤ length (drop c.rows.done bs) = omega (arith, ap length all, c.pass_row-count.ensures.within) in
    record {
      done = omega (arith, few, length-drop c.rows.done bs, c.rows.invariant.done);
      ready = c.pass_row-count.ensures.ready;
      same = λ e. absurd (omega (arith, some, e));
      heard = λ s listens. rows_heard c.cuts_do_not_matter.ensures s c.args.parser.now c.rows.parser c.pass_row-count.new.self c.rows.done n bs listens (c.rows.invariant.heard s listens) passed some few;
      most = c.pass_row-count.ensures.most ∙ c.rows.invariant.most;
      features = c.pass_row-count.ensures.features ∙ c.rows.invariant.features;
    }

pub returns-then-not-is_between-clause-exact : goal.returns-then-not-is_between-clause-exact
returns-then-not-is_between-clause-exact c = λ s listens. nothing_heard s c.args.parser.now

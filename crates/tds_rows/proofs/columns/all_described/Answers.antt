use Rattle.std.proofs.Common.{arith, ◌+◌, ◌-◌, ◌<◌, ◌≡◌, ◌++◌, ◌∷◌, [], ◌∙◌, ℕ, List, length, take, ap, refl, sym, subst}
use Rattle.std.proofs.lemmas.List.{length-set, take_more_set}
use Rattle.tds_wire.specs.Layout.{Got}
use Rattle.tds_rows.specs.declared.place.RowColumn.{RowColumn}
use Rattle.tds_rows.specs.Columns.{all_described, described_at}
use Rattle.tds_rows.specs.Reading.{Fails}
use Rattle.tds_rows.proofs.Loops.{behind_front, behind_none, described_on, described_over, described_step, fails_on, others_behind}
use Rattle.tds_rows.proofs.columns.all_described.Goals as goal

pub columns-init : goal.columns-init
columns-init c =
    let k : c.args.count - 0 ≡ c.args.count = omega arith in
    record {
      done = omega arith;
      room = refl;
      exact = ap (λ (m : ℕ). behind_front [] (all_described c.args.features c.args.size m c.args.bytes.now)) k
          ∙ behind_none (all_described c.args.features c.args.size c.args.count c.args.bytes.now);
    }

pub returns-in-Err-clause-exact : goal.returns-in-Err-clause-exact
returns-in-Err-clause-exact c =
    let left = c.args.count - c.columns.done in
    let some : 0 < left = omega (arith, c.columns-test.true) in
    subst (Fails c.in-Err.fault) c.columns.invariant.exact
    (fails_on c.in-Err.fault (all_described c.args.features c.args.size left c.columns.rest.now) (λ cs rest. Got (take c.columns.done c.columns.columns ++ cs) rest)
    (subst (Fails c.in-Err.fault) (sym (described_on c.args.features c.args.size left c.columns.rest.now some))
    (fails_on c.in-Err.fault (described_at c.args.features c.args.size c.columns.rest.now) (λ x rest. others_behind c.args.features c.args.size (left - 1) x rest) c.in-Err.ensures)))

pub columns-preserved : goal.columns-preserved
columns-preserved c =
    let left = c.args.count - c.columns.done in
    let some : 0 < left = omega (arith, c.columns-test.true) in
    let room : c.columns.done < length c.columns.columns = omega (arith, c.columns-test.true, c.requires, c.columns.invariant.room) in
    let k : c.args.count - (c.columns.done + 1) ≡ left - 1 = omega arith in
    record {
      done = omega (arith, c.columns-test.true);
      room = length-set c.columns.columns c.columns.done c.in-Ok.column ∙ c.columns.invariant.room;
      exact =
          ap (λ (cs : List RowColumn). behind_front cs (all_described c.args.features c.args.size (c.args.count - (c.columns.done + 1)) c.in-Ok.more.now))
          (take_more_set c.columns.columns c.columns.done c.in-Ok.column room)
          ∙ (ap (λ (m : ℕ). behind_front (take c.columns.done c.columns.columns ++ c.in-Ok.column ∷ []) (all_described c.args.features c.args.size m c.in-Ok.more.now)) k
          ∙ (sym (described_step (take c.columns.done c.columns.columns) c.args.features c.args.size left c.columns.rest.now c.in-Ok.column c.in-Ok.more.now some c.in-Ok.ensures)
          ∙ c.columns.invariant.exact));
    }

pub returns-clause-exact : goal.returns-clause-exact
returns-clause-exact c =
    let last : c.columns.done ≡ c.args.count = omega (arith, c.columns-test.false, c.columns.invariant.done) in
    let none : c.args.count - c.columns.done ≡ 0 = omega (arith, last) in
    sym c.columns.invariant.exact
    ∙ (ap (λ (m : ℕ). behind_front (take c.columns.done c.columns.columns) (all_described c.args.features c.args.size m c.columns.rest.now)) none
    ∙ (described_over (take c.columns.done c.columns.columns) c.args.features c.args.size c.columns.rest.now
    ∙ ap (λ (m : ℕ). Got (take m c.columns.columns) c.columns.rest.now) last))

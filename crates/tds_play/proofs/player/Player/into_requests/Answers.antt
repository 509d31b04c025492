use Rattle.std.proofs.Common.{◌∙◌, List, [], ◌∷◌, ◌++◌, map, length, subst, sym, ap, arith, refl, Vec, Global}
use Rattle.tds_play.specs.Links.{newest_there}
use Rattle.tds_play.specs.Player.{all_of}
use Rattle.tds_play.proofs.pooled.Closing.{records_of}
use Rattle.tds_play.specs.declared.request.Record.{Record}
use Rattle.tds_play.proofs.Requested.{Telling, telling_at_first, tells_one_more, one_is_left, all_told, written_back}
use Rattle.tds_world.specs.declared.report.RequestReport.{RequestReport}
use Rattle.tds_play.proofs.any_bytes.Given.{none_turn, told_at_first, told_turn, told_whole}
use Rattle.tds_play.proofs.player.Player.into_requests.Goals as goal
use Rattle.tds_play.proofs.player.Player.into_requests.Goals.{in-Some+in_ok-push, in_default}

pub asked-init : goal.asked-init
asked-init g c =
    let all = all_of c.args.self in
    let stacks = records_of c.args.self c.args.self _ c.in_ok-records.ensures refl in
    record {
      given = told_at_first all _ c.new-reports.result.items stacks c.new-reports.ensures.items;
      told = λ setup engine pipes w p o.
          subst (λ (xs : List (List Record)). Telling w 1 w.asked_on xs c.new-reports.result.items) (sym stacks)
          (subst (λ (xs : List RequestReport). Telling w 1 w.asked_on (map newest_there all) xs) (sym c.new-reports.ensures.items)
          (telling_at_first setup.packet_size engine all pipes w p.connections o));
    }

pub asked-preserved : goal.asked-preserved
asked-preserved g c =
    let all = c.deref-conn-items.ensures.value in
    let whole = c.deref_mut.ensures.value in
    let kept = written_back c.asked.records.len c.asked.records.items c.next_of.new.records (c.next_of.ensures.count ∙ ap length whole) c.asked.records.ok.0 in
    let turned = ap (map (λ (v : Vec Record Global). v.items)) kept in
    let takes = rw whole at c.next_of.ensures.takes in
    record {
      given = elim c.match-next_of.branch [
        | in-Some+in_ok-push w ↦
            told_turn (all_of c.args.self) _ _ _ c.asked.reports.items c.match-next_of.reports.items _ c.next_of.result w.in-Some.record c.asked.invariant.given takes turned
            w.in-Some.is (ap (λ v. v.items) w.reports-is ∙ w.in_ok-push.ensures.items ∙ ap (λ x. c.asked.reports.items ++ x ∷ []) w.report.ensures)
        | in_default w ↦ none_turn (all_of c.args.self) _ _ _ c.asked.reports.items c.match-next_of.reports.items _ c.next_of.result c.asked.invariant.given takes turned w.in_default.is (ap (λ v. v.items) w.reports-is)
      ];
      told = elim c.match-next_of.branch [
        | in-Some+in_ok-push w ↦ λ setup engine pipes world p o.
            tells_one_more world c.deref-conn-items.result.now c.asked.conn-index _ (map (λ v. v.items) c.asked.records.items) _ c.asked.reports.items c.match-next_of.reports.items c.next_of.result w.in-Some.record
            (all ∙ p.asked) c.asked-test.true (λ before r there. let h = c.next_of.ensures.next before r (rw whole there) in (h.0, turned ∙ rw whole at h.1))
            w.in-Some.is (ap (λ v. v.items) w.reports-is ∙ w.in_ok-push.ensures.items ∙ ap (λ x. c.asked.reports.items ++ x ∷ []) w.report.ensures) (c.asked.invariant.told setup engine pipes world p o)
        | in_default w ↦ λ setup engine pipes world p o.
            absurd (one_is_left world c.deref-conn-items.result.now c.asked.conn-index _ (map (λ v. v.items) c.asked.records.items) _ c.asked.reports.items c.next_of.result
            (all ∙ p.asked) c.asked-test.true (λ before r there. let h = c.next_of.ensures.next before r (rw whole there) in (h.0, turned ∙ rw whole at h.1))
            w.in_default.is (c.asked.invariant.told setup engine pipes world p o))
      ];
    }

pub returns-clause-told : goal.returns-clause-told
returns-clause-told g c = λ setup engine pipes w p o.
    let asked = ap length c.deref-conn-items.ensures.value in
    all_told w c.asked.conn-index c.args.self.asked_on.items _ c.asked.reports.items p.asked (omega (arith, c.asked-test.false, c.deref-conn-items.ensures.len, asked)) (c.asked.invariant.told setup engine pipes w p o)

pub returns-clause-given : goal.returns-clause-given
returns-clause-given g c = told_whole (all_of c.args.self) _ c.asked.reports.items c.asked.invariant.given

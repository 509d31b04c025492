-- What a report shows of own answers and own transactions.
use Rattle.std.proofs.Common.{◌≡◌, ℕ, Bool, true, false, refl, sym, ap, subst, ◌∙◌, Option, Some, None}
use Rattle.std.specs.Prelude.{◌==◌}
use Rattle.tds_session.specs.Answer.{Answers}
use Rattle.tds_session.specs.Session.{SessionState}
use Rattle.tds_world.specs.declared.event.Setup.{Setup}
use Rattle.tds_world.specs.declared.report.RequestStatus.TheVariants as status
use Rattle.tds_world.specs.Bounds.{RanInOwn}
use Rattle.tds_world.specs.Connection.{Connection, records, is_cut}
use Rattle.tds_world.specs.Events.{world_after}
use Rattle.tds_world.specs.Lawful.{Lawful}
use Rattle.tds_world.specs.Laws.{IsOwnAnswer}
use Rattle.tds_world.specs.Observed.{event_reports, request_report}
use Rattle.tds_world.specs.Order.{RequestsInOrder}
use Rattle.tds_world.specs.Phase.{Phase, Settled, Asked, Sending, Reading, Cancelling, phase_of, status_by}
use Rattle.tds_world.specs.Record.{Record, Fate, Open, Finished, Cancelled, Acknowledged, is_finished}
use Rattle.tds_world.specs.Reports.{AlwaysTold, Ask, asked_in, ShowsAnswerIn, ShowsOwnAnswer, ShowsOwnAnswers, snapshot_in, RanInOwnBy, ShowsRunInOwn, ShowsOwnTransaction}
use Rattle.tds_world.specs.World.{World, new_world, numbered}
use Rattle.tds_world.proofs.requests.Order.{requests_in_order}
use Rattle.tds_world.proofs.requests.OwnAnswers.{own_answers}
use Rattle.tds_world.proofs.requests.OwnTransactions.{own_transaction}
use Rattle.tds_world.proofs.reports.Asks.{NamesOwn, IsAsked, IsReported, all_asked, each_reported, found_has}

-- ---- Own answers

pub finished_shown : (fate : Fate) (c : Bool) (p : Phase) → status_by fate c p ≡ status.Finished → is_finished fate ≡ true
finished_shown Finished c p e = refl
finished_shown Acknowledged c p e = absurd (cc)
finished_shown Open c Settled e = absurd (cc)
finished_shown Open true Asked e = absurd (cc)
finished_shown Open true Sending e = absurd (cc)
finished_shown Open true Reading e = absurd (cc)
finished_shown Open true Cancelling e = absurd (cc)
finished_shown Open false Asked e = absurd (cc)
finished_shown Open false Sending e = absurd (cc)
finished_shown Open false Reading e = absurd (cc)
finished_shown Open false Cancelling e = absurd (cc)
finished_shown Cancelled c Settled e = absurd (cc)
finished_shown Cancelled true Asked e = absurd (cc)
finished_shown Cancelled true Sending e = absurd (cc)
finished_shown Cancelled true Reading e = absurd (cc)
finished_shown Cancelled true Cancelling e = absurd (cc)
finished_shown Cancelled false Asked e = absurd (cc)
finished_shown Cancelled false Sending e = absurd (cc)
finished_shown Cancelled false Reading e = absurd (cc)
finished_shown Cancelled false Cancelling e = absurd (cc)

not_finished : (b : Bool) → b ≡ false → b ≡ true → ⊥
not_finished true e f = absurd (cc)
not_finished false e f = absurd (cc)

answer_shown : (answers : Answers) (cut : Bool) (q : Record) (ran : Option SessionState) → IsOwnAnswer answers q ran → ShowsAnswerIn answers q.asking.request (request_report cut q) ran
answer_shown answers cut q None h =
    (h.0, λ e. not_finished (is_finished q.fate) h.1 (finished_shown q.fate cut (phase_of q) e))
answer_shown answers cut q (Some s) h = record {
  begins = h.begins;
  ends = λ e. h.ends (finished_shown q.fate cut (phase_of q) e);
}

own_shown : (answers : Answers) (c : Connection) (q : Record) (a : Ask) → IsOwnAnswer answers q q.ran → q.lease ≡ a.lease → q.asking.request ≡ a.request → ShowsOwnAnswer answers a (request_report (is_cut c.standing) q)
own_shown answers c q a h l e = record {
  lease = l;
  answer = subst (λ x. ShowsAnswerIn answers x (request_report (is_cut c.standing) q) q.ran) e (answer_shown answers (is_cut c.standing) q q.ran h);
}

pub own_answers_are_shown : (setup : Setup) (answers : Answers) → Lawful answers → AlwaysTold setup answers (ShowsOwnAnswers answers)
own_answers_are_shown setup answers l events =
    let w : World = world_after setup answers events new_world in
    each_reported (λ c q. IsOwnAnswer answers q q.ran) (ShowsOwnAnswer answers) w 1 w.asked_on (asked_in events (event_reports setup answers events new_world)) (λ k n a h r. own_shown answers r.on h.request a r.holds h.lease h.asks) (own_answers setup answers l events) (all_asked setup answers events)

-- ---- Own transactions

runs_in_own : (w : World) → RequestsInOrder w → (k n : ℕ) (a : Ask) (h : IsAsked w k n a) (r : IsReported RanInOwn k (numbered w.connections n) h.request) → ShowsRunInOwn a (request_report (is_cut r.on.standing) h.request)
runs_in_own w o k n a h r s e =
    let on : h.request.conn ≡ n =
    found_has (λ (q : Record). q.conn ≡ n) (λ (q : Record). q.number == k) (records r.on) h.request (o.each n r.on r.is).conns r.found in
    by_asker a.cleans h.names on (r.holds s e)
  where
    by_asker : (b : Bool) → NamesOwn b n a.snapshots h.request.asking.descriptor → h.request.conn ≡ n → h.request.asking.descriptor ≡ s.descriptor → RanInOwnBy b a (request_report (is_cut r.on.standing) h.request) s
    by_asker false x on ran = record {
      snapshot = x.snapshot;
      shown = ap (λ m. snapshot_in m a.snapshots) on ∙ x.is;
      descriptor = sym ran ∙ x.named;
    }
    by_asker true x on ran = sym ran ∙ x

pub own_transactions_are_shown : (setup : Setup) (answers : Answers) → Lawful answers → AlwaysTold setup answers ShowsOwnTransaction
own_transactions_are_shown setup answers l events =
    let w : World = world_after setup answers events new_world in
    each_reported RanInOwn ShowsRunInOwn w 1 w.asked_on (asked_in events (event_reports setup answers events new_world)) (runs_in_own w (requests_in_order setup answers events)) (own_transaction setup answers l events) (all_asked setup answers events)

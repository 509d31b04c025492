-- Whose attentions are.
use Rattle.std.proofs.Common.{◌≡◌, ◌∙◌, ℕ, ap}
use Rattle.tds_relay.specs.Pool as pool
use Rattle.tds_relay.specs.Pool.{Pool, Event, Action}
use Rattle.tds_relay.specs.Promises.{IsOf, IsStop}
use Rattle.tds_relay.specs.Ties.{Application, Cause, Causes, CausesAction, Owns}
use Rattle.tds_relay.proofs.promises.Caring.{Sound}
use Rattle.tds_relay.proofs.promises.Promised.{none_astray}

action_of : (by : Cause) (key other : ℕ) (action : Action) → CausesAction by other action → other ≡ key → IsStop action → by ≡ Application key
action_of by key other pool.Asks cause same stop = absurd stop
action_of by key other (pool.Puts count) cause same stop = absurd stop
action_of by key other (pool.Ends count) cause same stop = absurd stop
action_of by key other pool.Stops cause same stop = cause ∙ ap Application same

cause_of : (by : Cause) (key : ℕ) (event : Event) → Causes by event → IsOf key event → by ≡ Application key
cause_of by key (pool.Waits other) cause of = absurd of
cause_of by key (pool.Unwaits other) cause of = absurd of
cause_of by key pool.Serves cause of = absurd of
cause_of by key (pool.Brings gives way) cause of = absurd of
cause_of by key (pool.Does other action) cause of = action_of by key other action cause of.0 of.1
cause_of by key (pool.Leaves other gives way) cause of = cause ∙ ap Application of
cause_of by key (pool.Renews other resumes) cause of = absurd of
cause_of by key (pool.Comes number part way) cause of = absurd of
cause_of by key (pool.Loses number) cause of = absurd of

pub owns : (by : Cause) (d : Pool) (event : Event) → Sound d → Causes by event → Owns by d event
owns by d event sound cause n out =
    let found = none_astray d event sound n out in
    (found.0, cause_of by found.0 event cause found.1, found.2)

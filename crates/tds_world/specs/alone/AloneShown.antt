-- What reports show of it that a lease can't tell that it shares its connection.
use Rattle.std.specs.Prelude.{ℕ, List, [], ◌∷◌, Bool, true, false, ◌&&◌, ◌==◌, if◌then◌else◌, Option, Some, None}
use Rattle.std.specs.List.{AllByRecursion}
use Rattle.tds_session.specs.declared.attention.OnAttention.{OnAttention}
use Rattle.tds_session.specs.Answer.{Answers}
use Rattle.tds_session.specs.Session.{SessionState, new_session, transacting}
use Rattle.tds_world.specs.declared.event.Event.{Event}
use Rattle.tds_world.specs.declared.outcome.Opened.{Opened}
use Rattle.tds_world.specs.declared.outcome.Opened.TheVariants as opened
use Rattle.tds_world.specs.declared.outcome.Outcome.{Outcome}
use Rattle.tds_world.specs.declared.outcome.Outcome.TheVariants as outcome
use Rattle.tds_world.specs.declared.report.EventReport.{EventReport}
use Rattle.tds_world.specs.declared.report.Report.{Report}
use Rattle.tds_world.specs.declared.report.RequestReport.{RequestReport}
use Rattle.tds_world.specs.declared.report.RequestStatus.{RequestStatus}
use Rattle.tds_world.specs.declared.report.RequestStatus.TheVariants as status
use Rattle.tds_world.specs.alone.Alone.{Exchange, Progress, RunsAlone, progress_of}
use Rattle.tds_world.specs.Connection.{Connection}
use Rattle.tds_world.specs.Reports.{Ask, asked_in}
use Rattle.tds_world.specs.World.{World, numbered}

-- How far the request of this number on this connection got. A report doesn't say it: the world says it,
-- by what was sent.
abbrev pub HowFar : Type 0
HowFar = (conn number : ℕ) → Progress

abbrev pub far_on : ℕ → Option Connection → Progress
far_on number None = record { done = 0; rolled = false }
far_on number (Some c) = progress_of c number

abbrev pub far_in : World → HowFar
far_in w conn number = far_on number (numbered w.connections conn)

abbrev pub is_shown_finished : RequestStatus → Bool
is_shown_finished status.Finished = true
is_shown_finished _ = false

-- A request, and what came of it.
abbrev pub exchange_shown : HowFar → Ask → RequestReport → Exchange
exchange_shown far a r = record {
  request = a.request;
  ran = r.ran;
  got = far r.conn a.number;
  given = r.tokens;
  finished = is_shown_finished r.status;
}

-- Those of this lease on this connection, in the order in which they were asked.
abbrev pub exchanges_shown : HowFar → ℕ → ℕ → List Ask → List RequestReport → List Exchange
exchanges_shown far lease conn [] rs = []
exchanges_shown far lease conn (a ∷ asks) [] = []
exchanges_shown far lease conn (a ∷ asks) (r ∷ rs) =
    if r.conn == conn && r.lease == lease
    then exchange_shown far a r ∷ exchanges_shown far lease conn asks rs
    else exchanges_shown far lease conn asks rs

-- A lease that is shown: how it came by its connection, and its requests there.
pub record LeaseShown : Type 0 where
  pub opened : Opened
  pub exchanges : List Exchange

abbrev pub lease_in : HowFar → List Ask → List RequestReport → Outcome → List LeaseShown
lease_in far asks rs (outcome.Leased lease conn opened) =
    record { opened = opened; exchanges = exchanges_shown far lease conn asks rs } ∷ []
lease_in far asks rs o = []

-- P holds of each of them.
abbrev pub OfEachLease : (LeaseShown → Type 0) → HowFar → List Event → Report → Type 0
OfEachLease P far events r =
    AllByRecursion
    (λ (e : EventReport). AllByRecursion P (lease_in far (asked_in events r.events) r.requests e.outcome))
    r.events

-- What a lease's own session is before its first request, by how the lease came by its connection.
abbrev pub own_by : Opened → SessionState
own_by opened.New = new_session
own_by opened.Reused = new_session
own_by opened.Resumed = transacting new_session

-- Each lease that is shown is told what it would be told alone.
abbrev pub ShowsAsIfAlone : OnAttention → Answers → HowFar → List Event → Report → Type 0
ShowsAsIfAlone attention answers far events r =
    OfEachLease
    (λ (x : LeaseShown). RunsAlone attention answers (own_by x.opened) x.exchanges) far events r

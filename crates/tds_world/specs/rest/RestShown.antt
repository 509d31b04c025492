-- What reports show of it that no connection is ever stuck: the report of a play, and that of the same
-- play with the events behind it that bring a connection to rest.
use Rattle.std.specs.Prelude.{ℕ, ◌≡◌, ◌≢◌, ◌+◌, ◌≤◌, List, [], ◌∷◌, ◌++◌, map, Some}
use Rattle.std.specs.List.{AllByRecursion}
use Rattle.tds_session.specs.declared.attention.OnAttention.{OnAttention}
use Rattle.tds_session.specs.declared.attention.OnAttention.TheVariants.{Keep, RollBack}
use Rattle.tds_session.specs.Answer.{Answers}
use Rattle.tds_world.specs.declared.event.Event.{Event}
use Rattle.tds_world.specs.declared.event.Setup.{Setup}
use Rattle.tds_world.specs.declared.report.ClientView.TheVariants as view
use Rattle.tds_world.specs.declared.report.EventReport.{EventReport}
use Rattle.tds_world.specs.declared.report.Place.TheVariants as place
use Rattle.tds_world.specs.declared.report.Report.{Report}
use Rattle.tds_world.specs.declared.report.RequestReport.{RequestReport}
use Rattle.tds_world.specs.declared.report.RequestStatus.{RequestStatus}
use Rattle.tds_world.specs.declared.report.RequestStatus.TheVariants as status
use Rattle.tds_world.specs.declared.report.Snapshot.{Snapshot}
use Rattle.tds_world.specs.Connection.{In}
use Rattle.tds_world.specs.Losses.{Nothing, Played, marked, observed_with}
use Rattle.tds_world.specs.Observed.{observed}
use Rattle.tds_world.specs.Reports.{ShowsQuiet, snapshot_in}
use Rattle.tds_world.specs.rest.Rest.{rested_at, stopping, finishing}

-- The snapshots after the last event, or these where there was none.
abbrev pub last_of : List Snapshot → List EventReport → List Snapshot
last_of shown [] = shown
last_of shown (e ∷ es) = last_of e.snapshots es

abbrev pub last_snapshots : Report → List Snapshot
last_snapshots r = last_of [] r.events

-- The connection of this snapshot is shown at rest: its client is idle, nothing is underway, both ends
-- hold one descriptor, and it stands where it stood, or is free if it was draining.
pub record IsAtRest (s : Snapshot) (r : Report) : Type 0 where
  pub after : Snapshot
  pub shown : snapshot_in s.conn (last_snapshots r) ≡ Some after
  pub idle : after.client ≡ view.Idle
  pub quiet : ShowsQuiet after
  pub place : after.place ≡ rested_at s.place

-- How many bytes acknowledge an attention at most: a packet with a DONE, and with an ENVCHANGE before
-- it where the server rolls back (MS-TDS 2.2.7.6, 2.2.7.9).
abbrev pub acknowledgement_most : OnAttention → ℕ
acknowledgement_most Keep = 21
acknowledgement_most RollBack = 35

-- The report of a play with these events behind it.
abbrev pub Later : Type 0
Later = List Event → Report

-- What the pool asks when it cleans a connection nobody cancels: so it is with one that drains while its
-- client reads. It comes to rest by what is left to do alone.
abbrev pub CanCancelShown : Snapshot → Type 0
CanCancelShown s = s.place ≡ place.Draining → s.client ≢ view.Reading

-- With a cancel: for all bytes that are shown underway to the server, and 16 for the word to drop the
-- request and the attention; and all that are shown underway to the client, and those of the
-- acknowledgement. More do no harm.
abbrev pub CanBeStopped : OnAttention → Later → Snapshot → Type 0
CanBeStopped attention later s =
    CanCancelShown s
    → (up down : ℕ) → s.to_server + 16 ≤ up → s.to_client + acknowledgement_most attention ≤ down
    → IsAtRest s (later (stopping (In s.place) s.conn up down))

-- What becomes of a request that is answered.
abbrev pub BecomesOf : RequestStatus → RequestStatus → Type 0
BecomesOf status.Open later = later ≡ status.Finished
BecomesOf status.Cancelling later = later ≡ status.Acknowledged
BecomesOf earlier later = Unit {0}

-- So it is with each request of the connection: one that was open is finished, and one that was
-- cancelled is acknowledged.
abbrev pub AreAnswered : ℕ → List RequestReport → List RequestReport → Type 0
AreAnswered conn [] later = Unit {0}
AreAnswered conn (r ∷ rs) [] = ⊥
AreAnswered conn (r ∷ rs) (l ∷ later) =
    (r.conn ≡ conn → BecomesOf r.status l.status) × AreAnswered conn rs later

pub record IsAnswered (s : Snapshot) (earlier later : Report) : Type 0 where
  pub rest : IsAtRest s later
  pub requests : AreAnswered s.conn earlier.requests later.requests

-- Without a cancel: there is a count from which on so many packets, bytes and steps are enough.
abbrev pub CanBeFinished : Later → Report → Snapshot → Type 0
CanBeFinished later r s =
    (least : ℕ)
    × ((packets up steps down : ℕ) → least ≤ packets → least ≤ up → least ≤ steps → least ≤ down
    → IsAnswered s r (later (finishing (In s.place) s.conn packets up steps down)))

-- Each connection that is shown after the last event can be brought to rest, both ways, or where the
-- pool is cleaning it, without a cancel.
pub record IsNeverStuck (attention : OnAttention) (later : Later) (r : Report) (s : Snapshot)
    : Type 0 where
  pub stopped : CanBeStopped attention later s
  pub finished : CanBeFinished later r s

abbrev pub ShowsNeverStuck : Setup → Answers → List Event → Report → Type 0
ShowsNeverStuck setup answers events r =
    AllByRecursion
    (IsNeverStuck setup.on_attention (λ more. observed setup answers (events ++ more)) r)
    (last_snapshots r)

-- The same of a play over links that fail: the report marks what was lost before, and nothing is lost in
-- the events behind it.
abbrev pub unlost : List Event → List Played
unlost events = map (λ e. record { event = e; loss = Nothing }) events

abbrev pub later_with : Setup → Answers → List Played → Later
later_with setup answers ps more = observed_with setup answers (ps ++ unlost more)

abbrev pub ShowsNeverStuckWith : Setup → Answers → List Event → Report → Type 0
ShowsNeverStuckWith setup answers events r =
    AllByRecursion
    (IsNeverStuck setup.on_attention (later_with setup answers (marked events r.events)) r)
    (last_snapshots r)

-- What the session laws say of a play's report.
use Rattle.std.specs.Prelude.{ℕ, suc, ◌≡◌, ◌≢◌, ◌≤◌, List, [], ◌∷◌, ◌++◌, Bool, true, false, if◌then◌else◌, ◌==◌, Option, Some, None, find}
use Rattle.std.specs.List.{AllByRecursion}
use Rattle.tds_request.specs.declared.request.Request.{Request}
use Rattle.tds_session.specs.Answer.{Answers}
use Rattle.tds_session.specs.Session.{SessionState, IsFresh, no_settings}
use Rattle.tds_token.specs.declared.token.Token.{Token}
use Rattle.tds_world.specs.declared.event.Event.{Event}
use Rattle.tds_world.specs.declared.event.Event.TheVariants as event
use Rattle.tds_world.specs.declared.event.Setup.{Setup}
use Rattle.tds_world.specs.declared.outcome.Opened.{Opened}
use Rattle.tds_world.specs.declared.outcome.Opened.TheVariants as opened
use Rattle.tds_world.specs.declared.outcome.Outcome.{Outcome}
use Rattle.tds_world.specs.declared.outcome.Outcome.TheVariants as outcome
use Rattle.tds_world.specs.declared.report.ClientView.TheVariants as view
use Rattle.tds_world.specs.declared.report.EventReport.{EventReport}
use Rattle.tds_world.specs.declared.report.Place.TheVariants as place
use Rattle.tds_world.specs.declared.report.Report.{Report}
use Rattle.tds_world.specs.declared.report.RequestReport.{RequestReport}
use Rattle.tds_world.specs.declared.report.RequestStatus.{RequestStatus}
use Rattle.tds_world.specs.declared.report.RequestStatus.TheVariants as status
use Rattle.tds_world.specs.declared.report.Snapshot.{Snapshot}
use Rattle.tds_world.specs.Cleaning.{clean_request}
use Rattle.tds_world.specs.Laws.{whole_answer}
use Rattle.tds_world.specs.Observed.{observed}
use Rattle.tds_packet.specs.Resets.{header_descriptor}

-- P holds of the report, whatever the events.
abbrev pub AlwaysShown : Setup → Answers → (Report → Type 0) → Type 0
AlwaysShown setup answers P = (events : List Event) → P (observed setup answers events)

-- P holds of the events and their report.
abbrev pub AlwaysTold : Setup → Answers → (List Event → Report → Type 0) → Type 0
AlwaysTold setup answers P = (events : List Event) → P events (observed setup answers events)

-- P holds of the report of any events of a kind.
abbrev pub AlwaysShownOf : (Event → Type 0) → Setup → Answers → (Report → Type 0) → Type 0
AlwaysShownOf E setup answers P =
    (events : List Event) → AllByRecursion E events → P (observed setup answers events)

-- P holds of each snapshot after each event.
abbrev pub OfEachSnapshot : (Snapshot → Type 0) → Report → Type 0
OfEachSnapshot P r = AllByRecursion (λ (e : EventReport). AllByRecursion P e.snapshots) r.events

-- Nothing is underway, and client and server hold one descriptor.
pub record ShowsQuiet (s : Snapshot) : Type 0 where
  pub to_server : s.to_server ≡ 0
  pub to_client : s.to_client ≡ 0
  pub descriptor : s.descriptor ≡ s.server.descriptor

-- Wherever a client is idle, its connection is quiet.
abbrev pub ShowsQuietIfIdle : Snapshot → Type 0
ShowsQuietIfIdle s = s.client ≡ view.Idle → ShowsQuiet s

abbrev pub ShowsIdleQuiet : Report → Type 0
ShowsIdleQuiet r = OfEachSnapshot ShowsQuietIfIdle r

-- At most 4,094 bytes of a connection are underway to its server.
abbrev pub ShowsFewUnderway : Report → Type 0
ShowsFewUnderway r = OfEachSnapshot (λ (s : Snapshot). s.to_server ≤ 4094) r

-- No end refuses what comes to it.
abbrev pub IsNoFault : Outcome → Type 0
IsNoFault (outcome.Fault end layer number) = ⊥
IsNoFault o = Unit {0}

-- Neither an end nor the carrier fails in an event.
pub record IsWithoutFault (e : EventReport) : Type 0 where
  pub outcome : IsNoFault e.outcome
  pub lost : e.lost ≡ false

abbrev pub ShowsNoFault : Report → Type 0
ShowsNoFault r = AllByRecursion IsWithoutFault r.events

-- A request that was asked, as the report shows it: its number, the lease under which it was asked,
-- and the snapshots after its event. A cleaning asks one too, under a lease of the pool's own; its
-- snapshots are not looked at.
pub record Ask : Type 0 where
  pub number : ℕ
  pub lease : ℕ
  pub request : Request
  pub cleans : Bool
  pub snapshots : List Snapshot

abbrev pub asked_by : Event → EventReport → Outcome → List Ask
asked_by (event.Ask lease q) r (outcome.Asked number) =
    record { number = number; lease = lease; request = q; cleans = false; snapshots = r.snapshots } ∷ []
asked_by (event.Clean n) r (outcome.Cleaning lease number) =
    record { number = number; lease = lease; request = clean_request; cleans = true; snapshots = [] } ∷ []
asked_by e r o = []

-- The requests that were asked, in their order: those of the events that the report says so of.
abbrev pub asked_in : List Event → List EventReport → List Ask
asked_in (e ∷ es) (r ∷ rs) = asked_by e r r.outcome ++ asked_in es rs
asked_in _ _ = []

-- There is a request report for each request that was asked, in their order, P holds of the two, and
-- the numbers of the requests are those from this one on.
abbrev pub OfEachAskFrom : ℕ → (Ask → RequestReport → Type 0) → List Ask → List RequestReport → Type 0
OfEachAskFrom number P [] [] = Unit {0}
OfEachAskFrom number P (a ∷ asks) (r ∷ rs) =
    (a.number ≡ number) × P a r × OfEachAskFrom (suc number) P asks rs
OfEachAskFrom number P _ _ = ⊥

abbrev pub OfEachAsk : (Ask → RequestReport → Type 0) → List Event → Report → Type 0
OfEachAsk P events r = OfEachAskFrom 1 P (asked_in events r.events) r.requests

-- The tokens of a report are a beginning of those, and all of them where it is finished.
pub record ShowsAnswer (r : RequestReport) (whole : List Token) : Type 0 where
  pub begins : (rest : List Token) × (r.tokens ++ rest ≡ whole)
  pub ends : r.status ≡ status.Finished → r.tokens ≡ whole

-- In the session that the report shows, the tokens are of the request's whole answer. Without one
-- there are none, and the request isn't finished.
abbrev pub ShowsAnswerIn : Answers → Request → RequestReport → Option SessionState → Type 0
ShowsAnswerIn answers q r None = (r.tokens ≡ []) × (r.status ≢ status.Finished)
ShowsAnswerIn answers q r (Some s) = ShowsAnswer r (whole_answer answers s q)

-- Each lease has a beginning of the answer to its own request.
pub record ShowsOwnAnswer (answers : Answers) (a : Ask) (r : RequestReport) : Type 0 where
  pub lease : r.lease ≡ a.lease
  pub answer : ShowsAnswerIn answers a.request r r.ran

abbrev pub ShowsOwnAnswers : Answers → List Event → Report → Type 0
ShowsOwnAnswers answers events r = OfEachAsk (ShowsOwnAnswer answers) events r

-- What a snapshot shows of a connection, if it shows it.
abbrev pub snapshot_in : ℕ → List Snapshot → Option Snapshot
snapshot_in conn shown = find (λ (s : Snapshot). s.conn == conn) shown

-- The connection is shown idle, and lent under this lease.
pub record IsLent (lease conn : ℕ) (snapshots : List Snapshot) : Type 0 where
  pub snapshot : Snapshot
  pub shown : snapshot_in conn snapshots ≡ Some snapshot
  pub client : snapshot.client ≡ view.Idle
  pub place : snapshot.place ≡ place.Leased lease

-- Each connection that is lent is idle.
abbrev pub LentIfLeased : Outcome → List Snapshot → Type 0
LentIfLeased (outcome.Leased lease conn opened) snapshots = IsLent lease conn snapshots
LentIfLeased o snapshots = Unit {0}

-- One whose opening lost its link is told, and cut.
abbrev pub IsLentIdle : EventReport → Type 0
IsLentIdle e = e.lost ≡ false → LentIfLeased e.outcome e.snapshots

abbrev pub ShowsLendsIdle : Report → Type 0
ShowsLendsIdle r = AllByRecursion IsLentIdle r.events

-- A session in the transaction that the client was in when the request was asked, as the snapshot
-- after its event shows it; or outside one, where a full reset was to end it first.
pub record IsInOwn (a : Ask) (r : RequestReport) (s : SessionState) : Type 0 where
  pub snapshot : Snapshot
  pub shown : snapshot_in r.conn a.snapshots ≡ Some snapshot
  pub descriptor : s.descriptor ≡ header_descriptor snapshot.mark snapshot.descriptor

-- A cleaning is always under a full reset, so its request runs outside one.
abbrev pub RanInOwnBy : Bool → Ask → RequestReport → SessionState → Type 0
RanInOwnBy false a r s = IsInOwn a r s
RanInOwnBy true a r s = s.descriptor ≡ 0

-- Each request that ran did so in its own transaction.
abbrev pub ShowsRunInOwn : Ask → RequestReport → Type 0
ShowsRunInOwn a r = (s : SessionState) → r.ran ≡ Some s → RanInOwnBy a.cleans a r s

abbrev pub ShowsOwnTransaction : List Event → Report → Type 0
ShowsOwnTransaction events r = OfEachAsk ShowsRunInOwn events r

-- The session in which the first request of a lease ran, if one did.
abbrev pub first_by : Bool → Option SessionState → Option SessionState → Option SessionState
first_by true (Some s) later = Some s
first_by _ _ later = later

abbrev pub first_run : ℕ → List RequestReport → Option SessionState
first_run lease [] = None
first_run lease (r ∷ rs) = first_by (r.lease == lease) r.ran (first_run lease rs)

-- The session that a lease finds, by how it came by its connection: a fresh one, or for a lease that
-- came from a ticket one without settings.
abbrev pub StartsBy : Opened → SessionState → Type 0
StartsBy opened.Resumed s = s.settings ≡ no_settings
StartsBy _ s = IsFresh s

abbrev pub StartsIfLeased : List RequestReport → Outcome → Type 0
StartsIfLeased rs (outcome.Leased lease conn opened) =
    (s : SessionState) → first_run lease rs ≡ Some s → StartsBy opened s
StartsIfLeased rs o = Unit {0}

abbrev pub ShowsFreshStart : Report → Type 0
ShowsFreshStart r = AllByRecursion (λ (e : EventReport). StartsIfLeased r.requests e.outcome) r.events

-- The snapshots after the event that made this ticket.
abbrev pub makes : ℕ → Outcome → Bool
makes ticket (outcome.Kept t) = t == ticket
makes ticket o = false

abbrev pub kept_in : ℕ → List EventReport → List Snapshot
kept_in ticket [] = []
kept_in ticket (e ∷ es) = if makes ticket e.outcome then e.snapshots else kept_in ticket es

-- A session without settings, in the transaction that the ticket keeps: the one that the client of the
-- kept connection was in when the ticket was made.
pub record IsInKept (ticket : ℕ) (r : Report) (s : SessionState) : Type 0 where
  pub snapshot : Snapshot
  pub shown : snapshot_in snapshot.conn (kept_in ticket r.events) ≡ Some snapshot
  pub place : snapshot.place ≡ place.Kept ticket
  pub settings : s.settings ≡ no_settings
  pub descriptor : s.descriptor ≡ snapshot.descriptor

-- The first request of a resumed lease finds it so.
abbrev pub KeepsIfResumed : Report → Event → Outcome → Type 0
KeepsIfResumed r (event.Resume ticket) (outcome.Leased lease conn opened.Resumed) =
    (s : SessionState) → first_run lease r.requests ≡ Some s → IsInKept ticket r s
KeepsIfResumed r e o = Unit {0}

-- P holds of each event and its outcome.
abbrev pub OfEachOutcome : (Event → Outcome → Type 0) → List Event → List EventReport → Type 0
OfEachOutcome P [] [] = Unit {0}
OfEachOutcome P (e ∷ es) (r ∷ rs) = P e r.outcome × OfEachOutcome P es rs
OfEachOutcome P _ _ = ⊥

abbrev pub ShowsKeptTransaction : List Event → Report → Type 0
ShowsKeptTransaction events r = OfEachOutcome (KeepsIfResumed r) events r.events

-- A request that the report shows as cancelled.
abbrev pub IsCancelled : RequestStatus → Type 0
IsCancelled status.Cancelling = Unit {0}
IsCancelled status.Acknowledged = Unit {0}
IsCancelled status.Unsent = Unit {0}
IsCancelled _ = ⊥

-- Each request that is reported is reported later too, with the same tokens where it was cancelled.
abbrev pub GivesNoMore : List RequestReport → List RequestReport → Type 0
GivesNoMore [] later = Unit {0}
GivesNoMore (r ∷ rs) [] = ⊥
GivesNoMore (r ∷ rs) (l ∷ later) =
    (IsCancelled r.status → l.tokens ≡ r.tokens) × GivesNoMore rs later

abbrev pub ShowsNothingAfterCancel : Setup → Answers → Type 0
ShowsNothingAfterCancel setup answers =
    (events later : List Event)
    → GivesNoMore (observed setup answers events).requests (observed setup answers (events ++ later)).requests

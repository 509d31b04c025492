-- The session laws: what holds after any events.
use Rattle.std.specs.Prelude.{ℕ, ◌≡◌, ◌<◌, List, [], ◌++◌, flat_map, true, false, Option, Some, None}
use Rattle.std.specs.List.{AllByRecursion}
use Rattle.tds_request.specs.declared.request.Request.{Request}
use Rattle.tds_session.specs.Answer.{Answers}
use Rattle.tds_session.specs.Session.{SessionState, IsFresh, no_settings}
use Rattle.tds_token.specs.declared.token.Token.{Token}
use Rattle.tds_token.specs.Told.{told}
use Rattle.tds_world.specs.declared.event.Event.{Event}
use Rattle.tds_world.specs.declared.event.Setup.{Setup}
use Rattle.tds_world.specs.Connection.{Connection, records, phase, up_underway, down_underway}
use Rattle.tds_world.specs.Events.{world_after}
use Rattle.tds_world.specs.Observed.{record_on}
use Rattle.tds_world.specs.Phase.{Settled}
use Rattle.tds_world.specs.Record.{Record, is_finished, is_cancelled}
use Rattle.tds_world.specs.World.{World, Holding, new_world, numbered}

-- P holds of the world after any events.
abbrev pub Always : Setup → Answers → (World → Type 0) → Type 0
Always setup answers P = (events : List Event) → P (world_after setup answers events new_world)

-- P holds of the world after any events of a kind.
abbrev pub AlwaysOf : (Event → Type 0) → Setup → Answers → (World → Type 0) → Type 0
AlwaysOf E setup answers P =
    (events : List Event) → AllByRecursion E events → P (world_after setup answers events new_world)

-- P holds of each connection.
abbrev pub OfEachConnection : (Connection → Type 0) → World → Type 0
OfEachConnection P w = AllByRecursion P w.connections

-- P holds of each request of each connection.
abbrev pub OfEachRequest : (Connection → Record → Type 0) → World → Type 0
OfEachRequest P w = AllByRecursion (λ c. AllByRecursion (P c) (records c)) w.connections

-- Own answers

-- All that the answer to a request gives its caller, where it runs in this session: without a
-- reset, and with the session's own descriptor in its header.
abbrev pub whole_answer : Answers → SessionState → Request → List Token
whole_answer answers s q = told (flat_map (λ step. step.tokens) (answers s s.descriptor None q))

-- These tokens are a beginning of those, and all of them where the request is finished.
pub record IsAnswer (given whole : List Token) (q : Record) : Type 0 where
  pub begins : (rest : List Token) × (given ++ rest ≡ whole)
  pub ends : is_finished q.fate ≡ true → given ≡ whole

-- A request that ran in a session was given a beginning of its own answer there. One that didn't
-- run was given nothing, and isn't finished.
abbrev pub IsOwnAnswer : Answers → Record → Option SessionState → Type 0
IsOwnAnswer answers q None = (q.given ≡ []) × (is_finished q.fate ≡ false)
IsOwnAnswer answers q (Some s) = IsAnswer q.given (whole_answer answers s q.asking.request) q

-- Each caller has a beginning of its own request's answer, and all of it where it is finished.
abbrev pub OwnAnswers : Answers → World → Type 0
OwnAnswers answers w = OfEachRequest (λ c q. IsOwnAnswer answers q q.ran) w

-- Nothing after its cancel

-- The request of this number, asked on this connection.
abbrev pub request_in : ℕ → Option Connection → Option Record
request_in number None = None
request_in number (Some c) = record_on number c

abbrev pub request_on : World → ℕ → ℕ → Option Record
request_on w n number = request_in number (numbered w.connections n)

-- Whatever happens after a cancel, the caller has been given what it had been given then.
abbrev pub NothingAfterCancel : Setup → Answers → Type 0
NothingAfterCancel setup answers =
    (events later : List Event) (n number : ℕ) (q : Record)
    → request_on (world_after setup answers events new_world) n number ≡ Some q → is_cancelled q.fate ≡ true
    → (p : Record)
    × (request_on (world_after setup answers (events ++ later) new_world) n number ≡ Some p)
    × (p.given ≡ q.given)

-- Idle is quiet

-- Where nobody waits for an answer, nothing is underway, the server holds no part of a request and
-- owes no answer, and both ends hold one descriptor.
pub record IsQuiet (c : Connection) : Type 0 where
  pub to_server : up_underway c ≡ 0
  pub to_client : down_underway c ≡ 0
  pub parts : c.parts ≡ []
  pub due : c.due ≡ []
  pub descriptor : c.heard ≡ c.session.descriptor

-- Each idle connection is quiet.
abbrev pub QuietIfIdle : Connection → Type 0
QuietIfIdle c = phase c ≡ Settled → IsQuiet c

abbrev pub IdleIsQuiet : World → Type 0
IdleIsQuiet w = OfEachConnection QuietIfIdle w

-- Fresh start

-- A session with the transaction of a ticket and no settings.
abbrev pub HasKept : Option Holding → SessionState → Type 0
HasKept None s = ⊥
HasKept (Some ticket) s = (s.settings ≡ no_settings) × (s.descriptor ≡ ticket.descriptor)

-- How a lease's session starts: fresh, or for a lease that came from a ticket with what that kept.
abbrev pub StartsFrom : World → Option ℕ → SessionState → Type 0
StartsFrom w None s = IsFresh s
StartsFrom w (Some ticket) s = HasKept (numbered w.tickets ticket) s

abbrev pub StartsUnder : World → Option Holding → SessionState → Type 0
StartsUnder w None s = ⊥
StartsUnder w (Some lease) s = StartsFrom w lease.resumed s

-- No request that was asked before this one under the same lease ran.
abbrev pub IsFirstToRun : Connection → Record → Type 0
IsFirstToRun c q =
    AllByRecursion (λ p. p.lease ≡ q.lease → p.number < q.number → p.ran ≡ None) (records c)

-- The first request of a lease that runs finds a fresh session, or the kept transaction without
-- settings.
abbrev pub StartsFresh : World → Connection → Record → Type 0
StartsFresh w c q =
    (s : SessionState)
    → q.ran ≡ Some s → IsFirstToRun c q → StartsUnder w (numbered w.leases q.lease) s

abbrev pub FreshStart : World → Type 0
FreshStart w = OfEachRequest (StartsFresh w) w

-- A lease can't tell that it shares its connection: what is told to its requests, and how they are
-- answered, is what a server of its own would have told them.
use Rattle.std.specs.Prelude.{ℕ, zero, suc, ◌+◌, ◌≤◌, ◌≡◌, length, List, [], ◌∷◌, ◌++◌, map, Bool, true, false, ◌==◌, if◌then◌else◌, Option, Some, None, filter}
use Rattle.tds_packet.specs.declared.status.Reset.{Reset}
use Rattle.tds_request.specs.declared.request.Request.{Request}
use Rattle.tds_session.specs.declared.attention.OnAttention.{OnAttention}
use Rattle.tds_session.specs.declared.attention.OnAttention.TheVariants as on_attention
use Rattle.tds_session.specs.Answer as answer
use Rattle.tds_session.specs.Answer.{Answers}
use Rattle.tds_session.specs.Attention.{stop_by}
use Rattle.tds_session.specs.Session.{SessionState, new_session, transacting, is_in_transaction, last_descriptor}
use Rattle.tds_token.specs.declared.env_change.EnvChange.{EnvChange}
use Rattle.tds_token.specs.declared.token.Token.{Token}
use Rattle.tds_token.specs.Told.{told}
use Rattle.tds_world.specs.Connection.{Connection, records}
use Rattle.tds_world.specs.Entries.{Down, Step, Acknowledgement}
use Rattle.tds_world.specs.Laws.{OfEachConnection, whole_answer}
use Rattle.tds_world.specs.Record.{Record, is_finished}
use Rattle.tds_world.specs.Steps.{sent_down}
use Rattle.tds_world.specs.World.{World, Holding, numbered}

-- Two sessions are alike: their settings are the same, and both are in a transaction or neither is.
-- The numbers of their transactions may differ.
pub record AreAlike (s t : SessionState) : Type 0 where
  pub settings : s.settings ≡ t.settings
  pub transaction : is_in_transaction s ≡ is_in_transaction t

-- ---- A request of a lease, and what came of it

-- How far it got: how many steps of its answer were done, its reset apart, and whether its attention
-- rolled the transaction back behind them.
pub record Progress : Type 0 where
  pub done : ℕ
  pub rolled : Bool

-- What it asked, the session that it ran in, how far it got, what its caller was given, and whether it
-- is finished.
pub record Exchange : Type 0 where
  pub request : Request
  pub ran : Option SessionState
  pub got : Progress
  pub given : List Token
  pub finished : Bool

-- How many steps of the answer to a request are among these, its reset apart.
abbrev pub counted : Option Reset → ℕ
counted None = 1
counted (Some r) = 0

abbrev pub steps_among : ℕ → List Down → ℕ
steps_among number [] = 0
steps_among number (Step r place s ∷ es) =
    (if r == number then counted s.reset else 0) + steps_among number es
steps_among number (Acknowledgement r place changes ∷ es) = steps_among number es

-- Whether an acknowledgement of it is among these that tells a change: the transaction is rolled back.
abbrev pub tells_back : Bool → List EnvChange → Bool → Bool
tells_back true (change ∷ changes) later = true
tells_back true [] later = later
tells_back false changes later = later

abbrev pub rolls_among : ℕ → List Down → Bool
rolls_among number [] = false
rolls_among number (Step r place s ∷ es) = rolls_among number es
rolls_among number (Acknowledgement r place changes ∷ es) =
    tells_back (r == number) changes (rolls_among number es)

-- So far it got: what the server does goes out as it is done.
abbrev pub progress_among : List Down → ℕ → Progress
progress_among sent number = record {
  done = steps_among number sent;
  rolled = rolls_among number sent;
}

abbrev pub progress_of : Connection → ℕ → Progress
progress_of c number = progress_among (sent_down c) number

abbrev pub exchange_of : Connection → Record → Exchange
exchange_of c q = record {
  request = q.asking.request;
  ran = q.ran;
  got = progress_of c q.number;
  given = q.given;
  finished = is_finished q.fate;
}

-- Those of a lease on a connection, in the order in which they were asked.
abbrev pub exchanges_of : ℕ → Connection → List Exchange
exchanges_of lease c = map (exchange_of c) (filter (λ (q : Record). q.lease == lease) (records c))

-- ---- A server of one's own

-- All steps of its answer: by the session's own descriptor, and without a reset.
abbrev pub own_steps : Answers → SessionState → Request → List answer.Step
own_steps answers s q = answers s s.descriptor None q

-- The session behind so many of these steps.
abbrev pub session_after : SessionState → ℕ → List answer.Step → SessionState
session_after s zero steps = s
session_after s (suc n) [] = s
session_after s (suc n) (t ∷ ts) = session_after t.after n ts

-- And behind an attention that rolls back, or doesn't.
abbrev pub left_by : Bool → SessionState → SessionState
left_by rolled s = (stop_by rolled s).after

-- The own session behind a request that got so far there too.
abbrev pub left_alone : Answers → SessionState → Exchange → SessionState
left_alone answers own x =
    left_by x.got.rolled (session_after own x.got.done (own_steps answers own x.request))

-- What a lease's own session is before its first request: new; or in a transaction that was just
-- begun, if the lease came from a ticket.
abbrev pub session_from : Option ℕ → SessionState
session_from None = new_session
session_from (Some ticket) = transacting new_session

abbrev pub own_session : Option Holding → SessionState
own_session None = new_session
own_session (Some lease) = session_from lease.resumed

-- ---- As if alone

-- It ran in such a session, and was told what a server of its own tells it in this one: a beginning,
-- and all of it where it is finished.
pub record IsToldAlone (answers : Answers) (own ran : SessionState) (x : Exchange) : Type 0 where
  pub alike : AreAlike ran own
  pub begins : (rest : List Token) × (x.given ++ rest ≡ whole_answer answers own x.request)
  pub ends : x.finished ≡ true → x.given ≡ whole_answer answers own x.request

-- One that did not run was told nothing.
abbrev pub TellsAlone : Answers → SessionState → Exchange → Option SessionState → Type 0
TellsAlone answers own x None = (x.given ≡ []) × (x.finished ≡ false)
TellsAlone answers own x (Some ran) = IsToldAlone answers own ran x

-- A server that keeps transactions at an attention rolls none back.
abbrev pub MayRollBack : OnAttention → Bool → Type 0
MayRollBack on_attention.Keep rolled = rolled ≡ false
MayRollBack on_attention.RollBack rolled = Unit {0}

-- The requests of a lease, one after the other, on a server of its own that does the same at an
-- attention, where each gets as far as it got.
abbrev pub RunsAlone : OnAttention → Answers → SessionState → List Exchange → Type 0
RunsAlone attention answers own [] = Unit {0}
RunsAlone attention answers own (x ∷ xs) =
    TellsAlone answers own x x.ran × MayRollBack attention x.got.rolled
    × RunsAlone attention answers (left_alone answers own x) xs

-- Each lease's requests are told what they would be told alone.
abbrev pub AsIfAlone : OnAttention → Answers → World → Type 0
AsIfAlone attention answers w =
    OfEachConnection (λ c.
    (lease : ℕ)
    → RunsAlone attention answers (own_session (numbered w.leases lease)) (exchanges_of lease c)) w

-- ---- Answers that are blind to the numbers of transactions

-- A session has as many descriptors left as the request's answer has steps there.
pub record HasRoom (answers : Answers) (s : SessionState) (q : Request) : Type 0 where
  pub some : 1 ≤ s.next_descriptor
  pub left : s.next_descriptor + length (own_steps answers s q) ≤ last_descriptor

-- A step and another one: the same is told, both are the last or neither is, and alike sessions are
-- left.
pub record AreAlikeSteps (s t : answer.Step) : Type 0 where
  pub told : told s.tokens ≡ told t.tokens
  pub last : s.last ≡ t.last
  pub after : AreAlike s.after t.after

abbrev pub AllAlike : List answer.Step → List answer.Step → Type 0
AllAlike [] [] = Unit {0}
AllAlike [] (t ∷ ts) = ⊥
AllAlike (s ∷ ss) [] = ⊥
AllAlike (s ∷ ss) (t ∷ ts) = AreAlikeSteps s t × AllAlike ss ts

-- From alike sessions with descriptors left, a request is answered alike.
abbrev pub BlindToNumbers : Answers → Type 0
BlindToNumbers answers =
    (s t : SessionState) (q : Request)
    → AreAlike s t → HasRoom answers s q → HasRoom answers t q
    → AllAlike (own_steps answers s q) (own_steps answers t q)

-- That a request goes on: where it is, behind each piece of its application's bytes by which it begins, goes on or ends.
use Rattle.std.specs.Prelude.{◌≡◌, ◌⊎◌, ℕ, Bool, true, false, List, [], ◌∷◌, Option, Some, None, Result, Ok, Err, option_map}
use Rattle.tds_front.specs.declared.fault.FrontFault.{FrontFault}
use Rattle.tds_front.specs.declared.front.Fed.{Fed}
use Rattle.tds_front.specs.declared.front.Said.{Said}
use Rattle.tds_front.specs.declared.front.Said.TheVariants as said
use Rattle.tds_front.specs.Bytes.{fed}
use Rattle.tds_service.specs.Line as line
use Rattle.tds_service.specs.Service.{Seat, Service, find_by, has_lease}
use Rattle.tds_relay.specs.declared.application.Application.{Application}
use Rattle.tds_relay.specs.declared.state.Asking.{Asking}
use Rattle.tds_relay.specs.declared.state.Asking.TheVariants as asking
use Rattle.tds_relay.specs.declared.pool.Hold.{Hold}
use Rattle.tds_relay.specs.declared.link.Link.{Link}
use Rattle.tds_relay.specs.Pool.{Pool, find_key}
use Rattle.tds_relay.specs.Core.{End, Core, IfOpen, IsBegun, Open, Over, end_at, is_in}
use Rattle.tds_relay.specs.Machine.{Machine, Step, Makes, Takes, after}
use Rattle.tds_relay.specs.Reads.{open_at}
use Rattle.tds_relay.specs.Taking.{IsDeaf, Tells}
use Rattle.tds_relay.specs.Places.{own_asking}

-- ---- On its connection

-- where the line of a connection is that is lent by this lease
abbrev pub stage_by : Service → ℕ → Option line.LineStage
stage_by s lease = option_map (λ (c : Seat). c.line.stage) (find_by (has_lease lease) s.seats)

-- A request is being sent there; or all of it was, where it is whole.
abbrev pub IsSent : Bool → Option line.LineStage → Type 0
IsSent whole (Some (line.Sending begun)) = whole ≡ false
IsSent whole (Some line.Reading) = whole ≡ true
IsSent whole _ = ⊥

pub record SendsOn (whole : Bool) (d : Pool) (key : ℕ) : Type 0 where
  pub hold : Hold
  pub its : find_key key d.holds ≡ Some hold
  pub sent : IsSent whole (stage_by d.service hold.lease)

-- Its application has begun it, where this holds a connection.
abbrev pub HasBegun : Pool → ℕ → Option End → Type 0
HasBegun d key end = (hold : Hold) → find_key key d.holds ≡ Some hold → IfOpen IsBegun end

-- ---- Where a request is

-- It was taken back, and the server's acknowledgement of that is due.
abbrev pub IsTakenBack : Option End → Type 0
IsTakenBack None = ⊥
IsTakenBack (Some (Open front withdrawn asks)) = withdrawn ≡ true
IsTakenBack (Some (Over why)) = ⊥

-- A request of this application, of which all has come or not, beside these connections.
pub data IsUnderway (whole : Bool) (links : List Link) (key : ℕ) (h : Core) : Type 0 where
  -- its application stands in the line
  Waits : is_in key h.pool.line ≡ true → IsUnderway whole links key h
  -- or holds a connection that isn't open yet; or one on which what it took back isn't acknowledged yet
  Opens : (hold : Hold) → find_key key h.pool.holds ≡ Some hold → open_at hold.number links ≡ None → IsUnderway whole links key h
  Drains : (hold : Hold) → find_key key h.pool.holds ≡ Some hold → IsTakenBack (end_at h.ends key) → IsUnderway whole links key h
  -- or the request was asked on the connection that its application holds, and is being sent; where all of it has come, its end was sent
  Sends : SendsOn whole h.pool key → IsUnderway whole links key h
  -- or its application is to be closed
  Closes : IsDeaf (end_at h.ends key) → IsUnderway whole links key h

-- ---- Behind each piece

-- what is said of a piece
abbrev pub said_of_piece : Result Fed FrontFault → Said
said_of_piece (Ok fed) = fed.said
said_of_piece (Err fault) = said.Nothing

abbrev pub said_of : List ℕ → Option End → Said
said_of bytes None = said.Nothing
said_of bytes (Some (Open front withdrawn asks)) = said_of_piece (fed front bytes).brings
said_of bytes (Some (Over why)) = said.Nothing

-- Where by it a request begins, goes on or ends, that is underway; where one is taken back, its
-- application stands in the line no more.
abbrev pub IsObeyed : List Link → ℕ → Said → Core → Type 0
IsObeyed links key said.Nothing h = Unit {0}
IsObeyed links key (said.Begin kind reset) h = IsUnderway false links key h
IsObeyed links key (said.Body count) h = IsUnderway false links key h
IsObeyed links key (said.End count) h = IsUnderway true links key h
IsObeyed links key (said.Forget gone) h = is_in key h.pool.line ≡ false
IsObeyed links key said.Acknowledge h = is_in key h.pool.line ≡ false
IsObeyed links key said.HandOn h = Unit {0}

-- at once, or by the moves before anything else comes
abbrev pub Soon : (Core → Type 0) → Machine → List Step → Type 0
Soon P h [] = P h.core
Soon P h (Makes move ∷ steps) = P h.core ⊎ Soon P (after h (Makes move)) steps
Soon P h (step ∷ steps) = P h.core

-- Behind each piece that steps take of an application this holds, by what is said of it, before the
-- next one is taken.
abbrev pub AreObeyed : (Said → Core → Type 0) → ℕ → Machine → List Step → Type 0
AreObeyed P key h [] = Unit {0}
AreObeyed P key h (Takes other bytes ∷ steps) =
    Soon (P (said_of bytes (end_at h.core.ends key))) (after h (Takes other bytes)) steps
    × AreObeyed P key (after h (Takes other bytes)) steps
AreObeyed P key h (step ∷ steps) = AreObeyed P key (after h step) steps

-- An application's bytes are taken, up to these, and each piece is obeyed.
pub record AsksByBytes (key : ℕ) (old : Machine) (bytes left : List ℕ) (links : List Link) (new : Machine) : Type 0 where
  pub tells : Tells key old bytes left new
  pub obeyed : AreObeyed (IsObeyed links key) key old tells.steps

-- Whatever was taken before, these bytes are taken behind it, up to these.
abbrev pub AsksOn : ℕ → List ℕ → List ℕ → List Link → List Link → Machine → Machine → Type 0
AsksOn key left rest links next old new = (first : Machine) (bytes : List ℕ) → AsksByBytes key first bytes left links old → AsksByBytes key first bytes rest next new

-- ---- As the code has it

-- whether all has come of an application's request that waits, if one does
abbrev pub waits_in : Asking → Option Bool
waits_in asking.Nothing = None
waits_in (asking.Waits kind whole) = Some whole
waits_in asking.Goes = None

abbrev pub waits_of : Option Application → Option Bool
waits_of None = None
waits_of (Some a) = waits_in (own_asking a)

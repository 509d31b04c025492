-- When an application is told of a reset (ENVCHANGE 18) that was asked for, and how often: by the relay, before a packet, or in that itself.
-- One that nobody asked for is its server's answer to its own request (`sp_reset_connection`), and isn't counted here.
use Rattle.std.specs.Prelude.{◌≡◌, ℕ, ◌==◌, ◌&&◌, not, Bool, false, List, [], ◌∷◌, ◌++◌, Option, Some, None, is_some, Result, Ok, Err, if◌then◌else◌}
use Rattle.tds_packet.specs.declared.status.Reset.{Reset}
use Rattle.tds_front.specs.declared.fault.FrontFault.{FrontFault}
use Rattle.tds_front.specs.declared.front.Fed.{Fed}
use Rattle.tds_front.specs.declared.front.Said.{Said}
use Rattle.tds_front.specs.declared.front.Said.TheVariants as said
use Rattle.tds_front.specs.Bytes.{fed}
use Rattle.tds_wire.specs.declared.told.Token.{Token}
use Rattle.tds_service.specs.Parts.{Part}
use Rattle.tds_relay.specs.declared.pool.coming.What.{What}
use Rattle.tds_relay.specs.Pool.{Sharing, owes_reset, whose}
use Rattle.tds_relay.specs.Giving.{Visit, machine_at_visit}
use Rattle.tds_relay.specs.Core.{End, Open, Over, dones_of_part, end_at, what_in}
use Rattle.tds_relay.specs.Machine as machine
use Rattle.tds_relay.specs.Machine.{Machine, Manner, Step, Whole, Without, Withheld, after, tellings}
use Rattle.tds_relay.specs.Promises.{one_if}

pub data ResetEvent : Type 0 where
  -- a request of the application begins, which asks for this reset itself, or for none
  Asks : (reset : Option Reset) → ResetEvent
  -- what has come of it is taken back
  TakesBack : ResetEvent
  -- a packet is handed on to it, which only acknowledges an attention or doesn't, and with it it is told of a reset so often
  Hears : (acknowledges : Bool) (times : ℕ) → ResetEvent

-- ---- In a step

abbrev pub asked_by : Said → List ResetEvent
asked_by (said.Begin kind reset) = Asks reset ∷ []
asked_by (said.Forget gone) = TakesBack ∷ []
asked_by said.Acknowledge = TakesBack ∷ []
asked_by _ = []

abbrev pub reset_asked : Result Fed FrontFault → List ResetEvent
reset_asked (Ok fed) = asked_by fed.said
reset_asked (Err fault) = []

abbrev pub asked_in : List ℕ → Option End → List ResetEvent
asked_in bytes None = []
asked_in bytes (Some (Open front withdrawn asks)) = reset_asked (fed front bytes).brings
asked_in bytes (Some (Over why)) = []

abbrev pub heard_in : Bool → What → Manner → Part Token → List ResetEvent
heard_in owed what (Whole tells) part = Hears (machine.acknowledges what) (tellings owed (Whole tells) part) ∷ []
heard_in owed what (Without tells bytes) part = Hears (machine.acknowledges what) (tellings owed (Without tells bytes) part) ∷ []
heard_in owed what Withheld part = []

abbrev pub if_its : ℕ → Option ℕ → List ResetEvent → List ResetEvent
if_its key None events = []
if_its key (Some other) events = if other == key then events else []

abbrev pub happens : ℕ → Machine → Step → List ResetEvent
happens key h (machine.Hands number header content part way manner) = if_its key (whose h.core.pool number) (heard_in (owes_reset number h.core.pool) (what_in (dones_of_part h.core.pool number part)) manner part)
happens key h (machine.Takes other bytes) = if_its key (Some other) (asked_in bytes (end_at h.core.ends key))
happens key h _ = []

-- ---- Along steps

abbrev pub happen : ℕ → Machine → List Step → List ResetEvent
happen key h [] = []
happen key h (step ∷ steps) = happens key h step ++ happen key (after h step) steps

-- Where its request asks for a reset it is told of that once, with the first packet that it hears behind it: unless that only acknowledges
-- an attention, or it takes the request back before. Else it is told of none.
abbrev pub IsToldOnce : Bool → List ResetEvent → Type 0
IsToldOnce asks [] = Unit {0}
IsToldOnce asks (Asks reset ∷ later) = IsToldOnce (is_some reset) later
IsToldOnce asks (TakesBack ∷ later) = IsToldOnce false later
IsToldOnce asks (Hears acknowledges times ∷ later) = (times ≡ one_if (asks && not acknowledges)) × IsToldOnce false later

-- The reset that its request asks for behind these, and of which it hasn't been told; from such a one.
abbrev pub wants : Option Reset → List ResetEvent → Option Reset
wants asks [] = asks
wants asks (Asks reset ∷ later) = wants reset later
wants asks (TakesBack ∷ later) = wants None later
wants asks (Hears acknowledges times ∷ later) = wants None later

-- Its end has it so that its request asks for this reset, or for none, and it hasn't been told of it; or it is to be closed.
abbrev pub AsksJust : Option Reset → Option End → Type 0
AsksJust asks None = Unit {0}
AsksJust asks (Some (Open front withdrawn is)) = is ≡ asks
AsksJust asks (Some (Over why)) = Unit {0}

-- from where an application has come
abbrev pub happens_to : {sharing : Sharing} {key : ℕ} → Visit sharing key → List ResetEvent
happens_to {sharing} {key} v = happen key (machine_at_visit v) v.since

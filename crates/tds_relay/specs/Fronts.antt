-- The ends of applications, as the code has them beside its pool; what it hears of a packet, and how its calls lead from core to core.
use Rattle.std.specs.Prelude.{◌≡◌, ◌⊎◌, ℕ, Bool, true, false, List, [], ◌∷◌, Option, Some, None, Ok, if◌then◌else◌, map, option_map, slice_set, ◌&&◌}
use Rattle.slab.specs.Slab.{Slab, get}
use Rattle.tds_packet.specs.declared.status.Reset.{Reset}
use Rattle.tds_front.specs.declared.front.Front.{Front}
use Rattle.tds_front.specs.declared.front.Said.{Said}
use Rattle.tds_front.specs.declared.front.Said.TheVariants as said
use Rattle.tds_front.specs.declared.stage.Stage.{Stage}
use Rattle.tds_front.specs.Bytes.{fed}
use Rattle.tds_front.specs.Rules as rules
use Rattle.tds_wire.specs.declared.told.Token.{Token}
use Rattle.tds_service.specs.History.{Done}
use Rattle.tds_relay.specs.declared.application.Application.{Application}
use Rattle.tds_relay.specs.declared.pool.Pool as pools
use Rattle.tds_relay.specs.declared.pool.coming.Heard.{Heard}
use Rattle.tds_relay.specs.declared.pool.coming.What.{What}
use Rattle.tds_relay.specs.declared.relay.Relay as code
use Rattle.tds_relay.specs.Pool as pool
use Rattle.tds_relay.specs.Pool.{Pool, Way}
use Rattle.tds_relay.specs.Core.{End, Open, Over, EndList, Core, Feeds, IsBegun, HasWholeRequest, LetsGo, Moves, asks_by, change_whose, end_at, move_stage, moved, end_told, what_in, may_park}
use Rattle.tds_relay.specs.Machine.{Machine}
use Rattle.tds_relay.specs.Queues.{Queues, acknowledgement, give, queues_in}
use Rattle.tds_relay.specs.Taking.{IsDeaf}
use Rattle.tds_relay.specs.Ties.{Application as ByApplication, Cause, Turns, pool_in}
use Rattle.tds_relay.specs.declared.state.Asking.{Asking}
use Rattle.tds_relay.specs.declared.state.Asking.TheVariants as asking
use Rattle.tds_relay.specs.Places.{is_closed, own_asking, own_fault, own_reset, took_back}

abbrev pub own_end : Application → End
own_end a = if is_closed a then Over (own_fault a) else Open a.front (took_back a) (own_reset a)

abbrev pub ends_in : Slab Application → EndList
ends_in s = map (option_map own_end) s.slots

abbrev pub core_of_ends : Pool → EndList → Core
core_of_ends d ends = record { pool = d; ends = ends }

abbrev pub core_of : pools.Pool → Slab Application → Core
core_of d slab = core_of_ends (pool_in d) (ends_in slab)

abbrev pub core_in : code.Relay → Core
core_in r = core_of r.pool r.applications

-- with what waits for each application
abbrev pub machine_with : Pool → EndList → Queues → Machine
machine_with d ends queues = record { core = core_of_ends d ends; queues = queues }

abbrev pub machine_of : pools.Pool → Slab Application → Machine
machine_of d slab = machine_with (pool_in d) (ends_in slab) (queues_in slab)

abbrev pub machine_in : code.Relay → Machine
machine_in r = machine_of r.pool r.applications

-- ---- A packet that comes

-- what came of a packet is what the service answers, where it is an application's
abbrev pub IsWhat : Option ℕ → What → List (Done Token) → Type 0
IsWhat None what dones = Unit {0}
IsWhat (Some key) what dones = what ≡ what_in dones

-- what is heard is told to the application's end
abbrev pub told_by : Option Heard → EndList → EndList
told_by None ends = ends
told_by (Some heard) ends = change_whose heard.key (end_told heard.what) ends

-- ---- What is put

-- what must be so of the stage where bytes of a request are put, or also its end
abbrev pub puts : Bool → Stage → Type 0
puts false stage = IsBegun stage
puts true stage = HasWholeRequest stage

-- something of a request has gone on, where there are bytes
abbrev pub goes_by : List ℕ → End → End
goes_by [] end = end
goes_by (byte ∷ bytes) end = move_stage rules.request_went_on end

-- Bytes were put, and then its end, or that alone wasn't.
pub record PutsOn (key : ℕ) (old new : Pool) (before after : List ℕ) (ends : Bool) : Type 0 where
  pub count : ℕ
  pub mid : Pool
  pub between : List ℕ
  pub first : Turns (pool.Does key (pool.Puts count)) old mid before between
  pub last : ((new ≡ mid) × (after ≡ between)) ⊎ ((ends ≡ true) × (more : ℕ) × Turns (pool.Does key (pool.Ends more)) mid new between after)

-- Or nothing was.
abbrev pub MayPut : ℕ → Bool → Pool → Pool → List ℕ → List ℕ → Type 0
MayPut key ends old new before after = ((new ≡ old) × (after ≡ before)) ⊎ PutsOn key old new before after ends

-- ---- What is taken back

-- an application has taken its request back, of which something had gone on
abbrev pub withdraws : End → End
withdraws (Open front withdrawn asks) = Open front true asks
withdraws (Over why) = Over why

-- Bytes of an application were taken, of which this was said: its end was before them, and is as they lead.
pub record IsFed (key : ℕ) (before now : EndList) (bytes : List ℕ) (answer : Said) : Type 0 where
  pub front : Front
  pub withdrawn : Bool
  pub asks : Option Reset
  pub count : ℕ
  pub was : end_at before key ≡ Some (Open front withdrawn asks)
  pub says : (fed front bytes).brings ≡ Ok (record { count = count; said = answer })
  pub is : now ≡ slice_set before key (Some (Open (fed front bytes).front withdrawn (asks_by answer asks)))

-- ---- As calls say it

-- Wherever moves that this causes led to the one, they lead to the other.
abbrev pub Moved : Cause → Core → Core → Type 0
Moved by old new = (from : Core) → Moves by from old → Moves by from new

-- The same, whoever caused it.
abbrev pub MovedOn : Core → Core → Type 0
MovedOn old new = (by : Cause) → Moved by old new

-- An application let its connection go first.
abbrev pub LetsGoFirst : ℕ → Core → Core → Type 0
LetsGoFirst key old new = (gives : Bool) × (way : Way) × MovedOn (moved old (LetsGo key false gives way)) new

-- what an application is given by what is said of its bytes
abbrev pub given_by : ℕ → Said → Queues → Queues
given_by key said.Acknowledge queues = give key acknowledgement queues
given_by key answer queues = queues

-- They are taken between quiet moves.
pub record TakesBetween (key : ℕ) (old : Core) (bytes : List ℕ) (new : Core) : Type 0 where
  pub mid : Core
  pub first : Moves (ByApplication key) old mid
  pub same : mid.ends ≡ old.ends
  pub next : Moves (ByApplication key) (moved mid (Feeds key bytes)) new

-- Or the application is to be closed, and nothing is given to it.
pub record ClosesInstead (key : ℕ) (answer : Said) (old new : Core) : Type 0 where
  pub moves : Moves (ByApplication key) old new
  pub deaf : IsDeaf (end_at new.ends key)
  pub nothing : (queues : Queues) → given_by key answer queues ≡ queues

-- So it is from where it was before it was fed.
abbrev pub FedOn : ℕ → Said → Pool → EndList → Core → Type 0
FedOn key answer d now new =
    (before : EndList) (bytes : List ℕ) → IsFed key before now bytes answer
    → TakesBetween key (core_of_ends d before) bytes new ⊎ ClosesInstead key answer (core_of_ends d before) new

-- ---- When an application may be parked

-- There is no request of it that waits or goes on.
abbrev pub is_asking_nothing : Asking → Bool
is_asking_nothing asking.Nothing = true
is_asking_nothing (asking.Waits kind whole) = false
is_asking_nothing asking.Goes = false

abbrev pub has_no_request : Option Application → Bool
has_no_request None = false
has_no_request (Some a) = is_asking_nothing (own_asking a)

abbrev pub may_park_in : code.Relay → ℕ → Bool
may_park_in r key = may_park (core_in r) key && has_no_request (get r.applications key)

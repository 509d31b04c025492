-- What becomes of applications' requests as something comes on a connection, and how its packets are set anew.
use Rattle.std.specs.Prelude.{◌≡◌, ◌⊎◌, ◌&&◌, ◌==◌, ℕ, Bool, true, false, IsSome, List, [], ◌∷◌, Option, Some, None, is_some, if◌then◌else◌}
use Rattle.slab.specs.Slab.{Slab, get}
use Rattle.tds_packet.specs.Reading.{Reading}
use Rattle.tds_relay.specs.Bodies.{Astray, Body, Closed, Going, Kept, Nowhere, Spared, Starts, body_in, body_of}
use Rattle.tds_relay.specs.Pool.{owes_reset, whose}
use Rattle.tds_relay.specs.Fronts.{core_in, machine_in, own_end}
use Rattle.tds_relay.specs.Handing.{PassesAs}
use Rattle.tds_relay.specs.Core.{Core, End, EndList, Open, Over, dones_of_part, end_at, holder, is_in, what_in}
use Rattle.tds_relay.specs.Machine.{Machine, Hands, Step, acknowledges, after}
use Rattle.tds_relay.specs.Reads.{BytesCome, MayBegin, StaysAt, ReadsPackets, answer_at, if_open, open_answer, open_at}
use Rattle.tds_relay.specs.Sparing.{IsKept, IsUnkept}
use Rattle.tds_relay.specs.Ties.{IsReached, pool_in}
use Rattle.tds_relay.specs.declared.application.Application.{Application}
use Rattle.tds_relay.specs.declared.pool.coming.Heard.{Heard}
use Rattle.tds_relay.specs.declared.pool.coming.What.{What}
use Rattle.tds_relay.specs.declared.pool.coming.What.TheVariants as whats
use Rattle.tds_relay.specs.declared.link.Answer.{Answer}
use Rattle.tds_relay.specs.declared.link.Link.{Link}
use Rattle.tds_relay.specs.declared.relay.Relay as code
use Rattle.tds_service.specs.declared.service.Service as services

-- It goes on, or is said to.
abbrev pub IsGoing : Body → Type 0
IsGoing Closed = ⊥
IsGoing Nowhere = ⊥
IsGoing (Kept kind bytes whole) = ⊥
IsGoing Astray = Unit {0}
IsGoing (Going number client waits) = Unit {0}

-- By a packet what is kept of a request stays, all of it, and where there is none none comes. What goes on is read, or done. Or its
-- application is to be closed.
pub data HearsOn : Body → Body → Type 0 where
  Waits : {b : Body} → HearsOn b b
  Shuts : {b : Body} → HearsOn b Closed
  Reads : {a b : Body} → IsGoing a → IsUnkept b → HearsOn a b

-- One packet after the other, and between them it may start: what was kept of it is put then, as it was kept.
pub data GoesAlong : Body → Body → Type 0 where
  Ends : {b : Body} → GoesAlong b b
  Begins : {a b c : Body} → Starts a b → GoesAlong b c → GoesAlong a c
  Hears : {a b c : Body} → HearsOn a b → GoesAlong b c → GoesAlong a c

-- That of each application does so.
pub record AllAlong (old new : code.Relay) : Type 0 where
  pub along : (key : ℕ) → GoesAlong (body_of key old) (body_of key new)

-- ---- As the code has it

-- An application asks what it asked; or its request went on, and is done.
abbrev pub IsDoneWith : Option Application → Option Application → Type 0
IsDoneWith old new = (goes : Body) → (body_in new goes ≡ body_in old goes) ⊎ ((body_in old goes ≡ goes) × (body_in new goes ≡ Nowhere))

-- Each asks what it asked, or is to be closed; or its request went on, and is done.
abbrev pub MayBeDone : Slab Application → Slab Application → Type 0
MayBeDone old new =
    (key : ℕ) (goes : Body) → Spared (body_in (get old key) goes) (body_in (get new key) goes)
    ⊎ ((body_in (get old key) goes ≡ goes) × (body_in (get new key) goes ≡ Nowhere))

-- ---- Packet by packet

-- What is known of the message stays, or the next one begins, on each.
pub record MayBeginAny (old new : List Link) : Type 0 where
  pub begins : (number : ℕ) → MayBegin (answer_at number old) (answer_at number new)

-- The next message may begin, or what is known stays; or that stays.
abbrev pub BeginsIf : Bool → Option Answer → Option Answer → Type 0
BeginsIf true old new = MayBegin old new
BeginsIf false old new = StaysAt old new

pub record BeginAnyIf (may : Bool) (old new : List Link) : Type 0 where
  pub begins : (number : ℕ) → BeginsIf may (answer_at number old) (answer_at number new)

-- Whether this acknowledges what an application cancelled: then the next one of it may begin.
abbrev pub acknowledges_to : Option ℕ → What → Bool
acknowledges_to key what = is_some key && acknowledges what

abbrev pub acknowledged_in : Option Heard → Bool
acknowledged_in None = false
acknowledged_in (Some heard) = acknowledges_to heard.key heard.what

-- Each packet is handed on by what is known there, from before these steps to behind them: each one by what the one before has left.
abbrev pub AreSetAnew : Machine → List Step → Option Answer → Option Answer → Type 0
AreSetAnew h [] had now = StaysAt had now
AreSetAnew h (Hands number header content part way manner ∷ steps) had now =
    (from : Answer) × (next : Answer) × (behind : Option Answer) × StaysAt had (Some from) × PassesAs (owes_reset number h.core.pool) from header content part manner next
    × BeginsIf (acknowledges_to (whose h.core.pool number) (what_in (dones_of_part h.core.pool number part))) (Some next) behind × AreSetAnew (after h (Hands number header content part way manner)) steps behind now
AreSetAnew h (step ∷ steps) had now = AreSetAnew (after h step) steps had now

-- Bytes were heard up to these, and the packets among them handed on so.
pub record StreamsAnew (number : ℕ) (first : Option Answer) (had : Option Reading) (old : Machine) (from : services.Service) (bytes left : List ℕ) (last : Option Answer) (now : Option Reading) (new : Machine) (to : services.Service) : Type 0 where
  pub streams : ReadsPackets number had old from bytes left now new to
  pub anew : AreSetAnew old streams.steps first last

-- Whatever was heard before, these bytes are heard behind it so; and where this acknowledges something the next message may begin.
abbrev pub ContinuesAnew : ℕ → List ℕ → List ℕ → Option Heard → Option Answer → Option Reading → Option Answer → Option Reading → Machine → services.Service → Machine → services.Service → Type 0
ContinuesAnew number left rest heard had now has next f at g to =
    (first behind : Option Answer) (begun : Option Reading) (old : Machine) (from : services.Service) (bytes : List ℕ) → StreamsAnew number first begun old from bytes left had now f at
    → BeginsIf (acknowledged_in heard) has behind → StreamsAnew number first begun old from bytes rest behind next g to

-- Nobody held the connection of this number, and somebody does now; or who held it waits.
abbrev pub IsLentSince : ℕ → Core → Core → Type 0
IsLentSince number old new = ((holder old.pool number ≡ None) × IsSome (holder new.pool number)) ⊎ ((key : ℕ) × (holder old.pool number ≡ Some key) × (is_in key old.pool.line ≡ true))

-- What is known of the message stays; or it is lent since, and the next one may begin.
abbrev pub BeginsLent : ℕ → Core → Core → Option Answer → Option Answer → Type 0
BeginsLent number old new had now = StaysAt had now ⊎ (IsLentSince number old new × MayBegin had now)

-- In a call all of them are, and then those who wait are served: a message may begin anew there alone, where one is lent a connection.
pub record ComesAnew (number : ℕ) (bytes : List ℕ) (old new : code.Relay) : Type 0 where
  pub comes : BytesCome number (open_at number old.links.items) (machine_in old) old.pool.service bytes (open_at number new.links.items) (machine_in new) new.pool.service
  pub behind : Option Answer
  pub anew : AreSetAnew (machine_in old) comes.streams.streams.steps (answer_at number old.links.items) behind
  pub begins : IsReached (pool_in old.pool) → BeginsLent number comes.mid.core (core_in new) (if_open comes.left behind) (open_answer number new.links.items)

-- ---- What packets say of a request

-- What of it goes on is done; what waits stays.
abbrev pub done_with : Body → Body
done_with Closed = Closed
done_with Nowhere = Nowhere
done_with (Kept kind bytes whole) = Kept kind bytes whole
done_with Astray = Nowhere
done_with (Going number client waits) = Nowhere

abbrev pub done_unless : Bool → Body → Body
done_unless true b = b
done_unless false b = done_with b

-- By an acknowledgement it is done, unless that is of what its application had taken back before.
abbrev pub acknowledged_body : Option End → Body → Body
acknowledged_body None b = b
acknowledged_body (Some (Open front withdrawn asks)) b = done_unless withdrawn b
acknowledged_body (Some (Over why)) b = b

-- What becomes of it by a packet of which this came, that is told to this end: by one of its answer it goes on still, and by the last one it
-- is done. Where its connection is closed behind that, nothing becomes of it by the packet.
abbrev pub body_told : What → Option End → Body → Body
body_told whats.Goes end b = b
body_told whats.Finished end b = done_with b
body_told whats.Acknowledged end b = acknowledged_body end b
body_told whats.Closed end b = b

-- It asks what it asked, or that went on, and is done: just as its end is told.
abbrev pub IsDoneAs : What → Application → Application → Type 0
IsDoneAs what old new =
    IsDoneWith (Some old) (Some new) × ((goes : Body) → IsGoing goes → body_in (Some new) goes ≡ body_told what (Some (own_end old)) (body_in (Some old) goes))

-- what becomes so of that of this application, where it is the one that is told
abbrev pub body_heard : Option ℕ → What → ℕ → Option End → Body → Body
body_heard None what key end b = b
body_heard (Some who) what key end b = if who == key then body_told what end b else b

abbrev pub body_behind : Option Heard → ℕ → Option End → Body → Body
body_behind None key end b = b
body_behind (Some heard) key end b = body_heard heard.key heard.what key end b

-- It stays, or its application is to be closed; or it has waited, and goes on: it is this.
abbrev pub StaysOrGoes : Body → Body → Body → Type 0
StaysOrGoes goes old new = Spared old new ⊎ (IsKept old × (new ≡ goes))

-- that only where this is so
abbrev pub GoesIf : Bool → Body → Body → Body → Type 0
GoesIf true goes old new = StaysOrGoes goes old new
GoesIf false goes old new = Spared old new

-- what an application asks, where this is what goes on
abbrev pub asking_in : Slab Application → ℕ → Body → Body
asking_in s key goes = body_in (get s key) goes

-- Each asks what it asked, or is to be closed; or what has waited goes on.
pub record AskOrGo (old new : Slab Application) : Type 0 where
  pub ask : (key : ℕ) (goes : Body) → IsGoing goes → StaysOrGoes goes (asking_in old key goes) (asking_in new key goes)

-- Each asks what it asked, but for what its end is told; or is to be closed. What has waited may go on where this is so.
pub record AskAsTold (may : Bool) (heard : Option Heard) (ends : EndList) (old new : ℕ → Body → Body) : Type 0 where
  pub ask : (key : ℕ) (goes : Body) → IsGoing goes → GoesIf may goes (body_behind heard key (end_at ends key) (old key goes)) (new key goes)

-- What an application asks becomes what the packets of these steps say, one after the other, each told to its end as that is before it; or it
-- is to be closed. Behind one that acknowledges something, to whomever, what has waited may go on.
abbrev pub AreToldOn : ℕ → Body → Machine → List Step → Body → Body → Type 0
AreToldOn key goes h [] old new = Spared old new
AreToldOn key goes h (Hands number header content part way manner ∷ steps) old new =
    (from : Body) × (behind : Body) × Spared old from
    × GoesIf (acknowledges_to (whose h.core.pool number) (what_in (dones_of_part h.core.pool number part))) goes
    (body_heard (whose h.core.pool number) (what_in (dones_of_part h.core.pool number part)) key (end_at h.core.ends key) from) behind
    × AreToldOn key goes (after h (Hands number header content part way manner)) steps behind new
AreToldOn key goes h (step ∷ steps) old new = AreToldOn key goes (after h step) steps old new

-- Bytes were heard up to these, and each application asks what the packets among them say.
pub record StreamsTold (number : ℕ) (first : ℕ → Body → Body) (had : Option Reading) (old : Machine) (from : services.Service) (bytes left : List ℕ) (last : ℕ → Body → Body) (now : Option Reading) (new : Machine) (to : services.Service) : Type 0 where
  pub streams : ReadsPackets number had old from bytes left now new to
  pub told : (key : ℕ) (goes : Body) → IsGoing goes → AreToldOn key goes old streams.steps (first key goes) (last key goes)

-- Whatever was heard before, these bytes are heard behind it so, once that is done which came of them.
abbrev pub ContinuesTold : ℕ → List ℕ → List ℕ → Option Heard → Option Reading → Option Reading → Machine → services.Service → Machine → services.Service → Type 0
ContinuesTold number left rest heard now next f at g to =
    (first asks behind : ℕ → Body → Body) (begun : Option Reading) (old : Machine) (from : services.Service) (bytes : List ℕ) → StreamsTold number first begun old from bytes left asks now f at
    → AskAsTold (acknowledged_in heard) heard f.core.ends asks behind → StreamsTold number first begun old from bytes rest behind next g to

-- In a call all of them are, and then those who wait are served: by that what an application asks stays, or goes on where it has waited, or it is to be closed.
pub record ComesTold (number : ℕ) (bytes : List ℕ) (old new : code.Relay) : Type 0 where
  pub comes : BytesCome number (open_at number old.links.items) (machine_in old) old.pool.service bytes (open_at number new.links.items) (machine_in new) new.pool.service
  pub behind : ℕ → Body → Body
  pub told : (key : ℕ) (goes : Body) → IsGoing goes → AreToldOn key goes (machine_in old) comes.streams.streams.steps (asking_in old.applications key goes) (behind key goes)
  pub served : (key : ℕ) (goes : Body) → IsGoing goes → StaysOrGoes goes (behind key goes) (asking_in new.applications key goes)

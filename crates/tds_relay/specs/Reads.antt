-- What comes on connections: whole packets, one behind the other, and the beginning of one.
use Rattle.std.specs.Prelude.{◌≡◌, ◌≤◌, length, ◌≢◌, ◌⊎◌, ℕ, suc, ◌==◌, not, Bool, true, false, IfSome, List, [], ◌∷◌, ◌++◌, Option, Some, None, filter, option_map, if◌then◌else◌}
use Rattle.std.specs.List.{AllByRecursion}
use Rattle.tds_packet.specs.Layout.{header_bytes}
use Rattle.tds_packet.specs.Reading.{Reading, joined, with_taken}
use Rattle.tds_packet.specs.Stream.{IsLess, IsOnePacket}
use Rattle.tds_wire.specs.Reading as parsers
use Rattle.tds_service.specs.declared.service.Service as services
use Rattle.tds_relay.specs.declared.pool.coming.Heard.{Heard}
use Rattle.tds_relay.specs.declared.link.Answer.{Answer}
use Rattle.tds_relay.specs.declared.link.Link.{Link}
use Rattle.tds_relay.specs.Cutting.{at_its_beginning}
use Rattle.tds_relay.specs.Core.{Moves}
use Rattle.tds_relay.specs.Queues.{Queue, queue_in}
use Rattle.tds_relay.specs.Machine.{Machine, Step, Hands, CausesStep, MayAll, after_all}
use Rattle.tds_relay.specs.Promises.{Each}
use Rattle.tds_relay.specs.Ties.{Cause, Connection}
use Rattle.tds_relay.specs.TokenParsers.{AllStand, AreRead, Walks, stands_behind}

-- ---- Connections by their numbers

abbrev pub link_at : ℕ → List Link → Option Link
link_at number [] = None
link_at number (l ∷ ls) = if l.number == number then Some l else link_at number ls

-- where it is, the first one of these at this place
abbrev pub place_from : ℕ → ℕ → List Link → Option ℕ
place_from place number [] = None
place_from place number (l ∷ ls) =
    if l.number == number then Some place else place_from (suc place) number ls

abbrev pub place_of : ℕ → List Link → Option ℕ
place_of number ls = place_from 0 number ls

abbrev pub without_link : ℕ → List Link → List Link
without_link number ls = filter (λ (l : Link). not (l.number == number)) ls

abbrev pub reader_of : Link → Reading
reader_of l = l.reader

-- what has come of a packet there
abbrev pub reader_at : ℕ → List Link → Option Reading
reader_at number ls = option_map reader_of (link_at number ls)

-- with whether it is open, and what whoever carries its bytes calls it, once there is something
abbrev pub Seen : Type 0
Seen = Reading × Bool × Option ℕ

abbrev pub seen_of : Link → Seen
seen_of l = (l.reader, l.is_open, l.tag)

abbrev pub seen_at : ℕ → List Link → Option Seen
seen_at number ls = option_map seen_of (link_at number ls)

-- with what its reader has, where it is open
abbrev pub open_of : Option Seen → Option Reading
open_of None = None
open_of (Some seen) = if seen.1 then Some seen.0 else None

-- what has come of a packet there, where it is open
abbrev pub open_at : ℕ → List Link → Option Reading
open_at number ls = open_of (seen_at number ls)

-- what is known of the message that comes there
abbrev pub answer_on : Link → Answer
answer_on l = l.answer

abbrev pub answer_at : ℕ → List Link → Option Answer
answer_at number ls = option_map answer_on (link_at number ls)

-- what waits to be sent on the connection of this number, if that is there
abbrev pub bytes_on : Link → List ℕ
bytes_on l = (queue_in l.out).bytes

abbrev pub waits_on : ℕ → List Link → Option (List ℕ)
waits_on number ls = option_map bytes_on (link_at number ls)

-- with whether all fits that was put there
abbrev pub queue_on : ℕ → List Link → Option Queue
queue_on number ls = option_map (λ (l : Link). queue_in l.out) (link_at number ls)

-- and what is known of the message that comes there
abbrev pub Carried : Type 0
Carried = Queue × Answer

abbrev pub carried_by : Link → Carried
carried_by l = (queue_in l.out, l.answer)

abbrev pub carried_there : ℕ → List Link → Option Carried
carried_there number ls = option_map carried_by (link_at number ls)

-- how long its packets are, and whether something that was put there didn't fit
abbrev pub Fullness : Type 0
Fullness = ℕ × Bool

abbrev pub fullness_of : Link → Fullness
fullness_of l = ((queue_in l.out).size, (queue_in l.out).is_full)

abbrev pub fullness_at : ℕ → List Link → Option Fullness
fullness_at number ls = option_map fullness_of (link_at number ls)

-- if that is open
abbrev pub if_open : {A : Type 0} → Option Reading → Option A → Option A
if_open None o = None
if_open (Some r) o = o

abbrev pub open_waits : ℕ → List Link → Option (List ℕ)
open_waits number ls = if_open (open_at number ls) (waits_on number ls)

abbrev pub open_answer : ℕ → List Link → Option Answer
open_answer number ls = if_open (open_at number ls) (answer_at number ls)

abbrev pub open_fullness : ℕ → List Link → Option Fullness
open_fullness number ls = if_open (open_at number ls) (fullness_at number ls)

-- It waits there still, in order, and more may have been put behind it; or the connection is there
-- no more.
abbrev pub FillsAt : Option (List ℕ) → Option (List ℕ) → Type 0
FillsAt old None = Unit {0}
FillsAt None (Some new) = ⊥
FillsAt (Some old) (Some new) = (out : List ℕ) × (new ≡ old ++ out)

-- This was put behind it, once; or the connection is there no more.
abbrev pub FillsBy : List ℕ → Option (List ℕ) → Option (List ℕ) → Type 0
FillsBy out old None = Unit {0}
FillsBy out None (Some new) = ⊥
FillsBy out (Some old) (Some new) = new ≡ old ++ out

-- It is the same, or the connection is there no more.
abbrev pub StaysAt : {A : Type 0} → Option A → Option A → Type 0
StaysAt old None = Unit {0}
StaysAt old (Some new) = old ≡ Some new

-- What is known of the message stays, or the next one begins, for whatever reason; or the
-- connection is there no more.
abbrev pub MayBegin : Option Answer → Option Answer → Type 0
MayBegin old new = StaysAt old new ⊎ StaysAt (option_map at_its_beginning old) new

-- Another is there that is yet to be opened, and has no name.
abbrev pub IsToOpen : Seen → Type 0
IsToOpen seen = (seen.1 ≡ false) × (seen.2 ≡ None)

-- The connection is open or not, and is called so; or it is there no more, or another is.
abbrev pub IsCalled : Bool → Option ℕ → Option Seen → Type 0
IsCalled is_open tag None = Unit {0}
IsCalled is_open tag (Some seen) = ((seen.1 ≡ is_open) × (seen.2 ≡ tag)) ⊎ IsToOpen seen

-- It is called as it was.
abbrev pub CalledAt : Option Seen → Option Seen → Type 0
CalledAt None new = IsCalled false None new
CalledAt (Some old) new = IsCalled old.1 old.2 new

-- Wherever it was so on one, it is.
abbrev pub HoldsOnLinks : List Link → List Link → Type 0
HoldsOnLinks old new = (number : ℕ) (had : Option Seen) → StaysAt had (seen_at number old)
    → StaysAt had (seen_at number new)

-- And what waited on one waits there still, which is as full, and no more are there; what is known
-- of a message stays, or the next one begins.
pub record LinksStay (old new : List Link) : Type 0 where
  pub few : length new ≤ length old
  pub seen : HoldsOnLinks old new
  pub fills : (number : ℕ) → FillsAt (waits_on number old) (waits_on number new)
  pub begins : (number : ℕ) → MayBegin (answer_at number old) (answer_at number new)
  pub fullness : (number : ℕ) → StaysAt (fullness_at number old) (fullness_at number new)

-- No connection is full that wasn't, whether it is open or yet to be opened.
abbrev pub NoneFills : List Link → List Link → Type 0
NoneFills old new = (number size : ℕ) → fullness_at number new ≡ Some (size, true)
    → fullness_at number old ≡ Some (size, true)

-- Each connection that is open was so, with the same of a packet, and as full, and what waited
-- there waits still. Others may be there that are yet to be opened, and none is full that wasn't.
-- Each is called as it was. What is known of a message stays, or the next one begins.
pub record Opens (old new : List Link) : Type 0 where
  pub opens : (number : ℕ) → StaysAt (open_at number old) (open_at number new)
  pub fills : (number : ℕ) → FillsAt (open_waits number old) (open_waits number new)
  pub begins : (number : ℕ) → MayBegin (open_answer number old) (open_answer number new)
  pub fullness : (number : ℕ) → StaysAt (open_fullness number old) (open_fullness number new)
  pub full : NoneFills old new
  pub called : (number : ℕ) → CalledAt (seen_at number old) (seen_at number new)

-- Of the one of this number that it was open, how full it was, what waited there, and what it is
-- called, alone.
pub record OpensOthers (number : ℕ) (old new : List Link) : Type 0 where
  pub opens : (other : ℕ) → other ≢ number → StaysAt (open_at other old) (open_at other new)
  pub fills : (other : ℕ) → FillsAt (open_waits other old) (open_waits other new)
  pub begins : (other : ℕ) → other ≢ number
      → MayBegin (open_answer other old) (open_answer other new)
  pub fullness : (other : ℕ) → StaysAt (open_fullness other old) (open_fullness other new)
  pub full : NoneFills old new
  pub called : (other : ℕ) → CalledAt (seen_at other old) (seen_at other new)

-- what has come of a packet on each that is open when the one of this number is opened
abbrev pub opened_at : ℕ → ℕ → List Link → Option Reading
opened_at number other ls = if other == number then reader_at other ls else open_at other ls

-- with that it is
abbrev pub with_open : Seen → Seen
with_open seen = (seen.0, true, seen.2)

abbrev pub opened_seen : ℕ → ℕ → List Link → Option Seen
opened_seen number other ls =
    if other == number then option_map with_open (seen_at other ls) else seen_at other ls

-- and what is seen when that one is called so
abbrev pub with_tag : ℕ → Seen → Seen
with_tag tag seen = (seen.0, seen.1, Some tag)

abbrev pub named_seen : ℕ → ℕ → ℕ → List Link → Option Seen
named_seen tag number other ls =
    if other == number then option_map (with_tag tag) (seen_at other ls) else seen_at other ls

-- The one of this number is opened, with what its reader had, and what waited there, as full as it
-- was, and none is full that wasn't.
pub record OpensOne (number : ℕ) (old new : List Link) : Type 0 where
  pub opens : (other : ℕ) → StaysAt (opened_at number other old) (open_at other new)
  pub fills : (other : ℕ)
      → FillsAt (if_open (opened_at number other old) (waits_on other old)) (open_waits other new)
  pub begins : (other : ℕ)
      → MayBegin (if_open (opened_at number other old) (answer_at other old))
      (open_answer other new)
  pub fullness : (other : ℕ)
      → StaysAt (if_open (opened_at number other old) (fullness_at other old))
      (open_fullness other new)
  pub full : NoneFills old new
  pub called : (other : ℕ) → CalledAt (opened_seen number other old) (seen_at other new)

-- One has come that is open, with nothing of a packet, no other is open, and none is full; or none
-- has.
abbrev pub OpensFirst : Option ℕ → List Link → List Link → Type 0
OpensFirst None old new = new ≡ old
OpensFirst (Some number) old new = (other : ℕ)
    → IfSome (open_at other new) (λ r. (other ≡ number) × (r.taken ≡ []))
    × IfSome (fullness_at other new) (λ f. f.1 ≡ false)

-- ---- Packets that are handed on

-- those that come by steps, as they came, also those that are withheld
abbrev pub packets_in_steps : List Step → List (List ℕ)
packets_in_steps [] = []
packets_in_steps (Hands number header content part way manner ∷ steps) =
    (header_bytes header ++ content) ∷ packets_in_steps steps
packets_in_steps (step ∷ steps) = packets_in_steps steps

-- What stands behind them is less than one, and the reader has it; or the connection is lost.
abbrev pub Holds : Reading → List ℕ → Option Reading → Type 0
Holds r rest None = Unit {0}
Holds r rest (Some now) = (now ≡ with_taken r rest) × IsLess r rest

-- What the reader had, and these bytes behind it, are these packets and what stands behind them.
pub record ReaderTakes (r : Reading) (bytes : List ℕ) (packets : List (List ℕ))
    (now : Option Reading) : Type 0 where
  pub rest : List ℕ
  pub each : AllByRecursion (IsOnePacket r) packets
  pub are : r.taken ++ bytes ≡ joined packets ++ rest
  pub holds : Holds r rest now

-- On a connection that isn't open nothing comes. A reader that has less than a packet has so behind
-- each call.
abbrev pub ReadsBy : Option Reading → List ℕ → List (List ℕ) → Option Reading → Type 0
ReadsBy None bytes packets now = (packets ≡ []) × (now ≡ None)
ReadsBy (Some r) bytes packets now = IsLess r r.taken → ReaderTakes r bytes packets now

-- ---- In a call

-- These bytes were heard, up to these: the packets among them come, in order, by steps that this
-- connection causes. Each is read from where the one before has left its connection's parser.
pub record ReadsPackets (number : ℕ) (had : Option Reading) (old : Machine)
    (from : services.Service) (bytes left : List ℕ) (now : Option Reading) (new : Machine)
    (to : services.Service) : Type 0 where
  pub steps : List Step
  pub heard : List ℕ
  pub are : after_all old steps ≡ new
  pub may : MayAll old steps
  pub caused : Each (CausesStep (Connection number)) steps
  pub bytes_are : bytes ≡ heard ++ left
  pub reads : ReadsBy had heard (packets_in_steps steps) now
  pub walks : Walks from old steps to

-- Behind each call less than a packet is there, where the connection is open.
abbrev pub IsLessAt : Option Reading → Type 0
IsLessAt None = Unit {0}
IsLessAt (Some r) = IsLess r r.taken

-- All of them; also where the connection is lost among them, whose bytes are nothing from there on.
pub record StreamsAll (number : ℕ) (had : Option Reading) (old : Machine) (from : services.Service)
    (bytes : List ℕ) (now : Option Reading) (new : Machine) (to : services.Service) : Type 0 where
  pub left : List ℕ
  pub streams : ReadsPackets number had old from bytes left now new to
  pub all : left ≡ []

-- A header that no packet has loses its connection.
abbrev pub if_heard : Option Heard → Option Reading → Option Reading
if_heard None now = None
if_heard (Some heard) now = now

-- Bytes that come are heard, and then those who wait are served, by which nothing comes: the
-- connection has just what was left of them, or isn't open.
pub record BytesCome (number : ℕ) (had : Option Reading) (old : Machine) (from : services.Service)
    (bytes : List ℕ) (now : Option Reading) (new : Machine) (to : services.Service) : Type 0 where
  pub mid : Machine
  pub left : Option Reading
  pub at : services.Service
  pub streams : StreamsAll number had old from bytes left mid at
  pub goes_on : (by : Cause) → Moves by mid.core new.core
  pub kept : new.queues ≡ mid.queues
  pub has : StaysAt left now
  pub stand : AllStand at to

-- ---- Over calls

-- What a call says of the connection of a number, which is open before it and behind it: from what
-- its reader had to what it has, and from where its parser stood to where it stands. Bytes come on
-- the connection; or it is left so by another call.
pub data CallOn (number : ℕ) : Type 0 where
  Came : (had now : Reading) (bytes : List ℕ) (old new : Machine) (from to : services.Service)
      → BytesCome number (Some had) old from bytes (Some now) new to → CallOn number
  Another : (had now : Reading) (from to : services.Service) → StaysAt (Some had) (Some now)
      → AllStand from to → CallOn number

abbrev pub had_before : {number : ℕ} → CallOn number → Reading
had_before (Came had now bytes old new from to comes) = had
had_before (Another had now from to stays stand) = had

abbrev pub has_behind : {number : ℕ} → CallOn number → Reading
has_behind (Came had now bytes old new from to comes) = now
has_behind (Another had now from to stays stand) = now

-- They follow each other, from this reader to this one.
abbrev pub Follow : {number : ℕ} → Reading → List (CallOn number) → Reading → Type 0
Follow had [] now = had ≡ now
Follow had (call ∷ calls) now = (had ≡ had_before call) × Follow (has_behind call) calls now

-- the bytes that come in them
abbrev pub bytes_in : {number : ℕ} → List (CallOn number) → List ℕ
bytes_in [] = []
bytes_in (Came had now bytes old new from to comes ∷ calls) = bytes ++ bytes_in calls
bytes_in (Another had now from to stays stand ∷ calls) = bytes_in calls

-- the packets that come by their steps
abbrev pub packets_in : {number : ℕ} → List (CallOn number) → List (List ℕ)
packets_in [] = []
packets_in (Came had now bytes old new from to comes ∷ calls) =
    packets_in_steps comes.streams.streams.steps ++ packets_in calls
packets_in (Another had now from to stays stand ∷ calls) = packets_in calls

-- They follow each other from this service to this one.
abbrev pub FollowAt : {number : ℕ} → services.Service → List (CallOn number) → services.Service
    → Type 0
FollowAt from [] to = from ≡ to
FollowAt from (Came had now bytes old new before behind comes ∷ calls) to =
    (from ≡ before) × FollowAt behind calls to
FollowAt from (Another had now before behind stays stand ∷ calls) to =
    (from ≡ before) × FollowAt behind calls to

-- where the connection's parser stands behind them
abbrev pub stands_in : {number : ℕ} → parsers.Parser → List (CallOn number) → parsers.Parser
stands_in r [] = r
stands_in {number} r (Came had now bytes old new from to comes ∷ calls) =
    stands_in (stands_behind number r old comes.streams.streams.steps) calls
stands_in r (Another had now from to stays stand ∷ calls) = stands_in r calls

-- Each packet in them is read from where the one before has left it.
abbrev pub AreReadIn : {number : ℕ} → parsers.Parser → List (CallOn number) → Type 0
AreReadIn r [] = Unit {0}
AreReadIn {number} r (Came had now bytes old new from to comes ∷ calls) =
    AreRead number r old comes.streams.streams.steps
    × AreReadIn (stands_behind number r old comes.streams.streams.steps) calls
AreReadIn r (Another had now from to stays stand ∷ calls) = AreReadIn r calls

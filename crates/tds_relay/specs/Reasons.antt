-- Why an application is closed by what it says, and by what comes on a connection.
use Rattle.std.specs.Prelude.{◌≡◌, ◌≢◌, ◌⊎◌, ◌<◌, ℕ, Bool, true, false, List, [], ◌++◌, length, take, IsSome, Option, Some, None, Result, Ok, Err, option_map}
use Rattle.slab.specs.Slab.{get}
use Rattle.tds_packet.specs.declared.kind.Kind.{Kind}
use Rattle.tds_packet.specs.declared.status.Reset.{Reset}
use Rattle.tds_packet.specs.declared.status.Reset.TheVariants.{Full, KeepTransaction}
use Rattle.tds_wire.specs.declared.told.Token.{Token}
use Rattle.tds_front.specs.declared.fault.FrontFault.{FrontFault}
use Rattle.tds_front.specs.declared.front.Fed.{Fed}
use Rattle.tds_front.specs.declared.front.Front.{Front}
use Rattle.tds_front.specs.declared.front.Said.{Said}
use Rattle.tds_front.specs.declared.front.Said.TheVariants as said
use Rattle.tds_front.specs.declared.stage.Stage.{Stage}
use Rattle.tds_front.specs.declared.stage.Stage.TheVariants as stages
use Rattle.tds_front.specs.Bytes.{fed}
use Rattle.tds_service.specs.declared.refusal.Refusal.{Refusal}
use Rattle.tds_service.specs.declared.refusal.Refusal.TheVariants as refusals
use Rattle.tds_service.specs.Service as calls
use Rattle.tds_service.specs.Service.{Call}
use Rattle.tds_service.specs.Table.{Answers, BeginsMessage, Denies, reading_on, service_in}
use Rattle.tds_client.specs.declared.message.MessageKind.{MessageKind}
use Rattle.tds_client.specs.Streams.{packets_are}
use Rattle.tds_client.specs.declared.state.Cancelled.{Cancelled}
use Rattle.tds_client.specs.declared.state.Cancelled.TheVariants.{Asked}
use Rattle.tds_service.specs.Ties.{cancel_answer}
use Rattle.tds_relay.specs.declared.application.Application.{Application}
use Rattle.tds_relay.specs.declared.pool.Pool as pools
use Rattle.tds_relay.specs.declared.pool.Hold.{Hold}
use Rattle.tds_relay.specs.declared.pool.coming.Heard.{Heard}
use Rattle.tds_relay.specs.declared.pool.coming.What.{What}
use Rattle.tds_relay.specs.declared.pool.coming.What.TheVariants as whats
use Rattle.tds_relay.specs.declared.link.Link.{Link}
use Rattle.tds_relay.specs.declared.relay.Relay as code
use Rattle.tds_relay.specs.Anew.{ResetsFor}
use Rattle.tds_relay.specs.Asking.{IsTakenBack}
use Rattle.tds_relay.specs.Bodies.{Astray, Body, ClientPuts, ClientStops, Closed, Kept, Nowhere, body_of, last_of}
use Rattle.tds_relay.specs.Cleaning.{MayClean}
use Rattle.tds_relay.specs.Closings.{IsNoRequest, IsWho}
use Rattle.tds_relay.specs.Pool as pool
use Rattle.tds_relay.specs.Pool.{Pool, find_key, turn}
use Rattle.tds_relay.specs.Fronts.{ends_in, machine_in}
use Rattle.tds_relay.specs.Core.{AsksFor, End, EndList, IfOpen, IfOpenAsks, Open, asks_by, end_at, holder}
use Rattle.tds_relay.specs.Handing.{HearsBy, IsNothing}
use Rattle.tds_relay.specs.Machine.{Machine}
use Rattle.tds_relay.specs.Places.{HasNoTransaction, open_on}
use Rattle.tds_relay.specs.Queues.{Queue, Queues, acknowledgement, fits, give, queue_at, queue_in, queues_in}
use Rattle.tds_relay.specs.Reads.{link_at, open_at}
use Rattle.tds_relay.specs.Sparing.{IsKept, MayKeep}
use Rattle.tds_relay.specs.Taking.{IsDeaf}
use Rattle.tds_relay.specs.Ties.{Leaving, Turns, pool_in}
use Rattle.tds_relay.specs.Told.{room_to_keep}

-- ---- Bytes of a request aren't put on the connection that its application holds

-- want of memory is none: that is handed up
abbrev pub IsReason : Refusal → Type 0
IsReason refusals.Memory = ⊥
IsReason _ = Unit {0}

-- The application holds a connection, and what the service does by this call it refuses of that.
pub record RefusesThere (call : ℕ → ℕ → Call Token) (key : ℕ) (d : pools.Pool) : Type 0 where
  pub hold : Hold
  pub its : find_key key d.holds.items ≡ Some hold
  pub refusal : Refusal
  pub reason : IsReason refusal
  pub refuses : (count : ℕ) → Denies (call hold.lease count) (service_in d.service) refusal

-- It holds none.
abbrev pub IsUnheld : ℕ → pools.Pool → Type 0
IsUnheld key d = find_key key d.holds.items ≡ None

-- These bytes are refused; or they are taken, and the end of their message is refused.
pub data IsUntaken (whole : Bool) (more : List ℕ) (key : ℕ) (d : pools.Pool) : Type 0 where
  OfBytes : RefusesThere calls.Put key d → IsUntaken whole more key d
  OfEnd : whole ≡ true → (mid : pools.Pool) (before after : List ℕ)
      → ClientPuts false more key d mid before after → RefusesThere calls.Finish key mid
      → IsUntaken whole more key d

-- No request has begun, or all of it is to be put and hasn't come.
abbrev pub IsUnbegun : Bool → Stage → Type 0
IsUnbegun whole (stages.Receiving kind gone) = whole ≡ true
IsUnbegun whole (stages.Underway gone) = ⊥
IsUnbegun whole _ = Unit {0}

-- More would wait there behind these than may.
abbrev pub HasNoRoom : ℕ → List ℕ → List Link → Type 0
HasNoRoom number bytes links =
    option_map (λ (l : Link). fits (queue_in l.out) bytes) (link_at number links) ≡ Some false

pub data CannotPut (whole : Bool) (more : List ℕ) (key : ℕ) (end : Option End) (d : pools.Pool)
    (links : List Link) : Type 0 where
  Unheld : IsUnheld key d → CannotPut whole more key end d links
  Unbegun : IfOpen (IsUnbegun whole) end → CannotPut whole more key end d links
  Untaken : IsUntaken whole more key d → CannotPut whole more key end d links
  -- its client puts them, and what goes out by that doesn't fit
  Unfit : (mid : pools.Pool) (out : List ℕ) (puts : ClientPuts whole more key d mid [] out)
      → HasNoRoom puts.hold.number out links → CannotPut whole more key end d links

-- ---- A request that waits isn't asked on the connection that its application holds

-- This is open, and what its application took back is acknowledged.
pub record IsReadyThere (key : ℕ) (end : Option End) (d : pools.Pool) (links : List Link) : Type 0
  where
    pub hold : Hold
    pub its : find_key key d.holds.items ≡ Some hold
    pub open_there : IsSome (open_at hold.number links)
    pub drained : ¬ IsTakenBack end

-- That is refused; or it is asked, and what was kept of it isn't put.
pub data CannotAsk (kind : MessageKind) (bytes : List ℕ) (whole : Bool) (key : ℕ) (end : Option End)
    (d : pools.Pool) (links : List Link) : Type 0 where
  Unasked : RefusesThere (λ lease count. calls.Ask lease) key d
      → CannotAsk kind bytes whole key end d links
  Unput : (hold : Hold) → find_key key d.holds.items ≡ Some hold → (mid : pools.Pool)
      → Turns (pool.Does key pool.Asks) (pool_in d) (pool_in mid) [] []
      → BeginsMessage kind hold.lease d.service mid.service
      → CannotPut whole bytes key end mid links → CannotAsk kind bytes whole key end d links

-- That is ready for it, and it isn't asked there.
abbrev pub CannotStart : ℕ → Option End → pools.Pool → List Link → Body → Type 0
CannotStart key end d links (Kept kind bytes whole) =
    IsReadyThere key end d links × CannotAsk kind bytes whole key end d links
CannotStart key end d links _ = ⊥

-- with what a relay has
abbrev pub CannotStartAt : ℕ → code.Relay → Type 0
CannotStartAt key r =
    CannotStart key (end_at (ends_in r.applications) key) r.pool r.links.items (body_of key r)

-- Or it is ready, and none has begun, to which no call leads; or the reset that the request asks
-- for isn't done with it there.
pub data IsTurnedAway (key : ℕ) (end : Option End) (d : pools.Pool) (links : List Link)
    (body : Body) : Type 0 where
  Unstarted : CannotStart key end d links body → IsTurnedAway key end d links body
  NoneBegun : IsKept body → IsReadyThere key end d links → IfOpen (IsUnbegun false) end
      → IsTurnedAway key end d links body
  Unreset : IsKept body → (ready : IsReadyThere key end d links)
      → IfOpenAsks (λ asks. ¬ ResetsFor asks (Some ready.hold) (pool_in d)) end
      → IsTurnedAway key end d links body

abbrev pub IsTurnedAwayAt : ℕ → code.Relay → Type 0
IsTurnedAwayAt key r =
    IsTurnedAway key (end_at (ends_in r.applications) key) r.pool r.links.items (body_of key r)

-- ---- They can't go on

-- so much more may be kept of its request
abbrev pub room_left : Option Application → ℕ
room_left None = 0
room_left (Some a) = room_to_keep a

-- They are more than may be kept of a request that waits; or none has begun; or with them it is
-- turned away from the connection that its application holds.
abbrev pub CannotGoOn : Bool → List ℕ → ℕ → Option End → ℕ → pools.Pool → List Link → Body → Type 0
CannotGoOn whole more key end room d links Closed = Unit {0}
CannotGoOn whole more key end room d links Nowhere = Unit {0}
CannotGoOn whole more key end room d links (Kept kind bytes was) =
    (room < length more) ⊎ (IfOpen (IsUnbegun false) end
    ⊎ IsTurnedAway key end d links (Kept kind (bytes ++ more) whole))
CannotGoOn whole more key end room d links _ = CannotPut whole more key end d links

-- with what a relay has
abbrev pub CannotGoOnAt : Bool → List ℕ → ℕ → code.Relay → Type 0
CannotGoOnAt whole more key r =
    CannotGoOn whole more key (end_at (ends_in r.applications) key)
    (room_left (get r.applications key)) r.pool r.links.items (body_of key r)

-- ---- A request can't begin

-- Something of a request has gone on, or an attention.
abbrev pub HasGoneOut : Stage → Type 0
HasGoneOut stages.Quiet = ⊥
HasGoneOut (stages.Receiving kind gone) = gone ≡ true
HasGoneOut (stages.Underway gone) = gone ≡ true
HasGoneOut _ = Unit {0}

-- An application isn't parted from its connection: something is out there, or it has one still
-- behind letting it go.
pub data CannotPart (key : ℕ) (end : Option End) (d : pools.Pool) : Type 0 where
  Out : IfOpen HasGoneOut end → CannotPart key end d
  Held : (mid : pools.Pool) → Leaving key (pool_in d) (pool_in mid)
      → IsSome (find_key key mid.holds.items) → CannotPart key end d

-- A transaction is open on the connection that it holds.
abbrev pub HasTransaction : Pool → ℕ → Type 0
HasTransaction d key =
    (hold : Hold) × (find_key key d.holds ≡ Some hold) × (open_on d hold.number ≡ Some true)

-- What it holds isn't lent to it by another lease, and has to stay; or it is lent so, and turns its
-- request away.
pub data IsUnrenewed (Stays : Type 0) (key : ℕ) (end : Option End) (d : pools.Pool)
    (links : List Link) (body : Body) : Type 0 where
  Unkept : (turn (pool_in d) (pool.Renews key true)).pool ≡ pool_in d → Stays
      → IsUnrenewed Stays key end d links body
  Unserved : (mid : pools.Pool) → MayKeep (pool_in d) key
      → pool_in mid ≡ (turn (pool_in d) (pool.Renews key true)).pool
      → IsTurnedAway key end mid links body → IsUnrenewed Stays key end d links body

-- Packets of its type are no request. Or it isn't asked on the connection that its application
-- holds; or one that is to keep its transaction doesn't: this is open still, and the
-- acknowledgement of what was taken back isn't what it waits for; or it isn't parted from it. That
-- is so of one that asks for a full reset too, but no call leads to it: who begins has nothing out,
-- and holds none behind letting it go.
abbrev pub CannotBegin : Kind → Option Reset → ℕ → Option End → pools.Pool → List Link → Type 0
CannotBegin kind None key end d links =
    IsNoRequest kind
    ⊎ (IsReadyThere key end d links × (message : MessageKind) × (packets_are message ≡ kind)
    × CannotAsk message [] false key end d links)
CannotBegin kind (Some KeepTransaction) key end d links =
    IsNoRequest kind
    ⊎ (IsSome (find_key key d.holds.items) × (IsTakenBack end → HasNoTransaction (pool_in d) key)
    × (message : MessageKind) × (packets_are message ≡ kind)
    × IsUnrenewed (HasTransaction (pool_in d) key ⊎ CannotPart key end d) key end d links
    (Kept message [] false))
CannotBegin kind (Some Full) key end d links = IsNoRequest kind ⊎ CannotPart key end d

-- It can't be taken back: the service refuses to cancel it.
abbrev pub IsUncancelled : ℕ → pools.Pool → Type 0
IsUncancelled key d = RefusesThere (λ lease count. calls.Cancel lease) key d

-- No attention goes out by its cancel.
pub record StopsNothing (key : ℕ) (d : pools.Pool) : Type 0 where
  pub hold : Hold
  pub its : find_key key d.holds.items ≡ Some hold
  pub request : ℕ
  pub how : Cancelled
  pub answers : Answers (calls.Cancel hold.lease) (service_in d.service) (cancel_answer request how)
  pub not_asked : how ≢ Asked

-- What goes out by it doesn't fit.
pub record StopsUnfit (key : ℕ) (d : pools.Pool) (links : List Link) : Type 0 where
  pub mid : pools.Pool
  pub out : List ℕ
  pub stops : ClientStops key d mid [] out
  pub no_room : HasNoRoom stops.hold.number out links

abbrev pub IsUnstopped : ℕ → pools.Pool → Type 0
IsUnstopped key d = IsUnheld key d ⊎ (IsUncancelled key d ⊎ StopsNothing key d)

abbrev pub CannotStop : ℕ → pools.Pool → List Link → Type 0
CannotStop key d links = IsUnstopped key d ⊎ StopsUnfit key d links

-- one that is forgotten here alone: nothing of it may have gone out
abbrev pub CannotUnask : ℕ → Option End → pools.Pool → List Link → Type 0
CannotUnask key end d links = IfOpen HasGoneOut end ⊎ (IsUncancelled key d ⊎ StopsUnfit key d links)

-- so where its application waits no more
pub record WaitsNoMore (Cannot : pools.Pool → Type 0) (d : pools.Pool) : Type 0 where
  pub mid : pools.Pool
  pub holds : mid.holds ≡ d.holds
  pub service : mid.service ≡ d.service
  pub cannot : Cannot mid

-- It is said to go on, and its application holds no connection; or this is to be closed.
abbrev pub IsAstray : Body → Type 0
IsAstray Closed = Unit {0}
IsAstray Astray = Unit {0}
IsAstray _ = ⊥

-- of which something has gone on or not
abbrev pub CannotForget : Bool → ℕ → Option End → pools.Pool → List Link → Body → Type 0
CannotForget false key end d links body =
    IsAstray body ⊎ WaitsNoMore (λ mid. CannotUnask key end mid links) d
CannotForget true key end d links body = WaitsNoMore (λ mid. CannotStop key mid links) d

-- More would wait for it than may.
abbrev pub IsOverfull : Option Queue → Type 0
IsOverfull queue = option_map (λ (p : Queue). p.is_full) queue ≡ Some true

-- By what an application says: a request can't begin, its bytes can't go on, or it can't be taken
-- back; by what says nothing nobody is closed.
abbrev pub MayClose : Said → List ℕ → ℕ → Option End → ℕ → pools.Pool → List Link → Queues → Body
    → Type 0
MayClose said.Nothing taken key end room d links queues body = ⊥
MayClose (said.Begin kind reset) taken key end room d links queues body =
    CannotBegin kind reset key end d links
MayClose (said.Body count) taken key end room d links queues body =
    CannotGoOn false (last_of count taken) key end room d links body
MayClose (said.End count) taken key end room d links queues body =
    CannotGoOn true (last_of count taken) key end room d links body
MayClose (said.Forget gone) taken key end room d links queues body =
    CannotForget gone key end d links body
MayClose said.Acknowledge taken key end room d links queues body =
    CannotForget false key end d links body
    ⊎ IsOverfull (queue_at (give key acknowledgement queues) key)
MayClose said.HandOn taken key end room d links queues body = CannotStop key d links

-- with what a relay has; this is its end
abbrev pub MayCloseAt : Said → List ℕ → ℕ → Option End → code.Relay → Type 0
MayCloseAt answer taken key end r =
    MayClose answer taken key end (room_left (get r.applications key)) r.pool r.links.items
    (queues_in r.applications) (body_of key r)

abbrev pub ReasonWith : List ℕ → ℕ → code.Relay → Front → Bool → Option Reset
    → Result Fed FrontFault → Type 0
ReasonWith bytes key r front withdrawn asks (Ok taken) =
    MayCloseAt taken.said (take taken.count bytes) key
    (Some (Open front withdrawn (asks_by taken.said asks))) r
ReasonWith bytes key r front withdrawn asks (Err fault) = Unit {0}

abbrev pub ReasonBy : List ℕ → ℕ → code.Relay → Option End → Type 0
ReasonBy bytes key r (Some (Open front withdrawn asks)) =
    ReasonWith bytes key r (fed front bytes).front withdrawn asks (fed front bytes).brings
ReasonBy bytes key r _ = ⊥

-- The first piece of these breaks the rules; or what is asked by it can't be done.
abbrev pub GivesReason : List ℕ → ℕ → code.Relay → Type 0
GivesReason bytes key r = ReasonBy bytes key r (end_at (ends_in r.applications) key)

-- Whom it may close: this one, for that.
abbrev pub ItselfFor : ℕ → Type 0 → ℕ → Type 0
ItselfFor key Reason other = (other ≡ key) × Reason

-- ---- By what is heard of a packet

-- What this application took back is acknowledged, unless it is to be closed.
abbrev pub HasTakenBack : Option ℕ → EndList → Type 0
HasTakenBack key ends = (whose : ℕ) × (key ≡ Some whose)
    × (IsTakenBack (end_at ends whose) ⊎ IsDeaf (end_at ends whose))

-- Whoever is handed it is closed where more would wait for it than may, or its connection is closed
-- for what the server said there.
abbrev pub LosesBy : What → Option ℕ → EndList → Queues → ℕ → Type 0
LosesBy whats.Closed key ends queues other = key ≡ Some other
LosesBy _ key ends queues other = (key ≡ Some other) × IsOverfull (queue_at queues other)

-- It isn't parted from its connection, and stays: something is out there, or none has begun; or a
-- transaction is open, or it isn't one that asks to keep that.
abbrev pub CannotMove : ℕ → Option End → Pool → Type 0
CannotMove key end d = (IfOpen HasGoneOut end ⊎ IfOpen (IsUnbegun false) end)
    ⊎ (HasTransaction d key ⊎ (¬ AsksFor KeepTransaction end))

-- What it asks next is turned away; or is to keep its transaction, and doesn't.
abbrev pub CannotResume : ℕ → Option End → pools.Pool → List Link → Body → Type 0
CannotResume key end d links body =
    ((¬ AsksFor KeepTransaction end) × IsTurnedAway key end d links body)
    ⊎ (AsksFor KeepTransaction end
    × IsUnrenewed (CannotMove key end (pool_in d)) key end d links body)

-- This one was told so, and what it asks doesn't go on. Or it holds none, or another holds the
-- connection of this number: to these no call leads.
abbrev pub ResumesNot : ℕ → Option ℕ → EndList → pools.Pool → List Link → Body → ℕ → Type 0
ResumesNot number key ends d links body other =
    ((key ≡ Some other) × (IsUnheld other d ⊎ CannotResume other (end_at ends other) d links body))
    ⊎ ((key ≢ Some other) × IsWho (holder (pool_in d) number) other)

abbrev pub ResumesNotAt : ℕ → ℕ → code.Relay → ℕ → Type 0
ResumesNotAt number key r other =
    ResumesNot number (Some key) (ends_in r.applications) r.pool r.links.items (body_of other r)
    other

-- So is who holds it, where a header isn't one.
abbrev pub LosesFor : ℕ → Option Heard → Pool → EndList → Queues → ℕ → Type 0
LosesFor number None d ends queues other = IsWho (holder d number) other
LosesFor number (Some heard) d ends queues other = LosesBy heard.what heard.key ends queues other

-- The connection stays.
abbrev pub IsLeftOpen : Option Heard → Type 0
IsLeftOpen None = ⊥
IsLeftOpen (Some heard) = heard.what ≢ whats.Closed

-- What goes out there by it is nothing then, or a cleaning of what is nobody's.
abbrev pub Cleans : Option ℕ → Option Heard → List ℕ → List ℕ → Type 0
Cleans who heard before after = IsLeftOpen heard → MayClean who before after

-- ---- By bytes that come

-- These bytes of a connection that is open are heard so, up to the end of a packet: by its reader,
-- and by the service.
pub record IsHeardAs (number : ℕ) (left : List ℕ) (heard : Option Heard) (r : code.Relay)
    (new : Machine) : Type 0 where
  pub link : Link
  pub there : link_at number r.links.items ≡ Some link
  pub is_open : link.is_open ≡ true
  pub next : Link
  pub count : ℕ
  pub hears : HearsBy number (reading_on number r.pool.service) link next left count heard
      (machine_in r) new

-- Nothing was.
abbrev pub HearsNothing : Option Heard → Type 0
HearsNothing None = ⊥
HearsNothing (Some heard) = IsNothing heard

-- The pool is as it was, and has nothing to send.
abbrev pub IsIdle : code.Relay → code.Relay → Type 0
IsIdle old new = (new.pool ≡ old.pool) × (new.outbox.items ≡ [])

-- It closes this one; or behind what it took back its next request doesn't go on.
pub data LosesOn (number : ℕ) (left : List ℕ) (r : code.Relay) (other : ℕ) : Type 0 where
  OfPacket : (heard : Option Heard) (new : Machine) → IsHeardAs number left heard r new
      → LosesFor number heard (pool_in r.pool) (ends_in r.applications) new.queues other
      → LosesOn number left r other
  OfResuming : (heard : Heard) (new : Machine) → IsHeardAs number left (Some heard) r new
      → heard.what ≡ whats.Acknowledged → HasTakenBack heard.key (ends_in r.applications)
      → (d : pools.Pool) → pool_in d ≡ new.core.pool
      → ResumesNot number heard.key new.core.ends d r.links.items (body_of other r) other
      → LosesOn number left r other

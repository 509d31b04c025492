-- Who holds which connection, and the ends of applications: how they move together, move by move.
-- One total function.
use Rattle.std.specs.Prelude.{◌≡◌, ◌≢◌, ◌⊎◌, ℕ, ◌==◌, ◌&&◌, ◌||◌, Bool, true, false, List, [], ◌∷◌, Option, Some, None, Result, Ok, Err, if◌then◌else◌, option_map, slice_index_or, slice_set}
use Rattle.tds_packet.specs.declared.status.Reset.{Reset}
use Rattle.tds_packet.specs.declared.status.Reset.TheVariants.{Full, KeepTransaction}
use Rattle.tds_front.specs.declared.fault.FrontFault.{FrontFault}
use Rattle.tds_front.specs.declared.front.Fed.{Fed}
use Rattle.tds_front.specs.declared.front.Front.{Front}
use Rattle.tds_front.specs.declared.front.Said.{Said}
use Rattle.tds_front.specs.declared.front.Said.TheVariants as said
use Rattle.tds_front.specs.declared.stage.Stage.{Stage}
use Rattle.tds_front.specs.declared.stage.Stage.TheVariants as stages
use Rattle.tds_front.specs.Bytes.{fed, new_front}
use Rattle.tds_front.specs.Rules as rules
use Rattle.tds_wire.specs.declared.told.Token.{Token}
use Rattle.tds_service.specs.History.{Done}
use Rattle.tds_service.specs.Line as line
use Rattle.tds_service.specs.Line.{Answer, Packet}
use Rattle.tds_service.specs.Parts.{Part}
use Rattle.tds_service.specs.Service as calls
use Rattle.tds_service.specs.Service.{step}
use Rattle.tds_relay.specs.declared.pool.coming.What.{What}
use Rattle.tds_relay.specs.declared.pool.coming.What.TheVariants as whats
use Rattle.tds_relay.specs.Pool as pool
use Rattle.tds_relay.specs.Pool.{Pool, Action, Event, Sharing, Way, pool_after, find_key, find_number, key_of, new_pool, turn, whose}
use Rattle.tds_relay.specs.Anew.{AsksNothing, ResetsFor, WhereAsked}
use Rattle.tds_relay.specs.Places.{HasNoTransaction, HoldsOne, holds_clean, is_by_transactions, is_done_with}
use Rattle.tds_relay.specs.Promises.{Each}
use Rattle.tds_relay.specs.Ties as causes
use Rattle.tds_relay.specs.Ties.{Cause, Causes, sent_along}

-- ---- The ends of all applications, by their keys

pub data End : Type 0 where
  -- its application is taken from, and told. It may have taken back its request, of which something
  -- had gone on: then it has nothing to do with its connection until the server's acknowledgement
  -- of that. And its request may ask for a reset, full or not, of which it hasn't been told yet
  Open : (front : Front) (withdrawn : Bool) (asks : Option Reset) → End
  -- nothing more is taken of it, and it is to be closed: for this, where it did what the protocol
  -- doesn't allow
  Over : (why : Option FrontFault) → End

abbrev pub EndList : Type 0
EndList = List (Option End)

abbrev pub end_at : EndList → ℕ → Option End
end_at ends key = slice_index_or ends key None

-- that of one application changes so, if there is this application
abbrev pub change_end : ℕ → (End → End) → EndList → EndList
change_end key by ends = slice_set ends key (option_map by (end_at ends key))

abbrev pub change_whose : Option ℕ → (End → End) → EndList → EndList
change_whose None by ends = ends
change_whose (Some key) by ends = change_end key by ends

-- Who holds which connection, and the ends.
pub record Core : Type 0 where
  pub pool : Pool
  pub ends : EndList

abbrev pub new_core : Sharing → Core
new_core sharing = record { pool = new_pool sharing; ends = [] }

-- ---- How one moves

abbrev pub move_stage : (Stage → Stage) → End → End
move_stage by (Open front withdrawn asks) =
    Open (record front { stage = by front.stage }) withdrawn asks
move_stage by (Over why) = Over why

-- it is to be closed, for this
abbrev pub closes_for : Option FrontFault → End → End
closes_for why (Open front withdrawn asks) = Over why
closes_for why (Over was) = Over was

abbrev pub closes : End → End
closes end = closes_for None end

-- its connection is let go, and with it what was taken back there
abbrev pub lets_go : End → End
lets_go (Open front withdrawn asks) = Open front false asks
lets_go (Over why) = Over why

-- something of its request has gone on, where packets went out
abbrev pub end_goes_on : List Packet → End → End
end_goes_on [] end = end
end_goes_on (packet ∷ packets) end = move_stage rules.request_went_on end

-- The acknowledgement is the end's, or that of what was taken back.
abbrev pub end_acknowledged : End → End
end_acknowledged (Open front true asks) = Open front false asks
end_acknowledged (Open front false asks) = move_stage rules.acknowledged (Open front false asks)
end_acknowledged (Over why) = Over why

-- A packet of its answer has come: it is told of the reset by now that its request asked for. Of
-- what it took back it hears nothing.
abbrev pub end_hears : End → End
end_hears (Open front withdrawn asks) = Open front withdrawn (if withdrawn then asks else None)
end_hears (Over why) = Over why

-- this came of a packet on its connection
abbrev pub end_told : What → End → End
end_told whats.Goes end = end_hears end
end_told whats.Finished end = move_stage rules.answered (end_hears end)
end_told whats.Acknowledged end = end_acknowledged (end_hears end)
end_told whats.Closed end = closes end

-- ---- What came, as the service answers it

abbrev pub what_of : Answer → What
what_of (line.Finished request) = whats.Finished
what_of (line.Acked request) = whats.Acknowledged
what_of (line.Fault fault) = whats.Closed
what_of answer = whats.Goes

abbrev pub what_in : List (Done Token) → What
what_in [] = whats.Goes
what_in (d ∷ ds) = what_of d.answer

abbrev pub dones_of_part : Pool → ℕ → Part Token → List (Done Token)
dones_of_part d number part = (step d.service (calls.Came number part)).dones

-- ---- Bytes of an application

-- what of its request has gone on it takes back
abbrev pub takes_back : Said → Bool
takes_back (said.Forget gone) = gone
takes_back answer = false

-- its attention is the server's
abbrev pub hands_on : Said → Bool
hands_on said.HandOn = true
hands_on answer = false

-- A request that begins asks for this reset itself, or for none; of one that is taken back, none is
-- told.
abbrev pub asks_by : Said → Option Reset → Option Reset
asks_by (said.Begin kind reset) asks = reset
asks_by (said.Forget gone) asks = None
asks_by said.Acknowledge asks = None
asks_by _ asks = asks

abbrev pub end_behind : Front → Bool → Option Reset → Result Fed FrontFault → End
end_behind front withdrawn asks (Ok fed) =
    Open front (takes_back fed.said || withdrawn) (asks_by fed.said asks)
end_behind front withdrawn asks (Err fault) = Over (Some fault)

abbrev pub feeds : List ℕ → End → End
feeds bytes (Open front withdrawn asks) =
    end_behind (fed front bytes).front withdrawn asks (fed front bytes).brings
feeds bytes (Over why) = Over why

-- whether an attention goes out by them
abbrev pub stops_by : Result Fed FrontFault → Bool
stops_by (Ok fed) = takes_back fed.said || hands_on fed.said
stops_by (Err fault) = false

abbrev pub stops_of : List ℕ → Option End → Bool
stops_of bytes (Some (Open front withdrawn asks)) = stops_by (fed front bytes).brings
stops_of bytes end = false

-- ---- Moves

pub data Move : Type 0 where
  -- something is done at the pool alone
  Does : (event : Event) → Move
  -- bytes of a request, or its end, are put where an application holds a connection
  Sends : (key : ℕ) (action : Action) → Move
  -- an application lets its connection go, or leaves the line, and stays: parked, or by its reset
  LetsGo : (key : ℕ) (parks gives : Bool) (way : Way) → Move
  -- a connection is lost, and whoever holds it is closed; or that one stays, and has none
  Loses : (number : ℕ) → Move
  Replaces : (number : ℕ) → Move
  -- a packet comes on a connection
  Comes : (number : ℕ) (part : Part Token) (way : Way) → Move
  -- bytes of an application come
  Feeds : (key : ℕ) (bytes : List ℕ) → Move
  -- an application is to be closed
  Closes : (key : ℕ) → Move
  -- one has come, with which these are the ends; one is there no more
  Enters : (key : ℕ) (ends : EndList) → Move
  Quits : (key : ℕ) (gives : Bool) (way : Way) → Move

-- what is done at the pool
abbrev pub event_if : Bool → Event → List Event
event_if b event = if b then event ∷ [] else []

abbrev pub events_of : Core → Move → List Event
events_of h (Does event) = event ∷ []
events_of h (Sends key action) = pool.Does key action ∷ []
events_of h (LetsGo key parks gives way) = pool.Leaves key gives way ∷ []
events_of h (Loses number) = pool.Loses number ∷ []
events_of h (Replaces number) = pool.Loses number ∷ []
events_of h (Comes number part way) = pool.Comes number part way ∷ []
events_of h (Feeds key bytes) =
    event_if (stops_of bytes (end_at h.ends key)) (pool.Does key pool.Stops)
events_of h (Closes key) = []
events_of h (Enters key ends) = []
events_of h (Quits key gives way) = pool.Leaves key gives way ∷ []

-- the packets that go out by an event
abbrev pub sent_by : Pool → Event → List Packet
sent_by d event = sent_along d.service (turn d event).calls

-- whoever holds a connection
abbrev pub holder : Pool → ℕ → Option ℕ
holder d number = key_of (find_number number d.holds)

abbrev pub ends_behind : Core → Move → EndList
ends_behind h (Does event) = h.ends
ends_behind h (Sends key action) =
    change_end key (end_goes_on (sent_by h.pool (pool.Does key action))) h.ends
ends_behind h (LetsGo key parks gives way) = change_end key lets_go h.ends
ends_behind h (Loses number) = change_whose (holder h.pool number) closes h.ends
ends_behind h (Replaces number) = change_whose (holder h.pool number) lets_go h.ends
ends_behind h (Comes number part way) = change_whose (whose h.pool number)
    (end_told (what_in (dones_of_part h.pool number part))) h.ends
ends_behind h (Feeds key bytes) = change_end key (feeds bytes) h.ends
ends_behind h (Closes key) = change_end key closes h.ends
ends_behind h (Enters key ends) = ends
ends_behind h (Quits key gives way) = slice_set h.ends key None

abbrev pub moved : Core → Move → Core
moved h move = record { pool = pool_after h.pool (events_of h move); ends = ends_behind h move }

abbrev pub moved_all : Core → List Move → Core
moved_all h [] = h
moved_all h (move ∷ moves) = moved_all (moved h move) moves

-- ---- When each may be

-- Nothing of its request has gone on, and no attention.
abbrev pub IsHere : Stage → Type 0
IsHere stages.Quiet = Unit {0}
IsHere (stages.Receiving kind gone) = gone ≡ false
IsHere (stages.Underway gone) = gone ≡ false
IsHere _ = ⊥

-- Its request has begun; all of it has come.
abbrev pub IsBegun : Stage → Type 0
IsBegun (stages.Receiving kind gone) = Unit {0}
IsBegun (stages.Underway gone) = Unit {0}
IsBegun _ = ⊥

abbrev pub HasWholeRequest : Stage → Type 0
HasWholeRequest (stages.Underway gone) = Unit {0}
HasWholeRequest _ = ⊥

-- where its end is open
abbrev pub IfOpen : (Stage → Type 0) → Option End → Type 0
IfOpen P None = Unit {0}
IfOpen P (Some (Open front withdrawn asks)) = P front.stage
IfOpen P (Some (Over why)) = Unit {0}

-- of what its request asks for and hasn't been told, where its end is open
abbrev pub IfOpenAsks : (Option Reset → Type 0) → Option End → Type 0
IfOpenAsks P None = Unit {0}
IfOpenAsks P (Some (Open front withdrawn asks)) = P asks
IfOpenAsks P (Some (Over why)) = Unit {0}

-- It asks for this reset, or for none.
abbrev pub IfAsked : Option Reset → Option End → Type 0
IfAsked asked end = IfOpenAsks (λ asks. asks ≡ asked) end

abbrev pub AsksFor : Reset → Option End → Type 0
AsksFor reset end = IfAsked (Some reset) end

-- The reset that it asks for is done with its request, on the connection that it holds.
abbrev pub IsReset : Pool → ℕ → Option End → Type 0
IsReset d key end = IfOpenAsks (λ asks. ResetsFor asks (find_key key d.holds) d) end

-- Its request asks for a full reset; or for one that keeps its transaction, and it has none open.
abbrev pub AsksToPart : Core → ℕ → Type 0
AsksToPart h key = AsksFor Full (end_at h.ends key)
    ⊎ (AsksFor KeepTransaction (end_at h.ends key) × HasNoTransaction h.pool key)

-- It may be parted from its connection, if it holds one, and stay: its request asks for that, and
-- nothing of it has gone on; or it is to be closed.
abbrev pub MayPart : Core → ℕ → Type 0
MayPart h key = IfOpen IsHere (end_at h.ends key) × AsksToPart h key

abbrev pub is_at_end : Option End → Bool
is_at_end None = false
is_at_end (Some (Open front withdrawn asks)) = is_done_with front.stage withdrawn asks
is_at_end (Some (Over why)) = false

-- It may be parked, where connections are shared by transactions: its end asks nothing, and the
-- connection that it holds is clean.
abbrev pub may_park : Core → ℕ → Bool
may_park h key = is_by_transactions h.pool.mode
    && (is_at_end (end_at h.ends key) && holds_clean (find_key key h.pool.holds) h.pool)

abbrev pub is_in : ℕ → List ℕ → Bool
is_in key [] = false
is_in key (k ∷ ks) = (k == key) || is_in key ks

-- its application is there, and isn't to be closed
abbrev pub IsOpenEnd : Option End → Type 0
IsOpenEnd (Some (Open front withdrawn asks)) = Unit {0}
IsOpenEnd _ = ⊥

-- It is there, and isn't to be closed; it holds no connection, and waits for none.
pub record IsThereAndAway (h : Core) (key : ℕ) : Type 0 where
  pub there : IsOpenEnd (end_at h.ends key)
  pub holds : find_key key h.pool.holds ≡ None
  pub waits : is_in key h.pool.line ≡ false

-- A request is asked, and put, where it has begun, its end where all of it has come; it may be
-- taken back at the pool where its application has taken it back.
abbrev pub MayDo : Action → Option End → Type 0
MayDo pool.Asks end = IfOpen IsBegun end
MayDo (pool.Puts count) end = IfOpen IsBegun end
MayDo (pool.Ends count) end = IfOpen HasWholeRequest end
MayDo pool.Stops end = IfOpen AsksNothing end

abbrev pub IsPut : Action → Type 0
IsPut (pool.Puts count) = Unit {0}
IsPut (pool.Ends count) = Unit {0}
IsPut _ = ⊥

abbrev pub IsNotPut : Action → Type 0
IsNotPut pool.Asks = Unit {0}
IsNotPut pool.Stops = Unit {0}
IsNotPut _ = ⊥

-- Nobody comes to wait who has begun no request, is to be closed, holds a connection, or waits
-- already; only who asks nothing may wait no more. A request is asked where its reset is done. Who
-- keeps a transaction by another lease asks for the reset that does so, and memory is given to
-- that: refused, it would lose the connection, and be told nothing. What else moves an end isn't
-- done alone.
abbrev pub MayDoAlone : Core → Event → Type 0
MayDoAlone h (pool.Waits key) = IsThereAndAway h key × IfOpen IsBegun (end_at h.ends key)
MayDoAlone h (pool.Unwaits key) = IfOpen AsksNothing (end_at h.ends key)
MayDoAlone h pool.Serves = Unit {0}
MayDoAlone h (pool.Brings gives way) = Unit {0}
MayDoAlone h (pool.Does key action) = IsNotPut action × MayDo action (end_at h.ends key)
    × WhereAsked action (IsReset h.pool key (end_at h.ends key))
MayDoAlone h (pool.Renews key resumes) = (resumes ≡ true)
    × AsksFor KeepTransaction (end_at h.ends key)
MayDoAlone h _ = ⊥

-- where it is somebody's
abbrev pub IfWhose : (ℕ → Type 0) → Option ℕ → Type 0
IfWhose P None = Unit {0}
IfWhose P (Some key) = P key

-- It has come by a key that nobody had, and has said nothing yet; the others are as they were.
pub record HasEntered (key : ℕ) (old new : EndList) : Type 0 where
  pub was_free : end_at old key ≡ None
  pub size : ℕ
  pub begins : end_at new key ≡ Some (Open (new_front size) false None)
  pub others_stay : (other : ℕ) → other ≢ key → end_at new other ≡ end_at old other

-- Who lets go what it holds and stays, or has it replaced, may be parted from it; or is parked.
abbrev pub MayMove : Core → Move → Type 0
MayMove h (Does event) = MayDoAlone h event
MayMove h (Sends key action) = IsPut action × MayDo action (end_at h.ends key)
MayMove h (LetsGo key true gives way) = may_park h key ≡ true
MayMove h (LetsGo key false _ _) = MayPart h key × IfOpen (HoldsOne h.pool key) (end_at h.ends key)
MayMove h (Replaces number) = IfWhose (MayPart h) (holder h.pool number)
MayMove h (Enters key ends) = HasEntered key h.ends ends
MayMove h _ = Unit {0}

abbrev pub MayMoveAll : Core → List Move → Type 0
MayMoveAll h [] = Unit {0}
MayMoveAll h (move ∷ moves) = MayMove h move × MayMoveAll (moved h move) moves

-- ---- Who causes each

-- Its bytes, and its end, are an application's own, which is parked by that call alone; a packet is
-- its connection's. The rest is as at the pool.
abbrev pub CausesMove : Cause → Move → Type 0
CausesMove by (Does event) = Causes by event
CausesMove by (Sends key action) = Unit {0}
CausesMove by (LetsGo key parks gives way) = by ≡ causes.parting parks key
CausesMove by (Loses number) = Unit {0}
CausesMove by (Replaces number) = by ≡ causes.Connection number
CausesMove by (Comes number part way) = by ≡ causes.Connection number
CausesMove by (Feeds key bytes) = by ≡ causes.Application key
CausesMove by (Closes key) = Unit {0}
CausesMove by (Enters key ends) = by ≡ causes.Neither
CausesMove by (Quits key gives way) = by ≡ causes.Application key

-- By it nothing is given to an application, and none comes or is there no more.
abbrev pub IsQuiet : Move → Type 0
IsQuiet (Comes number part way) = ⊥
IsQuiet (Feeds key bytes) = ⊥
IsQuiet (Enters key ends) = ⊥
IsQuiet (Quits key gives way) = ⊥
IsQuiet _ = Unit {0}

-- Quiet moves that this causes led from one core to the other.
pub record Moves (by : Cause) (old new : Core) : Type 0 where
  pub moves : List Move
  pub are : moved_all old moves ≡ new
  pub may : MayMoveAll old moves
  pub caused : Each (CausesMove by) moves
  pub quiet : Each IsQuiet moves

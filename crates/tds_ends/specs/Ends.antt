-- What an end makes of any bytes that come: the packets that it takes, one after the other, and where it stops.
use Rattle.std.specs.Prelude.{ℕ, ◌+◌, ◌≡◌, ◌≢◌, ◌⊎◌, List, [], ◌++◌, length, drop, Option, Some, None, Err}
use Rattle.std.specs.List.{AllByRecursion}
use Rattle.tds_client.specs.declared.fault.ClientFault.{ClientFault}
use Rattle.tds_client.specs.Session.{ClientSession}
use Rattle.tds_client.specs.Taking as client
use Rattle.tds_packet.specs.declared.fault.PacketFault.{PacketFault}
use Rattle.tds_packet.specs.declared.header.Header.{Header}
use Rattle.tds_packet.specs.Layout.{IsPacket, bits_of, has_bit}
use Rattle.tds_packet.specs.Reading.{Reading, with_taken, fault_of, up_to_end, IsWhole}
use Rattle.tds_packet.specs.Stream.{IsLess}
use Rattle.tds_server.specs.declared.fault.ServerFault.{ServerFault}
use Rattle.tds_server.specs.State.{ServerState}
use Rattle.tds_server.specs.Taking as server
use Rattle.tds_session.specs.Answer.{Answers}
use Rattle.tds_token.specs.declared.token.Token.{Token}
use Rattle.tds_world.specs.declared.report.RequestStatus.{RequestStatus}
use Rattle.tds_ends.specs.declared.listening.ClientFed.{ClientFed}
use Rattle.tds_ends.specs.declared.listening.ClientStop.{ClientStop}
use Rattle.tds_ends.specs.declared.listening.ClientStop.TheVariants as client_stop
use Rattle.tds_ends.specs.declared.serving.ServerFed.{ServerFed}
use Rattle.tds_ends.specs.declared.serving.ServerStop.{ServerStop}
use Rattle.tds_ends.specs.declared.serving.ServerStop.TheVariants as server_stop
use Rattle.tds_ends.specs.Feeding.{Coming, IsComing, bytes_of, Served, served, Listened, listened}
use Rattle.tds_ends.specs.Lent.{ClientWaits, LentToClient, LentToServer, ServerWaits}

-- ---- The bytes

-- How the reading stopped: all bytes were taken, and no packet is whole; a header has this fault; or a
-- whole packet was not taken, and the reader holds it.
pub data Stop : Type 0 where
  Drained : Stop
  Faulty : (fault : PacketFault) → Stop
  Held : Stop

-- What is left behind the packets, and what the reader has of it then. A header with a fault ends the
-- reading, so all bytes behind it are done with.
abbrev pub IsLeft : Stop → Reading → Reading → List ℕ → ℕ → List ℕ → Type 0
IsLeft Drained r new piece count left =
    IsLess r left × (fault_of r left ≡ None) × (new.taken ≡ left) × (count ≡ length piece)
IsLeft (Faulty fault) r new piece count left =
    IsLess r left × (fault_of r left ≡ Some fault) × (new.taken ≡ up_to_end r left)
    × (count ≡ length piece)
IsLeft Held r new piece count left = IsWhole new × (left ≡ new.taken ++ drop count piece)

-- What the reader held and the piece are these packets, and this is left. So many bytes of the piece are
-- done with.
pub record Feeds (r new : Reading) (piece : List ℕ) (count : ℕ) (stop : Stop) (packets : List Coming)
    (left : List ℕ) : Type 0 where
  pub each : AllByRecursion (IsComing r) packets
  pub joined : r.taken ++ piece ≡ bytes_of packets ++ left
  pub same : new ≡ with_taken r new.taken
  pub is_left : IsLeft stop r new piece count left

-- ---- At a client

abbrev pub client_stops : Option ClientStop → Stop
client_stops None = Drained
client_stops (Some (client_stop.Packet fault)) = Faulty fault
client_stops (Some (client_stop.Client fault)) = Held
client_stops (Some client_stop.NoMemory) = Held

-- The packet that the reader holds is refused by this fault, which breaks the client.
abbrev pub ClientRefuses : Reading → ClientSession → ClientSession → ClientFault → Type 0
ClientRefuses held then now fault =
    (header : Header) × (content : List ℕ)
    × IsPacket held.direction held.size held.taken header content
    × (client.taken then (has_bit (bits_of header.status) 1) content ≡ Err fault)
    × (now ≡ client.broken_by then fault)

-- The client once it stopped: as it was behind the packets that it took, or broken by the next one.
abbrev pub IsClientAt : Option ClientStop → Reading → ClientSession → ClientSession → Type 0
IsClientAt None held then now = now ≡ then
IsClientAt (Some (client_stop.Packet fault)) held then now = now ≡ then
IsClientAt (Some (client_stop.Client fault)) held then now = ClientRefuses held then now fault
IsClientAt (Some client_stop.NoMemory) held then now = now ≡ then

-- The client took these packets, one after the other, and stopped there.
pub record Listens (r new : Reading) (piece : List ℕ) (s now : ClientSession)
    (told after : List Token) (fed : ClientFed) : Type 0 where
  pub packets : List Coming
  pub left : List ℕ
  pub then : Listened
  pub feeds : Feeds r new piece fed.count (client_stops fed.stop) packets left
  pub listens : listened s None told packets ≡ Some then
  pub settled : fed.settled ≡ then.settled
  pub tells : after ≡ then.told
  pub client : IsClientAt fed.stop new then.session now

-- Nothing keeps the client from going on: it took all, or wanted memory.
abbrev pub ClientGoesOn : Option ClientStop → Type 0
ClientGoesOn None = Unit {0}
ClientGoesOn (Some (client_stop.Packet fault)) = ⊥
ClientGoesOn (Some (client_stop.Client fault)) = ⊥
ClientGoesOn (Some client_stop.NoMemory) = Unit {0}

-- What was settled last.
abbrev pub settled_last : Option RequestStatus → Option RequestStatus → Option RequestStatus
settled_last None before = before
settled_last (Some now) before = Some now

-- Two calls, as one.
abbrev pub client_fed_twice : ClientFed → ClientFed → ClientFed
client_fed_twice first second = record {
  count = first.count + second.count;
  settled = settled_last second.settled first.settled;
  stop = second.stop;
}

-- ---- At a server

abbrev pub server_stops : Option ServerStop → Stop
server_stops None = Drained
server_stops (Some (server_stop.Packet fault)) = Faulty fault
server_stops (Some (server_stop.Server fault)) = Held
server_stops (Some server_stop.NoMemory) = Held

-- The packet that the reader holds is refused by this fault, which breaks the server.
abbrev pub ServerRefuses : {E : Type 0} → Answers → Reading → ServerState E → ServerState E
    → ServerFault → Type 0
ServerRefuses answers held then now fault =
    (header : Header) × (content : List ℕ)
    × IsPacket held.direction held.size held.taken header content
    × ((server.taken answers then header content).answer ≡ Err fault)
    × (now ≡ (server.taken answers then header content).state)

-- The server once it stopped: as it was behind the packets that it took, or broken by the next one.
abbrev pub IsServerAt : {E : Type 0} → Option ServerStop → Answers → Reading → ServerState E
    → ServerState E → Type 0
IsServerAt None answers held then now = now ≡ then
IsServerAt (Some (server_stop.Packet fault)) answers held then now = now ≡ then
IsServerAt (Some (server_stop.Server fault)) answers held then now =
    ServerRefuses answers held then now fault
IsServerAt (Some server_stop.NoMemory) answers held then now = now ≡ then

-- The server took these packets, one after the other, and stopped there.
pub record Serves {E : Type 0} (answers : Answers) (r new : Reading) (piece : List ℕ)
    (s now : ServerState E) (reply after : List ℕ) (fed : ServerFed) : Type 0 where
  pub packets : List Coming
  pub left : List ℕ
  pub then : Served E
  pub feeds : Feeds r new piece fed.count (server_stops fed.stop) packets left
  pub serves : served answers s reply packets ≡ Some then
  pub replies : after ≡ then.reply
  pub server : IsServerAt fed.stop answers new then.state now

-- Nothing keeps the server from going on: it took all, or wanted memory.
abbrev pub ServerGoesOn : Option ServerStop → Type 0
ServerGoesOn None = Unit {0}
ServerGoesOn (Some (server_stop.Packet fault)) = ⊥
ServerGoesOn (Some (server_stop.Server fault)) = ⊥
ServerGoesOn (Some server_stop.NoMemory) = Unit {0}

-- Two calls, as one.
abbrev pub server_fed_twice : ServerFed → ServerFed → ServerFed
server_fed_twice first second =
    record { count = first.count + second.count; stop = second.stop }

-- ---- A core with its reader in one value

-- There was no memory for the reader's buffer: it held no bytes, nothing was taken, and nothing changed.
pub record LacksBuffer {Core Item : Type 0} (r new : Reading) (s now : Core) (before after : List Item)
    : Type 0 where
  pub empty : r.taken ≡ []
  pub reader : new ≡ r
  pub core : now ≡ s
  pub appended : after ≡ before

-- Where the client wants memory, it is for the packet that the reader holds.
abbrev pub ReaderListens : Reading → Reading → List ℕ → ClientSession → ClientSession → List Token
    → List Token → ClientFed → Type 0
ReaderListens r new piece s now told after fed =
    Listens r new piece s now told after fed × ClientWaits fed.stop new now

abbrev pub client_lacking : ClientFed
client_lacking = record { count = 0; settled = None; stop = Some client_stop.NoMemory }

-- The piece goes through the reader.
abbrev pub ClientKeeps : Reading → Reading → List ℕ → ClientSession → ClientSession → List Token
    → List Token → ClientFed → Type 0
ClientKeeps r new piece s now told after fed =
    ReaderListens r new piece s now told after fed
    ⊎ ((fed ≡ client_lacking) × LacksBuffer r new s now told after)

-- Or, where the end held no bytes, it took whole packets straight from the piece, stopped, and holds none.
abbrev pub EndListens : Reading → Reading → List ℕ → ClientSession → ClientSession → List Token → List Token
    → ClientFed → Type 0
EndListens r new piece s now told after fed =
    ReaderListens r new piece s now told after fed
    ⊎ ((r.taken ≡ []) × (new ≡ r) × (fed.stop ≢ None) × LentToClient r piece s now told after fed)

abbrev pub ReaderServes : {E : Type 0} → Answers → Reading → Reading → List ℕ → ServerState E
    → ServerState E → List ℕ → List ℕ → ServerFed → Type 0
ReaderServes answers r new piece s now reply after fed =
    Serves answers r new piece s now reply after fed × ServerWaits fed.stop answers new now

abbrev pub server_lacking : ServerFed
server_lacking = record { count = 0; stop = Some server_stop.NoMemory }

abbrev pub ServerKeeps : {E : Type 0} → Answers → Reading → Reading → List ℕ → ServerState E
    → ServerState E → List ℕ → List ℕ → ServerFed → Type 0
ServerKeeps answers r new piece s now reply after fed =
    ReaderServes answers r new piece s now reply after fed
    ⊎ ((fed ≡ server_lacking) × LacksBuffer r new s now reply after)

abbrev pub EndServes : {E : Type 0} → Answers → Reading → Reading → List ℕ → ServerState E → ServerState E
    → List ℕ → List ℕ → ServerFed → Type 0
EndServes answers r new piece s now reply after fed =
    ReaderServes answers r new piece s now reply after fed
    ⊎ ((r.taken ≡ []) × (new ≡ r) × (fed.stop ≢ None) × LentToServer answers r piece s now reply after fed)

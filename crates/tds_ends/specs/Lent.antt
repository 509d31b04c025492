-- Whole packets that an end takes straight from a piece, while it holds no bytes of one.
use Rattle.std.specs.Prelude.{ℕ, ◌≡◌, ◌≢◌, ◌⊎◌, List, [], ◌++◌, drop, Option, Some, None, Result, Ok, Err, IsOk}
use Rattle.std.specs.List.{AllByRecursion}
use Rattle.tds_client.specs.declared.fault.ClientFault.{ClientFault}
use Rattle.tds_client.specs.Session.{ClientSession, Reading as in_reading}
use Rattle.tds_client.specs.Taking as client
use Rattle.tds_client.specs.Taking.{ClientMove}
use Rattle.tds_packet.specs.declared.header.Header.{Header}
use Rattle.tds_packet.specs.declared.kind.Direction.{Direction}
use Rattle.tds_packet.specs.Layout.{IsPacket, bits_of, has_bit, header_bytes}
use Rattle.tds_packet.specs.Reading.{Reading}
use Rattle.tds_packet.specs.Stream.{IsLess}
use Rattle.tds_server.specs.declared.fault.ServerFault.{ServerFault}
use Rattle.tds_server.specs.State.{ServerState}
use Rattle.tds_server.specs.Taking as server
use Rattle.tds_server.specs.Taking.{TakesMemory, moved}
use Rattle.tds_session.specs.Answer.{Answers}
use Rattle.tds_token.specs.declared.token.Token.{Token}
use Rattle.tds_world.specs.declared.report.RequestStatus.{RequestStatus}
use Rattle.tds_ends.specs.declared.listening.ClientFed.{ClientFed}
use Rattle.tds_ends.specs.declared.listening.ClientStop.{ClientStop}
use Rattle.tds_ends.specs.declared.listening.ClientStop.TheVariants as client_stop
use Rattle.tds_ends.specs.declared.serving.ServerFed.{ServerFed}
use Rattle.tds_ends.specs.declared.serving.ServerStop.{ServerStop}
use Rattle.tds_ends.specs.declared.serving.ServerStop.TheVariants as server_stop
use Rattle.tds_ends.specs.Feeding.{Coming, IsComing, bytes_of, Served, served, Listened, listened}

-- ---- Packets in a piece

-- The bytes begin with the packet of this header and these data.
abbrev pub IsFront : Direction → ℕ → List ℕ → Header → List ℕ → Type 0
IsFront direction size bytes header content =
    (behind : List ℕ) × (bytes ≡ (header_bytes header ++ content) ++ behind)
    × IsPacket direction size (header_bytes header ++ content) header content

-- There is something, and no whole packet begins it: to keep it takes a buffer.
abbrev pub WantsRoom : Reading → List ℕ → Type 0
WantsRoom r left = IsLess r left × (left ≢ [])

-- ---- Any core

-- The next packet is refused. This is behind it.
abbrev pub RefusesNext : (Coming → Type 0) → Reading → List ℕ → List ℕ → Type 0
RefusesNext IsRefused r left rest =
    (p : Coming) × IsComing r p × (left ≡ p.bytes ++ rest) × IsRefused p

-- Memory is wanted for the next packet.
abbrev pub WantsNext : (Coming → Type 0) → Reading → List ℕ → Type 0
WantsNext IsWanted r left =
    (p : Coming) × (behind : List ℕ) × IsComing r p × (left ≡ p.bytes ++ behind) × IsWanted p

-- A core took whole packets that the piece begins with, one after the other, and is that one then. It stopped
-- there: so much of the piece is done with.
pub record LentTo {Core : Type 0} (r : Reading) (piece : List ℕ) (count : ℕ)
    (Took : List Coming → Core → Type 0) (Leaves : List ℕ → List ℕ → Core → Type 0) : Type 0 where
  pub packets : List Coming
  pub left : List ℕ
  pub then : Core
  pub each : AllByRecursion (IsComing r) packets
  pub joined : piece ≡ bytes_of packets ++ left
  pub took : Took packets then
  pub leaves : Leaves left (drop count piece) then

-- ---- At a client

-- What the client makes of this packet.
abbrev pub client_takes : ClientSession → Header → List ℕ → Result ClientMove ClientFault
client_takes s header content = client.taken s (has_bit (bits_of header.status) 1) content

-- The client wants memory for this packet: it reads an answer, and tells tokens of it.
pub record ClientWants (s : ClientSession) (header : Header) (content : List ℕ) : Type 0 where
  pub reading : s.stage ≡ in_reading
  pub lawful : IsOk (client_takes s header content)
  pub telling : (move : ClientMove) → client_takes s header content ≡ Ok move → move.tokens ≢ []

-- Where a client stopped for want of memory, it wants it for the packet that the reader holds.
abbrev pub ClientWaits : Option ClientStop → Reading → ClientSession → Type 0
ClientWaits None held s = Unit {0}
ClientWaits (Some (client_stop.Packet fault)) held s = Unit {0}
ClientWaits (Some (client_stop.Client fault)) held s = Unit {0}
ClientWaits (Some client_stop.NoMemory) held s =
    (header : Header) × (content : List ℕ)
    × IsPacket held.direction held.size held.taken header content × ClientWants s header content

-- The client took these packets: that was settled, and its caller was told so much.
abbrev pub ClientTook : ClientSession → List Token → List Token → Option RequestStatus → List Coming
    → Listened → Type 0
ClientTook s told after settled packets then =
    (listened s None told packets ≡ Some then) × (settled ≡ then.settled) × (after ≡ then.told)

-- The client refuses this packet by this fault, which breaks it.
abbrev pub ClientBreaks : ClientSession → ClientSession → ClientFault → Coming → Type 0
ClientBreaks then now fault p =
    (client_takes then p.header p.content ≡ Err fault) × (now ≡ client.broken_by then fault)

-- Why the client stopped, where this is left of the piece, and so much of it isn't done with.
abbrev pub ClientLeaves : Option ClientStop → Reading → ClientSession → List ℕ → List ℕ → Listened → Type 0
ClientLeaves None r now left rest then = (left ≡ rest) × (now ≡ then.session) × IsLess r left
ClientLeaves (Some (client_stop.Packet fault)) r now left rest then = ⊥
ClientLeaves (Some (client_stop.Client fault)) r now left rest then =
    RefusesNext (ClientBreaks then.session now fault) r left rest
ClientLeaves (Some client_stop.NoMemory) r now left rest then =
    (left ≡ rest) × (now ≡ then.session)
    × (WantsNext (λ (p : Coming). ClientWants then.session p.header p.content) r left ⊎ WantsRoom r left)

-- The client took whole packets that the piece begins with, one after the other, and stopped there.
abbrev pub LentToClient : Reading → List ℕ → ClientSession → ClientSession → List Token → List Token
    → ClientFed → Type 0
LentToClient r piece s now told after fed =
    LentTo r piece fed.count (ClientTook s told after fed.settled) (ClientLeaves fed.stop r now)

-- ---- At a server

-- The server wants memory for this packet.
abbrev pub ServerWants : {E : Type 0} → Answers → ServerState E → Header → List ℕ → Type 0
ServerWants answers s header content =
    TakesMemory (moved answers s.on_attention s.session s.phase header content)

-- Where a server stopped for want of memory, it wants it for the packet that the reader holds.
abbrev pub ServerWaits : {E : Type 0} → Option ServerStop → Answers → Reading → ServerState E → Type 0
ServerWaits None answers held s = Unit {0}
ServerWaits (Some (server_stop.Packet fault)) answers held s = Unit {0}
ServerWaits (Some (server_stop.Server fault)) answers held s = Unit {0}
ServerWaits (Some server_stop.NoMemory) answers held s =
    (header : Header) × (content : List ℕ)
    × IsPacket held.direction held.size held.taken header content × ServerWants answers s header content

-- The server took these packets, and appended so much.
abbrev pub ServerReplied : {E : Type 0} → Answers → ServerState E → List ℕ → List ℕ → List Coming → Served E
    → Type 0
ServerReplied answers s reply after packets then =
    (served answers s reply packets ≡ Some then) × (after ≡ then.reply)

-- The server refuses this packet by this fault, which breaks it.
abbrev pub ServerBreaks : {E : Type 0} → Answers → ServerState E → ServerState E → ServerFault → Coming → Type 0
ServerBreaks answers then now fault p =
    ((server.taken answers then p.header p.content).answer ≡ Err fault)
    × (now ≡ (server.taken answers then p.header p.content).state)

-- Why the server stopped, where this is left of the piece, and so much of it isn't done with.
abbrev pub ServerLeaves : {E : Type 0} → Option ServerStop → Answers → Reading → ServerState E → List ℕ
    → List ℕ → Served E → Type 0
ServerLeaves None answers r now left rest then = (left ≡ rest) × (now ≡ then.state) × IsLess r left
ServerLeaves (Some (server_stop.Packet fault)) answers r now left rest then = ⊥
ServerLeaves (Some (server_stop.Server fault)) answers r now left rest then =
    RefusesNext (ServerBreaks answers then.state now fault) r left rest
ServerLeaves (Some server_stop.NoMemory) answers r now left rest then =
    (left ≡ rest) × (now ≡ then.state)
    × (WantsNext (λ (p : Coming). ServerWants answers then.state p.header p.content) r left ⊎ WantsRoom r left)

-- The server took whole packets that the piece begins with, one after the other, and stopped there.
abbrev pub LentToServer : {E : Type 0} → Answers → Reading → List ℕ → ServerState E → ServerState E → List ℕ
    → List ℕ → ServerFed → Type 0
LentToServer answers r piece s now reply after fed =
    LentTo r piece fed.count (ServerReplied answers s reply after) (ServerLeaves fed.stop answers r now)

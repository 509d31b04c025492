-- What is sent to a server: messages, each the spelling of a request cut into packets, or a beginning
-- of one that is dropped; and attentions between them.
use Rattle.std.specs.Prelude.{ℕ, ◌≡◌, ◌+◌, List, [], ◌∷◌, ◌++◌, Option}
use Rattle.tds_packet.specs.declared.status.Reset.{Reset}
use Rattle.tds_request.specs.Layout.{kind_of_request, request_spelling, packet_kind}
use Rattle.tds_packet.specs.Resets.{reset_bit}
use Rattle.tds_world.specs.Connection.{Connection}
use Rattle.tds_world.specs.Entries.{Packet, packet, Asking, Up, Part, End, Drop, Attention}
use Rattle.tds_world.specs.Laws.{OfEachConnection}
use Rattle.tds_world.specs.World.{World}

-- What is there of a message that has not ended: nothing, or what its request asks, its data so far
-- and how many packets they came in.
pub data Message : Type 0 where
  Nothing : Message
  Partly : (asking : Asking) (content : List ℕ) (packets : ℕ) → Message

abbrev pub content_of : Message → List ℕ
content_of Nothing = []
content_of (Partly a content n) = content

abbrev pub packets_in : Message → ℕ
packets_in Nothing = 0
packets_in (Partly a content n) = n

-- The bit of the mark stands on the first packet.
abbrev pub first_bits : Message → Option Reset → ℕ
first_bits Nothing mark = reset_bit mark
first_bits (Partly a content n) mark = 0

-- The next packet of a message that asks this, with these status bits and data.
abbrev pub packet_in : Message → Asking → ℕ → List ℕ → Packet
packet_in m a bits body =
    packet (packet_kind (kind_of_request a.request)) (bits + first_bits m a.mark) (packets_in m + 1) body

-- The message, if it has begun, asks this.
abbrev pub AsksThis : Message → Asking → Type 0
AsksThis Nothing a = Unit {0}
AsksThis (Partly b content n) a = b ≡ a

-- The packet drops a message that has begun: end of message, and ignore it (MS-TDS 2.2.3.1.2).
abbrev pub Drops : Message → Packet → Type 0
Drops Nothing p = ⊥
Drops (Partly a content n) p = p ≡ packet_in (Partly a content n) a 0x03 []

-- Behind the packets of one message come these entries, and then so much of a message is there. All
-- packets of a message are of its request's type, numbered from 1; all but the last have status 0 and
-- the mark's bit, the last has end of message too, and their data are the request's spelling.
abbrev pub AreRequests : Message → List Up → Message → Type 0
AreRequests m [] out = m ≡ out
AreRequests m (Part r p ∷ es) out =
    (a : Asking) × AsksThis m a × (p ≡ packet_in m a 0 p.body)
    × AreRequests (Partly a (content_of m ++ p.body) (packets_in m + 1)) es out
AreRequests m (End r a p ∷ es) out =
    AsksThis m a × (p ≡ packet_in m a 1 p.body)
    × (content_of m ++ p.body ≡ request_spelling a.descriptor a.request) × AreRequests Nothing es out
AreRequests m (Drop r p ∷ es) out = Drops m p × AreRequests Nothing es out
AreRequests m (Attention r ∷ es) out = (m ≡ Nothing) × AreRequests Nothing es out

-- All that was sent to the server is such. What arrived of a message that has not ended, the server
-- has as its parts.
pub record SendsRequests (c : Connection) : Type 0 where
  pub part : Message
  pub arrived : AreRequests Nothing c.to_server.arrived part
  pub parts : content_of part ≡ c.parts
  pub out : Message
  pub waiting : AreRequests part c.to_server.waiting out

abbrev pub RequestsAreSpelled : World → Type 0
RequestsAreSpelled w = OfEachConnection SendsRequests w

-- What lies on a connection: packets, each with the tag of the request that it belongs to. No end
-- can see a tag.
use Rattle.std.specs.Prelude.{ℕ, ◌%◌, List, [], ◌++◌, flat_map, if◌then◌else◌, Option}
use Rattle.tds_packet.specs.declared.header.Header.{Header}
use Rattle.tds_packet.specs.declared.kind.Kind.{Kind}
use Rattle.tds_packet.specs.declared.kind.Kind.TheVariants as kind
use Rattle.tds_packet.specs.declared.status.Reset.{Reset}
use Rattle.tds_packet.specs.Layout.{header_bytes}
use Rattle.tds_packet.specs.Sent.{sent_header}
use Rattle.tds_request.specs.declared.request.Request.{Request}
use Rattle.tds_session.specs.Answer as answer
use Rattle.tds_session.specs.Attention.{acknowledging}
use Rattle.tds_token.specs.declared.env_change.EnvChange.{EnvChange}
use Rattle.tds_token.specs.Layout.{spelling}

-- A packet: its header and its data (MS-TDS 2.2.3.1).
pub record Packet : Type 0 where
  pub header : Header
  pub body : List ℕ

-- A packet as both ends write it, at this place of its message, counted from 1. SPID and Window
-- are 0, and the PacketID is the place modulo 256 (MS-TDS 2.2.3.1.4 to 2.2.3.1.6).
abbrev pub packet : Kind → ℕ → ℕ → List ℕ → Packet
packet type bits place body = record {
  header = sent_header type bits (place % 256) body;
  body = body;
}

-- The eight bytes of the header, and then the data.
abbrev pub packet_bytes : Packet → List ℕ
packet_bytes p = header_bytes p.header ++ p.body

-- What a request asks of the server: its transaction's descriptor stands in its header (MS-TDS
-- 2.2.5.3.2), and the bit of its mark, if it has one, on its first packet.
pub record Asking : Type 0 where
  pub request : Request
  pub descriptor : ℕ
  pub mark : Option Reset

-- Towards the server: some of a request's bytes; the last of them; the word that no more will come
-- and that the server is to forget what came (MS-TDS 2.2.3.1.2, bit 02); an attention (MS-TDS
-- 2.2.1.7).
pub data Up : Type 0 where
  Part : (request : ℕ) (packet : Packet) → Up
  End : (request : ℕ) (asking : Asking) (packet : Packet) → Up
  Drop : (request : ℕ) (packet : Packet) → Up
  Attention : (request : ℕ) → Up

-- Towards the client, each at its place of its message: a step of an answer; the acknowledgement of
-- an attention, the changes that it tells and a DONE of status 0020 (MS-TDS 2.2.7.9, 2.2.7.6).
pub data Down : Type 0 where
  Step : (request place : ℕ) (step : answer.Step) → Down
  Acknowledgement : (request place : ℕ) (changes : List EnvChange) → Down

-- The packet of an entry towards the server.
abbrev pub up_packet : Up → Packet
up_packet (Part r p) = p
up_packet (End r a p) = p
up_packet (Drop r p) = p
up_packet (Attention r) = packet kind.Attention 1 1 []

-- The packet of an entry towards the client. A step's tokens fill one packet, and the last step
-- ends the message. What acknowledges an attention is one packet too, and ends its message.
abbrev pub down_packet : Down → Packet
down_packet (Step r place s) =
    packet kind.Answer (if s.last then 1 else 0) place (flat_map spelling s.tokens)
down_packet (Acknowledgement r place changes) =
    packet kind.Answer 1 place (flat_map spelling (acknowledging changes))

-- The bytes of an entry. Their count is its size.
abbrev pub up_bytes : Up → List ℕ
up_bytes e = packet_bytes (up_packet e)

abbrev pub down_bytes : Down → List ℕ
down_bytes e = packet_bytes (down_packet e)

-- The packets that a client sends (MS-TDS 2.2.3.1).
use Rattle.std.specs.Prelude.{ℕ, ◌+◌, ◌%◌, List, []}
use Rattle.tds_packet.specs.declared.kind.Kind.{Kind}
use Rattle.tds_packet.specs.declared.kind.Kind.TheVariants as kinds
use Rattle.tds_packet.specs.Sent.{sent_bytes}

-- A packet with this status, behind this many others of its message: its PacketID is one more, modulo 256.
abbrev pub packet_bytes : Kind → ℕ → ℕ → List ℕ → List ℕ
packet_bytes kind status before content = sent_bytes kind status ((before + 1) % 256) content

-- An attention: one packet without data that ends its message (MS-TDS 2.2.1.7).
abbrev pub stop_bytes : List ℕ
stop_bytes = packet_bytes kinds.Attention 1 0 []

-- A packet without data that ends a request's message, and tells the server to ignore it (MS-TDS 2.2.3.1.2).
abbrev pub ignore : Kind → ℕ → List ℕ
ignore kind before = packet_bytes kind 3 before []

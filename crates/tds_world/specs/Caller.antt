-- What a caller does on its connection: ask, send the next packet, cancel.
use Rattle.std.specs.Prelude.{ℕ, ◌+◌, List, [], length, take, drop, Bool, true, false, nat_le, Option, Some, None}
use Rattle.tds_packet.specs.declared.status.Reset.{Reset}
use Rattle.tds_packet.specs.Resets.{reset_bit}
use Rattle.tds_request.specs.declared.request.Request.{Request}
use Rattle.tds_request.specs.Layout.{kind_of_request, packet_kind}
use Rattle.tds_world.specs.declared.outcome.CancelOutcome.{CancelOutcome}
use Rattle.tds_world.specs.declared.outcome.CancelOutcome.TheVariants as cancel
use Rattle.tds_world.specs.Connection.{Connection, records}
use Rattle.tds_world.specs.Entries.{Packet, packet, Part, End, Drop, Attention}
use Rattle.tds_world.specs.Lane.{append}
use Rattle.tds_world.specs.Phase.{Phase, Settled, Asked, Sending, Reading, Cancelling, phase_of}
use Rattle.tds_world.specs.Record.{Record, new_record, Out, NotBegun, Begun, Whole, packets_of, cancelled}

-- A request is asked: it takes the mark and the descriptor heard of this moment, and none of it
-- goes out yet.
abbrev pub asks : ℕ → ℕ → ℕ → Request → Connection → Connection
asks number lease conn q c = record c {
  past = records c;
  current = Some (new_record number lease conn q c.mark c.heard);
}

-- A packet of a request, the next one after those that are out.
abbrev pub packet_of : Record → ℕ → List ℕ → Packet
packet_of q bits body =
    packet (packet_kind (kind_of_request q.asking.request)) bits (packets_of q.out + 1) body

-- The bit of a mark (MS-TDS 2.2.3.1.2) stands on a request's first packet alone.
abbrev pub first_bit : Out → Option Reset → ℕ
first_bit NotBegun mark = reset_bit mark
first_bit _ mark = 0

-- The next packet of a request that carries some of its bytes, with these further status bits.
abbrev pub next_packet : Record → ℕ → List ℕ → Packet
next_packet q bits body = packet_of q (bits + first_bit q.out q.asking.mark) body

-- Whether what is left of a request fits one packet with so much room.
abbrev pub sends_last : ℕ → Record → Bool
sends_last room q = nat_le (length q.left) room

-- The newest request sends all that is left of it, or else a full packet.
abbrev pub sends_by : Bool → ℕ → Record → Connection → Connection
sends_by true room q c = record c {
  to_server = append (End q.number q.asking (next_packet q 1 q.left)) c.to_server;
  current = Some (record q { left = []; out = Whole (packets_of q.out + 1) });
}
sends_by false room q c = record c {
  to_server = append (Part q.number (next_packet q 0 (take room q.left))) c.to_server;
  current = Some (record q { left = drop room q.left; out = Begun (packets_of q.out + 1) });
}

abbrev pub sends : ℕ → Record → Connection → Connection
sends room q c = sends_by (sends_last room q) room q c

-- No more of a request will come: end of message, and ignore this message (MS-TDS 2.2.3.1.2).
abbrev pub drop_packet : Record → Packet
drop_packet q = packet_of q 0x03 []

-- The newest request is cancelled, by where it is. One that is settled or cancelled stays as it is.
-- With no packet out nothing goes out. Else its attention does, behind the word to drop it where
-- some of it was not out yet.
abbrev pub cancels_by : Phase → Record → Connection → Connection
cancels_by Asked q c = record c { current = Some (cancelled q) }
cancels_by Sending q c = record c {
  to_server = append (Attention q.number) (append (Drop q.number (drop_packet q)) c.to_server);
  current = Some (cancelled q);
}
cancels_by Reading q c = record c {
  to_server = append (Attention q.number) c.to_server;
  current = Some (cancelled q);
}
cancels_by _ q c = c

abbrev pub cancels_in : Option Record → Connection → Connection
cancels_in None c = c
cancels_in (Some q) c = cancels_by (phase_of q) q c

abbrev pub cancels : Connection → Connection
cancels c = cancels_in c.current c

-- What a cancel answers, by where the newest request was.
abbrev pub cancel_outcome : Phase → CancelOutcome
cancel_outcome Settled = cancel.Nothing
cancel_outcome Cancelling = cancel.Already
cancel_outcome Asked = cancel.Unsent
cancel_outcome _ = cancel.Asked

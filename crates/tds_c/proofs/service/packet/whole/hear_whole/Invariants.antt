use Rattle.std.proofs.Common.{◌≡◌, ◌-◌, ◌≤◌, Some, length, drop}
use Rattle.tds_wire.specs.Reading.{Parser}
use Rattle.tds_walk.specs.Taking.{IsReadyValue}
use Rattle.tds_walk.specs.WireCalls.{reading_from}
use Rattle.tds_c.specs.service.Here.{HasCome}
use Rattle.tds_c.proofs.service.packet.whole.hear_whole.Given as goal

abbrev pub invariant-tokens : goal.invariant-tokens
invariant-tokens l = record {
  ready : IsReadyValue l.walk;
  run : (first : Parser) → reading_from l.fn.walk l.memory ≡ Some first
      → (next : Parser) × (reading_from l.walk l.memory ≡ Some next)
      × HasCome (record { seat = l.fn.seat; reading = first; rest = l.bytes }) (record { seat = l.seat; reading = next; rest = drop l.done l.bytes })
      (record { before = l.fn.tokens; after = l.tokens; count = l.read });
  same : length l.tokens ≡ length l.fn.tokens;
  room : l.read ≤ length l.fn.tokens;
  within : l.done ≤ length l.bytes;
}

abbrev pub decreases-tokens : goal.decreases-tokens
decreases-tokens l = length l.bytes - l.done

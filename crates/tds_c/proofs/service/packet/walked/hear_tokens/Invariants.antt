use Rattle.std.proofs.Common.{◌≡◌, ◌-◌, ◌≤◌, List, length, drop}
use Rattle.tds_wire.specs.Lent.{reading_of}
use Rattle.tds_walk.specs.declared.token.TdsWireToken.{TdsWireToken}
use Rattle.tds_c.specs.service.Here.{HasCome, Start}
use Rattle.tds_c.proofs.service.packet.walked.hear_tokens.Given as goal

abbrev pub invariant-tokens : goal.invariant-tokens
invariant-tokens l = record {
  come : (first : Start) (room : List TdsWireToken) → length room ≡ length l.fn.tokens
      → HasCome first (record { seat = l.fn.seat; reading = reading_of l.fn.walk l.fn.memory; rest = drop l.fn.taken l.bytes })
      (record { before = room; after = l.fn.tokens; count = l.fn.count })
      → HasCome first (record { seat = l.seat; reading = reading_of l.walk l.memory; rest = drop l.taken l.bytes })
      (record { before = room; after = l.tokens; count = l.count });
  same : length l.tokens ≡ length l.fn.tokens;
  room : l.count ≤ length l.fn.tokens;
  within : l.taken ≤ length l.bytes;
}

abbrev pub decreases-tokens : goal.decreases-tokens
decreases-tokens l = length l.bytes - l.taken

use Rattle.std.proofs.Common.{◌≡◌, ◌-◌, ◌≤◌, List, [], length, drop}
use Rattle.tds_client.specs.Parts.{session_from}
use Rattle.tds_wire.specs.Lent.{reading_of}
use Rattle.tds_walk.specs.declared.token.TdsWireToken.{TdsWireToken}
use Rattle.tds_c.specs.Hearing.{HasHeard, Place}
use Rattle.tds_c.proofs.wire.hearing.walked.hear_tokens.Given as goal

abbrev pub invariant-tokens : goal.invariant-tokens
invariant-tokens l = record {
  run : (first : Place) (room : List TdsWireToken) → length room ≡ length l.fn.tokens
      → HasHeard first (record { session = session_from l.fn.parts []; reading = reading_of l.fn.walk l.fn.memory; rest = drop l.fn.taken l.bytes }) (record { before = room; after = l.fn.tokens; count = l.fn.count })
      → HasHeard first (record { session = session_from l.parts []; reading = reading_of l.walk l.memory; rest = drop l.taken l.bytes }) (record { before = room; after = l.tokens; count = l.count });
  same : length l.tokens ≡ length l.fn.tokens;
  room : l.count ≤ length l.fn.tokens;
  within : l.taken ≤ length l.bytes;
}

abbrev pub decreases-tokens : goal.decreases-tokens
decreases-tokens l = length l.bytes - l.taken

use Rattle.std.proofs.Common.{◌≡◌, ◌≤◌, ◌+◌, ◌-◌, ◌++◌, Bool, true, List, [], length, drop}
use Rattle.std.specs.Prelude.{vec_len, vec_capacity}
use Rattle.tds_wire.specs.declared.told.Token.{Token}
use Rattle.tds_service.specs.Line as line
use Rattle.tds_service.specs.Packets.{HeardSome, noted}
use Rattle.tds_service.specs.Ties.{line_in}
use Rattle.tds_service.proofs.hearing.hear_tokens.Given as goal

abbrev pub invariant-tokens : goal.invariant-tokens
invariant-tokens l = record {
  some : (cancelling : Bool) × (tokens : List Token)
      × HeardSome cancelling (line_in l.fn.connection) l.fn.connection.parser l.bytes (line_in l.connection) l.connection.parser (drop l.done l.bytes) [] tokens
      × (l.told.items ≡ l.fn.told.items ++ noted l.tells tokens);
  within : l.done ≤ length l.bytes;
  room : l.tells ≡ true → (line_in l.fn.connection).stage ≡ line.Reading → vec_len l.told + (length l.bytes - l.done) ≤ vec_capacity l.told;
  size : l.connection.client.size ≡ l.fn.connection.client.size;
}

abbrev pub decreases-tokens : goal.decreases-tokens
decreases-tokens l = length l.bytes - l.done

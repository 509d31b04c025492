use Rattle.std.proofs.Common.{◌≡◌, take}
use Rattle.std.specs.List.{flat_map}
use Rattle.tds_token.specs.Layout.{spelling}
use Rattle.tds_server.proofs.packets.spell.Given as goal

abbrev pub invariant-tokens : goal.invariant-tokens
invariant-tokens l = l.bytes.items ≡ flat_map spelling (take l.token-index l.tokens)

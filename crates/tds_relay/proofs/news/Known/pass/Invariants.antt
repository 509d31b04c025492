use Rattle.std.proofs.Common.{◌≡◌, ◌++◌, drop}
use Rattle.tds_relay.specs.News.{bytes_going_on, known_after}
use Rattle.tds_relay.proofs.news.Known.pass.Given as goal

abbrev pub invariant-loop-byte : goal.invariant-loop-byte
invariant-loop-byte l = record {
  goes : l.kept.items ++ bytes_going_on l.self (drop l.byte-index l.bytes) ≡ l.fn.kept.items ++ bytes_going_on l.fn.self l.bytes;
  known : known_after l.self (drop l.byte-index l.bytes) ≡ known_after l.fn.self l.bytes;
}

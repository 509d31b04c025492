use Rattle.std.proofs.Common.{◌≡◌, ◌++◌, length}
use Rattle.tds_relay.specs.Cutting.{left_of}
use Rattle.tds_relay.proofs.link.Answer.cut.Given as goal

abbrev pub decreases-tokens : goal.decreases-tokens
decreases-tokens l = length l.rest

abbrev pub invariant-tokens : goal.invariant-tokens
invariant-tokens l = record {
  kept : l.kept.items ++ (left_of l.self.known l.self.parser l.rest).bytes ≡ l.fn.kept.items ++ (left_of l.fn.self.known l.fn.self.parser l.fn.bytes).bytes;
  known : (left_of l.self.known l.self.parser l.rest).known ≡ (left_of l.fn.self.known l.fn.self.parser l.fn.bytes).known;
  stands : (left_of l.self.known l.self.parser l.rest).stands ≡ (left_of l.fn.self.known l.fn.self.parser l.fn.bytes).stands;
  size : l.self.size ≡ l.fn.self.size;
}

use Rattle.std.proofs.Common.{◌≡◌, ◌≤◌, length}
use Rattle.tds_state.specs.Asking.{letters_after}
use Rattle.tds_state.proofs.asked.from_first.Given as goal

abbrev pub invariant-bytes : goal.invariant-bytes
invariant-bytes l = record { same : letters_after 0 l.rest ≡ letters_after 0 l.bytes; few : length l.rest ≤ length l.bytes }

abbrev pub decreases-bytes : goal.decreases-bytes
decreases-bytes l = length l.rest

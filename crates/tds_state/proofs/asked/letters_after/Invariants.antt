use Rattle.std.proofs.Common.{◌≡◌, length}
use Rattle.tds_state.specs.Asking.{letters_after}
use Rattle.tds_state.proofs.asked.letters_after.Given as goal

abbrev pub invariant-bytes : goal.invariant-bytes
invariant-bytes l = letters_after l.letters l.rest ≡ letters_after l.came l.bytes

abbrev pub decreases-bytes : goal.decreases-bytes
decreases-bytes l = length l.rest

use Rattle.std.proofs.Common.{◌≡◌, Bool, length}
use Rattle.std.specs.List.{list_any}
use Rattle.tds_state.proofs.values.has_any.Given as goal

abbrev pub invariant-flags : goal.invariant-flags
invariant-flags l = list_any (λ (b : Bool). b) l.rest ≡ list_any (λ (b : Bool). b) l.flags

abbrev pub decreases-flags : goal.decreases-flags
decreases-flags l = length l.rest

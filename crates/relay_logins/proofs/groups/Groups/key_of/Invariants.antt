use Rattle.relay_logins.specs.Groups.{HasNumber}
use Rattle.relay_logins.proofs.Ahead.{AreAhead}
use Rattle.relay_logins.proofs.groups.Groups.key_of.Given as goal

-- the group of this number is among those that are left
abbrev pub invariant-loop-entry : goal.invariant-loop-entry
invariant-loop-entry g l =
    (goal.iterator-loop-entry g).can_next l.entry-iterator ×
    (goal.iterator-loop-entry g).is_finite l.entry-iterator ×
    AreAhead (λ key. HasNumber l.self.groups.slab l.number key) l.entry-iterator

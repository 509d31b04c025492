use Rattle.relay_logins.specs.Groups.{Admits}
use Rattle.relay_logins.specs.Keys.{known}
use Rattle.relay_logins.proofs.Ahead.{AreAhead}
use Rattle.relay_logins.proofs.groups.Groups.join.Given as goal

-- each group that admits this login is among those that are left
abbrev pub invariant-loop-entry : goal.invariant-loop-entry
invariant-loop-entry g l =
    (goal.iterator-loop-entry g).can_next l.entry-iterator ×
    (goal.iterator-loop-entry g).is_finite l.entry-iterator ×
    AreAhead (λ key. Admits (known l.self.groups.slab key) l.login.message.items) l.entry-iterator

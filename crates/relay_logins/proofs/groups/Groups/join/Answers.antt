use Rattle.std.proofs.Common.{ℕ, List, Option, Some, None, IsSome, ◌∙◌, refl}
use Rattle.relay_logins.specs.Groups.{Admits}
use Rattle.relay_logins.specs.Keys.{known}
use Rattle.relay_logins.specs.declared.groups.Group.{Group}
use Rattle.relay_logins.proofs.Ahead.{ahead_at_first, ahead_behind, not_true}
use Rattle.relay_logins.proofs.groups.Groups.join.Goals as goal

-- who admits anybody is there
is_there : {T : Type 0} (group : Option (Group T)) (login : List ℕ) → Admits group login → IsSome group
is_there None login p = elim p [ ]
is_there (Some group) login p = refl

-- src/groups.rt
pub loop-entry-init : goal.loop-entry-init
loop-entry-init g c =
    let left = c.into_iter-entry-iterator.ensures.into_iter_gives ∙ c.iter-entry-items.ensures in
    (tt, tt, rw left (ahead_at_first (λ key. Admits (known c.args.self.now.groups.slab key) c.args.login.now.message.items) c.args.self.now.groups.slab (λ key p. is_there (known c.args.self.now.groups.slab key) c.args.login.now.message.items p)))

-- src/groups.rt
pub loop-entry-preserved : goal.loop-entry-preserved
loop-entry-preserved g c =
    (tt, tt, ahead_behind (λ key. Admits (known c.args.self.now.groups.slab key) c.args.login.now.message.items) _ _ (rw c.in-Some.ensures.steps at c.loop-entry.invariant.2) (λ p. not_true (c.if-admits.ensures.all p)))

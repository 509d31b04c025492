use Rattle.std.proofs.Common.{◌∙◌}
use Rattle.relay_logins.specs.Groups.{HasNumber}
use Rattle.relay_logins.proofs.Ahead.{ahead_at_first, ahead_behind, not_true}
use Rattle.relay_logins.proofs.groups.Groups.key_of.Goals as goal

-- src/groups.rt
pub loop-entry-init : goal.loop-entry-init
loop-entry-init g c =
    let left = c.into_iter-entry-iterator.ensures.into_iter_gives ∙ c.iter-entry-items.ensures in
    (tt, tt, rw left (ahead_at_first (λ key. HasNumber c.args.self.now.groups.slab c.args.number key) c.args.self.now.groups.slab (λ key p. p.0)))

-- src/groups.rt
pub loop-entry-preserved : goal.loop-entry-preserved
loop-entry-preserved g c =
    (tt, tt, ahead_behind (λ key. HasNumber c.args.self.now.groups.slab c.args.number key) _ _ (rw c.in-Some.ensures.steps at c.loop-entry.invariant.2) (λ p. not_true (c.if-has_number.ensures.all p)))

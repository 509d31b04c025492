use Rattle.std.proofs.Common.{ℕ, ◌==◌, not, rules}
use Rattle.std.proofs.lemmas.Fn.{filter_same}
use Rattle.tds_relay.proofs.pool.lists.remove_key.Goals as goal

pub returns : goal.returns
returns c = filter_same _ (λ (x : ℕ). not (x == c.args.key)) _ (λ x b q t. (search rules, search rules)) _ _ c.retain.ensures.filtered

-- What nobody held nobody holds, behind what a call does first, and the same waits there.
use Rattle.std.proofs.Common.{◌≡◌, ◌⊎◌, ◌∙◌, ℕ, false, true, Option, Some, None, inl, inr, sym, ap, subst}
use Rattle.std.specs.Prelude.{IsSome}
use Rattle.tds_relay.specs.declared.relay.Relay as code
use Rattle.tds_relay.specs.Core.{holder}
use Rattle.tds_relay.specs.Lent.{FirstKeeps, IsWithHolder, KeepsWaits, OthersKeepAt}
use Rattle.tds_relay.specs.Pool.{find_number, key_of, without_number}
use Rattle.tds_relay.specs.Reads.{carried_there, link_at, reader_at}
use Rattle.tds_relay.specs.Ties.{pool_in}
use Rattle.tds_relay.proofs.held.Fewer.{none_left}
use Rattle.tds_relay.proofs.lending.Front.{FreeStays}
use Rattle.tds_relay.proofs.spared.Filling.{first_own, unqueued}

free_by : (But : ℕ → Type 0) (number : ℕ) (old mid : code.Relay) → (But number → ⊥) → But number ⊎ ((find_number number mid.pool.holds.items ≡ find_number number old.pool.holds.items) × (carried_there number mid.links.items ≡ carried_there number old.links.items))
    → holder (pool_in old.pool) number ≡ None → (holder (pool_in mid.pool) number ≡ None) × KeepsWaits number old.links.items mid.links.items
free_by But number old mid not (inl but) none = absurd (not but)
free_by But number old mid not (inr k) none = (ap key_of k.0 ∙ none, inr k.1)

-- it does nothing there
pub free_first : (But : ℕ → Type 0) (old mid : code.Relay) → ((number : ℕ) → holder (pool_in old.pool) number ≡ None → But number → ⊥) → FirstKeeps But old mid → FreeStays old mid
free_first But old mid not first = λ number none. free_by But number old mid (not number none) (first number) none

free_off : (number n : ℕ) (old mid : code.Relay) → mid.pool.holds.items ≡ without_number number old.pool.holds.items → carried_there number mid.links.items ≡ None
    → (n ≡ number) ⊎ ((find_number n mid.pool.holds.items ≡ find_number n old.pool.holds.items) × (carried_there n mid.links.items ≡ carried_there n old.links.items))
    → holder (pool_in old.pool) n ≡ None → (holder (pool_in mid.pool) n ≡ None) × KeepsWaits n old.links.items mid.links.items
free_off number n old mid e gone (inl same) none =
    (ap key_of (ap (find_number n) e ∙ subst (λ (k : ℕ). find_number k (without_number number old.pool.holds.items) ≡ None) (sym same) (none_left number old.pool.holds.items)), inl (ap (λ (k : ℕ). carried_there k mid.links.items) same ∙ gone))
free_off number n old mid e gone (inr k) none = (ap key_of k.0 ∙ none, inr k.1)

-- one is lost
pub free_lost : (number : ℕ) (old mid : code.Relay) → mid.pool.holds.items ≡ without_number number old.pool.holds.items → reader_at number mid.links.items ≡ None → FirstKeeps (λ (n : ℕ). n ≡ number) old mid → FreeStays old mid
free_lost number old mid e gone first = λ n none. free_off number n old mid e (unqueued (link_at number mid.links.items) gone) (first n) none

pub no_holder : (o p : Option ℕ) → o ≡ None → IsSome p × (o ≡ p) → ⊥
no_holder o p none x = let u : false ≡ true = subst (λ (w : Option ℕ). IsSome w) (sym x.1 ∙ none) x.0 in let v : ⊥ = cc in v

-- something is done for who holds one
pub free_with : (number : ℕ) (old mid : code.Relay) → FirstKeeps (IsWithHolder number old) old mid → FreeStays old mid
free_with number old mid first = free_first (IsWithHolder number old) old mid (λ n none with. no_holder (holder (pool_in old.pool) n) (holder (pool_in old.pool) number) none with) first

not_some : (key : ℕ) (o : Option ℕ) → o ≡ None → o ≡ Some key → ⊥
not_some key o none is = let u : None ≡ Some key = sym none ∙ is in let v : ⊥ = cc in v

-- one application does something on its own
pub free_own : (key : ℕ) (old mid : code.Relay) → OthersKeepAt key old mid → FreeStays old mid
free_own key old mid keeps = free_first (λ (n : ℕ). holder (pool_in old.pool) n ≡ Some key) old mid (λ n none is. not_some key (holder (pool_in old.pool) n) none is) (first_own key old mid keeps)

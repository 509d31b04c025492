-- What the laws rest on.
use Rattle.std.proofs.Common.{◌≡◌, ℕ, Bool, true, false, List, [], ◌∷◌, Option, Some, None, refl, sym, ap, ◌∙◌, cond}
use Rattle.std.proofs.Math.Dec.{eqb}
use Rattle.std.proofs.lemmas.Bool.{eqb-true}
use Rattle.std.specs.Prelude.{◌==◌, ◌&&◌, IsSome, IfSome}
use Rattle.tds_pool.specs.declared.lease.Lease.{Lease}
use Rattle.tds_pool.specs.declared.lease.Turn.{Turn}
use Rattle.tds_pool.specs.Connections.{Connection, numbered, taken_out, same_turn}
use Rattle.tds_pool.specs.Calls.{only, lent_to, lent_next, is_leased, is_free, is_idle, is_lendable, is_lent_for}
use Rattle.tds_pool.proofs.Taken.{gone}
use Rattle.tds_pool.proofs.Turns.{both_hold, same_is}

-- two that are known and have one number have one key, and one turn
first_holds : (b l : Bool) (c : Connection) → IsSome (cond (b && l) (Some c) None) → b ≡ true
first_holds true l c h = refl
first_holds false l c h = absurd (cc)

second_holds : (b l : Bool) (c : Connection) → IsSome (cond (b && l) (Some c) None) → IsSome (cond l (Some c) None)
second_holds true l c h = h
second_holds false l c h = absurd (cc)

abbrev Stands : ℕ → Turn → Connection → Bool
Stands key turn c = (c.key == key) && is_lent_for turn c.turn c.place

pub key_of_known : (k : ℕ) (t : Turn) (c : Connection) → IsSome (cond (Stands k t c) (Some c) None) → c.key ≡ k
key_of_known k t c h = eqb-true c.key k (first_holds (eqb c.key k) (is_lent_for t c.turn c.place) c h)

pub turn_of_known : (k : ℕ) (t : Turn) (c : Connection) → IsSome (cond (Stands k t c) (Some c) None) → c.turn ≡ t
turn_of_known k t c h = same_is c.turn t (first_holds (same_turn c.turn t) (is_leased c.place) c (second_holds (eqb c.key k) (is_lent_for t c.turn c.place) c h))

same_key : (k m : ℕ) (t u : Turn) (o : Option Connection) → IsSome (only (Stands k t) o) → IsSome (only (Stands m u) o) → (k ≡ m) × (t ≡ u)
same_key k m t u None h i = absurd (cc)
same_key k m t u (Some c) h i = (sym (key_of_known k t c h) ∙ key_of_known m u c i, sym (turn_of_known k t c h) ∙ turn_of_known m u c i)

both_same : (a b : Lease) (cs : List Connection) → IsSome (lent_to a cs) → IsSome (lent_to b cs) → a.number ≡ b.number → (a.key ≡ b.key) × (a.turn ≡ b.turn)
both_same a b cs h i e =
    let j : IsSome (only (Stands a.key a.turn) (numbered b.number cs)) = rw e at h in
    same_key a.key b.key a.turn b.turn (numbered b.number cs) j i

pub one_each : (a b : Lease) (cs : List Connection) → IsSome (lent_to a cs) → IsSome (lent_to b cs) → a.number ≡ b.number → a.key ≡ b.key
one_each a b cs h i e = (both_same a b cs h i e).0

pub one_turn_each : (a b : Lease) (cs : List Connection) → IsSome (lent_to a cs) → IsSome (lent_to b cs) → a.number ≡ b.number → a.turn ≡ b.turn
one_turn_each a b cs h i e = (both_same a b cs h i e).1

pub were_idle : (cs : List Connection) → IfSome (lent_next cs) (λ c. (is_free c.place ≡ true) × (is_idle c.client.stage ≡ true))
were_idle [] = tt
were_idle (c ∷ cs) = by (is_lendable c) refl (were_idle cs) where
  by : (b : Bool) → is_lendable c ≡ b → IfSome (lent_next cs) (λ d. (is_free d.place ≡ true) × (is_idle d.client.stage ≡ true)) → IfSome (cond b (Some c) (lent_next cs)) (λ d. (is_free d.place ≡ true) × (is_idle d.client.stage ≡ true))
  by true h rest = both_hold (is_free c.place) (is_idle c.client.stage) h
  by false h rest = rest

pub out_unknown : (lease : Lease) (cs : List Connection) → lent_to lease (taken_out lease.number cs) ≡ None
out_unknown lease cs = ap (only (λ (c : Connection). (c.key == lease.key) && is_lent_for lease.turn c.turn c.place)) (gone lease.number cs)

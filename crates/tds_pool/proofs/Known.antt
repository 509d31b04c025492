-- The lease that is handed out is known, and before it no lease of that connection was.
use Rattle.std.proofs.Common.{◌≡◌, ℕ, Bool, true, false, List, [], ◌∷◌, ◌++◌, Option, Some, None, refl, sym, ap, subst, ◌∙◌, cond}
use Rattle.std.proofs.lemmas.Bool.{eq-eqb}
use Rattle.std.specs.Prelude.{◌==◌, ◌&&◌, IsSome, IfSome, option_map}
use Rattle.tds_client.specs.Session.{marked}
use Rattle.tds_packet.specs.declared.status.Reset.{Reset}
use Rattle.tds_pool.specs.declared.lease.Lease.{Lease}
use Rattle.tds_pool.specs.declared.lease.Turn.{Turn}
use Rattle.tds_pool.specs.declared.seat.Place.{Place}
use Rattle.tds_pool.specs.declared.seat.Place.TheVariants as places
use Rattle.tds_pool.specs.Connections.{Connection, numbered, changed_in, first_turn, same_turn}
use Rattle.tds_pool.specs.Calls.{only, lent_to, lent_again, lent_next, is_leased, is_free, is_idle, is_lendable, is_lent_for, new_connection}
use Rattle.tds_pool.proofs.Others.{changed_here, added_here}
use Rattle.tds_pool.proofs.Over.{elsewhere}
use Rattle.tds_pool.proofs.Turns.{is_same}

abbrev lease_of : ℕ → ℕ → Turn → Lease
lease_of key number turn = record { key = key; number = number; turn = turn }

both_true : (a b : Bool) (c : Connection) → a ≡ true → b ≡ true → IsSome (cond (a && (b && true)) (Some c) None)
both_true true true c h i = refl
both_true true false c h i = absurd (cc)
both_true false b c h i = absurd (cc)

stands : (c : Connection) → is_leased c.place ≡ true → IsSome (only (λ (d : Connection). (d.key == c.key) && is_lent_for c.turn d.turn d.place) (Some c))
stands c h =
    subst (λ (l : Bool). IsSome (cond ((c.key == c.key) && (same_turn c.turn c.turn && l)) (Some c) None)) (sym h)
    (both_true (c.key == c.key) (same_turn c.turn c.turn) c (eq-eqb c.key c.key refl) (is_same c.turn))

pub known_again : (c : Connection) (reset : Reset) (cs : List Connection) → numbered c.number cs ≡ Some c
    → IsSome (lent_to (lease_of c.key c.number c.turn) (lent_again c.number reset cs))
known_again c reset cs is =
    let f : Connection → Connection = λ (d : Connection). record d { place = places.Leased; client = marked d.client reset } in
    let here : numbered c.number (changed_in c.number f cs) ≡ Some (f c) = changed_here c.number f cs (λ d. refl) ∙ ap (option_map f) is in
    subst (λ o. IsSome (only (λ (d : Connection). (d.key == c.key) && is_lent_for c.turn d.turn d.place) o)) (sym here) (stands (f c) refl)

pub known_new : (pool number key size : ℕ) (cs : List Connection) → numbered number cs ≡ None
    → IsSome (lent_to (lease_of key number (first_turn pool)) (cs ++ new_connection pool number key size ∷ []))
known_new pool number key size cs is =
    subst (λ o. IsSome (only (λ (d : Connection). (d.key == key) && is_lent_for (first_turn pool) d.turn d.place) o)) (sym (added_here (new_connection pool number key size) cs is)) (stands (new_connection pool number key size) refl)

-- what is lent next is free
free_not_leased : (place : Place) (b : Bool) → (is_free place && b) ≡ true → is_leased place ≡ false
free_not_leased places.Leased b h = absurd (cc)
free_not_leased places.Kept b h = absurd (cc)
free_not_leased places.Free b h = refl
free_not_leased places.Draining b h = absurd (cc)
free_not_leased places.Cleaning b h = absurd (cc)

next_unleased : (cs : List Connection) → IfSome (lent_next cs) (λ c. is_leased c.place ≡ false)
next_unleased [] = tt
next_unleased (c ∷ cs) = by (is_lendable c) refl (next_unleased cs) where
  by : (b : Bool) → is_lendable c ≡ b → IfSome (lent_next cs) (λ d. is_leased d.place ≡ false) → IfSome (cond b (Some c) (lent_next cs)) (λ d. is_leased d.place ≡ false)
  by true h rest = free_not_leased c.place (is_idle c.client.stage) h
  by false h rest = rest

pub known_before : (lease : Lease) (cs : List Connection) → IfSome (lent_next cs) (λ c. numbered c.number cs ≡ Some c → lease.number ≡ c.number → lent_to lease cs ≡ None)
known_before lease cs = by (lent_next cs) (next_unleased cs) where
  by : (o : Option Connection) → IfSome o (λ c. is_leased c.place ≡ false) → IfSome o (λ c. numbered c.number cs ≡ Some c → lease.number ≡ c.number → lent_to lease cs ≡ None)
  by None h = tt
  by (Some c) h = λ is number.
      ap (λ n. only (λ (d : Connection). (d.key == lease.key) && is_lent_for lease.turn d.turn d.place) (numbered n cs)) number
      ∙ ap (only (λ (d : Connection). (d.key == lease.key) && is_lent_for lease.turn d.turn d.place)) is
      ∙ elsewhere is_leased lease.key lease.turn c h

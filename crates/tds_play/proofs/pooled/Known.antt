-- What leases and tickets stand for, where one connection of the pool changes, and where one of them begins or
-- ends.
use Rattle.std.proofs.Common.{◌≡◌, ◌≢◌, ◌∙◌, ◌⊎◌, inl, inr, ℕ, suc, ◌<◌, ◌≤◌, List, [], ◌∷◌, ◌++◌, length, Option, Some, None, sym, ap, subst, arith}
use Rattle.std.specs.List.{slice_get}
use Rattle.std.specs.Prelude.{slice_set}
use Rattle.tds_pool.specs.Connections.{Connection, numbered}
use Rattle.tds_pool.specs.declared.seat.Place.{Place}
use Rattle.tds_play.specs.Pooled.{IsKnown, Stamp, StandsAs, holder_at, stamp_of}
use Rattle.tds_play.specs.declared.seat.Held.{Held}
use Rattle.tds_play.proofs.pooled.Changes.{SameBut, by_number}
use Rattle.tds_play.proofs.pooled.Slots.{HeldBut, emptied, filled, pushed}

-- ---- One of them

same_some : (c d : Connection) (o : Option Connection) → o ≡ Some c → o ≡ Some d → d ≡ c
same_some c d o a b = let e : Some d ≡ Some c = sym b ∙ a in cc

-- Another connection changes.
known_other : {E S : Type 0} (place : Place) (holder : ℕ) (stamp : Stamp) (conn n : ℕ) (hs new : List (Held E S)) (pcs then : List Connection) → IsKnown place holder stamp conn hs pcs → conn ≢ n → SameBut n pcs then → HeldBut n hs new → IsKnown place holder stamp conn new then
known_other place holder stamp conn n hs new pcs then k other same held =
    let more = held.more in
    let last = k.last in
    record {
      first = k.first;
      last = omega (arith, more, last);
      stands = λ c at. k.stands c (sym (same conn other) ∙ at);
      holds = λ c at. held.others conn k.first k.last other ∙ k.holds c (sym (same conn other) ∙ at);
    }

-- Its connection is in the pool no longer.
known_gone : {E S : Type 0} (place : Place) (holder : ℕ) (stamp : Stamp) (conn : ℕ) (hs new : List (Held E S)) (pcs then : List Connection) → IsKnown place holder stamp conn hs pcs → numbered conn then ≡ None → length hs ≤ length new → IsKnown place holder stamp conn new then
known_gone {E} {S} place holder stamp conn hs new pcs then k gone more =
    let last = k.last in
    record {
      first = k.first;
      last = omega (arith, more, last);
      stands = λ c at. absurd (none c at);
      holds = λ c at. absurd (none c at);
    }
  where
    none : (c : Connection) → numbered conn then ≡ Some c → ⊥
    none c at = let bad : None ≡ Some c = sym gone ∙ at in cc

-- Its connection keeps its key, its turn, its place and its holder.
known_same : {E S : Type 0} (place : Place) (holder : ℕ) (stamp : Stamp) (conn : ℕ) (hs new : List (Held E S)) (pcs then : List Connection) (c d : Connection) → IsKnown place holder stamp conn hs pcs → numbered conn pcs ≡ Some c → numbered conn then ≡ Some d → stamp_of d ≡ stamp_of c → d.place ≡ c.place → length hs ≤ length new → holder_at new conn ≡ holder_at hs conn → IsKnown place holder stamp conn new then
known_same {E} {S} place holder stamp conn hs new pcs then c d k at now same_stamp same_place more same_holder =
    let last = k.last in
    record {
      first = k.first;
      last = omega (arith, more, last);
      stands = stands;
      holds = λ x found. same_holder ∙ k.holds c at;
    }
  where
    stands : (x : Connection) → numbered conn then ≡ Some x → StandsAs stamp place x
    stands x found =
        let is : x ≡ d = same_some d x (numbered conn then) now found in
        record {
          stamp_is = ap stamp_of is ∙ same_stamp ∙ (k.stands c at).stamp_is;
          place_is = ap (λ (y : Connection). y.place) is ∙ same_place ∙ (k.stands c at).place_is;
        }

-- One that begins.
pub known_new : {E S : Type 0} (place : Place) (holder : ℕ) (stamp : Stamp) (conn : ℕ) (hs : List (Held E S)) (pcs : List Connection) (c : Connection) → 0 < conn → conn ≤ length hs → numbered conn pcs ≡ Some c → stamp_of c ≡ stamp → c.place ≡ place → holder_at hs conn ≡ Some holder → IsKnown place holder stamp conn hs pcs
known_new {E} {S} place holder stamp conn hs pcs c first last at same_stamp same_place held = record {
  first = first;
  last = last;
  stands = stands;
  holds = λ x found. held;
}
  where
    stands : (x : Connection) → numbered conn pcs ≡ Some x → StandsAs stamp place x
    stands x found =
        let is : x ≡ c = same_some c x (numbered conn pcs) at found in
        record {
          stamp_is = ap stamp_of is ∙ same_stamp;
          place_is = ap (λ (y : Connection). y.place) is ∙ same_place;
        }

-- ---- All leases, or all tickets

-- Those of a kind, of which this tells the key and turn, and the number.
abbrev pub AreOf : {L E S : Type 0} → Place → (L → Stamp) → (L → ℕ) → List (Option L) → List (Held E S) → List Connection → Type 0
AreOf {L} place stamp number xs hs pcs = (k : ℕ) (x : L) → slice_get xs k ≡ Some (Some x) → IsKnown place (suc k) (stamp x) (number x) hs pcs

-- Those of other connections stay, and so do those of this one where each of them is known then.
pub of_but : {L E S : Type 0} (place : Place) (stamp : L → Stamp) (number : L → ℕ) (xs : List (Option L)) (n : ℕ) (hs new : List (Held E S)) (pcs then : List Connection) → AreOf place stamp number xs hs pcs → SameBut n pcs then → HeldBut n hs new → ((k : ℕ) (x : L) → slice_get xs k ≡ Some (Some x) → number x ≡ n → IsKnown place (suc k) (stamp x) (number x) new then) → AreOf place stamp number xs new then
of_but place stamp number xs n hs new pcs then all same held here k x at =
    by_number _ (number x) n
    (λ is e. here k x at is)
    (λ other e. known_other place (suc k) (stamp x) (number x) n hs new pcs then (all k x at) other same held)

-- Nobody of this kind holds a connection that stands elsewhere.
pub of_elsewhere : {L E S : Type 0} (place : Place) (stamp : L → Stamp) (number : L → ℕ) (xs : List (Option L)) (n : ℕ) (hs new : List (Held E S)) (pcs then : List Connection) (c : Connection) → AreOf place stamp number xs hs pcs → SameBut n pcs then → HeldBut n hs new → numbered n pcs ≡ Some c → c.place ≢ place → AreOf place stamp number xs new then
of_elsewhere place stamp number xs n hs new pcs then c all same held there elsewhere =
    of_but place stamp number xs n hs new pcs then all same held
    (λ k x at is. absurd (elsewhere ((all k x at).stands c (ap (λ (m : ℕ). numbered m pcs) is ∙ there)).place_is))

-- Nor one that the play doesn't have yet.
pub of_unknown : {L E S : Type 0} (place : Place) (stamp : L → Stamp) (number : L → ℕ) (xs : List (Option L)) (n : ℕ) (hs new : List (Held E S)) (pcs then : List Connection) → AreOf place stamp number xs hs pcs → SameBut n pcs then → HeldBut n hs new → length hs < n → AreOf place stamp number xs new then
of_unknown {L} {E} {S} place stamp number xs n hs new pcs then all same held far =
    of_but place stamp number xs n hs new pcs then all same held (λ k x at is. absurd (none k x at is))
  where
    none : (k : ℕ) (x : L) → slice_get xs k ≡ Some (Some x) → number x ≡ n → ⊥
    none k x at is = let last = (all k x at).last in omega (arith, last, far, is)

-- The connection is in the pool no longer.
pub of_gone : {L E S : Type 0} (place : Place) (stamp : L → Stamp) (number : L → ℕ) (xs : List (Option L)) (n : ℕ) (hs new : List (Held E S)) (pcs then : List Connection) → AreOf place stamp number xs hs pcs → SameBut n pcs then → HeldBut n hs new → numbered n then ≡ None → AreOf place stamp number xs new then
of_gone place stamp number xs n hs new pcs then all same held gone =
    of_but place stamp number xs n hs new pcs then all same held
    (λ k x at is. known_gone place (suc k) (stamp x) (number x) hs new pcs then (all k x at) (ap (λ (m : ℕ). numbered m then) is ∙ gone) held.more)

-- The connection keeps its key, its turn, its place and its holder.
pub of_same : {L E S : Type 0} (place : Place) (stamp : L → Stamp) (number : L → ℕ) (xs : List (Option L)) (n : ℕ) (hs new : List (Held E S)) (pcs then : List Connection) (c d : Connection) → AreOf place stamp number xs hs pcs → SameBut n pcs then → HeldBut n hs new → numbered n pcs ≡ Some c → numbered n then ≡ Some d → stamp_of d ≡ stamp_of c → d.place ≡ c.place → holder_at new n ≡ holder_at hs n → AreOf place stamp number xs new then
of_same place stamp number xs n hs new pcs then c d all same held there now same_stamp same_place same_holder =
    of_but place stamp number xs n hs new pcs then all same held
    (λ k x at is.
    known_same place (suc k) (stamp x) (number x) hs new pcs then c d (all k x at)
    (ap (λ (m : ℕ). numbered m pcs) is ∙ there)
    (ap (λ (m : ℕ). numbered m then) is ∙ now)
    same_stamp same_place held.more
    (ap (holder_at new) is ∙ same_holder ∙ ap (holder_at hs) (sym is)))

-- One of them ends, whose connection was in the pool, and what becomes of that is free.
pub of_ended : {L E S : Type 0} (place : Place) (stamp : L → Stamp) (number : L → ℕ) (xs : List (Option L)) (j : ℕ) (x : L) (hs new : List (Held E S)) (pcs then : List Connection) (c : Connection) → AreOf place stamp number xs hs pcs → slice_get xs j ≡ Some (Some x) → SameBut (number x) pcs then → HeldBut (number x) hs new → numbered (number x) pcs ≡ Some c → AreOf place stamp number (slice_set xs j None) new then
of_ended {L} {E} {S} place stamp number xs j x hs new pcs then c all had same held there k y at =
    let was : (k ≢ j) × (slice_get xs k ≡ Some (Some y)) = emptied xs j k y at in
    by_number _ (number y) (number x)
    (λ is e. absurd (was.0 (alone was.1 is)))
    (λ other e. known_other place (suc k) (stamp y) (number y) (number x) hs new pcs then (all k y was.1) other same held)
  where
    alone : slice_get xs k ≡ Some (Some y) → number y ≡ number x → k ≡ j
    alone has is =
        let one : holder_at hs (number x) ≡ Some (suc j) = (all j x had).holds c there in
        let two : holder_at hs (number y) ≡ Some (suc k) = (all k y has).holds c (ap (λ (m : ℕ). numbered m pcs) is ∙ there) in
        let both : Some (suc k) ≡ Some (suc j) = sym two ∙ ap (holder_at hs) is ∙ one in
        let sames : suc k ≡ suc j = cc in
        omega (arith, sames)

-- One of them ends, and nothing changes.
pub of_emptied : {L E S : Type 0} (place : Place) (stamp : L → Stamp) (number : L → ℕ) (xs : List (Option L)) (j : ℕ) (hs : List (Held E S)) (pcs : List Connection) → AreOf place stamp number xs hs pcs → AreOf place stamp number (slice_set xs j None) hs pcs
of_emptied place stamp number xs j hs pcs all k y at = all k y (emptied xs j k y at).1

-- A slot that is empty comes behind all.
pub of_room : {L E S : Type 0} (place : Place) (stamp : L → Stamp) (number : L → ℕ) (xs : List (Option L)) (hs : List (Held E S)) (pcs : List Connection) → AreOf place stamp number xs hs pcs → AreOf place stamp number (xs ++ None ∷ []) hs pcs
of_room {L} {E} {S} place stamp number xs hs pcs all k y at = by_slot (pushed xs None k y at)
  where
    by_slot : ((k ≡ length xs) × (None ≡ Some y)) ⊎ (slice_get xs k ≡ Some (Some y)) → IsKnown place (suc k) (stamp y) (number y) hs pcs
    by_slot (inl t) = let bad : None ≡ Some y = t.1 in absurd (cc)
    by_slot (inr t) = all k y t

-- One of them begins in a slot behind all, or in one that is there.
pub of_begun : {L E S : Type 0} (place : Place) (stamp : L → Stamp) (number : L → ℕ) (xs : List (Option L)) (x : L) (hs : List (Held E S)) (pcs : List Connection) → AreOf place stamp number xs hs pcs → IsKnown place (suc (length xs)) (stamp x) (number x) hs pcs → AreOf place stamp number (xs ++ Some x ∷ []) hs pcs
of_begun {L} {E} {S} place stamp number xs x hs pcs all known k y at = by_slot (pushed xs (Some x) k y at)
  where
    by_slot : ((k ≡ length xs) × (Some x ≡ Some y)) ⊎ (slice_get xs k ≡ Some (Some y)) → IsKnown place (suc k) (stamp y) (number y) hs pcs
    by_slot (inl t) =
        let is : y ≡ x = let e : Some x ≡ Some y = t.1 in cc in
        subst (λ (z : L). IsKnown place (suc k) (stamp z) (number z) hs pcs) (sym is)
        (subst (λ (m : ℕ). IsKnown place (suc m) (stamp x) (number x) hs pcs) (sym t.0) known)
    by_slot (inr t) = all k y t

pub of_filled : {L E S : Type 0} (place : Place) (stamp : L → Stamp) (number : L → ℕ) (xs : List (Option L)) (j : ℕ) (x : L) (hs : List (Held E S)) (pcs : List Connection) → AreOf place stamp number xs hs pcs → IsKnown place (suc j) (stamp x) (number x) hs pcs → AreOf place stamp number (slice_set xs j (Some x)) hs pcs
of_filled {L} {E} {S} place stamp number xs j x hs pcs all known k y at = by_slot (filled xs j k x y at)
  where
    by_slot : ((k ≡ j) × (y ≡ x)) ⊎ (slice_get xs k ≡ Some (Some y)) → IsKnown place (suc k) (stamp y) (number y) hs pcs
    by_slot (inl t) =
        subst (λ (z : L). IsKnown place (suc k) (stamp z) (number z) hs pcs) (sym t.1)
        (subst (λ (m : ℕ). IsKnown place (suc m) (stamp x) (number x) hs pcs) (sym t.0) known)
    by_slot (inr t) = all k y t

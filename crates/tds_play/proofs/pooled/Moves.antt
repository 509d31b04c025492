-- Each connection of a play in its seat, at each call of its pool.
use Rattle.std.proofs.Common.{◌≡◌, ◌∙◌, ℕ, zero, suc, ◌+◌, List, [], ◌∷◌, ◌++◌, length, Some, None, refl, sym, ap, arith}
use Rattle.std.specs.List.{slice_get}
use Rattle.std.specs.Prelude.{option_map, slice_set}
use Rattle.tds_client.specs.Session.{ClientSession, marked}
use Rattle.tds_packet.specs.declared.status.Reset.{Reset}
use Rattle.tds_pool.specs.Calls.{lent_again}
use Rattle.tds_pool.specs.Connections.{Connection, at_place, changed_in, numbered, taken_out, with_client}
use Rattle.tds_pool.specs.declared.seat.Place.{Place}
use Rattle.tds_pool.specs.declared.seat.Place.TheVariants.{Leased}
use Rattle.tds_play.specs.Pooled.{seated_from, seated_in}
use Rattle.tds_play.specs.declared.seat.Held.{Held}
use Rattle.tds_play.proofs.pooled.Changes.{KeepsNumber, added_here, added_others, changed_here, changed_others, taken_gone, taken_others}
use Rattle.tds_play.proofs.pooled.Seated.{seated_more, seated_set}

-- The connection at a place changes in the pool, and maybe in the list.
pub seated_changed : {E S : Type 0} (place : ℕ) (f : Connection → Connection) (hs : List (Held E S)) (h : Held E S) (pcs : List Connection) (c : Connection) → KeepsNumber f → numbered (suc place) pcs ≡ Some c → seated_from 1 (slice_set hs place h) (changed_in (suc place) f pcs) ≡ slice_set (seated_from 1 hs pcs) place (seated_in h (Some (f c)))
seated_changed place f hs h pcs c keeps there =
    let one : 1 + place ≡ suc place = omega arith in
    let now : numbered (1 + place) (changed_in (suc place) f pcs) ≡ Some (f c) =
    ap (λ (n : ℕ). numbered n (changed_in (suc place) f pcs)) one ∙ changed_here (suc place) f pcs keeps ∙ ap (option_map f) there in
    seated_set 1 place hs h pcs (changed_in (suc place) f pcs) (λ m other. changed_others (suc place) f pcs keeps m (λ is. other (is ∙ sym one)))
    ∙ ap (λ o. slice_set (seated_from 1 hs pcs) place (seated_in h o)) now

-- The list with what stands at a place there again.
pub set_again : {A : Type 0} (xs : List A) (place : ℕ) (x : A) → slice_get xs place ≡ Some x → slice_set xs place x ≡ xs
set_again [] place x at = refl
set_again (y ∷ xs) zero x at = let is : y ≡ x = cc in ap (λ z. z ∷ xs) (sym is)
set_again (y ∷ xs) (suc place) x at = ap (λ zs. y ∷ zs) (set_again xs place x at)

-- It changes in the pool only.
pub seated_moved : {E S : Type 0} (place : ℕ) (f : Connection → Connection) (hs : List (Held E S)) (h : Held E S) (pcs : List Connection) (c : Connection) → KeepsNumber f → slice_get hs place ≡ Some h → numbered (suc place) pcs ≡ Some c → seated_from 1 hs (changed_in (suc place) f pcs) ≡ slice_set (seated_from 1 hs pcs) place (seated_in h (Some (f c)))
seated_moved place f hs h pcs c keeps at there =
    ap (λ xs. seated_from 1 xs (changed_in (suc place) f pcs)) (sym (set_again hs place h at))
    ∙ seated_changed place f hs h pcs c keeps there

-- Its link changes only.
pub seated_linked : {E S : Type 0} (place : ℕ) (hs : List (Held E S)) (h : Held E S) (pcs : List Connection) → seated_from 1 (slice_set hs place h) pcs ≡ slice_set (seated_from 1 hs pcs) place (seated_in h (numbered (suc place) pcs))
seated_linked place hs h pcs =
    let one : 1 + place ≡ suc place = omega arith in
    seated_set 1 place hs h pcs pcs (λ m other. refl)
    ∙ ap (λ (n : ℕ). slice_set (seated_from 1 hs pcs) place (seated_in h (numbered n pcs))) one

-- Its client changes, or where it stands.
pub seated_client : {E S : Type 0} (place : ℕ) (client : ClientSession) (hs : List (Held E S)) (h : Held E S) (pcs : List Connection) (c : Connection) → numbered (suc place) pcs ≡ Some c → seated_from 1 (slice_set hs place h) (with_client (suc place) client pcs) ≡ slice_set (seated_from 1 hs pcs) place (seated_in h (Some (record c { client = client })))
seated_client place client hs h pcs c there = seated_changed place (λ (d : Connection). record d { client = client }) hs h pcs c (λ d. refl) there

pub seated_placed : {E S : Type 0} (place : ℕ) (stands : Place) (hs : List (Held E S)) (h : Held E S) (pcs : List Connection) (c : Connection) → numbered (suc place) pcs ≡ Some c → seated_from 1 (slice_set hs place h) (at_place (suc place) stands pcs) ≡ slice_set (seated_from 1 hs pcs) place (seated_in h (Some (record c { place = stands })))
seated_placed place stands hs h pcs c there = seated_changed place (λ (d : Connection). record d { place = stands }) hs h pcs c (λ d. refl) there

-- It is lent again.
pub seated_lent : {E S : Type 0} (place : ℕ) (reset : Reset) (hs : List (Held E S)) (h : Held E S) (pcs : List Connection) (c : Connection) → numbered (suc place) pcs ≡ Some c → seated_from 1 (slice_set hs place h) (lent_again (suc place) reset pcs) ≡ slice_set (seated_from 1 hs pcs) place (seated_in h (Some (record c { place = Leased; client = marked c.client reset })))
seated_lent place reset hs h pcs c there = seated_changed place (λ (d : Connection). record d { place = Leased; client = marked d.client reset }) hs h pcs c (λ d. refl) there

-- It is taken out.
pub seated_lost : {E S : Type 0} (place : ℕ) (hs : List (Held E S)) (h : Held E S) (pcs : List Connection) → seated_from 1 (slice_set hs place h) (taken_out (suc place) pcs) ≡ slice_set (seated_from 1 hs pcs) place (seated_in h None)
seated_lost place hs h pcs =
    let one : 1 + place ≡ suc place = omega arith in
    seated_set 1 place hs h pcs (taken_out (suc place) pcs) (λ m other. taken_others (suc place) pcs m (λ is. other (is ∙ sym one)))
    ∙ ap (λ o. slice_set (seated_from 1 hs pcs) place (seated_in h o)) (ap (λ (n : ℕ). numbered n (taken_out (suc place) pcs)) one ∙ taken_gone (suc place) pcs)

-- One more comes behind all, and is in the pool, or isn't.
pub seated_came : {E S : Type 0} (hs : List (Held E S)) (h : Held E S) (pcs : List Connection) (c : Connection) → c.number ≡ suc (length hs) → numbered (suc (length hs)) pcs ≡ None → seated_from 1 (hs ++ h ∷ []) (pcs ++ c ∷ []) ≡ seated_from 1 hs pcs ++ seated_in h (Some c) ∷ []
seated_came {E} {S} hs h pcs c is none =
    let one : 1 + length hs ≡ suc (length hs) = omega arith in
    let here : numbered (1 + length hs) (pcs ++ c ∷ []) ≡ Some c =
    ap (λ (n : ℕ). numbered n (pcs ++ c ∷ [])) (one ∙ sym is) ∙ added_here c pcs (ap (λ (n : ℕ). numbered n pcs) is ∙ none) in
    seated_more 1 hs h (pcs ++ c ∷ [])
    ∙ ap (λ o. seated_from 1 hs (pcs ++ c ∷ []) ++ seated_in h o ∷ []) here
    ∙ ap (λ xs. xs ++ seated_in h (Some c) ∷ []) (seated_before 1 hs one)
  where
    seated_before : (number : ℕ) (ks : List (Held E S)) → number + length ks ≡ suc (length hs) → seated_from number ks (pcs ++ c ∷ []) ≡ seated_from number ks pcs
    seated_before number [] last = refl
    seated_before number (k ∷ ks) last =
        let next : suc number + length ks ≡ number + suc (length ks) = omega arith in
        let total : number + suc (length ks) ≡ suc (length hs) = last in
        ap (λ o. seated_in k o ∷ seated_from (suc number) ks (pcs ++ c ∷ [])) (added_others c pcs number (λ same. let bad : ⊥ = omega (arith, same, is, total) in bad))
        ∙ ap (λ xs. seated_in k (numbered number pcs) ∷ xs) (seated_before (suc number) ks (next ∙ total))

pub seated_came_lost : {E S : Type 0} (hs : List (Held E S)) (h : Held E S) (pcs : List Connection) → numbered (suc (length hs)) pcs ≡ None → seated_from 1 (hs ++ h ∷ []) pcs ≡ seated_from 1 hs pcs ++ seated_in h None ∷ []
seated_came_lost hs h pcs none =
    let one : 1 + length hs ≡ suc (length hs) = omega arith in
    seated_more 1 hs h pcs
    ∙ ap (λ o. seated_from 1 hs pcs ++ seated_in h o ∷ []) (ap (λ (n : ℕ). numbered n pcs) one ∙ none)

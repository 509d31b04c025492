-- Room that is filled from its front.
use Rattle.std.proofs.Common.{◌≡◌, ℕ, ◌+◌, ◌<◌, List, [], ◌∷◌, ◌++◌, length, drop, get_or, slice_set, suc, sym, ◌∙◌, append_assoc, arith}
use Rattle.std.proofs.lemmas.List.{length-append, set_at}
use Rattle.std.proofs.Math.Seq.{drop-cons}
use Rattle.tds_walk.specs.Rooms.{HasRead}

-- one more value stands at the front of what was there
front_on : {A : Type 0} → (read before : List A) (x : A) (n : ℕ) → length read ≡ n → n < length before → slice_set (read ++ drop n before) n x ≡ read ++ x ∷ drop (suc n) before
front_on read before x n counted within = rw (drop-cons before n x within) (set_at read (get_or before n x) (drop (suc n) before) x n counted)

pub written_on : {A : Type 0} → (read before after : List A) (x : A) (i : ℕ) → HasRead read (record { before = before; after = after; count = i }) → i < length before
    → HasRead (read ++ x ∷ []) (record { before = before; after = slice_set after i x; count = i + 1 })
written_on read before after x i written within =
    let counted : length read ≡ i = sym written.1 in
    let more : length (read ++ x ∷ []) ≡ suc i = omega (arith, length-append read (x ∷ []), counted) in
    (rw (written.0, counted, more) (front_on read before x i counted within ∙ sym (append_assoc read (x ∷ []) (drop (suc i) before))), omega (arith, more))

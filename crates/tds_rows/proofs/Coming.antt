-- A value in parts, byte by byte.
use Rattle.std.proofs.Common.{◌≡◌, ◌∙◌, ◌≤◌, ◌<◌, ℕ, zero, suc, ◌+◌, ◌-◌, Bool, true, List, [], ◌∷◌, ◌++◌, length, take, drop, get_or, if◌then◌else◌, refl, sym, ap, arith, rules, append_assoc}
use Rattle.std.specs.Prelude.{nat_lt}
use Rattle.std.proofs.Common.{take-add}
use Rattle.std.proofs.lemmas.List.{append-nil, length-drop, take_more}
use Rattle.tds_rows.specs.Pieces.{PartsAt, InLength, InCount, InPart, PartsOver, PartsNull, Beyond, after_byte, is_in_prefix, left_after, own_byte, own_bytes, parts_after}

-- one byte more
after_push : (at : PartsAt) (bytes : List ℕ) (b : ℕ) → parts_after at (bytes ++ b ∷ []) ≡ after_byte (parts_after at bytes) b
unfolding parts_after
after_push at [] b = refl
after_push at (x ∷ bytes) b = after_push (after_byte at x) bytes b

own_push : (at : PartsAt) (bytes : List ℕ) (b : ℕ) → own_bytes at (bytes ++ b ∷ []) ≡ own_bytes at bytes ++ own_byte (parts_after at bytes) b
unfolding parts_after own_bytes
own_push at [] b = append-nil (own_byte at b)
own_push at (x ∷ bytes) b =
    ap (λ (xs : List ℕ). own_byte at x ++ xs) (own_push (after_byte at x) bytes b)
    ∙ sym (append_assoc (own_byte at x) (own_bytes (after_byte at x) bytes) (own_byte (parts_after (after_byte at x) bytes) b))

none_of_prefix : (at : PartsAt) (b : ℕ) → is_in_prefix at ≡ true → own_byte at b ≡ []
none_of_prefix (InLength seen ones) b h = refl
none_of_prefix (InCount came) b h = refl
none_of_prefix (InPart left) b h = absurd cc
none_of_prefix PartsOver b h = absurd cc
none_of_prefix PartsNull b h = absurd cc
none_of_prefix Beyond b h = absurd cc

pub after_none : (at : PartsAt) (bytes : List ℕ) → parts_after at (take 0 bytes) ≡ at
unfolding parts_after
after_none at bytes = refl

pub own_none : (at : PartsAt) (bytes : List ℕ) → own_bytes at (take 0 bytes) ≡ []
unfolding own_bytes
own_none at bytes = refl

pub after_more : (at now new : PartsAt) (bytes : List ℕ) (i : ℕ) → i < length bytes → parts_after at (take i bytes) ≡ now → new ≡ after_byte now (get_or bytes i 0)
    → parts_after at (take (i + 1) bytes) ≡ new
after_more at now new bytes i l e f =
    ap (parts_after at) (take_more bytes i 0 l) ∙ (after_push at (take i bytes) (get_or bytes i 0) ∙ (ap (λ (x : PartsAt). after_byte x (get_or bytes i 0)) e ∙ sym f))

pub own_more : (at now : PartsAt) (bytes : List ℕ) (i : ℕ) → i < length bytes → parts_after at (take i bytes) ≡ now → own_bytes at (take i bytes) ≡ [] → is_in_prefix now ≡ true
    → own_bytes at (take (i + 1) bytes) ≡ []
own_more at now bytes i l e f h =
    ap (own_bytes at) (take_more bytes i 0 l)
    ∙ (own_push at (take i bytes) (get_or bytes i 0)
    ∙ (ap (λ (xs : List ℕ). xs ++ own_byte (parts_after at (take i bytes)) (get_or bytes i 0)) f
    ∙ none_of_prefix (parts_after at (take i bytes)) (get_or bytes i 0) (ap is_in_prefix e ∙ h)))

-- ---- Bytes behind others

pub after_append : (at : PartsAt) (xs ys : List ℕ) → parts_after at (xs ++ ys) ≡ parts_after (parts_after at xs) ys
unfolding parts_after
after_append at [] ys = refl
after_append at (x ∷ xs) ys = after_append (after_byte at x) xs ys

pub own_append : (at : PartsAt) (xs ys : List ℕ) → own_bytes at (xs ++ ys) ≡ own_bytes at xs ++ own_bytes (parts_after at xs) ys
unfolding parts_after own_bytes
own_append at [] ys = refl
own_append at (x ∷ xs) ys =
    ap (λ (zs : List ℕ). own_byte at x ++ zs) (own_append (after_byte at x) xs ys)
    ∙ sym (append_assoc (own_byte at x) (own_bytes (after_byte at x) xs) (own_bytes (parts_after (after_byte at x) xs) ys))

-- ---- Bytes of a part

last_left : (left : ℕ) → (nat_lt 1 (suc (suc left))) ≡ true
last_left left = search rules

left_more : (left n : ℕ) → left_after (suc (suc left) - 1) n ≡ left_after (suc (suc left)) (suc n)
left_more left n =
    let a : suc (suc left) - 1 ≡ suc left = omega arith in
    let b : suc (suc left) - suc n ≡ suc left - n = omega arith in
    let c : nat_lt (suc n) (suc (suc left)) ≡ nat_lt n (suc left) = search rules in
    rw (a, b, c) refl

pub part_to : (left n : ℕ) (bytes : List ℕ) → 0 < left → n ≤ left → n ≤ length bytes → parts_after (InPart left) (take n bytes) ≡ left_after left n
unfolding parts_after
part_to zero n bytes l m k = absurd (omega (arith, l))
part_to (suc left) zero bytes l m k = let a : nat_lt 0 (suc left) ≡ true = search rules in let b : suc left - 0 ≡ suc left = omega arith in rw (a, b) refl
part_to (suc left) (suc n) [] l m k = absurd (omega (arith, k))
part_to (suc zero) (suc zero) (b ∷ bytes) l m k = refl
part_to (suc zero) (suc (suc n)) (b ∷ bytes) l m k = absurd (omega (arith, m))
part_to (suc (suc left)) (suc n) (b ∷ bytes) l m k =
    ap (λ (t : Bool). parts_after (if t then InPart (suc (suc left) - 1) else InCount []) (take n bytes)) (last_left left)
    ∙ (part_to (suc (suc left) - 1) n bytes (omega arith) (omega (arith, m)) (omega (arith, k)) ∙ left_more left n)

pub part_own : (left n : ℕ) (bytes : List ℕ) → 0 < left → n ≤ left → n ≤ length bytes → own_bytes (InPart left) (take n bytes) ≡ take n bytes
unfolding own_bytes
part_own left zero bytes l m k = refl
part_own zero (suc n) bytes l m k = absurd (omega (arith, l))
part_own (suc left) (suc n) [] l m k = absurd (omega (arith, k))
part_own (suc zero) (suc zero) (b ∷ bytes) l m k = refl
part_own (suc zero) (suc (suc n)) (b ∷ bytes) l m k = absurd (omega (arith, m))
part_own (suc (suc left)) (suc n) (b ∷ bytes) l m k =
    ap (λ (t : Bool). b ∷ own_bytes (if t then InPart (suc (suc left) - 1) else InCount []) (take n bytes)) (last_left left)
    ∙ ap (λ (xs : List ℕ). b ∷ xs) (part_own (suc (suc left) - 1) n bytes (omega arith) (omega (arith, m)) (omega (arith, k)))

-- so many bytes of a part, behind what stands before it
module _ (at middle : PartsAt) (bytes : List ℕ) (start left n : ℕ) where
  pub to_part : parts_after at (take start bytes) ≡ middle → (middle ≡ InPart left) × (0 < left) → n ≤ left → start + n ≤ length bytes
      → parts_after at (take (start + n) bytes) ≡ left_after left n
  to_part e f m k =
      ap (parts_after at) (take-add start n bytes)
      ∙ (after_append at (take start bytes) (take n (drop start bytes))
      ∙ (ap (λ (x : PartsAt). parts_after x (take n (drop start bytes))) (e ∙ f.0)
      ∙ part_to left n (drop start bytes) f.1 m (omega (arith, k, length-drop start bytes))))

  pub own_part : parts_after at (take start bytes) ≡ middle → own_bytes at (take start bytes) ≡ [] → (middle ≡ InPart left) × (0 < left) → n ≤ left → start + n ≤ length bytes
      → own_bytes at (take (start + n) bytes) ≡ take n (drop start bytes)
  own_part e none f m k =
      ap (own_bytes at) (take-add start n bytes)
      ∙ (own_append at (take start bytes) (take n (drop start bytes))
      ∙ (ap (λ (xs : List ℕ). xs ++ own_bytes (parts_after at (take start bytes)) (take n (drop start bytes))) none
      ∙ (ap (λ (x : PartsAt). own_bytes x (take n (drop start bytes))) (e ∙ f.0)
      ∙ part_own left n (drop start bytes) f.1 m (omega (arith, k, length-drop start bytes)))))

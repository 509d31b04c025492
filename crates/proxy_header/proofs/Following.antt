-- What follows a header changes nothing of it.
use Rattle.std.proofs.Common.{◌≡◌, ◌∙◌, refl, ap, ℕ, Bool, true, false, List, ◌++◌, ◌≤◌, ◌<◌, ◌+◌, ◌-◌, ◌==◌, ◌||◌, not, nat_lt, length, take, drop, if◌then◌else◌, slice_index, length-append, ◌⊎◌, inl, inr, arith}
use Rattle.std.proofs.lemmas.Grind.{common_steps}
use Rattle.std.proofs.lemmas.List.{take-append-le, drop-append-le}
use Rattle.proxy_header.specs.declared.header.Found.{Found}
use Rattle.proxy_header.specs.declared.header.Found.TheVariants.{Missing, Whole, Wrong}
use Rattle.proxy_header.specs.declared.source.Source.{Source}
use Rattle.proxy_header.specs.declared.source.Source.TheVariants.{Unsaid, V4, V6}
use Rattle.proxy_header.specs.Header.{begin_so, signature, header_in, header_by, least, source_in, high_first_at}
use Rattle.proxy_header.proofs.Beginning.{differ_on, alike_on}

pub index_on : (bytes more : List ℕ) (at : ℕ) → at < length bytes → slice_index (bytes ++ more) at ≡ slice_index bytes at
index_on bytes more at h = grind (arith, common_steps)

number_on : (bytes more : List ℕ) (at : ℕ) → at + 1 < length bytes → high_first_at (bytes ++ more) at ≡ high_first_at bytes at
number_on bytes more at h = grind (arith, index_on bytes more at (omega (arith, h)), index_on bytes more (at + 1) h)

part_on : (bytes more : List ℕ) (at count : ℕ) → at + count ≤ length bytes → take count (drop at (bytes ++ more)) ≡ take count (drop at bytes)
part_on bytes more at count h = grind (arith, common_steps, drop-append-le at bytes more (omega (arith, h)), take-append-le count (drop at bytes) more)

-- ---- A choice among what is found

abbrev choice : (known wrong short : Bool) (n : ℕ) (source : Source) → Found
choice known wrong short n source = if not known then Wrong else if wrong then Wrong else if short then Missing n else Whole source

wrong_on : (known wrong short shorter : Bool) (n m : ℕ) (s t : Source) → choice known wrong short n s ≡ Wrong → choice known wrong shorter m t ≡ Wrong
wrong_on false wrong short shorter n m s t h = refl
wrong_on true true short shorter n m s t h = refl
wrong_on true false true shorter n m s t h = absurd cc
wrong_on true false false shorter n m s t h = absurd cc

wrong_is_not_whole : (t : Source) → Wrong ≡ Whole t → ⊥
wrong_is_not_whole t h = cc

record IsWhole (known wrong short : Bool) (s t : Source) : Type 0 where
  pub is_known : known ≡ true
  pub is_right : wrong ≡ false
  pub is_long : short ≡ false
  pub same : s ≡ t

whole_of : (known wrong short : Bool) (n : ℕ) (s t : Source) → choice known wrong short n s ≡ Whole t → IsWhole known wrong short s t
whole_of false wrong short n s t h = absurd (wrong_is_not_whole t h)
whole_of true true short n s t h = absurd (wrong_is_not_whole t h)
whole_of true false true n s t h = absurd cc
whole_of true false false n s t h = record { is_known = refl; is_right = refl; is_long = refl; same = cc }

abbrev outer : (begins short : Bool) (n : ℕ) (inner : Found) → Found
outer begins short n inner = if not begins then Wrong else if short then Missing n else inner

-- it begins as a header, and its first sixteen bytes stand
record IsBegun (begins short : Bool) (inner what : Found) : Type 0 where
  pub begun : begins ≡ true
  pub long : short ≡ false
  pub found : inner ≡ what

wrong_of : (begins short : Bool) (n : ℕ) (inner : Found) → outer begins short n inner ≡ Wrong → (begins ≡ false) ⊎ IsBegun begins short inner Wrong
wrong_of false short n inner h = inl refl
wrong_of true true n inner h = absurd cc
wrong_of true false n inner h = inr (record { begun = refl; long = refl; found = h })

whole_in : (begins short : Bool) (n : ℕ) (inner : Found) (t : Source) → outer begins short n inner ≡ Whole t → IsBegun begins short inner (Whole t)
whole_in false short n inner t h = absurd cc
whole_in true true n inner t h = absurd cc
whole_in true false n inner t h = record { begun = refl; long = refl; found = h }

-- ---- With more behind it

not_short : (count least : ℕ) → nat_lt count least ≡ false → least ≤ count
not_short count least h = grind (arith, common_steps, h)

is_not_short : (count least : ℕ) → least ≤ count → nat_lt count least ≡ false
is_not_short count least h = grind (arith, common_steps, h)

-- what is found of a header that has begun, by its command, its family and its length
fields_on : (bytes more : List ℕ) (t : Found) → 16 ≤ length bytes → begin_so signature bytes ≡ true
    → header_by (bytes ++ more) (slice_index bytes 12) (slice_index bytes 13) (high_first_at bytes 14) ≡ t
    → header_in (bytes ++ more) ≡ t
fields_on bytes more t long begins h =
    let b = alike_on signature bytes more (omega (arith, long)) begins in
    let s = is_not_short (length (bytes ++ more)) 16 (omega (arith, long, length-append bytes more)) in
    let command = index_on bytes more 12 (omega (arith, long)) in
    let family = index_on bytes more 13 (omega (arith, long)) in
    let count = number_on bytes more 14 (omega (arith, long)) in
    ap (λ (x : Bool). if not x then Wrong else if nat_lt (length (bytes ++ more)) 16 then Missing (16 - length (bytes ++ more)) else header_by (bytes ++ more) (slice_index (bytes ++ more) 12) (slice_index (bytes ++ more) 13) (high_first_at (bytes ++ more) 14)) b
    ∙ ap (λ (x : Bool). if x then Missing (16 - length (bytes ++ more)) else header_by (bytes ++ more) (slice_index (bytes ++ more) 12) (slice_index (bytes ++ more) 13) (high_first_at (bytes ++ more) 14)) s
    ∙ ap (λ (x : ℕ). header_by (bytes ++ more) x (slice_index (bytes ++ more) 13) (high_first_at (bytes ++ more) 14)) command
    ∙ ap (λ (x : ℕ). header_by (bytes ++ more) (slice_index bytes 12) x (high_first_at (bytes ++ more) 14)) family
    ∙ ap (λ (x : ℕ). header_by (bytes ++ more) (slice_index bytes 12) (slice_index bytes 13) x) count
    ∙ h

pub wrong_stays : (bytes more : List ℕ) → header_in bytes ≡ Wrong → header_in (bytes ++ more) ≡ Wrong
wrong_stays bytes more h =
    by_first (wrong_of (begin_so signature bytes) (nat_lt (length bytes) 16) _ _ h) where
      by_first : (begin_so signature bytes ≡ false) ⊎ IsBegun (begin_so signature bytes) (nat_lt (length bytes) 16) (header_by bytes (slice_index bytes 12) (slice_index bytes 13) (high_first_at bytes 14)) Wrong → header_in (bytes ++ more) ≡ Wrong
      by_first (inl differs) = rw (differ_on signature bytes more differs) refl
      by_first (inr begun) =
          fields_on bytes more Wrong (not_short _ _ begun.long) begun.begun
          (wrong_on (slice_index bytes 12 == 32 || slice_index bytes 12 == 33)
          (nat_lt 2032 (high_first_at bytes 14) || nat_lt (high_first_at bytes 14) (least (slice_index bytes 12) (slice_index bytes 13)))
          _ _ _ _ _ _ begun.found)

-- the client that a header names stands within it
sources : (named four six : Bool) (a b c d : Source) → (named ≡ true → four ≡ true → a ≡ b) → (named ≡ true → four ≡ false → six ≡ true → c ≡ d)
    → (if not named then Unsaid else if four then a else if six then c else Unsaid) ≡ (if not named then Unsaid else if four then b else if six then d else Unsaid)
sources false four six a b c d p q = refl
sources true true six a b c d p q = p refl refl
sources true false true a b c d p q = q refl refl refl
sources true false false a b c d p q = refl

least_four : (named four six : Bool) (n : ℕ) → named ≡ true → four ≡ true → (if not named then 0 else if four then 12 else if six then 36 else 0) ≤ n → 12 ≤ n
least_four true true six n p q h = h
least_four true false six n p q h = absurd cc
least_four false four six n p q h = absurd cc

least_six : (named four six : Bool) (n : ℕ) → named ≡ true → four ≡ false → six ≡ true → (if not named then 0 else if four then 12 else if six then 36 else 0) ≤ n → 36 ≤ n
least_six true false true n p q r h = h
least_six true false false n p q r h = absurd cc
least_six true true six n p q r h = absurd cc
least_six false four six n p q r h = absurd cc

four_on : (bytes more : List ℕ) → 28 ≤ length bytes
    → V4 (take 4 (drop 16 (bytes ++ more))) (high_first_at (bytes ++ more) 24) ≡ V4 (take 4 (drop 16 bytes)) (high_first_at bytes 24)
four_on bytes more h =
    ap (λ (x : List ℕ). V4 x (high_first_at (bytes ++ more) 24)) (part_on bytes more 16 4 (omega (arith, h)))
    ∙ ap (λ (x : ℕ). V4 (take 4 (drop 16 bytes)) x) (number_on bytes more 24 (omega (arith, h)))

six_on : (bytes more : List ℕ) → 52 ≤ length bytes
    → V6 (take 16 (drop 16 (bytes ++ more))) (high_first_at (bytes ++ more) 48) ≡ V6 (take 16 (drop 16 bytes)) (high_first_at bytes 48)
six_on bytes more h =
    ap (λ (x : List ℕ). V6 x (high_first_at (bytes ++ more) 48)) (part_on bytes more 16 16 (omega (arith, h)))
    ∙ ap (λ (x : ℕ). V6 (take 16 (drop 16 bytes)) x) (number_on bytes more 48 (omega (arith, h)))

abbrev sourced : List ℕ → (command family : ℕ) → Source
sourced bytes command family =
    if not (command == 33) then Unsaid
    else if family == 17 then V4 (take 4 (drop 16 bytes)) (high_first_at bytes 24)
    else if family == 33 then V6 (take 16 (drop 16 bytes)) (high_first_at bytes 48)
    else Unsaid

source_on : (bytes more : List ℕ) (count : ℕ) → least (slice_index bytes 12) (slice_index bytes 13) ≤ count → 16 + count ≤ length bytes
    → source_in (bytes ++ more) ≡ source_in bytes
source_on bytes more count few long =
    ap (λ (x : ℕ). sourced (bytes ++ more) x (slice_index (bytes ++ more) 13)) (index_on bytes more 12 (omega (arith, long)))
    ∙ ap (λ (x : ℕ). sourced (bytes ++ more) (slice_index bytes 12) x) (index_on bytes more 13 (omega (arith, long)))
    ∙ sources (slice_index bytes 12 == 33) (slice_index bytes 13 == 17) (slice_index bytes 13 == 33) _ _ _ _
    (λ named four. four_on bytes more (omega (arith, long, least_four _ _ _ count named four few)))
    (λ named four six. six_on bytes more (omega (arith, long, least_six _ _ _ count named four six few)))

right_of : (a b : Bool) → (a || b) ≡ false → b ≡ false
right_of false b h = h
right_of true b h = absurd cc

pub whole_stays : (bytes more : List ℕ) (source : Source) → header_in bytes ≡ Whole source → header_in (bytes ++ more) ≡ Whole source
whole_stays bytes more source h =
    let begun = whole_in (begin_so signature bytes) (nat_lt (length bytes) 16) _ _ source h in
    let c : ℕ = slice_index bytes 12 in
    let f : ℕ = slice_index bytes 13 in
    let n : ℕ = high_first_at bytes 14 in
    let w = whole_of (c == 32 || c == 33) (nat_lt 2032 n || nat_lt n (least c f)) (nat_lt (length bytes) (16 + n)) _ _ _ begun.found in
    let long : 16 + n ≤ length bytes = not_short _ _ w.is_long in
    let longer : nat_lt (length (bytes ++ more)) (16 + n) ≡ false = is_not_short _ _ (omega (arith, long, length-append bytes more)) in
    let few : least c f ≤ n = not_short _ _ (right_of _ _ w.is_right) in
    fields_on bytes more (Whole source) (not_short _ _ begun.long) begun.begun
    (ap (λ (x : Bool). choice x (nat_lt 2032 n || nat_lt n (least c f)) (nat_lt (length (bytes ++ more)) (16 + n)) (16 + n - length (bytes ++ more)) (source_in (bytes ++ more))) w.is_known
    ∙ ap (λ (x : Bool). choice true x (nat_lt (length (bytes ++ more)) (16 + n)) (16 + n - length (bytes ++ more)) (source_in (bytes ++ more))) w.is_right
    ∙ ap (λ (x : Bool). choice true false x (16 + n - length (bytes ++ more)) (source_in (bytes ++ more))) longer
    ∙ ap Whole (source_on bytes more n few long ∙ w.same))

-- A value in parts ends byte by byte where the layout ends it.
use Rattle.std.proofs.Common.{◌≡◌, ◌∙◌, ◌≤◌, ◌<◌, ℕ, zero, suc, ◌+◌, ◌*◌, ◌==◌, ◌&&◌, Bool, true, false, List, [], ◌∷◌, ◌++◌, length, take, drop, get_or, if◌then◌else◌, ◌⊎◌, inl, inr, refl, sym, ap, arith, rules, append_assoc, take-append-drop, take_all}
use Rattle.std.specs.Prelude.{nat_lt}
use Rattle.std.proofs.lemmas.Bool.{cases_lt}
use Rattle.std.proofs.lemmas.List.{length-drop}
use Rattle.tds_wire.specs.declared.shape.Shape.TheVariants as shape
use Rattle.tds_wire.specs.Layout.{Read, Got, Short, Wrong, ◌>>=◌, parts, run, value}
use Rattle.tds_rows.specs.Pieces.{EndsParts, PartsAt, InCount, InPart, PartsOver, PartsNull, behind_count, behind_whole_length, value_is_over, joined_parts, own_bytes, parts_after, parts_begun}
use Rattle.tds_rows.proofs.Coming.{after_append, own_append, part_own, part_to}
use Rattle.tds_rows.proofs.Fronts.{run_got, run_short}

-- these bytes are the first ones, lead there, and so many of them are the value's own
pub record EndsFrom (at goal : PartsAt) (bytes rest own : List ℕ) : Type 0 where
  pub front : List ℕ
  pub whole : bytes ≡ front ++ rest
  pub over : parts_after at front ≡ goal
  pub own_is : own_bytes at front ≡ own

abbrev rest_of : {A : Type 0} → Read A → List ℕ
rest_of (Got x rest) = rest
rest_of Short = []
rest_of (Wrong fault rest) = rest

-- a part that is whole leads to the next count
part_passed : (n : ℕ) (bytes : List ℕ) → 0 < n → n ≤ length bytes → parts_after (InPart n) (take n bytes) ≡ InCount []
part_passed n bytes l k = let same : nat_lt n n ≡ false = search rules in part_to n n bytes l (omega arith) k ∙ rw same refl

behind_part : (n : ℕ) (bytes rest own : List ℕ) → 0 < n → n ≤ length bytes → EndsFrom (InCount []) PartsOver (drop n bytes) rest own
    → EndsFrom (InPart n) PartsOver bytes rest (take n bytes ++ own)
behind_part n bytes rest own l k e = record {
  front = take n bytes ++ e.front;
  whole = sym (take-append-drop n bytes) ∙ (ap (λ (xs : List ℕ). take n bytes ++ xs) e.whole ∙ sym (append_assoc (take n bytes) e.front rest));
  over = after_append (InPart n) (take n bytes) e.front ∙ (ap (λ (x : PartsAt). parts_after x e.front) (part_passed n bytes l k) ∙ e.over);
  own_is =
      own_append (InPart n) (take n bytes) e.front
      ∙ (ap (λ (xs : List ℕ). xs ++ own_bytes (parts_after (InPart n) (take n bytes)) e.front) (part_own n n bytes l (omega arith) k)
      ∙ ap (λ (xs : List ℕ). take n bytes ++ xs) (ap (λ (x : PartsAt). own_bytes x e.front) (part_passed n bytes l k) ∙ e.own_is));
}

-- what follows a count
abbrev part_on : ℕ → ℕ → List ℕ → Read (Unit {0})
part_on most n bytes = run n bytes >>= λ u more. parts most more

abbrev joined_on : ℕ → ℕ → List ℕ → List ℕ
joined_on most n bytes = take n bytes ++ joined_parts most (drop n bytes)

abbrev pub Ends : ℕ → Type 0
Ends most = (u : Unit {0}) (bytes rest : List ℕ) → parts most bytes ≡ Got u rest → EndsFrom (InCount []) PartsOver bytes rest (joined_parts most bytes)

part_within : (most n : ℕ) (u : Unit {0}) (bytes rest : List ℕ) → Ends most → 0 < n → part_on most n bytes ≡ Got u rest → (length bytes < n) ⊎ (n ≤ length bytes)
    → EndsFrom (InPart n) PartsOver bytes rest (joined_on most n bytes)
part_within most n u bytes rest h l e (inl few) = absurd (let k : part_on most n bytes ≡ Short = ap (λ r. r >>= λ v more. parts most more) (run_short n bytes few) in cc)
part_within most n u bytes rest h l e (inr k) =
    behind_part n bytes rest (joined_parts most (drop n bytes)) l k
    (h u (drop n bytes) rest (sym (ap (λ r. r >>= λ v more. parts most more) (run_got n bytes k)) ∙ e))

part_ended : (most n : ℕ) (z : Bool) (u : Unit {0}) (bytes rest : List ℕ) → Ends most → (n == 0) ≡ z → (if z then Got tt bytes else part_on most n bytes) ≡ Got u rest
    → EndsFrom (behind_count n) PartsOver bytes rest (if z then [] else joined_on most n bytes)
unfolding parts_after own_bytes
part_ended most n true u bytes rest h f e = record { front = []; whole = ap rest_of e; over = rw f refl; own_is = refl }
part_ended most n false u bytes rest h f e = rw f (part_within most n u bytes rest h (search rules) e (cases_lt (length bytes) n))

-- with the four bytes of a count
with_four : (a b c d : ℕ) (bytes rest own : List ℕ) → EndsFrom (behind_count (a + 256 * b + 65536 * c + 16777216 * d)) PartsOver bytes rest own
    → EndsFrom (InCount []) PartsOver (a ∷ b ∷ c ∷ d ∷ bytes) rest own
unfolding parts_after own_bytes
with_four a b c d bytes rest own e = record {
  front = a ∷ b ∷ c ∷ d ∷ e.front;
  whole = ap (λ (xs : List ℕ). a ∷ b ∷ c ∷ d ∷ xs) e.whole;
  over = e.over;
  own_is = e.own_is;
}

parts_ended : (most : ℕ) → Ends most
unfolding parts joined_parts
parts_ended zero u bytes rest e = absurd cc
parts_ended (suc most) u [] rest e = absurd cc
parts_ended (suc most) u (a ∷ []) rest e = absurd cc
parts_ended (suc most) u (a ∷ b ∷ []) rest e = absurd cc
parts_ended (suc most) u (a ∷ b ∷ c ∷ []) rest e = absurd cc
parts_ended (suc most) u (a ∷ b ∷ c ∷ d ∷ bytes) rest e =
    let n = a + 256 * b + 65536 * c + 16777216 * d in
    with_four a b c d bytes rest _ (part_ended most n (n == 0) u bytes rest (parts_ended most) refl e)

-- ---- The length

abbrev four_number : ℕ → ℕ → ℕ → ℕ → ℕ
four_number a b c d = a + 256 * b + 65536 * c + 16777216 * d

-- each byte of a number is FF where the number is all ones
ones_by : (a b c d : ℕ) (p q r s : Bool) → a < 256 → b < 256 → c < 256 → d < 256 → (a == 255) ≡ p → (b == 255) ≡ q → (c == 255) ≡ r → (d == 255) ≡ s
    → (p && q && r && s) ≡ (four_number a b c d == 4294967295)
ones_by a b c d p q r s ha hb hc hd ea eb ec ed = search (rules, arith)

-- two numbers that are all ones, by eight bytes in a row
eight_by : (low e f g h : Bool) → (low && e && f && g && h) ≡ (low && (e && f && g && h))
eight_by true e f g h = refl
eight_by false e f g h = refl

abbrev are_ones : ℕ → ℕ → ℕ → ℕ → Bool
are_ones a b c d = (a == 255) && (b == 255) && (c == 255) && (d == 255)

ones : (a b c d : ℕ) → a < 256 → b < 256 → c < 256 → d < 256 → are_ones a b c d ≡ (four_number a b c d == 4294967295)
ones a b c d ha hb hc hd = ones_by a b c d (a == 255) (b == 255) (c == 255) (d == 255) ha hb hc hd refl refl refl refl

-- what the eight bytes of a length lead to
abbrev length_ones : (a b c d e f g h : ℕ) → Bool
length_ones a b c d e f g h = are_ones a b c d && (e == 255) && (f == 255) && (g == 255) && (h == 255)

length_is : (a b c d e f g h : ℕ) (bytes : List ℕ) → ((i : ℕ) → get_or (a ∷ b ∷ c ∷ d ∷ e ∷ f ∷ g ∷ h ∷ bytes) i 0 < 256)
    → length_ones a b c d e f g h ≡ ((four_number a b c d == 4294967295) && (four_number e f g h == 4294967295))
length_is a b c d e f g h bytes are =
    eight_by (are_ones a b c d) (e == 255) (f == 255) (g == 255) (h == 255)
    ∙ (ap (λ (t : Bool). t && are_ones e f g h) (ones a b c d (are 0) (are 1) (are 2) (are 3))
    ∙ ap (λ (t : Bool). (four_number a b c d == 4294967295) && t) (ones e f g h (are 4) (are 5) (are 6) (are 7)))

-- behind a length that is null, or not
abbrev closed_by : Bool → PartsAt
closed_by absent = if absent then PartsNull else PartsOver

abbrev own_by : Bool → List ℕ → List ℕ
own_by absent bytes = if absent then [] else joined_parts (length bytes) bytes

value_ended : (absent : Bool) (u : Unit {0}) (bytes rest : List ℕ) → (if absent then Got tt bytes else parts (length bytes) bytes) ≡ Got u rest
    → EndsFrom (behind_whole_length absent) (closed_by absent) bytes rest (own_by absent bytes)
unfolding parts_after own_bytes
value_ended true u bytes rest e = record { front = []; whole = ap rest_of e; over = refl; own_is = refl }
value_ended false u bytes rest e = parts_ended (length bytes) u bytes rest e

with_length : (a b c d e f g h : ℕ) (absent : Bool) (bytes rest : List ℕ) → length_ones a b c d e f g h ≡ absent
    → EndsFrom (behind_whole_length absent) (closed_by absent) bytes rest (own_by absent bytes)
    → EndsFrom parts_begun (closed_by absent) (a ∷ b ∷ c ∷ d ∷ e ∷ f ∷ g ∷ h ∷ bytes) rest (own_by absent bytes)
unfolding parts_after own_bytes
with_length a b c d e f g h absent bytes rest is x = record {
  front = a ∷ b ∷ c ∷ d ∷ e ∷ f ∷ g ∷ h ∷ x.front;
  whole = ap (λ (xs : List ℕ). a ∷ b ∷ c ∷ d ∷ e ∷ f ∷ g ∷ h ∷ xs) x.whole;
  over = ap (λ (t : Bool). parts_after (behind_whole_length t) x.front) is ∙ x.over;
  own_is = ap (λ (t : Bool). own_bytes (behind_whole_length t) x.front) is ∙ x.own_is;
}

pub value_ends : (bytes rest : List ℕ) → ((i : ℕ) → get_or bytes i 0 < 256) → value shape.Parts bytes ≡ Got tt rest → EndsParts bytes rest
unfolding value
value_ends [] rest are k = absurd cc
value_ends (a ∷ []) rest are k = absurd cc
value_ends (a ∷ b ∷ []) rest are k = absurd cc
value_ends (a ∷ b ∷ c ∷ []) rest are k = absurd cc
value_ends (a ∷ b ∷ c ∷ d ∷ []) rest are k = absurd cc
value_ends (a ∷ b ∷ c ∷ d ∷ e ∷ []) rest are k = absurd cc
value_ends (a ∷ b ∷ c ∷ d ∷ e ∷ f ∷ []) rest are k = absurd cc
value_ends (a ∷ b ∷ c ∷ d ∷ e ∷ f ∷ g ∷ []) rest are k = absurd cc
value_ends (a ∷ b ∷ c ∷ d ∷ e ∷ f ∷ g ∷ h ∷ bytes) rest are k =
    let absent = (four_number a b c d == 4294967295) && (four_number e f g h == 4294967295) in
    let is = length_is a b c d e f g h bytes are in
    let x = with_length a b c d e f g h absent bytes rest is (value_ended absent tt bytes rest k) in
    record { front = x.front; whole = x.whole; over = x.over; own = x.own_is }

-- ---- Bytes that end first

part_cut : (n : ℕ) (bytes : List ℕ) → length bytes < n → value_is_over (parts_after (InPart n) bytes) ≡ false
part_cut n bytes l =
    let less : nat_lt (length bytes) n ≡ true = search rules in
    ap (λ (xs : List ℕ). value_is_over (parts_after (InPart n) xs)) (sym (take_all (length bytes) bytes (omega arith)))
    ∙ (ap value_is_over (part_to n (length bytes) bytes (omega (arith, l)) (omega (arith, l)) (omega arith)) ∙ rw less refl)

abbrev Lacks : ℕ → Type 0
Lacks most = (bytes : List ℕ) → length bytes ≤ most → parts most bytes ≡ Short → value_is_over (parts_after (InCount []) bytes) ≡ false

part_lacks_by : (most n : ℕ) (bytes : List ℕ) → Lacks most → 0 < n → length bytes ≤ most → part_on most n bytes ≡ Short → (length bytes < n) ⊎ (n ≤ length bytes)
    → value_is_over (parts_after (InPart n) bytes) ≡ false
part_lacks_by most n bytes h l few e (inl k) = part_cut n bytes k
part_lacks_by most n bytes h l few e (inr k) =
    ap (λ (xs : List ℕ). value_is_over (parts_after (InPart n) xs)) (sym (take-append-drop n bytes))
    ∙ (ap value_is_over (after_append (InPart n) (take n bytes) (drop n bytes))
    ∙ (ap (λ (x : PartsAt). value_is_over (parts_after x (drop n bytes))) (part_passed n bytes l k)
    ∙ h (drop n bytes) (omega (arith, length-drop n bytes, few)) (sym (ap (λ r. r >>= λ v more. parts most more) (run_got n bytes k)) ∙ e)))

part_lacks : (most n : ℕ) (z : Bool) (bytes : List ℕ) → Lacks most → (n == 0) ≡ z → length bytes ≤ most → (if z then Got tt bytes else part_on most n bytes) ≡ Short
    → value_is_over (parts_after (behind_count n) bytes) ≡ false
part_lacks most n true bytes h f few e = absurd cc
part_lacks most n false bytes h f few e = rw f (part_lacks_by most n bytes h (search rules) few e (cases_lt (length bytes) n))

parts_lack : (most : ℕ) → Lacks most
unfolding parts parts_after
parts_lack most [] few e = refl
parts_lack most (a ∷ []) few e = refl
parts_lack most (a ∷ b ∷ []) few e = refl
parts_lack most (a ∷ b ∷ c ∷ []) few e = refl
parts_lack zero (a ∷ b ∷ c ∷ d ∷ bytes) few e = absurd (omega (arith, few))
parts_lack (suc most) (a ∷ b ∷ c ∷ d ∷ bytes) few e =
    part_lacks most (a + 256 * b + 65536 * c + 16777216 * d) (a + 256 * b + 65536 * c + 16777216 * d == 0) bytes (parts_lack most) refl (omega (arith, few)) e

value_lacks_by : (absent : Bool) (bytes : List ℕ) → (if absent then Got tt bytes else parts (length bytes) bytes) ≡ Short
    → value_is_over (parts_after (behind_whole_length absent) bytes) ≡ false
value_lacks_by true bytes e = absurd cc
value_lacks_by false bytes e = parts_lack (length bytes) bytes (omega arith) e

pub value_lacks : (bytes : List ℕ) → ((i : ℕ) → get_or bytes i 0 < 256) → value shape.Parts bytes ≡ Short → value_is_over (parts_after parts_begun bytes) ≡ false
unfolding value parts_after
value_lacks [] are k = refl
value_lacks (a ∷ []) are k = refl
value_lacks (a ∷ b ∷ []) are k = refl
value_lacks (a ∷ b ∷ c ∷ []) are k = refl
value_lacks (a ∷ b ∷ c ∷ d ∷ []) are k = refl
value_lacks (a ∷ b ∷ c ∷ d ∷ e ∷ []) are k = refl
value_lacks (a ∷ b ∷ c ∷ d ∷ e ∷ f ∷ []) are k = refl
value_lacks (a ∷ b ∷ c ∷ d ∷ e ∷ f ∷ g ∷ []) are k = refl
value_lacks (a ∷ b ∷ c ∷ d ∷ e ∷ f ∷ g ∷ h ∷ bytes) are k =
    let absent = (four_number a b c d == 4294967295) && (four_number e f g h == 4294967295) in
    ap (λ (t : Bool). value_is_over (parts_after (behind_whole_length t) bytes)) (length_is a b c d e f g h bytes are)
    ∙ value_lacks_by absent bytes k

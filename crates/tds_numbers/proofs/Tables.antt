-- Tables that stay tables.
use Rattle.std.proofs.Common.{◌≡◌, ℕ, zero, suc, Bool, true, false, not, ◌<◌, ◌≤◌, List, [], ◌∷◌, ◌++◌, length, Option, Some, None, refl, sym, ap, ◌∙◌, cond, arith}
use Rattle.std.proofs.Math.Dec.{eqb}
use Rattle.std.proofs.lemmas.Bool.{eq-eqb}
use Rattle.std.proofs.lemmas.Bool.Decides.{nat_tests}
use Rattle.std.specs.Prelude.{◌≢◌, remove, IfSome, IfNone}
use Rattle.tds_numbers.specs.declared.numbers.Entry.{Entry}
use Rattle.tds_numbers.specs.Table.{number_at, key_at, key_of, without, AreBelow, AreAbove, AreRising, IsTable}

-- ---- Numbers that rise

pub above_at : (n : ℕ) (es : List Entry) → AreAbove n es → (i : ℕ) → i < length es → n < number_at es i
above_at n [] h i lt = absurd (omega (arith, lt))
above_at n (e ∷ es) h zero lt = h.0
above_at n (e ∷ es) h (suc i) lt = above_at n es h.1 i (omega (arith, lt))

pub rises : (es : List Entry) → AreRising es → (i j : ℕ) → i < j → j < length es → number_at es i < number_at es j
rises [] up i j lt h = absurd (omega (arith, h))
rises (e ∷ es) up i zero lt h = absurd (omega (arith, lt))
rises (e ∷ es) up zero (suc j) lt h = above_at e.number es up.0 j (omega (arith, h))
rises (e ∷ es) up (suc i) (suc j) lt h = rises es up.1 i j (omega (arith, lt)) (omega (arith, h))

-- ---- One more

above_push : (n : ℕ) (es : List Entry) (e : Entry) → AreAbove n es → n < e.number → AreAbove n (es ++ e ∷ [])
above_push n [] e h lt = (lt, tt)
above_push n (x ∷ es) e h lt = (h.0, above_push n es e h.1 lt)

rising_push : (es : List Entry) (e : Entry) → AreRising es → AreBelow e.number es → AreRising (es ++ e ∷ [])
rising_push [] e up below = (tt, tt)
rising_push (x ∷ es) e up below = (above_push x.number es e up.0 below.0, rising_push es e up.1 below.1)

length_push : (es : List Entry) (e : Entry) → length (es ++ e ∷ []) ≡ suc (length es)
length_push [] e = refl
length_push (x ∷ es) e = ap suc (length_push es e)

pub table_push : (es : List Entry) (e : Entry) → IsTable es → length es < 1024 → AreBelow e.number es → IsTable (es ++ e ∷ [])
table_push es e table few below = record { few = rw (length_push es e) few; rising = rising_push es e table.rising below }

-- ---- One less

-- a test that fails keeps what is not this number
unlike : (a b : ℕ) → a < b → eqb b a ≡ false
unlike a b lt = grind (arith, nat_tests)

unlike_above : (a b : ℕ) → a < b → eqb a b ≡ false
unlike_above a b lt = grind (arith, nat_tests)

kept_by : (b : Bool) (x : Entry) (xs : List Entry) → b ≡ false → cond (not b) (x ∷ xs) xs ≡ x ∷ xs
kept_by true x xs h = absurd (cc)
kept_by false x xs h = refl

dropped_by : (b : Bool) (x : Entry) (xs : List Entry) → b ≡ true → cond (not b) (x ∷ xs) xs ≡ xs
dropped_by true x xs h = refl
dropped_by false x xs h = absurd (cc)

-- what is above the number stays
all_stay : (n : ℕ) (es : List Entry) → AreAbove n es → without n es ≡ es
all_stay n [] h = refl
all_stay n (e ∷ es) h = kept_by (eqb e.number n) e (without n es) (unlike n e.number h.0) ∙ ap (λ xs. e ∷ xs) (all_stay n es h.1)

pub removed : (es : List Entry) → AreRising es → (i : ℕ) → i < length es → remove es i ≡ without (number_at es i) es
removed [] up i lt = absurd (omega (arith, lt))
removed (e ∷ es) up zero lt = sym (dropped_by (eqb e.number e.number) e (without e.number es) (eq-eqb e.number e.number refl) ∙ all_stay e.number es up.0)
removed (e ∷ es) up (suc i) lt =
    ap (λ xs. e ∷ xs) (removed es up.1 i (omega (arith, lt)))
    ∙ sym (kept_by (eqb e.number (number_at es i)) e (without (number_at es i) es) (unlike_above e.number (number_at es i) (above_at e.number es up.0 i (omega (arith, lt)))))

when_without : (b : Bool) (P : List Entry → Type 0) (x : Entry) (xs : List Entry) → P (x ∷ xs) → P xs → P (cond (not b) (x ∷ xs) xs)
when_without true P x xs stays goes = goes
when_without false P x xs stays goes = stays

above_without : (m n : ℕ) (es : List Entry) → AreAbove m es → AreAbove m (without n es)
above_without m n [] h = tt
above_without m n (e ∷ es) h = when_without (eqb e.number n) (AreAbove m) e (without n es) (h.0, above_without m n es h.1) (above_without m n es h.1)

rising_without : (n : ℕ) (es : List Entry) → AreRising es → AreRising (without n es)
rising_without n [] up = tt
rising_without n (e ∷ es) up = when_without (eqb e.number n) AreRising e (without n es) (above_without e.number n es up.0, rising_without n es up.1) (rising_without n es up.1)

shorter : (n : ℕ) (es : List Entry) → length (without n es) ≤ length es
shorter n [] = omega arith
shorter n (e ∷ es) = when_without (eqb e.number n) (λ xs. length xs ≤ suc (length es)) e (without n es) (omega (arith, shorter n es)) (omega (arith, shorter n es))

pub table_without : (n : ℕ) (es : List Entry) → IsTable es → IsTable (without n es)
table_without n es table = record { few = omega (arith, shorter n es, table.few); rising = rising_without n es table.rising }

-- ---- The key beside a number

key_next : (b : Bool) (k : ℕ) (o : Option ℕ) → b ≡ false → cond b (Some k) o ≡ o
key_next true k o h = absurd (cc)
key_next false k o h = refl

key_here : (b : Bool) (k : ℕ) (o : Option ℕ) → b ≡ true → cond b (Some k) o ≡ Some k
key_here true k o h = refl
key_here false k o h = absurd (cc)

pub key_found : (es : List Entry) → AreRising es → (n i : ℕ) → i < length es → number_at es i ≡ n → key_of es n ≡ Some (key_at es i)
key_found [] up n i lt is = absurd (omega (arith, lt))
key_found (e ∷ es) up n zero lt is = key_here (eqb e.number n) e.key (key_of es n) (eq-eqb e.number n is)
key_found (e ∷ es) up n (suc i) lt is =
    let below : e.number < number_at es i = above_at e.number es up.0 i (omega (arith, lt)) in
    let under : e.number < n = rw is at below in
    key_next (eqb e.number n) e.key (key_of es n) (unlike_above e.number n under)
    ∙ key_found es up.1 n i (omega (arith, lt)) is

differ : (a b : ℕ) → a ≢ b → eqb a b ≡ false
differ a b h = grind (arith, nat_tests, h)

pub key_absent : (es : List Entry) (n : ℕ) → ((i : ℕ) → i < length es → number_at es i ≢ n) → key_of es n ≡ None
key_absent [] n h = refl
key_absent (e ∷ es) n h =
    key_next (eqb e.number n) e.key (key_of es n) (differ e.number n (h zero (omega arith)))
    ∙ key_absent es n (λ i lt. h (suc i) (omega (arith, lt)))

pub found_key : (es : List Entry) (n : ℕ) (o : Option ℕ) → IsTable es → IfSome o (λ place. (place < length es) × (number_at es place ≡ n))
    → IfSome o (λ place. (place < length es) × (number_at es place ≡ n) × (key_of es n ≡ Some (key_at es place)))
found_key es n None table h = tt
found_key es n (Some i) table h = (h.0, h.1, key_found es table.rising n i h.0 h.1)

pub absent_key : (es : List Entry) (n : ℕ) (o : Option ℕ) → IfNone o ((i : ℕ) → i < length es → number_at es i ≢ n) → IfNone o (key_of es n ≡ None)
absent_key es n None h = key_absent es n h
absent_key es n (Some i) h = tt

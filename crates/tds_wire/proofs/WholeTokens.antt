-- Tokens that are whole in a run of bytes, and parts of a value that end in one.
use Rattle.std.proofs.Common.{◌≡◌, ◌∙◌, ◌≤◌, ◌<◌, ℕ, zero, suc, ◌+◌, ◌-◌, ◌*◌, ◌/◌, ◌%◌, ◌==◌, nat_lt, true, false, List, [], ◌∷◌, length, drop, get_or, refl, sym, ap, arith, rules}
use Rattle.std.proofs.lemmas.Bool.{lt-ltb}
use Rattle.std.proofs.lemmas.List.{length-drop}
use Rattle.tds_wire.specs.declared.due.Due.{Due}
use Rattle.tds_wire.specs.declared.due.Due.TheVariants.{Token, Number, Run}
use Rattle.tds_wire.specs.declared.due.Field.TheVariants as field
use Rattle.tds_wire.specs.declared.due.Next.TheVariants.{Ended, Then}
use Rattle.tds_wire.specs.declared.due.TokenField.TheVariants as in_token
use Rattle.tds_wire.specs.declared.due.ValueField.TheVariants as in_value
use Rattle.tds_wire.specs.Bytes.{Over, Within, onward, walk_step, to_end}
use Rattle.tds_wire.specs.Walking.{Walk, begun, ended, pass, with_due, with_kind, with_number, with_run}
use Rattle.tds_wire.specs.Whole.{IsWhole}
use Rattle.tds_wire.proofs.Walks.{end_between, end_going, ran, ran_within}

-- ---- Runs up to a token's end

run_over : (n : ℕ) (w : Walk) (bytes : List ℕ) → suc n ≤ length bytes → to_end (with_run w (suc n) Ended) bytes ≡ Over (ended w) (drop (suc n) bytes)
unfolding to_end walk_step
run_over n w [] h = absurd (omega (arith, h))
run_over zero w (b ∷ bytes) h = end_between (ended w) bytes refl
run_over (suc n) w (b ∷ bytes) h =
    let t : nat_lt 1 (suc (suc n)) ≡ true = lt-ltb 1 (suc (suc n)) (omega arith) in
    let m : suc (suc n) - 1 ≡ suc n = omega arith in
    rw t (rw m (run_over n w bytes (omega (arith, h))))

-- a run that may have no bytes
pass_over : (n : ℕ) (w : Walk) (bytes : List ℕ) → n ≤ length bytes → to_end (pass w n Ended) bytes ≡ Over (ended w) (drop n bytes)
unfolding pass
pass_over zero w bytes h = end_between (ended w) bytes refl
pass_over (suc n) w bytes h =
    let e : (suc n == 0) ≡ false = search rules in
    rw e (run_over n w bytes h)

-- ---- Tokens

begins : (w : Walk) (b : ℕ) (bytes : List ℕ) → w.at.due ≡ Token → onward w (b ∷ bytes) ≡ to_end (begun (with_kind w b) b) bytes
unfolding onward walk_step
begins w b bytes d = rw d refl

-- a walk that was before a token is behind it
kept_due : (w : Walk) (b : ℕ) (rest : List ℕ) → w.at.due ≡ Token → Over (ended (with_kind w b)) rest ≡ Over (with_kind w b) rest
kept_due w b rest d = ap (λ (x : Due). Over (with_due (with_kind w b) x) rest) (sym d)

pub fixed_is : (m n : ℕ) (bytes : List ℕ) → m ≡ n + 1 → 0 < n → n < length bytes → ((w : Walk) → begun w (get_or bytes 0 0) ≡ with_run w n Ended) → IsWhole m bytes
fixed_is m n [] e some few does = absurd (omega (arith, few))
fixed_is m zero (b ∷ bytes) e some few does = absurd (omega (arith, some))
fixed_is m (suc n) (b ∷ bytes) e some few does = λ w d.
    let k : m ≡ suc (suc n) = omega (arith, e) in
    rw k (begins w b bytes d
    ∙ (ap (λ (x : Walk). to_end x bytes) (does (with_kind w b))
    ∙ (run_over n (with_kind w b) bytes (omega (arith, few)) ∙ kept_due w b (drop (suc n) bytes) d)))

-- the number that two bytes spell
abbrev spelled : ℕ → ℕ → ℕ
spelled a b = (0 / 256 + 256 * a) / 256 + 256 * b

counted_over : (w : Walk) (a b m : ℕ) (bytes : List ℕ) → m ≡ spelled a b → m ≤ length bytes
    → to_end (with_number w (field.Token in_token.Length)) (a ∷ b ∷ bytes) ≡ Over (ended w) (drop m bytes)
unfolding to_end walk_step
counted_over w a b m bytes k h = rw k (pass_over (spelled a b) (with_due w (Number (field.Token in_token.Length) 1 (0 / 256 + 256 * a))) bytes (omega (arith, h, k)))

pub counted_is : (m : ℕ) (bytes : List ℕ) → 3 ≤ length bytes → m ≡ get_or bytes 1 0 + 256 * get_or bytes 2 0 + 3 → m ≤ length bytes
    → ((w : Walk) → begun w (get_or bytes 0 0) ≡ with_number w (field.Token in_token.Length)) → IsWhole m bytes
counted_is m [] l e few does = absurd (omega (arith, l))
counted_is m (k ∷ []) l e few does = absurd (omega (arith, l))
counted_is m (k ∷ a ∷ []) l e few does = absurd (omega (arith, l))
counted_is m (k ∷ a ∷ b ∷ bytes) l e few does = λ w d.
    let s : spelled a b ≡ a + 256 * b = omega arith in
    let i : m ≡ suc (suc (suc (spelled a b))) = omega (arith, e, s) in
    rw i (begins w k (a ∷ b ∷ bytes) d
    ∙ (ap (λ (x : Walk). to_end x (a ∷ b ∷ bytes)) (does (with_kind w k))
    ∙ (counted_over (with_kind w k) a b (spelled a b) bytes refl (omega (arith, few, i)) ∙ kept_due w k (drop (spelled a b) bytes) d)))

change_over : (w : Walk) (a b c m : ℕ) (bytes : List ℕ) → (spelled a b % 65536 == 0) ≡ false → (c == 15) ≡ false → spelled a b % 65536 - 1 ≡ m → m ≤ length bytes
    → to_end (with_number w (field.Token in_token.ChangeLength)) (a ∷ b ∷ c ∷ bytes) ≡ Over (ended w) (drop m bytes)
unfolding to_end walk_step
change_over w a b c m bytes z t k h = rw z (rw t (rw k (pass_over m (with_due w (Number (field.Token (in_token.Change m)) 1 0)) bytes h)))

change_begun : (w : Walk) → begun w 0xE3 ≡ with_number w (field.Token in_token.ChangeLength)
unfolding begun
change_begun w = refl

pub change_is : (m n : ℕ) (bytes : List ℕ) → 4 ≤ length bytes → get_or bytes 0 0 ≡ 0xE3 → (get_or bytes 3 0 == 15) ≡ false
    → n ≡ get_or bytes 1 0 + 256 * get_or bytes 2 0 → 0 < n → n < 65536 → m ≡ n + 3 → m ≤ length bytes → IsWhole m bytes
change_is m n [] l k t e some small f few = absurd (omega (arith, l))
change_is m n (x ∷ []) l k t e some small f few = absurd (omega (arith, l))
change_is m n (x ∷ a ∷ []) l k t e some small f few = absurd (omega (arith, l))
change_is m n (x ∷ a ∷ b ∷ []) l k t e some small f few = absurd (omega (arith, l))
change_is m n (x ∷ a ∷ b ∷ c ∷ bytes) l k t e some small f few = λ w d.
    let s : spelled a b ≡ n = omega (arith, e) in
    let q : spelled a b % 65536 ≡ n = omega (arith, s, small) in
    let z : (spelled a b % 65536 == 0) ≡ false = rw q (search rules) in
    let p : spelled a b % 65536 - 1 ≡ n - 1 = omega (arith, q) in
    let i : m ≡ suc (suc (suc (suc (n - 1)))) = omega (arith, f, some) in
    rw i (begins w x (a ∷ b ∷ c ∷ bytes) d
    ∙ (ap (λ (y : ℕ). to_end (begun (with_kind w x) y) (a ∷ b ∷ c ∷ bytes)) k
    ∙ (ap (λ (y : Walk). to_end y (a ∷ b ∷ c ∷ bytes)) (change_begun (with_kind w x))
    ∙ (change_over (with_kind w x) a b c (n - 1) bytes z t p (omega (arith, few, i)) ∙ kept_due w x (drop (n - 1) bytes) d))))

-- ---- Parts of a value

-- the number that four bytes spell
abbrev four_spelled : ℕ → ℕ → ℕ → ℕ → ℕ
four_spelled a b c d = (((0 / 256 + 16777216 * a) / 256 + 16777216 * b) / 256 + 16777216 * c) / 256 + 16777216 * d

part_counted : (w : Walk) (a b c d n : ℕ) (bytes : List ℕ) → four_spelled a b c d ≡ n → (n == 0) ≡ false
    → to_end (with_number w (field.Value in_value.PartCount)) (a ∷ b ∷ c ∷ d ∷ bytes) ≡ to_end (with_run w n (Then (field.Value in_value.PartCount))) bytes
unfolding to_end walk_step
part_counted w a b c d n bytes e z = rw e (rw z refl)

part_begins : (w : Walk) (n m : ℕ) (bytes : List ℕ) → 4 ≤ length bytes
    → n ≡ get_or bytes 0 0 + 256 * get_or bytes 1 0 + 65536 * get_or bytes 2 0 + 16777216 * get_or bytes 3 0
    → length bytes - 4 < n → m ≡ n - (length bytes - 4)
    → to_end (with_number w (field.Value in_value.PartCount)) bytes ≡ Within (with_run w m (Then (field.Value in_value.PartCount)))
part_begins w n m [] l e more f = absurd (omega (arith, l))
part_begins w n m (a ∷ []) l e more f = absurd (omega (arith, l))
part_begins w n m (a ∷ b ∷ []) l e more f = absurd (omega (arith, l))
part_begins w n m (a ∷ b ∷ c ∷ []) l e more f = absurd (omega (arith, l))
part_begins w n m (a ∷ b ∷ c ∷ d ∷ bytes) l e more f =
    let s : four_spelled a b c d ≡ n = omega (arith, e) in
    let z : (n == 0) ≡ false = search rules in
    let k : n - length bytes ≡ m = omega (arith, f) in
    let u : Walk = with_run w n (Then (field.Value in_value.PartCount)) in
    part_counted w a b c d n bytes s z
    ∙ (end_going u bytes refl
    ∙ (ran_within u (with_run w (n - length bytes) (Then (field.Value in_value.PartCount))) n (Then (field.Value in_value.PartCount)) bytes refl (omega (arith, more)) refl
    ∙ ap (λ (i : ℕ). Within (with_run w i (Then (field.Value in_value.PartCount)))) k))

-- a part of which so many bytes are left ends among these bytes, and the next one begins and doesn't end
pub border_passed : (w : Walk) (left n m : ℕ) (piece : List ℕ) → w.at.due ≡ Run left (Then (field.Value in_value.PartCount)) → 0 < left → left + 4 ≤ length piece
    → n ≡ get_or (drop left piece) 0 0 + 256 * get_or (drop left piece) 1 0 + 65536 * get_or (drop left piece) 2 0 + 16777216 * get_or (drop left piece) 3 0
    → length piece - left - 4 < n → m ≡ n - (length piece - left - 4)
    → onward w piece ≡ Within (with_run w m (Then (field.Value in_value.PartCount)))
border_passed w left n m piece d some few e more f =
    let l : length (drop left piece) ≡ length piece - left = length-drop left piece in
    ran w (with_number w (field.Value in_value.PartCount)) left left (Then (field.Value in_value.PartCount)) piece d (omega (arith, few)) (omega (arith, few)) (omega (arith, some)) refl
    ∙ part_begins w n m (drop left piece) (omega (arith, l, few)) e (omega (arith, l, more)) (omega (arith, l, f))

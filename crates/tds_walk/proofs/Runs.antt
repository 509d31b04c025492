-- Runs of bytes that a piece doesn't end, and what is kept of a token's first bytes in it.
use Rattle.std.proofs.Common.{◌≡◌, ◌∙◌, ◌≤◌, ◌<◌, ℕ, zero, suc, ◌+◌, ◌-◌, ◌*◌, ◌/◌, ◌==◌, nat_lt, true, false, List, [], ◌∷◌, length, drop, take, get_or, Option, None, refl, sym, ap, arith, rules}
use Rattle.std.proofs.lemmas.Bool.{lt-ltb}
use Rattle.std.proofs.lemmas.List.{drop_all, length-drop, length-take, take_all, take-append-le}
use Rattle.tds_wire.specs.declared.due.Due.TheVariants.{Run}
use Rattle.tds_wire.specs.declared.due.Field.{Field}
use Rattle.tds_wire.specs.declared.due.Field.TheVariants as field
use Rattle.tds_wire.specs.declared.due.Next.{Next}
use Rattle.tds_wire.specs.declared.due.Next.TheVariants.{Then}
use Rattle.tds_wire.specs.declared.due.Standing.TheVariants.{Going}
use Rattle.tds_wire.specs.declared.due.ValueField.TheVariants as in_value
use Rattle.tds_wire.specs.declared.fault.Refusal.{Refusal}
use Rattle.tds_wire.specs.declared.head.Head.{Head}
use Rattle.tds_wire.specs.Bytes.{Within, onward, standing, walk_step, to_end}
use Rattle.tds_wire.specs.Lent.{head_of}
use Rattle.tds_wire.specs.Reading.{Inside, Parser, found_by, found_on, inside, kept, next_token}
use Rattle.tds_wire.specs.Walking.{Walk, with_due, with_number, with_run}

end_going : (w : Walk) (bytes : List ℕ) → standing w.at.due ≡ Going → to_end w bytes ≡ onward w bytes
unfolding to_end onward
end_going w [] h = rw h refl
end_going w (b ∷ bytes) h = rw h refl

due_again : (w : Walk) (left : ℕ) (next : Next) → w.at.due ≡ Run left next → with_due w (Run left next) ≡ w
due_again w left next h = ap (with_due w) (sym h)

run_on : (w : Walk) (left n : ℕ) (next : Next) (bytes : List ℕ) → n ≤ left - 1 → n ≤ length bytes
    → onward (with_due w (Run left next)) bytes ≡ onward (with_due w (Run (left - n) next)) (drop n bytes)
unfolding onward to_end walk_step
run_on w left zero next bytes h g =
    let e : left - 0 ≡ left = omega arith in
    rw e refl
run_on w left (suc n) next [] h g = absurd (omega (arith, g))
run_on w left (suc n) next (b ∷ []) h g =
    let t : nat_lt 1 left ≡ true = lt-ltb 1 left (omega (arith, h)) in
    let z : n ≡ 0 = omega (arith, g) in
    let e : left - suc n ≡ left - 1 = omega (arith, z) in
    rw t (rw e (rw z refl))
run_on w left (suc n) next (b ∷ (c ∷ bytes)) h g =
    let t : nat_lt 1 left ≡ true = lt-ltb 1 left (omega (arith, h)) in
    let e : left - suc n ≡ left - 1 - n = omega arith in
    rw t (rw e (run_on w (left - 1) n next (c ∷ bytes) (omega (arith, h)) (omega (arith, g))))

-- a run that goes on behind these bytes
pub ran_within : (w v : Walk) (left : ℕ) (next : Next) (bytes : List ℕ) → w.at.due ≡ Run left next → length bytes < left → v ≡ with_due w (Run (left - length bytes) next)
    → onward w bytes ≡ Within v
unfolding onward
ran_within w v left next bytes d h s =
    let u : Walk = with_due w (Run (left - length bytes) next) in
    let none : drop (length bytes) bytes ≡ [] = drop_all (length bytes) bytes (omega arith) in
    ap (λ (x : Walk). onward x bytes) (sym (due_again w left next d)) ∙ (run_on w left (length bytes) next bytes (omega (arith, h)) (omega arith)
    ∙ (ap (onward u) none ∙ ap Within (sym s)))

-- a run before a number, of which all the bytes are there
run_whole : (w : Walk) (n : ℕ) (f : Field) (bytes : List ℕ) → suc n ≤ length bytes → onward (with_due w (Run (suc n) (Then f))) bytes ≡ to_end (with_number w f) (drop (suc n) bytes)
unfolding onward walk_step
run_whole w n f [] h = absurd (omega (arith, h))
run_whole w zero f (b ∷ bytes) h = refl
run_whole w (suc n) f (b ∷ bytes) h =
    let t : nat_lt 1 (suc (suc n)) ≡ true = lt-ltb 1 (suc (suc n)) (omega arith) in
    let m : suc (suc n) - 1 ≡ suc n = omega arith in
    rw t (rw m (end_going (with_due w (Run (suc n) (Then f))) bytes refl ∙ run_whole w n f bytes (omega (arith, h))))

ran : (w : Walk) (left : ℕ) (f : Field) (bytes : List ℕ) → w.at.due ≡ Run left (Then f) → 0 < left → left ≤ length bytes → onward w bytes ≡ to_end (with_number w f) (drop left bytes)
ran w zero f bytes d some h = absurd (omega (arith, some))
ran w (suc n) f bytes d some h = ap (λ (x : Walk). onward x bytes) (sym (due_again w (suc n) (Then f) d)) ∙ run_whole w n f bytes h

-- the number that four bytes spell
abbrev four_spelled : ℕ → ℕ → ℕ → ℕ → ℕ
four_spelled a b c d = (((0 / 256 + 16777216 * a) / 256 + 16777216 * b) / 256 + 16777216 * c) / 256 + 16777216 * d

part_counted : (w : Walk) (a b c d n : ℕ) (bytes : List ℕ) → four_spelled a b c d ≡ n → (n == 0) ≡ false
    → to_end (with_number w (field.Value in_value.PartCount)) (a ∷ b ∷ c ∷ d ∷ bytes) ≡ to_end (with_run w n (Then (field.Value in_value.PartCount))) bytes
unfolding to_end walk_step
part_counted w a b c d n bytes e z = rw e (rw z refl)

part_begins : (w : Walk) (n m : ℕ) (bytes : List ℕ) → 4 ≤ length bytes
    → n ≡ get_or bytes 0 0 + 256 * get_or bytes 1 0 + 65536 * get_or bytes 2 0 + 16777216 * get_or bytes 3 0
    → length bytes - 4 < n → m ≡ n - (length bytes - 4)
    → to_end (with_number w (field.Value in_value.PartCount)) bytes ≡ Within (with_run w m (Then (field.Value in_value.PartCount)))
part_begins w n m [] l e more f = absurd (omega (arith, l))
part_begins w n m (a ∷ []) l e more f = absurd (omega (arith, l))
part_begins w n m (a ∷ b ∷ []) l e more f = absurd (omega (arith, l))
part_begins w n m (a ∷ b ∷ c ∷ []) l e more f = absurd (omega (arith, l))
part_begins w n m (a ∷ b ∷ c ∷ d ∷ bytes) l e more f =
    let s : four_spelled a b c d ≡ n = omega (arith, e) in
    let z : (n == 0) ≡ false = search rules in
    let k : n - length bytes ≡ m = omega (arith, f) in
    let u : Walk = with_run w n (Then (field.Value in_value.PartCount)) in
    part_counted w a b c d n bytes s z
    ∙ (end_going u bytes refl
    ∙ (ran_within u (with_run w (n - length bytes) (Then (field.Value in_value.PartCount))) n (Then (field.Value in_value.PartCount)) bytes refl (omega (arith, more)) refl
    ∙ ap (λ (i : ℕ). Within (with_run w i (Then (field.Value in_value.PartCount)))) k))

-- a part of which so many bytes are left ends among these bytes, and the next one begins and doesn't end
pub border_passed : (w : Walk) (left n m : ℕ) (piece : List ℕ) → w.at.due ≡ Run left (Then (field.Value in_value.PartCount)) → 0 < left → left + 4 ≤ length piece
    → n ≡ get_or (drop left piece) 0 0 + 256 * get_or (drop left piece) 1 0 + 65536 * get_or (drop left piece) 2 0 + 16777216 * get_or (drop left piece) 3 0
    → length piece - left - 4 < n → m ≡ n - (length piece - left - 4)
    → onward w piece ≡ Within (with_run w m (Then (field.Value in_value.PartCount)))
border_passed w left n m piece d some few e more f =
    let l : length (drop left piece) ≡ length piece - left = length-drop left piece in
    ran w left (field.Value in_value.PartCount) piece d some (omega (arith, few))
    ∙ part_begins w n m (drop left piece) (omega (arith, l, few)) e (omega (arith, l, more)) (omega (arith, l, f))

pub all_left : (piece : List ℕ) (done : ℕ) → take (length piece - done) (drop done piece) ≡ drop done piece
all_left piece done =
    let l = length-drop done piece in
    take_all (length piece - done) (drop done piece) (omega (arith, l))

-- ---- A token's first bytes

pub kept_full : (h : Head) → length h.bytes ≡ 24 → 24 ≤ h.count → length (head_of h) ≡ 24
unfolding head_of
kept_full h k n = let l = length-take h.count h.bytes in omega (arith, l, k, n)

-- none more
pub none_kept : (old bytes : List ℕ) → length old ≡ 24 → old ≡ kept old bytes
none_kept old bytes e =
    let whole : take 24 old ≡ old = take_all 24 old (omega (arith, e)) in
    sym (take-append-le 24 old bytes (omega (arith, e)) ∙ whole)

pub inside_same : (w : Walk) (head more : List ℕ) (start passed : ℕ) → head ≡ more
    → Inside (record { walk = w; head = head; start = start; passed = passed; refused = None }) ≡ Inside (record { walk = w; head = more; start = start; passed = passed; refused = None })
inside_same w head more start passed h = cc

pub feeds_inside : (r : Parser) (piece : List ℕ) (w : Walk) → r.refused ≡ None → Within w ≡ onward r.walk piece → Inside (inside r w piece) ≡ next_token r piece
unfolding next_token
feeds_inside r piece w e does = ap (found_by r piece) does ∙ sym (ap (λ (o : Option Refusal). found_on o r piece) e)

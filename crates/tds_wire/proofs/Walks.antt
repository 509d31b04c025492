-- What bytes do, one after another.
use Rattle.std.proofs.Common.{◌≡◌, refl, sym, ◌∙◌, ap, arith, ℕ, zero, suc, ◌+◌, ◌-◌, ◌<◌, ◌≤◌, nat_lt, true, List, [], ◌∷◌, ◌++◌, length, drop, take, get_or}
use Rattle.std.specs.Prelude.{max}
use Rattle.tds_wire.proofs.WhatIsDue.{go_due}
use Rattle.std.proofs.lemmas.List.{drop_more}
use Rattle.tds_wire.specs.declared.fault.WireFault.{WireFault}
use Rattle.tds_wire.specs.declared.due.Next.{Next}
use Rattle.tds_wire.specs.declared.due.Due.TheVariants.{Run}
use Rattle.std.proofs.lemmas.Bool.{lt-ltb}
use Rattle.std.proofs.lemmas.List.{drop-drop, drop_all, length-drop, take_all}
use Rattle.tds_wire.specs.declared.due.Standing.{Standing}
use Rattle.tds_wire.specs.declared.due.Standing.TheVariants.{Between, Going, Failing}
use Rattle.tds_wire.specs.Walking.{Walk, go, with_due}
use Rattle.tds_wire.specs.Bytes.{walk_step, standing, Went, Over, Within, Failed, went_by, went_on, to_end, onward, then_piece}

pub end_between : (w : Walk) (bytes : List ℕ) → standing w.at.due ≡ Between → to_end w bytes ≡ Over w bytes
unfolding to_end
end_between w [] h = rw h refl
end_between w (b ∷ bytes) h = rw h refl

pub end_going : (w : Walk) (bytes : List ℕ) → standing w.at.due ≡ Going → to_end w bytes ≡ onward w bytes
unfolding to_end onward
end_going w [] h = rw h refl
end_going w (b ∷ bytes) h = rw h refl

pub end_failing : (w : Walk) (bytes : List ℕ) (fault : WireFault) → standing w.at.due ≡ Failing fault → to_end w bytes ≡ Failed fault bytes
unfolding to_end
end_failing w [] fault h = rw h refl
end_failing w (b ∷ bytes) fault h = rw h refl

pub onward_failing : (w : Walk) (bytes : List ℕ) (fault : WireFault) → standing w.at.due ≡ Failing fault → onward w bytes ≡ Failed fault bytes
unfolding onward
onward_failing w [] fault h = rw h refl
onward_failing w (b ∷ bytes) fault h = rw h refl

-- ---- Cutting

cut_by : (s : Standing) (w : Walk) (bytes more : List ℕ) (x y : Went) → then_piece x more ≡ y
    → then_piece (went_by s w bytes x) more ≡ went_by s w (bytes ++ more) y
cut_by Between w bytes more x y h = refl
cut_by Going w bytes more x y h = h
cut_by (Failing fault) w bytes more x y h = refl

empty_by : (s : Standing) (w : Walk) (more : List ℕ) → standing w.at.due ≡ s → then_piece (went_by s w [] (Within w)) more ≡ to_end w more
empty_by Between w more h = sym (end_between w more h)
empty_by Going w more h = sym (end_going w more h)
empty_by (Failing fault) w more h = sym (end_failing w more fault h)

pub cut_end : (w : Walk) (bytes more : List ℕ) → then_piece (to_end w bytes) more ≡ to_end w (bytes ++ more)
unfolding to_end
cut_end w [] more = empty_by (standing w.at.due) w more refl
cut_end w (b ∷ bytes) more = cut_by (standing w.at.due) w (b ∷ bytes) more _ _ (cut_end (walk_step w b) bytes more)

cut_on : (s : Standing) (bytes more : List ℕ) (x y : Went) → then_piece x more ≡ y → then_piece (went_on s bytes x) more ≡ went_on s (bytes ++ more) y
cut_on Between bytes more x y h = h
cut_on Going bytes more x y h = h
cut_on (Failing fault) bytes more x y h = refl

nothing_by : (s : Standing) (w : Walk) (more : List ℕ) → standing w.at.due ≡ s → then_piece (went_on s [] (Within w)) more ≡ onward w more
nothing_by Between w more h = refl
nothing_by Going w more h = refl
nothing_by (Failing fault) w more h = sym (onward_failing w more fault h)

pub cut : (w : Walk) (bytes more : List ℕ) → then_piece (onward w bytes) more ≡ onward w (bytes ++ more)
unfolding onward
cut w [] more = nothing_by (standing w.at.due) w more refl
cut w (b ∷ bytes) more = cut_on (standing w.at.due) (b ∷ bytes) more _ _ (cut_end (walk_step w b) bytes more)

-- ---- Bytes at once

due_again : (w : Walk) (left : ℕ) (next : Next) → w.at.due ≡ Run left next → with_due w (Run left next) ≡ w
due_again w left next h = ap (with_due w) (sym h)

pub run_on : (w : Walk) (left n : ℕ) (next : Next) (bytes : List ℕ) → n ≤ left - 1 → n ≤ length bytes
    → onward (with_due w (Run left next)) bytes ≡ onward (with_due w (Run (left - n) next)) (drop n bytes)
unfolding onward to_end walk_step
run_on w left zero next bytes h g =
    let e : left - 0 ≡ left = omega arith in
    rw e refl
run_on w left (suc n) next [] h g = absurd (omega (arith, g))
run_on w left (suc n) next (b ∷ []) h g =
    let t : nat_lt 1 left ≡ true = lt-ltb 1 left (omega (arith, h)) in
    let z : n ≡ 0 = omega (arith, g) in
    let e : left - suc n ≡ left - 1 = omega (arith, z) in
    rw t (rw e (rw z refl))
run_on w left (suc n) next (b ∷ (c ∷ bytes)) h g =
    let t : nat_lt 1 left ≡ true = lt-ltb 1 left (omega (arith, h)) in
    let e : left - suc n ≡ left - 1 - n = omega arith in
    rw t (rw e (run_on w (left - 1) n next (c ∷ bytes) (omega (arith, h)) (omega (arith, g))))

on_by : (s : Standing) (bytes : List ℕ) (x : Went) → ((fault : WireFault) → s ≡ Failing fault → ⊥) → went_on s bytes x ≡ x
on_by Between bytes x h = refl
on_by Going bytes x h = refl
on_by (Failing fault) bytes x h = absurd (h fault refl)

pub stepped : (w : Walk) (piece : List ℕ) (i : ℕ) → i < length piece → ((fault : WireFault) → standing w.at.due ≡ Failing fault → ⊥)
    → onward w (drop i piece) ≡ to_end (walk_step w (get_or piece i 0)) (drop (i + 1) piece)
unfolding onward
stepped w piece i h on = rw (drop_more piece i 0 h) (on_by (standing w.at.due) _ _ on)

-- a byte
pub taken : (w v : Walk) (bytes : List ℕ) (b : ℕ) → 0 < length bytes → b ≡ get_or bytes 0 0 → v ≡ walk_step w b → ((fault : WireFault) → standing w.at.due ≡ Failing fault → ⊥)
    → onward w bytes ≡ to_end v (drop 1 bytes)
taken w v bytes b some c s on = stepped w bytes 0 some on ∙ ap (λ (x : Walk). to_end x (drop 1 bytes)) (ap (walk_step w) (sym c) ∙ sym s)

-- a run, of which all the bytes are there
run_whole : (w : Walk) (left count : ℕ) (next : Next) (bytes : List ℕ) → left ≤ length bytes → 0 < length bytes → count ≡ max left 1
    → onward (with_due w (Run left next)) bytes ≡ to_end (go w next) (drop count bytes)
unfolding onward walk_step
run_whole w left count next [] h g e = absurd (omega (arith, g))
run_whole w zero count next (b ∷ bytes) h g e =
    let z : count ≡ 1 = omega (arith, e) in
    rw z (ap (λ (x : Walk). to_end x bytes) (go_due w (Run 0 next) next))
run_whole w (suc zero) count next (b ∷ bytes) h g e =
    let z : count ≡ 1 = omega (arith, e) in
    rw z (ap (λ (x : Walk). to_end x bytes) (go_due w (Run 1 next) next))
run_whole w (suc (suc n)) count next (b ∷ bytes) h g e =
    let t : nat_lt 1 (suc (suc n)) ≡ true = lt-ltb 1 (suc (suc n)) (omega arith) in
    let z : count ≡ suc (suc n) = omega (arith, e) in
    let m : suc (suc n) - 1 ≡ suc n = omega arith in
    rw t (rw m (rw z (end_going (with_due w (Run (suc n) next)) bytes refl ∙ run_whole w (suc n) (suc n) next bytes (omega (arith, h)) (omega (arith, h)) (omega arith))))

pub ran : (w v : Walk) (left count : ℕ) (next : Next) (bytes : List ℕ) → w.at.due ≡ Run left next → left ≤ length bytes → 0 < length bytes → count ≡ max left 1 → v ≡ go w next
    → onward w bytes ≡ to_end v (drop count bytes)
ran w v left count next bytes d h g e s =
    ap (λ (x : Walk). onward x bytes) (sym (due_again w left next d)) ∙ (run_whole w left count next bytes h g e ∙ ap (λ (x : Walk). to_end x (drop count bytes)) (sym s))

-- a run that goes on behind these bytes
pub ran_within : (w v : Walk) (left : ℕ) (next : Next) (bytes : List ℕ) → w.at.due ≡ Run left next → length bytes < left → v ≡ with_due w (Run (left - length bytes) next)
    → onward w bytes ≡ Within v
unfolding onward
ran_within w v left next bytes d h s =
    let u : Walk = with_due w (Run (left - length bytes) next) in
    let none : drop (length bytes) bytes ≡ [] = drop_all (length bytes) bytes (omega arith) in
    ap (λ (x : Walk). onward x bytes) (sym (due_again w left next d)) ∙ (run_on w left (length bytes) next bytes (omega (arith, h)) (omega arith)
    ∙ (ap (onward u) none ∙ ap Within (sym s)))

-- a run of which only so many bytes are there
pub ran_on : (w v : Walk) (left : ℕ) (next : Next) (bytes : List ℕ) → w.at.due ≡ Run left next → length bytes < left → v ≡ with_due w (Run (left - length bytes) next)
    → onward w bytes ≡ to_end v (drop (length bytes) bytes)
ran_on w v left next bytes d h s =
    let u : Walk = with_due w (Run (left - length bytes) next) in
    ap (λ (x : Walk). onward x bytes) (sym (due_again w left next d)) ∙ (run_on w left (length bytes) next bytes (omega (arith, h)) (omega arith)
    ∙ (sym (end_going u (drop (length bytes) bytes) refl) ∙ ap (λ (x : Walk). to_end x (drop (length bytes) bytes)) (sym s)))

-- what a turn of the loop does
pub all_left : (piece : List ℕ) (done : ℕ) → take (length piece - done) (drop done piece) ≡ drop done piece
all_left piece done =
    let l = length-drop done piece in
    take_all (length piece - done) (drop done piece) (omega (arith, l))

pub turned : (w v : Walk) (piece : List ℕ) (done n : ℕ)
    → onward w (take (length piece - done) (drop done piece)) ≡ to_end v (drop n (take (length piece - done) (drop done piece)))
    → onward w (drop done piece) ≡ to_end v (drop (done + n) piece)
turned w v piece done n e =
    ap (onward w) (sym (all_left piece done)) ∙ (e ∙ (ap (λ (rest : List ℕ). to_end v (drop n rest)) (all_left piece done) ∙ ap (to_end v) (drop-drop n done piece)))

pub nothing_left : (w : Walk) (piece : List ℕ) (i : ℕ) → i ≡ length piece → ((fault : WireFault) → standing w.at.due ≡ Failing fault → ⊥)
    → onward w (drop i piece) ≡ Within w
unfolding onward
nothing_left w piece i e on = rw (drop_all i piece (omega (arith, e))) (on_by (standing w.at.due) [] (Within w) on)

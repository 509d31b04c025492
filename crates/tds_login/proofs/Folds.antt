-- What bytes do, one after another, and that cutting them doesn't matter.
use Rattle.std.proofs.Common.{◌≡◌, refl, sym, ◌∙◌, ap, ℕ, Bool, true, false, List, [], ◌∷◌, ◌++◌, append_assoc, append-nil, Option, Some, None, Result, Ok, Err, if◌then◌else◌, ◌<◌, ◌+◌, ◌-◌, ◌*◌, nat_lt, suc, length, take, drop, get_or, arith}
use Rattle.std.proofs.Math.Seq.{take-suc}
use Rattle.std.proofs.lemmas.List.{take-append-drop}
use Rattle.tds_login.specs.declared.answer.LoginAnswer.{LoginAnswer}
use Rattle.tds_login.specs.declared.login.Due.{Due}
use Rattle.tds_login.specs.declared.login.Due.TheVariants as due
use Rattle.tds_login.specs.declared.login.Login.{Login}
use Rattle.tds_login.specs.declared.login.LoginFault.{LoginFault}
use Rattle.tds_login.specs.declared.login.LoginFault.TheVariants.{WrongLength, LongMessage}
use Rattle.tds_login.specs.declared.login.Message.{Message}
use Rattle.tds_login.specs.declared.login.Message.TheVariants.{PreLogin, Login7}
use Rattle.tds_login.specs.declared.login.Stage.{Stage}
use Rattle.tds_login.specs.declared.login.Stage.TheVariants.{Start, Prepared, Broken}
use Rattle.tds_login.specs.Reading.{Step, step, step_at, stepped, goes_on, fails, is_wrong_length, closed, behind, counted, with_message, message_at, message_done, answered, after, answers_in, answers_to, fault_at, fault_of}

-- ---- Folds

-- one byte more
pub after-last : (l : Login) (xs : List ℕ) (b : ℕ) → after l (xs ++ b ∷ []) ≡ (step (after l xs) b).login
after-last l [] b = refl
after-last l (x ∷ xs) b = after-last (step l x).login xs b

pub after-append : (l : Login) (xs ys : List ℕ) → after l (xs ++ ys) ≡ after (after l xs) ys
after-append l [] ys = refl
after-append l (x ∷ xs) ys = after-append (step l x).login xs ys

pub answers-append : (l : Login) (xs ys : List ℕ) → answers_to l (xs ++ ys) ≡ answers_to l xs ++ answers_to (after l xs) ys
answers-append l [] ys = refl
answers-append l (x ∷ xs) ys =
    ap (λ (ys : List LoginAnswer). answers_in (step l x).brings ++ ys) (answers-append (step l x).login xs ys)
    ∙ sym (append_assoc (answers_in (step l x).brings) _ _)

pub answers-last : (l : Login) (xs : List ℕ) (b : ℕ) → answers_to l (xs ++ b ∷ []) ≡ answers_to l xs ++ answers_in (step (after l xs) b).brings
answers-last l xs b =
    answers-append l xs (b ∷ [])
    ∙ ap (λ (ys : List LoginAnswer). answers_to l xs ++ ys) (append-nil (answers_in (step (after l xs) b).brings))

take_more : (xs : List ℕ) (i : ℕ) → i < length xs → take (i + 1) xs ≡ take i xs ++ get_or xs i 0 ∷ []
take_more xs i h = let e : i + 1 ≡ suc i = omega arith in rw e (take-suc xs i 0 h)

-- the login behind the next byte
pub after_more : (old l : Login) (xs : List ℕ) (i : ℕ) → i < length xs → l ≡ after old (take i xs)
    → (step l (get_or xs i 0)).login ≡ after old (take (i + 1) xs)
after_more old l xs i h e = rw e (sym (ap (after old) (take_more xs i h) ∙ after-last old (take i xs) (get_or xs i 0)))

-- what is answered behind it
pub answers_more : (old l : Login) (xs : List ℕ) (i : ℕ) → i < length xs → l ≡ after old (take i xs)
    → answers_to old (take i xs) ≡ []
    → answers_to old (take (i + 1) xs) ≡ answers_in (step l (get_or xs i 0)).brings
answers_more old l xs i h e q =
    ap (answers_to old) (take_more xs i h) ∙ answers-last old (take i xs) (get_or xs i 0)
    ∙ ap (λ (ys : List LoginAnswer). ys ++ answers_in (step (after old (take i xs)) (get_or xs i 0)).brings) q
    ∙ ap (λ (k : Login). answers_in (step k (get_or xs i 0)).brings) (sym e)

-- ---- A login that goes on

-- it answers no fault
abbrev IsOn : Login → Type 0
IsOn l = fault_of l ≡ None

on_if : (c : Bool) (s t : Step) → IsOn s.login → IsOn t.login → IsOn (if c then s else t).login
on_if true s t p q = p
on_if false s t p q = q

on_answered : (l : Login) (r : Result LoginAnswer LoginFault) → IsOn l → IsOn (answered l r).login
on_answered l (Ok answer) h = h
on_answered l (Err fault) h = h

on_message : (l : Login) (m : Option Message) → IsOn l → IsOn (message_done l m).login
on_message l None h = h
on_message l (Some PreLogin) h = refl
on_message l (Some Login7) h = on_answered _ _ h

on_type : (l : Login) (m : Option Message) → IsOn l → IsOn (with_message l m).login
on_type l None h = h
on_type l (Some m) h = h

on_behind : (l : Login) → IsOn l → IsOn (behind l).login
on_behind l h =
    let between_packets : Step = goes_on (record l { due = due.Type }) in
    on_if (nat_lt 0 l.missing) (goes_on (record l { due = due.Data }))
    (if l.ends then message_done l l.message else between_packets) h
    (on_if l.ends (message_done l l.message) between_packets (on_message l l.message h) h)

-- a byte alone breaks none
on_stepped : (l : Login) (d : Due) (b : ℕ) → IsOn l → IsOn (stepped l d b).login
on_stepped l due.Type b h = on_type l (message_at l.message l.stage b) h
on_stepped l due.Status b h = h
on_stepped l due.HighLength b h = h
on_stepped l due.LowLength b h =
    let n : ℕ = 256 * l.high + b in
    on_if (is_wrong_length n l.ends) (fails l WrongLength)
    (goes_on (record l { missing = n - 8; due = due.Skipped 4 })) h h
on_stepped l (due.Skipped left) b h =
    on_if (nat_lt 1 left) (goes_on (record l { due = due.Skipped (left - 1) })) (behind l) h (on_behind l h)
on_stepped l due.Data b h =
    on_if (nat_lt l.count 131071) (behind (counted l b)) (fails l LongMessage) (on_behind (counted l b) h) h

on_closed : (s : Step) → s.brings ≡ Ok None → IsOn s.login → IsOn (closed s).login
on_closed s e h = rw e h

on_at : (at : Stage) (l : Login) (b : ℕ) → l.stage ≡ at → (step_at at l b).brings ≡ Ok None → IsOn (step_at at l b).login
on_at Start l b e h = on_closed _ h (on_stepped l l.due b (ap fault_at e))
on_at (Prepared demands) l b e h = on_closed _ h (on_stepped l l.due b (ap fault_at e))
on_at (Broken fault) l b e h = absurd cc

-- a byte that brings nothing lets it go on
pub goes_on_behind : (l : Login) (b : ℕ) → (step l b).brings ≡ Ok None → fault_of (step l b).login ≡ None
unfolding step
goes_on_behind l b h = on_at l.stage l b refl h

-- ---- A login that is broken

broken_closed : (s : Step) (fault : LoginFault) → s.brings ≡ Err fault → fault_of (closed s).login ≡ Some fault
broken_closed s fault e = rw e refl

broken_at : (at : Stage) (l : Login) (b : ℕ) (fault : LoginFault) → l.stage ≡ at → (step_at at l b).brings ≡ Err fault → fault_of (step_at at l b).login ≡ Some fault
broken_at Start l b fault e h = broken_closed _ fault h
broken_at (Prepared demands) l b fault e h = broken_closed _ fault h
broken_at (Broken was) l b fault e h = let x = ap fault_at e in cc

-- the fault that a byte brings is answered from then on
pub broken_behind : (l : Login) (b : ℕ) (fault : LoginFault) → (step l b).brings ≡ Err fault → fault_of (step l b).login ≡ Some fault
unfolding step
broken_behind l b fault h = broken_at l.stage l b fault refl h

still_at : (at : Stage) (l : Login) (b : ℕ) (fault : LoginFault) → fault_at at ≡ Some fault → ((step_at at l b).login ≡ l) × (answers_in (step_at at l b).brings ≡ [])
still_at Start l b fault h = absurd cc
still_at (Prepared demands) l b fault h = absurd cc
still_at (Broken was) l b fault h = (refl, refl)

still : (l : Login) (b : ℕ) (fault : LoginFault) → fault_of l ≡ Some fault → ((step l b).login ≡ l) × (answers_in (step l b).brings ≡ [])
unfolding step
still l b fault h = still_at l.stage l b fault h

-- and nothing else happens
pub after_broken : (l : Login) (fault : LoginFault) (xs : List ℕ) → fault_of l ≡ Some fault → after l xs ≡ l
after_broken l fault [] h = refl
after_broken l fault (x ∷ xs) h =
    let s = (still l x fault h).0 in
    ap (λ (k : Login). after k xs) s ∙ after_broken l fault xs h

pub answers_broken : (l : Login) (fault : LoginFault) (xs : List ℕ) → fault_of l ≡ Some fault → answers_to l xs ≡ []
answers_broken l fault [] h = refl
answers_broken l fault (x ∷ xs) h =
    let s = still l x fault h in
    rw s.1 (ap (λ (k : Login). answers_to k xs) s.0 ∙ answers_broken l fault xs h)

-- ---- The whole of a piece in which the login broke

pub ends_broken : (old new : Login) (xs : List ℕ) (i : ℕ) (fault : LoginFault) → new ≡ after old (take i xs)
    → fault_of new ≡ Some fault → new ≡ after old xs
ends_broken old new xs i fault e h =
    sym (ap (after old) (sym (take-append-drop i xs)) ∙ after-append old (take i xs) (drop i xs)
    ∙ ap (λ (k : Login). after k (drop i xs)) (sym e) ∙ after_broken new fault (drop i xs) h)

pub ends_unanswered : (old new : Login) (xs : List ℕ) (i : ℕ) (fault : LoginFault) → new ≡ after old (take i xs)
    → fault_of new ≡ Some fault → answers_to old (take i xs) ≡ [] → answers_to old xs ≡ []
ends_unanswered old new xs i fault e h q =
    ap (answers_to old) (sym (take-append-drop i xs)) ∙ answers-append old (take i xs) (drop i xs)
    ∙ ap (λ (ys : List LoginAnswer). ys ++ answers_to (after old (take i xs)) (drop i xs)) q
    ∙ ap (λ (k : Login). answers_to k (drop i xs)) (sym e) ∙ answers_broken new fault (drop i xs) h

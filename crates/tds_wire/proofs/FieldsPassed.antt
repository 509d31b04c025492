-- A field of the layout is what the parser passes: numbers, runs of bytes, names.
use Rattle.std.proofs.Common.{◌≡◌, lit<, refl, ◌∙◌, ap, rules, arith, ℕ, zero, suc, ◌+◌, ◌-◌, ◌*◌, ◌<◌, ◌≤◌, ◌==◌, nat_lt, true, false, List, [], ◌∷◌, length}
use Rattle.std.proofs.lemmas.Bool.{lt-ltb}
use Rattle.tds_wire.specs.declared.fault.WireFault.{WireFault}
use Rattle.tds_wire.specs.declared.due.Field.{Field}
use Rattle.tds_wire.specs.declared.due.Next.{Next}
use Rattle.tds_wire.specs.declared.due.Due.TheVariants.{Number, Run}
use Rattle.tds_wire.specs.declared.due.Width.{Width}
use Rattle.tds_wire.specs.declared.due.Width.TheVariants.{One, Two, Four}
use Rattle.tds_wire.specs.Numbers.{width_of, bytes_of, shifted}
use Rattle.tds_wire.specs.Walking.{Walk, with_due, with_number, with_run, ended, broken, go, pass, arrive}
use Rattle.tds_wire.specs.Bytes.{walk_step, to_end, seen, seen_of}
use Rattle.tds_wire.specs.Layout.{Read, Got, Short, Wrong, ◌>>=◌, one, two, four, run, name, long_name, value, Seen}
use Rattle.tds_wire.proofs.WhatIsDue.{arrive_due, go_due}

-- ---- Reading one field behind another

pub same_bind : {A B : Type 0} (r : Read A) (f g : A → List ℕ → Read B) → ((x : A) (rest : List ℕ) → r ≡ Got x rest → f x rest ≡ g x rest) → (r >>= f) ≡ (r >>= g)
same_bind (Got x rest) f g h = h x rest refl
same_bind Short f g h = refl
same_bind (Wrong fault rest) f g h = refl

pub bind_bind : {A B C : Type 0} (r : Read A) (f : A → List ℕ → Read B) (g : B → List ℕ → Read C) → ((r >>= f) >>= g) ≡ (r >>= λ x rest. (f x rest >>= g))
bind_bind (Got x rest) f g = refl
bind_bind Short f g = refl
bind_bind (Wrong fault rest) f g = refl

-- a field, and what is behind it, where that is read before something else
pub chain : {A B C : Type 0} (r : Read A) (f : A → List ℕ → Read B) (k : B → List ℕ → Read C) (g : A → List ℕ → Read C)
    → ((x : A) (rest : List ℕ) → r ≡ Got x rest → g x rest ≡ (f x rest >>= k)) → (r >>= g) ≡ ((r >>= f) >>= k)
chain (Got x rest) f k g h = h x rest refl
chain Short f k g h = refl
chain (Wrong fault rest) f k g h = refl

-- ---- Numbers

pub number_none : (w : Walk) (f : Field) (left value : ℕ) → seen (to_end (with_due w (Number f left value)) []) ≡ Short
unfolding to_end
number_none w f left value = refl

number_more : (w : Walk) (f : Field) (left value b : ℕ) (rest : List ℕ) → 1 < left
    → seen (to_end (with_due w (Number f left value)) (b ∷ rest)) ≡ seen (to_end (with_due w (Number f (left - 1) (shifted (width_of f) value b))) rest)
unfolding to_end walk_step
number_more w f left value b rest l =
    let t : nat_lt 1 left ≡ true = lt-ltb 1 left l in
    rw t refl

number_last : (w : Walk) (f : Field) (value b : ℕ) (rest : List ℕ)
    → seen (to_end (with_due w (Number f 1 value)) (b ∷ rest)) ≡ seen (to_end (arrive w f (shifted (width_of f) value b)) rest)
unfolding to_end walk_step
number_last w f value b rest = ap (λ (x : Walk). seen (to_end x rest)) (arrive_due w (Number f 1 value) f (shifted (width_of f) value b))

abbrev pub number_at : Width → List ℕ → Read ℕ
number_at One = one
number_at Two = two
number_at Four = four

arrive_same : (w : Walk) (f : Field) (n m : ℕ) (rest : List ℕ) → n ≡ m → seen (to_end (arrive w f n) rest) ≡ seen (to_end (arrive w f m) rest)
arrive_same w f n m rest e = ap (λ (x : ℕ). seen (to_end (arrive w f x) rest)) e

two_is : (a b : ℕ) → shifted Two (shifted Two 0 a) b ≡ a + 256 * b
two_is a b = omega arith

four_is : (a b c d : ℕ) → shifted Four (shifted Four (shifted Four (shifted Four 0 a) b) c) d ≡ a + 256 * b + 65536 * c + 16777216 * d
four_is a b c d = omega arith

number_by : (v : Width) (w : Walk) (f : Field) (bytes : List ℕ) → width_of f ≡ v
    → seen (to_end (with_due w (Number f (bytes_of v) 0)) bytes) ≡ (number_at v bytes >>= λ n rest. seen (to_end (arrive w f n) rest))
number_by One w f [] e = number_none w f 1 0
number_by One w f (a ∷ rest) e = number_last w f 0 a rest ∙ arrive_same w f _ _ rest (ap (λ (v : Width). shifted v 0 a) e)
number_by Two w f [] e = number_none w f 2 0
number_by Two w f (a ∷ []) e = number_more w f 2 0 a [] (lit< tt) ∙ number_none w f 1 _
number_by Two w f (a ∷ (b ∷ rest)) e =
    number_more w f 2 0 a (b ∷ rest) (lit< tt) ∙ (number_last w f _ b rest
    ∙ arrive_same w f _ _ rest (ap (λ (v : Width). shifted v (shifted v 0 a) b) e ∙ two_is a b))
number_by Four w f [] e = number_none w f 4 0
number_by Four w f (a ∷ []) e = number_more w f 4 0 a [] (lit< tt) ∙ number_none w f 3 _
number_by Four w f (a ∷ (b ∷ [])) e = number_more w f 4 0 a (b ∷ []) (lit< tt) ∙ (number_more w f 3 _ b [] (lit< tt) ∙ number_none w f 2 _)
number_by Four w f (a ∷ (b ∷ (c ∷ []))) e =
    number_more w f 4 0 a (b ∷ c ∷ []) (lit< tt) ∙ (number_more w f 3 _ b (c ∷ []) (lit< tt) ∙ (number_more w f 2 _ c [] (lit< tt) ∙ number_none w f 1 _))
number_by Four w f (a ∷ (b ∷ (c ∷ (d ∷ rest)))) e =
    number_more w f 4 0 a (b ∷ c ∷ d ∷ rest) (lit< tt) ∙ (number_more w f 3 _ b (c ∷ d ∷ rest) (lit< tt) ∙ (number_more w f 2 _ c (d ∷ rest) (lit< tt)
    ∙ (number_last w f _ d rest
    ∙ arrive_same w f _ _ rest (ap (λ (v : Width). shifted v (shifted v (shifted v (shifted v 0 a) b) c) d) e ∙ four_is a b c d))))

-- a number that is due is read, and then what it says is due
pub number_seen : (w : Walk) (f : Field) (bytes : List ℕ)
    → seen (to_end (with_number w f) bytes) ≡ (number_at (width_of f) bytes >>= λ n rest. seen (to_end (arrive w f n) rest))
number_seen w f bytes = number_by (width_of f) w f bytes refl

-- ---- Runs

pub run_seen : (w : Walk) (n : ℕ) (next : Next) (bytes : List ℕ)
    → seen (to_end (with_run w (suc n) next) bytes) ≡ (run (suc n) bytes >>= λ u rest. seen (to_end (go w next) rest))
unfolding to_end walk_step run
run_seen w n next [] = refl
run_seen w zero next (b ∷ bytes) = ap (λ (x : Walk). seen (to_end x bytes)) (go_due w (Run 1 next) next)
run_seen w (suc n) next (b ∷ bytes) =
    let t : nat_lt 1 (suc (suc n)) ≡ true = lt-ltb 1 (suc (suc n)) (omega arith) in
    let e : suc (suc n) - 1 ≡ suc n = omega arith in
    rw t (rw e (run_seen w n next bytes))

-- a run of bytes, or none, is passed
pub pass_seen : (w : Walk) (n : ℕ) (next : Next) (bytes : List ℕ)
    → seen (to_end (pass w n next) bytes) ≡ (run n bytes >>= λ u rest. seen (to_end (go w next) rest))
unfolding pass run
pass_seen w zero next bytes = refl
pass_seen w (suc n) next bytes =
    let e : (suc n == 0) ≡ false = search rules in
    rw e (run_seen w n next bytes)

-- ---- Fields

-- a number that is due, and what it says
pub via : {A : Type 0} (w : Walk) (f : Field) (bytes : List ℕ) (F : ℕ → List ℕ → Read A) (K : A → List ℕ → Read Seen)
    → ((n : ℕ) (rest : List ℕ) → number_at (width_of f) bytes ≡ Got n rest → seen (to_end (arrive w f n) rest) ≡ (F n rest >>= K))
    → seen (to_end (with_number w f) bytes) ≡ ((number_at (width_of f) bytes >>= F) >>= K)
via w f bytes F K g = number_seen w f bytes ∙ chain (number_at (width_of f) bytes) F K _ g

-- what is seen behind a run of bytes
abbrev pub behind : Walk → Next → Unit {0} → List ℕ → Read Seen
behind w next u rest = seen (to_end (go w next) rest)

pub name_seen : (w : Walk) (f : Field) (next : Next) (bytes : List ℕ) → width_of f ≡ One → ((n : ℕ) → arrive w f n ≡ pass w (2 * n) next)
    → seen (to_end (with_number w f) bytes) ≡ (name bytes >>= behind w next)
name_seen w f next bytes e p =
    via w f bytes (λ n rest. run (2 * n) rest) (behind w next) (λ n rest q. ap (λ (x : Walk). seen (to_end x rest)) (p n) ∙ pass_seen w (2 * n) next rest)
    ∙ ap (λ (v : Width). (number_at v bytes >>= λ n rest. run (2 * n) rest) >>= behind w next) e

pub long_name_seen : (w : Walk) (f : Field) (next : Next) (bytes : List ℕ) → width_of f ≡ Two → ((n : ℕ) → arrive w f n ≡ pass w (2 * n) next)
    → seen (to_end (with_number w f) bytes) ≡ (long_name bytes >>= behind w next)
long_name_seen w f next bytes e p =
    via w f bytes (λ n rest. run (2 * n) rest) (behind w next) (λ n rest q. ap (λ (x : Walk). seen (to_end x rest)) (p n) ∙ pass_seen w (2 * n) next rest)
    ∙ ap (λ (v : Width). (number_at v bytes >>= λ n rest. run (2 * n) rest) >>= behind w next) e

-- ---- Ends

pub ended_seen : (w : Walk) (bytes : List ℕ) → seen (to_end (ended w) bytes) ≡ Got (seen_of w) bytes
unfolding to_end
ended_seen w [] = refl
ended_seen w (b ∷ bytes) = refl

pub broken_seen : (w : Walk) (fault : WireFault) (bytes : List ℕ) → seen (to_end (broken w fault) bytes) ≡ Wrong fault bytes
unfolding to_end
broken_seen w fault [] = refl
broken_seen w fault (b ∷ bytes) = refl

-- ---- What is left is shorter

abbrev rest_or : {A : Type 0} → Read A → List ℕ
rest_or (Got x rest) = rest
rest_or Short = []
rest_or (Wrong fault rest) = []

pub run_shorter : (n : ℕ) (bytes more : List ℕ) (u : Unit {0}) → run n bytes ≡ Got u more → length more ≤ length bytes
unfolding run
run_shorter zero bytes more u e = let q : bytes ≡ more = ap rest_or e in rw q (omega arith)
run_shorter (suc n) [] more u e = absurd cc
run_shorter (suc n) (b ∷ bytes) more u e = let h = run_shorter n bytes more u e in omega (arith, h)

pub four_shorter : (bytes rest : List ℕ) (n : ℕ) → four bytes ≡ Got n rest → length rest < length bytes
four_shorter [] rest n e = absurd cc
four_shorter (a ∷ []) rest n e = absurd cc
four_shorter (a ∷ (b ∷ [])) rest n e = absurd cc
four_shorter (a ∷ (b ∷ (c ∷ []))) rest n e = absurd cc
four_shorter (a ∷ (b ∷ (c ∷ (d ∷ more)))) rest n e = let q : more ≡ rest = ap rest_or e in rw q (omega arith)

pub one_shorter : (bytes rest : List ℕ) (n : ℕ) → one bytes ≡ Got n rest → length rest < length bytes
one_shorter [] rest n e = absurd cc
one_shorter (a ∷ more) rest n e = let q : more ≡ rest = ap rest_or e in rw q (omega arith)

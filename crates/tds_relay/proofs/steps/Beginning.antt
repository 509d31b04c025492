-- What is known of the messages that come on connections stays, or the next one begins.
use Rattle.std.proofs.Common.{◌≡◌, ◌∙◌, ◌==◌, ℕ, zero, suc, not, Bool, true, false, List, [], ◌∷◌, ◌++◌, Option, Some, None, inl, inr, refl, sym, ap, subst, slice_index_or, slice_set, option_map, if◌then◌else◌}
use Rattle.tds_packet.specs.Reading.{Reading}
use Rattle.tds_relay.specs.declared.link.Answer.{Answer}
use Rattle.tds_relay.specs.declared.link.Link.{Link}
use Rattle.tds_relay.specs.Cutting.{at_its_beginning}
use Rattle.tds_relay.specs.Reads.{MayBegin, StaysAt, answer_at, answer_on, if_open, link_at, open_answer, open_of, seen_of}

at_refl : {A : Type 0} (o : Option A) → StaysAt o o
at_refl None = tt
at_refl (Some r) = refl

at_both : {A : Type 0} (o p q : Option A) → StaysAt o p → StaysAt p q → StaysAt o q
at_both o p None h k = tt
at_both {A} o p (Some r) h k = subst (λ (x : Option A). StaysAt o x) k h

pub begin_refl : (o : Option Answer) → MayBegin o o
begin_refl o = inl (at_refl o)

mapped : (o p : Option Answer) → StaysAt o p → StaysAt (option_map at_its_beginning o) (option_map at_its_beginning p)
mapped o None h = tt
mapped o (Some a) h = ap (option_map at_its_beginning) h

twice : (o : Option Answer) → option_map at_its_beginning (option_map at_its_beginning o) ≡ option_map at_its_beginning o
twice None = refl
twice (Some a) = refl

pub begin_both : (o p q : Option Answer) → MayBegin o p → MayBegin p q → MayBegin o q
begin_both o p q (inl h) (inl k) = inl (at_both o p q h k)
begin_both o p q (inl h) (inr k) = inr (at_both (option_map at_its_beginning o) (option_map at_its_beginning p) q (mapped o p h) k)
begin_both o p q (inr h) (inl k) = inr (at_both (option_map at_its_beginning o) p q h k)
begin_both o p q (inr h) (inr k) =
    inr (at_both (option_map at_its_beginning o) (option_map at_its_beginning p) q
    (subst (λ (x : Option Answer). StaysAt x (option_map at_its_beginning p)) (twice o) (mapped (option_map at_its_beginning o) p h)) k)

-- of what stays open
pub open_begins : (o p : Option Reading) (a b : Option Answer) → StaysAt o p → MayBegin a b → MayBegin (if_open o a) (if_open p b)
open_begins o None a b stays h = inl tt
open_begins o (Some r) a b stays h = subst (λ (x : Option Reading). MayBegin (if_open x a) b) (sym stays) h

-- ---- One is written back

either_begins : (b : Bool) (l m : Link) (o p : Option Link) → MayBegin (Some l.answer) (Some m.answer) → MayBegin (option_map answer_on o) (option_map answer_on p)
    → MayBegin (option_map answer_on (if b then Some l else o)) (option_map answer_on (if b then Some m else p))
either_begins true l m o p begins rest = begins
either_begins false l m o p begins rest = rest

pub begins_written : (ls : List Link) (i : ℕ) (d m : Link) → m.number ≡ (slice_index_or ls i d).number → MayBegin (Some (slice_index_or ls i d).answer) (Some m.answer) → (n : ℕ) → MayBegin (answer_at n ls) (answer_at n (slice_set ls i m))
begins_written [] i d m number begins n = begin_refl None
begins_written (x ∷ xs) zero d m number begins n =
    subst (λ (k : ℕ). MayBegin (answer_at n (x ∷ xs)) (option_map answer_on (if k == n then Some m else link_at n xs))) (sym number)
    (either_begins (x.number == n) x m (link_at n xs) (link_at n xs) begins (begin_refl (answer_at n xs)))
begins_written (x ∷ xs) (suc i) d m number begins n =
    either_begins (x.number == n) x x (link_at n xs) (link_at n (slice_set xs i m)) (begin_refl (Some x.answer)) (begins_written xs i d m number begins n)

pub answer_stays : (a b : Answer) → b ≡ a → MayBegin (Some a) (Some b)
answer_stays a b same = inl (ap Some (sym same))

pub answer_begins : (a b : Answer) → b ≡ at_its_beginning a → MayBegin (Some a) (Some b)
answer_begins a b begins = inr (ap Some (sym begins))

-- of another nothing changes
either_answer : (b : Bool) (x : Link) (o p : Option Link) → option_map answer_on o ≡ option_map answer_on p → option_map answer_on (if b then Some x else o) ≡ option_map answer_on (if b then Some x else p)
either_answer true x o p rest = refl
either_answer false x o p rest = rest

pub other_answer : (ls : List Link) (i : ℕ) (d m : Link) (other : ℕ) → m.number ≡ (slice_index_or ls i d).number → ((slice_index_or ls i d).number == other) ≡ false → answer_at other (slice_set ls i m) ≡ answer_at other ls
other_answer [] i d m other same differs = refl
other_answer (x ∷ xs) zero d m other same differs =
    ap (λ (k : ℕ). option_map answer_on (if k == other then Some m else link_at other xs)) same
    ∙ ap (λ (b : Bool). option_map answer_on (if b then Some m else link_at other xs)) differs
    ∙ sym (ap (λ (b : Bool). option_map answer_on (if b then Some x else link_at other xs)) differs)
other_answer (x ∷ xs) (suc i) d m other same differs = either_answer (x.number == other) x (link_at other (slice_set xs i m)) (link_at other xs) (other_answer xs i d m other same differs)

-- what is open, and known, as it was
pub same_begins : (o p : Option Reading) (a b : Option Answer) → p ≡ o → b ≡ a → MayBegin (if_open o a) (if_open p b)
same_begins o p a b seen known =
    subst (λ (x : Option Reading). MayBegin (if_open o a) (if_open x b)) (sym seen) (subst (λ (x : Option Answer). MayBegin (if_open o a) (if_open o x)) (sym known) (begin_refl (if_open o a)))

-- ---- One is taken out

pub begins_choose : (b c : Bool) (x : Link) (o p : Option Link) → MayBegin (option_map answer_on o) (option_map answer_on p) → (b ≡ true → c ≡ true → option_map seen_of p ≡ None)
    → MayBegin (option_map answer_on (if c then Some x else o)) (option_map answer_on (if not b then (if c then Some x else p) else p))
begins_choose true true x o None rest gone = inl tt
begins_choose true true x o (Some l) rest gone = let none : option_map seen_of (Some l) ≡ None = gone refl refl in absurd (let u : ⊥ = cc in u)
begins_choose true false x o p rest gone = rest
begins_choose false true x o p rest gone = begin_refl (Some x.answer)
begins_choose false false x o p rest gone = rest

-- ---- One is put behind them, which isn't open

abbrev known_of : Option Link → Option Answer
known_of o = if_open (open_of (option_map seen_of o)) (option_map answer_on o)

begins_one : (b : Bool) (l : Link) → l.is_open ≡ false → MayBegin None (known_of (if b then Some l else None))
begins_one true l closed =
    subst (λ (o : Option Reading). MayBegin None (if_open o (Some l.answer))) (sym (ap (λ (b : Bool). let o : Option Reading = if b then Some l.reader else None in o) closed)) (inl tt)
begins_one false l closed = inl tt

begins_behind : (b : Bool) (x : Link) (o p : Option Link) → MayBegin (known_of o) (known_of p) → MayBegin (known_of (if b then Some x else o)) (known_of (if b then Some x else p))
begins_behind true x o p h = begin_refl (known_of (Some x))
begins_behind false x o p h = h

pub pushed_begins : (ls : List Link) (l : Link) → l.is_open ≡ false → (number : ℕ) → MayBegin (open_answer number ls) (open_answer number (ls ++ l ∷ []))
pushed_begins [] l closed number = begins_one (l.number == number) l closed
pushed_begins (x ∷ xs) l closed number = begins_behind (x.number == number) x (link_at number xs) (link_at number (xs ++ l ∷ [])) (pushed_begins xs l closed number)

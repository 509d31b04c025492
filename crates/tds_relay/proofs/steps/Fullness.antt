-- Each connection is as full as it was, and its packets are as long.
use Rattle.std.proofs.Common.{◌≡◌, ◌≢◌, ◌∙◌, ◌==◌, ℕ, zero, suc, not, Bool, true, false, List, [], ◌∷◌, ◌++◌, Option, Some, None, refl, sym, ap, subst, slice_index_or, slice_set, option_map, if◌then◌else◌}
use Rattle.std.specs.Prelude.{IfSome}
use Rattle.tds_packet.specs.Reading.{Reading}
use Rattle.tds_relay.specs.declared.link.Link.{Link}
use Rattle.tds_relay.specs.Queues.{Queue, queue_in}
use Rattle.tds_relay.specs.Reads.{Fullness, NoneFills, StaysAt, if_open, fullness_at, fullness_of, link_at, open_fullness, open_of, queue_on, seen_of}

at_refl : {A : Type 0} (o : Option A) → StaysAt o o
at_refl None = tt
at_refl (Some r) = refl

pub full_refl : (o : Option Fullness) → StaysAt o o
full_refl o = at_refl o

pub full_both : (o p q : Option Fullness) → StaysAt o p → StaysAt p q → StaysAt o q
full_both o p None h k = tt
full_both o p (Some r) h k = subst (λ (x : Option Fullness). StaysAt o x) k h

abbrev pub full_by : Queue → Fullness
full_by p = (p.size, p.is_full)

full_of : (o : Option Link) → option_map full_by (option_map (λ (l : Link). queue_in l.out) o) ≡ option_map fullness_of o
full_of None = refl
full_of (Some l) = refl

-- where the same waits
pub full_queued : (number : ℕ) (ls ms : List Link) → queue_on number ms ≡ queue_on number ls → fullness_at number ms ≡ fullness_at number ls
full_queued number ls ms same = sym (full_of (link_at number ms)) ∙ ap (option_map full_by) same ∙ full_of (link_at number ls)

-- of what stays open
pub full_open : (o p : Option Reading) (w v : Option Fullness) → StaysAt o p → StaysAt w v → StaysAt (if_open o w) (if_open p v)
full_open o None w v stays h = tt
full_open o (Some r) w v stays h = subst (λ (x : Option Reading). StaysAt (if_open x w) v) (sym stays) h

-- ---- One is written back

either_full : (b : Bool) (l m : Link) (o p : Option Link) → fullness_of l ≡ fullness_of m → option_map fullness_of o ≡ option_map fullness_of p
    → option_map fullness_of (if b then Some l else o) ≡ option_map fullness_of (if b then Some m else p)
either_full true l m o p same rest = ap Some same
either_full false l m o p same rest = rest

pub same_full : (ls : List Link) (i : ℕ) (d m : Link) → m.number ≡ (slice_index_or ls i d).number → fullness_of m ≡ fullness_of (slice_index_or ls i d) → (n : ℕ) → fullness_at n (slice_set ls i m) ≡ fullness_at n ls
same_full [] i d m number same n = refl
same_full (x ∷ xs) zero d m number same n =
    ap (λ (k : ℕ). option_map fullness_of (if k == n then Some m else link_at n xs)) number ∙ either_full (x.number == n) m x (link_at n xs) (link_at n xs) same refl
same_full (x ∷ xs) (suc i) d m number same n = either_full (x.number == n) x x (link_at n (slice_set xs i m)) (link_at n xs) refl (same_full xs i d m number same n)

pub full_written : (ls : List Link) (i : ℕ) (d m : Link) → m.number ≡ (slice_index_or ls i d).number → fullness_of m ≡ fullness_of (slice_index_or ls i d) → (n : ℕ) → StaysAt (fullness_at n ls) (fullness_at n (slice_set ls i m))
full_written ls i d m number same n = subst (λ (o : Option Fullness). StaysAt (fullness_at n ls) o) (sym (same_full ls i d m number same n)) (at_refl (fullness_at n ls))

-- ---- One is taken out

pub full_choose : (b c : Bool) (x : Link) (o p : Option Link) → StaysAt (option_map fullness_of o) (option_map fullness_of p) → (b ≡ true → c ≡ true → option_map seen_of p ≡ None)
    → StaysAt (option_map fullness_of (if c then Some x else o)) (option_map fullness_of (if not b then (if c then Some x else p) else p))
full_choose true true x o None rest gone = tt
full_choose true true x o (Some l) rest gone = let none : option_map seen_of (Some l) ≡ None = gone refl refl in absurd (let u : ⊥ = cc in u)
full_choose true false x o p rest gone = rest
full_choose false true x o p rest gone = refl
full_choose false false x o p rest gone = rest

-- ---- One is put behind them, which isn't open

abbrev filled : Option Link → Option Fullness
filled o = if_open (open_of (option_map seen_of o)) (option_map fullness_of o)

full_one : (b : Bool) (l : Link) → l.is_open ≡ false → StaysAt None (filled (if b then Some l else None))
full_one true l closed =
    subst (λ (o : Option Reading). StaysAt None (if_open o (Some (fullness_of l)))) (sym (ap (λ (b : Bool). let o : Option Reading = if b then Some l.reader else None in o) closed)) tt
full_one false l closed = tt

full_behind : (b : Bool) (x : Link) (o p : Option Link) → StaysAt (filled o) (filled p) → StaysAt (filled (if b then Some x else o)) (filled (if b then Some x else p))
full_behind true x o p h = at_refl (filled (Some x))
full_behind false x o p h = h

pub full_pushed : (ls : List Link) (l : Link) → l.is_open ≡ false → (number : ℕ) → StaysAt (open_fullness number ls) (open_fullness number (ls ++ l ∷ []))
full_pushed [] l closed number = full_one (l.number == number) l closed
full_pushed (x ∷ xs) l closed number = full_behind (x.number == number) x (link_at number xs) (link_at number (xs ++ l ∷ [])) (full_pushed xs l closed number)

-- ---- Bytes come on one

opened_full : (b : Bool) (r : Reading) (w : Option Fullness) → if_open (let o : Option Reading = if b then Some r else None in o) w ≡ (if b then w else None)
opened_full true r w = refl
opened_full false r w = refl

same_filled : (l m : Link) → m.is_open ≡ l.is_open → fullness_of m ≡ fullness_of l → filled (Some m) ≡ filled (Some l)
same_filled l m is_open same =
    opened_full m.is_open m.reader (Some (fullness_of m))
    ∙ ap (λ (b : Bool). let o : Option Fullness = if b then Some (fullness_of m) else None in o) is_open
    ∙ ap (λ (w : Fullness). let o : Option Fullness = if l.is_open then Some w else None in o) same
    ∙ sym (opened_full l.is_open l.reader (Some (fullness_of l)))

either_filled : (b : Bool) (l m : Link) (o p : Option Link) → filled (Some m) ≡ filled (Some l) → StaysAt (filled o) (filled p) → StaysAt (filled (if b then Some l else o)) (filled (if b then Some m else p))
either_filled true l m o p same rest = subst (λ (w : Option Fullness). StaysAt (filled (Some l)) w) (sym same) (at_refl (filled (Some l)))
either_filled false l m o p same rest = rest

-- it is open as it was, and has the same before it
pub full_come : (ls : List Link) (i : ℕ) (d m : Link) → m.number ≡ (slice_index_or ls i d).number → m.is_open ≡ (slice_index_or ls i d).is_open → fullness_of m ≡ fullness_of (slice_index_or ls i d)
    → (n : ℕ) → StaysAt (open_fullness n ls) (open_fullness n (slice_set ls i m))
full_come [] i d m number is_open same n = tt
full_come (x ∷ xs) zero d m number is_open same n =
    subst (λ (k : ℕ). StaysAt (open_fullness n (x ∷ xs)) (filled (if k == n then Some m else link_at n xs))) (sym number)
    (either_filled (x.number == n) x m (link_at n xs) (link_at n xs) (same_filled x m is_open same) (at_refl (open_fullness n xs)))
full_come (x ∷ xs) (suc i) d m number is_open same n =
    either_filled (x.number == n) x x (link_at n xs) (link_at n (slice_set xs i m)) refl (full_come xs i d m number is_open same n)

-- ---- None is full that wasn't

pub stays_none : (ls ms : List Link) → ((number : ℕ) → StaysAt (fullness_at number ls) (fullness_at number ms)) → NoneFills ls ms
stays_none ls ms stays = λ number size e. subst (λ (o : Option Fullness). StaysAt (fullness_at number ls) o) e (stays number)

abbrev filled_to : Option Fullness → Bool
filled_to None = false
filled_to (Some f) = f.1

alone_none : (b : Bool) (l : Link) (size : ℕ) → l.out.is_full ≡ false → option_map fullness_of (if b then Some l else None) ≢ Some (size, true)
alone_none true l size fits = λ e. let u : false ≡ true = sym fits ∙ ap filled_to e in let v : ⊥ = cc in v
alone_none false l size fits = λ e. let u : false ≡ true = ap filled_to e in let v : ⊥ = cc in v

behind_none : (b : Bool) (x : Link) (o p : Option Link) (size : ℕ) → (option_map fullness_of p ≡ Some (size, true) → option_map fullness_of o ≡ Some (size, true))
    → option_map fullness_of (if b then Some x else p) ≡ Some (size, true) → option_map fullness_of (if b then Some x else o) ≡ Some (size, true)
behind_none true x o p size rest e = e
behind_none false x o p size rest e = rest e

-- one is put behind them, which isn't full
pub pushed_none : (ls : List Link) (l : Link) → l.out.is_full ≡ false → NoneFills ls (ls ++ l ∷ [])
pushed_none [] l fits = λ number size e. absurd (alone_none (l.number == number) l size fits e)
pushed_none (x ∷ xs) l fits = λ number size. behind_none (x.number == number) x (link_at number xs) (link_at number (xs ++ l ∷ [])) size (pushed_none xs l fits number size)

by_none : (o : Option Fullness) → ((size : ℕ) → o ≢ Some (size, true)) → IfSome o (λ f. f.1 ≡ false)
by_none None h = tt
by_none (Some (size, true)) h = absurd (h size refl)
by_none (Some (size, false)) h = refl

-- it is alone, and then none is full
pub first_none : (l : Link) (ns : List Link) → l.out.is_full ≡ false → NoneFills (l ∷ []) ns → (other : ℕ) → IfSome (fullness_at other ns) (λ f. f.1 ≡ false)
first_none l ns fits none other = by_none (fullness_at other ns) (λ size e. alone_none (l.number == other) l size fits (none other size e))

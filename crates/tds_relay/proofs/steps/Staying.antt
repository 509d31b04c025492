-- Connections by their numbers.
use Rattle.std.proofs.Common.{◌≡◌, ◌∙◌, ◌==◌, ℕ, zero, suc, not, Bool, true, false, List, [], ◌∷◌, ◌++◌, Option, Some, None, refl, sym, ap, subst, slice_index_or, slice_set, option_map, if◌then◌else◌, append_assoc, append-nil, ◌≤◌, length, length-set, arith}
use Rattle.std.specs.Prelude.{Result, Ok, Err, OnOk, filter}
use Rattle.std.proofs.lemmas.Bool.{eqb-true}
use Rattle.tds_packet.specs.Reading.{Reading}
use Rattle.tds_relay.specs.declared.link.Answer.{Answer}
use Rattle.tds_relay.specs.declared.link.Link.{Link}
use Rattle.tds_relay.proofs.steps.Beginning.{answer_begins, answer_stays, begin_both, begin_refl, begins_choose, begins_written, open_begins, pushed_begins}
use Rattle.tds_relay.proofs.steps.Fullness.{full_both, full_choose, full_open, full_pushed, full_refl, full_written, pushed_none, stays_none}
use Rattle.tds_relay.specs.Cutting.{at_its_beginning}
use Rattle.tds_relay.proofs.steps.Naming.{called_both, called_refl, called_stays, pushed_called}
use Rattle.tds_relay.specs.Reads.{CalledAt, FillsAt, FillsBy, Opens, OpensOne, OpensOthers, MayBegin, Seen, HoldsOnLinks, StaysAt, LinksStay, Fullness, answer_at, answer_on, bytes_on, fullness_at, fullness_of, if_open, link_at, open_answer, open_at, open_fullness, open_of, open_waits, opened_at, opened_seen, reader_at, reader_of, seen_at, seen_of, waits_on, without_link}

pub at_refl : {A : Type 0} (o : Option A) → StaysAt o o
at_refl None = tt
at_refl (Some r) = refl

pub at_both : {A : Type 0} (o p q : Option A) → StaysAt o p → StaysAt p q → StaysAt o q
at_both o p None h k = tt
at_both {A} o p (Some r) h k = subst (λ (x : Option A). StaysAt o x) k h

pub fills_refl : (o : Option (List ℕ)) → FillsAt o o
fills_refl None = tt
fills_refl (Some waits) = ([], sym (append-nil waits))

pub fills_both : (o p q : Option (List ℕ)) → FillsAt o p → FillsAt p q → FillsAt o q
fills_both o p None h k = tt
fills_both o None (Some c) h k = absurd k
fills_both None (Some b) (Some c) h k = absurd h
fills_both (Some a) (Some b) (Some c) h k = (h.0 ++ k.0, k.1 ∙ ap (λ (xs : List ℕ). xs ++ k.0) h.1 ∙ append_assoc a h.0 k.0)

few_refl : (ls : List Link) → length ls ≤ length ls
few_refl ls = omega arith

few_both : (a b c : ℕ) → b ≤ a → c ≤ b → c ≤ a
few_both a b c h k = omega (arith, h, k)

pub stays_refl : (ls : List Link) → LinksStay ls ls
stays_refl ls = record { few = few_refl ls; seen = λ number had h. h; fills = λ number. fills_refl (waits_on number ls); begins = λ number. begin_refl (answer_at number ls); fullness = λ number. full_refl (fullness_at number ls) }

pub stays_both : (ls ms ns : List Link) → LinksStay ls ms → LinksStay ms ns → LinksStay ls ns
stays_both ls ms ns h k = record {
  few = few_both (length ls) (length ms) (length ns) h.few k.few;
  seen = λ number had s. k.seen number had (h.seen number had s);
  fills = λ number. fills_both (waits_on number ls) (waits_on number ms) (waits_on number ns) (h.fills number) (k.fills number);
  begins = λ number. begin_both (answer_at number ls) (answer_at number ms) (answer_at number ns) (h.begins number) (k.begins number);
  fullness = λ number. full_both (fullness_at number ls) (fullness_at number ms) (fullness_at number ns) (h.fullness number) (k.fullness number);
}

pub stays_then : (ls ms ns : List Link) → LinksStay ls ms → ns ≡ ms → LinksStay ls ns
stays_then ls ms ns h e = subst (λ (xs : List Link). LinksStay ls xs) (sym e) h

-- where a call answers
pub stays_on : {A E : Type 0} (r : Result A E) (ls ms ns : List Link) → LinksStay ls ms → OnOk r (LinksStay ms ns) → OnOk r (LinksStay ls ns)
stays_on (Ok x) ls ms ns h k = stays_both ls ms ns h k
stays_on (Err e) ls ms ns h k = tt

pub stays_same : {A E : Type 0} (r : Result A E) (ls ms ns : List Link) → LinksStay ls ms → OnOk r (ns ≡ ms) → OnOk r (LinksStay ls ns)
stays_same (Ok x) ls ms ns h e = subst (λ (xs : List Link). LinksStay ls xs) (sym e) h
stays_same (Err e) ls ms ns h k = tt

-- where the connections before are as they were
pub stays_from : {A E : Type 0} (r : Result A E) (ls ms ns : List Link) → ms ≡ ls → OnOk r (LinksStay ms ns) → OnOk r (LinksStay ls ns)
stays_from r ls ms ns e h = subst (λ (xs : List Link). OnOk r (LinksStay xs ns)) e h

open_stays : (o p : Option Seen) → StaysAt o p → StaysAt (open_of o) (open_of p)
open_stays o None h = tt
open_stays o (Some s) h = subst (λ (x : Option Seen). StaysAt (open_of x) (open_of (Some s))) (sym h) (at_refl (open_of (Some s)))

pub stays_behind : (ls ms ns : List Link) → ms ≡ ls → LinksStay ms ns → LinksStay ls ns
stays_behind ls ms ns e h = subst (λ (xs : List Link). LinksStay xs ns) e h

-- one that isn't open has nothing to be seen
pub shut : (l : Link) → l.is_open ≡ false → open_of (Some (seen_of l)) ≡ None
shut l closed = ap (λ (b : Bool). let o : Option Reading = if b then Some l.reader else None in o) closed

opens_one : (b : Bool) (l : Link) → l.is_open ≡ false → StaysAt None (open_of (option_map seen_of (if b then Some l else None)))
opens_one true l closed = subst (λ (o : Option Reading). StaysAt None o) (sym (shut l closed)) tt
opens_one false l closed = tt

opens_behind : (b : Bool) (x : Link) (o p : Option Link) → StaysAt (open_of (option_map seen_of o)) (open_of (option_map seen_of p))
    → StaysAt (open_of (option_map seen_of (if b then Some x else o))) (open_of (option_map seen_of (if b then Some x else p)))
opens_behind true x o p h = at_refl (open_of (Some (seen_of x)))
opens_behind false x o p h = h

-- ---- One is written back

-- one of two, by a test
pub either_reader : (b : Bool) (l m : Link) (o p : Option Link) → seen_of l ≡ seen_of m → option_map seen_of o ≡ option_map seen_of p
    → option_map seen_of (if b then Some l else o) ≡ option_map seen_of (if b then Some m else p)
either_reader true l m o p same rest = ap Some same
either_reader false l m o p same rest = rest

same_readers : (ls : List Link) (i : ℕ) (d m : Link) → m.number ≡ (slice_index_or ls i d).number → seen_of m ≡ seen_of (slice_index_or ls i d) → (n : ℕ) → seen_at n (slice_set ls i m) ≡ seen_at n ls
same_readers [] i d m number reader n = refl
same_readers (x ∷ xs) zero d m number reader n =
    ap (λ (k : ℕ). option_map seen_of (if k == n then Some m else link_at n xs)) number
    ∙ either_reader (x.number == n) m x (link_at n xs) (link_at n xs) reader refl
same_readers (x ∷ xs) (suc i) d m number reader n =
    either_reader (x.number == n) x x (link_at n (slice_set xs i m)) (link_at n xs) refl (same_readers xs i d m number reader n)

-- a link is written back that has the same of a packet
pub sees_written : (ls : List Link) (i : ℕ) (d m : Link) → m.number ≡ (slice_index_or ls i d).number → seen_of m ≡ seen_of (slice_index_or ls i d) → HoldsOnLinks ls (slice_set ls i m)
sees_written ls i d m number reader n had h = subst (λ (o : Option Seen). StaysAt had o) (sym (same_readers ls i d m number reader n)) h

either_fills : (b : Bool) (l m : Link) (o p : Option Link) → FillsAt (Some (bytes_on l)) (Some (bytes_on m)) → FillsAt (option_map bytes_on o) (option_map bytes_on p)
    → FillsAt (option_map bytes_on (if b then Some l else o)) (option_map bytes_on (if b then Some m else p))
either_fills true l m o p fills rest = fills
either_fills false l m o p fills rest = rest

pub fills_written : (ls : List Link) (i : ℕ) (d m : Link) → m.number ≡ (slice_index_or ls i d).number → FillsAt (Some (bytes_on (slice_index_or ls i d))) (Some (bytes_on m))
    → (n : ℕ) → FillsAt (waits_on n ls) (waits_on n (slice_set ls i m))
fills_written [] i d m number fills n = tt
fills_written (x ∷ xs) zero d m number fills n =
    subst (λ (k : ℕ). FillsAt (waits_on n (x ∷ xs)) (option_map bytes_on (if k == n then Some m else link_at n xs))) (sym number)
    (either_fills (x.number == n) x m (link_at n xs) (link_at n xs) fills (fills_refl (waits_on n xs)))
fills_written (x ∷ xs) (suc i) d m number fills n =
    either_fills (x.number == n) x x (link_at n xs) (link_at n (slice_set xs i m)) (fills_refl (Some (bytes_on x))) (fills_written xs i d m number fills n)

few_written : (ls : List Link) (i : ℕ) (m : Link) → length (slice_set ls i m) ≤ length ls
few_written ls i m = let same : length (slice_set ls i m) ≡ length ls = length-set ls i m in omega (arith, same)

-- and what waited there, with more behind it or not
pub stays_written : (ls : List Link) (i : ℕ) (d m : Link) → m.number ≡ (slice_index_or ls i d).number → seen_of m ≡ seen_of (slice_index_or ls i d)
    → FillsAt (Some (bytes_on (slice_index_or ls i d))) (Some (bytes_on m)) → m.answer ≡ (slice_index_or ls i d).answer → fullness_of m ≡ fullness_of (slice_index_or ls i d) → LinksStay ls (slice_set ls i m)
stays_written ls i d m number reader fills known full =
    record { few = few_written ls i m; seen = sees_written ls i d m number reader; fills = fills_written ls i d m number fills; begins = begins_written ls i d m number (answer_stays (slice_index_or ls i d).answer m.answer known); fullness = full_written ls i d m number full }

-- and its next message begins
pub stays_restarted : (ls : List Link) (i : ℕ) (d m : Link) → m.number ≡ (slice_index_or ls i d).number → seen_of m ≡ seen_of (slice_index_or ls i d)
    → FillsAt (Some (bytes_on (slice_index_or ls i d))) (Some (bytes_on m)) → m.answer ≡ at_its_beginning (slice_index_or ls i d).answer → fullness_of m ≡ fullness_of (slice_index_or ls i d)
    → LinksStay ls (slice_set ls i m)
stays_restarted ls i d m number reader fills begins full =
    record { few = few_written ls i m; seen = sees_written ls i d m number reader; fills = fills_written ls i d m number fills; begins = begins_written ls i d m number (answer_begins (slice_index_or ls i d).answer m.answer begins); fullness = full_written ls i d m number full }

-- it has just what waited
pub fills_same : (old new : List ℕ) → new ≡ old → FillsAt (Some old) (Some new)
fills_same old new same = ([], same ∙ sym (append-nil old))

-- ---- One is taken out

stays_choose : (b c : Bool) (x : Link) (o p : Option Link) → StaysAt (option_map seen_of o) (option_map seen_of p) → (b ≡ true → c ≡ true → option_map seen_of p ≡ None)
    → StaysAt (option_map seen_of (if c then Some x else o)) (option_map seen_of (if not b then (if c then Some x else p) else p))
stays_choose true true x o p rest gone = subst (λ (q : Option Seen). StaysAt (Some (seen_of x)) q) (sym (gone refl refl)) tt
stays_choose true false x o p rest gone = rest
stays_choose false true x o p rest gone = refl
stays_choose false false x o p rest gone = rest

link_choose : (b : Bool) (n : ℕ) (x : Link) (xs : List Link) → link_at n (if b then x ∷ xs else xs) ≡ (if b then (if x.number == n then Some x else link_at n xs) else link_at n xs)
link_choose true n x xs = refl
link_choose false n x xs = refl

none_left : (b : Bool) (number : ℕ) (x : Link) (xs : List Link) → (x.number == number) ≡ b → seen_at number (without_link number xs) ≡ None → seen_at number (without_link number (x ∷ xs)) ≡ None
none_left true number x xs e rest = rw e rest
none_left false number x xs e rest = rw e (rw e rest)

-- it is there no more
not_seen : (number : ℕ) (ls : List Link) → seen_at number (without_link number ls) ≡ None
not_seen number [] = refl
not_seen number (x ∷ xs) = none_left (x.number == number) number x xs refl (not_seen number xs)

its_own : (n number k : ℕ) → (k == number) ≡ true → (k == n) ≡ true → n ≡ number
its_own n number k e f = sym (eqb-true k n f) ∙ eqb-true k number e

without_at : (number : ℕ) (ls : List Link) (n : ℕ) → StaysAt (seen_at n ls) (seen_at n (without_link number ls))
without_at number [] n = tt
without_at number (x ∷ xs) n =
    subst (λ (o : Option Link). StaysAt (seen_at n (x ∷ xs)) (option_map seen_of o)) (sym (link_choose (not (x.number == number)) n x (without_link number xs)))
    (stays_choose (x.number == number) (x.number == n) x (link_at n xs) (link_at n (without_link number xs)) (without_at number xs n)
    (λ e f. subst (λ (k : ℕ). seen_at k (without_link number xs) ≡ None) (sym (its_own n number x.number e f)) (not_seen number xs)))

fills_choose : (b c : Bool) (x : Link) (o p : Option Link) → FillsAt (option_map bytes_on o) (option_map bytes_on p) → (b ≡ true → c ≡ true → option_map seen_of p ≡ None)
    → FillsAt (option_map bytes_on (if c then Some x else o)) (option_map bytes_on (if not b then (if c then Some x else p) else p))
fills_choose true true x o None rest gone = tt
fills_choose true true x o (Some l) rest gone = let none : option_map seen_of (Some l) ≡ None = gone refl refl in absurd (let u : ⊥ = cc in u)
fills_choose true false x o p rest gone = rest
fills_choose false true x o p rest gone = fills_refl (Some (bytes_on x))
fills_choose false false x o p rest gone = rest

without_fills : (number : ℕ) (ls : List Link) (n : ℕ) → FillsAt (waits_on n ls) (waits_on n (without_link number ls))
without_fills number [] n = tt
without_fills number (x ∷ xs) n =
    subst (λ (o : Option Link). FillsAt (waits_on n (x ∷ xs)) (option_map bytes_on o)) (sym (link_choose (not (x.number == number)) n x (without_link number xs)))
    (fills_choose (x.number == number) (x.number == n) x (link_at n xs) (link_at n (without_link number xs)) (without_fills number xs n)
    (λ e f. subst (λ (k : ℕ). seen_at k (without_link number xs) ≡ None) (sym (its_own n number x.number e f)) (not_seen number xs)))

without_begins : (number : ℕ) (ls : List Link) (n : ℕ) → MayBegin (answer_at n ls) (answer_at n (without_link number ls))
without_begins number [] n = begin_refl None
without_begins number (x ∷ xs) n =
    subst (λ (o : Option Link). MayBegin (answer_at n (x ∷ xs)) (option_map answer_on o)) (sym (link_choose (not (x.number == number)) n x (without_link number xs)))
    (begins_choose (x.number == number) (x.number == n) x (link_at n xs) (link_at n (without_link number xs)) (without_begins number xs n)
    (λ e f. subst (λ (k : ℕ). seen_at k (without_link number xs) ≡ None) (sym (its_own n number x.number e f)) (not_seen number xs)))

without_full : (number : ℕ) (ls : List Link) (n : ℕ) → StaysAt (fullness_at n ls) (fullness_at n (without_link number ls))
without_full number [] n = tt
without_full number (x ∷ xs) n =
    subst (λ (o : Option Link). StaysAt (fullness_at n (x ∷ xs)) (option_map fullness_of o)) (sym (link_choose (not (x.number == number)) n x (without_link number xs)))
    (full_choose (x.number == number) (x.number == n) x (link_at n xs) (link_at n (without_link number xs)) (without_full number xs n)
    (λ e f. subst (λ (k : ℕ). seen_at k (without_link number xs) ≡ None) (sym (its_own n number x.number e f)) (not_seen number xs)))

few_if : (b : Bool) (x : Link) (xs ys : List Link) → length xs ≤ length ys → length (if b then x ∷ xs else xs) ≤ length (x ∷ ys)
few_if true x xs ys le = omega (arith, le)
few_if false x xs ys le = omega (arith, le)

few_left : (p : Link → Bool) (ls : List Link) → length (filter p ls) ≤ length ls
few_left p [] = omega arith
few_left p (x ∷ xs) = few_if (p x) x (filter p xs) xs (few_left p xs)

pub stays_without : (number : ℕ) (ls : List Link) → LinksStay ls (without_link number ls)
stays_without number ls = record {
  few = few_left (λ (l : Link). not (l.number == number)) ls;
  seen = λ n had h. at_both had (seen_at n ls) (seen_at n (without_link number ls)) h (without_at number ls n);
  fills = without_fills number ls;
  begins = without_begins number ls;
  fullness = without_full number ls;
}

unread : (o : Option Link) → option_map seen_of o ≡ None → option_map reader_of o ≡ None
unread None e = refl
unread (Some l) e = absurd (let u : ⊥ = cc in u)

not_open : (o : Option Link) → option_map reader_of o ≡ None → open_of (option_map seen_of o) ≡ None
not_open None e = refl
not_open (Some l) e = absurd (let u : ⊥ = cc in u)

-- where it is there no more, it isn't open
pub gone_open : (number : ℕ) (ls : List Link) → reader_at number ls ≡ None → open_at number ls ≡ None
gone_open number ls e = not_open (link_at number ls) e

pub taken_out : (number : ℕ) (ls : List Link) → reader_at number (without_link number ls) ≡ None
taken_out number ls = unread (link_at number (without_link number ls)) (not_seen number ls)

no_bytes : (o : Option Link) → option_map reader_of o ≡ None → option_map bytes_on o ≡ None
no_bytes None e = refl
no_bytes (Some l) e = absurd (let u : ⊥ = cc in u)

-- whatever was to be sent there
pub gone_filled : (out : List ℕ) (number : ℕ) (had : Option (List ℕ)) (ls : List Link) → reader_at number ls ≡ None → FillsBy out had (waits_on number ls)
gone_filled out number had ls e = subst (FillsBy out had) (sym (no_bytes (link_at number ls) e)) tt

put_filled : (out : List ℕ) (had : Option (List ℕ)) → FillsBy out had (option_map (λ (waits : List ℕ). waits ++ out) had)
put_filled out None = tt
put_filled out (Some waits) = refl

pub filled_by : (out : List ℕ) (had now : Option (List ℕ)) → now ≡ option_map (λ (waits : List ℕ). waits ++ out) had → FillsBy out had now
filled_by out had now e = subst (FillsBy out had) (sym e) (put_filled out had)

-- ---- One is to be opened

pub opens_refl : (ls : List Link) → Opens ls ls
opens_refl ls = record {
  opens = λ number. at_refl (open_at number ls);
  fills = λ number. fills_refl (open_waits number ls);
  begins = λ number. begin_refl (open_answer number ls);
  fullness = λ number. full_refl (open_fullness number ls);
  full = λ number size e. e;
  called = λ number. called_refl (seen_at number ls);
}

pub opens_both : (ls ms ns : List Link) → Opens ls ms → Opens ms ns → Opens ls ns
opens_both ls ms ns h k = record {
  opens = λ number. at_both (open_at number ls) (open_at number ms) (open_at number ns) (h.opens number) (k.opens number);
  fills = λ number. fills_both (open_waits number ls) (open_waits number ms) (open_waits number ns) (h.fills number) (k.fills number);
  begins = λ number. begin_both (open_answer number ls) (open_answer number ms) (open_answer number ns) (h.begins number) (k.begins number);
  fullness = λ number. full_both (open_fullness number ls) (open_fullness number ms) (open_fullness number ns) (h.fullness number) (k.fullness number);
  full = λ number size e. h.full number size (k.full number size e);
  called = λ number. called_both (seen_at number ls) (seen_at number ms) (seen_at number ns) (h.called number) (k.called number);
}

-- of what stays open
open_fills : (o p : Option Reading) (w v : Option (List ℕ)) → StaysAt o p → FillsAt w v → FillsAt (if_open o w) (if_open p v)
open_fills o None w v stays fills = tt
open_fills o (Some r) w v stays fills = subst (λ (x : Option Reading). FillsAt (if_open x w) v) (sym stays) fills

pub stays_opens : (ls ms : List Link) → LinksStay ls ms → Opens ls ms
stays_opens ls ms stays =
    let same : (number : ℕ) → StaysAt (open_at number ls) (open_at number ms) = λ number. open_stays (seen_at number ls) (seen_at number ms) (stays.seen number (seen_at number ls) (at_refl (seen_at number ls))) in
    record {
      opens = same;
      fills = λ number. open_fills (open_at number ls) (open_at number ms) (waits_on number ls) (waits_on number ms) (same number) (stays.fills number);
      begins = λ number. open_begins (open_at number ls) (open_at number ms) (answer_at number ls) (answer_at number ms) (same number) (stays.begins number);
      fullness = λ number. full_open (open_at number ls) (open_at number ms) (fullness_at number ls) (fullness_at number ms) (same number) (stays.fullness number);
      full = stays_none ls ms stays.fullness;
      called = λ number. called_stays (seen_at number ls) (seen_at number ms) (stays.seen number (seen_at number ls) (at_refl (seen_at number ls)));
    }

-- one more
pushed_open : (ls : List Link) (l : Link) → l.is_open ≡ false → (number : ℕ) → StaysAt (open_at number ls) (open_at number (ls ++ l ∷ []))
pushed_open [] l closed number = opens_one (l.number == number) l closed
pushed_open (x ∷ xs) l closed number = opens_behind (x.number == number) x (link_at number xs) (link_at number (xs ++ l ∷ [])) (pushed_open xs l closed number)

abbrev pub waits_of : Option Link → Option (List ℕ)
waits_of o = if_open (open_of (option_map seen_of o)) (option_map bytes_on o)

fills_one : (b : Bool) (l : Link) → l.is_open ≡ false → FillsAt None (waits_of (if b then Some l else None))
fills_one true l closed = subst (λ (o : Option Reading). FillsAt None (if_open o (Some (bytes_on l)))) (sym (shut l closed)) tt
fills_one false l closed = tt

fills_behind : (b : Bool) (x : Link) (o p : Option Link) → FillsAt (waits_of o) (waits_of p) → FillsAt (waits_of (if b then Some x else o)) (waits_of (if b then Some x else p))
fills_behind true x o p h = fills_refl (waits_of (Some x))
fills_behind false x o p h = h

pushed_fills : (ls : List Link) (l : Link) → l.is_open ≡ false → (number : ℕ) → FillsAt (open_waits number ls) (open_waits number (ls ++ l ∷ []))
pushed_fills [] l closed number = fills_one (l.number == number) l closed
pushed_fills (x ∷ xs) l closed number = fills_behind (x.number == number) x (link_at number xs) (link_at number (xs ++ l ∷ [])) (pushed_fills xs l closed number)

pub opens_pushed : (ls : List Link) (l : Link) → l.is_open ≡ false → l.out.is_full ≡ false → l.tag ≡ None → Opens ls (ls ++ l ∷ [])
opens_pushed ls l closed fits unnamed =
    record { opens = pushed_open ls l closed; fills = pushed_fills ls l closed; begins = pushed_begins ls l closed; fullness = full_pushed ls l closed; full = pushed_none ls l fits; called = pushed_called ls l closed unnamed }

pub opens_by_push : (ls ms ns : List Link) (l : Link) → ms ≡ ls → ns ≡ ms ++ l ∷ [] → l.is_open ≡ false → l.out.is_full ≡ false → l.tag ≡ None → Opens ls ns
opens_by_push ls ms ns l same pushed closed fits unnamed =
    subst (λ (xs : List Link). Opens ls xs) (sym (pushed ∙ ap (λ (xs : List Link). xs ++ l ∷ []) same)) (opens_pushed ls l closed fits unnamed)

pub opens_on : {A E : Type 0} (r : Result A E) (ls ms ns : List Link) → LinksStay ls ms → OnOk r (LinksStay ms ns) → OnOk r (Opens ls ns)
opens_on (Ok x) ls ms ns h k = stays_opens ls ns (stays_both ls ms ns h k)
opens_on (Err e) ls ms ns h k = tt

-- and then those who wait are served
pub opens_served : {A E : Type 0} (r : Result A E) (ls ms ns : List Link) → LinksStay ls ms → OnOk r (Opens ms ns) → OnOk r (Opens ls ns)
opens_served (Ok x) ls ms ns h k = opens_both ls ms ns (stays_opens ls ms h) k
opens_served (Err e) ls ms ns h k = tt

-- one is opened
pub opens_one_served : {A E : Type 0} (r : Result A E) (number : ℕ) (ls ks ms ns : List Link) → ((other : ℕ) → open_at other ks ≡ opened_at number other ls)
    → ((other : ℕ) → waits_on other ks ≡ waits_on other ls) → ((other : ℕ) → answer_at other ks ≡ answer_at other ls) → ((other : ℕ) → seen_at other ks ≡ opened_seen number other ls)
    → ((other : ℕ) → fullness_at other ks ≡ fullness_at other ls) → LinksStay ks ms → OnOk r (Opens ms ns) → OnOk r (OpensOne number ls ns)
opens_one_served (Ok x) number ls ks ms ns opened waits answers seen full h k =
    let both = opens_both ks ms ns (stays_opens ks ms h) k in
    record {
      opens = λ other. subst (λ (o : Option Reading). StaysAt o (open_at other ns)) (opened other) (both.opens other);
      fills = λ other.
          subst (λ (o : Option Reading). FillsAt (if_open o (waits_on other ls)) (open_waits other ns)) (opened other)
          (subst (λ (w : Option (List ℕ)). FillsAt (if_open (open_at other ks) w) (open_waits other ns)) (waits other) (both.fills other));
      begins = λ other.
          subst (λ (o : Option Reading). MayBegin (if_open o (answer_at other ls)) (open_answer other ns)) (opened other)
          (subst (λ (a : Option Answer). MayBegin (if_open (open_at other ks) a) (open_answer other ns)) (answers other) (both.begins other));
      fullness = λ other.
          subst (λ (o : Option Reading). StaysAt (if_open o (fullness_at other ls)) (open_fullness other ns)) (opened other)
          (subst (λ (f : Option Fullness). StaysAt (if_open (open_at other ks) f) (open_fullness other ns)) (full other) (both.fullness other));
      full = λ other size e. sym (full other) ∙ both.full other size e;
      called = λ other. subst (λ (o : Option Seen). CalledAt o (seen_at other ns)) (seen other) (both.called other);
    }
opens_one_served (Err e) number ls ks ms ns opened waits answers seen full h k = tt

-- by itself
pub opens_alone : (number : ℕ) (ls ks ms : List Link) → ((other : ℕ) → open_at other ks ≡ opened_at number other ls) → ((other : ℕ) → waits_on other ks ≡ waits_on other ls)
    → ((other : ℕ) → answer_at other ks ≡ answer_at other ls) → ((other : ℕ) → seen_at other ks ≡ opened_seen number other ls) → ((other : ℕ) → fullness_at other ks ≡ fullness_at other ls) → LinksStay ks ms → OpensOne number ls ms
opens_alone number ls ks ms opened waits answers seen full h = opens_one_served {A = ℕ} {E = ℕ} (Ok 0) number ls ks ms ms opened waits answers seen full h (opens_refl ms)

-- all but one
pub others_open : (number : ℕ) (ls ms : List Link) → Opens ls ms → OpensOthers number ls ms
others_open number ls ms opens = record { opens = λ other differs. opens.opens other; fills = opens.fills; begins = λ other differs. opens.begins other; fullness = opens.fullness; full = opens.full; called = opens.called }

pub others_both : (number : ℕ) (ls ms ns : List Link) → OpensOthers number ls ms → OpensOthers number ms ns → OpensOthers number ls ns
others_both number ls ms ns h k = record {
  opens = λ other differs. at_both (open_at other ls) (open_at other ms) (open_at other ns) (h.opens other differs) (k.opens other differs);
  fills = λ other. fills_both (open_waits other ls) (open_waits other ms) (open_waits other ns) (h.fills other) (k.fills other);
  begins = λ other differs. begin_both (open_answer other ls) (open_answer other ms) (open_answer other ns) (h.begins other differs) (k.begins other differs);
  fullness = λ other. full_both (open_fullness other ls) (open_fullness other ms) (open_fullness other ns) (h.fullness other) (k.fullness other);
  full = λ other size e. h.full other size (k.full other size e);
  called = λ other. called_both (seen_at other ls) (seen_at other ms) (seen_at other ns) (h.called other) (k.called other);
}

pub others_stay : (number : ℕ) (ls ms ns : List Link) → OpensOthers number ls ms → LinksStay ms ns → OpensOthers number ls ns
others_stay number ls ms ns h k = others_both number ls ms ns h (others_open number ms ns (stays_opens ms ns k))

pub others_stay_on : {A E : Type 0} (r : Result A E) (number : ℕ) (ls ms ns : List Link) → OpensOthers number ls ms → OnOk r (LinksStay ms ns) → OnOk r (OpensOthers number ls ns)
others_stay_on (Ok x) number ls ms ns h k = others_stay number ls ms ns h k
others_stay_on (Err e) number ls ms ns h k = tt

pub others_served : {A E : Type 0} (r : Result A E) (number : ℕ) (ls ms ns : List Link) → OpensOthers number ls ms → OnOk r (Opens ms ns) → OnOk r (OpensOthers number ls ns)
others_served (Ok x) number ls ms ns h k = others_both number ls ms ns h (others_open number ms ns k)
others_served (Err e) number ls ms ns h k = tt

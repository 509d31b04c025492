-- Where connections are, among others.
use Rattle.std.proofs.Common.{◌+◌, ◌<◌, arith, length, ◌≡◌, ◌≢◌, ◌∙◌, ◌==◌, ℕ, zero, suc, Bool, true, false, List, [], ◌∷◌, ◌++◌, Option, Some, None, refl, sym, ap, subst, slice_index_or, slice_set, option_map, if◌then◌else◌}
use Rattle.std.specs.Prelude.{IfSome}
use Rattle.std.proofs.lemmas.Bool.{eqb-false, eqb-true}
use Rattle.tds_packet.specs.Reading.{Reading}
use Rattle.tds_relay.specs.declared.link.Link.{Link}
use Rattle.tds_relay.specs.Queues.{Queue, queue_in}
use Rattle.tds_relay.specs.Reads.{FillsAt, NoneFills, Opens, OpensFirst, OpensOthers, StaysAt, LinksStay, answer_at, bytes_on, if_open, link_at, open_at, open_of, open_waits, opened_at, place_from, place_of, reader_at, reader_of, seen_at, seen_of}
use Rattle.tds_relay.proofs.steps.Beginning.{other_answer, same_begins}
use Rattle.tds_relay.proofs.steps.Fullness.{first_none, full_by, full_come, same_full}
use Rattle.tds_relay.proofs.steps.Naming.{written_called}
use Rattle.tds_relay.proofs.steps.Staying.{at_refl, fills_refl, shut, either_reader, opens_both, stays_opens, waits_of}

-- ---- Where one is

-- At this place is the first one of this number, which is found there, and so is what is written back there.
pub record IsAt (number : ℕ) (ls : List Link) (place : ℕ) : Type 0 where
  pub within : place < length ls
  pub named : (d : Link) → (slice_index_or ls place d).number ≡ number
  pub found : (d : Link) → link_at number ls ≡ Some (slice_index_or ls place d)
  pub written : (d m : Link) → m.number ≡ (slice_index_or ls place d).number → link_at number (slice_set ls place m) ≡ Some m

at_first : (number : ℕ) (x : Link) (xs : List Link) → (x.number == number) ≡ true → IsAt number (x ∷ xs) 0
at_first number x xs e = record {
  within = omega arith;
  named = λ d. eqb-true x.number number e;
  found = λ d. ap (λ (b : Bool). if b then Some x else link_at number xs) e;
  written = λ d m same. ap (λ (b : Bool). if b then Some m else link_at number xs) (ap (λ (k : ℕ). k == number) same ∙ e);
}

at_later : (number : ℕ) (x : Link) (xs : List Link) (place : ℕ) → (x.number == number) ≡ false → IsAt number xs place → IsAt number (x ∷ xs) (suc place)
at_later number x xs place e at = record {
  within = let h = at.within in omega (arith, h);
  named = at.named;
  found = λ d. ap (λ (b : Bool). if b then Some x else link_at number xs) e ∙ at.found d;
  written = λ d m same. ap (λ (b : Bool). if b then Some x else link_at number (slice_set xs place m)) e ∙ at.written d m same;
}

located_by : (b : Bool) (number from : ℕ) (x : Link) (xs : List Link) (place : ℕ) → (x.number == number) ≡ b → (if b then Some from else place_from (suc from) number xs) ≡ Some place
    → (place_from (suc from) number xs ≡ Some place → (i : ℕ) × (place ≡ suc from + i) × IsAt number xs i) → (i : ℕ) × (place ≡ from + i) × IsAt number (x ∷ xs) i
located_by true number from x xs place test e later =
    let same : from ≡ place = (let f : Some from ≡ Some place = e in cc) in
    (0, omega (arith, same), at_first number x xs test)
located_by false number from x xs place test e later =
    let found = later e in
    let same = found.1 in
    (suc found.0, omega (arith, same), at_later number x xs found.0 test found.2)

located : (number from : ℕ) (ls : List Link) (place : ℕ) → place_from from number ls ≡ Some place → (i : ℕ) × (place ≡ from + i) × IsAt number ls i
located number from [] place e = absurd (let u : ⊥ = cc in u)
located number from (x ∷ xs) place e = located_by (x.number == number) number from x xs place refl e (located number (suc from) xs place)

pub is_at : (number : ℕ) (ls : List Link) (place : ℕ) → place_of number ls ≡ Some place → IsAt number ls place
is_at number ls place e =
    let found = located number 0 ls place e in
    let same = found.1 in
    let whole : found.0 ≡ place = omega (arith, same) in
    subst (λ (i : ℕ). IsAt number ls i) whole found.2

none_by : (b : Bool) (number from : ℕ) (x : Link) (xs : List Link) → (if b then Some from else place_from (suc from) number xs) ≡ None → (place_from (suc from) number xs ≡ None → link_at number xs ≡ None)
    → (if b then Some x else link_at number xs) ≡ None
none_by true number from x xs e later = absurd (let u : ⊥ = cc in u)
none_by false number from x xs e later = later e

none_from : (number from : ℕ) (ls : List Link) → place_from from number ls ≡ None → link_at number ls ≡ None
none_from number from [] e = refl
none_from number from (x ∷ xs) e = none_by (x.number == number) number from x xs e (none_from number (suc from) xs)

-- it is nowhere
pub is_nowhere : (number : ℕ) (ls : List Link) → place_of number ls ≡ None → link_at number ls ≡ None
is_nowhere number ls e = none_from number 0 ls e

pub within_is : (found : Option ℕ) (number : ℕ) (ls : List Link) → place_of number ls ≡ found → IfSome found (λ place. place < length ls)
within_is None number ls e = tt
within_is (Some place) number ls e = (is_at number ls place e).within

-- ---- The one of a number

-- it is open
pub is_open_at : (number : ℕ) (ls : List Link) (l : Link) → link_at number ls ≡ Some l → l.is_open ≡ true → open_at number ls ≡ Some l.reader
is_open_at number ls l is is_open =
    ap (λ (o : Option Link). open_of (option_map seen_of o)) is ∙ ap (λ (b : Bool). let o : Option Reading = if b then Some l.reader else None in o) is_open

-- or it isn't
pub is_shut_at : (number : ℕ) (ls : List Link) (l : Link) → link_at number ls ≡ Some l → l.is_open ≡ false → open_at number ls ≡ None
is_shut_at number ls l is closed = ap (λ (o : Option Link). open_of (option_map seen_of o)) is ∙ shut l closed

pub differs_by : (b : Bool) (n other : ℕ) → (n == other) ≡ b → n ≢ other → (n == other) ≡ false
differs_by true n other e differs = absurd (differs (eqb-true n other e))
differs_by false n other e differs = e

-- the others are as they were where it is written back
pub other_seen : (ls : List Link) (i : ℕ) (d m : Link) (other : ℕ) → m.number ≡ (slice_index_or ls i d).number → ((slice_index_or ls i d).number == other) ≡ false → seen_at other (slice_set ls i m) ≡ seen_at other ls
other_seen [] i d m other same differs = refl
other_seen (x ∷ xs) zero d m other same differs =
    ap (λ (k : ℕ). option_map seen_of (if k == other then Some m else link_at other xs)) same
    ∙ ap (λ (b : Bool). option_map seen_of (if b then Some m else link_at other xs)) differs
    ∙ sym (ap (λ (b : Bool). option_map seen_of (if b then Some x else link_at other xs)) differs)
other_seen (x ∷ xs) (suc i) d m other same differs =
    either_reader (x.number == other) x x (link_at other (slice_set xs i m)) (link_at other xs) refl (other_seen xs i d m other same differs)

other_open : (number other : ℕ) (ls : List Link) (place : ℕ) (d m : Link) → IsAt number ls place → m.number ≡ (slice_index_or ls place d).number → number ≢ other → open_at other (slice_set ls place m) ≡ open_at other ls
other_open number other ls place d m at same differs =
    ap open_of (other_seen ls place d m other same (ap (λ (k : ℕ). k == other) (at.named d) ∙ differs_by (number == other) number other refl differs))

-- It is open or not as one is that has what waits here.
opened_waits : (b : Bool) (r : Reading) (w : Option (List ℕ)) → if_open (let o : Option Reading = if b then Some r else None in o) w ≡ (if b then w else None)
opened_waits true r w = refl
opened_waits false r w = refl

same_waits : (l m : Link) → m.is_open ≡ l.is_open → bytes_on m ≡ bytes_on l → waits_of (Some m) ≡ waits_of (Some l)
same_waits l m is_open bytes =
    opened_waits m.is_open m.reader (Some (bytes_on m))
    ∙ ap (λ (b : Bool). let o : Option (List ℕ) = if b then Some (bytes_on m) else None in o) is_open
    ∙ ap (λ (w : List ℕ). let o : Option (List ℕ) = if l.is_open then Some w else None in o) bytes
    ∙ sym (opened_waits l.is_open l.reader (Some (bytes_on l)))

either_same : (b : Bool) (l m : Link) (o p : Option Link) → waits_of (Some m) ≡ waits_of (Some l) → FillsAt (waits_of o) (waits_of p) → FillsAt (waits_of (if b then Some l else o)) (waits_of (if b then Some m else p))
either_same true l m o p same rest = subst (λ (w : Option (List ℕ)). FillsAt (waits_of (Some l)) w) (sym same) (fills_refl (waits_of (Some l)))
either_same false l m o p same rest = rest

written_fills : (ls : List Link) (i : ℕ) (d m : Link) → m.number ≡ (slice_index_or ls i d).number → m.is_open ≡ (slice_index_or ls i d).is_open → bytes_on m ≡ bytes_on (slice_index_or ls i d)
    → (n : ℕ) → FillsAt (open_waits n ls) (open_waits n (slice_set ls i m))
written_fills [] i d m number is_open bytes n = tt
written_fills (x ∷ xs) zero d m number is_open bytes n =
    subst (λ (k : ℕ). FillsAt (open_waits n (x ∷ xs)) (waits_of (if k == n then Some m else link_at n xs))) (sym number)
    (either_same (x.number == n) x m (link_at n xs) (link_at n xs) (same_waits x m is_open bytes) (fills_refl (open_waits n xs)))
written_fills (x ∷ xs) (suc i) d m number is_open bytes n =
    either_same (x.number == n) x x (link_at n xs) (link_at n (slice_set xs i m)) refl (written_fills xs i d m number is_open bytes n)

-- bytes come on it
pub others_written : (number : ℕ) (ls : List Link) (place : ℕ) (d m : Link) → place_of number ls ≡ Some place → m.number ≡ (slice_index_or ls place d).number
    → m.is_open ≡ (slice_index_or ls place d).is_open → m.tag ≡ (slice_index_or ls place d).tag → queue_in m.out ≡ queue_in (slice_index_or ls place d).out → OpensOthers number ls (slice_set ls place m)
others_written number ls place d m is same is_open tag queue = record {
  opens = λ other differs.
      subst (λ (o : Option Reading). StaysAt (open_at other ls) o) (sym (other_open number other ls place d m (is_at number ls place is) same (λ e. differs (sym e)))) (at_refl (open_at other ls));
  fills = λ other. written_fills ls place d m same is_open (ap (λ (p : Queue). p.bytes) queue) other;
  begins = λ other differs.
      same_begins (open_at other ls) (open_at other (slice_set ls place m)) (answer_at other ls) (answer_at other (slice_set ls place m))
      (other_open number other ls place d m (is_at number ls place is) same (λ e. differs (sym e)))
      (other_answer ls place d m other same (ap (λ (k : ℕ). k == other) ((is_at number ls place is).named d) ∙ differs_by (number == other) number other refl (λ e. differs (sym e))));
  fullness = λ other. full_come ls place d m same is_open (ap full_by queue) other;
  full = λ other size e. sym (same_full ls place d m same (ap full_by queue) other) ∙ e;
  called = λ other. written_called ls place d m same (is_open, tag) other;
}

opened_by : (b : Bool) (number other : ℕ) (ls : List Link) (place : ℕ) (d m : Link) → (other == number) ≡ b → IsAt number ls place → m.number ≡ (slice_index_or ls place d).number
    → m.reader ≡ (slice_index_or ls place d).reader → m.is_open ≡ true → open_at other (slice_set ls place m) ≡ (if b then reader_at other ls else open_at other ls)
opened_by true number other ls place d m e at same reader is_open =
    subst (λ (n : ℕ). open_at n (slice_set ls place m) ≡ reader_at n ls) (sym (eqb-true other number e))
    (is_open_at number (slice_set ls place m) m (at.written d m same) is_open ∙ ap Some reader ∙ sym (ap (λ (o : Option Link). option_map reader_of o) (at.found d)))
opened_by false number other ls place d m e at same reader is_open =
    other_open number other ls place d m at same (λ is. eqb-false other number e (sym is))

-- it is opened
pub opened_written : (number : ℕ) (ls : List Link) (place : ℕ) (d m : Link) → place_of number ls ≡ Some place → m.number ≡ (slice_index_or ls place d).number → m.reader ≡ (slice_index_or ls place d).reader
    → m.is_open ≡ true → (other : ℕ) → open_at other (slice_set ls place m) ≡ opened_at number other ls
opened_written number ls place d m is same reader is_open other = opened_by (other == number) number other ls place d m refl (is_at number ls place is) same reader is_open

nowhere_by : (b : Bool) (number other : ℕ) (ls : List Link) → (other == number) ≡ b → link_at number ls ≡ None → open_at other ls ≡ (if b then reader_at other ls else open_at other ls)
nowhere_by true number other ls e none =
    subst (λ (n : ℕ). open_at n ls ≡ reader_at n ls) (sym (eqb-true other number e))
    (ap (λ (o : Option Link). open_of (option_map seen_of o)) none ∙ sym (ap (λ (o : Option Link). option_map reader_of o) none))
nowhere_by false number other ls e none = refl

-- it isn't there
pub opened_nowhere : (number : ℕ) (ls : List Link) → place_of number ls ≡ None → (other : ℕ) → open_at other ls ≡ opened_at number other ls
opened_nowhere number ls is other = nowhere_by (other == number) number other ls refl (is_nowhere number ls is)

-- ---- The first of all

some_stays : (P : Reading → Type 0) (o p : Option Reading) → StaysAt o p → IfSome o P → IfSome p P
some_stays P o None h k = tt
some_stays P o (Some r) h k = subst (λ (x : Option Reading). IfSome x P) h k

alone_by : (b : Bool) (number other : ℕ) (l : Link) → (l.number == other) ≡ b → l.number ≡ number → l.reader.taken ≡ [] → l.is_open ≡ true
    → IfSome (open_of (option_map seen_of (if b then Some l else None))) (λ r. (other ≡ number) × (r.taken ≡ []))
alone_by true number other l e same none is_open =
    subst (λ (o : Option Reading). IfSome o (λ r. (other ≡ number) × (r.taken ≡ [])))
    (sym (ap (λ (b : Bool). let o : Option Reading = if b then Some l.reader else None in o) is_open))
    (sym (eqb-true l.number other e) ∙ same, none)
alone_by false number other l e same none is_open = tt

pub none_there : (ls : List Link) → (length ls == 0) ≡ true → ls ≡ []
none_there [] e = refl
none_there (x ∷ xs) e = absurd (let none : length (x ∷ xs) ≡ 0 = eqb-true (length (x ∷ xs)) 0 e in let u : ⊥ = cc in u)

-- it comes, with nothing of a packet, and those who wait are served
pub first_opens : (number : ℕ) (l : Link) (ls ms ks ns : List Link) → (length ls == 0) ≡ true → ms ≡ ls ++ l ∷ [] → l.number ≡ number → l.reader.taken ≡ [] → l.is_open ≡ true → l.out.is_full ≡ false → LinksStay ms ks → Opens ks ns
    → OpensFirst (Some number) ls ns
first_opens number l ls ms ks ns none pushed same nothing is_open fits stays opens = λ other.
    let are : ms ≡ l ∷ [] = pushed ∙ ap (λ (xs : List Link). xs ++ l ∷ []) (none_there ls none) in
    let both : Opens ms ns = opens_both ms ks ns (stays_opens ms ks stays) opens in (
      some_stays (λ r. (other ≡ number) × (r.taken ≡ [])) (open_at other ms) (open_at other ns) (both.opens other)
          (subst (λ (xs : List Link). IfSome (open_at other xs) (λ r. (other ≡ number) × (r.taken ≡ []))) (sym are)
          (alone_by (l.number == other) number other l refl same nothing is_open)),
      first_none l ns fits (subst (λ (xs : List Link). NoneFills xs ns) are both.full) other,
    )

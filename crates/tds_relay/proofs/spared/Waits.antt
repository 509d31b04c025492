-- What waits on each connection, where one of them is written back or taken out.
use Rattle.std.proofs.Common.{◌≡◌, ◌≢◌, ◌∙◌, ◌==◌, ◌++◌, ◌+◌, ◌&&◌, length, ℕ, zero, suc, not, Bool, true, false, List, [], ◌∷◌, Option, Some, None, refl, sym, ap, subst, slice_index_or, slice_set, option_map, if◌then◌else◌}
use Rattle.std.proofs.lemmas.Bool.{eqb-true}
use Rattle.std.specs.Prelude.{nat_le}
use Rattle.tds_relay.specs.declared.link.Link.{Link}
use Rattle.tds_relay.specs.Queues.{Queue, fits, queue_in, put_behind}
use Rattle.tds_relay.specs.Reasons.{HasNoRoom}
use Rattle.tds_relay.specs.Reads.{FillsAt, Fullness, link_at, place_of, queue_on, waits_on, without_link}
use Rattle.tds_relay.proofs.steps.Fullness.{full_by}
use Rattle.tds_relay.proofs.steps.Placed.{IsAt, is_at, is_nowhere}
use Rattle.tds_relay.proofs.steps.Staying.{fills_refl}
use Rattle.tds_relay.proofs.visits.Waiting.{put_fills, put_fits}

abbrev waits_of : Link → List ℕ
waits_of l = (queue_in l.out).bytes

-- ---- One is written back

either_waits : (b : Bool) (l m : Link) (o p : Option Link) → waits_of l ≡ waits_of m → option_map waits_of o ≡ option_map waits_of p
    → option_map waits_of (if b then Some l else o) ≡ option_map waits_of (if b then Some m else p)
either_waits true l m o p same rest = ap Some same
either_waits false l m o p same rest = rest

-- with what waited on it
pub waits_same : (ls : List Link) (i : ℕ) (d m : Link) → m.number ≡ (slice_index_or ls i d).number → waits_of m ≡ waits_of (slice_index_or ls i d) → (n : ℕ) → waits_on n (slice_set ls i m) ≡ waits_on n ls
waits_same [] i d m number waits n = refl
waits_same (x ∷ xs) zero d m number waits n =
    ap (λ (k : ℕ). option_map waits_of (if k == n then Some m else link_at n xs)) number
    ∙ either_waits (x.number == n) m x (link_at n xs) (link_at n xs) waits refl
waits_same (x ∷ xs) (suc i) d m number waits n =
    either_waits (x.number == n) x x (link_at n (slice_set xs i m)) (link_at n xs) refl (waits_same xs i d m number waits n)

differs_by : (b : Bool) (n other : ℕ) → (n == other) ≡ b → other ≢ n → (n == other) ≡ false
differs_by true n other e differs = absurd (differs (sym (eqb-true n other e)))
differs_by false n other e differs = e

either_link : (b : Bool) (x : Link) (o p : Option Link) → o ≡ p → (if b then Some x else o) ≡ (if b then Some x else p)
either_link true x o p same = refl
either_link false x o p same = same

other_link : (ls : List Link) (i : ℕ) (d m : Link) (other : ℕ) → m.number ≡ (slice_index_or ls i d).number → ((slice_index_or ls i d).number == other) ≡ false → link_at other (slice_set ls i m) ≡ link_at other ls
other_link [] i d m other same differs = refl
other_link (x ∷ xs) zero d m other same differs =
    ap (λ (k : ℕ). if k == other then Some m else link_at other xs) same
    ∙ ap (λ (b : Bool). if b then Some m else link_at other xs) differs
    ∙ sym (ap (λ (b : Bool). if b then Some x else link_at other xs) differs)
other_link (x ∷ xs) (suc i) d m other same differs = either_link (x.number == other) x (link_at other (slice_set xs i m)) (link_at other xs) (other_link xs i d m other same differs)

-- the others' stay
pub others_link : (number : ℕ) (ls : List Link) (place : ℕ) (d m : Link) → place_of number ls ≡ Some place → m.number ≡ (slice_index_or ls place d).number
    → (other : ℕ) → other ≢ number → link_at other (slice_set ls place m) ≡ link_at other ls
others_link number ls place d m is same other differs =
    let at : IsAt number ls place = is_at number ls place is in
    other_link ls place d m other same (ap (λ (k : ℕ). k == other) (at.named d) ∙ differs_by (number == other) number other refl differs)

pub others_wait : (number : ℕ) (ls : List Link) (place : ℕ) (d m : Link) → place_of number ls ≡ Some place → m.number ≡ (slice_index_or ls place d).number
    → (other : ℕ) → other ≢ number → waits_on other (slice_set ls place m) ≡ waits_on other ls
others_wait number ls place d m is same other differs = ap (option_map waits_of) (others_link number ls place d m is same other differs)

-- with whether it fits
pub others_queue : (number : ℕ) (ls : List Link) (place : ℕ) (d m : Link) → place_of number ls ≡ Some place → m.number ≡ (slice_index_or ls place d).number
    → (other : ℕ) → other ≢ number → queue_on other (slice_set ls place m) ≡ queue_on other ls
others_queue number ls place d m is same other differs = ap (option_map (λ (l : Link). queue_in l.out)) (others_link number ls place d m is same other differs)

-- its own changes with it
pub one_waits : (by : List ℕ → List ℕ) (number : ℕ) (ls : List Link) (place : ℕ) (d m : Link) → place_of number ls ≡ Some place → m.number ≡ (slice_index_or ls place d).number
    → waits_of m ≡ by (waits_of (slice_index_or ls place d)) → waits_on number (slice_set ls place m) ≡ option_map by (waits_on number ls)
one_waits by number ls place d m is same waits =
    let at : IsAt number ls place = is_at number ls place is in
    ap (option_map waits_of) (at.written d m same) ∙ ap Some waits ∙ sym (ap (λ (o : Option Link). option_map by (option_map waits_of o)) (at.found d))

-- it isn't there
pub none_waits : (by : List ℕ → List ℕ) (number : ℕ) (ls : List Link) → place_of number ls ≡ None → waits_on number ls ≡ option_map by (waits_on number ls)
none_waits by number ls is =
    let none : link_at number ls ≡ None = is_nowhere number ls is in
    ap (option_map waits_of) none ∙ sym (ap (λ (o : Option Link). option_map by (option_map waits_of o)) none)

pub one_queue : (by : Queue → Queue) (number : ℕ) (ls : List Link) (place : ℕ) (d m : Link) → place_of number ls ≡ Some place → m.number ≡ (slice_index_or ls place d).number
    → queue_in m.out ≡ by (queue_in (slice_index_or ls place d).out) → queue_on number (slice_set ls place m) ≡ option_map by (queue_on number ls)
one_queue by number ls place d m is same queue =
    let at : IsAt number ls place = is_at number ls place is in
    ap (option_map (λ (l : Link). queue_in l.out)) (at.written d m same) ∙ ap Some queue ∙ sym (ap (λ (o : Option Link). option_map by (option_map (λ (l : Link). queue_in l.out) o)) (at.found d))

pub none_queue : (by : Queue → Queue) (number : ℕ) (ls : List Link) → place_of number ls ≡ None → queue_on number ls ≡ option_map by (queue_on number ls)
none_queue by number ls is =
    let none : link_at number ls ≡ None = is_nowhere number ls is in
    ap (option_map (λ (l : Link). queue_in l.out)) none ∙ sym (ap (λ (o : Option Link). option_map by (option_map (λ (l : Link). queue_in l.out) o)) none)

-- ---- What is put there, or sent

-- where it fits, all of it waits
pub put_waits : (bytes : List ℕ) (p q : Queue) → q ≡ put_behind bytes p → fits p bytes ≡ true → q.bytes ≡ p.bytes ++ bytes
put_waits bytes p q is fit = ap (λ (r : Queue). r.bytes) (is ∙ put_fits bytes p fit)

not_full : (b c : Bool) → (not b && c) ≡ true → b ≡ false
not_full true c e = absurd (let u : false ≡ true = e in let v : ⊥ = cc in v)
not_full false c e = refl

-- and it is as full as it was
pub put_full : (bytes : List ℕ) (p q : Queue) → q ≡ put_behind bytes p → fits p bytes ≡ true → full_by q ≡ full_by p
put_full bytes p q is fit =
    ap full_by (is ∙ put_fits bytes p fit) ∙ ap (λ (b : Bool). let f : Fullness = (p.size, b) in f) (sym (not_full p.is_full (nat_le (length p.bytes + length bytes) (p.size + 32768)) fit))

-- there is no room for it
pub no_room : (bytes : List ℕ) (number : ℕ) (ls : List Link) (place : ℕ) (l : Link) → place_of number ls ≡ Some place → l ≡ slice_index_or ls place l → fits (queue_in l.out) bytes ≡ false → HasNoRoom number bytes ls
no_room bytes number ls place l is there unfit =
    let at : IsAt number ls place = is_at number ls place is in
    ap (option_map (λ (x : Link). fits (queue_in x.out) bytes)) (at.found l) ∙ ap (λ (x : Link). Some (fits (queue_in x.out) bytes)) (sym there) ∙ ap Some unfit

either_put : (b : Bool) (bytes : List ℕ) (p : Queue) → fits p bytes ≡ b → FillsAt (Some p.bytes) (Some (put_behind bytes p).bytes)
either_put true bytes p e = subst (λ (q : Queue). FillsAt (Some p.bytes) (Some q.bytes)) (sym (put_fits bytes p e)) (bytes, refl)
either_put false bytes p e = subst (λ (q : Queue). FillsAt (Some p.bytes) (Some q.bytes)) (sym (put_fills bytes p e)) (fills_refl (Some p.bytes))

-- what is put stands behind what waited, or isn't there
pub fills_put : (bytes waits : List ℕ) (p q : Queue) → q ≡ put_behind bytes p → p.bytes ≡ waits → FillsAt (Some waits) (Some q.bytes)
fills_put bytes waits p q is same =
    subst (λ (xs : List ℕ). FillsAt (Some xs) (Some q.bytes)) same
    (subst (λ (r : Queue). FillsAt (Some p.bytes) (Some r.bytes)) (sym is) (either_put (fits p bytes) bytes p refl))

-- ---- One is taken out

left_by : (b c : Bool) (other : ℕ) (x : Link) (xs : List Link) (o : Option Link) → (b ≡ true → c ≡ false) → link_at other xs ≡ o
    → (if c then Some x else link_at other xs) ≡ (if c then Some x else o) → (if not b then (if c then Some x else link_at other xs) else link_at other xs) ≡ (if c then Some x else o)
left_by true true other x xs o apart rest same = absurd (let u : true ≡ false = apart refl in let v : ⊥ = cc in v)
left_by true false other x xs o apart rest same = rest
left_by false c other x xs o apart rest same = same

choose_link : (b : Bool) (n : ℕ) (x : Link) (xs : List Link) → link_at n (if b then x ∷ xs else xs) ≡ (if b then (if x.number == n then Some x else link_at n xs) else link_at n xs)
choose_link true n x xs = refl
choose_link false n x xs = refl

apart : (b : Bool) (k number other : ℕ) → (k == other) ≡ b → other ≢ number → (k == number) ≡ true → b ≡ false
apart true k number other e differs is = absurd (differs (sym (eqb-true k other e) ∙ eqb-true k number is))
apart false k number other e differs is = refl

pub left_link : (number other : ℕ) (ls : List Link) → other ≢ number → link_at other (without_link number ls) ≡ link_at other ls
left_link number other [] differs = refl
left_link number other (x ∷ xs) differs =
    let rest : link_at other (without_link number xs) ≡ link_at other xs = left_link number other xs differs in
    choose_link (not (x.number == number)) other x (without_link number xs)
    ∙ left_by (x.number == number) (x.number == other) other x (without_link number xs) (link_at other xs) (λ is. apart (x.number == other) x.number number other refl differs is) rest
    (either_link (x.number == other) x (link_at other (without_link number xs)) (link_at other xs) rest)

pub left_wait : (number other : ℕ) (ls : List Link) → other ≢ number → waits_on other (without_link number ls) ≡ waits_on other ls
left_wait number other ls differs = ap (option_map waits_of) (left_link number other ls differs)

pub left_queue : (number other : ℕ) (ls : List Link) → other ≢ number → queue_on other (without_link number ls) ≡ queue_on other ls
left_queue number other ls differs = ap (option_map (λ (l : Link). queue_in l.out)) (left_link number other ls differs)

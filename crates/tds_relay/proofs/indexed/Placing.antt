-- Where each connection stands, as one comes, one is written, and one goes.
use Rattle.std.proofs.Common.{◌≡◌, ◌∙◌, ℕ, zero, suc, Bool, true, false, ◌==◌, ◌+◌, List, [], ◌∷◌, ◌++◌, Option, Some, None, length, refl, sym, ap, slice_index_or, slice_set, arith, if◌then◌else◌}
use Rattle.tds_relay.specs.declared.index.Indexed.{Indexed}
use Rattle.tds_relay.specs.declared.link.Link.{Link}
use Rattle.tds_relay.specs.Linking.{ArePlaced}
use Rattle.tds_relay.specs.Reads.{place_from, place_of}
use Rattle.tds_relay.specs.Sorted.{Climbs, first, ids_in, one_if, under}

abbrev either : {A : Type 0} → Option A → Option A → Option A
either None other = other
either (Some x) other = Some x

first_more : {A : Type 0} (xs ys : List A) → first (xs ++ ys) ≡ either (first xs) (first ys)
first_more [] ys = refl
first_more (x ∷ xs) ys = refl

first_one : {A : Type 0} (b : Bool) (x : A) → first (let xs : List A = if b then x ∷ [] else [] in xs) ≡ (let o : Option A = if b then Some x else None in o)
first_one true x = refl
first_one false x = refl

more_by : (b : Bool) (from place : ℕ) (rest last : Option ℕ) → place ≡ from → (if b then Some from else either rest last) ≡ either (if b then Some from else rest) last
more_by true from place rest last e = refl
more_by false from place rest last e = refl

place_more : (number from : ℕ) (ls : List Link) (l : Link)
    → place_from from number (ls ++ l ∷ []) ≡ either (place_from from number ls) (let o : Option ℕ = if l.number == number then Some (from + length ls) else None in o)
place_more number from [] l = ap (λ (n : ℕ). let o : Option ℕ = if l.number == number then Some n else None in o) (let e : from ≡ from + 0 = omega arith in e)
place_more number from (x ∷ xs) l =
    let at : suc from + length xs ≡ from + suc (length xs) = omega arith in
    ap (λ (o : Option ℕ). if x.number == number then Some from else o)
    (place_more number (suc from) xs l ∙ ap (λ (n : ℕ). either (place_from (suc from) number xs) (let o : Option ℕ = if l.number == number then Some n else None in o)) at)
    ∙ more_by (x.number == number) from from (place_from (suc from) number xs) (let o : Option ℕ = if l.number == number then Some (from + suc (length xs)) else None in o) refl

-- ---- One comes, behind the others

count_more : {A : Type 0} (xs : List A) (x : A) → length (xs ++ x ∷ []) ≡ suc (length xs)
count_more [] x = refl
count_more (y ∷ ys) x = ap suc (count_more ys x)

pub placed_more : (ls : List Link) (l : Link) (old new : List (Indexed ℕ)) (place : ℕ) → ArePlaced ls old → Climbs (ids_in new) → length new ≡ length old + 1
    → ((other : ℕ) → under other new ≡ under other old ++ one_if l.number other place) → place ≡ length ls → ArePlaced (ls ++ l ∷ []) new
placed_more ls l old new place is up count puts here = record {
  climbs = up;
  count =
      let was = is.count in
      let more = count_more ls l in omega (arith, count, was, more);
  finds = λ number.
      let at : place ≡ 0 + length ls = omega (arith, here) in
      ap first (puts number)
      ∙ (first_more (under number old) (one_if l.number number place)
      ∙ (ap (λ (o : Option ℕ). either o (first (one_if l.number number place))) (is.finds number)
      ∙ (ap (either (place_of number ls)) (first_one (l.number == number) place ∙ ap (λ (n : ℕ). let o : Option ℕ = if l.number == number then Some n else None in o) at)
      ∙ sym (place_more number 0 ls l))));
}

-- ---- One is written, which keeps its number

place_written : (number from : ℕ) (ls : List Link) (i : ℕ) (d m : Link) → m.number ≡ (slice_index_or ls i d).number → place_from from number (slice_set ls i m) ≡ place_from from number ls
place_written number from [] i d m same = refl
place_written number from (x ∷ xs) zero d m same = ap (λ (n : ℕ). if n == number then Some from else place_from (suc from) number xs) same
place_written number from (x ∷ xs) (suc i) d m same = ap (λ (o : Option ℕ). if x.number == number then Some from else o) (place_written number (suc from) xs i d m same)

count_written : (ls : List Link) (i : ℕ) (m : Link) → length (slice_set ls i m) ≡ length ls
count_written [] i m = refl
count_written (x ∷ xs) zero m = refl
count_written (x ∷ xs) (suc i) m = ap suc (count_written xs i m)

pub placed_written : (ls : List Link) (es : List (Indexed ℕ)) (i : ℕ) (d m : Link) → ArePlaced ls es → m.number ≡ (slice_index_or ls i d).number → ArePlaced (slice_set ls i m) es
placed_written ls es i d m is same = record {
  climbs = is.climbs;
  count = is.count ∙ sym (count_written ls i m);
  finds = λ number. is.finds number ∙ sym (place_written number 0 ls i d m same);
}

-- ---- None is there

pub none_placed : ArePlaced [] []
none_placed = record { climbs = tt; count = refl; finds = λ number. refl }

-- Connections that stand by rising numbers, and stay so.
use Rattle.std.proofs.Common.{◌≡◌, ◌<◌, ◌≤◌, ◌+◌, ℕ, zero, suc, true, false, List, [], ◌∷◌, ◌++◌, length, get_or, take, drop, refl, sym, ap, subst, arith}
use Rattle.std.proofs.Math.ListN.{set}
use Rattle.std.specs.Prelude.{◌≢◌, Option, Some, None, IfSome, IfNone, slice_index}
use Rattle.std.proofs.lemmas.Bool.Decides.{nat_tests}
use Rattle.tds_numbers.specs.Rising.{Rises}
use Rattle.tds_service.specs.declared.place.Rest.{Rest}
use Rattle.tds_service.specs.declared.place.Rest.TheVariants as resting
use Rattle.tds_service.specs.declared.seat.Seat as code
use Rattle.tds_service.specs.Rising.{RiseFrom, numbers_in}
use Rattle.tds_service.specs.Service.{Seat, has_number, seat_numbered}
use Rattle.tds_service.specs.Table.{FirstMet, met, seat_in, seats_in, without_closed}
use Rattle.tds_service.proofs.Tables.{none_met}

-- ---- By their places

at_least : (low : ℕ) (ns : List ℕ) (top : ℕ) → RiseFrom low ns top → (i : ℕ) → i < length ns → low ≤ slice_index ns i
at_least low [] top h i lt = absurd (omega (arith, lt))
at_least low (n ∷ ns) top h zero lt = h.0
at_least low (n ∷ ns) top h (suc i) lt =
    let more : suc n ≤ slice_index ns i = at_least (suc n) ns top h.1 i (omega (arith, lt)) in
    omega (arith, h.0, more)

pub rises : (low : ℕ) (ns : List ℕ) (top : ℕ) → RiseFrom low ns top → Rises ns
rises low [] top h i j lt inside = absurd (omega (arith, inside))
rises low (n ∷ ns) top h i zero lt inside = absurd (omega (arith, lt))
rises low (n ∷ ns) top h zero (suc j) lt inside =
    let more : suc n ≤ slice_index ns j = at_least (suc n) ns top h.1 j (omega (arith, inside)) in
    omega (arith, more)
rises low (n ∷ ns) top h (suc i) (suc j) lt inside = rises (suc n) ns top h.1 i j (omega (arith, lt)) (omega (arith, inside))

-- ---- One more, one less

pub added : (low : ℕ) (cs : List code.Seat) (c : code.Seat) (top : ℕ) → RiseFrom low (numbers_in cs) top → c.number ≡ top → RiseFrom low (numbers_in (cs ++ c ∷ [])) (suc top)
added low [] c top h is = (rw is h, omega (arith, is))
added low (d ∷ cs) c top h is = (h.0, added (suc d.number) cs c top h.1 is)

lower : (low more : ℕ) (ns : List ℕ) (top : ℕ) → low ≤ more → RiseFrom more ns top → RiseFrom low ns top
lower low more [] top le h = omega (arith, le, h)
lower low more (n ∷ ns) top le h = (omega (arith, le, h.0), h.1)

pub taken : (low : ℕ) (cs : List code.Seat) (i top : ℕ) → RiseFrom low (numbers_in cs) top → RiseFrom low (numbers_in (take i cs ++ drop (i + 1) cs)) top
taken low [] zero top h = h
taken low [] (suc i) top h =
    let e : suc i + 1 ≡ suc (i + 1) = omega arith in
    subst (λ (k : ℕ). RiseFrom low (numbers_in (take {A = code.Seat} (suc i) [] ++ drop k [])) top) (sym e) h
taken low (c ∷ cs) zero top h = lower low (suc c.number) (numbers_in cs) top (omega (arith, h.0)) h.1
taken low (c ∷ cs) (suc i) top h =
    let e : suc i + 1 ≡ suc (i + 1) = omega arith in
    subst (λ (k : ℕ). RiseFrom low (numbers_in (take (suc i) (c ∷ cs) ++ drop k (c ∷ cs))) top) (sym e) (h.0, taken (suc c.number) cs i top h.1)

-- one that is to be closed is taken out
pub rested : (rest : Rest) (i low : ℕ) (cs : List code.Seat) (top : ℕ) → RiseFrom low (numbers_in cs) top → RiseFrom low (numbers_in (without_closed rest i cs)) top
rested resting.Free i low cs top h = h
rested resting.Draining i low cs top h = h
rested resting.Closed i low cs top h = taken low cs i top h

pub numbers_set : (d y : code.Seat) (cs : List code.Seat) (i : ℕ) → i < length cs → y.number ≡ (get_or cs i d).number → numbers_in (set cs i y) ≡ numbers_in cs
numbers_set d y [] i lt same = absurd (omega arith)
numbers_set d y (c ∷ cs) zero lt same = ap (λ (n : ℕ). n ∷ numbers_in cs) same
numbers_set d y (c ∷ cs) (suc i) lt same = ap (λ (ns : List ℕ). c.number ∷ ns) (numbers_set d y cs i (omega arith) same)

-- ---- Finding

other : (a n : ℕ) (c : Seat) → c.number ≡ a → a ≢ n → has_number n c ≡ false
other a n c is h = grind (arith, nat_tests, is, h)

pub met_number : (n : ℕ) (cs : List code.Seat) (i : ℕ) → i < length cs → slice_index (numbers_in cs) i ≡ n → met (has_number n) cs i ≡ true
met_number n [] i lt is = absurd (omega (arith, lt))
met_number n (c ∷ cs) zero lt is = grind (arith, nat_tests, is)
met_number n (c ∷ cs) (suc i) lt is = met_number n cs i (omega (arith, lt)) is

pub not_met : (n : ℕ) (cs : List code.Seat) (i : ℕ) → i < length cs → slice_index (numbers_in cs) i ≢ n → met (has_number n) cs i ≡ false
not_met n [] i lt is = absurd (omega (arith, lt))
not_met n (c ∷ cs) zero lt is = other c.number n (seat_in c) refl is
not_met n (c ∷ cs) (suc i) lt is = not_met n cs i (omega (arith, lt)) is

pub mapped : (cs : List code.Seat) → length (numbers_in cs) ≡ length cs
mapped [] = refl
mapped (c ∷ cs) = ap suc (mapped cs)

pub first_by : (n : ℕ) (cs : List code.Seat) (o : Option ℕ) → Rises (numbers_in cs) → IfSome o (λ i. (i < length cs) × (slice_index (numbers_in cs) i ≡ n))
    → IfSome o (FirstMet (has_number n) cs)
first_by n cs None up h = tt
first_by n cs (Some i) up h = record {
  within = h.0;
  here = met_number n cs i h.0 h.1;
  before = λ k lt.
      let below : slice_index (numbers_in cs) k < slice_index (numbers_in cs) i = up k i lt (subst (λ (m : ℕ). i < m) (sym (mapped cs)) h.0) in
      not_met n cs k (omega (arith, lt, h.0)) (λ e. absurd (omega (arith, below, e, h.1)));
}

pub none_by : (n : ℕ) (cs : List code.Seat) (o : Option ℕ) → IfNone o ((i : ℕ) → i < length cs → slice_index (numbers_in cs) i ≢ n) → IfNone o (seat_numbered n (seats_in cs) ≡ None)
none_by n cs None h = none_met (has_number n) cs (λ k lt. not_met n cs k lt (h k lt))
none_by n cs (Some i) h = tt

-- How often a number stands in places.
use Rattle.std.proofs.Common.{◌≡◌, ◌∙◌, ◌<◌, ℕ, zero, suc, ◌+◌, ◌-◌, Bool, true, false, cond, List, [], ◌∷◌, length, replicate, set, refl, sym, ap, arith, ⊎_elim}
use Rattle.std.proofs.lemmas.Bool.{false≢true, true≢false, cases_eq, eq-eqb, ne_eqb, eqb-true, ltb-true, not-true, not-false}
use Rattle.std.proofs.lemmas.List.{length-set}
use Rattle.std.specs.List.{list_any}
use Rattle.std.specs.Prelude.{◌==◌, ◌||◌, not, nat_lt}
use Rattle.tds_state.specs.declared.asked.Call.{Call}
use Rattle.tds_state.specs.declared.asked.Call.TheVariants as calls
use Rattle.tds_state.specs.declared.handles.Handles.{Handles}
use Rattle.tds_state.specs.declared.handles.Returned as answers
use Rattle.tds_state.specs.declared.handles.Returned.TheVariants as values
use Rattle.tds_state.specs.Exchanges.{closed_times, is_no_handle, is_unclear_by, one_less_if, one_more_if, opened_by, times_behind}
use Rattle.tds_state.specs.Handles.{handle_put, free_places, handles_settled, is_counted, is_open_place, place_of_handle, prepared_by, handles_unprepared}
use Rattle.tds_state.proofs.Bools.{neither}

abbrev pub bit : Bool → ℕ
bit true = 1
bit false = 0

unfoldable pub count : ℕ → List ℕ → ℕ
count n [] = 0
count n (x ∷ xs) = bit (x == n) + count n xs

count_step : (n x : ℕ) (xs : List ℕ) (b : Bool) → (x == n) ≡ b → count n (x ∷ xs) ≡ bit b + count n xs
unfolding count
count_step n x xs b is = ap (λ (c : Bool). bit c + count n xs) is

count_none : (n : ℕ) → count n [] ≡ 0
unfolding count
count_none n = refl

-- ---- None

pub count_free : (n k : ℕ) → 0 < n → count n (replicate k 0) ≡ 0
count_free n zero h = count_none n
count_free n (suc k) h =
    let step : count n (replicate (suc k) 0) ≡ 0 + count n (replicate k 0) = count_step n 0 (replicate k 0) false (ne_eqb 0 n (λ e. omega (arith, h, e))) in
    let more = count_free n k h in
    omega (arith, step, more)

pub count_closed : (n : ℕ) (xs : List ℕ) → 0 < n → list_any is_open_place xs ≡ false → count n xs ≡ 0
count_closed n [] h none = count_none n
count_closed n (x ∷ xs) h none =
    let parts = neither (not (x == 0)) (list_any is_open_place xs) none in
    let zero_is : x ≡ 0 = eqb-true x 0 (not-false (x == 0) parts.0) in
    let step : count n (x ∷ xs) ≡ 0 + count n xs = count_step n x xs false (ne_eqb x n (λ e. omega (arith, h, e, zero_is))) in
    let more = count_closed n xs h parts.1 in
    omega (arith, step, more)

-- ---- A number stands where another one stood

place_step : (old x : ℕ) (xs : List ℕ) (b : Bool) → (x == old) ≡ b → place_of_handle old (x ∷ xs) ≡ cond b 0 (suc (place_of_handle old xs))
unfolding place_of_handle
place_step old x xs b is = ap (λ (c : Bool). cond c 0 (suc (place_of_handle old xs))) is

pub count_set : (n old new : ℕ) (xs : List ℕ) → place_of_handle old xs < length xs
    → bit (old == n) + count n (set xs (place_of_handle old xs) new) ≡ bit (new == n) + count n xs
count_set n old new [] h = absurd (omega (arith, h))
count_set n old new (x ∷ xs) h = ⊎_elim here (there (λ (k : place_of_handle old xs < length xs). count_set n old new xs k)) (cases_eq x old) where
  whole : count n (x ∷ xs) ≡ bit (x == n) + count n xs
  whole = count_step n x xs (x == n) refl

  here : x ≡ old → bit (old == n) + count n (set (x ∷ xs) (place_of_handle old (x ∷ xs)) new) ≡ bit (new == n) + count n (x ∷ xs)
  here e =
      let at : place_of_handle old (x ∷ xs) ≡ 0 = place_step old x xs true (eq-eqb x old e) in
      let set_is : count n (set (x ∷ xs) (place_of_handle old (x ∷ xs)) new) ≡ count n (new ∷ xs) = ap (λ (i : ℕ). count n (set (x ∷ xs) i new)) at in
      let same : bit (x == n) ≡ bit (old == n) = ap (λ (y : ℕ). bit (y == n)) e in
      let first = count_step n new xs (new == n) refl in
      omega (arith, whole, set_is, same, first)

  there : (place_of_handle old xs < length xs → bit (old == n) + count n (set xs (place_of_handle old xs) new) ≡ bit (new == n) + count n xs) → (x ≡ old → ⊥) → bit (old == n) + count n (set (x ∷ xs) (place_of_handle old (x ∷ xs)) new) ≡ bit (new == n) + count n (x ∷ xs)
  there others ne =
      let at : place_of_handle old (x ∷ xs) ≡ suc (place_of_handle old xs) = place_step old x xs false (ne_eqb x old ne) in
      let set_is : count n (set (x ∷ xs) (place_of_handle old (x ∷ xs)) new) ≡ count n (x ∷ set xs (place_of_handle old xs) new) = ap (λ (i : ℕ). count n (set (x ∷ xs) i new)) at in
      let first = count_step n x (set xs (place_of_handle old xs) new) (x == n) refl in
      let more = others (omega (arith, h, at)) in
      omega (arith, whole, set_is, first, more)

-- ---- An exchange that is clear

pub record Clear (old new : ℕ) (h : Handles) : Type 0 where
  pub before : h.is_unclear ≡ false
  pub differ : (old == new) ≡ false
  pub stands : place_of_handle old h.places < 64
  pub places : (handle_put old new h).places ≡ set h.places (place_of_handle old h.places) new

clear_by : (old new : ℕ) (h : Handles) (same out : Bool) → (old == new) ≡ same → nat_lt (place_of_handle old h.places) 64 ≡ out → (handle_put old new h).is_unclear ≡ false → Clear old new h
clear_by old new h true out e f is = absurd (true≢false (sym (ap (λ (b : Bool). (cond (b || not (nat_lt (place_of_handle old h.places) 64)) (record h { is_unclear = true }) (record h { places = set h.places (place_of_handle old h.places) new })).is_unclear) e) ∙ is))
clear_by old new h false false e f is = absurd (true≢false (sym (ap (λ (b : Bool). (cond (b || not (nat_lt (place_of_handle old h.places) 64)) (record h { is_unclear = true }) (record h { places = set h.places (place_of_handle old h.places) new })).is_unclear) e
    ∙ ap (λ (b : Bool). (cond (not b) (record h { is_unclear = true }) (record h { places = set h.places (place_of_handle old h.places) new })).is_unclear) f) ∙ is))
clear_by old new h false true e f is =
    let chosen = ap (λ (b : Bool). cond (b || not (nat_lt (place_of_handle old h.places) 64)) (record h { is_unclear = true }) (record h { places = set h.places (place_of_handle old h.places) new })) e
    ∙ ap (λ (b : Bool). cond (not b) (record h { is_unclear = true }) (record h { places = set h.places (place_of_handle old h.places) new })) f in
    record {
      before = sym (ap (λ (k : Handles). k.is_unclear) chosen) ∙ is;
      differ = e;
      stands = ltb-true (place_of_handle old h.places) 64 f;
      places = ap (λ (k : Handles). k.places) chosen;
    }

pub clear : (old new : ℕ) (h : Handles) → (handle_put old new h).is_unclear ≡ false → Clear old new h
clear old new h is = clear_by old new h (old == new) (nat_lt (place_of_handle old h.places) 64) refl refl is

pub exchange_counts : (n old new : ℕ) (h : Handles) → length h.places ≡ 64 → (handle_put old new h).is_unclear ≡ false
    → bit (old == n) + count n (handle_put old new h).places ≡ bit (new == n) + count n h.places
exchange_counts n old new h room is =
    let c = clear old new h is in
    ap (λ (xs : List ℕ). bit (old == n) + count n xs) c.places ∙ count_set n old new h.places (omega (arith, c.stands, room))

-- ---- A call whose answer has ended

no_zero : (n : ℕ) → 0 < n → (0 == n) ≡ false
no_zero n h = ne_eqb 0 n (λ e. omega (arith, h, e))

more_by : (b : Bool) (times : ℕ) → bit b + times ≡ one_more_if b times
more_by true times = omega arith
more_by false times = omega arith

less_by : (b : Bool) (now times : ℕ) → bit b + now ≡ times → now ≡ one_less_if b times
less_by true now times h = omega (arith, h)
less_by false now times h = omega (arith, h)

opens : (n m : ℕ) (h : Handles) → length h.places ≡ 64 → 0 < n → (handle_put 0 m h).is_unclear ≡ false → count n (handle_put 0 m h).places ≡ one_more_if (m == n) (count n h.places)
opens n m h room some is =
    let none : bit (0 == n) ≡ 0 = ap bit (no_zero n some) in
    let counts = exchange_counts n 0 m h room is in
    let more = more_by (m == n) (count n h.places) in
    omega (arith, none, counts, more)

closes : (n m : ℕ) (h : Handles) → length h.places ≡ 64 → 0 < n → (handle_put m 0 h).is_unclear ≡ false → count n (handle_put m 0 h).places ≡ one_less_if (m == n) (count n h.places)
closes n m h room some is =
    let none : bit (0 == n) ≡ 0 = ap bit (no_zero n some) in
    let counts = exchange_counts n m 0 h room is in
    less_by (m == n) (count n (handle_put m 0 h).places) (count n h.places) (omega (arith, none, counts))

pub settled_clear : (call : Call) (h : Handles) → (handles_settled call h).is_unclear ≡ false → h.is_unclear ≡ false
settled_clear calls.Harmless h is = is
settled_clear calls.Prepares h is = returns h.returned (neither h.overlaps (prepared_by h.returned h).is_unclear is).1 where
  returns : (r : answers.Returned) → (prepared_by r h).is_unclear ≡ false → h.is_unclear ≡ false
  returns values.Nothing w = absurd (true≢false w)
  returns (values.One m) w = (clear 0 m h w).before
  returns values.Unclear w = absurd (true≢false w)
settled_clear (calls.Unprepares m) h is = fails h.has_failed (neither h.overlaps (handles_unprepared h.has_failed m h).is_unclear is).1 where
  fails : (b : Bool) → (handles_unprepared b m h).is_unclear ≡ false → h.is_unclear ≡ false
  fails true w = (clear m 0 h w).before
  fails false w = (clear m 0 h w).before
settled_clear calls.Unknown h is = is

pub settled_counts : (call : Call) (h : Handles) (n : ℕ) → length h.places ≡ 64 → 0 < n → (handles_settled call h).is_unclear ≡ false
    → count n (handles_settled call h).places ≡ times_behind call h.returned h.has_failed n (count n h.places)
settled_counts calls.Harmless h n room some is = refl
settled_counts calls.Prepares h n room some is = returns h.returned (neither h.overlaps (prepared_by h.returned h).is_unclear is).1 where
  returns : (r : answers.Returned) → (prepared_by r h).is_unclear ≡ false → count n (prepared_by r h).places ≡ opened_by r n (count n h.places)
  returns values.Nothing w = absurd (true≢false w)
  returns (values.One m) w = opens n m h room some w
  returns values.Unclear w = absurd (true≢false w)
settled_counts (calls.Unprepares m) h n room some is = fails h.has_failed (neither h.overlaps (handles_unprepared h.has_failed m h).is_unclear is).1 where
  fails : (b : Bool) → (handles_unprepared b m h).is_unclear ≡ false → count n (handles_unprepared b m h).places ≡ closed_times b m n (count n h.places)
  fails true w = refl
  fails false w = closes n m h room some w
settled_counts calls.Unknown h n room some is = refl

-- a number that is closed is open
closed_is_open : (m : ℕ) (h : Handles) → length h.places ≡ 64 → (handle_put m 0 h).is_unclear ≡ false → (0 < m) × (0 < count m h.places)
closed_is_open m h room is =
    let c = clear m 0 h is in
    let ne : m ≡ 0 → ⊥ = λ e. true≢false (sym (eq-eqb m 0 e) ∙ c.differ) in
    let other : bit (0 == m) ≡ 0 = ap bit (ne_eqb 0 m (λ e. ne (sym e))) in
    let own : bit (m == m) ≡ 1 = ap bit (eq-eqb m m refl) in
    let counts = exchange_counts m m 0 h room is in
    (positive m ne, omega (arith, own, other, counts)) where
      positive : (k : ℕ) → (k ≡ 0 → ⊥) → 0 < k
      positive zero w = absurd (w refl)
      positive (suc k) w = omega arith

pub settled_known : (call : Call) (h : Handles) (times : ℕ → ℕ) → length h.places ≡ 64 → ((n : ℕ) → 0 < n → count n h.places ≡ times n)
    → (handles_settled call h).is_unclear ≡ false → is_unclear_by call h.returned times ≡ false
settled_known calls.Harmless h times room same is = refl
settled_known calls.Prepares h times room same is = returns h.returned (neither h.overlaps (prepared_by h.returned h).is_unclear is).1 where
  returns : (r : answers.Returned) → (prepared_by r h).is_unclear ≡ false → is_no_handle r ≡ false
  returns values.Nothing w = absurd (true≢false w)
  returns (values.One m) w = ne_eqb m 0 (λ e. true≢false (sym (eq-eqb 0 m (sym e)) ∙ (clear 0 m h w).differ))
  returns values.Unclear w = absurd (true≢false w)
settled_known (calls.Unprepares m) h times room same is = fails h.has_failed (neither h.overlaps (handles_unprepared h.has_failed m h).is_unclear is).1 where
  is_open : (handle_put m 0 h).is_unclear ≡ false → (times m == 0) ≡ false
  is_open w =
      let stands = closed_is_open m h room w in
      let is_so = same m stands.0 in
      ne_eqb (times m) 0 (λ e. omega (arith, stands.1, is_so, e))

  fails : (b : Bool) → (handles_unprepared b m h).is_unclear ≡ false → (times m == 0) ≡ false
  fails true w = is_open w
  fails false w = is_open w
settled_known calls.Unknown h times room same is = refl

pub settled_apart : (call : Call) (h : Handles) → (handles_settled call h).is_unclear ≡ false → is_counted call ≡ true → h.overlaps ≡ false
settled_apart calls.Harmless h is c = absurd (false≢true c)
settled_apart calls.Prepares h is c = (neither h.overlaps (prepared_by h.returned h).is_unclear is).0
settled_apart (calls.Unprepares m) h is c = (neither h.overlaps (handles_unprepared h.has_failed m h).is_unclear is).0
settled_apart calls.Unknown h is c = absurd (false≢true c)

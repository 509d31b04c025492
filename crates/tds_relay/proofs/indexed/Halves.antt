-- A search by halves for where a limit stands.
use Rattle.std.proofs.Common.{◌≡◌, ℕ, zero, suc, Bool, true, false, ◌+◌, ◌-◌, ◌*◌, ◌/◌, ◌^◌, ◌<◌, ◌≤◌, refl, sym, eq-or-lt_of_le, ⊎_elim, pow-suc, arith}
use Rattle.tds_relay.specs.Sorted.{Cuts, Lasts, bound}

-- ---- What one step leaves

-- half of less than twice so many is less than so many, and so is what stands behind it
half : (d p : ℕ) → d < p * 2 → (d / 2 < p) × (d < d / 2 + 1 + p)
half d p h = (omega (arith, h), omega (arith, h))

-- where there is a number to look at, there is a step left
step_left : (low high left : ℕ) → low < high → high < low + 2 ^ left → (less : ℕ) × (left ≡ suc less)
step_left low high zero lt few = absurd (omega (arith, lt, few))
step_left low high (suc less) lt few = (less, refl)

less_behind : (low high less : ℕ) → low < high → high < low + 2 ^ suc less → high < low + (high - low) / 2 + 1 + 2 ^ less
less_behind low high less lt few =
    let twice : high - low < 2 ^ less * 2 = omega (arith, lt, few, pow-suc 2 less) in
    omega (arith, lt, (half (high - low) (2 ^ less) twice).1)

less_in_front : (low high less : ℕ) → low < high → high < low + 2 ^ suc less → low + (high - low) / 2 < low + 2 ^ less
less_in_front low high less lt few =
    let twice : high - low < 2 ^ less * 2 = omega (arith, lt, few, pow-suc 2 less) in
    omega (arith, lt, (half (high - low) (2 ^ less) twice).0)

one_less : (most first steps more less : ℕ) → steps ≤ first + most → first + most - steps ≡ suc less → more ≡ steps + 1 → (more ≤ first + most) × (less ≡ first + most - more)
one_less most first steps more less h e is = (omega (arith, h, e, is), omega (arith, h, e, is))

pub lasts_behind : (most first steps more low high : ℕ) → low < high → Lasts most first steps low high → more ≡ steps + 1
    → Lasts most first more (low + (high - low) / 2 + 1) high
lasts_behind most first steps more low high lt l is =
    let left = step_left low high (first + most - steps) lt l.few in
    let one = one_less most first steps more left.0 l.within left.1 is in
    let few : high < low + 2 ^ suc left.0 = rw left.1 at l.few in
    record { within = one.0; few = rw (sym one.1) (less_behind low high left.0 lt few) }

pub lasts_in_front : (most first steps more low high : ℕ) → low < high → Lasts most first steps low high → more ≡ steps + 1
    → Lasts most first more low (low + (high - low) / 2)
lasts_in_front most first steps more low high lt l is =
    let left = step_left low high (first + most - steps) lt l.few in
    let one = one_less most first steps more left.0 l.within left.1 is in
    let few : high < low + 2 ^ suc left.0 = rw left.1 at l.few in
    record { within = one.0; few = rw (sym one.1) (less_in_front low high left.0 lt few) }

pub begins : (most steps n : ℕ) → n < 2 ^ most → Lasts most steps steps 0 n
begins most steps n h =
    let e : steps + most - steps ≡ most = omega arith in
    record { within = omega arith; few = rw e (omega (arith, h)) }

module _ (count : ℕ) (at : ℕ → ℕ) (limit : ℕ) (up : (i j : ℕ) → i < j → j < count → at i ≤ at j) where
  -- the middle is below the limit, and so is what stands in front of it
  pub behind : (low high : ℕ) → low < high → Cuts count at limit low high → at (low + (high - low) / 2) < limit
      → Cuts count at limit (low + (high - low) / 2 + 1) high
  behind low high lt h told =
      let inside : low + (high - low) / 2 < count = omega (arith, lt, h.within) in record {
        within = h.within;
        ordered = omega (arith, lt);
        below = λ place le. ⊎_elim
            (λ (e : place ≡ low + (high - low) / 2). rw e told)
            (λ (before : place < low + (high - low) / 2).
            let le2 : at place ≤ at (low + (high - low) / 2) = up place (low + (high - low) / 2) before inside in omega (arith, le2, told))
            (eq-or-lt_of_le (omega (arith, le)));
        above = h.above;
      }

  -- the middle isn't, nor is what stands behind it
  pub in_front : (low high : ℕ) → low < high → Cuts count at limit low high → limit ≤ at (low + (high - low) / 2)
      → Cuts count at limit low (low + (high - low) / 2)
  in_front low high lt h told = record {
    within = omega (arith, lt, h.within);
    ordered = omega (arith, lt);
    below = h.below;
    above = λ place le inside. ⊎_elim
        (λ (e : low + (high - low) / 2 ≡ place). rw (sym e) told)
        (λ (after : low + (high - low) / 2 < place).
        let le2 : at (low + (high - low) / 2) ≤ at place = up (low + (high - low) / 2) place after inside in omega (arith, le2, told))
        (eq-or-lt_of_le le);
  }

-- ---- The limit

pub less_limit : (a n : ℕ) (past : Bool) → a < n → a < bound n past
less_limit a n true lt = omega (arith, lt)
less_limit a n false lt = lt

pub more_limit : (a n : ℕ) (past : Bool) → n < a → bound n past ≤ a
more_limit a n true lt = lt
more_limit a n false lt = omega (arith, lt)

pub same_past : (a n : ℕ) (past : Bool) → a ≡ n → past ≡ true → a < bound n past
same_past a n true is e = omega (arith, is)
same_past a n false is e = absurd (let u : ⊥ = cc in u)

pub same_first : (a n : ℕ) (past : Bool) → a ≡ n → past ≡ false → bound n past ≤ a
same_first a n true is e = absurd (let u : ⊥ = cc in u)
same_first a n false is e = omega (arith, is)

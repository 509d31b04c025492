-- That an application's end takes a byte at least of those that come, where there is one.
use Rattle.std.proofs.Common.{◌≡◌, ◌≤◌, ℕ, List, [], ◌∷◌, length, subst, arith}
use Rattle.std.specs.Prelude.{Ok, IfOk, Result}
use Rattle.tds_front.specs.declared.fault.FrontFault.{FrontFault}
use Rattle.tds_front.specs.declared.front.Fed.{Fed}
use Rattle.tds_front.specs.declared.front.Front.{Front}
use Rattle.tds_front.specs.Bytes.{TakesSome, fed}

-- as the law of an end has it
abbrev TakesEach : Type 0
TakesEach =
    (front : Front) (byte : ℕ) (bytes : List ℕ) → TakesSome front
    → TakesSome (fed front (byte ∷ bytes)).front × IfOk (fed front (byte ∷ bytes)).brings (λ (taken : Fed). 1 ≤ taken.count)

abbrev TakesNone : Type 0
TakesNone = (front : Front) → TakesSome front → TakesSome (fed front []).front

pub stays_lively : TakesEach → TakesNone → (front : Front) (bytes : List ℕ) → TakesSome front → TakesSome (fed front bytes).front
stays_lively each none front [] t = none front t
stays_lively each none front (byte ∷ bytes) t = (each front byte bytes t).0

pub takes_one : TakesEach → (front : Front) (bytes : List ℕ) (taken : Fed) → TakesSome front → (fed front bytes).brings ≡ Ok taken → 1 ≤ length bytes → 1 ≤ taken.count
takes_one each front [] taken t brings some = absurd (let u : ⊥ = omega (arith, some) in u)
takes_one each front (byte ∷ bytes) taken t brings some =
    subst (λ (r : Result Fed FrontFault). IfOk r (λ (x : Fed). 1 ≤ x.count)) brings (each front byte bytes t).1

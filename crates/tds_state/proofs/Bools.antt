-- Tests that hold together.
use Rattle.std.proofs.Common.{◌≡◌, Bool, true, false, refl, ap}
use Rattle.std.proofs.lemmas.Bool.{true≢false, false≢true}
use Rattle.std.specs.Prelude.{◌||◌}

pub or_left : (x y : Bool) → x ≡ true → (x || y) ≡ true
or_left x y h = ap (λ (b : Bool). b || y) h

pub or_right : (x y : Bool) → y ≡ true → (x || y) ≡ true
or_right true y h = refl
or_right false y h = h

pub neither : (x y : Bool) → (x || y) ≡ false → (x ≡ false) × (y ≡ false)
neither true y h = absurd (true≢false h)
neither false y h = (refl, h)

pub is_not : (x : Bool) → (x ≡ true → false ≡ true) → x ≡ false
is_not true h = absurd (false≢true (h refl))
is_not false h = refl

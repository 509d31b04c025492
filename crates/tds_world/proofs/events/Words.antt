-- What holds of what was found, or of what was done.
use Rattle.std.proofs.Common.{◌≡◌, Bool, true, false, cond, refl, Option, Some, None}
use Rattle.tds_world.specs.Connection.{Connection}
use Rattle.tds_world.specs.Pool.{Acted, Refuses, Does}
use Rattle.tds_world.specs.World.{Found, Missing, Here, Opens}

abbrev pub OfSome : {A : Type 0} → (A → Type 0) → Option A → Type 0
OfSome P None = Unit {0}
OfSome P (Some x) = P x

abbrev pub OfFound : (Connection → Type 0) → Found → Type 0
OfFound P (Missing why) = Unit {0}
OfFound P (Here n c) = P c
OfFound P (Opens n) = Unit {0}

abbrev pub OfActed : (Connection → Type 0) → Acted → Type 0
OfActed P (Refuses why) = Unit {0}
OfActed P (Does outcome c) = P c

-- What holds of both sides of a test holds of what it gives.
pub either : {A : Type 0} (P : A → Type 0) (b : Bool) (x y : A) → P x → P y → P (cond b x y)
either P true x y f g = f
either P false x y f g = g

-- The same, where what the test said is known.
pub by_test : {A : Type 0} (P : A → Type 0) (b : Bool) (x y : A) → (b ≡ true → P x) → (b ≡ false → P y) → P (cond b x y)
by_test P true x y f g = f refl
by_test P false x y f g = g refl

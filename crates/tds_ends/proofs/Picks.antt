-- The side of a condition that holds or does not.
use Rattle.std.proofs.Common.{◌≡◌, Bool, true, false, cond}

pub pick_false : {A : Type 0} {y z : A} (b : Bool) (x : A) → b ≡ false → y ≡ z → cond b x y ≡ z
pick_false true x e h = absurd (cc)
pick_false false x e h = h

pub pick_true : {A : Type 0} {x z : A} (b : Bool) (y : A) → b ≡ true → x ≡ z → cond b x y ≡ z
pick_true true y e h = h
pick_true false y e h = absurd (cc)

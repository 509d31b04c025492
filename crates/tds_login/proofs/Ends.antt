-- How one unit goes from the end of a batch, or stays.
use Rattle.std.proofs.Common.{rules, arith, ◌≡◌, refl, ap, ℕ, zero, suc, ◌-◌, List, Bool, true, false}
use Rattle.std.specs.Prelude.{◌&&◌, nat_lt}
use Rattle.tds_login.specs.LineEnds.{left_of, ends_blank}

pub goes : (bytes : List ℕ) (least end : ℕ) → nat_lt least end ≡ true → ends_blank bytes end ≡ true → left_of bytes least end ≡ left_of bytes least (end - 2)
unfolding left_of
goes bytes least zero more blank = refl
goes bytes least (suc zero) more blank = search rules
goes bytes least (suc (suc end)) more blank = rw more (rw blank (ap (left_of bytes least) (omega arith)))

pub stays : (bytes : List ℕ) (least end : ℕ) → (nat_lt least end && ends_blank bytes end) ≡ false → left_of bytes least end ≡ end
unfolding left_of
stays bytes least zero h = refl
stays bytes least (suc zero) h = refl
stays bytes least (suc (suc end)) h = rw h refl

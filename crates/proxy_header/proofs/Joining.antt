-- A piece is taken in two parts.
use Rattle.std.proofs.Common.{◌≡◌, ◌∙◌, sym, ap, ℕ, List, ◌++◌, append_assoc, ◌≤◌, ◌+◌, ◌-◌, length, take, drop, take-add, length-drop, subst, arith}
use Rattle.proxy_header.specs.declared.header.Found.{Found}
use Rattle.proxy_header.specs.declared.header.Found.TheVariants.{Missing, Whole, Wrong}
use Rattle.proxy_header.specs.declared.reader.Taken.{Taken}
use Rattle.proxy_header.specs.declared.reader.Taken.TheVariants as taken
use Rattle.proxy_header.specs.Header.{header_in}
use Rattle.proxy_header.specs.Pieces.{Says, TakesOfHeader}

says_both : (found : Found) (what : Taken) (n count rest all : ℕ) → rest ≡ all - n → n ≤ all → Says found count rest what → Says found (n + count) all what
says_both (Missing m) taken.More n count rest all e few h = omega (arith, e, few, h)
says_both (Missing m) (taken.Whole s) n count rest all e few h = h
says_both (Missing m) taken.Wrong n count rest all e few h = h
says_both (Whole s) taken.More n count rest all e few h = h
says_both (Whole s) (taken.Whole t) n count rest all e few h = h
says_both (Whole s) taken.Wrong n count rest all e few h = h
says_both Wrong taken.More n count rest all e few h = h
says_both Wrong (taken.Whole t) n count rest all e few h = h
says_both Wrong taken.Wrong n count rest all e few h = h

pub takes_both : (before piece : List ℕ) (n count : ℕ) (what : Taken) (after : List ℕ) → n ≤ length piece
    → TakesOfHeader (before ++ take n piece) (drop n piece) count what after → TakesOfHeader before piece (n + count) what after
takes_both before piece n count what after few h = record {
  within = omega (arith, few, h.within, length-drop n piece);
  appended = h.appended ∙ append_assoc before (take n piece) (take count (drop n piece)) ∙ ap (λ (xs : List ℕ). before ++ xs) (sym (take-add n count piece));
  said = says_both (header_in after) what n count (length (drop n piece)) (length piece) (length-drop n piece) few h.said;
}

pub takes_on : (before middle piece front back : List ℕ) (n count : ℕ) (what : Taken) (after : List ℕ) → n ≤ length piece
    → front ≡ take n piece → back ≡ drop n piece → length front ≡ n → middle ≡ before ++ front
    → TakesOfHeader middle back count what after → TakesOfHeader before piece (length front + count) what after
takes_on before middle piece front back n count what after few f b l m h =
    subst (λ (k : ℕ). TakesOfHeader before piece (k + count) what after) (sym l)
    (takes_both before piece n count what after few
    (subst (λ (xs : List ℕ). TakesOfHeader xs (drop n piece) count what after) (m ∙ ap (λ (xs : List ℕ). before ++ xs) f)
    (subst (λ (xs : List ℕ). TakesOfHeader middle xs count what after) b h)))

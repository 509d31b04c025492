-- Pieces, one behind the other.
use Rattle.std.proofs.Common.{◌≡◌, ◌∙◌, ◌≤◌, ◌<◌, ℕ, ◌+◌, ◌-◌, ◌&&◌, not, Bool, true, false, nat_lt, List, [], ◌∷◌, ◌++◌, length, take, drop, get_or, refl, sym, ap, arith}
use Rattle.std.specs.Prelude.{map}
use Rattle.std.proofs.lemmas.Bool.{lt-ltb, ltb-false, ltb-true}
use Rattle.std.proofs.lemmas.List.{drop_all, drop_more, length-drop, map-append, take_all, take_more}
use Rattle.tds_judge.specs.declared.finding.Finding.{Finding}
use Rattle.tds_judge.specs.Framing.{Run}
use Rattle.tds_judge_c.specs.declared.plain.TdsJudgeFinding.{TdsJudgeFinding}
use Rattle.tds_judge_c.specs.declared.plain.TdsJudgePiece.{TdsJudgePiece}
use Rattle.tds_judge_c.specs.Judged.{fits, heard, heard_all, shown}

-- ---- Whether they fit

fits_next : (pieces : List TdsJudgePiece) (i left : ℕ) (d : TdsJudgePiece) → i < length pieces
    → fits (drop i pieces) left ≡ not (nat_lt left (get_or pieces i d).length) && fits (drop (i + 1) pieces) (left - (get_or pieces i d).length)
unfolding fits
fits_next pieces i left d h = rw (drop_more pieces i d h) refl

pub fits_not : (pieces : List TdsJudgePiece) (i left : ℕ) (d : TdsJudgePiece) (all : Bool) → i < length pieces → fits (drop i pieces) left ≡ all
    → left < (get_or pieces i d).length → false ≡ all
fits_not pieces i left d all h e more =
    let lt : nat_lt left (get_or pieces i d).length ≡ true = lt-ltb left (get_or pieces i d).length more in
    sym (fits_next pieces i left d h ∙ ap (λ (b : Bool). not b && fits (drop (i + 1) pieces) (left - (get_or pieces i d).length)) lt) ∙ e

both : (b c : Bool) → not b && c ≡ true → (b ≡ false) × (c ≡ true)
both true c e = absurd cc
both false c e = (refl, e)

pub fits_so : (pieces : List TdsJudgePiece) (i left : ℕ) (d : TdsJudgePiece) → i < length pieces → fits (drop i pieces) left ≡ true
    → ((get_or pieces i d).length ≤ left) × (fits (drop (i + 1) pieces) (left - (get_or pieces i d).length) ≡ true)
fits_so pieces i left d h e =
    let (few, rest) = both (nat_lt left (get_or pieces i d).length) (fits (drop (i + 1) pieces) (left - (get_or pieces i d).length)) (sym (fits_next pieces i left d h) ∙ e) in
    (ltb-false left (get_or pieces i d).length few, rest)

fits_off : (left size : ℕ) → size ≤ left → (b : Bool) → nat_lt left size ≡ b → b ≡ false
fits_off left size few true e = absurd (omega (arith, few, ltb-true left size e))
fits_off left size few false e = refl

pub fits_on : (pieces : List TdsJudgePiece) (i left : ℕ) (d : TdsJudgePiece) (all : Bool) → i < length pieces → fits (drop i pieces) left ≡ all
    → (get_or pieces i d).length ≤ left → fits (drop (i + 1) pieces) (left - (get_or pieces i d).length) ≡ all
fits_on pieces i left d all h e few =
    let not_more : nat_lt left (get_or pieces i d).length ≡ false = fits_off left (get_or pieces i d).length few (nat_lt left (get_or pieces i d).length) refl in
    sym (ap (λ (b : Bool). not b && fits (drop (i + 1) pieces) (left - (get_or pieces i d).length)) not_more) ∙ (sym (fits_next pieces i left d h) ∙ e)

pub fits_end : (pieces : List TdsJudgePiece) (i left : ℕ) (all : Bool) → length pieces ≤ i → fits (drop i pieces) left ≡ all → true ≡ all
unfolding fits
fits_end pieces i left all h e = sym (ap (λ (ps : List TdsJudgePiece). fits ps left) (drop_all i pieces h)) ∙ e

pub fits_behind : (pieces : List TdsJudgePiece) (i : ℕ) (rest later : List ℕ) (d : TdsJudgePiece) → i < length pieces → later ≡ drop (get_or pieces i d).length rest
    → fits (drop i pieces) (length rest) ≡ true → fits (drop (i + 1) pieces) (length later) ≡ true
fits_behind pieces i rest later d h back e =
    let n : length later ≡ length rest - (get_or pieces i d).length = ap length back ∙ length-drop (get_or pieces i d).length rest in
    ap (fits (drop (i + 1) pieces)) n ∙ (fits_so pieces i (length rest) d h e).1

-- ---- What they do

heard_next : (pieces : List TdsJudgePiece) (i : ℕ) (rest : List ℕ) (run : Run) (d : TdsJudgePiece) → i < length pieces
    → heard_all (drop i pieces) rest run ≡ heard_all (drop (i + 1) pieces) (drop (get_or pieces i d).length rest) (heard (get_or pieces i d) (take (get_or pieces i d).length rest) run)
unfolding heard_all
heard_next pieces i rest run d h = rw (drop_more pieces i d h) refl

pub heard_on : (pieces : List TdsJudgePiece) (i : ℕ) (rest here later : List ℕ) (before after end : Run) (d : TdsJudgePiece) → i < length pieces
    → here ≡ take (get_or pieces i d).length rest → later ≡ drop (get_or pieces i d).length rest → after ≡ heard (get_or pieces i d) here before
    → heard_all (drop i pieces) rest before ≡ end → heard_all (drop (i + 1) pieces) later after ≡ end
heard_on pieces i rest here later before after end d h front back does so =
    ap (λ (ys : List ℕ). heard_all (drop (i + 1) pieces) ys after) back
    ∙ (ap (heard_all (drop (i + 1) pieces) (drop (get_or pieces i d).length rest)) (does ∙ ap (λ (ys : List ℕ). heard (get_or pieces i d) ys before) front)
    ∙ (sym (heard_next pieces i rest before d h) ∙ so))

pub heard_end : (pieces : List TdsJudgePiece) (i : ℕ) (rest : List ℕ) (run end : Run) → length pieces ≤ i → heard_all (drop i pieces) rest run ≡ end → run ≡ end
unfolding heard_all
heard_end pieces i rest run end h e = sym (ap (λ (ps : List TdsJudgePiece). heard_all ps rest run) (drop_all i pieces h)) ∙ e

-- ---- Findings

pub shown_on : (found : List Finding) (i : ℕ) (d : Finding) (before after : List TdsJudgeFinding) → i < length found → before ≡ map shown (take i found)
    → after ≡ before ++ shown (get_or found i d) ∷ [] → after ≡ map shown (take (i + 1) found)
shown_on found i d before after h e f =
    f ∙ (ap (λ (xs : List TdsJudgeFinding). xs ++ shown (get_or found i d) ∷ []) e
    ∙ (sym (map-append shown (take i found) (get_or found i d ∷ [])) ∙ ap (map shown) (sym (take_more found i d h))))

pub shown_end : (found : List Finding) (i : ℕ) (all : List TdsJudgeFinding) → length found ≤ i → all ≡ map shown (take i found) → all ≡ map shown found
shown_end found i all h e = e ∙ ap (map shown) (take_all i found h)

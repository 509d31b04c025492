-- A call of `feed`, by what its cursor answers.
use Rattle.std.proofs.Common.{◌≡◌, ◌∙◌, ◌≤◌, ℕ, ◌+◌, ◌-◌, List, [], ◌++◌, length, take, drop, get_or, Option, Some, None, refl, sym, ap, arith}
use Rattle.std.specs.Prelude.{min}
use Rattle.std.proofs.lemmas.List.{length-drop, length-take-le}
use Rattle.tds_wire.specs.declared.fault.Refusal.{Refusal}
use Rattle.tds_wire.specs.declared.fault.WireFault.{WireFault}
use Rattle.tds_wire.specs.declared.told.Token.{Token}
use Rattle.tds_wire.specs.declared.due.Due.{Due}
use Rattle.tds_wire.specs.declared.due.Due.TheVariants as due
use Rattle.tds_wire.specs.declared.due.Standing.TheVariants.{Between}
use Rattle.tds_wire.specs.Walking.{Walk, with_kind}
use Rattle.tds_wire.specs.Bytes.{Over, Within, Failed, onward, standing}
use Rattle.tds_wire.specs.Reading.{IsReady, Parser, Sees, Inside, Refuses, behind, found_by, found_on, front_of, inside, next_token, refusal_at, token_with}
use Rattle.tds_wire.specs.Told.{added, told_of}
use Rattle.tds_wire.specs.Whole.{IsWhole, behind_whole}

pub between_is : (d : Due) → standing d ≡ Between → d ≡ due.Token
between_is due.Token e = refl
between_is (due.Number f left value) e = absurd cc
between_is (due.Run left next) e = absurd cc
between_is (due.Broken fault) e = absurd cc

pub sees_same : (t u : Token) (r s : Parser) (rest : List ℕ) → t ≡ u → r ≡ s → Sees t r rest ≡ Sees u s rest
sees_same t u r s rest e f = cc

pub inside_same : (w : Walk) (head kept : List ℕ) (start passed count : ℕ) (refused : Option Refusal) → head ≡ kept → passed ≡ count → refused ≡ None
    → Inside (record { walk = w; head = head; start = start; passed = passed; refused = refused }) ≡ Inside (record { walk = w; head = kept; start = start; passed = count; refused = None })
inside_same w head kept start passed count refused h p n = cc

module _ (r : Parser) (piece : List ℕ) where
  pub feeds_refusal : (refusal : Refusal) → r.refused ≡ Some refusal → Refuses refusal ≡ next_token r piece
  unfolding next_token
  feeds_refusal refusal e = sym (ap (λ (o : Option Refusal). found_on o r piece) e)

  found_so : r.refused ≡ None → found_by r piece (onward r.walk piece) ≡ next_token r piece
  unfolding next_token
  found_so e = sym (ap (λ (o : Option Refusal). found_on o r piece) e)

  front_is : (count : ℕ) → count ≤ length piece → front_of piece (drop count piece) ≡ take count piece
  front_is count few =
      let l : length (drop count piece) ≡ length piece - count = length-drop count piece in
      let e : length piece - length (drop count piece) ≡ count = omega (arith, l, few) in
      ap (λ (n : ℕ). take n piece) e

  pub feeds_over : (w : Walk) (count : ℕ) → r.refused ≡ None → count ≤ length piece → Over w (drop count piece) ≡ onward r.walk piece
      → Sees (token_with r w.at.kind (take count piece)) (behind r w (take count piece)) (drop count piece) ≡ next_token r piece
  feeds_over w count e few does =
      ap (λ (last : List ℕ). Sees (token_with r w.at.kind last) (behind r w last) (drop count piece)) (sym (front_is count few))
      ∙ (ap (found_by r piece) does ∙ found_so e)

  pub feeds_inside : (w : Walk) → r.refused ≡ None → Within w ≡ onward r.walk piece → Inside (inside r w piece) ≡ next_token r piece
  feeds_inside w e does = ap (found_by r piece) does ∙ found_so e

  pub feeds_fault : (fault : WireFault) (count : ℕ) → r.refused ≡ None → count ≤ length piece → Failed fault (drop count piece) ≡ onward r.walk piece
      → Refuses (refusal_at r fault (take count piece)) ≡ next_token r piece
  feeds_fault fault count e few does =
      ap (λ (last : List ℕ). Refuses (refusal_at r fault last)) (sym (front_is count few)) ∙ (ap (found_by r piece) does ∙ found_so e)

-- a token that is whole in a piece, where nothing of it was passed before
token_is : (kind start passed n : ℕ) (head last first : List ℕ) → passed ≡ 0 → head ≡ [] → n ≡ added 0 (length last) → first ≡ take 24 last
    → (let t : Token = record { kind = kind; start = start; length = n; told = told_of kind start n first } in t)
    ≡ record { kind = kind; start = start; length = added passed (length last); told = told_of kind start (added passed (length last)) (take 24 (head ++ last)) }
token_is kind start passed n head last first p h e f =
    let size : n ≡ added passed (length last) = e ∙ sym (ap (λ (k : ℕ). added k (length last)) p) in
    let front : first ≡ take 24 (head ++ last) = f ∙ sym (ap (λ (xs : List ℕ). take 24 (xs ++ last)) h) in
    cc

behind_is : (r : Parser) (piece : List ℕ) (count : ℕ) → IsReady r → count ≤ length piece
    → behind_whole r piece count ≡ behind r (with_kind r.walk (get_or piece 0 0)) (take count piece)
behind_is r piece count ready few =
    let l : length (take count piece) ≡ count = length-take-le count piece few in
    let e : min 18446744073709551615 (r.start + count) ≡ min 18446744073709551615 (r.start + min 18446744073709551615 (r.passed + length (take count piece))) = omega (arith, l, ready.passed) in
    ap (λ (n : ℕ). record { walk = with_kind r.walk (get_or piece 0 0); head = []; start = n; passed = 0; refused = None }) e

pub takes_whole : (r : Parser) (piece : List ℕ) (count n : ℕ) (first : List ℕ) → IsReady r → count ≤ length piece → IsWhole count piece
    → n ≡ added 0 (length (take count piece)) → first ≡ take 24 (take count piece)
    → Sees (record { kind = get_or piece 0 0; start = r.start; length = n; told = told_of (get_or piece 0 0) r.start n first }) (behind_whole r piece count) (drop count piece) ≡ next_token r piece
takes_whole r piece count n first ready few whole e f =
    let w = with_kind r.walk (get_or piece 0 0) in
    sees_same _ _ _ _ (drop count piece) (token_is w.at.kind r.start r.passed n r.head (take count piece) first ready.passed ready.head e f)
    (behind_is r piece count ready few)
    ∙ feeds_over r piece w count ready.whole few (sym (whole r.walk ready.walk.due))

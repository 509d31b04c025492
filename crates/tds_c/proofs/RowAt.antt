-- The row at a cursor, as its token.
use Rattle.std.proofs.Common.{◌≡◌, ◌∙◌, ◌≤◌, ◌<◌, ◌+◌, ◌*◌, ◌-◌, ℕ, suc, false, ltb, List, ◌∷◌, length, take, drop, get_or, Some, Ok, refl, ap, subst, arith}
use Rattle.std.proofs.Math.Seq.{drop-cons}
use Rattle.std.proofs.lemmas.Bool.{le-ltb}
use Rattle.std.proofs.lemmas.List.{length-drop}
use Rattle.tds_token.specs.declared.token.Token.{Token}
use Rattle.tds_token.specs.declared.token.Token.TheVariants as tokens
use Rattle.tds_token.specs.Layout.{spelling}
use Rattle.tds_token.specs.Reading.{token_at, token_behind, row_at}
use Rattle.tds_token.specs.Texts.{IsBytes, ints_of}
use Rattle.tds_token.proofs.Fields.{IsBytes-drop}
use Rattle.tds_token.proofs.Whole.{token_takes}
use Rattle.tds_c.specs.Plain.{columns_from}
use Rattle.tds_c.specs.declared.tokens.TdsCursor.{TdsCursor}
use Rattle.tds_c.specs.declared.tokens.TdsToken.{TdsToken}
use Rattle.tds_c.specs.Tokens.{Begins, Reads, ReadsToken}

row_is_read : (n : ℕ) (behind : List ℕ) → 4 * n ≤ length behind → token_at (Some n) (0xD1 ∷ behind) ≡ Ok (tokens.Row (ints_of (take (4 * n) behind)), drop (4 * n) behind)
unfolding token_at token_behind row_at
row_is_read n behind long =
    let whole : ltb (length behind) (4 * n) ≡ false = le-ltb _ _ long in
    rw whole refl

known_from : (n : ℕ) → 1 ≤ n → n ≤ 16 → columns_from n ≡ Some (Some n)
unfolding columns_from
known_from n least most = search arith

-- its token byte is there, and all its values
pub row_reads : (content : List ℕ) (old new : TdsCursor) (t : TdsToken) → IsBytes content → 1 ≤ old.columns → old.columns ≤ 16 → old.at + (1 + 4 * old.columns) ≤ length content
    → get_or content old.at 0 ≡ 0xD1 → Begins t 0xD1 old.at → t.value ≡ old.columns → new.at ≡ old.at + (1 + 4 * old.columns) → new.columns ≡ old.columns → Reads content old new (Ok (Some t))
row_reads content old new t fits least most room is begins value at columns =
    let behind : List ℕ = drop (suc old.at) content in
    let row : Token = tokens.Row (ints_of (take (4 * old.columns) behind)) in
    let left : List ℕ = drop (4 * old.columns) behind in
    let front : drop old.at content ≡ 0xD1 ∷ behind = drop-cons content old.at 0 (omega (arith, room)) ∙ ap (λ (kind : ℕ). kind ∷ behind) is in
    let behind_length = length-drop (suc old.at) content in
    let left_length = length-drop (4 * old.columns) behind in
    let long : 4 * old.columns ≤ length behind = omega (arith, behind_length, room) in
    let taken = token_takes (Some old.columns) (0xD1 ∷ behind) (row, left) (least, most) (subst IsBytes front (IsBytes-drop old.at content fits)) (row_is_read old.columns behind long) in
    let stands : new.at ≡ length content - length left = omega (arith, behind_length, left_length, room, at) in
    let read : ReadsToken content old new t (Some old.columns) =
    (row, spelling row, left, Some old.columns, front ∙ taken.0, record { spelled = refl; fits = taken.1.fits; ranged = taken.1.ranged; under = taken.1.under; after_is = refl }, (begins, value), (stands, columns)) in
    rw (known_from old.columns least most) read

-- where so many rows have room, one has, and so have the others behind it
pub room_for : (at size left long : ℕ) → 0 < left → at + left * size ≤ long → (at + size) + (left - 1) * size ≤ long
room_for at size left long some fits =
    let others : ℕ = left - 1 in
    let one : left ≡ suc others = omega (arith, some) in
    omega (arith, subst (λ (n : ℕ). at + n * size ≤ long) one fits)

-- Tokens that are known by their bytes: each is the next one to a walk between two tokens.
use Rattle.std.proofs.Common.{◌≡◌, ◌∙◌, ◌≤◌, ◌<◌, ℕ, zero, suc, ◌+◌, ◌-◌, ◌*◌, ◌/◌, ◌%◌, ◌==◌, nat_lt, min, true, false, List, [], ◌∷◌, ◌++◌, length, take, drop, get_or, Some, None, ℤ, refl, sym, ap, subst, arith, rules}
use Rattle.std.proofs.lemmas.Bool.{lt-ltb}
use Rattle.std.proofs.lemmas.List.{length-drop, length-take-le}
use Rattle.std.specs.Int.{w16, w32, w64, from_le_bytes, cast_signed}
use Rattle.tds_wire.specs.declared.due.Due.{Due}
use Rattle.tds_wire.specs.declared.due.Due.TheVariants.{Token as IsDue, Number}
use Rattle.tds_wire.specs.declared.due.Field.TheVariants as field
use Rattle.tds_wire.specs.declared.due.Next.TheVariants.{Ended}
use Rattle.tds_wire.specs.declared.due.TokenField.TheVariants as in_token
use Rattle.tds_wire.specs.declared.told.ChangeValue.TheVariants as changes
use Rattle.tds_wire.specs.declared.told.Told.{Told}
use Rattle.tds_wire.specs.declared.told.Told.TheVariants as told
use Rattle.tds_wire.specs.declared.told.Token.{Token}
use Rattle.tds_wire.specs.Bytes.{Over, onward, walk_step, to_end}
use Rattle.tds_wire.specs.Layout.{is_done}
use Rattle.tds_wire.specs.Reading.{IsReady, Parser, Sees, behind, found_by, found_on, front_of, next_token, token_with}
use Rattle.tds_wire.specs.Told.{added, change_value, long_at, short_at, told_of, wide_at}
use Rattle.tds_wire.specs.Walking.{Walk, begun, ended, pass, with_due, with_kind, with_number, with_run}
use Rattle.tds_wire.specs.Whole.{IsNext, IsWhole, behind_whole}

-- ---- Bytes up to a token's end

between : (w : Walk) (bytes : List ℕ) → to_end (ended w) bytes ≡ Over (ended w) bytes
unfolding to_end
between w [] = refl
between w (b ∷ bytes) = refl

run_over : (n : ℕ) (w : Walk) (bytes : List ℕ) → suc n ≤ length bytes → to_end (with_run w (suc n) Ended) bytes ≡ Over (ended w) (drop (suc n) bytes)
unfolding to_end walk_step
run_over n w [] h = absurd (omega (arith, h))
run_over zero w (b ∷ bytes) h = between w bytes
run_over (suc n) w (b ∷ bytes) h =
    let t : nat_lt 1 (suc (suc n)) ≡ true = lt-ltb 1 (suc (suc n)) (omega arith) in
    let m : suc (suc n) - 1 ≡ suc n = omega arith in
    rw t (rw m (run_over n w bytes (omega (arith, h))))

begins : (w : Walk) (b : ℕ) (bytes : List ℕ) → w.at.due ≡ IsDue → onward w (b ∷ bytes) ≡ to_end (begun (with_kind w b) b) bytes
unfolding onward walk_step
begins w b bytes d = rw d refl

kept_due : (w : Walk) (b : ℕ) (rest : List ℕ) → w.at.due ≡ IsDue → Over (ended (with_kind w b)) rest ≡ Over (with_kind w b) rest
kept_due w b rest d = ap (λ (x : Due). Over (with_due (with_kind w b) x) rest) (sym d)

-- of this many bytes behind its first one
pub fixed : (n : ℕ) (b : ℕ) (bytes : List ℕ) → suc n ≤ length bytes → ((w : Walk) → begun w b ≡ with_run w (suc n) Ended) → IsWhole (suc (suc n)) (b ∷ bytes)
fixed n b bytes few does = λ w d.
    begins w b bytes d
    ∙ (ap (λ (x : Walk). to_end x bytes) (does (with_kind w b)) ∙ (run_over n (with_kind w b) bytes few ∙ kept_due w b (drop (suc n) bytes) d))

pub status_begun : (w : Walk) → begun w 0x79 ≡ with_run w 4 Ended
unfolding begun
status_begun w = refl

-- the number that two bytes spell
abbrev spelled : ℕ → ℕ → ℕ
spelled a b = (0 / 256 + 256 * a) / 256 + 256 * b

change_begun : (w : Walk) → begun w 0xE3 ≡ with_number w (field.Token in_token.ChangeLength)
unfolding begun
change_begun w = refl

change_over : (w : Walk) (a b c : ℕ) (bytes : List ℕ) → (spelled a b % 65536 == 0) ≡ false → (c == 15) ≡ false → spelled a b % 65536 - 1 ≡ 2 → 2 ≤ length bytes
    → to_end (with_number w (field.Token in_token.ChangeLength)) (a ∷ b ∷ c ∷ bytes) ≡ Over (ended w) (drop 2 bytes)
unfolding to_end walk_step pass
change_over w a b c bytes z t k h = rw z (rw t (rw k (run_over 1 (with_due w (Number (field.Token (in_token.Change 2)) 1 0)) bytes h)))

pub reset_whole : (rest : List ℕ) → IsWhole 6 (0xE3 ∷ 3 ∷ 0 ∷ 18 ∷ 0 ∷ 0 ∷ rest)
reset_whole rest = λ w d.
    begins w 0xE3 (3 ∷ 0 ∷ 18 ∷ 0 ∷ 0 ∷ rest) d
    ∙ (ap (λ (x : Walk). to_end x (3 ∷ 0 ∷ 18 ∷ 0 ∷ 0 ∷ rest)) (change_begun (with_kind w 0xE3))
    ∙ (change_over (with_kind w 0xE3) 3 0 18 (0 ∷ 0 ∷ rest) refl refl refl (omega arith) ∙ kept_due w 0xE3 rest d))

-- ---- What is told there

pub done_told : (k start a b c d e f g h i j l m : ℕ) (rest : List ℕ) → is_done k ≡ true
    → told_of k start 13 (take 24 (take 13 (k ∷ a ∷ b ∷ c ∷ d ∷ e ∷ f ∷ g ∷ h ∷ i ∷ j ∷ l ∷ m ∷ rest)))
    ≡ told.Done (record { status = from_le_bytes w16 (a ∷ b ∷ []); command = from_le_bytes w16 (c ∷ d ∷ []); count = from_le_bytes w64 (e ∷ f ∷ g ∷ h ∷ i ∷ j ∷ l ∷ m ∷ []) })
unfolding told_of short_at wide_at
done_told k start a b c d e f g h i j l m rest is = rw is refl

pub status_told : (start a b c d : ℕ) (rest : List ℕ)
    → told_of 0x79 start 5 (take 24 (take 5 (0x79 ∷ a ∷ b ∷ c ∷ d ∷ rest))) ≡ told.ReturnStatus (cast_signed w32 (from_le_bytes w32 (a ∷ b ∷ c ∷ d ∷ [])))
unfolding told_of long_at
status_told start a b c d rest = refl

pub reset_told : (start : ℕ) (rest : List ℕ) → told_of 0xE3 start 6 (take 24 (take 6 (0xE3 ∷ 3 ∷ 0 ∷ 18 ∷ 0 ∷ 0 ∷ rest))) ≡ told.Change (record { kind = 18; value = changes.ResetDone })
unfolding told_of change_value
reset_told start rest = refl

-- ---- The next token

module _ (r : Parser) (piece : List ℕ) (n : ℕ) (few : n ≤ length piece) where
  front_is : front_of piece (drop n piece) ≡ take n piece
  front_is =
      let e : length piece - length (drop n piece) ≡ n = omega (arith, length-drop n piece, few) in
      ap (λ (k : ℕ). take k piece) e

  seen : (w : Walk) → r.refused ≡ None → onward r.walk piece ≡ Over w (drop n piece)
      → next_token r piece ≡ Sees (token_with r w.at.kind (take n piece)) (behind r w (take n piece)) (drop n piece)
  unfolding next_token
  seen w whole leads =
      ap (λ o. found_on o r piece) whole
      ∙ (ap (found_by r piece) leads
      ∙ ap (λ (last : List ℕ). Sees (token_with r w.at.kind last) (behind r w last) (drop n piece)) front_is)

abbrev pub token_of : ℕ → ℕ → List ℕ → Token
token_of start n piece = record { kind = get_or piece 0 0; start = start; length = n; told = told_of (get_or piece 0 0) start n (take 24 (take n piece)) }

same : (t u : Token) (r s : Parser) (rest : List ℕ) → t ≡ u → r ≡ s → Sees t r rest ≡ Sees u s rest
same t u r s rest e f = cc

token_is : (kind start from passed n : ℕ) (head last : List ℕ) → start ≡ from → passed ≡ 0 → head ≡ [] → n ≡ added 0 (length last)
    → (let t : Token = record { kind = kind; start = start; length = added passed (length last); told = told_of kind start (added passed (length last)) (take 24 (head ++ last)) } in t)
    ≡ record { kind = kind; start = from; length = n; told = told_of kind from n (take 24 last) }
token_is kind start from passed n head last s p h e = rw (s, p, h, e) refl

pub is_next : (start n : ℕ) (piece : List ℕ) → n ≤ length piece → n ≤ 18446744073709551615 → IsWhole n piece → IsNext start n (Some (token_of start n piece)) piece
is_next start n piece few small whole = λ r ready s.
    let w = with_kind r.walk (get_or piece 0 0) in
    let l : length (take n piece) ≡ n = length-take-le n piece few in
    let long : n ≡ min 18446744073709551615 (0 + length (take n piece)) = omega (arith, l, small) in
    let e : min 18446744073709551615 (r.start + min 18446744073709551615 (r.passed + length (take n piece))) ≡ min 18446744073709551615 (r.start + n) = omega (arith, l, ready.passed, small) in
    sym (seen r piece n few w ready.whole (whole r.walk ready.walk.due)
    ∙ same _ _ _ _ (drop n piece) (token_is w.at.kind r.start start r.passed n r.head (take n piece) s ready.passed ready.head long)
    (ap (λ (k : ℕ). let x : Parser = record { walk = w; head = []; start = k; passed = 0; refused = None } in x) e))

-- ---- Each of them

pub done_next : (start : ℕ) (piece : List ℕ) (status command count : ℕ) → 13 ≤ length piece → ((w : Walk) → begun w (get_or piece 0 0) ≡ with_run w 12 Ended) → is_done (get_or piece 0 0) ≡ true
    → status ≡ from_le_bytes w16 (get_or piece 1 0 ∷ get_or piece 2 0 ∷ []) → command ≡ from_le_bytes w16 (get_or piece 3 0 ∷ get_or piece 4 0 ∷ [])
    → count ≡ from_le_bytes w64 (get_or piece 5 0 ∷ get_or piece 6 0 ∷ get_or piece 7 0 ∷ get_or piece 8 0 ∷ get_or piece 9 0 ∷ get_or piece 10 0 ∷ get_or piece 11 0 ∷ get_or piece 12 0 ∷ [])
    → IsNext start 13 (Some (record { kind = get_or piece 0 0; start = start; length = 13; told = told.Done (record { status = status; command = command; count = count }) })) piece
done_next start [] status command count few does is x y z = absurd (omega (arith, few))
done_next start (k ∷ []) status command count few does is x y z = absurd (omega (arith, few))
done_next start (k ∷ a ∷ []) status command count few does is x y z = absurd (omega (arith, few))
done_next start (k ∷ a ∷ b ∷ []) status command count few does is x y z = absurd (omega (arith, few))
done_next start (k ∷ a ∷ b ∷ c ∷ []) status command count few does is x y z = absurd (omega (arith, few))
done_next start (k ∷ a ∷ b ∷ c ∷ d ∷ []) status command count few does is x y z = absurd (omega (arith, few))
done_next start (k ∷ a ∷ b ∷ c ∷ d ∷ e ∷ []) status command count few does is x y z = absurd (omega (arith, few))
done_next start (k ∷ a ∷ b ∷ c ∷ d ∷ e ∷ f ∷ []) status command count few does is x y z = absurd (omega (arith, few))
done_next start (k ∷ a ∷ b ∷ c ∷ d ∷ e ∷ f ∷ g ∷ []) status command count few does is x y z = absurd (omega (arith, few))
done_next start (k ∷ a ∷ b ∷ c ∷ d ∷ e ∷ f ∷ g ∷ h ∷ []) status command count few does is x y z = absurd (omega (arith, few))
done_next start (k ∷ a ∷ b ∷ c ∷ d ∷ e ∷ f ∷ g ∷ h ∷ i ∷ []) status command count few does is x y z = absurd (omega (arith, few))
done_next start (k ∷ a ∷ b ∷ c ∷ d ∷ e ∷ f ∷ g ∷ h ∷ i ∷ j ∷ []) status command count few does is x y z = absurd (omega (arith, few))
done_next start (k ∷ a ∷ b ∷ c ∷ d ∷ e ∷ f ∷ g ∷ h ∷ i ∷ j ∷ l ∷ []) status command count few does is x y z = absurd (omega (arith, few))
done_next start (k ∷ a ∷ b ∷ c ∷ d ∷ e ∷ f ∷ g ∷ h ∷ i ∷ j ∷ l ∷ m ∷ rest) status command count few does is x y z =
    rw (x, y, z) (subst (λ (t : Told). IsNext start 13 (Some (record { kind = k; start = start; length = 13; told = t })) (k ∷ a ∷ b ∷ c ∷ d ∷ e ∷ f ∷ g ∷ h ∷ i ∷ j ∷ l ∷ m ∷ rest))
    (done_told k start a b c d e f g h i j l m rest is)
    (is_next start 13 (k ∷ a ∷ b ∷ c ∷ d ∷ e ∷ f ∷ g ∷ h ∷ i ∷ j ∷ l ∷ m ∷ rest) few (omega arith) (fixed 11 k (a ∷ b ∷ c ∷ d ∷ e ∷ f ∷ g ∷ h ∷ i ∷ j ∷ l ∷ m ∷ rest) (omega (arith, few)) does)))

pub status_next : (start : ℕ) (piece : List ℕ) (value : ℤ) → 5 ≤ length piece → get_or piece 0 0 ≡ 0x79
    → value ≡ cast_signed w32 (from_le_bytes w32 (get_or piece 1 0 ∷ get_or piece 2 0 ∷ get_or piece 3 0 ∷ get_or piece 4 0 ∷ []))
    → IsNext start 5 (Some (record { kind = 0x79; start = start; length = 5; told = told.ReturnStatus value })) piece
status_next start [] value few is x = absurd (omega (arith, few))
status_next start (k ∷ []) value few is x = absurd (omega (arith, few))
status_next start (k ∷ a ∷ []) value few is x = absurd (omega (arith, few))
status_next start (k ∷ a ∷ b ∷ []) value few is x = absurd (omega (arith, few))
status_next start (k ∷ a ∷ b ∷ c ∷ []) value few is x = absurd (omega (arith, few))
status_next start (k ∷ a ∷ b ∷ c ∷ d ∷ rest) value few is x =
    rw (is, x) (subst (λ (t : Told). IsNext start 5 (Some (record { kind = 0x79; start = start; length = 5; told = t })) (0x79 ∷ a ∷ b ∷ c ∷ d ∷ rest))
    (status_told start a b c d rest)
    (is_next start 5 (0x79 ∷ a ∷ b ∷ c ∷ d ∷ rest) few (omega arith) (fixed 3 0x79 (a ∷ b ∷ c ∷ d ∷ rest) (omega (arith, few)) status_begun)))

pub reset_next : (start : ℕ) (piece : List ℕ) → 6 ≤ length piece → get_or piece 0 0 ≡ 0xE3 → get_or piece 1 0 ≡ 3 → get_or piece 2 0 ≡ 0 → get_or piece 3 0 ≡ 18 → get_or piece 4 0 ≡ 0 → get_or piece 5 0 ≡ 0
    → IsNext start 6 (Some (record { kind = 0xE3; start = start; length = 6; told = told.Change (record { kind = 18; value = changes.ResetDone }) })) piece
reset_next start [] few p q r s t u = absurd (omega (arith, few))
reset_next start (k ∷ []) few p q r s t u = absurd (omega (arith, few))
reset_next start (k ∷ a ∷ []) few p q r s t u = absurd (omega (arith, few))
reset_next start (k ∷ a ∷ b ∷ []) few p q r s t u = absurd (omega (arith, few))
reset_next start (k ∷ a ∷ b ∷ c ∷ []) few p q r s t u = absurd (omega (arith, few))
reset_next start (k ∷ a ∷ b ∷ c ∷ d ∷ []) few p q r s t u = absurd (omega (arith, few))
reset_next start (k ∷ a ∷ b ∷ c ∷ d ∷ e ∷ rest) few p q r s t u =
    rw (p, q, r, s, t, u) (subst (λ (t : Told). IsNext start 6 (Some (record { kind = 0xE3; start = start; length = 6; told = t })) (0xE3 ∷ 3 ∷ 0 ∷ 18 ∷ 0 ∷ 0 ∷ rest))
    (reset_told start rest) (is_next start 6 (0xE3 ∷ 3 ∷ 0 ∷ 18 ∷ 0 ∷ 0 ∷ rest) few (omega arith) (reset_whole rest)))

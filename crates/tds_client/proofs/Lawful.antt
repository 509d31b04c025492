-- The status of a DONE that is read: bit 0020 never stands with bit 0001, so what acknowledges is final.
use Rattle.std.proofs.Common.{◌≡◌, ◌≢◌, ◌∙◌, ◌≤◌, ◌==◌, ◌&&◌, not, ℕ, zero, suc, Bool, true, false, cond, List, [], ◌∷◌, length, Option, Some, None, refl, subst, arith}
use Rattle.std.proofs.lemmas.Bool.{eqb-true, eqb-false, eq-eqb}
use Rattle.std.proofs.lemmas.Nat.{and_assoc, and_le_l, and_le_r}
use Rattle.std.specs.Int.{w16, w64}
use Rattle.std.specs.Prelude.{Result, Ok, Err, bit_and}
use Rattle.tds_token.specs.declared.fault.TokenFault.{TokenFault}
use Rattle.tds_token.specs.declared.fault.TokenFault.TheVariants.{Cut}
use Rattle.tds_token.specs.declared.token.Token.{Token}
use Rattle.tds_token.specs.declared.token.Token.TheVariants as tokens
use Rattle.tds_token.specs.Contents.{Contents, contents_by, contents_within}
use Rattle.tds_token.specs.Layout.{is_done_status}
use Rattle.tds_token.specs.Reading as reading
use Rattle.tds_token.specs.Reading.{◌>>=◌, token_at, token_behind, done_at}
use Rattle.tds_packet.specs.Layout.{has_bit}

-- ---- A DONE that acknowledges is final

both_by : (x : ℕ) (b : Bool) → x ≤ 33 → 32 ≤ x → bit_and x 1 ≡ 1 → (x == 32) ≡ b → x ≡ 33
both_by x true most least odd e =
    let is : x ≡ 32 = eqb-true x 32 e in
    let no : 0 ≡ 1 = subst (λ (y : ℕ). bit_and y 1 ≡ 1) is odd in
    absurd (omega (arith, no))
both_by x false most least odd e = let other : x ≢ 32 = eqb-false x 32 e in omega (arith, other)

module _ (status : ℕ) (a : bit_and status 0x20 ≡ 0x20) (m : bit_and status 1 ≡ 1) where
  both_set : bit_and status 0x21 ≡ 0x21
  both_set =
      let x = bit_and status 0x21 in
      let high : bit_and x 0x20 ≡ 0x20 = and_assoc 0x20 status 0x21 ∙ a in
      let odd : bit_and x 1 ≡ 1 = and_assoc 1 status 0x21 ∙ m in
      let most : x ≤ 0x21 = and_le_r status 0x21 in
      let least : bit_and x 0x20 ≤ x = and_le_l x 0x20 in
      both_by x (x == 32) most (omega (arith, high, least)) odd refl

abbrev pub LawfulDone : ℕ → Type 0
LawfulDone status = has_bit status 0x20 ≡ true → has_bit status 1 ≡ false

-- a status that is read is lawful
not_both : (first second : Bool) → (first && not second) ≡ true → second ≡ false
not_both true false e = refl
not_both true true e = absurd cc
not_both false second e = absurd cc

lawful_by : (status : ℕ) (more : Bool) → (bit_and status 0x21 == 0x21) ≡ false → has_bit status 0x20 ≡ true → has_bit status 1 ≡ more → more ≡ false
lawful_by status false unequal a m = refl
lawful_by status true unequal a m =
    let both : bit_and status 0x21 ≡ 0x21 = both_set status (eqb-true _ _ a) (eqb-true _ _ m) in
    let yes : (bit_and status 0x21 == 0x21) ≡ true = eq-eqb _ _ both in
    absurd cc

lawful : (status : ℕ) → is_done_status status ≡ true → LawfulDone status
unfolding is_done_status
lawful status e a = lawful_by status (has_bit status 1) (not_both (bit_and status 0xFEC8 == 0) (bit_and status 0x21 == 0x21) e) a refl

abbrev pub IsLawful : Token → Type 0
IsLawful (tokens.Info m) = Unit {0}
IsLawful (tokens.Error m) = Unit {0}
IsLawful (tokens.ReturnStatus v) = Unit {0}
IsLawful (tokens.Columns cs) = Unit {0}
IsLawful (tokens.Row vs) = Unit {0}
IsLawful (tokens.Env e) = Unit {0}
IsLawful (tokens.Done status cur_cmd rows) = LawfulDone status

abbrev pub AreLawful : List Token → Type 0
AreLawful [] = Unit {0}
AreLawful (t ∷ ts) = IsLawful t × AreLawful ts

-- ---- What is read is lawful

abbrev Read : Type 0
Read = Result (Token × List ℕ) TokenFault

abbrev ReadsLawful : Read → Type 0
ReadsLawful (Ok x) = IsLawful x.0
ReadsLawful (Err e) = Unit {0}

behind : {A : Type 0} (r : Result A TokenFault) (f : A → Read) → ((x : A) → ReadsLawful (f x)) → ReadsLawful (r >>= f)
behind (Ok x) f h = h x
behind (Err e) f h = tt

either : (b : Bool) (x y : Read) → ReadsLawful x → ReadsLawful y → ReadsLawful (cond b x y)
either true x y a c = a
either false x y a c = c

if_status : (status : ℕ) (b : Bool) (x y : Read) → is_done_status status ≡ b → (is_done_status status ≡ true → ReadsLawful x) → ReadsLawful y → ReadsLawful (cond b x y)
if_status status true x y e a c = a e
if_status status false x y e a c = c

reads_done : (bytes : List ℕ) → ReadsLawful (done_at bytes)
unfolding done_at
reads_done bytes = behind (reading.number_at Cut w16 bytes) _ (λ status.
    if_status status.0 (is_done_status status.0) _ _ refl
    (λ e. behind (reading.number_at Cut w16 status.1) _ (λ cur_cmd. behind (reading.number_at Cut w64 cur_cmd.1) _ (λ rows. lawful status.0 e))) tt)

reads_row : (columns : Option ℕ) (bytes : List ℕ) → ReadsLawful (reading.row_under columns bytes)
reads_row None bytes = tt
reads_row (Some n) bytes = behind (reading.row_at n bytes) _ (λ r. tt)

reads_token : (columns : Option ℕ) (kind : ℕ) (bytes : List ℕ) → ReadsLawful (token_behind columns kind bytes)
unfolding token_behind
reads_token columns kind bytes =
    either (kind == 0xAB) _ _ (behind (reading.message_at bytes) _ (λ m. tt))
    (either (kind == 0xAA) _ _ (behind (reading.message_at bytes) _ (λ m. tt))
    (either (kind == 0x79) _ _ (behind (reading.int_at Cut bytes) _ (λ v. tt))
    (either (kind == 0xE3) _ _ (behind (reading.env_at bytes) _ (λ e. tt))
    (either (kind == 0xFD) _ _ (reads_done bytes)
    (either (kind == 0x81) _ _ (behind (reading.column_list_at bytes) _ (λ c. tt))
    (either (kind == 0xD1) _ _ (reads_row columns bytes) tt))))))

reads : (columns : Option ℕ) (bytes : List ℕ) → ReadsLawful (token_at columns bytes)
unfolding token_at
reads columns bytes = behind (reading.byte_at Cut bytes) _ (λ kind. reads_token columns kind.0 kind.1)

by_read : (inner : Option ℕ → List ℕ → Contents) (columns : Option ℕ) (r : Read) → ReadsLawful r → ((columns : Option ℕ) (bytes : List ℕ) → AreLawful (inner columns bytes).tokens)
    → AreLawful (contents_by inner columns r).tokens
by_read inner columns (Ok x) h others = (h, others _ x.1)
by_read inner columns (Err e) h others = tt

nothing_or : (b : Bool) (x y : Contents) → AreLawful x.tokens → AreLawful y.tokens → AreLawful (cond b x y).tokens
nothing_or true x y a c = a
nothing_or false x y a c = c

pub within : (n : ℕ) (columns : Option ℕ) (bytes : List ℕ) → AreLawful (contents_within n columns bytes).tokens
unfolding contents_within
within zero columns bytes = tt
within (suc n) columns bytes =
    nothing_or (length bytes == 0) _ _ tt (by_read (contents_within n) columns (token_at columns bytes) (reads columns bytes) (λ columns bytes. within n columns bytes))

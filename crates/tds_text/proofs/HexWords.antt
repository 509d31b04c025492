-- What `hex` reads is what a word spells.
use Rattle.std.proofs.Common.{◌≡◌, ℕ, ◌+◌, ◌*◌, ◌%◌, arith, length, List, [], ◌∷◌, Option, Some, None, option_map, Result, Ok, Err, refl, sym, ap, ◌∙◌}
use Rattle.hex.specs.Hex.{decode_of, decode_pairs, digit_or_error, hex_digit_value, ◌>>=◌}
use Rattle.hex.specs.declared.error.FromHexError.{FromHexError}
use Rattle.hex.proofs.HexLemmas.{decode_of-digits, decode_of-even, decode_of-ok}
use Rattle.tds_text.specs.Fields.{both}
use Rattle.tds_text.specs.Words.{IsHexWord, byte_spelled, bytes_spelled}

-- what was read, if it was
abbrev ok_of : {A : Type 0} → Result A FromHexError → Option A
ok_of (Ok x) = Some x
ok_of (Err e) = None

-- the byte of two digits, as it is read
abbrev pair_read : ℕ → ℕ → ℕ → Option ℕ → Option ℕ → Result ℕ FromHexError
pair_read a b i x y = digit_or_error a i x >>= (λ h. digit_or_error b (i + 1) y >>= (λ l. Ok (h * 16 + l)))

-- and the bytes behind it
abbrev all_read : Result ℕ FromHexError → Result (List ℕ) FromHexError → Result (List ℕ) FromHexError
all_read byte rest = byte >>= (λ b. rest >>= (λ bytes. Ok (b ∷ bytes)))

abbrev pair_and_rest : Option ℕ → Option ℕ → Option (List ℕ) → Option (List ℕ)
pair_and_rest x y o = option_map (λ p. p.0 ∷ p.1) (both (option_map (λ digits. digits.0 * 16 + digits.1) (both x y)) o)

read_same : (a b i : ℕ) (x y : Option ℕ) (r : Result (List ℕ) FromHexError)
    → ok_of (all_read (pair_read a b i x y) r) ≡ pair_and_rest x y (ok_of r)
read_same a b i None y r = refl
read_same a b i (Some h) None r = refl
read_same a b i (Some h) (Some l) (Ok bytes) = refl
read_same a b i (Some h) (Some l) (Err e) = refl

pairs_spelled : (i : ℕ) (word : List ℕ) → ok_of (decode_pairs i word) ≡ bytes_spelled word
unfolding decode_pairs
pairs_spelled i [] = refl
pairs_spelled i (digit ∷ []) = refl
pairs_spelled i (a ∷ b ∷ rest) =
    let tail = pairs_spelled (i + 2) rest in
    read_same a b i (hex_digit_value a) (hex_digit_value b) (decode_pairs (i + 2) rest)
    ∙ ap (λ (o : Option (List ℕ)). pair_and_rest (hex_digit_value a) (hex_digit_value b) o) tail

-- what is read is spelled
pub decoded_is_spelled : (word bytes : List ℕ) → decode_of word ≡ Ok bytes → bytes_spelled word ≡ Some bytes
decoded_is_spelled word bytes h =
    let even = (decode_of-ok word bytes h).0 in
    sym (pairs_spelled 0 word) ∙ ap (λ (r : Result (List ℕ) FromHexError). ok_of r) (sym (decode_of-even word even) ∙ h)

-- a word that is read is one of digits
pub decoded_is_hex : (word bytes : List ℕ) → decode_of word ≡ Ok bytes → IsHexWord word
decoded_is_hex word bytes h = let ok = decode_of-ok word bytes h in (ok.0, ok.1)

-- and one that isn't read is none
pub refused_is_none : (word : List ℕ) (e : FromHexError) → decode_of word ≡ Err e → ¬ IsHexWord word
refused_is_none word e h is = cc (sym h ∙ (decode_of-digits word is.0 is.1).1)

-- bytes are spelled two digits a byte
rest_spelled : (x : Option ℕ) (o : Option (List ℕ)) (bytes : List ℕ) → option_map (λ p. p.0 ∷ p.1) (both x o) ≡ Some bytes
    → (more : List ℕ) × (o ≡ Some more)
rest_spelled None o bytes h = cc
rest_spelled (Some b) None bytes h = cc
rest_spelled (Some b) (Some more) bytes h = (more, refl)

spelled_is_even : (word bytes : List ℕ) → bytes_spelled word ≡ Some bytes → length word % 2 ≡ 0
spelled_is_even [] bytes h = refl
spelled_is_even (digit ∷ []) bytes h = cc
spelled_is_even (a ∷ b ∷ rest) bytes h =
    let more = rest_spelled (byte_spelled a b) (bytes_spelled rest) bytes h in
    let e = spelled_is_even rest more.0 more.1 in
    omega (arith, e)

spells_none : (word : List ℕ) (e : FromHexError) (o : Option (List ℕ)) → bytes_spelled word ≡ o → decode_of word ≡ Err e → o ≡ None
spells_none word e None h d = refl
spells_none word e (Some bytes) h d =
    let even = spelled_is_even word bytes h in
    let x : None ≡ Some bytes = ap (λ (r : Result (List ℕ) FromHexError). ok_of r) (sym d ∙ decode_of-even word even) ∙ (pairs_spelled 0 word ∙ h) in
    cc

-- and a word that isn't read spells none
pub refused_spells_none : (word : List ℕ) (e : FromHexError) → decode_of word ≡ Err e → bytes_spelled word ≡ None
refused_spells_none word e d = spells_none word e (bytes_spelled word) refl d

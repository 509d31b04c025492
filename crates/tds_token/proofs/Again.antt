-- Tokens that are spelled are read again, all of them.
use Rattle.std.proofs.Common.{◌≡◌, ◌∙◌, ◌≤◌, ◌<◌, ℕ, zero, suc, false, cond, eqb, refl, sym, ap, subst, Option, Some, None, inl, inr, List, [], ◌∷◌, ◌++◌, length, Result, arith}
use Rattle.std.proofs.lemmas.List.{length-append}
use Rattle.std.specs.Prelude.{◌⊎◌}
use Rattle.tds_token.specs.declared.fault.TokenFault.{TokenFault}
use Rattle.tds_token.specs.declared.token.Token.{Token}
use Rattle.tds_token.specs.declared.token.Token.TheVariants as tokens
use Rattle.tds_token.specs.Contents.{no_more, with_token, contents_by, contents_within, contents_of}
use Rattle.tds_token.specs.Layout.{IsToken, IsTokens, Under, columns_after, spelling}
use Rattle.tds_token.specs.Reading.{token_at}
use Rattle.tds_token.specs.Texts.{AreColumns}
use Rattle.tds_token.proofs.Behind.{known_after, has_a_byte}
use Rattle.tds_token.proofs.Whole.{good_of, token_again}

-- ---- The columns behind them

pub known_behind : (columns : Option ℕ) (ts : List Token) (bytes : List ℕ) (after : Option ℕ) → AreColumns columns → IsTokens columns ts bytes after → AreColumns after
unfolding IsTokens
known_behind columns [] bytes after known h = subst AreColumns (sym h.1) known
known_behind columns (t ∷ ts) bytes after known h =
    let its : IsToken columns t h.0 h.2 = h.4 in
    known_behind h.2 ts h.1 after (subst AreColumns (sym its.after_is) (known_after columns t known (good_of columns t h.0 h.2 its))) h.5

-- ---- All that is read

-- One token in front of what is read behind it.
first_read : (n : ℕ) (columns middle : Option ℕ) (t : Token) (bytes front rest : List ℕ) → bytes ≡ front ++ rest → IsToken columns t front middle → contents_within (suc n) columns bytes ≡ with_token t (contents_within n middle rest)
unfolding contents_within
first_read n columns middle t bytes front rest split its =
    let whole : bytes ≡ spelling t ++ rest = split ∙ ap (λ (f : List ℕ). f ++ rest) its.spelled in
    let full : eqb (length bytes) 0 ≡ false = grind (arith, ap length whole, length-append (spelling t) rest, has_a_byte t) in
    ap (λ b. cond b (no_more columns) (contents_by (contents_within n) columns (token_at columns bytes))) full
    ∙ (ap (λ (r : Result (Token × List ℕ) TokenFault). contents_by (contents_within n) columns r)
    (ap (token_at columns) whole ∙ token_again columns t rest (good_of columns t front middle its))
    ∙ ap (λ (known : Option ℕ). with_token t (contents_within n known rest)) (sym its.after_is))

fewer : (t : Token) (bytes front rest : List ℕ) → bytes ≡ front ++ rest → front ≡ spelling t → length rest < length bytes
fewer t bytes front rest split spelled =
    omega (arith, ap length split, length-append front rest, ap length spelled, has_a_byte t)

within : (n : ℕ) (columns : Option ℕ) (ts : List Token) (bytes : List ℕ) (after : Option ℕ) → IsTokens columns ts bytes after → length bytes ≤ n → contents_within n columns bytes ≡ record { tokens = ts; fault = None; columns = after }
unfolding contents_within IsTokens
within zero columns [] bytes after h most = ap no_more (sym h.1)
within (suc n) columns [] bytes after h most =
    ap (contents_within (suc n) columns) h.0 ∙ ap no_more (sym h.1)
within zero columns (t ∷ ts) bytes after h most =
    let its : IsToken columns t h.0 h.2 = h.4 in
    absurd (omega (arith, most, fewer t bytes h.0 h.1 h.3 its.spelled))
within (suc n) columns (t ∷ ts) bytes after h most =
    let its : IsToken columns t h.0 h.2 = h.4 in
    let less : length h.1 ≤ n = omega (arith, most, fewer t bytes h.0 h.1 h.3 its.spelled) in
    first_read n columns h.2 t bytes h.0 h.1 h.3 its ∙ ap (with_token t) (within n h.2 ts h.1 after h.5 less)

pub contents_again : (columns : Option ℕ) (ts : List Token) (bytes : List ℕ) (after : Option ℕ) → IsTokens columns ts bytes after → contents_of columns bytes ≡ record { tokens = ts; fault = None; columns = after }
contents_again columns ts bytes after h = within (length bytes) columns ts bytes after h (omega arith)

-- ---- Under other columns

-- Nothing was known, or the same.
abbrev IsLess : Option ℕ → Option ℕ → Type 0
IsLess a b = (a ≡ None) ⊎ (a ≡ b)

less_after : (a b : Option ℕ) (t : Token) → IsLess a b → IsLess (columns_after a t) (columns_after b t)
less_after a b (tokens.Info m) l = l
less_after a b (tokens.Error m) l = l
less_after a b (tokens.ReturnStatus v) l = l
less_after a b (tokens.Columns cs) l = inr refl
less_after a b (tokens.Row vs) l = l
less_after a b (tokens.Env e) l = l
less_after a b (tokens.Done status cur_cmd rows) l = inl refl

under_more : (a b : Option ℕ) (t : Token) → IsLess a b → Under a t → Under b t
under_more a b (tokens.Info m) l u = tt
under_more a b (tokens.Error m) l u = tt
under_more a b (tokens.ReturnStatus v) l u = tt
under_more a b (tokens.Columns cs) l u = tt
under_more a b (tokens.Row vs) l u = elim l [
  | inl e ↦ let z : None ≡ Some (length vs) = sym e ∙ u in absurd (cc)
  | inr e ↦ sym e ∙ u
]
under_more a b (tokens.Env e) l u = tt
under_more a b (tokens.Done status cur_cmd rows) l u = tt

spelled_under : (a b : Option ℕ) (ts : List Token) (bytes : List ℕ) (after : Option ℕ) → IsLess a b → IsTokens a ts bytes after → (behind : Option ℕ) × IsTokens b ts bytes behind
unfolding IsTokens
spelled_under a b [] bytes after l h = (b, (h.0, refl))
spelled_under a b (t ∷ ts) bytes after l h =
    let its : IsToken a t h.0 h.2 = h.4 in
    let more = spelled_under h.2 (columns_after b t) ts h.1 after
    (subst (λ (x : Option ℕ). IsLess x (columns_after b t)) (sym its.after_is) (less_after a b t l)) h.5 in
    let first : IsToken b t h.0 (columns_after b t) = record {
      spelled = its.spelled;
      fits = its.fits;
      ranged = its.ranged;
      under = under_more a b t l its.under;
      after_is = refl;
    } in
    (more.0, (h.0, h.1, columns_after b t, h.3, first, more.1))

pub spelled_anywhere : (columns : Option ℕ) (ts : List Token) (bytes : List ℕ) (after : Option ℕ) → IsTokens None ts bytes after → (behind : Option ℕ) × IsTokens columns ts bytes behind
spelled_anywhere columns ts bytes after h = spelled_under None columns ts bytes after (inl refl) h

-- One step of a reader of tokens, in the words of the layout.
use Rattle.std.proofs.Common.{◌≡◌, ℕ, Bool, true, false, cond, eqb, List, [], ◌∷◌, ◌++◌, length, Option, Some, None, Result, Ok, Err, refl, sym, ap, subst, ◌∙◌, arith}
use Rattle.tds_token.specs.declared.fault.TokenFault.{TokenFault}
use Rattle.tds_token.specs.declared.token.Token.{Token}
use Rattle.tds_token.specs.declared.token.TokenRef.{TokenRef}
use Rattle.tds_token.specs.Texts.{AreColumns, IsBytes}
use Rattle.tds_token.specs.Layout.{spelling, IsToken, columns_after, token_of}
use Rattle.std.proofs.lemmas.Bool.{eqb-true}
use Rattle.std.proofs.lemmas.List.{nil_from_length}
use Rattle.tds_token.specs.Reading.{token_at, fault_of, wrong_token}
use Rattle.tds_token.specs.Cursor.{Cursor, answer_of, step_by, step}
use Rattle.tds_token.proofs.Whole.{token_takes, token_again}

abbrev Answer : Type 0
Answer = Option (Result Token TokenFault)

abbrev read_of : Token → Answer
read_of t = Some (Ok t)

abbrev wrong_of : TokenFault → Answer
wrong_of f = Some (Err f)

abbrev no_token : Answer
no_token = None

same_token : (t u : Token) → read_of t ≡ read_of u → t ≡ u
same_token t u e = cc

same_fault : (t u : TokenFault) → wrong_of t ≡ wrong_of u → t ≡ u
same_fault t u e = cc

by_read : (c d : Cursor) (b : Bool) (r : Result (Token × List ℕ) TokenFault) (t : Token) → (read_of t, d) ≡ cond b (None, c) (step_by c r) → (x : Token × List ℕ) × (r ≡ Ok x) × (t ≡ x.0) × (d ≡ record { bytes = x.1; columns = columns_after c.columns x.0 })
by_read c d true r t e = let h : read_of t ≡ None = ap (λ (p : Answer × Cursor). p.0) e in absurd cc
by_read c d false (Ok x) t e = (x, refl, same_token t x.0 (ap (λ (p : Answer × Cursor). p.0) e), ap (λ (p : Answer × Cursor). p.1) e)
by_read c d false (Err f) t e = let h : read_of t ≡ wrong_of f = ap (λ (p : Answer × Cursor). p.0) e in absurd cc

by_wrong : (c d : Cursor) (b : Bool) (r : Result (Token × List ℕ) TokenFault) (t : TokenFault) → (wrong_of t, d) ≡ cond b (None, c) (step_by c r) → (r ≡ Err t) × (d ≡ record { bytes = []; columns = c.columns })
by_wrong c d true r t e = let h : wrong_of t ≡ None = ap (λ (p : Answer × Cursor). p.0) e in absurd cc
by_wrong c d false (Ok x) t e = let h : wrong_of t ≡ read_of x.0 = ap (λ (p : Answer × Cursor). p.0) e in absurd cc
by_wrong c d false (Err f) t e = (ap (λ (f : TokenFault). Err f) (sym (same_fault t f (ap (λ (p : Answer × Cursor). p.0) e))), ap (λ (p : Answer × Cursor). p.1) e)

by_none : (c d : Cursor) (b : Bool) (r : Result (Token × List ℕ) TokenFault) → (no_token, d) ≡ cond b (None, c) (step_by c r) → (b ≡ true) × (d ≡ c)
by_none c d true r e = (refl, ap (λ (p : Answer × Cursor). p.1) e)
by_none c d false (Ok x) e = let h : no_token ≡ read_of x.0 = ap (λ (p : Answer × Cursor). p.0) e in absurd cc
by_none c d false (Err f) e = let h : no_token ≡ wrong_of f = ap (λ (p : Answer × Cursor). p.0) e in absurd cc

pub found_by : (c d : Cursor) (result : Option (Result TokenRef TokenFault)) (t : TokenRef) → AreColumns c.columns → IsBytes c.bytes → (answer_of result, d) ≡ step c → result ≡ Some (Ok t)
    → (front : List ℕ) × IsToken c.columns (token_of t) front d.columns × (c.bytes ≡ front ++ d.bytes)
unfolding step
found_by c d result t known fits e is =
    let e1 : (read_of (token_of t), d) ≡ cond (eqb (length c.bytes) 0) (None, c) (step_by c (token_at c.columns c.bytes)) = subst (λ (r : Option (Result TokenRef TokenFault)). (answer_of r, d) ≡ cond (eqb (length c.bytes) 0) (None, c) (step_by c (token_at c.columns c.bytes))) is e in
    let p = by_read c d (eqb (length c.bytes) 0) (token_at c.columns c.bytes) (token_of t) e1 in
    let x = p.0 in
    let taken = token_takes c.columns c.bytes x known fits p.1 in
    let whole : (front : List ℕ) × IsToken c.columns x.0 front (columns_after c.columns x.0) × (c.bytes ≡ front ++ x.1) =
    (spelling x.0, record { spelled = refl; fits = taken.1.fits; ranged = taken.1.ranged; under = taken.1.under; after_is = refl }, taken.0) in
    let moved : (front : List ℕ) × IsToken c.columns x.0 front d.columns × (c.bytes ≡ front ++ d.bytes) =
    subst (λ (d : Cursor). (front : List ℕ) × IsToken c.columns x.0 front d.columns × (c.bytes ≡ front ++ d.bytes)) (sym p.3) whole in
    subst (λ (t : Token). (front : List ℕ) × IsToken c.columns t front d.columns × (c.bytes ≡ front ++ d.bytes)) (sym p.2) moved

nonempty : (columns : Option ℕ) (bytes : List ℕ) (x : Token × List ℕ) → token_at columns bytes ≡ Ok x → eqb (length bytes) 0 ≡ false
unfolding token_at
nonempty columns [] x e = absurd cc
nonempty columns (b ∷ bytes) x e = search arith

pub only_by : (c d : Cursor) (answer : Option (Result Token TokenFault)) (token : Token) (front rest : List ℕ) (after : Option ℕ) → (answer, d) ≡ step c → IsToken c.columns token front after → c.bytes ≡ front ++ rest
    → (answer ≡ Some (Ok token)) × (d ≡ record { bytes = rest; columns = after })
unfolding step
only_by c d answer token front rest after e is split =
    let read : token_at c.columns c.bytes ≡ Ok (token, rest) = rw (split, is.spelled) (token_again c.columns token rest (record { fits = is.fits; ranged = is.ranged; under = is.under })) in
    let full = nonempty c.columns c.bytes (token, rest) read in
    let stepped : step c ≡ (Some (Ok token), record { bytes = rest; columns = columns_after c.columns token }) = rw (full, read) refl in
    let both = e ∙ stepped in
    (ap (λ (p : Answer × Cursor). p.0) both, ap (λ (p : Answer × Cursor). p.1) both ∙ ap (λ (o : Option ℕ). record { bytes = rest; columns = o }) (sym is.after_is))

pub wrong_by : (c d : Cursor) (result : Option (Result TokenRef TokenFault)) (fault : TokenFault) → (answer_of result, d) ≡ step c → result ≡ Some (Err fault) → (wrong_token c.columns c.bytes ≡ Some fault) × (d ≡ record { bytes = []; columns = c.columns })
unfolding step
wrong_by c d result fault e is =
    let w = by_wrong c d (eqb (length c.bytes) 0) (token_at c.columns c.bytes) fault (subst (λ (r : Option (Result TokenRef TokenFault)). (answer_of r, d) ≡ cond (eqb (length c.bytes) 0) (None, c) (step_by c (token_at c.columns c.bytes))) is e) in
    (ap fault_of w.0, w.1)

pub none_by : (c d : Cursor) (result : Option (Result TokenRef TokenFault)) → (answer_of result, d) ≡ step c → result ≡ None → (c.bytes ≡ []) × (d ≡ c)
unfolding step
none_by c d result e is =
    let n = by_none c d (eqb (length c.bytes) 0) (token_at c.columns c.bytes) (subst (λ (r : Option (Result TokenRef TokenFault)). (answer_of r, d) ≡ cond (eqb (length c.bytes) 0) (None, c) (step_by c (token_at c.columns c.bytes))) is e) in
    (nil_from_length c.bytes (eqb-true _ _ n.0), n.1)

no_answer : (result : Option (Result TokenRef TokenFault)) → answer_of result ≡ None → result ≡ None
no_answer None e = refl
no_answer (Some (Ok t)) e = absurd cc
no_answer (Some (Err f)) e = absurd cc

pub end_by : (c d : Cursor) (result : Option (Result TokenRef TokenFault)) → (answer_of result, d) ≡ step c → c.bytes ≡ [] → (result ≡ None) × (d ≡ c)
unfolding step
end_by c d result e empty =
    let stepped : step c ≡ (None, c) = rw empty refl in
    let both = e ∙ stepped in
    (no_answer result (ap (λ (p : Answer × Cursor). p.0) both), ap (λ (p : Answer × Cursor). p.1) both)

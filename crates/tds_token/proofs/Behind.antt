-- The tokens of a packet's data, one step at a time.
use Rattle.std.proofs.Common.{◌≡◌, ℕ, zero, suc, ◌<◌, ◌≤◌, false, cond, eqb, List, [], ◌∷◌, ◌++◌, length, Option, Some, None, Result, Ok, Err, refl, sym, ap, ◌∙◌, append_assoc, arith}
use Rattle.std.proofs.lemmas.List.{nil_from_length, length-append}
use Rattle.tds_token.specs.declared.fault.TokenFault.{TokenFault}
use Rattle.tds_token.specs.declared.token.Token.{Token}
use Rattle.tds_token.specs.declared.token.Token.TheVariants as tokens
use Rattle.tds_token.specs.declared.token.TokenRef.{TokenRef}
use Rattle.tds_token.specs.Texts.{AreColumns, IsBytes}
use Rattle.tds_token.specs.Layout.{token_of, spelling, columns_after, IsToken, IsTokens}
use Rattle.tds_token.specs.Reading.{token_at, fault_of}
use Rattle.tds_token.specs.Cursor.{Cursor, answer_of, step_by, step}
use Rattle.tds_token.specs.Contents.{Contents, AreContents, EndsAt, no_more, at_fault, with_token, contents_by, contents_within, contents_of, contents_before}
use Rattle.tds_token.proofs.Small.{Good}
use Rattle.tds_token.proofs.Stepping.{found_by, wrong_by, end_by}
use Rattle.tds_token.proofs.Whole.{token_takes, token_again}

-- columns are columns behind each token
pub known_after : (columns : Option ℕ) (t : Token) → AreColumns columns → Good columns t → AreColumns (columns_after columns t)
known_after columns (tokens.Info m) known g = known
known_after columns (tokens.Error m) known g = known
known_after columns (tokens.ReturnStatus v) known g = known
known_after columns (tokens.Columns cs) known g = (g.fits.0, g.fits.1)
known_after columns (tokens.Row vs) known g = known
known_after columns (tokens.Env e) known g = known
known_after columns (tokens.Done status cur_cmd rows) known g = tt

pub has_a_byte : (t : Token) → 1 ≤ length (spelling t)
has_a_byte (tokens.Info m) = omega arith
has_a_byte (tokens.Error m) = omega arith
has_a_byte (tokens.ReturnStatus v) = omega arith
has_a_byte (tokens.Columns cs) = omega arith
has_a_byte (tokens.Row vs) = omega arith
has_a_byte (tokens.Env e) = omega arith
has_a_byte (tokens.Done status cur_cmd rows) = omega arith

-- what is left behind a token
record IsLeft (columns : Option ℕ) (bytes : List ℕ) (x : Token × List ℕ) : Type 0 where
  pub known : AreColumns (columns_after columns x.0)
  pub bytes_fit : IsBytes x.1
  pub shorter : length x.1 < length bytes

left_behind : (columns : Option ℕ) (bytes : List ℕ) (x : Token × List ℕ) → AreColumns columns → IsBytes bytes → token_at columns bytes ≡ Ok x → IsLeft columns bytes x
left_behind columns bytes x known fits e =
    let t = token_takes columns bytes x known fits e in
    record {
      known = known_after columns x.0 known t.1;
      bytes_fit = t.2;
      shorter = omega (arith, ap length t.0, length-append (spelling x.0) x.1, has_a_byte x.0);
    }

by_read : (n m : ℕ) (columns : Option ℕ) (bytes : List ℕ) (r : Result (Token × List ℕ) TokenFault) → token_at columns bytes ≡ r → ((x : Token × List ℕ) → r ≡ Ok x → contents_within n (columns_after columns x.0) x.1 ≡ contents_within m (columns_after columns x.0) x.1)
    → contents_by (contents_within n) columns r ≡ contents_by (contents_within m) columns r
by_read n m columns bytes (Ok x) e same = ap (with_token x.0) (same x refl)
by_read n m columns bytes (Err f) e same = refl

-- as many as there are bytes are enough
enough : (n m : ℕ) (columns : Option ℕ) (bytes : List ℕ) → AreColumns columns → IsBytes bytes → length bytes ≤ n → length bytes ≤ m → contents_within n columns bytes ≡ contents_within m columns bytes
unfolding contents_within
enough zero zero columns bytes known fits ln lm = refl
enough zero (suc m) columns bytes known fits ln lm = let e : bytes ≡ [] = nil_from_length bytes (omega arith) in rw e refl
enough (suc n) zero columns bytes known fits ln lm = let e : bytes ≡ [] = nil_from_length bytes (omega arith) in rw e refl
enough (suc n) (suc m) columns bytes known fits ln lm =
    let same = by_read n m columns bytes (token_at columns bytes) refl (λ x e.
    let l = left_behind columns bytes x known fits e in
    enough n m (columns_after columns x.0) x.1 l.known l.bytes_fit (omega (arith, l.shorter)) (omega (arith, l.shorter))) in
    ap (cond (eqb (length bytes) 0) (no_more columns)) same

step_read : (c : Cursor) (n : ℕ) (r : Result (Token × List ℕ) TokenFault) → AreColumns c.columns → IsBytes c.bytes → length c.bytes ≡ suc n → token_at c.columns c.bytes ≡ r
    → contents_by (contents_within n) c.columns r ≡ contents_before (step_by c r).0 (contents_of (step_by c r).1.columns (step_by c r).1.bytes)
unfolding contents_within
step_read c n (Ok x) known fits len e =
    let l = left_behind c.columns c.bytes x known fits e in
    ap (with_token x.0) (enough n (length x.1) (columns_after c.columns x.0) x.1 l.known l.bytes_fit (omega (arith, l.shorter, len)) (omega arith))
step_read c n (Err f) known fits len e = refl

no_step : (c : Cursor) → c.bytes ≡ [] → step c ≡ (None, c)
unfolding step
no_step c e = rw e refl

a_step : (c : Cursor) (b : ℕ) (rest : List ℕ) → c.bytes ≡ b ∷ rest → step c ≡ step_by c (token_at c.columns c.bytes)
unfolding step
a_step c b rest e = let full : eqb (length c.bytes) 0 ≡ false = rw e (search arith) in rw full refl

more : (c : Cursor) (b : ℕ) (rest : List ℕ) → c.bytes ≡ b ∷ rest → contents_of c.columns c.bytes ≡ contents_by (contents_within (length rest)) c.columns (token_at c.columns c.bytes)
unfolding contents_within
more c b rest e = let full : eqb (length (b ∷ rest)) 0 ≡ false = search arith in rw (e, full) refl

at_step : (c : Cursor) (bytes : List ℕ) → c.bytes ≡ bytes → AreColumns c.columns → IsBytes c.bytes → contents_of c.columns c.bytes ≡ contents_before (step c).0 (contents_of (step c).1.columns (step c).1.bytes)
unfolding contents_within
at_step c [] e known fits = rw (no_step c e, e) refl
at_step c (b ∷ rest) e known fits =
    let s = step_read c (length rest) (token_at c.columns c.bytes) known fits (rw e refl) refl in
    rw (a_step c b rest e) (more c b rest e ∙ s)

pub contents_step : (c d : Cursor) (answer : Option (Result Token TokenFault)) → AreColumns c.columns → IsBytes c.bytes → (answer, d) ≡ step c
    → contents_of c.columns c.bytes ≡ contents_before answer (contents_of d.columns d.bytes)
contents_step c d answer known fits e =
    at_step c c.bytes refl known fits ∙ ap (λ (p : Option (Result Token TokenFault) × Cursor). contents_before p.0 (contents_of p.1.columns p.1.bytes)) (sym e)

has_some : (bytes : List ℕ) → (bytes ≡ [] → ⊥) → 1 ≤ length bytes
has_some [] none = absurd (none refl)
has_some (b ∷ bytes) none = omega arith

not_none : (fault : TokenFault) (result : Option (Result TokenRef TokenFault)) → result ≡ Some (Err fault) → result ≡ None → ⊥
not_none fault None is e = absurd cc
not_none fault (Some answer) is e = absurd cc

-- each answer leaves fewer bytes
pub shorter_by : (c d : Cursor) (result : Option (Result TokenRef TokenFault)) (answer : Result TokenRef TokenFault) → AreColumns c.columns → IsBytes c.bytes → (answer_of result, d) ≡ step c → result ≡ Some answer → length d.bytes < length c.bytes
shorter_by c d result (Ok t) known fits e is =
    let f = found_by c d result t known fits e is in
    omega (arith, ap length f.2, length-append f.0 d.bytes, ap length f.1.spelled, has_a_byte (token_of t))
shorter_by c d result (Err fault) known fits e is =
    let w = wrong_by c d result fault e is in
    let some : 1 ≤ length c.bytes = has_some c.bytes (λ empty. not_none fault result is (end_by c d result e empty).0) in
    omega (arith, some, ap (λ (d : Cursor). length d.bytes) w.1)

-- ---- the contents in the words of the layout

one_more : (columns : Option ℕ) (bytes : List ℕ) (b : ℕ) (rest : List ℕ) (r : Result (Token × List ℕ) TokenFault) → bytes ≡ b ∷ rest → token_at columns bytes ≡ r → contents_of columns bytes ≡ contents_by (contents_within (length rest)) columns r
one_more columns bytes b rest r e read = more (record { bytes = bytes; columns = columns }) b rest e ∙ ap (contents_by (contents_within (length rest)) columns) read

-- the contents behind a token
behind_token : (columns : Option ℕ) (bytes : List ℕ) (x : Token × List ℕ) → AreColumns columns → IsBytes bytes → token_at columns bytes ≡ Ok x → contents_of columns bytes ≡ with_token x.0 (contents_of (columns_after columns x.0) x.1)
behind_token columns [] x known fits e = let l = left_behind columns [] x known fits e in absurd (omega (arith, l.shorter))
behind_token columns (b ∷ rest) x known fits e =
    let l = left_behind columns (b ∷ rest) x known fits e in
    one_more columns (b ∷ rest) b rest (Ok x) refl e ∙ ap (with_token x.0) (enough (length rest) (length x.1) (columns_after columns x.0) x.1 l.known l.bytes_fit (omega (arith, l.shorter)) (omega arith))

at_a_fault : (columns : Option ℕ) (bytes : List ℕ) (fault : TokenFault) → 1 ≤ length bytes → token_at columns bytes ≡ Err fault → contents_of columns bytes ≡ at_fault fault columns
at_a_fault columns [] fault le e = absurd (omega arith)
at_a_fault columns (b ∷ rest) fault le e = one_more columns (b ∷ rest) b rest (Err fault) refl e

empty_contents : (columns : Option ℕ) → AreContents columns [] (no_more columns)
unfolding IsTokens
empty_contents columns = record { front = []; rest = []; split = refl; spelled = (refl, refl); ends = refl }

fault_contents : (columns : Option ℕ) (bytes : List ℕ) (fault : TokenFault) → 1 ≤ length bytes → token_at columns bytes ≡ Err fault → AreContents columns bytes (at_fault fault columns)
unfolding IsTokens
fault_contents columns bytes fault le e = record { front = []; rest = bytes; split = refl; spelled = (refl, refl); ends = (le, ap fault_of e) }

token_contents : (columns : Option ℕ) (bytes : List ℕ) (x : Token × List ℕ) (all : Contents) → (bytes ≡ spelling x.0 ++ x.1) → Good columns x.0 → AreContents (columns_after columns x.0) x.1 all → AreContents columns bytes (with_token x.0 all)
unfolding IsTokens
token_contents columns bytes x all e g a = record {
  front = spelling x.0 ++ a.front;
  rest = a.rest;
  split = e ∙ ap (λ (y : List ℕ). spelling x.0 ++ y) a.split ∙ sym (append_assoc (spelling x.0) a.front a.rest);
  spelled = (spelling x.0, a.front, columns_after columns x.0, refl, record { spelled = refl; fits = g.fits; ranged = g.ranged; under = g.under; after_is = refl }, a.spelled);
  ends = a.ends;
}

found_by_result : (n : ℕ) (columns : Option ℕ) (bytes : List ℕ) (r : Result (Token × List ℕ) TokenFault) → AreColumns columns → IsBytes bytes → 1 ≤ length bytes → length bytes ≤ suc n → token_at columns bytes ≡ r
    → ((columns : Option ℕ) (bytes : List ℕ) → AreColumns columns → IsBytes bytes → length bytes ≤ n → AreContents columns bytes (contents_of columns bytes)) → AreContents columns bytes (contents_of columns bytes)
found_by_result n columns bytes (Ok x) known fits le most e below =
    let l = left_behind columns bytes x known fits e in
    let t = token_takes columns bytes x known fits e in
    rw (behind_token columns bytes x known fits e) (token_contents columns bytes x (contents_of (columns_after columns x.0) x.1) t.0 t.1 (below (columns_after columns x.0) x.1 l.known l.bytes_fit (omega (arith, l.shorter))))
found_by_result n columns bytes (Err fault) known fits le most e below =
    rw (at_a_fault columns bytes fault le e) (fault_contents columns bytes fault le e)

found_within : (n : ℕ) (columns : Option ℕ) (bytes : List ℕ) → AreColumns columns → IsBytes bytes → length bytes ≤ n → AreContents columns bytes (contents_of columns bytes)
unfolding contents_within
found_within n columns [] known fits le = empty_contents columns
found_within zero columns (b ∷ bytes) known fits le = absurd (omega arith)
found_within (suc n) columns (b ∷ bytes) known fits le =
    found_by_result n columns (b ∷ bytes) (token_at columns (b ∷ bytes)) known fits (omega arith) le refl (found_within n)

pub contents_found : (columns : Option ℕ) (bytes : List ℕ) → AreColumns columns → IsBytes bytes → AreContents columns bytes (contents_of columns bytes)
contents_found columns bytes known fits = found_within (length bytes) columns bytes known fits (omega arith)

fault_is : (r : Result (Token × List ℕ) TokenFault) (fault : TokenFault) → fault_of r ≡ Some fault → r ≡ Err fault
fault_is (Ok x) fault e = absurd cc
fault_is (Err f) fault e = cc

ends_only : (columns : Option ℕ) (rest : List ℕ) (fault : Option TokenFault) → EndsAt columns rest fault → contents_of columns rest ≡ record { tokens = []; fault = fault; columns = columns }
unfolding contents_within
ends_only columns rest None e = rw e refl
ends_only columns rest (Some fault) e = at_a_fault columns rest fault e.0 (fault_is (token_at columns rest) fault e.1)

only_of : (columns : Option ℕ) (bytes : List ℕ) (ts : List Token) (front rest : List ℕ) (after : Option ℕ) (fault : Option TokenFault) → AreColumns columns → IsBytes bytes → bytes ≡ front ++ rest → IsTokens columns ts front after → EndsAt after rest fault
    → contents_of columns bytes ≡ record { tokens = ts; fault = fault; columns = after }
unfolding IsTokens
only_of columns bytes [] front rest after fault known fits e spelled ends =
    ap (λ (c : Option ℕ). contents_of c bytes) (sym spelled.1) ∙ ap (contents_of after) (e ∙ ap (λ (f : List ℕ). f ++ rest) spelled.0) ∙ ends_only after rest fault ends
only_of columns bytes (t ∷ ts) front rest after fault known fits e spelled ends =
    let one = spelled.0 in
    let others = spelled.1 in
    let is : IsToken columns t one spelled.2 = spelled.4 in
    let whole : bytes ≡ one ++ (others ++ rest) = e ∙ ap (λ (f : List ℕ). f ++ rest) spelled.3 ∙ append_assoc one others rest in
    let read : token_at columns bytes ≡ Ok (t, others ++ rest) = rw (whole, is.spelled) (token_again columns t (others ++ rest) (record { fits = is.fits; ranged = is.ranged; under = is.under })) in
    let l = left_behind columns bytes (t, others ++ rest) known fits read in
    let behind = only_of spelled.2 (others ++ rest) ts others rest after fault (rw is.after_is l.known) l.bytes_fit refl spelled.5 ends in
    behind_token columns bytes (t, others ++ rest) known fits read ∙ ap (with_token t) (ap (λ (c : Option ℕ). contents_of c (others ++ rest)) (sym is.after_is) ∙ behind)

pub contents_only : (columns : Option ℕ) (bytes : List ℕ) (all : Contents) → AreColumns columns → IsBytes bytes → AreContents columns bytes all → all ≡ contents_of columns bytes
contents_only columns bytes all known fits a = sym (only_of columns bytes all.tokens a.front a.rest all.columns all.fault known fits a.split a.spelled a.ends)

-- What a parser finds is what the layout says.
use Rattle.std.proofs.Common.{◌≡◌, refl, sym, ◌∙◌, ap, rules, arith, ℕ, zero, suc, ◌+◌, ◌-◌, ◌<◌, ◌≤◌, ◌==◌, false, List, [], ◌∷◌, ◌++◌, length, Option, Some, IfSome, subst, append_assoc, append-nil}
use Rattle.std.proofs.lemmas.List.{length-take}
use Rattle.tds_wire.specs.declared.features.Features.{Features}
use Rattle.tds_wire.specs.declared.fault.Refusal.{Refusal}
use Rattle.tds_wire.specs.declared.shape.Shape.{Shape}
use Rattle.tds_wire.specs.declared.told.Token.{Token}
use Rattle.tds_wire.specs.Layout.{Read, Got, Short, Wrong, Seen, token_at}
use Rattle.tds_wire.specs.Told.{added}
use Rattle.tds_wire.specs.Reading.{Parser, IsReady, Found, Sees, Inside, Refuses, Passed, Outcome, Ends, More, Refused, front_of, laid_by, laid_out, next_token, outcome_of, refusal_at, token_with}
use Rattle.tds_show.specs.declared.tokens.message.Ending.{Ending}
use Rattle.tds_show.specs.declared.tokens.message.Ending.TheVariants as ending
use Rattle.tds_show.specs.Lines.{token_line}
use Rattle.tds_show.specs.Messages.{IsPlain, Lines, after, by_token, ends, lines_from, plain, read_token, token_of}

-- ---- The token at the front

-- the first byte says the kind, whatever was before it
any_kind : (most : ℕ) (features : Features) (kind : ℕ) (columns : List Shape) (bytes : List ℕ)
    → token_at most features (record { kind = kind; columns = columns }) bytes ≡ token_at most features (record { kind = 0; columns = columns }) bytes
unfolding token_at
any_kind most features kind columns bytes = refl

reads : (r : Parser) (piece : List ℕ) → IsPlain r
    → token_at r.walk.most r.walk.features (record { kind = r.walk.at.kind; columns = r.walk.columns }) piece ≡ read_token r.walk.columns piece
reads r piece p = rw p.most (rw p.features (any_kind 4096 plain r.walk.at.kind r.walk.columns piece))

-- what the parser finds, as the layout has it
found : (r : Parser) (piece : List ℕ) (f : Found) → IsPlain r → outcome_of (next_token r piece) ≡ laid_out r piece → f ≡ next_token r piece
    → outcome_of f ≡ laid_by r piece (read_token r.walk.columns piece)
found r piece f p law e = ap outcome_of e ∙ (law ∙ ap (laid_by r piece) (reads r piece p))

passed_of : Passed → Outcome → Passed
passed_of d (Ends p rest) = p
passed_of d More = d
passed_of d (Refused refusal) = d

rest_of : Outcome → List ℕ
rest_of (Ends p rest) = rest
rest_of More = []
rest_of (Refused refusal) = []

refusal_of : Refusal → Outcome → Refusal
refusal_of d (Ends p rest) = d
refusal_of d More = d
refusal_of d (Refused refusal) = refusal

record Ended (r v : Parser) (piece rest : List ℕ) (token : Token) : Type 0 where
  pub read : read_token r.walk.columns piece ≡ Got (record { kind = token.kind; columns = v.walk.columns }) rest
  pub is : token ≡ token_with r token.kind (front_of piece rest)

same_got : (s : Seen) (kind : ℕ) (columns : List Shape) (rest more : List ℕ) → kind ≡ s.kind → columns ≡ s.columns → rest ≡ more
    → Got s more ≡ Got (record { kind = kind; columns = columns }) rest
same_got s kind columns rest more h k m = rw h (rw k (rw m refl))

ended_by : (r v : Parser) (piece rest : List ℕ) (token : Token) (x : Read Seen) → read_token r.walk.columns piece ≡ x
    → outcome_of (Sees token v rest) ≡ laid_by r piece x → Ended r v piece rest token
unfolding passed_of rest_of
ended_by r v piece rest token (Got s more) e h =
    let p = ap (λ (o : Outcome). passed_of (record { token = token; columns = v.walk.columns }) o) h in
    let t : token ≡ token_with r s.kind (front_of piece more) = ap (λ (q : Passed). q.token) p in
    let k : token.kind ≡ s.kind = ap (λ (u : Token). u.kind) t in
    let cs : v.walk.columns ≡ s.columns = ap (λ (q : Passed). q.columns) p in
    let m : rest ≡ more = ap (λ (o : Outcome). rest_of o) h in
    record {
      read = e ∙ same_got s token.kind v.walk.columns rest more k cs m;
      is = t ∙ (ap (λ (n : ℕ). token_with r n (front_of piece more)) (sym k) ∙ ap (λ (l : List ℕ). token_with r token.kind (front_of piece l)) (sym m));
    }
ended_by r v piece rest token Short e h = cc
ended_by r v piece rest token (Wrong fault more) e h = cc

short_by : (r : Parser) (piece : List ℕ) (x : Read Seen) → read_token r.walk.columns piece ≡ x → More ≡ laid_by r piece x → read_token r.walk.columns piece ≡ Short
short_by r piece (Got s more) e h = cc
short_by r piece Short e h = e
short_by r piece (Wrong fault more) e h = cc

record Failed (r : Parser) (piece : List ℕ) (refusal : Refusal) : Type 0 where
  pub rest : List ℕ
  pub read : read_token r.walk.columns piece ≡ Wrong refusal.fault rest
  pub at : refusal.at ≡ added r.start (added r.passed (length (front_of piece rest)) - 1)

failed_by : (r : Parser) (piece : List ℕ) (refusal : Refusal) (x : Read Seen) → read_token r.walk.columns piece ≡ x → Refused refusal ≡ laid_by r piece x
    → Failed r piece refusal
unfolding refusal_of
failed_by r piece refusal (Got s more) e h = cc
failed_by r piece refusal Short e h = cc
failed_by r piece refusal (Wrong fault more) e h =
    let i : refusal ≡ refusal_at r fault (front_of piece more) = ap (λ (o : Outcome). refusal_of refusal o) h in
    let f : refusal.fault ≡ fault = ap (λ (x : Refusal). x.fault) i in
    record { rest = more; read = e ∙ rw f refl; at = ap (λ (x : Refusal). x.at) i }

-- ---- Its place and its length

front_length : (piece rest : List ℕ) → length (front_of piece rest) ≤ length piece
front_length piece rest = rw (length-take (length piece - length rest) piece) (omega arith)

front_whole : (piece rest : List ℕ) → length rest ≤ length piece → length (front_of piece rest) + length rest ≡ length piece
front_whole piece rest h = rw (length-take (length piece - length rest) piece) (omega (arith, h))

added_fits : (a b : ℕ) → a + b ≤ 18446744073709551615 → added a b ≡ a + b
added_fits a b h = omega (arith, h)

plain_token : (r : Parser) (kind : ℕ) (bytes : List ℕ) → IsReady r → length bytes ≤ 18446744073709551615 → token_with r kind bytes ≡ token_of kind r.start bytes
plain_token r kind bytes ready few =
    let e : added 0 (length bytes) ≡ length bytes = omega (arith, few) in
    rw ready.passed (rw ready.head (rw e refl))

-- ---- Turns of the loop

-- what is said of a value that is there
pub at_some : {A : Type 0} {o : Option A} {x : A} (P : A → Type 0) → o ≡ Some x → IfSome o P → P x
at_some P e h = subst (λ u. IfSome u P) e h

turned : (most : ℕ) (columns : List Shape) (at : ℕ) (piece : List ℕ) → 0 < most → 0 < length piece
    → lines_from most columns at piece ≡ by_token (lines_from (most - 1)) at piece (read_token columns piece)
unfolding lines_from
turned zero columns at piece h g = absurd (omega (arith, h))
turned (suc most) columns at [] h g = absurd (omega (arith, g))
turned (suc most) columns at (b ∷ piece) h g =
    let e : (length (b ∷ piece) == 0) ≡ false = search rules in
    let n : suc most - 1 ≡ most = omega arith in
    rw e (rw n refl)

after_both : (text line : List ℕ) (l : Lines) → after text (after line l) ≡ after (text ++ line) l
after_both text line l = ap (λ (t : List ℕ). record { text = t; ending = l.ending }) (sym (append_assoc text line l.text))

closes : (total l : Lines) (text : List ℕ) (e : Ending) → total ≡ after text l → l ≡ ends e → record { text = text; ending = e } ≡ total
closes total l text e h k =
    sym (h ∙ (ap (after text) k ∙ ap (λ (t : List ℕ). record { text = t; ending = e }) (append-nil text)))

-- nothing is left
pub none_left : (total : Lines) (text : List ℕ) (most : ℕ) (columns : List Shape) (at : ℕ) (piece : List ℕ) → length piece ≡ 0
    → total ≡ after text (lines_from most columns at piece) → record { text = text; ending = ending.Between } ≡ total
unfolding lines_from
none_left total text zero columns at piece e h = closes total _ text ending.Between h refl
none_left total text (suc most) columns at [] e h = closes total _ text ending.Between h refl
none_left total text (suc most) columns at (b ∷ piece) e h = absurd (omega (arith, e))

pub no_more : (total : Lines) (text : List ℕ) (most : ℕ) (columns : List Shape) (at : ℕ) (piece : List ℕ) → most ≡ 0
    → total ≡ after text (lines_from most columns at piece) → record { text = text; ending = ending.Between } ≡ total
unfolding lines_from
no_more total text zero columns at piece e h = closes total _ text ending.Between h refl
no_more total text (suc most) columns at piece e h = absurd (omega (arith, e))

-- what is left ends inside a token
pub ends_inside : (total : Lines) (text : List ℕ) (most : ℕ) (r v : Parser) (piece : List ℕ) → 0 < most → 0 < length piece → IsPlain r
    → outcome_of (next_token r piece) ≡ laid_out r piece → Inside v ≡ next_token r piece
    → total ≡ after text (lines_from most r.walk.columns r.start piece) → record { text = text; ending = ending.Inside } ≡ total
ends_inside total text most r v piece m n p law e h =
    let s = short_by r piece (read_token r.walk.columns piece) refl (found r piece (Inside v) p law e) in
    closes total _ text ending.Inside h
    (turned most r.walk.columns r.start piece m n ∙ ap (by_token (lines_from (most - 1)) r.start piece) s)

-- it has a fault
pub ends_refused : (total : Lines) (text : List ℕ) (most : ℕ) (r : Parser) (piece : List ℕ) (refusal : Refusal) → 0 < most → 0 < length piece → IsPlain r → IsReady r
    → r.start + length piece ≤ 18446744073709551615
    → outcome_of (next_token r piece) ≡ laid_out r piece → Refuses refusal ≡ next_token r piece
    → total ≡ after text (lines_from most r.walk.columns r.start piece) → record { text = text; ending = ending.Refused refusal.fault refusal.at } ≡ total
ends_refused total text most r piece refusal m n p ready fits law e h =
    let f = failed_by r piece refusal (read_token r.walk.columns piece) refl (found r piece (Refuses refusal) p law e) in
    let few = front_length piece f.rest in
    let a : refusal.at ≡ r.start + (length (front_of piece f.rest) - 1) = omega (arith, f.at, ready.passed, few, fits) in
    closes total _ text (ending.Refused refusal.fault refusal.at) h
    (turned most r.walk.columns r.start piece m n
    ∙ (ap (by_token (lines_from (most - 1)) r.start piece) f.read
    ∙ ap (λ (k : ℕ). ends (ending.Refused refusal.fault k)) (sym a)))

pub record Turned (total : Lines) (text : List ℕ) (most : ℕ) (r v : Parser) (piece rest : List ℕ) : Type 0 where
  pub does : total ≡ after text (lines_from most v.walk.columns v.start rest)
  pub within : v.start + length rest ≡ r.start + length piece

-- a token has ended
pub one_more : (total : Lines) (text : List ℕ) (most : ℕ) (r v : Parser) (piece rest : List ℕ) (token : Token) → 0 < most → 0 < length piece → IsPlain r → IsReady r
    → r.start + length piece ≤ 18446744073709551615 → length rest ≤ length piece
    → outcome_of (next_token r piece) ≡ laid_out r piece → Sees token v rest ≡ next_token r piece → v.start ≡ added token.start token.length
    → total ≡ after text (lines_from most r.walk.columns r.start piece) → Turned total (text ++ token_line token) (most - 1) r v piece rest
one_more total text most r v piece rest token m n p ready fits shorter law e next h =
    let d = ended_by r v piece rest token (read_token r.walk.columns piece) refl (found r piece (Sees token v rest) p law e) in
    let few = front_length piece rest in
    let t : token ≡ token_of token.kind r.start (front_of piece rest) = d.is ∙ plain_token r token.kind (front_of piece rest) ready (omega (arith, few, fits)) in
    let a : token.start ≡ r.start = ap (λ (u : Token). u.start) t in
    let l : token.length ≡ length (front_of piece rest) = ap (λ (u : Token). u.length) t in
    let s : v.start ≡ r.start + length (front_of piece rest) = omega (arith, next, a, l, few, fits) in
    let whole = front_whole piece rest shorter in
    let line : token_line (token_of token.kind r.start (front_of piece rest)) ≡ token_line token = ap (λ (u : Token). token_line u) (sym t) in
    record {
      does =
          h ∙ (ap (after text) (turned most r.walk.columns r.start piece m n
          ∙ (ap (by_token (lines_from (most - 1)) r.start piece) d.read
          ∙ (ap (λ (x : List ℕ). after x (lines_from (most - 1) v.walk.columns (r.start + length (front_of piece rest)) rest)) line
          ∙ ap (λ (k : ℕ). after (token_line token) (lines_from (most - 1) v.walk.columns k rest)) (sym s))))
          ∙ after_both text (token_line token) _);
      within = omega (arith, s, whole);
    }

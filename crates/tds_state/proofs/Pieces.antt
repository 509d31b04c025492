-- How bytes are cut into pieces doesn't matter.
use Rattle.std.proofs.Common.{◌≡◌, ◌∙◌, ℕ, zero, suc, ◌-◌, Bool, true, false, cond, List, [], ◌∷◌, ◌++◌, length, take, get_or, refl, sym, ap, arith, append_assoc, Option, Some, None}
use Rattle.std.proofs.lemmas.List.{append-nil}
use Rattle.tds_wire.specs.declared.told.Token.{Token}
use Rattle.tds_state.specs.declared.asked.Asked.{Asked}
use Rattle.tds_state.specs.declared.asked.Request.{Request}
use Rattle.tds_state.specs.declared.asked.Request.TheVariants.{Batch, Procedure, Other}
use Rattle.tds_state.specs.declared.session.Session.{Session}
use Rattle.tds_state.specs.declared.tracker.Tracker.{Tracker}
use Rattle.tds_state.specs.Asking.{with_body}
use Rattle.tds_state.specs.Hearing.{state_news}
use Rattle.tds_state.specs.KeptBytes.{KeptBytes, no_bytes_kept}
use Rattle.tds_state.specs.Sessions.{session_told, session_sent}
use Rattle.tds_state.specs.Tracking.{is_needed, tracks}
use Rattle.tds_state.proofs.KeptBytes.{take_front}
use Rattle.tds_state.proofs.Letters.{letters_append}

-- ---- Of a token

abbrev part : Bool → List ℕ → List ℕ → List ℕ
part all before more = cond all more (take (1 - length before) more)

abbrev kept_with : Bool → ℕ → List ℕ → List ℕ → List ℕ
kept_with all n before more = take n (before ++ part all before more)

abbrev kept_by : ℕ → List ℕ → List ℕ → List ℕ
kept_by n before more = kept_with (is_needed (get_or (before ++ more) 0 0)) n before more

none_left : (y : ℕ) (ys more : List ℕ) → take (1 - length (y ∷ ys)) more ≡ []
none_left y ys more =
    let none : 1 - length (y ∷ ys) ≡ 0 = omega arith in
    ap (λ (n : ℕ). take n more) none

cut_with : (all : Bool) (n y : ℕ) (ys a b : List ℕ) → kept_with all (suc n) (kept_with all (suc n) (y ∷ ys) a) b ≡ kept_with all (suc n) (y ∷ ys) (a ++ b)
cut_with true n y ys a b = ap (λ (xs : List ℕ). y ∷ xs) (take_front n (ys ++ a) b ∙ ap (take n) (append_assoc ys a b))
cut_with false n y ys a b =
    ap (λ (xs : List ℕ). kept_with false (suc n) (take (suc n) ((y ∷ ys) ++ xs)) b) (none_left y ys a)
    ∙ (ap (λ (xs : List ℕ). y ∷ take n (take n (ys ++ []) ++ xs)) (none_left y (take n (ys ++ [])) b)
    ∙ (ap (λ (xs : List ℕ). y ∷ xs) (take_front n (ys ++ []) [] ∙ ap (take n) (append-nil (ys ++ [])))
    ∙ ap (λ (xs : List ℕ). y ∷ take n (ys ++ xs)) (sym (none_left y ys (a ++ b)))))

cut_first : (all : Bool) (n x : ℕ) (xs b : List ℕ) → is_needed x ≡ all → kept_by (suc n) (kept_by (suc n) [] (x ∷ xs)) b ≡ kept_by (suc n) [] (x ∷ (xs ++ b))
cut_first true n x xs b is =
    ap (λ (c : Bool). kept_by (suc n) (kept_with c (suc n) [] (x ∷ xs)) b) is
    ∙ (ap (λ (c : Bool). kept_with c (suc n) (x ∷ take n xs) b) is
    ∙ (ap (λ (ys : List ℕ). x ∷ ys) (take_front n xs b)
    ∙ ap (λ (c : Bool). kept_with c (suc n) [] (x ∷ (xs ++ b))) (sym is)))
cut_first false n x xs b is =
    ap (λ (c : Bool). kept_by (suc n) (kept_with c (suc n) [] (x ∷ xs)) b) is
    ∙ (ap (λ (c : Bool). kept_with c (suc n) (x ∷ take n []) b) is
    ∙ (ap (λ (ys : List ℕ). x ∷ take n (take n [] ++ ys)) (none_left x (take n []) b)
    ∙ (ap (λ (ys : List ℕ). x ∷ ys) (take_front n [] [])
    ∙ ap (λ (c : Bool). kept_with c (suc n) [] (x ∷ (xs ++ b))) (sym is))))

cut : (n : ℕ) (before a b : List ℕ) → kept_by n (kept_by n before a) b ≡ kept_by n before (a ++ b)
cut zero before a b = refl
cut (suc n) [] [] b = refl
cut (suc n) [] (x ∷ xs) b = cut_first (is_needed x) n x xs b refl
cut (suc n) (y ∷ ys) a b = cut_with (is_needed y) n y ys a b

pub token_cut : (t : Tracker) (first second : List ℕ) (token : Option Token) → tracks (tracks t first None) second token ≡ tracks t (first ++ second) token
token_cut t first second None = ap (λ (xs : List ℕ). record t { partial = record t.partial { bytes = xs } }) (cut t.partial.most t.partial.bytes first second)
token_cut t first second (Some token) =
    ap (λ (xs : List ℕ). record t { session = session_told t.session (state_news token xs); partial = no_bytes_kept t.partial.most }) (cut t.partial.most t.partial.bytes first second)

-- ---- Of a request's body

sent_twice : (kind : Request) (head : KeptBytes) (letters : ℕ) (x y : List ℕ) → let a : Asked = record { kind = kind; head = head; letters = letters } in with_body (with_body a x) y ≡ with_body a (x ++ y)
sent_twice Batch head letters x y = ap (λ (n : ℕ). record { kind = Batch; head = head; letters = n }) (sym (letters_append x y letters))
sent_twice Procedure head letters x y =
    ap (λ (xs : List ℕ). record { kind = Procedure; head = record head { bytes = xs }; letters = letters })
    (take_front head.most (head.bytes ++ x) y ∙ ap (take head.most) (append_assoc head.bytes x y))
sent_twice Other head letters x y = refl

pub body_cut : (s : Session) (first second : List ℕ) → session_sent (session_sent s first) second ≡ session_sent s (first ++ second)
body_cut s first second = ap (λ (a : Asked). record s { asked = a }) (sent_twice s.asked.kind s.asked.head s.asked.letters first second)

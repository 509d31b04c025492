-- The letters of `bulk`, as they come and as they stand in a batch.
use Rattle.std.proofs.Common.{◌≡◌, ◌∙◌, ◌<◌, ℕ, zero, suc, ◌+◌, Bool, true, false, cond, List, [], ◌∷◌, ◌++◌, refl, sym, ap, arith, Some, None, ⊎_elim}
use Rattle.std.proofs.lemmas.Bool.{false≢true}
use Rattle.std.specs.Prelude.{◌&&◌, ◌||◌}
use Rattle.tds_packet.specs.declared.status.Reset.TheVariants.{Full, KeepTransaction}
use Rattle.tds_state.specs.declared.asked.Asked.{Asked}
use Rattle.tds_state.specs.declared.asked.Request.{Request}
use Rattle.tds_state.specs.declared.asked.Request.TheVariants.{Batch, Procedure, Other}
use Rattle.tds_state.specs.Hearing.{Unread, Nothing, Recovery, States, Value, Transaction, ResetDone, Done, Returned, Failed}
use Rattle.std.proofs.Common.{drop, subst}
use Rattle.std.proofs.lemmas.Bool.{and_left, and_right, cases_eq, eq-eqb, ne_eqb}
use Rattle.std.specs.Prelude.{◌==◌, nat_lt}
use Rattle.tds_state.specs.Asking.{bulk, letters_after, letters_next, body_sent_by, small}
use Rattle.tds_state.specs.Pasts.{Remark, Begins, Goes, Cancels, Tells, Ends, begins_with, newest_has_bulk, session_said, stands_within}

-- the letters behind the first one
abbrev tail : List ℕ
tail = 0 ∷ 117 ∷ 0 ∷ 108 ∷ 0 ∷ 107 ∷ 0 ∷ []

all_came : (xs : List ℕ) → letters_after 8 xs ≡ 8
unfolding letters_after
all_came [] = refl
all_came (x ∷ xs) = all_came xs

one_more : (p came : ℕ) (left xs : List ℕ) (x : ℕ)
    → (begins_with left xs ≡ false → ((p == 98) && begins_with tail xs) ≡ false)
    → (nat_lt (letters_after (came + 1) xs) 8 ≡ true → (begins_with left xs ≡ false) × (stands_within bulk xs ≡ false))
    → (nat_lt (letters_after 1 xs) 8 ≡ true → (begins_with tail xs ≡ false) × (stands_within bulk xs ≡ false))
    → (nat_lt (letters_after 0 xs) 8 ≡ true → (begins_with bulk xs ≡ false) × (stands_within bulk xs ≡ false))
    → nat_lt (letters_after (cond (small x == p) (came + 1) (cond (small x == 98) 1 0)) xs) 8 ≡ true
    → (begins_with (p ∷ left) (x ∷ xs) ≡ false) × (stands_within bulk (x ∷ xs) ≡ false)
unfolding begins_with stands_within
one_more p came left xs x head more again none h = ⊎_elim here elsewhere (cases_eq (small x) p) where
  here : small x ≡ p → (((small x == p) && begins_with left xs) ≡ false) × ((((small x == 98) && begins_with tail xs) || stands_within bulk xs) ≡ false)
  here e =
      let m = more (sym (ap (λ (b : Bool). nat_lt (letters_after (cond b (came + 1) (cond (small x == 98) 1 0)) xs) 8) (eq-eqb (small x) p e)) ∙ h) in
      let first : ((small x == 98) && begins_with tail xs) ≡ false = ap (λ (n : ℕ). (n == 98) && begins_with tail xs) e ∙ head m.0 in
      (and_right (small x == p) (begins_with left xs) m.0, ap (λ (b : Bool). b || stands_within bulk xs) first ∙ m.1)

  elsewhere : (small x ≡ p → ⊥) → (((small x == p) && begins_with left xs) ≡ false) × ((((small x == 98) && begins_with tail xs) || stands_within bulk xs) ≡ false)
  elsewhere ne =
      let not_p = ne_eqb (small x) p ne in
      let k = sym (ap (λ (b : Bool). nat_lt (letters_after (cond b (came + 1) (cond (small x == 98) 1 0)) xs) 8) not_p) ∙ h in
      let rest : (((small x == 98) && begins_with tail xs) || stands_within bulk xs) ≡ false = ⊎_elim
      (λ e. let m = again (sym (ap (λ (b : Bool). nat_lt (letters_after (cond b 1 0) xs) 8) (eq-eqb (small x) 98 e)) ∙ k) in
      ap (λ (b : Bool). b || stands_within bulk xs) (and_right (small x == 98) (begins_with tail xs) m.0) ∙ m.1)
      (λ nf. let m = none (sym (ap (λ (b : Bool). nat_lt (letters_after (cond b 1 0) xs) 8) (ne_eqb (small x) 98 nf)) ∙ k) in
      ap (λ (b : Bool). b || stands_within bulk xs) (and_left (small x == 98) (begins_with tail xs) (ne_eqb (small x) 98 nf)) ∙ m.1)
      (cases_eq (small x) 98) in
      (and_left (small x == p) (begins_with left xs) not_p, rest)

not_begun : (xs : List ℕ) (came : ℕ) → came < 8 → nat_lt (letters_after came xs) 8 ≡ true → (begins_with (drop came bulk) xs ≡ false) × (stands_within bulk xs ≡ false)
unfolding letters_after begins_with stands_within
not_begun [] zero few h = (refl, refl)
not_begun [] (suc zero) few h = (refl, refl)
not_begun [] (suc (suc zero)) few h = (refl, refl)
not_begun [] (suc (suc (suc zero))) few h = (refl, refl)
not_begun [] (suc (suc (suc (suc zero)))) few h = (refl, refl)
not_begun [] (suc (suc (suc (suc (suc zero))))) few h = (refl, refl)
not_begun [] (suc (suc (suc (suc (suc (suc zero)))))) few h = (refl, refl)
not_begun [] (suc (suc (suc (suc (suc (suc (suc zero))))))) few h = (refl, refl)
not_begun [] (suc (suc (suc (suc (suc (suc (suc (suc more)))))))) few h = absurd (omega (arith, few))
not_begun (x ∷ xs) zero few h =
    one_more 98 0 (0 ∷ 117 ∷ 0 ∷ 108 ∷ 0 ∷ 107 ∷ 0 ∷ []) xs x (λ m. m) (λ m. not_begun xs 1 (omega arith) m) (λ m. not_begun xs 1 (omega arith) m) (λ m. not_begun xs 0 (omega arith) m) h
not_begun (x ∷ xs) (suc zero) few h =
    one_more 0 1 (117 ∷ 0 ∷ 108 ∷ 0 ∷ 107 ∷ 0 ∷ []) xs x (λ m. refl) (λ m. not_begun xs 2 (omega arith) m) (λ m. not_begun xs 1 (omega arith) m) (λ m. not_begun xs 0 (omega arith) m) h
not_begun (x ∷ xs) (suc (suc zero)) few h =
    one_more 117 2 (0 ∷ 108 ∷ 0 ∷ 107 ∷ 0 ∷ []) xs x (λ m. refl) (λ m. not_begun xs 3 (omega arith) m) (λ m. not_begun xs 1 (omega arith) m) (λ m. not_begun xs 0 (omega arith) m) h
not_begun (x ∷ xs) (suc (suc (suc zero))) few h =
    one_more 0 3 (108 ∷ 0 ∷ 107 ∷ 0 ∷ []) xs x (λ m. refl) (λ m. not_begun xs 4 (omega arith) m) (λ m. not_begun xs 1 (omega arith) m) (λ m. not_begun xs 0 (omega arith) m) h
not_begun (x ∷ xs) (suc (suc (suc (suc zero)))) few h =
    one_more 108 4 (0 ∷ 107 ∷ 0 ∷ []) xs x (λ m. refl) (λ m. not_begun xs 5 (omega arith) m) (λ m. not_begun xs 1 (omega arith) m) (λ m. not_begun xs 0 (omega arith) m) h
not_begun (x ∷ xs) (suc (suc (suc (suc (suc zero))))) few h =
    one_more 0 5 (107 ∷ 0 ∷ []) xs x (λ m. refl) (λ m. not_begun xs 6 (omega arith) m) (λ m. not_begun xs 1 (omega arith) m) (λ m. not_begun xs 0 (omega arith) m) h
not_begun (x ∷ xs) (suc (suc (suc (suc (suc (suc zero)))))) few h =
    one_more 107 6 (0 ∷ []) xs x (λ m. refl) (λ m. not_begun xs 7 (omega arith) m) (λ m. not_begun xs 1 (omega arith) m) (λ m. not_begun xs 0 (omega arith) m) h
not_begun (x ∷ xs) (suc (suc (suc (suc (suc (suc (suc zero))))))) few h =
    one_more 0 7 ([]) xs x (λ m. refl) (λ m. absurd (false≢true (sym (ap (λ (n : ℕ). nat_lt n 8) (all_came xs)) ∙ m))) (λ m. not_begun xs 1 (omega arith) m) (λ m. not_begun xs 0 (omega arith) m) h
not_begun (x ∷ xs) (suc (suc (suc (suc (suc (suc (suc (suc more)))))))) few h = absurd (omega (arith, few))

pub not_standing : (xs : List ℕ) → nat_lt (letters_after 0 xs) 8 ≡ true → stands_within bulk xs ≡ false
not_standing xs h = (not_begun xs 0 (omega arith) h).1

pub letters_append : (xs ys : List ℕ) (came : ℕ) → letters_after came (xs ++ ys) ≡ letters_after (letters_after came xs) ys
unfolding letters_after
letters_append [] ys came = refl
letters_append (x ∷ xs) ys came = letters_append xs ys (letters_next came x)

-- ---- A batch

abbrev FreeBy : Request → ℕ → List ℕ → Type 0
FreeBy Batch letters body = nat_lt (letters_after letters body) 8 ≡ true
FreeBy Procedure letters body = Unit {0}
FreeBy Other letters body = Unit {0}

sent_free : (kind : Request) (a : Asked) (bytes body : List ℕ) → a.kind ≡ kind → FreeBy (body_sent_by kind a bytes).kind (body_sent_by kind a bytes).letters body → FreeBy kind a.letters (bytes ++ body)
sent_free Batch a bytes body is h =
    ap (λ (n : ℕ). nat_lt n 8) (letters_append bytes body a.letters) ∙ subst (λ (k : Request). FreeBy k (letters_after a.letters bytes) body) is h
sent_free Procedure a bytes body is h = tt
sent_free Other a bytes body is h = tt

free_now : (kind : Request) (letters : ℕ) → nat_lt letters 8 ≡ true → FreeBy kind letters []
unfolding letters_after
free_now Batch letters h = h
free_now Procedure letters h = tt
free_now Other letters h = tt

bulk_free : (body : List ℕ) (past : List Remark) → FreeBy (session_said past).asked.kind (session_said past).asked.letters body → newest_has_bulk body past ≡ false
unfolding session_said newest_has_bulk
bulk_free body [] h = refl
bulk_free body (Begins Batch None ∷ past) h = not_standing body h
bulk_free body (Begins Batch (Some Full) ∷ past) h = not_standing body h
bulk_free body (Begins Batch (Some KeepTransaction) ∷ past) h = not_standing body h
bulk_free body (Begins Procedure None ∷ past) h = refl
bulk_free body (Begins Procedure (Some Full) ∷ past) h = refl
bulk_free body (Begins Procedure (Some KeepTransaction) ∷ past) h = refl
bulk_free body (Begins Other None ∷ past) h = refl
bulk_free body (Begins Other (Some Full) ∷ past) h = refl
bulk_free body (Begins Other (Some KeepTransaction) ∷ past) h = refl
bulk_free body (Goes bytes ∷ past) h = bulk_free (bytes ++ body) past (sent_free (session_said past).asked.kind (session_said past).asked bytes body refl h)
bulk_free body (Cancels ∷ past) h = bulk_free body past h
bulk_free body (Tells Unread ∷ past) h = bulk_free body past h
bulk_free body (Tells Nothing ∷ past) h = bulk_free body past h
bulk_free body (Tells (Returned value) ∷ past) h = bulk_free body past h
bulk_free body (Tells Failed ∷ past) h = bulk_free body past h
bulk_free body (Tells (Recovery states) ∷ past) h = bulk_free body past h
bulk_free body (Tells (States ok all) ∷ past) h = bulk_free body past h
bulk_free body (Tells (Value type value) ∷ past) h = bulk_free body past h
bulk_free body (Tells (Transaction descriptor) ∷ past) h = bulk_free body past h
bulk_free body (Tells ResetDone ∷ past) h = bulk_free body past h
bulk_free body (Tells (Done kind status) ∷ past) h = bulk_free body past h
bulk_free body (Ends ∷ past) h = bulk_free body past h

pub no_bulk : (past : List Remark) → nat_lt (session_said past).asked.letters 8 ≡ true → newest_has_bulk [] past ≡ false
no_bulk past h = bulk_free [] past (free_now (session_said past).asked.kind (session_said past).asked.letters h)

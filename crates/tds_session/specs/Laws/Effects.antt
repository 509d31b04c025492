-- What each statement of the batch language does is lawful.
use Rattle.std.proofs.Common.{◌≡◌, ℕ, zero, suc, ◌+◌, pos, Bool, true, false, List, [], ◌∷◌, ◌++◌, Option, Some, None, if◌then◌else◌, ◌==◌, refl, sym, ap, arith, lit<, subst, codes}
use Rattle.std.specs.List.{All}
use Rattle.std.proofs.lemmas.Bool.Decides.{nat_tests}
use Rattle.std.proofs.lemmas.List.Elements.{All-nil, All-cons}
use Rattle.tds_session.specs.Session.{SessionState, value_of, transacting, out_of_transaction, last_descriptor}
use Rattle.tds_session.specs.Effects.{message, error_token, done, begin_by, end_by}
use Rattle.tds_session.specs.Script.{with_more, rows_from, result_set, row_column, step_of}
use Rattle.tds_session.specs.Lawful.{IsEffect, IsStatementDone, IsNoReset}
use Rattle.tds_session.specs.declared.statement.Statement.{Statement}
use Rattle.tds_session.specs.declared.statement.Statement.TheVariants as statement
use Rattle.tds_token.specs.declared.env_change.EnvChange.{EnvChange}
use Rattle.tds_token.specs.declared.env_change.EnvChange.TheVariants as change
use Rattle.tds_token.specs.declared.token.Token.{Token}
use Rattle.tds_token.specs.declared.token.Token.TheVariants as token
use Rattle.tds_token.specs.Told.{applied, changes_of, no_reset, change_applied, applied_on}

one : {A : Type 0} (P : A → Type 0) (x : A) → P x → All P (x ∷ [])
one P x h = All-cons P x [] h (All-nil P)

two : {A : Type 0} (P : A → Type 0) (x y : A) → P x → P y → All P (x ∷ y ∷ [])
two P x y h k = All-cons P x (y ∷ []) h (one P y k)

done_more : IsStatementDone (done 1)
done_more = (refl, refl)

-- an ERROR alone
error_is : (number : ℕ) (text : List ℕ) (s : SessionState) → IsEffect s (record { tokens = error_token number text ∷ []; after = s })
error_is number text s = record { some = lit< tt; applies = refl; resets = All-nil IsNoReset; dones = one IsStatementDone (error_token number text) tt }

-- a change of the transaction and a DONE
change_is : (s after : SessionState) (change : EnvChange) → IsNoReset change → change_applied no_reset s.descriptor change ≡ Some after.descriptor
    → IsEffect s (record { tokens = token.Env change ∷ done 1 ∷ []; after = after })
change_is s after change h e = record {
  some = lit< tt;
  applies = ap (λ found. applied_on (λ next. Some next) found) e;
  resets = one IsNoReset change h;
  dones = two IsStatementDone (token.Env change) (done 1) tt done_more;
}

begin_is : (outside used_up : Bool) (s : SessionState) → (s.descriptor == 0) ≡ outside → IsEffect s (with_more (begin_by outside used_up s))
begin_is false used_up s e = error_is 50002 (codes "in transaction") s
begin_is true true s e = error_is 50004 (codes "no descriptor") s
begin_is true false s e = change_is s (transacting s) (change.Begin s.next_descriptor) tt (ap (λ (b : Bool). if b then Some s.next_descriptor else None) e)

found_again : (d : ℕ) → if◌then◌else◌ {A = Option ℕ} (d == d) (Some 0) None ≡ Some 0
found_again d = let e : (d == d) ≡ true = grind (arith, nat_tests) in ap (λ (b : Bool). if◌then◌else◌ {A = Option ℕ} b (Some 0) None) e

commit_is : (outside : Bool) (s : SessionState) → IsEffect s (with_more (end_by outside change.Commit s))
commit_is true s = error_is 50003 (codes "no transaction") s
commit_is false s = change_is s (out_of_transaction s) (change.Commit s.descriptor) tt (found_again s.descriptor)

rollback_is : (outside : Bool) (s : SessionState) → IsEffect s (with_more (end_by outside change.Rollback s))
rollback_is true s = error_is 50003 (codes "no transaction") s
rollback_is false s = change_is s (out_of_transaction s) (change.Rollback s.descriptor) tt (found_again s.descriptor)

rows_change_nothing : (first count : ℕ) (others : List Token) → changes_of (rows_from first count ++ others) ≡ changes_of others
rows_change_nothing first zero others = refl
rows_change_nothing first (suc count) others = rows_change_nothing (first + 1) count others

rows_are_no_dones : (first count : ℕ) (others : List Token) → All IsStatementDone others → All IsStatementDone (rows_from first count ++ others)
rows_are_no_dones first zero others h = h
rows_are_no_dones first (suc count) others h =
    All-cons IsStatementDone (token.Row (pos first ∷ [])) (rows_from (first + 1) count ++ others) tt (rows_are_no_dones (first + 1) count others h)

result_is : (first count : ℕ) (s : SessionState) → IsEffect s (record { tokens = result_set first count; after = s })
result_is first count s = record {
  some = omega arith;
  applies = ap (λ cs. applied no_reset s.descriptor cs) (rows_change_nothing first count (token.Done 17 0 count ∷ []));
  resets = let P : List EnvChange → Type 0 = λ cs. All IsNoReset cs in subst P (sym (rows_change_nothing first count (token.Done 17 0 count ∷ []))) (All-nil IsNoReset);
  dones = All-cons IsStatementDone (token.Columns (row_column ∷ [])) (rows_from first count ++ token.Done 17 0 count ∷ []) tt
      (rows_are_no_dones first count (token.Done 17 0 count ∷ []) (one IsStatementDone (token.Done 17 0 count) (refl, refl)));
}

pub step_is : (s : SessionState) (q : Statement) → IsEffect s (step_of s q)
step_is s (statement.Say word) = record { some = lit< tt; applies = refl; resets = All-nil IsNoReset; dones = two IsStatementDone (token.Info (message 50000 0 word)) (done 1) tt done_more }
step_is s (statement.Rows first count) = result_is first count s
step_is s (statement.Set key value) = record { some = lit< tt; applies = refl; resets = All-nil IsNoReset; dones = one IsStatementDone (done 1) done_more }
step_is s (statement.Get key) = record { some = lit< tt; applies = refl; resets = All-nil IsNoReset; dones = two IsStatementDone (token.ReturnStatus (value_of s key)) (done 1) tt done_more }
step_is s statement.Begin = begin_is (s.descriptor == 0) (s.next_descriptor == last_descriptor) s refl
step_is s statement.Commit = commit_is (s.descriptor == 0) s
step_is s statement.Rollback = rollback_is (s.descriptor == 0) s
step_is s (statement.Fail number) = error_is number (codes "fail") s

-- A server with the batch language hands out what the session's next descriptor says; so does any
-- whose statements do.
use Rattle.std.proofs.Common.{◌≡◌, ℕ, zero, suc, ◌+◌, List, [], ◌∷◌, ◌++◌, Bool, true, false, cond, refl, ap, sym, subst, Option, Some, None, eqb, flat_map}
use Rattle.std.specs.List.{list_any}
use Rattle.std.specs.Prelude.{◌==◌}
use Rattle.tds_packet.specs.declared.status.Reset.{Reset}
use Rattle.tds_packet.specs.declared.status.Reset.TheVariants.{Full, KeepTransaction}
use Rattle.tds_request.specs.declared.request.Request.{Request}
use Rattle.tds_request.specs.declared.request.Request.TheVariants as request
use Rattle.tds_session.specs.Answer.{Step, last_step, and_then, batch_steps, steps_in, steps_of, wrong_descriptor, answer_to, answer_of, script_answers}
use Rattle.tds_session.specs.declared.statement.Statement.{Statement}
use Rattle.tds_session.specs.declared.statement.Statement.TheVariants as statement
use Rattle.tds_session.specs.declared.transaction.Ending.{Ending}
use Rattle.tds_session.specs.declared.transaction.Ending.TheVariants as ending
use Rattle.tds_session.specs.Effects.{Effect, is_error, has_error, done, begin_by, begins, end_by, ends, told_by, renew_by, completes}
use Rattle.tds_session.specs.Language.{statements_of}
use Rattle.tds_session.specs.Script.{step_of, rows_from, with_more}
use Rattle.tds_session.specs.Session.{SessionState, after_reset, last_descriptor}
use Rattle.tds_token.specs.declared.env_change.EnvChange.TheVariants as change
use Rattle.tds_token.specs.declared.token.Token.{Token}
use Rattle.tds_token.specs.declared.token.Token.TheVariants as token
use Rattle.tds_token.specs.Told.{changes_of}
use Rattle.tds_world.specs.Begins.{CountFrom, HandsOut, HandsOutNext}
use Rattle.tds_world.specs.Bounds.{begun_by}
use Rattle.tds_world.proofs.events.Words.{either}

-- An effect begins what the session's next descriptor says.
abbrev pub Counts : SessionState → Effect → Type 0
Counts s e = CountFrom s.next_descriptor (flat_map begun_by (changes_of e.tokens)) e.after.next_descriptor

-- A DONE begins nothing.
changes_done : (n : ℕ) (ts : List Token) → changes_of (ts ++ done n ∷ []) ≡ changes_of ts
changes_done n [] = refl
changes_done n (token.Info m ∷ ts) = changes_done n ts
changes_done n (token.Error m ∷ ts) = changes_done n ts
changes_done n (token.ReturnStatus v ∷ ts) = changes_done n ts
changes_done n (token.Columns cs ∷ ts) = changes_done n ts
changes_done n (token.Row vs ∷ ts) = changes_done n ts
changes_done n (token.Env e ∷ ts) = ap (λ cs. e ∷ cs) (changes_done n ts)
changes_done n (token.Done a b c ∷ ts) = changes_done n ts

with_done_counts : (n : ℕ) (s : SessionState) (e : Effect) → Counts s e → CountFrom s.next_descriptor (flat_map begun_by (changes_of (e.tokens ++ done n ∷ []))) e.after.next_descriptor
with_done_counts n s e h = subst (λ cs. CountFrom s.next_descriptor (flat_map begun_by cs) e.after.next_descriptor) (sym (changes_done n e.tokens)) h

-- ---- The transaction requests

begin_counts : (outside used_up : Bool) (s : SessionState) → Counts s (begin_by outside used_up s)
begin_counts false used_up s = refl
begin_counts true true s = refl
begin_counts true false s = (refl, refl)

commit_counts : (outside : Bool) (s : SessionState) → Counts s (end_by outside change.Commit s)
commit_counts true s = refl
commit_counts false s = refl

rollback_counts : (outside : Bool) (s : SessionState) → Counts s (end_by outside change.Rollback s)
rollback_counts true s = refl
rollback_counts false s = refl

end_counts : (outside : Bool) (how : Ending) (s : SessionState) → Counts s (end_by outside (told_by how) s)
end_counts outside ending.Commit s = commit_counts outside s
end_counts outside ending.Rollback s = rollback_counts outside s

-- One ends, and the next one begins: it alone has the next descriptor.
renewal_counts : (outside used_up : Bool) (how : Ending) (s : SessionState) → Counts s (renew_by outside used_up how s)
renewal_counts true used_up how s = refl
renewal_counts false true how s = refl
renewal_counts false false ending.Commit s = (refl, refl)
renewal_counts false false ending.Rollback s = (refl, refl)

completion_counts : (how : Ending) (anew : Option ℕ) (s : SessionState) → Counts s (completes how anew s)
completion_counts how None s = end_counts (s.descriptor == 0) how s
completion_counts how (Some isolation) s = renewal_counts (s.descriptor == 0) (s.next_descriptor == last_descriptor) how s

-- ---- The answers of an engine whose statements do

last_hands : (s : SessionState) (e : Effect) → Counts s e → HandsOut s (last_step e ∷ [])
last_hands s e h = (with_done_counts (cond (has_error e) 2 0) s e h, tt)

and_hands : (b : Bool) (s : SessionState) (e : Effect) (ss : List Step) → Counts s e → HandsOut e.after ss → HandsOut s (and_then b e ss)
and_hands true s e ss h g = (h, (refl, tt))
and_hands false s e ss h g = (h, g)

batch_hands : {S : Type 0} (step : SessionState → S → Effect) → ((s : SessionState) (q : S) → Counts s (step s q)) → (s : SessionState) (qs : List S) → HandsOut s (batch_steps step s qs)
batch_hands step h s [] = (refl, tt)
batch_hands step h s (q ∷ qs) = and_hands (has_error (step s q)) s (step s q) (batch_steps step (step s q).after qs) (h s q) (batch_hands step h (step s q).after qs)

in_hands : {S : Type 0} (step : SessionState → S → Effect) → ((s : SessionState) (q : S) → Counts s (step s q)) → (s : SessionState) (qs : Option (List S)) → HandsOut s (steps_in step s qs)
in_hands step h s None = (refl, (refl, tt))
in_hands step h s (Some qs) = batch_hands step h s qs

of_hands : {S : Type 0} (statements : List ℕ → Option (List S)) (step : SessionState → S → Effect) → ((s : SessionState) (q : S) → Counts s (step s q)) → (s : SessionState) (q : Request) → HandsOut s (steps_of statements step s q)
of_hands statements step h s (request.Batch text) = in_hands step h s (statements text)
of_hands statements step h s (request.Begin i) = last_hands s (begins s) (begin_counts (s.descriptor == 0) (s.next_descriptor == last_descriptor) s)
of_hands statements step h s (request.Commit anew) = last_hands s (completes ending.Commit anew s) (completion_counts ending.Commit anew s)
of_hands statements step h s (request.Rollback anew) = last_hands s (completes ending.Rollback anew s) (completion_counts ending.Rollback anew s)

wrong_hands : (s : SessionState) (q : Request) → HandsOut s (wrong_descriptor s q)
wrong_hands s (request.Batch text) = (refl, (refl, tt))
wrong_hands s (request.Begin i) = (refl, tt)
wrong_hands s (request.Commit anew) = (refl, tt)
wrong_hands s (request.Rollback anew) = (refl, tt)

to_hands : {S : Type 0} (statements : List ℕ → Option (List S)) (step : SessionState → S → Effect) → ((s : SessionState) (q : S) → Counts s (step s q)) → (s : SessionState) (d : ℕ) (q : Request) → HandsOut s (answer_to statements step s d q)
to_hands statements step h s d q = either (HandsOut s) (eqb d s.descriptor) (steps_of statements step s q) (wrong_descriptor s q) (of_hands statements step h s q) (wrong_hands s q)

reset_counts : (r : Reset) (s : SessionState) → s.next_descriptor ≡ (after_reset r s).next_descriptor
reset_counts Full s = refl
reset_counts KeepTransaction s = refl

pub hands_out_next : {S : Type 0} (statements : List ℕ → Option (List S)) (step : SessionState → S → Effect) → ((s : SessionState) (q : S) → Counts s (step s q)) → HandsOutNext (answer_of statements step)
hands_out_next statements step h s d None q = to_hands statements step h s d q
hands_out_next statements step h s d (Some r) q = (reset_counts r s, to_hands statements step h (after_reset r s) d q)

-- ---- The batch language

rows_begin_nothing : (first count rows : ℕ) → changes_of (rows_from first count ++ token.Done 17 0 rows ∷ []) ≡ []
rows_begin_nothing first zero rows = refl
rows_begin_nothing first (suc count) rows = rows_begin_nothing (first + 1) count rows

done_counts : (b : Bool) (s : SessionState) (e : Effect) → Counts s e → Counts s (record { tokens = cond b e.tokens (e.tokens ++ done 1 ∷ []); after = e.after })
done_counts true s e h = h
done_counts false s e h = with_done_counts 1 s e h

more_counts : (s : SessionState) (e : Effect) → Counts s e → Counts s (with_more e)
more_counts s e h = done_counts (list_any is_error e.tokens) s e h

step_counts : (s : SessionState) (q : Statement) → Counts s (step_of s q)
step_counts s (statement.Rows first count) = subst (λ cs. CountFrom s.next_descriptor (flat_map begun_by cs) s.next_descriptor) (sym (rows_begin_nothing first count count)) refl
step_counts s statement.Begin = more_counts s (begins s) (begin_counts (s.descriptor == 0) (s.next_descriptor == last_descriptor) s)
step_counts s statement.Commit = more_counts s (ends change.Commit s) (commit_counts (s.descriptor == 0) s)
step_counts s statement.Rollback = more_counts s (ends change.Rollback s) (rollback_counts (s.descriptor == 0) s)
step_counts s q = refl

pub script_hands_out_next : HandsOutNext script_answers
script_hands_out_next = hands_out_next statements_of step_of step_counts

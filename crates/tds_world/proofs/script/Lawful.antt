-- Answers made of an engine's two functions are lawful.
use Rattle.std.proofs.Common.{◌≡◌, ℕ, List, [], ◌∷◌, ◌++◌, Bool, true, false, cond, refl, ap, ◌∙◌, Option, Some, None, eqb, arith}
use Rattle.std.proofs.lemmas.Bool.Decides.{nat_tests}
use Rattle.std.specs.Prelude.{codes, ◌==◌, if◌then◌else◌}
use Rattle.tds_packet.specs.declared.status.Reset.{Reset}
use Rattle.tds_packet.specs.declared.status.Reset.TheVariants.{Full, KeepTransaction}
use Rattle.tds_request.specs.declared.request.Request.{Request}
use Rattle.tds_request.specs.declared.request.Request.TheVariants as request
use Rattle.tds_session.specs.Answer.{Step, step_then, last_step, final_step, and_then, batch_steps, refused_batch, steps_in, steps_of, wrong_descriptor, reset_step, answer_to, answer_of, EndsOnce}
use Rattle.std.specs.List.{list_any}
use Rattle.tds_session.specs.Script.{with_more}
use Rattle.tds_session.specs.declared.transaction.Ending.{Ending}
use Rattle.tds_session.specs.declared.transaction.Ending.TheVariants as ending
use Rattle.tds_session.specs.Effects.{Effect, is_error, has_error, fails, done, begin_by, begins, end_by, told_by, renew_by, completes}
use Rattle.tds_session.specs.Session.{SessionState, after_reset, last_descriptor}
use Rattle.tds_token.specs.declared.env_change.EnvChange.TheVariants as change
use Rattle.tds_token.specs.declared.token.Token.{Token}
use Rattle.tds_token.specs.declared.token.Token.TheVariants as token
use Rattle.tds_token.specs.Told.{applied, applied_on, changes_of, no_reset}
use Rattle.tds_world.specs.Arrivals.{heard_after}
use Rattle.tds_world.specs.Lawful.{TellsChanges, TakesNoReset, Lawful}
use Rattle.tds_world.proofs.events.Words.{either}

-- An effect tells the change of its session.
abbrev pub Tells : SessionState → Effect → Type 0
Tells s e = applied no_reset s.descriptor (changes_of e.tokens) ≡ Some e.after.descriptor

-- A list of steps has what the laws ask of an answer without a reset, from this session.
pub record Good (s : SessionState) (ss : List Step) : Type 0 where
  pub ends : EndsOnce ss
  pub tells : TellsChanges s ss
  pub only : TakesNoReset ss

-- A DONE tells of no change.
changes_done : (n : ℕ) (ts : List Token) → changes_of (ts ++ done n ∷ []) ≡ changes_of ts
changes_done n [] = refl
changes_done n (token.Info m ∷ ts) = changes_done n ts
changes_done n (token.Error m ∷ ts) = changes_done n ts
changes_done n (token.ReturnStatus v ∷ ts) = changes_done n ts
changes_done n (token.Columns cs ∷ ts) = changes_done n ts
changes_done n (token.Row vs ∷ ts) = changes_done n ts
changes_done n (token.Env e ∷ ts) = ap (λ cs. e ∷ cs) (changes_done n ts)
changes_done n (token.Done a b c ∷ ts) = changes_done n ts

-- A step before others.
ends_then : (s : Step) (ss : List Step) → s.last ≡ false → EndsOnce ss → EndsOnce (s ∷ ss)
ends_then s [] e h = absurd h
ends_then s (t ∷ ts) e h = (e, h)

good_then : (s : SessionState) (e : Effect) (ss : List Step) → Tells s e → Good e.after ss → Good s (step_then e ∷ ss)
good_then s e ss h g = record {
  ends = ends_then (step_then e) ss refl g.ends;
  tells = (h, g.tells);
  only = (refl, g.only);
}

good_final : (n : ℕ) (s : SessionState) → Good s (final_step n s ∷ [])
good_final n s = record { ends = refl; tells = (refl, tt); only = (refl, tt) }

good_last : (s : SessionState) (e : Effect) → Tells s e → Good s (last_step e ∷ [])
good_last s e h = record {
  ends = refl;
  tells = (ap (applied no_reset s.descriptor) (changes_done (if has_error e then 2 else 0) e.tokens) ∙ h, tt);
  only = (refl, tt);
}

good_and : (b : Bool) (s : SessionState) (e : Effect) (ss : List Step) → Tells s e → Good e.after ss → Good s (and_then b e ss)
good_and true s e ss h g = good_then s e (final_step 2 e.after ∷ []) h (good_final 2 e.after)
good_and false s e ss h g = good_then s e ss h g

-- What the transaction requests do tells it.
pub begin_tells : (b u : Bool) (s : SessionState) → (s.descriptor == 0) ≡ b → Tells s (begin_by b u s)
begin_tells false u s e = refl
begin_tells true true s e = refl
begin_tells true false s e = ap (λ (b : Bool). applied_on (λ next. applied no_reset next []) (cond {A = Option ℕ} b (Some s.next_descriptor) None)) e

itself : (n : ℕ) → eqb n n ≡ true
itself n = grind (arith, nat_tests)

pub commit_tells : (b : Bool) (s : SessionState) → Tells s (end_by b change.Commit s)
commit_tells true s = refl
commit_tells false s = ap (λ (b : Bool). applied_on (λ next. applied no_reset next []) (cond {A = Option ℕ} b (Some 0) None)) (itself s.descriptor)

pub rollback_tells : (b : Bool) (s : SessionState) → Tells s (end_by b change.Rollback s)
rollback_tells true s = refl
rollback_tells false s = ap (λ (b : Bool). applied_on (λ next. applied no_reset next []) (cond {A = Option ℕ} b (Some 0) None)) (itself s.descriptor)

end_tells : (b : Bool) (how : Ending) (s : SessionState) → Tells s (end_by b (told_by how) s)
end_tells b ending.Commit s = commit_tells b s
end_tells b ending.Rollback s = rollback_tells b s

-- The end is told first: it takes the descriptor to 0, and the beginning takes it to the next one.
renewal_tells : (b u : Bool) (how : Ending) (s : SessionState) → Tells s (renew_by b u how s)
renewal_tells true u how s = refl
renewal_tells false true how s = refl
renewal_tells false false ending.Commit s = ap (λ (b : Bool). applied_on (λ next. applied no_reset next (change.Begin s.next_descriptor ∷ [])) (cond {A = Option ℕ} b (Some 0) None)) (itself s.descriptor)
renewal_tells false false ending.Rollback s = ap (λ (b : Bool). applied_on (λ next. applied no_reset next (change.Begin s.next_descriptor ∷ [])) (cond {A = Option ℕ} b (Some 0) None)) (itself s.descriptor)

completion_tells : (how : Ending) (anew : Option ℕ) (s : SessionState) → Tells s (completes how anew s)
completion_tells how None s = end_tells (s.descriptor == 0) how s
completion_tells how (Some isolation) s = renewal_tells (s.descriptor == 0) (s.next_descriptor == last_descriptor) how s

-- ---- The answers of an engine whose statements tell what they change

good_batch : {S : Type 0} (step : SessionState → S → Effect) → ((s : SessionState) (q : S) → Tells s (step s q)) → (s : SessionState) (qs : List S) → Good s (batch_steps step s qs)
good_batch step h s [] = good_final 0 s
good_batch step h s (q ∷ qs) =
    good_and (has_error (step s q)) s (step s q) (batch_steps step (step s q).after qs) (h s q) (good_batch step h (step s q).after qs)

good_refused : (number : ℕ) (text : List ℕ) (s : SessionState) → Good s (refused_batch number text s)
good_refused number text s = good_then s (fails number text s) (final_step 2 s ∷ []) refl (good_final 2 s)

good_in : {S : Type 0} (step : SessionState → S → Effect) → ((s : SessionState) (q : S) → Tells s (step s q)) → (s : SessionState) (qs : Option (List S)) → Good s (steps_in step s qs)
good_in step h s None = good_refused 50001 (codes "syntax") s
good_in step h s (Some qs) = good_batch step h s qs

good_of : {S : Type 0} (statements : List ℕ → Option (List S)) (step : SessionState → S → Effect) → ((s : SessionState) (q : S) → Tells s (step s q)) → (s : SessionState) (q : Request) → Good s (steps_of statements step s q)
good_of statements step h s (request.Batch text) = good_in step h s (statements text)
good_of statements step h s (request.Begin i) =
    good_last s (begins s) (begin_tells (s.descriptor == 0) (s.next_descriptor == last_descriptor) s refl)
good_of statements step h s (request.Commit anew) = good_last s (completes ending.Commit anew s) (completion_tells ending.Commit anew s)
good_of statements step h s (request.Rollback anew) = good_last s (completes ending.Rollback anew s) (completion_tells ending.Rollback anew s)

good_wrong : (s : SessionState) (q : Request) → Good s (wrong_descriptor s q)
good_wrong s (request.Batch text) = good_refused 50010 (codes "descriptor") s
good_wrong s (request.Begin i) = good_last s (fails 50010 (codes "descriptor") s) refl
good_wrong s (request.Commit anew) = good_last s (fails 50010 (codes "descriptor") s) refl
good_wrong s (request.Rollback anew) = good_last s (fails 50010 (codes "descriptor") s) refl

good_to : {S : Type 0} (statements : List ℕ → Option (List S)) (step : SessionState → S → Effect) → ((s : SessionState) (q : S) → Tells s (step s q)) → (s : SessionState) (d : ℕ) (q : Request) → Good s (answer_to statements step s d q)
good_to statements step h s d q =
    either (Good s) (eqb d s.descriptor) (steps_of statements step s q) (wrong_descriptor s q) (good_of statements step h s q) (good_wrong s q)

reset_tells : (r : Reset) (s : SessionState) → heard_after s.descriptor (reset_step r s) ≡ Some (after_reset r s).descriptor
reset_tells Full s = refl
reset_tells KeepTransaction s = refl

ends_of : {S : Type 0} (statements : List ℕ → Option (List S)) (step : SessionState → S → Effect) → ((s : SessionState) (q : S) → Tells s (step s q)) → (s : SessionState) (d : ℕ) (m : Option Reset) (q : Request) → EndsOnce (answer_of statements step s d m q)
ends_of statements step h s d None q = (good_to statements step h s d q).ends
ends_of statements step h s d (Some r) q =
    ends_then (reset_step r s) (answer_to statements step (after_reset r s) d q) refl (good_to statements step h (after_reset r s) d q).ends

tells_of : {S : Type 0} (statements : List ℕ → Option (List S)) (step : SessionState → S → Effect) → ((s : SessionState) (q : S) → Tells s (step s q)) → (s : SessionState) (d : ℕ) (m : Option Reset) (q : Request) → TellsChanges s (answer_of statements step s d m q)
tells_of statements step h s d None q = (good_to statements step h s d q).tells
tells_of statements step h s d (Some r) q = (reset_tells r s, (good_to statements step h (after_reset r s) d q).tells)

-- Such answers are lawful.
pub lawful : {S : Type 0} (statements : List ℕ → Option (List S)) (step : SessionState → S → Effect) → ((s : SessionState) (q : S) → Tells s (step s q)) → Lawful (answer_of statements step)
lawful statements step h = record {
  ends = ends_of statements step h;
  tells = tells_of statements step h;
  resets = λ s d r q. refl;
  only = λ s d q. (good_to statements step h s d q).only;
}

-- A DONE behind an effect's tokens, unless there is an ERROR, changes nothing of that.
done_tells : (b : Bool) (s : SessionState) (e : Effect) → Tells s e → Tells s (record { tokens = cond b e.tokens (e.tokens ++ done 1 ∷ []); after = e.after })
done_tells true s e h = h
done_tells false s e h = ap (applied no_reset s.descriptor) (changes_done 1 e.tokens) ∙ h

pub more_tells : (s : SessionState) (e : Effect) → Tells s e → Tells s (with_more e)
more_tells s e h = done_tells (list_any is_error e.tokens) s e h

-- The final DONE of an answer stands at the end of its last step, whatever the engine.
use Rattle.std.proofs.Common.{ℕ, List, [], ◌∷◌, Bool, true, false, cond, refl, Option, Some, None, eqb}
use Rattle.std.proofs.lemmas.List.Elements.{All-nil, All-cons}
use Rattle.std.specs.List.{All, AllByRecursion}
use Rattle.std.specs.Prelude.{codes, ◌==◌}
use Rattle.tds_request.specs.declared.request.Request.{Request}
use Rattle.tds_request.specs.declared.request.Request.TheVariants as request
use Rattle.tds_session.specs.Answer.{Answers, Step, last_step, final_step, and_then, batch_steps, steps_in, steps_of, wrong_descriptor, answer_to, answer_of}
use Rattle.tds_session.specs.declared.transaction.Ending.{Ending}
use Rattle.tds_session.specs.declared.transaction.Ending.TheVariants as ending
use Rattle.tds_session.specs.Effects.{Effect, has_error, fails, begin_by, begins, end_by, told_by, renew_by, completes}
use Rattle.tds_session.specs.Lawful.{IsStatementDone}
use Rattle.tds_session.specs.Session.{SessionState, after_reset, last_descriptor}
use Rattle.tds_token.specs.declared.env_change.EnvChange.TheVariants as change
use Rattle.tds_token.specs.declared.token.Token.{Token}
use Rattle.tds_token.specs.declared.token.Token.TheVariants as token
use Rattle.tds_world.specs.declared.event.Setup.{Setup}
use Rattle.tds_world.specs.Dones.{IsFinal, HasDones, HaveDones, FinalDoneAtEnd}
use Rattle.tds_world.specs.Events.{world_after}
use Rattle.tds_world.specs.Lawful.{Lawful}
use Rattle.tds_world.specs.Laws.{Always}
use Rattle.tds_world.specs.Steps.{OfSteps, sent_down}
use Rattle.tds_world.specs.World.{new_world}
use Rattle.tds_world.proofs.events.Words.{either}
use Rattle.tds_world.proofs.events.Worlds.{always, each_follows}
use Rattle.tds_world.proofs.flow.Flow.{Sound}
use Rattle.tds_world.proofs.packets.Sent.{Sent, sent_kept}
use Rattle.tds_world.proofs.packets.Steps.{StepsSaid, steps_said}

-- No DONE of an effect is final.
abbrev pub NoneFinal : Effect → Type 0
NoneFinal e = All IsStatementDone e.tokens

one : (t : Token) → IsStatementDone t → All IsStatementDone (t ∷ [])
one t h = All-cons IsStatementDone t [] h (All-nil IsStatementDone)

fails_none : (number : ℕ) (text : List ℕ) (s : SessionState) → NoneFinal (fails number text s)
fails_none number text s = one _ tt

begin_none : (outside used_up : Bool) (s : SessionState) → NoneFinal (begin_by outside used_up s)
begin_none false used_up s = fails_none 50002 (codes "in transaction") s
begin_none true true s = fails_none 50004 (codes "no descriptor") s
begin_none true false s = one _ tt

end_none : (outside : Bool) (how : Ending) (s : SessionState) → NoneFinal (end_by outside (told_by how) s)
end_none true how s = fails_none 50003 (codes "no transaction") s
end_none false how s = one _ tt

renewal_none : (outside used_up : Bool) (how : Ending) (s : SessionState) → NoneFinal (renew_by outside used_up how s)
renewal_none true used_up how s = fails_none 50003 (codes "no transaction") s
renewal_none false true how s = fails_none 50004 (codes "no descriptor") s
renewal_none false false how s =
    let begin : Token = token.Env (change.Begin s.next_descriptor) in
    All-cons IsStatementDone (token.Env (told_by how s.descriptor)) (begin ∷ []) tt (one begin tt)

completion_none : (how : Ending) (anew : Option ℕ) (s : SessionState) → NoneFinal (completes how anew s)
completion_none how None s = end_none (s.descriptor == 0) how s
completion_none how (Some isolation) s = renewal_none (s.descriptor == 0) (s.next_descriptor == last_descriptor) how s

-- ---- Steps

final_by : (b : Bool) → IsFinal (cond b 2 0)
final_by true = (refl, refl)
final_by false = (refl, refl)

last_has : (e : Effect) → NoneFinal e → HasDones (last_step e)
last_has e h = (e.tokens, cond (has_error e) 2 0, refl, h, final_by (has_error e))

last_alone : (e : Effect) → NoneFinal e → AllByRecursion HasDones (last_step e ∷ [])
last_alone e h = (last_has e h, tt)

final_two : (s : SessionState) → HasDones (final_step 2 s)
final_two s = ([], 2, refl, All-nil IsStatementDone, (refl, refl))

final_zero : (s : SessionState) → HasDones (final_step 0 s)
final_zero s = ([], 0, refl, All-nil IsStatementDone, (refl, refl))

and_has : (b : Bool) (e : Effect) (ss : List Step) → NoneFinal e → AllByRecursion HasDones ss → AllByRecursion HasDones (and_then b e ss)
and_has true e ss h g = (h, (final_two e.after, tt))
and_has false e ss h g = (h, g)

batch_has : {S : Type 0} (step : SessionState → S → Effect) → ((s : SessionState) (q : S) → NoneFinal (step s q)) → (s : SessionState) (qs : List S) → AllByRecursion HasDones (batch_steps step s qs)
batch_has step h s [] = (final_zero s, tt)
batch_has step h s (q ∷ qs) = and_has (has_error (step s q)) (step s q) (batch_steps step (step s q).after qs) (h s q) (batch_has step h (step s q).after qs)

in_has : {S : Type 0} (step : SessionState → S → Effect) → ((s : SessionState) (q : S) → NoneFinal (step s q)) → (s : SessionState) (qs : Option (List S)) → AllByRecursion HasDones (steps_in step s qs)
in_has step h s None = and_has true (fails 50001 (codes "syntax") s) [] (fails_none 50001 (codes "syntax") s) tt
in_has step h s (Some qs) = batch_has step h s qs

of_has : {S : Type 0} (statements : List ℕ → Option (List S)) (step : SessionState → S → Effect) → ((s : SessionState) (q : S) → NoneFinal (step s q)) → (s : SessionState) (q : Request) → AllByRecursion HasDones (steps_of statements step s q)
of_has statements step h s (request.Batch text) = in_has step h s (statements text)
of_has statements step h s (request.Begin i) = last_alone (begins s) (begin_none (s.descriptor == 0) (s.next_descriptor == last_descriptor) s)
of_has statements step h s (request.Commit anew) = last_alone (completes ending.Commit anew s) (completion_none ending.Commit anew s)
of_has statements step h s (request.Rollback anew) = last_alone (completes ending.Rollback anew s) (completion_none ending.Rollback anew s)

wrong_has : (s : SessionState) (q : Request) → AllByRecursion HasDones (wrong_descriptor s q)
wrong_has s (request.Batch text) = and_has true (fails 50010 (codes "descriptor") s) [] (fails_none 50010 (codes "descriptor") s) tt
wrong_has s (request.Begin i) = last_alone (fails 50010 (codes "descriptor") s) (fails_none 50010 (codes "descriptor") s)
wrong_has s (request.Commit anew) = last_alone (fails 50010 (codes "descriptor") s) (fails_none 50010 (codes "descriptor") s)
wrong_has s (request.Rollback anew) = last_alone (fails 50010 (codes "descriptor") s) (fails_none 50010 (codes "descriptor") s)

to_has : {S : Type 0} (statements : List ℕ → Option (List S)) (step : SessionState → S → Effect) → ((s : SessionState) (q : S) → NoneFinal (step s q)) → (s : SessionState) (d : ℕ) (q : Request) → AllByRecursion HasDones (answer_to statements step s d q)
to_has statements step h s d q = either (AllByRecursion HasDones) (eqb d s.descriptor) (steps_of statements step s q) (wrong_descriptor s q) (of_has statements step h s q) (wrong_has s q)

pub have_dones : {S : Type 0} (statements : List ℕ → Option (List S)) (step : SessionState → S → Effect) → ((s : SessionState) (q : S) → NoneFinal (step s q)) → HaveDones (answer_of statements step)
have_dones statements step h s d None q = to_has statements step h s d q
have_dones statements step h s d (Some r) q = (one (token.Env change.ResetDone) tt, to_has statements step h (after_reset r s) d q)

-- ---- Each step that was sent

pub final_done_at_end : (setup : Setup) (answers : Answers) → Lawful answers → HaveDones answers → Always setup answers FinalDoneAtEnd
final_done_at_end setup answers l a events =
    each_follows (λ c. Sound c × Sent (StepsSaid HasDones) c) (λ c. OfSteps HasDones (sent_down c)) (world_after setup answers events new_world).connections (λ c h. h.1.0)
    (always (λ c. Sound c × Sent (StepsSaid HasDones) c) setup answers events (sent_kept setup answers (StepsSaid HasDones) l (steps_said answers HasDones a)))

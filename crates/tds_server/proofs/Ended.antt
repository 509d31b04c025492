-- The last step of an answer ends it, and no other one does.
use Rattle.std.proofs.Common.{◌≡◌, ℕ, Bool, true, false, if◌then◌else◌, ◌==◌, List, [], ◌∷◌, Option, Some, None, refl}
use Rattle.tds_packet.specs.declared.status.Reset.{Reset}
use Rattle.tds_request.specs.declared.request.Request.{Request}
use Rattle.tds_request.specs.declared.request.Request.TheVariants as request
use Rattle.tds_session.specs.Answer.{Step, step_then, and_then, batch_steps, steps_in, steps_of, wrong_descriptor, reset_step, answer_to, answer_of, EndsOnce}
use Rattle.tds_session.specs.Effects.{Effect, has_error}
use Rattle.tds_session.specs.Session.{SessionState, after_reset}

behind : (first : Step) (rest : List Step) → first.last ≡ false → EndsOnce rest → EndsOnce (first ∷ rest)
behind first [] more h = absurd h
behind first (next ∷ rest) more h = (more, h)

after_statement : (failed : Bool) (e : Effect) (rest : List Step) → EndsOnce rest → EndsOnce (and_then failed e rest)
after_statement true e rest h = (refl, refl)
after_statement false e rest h = behind (step_then e) rest refl h

batch_ended : {S : Type 0} (step : SessionState → S → Effect) (s : SessionState) (qs : List S) → EndsOnce (batch_steps step s qs)
batch_ended step s [] = refl
batch_ended step s (q ∷ qs) = after_statement (has_error (step s q)) (step s q) (batch_steps step (step s q).after qs) (batch_ended step (step s q).after qs)

text_ended : {S : Type 0} (step : SessionState → S → Effect) (s : SessionState) (found : Option (List S)) → EndsOnce (steps_in step s found)
text_ended step s None = (refl, refl)
text_ended step s (Some qs) = batch_ended step s qs

run_ended : {S : Type 0} (statements : List ℕ → Option (List S)) (step : SessionState → S → Effect) (s : SessionState) (q : Request) → EndsOnce (steps_of statements step s q)
run_ended statements step s (request.Batch text) = text_ended step s (statements text)
run_ended statements step s (request.Begin isolation) = refl
run_ended statements step s (request.Commit anew) = refl
run_ended statements step s (request.Rollback anew) = refl

refused_ended : (s : SessionState) (q : Request) → EndsOnce (wrong_descriptor s q)
refused_ended s (request.Batch text) = (refl, refl)
refused_ended s (request.Begin isolation) = refl
refused_ended s (request.Commit anew) = refl
refused_ended s (request.Rollback anew) = refl

either : (same : Bool) (xs ys : List Step) → EndsOnce xs → EndsOnce ys → EndsOnce (if same then xs else ys)
either true xs ys x y = x
either false xs ys x y = y

compared_ended : {S : Type 0} (statements : List ℕ → Option (List S)) (step : SessionState → S → Effect) (s : SessionState) (d : ℕ) (q : Request) → EndsOnce (answer_to statements step s d q)
compared_ended statements step s d q = either (d == s.descriptor) _ _ (run_ended statements step s q) (refused_ended s q)

pub answer_ended : {S : Type 0} (statements : List ℕ → Option (List S)) (step : SessionState → S → Effect) (s : SessionState) (d : ℕ) (reset : Option Reset) (q : Request) → EndsOnce (answer_of statements step s d reset q)
answer_ended statements step s d None q = compared_ended statements step s d q
answer_ended statements step s d (Some r) q = behind (reset_step r s) _ refl (compared_ended statements step (after_reset r s) d q)

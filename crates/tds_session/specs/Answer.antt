-- Answers: the steps by which a server answers a request, one packet each.
use Rattle.std.specs.Prelude.{◌≡◌, ℕ, List, [], ◌∷◌, ◌++◌, Bool, true, false, if◌then◌else◌, ◌==◌, Option, Some, None, codes}
use Rattle.tds_session.specs.Session.{SessionState, after_reset}
use Rattle.tds_session.specs.Effects.{Effect, has_error, fails, done, begins, completes}
use Rattle.tds_session.specs.declared.transaction.Ending.TheVariants as ending
use Rattle.tds_session.specs.Language as language
use Rattle.tds_session.specs.Script as script
use Rattle.tds_packet.specs.declared.status.Reset.{Reset}
use Rattle.tds_request.specs.declared.request.Request.{Request}
use Rattle.tds_request.specs.declared.request.Request.TheVariants as request
use Rattle.tds_token.specs.DoneStatus as done_status
use Rattle.tds_token.specs.declared.env_change.EnvChange.TheVariants as change
use Rattle.tds_token.specs.declared.token.Token.{Token}
use Rattle.tds_token.specs.declared.token.Token.TheVariants as token

-- one packet of an answer
pub record Step : Type 0 where
  pub tokens : List Token
  pub last : Bool  -- its packet ends the message
  pub reset : Option Reset  -- the reset that this step takes
  pub after : SessionState

-- a step with others after it
abbrev pub step_then : Effect → Step
step_then e = record { tokens = e.tokens; last = false; reset = None; after = e.after }

-- the last step: an effect's tokens, and the final DONE: 0, or `0002` after an ERROR
abbrev pub last_step : Effect → Step
last_step e = record { tokens = e.tokens ++ done (if has_error e then done_status.error else 0) ∷ []; last = true; reset = None; after = e.after }

-- the last step of a batch, after its statements: the final DONE alone
abbrev pub final_step : ℕ → SessionState → Step
final_step status s = record { tokens = done status ∷ []; last = true; reset = None; after = s }

-- a statement's step, and the rest of the batch; after an ERROR the batch ends
abbrev pub and_then : Bool → Effect → List Step → List Step
and_then true e rest = step_then e ∷ final_step done_status.error e.after ∷ []
and_then false e rest = step_then e ∷ rest

-- the steps of a batch's statements, one each, up to and with the first one that gives an ERROR
abbrev pub batch_steps : {S : Type 0} → (SessionState → S → Effect) → SessionState → List S → List Step
batch_steps step s [] = final_step 0 s ∷ []
batch_steps step s (q ∷ qs) = and_then (has_error (step s q)) (step s q) (batch_steps step (step s q).after qs)

-- the answer to a batch that isn't run
abbrev pub refused_batch : ℕ → List ℕ → SessionState → List Step
refused_batch number text s = and_then true (fails number text s) []

-- the steps of a batch, if its text is in the language
abbrev pub steps_in : {S : Type 0} → (SessionState → S → Effect) → SessionState → Option (List S) → List Step
steps_in step s None = refused_batch 50001 (codes "syntax") s
steps_in step s (Some qs) = batch_steps step s qs

-- the steps of a request whose descriptor is the session's, for an engine's two functions: the
-- statements of a text, and a statement's effect
abbrev pub steps_of : {S : Type 0} → (List ℕ → Option (List S)) → (SessionState → S → Effect) → SessionState → Request → List Step
steps_of statements step s (request.Batch text) = steps_in step s (statements text)
steps_of statements step s (request.Begin isolation) = last_step (begins s) ∷ []
steps_of statements step s (request.Commit anew) =
    last_step (completes ending.Commit anew s) ∷ []
steps_of statements step s (request.Rollback anew) =
    last_step (completes ending.Rollback anew s) ∷ []

-- the steps of a request whose descriptor differs from the session's
abbrev pub wrong_descriptor : SessionState → Request → List Step
wrong_descriptor s (request.Batch text) = refused_batch 50010 (codes "descriptor") s
wrong_descriptor s q = last_step (fails 50010 (codes "descriptor") s) ∷ []

-- the step that takes a reset: the change and its ENVCHANGE 18 (MS-TDS 2.2.7.9) in one
abbrev pub reset_step : Reset → SessionState → Step
reset_step r s = record { tokens = token.Env change.ResetDone ∷ []; last = false; reset = Some r; after = after_reset r s }

-- the answer once a reset is out of the way: the header's descriptor is compared with the session's
abbrev pub answer_to : {S : Type 0} → (List ℕ → Option (List S)) → (SessionState → S → Effect) → SessionState → ℕ → Request → List Step
answer_to statements step s descriptor q =
    if descriptor == s.descriptor then steps_of statements step s q else wrong_descriptor s q

-- the whole answer to a request, of its header's descriptor and its reset: the reset comes first
abbrev pub answer_of : {S : Type 0} → (List ℕ → Option (List S)) → (SessionState → S → Effect) → SessionState → ℕ → Option Reset → Request → List Step
answer_of statements step s descriptor None q = answer_to statements step s descriptor q
answer_of statements step s descriptor (Some r) q =
    reset_step r s ∷ answer_to statements step (after_reset r s) descriptor q

-- how a server answers: session, header descriptor, reset and request to the steps
abbrev pub Answers : Type 0
Answers = SessionState → ℕ → Option Reset → Request → List Step

-- how a server with the batch language answers
abbrev pub script_answers : Answers
script_answers = answer_of language.statements_of script.step_of

-- of these steps the last one, and no other, ends the message
abbrev pub EndsOnce : List Step → Type 0
EndsOnce [] = ⊥
EndsOnce (step ∷ []) = step.last ≡ true
EndsOnce (step ∷ next ∷ steps) = (step.last ≡ false) × EndsOnce (next ∷ steps)

-- What the session laws ask of a server's answers.
use Rattle.std.specs.Prelude.{ℕ, ◌≡◌, List, [], ◌∷◌, Option, Some, None}
use Rattle.tds_packet.specs.declared.status.Reset.{Reset}
use Rattle.tds_request.specs.declared.request.Request.{Request}
use Rattle.tds_session.specs.Answer.{Answers, EndsOnce, Step, reset_step}
use Rattle.tds_session.specs.Session.{SessionState, after_reset}
use Rattle.tds_world.specs.Arrivals.{heard_after}

-- From this session on, each step tells just the changes that take the descriptor before it to the
-- one after it.
abbrev pub TellsChanges : SessionState → List Step → Type 0
TellsChanges s [] = Unit {0}
TellsChanges s (t ∷ ts) =
    (heard_after s.descriptor t ≡ Some t.after.descriptor) × TellsChanges t.after ts

-- No step takes a reset.
abbrev pub TakesNoReset : List Step → Type 0
TakesNoReset [] = Unit {0}
TakesNoReset (s ∷ ss) = (s.reset ≡ None) × TakesNoReset ss

-- Answers of which the session laws hold, for every session, header descriptor and request: an
-- answer ends once; what it tells of the transaction is what happens to it; a reset stands first,
-- and what follows is the answer from the session after it; and there is no other reset.
pub record Lawful (answers : Answers) : Type 0 where
  pub ends : (s : SessionState) (descriptor : ℕ) (reset : Option Reset) (q : Request)
      → EndsOnce (answers s descriptor reset q)
  pub tells : (s : SessionState) (descriptor : ℕ) (reset : Option Reset) (q : Request)
      → TellsChanges s (answers s descriptor reset q)
  pub resets : (s : SessionState) (descriptor : ℕ) (r : Reset) (q : Request)
      → answers s descriptor (Some r) q
      ≡ reset_step r s ∷ answers (after_reset r s) descriptor None q
  pub only : (s : SessionState) (descriptor : ℕ) (q : Request)
      → TakesNoReset (answers s descriptor None q)

-- Each statement of the batch language tells what it changes.
use Rattle.std.proofs.Common.{◌≡◌, ℕ, zero, suc, [], ◌∷◌, ◌++◌, refl, ap, ◌+◌}
use Rattle.std.specs.Prelude.{◌==◌}
use Rattle.tds_session.specs.Answer.{script_answers}
use Rattle.tds_session.specs.declared.statement.Statement.{Statement}
use Rattle.tds_session.specs.declared.statement.Statement.TheVariants as statement
use Rattle.tds_session.specs.Effects.{begins, ends}
use Rattle.tds_session.specs.Language.{statements_of}
use Rattle.tds_session.specs.Script.{step_of, rows_from}
use Rattle.tds_session.specs.Session.{SessionState, last_descriptor}
use Rattle.tds_token.specs.declared.env_change.EnvChange.TheVariants as change
use Rattle.tds_token.specs.declared.token.Token.TheVariants as token
use Rattle.tds_token.specs.Told.{applied, changes_of, no_reset}
use Rattle.tds_world.specs.Lawful.{Lawful}
use Rattle.tds_world.proofs.script.Lawful.{Tells, lawful, begin_tells, commit_tells, rollback_tells, more_tells}

rows_tell_nothing : (first count rows : ℕ) → changes_of (rows_from first count ++ token.Done 17 0 rows ∷ []) ≡ []
rows_tell_nothing first zero rows = refl
rows_tell_nothing first (suc count) rows = rows_tell_nothing (first + 1) count rows

step_tells : (s : SessionState) (q : Statement) → Tells s (step_of s q)
step_tells s (statement.Say word) = refl
step_tells s (statement.Rows first count) = ap (applied no_reset s.descriptor) (rows_tell_nothing first count count)
step_tells s (statement.Set key v) = refl
step_tells s (statement.Get key) = refl
step_tells s statement.Begin =
    more_tells s (begins s) (begin_tells (s.descriptor == 0) (s.next_descriptor == last_descriptor) s refl)
step_tells s statement.Commit = more_tells s (ends change.Commit s) (commit_tells (s.descriptor == 0) s)
step_tells s statement.Rollback = more_tells s (ends change.Rollback s) (rollback_tells (s.descriptor == 0) s)
step_tells s (statement.Fail n) = refl

pub script_is_lawful : Lawful script_answers
script_is_lawful = lawful statements_of step_of step_tells

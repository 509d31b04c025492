-- What a server and its client rest on of each statement's effect, whatever the engine.
use Rattle.std.specs.Prelude.{ℕ, ◌≡◌, ◌≤◌, ◌<◌, List, length, Option, Some, None, bit_and}
use Rattle.std.specs.List.{All}
use Rattle.tds_session.specs.Session.{SessionState, IsSession}
use Rattle.tds_session.specs.Effects.{Effect}
use Rattle.tds_token.specs.declared.env_change.EnvChange.{EnvChange}
use Rattle.tds_token.specs.declared.env_change.EnvChange.TheVariants.{Begin, Commit, Rollback, ResetDone}
use Rattle.tds_token.specs.declared.token.Token.{Token}
use Rattle.tds_token.specs.declared.token.Token.TheVariants as token
use Rattle.tds_token.specs.DoneStatus as done_status
use Rattle.tds_token.specs.Layout.{Fits, IsTokens}
use Rattle.tds_token.specs.Told.{applied, changes_of, no_reset}

-- a DONE among a statement's tokens says that more follows (`0001`), and acknowledges no
-- attention (`0020`) (MS-TDS 2.2.7.6)
abbrev pub IsStatementDone : Token → Type 0
IsStatementDone (token.Done status cur_cmd rows) = (bit_and status done_status.more ≡ done_status.more) × (bit_and status done_status.attention ≡ 0)
IsStatementDone t = Unit {0}

-- it isn't the end of a reset
abbrev pub IsNoReset : EnvChange → Type 0
IsNoReset (Begin d) = Unit {0}
IsNoReset (Commit d) = Unit {0}
IsNoReset (Rollback d) = Unit {0}
IsNoReset ResetDone = ⊥

-- An effect says something; its ENVCHANGEs, applied in order to the descriptor before, give the
-- descriptor after, and none is the end of a reset; its DONEs are those of a statement.
pub record IsEffect (before : SessionState) (effect : Effect) : Type 0 where
  pub some : 0 < length effect.tokens
  pub applies : applied no_reset before.descriptor (changes_of effect.tokens) ≡ Some effect.after.descriptor
  pub resets : All IsNoReset (changes_of effect.tokens)
  pub dones : All IsStatementDone effect.tokens

-- An effect's tokens fit, and are written in at most 504 bytes where no columns are known: one
-- packet of the smallest size holds them. The session after it is one.
pub record FitsPacket (effect : Effect) : Type 0 where
  pub fit : All Fits effect.tokens
  pub bytes : List ℕ
  pub columns : Option ℕ
  pub spelled : IsTokens None effect.tokens bytes columns
  pub short : length bytes ≤ 504
  pub after : IsSession effect.after

-- What a client tells of tokens, and what it takes from them.
use Rattle.std.specs.Prelude.{ℕ, List, [], ◌∷◌, Option, Some, None, ◌==◌, if◌then◌else◌}
use Rattle.tds_token.specs.declared.env_change.EnvChange.{EnvChange}
use Rattle.tds_token.specs.declared.env_change.EnvChange.TheVariants.{Begin, Commit, Rollback, ResetDone}
use Rattle.tds_token.specs.declared.token.Token.{Token}
use Rattle.tds_token.specs.declared.token.Token.TheVariants as tokens

-- The tokens that are told to the caller: all but the ENVCHANGEs, in their order.
abbrev pub told : List Token → List Token
told [] = []
told (tokens.Env e ∷ others) = told others
told (token ∷ others) = token ∷ told others

-- The ENVCHANGEs, in their order.
abbrev pub changes_of : List Token → List EnvChange
changes_of [] = []
changes_of (tokens.Env e ∷ others) = e ∷ changes_of others
changes_of (_ ∷ others) = changes_of others

-- What the end of a reset makes of the descriptor. A plain reset ends the transaction, and one
-- that skips it (RESETCONNECTIONSKIPTRAN, MS-TDS 2.2.3.1.2) keeps it. Where no reset was asked
-- for, its end does not apply.
abbrev pub ResetEffect : Type 0
ResetEffect = ℕ → Option ℕ

abbrev pub ends_transaction : ResetEffect
ends_transaction descriptor = Some 0

abbrev pub keeps_transaction : ResetEffect
keeps_transaction descriptor = Some descriptor

abbrev pub no_reset : ResetEffect
no_reset descriptor = None

-- The descriptor behind one ENVCHANGE (MS-TDS 2.2.7.9): begin takes 0 to the transaction's, commit
-- and rollback take the transaction's to 0, and the end of a reset does what that reset does. In
-- every other case it does not apply.
abbrev pub change_applied : ResetEffect → ℕ → EnvChange → Option ℕ
change_applied reset descriptor (Begin d) = if descriptor == 0 then Some d else None
change_applied reset descriptor (Commit d) = if descriptor == d then Some 0 else None
change_applied reset descriptor (Rollback d) = if descriptor == d then Some 0 else None
change_applied reset descriptor ResetDone = reset descriptor

-- The descriptor behind ENVCHANGEs one after the other. If one does not apply, there is none.
abbrev pub applied_on : (ℕ → Option ℕ) → Option ℕ → Option ℕ
applied_on next None = None
applied_on next (Some descriptor) = next descriptor

abbrev pub applied : ResetEffect → ℕ → List EnvChange → Option ℕ
applied reset descriptor [] = Some descriptor
applied reset descriptor (change ∷ changes) =
    applied_on (λ next. applied reset next changes) (change_applied reset descriptor change)

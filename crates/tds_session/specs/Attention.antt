-- What an attention does to the session where it stops an answer, and what acknowledges it.
use Rattle.std.specs.Prelude.{ℕ, List, [], ◌∷◌, ◌++◌, map, Bool, true, false, ◌&&◌, Option, Some, None}
use Rattle.tds_session.specs.declared.attention.OnAttention.{OnAttention}
use Rattle.tds_session.specs.declared.attention.OnAttention.TheVariants.{Keep, RollBack}
use Rattle.tds_session.specs.Session.{SessionState, out_of_transaction, is_in_transaction}
use Rattle.tds_token.specs.declared.env_change.EnvChange.{EnvChange}
use Rattle.tds_token.specs.declared.env_change.EnvChange.TheVariants as change
use Rattle.tds_token.specs.declared.token.Token.{Token}
use Rattle.tds_token.specs.declared.token.Token.TheVariants as token
use Rattle.tds_token.specs.DoneStatus as done_status

-- whether an attention rolls the transaction back: the server is told to, it stops the answer in its
-- middle, and there is a transaction
abbrev pub rolls_back : OnAttention → Bool → SessionState → Bool
rolls_back Keep midway s = false
rolls_back RollBack midway s = midway && is_in_transaction s

-- the changes that the acknowledgement tells, and the session behind the attention
pub record Stop : Type 0 where
  pub changes : List EnvChange
  pub after : SessionState

-- one change, by which the transaction is gone; or none
abbrev pub stop_by : Bool → SessionState → Stop
stop_by true s = record { changes = change.Rollback s.descriptor ∷ []; after = out_of_transaction s }
stop_by false s = record { changes = []; after = s }

-- what an attention does to the session where it stops an answer in its middle, or elsewhere
abbrev pub stopped : OnAttention → Bool → SessionState → Stop
stopped on_attention midway s = stop_by (rolls_back on_attention midway s) s

-- the change of a transaction that is rolled back, if one is
abbrev pub rollback_of : Option ℕ → List EnvChange
rollback_of None = []
rollback_of (Some descriptor) = change.Rollback descriptor ∷ []

-- the tokens that acknowledge an attention: the changes, and a DONE with bit `0020` (MS-TDS 2.2.7.6)
abbrev pub acknowledging : List EnvChange → List Token
acknowledging changes = map token.Env changes ++ token.Done done_status.attention 0 0 ∷ []

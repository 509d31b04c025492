-- What a statement or a transaction request does: the tokens that it gives, and the session after.
use Rattle.std.specs.Prelude.{ℕ, pos, List, [], ◌∷◌, Bool, true, false, Option, Some, None, ◌==◌, codes}
use Rattle.std.specs.List.{list_any}
use Rattle.tds_session.specs.Session.{SessionState, transacting, out_of_transaction, renewed, last_descriptor}
use Rattle.tds_session.specs.declared.transaction.Ending.{Ending}
use Rattle.tds_session.specs.declared.transaction.Ending.TheVariants as ending
use Rattle.tds_token.specs.declared.env_change.EnvChange.{EnvChange}
use Rattle.tds_token.specs.declared.env_change.EnvChange.TheVariants as change
use Rattle.tds_token.specs.declared.message.Message.{Message}
use Rattle.tds_token.specs.declared.token.Token.{Token}
use Rattle.tds_token.specs.declared.token.Token.TheVariants as token

-- tokens, and the session after them
pub record Effect : Type 0 where
  pub tokens : List Token
  pub after : SessionState

-- an INFO or ERROR as this server writes it (MS-TDS 2.2.7.13, 2.2.7.10): state 1, and no names
abbrev pub message : ℕ → ℕ → List ℕ → Message
message number class text = record { number = pos number; state = 1; class = class; text = text; server = []; procedure = []; line = pos 0 }

-- an ERROR, of class 16
abbrev pub error_token : ℕ → List ℕ → Token
error_token number text = token.Error (message number 16 text)

-- whether a token is an ERROR
abbrev pub is_error : Token → Bool
is_error (token.Error m) = true
is_error t = false

-- whether an effect gives an ERROR
abbrev pub has_error : Effect → Bool
has_error e = list_any is_error e.tokens

-- one token, in an unchanged session
abbrev pub gives_token : Token → SessionState → Effect
gives_token t s = record { tokens = t ∷ []; after = s }

-- an ERROR alone
abbrev pub fails : ℕ → List ℕ → SessionState → Effect
fails number text s = gives_token (error_token number text) s

-- a DONE without a row count (MS-TDS 2.2.7.6)
abbrev pub done : ℕ → Token
done status = token.Done status 0 0

-- in a transaction already, out of descriptors, or in a new transaction
abbrev pub begin_by : Bool → Bool → SessionState → Effect
begin_by false used_up s = fails 50002 (codes "in transaction") s
begin_by true true s = fails 50004 (codes "no descriptor") s
begin_by true false s = record { tokens = token.Env (change.Begin s.next_descriptor) ∷ []; after = transacting s }

-- what begin does
abbrev pub begins : SessionState → Effect
begins s = begin_by (s.descriptor == 0) (s.next_descriptor == last_descriptor) s

-- the end of a transaction, as the change says: there is none, or it ends
abbrev pub end_by : Bool → (ℕ → EnvChange) → SessionState → Effect
end_by true change s = fails 50003 (codes "no transaction") s
end_by false change s = record { tokens = token.Env (change s.descriptor) ∷ []; after = out_of_transaction s }

-- what commit or rollback does
abbrev pub ends : (ℕ → EnvChange) → SessionState → Effect
ends change s = end_by (s.descriptor == 0) change s

-- the ENVCHANGE that tells of an end: 9 or 10 (MS-TDS 2.2.7.9)
abbrev pub told_by : Ending → ℕ → EnvChange
told_by ending.Commit = change.Commit
told_by ending.Rollback = change.Rollback

-- The end of a transaction and the beginning of the next one, in one change: there is none to end,
-- no descriptor is left and it stays, or the end is told and then the beginning.
abbrev pub renew_by : Bool → Bool → Ending → SessionState → Effect
renew_by true used_up how s = fails 50003 (codes "no transaction") s
renew_by false true how s = fails 50004 (codes "no descriptor") s
renew_by false false how s = record {
  tokens = token.Env (told_by how s.descriptor) ∷ token.Env (change.Begin s.next_descriptor) ∷ [];
  after = renewed s;
}

-- what commit or rollback does that begins anew
abbrev pub renews : Ending → SessionState → Effect
renews how s = renew_by (s.descriptor == 0) (s.next_descriptor == last_descriptor) how s

-- what a request to commit or roll back does: where it asks for the isolation level of a new
-- transaction, that one begins (MS-TDS 2.2.6.9)
abbrev pub completes : Ending → Option ℕ → SessionState → Effect
completes how None s = ends (told_by how) s
completes how (Some isolation) s = renews how s

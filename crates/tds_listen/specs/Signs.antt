-- The sign of a token of any answer (MS-TDS 2.2.7.6 to 2.2.7.9), by its kind and by what it tells.
use Rattle.std.specs.Prelude.{ℕ, ◌==◌, ◌||◌, List, [], ◌∷◌, if◌then◌else◌}
use Rattle.tds_token.specs.declared.env_change.EnvChange.{EnvChange}
use Rattle.tds_token.specs.declared.env_change.EnvChange.TheVariants.{Begin, Commit, Rollback, ResetDone}
use Rattle.tds_client.specs.declared.sign.DoneKind.{DoneKind}
use Rattle.tds_client.specs.declared.sign.DoneKind.TheVariants.{Statement, Procedure, InProcedure}
use Rattle.tds_client.specs.declared.sign.Sign.{Sign}
use Rattle.tds_client.specs.declared.sign.Sign.TheVariants as signs
use Rattle.tds_wire.specs.declared.told.ChangeValue.{ChangeValue}
use Rattle.tds_wire.specs.declared.told.ChangeValue.TheVariants as changes
use Rattle.tds_wire.specs.declared.told.Told.{Told}
use Rattle.tds_wire.specs.declared.told.Told.TheVariants as told
use Rattle.tds_wire.specs.declared.told.Token.{Token}

-- FD DONE, FE DONEPROC, FF DONEINPROC
unfoldable pub done_kind : ℕ → DoneKind
done_kind kind = if kind == 0xFE then Procedure else if kind == 0xFF then InProcedure else Statement

-- Of a change of a transaction: 8 has begun, and 11 is enlisted; 9 is committed; 10 is rolled back, 12 is defected and 17 has ended.
unfoldable pub transaction_change : ℕ → ℕ → ℕ → EnvChange
transaction_change type new old =
    if (type == 8) || (type == 11) then Begin new
    else if type == 9 then Commit old
    else Rollback old

abbrev pub change_sign : ℕ → ChangeValue → Sign
change_sign type (changes.Transaction new old) = signs.Change (transaction_change type new old)
change_sign type changes.ResetDone = signs.Change ResetDone
change_sign type (changes.PacketSize size) = signs.Nothing
change_sign type (changes.Values new old) = signs.Nothing
change_sign type changes.Other = signs.Nothing

-- An ENVCHANGE that can't be read may be any change. It is heard as a begin of descriptor 0, which no transaction has.
unfoldable pub unclear_sign : ℕ → Sign
unclear_sign kind = if kind == 0xE3 then signs.Change (Begin 0) else signs.Nothing

abbrev pub sign_by : ℕ → Told → Sign
sign_by kind (told.Done done) = signs.Done (done_kind kind) done.status
sign_by kind (told.Change change) = change_sign change.kind change.value
sign_by kind (told.Message message) = signs.Nothing
sign_by kind (told.ReturnStatus value) = signs.Nothing
sign_by kind (told.SessionState state) = signs.Nothing
sign_by kind told.Unclear = unclear_sign kind
sign_by kind told.Other = signs.Nothing

abbrev pub sign_of : Token → Sign
sign_of token = sign_by token.kind token.told

abbrev pub signs_of : List Token → List Sign
signs_of [] = []
signs_of (token ∷ others) = sign_of token ∷ signs_of others

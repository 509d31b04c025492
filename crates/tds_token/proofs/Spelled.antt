-- The definitions, held against bytes that were written by hand.
use Rattle.std.proofs.Common.{◌≡◌, [], ◌∷◌, Some, None, refl}
use Rattle.std.specs.Prelude.{pos, negsuc}
use Rattle.tds_token.specs.declared.env_change.EnvChange.TheVariants.{Begin, Commit, Rollback, ResetDone}
use Rattle.tds_token.specs.declared.message.Message.{Message}
use Rattle.tds_token.specs.declared.token.Token.TheVariants as tokens
use Rattle.tds_token.specs.Layout.{spelling}
use Rattle.tds_token.specs.Told.{told, applied, ends_transaction, keeps_transaction, no_reset}

abbrev say_a : Message
say_a = record { number = pos 50000; state = 1; class = 0; text = 97 ∷ []; server = []; procedure = []; line = pos 0 }

spelled_info : spelling (tokens.Info say_a) ≡ 0xAB ∷ 0x10 ∷ 0 ∷ 0x50 ∷ 0xC3 ∷ 0 ∷ 0 ∷ 1 ∷ 0 ∷ 1 ∷ 0 ∷ 0x61 ∷ 0 ∷ 0 ∷ 0 ∷ 0 ∷ 0 ∷ 0 ∷ 0 ∷ []
spelled_info = refl

spelled_begin : spelling (tokens.Env (Begin 1)) ≡ 0xE3 ∷ 11 ∷ 0 ∷ 8 ∷ 8 ∷ 1 ∷ 0 ∷ 0 ∷ 0 ∷ 0 ∷ 0 ∷ 0 ∷ 0 ∷ 0 ∷ []
spelled_begin = refl

spelled_commit : spelling (tokens.Env (Commit 1)) ≡ 0xE3 ∷ 11 ∷ 0 ∷ 9 ∷ 0 ∷ 8 ∷ 1 ∷ 0 ∷ 0 ∷ 0 ∷ 0 ∷ 0 ∷ 0 ∷ 0 ∷ []
spelled_commit = refl

spelled_reset : spelling (tokens.Env ResetDone) ≡ 0xE3 ∷ 3 ∷ 0 ∷ 0x12 ∷ 0 ∷ 0 ∷ []
spelled_reset = refl

spelled_columns : spelling (tokens.Columns (record { user_type = 0; flags = 0; name = 0x6E ∷ [] } ∷ [])) ≡ 0x81 ∷ 1 ∷ 0 ∷ 0 ∷ 0 ∷ 0 ∷ 0 ∷ 0 ∷ 0 ∷ 0x38 ∷ 1 ∷ 0x6E ∷ 0 ∷ []
spelled_columns = refl

spelled_row : spelling (tokens.Row (pos 5 ∷ negsuc 0 ∷ [])) ≡ 0xD1 ∷ 5 ∷ 0 ∷ 0 ∷ 0 ∷ 255 ∷ 255 ∷ 255 ∷ 255 ∷ []
spelled_row = refl

spelled_done : spelling (tokens.Done 0x11 0 2) ≡ 0xFD ∷ 0x11 ∷ 0 ∷ 0 ∷ 0 ∷ 2 ∷ 0 ∷ 0 ∷ 0 ∷ 0 ∷ 0 ∷ 0 ∷ 0 ∷ []
spelled_done = refl

begun : applied no_reset 0 (Begin 7 ∷ []) ≡ Some 7
begun = refl

not_begun : applied no_reset 3 (Begin 7 ∷ []) ≡ None
not_begun = refl

ended_one : applied no_reset 7 (Commit 7 ∷ Begin 8 ∷ []) ≡ Some 8
ended_one = refl

ended_other : applied no_reset 7 (Rollback 8 ∷ []) ≡ None
ended_other = refl

reset_plain : applied ends_transaction 7 (ResetDone ∷ []) ≡ Some 0
reset_plain = refl

reset_kept : applied keeps_transaction 7 (ResetDone ∷ Rollback 7 ∷ []) ≡ Some 0
reset_kept = refl

reset_unasked : applied no_reset 7 (ResetDone ∷ []) ≡ None
reset_unasked = refl

told_done : told (tokens.Env (Begin 7) ∷ tokens.Done 0 0 0 ∷ []) ≡ tokens.Done 0 0 0 ∷ []
told_done = refl

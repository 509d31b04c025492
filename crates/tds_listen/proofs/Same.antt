-- The strict profile's changes, by both readers.
use Rattle.std.proofs.Common.{◌≡◌, ℕ, length, take, refl, ap}
use Rattle.std.proofs.lemmas.Nat.{from_le_bytes-to_le_bytes_8}
use Rattle.tds_token.specs.declared.env_change.EnvChange.{EnvChange}
use Rattle.tds_token.specs.declared.env_change.EnvChange.TheVariants.{Begin, Commit, Rollback, ResetDone}
use Rattle.tds_token.specs.declared.token.Token.TheVariants as tokens
use Rattle.tds_token.specs.Layout.{RangedEnv, spelling}
use Rattle.tds_client.specs.declared.sign.Sign.TheVariants as signs
use Rattle.tds_client.specs.Signs as strict
use Rattle.tds_wire.specs.Told.{told_of, change_value, wide_at}
use Rattle.tds_listen.specs.Signs.{sign_by, transaction_change}

pub same : (change : EnvChange) (start : ℕ) → RangedEnv change
    → sign_by 0xE3 (told_of 0xE3 start (length (spelling (tokens.Env change))) (take 24 (spelling (tokens.Env change)))) ≡ strict.sign_of (tokens.Env change)
unfolding told_of change_value wide_at transaction_change
same (Begin d) start few = ap (λ (n : ℕ). signs.Change (Begin n)) (from_le_bytes-to_le_bytes_8 d few)
same (Commit d) start few = ap (λ (n : ℕ). signs.Change (Commit n)) (from_le_bytes-to_le_bytes_8 d few)
same (Rollback d) start few = ap (λ (n : ℕ). signs.Change (Rollback n)) (from_le_bytes-to_le_bytes_8 d few)
same ResetDone start few = refl

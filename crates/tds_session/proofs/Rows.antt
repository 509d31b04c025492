-- The rows of a `rows` statement, from the front.
use Rattle.std.proofs.Common.{◌≡◌, ℕ, suc, ◌+◌, ◌-◌, ◌<◌, pos, [], ◌∷◌, ap, arith}
use Rattle.tds_session.specs.Script.{rows_from}
use Rattle.tds_token.specs.declared.token.Token.TheVariants as token

-- the first of the rows that are left
pub rows_next : (first end : ℕ) → first < end → rows_from first (end - first) ≡ token.Row (pos first ∷ []) ∷ rows_from (first + 1) (end - (first + 1))
rows_next first end h =
    let e : end - first ≡ suc (end - (first + 1)) = omega (arith, h) in ap (λ n. rows_from first n) e

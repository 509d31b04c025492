-- What the readers of single kinds give, as tokens (the arms of `token_behind`).
use Rattle.std.specs.Prelude.{ℕ, List, Result, Ok}
use Rattle.tds_token.specs.declared.fault.TokenFault.{TokenFault}
use Rattle.tds_token.specs.declared.fault.TokenFault.TheVariants.{Cut}
use Rattle.tds_token.specs.declared.token.Token.{Token}
use Rattle.tds_token.specs.declared.token.Token.TheVariants as tokens
use Rattle.tds_token.specs.Reading.{◌>>=◌, int_at, env_at, column_list_at}

abbrev pub status_token_at : List ℕ → Result (Token × List ℕ) TokenFault
status_token_at bytes = int_at Cut bytes >>= λ v. Ok (tokens.ReturnStatus v.0, v.1)

abbrev pub env_token_at : List ℕ → Result (Token × List ℕ) TokenFault
env_token_at bytes = env_at bytes >>= λ e. Ok (tokens.Env e.0, e.1)

abbrev pub columns_token_at : List ℕ → Result (Token × List ℕ) TokenFault
columns_token_at bytes = column_list_at bytes >>= λ c. Ok (tokens.Columns c.0, c.1)

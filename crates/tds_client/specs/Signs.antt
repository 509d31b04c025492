-- What a session needs of an answer: the signs of its tokens.
use Rattle.std.specs.Prelude.{List, [], ◌∷◌}
use Rattle.tds_token.specs.declared.token.Token.{Token}
use Rattle.tds_token.specs.declared.token.Token.TheVariants as tokens
use Rattle.tds_client.specs.declared.sign.DoneKind.TheVariants.{Statement}
use Rattle.tds_client.specs.declared.sign.Sign.{Sign}
use Rattle.tds_client.specs.declared.sign.Sign.TheVariants as signs

-- ---- The tokens of the strict profile

abbrev pub sign_of : Token → Sign
sign_of (tokens.Info m) = signs.Nothing
sign_of (tokens.Error m) = signs.Nothing
sign_of (tokens.ReturnStatus v) = signs.Nothing
sign_of (tokens.Columns cs) = signs.Nothing
sign_of (tokens.Row vs) = signs.Nothing
sign_of (tokens.Env change) = signs.Change change
sign_of (tokens.Done status cur_cmd rows) = signs.Done Statement status

abbrev pub signs_of : List Token → List Sign
signs_of [] = []
signs_of (token ∷ others) = sign_of token ∷ signs_of others

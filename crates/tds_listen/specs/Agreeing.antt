-- Where the strict reader (`tds_token`) and the parser read the same token.
use Rattle.std.specs.Prelude.{◌≡◌, ℕ, zero, suc, List, [], ◌∷◌, length, Option, Some, None}
use Rattle.tds_token.specs.declared.token.Token.{Token}
use Rattle.tds_token.specs.declared.token.Token.TheVariants as tokens
use Rattle.tds_client.specs.Signs as strict
use Rattle.tds_wire.specs.declared.shape.Shape.{Shape}
use Rattle.tds_wire.specs.declared.shape.Shape.TheVariants as shape
use Rattle.tds_wire.specs.Reading.{Parser, Outcome, Ends, Passed}
use Rattle.tds_wire.specs.Told.{added}
use Rattle.tds_listen.specs.Signs.{sign_of}

-- columns of INT4, four bytes a value, as those of the strict profile are
unfoldable pub int4s : ℕ → List Shape
int4s zero = []
int4s (suc n) = shape.Fixed 4 ∷ int4s n

-- Where the strict reader knows how many values a row has, the parser knows as many columns.
abbrev pub Knows : Option ℕ → List Shape → Type 0
Knows None columns = Unit {0}
Knows (Some n) columns = columns ≡ int4s n

-- the token's first byte
abbrev pub kind_of : Token → ℕ
kind_of (tokens.Info m) = 0xAB
kind_of (tokens.Error m) = 0xAA
kind_of (tokens.ReturnStatus v) = 0x79
kind_of (tokens.Columns cs) = 0x81
kind_of (tokens.Row vs) = 0xD1
kind_of (tokens.Env e) = 0xE3
kind_of (tokens.Done status cur_cmd rows) = 0xFD

-- One token of all these bytes has been passed, of the same kind and with the same sign, and behind it the same columns are known.
pub record IsSameToken (r : Parser) (token : Token) (bytes : List ℕ) (after : Option ℕ) (passed : Passed) : Type 0 where
  pub kind : passed.token.kind ≡ kind_of token
  pub start : passed.token.start ≡ r.start
  pub length : passed.token.length ≡ added 0 (length bytes)
  pub sign : sign_of passed.token ≡ strict.sign_of token
  pub columns : Knows after passed.columns

abbrev pub IsPassed : Parser → Token → List ℕ → List ℕ → Option ℕ → Outcome → Type 0
IsPassed r token bytes rest after outcome = (passed : Passed) × (outcome ≡ Ends passed rest) × IsSameToken r token bytes after passed

-- Tokens that are whole in a run of bytes, and say in their first bytes how long they are (MS-TDS 2.2.7).
use Rattle.std.specs.Prelude.{◌≡◌, ℕ, List, [], Option, None, Ok, drop, get_or}
use Rattle.tds_wire.specs.declared.due.Due.TheVariants.{Token}
use Rattle.tds_wire.specs.declared.told.Token.{Token as AnyToken}
use Rattle.tds_wire.specs.Bytes.{Over, onward}
use Rattle.tds_wire.specs.Reading.{IsReady, Parser, found_with, next_token}
use Rattle.tds_wire.specs.Told.{added}
use Rattle.tds_wire.specs.Walking.{Walk, with_kind}

-- bytes begin with a token of so many; behind it a walk knows what it knew, and its kind
abbrev pub IsWhole : ℕ → List ℕ → Type 0
IsWhole n bytes = (w : Walk) → w.at.due ≡ Token → onward w bytes ≡ Over (with_kind w (get_or bytes 0 0)) (drop n bytes)

-- the parser behind it
abbrev pub behind_whole : Parser → List ℕ → ℕ → Parser
behind_whole r bytes n = record { walk = with_kind r.walk (get_or bytes 0 0); head = []; start = added r.start n; passed = 0; refused = None }

-- to each parser that is ready and starts here, the next token is this one, of so many bytes
abbrev pub IsNext : ℕ → ℕ → Option AnyToken → List ℕ → Type 0
IsNext start n token bytes =
    (r : Parser) → IsReady r → r.start ≡ start → found_with (Ok n) token (behind_whole r bytes n) bytes ≡ next_token r bytes

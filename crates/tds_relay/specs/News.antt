-- The news of a reset that no application asked for, cut out of an answer: ENVCHANGE (227) of type 18, which stands behind its length
-- in two bytes (MS-TDS 2.2.7.9). That is the first one where the server owes it; any other is the application's own, and goes on.
use Rattle.std.specs.Prelude.{ℕ, ◌==◌, Bool, true, false, List, [], ◌∷◌, ◌++◌, if◌then◌else◌}
use Rattle.tds_relay.specs.declared.news.Known.{Known}
use Rattle.tds_relay.specs.declared.news.Known.TheVariants as known

-- what is known of a token behind one more byte of it
abbrev pub known_by : Known → ℕ → Known
known_by known.None byte = known.None
known_by known.Awaited byte = if byte == 227 then known.One else known.Other
known_by known.One byte = known.Two byte
known_by (known.Two low) byte = known.Three low byte
known_by (known.Three low high) byte = if byte == 18 then known.News else known.Other
known_by known.Other byte = known.Other
known_by known.News byte = known.News

-- the bytes of it that are held back until it is known
abbrev pub held : Known → List ℕ
held known.One = 227 ∷ []
held (known.Two low) = 227 ∷ low ∷ []
held (known.Three low high) = 227 ∷ low ∷ high ∷ []
held _ = []

-- some are
abbrev pub holds_back : Known → Bool
holds_back known.None = false
holds_back known.Awaited = false
holds_back known.Other = false
holds_back _ = true

-- the bytes that go on with this one, where this is known behind it
abbrev pub let_on : Known → ℕ → Known → List ℕ
let_on before byte known.None = byte ∷ []
let_on before byte known.Other = held before ++ byte ∷ []
let_on before byte _ = []

-- and of the next one behind its end: the news are awaited no more once they were there
abbrev pub known_next : Known → Known
known_next known.None = known.None
known_next known.News = known.None
known_next _ = known.Awaited

-- what is known where the server owes the news, or doesn't
abbrev pub awaiting : Bool → Known → Known
awaiting true known.None = known.Awaited
awaiting owed known = known

abbrev pub known_after : Known → List ℕ → Known
known_after before [] = before
known_after before (byte ∷ bytes) = known_after (known_by before byte) bytes

-- what of these bytes of one token goes on
abbrev pub bytes_going_on : Known → List ℕ → List ℕ
bytes_going_on before [] = []
bytes_going_on before (byte ∷ bytes) = let_on before byte (known_by before byte) ++ bytes_going_on (known_by before byte) bytes

-- the same, and with the token's end what was held back
abbrev pub goes_on_to_end : Known → List ℕ → List ℕ
goes_on_to_end before bytes = bytes_going_on before bytes ++ held (known_after before bytes)

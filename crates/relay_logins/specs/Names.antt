-- Who a LOGIN7 says that an application is (MS-TDS 2.2.6.4), as it is shown: in letters that need no escape anywhere.
use Rattle.std.specs.Prelude.{ℕ, ◌≡◌, ◌==◌, ◌&&◌, ◌||◌, Bool, List, [], ◌∷◌, take, Option, Some, None, if◌then◌else◌, string_bytes}
use Rattle.std.specs.Char.{is_ascii_alphanumeric}
use Rattle.relay_logins.specs.Session.{text_at}
use Rattle.relay_logins.specs.declared.login7.Who.{Who}

-- one of the signs that need no escape: blank . - _ / : ( ) @ +
abbrev pub is_sign : ℕ → Bool
is_sign byte = (byte == 32) || (byte == 46) || (byte == 45) || (byte == 95) || (byte == 47)
    || (byte == 58) || (byte == 40) || (byte == 41) || (byte == 64) || (byte == 43)

abbrev pub is_plain : ℕ → Bool
is_plain byte = is_ascii_alphanumeric byte || is_sign byte

-- a unit of UTF-16, its low byte first: itself where it is such a letter, else a question mark
unfoldable pub shown : ℕ → ℕ → ℕ
shown low high = if (high == 0) && is_plain low then low else 63

-- the letters of a text's units
unfoldable pub letters_of : List ℕ → List ℕ
letters_of (low ∷ high ∷ rest) = shown low high ∷ letters_of rest
letters_of _ = []

-- of the first 48 units of a text; none where it doesn't stand in the login
abbrev pub name_in : Option (List ℕ) → List ℕ
name_in None = []
name_in (Some text) = letters_of (take 96 text)

-- the name whose place and count of units stand here
abbrev pub name_at : List ℕ → ℕ → List ℕ
name_at bytes place = name_in (text_at bytes place)

-- each name is the one that stands in its own place
pub record IsSaidIn (bytes : List ℕ) (who : Who) : Type 0 where
  pub host : string_bytes who.host ≡ name_at bytes 36
  pub user : string_bytes who.user ≡ name_at bytes 40
  pub program : string_bytes who.program ≡ name_at bytes 48
  pub database : string_bytes who.database ≡ name_at bytes 68

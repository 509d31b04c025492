-- What a report says of a session.
use Rattle.std.specs.Prelude.{ℕ, ◌+◌, ℤ, List, [], ◌∷◌, ◌++◌, Option, Some, None, codes, decimal}
use Rattle.std.specs.Fmt.{signed_decimal}
use Rattle.tds_session.specs.Session.{SessionState}
use Rattle.tds_text.specs.Texts.{with_commas}

-- A setting: its key, a letter, and its value.
abbrev pub setting_text : ℕ → ℤ → List ℕ
setting_text key value = key ∷ codes "=" ++ signed_decimal value

-- The settings that are set, by rising key from this one on.
abbrev pub settings_from : ℕ → List (Option ℤ) → List (List ℕ)
settings_from key [] = []
settings_from key (None ∷ settings) = settings_from (key + 1) settings
settings_from key (Some value ∷ settings) = setting_text key value ∷ settings_from (key + 1) settings

-- Items with commas, or a dash for none.
abbrev pub or_dash : List (List ℕ) → List ℕ
or_dash [] = codes "-"
or_dash (item ∷ items) = with_commas (item ∷ items)

-- A session: its descriptor, then its settings from the key a (97) on.
unfoldable pub session_text : SessionState → List ℕ
session_text s = decimal s.descriptor ++ codes " " ++ or_dash (settings_from 97 s.settings)

-- What a server is told of a session (MS-TDS 2.2.6.4): the application's own, but where a field parts no groups. There
-- it is the relay's, whoever the application is.
use Rattle.std.specs.Prelude.{ℕ, ◌≡◌, Bool, List, [], ◌∷◌, Option, Some, if◌then◌else◌}
use Rattle.relay_logins.specs.Session.{Session, part_at, text_at}
use Rattle.relay_logins.specs.declared.keys.Keys.{Keys}

-- `tdsrelay` in UTF-16: its name as an application and as a library
abbrev pub relay_name : List ℕ
relay_name = 116 ∷ 0 ∷ 100 ∷ 0 ∷ 115 ∷ 0 ∷ 114 ∷ 0 ∷ 101 ∷ 0 ∷ 108 ∷ 0 ∷ 97 ∷ 0 ∷ 121 ∷ 0 ∷ []

-- its version as a library, and its time zone: none
abbrev pub relay_number : List ℕ
relay_number = 0 ∷ 0 ∷ 0 ∷ 0 ∷ []

-- TDS's version, packet size, flags, locale, user, password, server, language and database are always its own
abbrev pub told : Keys → Session → Session
told keys s = record s {
  client = if keys.version then s.client else relay_number;
  zone = if keys.zone then s.zone else relay_number;
  program = if keys.application then s.program else Some relay_name;
  library = if keys.library then s.library else Some relay_name;
}

-- the same of the fixed fields that are in two logins, the application's own and what is said
pub record TellsFields (keys : Keys) (own said : List ℕ) : Type 0 where
  pub version : part_at said 4 8 ≡ part_at own 4 8
  pub size : part_at said 8 12 ≡ part_at own 8 12
  pub client : part_at said 12 16 ≡ (if keys.version then part_at own 12 16 else relay_number)
  pub flags : part_at said 24 28 ≡ part_at own 24 28
  pub zone : part_at said 28 32 ≡ (if keys.zone then part_at own 28 32 else relay_number)
  pub locale : part_at said 32 36 ≡ part_at own 32 36

-- and of the texts
pub record TellsTexts (keys : Keys) (own said : List ℕ) : Type 0 where
  pub user : text_at said 40 ≡ text_at own 40
  pub password : text_at said 44 ≡ text_at own 44
  pub program : text_at said 48 ≡ (if keys.application then text_at own 48 else Some relay_name)
  pub server : text_at said 52 ≡ text_at own 52
  pub library : text_at said 60 ≡ (if keys.library then text_at own 60 else Some relay_name)
  pub language : text_at said 64 ≡ text_at own 64
  pub database : text_at said 68 ≡ text_at own 68

-- What a LOGIN7 says (MS-TDS 2.2.6.4), and what of it makes its session: where two logins differ in any of
-- that, neither is lent a connection of the other.
use Rattle.std.specs.Prelude.{ℕ, ◌+◌, ◌*◌, ◌≡◌, ◌≤◌, ◌==◌, ◌||◌, ◌⊎◌, nat_lt, List, [], ◌∷◌, length, Option, Some, None, IsSome, if◌then◌else◌, slice_index, slice_range, bit_and}
use Rattle.std.specs.Int.{w32, from_le_bytes}
use Rattle.relay_logins.specs.declared.login7.Kind.{Kind}
use Rattle.relay_logins.specs.declared.login7.Kind.TheVariants as kinds
use Rattle.relay_logins.specs.declared.login7.SharedLogin.{SharedLogin}

-- the number that two bytes spell from this place on, the lower one first; 0 where they haven't come
abbrev pub number_at : List ℕ → ℕ → ℕ
number_at bytes place =
    if nat_lt (length bytes) (place + 2) then 0
    else slice_index bytes place + 256 * slice_index bytes (place + 1)

-- behind the last byte of the text whose place and count of units of two bytes stand here
abbrev pub end_at : List ℕ → ℕ → ℕ
end_at bytes place = number_at bytes place + 2 * number_at bytes (place + 2)

-- that text; None where it doesn't stand in the login
unfoldable pub text_at : List ℕ → ℕ → Option (List ℕ)
text_at bytes place =
    if number_at bytes (place + 2) == 0 then Some []
    else if nat_lt (length bytes) (end_at bytes place) then None
    else Some (slice_range bytes (number_at bytes place) (end_at bytes place))

-- the bytes from one place to another one; none where they haven't all come
unfoldable pub part_at : List ℕ → ℕ → ℕ → List ℕ
part_at bytes from to =
    if nat_lt to from || nat_lt (length bytes) to then [] else slice_range bytes from to

-- the number that four bytes spell, the lowest one first
unfoldable pub long_of : List ℕ → ℕ
long_of (a ∷ b ∷ c ∷ d ∷ []) = from_le_bytes w32 (a ∷ b ∷ c ∷ d ∷ [])
long_of _ = 0

-- the same from this place on; 0 where they haven't come
abbrev pub long_at : List ℕ → ℕ → ℕ
long_at bytes place = long_of (part_at bytes place (place + 4))

-- what stands from the features' place on (FeatureExt)
abbrev pub features_in : List ℕ → List ℕ
features_in bytes = part_at bytes (long_at bytes (number_at bytes 56)) (length bytes)

-- no feature is asked for, or session recovery alone, without data
abbrev pub AsksNoMore : List ℕ → Type 0
AsksNoMore bytes = (bit_and (slice_index bytes 27) 16 ≡ 0) ⊎ (features_in bytes ≡ 1 ∷ 0 ∷ 0 ∷ 0 ∷ 0 ∷ 255 ∷ [])

-- What makes a session. The host's name, the process and the client's own number may differ.
pub record Session : Type 0 where
  pub version : List ℕ  -- of TDS
  pub size : List ℕ  -- of packets
  pub client : List ℕ  -- the client program's version
  pub flags : List ℕ
  pub zone : List ℕ
  pub locale : List ℕ
  pub user : Option (List ℕ)
  pub password : Option (List ℕ)
  pub program : Option (List ℕ)
  pub server : Option (List ℕ)
  pub library : Option (List ℕ)
  pub language : Option (List ℕ)
  pub database : Option (List ℕ)

-- what these bytes of a LOGIN7 say of its session
abbrev pub session_in : List ℕ → Session
session_in bytes = record {
  version = part_at bytes 4 8;
  size = part_at bytes 8 12;
  client = part_at bytes 12 16;
  flags = part_at bytes 24 28;
  zone = part_at bytes 28 32;
  locale = part_at bytes 32 36;
  user = text_at bytes 40;
  password = text_at bytes 44;
  program = text_at bytes 48;
  server = text_at bytes 52;
  library = text_at bytes 60;
  language = text_at bytes 64;
  database = text_at bytes 68;
}

-- all fixed fields have come, and each text of the session stands in the login
pub record IsWhole (bytes : List ℕ) : Type 0 where
  pub fixed : 94 ≤ length bytes
  pub user : IsSome (text_at bytes 40)
  pub password : IsSome (text_at bytes 44)
  pub program : IsSome (text_at bytes 48)
  pub server : IsSome (text_at bytes 52)
  pub library : IsSome (text_at bytes 60)
  pub language : IsSome (text_at bytes 64)
  pub database : IsSome (text_at bytes 68)

-- It is a user's of the server, by this password, which stays; no file is attached, no feature asked for but
-- session recovery.
pub record MayShare (bytes : List ℕ) : Type 0 where
  pub no_integrated : bit_and (slice_index bytes 25) 128 ≡ 0
  pub no_new_password : bit_and (slice_index bytes 27) 1 ≡ 0
  pub no_features : AsksNoMore bytes
  pub no_leg : number_at bytes 80 ≡ 0
  pub no_file : number_at bytes 84 ≡ 0

-- two logins have these equal: what client it is, and how it talks
pub record HaveEqualFields (one other : List ℕ) : Type 0 where
  pub version : part_at one 4 8 ≡ part_at other 4 8
  pub size : part_at one 8 12 ≡ part_at other 8 12
  pub client : part_at one 12 16 ≡ part_at other 12 16
  pub flags : part_at one 24 28 ≡ part_at other 24 28
  pub zone : part_at one 28 32 ≡ part_at other 28 32
  pub locale : part_at one 32 36 ≡ part_at other 32 36

-- and these: who it is, and for what
pub record HaveEqualTexts (one other : List ℕ) : Type 0 where
  pub user : text_at one 40 ≡ text_at other 40
  pub password : text_at one 44 ≡ text_at other 44
  pub program : text_at one 48 ≡ text_at other 48
  pub server : text_at one 52 ≡ text_at other 52
  pub library : text_at one 60 ≡ text_at other 60
  pub language : text_at one 64 ≡ text_at other 64
  pub database : text_at one 68 ≡ text_at other 68

-- it is shared
abbrev pub IsShared : Kind → Type 0
IsShared (kinds.Shared login) = Unit {0}
IsShared _ = ⊥

-- What such a login may be is shared, and is this one; and what is alone is this one.
abbrev pub IfShared : Kind → (SharedLogin → Type 0) → Type 0
IfShared (kinds.Shared login) holds = holds login
IfShared (kinds.Alone login) holds = Unit {0}
IfShared (kinds.Wrong why) holds = Unit {0}

abbrev pub IfAlone : Kind → (List ℕ → Type 0) → Type 0
IfAlone (kinds.Shared login) holds = Unit {0}
IfAlone (kinds.Alone login) holds = holds login.items
IfAlone (kinds.Wrong why) holds = Unit {0}

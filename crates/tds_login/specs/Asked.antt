-- What the two messages of a login ask for, by the first bytes of each (MS-TDS 2.2.6.4, 2.2.6.5).
use Rattle.std.specs.Prelude.{ℕ, zero, suc, ◌+◌, ◌*◌, ◌/◌, ◌==◌, ◌||◌, not, nat_lt, min, max, Bool, true, false, List, length, Option, Some, None, Result, Ok, Err, if◌then◌else◌, slice_get, slice_index}
use Rattle.tds_login.specs.declared.answer.LoginAnswer.{LoginAnswer}
use Rattle.tds_login.specs.declared.answer.LoginAnswer.TheVariants.{LetIn, Refuse}
use Rattle.tds_login.specs.declared.answer.Refusal.TheVariants.{OldVersion, Encryption}
use Rattle.tds_login.specs.declared.login.LoginFault.{LoginFault}
use Rattle.tds_login.specs.declared.login.LoginFault.TheVariants.{WrongMessage}

-- the number that four bytes spell from this place on, the lowest one first
abbrev pub number_at : List ℕ → ℕ → ℕ
number_at bytes at =
    slice_index bytes at + 256 * (slice_index bytes (at + 1)
    + 256 * (slice_index bytes (at + 2) + 256 * slice_index bytes (at + 3)))

-- An option of PRELOGIN is five bytes: its token, where its data begin, and how many they are. Among the
-- options from this one on: the first of the data of ENCRYPTION (token 1), unless the terminator (255)
-- stands before it.
unfoldable pub encryption_among : List ℕ → ℕ → ℕ → Option ℕ
encryption_among bytes option zero = None
encryption_among bytes option (suc left) =
    if slice_index bytes (5 * option) == 1
    then slice_get bytes (256 * slice_index bytes (5 * option + 1) + slice_index bytes (5 * option + 2))
    else if slice_index bytes (5 * option) == 255 then None
    else encryption_among bytes (suc option) left

-- the byte of PRELOGIN's option ENCRYPTION, if these first bytes of it have one
abbrev pub encryption_of : List ℕ → Option ℕ
encryption_of bytes = encryption_among bytes 0 (length bytes / 5)

-- ENCRYPT_ON or ENCRYPT_REQ, with a client's certificate or without
abbrev pub is_demand : Option ℕ → Bool
is_demand None = false
is_demand (Some byte) = (byte == 1) || (byte == 3) || (byte == 129) || (byte == 131)

-- whether PRELOGIN demands that all that follows is encrypted
abbrev pub is_demanding : List ℕ → Bool
is_demanding bytes = is_demand (encryption_of bytes)

-- the packet size for the one that was asked for: the nearest that there is, 4,096 where none was
abbrev pub size_for : ℕ → ℕ
size_for asked = if asked == 0 then 4096 else max 512 (min 32767 asked)

-- LOGIN7 of a version from 7.2 on (its number is 1,913,192,450; that of 7.4 is 1,946,157,060)
abbrev pub let_in : List ℕ → LoginAnswer
let_in bytes = LetIn (record { version = min 1946157060 (number_at bytes 4); size = size_for (number_at bytes 8) })

abbrev pub served_if : Bool → Bool → List ℕ → LoginAnswer
served_if true demands bytes = Refuse OldVersion
served_if false true bytes = Refuse Encryption
served_if false false bytes = let_in bytes

-- the answer to LOGIN7, of which these are the first bytes and so many came: its length, its version and
-- the packet size that it asks for stand in its first twelve
abbrev pub login_answer_of : List ℕ → ℕ → Bool → Result LoginAnswer LoginFault
login_answer_of bytes count demands =
    if nat_lt (length bytes) 12 then Err WrongMessage
    else if nat_lt (number_at bytes 0) 94 || not (number_at bytes 0 == count) then Err WrongMessage
    else Ok (served_if (nat_lt (number_at bytes 4) 1913192450) demands bytes)

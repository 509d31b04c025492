-- How the answers to a login are spelled (MS-TDS 2.2.6.5, 2.2.7.6, 2.2.7.9, 2.2.7.10, 2.2.7.14). Numbers of
-- tokens have their low byte first.
use Rattle.std.specs.Prelude.{ℕ, ◌%◌, List, [], ◌∷◌, ◌++◌, length, take, codes, decimal}
use Rattle.std.specs.Int.{w16, w32, to_le_bytes, to_be_bytes}
use Rattle.std.specs.List.{flat_map}
use Rattle.tds_packet.specs.declared.kind.Kind.TheVariants as kind
use Rattle.tds_packet.specs.Sent.{sent_bytes}
use Rattle.tds_login.specs.declared.answer.Layout.{Layout}
use Rattle.tds_login.specs.declared.answer.Layout.TheVariants.{Wide, Narrow}
use Rattle.tds_login.specs.declared.answer.LoginAnswer.{LoginAnswer}
use Rattle.tds_login.specs.declared.answer.LoginAnswer.TheVariants.{Prepare, LetIn, Refuse}
use Rattle.tds_login.specs.declared.answer.Refusal.TheVariants.{OldVersion, Encryption}
use Rattle.tds_login.specs.declared.answer.Terms.{Terms}
use Rattle.tds_packet.specs.declared.size.PacketSize.{PacketSize}

-- the packet of an answer, the last of its message; of the data, what a packet of 4,096 bytes holds
unfoldable pub answer_packet : List ℕ → List ℕ
answer_packet content = sent_bytes kind.Answer 1 1 (take 4088 content)

-- a text of ASCII: each byte is a unit
abbrev pub units_of : List ℕ → List ℕ
units_of text = flat_map (λ byte. byte ∷ 0 ∷ []) text

-- the same behind the count of its units, in one byte
abbrev pub short_text : List ℕ → List ℕ
short_text text = length text % 256 ∷ units_of text

-- a token: its type, the count of the bytes behind it in two bytes, and these
abbrev pub counted : ℕ → List ℕ → List ℕ
counted type body = type ∷ (to_le_bytes w16 (length body % 65536) ++ body)

-- ENVCHANGE of this type, from one text to another
abbrev pub env_change : ℕ → List ℕ → List ℕ → List ℕ
env_change type new old = counted 227 (type ∷ (short_text new ++ short_text old))

-- DONE with this status; the rows are counted in eight bytes from TDS 7.2 on, in four before
abbrev pub done : Layout → ℕ → List ℕ
done Wide status = 253 ∷ status ∷ 0 ∷ 0 ∷ 0 ∷ 0 ∷ 0 ∷ 0 ∷ 0 ∷ 0 ∷ 0 ∷ 0 ∷ 0 ∷ []
done Narrow status = 253 ∷ status ∷ 0 ∷ 0 ∷ 0 ∷ 0 ∷ 0 ∷ 0 ∷ 0 ∷ []

-- the number of the line, 1
abbrev pub first_line : Layout → List ℕ
first_line Wide = to_le_bytes w32 1
first_line Narrow = to_le_bytes w16 1

abbrev pub server_name : List ℕ
server_name = codes "tdsserve"

-- the same behind the count of its units, in two bytes
abbrev pub long_text : List ℕ → List ℕ
long_text text = to_le_bytes w16 (length text % 65536) ++ units_of text

-- an error's number, its state, 1, and its class, 20
abbrev pub error_head : ℕ → List ℕ
error_head number = to_le_bytes w32 number ++ (1 ∷ 20 ∷ [])

-- where an error occurred: on this server, in no procedure, in the first line
abbrev pub place : Layout → List ℕ
place layout = short_text server_name ++ (short_text [] ++ first_line layout)

-- what stands behind the count of ERROR
unfoldable pub error_body : Layout → ℕ → List ℕ → List ℕ
error_body layout number text =
    error_head number ++ (long_text text ++ place layout)

-- ERROR, of whose text 200 bytes count
abbrev pub error : Layout → ℕ → List ℕ → List ℕ
error layout number text = counted 170 (error_body layout number (take 200 text))

-- an answer of one ERROR and DONE
abbrev pub refusal : Layout → ℕ → List ℕ → List ℕ
refusal layout number text = error layout number text ++ done layout 2

-- what stands behind the count of LOGINACK: the interface, the version of TDS with its high byte first,
-- the server's name and version
abbrev pub acknowledged : ℕ → List ℕ
acknowledged version = 1 ∷ (to_be_bytes w32 version ++ (short_text server_name ++ 11 ∷ 0 ∷ 0 ∷ 1 ∷ []))

abbrev pub login_ack : ℕ → List ℕ
login_ack version = counted 173 (acknowledged version)

-- ENVCHANGE of the packet size
abbrev pub size_change : PacketSize → List ℕ
size_change size = env_change 4 (decimal size) (codes "4096")

-- units of two bytes
abbrev pub wide : List ℕ → List ℕ
wide units = flat_map (λ unit. to_le_bytes w16 unit) units

-- ENVCHANGE 1 behind its count: the database's name, and the one that it was, `master`
abbrev pub database_body : List ℕ → List ℕ
database_body name = 1 ∷ length name ∷ (wide name ++ short_text (codes "master"))

-- ENVCHANGE of the database, of whose name 128 units count
abbrev pub database_change : List ℕ → List ℕ
database_change name = counted 227 (database_body (take 128 name))

-- who is let in is told the database, the collation, LOGINACK, the packet size, and DONE
abbrev pub let_in : Terms → List ℕ → List ℕ
let_in terms database =
    database_change database
    ++ (counted 227 (7 ∷ 5 ∷ 9 ∷ 4 ∷ 208 ∷ 0 ∷ 52 ∷ 0 ∷ [])
    ++ (login_ack terms.version
    ++ (size_change terms.size ++ done Wide 0)))

-- PRELOGIN is answered by five options, VERSION, ENCRYPTION, INSTOPT, THREADID and MARS: where their data
-- stand and how many they are; then the version 11.0, that encryption is not supported, that the instance is
-- the right one, no thread, and no MARS
abbrev pub prepared : List ℕ
prepared =
    0 ∷ 0 ∷ 26 ∷ 0 ∷ 6 ∷ 1 ∷ 0 ∷ 32 ∷ 0 ∷ 1 ∷ 2 ∷ 0 ∷ 33 ∷ 0 ∷ 1 ∷ 3 ∷ 0 ∷ 34 ∷ 0 ∷ 0 ∷ 4 ∷ 0 ∷ 34 ∷ 0 ∷ 1
    ∷ 255 ∷ 11 ∷ 0 ∷ 0 ∷ 0 ∷ 0 ∷ 0 ∷ 2 ∷ 0 ∷ 0 ∷ []

abbrev pub old_version_text : List ℕ
old_version_text = codes "This server speaks TDS 7.2 to 7.4, and the client asked for an older version."

abbrev pub encryption_text : List ℕ
encryption_text = codes "This server does not encrypt, and the client demanded encryption."

-- the data of each answer
abbrev pub data_of : LoginAnswer → List ℕ
data_of Prepare = prepared
data_of (LetIn terms) = let_in terms (codes "main")
data_of (Refuse OldVersion) = refusal Narrow 17832 old_version_text
data_of (Refuse Encryption) = refusal Wide 17835 encryption_text

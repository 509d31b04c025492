-- What of a request may leave behind what a server doesn't tell. Its body is what stands behind ALL_HEADERS (MS-TDS 2.2.5.3).
use Rattle.std.specs.Prelude.{ℕ, ◌+◌, ◌*◌, ◌==◌, ◌&&◌, ◌||◌, not, nat_lt, Bool, true, false, List, [], ◌∷◌, length, take, drop, get_or, Option, Some, None, if◌then◌else◌}
use Rattle.std.specs.Str.{bytes_eq}
use Rattle.tds_state.specs.declared.asked.Asked.{Asked}
use Rattle.tds_state.specs.declared.asked.Call.{Call}
use Rattle.tds_state.specs.declared.asked.Call.TheVariants as calls
use Rattle.tds_state.specs.declared.asked.Request.{Request}
use Rattle.tds_state.specs.declared.asked.Request.TheVariants.{Batch, Procedure, Other}
use Rattle.tds_state.specs.KeptBytes.{no_bytes_kept, with_more_kept}
use Rattle.tds_state.specs.Spots.{four_bytes, bytes_stand}

-- ---- Letters, of two bytes each, the lowest first

-- a letter in its small form
abbrev pub small : ℕ → ℕ
small byte = if not (nat_lt byte 65) && nat_lt byte 91 then byte + 32 else byte

-- one of ASCII in its small form, any other as 0
abbrev pub letter_of : ℕ → ℕ → ℕ
letter_of low high = if high == 0 then small low else 0

-- ---- The procedure that is called (2.2.6.6): the count of its name's letters and these, or FFFF and a number

abbrev pub is_plain_letter : ℕ → Bool
is_plain_letter letter =
    (not (nat_lt letter 97) && nat_lt letter 123) || ((not (nat_lt letter 48) && nat_lt letter 58) || (letter == 95))

-- `sp_` or `xp_` stands in front: it may be a system's procedure
unfoldable pub is_system_part : List ℕ → Bool
is_system_part (a ∷ b ∷ c ∷ d ∷ e ∷ f ∷ others) =
    ((letter_of a b == 115) || (letter_of a b == 120)) && ((letter_of c d == 112) && (letter_of e f == 95))
is_system_part other = false

-- the first letter is one of a plain name: a letter, a digit, `_`, or a dot with no such part behind it
unfoldable pub is_plain_first : List ℕ → Bool
is_plain_first [] = false
is_plain_first (low ∷ []) = false
is_plain_first (low ∷ high ∷ others) = if letter_of low high == 46 then not (is_system_part others) else is_plain_letter (letter_of low high)

unfoldable pub is_plain_behind : List ℕ → Bool
is_plain_behind [] = true
is_plain_behind (low ∷ []) = false
is_plain_behind (low ∷ high ∷ others) = is_plain_first (low ∷ high ∷ others) && is_plain_behind others

abbrev pub is_plain_name : List ℕ → Bool
is_plain_name name = not (is_system_part name) && is_plain_behind name

-- `sp_executesql`, in small letters
abbrev pub execute_name : List ℕ
execute_name =
    115 ∷ 0 ∷ 112 ∷ 0 ∷ 95 ∷ 0 ∷ 101 ∷ 0 ∷ 120 ∷ 0 ∷ 101 ∷ 0 ∷ 99 ∷ 0 ∷ 117 ∷ 0 ∷ 116 ∷ 0 ∷ 101 ∷ 0 ∷ 115 ∷ 0 ∷ 113 ∷ 0 ∷ 108 ∷ 0 ∷ []

-- `sp_execute`: the text of a handle is run
abbrev pub run_name : List ℕ
run_name = 115 ∷ 0 ∷ 112 ∷ 0 ∷ 95 ∷ 0 ∷ 101 ∷ 0 ∷ 120 ∷ 0 ∷ 101 ∷ 0 ∷ 99 ∷ 0 ∷ 117 ∷ 0 ∷ 116 ∷ 0 ∷ 101 ∷ 0 ∷ []

abbrev pub is_harmless_name : List ℕ → Bool
is_harmless_name name = bytes_eq name execute_name || (bytes_eq name run_name || is_plain_name name)

-- `sp_executesql` or `sp_execute` by its number, 10 or 12, or by its name; or a plain name
unfoldable pub is_harmless : List ℕ → Bool
is_harmless [] = false
is_harmless (a ∷ []) = false
is_harmless (a ∷ b ∷ behind) =
    if (a == 255) && (b == 255) then (bytes_eq (take 2 behind) (10 ∷ 0 ∷ []) || bytes_eq (take 2 behind) (12 ∷ 0 ∷ []))
    else not (nat_lt (length behind) (2 * (a + 256 * b))) && is_harmless_name (take (2 * (a + 256 * b)) behind)

-- ---- Calls that make a handle or close one: their number or their name, two bytes of options, and parameters, each the length of its
-- name, a byte (1: it is returned), its type (26 04: a number of four bytes) and its value behind its length

abbrev pub prepare_number : List ℕ
prepare_number = 255 ∷ 255 ∷ 11 ∷ 0 ∷ []

abbrev pub prepare_name : List ℕ
prepare_name = 10 ∷ 0 ∷ 115 ∷ 0 ∷ 112 ∷ 0 ∷ 95 ∷ 0 ∷ 112 ∷ 0 ∷ 114 ∷ 0 ∷ 101 ∷ 0 ∷ 112 ∷ 0 ∷ 97 ∷ 0 ∷ 114 ∷ 0 ∷ 101 ∷ 0 ∷ []

abbrev pub prepexec_number : List ℕ
prepexec_number = 255 ∷ 255 ∷ 13 ∷ 0 ∷ []

abbrev pub prepexec_name : List ℕ
prepexec_name = 11 ∷ 0 ∷ 115 ∷ 0 ∷ 112 ∷ 0 ∷ 95 ∷ 0 ∷ 112 ∷ 0 ∷ 114 ∷ 0 ∷ 101 ∷ 0 ∷ 112 ∷ 0 ∷ 101 ∷ 0 ∷ 120 ∷ 0 ∷ 101 ∷ 0 ∷ 99 ∷ 0 ∷ []

abbrev pub unprepare_number : List ℕ
unprepare_number = 255 ∷ 255 ∷ 15 ∷ 0 ∷ []

abbrev pub unprepare_name : List ℕ
unprepare_name = 12 ∷ 0 ∷ 115 ∷ 0 ∷ 112 ∷ 0 ∷ 95 ∷ 0 ∷ 117 ∷ 0 ∷ 110 ∷ 0 ∷ 112 ∷ 0 ∷ 114 ∷ 0 ∷ 101 ∷ 0 ∷ 112 ∷ 0 ∷ 97 ∷ 0 ∷ 114 ∷ 0 ∷ 101 ∷ 0 ∷ []

-- its first parameter has no name, and is a number of four bytes that is returned
abbrev pub prepares_by : List ℕ → List ℕ → Bool
prepares_by head front = bytes_stand head 0 front && bytes_stand (drop (length front) head) 2 (0 ∷ 1 ∷ 38 ∷ 4 ∷ [])

abbrev pub prepares : List ℕ → Bool
prepares head =
    (prepares_by head prepare_number || prepares_by head prepexec_number) || (prepares_by head prepare_name || prepares_by head prepexec_name)

-- its only parameter has no name, and is this number of four bytes, with which the request ends
abbrev pub unprepared_handle : List ℕ → List ℕ → Option ℕ
unprepared_handle head front =
    if bytes_stand head 0 front && bytes_stand (drop (length front) head) 2 (0 ∷ 0 ∷ 38 ∷ 4 ∷ 4 ∷ []) then four_bytes (drop 7 (drop (length front) head))
    else None

abbrev pub unprepares_or : Option ℕ → Call → Call
unprepares_or (Some handle) other = calls.Unprepares handle
unprepares_or None other = other

abbrev pub unprepares : List ℕ → Call
unprepares head = unprepares_or (unprepared_handle head unprepare_number) (unprepares_or (unprepared_handle head unprepare_name) calls.Unknown)

-- what a call is of which these are the first bytes
abbrev pub procedure_call : List ℕ → Call
procedure_call head = if is_harmless head then calls.Harmless else if prepares head then calls.Prepares else unprepares head

abbrev pub is_known_call : Call → Bool
is_known_call calls.Harmless = true
is_known_call calls.Prepares = true
is_known_call (calls.Unprepares handle) = true
is_known_call calls.Unknown = false

-- ---- The letters `bulk` in a batch: behind `insert bulk`, the rows come with the next request

abbrev pub bulk : List ℕ
bulk = 98 ∷ 0 ∷ 117 ∷ 0 ∷ 108 ∷ 0 ∷ 107 ∷ 0 ∷ []

-- how many bytes of it have come, one behind the other; once all have, it stays so
abbrev pub letters_next : ℕ → ℕ → ℕ
letters_next came byte =
    if not (nat_lt came 8) then 8
    else if small byte == get_or bulk came 0 then came + 1
    else if small byte == 98 then 1
    else 0

unfoldable pub letters_after : ℕ → List ℕ → ℕ
letters_after came [] = came
letters_after came (byte ∷ others) = letters_after (letters_next came byte) others

-- ---- The newest request

abbrev pub request_begun : Asked → Request → Asked
request_begun a kind = record { kind = kind; head = no_bytes_kept a.head.most; letters = 0 }

abbrev pub body_sent_by : Request → Asked → List ℕ → Asked
body_sent_by Batch a bytes = record a { letters = letters_after a.letters bytes }
body_sent_by Procedure a bytes = record a { head = with_more_kept a.head bytes }
body_sent_by Other a bytes = a

abbrev pub with_body : Asked → List ℕ → Asked
with_body a bytes = body_sent_by a.kind a bytes

abbrev pub call_by : Request → List ℕ → Call
call_by Batch head = calls.Harmless
call_by Procedure head = procedure_call head
call_by Other head = calls.Harmless

abbrev pub asked_call : Asked → Call
asked_call a = call_by a.kind a.head.bytes

abbrev pub makes_by : Request → List ℕ → Bool
makes_by Batch head = false
makes_by Procedure head = not (is_known_call (procedure_call head))
makes_by Other head = false

-- it may make what a server doesn't tell, and that isn't counted
abbrev pub may_make_handles : Asked → Bool
may_make_handles a = makes_by a.kind a.head.bytes

abbrev pub is_call : Request → Bool
is_call Batch = false
is_call Procedure = true
is_call Other = false

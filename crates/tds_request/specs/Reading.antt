-- Reading a message from left to right, with the first fault that is met.
use Rattle.std.specs.Prelude.{◌≡◌, ◌⊎◌, ℕ, ◌+◌, ◌*◌, ◌%◌, List, [], ◌∷◌, length, take, drop, Bool, Option, Some, None, Result, Ok, Err, MatchResult, IsOk, nat_lt, nat_le, ◌&&◌, ◌==◌, if◌then◌else◌}
use Rattle.std.specs.Int.{Width, w16, w32, w64, byte_len, from_le_bytes}
use Rattle.tds_request.specs.declared.fault.RequestFault.{RequestFault}
use Rattle.tds_request.specs.declared.fault.RequestFault.TheVariants.{Short, WrongTotalLength, WrongHeader, WrongCount, WrongTextLength, WrongRequestType, WrongIsolation, WrongName, WrongFlags, BytesLeftOver, Memory}
use Rattle.tds_request.specs.declared.request.Request.{Request}
use Rattle.tds_request.specs.declared.request.Request.TheVariants as requests
use Rattle.tds_request.specs.declared.request.RequestKind.{RequestKind}
use Rattle.tds_request.specs.declared.request.RequestKind.TheVariants as kinds

-- The next field is read only where this one is right.
infixl 10 ◌>>=◌
abbrev pub ◌>>=◌ : {A B : Type 0} → Result A RequestFault → (A → Result B RequestFault) → Result B RequestFault
(Ok x) >>= f = f x
(Err e) >>= f = Err e

-- What a function returned, seen by view, is what reading gives.
abbrev pub Gives : {X Y : Type 0} → (X → Y) → Result X RequestFault → Result Y RequestFault → Type 0
Gives view result read = MatchResult result (λ x. read ≡ Ok (view x)) (λ e. read ≡ Err e)

-- The same, where memory may run out: then reading gives a value.
abbrev pub Answers : {X : Type 0} → Result X RequestFault → Result X RequestFault → Type 0
Answers result read = MatchResult result (λ x. read ≡ Ok x) (λ e. (read ≡ Err e) ⊎ ((e ≡ Memory) × IsOk read))

-- A field is a number and the bytes after it.
abbrev pub byte_at : List ℕ → Result (ℕ × List ℕ) RequestFault
byte_at [] = Err Short
byte_at (b ∷ rest) = Ok (b, rest)

abbrev pub number_at : Width → List ℕ → Result (ℕ × List ℕ) RequestFault
number_at w bytes = if nat_lt (length bytes) (byte_len w) then Err Short else Ok (from_le_bytes w (take (byte_len w) bytes), drop (byte_len w) bytes)

-- A field that has one value, else it is wrong.
unfoldable pub byte_is_at : ℕ → RequestFault → List ℕ → Result (List ℕ) RequestFault
byte_is_at wanted wrong bytes = do
  found ← byte_at bytes
  if found.0 == wanted then Ok found.1 else Err wrong

unfoldable pub number_is_at : Width → ℕ → RequestFault → List ℕ → Result (List ℕ) RequestFault
number_is_at w wanted wrong bytes = do
  found ← number_at w bytes
  if found.0 == wanted then Ok found.1 else Err wrong

-- ALL_HEADERS, and in them the one header (MS-TDS 2.2.5.3 and 2.2.5.3.2): the total length, the header's length and type, the descriptor, the count.
unfoldable pub header_fields_at : List ℕ → Result (ℕ × List ℕ) RequestFault
header_fields_at bytes = do
  header ← number_is_at w32 22 WrongTotalLength bytes
  type ← number_is_at w32 18 WrongHeader header
  value ← number_is_at w16 2 WrongHeader type
  descriptor ← number_at w64 value
  rest ← number_is_at w32 1 WrongCount descriptor.1
  Ok (descriptor.0, rest)

-- Under 22 bytes no field is looked at.
unfoldable pub headers_at : List ℕ → Result (ℕ × List ℕ) RequestFault
headers_at bytes = if nat_lt (length bytes) 22 then Err Short else header_fields_at bytes

-- The units that lie in these bytes, each with its low byte first.
abbrev pub units_of : List ℕ → List ℕ
units_of [] = []
units_of (low ∷ []) = []
units_of (low ∷ high ∷ bytes) = (low + 256 * high) ∷ units_of bytes

-- A text is neither empty nor over 4,000 bytes, and its bytes come in pairs.
abbrev pub is_text_length : ℕ → Bool
is_text_length n = nat_le 1 n && (n % 2 == 0) && nat_le n 4000

-- A batch: what stands behind the headers is its text. MS-TDS 2.2.6.7.
unfoldable pub batch_in : List ℕ → Result Request RequestFault
batch_in bytes = if is_text_length (length bytes) then Ok (requests.Batch (units_of bytes)) else Err WrongTextLength

-- Nothing stands behind the last field.
abbrev pub ended : {A : Type 0} → A → List ℕ → Result A RequestFault
ended value rest = if length rest == 0 then Ok value else Err BytesLeftOver

abbrev pub isolation_of : ℕ → Result ℕ RequestFault
isolation_of number = if nat_le number 5 then Ok number else Err WrongIsolation

-- What begins a transaction: the isolation level and an empty name. MS-TDS 2.2.6.9.
unfoldable pub begun_in : List ℕ → Result ℕ RequestFault
begun_in payload = do
  number ← byte_at payload
  level ← isolation_of number.0
  rest ← byte_is_at 0 WrongName number.1
  ended level rest

-- The flags say whether the next transaction begins at once. MS-TDS 2.2.6.9.
unfoldable pub begun_anew_in : ℕ → List ℕ → Result (Option ℕ) RequestFault
begun_anew_in flags rest =
    if flags == 0 then ended None rest
    else if flags == 1 then (begun_in rest >>= λ level. Ok (Some level))
    else Err WrongFlags

-- Commit and rollback: an empty name, the flags, and what they say follows. MS-TDS 2.2.6.9.
unfoldable pub end_in : List ℕ → Result (Option ℕ) RequestFault
end_in payload = do
  name ← byte_is_at 0 WrongName payload
  flags ← byte_at name
  begun_anew_in flags.0 flags.1

-- A transaction manager request: its type, and the payload of that type. MS-TDS 2.2.6.9.
unfoldable pub transaction_in : List ℕ → Result Request RequestFault
transaction_in bytes = do
  type ← number_at w16 bytes
  if type.0 == 5 then (begun_in type.1 >>= λ level. Ok (requests.Begin level))
      else if type.0 == 7 then (end_in type.1 >>= λ anew. Ok (requests.Commit anew))
      else if type.0 == 8 then (end_in type.1 >>= λ anew. Ok (requests.Rollback anew))
      else Err WrongRequestType

abbrev pub body_in : RequestKind → List ℕ → Result Request RequestFault
body_in kinds.Batch bytes = batch_in bytes
body_in kinds.Transaction bytes = transaction_in bytes

-- The descriptor and the request of a whole message, or its first fault.
unfoldable pub read_request : RequestKind → List ℕ → Result (ℕ × Request) RequestFault
read_request kind bytes = do
  headers ← headers_at bytes
  request ← body_in kind headers.1
  Ok (headers.0, request)

abbrev pub fault_of : {A : Type 0} → Result A RequestFault → Option RequestFault
fault_of (Ok x) = None
fault_of (Err fault) = Some fault

-- The first wrong field of a message of this kind, if one is wrong.
abbrev pub wrong_request : RequestKind → List ℕ → Option RequestFault
wrong_request kind bytes = fault_of (read_request kind bytes)

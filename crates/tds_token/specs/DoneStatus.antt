-- The bits of a DONE's status (MS-TDS 2.2.7.6).
use Rattle.std.specs.Prelude.{ℕ}

-- more follows: the DONE is not final
abbrev pub more : ℕ
more = 0x0001

-- the request ended in an ERROR
abbrev pub error : ℕ
error = 0x0002

-- a transaction is open
abbrev pub in_transaction : ℕ
in_transaction = 0x0004

-- the row count is valid
abbrev pub count : ℕ
count = 0x0010

-- an attention is acknowledged
abbrev pub attention : ℕ
attention = 0x0020

-- the server had an error by which the result is void
abbrev pub server_error : ℕ
server_error = 0x0100

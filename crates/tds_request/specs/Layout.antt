-- Each request, and the bytes that spell it: whole messages, without the headers of their packets. All numbers are little-endian.
use Rattle.std.specs.Prelude.{◌≡◌, ℕ, ◌^◌, ◌<◌, List, [], ◌∷◌, ◌++◌, Option, None, Some, IfSome}
use Rattle.std.specs.Int.{w16, w32, w64, to_le_bytes}
use Rattle.std.specs.List.{flat_map}
use Rattle.tds_packet.specs.declared.kind.Kind.{Kind}
use Rattle.tds_packet.specs.declared.kind.Kind.TheVariants as packets
use Rattle.tds_request.specs.declared.request.Request.{Request}
use Rattle.tds_request.specs.declared.request.Request.TheVariants as requests
use Rattle.tds_request.specs.declared.request.RequestKind.{RequestKind}
use Rattle.tds_request.specs.declared.request.RequestKind.TheVariants as kinds
use Rattle.tds_request.specs.Values.{IsBatchText, IsIsolation}

-- Which message a request is: a batch (packet type 01), or a transaction manager request (packet type 0E). MS-TDS 2.2.3.1.1.
abbrev pub kind_of_request : Request → RequestKind
kind_of_request (requests.Batch units) = kinds.Batch
kind_of_request _ = kinds.Transaction

-- The type of its packets (MS-TDS 2.2.3.1.1).
abbrev pub packet_kind : RequestKind → Kind
packet_kind kinds.Batch = packets.Batch
packet_kind kinds.Transaction = packets.Transaction

-- The transaction descriptor header: its length 18 (four bytes), its type 2 (two), the descriptor (eight), and the count of outstanding requests (four), always 1. MS-TDS 2.2.5.3.2.
abbrev pub descriptor_header : ℕ → List ℕ
descriptor_header descriptor = to_le_bytes w32 18 ++ (to_le_bytes w16 2 ++ (to_le_bytes w64 descriptor ++ to_le_bytes w32 1))

-- ALL_HEADERS: the total length 22 (four bytes), and the one header. MS-TDS 2.2.5.3.
abbrev pub all_headers : ℕ → List ℕ
all_headers descriptor = to_le_bytes w32 22 ++ descriptor_header descriptor

-- A text, unit by unit.
abbrev pub text_bytes : List ℕ → List ℕ
text_bytes units = flat_map (λ unit. to_le_bytes w16 unit) units

-- An empty name of a transaction: its length of one byte. MS-TDS 2.2.6.9.
abbrev pub no_name : List ℕ
no_name = 0 ∷ []

-- What begins a transaction: its isolation level and an empty name. MS-TDS 2.2.6.9.
abbrev pub begun : ℕ → List ℕ
begun isolation = isolation ∷ no_name

-- The flags of a commit or rollback: 0, or 1 (fBeginXact) where the next transaction begins at once, and what begins it follows. MS-TDS 2.2.6.9.
abbrev pub begun_anew : Option ℕ → List ℕ
begun_anew None = 0 ∷ []
begun_anew (Some isolation) = 1 ∷ begun isolation

-- What stands behind ALL_HEADERS: the text of a batch (MS-TDS 2.2.6.7), or the request type of two bytes and its payload (MS-TDS 2.2.6.9).
abbrev pub body_of : Request → List ℕ
body_of (requests.Batch units) = text_bytes units
body_of (requests.Begin isolation) = to_le_bytes w16 5 ++ begun isolation
body_of (requests.Commit anew) = to_le_bytes w16 7 ++ (no_name ++ begun_anew anew)
body_of (requests.Rollback anew) = to_le_bytes w16 8 ++ (no_name ++ begun_anew anew)

-- The whole message of a request in the transaction of this descriptor, or in none: then it is 0.
abbrev pub request_spelling : ℕ → Request → List ℕ
request_spelling descriptor request = all_headers descriptor ++ body_of request

-- The values that a request may have.
abbrev pub Fits : Request → Type 0
Fits (requests.Batch units) = IsBatchText units
Fits (requests.Begin isolation) = IsIsolation isolation
Fits (requests.Commit anew) = IfSome anew IsIsolation
Fits (requests.Rollback anew) = IfSome anew IsIsolation

-- The bytes are a message of this kind, and spell this descriptor and this request.
pub record IsRequest (kind : RequestKind) (descriptor : ℕ) (request : Request) (bytes : List ℕ) : Type 0 where
  pub kind_is : kind ≡ kind_of_request request
  pub spelled : bytes ≡ request_spelling descriptor request
  pub fits : Fits request
  pub ranged : descriptor < 2 ^ 64

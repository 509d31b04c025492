-- Taking a request, and cancelling one.
use Rattle.std.proofs.Common.{◌≡◌, ℕ, ◌+◌, ◌*◌, List, [], length, Some, None, Ok, Option, refl, sym, ap, ◌∙◌, arith}
use Rattle.tds_packet.specs.declared.status.Reset.{Reset}
use Rattle.tds_packet.specs.Resets.{strongest}
use Rattle.tds_request.specs.declared.request.Request.{Request}
use Rattle.tds_request.specs.declared.request.Request.TheVariants.{Batch}
use Rattle.tds_request.specs.declared.request.RequestKind.TheVariants.{Transaction}
use Rattle.tds_request.specs.Layout.{body_of, kind_of_request}
use Rattle.tds_client.specs.declared.client.parts.ClientParts.{ClientParts}
use Rattle.tds_client.specs.declared.heard.Heard.{Heard}
use Rattle.tds_client.specs.Parts.{parts_of, session_from}
use Rattle.tds_client.specs.Sending.{cancelled, message_of, started}
use Rattle.tds_client.specs.Session.{ClientSession, marked, unless_idle}
use Rattle.tds_c.specs.declared.client.TdsClient.{TdsClient}
use Rattle.tds_c.specs.declared.messages.Asked.{Asked}
use Rattle.tds_c.specs.declared.messages.Asked.TheVariants as variants
use Rattle.tds_c.specs.Calls.{cancels, marks, request_of, start_on, starts, value_of}
use Rattle.tds_c.specs.Plain.{client_of, plain_of}
use Rattle.tds_c.proofs.Joining.{parted}
use Rattle.tds_c.proofs.Writing.{two_each}

pub starts_from : (c : TdsClient) (request : Request) (s : ClientSession) → client_of c [] ≡ Some s → starts c request ≡ Some (start_on request s)
starts_from c request s held = rw held refl

pub started_from : (c : TdsClient) (request : Request) (s : ClientSession) → client_of c [] ≡ Some s → unless_idle s.stage ≡ None
    → starts c request ≡ Some (Ok (record { answer = tt; session = started s request; bytes = message_of s.heard request }))
started_from c request s held idle = rw (held, idle) refl

-- the value of a client that has taken a request
pub is_started : (parts : ClientParts) (left : List ℕ) (s : ClientSession) → session_from parts left ≡ s → plain_of parts 0 ≡ value_of s 0
is_started parts left s same = ap (λ (p : ClientParts). plain_of p 0) (sym (parted parts left) ∙ ap parts_of same)

pub batch_length : (heard : Heard) (text : List ℕ) → 22 + 2 * length text ≡ length (message_of heard (Batch text))
batch_length heard text = omega (arith, two_each text)

-- A request to the transaction manager.
pub asked_kind : (asked : Asked) → Transaction ≡ kind_of_request (request_of asked)
asked_kind (variants.Begin isolation) = refl
asked_kind (variants.Commit next) = refl
asked_kind (variants.Rollback next) = refl

pub asked_length : (heard : Heard) (asked : Asked) (bytes : List ℕ) → bytes ≡ body_of (request_of asked) → 22 + length bytes ≡ length (message_of heard (request_of asked))
asked_length heard asked bytes same = omega (arith, ap length same)

pub cancels_from : (c : TdsClient) (s : ClientSession) → client_of c [] ≡ Some s → cancels c ≡ Some (cancelled s)
cancels_from c s held = rw held refl

-- A mark of a client that is idle.
pub marks_from : (c : TdsClient) (reset : Reset) (s : ClientSession) → client_of c [] ≡ Some s → unless_idle s.stage ≡ None
    → marks c reset ≡ Some (Ok (record { answer = tt; session = marked s reset; bytes = [] }))
marks_from c reset s held idle = rw (held, idle) refl

pub is_marked : (p : ClientParts) (reset : Reset) (mark : Option Reset) → mark ≡ strongest (Some reset) p.heard.mark
    → plain_of (record p { heard = record p.heard { mark = mark } }) 0 ≡ value_of (marked (session_from p []) reset) 0
is_marked p reset mark same = rw same (is_started (record p { heard = record p.heard { mark = strongest (Some reset) p.heard.mark } }) [] (marked (session_from p []) reset) refl)

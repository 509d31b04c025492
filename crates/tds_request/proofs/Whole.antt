-- Laws of whole messages.
use Rattle.std.proofs.Common.{◌≡◌, ℕ, ◌+◌, ◌≤◌, List, length, Result, Ok, Err, None, Some, refl, sym, ap, ◌∙◌, arith, inl, inr}
use Rattle.std.proofs.lemmas.Bool.{cases_lt}
use Rattle.std.proofs.lemmas.List.{length-append, get_or_past}
use Rattle.tds_request.specs.declared.fault.RequestFault.{RequestFault}
use Rattle.tds_request.specs.declared.request.Request.{Request}
use Rattle.tds_request.specs.declared.request.Request.TheVariants as requests
use Rattle.tds_request.specs.declared.request.RequestKind.{RequestKind}
use Rattle.tds_request.specs.Values.{AreBytes}
use Rattle.tds_request.specs.Layout.{Fits, IsRequest, all_headers, body_of, request_spelling}
use Rattle.tds_request.specs.Reading.{read_request, fault_of, wrong_request}
use Rattle.tds_request.proofs.Readers.{IsBytes, ok_is}
use Rattle.tds_request.proofs.Texts.{text_length}
use Rattle.tds_request.proofs.Messages.{spelled_is_read, read_is_spelled}

pub one_spelling : (kind other : RequestKind) (descriptor : ℕ) (request : Request) (first second : List ℕ) → IsRequest kind descriptor request first → IsRequest other descriptor request second → (first ≡ second) × (kind ≡ other)
one_spelling kind other descriptor request first second a b = (a.spelled ∙ sym b.spelled, a.kind_is ∙ sym b.kind_is)

abbrev Answer : Type 0
Answer = Result (ℕ × Request) RequestFault

pub one_value : (kind : RequestKind) (first second : ℕ) (one other : Request) (bytes : List ℕ) → IsRequest kind first one bytes → IsRequest kind second other bytes → (first ≡ second) × (one ≡ other)
one_value kind first second one other bytes a b =
    let same = ok_is (first, one) (second, other) (sym (spelled_is_read kind first one bytes a) ∙ spelled_is_read kind second other bytes b) in
    (ap (λ (x : ℕ × Request). x.0) same, ap (λ (x : ℕ × Request). x.1) same)

body_length : (request : Request) → Fits request → (2 ≤ length (body_of request)) × (length (body_of request) ≤ 4000)
body_length (requests.Batch units) h = (omega (arith, text_length units, h.least), omega (arith, text_length units, h.most))
body_length (requests.Begin level) h = (omega arith, omega arith)
body_length (requests.Commit None) h = (omega arith, omega arith)
body_length (requests.Commit (Some level)) h = (omega arith, omega arith)
body_length (requests.Rollback None) h = (omega arith, omega arith)
body_length (requests.Rollback (Some level)) h = (omega arith, omega arith)

pub length_of_message : (kind : RequestKind) (descriptor : ℕ) (request : Request) (bytes : List ℕ) → IsRequest kind descriptor request bytes → (24 ≤ length bytes) × (length bytes ≤ 4022)
length_of_message kind descriptor request bytes h =
    let body = body_length request h.fits in
    let whole : length bytes ≡ length (request_spelling descriptor request) = ap length h.spelled in
    let parts : length (request_spelling descriptor request) ≡ 22 + length (body_of request) = length-append (all_headers descriptor) (body_of request) in
    (omega (arith, body.0, whole, parts), omega (arith, body.1, whole, parts))

pub spelled : (kind : RequestKind) (descriptor : ℕ) (request : Request) (bytes : List ℕ) → IsRequest kind descriptor request bytes → wrong_request kind bytes ≡ None
spelled kind descriptor request bytes h = ap fault_of (spelled_is_read kind descriptor request bytes h)

IsBytes-from : (bytes : List ℕ) → AreBytes bytes → IsBytes bytes
IsBytes-from bytes h i =
    elim (cases_lt i (length bytes)) [
      | inl lt ↦ h i 0 lt
      | inr le ↦ rw (get_or_past bytes i 0 le) (omega arith)
    ]

no_fault : (r : Answer) → fault_of r ≡ None → (x : ℕ × Request) × (r ≡ Ok x)
no_fault (Ok x) e = (x, refl)
no_fault (Err fault) e = absurd cc

pub wrong : (kind : RequestKind) (bytes : List ℕ) → AreBytes bytes → wrong_request kind bytes ≡ None → (descriptor : ℕ) × (request : Request) × IsRequest kind descriptor request bytes
wrong kind bytes fits e =
    let x = no_fault (read_request kind bytes) e in
    (x.0.0, x.0.1, read_is_spelled kind x.0.0 x.0.1 bytes (IsBytes-from bytes fits) x.1)

-- What reading gives, in the words of the layout.
use Rattle.std.proofs.Common.{◌≡◌, ◌⊎◌, ℕ, List, Result, Ok, Err, IfOk, IsOk, refl, sym, ap, ◌∙◌, inl, inr}
use Rattle.tds_request.specs.declared.fault.RequestFault.{RequestFault}
use Rattle.tds_request.specs.declared.fault.RequestFault.TheVariants.{Memory}
use Rattle.tds_request.specs.declared.request.Request.{Request}
use Rattle.tds_request.specs.declared.request.RequestKind.{RequestKind}
use Rattle.tds_request.specs.Layout.{IsRequest}
use Rattle.tds_request.specs.Reading.{Answers, read_request}
use Rattle.tds_request.proofs.Readers.{IsBytes}
use Rattle.tds_request.proofs.Memoryless.{no_memory_fault}
use Rattle.tds_request.proofs.Messages.{spelled_is_read, read_is_spelled}

abbrev Answer : Type 0
Answer = Result (ℕ × Request) RequestFault

pub found_by : (answer : Answer) (kind : RequestKind) (bytes : List ℕ) → IsBytes bytes → Answers answer (read_request kind bytes) → IfOk answer (λ x. IsRequest kind x.0 x.1 bytes)
found_by (Ok x) kind bytes fits h = read_is_spelled kind x.0 x.1 bytes fits h
found_by (Err e) kind bytes fits h = tt

pub only_by : (answer : Answer) (kind : RequestKind) (bytes : List ℕ) (descriptor : ℕ) (request : Request) → Answers answer (read_request kind bytes) → IsRequest kind descriptor request bytes → (answer ≡ Ok (descriptor, request)) ⊎ (answer ≡ Err Memory)
only_by (Ok x) kind bytes descriptor request h is = inl (sym h ∙ spelled_is_read kind descriptor request bytes is)
only_by (Err e) kind bytes descriptor request (inl h) is = let read = spelled_is_read kind descriptor request bytes is in absurd cc
only_by (Err e) kind bytes descriptor request (inr h) is = inr (ap (λ (f : RequestFault). Err f) h.0)

-- what reads spells a request
some_request : (r : Answer) (kind : RequestKind) (bytes : List ℕ) → IsBytes bytes → read_request kind bytes ≡ r → IsOk r → (descriptor : ℕ) × (request : Request) × IsRequest kind descriptor request bytes
some_request (Ok x) kind bytes fits e h = (x.0, x.1, read_is_spelled kind x.0 x.1 bytes fits e)
some_request (Err d) kind bytes fits e h = absurd cc

pub memory_by : (answer : Answer) (kind : RequestKind) (bytes : List ℕ) → IsBytes bytes → Answers answer (read_request kind bytes) → answer ≡ Err Memory → (descriptor : ℕ) × (request : Request) × IsRequest kind descriptor request bytes
memory_by (Ok x) kind bytes fits h e = absurd cc
memory_by (Err d) kind bytes fits (inl h) e = absurd (no_memory_fault kind bytes (h ∙ e))
memory_by (Err d) kind bytes fits (inr h) e = some_request (read_request kind bytes) kind bytes fits refl h.1

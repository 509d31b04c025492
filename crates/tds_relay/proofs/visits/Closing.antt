-- Whether a packet that comes ends its message, by what the service answers to it.
use Rattle.std.proofs.Common.{◌≡◌, ℕ, Bool, true, false, List, refl, sym, subst}
use Rattle.std.specs.Prelude.{Option, Some, None, IsSome, Result, Ok, Err, if◌then◌else◌}
use Rattle.tds_wire.specs.declared.fault.Refusal.{Refusal}
use Rattle.tds_wire.specs.declared.told.Token.{Token}
use Rattle.tds_wire.specs.Reading.{Parser, is_between}
use Rattle.tds_client.specs.declared.fault.ClientFault.{ClientFault}
use Rattle.tds_client.specs.declared.heard.FinalDone.{FinalDone}
use Rattle.tds_client.specs.declared.heard.FinalDone.TheVariants.{Awaited, Answered, Acknowledged}
use Rattle.tds_client.specs.declared.heard.Heard.{Heard}
use Rattle.tds_listen.specs.declared.fault.ListenFault.{ListenFault}
use Rattle.tds_listen.specs.declared.fault.ListenFault.TheVariants as faults
use Rattle.tds_listen.specs.Hearing.{Fails, Stands, Stop, TokensHeard, heard_by, tokens_in}
use Rattle.tds_service.specs.Line as line
use Rattle.tds_service.specs.Line.{Answer, Line, reads, skips, skips_to_end, line_turn}
use Rattle.tds_service.specs.Packets.{close_from, items_from}
use Rattle.tds_service.specs.Parts as parts
use Rattle.tds_service.specs.Parts.{Item, Part, hear_items, hear_part, heard_until, is_end}
use Rattle.tds_relay.specs.Ties.{part_on}
use Rattle.tds_relay.proofs.ends.Fronting.{line_at}

-- the packet ends its message, or doesn't, as the answer has it
abbrev pub EndsAs : Bool → Bool → Answer → Type 0
EndsAs ends closes (line.Finished request) = ends ≡ true
EndsAs ends closes (line.Acked request) = ends ≡ true
EndsAs ends closes (line.Fault fault) = Unit {0}
EndsAs ends closes answer = closes ≡ ends

-- ---- By the answer

more_ends : (l : Line) (part : Part Token) (u : Heard) (r : Result Heard ListenFault) → EndsAs false false (reads l part false u r).answer
more_ends l part u (Ok heard) = refl
more_ends l part u (Err fault) = tt

finished_ends : (l : Line) (part : Part Token) (u : Heard) (r : Result Heard ListenFault) → EndsAs true true (reads l part true u r).answer
finished_ends l part u (Ok heard) = refl
finished_ends l part u (Err fault) = tt

skipped_ends : (l : Line) (u : Heard) (r : Result Heard ListenFault) → EndsAs false false (skips {T = Token} l false u r).answer
skipped_ends l u (Ok heard) = refl
skipped_ends l u (Err fault) = tt

settled_ends : (l : Line) (heard : Heard) (done : FinalDone) → EndsAs true true (skips_to_end {T = Token} l heard done).answer
settled_ends l heard Awaited = refl
settled_ends l heard Answered = refl
settled_ends l heard Acknowledged = refl

acked_ends : (l : Line) (u : Heard) (r : Result Heard ListenFault) → EndsAs true true (skips {T = Token} l true u r).answer
acked_ends l u (Ok heard) = settled_ends l heard heard.done
acked_ends l u (Err fault) = tt

-- Behind bytes that are none all is a fault.
abbrev fails_so : Refusal → Result Heard ClientFault → Result Heard ListenFault
fails_so refusal heard = heard_by heard (λ next. Err (faults.Wire refusal))

read_fails : (l : Line) (part : Part Token) (u : Heard) (refusal : Refusal) (heard : Result Heard ClientFault) (ends : Bool) → EndsAs ends false (reads l part false u (fails_so refusal heard)).answer
read_fails l part u refusal (Ok next) ends = tt
read_fails l part u refusal (Err fault) ends = tt

skip_fails : (l : Line) (u : Heard) (refusal : Refusal) (heard : Result Heard ClientFault) (ends : Bool) → EndsAs ends false (skips {T = Token} l false u (fails_so refusal heard)).answer
skip_fails l u refusal (Ok next) ends = tt
skip_fails l u refusal (Err fault) ends = tt

-- ---- By what stands behind the tokens

ends_if : (b : Bool) → is_end (if b then parts.Ends else parts.Cut) ≡ true
ends_if true = refl
ends_if false = refl

abbrev part_of : List (Item Token) → Bool → Stop → Part Token
part_of items ends stop = record { items = items; close = close_from ends stop }

abbrev EndsBy : Line → List (Item Token) → Bool → Stop → Type 0
EndsBy l items ends stop = EndsAs ends (is_end (close_from ends stop)) (line_turn l (line.Come (part_of items ends stop))).answer

read_ends : (n : ℕ) (h : Heard) (items : List (Item Token)) (ends : Bool) (stop : Stop) → EndsBy (line_at n line.Reading h) items ends stop
read_ends n h items false (Stands r) =
    more_ends (line_at n line.Reading h) (part_of items false (Stands r)) (heard_until false h items) (hear_part false h (part_of items false (Stands r)))
read_ends n h items true (Stands r) =
    let l = line_at n line.Reading h in
    let part = part_of items true (Stands r) in
    let u = heard_until false h items in
    subst (λ (b : Bool). EndsAs true b (reads l part b u (hear_part false h part)).answer) (sym (ends_if (is_between r))) (finished_ends l part u (hear_part false h part))
read_ends n h items ends (Fails refusal) =
    read_fails (line_at n line.Reading h) (part_of items ends (Fails refusal)) (heard_until false h items) refusal (hear_items false h items) ends

skip_ends : (n : ℕ) (h : Heard) (items : List (Item Token)) (ends : Bool) (stop : Stop) → EndsBy (line_at n line.Cancelling h) items ends stop
skip_ends n h items false (Stands r) = skipped_ends (line_at n line.Cancelling h) (heard_until true h items) (hear_part true h (part_of items false (Stands r)))
skip_ends n h items true (Stands r) =
    let l = line_at n line.Cancelling h in
    let part = part_of items true (Stands r) in
    let u = heard_until true h items in
    subst (λ (b : Bool). EndsAs true b (skips {T = Token} l b u (hear_part true h part)).answer) (sym (ends_if (is_between r))) (acked_ends l u (hear_part true h part))
skip_ends n h items ends (Fails refusal) = skip_fails (line_at n line.Cancelling h) (heard_until true h items) refusal (hear_items true h items) ends

ends_at : (n : ℕ) (s : line.LineStage) (h : Heard) (items : List (Item Token)) (ends : Bool) (stop : Stop) → EndsBy (line_at n s h) items ends stop
ends_at n line.Idle h items ends stop = tt
ends_at n (line.Sending begun) h items ends stop = tt
ends_at n line.Reading h items ends stop = read_ends n h items ends stop
ends_at n line.Cancelling h items ends stop = skip_ends n h items ends stop
ends_at n (line.Broken fault) h items ends stop = tt

-- ---- By the parser over the data

abbrev Answers : Line → Bool → Part Token → Type 0
Answers l ends part = EndsAs ends (is_end part.close) (line_turn l (line.Come part)).answer

walked_ends : (l : Line) (parser : Option Parser) (content : List ℕ) (ends : Bool) → IsSome parser → Answers l ends (part_on parser content ends)
walked_ends l None content ends some = absurd (let u : ⊥ = cc in u)
walked_ends l (Some r) content ends some =
    let all : TokensHeard = tokens_in r content in
    ends_at l.asked l.stage l.heard (items_from all.tokens) ends all.stop

pub ends_heard : (l : Line) (parser : Option Parser) (content : List ℕ) (ends : Bool) (part : Part Token) → part ≡ part_on parser content ends → IsSome parser → Answers l ends part
ends_heard l parser content ends part is some = subst (Answers l ends) (sym is) (walked_ends l parser content ends some)

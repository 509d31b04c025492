-- What is behind an application's end: on each connection, what goes out there and what comes, as a lawful server's end has it
-- (tds_front, Serving).
use Rattle.std.specs.Prelude.{◌≡◌, ℕ, Bool, true, false, List, [], ◌∷◌, ◌++◌, if◌then◌else◌}
use Rattle.tds_front.specs.Serving.{Brought, More, Whole, Ignored, Attention, Tokens, Ends, Acknowledges, Happening, Comes, Goes}
use Rattle.tds_wire.specs.declared.told.Token.{Token}
use Rattle.tds_service.specs.History.{Done}
use Rattle.tds_service.specs.Line as line
use Rattle.tds_service.specs.Line.{Packet, Answer}
use Rattle.tds_service.specs.Promises.{ends_message}
use Rattle.tds_service.specs.Service.{Call, new_service, on, steps}
use Rattle.tds_relay.specs.Pool.{Pool, Event, Sharing, new_pool, turn}

-- ---- What happens on a connection

-- a packet that goes out
abbrev pub brought_by : Packet → Brought
brought_by (line.OfRequest request first reset false) = More
brought_by (line.OfRequest request first reset true) = Whole
brought_by (line.Ignore request) = Ignored
brought_by line.Attention = Attention

abbrev pub with_sent : List Packet → List Happening → List Happening
with_sent [] later = later
with_sent (packet ∷ packets) later = Comes (brought_by packet) ∷ with_sent packets later

-- A packet that comes, which ends its message or not, by what the service answers. A message that ends with neither an answer nor an
-- acknowledgement is an answer that ends behind the attention (MS-TDS 2.2.1.7). A fault is said to nobody.
abbrev pub with_heard : Bool → Answer → List Happening → List Happening
with_heard ends line.More later = Goes (if ends then Ends else Tokens) ∷ later
with_heard ends (line.Finished request) later = Goes Ends ∷ later
with_heard ends (line.Acked request) later = Goes Acknowledges ∷ later
with_heard ends answer later = later

abbrev pub happened : List (Done Token) → List Happening
happened [] = []
happened (d ∷ ds) = with_sent d.sent (with_heard (ends_message d.act) d.answer (happened ds))

-- ---- What is supposed of the server

-- whether a whole request is out whose answer hasn't ended
abbrev pub is_out_behind : Bool → List Packet → Bool
is_out_behind out [] = out
is_out_behind out (line.OfRequest request first reset true ∷ packets) = is_out_behind true packets
is_out_behind out (packet ∷ packets) = is_out_behind out packets

abbrev pub is_left_out : Bool → Bool → Answer → Bool
is_left_out out ends line.More = if ends then false else out
is_left_out out ends (line.Finished request) = false
is_left_out out ends (line.Acked request) = false
is_left_out out ends answer = out

-- Between an attention and its acknowledgement a message ends only where that answer is out.
abbrev pub MayEnd : Bool → Bool → Answer → Type 0
MayEnd out ends line.More = ends ≡ true → out ≡ true
MayEnd out ends answer = Unit {0}

-- Each request has one answer at most. The service itself finds all else that no server may say.
abbrev pub AnswersOnce : Bool → List (Done Token) → Type 0
AnswersOnce out [] = Unit {0}
AnswersOnce out (d ∷ ds) =
    MayEnd out (ends_message d.act) d.answer × AnswersOnce (is_left_out (is_out_behind out d.sent) (ends_message d.act) d.answer) ds

-- ---- Over events of a pool

-- the calls of the service that are made
abbrev pub calls_along : Pool → List Event → List (Call Token)
calls_along d [] = []
calls_along d (event ∷ events) = (turn d event).calls ++ calls_along (turn d event).pool events

-- what was done on a connection
abbrev pub done_on : Sharing → ℕ → List Event → List (Done Token)
done_on sharing number events = on number (steps (new_service sharing.most) (calls_along (new_pool sharing) events))

-- An application's end: what a packet is, by what its application is at and by its header, and what is to be done with it. These are a
-- server's rules (MS-TDS 2.2.1, 2.2.3.1), without an engine.
use Rattle.std.specs.Prelude.{ℕ, ◌==◌, ◌&&◌, Bool, true, false, Ok, Err, if◌then◌else◌}
use Rattle.tds_packet.specs.declared.kind.Kind.{Kind}
use Rattle.tds_packet.specs.declared.kind.Kind.TheVariants as kinds
use Rattle.tds_packet.specs.Layout.{bits_of, has_bit, has_both_resets, kind_byte, reset_of}
use Rattle.tds_front.specs.declared.fault.FrontFault.{FrontFault}
use Rattle.tds_front.specs.declared.fault.FrontFault.TheVariants as faults
use Rattle.tds_front.specs.declared.stage.Head.{Head}
use Rattle.tds_front.specs.declared.stage.Stage.{Stage}
use Rattle.tds_front.specs.declared.stage.Stage.TheVariants.{Quiet, Receiving, Underway, Stopping, Broken}
use Rattle.tds_front.specs.declared.stage.Action.{Action}
use Rattle.tds_front.specs.declared.stage.Action.TheVariants.{Begin, Go, Forget, Acknowledge, HandOn}
use Rattle.tds_front.specs.declared.stage.Move.{Move}

abbrev pub moves_to : Stage → Action → Move
moves_to stage action = record { stage = stage; does = Ok action }

abbrev pub breaks_end : FrontFault → Move
breaks_end fault = record { stage = Broken fault; does = Err fault }

-- the first fault stays
abbrev pub refuses : Stage → FrontFault → Move
refuses (Broken first) fault = breaks_end first
refuses _ fault = breaks_end fault

-- ---- A packet of a request

-- behind one that ends its message or not
abbrev pub stage_behind_packet : Kind → Bool → ℕ → Stage
stage_behind_packet kind gone status = if has_bit status 1 then Underway gone else Receiving kind gone

-- its message is to be ignored (MS-TDS 2.2.3.1.2)
abbrev pub forgets : Bool → ℕ → Move
forgets gone status = if has_bit status 1 then moves_to Quiet (Forget gone) else breaks_end faults.IgnoredPart

-- the first one of a message
abbrev pub begins : Head → Move
begins head =
    if has_both_resets (bits_of head.status) then breaks_end faults.BothResets
    else if has_bit (bits_of head.status) 2 then forgets false (bits_of head.status)
    else if head.count == 0 then breaks_end faults.EmptyPart
    else moves_to (stage_behind_packet head.kind false (bits_of head.status)) (Begin head.kind (reset_of (bits_of head.status)))

-- one of a message that has begun: each has the same type
abbrev pub goes_on : Kind → Bool → Head → Move
goes_on kind gone head =
    if kind_byte kind == kind_byte head.kind
    then (if has_bit (bits_of head.status) 2 then forgets gone (bits_of head.status) else moves_to (stage_behind_packet kind gone (bits_of head.status)) Go)
    else breaks_end faults.TypeChanged

abbrev pub of_request : Stage → Head → Move
of_request Quiet head = begins head
of_request (Receiving kind gone) head = goes_on kind gone head
of_request (Underway gone) head = breaks_end faults.RequestWhileAnswering
of_request Stopping head = breaks_end faults.RequestWhileAnswering
of_request (Broken fault) head = breaks_end fault

-- ---- An attention (MS-TDS 2.2.1.7)

-- whoever has something of the request acknowledges its attention
abbrev pub stops : Bool → Move
stops false = moves_to Quiet Acknowledge
stops true = moves_to Stopping HandOn

abbrev pub takes_attention : Stage → Move
takes_attention Quiet = moves_to Quiet Acknowledge
takes_attention (Receiving kind gone) = stops gone
takes_attention (Underway gone) = stops gone
takes_attention Stopping = breaks_end faults.SecondAttention
takes_attention (Broken fault) = breaks_end fault

-- it has no data, and end of message alone
abbrev pub attended : Stage → Head → Move
attended stage head =
    if (bits_of head.status == 1) && (head.count == 0) then takes_attention stage else refuses stage faults.WrongAttention

-- ---- Any packet

abbrev pub taken_as : Kind → Stage → Head → Move
taken_as kinds.Attention stage head = attended stage head
taken_as kinds.Answer stage head = refuses stage faults.UnknownType
taken_as _ stage head = of_request stage head

abbrev pub taken : Stage → Head → Move
taken stage head = taken_as head.kind stage head

-- ---- What is heard of the server

-- something of the request has gone on to it
abbrev pub request_went_on : Stage → Stage
request_went_on Quiet = Quiet
request_went_on (Receiving kind gone) = Receiving kind true
request_went_on (Underway gone) = Underway true
request_went_on Stopping = Stopping
request_went_on (Broken fault) = Broken fault

-- it has answered
abbrev pub answered : Stage → Stage
answered Quiet = Quiet
answered (Receiving kind gone) = Receiving kind gone
answered (Underway gone) = Quiet
answered Stopping = Stopping
answered (Broken fault) = Broken fault

-- it has acknowledged
abbrev pub acknowledged : Stage → Stage
acknowledged Quiet = Quiet
acknowledged (Receiving kind gone) = Receiving kind gone
acknowledged (Underway gone) = Underway gone
acknowledged Stopping = Quiet
acknowledged (Broken fault) = Broken fault

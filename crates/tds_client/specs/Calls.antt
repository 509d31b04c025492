-- The calls of a client, one behind the other. Each does what its contract says; one that is refused, for want of memory too,
-- does nothing.
use Rattle.std.specs.Prelude.{ℕ, Bool, true, false, List, [], ◌∷◌, ◌++◌, Option, Some, None, Result, Ok, Err}
use Rattle.tds_packet.specs.declared.reader.PacketRef.{PacketRef}
use Rattle.tds_packet.specs.declared.status.Reset.{Reset}
use Rattle.tds_request.specs.declared.request.Request.{Request}
use Rattle.tds_client.specs.declared.fault.ClientFault.{ClientFault}
use Rattle.tds_client.specs.declared.fault.ClientRefusal.{ClientRefusal}
use Rattle.tds_client.specs.declared.state.Taken.{Taken}
use Rattle.tds_client.specs.declared.state.Taken.TheVariants as takes
use Rattle.tds_client.specs.Session.{ClientSession, lost, marked, unless_idle}
use Rattle.tds_client.specs.Sending.{Effect, started, sent, cancelled}
use Rattle.tds_client.specs.Streams.{Step, Open, Put, Finish, opened, put, finished}
use Rattle.tds_client.specs.Taking.{ClientMove, taken_of, broken_by}

pub data Call : Type 0 where
  MarkReset : (reset : Reset) → Call
  Start : (request : Request) → Call
  Send : Call
  Cancel : Call
  Take : (packet : PacketRef) → Call
  Lose : Call
  Stream : (step : Step) → Call

-- What a call did: the client behind it, the bytes that it appended, and whether it took an acknowledgement.
pub record Turn : Type 0 where
  pub session : ClientSession
  pub bytes : List ℕ
  pub acknowledged : Bool

abbrev pub silent : ClientSession → Turn
silent s = record { session = s; bytes = []; acknowledged = false }

-- Where a call is refused, the client stays.
abbrev pub unless_refused : Option ClientRefusal → ClientSession → ClientSession → ClientSession
unless_refused None s next = next
unless_refused (Some refusal) s next = s

abbrev pub effect_of : {A : Type 0} → ClientSession → Result (Effect A) ClientRefusal → Turn
effect_of s (Ok effect) = record { session = effect.session; bytes = effect.bytes; acknowledged = false }
effect_of s (Err refusal) = silent s

abbrev pub is_acknowledged : Taken → Bool
is_acknowledged takes.More = false
is_acknowledged takes.Finished = false
is_acknowledged takes.Acknowledged = true
is_acknowledged takes.NoMemory = false

abbrev pub took_of : ClientSession → Result ClientMove ClientFault → Turn
took_of s (Ok took) = record { session = took.session; bytes = []; acknowledged = is_acknowledged took.answer }
took_of s (Err fault) = silent (broken_by s fault)

abbrev pub streamed : ClientSession → Step → Turn
streamed s (Open kind) = silent (unless_refused (unless_idle s.stage) s (opened s kind))
streamed s (Put part) = effect_of s (put s part)
streamed s Finish = effect_of s (finished s)

abbrev pub turn : ClientSession → Call → Turn
turn s (MarkReset reset) = silent (unless_refused (unless_idle s.stage) s (marked s reset))
turn s (Start request) = silent (unless_refused (unless_idle s.stage) s (started s request))
turn s Send = effect_of s (sent s)
turn s Cancel = effect_of s (cancelled s)
turn s (Take packet) = took_of s (taken_of s packet)
turn s Lose = silent (lost s)
turn s (Stream step) = streamed s step

-- The client behind these calls.
abbrev pub after : ClientSession → List Call → ClientSession
after s [] = s
after s (call ∷ calls) = after (turn s call).session calls

-- All that they append.
abbrev pub appended : ClientSession → List Call → List ℕ
appended s [] = []
appended s (call ∷ calls) = (turn s call).bytes ++ appended (turn s call).session calls

-- What each of them did, in order.
abbrev pub turns : ClientSession → List Call → List Turn
turns s [] = []
turns s (call ∷ calls) = turn s call ∷ turns (turn s call).session calls

-- What starting, sending and cancelling a request does.
use Rattle.std.specs.Prelude.{◌≡◌, ℕ, ◌+◌, ◌-◌, ◌==◌, nat_le, true, false, List, [], ◌++◌, length, take, drop, Option, Some, None, Result, Ok, Err, if◌then◌else◌}
use Rattle.tds_packet.specs.declared.kind.Kind.{Kind}
use Rattle.tds_request.specs.declared.request.Request.{Request}
use Rattle.tds_request.specs.Layout.{kind_of_request, request_spelling, packet_kind}
use Rattle.tds_client.specs.declared.fault.ClientRefusal.{ClientRefusal}
use Rattle.tds_client.specs.declared.fault.ClientRefusal.TheVariants as refusals
use Rattle.tds_client.specs.declared.heard.Heard.{Heard}
use Rattle.tds_client.specs.declared.state.Sent.{Sent}
use Rattle.tds_client.specs.declared.state.Sent.TheVariants as sents
use Rattle.tds_client.specs.declared.state.Cancelled.{Cancelled}
use Rattle.tds_client.specs.declared.state.Cancelled.TheVariants as cancels
use Rattle.tds_client.specs.Packets.{packet_bytes, stop_bytes, ignore}
use Rattle.tds_packet.specs.Resets.{header_descriptor, mark_bit}
use Rattle.tds_packet.specs.Sent.{end_bit}
use Rattle.tds_client.specs.Session.{ClientSession, Stage, Idle, Sending, Reading, Cancelling, Broken, with_stage}

-- ---- Starting

-- The message of a request.
abbrev pub message_of : Heard → Request → List ℕ
message_of heard request = request_spelling (header_descriptor heard.mark heard.descriptor) request

abbrev pub started : ClientSession → Request → ClientSession
started s request = with_stage s (Sending (packet_kind (kind_of_request request)) (message_of s.heard request) 0)

-- ---- Sending

-- What a call does: its answer, the client behind it, and the bytes that it appends.
pub record Effect (A : Type 0) : Type 0 where
  pub answer : A
  pub session : ClientSession
  pub bytes : List ℕ

-- The data of a full packet.
abbrev pub room : ClientSession → ℕ
room s = s.size - 8

-- The next packet is a full one, unless it is the last.
unfoldable pub sent_of : ClientSession → Kind → List ℕ → ℕ → Effect Sent
sent_of s kind left packets =
    if nat_le (length left) (room s)
    then record {
      answer = sents.Last;
      session = with_stage s Reading;
      bytes = packet_bytes kind (end_bit true + mark_bit packets s.heard.mark) packets left;
    }
    else record {
      answer = sents.More;
      session = with_stage s (Sending kind (drop (room s) left) (packets + 1));
      bytes = packet_bytes kind (end_bit false + mark_bit packets s.heard.mark) packets (take (room s) left);
    }

abbrev pub sent_in : ClientSession → Stage → Result (Effect Sent) ClientRefusal
sent_in s Idle = Err refusals.NotSending
sent_in s (Sending kind left packets) = Ok (sent_of s kind left packets)
sent_in s Reading = Err refusals.NotSending
sent_in s Cancelling = Err refusals.NotSending
sent_in s (Broken fault) = Err refusals.Broken

-- Sending, want of memory aside.
abbrev pub sent : ClientSession → Result (Effect Sent) ClientRefusal
sent s = sent_in s s.stage

-- ---- Cancelling

-- A request of which nothing is out is forgotten. One that is out in part is ended by a packet that is ignored, and the
-- attention stands behind that.
unfoldable pub cancelled_sending : ClientSession → Kind → ℕ → Effect Cancelled
cancelled_sending s kind packets =
    if packets == 0
    then record { answer = cancels.Unsent; session = with_stage s Idle; bytes = [] }
    else record { answer = cancels.Asked; session = with_stage s Cancelling; bytes = ignore kind packets ++ stop_bytes }

abbrev pub cancelled_in : ClientSession → Stage → Result (Effect Cancelled) ClientRefusal
cancelled_in s Idle = Ok (record { answer = cancels.Nothing; session = s; bytes = [] })
cancelled_in s (Sending kind left packets) = Ok (cancelled_sending s kind packets)
cancelled_in s Reading = Ok (record { answer = cancels.Asked; session = with_stage s Cancelling; bytes = stop_bytes })
cancelled_in s Cancelling = Ok (record { answer = cancels.Already; session = s; bytes = [] })
cancelled_in s (Broken fault) = Err refusals.Broken

-- Cancelling, want of memory aside.
abbrev pub cancelled : ClientSession → Result (Effect Cancelled) ClientRefusal
cancelled s = cancelled_in s s.stage

-- ---- What a call answers

-- What a call did is what it is to do: it answered so, the client is that one, and the bytes are appended.
abbrev pub Does : {A : Type 0} → Result (Effect A) ClientRefusal → A → ClientSession → List ℕ → List ℕ → Type 0
Does wanted answer session before after =
    (more : List ℕ) × (wanted ≡ Ok (record { answer = answer; session = session; bytes = more })) × (after ≡ before ++ more)

-- The refusal that comes first is answered, and where there is none, want of memory.
abbrev pub IsRefusal : Option ClientRefusal → ClientRefusal → Type 0
IsRefusal (Some first) refusal = refusal ≡ first
IsRefusal None refusal = refusal ≡ refusals.Memory

-- The refusal of a call that is not done.
abbrev pub refusal_of : {A : Type 0} → Result A ClientRefusal → Option ClientRefusal
refusal_of (Ok x) = None
refusal_of (Err refusal) = Some refusal

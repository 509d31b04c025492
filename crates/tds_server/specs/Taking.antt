-- How a server takes a packet.
use Rattle.std.specs.Prelude.{◌≡◌, ◌≢◌, ℕ, List, [], ◌++◌, length, Bool, true, false, ◌&&◌, ◌==◌, nat_lt, if◌then◌else◌, Option, Some, None, Result, Ok, Err}
use Rattle.tds_packet.specs.declared.header.Header.{Header}
use Rattle.tds_packet.specs.declared.kind.Kind.{Kind}
use Rattle.tds_packet.specs.declared.kind.Kind.TheVariants as kind
use Rattle.tds_packet.specs.declared.status.Reset.{Reset}
use Rattle.tds_packet.specs.Layout.{bits_of, has_bit, reset_of}
use Rattle.tds_request.specs.declared.fault.RequestFault.{RequestFault}
use Rattle.tds_request.specs.declared.request.Request.{Request}
use Rattle.tds_request.specs.declared.request.RequestKind.{RequestKind}
use Rattle.tds_request.specs.declared.request.RequestKind.TheVariants as message
use Rattle.tds_request.specs.Reading.{read_request}
use Rattle.tds_session.specs.declared.attention.OnAttention.{OnAttention}
use Rattle.tds_session.specs.Answer.{Answers}
use Rattle.tds_session.specs.Attention.{Stop, stopped}
use Rattle.tds_session.specs.Session.{SessionState}
use Rattle.tds_server.specs.declared.fault.ServerFault.{ServerFault}
use Rattle.tds_server.specs.declared.fault.ServerFault.TheVariants.{RequestWhileAnswering, TypeChanged, BothResets, WrongAttention, LongMessage, WrongRequest, IgnoredPart, Lost}
use Rattle.tds_server.specs.declared.outcome.ServerTook.{ServerTook}
use Rattle.tds_server.specs.declared.outcome.ServerTook.TheVariants as took
use Rattle.tds_server.specs.Packets.{acknowledgement}
use Rattle.tds_server.specs.State.{Message, Phase, Waiting, Receiving, Answering, Broken, ServerState}

-- what a packet does: the server is at this then, with this session, answers so, and this is appended
pub record Move : Type 0 where
  pub session : SessionState
  pub phase : Phase
  pub took : ServerTook
  pub reply : List ℕ

-- a packet that nothing is said to
abbrev pub goes_on : SessionState → Phase → ServerTook → Move
goes_on session phase took = record { session = session; phase = phase; took = took; reply = [] }

-- whether both messages have packets of one type
abbrev pub is_same_kind : RequestKind → RequestKind → Bool
is_same_kind message.Batch message.Batch = true
is_same_kind message.Batch message.Transaction = false
is_same_kind message.Transaction message.Batch = false
is_same_kind message.Transaction message.Transaction = true

-- whether a status asks for both resets, which a first packet must not (MS-TDS 2.2.3.1.2)
abbrev pub has_both_resets : ℕ → Bool
has_both_resets status = has_bit status 8 && has_bit status 16

-- a message that begins with a packet of this type and status
unfoldable pub begun_by : RequestKind → ℕ → Result Message ServerFault
begun_by kind status =
    if has_both_resets status then Err BothResets
    else Ok (record { kind = kind; reset = reset_of status; content = [] })

-- a message that goes on with a packet of this type
unfoldable pub gone_on_by : RequestKind → Message → Result Message ServerFault
gone_on_by kind m = if is_same_kind m.kind kind then Ok m else Err TypeChanged

-- the message that a packet of a request begins or goes on with, as it was before that packet
abbrev pub message_before : Phase → RequestKind → ℕ → Result Message ServerFault
message_before Waiting kind status = begun_by kind status
message_before (Receiving m) kind status = gone_on_by kind m
message_before (Answering due id begun) kind status = Err RequestWhileAnswering
message_before (Broken fault) kind status = Err fault

-- the data that have come of it
abbrev pub content_of : Phase → List ℕ
content_of Waiting = []
content_of (Receiving m) = m.content
content_of (Answering due id begun) = []
content_of (Broken fault) = []

-- a message of at most so many bytes is taken: 22 of ALL_HEADERS, and a text of 2,000 units
abbrev pub message_limit : ℕ
message_limit = 4022

-- the request that a whole message spells is answered from now on
abbrev pub answered : Answers → SessionState → Option Reset → Result (ℕ × Request) RequestFault → Result Move ServerFault
answered answers session reset (Ok asked) =
    Ok (goes_on session (Answering (answers session asked.0 reset asked.1) 1 false) took.Request)
answered answers session reset (Err fault) = Err (WrongRequest fault)

-- a message with its packet's data joined: it is whole at end of message
unfoldable pub joined : Answers → SessionState → ℕ → Message → Result Move ServerFault
joined answers session status m =
    if nat_lt message_limit (length m.content) then Err LongMessage
    else if has_bit status 1 then answered answers session m.reset (read_request m.kind m.content)
    else Ok (goes_on session (Receiving m) took.More)

-- a message that is to be ignored ends there (MS-TDS 2.2.3.1.2)
unfoldable pub ignored : SessionState → ℕ → Result Move ServerFault
ignored session status =
    if has_bit status 1 then Ok (goes_on session Waiting took.Dropped) else Err IgnoredPart

-- the message with a packet's data behind it
abbrev pub with_more : Message → List ℕ → Message
with_more m content = record m { content = m.content ++ content }

unfoldable pub continued : Answers → SessionState → ℕ → List ℕ → Message → Result Move ServerFault
continued answers session status content m =
    if has_bit status 2 then ignored session status
    else joined answers session status (with_more m content)

abbrev pub after_check : {A B : Type 0} → Result A ServerFault → (A → Result B ServerFault) → Result B ServerFault
after_check (Ok x) f = f x
after_check (Err fault) f = Err fault

-- a packet of a request
abbrev pub part_taken : Answers → SessionState → Phase → RequestKind → ℕ → List ℕ → Result Move ServerFault
part_taken answers session phase kind status content =
    after_check (message_before phase kind status) (continued answers session status content)

-- the PacketID of an acknowledgement: the next one of the answer that it ends, else 1
abbrev pub acknowledging_id : Phase → ℕ
acknowledging_id Waiting = 1
acknowledging_id (Receiving m) = 1
acknowledging_id (Answering due id begun) = id
acknowledging_id (Broken fault) = 1

-- whether an answer is in its middle: a step of it was done, and one is left
abbrev pub is_midway : Phase → Bool
is_midway Waiting = false
is_midway (Receiving m) = false
is_midway (Answering due id begun) = begun
is_midway (Broken fault) = false

-- what is acknowledged: the session as the attention leaves it, and the packet that tells so, both at
-- once
abbrev pub acknowledges : Phase → Stop → Move
acknowledges phase stop = record {
  session = stop.after;
  phase = Waiting;
  took = took.Acknowledged;
  reply = acknowledgement (acknowledging_id phase) stop.changes;
}

-- an attention (MS-TDS 2.2.1.7) has no data and end of message alone; it ends what the server is at,
-- a message or an answer, and is acknowledged
unfoldable pub attended :
    OnAttention → SessionState → Phase → ℕ → List ℕ → Result Move ServerFault
attended on_attention session phase status content =
    if (status == 1) && (length content == 0)
    then Ok (acknowledges phase (stopped on_attention (is_midway phase) session))
    else Err WrongAttention

-- a packet, while there is no fault; a call of a procedure and a bulk load are of a type that no message here has, and an answer
-- is no packet to a server, and means nothing
abbrev pub moved_by :
    Kind → Answers → OnAttention → SessionState → Phase → ℕ → List ℕ → Result Move ServerFault
moved_by kind.Batch answers on_attention session phase status content =
    part_taken answers session phase message.Batch status content
moved_by kind.Procedure answers on_attention session phase status content = Err TypeChanged
moved_by kind.BulkLoad answers on_attention session phase status content = Err TypeChanged
moved_by kind.Transaction answers on_attention session phase status content =
    part_taken answers session phase message.Transaction status content
moved_by kind.Attention answers on_attention session phase status content =
    attended on_attention session phase status content
moved_by kind.Answer answers on_attention session phase status content =
    Ok (goes_on session phase took.More)

-- the same fault from then on
abbrev pub fault_in : Phase → Option ServerFault
fault_in Waiting = None
fault_in (Receiving m) = None
fault_in (Answering due id begun) = None
fault_in (Broken fault) = Some fault

abbrev pub unless_broken : {A : Type 0} → Option ServerFault → Result A ServerFault → Result A ServerFault
unless_broken None r = r
unless_broken (Some fault) r = Err fault

abbrev pub moved :
    Answers → OnAttention → SessionState → Phase → Header → List ℕ → Result Move ServerFault
moved answers on_attention session phase header content =
    unless_broken (fault_in phase)
    (moved_by header.kind answers on_attention session phase (bits_of header.status) content)

-- what needs a growth: data that are kept or appended, and a whole message that is read
abbrev pub TakesMemory : Result Move ServerFault → Type 0
TakesMemory (Ok m) = m.took ≢ took.Dropped
TakesMemory (Err (WrongRequest fault)) = Unit {0}
TakesMemory (Err RequestWhileAnswering) = ⊥
TakesMemory (Err TypeChanged) = ⊥
TakesMemory (Err BothResets) = ⊥
TakesMemory (Err WrongAttention) = ⊥
TakesMemory (Err LongMessage) = ⊥
TakesMemory (Err IgnoredPart) = ⊥
TakesMemory (Err Lost) = ⊥

-- where a packet is taken as the move says: the answer, the session and the phase then, and the
-- reply, appended
abbrev pub Moves :
    Result Move ServerFault → ServerTook → SessionState → Phase → List ℕ → List ℕ → Type 0
Moves found took session phase before after =
    (more : List ℕ)
    × (found ≡ Ok (record { session = session; phase = phase; took = took; reply = more }))
    × (after ≡ before ++ more)

-- the server then, its answer, and what is appended; a fault breaks it
pub record ServerMove (E : Type 0) : Type 0 where
  pub state : ServerState E
  pub answer : Result ServerTook ServerFault
  pub reply : List ℕ

abbrev pub taken_as : {E : Type 0} → ServerState E → Result Move ServerFault → ServerMove E
taken_as s (Ok m) = record {
  state = record s { session = m.session; phase = m.phase };
  answer = Ok m.took;
  reply = m.reply;
}
taken_as s (Err fault) = record { state = record s { phase = Broken fault }; answer = Err fault; reply = [] }

-- what comes of a packet with this header and these data
abbrev pub taken : {E : Type 0} → Answers → ServerState E → Header → List ℕ → ServerMove E
taken answers s header content =
    taken_as s (moved answers s.on_attention s.session s.phase header content)

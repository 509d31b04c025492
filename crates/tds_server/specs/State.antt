-- What a server holds.
use Rattle.std.specs.Prelude.{ℕ, Bool, List, Option}
use Rattle.tds_packet.specs.declared.status.Reset.{Reset}
use Rattle.tds_request.specs.declared.request.RequestKind.{RequestKind}
use Rattle.tds_session.specs.declared.attention.OnAttention.{OnAttention}
use Rattle.tds_session.specs.declared.attention.OnAttention.TheVariants.{Keep}
use Rattle.tds_session.specs.Answer.{Step}
use Rattle.tds_session.specs.Session.{SessionState, new_session}
use Rattle.tds_server.specs.declared.fault.ServerFault.{ServerFault}
use Rattle.tds_server.specs.declared.fault.ServerFault.TheVariants.{Lost}

-- as much of a request's message as has come
pub record Message : Type 0 where
  pub kind : RequestKind  -- the type of its packets
  pub reset : Option Reset  -- what its first packet asks for (MS-TDS 2.2.3.1.2)
  pub content : List ℕ  -- the data of its packets, joined

-- what a server is at
pub data Phase : Type 0 where
  -- nothing: the next request may come
  Waiting : Phase
  -- a part of a request's message has come
  Receiving : (message : Message) → Phase
  -- a request is being answered: the steps that are left, the PacketID of the next one, and whether a
  -- step was done
  Answering : (due : List Step) (id : ℕ) (begun : Bool) → Phase
  -- it answers this fault from now on
  Broken : (fault : ServerFault) → Phase

-- a server with this engine, which does this at an attention
pub record ServerState (E : Type 0) : Type 0 where
  pub engine : E
  pub on_attention : OnAttention
  pub session : SessionState
  pub phase : Phase

-- as a connection begins
abbrev pub server_with : {E : Type 0} → OnAttention → E → ServerState E
server_with on_attention engine =
    record { engine = engine; on_attention = on_attention; session = new_session; phase = Waiting }

-- one that keeps transactions
abbrev pub new_server : {E : Type 0} → E → ServerState E
new_server engine = server_with Keep engine

-- what becomes of it when the connection is lost: a fault that it has stays
abbrev pub lost_in : Phase → Phase
lost_in Waiting = Broken Lost
lost_in (Receiving message) = Broken Lost
lost_in (Answering due id begun) = Broken Lost
lost_in (Broken fault) = Broken fault

abbrev pub lost_of : {E : Type 0} → ServerState E → ServerState E
lost_of s = record s { phase = lost_in s.phase }

-- a step is to be done
abbrev pub IsAnswering : Phase → Type 0
IsAnswering Waiting = ⊥
IsAnswering (Receiving message) = ⊥
IsAnswering (Answering due id begun) = Unit {0}
IsAnswering (Broken fault) = ⊥

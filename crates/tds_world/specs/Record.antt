-- A request's record: what it asks, how much of it is out, what became of it and what its caller
-- was given.
use Rattle.std.specs.Prelude.{ℕ, List, [], ◌++◌, Bool, true, false, if◌then◌else◌, ◌==◌, Option, Some, None}
use Rattle.tds_packet.specs.declared.status.Reset.{Reset}
use Rattle.tds_packet.specs.Resets.{header_descriptor}
use Rattle.tds_request.specs.declared.request.Request.{Request}
use Rattle.tds_request.specs.Layout as request
use Rattle.tds_session.specs.Answer as answer
use Rattle.tds_session.specs.Session.{SessionState}
use Rattle.tds_token.specs.declared.token.Token.{Token}
use Rattle.tds_token.specs.Told.{told}
use Rattle.tds_world.specs.Entries.{Asking}

-- How much of a request is out, with the count of its packets.
pub data Out : Type 0 where
  NotBegun : Out
  Begun : (packets : ℕ) → Out
  Whole : (packets : ℕ) → Out

-- How many packets of a request are out.
abbrev pub packets_of : Out → ℕ
packets_of NotBegun = 0
packets_of (Begun n) = n
packets_of (Whole n) = n

-- What became of a request: nothing yet; the last step of its answer came; its caller cancelled it; and
-- the acknowledgement of its attention came.
pub data Fate : Type 0 where
  Open : Fate
  Finished : Fate
  Cancelled : Fate
  Acknowledged : Fate

abbrev pub is_finished : Fate → Bool
is_finished Finished = true
is_finished _ = false

-- Whatever is acknowledged was cancelled.
abbrev pub is_cancelled : Fate → Bool
is_cancelled Cancelled = true
is_cancelled Acknowledged = true
is_cancelled _ = false

-- A request, and all that is known of it.
pub record Record : Type 0 where
  pub number : ℕ
  pub lease : ℕ
  pub conn : ℕ
  pub asking : Asking
  pub left : List ℕ  -- its bytes that aren't sent
  pub out : Out
  pub fate : Fate
  pub ran : Option SessionState  -- the session that it ran in
  pub given : List Token  -- what its caller was given

-- A request that is asked under this mark, when the client has heard this descriptor. Nothing of it
-- is out.
abbrev pub new_record : ℕ → ℕ → ℕ → Request → Option Reset → ℕ → Record
new_record number lease conn q mark heard = record {
  number = number;
  lease = lease;
  conn = conn;
  asking = record { request = q; descriptor = header_descriptor mark heard; mark = mark };
  left = request.request_spelling (header_descriptor mark heard) q;
  out = NotBegun;
  fate = Open;
  ran = None;
  given = [];
}

-- The session that a request runs in, from the sessions before and after its first step: the one
-- after its reset, or the one before a step without a reset. Further steps change nothing.
abbrev pub ran_in : Option SessionState → Option Reset → SessionState → SessionState → SessionState
ran_in (Some ran) reset before after = ran
ran_in None (Some r) before after = after
ran_in None None before after = before

-- The server took this step of it, in this session.
abbrev pub runs : SessionState → answer.Step → Record → Record
runs before s q = record q { ran = Some (ran_in q.ran s.reset before s.after) }

-- A step arrived. The last one finishes a request that wasn't cancelled.
abbrev pub stepped : Bool → Fate → Fate
stepped last Cancelled = Cancelled
stepped last Acknowledged = Acknowledged
stepped last _ = if last then Finished else Open

-- This step of it arrived: its tokens are given to the caller, and the last step finishes it,
-- unless it was cancelled.
abbrev pub gives : answer.Step → Record → Record
gives s q = record q {
  given = if is_cancelled q.fate then q.given else q.given ++ told s.tokens;
  fate = stepped s.last q.fate;
}

-- The acknowledgement of its attention arrived.
abbrev pub acknowledges : Record → Record
acknowledges q = record q { fate = Acknowledged }

-- Its caller cancelled it.
abbrev pub cancelled : Record → Record
cancelled q = record q { fate = Cancelled }

-- A change of the record of this number, and of no other.
abbrev pub when : Bool → (Record → Record) → Record → Record
when true change q = change q
when false change q = q

abbrev pub if_numbered : ℕ → (Record → Record) → Record → Record
if_numbered number change q = when (q.number == number) change q

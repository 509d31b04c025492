-- What it is that an end does the same as the model's connection.
use Rattle.std.specs.Prelude.{ℕ, ◌≡◌, Option, Some, None, Result, Ok, Err}
use Rattle.tds_client.specs.declared.fault.ClientRefusal.{ClientRefusal}
use Rattle.tds_client.specs.declared.fault.ClientRefusal.TheVariants as refused
use Rattle.tds_client.specs.declared.state.Sent.{Sent}
use Rattle.tds_client.specs.declared.state.Sent.TheVariants as client
use Rattle.tds_client.specs.declared.state.Cancelled.{Cancelled}
use Rattle.tds_client.specs.declared.state.Cancelled.TheVariants as how
use Rattle.tds_client.specs.Sending.{Effect, cancelled}
use Rattle.tds_client.specs.Session.{ClientSession}
use Rattle.tds_server.specs.declared.outcome.Worked.{Worked}
use Rattle.tds_server.specs.declared.outcome.Worked.TheVariants as server
use Rattle.tds_server.specs.declared.outcome.ServerTook.{ServerTook}
use Rattle.tds_server.specs.Taking.{ServerMove}
use Rattle.tds_server.specs.Working.{Work}
use Rattle.tds_session.specs.Answer.{Answers}
use Rattle.tds_world.specs.declared.outcome.CancelOutcome.{CancelOutcome}
use Rattle.tds_world.specs.declared.outcome.CancelOutcome.TheVariants as cancel
use Rattle.tds_world.specs.declared.outcome.Outcome.TheVariants as outcome
use Rattle.tds_world.specs.declared.outcome.Refusal.TheVariants as refusal
use Rattle.tds_world.specs.declared.outcome.SendOutcome.{SendOutcome}
use Rattle.tds_world.specs.declared.outcome.SendOutcome.TheVariants as sent
use Rattle.tds_world.specs.declared.outcome.WorkOutcome.{WorkOutcome}
use Rattle.tds_world.specs.declared.outcome.WorkOutcome.TheVariants as work
use Rattle.tds_world.specs.Arrivals.{works, server_acts}
use Rattle.tds_world.specs.Caller as model
use Rattle.tds_world.specs.Caller.{cancels}
use Rattle.tds_world.specs.Connection.{Connection, phase}
use Rattle.tds_world.specs.Entries.{Up, up_bytes, down_bytes}
use Rattle.tds_world.specs.Events.{work_outcome}
use Rattle.tds_world.specs.Pool.{Acted, Refuses, Does}
use Rattle.tds_ends.specs.Stands.{MatchesClient, MatchesServer, Sends}

-- ---- Sending

-- What a report says of a client's answer.
abbrev pub send_outcome : Sent → SendOutcome
send_outcome client.More = sent.More
send_outcome client.Last = sent.Last

-- A client that sends and its connection: both refuse; or both do it, the client appends the bytes
-- of the entry that the connection appends, and matches the connection then.
abbrev pub RefinesSend : Connection → Result (Effect Sent) ClientRefusal → Acted → Type 0
RefinesSend c (Err why) (Refuses because) = (why ≡ refused.NotSending) × (because ≡ refusal.NotSending)
RefinesSend c (Err why) (Does what d) = ⊥
RefinesSend c (Ok e) (Refuses because) = ⊥
RefinesSend c (Ok e) (Does what d) =
    (what ≡ outcome.Sent (send_outcome e.answer))
    × MatchesClient e.session d
    × Sends up_bytes e.bytes c.to_server d.to_server

-- ---- Working

-- What a report says of a server's answer.
abbrev pub worked_outcome : Worked → WorkOutcome
worked_outcome server.Idle = work.Idle
worked_outcome server.Step = work.Step
worked_outcome server.Finished = work.Finished

-- A server that works and its connection: the server appends the bytes of the step that the
-- connection appends, or neither does anything, and it matches the connection then.
pub record RefinesWork {E : Type 0} (c : Connection) (w : Work E) : Type 0 where
  pub outcome : work_outcome c.due ≡ worked_outcome w.answer
  pub matches : MatchesServer w.state (works c)
  pub sends : Sends down_bytes w.packet c.to_client (works c).to_client

-- ---- Asking

-- A client that is asked and its connection: both refuse, or both take the request, and the client
-- matches the connection then.
abbrev pub RefinesAsk : ℕ → ClientSession → Option ClientRefusal → Acted → Type 0
RefinesAsk number s (Some why) (Refuses because) = (why ≡ refused.NotIdle) × (because ≡ refusal.NotIdle)
RefinesAsk number s (Some why) (Does what d) = ⊥
RefinesAsk number s None (Refuses because) = ⊥
RefinesAsk number s None (Does what d) = (what ≡ outcome.Asked number) × MatchesClient s d

-- ---- Arriving at the server

-- A server that takes the packet of an entry and the connection where it arrives: there is no fault,
-- the server appends the bytes of what the connection appends, and matches it then.
pub record RefinesArrive {E : Type 0} (answers : Answers) (c : Connection) (e : Up) (t : ServerMove E)
    : Type 0 where
  pub took : ServerTook
  pub lawful : t.answer ≡ Ok took
  pub matches : MatchesServer t.state (server_acts answers c e)
  pub sends : Sends down_bytes t.reply c.to_client (server_acts answers c e).to_client

-- ---- Cancelling

-- What a report says of a client's answer.
abbrev pub cancel_outcome : Cancelled → CancelOutcome
cancel_outcome how.Nothing = cancel.Nothing
cancel_outcome how.Already = cancel.Already
cancel_outcome how.Unsent = cancel.Unsent
cancel_outcome how.Asked = cancel.Asked

-- A client's cancel and the model's: the answer is the same, the client appends the bytes of the
-- entries that the connection appends, and matches the connection then.
abbrev pub DoesCancel : Connection → Result (Effect Cancelled) ClientRefusal → CancelOutcome → Connection → Type 0
DoesCancel c result what d =
    (e : Effect Cancelled)
    × (result ≡ Ok e)
    × (what ≡ cancel_outcome e.answer)
    × MatchesClient e.session d
    × Sends up_bytes e.bytes c.to_server d.to_server

abbrev pub RefinesCancel : ClientSession → Connection → Type 0
RefinesCancel s c = DoesCancel c (cancelled s) (model.cancel_outcome (phase c)) (cancels c)

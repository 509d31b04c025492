-- What a client can hear of its connection, and what it is that it does the same as the model.
use Rattle.std.specs.Prelude.{ℕ, ◌≡◌, ◌⊎◌, [], ◌∷◌, ◌++◌, false, Option, Some, None, Result, Ok}
use Rattle.tds_client.specs.declared.fault.ClientFault.{ClientFault}
use Rattle.tds_client.specs.declared.state.Taken.{Taken}
use Rattle.tds_client.specs.declared.state.Taken.TheVariants as taken
use Rattle.tds_client.specs.Taking.{ClientMove}
use Rattle.tds_packet.specs.declared.status.Reset.{Reset}
use Rattle.tds_session.specs.Answer as answer
use Rattle.tds_token.specs.declared.env_change.EnvChange.TheVariants.{ResetDone}
use Rattle.tds_token.specs.declared.token.Token.TheVariants as token
use Rattle.tds_world.specs.declared.report.RequestStatus.{RequestStatus}
use Rattle.tds_world.specs.declared.report.RequestStatus.TheVariants as status
use Rattle.tds_world.specs.Arrivals.{client_acts}
use Rattle.tds_world.specs.Connection.{Connection}
use Rattle.tds_world.specs.Dones.{DonesBy}
use Rattle.tds_world.specs.Entries.{Down, Step, Acknowledgement}
use Rattle.tds_world.specs.Heard.{IsHeardOn}
use Rattle.tds_world.specs.Phase.{Reading, Cancelling, phase_of, request_status}
use Rattle.tds_world.specs.Record.{Record}
use Rattle.tds_world.specs.Sessions.{HasSpelling, FitsAcknowledgement}
use Rattle.tds_ends.specs.Stands.{MatchesClient}

-- What a step says by its DONEs: of a final one a client reads neither the command nor the count of
-- rows. A step that takes a reset tells its end alone.
abbrev pub IsSaidBy : Option Reset → answer.Step → Type 0
IsSaidBy None s = (cur_cmd : ℕ) × (rows : ℕ) × DonesBy cur_cmd rows s.last s.tokens
IsSaidBy (Some r) s = (s.tokens ≡ token.Env ResetDone ∷ []) × (s.last ≡ false)

abbrev pub IsSaid : answer.Step → Type 0
IsSaid s = IsSaidBy s.reset s

-- A request's client waits for an entry, and can hear it: its changes apply, a reset that it takes was
-- asked for, and it says what a step says.
abbrev pub IsAwaited : Connection → Record → Down → Type 0
IsAwaited c q (Step r place s) =
    (r ≡ q.number) × ((phase_of q ≡ Reading) ⊎ (phase_of q ≡ Cancelling))
    × HasSpelling s × IsHeardOn c (Step r place s) × IsSaid s
IsAwaited c q (Acknowledgement r place changes) =
    (r ≡ q.number) × (phase_of q ≡ Cancelling)
    × FitsAcknowledgement changes × IsHeardOn c (Acknowledgement r place changes)

-- What becomes of a request's status, by what its client answers.
abbrev pub status_after : Taken → RequestStatus → RequestStatus
status_after taken.More before = before
status_after taken.Finished before = status.Finished
status_after taken.Acknowledged before = status.Acknowledged
status_after taken.NoMemory before = before

-- The newest request after it: its caller was given these tokens, and its status is what the client
-- answered.
pub record IsTold (before after : Record) (took : ClientMove) : Type 0 where
  pub given : after.given ≡ before.given ++ took.tokens
  pub status : request_status false after ≡ status_after took.answer (request_status false before)

-- A client that takes the packet of an entry and the connection where it arrives: there is no fault,
-- the caller is told the same, and the client matches the connection then.
pub record RefinesHear (c : Connection) (q : Record) (e : Down) (result : Result ClientMove ClientFault)
    : Type 0 where
  pub took : ClientMove
  pub lawful : result ≡ Ok took
  pub matches : MatchesClient took.session (client_acts c e)
  pub told : (after : Record) × ((client_acts c e).current ≡ Some after) × IsTold q after took

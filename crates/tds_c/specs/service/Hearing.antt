-- What the exports do by which it is told what comes on the connection of a number: the machine's call `Came`, of one token or of a
-- message's end, and whose it is.
use Rattle.std.specs.Prelude.{◌≡◌, ℕ, ◌+◌, ◌==◌, ◌||◌, Bool, true, false, List, [], ◌∷◌, Option, Some, None, Result, Ok, Err, if◌then◌else◌}
use Rattle.tds_token.specs.declared.env_change.EnvChange.{EnvChange}
use Rattle.tds_token.specs.declared.env_change.EnvChange.TheVariants.{Begin, Commit, Rollback, ResetDone}
use Rattle.tds_wire.specs.declared.told.Token.{Token}
use Rattle.tds_client.specs.declared.sign.DoneKind.{DoneKind}
use Rattle.tds_client.specs.declared.sign.DoneKind.TheVariants.{Statement, Procedure, InProcedure}
use Rattle.tds_client.specs.declared.sign.Sign.{Sign}
use Rattle.tds_client.specs.declared.sign.Sign.TheVariants as signs
use Rattle.tds_client.specs.Faults.{fault_number}
use Rattle.tds_listen.specs.declared.fault.ListenFault.{ListenFault}
use Rattle.tds_listen.specs.declared.fault.ListenFault.TheVariants as listens
use Rattle.tds_listen.specs.Signs.{done_kind, transaction_change, unclear_sign}
use Rattle.tds_service.specs.declared.outcome.Outcome.{Outcome}
use Rattle.tds_service.specs.declared.outcome.Outcome.TheVariants as outcomes
use Rattle.tds_service.specs.declared.outcome.Came as comes
use Rattle.tds_service.specs.Packets.{outcome_answer}
use Rattle.tds_service.specs.Parts.{Part, Goes, Ends, Cut}
use Rattle.tds_service.specs.Service.{Came, has_number}
use Rattle.tds_service.specs.Table.{Comes}
use Rattle.tds_c.specs.declared.service.answers.Stop.{Stop}
use Rattle.tds_c.specs.declared.service.answers.Stop.TheVariants as stops
use Rattle.tds_c.specs.declared.service.plain.TdsSeat.{TdsSeat}
use Rattle.tds_c.specs.declared.service.plain.TdsWhose.{TdsWhose}
use Rattle.tds_walk.specs.declared.token.TdsWireToken.{TdsWireToken}
use Rattle.tds_c.specs.service.Answers.{stop_number}
use Rattle.tds_c.specs.service.Asking.{Turned}
use Rattle.tds_c.specs.service.Calls.{Fits, Held, Stops}
use Rattle.tds_c.specs.service.Clients.{apart}
use Rattle.tds_c.specs.service.Plain.{table_of}

-- ---- What a session needs of it

-- Of any server: 11 counts as a begin, 12 and 17 as an end (MS-TDS 2.2.7.9).
unfoldable pub change_from : ℕ → ℕ → Option EnvChange
change_from n descriptor =
    if (n == 8) || (n == 11) then Some (Begin descriptor)
    else if (n == 9) || (n == 12) then Some (Commit descriptor)
    else if (n == 10) || (n == 17) then Some (Rollback descriptor)
    else if n == 18 then Some ResetDone
    else None

-- By the token's byte (MS-TDS 2.2.7.6 to 2.2.7.8).
unfoldable pub done_from : ℕ → Option DoneKind
done_from n = if n == 0xFD then Some Statement else if n == 0xFE then Some Procedure else if n == 0xFF then Some InProcedure else None

-- By what a walk tells of the token.
unfoldable pub sign_at : TdsWireToken → Sign
sign_at t =
    if t.told == 1 then signs.Done (done_kind t.kind) t.status
    else if t.told == 2 then signs.Change (transaction_change t.change t.value t.old_value)
    else if t.told == 3 then signs.Change ResetDone
    else if t.told == 10 then unclear_sign t.kind
    else signs.Nothing

-- One token of an answer; the end of a message, inside a token or between two.
abbrev pub one_part : Sign → Token → Part Token
one_part sign token = record { items = (record { sign = sign; token = token }) ∷ []; close = Goes }

abbrev pub end_part : Bool → Part Token
end_part false = record { items = []; close = Ends }
end_part true = record { items = []; close = Cut }

-- ---- What is answered

-- 61 to 69, 75 and 76; 70 would be bytes that are no token, which are no part of these calls.
abbrev pub broken_number : ListenFault → ℕ
broken_number (listens.Client fault) = 60 + fault_number fault
broken_number (listens.Wire refusal) = 70
broken_number listens.Cut = 75
broken_number listens.ResetUnanswered = 76

-- A token that is told, or not; the end of a message.
abbrev pub told_number : Bool → ℕ
told_number true = 10
told_number false = 11

abbrev pub heard_number : Bool → Outcome → ℕ
heard_number told outcomes.More = told_number told
heard_number told outcomes.Finished = told_number told
heard_number told outcomes.Acknowledged = told_number told
heard_number told (outcomes.Fault fault) = broken_number fault

abbrev pub ended_number : Outcome → ℕ
ended_number outcomes.More = 1
ended_number outcomes.Finished = 3
ended_number outcomes.Acknowledged = 4
ended_number (outcomes.Fault fault) = broken_number fault

abbrev pub lease_number : Option ℕ → ℕ
lease_number None = 0
lease_number (Some lease) = lease

abbrev pub plain_whose : comes.Came → TdsWhose
plain_whose came = record { lease = lease_number came.lease; request = came.request }

-- ---- What is done

abbrev pub told_if : Bool → Token → List Token
told_if true token = token ∷ []
told_if false token = []

-- No other seat changed, and of this one what its client has of the request stays.
pub record Untouched (number : ℕ) (old new : Held) : Type 0 where
  pub before : TdsSeat
  pub after : TdsSeat
  pub turned : Turned (has_number number) old new before after
  pub apart_is : apart after.client ≡ apart before.client

-- The machine hears this part there, tells these tokens, and this is whose it is.
abbrev pub Hearing : ℕ → Part Token → List Token → (old new : Held) → (before after : TdsWhose) → comes.Came → Type 0
Hearing number part tokens old new before after came =
    (after ≡ plain_whose came) × (new.service ≡ old.service) × Fits old × Untouched number old new
    × Comes (table_of old.service old.seats) (table_of new.service new.seats) number part came.lease came.request
    (outcome_answer came.request came.outcome) [] tokens

abbrev pub Unheard : ℕ → Part Token → (old new : Held) → (before after : TdsWhose) → Stop → Type 0
Unheard number part old new before after stop = (new ≡ old) × (after ≡ before) × Stops (Came number part) old 0 0 stop

-- A token is told or not.
abbrev pub TokenHeard : ℕ → Sign → (old new : Held) → (before after : TdsWhose) → Result (comes.Came × Bool) Stop → Type 0
TokenHeard number sign old new before after (Ok heard) =
    (token : Token) → Hearing number (one_part sign token) (told_if heard.1 token) old new before after heard.0
TokenHeard number sign old new before after (Err stop) = (token : Token) → Unheard number (one_part sign token) old new before after stop

abbrev pub token_number : Result (comes.Came × Bool) Stop → ℕ
token_number (Ok heard) = heard_number heard.1 heard.0.outcome
token_number (Err stop) = stop_number stop

-- What has no sign is refused.
abbrev pub Hears : ℕ → Option Sign → (old new : Held) → (before after : TdsWhose) → ℕ → Type 0
Hears number None old new before after n = (new ≡ old) × (after ≡ before) × (n ≡ 23)
Hears number (Some sign) old new before after n =
    (answer : Result (comes.Came × Bool) Stop) × (n ≡ token_number answer) × TokenHeard number sign old new before after answer

abbrev pub EndHeard : ℕ → Bool → (old new : Held) → (before after : TdsWhose) → Result comes.Came Stop → Type 0
EndHeard number cut old new before after (Ok came) = Hearing number (end_part cut) [] old new before after came
EndHeard number cut old new before after (Err stop) = Unheard number (end_part cut) old new before after stop

abbrev pub end_number : Result comes.Came Stop → ℕ
end_number (Ok came) = ended_number came.outcome
end_number (Err stop) = stop_number stop

abbrev pub MessageEnds : ℕ → Bool → (old new : Held) → (before after : TdsWhose) → ℕ → Type 0
MessageEnds number cut old new before after n =
    (answer : Result comes.Came Stop) × (n ≡ end_number answer) × EndHeard number cut old new before after answer

-- The sign of a change or a DONE, where its number has one.
abbrev pub change_sign : Option EnvChange → Option Sign
change_sign None = None
change_sign (Some change) = Some (signs.Change change)

abbrev pub done_sign : Option DoneKind → ℕ → Option Sign
done_sign None status = None
done_sign (Some kind) status = Some (signs.Done kind status)

abbrev pub is_cut : ℕ → Bool
is_cut n = if n == 0 then false else true

-- What a client makes of what it hears, sign by sign: it is stated here once, whoever reads the answer.
use Rattle.std.specs.Prelude.{ℕ, Bool, true, false, List, [], ◌∷◌, Option, Some, None, Result, Ok, Err, MatchResult, ◌≡◌, ◌==◌, ◌||◌, if◌then◌else◌}
use Rattle.tds_packet.specs.declared.status.Reset.{Reset}
use Rattle.tds_packet.specs.declared.status.Reset.TheVariants.{Full, KeepTransaction}
use Rattle.tds_token.specs.declared.env_change.EnvChange.{EnvChange}
use Rattle.tds_token.specs.declared.env_change.EnvChange.TheVariants.{Begin, Commit, Rollback, ResetDone}
use Rattle.tds_token.specs.declared.fault.TokenFault.{TokenFault}
use Rattle.tds_token.specs.declared.fault.TokenFault.TheVariants.{UnknownToken}
use Rattle.tds_token.specs.declared.token.Token.{Token}
use Rattle.tds_packet.specs.Layout.{has_bit}
use Rattle.tds_packet.specs.Resets.{reset_effect}
use Rattle.tds_token.specs.DoneStatus.{attention, more}
use Rattle.tds_token.specs.Told.{change_applied}
use Rattle.tds_client.specs.declared.fault.ClientFault.{ClientFault}
use Rattle.tds_client.specs.declared.fault.ClientFault.TheVariants as faults
use Rattle.tds_client.specs.declared.heard.Heard.{Heard}
use Rattle.tds_client.specs.declared.heard.FinalDone.{FinalDone}
use Rattle.tds_client.specs.declared.heard.FinalDone.TheVariants.{Awaited, Answered, Acknowledged}
use Rattle.tds_client.specs.declared.sign.DoneKind.{DoneKind}
use Rattle.tds_client.specs.declared.sign.DoneKind.TheVariants.{Statement, Procedure, InProcedure}
use Rattle.tds_client.specs.declared.sign.Sign.{Sign}
use Rattle.tds_client.specs.declared.sign.Sign.TheVariants as signs
use Rattle.tds_client.specs.declared.sign.Rules.{Rules}
use Rattle.tds_client.specs.declared.sign.Rules.TheVariants.{Strict, Any}
use Rattle.tds_client.specs.Signs.{sign_of}
use Rattle.tds_token.specs.Contents.{Contents}

-- One thing behind another: where the first is at fault, that is the fault.
infixl 10 ◌>>=◌
abbrev pub ◌>>=◌ : {A B : Type 0} → Result A ClientFault → (A → Result B ClientFault) → Result B ClientFault
(Ok x) >>= f = f x
(Err e) >>= f = Err e

-- What a function returned is what is wanted.
abbrev pub Gives : {A : Type 0} → Result A ClientFault → Result A ClientFault → Type 0
Gives result wanted = MatchResult result (λ x. wanted ≡ Ok x) (λ e. wanted ≡ Err e)

-- ---- ENVCHANGE (MS-TDS 2.2.7.9)

-- The mark is cleared by the end of a reset, and by nothing else.
abbrev pub mark_after : EnvChange → Option Reset → Option Reset
mark_after (Begin d) mark = mark
mark_after (Commit d) mark = mark
mark_after (Rollback d) mark = mark
mark_after ResetDone mark = None

-- The fault of a change that does not apply.
abbrev pub change_fault : EnvChange → ClientFault
change_fault (Begin d) = faults.WrongEnvChange
change_fault (Commit d) = faults.WrongEnvChange
change_fault (Rollback d) = faults.WrongEnvChange
change_fault ResetDone = faults.UnaskedReset

abbrev pub descriptor_changed : Heard → EnvChange → Option ℕ → Result Heard ClientFault
descriptor_changed heard change None = Err (change_fault change)
descriptor_changed heard change (Some descriptor) = Ok (record { descriptor = descriptor; mark = mark_after change heard.mark; done = heard.done })

unfoldable pub hear_change : Heard → EnvChange → Result Heard ClientFault
hear_change heard change = descriptor_changed heard change (change_applied (reset_effect heard.mark) heard.descriptor change)

-- A full reset ends the transaction before its request runs. So a begin that is told before the end of that reset can't be placed:
-- the end would take its descriptor away.
abbrev pub is_full : Option Reset → Bool
is_full None = false
is_full (Some Full) = true
is_full (Some KeepTransaction) = false

abbrev pub begun_at : Option Reset → ℕ → ℕ → Option ℕ
begun_at mark descriptor d =
    if (d == 0) || is_full mark then None
    else if (descriptor == 0) || (descriptor == d) then Some d
    else None

-- A transaction that ends is the one that is known, or none was known: either way there is none then.
abbrev pub ended_at : ℕ → ℕ → Option ℕ
ended_at descriptor d = if (descriptor == 0) || (descriptor == d) then Some 0 else None

-- The descriptor behind the news of a reset: the one that was asked for is done. Where none was, a procedure of the server's did a
-- full one (`sp_reset_connection`).
abbrev pub reset_told : Option Reset → ℕ → ℕ
reset_told None descriptor = 0
reset_told (Some Full) descriptor = 0
reset_told (Some KeepTransaction) descriptor = descriptor

-- The descriptor behind a change that any server tells, or none where it can't be placed.
abbrev pub change_placed : Option Reset → ℕ → EnvChange → Option ℕ
change_placed mark descriptor (Begin d) = begun_at mark descriptor d
change_placed mark descriptor (Commit d) = ended_at descriptor d
change_placed mark descriptor (Rollback d) = ended_at descriptor d
change_placed mark descriptor ResetDone = Some (reset_told mark descriptor)

unfoldable pub place_change : Heard → EnvChange → Result Heard ClientFault
place_change heard change = descriptor_changed heard change (change_placed heard.mark heard.descriptor change)

-- ---- DONE (MS-TDS 2.2.7.6)

abbrev pub with_done : Heard → FinalDone → Heard
with_done heard done = record heard { done = done }

-- Bit 0020 acknowledges an attention, and is a fault where none is out. Bit 0001 says that more follows.
unfoldable pub hear_done : Bool → Heard → ℕ → Result Heard ClientFault
hear_done cancelling heard status =
    if has_bit status attention then (if cancelling then Ok (with_done heard Acknowledged) else Err faults.UnaskedAcknowledgement)
    else if has_bit status more then Ok heard
    else Ok (with_done heard Answered)

-- Bit 0020 of a DONE acknowledges an attention, and is a fault where none is out.
abbrev pub acknowledges_by : DoneKind → ℕ → Bool
acknowledges_by Statement status = has_bit status attention
acknowledges_by Procedure status = false
acknowledges_by InProcedure status = false

-- Of any server the last one counts; an acknowledgement stays one.
abbrev pub done_behind : FinalDone → ℕ → FinalDone
done_behind Awaited status = if has_bit status more then Awaited else Answered
done_behind Answered status = if has_bit status more then Awaited else Answered
done_behind Acknowledged status = Acknowledged

unfoldable pub place_done : Bool → Heard → DoneKind → ℕ → Result Heard ClientFault
place_done cancelling heard kind status =
    if acknowledges_by kind status then (if cancelling then Ok (with_done heard Acknowledged) else Err faults.UnaskedAcknowledgement)
    else Ok (with_done heard (done_behind heard.done status))

-- ---- Signs

-- In the strict profile, before the final DONE. It has no DONEPROC and no DONEINPROC.
abbrev pub strict_sign : Bool → Heard → Sign → Result Heard ClientFault
strict_sign cancelling heard signs.Nothing = Ok heard
strict_sign cancelling heard (signs.Change change) = hear_change heard change
strict_sign cancelling heard (signs.Done Statement status) = hear_done cancelling heard status
strict_sign cancelling heard (signs.Done Procedure status) = Err (faults.Token UnknownToken)
strict_sign cancelling heard (signs.Done InProcedure status) = Err (faults.Token UnknownToken)

-- No token stands behind the final DONE there.
abbrev pub strict_before : FinalDone → Bool → Heard → Sign → Result Heard ClientFault
strict_before Awaited cancelling heard sign = strict_sign cancelling heard sign
strict_before Answered cancelling heard sign = Err faults.BehindFinalDone
strict_before Acknowledged cancelling heard sign = Err faults.BehindFinalDone

-- Of any server.
abbrev pub any_sign : Bool → Heard → Sign → Result Heard ClientFault
any_sign cancelling heard signs.Nothing = Ok heard
any_sign cancelling heard (signs.Change change) = place_change heard change
any_sign cancelling heard (signs.Done kind status) = place_done cancelling heard kind status

-- One sign, where an attention is out or not.
abbrev pub hear_sign : Rules → Bool → Heard → Sign → Result Heard ClientFault
hear_sign Strict cancelling heard sign = strict_before heard.done cancelling heard sign
hear_sign Any cancelling heard sign = any_sign cancelling heard sign

-- ---- The end of a message

-- A message ends behind its final DONE. Where an attention is out, any server may break an answer off.
abbrev pub may_end : Rules → Bool → FinalDone → Bool
may_end rules cancelling Answered = true
may_end rules cancelling Acknowledged = true
may_end Strict cancelling Awaited = false
may_end Any cancelling Awaited = cancelling

-- ---- Tokens of the strict profile

-- One token: its sign is heard.
unfoldable pub hear : Bool → Heard → Token → Result Heard ClientFault
hear cancelling heard token = hear_sign Strict cancelling heard (sign_of token)

-- Tokens, one behind the other.
abbrev pub hear_all : Bool → Heard → List Token → Result Heard ClientFault
hear_all cancelling heard [] = Ok heard
hear_all cancelling heard (token ∷ others) = hear cancelling heard token >>= λ next. hear_all cancelling next others

-- ---- Packets

-- Behind the tokens, the data are at their end.
abbrev pub at_end_of_data : Option TokenFault → Heard → Result Heard ClientFault
at_end_of_data None heard = Ok heard
at_end_of_data (Some fault) heard = Err (faults.Token fault)

-- All of a packet's data.
abbrev pub hear_contents : Bool → Heard → Contents → Result Heard ClientFault
hear_contents cancelling heard contents = hear_all cancelling heard contents.tokens >>= λ next. at_end_of_data contents.fault next

-- A message ends behind its final DONE, which may stand in an earlier packet of it.
abbrev pub at_end_of_message : Bool → FinalDone → Heard → Result Heard ClientFault
at_end_of_message false done heard = Ok heard
at_end_of_message true done heard = if may_end Strict false done then Ok heard else Err faults.NoFinalDone

-- A packet, which ends its message or not.
unfoldable pub hear_packet : Bool → Heard → Bool → Contents → Result Heard ClientFault
hear_packet cancelling heard ends contents = hear_contents cancelling heard contents >>= λ next. at_end_of_message ends next.done next

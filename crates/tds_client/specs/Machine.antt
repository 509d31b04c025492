-- The client's machine: what it does with each thing that is heard. Who reads the answer is left open: `Client::take` reads the
-- strict profile, and another reader may know more tokens.
use Rattle.std.specs.Prelude.{Bool, true, false, List, [], ◌∷◌, Result, Ok, Err, if◌then◌else◌}
use Rattle.tds_token.specs.Contents.{Contents}
use Rattle.tds_client.specs.declared.fault.ClientFault.{ClientFault}
use Rattle.tds_client.specs.declared.fault.ClientFault.TheVariants as faults
use Rattle.tds_client.specs.declared.heard.Heard.{Heard}
use Rattle.tds_client.specs.declared.heard.FinalDone.{FinalDone}
use Rattle.tds_client.specs.declared.heard.FinalDone.TheVariants.{Awaited, Answered, Acknowledged}
use Rattle.tds_client.specs.declared.sign.Rules.{Rules}
use Rattle.tds_client.specs.declared.sign.Rules.TheVariants.{Strict}
use Rattle.tds_client.specs.declared.sign.Sign.{Sign}
use Rattle.tds_client.specs.declared.state.Taken.{Taken}
use Rattle.tds_client.specs.declared.state.Taken.TheVariants as takes
use Rattle.tds_client.specs.Hearing.{◌>>=◌, hear_sign, may_end, at_end_of_data}
use Rattle.tds_client.specs.Session.{ClientSession, Stage, Idle, Sending, Reading, Cancelling, Broken}
use Rattle.tds_client.specs.Signs.{signs_of}
use Rattle.tds_client.specs.Taking.{ClientMove, behind_message}

-- What is heard: the sign of a token, or that a message has ended.
pub data Item : Type 0 where
  Token : (sign : Sign) → Item
  MessageEnd : Item

-- What it does: the answer, and the client behind it.
pub record ItemMove : Type 0 where
  pub answer : Taken
  pub session : ClientSession

-- ---- A sign

abbrev pub with_heard : ClientSession → Heard → ClientSession
with_heard s heard = record s { heard = heard }

abbrev pub signed_in : Rules → Stage → ClientSession → Sign → Result ClientSession ClientFault
signed_in rules Idle s sign = Err faults.AnswerInIdle
signed_in rules (Sending kind left packets) s sign = Err faults.AnswerInSending
signed_in rules Reading s sign = hear_sign rules false s.heard sign >>= λ heard. Ok (with_heard s heard)
signed_in rules Cancelling s sign = hear_sign rules true s.heard sign >>= λ heard. Ok (with_heard s heard)
signed_in rules (Broken fault) s sign = Err fault

abbrev pub signed : Rules → ClientSession → Sign → Result ClientSession ClientFault
signed rules s sign = signed_in rules s.stage s sign

-- ---- The end of a message

-- In cancelling, the attention is acknowledged by the end of a message whose DONE says so, and by nothing else.
abbrev pub end_skipped : ClientSession → FinalDone → ItemMove
end_skipped s Awaited = record { answer = takes.More; session = behind_message s Cancelling s.heard }
end_skipped s Answered = record { answer = takes.More; session = behind_message s Cancelling s.heard }
end_skipped s Acknowledged = record { answer = takes.Acknowledged; session = behind_message s Idle s.heard }

abbrev pub end_read : ClientSession → ItemMove
end_read s = record { answer = takes.Finished; session = behind_message s Idle s.heard }

abbrev pub ended_in : Rules → Stage → ClientSession → Result ItemMove ClientFault
ended_in rules Idle s = Err faults.AnswerInIdle
ended_in rules (Sending kind left packets) s = Err faults.AnswerInSending
ended_in rules Reading s = if may_end rules false s.heard.done then Ok (end_read s) else Err faults.NoFinalDone
ended_in rules Cancelling s = if may_end rules true s.heard.done then Ok (end_skipped s s.heard.done) else Err faults.NoFinalDone
ended_in rules (Broken fault) s = Err fault

abbrev pub message_ended : Rules → ClientSession → Result ItemMove ClientFault
message_ended rules s = ended_in rules s.stage s

-- ---- Whatever is heard

abbrev pub going_on : ClientSession → ItemMove
going_on s = record { answer = takes.More; session = s }

abbrev pub heard_after : Rules → ClientSession → Item → Result ItemMove ClientFault
heard_after rules s (Token sign) = signed rules s sign >>= λ next. Ok (going_on next)
heard_after rules s MessageEnd = message_ended rules s

-- Signs, one behind the other.
abbrev pub all_signed : Rules → ClientSession → List Sign → Result ClientSession ClientFault
all_signed rules s [] = Ok s
all_signed rules s (sign ∷ others) = signed rules s sign >>= λ next. all_signed rules next others

-- Anything, one behind the other.
abbrev pub hears : Rules → ClientSession → List Item → Result ClientSession ClientFault
hears rules s [] = Ok s
hears rules s (item ∷ others) = heard_after rules s item >>= λ move. hears rules move.session others

-- Whether the caller may be told of a token: in reading alone.
abbrev pub tells : Stage → Bool
tells Idle = false
tells (Sending kind left packets) = false
tells Reading = true
tells Cancelling = false
tells (Broken fault) = false

-- A client hears where it reads or cancels.
abbrev pub Listens : Stage → Type 0
Listens Idle = ⊥
Listens (Sending kind left packets) = ⊥
Listens Reading = Unit {0}
Listens Cancelling = Unit {0}
Listens (Broken fault) = ⊥

-- ---- The strict reader

-- What `take` does with a packet, of what the machine does with the signs of its tokens.
abbrev pub end_of_packet : Rules → Bool → ClientSession → Result ItemMove ClientFault
end_of_packet rules false s = Ok (going_on s)
end_of_packet rules true s = message_ended rules s

abbrev pub stops_at : Contents → ClientSession → Result ClientSession ClientFault
stops_at contents s = at_end_of_data contents.fault s.heard >>= λ heard. Ok (record s { columns = contents.columns })

abbrev pub taken_by_signs : ClientSession → Bool → Contents → Result ItemMove ClientFault
taken_by_signs s ends contents =
    (all_signed Strict s (signs_of contents.tokens) >>= λ next. stops_at contents next) >>= λ next. end_of_packet Strict ends next

-- The same of a move that also tells tokens.
abbrev pub without_tokens : Result ClientMove ClientFault → Result ItemMove ClientFault
without_tokens (Ok took) = Ok (record { answer = took.answer; session = took.session })
without_tokens (Err fault) = Err fault

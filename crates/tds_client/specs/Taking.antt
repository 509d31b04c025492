-- What taking a packet does.
use Rattle.std.specs.Prelude.{◌≡◌, ◌≢◌, ℕ, Bool, true, false, List, [], ◌++◌, Option, None, Result, Ok, Err, IsOk}
use Rattle.tds_packet.specs.declared.reader.PacketRef.{PacketRef}
use Rattle.tds_packet.specs.Layout.{bits_of, has_bit}
use Rattle.tds_token.specs.declared.token.Token.{Token}
use Rattle.tds_token.specs.Told.{told}
use Rattle.tds_client.specs.declared.fault.ClientFault.{ClientFault}
use Rattle.tds_client.specs.declared.fault.ClientFault.TheVariants as faults
use Rattle.tds_client.specs.declared.heard.Heard.{Heard}
use Rattle.tds_client.specs.declared.heard.FinalDone.{FinalDone}
use Rattle.tds_client.specs.declared.heard.FinalDone.TheVariants.{Awaited, Answered, Acknowledged}
use Rattle.tds_client.specs.declared.state.Taken.{Taken}
use Rattle.tds_client.specs.declared.state.Taken.TheVariants as takes
use Rattle.tds_token.specs.Contents.{Contents, contents_of}
use Rattle.tds_client.specs.Hearing.{◌>>=◌, with_done, hear_packet}
use Rattle.tds_client.specs.Session.{ClientSession, Stage, Idle, Sending, Reading, Cancelling, Broken, with_stage}

-- What a packet does: the answer, the client behind it, and the tokens that the caller is told.
pub record ClientMove : Type 0 where
  pub answer : Taken
  pub session : ClientSession
  pub tokens : List Token

-- The message goes on.
abbrev pub goes_on : ClientSession → Heard → Option ℕ → ClientSession
goes_on s heard columns = record s { heard = heard; columns = columns }

-- The message has ended: of the next one nothing is known.
abbrev pub behind_message : ClientSession → Stage → Heard → ClientSession
behind_message s stage heard = record { size = s.size; stage = stage; heard = with_done heard Awaited; columns = None }

-- In reading, the tokens are told.
abbrev pub read : ClientSession → Bool → Heard → Contents → ClientMove
read s false heard contents = record { answer = takes.More; session = goes_on s heard contents.columns; tokens = told contents.tokens }
read s true heard contents = record { answer = takes.Finished; session = behind_message s Idle heard; tokens = told contents.tokens }

-- In cancelling, none is. The attention is acknowledged by the end of a message whose final DONE says so, and by
-- nothing else: the answer that was underway may end before.
abbrev pub skipped_to_end : ClientSession → Heard → FinalDone → ClientMove
skipped_to_end s heard Awaited = record { answer = takes.More; session = behind_message s Cancelling heard; tokens = [] }
skipped_to_end s heard Answered = record { answer = takes.More; session = behind_message s Cancelling heard; tokens = [] }
skipped_to_end s heard Acknowledged = record { answer = takes.Acknowledged; session = behind_message s Idle heard; tokens = [] }

abbrev pub skipped : ClientSession → Bool → Heard → Contents → ClientMove
skipped s false heard contents = record { answer = takes.More; session = goes_on s heard contents.columns; tokens = [] }
skipped s true heard contents = skipped_to_end s heard heard.done

unfoldable pub taken_reading : ClientSession → Bool → List ℕ → Result ClientMove ClientFault
taken_reading s ends bytes =
    hear_packet false s.heard ends (contents_of s.columns bytes) >>= λ heard. Ok (read s ends heard (contents_of s.columns bytes))

unfoldable pub taken_cancelling : ClientSession → Bool → List ℕ → Result ClientMove ClientFault
taken_cancelling s ends bytes =
    hear_packet true s.heard ends (contents_of s.columns bytes) >>= λ heard. Ok (skipped s ends heard (contents_of s.columns bytes))

abbrev pub taken_in : Stage → ClientSession → Bool → List ℕ → Result ClientMove ClientFault
taken_in Idle s ends bytes = Err faults.AnswerInIdle
taken_in (Sending kind left packets) s ends bytes = Err faults.AnswerInSending
taken_in Reading s ends bytes = taken_reading s ends bytes
taken_in Cancelling s ends bytes = taken_cancelling s ends bytes
taken_in (Broken fault) s ends bytes = Err fault

-- Taking a packet of an answer, which ends its message or not, with these data; want of memory aside.
abbrev pub taken : ClientSession → Bool → List ℕ → Result ClientMove ClientFault
taken s ends bytes = taken_in s.stage s ends bytes

-- The same, of a packet that is lent.
abbrev pub taken_of : ClientSession → PacketRef → Result ClientMove ClientFault
taken_of s packet = taken s (has_bit (bits_of packet.header.status) 1) packet.«data».now

-- A fault breaks the client, and changes nothing else.
abbrev pub broken_by : ClientSession → ClientFault → ClientSession
broken_by s fault = with_stage s (Broken fault)

-- What a call did is what it is to do: it answered so, the client is that one, and the tokens told are appended.
abbrev pub DoesTake : Result ClientMove ClientFault → Taken → ClientSession → List Token → List Token → Type 0
DoesTake wanted answer session before after =
    (more : List Token) × (wanted ≡ Ok (record { answer = answer; session = session; tokens = more })) × (after ≡ before ++ more)

-- At want of memory everything is as it was. It is wanted only where tokens are told, in reading, and where there is no fault.
pub record LeftUntaken (wanted : Result ClientMove ClientFault) (old new : ClientSession) (before after : List Token) : Type 0 where
  pub lawful : IsOk wanted
  pub reading : old.stage ≡ Reading
  pub telling : (move : ClientMove) → wanted ≡ Ok move → move.tokens ≢ []
  pub session : new ≡ old
  pub tokens : after ≡ before

-- What an answer says.
abbrev pub Takes : Result ClientMove ClientFault → Taken → ClientSession → ClientSession → List Token → List Token → Type 0
Takes wanted takes.More old new before after = DoesTake wanted takes.More new before after
Takes wanted takes.Finished old new before after = DoesTake wanted takes.Finished new before after
Takes wanted takes.Acknowledged old new before after = DoesTake wanted takes.Acknowledged new before after
Takes wanted takes.NoMemory old new before after = LeftUntaken wanted old new before after

-- The packet is heard: it answered so, and the client is that one. What it tells, nobody is told.
abbrev pub Hears : Result ClientMove ClientFault → Taken → ClientSession → Type 0
Hears wanted answer session =
    (tokens : List Token) × (wanted ≡ Ok (record { answer = answer; session = session; tokens = tokens }))

-- What a client hears of an answer's bytes, by a parser over them and by the rules of any server.
use Rattle.std.specs.Prelude.{ℕ, zero, suc, ◌&&◌, not, Bool, true, false, List, [], ◌∷◌, length, Option, Some, None, Result, Ok, Err, if◌then◌else◌}
use Rattle.tds_packet.specs.declared.status.Reset.{Reset}
use Rattle.tds_client.specs.declared.fault.ClientFault.{ClientFault}
use Rattle.tds_client.specs.declared.sign.Rules.TheVariants.{Any}
use Rattle.tds_client.specs.declared.state.Taken.{Taken}
use Rattle.tds_client.specs.declared.state.Taken.TheVariants as takes
use Rattle.tds_client.specs.Machine.{ItemMove, all_signed, going_on, message_ended, signed, tells}
use Rattle.tds_client.specs.Session.{ClientSession}
use Rattle.tds_wire.specs.declared.fault.Refusal.{Refusal}
use Rattle.tds_wire.specs.declared.told.Token.{Token}
use Rattle.tds_wire.specs.Reading.{Parser, Found, Sees, Inside, Refuses, Outcome, Ends, More, Refused, is_between, next_token}
use Rattle.tds_listen.specs.declared.fault.ListenFault.{ListenFault}
use Rattle.tds_listen.specs.declared.fault.ListenFault.TheVariants as faults
use Rattle.tds_listen.specs.Signs.{sign_of, signs_of}

-- What the client answers, and then what comes of it.
abbrev pub heard_by : {A B : Type 0} → Result A ClientFault → (A → Result B ListenFault) → Result B ListenFault
heard_by (Ok x) next = next x
heard_by (Err fault) next = Err (faults.Client fault)

-- ---- The next token

-- the token if the caller may be told of it; the client and the parser behind it; and the bytes that are left
pub record Move : Type 0 where
  pub told : Option Token
  pub session : ClientSession
  pub reading : Parser
  pub rest : List ℕ

abbrev pub told_if : Bool → Token → Option Token
told_if true token = Some token
told_if false token = None

abbrev pub moved_by : ClientSession → Found → Result Move ListenFault
moved_by s (Sees token r rest) =
    heard_by (signed Any s (sign_of token)) (λ next. Ok (record { told = told_if (tells s.stage) token; session = next; reading = r; rest = rest }))
moved_by s (Inside r) = Ok (record { told = None; session = s; reading = r; rest = [] })
moved_by s (Refuses refusal) = Err (faults.Wire refusal)

abbrev pub next_heard : ClientSession → Parser → List ℕ → Result Move ListenFault
next_heard s r bytes = moved_by s (next_token r bytes)

-- The same by what the layout says of the bytes; where the parser is then isn't looked at.
pub record LaidMove : Type 0 where
  pub told : Option Token
  pub session : ClientSession
  pub rest : List ℕ

abbrev pub laid_move : ClientSession → Outcome → Result LaidMove ListenFault
laid_move s (Ends passed rest) =
    heard_by (signed Any s (sign_of passed.token)) (λ next. Ok (record { told = told_if (tells s.stage) passed.token; session = next; rest = rest }))
laid_move s More = Ok (record { told = None; session = s; rest = [] })
laid_move s (Refused refusal) = Err (faults.Wire refusal)

abbrev pub without_parser : Result Move ListenFault → Result LaidMove ListenFault
without_parser (Ok move) = Ok (record { told = move.told; session = move.session; rest = move.rest })
without_parser (Err fault) = Err fault

-- ---- All the tokens that end among bytes

-- how the bytes end: the parser stands there, or it refused one
pub data Stop : Type 0 where
  Stands : Parser → Stop
  Fails : Refusal → Stop

pub record TokensHeard : Type 0 where
  pub tokens : List Token
  pub stop : Stop

abbrev pub no_tokens : Stop → TokensHeard
no_tokens stop = record { tokens = []; stop = stop }

abbrev pub led_by : Token → TokensHeard → TokensHeard
led_by token others = record { tokens = token ∷ others.tokens; stop = others.stop }

abbrev pub tokens_by : Found → (Parser → List ℕ → TokensHeard) → TokensHeard
tokens_by (Sees token r rest) behind = led_by token (behind r rest)
tokens_by (Inside r) behind = no_tokens (Stands r)
tokens_by (Refuses refusal) behind = no_tokens (Fails refusal)

-- at most so many: there are no more of them than bytes
unfoldable pub tokens_within : ℕ → Parser → List ℕ → TokensHeard
tokens_within most r [] = no_tokens (Stands r)
tokens_within zero r (byte ∷ bytes) = no_tokens (Stands r)
tokens_within (suc most) r (byte ∷ bytes) = tokens_by (next_token r (byte ∷ bytes)) (λ next rest. tokens_within most next rest)

abbrev pub tokens_in : Parser → List ℕ → TokensHeard
tokens_in r bytes = tokens_within (length bytes) r bytes

-- the client and the parser
pub record Both : Type 0 where
  pub session : ClientSession
  pub reading : Parser

abbrev pub at_stop : ClientSession → Stop → Result Both ListenFault
at_stop s (Stands r) = Ok (record { session = s; reading = r })
at_stop s (Fails refusal) = Err (faults.Wire refusal)

-- The client hears the tokens' signs, one behind the other, and then how the bytes end.
abbrev pub heard_tokens : ClientSession → TokensHeard → Result Both ListenFault
heard_tokens s all = heard_by (all_signed Any s (signs_of all.tokens)) (λ next. at_stop next all.stop)

abbrev pub heard_data : ClientSession → Parser → List ℕ → Result Both ListenFault
heard_data s r bytes = heard_tokens s (tokens_in r bytes)

-- what one more piece does
abbrev pub then_data : Result Both ListenFault → List ℕ → Result Both ListenFault
then_data (Ok both) piece = heard_data both.session both.reading piece
then_data (Err fault) piece = Err fault

-- ---- The end of a message

-- A request that has its whole answer was told that the reset it asked for is done (MS-TDS 2.2.7.9, type 18): else the mark would ask
-- once more, and the next request would end what this one began.
abbrev pub without_mark : Option Reset → ItemMove → Result ItemMove ListenFault
without_mark None move = Ok move
without_mark (Some reset) move = Err faults.ResetUnanswered

abbrev pub settled_by : Taken → ItemMove → Result ItemMove ListenFault
settled_by takes.More move = Ok move
settled_by takes.Finished move = without_mark move.session.heard.mark move
settled_by takes.Acknowledged move = Ok move
settled_by takes.NoMemory move = Ok move

-- A message that is read ends between two tokens. Behind a cancel it may end inside one, which the attention cut.
abbrev pub heard_end : ClientSession → Parser → Result ItemMove ListenFault
heard_end s r =
    if tells s.stage && not (is_between r) then Err faults.Cut
    else heard_by (message_ended Any s) (λ move. settled_by move.answer move)

-- ---- A packet: its data, and its message's end where it has one

abbrev pub ended_if : Bool → Both → Result ItemMove ListenFault
ended_if true both = heard_end both.session both.reading
ended_if false both = Ok (going_on both.session)

abbrev pub behind_data : Bool → Result Both ListenFault → Result ItemMove ListenFault
behind_data ends (Ok both) = ended_if ends both
behind_data ends (Err fault) = Err fault

abbrev pub heard_packet : ClientSession → Parser → Bool → List ℕ → Result ItemMove ListenFault
heard_packet s r ends bytes = behind_data ends (heard_data s r bytes)

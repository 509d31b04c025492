-- The part that a packet's data is, by the parser over them.
use Rattle.std.specs.Prelude.{◌≡◌, ℕ, Bool, true, false, List, [], ◌∷◌, ◌++◌, Ok, if◌then◌else◌}
use Rattle.tds_wire.specs.declared.told.Token.{Token}
use Rattle.tds_wire.specs.Reading.{Parser, is_between, restarted}
use Rattle.tds_listen.specs.Hearing.{TokensHeard, Stop, Stands, Fails, led_by, tokens_in}
use Rattle.tds_listen.specs.Signs.{sign_of}
use Rattle.tds_service.specs.declared.outcome.Outcome.{Outcome}
use Rattle.tds_service.specs.declared.outcome.Outcome.TheVariants as outcomes
use Rattle.tds_service.specs.Parts as parts
use Rattle.tds_service.specs.Parts.{Item, Part, Close, items_told, hear_items}
use Rattle.tds_service.specs.Line as line
use Rattle.tds_service.specs.Line.{Line, LineStage, Answer, line_turn}
use Rattle.tds_service.specs.Ties as ties

abbrev pub items_from : List Token → List (Item Token)
items_from [] = []
items_from (token ∷ tokens) = (record { sign = sign_of token; token = token }) ∷ items_from tokens

-- What stands behind the tokens of a packet that ends its message or not.
abbrev pub close_from : Bool → Stop → Close
close_from false (Stands r) = parts.Goes
close_from true (Stands r) = if is_between r then parts.Ends else parts.Cut
close_from ends (Fails refusal) = parts.Fails refusal

abbrev pub part_from : Bool → TokensHeard → Part Token
part_from ends all = record { items = items_from all.tokens; close = close_from ends all.stop }

-- The part of a packet with these data.
abbrev pub packet_part : Parser → List ℕ → Bool → Part Token
packet_part r bytes ends = part_from ends (tokens_in r bytes)

-- What is told of it.
abbrev pub told_of_part : Line → Part Token → List Token
told_of_part l part = ties.tokens_in (line_turn l (line.Come part)).told

-- What a caller notes of tokens: one who is told all of them, and one who isn't none.
abbrev pub noted : Bool → List Token → List Token
noted true tokens = tokens
noted false tokens = []

-- What the machine answers.
abbrev pub outcome_answer : ℕ → Outcome → Answer
outcome_answer n outcomes.More = line.More
outcome_answer n outcomes.Finished = line.Finished n
outcome_answer n outcomes.Acknowledged = line.Acked n
outcome_answer n (outcomes.Fault fault) = line.Fault fault

-- Where the parser stands behind it.
abbrev pub behind_packet : Bool → Parser → Parser
behind_packet false r = r
behind_packet true r = restarted r

abbrev pub ReadsTo : Bool → Stop → Parser → Type 0
ReadsTo ends stop now = (r : Parser) × (stop ≡ Stands r) × (now ≡ behind_packet ends r)

-- Where the next packet is read from, so that a token may be cut by packets. Behind a fault none is read.
abbrev pub Reads : Outcome → Bool → Stop → Parser → Type 0
Reads outcomes.More ends stop now = ReadsTo ends stop now
Reads outcomes.Finished ends stop now = ReadsTo ends stop now
Reads outcomes.Acknowledged ends stop now = ReadsTo ends stop now
Reads (outcomes.Fault fault) ends stop now = Unit {0}

-- ---- Tokens, one behind the other

-- What a client is doing that awaits an answer, or, behind an attention, an acknowledgement.
abbrev pub awaiting : Bool → LineStage
awaiting false = line.Reading
awaiting true = line.Cancelling

-- What is told of items, where an attention is out or not.
abbrev pub tells : Bool → List (Item Token) → List Token
tells false items = items_told items
tells true items = []

abbrev pub led_all : List Token → TokensHeard → TokensHeard
led_all [] others = others
led_all (token ∷ tokens) others = led_by token (led_all tokens others)

-- Some tokens of these bytes were heard: the line and the parser stand behind them, and these bytes are left.
pub record HeardSome (c : Bool) (old : Line) (r : Parser) (bytes : List ℕ) (new : Line) (reading : Parser) (left : List ℕ) (before after : List Token) : Type 0 where
  pub tokens : List Token
  pub are : tokens_in r bytes ≡ led_all tokens (tokens_in reading left)
  pub heard : hear_items c old.heard (items_from tokens) ≡ Ok new.heard
  pub new_is : new ≡ record { asked = old.asked; stage = awaiting c; heard = new.heard }
  pub old_is : old ≡ record { asked = old.asked; stage = awaiting c; heard = old.heard }
  pub told_is : after ≡ before ++ tells c (items_from tokens)

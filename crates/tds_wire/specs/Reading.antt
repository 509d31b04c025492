-- A parser over an answer's bytes: where its cursor is, where in the message, and the first bytes of the token that it is in.
use Rattle.std.specs.Prelude.{◌≡◌, ℕ, ◌-◌, ◌==◌, ◌&&◌, Bool, true, false, List, [], ◌++◌, length, take, drop, get_or, Option, Some, None, Result, Ok, Err}
use Rattle.tds_wire.specs.declared.due.Standing.{Standing}
use Rattle.tds_wire.specs.declared.due.Standing.TheVariants.{Between, Going, Failing}
use Rattle.tds_wire.specs.declared.fault.Refusal.{Refusal}
use Rattle.tds_wire.specs.declared.fault.WireFault.{WireFault}
use Rattle.tds_wire.specs.declared.told.Token.{Token}
use Rattle.tds_wire.specs.declared.lent.Fed.{Fed}
use Rattle.tds_wire.specs.declared.shape.Shape.{Shape}
use Rattle.tds_wire.specs.Bytes as bytes
use Rattle.tds_wire.specs.Bytes.{Went, Over, Within, Failed, onward, seen_of, standing}
use Rattle.tds_wire.specs.Inside.{IsBetween}
use Rattle.tds_wire.specs.Layout.{Read, Got, Short, Wrong, Seen, token_at}
use Rattle.tds_wire.specs.Told.{added, told_of}
use Rattle.tds_wire.specs.Walking.{Walk}

pub record Parser : Type 0 where
  pub walk : Walk
  pub head : List ℕ
  pub start : ℕ
  pub passed : ℕ
  pub refused : Option Refusal

-- the first bytes of a token, with more of it
abbrev pub kept : List ℕ → List ℕ → List ℕ
kept head more = take 24 (head ++ more)

-- ---- Up to the end of a token

-- the token that has ended with these bytes
abbrev pub token_with : Parser → ℕ → List ℕ → Token
token_with r kind last = record {
  kind = kind;
  start = r.start;
  length = added r.passed (length last);
  told = told_of kind r.start (added r.passed (length last)) (kept r.head last);
}

-- the parser behind it, and inside it
abbrev pub behind : Parser → Walk → List ℕ → Parser
behind r w last = record { walk = w; head = []; start = added r.start (added r.passed (length last)); passed = 0; refused = None }

abbrev pub inside : Parser → Walk → List ℕ → Parser
inside r w more = record { walk = w; head = kept r.head more; start = r.start; passed = added r.passed (length more); refused = None }

-- a fault at the last of these bytes
abbrev pub refusal_at : Parser → WireFault → List ℕ → Refusal
refusal_at r fault last = record { fault = fault; byte = get_or last (length last - 1) 0; at = added r.start (added r.passed (length last) - 1) }

pub data Found : Type 0 where
  Sees : Token → Parser → List ℕ → Found
  Inside : Parser → Found
  Refuses : Refusal → Found

-- the bytes before those that are left
abbrev pub front_of : List ℕ → List ℕ → List ℕ
front_of piece rest = take (length piece - length rest) piece

abbrev pub found_by : Parser → List ℕ → Went → Found
found_by r piece (Over w rest) = Sees (token_with r w.at.kind (front_of piece rest)) (behind r w (front_of piece rest)) rest
found_by r piece (Within w) = Inside (inside r w piece)
found_by r piece (Failed fault rest) = Refuses (refusal_at r fault (front_of piece rest))

abbrev pub found_on : Option Refusal → Parser → List ℕ → Found
found_on (Some refusal) r piece = Refuses refusal
found_on None r piece = found_by r piece (onward r.walk piece)

-- what is found in a piece
unfoldable pub next_token : Parser → List ℕ → Found
next_token r piece = found_on r.refused r piece

-- what one more piece does
abbrev pub then_found : Found → List ℕ → Found
then_found (Sees token r rest) piece = Sees token r (rest ++ piece)
then_found (Inside r) piece = next_token r piece
then_found (Refuses refusal) piece = Refuses refusal

-- what a call of `feed` has done, by what it answers
abbrev pub found_to : Option Token → Parser → List ℕ → Found
found_to None r rest = Inside r
found_to (Some token) r rest = Sees token r rest

abbrev pub found_of : Result Fed Refusal → Parser → List ℕ → Found
found_of (Ok fed) r piece = found_to fed.token r (drop fed.count piece)
found_of (Err refusal) r piece = Refuses refusal

-- the same where the token is left elsewhere
abbrev pub found_with : Result ℕ Refusal → Option Token → Parser → List ℕ → Found
found_with (Ok count) token r piece = found_to token r (drop count piece)
found_with (Err refusal) token r piece = Refuses refusal

-- ---- Between two tokens

abbrev pub stands_between : Standing → Bool
stands_between Between = true
stands_between Going = false
stands_between (Failing fault) = false

abbrev pub is_whole : Option Refusal → Bool
is_whole None = true
is_whole (Some refusal) = false

-- nothing of a token has been passed, and none is due
abbrev pub is_between : Parser → Bool
is_between r = is_whole r.refused && (stands_between (standing r.walk.at.due) && ((length r.head == 0) && (r.passed == 0)))

-- A parser between two tokens has passed nothing of the next one.
pub record IsReady (r : Parser) : Type 0 where
  pub walk : IsBetween r.walk
  pub head : r.head ≡ []
  pub passed : r.passed ≡ 0
  pub whole : r.refused ≡ None

-- before the first token of a message
abbrev pub restarted : Parser → Parser
restarted r = record { walk = bytes.walk_restarted r.walk; head = []; start = 0; passed = 0; refused = None }

-- ---- As the layout has it

-- a token, and the columns that are known behind it
pub record Passed : Type 0 where
  pub token : Token
  pub columns : List Shape

pub data Outcome : Type 0 where
  Ends : Passed → List ℕ → Outcome
  More : Outcome
  Refused : Refusal → Outcome

abbrev pub outcome_of : Found → Outcome
outcome_of (Sees token r rest) = Ends (record { token = token; columns = r.walk.columns }) rest
outcome_of (Inside r) = More
outcome_of (Refuses refusal) = Refused refusal

-- what the layout says of the same bytes
abbrev pub laid_by : Parser → List ℕ → Read Seen → Outcome
laid_by r piece (Got s rest) = Ends (record { token = token_with r s.kind (front_of piece rest); columns = s.columns }) rest
laid_by r piece Short = More
laid_by r piece (Wrong fault rest) = Refused (refusal_at r fault (front_of piece rest))

abbrev pub laid_out : Parser → List ℕ → Outcome
laid_out r piece = laid_by r piece (token_at r.walk.most r.walk.features (seen_of r.walk) piece)

-- Where the final DONE of an answer stands (MS-TDS 2.2.7.6).
use Rattle.std.specs.Prelude.{ℕ, ◌≡◌, List, [], ◌∷◌, ◌++◌, Bool, true, false, Option, bit_and}
use Rattle.std.specs.List.{All, AllByRecursion}
use Rattle.tds_packet.specs.declared.status.Reset.{Reset}
use Rattle.tds_request.specs.declared.request.Request.{Request}
use Rattle.tds_session.specs.Answer as answer
use Rattle.tds_session.specs.Answer.{Answers}
use Rattle.tds_session.specs.Lawful.{IsStatementDone}
use Rattle.tds_session.specs.Session.{SessionState}
use Rattle.tds_token.specs.DoneStatus as done_status
use Rattle.tds_token.specs.declared.token.Token.{Token}
use Rattle.tds_token.specs.declared.token.Token.TheVariants as token
use Rattle.tds_world.specs.Laws.{OfEachConnection}
use Rattle.tds_world.specs.Steps.{OfSteps, sent_down}
use Rattle.tds_world.specs.World.{World}

-- No more follows, and no attention is acknowledged.
abbrev pub IsFinal : ℕ → Type 0
IsFinal status = (bit_and status done_status.more ≡ 0) × (bit_and status done_status.attention ≡ 0)

-- The tokens of a last step end with a final DONE, of this command and this count of rows, and each
-- other DONE says that more follows.
abbrev pub DonesBy : ℕ → ℕ → Bool → List Token → Type 0
DonesBy cur_cmd rows false tokens = All IsStatementDone tokens
DonesBy cur_cmd rows true tokens =
    (before : List Token) × (status : ℕ)
    × (tokens ≡ before ++ token.Done status cur_cmd rows ∷ [])
    × All IsStatementDone before × IsFinal status

-- A server's own final DONE tells neither.
abbrev pub HasDones : answer.Step → Type 0
HasDones s = DonesBy 0 0 s.last s.tokens

-- Answers of which it holds, for every session, header descriptor, reset and request.
abbrev pub HaveDones : Answers → Type 0
HaveDones answers =
    (s : SessionState) (descriptor : ℕ) (reset : Option Reset) (q : Request)
    → AllByRecursion HasDones (answers s descriptor reset q)

-- It holds of each step that was sent: in a message of an answer the final DONE stands at the end of
-- the packet that ends the message, and there alone.
abbrev pub FinalDoneAtEnd : World → Type 0
FinalDoneAtEnd w = OfEachConnection (λ c. OfSteps HasDones (sent_down c)) w

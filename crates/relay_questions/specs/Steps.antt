-- The questions in the order in which they are asked, and what comes of their answers.
use Rattle.std.specs.Prelude.{◌≡◌, Bool, true, false, not, List, [], ◌∷◌, ◌++◌, map, Option, Some, None, if◌then◌else◌}
use Rattle.tds_packet.specs.declared.status.Reset as resets
use Rattle.tds_packet.specs.declared.status.Reset.TheVariants.{Full, KeepTransaction}
use Rattle.relay_questions.specs.declared.step.Question.{Question}
use Rattle.relay_questions.specs.declared.step.Question.TheVariants as questions
use Rattle.relay_questions.specs.declared.step.Step.{Step}
use Rattle.relay_questions.specs.declared.step.Step.TheVariants.{Set, Reset, SetAgain, Isolate, MakeTable, MakeTableAgain, OpenCursor, Lock, Begin, ResetButTransaction, ResetTransaction, Prepare, Unprepare, SetAndWait, AskOnceMore, ResetAll}
use Rattle.relay_questions.specs.declared.asking.Answer.{Answer}
use Rattle.relay_questions.specs.declared.asking.Answer.TheVariants.{Rests, Holds, Unread}
use Rattle.relay_questions.specs.declared.asking.Found.{Found}
use Rattle.relay_questions.specs.declared.asking.Found.TheVariants.{More, Tells, Otherwise}

-- ---- The questions

unfoldable pub all_steps : List Step
all_steps =
    Set ∷ Reset ∷ SetAgain ∷ Isolate ∷ MakeTable ∷ MakeTableAgain ∷ OpenCursor ∷ Lock
    ∷ Begin ∷ ResetButTransaction ∷ ResetTransaction ∷ Prepare ∷ Unprepare ∷ SetAndWait ∷ AskOnceMore ∷ ResetAll ∷ []

-- what each is about
abbrev pub question_of : Step → Question
question_of Set = questions.Setting
question_of Isolate = questions.Isolation
question_of MakeTable = questions.Table
question_of OpenCursor = questions.Cursor
question_of Lock = questions.Lock
question_of Begin = questions.Transaction
question_of ResetButTransaction = questions.KeepingReset
question_of ResetTransaction = questions.KeepingReset
question_of Prepare = questions.Handle
question_of Unprepare = questions.Handle
question_of SetAndWait = questions.Cancel
question_of AskOnceMore = questions.Cancel
question_of _ = questions.Reset

-- the reset that it asks for (MS-TDS 2.2.3.1.2)
abbrev pub reset_of : Step → Option resets.Reset
reset_of Set = None
reset_of SetAgain = None
reset_of ResetButTransaction = Some KeepTransaction
reset_of Unprepare = None
reset_of AskOnceMore = None
reset_of _ = Some Full

-- whether the session must rest behind its answer, by all that was said
abbrev pub must_rest : Step → Bool
must_rest Reset = true
must_rest ResetTransaction = true
must_rest Unprepare = true
must_rest ResetAll = true
must_rest _ = false

-- ---- The verdict

-- the answer that it must have
abbrev pub right_answer : Step → Answer
right_answer step = if must_rest step then Rests else Holds

-- whether a session rests that rests, or doesn't
abbrev pub is_right_if : Bool → Answer → Bool
is_right_if is Rests = is
is_right_if is Holds = not is
is_right_if is Unread = false

abbrev pub is_right : Step → Answer → Bool
is_right step answer = is_right_if (must_rest step) answer

-- what whole answers have shown, of which the first one is to the first of these steps
unfoldable pub verdict : List Step → List Answer → Found
verdict [] answers = Tells
verdict (step ∷ steps) [] = More
verdict (step ∷ steps) (answer ∷ answers) = if is_right step answer then verdict steps answers else Otherwise (question_of step)

-- the steps that aren't answered as they must be behind them
unfoldable pub steps_left : List Step → List Answer → List Step
steps_left steps [] = steps
steps_left [] (answer ∷ answers) = []
steps_left (step ∷ steps) (answer ∷ answers) = if is_right step answer then steps_left steps answers else step ∷ steps

-- Answers are as they must be up to one to a step of this question, which isn't.
pub record IsOtherwise (question : Question) (steps : List Step) (answers : List Answer) : Type 0 where
  pub before : List Step
  pub step : Step
  pub behind : List Step
  pub answer : Answer
  pub more : List Answer
  pub asked : steps ≡ before ++ step ∷ behind
  pub answered : answers ≡ map right_answer before ++ answer ∷ more
  pub wrong : is_right step answer ≡ false
  pub is : question_of step ≡ question

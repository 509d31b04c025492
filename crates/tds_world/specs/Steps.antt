-- The steps of a connection: those that were sent, and those that are due.
use Rattle.std.specs.Prelude.{ℕ, ◌≡◌, ◌+◌, List, [], ◌∷◌, ◌++◌, Option, if◌then◌else◌}
use Rattle.std.specs.List.{AllByRecursion}
use Rattle.tds_packet.specs.declared.status.Reset.{Reset}
use Rattle.tds_request.specs.declared.request.Request.{Request}
use Rattle.tds_session.specs.Answer as answer
use Rattle.tds_session.specs.Answer.{Answers, EndsOnce}
use Rattle.tds_session.specs.Session.{SessionState}
use Rattle.tds_token.specs.declared.env_change.EnvChange.{EnvChange}
use Rattle.tds_world.specs.Connection.{Connection}
use Rattle.tds_world.specs.Entries.{Down, Step, Acknowledgement}
use Rattle.tds_world.specs.Laws.{OfEachConnection}
use Rattle.tds_world.specs.World.{World}

-- All that was sent to the client.
abbrev pub sent_down : Connection → List Down
sent_down c = c.to_client.arrived ++ c.to_client.waiting

-- ---- Each step is one of an answer

-- It is a step of the answer to this request, from this session, of this header descriptor and this
-- reset, behind those steps and before these.
pub record IsStepOf (answers : Answers) (step : answer.Step) : Type 0 where
  pub session : SessionState
  pub descriptor : ℕ
  pub reset : Option Reset
  pub request : Request
  pub before : List answer.Step
  pub behind : List answer.Step
  pub is : answers session descriptor reset request ≡ before ++ step ∷ behind

-- P holds of each step among these.
abbrev pub OfSteps : (answer.Step → Type 0) → List Down → Type 0
OfSteps P [] = Unit {0}
OfSteps P (Step r place s ∷ es) = P s × OfSteps P es
OfSteps P (Acknowledgement r place changes ∷ es) = OfSteps P es

-- P holds of what each acknowledgement among these tells.
abbrev pub OfAcknowledgements : (List EnvChange → Type 0) → List Down → Type 0
OfAcknowledgements P [] = Unit {0}
OfAcknowledgements P (Step r place s ∷ es) = OfAcknowledgements P es
OfAcknowledgements P (Acknowledgement r place changes ∷ es) = P changes × OfAcknowledgements P es

-- Each step that was sent or is due is one of an answer.
abbrev pub StepsAreOfAnswers : Answers → World → Type 0
StepsAreOfAnswers answers w =
    OfEachConnection
    (λ c. OfSteps (IsStepOf answers) (sent_down c) × AllByRecursion (IsStepOf answers) c.due) w

-- ---- A message ends once

-- These packets stand each at its place of its message, counted from 1. A message ends with a last
-- step or with an acknowledgement, and the packet behind it is the first of the next one. Of the
-- first message so many packets went before, and of one that has not ended so many are out.
abbrev pub AreMessages : ℕ → List Down → ℕ → Type 0
AreMessages before [] out = before ≡ out
AreMessages before (Step r place s ∷ es) out =
    (place ≡ before + 1) × AreMessages (if s.last then 0 else before + 1) es out
AreMessages before (Acknowledgement r place changes ∷ es) out =
    (place ≡ before + 1) × AreMessages 0 es out

-- How many packets are out of a message that has not ended: the steps taken of an answer that is
-- still due.
abbrev pub out_of : List answer.Step → ℕ → ℕ
out_of [] taken = 0
out_of (s ∷ ss) taken = taken

abbrev pub MessagesEndOnce : World → Type 0
MessagesEndOnce w = OfEachConnection (λ c. AreMessages 0 (sent_down c) (out_of c.due c.taken)) w

-- What is due, if anything is, ends once.
abbrev pub EndsIfDue : List answer.Step → Type 0
EndsIfDue [] = Unit {0}
EndsIfDue (s ∷ ss) = EndsOnce (s ∷ ss)

abbrev pub AnswersEndOnce : World → Type 0
AnswersEndOnce w = OfEachConnection (λ c. EndsIfDue c.due) w

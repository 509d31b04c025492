-- What is asked of a session, and what its answers show.
use Rattle.std.specs.Prelude.{ℕ, ◌&&◌, not, Bool, true, false, List, [], ◌∷◌, get_or, Option, Some, None, if◌then◌else◌}
use Rattle.tds_packet.specs.declared.status.Reset as resets
use Rattle.tds_packet.specs.declared.status.Reset.TheVariants.{Full, KeepTransaction}
use Rattle.tds_state.specs.declared.watch.Watch.{Watch}
use Rattle.tds_state.specs.Sessions.{session_rests}
use Rattle.tds_state.specs.Watching.{watch_lost, watch_settled}
use Rattle.relay_questions.specs.declared.asking.Answer.{Answer}
use Rattle.relay_questions.specs.declared.asking.Answer.TheVariants.{Rests, Holds, Unread}
use Rattle.relay_questions.specs.declared.asking.Found.{Found}
use Rattle.relay_questions.specs.declared.asking.Found.TheVariants.{More}
use Rattle.relay_questions.specs.declared.step.Step.{Step}
use Rattle.relay_questions.specs.declared.step.Step.TheVariants as steps
use Rattle.relay_questions.specs.Requests.{attention_bytes, request_of}
use Rattle.relay_questions.specs.Steps.{reset_of, steps_left, verdict}

-- ---- What goes out

-- the transaction in which a step is asked: a full reset ends the one that is there
abbrev pub descriptor_by : Option resets.Reset → ℕ → ℕ
descriptor_by None now = now
descriptor_by (Some Full) now = 0
descriptor_by (Some KeepTransaction) now = now

-- a step's request: its transaction, and the handle that was prepared, are what the session's watch has heard
abbrev pub sent_for : Step → Watch → List ℕ
sent_for step w = request_of step (descriptor_by (reset_of step) w.tracker.session.transaction) (get_or w.tracker.session.handles.places 0 0)

-- that of the first step, if there is one
abbrev pub sent_first : List Step → Watch → List ℕ
sent_first [] w = []
sent_first (step ∷ steps) w = sent_for step w

-- ---- What answers show

abbrev pub watch_rests : Watch → Bool
watch_rests w = not w.is_lost && session_rests w.tracker.session

-- the answer, where it is whole
abbrev pub answer_in : Watch → Option Answer
answer_in w = if watch_lost w then Some Unread else if watch_settled w then Some (if watch_rests w then Rests else Holds) else None

abbrev pub found_by : List Step → Option Answer → Found
found_by steps None = More
found_by steps (Some answer) = verdict steps (answer ∷ [])

abbrev pub left_by : List Step → Option Answer → List Step
left_by steps None = steps
left_by steps (Some answer) = steps_left steps (answer ∷ [])

-- ---- A cancel

-- the step is to be cancelled as soon as something comes, and isn't yet
abbrev pub is_waiting_step : Step → Bool
is_waiting_step steps.SetAndWait = true
is_waiting_step _ = false

abbrev pub is_waiting : List Step → Bool
is_waiting [] = false
is_waiting (step ∷ steps) = is_waiting_step step

abbrev pub sent_at_first : Bool → List ℕ
sent_at_first true = attention_bytes
sent_at_first false = []

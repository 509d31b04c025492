-- How a server works: one step of the answer at a time.
use Rattle.std.specs.Prelude.{ℕ, List, [], ◌∷◌, Bool, true, false}
use Rattle.tds_session.specs.Answer.{Step}
use Rattle.tds_server.specs.declared.outcome.Worked.{Worked}
use Rattle.tds_server.specs.declared.outcome.Worked.TheVariants.{Idle, Step as StepDone, Finished}
use Rattle.tds_server.specs.Packets.{answer_packet, next_id}
use Rattle.tds_server.specs.State.{Phase, Waiting, Receiving, Answering, Broken, ServerState}

-- the server then, its answer, and the packet that is appended
pub record Work (E : Type 0) : Type 0 where
  pub state : ServerState E
  pub answer : Worked
  pub packet : List ℕ

-- nothing is being answered
abbrev pub idles : {E : Type 0} → ServerState E → Work E
idles s = record { state = s; answer = Idle; packet = [] }

-- what is left behind a step, and the answer: the last one ends it
abbrev pub phase_behind : Bool → List Step → ℕ → Phase
phase_behind true due id = Waiting
phase_behind false due id = Answering due (next_id id) true

abbrev pub worked_by : Bool → Worked
worked_by true = Finished
worked_by false = StepDone

-- a step is done: its session, and its packet
abbrev pub does : {E : Type 0} → ServerState E → Step → List Step → ℕ → Work E
does s step rest id = record {
  state = record s { session = step.after; phase = phase_behind step.last rest id };
  answer = worked_by step.last;
  packet = answer_packet id step.last step.tokens;
}

abbrev pub works_in : {E : Type 0} → ServerState E → Phase → Work E
works_in s Waiting = idles s
works_in s (Receiving message) = idles s
works_in s (Answering [] id begun) = idles s
works_in s (Answering (step ∷ rest) id begun) = does s step rest id
works_in s (Broken fault) = idles s

-- what a call of `work` does
abbrev pub worked : {E : Type 0} → ServerState E → Work E
worked s = works_in s s.phase

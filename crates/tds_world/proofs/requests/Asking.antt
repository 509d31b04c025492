-- The newest request against what waits and is due. Until it runs, it asks what a request asked now
-- would ask, and its whole answer is due or will be. Once it ran, only the first of the steps that
-- wait can take a reset, and that meets the mark.
use Rattle.std.specs.Prelude.{ℕ, ◌≡◌, ◌⊎◌, List, [], ◌∷◌, false, Option, Some, None}
use Rattle.std.specs.List.{AllByRecursion}
use Rattle.tds_packet.specs.declared.status.Reset.{Reset}
use Rattle.tds_session.specs.Answer as answer
use Rattle.tds_session.specs.Answer.{Answers}
use Rattle.tds_session.specs.Session.{SessionState}
use Rattle.tds_world.specs.Connection.{Connection}
use Rattle.tds_world.specs.Entries.{Asking, Up, Part, End, Drop, Attention, Down, Step, Acknowledgement}
use Rattle.tds_world.specs.Heard.{Meets}
use Rattle.tds_world.specs.Lawful.{TakesNoReset}
use Rattle.tds_world.specs.Phase.{Phase, phase_of, is_settled}
use Rattle.tds_world.specs.Record.{Record}
use Rattle.tds_packet.specs.Resets.{header_descriptor}
use Rattle.tds_world.proofs.flow.Busy.{NoEnd}
use Rattle.tds_world.proofs.requests.Cores.{Core, past_of}
use Rattle.tds_world.proofs.flow.Fates.{is_sending}

-- It has the mark of this moment, and the descriptor heard of this moment in its header.
abbrev pub IsCurrent : Option Reset → ℕ → Asking → Type 0
IsCurrent mark heard a = (a.mark ≡ mark) × (a.descriptor ≡ header_descriptor mark heard)

-- Each end among these asks just this.
abbrev pub EndsAsk : Asking → List Up → Type 0
EndsAsk a [] = Unit {0}
EndsAsk a (Part r p ∷ es) = EndsAsk a es
EndsAsk a (End r b p ∷ es) = (b ≡ a) × EndsAsk a es
EndsAsk a (Drop r p ∷ es) = EndsAsk a es
EndsAsk a (Attention r ∷ es) = EndsAsk a es

-- Nothing is due, or the whole answer from the session of this moment.
abbrev pub IsDue : Answers → SessionState → ℕ → List answer.Step → Asking → Type 0
IsDue answers s taken due a =
    (due ≡ []) ⊎ ((taken ≡ 0) × (due ≡ answers s a.descriptor a.mark a.request))

-- No step among these, and no change.
abbrev pub NoSteps : List Down → Type 0
NoSteps [] = Unit {0}
NoSteps (Step r place s ∷ es) = ⊥
NoSteps (Acknowledgement r place changes ∷ es) = (changes ≡ []) × NoSteps es

-- No step among these takes a reset.
abbrev pub NoResets : List Down → Type 0
NoResets [] = Unit {0}
NoResets (Step r place s ∷ es) = (s.reset ≡ None) × NoResets es
NoResets (Acknowledgement r place changes ∷ es) = NoResets es

-- Only the first step among these can take a reset, and it meets the mark.
abbrev pub MeetsMark : Option Reset → List Down → Type 0
MeetsMark mark [] = Unit {0}
MeetsMark mark (Step r place s ∷ es) = Meets mark s.reset × NoResets es
MeetsMark mark (Acknowledgement r place changes ∷ es) = MeetsMark mark es

-- A request that didn't run yet.
pub record Unrun (answers : Answers) (session : SessionState) (mark : Option Reset) (heard taken : ℕ) (steps : List answer.Step) (p : Phase) (a : Asking) (ups : List Up) (coming : List Down) : Type 0 where
  pub current : is_settled p ≡ false → IsCurrent mark heard a
  pub ends : EndsAsk a ups
  pub due : IsDue answers session taken steps a
  pub downs : NoSteps coming

-- A request that ran in this session.
pub record HasRun (mark : Option Reset) (steps : List answer.Step) (p : Phase) (a : Asking) (s : SessionState) (ups : List Up) (coming : List Down) : Type 0 where
  pub own : a.descriptor ≡ s.descriptor
  pub whole : is_sending p ≡ false
  pub ends : NoEnd ups
  pub due : TakesNoReset steps
  pub downs : MeetsMark mark coming

abbrev pub ByRan : Answers → Connection → List Up → List Down → Phase → Asking → Option SessionState → Type 0
ByRan answers c ups downs p a None = Unrun answers c.session c.mark c.heard c.taken c.due p a ups downs
ByRan answers c ups downs p a (Some s) = HasRun c.mark c.due p a s ups downs

-- The newest request, where these entries wait.
abbrev pub Newest : Answers → Connection → List Up → List Down → Option Record → Type 0
Newest answers c ups downs None = Unit {0}
Newest answers c ups downs (Some q) = ByRan answers c ups downs (phase_of q) q.asking q.ran

abbrev pub NewestWith : Answers → Connection → List Up → List Down → Type 0
NewestWith answers c ups downs = Newest answers c ups downs c.current

-- A request that ran did so in the transaction that its header names.
abbrev pub RanOwn : Core → Type 0
RanOwn x = (s : SessionState) → x.ran ≡ Some s → x.asking.descriptor ≡ s.descriptor

-- The older requests, and the newest.
abbrev pub Marked : Answers → Connection → Type 0
Marked answers c =
    AllByRecursion RanOwn (past_of c) × NewestWith answers c c.to_server.waiting c.to_client.waiting

-- The invariant of one connection: what can wait on it, by the phase of its newest request r, and how
-- the descriptor heard becomes the server's.
use Rattle.std.specs.Prelude.{ℕ, ◌≡◌, ◌⊎◌, List, [], ◌∷◌, true, false, Option, Some, None}
use Rattle.tds_session.specs.Answer as answer
use Rattle.tds_world.specs.Arrivals.{heard_after, heard_behind}
use Rattle.tds_world.specs.Connection.{Connection, phase}
use Rattle.tds_world.specs.Entries.{Up, Part, End, Drop, Attention, Down, Step, Acknowledgement}
use Rattle.tds_world.specs.Lawful.{TellsChanges}
use Rattle.tds_session.specs.Answer.{EndsOnce}
use Rattle.tds_world.specs.Phase.{Phase, Settled, Asked, Sending, Reading, Cancelling}
use Rattle.tds_world.specs.Record.{Record}

-- Parts of r alone.
abbrev pub OnlyParts : ℕ → List Up → Type 0
OnlyParts r [] = Unit {0}
OnlyParts r (Part q p ∷ es) = (q ≡ r) × OnlyParts r es
OnlyParts r (e ∷ es) = ⊥

-- Parts of r, and then its end.
abbrev pub EndsInEnd : ℕ → List Up → Type 0
EndsInEnd r [] = ⊥
EndsInEnd r (Part q p ∷ es) = (q ≡ r) × EndsInEnd r es
EndsInEnd r (End q a p ∷ es) = (q ≡ r) × (es ≡ [])
EndsInEnd r (Drop q p ∷ es) = ⊥
EndsInEnd r (Attention q ∷ es) = ⊥

-- Parts of r, its end or the word to drop it, and then its attention. The first of these may have
-- arrived.
abbrev pub EndsInAttention : ℕ → List Up → Type 0
EndsInAttention r [] = ⊥
EndsInAttention r (Part q p ∷ es) = (q ≡ r) × EndsInAttention r es
EndsInAttention r (End q a p ∷ es) = (q ≡ r) × (es ≡ Attention r ∷ [])
EndsInAttention r (Drop q p ∷ es) = (q ≡ r) × (es ≡ Attention r ∷ [])
EndsInAttention r (Attention q ∷ es) = (q ≡ r) × (es ≡ [])

-- Steps of r, of which only the last one, with what is due, is marked as the last.
abbrev pub StepsAndDue : ℕ → List Down → List answer.Step → Type 0
StepsAndDue r [] due = EndsOnce due
StepsAndDue r (Step q place s ∷ es) due = (q ≡ r) × (s.last ≡ true → (es ≡ []) × (due ≡ [])) × (s.last ≡ false → StepsAndDue r es due)
StepsAndDue r (Acknowledgement q place changes ∷ es) due = ⊥

-- Steps of r alone.
abbrev pub OnlySteps : ℕ → List Down → Type 0
OnlySteps r [] = Unit {0}
OnlySteps r (Step q place s ∷ es) = (q ≡ r) × OnlySteps r es
OnlySteps r (Acknowledgement q place changes ∷ es) = ⊥

-- Steps of r, and then its acknowledgement.
abbrev pub EndsInAcknowledgement : ℕ → List Down → Type 0
EndsInAcknowledgement r [] = ⊥
EndsInAcknowledgement r (Step q place s ∷ es) = (q ≡ r) × EndsInAcknowledgement r es
EndsInAcknowledgement r (Acknowledgement q place changes ∷ es) = (q ≡ r) × (es ≡ [])

-- Nothing waits, and the server has nothing to do.
abbrev pub Quiet : List Up → List Down → List ℕ → List answer.Step → Type 0
Quiet ups downs parts due = (ups ≡ []) × (downs ≡ []) × (parts ≡ []) × (due ≡ [])

-- What waits and is due, by phase: r is the newest request, a the one that the server answers.
abbrev pub FlowIn : Phase → ℕ → ℕ → List Up → List Down → List ℕ → List answer.Step → Type 0
FlowIn Settled r a ups downs parts due = Quiet ups downs parts due
FlowIn Asked r a ups downs parts due = Quiet ups downs parts due
FlowIn Sending r a ups downs parts due = OnlyParts r ups × (downs ≡ []) × (due ≡ [])
FlowIn Reading r a ups downs parts due =
    (EndsInEnd r ups × (downs ≡ []) × (due ≡ []))
    ⊎ ((ups ≡ []) × (parts ≡ []) × (a ≡ r) × StepsAndDue r downs due)
FlowIn Cancelling r a ups downs parts due =
    (EndsInAttention r ups × (downs ≡ []) × (due ≡ []))
    ⊎ (((ups ≡ Attention r ∷ []) × (a ≡ r) × OnlySteps r downs)
    ⊎ ((ups ≡ []) × (parts ≡ []) × (due ≡ []) × EndsInAcknowledgement r downs))

-- The number of the newest request.
abbrev pub number_in : Option Record → ℕ
number_in None = 0
number_in (Some q) = q.number

-- The flow of a connection on which these entries wait.
abbrev pub FlowWith : Connection → List Up → List Down → Type 0
FlowWith c ups downs = FlowIn (phase c) (number_in c.current) c.answering ups downs c.parts c.due

-- The descriptor d becomes e by the changes that the entries tell.
abbrev pub Hears : ℕ → List Down → ℕ → Type 0
Hears d [] e = d ≡ e
Hears d (Step q place s ∷ es) e = (f : ℕ) × (heard_after d s ≡ Some f) × Hears f es e
Hears d (Acknowledgement q place changes ∷ es) e = (f : ℕ) × (heard_behind d changes ≡ Some f) × Hears f es e

-- The descriptor heard becomes the server's by what waits, and the steps due tell what they change.
abbrev pub HeardWith : Connection → List Down → Type 0
HeardWith c downs = Hears c.heard downs c.session.descriptor × TellsChanges c.session c.due

-- Both, where these entries wait.
abbrev pub SoundWith : Connection → List Up → List Down → Type 0
SoundWith c ups downs = FlowWith c ups downs × HeardWith c downs

-- A connection is sound.
abbrev pub Sound : Connection → Type 0
Sound c = SoundWith c c.to_server.waiting c.to_client.waiting

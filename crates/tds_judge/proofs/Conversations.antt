-- Conversations that are lawful, worked out: what a law of lawful conversations is about.
use Rattle.std.proofs.Common.{false, ℕ, true, List, [], ◌∷◌, refl}
use Rattle.tds_judge.specs.declared.finding.Direction.TheVariants.{ToServer}
use Rattle.tds_judge.specs.declared.talk.Event.{Event}
use Rattle.tds_judge.specs.declared.talk.Event.TheVariants as events
use Rattle.tds_wire.specs.declared.told.Told.TheVariants as told
use Rattle.tds_judge.specs.Conversation.{IsLawful, place_of}
use Rattle.tds_judge.specs.History.{Said, last_told}

abbrev said_in : List Event → List Said
said_in [] = []
said_in (event ∷ past) = (record { spot = record { direction = ToServer; offset = 0; time = 0 }; event = event }) ∷ said_in past

abbrev done : ℕ → Event
done status = events.Says (record { kind = 0xFD; start = 0; length = 13; told = told.Done (record { status = status; command = 0; count = 0 }) })

-- The attention is seen before the answer, or behind its end; either way the acknowledgement is a message of its own, and the next
-- request comes behind it.
before : IsLawful (said_in (
    events.Request 1 false ∷ events.Answered true ∷ done 0x20 ∷ events.Answer ∷ events.Answered true ∷ done 0 ∷ events.Answer
    ∷ events.Attention 8 1 ∷ events.Names 0 ∷ events.Request 1 false ∷ []))
unfolding IsLawful place_of last_told
before = ((((((((((tt, (refl, refl)), tt), (tt, refl, refl)), tt), (refl, refl)), tt), tt), (refl, refl)), tt), (refl, refl))

behind : IsLawful (said_in (
    events.Request 1 false ∷ events.Answered true ∷ done 0x20 ∷ events.Answer ∷ events.Attention 8 1 ∷ events.Answered true ∷ done 0 ∷ events.Answer
    ∷ events.Names 0 ∷ events.Request 1 false ∷ []))
unfolding IsLawful place_of last_told
behind = ((((((((((tt, (refl, refl)), tt), tt), (refl, refl)), tt), (tt, refl, refl)), tt), (refl, refl)), tt), (refl, refl))

-- What waits still fits the newest request after an entry arrives.
use Rattle.std.proofs.Common.{◌≡◌, ℕ, List, [], ◌∷◌, ◌++◌, inl, inr, Bool, true, false, refl, sym, subst, Option, Some, None, option_map, eqb}
use Rattle.std.proofs.lemmas.Bool.Decides.{nat_tests}
use Rattle.std.proofs.Common.{arith}
use Rattle.tds_session.specs.Answer as answer
use Rattle.tds_session.specs.Answer.{Answers, EndsOnce}
use Rattle.tds_token.specs.declared.env_change.EnvChange.{EnvChange}
use Rattle.tds_world.specs.Arrivals.{server_acts}
use Rattle.tds_world.specs.Connection.{Connection}
use Rattle.tds_world.specs.Entries.{Up, Part, End, Drop, Attention, Down, Step, Acknowledgement}
use Rattle.tds_world.specs.Lawful.{Lawful}
use Rattle.tds_world.specs.Phase.{Phase, Settled, Asked, Sending, Reading, Cancelling, phase_in, phase_of, phase_by}
use Rattle.tds_world.specs.Record.{Record, Out, NotBegun, Begun, Whole, gives, acknowledges, when, if_numbered, Fate, Open, Finished, Cancelled, Acknowledged, stepped}
use Rattle.tds_world.proofs.flow.Flow.{EndsInAttention, StepsAndDue, OnlySteps, EndsInAcknowledgement, FlowIn, number_in}

ends_in_ack : (r q id : ℕ) (changes : List EnvChange) (downs : List Down) → q ≡ r → OnlySteps r downs → EndsInAcknowledgement r (downs ++ Acknowledgement q id changes ∷ [])
ends_in_ack r q id changes [] e h = (e, refl)
ends_in_ack r q id changes (Step p i s ∷ es) e h = (h.0, ends_in_ack r q id changes es e h.1)
ends_in_ack r q id changes (Acknowledgement p i others ∷ es) e h = absurd h

steps_due : (r : ℕ) (downs : List Down) (due : List answer.Step) → EndsOnce due → downs ≡ [] → StepsAndDue r downs due
steps_due r downs due h e = rw e h

no_steps : (r : ℕ) (downs : List Down) → downs ≡ [] → OnlySteps r downs
no_steps r downs e = rw e tt

attention_alone : (r : ℕ) (es : List Up) → es ≡ Attention r ∷ [] → EndsInAttention r es
attention_alone r es e = rw e (refl, refl)

pub up_arrives : (ans : Answers) (c : Connection) (s : Phase) (r : ℕ) (e : Up) (es : List Up) → Lawful ans → FlowIn s r c.answering (e ∷ es) c.to_client.waiting c.parts c.due → FlowIn s r (server_acts ans c e).answering es (server_acts ans c e).to_client.waiting (server_acts ans c e).parts (server_acts ans c e).due
up_arrives ans c Settled r e es w f = let h : e ∷ es ≡ [] = f.0 in absurd (cc)
up_arrives ans c Asked r e es w f = let h : e ∷ es ≡ [] = f.0 in absurd (cc)
up_arrives ans c Sending r (Part q p) es w f = (f.0.1, f.1, f.2)
up_arrives ans c Sending r (End q a p) es w f = absurd f.0
up_arrives ans c Sending r (Drop q p) es w f = absurd f.0
up_arrives ans c Sending r (Attention q) es w f = absurd f.0
up_arrives ans c Reading r (Part q p) es w f = elim f [
  | inl h ↦ inl (h.0.1, h.1, h.2)
  | inr h ↦ let z : Part q p ∷ es ≡ [] = h.0 in absurd (cc)
]
up_arrives ans c Reading r (End q a p) es w f = elim f [
  | inl h ↦ inr (h.0.1, refl, h.0.0, steps_due r c.to_client.waiting (ans c.session a.descriptor a.mark a.request) (w.ends c.session a.descriptor a.mark a.request) h.1)
  | inr h ↦ let z : End q a p ∷ es ≡ [] = h.0 in absurd (cc)
]
up_arrives ans c Reading r (Drop q p) es w f = elim f [
  | inl h ↦ absurd h.0
  | inr h ↦ let z : Drop q p ∷ es ≡ [] = h.0 in absurd (cc)
]
up_arrives ans c Reading r (Attention q) es w f = elim f [
  | inl h ↦ absurd h.0
  | inr h ↦ let z : Attention q ∷ es ≡ [] = h.0 in absurd (cc)
]
up_arrives ans c Cancelling r (Part q p) es w f = elim f [
  | inl h ↦ inl (h.0.1, h.1, h.2)
  | inr k ↦ elim k [
    | inl h ↦ let z : Part q p ∷ es ≡ Attention r ∷ [] = h.0 in absurd (cc)
    | inr h ↦ let z : Part q p ∷ es ≡ [] = h.0 in absurd (cc)
  ]
]
up_arrives ans c Cancelling r (End q a p) es w f = elim f [
  | inl h ↦ inr (inl (h.0.1, h.0.0, no_steps r c.to_client.waiting h.1))
  | inr k ↦ elim k [
    | inl h ↦ let z : End q a p ∷ es ≡ Attention r ∷ [] = h.0 in absurd (cc)
    | inr h ↦ let z : End q a p ∷ es ≡ [] = h.0 in absurd (cc)
  ]
]
up_arrives ans c Cancelling r (Drop q p) es w f = elim f [
  | inl h ↦ inl (attention_alone r es h.0.1, h.1, h.2)
  | inr k ↦ elim k [
    | inl h ↦ let z : Drop q p ∷ es ≡ Attention r ∷ [] = h.0 in absurd (cc)
    | inr h ↦ let z : Drop q p ∷ es ≡ [] = h.0 in absurd (cc)
  ]
]
up_arrives ans c Cancelling r (Attention q) es w f = elim f [
  | inl h ↦ inr (inr (h.0.1, refl, refl, ends_in_ack r q _ _ c.to_client.waiting h.0.0 (no_steps r c.to_client.waiting h.1)))
  | inr k ↦ elim k [
    | inl h ↦ let z : Attention q ∷ es ≡ Attention r ∷ [] = h.0 in inr (inr (let a : es ≡ [] = cc in a, refl, refl, ends_in_ack r q _ _ c.to_client.waiting (let a : q ≡ r = cc in a) h.2))
    | inr h ↦ let z : Attention q ∷ es ≡ [] = h.0 in absurd (cc)
  ]
]

-- a step of the newest request arrives
step_bits : (fate : Fate) (out : Out) (last : Bool) (r a q id : ℕ) (s : answer.Step) (ups : List Up) (es : List Down) (parts : List ℕ) (due : List answer.Step) → s.last ≡ last → FlowIn (phase_by fate out) r a ups (Step q id s ∷ es) parts due → (q ≡ r) × FlowIn (phase_by (stepped last fate) out) r a ups es parts due
step_bits Finished out last r a q id s ups es parts due e f = let z : Step q id s ∷ es ≡ [] = f.1 in absurd (cc)
step_bits Acknowledged out last r a q id s ups es parts due e f = let z : Step q id s ∷ es ≡ [] = f.1 in absurd (cc)
step_bits Cancelled NotBegun last r a q id s ups es parts due e f = let z : Step q id s ∷ es ≡ [] = f.1 in absurd (cc)
step_bits Cancelled (Begun n) last r a q id s ups es parts due e f = elim f [
  | inl h ↦ let z : Step q id s ∷ es ≡ [] = h.1 in absurd (cc)
  | inr k ↦ elim k [
    | inl h ↦ (h.2.0, inr (inl (h.0, h.1, h.2.1)))
    | inr h ↦ (h.3.0, inr (inr (h.0, h.1, h.2, h.3.1)))
  ]
]
step_bits Cancelled (Whole n) last r a q id s ups es parts due e f = elim f [
  | inl h ↦ let z : Step q id s ∷ es ≡ [] = h.1 in absurd (cc)
  | inr k ↦ elim k [
    | inl h ↦ (h.2.0, inr (inl (h.0, h.1, h.2.1)))
    | inr h ↦ (h.3.0, inr (inr (h.0, h.1, h.2, h.3.1)))
  ]
]
step_bits Open (Whole n) true r a q id s ups es parts due e f = elim f [
  | inl h ↦ let z : Step q id s ∷ es ≡ [] = h.1 in absurd (cc)
  | inr h ↦ (h.3.0, (h.0, (h.3.1 e).0, h.1, (h.3.1 e).1))
]
step_bits Open (Whole n) false r a q id s ups es parts due e f = elim f [
  | inl h ↦ let z : Step q id s ∷ es ≡ [] = h.1 in absurd (cc)
  | inr h ↦ (h.3.0, inr (h.0, h.1, h.2, h.3.2 e))
]
step_bits Open (Begun n) last r a q id s ups es parts due e f = let z : Step q id s ∷ es ≡ [] = f.1 in absurd (cc)
step_bits Open NotBegun last r a q id s ups es parts due e f = let z : Step q id s ∷ es ≡ [] = f.1 in absurd (cc)

-- its acknowledgement arrives
ack_bits : (fate : Fate) (out : Out) (r a q id : ℕ) (changes : List EnvChange) (ups : List Up) (es : List Down) (parts : List ℕ) (due : List answer.Step) → FlowIn (phase_by fate out) r a ups (Acknowledgement q id changes ∷ es) parts due → (q ≡ r) × FlowIn (phase_by Acknowledged out) r a ups es parts due
ack_bits Finished out r a q id changes ups es parts due f = let z : Acknowledgement q id changes ∷ es ≡ [] = f.1 in absurd (cc)
ack_bits Acknowledged out r a q id changes ups es parts due f = let z : Acknowledgement q id changes ∷ es ≡ [] = f.1 in absurd (cc)
ack_bits Cancelled NotBegun r a q id changes ups es parts due f = let z : Acknowledgement q id changes ∷ es ≡ [] = f.1 in absurd (cc)
ack_bits Cancelled (Begun n) r a q id changes ups es parts due f = elim f [
  | inl h ↦ let z : Acknowledgement q id changes ∷ es ≡ [] = h.1 in absurd (cc)
  | inr k ↦ elim k [
    | inl h ↦ absurd h.2
    | inr h ↦ (h.3.0, (h.0, h.3.1, h.1, h.2))
  ]
]
ack_bits Cancelled (Whole n) r a q id changes ups es parts due f = elim f [
  | inl h ↦ let z : Acknowledgement q id changes ∷ es ≡ [] = h.1 in absurd (cc)
  | inr k ↦ elim k [
    | inl h ↦ absurd h.2
    | inr h ↦ (h.3.0, (h.0, h.3.1, h.1, h.2))
  ]
]
ack_bits Open (Whole n) r a q id changes ups es parts due f = elim f [
  | inl h ↦ let z : Acknowledgement q id changes ∷ es ≡ [] = h.1 in absurd (cc)
  | inr h ↦ absurd h.3
]
ack_bits Open (Begun n) r a q id changes ups es parts due f = let z : Acknowledgement q id changes ∷ es ≡ [] = f.1 in absurd (cc)
ack_bits Open NotBegun r a q id changes ups es parts due f = let z : Acknowledgement q id changes ∷ es ≡ [] = f.1 in absurd (cc)

pub same_number : (q r : ℕ) → q ≡ r → eqb r q ≡ true
same_number q r e = grind (arith, nat_tests)

-- of the record that has the number, what holds of the changed one
pub of_changed : (P : Record → Type 0) (b : Bool) (f : Record → Record) (p : Record) → b ≡ true → P (f p) → P (when b f p)
of_changed P b f p e h = subst (λ x. P (when x f p)) (sym e) h

pub step_arrives : (cur : Option Record) (a q id : ℕ) (s : answer.Step) (ups : List Up) (es : List Down) (parts : List ℕ) (due : List answer.Step) → FlowIn (phase_in cur) (number_in cur) a ups (Step q id s ∷ es) parts due → FlowIn (phase_in (option_map (if_numbered q (gives s)) cur)) (number_in (option_map (if_numbered q (gives s)) cur)) a ups es parts due
step_arrives None a q id s ups es parts due f = let z : Step q id s ∷ es ≡ [] = f.1 in absurd (cc)
step_arrives (Some p) a q id s ups es parts due f =
    let k = step_bits p.fate p.out s.last p.number a q id s ups es parts due refl f in
    of_changed (λ x. FlowIn (phase_of x) x.number a ups es parts due) (eqb p.number q) (gives s) p (same_number q p.number k.0) k.1

pub ack_arrives : (cur : Option Record) (a q id : ℕ) (changes : List EnvChange) (ups : List Up) (es : List Down) (parts : List ℕ) (due : List answer.Step) → FlowIn (phase_in cur) (number_in cur) a ups (Acknowledgement q id changes ∷ es) parts due → FlowIn (phase_in (option_map (if_numbered q acknowledges) cur)) (number_in (option_map (if_numbered q acknowledges) cur)) a ups es parts due
ack_arrives None a q id changes ups es parts due f = let z : Acknowledgement q id changes ∷ es ≡ [] = f.1 in absurd (cc)
ack_arrives (Some p) a q id changes ups es parts due f =
    let k = ack_bits p.fate p.out p.number a q id changes ups es parts due f in
    of_changed (λ x. FlowIn (phase_of x) x.number a ups es parts due) (eqb p.number q) acknowledges p (same_number q p.number k.0) k.1

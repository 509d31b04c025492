-- A cancel keeps the invariant.
use Rattle.std.proofs.Common.{◌≡◌, ℕ, List, [], ◌∷◌, ◌++◌, inl, inr, Bool, true, false, refl, ap}
use Rattle.tds_session.specs.Answer as answer
use Rattle.tds_world.specs.Entries.{Up, Part, End, Drop, Attention, Down, Step, Acknowledgement, Packet}
use Rattle.tds_world.specs.Phase.{Phase, Settled, Asked, Sending, Reading, Cancelling, phase_of, phase_by}
use Rattle.tds_world.specs.Record.{Record, Out, Fate, Cancelled}
use Rattle.tds_world.specs.Connection.{Connection}
use Rattle.tds_world.specs.Caller.{cancels_by}
use Rattle.tds_world.proofs.flow.Flow.{OnlyParts, EndsInEnd, EndsInAttention, StepsAndDue, OnlySteps, FlowIn, Sound}
use Rattle.tds_world.proofs.flow.Fates.{when_asked, when_sending, when_reading}

drop_after_parts : (r : ℕ) (ups : List Up) (p : Packet) → OnlyParts r ups → EndsInAttention r ((ups ++ Drop r p ∷ []) ++ Attention r ∷ [])
drop_after_parts r [] p h = (refl, refl)
drop_after_parts r (Part q b ∷ es) p h = (h.0, drop_after_parts r es p h.1)
drop_after_parts r (End q a b ∷ es) p h = absurd h
drop_after_parts r (Drop q b ∷ es) p h = absurd h
drop_after_parts r (Attention q ∷ es) p h = absurd h

attention_after_end : (r : ℕ) (ups : List Up) → EndsInEnd r ups → EndsInAttention r (ups ++ Attention r ∷ [])
attention_after_end r [] h = absurd h
attention_after_end r (Part q b ∷ es) h = (h.0, attention_after_end r es h.1)
attention_after_end r (End q a b ∷ es) h = (h.0, ap (λ (xs : List Up). xs ++ Attention r ∷ []) h.1)
attention_after_end r (Drop q b ∷ es) h = absurd h
attention_after_end r (Attention q ∷ es) h = absurd h

rest_by : (r : ℕ) (last : Bool) (es : List Down) (due : List answer.Step) → (last ≡ true → (es ≡ []) × (due ≡ [])) → (last ≡ false → OnlySteps r es) → OnlySteps r es
rest_by r true es due p q = rw (p refl).0 tt
rest_by r false es due p q = q refl

pub only_steps : (r : ℕ) (downs : List Down) (due : List answer.Step) → StepsAndDue r downs due → OnlySteps r downs
only_steps r [] due h = tt
only_steps r (Step q i s ∷ es) due h = (h.0, rest_by r s.last es due h.1 (λ t. only_steps r es due (h.2 t)))
only_steps r (Acknowledgement q i changes ∷ es) due h = absurd h

-- with no packet out
cancel_asked : (fate : Fate) (out : Out) (r a : ℕ) (ups : List Up) (downs : List Down) (parts : List ℕ) (due : List answer.Step) → phase_by fate out ≡ Asked → FlowIn Asked r a ups downs parts due → FlowIn (phase_by Cancelled out) r a ups downs parts due
cancel_asked fate out r a ups downs parts due e f = when_asked (λ x o. FlowIn (phase_by Cancelled o) r a ups downs parts due) f fate out e

-- with some packets out
cancel_sending : (fate : Fate) (out : Out) (r a : ℕ) (p : Packet) (ups : List Up) (downs : List Down) (parts : List ℕ) (due : List answer.Step) → phase_by fate out ≡ Sending → FlowIn Sending r a ups downs parts due → FlowIn (phase_by Cancelled out) r a ((ups ++ Drop r p ∷ []) ++ Attention r ∷ []) downs parts due
cancel_sending fate out r a p ups downs parts due e f =
    when_sending (λ x o. FlowIn (phase_by Cancelled o) r a ((ups ++ Drop r p ∷ []) ++ Attention r ∷ []) downs parts due)
    (λ n. inl (drop_after_parts r ups p f.0, f.1, f.2)) fate out e

-- with all packets out
cancel_reading : (fate : Fate) (out : Out) (r a : ℕ) (ups : List Up) (downs : List Down) (parts : List ℕ) (due : List answer.Step) → phase_by fate out ≡ Reading → FlowIn Reading r a ups downs parts due → FlowIn (phase_by Cancelled out) r a (ups ++ Attention r ∷ []) downs parts due
cancel_reading fate out r a ups downs parts due e f =
    when_reading (λ x o. FlowIn (phase_by Cancelled o) r a (ups ++ Attention r ∷ []) downs parts due) (λ n. elim f [
      | inl h ↦ inl (attention_after_end r ups h.0, h.1, h.2)
      | inr h ↦ inr (inl (ap (λ (xs : List Up). xs ++ Attention r ∷ []) h.0, h.2, only_steps r downs due h.3))
    ]) fate out e

pub by_phase : (p : Phase) (q : Record) (c : Connection) → phase_of q ≡ p → FlowIn p q.number c.answering c.to_server.waiting c.to_client.waiting c.parts c.due → Sound c → Sound (cancels_by p q c)
by_phase Settled q c e g f = f
by_phase Cancelling q c e g f = f
by_phase Asked q c e g f = (cancel_asked q.fate q.out q.number c.answering c.to_server.waiting c.to_client.waiting c.parts c.due e g, f.1)
by_phase Sending q c e g f = (cancel_sending q.fate q.out q.number c.answering _ c.to_server.waiting c.to_client.waiting c.parts c.due e g, f.1)
by_phase Reading q c e g f = (cancel_reading q.fate q.out q.number c.answering c.to_server.waiting c.to_client.waiting c.parts c.due e g, f.1)

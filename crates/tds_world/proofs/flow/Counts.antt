-- Each attention that arrived was acknowledged, and at most one is on its way.
use Rattle.std.proofs.Common.{◌≡◌, ◌≤◌, ◌+◌, ◌-◌, ℕ, List, [], ◌∷◌, ◌++◌, Bool, true, false, refl, ap, Some, arith, inl, inr}
use Rattle.tds_session.specs.Answer as answer
use Rattle.tds_session.specs.Answer.{Answers}
use Rattle.tds_world.specs.declared.event.Setup.{Setup}
use Rattle.tds_world.specs.Arrivals.{server_acts, client_acts, works_on}
use Rattle.tds_world.specs.Bounds.{attention_count, acknowledgement_count, HasOneAttention, OneAttention}
use Rattle.tds_world.specs.Caller.{cancels_by, sends_by, sends_last}
use Rattle.tds_world.specs.Connection.{Connection, phase}
use Rattle.tds_world.specs.Entries.{Up, Part, End, Drop, Attention, Down, Step, Acknowledgement}
use Rattle.tds_world.specs.Events.{world_after}
use Rattle.tds_world.specs.Lane.{passed}
use Rattle.tds_world.specs.Lawful.{Lawful}
use Rattle.tds_world.specs.Laws.{Always}
use Rattle.tds_world.specs.Phase.{Phase, Settled, Asked, Sending, Reading, Cancelling, phase_of}
use Rattle.tds_world.specs.Record.{Record}
use Rattle.tds_world.specs.World.{new_world}
use Rattle.tds_world.proofs.events.Moves.{KeptByMoves, by_moves}
use Rattle.tds_world.proofs.events.Worlds.{always, each_both, each_follows}
use Rattle.tds_world.proofs.flow.Cancels.{only_steps}
use Rattle.tds_world.proofs.flow.Flow.{OnlyParts, EndsInEnd, EndsInAttention, OnlySteps, EndsInAcknowledgement, FlowIn, number_in, Sound}
use Rattle.tds_world.proofs.flow.Sound.{sound_kept}
use Rattle.tds_world.proofs.flow.Fates.{is_sending}

attentions_append : (xs ys : List Up) → attention_count (xs ++ ys) ≡ attention_count xs + attention_count ys
attentions_append [] ys = omega arith
attentions_append (Part r p ∷ xs) ys = attentions_append xs ys
attentions_append (End r a p ∷ xs) ys = attentions_append xs ys
attentions_append (Drop r p ∷ xs) ys = attentions_append xs ys
attentions_append (Attention r ∷ xs) ys =
    let more : attention_count (xs ++ ys) ≡ attention_count xs + attention_count ys = attentions_append xs ys in omega arith

acknowledgements_append : (xs ys : List Down) → acknowledgement_count (xs ++ ys) ≡ acknowledgement_count xs + acknowledgement_count ys
acknowledgements_append [] ys = omega arith
acknowledgements_append (Step r place s ∷ xs) ys = acknowledgements_append xs ys
acknowledgements_append (Acknowledgement r place changes ∷ xs) ys =
    let more : acknowledgement_count (xs ++ ys) ≡ acknowledgement_count xs + acknowledgement_count ys = acknowledgements_append xs ys in omega arith

-- Each arrived attention has its acknowledgement, arrived or among these.
abbrev CountedWith : Connection → List Down → Type 0
CountedWith c downs = attention_count c.to_server.arrived ≡ acknowledgement_count c.to_client.arrived + acknowledgement_count downs

abbrev Counted : Connection → Type 0
Counted c = CountedWith c c.to_client.waiting

server_counts : (answers : Answers) (c : Connection) (e : Up) → Counted c → Counted (server_acts answers (record c { to_server = passed e c.to_server }) e)
server_counts answers c (Part r p) h = rw (attentions_append c.to_server.arrived (Part r p ∷ [])) (omega arith)
server_counts answers c (End r a p) h = rw (attentions_append c.to_server.arrived (End r a p ∷ [])) (omega arith)
server_counts answers c (Drop r p) h = rw (attentions_append c.to_server.arrived (Drop r p ∷ [])) (omega arith)
server_counts answers c (Attention r) h =
    let up : attention_count (c.to_server.arrived ++ Attention r ∷ []) ≡ attention_count c.to_server.arrived + 1 = attentions_append c.to_server.arrived (Attention r ∷ []) in
    rw (up, acknowledgements_append c.to_client.waiting _) (omega arith)

client_counts : (c : Connection) (e : Down) (es : List Down) → CountedWith c (e ∷ es) → CountedWith (client_acts (record c { to_client = passed e c.to_client }) e) es
client_counts c (Step r place s) es h = rw (acknowledgements_append c.to_client.arrived (Step r place s ∷ [])) (omega arith)
client_counts c (Acknowledgement r place changes) es h = rw (acknowledgements_append c.to_client.arrived (Acknowledgement r place changes ∷ [])) (omega arith)

works_count : (c : Connection) (due : List answer.Step) → Counted c → Counted (works_on c due)
works_count c [] h = h
works_count c (s ∷ ss) h = rw (acknowledgements_append c.to_client.waiting _) (omega arith)

cancels_count_by : (p : Phase) (q : Record) (c : Connection) → Counted c → Counted (cancels_by p q c)
cancels_count_by Settled q c h = h
cancels_count_by p q c h = h

sends_count : (setup : Setup) (last : Bool) (q : Record) (c : Connection) → c.current ≡ Some q → is_sending (phase_of q) ≡ true → sends_last (setup.packet_size - 8) q ≡ last → Counted c → Counted (sends_by last (setup.packet_size - 8) q c)
sends_count setup true q c is at l h = h
sends_count setup false q c is at l h = h

counted_kept : (setup : Setup) (answers : Answers) → KeptByMoves setup answers (λ c ups downs. CountedWith c downs)
counted_kept setup answers = record {
  opened = λ lease. refl;
  stands = λ c m s h. h;
  asked = λ number lease n q c x is f h. h;
  sent = λ last q c is at l f h. sends_count setup last q c is at l h;
  cancelled = λ p q c is at f h. cancels_count_by p q c h;
  worked = λ c s ss is f h. works_count c (s ∷ ss) h;
  at_server = λ c e es f h. server_counts answers c e h;
  at_client = λ c e es f h. client_counts c e es h;
  server_waits = λ c es k m h. h;
  client_waits = λ c es k m h. h;
}

-- ---- What waits: no attention, or one and no acknowledgement

parts_alone : (r : ℕ) (es : List Up) → OnlyParts r es → attention_count es ≡ 0
parts_alone r [] h = refl
parts_alone r (Part q p ∷ es) h = parts_alone r es h.1
parts_alone r (End q a p ∷ es) h = absurd h
parts_alone r (Drop q p ∷ es) h = absurd h
parts_alone r (Attention q ∷ es) h = absurd h

end_alone : (r : ℕ) (es : List Up) → EndsInEnd r es → attention_count es ≡ 0
end_alone r [] h = absurd h
end_alone r (Part q p ∷ es) h = end_alone r es h.1
end_alone r (End q a p ∷ es) h = ap attention_count h.1
end_alone r (Drop q p ∷ es) h = absurd h
end_alone r (Attention q ∷ es) h = absurd h

one_attention_waits : (r : ℕ) (es : List Up) → EndsInAttention r es → attention_count es ≡ 1
one_attention_waits r [] h = absurd h
one_attention_waits r (Part q p ∷ es) h = one_attention_waits r es h.1
one_attention_waits r (End q a p ∷ es) h = ap attention_count h.1
one_attention_waits r (Drop q p ∷ es) h = ap attention_count h.1
one_attention_waits r (Attention q ∷ es) h = let none : attention_count es ≡ 0 = ap attention_count h.1 in omega arith

steps_alone : (r : ℕ) (es : List Down) → OnlySteps r es → acknowledgement_count es ≡ 0
steps_alone r [] h = refl
steps_alone r (Step q place s ∷ es) h = steps_alone r es h.1
steps_alone r (Acknowledgement q place changes ∷ es) h = absurd h

one_acknowledgement_waits : (r : ℕ) (es : List Down) → EndsInAcknowledgement r es → acknowledgement_count es ≡ 1
one_acknowledgement_waits r [] h = absurd h
one_acknowledgement_waits r (Step q place s ∷ es) h = one_acknowledgement_waits r es h.1
one_acknowledgement_waits r (Acknowledgement q place changes ∷ es) h = let none : acknowledgement_count es ≡ 0 = ap acknowledgement_count h.1 in omega arith

none_wait : (es : List Up) → es ≡ [] → attention_count es ≡ 0
none_wait es e = ap attention_count e

no_downs : (es : List Down) → es ≡ [] → acknowledgement_count es ≡ 0
no_downs es e = ap acknowledgement_count e

-- At most one of both waits.
pub at_most_one : (p : Phase) (r a : ℕ) (ups : List Up) (downs : List Down) (parts : List ℕ) (due : List answer.Step) → FlowIn p r a ups downs parts due → attention_count ups + acknowledgement_count downs ≤ 1
at_most_one Settled r a ups downs parts due f = rw (none_wait ups f.0, no_downs downs f.1) (omega arith)
at_most_one Asked r a ups downs parts due f = rw (none_wait ups f.0, no_downs downs f.1) (omega arith)
at_most_one Sending r a ups downs parts due f = rw (parts_alone r ups f.0, no_downs downs f.1) (omega arith)
at_most_one Reading r a ups downs parts due f = elim f [
  | inl h ↦ rw (end_alone r ups h.0, no_downs downs h.1) (omega arith)
  | inr h ↦ rw (none_wait ups h.0, steps_alone r downs (only_steps r downs due h.3)) (omega arith)
]
at_most_one Cancelling r a ups downs parts due f = elim f [
  | inl h ↦ rw (one_attention_waits r ups h.0, no_downs downs h.1) (omega arith)
  | inr k ↦ elim k [
    | inl h ↦ rw (ap attention_count h.0, steps_alone r downs h.2) (omega arith)
    | inr h ↦ rw (none_wait ups h.0, one_acknowledgement_waits r downs h.3) (omega arith)
  ]
]

sound_has_one : (c : Connection) → Sound c × Counted c → HasOneAttention c
sound_has_one c f =
    let one : attention_count c.to_server.waiting + acknowledgement_count c.to_client.waiting ≤ 1 =
    at_most_one (phase c) (number_in c.current) c.answering c.to_server.waiting c.to_client.waiting c.parts c.due f.0.0 in
    let all : attention_count c.to_server.arrived ≡ acknowledgement_count c.to_client.arrived + acknowledgement_count c.to_client.waiting = f.1 in
    rw (attentions_append c.to_server.arrived c.to_server.waiting) (omega arith)

pub one_attention : (setup : Setup) (answers : Answers) → Lawful answers → Always setup answers OneAttention
one_attention setup answers l events =
    each_follows (λ c. Sound c × Counted c) HasOneAttention (world_after setup answers events new_world).connections sound_has_one
    (each_both Sound Counted (world_after setup answers events new_world).connections
    (always Sound setup answers events (sound_kept setup answers l))
    (always Counted setup answers events (by_moves setup answers (λ c ups downs. CountedWith c downs) (counted_kept setup answers))))

-- What each act on a connection keeps: the flow, and the descriptor heard.
use Rattle.std.proofs.Common.{◌≡◌, ℕ, List, [], ◌∷◌, ◌++◌, inl, inr, Bool, true, false, refl, subst, Option, Some, None, option_map, eqb}
use Rattle.tds_session.specs.Answer as answer
use Rattle.tds_session.specs.Answer.{Answers, EndsOnce}
use Rattle.tds_request.specs.declared.request.Request.{Request}
use Rattle.tds_world.specs.Arrivals.{server_acts, client_acts, works_on}
use Rattle.tds_world.specs.Caller.{asks, sends_by}
use Rattle.tds_world.specs.Connection.{Connection, phase, is_idle}
use Rattle.tds_world.specs.Entries.{Up, Part, End, Drop, Attention, Down, Step, Acknowledgement, Packet, Asking}
use Rattle.tds_world.specs.Lane.{passed}
use Rattle.tds_world.specs.Lawful.{Lawful, TellsChanges}
use Rattle.tds_world.specs.Phase.{Phase, Settled, Asked, Sending, Reading, Cancelling, phase_in, phase_of, phase_by, is_settled}
use Rattle.tds_world.specs.Record.{Record, Out, Begun, Whole, runs, when, if_numbered, Fate}
use Rattle.tds_world.proofs.flow.Arrivals.{up_arrives, step_arrives, ack_arrives}
use Rattle.tds_world.proofs.flow.Flow.{OnlyParts, EndsInEnd, StepsAndDue, OnlySteps, Quiet, FlowIn, number_in, SoundWith, Sound}
use Rattle.tds_world.proofs.flow.Heard.{server_heard, client_heard, hears_step}
use Rattle.tds_world.proofs.flow.Fates.{is_sending, when_going}

pub up_act : (ans : Answers) (c : Connection) (e : Up) (es : List Up) → Lawful ans → SoundWith c (e ∷ es) c.to_client.waiting → SoundWith (server_acts ans (record c { to_server = passed e c.to_server }) e) es (server_acts ans (record c { to_server = passed e c.to_server }) e).to_client.waiting
up_act ans c (Part q p) es w f = (up_arrives ans c (phase c) (number_in c.current) (Part q p) es w f.0, server_heard ans c (Part q p) w f.1)
up_act ans c (End q a p) es w f = (up_arrives ans c (phase c) (number_in c.current) (End q a p) es w f.0, server_heard ans c (End q a p) w f.1)
up_act ans c (Drop q p) es w f = (up_arrives ans c (phase c) (number_in c.current) (Drop q p) es w f.0, server_heard ans c (Drop q p) w f.1)
up_act ans c (Attention q) es w f = (up_arrives ans c (phase c) (number_in c.current) (Attention q) es w f.0, server_heard ans c (Attention q) w f.1)

down_act : (c : Connection) (e : Down) (es : List Down) → SoundWith c c.to_server.waiting (e ∷ es) → SoundWith (client_acts (record c { to_client = passed e c.to_client }) e) c.to_server.waiting es
down_act c (Step q id s) es f = (step_arrives c.current c.answering q id s c.to_server.waiting es c.parts c.due f.0, client_heard c (Step q id s) es f.1)
down_act c (Acknowledgement q id changes) es f = (ack_arrives c.current c.answering q id changes c.to_server.waiting es c.parts c.due f.0, client_heard c (Acknowledgement q id changes) es f.1)

-- what is to the server stays as it is
pub down_act_at : (c : Connection) (e : Down) (es : List Down) → SoundWith c c.to_server.waiting (e ∷ es) → SoundWith (client_acts (record c { to_client = passed e c.to_client }) e) (client_acts (record c { to_client = passed e c.to_client }) e).to_server.waiting es
down_act_at c (Step q id s) es f = down_act c (Step q id s) es f
down_act_at c (Acknowledgement q id changes) es f = down_act c (Acknowledgement q id changes) es f

-- only the last step is marked so
ends_first : (s : answer.Step) (ss : List answer.Step) → EndsOnce (s ∷ ss) → (s.last ≡ true → ss ≡ []) × (s.last ≡ false → EndsOnce ss)
ends_first s [] h = (λ t. refl, λ e. absurd (cc))
ends_first s (t ∷ ts) h = (λ e. absurd (cc), λ e. h.1)

-- the next step goes out
steps_more : (r a id : ℕ) (downs : List Down) (s : answer.Step) (ss : List answer.Step) → a ≡ r → StepsAndDue r downs (s ∷ ss) → StepsAndDue r (downs ++ Step a id s ∷ []) ss
steps_more r a id [] s ss e h = (e, λ t. (refl, (ends_first s ss h).0 t), λ t. (ends_first s ss h).1 t)
steps_more r a id (Step q i t ∷ es) s ss e h = (h.0, λ l. let z : s ∷ ss ≡ [] = (h.1 l).1 in absurd (cc), λ l. steps_more r a id es s ss e (h.2 l))
steps_more r a id (Acknowledgement q i changes ∷ es) s ss e h = absurd h

only_steps_more : (r a id : ℕ) (downs : List Down) (s : answer.Step) → a ≡ r → OnlySteps r downs → OnlySteps r (downs ++ Step a id s ∷ [])
only_steps_more r a id [] s e h = (e, tt)
only_steps_more r a id (Step q i t ∷ es) s e h = (h.0, only_steps_more r a id es s e h.1)
only_steps_more r a id (Acknowledgement q i changes ∷ es) s e h = absurd h

work_fits : (p : Phase) (r a id : ℕ) (ups : List Up) (downs : List Down) (parts : List ℕ) (s : answer.Step) (ss : List answer.Step) → FlowIn p r a ups downs parts (s ∷ ss) → FlowIn p r a ups (downs ++ Step a id s ∷ []) parts ss
work_fits Settled r a id ups downs parts s ss f = let z : s ∷ ss ≡ [] = f.3 in absurd (cc)
work_fits Asked r a id ups downs parts s ss f = let z : s ∷ ss ≡ [] = f.3 in absurd (cc)
work_fits Sending r a id ups downs parts s ss f = let z : s ∷ ss ≡ [] = f.2 in absurd (cc)
work_fits Reading r a id ups downs parts s ss f = elim f [
  | inl h ↦ let z : s ∷ ss ≡ [] = h.2 in absurd (cc)
  | inr h ↦ inr (h.0, h.1, h.2, steps_more r a id downs s ss h.2 h.3)
]
work_fits Cancelling r a id ups downs parts s ss f = elim f [
  | inl h ↦ let z : s ∷ ss ≡ [] = h.2 in absurd (cc)
  | inr k ↦ elim k [
    | inl h ↦ inr (inl (h.0, h.1, only_steps_more r a id downs s h.1 h.2))
    | inr h ↦ let z : s ∷ ss ≡ [] = h.2 in absurd (cc)
  ]
]

-- the session that a request ran in doesn't change where it is
any_change : (P : Record → Type 0) (b : Bool) (f : Record → Record) (p : Record) → P (f p) → P p → P (when b f p)
any_change P true f p h g = h
any_change P false f p h g = g

runs_fits : (cur : Option Record) (k : ℕ) (s : answer.Step) (a : ℕ) (ups : List Up) (downs : List Down) (parts : List ℕ) (due : List answer.Step) (f : Record → Record) → ((p : Record) → FlowIn (phase_of p) p.number a ups downs parts due → FlowIn (phase_of (f p)) (f p).number a ups downs parts due) → FlowIn (phase_in cur) (number_in cur) a ups downs parts due → FlowIn (phase_in (option_map (if_numbered k f) cur)) (number_in (option_map (if_numbered k f) cur)) a ups downs parts due
runs_fits None k s a ups downs parts due f same h = h
runs_fits (Some p) k s a ups downs parts due f same h = any_change (λ x. FlowIn (phase_of x) x.number a ups downs parts due) (eqb p.number k) f p (same p h) h

pub works_keeps_on : (c : Connection) (due : List answer.Step) → c.due ≡ due → Sound c → Sound (works_on c due)
works_keeps_on c [] e f = f
works_keeps_on c (s ∷ ss) e f =
    let g : FlowIn (phase c) (number_in c.current) c.answering c.to_server.waiting c.to_client.waiting c.parts (s ∷ ss) = subst (λ d. FlowIn (phase c) (number_in c.current) c.answering c.to_server.waiting c.to_client.waiting c.parts d) e f.0 in
    let h : TellsChanges c.session (s ∷ ss) = subst (λ d. TellsChanges c.session d) e f.1.1 in (
      runs_fits c.current c.answering s c.answering c.to_server.waiting _ c.parts ss (runs c.session s) (λ p x. x) (work_fits (phase c) (number_in c.current) c.answering _ c.to_server.waiting c.to_client.waiting c.parts s ss g),
      (hears_step c.heard c.session.descriptor s.after.descriptor c.answering _ s c.to_client.waiting h.0 f.1.0, h.1),
    )

-- a new request
pub ask_fits : (p : Phase) (r a : ℕ) (ups : List Up) (downs : List Down) (parts : List ℕ) (due : List answer.Step) → is_settled p ≡ true → FlowIn p r a ups downs parts due → Quiet ups downs parts due
ask_fits Settled r a ups downs parts due e f = f
ask_fits p r a ups downs parts due e f = absurd (cc)

pub asks_keeps : (number lease n : ℕ) (q : Request) (c : Connection) → is_idle c ≡ true → Sound c → Sound (asks number lease n q c)
asks_keeps number lease n q c e f = (ask_fits (phase c) (number_in c.current) c.answering c.to_server.waiting c.to_client.waiting c.parts c.due e f.0, f.1)

-- a packet of the request goes out
parts_more : (r : ℕ) (ups : List Up) (p : Packet) → OnlyParts r ups → OnlyParts r (ups ++ Part r p ∷ [])
parts_more r [] p h = (refl, tt)
parts_more r (Part q b ∷ es) p h = (h.0, parts_more r es p h.1)
parts_more r (End q a b ∷ es) p h = absurd h
parts_more r (Drop q b ∷ es) p h = absurd h
parts_more r (Attention q ∷ es) p h = absurd h

end_more : (r : ℕ) (ups : List Up) (a : Asking) (p : Packet) → OnlyParts r ups → EndsInEnd r (ups ++ End r a p ∷ [])
end_more r [] a p h = (refl, refl)
end_more r (Part q b ∷ es) a p h = (h.0, end_more r es a p h.1)
end_more r (End q x b ∷ es) a p h = absurd h
end_more r (Drop q b ∷ es) a p h = absurd h
end_more r (Attention q ∷ es) a p h = absurd h

no_parts : (r : ℕ) (ups : List Up) → ups ≡ [] → OnlyParts r ups
no_parts r ups e = rw e tt

send_fits : (fate : Fate) (out : Out) (n r a : ℕ) (x : Asking) (p : Packet) (ups : List Up) (downs : List Down) (parts : List ℕ) (due : List answer.Step) → is_sending (phase_by fate out) ≡ true → FlowIn (phase_by fate out) r a ups downs parts due → FlowIn (phase_by fate (Begun n)) r a (ups ++ Part r p ∷ []) downs parts due × FlowIn (phase_by fate (Whole n)) r a (ups ++ End r x p ∷ []) downs parts due
send_fits fate out n r a x p ups downs parts due =
    when_going (λ y o. FlowIn (phase_by y o) r a ups downs parts due → FlowIn (phase_by y (Begun n)) r a (ups ++ Part r p ∷ []) downs parts due × FlowIn (phase_by y (Whole n)) r a (ups ++ End r x p ∷ []) downs parts due)
    (λ f. ((parts_more r ups p (no_parts r ups f.0), f.1, f.3), inl (end_more r ups x p (no_parts r ups f.0), f.1, f.3)))
    (λ m f. ((parts_more r ups p f.0, f.1, f.2), inl (end_more r ups x p f.0, f.1, f.2))) fate out

pub sends_keeps_by : (b : Bool) (room : ℕ) (q : Record) (c : Connection) → c.current ≡ Some q → is_sending (phase_of q) ≡ true → Sound c → Sound (sends_by b room q c)
sends_keeps_by true room q c e s f =
    let g : FlowIn (phase_of q) q.number c.answering c.to_server.waiting c.to_client.waiting c.parts c.due = subst (λ o. FlowIn (phase_in o) (number_in o) c.answering c.to_server.waiting c.to_client.waiting c.parts c.due) e f.0 in
    ((send_fits q.fate q.out _ q.number c.answering q.asking _ c.to_server.waiting c.to_client.waiting c.parts c.due s g).1, f.1)
sends_keeps_by false room q c e s f =
    let g : FlowIn (phase_of q) q.number c.answering c.to_server.waiting c.to_client.waiting c.parts c.due = subst (λ o. FlowIn (phase_in o) (number_in o) c.answering c.to_server.waiting c.to_client.waiting c.parts c.due) e f.0 in
    ((send_fits q.fate q.out _ q.number c.answering q.asking _ c.to_server.waiting c.to_client.waiting c.parts c.due s g).0, f.1)

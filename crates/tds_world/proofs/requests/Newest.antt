-- What waits for a client, and what is due, is the newest request's, and no older one changes by it.
use Rattle.std.proofs.Common.{◌≡◌, ◌<◌, ℕ, List, [], ◌∷◌, ◌-◌, ◌+◌, inl, inr, map, false, length, ltb, min, refl, sym, ap, subst, ◌∙◌, Option, Some, None, option_map}
use Rattle.std.specs.List.{AllByRecursion}
use Rattle.tds_session.specs.Answer as answer
use Rattle.tds_session.specs.Answer.{Answers}
use Rattle.tds_session.specs.Session.{SessionState}
use Rattle.tds_world.specs.declared.event.Setup.{Setup}
use Rattle.tds_world.specs.Arrivals.{client_acts, reach_client, works_on}
use Rattle.tds_world.specs.Connection.{Connection, phase, down_underway}
use Rattle.tds_world.specs.Entries.{Up, Down, Step, Acknowledgement, down_bytes}
use Rattle.tds_world.specs.Events.{world_after}
use Rattle.tds_world.specs.Lane.{passed, with_waiting}
use Rattle.tds_world.specs.Lawful.{Lawful}
use Rattle.tds_world.specs.Laws.{Always}
use Rattle.tds_world.specs.Newest.{request_of, IsOfNewest, HearsOfNewest, AnswersNewest, AreBefore, ActsOnNewest, ActOnNewest, WorksOnNewest, WorkOnNewest}
use Rattle.tds_world.specs.Phase.{Phase, Settled, Asked, Sending, Reading, Cancelling, phase_in, phase_of, is_settled}
use Rattle.tds_world.specs.Record.{Record, gives, acknowledges, runs, when, if_numbered}
use Rattle.tds_world.specs.World.{World, new_world}
use Rattle.tds_world.proofs.events.Noted.{always_in}
use Rattle.tds_world.proofs.events.Words.{either}
use Rattle.tds_world.proofs.events.Worlds.{each_follows}
use Rattle.tds_world.proofs.flow.Arrivals.{same_number}
use Rattle.tds_world.proofs.flow.Busy.{Answering, busy_down, busy_due}
use Rattle.tds_world.proofs.flow.Flow.{FlowIn, StepsAndDue, OnlySteps, EndsInAcknowledgement, number_in, Sound, SoundWith}
use Rattle.tds_world.proofs.flow.Keeps.{down_act_at}
use Rattle.tds_world.proofs.requests.Asking.{ByRan, Newest}
use Rattle.tds_world.proofs.requests.Cores.{core_of, past_of, newest_of, client_same}
use Rattle.tds_world.proofs.requests.Numbers.{NumbersOf, InOrder, in_order_kept, same_numbers, past_stays}
use Rattle.tds_world.proofs.requests.OwnTransactions.{WellMarked, marked_kept}
use Rattle.tds_world.proofs.requests.Runs.{first_step}

-- ---- The first entry that waits is the newest request's

not_none : {A : Type 0} (x : A) (xs : List A) → x ∷ xs ≡ [] → ⊥
not_none x xs e = absurd (cc)

due_of : (r : ℕ) (e : Down) (es : List Down) (due : List answer.Step) → StepsAndDue r (e ∷ es) due → request_of e ≡ r
due_of r (Step q i s) es due h = h.0
due_of r (Acknowledgement q i changes) es due h = absurd h

step_of : (r : ℕ) (e : Down) (es : List Down) → OnlySteps r (e ∷ es) → request_of e ≡ r
step_of r (Step q i s) es h = h.0
step_of r (Acknowledgement q i changes) es h = absurd h

acknowledged_of : (r : ℕ) (e : Down) (es : List Down) → EndsInAcknowledgement r (e ∷ es) → request_of e ≡ r
acknowledged_of r (Step q i s) es h = h.0
acknowledged_of r (Acknowledgement q i changes) es h = h.0

first_of : (p : Phase) (r a : ℕ) (ups : List Up) (e : Down) (es : List Down) (parts : List ℕ) (due : List answer.Step) → FlowIn p r a ups (e ∷ es) parts due → request_of e ≡ r
first_of Settled r a ups e es parts due f = absurd (not_none e es f.1)
first_of Asked r a ups e es parts due f = absurd (not_none e es f.1)
first_of Sending r a ups e es parts due f = absurd (not_none e es f.1)
first_of Reading r a ups e es parts due f = elim f [
  | inl h ↦ absurd (not_none e es h.1)
  | inr h ↦ due_of r e es due h.3
]
first_of Cancelling r a ups e es parts due f = elim f [
  | inl h ↦ absurd (not_none e es h.1)
  | inr k ↦ elim k [
    | inl h ↦ step_of r e es h.2
    | inr h ↦ acknowledged_of r e es h.3
  ]
]

-- Where somebody waits, there is a newest request.
of_newest : (c : Connection) (number : ℕ) (o : Option Record) → c.current ≡ o → is_settled (phase_in o) ≡ false → number ≡ number_in o → IsOfNewest c number
of_newest c number None e b n = absurd (cc)
of_newest c number (Some q) e b n = record { request = q; newest = e; same = n }

waits_for : (c : Connection) (e : Down) (es : List Down) → SoundWith c c.to_server.waiting (e ∷ es) → IsOfNewest c (request_of e)
waits_for c e es f =
    of_newest c (request_of e) c.current refl
    (busy_down (phase c) (number_in c.current) c.answering c.to_server.waiting e es c.parts c.due f.0)
    (first_of (phase c) (number_in c.current) c.answering c.to_server.waiting e es c.parts c.due f.0)

hears : (c : Connection) (es : List Down) → SoundWith c c.to_server.waiting es → HearsOfNewest c es
hears c [] f = tt
hears c (e ∷ es) f = (waits_for c e es f, hears (client_acts (record c { to_client = passed e c.to_client }) e) es (down_act_at c e es f))

pub answering : (c : Connection) (s : answer.Step) (ss : List answer.Step) → c.due ≡ s ∷ ss → Sound c → Answering (phase c) (number_in c.current) c.answering c.to_server.waiting
answering c s ss e f =
    busy_due (phase c) (number_in c.current) c.answering c.to_server.waiting c.to_client.waiting c.parts s ss
    (subst (λ d. FlowIn (phase c) (number_in c.current) c.answering c.to_server.waiting c.to_client.waiting c.parts d) e f.0)

answers_newest : (c : Connection) (due : List answer.Step) → c.due ≡ due → Sound c → AnswersNewest c due
answers_newest c [] e f = tt
answers_newest c (s ∷ ss) e f =
    let a : Answering (phase c) (number_in c.current) c.answering c.to_server.waiting = answering c s ss e f in
    of_newest c c.answering c.current refl a.busy a.number

-- ---- Older ones stay

pub before : (n : ℕ) (past : List Record) (o : Option Record) → NumbersOf n (map core_of past) (option_map core_of o) → AreBefore o past
before n past None h = tt
before n past (Some q) h = each past h.1
  where
    each : (ps : List Record) → AllByRecursion (λ p. p.number < q.number) (map core_of ps) → AllByRecursion (λ p. p.number < q.number) ps
    each [] k = tt
    each (p ∷ ps) k = (k.0, each ps k.1)

stay : (n r : ℕ) (f : Record → Record) (past : List Record) (o : Option Record) → is_settled (phase_in o) ≡ false → r ≡ number_in o → NumbersOf n (map core_of past) (option_map core_of o) → map (if_numbered r f) past ≡ past
stay n r f past None b e h = absurd (cc)
stay n r f past (Some q) b e h = subst (λ x. map (if_numbered x f) past ≡ past) (sym e) (past_stays q.number f past h.1)

pub client_past : (n : ℕ) (c : Connection) (e : Down) (es : List Down) → SoundWith c c.to_server.waiting (e ∷ es) → NumbersOf n (past_of c) (newest_of c) → (client_acts (record c { to_client = passed e c.to_client }) e).past ≡ c.past
client_past n c (Step r i s) es f h =
    stay n r (gives s) c.past c.current
    (busy_down (phase c) (number_in c.current) c.answering c.to_server.waiting (Step r i s) es c.parts c.due f.0)
    (first_of (phase c) (number_in c.current) c.answering c.to_server.waiting (Step r i s) es c.parts c.due f.0) h
client_past n c (Acknowledgement r i changes) es f h =
    stay n r acknowledges c.past c.current
    (busy_down (phase c) (number_in c.current) c.answering c.to_server.waiting (Acknowledgement r i changes) es c.parts c.due f.0)
    (first_of (phase c) (number_in c.current) c.answering c.to_server.waiting (Acknowledgement r i changes) es c.parts c.due f.0) h

reach_client_past : (n : ℕ) (c : Connection) (es : List Down) (k : ℕ) → SoundWith c c.to_server.waiting es → NumbersOf n (past_of c) (newest_of c) → (reach_client c es k).past ≡ c.past
reach_client_past n c [] k f h = refl
reach_client_past n c (e ∷ es) k f h =
    let d : Connection = client_acts (record c { to_client = passed e c.to_client }) e in
    either (λ x. x.past ≡ c.past) (ltb k (length (down_bytes e))) (record c { to_client = with_waiting (e ∷ es) k c.to_client }) (reach_client d es (k - length (down_bytes e))) refl
    (reach_client_past n d es (k - length (down_bytes e)) (down_act_at c e es f) (same_numbers n c d (client_same c e) h) ∙ client_past n c e es f h)

works_past : (n : ℕ) (c : Connection) (due : List answer.Step) → c.due ≡ due → Sound c → NumbersOf n (past_of c) (newest_of c) → (works_on c due).past ≡ c.past
works_past n c [] e f h = refl
works_past n c (s ∷ ss) e f h =
    let a : Answering (phase c) (number_in c.current) c.answering c.to_server.waiting = answering c s ss e f in
    stay n c.answering (runs c.session s) c.past c.current a.busy a.number h

-- ---- The law

acts_on_newest : (w : World) (c : Connection) → InOrder w c → ActsOnNewest c
acts_on_newest w c h = record {
  hears = hears c c.to_client.waiting h.0.0;
  answers = answers_newest c c.due refl h.0.0;
  before = before (length w.asked_on) c.past c.current h.1;
  works_past = works_past (length w.asked_on) c c.due refl h.0.0 h.1;
  hears_past = λ n. reach_client_past (length w.asked_on) c c.to_client.waiting (c.to_client.part + min n (down_underway c)) h.0.0 h.1;
}

pub act_on_newest : (setup : Setup) (answers : Answers) → Lawful answers → Always setup answers ActOnNewest
act_on_newest setup answers l events =
    let w : World = world_after setup answers events new_world in
    each_follows (InOrder w) ActsOnNewest w.connections (acts_on_newest w)
    (always_in setup answers InOrder events (in_order_kept setup answers l))

-- ---- The server's work

runs_newest : (c : Connection) (s : answer.Step) (ss : List answer.Step) (q : Record) → c.current ≡ Some q → c.answering ≡ q.number → (works_on c (s ∷ ss)).current ≡ Some (runs c.session s q)
runs_newest c s ss q e n =
    ap (option_map (if_numbered c.answering (runs c.session s))) e ∙ ap (λ b. Some (when b (runs c.session s) q)) (same_number c.answering q.number n)

takes_mark : (answers : Answers) → Lawful answers → (c : Connection) (q : Record) (s : answer.Step) (ss : List answer.Step) (ran : Option SessionState) → ran ≡ None → c.due ≡ s ∷ ss → ByRan answers c c.to_server.waiting c.to_client.waiting (phase_of q) q.asking ran → s.reset ≡ q.asking.mark
takes_mark answers l c q s ss (Some x) n e h = absurd (cc)
takes_mark answers l c q s ss None n e h = elim h.due [
  | inl z ↦ absurd (not_none s ss (sym e ∙ z))
  | inr z ↦ (first_step answers l c.session q.asking.descriptor q.asking.mark q.asking.request s ss (sym e ∙ z.1)).reset
]

works_newest : (answers : Answers) → Lawful answers → (w : World) (c : Connection) (due : List answer.Step) → c.due ≡ due → WellMarked answers w c → WorksOnNewest c due
works_newest answers l w c [] e h = tt
works_newest answers l w c (s ∷ ss) e h =
    let a : IsOfNewest c c.answering = subst (AnswersNewest c) e (answers_newest c c.due refl h.0.0.0) in
    record {
      request = a.request;
      newest = a.newest;
      then = ap (λ d. (works_on c d).current) e ∙ runs_newest c s ss a.request a.newest a.same;
      first = λ n. takes_mark answers l c a.request s ss a.request.ran n e (subst (Newest answers c c.to_server.waiting c.to_client.waiting) a.newest h.1.1);
    }

pub work_on_newest : (setup : Setup) (answers : Answers) → Lawful answers → Always setup answers WorkOnNewest
work_on_newest setup answers l events =
    let w : World = world_after setup answers events new_world in
    each_follows (WellMarked answers w) (λ c. WorksOnNewest c c.due) w.connections (λ c h. works_newest answers l w c c.due refl h)
    (always_in setup answers (WellMarked answers) events (marked_kept setup answers l))

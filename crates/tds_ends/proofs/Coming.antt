-- Whatever waits for a client comes as packets that it hears as the model does.
use Rattle.std.proofs.Common.{◌≡◌, ◌≤◌, ℕ, List, [], ◌∷◌, ◌++◌, length, inl, inr, Bool, true, false, cond, refl, sym, ap, subst, Some, arith}
use Rattle.std.proofs.lemmas.Bool.Decides.{nat_tests}
use Rattle.std.specs.List.{AllByRecursion}
use Rattle.std.specs.Prelude.{◌⊎◌, flat_map}
use Rattle.tds_client.specs.Session.{ClientSession}
use Rattle.tds_client.specs.Taking.{taken}
use Rattle.tds_packet.specs.declared.kind.Direction.TheVariants.{ToClient}
use Rattle.tds_packet.specs.declared.kind.Kind.TheVariants as kind
use Rattle.tds_packet.specs.Layout.{IsPacket, bits_of, has_bit, is_status}
use Rattle.tds_packet.specs.Reading.{Reading}
use Rattle.tds_session.specs.Answer as answer
use Rattle.tds_session.specs.Answer.{Answers}
use Rattle.tds_session.specs.Attention.{acknowledging}
use Rattle.tds_token.specs.declared.env_change.EnvChange.{EnvChange}
use Rattle.tds_token.specs.Layout.{spelling}
use Rattle.tds_world.specs.declared.event.Setup.{Setup}
use Rattle.tds_world.specs.Arrivals.{client_acts}
use Rattle.tds_world.specs.Connection.{Connection, phase}
use Rattle.tds_world.specs.Entries.{Down, Step, Acknowledgement, down_packet, packet, packet_bytes}
use Rattle.tds_world.specs.Bounds.{IsSetup}
use Rattle.tds_world.specs.Heard.{IsHeardOn, AreHeardOn, ChangesAreHeard}
use Rattle.tds_world.specs.Lane.{passed}
use Rattle.tds_world.specs.Laws.{OfEachConnection}
use Rattle.tds_world.specs.Newest.{HearsOfNewest, ActsOnNewest, ActOnNewest, request_of}
use Rattle.tds_world.specs.Phase as phases
use Rattle.tds_world.specs.Phase.{Phase, Settled, Asked, Sending, Cancelling, phase_of, phase_in, state_of}
use Rattle.tds_world.specs.Record.{Record}
use Rattle.tds_world.specs.Sessions.{FitsStep, FitsAcknowledgement, IsInRange, AllInRange}
use Rattle.tds_world.specs.Steps.{IsStepOf, OfSteps, OfAcknowledgements, StepsAreOfAnswers, sent_down}
use Rattle.tds_world.specs.Welcome.{ClientExpects, WelcomeToServer, WelcomeToClient, AllWelcome}
use Rattle.tds_world.specs.World.{World}
use Rattle.tds_ends.specs.Deliveries.{down_coming, AllHeard}
use Rattle.tds_ends.specs.Feeding.{IsComing}
use Rattle.tds_ends.specs.Hearing.{IsSaid, IsAwaited, RefinesHear}
use Rattle.tds_ends.specs.Stands.{MatchesClient}
use Rattle.tds_ends.proofs.Said.{AreSaid}

-- ---- What a step says

said_at : (before : List answer.Step) (s : answer.Step) (after : List answer.Step) → AllByRecursion IsSaid (before ++ s ∷ after) → IsSaid s
said_at [] s after h = h.0
said_at (t ∷ ts) s after h = said_at ts s after h.1

of_answer : (answers : Answers) (s : answer.Step) → AreSaid answers → IsStepOf answers s → IsSaid s
of_answer answers s a h =
    said_at h.before s h.behind (subst (AllByRecursion IsSaid) h.is (a h.session h.descriptor h.reset h.request))

pub all_said : (answers : Answers) (es : List Down) → AreSaid answers → OfSteps (IsStepOf answers) es → OfSteps IsSaid es
all_said answers [] a h = tt
all_said answers (Step r i s ∷ es) a h = (of_answer answers s a h.0, all_said answers es a h.1)
all_said answers (Acknowledgement r i changes ∷ es) a h = all_said answers es a h

-- What holds of all that was sent holds of what waits.
pub waiting_of : (P : answer.Step → Type 0) (arrived waiting : List Down) → OfSteps P (arrived ++ waiting) → OfSteps P waiting
waiting_of P [] waiting h = h
waiting_of P (Step r i s ∷ es) waiting h = waiting_of P es waiting h.1
waiting_of P (Acknowledgement r i changes ∷ es) waiting h = waiting_of P es waiting h

-- ---- It is awaited

answered : (p : Phase) (r i : ℕ) (s : answer.Step) → ClientExpects (state_of p) (Step r i s) → (p ≡ phases.Reading) ⊎ (p ≡ Cancelling)
answered Settled r i s h = absurd h
answered Asked r i s h = absurd h
answered Sending r i s h = absurd h
answered phases.Reading r i s h = inl refl
answered Cancelling r i s h = inr refl

acknowledged : (p : Phase) (r i : ℕ) (changes : List EnvChange) → ClientExpects (state_of p) (Acknowledgement r i changes) → p ≡ Cancelling
acknowledged Settled r i changes h = absurd h
acknowledged Asked r i changes h = absurd h
acknowledged Sending r i changes h = absurd h
acknowledged phases.Reading r i changes h = absurd h
acknowledged Cancelling r i changes h = refl

-- Of an entry and those behind it, what is said of the steps is said of it.
abbrev FirstOf : (answer.Step → Type 0) → Down → Type 0
FirstOf P (Step r i s) = P s
FirstOf P (Acknowledgement r i changes) = Unit {0}

-- What is said of acknowledgements is said of it.
abbrev FirstTold : Down → Type 0
FirstTold (Step r i s) = Unit {0}
FirstTold (Acknowledgement r i changes) = FitsAcknowledgement changes

awaited : (c : Connection) (q : Record) (e : Down) → c.current ≡ Some q → request_of e ≡ q.number → ClientExpects (state_of (phase_of q)) e → IsHeardOn c e → FirstOf FitsStep e → FirstTold e → FirstOf IsSaid e → IsAwaited c q e
awaited c q (Step r i s) e n x h f g a = (n, answered (phase_of q) r i s x, f.spelled, h, a)
awaited c q (Acknowledgement r i changes) e n x h f g a = (n, acknowledged (phase_of q) r i changes x, g, h)

-- ---- It is a packet

last_status : (b : Bool) → is_status ToClient (cond b 1 0) ≡ true
unfolding is_status
last_status true = refl
last_status false = refl

is_packet : (r : Reading) (b : Bool) (place : ℕ) (body : List ℕ) → r.direction ≡ ToClient → 512 ≤ r.size → 1 ≤ length body → length body ≤ 504
    → IsPacket r.direction r.size (packet_bytes (packet kind.Answer (cond b 1 0) place body)) (packet kind.Answer (cond b 1 0) place body).header body
is_packet r b place body d size some most = record {
  laid_out = record {
    spelled = refl;
    counted = refl;
    fits = omega (arith, size, most);
    directed = sym d;
    status = subst (λ x. is_status x (cond b 1 0) ≡ true) (sym d) (last_status b);
    ends = λ none. absurd (let no : length body ≡ 0 = ap length none in omega (arith, no, some));
  };
  is_read = refl;
}

coming : (r : Reading) (e : Down) → r.direction ≡ ToClient → 512 ≤ r.size → FirstOf FitsStep e → FirstTold e → IsComing r (down_coming e)
coming r (Step q i s) d size f g = is_packet r s.last i (flat_map spelling s.tokens) d size f.some f.most
coming r (Acknowledgement q i changes) d size f g = is_packet r true i (flat_map spelling (acknowledging changes)) d size g.some g.most

-- ---- All that waits

first_of : (P : answer.Step → Type 0) (e : Down) (es : List Down) → OfSteps P (e ∷ es) → FirstOf P e × OfSteps P es
first_of P (Step r i s) es h = (h.0, h.1)
first_of P (Acknowledgement r i changes) es h = (tt, h)

first_told : (e : Down) (es : List Down) → OfAcknowledgements FitsAcknowledgement (e ∷ es) → FirstTold e × OfAcknowledgements FitsAcknowledgement es
first_told (Step r i s) es h = (tt, h)
first_told (Acknowledgement r i changes) es h = (h.0, h.1)

told_waiting : (P : List EnvChange → Type 0) (arrived waiting : List Down) → OfAcknowledgements P (arrived ++ waiting) → OfAcknowledgements P waiting
told_waiting P [] waiting h = h
told_waiting P (Step r i s ∷ es) waiting h = told_waiting P es waiting h
told_waiting P (Acknowledgement r i changes ∷ es) waiting h = told_waiting P es waiting h.1

in_phase : (c : Connection) (q : Record) (e : Down) → c.current ≡ Some q → ClientExpects (state_of (phase c)) e → ClientExpects (state_of (phase_of q)) e
in_phase c q e same x = subst (λ o. ClientExpects (state_of (phase_in o)) e) same x

-- What is promised of one entry: a client hears it as the model does.
abbrev pub RefinesHears : Type 0
RefinesHears =
    (s : ClientSession) (c : Connection) (q : Record) (e : Down) → MatchesClient s c → c.current ≡ Some q → IsAwaited c q e
    → RefinesHear c q e (taken s (has_bit (bits_of (down_packet e).header.status) 1) (down_packet e).body)

pub all_heard : RefinesHears → (r : Reading) (c : Connection) (es : List Down) → r.direction ≡ ToClient → 512 ≤ r.size → WelcomeToClient c es → HearsOfNewest c es → AreHeardOn c es → OfSteps FitsStep es → OfAcknowledgements FitsAcknowledgement es → OfSteps IsSaid es → AllHeard r c es
all_heard hears r c [] d size w n h f g a = tt
all_heard hears r c (e ∷ es) d size w n h f g a =
    let one : FirstOf FitsStep e × OfSteps FitsStep es = first_of FitsStep e es f in
    let fits : FirstTold e × OfAcknowledgements FitsAcknowledgement es = first_told e es g in
    let says : FirstOf IsSaid e × OfSteps IsSaid es = first_of IsSaid e es a in
    let b : Connection = record c { to_client = passed e c.to_client } in (
      coming r e d size one.0 fits.0,
      λ s m. (
        n.0.request,
        n.0.newest,
        hears s b n.0.request e m n.0.newest
            (awaited b n.0.request e n.0.newest n.0.same (in_phase c n.0.request e n.0.newest w.0.0) h.0 one.0 fits.0 says.0),
      ),
      all_heard hears r (client_acts b e) es d size w.1 n.1 h.1 one.1 fits.1 says.1,
    )

-- ---- In every world

abbrev Hears : ℕ → Connection → Type 0
Hears size c = (r : Reading) → r.direction ≡ ToClient → r.size ≡ size → AllHeard r c c.to_client.waiting

on_one : RefinesHears → (answers : Answers) (size : ℕ) (c : Connection) → 512 ≤ size → AreSaid answers → WelcomeToClient c c.to_client.waiting → ActsOnNewest c → AreHeardOn c c.to_client.waiting → IsInRange c → OfSteps (IsStepOf answers) (sent_down c) → Hears size c
on_one hears answers size c least a w n h f o r d same =
    all_heard hears r c c.to_client.waiting d (subst (λ x. 512 ≤ x) (sym same) least) w n.hears h
    (waiting_of FitsStep c.to_client.arrived c.to_client.waiting f.sent)
    (told_waiting FitsAcknowledgement c.to_client.arrived c.to_client.waiting f.told)
    (all_said answers c.to_client.waiting a (waiting_of (IsStepOf answers) c.to_client.arrived c.to_client.waiting o))

on_each : RefinesHears → (answers : Answers) (size : ℕ) (cs : List Connection) → 512 ≤ size → AreSaid answers
    → AllByRecursion (λ c. WelcomeToServer answers c c.to_server.waiting × WelcomeToClient c c.to_client.waiting) cs
    → AllByRecursion ActsOnNewest cs → AllByRecursion (λ c. AreHeardOn c c.to_client.waiting) cs → AllByRecursion IsInRange cs
    → AllByRecursion (λ c. OfSteps (IsStepOf answers) (sent_down c) × AllByRecursion (IsStepOf answers) c.due) cs → AllByRecursion (Hears size) cs
on_each hears answers size [] least a w n h f o = tt
on_each hears answers size (c ∷ cs) least a w n h f o =
    (on_one hears answers size c least a w.0.1 n.0 h.0 f.0 o.0.0, on_each hears answers size cs least a w.1 n.1 h.1 f.1 o.1)

pub worlds_hear : RefinesHears → (setup : Setup) (answers : Answers) (w : World) → IsSetup setup → AreSaid answers → AllWelcome answers w → ActOnNewest w → ChangesAreHeard w → AllInRange w → StepsAreOfAnswers answers w → OfEachConnection (Hears setup.packet_size) w
worlds_hear hears setup answers w s a e n h f o =
    let least : 512 ≤ setup.packet_size = grind (arith, nat_tests) in
    on_each hears answers setup.packet_size w.connections least a e n h f o

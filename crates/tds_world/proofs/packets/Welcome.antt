-- Each entry is welcome where it arrives.
use Rattle.std.proofs.Common.{◌≡◌, ℕ, List, [], ◌∷◌, ◌++◌, inl, inr, refl, sym, subst, ◌∙◌, Option, Some, None}
use Rattle.std.specs.List.{AllByRecursion}
use Rattle.std.specs.Prelude.{unwrap_or}
use Rattle.tds_packet.specs.declared.status.Reset.{Reset}
use Rattle.tds_packet.specs.declared.status.Reset.TheVariants.{Full, KeepTransaction}
use Rattle.tds_session.specs.Answer as answer
use Rattle.tds_session.specs.Answer.{Answers, reset_step}
use Rattle.tds_session.specs.Session.{SessionState, after_reset}
use Rattle.tds_token.specs.declared.env_change.EnvChange.{EnvChange}
use Rattle.tds_token.specs.declared.env_change.EnvChange.TheVariants as change
use Rattle.tds_token.specs.Told.{applied, applied_on, changes_of, no_reset}
use Rattle.tds_world.specs.declared.event.Setup.{Setup}
use Rattle.tds_world.specs.Arrivals.{server_acts, client_acts, mark_after}
use Rattle.tds_packet.specs.Resets.{reset_effect}
use Rattle.tds_world.specs.Connection.{Connection, phase}
use Rattle.tds_world.specs.Entries.{Up, Down, Step, Acknowledgement}
use Rattle.tds_world.specs.Events.{world_after}
use Rattle.tds_world.specs.Heard.{Meets, AreHeardOn, IsHeardOn, ChangesAreHeard}
use Rattle.tds_world.specs.Lane.{passed}
use Rattle.tds_world.specs.Lawful.{Lawful, TakesNoReset}
use Rattle.tds_world.specs.Laws.{Always}
use Rattle.tds_world.specs.Phase.{Phase, Settled, Asked, Sending, Reading, Cancelling, phase_in, state_of}
use Rattle.tds_world.specs.Record.{Record}
use Rattle.tds_world.specs.Steps.{OfSteps}
use Rattle.tds_world.specs.Welcome.{ClientExpects, Apply, ChangesApply, WelcomeToServer, WelcomeToClient, AllWelcome}
use Rattle.tds_world.specs.World.{World, new_world}
use Rattle.tds_world.proofs.events.Noted.{always_in}
use Rattle.tds_world.proofs.events.Worlds.{always, each_both, each_follows}
use Rattle.tds_world.proofs.flow.Flow.{FlowIn, number_in, SoundWith, Sound}
use Rattle.tds_world.proofs.flow.Keeps.{up_act, down_act_at}
use Rattle.tds_world.proofs.flow.Sound.{sound_kept}
use Rattle.tds_world.proofs.packets.Sent.{Sent, sent_kept, server_expects}
use Rattle.tds_world.proofs.packets.Steps.{OfAnswers, StepsSaid, steps_said}
use Rattle.tds_world.proofs.requests.Asking.{ByRan, Newest, NewestWith}
use Rattle.tds_world.proofs.requests.Marks.{down_marked_at}
use Rattle.tds_world.proofs.requests.OwnTransactions.{WellMarked, marked_kept}

-- ---- A step that takes a reset tells of its end, and of no other change

abbrev ResetAlone : answer.Step → Type 0
ResetAlone s = (r : Reset) → s.reset ≡ Some r → changes_of s.tokens ≡ change.ResetDone ∷ []

none_alone : (ss : List answer.Step) → TakesNoReset ss → AllByRecursion ResetAlone ss
none_alone [] h = tt
none_alone (s ∷ ss) h = (λ r e. let z : None ≡ Some r = sym h.0 ∙ e in absurd (cc), none_alone ss h.1)

resets_alone : (answers : Answers) → Lawful answers → OfAnswers answers ResetAlone
resets_alone answers l s d None q = none_alone (answers s d None q) (l.only s d q)
resets_alone answers l s d (Some r) q =
    subst (AllByRecursion ResetAlone) (sym (l.resets s d r q)) (λ x e. refl, none_alone (answers (after_reset r s) d None q) (l.only (after_reset r s) d q))

-- ---- Changes apply

applied_some : (f : ℕ → Option ℕ) (o : Option ℕ) (g : ℕ) → applied_on f o ≡ Some g → (next : ℕ) × (o ≡ Some next) × (f next ≡ Some g)
applied_some f None g e = absurd (cc)
applied_some f (Some next) g e = (next, refl, e)

-- Without a reset among them, whatever the mark.
plain_apply : (mark : Option Reset) (heard : ℕ) (es : List EnvChange) (g : ℕ) → applied no_reset heard es ≡ Some g → Apply mark heard es mark g
plain_apply mark heard [] g e = (refl, let same : heard ≡ g = cc in same)
plain_apply mark heard (change.Begin d ∷ es) g e =
    let n = applied_some (λ next. applied no_reset next es) _ g e in (n.0, n.1, plain_apply mark n.0 es g n.2)
plain_apply mark heard (change.Commit d ∷ es) g e =
    let n = applied_some (λ next. applied no_reset next es) _ g e in (n.0, n.1, plain_apply mark n.0 es g n.2)
plain_apply mark heard (change.Rollback d ∷ es) g e =
    let n = applied_some (λ next. applied no_reset next es) _ g e in (n.0, n.1, plain_apply mark n.0 es g n.2)
plain_apply mark heard (change.ResetDone ∷ es) g e = absurd (cc)

-- The end of a reset, under its mark.
reset_apply : (r : Reset) (heard : ℕ) → Apply (Some r) heard (change.ResetDone ∷ []) None (unwrap_or (applied (reset_effect (Some r)) heard (change.ResetDone ∷ [])) heard)
reset_apply Full heard = (0, refl, (refl, refl))
reset_apply KeepTransaction heard = (heard, refl, (refl, refl))

apply_by : (mark : Option Reset) (heard : ℕ) (es : List EnvChange) (reset : Option Reset) (g : ℕ) → applied (reset_effect reset) heard es ≡ Some g → Meets mark reset → ((r : Reset) → reset ≡ Some r → es ≡ change.ResetDone ∷ []) → Apply mark heard es (mark_after reset mark) (unwrap_or (applied (reset_effect reset) heard es) heard)
apply_by mark heard es None g e m a =
    subst (λ o. Apply mark heard es mark (unwrap_or o heard)) (sym e) (plain_apply mark heard es g e)
apply_by mark heard es (Some r) g e m a =
    subst (λ x. Apply x heard es None (unwrap_or (applied (reset_effect (Some r)) heard es) heard)) (sym m)
    (subst (λ xs. Apply (Some r) heard xs None (unwrap_or (applied (reset_effect (Some r)) heard xs) heard)) (sym (a r refl)) (reset_apply r heard))

-- ---- What a client expects

not_none : {A : Type 0} (x : A) (xs : List A) → x ∷ xs ≡ [] → ⊥
not_none x xs e = absurd (cc)

expects : (p : Phase) (r a : ℕ) (ups : List Up) (e : Down) (es : List Down) (parts : List ℕ) (due : List answer.Step) → FlowIn p r a ups (e ∷ es) parts due → ClientExpects (state_of p) e
expects Settled r a ups e es parts due f = absurd (not_none e es f.1)
expects Asked r a ups e es parts due f = absurd (not_none e es f.1)
expects Sending r a ups e es parts due f = absurd (not_none e es f.1)
expects Reading r a ups (Step q i s) es parts due f = tt
expects Reading r a ups (Acknowledgement q i changes) es parts due f = elim f [
  | inl h ↦ absurd (not_none (Acknowledgement q i changes) es h.1)
  | inr h ↦ absurd h.3
]
expects Cancelling r a ups e es parts due f = tt

-- A step's reset meets the mark.
newest_meets : (answers : Answers) (c : Connection) (ups : List Up) (r i a : ℕ) (s : answer.Step) (es : List Down) (parts : List ℕ) (due : List answer.Step) (o : Option Record) → FlowIn (phase_in o) (number_in o) a ups (Step r i s ∷ es) parts due → Newest answers c ups (Step r i s ∷ es) o → Meets c.mark s.reset
newest_meets answers c ups r i a s es parts due None f h = absurd (not_none (Step r i s) es f.1)
newest_meets answers c ups r i a s es parts due (Some q) f h = by_ran q.ran h
  where
    by_ran : (ran : Option SessionState) → ByRan answers c ups (Step r i s ∷ es) (phase_in (Some q)) q.asking ran → Meets c.mark s.reset
    by_ran None g = absurd g.downs
    by_ran (Some x) g = g.downs.0

changes_apply : (answers : Answers) (c : Connection) (e : Down) (es : List Down) → SoundWith c c.to_server.waiting (e ∷ es) → NewestWith answers c c.to_server.waiting (e ∷ es) → OfSteps ResetAlone (e ∷ es) → ChangesApply c e
changes_apply answers c (Step r i s) es f h p =
    apply_by c.mark c.heard (changes_of s.tokens) s.reset f.1.0.0 f.1.0.1
    (newest_meets answers c c.to_server.waiting r i c.answering s es c.parts c.due c.current f.0 h) p.0
changes_apply answers c (Acknowledgement r i changes) es f h p = apply_by c.mark c.heard changes None f.1.0.0 f.1.0.1 tt (λ x e. absurd (cc))

-- ---- The law

steps_behind : (e : Down) (es : List Down) → OfSteps ResetAlone (e ∷ es) → OfSteps ResetAlone es
steps_behind (Step r i s) es h = h.1
steps_behind (Acknowledgement r i changes) es h = h

to_client_welcome : (answers : Answers) (c : Connection) (es : List Down) → SoundWith c c.to_server.waiting es → NewestWith answers c c.to_server.waiting es → OfSteps ResetAlone es → WelcomeToClient c es
to_client_welcome answers c [] f h p = tt
to_client_welcome answers c (e ∷ es) f h p = (
  (expects (phase c) (number_in c.current) c.answering c.to_server.waiting e es c.parts c.due f.0, changes_apply answers c e es f h p),
  to_client_welcome answers (client_acts (record c { to_client = passed e c.to_client }) e) es (down_act_at c e es f) (down_marked_at answers c e es f h) (steps_behind e es p),
)

to_server_welcome : (answers : Answers) (c : Connection) (es : List Up) → Lawful answers → SoundWith c es c.to_client.waiting → WelcomeToServer answers c es
to_server_welcome answers c [] l f = tt
to_server_welcome answers c (e ∷ es) l f =
    (server_expects c e es f, to_server_welcome answers (server_acts answers (record c { to_server = passed e c.to_server }) e) es l (up_act answers c e es l f))

steps_waiting : (arrived waiting : List Down) → OfSteps ResetAlone (arrived ++ waiting) → OfSteps ResetAlone waiting
steps_waiting [] waiting h = h
steps_waiting (Step r i s ∷ es) waiting h = steps_waiting es waiting h.1
steps_waiting (Acknowledgement r i changes ∷ es) waiting h = steps_waiting es waiting h

pub all_welcome : (setup : Setup) (answers : Answers) → Lawful answers → Always setup answers (AllWelcome answers)
all_welcome setup answers l events =
    let w : World = world_after setup answers events new_world in
    each_follows (λ c. WellMarked answers w c × (Sound c × Sent (StepsSaid ResetAlone) c)) (λ c. WelcomeToServer answers c c.to_server.waiting × WelcomeToClient c c.to_client.waiting) w.connections
    (λ c h. (
      to_server_welcome answers c c.to_server.waiting l h.1.0,
      to_client_welcome answers c c.to_client.waiting h.1.0 h.0.1.1 (steps_waiting c.to_client.arrived c.to_client.waiting h.1.1.0),
    ))
    (each_both (WellMarked answers w) (λ c. Sound c × Sent (StepsSaid ResetAlone) c) w.connections
    (always_in setup answers (WellMarked answers) events (marked_kept setup answers l))
    (always (λ c. Sound c × Sent (StepsSaid ResetAlone) c) setup answers events (sent_kept setup answers (StepsSaid ResetAlone) l (steps_said answers ResetAlone (resets_alone answers l)))))

-- ---- What each step tells

is_heard : (answers : Answers) (c : Connection) (e : Down) (es : List Down) → SoundWith c c.to_server.waiting (e ∷ es) → NewestWith answers c c.to_server.waiting (e ∷ es) → IsHeardOn c e
is_heard answers c (Step r i s) es f h =
    ((f.1.0.0, f.1.0.1), newest_meets answers c c.to_server.waiting r i c.answering s es c.parts c.due c.current f.0 h)
is_heard answers c (Acknowledgement r i changes) es f h = (f.1.0.0, f.1.0.1)

are_heard : (answers : Answers) (c : Connection) (es : List Down) → SoundWith c c.to_server.waiting es → NewestWith answers c c.to_server.waiting es → AreHeardOn c es
are_heard answers c [] f h = tt
are_heard answers c (e ∷ es) f h =
    (is_heard answers c e es f h, are_heard answers (client_acts (record c { to_client = passed e c.to_client }) e) es (down_act_at c e es f) (down_marked_at answers c e es f h))

pub changes_are_heard : (setup : Setup) (answers : Answers) → Lawful answers → Always setup answers ChangesAreHeard
changes_are_heard setup answers l events =
    let w : World = world_after setup answers events new_world in
    each_follows (λ c. WellMarked answers w c × Sound c) (λ c. AreHeardOn c c.to_client.waiting) w.connections (λ c h. are_heard answers c c.to_client.waiting h.1 h.0.1.1)
    (each_both (WellMarked answers w) Sound w.connections
    (always_in setup answers (WellMarked answers) events (marked_kept setup answers l))
    (always Sound setup answers events (sound_kept setup answers l)))

-- Each move keeps own answers.
use Rattle.std.proofs.Common.{◌≡◌, ◌<◌, ◌-◌, ℕ, List, [], ◌∷◌, ◌++◌, inl, inr, Bool, true, false, length, eqb, refl, sym, subst, ◌∙◌, Option, Some, None, option_map, map}
use Rattle.std.specs.List.{AllByRecursion}
use Rattle.std.specs.Prelude.{◌==◌}
use Rattle.tds_request.specs.declared.request.Request.{Request}
use Rattle.tds_session.specs.Answer as answer
use Rattle.tds_session.specs.Answer.{Answers}
use Rattle.tds_session.specs.Session.{SessionState}
use Rattle.tds_token.specs.declared.env_change.EnvChange.{EnvChange}
use Rattle.tds_world.specs.declared.event.Setup.{Setup}
use Rattle.tds_world.specs.Arrivals.{server_acts, client_acts, works_on, stops}
use Rattle.tds_world.specs.Caller.{cancels_by, sends_by, asks}
use Rattle.tds_world.specs.Connection.{Connection, joined, phase, is_idle}
use Rattle.tds_world.specs.Entries.{Up, Part, End, Drop, Attention, Down, Step, Acknowledgement, Asking}
use Rattle.tds_world.specs.Lane.{passed}
use Rattle.tds_world.specs.Lawful.{Lawful}
use Rattle.tds_world.specs.Phase.{Phase, Settled, Asked, Sending, Reading, Cancelling, phase_of, phase_by, phase_in}
use Rattle.tds_world.specs.Record.{Record, Out, NotBegun, Begun, Whole, gives, acknowledges, runs, cancelled, when, if_numbered, Fate, Open, Finished, Cancelled, Acknowledged, is_cancelled, is_finished}
use Rattle.tds_world.specs.World.{World, next_number}
use Rattle.tds_world.proofs.events.Moves.{BothIn, MovesOver, noted_on_top, by_noted_moves, AnyAt}
use Rattle.tds_world.proofs.events.Noted.{KeptIn}
use Rattle.tds_world.proofs.flow.Arrivals.{same_number, of_changed}
use Rattle.tds_world.proofs.flow.Flow.{Quiet, FlowIn, number_in, SoundWith, Sound}
use Rattle.tds_world.proofs.flow.Keeps.{ask_fits}
use Rattle.tds_world.proofs.requests.Asking.{EndsAsk}
use Rattle.tds_world.proofs.requests.Cores.{core_of, past_of, newest_of}
use Rattle.tds_world.proofs.requests.Numbers.{NumbersOf, InOrder, past_stays, InOrderWith, in_order_noted}
use Rattle.tds_world.proofs.requests.Own.{HasOwn, is_whole, Underway, Owns, OwnsIn, OwnsPast, OwnWith, Own, part_owned, drop_owned, end_owned, gives_owned, acknowledged_owned, runs_owned, stays_own}
use Rattle.tds_world.proofs.flow.Fates.{is_sending, when_going}

no_more : {A : Type 0} (x : A) (xs : List A) → x ∷ xs ≡ [] → ⊥
no_more x xs e = absurd (cc)

-- ---- What the flow says, by what became of the newest request

-- Of one that is not cancelled no attention waits.
no_attention : (fate : Fate) (out : Out) (r a q : ℕ) (es : List Up) (downs : List Down) (parts : List ℕ) (due : List answer.Step) → is_cancelled fate ≡ false → FlowIn (phase_by fate out) r a (Attention q ∷ es) downs parts due → ⊥
no_attention Cancelled out r a q es downs parts due e f = absurd (cc)
no_attention Acknowledged out r a q es downs parts due e f = absurd (cc)
no_attention Finished out r a q es downs parts due e f = no_more (Attention q) es f.0
no_attention Open NotBegun r a q es downs parts due e f = no_more (Attention q) es f.0
no_attention Open (Begun n) r a q es downs parts due e f = f.0
no_attention Open (Whole n) r a q es downs parts due e f = elim f [
  | inl h ↦ h.0
  | inr h ↦ no_more (Attention q) es h.0
]

-- A step that waits is the newest request's; where that is not cancelled, it is not finished, and
-- behind its last step there is none.
step_flow : (fate : Fate) (out : Out) (r a q i : ℕ) (s : answer.Step) (ups : List Up) (es : List Down) (parts : List ℕ) (due : List answer.Step) → FlowIn (phase_by fate out) r a ups (Step q i s ∷ es) parts due → (q ≡ r) × (is_cancelled fate ≡ false → (is_finished fate ≡ false) × (s.last ≡ true → (es ≡ []) × (due ≡ [])))
step_flow Finished out r a q i s ups es parts due f = absurd (no_more (Step q i s) es f.1)
step_flow Acknowledged out r a q i s ups es parts due f = absurd (no_more (Step q i s) es f.1)
step_flow Cancelled NotBegun r a q i s ups es parts due f = absurd (no_more (Step q i s) es f.1)
step_flow Cancelled (Begun n) r a q i s ups es parts due f = (stopped r a q i s ups es parts due f, λ z. absurd (cc))
  where
    stopped : (r a q i : ℕ) (s : answer.Step) (ups : List Up) (es : List Down) (parts : List ℕ) (due : List answer.Step) → FlowIn Cancelling r a ups (Step q i s ∷ es) parts due → q ≡ r
    stopped r a q i s ups es parts due f = elim f [
      | inl h ↦ absurd (no_more (Step q i s) es h.1)
      | inr k ↦ elim k [
        | inl h ↦ h.2.0
        | inr h ↦ h.3.0
      ]
    ]
step_flow Cancelled (Whole n) r a q i s ups es parts due f = (stopped r a q i s ups es parts due f, λ z. absurd (cc))
  where
    stopped : (r a q i : ℕ) (s : answer.Step) (ups : List Up) (es : List Down) (parts : List ℕ) (due : List answer.Step) → FlowIn Cancelling r a ups (Step q i s ∷ es) parts due → q ≡ r
    stopped r a q i s ups es parts due f = elim f [
      | inl h ↦ absurd (no_more (Step q i s) es h.1)
      | inr k ↦ elim k [
        | inl h ↦ h.2.0
        | inr h ↦ h.3.0
      ]
    ]
step_flow Open NotBegun r a q i s ups es parts due f = absurd (no_more (Step q i s) es f.1)
step_flow Open (Begun n) r a q i s ups es parts due f = absurd (no_more (Step q i s) es f.1)
step_flow Open (Whole n) r a q i s ups es parts due f = elim f [
  | inl h ↦ absurd (no_more (Step q i s) es h.1)
  | inr h ↦ (h.3.0, λ z. (refl, h.3.1))
]

-- An acknowledgement that waits is the newest request's.
acknowledged_number : (fate : Fate) (out : Out) (r a q i : ℕ) (changes : List EnvChange) (ups : List Up) (es : List Down) (parts : List ℕ) (due : List answer.Step) → FlowIn (phase_by fate out) r a ups (Acknowledgement q i changes ∷ es) parts due → q ≡ r
acknowledged_number Finished out r a q i changes ups es parts due f = absurd (no_more (Acknowledgement q i changes) es f.1)
acknowledged_number Acknowledged out r a q i changes ups es parts due f = absurd (no_more (Acknowledgement q i changes) es f.1)
acknowledged_number Cancelled NotBegun r a q i changes ups es parts due f = absurd (no_more (Acknowledgement q i changes) es f.1)
acknowledged_number Cancelled (Begun n) r a q i changes ups es parts due f = elim f [
  | inl h ↦ absurd (no_more (Acknowledgement q i changes) es h.1)
  | inr k ↦ elim k [
    | inl h ↦ absurd h.2
    | inr h ↦ h.3.0
  ]
]
acknowledged_number Cancelled (Whole n) r a q i changes ups es parts due f = elim f [
  | inl h ↦ absurd (no_more (Acknowledgement q i changes) es h.1)
  | inr k ↦ elim k [
    | inl h ↦ absurd h.2
    | inr h ↦ h.3.0
  ]
]
acknowledged_number Open NotBegun r a q i changes ups es parts due f = absurd (no_more (Acknowledgement q i changes) es f.1)
acknowledged_number Open (Begun n) r a q i changes ups es parts due f = absurd (no_more (Acknowledgement q i changes) es f.1)
acknowledged_number Open (Whole n) r a q i changes ups es parts due f = elim f [
  | inl h ↦ absurd (no_more (Acknowledgement q i changes) es h.1)
  | inr h ↦ absurd h.3
]

-- An answer that is due is the newest request's; where that is not cancelled, all of it is out, and
-- nothing waits for the server.
due_flow : (fate : Fate) (out : Out) (r a : ℕ) (ups : List Up) (downs : List Down) (parts : List ℕ) (s : answer.Step) (ss : List answer.Step) → FlowIn (phase_by fate out) r a ups downs parts (s ∷ ss) → (a ≡ r) × (is_cancelled fate ≡ false → (ups ≡ []) × (is_whole out ≡ true))
due_flow Finished out r a ups downs parts s ss f = absurd (no_more s ss f.3)
due_flow Acknowledged out r a ups downs parts s ss f = absurd (no_more s ss f.3)
due_flow Cancelled NotBegun r a ups downs parts s ss f = absurd (no_more s ss f.3)
due_flow Cancelled (Begun n) r a ups downs parts s ss f = elim f [
  | inl h ↦ absurd (no_more s ss h.2)
  | inr k ↦ elim k [
    | inl h ↦ (h.1, λ z. absurd (cc))
    | inr h ↦ absurd (no_more s ss h.2)
  ]
]
due_flow Cancelled (Whole n) r a ups downs parts s ss f = elim f [
  | inl h ↦ absurd (no_more s ss h.2)
  | inr k ↦ elim k [
    | inl h ↦ (h.1, λ z. absurd (cc))
    | inr h ↦ absurd (no_more s ss h.2)
  ]
]
due_flow Open NotBegun r a ups downs parts s ss f = absurd (no_more s ss f.3)
due_flow Open (Begun n) r a ups downs parts s ss f = absurd (no_more s ss f.2)
due_flow Open (Whole n) r a ups downs parts s ss f = elim f [
  | inl h ↦ absurd (no_more s ss h.2)
  | inr h ↦ (h.2, λ z. (h.0, refl))
]

-- ---- Deliveries

attention_by : (answers : Answers) (s t : SessionState) (q : Record) (a r i : ℕ) (changes : List EnvChange) (es : List Up) (downs : List Down) (parts : List ℕ) (due : List answer.Step) (can : Bool) → is_cancelled q.fate ≡ can → FlowIn (phase_by q.fate q.out) q.number a (Attention r ∷ es) downs parts due → Owns answers s q (Attention r ∷ es) downs due → Owns answers t q es (downs ++ Acknowledgement r i changes ∷ []) []
attention_by answers s t q a r i changes es downs parts due true e f h = record { has = h.has; live = λ c. let z : true ≡ false = sym e ∙ c in absurd (cc) }
attention_by answers s t q a r i changes es downs parts due false e f h = absurd (no_attention q.fate q.out q.number a r es downs parts due e f)

up_owned : (answers : Answers) (c : Connection) (current : Option Record) (e : Up) (es : List Up) → FlowIn (phase_in current) (number_in current) c.answering (e ∷ es) c.to_client.waiting c.parts c.due → OwnsIn answers c.session current (e ∷ es) c.to_client.waiting c.due
    → OwnsIn answers (server_acts answers c e).session current es (server_acts answers c e).to_client.waiting (server_acts answers c e).due
up_owned answers c None e es f h = tt
up_owned answers c (Some q) (Part r p) es f h = record { has = h.has; live = λ x y. part_owned answers c.session q r p es c.to_client.waiting c.due q.ran (h.live x y) }
up_owned answers c (Some q) (End r a p) es f h = record { has = h.has; live = λ x y. end_owned answers c.session q r a p es c.to_client.waiting c.due q.ran (h.live x y) }
up_owned answers c (Some q) (Drop r p) es f h = record { has = h.has; live = λ x y. drop_owned answers c.session q r p es c.to_client.waiting c.due q.ran (h.live x y) }
up_owned answers c (Some q) (Attention r) es f h = attention_by answers c.session (stops c).after q c.answering r _ (stops c).changes es c.to_client.waiting c.parts c.due (is_cancelled q.fate) refl f h

server_owned : (answers : Answers) (c : Connection) (e : Up) (es : List Up) → SoundWith c (e ∷ es) c.to_client.waiting → OwnWith answers c (e ∷ es) c.to_client.waiting → OwnWith answers (server_acts answers (record c { to_server = passed e c.to_server }) e) es (server_acts answers (record c { to_server = passed e c.to_server }) e).to_client.waiting
server_owned answers c (Part r p) es f h = (h.0, up_owned answers c c.current (Part r p) es f.0 h.1)
server_owned answers c (End r a p) es f h = (h.0, up_owned answers c c.current (End r a p) es f.0 h.1)
server_owned answers c (Drop r p) es f h = (h.0, up_owned answers c c.current (Drop r p) es f.0 h.1)
server_owned answers c (Attention r) es f h = (h.0, up_owned answers c c.current (Attention r) es f.0 h.1)

-- The newest request has the tag, and so no older one.
newest_has : (P : Record → Type 0) (number : ℕ) (change : Record → Record) (q : Record) → number ≡ q.number → P (change q) → P (if_numbered number change q)
newest_has P number change q e h = of_changed P (eqb q.number number) change q (same_number number q.number e) h

-- What is done to the record of its number is not done to an older one.
older_owned : (answers : Answers) (n number : ℕ) (change : Record → Record) (past : List Record) → number ≡ n → AllByRecursion (λ p. p.number < n) (map core_of past) → OwnsPast answers past → OwnsPast answers (map (if_numbered number change) past)
older_owned answers n number change past e b h =
    subst (λ k. OwnsPast answers (map (if_numbered k change) past)) (sym e) (subst (OwnsPast answers) (sym (past_stays n change past b)) h)

step_owned : (answers : Answers) (count : ℕ) (c : Connection) (current : Option Record) (r i : ℕ) (s : answer.Step) (es : List Down) → NumbersOf count (past_of c) (option_map core_of current) → FlowIn (phase_in current) (number_in current) c.answering c.to_server.waiting (Step r i s ∷ es) c.parts c.due → OwnsPast answers c.past → OwnsIn answers c.session current c.to_server.waiting (Step r i s ∷ es) c.due
    → OwnsPast answers (map (if_numbered r (gives s)) c.past) × OwnsIn answers c.session (option_map (if_numbered r (gives s)) current) c.to_server.waiting es c.due
step_owned answers count c None r i s es b f g h = absurd (no_more (Step r i s) es f.1)
step_owned answers count c (Some q) r i s es b f g h =
    let k = step_flow q.fate q.out q.number c.answering r i s c.to_server.waiting es c.parts c.due f in (
      older_owned answers q.number r (gives s) c.past k.0 b.1 g,
      newest_has (λ p. Owns answers c.session p c.to_server.waiting es c.due) r (gives s) q k.0 (gives_owned answers c.session q r i s c.to_server.waiting es c.due k.1 h),
    )

any_change : (P : Record → Type 0) (b : Bool) (change : Record → Record) (q : Record) → P (change q) → P q → P (when b change q)
any_change P true change q f g = f
any_change P false change q f g = g

acknowledged_past : (answers : Answers) (r : ℕ) (past : List Record) → OwnsPast answers past → OwnsPast answers (map (if_numbered r acknowledges) past)
acknowledged_past answers r [] h = tt
acknowledged_past answers r (q ∷ qs) h =
    (any_change (λ p. HasOwn answers p p.ran) (q.number == r) acknowledges q (stays_own answers q Acknowledged q.ran refl h.0) h.0, acknowledged_past answers r qs h.1)

acknowledged_newest : (answers : Answers) (s : SessionState) (current : Option Record) (a r i : ℕ) (changes : List EnvChange) (ups : List Up) (es : List Down) (parts : List ℕ) (due : List answer.Step) → FlowIn (phase_in current) (number_in current) a ups (Acknowledgement r i changes ∷ es) parts due → OwnsIn answers s current ups (Acknowledgement r i changes ∷ es) due → OwnsIn answers s (option_map (if_numbered r acknowledges) current) ups es due
acknowledged_newest answers s None a r i changes ups es parts due f h = tt
acknowledged_newest answers s (Some q) a r i changes ups es parts due f h =
    newest_has (λ p. Owns answers s p ups es due) r acknowledges q
    (acknowledged_number q.fate q.out q.number a r i changes ups es parts due f)
    (acknowledged_owned answers s q r i changes ups es due h)

client_owned : (answers : Answers) (count : ℕ) (c : Connection) (e : Down) (es : List Down) → NumbersOf count (past_of c) (newest_of c) → SoundWith c c.to_server.waiting (e ∷ es) → OwnWith answers c c.to_server.waiting (e ∷ es) → OwnWith answers (client_acts (record c { to_client = passed e c.to_client }) e) c.to_server.waiting es
client_owned answers count c (Step r i s) es b f h = step_owned answers count c c.current r i s es b f.0 h.0 h.1
client_owned answers count c (Acknowledgement r i changes) es b f h =
    (acknowledged_past answers r c.past h.0, acknowledged_newest answers c.session c.current c.answering r i changes c.to_server.waiting es c.parts c.due f.0 h.1)

client_owned_at : (answers : Answers) (count : ℕ) (c : Connection) (e : Down) (es : List Down) → NumbersOf count (past_of c) (newest_of c) → SoundWith c c.to_server.waiting (e ∷ es) → OwnWith answers c c.to_server.waiting (e ∷ es) → OwnWith answers (client_acts (record c { to_client = passed e c.to_client }) e) (client_acts (record c { to_client = passed e c.to_client }) e).to_server.waiting es
client_owned_at answers count c (Step r i s) es b f h = client_owned answers count c (Step r i s) es b f h
client_owned_at answers count c (Acknowledgement r i changes) es b f h = client_owned answers count c (Acknowledgement r i changes) es b f h

-- ---- Work

runs_owned_in : (answers : Answers) (count : ℕ) (c : Connection) (current : Option Record) (s : answer.Step) (ss : List answer.Step) (i : ℕ) → Lawful answers → NumbersOf count (past_of c) (option_map core_of current) → FlowIn (phase_in current) (number_in current) c.answering c.to_server.waiting c.to_client.waiting c.parts (s ∷ ss) → OwnsPast answers c.past → OwnsIn answers c.session current c.to_server.waiting c.to_client.waiting (s ∷ ss)
    → OwnsPast answers (map (if_numbered c.answering (runs c.session s)) c.past) × OwnsIn answers s.after (option_map (if_numbered c.answering (runs c.session s)) current) c.to_server.waiting (c.to_client.waiting ++ Step c.answering i s ∷ []) ss
runs_owned_in answers count c None s ss i l b f g h = absurd (no_more s ss f.3)
runs_owned_in answers count c (Some q) s ss i l b f g h =
    let k = due_flow q.fate q.out q.number c.answering c.to_server.waiting c.to_client.waiting c.parts s ss f in (
      older_owned answers q.number c.answering (runs c.session s) c.past k.0 b.1 g,
      newest_has (λ p. Owns answers s.after p c.to_server.waiting (c.to_client.waiting ++ Step c.answering i s ∷ []) ss) c.answering (runs c.session s) q k.0
          (runs_owned answers c.session q c.answering i s ss c.to_server.waiting c.to_client.waiting l k.1 h),
    )

works_owned : (answers : Answers) (count : ℕ) (c : Connection) (s : answer.Step) (ss : List answer.Step) → c.due ≡ s ∷ ss → Lawful answers → NumbersOf count (past_of c) (newest_of c) → Sound c → Own answers c → Own answers (works_on c (s ∷ ss))
works_owned answers count c s ss e l b f h =
    runs_owned_in answers count c c.current s ss _ l b
    (subst (λ d. FlowIn (phase c) (number_in c.current) c.answering c.to_server.waiting c.to_client.waiting c.parts d) e f.0) h.0
    (subst (λ d. OwnsIn answers c.session c.current c.to_server.waiting c.to_client.waiting d) e h.1)

-- ---- What a caller does

cancelled_owns : (answers : Answers) (s : SessionState) (q : Record) (ups more : List Up) (downs : List Down) (due : List answer.Step) → Owns answers s q ups downs due → Owns answers s (cancelled q) more downs due
cancelled_owns answers s q ups more downs due h = record {
  has = stays_own answers q Cancelled q.ran refl h.has;
  live = λ c. let z : true ≡ false = c in absurd (cc);
}

cancels_owned_by : (answers : Answers) (p : Phase) (q : Record) (c : Connection) → c.current ≡ Some q → Own answers c → Own answers (cancels_by p q c)
cancels_owned_by answers Settled q c e h = h
cancels_owned_by answers Cancelling q c e h = h
cancels_owned_by answers Asked q c e h =
    (h.0, cancelled_owns answers c.session q c.to_server.waiting _ c.to_client.waiting c.due (subst (λ o. OwnsIn answers c.session o c.to_server.waiting c.to_client.waiting c.due) e h.1))
cancels_owned_by answers Sending q c e h =
    (h.0, cancelled_owns answers c.session q c.to_server.waiting _ c.to_client.waiting c.due (subst (λ o. OwnsIn answers c.session o c.to_server.waiting c.to_client.waiting c.due) e h.1))
cancels_owned_by answers Reading q c e h =
    (h.0, cancelled_owns answers c.session q c.to_server.waiting _ c.to_client.waiting c.due (subst (λ o. OwnsIn answers c.session o c.to_server.waiting c.to_client.waiting c.due) e h.1))

pub all_have : (answers : Answers) (s : SessionState) (past : List Record) (current : Option Record) (ups : List Up) (downs : List Down) (due : List answer.Step) → OwnsPast answers past → OwnsIn answers s current ups downs due → OwnsPast answers (joined past current)
all_have answers s past None ups downs due g h = g
all_have answers s past (Some q) ups downs due g h = with_newest past g
  where
    with_newest : (qs : List Record) → OwnsPast answers qs → OwnsPast answers (qs ++ q ∷ [])
    with_newest [] f = (h.has, tt)
    with_newest (p ∷ ps) f = (f.0, with_newest ps f.1)

none_ask : (a : Asking) (ups : List Up) → ups ≡ [] → EndsAsk a ups
none_ask a ups e = rw e tt

asks_owned : (answers : Answers) (number lease n : ℕ) (q : Request) (c : Connection) → is_idle c ≡ true → Sound c → Own answers c → Own answers (asks number lease n q c)
asks_owned answers number lease n q c e f h =
    let quiet : Quiet c.to_server.waiting c.to_client.waiting c.parts c.due =
    ask_fits (phase c) (number_in c.current) c.answering c.to_server.waiting c.to_client.waiting c.parts c.due e f.0 in (
      all_have answers c.session c.past c.current c.to_server.waiting c.to_client.waiting c.due h.0 h.1,
      record { has = (refl, refl); live = λ x y. (refl, none_ask _ c.to_server.waiting quiet.0, quiet.1, inl quiet.3) },
    )

asks_more : (a : Asking) (ups : List Up) (e : Up) → EndsAsk a (e ∷ []) → EndsAsk a ups → EndsAsk a (ups ++ e ∷ [])
asks_more a [] e g h = g
asks_more a (Part r p ∷ es) e g h = asks_more a es e g h
asks_more a (End r b p ∷ es) e g h = (h.0, asks_more a es e g h.1)
asks_more a (Drop r p ∷ es) e g h = asks_more a es e g h
asks_more a (Attention r ∷ es) e g h = asks_more a es e g h

not_whole : (fate : Fate) (out : Out) → is_sending (phase_by fate out) ≡ true → is_whole out ≡ false
not_whole fate out = when_going (λ x o. is_whole o ≡ false) refl (λ n. refl) fate out

sends_live : (answers : Answers) (s : SessionState) (q : Record) (left : List ℕ) (out : Out) (ups : List Up) (e : Up) (downs : List Down) (due : List answer.Step) (ran : Option SessionState) → is_whole q.out ≡ false → EndsAsk q.asking (e ∷ []) → Underway answers s q ups downs due ran → Underway answers s (record q { left = left; out = out }) (ups ++ e ∷ []) downs due ran
sends_live answers s q left out ups e downs due None w g h = (h.0, asks_more q.asking ups e g h.1, h.2, h.3)
sends_live answers s q left out ups e downs due (Some t) w g h = let z : true ≡ false = sym h.1 ∙ w in absurd (cc)

sends_has : (answers : Answers) (q : Record) (left : List ℕ) (out : Out) (ran : Option SessionState) → HasOwn answers q ran → HasOwn answers (record q { left = left; out = out }) ran
sends_has answers q left out None h = h
sends_has answers q left out (Some s) h = record { begins = h.begins; ends = h.ends }

sends_owns : (answers : Answers) (s : SessionState) (q : Record) (left : List ℕ) (out : Out) (ups : List Up) (e : Up) (downs : List Down) (due : List answer.Step) → is_whole q.out ≡ false → EndsAsk q.asking (e ∷ []) → Owns answers s q ups downs due → Owns answers s (record q { left = left; out = out }) (ups ++ e ∷ []) downs due
sends_owns answers s q left out ups e downs due w g h = record {
  has = sends_has answers q left out q.ran h.has;
  live = λ x y. sends_live answers s q left out ups e downs due q.ran w g (h.live x y);
}

sends_owned : (answers : Answers) (b : Bool) (room : ℕ) (q : Record) (c : Connection) → c.current ≡ Some q → is_sending (phase_of q) ≡ true → Own answers c → Own answers (sends_by b room q c)
sends_owned answers true room q c e s h =
    (h.0, sends_owns answers c.session q _ _ c.to_server.waiting _ c.to_client.waiting c.due (not_whole q.fate q.out s) (refl, tt) (subst (λ o. OwnsIn answers c.session o c.to_server.waiting c.to_client.waiting c.due) e h.1))
sends_owned answers false room q c e s h =
    (h.0, sends_owns answers c.session q _ _ c.to_server.waiting _ c.to_client.waiting c.due (not_whole q.fate q.out s) tt (subst (λ o. OwnsIn answers c.session o c.to_server.waiting c.to_client.waiting c.due) e h.1))

-- ---- Each move

owned_moves : (setup : Setup) (answers : Answers) → Lawful answers → MovesOver setup answers AnyAt InOrderWith (λ w c ups downs. OwnWith answers c ups downs)
owned_moves setup answers l = record {
  stands = λ w r n c b f h. h;
  asked = λ w lease n q c x s i f h. asks_owned answers (next_number w.asked_on) lease n q c i f.0.0 h;
  sent = λ w last q c i s b f h. sends_owned answers last (setup.packet_size - 8) q c i s h;
  cancelled = λ w p q c i at f h. cancels_owned_by answers p q c i h;
  worked = λ w c s ss is f h. works_owned answers (length w.asked_on) c s ss is l f.1 f.0.0 h;
  at_server = λ w c e es f h. server_owned answers c e es f.0.0 h;
  at_client = λ w c e es f h. client_owned_at answers (length w.asked_on) c e es f.1 f.0.0 h;
  server_waits = λ w c es k m h. h;
  client_waits = λ w c es k m h. h;
}

-- In order, and each with its own answer.
abbrev pub Owned : Answers → World → Connection → Type 0
Owned answers w c = InOrder w c × Own answers c

pub owned_kept : (setup : Setup) (answers : Answers) → Lawful answers → KeptIn setup answers (Owned answers)
owned_kept setup answers l =
    by_noted_moves setup answers (BothIn InOrderWith (λ w c ups downs. OwnWith answers c ups downs))
    (noted_on_top setup answers AnyAt InOrderWith (λ w c ups downs. OwnWith answers c ups downs) (in_order_noted setup answers l)
    (record { grows = λ w v c u d a h. h; opened = λ w n. (tt, tt); moves = owned_moves setup answers l }))

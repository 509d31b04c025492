-- Each move of a connection keeps the tie between its newest request and what waits and is due.
use Rattle.std.proofs.Common.{◌≡◌, ℕ, List, [], ◌∷◌, ◌++◌, ◌+◌, ◌⊎◌, inl, inr, Bool, true, false, eqb, refl, sym, ap, subst, ◌∙◌, Option, Some, None, option_map}
use Rattle.std.proofs.lemmas.List.{append-nil, append_assoc}
use Rattle.std.specs.Prelude.{unwrap_or}
use Rattle.tds_packet.specs.declared.status.Reset.{Reset}
use Rattle.tds_request.specs.declared.request.Request.{Request}
use Rattle.tds_session.specs.Answer as answer
use Rattle.tds_session.specs.Answer.{Answers}
use Rattle.tds_session.specs.Attention.{stop_by}
use Rattle.tds_session.specs.Session.{SessionState}
use Rattle.tds_token.specs.declared.env_change.EnvChange.{EnvChange}
use Rattle.tds_world.specs.Arrivals.{server_acts, client_acts, works_on, hears, hears_of, heard_behind, mark_after, stops}
use Rattle.tds_world.specs.Caller.{asks, sends_by, cancels_by}
use Rattle.tds_world.specs.Connection.{Connection, phase, is_idle}
use Rattle.tds_world.specs.Entries.{Asking, Packet, Up, Part, End, Drop, Attention, Down, Step, Acknowledgement}
use Rattle.tds_world.specs.Lane.{passed}
use Rattle.tds_world.specs.Lawful.{Lawful, TakesNoReset}
use Rattle.tds_world.specs.Phase.{Phase, Settled, Asked, Sending, Reading, Cancelling, phase_of, phase_by, phase_in, is_settled}
use Rattle.tds_world.specs.Record.{Record, gives, acknowledges, runs, when, if_numbered, ran_in, Cancelled}
use Rattle.tds_packet.specs.Resets.{header_descriptor}
use Rattle.tds_world.proofs.flow.Arrivals.{same_number, of_changed}
use Rattle.tds_world.proofs.flow.Busy.{NoEnd, Answering, busy_due, busy_down, is_open}
use Rattle.tds_world.proofs.flow.Flow.{FlowIn, Quiet, number_in, Hears, Sound, SoundWith}
use Rattle.tds_world.proofs.flow.Keeps.{ask_fits}
use Rattle.tds_world.proofs.flow.Stops.{rolls_nothing}
use Rattle.tds_world.proofs.requests.Asking.{IsCurrent, EndsAsk, IsDue, NoSteps, MeetsMark, HasRun, ByRan, Newest, NewestWith}
use Rattle.tds_world.proofs.requests.Runs.{FirstStep, first_step, heard_now, names_own, first_waits, next_waits, none_meet, no_steps_ack, meets_ack}
use Rattle.tds_world.proofs.flow.Fates.{step_leaves, cancelled_leaves, is_sending}

-- ---- An entry arrives at the server

-- No step of its answer was done.
pub none_done : (answers : Answers) (c : Connection) (a : Asking) → IsDue answers c.session c.taken c.due a → (c.due ≡ []) ⊎ (c.taken ≡ 0)
none_done answers c a h = elim h [
  | inl e ↦ inl e
  | inr e ↦ inr e.0
]

server_newest : (answers : Answers) (c : Connection) (e : Up) (es : List Up) (p : Phase) (a : Asking) (ran : Option SessionState) → ByRan answers c (e ∷ es) c.to_client.waiting p a ran → ByRan answers (server_acts answers (record c { to_server = passed e c.to_server }) e) es (server_acts answers (record c { to_server = passed e c.to_server }) e).to_client.waiting p a ran
server_newest answers c (Part r b) es p a None h = record { current = h.current; ends = h.ends; due = h.due; downs = h.downs }
server_newest answers c (Part r b) es p a (Some s) h = record { own = h.own; whole = h.whole; ends = h.ends; due = h.due; downs = h.downs }
server_newest answers c (Drop r b) es p a None h = record { current = h.current; ends = h.ends; due = h.due; downs = h.downs }
server_newest answers c (Drop r b) es p a (Some s) h = record { own = h.own; whole = h.whole; ends = h.ends; due = h.due; downs = h.downs }
server_newest answers c (End r x b) es p a None h = record {
  current = h.current;
  ends = h.ends.1;
  due = inr (refl, ap (λ (y : Asking). answers c.session y.descriptor y.mark y.request) h.ends.0);
  downs = h.downs;
}
server_newest answers c (End r x b) es p a (Some s) h = absurd h.ends
server_newest answers c (Attention r) es p a None h = record {
  current = h.current;
  ends = h.ends;
  due = inl refl;
  downs = no_steps_ack r _ (stops c).changes c.to_client.waiting (ap (λ b. (stop_by b c.session).changes) (rolls_nothing c (none_done answers c a h.due))) h.downs;
}
server_newest answers c (Attention r) es p a (Some s) h = record { own = h.own; whole = h.whole; ends = h.ends; due = tt; downs = meets_ack c.mark r _ _ c.to_client.waiting h.downs }

server_newest_in : (answers : Answers) (c : Connection) (e : Up) (es : List Up) (o : Option Record) → Newest answers c (e ∷ es) c.to_client.waiting o → Newest answers (server_acts answers (record c { to_server = passed e c.to_server }) e) es (server_acts answers (record c { to_server = passed e c.to_server }) e).to_client.waiting o
server_newest_in answers c e es None h = tt
server_newest_in answers c e es (Some q) h = server_newest answers c e es (phase_of q) q.asking q.ran h

pub up_marked : (answers : Answers) (c : Connection) (e : Up) (es : List Up) → NewestWith answers c (e ∷ es) c.to_client.waiting → NewestWith answers (server_acts answers (record c { to_server = passed e c.to_server }) e) es (server_acts answers (record c { to_server = passed e c.to_server }) e).to_client.waiting
up_marked answers c (Part r p) es h = server_newest_in answers c (Part r p) es c.current h
up_marked answers c (End r a p) es h = server_newest_in answers c (End r a p) es c.current h
up_marked answers c (Drop r p) es h = server_newest_in answers c (Drop r p) es c.current h
up_marked answers c (Attention r) es h = server_newest_in answers c (Attention r) es c.current h

abbrev pub NewestOf : Answers → Connection → Type 0
NewestOf answers c = NewestWith answers c c.to_server.waiting c.to_client.waiting

-- ---- An entry arrives at the client

any_change : (P : Record → Type 0) (b : Bool) (f : Record → Record) (q : Record) → P (f q) → P q → P (when b f q)
any_change P true f q h g = h
any_change P false f q h g = g

step_newest : (answers : Answers) (c : Connection) (ups : List Up) (r place : ℕ) (s : answer.Step) (es : List Down) (p p1 : Phase) (a : Asking) (ran : Option SessionState) → (is_sending p ≡ false → is_sending p1 ≡ false) → ByRan answers c ups (Step r place s ∷ es) p a ran → ByRan answers (hears s (record c { to_client = passed (Step r place s) c.to_client })) ups es p1 a ran
step_newest answers c ups r place s es p p1 a None k h = absurd h.downs
step_newest answers c ups r place s es p p1 a (Some x) k h = record {
  own = h.own;
  whole = k h.whole;
  ends = h.ends;
  due = h.due;
  downs = none_meet (mark_after s.reset c.mark) es h.downs.1;
}

ack_newest : (answers : Answers) (c : Connection) (ups : List Up) (r place : ℕ) (changes : List EnvChange) (es : List Down) (p p1 : Phase) (a : Asking) (ran : Option SessionState) → (is_sending p ≡ false → is_sending p1 ≡ false) → (is_settled p1 ≡ false → is_settled p ≡ false) → ByRan answers c ups (Acknowledgement r place changes ∷ es) p a ran → ByRan answers (hears_of changes c) ups es p1 a ran
ack_newest answers c ups r place changes es p p1 a None k j h = record {
  current = λ e. subst (λ xs. IsCurrent c.mark (unwrap_or (heard_behind c.heard xs) c.heard) a) (sym h.downs.0) (h.current (j e));
  ends = h.ends;
  due = h.due;
  downs = h.downs.1;
}
ack_newest answers c ups r place changes es p p1 a (Some x) k j h = record { own = h.own; whole = k h.whole; ends = h.ends; due = h.due; downs = h.downs }

client_newest : (answers : Answers) (c : Connection) (ups : List Up) (e : Down) (es : List Down) (o : Option Record) → c.current ≡ o → is_settled (phase_in o) ≡ false → Newest answers c ups (e ∷ es) o → NewestWith answers (client_acts (record c { to_client = passed e c.to_client }) e) ups es
client_newest answers c ups (Step r place s) es None i b h = rw i tt
client_newest answers c ups (Acknowledgement r place changes) es None i b h = rw i tt
client_newest answers c ups (Step r place s) es (Some q) i b h =
    let d : Connection = hears s (record c { to_client = passed (Step r place s) c.to_client }) in
    subst (λ o. Newest answers d ups es (option_map (if_numbered r (gives s)) o)) (sym i)
    (any_change (λ x. ByRan answers d ups es (phase_of x) x.asking x.ran) (eqb q.number r) (gives s) q
    (step_newest answers c ups r place s es (phase_of q) (phase_of (gives s q)) q.asking q.ran (step_leaves q.fate s.last q.out b) h)
    (step_newest answers c ups r place s es (phase_of q) (phase_of q) q.asking q.ran (λ e. e) h))
client_newest answers c ups (Acknowledgement r place changes) es (Some q) i b h =
    let settles : is_settled (phase_of (acknowledges q)) ≡ true = refl in
    let d : Connection = hears_of changes (record c { to_client = passed (Acknowledgement r place changes) c.to_client }) in
    subst (λ o. Newest answers d ups es (option_map (if_numbered r acknowledges) o)) (sym i)
    (any_change (λ x. ByRan answers d ups es (phase_of x) x.asking x.ran) (eqb q.number r) acknowledges q
    (ack_newest answers c ups r place changes es (phase_of q) (phase_of (acknowledges q)) q.asking q.ran (λ e. refl) (λ e. let z : true ≡ false = sym settles ∙ e in absurd (cc)) h)
    (ack_newest answers c ups r place changes es (phase_of q) (phase_of q) q.asking q.ran (λ e. e) (λ e. e) h))

pub down_marked : (answers : Answers) (c : Connection) (e : Down) (es : List Down) → SoundWith c c.to_server.waiting (e ∷ es) → NewestWith answers c c.to_server.waiting (e ∷ es) → NewestWith answers (client_acts (record c { to_client = passed e c.to_client }) e) c.to_server.waiting es
down_marked answers c e es f h =
    client_newest answers c c.to_server.waiting e es c.current refl
    (busy_down (phase c) (number_in c.current) c.answering c.to_server.waiting e es c.parts c.due f.0) h

-- What is to the server stays as it is.
pub down_marked_at : (answers : Answers) (c : Connection) (e : Down) (es : List Down) → SoundWith c c.to_server.waiting (e ∷ es) → NewestWith answers c c.to_server.waiting (e ∷ es) → NewestWith answers (client_acts (record c { to_client = passed e c.to_client }) e) (client_acts (record c { to_client = passed e c.to_client }) e).to_server.waiting es
down_marked_at answers c (Step r place s) es f h = down_marked answers c (Step r place s) es f h
down_marked_at answers c (Acknowledgement r place changes) es f h = down_marked answers c (Acknowledgement r place changes) es f h

-- ---- The server works

pub not_none : {A : Type 0} (x : A) (xs : List A) → x ∷ xs ≡ [] → ⊥
not_none x xs e = absurd (cc)

-- By the record whose answer is due: before and after this step.
works_by : (answers : Answers) (c : Connection) (s : answer.Step) (ss : List answer.Step) (p : Phase) (r : ℕ) (a : Asking) (ran : Option SessionState) → Lawful answers → c.due ≡ s ∷ ss → Answering p r c.answering c.to_server.waiting → Hears c.heard c.to_client.waiting c.session.descriptor → ByRan answers c c.to_server.waiting c.to_client.waiting p a ran → HasRun c.mark ss p a (ran_in ran s.reset c.session s.after) c.to_server.waiting (c.to_client.waiting ++ Step c.answering (c.taken + 1) s ∷ [])
works_by answers c s ss p r a (Some x) l e f k h =
    let due : TakesNoReset (s ∷ ss) = subst TakesNoReset e h.due in record {
      own = h.own;
      whole = h.whole;
      ends = h.ends;
      due = due.1;
      downs = next_waits c.mark c.answering _ s c.to_client.waiting due.0 h.downs;
    }
works_by answers c s ss p r a None l e f k h = elim h.due [
  | inl z ↦ absurd (not_none s ss (sym e ∙ z))
  | inr z ↦
      let first : FirstStep c.session a.mark s ss = first_step answers l c.session a.descriptor a.mark a.request s ss (sym e ∙ z.1) in
      let now : IsCurrent c.mark c.heard a = h.current f.busy in
      let heard : c.heard ≡ c.session.descriptor = heard_now c.heard c.session.descriptor c.to_client.waiting h.downs k in
      record {
        own = now.1 ∙ (ap (λ m. header_descriptor m c.heard) (sym now.0) ∙ (names_own a.mark c.session c.heard heard ∙ ap (λ (x : SessionState). x.descriptor) (sym first.ran)));
        whole = f.whole;
        ends = f.ends;
        due = first.rest;
        downs = first_waits c.mark c.answering _ s c.to_client.waiting (first.reset ∙ now.0) h.downs;
      }
]

works_in : (answers : Answers) (c : Connection) (s : answer.Step) (ss : List answer.Step) (o : Option Record) → Lawful answers → c.current ≡ o → c.due ≡ s ∷ ss → Sound c → Newest answers c c.to_server.waiting c.to_client.waiting o → NewestOf answers (works_on c (s ∷ ss))
works_in answers c s ss None l i e f h = rw i tt
works_in answers c s ss (Some q) l i e f h =
    let d : Connection = works_on c (s ∷ ss) in
    let flow : FlowIn (phase_of q) q.number c.answering c.to_server.waiting c.to_client.waiting c.parts (s ∷ ss) =
    subst (λ o. FlowIn (phase_in o) (number_in o) c.answering c.to_server.waiting c.to_client.waiting c.parts (s ∷ ss)) i
    (subst (λ x. FlowIn (phase c) (number_in c.current) c.answering c.to_server.waiting c.to_client.waiting c.parts x) e f.0) in
    let is : Answering (phase_of q) q.number c.answering c.to_server.waiting = busy_due (phase_of q) q.number c.answering c.to_server.waiting c.to_client.waiting c.parts s ss flow in
    subst (λ o. Newest answers d c.to_server.waiting (c.to_client.waiting ++ Step c.answering (c.taken + 1) s ∷ []) (option_map (if_numbered c.answering (runs c.session s)) o)) (sym i)
    (of_changed (λ x. ByRan answers d c.to_server.waiting (c.to_client.waiting ++ Step c.answering (c.taken + 1) s ∷ []) (phase_of x) x.asking x.ran) (eqb q.number c.answering) (runs c.session s) q
    (same_number c.answering q.number is.number)
    (works_by answers c s ss (phase_of q) q.number q.asking q.ran l e is f.1.0 h))

pub works_marked : (answers : Answers) (c : Connection) (due : List answer.Step) → Lawful answers → c.due ≡ due → Sound c → NewestOf answers c → NewestOf answers (works_on c due)
works_marked answers c [] l e f h = h
works_marked answers c (s ∷ ss) l e f h = works_in answers c s ss c.current l refl e f h

-- ---- The caller

ends_more : (a : Asking) (xs ys : List Up) → EndsAsk a xs → EndsAsk a ys → EndsAsk a (xs ++ ys)
ends_more a [] ys h k = k
ends_more a (Part r p ∷ es) ys h k = ends_more a es ys h k
ends_more a (End r b p ∷ es) ys h k = (h.0, ends_more a es ys h.1 k)
ends_more a (Drop r p ∷ es) ys h k = ends_more a es ys h k
ends_more a (Attention r ∷ es) ys h k = ends_more a es ys h k

no_end_more : (xs ys : List Up) → NoEnd xs → NoEnd ys → NoEnd (xs ++ ys)
no_end_more [] ys h k = k
no_end_more (Part r p ∷ es) ys h k = no_end_more es ys h k
no_end_more (End r b p ∷ es) ys h k = absurd h
no_end_more (Drop r p ∷ es) ys h k = no_end_more es ys h k
no_end_more (Attention r ∷ es) ys h k = no_end_more es ys h k

-- A request is cancelled, and these further entries go out.
cancel_newest : (answers : Answers) (c : Connection) (more : List Up) (p p1 : Phase) (a : Asking) (ran : Option SessionState) → is_settled p ≡ false → is_sending p1 ≡ false → EndsAsk a more → NoEnd more → ByRan answers c c.to_server.waiting c.to_client.waiting p a ran → ByRan answers c (c.to_server.waiting ++ more) c.to_client.waiting p1 a ran
cancel_newest answers c more p p1 a None o w x y h = record { current = λ e. h.current o; ends = ends_more a c.to_server.waiting more h.ends x; due = h.due; downs = h.downs }
cancel_newest answers c more p p1 a (Some s) o w x y h = record { own = h.own; whole = w; ends = no_end_more c.to_server.waiting more h.ends y; due = h.due; downs = h.downs }

-- It asked for nothing yet.
append_none : (answers : Answers) (c : Connection) (p : Phase) (a : Asking) (ran : Option SessionState) → ByRan answers c (c.to_server.waiting ++ []) c.to_client.waiting p a ran → ByRan answers c c.to_server.waiting c.to_client.waiting p a ran
append_none answers c p a ran h = subst (λ ups. ByRan answers c ups c.to_client.waiting p a ran) (append-nil c.to_server.waiting) h

cancels_marked_by : (answers : Answers) (p : Phase) (q : Record) (c : Connection) → phase_of q ≡ p → c.current ≡ Some q → ByRan answers c c.to_server.waiting c.to_client.waiting p q.asking q.ran → NewestOf answers (cancels_by p q c)
cancels_marked_by answers Settled q c e i h = subst (Newest answers c c.to_server.waiting c.to_client.waiting) (sym i) (rw e h)
cancels_marked_by answers Cancelling q c e i h = subst (Newest answers c c.to_server.waiting c.to_client.waiting) (sym i) (rw e h)
cancels_marked_by answers Asked q c e i h =
    append_none answers c (phase_by Cancelled q.out) q.asking q.ran
    (cancel_newest answers c [] Asked (phase_by Cancelled q.out) q.asking q.ran refl (cancelled_leaves q.out) tt tt h)
cancels_marked_by answers Sending q c e i h =
    subst (λ ups. ByRan answers c ups c.to_client.waiting (phase_by Cancelled q.out) q.asking q.ran) (sym (append_assoc c.to_server.waiting (Drop q.number _ ∷ []) (Attention q.number ∷ [])))
    (cancel_newest answers c (Drop q.number _ ∷ Attention q.number ∷ []) Sending (phase_by Cancelled q.out) q.asking q.ran refl (cancelled_leaves q.out) tt tt h)
cancels_marked_by answers Reading q c e i h =
    cancel_newest answers c (Attention q.number ∷ []) Reading (phase_by Cancelled q.out) q.asking q.ran refl (cancelled_leaves q.out) tt tt h

pub cancels_marked : (answers : Answers) (p : Phase) (q : Record) (c : Connection) → c.current ≡ Some q → phase_of q ≡ p → NewestOf answers c → NewestOf answers (cancels_by p q c)
cancels_marked answers p q c i e h =
    cancels_marked_by answers p q c e i
    (subst (λ x. ByRan answers c c.to_server.waiting c.to_client.waiting x q.asking q.ran) e (subst (Newest answers c c.to_server.waiting c.to_client.waiting) i h))

-- A request that is sending has not run.
sends_newest : (answers : Answers) (c : Connection) (r : ℕ) (body : Packet) (p p1 p2 : Phase) (a : Asking) (ran : Option SessionState) → is_sending p ≡ true → is_settled p ≡ false → ByRan answers c c.to_server.waiting c.to_client.waiting p a ran → ByRan answers c (c.to_server.waiting ++ End r a body ∷ []) c.to_client.waiting p1 a ran × ByRan answers c (c.to_server.waiting ++ Part r body ∷ []) c.to_client.waiting p2 a ran
sends_newest answers c r body p p1 p2 a None s o h = (
  record { current = λ e. h.current o; ends = ends_more a c.to_server.waiting (End r a body ∷ []) h.ends (refl, tt); due = h.due; downs = h.downs },
  record { current = λ e. h.current o; ends = ends_more a c.to_server.waiting (Part r body ∷ []) h.ends tt; due = h.due; downs = h.downs },
)
sends_newest answers c r body p p1 p2 a (Some x) s o h = let z : true ≡ false = sym s ∙ h.whole in absurd (cc)

pub sends_marked : (answers : Answers) (b : Bool) (room : ℕ) (q : Record) (c : Connection) → c.current ≡ Some q → is_sending (phase_of q) ≡ true → NewestOf answers c → NewestOf answers (sends_by b room q c)
sends_marked answers true room q c i s h =
    (sends_newest answers c q.number _ (phase_of q) _ Settled q.asking q.ran s (is_open (phase_of q) s) (subst (Newest answers c c.to_server.waiting c.to_client.waiting) i h)).0
sends_marked answers false room q c i s h =
    (sends_newest answers c q.number _ (phase_of q) Settled _ q.asking q.ran s (is_open (phase_of q) s) (subst (Newest answers c c.to_server.waiting c.to_client.waiting) i h)).1

-- A new request, where nothing waits and nothing is due.
no_ends : (a : Asking) (ups : List Up) → ups ≡ [] → EndsAsk a ups
no_ends a ups e = rw e tt

no_steps : (downs : List Down) → downs ≡ [] → NoSteps downs
no_steps downs e = rw e tt

pub asks_marked : (answers : Answers) (number lease n : ℕ) (q : Request) (c : Connection) → is_idle c ≡ true → Sound c → NewestOf answers (asks number lease n q c)
asks_marked answers number lease n q c e f =
    let quiet : Quiet c.to_server.waiting c.to_client.waiting c.parts c.due =
    ask_fits (phase c) (number_in c.current) c.answering c.to_server.waiting c.to_client.waiting c.parts c.due e f.0 in
    record {
      current = λ z. (refl, refl);
      ends = no_ends _ c.to_server.waiting quiet.0;
      due = inl quiet.3;
      downs = no_steps c.to_client.waiting quiet.1;
    }

-- ---- The pool marks an idle connection

none_waits : (mark : Option Reset) (downs : List Down) → downs ≡ [] → MeetsMark mark downs
none_waits mark downs e = rw e tt

remarked : (answers : Answers) (c : Connection) (mark : Option Reset) (p : Phase) (a : Asking) (ran : Option SessionState) → is_settled p ≡ true → c.to_client.waiting ≡ [] → ByRan answers c c.to_server.waiting c.to_client.waiting p a ran → ByRan answers (record c { mark = mark }) c.to_server.waiting c.to_client.waiting p a ran
remarked answers c mark p a None e n h = record { current = λ z. let y : true ≡ false = sym e ∙ z in absurd (cc); ends = h.ends; due = h.due; downs = h.downs }
remarked answers c mark p a (Some s) e n h = record { own = h.own; whole = h.whole; ends = h.ends; due = h.due; downs = none_waits mark c.to_client.waiting n }

remarked_in : (answers : Answers) (c : Connection) (mark : Option Reset) (o : Option Record) → is_settled (phase_in o) ≡ true → c.to_client.waiting ≡ [] → Newest answers c c.to_server.waiting c.to_client.waiting o → Newest answers (record c { mark = mark }) c.to_server.waiting c.to_client.waiting o
remarked_in answers c mark None e n h = tt
remarked_in answers c mark (Some q) e n h = remarked answers c mark (phase_of q) q.asking q.ran e n h

pub marks_idle : (answers : Answers) (c : Connection) (mark : Option Reset) → is_idle c ≡ true → Sound c → NewestOf answers c → NewestOf answers (record c { mark = mark })
marks_idle answers c mark e f h =
    let quiet : Quiet c.to_server.waiting c.to_client.waiting c.parts c.due =
    ask_fits (phase c) (number_in c.current) c.answering c.to_server.waiting c.to_client.waiting c.parts c.due e f.0 in
    remarked_in answers c mark c.current e quiet.1 h

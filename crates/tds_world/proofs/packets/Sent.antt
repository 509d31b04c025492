-- What is said of all that a server sent and of the answer that is due, and is kept where that
-- changes, is kept by each act.
use Rattle.std.proofs.Common.{◌≡◌, ◌-◌, ◌+◌, ℕ, List, [], ◌∷◌, ◌++◌, inl, inr, Bool, true, false, sym, subst, Option}
use Rattle.std.proofs.lemmas.List.{append_assoc}
use Rattle.tds_packet.specs.declared.status.Reset.{Reset}
use Rattle.tds_request.specs.declared.request.Request.{Request}
use Rattle.tds_session.specs.Answer as answer
use Rattle.tds_session.specs.Answer.{Answers}
use Rattle.tds_session.specs.Attention.{stop_by}
use Rattle.tds_session.specs.Session.{SessionState, new_session, is_in_transaction}
use Rattle.tds_world.specs.declared.event.Setup.{Setup}
use Rattle.tds_world.specs.Arrivals.{server_acts, client_acts, works_on, acknowledged_at, stops}
use Rattle.tds_world.specs.Caller.{cancels_by, sends_by}
use Rattle.tds_world.specs.Connection.{Connection, phase}
use Rattle.tds_world.specs.Entries.{Up, Part, End, Drop, Attention, Down, Step, Acknowledgement}
use Rattle.tds_world.specs.Lane.{passed}
use Rattle.tds_world.specs.Lawful.{Lawful}
use Rattle.tds_world.specs.Phase.{Phase, Settled, Asked, Sending, Reading, Cancelling}
use Rattle.tds_world.specs.Record.{Record}
use Rattle.tds_world.specs.Welcome.{ServerExpects}
use Rattle.tds_world.proofs.events.Moves.{KeptByMoves, Both, on_top, by_moves}
use Rattle.tds_world.proofs.events.Worlds.{Any, Kept}
use Rattle.tds_world.proofs.flow.Flow.{FlowIn, number_in, SoundWith, Sound}
use Rattle.tds_world.proofs.flow.Sound.{sound_moves}
use Rattle.tds_world.proofs.flow.Stops.{rolls, in_transaction}

-- ---- No packet of a request comes while an answer is due

not_none : {A : Type 0} (x : A) (xs : List A) → x ∷ xs ≡ [] → ⊥
not_none x xs e = absurd (cc)

-- The entry is not an attention.
abbrev IsOfMessage : Up → Type 0
IsOfMessage (Part r p) = Unit {0}
IsOfMessage (End r a p) = Unit {0}
IsOfMessage (Drop r p) = Unit {0}
IsOfMessage (Attention r) = ⊥

attention_is_none : (e : Up) (es : List Up) (r : ℕ) → IsOfMessage e → e ∷ es ≡ Attention r ∷ [] → ⊥
attention_is_none e es r h z = let is : e ≡ Attention r = cc in subst IsOfMessage is h

none_due : (p : Phase) (r a : ℕ) (e : Up) (es : List Up) (downs : List Down) (parts : List ℕ) (due : List answer.Step) → IsOfMessage e → FlowIn p r a (e ∷ es) downs parts due → due ≡ []
none_due Settled r a e es downs parts due i f = absurd (not_none e es f.0)
none_due Asked r a e es downs parts due i f = absurd (not_none e es f.0)
none_due Sending r a e es downs parts due i f = f.2
none_due Reading r a e es downs parts due i f = elim f [
  | inl h ↦ h.2
  | inr h ↦ absurd (not_none e es h.0)
]
none_due Cancelling r a e es downs parts due i f = elim f [
  | inl h ↦ h.2
  | inr k ↦ elim k [
    | inl h ↦ absurd (attention_is_none e es r i h.0)
    | inr h ↦ absurd (not_none e es h.0)
  ]
]

pub server_expects : (c : Connection) (e : Up) (es : List Up) → SoundWith c (e ∷ es) c.to_client.waiting → ServerExpects c e
server_expects c (Part r p) es f = none_due (phase c) (number_in c.current) c.answering (Part r p) es c.to_client.waiting c.parts c.due tt f.0
server_expects c (End r a p) es f = none_due (phase c) (number_in c.current) c.answering (End r a p) es c.to_client.waiting c.parts c.due tt f.0
server_expects c (Drop r p) es f = none_due (phase c) (number_in c.current) c.answering (Drop r p) es c.to_client.waiting c.parts c.due tt f.0
server_expects c (Attention r) es f = tt

-- ---- What is said of the session, all that was sent, what is due and how many steps were taken

abbrev pub Saying : Type 1
Saying = SessionState → List Down → List answer.Step → ℕ → Type 0

abbrev pub SentWith : Saying → Connection → List Down → Type 0
SentWith P c downs = P c.session (c.to_client.arrived ++ downs) c.due c.taken

abbrev pub Sent : Saying → Connection → Type 0
Sent P c = SentWith P c c.to_client.waiting

-- It holds at first, and is kept where an answer becomes due, where one is stopped, and where a step
-- is taken.
pub record Keeps (answers : Answers) (P : Saying) : Type 0 where
  pub first : P new_session [] [] 0
  pub asked : (s : SessionState) (sent : List Down) (taken d : ℕ) (m : Option Reset) (q : Request) → P s sent [] taken → P s sent (answers s d m q) 0
  pub stopped : (s : SessionState) (sent : List Down) (due : List answer.Step) (taken r : ℕ) (rolls : Bool) → (rolls ≡ true → is_in_transaction s ≡ true) → P s sent due taken → P (stop_by rolls s).after (sent ++ Acknowledgement r (acknowledged_at due taken) (stop_by rolls s).changes ∷ []) [] 0
  pub worked : (s : SessionState) (sent : List Down) (t : answer.Step) (ts : List answer.Step) (taken r : ℕ) → P s sent (t ∷ ts) taken → P t.after (sent ++ Step r (taken + 1) t ∷ []) ts (taken + 1)

-- ---- Each act

server_sent : (answers : Answers) (P : Saying) (c : Connection) (e : Up) → Keeps answers P → ServerExpects c e → Sent P c → Sent P (server_acts answers c e)
server_sent answers P c (Part r p) k x h = h
server_sent answers P c (End r a p) k x h =
    k.asked c.session (c.to_client.arrived ++ c.to_client.waiting) c.taken a.descriptor a.mark a.request (subst (λ due. P c.session (c.to_client.arrived ++ c.to_client.waiting) due c.taken) x h)
server_sent answers P c (Drop r p) k x h = h
server_sent answers P c (Attention r) k x h =
    subst (λ sent. P (stops c).after sent [] 0) (append_assoc c.to_client.arrived c.to_client.waiting (Acknowledgement r (acknowledged_at c.due c.taken) (stops c).changes ∷ []))
    (k.stopped c.session (c.to_client.arrived ++ c.to_client.waiting) c.due c.taken r (rolls c) (in_transaction c.on_attention _ c.session) h)

client_sent : (P : Saying) (c : Connection) (e : Down) (es : List Down) → SentWith P c (e ∷ es) → SentWith P (client_acts (record c { to_client = passed e c.to_client }) e) es
client_sent P c (Step r i s) es h = subst (λ sent. P c.session sent c.due c.taken) (sym (append_assoc c.to_client.arrived (Step r i s ∷ []) es)) h
client_sent P c (Acknowledgement r i changes) es h = subst (λ sent. P c.session sent c.due c.taken) (sym (append_assoc c.to_client.arrived (Acknowledgement r i changes ∷ []) es)) h

works_sent : (answers : Answers) (P : Saying) (c : Connection) (due : List answer.Step) → c.due ≡ due → Keeps answers P → Sent P c → Sent P (works_on c due)
works_sent answers P c [] e k h = h
works_sent answers P c (s ∷ ss) e k h =
    subst (λ sent. P s.after sent ss (c.taken + 1)) (append_assoc c.to_client.arrived c.to_client.waiting (Step c.answering (c.taken + 1) s ∷ []))
    (k.worked c.session (c.to_client.arrived ++ c.to_client.waiting) s ss c.taken c.answering (subst (λ due. P c.session (c.to_client.arrived ++ c.to_client.waiting) due c.taken) e h))

cancels_sent_by : (P : Saying) (p : Phase) (q : Record) (c : Connection) → Sent P c → Sent P (cancels_by p q c)
cancels_sent_by P Settled q c h = h
cancels_sent_by P p q c h = h

sends_sent : (P : Saying) (b : Bool) (room : ℕ) (q : Record) (c : Connection) → Sent P c → Sent P (sends_by b room q c)
sends_sent P true room q c h = h
sends_sent P false room q c h = h

pub sent_moves : (setup : Setup) (answers : Answers) (P : Saying) → Lawful answers → Keeps answers P → KeptByMoves setup answers (Both SoundWith (λ c ups downs. SentWith P c downs))
sent_moves setup answers P l k = on_top setup answers Any SoundWith (λ c ups downs. SentWith P c downs) (sound_moves setup answers l) (record {
  opened = λ lease. k.first;
  stands = λ c m s h. h;
  asked = λ number lease n q c x is f h. h;
  sent = λ last q c is at b f h. sends_sent P last (setup.packet_size - 8) q c h;
  cancelled = λ p q c is at f h. cancels_sent_by P p q c h;
  worked = λ c s ss is f h. works_sent answers P c (s ∷ ss) is k h;
  at_server = λ c e es f h. server_sent answers P (record c { to_server = passed e c.to_server }) e k (server_expects (record c { to_server = passed e c.to_server }) e es f) h;
  at_client = λ c e es f h. client_sent P c e es h;
  server_waits = λ c es k m h. h;
  client_waits = λ c es k m h. h;
})

pub sent_kept : (setup : Setup) (answers : Answers) (P : Saying) → Lawful answers → Keeps answers P → Kept setup answers Any (λ c. Sound c × Sent P c)
sent_kept setup answers P l k = by_moves setup answers (Both SoundWith (λ c ups downs. SentWith P c downs)) (sent_moves setup answers P l k)

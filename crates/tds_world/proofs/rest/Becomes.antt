-- What becomes of the newest request while its connection comes to rest.
use Rattle.std.proofs.Common.{◌≡◌, ℕ, zero, suc, List, [], ◌∷◌, ◌+◌, ◌-◌, length, drop, ltb, min, eqb, inl, inr, Bool, true, false, refl, sym, ap, subst, ◌∙◌, Option, Some, None, option_map}
use Rattle.tds_session.specs.Answer as answer
use Rattle.tds_session.specs.Answer.{Answers}
use Rattle.tds_token.specs.declared.env_change.EnvChange.{EnvChange}
use Rattle.tds_world.specs.declared.event.Setup.{Setup}
use Rattle.tds_world.specs.Arrivals.{client_acts, reach_client, to_server, to_client, works, works_on}
use Rattle.tds_world.specs.Caller.{sends_by, sends_last}
use Rattle.tds_world.specs.Connection.{Connection, phase, down_underway}
use Rattle.tds_world.specs.Entries.{Up, Down, Step, Acknowledgement, down_bytes}
use Rattle.tds_world.specs.Events.{sends_in}
use Rattle.tds_world.specs.Lane.{passed, with_waiting}
use Rattle.tds_world.specs.Lawful.{Lawful}
use Rattle.tds_world.specs.Phase.{Phase, Settled, Asked, Sending, Reading, Cancelling, phase_in, phase_of, phase_by}
use Rattle.tds_world.specs.Record.{Record, Fate, Open, Finished, Cancelled, Acknowledged, is_cancelled, stepped, Out, NotBegun, Begun, packets_of, gives, acknowledges, runs, when, if_numbered}
use Rattle.tds_world.specs.Record as request
use Rattle.tds_world.specs.rest.Rest.{Became, times, after_act, sends_next}
use Rattle.tds_world.proofs.events.Words.{either}
use Rattle.tds_world.proofs.flow.Fates.{step_cancels_none}
use Rattle.tds_world.proofs.flow.Flow.{FlowIn, number_in, SoundWith}
use Rattle.tds_world.proofs.flow.Keeps.{down_act_at}
use Rattle.tds_world.proofs.rest.Arriving.{IsGood, server_good, works_good, to_server_leaves}

abbrev is_begun : Out → Bool
is_begun NotBegun = false
is_begun (Begun n) = true
is_begun (request.Whole n) = true

-- The same request later: it was not cancelled meanwhile.
pub record IsLater (q p : Record) : Type 0 where
  pub number : p.number ≡ q.number
  pub cancelled : is_cancelled p.fate ≡ is_cancelled q.fate
  pub begun : is_begun q.out ≡ true → is_begun p.out ≡ true

same_later : (q : Record) → IsLater q q
same_later q = record { number = refl; cancelled = refl; begun = λ b. b }

-- The newest request is the same one later.
abbrev pub Follows : Option Record → Option Record → Type 0
Follows o n = (q : Record) → o ≡ Some q → (p : Record) × (n ≡ Some p) × IsLater q p

pub follows_same : (o : Option Record) → Follows o o
follows_same o q e = (q, e, same_later q)

follows_then : (a b c : Option Record) → Follows a b → Follows b c → Follows a c
follows_then a b c f g q e =
    let p = f q e in
    let r = g p.0 p.1 in
    (r.0, r.1, record { number = r.2.number ∙ p.2.number; cancelled = r.2.cancelled ∙ p.2.cancelled; begun = λ z. r.2.begun (p.2.begun z) })

follows_is : (o n : Option Record) → n ≡ o → Follows o n
follows_is o n e = subst (Follows o) (sym e) (follows_same o)

of_either : (P : Record → Type 0) (b : Bool) (f : Record → Record) (q : Record) → P (f q) → P q → P (when b f q)
of_either P true f q g h = g
of_either P false f q g h = h

changed_follows : (o : Option Record) (k : ℕ) (f : Record → Record) → ((q : Record) → o ≡ Some q → IsLater q (f q)) → Follows o (option_map (if_numbered k f) o)
changed_follows None k f g q e = absurd (cc)
changed_follows (Some x) k f g q e =
    let same : x ≡ q = cc in
    (when (eqb x.number k) f x, refl, subst (λ y. IsLater y (when (eqb x.number k) f x)) same (of_either (IsLater x) (eqb x.number k) f x (g x refl) (same_later x)))

-- ---- Each act

works_follow : (c : Connection) (due : List answer.Step) → Follows c.current (works_on c due).current
works_follow c [] = follows_same c.current
works_follow c (s ∷ ss) = changed_follows c.current c.answering (runs c.session s) (λ q e. record { number = refl; cancelled = refl; begun = λ b. b })

all_works_follow : (k : ℕ) (c : Connection) → Follows c.current (times k works c).current
all_works_follow zero c = follows_same c.current
all_works_follow (suc k) c = follows_then c.current (works c).current (times k works (works c)).current (works_follow c c.due) (all_works_follow k (works c))

-- Only a cancelled request is acknowledged.
asked_for : (p : Phase) (r a q i : ℕ) (changes : List EnvChange) (ups : List Up) (es : List Down) (parts : List ℕ) (due : List answer.Step) → FlowIn p r a ups (Acknowledgement q i changes ∷ es) parts due → p ≡ Cancelling
asked_for Settled r a q i changes ups es parts due f = let z : Acknowledgement q i changes ∷ es ≡ [] = f.1 in absurd (cc)
asked_for Asked r a q i changes ups es parts due f = let z : Acknowledgement q i changes ∷ es ≡ [] = f.1 in absurd (cc)
asked_for Sending r a q i changes ups es parts due f = let z : Acknowledgement q i changes ∷ es ≡ [] = f.1 in absurd (cc)
asked_for Reading r a q i changes ups es parts due f = elim f [
  | inl h ↦ let z : Acknowledgement q i changes ∷ es ≡ [] = h.1 in absurd (cc)
  | inr h ↦ absurd h.3
]
asked_for Cancelling r a q i changes ups es parts due f = refl

abbrev IsStopped : Fate → Out → Type 0
IsStopped fate out = (is_cancelled fate ≡ true) × (is_begun out ≡ true)

cancelling : (fate : Fate) (out : Out) → phase_by fate out ≡ Cancelling → IsStopped fate out
cancelling Open NotBegun e = absurd (cc)
cancelling Open (Begun n) e = absurd (cc)
cancelling Open (request.Whole n) e = absurd (cc)
cancelling Finished out e = absurd (cc)
cancelling Cancelled NotBegun e = absurd (cc)
cancelling Cancelled (Begun n) e = (refl, refl)
cancelling Cancelled (request.Whole n) e = (refl, refl)
cancelling Acknowledged out e = absurd (cc)

client_follows : (c : Connection) (e : Down) (es : List Down) → SoundWith c c.to_server.waiting (e ∷ es) → Follows c.current (client_acts (record c { to_client = passed e c.to_client }) e).current
client_follows c (Step r i s) es f = changed_follows c.current r (gives s) (λ q e. record { number = refl; cancelled = step_cancels_none s.last q.fate; begun = λ b. b })
client_follows c (Acknowledgement r i changes) es f =
    changed_follows c.current r acknowledges (λ q e.
    let now : phase_of q ≡ Cancelling = ap phase_in (sym e) ∙ asked_for (phase c) (number_in c.current) c.answering r i changes c.to_server.waiting es c.parts c.due f.0 in
    record { number = refl; cancelled = sym (cancelling q.fate q.out now).0; begun = λ b. b })

reach_client_follows : (c : Connection) (es : List Down) (k : ℕ) → SoundWith c c.to_server.waiting es → Follows c.current (reach_client c es k).current
reach_client_follows c [] k f = follows_same c.current
reach_client_follows c (e ∷ es) k f =
    let d : Connection = client_acts (record c { to_client = passed e c.to_client }) e in
    either (λ (x : Connection). Follows c.current x.current) (ltb k (length (down_bytes e))) (record c { to_client = with_waiting (e ∷ es) k c.to_client }) (reach_client d es (k - length (down_bytes e))) (follows_same c.current)
    (follows_then c.current d.current (reach_client d es (k - length (down_bytes e))).current (client_follows c e es f)
    (reach_client_follows d es (k - length (down_bytes e)) (down_act_at c e es f)))

sends_follow_by : (b : Bool) (room : ℕ) (q : Record) (c : Connection) → Follows (Some q) (sends_by b room q c).current
sends_follow_by true room q c x e =
    let p : Record = record q { left = []; out = request.Whole (packets_of q.out + 1) } in
    let same : q ≡ x = cc in (p, refl, subst (λ y. IsLater y p) same (record { number = refl; cancelled = refl; begun = λ b. refl }))
sends_follow_by false room q c x e =
    let p : Record = record q { left = drop room q.left; out = Begun (packets_of q.out + 1) } in
    let same : q ≡ x = cc in (p, refl, subst (λ y. IsLater y p) same (record { number = refl; cancelled = refl; begun = λ b. refl }))

sends_follow : (p : Phase) (room : ℕ) (o : Option Record) (c : Connection) → c.current ≡ o → Follows o (after_act c (sends_in p room o c)).current
sends_follow Settled room o c e = follows_is o c.current e
sends_follow Reading room o c e = follows_is o c.current e
sends_follow Cancelling room o c e = follows_is o c.current e
sends_follow Asked room None c e = follows_is None c.current e
sends_follow Sending room None c e = follows_is None c.current e
sends_follow Asked room (Some q) c e = sends_follow_by (sends_last room q) room q c
sends_follow Sending room (Some q) c e = sends_follow_by (sends_last room q) room q c

pub all_sends_follow : (room k : ℕ) (c : Connection) → Follows c.current (times k (sends_next room) c).current
all_sends_follow room zero c = follows_same c.current
all_sends_follow room (suc k) c =
    follows_then c.current (sends_next room c).current (times k (sends_next room) (sends_next room c)).current
    (sends_follow (phase c) room c.current c refl) (all_sends_follow room k (sends_next room c))

all_works_good : (setup : Setup) (answers : Answers) (k : ℕ) (c : Connection) → Lawful answers → IsGood c → IsGood (times k works c)
all_works_good setup answers zero c l g = g
all_works_good setup answers (suc k) c l g = all_works_good setup answers k (works c) l (works_good setup answers c l g)

-- All that follows what was sent.
pub answered_follows : (setup : Setup) (answers : Answers) (up steps down : ℕ) (c : Connection) {o : Option Record} → Lawful answers → IsGood c → Follows o c.current → Follows o (to_client down (times steps works (to_server answers up c))).current
answered_follows setup answers up steps down c {o} l g h =
    let come : Connection = to_server answers up c in
    let worked : Connection = times steps works come in
    let good : IsGood worked = all_works_good setup answers steps come l (server_good setup answers up c l g) in
    follows_then o c.current (to_client down worked).current h
    (follows_then c.current worked.current (to_client down worked).current
    (subst (λ x. Follows x worked.current) (to_server_leaves answers up c) (all_works_follow steps come))
    (reach_client_follows worked worked.to_client.waiting (worked.to_client.part + min down (down_underway worked)) good.0))

-- ---- At rest

-- A settled request is finished, unless it was cancelled.
settled_finished : (fate : Fate) (out : Out) → phase_by fate out ≡ Settled → is_cancelled fate ≡ false → fate ≡ Finished
settled_finished Open NotBegun e f = absurd (cc)
settled_finished Open (Begun n) e f = absurd (cc)
settled_finished Open (request.Whole n) e f = absurd (cc)
settled_finished Finished out e f = refl
settled_finished Cancelled out e f = absurd (cc)
settled_finished Acknowledged out e f = absurd (cc)

settled_acknowledged : (fate : Fate) (out : Out) → phase_by fate out ≡ Settled → is_cancelled fate ≡ true → is_begun out ≡ true → fate ≡ Acknowledged
settled_acknowledged Open out e f b = absurd (cc)
settled_acknowledged Finished out e f b = absurd (cc)
settled_acknowledged Cancelled NotBegun e f b = absurd (cc)
settled_acknowledged Cancelled (Begun n) e f b = absurd (cc)
settled_acknowledged Cancelled (request.Whole n) e f b = absurd (cc)
settled_acknowledged Acknowledged out e f b = refl

pub finished : (o : Option Record) (d : Connection) (q : Record) → o ≡ Some q → Follows o d.current → phase d ≡ Settled → is_cancelled q.fate ≡ false → Became d q.number Finished
finished o d q e h s f =
    let p = h q e in record {
      request = p.0;
      newest = p.1;
      same = p.2.number;
      became = settled_finished p.0.fate p.0.out (ap phase_in (sym p.1) ∙ s) (p.2.cancelled ∙ f);
    }

pub acknowledged : (o : Option Record) (d : Connection) (q : Record) → o ≡ Some q → Follows o d.current → phase d ≡ Settled → phase_of q ≡ Cancelling → Became d q.number Acknowledged
acknowledged o d q e h s f =
    let p = h q e in
    let was : IsStopped q.fate q.out = cancelling q.fate q.out f in record {
      request = p.0;
      newest = p.1;
      same = p.2.number;
      became = settled_acknowledged p.0.fate p.0.out (ap phase_in (sym p.1) ∙ s) (p.2.cancelled ∙ was.0) (p.2.begun was.1);
    }

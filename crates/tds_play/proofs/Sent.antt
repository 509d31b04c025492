-- A connection on which a request's next packet goes out, in a play and in the model.
use Rattle.std.specs.Prelude.{is_ok, IfOk}
use Rattle.std.proofs.Common.{◌≡◌, ◌≤◌, ◌∙◌, ◌-◌, ◌+◌, ℕ, Bool, true, false, cond, refl, sym, ap, subst, Option, Some, None, Result, Ok, Err, List}
use Rattle.tds_packet.specs.declared.kind.Direction.TheVariants.{ToServer}
use Rattle.tds_client.specs.declared.fault.ClientRefusal.{ClientRefusal}
use Rattle.tds_client.specs.declared.state.Sent.{Sent}
use Rattle.tds_client.specs.Sending.{Effect, sent, sent_in, sent_of, room}
use Rattle.tds_client.specs.Session as client
use Rattle.tds_client.specs.Session.{ClientSession, Stage}
use Rattle.tds_packet.specs.declared.kind.Kind.{Kind}
use Rattle.tds_world.specs.declared.outcome.Outcome.{Outcome}
use Rattle.tds_world.specs.declared.outcome.Outcome.TheVariants as outcome
use Rattle.tds_world.specs.declared.outcome.Refusal.TheVariants.{NotSending}
use Rattle.tds_world.specs.declared.outcome.SendOutcome.{SendOutcome}
use Rattle.tds_world.specs.declared.report.RequestStatus.TheVariants as status
use Rattle.tds_world.specs.Caller.{sends, sends_by, sends_last}
use Rattle.tds_world.specs.Connection.{Connection, phase, up_underway}
use Rattle.tds_world.specs.Events.{sends_in}
use Rattle.tds_world.specs.Entries.{up_bytes}
use Rattle.tds_world.specs.Phase.{Phase, Settled, Asked, Sending, Reading, Cancelling, phase_by, phase_in, phase_of, status_by}
use Rattle.tds_world.specs.PhaseTells.{PhaseTells}
use Rattle.tds_world.specs.Pool.{Acted, Refuses, Does}
use Rattle.tds_world.specs.Record.{Out, Begun, Whole, packets_of}
use Rattle.tds_world.specs.Record as world
use Rattle.tds_ends.specs.Refines.{RefinesSend, send_outcome}
use Rattle.tds_play.specs.Lending.{standing_by}
use Rattle.tds_play.specs.Pipe.{Pipe}
use Rattle.tds_play.specs.Seats.{Seat, seated}
use Rattle.tds_play.specs.Plays.{RepresentsConnection, after, outcome_of}
use Rattle.tds_play.specs.Requests.{IsNewest}
use Rattle.tds_ends.specs.Stands.{is_sending, MatchesServer}
use Rattle.tds_play.specs.declared.link.Link.{Link}
use Rattle.tds_play.specs.declared.request.Record.{Record}
use Rattle.tds_play.proofs.Outward.{Handed, SentMore, sent_played}

-- ---- The client

either_size : (b : Bool) (x y : Effect Sent) (n : ℕ) → x.session.size ≡ n → y.session.size ≡ n → (cond b x y).session.size ≡ n
either_size true x y n e f = e
either_size false x y n e f = f

packet_size : (s : ClientSession) (kind : Kind) (left : List ℕ) (packets : ℕ) → (sent_of s kind left packets).session.size ≡ s.size
unfolding sent_of
packet_size s kind left packets = either_size _ _ _ s.size refl refl

ok_is : {A B : Type 0} (x y : A) (r : Result A B) → r ≡ Ok x → r ≡ Ok y → x ≡ y
ok_is x y r e f = let same : Ok x ≡ Ok y = sym e ∙ f in cc

size_in : (stage : Stage) (s : ClientSession) (e : Effect Sent) → sent_in s stage ≡ Ok e → e.session.size ≡ s.size
size_in client.Idle s e is = absurd (cc)
size_in (client.Sending kind left packets) s e is =
    ap (λ (x : Effect Sent). x.session.size) (sym (ok_is (sent_of s kind left packets) e (Ok (sent_of s kind left packets)) refl is)) ∙ packet_size s kind left packets
size_in client.Reading s e is = absurd (cc)
size_in client.Cancelling s e is = absurd (cc)
size_in (client.Broken fault) s e is = absurd (cc)

-- ---- What the model's sending leaves

-- It is a request's that is sending.
record IsSent (room : ℕ) (c : Connection) (current : Option world.Record) (p : Phase) (d : Connection) : Type 0 where
  request : world.Record
  newest : current ≡ Some request
  sending : is_sending p ≡ true
  then : d ≡ sends room request c

does_is : (x y : Outcome) (c d : Connection) → Does x c ≡ Does y d → c ≡ d
does_is x y c d e = cc

sent_where : (p : Phase) (room : ℕ) (current : Option world.Record) (c d : Connection) (what : Outcome) → sends_in p room current c ≡ Does what d → IsSent room c current p d
sent_where Settled room None c d what e = absurd (cc)
sent_where Settled room (Some q) c d what e = absurd (cc)
sent_where Asked room None c d what e = absurd (cc)
sent_where Asked room (Some q) c d what e = record { request = q; newest = refl; sending = refl; then = sym (does_is _ what _ d e) }
sent_where Sending room None c d what e = absurd (cc)
sent_where Sending room (Some q) c d what e = record { request = q; newest = refl; sending = refl; then = sym (does_is _ what _ d e) }
sent_where Reading room None c d what e = absurd (cc)
sent_where Reading room (Some q) c d what e = absurd (cc)
sent_where Cancelling room None c d what e = absurd (cc)
sent_where Cancelling room (Some q) c d what e = absurd (cc)

standing_by_last : (b : Bool) (room : ℕ) (q : world.Record) (c : Connection) → (sends_by b room q c).standing ≡ c.standing
standing_by_last true room q c = refl
standing_by_last false room q c = refl

below_by_last : (b : Bool) (room : ℕ) (q : world.Record) (c : Connection) → (sends_by b room q c).to_client ≡ c.to_client
below_by_last true room q c = refl
below_by_last false room q c = refl

past_by_last : (b : Bool) (room : ℕ) (q : world.Record) (c : Connection) → (sends_by b room q c).past ≡ c.past
past_by_last true room q c = refl
past_by_last false room q c = refl

-- ---- The newest request

-- One that sends is open, before and after.
open_at : (p : Phase) (fate : world.Fate) (out : Out) → is_sending p ≡ true → PhaseTells p fate out → (fate ≡ world.Open) × (status_by fate false (phase_by fate out) ≡ status.Open)
open_at Settled fate out e t = absurd (cc)
open_at Asked fate out e t = (t.0, rw (t.0, t.1) refl)
open_at Sending fate out e t = (t.0, rw (t.0, t.2) refl)
open_at Reading fate out e t = absurd (cc)
open_at Cancelling fate out e t = absurd (cc)

still_open : (fate : world.Fate) (out next : Out) → status_by world.Open false (phase_by world.Open next) ≡ status.Open → (fate ≡ world.Open) × (status_by fate false (phase_by fate out) ≡ status.Open) → status_by fate false (phase_by fate out) ≡ status_by fate false (phase_by fate next)
still_open fate out next then o = o.1 ∙ sym (ap (λ x. status_by x false (phase_by x next)) o.0 ∙ then)

newest_sent : (b : Bool) (room number : ℕ) (r : Option Record) (q : world.Record) (c : Connection) → (q.fate ≡ world.Open) × (status_by q.fate false (phase_of q) ≡ status.Open) → IsNewest number false r (Some q) → IsNewest number false r (sends_by b room q c).current
newest_sent b room number None q c e h = absurd h
newest_sent true room number (Some r) q c e h = record { lease = h.lease; conn = h.conn; mark = h.mark; status = h.status ∙ still_open q.fate q.out (Whole (packets_of q.out + 1)) refl e; ran = h.ran; tokens = h.tokens }
newest_sent false room number (Some r) q c e h = record { lease = h.lease; conn = h.conn; mark = h.mark; status = h.status ∙ still_open q.fate q.out (Begun (packets_of q.out + 1)) refl e; ran = h.ran; tokens = h.tokens }

-- ---- The connection then

-- What the model's sending came to: the newest request sent this.
next_sent : {E S : Type 0} → SentMore up_bytes → ((q : world.Record) → PhaseTells (phase_of q) q.fate q.out) → (number size room : ℕ) (engine : E) (link new : Link E S) (seat : Seat) (pipe then : Option Pipe) (c : Connection) (e : Effect Sent) (a : Acted)
    → RepresentsConnection number size engine link seat pipe c → link.is_cut ≡ false
    → ((q : world.Record) → c.current ≡ Some q → MatchesServer link.server (sends room q c))
    → sends_in (phase c) room c.current c ≡ a → RefinesSend c (Ok e) a → e.session.size ≡ seat.client.size
    → up_underway (after a c) ≤ 18446744073709551615
    → Handed ToServer link new pipe then e.bytes
    → (outcome.Sent (send_outcome e.answer) ≡ outcome_of a) × RepresentsConnection number size engine new (seated seat.place e.session) then (after a c)
next_sent appends tells number size room engine link new seat pipe then c e (Refuses why) i live stays is alike sized few h = absurd alike
next_sent appends tells number size room engine link new seat pipe then c e (Does what d) i live stays is alike sized few h =
    let w = sent_where (phase c) room c.current c d what is in
    let v = (i.lives live).stands in
    let last : Bool = sends_last room w.request in
    let sending : is_sending (phase_of w.request) ≡ true = ap (λ o. is_sending (phase_in o)) (sym w.newest) ∙ w.sending in (
      sym alike.0,
      sent_played appends number size engine link new seat e.session link.current seat.place pipe then c d e.bytes i live h
          (ap (λ x. x.standing) w.then ∙ standing_by_last last room w.request c ∙ sym i.standing ∙ ap (λ (b : Bool). standing_by b seat.place) live)
          sized alike.1
          (subst (λ (x : Connection). MatchesServer link.server x) (sym w.then) (stays w.request w.newest))
          alike.2
          (ap (λ x. x.to_client) w.then ∙ below_by_last last room w.request c)
          (ap (λ x. x.past) w.then ∙ past_by_last last room w.request c)
          (subst (λ (x : Connection). IsNewest number false link.current x.current) (sym w.then)
          (newest_sent last room number link.current w.request c (open_at (phase_of w.request) w.request.fate w.request.out sending (tells w.request))
          (subst (λ (o : Option world.Record). IsNewest number false link.current o) w.newest (subst (λ (b : Bool). IsNewest number b link.current c.current) live i.newest))))
          few,
    )

pub packet_played : {E S : Type 0} → SentMore up_bytes → ((q : world.Record) → PhaseTells (phase_of q) q.fate q.out) → (number size : ℕ) (engine : E) (link mid new : Link E S) (seat : Seat) (pipe then : Option Pipe) (c : Connection) (bytes : List ℕ) (e : Effect Sent)
    → RepresentsConnection number size engine link seat pipe c → link.is_cut ≡ false
    → RefinesSend c (sent seat.client) (sends_in (phase c) (room seat.client) c.current c)
    → ((q : world.Record) → c.current ≡ Some q → MatchesServer link.server (sends (size - 8) q c))
    → sent seat.client ≡ Ok e
    → up_underway (after (sends_in (phase c) (size - 8) c.current c) c) ≤ 18446744073709551615
    → mid ≡ link → bytes ≡ e.bytes
    → Handed ToServer mid new pipe then bytes
    → (outcome.Sent (send_outcome e.answer) ≡ outcome_of (sends_in (phase c) (size - 8) c.current c))
    × RepresentsConnection number size engine new (seated seat.place e.session) then (after (sends_in (phase c) (size - 8) c.current c) c)
packet_played {E} {S} appends tells number size engine link mid new seat pipe then c bytes e i live goes stays is few at out h =
    let v = i.lives live in
    let alike : RefinesSend c (Ok e) (sends_in (phase c) (size - 8) c.current c) =
    subst (λ (n : ℕ). RefinesSend c (Ok e) (sends_in (phase c) (n - 8) c.current c)) v.size_is
    (subst (λ r. RefinesSend c r (sends_in (phase c) (room seat.client) c.current c)) is goes) in
    next_sent appends tells number size (size - 8) engine link new seat pipe then c e (sends_in (phase c) (size - 8) c.current c) i live stays refl alike (size_in seat.client.stage seat.client e is) few
    (subst (λ (l : Link E S). Handed ToServer l new pipe then e.bytes) at (subst (λ (bs : List ℕ). Handed ToServer mid new pipe then bs) out h))

-- ---- Refusing

refuses_alike : (c : Connection) (r : Result (Effect Sent) ClientRefusal) (a : Acted) → is_ok r ≡ false → RefinesSend c r a → a ≡ Refuses NotSending
refuses_alike c (Ok e) a err h = absurd (cc)
refuses_alike c (Err why) (Refuses because) err h = ap Refuses h.1
refuses_alike c (Err why) (Does what d) err h = absurd h

pub packet_refused : {E S : Type 0} (number size : ℕ) (engine : E) (link new : Link E S) (seat next : Seat) (pipe : Option Pipe) (c : Connection)
    → RepresentsConnection number size engine link seat pipe c → link.is_cut ≡ false
    → RefinesSend c (sent seat.client) (sends_in (phase c) (room seat.client) c.current c)
    → is_ok (sent seat.client) ≡ false → new ≡ link → next ≡ seat
    → (outcome.Refused NotSending ≡ outcome_of (sends_in (phase c) (size - 8) c.current c))
    × RepresentsConnection number size engine new next pipe (after (sends_in (phase c) (size - 8) c.current c) c)
packet_refused {E} {S} number size engine link new seat next pipe c i live goes err same stays =
    let v = i.lives live in
    let is : sends_in (phase c) (size - 8) c.current c ≡ Refuses NotSending =
    subst (λ (n : ℕ). sends_in (phase c) (n - 8) c.current c ≡ Refuses NotSending) v.size_is
    (refuses_alike c (sent seat.client) (sends_in (phase c) (room seat.client) c.current c) err goes) in (
      ap outcome_of (sym is),
      subst (λ (a : Acted). RepresentsConnection number size engine new next pipe (after a c)) (sym is)
          (rw (same, stays) i),
    )

-- ---- What the client answered

pub none_sent : (r : Result (Effect Sent) ClientRefusal) (o : Option SendOutcome) (P : Effect Sent → Type 0) → ((e : Effect Sent) → P e → o ≡ Some (send_outcome e.answer)) → o ≡ None → IfOk r P → is_ok r ≡ false
none_sent (Ok e) o P tells none h = let differ : None ≡ Some (send_outcome e.answer) = sym none ∙ tells e h in absurd (cc)
none_sent (Err why) o P tells none h = refl

pub some_sent : (r : Result (Effect Sent) ClientRefusal) → ¬ (is_ok r ≡ false) → (e : Effect Sent) × (r ≡ Ok e)
some_sent (Ok e) h = (e, refl)
some_sent (Err why) h = absurd (h refl)

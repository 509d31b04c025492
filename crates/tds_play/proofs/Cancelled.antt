-- A connection whose newest request is cancelled, in a play and in the model.
use Rattle.std.specs.Prelude.{is_none}
use Rattle.std.proofs.Common.{◌≡◌, ◌≤◌, ◌∙◌, ℕ, Bool, true, false, cond, refl, sym, ap, subst, Option, Some, None, option_map, Result, Ok, List}
use Rattle.tds_packet.specs.declared.kind.Direction.TheVariants.{ToServer}
use Rattle.tds_client.specs.declared.fault.ClientRefusal.{ClientRefusal}
use Rattle.tds_client.specs.declared.state.Cancelled.{Cancelled}
use Rattle.tds_client.specs.declared.state.Cancelled.TheVariants as client
use Rattle.tds_client.specs.Sending.{Effect, cancelled_in, cancelled_sending}
use Rattle.tds_client.specs.Session as session
use Rattle.tds_client.specs.Session.{ClientSession, Stage, unless_idle}
use Rattle.tds_packet.specs.declared.kind.Kind.{Kind}
use Rattle.tds_world.specs.declared.outcome.Outcome.TheVariants as outcome
use Rattle.tds_world.specs.declared.report.Place.{Place}
use Rattle.tds_world.specs.declared.report.RequestStatus.TheVariants as status
use Rattle.tds_world.specs.Caller.{cancels, cancels_by, cancels_in}
use Rattle.tds_world.specs.Caller as model
use Rattle.tds_world.specs.Connection.{Connection, In, is_idle, up_underway}
use Rattle.tds_world.specs.Entries.{up_bytes}
use Rattle.tds_world.specs.Phase.{Phase, Settled, Asked, Sending, Reading, Cancelling, phase_by, phase_in, phase_of, status_by}
use Rattle.tds_world.specs.PhaseTells.{PhaseTells}
use Rattle.tds_world.specs.Pool.{comes_back, place_back, returned_as}
use Rattle.tds_world.specs.Record.{Out}
use Rattle.tds_world.specs.Record as world
use Rattle.tds_ends.specs.Refines.{cancel_outcome}
use Rattle.tds_play.specs.Acts.{cancelled_as, with_status}
use Rattle.tds_ends.specs.Refines.{RefinesCancel}
use Rattle.tds_play.specs.Lending.{standing_by}
use Rattle.tds_play.specs.Seats.{Seat, seated}
use Rattle.tds_play.specs.Pipe.{Pipe}
use Rattle.tds_play.specs.Plays.{RepresentsConnection, after, outcome_of}
use Rattle.tds_play.specs.Requests.{IsNewest}
use Rattle.tds_ends.specs.Stands.{Sends}
use Rattle.tds_ends.specs.Stays.{RefinesIdle, PoolIsUnseen, ServerStays}
use Rattle.tds_play.specs.declared.link.Link.{Link}
use Rattle.tds_play.specs.declared.request.Record.{Record}
use Rattle.tds_play.proofs.Outward.{Handed, SentMore, sent_played}

-- ---- The client

either_size : (b : Bool) (x y : Effect Cancelled) (n : ℕ) → x.session.size ≡ n → y.session.size ≡ n → (cond b x y).session.size ≡ n
either_size true x y n e f = e
either_size false x y n e f = f

begun_size : (s : ClientSession) (kind : Kind) (packets : ℕ) → (cancelled_sending s kind packets).session.size ≡ s.size
unfolding cancelled_sending
begun_size s kind packets = either_size _ _ _ s.size refl refl

size_is : (r : Result (Effect Cancelled) ClientRefusal) (x e : Effect Cancelled) (n : ℕ) → r ≡ Ok x → r ≡ Ok e → x.session.size ≡ n → e.session.size ≡ n
size_is r x e n is also h = let same : Ok x ≡ Ok e = sym is ∙ also in let eq : x ≡ e = cc in subst (λ (y : Effect Cancelled). y.session.size ≡ n) eq h

size_in : (stage : Stage) (s : ClientSession) (e : Effect Cancelled) → cancelled_in s stage ≡ Ok e → e.session.size ≡ s.size
size_in session.Idle s e is = size_is _ _ e s.size refl is refl
size_in (session.Sending kind left packets) s e is = size_is _ _ e s.size refl is (begun_size s kind packets)
size_in session.Reading s e is = size_is _ _ e s.size refl is refl
size_in session.Cancelling s e is = size_is _ _ e s.size refl is refl
size_in (session.Broken fault) s e is = absurd (cc)

-- ---- What the model's cancelling leaves

-- All that isn't the newest request's and isn't sent.
record Leaves (c d : Connection) : Type 0 where
  standing : d.standing ≡ c.standing
  below : d.to_client ≡ c.to_client
  past : d.past ≡ c.past

leaves_by : (p : Phase) (q : world.Record) (c : Connection) → Leaves c (cancels_by p q c)
leaves_by Settled q c = record { standing = refl; below = refl; past = refl }
leaves_by p q c = record { standing = refl; below = refl; past = refl }

leaves_in : (current : Option world.Record) (c : Connection) → Leaves c (cancels_in current c)
leaves_in None c = record { standing = refl; below = refl; past = refl }
leaves_in (Some q) c = leaves_by (phase_of q) q c

-- ---- The newest request

-- The newest request behind the client's answer.
abbrev current_behind : Cancelled → Option Record → Option Record
current_behind client.Nothing r = r
current_behind client.Already r = r
current_behind client.Unsent r = option_map (with_status status.Unsent) r
current_behind client.Asked r = option_map (with_status status.Cancelling) r

link_by : {E S : Type 0} (a : Cancelled) (link : Link E S) → cancelled_as a link ≡ record link { current = current_behind a link.current }
link_by client.Nothing link = refl
link_by a link = refl

-- One of which nothing was out is never sent.
unsent_is : (fate : world.Fate) (out : Out) → PhaseTells Asked fate out → status.Unsent ≡ status_by world.Cancelled false (phase_by world.Cancelled out)
unsent_is fate out t = rw t.1 refl

-- One of which some was out waits for the acknowledgement.
sending_is : (fate : world.Fate) (out : Out) → PhaseTells Sending fate out → status.Cancelling ≡ status_by world.Cancelled false (phase_by world.Cancelled out)
sending_is fate out t = rw t.2 refl

reading_is : (fate : world.Fate) (out : Out) → PhaseTells Reading fate out → status.Cancelling ≡ status_by world.Cancelled false (phase_by world.Cancelled out)
reading_is fate out t = rw t.2 refl

with_status_of : (number : ℕ) (r : Option Record) (q : world.Record) (s : _) → s ≡ status_by world.Cancelled false (phase_by world.Cancelled q.out) → IsNewest number false r (Some q) → IsNewest number false (option_map (with_status s) r) (Some (world.cancelled q))
with_status_of number None q s e h = absurd h
with_status_of number (Some r) q s e h = record { lease = h.lease; conn = h.conn; mark = h.mark; status = e; ran = h.ran; tokens = h.tokens }

newest_by : (p : Phase) (a : Cancelled) (number : ℕ) (r : Option Record) (q : world.Record) (c : Connection) → c.current ≡ Some q → PhaseTells p q.fate q.out → model.cancel_outcome p ≡ cancel_outcome a → IsNewest number false r (Some q) → IsNewest number false (current_behind a r) (cancels_by p q c).current
newest_by Settled client.Nothing number r q c is at told h = subst (IsNewest number false r) (sym is) h
newest_by Settled client.Already number r q c is at told h = absurd (cc)
newest_by Settled client.Unsent number r q c is at told h = absurd (cc)
newest_by Settled client.Asked number r q c is at told h = absurd (cc)
newest_by Cancelling client.Nothing number r q c is at told h = absurd (cc)
newest_by Cancelling client.Already number r q c is at told h = subst (IsNewest number false r) (sym is) h
newest_by Cancelling client.Unsent number r q c is at told h = absurd (cc)
newest_by Cancelling client.Asked number r q c is at told h = absurd (cc)
newest_by Asked client.Nothing number r q c is at told h = absurd (cc)
newest_by Asked client.Already number r q c is at told h = absurd (cc)
newest_by Asked client.Unsent number r q c is at told h = with_status_of number r q status.Unsent (unsent_is q.fate q.out at) h
newest_by Asked client.Asked number r q c is at told h = absurd (cc)
newest_by Sending client.Nothing number r q c is at told h = absurd (cc)
newest_by Sending client.Already number r q c is at told h = absurd (cc)
newest_by Sending client.Unsent number r q c is at told h = absurd (cc)
newest_by Sending client.Asked number r q c is at told h = with_status_of number r q status.Cancelling (sending_is q.fate q.out at) h
newest_by Reading client.Nothing number r q c is at told h = absurd (cc)
newest_by Reading client.Already number r q c is at told h = absurd (cc)
newest_by Reading client.Unsent number r q c is at told h = absurd (cc)
newest_by Reading client.Asked number r q c is at told h = with_status_of number r q status.Cancelling (reading_is q.fate q.out at) h

newest_in : ((q : world.Record) → PhaseTells (phase_of q) q.fate q.out) → (current : Option world.Record) (a : Cancelled) (number : ℕ) (r : Option Record) (c : Connection) → c.current ≡ current → model.cancel_outcome (phase_in current) ≡ cancel_outcome a → IsNewest number false r current → IsNewest number false (current_behind a r) (cancels_in current c).current
newest_in tells None client.Nothing number r c is told h = subst (IsNewest number false r) (sym is) h
newest_in tells None client.Already number r c is told h = absurd (cc)
newest_in tells None client.Unsent number r c is told h = absurd (cc)
newest_in tells None client.Asked number r c is told h = absurd (cc)
newest_in tells (Some q) a number r c is told h = newest_by (phase_of q) a number r q c is (tells q) told h

-- ---- The connection then

-- What is promised of the ends and of the model: what a client sends is appended, a phase tells what it
-- does, the server stays, and neither end sees the pool.
pub record RefinesCancels (E : Type 0) : Type 0 where
  pub appends : SentMore up_bytes
  pub tells : (q : world.Record) → PhaseTells (phase_of q) q.fate q.out
  pub stays : ServerStays E cancels
  pub unseen : PoolIsUnseen E

-- It was cancelled, and the connection may stand elsewhere then.
cancelled_at : {E S : Type 0} → RefinesCancels E → (number size : ℕ) (engine : E) (link new : Link E S) (seat : Seat) (p : Place) (pipe then : Option Pipe) (c d : Connection) (bytes : List ℕ)
    → RepresentsConnection number size engine link seat pipe c → link.is_cut ≡ false
    → (a : RefinesCancel seat.client c) → bytes ≡ a.0.bytes
    → d ≡ record (cancels c) { standing = In p }
    → up_underway (cancels c) ≤ 18446744073709551615
    → Handed ToServer (record link { current = current_behind a.0.answer link.current }) new pipe then bytes
    → RepresentsConnection number size engine new (seated p a.0.session) then d
cancelled_at {E} {S} so number size engine link new seat p pipe then c d bytes i live a out at few h =
    let e = a.0 in
    let v = (i.lives live).stands in
    let l = leaves_in c.current c in
    let x : Connection = record (cancels c) { standing = In p } in
    subst (λ (y : Connection). RepresentsConnection number size engine new (seated p e.session) then y) (sym at)
    (sent_played so.appends number size engine link new seat e.session (current_behind e.answer link.current) p pipe then c x bytes i live h refl
    (size_in seat.client.stage seat.client e a.1)
    (so.unseen.client (In p) e.session (cancels c) a.3)
    (so.unseen.server (cancels c).mark (In p) link.server (cancels c) (so.stays link.server c v.server))
    (subst (λ (bs : List ℕ). Sends up_bytes bs c.to_server (cancels c).to_server) (sym out) a.4)
    l.below l.past
    (newest_in so.tells c.current e.answer number link.current c refl a.2 (subst (λ (b : Bool). IsNewest number b link.current c.current) live i.newest))
    few)

pub cancelled_played : {E S : Type 0} → RefinesCancels E → (number size : ℕ) (engine : E) (link mid new : Link E S) (seat : Seat) (pipe then : Option Pipe) (c : Connection) (bytes : List ℕ)
    → RepresentsConnection number size engine link seat pipe c → link.is_cut ≡ false
    → (a : RefinesCancel seat.client c) → mid ≡ cancelled_as a.0.answer link → bytes ≡ a.0.bytes
    → up_underway (cancels c) ≤ 18446744073709551615
    → Handed ToServer mid new pipe then bytes
    → RepresentsConnection number size engine new (seated seat.place a.0.session) then (cancels c)
cancelled_played {E} {S} so number size engine link mid new seat pipe then c bytes i live a is out few h =
    let l = leaves_in c.current c in
    cancelled_at so number size engine link new seat seat.place pipe then c (cancels c) bytes i live a out
    (ap (λ s. record (cancels c) { standing = s }) (l.standing ∙ sym i.standing ∙ ap (λ (b : Bool). standing_by b seat.place) live))
    few
    (subst (λ (x : Link E S). Handed ToServer x new pipe then bytes) (is ∙ link_by a.0.answer link) h)

-- The lease ends then.
pub back_played : {E S : Type 0} → RefinesCancels E → RefinesIdle → (number size : ℕ) (engine : E) (link mid new : Link E S) (seat : Seat) (idle : Bool) (pipe then : Option Pipe) (c : Connection) (bytes : List ℕ)
    → RepresentsConnection number size engine link seat pipe c → link.is_cut ≡ false
    → (a : RefinesCancel seat.client c) → mid ≡ cancelled_as a.0.answer link → bytes ≡ a.0.bytes
    → idle ≡ is_none (unless_idle a.0.session.stage)
    → up_underway (cancels c) ≤ 18446744073709551615
    → Handed ToServer mid new pipe then bytes
    → (outcome.GivenBack (returned_as idle) ≡ outcome_of (comes_back (cancels c))) × RepresentsConnection number size engine new (seated (place_back idle) a.0.session) then (after (comes_back (cancels c)) c)
back_played {E} {S} so alike number size engine link mid new seat idle pipe then c bytes i live a is out waits few h =
    let same : idle ≡ is_idle (cancels c) = waits ∙ alike a.0.session (cancels c) a.3 in (
      ap (λ (b : Bool). outcome.GivenBack (returned_as b)) same,
      cancelled_at so number size engine link new seat (place_back idle) pipe then c (after (comes_back (cancels c)) c) bytes i live a out
          (ap (λ (b : Bool). record (cancels c) { standing = In (place_back b) }) (sym same))
          few
          (subst (λ (x : Link E S). Handed ToServer x new pipe then bytes) (is ∙ link_by a.0.answer link) h),
    )

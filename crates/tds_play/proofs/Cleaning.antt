-- A connection that is cleaned, in a play and in the model.
use Rattle.std.proofs.Common.{◌≡◌, ◌≤◌, ◌∙◌, ◌-◌, ℕ, Bool, true, false, cond, refl, sym, ap, subst, List, [], Option, Some, None, Result, Ok}
use Rattle.std.specs.Prelude.{is_none, ◌&&◌}
use Rattle.tds_client.specs.Sending.{Effect, room, sent, sent_in, sent_of, started}
use Rattle.tds_client.specs.Session as client
use Rattle.tds_client.specs.Session.{ClientSession, Stage, marked, unless_idle}
use Rattle.tds_client.specs.declared.state.Sent.{Sent}
use Rattle.tds_client.specs.declared.state.Sent.TheVariants as sents
use Rattle.tds_packet.specs.Resets.{strongest}
use Rattle.tds_packet.specs.declared.kind.Direction.TheVariants.{ToServer}
use Rattle.tds_packet.specs.declared.kind.Kind.{Kind}
use Rattle.tds_packet.specs.declared.status.Reset.TheVariants.{Full}
use Rattle.tds_pool.specs.Calls as pool
use Rattle.tds_pool.specs.Calls.{asks_reset, free_one, only, refuses_clean}
use Rattle.tds_pool.specs.Connections as pooled
use Rattle.tds_pool.specs.declared.seat.Place.{Place as PoolPlace}
use Rattle.tds_pool.specs.declared.seat.Place.TheVariants as places
use Rattle.tds_session.specs.Answer.{Answers}
use Rattle.tds_world.specs.declared.event.Event.TheVariants as event
use Rattle.tds_world.specs.declared.event.Setup.{Setup}
use Rattle.tds_world.specs.declared.outcome.Outcome.TheVariants as outcome
use Rattle.tds_world.specs.declared.outcome.Refusal.{Refusal}
use Rattle.tds_world.specs.declared.outcome.Refusal.TheVariants.{NotIdle}
use Rattle.tds_world.specs.declared.outcome.SendOutcome.TheVariants as last
use Rattle.tds_world.specs.declared.report.Place.TheVariants.{Draining}
use Rattle.tds_world.specs.Caller.{asks, sends, sends_by, sends_last}
use Rattle.tds_world.specs.Cleaning.{aside, can_clean, clean_request, cleaning_record, cleans}
use Rattle.tds_world.specs.Connection.{Connection, Standing, In, is_idle, phase, up_underway}
use Rattle.tds_world.specs.Entries.{up_bytes}
use Rattle.tds_world.specs.Events.{cleans_by, sends_in, sent_as}
use Rattle.tds_world.specs.Phase.{phase_of}
use Rattle.tds_world.specs.PhaseTells.{PhaseTells}
use Rattle.tds_world.specs.Pool.{Acted, Refuses, Does, is_free}
use Rattle.tds_world.specs.Record as world
use Rattle.tds_world.specs.World.{World, next_number}
use Rattle.tds_ends.specs.Refines.{RefinesSend, send_outcome}
use Rattle.tds_ends.specs.Stands.{MatchesClient, MatchesServer}
use Rattle.tds_ends.specs.Stays.{RefinesIdle, PoolIsUnseen}
use Rattle.tds_server.specs.State.{ServerState}
use Rattle.tds_play.specs.Links.{IsAskedOn}
use Rattle.tds_play.specs.Pipe.{Pipe}
use Rattle.tds_play.specs.Plays.{RepresentsConnection, acts_on, after, outcome_of}
use Rattle.tds_play.specs.Pooled.{IsNotCleaned, place_by, seat_by}
use Rattle.tds_play.specs.Seats.{Seat, seated}
use Rattle.tds_play.specs.declared.link.Link.{Link}
use Rattle.tds_play.proofs.Acting.{event_at, stands_in}
use Rattle.tds_play.proofs.Asked.{RefinesAsks, asked_played}
use Rattle.tds_play.proofs.Outward.{Handed, SentMore}
use Rattle.tds_play.proofs.Placed.{RefinesMarks, idle_settled, stood}
use Rattle.tds_play.proofs.Sent.{packet_played}

-- ---- Where it stands

stands_so : {E S : Type 0} (n size holder : ℕ) (engine : E) (link : Link E S) (o : Option pooled.Connection) (pc : pooled.Connection) (pipe : Option Pipe) (c : Connection) → o ≡ Some pc → RepresentsConnection n size engine link (seat_by holder o) pipe c → link.is_cut ≡ false → c.standing ≡ In (place_by holder pc.place)
stands_so n size holder engine link o pc pipe c found i live =
    stands_in n size engine link (seat_by holder o) pipe c i live ∙ ap (λ (x : Option pooled.Connection). In (seat_by holder x).place) found

acts_so : (setup : Setup) (answers : Answers) (w : World) (k n holder : ℕ) (p : PoolPlace) (c : Connection) → c.standing ≡ In (place_by holder p)
    → acts_on setup answers w (event.Clean k) n c
    ≡ cleans_by (is_free (In (place_by holder p))) (can_clean (setup.packet_size - 8) (next_number w.leases) (next_number w.asked_on) n c) (setup.packet_size - 8) (next_number w.leases) (next_number w.asked_on) n c
acts_so setup answers w k n holder p c at =
    event_at setup answers w (event.Clean k) (event.Clean k) n c (place_by holder p) at refl
    ∙ ap (λ (s : Standing). cleans_by (is_free s) (can_clean (setup.packet_size - 8) (next_number w.leases) (next_number w.asked_on) n c) (setup.packet_size - 8) (next_number w.leases) (next_number w.asked_on) n c) at

-- ---- It is refused

waits_there : (stage : Stage) (why : Refusal) → IsNotCleaned (pool.unless_idle stage) why → (why ≡ NotIdle) × (is_none (unless_idle stage) ≡ false)
waits_there client.Idle why h = absurd h
waits_there (client.Sending kind left packets) why h = (h, refl)
waits_there client.Reading why h = (h, refl)
waits_there client.Cancelling why h = (h, refl)
waits_there (client.Broken fault) why h = (h, refl)

refused_at : (p : PoolPlace) (holder : ℕ) (pc : pooled.Connection) (why : Refusal) (can : Bool) (room lease number n : ℕ) (c : Connection) → IsNotCleaned (refuses_clean (cond (pool.is_free p) (Some pc) None)) why → (IsNotCleaned (pool.unless_idle pc.client.stage) why → (why ≡ NotIdle) × (can ≡ false)) → cleans_by (is_free (In (place_by holder p))) can room lease number n c ≡ Refuses why
refused_at places.Free holder pc why can room lease number n c h idle =
    let z = idle h in
    ap (λ (b : Bool). cleans_by true b room lease number n c) z.1 ∙ ap Refuses (sym z.0)
refused_at places.Leased holder pc why can room lease number n c h idle = ap Refuses (sym h)
refused_at places.Kept holder pc why can room lease number n c h idle = ap Refuses (sym h)
refused_at places.Draining holder pc why can room lease number n c h idle = ap Refuses (sym h)
refused_at places.Cleaning holder pc why can room lease number n c h idle = ap Refuses (sym h)

pub cleans_refused : {E S : Type 0} → RefinesIdle → (n holder : ℕ) (engine : E) (link : Link E S) (pcs : List pooled.Connection) (pc : pooled.Connection) (pipe : Option Pipe) (c : Connection) (setup : Setup) (answers : Answers) (w : World) (k : ℕ) (why : Refusal)
    → pooled.numbered n pcs ≡ Some pc → RepresentsConnection n setup.packet_size engine link (seat_by holder (pooled.numbered n pcs)) pipe c → link.is_cut ≡ false
    → IsNotCleaned (refuses_clean (free_one n pcs)) why
    → acts_on setup answers w (event.Clean k) n c ≡ Refuses why
cleans_refused {E} {S} waits n holder engine link pcs pc pipe c setup answers w k why found i live h =
    let there : RepresentsConnection n setup.packet_size engine link (seat_by holder (Some pc)) pipe c = subst (λ (o : Option pooled.Connection). RepresentsConnection n setup.packet_size engine link (seat_by holder o) pipe c) found i in
    acts_so setup answers w k n holder pc.place c (stands_so n setup.packet_size holder engine link (pooled.numbered n pcs) pc pipe c found i live)
    ∙ refused_at pc.place holder pc why (can_clean (setup.packet_size - 8) (next_number w.leases) (next_number w.asked_on) n c) (setup.packet_size - 8) (next_number w.leases) (next_number w.asked_on) n c
    (subst (λ (o : Option pooled.Connection). IsNotCleaned (refuses_clean (only (λ (d : pooled.Connection). pool.is_free d.place) o)) why) found h)
    (λ z.
    let y = waits_there pc.client.stage why z in
    (y.0, ap (λ (b : Bool). b && sends_last (setup.packet_size - 8) (cleaning_record (next_number w.leases) (next_number w.asked_on) n c)) (sym (waits pc.client c (there.lives live).stands.client) ∙ y.1)))

-- ---- It is cleaned

free_place : (p : PoolPlace) (holder : ℕ) → pool.is_free p ≡ true → is_free (In (place_by holder p)) ≡ true
free_place places.Free holder e = refl
free_place p holder e = absurd (cc)

pub cleans_there : {E S : Type 0} (n holder lease number : ℕ) (engine : E) (link : Link E S) (pcs : List pooled.Connection) (pc : pooled.Connection) (pipe : Option Pipe) (c : Connection) (setup : Setup) (answers : Answers) (w : World) (k : ℕ)
    → pooled.numbered n pcs ≡ Some pc → RepresentsConnection n setup.packet_size engine link (seat_by holder (pooled.numbered n pcs)) pipe c → link.is_cut ≡ false
    → pool.is_free pc.place ≡ true → lease ≡ next_number w.leases → number ≡ next_number w.asked_on
    → acts_on setup answers w (event.Clean k) n c ≡ cleans_by true (can_clean (setup.packet_size - 8) lease number n c) (setup.packet_size - 8) lease number n c
cleans_there n holder lease number engine link pcs pc pipe c setup answers w k found i live free leased asked =
    acts_so setup answers w k n holder pc.place c (stands_so n setup.packet_size holder engine link (pooled.numbered n pcs) pc pipe c found i live)
    ∙ ap (λ (b : Bool). cleans_by b (can_clean (setup.packet_size - 8) (next_number w.leases) (next_number w.asked_on) n c) (setup.packet_size - 8) (next_number w.leases) (next_number w.asked_on) n c) (free_place pc.place holder free)
    ∙ ap (λ (l : ℕ). cleans_by true (can_clean (setup.packet_size - 8) l (next_number w.asked_on) n c) (setup.packet_size - 8) l (next_number w.asked_on) n c) (sym leased)
    ∙ ap (λ (m : ℕ). cleans_by true (can_clean (setup.packet_size - 8) lease m n c) (setup.packet_size - 8) lease m n c) (sym asked)

-- ---- Its request goes out

-- The client knows the columns that it knew.
either_columns : (b : Bool) (x y : Effect Sent) (k : Option ℕ) → x.session.columns ≡ k → y.session.columns ≡ k → (cond b x y).session.columns ≡ k
either_columns true x y k e f = e
either_columns false x y k e f = f

packet_columns : (s : ClientSession) (kind : Kind) (left : List ℕ) (packets : ℕ) → (sent_of s kind left packets).session.columns ≡ s.columns
unfolding sent_of
packet_columns s kind left packets = either_columns _ _ _ s.columns refl refl

ok_is : {A B : Type 0} (x y : A) (r : Result A B) → r ≡ Ok x → r ≡ Ok y → x ≡ y
ok_is x y r e f = let same : Ok x ≡ Ok y = sym e ∙ f in cc

columns_in : (stage : Stage) (s : ClientSession) (e : Effect Sent) → sent_in s stage ≡ Ok e → e.session.columns ≡ s.columns
columns_in client.Idle s e is = absurd (cc)
columns_in (client.Sending kind left packets) s e is =
    ap (λ (x : Effect Sent). x.session.columns) (sym (ok_is (sent_of s kind left packets) e (Ok (sent_of s kind left packets)) refl is)) ∙ packet_columns s kind left packets
columns_in client.Reading s e is = absurd (cc)
columns_in client.Cancelling s e is = absurd (cc)
columns_in (client.Broken fault) s e is = absurd (cc)

pub sent_columns : (s : ClientSession) (e : Effect Sent) → sent s ≡ Ok e → e.session.columns ≡ s.columns
sent_columns s e is = columns_in s.stage s e is

last_is : (b : Bool) → outcome.Sent (sent_as b) ≡ outcome.Sent last.Last → b ≡ true
last_is true e = refl
last_is false e = absurd (cc)

-- What is promised of the ends.
pub record RefinesCleans (E : Type 0) : Type 0 where
  pub unseen : PoolIsUnseen E
  pub waits : RefinesIdle
  pub marks : RefinesMarks
  pub asks_so : RefinesAsks E
  pub goes : (s : ClientSession) (c : Connection) → MatchesClient s c → RefinesSend c (sent s) (sends_in (phase c) (room s) c.current c)
  pub stays : (room : ℕ) (s : ServerState E) (c : Connection) (q : world.Record) → c.current ≡ Some q → MatchesServer s c → MatchesServer s (sends room q c)
  pub appends : SentMore up_bytes
  pub tells : (q : world.Record) → PhaseTells (phase_of q) q.fate q.out

pub cleaned_played : {E S : Type 0} → RefinesCleans E → (n size lease number : ℕ) (engine : E) (link mid new : Link E S) (seat : Seat) (pipe then : Option Pipe) (c : Connection) (s : ClientSession) (e : Effect Sent) (out : List ℕ)
    → RepresentsConnection n size engine link seat pipe c → link.is_cut ≡ false → is_idle c ≡ true → c.parts ≡ []
    → s ≡ asks_reset seat.client clean_request → IsAskedOn lease (Some Full) link mid
    → sent s ≡ Ok e → e.answer ≡ sents.Last → out ≡ e.bytes
    → up_underway (after (cleans_by true (can_clean (size - 8) lease number n c) (size - 8) lease number n c) c) ≤ 18446744073709551615
    → Handed ToServer mid new pipe then out
    → (outcome.Cleaning lease number ≡ outcome_of (cleans_by true (can_clean (size - 8) lease number n c) (size - 8) lease number n c))
    × RepresentsConnection n size engine new (seated Draining e.session) then (after (cleans_by true (can_clean (size - 8) lease number n c) (size - 8) lease number n c) c)
cleaned_played {E} {S} so n size lease number engine link mid new seat pipe then c s e out i live idle rests is asked does answers bytes few handed =
    let s1 : ClientSession = marked seat.client Full in
    let c1 : Connection = aside c in
    let q : world.Record = cleaning_record lease number n c in
    let c2 : Connection = asks number lease n clean_request c1 in
    let i1 : RepresentsConnection n size engine link (seated Draining s1) pipe c1 =
    stood n size engine link seat pipe c s1 Draining (strongest (Some Full) c.mark) i live refl
    (λ m. so.marks seat.client c Full (In Draining) m (idle_settled c idle)) (so.unseen.server (strongest (Some Full) c.mark) (In Draining) link.server c) in
    let i2 : RepresentsConnection n size engine mid (seated Draining s) pipe c2 =
    subst (λ (x : ClientSession). RepresentsConnection n size engine mid (seated Draining x) pipe c2) (sym is)
    (asked_played so.asks_so n size number lease engine clean_request link mid (seated Draining s1) (seated Draining (started s1 clean_request)) pipe c1 i1 live idle rests refl asked) in
    let live2 : mid.is_cut ≡ false = ap (λ l. l.is_cut) asked.rest ∙ live in
    let v = i2.lives live2 in
    let goes = so.goes s c2 v.stands.client in
    let sent_so : RefinesSend c2 (Ok e) (sends_in (phase c2) (size - 8) c2.current c2) =
    subst (λ (m : ℕ). RefinesSend c2 (Ok e) (sends_in (phase c2) (m - 8) c2.current c2)) v.size_is
    (subst (λ r. RefinesSend c2 r (sends_in (phase c2) (room s) c2.current c2)) does goes) in
    let whole : sends_last (size - 8) q ≡ true = last_is (sends_last (size - 8) q) (sent_so.0 ∙ ap (λ (a : Sent). outcome.Sent (send_outcome a)) answers) in
    let can : can_clean (size - 8) lease number n c ≡ true = ap (λ (b : Bool). b && sends_last (size - 8) q) idle ∙ whole in
    let acted : cleans_by true (can_clean (size - 8) lease number n c) (size - 8) lease number n c ≡ Does (outcome.Cleaning lease number) (cleans (size - 8) lease number n c) =
    ap (λ (b : Bool). cleans_by true b (size - 8) lease number n c) can in
    let few2 : up_underway (sends_by (sends_last (size - 8) q) (size - 8) q c2) ≤ 18446744073709551615 =
    subst (λ (b : Bool). up_underway (sends_by b (size - 8) q c2) ≤ 18446744073709551615) (sym whole)
    (subst (λ (a : Acted). up_underway (after a c) ≤ 18446744073709551615) acted few) in
    let goes_out = packet_played so.appends so.tells n size engine mid mid new (seated Draining s) pipe then c2 out e
    i2 live2 goes (λ p at. so.stays (size - 8) mid.server c2 p at v.stands.server) does few2 refl bytes handed in
    let whole_out : RepresentsConnection n size engine new (seated Draining e.session) then (cleans (size - 8) lease number n c) =
    subst (λ (b : Bool). RepresentsConnection n size engine new (seated Draining e.session) then (sends_by b (size - 8) q c2)) whole goes_out.1 in
    subst (λ (a : Acted). (outcome.Cleaning lease number ≡ outcome_of a) × RepresentsConnection n size engine new (seated Draining e.session) then (after a c)) (sym acted)
    (refl, whole_out)

-- A lease that is given back, or a ticket that is abandoned: what the play keeps of its connection, and its seat.
use Rattle.std.proofs.Common.{◌≡◌, ◌∙◌, ◌⊎◌, inl, inr, ℕ, Bool, true, false, List, [], Option, Some, None, Result, Ok, refl, sym, ap, subst, cond}
use Rattle.std.proofs.Math.Dec.{eqb}
use Rattle.std.specs.Prelude.{◌==◌, ◌&&◌, ◌++◌, IfOk, IsSome, is_none, option_map}
use Rattle.tds_client.specs.declared.fault.ClientRefusal.{ClientRefusal}
use Rattle.tds_client.specs.declared.state.Cancelled.{Cancelled}
use Rattle.tds_client.specs.declared.state.Cancelled.TheVariants as answers
use Rattle.tds_client.specs.Packets.{stop_bytes, ignore}
use Rattle.tds_client.specs.Sending.{Effect, cancelled, cancelled_in, cancelled_sending}
use Rattle.tds_client.specs.Session.{ClientSession, Stage, Idle, Sending, Reading, Cancelling, Broken, unless_idle, with_stage}
use Rattle.tds_packet.specs.declared.kind.Kind.{Kind}
use Rattle.tds_pool.specs.Calls.{Returned, abandoned, all_numbers, given_back, is_broken, is_idle, is_kept_for, is_lent_for, kept_for, lent_to, only, rested, rests_at, session_behind, standing}
use Rattle.tds_pool.specs.Calls as calls
use Rattle.tds_pool.specs.Connections.{Connection, PoolState, SameRest, connections, lending_ended_at, numbered, taken_out, with_client}
use Rattle.tds_pool.specs.declared.answers.GivenBack.{GivenBack}
use Rattle.tds_pool.specs.declared.answers.GivenBack.TheVariants as given
use Rattle.tds_pool.specs.declared.lease.Lease.{Lease}
use Rattle.tds_pool.specs.declared.lease.Ticket.{Ticket}
use Rattle.tds_pool.specs.declared.lease.Turn.{Turn}
use Rattle.tds_pool.specs.declared.seat.Place.{Place}
use Rattle.tds_pool.specs.declared.seat.Place.TheVariants as places
use Rattle.tds_world.specs.Pool.{place_back, returned_as}
use Rattle.tds_play.specs.Pooled.{IsGone, IsThere, Spares, came_back, place_by, rests_in, seat_by}
use Rattle.tds_play.specs.Pipe.{Pipe}
use Rattle.tds_play.specs.Plays.{RefinesAct, RepresentsConnection, cut_where}
use Rattle.tds_play.specs.Seats.{Seat, placed_at, seated}
use Rattle.tds_play.specs.declared.link.EventDone.{EventDone}
use Rattle.tds_play.specs.declared.link.Link.{Link}
use Rattle.tds_world.specs.Connection as model
use Rattle.tds_world.specs.Pool.{Acted}
use Rattle.tds_world.specs.declared.report.Place.TheVariants.{Free as PlayFree}
use Rattle.tds_play.proofs.Placed.{DoesWhole}
use Rattle.tds_play.specs.declared.seat.Held.{Held}
use Rattle.tds_play.proofs.pooled.Cancels.{HasNoMore, no_more}
use Rattle.tds_play.proofs.pooled.Changes.{changed_here, taken_gone, taken_none, taken_others}
use Rattle.tds_play.proofs.pooled.Leaves.{Leaves, found_still, standing_found}
use Rattle.tds_play.proofs.pooled.Returned.{abandoned_is, ends, given_back_here, given_back_is, idle_alike, number_found, rest_answer, rest_place, rest_returned}
use Rattle.tds_play.proofs.pooled.Settled.{client_found}

-- ---- What the pool keeps

pub spares_of : (n : ℕ) (cut : Bool) (old new : PoolState) → Leaves n (connections old) (connections new) → (cut ≡ false → all_numbers (connections new) ≡ all_numbers (connections old)) → (cut ≡ true → numbered n (connections new) ≡ None) → SameRest old new → Spares n cut old new
spares_of n cut old new leaves live out rest = record {
  others = leaves.others;
  live = live;
  gone = λ e. sym (ap all_numbers (taken_none n (connections new) (out e))) ∙ leaves.out;
  rest = rest;
}

by_bool : (P : Type 0) (b : Bool) → (b ≡ true → P) → (b ≡ false → P) → P
by_bool P true if_so if_not = if_so refl
by_bool P false if_so if_not = if_not refl

-- Once it is asked for, the play cuts it where the pool closed it, or its link was lost, and takes it out then.
pub back_numbers : (cut rests : Bool) (old q : PoolState) → cut ≡ false → (rests ≡ true → all_numbers (connections q) ≡ all_numbers (connections old)) → (rests ≡ false → cut ≡ true) → all_numbers (connections q) ≡ all_numbers (connections old)
back_numbers cut rests old q lives same closed = by_bool _ rests same (λ e. let bad : true ≡ false = sym (closed e) ∙ lives in absurd (cc))

pub back_spares : (n m : ℕ) (cut rests : Bool) (old q new : PoolState) → m ≡ n → Leaves n (connections old) (connections q) → (rests ≡ true → all_numbers (connections q) ≡ all_numbers (connections old)) → SameRest old q → (rests ≡ false → cut ≡ true) → (cut ≡ false → new ≡ q) → (cut ≡ true → IsGone m q new) → Spares n cut old new
back_spares n m cut rests old q new is leaves same rest closed stays gone = by_bool _ cut cuts lives
  where
    cuts : cut ≡ true → Spares n cut old new
    cuts e =
        let left : IsGone m q new = gone e in
        let out : connections new ≡ taken_out n (connections q) = left.connections ∙ ap (λ (k : ℕ). taken_out k (connections q)) is in
        record {
          others = λ k other. ap (numbered k) out ∙ taken_others n (connections q) k other ∙ leaves.others k other;
          live = λ no. let bad : true ≡ false = sym e ∙ no in absurd (cc);
          gone = λ z. ap all_numbers out ∙ leaves.out;
          rest = record {
            name = left.rest.name ∙ rest.name;
            max = left.rest.max ∙ rest.max;
            size = left.rest.size ∙ rest.size;
            last = left.rest.last ∙ rest.last;
          };
        }

    lives : cut ≡ false → Spares n cut old new
    lives e = subst (λ (p : PoolState). Spares n cut old p) (sym (stays e)) (spares_of n cut old q leaves (λ z. back_numbers cut rests old q e same closed) (λ z. let bad : true ≡ false = sym z ∙ e in absurd (cc)) rest)

pub back_there : {E S : Type 0} (h : Held E S) (n m : ℕ) (rests : Bool) (old q new : PoolState) → h.link.number ≡ n → m ≡ n → IsSome (numbered n (connections old)) → (rests ≡ true → all_numbers (connections q) ≡ all_numbers (connections old)) → (rests ≡ false → h.link.is_cut ≡ true) → (h.link.is_cut ≡ false → new ≡ q) → (h.link.is_cut ≡ true → IsGone m q new) → IsThere h new
back_there h n m rests old q new number is there same closed stays gone = record {
  is_in = λ lives.
      let now : IsSome (numbered n (connections q)) = found_still n (connections old) (connections q) (back_numbers h.link.is_cut rests old q lives same closed) there in
      subst (λ (k : ℕ). IsSome (numbered k (connections new))) (sym number)
      (subst (λ (p : PoolState). IsSome (numbered n (connections p))) (sym (stays lives)) now);
  is_out = λ cut.
      let left : IsGone m q new = gone cut in
      ap (λ (k : ℕ). numbered k (connections new)) number
      ∙ ap (numbered n) (left.connections ∙ ap (λ (k : ℕ). taken_out k (connections q)) is)
      ∙ taken_gone n (connections q);
}

-- ---- Where it rests

pub back_place : (holder : ℕ) (idle : Bool) → place_by holder (rest_place idle) ≡ place_back idle
back_place holder true = refl
back_place holder false = refl

pub back_answer : (n : ℕ) (idle : Bool) → came_back (rest_answer idle n) ≡ returned_as idle
back_answer n true = refl
back_answer n false = refl

pub back_rests : (n : ℕ) (idle : Bool) → rests_in (rest_answer idle n) ≡ true
back_rests n true = refl
back_rests n false = refl

moved : (n : ℕ) (cs : List Connection) (c : Connection) (p : Place) → numbered n cs ≡ Some c → numbered n (lending_ended_at n p cs) ≡ Some (ends p c)
moved n cs c p found = changed_here n (ends p) cs (λ d. refl) ∙ ap (option_map (ends p)) found

rested_here : (n : ℕ) (cs : List Connection) (c : Connection) (s : Stage) → numbered n cs ≡ Some c → rests_in (rested n (rests_at s) cs).answer ≡ true → (p : Place) × (numbered n (rested n (rests_at s) cs).connections ≡ Some (ends p c))
rested_here n cs c Idle found e = (places.Free, moved n cs c places.Free found)
rested_here n cs c (Sending kind left packets) found e = (places.Draining, moved n cs c places.Draining found)
rested_here n cs c Reading found e = (places.Draining, moved n cs c places.Draining found)
rested_here n cs c Cancelling found e = (places.Draining, moved n cs c places.Draining found)
rested_here n cs c (Broken fault) found e = absurd (cc)

-- ---- A client that was cancelled

pub ok_unless_broken : (s : ClientSession) → is_broken s.stage ≡ false → (e : Effect Cancelled) × (cancelled s ≡ Ok e)
ok_unless_broken s sound = by_stage s.stage sound
  where
    by_stage : (t : Stage) → is_broken t ≡ false → (e : Effect Cancelled) × (cancelled_in s t ≡ Ok e)
    by_stage (Broken fault) e = absurd (cc)
    by_stage t e = (_, refl)

-- It has nothing more to cancel.
pub cancelled_has_none : (old new : ClientSession) → is_broken old.stage ≡ false → IfOk (cancelled old) (λ e. new ≡ e.session) → HasNoMore new
cancelled_has_none old new sound is =
    let ok = ok_unless_broken old sound in
    let same : new ≡ ok.0.session = subst (λ (r : Result (Effect Cancelled) ClientRefusal). IfOk r (λ e. new ≡ e.session)) ok.1 is in
    let behind : session_behind (cancelled old) old ≡ ok.0.session = ap (λ (r : Result (Effect Cancelled) ClientRefusal). session_behind r old) ok.1 in
    subst HasNoMore (behind ∙ sym same) (no_more old)

sending_columns : (s : ClientSession) (kind : Kind) (packets : ℕ) → (cancelled_sending s kind packets).session.columns ≡ s.columns
unfolding cancelled_sending
sending_columns s kind packets = by_count (eqb packets 0)
  where
    by_count : (b : Bool) → (cond {A = Effect Cancelled} b (record { answer = answers.Unsent; session = with_stage s Idle; bytes = [] }) (record { answer = answers.Asked; session = with_stage s Cancelling; bytes = ignore kind packets ++ stop_bytes })).session.columns ≡ s.columns
    by_count true = refl
    by_count false = refl

behind_columns_by : (s : ClientSession) (t : Stage) → (session_behind (cancelled_in s t) s).columns ≡ s.columns
behind_columns_by s (Sending kind left packets) = sending_columns s kind packets
behind_columns_by s t = refl

pub behind_columns : (s : ClientSession) → (session_behind (cancelled s) s).columns ≡ s.columns
behind_columns s = behind_columns_by s s.stage

-- ---- It stands for a lease still

by_test : (test : Connection → Bool) (c : Connection) → only test (Some c) ≡ Some c → test c ≡ true
by_test test c e = by_one (test c) e
  where
    by_one : (b : Bool) → cond b (Some c) None ≡ Some c → b ≡ true
    by_one true e = refl
    by_one false e = absurd (cc)

pub standing_client : (test : Turn → Place → Bool) (key n : ℕ) (s : ClientSession) (cs : List Connection) (c : Connection) → standing test key n cs ≡ Some c → standing test key n (with_client n s cs) ≡ Some (record c { client = s })
standing_client test key n s cs c known =
    let found : numbered n cs ≡ Some c = standing_found test key n cs c known in
    let at : only (λ (d : Connection). (d.key == key) && test d.turn d.place) (Some c) ≡ Some c = sym (ap (only (λ (d : Connection). (d.key == key) && test d.turn d.place)) found) ∙ known in
    let passes : (c.key == key) && test c.turn c.place ≡ true = by_test (λ (d : Connection). (d.key == key) && test d.turn d.place) c at in
    ap (only (λ (d : Connection). (d.key == key) && test d.turn d.place)) (client_found n s cs c found)
    ∙ ap (λ (b : Bool). cond b (Some (record c { client = s })) None) passes

-- ---- What is found under its number then

pub given_here : (lease : Lease) (n : ℕ) (cs : List Connection) (c : Connection) → lease.number ≡ n → lent_to lease cs ≡ Some c → rests_in (given_back lease cs).answer ≡ true → (p : Place) × (numbered n (given_back lease cs).connections ≡ Some (ends p (record c { client = session_behind (cancelled c.client) c.client })))
given_here lease n cs c is known rests =
    let s : ClientSession = session_behind (cancelled c.client) c.client in
    let number : c.number ≡ n = number_found lease.number cs c (standing_found (is_lent_for lease.turn) lease.key lease.number cs c known) ∙ is in
    let found : numbered n cs ≡ Some c = ap (λ (k : ℕ). numbered k cs) (sym is) ∙ standing_found (is_lent_for lease.turn) lease.key lease.number cs c known in
    let there : numbered n (with_client n s cs) ≡ Some (record c { client = s }) = client_found n s cs c found in
    let whole : given_back lease cs ≡ rested n (rests_at s.stage) (with_client n s cs) =
    ap (λ o. calls.cancelled_and_settled o cs) known
    ∙ ap (λ (k : ℕ). calls.settled k (with_client k s cs)) number
    ∙ ap (λ o. calls.put_back o (with_client n s cs)) there
    ∙ ap (λ (k : ℕ). rested k (rests_at s.stage) (with_client n s cs)) number in
    let here = rested_here n (with_client n s cs) (record c { client = s }) s.stage there (sym (ap (λ (r : Returned). rests_in r.answer) whole) ∙ rests) in
    (here.0, ap (λ (r : Returned). numbered n r.connections) whole ∙ here.1)

pub abandoned_here : (ticket : Ticket) (n : ℕ) (cs : List Connection) (c : Connection) → ticket.number ≡ n → kept_for ticket cs ≡ Some c → rests_in (abandoned ticket cs).answer ≡ true → (p : Place) × (numbered n (abandoned ticket cs).connections ≡ Some (ends p c))
abandoned_here ticket n cs c is known rests =
    let number : c.number ≡ n = number_found ticket.number cs c (standing_found (is_kept_for ticket.turn) ticket.key ticket.number cs c known) ∙ is in
    let found : numbered n cs ≡ Some c = ap (λ (k : ℕ). numbered k cs) (sym is) ∙ standing_found (is_kept_for ticket.turn) ticket.key ticket.number cs c known in
    let whole : abandoned ticket cs ≡ rested n (rests_at c.client.stage) cs =
    ap (λ o. calls.put_back o cs) known ∙ ap (λ (k : ℕ). rested k (rests_at c.client.stage) cs) number in
    let here = rested_here n cs c c.client.stage found (sym (ap (λ (r : Returned). rests_in r.answer) whole) ∙ rests) in
    (here.0, ap (λ (r : Returned). numbered n r.connections) whole ∙ here.1)

-- Whether it is in the pool still, by its answer.
pub rests_either : (a : GivenBack) → ((n : ℕ) × (a ≡ given.Free n)) ⊎ ((n : ℕ) × (a ≡ given.Draining n)) → rests_in a ≡ true
rests_either a (inl e) = ap rests_in e.1
rests_either a (inr e) = ap rests_in e.1

pub out_either : (a : GivenBack) → ((n : ℕ) × (a ≡ given.Closed n)) ⊎ (a ≡ given.Unknown) → rests_in a ≡ false
out_either a (inl e) = ap rests_in e.1
out_either a (inr e) = ap rests_in e

-- ---- A ticket in a play

-- The seat of what it kept.
pub kept_seat : (ticket : Ticket) (n holder : ℕ) (cs : List Connection) (c : Connection) → ticket.number ≡ n → kept_for ticket cs ≡ Some c → seat_by holder (numbered n cs) ≡ seat_by holder (Some c)
kept_seat ticket n holder cs c is known =
    ap (seat_by holder) (ap (λ (k : ℕ). numbered k cs) (sym is) ∙ standing_found (is_kept_for ticket.turn) ticket.key ticket.number cs c known)

-- Its client is idle, so it is free once it is abandoned.
unbroken_idle : (s : Stage) → is_idle s ≡ true → is_broken s ≡ false
unbroken_idle (Broken fault) e = absurd (cc)
unbroken_idle s e = refl

pub kept_rests : (ticket : Ticket) (n holder : ℕ) (cs : List Connection) (c : Connection) → ticket.number ≡ n → kept_for ticket cs ≡ Some c → is_idle c.client.stage ≡ true
    → (seat_by holder (numbered n (abandoned ticket cs).connections) ≡ placed_at PlayFree (seat_by holder (Some c))) × (rests_in (abandoned ticket cs).answer ≡ true)
kept_rests ticket n holder cs c is known idle =
    let number : c.number ≡ ticket.number = number_found ticket.number cs c (standing_found (is_kept_for ticket.turn) ticket.key ticket.number cs c known) in
    let found : numbered n cs ≡ Some c = ap (λ (k : ℕ). numbered k cs) (sym is) ∙ standing_found (is_kept_for ticket.turn) ticket.key ticket.number cs c known in
    let whole : abandoned ticket cs ≡ rest_returned n true cs =
    abandoned_is ticket cs c known number (unbroken_idle c.client.stage idle)
    ∙ ap (λ (b : Bool). rest_returned ticket.number b cs) idle
    ∙ ap (λ (k : ℕ). rest_returned k true cs) is in (
      ap (λ (r : Returned). seat_by holder (numbered n r.connections)) whole ∙ ap (seat_by holder) (moved n cs c places.Free found),
      ap (λ (r : Returned). rests_in r.answer) whole,
    )

-- What was done without the carrier is what the model does.
pub does_whole : {E S : Type 0} (number size : ℕ) (engine : E) (done : EventDone) (link : Link E S) (seat : Seat) (pipe : Option Pipe) (a : Acted) (c : model.Connection) → DoesWhole number size engine done link seat pipe a c → RefinesAct number size engine done link seat pipe a c
does_whole number size engine done link seat pipe a c h =
    subst (λ (d : EventDone). RefinesAct number size engine d link seat pipe a c) (sym h.0) (record { outcome = refl; played = h.1 })

-- ---- A lease in a play

pub lives_rests : (rests cut : Bool) → (rests ≡ false → cut ≡ true) → cut ≡ false → rests ≡ true
lives_rests true cut closed lives = refl
lives_rests false cut closed lives = let bad : true ≡ false = sym (closed refl) ∙ lives in absurd (cc)

-- The end of it, on the connection of this number, in another seat.
pub back_ended : {E S : Type 0} (n m size : ℕ) (engine : E) (mid new : Link E S) (seat then : Seat) (before after : ℕ → Option Pipe) (lost : Bool) (c : model.Connection)
    → m ≡ n
    → (RepresentsConnection m size engine mid seat (before m) c → RepresentsConnection m size engine new then (after m) (cut_where lost c))
    → RepresentsConnection n size engine mid seat (before n) c → RepresentsConnection n size engine new then (after n) (cut_where lost c)
back_ended {E} {S} n m size engine mid new seat then before after lost c at ends =
    subst (λ (k : ℕ). RepresentsConnection k size engine mid seat (before k) c → RepresentsConnection k size engine new then (after k) (cut_where lost c)) at ends

-- Where it is then.
pub given_rests : (lease : Lease) (n holder : ℕ) (cs : List Connection) (c : Connection) → lease.number ≡ n → lent_to lease cs ≡ Some c → session_behind (cancelled c.client) c.client ≡ c.client → is_broken c.client.stage ≡ false
    → ((given_back lease cs).answer ≡ rest_answer (is_idle c.client.stage) n) × (seat_by holder (numbered n (given_back lease cs).connections) ≡ seated (place_back (is_none (unless_idle c.client.stage))) c.client)
given_rests lease n holder cs c is known more sound =
    let found : numbered lease.number cs ≡ Some c = standing_found (is_lent_for lease.turn) lease.key lease.number cs c known in
    let idle : Bool = is_idle c.client.stage in
    let whole : given_back lease cs ≡ rest_returned lease.number idle (with_client lease.number c.client cs) = given_back_is lease cs c known found more sound in (
      ap (λ (r : Returned). r.answer) whole ∙ ap (rest_answer idle) is,
      ap (λ (k : ℕ). seat_by holder (numbered k (given_back lease cs).connections)) (sym is)
          ∙ ap (λ (r : Returned). seat_by holder (numbered lease.number r.connections)) whole
          ∙ ap (seat_by holder) (given_back_here lease cs c idle found)
          ∙ ap (λ p. seated p c.client) (back_place holder idle)
          ∙ ap (λ (b : Bool). seated (place_back b) c.client) (idle_alike c.client.stage),
    )

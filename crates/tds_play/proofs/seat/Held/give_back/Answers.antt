use Rattle.std.proofs.Common.{◌≡◌, ◌∙◌, ℕ, Bool, true, false, List, [], ◌∷◌, Option, Some, None, Result, refl, sym, ap, subst}
use Rattle.std.specs.Prelude.{IfOk, IsSome, OnOk, is_none}
use Rattle.tds_client.specs.Session.{ClientSession, unless_idle}
use Rattle.tds_pool.specs.Calls.{Returned, all_numbers, given_back, is_broken, is_idle, is_lent_for, lent_to}
use Rattle.tds_pool.specs.Connections.{Connection, PoolState, SameRest, connections, numbered, with_client}
use Rattle.tds_pool.specs.declared.lease.Lease.{Lease}
use Rattle.tds_pool.specs.Lends.{with_client_numbered}
use Rattle.tds_session.specs.Answer.{Answers, answer_of}
use Rattle.tds_world.specs.Caller.{cancels}
use Rattle.tds_world.specs.Pool.{comes_back, gives_back, place_back, returned_as}
use Rattle.tds_world.specs.Connection as model
use Rattle.tds_world.specs.World.{World}
use Rattle.tds_world.specs.declared.event.Event.TheVariants as event
use Rattle.tds_world.specs.declared.event.Setup.{Setup}
use Rattle.tds_world.specs.declared.outcome.GiveBackOutcome.TheVariants as back
use Rattle.tds_world.specs.declared.outcome.Outcome.{Outcome}
use Rattle.tds_world.specs.declared.outcome.Outcome.TheVariants as outcome
use Rattle.tds_world.specs.declared.report.Place.{Place}
use Rattle.tds_play.specs.declared.link.EventDone.{EventDone}
use Rattle.tds_play.specs.declared.link.Link.{Link}
use Rattle.tds_play.specs.declared.seat.Held.{Held}
use Rattle.tds_play.specs.Pipe.{Pipe}
use Rattle.tds_packet.specs.declared.kind.Direction.TheVariants.{ToServer}
use Rattle.tds_play.specs.Failures.{FailsNoMore, Send}
use Rattle.tds_play.specs.Plays.{MayLose, RefinesAct, RepresentsConnection, acts_on, after, cut_where, outcome_of}
use Rattle.tds_play.specs.Pooled.{IsThere, Spares, came_back, place_by, rests_in, seat_by, seat_in}
use Rattle.tds_play.specs.Reads.{IsReading, ReadsOn}
use Rattle.tds_play.specs.Seats.{Seat, seated}
use Rattle.tds_play.specs.Seen.{done_as}
use Rattle.tds_play.proofs.Acting.{acts_there, comes_there, cut_alike, few_back, few_then, stands_in}
use Rattle.tds_play.proofs.Failing.{ended_as}
use Rattle.tds_play.proofs.Tying.{ties_handed}
use Rattle.tds_play.proofs.any_bytes.Brought.{still_on}
use Rattle.tds_play.proofs.any_bytes.Stays.{stays_numbered}
use Rattle.tds_play.proofs.pooled.Back.{back_answer, back_rests, back_spares, back_there, behind_columns, cancelled_has_none, given_here, given_rests, lives_rests, back_ended, does_whole, spares_of, standing_client}
use Rattle.tds_play.proofs.pooled.Callers.{cut_where_none, live_where_some}
use Rattle.tds_play.proofs.pooled.Cancels.{HasNoMore}
use Rattle.tds_play.proofs.pooled.Given.{unknown}
use Rattle.tds_play.proofs.pooled.Leaves.{Leaves, given_in, given_leaves, leaves_changed, leaves_none, leaves_numbered, leaves_twice}
use Rattle.tds_play.proofs.pooled.Numbers.{IsIn}
use Rattle.tds_play.proofs.pooled.Returned.{given_back_unknown, idle_alike, rest_answer, unbroken}
use Rattle.tds_play.proofs.pooled.Settled.{cut_seat, in_of, lent_client, lent_there, one_of, settled_reads}
use Rattle.tds_play.proofs.pooled.Changes.{changed_numbers}
use Rattle.tds_play.proofs.seat.Held.give_back.Goals.{in-Ok, in-Err}
use Rattle.tds_play.proofs.seat.Held.give_back.Goals as goal

-- One that is cut reads no more, and stands for the model's, whatever its seat is.
gone_reads : {E S : Type 0} (size k : ℕ) (o : Outcome) (link : Link E S) (columns then : Option ℕ) (pipe : Option Pipe) → link.is_cut ≡ true → IsReading size link columns pipe → ReadsOn size (event.GiveBack k) o link then pipe pipe
gone_reads size k o link columns then pipe cut reads = record {
  reading = record {
    server = λ lives. let bad : true ≡ false = sym cut ∙ lives in absurd (cc);
    client = λ lives. let bad : true ≡ false = sym cut ∙ lives in absurd (cc);
    told = reads.told;
  };
  brings = λ d. refl;
}

gone_acts : {E S : Type 0} (number size k : ℕ) (engine : E) (done : EventDone) (link : Link E S) (seat then : Seat) (pipe : Option Pipe) (setup : Setup) (answers : Answers) (w : World) (c : model.Connection) → link.is_cut ≡ true → done ≡ done_as (outcome.GivenBack back.Closed) → RepresentsConnection number size engine link seat pipe c → RefinesAct number size engine done link then pipe (acts_on setup answers w (event.GiveBack k) number c) c
gone_acts number size k engine done link seat then pipe setup answers w c cut is i =
    does_whole number size engine done link then pipe (acts_on setup answers w (event.GiveBack k) number c) c
    (cut_alike number size engine link then pipe setup answers w (event.GiveBack k) c done (cut_seat number size engine link seat then pipe c cut i) cut is)

-- Where it was cut the pool doesn't know the lease.
pub returns-in_default-clause-pool : goal.returns-in_default-clause-pool
returns-in_default-clause-pool g c =
    let n : ℕ = c.args.self.now.link.number in
    let pcs : List Connection = connections c.args.pool.now in
    let cut : c.args.self.now.link.is_cut ≡ true = cut_where_none c.args.self.now.link.is_cut c.args.self.now.link.number c.args.lease (connections c.args.pool.now) c.requires.named c.requires.lent c.in_default.ensures.value in
    let none : numbered n pcs ≡ None = c.requires.there.is_out cut in
    let same : (given_back c.args.lease pcs).connections ≡ pcs =
    ap (λ (r : Returned). r.connections) (given_back_unknown c.args.lease pcs (unknown (is_lent_for c.args.lease.turn) c.args.lease.key c.args.lease.number pcs (ap (λ (m : ℕ). numbered m pcs) c.requires.named ∙ none))) in
    elim c.match-give_back.branch [
      | in-Ok w ↦ subst (λ (r : Result EventDone Lease). OnOk r (Spares n c.args.self.now.link.is_cut c.args.pool.now c.give_back.new.self)) (sym w.result-is)
          (spares_of n c.args.self.now.link.is_cut c.args.pool.now c.give_back.new.self
          (subst (λ (cs : List Connection). Leaves n pcs cs) (sym (w.in-Ok.ensures.shown ∙ same)) (leaves_none n pcs))
          (λ lives. let bad : true ≡ false = sym cut ∙ lives in absurd (cc))
          (λ gone. ap (numbered n) (w.in-Ok.ensures.shown ∙ same) ∙ none)
          w.in-Ok.ensures.rest)
      | in-Err w ↦ subst (λ (r : Result EventDone Lease). OnOk r (Spares n c.args.self.now.link.is_cut c.args.pool.now c.give_back.new.self)) (sym w.result-is) tt
    ]

pub returns-in_default-clause-there : goal.returns-in_default-clause-there
returns-in_default-clause-there g c =
    let n : ℕ = c.args.self.now.link.number in
    let pcs : List Connection = connections c.args.pool.now in
    let cut : c.args.self.now.link.is_cut ≡ true = cut_where_none c.args.self.now.link.is_cut c.args.self.now.link.number c.args.lease (connections c.args.pool.now) c.requires.named c.requires.lent c.in_default.ensures.value in
    let none : numbered n pcs ≡ None = c.requires.there.is_out cut in
    let same : (given_back c.args.lease pcs).connections ≡ pcs =
    ap (λ (r : Returned). r.connections) (given_back_unknown c.args.lease pcs (unknown (is_lent_for c.args.lease.turn) c.args.lease.key c.args.lease.number pcs (ap (λ (m : ℕ). numbered m pcs) c.requires.named ∙ none))) in
    elim c.match-give_back.branch [
      | in-Ok w ↦ subst (λ (r : Result EventDone Lease). OnOk r (IsThere c.args.self.now c.give_back.new.self)) (sym w.result-is)
          (record { is_in = λ lives. let bad : true ≡ false = sym cut ∙ lives in absurd (cc); is_out = λ gone. ap (numbered n) (w.in-Ok.ensures.shown ∙ same) ∙ none })
      | in-Err w ↦ subst (λ (r : Result EventDone Lease). OnOk r (IsThere c.args.self.now c.give_back.new.self)) (sym w.result-is) tt
    ]

pub returns-in_default-clause-reads : goal.returns-in_default-clause-reads
returns-in_default-clause-reads g c = λ size k reads.
    let pipe : Option Pipe = g.C.EventCarrier.pipes c.args.carrier.now c.args.self.now.link.number in
    let cut : c.args.self.now.link.is_cut ≡ true = cut_where_none c.args.self.now.link.is_cut c.args.self.now.link.number c.args.lease (connections c.args.pool.now) c.requires.named c.requires.lent c.in_default.ensures.value in
    elim c.match-give_back.branch [
      | in-Ok w ↦ subst (λ (r : Result EventDone Lease). IfOk r (λ done. ReadsOn size (event.GiveBack k) done.outcome c.args.self.now.link (seat_in c.args.self.now c.give_back.new.self).client.columns pipe pipe)) (sym w.result-is)
          (gone_reads size k w.done.result.outcome c.args.self.now.link (seat_in c.args.self.now c.args.pool.now).client.columns (seat_in c.args.self.now c.give_back.new.self).client.columns pipe cut reads)
      | in-Err w ↦ subst (λ (r : Result EventDone Lease). IfOk r (λ done. ReadsOn size (event.GiveBack k) done.outcome c.args.self.now.link (seat_in c.args.self.now c.give_back.new.self).client.columns pipe pipe)) (sym w.result-is) tt
    ]

pub returns-in_default-clause-refines : goal.returns-in_default-clause-refines
returns-in_default-clause-refines g c = λ setup world k m engine played few.
    let n : ℕ = c.args.self.now.link.number in
    let pipe : Option Pipe = g.C.EventCarrier.pipes c.args.carrier.now n in
    let answers : Answers = answer_of (g.E.Engine.statements_of engine) (g.E.Engine.step_of engine) in
    let cut : c.args.self.now.link.is_cut ≡ true = cut_where_none c.args.self.now.link.is_cut c.args.self.now.link.number c.args.lease (connections c.args.pool.now) c.requires.named c.requires.lent c.in_default.ensures.value in
    elim c.match-give_back.branch [
      | in-Ok w ↦ subst (λ (r : Result EventDone Lease). IfOk r (λ done. RefinesAct n setup.packet_size engine done c.args.self.now.link (seat_in c.args.self.now c.give_back.new.self) pipe (acts_on setup answers world (event.GiveBack k) n m) m)) (sym w.result-is)
          (gone_acts n setup.packet_size k engine w.done.result c.args.self.now.link (seat_in c.args.self.now c.args.pool.now) (seat_in c.args.self.now c.give_back.new.self) pipe setup answers world m cut w.done.ensures played)
      | in-Err w ↦ subst (λ (r : Result EventDone Lease). IfOk r (λ done. RefinesAct n setup.packet_size engine done c.args.self.now.link (seat_in c.args.self.now c.give_back.new.self) pipe (acts_on setup answers world (event.GiveBack k) n m) m)) (sym w.result-is) tt
    ]

-- What the pool keeps: the client's session changed, then the lease ended, and then it may be cut.
pub returns-in-Ok-give_back-clause-pool : goal.returns-in-Ok-give_back-clause-pool
returns-in-Ok-give_back-clause-pool g c =
    let n : ℕ = c.args.self.now.link.number in
    let s : ClientSession = c.give_up.new.client in
    let pcs : List Connection = connections c.args.pool.now in
    let then : List Connection = with_client n s pcs in
    let q : PoolState = c.give_back-2.new.self in
    let writes : connections (with_client_numbered c.args.pool.now n s) ≡ then = c.at.ensures.writes s (lent_there n (connections c.args.pool.now) c.in-Some.client.now c.in-Some.ensures.value) in
    let shown : connections q ≡ (given_back c.args.lease then).connections = c.in-Ok-give_back.ensures.shown ∙ ap (λ (cs : List Connection). (given_back c.args.lease cs).connections) writes in
    let answer : c.in-Ok-give_back.answer ≡ (given_back c.args.lease then).answer = c.in-Ok-give_back.ensures.answer ∙ ap (λ (cs : List Connection). (given_back c.args.lease cs).answer) writes in
    let left : Leaves n pcs (connections q) =
    leaves_twice n pcs then (connections q) (leaves_changed n (λ (d : Connection). record d { client = s }) pcs (λ d. refl))
    (subst (λ (cs : List Connection). Leaves n then cs) (sym shown) (leaves_numbered c.args.lease.number n then (given_back c.args.lease then).connections c.requires.named (given_leaves c.args.lease then))) in
    let r : SameRest (with_client_numbered c.args.pool.now n s) q = c.in-Ok-give_back.ensures.rest in
    back_spares n c.give_up.new.self.number c.come_back.new.self.link.is_cut (rests_in c.in-Ok-give_back.answer) c.args.pool.now q c.come_back.new.pool c.in-Ok-give_up.ensures.number left
    (λ rests. ap all_numbers shown ∙ given_in c.args.lease then (sym (ap rests_in answer) ∙ rests) ∙ changed_numbers n (λ (d : Connection). record d { client = s }) pcs (λ d. refl))
    (record { name = r.name; max = r.max; size = r.size; last = r.last })
    c.come_back.ensures.closed c.come_back.ensures.live c.come_back.ensures.gone

pub returns-in-Ok-give_back-clause-there : goal.returns-in-Ok-give_back-clause-there
returns-in-Ok-give_back-clause-there g c =
    let n : ℕ = c.args.self.now.link.number in
    let s : ClientSession = c.give_up.new.client in
    let pcs : List Connection = connections c.args.pool.now in
    let then : List Connection = with_client n s pcs in
    let q : PoolState = c.give_back-2.new.self in
    let there : IsSome (numbered n pcs) = c.requires.there.is_in (live_where_some c.args.self.now.link.is_cut c.args.self.now.link.number (connections c.args.pool.now) c.in-Some.client.now c.requires.there.is_out c.in-Some.ensures.value) in
    let writes : connections (with_client_numbered c.args.pool.now n s) ≡ then = c.at.ensures.writes s (lent_there n (connections c.args.pool.now) c.in-Some.client.now c.in-Some.ensures.value) in
    let shown : connections q ≡ (given_back c.args.lease then).connections = c.in-Ok-give_back.ensures.shown ∙ ap (λ (cs : List Connection). (given_back c.args.lease cs).connections) writes in
    let answer : c.in-Ok-give_back.answer ≡ (given_back c.args.lease then).answer = c.in-Ok-give_back.ensures.answer ∙ ap (λ (cs : List Connection). (given_back c.args.lease cs).answer) writes in
    back_there c.come_back.new.self n c.give_up.new.self.number (rests_in c.in-Ok-give_back.answer) c.args.pool.now q c.come_back.new.pool (c.come_back.ensures.number ∙ c.in-Ok-give_up.ensures.number) c.in-Ok-give_up.ensures.number there
    (λ rests. ap all_numbers shown ∙ given_in c.args.lease then (sym (ap rests_in answer) ∙ rests) ∙ changed_numbers n (λ (d : Connection). record d { client = s }) pcs (λ d. refl))
    c.come_back.ensures.closed c.come_back.ensures.live c.come_back.ensures.gone

pub returns-in-Ok-give_back-clause-reads : goal.returns-in-Ok-give_back-clause-reads
returns-in-Ok-give_back-clause-reads g c = λ size k reads.
    let n : ℕ = c.args.self.now.link.number in
    let h : ℕ = c.args.self.now.holder in
    let s : ClientSession = c.give_up.new.client in
    let pcs : List Connection = connections c.args.pool.now in
    let then : List Connection = with_client n s pcs in
    let q : PoolState = c.give_back-2.new.self in
    let there : IsSome (numbered n pcs) = c.requires.there.is_in (live_where_some c.args.self.now.link.is_cut c.args.self.now.link.number (connections c.args.pool.now) c.in-Some.client.now c.requires.there.is_out c.in-Some.ensures.value) in
    let it : IsIn n pcs = in_of n pcs there in
    let writes : connections (with_client_numbered c.args.pool.now n s) ≡ then = c.at.ensures.writes s (lent_there n (connections c.args.pool.now) c.in-Some.client.now c.in-Some.ensures.value) in
    let shown : connections q ≡ (given_back c.args.lease then).connections = c.in-Ok-give_back.ensures.shown ∙ ap (λ (cs : List Connection). (given_back c.args.lease cs).connections) writes in
    let answer : c.in-Ok-give_back.answer ≡ (given_back c.args.lease then).answer = c.in-Ok-give_back.ensures.answer ∙ ap (λ (cs : List Connection). (given_back c.args.lease cs).answer) writes in
    let lent = one_of (lent_to c.args.lease pcs) (c.requires.lent (live_where_some c.args.self.now.link.is_cut c.args.self.now.link.number (connections c.args.pool.now) c.in-Some.client.now c.requires.there.is_out c.in-Some.ensures.value)) in
    let known : lent_to c.args.lease then ≡ Some (record lent.0 { client = s }) =
    subst (λ (m : ℕ). lent_to c.args.lease (with_client m s pcs) ≡ Some (record lent.0 { client = s })) c.requires.named (standing_client (is_lent_for c.args.lease.turn) c.args.lease.key c.args.lease.number s pcs lent.0 lent.1) in
    let client : c.in-Some.client.now ≡ it.connection.client = lent_client n pcs it.connection c.in-Some.client.now it.there c.in-Some.ensures.value in
    let before : s.columns ≡ (seat_in c.args.self.now c.args.pool.now).client.columns =
    c.in-Ok-give_up.ensures.columns ∙ ap (λ (x : ClientSession). x.columns) client ∙ sym (ap (λ o. (seat_by h o).client.columns) it.there) in
    let old : Option Pipe = g.C.EventCarrier.pipes c.args.carrier.now n in
    let mid : Option Pipe = g.C.EventCarrier.pipes c.give_up.new.carrier n in
    settled_reads size (event.GiveBack k) c.come_back.result.outcome c.give_up.new.self c.come_back.new.self.link (seat_in c.args.self.now c.args.pool.now).client.columns (seat_in c.come_back.new.self c.come_back.new.pool).client.columns old mid (g.C.EventCarrier.pipes c.come_back.new.carrier n)
    (still_on size (event.GiveBack k) c.come_back.result.outcome c.args.self.now.link c.give_up.new.self (seat_in c.args.self.now c.args.pool.now).client.columns (seat_in c.args.self.now c.args.pool.now).client.columns old mid (λ d. refl) reads c.in-Ok-give_up.ensures.still refl)
    (stays_numbered c.give_up.new.self.number n c.give_up.new.self c.come_back.new.self.link (g.C.EventCarrier.pipes c.give_up.new.carrier) (g.C.EventCarrier.pipes c.come_back.new.carrier) c.in-Ok-give_up.ensures.number c.come_back.ensures.still)
    (λ live.
    let rests : rests_in (given_back c.args.lease then).answer ≡ true = sym (ap rests_in answer) ∙ lives_rests (rests_in c.in-Ok-give_back.answer) c.come_back.new.self.link.is_cut c.come_back.ensures.closed live in
    let here = given_here c.args.lease n then (record lent.0 { client = s }) c.requires.named known rests in
    ap (λ (m : ℕ). (seat_by c.come_back.new.self.holder (numbered m (connections c.come_back.new.pool))).client.columns) (c.come_back.ensures.number ∙ c.in-Ok-give_up.ensures.number)
    ∙ ap (λ (p : PoolState). (seat_by c.come_back.new.self.holder (numbered n (connections p))).client.columns) (c.come_back.ensures.live live)
    ∙ ap (λ o. (seat_by c.come_back.new.self.holder o).client.columns) (ap (numbered n) shown ∙ here.1)
    ∙ behind_columns s
    ∙ before)

pub returns-in-Ok-give_back-clause-refines : goal.returns-in-Ok-give_back-clause-refines
returns-in-Ok-give_back-clause-refines g c = λ setup w k m engine played few.
    let n : ℕ = c.args.self.now.link.number in
    let h : ℕ = c.args.self.now.holder in
    let s : ClientSession = c.give_up.new.client in
    let size : ℕ = setup.packet_size in
    let pcs : List Connection = connections c.args.pool.now in
    let then : List Connection = with_client n s pcs in
    let q : PoolState = c.give_back-2.new.self in
    let answers : Answers = answer_of (g.E.Engine.statements_of engine) (g.E.Engine.step_of engine) in
    let live : c.args.self.now.link.is_cut ≡ false = (live_where_some c.args.self.now.link.is_cut c.args.self.now.link.number (connections c.args.pool.now) c.in-Some.client.now c.requires.there.is_out c.in-Some.ensures.value) in
    let there : IsSome (numbered n pcs) = c.requires.there.is_in live in
    let it : IsIn n pcs = in_of n pcs there in
    let old : Option Pipe = g.C.EventCarrier.pipes c.args.carrier.now n in
    let writes : connections (with_client_numbered c.args.pool.now n s) ≡ then = c.at.ensures.writes s (lent_there n (connections c.args.pool.now) c.in-Some.client.now c.in-Some.ensures.value) in
    let shown : connections q ≡ (given_back c.args.lease then).connections = c.in-Ok-give_back.ensures.shown ∙ ap (λ (cs : List Connection). (given_back c.args.lease cs).connections) writes in
    let answer : c.in-Ok-give_back.answer ≡ (given_back c.args.lease then).answer = c.in-Ok-give_back.ensures.answer ∙ ap (λ (cs : List Connection). (given_back c.args.lease cs).answer) writes in
    let lent = one_of (lent_to c.args.lease pcs) (c.requires.lent live) in
    let known : lent_to c.args.lease then ≡ Some (record lent.0 { client = s }) =
    subst (λ (m : ℕ). lent_to c.args.lease (with_client m s pcs) ≡ Some (record lent.0 { client = s })) c.requires.named (standing_client (is_lent_for c.args.lease.turn) c.args.lease.key c.args.lease.number s pcs lent.0 lent.1) in
    let client : c.in-Some.client.now ≡ it.connection.client = lent_client n pcs it.connection c.in-Some.client.now it.there c.in-Some.ensures.value in
    let p : Place = place_by h it.connection.place in
    let seat : seat_in c.args.self.now c.args.pool.now ≡ seated p c.in-Some.client.now = ap (seat_by h) it.there ∙ sym (ap (seated p) client) in
    let was : RepresentsConnection n size engine c.args.self.now.link (seated p c.in-Some.client.now) old m = subst (λ (x : Seat). RepresentsConnection n size engine c.args.self.now.link x old m) seat played in
    let at = stands_in n size engine c.args.self.now.link (seated p c.in-Some.client.now) old m was live in
    let acts = acts_there setup answers w (event.GiveBack k) n m p at in
    let acted : acts_on setup answers w (event.GiveBack k) n m ≡ comes_back (cancels m) = acts ∙ comes_there m p at in
    let b = c.in-Ok-give_up.ensures.refines size engine p m was (few_back m p at (few_then m (acts_on setup answers w (event.GiveBack k) n m) (gives_back m) acts few)) in
    let sound : is_broken s.stage ≡ false = unbroken s _ (b.played.lives c.in-Ok-give_up.ensures.live).stands.client in
    let more : HasNoMore s = cancelled_has_none c.in-Some.client.now s (unbroken c.in-Some.client.now m (was.lives live).stands.client) c.in-Ok-give_up.ensures.session in
    let given = given_rests c.args.lease n h then (record lent.0 { client = s }) c.requires.named known more.stays sound in
    let is : c.in-Ok-give_back.answer ≡ rest_answer (is_idle s.stage) n = answer ∙ given.0 in
    let rests : rests_in c.in-Ok-give_back.answer ≡ true = ap rests_in is ∙ back_rests n (is_idle s.stage) in
    let mid : Held g.row.E.Denot g.row.E-Stmt.Denot = record c.args.self.now { link = c.give_up.new.self } in
    let back : Seat = seated (place_back (is_none (unless_idle s.stage))) s in
    let now : Seat = seat_in c.come_back.new.self c.come_back.new.pool in
    let same : c.in-Ok-give_up.lost ≡ false → now ≡ back = λ whole.
    let st = c.come_back.ensures.stays rests whole in
    ap (λ (x : Held g.row.E.Denot g.row.E-Stmt.Denot). seat_in x c.come_back.new.pool) st.0
    ∙ ap (seat_in mid) st.2
    ∙ ap (λ (j : ℕ). seat_by h (numbered j (connections q))) c.in-Ok-give_up.ensures.number
    ∙ ap (λ (cs : List Connection). seat_by h (numbered n cs)) shown
    ∙ given.1 in
    record {
      outcome =
          ap (λ (d : EventDone). d.outcome) c.come_back.ensures.done
          ∙ ap (λ a. outcome.GivenBack (came_back a)) is
          ∙ ap outcome.GivenBack (back_answer n (is_idle s.stage) ∙ ap returned_as (idle_alike s.stage))
          ∙ b.outcome
          ∙ sym (ap outcome_of acted);
      played =
          subst (λ a. RepresentsConnection n size engine c.come_back.new.self.link now (g.C.EventCarrier.pipes c.come_back.new.carrier n) (cut_where c.come_back.result.lost (after a m))) (sym acted)
          (subst (λ (x : Bool). RepresentsConnection n size engine c.come_back.new.self.link now (g.C.EventCarrier.pipes c.come_back.new.carrier n) (cut_where x (after (comes_back (cancels m)) m))) (sym (ap (λ (d : EventDone). d.lost) c.come_back.ensures.done))
          (back_ended n c.give_up.new.self.number size engine c.give_up.new.self c.come_back.new.self.link back now (g.C.EventCarrier.pipes c.give_up.new.carrier) (g.C.EventCarrier.pipes c.come_back.new.carrier) c.in-Ok-give_up.lost (after (comes_back (cancels m)) m) c.in-Ok-give_up.ensures.number
          (λ i. c.come_back.ensures.refines size engine back now (after (comes_back (cancels m)) m) rests i same) b.played));
    }

-- ---- What stays, and what fails

pub returns-in-Ok-give_back-clause-number : goal.returns-in-Ok-give_back-clause-number
returns-in-Ok-give_back-clause-number g c = c.come_back.ensures.number ∙ c.in-Ok-give_up.ensures.number

pub returns-in-Ok-give_back-clause-ties : goal.returns-in-Ok-give_back-clause-ties
returns-in-Ok-give_back-clause-ties g c =
    let n : ℕ = c.args.self.now.link.number in
    ties_handed n n c.give_up.new.self.number c.give_up.new.self c.come_back.new.self.link
    (g.C.EventCarrier.pipes c.args.carrier.now) (g.C.EventCarrier.pipes c.give_up.new.carrier) (g.C.EventCarrier.pipes c.come_back.new.carrier)
    (g.C.EventCarrier.began c.args.carrier.now) (g.C.EventCarrier.began c.give_up.new.carrier) (g.C.EventCarrier.began c.come_back.new.carrier)
    refl c.in-Ok-give_up.ensures.number c.in-Ok-give_up.ensures.ties c.come_back.ensures.ties

pub returns-in-Ok-give_back-clause-failed : goal.returns-in-Ok-give_back-clause-failed
returns-in-Ok-give_back-clause-failed g c = λ k fine.
    let n : ℕ = c.args.self.now.link.number in
    ended_as (Send ToServer ∷ []) c.come_back.result _ c.in-Ok-give_up.lost c.come_back.new.self.link
    (g.C.EventCarrier.pipes c.give_up.new.carrier n) (g.C.EventCarrier.pipes c.come_back.new.carrier n)
    c.come_back.ensures.done c.come_back.ensures.cut
    (subst (λ (j : ℕ). FailsNoMore (g.C.EventCarrier.pipes c.give_up.new.carrier j) (g.C.EventCarrier.pipes c.come_back.new.carrier j)) c.in-Ok-give_up.ensures.number c.come_back.ensures.failed)
    (c.in-Ok-give_up.ensures.failed fine)

pub returns-in-Ok-give_back-clause-gone : goal.returns-in-Ok-give_back-clause-gone
returns-in-Ok-give_back-clause-gone g c = λ cut. let bad : true ≡ false = sym cut ∙ (live_where_some c.args.self.now.link.is_cut c.args.self.now.link.number (connections c.args.pool.now) c.in-Some.client.now c.requires.there.is_out c.in-Some.ensures.value) in absurd (cc)

pub returns-in-Ok-give_back-clause-loses : goal.returns-in-Ok-give_back-clause-loses
returns-in-Ok-give_back-clause-loses g c = λ k lost. subst (λ (b : Bool). MayLose b (event.GiveBack k)) (sym (live_where_some c.args.self.now.link.is_cut c.args.self.now.link.number (connections c.args.pool.now) c.in-Some.client.now c.requires.there.is_out c.in-Some.ensures.value)) tt

pub give_up-requires-clause-unasked : goal.give_up-requires-clause-unasked
give_up-requires-clause-unasked g c = c.requires.unasked (live_where_some c.args.self.now.link.is_cut c.args.self.now.link.number (connections c.args.pool.now) c.in-Some.client.now c.requires.there.is_out c.in-Some.ensures.value)

pub give_up-requires-clause-live : goal.give_up-requires-clause-live
give_up-requires-clause-live g c = live_where_some c.args.self.now.link.is_cut c.args.self.now.link.number (connections c.args.pool.now) c.in-Some.client.now c.requires.there.is_out c.in-Some.ensures.value

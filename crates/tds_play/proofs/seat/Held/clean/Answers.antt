use Rattle.std.proofs.Common.{◌≡◌, ◌∙◌, ◌-◌, ℕ, Bool, true, false, Option, Some, refl, sym, ap, subst}
use Rattle.std.specs.Prelude.{IfSome, IsSome}
use Rattle.tds_client.specs.Session.{ClientSession}
use Rattle.tds_pool.specs.Calls.{asks_reset, free_one, refuses_clean}
use Rattle.tds_pool.specs.Cleaning.{client_at}
use Rattle.tds_pool.specs.Connections.{Connection as PoolConnection, PoolState, connections, numbered, taken_out}
use Rattle.tds_session.specs.Answer.{Answers, answer_of}
use Rattle.tds_session.specs.declared.attention.OnAttention.TheVariants.{Keep}
use Rattle.tds_ends.specs.ModelGives.{IsCountable}
use Rattle.tds_world.specs.Cleaning.{can_clean, clean_request}
use Rattle.tds_world.specs.Connection.{new_connection, is_idle}
use Rattle.tds_world.specs.Events.{cleans_by}
use Rattle.tds_world.specs.Pool.{Acted, Refuses}
use Rattle.tds_world.specs.declared.event.Event.TheVariants as event
use Rattle.tds_world.specs.declared.outcome.Outcome.TheVariants.{Refused}
use Rattle.tds_world.specs.declared.report.Place.TheVariants.{Draining, Leased}
use Rattle.tds_play.specs.declared.link.EventDone.{EventDone}
use Rattle.tds_play.specs.Pipe.{Pipe}
use Rattle.tds_play.specs.Plays.{MayLose, RefinesAct, RepresentsConnection, acts_on, after, outcome_of}
use Rattle.tds_play.specs.Pooled.{IsNotCleaned, seat_by, seat_in}
use Rattle.tds_play.specs.Seats.{seated}
use Rattle.tds_play.proofs.Acting.{cut_alike}
use Rattle.tds_play.proofs.Cleaning.{cleans_refused, cleans_there as cleans_so}
use Rattle.tds_play.proofs.Doing.{does_so}
use Rattle.tds_play.proofs.any_bytes.Brought.{gone_on, still_on}
use Rattle.tds_play.proofs.any_bytes.Stays.{stays}
use Rattle.tds_play.proofs.pooled.Back.{does_whole}
use Rattle.tds_play.proofs.pooled.cleanings.Cleaned.{CleansOne, WasFree, alike_changes, alike_there, begun, begun_here, cleans_one, cleans_there, idle_there, sent_here, was_free}
use Rattle.tds_play.proofs.pooled.Clients.{client_at_is}
use Rattle.tds_play.proofs.pooled.Numbers.{IsIn}
use Rattle.tds_play.proofs.pooled.Settled.{in_of, none_changes, reseats, settled_reads}
use Rattle.tds_play.proofs.seat.Held.clean.Goals as goal

-- ---- It is cut

pub returns-then-self-clause-pool : goal.returns-then-self-clause-pool
returns-then-self-clause-pool g c =
    none_changes c.args.self.now.link.number c.args.self.now.link.is_cut c.args.pool.now c.if-self.true (c.requires.there.is_out c.if-self.true)

pub returns-then-self-clause-reads : goal.returns-then-self-clause-reads
returns-then-self-clause-reads g c = λ size n reads.
    gone_on size (event.Clean n) c.refused.result.outcome (new_connection Keep (Leased 0)) c.args.self.now.link (seat_in c.args.self.now c.args.pool.now).client.columns (g.C.EventCarrier.pipes c.args.carrier.now c.args.self.now.link.number)
    (ap (λ (d : EventDone). d.outcome) c.refused.ensures) reads

pub returns-then-self-clause-refines : goal.returns-then-self-clause-refines
returns-then-self-clause-refines g c = λ setup w n m engine played rests few leases asked.
    let k : ℕ = c.args.self.now.link.number in
    does_whole k setup.packet_size engine c.refused.result c.args.self.now.link (seat_in c.args.self.now c.args.pool.now) (g.C.EventCarrier.pipes c.args.carrier.now k) _ m
    (cut_alike k setup.packet_size engine c.args.self.now.link (seat_in c.args.self.now c.args.pool.now) (g.C.EventCarrier.pipes c.args.carrier.now k) setup (answer_of (g.E.Engine.statements_of engine) (g.E.Engine.step_of engine)) w (event.Clean n) m c.refused.result played c.if-self.true c.refused.ensures)

-- ---- It is refused

pub returns-in-Some-clause-pool : goal.returns-in-Some-clause-pool
returns-in-Some-clause-pool g c =
    let still = c.in_ok-refusal.ensures.still (subst (λ o. IsSome o) (sym c.in-Some.is) refl) in
    alike_changes c.args.self.now.link.number c.args.self.now.link.is_cut c.args.pool.now c.begin_cleaning.new.pool c.if-self.false still.0 still.1

pub returns-in-Some-clause-there : goal.returns-in-Some-clause-there
returns-in-Some-clause-there g c =
    let still = c.in_ok-refusal.ensures.still (subst (λ o. IsSome o) (sym c.in-Some.is) refl) in
    alike_there c.args.self.now c.args.pool.now c.begin_cleaning.new.pool still.0 c.requires.there

pub returns-in-Some-clause-reads : goal.returns-in-Some-clause-reads
returns-in-Some-clause-reads g c = λ size n reads.
    let k : ℕ = c.args.self.now.link.number in
    let h : ℕ = c.args.self.now.holder in
    let pipe : Option Pipe = g.C.EventCarrier.pipes c.args.carrier.now k in
    let still = c.in_ok-refusal.ensures.still (subst (λ o. IsSome o) (sym c.in-Some.is) refl) in
    still_on size (event.Clean n) _ c.args.self.now.link c.args.self.now.link (seat_in c.args.self.now c.args.pool.now).client.columns (seat_in c.args.self.now c.begin_cleaning.new.pool).client.columns pipe pipe
    (λ d. refl) reads (stays c.args.self.now.link pipe) (ap (λ cs. (seat_by h (numbered k cs)).client.columns) still.0)

pub returns-in-Some-clause-refines : goal.returns-in-Some-clause-refines
returns-in-Some-clause-refines g c = λ setup w n m engine played rests few leases asked.
    let k : ℕ = c.args.self.now.link.number in
    let h : ℕ = c.args.self.now.holder in
    let pcs = connections c.args.pool.now in
    let answers : Answers = answer_of (g.E.Engine.statements_of engine) (g.E.Engine.step_of engine) in
    let pipe : Option Pipe = g.C.EventCarrier.pipes c.args.carrier.now k in
    let it : IsIn k pcs = in_of k pcs (c.requires.there.is_in c.if-self.false) in
    let still = c.in_ok-refusal.ensures.still (subst (λ o. IsSome o) (sym c.in-Some.is) refl) in
    let why = subst (λ o. IfSome o (IsNotCleaned (refuses_clean (free_one k pcs)))) c.in-Some.is c.in_ok-refusal.ensures.refused in
    let is : acts_on setup answers w (event.Clean n) k m ≡ Refuses c.in-Some.why =
    cleans_refused c.idle_alike.ensures k h engine c.args.self.now.link pcs it.connection pipe m setup answers w n c.in-Some.why it.there played c.if-self.false why in
    does_so k setup.packet_size engine c.refused-in-Some.result (Refused c.in-Some.why) false c.args.self.now.link (seat_in c.args.self.now c.begin_cleaning.new.pool) pipe (acts_on setup answers w (event.Clean n) k m) m c.refused-in-Some.ensures
    (sym (ap outcome_of is))
    (subst (λ (a : Acted). RepresentsConnection k setup.packet_size engine c.args.self.now.link (seat_in c.args.self.now c.begin_cleaning.new.pool) pipe (after a m)) (sym is)
    (subst (λ cs. RepresentsConnection k setup.packet_size engine c.args.self.now.link (seat_by h (numbered k cs)) pipe m) (sym still.0) played))

-- ---- It is cleaned

pub returns-clause-pool : goal.returns-clause-pool
returns-clause-pool g c =
    let n : ℕ = c.args.self.now.link.number in
    let pcs = connections c.args.pool.now in
    let it : IsIn n pcs = in_of n pcs (c.requires.there.is_in c.if-self.false) in
    let began = c.in_ok-refusal.ensures.began c.in_default.is in
    cleans_one n clean_request c.clean.new.self.is_cut c.args.pool.now c.begin_cleaning.new.pool c.clean.new.pool c.leave_if_cut.new.pool it.connection
    (record {
      began = began.1;
      began_rest = began.2;
      client = c.in_ok-done.ensures.client;
      live = c.leave_if_cut.ensures.live;
      gone = λ cut. c.leave_if_cut.ensures.cut cut ∙ ap (λ (m : ℕ). taken_out m (connections c.clean.new.pool)) c.in_ok-done.ensures.number;
      rest = c.leave_if_cut.ensures.rest;
    }) it.there (was_free n pcs it.connection it.there began.0)

pub returns-clause-there : goal.returns-clause-there
returns-clause-there g c =
    let n : ℕ = c.args.self.now.link.number in
    let pcs = connections c.args.pool.now in
    let it : IsIn n pcs = in_of n pcs (c.requires.there.is_in c.if-self.false) in
    let began = c.in_ok-refusal.ensures.began c.in_default.is in
    cleans_there n clean_request c.args.pool.now c.begin_cleaning.new.pool c.clean.new.pool c.leave_if_cut.new.pool it.connection (record c.args.self.now { link = c.clean.new.self }) c.in_ok-done.ensures.number
    (record {
      began = began.1;
      began_rest = began.2;
      client = c.in_ok-done.ensures.client;
      live = c.leave_if_cut.ensures.live;
      gone = λ cut. c.leave_if_cut.ensures.cut cut ∙ ap (λ (m : ℕ). taken_out m (connections c.clean.new.pool)) c.in_ok-done.ensures.number;
      rest = c.leave_if_cut.ensures.rest;
    }) it.there

pub returns-clause-reads : goal.returns-clause-reads
returns-clause-reads g c = λ size k reads.
    let n : ℕ = c.args.self.now.link.number in
    let h : ℕ = c.args.self.now.holder in
    let pcs = connections c.args.pool.now in
    let it : IsIn n pcs = in_of n pcs (c.requires.there.is_in c.if-self.false) in
    let began = c.in_ok-refusal.ensures.began c.in_default.is in
    let cleans : CleansOne n clean_request c.clean.new.self.is_cut c.args.pool.now c.begin_cleaning.new.pool c.clean.new.pool c.leave_if_cut.new.pool =
    record {
      began = began.1;
      began_rest = began.2;
      client = c.in_ok-done.ensures.client;
      live = c.leave_if_cut.ensures.live;
      gone = λ cut. c.leave_if_cut.ensures.cut cut ∙ ap (λ (m : ℕ). taken_out m (connections c.clean.new.pool)) c.in_ok-done.ensures.number;
      rest = c.leave_if_cut.ensures.rest;
    } in
    let mid : client_at n (connections c.begin_cleaning.new.pool) ≡ asks_reset it.connection.client clean_request =
    client_at_is n (connections c.begin_cleaning.new.pool) (begun clean_request it.connection) (ap (numbered n) began.1 ∙ begun_here n clean_request pcs it.connection it.there) in
    let old : Option Pipe = g.C.EventCarrier.pipes c.args.carrier.now n in
    let now : Option Pipe = g.C.EventCarrier.pipes c.clean.new.carrier n in
    let columns : (client_at n (connections c.clean.new.pool)).columns ≡ (seat_in c.args.self.now c.args.pool.now).client.columns =
    c.in_ok-done.ensures.columns ∙ ap (λ (x : ClientSession). x.columns) mid ∙ sym (ap (λ o. (seat_by h o).client.columns) it.there) in
    settled_reads size (event.Clean k) c.in_ok-done.done.outcome c.clean.new.self c.clean.new.self (client_at n (connections c.clean.new.pool)).columns (seat_in (record c.args.self.now { link = c.clean.new.self }) c.leave_if_cut.new.pool).client.columns old now now
    (still_on size (event.Clean k) c.in_ok-done.done.outcome c.args.self.now.link c.clean.new.self (seat_in c.args.self.now c.args.pool.now).client.columns (client_at n (connections c.clean.new.pool)).columns old now (λ d. refl) reads c.in_ok-done.ensures.still columns)
    (stays c.clean.new.self now)
    (λ live.
    ap (λ (p : PoolState). (seat_by h (numbered c.clean.new.self.number (connections p))).client.columns) (c.leave_if_cut.ensures.live live)
    ∙ ap (λ (m : ℕ). (seat_by h (numbered m (connections c.clean.new.pool))).client.columns) c.in_ok-done.ensures.number
    ∙ ap (λ o. (seat_by h o).client.columns) (sent_here n clean_request c.clean.new.self.is_cut c.args.pool.now c.begin_cleaning.new.pool c.clean.new.pool c.leave_if_cut.new.pool it.connection cleans it.there))

pub returns-clause-refines : goal.returns-clause-refines
returns-clause-refines g c = λ setup w k m engine played rests few leases asked.
    let n : ℕ = c.args.self.now.link.number in
    let h : ℕ = c.args.self.now.holder in
    let size : ℕ = setup.packet_size in
    let pcs = connections c.args.pool.now in
    let answers : Answers = answer_of (g.E.Engine.statements_of engine) (g.E.Engine.step_of engine) in
    let it : IsIn n pcs = in_of n pcs (c.requires.there.is_in c.if-self.false) in
    let began = c.in_ok-refusal.ensures.began c.in_default.is in
    let cleans : CleansOne n clean_request c.clean.new.self.is_cut c.args.pool.now c.begin_cleaning.new.pool c.clean.new.pool c.leave_if_cut.new.pool =
    record {
      began = began.1;
      began_rest = began.2;
      client = c.in_ok-done.ensures.client;
      live = c.leave_if_cut.ensures.live;
      gone = λ cut. c.leave_if_cut.ensures.cut cut ∙ ap (λ (m : ℕ). taken_out m (connections c.clean.new.pool)) c.in_ok-done.ensures.number;
      rest = c.leave_if_cut.ensures.rest;
    } in
    let free : WasFree it.connection = was_free n pcs it.connection it.there began.0 in
    let old : Option Pipe = g.C.EventCarrier.pipes c.args.carrier.now n in
    let now : Option Pipe = g.C.EventCarrier.pipes c.clean.new.carrier n in
    let mid : client_at n (connections c.begin_cleaning.new.pool) ≡ asks_reset it.connection.client clean_request =
    client_at_is n (connections c.begin_cleaning.new.pool) (begun clean_request it.connection) (ap (numbered n) began.1 ∙ begun_here n clean_request pcs it.connection it.there) in
    let there : RepresentsConnection n size engine c.args.self.now.link (seat_by h (Some it.connection)) old m =
    subst (λ (o : Option PoolConnection). RepresentsConnection n size engine c.args.self.now.link (seat_by h o) old m) it.there played in
    let idle : is_idle m ≡ true = sym (c.idle_alike.ensures it.connection.client m (there.lives c.if-self.false).stands.client) ∙ idle_there it.connection.client.stage free.idle in
    let is : acts_on setup answers w (event.Clean k) n m ≡ cleans_by true (can_clean (size - 8) c.args.lease c.args.request n m) (size - 8) c.args.lease c.args.request n m =
    cleans_so n h c.args.lease c.args.request engine c.args.self.now.link pcs it.connection old m setup answers w k it.there played c.if-self.false free.free leases asked in
    let acted = c.in_ok-done.ensures.refines size engine (seat_by h (Some it.connection)) m there idle (rests idle) mid
    (subst (λ (a : Acted). IsCountable (after a m)) is few).0 in
    reseats n size engine c.in_ok-done.done c.clean.new.self (seated Draining (client_at n (connections c.clean.new.pool))) (seat_in (record c.args.self.now { link = c.clean.new.self }) c.leave_if_cut.new.pool) now (acts_on setup answers w (event.Clean k) n m) m
    (λ live.
    ap (λ (p : PoolState). seat_by h (numbered c.clean.new.self.number (connections p))) (c.leave_if_cut.ensures.live live)
    ∙ ap (λ (i : ℕ). seat_by h (numbered i (connections c.clean.new.pool))) c.in_ok-done.ensures.number
    ∙ ap (seat_by h) (sent_here n clean_request c.clean.new.self.is_cut c.args.pool.now c.begin_cleaning.new.pool c.clean.new.pool c.leave_if_cut.new.pool it.connection cleans it.there))
    (subst (λ (a : Acted). RefinesAct n size engine c.in_ok-done.done c.clean.new.self (seated Draining (client_at n (connections c.clean.new.pool))) now a m) (sym is) acted)

pub returns-clause-gone : goal.returns-clause-gone
returns-clause-gone g c = λ cut. let bad : true ≡ false = sym cut ∙ c.if-self.false in absurd (cc)

pub returns-clause-loses : goal.returns-clause-loses
returns-clause-loses g c = λ n lost. subst (λ (b : Bool). MayLose b (event.Clean n)) (sym c.if-self.false) tt

pub clean-requires-clause-unasked : goal.clean-requires-clause-unasked
clean-requires-clause-unasked g c = c.requires.unasked c.if-self.false

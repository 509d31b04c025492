use Rattle.std.proofs.Common.{◌≡◌, ◌∙◌, ℕ, Bool, true, false, Option, Some, refl, sym, ap, subst}
use Rattle.std.specs.Prelude.{IsSome, option_map}
use Rattle.tds_client.specs.Session.{ClientSession}
use Rattle.tds_pool.specs.Connections.{PoolState, connections, numbered}
use Rattle.tds_pool.specs.Calls.{is_broken}
use Rattle.tds_pool.specs.Cleaning.{client_at}
use Rattle.tds_session.specs.Answer.{Answers, answer_of}
use Rattle.tds_session.specs.declared.attention.OnAttention.TheVariants.{Keep}
use Rattle.tds_world.specs.Connection.{new_connection}
use Rattle.tds_world.specs.declared.report.Place.{Place}
use Rattle.tds_world.specs.declared.report.Place.TheVariants.{Leased}
use Rattle.tds_play.specs.Stepping.{ends_event}
use Rattle.tds_play.specs.declared.link.EventDone.{EventDone}
use Rattle.tds_play.specs.Pipe.{Pipe}
use Rattle.tds_play.specs.Failures.{calls_of}
use Rattle.tds_play.specs.Plays.{MayLose, RepresentsConnection, acts_on}
use Rattle.tds_play.specs.Pooled.{ChangesOne, place_by, seat_by, seat_in}
use Rattle.tds_play.specs.Reads.{IsReading}
use Rattle.tds_play.specs.Seats.{Seat, behind_event, placed_behind, seated}
use Rattle.tds_play.specs.declared.seat.Held.{Held}
use Rattle.tds_play.proofs.Acting.{cut_alike}
use Rattle.tds_play.proofs.Failing.{settled_as}
use Rattle.tds_play.proofs.Losing.{whole_alike}
use Rattle.tds_play.proofs.Tying.{faithful_before, ties_handed}
use Rattle.tds_play.proofs.any_bytes.Brought.{gone_on}
use Rattle.tds_play.proofs.any_bytes.Stays.{stays_numbered}
use Rattle.tds_play.proofs.pooled.Numbers.{IsIn}
use Rattle.tds_play.proofs.pooled.Clients.{client_at_is, client_one, still_there, with}
use Rattle.tds_play.proofs.pooled.Settled.{in_of, none_changes, settled_played, settled_reads}
use Rattle.tds_play.proofs.seat.Held.act.Goals as goal

pub returns-then-self-clause-pool : goal.returns-then-self-clause-pool
returns-then-self-clause-pool g c =
    none_changes c.args.self.now.link.number c.args.self.now.link.is_cut c.args.pool.now c.if-self.true (c.requires.there.is_out c.if-self.true)

pub returns-then-self-clause-reads : goal.returns-then-self-clause-reads
returns-then-self-clause-reads g c = λ size reads.
    gone_on size (ends_event c.args.step) c.on_cut.result.outcome (new_connection Keep (Leased 0)) c.args.self.now.link (seat_in c.args.self.now c.args.pool.now).client.columns (g.C.EventCarrier.pipes c.args.carrier.now c.args.self.now.link.number)
    (ap (λ (d : EventDone). d.outcome) (c.on_cut.ensures.value (new_connection Keep (Leased 0)))) reads

-- What was cut before does nothing, in the model as here.
pub returns-then-self-clause-refines : goal.returns-then-self-clause-refines
returns-then-self-clause-refines g c = λ setup w m engine faithful played gives few next.
    let n : ℕ = c.args.self.now.link.number in
    let size : ℕ = setup.packet_size in
    let seat : Seat = seat_in c.args.self.now c.args.pool.now in
    let old : Option Pipe = g.C.EventCarrier.pipes c.args.carrier.now n in
    let answers : Answers = answer_of (g.E.Engine.statements_of engine) (g.E.Engine.step_of engine) in
    whole_alike n size engine c.on_cut.result c.args.self.now.link seat old (λ e. acts_on setup answers w e n m) (ends_event c.args.step) m
    (cut_alike n size engine c.args.self.now.link seat old setup answers w (ends_event c.args.step) m c.on_cut.result played c.if-self.true (c.on_cut.ensures.value m))

-- What stands under its number once the client has done what the event does.
pub settle-requires-clause-is_in : goal.settle-requires-clause-is_in
settle-requires-clause-is_in g c =
    let n : ℕ = c.args.self.now.link.number in
    let there : IsSome (numbered n (connections c.args.pool.now)) = c.requires.there.is_in c.if-self.false in
    subst (λ (k : ℕ). IsSome (numbered k (connections c.act.new.pool))) (sym c.in_ok-done.ensures.number)
    (still_there n c.args.pool.now c.act.new.pool c.in_ok-done.ensures.client there)

pub returns-clause-pool : goal.returns-clause-pool
returns-clause-pool g c =
    let n : ℕ = c.args.self.now.link.number in
    client_one n c.settle.new.self.link.is_cut c.args.pool.now c.act.new.pool c.settle.new.pool c.in_ok-done.ensures.client
    (subst (λ (k : ℕ). ChangesOne k c.settle.new.self.link.is_cut c.act.new.pool c.settle.new.pool) c.in_ok-done.ensures.number c.in_ok-settle.ensures.pool)

pub returns-clause-reads : goal.returns-clause-reads
returns-clause-reads g c = λ size reads.
    let n : ℕ = c.args.self.now.link.number in
    let h : ℕ = c.args.self.now.holder in
    let mid : PoolState = c.act.new.pool in
    let s : ClientSession = client_at n (connections mid) in
    let there : IsSome (numbered n (connections c.args.pool.now)) = c.requires.there.is_in c.if-self.false in
    let it : IsIn n (connections c.args.pool.now) = in_of n (connections c.args.pool.now) there in
    let old : Option Pipe = g.C.EventCarrier.pipes c.args.carrier.now n in
    let columns : (seat_in c.args.self.now c.args.pool.now).client.columns ≡ (client_at n (connections c.args.pool.now)).columns =
    ap (λ o. (seat_by h o).client.columns) it.there ∙ sym (ap (λ (x : ClientSession). x.columns) (client_at_is n (connections c.args.pool.now) it.connection it.there)) in
    let seat : numbered c.act.new.self.number (connections mid) ≡ Some (with s it.connection) =
    ap (λ (k : ℕ). numbered k (connections mid)) c.in_ok-done.ensures.number
    ∙ c.in_ok-done.ensures.client.here ∙ ap (option_map (with s)) it.there in
    settled_reads size (ends_event c.args.step) c.in_ok-done.done.outcome c.act.new.self c.settle.new.self.link s.columns (seat_in c.settle.new.self c.settle.new.pool).client.columns old (g.C.EventCarrier.pipes c.act.new.carrier n) (g.C.EventCarrier.pipes c.settle.new.carrier n)
    (c.in_ok-done.ensures.reads size (subst (λ (k : Option ℕ). IsReading size c.args.self.now.link k old) columns reads))
    (stays_numbered c.act.new.self.number n c.act.new.self c.settle.new.self.link (g.C.EventCarrier.pipes c.act.new.carrier) (g.C.EventCarrier.pipes c.settle.new.carrier) c.in_ok-done.ensures.number c.in_ok-settle.ensures.still)
    (λ live. ap (λ (x : ClientSession). x.columns) (c.in_ok-settle.ensures.client live) ∙ ap (λ o. (seat_by h o).client.columns) seat)

pub returns-clause-refines : goal.returns-clause-refines
returns-clause-refines g c = λ setup w m engine faithful played gives few next.
    let n : ℕ = c.args.self.now.link.number in
    let h : ℕ = c.args.self.now.holder in
    let mid : PoolState = c.act.new.pool in
    let s : ClientSession = client_at n (connections mid) in
    let size : ℕ = setup.packet_size in
    let there : IsSome (numbered n (connections c.args.pool.now)) = c.requires.there.is_in c.if-self.false in
    let it : IsIn n (connections c.args.pool.now) = in_of n (connections c.args.pool.now) there in
    let lent : client_at n (connections c.args.pool.now) ≡ it.connection.client = client_at_is n (connections c.args.pool.now) it.connection it.there in
    let p : Place = place_by h it.connection.place in
    let old : Option Pipe = g.C.EventCarrier.pipes c.args.carrier.now n in
    let seat : seat_in c.args.self.now c.args.pool.now ≡ seated p (client_at n (connections c.args.pool.now)) =
    ap (seat_by h) it.there ∙ sym (ap (seated p) lent) in
    let before = faithful_before n c.act.new.self.number c.settle.new.self.link (g.C.EventCarrier.pipes c.act.new.carrier) (g.C.EventCarrier.pipes c.settle.new.carrier)
    (g.C.EventCarrier.began c.act.new.carrier) (g.C.EventCarrier.began c.settle.new.carrier) c.in_ok-done.ensures.number c.in_ok-settle.ensures.ties faithful in
    let acted = c.in_ok-done.ensures.refines setup w m engine p before (subst (λ (x : Seat). RepresentsConnection n size engine c.args.self.now.link x old m) seat played) gives few next in
    let found : numbered c.act.new.self.number (connections mid) ≡ Some (with s it.connection) =
    ap (λ (k : ℕ). numbered k (connections mid)) c.in_ok-done.ensures.number
    ∙ c.in_ok-done.ensures.client.here ∙ ap (option_map (with s)) it.there in
    let now : Held g.row.E.Denot g.row.E-Stmt.Denot = record c.args.self.now { link = c.act.new.self } in
    let is : seat_in now mid ≡ seated p s = ap (seat_by h) found in
    record {
      outcome = acted.outcome;
      played = settled_played n size engine now c.settle.new.self s (seated (placed_behind (ends_event c.args.step) s p) s) c.settle.new.pool (g.C.EventCarrier.pipes c.act.new.carrier n) (g.C.EventCarrier.pipes c.settle.new.carrier n) _ refl acted.played
          (λ cut. let z = c.in_ok-settle.ensures.cut cut in (z.0, ap (λ x. g.C.EventCarrier.pipes x n) z.1))
          (λ lives fine.
          let z = c.in_ok-settle.ensures.sound lives (ap (λ (x : Seat). is_broken x.client.stage) is ∙ fine) in
          (z.0, ap (λ x. g.C.EventCarrier.pipes x n) z.1, z.2 ∙ ap (behind_event (ends_event c.args.step)) is));
    }

pub returns-clause-number : goal.returns-clause-number
returns-clause-number g c = c.in_ok-settle.ensures.number ∙ c.in_ok-done.ensures.number

pub returns-clause-holder : goal.returns-clause-holder
returns-clause-holder g c = c.in_ok-settle.ensures.holder

pub returns-clause-there : goal.returns-clause-there
returns-clause-there g c = c.in_ok-settle.ensures.there

pub returns-clause-ties : goal.returns-clause-ties
returns-clause-ties g c =
    let n : ℕ = c.args.self.now.link.number in
    ties_handed n n c.act.new.self.number c.act.new.self c.settle.new.self.link
    (g.C.EventCarrier.pipes c.args.carrier.now) (g.C.EventCarrier.pipes c.act.new.carrier) (g.C.EventCarrier.pipes c.settle.new.carrier)
    (g.C.EventCarrier.began c.args.carrier.now) (g.C.EventCarrier.began c.act.new.carrier) (g.C.EventCarrier.began c.settle.new.carrier)
    refl c.in_ok-done.ensures.number c.in_ok-done.ensures.ties c.in_ok-settle.ensures.ties

pub returns-clause-failed : goal.returns-clause-failed
returns-clause-failed g c = λ fine.
    settled_as c.args.self.now.link.number c.act.new.self.number (calls_of (ends_event c.args.step)) c.in_ok-done.done c.act.new.self c.settle.new.self.link
    (g.C.EventCarrier.pipes c.act.new.carrier) (g.C.EventCarrier.pipes c.settle.new.carrier)
    c.in_ok-done.ensures.number (λ cut. ap (λ h. h.link.is_cut) (c.in_ok-settle.ensures.cut cut).0 ∙ cut) c.in_ok-settle.ensures.failed (c.in_ok-done.ensures.failed fine)

pub returns-clause-gone : goal.returns-clause-gone
returns-clause-gone g c = λ cut. let bad : true ≡ false = sym cut ∙ c.if-self.false in absurd (cc)

pub returns-clause-loses : goal.returns-clause-loses
returns-clause-loses g c = λ lost. subst (λ (b : Bool). MayLose b (ends_event c.args.step)) (sym c.if-self.false) (c.in_ok-done.ensures.loses lost)

pub act-requires-clause-unasked : goal.act-requires-clause-unasked
act-requires-clause-unasked g c = c.requires.unasked c.if-self.false

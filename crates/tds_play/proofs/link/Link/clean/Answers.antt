use Rattle.std.proofs.Common.{[], ◌∷◌, ◌∙◌, ◌++◌, ℕ, List, Option, false, refl, subst, sym, ap}
use Rattle.tds_client.specs.Sending.{Effect}
use Rattle.tds_client.specs.declared.state.Sent.{Sent}
use Rattle.tds_client.specs.declared.state.Sent.TheVariants as sents
use Rattle.tds_packet.specs.declared.kind.Direction.TheVariants.{ToServer}
use Rattle.tds_pool.specs.Cleaning.{client_at}
use Rattle.tds_pool.specs.Connections.{connections}
use Rattle.tds_world.specs.declared.report.Place.TheVariants.{Draining}
use Rattle.tds_play.specs.Failures.{Send}
use Rattle.tds_play.specs.Pipe.{Pipe}
use Rattle.tds_play.specs.Seats.{seated}
use Rattle.tds_play.specs.Ties.{IsTied}
use Rattle.tds_play.proofs.Cleaning.{cleaned_played, sent_columns}
use Rattle.tds_play.proofs.Doing.{ends_so}
use Rattle.tds_play.proofs.Failing.{sent_as}
use Rattle.tds_play.proofs.Outward.{given}
use Rattle.tds_play.proofs.Tying.{ties_handed}
use Rattle.tds_play.proofs.any_bytes.Stays.{stays_handed}
use Rattle.tds_play.proofs.Unasked.{sends_at}
use Rattle.tds_play.proofs.link.Link.clean.Goals as goal

pub hand_over-requires-clause-live : goal.hand_over-requires-clause-live
hand_over-requires-clause-live g c = ap (λ l. l.is_cut) c.in_ok-ask_cleaning.ensures.asked.rest ∙ c.requires.live

pub hand_over-requires-clause-tied : goal.hand_over-requires-clause-tied
hand_over-requires-clause-tied g c =
    c.in_ok-ask_cleaning.ensures.tied _
    (subst (λ (n : ℕ). IsTied c.args.self.now (g.C.EventCarrier.pipes c.args.carrier.now n)) (sym c.in_ok-ask_cleaning.ensures.number) c.requires.tied)

pub returns-clause-refines : goal.returns-clause-refines
returns-clause-refines g c = λ size engine seat d played idle rests began few.
    let conn : ℕ = c.args.self.now.number in
    let old : ℕ → Option Pipe = g.C.EventCarrier.pipes c.args.carrier.now in
    let ask = c.in_ok-ask_cleaning.ensures in
    let put = c.in_ok-put_whole.ensures in
    let out = c.in_ok-lost.ensures in
    let e : Effect Sent = record { answer = sents.Last; session = client_at conn (connections c.put_whole.new.pool); bytes = put.sent.0 } in
    let bytes = c.as_slice.ensures.value ∙ put.sent.2 ∙ ap (λ (xs : List ℕ). xs ++ e.bytes) c.new-out.ensures.items in
    let handed = given ToServer conn c.ask_cleaning.new.self c.hand_over.new.self old (g.C.EventCarrier.pipes c.hand_over.new.carrier) c.as_slice.result.now c.in_ok-lost.lost
    ask.number (c.requires.tied.holds c.requires.live).is_open
    (λ e. let h = out.nothing e in (h.1, ap g.C.EventCarrier.pipes h.2)) out.handed out.counted in
    let then = cleaned_played (record {
      unseen = c.pool_is_unseen.ensures;
      waits = c.idle_alike.ensures;
      marks = c.lends_matching.ensures.marked;
      asks_so = record { waits = c.idle_alike.ensures; takes = c.asks_alike.ensures; stays = c.the_other_stays.ensures.asks };
      goes = c.sends_alike.ensures;
      stays = c.the_other_stays.ensures.sends;
      appends = c.sends_append.ensures.to_server;
      tells = c.phases_tell.ensures;
    }) conn size c.args.lease c.args.request engine c.args.self.now c.ask_cleaning.new.self c.hand_over.new.self seat (old conn) (g.C.EventCarrier.pipes c.hand_over.new.carrier conn) d (client_at conn (connections c.args.pool.now)) e c.as_slice.result.now
    played c.requires.live idle rests began ask.asked put.sent.1 refl bytes few handed in
    ends_so conn c.hand_over.new.self.number size engine c.end.result _ c.in_ok-lost.lost c.hand_over.new.self c.end.new.self (seated Draining e.session) (g.C.EventCarrier.pipes c.hand_over.new.carrier) (g.C.EventCarrier.pipes c.end.new.carrier) _ d
    (out.number ∙ ask.number) c.end.ensures.done then.0 (c.end.ensures.refines size engine (seated Draining e.session)) then.1

pub returns-clause-failed : goal.returns-clause-failed
returns-clause-failed g c =
    let out = c.in_ok-lost.ensures in
    sent_as c.args.self.now.number c.ask_cleaning.new.self.number c.hand_over.new.self.number (Send ToServer ∷ []) c.end.result c.in_ok-lost.lost c.end.new.self
    (g.C.EventCarrier.pipes c.args.carrier.now) (g.C.EventCarrier.pipes c.hand_over.new.carrier) (g.C.EventCarrier.pipes c.end.new.carrier)
    c.in_ok-ask_cleaning.ensures.number out.number (out.failed [] false) (c.end.ensures.failed (Send ToServer ∷ []))

pub returns-clause-still : goal.returns-clause-still
returns-clause-still g c =
    let out = c.in_ok-lost.ensures in
    stays_handed c.args.self.now.number c.ask_cleaning.new.self.number c.hand_over.new.self.number c.args.self.now c.ask_cleaning.new.self c.hand_over.new.self c.end.new.self
    (g.C.EventCarrier.pipes c.args.carrier.now) (g.C.EventCarrier.pipes c.hand_over.new.carrier) (g.C.EventCarrier.pipes c.end.new.carrier)
    c.in_ok-ask_cleaning.ensures.number out.number (c.in_ok-ask_cleaning.ensures.still _) out.still c.end.ensures.still

pub returns-clause-number : goal.returns-clause-number
returns-clause-number g c = c.end.ensures.number ∙ c.in_ok-lost.ensures.number ∙ c.in_ok-ask_cleaning.ensures.number

pub returns-clause-columns : goal.returns-clause-columns
returns-clause-columns g c =
    sent_columns (client_at c.args.self.now.number (connections c.args.pool.now))
    (record { answer = sents.Last; session = client_at c.args.self.now.number (connections c.put_whole.new.pool); bytes = c.in_ok-put_whole.ensures.sent.0 }) c.in_ok-put_whole.ensures.sent.1

pub returns-clause-ties : goal.returns-clause-ties
returns-clause-ties g c =
    let out = c.in_ok-lost.ensures in
    ties_handed c.args.self.now.number c.ask_cleaning.new.self.number c.hand_over.new.self.number c.hand_over.new.self c.end.new.self
    (g.C.EventCarrier.pipes c.args.carrier.now) (g.C.EventCarrier.pipes c.hand_over.new.carrier) (g.C.EventCarrier.pipes c.end.new.carrier)
    (g.C.EventCarrier.began c.args.carrier.now) (g.C.EventCarrier.began c.hand_over.new.carrier) (g.C.EventCarrier.began c.end.new.carrier)
    c.in_ok-ask_cleaning.ensures.number out.number out.ties c.end.ensures.ties

pub hand_over-requires-clause-once : goal.hand_over-requires-clause-once
hand_over-requires-clause-once g c =
    sends_at (g.C.EventCarrier.began c.args.carrier.now) (g.C.EventCarrier.pipes c.args.carrier.now) c.args.self.now.number c.ask_cleaning.new.self.number c.in_ok-ask_cleaning.ensures.number c.requires.unasked

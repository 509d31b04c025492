use Rattle.std.proofs.Common.{false, [], ◌∷◌, ◌∙◌, ◌++◌, ℕ, List, Option, sym, ap, subst}
use Rattle.tds_client.specs.Sending as client
use Rattle.tds_world.specs.declared.outcome.Outcome.TheVariants as outcome
use Rattle.tds_client.specs.Session.{ClientSession}
use Rattle.tds_world.specs.Caller.{cancels}
use Rattle.tds_play.specs.Pipe.{Pipe}
use Rattle.tds_play.specs.Plays.{RepresentsConnection}
use Rattle.tds_play.specs.Seats.{seated}
use Rattle.tds_play.proofs.Cancelled.{cancelled_played}
use Rattle.tds_play.proofs.Doing.{ends_so, ok_so}
use Rattle.tds_play.proofs.Outward.{given}
use Rattle.tds_play.specs.Failures.{Send}
use Rattle.tds_packet.specs.declared.kind.Direction.TheVariants.{ToServer}
use Rattle.tds_play.proofs.Failing.{sent_as}
use Rattle.tds_play.specs.Acts.{cancelled_as}
use Rattle.tds_play.proofs.Tying.{ended_link, if_told, ties_handed}
use Rattle.tds_play.proofs.any_bytes.Stays.{stays_handed}
use Rattle.tds_play.proofs.Unasked.{sends_at}
use Rattle.tds_play.proofs.link.Link.cancel.Goals as goal

pub returns-clause-refines : goal.returns-clause-refines
returns-clause-refines g c = λ size engine p d played few.
    let conn : ℕ = c.args.self.now.number in
    let old : ℕ → Option Pipe = g.C.EventCarrier.pipes c.args.carrier.now in
    let put = c.in_ok-cancelled.ensures in
    let out = c.in_ok-lost.ensures in
    let a = c.cancels_alike.ensures c.args.client.now d (played.lives c.requires.live).stands.client in
    let does = ok_so (client.cancelled c.args.client.now) a.0 _ a.1 put.cancelled in
    let bytes = c.as_slice.ensures.value ∙ does.3 ∙ ap (λ (xs : List ℕ). xs ++ a.0.bytes) c.new-out.ensures.items in
    let handed = given ToServer conn c.cancel_request.new.self c.hand_over.new.self old (g.C.EventCarrier.pipes c.hand_over.new.carrier) c.as_slice.result.now c.in_ok-lost.lost
    put.number (c.requires.tied.holds c.requires.live).is_open
    (λ e. let h = out.nothing e in (h.1, ap g.C.EventCarrier.pipes h.2)) out.handed out.counted in
    ends_so conn c.hand_over.new.self.number size engine c.end.result _ c.in_ok-lost.lost c.hand_over.new.self c.end.new.self (seated p c.cancel_request.new.client) (g.C.EventCarrier.pipes c.hand_over.new.carrier) (g.C.EventCarrier.pipes c.end.new.carrier) _ d
    (out.number ∙ put.number) c.end.ensures.done (ap outcome.Cancel (does.0 ∙ sym a.2)) (c.end.ensures.refines size engine (seated p c.cancel_request.new.client))
    (subst (λ (s : ClientSession). RepresentsConnection conn size engine c.hand_over.new.self (seated p s) (g.C.EventCarrier.pipes c.hand_over.new.carrier conn) (cancels d)) (sym does.1)
    (cancelled_played (record { appends = c.sends_append.ensures.to_server; tells = c.phases_tell.ensures; stays = c.the_other_stays.ensures.cancels; unseen = c.pool_is_unseen.ensures }) conn size engine c.args.self.now c.cancel_request.new.self c.hand_over.new.self (seated p c.args.client.now) (old conn) (g.C.EventCarrier.pipes c.hand_over.new.carrier conn) d c.as_slice.result.now
    played c.requires.live a does.2 bytes few handed))

pub returns-clause-failed : goal.returns-clause-failed
returns-clause-failed g c =
    let out = c.in_ok-lost.ensures in
    sent_as c.args.self.now.number c.cancel_request.new.self.number c.hand_over.new.self.number (Send ToServer ∷ []) c.end.result c.in_ok-lost.lost c.end.new.self
    (g.C.EventCarrier.pipes c.args.carrier.now) (g.C.EventCarrier.pipes c.hand_over.new.carrier) (g.C.EventCarrier.pipes c.end.new.carrier)
    c.in_ok-cancelled.ensures.number out.number (out.failed [] false) (c.end.ensures.failed (Send ToServer ∷ []))

pub returns-clause-still : goal.returns-clause-still
returns-clause-still g c =
    let out = c.in_ok-lost.ensures in
    stays_handed c.args.self.now.number c.cancel_request.new.self.number c.hand_over.new.self.number c.args.self.now c.cancel_request.new.self c.hand_over.new.self c.end.new.self
    (g.C.EventCarrier.pipes c.args.carrier.now) (g.C.EventCarrier.pipes c.hand_over.new.carrier) (g.C.EventCarrier.pipes c.end.new.carrier)
    c.in_ok-cancelled.ensures.number out.number (c.in_ok-cancelled.ensures.still _) out.still c.end.ensures.still

pub returns-clause-number : goal.returns-clause-number
returns-clause-number g c = c.end.ensures.number ∙ c.in_ok-lost.ensures.number ∙ c.in_ok-cancelled.ensures.number

pub returns-clause-columns : goal.returns-clause-columns
returns-clause-columns g c = c.in_ok-cancelled.ensures.columns

pub returns-clause-ties : goal.returns-clause-ties
returns-clause-ties g c =
    let out = c.in_ok-lost.ensures in
    ties_handed c.args.self.now.number c.cancel_request.new.self.number c.hand_over.new.self.number c.hand_over.new.self c.end.new.self
    (g.C.EventCarrier.pipes c.args.carrier.now) (g.C.EventCarrier.pipes c.hand_over.new.carrier) (g.C.EventCarrier.pipes c.end.new.carrier)
    (g.C.EventCarrier.began c.args.carrier.now) (g.C.EventCarrier.began c.hand_over.new.carrier) (g.C.EventCarrier.began c.end.new.carrier)
    c.in_ok-cancelled.ensures.number out.number out.ties c.end.ensures.ties

pub returns-clause-cancelled : goal.returns-clause-cancelled
returns-clause-cancelled g c =
    if_told (client.cancelled c.args.client.now) _ _
    (λ e h. (
      ap (λ d. d.outcome) c.end.ensures.done ∙ ap outcome.Cancel h.0,
      h.1,
      ended_link c.end.result.lost c.in_ok-lost.lost c.cancel_request.new.self c.hand_over.new.self c.end.new.self (cancelled_as e.answer c.args.self.now)
          (ap (λ d. d.lost) c.end.ensures.done) c.end.ensures.value c.in_ok-lost.ensures.rest h.2,
    )) c.in_ok-cancelled.ensures.cancelled

pub hand_over-requires-clause-once : goal.hand_over-requires-clause-once
hand_over-requires-clause-once g c =
    sends_at (g.C.EventCarrier.began c.args.carrier.now) (g.C.EventCarrier.pipes c.args.carrier.now) c.args.self.now.number c.cancel_request.new.self.number c.in_ok-cancelled.ensures.number c.requires.unasked

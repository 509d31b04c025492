use Rattle.std.proofs.Common.{[], ◌∷◌, ◌∙◌, ◌++◌, ◌-◌, ℕ, List, Option, Ok, ap, false, refl, subst, sym}
use Rattle.tds_client.specs.Sending.{sent}
use Rattle.tds_world.specs.declared.outcome.Outcome.TheVariants as outcome
use Rattle.tds_client.specs.Session.{ClientSession}
use Rattle.tds_play.specs.Pipe.{Pipe}
use Rattle.tds_play.specs.Plays.{RepresentsConnection, after}
use Rattle.tds_world.specs.Connection.{phase}
use Rattle.tds_world.specs.Events.{sends_in}
use Rattle.tds_play.specs.Seats.{seated}
use Rattle.tds_play.proofs.Doing.{does_so, ends_so, ok_so, some_is, some_told}
use Rattle.tds_play.proofs.Outward.{given}
use Rattle.tds_play.proofs.Sent.{packet_played, packet_refused, none_sent, some_sent}
use Rattle.tds_play.specs.Failures.{Send}
use Rattle.tds_packet.specs.declared.kind.Direction.TheVariants.{ToServer}
use Rattle.tds_play.proofs.Failing.{sent_as, whole_as}
use Rattle.tds_play.proofs.Tying.{ended_link, if_told, ties_handed}
use Rattle.tds_play.proofs.any_bytes.Stays.{stays, stays_handed}
use Rattle.tds_play.proofs.Unasked.{sends_at}
use Rattle.tds_play.proofs.link.Link.send.Goals as goal

pub returns-clause-refines : goal.returns-clause-refines
returns-clause-refines g c = λ size engine p d played few.
    let conn : ℕ = c.args.self.now.number in
    let old : ℕ → Option Pipe = g.C.EventCarrier.pipes c.args.carrier.now in
    let put = c.in_ok-sent.ensures in
    let out = c.in_ok-lost.ensures in
    let does = some_sent (sent c.args.client.now) (λ e. some_told c.in-Some.sent c.in_ok-sent.field-0 (Ok c.in_ok-sent.field-0) c.in-Some.is refl (put.refused e).0) in
    let sends = ok_so (sent c.args.client.now) does.0 _ does.1 put.sent in
    let bytes = c.as_slice.ensures.value ∙ sends.2 ∙ ap (λ (xs : List ℕ). xs ++ does.0.bytes) c.new-out.ensures.items in
    let handed = given ToServer conn c.args.self.now c.hand_over.new.self old (g.C.EventCarrier.pipes c.hand_over.new.carrier) c.as_slice.result.now c.in_ok-lost.lost
    refl (c.requires.tied.holds c.requires.live).is_open
    (λ e. let h = out.nothing e in (h.1, ap g.C.EventCarrier.pipes h.2)) out.handed out.counted in
    let live = played.lives c.requires.live in
    let goes = c.sends_alike.ensures c.args.client.now d live.stands.client in
    let then = packet_played c.sends_append.ensures.to_server c.phases_tell.ensures conn size engine c.args.self.now c.args.self.now c.hand_over.new.self (seated p c.args.client.now) (old conn) (g.C.EventCarrier.pipes c.hand_over.new.carrier conn) d c.as_slice.result.now does.0
    played c.requires.live goes (λ q is. c.the_other_stays.ensures.sends (size - 8) c.args.self.now.server d q is live.stands.server) does.1 few refl bytes handed in
    ends_so conn c.hand_over.new.self.number size engine c.end.result _ c.in_ok-lost.lost c.hand_over.new.self c.end.new.self (seated p c.put_next.new.client) (g.C.EventCarrier.pipes c.hand_over.new.carrier) (g.C.EventCarrier.pipes c.end.new.carrier) _ d
    out.number c.end.ensures.done (ap outcome.Sent (some_is c.in-Some.sent _ c.in_ok-sent.field-0 c.in-Some.is sends.0) ∙ then.0) (c.end.ensures.refines size engine (seated p c.put_next.new.client))
    (subst (λ (s : ClientSession). RepresentsConnection conn size engine c.hand_over.new.self (seated p s) (g.C.EventCarrier.pipes c.hand_over.new.carrier conn) (after (sends_in (phase d) (size - 8) d.current d) d)) (sym sends.1) then.1)

pub returns-in_default-clause-refines : goal.returns-in_default-clause-refines
returns-in_default-clause-refines g c = λ size engine p d played few.
    let put = c.in_ok-sent.ensures in
    let err = none_sent (sent c.args.client.now) c.in_ok-sent.field-0 _ (λ e h. h.0) c.in_default.is put.sent in
    let goes = c.sends_alike.ensures c.args.client.now d (played.lives c.requires.live).stands.client in
    let then = packet_refused c.args.self.now.number size engine c.args.self.now c.args.self.now (seated p c.args.client.now) (seated p c.put_next.new.client) (g.C.EventCarrier.pipes c.args.carrier.now c.args.self.now.number) d played c.requires.live goes err refl (ap (seated p) (put.refused err).1) in
    does_so c.args.self.now.number size engine c.refused.result _ false c.args.self.now (seated p c.put_next.new.client) (g.C.EventCarrier.pipes c.args.carrier.now c.args.self.now.number) _ d c.refused.ensures then.0 then.1

pub returns-clause-failed : goal.returns-clause-failed
returns-clause-failed g c =
    let out = c.in_ok-lost.ensures in
    sent_as c.args.self.now.number c.args.self.now.number c.hand_over.new.self.number (Send ToServer ∷ []) c.end.result c.in_ok-lost.lost c.end.new.self
    (g.C.EventCarrier.pipes c.args.carrier.now) (g.C.EventCarrier.pipes c.hand_over.new.carrier) (g.C.EventCarrier.pipes c.end.new.carrier)
    refl out.number (out.failed [] false) (c.end.ensures.failed (Send ToServer ∷ []))

pub returns-in_default-clause-failed : goal.returns-in_default-clause-failed
returns-in_default-clause-failed g c = whole_as (Send ToServer ∷ []) c.refused.result c.args.self.now (g.C.EventCarrier.pipes c.args.carrier.now c.args.self.now.number) (ap (λ d. d.lost) c.refused.ensures)

pub returns-clause-still : goal.returns-clause-still
returns-clause-still g c =
    let out = c.in_ok-lost.ensures in
    stays_handed c.args.self.now.number c.args.self.now.number c.hand_over.new.self.number c.args.self.now c.args.self.now c.hand_over.new.self c.end.new.self
    (g.C.EventCarrier.pipes c.args.carrier.now) (g.C.EventCarrier.pipes c.hand_over.new.carrier) (g.C.EventCarrier.pipes c.end.new.carrier)
    refl out.number (stays c.args.self.now (g.C.EventCarrier.pipes c.args.carrier.now c.args.self.now.number)) out.still c.end.ensures.still

pub returns-clause-number : goal.returns-clause-number
returns-clause-number g c = c.end.ensures.number ∙ c.in_ok-lost.ensures.number

pub returns-clause-columns : goal.returns-clause-columns
returns-clause-columns g c = c.in_ok-sent.ensures.columns

pub returns-clause-ties : goal.returns-clause-ties
returns-clause-ties g c =
    let out = c.in_ok-lost.ensures in
    ties_handed c.args.self.now.number c.args.self.now.number c.hand_over.new.self.number c.hand_over.new.self c.end.new.self
    (g.C.EventCarrier.pipes c.args.carrier.now) (g.C.EventCarrier.pipes c.hand_over.new.carrier) (g.C.EventCarrier.pipes c.end.new.carrier)
    (g.C.EventCarrier.began c.args.carrier.now) (g.C.EventCarrier.began c.hand_over.new.carrier) (g.C.EventCarrier.began c.end.new.carrier)
    refl out.number out.ties c.end.ensures.ties

pub returns-clause-sent : goal.returns-clause-sent
returns-clause-sent g c =
    if_told (sent c.args.client.now) _ _
    (λ e h. (
      ap (λ d. d.outcome) c.end.ensures.done ∙ ap outcome.Sent (some_is c.in-Some.sent _ c.in_ok-sent.field-0 c.in-Some.is h.0),
      h.1,
      ended_link c.end.result.lost c.in_ok-lost.lost c.args.self.now c.hand_over.new.self c.end.new.self c.args.self.now
          (ap (λ d. d.lost) c.end.ensures.done) c.end.ensures.value c.in_ok-lost.ensures.rest refl,
    )) c.in_ok-sent.ensures.sent

pub hand_over-requires-clause-once : goal.hand_over-requires-clause-once
hand_over-requires-clause-once g c =
    sends_at (g.C.EventCarrier.began c.args.carrier.now) (g.C.EventCarrier.pipes c.args.carrier.now) c.args.self.now.number c.args.self.now.number refl c.requires.unasked

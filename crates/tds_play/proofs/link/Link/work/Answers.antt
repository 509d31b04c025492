use Rattle.std.proofs.Common.{false, [], ◌∷◌, ◌∙◌, ◌++◌, ℕ, List, Option, ap}
use Rattle.tds_server.specs.Working.{worked}
use Rattle.tds_world.specs.declared.outcome.Outcome.TheVariants as outcome
use Rattle.tds_play.specs.Pipe.{Pipe}
use Rattle.tds_play.proofs.Doing.{ends_so}
use Rattle.tds_play.proofs.Outward.{given}
use Rattle.tds_play.proofs.Worked.{worked_played}
use Rattle.tds_play.specs.Failures.{Send}
use Rattle.tds_packet.specs.declared.kind.Direction.TheVariants.{ToClient}
use Rattle.tds_play.proofs.Failing.{sent_as}
use Rattle.tds_play.specs.Acts.{worked_as}
use Rattle.tds_play.proofs.Tying.{ended_link, ties_handed}
use Rattle.tds_play.proofs.any_bytes.Stays.{stays_handed}
use Rattle.tds_play.proofs.Unasked.{sends_at}
use Rattle.tds_play.proofs.link.Link.work.Goals as goal

pub returns-clause-refines : goal.returns-clause-refines
returns-clause-refines g c = λ size engine seat d played ends newest past few.
    let conn : ℕ = c.args.self.now.number in
    let old : ℕ → Option Pipe = g.C.EventCarrier.pipes c.args.carrier.now in
    let w = worked c.args.self.now.server in
    let step = c.in_ok-outcome.ensures in
    let out = c.in_ok-lost.ensures in
    let bytes = c.as_slice.ensures.value ∙ step.bytes ∙ ap (λ (xs : List ℕ). xs ++ w.packet) c.new-out.ensures.items in
    let handed = given ToClient conn c.put_step.new.self c.hand_over.new.self old (g.C.EventCarrier.pipes c.hand_over.new.carrier) c.as_slice.result.now c.in_ok-lost.lost
    step.number (c.requires.tied.holds c.requires.live).is_open
    (λ e. let h = out.nothing e in (h.1, ap g.C.EventCarrier.pipes h.2)) out.handed out.counted in
    let stands = (played.lives c.requires.live).stands in
    let then = worked_played c.sends_append.ensures.to_client conn size engine c.args.self.now c.put_step.new.self c.hand_over.new.self seat (old conn) (g.C.EventCarrier.pipes c.hand_over.new.carrier conn) d c.as_slice.result.now
    played c.requires.live (c.works_alike.ensures c.args.self.now.server d stands.server ends) (c.the_other_stays.ensures.works seat.client d stands.client) newest past few step.value bytes handed in
    ends_so conn c.hand_over.new.self.number size engine c.end.result _ c.in_ok-lost.lost c.hand_over.new.self c.end.new.self seat (g.C.EventCarrier.pipes c.hand_over.new.carrier) (g.C.EventCarrier.pipes c.end.new.carrier) _ d
    (out.number ∙ step.number) c.end.ensures.done (ap outcome.Work (step.outcome ∙ then.0)) (c.end.ensures.refines size engine seat) then.1

pub returns-clause-failed : goal.returns-clause-failed
returns-clause-failed g c =
    let out = c.in_ok-lost.ensures in
    sent_as c.args.self.now.number c.put_step.new.self.number c.hand_over.new.self.number (Send ToClient ∷ []) c.end.result c.in_ok-lost.lost c.end.new.self
    (g.C.EventCarrier.pipes c.args.carrier.now) (g.C.EventCarrier.pipes c.hand_over.new.carrier) (g.C.EventCarrier.pipes c.end.new.carrier)
    c.in_ok-outcome.ensures.number out.number (out.failed [] false) (c.end.ensures.failed (Send ToClient ∷ []))

pub returns-clause-still : goal.returns-clause-still
returns-clause-still g c =
    let out = c.in_ok-lost.ensures in
    stays_handed c.args.self.now.number c.put_step.new.self.number c.hand_over.new.self.number c.args.self.now c.put_step.new.self c.hand_over.new.self c.end.new.self
    (g.C.EventCarrier.pipes c.args.carrier.now) (g.C.EventCarrier.pipes c.hand_over.new.carrier) (g.C.EventCarrier.pipes c.end.new.carrier)
    c.in_ok-outcome.ensures.number out.number (c.in_ok-outcome.ensures.still _) out.still c.end.ensures.still

pub returns-clause-number : goal.returns-clause-number
returns-clause-number g c = c.end.ensures.number ∙ c.in_ok-lost.ensures.number ∙ c.in_ok-outcome.ensures.number

pub returns-clause-ties : goal.returns-clause-ties
returns-clause-ties g c =
    let out = c.in_ok-lost.ensures in
    ties_handed c.args.self.now.number c.put_step.new.self.number c.hand_over.new.self.number c.hand_over.new.self c.end.new.self
    (g.C.EventCarrier.pipes c.args.carrier.now) (g.C.EventCarrier.pipes c.hand_over.new.carrier) (g.C.EventCarrier.pipes c.end.new.carrier)
    (g.C.EventCarrier.began c.args.carrier.now) (g.C.EventCarrier.began c.hand_over.new.carrier) (g.C.EventCarrier.began c.end.new.carrier)
    c.in_ok-outcome.ensures.number out.number out.ties c.end.ensures.ties

pub returns-clause-worked : goal.returns-clause-worked
returns-clause-worked g c =
    let step = c.in_ok-outcome.ensures in (
      ap (λ d. d.outcome) c.end.ensures.done ∙ ap outcome.Work step.outcome,
      ended_link c.end.result.lost c.in_ok-lost.lost c.put_step.new.self c.hand_over.new.self c.end.new.self (worked_as (worked c.args.self.now.server) c.args.self.now)
          (ap (λ d. d.lost) c.end.ensures.done) c.end.ensures.value c.in_ok-lost.ensures.rest step.value,
    )

pub hand_over-requires-clause-once : goal.hand_over-requires-clause-once
hand_over-requires-clause-once g c =
    sends_at (g.C.EventCarrier.began c.args.carrier.now) (g.C.EventCarrier.pipes c.args.carrier.now) c.args.self.now.number c.put_step.new.self.number c.in_ok-outcome.ensures.number c.requires.unasked

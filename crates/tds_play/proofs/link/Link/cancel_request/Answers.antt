use Rattle.std.proofs.Common.{◌∙◌, ap}
use Rattle.tds_client.specs.Sending as client
use Rattle.tds_ends.specs.Refines.{cancel_outcome}
use Rattle.tds_play.specs.Acts.{cancelled_as}
use Rattle.tds_play.proofs.Tying.{cancelled_live, cancelled_number, cancelled_tied, if_told}
use Rattle.tds_play.proofs.any_bytes.Stays.{cancelled_stays}
use Rattle.tds_play.proofs.link.Link.cancel_request.Goals as goal

pub returns-clause-number : goal.returns-clause-number
returns-clause-number g c = cancelled_number c.in_ok-cancelled.cancelled c.args.self.now c.note_cancel.new.self c.note_cancel.ensures

pub returns-clause-tied : goal.returns-clause-tied
returns-clause-tied g c = λ pipe. cancelled_tied c.in_ok-cancelled.cancelled c.args.self.now c.note_cancel.new.self pipe c.note_cancel.ensures

pub returns-clause-still : goal.returns-clause-still
returns-clause-still g c = λ pipe. cancelled_stays c.in_ok-cancelled.cancelled c.args.self.now c.note_cancel.new.self pipe c.note_cancel.ensures

pub returns-clause-live : goal.returns-clause-live
returns-clause-live g c = cancelled_live c.in_ok-cancelled.cancelled c.args.self.now c.note_cancel.new.self c.note_cancel.ensures

pub returns-clause-cancelled : goal.returns-clause-cancelled
returns-clause-cancelled g c =
    if_told (client.cancelled c.args.client.now) _ _
    (λ e h. (
      c.as_outcome.ensures ∙ ap cancel_outcome h.0,
      h.1,
      c.note_cancel.ensures ∙ ap (λ a. cancelled_as a c.args.self.now) h.0,
      h.2,
    )) c.in_ok-cancelled.ensures.cancelled

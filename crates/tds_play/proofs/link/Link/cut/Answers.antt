use Rattle.std.proofs.Common.{◌∙◌, sym, ap, refl, subst, Some, option_map}
use Rattle.tds_play.specs.Links.{lost_record}
use Rattle.tds_play.proofs.CutOff.{cut_played}
use Rattle.tds_play.specs.Failures.{failures}
use Rattle.tds_play.specs.Pipe.{IsFaithful}
use Rattle.tds_play.proofs.any_bytes.Faithful.{cut_faithful}
use Rattle.tds_play.proofs.Failing.{cut_no_more}
use Rattle.tds_play.proofs.link.Link.cut.Goals as goal

pub returns-in-Some-clause-refines : goal.returns-in-Some-clause-refines
returns-in-Some-clause-refines g c = λ size engine seat d p live.
    cut_played c.args.self.now.number size engine c.args.self.now _ seat (g.C.EventCarrier.pipes c.args.carrier.now c.args.self.now.number) _ d p live refl refl refl
    (ap Some c.lose.ensures ∙ sym (ap (option_map lost_record) c.in-Some.is)) c.requires.uncut c.cut.ensures.cut.here

pub returns-in_default-clause-refines : goal.returns-in_default-clause-refines
returns-in_default-clause-refines g c = λ size engine seat d p live.
    cut_played c.args.self.now.number size engine c.args.self.now _ seat (g.C.EventCarrier.pipes c.args.carrier.now c.args.self.now.number) _ d p live refl refl refl
    (c.in_default.is ∙ sym (ap (option_map lost_record) c.in_default.is)) c.requires.uncut c.cut.ensures.cut.here

pub returns-in-Some-clause-failed : goal.returns-in-Some-clause-failed
returns-in-Some-clause-failed g c = λ call.
    ap (λ p. failures p call) c.cut.ensures.cut.here ∙ cut_no_more (g.C.EventCarrier.pipes c.args.carrier.now c.args.self.now.number) call

pub returns-in_default-clause-failed : goal.returns-in_default-clause-failed
returns-in_default-clause-failed g c = λ call.
    ap (λ p. failures p call) c.cut.ensures.cut.here ∙ cut_no_more (g.C.EventCarrier.pipes c.args.carrier.now c.args.self.now.number) call

pub returns-in-Some-clause-ties : goal.returns-in-Some-clause-ties
returns-in-Some-clause-ties g c = record {
  tied = record { server_reads = c.requires.server_reads; client_reads = c.requires.client_reads; holds = λ uncut. absurd (cc) };
  others = c.cut.ensures.cut.others;
  begun = c.cut.ensures.began;
  faithful = λ f. cut_faithful (g.C.EventCarrier.pipes c.args.carrier.now c.args.self.now.number) (subst IsFaithful c.cut.ensures.cut.here f);
}

pub returns-in_default-clause-ties : goal.returns-in_default-clause-ties
returns-in_default-clause-ties g c = record {
  tied = record { server_reads = c.requires.server_reads; client_reads = c.requires.client_reads; holds = λ uncut. absurd (cc) };
  others = c.cut.ensures.cut.others;
  begun = c.cut.ensures.began;
  faithful = λ f. cut_faithful (g.C.EventCarrier.pipes c.args.carrier.now c.args.self.now.number) (subst IsFaithful c.cut.ensures.cut.here f);
}

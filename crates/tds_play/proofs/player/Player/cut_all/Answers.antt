use Rattle.std.proofs.Common.{◌+◌, arith}
use Rattle.tds_play.specs.Player.{all_of}
use Rattle.tds_play.proofs.AllCut.{cuts_next, cuts_whole}
use Rattle.tds_play.proofs.pooled.Cutting.{cuts_more, cuts_none, none_left, one_more_cut}
use Rattle.tds_play.proofs.pooled.Steps.{many_of}
use Rattle.tds_play.proofs.player.Player.cut_all.Goals as goal

pub links-init : goal.links-init
links-init g c = record {
  keeps = cuts_none c.args.self.now (g.C.EventCarrier.pipes c.args.carrier.now) _ c.requires.tied c.requires.held;
  cut = λ i h below at. absurd (omega (arith, below));
  refines = λ size engine cs all. all;
}

pub links-preserved : goal.links-preserved
links-preserved g c =
    let many = many_of c.links.self in
    record {
      keeps = cuts_more c.args.self.now c.links.self c.cut_at.new.self (g.C.EventCarrier.pipes c.args.carrier.now) (g.C.EventCarrier.pipes c.links.carrier) (g.C.EventCarrier.pipes c.cut_at.new.carrier) _ _ _ c.links.invariant.keeps c.cut_at.ensures.keeps;
      cut = one_more_cut c.links.place (c.links.place + 1) c.links.self c.cut_at.new.self c.cut_at.ensures.cuts (omega (arith)) c.links.invariant.cut;
      refines = λ size engine cs all.
          cuts_next size engine (all_of c.links.self) (all_of c.cut_at.new.self) (g.C.EventCarrier.pipes c.links.carrier) (g.C.EventCarrier.pipes c.cut_at.new.carrier) cs c.links.place (c.links.place + 1)
          (omega (arith, many, c.links-test.true, c.len-place-end.ensures, c.args.self.now.links.ok.0, c.links.invariant.keeps.count)) (omega (arith))
          (c.links.invariant.refines size engine cs all) (c.cut_at.ensures.refines size engine);
    }

pub returns-clause-refines : goal.returns-clause-refines
returns-clause-refines g c = λ size engine cs all.
    let many = many_of c.args.self.now in
    cuts_whole size engine (all_of c.args.self.now) (all_of c.links.self) (g.C.EventCarrier.pipes c.args.carrier.now) (g.C.EventCarrier.pipes c.links.carrier) cs c.links.place (omega (arith, many, c.links-test.false, c.links.auto.place-end, c.len-place-end.ensures, c.args.self.now.links.ok.0)) all
    (c.links.invariant.refines size engine cs all)

pub returns-clause-none : goal.returns-clause-none
returns-clause-none g c =
    none_left c.links.self c.links.place c.links.invariant.keeps.held
    (omega (arith, c.links.invariant.keeps.count, c.links-test.false, c.links.auto.place-end, c.len-place-end.ensures, c.args.self.now.links.ok.0))
    c.links.invariant.cut

use Rattle.std.proofs.Common.{[], ◌∷◌, ◌∙◌, refl, ap}
use Rattle.std.proofs.Math.Logic.{∥∥₁_map}
use Rattle.std.proofs.lemmas.List.{map-append}
use Rattle.tds_trace.specs.Told.{begun_by, begun_in}
use Rattle.tds_trace.proofs.Turning.{told_one_more}
use Rattle.tds_trace.proofs.recording.RecordingCarrierEventCarrier.begin.Goals as goal

pub invariant_of-self : goal.invariant_of-self
invariant_of-self g c =
    let pipes = g.C.Carrier.pipes in
    let was = c.args.self.now.began.items in
    let t = c.of.result in
    record {
      recorded = c.args.self.now.recorded;
      turns = λ short.
          ∥∥₁_map (c.args.self.now.turns short) (λ r.
          told_one_more c.args.self.now.event c.args.event c.args.self.now.calls.items (begun_in pipes was) _
          (pipes c.args.self.now.inner) (begun_by pipes t) c.of.ensures.event (ap pipes c.of.ensures.carrier)
          (ap (begun_in pipes) c.in-Ok.ensures.items ∙ map-append (begun_by pipes) was (t ∷ [])) r);
    }

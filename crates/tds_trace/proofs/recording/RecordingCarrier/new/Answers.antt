use Rattle.std.proofs.Common.{ap}
use Rattle.tds_trace.specs.Told.{begun_in}
use Rattle.tds_trace.proofs.Recorded.{no_turn, none_kept}
use Rattle.tds_trace.proofs.recording.RecordingCarrier.new.Goals as goal

pub invariant_of-result : goal.invariant_of-result
invariant_of-result g c =
    let pipes = g.C.Carrier.pipes c.args.inner in
    record {
      recorded = λ short. none_kept c.new-2.result.items pipes c.new-2.ensures.items c.requires;
      turns = λ short. no_turn c.new-2.result.items (begun_in g.C.Carrier.pipes c.new.result.items) pipes c.new-2.ensures.items (ap (begun_in g.C.Carrier.pipes) c.new.ensures.items) c.requires;
    }

use Rattle.std.proofs.Common.{refl}
use Rattle.tds_trace.proofs.Recorded.{all_kept, turn_kept}
use Rattle.tds_trace.specs.Told.{begun_in}
use Rattle.tds_trace.specs.declared.call.Made.TheVariants as made
use Rattle.tds_trace.proofs.recording.RecordingCarrierEventCarrier.cut.Goals as goal

pub invariant_of-self : goal.invariant_of-self
invariant_of-self g c =
    let event = c.args.self.now.event in
    let calls = c.args.self.now.calls.items in
    let before = begun_in g.C.Carrier.pipes c.args.self.now.began.items in
    let pipes = g.C.Carrier.pipes c.args.self.now.inner in
    let next = g.C.Carrier.pipes c.cut.new.self in
    record {
      recorded = λ short.
          all_kept event calls _ c.args.conn made.Cut _ before pipes next
          (c.keep-self.ensures.told short) (c.keep-self.ensures.calls short)
          c.cut.ensures.cut
          (refl, c.requires)
          (c.args.self.now.recorded (c.keep-self.ensures.whole short));
      turns = λ short.
          turn_kept event calls _ c.args.conn made.Cut _ before _ pipes next
          (c.keep-self.ensures.told short) (c.keep-self.ensures.calls short)
          c.cut.ensures.cut
          (refl, c.requires)
          refl
          (c.args.self.now.turns (c.keep-self.ensures.whole short));
    }

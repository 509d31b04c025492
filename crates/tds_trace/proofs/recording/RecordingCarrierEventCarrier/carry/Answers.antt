use Rattle.std.proofs.Common.{refl, ◌∙◌}
use Rattle.tds_trace.proofs.Recorded.{all_kept, brought_by, may_bring, turn_kept}
use Rattle.tds_trace.specs.Told.{begun_in}
use Rattle.tds_trace.specs.declared.call.Made.TheVariants as made
use Rattle.tds_trace.proofs.recording.RecordingCarrierEventCarrier.carry.Goals as goal

pub invariant_of-self-in-Ok : goal.invariant_of-self-in-Ok
invariant_of-self-in-Ok g c =
    let event = c.args.self.now.event in
    let calls = c.args.self.now.calls.items in
    let before = begun_in g.C.Carrier.pipes c.args.self.now.began.items in
    let pipes = g.C.Carrier.pipes c.args.self.now.inner in
    let next = g.C.Carrier.pipes c.carry-answer.new.self in
    record {
      recorded = λ short.
          all_kept event calls _ c.args.conn (made.Carry c.args.direction c.in-Ok.came) _ before pipes next
          (c.keep-self.ensures.told short) (c.keep-self.ensures.calls short)
          (rw (c.in-Ok.ensures.items ∙ rw (c.as_slice-before.ensures.value, c.as_slice.ensures.value) at c.behind.ensures) (brought_by c.carry-answer.result c.args.direction pipes next c.args.conn c.args.out.now.items c.carry-answer.new.out.items c.carry-answer.ensures.ok c.carry-answer.ensures.lost c.carry-answer.ensures.nothing (c.keep-self.ensures.known short)))
          (may_bring c.carry-answer.result c.in-Ok.came.items _ _ c.args.out.now.items c.carry-answer.new.out.items c.requires.there c.requires.early c.carry-answer.ensures.least c.carry-answer.ensures.count c.carry-answer.ensures.nothing (c.keep-self.ensures.known short) (c.in-Ok.ensures.items ∙ rw (c.as_slice-before.ensures.value, c.as_slice.ensures.value) at c.behind.ensures))
          (c.args.self.now.recorded (c.keep-self.ensures.whole short));
      turns = λ short.
          turn_kept event calls _ c.args.conn (made.Carry c.args.direction c.in-Ok.came) _ before _ pipes next
          (c.keep-self.ensures.told short) (c.keep-self.ensures.calls short)
          (rw (c.in-Ok.ensures.items ∙ rw (c.as_slice-before.ensures.value, c.as_slice.ensures.value) at c.behind.ensures) (brought_by c.carry-answer.result c.args.direction pipes next c.args.conn c.args.out.now.items c.carry-answer.new.out.items c.carry-answer.ensures.ok c.carry-answer.ensures.lost c.carry-answer.ensures.nothing (c.keep-self.ensures.known short)))
          (may_bring c.carry-answer.result c.in-Ok.came.items _ _ c.args.out.now.items c.carry-answer.new.out.items c.requires.there c.requires.early c.carry-answer.ensures.least c.carry-answer.ensures.count c.carry-answer.ensures.nothing (c.keep-self.ensures.known short) (c.in-Ok.ensures.items ∙ rw (c.as_slice-before.ensures.value, c.as_slice.ensures.value) at c.behind.ensures))
          refl
          (c.args.self.now.turns (c.keep-self.ensures.whole short));
    }

use Rattle.std.proofs.Common.{refl}
use Rattle.tds_trace.proofs.Recorded.{all_kept, done_by, turn_kept}
use Rattle.tds_trace.specs.Told.{begun_in}
use Rattle.tds_trace.specs.declared.call.Made.TheVariants as made
use Rattle.tds_trace.proofs.recording.RecordingCarrierEventCarrier.send.Goals as goal

pub invariant_of-self : goal.invariant_of-self
invariant_of-self g c =
    let event = c.args.self.now.event in
    let calls = c.args.self.now.calls.items in
    let before = begun_in g.C.Carrier.pipes c.args.self.now.began.items in
    let pipes = g.C.Carrier.pipes c.args.self.now.inner in
    let next = g.C.Carrier.pipes c.send-answer.new.self in
    record {
      recorded = λ short.
          all_kept event calls _ c.args.conn (made.Send c.args.direction c.in_ok-kept.kept) _ before pipes next
          (c.keep-self.ensures.told short) (c.keep-self.ensures.calls short)
          (done_by c.send-answer.result (made.Send c.args.direction c.in_ok-kept.kept) pipes next c.args.conn (c.keep-self.ensures.known short) (rw (c.in_ok-kept.ensures.items) c.send-answer.ensures.ok) (rw (c.in_ok-kept.ensures.items) c.send-answer.ensures.lost))
          (rw (c.in_ok-kept.ensures.items) c.requires.some, c.requires.there, c.requires.once)
          (c.args.self.now.recorded (c.keep-self.ensures.whole short));
      turns = λ short.
          turn_kept event calls _ c.args.conn (made.Send c.args.direction c.in_ok-kept.kept) _ before _ pipes next
          (c.keep-self.ensures.told short) (c.keep-self.ensures.calls short)
          (done_by c.send-answer.result (made.Send c.args.direction c.in_ok-kept.kept) pipes next c.args.conn (c.keep-self.ensures.known short) (rw (c.in_ok-kept.ensures.items) c.send-answer.ensures.ok) (rw (c.in_ok-kept.ensures.items) c.send-answer.ensures.lost))
          (rw (c.in_ok-kept.ensures.items) c.requires.some, c.requires.there, c.requires.once)
          refl
          (c.args.self.now.turns (c.keep-self.ensures.whole short));
    }

use Rattle.std.proofs.Common.{rules, ap}
use Rattle.tds_packet.proofs.Cutting.{two_runs, two_runs_ended, runs_taken, rest_is}
use Rattle.tds_packet.proofs.reader.PacketReader.feed_to_end.Goals as goal

pub returns-in-Some-clause-taken : goal.returns-in-Some-clause-taken
returns-in-Some-clause-taken c =
    two_runs c.args.self.now c.take_run.new.self c.take_run-2.new.self c.args.piece.now _ _ _ _ _ c.take_run.ensures (rest_is c.min-head.result c.args.piece.now) c.take_run-2.ensures c.missing.ensures c.min-head.ensures c.missing-2.ensures c.min-body.ensures

pub returns-in-None-clause-taken : goal.returns-in-None-clause-taken
returns-in-None-clause-taken c =
    two_runs c.args.self.now c.take_run.new.self c.take_run-2.new.self c.args.piece.now _ _ _ _ _ c.take_run.ensures (rest_is c.min-head.result c.args.piece.now) c.take_run-2.ensures c.missing.ensures c.min-head.ensures c.missing-2.ensures c.min-body.ensures

pub returns-in-None-clause-count : goal.returns-in-None-clause-count
returns-in-None-clause-count c = ap (λ r. r.taken) (runs_taken c.args.self.now c.take_run.new.self c.take_run-2.new.self c.args.piece.now _ _ _ c.take_run.ensures (rest_is c.min-head.result c.args.piece.now) c.take_run-2.ensures)

pub returns-in-None-clause-all : goal.returns-in-None-clause-all
returns-in-None-clause-all c = λ less. c.fault.ensures.whole (rw c.in-None.is (search rules))
    (two_runs_ended c.args.self.now c.take_run.new.self c.take_run-2.new.self c.args.piece.now _ _ _ _ _ c.take_run.ensures (rest_is c.min-head.result c.args.piece.now) c.take_run-2.ensures c.missing.ensures c.min-head.ensures c.missing-2.ensures c.min-body.ensures less)

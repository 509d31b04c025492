use Rattle.std.proofs.Common.{length}
use Rattle.tds_judge.specs.Framing.{run_of}
use Rattle.tds_judge_c.specs.Judged.{heard_all}
use Rattle.tds_judge_c.proofs.Pieces.{fits_behind, fits_so, heard_end, heard_on}
use Rattle.tds_judge_c.proofs.judging.hear_all.Goals as goal

pub split_at-requires : goal.split_at-requires
split_at-requires c = (fits_so c.args.pieces.now c.pieces.piece-index (length c.pieces.rest.now) (record { time = 0; length = 0; what = 0 }) c.pieces-test.true c.pieces.invariant.fit).0

pub pieces-preserved : goal.pieces-preserved
pieces-preserved c = record {
  fit = fits_behind c.args.pieces.now c.pieces.piece-index c.pieces.rest.now c.split_at.result.1.now (record { time = 0; length = 0; what = 0 }) c.pieces-test.true c.split_at.ensures.back c.pieces.invariant.fit;
  run = heard_on c.args.pieces.now c.pieces.piece-index c.pieces.rest.now c.split_at.result.0.now c.split_at.result.1.now
      (run_of c.pieces.judge c.pieces.found.items) (run_of c.hear.new.judge c.hear.new.found.items) (heard_all c.args.pieces.now c.args.bytes.now (run_of c.args.judge.now c.args.found.now.items))
      (record { time = 0; length = 0; what = 0 }) c.pieces-test.true c.split_at.ensures.front c.split_at.ensures.back c.in_ok-hear.ensures c.pieces.invariant.run;
}

pub returns : goal.returns
returns c =
    heard_end c.args.pieces.now c.pieces.piece-index c.pieces.rest.now (run_of c.pieces.judge c.pieces.found.items) (heard_all c.args.pieces.now c.args.bytes.now (run_of c.args.judge.now c.args.found.now.items))
    c.pieces-test.false c.pieces.invariant.run

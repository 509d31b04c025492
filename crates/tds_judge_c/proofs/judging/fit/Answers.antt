use Rattle.tds_judge_c.specs.Judged.{fits}
use Rattle.tds_judge_c.proofs.Pieces.{fits_end, fits_not, fits_on}
use Rattle.tds_judge_c.proofs.judging.fit.Goals as goal

pub returns-then-piece-left : goal.returns-then-piece-left
returns-then-piece-left c =
    fits_not c.args.pieces.now c.pieces.piece-index c.pieces.left (record { time = 0; length = 0; what = 0 }) (fits c.args.pieces.now c.args.length) c.pieces-test.true c.pieces.invariant c.if-piece-left.true

pub pieces-preserved : goal.pieces-preserved
pieces-preserved c =
    fits_on c.args.pieces.now c.pieces.piece-index c.pieces.left (record { time = 0; length = 0; what = 0 }) (fits c.args.pieces.now c.args.length) c.pieces-test.true c.pieces.invariant c.if-piece-left.false

pub returns : goal.returns
returns c = fits_end c.args.pieces.now c.pieces.piece-index c.pieces.left (fits c.args.pieces.now c.args.length) c.pieces-test.false c.pieces.invariant

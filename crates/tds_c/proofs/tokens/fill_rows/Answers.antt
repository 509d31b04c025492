use Rattle.std.proofs.Common.{◌≡◌, ◌∙◌, ◌+◌, ◌*◌, ◌-◌, length, arith}
use Rattle.std.proofs.lemmas.List.{length-set}
use Rattle.tds_c.proofs.RowAt.{room_for}
use Rattle.tds_c.proofs.Running.{run_on}
use Rattle.tds_c.proofs.tokens.fill_rows.Goals as goal

pub rows-preserved : goal.rows-preserved
rows-preserved c =
    let next : (c.args.read + c.min-left.result) - (c.rows.left - 1) ≡ ((c.args.read + c.min-left.result) - c.rows.left) + 1 = omega (arith, c.rows-test.true, c.rows.invariant.on) in
    record {
      run = λ first room long run. rw next (run_on _ _ _ _ room _ _ _ (omega (arith, long, c.rows-test.true, c.rows.invariant.most, c.rows.invariant.on)) (rw c.from.ensures c.in-Some.ensures) (c.rows.invariant.run first room long run));
      same = length-set c.rows.tokens _ c.in-Some.row ∙ c.rows.invariant.same;
      most = c.rows.invariant.most;
      on = omega (arith, c.rows-test.true, c.rows.invariant.on);
      fits = room_for c.rows.at (1 + 4 * c.from.result) c.rows.left (length c.args.data.now) c.rows-test.true c.rows.invariant.fits;
    }

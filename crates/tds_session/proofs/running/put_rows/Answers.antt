use Rattle.std.proofs.Common.{◌≡◌, ◌++◌, [], ◌∷◌, pos, append_assoc, sym, arith}
use Rattle.std.proofs.lemmas.Grind.{common_steps}
use Rattle.tds_session.proofs.Rows.{rows_next}
use Rattle.tds_token.specs.declared.token.Token.TheVariants as token
use Rattle.tds_session.proofs.running.put_rows.Goals as goal

pub loop-number-preserved : goal.loop-number-preserved
loop-number-preserved c =
    let pushed : c.push.new.self.items ≡ c.loop-number.tokens.items ++ token.Row (pos c.loop-number.number ∷ []) ∷ [] = grind (arith, common_steps) in
    rw pushed (rw append_assoc (rw (sym (rows_next c.loop-number.number _ c.loop-number-test.true)) c.loop-number.invariant))

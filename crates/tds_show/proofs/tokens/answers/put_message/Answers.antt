use Rattle.std.proofs.lemmas.Result.{IfOk-weaker}
use Rattle.tds_show.proofs.TokensShown.{message_shown}
use Rattle.tds_show.proofs.tokens.answers.put_message.Goals as goal

pub returns-clause-shown : goal.returns-clause-shown
returns-clause-shown c =
    IfOk-weaker c.put_closing.result _ _ (λ is_well k. message_shown _ _ _ c.args.data.now c.args.stop.now _ c.in_ok-ending.ensures.lines k) c.put_closing.ensures.closed

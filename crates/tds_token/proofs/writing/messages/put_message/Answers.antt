use Rattle.std.proofs.Common.{◌+◌, ◌*◌, length, ap, arith}
use Rattle.std.proofs.lemmas.Result.{on_ok_weaker}
use Rattle.tds_token.proofs.Keeping.{kept_append, kept_trans}
use Rattle.tds_token.proofs.Messages.{message_written, state_and_class}
use Rattle.tds_token.proofs.writing.messages.put_message.Goals as goal

pub returns-in_err-put_long-clause-kept : goal.returns-in_err-put_long-clause-kept
returns-in_err-put_long-clause-kept c =
    kept_trans _ _ _ (kept_append _ _ _ c.in_ok-put_head.ensures.ok) c.put_long.ensures.kept

pub returns-in_err-put_short-clause-kept : goal.returns-in_err-put_short-clause-kept
returns-in_err-put_short-clause-kept c =
    kept_trans _ _ _ (kept_append _ _ _ c.in_ok-put_head.ensures.ok) (kept_trans _ _ _ c.in_ok-put_long.ensures.kept c.put_short.ensures.kept)

pub returns-in_err-put_short-2-clause-kept : goal.returns-in_err-put_short-2-clause-kept
returns-in_err-put_short-2-clause-kept c =
    kept_trans _ _ _ (kept_append _ _ _ c.in_ok-put_head.ensures.ok)
    (kept_trans _ _ _ c.in_ok-put_long.ensures.kept (kept_trans _ _ _ c.in_ok-put_short.ensures.kept c.put_short-2.ensures.kept))

pub returns-clause-ok : goal.returns-clause-ok
returns-clause-ok c =
    on_ok_weaker c.put_line.result (λ e.
    message_written c.args.out.now.items _ _ _ _ _ c.args.kind (14 + 2 * (length c.units.result.now + length c.units-2.result.now + length c.units-3.result.now)) c.args.message.now (omega (arith, ap length c.units.ensures, ap length c.units-2.ensures, ap length c.units-3.ensures)) c.in_ok-put_head.ensures.ok c.in_ok-put_long.ensures.ok c.in_ok-put_short.ensures.ok c.in_ok-put_short-2.ensures.ok e) c.put_line.ensures.ok

pub returns-clause-ranged : goal.returns-clause-ranged
returns-clause-ranged c =
    on_ok_weaker c.put_line.result (λ e.
    record {
      number = c.put_head.ensures.number;
      state = (state_and_class c.args.out.now.items c.put_line.new.out.items c.args.kind c.args.message.now e c.type_inv.out).0;
      class = (state_and_class c.args.out.now.items c.put_line.new.out.items c.args.kind c.args.message.now e c.type_inv.out).1;
      text = c.in_ok-put_long.ensures.ranged;
      server = c.in_ok-put_short.ensures.ranged;
      procedure = c.in_ok-put_short-2.ensures.ranged;
      line = c.put_line.ensures.line;
    }) (returns-clause-ok c)

pub returns-clause-kept : goal.returns-clause-kept
returns-clause-kept c =
    kept_trans _ _ _ (kept_append _ _ _ c.in_ok-put_head.ensures.ok)
    (kept_trans _ _ _ c.in_ok-put_long.ensures.kept (kept_trans _ _ _ c.in_ok-put_short.ensures.kept (kept_trans _ _ _ c.in_ok-put_short-2.ensures.kept c.put_line.ensures.kept)))

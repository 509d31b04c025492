use Rattle.std.proofs.Common.{pos, string_bytes}
use Rattle.std.specs.Fmt.{signed_decimal}
use Rattle.tds_text.proofs.Joined.{told_more}
use Rattle.tds_text.proofs.rendering.token.put_values.Goals as goal

pub loop-index-preserved : goal.loop-index-preserved
loop-index-preserved c =
    told_more signed_decimal c.args.values.now c.loop-index.index (pos 0) (string_bytes c.args.text.now) (string_bytes c.loop-index.text) (string_bytes c.put_comma.new.text) _
    c.loop-index-test.true c.loop-index.invariant c.in_ok-put_comma.ensures c.in_ok-write.ensures.bytes

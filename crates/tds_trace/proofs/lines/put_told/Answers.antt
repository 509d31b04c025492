use Rattle.std.proofs.Common.{◌++◌, string_bytes, ap, ◌∙◌}
use Rattle.tds_token.specs.declared.token.Token.{Token}
use Rattle.tds_trace.specs.Lines.{token_text}
use Rattle.tds_trace.proofs.Joined.{told_more}
use Rattle.tds_trace.proofs.lines.put_told.Goals as goal

pub loop-index-preserved : goal.loop-index-preserved
loop-index-preserved c =
    told_more token_text c.args.tokens.now c.loop-index.index c.index-tokens-index.result (string_bytes c.args.text.now) (string_bytes c.loop-index.text) (string_bytes c.put_comma.new.text) _
    c.loop-index-test.true c.loop-index.invariant c.in_ok-put_comma.ensures
    (c.in_ok-put_token.ensures ∙ ap (λ (t : Token). string_bytes c.put_comma.new.text ++ token_text t) c.index-tokens-index.is)

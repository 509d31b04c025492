use Rattle.tds_trace.specs.Lines.{request_words}
use Rattle.tds_trace.proofs.Alone.{without_tokens}
use Rattle.tds_trace.proofs.lines.line.put_request_words.Goals as goal

pub returns : goal.returns
unfolding request_words
returns c =
    rw (c.as_slice.ensures.value, c.in_ok-line.ensures, c.new-2.ensures, c.new.ensures.items, without_tokens c.args.request.now) at c.put_line.ensures

use Rattle.std.proofs.lemmas.Result.{err_from_is_err_and}
use Rattle.tds_play.specs.Runs.{AreLeft}
use Rattle.tds_trace.proofs.Ending.{ends_printing, leaves_all, traces_printing}
use Rattle.tds_trace.proofs.run.trace_file.Goals as goal

pub returns-clause-fault : goal.returns-clause-fault
returns-clause-fault g c =
    let printed = c.print_trace in
    ends_printing printed.result (g.R.Read.remaining c.args.reader.now) (g.W.Write.contents c.args.output.now) (g.W.Write.contents printed.new.output) c.as_slice.result.now c.as_str.result.now
    (rw c.as_slice.ensures.value c.in_ok-bytes.ensures.bytes) (rw c.as_str.ensures.value c.in_ok-text.ensures.trace) printed.ensures.begun printed.ensures.fault

pub returns-clause-trace : goal.returns-clause-trace
returns-clause-trace g c =
    let printed = c.print_trace in
    traces_printing printed.result (g.R.Read.remaining c.args.reader.now) (g.W.Write.contents c.args.output.now) (g.W.Write.contents printed.new.output) c.as_slice.result.now c.as_str.result.now
    (rw c.as_slice.ensures.value c.in_ok-bytes.ensures.bytes) (rw c.as_str.ensures.value c.in_ok-text.ensures.trace) printed.ensures.whole

pub returns-in_err-text-clause-fault : goal.returns-in_err-text-clause-fault
returns-in_err-text-clause-fault g c =
    let is = c.in_err-text.ensures.fault in
    let all : AreLeft (g.R.Read.remaining c.args.reader.now) c.as_slice.result.now = rw c.as_slice.ensures.value c.in_ok-bytes.ensures.bytes in
    let p = err_from_is_err_and c.from_residual-in_err-text.result c.from_residual-in_err-text.ensures.1 in
    rw (p.1, p.2) (c.as_slice.result.now, all, is.0, leaves_all c.in_err-text.field-0.0 c.as_slice.result.now (g.W.Write.contents c.args.output.now) is.1)

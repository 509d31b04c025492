use Rattle.tds_play.proofs.Running.{ends_printing, reports_printing}
use Rattle.tds_play.proofs.run.report_file.Goals as goal

pub returns-clause-fault : goal.returns-clause-fault
returns-clause-fault g c = λ faithful.
    let printed = c.print_report in
    ends_printing (g.C.EventCarrier.pipes c.play_file.new.carrier) printed.result (g.R.Read.remaining c.args.reader.now) (g.W.Write.contents c.args.output.now) (g.W.Write.contents printed.new.output) c.as_slice.result.now c.in_ok-report.report
    (rw c.as_slice.ensures.value c.in_ok-bytes.ensures.bytes) (c.in_ok-report.ensures.played faithful) printed.ensures.begun printed.ensures.fault

pub returns-clause-report : goal.returns-clause-report
returns-clause-report g c = λ faithful.
    let printed = c.print_report in
    reports_printing (g.C.EventCarrier.pipes c.play_file.new.carrier) printed.result (g.R.Read.remaining c.args.reader.now) (g.W.Write.contents c.args.output.now) (g.W.Write.contents printed.new.output) c.as_slice.result.now c.in_ok-report.report
    (rw c.as_slice.ensures.value c.in_ok-bytes.ensures.bytes) (c.in_ok-report.ensures.played faithful) printed.ensures.whole

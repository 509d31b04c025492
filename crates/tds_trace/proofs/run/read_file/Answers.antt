use Rattle.std.proofs.Common.{◌≡◌, ap, arith}
use Rattle.std.specs.Prelude.{◌≤◌, length}
use Rattle.std.specs.Io.Take.{take_inner}
use Rattle.tds_play.specs.Runs.{file_limit}
use Rattle.tds_trace.proofs.Ending.{file_unread, fits_file, memory_unread}
use Rattle.tds_trace.proofs.Reading.{all_of_take}
use Rattle.tds_trace.proofs.run.read_file.Goals as goal

pub returns-in-Ok-clause-bytes : goal.returns-in-Ok-clause-bytes
returns-in-Ok-clause-bytes g c =
    let few : length c.read_to_end.new.buf.items ≤ file_limit = omega (arith, c.if-len-le-FILE_LIMIT.true, c.len.ensures)
    in let same : (take_inner c.take-front.result).now ≡ c.args.reader.now = search (c.take-front.ensures.inner)
    in all_of_take (λ reader. g.R.Read.remaining reader.now) c.take-front.result (g.R.Read.remaining c.args.reader.now) file_limit
    c.new-bytes.result.items c.read_to_end.new.buf.items c.take-front.ensures.limit (ap g.R.Read.remaining same) c.new-bytes.ensures.items c.in-Ok.ensures.bytes few

pub returns-in-Ok-2-clause-fault : goal.returns-in-Ok-2-clause-fault
returns-in-Ok-2-clause-fault g c = file_unread (g.R.Read.remaining c.args.reader.now)

pub returns-in-OutOfMemory-clause-fault : goal.returns-in-OutOfMemory-clause-fault
returns-in-OutOfMemory-clause-fault g c = memory_unread (g.R.Read.remaining c.args.reader.now)

pub returns : goal.returns
returns g c = record { bytes = tt; fits = tt; fault = file_unread (g.R.Read.remaining c.args.reader.now) }

pub returns-in-Ok-clause-fits : goal.returns-in-Ok-clause-fits
returns-in-Ok-clause-fits g c =
    let few : length c.read_to_end.new.buf.items ≤ file_limit = omega (arith, c.if-len-le-FILE_LIMIT.true, c.len.ensures)
    in fits_file (g.R.Read.remaining c.args.reader.now) c.read_to_end.new.buf.items (returns-in-Ok-clause-bytes g c) few

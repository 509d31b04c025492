use Rattle.tds_trace.proofs.fault.TraceFault.put.Goals as goal

pub returns-in-Play : goal.returns-in-Play
returns-in-Play c = rw (c.in-Play.is, ← c.number.ensures) c.write-in-Play.ensures.bytes

use Rattle.tds_play_c.proofs.MemoryLine.{memory_written}
use Rattle.tds_play_c.proofs.tds_play.Goals as goal

pub returns-in-Err-None-clause-refused : goal.returns-in-Err-None-clause-refused
returns-in-Err-None-clause-refused c =
    memory_written c.args.schedule.now c.args.out.now c.put-in-Err-None.new.out c.put-in-Err-None.new.count c.put-in-Err-None.result c.put-in-Err-None.ensures.room c.put-in-Err-None.ensures.there

use Rattle.tds_service.proofs.Ids.{rises_ids, absent_ids}
use Rattle.tds_service.proofs.index.find_id.Goals as goal

pub find_in-requires : goal.find_in-requires
find_in-requires g c = record { rising = rises_ids 0 c.requires.rising.0 c.args.index.now c.requires.rising.1 }

pub returns-clause-absent : goal.returns-clause-absent
returns-clause-absent g c = absent_ids c.args.id c.args.index.now c.find_in.result c.find_in.ensures.absent

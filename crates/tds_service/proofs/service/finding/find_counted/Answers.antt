use Rattle.tds_service.proofs.Rising.{first_by, none_by}
use Rattle.tds_service.proofs.service.finding.find_counted.Goals as goal

pub returns-clause-first : goal.returns-clause-first
returns-clause-first g c = first_by c.args.number c.args.seats.now c.find_in.result c.requires.rising c.find_in.ensures.found

pub returns-clause-none : goal.returns-clause-none
returns-clause-none g c = none_by c.args.number c.args.seats.now c.find_in.result c.find_in.ensures.absent

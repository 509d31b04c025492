use Rattle.tds_numbers.proofs.Tables.{found_key, absent_key}
use Rattle.tds_numbers.proofs.numbers.place_counted.Goals as goal

pub returns-clause-found : goal.returns-clause-found
returns-clause-found g c = found_key c.args.numbers.now c.args.number c.find.result c.find.ensures.table c.find.ensures.found

pub returns-clause-absent : goal.returns-clause-absent
returns-clause-absent g c = absent_key c.args.numbers.now c.args.number c.find.result c.find.ensures.absent

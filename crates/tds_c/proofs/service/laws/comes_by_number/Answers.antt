use Rattle.tds_c.proofs.service.Steps.{comes_by_number}
use Rattle.tds_c.proofs.service.laws.comes_by_number.Goals as goal

pub returns : goal.returns
returns c = λ s seats i number d y part le met at b. comes_by_number s.last s.given s.count seats i number d y part le met at b

use Rattle.tds_service.specs.Service.{has_lease}
use Rattle.tds_c.proofs.service.Steps.{acts_by_lease}
use Rattle.tds_c.proofs.service.laws.acts_by_lease.Goals as goal

pub returns : goal.returns
returns c = λ s seats i lease d y first all le met at may b. acts_by_lease s.last s.given s.count seats i (has_lease lease) d y first all le met at may b

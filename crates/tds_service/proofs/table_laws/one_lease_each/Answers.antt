use Rattle.tds_service.proofs.Leases.{one_lease_each}
use Rattle.tds_service.proofs.table_laws.one_lease_each.Goals as goal

pub returns : goal.returns
returns g c = λ max a b calls s d. one_lease_each max a b calls s d

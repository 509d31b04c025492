use Rattle.tds_front.proofs.Exchanges as proved
use Rattle.tds_front.proofs.laws.exchanges.Goals as goal

pub returns-clause-each : goal.returns-clause-each
returns-clause-each c = proved.each

pub returns-clause-only : goal.returns-clause-only
returns-clause-only c = proved.only

pub returns-clause-no_fault : goal.returns-clause-no_fault
returns-clause-no_fault c = proved.unbroken

pub returns-clause-silent : goal.returns-clause-silent
returns-clause-silent c = proved.silent

use Rattle.laws_as_if_alone.proofs.Keeping.{keeps_in_visits}
use Rattle.laws_as_if_alone.proofs.Visits.{alone_in_visits}
use Rattle.laws_as_if_alone.proofs.laws.alone_in_visits.Goals as goal

pub returns-clause-given : goal.returns-clause-given
returns-clause-given g c = λ server sharing key v ms said. alone_in_visits server sharing key v ms (c.waits_once.ensures.enters sharing key v) (c.waits_once.ensures.since sharing key v) said

pub returns-clause-keeps : goal.returns-clause-keeps
returns-clause-keeps g c = λ sharing key v. keeps_in_visits sharing key v

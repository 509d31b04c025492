use Rattle.laws_as_if_alone.proofs.Turns.{alone_by_turns}
use Rattle.laws_as_if_alone.proofs.Visits.{turns_in_visits}
use Rattle.laws_as_if_alone.proofs.laws.alone_by_turns.Goals as goal

pub returns-clause-new : goal.returns-clause-new
returns-clause-new g c = alone_by_turns

pub returns-clause-visits : goal.returns-clause-visits
returns-clause-visits g c = λ server sharing key parks v ms said all. turns_in_visits server sharing key parks v ms (c.waits_once.ensures.enters sharing key v) (c.waits_once.ensures.since sharing key v) said all

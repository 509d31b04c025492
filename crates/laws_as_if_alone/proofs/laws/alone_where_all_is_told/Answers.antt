use Rattle.laws_as_if_alone.proofs.Telling.{alone_where_all_is_told, told_in_visits}
use Rattle.laws_as_if_alone.proofs.laws.alone_where_all_is_told.Goals as goal

pub returns-clause-new : goal.returns-clause-new
returns-clause-new g c = λ server login may sharing key parks before since. alone_where_all_is_told server sharing key parks login may before since

pub returns-clause-visits : goal.returns-clause-visits
returns-clause-visits g c = λ server login may sharing key parks v ms before since b s tells said parked.
    told_in_visits server login may sharing key parks v ms before since (c.waits_once.ensures.enters sharing key v) (c.waits_once.ensures.since sharing key v) b s tells said parked

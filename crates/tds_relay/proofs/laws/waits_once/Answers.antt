use Rattle.tds_relay.proofs.visits.Absent.{away_since, away_where_it_enters}
use Rattle.tds_relay.proofs.laws.waits_once.Goals as goal

pub returns-clause-enters : goal.returns-clause-enters
returns-clause-enters c = λ sharing key v.
    away_where_it_enters sharing key c.each_alone.ensures c.line_by_history.ensures
    (λ front bytes. (c.bytes_are_packets.ensures.stage front bytes, c.bytes_are_packets.ensures.says front bytes)) v

pub returns-clause-since : goal.returns-clause-since
returns-clause-since c = away_since

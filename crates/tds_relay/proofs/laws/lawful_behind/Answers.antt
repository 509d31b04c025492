use Rattle.tds_relay.proofs.ends.Along.{lawful_stay}
use Rattle.tds_relay.proofs.laws.lawful_behind.Goals as goal

pub returns-clause-lawful : goal.returns-clause-lawful
returns-clause-lawful c = λ sharing key s once.
    (lawful_stay sharing key c.each_alone.ensures c.line_by_history.ensures
    (λ front bytes. (c.bytes_are_packets.ensures.stage front bytes, c.bytes_are_packets.ensures.says front bytes)) s once).0

pub returns-clause-whole : goal.returns-clause-whole
returns-clause-whole c = λ sharing key s once.
    (lawful_stay sharing key c.each_alone.ensures c.line_by_history.ensures
    (λ front bytes. (c.bytes_are_packets.ensures.stage front bytes, c.bytes_are_packets.ensures.says front bytes)) s once).1

use Rattle.tds_relay.proofs.visits.Said.{said_visit}
use Rattle.tds_relay.proofs.visits.Sent.{sent_visit}
use Rattle.tds_relay.proofs.visits.Stays.{lawful_visit}
use Rattle.tds_relay.proofs.laws.given_by_server.Goals as goal

pub returns-clause-lawful : goal.returns-clause-lawful
returns-clause-lawful c = λ sharing key v once. lawful_visit sharing key v (c.lawful_applications.ensures sharing key) once

pub returns-clause-said : goal.returns-clause-said
returns-clause-said c = λ sharing key v.
    said_visit sharing key c.each_alone.ensures c.line_by_history.ensures
    (λ front bytes. (c.bytes_are_packets.ensures.stage front bytes, c.bytes_are_packets.ensures.says front bytes)) v

pub returns-clause-sent : goal.returns-clause-sent
returns-clause-sent c = sent_visit

use Rattle.std.proofs.Common.{refl}
use Rattle.tds_request.specs.Layout.{kind_of_request}
use Rattle.tds_client.specs.Sending.{message_of, started}
use Rattle.tds_client.proofs.Parts.{all_sent, are_all, starts}
use Rattle.tds_client.proofs.laws.request_is_spelled.Goals as goal

pub returns-clause-packets : goal.returns-clause-packets
returns-clause-packets c = λ s behind request packets lawful sends.
    (are_all _ s.size _ s.heard.mark _ 0 packets behind (starts s (kind_of_request request) (message_of s.heard request) lawful) sends).parts

pub returns-clause-reads : goal.returns-clause-reads
returns-clause-reads c = λ s behind request packets lawful sends.
    (are_all _ s.size _ s.heard.mark _ 0 packets behind (starts s (kind_of_request request) (message_of s.heard request) lawful) sends).reads

pub returns-clause-ends : goal.returns-clause-ends
returns-clause-ends c = λ s request lawful.
    let all = all_sent (started s request) _ _ 0 lawful refl in (all.packets, all.behind, all.sends)

use Rattle.laws_never_blamed.specs.Relayed.{relayed}
use Rattle.laws_never_blamed.proofs.Acts.{not_blamed}
use Rattle.laws_never_blamed.proofs.Relaying.{relayed_fine}
use Rattle.laws_never_blamed.proofs.relay_laws.relay_to_applications.Goals as goal

pub returns-clause-lawful : goal.returns-clause-lawful
returns-clause-lawful c side sharing key v plain supposed =
    relayed_fine side sharing key c.each_alone.ensures c.line_by_history.ensures
    (λ front bytes. (c.bytes_are_packets.ensures.stage front bytes, c.bytes_are_packets.ensures.says front bytes)) v plain supposed

pub returns-clause-blamed : goal.returns-clause-blamed
returns-clause-blamed c side sharing key v plain supposed =
    not_blamed c.lawful_is_never_blamed.ensures.said (relayed side v)
    (relayed_fine side sharing key c.each_alone.ensures c.line_by_history.ensures
    (λ front bytes. (c.bytes_are_packets.ensures.stage front bytes, c.bytes_are_packets.ensures.says front bytes)) v plain supposed)

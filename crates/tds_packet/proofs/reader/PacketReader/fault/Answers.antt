use Rattle.std.proofs.Common.{Some, ap, ◌∙◌}
use Rattle.tds_packet.proofs.Fields.{starting, going, stopped, all_there}
use Rattle.tds_packet.proofs.reader.PacketReader.fault.Goals as goal

pub returns-in-Refused-clause-value : goal.returns-in-Refused-clause-value
returns-in-Refused-clause-value c =
    rw (← c.self.view_is) (ap (λ f. Some f) c.again.ensures ∙ (stopped c.self.inside c.self.invariant _ c.in-Refused.is).fault)

pub returns-in-Start-clause-value : goal.returns-in-Start-clause-value
returns-in-Start-clause-value c = rw (← c.self.view_is) (starting c.self.inside c.self.invariant c.in-Start.is).fault

pub returns-in-Body-clause-value : goal.returns-in-Body-clause-value
returns-in-Body-clause-value c = rw (← c.self.view_is) (going c.self.inside c.self.invariant _ c.in-Body.is).fault

pub returns-in-Start-clause-whole : goal.returns-in-Start-clause-whole
returns-in-Start-clause-whole c = λ _ all. all_there c.self.inside c.args.self.now c.self.view_is c.self.invariant (returns-in-Start-clause-value c) all

pub returns-in-Body-clause-whole : goal.returns-in-Body-clause-whole
returns-in-Body-clause-whole c = λ _ all. all_there c.self.inside c.args.self.now c.self.view_is c.self.invariant (returns-in-Body-clause-value c) all

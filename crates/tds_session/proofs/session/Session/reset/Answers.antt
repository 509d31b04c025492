use Rattle.tds_packet.specs.declared.status.Reset.TheVariants.{Full, KeepTransaction}
use Rattle.tds_session.specs.Laws.Sessions.{reset_is_session}
use Rattle.tds_session.proofs.session.Session.reset.Goals as goal

pub invariant_of-self : goal.invariant_of-self
invariant_of-self c = reset_is_session Full _ c.self.invariant

pub invariant_of-self-in-KeepTransaction : goal.invariant_of-self-in-KeepTransaction
invariant_of-self-in-KeepTransaction c = reset_is_session KeepTransaction _ c.self.invariant

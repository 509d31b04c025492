use Rattle.tds_c.proofs.Awaiting.{is_idle}
use Rattle.tds_c.proofs.asking.why_not.Goals as goal

pub returns-in-Ok : goal.returns-in-Ok
returns-in-Ok c = λ buffer none same. absurd (c.requires (is_idle c.args.client.now c.in-Some-held.parts c.in-Some-held.ensures.some c.in-Ok.ensures.accepted))

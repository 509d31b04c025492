use Rattle.tds_ends.proofs.Asking as asking
use Rattle.tds_ends.proofs.laws.idle_alike.Goals as goal

pub returns : goal.returns
returns c = asking.idle_alike

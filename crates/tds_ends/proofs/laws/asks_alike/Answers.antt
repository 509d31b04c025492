use Rattle.tds_ends.proofs.Asking as asking
use Rattle.tds_ends.proofs.laws.asks_alike.Goals as goal

pub returns : goal.returns
returns c = asking.ask_alike

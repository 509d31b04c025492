use Rattle.tds_relay.specs.Behind.{passed_in}
use Rattle.tds_relay.proofs.laws.lawful_applications.Goals as goal

pub returns : goal.returns
returns c = λ sharing key s once. c.lawful_front.ensures (passed_in s) (c.lawful_behind.ensures.whole sharing key s once) (c.lawful_behind.ensures.lawful sharing key s once)

use Rattle.std.proofs.Common.{◌<◌, length}
use Rattle.tds_numbers.specs.Table.{AreBelow}
use Rattle.tds_numbers.proofs.Tables.{table_push}
use Rattle.tds_numbers.proofs.numbers.Numbers.push.Goals as goal

pub invariant_of-self-2 : goal.invariant_of-self-2
invariant_of-self-2 c =
    let few : length c.self.inside.entries.items < 1024 = rw (← c.self.view_is) at c.requires.few in
    let below : AreBelow c.args.number c.self.inside.entries.items = rw (← c.self.view_is) at c.requires.below in
    rw c.in_ok-push.ensures.items (table_push c.self.inside.entries.items (record { number = c.args.number; key = c.args.key }) c.self.invariant few below)

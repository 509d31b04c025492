use Rattle.std.proofs.Common.{rules, ◌∙◌}
use Rattle.tds_c.proofs.Fronts.{is_front, least}
use Rattle.tds_c.proofs.packets.front.Goals as goal

pub data_of-data-requires-clause-least : goal.data_of-data-requires-clause-least
data_of-data-requires-clause-least c =
    let long = least c.args.direction c.args.size c.args.bytes.now c.in-Ok.header (c.in-Ok.ensures.spelled ∙ c.in-Some.ensures.cases.same) (search rules) in
    search (rules, long)

pub returns-else-bytes-length-clause-packet : goal.returns-else-bytes-length-clause-packet
returns-else-bytes-length-clause-packet c =
    is_front c.args.direction c.args.size c.args.bytes.now c.data_of-data.result.now c.in-Ok.header c.no_fault_is_a_packet.ensures (let x = c.type_inv.bytes in search rules) (c.in-Ok.ensures.spelled ∙ c.in-Some.ensures.cases.same) (search rules) (search rules) (search rules)

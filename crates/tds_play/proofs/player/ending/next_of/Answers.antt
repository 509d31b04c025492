use Rattle.tds_play.proofs.Requested.{taken_last}
use Rattle.std.proofs.Common.{arith}
use Rattle.tds_play.proofs.any_bytes.Given.{takes_last}
use Rattle.tds_play.proofs.player.ending.next_of.Goals as goal

pub returns-clause-next : goal.returns-clause-next
returns-clause-next c = λ left r there.
    taken_last (λ v. v.items) c.args.records.now c.args.conn _ c.index-records-conn.result c.pop.new.self c.pop.result left r there
    (rw c.index-records-conn.is at c.index-records-conn.result.ok.0)
    (c.pop.ensures.value r) c.pop.ensures.rest

pub returns-clause-takes : goal.returns-clause-takes
returns-clause-takes c =
    takes_last (λ v. v.items) c.args.records.now c.args.conn c.index-records-conn.result c.pop.new.self c.pop.result
    (omega arith) (omega arith)
    c.pop.ensures.items

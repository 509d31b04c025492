use Rattle.std.proofs.Common.{ap}
use Rattle.tds_wire.specs.Reading.{Parser}
use Rattle.tds_relay.specs.declared.news.Known.TheVariants as knowns
use Rattle.tds_relay.proofs.link.Answer.restart.Goals as goal

pub returns : goal.returns
returns c = ap (λ (r : Parser). record c.args.self.now { parser = r; known = knowns.None }) c.restart.ensures.state

use Rattle.std.proofs.Common.{sym, ◌∙◌}
use Rattle.tds_listen.proofs.Data.{nothing_heard}
use Rattle.tds_listen.proofs.Rows.{reads_on, skips_on}
use Rattle.tds_listen.proofs.hearing.pass_rows.Goals as goal

pub returns-in-Reading-clause-exact : goal.returns-in-Reading-clause-exact
returns-in-Reading-clause-exact c = c.walk_rows.ensures.exact c.args.client.now (reads_on c.args.client.now.stage (sym c.state.ensures ∙ c.in-Reading.is))

pub returns-in-Cancelling-clause-exact : goal.returns-in-Cancelling-clause-exact
returns-in-Cancelling-clause-exact c = c.walk_rows-in-Cancelling.ensures.exact c.args.client.now (skips_on c.args.client.now.stage (sym c.state.ensures ∙ c.in-Cancelling.is))

pub returns-in-Idle-clause-exact : goal.returns-in-Idle-clause-exact
returns-in-Idle-clause-exact c = nothing_heard c.args.client.now c.args.parser.now

pub returns-in-Sending-clause-exact : goal.returns-in-Sending-clause-exact
returns-in-Sending-clause-exact c = nothing_heard c.args.client.now c.args.parser.now

pub returns-in-Broken-clause-exact : goal.returns-in-Broken-clause-exact
returns-in-Broken-clause-exact c = nothing_heard c.args.client.now c.args.parser.now

use Rattle.laws_own_server.proofs.Moments.{plays_go_on, plays_run}
use Rattle.laws_own_server.proofs.laws.plays_are_runs.Goals as goal

pub returns-clause-each : goal.returns-clause-each
returns-clause-each c = λ setup answers lawful stay. plays_run setup answers lawful stay (c.requests_are_spelled.ensures setup answers lawful)

pub returns-clause-go_on : goal.returns-clause-go_on
returns-clause-go_on c = λ setup answers lawful stay events more. plays_go_on setup answers lawful stay (c.requests_are_spelled.ensures setup answers lawful) events more

use Rattle.tds_world.proofs.plays.Worlds as worlds
use Rattle.tds_world.proofs.losses.nothing_lost.Goals as goal

pub returns-clause-world : goal.returns-clause-world
returns-clause-world c = worlds.lost_no_world

pub returns-clause-schedule : goal.returns-clause-schedule
returns-clause-schedule c = worlds.lost_no_event

pub returns-clause-report : goal.returns-clause-report
returns-clause-report c = worlds.lost_no_report

use Rattle.tds_world.proofs.plays.Marks as marks
use Rattle.tds_world.proofs.losses.marks_of_a_report.Goals as goal

pub returns-clause-events : goal.returns-clause-events
returns-clause-events c = marks.events

pub returns-clause-each : goal.returns-clause-each
returns-clause-each c = marks.each

pub returns-clause-known : goal.returns-clause-known
returns-clause-known c = marks.known

pub returns-clause-unlost : goal.returns-clause-unlost
returns-clause-unlost c = marks.unlost

pub returns-clause-front : goal.returns-clause-front
returns-clause-front c = marks.front

pub returns-clause-behind : goal.returns-clause-behind
returns-clause-behind c = marks.behind

use Rattle.tds_world.proofs.plays.Worlds as worlds
use Rattle.tds_world.proofs.losses.front_and_rest.Goals as goal

pub returns-clause-world : goal.returns-clause-world
returns-clause-world c = worlds.world_fronts

pub returns-clause-schedule : goal.returns-clause-schedule
returns-clause-schedule c = worlds.schedule_fronts

pub returns-clause-told : goal.returns-clause-told
returns-clause-told c = worlds.told_fronts

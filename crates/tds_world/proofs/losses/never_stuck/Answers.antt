use Rattle.tds_world.specs.rest.Rest.{NeverStuck}
use Rattle.tds_world.proofs.plays.Worlds as worlds
use Rattle.tds_world.proofs.rest.NeverStuck as stuck
use Rattle.tds_world.proofs.losses.never_stuck.Goals as goal

pub returns : goal.returns
returns c setup answers l =
    worlds.always_with (NeverStuck setup answers) setup answers (stuck.never_stuck setup answers l)

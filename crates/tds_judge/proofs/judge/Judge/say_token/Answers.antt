use Rattle.std.proofs.Common.{refl}
use Rattle.tds_judge.proofs.Mute.{mute}
use Rattle.tds_judge.proofs.judge.Judge.say_token.Goals as goal

pub returns-else-not-is_mute-clause-run : goal.returns-else-not-is_mute-clause-run
returns-else-not-is_mute-clause-run c = let x = c.if-not-is_mute.ensures in
    mute c.args.spot c.args.token c.args.self.now c.args.out.now.items (x.other refl) (x.open refl) (x.outside refl) (x.idle refl)

use Rattle.std.proofs.Common.{◌∙◌, ap, map}
use Rattle.tds_play.specs.Links.{newest_held}
use Rattle.tds_play.proofs.Listed.{all_yielded}
use Rattle.tds_play.proofs.player.ending.all_records.Goals as goal

pub returns : goal.returns
returns g c =
    let all = c.into_iter-held-iterator in
    c.links.invariant
    ∙ ap (map newest_held) (all_yielded all.result c.links.yielded c.links.held-iterator c.links.yielded_by c.in-None.ensures.steps.0 ∙ all.ensures.into_iter_gives.0)

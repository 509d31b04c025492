use Rattle.std.proofs.Common.{◌==◌, ◌∙◌, ap, not, rules}
use Rattle.std.proofs.lemmas.Fn.{filter_same}
use Rattle.tds_relay.specs.declared.link.Link.{Link}
use Rattle.tds_relay.specs.Linking.{Linked}
use Rattle.tds_relay.specs.Reads.{without_link}
use Rattle.tds_relay.proofs.links.remove_link.Goals as goal

pub returns : goal.returns
returns c =
    filter_same _ (λ (x : Link). not (x.number == c.args.number)) _ (λ x b q t. (search rules, search rules)) _ _ c.retain.ensures.filtered
    ∙ ap (λ (v : Linked). without_link c.args.number v.items) c.links.view_is

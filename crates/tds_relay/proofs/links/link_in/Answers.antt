use Rattle.std.proofs.Common.{◌≡◌, ◌∙◌, List, None, Some, ap, rules, sym}
use Rattle.tds_relay.specs.declared.link.Link.{Link}
use Rattle.tds_relay.specs.Linking.{Linked}
use Rattle.tds_relay.specs.Reads.{link_at, place_of}
use Rattle.tds_relay.proofs.steps.Placed.{is_at, is_nowhere}
use Rattle.tds_relay.proofs.links.link_in.Goals as goal

pub returns-in_err-place : goal.returns-in_err-place
returns-in_err-place c =
    let ls : List Link = c.args.links.now.items in
    let here : place_of c.args.number ls ≡ None = search rules in
    (let none = is_nowhere c.args.number ls here in search (rules, none))

pub returns : goal.returns
returns c =
    let ls : List Link = c.links.inside.list.items in
    let at : place_of c.args.number ls ≡ Some c.in_ok-place.place =
    ap (λ (v : Linked). place_of c.args.number v.items) c.links.view_is ∙ (let here : place_of c.args.number c.args.links.now.items ≡ Some c.in_ok-place.place = search rules in here) in
    sym ((is_at c.args.number ls c.in_ok-place.place at).found c.index.result.now ∙ ap Some (sym c.index.ensures)) ∙ ap (λ (v : Linked). link_at c.args.number v.items) c.links.view_is

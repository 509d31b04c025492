use Rattle.std.proofs.Common.{Some, ap, sym, ◌∙◌, length-set}
use Rattle.tds_relay.specs.declared.link.Link.{Link}
use Rattle.tds_relay.specs.Linking.{Linked}
use Rattle.tds_relay.specs.Queues.{queue_in}
use Rattle.tds_relay.specs.Reads.{Seen, with_tag, place_of, answer_on}
use Rattle.tds_relay.proofs.spared.Waits.{waits_same}
use Rattle.tds_relay.proofs.steps.Placed.{is_nowhere}
use Rattle.tds_relay.proofs.steps.Renaming.{seen_written, unseen_written}
use Rattle.tds_relay.proofs.indexed.Placing.{placed_written}
use Rattle.tds_relay.proofs.spared.Sending.{written_as}
use Rattle.tds_relay.proofs.links.set_tag.Goals as goal

pub returns-in_default-clause-named : goal.returns-in_default-clause-named
returns-in_default-clause-named c =
    unseen_written (with_tag c.args.tag) c.args.number c.args.links.now.items
    (is_nowhere c.args.number c.args.links.now.items (sym c.place_in.ensures.is ∙ c.in_default.is))

pub returns-clause-named : goal.returns-clause-named
returns-clause-named c = rw (← c.links.view_is) (
    seen_written (with_tag c.args.tag) c.args.number c.links.inside.list.items c.in-Some.place c.index_mut-link.result.now _
    (ap (λ (v : Linked). place_of c.args.number v.items) c.links.view_is ∙ sym c.place_in.ensures.is ∙ c.in-Some.is)
    (ap (λ (l : Link). l.number) c.index_mut-link.ensures.value) (ap (λ (l : Link). let s : Seen = (l.reader, l.is_open, Some c.args.tag) in s) c.index_mut-link.ensures.value))

pub returns-clause-waits : goal.returns-clause-waits
returns-clause-waits c = rw (← c.links.view_is) (
    waits_same c.links.inside.list.items c.in-Some.place c.index_mut-link.result.now _
    (ap (λ (l : Link). l.number) c.index_mut-link.ensures.value) (ap (λ (l : Link). (queue_in l.out).bytes) c.index_mut-link.ensures.value))

pub invariant_of-links : goal.invariant_of-links
invariant_of-links c =
    placed_written c.links.inside.list.items c.links.inside.places.items c.in-Some.place c.index_mut-link.result.now _ c.links.invariant (ap (λ (l : Link). l.number) c.index_mut-link.ensures.value)

pub returns-clause-answers : goal.returns-clause-answers
returns-clause-answers c = rw (← c.links.view_is) (
    written_as answer_on c.links.inside.list.items c.in-Some.place c.index_mut-link.result.now _
    (ap (λ (l : Link). l.number) c.index_mut-link.ensures.value) (ap (λ (l : Link). l.answer) c.index_mut-link.ensures.value))

pub returns-clause-queues : goal.returns-clause-queues
returns-clause-queues c = rw (← c.links.view_is) (
    written_as (λ (l : Link). queue_in l.out) c.links.inside.list.items c.in-Some.place c.index_mut-link.result.now _
    (ap (λ (l : Link). l.number) c.index_mut-link.ensures.value) (ap (λ (l : Link). queue_in l.out) c.index_mut-link.ensures.value))

pub returns-clause-many : goal.returns-clause-many
returns-clause-many c = rw (← c.links.view_is) (length-set c.links.inside.list.items c.in-Some.place _)

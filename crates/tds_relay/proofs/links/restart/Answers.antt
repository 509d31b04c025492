use Rattle.std.proofs.Common.{refl, None, Option, Some, ap, option_map, sym, ◌∙◌, ◌≡◌}
use Rattle.tds_relay.specs.declared.link.Link.{Link}
use Rattle.tds_relay.specs.Linking.{Linked}
use Rattle.tds_relay.specs.Queues.{queue_in}
use Rattle.tds_relay.specs.Cutting.{at_its_beginning}
use Rattle.tds_relay.specs.Reads.{answer_on, bytes_on, fullness_of, link_at, place_of, seen_of}
use Rattle.tds_relay.proofs.steps.Placed.{IsAt, is_at, is_nowhere}
use Rattle.tds_relay.proofs.spared.Waits.{others_link, waits_same}
use Rattle.tds_relay.proofs.steps.Staying.{fills_same, stays_restarted}
use Rattle.tds_relay.proofs.indexed.Placing.{placed_written}
use Rattle.tds_relay.proofs.bytes.SetAnew.{any_refl, any_written}
use Rattle.tds_relay.proofs.spared.Sending.{written_as}
use Rattle.tds_relay.proofs.links.restart.Goals as goal

pub returns-clause-read : goal.returns-clause-read
returns-clause-read c = rw (← c.links.view_is) (
    stays_restarted c.links.inside.list.items c.in-Some.place c.index_mut-link.result.now _
    (ap (λ (l : Link). l.number) c.index_mut-link.ensures.value) (ap seen_of c.index_mut-link.ensures.value)
    (fills_same _ _ (ap bytes_on c.index_mut-link.ensures.value)) (c.restart.ensures ∙ ap (λ (l : Link). at_its_beginning l.answer) c.index_mut-link.ensures.value)
    (ap fullness_of c.index_mut-link.ensures.value))

pub returns-clause-waits : goal.returns-clause-waits
returns-clause-waits c = rw (← c.links.view_is) (
    waits_same c.links.inside.list.items c.in-Some.place c.index_mut-link.result.now _
    (ap (λ (l : Link). l.number) c.index_mut-link.ensures.value) (ap (λ (l : Link). (queue_in l.out).bytes) c.index_mut-link.ensures.value))

pub returns-in_default-clause-begins : goal.returns-in_default-clause-begins
returns-in_default-clause-begins c =
    let none : link_at c.args.number c.args.links.now.items ≡ None =
    is_nowhere c.args.number c.args.links.now.items (sym c.place_in.ensures.is ∙ c.in_default.is) in
    ap (option_map answer_on) none ∙ sym (ap (λ (o : Option Link). option_map at_its_beginning (option_map answer_on o)) none)

pub returns-clause-begins : goal.returns-clause-begins
returns-clause-begins c = rw (← c.links.view_is) (
    let at : IsAt c.args.number c.links.inside.list.items c.in-Some.place =
    is_at c.args.number c.links.inside.list.items c.in-Some.place (ap (λ (v : Linked). place_of c.args.number v.items) c.links.view_is ∙ sym c.place_in.ensures.is ∙ c.in-Some.is) in
    ap (option_map answer_on) (at.written c.index_mut-link.result.now _ (ap (λ (l : Link). l.number) c.index_mut-link.ensures.value))
    ∙ ap Some (c.restart.ensures ∙ ap (λ (l : Link). at_its_beginning l.answer) c.index_mut-link.ensures.value)
    ∙ sym (ap (λ (o : Option Link). option_map at_its_beginning (option_map answer_on o)) (at.found c.index_mut-link.result.now)))

pub invariant_of-links : goal.invariant_of-links
invariant_of-links c =
    placed_written c.links.inside.list.items c.links.inside.places.items c.in-Some.place c.index_mut-link.result.now _ c.links.invariant (ap (λ (l : Link). l.number) c.index_mut-link.ensures.value)

pub returns-in_default-clause-any : goal.returns-in_default-clause-any
returns-in_default-clause-any c = any_refl c.args.links.now.items

pub returns-clause-any : goal.returns-clause-any
returns-clause-any c = rw (← c.links.view_is) (
    any_written c.args.number c.links.inside.list.items c.in-Some.place c.index_mut-link.result.now _
    (ap (λ (v : Linked). place_of c.args.number v.items) c.links.view_is ∙ sym c.place_in.ensures.is ∙ c.in-Some.is) (ap (λ (l : Link). l.number) c.index_mut-link.ensures.value)
    (c.restart.ensures ∙ ap (λ (l : Link). at_its_beginning l.answer) c.index_mut-link.ensures.value))

pub returns-clause-queues : goal.returns-clause-queues
returns-clause-queues c = rw (← c.links.view_is) (
    written_as (λ (l : Link). queue_in l.out) c.links.inside.list.items c.in-Some.place c.index_mut-link.result.now _
    (ap (λ (l : Link). l.number) c.index_mut-link.ensures.value) (ap (λ (l : Link). queue_in l.out) c.index_mut-link.ensures.value))

pub returns-in_default-clause-others : goal.returns-in_default-clause-others
returns-in_default-clause-others c = λ other differs. refl

pub returns-clause-others : goal.returns-clause-others
returns-clause-others c = λ other differs. rw (← c.links.view_is) (
    ap (option_map answer_on)
    (others_link c.args.number c.links.inside.list.items c.in-Some.place c.index_mut-link.result.now _
    (ap (λ (v : Linked). place_of c.args.number v.items) c.links.view_is ∙ sym c.place_in.ensures.is ∙ c.in-Some.is)
    (ap (λ (l : Link). l.number) c.index_mut-link.ensures.value) other differs))

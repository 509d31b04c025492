use Rattle.std.proofs.Common.{Option, ap, drop, sym, ◌∙◌, length-set}
use Rattle.std.specs.Prelude.{is_some}
use Rattle.tds_relay.specs.declared.link.Link.{Link}
use Rattle.tds_relay.specs.Linking.{Linked}
use Rattle.tds_relay.specs.Queues.{Queue, queue_in, without_first}
use Rattle.tds_relay.specs.Reads.{place_of, seen_of}
use Rattle.tds_relay.proofs.spared.Waits.{none_queue, none_waits, one_queue, one_waits, others_queue, others_wait}
use Rattle.tds_relay.proofs.spared.Begun.{answers_refl, answers_written}
use Rattle.tds_relay.proofs.steps.Placed.{is_at, is_nowhere}
use Rattle.tds_relay.proofs.steps.Staying.{sees_written}
use Rattle.tds_relay.proofs.indexed.Placing.{placed_written}
use Rattle.tds_relay.proofs.links.forget_sent.Goals as goal

pub returns-clause-read : goal.returns-clause-read
returns-clause-read c = rw (← c.links.view_is) (
    sees_written c.links.inside.list.items c.in-Some.place c.index_mut-link.result.now _
    (ap (λ (l : Link). l.number) c.index_mut-link.ensures.value) (ap seen_of c.index_mut-link.ensures.value))

pub returns-clause-answers : goal.returns-clause-answers
returns-clause-answers c = rw (← c.links.view_is) (
    answers_written c.links.inside.list.items c.in-Some.place c.index_mut-link.result.now _
    (ap (λ (l : Link). l.number) c.index_mut-link.ensures.value) (ap (λ (l : Link). l.answer) c.index_mut-link.ensures.value))

pub returns-in_default-clause-answers : goal.returns-in_default-clause-answers
returns-in_default-clause-answers c = answers_refl c.args.links.now.items

pub returns-clause-others : goal.returns-clause-others
returns-clause-others c = rw (← c.links.view_is) (
    others_wait c.args.number c.links.inside.list.items c.in-Some.place c.index_mut-link.result.now _
    (ap (λ (v : Linked). place_of c.args.number v.items) c.links.view_is ∙ sym c.place_in.ensures.is ∙ c.in-Some.is)
    (ap (λ (l : Link). l.number) c.index_mut-link.ensures.value))

pub returns-clause-fewer : goal.returns-clause-fewer
returns-clause-fewer c = rw (← c.links.view_is) (
    one_waits (drop c.args.count) c.args.number c.links.inside.list.items c.in-Some.place c.index_mut-link.result.now _
    (ap (λ (v : Linked). place_of c.args.number v.items) c.links.view_is ∙ sym c.place_in.ensures.is ∙ c.in-Some.is)
    (ap (λ (l : Link). l.number) c.index_mut-link.ensures.value)
    (ap (λ (p : Queue). p.bytes) c.sent.ensures.queue ∙ ap (λ (l : Link). drop c.args.count (queue_in l.out).bytes) c.index_mut-link.ensures.value))

pub returns-in_default-clause-fewer : goal.returns-in_default-clause-fewer
returns-in_default-clause-fewer c =
    none_waits (drop c.args.count) c.args.number c.args.links.now.items
    (sym c.place_in.ensures.is ∙ c.in_default.is)

pub returns-in_default-clause-found : goal.returns-in_default-clause-found
returns-in_default-clause-found c =
    sym (ap (λ (o : Option Link). is_some o) (is_nowhere c.args.number c.args.links.now.items (sym c.place_in.ensures.is ∙ c.in_default.is)))

pub returns-clause-found : goal.returns-clause-found
returns-clause-found c = rw (← c.links.view_is) (
    sym (ap (λ (o : Option Link). is_some o)
    ((is_at c.args.number c.links.inside.list.items c.in-Some.place (ap (λ (v : Linked). place_of c.args.number v.items) c.links.view_is ∙ sym c.place_in.ensures.is ∙ c.in-Some.is)).found c.index_mut-link.result.now)))

pub invariant_of-links : goal.invariant_of-links
invariant_of-links c =
    placed_written c.links.inside.list.items c.links.inside.places.items c.in-Some.place c.index_mut-link.result.now _ c.links.invariant (ap (λ (l : Link). l.number) c.index_mut-link.ensures.value)

pub returns-clause-queues : goal.returns-clause-queues
returns-clause-queues c = rw (← c.links.view_is) (
    one_queue (without_first c.args.count) c.args.number c.links.inside.list.items c.in-Some.place c.index_mut-link.result.now _
    (ap (λ (v : Linked). place_of c.args.number v.items) c.links.view_is ∙ sym c.place_in.ensures.is ∙ c.in-Some.is)
    (ap (λ (l : Link). l.number) c.index_mut-link.ensures.value)
    (c.sent.ensures.queue ∙ ap (λ (l : Link). without_first c.args.count (queue_in l.out)) c.index_mut-link.ensures.value))

pub returns-in_default-clause-queues : goal.returns-in_default-clause-queues
returns-in_default-clause-queues c = none_queue (without_first c.args.count) c.args.number c.args.links.now.items (sym c.place_in.ensures.is ∙ c.in_default.is)

pub returns-clause-keeps : goal.returns-clause-keeps
returns-clause-keeps c = rw (← c.links.view_is) (
    others_queue c.args.number c.links.inside.list.items c.in-Some.place c.index_mut-link.result.now _
    (ap (λ (v : Linked). place_of c.args.number v.items) c.links.view_is ∙ sym c.place_in.ensures.is ∙ c.in-Some.is)
    (ap (λ (l : Link). l.number) c.index_mut-link.ensures.value))

pub returns-clause-many : goal.returns-clause-many
returns-clause-many c = rw (← c.links.view_is) (length-set c.links.inside.list.items c.in-Some.place _)

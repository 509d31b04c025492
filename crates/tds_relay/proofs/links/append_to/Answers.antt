use Rattle.std.proofs.Common.{List, ap, rules, sym, ◌++◌, ◌∙◌, ℕ}
use Rattle.tds_relay.specs.declared.link.Link.{Link}
use Rattle.tds_relay.specs.Linking.{Linked}
use Rattle.tds_relay.specs.Reads.{bytes_on, fullness_of, place_of, seen_of}
use Rattle.tds_relay.specs.Queues.{Queue, queue_in}
use Rattle.tds_relay.proofs.spared.Waits.{fills_put, no_room, none_waits, one_waits, others_wait, put_full, put_waits, waits_same, others_queue}
use Rattle.tds_relay.proofs.steps.Fullness.{full_by}
use Rattle.tds_relay.proofs.steps.Staying.{fills_same, stays_written}
use Rattle.tds_relay.proofs.spared.Begun.{answers_refl, answers_written}
use Rattle.tds_relay.proofs.indexed.Placing.{placed_written}
use Rattle.tds_relay.proofs.links.append_to.Goals as goal

pub returns-clause-read : goal.returns-clause-read
returns-clause-read c = rw (← c.links.view_is) (
    stays_written c.links.inside.list.items c.in-Some.place c.index_mut-link.result.now _
    (ap (λ (l : Link). l.number) c.index_mut-link.ensures.value) (ap seen_of c.index_mut-link.ensures.value)
    (fills_put c.args.bytes.now _ _ _ c.in_ok-append.ensures.queue (ap bytes_on c.index_mut-link.ensures.value)) (ap (λ (l : Link). l.answer) c.index_mut-link.ensures.value)
    (put_full c.args.bytes.now _ _ c.in_ok-append.ensures.queue (sym c.has_room.ensures ∙ (search rules)) ∙ ap fullness_of c.index_mut-link.ensures.value))

pub returns-clause-others : goal.returns-clause-others
returns-clause-others c = rw (← c.links.view_is) (
    others_wait c.args.number c.links.inside.list.items c.in-Some.place c.index_mut-link.result.now _
    (ap (λ (v : Linked). place_of c.args.number v.items) c.links.view_is ∙ sym c.place_in.ensures.is ∙ c.in-Some.is)
    (ap (λ (l : Link). l.number) c.index_mut-link.ensures.value))

pub returns-clause-queues : goal.returns-clause-queues
returns-clause-queues c = rw (← c.links.view_is) (
    others_queue c.args.number c.links.inside.list.items c.in-Some.place c.index_mut-link.result.now _
    (ap (λ (v : Linked). place_of c.args.number v.items) c.links.view_is ∙ sym c.place_in.ensures.is ∙ c.in-Some.is)
    (ap (λ (l : Link). l.number) c.index_mut-link.ensures.value))

pub returns-clause-answers : goal.returns-clause-answers
returns-clause-answers c = rw (← c.links.view_is) (
    answers_written c.links.inside.list.items c.in-Some.place c.index_mut-link.result.now _
    (ap (λ (l : Link). l.number) c.index_mut-link.ensures.value) (ap (λ (l : Link). l.answer) c.index_mut-link.ensures.value))

pub returns-then-not-has_room-clause-read : goal.returns-then-not-has_room-clause-read
returns-then-not-has_room-clause-read c = rw (← c.links.view_is) (
    stays_written c.links.inside.list.items c.in-Some.place c.index_mut-link.result.now _
    (ap (λ (l : Link). l.number) c.index_mut-link.ensures.value) (ap seen_of c.index_mut-link.ensures.value)
    (fills_same _ _ (ap bytes_on c.index_mut-link.ensures.value)) (ap (λ (l : Link). l.answer) c.index_mut-link.ensures.value)
    (ap fullness_of c.index_mut-link.ensures.value))

pub returns-then-not-has_room-clause-others : goal.returns-then-not-has_room-clause-others
returns-then-not-has_room-clause-others c = rw (← c.links.view_is) (
    others_wait c.args.number c.links.inside.list.items c.in-Some.place c.index_mut-link.result.now _
    (ap (λ (v : Linked). place_of c.args.number v.items) c.links.view_is ∙ sym c.place_in.ensures.is ∙ c.in-Some.is)
    (ap (λ (l : Link). l.number) c.index_mut-link.ensures.value))

pub returns-then-not-has_room-clause-queues : goal.returns-then-not-has_room-clause-queues
returns-then-not-has_room-clause-queues c = rw (← c.links.view_is) (
    others_queue c.args.number c.links.inside.list.items c.in-Some.place c.index_mut-link.result.now _
    (ap (λ (v : Linked). place_of c.args.number v.items) c.links.view_is ∙ sym c.place_in.ensures.is ∙ c.in-Some.is)
    (ap (λ (l : Link). l.number) c.index_mut-link.ensures.value))

pub returns-then-not-has_room-clause-answers : goal.returns-then-not-has_room-clause-answers
returns-then-not-has_room-clause-answers c = rw (← c.links.view_is) (
    answers_written c.links.inside.list.items c.in-Some.place c.index_mut-link.result.now _
    (ap (λ (l : Link). l.number) c.index_mut-link.ensures.value) (ap (λ (l : Link). l.answer) c.index_mut-link.ensures.value))

pub returns-in_err-append-clause-read : goal.returns-in_err-append-clause-read
returns-in_err-append-clause-read c = rw (← c.links.view_is) (
    stays_written c.links.inside.list.items c.in-Some.place c.index_mut-link.result.now _
    (ap (λ (l : Link). l.number) c.index_mut-link.ensures.value) (ap seen_of c.index_mut-link.ensures.value)
    (fills_same _ _ (ap (λ (p : Queue). p.bytes) c.in_err-append.ensures.kept ∙ ap bytes_on c.index_mut-link.ensures.value)) (ap (λ (l : Link). l.answer) c.index_mut-link.ensures.value)
    (ap full_by c.in_err-append.ensures.kept ∙ ap fullness_of c.index_mut-link.ensures.value))

pub returns-in_err-append-clause-others : goal.returns-in_err-append-clause-others
returns-in_err-append-clause-others c = rw (← c.links.view_is) (
    others_wait c.args.number c.links.inside.list.items c.in-Some.place c.index_mut-link.result.now _
    (ap (λ (v : Linked). place_of c.args.number v.items) c.links.view_is ∙ sym c.place_in.ensures.is ∙ c.in-Some.is)
    (ap (λ (l : Link). l.number) c.index_mut-link.ensures.value))

pub returns-in_err-append-clause-queues : goal.returns-in_err-append-clause-queues
returns-in_err-append-clause-queues c = rw (← c.links.view_is) (
    others_queue c.args.number c.links.inside.list.items c.in-Some.place c.index_mut-link.result.now _
    (ap (λ (v : Linked). place_of c.args.number v.items) c.links.view_is ∙ sym c.place_in.ensures.is ∙ c.in-Some.is)
    (ap (λ (l : Link). l.number) c.index_mut-link.ensures.value))

pub returns-in_err-append-clause-answers : goal.returns-in_err-append-clause-answers
returns-in_err-append-clause-answers c = rw (← c.links.view_is) (
    answers_written c.links.inside.list.items c.in-Some.place c.index_mut-link.result.now _
    (ap (λ (l : Link). l.number) c.index_mut-link.ensures.value) (ap (λ (l : Link). l.answer) c.index_mut-link.ensures.value))

pub returns-clause-appends : goal.returns-clause-appends
returns-clause-appends c = rw (← c.links.view_is) (
    λ fits.
    one_waits (λ (waits : List ℕ). waits ++ c.args.bytes.now) c.args.number c.links.inside.list.items c.in-Some.place c.index_mut-link.result.now _
    (ap (λ (v : Linked). place_of c.args.number v.items) c.links.view_is ∙ sym c.place_in.ensures.is ∙ c.in-Some.is)
    (ap (λ (l : Link). l.number) c.index_mut-link.ensures.value)
    (put_waits c.args.bytes.now _ _ c.in_ok-append.ensures.queue (sym c.has_room.ensures ∙ (search rules)) ∙ ap (λ (l : Link). (queue_in l.out).bytes ++ c.args.bytes.now) c.index_mut-link.ensures.value))

pub returns-in_default-clause-appends : goal.returns-in_default-clause-appends
returns-in_default-clause-appends c = λ fits.
    none_waits (λ (waits : List ℕ). waits ++ c.args.bytes.now) c.args.number c.args.links.now.items
    (sym c.place_in.ensures.is ∙ c.in_default.is)

pub returns-then-not-has_room-clause-unfit : goal.returns-then-not-has_room-clause-unfit
returns-then-not-has_room-clause-unfit c = rw (← c.links.view_is) (
    λ unfit.
    waits_same c.links.inside.list.items c.in-Some.place c.index_mut-link.result.now _
    (ap (λ (l : Link). l.number) c.index_mut-link.ensures.value) (ap bytes_on c.index_mut-link.ensures.value) c.args.number)

pub returns-then-not-has_room-clause-no_room : goal.returns-then-not-has_room-clause-no_room
returns-then-not-has_room-clause-no_room c = rw (← c.links.view_is) (
    λ unfit.
    no_room c.args.bytes.now c.args.number c.links.inside.list.items c.in-Some.place c.index_mut-link.result.now
    (ap (λ (v : Linked). place_of c.args.number v.items) c.links.view_is ∙ sym c.place_in.ensures.is ∙ c.in-Some.is)
    c.index_mut-link.ensures.value (sym c.has_room.ensures ∙ (search rules)))

pub returns-in_default-clause-answers : goal.returns-in_default-clause-answers
returns-in_default-clause-answers c = answers_refl c.args.links.now.items

pub invariant_of-links : goal.invariant_of-links
invariant_of-links c =
    placed_written c.links.inside.list.items c.links.inside.places.items c.in-Some.place c.index_mut-link.result.now _ c.links.invariant (ap (λ (l : Link). l.number) c.index_mut-link.ensures.value)

pub invariant_of-links-2 : goal.invariant_of-links-2
invariant_of-links-2 c =
    placed_written c.links.inside.list.items c.links.inside.places.items c.in-Some.place c.index_mut-link.result.now _ c.links.invariant (ap (λ (l : Link). l.number) c.index_mut-link.ensures.value)

pub invariant_of-links-in_err-append : goal.invariant_of-links-in_err-append
invariant_of-links-in_err-append c =
    placed_written c.links.inside.list.items c.links.inside.places.items c.in-Some.place c.index_mut-link.result.now _ c.links.invariant (ap (λ (l : Link). l.number) c.index_mut-link.ensures.value)

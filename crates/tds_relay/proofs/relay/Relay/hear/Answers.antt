use Rattle.tds_relay.specs.Pool.{whose}
use Rattle.std.proofs.Common.{Option, ap, length, refl, sym, ◌∙◌, rules, inl, inr, ◌≡◌, List, slice_index_or, subst, ℕ, length-set, None, Some}
use Rattle.tds_relay.specs.declared.link.Link.{Link}
use Rattle.tds_relay.specs.Linking.{Linked}
use Rattle.tds_relay.specs.declared.pool.coming.Heard.{Heard}
use Rattle.tds_relay.specs.Fronts.{ends_in, machine_in, machine_with, told_by}
use Rattle.tds_relay.specs.declared.outgoing.Outgoing.{Outgoing}
use Rattle.tds_relay.specs.Queues.{queue_in, queues_in}
use Rattle.tds_relay.specs.Ties.{Connection, pool_in}
use Rattle.tds_relay.specs.Reads.{bytes_on, fullness_of, place_of, seen_of}
use Rattle.tds_relay.proofs.bytes.SetAnew.{hear_at, unheard, unopened}
use Rattle.tds_relay.proofs.bytes.Turns.{less_at, less_nowhere, less_shut, takes_at}
use Rattle.tds_service.specs.Table.{reading_on}
use Rattle.tds_relay.proofs.steps.Faults.{refused_heard}
use Rattle.tds_relay.proofs.steps.Placed.{others_written}
use Rattle.tds_relay.proofs.steps.Staying.{fills_same, others_open, opens_refl, stays_refl, stays_written}
use Rattle.tds_relay.proofs.steps.Reaching.{ok_if, ok_more, reached_on}
use Rattle.tds_relay.specs.Sending.{sending_of}
use Rattle.tds_relay.proofs.spared.Sending.{same_written, sending_same}
use Rattle.tds_relay.proofs.indexed.Placing.{placed_written}
use Rattle.std.specs.Prelude.{IfOk}
use Rattle.tds_relay.specs.Reasons.{Cleans, IsLeftOpen}
use Rattle.tds_relay.proofs.spared.Losing.{heard_as}
use Rattle.tds_relay.proofs.seats.Relays.{behind_on}
use Rattle.tds_relay.proofs.seats.Linked.{heard_there, seated_as}
use Rattle.tds_relay.proofs.spared.Turned.{as_refl, keeps_written}
use Rattle.tds_relay.specs.declared.pool.coming.What.TheVariants as whats
use Rattle.tds_relay.proofs.lending.Firsts.{carried_written, first_may, first_may_on}
use Rattle.tds_relay.specs.Cleaning.{PutsByLease, CleansNobodys}
use Rattle.tds_relay.proofs.lending.Dialled.{hears_stays, hears_written}
use Rattle.tds_relay.proofs.lending.Stilled.{still_heard, still_refl}
use Rattle.tds_relay.proofs.bytes.Telling.{tells_at, tells_nowhere, tells_shut}
use Rattle.tds_relay.specs.Handing.{heard_key}
use Rattle.tds_relay.proofs.lending.Awaiting.{unheard_cleaned}
use Rattle.tds_relay.proofs.relay.Relay.hear.Goals as goal

-- what comes where nothing is
abbrev nothing : Option Heard
nothing = Some (record { key = None; what = whats.Goes })

pub returns-in_default-clause-continues : goal.returns-in_default-clause-continues
returns-in_default-clause-continues c =
    unheard c.args.number c.args.piece.now (length c.args.piece.now) nothing c.args.self.now.links.items (machine_in c.args.self.now) c.args.self.now.pool.service refl
    (sym c.place_in.ensures.is ∙ c.in_default.is)

pub returns-clause-continues : goal.returns-clause-continues
returns-clause-continues c = rw (← c.links.view_is) (
    hear_at c.hear_on.result c.args.number c.links.inside.list.items c.in-Some.place c.index_mut-link.result.now c.hear_on.new.link c.args.piece.now (machine_in c.args.self.now)
    (λ (heard : Option Heard). machine_with (pool_in c.hear_on.new.pool) (told_by heard (ends_in c.args.self.now.applications)) (queues_in c.hear_on.new.applications))
    c.args.self.now.pool.service c.hear_on.new.pool.service
    (ap (λ (v : Linked). place_of c.args.number v.items) c.links.view_is ∙ sym c.place_in.ensures.is ∙ c.in-Some.is)
    c.index_mut-link.ensures.value c.hear_on.ensures.number (search rules) c.hear_on.ensures.is_open refl c.hear_on.ensures.hears c.hear_on.ensures.read)

pub returns-then-not-link-clause-continues : goal.returns-then-not-link-clause-continues
returns-then-not-link-clause-continues c = rw (← c.links.view_is) (
    unopened c.args.number c.args.piece.now (length c.args.piece.now) nothing c.links.inside.list.items c.in-Some.place c.index_mut-link.result.now (machine_in c.args.self.now) c.args.self.now.pool.service refl
    (ap (λ (v : Linked). place_of c.args.number v.items) c.links.view_is ∙ sym c.place_in.ensures.is ∙ c.in-Some.is)
    c.index_mut-link.ensures.value (search rules))

pub returns-in_default-clause-others : goal.returns-in_default-clause-others
returns-in_default-clause-others c = others_open c.args.number _ _ (opens_refl c.args.self.now.links.items)

pub returns-then-not-link-clause-others : goal.returns-then-not-link-clause-others
returns-then-not-link-clause-others c = rw (← c.links.view_is) (
    others_written c.args.number c.links.inside.list.items c.in-Some.place c.index_mut-link.result.now _
    (ap (λ (v : Linked). place_of c.args.number v.items) c.links.view_is ∙ sym c.place_in.ensures.is ∙ c.in-Some.is)
    (ap (λ (l : Link). l.number) c.index_mut-link.ensures.value)
    (ap (λ (l : Link). l.is_open) c.index_mut-link.ensures.value) (ap (λ (l : Link). l.tag) c.index_mut-link.ensures.value) (ap (λ (l : Link). queue_in l.out) c.index_mut-link.ensures.value))

pub returns-clause-others : goal.returns-clause-others
returns-clause-others c = rw (← c.links.view_is) (
    ok_if c.hear_on.result _ (others_written c.args.number c.links.inside.list.items c.in-Some.place c.index_mut-link.result.now _
    (ap (λ (v : Linked). place_of c.args.number v.items) c.links.view_is ∙ sym c.place_in.ensures.is ∙ c.in-Some.is)
    (c.hear_on.ensures.number ∙ ap (λ (l : Link). l.number) c.index_mut-link.ensures.value)
    (c.hear_on.ensures.is_open ∙ ap (λ (l : Link). l.is_open) c.index_mut-link.ensures.value)
    (c.hear_on.ensures.tag ∙ ap (λ (l : Link). l.tag) c.index_mut-link.ensures.value)
    (ap queue_in c.hear_on.ensures.out ∙ ap (λ (l : Link). queue_in l.out) c.index_mut-link.ensures.value)))

pub returns-in_default-clause-puts : goal.returns-in_default-clause-puts
returns-in_default-clause-puts c = λ key. inl refl

pub returns-then-not-link-clause-puts : goal.returns-then-not-link-clause-puts
returns-then-not-link-clause-puts c = λ key. inl refl

pub returns-in_default-clause-asks : goal.returns-in_default-clause-asks
returns-in_default-clause-asks c = λ key goes. refl

pub returns-then-not-link-clause-asks : goal.returns-then-not-link-clause-asks
returns-then-not-link-clause-asks c = λ key goes. refl

pub returns-in_default-clause-same : goal.returns-in_default-clause-same
returns-in_default-clause-same c = λ other. (refl, refl)

pub returns-then-not-link-clause-same : goal.returns-then-not-link-clause-same
returns-then-not-link-clause-same c = rw (← c.links.view_is) (
    same_written c.links.inside.list.items c.in-Some.place c.index_mut-link.result.now _
    (ap (λ (l : Link). l.number) c.index_mut-link.ensures.value) (ap sending_of c.index_mut-link.ensures.value) (ap (λ (l : Link). l.is_open) c.index_mut-link.ensures.value))

pub returns-clause-same : goal.returns-clause-same
returns-clause-same c = rw (← c.links.view_is) (
    ok_if c.hear_on.result _ (same_written c.links.inside.list.items c.in-Some.place c.index_mut-link.result.now _
    (c.hear_on.ensures.number ∙ ap (λ (l : Link). l.number) c.index_mut-link.ensures.value)
    (sending_same c.index_mut-link.result.now c.hear_on.new.link c.hear_on.ensures.tag c.hear_on.ensures.out ∙ ap sending_of c.index_mut-link.ensures.value)
    (c.hear_on.ensures.is_open ∙ ap (λ (l : Link). l.is_open) c.index_mut-link.ensures.value)))

pub invariant_of-links : goal.invariant_of-links
invariant_of-links c =
    placed_written c.links.inside.list.items c.links.inside.places.items c.in-Some.place c.index_mut-link.result.now _ c.links.invariant (ap (λ (l : Link). l.number) c.index_mut-link.ensures.value)

pub invariant_of-links-2 : goal.invariant_of-links-2
invariant_of-links-2 c =
    placed_written c.links.inside.list.items c.links.inside.places.items c.in-Some.place c.index_mut-link.result.now _ c.links.invariant
    (c.hear_on.ensures.number ∙ ap (λ (l : Link). l.number) c.index_mut-link.ensures.value)

pub returns-in_default-clause-less : goal.returns-in_default-clause-less
returns-in_default-clause-less c = less_nowhere c.args.number c.args.self.now.links.items (sym c.place_in.ensures.is ∙ c.in_default.is)

pub returns-then-not-link-clause-less : goal.returns-then-not-link-clause-less
returns-then-not-link-clause-less c =
    less_shut c.args.number c.links.inside.list.items c.in-Some.place c.index_mut-link.result.now
    (ap (λ (v : Linked). place_of c.args.number v.items) c.links.view_is ∙ sym c.place_in.ensures.is ∙ c.in-Some.is)
    c.index_mut-link.ensures.value (search rules)

pub returns-clause-less : goal.returns-clause-less
returns-clause-less c =
    less_at c.hear_on.result c.args.number (reading_on c.args.number c.args.self.now.pool.service) c.links.inside.list.items c.in-Some.place c.index_mut-link.result.now c.hear_on.new.link c.args.piece.now (machine_in c.args.self.now)
    (λ (heard : Option Heard). machine_with (pool_in c.hear_on.new.pool) (told_by heard (ends_in c.args.self.now.applications)) (queues_in c.hear_on.new.applications))
    (ap (λ (v : Linked). place_of c.args.number v.items) c.links.view_is ∙ sym c.place_in.ensures.is ∙ c.in-Some.is)
    c.index_mut-link.ensures.value c.hear_on.ensures.number (c.hear_on.ensures.is_open ∙ (search rules)) c.hear_on.ensures.hears

pub returns-clause-takes : goal.returns-clause-takes
returns-clause-takes c = rw (← c.links.view_is) (
    takes_at c.hear_on.result c.args.number c.links.inside.list.items c.in-Some.place c.index_mut-link.result.now c.args.piece.now
    (ap (λ (v : Linked). place_of c.args.number v.items) c.links.view_is ∙ sym c.place_in.ensures.is ∙ c.in-Some.is)
    c.index_mut-link.ensures.value (search rules) c.hear_on.ensures.takes)

pub returns-in_default-clause-hears : goal.returns-in_default-clause-hears
returns-in_default-clause-hears c = inl ((refl, refl), (refl, search rules))

pub returns-then-not-link-clause-hears : goal.returns-then-not-link-clause-hears
returns-then-not-link-clause-hears c = inl ((refl, refl), (refl, search rules))

pub returns-in_default-clause-cleans : goal.returns-in_default-clause-cleans
returns-in_default-clause-cleans c = λ reached not. inl (search rules)

pub returns-then-not-link-clause-cleans : goal.returns-then-not-link-clause-cleans
returns-then-not-link-clause-cleans c = λ reached not. inl (search rules)

pub returns-clause-cleans : goal.returns-clause-cleans
returns-clause-cleans c = λ reached.
    subst (λ (xs : List ℕ). IfOk c.hear_on.result (λ heard. Cleans (whose (pool_in c.args.self.now.pool) c.args.number) heard.1 xs c.hear_on.new.outbox.items)) (search rules) (c.hear_on.ensures.cleans reached)

pub returns-in_default-clause-queues : goal.returns-in_default-clause-queues
returns-in_default-clause-queues c = as_refl c.args.self.now.links.items

pub returns-then-not-link-clause-queues : goal.returns-then-not-link-clause-queues
returns-then-not-link-clause-queues c = rw (← c.links.view_is) (
    keeps_written c.links.inside.list.items c.in-Some.place c.index_mut-link.result.now _
    (ap (λ (l : Link). l.number) c.index_mut-link.ensures.value) (ap (λ (l : Link). queue_in l.out) c.index_mut-link.ensures.value) (ap (λ (l : Link). l.is_open) c.index_mut-link.ensures.value))

pub returns-clause-queues : goal.returns-clause-queues
returns-clause-queues c = rw (← c.links.view_is) (
    ok_if c.hear_on.result _ (keeps_written c.links.inside.list.items c.in-Some.place c.index_mut-link.result.now _
    (c.hear_on.ensures.number ∙ ap (λ (l : Link). l.number) c.index_mut-link.ensures.value)
    (ap (λ (o : Outgoing). queue_in o) c.hear_on.ensures.out ∙ ap (λ (l : Link). queue_in l.out) c.index_mut-link.ensures.value)
    (c.hear_on.ensures.is_open ∙ ap (λ (l : Link). l.is_open) c.index_mut-link.ensures.value)))

pub returns-clause-hears : goal.returns-clause-hears
returns-clause-hears c =
    heard_as c.hear_on.result _ c.args.number c.args.piece.now c.in-Some.place c.index_mut-link.result.now c.hear_on.new.link c.args.self.now
    (λ (heard : Option Heard). machine_with (pool_in c.hear_on.new.pool) (told_by heard (ends_in c.args.self.now.applications)) (queues_in c.hear_on.new.applications))
    (sym c.place_in.ensures.is ∙ c.in-Some.is)
    (subst (λ (v : Linked). c.index_mut-link.result.now ≡ slice_index_or v.items c.in-Some.place c.index_mut-link.result.now) c.links.view_is c.index_mut-link.ensures.value) (search rules) c.hear_on.ensures.hears

pub returns-in_default-clause-refused : goal.returns-in_default-clause-refused
returns-in_default-clause-refused c = inl refl

pub returns-then-not-link-clause-refused : goal.returns-then-not-link-clause-refused
returns-then-not-link-clause-refused c = inl refl

pub returns-clause-refused : goal.returns-clause-refused
returns-clause-refused c = refused_heard c.hear_on.result c.args.number _ _ _ c.hear_on.ensures.refused

pub returns-in_default-clause-seated : goal.returns-in_default-clause-seated
returns-in_default-clause-seated c = λ s. s

pub returns-then-not-link-clause-seated : goal.returns-then-not-link-clause-seated
returns-then-not-link-clause-seated c = rw (← c.links.view_is) (
    λ s. seated_as (pool_in c.args.self.now.pool) c.links.inside.list.items _
    (heard_there c.links.inside.list.items _ (length-set c.links.inside.list.items c.in-Some.place _) (λ other. (same_written c.links.inside.list.items c.in-Some.place c.index_mut-link.result.now _
    (ap (λ (l : Link). l.number) c.index_mut-link.ensures.value) (ap sending_of c.index_mut-link.ensures.value) (ap (λ (l : Link). l.is_open) c.index_mut-link.ensures.value) other).0)) s)

pub returns-clause-seated : goal.returns-clause-seated
returns-clause-seated c = rw (← c.links.view_is) (
    λ s. behind_on c.hear_on.result c.args.number (pool_in c.args.self.now.pool) _ c.links.inside.list.items
    (ok_more c.hear_on.result _ _ (λ g. reached_on (Connection c.args.number) (pool_in c.args.self.now.pool) (pool_in c.hear_on.new.pool) g) c.hear_on.ensures.goes)
    (c.hear_on.ensures.seats s.reached)
    (heard_there c.links.inside.list.items _ (length-set c.links.inside.list.items c.in-Some.place _) (λ other. (same_written c.links.inside.list.items c.in-Some.place c.index_mut-link.result.now _
    (c.hear_on.ensures.number ∙ ap (λ (l : Link). l.number) c.index_mut-link.ensures.value)
    (sending_same c.index_mut-link.result.now c.hear_on.new.link c.hear_on.ensures.tag c.hear_on.ensures.out ∙ ap sending_of c.index_mut-link.ensures.value)
    (c.hear_on.ensures.is_open ∙ ap (λ (l : Link). l.is_open) c.index_mut-link.ensures.value) other).0)) s)

pub returns-clause-many : goal.returns-clause-many
returns-clause-many c = rw (← c.links.view_is) (ok_if c.hear_on.result _ (length-set c.links.inside.list.items c.in-Some.place _))

pub returns-then-not-link-clause-many : goal.returns-then-not-link-clause-many
returns-then-not-link-clause-many c = rw (← c.links.view_is) (length-set c.links.inside.list.items c.in-Some.place _)

pub returns-in_default-clause-keeps : goal.returns-in_default-clause-keeps
returns-in_default-clause-keeps c = λ n. inr (refl, refl)

pub returns-then-not-link-clause-keeps : goal.returns-then-not-link-clause-keeps
returns-then-not-link-clause-keeps c = rw (← c.links.view_is) (
    first_may c.args.number c.args.self.now.pool.holds.items c.args.self.now.pool.holds.items c.links.inside.list.items _ (inl refl)
    (carried_written c.args.number c.links.inside.list.items c.in-Some.place c.index_mut-link.result.now _
    (ap (λ (v : Linked). place_of c.args.number v.items) c.links.view_is ∙ sym c.place_in.ensures.is ∙ c.in-Some.is)
    (ap (λ (l : Link). l.number) c.index_mut-link.ensures.value)))

pub returns-clause-keeps : goal.returns-clause-keeps
returns-clause-keeps c = rw (← c.links.view_is) (
    first_may_on c.hear_on.result c.args.number c.args.self.now.pool.holds.items c.hear_on.new.pool.holds.items c.links.inside.list.items _
    (carried_written c.args.number c.links.inside.list.items c.in-Some.place c.index_mut-link.result.now _
    (ap (λ (v : Linked). place_of c.args.number v.items) c.links.view_is ∙ sym c.place_in.ensures.is ∙ c.in-Some.is)
    (c.hear_on.ensures.number ∙ ap (λ (l : Link). l.number) c.index_mut-link.ensures.value))
    c.hear_on.ensures.holds)

pub returns-in_default-clause-leases : goal.returns-in_default-clause-leases
returns-in_default-clause-leases c = λ left. inl (search rules)

pub returns-then-not-link-clause-leases : goal.returns-then-not-link-clause-leases
returns-then-not-link-clause-leases c = λ left. inl (search rules)

pub returns-clause-leases : goal.returns-clause-leases
returns-clause-leases c =
    subst (λ (xs : List ℕ). IfOk c.hear_on.result (λ heard. IsLeftOpen heard.1 → PutsByLease xs c.hear_on.new.outbox.items c.args.self.now.pool.service.given c.hear_on.new.pool.service.given)) (search rules) c.hear_on.ensures.leases

pub returns-in_default-clause-given : goal.returns-in_default-clause-given
returns-in_default-clause-given c = hears_stays c.args.number c.args.self.now.links.items c.args.self.now.links.items (stays_refl c.args.self.now.links.items)

pub returns-then-not-link-clause-given : goal.returns-then-not-link-clause-given
returns-then-not-link-clause-given c = rw (← c.links.view_is) (
    hears_stays c.args.number c.links.inside.list.items _
    (stays_written c.links.inside.list.items c.in-Some.place c.index_mut-link.result.now _ (ap (λ (l : Link). l.number) c.index_mut-link.ensures.value) (ap (λ (l : Link). seen_of l) c.index_mut-link.ensures.value)
    (fills_same _ _ (ap (λ (l : Link). bytes_on l) c.index_mut-link.ensures.value)) (ap (λ (l : Link). l.answer) c.index_mut-link.ensures.value) (ap (λ (l : Link). fullness_of l) c.index_mut-link.ensures.value)))

pub returns-clause-given : goal.returns-clause-given
returns-clause-given c = rw (← c.links.view_is) (
    ok_if c.hear_on.result _ (hears_written c.args.number c.links.inside.list.items c.in-Some.place c.index_mut-link.result.now _
    (ap (λ (v : Linked). place_of c.args.number v.items) c.links.view_is ∙ sym c.place_in.ensures.is ∙ c.in-Some.is)
    (sym (ap (λ (l : Link). l.is_open) c.index_mut-link.ensures.value) ∙ search rules)
    (c.hear_on.ensures.number ∙ ap (λ (l : Link). l.number) c.index_mut-link.ensures.value)
    (c.hear_on.ensures.is_open ∙ ap (λ (l : Link). l.is_open) c.index_mut-link.ensures.value)
    (c.hear_on.ensures.tag ∙ ap (λ (l : Link). l.tag) c.index_mut-link.ensures.value)
    (ap queue_in c.hear_on.ensures.out ∙ ap (λ (l : Link). queue_in l.out) c.index_mut-link.ensures.value)))

pub returns-in_default-clause-still : goal.returns-in_default-clause-still
returns-in_default-clause-still c = still_refl _ c.args.self.now.links.items

pub returns-then-not-link-clause-still : goal.returns-then-not-link-clause-still
returns-then-not-link-clause-still c = rw (← c.links.view_is) (
    still_heard _ c.links.inside.list.items _ (λ n. (same_written c.links.inside.list.items c.in-Some.place c.index_mut-link.result.now _
    (ap (λ (l : Link). l.number) c.index_mut-link.ensures.value) (ap sending_of c.index_mut-link.ensures.value) (ap (λ (l : Link). l.is_open) c.index_mut-link.ensures.value) n).0))

pub returns-clause-still : goal.returns-clause-still
returns-clause-still c = rw (← c.links.view_is) (
    ok_if c.hear_on.result _ (still_heard _ c.links.inside.list.items _ (λ n. (same_written c.links.inside.list.items c.in-Some.place c.index_mut-link.result.now _
    (c.hear_on.ensures.number ∙ ap (λ (l : Link). l.number) c.index_mut-link.ensures.value)
    (sending_same c.index_mut-link.result.now c.hear_on.new.link c.hear_on.ensures.tag c.hear_on.ensures.out ∙ ap sending_of c.index_mut-link.ensures.value)
    (c.hear_on.ensures.is_open ∙ ap (λ (l : Link). l.is_open) c.index_mut-link.ensures.value) n).0)))

pub returns-in_default-clause-told : goal.returns-in_default-clause-told
returns-in_default-clause-told c =
    tells_nowhere c.args.number c.args.piece.now (length c.args.piece.now) (record { key = None; what = whats.Goes }) c.args.self.now.links.items (machine_in c.args.self.now) c.args.self.now.pool.service refl
    (sym c.place_in.ensures.is ∙ c.in_default.is)

pub returns-clause-told : goal.returns-clause-told
returns-clause-told c = rw (← c.links.view_is) (
    tells_at c.hear_on.result c.args.number c.links.inside.list.items c.in-Some.place c.index_mut-link.result.now c.hear_on.new.link c.args.piece.now (machine_in c.args.self.now)
    (λ (heard : Option Heard). machine_with (pool_in c.hear_on.new.pool) (told_by heard (ends_in c.args.self.now.applications)) (queues_in c.hear_on.new.applications))
    c.args.self.now.pool.service c.hear_on.new.pool.service
    (ap (λ (v : Linked). place_of c.args.number v.items) c.links.view_is ∙ sym c.place_in.ensures.is ∙ c.in-Some.is)
    c.index_mut-link.ensures.value c.hear_on.ensures.number (search rules) c.hear_on.ensures.is_open refl c.hear_on.ensures.hears c.hear_on.ensures.read)

pub returns-then-not-link-clause-told : goal.returns-then-not-link-clause-told
returns-then-not-link-clause-told c = rw (← c.links.view_is) (
    tells_shut c.args.number c.args.piece.now (length c.args.piece.now) (record { key = None; what = whats.Goes }) c.links.inside.list.items c.in-Some.place c.index_mut-link.result.now (machine_in c.args.self.now) c.args.self.now.pool.service refl
    (ap (λ (v : Linked). place_of c.args.number v.items) c.links.view_is ∙ sym c.place_in.ensures.is ∙ c.in-Some.is)
    c.index_mut-link.ensures.value (search rules))

pub returns-in_default-clause-newly : goal.returns-in_default-clause-newly
returns-in_default-clause-newly c = λ reached. unheard_cleaned c.args.number _ _ _ (search rules)

pub returns-then-not-link-clause-newly : goal.returns-then-not-link-clause-newly
returns-then-not-link-clause-newly c = λ reached. unheard_cleaned c.args.number _ _ _ (search rules)

pub returns-clause-newly : goal.returns-clause-newly
returns-clause-newly c = λ reached.
    subst (λ (xs : List ℕ). IfOk c.hear_on.result (λ heard. CleansNobodys (heard_key heard.1) c.args.number xs c.hear_on.new.outbox.items (pool_in c.args.self.now.pool).service (pool_in c.hear_on.new.pool).service)) (search rules)
    (c.hear_on.ensures.newly reached)

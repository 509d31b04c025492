use Rattle.std.proofs.Common.{true, Bool, ◌≡◌, ◌⊎◌, ◌∙◌, ap, false, inl, inr, rules, sym, subst, List, ℕ, Some, refl, slice_set}
use Rattle.tds_front.specs.Bytes.{fed}
use Rattle.tds_front.specs.declared.front.Said.{Said}
use Rattle.tds_front.specs.declared.front.Said.TheVariants as said
use Rattle.tds_relay.specs.declared.pool.Pool as code
use Rattle.tds_relay.specs.Fronts.{ClosesInstead, IsFed, TakesBetween, ends_in, given_by, core_in, core_of_ends, FedOn}
use Rattle.tds_relay.specs.Core.{IfAsked, EndList, Open, asks_by, end_at, hands_on, is_in, takes_back}
use Rattle.tds_relay.specs.Queues.{acknowledgement, give, queue_at, queues_in, Queues}
use Rattle.tds_relay.specs.Ties.{Application, IsReached, pool_in}
use Rattle.tds_relay.proofs.steps.Fronts.{asks_begun}
use Rattle.tds_relay.proofs.steps.Told.{fed_then}
use Rattle.tds_relay.proofs.steps.Reaching.{ok_more, ok_if}
use Rattle.tds_relay.proofs.steps.Staying.{stays_refl, stays_same}
use Rattle.tds_relay.specs.Asking.{IsObeyed}
use Rattle.tds_relay.proofs.bytes.Calls.{stand_at}
use Rattle.tds_relay.specs.Bodies.{Grows, Nowhere, Obeys, Stays, body_of, going_of, CancelsSaid, standing_in}
use Rattle.tds_relay.specs.Waking.{PutsSaid}
use Rattle.tds_relay.proofs.steps.Bodied.{forgot_on}
use Rattle.tds_relay.proofs.spared.Closings.{closes_more, closes_on, closes_refl}
use Rattle.tds_relay.proofs.spared.Reasons.{for_that}
use Rattle.tds_relay.specs.Reasons.{CannotGoOn, IsOverfull, MayCloseAt, room_left}
use Rattle.slab.specs.Slab.{get}
use Rattle.tds_relay.specs.Waiting.{KeepsInLine, KeepsSaid}
use Rattle.tds_relay.proofs.seats.Relays.{kept_end}
use Rattle.tds_relay.proofs.steps.Quieting.{Drops, Opens, begun_fed, quiet_fed}
use Rattle.tds_relay.proofs.lending.Resting.{others_all, others_refl, same_on}
use Rattle.tds_relay.proofs.spared.Elsewhere.{aside_linked, aside_refl}
use Rattle.tds_relay.proofs.steps.Halting.{cancelled_told}
use Rattle.tds_relay.specs.Reads.{waits_on}
use Rattle.tds_relay.proofs.steps.Still.{links_then, put_refl}
use Rattle.tds_relay.proofs.spared.Rightly.{forgotten_right}
use Rattle.tds_relay.proofs.lending.Earlier.{anew_kept, anew_refl}
use Rattle.tds_relay.proofs.spared.Begun.{answers_then}
use Rattle.tds_relay.proofs.lending.Tending.{tend_linked, tend_refl}
use Rattle.tds_relay.proofs.relay.Relay.obey.Goals as goal

pub returns-in-Begin-clause-given : goal.returns-in-Begin-clause-given
returns-in-Begin-clause-given c =
    ok_more c.begin.result _ _ (λ k. k ∙ sym (ap (λ (s : Said). given_by c.args.key s (queues_in c.args.self.now.applications)) c.in-Begin.is)) c.begin.ensures.kept

pub returns-in-Body-clause-given : goal.returns-in-Body-clause-given
returns-in-Body-clause-given c =
    ok_more c.go_on.result _ _ (λ k. k ∙ sym (ap (λ (s : Said). given_by c.args.key s (queues_in c.args.self.now.applications)) c.in-Body.is)) c.go_on.ensures.kept

pub returns-in-End-clause-given : goal.returns-in-End-clause-given
returns-in-End-clause-given c =
    ok_more c.go_on-in-End.result _ _ (λ k. k ∙ sym (ap (λ (s : Said). given_by c.args.key s (queues_in c.args.self.now.applications)) c.in-End.is)) c.go_on-in-End.ensures.kept

pub returns-in-Forget-true-clause-given : goal.returns-in-Forget-true-clause-given
returns-in-Forget-true-clause-given c =
    ok_more c.take_back.result _ _ (λ k. k ∙ sym (ap (λ (s : Said). given_by c.args.key s (queues_in c.args.self.now.applications)) c.in-Forget-true.is)) c.take_back.ensures.kept

pub returns-in-Forget-false-clause-given : goal.returns-in-Forget-false-clause-given
returns-in-Forget-false-clause-given c =
    ok_more c.forget.result _ _ (λ k. k ∙ sym (ap (λ (s : Said). given_by c.args.key s (queues_in c.args.self.now.applications)) c.in-Forget-false.is)) c.forget.ensures.kept

pub returns-in-HandOn-clause-given : goal.returns-in-HandOn-clause-given
returns-in-HandOn-clause-given c =
    ok_more c.hand_on.result _ _ (λ k. k ∙ sym (ap (λ (s : Said). given_by c.args.key s (queues_in c.args.self.now.applications)) c.in-HandOn.is)) c.hand_on.ensures.kept

pub returns-in_ok-forget-in-Acknowledge-clause-given : goal.returns-in_ok-forget-in-Acknowledge-clause-given
returns-in_ok-forget-in-Acknowledge-clause-given c =
    ok_more c.acknowledge.result _ _
    (λ g. g ∙ ap (λ (ps : Queues). give c.args.key acknowledgement ps) c.in_ok-forget-in-Acknowledge.ensures.kept
    ∙ sym (ap (λ (s : Said). given_by c.args.key s (queues_in c.args.self.now.applications)) c.in-Acknowledge.is))
    c.acknowledge.ensures.given

pub returns-in-Nothing-clause-moves : goal.returns-in-Nothing-clause-moves
returns-in-Nothing-clause-moves c = λ before bytes f. fed_then c.args.key _ before _ bytes c.args.said _ (ap takes_back c.in-Nothing.is) (ap hands_on c.in-Nothing.is) f (λ from h. h)

pub returns-in-Begin-clause-moves : goal.returns-in-Begin-clause-moves
returns-in-Begin-clause-moves c =
    ok_more c.begin.result _ _
    (λ m before bytes f. fed_then c.args.key _ before _ bytes c.args.said _ (ap takes_back c.in-Begin.is) (ap hands_on c.in-Begin.is) f
    (m (subst (λ (es : EndList). IfAsked c.in-Begin.reset (end_at es c.args.key)) (sym (f.is ∙ ap (λ (s : Said). slice_set before c.args.key (Some (Open (fed f.front bytes).front f.withdrawn (asks_by s f.asks)))) c.in-Begin.is)) (asks_begun c.in-Begin.reset before c.args.key _ _))
    (begun_fed c.args.key before _ bytes c.args.said c.bytes_are_packets.ensures.stage c.bytes_are_packets.ensures.says (subst Opens (sym c.in-Begin.is) tt) f)))
    c.begin.ensures.moves

pub returns-in-Body-clause-moves : goal.returns-in-Body-clause-moves
returns-in-Body-clause-moves c =
    ok_more c.go_on.result _ _
    (λ m before bytes f. fed_then c.args.key _ before _ bytes c.args.said _ (ap takes_back c.in-Body.is) (ap hands_on c.in-Body.is) f m)
    c.go_on.ensures.moves

pub returns-in-End-clause-moves : goal.returns-in-End-clause-moves
returns-in-End-clause-moves c =
    ok_more c.go_on-in-End.result _ _
    (λ m before bytes f. fed_then c.args.key _ before _ bytes c.args.said _ (ap takes_back c.in-End.is) (ap hands_on c.in-End.is) f m)
    c.go_on-in-End.ensures.moves

pub returns-in-Forget-false-clause-moves : goal.returns-in-Forget-false-clause-moves
returns-in-Forget-false-clause-moves c =
    let none : c.in-Forget-false.gone ≡ false = search rules in
    ok_more c.forget.result _ _
    (λ m before bytes f. fed_then c.args.key _ before _ bytes c.args.said _ (ap takes_back c.in-Forget-false.is ∙ none) (ap hands_on c.in-Forget-false.is) f
    (m (quiet_fed c.args.key before _ bytes c.args.said c.bytes_are_packets.ensures.stage c.bytes_are_packets.ensures.says (subst Drops (sym c.in-Forget-false.is) tt) f)))
    c.forget.ensures.moves

pub returns-in-Forget-true-clause-moves : goal.returns-in-Forget-true-clause-moves
returns-in-Forget-true-clause-moves c =
    let some : c.in-Forget-true.gone ≡ true = search rules in
    let is : c.args.said ≡ said.Forget true = c.in-Forget-true.is ∙ ap (λ (b : Bool). said.Forget b) some in
    let d = pool_in c.args.self.now.pool in
    let now = ends_in c.args.self.now.applications in
    ok_more c.take_back.result _ _
    (λ m before bytes f.
    let g : IsFed c.args.key before now bytes (said.Forget true) = subst (λ (s : Said). IsFed c.args.key before now bytes s) is f in
    subst (λ (s : Said). TakesBetween c.args.key (core_of_ends d before) bytes (core_in c.take_back.new.self) ⊎ ClosesInstead c.args.key s (core_of_ends d before) (core_in c.take_back.new.self)) (sym is)
    (m (quiet_fed c.args.key before now bytes (said.Forget true) c.bytes_are_packets.ensures.stage c.bytes_are_packets.ensures.says tt g) before bytes g))
    c.take_back.ensures.moves

pub returns-in_ok-forget-in-Acknowledge-clause-moves : goal.returns-in_ok-forget-in-Acknowledge-clause-moves
returns-in_ok-forget-in-Acknowledge-clause-moves c =
    ok_more c.acknowledge.result _ _
    (λ m before bytes f. fed_then c.args.key _ before _ bytes c.args.said _ (ap takes_back c.in-Acknowledge.is) (ap hands_on c.in-Acknowledge.is) f
    (λ from h. m (Application c.args.key) from
    (c.in_ok-forget-in-Acknowledge.ensures.moves (quiet_fed c.args.key before _ bytes c.args.said c.bytes_are_packets.ensures.stage c.bytes_are_packets.ensures.says (subst Drops (sym c.in-Acknowledge.is) tt) f) from h)))
    c.acknowledge.ensures.moves

pub returns-in-Nothing-clause-read : goal.returns-in-Nothing-clause-read
returns-in-Nothing-clause-read c = stays_refl c.args.self.now.links.items

pub returns-in_ok-forget-in-Acknowledge-clause-read : goal.returns-in_ok-forget-in-Acknowledge-clause-read
returns-in_ok-forget-in-Acknowledge-clause-read c = stays_same c.acknowledge.result _ _ _ c.in_ok-forget-in-Acknowledge.ensures.read c.acknowledge.ensures.links

pub returns-in-Begin-clause-underway : goal.returns-in-Begin-clause-underway
returns-in-Begin-clause-underway c =
    ok_more c.begin.result _ _ (λ u. subst (λ (s : Said). IsObeyed c.begin.new.self.links.items c.args.key s (core_in c.begin.new.self)) (sym c.in-Begin.is) u) c.begin.ensures.underway

pub returns-in-Body-clause-underway : goal.returns-in-Body-clause-underway
returns-in-Body-clause-underway c =
    ok_more c.go_on.result _ _ (λ u. subst (λ (s : Said). IsObeyed c.go_on.new.self.links.items c.args.key s (core_in c.go_on.new.self)) (sym c.in-Body.is) u) c.go_on.ensures.underway

pub returns-in-End-clause-underway : goal.returns-in-End-clause-underway
returns-in-End-clause-underway c =
    ok_more c.go_on-in-End.result _ _ (λ u. subst (λ (s : Said). IsObeyed c.go_on-in-End.new.self.links.items c.args.key s (core_in c.go_on-in-End.new.self)) (sym c.in-End.is) u) c.go_on-in-End.ensures.underway

pub returns-in-Forget-false-clause-underway : goal.returns-in-Forget-false-clause-underway
returns-in-Forget-false-clause-underway c =
    ok_more c.forget.result _ _ (λ u. subst (λ (s : Said). IsObeyed c.forget.new.self.links.items c.args.key s (core_in c.forget.new.self)) (sym c.in-Forget-false.is) u) c.forget.ensures.away

pub returns-in-Forget-true-clause-underway : goal.returns-in-Forget-true-clause-underway
returns-in-Forget-true-clause-underway c =
    ok_more c.take_back.result _ _ (λ u. subst (λ (s : Said). IsObeyed c.take_back.new.self.links.items c.args.key s (core_in c.take_back.new.self)) (sym c.in-Forget-true.is) u) c.take_back.ensures.away

pub returns-in_ok-forget-in-Acknowledge-clause-underway : goal.returns-in_ok-forget-in-Acknowledge-clause-underway
returns-in_ok-forget-in-Acknowledge-clause-underway c =
    ok_if c.acknowledge.result _
    (subst (λ (s : Said). IsObeyed c.acknowledge.new.self.links.items c.args.key s (core_in c.acknowledge.new.self)) (sym c.in-Acknowledge.is)
    (subst (λ (d : code.Pool). is_in c.args.key (pool_in d).line ≡ false) (sym c.acknowledge.ensures.pool) c.in_ok-forget-in-Acknowledge.ensures.away))

pub returns-in_ok-forget-in-Acknowledge-clause-stand : goal.returns-in_ok-forget-in-Acknowledge-clause-stand
returns-in_ok-forget-in-Acknowledge-clause-stand c = ok_if c.acknowledge.result _ (stand_at _ _ _ c.in_ok-forget-in-Acknowledge.ensures.stand c.acknowledge.ensures.pool)

pub returns-in-Nothing-clause-body : goal.returns-in-Nothing-clause-body
returns-in-Nothing-clause-body c = subst (λ (s : Said). Obeys s c.args.bytes.now (body_of c.args.key c.args.self.now) (body_of c.args.key c.args.self.now)) (sym c.in-Nothing.is) (record { mid = body_of c.args.key c.args.self.now; does = refl; starts = Stays })

pub returns-in-Begin-clause-body : goal.returns-in-Begin-clause-body
returns-in-Begin-clause-body c = ok_more c.begin.result _ _ (λ o. subst (λ (s : Said). Obeys s c.args.bytes.now (body_of c.args.key c.args.self.now) (body_of c.args.key c.begin.new.self)) (sym c.in-Begin.is) (record { mid = o.0; does = o.1; starts = o.2 })) c.begin.ensures.body

pub returns-in-Body-clause-body : goal.returns-in-Body-clause-body
returns-in-Body-clause-body c = ok_more c.go_on.result _ _ (λ o. subst (λ (s : Said). Obeys s c.args.bytes.now (body_of c.args.key c.args.self.now) (body_of c.args.key c.go_on.new.self)) (sym c.in-Body.is) (record { mid = o.0; does = subst (λ (xs : List ℕ). Grows false xs (body_of c.args.key c.args.self.now) o.0) c.last.ensures o.1; starts = o.2 })) c.go_on.ensures.body

pub returns-in-End-clause-body : goal.returns-in-End-clause-body
returns-in-End-clause-body c = ok_more c.go_on-in-End.result _ _ (λ o. subst (λ (s : Said). Obeys s c.args.bytes.now (body_of c.args.key c.args.self.now) (body_of c.args.key c.go_on-in-End.new.self)) (sym c.in-End.is) (record { mid = o.0; does = subst (λ (xs : List ℕ). Grows true xs (body_of c.args.key c.args.self.now) o.0) c.last-in-End.ensures o.1; starts = o.2 })) c.go_on-in-End.ensures.body

pub returns-in-Forget-false-clause-body : goal.returns-in-Forget-false-clause-body
returns-in-Forget-false-clause-body c = ok_more c.forget.result _ _ (λ s. subst (λ (s : Said). Obeys s c.args.bytes.now (body_of c.args.key c.args.self.now) (body_of c.args.key c.forget.new.self)) (sym c.in-Forget-false.is) (record { mid = Nowhere; does = refl; starts = s (going_of c.args.key c.forget.new.self) })) c.forget.ensures.body

pub returns-in-Forget-true-clause-body : goal.returns-in-Forget-true-clause-body
returns-in-Forget-true-clause-body c = ok_more c.take_back.result _ _ (λ s. subst (λ (s : Said). Obeys s c.args.bytes.now (body_of c.args.key c.args.self.now) (body_of c.args.key c.take_back.new.self)) (sym c.in-Forget-true.is) (record { mid = Nowhere; does = refl; starts = s (going_of c.args.key c.take_back.new.self) })) c.take_back.ensures.body

pub returns-in_ok-forget-in-Acknowledge-clause-body : goal.returns-in_ok-forget-in-Acknowledge-clause-body
returns-in_ok-forget-in-Acknowledge-clause-body c = ok_more c.acknowledge.result _ _ (λ s. subst (λ (s : Said). Obeys s c.args.bytes.now (body_of c.args.key c.args.self.now) (body_of c.args.key c.acknowledge.new.self)) (sym c.in-Acknowledge.is) (record { mid = Nowhere; does = refl; starts = s (going_of c.args.key c.acknowledge.new.self) }))
    (forgot_on c.acknowledge.result c.forget-in-Acknowledge.new.self.applications c.acknowledge.new.self.applications c.args.key c.in_ok-forget-in-Acknowledge.ensures.body c.acknowledge.ensures.asks)

pub returns-in-HandOn-clause-body : goal.returns-in-HandOn-clause-body
returns-in-HandOn-clause-body c = ok_more c.hand_on.result _ _ (λ h. subst (λ (s : Said). Obeys s c.args.bytes.now (body_of c.args.key c.args.self.now) (body_of c.args.key c.hand_on.new.self)) (sym c.in-HandOn.is) (record { mid = body_of c.args.key c.hand_on.new.self; does = h; starts = Stays })) c.hand_on.ensures.body

pub returns-in-Begin-clause-closes : goal.returns-in-Begin-clause-closes
returns-in-Begin-clause-closes c = for_that c.begin.result c.args.key _ _ _ _
    (λ why. subst (λ (s : Said). MayCloseAt s c.args.bytes.now c.args.key (end_at (ends_in c.args.self.now.applications) c.args.key) c.args.self.now) (sym c.in-Begin.is) why) c.begin.ensures.closes

pub returns-in-Forget-false-clause-closes : goal.returns-in-Forget-false-clause-closes
returns-in-Forget-false-clause-closes c =
    let none : c.in-Forget-false.gone ≡ false = search rules in
    for_that c.forget.result c.args.key _ _ _ _ (λ why. subst (λ (s : Said). MayCloseAt s c.args.bytes.now c.args.key (end_at (ends_in c.args.self.now.applications) c.args.key) c.args.self.now) (sym (c.in-Forget-false.is ∙ ap (λ (b : Bool). said.Forget b) none)) why) c.forget.ensures.closes

pub returns-in-Forget-true-clause-closes : goal.returns-in-Forget-true-clause-closes
returns-in-Forget-true-clause-closes c =
    let some : c.in-Forget-true.gone ≡ true = search rules in
    for_that c.take_back.result c.args.key _ _ _ _ (λ why. subst (λ (s : Said). MayCloseAt s c.args.bytes.now c.args.key (end_at (ends_in c.args.self.now.applications) c.args.key) c.args.self.now) (sym (c.in-Forget-true.is ∙ ap (λ (b : Bool). said.Forget b) some)) why) c.take_back.ensures.closes

pub returns-in-HandOn-clause-closes : goal.returns-in-HandOn-clause-closes
returns-in-HandOn-clause-closes c = for_that c.hand_on.result c.args.key _ _ _ _ (λ why. subst (λ (s : Said). MayCloseAt s c.args.bytes.now c.args.key (end_at (ends_in c.args.self.now.applications) c.args.key) c.args.self.now) (sym c.in-HandOn.is) why) c.hand_on.ensures.closes

pub returns-in-Body-clause-closes : goal.returns-in-Body-clause-closes
returns-in-Body-clause-closes c = for_that c.go_on.result c.args.key _ _ _ _
    (λ why. subst (λ (s : Said). MayCloseAt s c.args.bytes.now c.args.key (end_at (ends_in c.args.self.now.applications) c.args.key) c.args.self.now) (sym c.in-Body.is)
    (subst (λ (xs : List ℕ). CannotGoOn false xs c.args.key (end_at (ends_in c.args.self.now.applications) c.args.key) (room_left (get c.args.self.now.applications c.args.key)) c.args.self.now.pool c.args.self.now.links.items (body_of c.args.key c.args.self.now)) c.last.ensures why))
    c.go_on.ensures.closes

pub returns-in-End-clause-closes : goal.returns-in-End-clause-closes
returns-in-End-clause-closes c = for_that c.go_on-in-End.result c.args.key _ _ _ _
    (λ why. subst (λ (s : Said). MayCloseAt s c.args.bytes.now c.args.key (end_at (ends_in c.args.self.now.applications) c.args.key) c.args.self.now) (sym c.in-End.is)
    (subst (λ (xs : List ℕ). CannotGoOn true xs c.args.key (end_at (ends_in c.args.self.now.applications) c.args.key) (room_left (get c.args.self.now.applications c.args.key)) c.args.self.now.pool c.args.self.now.links.items (body_of c.args.key c.args.self.now)) c.last-in-End.ensures why))
    c.go_on-in-End.ensures.closes

pub returns-in_ok-forget-in-Acknowledge-clause-closes : goal.returns-in_ok-forget-in-Acknowledge-clause-closes
returns-in_ok-forget-in-Acknowledge-clause-closes c =
    let may : Said → Type 0 = λ s. MayCloseAt s c.args.bytes.now c.args.key (end_at (ends_in c.args.self.now.applications) c.args.key) c.args.self.now in
    let is : may said.Acknowledge → may c.args.said = λ why. subst may (sym c.in-Acknowledge.is) why in
    closes_on c.acknowledge.result _ _ _ _
    (for_that c.acknowledge.result c.args.key _ _ _ _
    (λ full. is (inr (subst (λ (ps : Queues). IsOverfull (queue_at (give c.args.key acknowledgement ps) c.args.key)) c.in_ok-forget-in-Acknowledge.ensures.kept full))) c.acknowledge.ensures.closes)
    (closes_more _ _ _ _ (λ other x. (x.0, is (inl x.1))) c.in_ok-forget-in-Acknowledge.ensures.closes)

pub returns-in-Nothing-clause-closes : goal.returns-in-Nothing-clause-closes
returns-in-Nothing-clause-closes c = closes_refl _ _

pub returns-in-Nothing-clause-keeps : goal.returns-in-Nothing-clause-keeps
returns-in-Nothing-clause-keeps c = λ none. subst (λ (s : Said). KeepsSaid s c.args.bytes.now (get c.args.self.now.applications c.args.key) (body_of c.args.key c.args.self.now)) (sym c.in-Nothing.is) tt

pub returns-in-Begin-clause-keeps : goal.returns-in-Begin-clause-keeps
returns-in-Begin-clause-keeps c = λ none. ok_if c.begin.result _ (subst (λ (s : Said). KeepsSaid s c.args.bytes.now (get c.args.self.now.applications c.args.key) (body_of c.args.key c.begin.new.self)) (sym c.in-Begin.is) tt)

pub returns-in-Forget-false-clause-keeps : goal.returns-in-Forget-false-clause-keeps
returns-in-Forget-false-clause-keeps c = λ none. ok_if c.forget.result _ (subst (λ (s : Said). KeepsSaid s c.args.bytes.now (get c.args.self.now.applications c.args.key) (body_of c.args.key c.forget.new.self)) (sym c.in-Forget-false.is) tt)

pub returns-in-Forget-true-clause-keeps : goal.returns-in-Forget-true-clause-keeps
returns-in-Forget-true-clause-keeps c = λ none. ok_if c.take_back.result _ (subst (λ (s : Said). KeepsSaid s c.args.bytes.now (get c.args.self.now.applications c.args.key) (body_of c.args.key c.take_back.new.self)) (sym c.in-Forget-true.is) tt)

pub returns-in-HandOn-clause-keeps : goal.returns-in-HandOn-clause-keeps
returns-in-HandOn-clause-keeps c = λ none. ok_if c.hand_on.result _ (subst (λ (s : Said). KeepsSaid s c.args.bytes.now (get c.args.self.now.applications c.args.key) (body_of c.args.key c.hand_on.new.self)) (sym c.in-HandOn.is) tt)

pub returns-in_ok-forget-in-Acknowledge-clause-keeps : goal.returns-in_ok-forget-in-Acknowledge-clause-keeps
returns-in_ok-forget-in-Acknowledge-clause-keeps c = λ none. ok_if c.acknowledge.result _ (subst (λ (s : Said). KeepsSaid s c.args.bytes.now (get c.args.self.now.applications c.args.key) (body_of c.args.key c.acknowledge.new.self)) (sym c.in-Acknowledge.is) tt)

pub returns-in-Body-clause-keeps : goal.returns-in-Body-clause-keeps
returns-in-Body-clause-keeps c = λ none.
    ok_more c.go_on.result _ _
    (λ k. subst (λ (s : Said). KeepsSaid s c.args.bytes.now (get c.args.self.now.applications c.args.key) (body_of c.args.key c.go_on.new.self)) (sym c.in-Body.is)
    (subst (λ (xs : List ℕ). KeepsInLine false xs (get c.args.self.now.applications c.args.key) (body_of c.args.key c.go_on.new.self)) c.last.ensures k)) (c.go_on.ensures.keeps none)

pub returns-in-End-clause-keeps : goal.returns-in-End-clause-keeps
returns-in-End-clause-keeps c = λ none.
    ok_more c.go_on-in-End.result _ _
    (λ k. subst (λ (s : Said). KeepsSaid s c.args.bytes.now (get c.args.self.now.applications c.args.key) (body_of c.args.key c.go_on-in-End.new.self)) (sym c.in-End.is)
    (subst (λ (xs : List ℕ). KeepsInLine true xs (get c.args.self.now.applications c.args.key) (body_of c.args.key c.go_on-in-End.new.self)) c.last-in-End.ensures k)) (c.go_on-in-End.ensures.keeps none)

pub returns-in_ok-forget-in-Acknowledge-clause-seated : goal.returns-in_ok-forget-in-Acknowledge-clause-seated
returns-in_ok-forget-in-Acknowledge-clause-seated c = λ s. kept_end c.acknowledge.result c.forget-in-Acknowledge.new.self c.acknowledge.new.self c.acknowledge.ensures.pool c.acknowledge.ensures.links (c.in_ok-forget-in-Acknowledge.ensures.seated s)

pub returns-in-Nothing-clause-others : goal.returns-in-Nothing-clause-others
returns-in-Nothing-clause-others c = λ reached. others_refl c.args.key c.args.self.now

pub returns-in_ok-forget-in-Acknowledge-clause-others : goal.returns-in_ok-forget-in-Acknowledge-clause-others
returns-in_ok-forget-in-Acknowledge-clause-others c = λ reached.
    others_all c.acknowledge.result c.args.key c.args.self.now c.forget-in-Acknowledge.new.self c.acknowledge.new.self
    (same_on c.acknowledge.result c.forget-in-Acknowledge.new.self c.acknowledge.new.self c.acknowledge.ensures.pool c.acknowledge.ensures.links c.acknowledge.ensures.asks) (c.in_ok-forget-in-Acknowledge.ensures.others reached)

pub returns-in-Nothing-clause-aside : goal.returns-in-Nothing-clause-aside
returns-in-Nothing-clause-aside c = λ reached. aside_refl c.args.key c.args.self.now

pub returns-in_ok-forget-in-Acknowledge-clause-aside : goal.returns-in_ok-forget-in-Acknowledge-clause-aside
returns-in_ok-forget-in-Acknowledge-clause-aside c = λ reached.
    aside_linked c.acknowledge.result c.args.key c.args.self.now c.forget-in-Acknowledge.new.self c.acknowledge.new.self (c.in_ok-forget-in-Acknowledge.ensures.aside reached) c.acknowledge.ensures.pool c.acknowledge.ensures.links

pub returns-in-Nothing-clause-cancels : goal.returns-in-Nothing-clause-cancels
returns-in-Nothing-clause-cancels c = subst (λ (s : Said). CancelsSaid s (body_of c.args.key c.args.self.now) (standing_in c.args.key c.args.self.now)) (sym c.in-Nothing.is) tt

pub returns-in-Begin-clause-cancels : goal.returns-in-Begin-clause-cancels
returns-in-Begin-clause-cancels c = ok_if c.begin.result _ (subst (λ (s : Said). CancelsSaid s (body_of c.args.key c.args.self.now) (standing_in c.args.key c.begin.new.self)) (sym c.in-Begin.is) tt)

pub returns-in-Body-clause-cancels : goal.returns-in-Body-clause-cancels
returns-in-Body-clause-cancels c = ok_if c.go_on.result _ (subst (λ (s : Said). CancelsSaid s (body_of c.args.key c.args.self.now) (standing_in c.args.key c.go_on.new.self)) (sym c.in-Body.is) tt)

pub returns-in-End-clause-cancels : goal.returns-in-End-clause-cancels
returns-in-End-clause-cancels c = ok_if c.go_on-in-End.result _ (subst (λ (s : Said). CancelsSaid s (body_of c.args.key c.args.self.now) (standing_in c.args.key c.go_on-in-End.new.self)) (sym c.in-End.is) tt)

pub returns-in-Forget-false-clause-cancels : goal.returns-in-Forget-false-clause-cancels
returns-in-Forget-false-clause-cancels c =
    ok_more c.forget.result _ _ (λ h. subst (λ (s : Said). CancelsSaid s (body_of c.args.key c.args.self.now) (standing_in c.args.key c.forget.new.self)) (sym c.in-Forget-false.is) h) c.forget.ensures.cancels

pub returns-in-Forget-true-clause-cancels : goal.returns-in-Forget-true-clause-cancels
returns-in-Forget-true-clause-cancels c =
    ok_more c.take_back.result _ _ (λ h. subst (λ (s : Said). CancelsSaid s (body_of c.args.key c.args.self.now) (standing_in c.args.key c.take_back.new.self)) (sym c.in-Forget-true.is) h) c.take_back.ensures.cancels

pub returns-in_ok-forget-in-Acknowledge-clause-cancels : goal.returns-in_ok-forget-in-Acknowledge-clause-cancels
returns-in_ok-forget-in-Acknowledge-clause-cancels c =
    ok_more c.acknowledge.result _ _ (λ h. subst (λ (s : Said). CancelsSaid s (body_of c.args.key c.args.self.now) (standing_in c.args.key c.acknowledge.new.self)) (sym c.in-Acknowledge.is) h)
    (cancelled_told c.acknowledge.result c.args.key (body_of c.args.key c.args.self.now) c.forget-in-Acknowledge.new.self c.acknowledge.new.self c.in_ok-forget-in-Acknowledge.ensures.cancels c.acknowledge.ensures.pool c.acknowledge.ensures.links c.acknowledge.ensures.asks)

pub returns-in-HandOn-clause-cancels : goal.returns-in-HandOn-clause-cancels
returns-in-HandOn-clause-cancels c = ok_if c.hand_on.result _ (subst (λ (s : Said). CancelsSaid s (body_of c.args.key c.args.self.now) (standing_in c.args.key c.hand_on.new.self)) (sym c.in-HandOn.is) tt)

pub returns-in-Nothing-clause-puts : goal.returns-in-Nothing-clause-puts
returns-in-Nothing-clause-puts c = subst (λ (s : Said). PutsSaid (IsReached (pool_in c.args.self.now.pool)) s c.args.bytes.now (standing_in c.args.key c.args.self.now) (standing_in c.args.key c.args.self.now)) (sym c.in-Nothing.is) (put_refl (standing_in c.args.key c.args.self.now))

pub returns-in-Begin-clause-puts : goal.returns-in-Begin-clause-puts
returns-in-Begin-clause-puts c = ok_more c.begin.result _ _ (λ h. subst (λ (s : Said). PutsSaid (IsReached (pool_in c.args.self.now.pool)) s c.args.bytes.now (standing_in c.args.key c.args.self.now) (standing_in c.args.key c.begin.new.self)) (sym c.in-Begin.is) h) c.begin.ensures.puts

pub returns-in-Body-clause-puts : goal.returns-in-Body-clause-puts
returns-in-Body-clause-puts c = ok_more c.go_on.result _ _ (λ o. subst (λ (s : Said). PutsSaid (IsReached (pool_in c.args.self.now.pool)) s c.args.bytes.now (standing_in c.args.key c.args.self.now) (standing_in c.args.key c.go_on.new.self)) (sym c.in-Body.is) (o.0, subst (λ (xs : List ℕ). Grows false xs (body_of c.args.key c.args.self.now) o.0) c.last.ensures o.1, o.2)) c.go_on.ensures.puts

pub returns-in-End-clause-puts : goal.returns-in-End-clause-puts
returns-in-End-clause-puts c = ok_more c.go_on-in-End.result _ _ (λ o. subst (λ (s : Said). PutsSaid (IsReached (pool_in c.args.self.now.pool)) s c.args.bytes.now (standing_in c.args.key c.args.self.now) (standing_in c.args.key c.go_on-in-End.new.self)) (sym c.in-End.is) (o.0, subst (λ (xs : List ℕ). Grows true xs (body_of c.args.key c.args.self.now) o.0) c.last-in-End.ensures o.1, o.2)) c.go_on-in-End.ensures.puts

pub returns-in-HandOn-clause-puts : goal.returns-in-HandOn-clause-puts
returns-in-HandOn-clause-puts c = ok_if c.hand_on.result _ (subst (λ (s : Said). PutsSaid (IsReached (pool_in c.args.self.now.pool)) s c.args.bytes.now (standing_in c.args.key c.args.self.now) (standing_in c.args.key c.hand_on.new.self)) (sym c.in-HandOn.is) tt)

pub returns-in-Forget-false-clause-puts : goal.returns-in-Forget-false-clause-puts
returns-in-Forget-false-clause-puts c =
    let none : c.in-Forget-false.gone ≡ false = search rules in
    ok_more c.forget.result _ _ (λ h. subst (λ (s : Said). PutsSaid (IsReached (pool_in c.args.self.now.pool)) s c.args.bytes.now (standing_in c.args.key c.args.self.now) (standing_in c.args.key c.forget.new.self)) (sym (c.in-Forget-false.is ∙ ap (λ (b : Bool). said.Forget b) none)) h) c.forget.ensures.puts

pub returns-in-Forget-true-clause-puts : goal.returns-in-Forget-true-clause-puts
returns-in-Forget-true-clause-puts c =
    let some : c.in-Forget-true.gone ≡ true = search rules in
    ok_if c.take_back.result _ (subst (λ (s : Said). PutsSaid (IsReached (pool_in c.args.self.now.pool)) s c.args.bytes.now (standing_in c.args.key c.args.self.now) (standing_in c.args.key c.take_back.new.self)) (sym (c.in-Forget-true.is ∙ ap (λ (b : Bool). said.Forget b) some)) tt)

pub returns-in_ok-forget-in-Acknowledge-clause-puts : goal.returns-in_ok-forget-in-Acknowledge-clause-puts
returns-in_ok-forget-in-Acknowledge-clause-puts c =
    ok_more c.acknowledge.result _ _
    (λ l. subst (λ (s : Said). PutsSaid (IsReached (pool_in c.args.self.now.pool)) s c.args.bytes.now (standing_in c.args.key c.args.self.now) (standing_in c.args.key c.acknowledge.new.self)) (sym c.in-Acknowledge.is)
    (λ still number. links_then number (waits_on number c.args.self.now.links.items) c.forget-in-Acknowledge.new.self.links.items c.acknowledge.new.self.links.items l (c.in_ok-forget-in-Acknowledge.ensures.puts still number)))
    c.acknowledge.ensures.links

pub returns-in-Nothing-clause-right : goal.returns-in-Nothing-clause-right
returns-in-Nothing-clause-right c = λ right. right

pub returns-in-Begin-clause-right : goal.returns-in-Begin-clause-right
returns-in-Begin-clause-right c = λ right. c.begin.ensures.right

pub returns-in-Body-clause-right : goal.returns-in-Body-clause-right
returns-in-Body-clause-right c = λ right. c.go_on.ensures.right

pub returns-in-End-clause-right : goal.returns-in-End-clause-right
returns-in-End-clause-right c = λ right. c.go_on-in-End.ensures.right

pub returns-in-Forget-false-clause-right : goal.returns-in-Forget-false-clause-right
returns-in-Forget-false-clause-right c = λ right. ok_more c.forget.result _ _ (λ s. forgotten_right c.args.key c.forget.new.self (s (going_of c.args.key c.forget.new.self))) c.forget.ensures.body

pub returns-in-Forget-true-clause-right : goal.returns-in-Forget-true-clause-right
returns-in-Forget-true-clause-right c = λ right. ok_more c.take_back.result _ _ (λ s. forgotten_right c.args.key c.take_back.new.self (s (going_of c.args.key c.take_back.new.self))) c.take_back.ensures.body

pub returns-in_ok-forget-in-Acknowledge-clause-right : goal.returns-in_ok-forget-in-Acknowledge-clause-right
returns-in_ok-forget-in-Acknowledge-clause-right c = λ right.
    ok_more c.acknowledge.result _ _ (λ s. forgotten_right c.args.key c.acknowledge.new.self (s (going_of c.args.key c.acknowledge.new.self)))
    (forgot_on c.acknowledge.result c.forget-in-Acknowledge.new.self.applications c.acknowledge.new.self.applications c.args.key c.in_ok-forget-in-Acknowledge.ensures.body c.acknowledge.ensures.asks)

pub returns-in-HandOn-clause-right : goal.returns-in-HandOn-clause-right
returns-in-HandOn-clause-right c = λ right. c.hand_on.ensures.right right

pub returns-in-HandOn-clause-moves : goal.returns-in-HandOn-clause-moves
returns-in-HandOn-clause-moves c =
    ok_more c.hand_on.result _ _ (λ m. subst (λ (s : Said). FedOn c.args.key s (pool_in c.args.self.now.pool) (ends_in c.args.self.now.applications) (core_in c.hand_on.new.self)) (sym c.in-HandOn.is) m) c.hand_on.ensures.moves

pub returns-in-Nothing-clause-anew : goal.returns-in-Nothing-clause-anew
returns-in-Nothing-clause-anew c = λ reached. anew_refl c.args.self.now

pub returns-in-Begin-clause-anew : goal.returns-in-Begin-clause-anew
returns-in-Begin-clause-anew c = λ reached. c.begin.ensures.anew reached

pub returns-in-Body-clause-anew : goal.returns-in-Body-clause-anew
returns-in-Body-clause-anew c = λ reached. anew_kept c.go_on.result c.args.self.now c.go_on.new.self c.go_on.ensures.answers

pub returns-in-End-clause-anew : goal.returns-in-End-clause-anew
returns-in-End-clause-anew c = λ reached. anew_kept c.go_on-in-End.result c.args.self.now c.go_on-in-End.new.self c.go_on-in-End.ensures.answers

pub returns-in-Forget-false-clause-anew : goal.returns-in-Forget-false-clause-anew
returns-in-Forget-false-clause-anew c = λ reached. anew_kept c.forget.result c.args.self.now c.forget.new.self c.forget.ensures.answers

pub returns-in-Forget-true-clause-anew : goal.returns-in-Forget-true-clause-anew
returns-in-Forget-true-clause-anew c = λ reached. anew_kept c.take_back.result c.args.self.now c.take_back.new.self c.take_back.ensures.answers

pub returns-in-HandOn-clause-anew : goal.returns-in-HandOn-clause-anew
returns-in-HandOn-clause-anew c = λ reached. anew_kept c.hand_on.result c.args.self.now c.hand_on.new.self c.hand_on.ensures.answers

pub returns-in_ok-forget-in-Acknowledge-clause-anew : goal.returns-in_ok-forget-in-Acknowledge-clause-anew
returns-in_ok-forget-in-Acknowledge-clause-anew c = λ reached. anew_kept c.acknowledge.result c.args.self.now c.acknowledge.new.self (answers_then c.acknowledge.result _ _ _ c.in_ok-forget-in-Acknowledge.ensures.answers c.acknowledge.ensures.links)

pub returns-in-Nothing-clause-awaits : goal.returns-in-Nothing-clause-awaits
returns-in-Nothing-clause-awaits c = tend_refl (pool_in c.args.self.now.pool) c.args.self.now.links.items

pub returns-in_ok-forget-in-Acknowledge-clause-awaits : goal.returns-in_ok-forget-in-Acknowledge-clause-awaits
returns-in_ok-forget-in-Acknowledge-clause-awaits c =
    tend_linked c.acknowledge.result c.args.self.now c.forget-in-Acknowledge.new.self c.acknowledge.new.self c.in_ok-forget-in-Acknowledge.ensures.awaits c.acknowledge.ensures.pool c.acknowledge.ensures.links

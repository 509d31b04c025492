use Rattle.std.proofs.Common.{◌≡◌, Option, Some, None, ap, false, inl, refl, rules, subst, sym, ◌⊎◌, inr, [], ℕ, ◌∙◌}
use Rattle.tds_packet.specs.declared.status.Reset.{Reset}
use Rattle.tds_packet.specs.declared.status.Reset.TheVariants.{Full, KeepTransaction}
use Rattle.tds_relay.specs.Fronts.{ends_in, core_of_ends}
use Rattle.tds_relay.specs.Core.{AsksFor, AsksToPart, EndList, IfAsked, IsReset, change_end, closes, end_at, IfOpen, IsBegun}
use Rattle.tds_relay.specs.Ties.{Application, pool_in}
use Rattle.tds_relay.proofs.steps.Fronts.{ends_kept, moves_closes, moves_same, none_reset}
use Rattle.tds_relay.proofs.steps.Reaching.{ok_if, ok_more}
use Rattle.tds_relay.proofs.steps.Staying.{stays_refl, stays_same}
use Rattle.tds_relay.specs.Bodies.{Closed, Refuses, Stays, body_of, going_of, Kept, body_in, standing_in}
use Rattle.slab.specs.Slab.{get, with_value}
use Rattle.tds_relay.proofs.steps.Bodied.{none_closed, same_starts, shut_starts, shut, spared_starts}
use Rattle.tds_relay.proofs.steps.Going.{begun}
use Rattle.tds_relay.proofs.steps.Underway.{of_over, over_deaf, waits_written, written_there}
use Rattle.tds_relay.proofs.steps.Queueing.{queues_kept}
use Rattle.std.specs.Prelude.{IsSome}
use Rattle.tds_relay.specs.Closings.{IsNoRequest}
use Rattle.tds_relay.specs.Pool.{find_key}
use Rattle.tds_relay.specs.Reasons.{CannotBegin, CannotPart, ItselfFor, CannotAsk, HasTransaction, IsReadyThere, IsUnrenewed}
use Rattle.tds_relay.proofs.spared.Reasons.{for_reason, for_that, no_request, begun_asks}
use Rattle.tds_relay.proofs.spared.Closings.{closes_both, closes_nobody, closes_on}
use Rattle.tds_relay.proofs.spared.Sending.{kept_refl}
use Rattle.tds_relay.proofs.spared.Shutting.{closes_kept, unclosed}
use Rattle.tds_relay.proofs.spared.Speaking.{written_waited}
use Rattle.tds_relay.proofs.lending.Resting.{others_on, others_refl, written_rest}
use Rattle.tds_relay.specs.Asking.{IsTakenBack}
use Rattle.tds_relay.specs.Places.{HasNoTransaction}
use Rattle.tds_relay.proofs.spared.Turned.{as_refl, begun_kept, held_asks, renewed_as}
use Rattle.tds_relay.proofs.spared.Elsewhere.{aside_refl, keeps_own, keeps_waited}
use Rattle.tds_relay.specs.Reads.{waits_on}
use Rattle.tds_relay.proofs.steps.Still.{begins_put, begins_shut, none_shut, put_refl, put_same, spared_place}
use Rattle.tds_relay.proofs.spared.Rightly.{deaf_right_on, held_right_on, unkept_right, waits_right_on}
use Rattle.tds_relay.proofs.spared.Starting.{unkept_none, unkept_over}
use Rattle.tds_relay.proofs.lending.Earlier.{anew_kept, anew_refl}
use Rattle.tds_relay.proofs.spared.Begun.{answers_unchanged}
use Rattle.tds_relay.proofs.lending.Tending.{none_led, tend_kept_at, tend_refl, tend_waits_at}
use Rattle.tds_relay.proofs.lending.Parting.{leaves_links, leaves_of, over_lets}
use Rattle.tds_relay.proofs.relay.Relay.begin.Goals as goal

pub returns-in-false-default-clause-goes : goal.returns-in-false-default-clause-goes
returns-in-false-default-clause-goes c = ok_more c.wait.result _ _ (λ g from h. g (Application c.args.key) refl from h) c.wait.ensures.goes

pub returns-in-false-default-clause-moves : goal.returns-in-false-default-clause-moves
returns-in-false-default-clause-moves c =
    ok_more c.wait.result _ _ (λ m asks begun from h. m (Application c.args.key) refl (subst (λ (es : EndList). IfOpen IsBegun (end_at es c.args.key)) (sym (ends_kept c.args.self.now.applications c.args.key c.in-Some.application.now c.forget.new.self c.in-Some.ensures.value c.forget.ensures.end)) begun) from (moves_same (Application c.args.key) from _ _ _ _ refl (ends_kept c.args.self.now.applications c.args.key c.in-Some.application.now _ c.in-Some.ensures.value c.forget.ensures.end) h)) c.wait.ensures.moves

pub returns-in-false-default-clause-read : goal.returns-in-false-default-clause-read
returns-in-false-default-clause-read c = stays_same c.wait.result _ _ _ (stays_refl c.args.self.now.links.items) (ok_if c.wait.result _ c.wait.ensures.links)

pub returns-in-true-None-clause-moves : goal.returns-in-true-None-clause-moves
returns-in-true-None-clause-moves c =
    let kept = ends_kept c.args.self.now.applications c.args.key c.in-Some.application.now c.forget.new.self c.in-Some.ensures.value c.forget.ensures.end in
    let none : c.args.reset ≡ None = search rules in
    ok_more c.start.result _ _
    (λ m asks begun from h. m (subst (λ (es : EndList). IsReset (pool_in c.args.self.now.pool) c.args.key (end_at es c.args.key)) (sym kept)
    (none_reset (pool_in c.args.self.now.pool) c.args.key _ (subst (λ (r : Option Reset). IfAsked r (end_at (ends_in c.args.self.now.applications) c.args.key)) none asks)))
    (λ hold its. subst (λ (es : EndList). IfOpen IsBegun (end_at es c.args.key)) (sym kept) begun)
    (Application c.args.key) from (moves_same (Application c.args.key) from _ _ _ _ refl kept h))
    c.start.ensures.moves

pub returns-in-true-Some-Full-clause-moves : goal.returns-in-true-Some-Full-clause-moves
returns-in-true-Some-Full-clause-moves c =
    let kept = ends_kept c.args.self.now.applications c.args.key c.in-Some.application.now c.forget.new.self c.in-Some.ensures.value c.forget.ensures.end in
    let full : c.args.reset ≡ Some Full = search rules in
    let held : IsSome (find_key c.args.key (pool_in c.args.self.now.pool).holds) = search rules in
    ok_more c.change.result _ _
    (λ m asks begun from h. m (subst (λ (es : EndList). AsksToPart (core_of_ends (pool_in c.args.self.now.pool) es) c.args.key) (sym kept) (inl (subst (λ (r : Option Reset). IfAsked r (end_at (ends_in c.args.self.now.applications) c.args.key)) full asks))) (subst (λ (es : EndList). IfOpen IsBegun (end_at es c.args.key)) (sym kept) begun) held from (moves_same (Application c.args.key) from _ _ _ _ refl kept h))
    c.change.ensures.moves

pub returns-else-may_keep_later-clause-moves : goal.returns-else-may_keep_later-clause-moves
returns-else-may_keep_later-clause-moves c =
    let kept = ends_kept c.args.self.now.applications c.args.key c.in-Some.application.now c.forget.new.self c.in-Some.ensures.value c.forget.ensures.end in
    let keeps : c.args.reset ≡ Some KeepTransaction = search rules in
    let held : IsSome (find_key c.args.key (pool_in c.args.self.now.pool).holds) = search rules in
    ok_more c.renew.result _ _
    (λ m asks begun from h. m (subst (λ (es : EndList). AsksFor KeepTransaction (end_at es c.args.key)) (sym kept) (subst (λ (r : Option Reset). IfAsked r (end_at (ends_in c.args.self.now.applications) c.args.key)) keeps asks)) (subst (λ (es : EndList). IfOpen IsBegun (end_at es c.args.key)) (sym kept) begun) held from (moves_same (Application c.args.key) from _ _ _ _ refl kept h))
    c.renew.ensures.moves

pub returns-in_default-message_kind-clause-moves : goal.returns-in_default-message_kind-clause-moves
returns-in_default-message_kind-clause-moves c =
    ok_more c.expel.result _ _
    (λ m asks begun from h. m from (moves_closes (Application c.args.key) from _ _ _ _ c.args.key refl
    (ap (change_end c.args.key closes) (ends_kept c.args.self.now.applications c.args.key c.in-Some.application.now _ c.in-Some.ensures.value refl)) h))
    c.expel.ensures.moves

pub returns-in-false-default-clause-underway : goal.returns-in-false-default-clause-underway
returns-in-false-default-clause-underway c = ok_more c.wait.result _ _ (λ u. u false) (c.wait.ensures.underway (search rules))

pub returns-in-true-Some-Full-clause-underway : goal.returns-in-true-Some-Full-clause-underway
returns-in-true-Some-Full-clause-underway c = ok_more c.change.result _ _ (λ u. u false) c.change.ensures.underway

pub returns-in_default-clause-body : goal.returns-in_default-clause-body
returns-in_default-clause-body c = (Closed, Refuses, none_closed c.args.self.now.applications c.args.key (going_of c.args.key c.args.self.now) (search rules))

pub returns-in_default-message_kind-clause-body : goal.returns-in_default-message_kind-clause-body
returns-in_default-message_kind-clause-body c = ok_more c.expel.result _ _ (λ d. (Closed, Refuses, shut_starts c.expel.new.self.applications c.args.key Closed (going_of c.args.key c.expel.new.self) d)) c.expel.ensures.over

pub returns-in-true-None-clause-underway : goal.returns-in-true-None-clause-underway
returns-in-true-None-clause-underway c = c.start.ensures.underway false (waits_written c.args.self.now.applications c.args.key c.in-Some.application.now c.forget.new.self _ false c.in-Some.ensures.value (c.forget.ensures.asking (c.forget.ensures.body.0 ∙ sym c.is_over.ensures ∙ c.if-is_over.false)))

pub returns-in-true-None-clause-body : goal.returns-in-true-None-clause-body
returns-in-true-None-clause-body c = ok_more c.start.result _ _ (λ s. (_, begun (get (with_value c.args.self.now.applications c.args.key c.forget.new.self) c.args.key) _ c.forget.new.self c.args.kind c.in-Some-message_kind.kind (written_there c.args.self.now.applications c.args.key c.in-Some.application.now c.forget.new.self c.in-Some.ensures.value) (c.forget.ensures.asking (c.forget.ensures.body.0 ∙ sym c.is_over.ensures ∙ c.if-is_over.false)) c.forget.ensures.body.1 (search rules), s)) c.start.ensures.body

pub returns-then-may_keep_later-clause-body : goal.returns-then-may_keep_later-clause-body
returns-then-may_keep_later-clause-body c = (_, begun (get (with_value c.args.self.now.applications c.args.key c.forget.new.self) c.args.key) _ c.forget.new.self c.args.kind c.in-Some-message_kind.kind (written_there c.args.self.now.applications c.args.key c.in-Some.application.now c.forget.new.self c.in-Some.ensures.value) (c.forget.ensures.asking (c.forget.ensures.body.0 ∙ sym c.is_over.ensures ∙ c.if-is_over.false)) c.forget.ensures.body.1 (search rules), Stays)

pub returns-else-may_keep_later-clause-body : goal.returns-else-may_keep_later-clause-body
returns-else-may_keep_later-clause-body c = ok_more c.renew.result _ _ (λ s. (_, begun (get (with_value c.args.self.now.applications c.args.key c.forget.new.self) c.args.key) _ c.forget.new.self c.args.kind c.in-Some-message_kind.kind (written_there c.args.self.now.applications c.args.key c.in-Some.application.now c.forget.new.self c.in-Some.ensures.value) (c.forget.ensures.asking (c.forget.ensures.body.0 ∙ sym c.is_over.ensures ∙ c.if-is_over.false)) c.forget.ensures.body.1 (search rules), s)) (c.renew.ensures.body false (waits_written c.args.self.now.applications c.args.key c.in-Some.application.now c.forget.new.self _ false c.in-Some.ensures.value (c.forget.ensures.asking (c.forget.ensures.body.0 ∙ sym c.is_over.ensures ∙ c.if-is_over.false))))

pub returns-in-true-Some-Full-clause-body : goal.returns-in-true-Some-Full-clause-body
returns-in-true-Some-Full-clause-body c = ok_more c.change.result _ _ (λ s. (_, begun (get (with_value c.args.self.now.applications c.args.key c.forget.new.self) c.args.key) _ c.forget.new.self c.args.kind c.in-Some-message_kind.kind (written_there c.args.self.now.applications c.args.key c.in-Some.application.now c.forget.new.self c.in-Some.ensures.value) (c.forget.ensures.asking (c.forget.ensures.body.0 ∙ sym c.is_over.ensures ∙ c.if-is_over.false)) c.forget.ensures.body.1 (search rules), spared_starts _ (body_of c.args.key c.change.new.self) s)) (c.change.ensures.body false (waits_written c.args.self.now.applications c.args.key c.in-Some.application.now c.forget.new.self _ false c.in-Some.ensures.value (c.forget.ensures.asking (c.forget.ensures.body.0 ∙ sym c.is_over.ensures ∙ c.if-is_over.false))))

pub returns-in-false-default-clause-body : goal.returns-in-false-default-clause-body
returns-in-false-default-clause-body c = ok_if c.wait.result _ (_, begun (get (with_value c.args.self.now.applications c.args.key c.forget.new.self) c.args.key) _ c.forget.new.self c.args.kind c.in-Some-message_kind.kind (written_there c.args.self.now.applications c.args.key c.in-Some.application.now c.forget.new.self c.in-Some.ensures.value) (c.forget.ensures.asking (c.forget.ensures.body.0 ∙ sym c.is_over.ensures ∙ c.if-is_over.false)) c.forget.ensures.body.1 (search rules), same_starts _ (body_of c.args.key c.wait.new.self) (c.wait.ensures.body c.args.key))

pub returns-in_default-message_kind-clause-closes : goal.returns-in_default-message_kind-clause-closes
returns-in_default-message_kind-clause-closes c =
    let none : IsNoRequest c.args.kind = search rules in
    closes_on c.expel.result (ItselfFor c.args.key (CannotBegin c.args.kind c.args.reset c.args.key (end_at (ends_in c.args.self.now.applications) c.args.key) c.args.self.now.pool c.args.self.now.links.items)) _ _ _ (for_reason c.expel.result c.args.key _ _ _ (no_request c.args.kind c.args.reset c.args.key _ c.args.self.now.pool c.args.self.now.links.items none) c.expel.ensures.closes)
    (closes_kept _ _ _ (ends_kept c.args.self.now.applications c.args.key c.in-Some.application.now c.in-Some.application.now c.in-Some.ensures.value refl) (queues_kept c.args.self.now.applications c.args.key c.in-Some.application.now c.in-Some.application.now c.in-Some.ensures.value refl) refl (kept_refl c.args.self.now.links.items) (unclosed _ _ refl))

pub returns-in-false-default-clause-closes : goal.returns-in-false-default-clause-closes
returns-in-false-default-clause-closes c = ok_if c.wait.result _ (closes_both (ItselfFor c.args.key (CannotBegin c.args.kind c.args.reset c.args.key (end_at (ends_in c.args.self.now.applications) c.args.key) c.args.self.now.pool c.args.self.now.links.items)) _ _ _
    (closes_kept _ _ _ (ends_kept c.args.self.now.applications c.args.key c.in-Some.application.now c.forget.new.self c.in-Some.ensures.value c.forget.ensures.end) (queues_kept c.args.self.now.applications c.args.key c.in-Some.application.now c.forget.new.self c.in-Some.ensures.value c.forget.ensures.queue) refl (kept_refl c.args.self.now.links.items) (unclosed _ _ refl)) (closes_nobody _ _ _ c.wait.ensures.closes))

pub returns-then-may_keep_later-clause-closes : goal.returns-then-may_keep_later-clause-closes
returns-then-may_keep_later-clause-closes c = (closes_kept _ _ _ (ends_kept c.args.self.now.applications c.args.key c.in-Some.application.now c.forget.new.self c.in-Some.ensures.value c.forget.ensures.end) (queues_kept c.args.self.now.applications c.args.key c.in-Some.application.now c.forget.new.self c.in-Some.ensures.value c.forget.ensures.queue) refl (kept_refl c.args.self.now.links.items) (unclosed _ _ refl))

pub returns-else-may_keep_later-clause-closes : goal.returns-else-may_keep_later-clause-closes
returns-else-may_keep_later-clause-closes c =
    let keeps : c.args.reset ≡ Some KeepTransaction = search rules in
    let held : IsSome (find_key c.args.key (pool_in c.args.self.now.pool).holds) = search rules in
    let r = c.args.self.now in
    let key = c.args.key in
    let s = r.applications in
    let a = c.in-Some.application.now in
    let b = c.forget.new.self in
    let d = r.pool in
    let same = ends_kept s key a b c.in-Some.ensures.value c.forget.ensures.end in
    closes_on c.renew.result (ItselfFor key (CannotBegin c.args.kind c.args.reset key (end_at (ends_in s) key) d r.links.items)) _ _ _
    (for_that c.renew.result key _ _ _ _
    (λ why. subst (λ (o : Option Reset). CannotBegin c.args.kind o key (end_at (ends_in s) key) d r.links.items) (sym keeps)
    (inr (
      held,
      subst (λ (es : EndList). IsTakenBack (end_at es key) → HasNoTransaction (pool_in d) key) same (c.may_keep_later.ensures.not (search rules)),
      c.in-Some-message_kind.kind,
      search rules,
      subst (λ (es : EndList). IsUnrenewed (HasTransaction (pool_in d) key ⊎ CannotPart key (end_at es key) d) key (end_at es key) d r.links.items (Kept c.in-Some-message_kind.kind [] false)) same
          (renewed_as _ key _ d r.links.items r.links.items _ (Kept c.in-Some-message_kind.kind [] false) (as_refl r.links.items)
          (begun_kept (get (with_value s key b) key) b c.in-Some-message_kind.kind _ (written_there s key a b c.in-Some.ensures.value) (c.forget.ensures.asking (c.forget.ensures.body.0 ∙ sym c.is_over.ensures ∙ c.if-is_over.false)) c.forget.ensures.body.1) why),
    ))) c.renew.ensures.closes)
    (closes_kept _ _ _ same (queues_kept s key a b c.in-Some.ensures.value c.forget.ensures.queue) refl (kept_refl r.links.items) (unclosed _ _ refl))

pub returns-in-true-Some-Full-clause-closes : goal.returns-in-true-Some-Full-clause-closes
returns-in-true-Some-Full-clause-closes c =
    let full : c.args.reset ≡ Some Full = search rules in
    let same = ends_kept c.args.self.now.applications c.args.key c.in-Some.application.now c.forget.new.self c.in-Some.ensures.value c.forget.ensures.end in
    closes_on c.change.result (ItselfFor c.args.key (CannotBegin c.args.kind c.args.reset c.args.key (end_at (ends_in c.args.self.now.applications) c.args.key) c.args.self.now.pool c.args.self.now.links.items)) _ _ _
    (for_that c.change.result c.args.key _ _ _ _ (λ why. subst (λ (r : Option Reset). CannotBegin c.args.kind r c.args.key (end_at (ends_in c.args.self.now.applications) c.args.key) c.args.self.now.pool c.args.self.now.links.items) (sym full) (inr (subst (λ (es : EndList). CannotPart c.args.key (end_at es c.args.key) c.args.self.now.pool) same why))) c.change.ensures.closes)
    (closes_kept _ _ _ (ends_kept c.args.self.now.applications c.args.key c.in-Some.application.now c.forget.new.self c.in-Some.ensures.value c.forget.ensures.end) (queues_kept c.args.self.now.applications c.args.key c.in-Some.application.now c.forget.new.self c.in-Some.ensures.value c.forget.ensures.queue) refl (kept_refl c.args.self.now.links.items) (unclosed _ _ refl))

pub returns-in_default-clause-others : goal.returns-in_default-clause-others
returns-in_default-clause-others c = λ reached. others_refl c.args.key c.args.self.now

pub returns-in_default-message_kind-clause-others : goal.returns-in_default-message_kind-clause-others
returns-in_default-message_kind-clause-others c = λ reached. others_on c.expel.result c.args.key c.args.self.now _ c.expel.new.self (c.expel.ensures.others reached) (written_rest c.args.key _ c.args.self.now _ refl refl refl)

pub returns-in-false-default-clause-others : goal.returns-in-false-default-clause-others
returns-in-false-default-clause-others c = λ reached. written_waited c.wait.result c.args.key c.forget.new.self c.args.self.now c.wait.new.self c.wait.ensures.body c.wait.ensures.service c.wait.ensures.holds

pub returns-in-true-None-clause-others : goal.returns-in-true-None-clause-others
returns-in-true-None-clause-others c = λ reached. others_on c.start.result c.args.key c.args.self.now _ c.start.new.self (c.start.ensures.others reached) (written_rest c.args.key _ c.args.self.now _ refl refl refl)

pub returns-then-may_keep_later-clause-others : goal.returns-then-may_keep_later-clause-others
returns-then-may_keep_later-clause-others c = λ reached. written_rest c.args.key _ c.args.self.now _ refl refl refl

pub returns-else-may_keep_later-clause-others : goal.returns-else-may_keep_later-clause-others
returns-else-may_keep_later-clause-others c = λ reached. others_on c.renew.result c.args.key c.args.self.now _ c.renew.new.self (c.renew.ensures.others reached) (written_rest c.args.key _ c.args.self.now _ refl refl refl)

pub returns-in-true-Some-Full-clause-others : goal.returns-in-true-Some-Full-clause-others
returns-in-true-Some-Full-clause-others c = λ reached. others_on c.change.result c.args.key c.args.self.now _ c.change.new.self (c.change.ensures.others reached) (written_rest c.args.key _ c.args.self.now _ refl refl refl)

pub returns-in-true-None-clause-closes : goal.returns-in-true-None-clause-closes
returns-in-true-None-clause-closes c =
    let none : c.args.reset ≡ None = search rules in
    let s = c.args.self.now.applications in
    let a = c.in-Some.application.now in
    let b = c.forget.new.self in
    let same = ends_kept s c.args.key a b c.in-Some.ensures.value c.forget.ensures.end in
    closes_on c.start.result (ItselfFor c.args.key (CannotBegin c.args.kind c.args.reset c.args.key (end_at (ends_in c.args.self.now.applications) c.args.key) c.args.self.now.pool c.args.self.now.links.items)) _ _ _
    (for_that c.start.result c.args.key _ _ _ _
    (λ why. subst (λ (r : Option Reset). CannotBegin c.args.kind r c.args.key (end_at (ends_in c.args.self.now.applications) c.args.key) c.args.self.now.pool c.args.self.now.links.items) (sym none)
    (let m = c.in-Some-message_kind.kind in
    let key = c.args.key in
    let d = c.args.self.now.pool in
    let links = c.args.self.now.links.items in
    let end = end_at (ends_in (with_value s key b)) key in
    let held : IsSome (find_key key (pool_in d).holds) = search rules in
    let asked : IsReadyThere key (end_at (ends_in s) key) d links × CannotAsk m [] false key (end_at (ends_in s) key) d links =
    subst (λ (es : EndList). IsReadyThere key (end_at es key) d links × CannotAsk m [] false key (end_at es key) d links) same
    (begun_asks key end d links (get (with_value s key b) key) _ b m (written_there s key a b c.in-Some.ensures.value) (c.forget.ensures.asking (c.forget.ensures.body.0 ∙ sym c.is_over.ensures ∙ c.if-is_over.false)) c.forget.ensures.body.1 (held_asks key d _ held why)) in
    inr (asked.0, c.in-Some-message_kind.kind, search rules, asked.1))) c.start.ensures.closes)
    (closes_kept _ _ _ same (queues_kept s c.args.key a b c.in-Some.ensures.value c.forget.ensures.queue) refl (kept_refl c.args.self.now.links.items) (unclosed _ _ refl))

pub returns-then-may_keep_later-clause-underway : goal.returns-then-may_keep_later-clause-underway
returns-then-may_keep_later-clause-underway c = c.may_keep_later.ensures.later (search rules)

pub returns-in_default-clause-aside : goal.returns-in_default-clause-aside
returns-in_default-clause-aside c = λ reached. aside_refl c.args.key c.args.self.now

pub returns-in_default-message_kind-clause-aside : goal.returns-in_default-message_kind-clause-aside
returns-in_default-message_kind-clause-aside c = λ reached. c.expel.ensures.aside reached

pub returns-in-false-default-clause-aside : goal.returns-in-false-default-clause-aside
returns-in-false-default-clause-aside c = λ reached. keeps_waited c.wait.result c.args.key c.args.self.now.pool.holds.items c.wait.new.self.pool.holds.items c.args.self.now.links.items c.wait.new.self.links.items c.wait.ensures.holds c.wait.ensures.links

pub returns-in-true-None-clause-aside : goal.returns-in-true-None-clause-aside
returns-in-true-None-clause-aside c = λ reached. keeps_own c.start.result c.args.key c.args.self.now.pool.holds.items c.start.new.self.pool.holds.items c.args.self.now.links.items c.start.new.self.links.items (c.start.ensures.own reached)

pub returns-then-may_keep_later-clause-aside : goal.returns-then-may_keep_later-clause-aside
returns-then-may_keep_later-clause-aside c = λ reached. aside_refl c.args.key c.args.self.now

pub returns-else-may_keep_later-clause-aside : goal.returns-else-may_keep_later-clause-aside
returns-else-may_keep_later-clause-aside c = λ reached. c.renew.ensures.aside reached

pub returns-in-true-Some-Full-clause-aside : goal.returns-in-true-Some-Full-clause-aside
returns-in-true-Some-Full-clause-aside c = λ reached. c.change.ensures.aside reached

pub returns-in_default-clause-puts : goal.returns-in_default-clause-puts
returns-in_default-clause-puts c = begins_shut _ c.args.kind c.args.reset (standing_in c.args.key c.args.self.now) (standing_in c.args.key c.args.self.now) (none_shut c.args.self.now.applications c.args.key (going_of c.args.key c.args.self.now) (search rules)) (λ reached full. leaves_links c.args.self.now c.args.self.now refl)

pub returns-in_default-message_kind-clause-puts : goal.returns-in_default-message_kind-clause-puts
returns-in_default-message_kind-clause-puts c = over_lets c.expel.result _ _ _ _ (λ d lets. begins_shut _ c.args.kind c.args.reset (standing_in c.args.key c.args.self.now) (standing_in c.args.key c.expel.new.self) (shut c.expel.new.self.applications c.args.key (going_of c.args.key c.expel.new.self) d) (λ reached full. leaves_of c.args.key c.args.self.now c.expel.new.self (lets reached))) c.expel.ensures.over c.expel.ensures.lets

pub returns-in-true-None-clause-puts : goal.returns-in-true-None-clause-puts
returns-in-true-None-clause-puts c =
    let none : c.args.reset ≡ None = search rules in
    ok_more c.start.result _ _
    (λ s. begins_put _ c.args.kind c.args.reset _ (standing_in c.args.key c.args.self.now) (standing_in c.args.key c.start.new.self) (begun (get (with_value c.args.self.now.applications c.args.key c.forget.new.self) c.args.key) _ c.forget.new.self c.args.kind c.in-Some-message_kind.kind (written_there c.args.self.now.applications c.args.key c.in-Some.application.now c.forget.new.self c.in-Some.ensures.value) (c.forget.ensures.asking (c.forget.ensures.body.0 ∙ sym c.is_over.ensures ∙ c.if-is_over.false)) c.forget.ensures.body.1 (search rules))
    (λ full. absurd (let u : None ≡ Some Full = sym none ∙ full in let v : ⊥ = cc in v)) s (λ reached full. absurd (let u : None ≡ Some Full = sym none ∙ full in let v : ⊥ = cc in v)))
    c.start.ensures.puts

pub returns-then-may_keep_later-clause-puts : goal.returns-then-may_keep_later-clause-puts
returns-then-may_keep_later-clause-puts c =
    begins_put _ c.args.kind c.args.reset _ (standing_in c.args.key c.args.self.now) (body_in (get (with_value c.args.self.now.applications c.args.key c.forget.new.self) c.args.key) (going_of c.args.key c.args.self.now), λ (number : ℕ). waits_on number c.args.self.now.links.items) (begun (get (with_value c.args.self.now.applications c.args.key c.forget.new.self) c.args.key) _ c.forget.new.self c.args.kind c.in-Some-message_kind.kind (written_there c.args.self.now.applications c.args.key c.in-Some.application.now c.forget.new.self c.in-Some.ensures.value) (c.forget.ensures.asking (c.forget.ensures.body.0 ∙ sym c.is_over.ensures ∙ c.if-is_over.false)) c.forget.ensures.body.1 (search rules))
    (λ full. inl refl) (put_refl (body_in (get (with_value c.args.self.now.applications c.args.key c.forget.new.self) c.args.key) (going_of c.args.key c.args.self.now), λ (number : ℕ). waits_on number c.args.self.now.links.items)) (λ reached full. leaves_links c.args.self.now c.args.self.now refl)

pub returns-else-may_keep_later-clause-puts : goal.returns-else-may_keep_later-clause-puts
returns-else-may_keep_later-clause-puts c =
    let keeps : c.args.reset ≡ Some KeepTransaction = search rules in
    ok_more c.renew.result _ _
    (λ s. record {
      mid = _;
      begins = (begun (get (with_value c.args.self.now.applications c.args.key c.forget.new.self) c.args.key) _ c.forget.new.self c.args.kind c.in-Some-message_kind.kind (written_there c.args.self.now.applications c.args.key c.in-Some.application.now c.forget.new.self c.in-Some.ensures.value) (c.forget.ensures.asking (c.forget.ensures.body.0 ∙ sym c.is_over.ensures ∙ c.if-is_over.false)) c.forget.ensures.body.1 (search rules));
      starts = s;
      still = λ none. absurd (let u : Some KeepTransaction ≡ None = sym keeps ∙ none in let v : ⊥ = cc in v);
      parts = λ full. absurd (let u : Some KeepTransaction ≡ Some Full = sym keeps ∙ full in let v : ⊥ = cc in v);
      lets = λ reached full. absurd (let u : Some KeepTransaction ≡ Some Full = sym keeps ∙ full in let v : ⊥ = cc in v);
    })
    (c.renew.ensures.puts false (waits_written c.args.self.now.applications c.args.key c.in-Some.application.now c.forget.new.self _ false c.in-Some.ensures.value (c.forget.ensures.asking (c.forget.ensures.body.0 ∙ sym c.is_over.ensures ∙ c.if-is_over.false))))

pub returns-in-true-Some-Full-clause-puts : goal.returns-in-true-Some-Full-clause-puts
returns-in-true-Some-Full-clause-puts c =
    let full : c.args.reset ≡ Some Full = search rules in
    over_lets c.change.result _ _ _ _
    (λ s lets. record {
      mid = _;
      begins = (begun (get (with_value c.args.self.now.applications c.args.key c.forget.new.self) c.args.key) _ c.forget.new.self c.args.kind c.in-Some-message_kind.kind (written_there c.args.self.now.applications c.args.key c.in-Some.application.now c.forget.new.self c.in-Some.ensures.value) (c.forget.ensures.asking (c.forget.ensures.body.0 ∙ sym c.is_over.ensures ∙ c.if-is_over.false)) c.forget.ensures.body.1 (search rules));
      starts = spared_place (λ (number : ℕ). waits_on number c.args.self.now.links.items) _ (body_of c.args.key c.change.new.self) s;
      still = λ none. absurd (let u : Some Full ≡ None = sym full ∙ none in let v : ⊥ = cc in v);
      parts = λ is. s;
      lets = λ reached is. lets reached;
    })
    (c.change.ensures.body false (waits_written c.args.self.now.applications c.args.key c.in-Some.application.now c.forget.new.self _ false c.in-Some.ensures.value (c.forget.ensures.asking (c.forget.ensures.body.0 ∙ sym c.is_over.ensures ∙ c.if-is_over.false)))) c.change.ensures.lets

pub returns-in-false-default-clause-puts : goal.returns-in-false-default-clause-puts
returns-in-false-default-clause-puts c =
    ok_if c.wait.result _
    (begins_put _ c.args.kind c.args.reset _ (standing_in c.args.key c.args.self.now) (standing_in c.args.key c.wait.new.self) (begun (get (with_value c.args.self.now.applications c.args.key c.forget.new.self) c.args.key) _ c.forget.new.self c.args.kind c.in-Some-message_kind.kind (written_there c.args.self.now.applications c.args.key c.in-Some.application.now c.forget.new.self c.in-Some.ensures.value) (c.forget.ensures.asking (c.forget.ensures.body.0 ∙ sym c.is_over.ensures ∙ c.if-is_over.false)) c.forget.ensures.body.1 (search rules))
    (λ full. inl (c.wait.ensures.body c.args.key))
    (put_same (body_in (get (with_value c.args.self.now.applications c.args.key c.forget.new.self) c.args.key) (going_of c.args.key c.args.self.now), λ (number : ℕ). waits_on number c.args.self.now.links.items) (standing_in c.args.key c.wait.new.self)
    (c.wait.ensures.body c.args.key) (λ number. ap (waits_on number) c.wait.ensures.links)) (λ reached full. leaves_links c.args.self.now c.wait.new.self c.wait.ensures.links))

pub returns-in_default-clause-right : goal.returns-in_default-clause-right
returns-in_default-clause-right c = unkept_right c.args.key c.args.self.now (unkept_none c.args.self.now.applications c.args.key (going_of c.args.key c.args.self.now) (search rules))

pub returns-in_default-message_kind-clause-right : goal.returns-in_default-message_kind-clause-right
returns-in_default-message_kind-clause-right c = deaf_right_on c.expel.result c.args.key c.expel.new.self c.expel.ensures.over

pub returns-in-false-default-clause-right : goal.returns-in-false-default-clause-right
returns-in-false-default-clause-right c = waits_right_on c.wait.result c.args.key c.args.self.now c.wait.new.self c.wait.ensures.holds (search rules)

pub returns-in-true-None-clause-right : goal.returns-in-true-None-clause-right
returns-in-true-None-clause-right c = held_right_on c.start.result c.args.key c.start.new.self c.start.ensures.placed

pub returns-then-may_keep_later-clause-right : goal.returns-then-may_keep_later-clause-right
returns-then-may_keep_later-clause-right c = c.may_keep_later.ensures.right (search rules)

pub returns-in_default-clause-anew : goal.returns-in_default-clause-anew
returns-in_default-clause-anew c = λ reached. anew_refl c.args.self.now

pub returns-in_default-message_kind-clause-anew : goal.returns-in_default-message_kind-clause-anew
returns-in_default-message_kind-clause-anew c = λ reached. anew_kept c.expel.result c.args.self.now c.expel.new.self c.expel.ensures.answers

pub returns-in-true-None-clause-anew : goal.returns-in-true-None-clause-anew
returns-in-true-None-clause-anew c = λ reached. anew_kept c.start.result c.args.self.now c.start.new.self c.start.ensures.answers

pub returns-then-may_keep_later-clause-anew : goal.returns-then-may_keep_later-clause-anew
returns-then-may_keep_later-clause-anew c = λ reached. anew_refl c.args.self.now

pub returns-else-may_keep_later-clause-anew : goal.returns-else-may_keep_later-clause-anew
returns-else-may_keep_later-clause-anew c = λ reached. c.renew.ensures.anew reached

pub returns-in-true-Some-Full-clause-anew : goal.returns-in-true-Some-Full-clause-anew
returns-in-true-Some-Full-clause-anew c = λ reached. anew_kept c.change.result c.args.self.now c.change.new.self c.change.ensures.answers

pub returns-in-false-default-clause-anew : goal.returns-in-false-default-clause-anew
returns-in-false-default-clause-anew c = λ reached. anew_kept c.wait.result c.args.self.now c.wait.new.self (answers_unchanged c.wait.result c.args.self.now.links.items c.wait.new.self.links.items (ok_if c.wait.result _ c.wait.ensures.links))

-- ---- It is to be closed already

pub returns-then-is_over-clause-kept : goal.returns-then-is_over-clause-kept
returns-then-is_over-clause-kept c = queues_kept c.args.self.now.applications c.args.key c.in-Some.application.now c.in-Some.application.now c.in-Some.ensures.value refl

pub returns-then-is_over-clause-moves : goal.returns-then-is_over-clause-moves
returns-then-is_over-clause-moves c = λ asks begun from h. moves_same (Application c.args.key) from _ _ _ _ refl (ends_kept c.args.self.now.applications c.args.key c.in-Some.application.now c.in-Some.application.now c.in-Some.ensures.value refl) h

pub returns-then-is_over-clause-underway : goal.returns-then-is_over-clause-underway
returns-then-is_over-clause-underway c =
    let s = with_value c.args.self.now.applications c.args.key c.in-Some.application.now in
    of_over false _ c.args.key (pool_in c.args.self.now.pool) s c.in-Some.application.now (sym (written_there c.args.self.now.applications c.args.key c.in-Some.application.now c.in-Some.application.now c.in-Some.ensures.value)) (sym c.is_over.ensures ∙ c.if-is_over.true)

pub returns-then-is_over-clause-body : goal.returns-then-is_over-clause-body
returns-then-is_over-clause-body c =
    let s = with_value c.args.self.now.applications c.args.key c.in-Some.application.now in
    let its : Some c.in-Some.application.now ≡ get s c.args.key = sym (written_there c.args.self.now.applications c.args.key c.in-Some.application.now c.in-Some.application.now c.in-Some.ensures.value) in
    (Closed, Refuses, shut_starts s c.args.key Closed (going_of c.args.key c.args.self.now) (over_deaf c.args.key s c.in-Some.application.now its (sym c.is_over.ensures ∙ c.if-is_over.true)))

pub returns-then-is_over-clause-closes : goal.returns-then-is_over-clause-closes
returns-then-is_over-clause-closes c = closes_kept _ _ _ (ends_kept c.args.self.now.applications c.args.key c.in-Some.application.now c.in-Some.application.now c.in-Some.ensures.value refl) (queues_kept c.args.self.now.applications c.args.key c.in-Some.application.now c.in-Some.application.now c.in-Some.ensures.value refl) refl (kept_refl c.args.self.now.links.items) (unclosed _ _ refl)

pub returns-then-is_over-clause-others : goal.returns-then-is_over-clause-others
returns-then-is_over-clause-others c = λ reached. written_rest c.args.key _ c.args.self.now _ refl refl refl

pub returns-then-is_over-clause-aside : goal.returns-then-is_over-clause-aside
returns-then-is_over-clause-aside c = λ reached. aside_refl c.args.key c.args.self.now

pub returns-then-is_over-clause-puts : goal.returns-then-is_over-clause-puts
returns-then-is_over-clause-puts c =
    let r = c.args.self.now in
    let s = with_value r.applications c.args.key c.in-Some.application.now in
    let its : Some c.in-Some.application.now ≡ get s c.args.key = sym (written_there r.applications c.args.key c.in-Some.application.now c.in-Some.application.now c.in-Some.ensures.value) in
    begins_shut _ c.args.kind c.args.reset (standing_in c.args.key r) (standing_in c.args.key (record r { applications = s })) (shut s c.args.key (going_of c.args.key r) (over_deaf c.args.key s c.in-Some.application.now its (sym c.is_over.ensures ∙ c.if-is_over.true)))
    (λ reached full. leaves_links r r refl)

pub returns-then-is_over-clause-right : goal.returns-then-is_over-clause-right
returns-then-is_over-clause-right c =
    let r = c.args.self.now in
    let s = with_value r.applications c.args.key c.in-Some.application.now in
    let its : Some c.in-Some.application.now ≡ get s c.args.key = sym (written_there r.applications c.args.key c.in-Some.application.now c.in-Some.application.now c.in-Some.ensures.value) in
    unkept_right c.args.key (record r { applications = s }) (unkept_over s c.args.key c.in-Some.application.now (going_of c.args.key r) its (sym c.is_over.ensures ∙ c.if-is_over.true))

pub returns-in_default-clause-awaits : goal.returns-in_default-clause-awaits
returns-in_default-clause-awaits c = tend_refl (pool_in c.args.self.now.pool) c.args.self.now.links.items

pub returns-then-is_over-clause-awaits : goal.returns-then-is_over-clause-awaits
returns-then-is_over-clause-awaits c = tend_refl (pool_in c.args.self.now.pool) c.args.self.now.links.items

pub returns-then-may_keep_later-clause-awaits : goal.returns-then-may_keep_later-clause-awaits
returns-then-may_keep_later-clause-awaits c = tend_refl (pool_in c.args.self.now.pool) c.args.self.now.links.items

pub returns-in-false-default-clause-awaits : goal.returns-in-false-default-clause-awaits
returns-in-false-default-clause-awaits c =
    tend_waits_at c.wait.result c.args.key (pool_in c.args.self.now.pool) (pool_in c.wait.new.self.pool) c.args.self.now.links.items c.wait.new.self.links.items c.wait.ensures.goes c.wait.ensures.links

pub returns-in-true-None-clause-awaits : goal.returns-in-true-None-clause-awaits
returns-in-true-None-clause-awaits c =
    tend_kept_at c.start.result c.args.key c.args.self.now.pool c.start.new.self.pool c.args.self.now.links.items c.start.new.self.links.items
    (none_led c.start.result (pool_in c.args.self.now.pool) (pool_in c.start.new.self.pool) c.start.ensures.goes) (returns-in-true-None-clause-aside c)

pub returns-in_default-message_kind-clause-awaits : goal.returns-in_default-message_kind-clause-awaits
returns-in_default-message_kind-clause-awaits c = c.expel.ensures.awaits

pub returns-else-may_keep_later-clause-awaits : goal.returns-else-may_keep_later-clause-awaits
returns-else-may_keep_later-clause-awaits c = c.renew.ensures.awaits

pub returns-in-true-Some-Full-clause-awaits : goal.returns-in-true-Some-Full-clause-awaits
returns-in-true-Some-Full-clause-awaits c = c.change.ensures.awaits

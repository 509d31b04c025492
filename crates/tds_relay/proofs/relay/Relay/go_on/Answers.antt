use Rattle.std.proofs.Common.{ap, refl, ◌≡◌, ◌∙◌, Option, rules, subst, sym, false, ℕ}
use Rattle.tds_relay.specs.declared.state.Asking.TheVariants as asking
use Rattle.tds_relay.specs.Fronts.{ends_in}
use Rattle.tds_relay.specs.Core.{EndList, change_end, closes, end_at, IfOpen, IsBegun}
use Rattle.tds_relay.specs.Reasons.{CannotGoOn, CannotPut, ItselfFor, room_left, IsUnbegun}
use Rattle.tds_relay.proofs.spared.Turned.{turned_goes}
use Rattle.tds_relay.proofs.spared.Reasons.{for_reason, for_that, nothing_goes, put_goes, too_long, unbegun_goes}
use Rattle.tds_relay.specs.Ties.{Application, pool_in}
use Rattle.tds_relay.proofs.steps.Fronts.{ends_kept, moves_closes, moves_same}
use Rattle.tds_relay.proofs.steps.Reaching.{ok_if, ok_more}
use Rattle.tds_relay.specs.Bodies.{Closed, Shuts, Stays, body_of, going_of, standing_in}
use Rattle.slab.specs.Slab.{get, with_value}
use Rattle.tds_relay.proofs.steps.Bodied.{none_closed, shut_starts, shut}
use Rattle.tds_relay.proofs.steps.Going.{grows_going, grows_kept, grows_then}
use Rattle.tds_relay.proofs.steps.Underway.{written_there}
use Rattle.tds_relay.proofs.steps.Queueing.{queues_kept}
use Rattle.tds_relay.specs.Closings.{Itself}
use Rattle.tds_relay.proofs.spared.Closings.{closes_on}
use Rattle.tds_relay.proofs.spared.Sending.{kept_refl}
use Rattle.tds_relay.proofs.spared.Shutting.{closes_kept, unclosed}
use Rattle.tds_relay.specs.declared.application.Application.{Application as AnApplication}
use Rattle.tds_relay.specs.Waiting.{KeepsInLine}
use Rattle.tds_relay.proofs.spared.Lined.{fits_not, goes_waits, kept_more, no_application, nothing_waits, begun_not}
use Rattle.tds_relay.proofs.lending.Resting.{others_on, others_refl, written_rest}
use Rattle.tds_relay.proofs.steps.Fed.{end_there}
use Rattle.tds_relay.proofs.spared.Elsewhere.{aside_refl, keeps_own}
use Rattle.tds_relay.specs.Reads.{waits_on}
use Rattle.tds_relay.proofs.steps.Still.{none_shut, put_going, put_shut}
use Rattle.tds_relay.proofs.spared.Rightly.{deaf_right_on, unkept_right}
use Rattle.tds_relay.proofs.spared.Starting.{put_unkept_on, unkept_none}
use Rattle.tds_relay.proofs.lending.Tending.{none_led, tend_kept_at, tend_refl}
use Rattle.tds_relay.proofs.relay.Relay.go_on.Goals as goal
use Rattle.tds_relay.specs.Places.{own_asking}

pub returns-then-not-branch-clause-moves : goal.returns-then-not-branch-clause-moves
returns-then-not-branch-clause-moves c =
    ok_more c.expel-then-not-branch.result _ _
    (λ m from h. m from (moves_closes (Application c.args.key) from _ _ _ _ c.args.key refl
    (ap (change_end c.args.key closes) (ends_kept c.args.self.now.applications c.args.key c.in-Some.application.now _ c.in-Some.ensures.value c.keep.ensures.end)) h))
    c.expel-then-not-branch.ensures.moves

pub returns-in-Nothing-clause-moves : goal.returns-in-Nothing-clause-moves
returns-in-Nothing-clause-moves c =
    ok_more c.expel.result _ _
    (λ m from h. m from (moves_closes (Application c.args.key) from _ _ _ _ c.args.key refl
    (ap (change_end c.args.key closes) (ends_kept c.args.self.now.applications c.args.key c.in-Some.application.now _ c.in-Some.ensures.value refl)) h))
    c.expel.ensures.moves

pub returns-in_default-clause-body : goal.returns-in_default-clause-body
returns-in_default-clause-body c = (Closed, Shuts, none_closed c.args.self.now.applications c.args.key (going_of c.args.key c.args.self.now) (search rules))

pub returns-in-Nothing-clause-body : goal.returns-in-Nothing-clause-body
returns-in-Nothing-clause-body c = ok_more c.expel.result _ _ (λ d. (Closed, Shuts, shut_starts c.expel.new.self.applications c.args.key Closed (going_of c.args.key c.expel.new.self) d)) c.expel.ensures.over

pub returns-then-not-branch-clause-body : goal.returns-then-not-branch-clause-body
returns-then-not-branch-clause-body c = ok_more c.expel-then-not-branch.result _ _ (λ d. (Closed, Shuts, shut_starts c.expel-then-not-branch.new.self.applications c.args.key Closed (going_of c.args.key c.expel-then-not-branch.new.self) d)) c.expel-then-not-branch.ensures.over

pub returns-else-not-branch-clause-body : goal.returns-else-not-branch-clause-body
returns-else-not-branch-clause-body c =
    let s = c.args.self.now.applications in
    let a = c.in-Some.application.now in
    let there = c.in-Some.ensures.value in
    let kept = c.in_ok-keep-in-Waits.ensures.keeps (search rules) _ _ (sym c.asking.ensures ∙ c.in-Waits.is) in
    ok_more c.seek.result _ _
    (λ t. grows_then c.args.whole c.args.bytes.now (body_of c.args.key c.args.self.now) _ (body_of c.args.key c.seek.new.self) t
    (grows_kept c.args.whole c.args.bytes.now (get s c.args.key) _ (going_of c.args.key c.args.self.now) _ a _ _ _ there (written_there s c.args.key a _ there) (sym c.asking.ensures ∙ c.in-Waits.is) kept.0 c.keep.ensures.over kept.1))
    c.seek.ensures.body

pub returns-in-Goes-clause-body : goal.returns-in-Goes-clause-body
returns-in-Goes-clause-body c =
    let s = c.args.self.now.applications in
    let a = c.in-Some.application.now in
    let asks : own_asking a ≡ asking.Goes = sym c.asking.ensures ∙ c.in-Goes.is in
    ok_more c.put.result _ _
    (λ p. (
      body_of c.args.key c.put.new.self,
      grows_going c.args.whole c.args.bytes.now (get (with_value s c.args.key a) c.args.key) (get s c.args.key) (get c.put.new.self.applications c.args.key) (going_of c.args.key c.args.self.now) _ (going_of c.args.key c.put.new.self) a a
          c.in-Some.ensures.value (written_there s c.args.key a a c.in-Some.ensures.value) asks asks refl refl p,
      Stays,
    ))
    c.put.ensures.body

pub returns-in_default-clause-keeps : goal.returns-in_default-clause-keeps
returns-in_default-clause-keeps c = λ none. no_application c.args.whole c.args.bytes.now _ _ (search rules)

pub returns-in-Nothing-clause-keeps : goal.returns-in-Nothing-clause-keeps
returns-in-Nothing-clause-keeps c = λ none.
    ok_if c.expel.result _
    (subst (λ (o : Option AnApplication). KeepsInLine c.args.whole c.args.bytes.now o (body_of c.args.key c.expel.new.self)) c.in-Some.ensures.value
    (λ here fits kind was asks begun. absurd (nothing_waits (own_asking c.in-Some.application.now) kind was (search rules) asks)))

pub returns-in-Goes-clause-keeps : goal.returns-in-Goes-clause-keeps
returns-in-Goes-clause-keeps c = λ none.
    ok_if c.put.result _
    (subst (λ (o : Option AnApplication). KeepsInLine c.args.whole c.args.bytes.now o (body_of c.args.key c.put.new.self)) c.in-Some.ensures.value
    (λ here fits kind was asks begun. absurd (goes_waits (own_asking c.in-Some.application.now) kind was (search rules) asks)))

pub returns-then-not-branch-clause-keeps : goal.returns-then-not-branch-clause-keeps
returns-then-not-branch-clause-keeps c = λ none.
    ok_if c.expel-then-not-branch.result _
    (subst (λ (o : Option AnApplication). KeepsInLine c.args.whole c.args.bytes.now o (body_of c.args.key c.expel-then-not-branch.new.self)) c.in-Some.ensures.value
    (λ here fits kind was asks begun. absurd (fits_not _ _ (c.in_ok-keep-in-Waits.ensures.long (search rules)) fits)))

pub returns-else-not-branch-clause-keeps : goal.returns-else-not-branch-clause-keeps
returns-else-not-branch-clause-keeps c = λ none.
    let s = c.args.self.now.applications in
    let a = c.in-Some.application.now in
    let there = c.in-Some.ensures.value in
    let kept = c.in_ok-keep-in-Waits.ensures.keeps (search rules) _ _ (sym c.asking.ensures ∙ c.in-Waits.is) in
    ok_more c.seek.result _ _
    (λ same. subst (λ (o : Option AnApplication). KeepsInLine c.args.whole c.args.bytes.now o (body_of c.args.key c.seek.new.self)) there
    (λ here fits kind was asks begun. same ∙ kept_more _ a _ _ _ kind _ was c.args.whole c.args.bytes.now (written_there s c.args.key a _ there) here (sym c.asking.ensures ∙ c.in-Waits.is) asks kept.0 c.keep.ensures.over kept.1))
    (c.seek.ensures.stays none)

pub returns-in-Nothing-clause-closes : goal.returns-in-Nothing-clause-closes
returns-in-Nothing-clause-closes c = for_reason c.expel.result c.args.key _ _ _
    (nothing_goes c.args.whole c.args.bytes.now c.args.key _ _ c.args.self.now.pool c.args.self.now.links.items (get c.args.self.now.applications c.args.key) c.in-Some.application.now (going_of c.args.key c.args.self.now) c.in-Some.ensures.value (search rules))
    (closes_on c.expel.result (Itself c.args.key) _ _ _ c.expel.ensures.closes
    (closes_kept (Itself c.args.key) _ _ (ends_kept c.args.self.now.applications c.args.key c.in-Some.application.now c.in-Some.application.now c.in-Some.ensures.value refl) (queues_kept c.args.self.now.applications c.args.key c.in-Some.application.now c.in-Some.application.now c.in-Some.ensures.value refl) refl (kept_refl c.args.self.now.links.items) (unclosed _ _ refl)))

pub returns-then-not-branch-clause-closes : goal.returns-then-not-branch-clause-closes
returns-then-not-branch-clause-closes c = for_reason c.expel-then-not-branch.result c.args.key _ _ _
    (too_long c.args.whole c.args.bytes.now c.args.key _ c.args.self.now.pool c.args.self.now.links.items (get c.args.self.now.applications c.args.key) c.in-Some.application.now (going_of c.args.key c.args.self.now) _ _ c.in-Some.ensures.value (sym c.asking.ensures ∙ c.in-Waits.is) (c.in_ok-keep-in-Waits.ensures.long (search rules)))
    (closes_on c.expel-then-not-branch.result (Itself c.args.key) _ _ _ c.expel-then-not-branch.ensures.closes
    (closes_kept (Itself c.args.key) _ _ (ends_kept c.args.self.now.applications c.args.key c.in-Some.application.now c.keep.new.self c.in-Some.ensures.value c.keep.ensures.end) (queues_kept c.args.self.now.applications c.args.key c.in-Some.application.now c.keep.new.self c.in-Some.ensures.value c.keep.ensures.queue) refl (kept_refl c.args.self.now.links.items) (unclosed _ _ refl)))

pub returns-else-not-branch-clause-closes : goal.returns-else-not-branch-clause-closes
returns-else-not-branch-clause-closes c =
    let whole = c.args.whole in
    let key = c.args.key in
    let a = c.in-Some.application.now in
    let b = c.keep.new.self in
    let s = c.args.self.now.applications in
    let r = c.args.self.now in
    let same = ends_kept s key a b c.in-Some.ensures.value c.keep.ensures.end in
    let kept = c.in_ok-keep-in-Waits.ensures.keeps (search rules) _ _ (sym c.asking.ensures ∙ c.in-Waits.is) in
    closes_on c.seek.result (ItselfFor key (CannotGoOn whole c.args.bytes.now key (end_at (ends_in s) key) (room_left (get s key)) r.pool r.links.items (body_of key r))) _ _ _
    (for_that c.seek.result key _ _ _ _
    (λ why. subst (λ (es : EndList). CannotGoOn whole c.args.bytes.now key (end_at es key) (room_left (get s key)) r.pool r.links.items (body_of key r)) same
    (turned_goes whole _ c.args.bytes.now key _ _ r.pool r.links.items (get s key) (get (with_value s key b) key) a b (going_of key r) _ _ c.in-Some.ensures.value (written_there s key a b c.in-Some.ensures.value) (sym c.asking.ensures ∙ c.in-Waits.is) c.keep.ensures.over kept.1
    kept.0 why)) c.seek.ensures.closes)
    (closes_kept _ _ _ same (queues_kept s key a b c.in-Some.ensures.value c.keep.ensures.queue) refl (kept_refl r.links.items) (unclosed _ _ refl))

pub returns-in-Goes-clause-closes : goal.returns-in-Goes-clause-closes
returns-in-Goes-clause-closes c =
    let whole = c.args.whole in
    let a = c.in-Some.application.now in
    let s = c.args.self.now.applications in
    let same = ends_kept s c.args.key a a c.in-Some.ensures.value refl in
    closes_on c.put.result (ItselfFor c.args.key (CannotGoOn whole c.args.bytes.now c.args.key (end_at (ends_in s) c.args.key) (room_left (get s c.args.key)) c.args.self.now.pool c.args.self.now.links.items (body_of c.args.key c.args.self.now))) _ _ _
    (for_that c.put.result c.args.key _ _ _ _
    (λ why. put_goes whole c.args.bytes.now c.args.key _ _ c.args.self.now.pool c.args.self.now.links.items (get s c.args.key) a c.in-Some.ensures.value (search rules)
    (subst (λ (es : EndList). CannotPut whole c.args.bytes.now c.args.key (end_at es c.args.key) c.args.self.now.pool c.args.self.now.links.items) same why)) c.put.ensures.closes)
    (closes_kept _ _ _ (ends_kept c.args.self.now.applications c.args.key c.in-Some.application.now c.in-Some.application.now c.in-Some.ensures.value refl) (queues_kept c.args.self.now.applications c.args.key c.in-Some.application.now c.in-Some.application.now c.in-Some.ensures.value refl) refl (kept_refl c.args.self.now.links.items) (unclosed _ _ refl))

pub returns-in_default-clause-others : goal.returns-in_default-clause-others
returns-in_default-clause-others c = λ reached. others_refl c.args.key c.args.self.now

pub returns-in-Nothing-clause-others : goal.returns-in-Nothing-clause-others
returns-in-Nothing-clause-others c = λ reached. others_on c.expel.result c.args.key c.args.self.now _ c.expel.new.self (c.expel.ensures.others reached) (written_rest c.args.key _ c.args.self.now _ refl refl refl)

pub returns-then-not-branch-clause-others : goal.returns-then-not-branch-clause-others
returns-then-not-branch-clause-others c = λ reached. others_on c.expel-then-not-branch.result c.args.key c.args.self.now _ c.expel-then-not-branch.new.self (c.expel-then-not-branch.ensures.others reached) (written_rest c.args.key _ c.args.self.now _ refl refl refl)

pub returns-else-not-branch-clause-others : goal.returns-else-not-branch-clause-others
returns-else-not-branch-clause-others c = λ reached. others_on c.seek.result c.args.key c.args.self.now _ c.seek.new.self (c.seek.ensures.others reached) (written_rest c.args.key _ c.args.self.now _ refl refl refl)

pub returns-in-Goes-clause-others : goal.returns-in-Goes-clause-others
returns-in-Goes-clause-others c = λ reached. others_on c.put.result c.args.key c.args.self.now _ c.put.new.self (c.put.ensures.others reached) (written_rest c.args.key _ c.args.self.now _ refl refl refl)

pub returns-then-not-may_put-clause-moves : goal.returns-then-not-may_put-clause-moves
returns-then-not-may_put-clause-moves c =
    ok_more c.expel-then-not-may_put.result _ _
    (λ m from h. m from (moves_closes (Application c.args.key) from _ _ _ _ c.args.key refl
    (ap (change_end c.args.key closes) (ends_kept c.args.self.now.applications c.args.key c.in-Some.application.now _ c.in-Some.ensures.value refl)) h))
    c.expel-then-not-may_put.ensures.moves

pub returns-else-not-branch-clause-moves : goal.returns-else-not-branch-clause-moves
returns-else-not-branch-clause-moves c =
    let kept = ends_kept c.args.self.now.applications c.args.key c.in-Some.application.now _ c.in-Some.ensures.value c.keep.ensures.end in
    let begun : IfOpen IsBegun (end_at (ends_in c.args.self.now.applications) c.args.key) = subst (IfOpen IsBegun) (sym (end_there c.args.self.now.applications c.args.key c.in-Some.application.now c.in-Some.ensures.value)) (c.may_put.ensures.begun (search rules)) in
    ok_more c.seek.result _ _ (λ m from h. m (subst (λ (es : EndList). IfOpen IsBegun (end_at es c.args.key)) (sym kept) begun) from (moves_same (Application c.args.key) from _ _ _ _ refl kept h)) c.seek.ensures.moves

pub returns-then-not-may_put-clause-body : goal.returns-then-not-may_put-clause-body
returns-then-not-may_put-clause-body c = ok_more c.expel-then-not-may_put.result _ _ (λ d. (Closed, Shuts, shut_starts c.expel-then-not-may_put.new.self.applications c.args.key Closed (going_of c.args.key c.expel-then-not-may_put.new.self) d)) c.expel-then-not-may_put.ensures.over

pub returns-then-not-may_put-clause-others : goal.returns-then-not-may_put-clause-others
returns-then-not-may_put-clause-others c = λ reached. others_on c.expel-then-not-may_put.result c.args.key c.args.self.now _ c.expel-then-not-may_put.new.self (c.expel-then-not-may_put.ensures.others reached) (written_rest c.args.key _ c.args.self.now _ refl refl refl)

pub returns-then-not-may_put-clause-closes : goal.returns-then-not-may_put-clause-closes
returns-then-not-may_put-clause-closes c = for_reason c.expel-then-not-may_put.result c.args.key _ _ _
    (unbegun_goes c.args.whole c.args.bytes.now c.args.key _ _ c.args.self.now.pool c.args.self.now.links.items (get c.args.self.now.applications c.args.key) c.in-Some.application.now (going_of c.args.key c.args.self.now) _ _ c.in-Some.ensures.value (sym c.asking.ensures ∙ c.in-Waits.is)
    (subst (IfOpen (IsUnbegun false)) (sym (end_there c.args.self.now.applications c.args.key c.in-Some.application.now c.in-Some.ensures.value)) (c.may_put.ensures.unbegun (search rules))))
    (closes_on c.expel-then-not-may_put.result (Itself c.args.key) _ _ _ c.expel-then-not-may_put.ensures.closes
    (closes_kept (Itself c.args.key) _ _ (ends_kept c.args.self.now.applications c.args.key c.in-Some.application.now c.in-Some.application.now c.in-Some.ensures.value refl) (queues_kept c.args.self.now.applications c.args.key c.in-Some.application.now c.in-Some.application.now c.in-Some.ensures.value refl) refl (kept_refl c.args.self.now.links.items) (unclosed _ _ refl)))

pub returns-then-not-may_put-clause-keeps : goal.returns-then-not-may_put-clause-keeps
returns-then-not-may_put-clause-keeps c = λ none.
    ok_if c.expel-then-not-may_put.result _
    (subst (λ (o : Option AnApplication). KeepsInLine c.args.whole c.args.bytes.now o (body_of c.args.key c.expel-then-not-may_put.new.self)) c.in-Some.ensures.value
    (λ here fits kind was asks begun. absurd (begun_not c.in-Some.application.now here begun (c.may_put.ensures.unbegun (search rules)))))

pub returns-in_default-clause-aside : goal.returns-in_default-clause-aside
returns-in_default-clause-aside c = λ reached. aside_refl c.args.key c.args.self.now

pub returns-in-Nothing-clause-aside : goal.returns-in-Nothing-clause-aside
returns-in-Nothing-clause-aside c = λ reached. c.expel.ensures.aside reached

pub returns-then-not-branch-clause-aside : goal.returns-then-not-branch-clause-aside
returns-then-not-branch-clause-aside c = λ reached. c.expel-then-not-branch.ensures.aside reached

pub returns-else-not-branch-clause-aside : goal.returns-else-not-branch-clause-aside
returns-else-not-branch-clause-aside c = λ reached. c.seek.ensures.aside reached

pub returns-then-not-may_put-clause-aside : goal.returns-then-not-may_put-clause-aside
returns-then-not-may_put-clause-aside c = λ reached. c.expel-then-not-may_put.ensures.aside reached

pub returns-in-Goes-clause-aside : goal.returns-in-Goes-clause-aside
returns-in-Goes-clause-aside c = λ reached. keeps_own c.put.result c.args.key c.args.self.now.pool.holds.items c.put.new.self.pool.holds.items c.args.self.now.links.items c.put.new.self.links.items (c.put.ensures.own reached)

pub returns-in_default-clause-puts : goal.returns-in_default-clause-puts
returns-in_default-clause-puts c = (Closed, Shuts, put_shut _ Closed (standing_in c.args.key c.args.self.now) (none_shut c.args.self.now.applications c.args.key (going_of c.args.key c.args.self.now) (search rules)))

pub returns-in-Nothing-clause-puts : goal.returns-in-Nothing-clause-puts
returns-in-Nothing-clause-puts c = ok_more c.expel.result _ _ (λ d. (Closed, Shuts, put_shut _ Closed (standing_in c.args.key c.expel.new.self) (shut c.expel.new.self.applications c.args.key (going_of c.args.key c.expel.new.self) d))) c.expel.ensures.over

pub returns-then-not-branch-clause-puts : goal.returns-then-not-branch-clause-puts
returns-then-not-branch-clause-puts c = ok_more c.expel-then-not-branch.result _ _ (λ d. (Closed, Shuts, put_shut _ Closed (standing_in c.args.key c.expel-then-not-branch.new.self) (shut c.expel-then-not-branch.new.self.applications c.args.key (going_of c.args.key c.expel-then-not-branch.new.self) d))) c.expel-then-not-branch.ensures.over

pub returns-then-not-may_put-clause-puts : goal.returns-then-not-may_put-clause-puts
returns-then-not-may_put-clause-puts c = ok_more c.expel-then-not-may_put.result _ _ (λ d. (Closed, Shuts, put_shut _ Closed (standing_in c.args.key c.expel-then-not-may_put.new.self) (shut c.expel-then-not-may_put.new.self.applications c.args.key (going_of c.args.key c.expel-then-not-may_put.new.self) d))) c.expel-then-not-may_put.ensures.over

pub returns-else-not-branch-clause-puts : goal.returns-else-not-branch-clause-puts
returns-else-not-branch-clause-puts c =
    let s = c.args.self.now.applications in
    let a = c.in-Some.application.now in
    let there = c.in-Some.ensures.value in
    let kept = c.in_ok-keep-in-Waits.ensures.keeps (search rules) _ _ (sym c.asking.ensures ∙ c.in-Waits.is) in
    ok_more c.seek.result _ _
    (λ t. (
      _,
      grows_kept c.args.whole c.args.bytes.now (get s c.args.key) _ (going_of c.args.key c.args.self.now) _ a _ _ _ there (written_there s c.args.key a _ there) (sym c.asking.ensures ∙ c.in-Waits.is) kept.0 c.keep.ensures.over kept.1,
      t,
    ))
    c.seek.ensures.puts

pub returns-in-Goes-clause-puts : goal.returns-in-Goes-clause-puts
returns-in-Goes-clause-puts c =
    let s = c.args.self.now.applications in
    let a = c.in-Some.application.now in
    let asks : own_asking a ≡ asking.Goes = sym c.asking.ensures ∙ c.in-Goes.is in
    ok_more c.put.result _ _
    (λ p. (
      body_of c.args.key c.put.new.self,
      grows_going c.args.whole c.args.bytes.now (get (with_value s c.args.key a) c.args.key) (get s c.args.key) (get c.put.new.self.applications c.args.key) (going_of c.args.key c.args.self.now) _ (going_of c.args.key c.put.new.self) a a
          c.in-Some.ensures.value (written_there s c.args.key a a c.in-Some.ensures.value) asks asks refl refl p,
      put_going _ (λ (number : ℕ). waits_on number c.args.self.now.links.items) c.args.key s a a c.put.new.self c.in-Some.ensures.value (λ here. asks) p,
    ))
    c.put.ensures.body

pub returns-in_default-clause-right : goal.returns-in_default-clause-right
returns-in_default-clause-right c = unkept_right c.args.key c.args.self.now (unkept_none c.args.self.now.applications c.args.key (going_of c.args.key c.args.self.now) (search rules))

pub returns-in-Nothing-clause-right : goal.returns-in-Nothing-clause-right
returns-in-Nothing-clause-right c = deaf_right_on c.expel.result c.args.key c.expel.new.self c.expel.ensures.over

pub returns-then-not-may_put-clause-right : goal.returns-then-not-may_put-clause-right
returns-then-not-may_put-clause-right c = deaf_right_on c.expel-then-not-may_put.result c.args.key c.expel-then-not-may_put.new.self c.expel-then-not-may_put.ensures.over

pub returns-then-not-branch-clause-right : goal.returns-then-not-branch-clause-right
returns-then-not-branch-clause-right c = deaf_right_on c.expel-then-not-branch.result c.args.key c.expel-then-not-branch.new.self c.expel-then-not-branch.ensures.over

pub returns-in-Goes-clause-right : goal.returns-in-Goes-clause-right
returns-in-Goes-clause-right c =
    ok_more c.put.result _ _ (λ un. unkept_right c.args.key c.put.new.self un)
    (put_unkept_on c.put.result _ c.args.key c.args.self.now.applications c.in-Some.application.now c.in-Some.application.now c.put.new.self c.put.ensures.body c.in-Some.ensures.value (λ here. sym c.asking.ensures ∙ c.in-Goes.is))

pub returns-in_default-clause-awaits : goal.returns-in_default-clause-awaits
returns-in_default-clause-awaits c = tend_refl (pool_in c.args.self.now.pool) c.args.self.now.links.items

pub returns-in-Goes-clause-awaits : goal.returns-in-Goes-clause-awaits
returns-in-Goes-clause-awaits c =
    tend_kept_at c.put.result c.args.key c.args.self.now.pool c.put.new.self.pool c.args.self.now.links.items c.put.new.self.links.items
    (none_led c.put.result (pool_in c.args.self.now.pool) (pool_in c.put.new.self.pool) c.put.ensures.goes) (returns-in-Goes-clause-aside c)

pub returns-in-Nothing-clause-awaits : goal.returns-in-Nothing-clause-awaits
returns-in-Nothing-clause-awaits c = c.expel.ensures.awaits

pub returns-then-not-branch-clause-awaits : goal.returns-then-not-branch-clause-awaits
returns-then-not-branch-clause-awaits c = c.expel-then-not-branch.ensures.awaits

pub returns-else-not-branch-clause-awaits : goal.returns-else-not-branch-clause-awaits
returns-else-not-branch-clause-awaits c = c.seek.ensures.awaits

pub returns-then-not-may_put-clause-awaits : goal.returns-then-not-may_put-clause-awaits
returns-then-not-may_put-clause-awaits c = c.expel-then-not-may_put.ensures.awaits

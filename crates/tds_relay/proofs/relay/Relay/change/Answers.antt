use Rattle.std.proofs.Common.{inr, refl, rules, subst, sym}
use Rattle.tds_relay.specs.Ties.{Application, pool_in}
use Rattle.tds_relay.specs.Pool.{find_key}
use Rattle.std.specs.Prelude.{IsSome}
use Rattle.tds_relay.proofs.steps.Fronts.{moves_closes, moves_lets_go, open_any}
use Rattle.tds_relay.proofs.steps.Reaching.{ok_if, ok_more, reaches_left}
use Rattle.tds_relay.proofs.steps.Staying.{stays_on, stays_same}
use Rattle.tds_relay.specs.Asking.{Closes}
use Rattle.tds_relay.proofs.bytes.Calls.{stand_on}
use Rattle.tds_relay.specs.Bodies.{body_of, going_of}
use Rattle.slab.specs.Slab.{get}
use Rattle.tds_relay.proofs.steps.Bodied.{shut}
use Rattle.tds_relay.proofs.steps.Going.{waits_spared}
use Rattle.tds_relay.specs.Closings.{Itself, NoKey}
use Rattle.tds_relay.specs.Reasons.{Held, Out}
use Rattle.tds_relay.proofs.spared.Reasons.{for_reason}
use Rattle.tds_relay.proofs.spared.Closings.{closes_both, closes_first, closes_nobody}
use Rattle.tds_relay.proofs.spared.Speaking.{reached_left, waited_rest}
use Rattle.tds_relay.proofs.lending.Resting.{others_on}
use Rattle.tds_relay.specs.Core.{EndList, IfOpen, IsBegun, end_at}
use Rattle.tds_relay.specs.Fronts.{ends_in}
use Rattle.tds_relay.proofs.steps.Quieting.{open_lets_go}
use Rattle.tds_relay.proofs.spared.Elsewhere.{aside_on, aside_waits}
use Rattle.tds_relay.proofs.spared.Rightly.{deaf_right_on, waits_right_on}
use Rattle.tds_relay.proofs.spared.Begun.{answers_on, answers_then}
use Rattle.tds_relay.proofs.lending.Tending.{tend_on, tend_waits}
use Rattle.tds_relay.proofs.lending.Parting.{ends_both, ends_then, leaves_both, leaves_of, leaves_then}
use Rattle.tds_relay.proofs.relay.Relay.change.Goals as goal

pub returns-then-not-has_nothing_out-clause-moves : goal.returns-then-not-has_nothing_out-clause-moves
returns-then-not-has_nothing_out-clause-moves c = ok_more c.expel.result _ _ (λ m asks begun held from h. m from (moves_closes (Application c.args.key) from _ _ _ _ c.args.key refl refl h)) c.expel.ensures.moves

pub returns-clause-goes : goal.returns-clause-goes
returns-clause-goes c = ok_more c.wait.result _ _ (λ g from h. g (Application c.args.key) refl from (reaches_left c.args.key from _ _ c.in_ok-release.ensures.leaving h)) c.wait.ensures.goes

pub returns-clause-moves : goal.returns-clause-moves
returns-clause-moves c =
    ok_more c.wait.result _ _
    (λ m asks begun held from h. m (Application c.args.key) refl
    (subst (λ (es : EndList). IfOpen IsBegun (end_at es c.args.key)) (sym c.in_ok-release.ensures.fronts) (open_lets_go IsBegun (ends_in c.args.self.now.applications) c.args.key begun)) from (moves_lets_go c.args.key from _ _ _ ((c.has_nothing_out.ensures.here (search rules), asks), open_any (IsSome (find_key c.args.key (pool_in c.args.self.now.pool).holds)) (end_at (ends_in c.args.self.now.applications) c.args.key) held) c.in_ok-release.ensures.lets_go h))
    c.wait.ensures.moves

pub returns-clause-read : goal.returns-clause-read
returns-clause-read c = stays_same c.wait.result _ _ _ c.in_ok-release.ensures.read (ok_if c.wait.result _ c.wait.ensures.links)

pub returns-then-not-has_nothing_out-clause-underway : goal.returns-then-not-has_nothing_out-clause-underway
returns-then-not-has_nothing_out-clause-underway c = ok_more c.expel.result _ _ (λ d whole. Closes d) c.expel.ensures.over

pub returns-then-is_some-clause-goes : goal.returns-then-is_some-clause-goes
returns-then-is_some-clause-goes c = ok_more c.expel-then-is_some.result _ _ (λ g from h. g from (reaches_left c.args.key from _ _ c.in_ok-release.ensures.leaving h)) c.expel-then-is_some.ensures.goes

pub returns-then-is_some-clause-moves : goal.returns-then-is_some-clause-moves
returns-then-is_some-clause-moves c =
    ok_more c.expel-then-is_some.result _ _
    (λ m asks begun held from h. m from (moves_closes (Application c.args.key) from _ _ _ _ c.args.key refl refl (moves_lets_go c.args.key from _ _ _ ((c.has_nothing_out.ensures.here (search rules), asks), open_any (IsSome (find_key c.args.key (pool_in c.args.self.now.pool).holds)) (end_at (ends_in c.args.self.now.applications) c.args.key) held) c.in_ok-release.ensures.lets_go h)))
    c.expel-then-is_some.ensures.moves

pub returns-then-is_some-clause-underway : goal.returns-then-is_some-clause-underway
returns-then-is_some-clause-underway c = ok_more c.expel-then-is_some.result _ _ (λ d whole. Closes d) c.expel-then-is_some.ensures.over

pub returns-then-is_some-clause-read : goal.returns-then-is_some-clause-read
returns-then-is_some-clause-read c = stays_on c.expel-then-is_some.result _ _ _ c.in_ok-release.ensures.read c.expel-then-is_some.ensures.read

pub returns-clause-underway : goal.returns-clause-underway
returns-clause-underway c = c.wait.ensures.underway (search rules)

pub returns-clause-stand : goal.returns-clause-stand
returns-clause-stand c = stand_on c.wait.result _ _ _ c.in_ok-release.ensures.stand c.wait.ensures.stand

pub returns-then-is_some-clause-stand : goal.returns-then-is_some-clause-stand
returns-then-is_some-clause-stand c = stand_on c.expel-then-is_some.result _ _ _ c.in_ok-release.ensures.stand c.expel-then-is_some.ensures.stand

pub returns-then-not-has_nothing_out-clause-body : goal.returns-then-not-has_nothing_out-clause-body
returns-then-not-has_nothing_out-clause-body c = λ whole waits. ok_more c.expel.result _ _ (λ d. inr (shut c.expel.new.self.applications c.args.key (going_of c.args.key c.expel.new.self) d)) c.expel.ensures.over

pub returns-then-is_some-clause-body : goal.returns-then-is_some-clause-body
returns-then-is_some-clause-body c = λ whole waits. ok_more c.expel-then-is_some.result _ _ (λ d. inr (shut c.expel-then-is_some.new.self.applications c.args.key (going_of c.args.key c.expel-then-is_some.new.self) d)) c.expel-then-is_some.ensures.over

pub returns-clause-body : goal.returns-clause-body
returns-clause-body c = λ whole waits.
    ok_if c.wait.result _ (waits_spared (get c.args.self.now.applications c.args.key) (get c.release.new.self.applications c.args.key) whole (going_of c.args.key c.args.self.now) (going_of c.args.key c.release.new.self) (body_of c.args.key c.wait.new.self) waits
    (c.in_ok-release.ensures.asks c.args.key (going_of c.args.key c.release.new.self)) (c.wait.ensures.body c.args.key))

pub returns-then-not-has_nothing_out-clause-closes : goal.returns-then-not-has_nothing_out-clause-closes
returns-then-not-has_nothing_out-clause-closes c = for_reason c.expel.result c.args.key _ _ _ (Out (c.has_nothing_out.ensures.out (search rules))) c.expel.ensures.closes

pub returns-then-is_some-clause-closes : goal.returns-then-is_some-clause-closes
returns-then-is_some-clause-closes c = for_reason c.expel-then-is_some.result c.args.key _ _ _ (Held c.release.new.self.pool c.in_ok-release.ensures.leaving (search rules))
    (closes_first c.expel-then-is_some.result (Itself c.args.key) _ _ _ c.expel-then-is_some.ensures.closes c.in_ok-release.ensures.closes)

pub returns-clause-closes : goal.returns-clause-closes
returns-clause-closes c = ok_if c.wait.result _ (closes_nobody _ _ _ (closes_both NoKey _ _ _ c.in_ok-release.ensures.closes c.wait.ensures.closes))

pub returns-clause-seated : goal.returns-clause-seated
returns-clause-seated c = λ s. c.wait.ensures.seated (c.in_ok-release.ensures.seated s)

pub returns-then-is_some-clause-seated : goal.returns-then-is_some-clause-seated
returns-then-is_some-clause-seated c = λ s. c.expel-then-is_some.ensures.seated (c.in_ok-release.ensures.seated s)

pub returns-then-not-has_nothing_out-clause-others : goal.returns-then-not-has_nothing_out-clause-others
returns-then-not-has_nothing_out-clause-others c = c.expel.ensures.others

pub returns-then-is_some-clause-others : goal.returns-then-is_some-clause-others
returns-then-is_some-clause-others c = λ reached.
    others_on c.expel-then-is_some.result c.args.key c.args.self.now c.release.new.self c.expel-then-is_some.new.self (c.expel-then-is_some.ensures.others (reached_left c.args.key c.args.self.now.pool c.release.new.self.pool c.in_ok-release.ensures.leaving reached)) (c.in_ok-release.ensures.others reached)

pub returns-clause-others : goal.returns-clause-others
returns-clause-others c = λ reached.
    others_on c.wait.result c.args.key c.args.self.now c.release.new.self c.wait.new.self (waited_rest c.wait.result c.args.key c.release.new.self c.wait.new.self c.wait.ensures.body c.wait.ensures.service c.wait.ensures.holds)
    (c.in_ok-release.ensures.others reached)

pub returns-then-not-has_nothing_out-clause-aside : goal.returns-then-not-has_nothing_out-clause-aside
returns-then-not-has_nothing_out-clause-aside c = c.expel.ensures.aside

pub returns-then-is_some-clause-aside : goal.returns-then-is_some-clause-aside
returns-then-is_some-clause-aside c = λ reached.
    aside_on c.expel-then-is_some.result c.args.key c.args.self.now c.release.new.self c.expel-then-is_some.new.self (c.in_ok-release.ensures.keeps reached)
    (c.expel-then-is_some.ensures.aside (reached_left c.args.key c.args.self.now.pool c.release.new.self.pool c.in_ok-release.ensures.leaving reached))

pub returns-clause-aside : goal.returns-clause-aside
returns-clause-aside c = λ reached.
    aside_waits c.wait.result c.args.key c.args.self.now c.release.new.self c.wait.new.self (c.in_ok-release.ensures.keeps reached) c.wait.ensures.holds c.wait.ensures.links

pub returns-then-not-has_nothing_out-clause-right : goal.returns-then-not-has_nothing_out-clause-right
returns-then-not-has_nothing_out-clause-right c = deaf_right_on c.expel.result c.args.key c.expel.new.self c.expel.ensures.over

pub returns-then-is_some-clause-right : goal.returns-then-is_some-clause-right
returns-then-is_some-clause-right c = deaf_right_on c.expel-then-is_some.result c.args.key c.expel-then-is_some.new.self c.expel-then-is_some.ensures.over

pub returns-clause-right : goal.returns-clause-right
returns-clause-right c = waits_right_on c.wait.result c.args.key c.release.new.self c.wait.new.self c.wait.ensures.holds (search rules)

pub returns-clause-answers : goal.returns-clause-answers
returns-clause-answers c = answers_then c.wait.result _ _ _ c.in_ok-release.ensures.answers (ok_if c.wait.result _ c.wait.ensures.links)

pub returns-then-is_some-clause-answers : goal.returns-then-is_some-clause-answers
returns-then-is_some-clause-answers c = answers_on c.expel-then-is_some.result _ _ _ c.in_ok-release.ensures.answers c.expel-then-is_some.ensures.answers

pub returns-then-is_some-clause-awaits : goal.returns-then-is_some-clause-awaits
returns-then-is_some-clause-awaits c =
    tend_on c.expel-then-is_some.result c.args.self.now c.release.new.self c.expel-then-is_some.new.self (reached_left c.args.key c.args.self.now.pool c.release.new.self.pool c.in_ok-release.ensures.leaving) c.in_ok-release.ensures.awaits
    c.expel-then-is_some.ensures.awaits

pub returns-clause-awaits : goal.returns-clause-awaits
returns-clause-awaits c =
    tend_on c.wait.result c.args.self.now c.release.new.self c.wait.new.self (reached_left c.args.key c.args.self.now.pool c.release.new.self.pool c.in_ok-release.ensures.leaving) c.in_ok-release.ensures.awaits
    (tend_waits c.wait.result c.args.key c.release.new.self c.wait.new.self c.wait.ensures.goes c.wait.ensures.links)

pub returns-then-not-has_nothing_out-clause-awaits : goal.returns-then-not-has_nothing_out-clause-awaits
returns-then-not-has_nothing_out-clause-awaits c = c.expel.ensures.awaits

pub returns-then-not-has_nothing_out-clause-lets : goal.returns-then-not-has_nothing_out-clause-lets
returns-then-not-has_nothing_out-clause-lets c = λ reached. ok_more c.expel.result _ _ (leaves_of c.args.key c.args.self.now c.expel.new.self) (c.expel.ensures.lets reached)

pub returns-then-is_some-clause-lets : goal.returns-then-is_some-clause-lets
returns-then-is_some-clause-lets c = λ reached.
    let led = reached_left c.args.key c.args.self.now.pool c.release.new.self.pool c.in_ok-release.ensures.leaving reached in
    leaves_both c.expel-then-is_some.result c.args.key c.args.self.now c.release.new.self c.expel-then-is_some.new.self led (c.in_ok-release.ensures.frees reached) (c.in_ok-release.ensures.lets reached) (c.expel-then-is_some.ensures.lets led)

pub returns-clause-lets : goal.returns-clause-lets
returns-clause-lets c = λ reached. ok_if c.wait.result _ (leaves_then c.args.key c.args.self.now c.release.new.self c.wait.new.self (c.in_ok-release.ensures.lets reached) c.wait.ensures.links)

pub returns-then-is_some-clause-ends : goal.returns-then-is_some-clause-ends
returns-then-is_some-clause-ends c = λ reached.
    let led = reached_left c.args.key c.args.self.now.pool c.release.new.self.pool c.in_ok-release.ensures.leaving reached in
    ends_both c.expel-then-is_some.result c.args.key c.args.self.now c.release.new.self c.expel-then-is_some.new.self led (c.in_ok-release.ensures.frees reached) (c.in_ok-release.ensures.ends reached) (c.expel-then-is_some.ensures.lets led)

pub returns-clause-ends : goal.returns-clause-ends
returns-clause-ends c = λ reached. ok_if c.wait.result _ (ends_then c.args.key c.args.self.now c.release.new.self c.wait.new.self c.wait.ensures.links (c.in_ok-release.ensures.ends reached))

pub returns-then-not-has_nothing_out-clause-ends : goal.returns-then-not-has_nothing_out-clause-ends
returns-then-not-has_nothing_out-clause-ends c = c.expel.ensures.ends

use Rattle.std.proofs.Common.{ap, subst, sym}
use Rattle.tds_relay.specs.declared.pool.Pool as code
use Rattle.tds_relay.specs.Ties.{Application, Reaches, pool_in, IsReached}
use Rattle.tds_relay.specs.Fronts.{ends_in, core_in, core_of_ends}
use Rattle.tds_relay.specs.Core.{EndList, IfOpen, MayPart, end_at}
use Rattle.tds_front.specs.declared.stage.Stage.{Stage}
use Rattle.std.specs.Prelude.{IsSome}
use Rattle.tds_relay.specs.Pool.{find_key}
use Rattle.tds_relay.proofs.steps.Fronts.{closed_lets, moves_lets_go, moves_same}
use Rattle.tds_relay.proofs.steps.Reaching.{ok_more, reaches_left}
use Rattle.tds_relay.proofs.steps.Staying.{stays_from}
use Rattle.tds_relay.specs.Taking.{IsDeaf}
use Rattle.tds_relay.proofs.steps.Told.{deaf_for, lets_go_deaf}
use Rattle.tds_relay.proofs.bytes.Calls.{stand_from}
use Rattle.tds_relay.proofs.lending.Resting.{all_others, all_rest, others_on}
use Rattle.tds_relay.specs.Closings.{Itself}
use Rattle.tds_relay.proofs.spared.Closings.{closes_behind}
use Rattle.tds_relay.proofs.seats.Relays.{kept_seated}
use Rattle.tds_relay.proofs.spared.Elsewhere.{aside_on, aside_same}
use Rattle.tds_relay.proofs.spared.Begun.{answers_from}
use Rattle.tds_relay.proofs.steps.Underway.{out_freed}
use Rattle.tds_relay.proofs.lending.Tending.{tend_pool}
use Rattle.tds_relay.proofs.lending.Parting.{ends_from, let_go_from}
use Rattle.tds_relay.proofs.relay.Relay.expel_for.Goals as goal

pub returns-clause-goes : goal.returns-clause-goes
returns-clause-goes c =
    ok_more c.release.result _ _
    (λ l from h. reaches_left c.args.key from _ _ l
    (subst (λ (d : code.Pool). Reaches (Application c.args.key) from (pool_in d)) (sym c.in_ok-end_for.ensures.pool) h))
    c.release.ensures.leaving

pub returns-clause-moves : goal.returns-clause-moves
returns-clause-moves c =
    ok_more c.release.result _ _
    (λ l from h. moves_lets_go c.args.key from _ _ _
    (subst (λ (es : EndList). MayPart (core_of_ends (pool_in c.end_for.new.self.pool) es) c.args.key × IfOpen (λ (stage : Stage). IsSome (find_key c.args.key (pool_in c.end_for.new.self.pool).holds)) (end_at es c.args.key)) (sym c.in_ok-end_for.ensures.ends) (closed_lets c.args.why (pool_in c.end_for.new.self.pool) (ends_in c.args.self.now.applications) c.args.key)) l
    (moves_same (Application c.args.key) from _ _ _ _ (ap pool_in c.in_ok-end_for.ensures.pool) c.in_ok-end_for.ensures.ends h))
    c.release.ensures.lets_go

pub returns-clause-read : goal.returns-clause-read
returns-clause-read c = stays_from c.release.result _ _ _ c.in_ok-end_for.ensures.links c.release.ensures.read

pub returns-clause-over : goal.returns-clause-over
returns-clause-over c =
    ok_more c.release.result _ _
    (λ l. lets_go_deaf c.args.key (pool_in c.end_for.new.self.pool) (ends_in c.end_for.new.self.applications) (core_in c.release.new.self) (subst (λ (es : EndList). IsDeaf (end_at es c.args.key)) (sym c.in_ok-end_for.ensures.ends) (deaf_for c.args.why c.args.key (ends_in c.args.self.now.applications))) l)
    c.release.ensures.lets_go

pub returns-clause-stand : goal.returns-clause-stand
returns-clause-stand c = stand_from c.release.result _ _ _ c.in_ok-end_for.ensures.pool c.release.ensures.stand

pub returns-clause-others : goal.returns-clause-others
returns-clause-others c = λ reached.
    others_on c.release.result c.args.key c.args.self.now c.end_for.new.self c.release.new.self (c.release.ensures.others (subst (λ (d : code.Pool). IsReached (pool_in d)) (sym c.end_for.ensures.pool) reached))
    (all_others c.args.key c.args.self.now c.end_for.new.self (all_rest c.args.self.now c.end_for.new.self c.end_for.ensures.pool c.in_ok-end_for.ensures.links c.in_ok-end_for.ensures.asks))

pub returns-clause-closes : goal.returns-clause-closes
returns-clause-closes c = closes_behind c.release.result (Itself c.args.key) _ _ _ c.release.ensures.closes c.in_ok-end_for.ensures.closes

pub returns-clause-seated : goal.returns-clause-seated
returns-clause-seated c = λ s. c.release.ensures.seated (kept_seated c.args.self.now c.end_for.new.self c.in_ok-end_for.ensures.pool c.in_ok-end_for.ensures.links s)

pub returns-clause-aside : goal.returns-clause-aside
returns-clause-aside c = λ reached.
    aside_on c.release.result c.args.key c.args.self.now c.end_for.new.self c.release.new.self
    (aside_same c.args.key c.args.self.now c.end_for.new.self (ap (λ (d : code.Pool). d.holds.items) c.end_for.ensures.pool) c.in_ok-end_for.ensures.links)
    (c.release.ensures.keeps (subst (λ (d : code.Pool). IsReached (pool_in d)) (sym c.end_for.ensures.pool) reached))

pub returns-clause-answers : goal.returns-clause-answers
returns-clause-answers c = answers_from c.release.result _ _ _ c.in_ok-end_for.ensures.links c.release.ensures.answers

pub returns-clause-away : goal.returns-clause-away
returns-clause-away c = out_freed c.release.result c.args.key (pool_in c.end_for.new.self.pool).line (pool_in c.release.new.self.pool).line c.release.ensures.line

pub returns-clause-awaits : goal.returns-clause-awaits
returns-clause-awaits c = tend_pool c.release.result c.args.self.now c.end_for.new.self c.release.new.self c.end_for.ensures.pool c.in_ok-end_for.ensures.links c.release.ensures.awaits

pub returns-clause-lets : goal.returns-clause-lets
returns-clause-lets c = λ reached.
    let_go_from c.release.result c.args.key c.args.self.now c.end_for.new.self c.release.new.self c.end_for.ensures.pool c.in_ok-end_for.ensures.links
    (c.release.ensures.lets (subst (λ (d : code.Pool). IsReached (pool_in d)) (sym c.end_for.ensures.pool) reached))

pub returns-clause-ends : goal.returns-clause-ends
returns-clause-ends c = λ reached.
    ends_from c.release.result c.args.key c.args.self.now c.end_for.new.self c.release.new.self c.end_for.ensures.pool c.in_ok-end_for.ensures.links
    (c.release.ensures.ends (subst (λ (d : code.Pool). IsReached (pool_in d)) (sym c.end_for.ensures.pool) reached))

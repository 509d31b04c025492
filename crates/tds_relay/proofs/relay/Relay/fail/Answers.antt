use Rattle.std.proofs.Common.{◌∙◌, ap, subst, sym}
use Rattle.tds_relay.specs.declared.pool.Pool as code
use Rattle.tds_relay.specs.Core.{EndList, closes, end_at}
use Rattle.tds_relay.specs.Taking.{IsDeaf}
use Rattle.tds_relay.specs.Ties.{Reaches, pool_in}
use Rattle.tds_relay.proofs.steps.Fronts.{moves_closes}
use Rattle.tds_relay.proofs.steps.Reaching.{ok_if, ok_more}
use Rattle.tds_relay.proofs.steps.Staying.{stays_same}
use Rattle.tds_relay.proofs.steps.Told.{deaf_closed}
use Rattle.tds_relay.proofs.bytes.Calls.{stand_at}
use Rattle.tds_relay.proofs.lending.Resting.{all_on, same_on}
use Rattle.tds_relay.specs.Fronts.{core_in}
use Rattle.tds_relay.proofs.spared.Apart.{alone_both, alone_changed}
use Rattle.tds_relay.proofs.spared.Ordered.{ordered_closing}
use Rattle.tds_relay.specs.Closings.{Itself}
use Rattle.tds_relay.proofs.spared.Closings.{closes_on}
use Rattle.tds_relay.proofs.spared.Begun.{answers_then}
use Rattle.tds_relay.proofs.seats.Relays.{kept_end}
use Rattle.tds_relay.proofs.spared.Filling.{own_behind, own_end}
use Rattle.tds_relay.proofs.lending.Fresh.{off_from}
use Rattle.tds_relay.proofs.relay.Relay.fail.Goals as goal

pub returns-clause-goes : goal.returns-clause-goes
returns-clause-goes c = ok_if c.end.result _ (λ by from h. subst (λ (d : code.Pool). Reaches by from (pool_in d)) (sym c.end.ensures.pool) (c.in_ok-lose_own.ensures.goes by from h))

pub returns-clause-kept : goal.returns-clause-kept
returns-clause-kept c = ok_more c.end.result _ _ (λ k. k ∙ c.in_ok-lose_own.ensures.kept) c.end.ensures.kept

pub returns-clause-moves : goal.returns-clause-moves
returns-clause-moves c =
    ok_more c.end.result _ _ (λ e by from h. moves_closes by from _ _ _ _ c.args.key (ap pool_in c.end.ensures.pool) e (c.in_ok-lose_own.ensures.moves by from h)) c.end.ensures.ends

pub returns-clause-over : goal.returns-clause-over
returns-clause-over c = ok_more c.end.result _ _ (λ e. subst (λ (es : EndList). IsDeaf (end_at es c.args.key)) (sym e) (deaf_closed c.args.key _)) c.end.ensures.ends

pub returns-clause-read : goal.returns-clause-read
returns-clause-read c = stays_same c.end.result _ _ _ c.in_ok-lose_own.ensures.read c.end.ensures.links

pub returns-clause-stand : goal.returns-clause-stand
returns-clause-stand c = ok_if c.end.result _ (stand_at _ _ _ c.in_ok-lose_own.ensures.stand c.end.ensures.pool)

pub returns-clause-rests : goal.returns-clause-rests
returns-clause-rests c = λ reached.
    all_on c.end.result c.args.self.now c.lose_own.new.self c.end.new.self (c.in_ok-lose_own.ensures.rests reached)
    (same_on c.end.result c.lose_own.new.self c.end.new.self c.end.ensures.pool c.end.ensures.links c.end.ensures.asks)

pub returns-clause-alone : goal.returns-clause-alone
returns-clause-alone c = ok_more c.end.result _ _ (λ e. alone_both c.args.key (core_in c.args.self.now) (core_in c.lose_own.new.self) (core_in c.end.new.self) c.in_ok-lose_own.ensures.alone
    (alone_changed c.args.key closes (core_in c.lose_own.new.self) (core_in c.end.new.self) e (ap (λ (d : code.Pool). (pool_in d).line) c.end.ensures.pool))) c.end.ensures.ends

pub returns-clause-ordered : goal.returns-clause-ordered
returns-clause-ordered c = ordered_closing c.end.result _ _ _ _ c.end.ensures.ordered c.in_ok-lose_own.ensures.ordered

pub returns-clause-closes : goal.returns-clause-closes
returns-clause-closes c = closes_on c.end.result (Itself c.args.key) _ _ _ c.end.ensures.closes c.in_ok-lose_own.ensures.closes

pub returns-clause-answers : goal.returns-clause-answers
returns-clause-answers c = answers_then c.end.result _ _ _ c.in_ok-lose_own.ensures.answers c.end.ensures.links

pub returns-clause-seated : goal.returns-clause-seated
returns-clause-seated c = λ s. kept_end c.end.result c.lose_own.new.self c.end.new.self c.end.ensures.pool c.end.ensures.links (c.in_ok-lose_own.ensures.seated s)

pub returns-clause-own : goal.returns-clause-own
returns-clause-own c = own_behind c.end.result c.args.key c.args.self.now c.lose_own.new.self c.end.new.self c.in_ok-lose_own.ensures.own (own_end c.end.result c.args.key c.lose_own.new.self c.end.new.self c.end.ensures.pool c.end.ensures.links)

pub returns-clause-off : goal.returns-clause-off
returns-clause-off c = off_from c.end.result c.args.number c.args.self.now.links.items c.lose_own.new.self.links.items c.end.new.self.links.items c.in_ok-lose_own.ensures.off c.end.ensures.links

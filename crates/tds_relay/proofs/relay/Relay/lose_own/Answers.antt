use Rattle.std.proofs.Common.{◌≡◌, ◌==◌, ◌∙◌, Some, ap, rules, sym, true, ℕ}
use Rattle.std.proofs.lemmas.Bool.{eqb-true}
use Rattle.tds_relay.specs.Fronts.{core_in}
use Rattle.tds_relay.proofs.spared.Apart.{alone_lost}
use Rattle.tds_relay.specs.Closings.{IsWho, Itself}
use Rattle.tds_relay.specs.Core.{holder}
use Rattle.tds_relay.specs.Ties.{pool_in}
use Rattle.tds_relay.proofs.spared.Closings.{closes_more_on}
use Rattle.tds_relay.proofs.spared.Begun.{answers_refl}
use Rattle.tds_relay.proofs.seats.Pools.{off_of}
use Rattle.tds_relay.proofs.spared.Filling.{own_lost_on, own_refl}
use Rattle.tds_relay.proofs.lending.Fresh.{off_by, off_refl}
use Rattle.tds_relay.proofs.relay.Relay.lose_own.Goals as goal

pub returns-then-holder-key-clause-alone : goal.returns-then-holder-key-clause-alone
returns-then-holder-key-clause-alone c =
    let same : (c.in-Some.holder == c.args.key) ≡ true = search rules in
    alone_lost c.lose.result c.args.key c.args.number (core_in c.args.self.now) (core_in c.lose.new.self)
    (sym c.key_on.ensures ∙ c.in-Some.is ∙ ap (λ (k : ℕ). Some k) (eqb-true c.in-Some.holder c.args.key same)) c.lose.ensures.ends c.lose.ensures.line

pub returns-then-holder-key-clause-closes : goal.returns-then-holder-key-clause-closes
returns-then-holder-key-clause-closes c = closes_more_on c.lose.result (IsWho (holder (pool_in c.args.self.now.pool) c.args.number)) (Itself c.args.key) _ _
    (λ key e.
    let same : (c.in-Some.holder == c.args.key) ≡ true = search rules in
    let its : Some key ≡ Some c.in-Some.holder = sym e ∙ sym c.key_on.ensures ∙ c.in-Some.is in
    let one : key ≡ c.in-Some.holder = cc in
    one ∙ eqb-true c.in-Some.holder c.args.key same) c.lose.ensures.closes

pub returns-else-holder-key-clause-answers : goal.returns-else-holder-key-clause-answers
returns-else-holder-key-clause-answers c = answers_refl c.args.self.now.links.items

pub returns-in-None-clause-answers : goal.returns-in-None-clause-answers
returns-in-None-clause-answers c = answers_refl c.args.self.now.links.items

pub returns-then-holder-key-clause-seated : goal.returns-then-holder-key-clause-seated
returns-then-holder-key-clause-seated c = λ s. c.lose.ensures.seated (off_of c.args.number (pool_in c.args.self.now.pool) c.args.self.now.links.items s)

pub returns-then-holder-key-clause-own : goal.returns-then-holder-key-clause-own
returns-then-holder-key-clause-own c =
    let same : (c.in-Some.holder == c.args.key) ≡ true = search rules in
    own_lost_on c.lose.result c.args.key c.args.number c.args.self.now.pool.holds.items c.args.self.now.links.items c.lose.new.self.pool.holds.items c.lose.new.self.links.items c.lose.ensures.holds c.lose.ensures.gone c.lose.ensures.queues c.lose.ensures.answers
    (sym c.key_on.ensures ∙ c.in-Some.is ∙ ap (λ (k : ℕ). Some k) (eqb-true c.in-Some.holder c.args.key same))

pub returns-else-holder-key-clause-own : goal.returns-else-holder-key-clause-own
returns-else-holder-key-clause-own c = own_refl c.args.key c.args.self.now.pool.holds.items c.args.self.now.links.items

pub returns-in-None-clause-own : goal.returns-in-None-clause-own
returns-in-None-clause-own c = own_refl c.args.key c.args.self.now.pool.holds.items c.args.self.now.links.items

pub returns-then-holder-key-clause-off : goal.returns-then-holder-key-clause-off
returns-then-holder-key-clause-off c = off_by c.lose.result c.args.number c.args.self.now.links.items c.lose.new.self.links.items c.lose.ensures.queues c.lose.ensures.answers

pub returns-else-holder-key-clause-off : goal.returns-else-holder-key-clause-off
returns-else-holder-key-clause-off c = off_refl c.args.number c.args.self.now.links.items

pub returns-in-None-clause-off : goal.returns-in-None-clause-off
returns-in-None-clause-off c = off_refl c.args.number c.args.self.now.links.items

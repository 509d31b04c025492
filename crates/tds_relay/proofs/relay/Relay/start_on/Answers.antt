use Rattle.std.proofs.Common.{sym, ◌∙◌, ◌⊎◌, ℕ, ap, subst, Some}
use Rattle.tds_relay.specs.Waiting.{IsUnheldOrTurnedAway}
use Rattle.tds_relay.specs.Reasons.{IsTurnedAwayAt, ItselfFor}
use Rattle.tds_relay.proofs.lending.Clients.{clients_holder, clients_refl}
use Rattle.tds_relay.proofs.lending.Resting.{go_on_one, go_refl}
use Rattle.tds_relay.specs.Bodies.{body_of}
use Rattle.tds_relay.specs.Sparing.{IsHeldBack, IsUnkept, StartsThere}
use Rattle.tds_relay.proofs.spared.Starting.{none_own, own_on}
use Rattle.tds_relay.specs.Closings.{IsWho, Itself, register_in}
use Rattle.tds_relay.specs.Core.{holder}
use Rattle.tds_relay.specs.Ties.{pool_in}
use Rattle.tds_relay.proofs.spared.Closings.{closes_more_on}
use Rattle.tds_relay.proofs.spared.Turned.{turned_there}
use Rattle.tds_relay.proofs.spared.Lasting.{last_more_on, last_start}
use Rattle.tds_relay.proofs.spared.Apart.{none_alone, who_alone}
use Rattle.tds_relay.specs.Fronts.{core_in}
use Rattle.tds_relay.proofs.spared.Filling.{first_holder, first_refl}
use Rattle.tds_relay.specs.Lent.{IsWithHolder}
use Rattle.tds_relay.proofs.lending.Quiet.{RestsFor, start_still}
use Rattle.tds_relay.proofs.relay.Relay.start_on.Goals as goal

pub returns-in-Some-clause-goes_on : goal.returns-in-Some-clause-goes_on
returns-in-Some-clause-goes_on c = go_on_one c.start_kept.result c.in-Some.key c.args.self.now c.start_kept.new.self c.start_kept.ensures.body c.start_kept.ensures.others

pub returns-in-None-clause-goes_on : goal.returns-in-None-clause-goes_on
returns-in-None-clause-goes_on c = go_refl c.args.self.now

pub returns-in-Some-clause-waits : goal.returns-in-Some-clause-waits
returns-in-Some-clause-waits c = own_on c.start_kept.result _ c.in-Some.key (λ (k : ℕ). IsUnkept (body_of k c.start_kept.new.self) ⊎ IsHeldBack k c.args.self.now) (sym c.key_on.ensures ∙ c.in-Some.is) c.start_kept.ensures.waits

pub returns-in-None-clause-waits : goal.returns-in-None-clause-waits
returns-in-None-clause-waits c = none_own _ (λ (k : ℕ). IsUnkept (body_of k c.args.self.now) ⊎ IsHeldBack k c.args.self.now) (sym c.key_on.ensures ∙ c.in-None.is)

pub returns-in-Some-clause-closes : goal.returns-in-Some-clause-closes
returns-in-Some-clause-closes c =
    let r = c.args.self.now in
    let number = c.args.number in
    closes_more_on c.start_kept.result (ItselfFor c.in-Some.key (IsUnheldOrTurnedAway c.in-Some.key r)) (λ other. IsWho (holder (pool_in r.pool) number) other × IsTurnedAwayAt other r) _ _
    (λ key e. (sym c.key_on.ensures ∙ c.in-Some.is ∙ ap (λ (k : ℕ). Some k) (sym e.0), subst (λ (k : ℕ). IsTurnedAwayAt k r) (sym e.0) (turned_there c.in-Some.key number r (sym c.key_on.ensures ∙ c.in-Some.is) e.1))) c.start_kept.ensures.closes

pub returns-in-Some-clause-lasts : goal.returns-in-Some-clause-lasts
returns-in-Some-clause-lasts c = last_more_on c.start_kept.result (Itself c.in-Some.key) (IsWho (holder (pool_in c.args.self.now.pool) c.args.number)) _ _ (λ key e. sym c.key_on.ensures ∙ c.in-Some.is ∙ ap (λ (k : ℕ). Some k) (sym e)) c.start_kept.ensures.lasts

pub returns-in-None-clause-lasts : goal.returns-in-None-clause-lasts
returns-in-None-clause-lasts c = last_start (IsWho (holder (pool_in c.args.self.now.pool) c.args.number)) (register_in c.args.self.now)

pub returns-in-Some-clause-behind : goal.returns-in-Some-clause-behind
returns-in-Some-clause-behind c = own_on c.start_kept.result _ c.in-Some.key (λ (k : ℕ). StartsThere k c.args.self.now c.start_kept.new.self) (sym c.key_on.ensures ∙ c.in-Some.is) c.start_kept.ensures.behind

pub returns-in-None-clause-behind : goal.returns-in-None-clause-behind
returns-in-None-clause-behind c = none_own _ (λ (k : ℕ). StartsThere k c.args.self.now c.args.self.now) (sym c.key_on.ensures ∙ c.in-None.is)

pub returns-in-Some-clause-alone : goal.returns-in-Some-clause-alone
returns-in-Some-clause-alone c = who_alone c.start_kept.result c.in-Some.key (holder (pool_in c.args.self.now.pool) c.args.number) _ _ (sym c.key_on.ensures ∙ c.in-Some.is) c.start_kept.ensures.alone

pub returns-in-None-clause-alone : goal.returns-in-None-clause-alone
returns-in-None-clause-alone c = none_alone (holder (pool_in c.args.self.now.pool) c.args.number) (core_in c.args.self.now)

pub returns-in-Some-clause-keeps : goal.returns-in-Some-clause-keeps
returns-in-Some-clause-keeps c = λ reached. first_holder c.start_kept.result c.in-Some.key c.args.number c.args.self.now c.start_kept.new.self (sym c.key_on.ensures ∙ c.in-Some.is) (c.start_kept.ensures.own reached)

pub returns-in-None-clause-keeps : goal.returns-in-None-clause-keeps
returns-in-None-clause-keeps c = λ reached. first_refl (IsWithHolder c.args.number c.args.self.now) c.args.self.now

pub returns-in-Some-clause-clients : goal.returns-in-Some-clause-clients
returns-in-Some-clause-clients c = λ reached. clients_holder c.start_kept.result c.in-Some.key c.args.number c.args.self.now c.start_kept.new.self (sym c.key_on.ensures ∙ c.in-Some.is) (c.start_kept.ensures.others reached)

pub returns-in-None-clause-clients : goal.returns-in-None-clause-clients
returns-in-None-clause-clients c = λ reached. clients_refl (IsWho (holder (pool_in c.args.self.now.pool) c.args.number)) c.args.self.now

pub returns-in-Some-clause-rests : goal.returns-in-Some-clause-rests
returns-in-Some-clause-rests c =
    let its = sym c.key_on.ensures ∙ c.in-Some.is in
    own_on c.start_kept.result _ c.in-Some.key (RestsFor c.args.self.now c.start_kept.new.self) its (start_still c.start_kept.result c.in-Some.key c.args.number c.args.self.now c.start_kept.new.self its c.start_kept.ensures.behind c.start_kept.ensures.puts)

pub returns-in-None-clause-rests : goal.returns-in-None-clause-rests
returns-in-None-clause-rests c = none_own _ (RestsFor c.args.self.now c.args.self.now) (sym c.key_on.ensures ∙ c.in-None.is)

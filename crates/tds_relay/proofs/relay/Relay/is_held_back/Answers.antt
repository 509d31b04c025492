use Rattle.std.proofs.Common.{◌≡◌, ◌∙◌, None, Some, ap, inl, inr, rules, sym}
use Rattle.tds_relay.specs.Asking.{Opens, waits_of}
use Rattle.tds_relay.specs.Sparing.{Drains}
use Rattle.tds_relay.specs.Sparing as sparing
use Rattle.tds_relay.specs.Ties.{pool_in}
use Rattle.tds_relay.proofs.steps.Underway.{drains}
use Rattle.tds_relay.proofs.spared.Starting.{taken_back, unkept_none, unkept_over, unkept_there}
use Rattle.tds_relay.proofs.spared.Ended.{its_name}
use Rattle.tds_relay.proofs.spared.Turned.{kept_there, none_by, ready_there}
use Rattle.tds_relay.proofs.relay.Relay.is_held_back.Goals as goal

pub returns-in_default-clause-held : goal.returns-in_default-clause-held
returns-in_default-clause-held c = λ its e. inl (unkept_none c.args.self.now.applications c.args.key _ (search rules))

pub returns-then-is_over-clause-held : goal.returns-then-is_over-clause-held
returns-then-is_over-clause-held c = λ its e. inl (unkept_over c.args.self.now.applications c.args.key c.in-Some.application.now _ c.in-Some.ensures (sym c.is_over.ensures ∙ c.if-is_over.true))

pub returns-then-not-waits-clause-held : goal.returns-then-not-waits-clause-held
returns-then-not-waits-clause-held c = λ its e. inl (unkept_there c.args.key c.args.self.now c.in-Some.application.now c.in-Some.ensures (none_by _ (sym c.waits.ensures ∙ search rules)))

pub returns-then-not-waits-clause-underway : goal.returns-then-not-waits-clause-underway
returns-then-not-waits-clause-underway c = λ its e whole waits.
    let none : None ≡ Some whole = sym (none_by _ (sym c.waits.ensures ∙ search rules)) ∙ ap waits_of c.in-Some.ensures ∙ waits in
    absurd (let u : ⊥ = cc in u)

pub returns-then-is_withdrawn-clause-held : goal.returns-then-is_withdrawn-clause-held
returns-then-is_withdrawn-clause-held c = λ its e. inr (Drains (taken_back c.args.self.now.applications c.args.key c.in-Some.application.now c.in-Some.ensures (sym c.is_over.ensures ∙ c.if-is_over.false) (sym c.is_withdrawn.ensures ∙ c.if-is_withdrawn.true)))

pub returns-then-is_withdrawn-clause-underway : goal.returns-then-is_withdrawn-clause-underway
returns-then-is_withdrawn-clause-underway c = λ its e whole waits.
    drains whole _ c.args.key (pool_in c.args.self.now.pool) c.args.self.now.applications c.in-Some.application.now c.args.hold c.in-Some.ensures (sym c.is_withdrawn.ensures ∙ c.if-is_withdrawn.true) its

pub returns-clause-held : goal.returns-clause-held
returns-clause-held c = λ its e. inr (sparing.Opens c.args.hold its (c.is_open.ensures.shut (search rules)))

pub returns-clause-underway : goal.returns-clause-underway
returns-clause-underway c = λ its e whole waits. Opens c.args.hold its (c.is_open.ensures.shut (search rules))

pub returns-in_default-clause-named : goal.returns-in_default-clause-named
returns-in_default-clause-named c = λ e. absurd (let u : ⊥ = cc in u)

pub returns-then-is_over-clause-named : goal.returns-then-is_over-clause-named
returns-then-is_over-clause-named c = λ e. absurd (let u : ⊥ = cc in u)

pub returns-then-not-waits-clause-named : goal.returns-then-not-waits-clause-named
returns-then-not-waits-clause-named c = λ e. absurd (let u : ⊥ = cc in u)

pub returns-then-is_withdrawn-clause-named : goal.returns-then-is_withdrawn-clause-named
returns-then-is_withdrawn-clause-named c = λ e. absurd (let u : ⊥ = cc in u)

pub returns-clause-named : goal.returns-clause-named
returns-clause-named c = λ e. (c.in-Some.application.now.tag, its_name c.args.self.now c.args.key c.in-Some.application.now c.in-Some.ensures (sym c.is_over.ensures ∙ c.if-is_over.false))

pub returns-in_default-clause-waits : goal.returns-in_default-clause-waits
returns-in_default-clause-waits c = λ e. absurd (let u : ⊥ = cc in u)

pub returns-in_default-clause-ready : goal.returns-in_default-clause-ready
returns-in_default-clause-ready c = λ its e. absurd (let u : ⊥ = cc in u)

pub returns-then-is_over-clause-waits : goal.returns-then-is_over-clause-waits
returns-then-is_over-clause-waits c = λ e. absurd (let u : ⊥ = cc in u)

pub returns-then-is_over-clause-ready : goal.returns-then-is_over-clause-ready
returns-then-is_over-clause-ready c = λ its e. absurd (let u : ⊥ = cc in u)

pub returns-then-not-waits-clause-waits : goal.returns-then-not-waits-clause-waits
returns-then-not-waits-clause-waits c = λ e. absurd (let u : ⊥ = cc in u)

pub returns-then-not-waits-clause-ready : goal.returns-then-not-waits-clause-ready
returns-then-not-waits-clause-ready c = λ its e. absurd (let u : ⊥ = cc in u)

pub returns-then-is_withdrawn-clause-waits : goal.returns-then-is_withdrawn-clause-waits
returns-then-is_withdrawn-clause-waits c = λ e. absurd (let u : ⊥ = cc in u)

pub returns-then-is_withdrawn-clause-ready : goal.returns-then-is_withdrawn-clause-ready
returns-then-is_withdrawn-clause-ready c = λ its e. absurd (let u : ⊥ = cc in u)

pub returns-clause-waits : goal.returns-clause-waits
returns-clause-waits c = λ e. kept_there c.args.key c.args.self.now c.in-Some.application.now c.in-Some.ensures (sym c.is_over.ensures ∙ c.if-is_over.false) (sym c.waits.ensures ∙ search rules)

pub returns-clause-ready : goal.returns-clause-ready
returns-clause-ready c = λ its e.
    ready_there c.args.key c.args.self.now.applications c.args.self.now.pool c.args.self.now.links.items c.in-Some.application.now c.args.hold c.in-Some.ensures (sym c.is_over.ensures ∙ c.if-is_over.false) (sym c.is_withdrawn.ensures ∙ c.if-is_withdrawn.false) its (c.is_open.ensures.open (search rules))

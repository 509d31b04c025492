use Rattle.std.proofs.Common.{◌≡◌, ◌∙◌, ℕ, Bool, true, false, Option, Some, None, ap, rules, sym, if◌then◌else◌}
use Rattle.std.specs.Prelude.{option_and_then, drop}
use Rattle.slab.specs.Slab.{get}
use Rattle.tds_relay.specs.Places.{holder_of_number}
use Rattle.tds_relay.specs.Ties.{pool_in}
use Rattle.tds_relay.specs.Told.{holder_name, name_of}
use Rattle.tds_relay.proofs.seats.Linked.{changed_there, seated_as}
use Rattle.tds_relay.proofs.relay.Relay.sent_on.Goals as goal

pub returns-then-not-forget_sent-clause-whose : goal.returns-then-not-forget_sent-clause-whose
returns-then-not-forget_sent-clause-whose c =
    let absent : c.forget_sent.result ≡ false = search rules in
    sym (ap (λ (b : Bool). if b then holder_name c.args.number c.args.self.now else None) (sym c.forget_sent.ensures.found ∙ absent))

pub returns-clause-whose : goal.returns-clause-whose
returns-clause-whose c =
    let there : c.forget_sent.result ≡ true = search rules in
    let holds : holder_of_number (pool_in c.args.self.now.pool) c.args.number ≡ Some c.in_ok-key.key = search rules in
    let has : get c.args.self.now.applications c.in_ok-key.key ≡ Some c.in_ok-get.field-0.now = search rules in
    sym (ap (λ (b : Bool). if b then holder_name c.args.number c.args.self.now else None) (sym c.forget_sent.ensures.found ∙ there)
    ∙ ap (λ (o : Option ℕ). option_and_then (λ (key : ℕ). name_of (get c.args.self.now.applications key)) o) holds
    ∙ ap name_of has)

pub returns-then-not-forget_sent-clause-seated : goal.returns-then-not-forget_sent-clause-seated
returns-then-not-forget_sent-clause-seated c = λ s. seated_as (pool_in c.args.self.now.pool) c.args.self.now.links.items c.forget_sent.new.links.items (changed_there (drop c.args.count) c.args.number c.args.self.now.links.items c.forget_sent.new.links.items c.forget_sent.ensures.many c.forget_sent.ensures.fewer c.forget_sent.ensures.others) s

pub returns-in_err-key-clause-seated : goal.returns-in_err-key-clause-seated
returns-in_err-key-clause-seated c = λ s. seated_as (pool_in c.args.self.now.pool) c.args.self.now.links.items c.forget_sent.new.links.items (changed_there (drop c.args.count) c.args.number c.args.self.now.links.items c.forget_sent.new.links.items c.forget_sent.ensures.many c.forget_sent.ensures.fewer c.forget_sent.ensures.others) s

pub returns-in_err-get-clause-seated : goal.returns-in_err-get-clause-seated
returns-in_err-get-clause-seated c = λ s. seated_as (pool_in c.args.self.now.pool) c.args.self.now.links.items c.forget_sent.new.links.items (changed_there (drop c.args.count) c.args.number c.args.self.now.links.items c.forget_sent.new.links.items c.forget_sent.ensures.many c.forget_sent.ensures.fewer c.forget_sent.ensures.others) s

pub returns-clause-seated : goal.returns-clause-seated
returns-clause-seated c = λ s. seated_as (pool_in c.args.self.now.pool) c.args.self.now.links.items c.forget_sent.new.links.items (changed_there (drop c.args.count) c.args.number c.args.self.now.links.items c.forget_sent.new.links.items c.forget_sent.ensures.many c.forget_sent.ensures.fewer c.forget_sent.ensures.others) s

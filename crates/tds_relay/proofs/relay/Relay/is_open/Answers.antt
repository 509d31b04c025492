use Rattle.std.proofs.Common.{refl, ◌≡◌, ◌∙◌, None, Option, Some, ap, option_map, sym, subst, Bool, if◌then◌else◌}
use Rattle.std.specs.Prelude.{IsSome, option_copied}
use Rattle.tds_relay.specs.declared.link.Link.{Link}
use Rattle.tds_relay.specs.Reads.{bytes_on, link_at, open_of, seen_of}
use Rattle.tds_relay.proofs.steps.Placed.{is_shut_at}
use Rattle.tds_relay.proofs.relay.Relay.is_open.Goals as goal

pub returns-in-Some-clause-shut : goal.returns-in-Some-clause-shut
returns-in-Some-clause-shut c = λ closed.
    is_shut_at c.args.number c.args.self.now.links.items c.in-Some.link.now (sym c.link_in.ensures ∙ ap option_copied c.in-Some.is) closed

pub returns-in-None-clause-shut : goal.returns-in-None-clause-shut
returns-in-None-clause-shut c = λ e.
    let none : link_at c.args.number c.args.self.now.links.items ≡ None = sym c.link_in.ensures ∙ ap option_copied c.in-None.is in
    ap (λ (o : Option Link). open_of (option_map seen_of o)) none

pub returns-in-Some-clause-there : goal.returns-in-Some-clause-there
returns-in-Some-clause-there c = λ e.
    let here : link_at c.args.number c.args.self.now.links.items ≡ Some c.in-Some.link.now = sym c.link_in.ensures ∙ ap option_copied c.in-Some.is in
    subst IsSome (sym (ap (option_map bytes_on) here)) refl

pub returns-in-Some-clause-open : goal.returns-in-Some-clause-open
returns-in-Some-clause-open c = λ e.
    let link = c.in-Some.link.now in
    let here : link_at c.args.number c.args.self.now.links.items ≡ Some link = sym c.link_in.ensures ∙ ap option_copied c.in-Some.is in
    subst IsSome (sym (ap (λ (o : Option Link). open_of (option_map seen_of o)) here ∙ ap (λ (b : Bool). if b then Some link.reader else None) e)) refl

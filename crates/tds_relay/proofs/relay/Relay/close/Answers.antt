use Rattle.tds_relay.proofs.steps.Staying.{stays_same}
use Rattle.tds_relay.proofs.spared.Ordered.{ordered_closing}
use Rattle.tds_relay.specs.Closings.{IsWho, Itself}
use Rattle.std.proofs.Common.{◌∙◌, ap, sym, ℕ, Some}
use Rattle.tds_relay.proofs.spared.Closings.{closes_next, closes_nobody}
use Rattle.tds_relay.proofs.spared.Begun.{answers_then}
use Rattle.tds_relay.proofs.seats.Linked.{out_then}
use Rattle.tds_relay.proofs.relay.Relay.close.Goals as goal

pub returns-in-Some-clause-read : goal.returns-in-Some-clause-read
returns-in-Some-clause-read c = stays_same c.end.result _ _ _ c.in_ok-close_link.ensures.read c.end.ensures.links

pub returns-in-Some-clause-ordered : goal.returns-in-Some-clause-ordered
returns-in-Some-clause-ordered c = ordered_closing c.end.result _ _ _ _ c.end.ensures.ordered c.in_ok-close_link.ensures.ordered

pub returns-in-Some-clause-closes : goal.returns-in-Some-clause-closes
returns-in-Some-clause-closes c = closes_next c.end.result (Itself c.in-Some.key) (IsWho c.args.key) _ _ _ (λ key e. c.in-Some.is ∙ ap (λ (k : ℕ). Some k) (sym e)) c.end.ensures.closes c.in_ok-close_link.ensures.closes

pub returns-in-None-clause-closes : goal.returns-in-None-clause-closes
returns-in-None-clause-closes c = closes_nobody (IsWho c.args.key) _ _ c.in_ok-close_link.ensures.closes

pub returns-in-Some-clause-answers : goal.returns-in-Some-clause-answers
returns-in-Some-clause-answers c = answers_then c.end.result _ _ _ c.in_ok-close_link.ensures.answers c.end.ensures.links

pub returns-in-Some-clause-fewer : goal.returns-in-Some-clause-fewer
returns-in-Some-clause-fewer c = out_then c.end.result c.args.number c.args.self.now.links.items c.close_link.new.self.links.items c.end.new.self.links.items c.in_ok-close_link.ensures.fewer c.end.ensures.links

pub returns-in-None-clause-fewer : goal.returns-in-None-clause-fewer
returns-in-None-clause-fewer c = c.in_ok-close_link.ensures.fewer

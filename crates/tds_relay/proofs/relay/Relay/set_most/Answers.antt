use Rattle.tds_relay.proofs.spared.Filling.{first_none, puts_on}
use Rattle.std.proofs.Common.{inl, refl}
use Rattle.tds_relay.specs.Closings.{NoKey}
use Rattle.tds_relay.specs.Waiting.{IsLentInVain}
use Rattle.tds_relay.proofs.spared.Closings.{closes_more_on}
use Rattle.tds_relay.specs.declared.relay.Relay as code
use Rattle.tds_relay.proofs.lending.Clients.{clients_served}
use Rattle.tds_relay.proofs.lending.Fresh.{new_served}
use Rattle.tds_relay.proofs.steps.Staying.{stays_refl}
use Rattle.tds_relay.proofs.relay.Relay.set_most.Goals as goal

pub returns-clause-puts : goal.returns-clause-puts
returns-clause-puts c = λ reached.
    let old = c.args.self.now in
    puts_on c.serve_line.result NoKey old old c.serve_line.new.self reached (λ key e. e) (first_none old old refl (λ n. refl)) (c.serve_line.ensures.fills reached)

pub returns-clause-many : goal.returns-clause-many
returns-clause-many c = c.serve_line.ensures.many

pub returns-clause-closes : goal.returns-clause-closes
returns-clause-closes c =
    let old = c.args.self.now in
    let mid : code.Relay = record old { most = c.args.most } in
    closes_more_on c.serve_line.result (IsLentInVain mid) (IsLentInVain old) _ _
    (λ other lent. record {
      waits = lent.waits;
      free = lent.free;
      first = lent.first;
      at = lent.at;
      lent = lent.lent;
      moved = lent.moved;
      goes = record { go = lent.goes.go };
      opens = lent.opens;
      queues = lent.queues;
      turned = lent.turned;
    })
    c.serve_line.ensures.vain

pub returns-clause-given : goal.returns-clause-given
returns-clause-given c = c.serve_line.ensures.given

pub returns-clause-fresh : goal.returns-clause-fresh
returns-clause-fresh c =
    new_served c.serve_line.result c.args.self.now.size c.args.self.now.size c.args.self.now.features c.args.self.now.features c.args.self.now.links.items c.args.self.now.links.items c.serve_line.new.self.links.items refl refl (stays_refl c.args.self.now.links.items) c.serve_line.ensures.fresh

pub returns-clause-clients : goal.returns-clause-clients
returns-clause-clients c = λ reached.
    let old = c.args.self.now in
    let mid : code.Relay = record old { most = c.args.most } in
    clients_served c.serve_line.result NoKey old mid c.serve_line.new.self (record { stay = λ key not away. inl (inl refl) }) (λ key not there. there) (c.serve_line.ensures.aside reached)

pub returns-clause-behind : goal.returns-clause-behind
returns-clause-behind c = c.serve_line.ensures.behind

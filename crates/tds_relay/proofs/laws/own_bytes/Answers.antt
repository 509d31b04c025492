use Rattle.tds_relay.specs.Fronts.{machine_in}
use Rattle.tds_relay.specs.Ties as causes
use Rattle.tds_relay.proofs.steps.Reaching.{ok_more}
use Rattle.tds_relay.proofs.visits.Sent.{gives_by}
use Rattle.tds_relay.proofs.laws.own_bytes.Goals as goal

pub returns : goal.returns
returns c =
    ok_more c.came.result _ _
    (λ s. (machine_in c.said.new.self, gives_by (causes.Application c.args.key) _ _ c.in_ok-said.ensures.steps, gives_by (causes.Connection c.args.number) _ _ s)) c.came.ensures.steps

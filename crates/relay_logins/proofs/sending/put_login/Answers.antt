use Rattle.std.proofs.Common.{rules, ◌∙◌, sym}
use Rattle.std.proofs.lemmas.Bool.{eqb-true}
use Rattle.relay_logins.proofs.Packets.{put_next, no_packet}
use Rattle.relay_logins.proofs.sending.put_login.Goals as goal

-- src/sending.rt
pub loop-rest-preserved : goal.loop-rest-preserved
loop-rest-preserved c =
    put_next c.loop-rest.out.items c.put_packet.new.out.items c.loop-rest.rest.now c.split_at.result.0.now c.split_at.result.1.now c.status_before.result c.min.result
    (search rules) c.min.ensures c.split_at.ensures.front c.split_at.ensures.back c.status_before.ensures c.in_ok-put_packet.ensures
    ∙ c.loop-rest.invariant

-- src/sending.rt
pub returns : goal.returns
returns c = sym (no_packet c.loop-rest.out.items c.loop-rest.rest.now (eqb-true _ _ (sym c.loop-rest-test.ensures))) ∙ c.loop-rest.invariant

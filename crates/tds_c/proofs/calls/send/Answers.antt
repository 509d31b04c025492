use Rattle.std.proofs.Common.{refl, ap, ◌∙◌, [], Some}
use Rattle.tds_c.proofs.Sending.{is_out, packet_length, sends_from}
use Rattle.tds_c.proofs.calls.send.Goals as goal

pub returns-in-Err : goal.returns-in-Err
returns-in-Err c =
    let call = sends_from c.args.client.now c.args.message.now c.behind-left.result.now _ c.if-client-message.false c.behind-left.ensures c.in-Some.ensures.some in
    ((_, call, c.in-Err.ensures.refused, refl), (refl, refl))

pub returns-then-count-out : goal.returns-then-count-out
returns-then-count-out c =
    let call = sends_from c.args.client.now c.args.message.now c.behind-left.result.now _ c.if-client-message.false c.behind-left.ensures c.in-Some.ensures.some ∙ ap Some c.in-Ok.ensures.ok in
    ((_, _, _, call, packet_length _ _ c.in-Ok.ensures.header, c.if-count-out.true), (refl, refl))

pub returns : goal.returns
returns c =
    let call = sends_from c.args.client.now c.args.message.now c.behind-left.result.now _ c.if-client-message.false c.behind-left.ensures c.in-Some.ensures.some ∙ ap Some c.in-Ok.ensures.ok in
    (_, _, call, c.of.ensures ∙ is_out _ _ _ _ _ c.if-client-message.false c.behind-left.ensures c.in-Ok.ensures.fits c.in-Ok.ensures.rest, c.put_at-2.ensures c.in-Ok.packet.header c.args.out.now c.in-Ok.ensures.header (c.put_at.ensures [] c.args.out.now refl refl), packet_length _ _ c.in-Ok.ensures.header)

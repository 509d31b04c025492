use Rattle.std.proofs.Common.{◌∙◌, [], refl, ap, Some}
use Rattle.tds_c.proofs.Keeping.{finishes_from}
use Rattle.tds_c.proofs.Sending.{packet_length}
use Rattle.tds_c.proofs.Starting.{is_started}
use Rattle.tds_c.proofs.streams.finish.Goals as goal

pub returns-then-count-out : goal.returns-then-count-out
returns-then-count-out c =
    let call = finishes_from c.args.client.now c.args.kept.now _ c.in-Some.ensures.some ∙ ap Some c.in-Ok.ensures.ok in
    ((_, _, _, call, packet_length _ _ c.in-Ok.ensures.header, c.if-count-out.true), (refl, refl))

pub returns : goal.returns
returns c =
    let call = finishes_from c.args.client.now c.args.kept.now _ c.in-Some.ensures.some ∙ ap Some c.in-Ok.ensures.ok in
    (_, _, call, c.of.ensures ∙ is_started c.finish.new.self [] _ refl, c.put_at-2.ensures c.in-Ok.header c.args.out.now c.in-Ok.ensures.header (c.put_at.ensures [] c.args.out.now refl refl), packet_length _ _ c.in-Ok.ensures.header)

use Rattle.std.proofs.Common.{◌≡◌, ◌∙◌, ◌++◌, ℕ, List, ap, arith, length, rules, sym}
use Rattle.tds_packet.specs.declared.kind.Kind.TheVariants.{Answer}
use Rattle.tds_packet.specs.Sent.{sent_bytes}
use Rattle.tds_relay.proofs.bytes.Anew.{Fills, Fits, anew_by, ends_if, laid_more, laid_none, none_sent, some_last, some_left, split_is}
use Rattle.tds_relay.proofs.bytes.Cuts.{no_bytes}
use Rattle.tds_relay.proofs.steps.Reaching.{ok_more}
use Rattle.tds_relay.proofs.link.put_data.Goals as goal

pub packets-init : goal.packets-init
packets-init c = laid_none c.args.size c.args.packet_id c.args.on.now.items c.args.«data».now

pub packets-preserved : goal.packets-preserved
packets-preserved c =
    let fills : Fills c.args.size c.split_at.result.0.now = omega (arith, c.split_at.ensures.front_len, c.from-room.ensures, c.get.ensures.value, c.get.ensures.range.0) in
    let split = split_is c.packets.rest.now c.split_at.result.0.now c.split_at.result.1.now _ c.split_at.ensures.front c.split_at.ensures.back in
    laid_more c.args.size c.args.packet_id c.args.on.now.items c.packets.on.items c.put_sent.new.out.items c.args.«data».now c.packets.rest.now c.split_at.result.0.now c.split_at.result.1.now
    c.packets.invariant split
    (c.in_ok-put_sent.ensures.ok ∙ ap (λ (n : ℕ). c.packets.on.items ++ sent_bytes Answer n c.args.packet_id c.split_at.result.0.now) c.of_answer.ensures) fills
    (some_left c.packets.rest.now c.split_at.result.0.now c.split_at.result.1.now split (omega (arith, c.split_at.ensures.front_len, c.packets-test.true)))

pub returns-then-not-ends : goal.returns-then-not-ends
returns-then-not-ends c =
    let zero : length c.packets.rest.now ≡ 0 = search rules in
    let fits : Fits c.args.size c.packets.rest.now = omega (arith, c.packets-test.false, c.from-room.ensures, c.get.ensures.value, c.get.ensures.range.0) in
    anew_by c.args.size c.args.packet_id c.args.ends c.args.on.now.items c.packets.on.items c.packets.on.items c.args.«data».now c.packets.rest.now c.packets.invariant fits
    (none_sent c.args.packet_id c.args.ends c.packets.on.items c.packets.rest.now c.if-not-ends.true (no_bytes c.packets.rest.now zero))

pub returns : goal.returns
returns c =
    let fits : Fits c.args.size c.packets.rest.now = omega (arith, c.packets-test.false, c.from-room.ensures, c.get.ensures.value, c.get.ensures.range.0) in
    ok_more c.put_sent-2.result _ _
    (λ sent. anew_by c.args.size c.args.packet_id c.args.ends c.args.on.now.items c.packets.on.items c.put_sent-2.new.out.items c.args.«data».now c.packets.rest.now c.packets.invariant fits
    (sent ∙ ap (λ (n : ℕ). c.packets.on.items ++ sent_bytes Answer n c.args.packet_id c.packets.rest.now) c.of_answer-2.ensures
    ∙ ap (λ (more : List ℕ). c.packets.on.items ++ more) (sym (some_last c.args.packet_id c.args.ends c.packets.rest.now (ends_if c.args.ends c.is_empty.result c.packets.rest.now c.is_empty.ensures c.else-is_empty.either)))))
    c.put_sent-2.ensures.ok

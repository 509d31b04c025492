use Rattle.std.proofs.Common.{rules, ◌≡◌, ◌<◌, ◌++◌}
use Rattle.std.proofs.lemmas.List.{take_rest}
use Rattle.std.proofs.lemmas.Result.{IfOk-weaker}
use Rattle.tds_show.specs.Packets.{content}
use Rattle.tds_show.proofs.TokensShown.{stops, no_more, goes_on, faulted, next_message}
use Rattle.tds_show.proofs.tokens.answers.put_packets.Goals as goal

pub returns-in_default : goal.returns-in_default
returns-in_default c =
    let m : 0 < c.packets.most = search rules in
    IfOk-weaker c.put_message.result _ _ (λ is_well k. stops _ _ _ c.packets.most c.packets.message.items c.packets.rest.now c.as_slice.result.now c.front_of-front.result m
    c.front_of-front.ensures.front c.in_default.not-Packet (search rules) c.packets.invariant.does k) c.put_message.ensures.shown

pub returns-then-not-branch : goal.returns-then-not-branch
returns-then-not-branch c =
    let m : 0 < c.packets.most = search rules in
    let d : c.as_slice-then-ends.result.now ≡ c.packets.message.items ++ content c.in-Packet.length c.packets.rest.now = search rules in
    faulted _ _ _ c.packets.most c.packets.message.items c.packets.rest.now c.as_slice-then-ends.result.now c.in-Packet.length c.in-Packet.ends m
    c.in-Packet.ensures.front (search rules) d c.packets.invariant.does (search rules) (search rules)

pub packets-preserved-then-ends : goal.packets-preserved-then-ends
packets-preserved-then-ends c =
    let m : 0 < c.packets.most = search rules in
    let d : c.as_slice-then-ends.result.now ≡ c.packets.message.items ++ content c.in-Packet.length c.packets.rest.now = search rules in
    let t =
    next_message _ _ _ c.packets.most c.packets.message.items c.packets.rest.now c.as_slice-then-ends.result.now c.clear.new.self.items c.in-Packet.length c.in-Packet.ends m
    c.in-Packet.ensures.front (search rules) d c.clear.ensures.items c.packets.invariant.does c.in_ok-put_message.ensures.shown (search rules) in
    rw take_rest (record { does = t; plain = c.in_ok-put_message.ensures.plain (search rules) })

pub packets-preserved : goal.packets-preserved
packets-preserved c =
    let m : 0 < c.packets.most = search rules in
    let d : c.extend_from_slice.new.self.items ≡ c.packets.message.items ++ content c.in-Packet.length c.packets.rest.now = search rules in
    rw take_rest (record {
      does =
          goes_on _ _ c.packets.most c.packets.message.items c.packets.rest.now c.extend_from_slice.new.self.items c.in-Packet.length c.in-Packet.ends m
          c.in-Packet.ensures.front (search rules) d c.packets.invariant.does;
      plain = c.packets.invariant.plain;
    })

pub returns : goal.returns
returns c =
    let e : c.packets.most ≡ 0 = search rules in
    IfOk-weaker c.put_message-2.result _ _ (λ is_well k. no_more _ _ _ c.packets.most c.packets.message.items c.packets.rest.now c.as_slice-2.result.now e (search rules)
    c.packets.invariant.does k) c.put_message-2.ensures.shown

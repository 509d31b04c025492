use Rattle.std.proofs.Common.{◌≡◌, ◌∙◌, ◌≤◌, ◌<◌, ◌+◌, ◌-◌, ◌*◌, ◌++◌, List, ℕ, false, take, length, append_assoc, ap, sym, subst, rules, arith, refl}
use Rattle.tds_packet.specs.Resets.{mark_bit}
use Rattle.tds_packet.specs.Sent.{end_bit}
use Rattle.tds_client.specs.Packets.{packet_bytes}
use Rattle.tds_client.specs.Streams.{packets_of}
use Rattle.tds_client.proofs.Filled.{enough_left, one_put}
use Rattle.tds_client.proofs.packets.put_full.Goals as goal

pub packets-preserved : goal.packets-preserved
packets-preserved c =
    let f = c.args.filling in
    let w = c.packets in
    let i = w.invariant in
    let some : 0 < w.count = omega arith in
    let packet : List ℕ = packet_bytes f.kind (end_bit false + mark_bit w.before f.mark) w.before (take f.room w.left.now) in
    let put : c.put-full.new.out.items ≡ w.out.items ++ packet = rw (← c.split_at.ensures.front, ← c.of_request-status.ensures) (search rules) in
    record {
      all = ap (λ (xs : List ℕ). c.put-full.new.out.items ++ packets_of f.room f.kind f.mark (w.before + 1) (w.count - 1) xs) c.split_at.ensures.back
          ∙ one_put f.room f.kind f.mark w.before w.count w.left.now w.out.items c.put-full.new.out.items _ some i.all put;
      more = (i.more.0 ++ packet, put ∙ ap (λ (xs : List ℕ). xs ++ packet) i.more.1 ∙ append_assoc _ i.more.0 packet);
      enough = subst (λ (xs : List ℕ). (w.count - 1) * f.room ≤ length xs) (sym c.split_at.ensures.back) (enough_left f.room w.count w.left.now some i.enough);
      counted = omega (arith, i.counted, some);
      same = refl;
    }

use Rattle.std.proofs.Common.{rules, arith}
use Rattle.proxy_header.proofs.Joining.{takes_on}
use Rattle.proxy_header.proofs.reader.HeaderReader.+take.Goals as goal

pub returns-in_ok-count-in-Missing-2 : goal.returns-in_ok-count-in-Missing-2
returns-in_ok-count-in-Missing-2 t c = record {
  taken = takes_on c.args.self.now.bytes.items c.extend_from_slice.new.self.items c.args.piece.now c.split_at.result.0.now c.split_at.result.1.now c.min.result _ _ _
      (omega (arith, c.min.ensures)) c.split_at.ensures.front c.split_at.ensures.back (grind (arith, c.split_at.ensures.front_len, c.min.ensures)) (search rules) c.in_ok-count-in-Missing-2.ensures.taken;
}

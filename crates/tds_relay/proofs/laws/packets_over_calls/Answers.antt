use Rattle.std.proofs.Common.{List, subst, sym, ℕ}
use Rattle.tds_packet.specs.Stream.{IsLess}
use Rattle.tds_relay.proofs.bytes.Following.{follow_reads}
use Rattle.tds_relay.proofs.laws.packets_over_calls.Goals as goal

pub returns-clause-packets : goal.returns-clause-packets
returns-clause-packets c = λ number calls had now none f.
    follow_reads calls had now (subst (λ (xs : List ℕ). IsLess had xs) (sym none) (c.reads_packets.ensures.nothing had)) f

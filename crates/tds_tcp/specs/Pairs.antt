-- The connections over TCP.
use Rattle.std.specs.Prelude.{ℕ, Option, option_map}
use Rattle.std.specs.Ordering.{nat_cmp}
use Rattle.std.specs.BTreeMap.{BTreeMap, get}
use Rattle.tds_play.specs.Pipe.{Pipe}
use Rattle.tds_tcp.specs.declared.pair.Pair.{Pair}

abbrev pub pipe_of : {S : Type 0} → Pair S → Pipe
pipe_of p = record {
  to_server = p.to_server;
  to_client = p.to_client;
  open_failures = p.open_failures;
  is_cut = p.is_cut;
}

abbrev pub pipe_at : {S : Type 0} → BTreeMap ℕ (Pair S) → ℕ → Option Pipe
pipe_at pairs conn = option_map pipe_of (get nat_cmp pairs conn)

-- What a carrier in memory holds.
use Rattle.std.specs.Prelude.{ℕ, take, Option, option_map}
use Rattle.std.specs.Ordering.{nat_cmp}
use Rattle.std.specs.BTreeMap.{BTreeMap, get}
use Rattle.tds_play.specs.Kept.{Kept}
use Rattle.tds_play.specs.Pipe.{Pipe, Traffic}
use Rattle.tds_play.specs.declared.memory.queue.Queue.{Queue}
use Rattle.tds_play.specs.declared.memory.MemoryPipe.{MemoryPipe}

-- What came out is what stands before the place.
abbrev pub kept_in : Queue → Kept
kept_in q = record { handed = q.bytes.items; came = take q.place q.bytes.items }

-- Memory fails at no call.
abbrev pub traffic_in : Queue → Traffic
traffic_in q = record {
  handed = (kept_in q).handed;
  came = (kept_in q).came;
  send_failures = 0;
  carry_failures = 0;
}

abbrev pub pipe_of : MemoryPipe → Pipe
pipe_of p = record {
  to_server = traffic_in p.to_server;
  to_client = traffic_in p.to_client;
  open_failures = 0;
  is_cut = p.is_cut;
}

abbrev pub pipe_at : BTreeMap ℕ MemoryPipe → ℕ → Option Pipe
pipe_at pipes conn = option_map pipe_of (get nat_cmp pipes conn)

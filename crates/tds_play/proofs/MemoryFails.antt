-- No call of a carrier in memory fails, and what came is the first of what was handed over.
use Rattle.std.proofs.Common.{◌≡◌, ℕ, Option, Some, None, length, take, refl, sym, ap}
use Rattle.std.proofs.lemmas.List.{length-take-le}
use Rattle.std.specs.BTreeMap.{BTreeMap, get}
use Rattle.std.specs.Ordering.{nat_cmp}
use Rattle.std.specs.Prelude.{option_map}
use Rattle.tds_packet.specs.declared.kind.Direction.TheVariants.{ToServer, ToClient}
use Rattle.tds_play.specs.Pipe.{AreFaithful, IsFaithful}
use Rattle.tds_play.specs.declared.memory.queue.Queue.{Queue}
use Rattle.tds_play.specs.declared.memory.MemoryPipe.{MemoryPipe}
use Rattle.tds_play.specs.Failures.{Send, Carry, HasNoFailure}
use Rattle.tds_play.specs.Memory.{pipe_at, pipe_of}

pipe_is_fine : (p : Option MemoryPipe) → HasNoFailure (option_map pipe_of p)
pipe_is_fine None call = refl
pipe_is_fine (Some p) (Send ToServer) = refl
pipe_is_fine (Some p) (Carry ToServer) = refl
pipe_is_fine (Some p) call = refl

pub none_fails : (pipes : BTreeMap ℕ MemoryPipe) (n : ℕ) → HasNoFailure (pipe_at pipes n)
none_fails pipes n = pipe_is_fine (get nat_cmp pipes n)

queue_is_faithful : (q : Queue) → take q.place q.bytes.items ≡ take (length (take q.place q.bytes.items)) q.bytes.items
queue_is_faithful q = sym (ap (λ (n : ℕ). take n q.bytes.items) (length-take-le q.place q.bytes.items q.within))

pipe_is_faithful : (p : Option MemoryPipe) → IsFaithful (option_map pipe_of p)
pipe_is_faithful None d = refl
pipe_is_faithful (Some p) ToServer = queue_is_faithful p.to_server
pipe_is_faithful (Some p) ToClient = queue_is_faithful p.to_client

pub all_faithful : (pipes : BTreeMap ℕ MemoryPipe) → AreFaithful (pipe_at pipes)
all_faithful pipes n = pipe_is_faithful (get nat_cmp pipes n)

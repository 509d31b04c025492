use Rattle.std.proofs.Common.{◌≡◌, ◌+◌, length}
use Rattle.tds_relay.specs.Few.{Few, IsSeated}
use Rattle.tds_relay.specs.Apart.{LendsInTurn}
use Rattle.tds_relay.specs.Fronts.{MovedOn, ends_in, core_in, machine_in}
use Rattle.tds_relay.specs.Machine.{IsLedTo}
use Rattle.tds_relay.specs.Pool.{Sharing}
use Rattle.tds_relay.specs.Lent.{AnewIfLent, LastBut, LendsBehind, LendsInLine, KeepsGiven, ShutGiven, StaysDialled}
use Rattle.tds_relay.specs.Ordering.{GrowsByOrders, OpensNew, StayOrdered}
use Rattle.tds_relay.specs.Queues.{queues_in}
use Rattle.tds_relay.specs.Reads.{Opens}
use Rattle.tds_relay.specs.Sparing.{AllGo, AwayRest}
use Rattle.tds_relay.specs.Ties.{LedOn, IsReached, pool_in}
use Rattle.tds_relay.specs.TokenParsers.{AllStand}
use Rattle.tds_relay.proofs.spared.Apart.{Unserved}
use Rattle.tds_relay.specs.Closings.{ClosesOnly, IsWaiting, register_in}
use Rattle.tds_relay.specs.Waiting.{IsLentInVain}
use Rattle.tds_relay.specs.Cleaning.{cleaned_in}
use Rattle.tds_relay.specs.Coming.{AskOrGo}
use Rattle.tds_relay.proofs.relay.Relay.serve_line.Given as goal

abbrev pub invariant-line : goal.invariant-line
invariant-line l = record {
  goes : LedOn (pool_in l.fn.self.pool) (pool_in l.self.pool);
  kept : queues_in l.self.applications ≡ queues_in l.fn.self.applications;
  moves : MovedOn (core_in l.fn.self) (core_in l.self);
  opens : Opens l.fn.self.links.items l.self.links.items;
  stand : AllStand l.fn.self.pool.service l.self.pool.service;
  going : AllGo l.fn.self l.self;
  asks : AskOrGo l.fn.self.applications l.self.applications;
  ordered : StayOrdered l.fn.self.orders.items l.self.orders.items;
  unserved : Unserved (core_in l.fn.self) (core_in l.self);
  lends : LendsInTurn (pool_in l.fn.self.pool).line (ends_in l.fn.self.applications) (core_in l.self);
  few : Few l.fn.self.most l.fn.self.links.items l.self.links.items;
  shorter : l.turn + length l.self.pool.line.items ≡ length l.fn.self.pool.line.items;
  lasting : LastBut (IsWaiting (pool_in l.fn.self.pool).line) (register_in l.fn.self) (register_in l.self);
  closes : ClosesOnly (IsWaiting (pool_in l.fn.self.pool).line) (register_in l.fn.self) (register_in l.self);
  vain : ClosesOnly (IsLentInVain l.fn.self) (register_in l.fn.self) (register_in l.self);
  seated : IsSeated l.fn.self → IsSeated l.self;
  counts : cleaned_in l.self ≡ cleaned_in l.fn.self;
  opening : OpensNew l.fn.self l.self;
  many : GrowsByOrders l.fn.self l.self;
  fills : IsReached (pool_in l.fn.self.pool) → LendsInLine l.fn.self l.self;
  aside : IsReached (pool_in l.fn.self.pool) → AwayRest l.fn.self l.self;
  given : KeepsGiven l.fn.self l.self;
  still : ShutGiven l.fn.self l.self;
  fresh : StaysDialled l.fn.self.size l.fn.self.features l.fn.self.links.items l.self.links.items;
  anew : IsReached (pool_in l.fn.self.pool) → AnewIfLent l.fn.self l.self;
  behind : IsReached (pool_in l.fn.self.pool) → (sharing : Sharing) → IsLedTo sharing (machine_in l.fn.self) → LendsBehind l.fn.self l.self;
}

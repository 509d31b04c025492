use Rattle.std.proofs.Common.{◌≡◌, ◌≤◌, length, ℕ}
use Rattle.tds_relay.specs.Cleaning.{CleansAlone, CountsLost, CleaningsWaitAt}
use Rattle.tds_relay.specs.Closings.{ClosesOnly, but_told, register_in}
use Rattle.tds_relay.specs.Waiting.{HeardFor, IsItsHolders, KeepsWaiting}
use Rattle.tds_relay.specs.Coming.{AllAlong, StreamsAnew, StreamsTold, asking_in}
use Rattle.tds_relay.specs.Faults.{IsRefusedOn}
use Rattle.tds_relay.specs.Few.{NoneNew, IsSeated}
use Rattle.std.specs.Prelude.{None}
use Rattle.tds_relay.specs.Apart.{SparesOthers}
use Rattle.tds_relay.specs.Fronts.{core_in, machine_in}
use Rattle.tds_relay.specs.Lent.{Any, FirstKeeps, HearsAny, ShutStay}
use Rattle.tds_relay.specs.Ordering.{StayOrdered, opens_in}
use Rattle.tds_relay.specs.Queues.{names_in, queues_in}
use Rattle.tds_relay.specs.Reads.{OpensOthers, answer_at, open_at, waits_on}
use Rattle.tds_relay.specs.Core.{holder}
use Rattle.tds_relay.specs.Ties.{Connection, LedTo, IsReached, pool_in}
use Rattle.tds_relay.specs.Waking.{Wakes}
use Rattle.tds_relay.proofs.bytes.Turns.{InTurns}
use Rattle.tds_relay.specs.Sparing.{OffGo}
use Rattle.tds_relay.proofs.relay.Relay.hear_all.Given as goal

abbrev pub invariant-taking : goal.invariant-taking
invariant-taking l = record {
  turns : InTurns (open_at l.fn.number l.self.links.items) l.rest l.counter (length l.fn.piece);
  goes : LedTo (Connection l.fn.number) (pool_in l.fn.self.pool) (pool_in l.self.pool);
  names : names_in l.self.applications ≡ names_in l.fn.self.applications;
  anew : StreamsAnew l.fn.number (answer_at l.fn.number l.fn.self.links.items) (open_at l.fn.number l.fn.self.links.items) (machine_in l.fn.self) l.fn.self.pool.service l.fn.piece l.rest (answer_at l.fn.number l.self.links.items)
      (open_at l.fn.number l.self.links.items) (machine_in l.self) l.self.pool.service;
  told : StreamsTold l.fn.number (asking_in l.fn.self.applications) (open_at l.fn.number l.fn.self.links.items) (machine_in l.fn.self) l.fn.self.pool.service l.fn.piece l.rest (asking_in l.self.applications)
      (open_at l.fn.number l.self.links.items) (machine_in l.self) l.self.pool.service;
  others : OpensOthers l.fn.number l.fn.self.links.items l.self.links.items;
  bodies : IsReached (pool_in l.fn.self.pool) → AllAlong l.fn.self l.self;
  closes : ClosesOnly (HeardFor l.fn.number l.fn.piece l.fn.self) (but_told (register_in l.self) (register_in l.fn.self)) (register_in l.self);
  spares : IsReached (pool_in l.fn.self.pool) → SparesOthers l.fn.number None (core_in l.fn.self) (core_in l.self);
  refused : IsRefusedOn l.fn.number l.fn.self.refused l.self.refused;
  ordered : StayOrdered l.fn.self.orders.items l.self.orders.items;
  none : NoneNew l.fn.self.links.items l.self.links.items;
  wakes : Wakes (queues_in l.fn.self.applications) l.self.applications l.self.orders.items;
  seated : IsSeated l.fn.self → IsSeated l.self;
  apart : OffGo l.fn.number None l.fn.self l.self;
  many : length l.self.links.items ≤ length l.fn.self.links.items;
  counts : CountsLost l.fn.number l.fn.self l.self;
  cleans : IsReached (pool_in l.fn.self.pool) → holder (pool_in l.fn.self.pool) l.fn.number ≡ None → CleansAlone l.fn.self.pool.service.given l.self.pool.service.given (waits_on l.fn.number l.fn.self.links.items) (waits_on l.fn.number l.self.links.items);
  keeps : IsReached (pool_in l.fn.self.pool) → FirstKeeps (IsItsHolders l.fn.number l.fn.self) l.fn.self l.self;
  rests : IsSeated l.fn.self → (key : ℕ) → KeepsWaiting l.fn.number l.fn.self l.self key;
  awaits : CleaningsWaitAt l.fn.self l.self;
  opening : opens_in l.self.orders.items ≡ opens_in l.fn.self.orders.items;
  given : HearsAny l.fn.number l.fn.self.links.items l.self.links.items;
  still : ShutStay Any l.fn.self.links.items l.self.links.items;
}

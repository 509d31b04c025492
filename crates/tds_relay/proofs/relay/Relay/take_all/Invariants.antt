use Rattle.std.proofs.Common.{◌≡◌, ◌≤◌, ◌+◌, length}
use Rattle.tds_relay.specs.Asking.{AsksByBytes}
use Rattle.tds_relay.specs.Bodies.{Carries, body_of, standing_in}
use Rattle.tds_relay.specs.Waking.{HeedsAll}
use Rattle.tds_relay.specs.Fronts.{machine_in}
use Rattle.tds_relay.specs.Queues.{names_in}
use Rattle.tds_relay.specs.Reads.{LinksStay}
use Rattle.tds_relay.specs.Waiting.{HasReason, IsRightlyKept}
use Rattle.tds_relay.specs.Reasons.{ItselfFor}
use Rattle.tds_relay.specs.Taking.{Tells}
use Rattle.tds_relay.specs.Sparing.{OthersRest}
use Rattle.tds_relay.specs.Ties.{Application, LedTo, IsReached, pool_in}
use Rattle.tds_relay.specs.TokenParsers.{AllStand}
use Rattle.tds_relay.specs.Closings.{ClosesOnly, register_in}
use Rattle.tds_relay.specs.Few.{IsSeated}
use Rattle.tds_relay.specs.Lent.{AnewIfLent, OthersKeepAt}
use Rattle.tds_relay.specs.Ordering.{opens_in}
use Rattle.tds_relay.specs.Cleaning.{CleaningsWaitAt}
use Rattle.tds_relay.proofs.relay.Relay.take_all.Given as goal

abbrev pub invariant-taking : goal.invariant-taking
invariant-taking l = record {
  turns : length l.rest + l.counter ≤ length l.fn.piece;
  goes : LedTo (Application l.fn.key) (pool_in l.fn.self.pool) (pool_in l.self.pool);
  names : names_in l.self.applications ≡ names_in l.fn.self.applications;
  tells : Tells l.fn.key (machine_in l.fn.self) l.fn.piece l.rest (machine_in l.self);
  asks : AsksByBytes l.fn.key (machine_in l.fn.self) l.fn.piece l.rest l.self.links.items (machine_in l.self);
  carries : Carries l.fn.key (machine_in l.fn.self) l.fn.piece l.rest (body_of l.fn.key l.fn.self) (body_of l.fn.key l.self) (machine_in l.self);
  cancels : HeedsAll l.fn.key (machine_in l.fn.self) l.fn.piece l.rest (standing_in l.fn.key l.fn.self) (standing_in l.fn.key l.self) (machine_in l.self);
  read : LinksStay l.fn.self.links.items l.self.links.items;
  stand : AllStand l.fn.self.pool.service l.self.pool.service;
  closes : ClosesOnly (ItselfFor l.fn.key (HasReason l.fn.key l.fn.piece l.fn.self)) (register_in l.fn.self) (register_in l.self);
  seated : IsSeated l.fn.self → IsSeated l.self;
  opening : opens_in l.self.orders.items ≡ opens_in l.fn.self.orders.items;
  others : IsReached (pool_in l.fn.self.pool) → OthersRest l.fn.key l.fn.self l.self;
  right : IsRightlyKept l.fn.key l.fn.self → IsRightlyKept l.fn.key l.self;
  aside : IsReached (pool_in l.fn.self.pool) → OthersKeepAt l.fn.key l.fn.self l.self;
  anew : IsReached (pool_in l.fn.self.pool) → AnewIfLent l.fn.self l.self;
  awaits : CleaningsWaitAt l.fn.self l.self;
}

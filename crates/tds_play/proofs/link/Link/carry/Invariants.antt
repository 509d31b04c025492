use Rattle.std.proofs.Common.{◌≡◌, ◌≤◌, ◌-◌, false}
use Rattle.tds_play.specs.Failures.{FailsNoMore}
use Rattle.tds_play.specs.Pipe.{AreSame, Brings, IsFaithful, MayCarry, since}
use Rattle.tds_play.specs.Ties.{IsTied, counted, with_counted}
use Rattle.tds_play.specs.Reads.{BringsAny}
use Rattle.tds_play.proofs.link.Link.carry.Given as goal

abbrev pub invariant-pieces : goal.invariant-pieces
invariant-pieces g l =
    let pipes = g.C.EventCarrier.pipes in
    record {
      number : l.self.number ≡ l.fn.self.number;
      live : l.self.is_cut ≡ false;
      tied : IsTied l.self (pipes l.carrier l.fn.self.number);
      others : AreSame (pipes l.fn.carrier) (pipes l.carrier) l.fn.self.number;
      within : l.left ≤ l.count;
      underway : l.left ≤ counted l.self l.direction;
      counted : l.self ≡ with_counted l.fn.self l.direction (counted l.fn.self l.direction - (l.count - l.left));
      begun : g.C.EventCarrier.began l.carrier ≡ g.C.EventCarrier.began l.fn.carrier;
      early : MayCarry g.C.EventCarrier.is_told (since (g.C.EventCarrier.began l.carrier) l.fn.self.number) (pipes l.carrier l.fn.self.number);
      faithful : IsFaithful (pipes l.carrier l.fn.self.number) → IsFaithful (pipes l.fn.carrier l.fn.self.number);
      brought : IsFaithful (pipes l.carrier l.fn.self.number)
          → Brings (pipes l.fn.carrier l.fn.self.number) l.direction (l.count - l.left) l.fn.out.items l.out.items (pipes l.carrier l.fn.self.number) false;
      any : BringsAny l.direction (l.count - l.left) l.fn.out.items l.out.items (pipes l.fn.carrier l.fn.self.number) (pipes l.carrier l.fn.self.number);
      failed : FailsNoMore (pipes l.fn.carrier l.fn.self.number) (pipes l.carrier l.fn.self.number);
    }

abbrev pub decreases-pieces : goal.decreases-pieces
decreases-pieces g l = l.left

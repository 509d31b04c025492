use Rattle.std.proofs.Common.{List, sym, subst}
use Rattle.tds_service.specs.declared.seat.Seat as code
use Rattle.tds_service.specs.Rising.{RiseFrom, numbers_in}
use Rattle.tds_service.proofs.Rising.{taken}
use Rattle.tds_service.proofs.service.giving.close.Goals as goal

pub returns-in-Closed-clause-rising : goal.returns-in-Closed-clause-rising
returns-in-Closed-clause-rising c = λ top h.
    subst (λ (cs : List code.Seat). RiseFrom 0 (numbers_in cs) top) (sym c.remove.ensures.by_index.2) (taken 0 c.args.seats.now.items c.args.index top h)

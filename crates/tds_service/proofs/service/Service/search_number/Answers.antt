use Rattle.std.proofs.Common.{List, suc, sym, subst}
use Rattle.tds_numbers.specs.Rising.{Rises}
use Rattle.tds_service.specs.declared.seat.Seat as code
use Rattle.tds_service.specs.Rising.{numbers_in}
use Rattle.tds_service.proofs.Rising.{rises}
use Rattle.tds_service.proofs.service.Service.search_number.Goals as goal

pub find_counted-requires-clause-rising : goal.find_counted-requires-clause-rising
find_counted-requires-clause-rising c =
    let s = c.args.self.now in
    subst (λ (cs : List code.Seat). Rises (numbers_in cs)) (sym c.deref.ensures.value) (rises 0 (numbers_in s.seats.items) (suc s.last) s.rising)

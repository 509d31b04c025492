use Rattle.std.proofs.Common.{ap, is_some, sym}
use Rattle.tds_service.specs.Service.{is_lendable}
use Rattle.tds_service.proofs.Tables.{found_here, here_in}
use Rattle.tds_service.proofs.service.Service.has_free.Goals as goal

pub returns-in-Some : goal.returns-in-Some
returns-in-Some c =
    let items = c.args.self.now.seats.items in
    let seats = c.deref.result.now in
    let here = here_in is_lendable items seats seats c.in-Some.field-0 c.deref.ensures.value c.deref.ensures.value c.in-Some.ensures.first in
    sym (ap is_some (found_here is_lendable items seats c.in-Some.field-0 here))

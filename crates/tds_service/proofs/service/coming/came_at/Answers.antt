use Rattle.std.proofs.Common.{◌∙◌, get_or, sym, ap}
use Rattle.tds_service.specs.declared.connection.Connection.{Connection}
use Rattle.tds_service.specs.declared.seat.Seat.{Seat}
use Rattle.tds_service.proofs.Keeping.{keeps_other}
use Rattle.tds_service.proofs.Tables.{same_get}
use Rattle.tds_service.proofs.Indexing.{holders_set, drained_held}
use Rattle.tds_service.proofs.Rising.{numbers_set}
use Rattle.tds_service.proofs.Sizing.{sizes_set}
use Rattle.tds_service.proofs.service.coming.came_at.Goals as goal

pub returns-clause-others : goal.returns-clause-others
returns-clause-others c = λ n s e other.
    let same = same_get c.args.seats.now c.args.index c.index-seats-index.result s c.requires ∙ sym e in
    keeps_other n c.index-seats-index.result _ c.args.seats.now c.args.index c.requires c.settle.ensures.0 (λ f. other (f ∙ ap (λ (x : Seat). x.number) same))

pub returns-clause-sizes : goal.returns-clause-sizes
returns-clause-sizes c =
    sizes_set c.index-seats-index.result _ c.args.seats.now c.args.index c.requires (ap (λ (x : Connection). x.client.size) c.settle.ensures.1 ∙ c.hear_packet-outcome.ensures.size)

pub returns-clause-numbers : goal.returns-clause-numbers
returns-clause-numbers c = numbers_set c.index-seats-index.result _ c.args.seats.now c.args.index c.requires c.settle.ensures.0

pub returns-clause-holders : goal.returns-clause-holders
returns-clause-holders c = holders_set c.index-seats-index.result _ c.args.seats.now c.args.index c.requires c.settle.ensures.0 (drained_held (get_or c.args.seats.now c.args.index c.index-seats-index.result).place _ _ c.settle.ensures.2)

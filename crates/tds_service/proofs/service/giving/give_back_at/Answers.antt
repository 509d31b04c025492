use Rattle.std.proofs.Common.{refl}
use Rattle.tds_service.proofs.Keeping.{keeps_set}
use Rattle.tds_service.proofs.Rising.{numbers_set}
use Rattle.tds_service.proofs.Sizing.{sizes_set}
use Rattle.tds_service.proofs.service.giving.give_back_at.Goals as goal

pub returns-in-Ok-clause-keeps : goal.returns-in-Ok-clause-keeps
returns-in-Ok-clause-keeps c = λ n. keeps_set n c.index-seats-index.result _ c.args.seats.now c.args.index c.requires refl c.cancel_any.ensures.parser

pub returns-in-Ok-clause-sizes : goal.returns-in-Ok-clause-sizes
returns-in-Ok-clause-sizes c = sizes_set c.index-seats-index.result _ c.args.seats.now c.args.index c.requires c.cancel_any.ensures.size

pub returns-in-Ok-clause-numbers : goal.returns-in-Ok-clause-numbers
returns-in-Ok-clause-numbers c = numbers_set c.index-seats-index.result _ c.args.seats.now c.args.index c.requires refl

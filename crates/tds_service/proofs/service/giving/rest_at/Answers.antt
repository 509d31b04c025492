use Rattle.std.proofs.Common.{refl}
use Rattle.tds_service.proofs.Keeping.{keeps_set}
use Rattle.tds_service.proofs.Rising.{numbers_set}
use Rattle.tds_service.proofs.Sizing.{sizes_set}
use Rattle.tds_service.proofs.service.giving.rest_at.Goals as goal

pub returns-clause-keeps : goal.returns-clause-keeps
returns-clause-keeps c = λ n. keeps_set n c.index-seats-index.result _ c.args.seats.now c.args.index c.requires refl refl

pub returns-clause-sizes : goal.returns-clause-sizes
returns-clause-sizes c = sizes_set c.index-seats-index.result _ c.args.seats.now c.args.index c.requires refl

pub returns-clause-numbers : goal.returns-clause-numbers
returns-clause-numbers c = numbers_set c.index-seats-index.result _ c.args.seats.now c.args.index c.requires refl

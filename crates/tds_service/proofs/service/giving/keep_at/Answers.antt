use Rattle.std.proofs.Common.{refl}
use Rattle.tds_service.proofs.Keeping.{keeps_set}
use Rattle.tds_service.proofs.Rising.{numbers_set}
use Rattle.tds_service.proofs.Sizing.{sizes_set}
use Rattle.tds_service.proofs.service.giving.keep_at.Goals as goal

pub returns-then-is_open-clause-keeps : goal.returns-then-is_open-clause-keeps
returns-then-is_open-clause-keeps c = λ n. keeps_set n c.index-seats-index.result _ c.args.seats.now c.args.index c.requires refl refl

pub returns-then-is_open-clause-sizes : goal.returns-then-is_open-clause-sizes
returns-then-is_open-clause-sizes c = sizes_set c.index-seats-index.result _ c.args.seats.now c.args.index c.requires refl

pub returns-then-is_open-clause-numbers : goal.returns-then-is_open-clause-numbers
returns-then-is_open-clause-numbers c = numbers_set c.index-seats-index.result _ c.args.seats.now c.args.index c.requires refl

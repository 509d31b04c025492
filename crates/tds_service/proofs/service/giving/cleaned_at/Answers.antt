use Rattle.std.proofs.Common.{refl}
use Rattle.tds_service.proofs.Keeping.{keeps_set}
use Rattle.tds_service.proofs.Rising.{numbers_set}
use Rattle.tds_service.proofs.Sizing.{sizes_set}
use Rattle.tds_service.proofs.service.giving.cleaned_at.Goals as goal

pub returns-in-Some-clause-keeps : goal.returns-in-Some-clause-keeps
returns-in-Some-clause-keeps c = λ n. keeps_set n c.index-seats-index.result _ c.args.seats.now c.args.index c.requires refl refl

pub returns-in-Some-clause-sizes : goal.returns-in-Some-clause-sizes
returns-in-Some-clause-sizes c = sizes_set c.index-seats-index.result _ c.args.seats.now c.args.index c.requires refl

pub returns-in-Some-clause-numbers : goal.returns-in-Some-clause-numbers
returns-in-Some-clause-numbers c = numbers_set c.index-seats-index.result _ c.args.seats.now c.args.index c.requires refl

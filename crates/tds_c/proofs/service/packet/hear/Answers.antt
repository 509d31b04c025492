use Rattle.std.proofs.Common.{◌≡◌, refl, sym, rules}
use Rattle.std.specs.Prelude.{Err}
use Rattle.tds_c.specs.declared.service.packet.Without.TheVariants as without
use Rattle.tds_c.proofs.service.Here.{hears_in}
use Rattle.tds_c.proofs.service.packet.hear.Goals as goal

pub returns-in-Err : goal.returns-in-Err
returns-in-Err c = (Err without.NoTable, search rules, search rules)

pub returns-in_default-find : goal.returns-in_default-find
returns-in_default-find c = (Err without.Unknown, search rules, search rules)

pub returns : goal.returns
returns c =
    hears_in c.args.service.now c.args.seats.now c.in-Some.index c.args.number _ c.in_default.ensures.yes c.in-Some.ensures.first
    _ _ _ refl refl c.hear_packet.ensures

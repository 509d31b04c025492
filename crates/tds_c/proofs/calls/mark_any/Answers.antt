use Rattle.std.proofs.Common.{rules, refl}
use Rattle.tds_client.specs.Session.{unless_idle}
use Rattle.tds_c.specs.Calls.{mark_on}
use Rattle.tds_c.proofs.Refusing.{is_first}
use Rattle.tds_c.proofs.calls.mark_any.Goals as goal

pub returns-in-Err : goal.returns-in-Err
returns-in-Err c =
    ((mark_on c.args.reset c.in-Some.held, search rules, is_first (unless_idle c.in-Some.held.stage) _ c.in-Err.refusal c.in-Err.ensures.refused, refl), (refl, refl))

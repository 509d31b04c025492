use Rattle.std.proofs.Common.{◌∙◌, [], sym, ap}
use Rattle.tds_judge.specs.Framing.{Run, run_of}
use Rattle.tds_judge.specs.Told.{has_breach}
use Rattle.laws_never_blamed.specs.Called.{acts_of, new_end}
use Rattle.laws_never_blamed.proofs.Calls.{called_shows}
use Rattle.laws_never_blamed.proofs.laws.our_calls_are_never_blamed.Goals as goal

pub returns : goal.returns
returns g c engine moves limits judge reading size calls sized called rules run plain new parser =
    let all = called_shows size reading calls sized called in
    ap (λ (r : Run). has_breach r.told) (sym (all.handed (run_of judge [])))
    ∙ c.our_bytes_are_never_blamed.ensures engine moves limits judge reading (acts_of (new_end size reading) calls) all.shown rules run plain new parser
    (record { done = all.done; spelled = all.spelled })

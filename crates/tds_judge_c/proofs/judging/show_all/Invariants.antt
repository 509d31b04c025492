use Rattle.std.proofs.Common.{◌≡◌, take}
use Rattle.std.specs.Prelude.{map}
use Rattle.tds_judge_c.specs.Judged.{shown}
use Rattle.tds_judge_c.proofs.judging.show_all.Given as goal

-- so many are shown
abbrev pub invariant-found : goal.invariant-found
invariant-found l = l.all.items ≡ map shown (take l.finding-index l.found)

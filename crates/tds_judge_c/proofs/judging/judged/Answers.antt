use Rattle.std.proofs.Common.{◌∙◌, List, ap, subst}
use Rattle.std.specs.Prelude.{map}
use Rattle.tds_judge.specs.declared.finding.Finding.{Finding}
use Rattle.tds_judge.specs.declared.talk.Limits.{Limits}
use Rattle.tds_judge.specs.Framing.{IsNew, run_of}
use Rattle.tds_judge_c.specs.Judged.{heard_all, shown}
use Rattle.tds_judge_c.proofs.judging.judged.Goals as goal

pub returns : goal.returns
returns c = (
  c.hear_all.new.found.items,
  (
    c.in_ok-judge.judge,
    c.hear_all.new.judge,
    subst (λ (l : Limits). IsNew l c.in_ok-judge.judge) c.limits.ensures c.in_ok-judge.ensures,
    c.in_ok-hear_all.ensures ∙ ap (λ (xs : List Finding). heard_all c.args.pieces.now c.args.bytes.now (run_of c.in_ok-judge.judge xs)) c.new-found.ensures.items,
  ),
  c.in_ok-all.ensures ∙ ap (map shown) c.as_slice.ensures.value,
)

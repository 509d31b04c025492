use Rattle.std.proofs.Common.{rules, ◌≡◌, ◌∙◌, ap, sym, length}
use Rattle.tds_login.specs.LineEnds.{left_of, least_of}
use Rattle.tds_login.proofs.Ends.{goes, stays}
use Rattle.tds_login.proofs.batch.without_line_ends.Goals as goal

pub loop-end-preserved : goal.loop-end-preserved
loop-end-preserved c = record {
  left = sym (goes c.args.data.now c.if-is_whole.least c.loop-end.end (search rules) (search rules)) ∙ c.loop-end.invariant.left;
  within = search rules;
}

pub returns-else-ends_blank-clause-left : goal.returns-else-ends_blank-clause-left
returns-else-ends_blank-clause-left c =
    sym (stays c.args.data.now c.if-is_whole.least c.loop-end.end (search rules)) ∙ c.loop-end.invariant.left
    ∙ ap (λ least. left_of c.args.data.now least (length c.args.data.now)) (search rules)

pub returns-after-loop-end-clause-left : goal.returns-after-loop-end-clause-left
returns-after-loop-end-clause-left c =
    sym (stays c.args.data.now c.if-is_whole.least c.loop-end.end (search rules)) ∙ c.loop-end.invariant.left
    ∙ ap (λ least. left_of c.args.data.now least (length c.args.data.now)) (search rules)

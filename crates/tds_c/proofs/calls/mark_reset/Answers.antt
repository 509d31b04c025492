use Rattle.std.proofs.Common.{[], refl, ◌∙◌}
use Rattle.tds_client.specs.Parts.{session_from}
use Rattle.tds_client.specs.Session.{marked}
use Rattle.tds_c.proofs.Starting.{is_marked, marks_from}
use Rattle.tds_c.proofs.calls.mark_reset.Goals as goal

pub returns : goal.returns
returns c = (
  marked (session_from c.in-Some.parts []) c.args.reset,
  [],
  marks_from c.args.client.now c.args.reset (session_from c.in-Some.parts []) c.in-Some.ensures.some (c.is_idle.ensures c.if-not-is_idle.false),
  c.of.ensures ∙ is_marked c.in-Some.parts c.args.reset _ c.stronger-parts.ensures,
  refl,
  refl,
)

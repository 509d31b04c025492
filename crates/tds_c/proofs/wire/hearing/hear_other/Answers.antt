use Rattle.std.proofs.Common.{◌≡◌, ◌∙◌, [], drop, Option, Some, refl, sym, subst}
use Rattle.tds_client.specs.Parts.{session_from}
use Rattle.tds_client.specs.Session.{ClientSession}
use Rattle.tds_c.specs.Hearing.{HasHeard}
use Rattle.tds_c.specs.declared.wire.hearing.Came.TheVariants as came
use Rattle.tds_c.proofs.Hearing.{none_heard}
use Rattle.tds_c.proofs.Whole.{hears_any}
use Rattle.tds_c.proofs.wire.hearing.hear_other.Goals as goal

pub returns-clause-all : goal.returns-clause-all
returns-clause-all c = λ none empty. (
  c.hear_walked.result,
  c.came_code-2.ensures,
  hears_any _ _ (session_from c.in-Some.parts []) c.in-Some.ensures.some
      (λ lacks. let so = c.hear_walked.ensures.none lacks in (so.0.0, so.0.1, so.1 ∙ none, so.0.3, so.2 ∙ empty))
      (λ r at. c.hear_walked.ensures.some (record { session = session_from c.in-Some.parts []; reading = r; rest = c.args.bytes.now }) c.args.tokens.now r refl at (rw (none, empty) (none_heard _ _))),
)

the : (s t : ClientSession) → (let o : Option ClientSession = Some s in o) ≡ Some t → s ≡ t
the s t e = cc

pub returns-clause-behind : goal.returns-clause-behind
returns-clause-behind c = λ s first room r held long at heard.
    let is = the s (session_from c.in-Some.parts []) (sym held ∙ c.in-Some.ensures.some) in (
      c.hear_walked.result,
      c.came_code-2.ensures,
      c.hear_walked.ensures.some first room r long at (subst (λ (x : ClientSession). HasHeard first (record { session = x; reading = r; rest = drop c.args.taken.now c.args.bytes.now }) (record { before = room; after = c.args.tokens.now; count = c.args.count.now })) is heard),
    )

use Rattle.std.proofs.Common.{◌≡◌, map}
use Rattle.tds_session.specs.Language.{statement_of}
use Rattle.tds_session.specs.Words.{pieces}
use Rattle.tds_session.proofs.Reading.{starts}
use Rattle.tds_session.proofs.parsing.parse_text.Goals as goal

pub loop-piece-init : goal.loop-piece-init
loop-piece-init c =
    let e : map (λ p. p.now) c.deref-piece-items.result.now ≡ pieces 59 c.args.text.now = rw c.deref-piece-items.ensures.value c.in_ok-cut.ensures in
    rw c.new-statements.ensures.items (starts (λ p. p.now) statement_of c.deref-piece-items.result.now (pieces 59 c.args.text.now) e)

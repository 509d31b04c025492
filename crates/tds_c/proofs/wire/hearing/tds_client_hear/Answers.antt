use Rattle.std.proofs.Common.{rules, ◌≡◌, ◌∙◌, ap, refl, subst, sym}
use Rattle.tds_walk.specs.Wire.{truth}
use Rattle.tds_walk.specs.Within.{StaysInside}
use Rattle.tds_walk.specs.declared.walk.TdsWire.{TdsWire}
use Rattle.tds_c.specs.declared.wire.hearing.Came.TheVariants as came
use Rattle.tds_c.proofs.Within.{hears_within, reads}
use Rattle.tds_c.proofs.wire.hearing.tds_client_hear.Goals as goal

pub returns-then-left-gt0 : goal.returns-then-left-gt0
returns-then-left-gt0 c =
    let p = c.args.walk.now in
    let bytes = c.args.bytes.now in
    let none : c.args.ends ≡ 0 = search rules in
    let is = c.is_reading.ensures in
    let client = reads c.args.client.now (is.stage (search rules)) (is.least (search rules)) (is.most (search rules)) (is.mark (search rules)) (is.done (search rules)) (is.columns (search rules)) in
    let stays = subst (λ (q : TdsWire). StaysInside p q bytes) (sym c.go_within.ensures) (c.left_within-left.ensures (search rules)) in (
      came.Through,
      refl,
      hears_within c.args.client.now _ p _ c.args.memory.now bytes c.args.ends c.args.tokens.now client.0 client.1 (c.read_on.ensures ∙ client.2) stays (ap truth none),
    )

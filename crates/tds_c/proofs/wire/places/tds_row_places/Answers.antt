use Rattle.std.proofs.Common.{arith, Ok, refl}
use Rattle.tds_c.proofs.wire.places.tds_row_places.Goals as goal

pub returns-in-Some : goal.returns-in-Some
returns-in-Some c = (
  Ok c.in-Some.length,
  (refl, refl),
  c.in-Some.ensures.exact,
  λ less. absurd (omega (arith, less, c.in-Some.ensures.room)),
  c.short_row.ensures.length,
  c.short_row.ensures.others,
)

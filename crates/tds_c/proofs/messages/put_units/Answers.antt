use Rattle.std.proofs.Common.{◌++◌, take, arith}
use Rattle.std.proofs.lemmas.List.{length-append, length-take-le}
use Rattle.tds_request.specs.Layout.{text_bytes}
use Rattle.tds_c.proofs.Writing.{two_each, unit_on}
use Rattle.tds_c.proofs.messages.put_units.Goals as goal

pub units-preserved : goal.units-preserved
units-preserved c = record {
  place = omega (arith, c.units.invariant.place);
  written = λ front buffer counted old. unit_on front buffer _ c.args.text.now c.units.unit-index c.units-test.true
      (rw c.to_le_bytes.ensures at c.put_at.ensures (front ++ text_bytes (take c.units.unit-index c.args.text.now)) buffer
      (let n = two_each (take c.units.unit-index c.args.text.now) in omega (arith, counted, n, c.units.invariant.place, c.units-test.true, length-append front (text_bytes (take c.units.unit-index c.args.text.now)), length-take-le c.units.unit-index c.args.text.now (omega (arith, c.units-test.true))))
      (c.units.invariant.written front buffer counted old));
}

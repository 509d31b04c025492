use Rattle.std.proofs.Common.{◌∙◌, sym, arith}
use Rattle.std.proofs.lemmas.Bool.{eq-eqb, ne_eqb}
use Rattle.tds_state.proofs.Places.{place_end, place_here, place_on}
use Rattle.tds_state.proofs.handles.place_of_handle.Goals as goal

pub places-init : goal.places-init
places-init c = omega arith

pub returns-then-places-at : goal.returns-then-places-at
returns-then-places-at c =
    sym (place_here c.args.number c.args.places.now c.places.at c.places-test.true (eq-eqb _ c.args.number c.if-places-at.true)) ∙ c.places.invariant

pub places-preserved : goal.places-preserved
places-preserved c =
    place_on c.args.number c.args.places.now c.places.at c.places-test.true (ne_eqb _ c.args.number c.if-places-at.false) ∙ c.places.invariant

pub returns : goal.returns
returns c = sym (place_end c.args.number c.args.places.now c.places.at (omega (arith, c.places-test.false))) ∙ c.places.invariant

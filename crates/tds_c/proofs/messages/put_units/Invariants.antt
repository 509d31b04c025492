-- The loop over the units of a text.
use Rattle.std.proofs.Common.{◌≡◌, ◌++◌, ◌+◌, ◌*◌, ℕ, List, length, take}
use Rattle.tds_request.specs.Layout.{text_bytes}
use Rattle.tds_c.specs.Calls.{with_front}
use Rattle.tds_c.proofs.messages.put_units.Given as goal

-- the units so far stand behind the front
abbrev pub invariant-units : goal.invariant-units
invariant-units l = record {
  place : l.place ≡ l.fn.at + 2 * l.unit-index;
  written : (front buffer : List ℕ) → length front ≡ l.fn.at → l.fn.out ≡ with_front front buffer → l.out ≡ with_front (front ++ text_bytes (take l.unit-index l.text)) buffer;
}

-- What the ranges of a setup say of its numbers, and that a cleaning asks what has a spelling.
use Rattle.std.proofs.Common.{ℕ, ◌≤◌, ◌<◌, [], ◌∷◌, lit<, lit≤, arith}
use Rattle.std.proofs.lemmas.Bool.Decides.{nat_tests}
use Rattle.std.proofs.lemmas.List.Elements.{All-from_recursion}
use Rattle.tds_world.specs.declared.event.Event.TheVariants as event
use Rattle.tds_world.specs.declared.event.Setup.{Setup}
use Rattle.tds_world.specs.Bounds.{IsSetup, IsEvent}
use Rattle.tds_world.specs.Cleaning.{clean_request}

-- A packet has at least 512 bytes.
pub packet_least : (setup : Setup) → IsSetup setup → 512 ≤ setup.packet_size
packet_least setup is = grind (arith, nat_tests)

-- The request of a cleaning is one of the program.
pub cleaning_is_event : (k lease : ℕ) → IsEvent (event.Clean k) → IsEvent (event.Ask lease clean_request)
cleaning_is_event k lease x = record {
  least = lit≤ tt;
  most = lit≤ tt;
  wide = All-from_recursion (λ (unit : ℕ). unit < 65536) (115 ∷ 97 ∷ 121 ∷ 32 ∷ 99 ∷ 108 ∷ 101 ∷ 97 ∷ 110 ∷ [])
      (lit< tt, (lit< tt, (lit< tt, (lit< tt, (lit< tt, (lit< tt, (lit< tt, (lit< tt, (lit< tt, tt)))))))));
}

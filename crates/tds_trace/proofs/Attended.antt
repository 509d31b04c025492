-- What was sent and came on a connection of the model, as bytes of a run.
use Rattle.std.proofs.Common.{◌≡◌, ◌+◌, ◌∙◌, ℕ, zero, suc, List, [], ◌∷◌, ◌++◌, length, take, Option, Some, ap, subst}
use Rattle.std.proofs.lemmas.Grind.{flat_map-append}
use Rattle.std.proofs.Math.Seq.{take-append-add}
use Rattle.std.proofs.lemmas.Option.{none-some, same_Some}
use Rattle.std.specs.List.{AllByRecursion, flat_map}
use Rattle.std.specs.Prelude.{slice_get}
use Rattle.tds_packet.specs.declared.kind.Direction.TheVariants.{ToServer, ToClient}
use Rattle.tds_play.specs.Pipe.{Pipe}
use Rattle.tds_play.specs.WholePlay.{CarriesBytesOf, HandsBytesOf}
use Rattle.tds_trace.specs.Attentions.{HaveOneAttention}
use Rattle.tds_world.specs.Bounds.{OneAttention}
use Rattle.tds_world.specs.Connection.{Connection}
use Rattle.tds_world.specs.Entries.{down_bytes}
use Rattle.tds_world.specs.Observed.{bytes_in}
use Rattle.tds_world.specs.World.{World}

got : (P : Connection → Type 0) (cs : List Connection) (i : ℕ) (c : Connection) → slice_get cs i ≡ Some c → AllByRecursion P cs → P c
got P [] i c is all = absurd (none-some c is)
got P (d ∷ ds) zero c is all = subst P (same_Some d c is) all.0
got P (d ∷ ds) (suc i) c is all = got P ds i c is all.1

pub attended : (w : World) (pipes : ℕ → Option Pipe) → OneAttention w → HandsBytesOf w pipes → CarriesBytesOf w pipes → HaveOneAttention w pipes
attended w pipes one hands carries zero c some within is = absurd (none-some c is)
attended w pipes one hands carries (suc n) c some within is = record {
  up = c.to_server.arrived ++ c.to_server.waiting;
  down = c.to_client.arrived;
  behind = take c.to_client.part (flat_map down_bytes c.to_client.waiting);
  handed = hands (suc n) ToServer some within ∙ ap (bytes_in ToServer) is;
  came =
      carries (suc n) c ToClient is
      ∙ (ap (take (length (flat_map down_bytes c.to_client.arrived) + c.to_client.part)) (flat_map-append down_bytes c.to_client.arrived c.to_client.waiting)
      ∙ take-append-add (flat_map down_bytes c.to_client.arrived) (flat_map down_bytes c.to_client.waiting) c.to_client.part);
  few = got _ w.connections n c is one;
}

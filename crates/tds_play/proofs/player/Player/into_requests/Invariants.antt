use Rattle.std.proofs.Common.{◌+◌, ℕ, map, drop, Option}
use Rattle.tds_world.specs.Order.{RequestsInOrder}
use Rattle.tds_play.specs.Pipe.{Pipe}
use Rattle.tds_play.specs.Player.{RepresentsWorld, all_of}
use Rattle.tds_play.proofs.Requested.{Telling}
use Rattle.tds_world.specs.World.{World}
use Rattle.tds_world.specs.declared.event.Setup.{Setup}
use Rattle.tds_play.proofs.any_bytes.Given.{ToldSoFar}
use Rattle.tds_play.proofs.player.Player.into_requests.Given as goal

abbrev pub invariant-asked : goal.invariant-asked
invariant-asked g l =
    record {
      given : ToldSoFar (all_of l.fn.self) (map (λ v. v.items) l.records.items) l.reports.items;
      told : (setup : Setup) (engine : g.row.E.Denot) (pipes : ℕ → Option Pipe) (w : World) → RepresentsWorld setup engine l.fn.self pipes w → RequestsInOrder w
          → Telling w (l.conn-index + 1) (drop l.conn-index w.asked_on) (map (λ v. v.items) l.records.items) l.reports.items;
    }

use Rattle.std.proofs.Common.{ℕ, List}
use Rattle.tds_world.specs.Connection.{Connection}
use Rattle.tds_play.specs.Player.{all_of}
use Rattle.tds_play.specs.Plays.{RepresentConnections}
use Rattle.tds_play.specs.Steps.{AreCutTo, CutsSome}
use Rattle.tds_play.proofs.AllCut.{cut_front}
use Rattle.tds_play.proofs.player.Player.cut_all.Given as goal

abbrev pub invariant-links : goal.invariant-links
invariant-links g l =
    let pipes = g.C.EventCarrier.pipes in
    record {
      keeps : CutsSome l.fn.self l.self (pipes l.fn.carrier) (pipes l.carrier) (g.C.EventCarrier.began l.fn.carrier) (g.C.EventCarrier.began l.carrier);
      cut : AreCutTo l.place l.self.links.items;
      refines : (size : ℕ) (engine : g.row.E.Denot) (cs : List Connection) → RepresentConnections 1 size engine (all_of l.fn.self) (pipes l.fn.carrier) cs
          → RepresentConnections 1 size engine (all_of l.self) (pipes l.carrier) (cut_front l.place cs);
    }

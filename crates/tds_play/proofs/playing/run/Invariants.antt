use Rattle.std.proofs.Common.{◌≡◌, ◌≤◌, length, take}
use Rattle.std.specs.List.{AllByRecursion}
use Rattle.tds_session.specs.Answer.{answer_of}
use Rattle.tds_world.specs.Bounds.{IsEvent, IsSetup}
use Rattle.tds_world.specs.World.{new_world}
use Rattle.tds_world.specs.declared.event.Setup.{Setup}
use Rattle.tds_world.specs.Losses.{marked}
use Rattle.tds_play.specs.Calls.{MakesCalls}
use Rattle.tds_play.specs.Failures.{LiveAreSound, all_known}
use Rattle.tds_play.specs.Pipe.{AreFaithfulTo}
use Rattle.tds_play.proofs.Accounts.{AreTold}
use Rattle.tds_play.specs.Player.{AreHeld, RepresentsWorld, all_of}
use Rattle.tds_play.specs.Steps.{AreFew}
use Rattle.tds_play.specs.Ties.{AreTied}
use Rattle.tds_play.proofs.Turns.{IsSoFar}
use Rattle.tds_play.specs.Reads.{AllRead}
use Rattle.tds_play.proofs.any_bytes.Answered.{answers_of}
use Rattle.tds_play.proofs.playing.run.Given as goal

abbrev pub invariant-events : goal.invariant-events
invariant-events g l =
    let pipes = g.C.EventCarrier.pipes in
    let engine = l.fn.player.engine in
    record {
      tied : AreTied (all_of l.player) (pipes l.carrier);
      held : AreHeld l.player;
      few : AreFew l.event-index l.player;
      known : AllByRecursion IsEvent (take l.event-index l.events);
      count : length l.reports.items ≡ l.event-index;
      within : length l.reports.items ≤ length l.events;
      sound : LiveAreSound (all_of l.player) (pipes l.carrier);
      size : l.player.size ≡ l.fn.player.size;
      reads : AllRead l.fn.player.size (all_of l.player) (pipes l.carrier) (answers_of (take l.event-index l.events) l.reports.items);
      lost : (setup : Setup) → IsSetup setup → AreFaithfulTo (length l.player.links.items) (pipes l.carrier)
          → RepresentsWorld setup engine l.fn.player (pipes l.fn.carrier) new_world
          → AreTold setup (answer_of (g.E.Engine.statements_of engine) (g.E.Engine.step_of engine)) (marked (take l.event-index l.events) l.reports.items)
          (all_known (length l.player.links.items) (pipes l.carrier));
      calls : (setup : Setup) → IsSetup setup → AreFaithfulTo (length l.player.links.items) (pipes l.carrier)
          → RepresentsWorld setup engine l.fn.player (pipes l.fn.carrier) new_world
          → MakesCalls g.C.EventCarrier.is_told setup (answer_of (g.E.Engine.statements_of engine) (g.E.Engine.step_of engine)) (marked (take l.event-index l.events) l.reports.items)
          (g.C.EventCarrier.began l.fn.carrier) (g.C.EventCarrier.began l.carrier) (pipes l.carrier);
      refines : (setup : Setup) → IsSetup setup → AreFaithfulTo (length l.player.links.items) (pipes l.carrier)
          → RepresentsWorld setup engine l.fn.player (pipes l.fn.carrier) new_world
          → IsSoFar setup (answer_of (g.E.Engine.statements_of engine) (g.E.Engine.step_of engine)) engine (take l.event-index l.events) l.player (pipes l.carrier) l.reports.items;
    }

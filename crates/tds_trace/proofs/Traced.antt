-- The calls of a play are the model's.
use Rattle.std.proofs.Common.{ℕ, List, Option, sym, subst, ◌∙◌}
use Rattle.tds_play.specs.Pipe.{Pipe}
use Rattle.tds_play.specs.WholePlay.{CarriesBytesOf, HandsBytesOf, IsWholePlayOf, world_of}
use Rattle.tds_session.specs.Answer.{script_answers}
use Rattle.tds_trace.specs.Calls.{AreCallsAt, AreCallsOf}
use Rattle.tds_trace.specs.declared.call.Call.{Call}
use Rattle.tds_world.specs.declared.event.Event.{Event}
use Rattle.tds_world.specs.declared.event.Setup.{Setup}
use Rattle.tds_world.specs.declared.report.Report.{Report}
use Rattle.tds_world.specs.Events.{world_after}
use Rattle.tds_world.specs.World.{World, new_world}

pub calls_of_play : (setup : Setup) (events : List Event) (report : Report) (pipes : ℕ → Option Pipe) (calls : List Call)
    → IsWholePlayOf setup script_answers events report
    → HandsBytesOf (world_of setup events report.events) pipes → CarriesBytesOf (world_of setup events report.events) pipes
    → AreCallsAt calls pipes → AreCallsOf (world_after setup script_answers events new_world) calls
calls_of_play setup events report pipes calls whole hands carries are =
    subst (λ (w : World). AreCallsOf w calls) whole.world (record {
      handed = λ n d some within. sym (are n d).0 ∙ hands n d some within;
      brought = λ n c d is. sym (are n d).1 ∙ carries n c d is;
    })

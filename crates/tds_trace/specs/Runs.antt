-- What a run prints: the trace of the play of a schedule file.
use Rattle.std.specs.Prelude.{ℕ, ◌≡◌, List, length, Option, None}
use Rattle.std.specs.Io.KnownBytes.{Appends}
use Rattle.tds_play.specs.Refused.{first_refusal}
use Rattle.tds_play.specs.Runs.{AreLeft}
use Rattle.tds_session.specs.Answer.{script_answers}
use Rattle.tds_text.specs.Files.{Spells}
use Rattle.tds_trace.specs.Calls.{AreCallsOf}
use Rattle.tds_trace.specs.Lines.{trace_text}
use Rattle.tds_trace.specs.Turns.{AreCallsOfPlay}
use Rattle.tds_trace.specs.declared.call.Call.{Call}
use Rattle.tds_world.specs.declared.event.Event.{Event}
use Rattle.tds_world.specs.declared.event.Setup.{Setup}
use Rattle.tds_world.specs.Events.{world_after}
use Rattle.tds_world.specs.Losses.{marked}
use Rattle.tds_world.specs.Observed.{observed}
use Rattle.tds_world.specs.World.{new_world}

-- These bytes are a schedule file that is played, and this text is a trace of its play: of the model's
-- report, and of the calls of each event, which hand over and bring what is sent and comes in the model.
pub record IsTraceOf (bytes text : List ℕ) : Type 0 where
  pub setup : Setup
  pub events : List Event
  pub calls : List Call
  pub spelled : Spells bytes setup events
  pub played : first_refusal setup (length events) ≡ None
  pub made : AreCallsOf (world_after setup script_answers events new_world) calls
  pub turns : ∥ AreCallsOfPlay setup script_answers (marked events (observed setup script_answers events).events) calls ∥₁
  pub told : text ≡ trace_text setup (observed setup script_answers events) calls

-- The bytes that were left are a schedule that is played, and a trace of its play went out.
abbrev pub Traces : Option (List ℕ) → Option (List ℕ) → Option (List ℕ) → Type 0
Traces left old new = (bytes : List ℕ) × AreLeft left bytes × (text : List ℕ) × IsTraceOf bytes text × Appends old new text

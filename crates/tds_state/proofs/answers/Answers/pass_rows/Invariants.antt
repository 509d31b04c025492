use Rattle.std.proofs.Common.{◌≤◌, ◌-◌, length}
use Rattle.tds_wire.specs.Reading.{IsReady}
use Rattle.tds_state.specs.Watching.{answers_reading}
use Rattle.tds_state.proofs.answers.Answers.pass_rows.Given as goal

abbrev pub invariant-rows : goal.invariant-rows
invariant-rows l = record { done : l.done ≤ length l.bytes; ready : IsReady (answers_reading l.self) }

abbrev pub decreases-rows : goal.decreases-rows
decreases-rows l = length l.bytes - l.done

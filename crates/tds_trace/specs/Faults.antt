-- What ends a run of a trace before the whole trace went out: what went out before, and the line about it.
use Rattle.std.specs.Prelude.{ℕ, ◌≡◌, ◌⊎◌, ◌++◌, List, Option, ⊤, codes, decimal}
use Rattle.std.specs.Io.KnownBytes.{Keeps}
use Rattle.tds_play.specs.Refused.{play_refusal_number}
use Rattle.tds_play.specs.Runs.{AreLeft, IsRefusedSo}
use Rattle.tds_play.specs.declared.refusal.PlayRefusal.{PlayRefusal}
use Rattle.tds_play.specs.declared.refusal.PlayRefusal.TheVariants as play
use Rattle.tds_text.specs.Files.{IsNoJson, IsWrongAt}
use Rattle.tds_text.specs.Texts.{line_feed}
use Rattle.tds_text.specs.Written.{WritesBeginning}
use Rattle.tds_text.specs.declared.schedule.fault.ScheduleFault.{ScheduleFault}
use Rattle.tds_text.specs.declared.schedule.fault.ScheduleFault.TheVariants as schedule
use Rattle.tds_trace.specs.Runs.{IsTraceOf}
use Rattle.tds_trace.specs.declared.fault.TraceFault.{TraceFault}
use Rattle.tds_trace.specs.declared.fault.TraceFault.TheVariants as trace

-- What a fault says of the bytes that were read. That reading failed, that a write failed and that memory was
-- refused can't be seen in them.
abbrev pub IsFaultOf : TraceFault → List ℕ → Type 0
IsFaultOf trace.File bytes = ⊤
IsFaultOf trace.Json bytes = IsNoJson bytes
IsFaultOf (trace.Schedule place) bytes = IsWrongAt bytes place
IsFaultOf (trace.Play refusal) bytes = IsRefusedSo refusal bytes
IsFaultOf trace.Output bytes = ⊤
IsFaultOf trace.Memory bytes = ⊤

-- A fault that the bytes themselves show.
abbrev pub IsShownBy : TraceFault → List ℕ → Type 0
IsShownBy trace.File bytes = ⊥
IsShownBy trace.Json bytes = IsNoJson bytes
IsShownBy (trace.Schedule place) bytes = IsWrongAt bytes place
IsShownBy (trace.Play refusal) bytes = IsRefusedSo refusal bytes
IsShownBy trace.Output bytes = ⊥
IsShownBy trace.Memory bytes = ⊥

-- A fault that comes before anything is printed.
abbrev pub IsBeforeOutput : TraceFault → Type 0
IsBeforeOutput fault = ¬ (fault ≡ trace.Output)

-- A fault that comes before the bytes are looked at.
abbrev pub IsUnread : TraceFault → Option (List ℕ) → Type 0
IsUnread fault left = ((bytes : List ℕ) × AreLeft left bytes × IsFaultOf fault bytes) × IsBeforeOutput fault

-- A beginning of a trace of the play of these bytes went out.
abbrev pub BeginsTrace : List ℕ → Option (List ℕ) → Option (List ℕ) → Type 0
BeginsTrace bytes old new = (text : List ℕ) × IsTraceOf bytes text × WritesBeginning old new text

-- What went to the output before a fault: a beginning of a trace where it was printed then, else nothing.
abbrev pub LeavesOutput : TraceFault → List ℕ → Option (List ℕ) → Option (List ℕ) → Type 0
LeavesOutput trace.Output bytes old new = BeginsTrace bytes old new
LeavesOutput trace.Memory bytes old new = Keeps old new ⊎ BeginsTrace bytes old new
LeavesOutput trace.File bytes old new = Keeps old new
LeavesOutput trace.Json bytes old new = Keeps old new
LeavesOutput (trace.Schedule place) bytes old new = Keeps old new
LeavesOutput (trace.Play refusal) bytes old new = Keeps old new

-- The line of a fault: the one that a run of `play` tells of it.
abbrev pub fault_line : TraceFault → List ℕ
fault_line trace.File = codes "error: file\n"
fault_line trace.Json = codes "error: json\n"
fault_line (trace.Schedule place) = codes "error: schedule " ++ decimal place ++ line_feed
fault_line (trace.Play refusal) = codes "error: play " ++ decimal (play_refusal_number refusal) ++ line_feed
fault_line trace.Output = codes "error: output\n"
fault_line trace.Memory = codes "error: memory\n"

-- A fault's line went out, or a beginning of it where a write failed. Where memory was refused to make the line,
-- it is the one of memory.
abbrev pub TellsFault : Option (List ℕ) → Option (List ℕ) → TraceFault → Type 0
TellsFault old new fault = WritesBeginning old new (fault_line fault) ⊎ WritesBeginning old new (fault_line trace.Memory)

-- A run of the bytes that were left ended by this fault.
abbrev pub EndsBy : TraceFault → Option (List ℕ) → Option (List ℕ) → Option (List ℕ) → Type 0
EndsBy fault left old new = (bytes : List ℕ) × AreLeft left bytes × IsFaultOf fault bytes × LeavesOutput fault bytes old new

-- It ended by a fault, and the fault's line went out.
abbrev pub EndsTold : Option (List ℕ) → Option (List ℕ) → Option (List ℕ) → Option (List ℕ) → Option (List ℕ) → Type 0
EndsTold left old new before after = (fault : TraceFault) × EndsBy fault left old new × TellsFault before after fault

-- The fault of a run, by the one of the schedule.
abbrev pub of_schedule : ScheduleFault → TraceFault
of_schedule schedule.Json = trace.Json
of_schedule (schedule.Wrong place) = trace.Schedule place
of_schedule schedule.Memory = trace.Memory

-- The fault of a run, by why nothing is played.
abbrev pub of_refusal : PlayRefusal → TraceFault
of_refusal play.Memory = trace.Memory
of_refusal play.TooManyEvents = trace.Play play.TooManyEvents
of_refusal play.WrongSetup = trace.Play play.WrongSetup
of_refusal play.NotCleaned = trace.Play play.NotCleaned

-- What a run of a schedule file comes to: the text of a report, or one line about a fault.
use Rattle.std.specs.Prelude.{◌≡◌, ℕ, List, ◌++◌, ◌≤◌, length, Option, Some, None, IfSome, ⊤, ◌⊎◌, codes, decimal}
use Rattle.std.specs.Io.KnownBytes.{Appends, Keeps}
use Rattle.tds_world.specs.declared.event.Setup.{Setup}
use Rattle.tds_world.specs.declared.event.Event.{Event}
use Rattle.tds_world.specs.declared.report.Report.{Report}
use Rattle.tds_world.specs.Observed.{observed}
use Rattle.tds_session.specs.Answer.{script_answers}
use Rattle.tds_text.specs.Texts.{line_feed}
use Rattle.tds_text.specs.Lines.{text_of}
use Rattle.tds_text.specs.Written.{WritesBeginning}
use Rattle.tds_text.specs.Files.{Spells, IsWrongAt, IsNoJson}
use Rattle.tds_world.specs.WithLosses.{IsReportWith, MarksNothing}
use Rattle.tds_play.specs.Failures.{FailNowhere}
use Rattle.tds_play.specs.Pipe.{Pipe}
use Rattle.tds_play.specs.Refused.{first_refusal, play_refusal_number}
use Rattle.tds_text.specs.declared.schedule.fault.ScheduleFault.{ScheduleFault}
use Rattle.tds_text.specs.declared.schedule.fault.ScheduleFault.TheVariants as schedule
use Rattle.tds_play.specs.declared.refusal.PlayRefusal.{PlayRefusal}
use Rattle.tds_play.specs.declared.refusal.PlayRefusal.TheVariants as play
use Rattle.tds_play.specs.declared.run.RunFault.{RunFault}
use Rattle.tds_play.specs.declared.run.RunFault.TheVariants as run

-- The most bytes of a schedule file.
abbrev pub file_limit : ℕ
file_limit = 33554432

-- These are the bytes that the reader had left, where it tells them.
abbrev pub AreLeft : Option (List ℕ) → List ℕ → Type 0
AreLeft left bytes = IfSome left (λ all. bytes ≡ all)

-- What the reader has left is no longer than a schedule file may be, where it tells it.
abbrev pub FitsFile : Option (List ℕ) → Type 0
FitsFile left = IfSome left (λ all. length all ≤ file_limit)

-- Bytes are a schedule file, and the events are refused for this or for nothing.
abbrev pub IsRefused : List ℕ → Option PlayRefusal → Type 0
IsRefused bytes why = (setup : Setup) × (events : List Event) × Spells bytes setup events × (first_refusal setup (length events) ≡ why)

-- The report of a play of these events: the model's, with the losses that it marks. Where it marks
-- none, it is the model's of the events as they are; and it marks none where the carrier, which holds
-- these connections in the end, counts no failed call.
pub record IsTold (pipes : ℕ → Option Pipe) (setup : Setup) (events : List Event) (report : Report) : Type 0 where
  pub told : IsReportWith setup script_answers events report
  pub plain : MarksNothing report → report ≡ observed setup script_answers events
  pub whole : FailNowhere pipes → MarksNothing report

-- These bytes are a schedule file of what is played, and this is its report.
abbrev pub IsReportOf : (ℕ → Option Pipe) → List ℕ → Report → Type 0
IsReportOf pipes bytes report = (setup : Setup) × (events : List Event) × Spells bytes setup events
    × (first_refusal setup (length events) ≡ None) × IsTold pipes setup events report

-- What a refusal says of the bytes: which schedule is refused, or that one is played, of which a cleaning failed.
abbrev pub IsRefusedSo : PlayRefusal → List ℕ → Type 0
IsRefusedSo play.NotCleaned bytes = IsRefused bytes None
IsRefusedSo why bytes = IsRefused bytes (Some why)

-- What a fault says of the bytes that were read. That reading failed, that a write failed and that
-- memory was refused can't be seen in them; a report is printed only of what is played.
abbrev pub IsFaultOf : RunFault → List ℕ → Type 0
IsFaultOf run.File bytes = ⊤
IsFaultOf run.Json bytes = IsNoJson bytes
IsFaultOf (run.Schedule place) bytes = IsWrongAt bytes place
IsFaultOf (run.Play refusal) bytes = IsRefusedSo refusal bytes
IsFaultOf run.Output bytes = IsRefused bytes None
IsFaultOf run.Memory bytes = ⊤

-- A fault that the bytes themselves show.
abbrev pub IsShownBy : RunFault → List ℕ → Type 0
IsShownBy run.File bytes = ⊥
IsShownBy run.Json bytes = IsNoJson bytes
IsShownBy (run.Schedule place) bytes = IsWrongAt bytes place
IsShownBy (run.Play refusal) bytes = IsRefusedSo refusal bytes
IsShownBy run.Output bytes = ⊥
IsShownBy run.Memory bytes = ⊥

-- A fault that comes before anything is printed.
abbrev pub IsBeforeOutput : RunFault → Type 0
IsBeforeOutput fault = ¬ (fault ≡ run.Output)

-- A fault that comes before the bytes are looked at.
abbrev pub IsUnread : RunFault → Option (List ℕ) → Type 0
IsUnread fault left = ((bytes : List ℕ) × AreLeft left bytes × IsFaultOf fault bytes) × IsBeforeOutput fault

-- A beginning of the text of the report of these bytes went out.
abbrev pub BeginsReport : (ℕ → Option Pipe) → List ℕ → Option (List ℕ) → Option (List ℕ) → Type 0
BeginsReport pipes bytes old new = (report : Report) × IsReportOf pipes bytes report × WritesBeginning old new (text_of report)

-- What went to the output before a fault: a beginning of the report's text where it was printed then,
-- else nothing.
abbrev pub LeavesOutput : (ℕ → Option Pipe) → RunFault → List ℕ → Option (List ℕ) → Option (List ℕ) → Type 0
LeavesOutput pipes run.Output bytes old new = BeginsReport pipes bytes old new
LeavesOutput pipes run.Memory bytes old new = Keeps old new ⊎ BeginsReport pipes bytes old new
LeavesOutput pipes run.File bytes old new = Keeps old new
LeavesOutput pipes run.Json bytes old new = Keeps old new
LeavesOutput pipes (run.Schedule place) bytes old new = Keeps old new
LeavesOutput pipes (run.Play refusal) bytes old new = Keeps old new

-- The line of a fault.
abbrev pub fault_line : RunFault → List ℕ
fault_line run.File = codes "error: file\n"
fault_line run.Json = codes "error: json\n"
fault_line (run.Schedule place) = codes "error: schedule " ++ decimal place ++ line_feed
fault_line (run.Play refusal) = codes "error: play " ++ decimal (play_refusal_number refusal) ++ line_feed
fault_line run.Output = codes "error: output\n"
fault_line run.Memory = codes "error: memory\n"

-- The whole line of a fault that these bytes show.
abbrev pub IsLineOf : List ℕ → List ℕ → Type 0
IsLineOf bytes line = (fault : RunFault) × IsShownBy fault bytes × (line ≡ fault_line fault)

-- The whole text of the report of these bytes.
abbrev pub IsTextOf : (ℕ → Option Pipe) → List ℕ → List ℕ → Type 0
IsTextOf pipes bytes text = (report : Report) × IsReportOf pipes bytes report × (text ≡ text_of report)

-- A fault's line went out, or a beginning of it where a write failed. Where memory was refused to
-- make the line, it is the one of memory.
abbrev pub TellsFault : Option (List ℕ) → Option (List ℕ) → RunFault → Type 0
TellsFault old new fault = WritesBeginning old new (fault_line fault) ⊎ WritesBeginning old new (fault_line run.Memory)

-- The bytes that were left are a schedule that is played, and the text of its report went out.
abbrev pub Reports : (ℕ → Option Pipe) → Option (List ℕ) → Option (List ℕ) → Option (List ℕ) → Type 0
Reports pipes left old new = (bytes : List ℕ) × AreLeft left bytes
    × (report : Report) × IsReportOf pipes bytes report × Appends old new (text_of report)

-- A run ended by this fault.
abbrev pub EndsBy : (ℕ → Option Pipe) → RunFault → Option (List ℕ) → Option (List ℕ) → Option (List ℕ) → Type 0
EndsBy pipes fault left old new = (bytes : List ℕ) × AreLeft left bytes × IsFaultOf fault bytes × LeavesOutput pipes fault bytes old new

-- A run ended by a fault, and the fault's line went out.
abbrev pub EndsTold : (ℕ → Option Pipe) → Option (List ℕ) → Option (List ℕ) → Option (List ℕ) → Option (List ℕ) → Option (List ℕ) → Type 0
EndsTold pipes left old new before after = (fault : RunFault) × EndsBy pipes fault left old new × TellsFault before after fault

-- The fault of a run, by the one of the schedule.
abbrev pub of_schedule : ScheduleFault → RunFault
of_schedule schedule.Json = run.Json
of_schedule (schedule.Wrong place) = run.Schedule place
of_schedule schedule.Memory = run.Memory

-- The fault of a run, by why nothing is played.
abbrev pub of_refusal : PlayRefusal → RunFault
of_refusal play.Memory = run.Memory
of_refusal play.TooManyEvents = run.Play play.TooManyEvents
of_refusal play.WrongSetup = run.Play play.WrongSetup
of_refusal play.NotCleaned = run.Play play.NotCleaned

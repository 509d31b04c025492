-- The numbers of the faults.
use Rattle.std.specs.Prelude.{ℕ}
use Rattle.tds_text.specs.declared.rendering.fault.RenderFault.{RenderFault}
use Rattle.tds_text.specs.declared.rendering.fault.RenderFault.TheVariants as render
use Rattle.tds_text.specs.declared.hexadecimal.WordFault.{WordFault}
use Rattle.tds_text.specs.declared.hexadecimal.WordFault.TheVariants as word
use Rattle.tds_text.specs.declared.arguments.LineFault.{LineFault}
use Rattle.tds_text.specs.declared.arguments.LineFault.TheVariants as line
use Rattle.tds_text.specs.declared.schedule.fault.ScheduleFault.{ScheduleFault}
use Rattle.tds_text.specs.declared.schedule.fault.ScheduleFault.TheVariants as schedule

-- The number of a fault of `render`.
abbrev pub render_fault_number : RenderFault → ℕ
render_fault_number render.Write = 1
render_fault_number render.Memory = 2

-- The number of a fault of `read_schedule`.
abbrev pub schedule_fault_number : ScheduleFault → ℕ
schedule_fault_number schedule.Json = 1
schedule_fault_number (schedule.Wrong place) = 2
schedule_fault_number schedule.Memory = 3

-- The number of a fault of `read_words`.
abbrev pub line_fault_number : LineFault → ℕ
line_fault_number line.Usage = 1
line_fault_number line.Memory = 2

-- The number of a fault of `word_bytes`.
abbrev pub word_fault_number : WordFault → ℕ
word_fault_number word.NotHexadecimal = 1
word_fault_number word.Memory = 2

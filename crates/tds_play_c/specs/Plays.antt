-- A play for C.
use Rattle.std.specs.Prelude.{◌≡◌, ◌⊎◌, ℕ, List, ◌++◌, codes, length, drop, None}
use Rattle.tds_session.specs.Answer.{script_answers}
use Rattle.tds_world.specs.declared.event.Setup.{Setup}
use Rattle.tds_world.specs.declared.event.Event.{Event}
use Rattle.tds_world.specs.Observed.{observed}
use Rattle.tds_text.specs.Files.{Spells}
use Rattle.tds_text.specs.Lines.{text_of}
use Rattle.tds_play.specs.Refused.{first_refusal}
use Rattle.tds_play.specs.Runs.{IsLineOf}

-- The bytes are a schedule file of what is played, and this is the text of the model's report of its
-- events, with nothing lost.
abbrev pub IsReportText : List ℕ → List ℕ → Type 0
IsReportText schedule text = (setup : Setup) × (events : List Event) × Spells schedule setup events
    × (first_refusal setup (length events) ≡ None) × (text ≡ text_of (observed setup script_answers events))

-- This is the whole line of a fault that the bytes show, or of memory, which was refused.
abbrev pub IsFaultText : List ℕ → List ℕ → Type 0
IsFaultText schedule text = IsLineOf schedule text ⊎ (text ≡ codes "error: memory\n")

-- The text stands at the front of the buffer, and behind it nothing changed.
abbrev pub Writes : List ℕ → List ℕ → List ℕ → ℕ → Type 0
Writes text before after count = (after ≡ text ++ drop (length text) before) × (count ≡ length text)

abbrev pub WritesReport : List ℕ → List ℕ → List ℕ → ℕ → Type 0
WritesReport schedule before after count = (text : List ℕ) × IsReportText schedule text × Writes text before after count

abbrev pub WritesFault : List ℕ → List ℕ → List ℕ → ℕ → Type 0
WritesFault schedule before after count = (text : List ℕ) × IsFaultText schedule text × Writes text before after count

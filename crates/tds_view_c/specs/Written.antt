-- What a view leaves in its caller's buffer, and what the report's text is.
use Rattle.std.specs.Prelude.{◌≡◌, ℕ, List, ◌++◌, length, drop, None}
use Rattle.tds_session.specs.Answer.{script_answers}
use Rattle.tds_world.specs.declared.event.Setup.{Setup}
use Rattle.tds_world.specs.declared.event.Event.{Event}
use Rattle.tds_world.specs.Observed.{observed}
use Rattle.tds_text.specs.Files.{Spells}
use Rattle.tds_text.specs.Lines.{text_of}
use Rattle.tds_play.specs.Refused.{first_refusal}

-- The text stands at the front of the buffer, and behind it nothing changed.
abbrev pub Writes : List ℕ → List ℕ → List ℕ → ℕ → Type 0
Writes text before after count = (after ≡ text ++ drop (length text) before) × (count ≡ length text)

-- Some text stands there.
abbrev pub WritesText : List ℕ → List ℕ → ℕ → Type 0
WritesText before after count = (text : List ℕ) × Writes text before after count

-- The bytes are a schedule file of what is played, and this is the text of the model's report of its
-- events, with nothing lost.
abbrev pub IsReportText : List ℕ → List ℕ → Type 0
IsReportText schedule text = (setup : Setup) × (events : List Event) × Spells schedule setup events
    × (first_refusal setup (length events) ≡ None) × (text ≡ text_of (observed setup script_answers events))

abbrev pub WritesReport : List ℕ → List ℕ → List ℕ → ℕ → Type 0
WritesReport schedule before after count = (text : List ℕ) × IsReportText schedule text × Writes text before after count

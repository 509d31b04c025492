-- What a run of the command prints.
use Rattle.std.specs.Prelude.{◌≡◌, ℕ, Bool, false, List, Option, Some, None, ◌⊎◌, codes}
use Rattle.std.specs.Io.KnownBytes.{Appends, Keeps}
use Rattle.tds_text.specs.declared.rendering.fault.RenderFault.{RenderFault}
use Rattle.tds_text.specs.declared.rendering.fault.RenderFault.TheVariants.{Write, Memory}
use Rattle.tds_text.specs.Words.{bytes_spelled}
use Rattle.tds_text.specs.Written.{WritesBeginning}
use Rattle.tds_show.specs.Answers.{Shown, faulty, shown}
use Rattle.tds_show.specs.Lines.{word_line}

-- the text of the packets that a word of hexadecimal digits spells, or the fault of any other word
abbrev pub by_bytes : Option (List ℕ) → Shown
by_bytes None = faulty word_line
by_bytes (Some bytes) = shown bytes

abbrev pub shown_word : List ℕ → Shown
shown_word word = by_bytes (bytes_spelled word)

-- A word's text went out whole, and this says whether it has no fault.
abbrev pub Prints : List ℕ → Bool → Option (List ℕ) → Option (List ℕ) → Type 0
Prints word is_well old new = Appends old new (shown_word word).text × ((shown_word word).is_well ≡ is_well)

-- It didn't: a write failed, and a beginning went out; or memory was refused, and nothing did.
abbrev pub StopsBy : RenderFault → List ℕ → Option (List ℕ) → Option (List ℕ) → Type 0
StopsBy Write word old new = WritesBeginning old new (shown_word word).text
StopsBy Memory word old new = Keeps old new

-- the line of that on the error output
abbrev pub fault_line : RenderFault → List ℕ
fault_line Write = codes "error: output\n"
fault_line Memory = codes "error: memory\n"

-- The output and the error output after a run with status 1: a text with a fault, and no line; or the line of what kept the text from
-- going out, of which a beginning went out where a write failed.
abbrev pub EndsFaulty : List ℕ → Option (List ℕ) → Option (List ℕ) → Option (List ℕ) → Option (List ℕ) → Type 0
EndsFaulty word old new silent told =
    (Prints word false old new × (told ≡ silent)) ⊎ ((fault : RenderFault) × StopsBy fault word old new × WritesBeginning silent told (fault_line fault))

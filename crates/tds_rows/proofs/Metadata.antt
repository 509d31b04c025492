-- How a COLMETADATA begins.
use Rattle.std.proofs.Common.{◌≡◌, ◌∙◌, ◌==◌, ℕ, List, false, Err, length, drop, if◌then◌else◌, refl, ap}
use Rattle.std.specs.Prelude.{Option}
use Rattle.tds_wire.specs.declared.fault.WireFault.TheVariants.{UnknownToken}
use Rattle.tds_wire.specs.declared.features.Features.{Features}
use Rattle.tds_wire.specs.Layout.{Read, Got, Wrong, ◌>>=◌, one, two}
use Rattle.tds_rows.specs.declared.place.RowColumn.{RowColumn}
use Rattle.tds_rows.specs.declared.place.RowFault.{RowFault}
use Rattle.tds_rows.specs.declared.place.RowFault.TheVariants as fault
use Rattle.tds_rows.specs.Columns.{listed_columns, metadata_at}
use Rattle.tds_rows.specs.Finding.{Describes}
use Rattle.tds_rows.specs.Reading.{Fails}
use Rattle.tds_rows.proofs.Loops.{behind_one, fails_on}

-- why it can't be read is why there is none
pub no_metadata : (e : RowFault) (features : Features) (bytes : List ℕ) (columns : List RowColumn) → Fails e (metadata_at features bytes) → Describes (Err e) features bytes columns
no_metadata fault.Short features bytes columns h = h
no_metadata fault.UnknownType features bytes columns h = h
no_metadata fault.OtherToken features bytes columns h = absurd h
no_metadata fault.NoColumns features bytes columns h = absurd h
no_metadata fault.NoRoom features bytes columns h = absurd h

abbrev behind_byte : Features → List ℕ → ℕ → List ℕ → Read (Option (List RowColumn))
behind_byte features bytes byte rest = if byte == 0x81 then (two rest >>= λ n more. listed_columns features (length bytes) n more) else Wrong UnknownToken rest

pub no_byte : (e : RowFault) (features : Features) (bytes : List ℕ) → Fails e (one bytes) → Fails e (metadata_at features bytes)
unfolding metadata_at
no_byte e features bytes h = fails_on e (one bytes) (behind_byte features bytes) h

pub other_byte : (features : Features) (bytes : List ℕ) (b : ℕ) (rest : List ℕ) → one bytes ≡ Got b rest → (b == 0x81) ≡ false → metadata_at features bytes ≡ Wrong UnknownToken (drop 1 bytes)
unfolding metadata_at
other_byte features bytes b rest e f = ap (λ r. r >>= behind_byte features bytes) e ∙ rw f (ap (Wrong UnknownToken) (behind_one bytes b rest e))

pub counted_on : (features : Features) (bytes : List ℕ) (b : ℕ) (rest : List ℕ) → one bytes ≡ Got b rest → b ≡ 0x81
    → metadata_at features bytes ≡ (two rest >>= λ n more. listed_columns features (length bytes) n more)
unfolding metadata_at
counted_on features bytes b rest e f = ap (λ r. r >>= behind_byte features bytes) e ∙ rw f refl

pub listed_on : (features : Features) (bytes : List ℕ) (b n : ℕ) (rest more : List ℕ) → one bytes ≡ Got b rest → b ≡ 0x81 → two rest ≡ Got n more
    → metadata_at features bytes ≡ listed_columns features (length bytes) n more
listed_on features bytes b n rest more e f g = counted_on features bytes b rest e f ∙ ap (λ r. r >>= λ n more. listed_columns features (length bytes) n more) g

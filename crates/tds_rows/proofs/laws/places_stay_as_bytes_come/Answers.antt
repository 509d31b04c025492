use Rattle.tds_rows.proofs.Staying.{places_stay}
use Rattle.tds_rows.proofs.laws.places_stay_as_bytes_come.Goals as goal

pub returns : goal.returns
returns c = λ with_nulls nulls first shapes at bytes more found rest e. places_stay with_nulls nulls first shapes more at bytes found rest e

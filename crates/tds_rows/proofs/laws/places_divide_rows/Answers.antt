use Rattle.tds_rows.proofs.Divided.{divided}
use Rattle.tds_rows.proofs.laws.places_divide_rows.Goals as goal

pub returns : goal.returns
returns c = λ with_nulls nulls shapes at bytes found rest e. divided with_nulls nulls 0 shapes at bytes found rest e

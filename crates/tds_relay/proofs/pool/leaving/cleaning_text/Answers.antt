use Rattle.std.proofs.Common.{refl}
use Rattle.tds_relay.specs.Cleaning.{text_of_cleaning, two_bytes_each}
use Rattle.tds_relay.proofs.pool.leaving.cleaning_text.Goals as goal

pub returns : goal.returns
unfolding text_of_cleaning two_bytes_each
returns c = refl

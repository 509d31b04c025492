use Rattle.tds_ends.proofs.Kept as kept
use Rattle.tds_ends.proofs.laws.the_other_stays.Goals as goal

pub returns : goal.returns
returns g c = record {
  asks = kept.asks_kept;
  sends = kept.sends_kept;
  cancels = kept.cancels_kept;
  hears = kept.hears_kept;
  listens = kept.listens_kept;
  works = kept.works_kept;
  arrives = kept.arrives_kept;
  serves = kept.serves_kept;
}

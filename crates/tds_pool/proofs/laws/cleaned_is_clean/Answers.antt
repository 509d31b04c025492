use Rattle.tds_pool.proofs.Over.{cleaned_clean}
use Rattle.tds_pool.proofs.laws.cleaned_is_clean.Goals as goal

pub returns : goal.returns
returns c = cleaned_clean

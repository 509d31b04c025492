use Rattle.laws_never_blamed.proofs.Blameless.{heard_of}
use Rattle.laws_never_blamed.proofs.laws.bytes_spell_what_is_done.Goals as goal

pub returns : goal.returns
returns c = heard_of c.cuts_do_not_matter.ensures

use Rattle.std.proofs.Common.{◌∙◌, ap, inl, inr, Some}
use Rattle.tds_relay.proofs.spared.Undone.{anew_not}
use Rattle.tds_relay.proofs.pool.Pool.begins_anew.Goals as goal

pub returns-in-Some-clause-not_anew : goal.returns-in-Some-clause-not_anew
returns-in-Some-clause-not_anew c = λ e. anew_not _ c.begins_anew_on.result c.begins_anew_on.ensures (inl (c.in-Some.is ∙ ap Some e))

pub returns-in-None-clause-not_anew : goal.returns-in-None-clause-not_anew
returns-in-None-clause-not_anew c = λ e. anew_not _ c.begins_anew_on.result c.begins_anew_on.ensures (inr c.in-None.is)

use Rattle.std.proofs.Common.{sym, subst}
use Rattle.tds_client.specs.Session.{new_session}
use Rattle.tds_client.proofs.Attentions.{IsCalled, new_is_called}
use Rattle.tds_client.proofs.HeardAttentions.{act_out, behind_is_called, never_twice}
use Rattle.tds_client.proofs.heard_laws.one_attention_out.Goals as goal

pub returns-clause-way_out : goal.returns-clause-way_out
returns-clause-way_out c = act_out

pub returns-clause-never_twice : goal.returns-clause-never_twice
returns-clause-never_twice c = λ size before acts s lawful e.
    never_twice size s acts (subst (IsCalled size) (sym e) (behind_is_called size (new_session size) before (new_is_called size lawful)))

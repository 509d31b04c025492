use Rattle.std.proofs.Common.{sym, ap, subst}
use Rattle.tds_client.specs.Calls.{after}
use Rattle.tds_client.specs.Session.{Stage, new_session}
use Rattle.tds_client.specs.Sending.{cancelled_in}
use Rattle.tds_client.proofs.Attentions.{IsCalled, new_is_called, after_is_called, asks_once, never_twice, way_out}
use Rattle.tds_client.proofs.laws.one_attention.Goals as goal

pub returns-clause-asked : goal.returns-clause-asked
returns-clause-asked c = λ size calls effect lawful e.
    asks_once size (after (new_session size) calls) effect (after_is_called size (new_session size) calls (new_is_called size lawful)) e

pub returns-clause-already : goal.returns-clause-already
returns-clause-already c = λ s e. ap (λ (stage : Stage). cancelled_in s stage) e

pub returns-clause-way_out : goal.returns-clause-way_out
returns-clause-way_out c = way_out

pub returns-clause-never_twice : goal.returns-clause-never_twice
returns-clause-never_twice c = λ size before calls s lawful e.
    never_twice size s calls (subst (IsCalled size) (sym e) (after_is_called size (new_session size) before (new_is_called size lawful)))

use Rattle.std.proofs.Common.{refl}
use Rattle.laws_conforming_server.proofs.Runs.{told_alone, ends_alone}
use Rattle.laws_conforming_server.proofs.laws.as_if_alone.Goals as goal

pub returns-clause-begins : goal.returns-clause-begins
returns-clause-begins g c = λ engine acts moves r lawful first run. (told_alone engine acts moves r lawful first run).begins

pub returns-clause-whole : goal.returns-clause-whole
returns-clause-whole g c = λ engine acts moves r lawful first run finished. (told_alone engine acts moves r lawful first run).whole finished

pub returns-clause-beside : goal.returns-clause-beside
returns-clause-beside g c = ends_alone

pub returns-clause-fresh : goal.returns-clause-fresh
returns-clause-fresh g c = λ engine s. refl

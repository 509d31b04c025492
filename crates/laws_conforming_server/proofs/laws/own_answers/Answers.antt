use Rattle.laws_conforming_server.proofs.Runs.{own_answer}
use Rattle.laws_conforming_server.proofs.laws.own_answers.Goals as goal

pub returns-clause-begins : goal.returns-clause-begins
returns-clause-begins g c = λ engine acts moves r lawful run. (own_answer engine acts moves r lawful run).begins

pub returns-clause-whole : goal.returns-clause-whole
returns-clause-whole g c = λ engine acts moves r lawful run finished. (own_answer engine acts moves r lawful run).whole finished

use Rattle.tds_judge.specs.Conversation.{seen}
use Rattle.tds_judge.specs.Framing.{run_of}
use Rattle.std.proofs.Common.{[]}
use Rattle.tds_judge.proofs.Handing.{not_blamed}
use Rattle.tds_judge.proofs.Lawful.{not_broken}
use Rattle.tds_judge.proofs.laws.lawful_is_never_blamed.Goals as goal

pub returns-clause-said : goal.returns-clause-said
returns-clause-said c past later lawful = not_broken past later lawful

pub returns-clause-found : goal.returns-clause-found
returns-clause-found c limits judge pieces tells new lawful = not_blamed judge (seen pieces (run_of judge [])) tells new.talk lawful

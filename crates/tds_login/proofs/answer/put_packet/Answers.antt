use Rattle.std.proofs.Common.{rules}
use Rattle.tds_login.specs.Answers.{answer_packet}
use Rattle.tds_login.proofs.answer.put_packet.Goals as goal

pub returns-clause-ok : goal.returns-clause-ok
unfolding answer_packet
returns-clause-ok c = search rules

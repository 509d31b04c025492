use Rattle.tds_pool.proofs.Over.{given_over, abandoned_over, taken_back_over, ticket_taken_back_over, taken_out_over}
use Rattle.tds_pool.proofs.laws.given_back_is_over.Goals as goal

pub returns-clause-given_back : goal.returns-clause-given_back
returns-clause-given_back c = given_over

pub returns-clause-abandoned : goal.returns-clause-abandoned
returns-clause-abandoned c = abandoned_over

pub returns-clause-taken_back : goal.returns-clause-taken_back
returns-clause-taken_back c = taken_back_over

pub returns-clause-ticket_taken_back : goal.returns-clause-ticket_taken_back
returns-clause-ticket_taken_back c = ticket_taken_back_over

pub returns-clause-taken_out : goal.returns-clause-taken_out
returns-clause-taken_out c = taken_out_over

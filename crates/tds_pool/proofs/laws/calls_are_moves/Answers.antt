use Rattle.tds_pool.proofs.History.{lends_again, changes_client, keeps, gives_back, abandons, looks_again, takes_out, closes, takes_back, cleans, cleans_not, cleans_up}
use Rattle.tds_pool.proofs.laws.calls_are_moves.Goals as goal

pub returns-clause-reused : goal.returns-clause-reused
returns-clause-reused c = lends_again

pub returns-clause-client : goal.returns-clause-client
returns-clause-client c = changes_client

pub returns-clause-kept : goal.returns-clause-kept
returns-clause-kept c = keeps

pub returns-clause-given_back : goal.returns-clause-given_back
returns-clause-given_back c = gives_back

pub returns-clause-abandoned : goal.returns-clause-abandoned
returns-clause-abandoned c = abandons

pub returns-clause-drained : goal.returns-clause-drained
returns-clause-drained c = looks_again

pub returns-clause-lost : goal.returns-clause-lost
returns-clause-lost c = takes_out

pub returns-clause-closed : goal.returns-clause-closed
returns-clause-closed c = closes

pub returns-clause-taken_back : goal.returns-clause-taken_back
returns-clause-taken_back c = takes_back

pub returns-clause-cleaning : goal.returns-clause-cleaning
returns-clause-cleaning c = cleans

pub returns-clause-not_cleaned : goal.returns-clause-not_cleaned
returns-clause-not_cleaned c = cleans_not

pub returns-clause-cleaned : goal.returns-clause-cleaned
returns-clause-cleaned c = cleans_up

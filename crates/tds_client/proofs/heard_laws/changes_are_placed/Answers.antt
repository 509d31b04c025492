use Rattle.tds_client.proofs.Placed.{begin_elsewhere, begin_too_early, commit_elsewhere, reset_first, rollback_elsewhere}
use Rattle.tds_client.proofs.heard_laws.changes_are_placed.Goals as goal

pub returns-clause-begin : goal.returns-clause-begin
returns-clause-begin c = begin_elsewhere

pub returns-clause-commit : goal.returns-clause-commit
returns-clause-commit c = commit_elsewhere

pub returns-clause-rollback : goal.returns-clause-rollback
returns-clause-rollback c = rollback_elsewhere

pub returns-clause-early : goal.returns-clause-early
returns-clause-early c = begin_too_early

pub returns-clause-first : goal.returns-clause-first
returns-clause-first c = reset_first

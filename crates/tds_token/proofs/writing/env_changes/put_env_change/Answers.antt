use Rattle.tds_token.proofs.writing.env_changes.put_env_change.Goals as goal

pub returns-in-Begin-clause-ok : goal.returns-in-Begin-clause-ok
returns-in-Begin-clause-ok c = rw c.in-Begin.is c.put_new.ensures.ok

pub returns-in-Commit-clause-ok : goal.returns-in-Commit-clause-ok
returns-in-Commit-clause-ok c = rw c.in-Commit.is c.put_old.ensures.ok

pub returns-in-Rollback-clause-ok : goal.returns-in-Rollback-clause-ok
returns-in-Rollback-clause-ok c = rw c.in-Rollback.is c.put_old-in-Rollback.ensures.ok

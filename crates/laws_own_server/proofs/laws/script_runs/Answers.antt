use Rattle.laws_own_server.proofs.laws.script_runs.Goals as goal

pub returns-clause-lawful : goal.returns-clause-lawful
returns-clause-lawful c = λ attention log. c.bench_is_lawful.ensures.lawful attention _ log c.script_is_lawful.ensures c.engine_has_dones.ensures c.script_hands_out_next.ensures

pub returns-clause-resets : goal.returns-clause-resets
returns-clause-resets c = λ attention log. c.bench_is_lawful.ensures.resets attention _ log c.script_is_lawful.ensures

pub returns-clause-plays : goal.returns-clause-plays
returns-clause-plays c = λ setup. c.plays_are_runs.ensures.each setup _ c.script_is_lawful.ensures c.engine_stays_in_range.ensures

pub returns-clause-go_on : goal.returns-clause-go_on
returns-clause-go_on c = λ setup events more. c.plays_are_runs.ensures.go_on setup _ c.script_is_lawful.ensures c.engine_stays_in_range.ensures events more

use Rattle.std.proofs.Common.{◌≤◌, vec_len}
use Rattle.serve_requests.specs.declared.plan.TheConstants.{LONGEST}
use Rattle.serve_requests.proofs.session.Habits.plan_text.Given as goal

abbrev pub invariant-loop-statement : goal.invariant-loop-statement
invariant-loop-statement l = vec_len l.plan.text ≤ LONGEST

use Rattle.std.proofs.Common.{◌≡◌, ◌⊎◌, [], take, None}
use Rattle.tds_login.specs.Reading.{fault_of, after, answers_to}
use Rattle.tds_login.proofs.login.Login.feed.Given as goal

-- the bytes so far made this of the login, brought no answer, and no fault
abbrev pub invariant-loop-place : goal.invariant-loop-place
invariant-loop-place l = record {
  state : l.self ≡ after l.fn.self (take l.place l.piece);
  quiet : answers_to l.fn.self (take l.place l.piece) ≡ [];
  on : (l.place ≡ 0) ⊎ (fault_of l.self ≡ None);
}

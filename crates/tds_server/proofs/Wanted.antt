-- Where memory is wanted.
use Rattle.std.proofs.Common.{rules, ℕ, Option, Result, Ok, Err}
use Rattle.tds_packet.specs.declared.status.Reset.{Reset}
use Rattle.tds_request.specs.declared.fault.RequestFault.{RequestFault}
use Rattle.tds_request.specs.declared.request.Request.{Request}
use Rattle.tds_server.specs.Taking.{TakesMemory, answered}
use Rattle.tds_session.specs.Answer.{Answers}
use Rattle.tds_session.specs.Session.{SessionState}

pub answered_takes : (answers : Answers) (session : SessionState) (reset : Option Reset) (read : Result (ℕ × Request) RequestFault) → TakesMemory (answered answers session reset read)
answered_takes answers session reset (Ok asked) = λ e. search rules
answered_takes answers session reset (Err fault) = tt

-- Of an answer of two packets, 40 bytes and 21, the first has come when the link fails: its caller has
-- the tokens of that packet, and no more.
use Rattle.std.specs.Prelude.{refl, List, [], ◌∷◌, true, false, Some, codes}
use Rattle.tds_request.specs.declared.request.Request.TheVariants.{Batch}
use Rattle.tds_session.specs.Answer.{script_answers}
use Rattle.tds_world.specs.declared.event.Event.TheVariants as event
use Rattle.tds_world.specs.declared.outcome.Opened.TheVariants.{New}
use Rattle.tds_world.specs.declared.outcome.Outcome.TheVariants as outcome
use Rattle.tds_world.specs.declared.outcome.SendOutcome.TheVariants as sent
use Rattle.tds_world.specs.declared.outcome.WorkOutcome.TheVariants as work
use Rattle.tds_world.specs.declared.report.RequestStatus.TheVariants as status
use Rattle.tds_world.specs.Losses.{Played, observed_with}
use Rattle.tds_world.proofs.examples.Shown.{with_max, whole, failed, ShowsLosses, asked, session, info, done}

abbrev play : List Played
play =
    whole event.Lease ∷ whole (event.Ask 1 (Batch (codes "say a"))) ∷ whole (event.Send 1) ∷
    whole (event.ToServer 1 40) ∷ whole (event.Work 1) ∷ whole (event.Work 1) ∷
    failed 40 (event.ToClient 1 61) ∷ []

pub shown : ShowsLosses play (observed_with (with_max 1) script_answers play)
    (outcome.Leased 1 1 New ∷ outcome.Asked 1 ∷ outcome.Sent sent.Last ∷ outcome.ToServer 40 ∷
    outcome.Work work.Step ∷ outcome.Work work.Finished ∷ outcome.ToClient 40 ∷ [])
    (false ∷ false ∷ false ∷ false ∷ false ∷ false ∷ true ∷ [])
    (1 ∷ 1 ∷ 1 ∷ 1 ∷ 1 ∷ 1 ∷ 0 ∷ [])
    (asked 1 1 status.Lost (Some (session 0 1)) (info 50000 (codes "a") ∷ done 1 0 ∷ []) ∷ [])
shown = record { outcomes_are = refl; lost_are = refl; shown_are = refl; requests_are = refl; marks = refl }

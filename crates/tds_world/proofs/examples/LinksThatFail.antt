-- The first run, over a carrier whose first, second, .. fifth call fails: it opens a link, sends to the
-- server, carries there, sends to the client, carries there.
use Rattle.std.specs.Prelude.{ℕ, refl, List, [], ◌∷◌, Bool, true, false, Some, None}
use Rattle.tds_request.specs.declared.request.Request.TheVariants.{Begin}
use Rattle.tds_session.specs.Answer.{script_answers}
use Rattle.tds_world.specs.declared.event.Event.TheVariants as event
use Rattle.tds_world.specs.declared.outcome.Opened.TheVariants.{New}
use Rattle.tds_world.specs.declared.outcome.Outcome.{Outcome}
use Rattle.tds_world.specs.declared.outcome.Outcome.TheVariants as outcome
use Rattle.tds_world.specs.declared.outcome.Refusal.TheVariants.{UnknownConnection, ConnectionCut}
use Rattle.tds_world.specs.declared.outcome.SendOutcome.TheVariants as sent
use Rattle.tds_world.specs.declared.outcome.WorkOutcome.TheVariants as work
use Rattle.tds_world.specs.declared.report.RequestReport.{RequestReport}
use Rattle.tds_world.specs.declared.report.RequestStatus.TheVariants as status
use Rattle.tds_world.specs.Losses.{Played, observed_with}
use Rattle.tds_world.proofs.examples.Shown.{with_max, whole, failed, ShowsLosses, asked, session}

abbrev Shows : List Played → List Outcome → List Bool → List ℕ → List RequestReport → Type 0
Shows ps outcomes lost shown requests =
    ShowsLosses ps (observed_with (with_max 1) script_answers ps) outcomes lost shown requests

-- The link fails when it is opened. The lease is told, and its connection is cut.
abbrev first : List Played
first =
    failed 0 event.Lease ∷ whole (event.Ask 1 (Begin 0)) ∷ whole (event.Send 1) ∷
    whole (event.ToServer 1 34) ∷ whole (event.Work 1) ∷ whole (event.ToClient 1 35) ∷ []

pub first_call : Shows first
    (outcome.Leased 1 1 New ∷ outcome.Refused ConnectionCut ∷ outcome.Refused ConnectionCut ∷
    outcome.Refused UnknownConnection ∷ outcome.Refused UnknownConnection ∷
    outcome.Refused UnknownConnection ∷ [])
    (true ∷ false ∷ false ∷ false ∷ false ∷ false ∷ [])
    (0 ∷ 0 ∷ 0 ∷ 0 ∷ 0 ∷ 0 ∷ [])
    []
first_call = record { outcomes_are = refl; lost_are = refl; shown_are = refl; requests_are = refl; marks = refl }

-- The request's packet is handed over, and the link fails.
abbrev second : List Played
second =
    whole event.Lease ∷ whole (event.Ask 1 (Begin 0)) ∷ failed 0 (event.Send 1) ∷
    whole (event.ToServer 1 34) ∷ whole (event.Work 1) ∷ whole (event.ToClient 1 35) ∷ []

pub second_call : Shows second
    (outcome.Leased 1 1 New ∷ outcome.Asked 1 ∷ outcome.Sent sent.Last ∷
    outcome.Refused UnknownConnection ∷ outcome.Refused UnknownConnection ∷
    outcome.Refused UnknownConnection ∷ [])
    (false ∷ false ∷ true ∷ false ∷ false ∷ false ∷ [])
    (1 ∷ 1 ∷ 0 ∷ 0 ∷ 0 ∷ 0 ∷ [])
    (asked 1 1 status.Lost None [] ∷ [])
second_call = record { outcomes_are = refl; lost_are = refl; shown_are = refl; requests_are = refl; marks = refl }

-- None of its bytes come.
abbrev third : List Played
third =
    whole event.Lease ∷ whole (event.Ask 1 (Begin 0)) ∷ whole (event.Send 1) ∷
    failed 0 (event.ToServer 1 34) ∷ whole (event.Work 1) ∷ whole (event.ToClient 1 35) ∷ []

pub third_call : Shows third
    (outcome.Leased 1 1 New ∷ outcome.Asked 1 ∷ outcome.Sent sent.Last ∷ outcome.ToServer 0 ∷
    outcome.Refused UnknownConnection ∷ outcome.Refused UnknownConnection ∷ [])
    (false ∷ false ∷ false ∷ true ∷ false ∷ false ∷ [])
    (1 ∷ 1 ∷ 1 ∷ 0 ∷ 0 ∷ 0 ∷ [])
    (asked 1 1 status.Lost None [] ∷ [])
third_call = record { outcomes_are = refl; lost_are = refl; shown_are = refl; requests_are = refl; marks = refl }

-- The server works, and its answer is lost. The request ran.
abbrev fourth : List Played
fourth =
    whole event.Lease ∷ whole (event.Ask 1 (Begin 0)) ∷ whole (event.Send 1) ∷
    whole (event.ToServer 1 34) ∷ failed 0 (event.Work 1) ∷ whole (event.ToClient 1 35) ∷ []

pub fourth_call : Shows fourth
    (outcome.Leased 1 1 New ∷ outcome.Asked 1 ∷ outcome.Sent sent.Last ∷ outcome.ToServer 34 ∷
    outcome.Work work.Finished ∷ outcome.Refused UnknownConnection ∷ [])
    (false ∷ false ∷ false ∷ false ∷ true ∷ false ∷ [])
    (1 ∷ 1 ∷ 1 ∷ 1 ∷ 0 ∷ 0 ∷ [])
    (asked 1 1 status.Lost (Some (session 0 1)) [] ∷ [])
fourth_call = record { outcomes_are = refl; lost_are = refl; shown_are = refl; requests_are = refl; marks = refl }

-- None of the answer comes.
abbrev fifth : List Played
fifth =
    whole event.Lease ∷ whole (event.Ask 1 (Begin 0)) ∷ whole (event.Send 1) ∷
    whole (event.ToServer 1 34) ∷ whole (event.Work 1) ∷ failed 0 (event.ToClient 1 35) ∷ []

pub fifth_call : Shows fifth
    (outcome.Leased 1 1 New ∷ outcome.Asked 1 ∷ outcome.Sent sent.Last ∷ outcome.ToServer 34 ∷
    outcome.Work work.Finished ∷ outcome.ToClient 0 ∷ [])
    (false ∷ false ∷ false ∷ false ∷ false ∷ true ∷ [])
    (1 ∷ 1 ∷ 1 ∷ 1 ∷ 1 ∷ 0 ∷ [])
    (asked 1 1 status.Lost (Some (session 0 1)) [] ∷ [])
fifth_call = record { outcomes_are = refl; lost_are = refl; shown_are = refl; requests_are = refl; marks = refl }

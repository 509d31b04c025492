-- Links that fail where an attention is sent, where a lease is given back, and where the server sends
-- its acknowledgement.
use Rattle.std.specs.Prelude.{ℕ, refl, List, [], ◌∷◌, Bool, true, false, None}
use Rattle.tds_request.specs.declared.request.Request.TheVariants.{Begin}
use Rattle.tds_session.specs.Answer.{script_answers}
use Rattle.tds_world.specs.declared.event.Event.TheVariants as event
use Rattle.tds_world.specs.declared.outcome.CancelOutcome.TheVariants as cancel
use Rattle.tds_world.specs.declared.outcome.GiveBackOutcome.TheVariants as returned
use Rattle.tds_world.specs.declared.outcome.Opened.TheVariants.{New}
use Rattle.tds_world.specs.declared.outcome.Outcome.{Outcome}
use Rattle.tds_world.specs.declared.outcome.Outcome.TheVariants as outcome
use Rattle.tds_world.specs.declared.outcome.Refusal.TheVariants.{UnknownLease, UnknownConnection, ConnectionCut}
use Rattle.tds_world.specs.declared.outcome.SendOutcome.TheVariants as sent
use Rattle.tds_world.specs.declared.report.RequestReport.{RequestReport}
use Rattle.tds_world.specs.declared.report.RequestStatus.TheVariants as status
use Rattle.tds_world.specs.Losses.{Played, observed_with}
use Rattle.tds_world.proofs.examples.Shown.{with_max, whole, failed, ShowsLosses, asked}

abbrev Shows : List Played → List Outcome → List Bool → List ℕ → List RequestReport → Type 0
Shows ps outcomes lost shown requests =
    ShowsLosses ps (observed_with (with_max 1) script_answers ps) outcomes lost shown requests

-- The attention is lost. What is to come to the server isn't carried any more; the lease stays known,
-- and the next one gets a connection of its own, since the first is cut.
abbrev attention : List Played
attention =
    whole event.Lease ∷ whole (event.Ask 1 (Begin 0)) ∷ whole (event.Send 1) ∷
    failed 0 (event.Cancel 1) ∷ whole (event.ToServer 1 42) ∷ whole (event.Cancel 1) ∷
    whole event.Lease ∷ []

pub at_cancel : Shows attention
    (outcome.Leased 1 1 New ∷ outcome.Asked 1 ∷ outcome.Sent sent.Last ∷ outcome.Cancel cancel.Asked ∷
    outcome.Refused UnknownConnection ∷ outcome.Refused ConnectionCut ∷ outcome.Leased 2 2 New ∷ [])
    (false ∷ false ∷ false ∷ true ∷ false ∷ false ∷ false ∷ [])
    (1 ∷ 1 ∷ 1 ∷ 0 ∷ 0 ∷ 0 ∷ 1 ∷ [])
    (asked 1 1 status.Lost None [] ∷ [])
at_cancel = record { outcomes_are = refl; lost_are = refl; shown_are = refl; requests_are = refl; marks = refl }

-- A lease that is given back ends, though the attention that this sends is lost.
abbrev given_back : List Played
given_back =
    whole event.Lease ∷ whole (event.Ask 1 (Begin 0)) ∷ whole (event.Send 1) ∷
    failed 0 (event.GiveBack 1) ∷ whole (event.GiveBack 1) ∷ []

pub at_give_back : Shows given_back
    (outcome.Leased 1 1 New ∷ outcome.Asked 1 ∷ outcome.Sent sent.Last ∷
    outcome.GivenBack returned.Draining ∷ outcome.Refused UnknownLease ∷ [])
    (false ∷ false ∷ false ∷ true ∷ false ∷ [])
    (1 ∷ 1 ∷ 1 ∷ 0 ∷ 0 ∷ [])
    (asked 1 1 status.Lost None [] ∷ [])
at_give_back = record { outcomes_are = refl; lost_are = refl; shown_are = refl; requests_are = refl; marks = refl }

-- The request, 34 bytes, and the attention, 8, come to the server, and what it sends then is lost.
abbrev acknowledged : List Played
acknowledged =
    whole event.Lease ∷ whole (event.Ask 1 (Begin 0)) ∷ whole (event.Send 1) ∷
    whole (event.Cancel 1) ∷ failed 42 (event.ToServer 1 42) ∷ whole (event.ToClient 1 21) ∷ []

pub at_acknowledgement : Shows acknowledged
    (outcome.Leased 1 1 New ∷ outcome.Asked 1 ∷ outcome.Sent sent.Last ∷ outcome.Cancel cancel.Asked ∷
    outcome.ToServer 42 ∷ outcome.Refused UnknownConnection ∷ [])
    (false ∷ false ∷ false ∷ false ∷ true ∷ false ∷ [])
    (1 ∷ 1 ∷ 1 ∷ 1 ∷ 0 ∷ 0 ∷ [])
    (asked 1 1 status.Lost None [] ∷ [])
at_acknowledgement = record { outcomes_are = refl; lost_are = refl; shown_are = refl; requests_are = refl; marks = refl }

-- A connection in each phase is brought to rest, with a cancel and without one.
use Rattle.std.specs.Prelude.{ℕ, ◌≡◌, refl, List, [], ◌∷◌, ◌++◌, map, replicate, codes}
use Rattle.tds_request.specs.declared.request.Request.TheVariants.{Batch}
use Rattle.tds_session.specs.Answer.{script_answers}
use Rattle.tds_world.specs.declared.event.Event.{Event}
use Rattle.tds_world.specs.declared.event.Event.TheVariants as event
use Rattle.tds_world.specs.declared.report.ClientView.{ClientView}
use Rattle.tds_world.specs.declared.report.ClientView.TheVariants.{Idle, Sending, Reading, Cancelling}
use Rattle.tds_world.specs.declared.report.Place.{Place}
use Rattle.tds_world.specs.declared.report.Place.TheVariants.{Leased, Draining, Free}
use Rattle.tds_world.specs.declared.report.RequestStatus.{RequestStatus}
use Rattle.tds_world.specs.declared.report.RequestStatus.TheVariants as status
use Rattle.tds_world.specs.declared.report.Snapshot.{Snapshot}
use Rattle.tds_world.specs.Connection.{In}
use Rattle.tds_world.specs.Observed.{observed, snapshots}
use Rattle.tds_world.specs.Events.{world_after}
use Rattle.tds_world.specs.rest.Rest.{stopping, finishing}
use Rattle.tds_world.specs.World.{new_world}
use Rattle.tds_world.proofs.examples.Shown.{with_max}

-- Of each connection its client, its place and the bytes underway; and of each request its status.
abbrev Seen : Type 0
Seen = ClientView × (Place × (ℕ × ℕ))

abbrev seen_of : Snapshot → Seen
seen_of s = (s.client, (s.place, (s.to_server, s.to_client)))

abbrev after : List Event → List Seen
after events = map seen_of (snapshots (world_after (with_max 1) script_answers events new_world))

abbrev became : List Event → List RequestStatus
became events = map (λ q. q.status) (observed (with_max 1) script_answers events).requests

-- The phases.
abbrev asked : List Event
asked = event.Lease ∷ event.Ask 1 (Batch (codes "begin")) ∷ []

abbrev partly_sent : List Event
partly_sent = event.Lease ∷ event.Ask 1 (Batch (replicate 300 97)) ∷ event.Send 1 ∷ []

abbrev reading : List Event
reading = asked ++ event.Send 1 ∷ event.ToServer 1 20 ∷ []

abbrev in_the_middle : List Event
in_the_middle = asked ++ event.Send 1 ∷ event.ToServer 1 40 ∷ event.Work 1 ∷ event.ToClient 1 9 ∷ []

abbrev behind_the_end : List Event
behind_the_end = in_the_middle ++ event.Work 1 ∷ []

abbrev crossing : List Event
crossing = behind_the_end ++ event.Cancel 1 ∷ []

abbrev draining : List Event
draining = in_the_middle ++ event.GiveBack 1 ∷ []

-- All bytes of them, and of what follows.
abbrev stops : List Event
stops = stopping (In (Leased 1)) 1 4294967295 4294967295

abbrev finishes : List Event
finishes = finishing (In (Leased 1)) 1 2 4294967295 2 4294967295

abbrev rest : List Seen
rest = (Idle, (Leased 1, (0, 0))) ∷ []

pub asked_stops : (after asked ≡ (Sending, (Leased 1, (0, 0))) ∷ []) × ((after (asked ++ stops) ≡ rest) × (became (asked ++ stops) ≡ status.Unsent ∷ []))
asked_stops = (refl, (refl, refl))

pub partly_sent_stops : (after partly_sent ≡ (Sending, (Leased 1, (512, 0))) ∷ []) × ((after (partly_sent ++ stops) ≡ rest) × (became (partly_sent ++ stops) ≡ status.Acknowledged ∷ []))
partly_sent_stops = (refl, (refl, refl))

pub reading_stops : (after reading ≡ (Reading, (Leased 1, (20, 0))) ∷ []) × ((after (reading ++ stops) ≡ rest) × (became (reading ++ stops) ≡ status.Acknowledged ∷ []))
reading_stops = (refl, (refl, refl))

pub in_the_middle_stops : (after in_the_middle ≡ (Reading, (Leased 1, (0, 26))) ∷ []) × ((after (in_the_middle ++ stops) ≡ rest) × (became (in_the_middle ++ stops) ≡ status.Acknowledged ∷ []))
in_the_middle_stops = (refl, (refl, refl))

pub behind_the_end_stops : (after (behind_the_end ++ stops) ≡ rest) × (became (behind_the_end ++ stops) ≡ status.Acknowledged ∷ [])
behind_the_end_stops = (refl, refl)

pub crossing_stops : (after (crossing ++ stops) ≡ rest) × (became (crossing ++ stops) ≡ status.Acknowledged ∷ [])
crossing_stops = (refl, refl)

pub draining_stops : (after draining ≡ (Cancelling, (Draining, (8, 26))) ∷ []) × (after (draining ++ stopping (In Draining) 1 4294967295 4294967295) ≡ (Idle, (Free, (0, 0))) ∷ [])
draining_stops = (refl, refl)

pub asked_finishes : (after (asked ++ finishes) ≡ rest) × (became (asked ++ finishes) ≡ status.Finished ∷ [])
asked_finishes = (refl, refl)

pub partly_sent_finishes : (after (partly_sent ++ finishes) ≡ rest) × (became (partly_sent ++ finishes) ≡ status.Finished ∷ [])
partly_sent_finishes = (refl, refl)

pub reading_finishes : (after (reading ++ finishes) ≡ rest) × (became (reading ++ finishes) ≡ status.Finished ∷ [])
reading_finishes = (refl, refl)

pub in_the_middle_finishes : (after (in_the_middle ++ finishes) ≡ rest) × (became (in_the_middle ++ finishes) ≡ status.Finished ∷ [])
in_the_middle_finishes = (refl, refl)

pub behind_the_end_finishes : (after (behind_the_end ++ finishes) ≡ rest) × (became (behind_the_end ++ finishes) ≡ status.Finished ∷ [])
behind_the_end_finishes = (refl, refl)

pub crossing_finishes : (after (crossing ++ finishes) ≡ rest) × (became (crossing ++ finishes) ≡ status.Acknowledged ∷ [])
crossing_finishes = (refl, refl)

pub draining_finishes : (after (draining ++ finishing (In Draining) 1 2 4294967295 2 4294967295) ≡ (Idle, (Free, (0, 0))) ∷ []) × (became (draining ++ finishing (In Draining) 1 2 4294967295 2 4294967295) ≡ status.Acknowledged ∷ [])
draining_finishes = (refl, refl)

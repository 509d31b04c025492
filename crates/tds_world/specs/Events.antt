-- The events: which connection each is about, what it does there, and what the world notes.
use Rattle.std.specs.Prelude.{ℕ, ◌-◌, min, List, [], ◌∷◌, ◌++◌, map, Bool, true, false, Option, Some, None}
use Rattle.tds_request.specs.declared.request.Request.{Request}
use Rattle.tds_session.specs.Answer as answer
use Rattle.tds_session.specs.Answer.{Answers}
use Rattle.tds_world.specs.declared.event.Event.{Event}
use Rattle.tds_world.specs.declared.event.Event.TheVariants as event
use Rattle.tds_world.specs.declared.event.Setup.{Setup}
use Rattle.tds_world.specs.declared.outcome.Outcome.{Outcome}
use Rattle.tds_world.specs.declared.outcome.Outcome.TheVariants as outcome
use Rattle.tds_world.specs.declared.outcome.Refusal.TheVariants as refusal
use Rattle.tds_world.specs.declared.outcome.SendOutcome.{SendOutcome}
use Rattle.tds_world.specs.declared.outcome.SendOutcome.TheVariants as sent
use Rattle.tds_world.specs.declared.outcome.WorkOutcome.{WorkOutcome}
use Rattle.tds_world.specs.declared.outcome.WorkOutcome.TheVariants as work
use Rattle.tds_world.specs.Arrivals.{to_server, to_client, works}
use Rattle.tds_world.specs.Caller.{asks, sends, sends_last, cancels, cancel_outcome}
use Rattle.tds_world.specs.Cleaning.{can_clean, cleans}
use Rattle.tds_world.specs.Connection.{Connection, phase, is_idle, up_underway, down_underway, cut}
use Rattle.tds_world.specs.Phase.{Phase, Asked, Sending}
use Rattle.tds_world.specs.Pool.{Acted, Refuses, Does, is_free, to_lend, opens, lends, resumes, gives_back, abandons, keeps}
use Rattle.tds_world.specs.Record.{Record}
use Rattle.tds_world.specs.World.{World, Found, Missing, Here, Opens, put_numbered, next_number, holding, holding_ended, ended_numbered, by_number, by_lease, by_ticket, not_cut}

-- A request is asked where nobody waits for an answer.
abbrev pub asks_by : Bool → ℕ → ℕ → ℕ → Request → Connection → Acted
asks_by true number lease n q c = Does (outcome.Asked number) (asks number lease n q c)
asks_by false number lease n q c = Refuses refusal.NotIdle

-- The newest request sends its next packet, if one is left. A packet has so much room for data.
abbrev pub sent_as : Bool → SendOutcome
sent_as true = sent.Last
sent_as false = sent.More

abbrev pub sends_in : Phase → ℕ → Option Record → Connection → Acted
sends_in Asked room (Some q) c =
    Does (outcome.Sent (sent_as (sends_last room q))) (sends room q c)
sends_in Sending room (Some q) c =
    Does (outcome.Sent (sent_as (sends_last room q))) (sends room q c)
sends_in p room q c = Refuses refusal.NotSending

-- A free connection is cleaned. Any other one is refused.
abbrev pub cleans_by : Bool → Bool → ℕ → ℕ → ℕ → ℕ → Connection → Acted
cleans_by false can room lease number n c = Refuses refusal.NotFree
cleans_by true false room lease number n c = Refuses refusal.NotIdle
cleans_by true true room lease number n c = Does (outcome.Cleaning lease number) (cleans room lease number n c)

-- What work answers, by the answer that was due.
abbrev pub work_outcome : List answer.Step → WorkOutcome
work_outcome [] = work.Idle
work_outcome (s ∷ []) = work.Finished
work_outcome (s ∷ t ∷ ss) = work.Step

-- The connection that an event is about. A restart is about all of them.
abbrev pub about : Setup → World → Event → Found
about setup w event.Lease = to_lend setup w
about setup w (event.Resume ticket) = not_cut (by_ticket w ticket)
about setup w (event.GiveBack lease) = by_lease w lease
about setup w (event.Keep lease) = not_cut (by_lease w lease)
about setup w (event.Abandon ticket) = by_ticket w ticket
about setup w (event.Clean n) = by_number w n
about setup w (event.Ask lease q) = not_cut (by_lease w lease)
about setup w (event.Send lease) = not_cut (by_lease w lease)
about setup w (event.Cancel lease) = not_cut (by_lease w lease)
about setup w (event.Work n) = by_number w n
about setup w (event.ToServer n count) = by_number w n
about setup w (event.ToClient n count) = by_number w n
about setup w (event.Cut n) = by_number w n
about setup w _ = Missing refusal.UnknownConnection

-- What an event does to its connection, which has number n.
abbrev pub acts : Setup → Answers → World → Event → ℕ → Connection → Acted
acts setup answers w event.Lease n c = lends (next_number w.leases) n c
acts setup answers w (event.Resume ticket) n c = resumes (next_number w.leases) n c
acts setup answers w (event.GiveBack lease) n c = gives_back c
acts setup answers w (event.Keep lease) n c = keeps (next_number w.tickets) c
acts setup answers w (event.Abandon ticket) n c = abandons c
acts setup answers w (event.Clean _) n c =
    cleans_by (is_free c.standing)
    (can_clean (setup.packet_size - 8) (next_number w.leases) (next_number w.asked_on) n c)
    (setup.packet_size - 8) (next_number w.leases) (next_number w.asked_on) n c
acts setup answers w (event.Ask lease q) n c =
    asks_by (is_idle c) (next_number w.asked_on) lease n q c
acts setup answers w (event.Send lease) n c =
    sends_in (phase c) (setup.packet_size - 8) c.current c
acts setup answers w (event.Cancel lease) n c =
    Does (outcome.Cancel (cancel_outcome (phase c))) (cancels c)
acts setup answers w (event.Work _) n c = Does (outcome.Work (work_outcome c.due)) (works c)
acts setup answers w (event.ToServer _ count) n c =
    Does (outcome.ToServer (min count (up_underway c))) (to_server answers count c)
acts setup answers w (event.ToClient _ count) n c =
    Does (outcome.ToClient (min count (down_underway c))) (to_client count c)
acts setup answers w (event.Cut _) n c = Does outcome.Cut (cut c)
acts setup answers w _ n c = Refuses refusal.UnknownConnection

-- What the world notes of an event beside its connection, which has number n and had heard this
-- descriptor: leases and tickets that begin and end, and where a request was asked.
abbrev pub notes : Event → ℕ → ℕ → World → World
notes event.Lease n heard w = record w { leases = w.leases ++ holding n heard None ∷ [] }
notes (event.Resume ticket) n heard w = record w {
  tickets = ended_numbered ticket w.tickets;
  leases = w.leases ++ holding n heard (Some ticket) ∷ [];
}
notes (event.GiveBack lease) n heard w = record w { leases = ended_numbered lease w.leases }
notes (event.Keep lease) n heard w = record w {
  leases = ended_numbered lease w.leases;
  tickets = w.tickets ++ holding n heard None ∷ [];
}
notes (event.Abandon ticket) n heard w = record w { tickets = ended_numbered ticket w.tickets }
notes (event.Clean _) n heard w = record w {
  leases = w.leases ++ holding_ended (holding n heard None) ∷ [];
  asked_on = w.asked_on ++ n ∷ [];
}
notes (event.Ask lease q) n heard w = record w { asked_on = w.asked_on ++ n ∷ [] }
notes e n heard w = w

-- A refusal changes nothing. Else the connection takes its place, and the world its note.
abbrev pub settles : Event → ℕ → World → Acted → Outcome × World
settles e n w (Refuses why) = (outcome.Refused why, w)
settles e n w (Does what c) =
    (what, notes e n c.heard (record w { connections = put_numbered n c w.connections }))

-- An event, on the connection that was found. A lease alone opens one.
abbrev pub happens_at : Setup → Answers → Event → World → Found → Outcome × World
happens_at setup answers e w (Missing why) = (outcome.Refused why, w)
happens_at setup answers e w (Here n c) = settles e n w (acts setup answers w e n c)
happens_at setup answers e w (Opens n) =
    settles event.Lease n w (opens setup.on_attention (next_number w.leases) n)

-- One event: its outcome, and the world after it. A restart of the server cuts every connection;
-- one of the client also ends every lease and ticket.
abbrev pub happens : Setup → Answers → Event → World → Outcome × World
happens setup answers event.RestartServer w =
    (outcome.RestartedServer, record w { connections = map cut w.connections })
happens setup answers event.RestartClient w = (
  outcome.RestartedClient,
  record w {
    connections = map cut w.connections;
    leases = map holding_ended w.leases;
    tickets = map holding_ended w.tickets;
  },
)
happens setup answers e w = happens_at setup answers e w (about setup w e)

-- The world after the events, one after the other.
abbrev pub world_after : Setup → Answers → List Event → World → World
world_after setup answers [] w = w
world_after setup answers (e ∷ es) w = world_after setup answers es (happens setup answers e w).1

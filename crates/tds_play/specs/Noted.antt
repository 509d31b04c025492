-- What a play notes of an event that applied, on this connection.
use Rattle.std.specs.Prelude.{ℕ, List, [], ◌∷◌, ◌++◌, length, Option, Some, None}
use Rattle.tds_world.specs.declared.event.Event.{Event}
use Rattle.tds_world.specs.declared.event.Event.TheVariants as event
use Rattle.tds_world.specs.declared.outcome.Refusal.{Refusal}
use Rattle.tds_world.specs.declared.outcome.Refusal.TheVariants.{UnknownConnection, UnknownLease, UnknownTicket}
use Rattle.tds_world.specs.Connection.{Standing}
use Rattle.tds_play.specs.Lending.{Found, Missing, lent, numbered_of}
use Rattle.tds_play.specs.Holdings.{conn_of, ended_of}

-- The leases after it. That of a cleaning is over at once.
abbrev pub leases_after : Event → ℕ → List (Option ℕ) → List (Option ℕ)
leases_after event.Lease conn leases = leases ++ Some conn ∷ []
leases_after (event.Resume ticket) conn leases = leases ++ Some conn ∷ []
leases_after (event.GiveBack lease) conn leases = ended_of leases lease
leases_after (event.Keep lease) conn leases = ended_of leases lease
leases_after (event.Clean n) conn leases = leases ++ None ∷ []
leases_after e conn leases = leases

-- The tickets.
abbrev pub tickets_after : Event → ℕ → List (Option ℕ) → List (Option ℕ)
tickets_after (event.Resume ticket) conn tickets = ended_of tickets ticket
tickets_after (event.Keep lease) conn tickets = tickets ++ Some conn ∷ []
tickets_after (event.Abandon ticket) conn tickets = ended_of tickets ticket
tickets_after e conn tickets = tickets

-- The connections of the requests.
abbrev pub asked_after : Event → ℕ → List ℕ → List ℕ
asked_after (event.Ask lease request) conn asked = asked ++ conn ∷ []
asked_after (event.Clean n) conn asked = asked ++ conn ∷ []
asked_after e conn asked = asked

-- The connection that a lease or ticket holds, of so many.
abbrev pub held_of : ℕ → Option ℕ → Refusal → Found
held_of count None why = Missing why
held_of count (Some conn) why = numbered_of count conn why

-- The connection that an event is about, where the connections stand so, and so many may be in the
-- pool. A restart is about none alone.
abbrev pub about_of : Event → List Standing → ℕ → List (Option ℕ) → List (Option ℕ) → Found
about_of event.Lease standings max leases tickets = lent standings max
about_of (event.Resume ticket) standings max leases tickets =
    held_of (length standings) (conn_of tickets ticket) UnknownTicket
about_of (event.Abandon ticket) standings max leases tickets =
    held_of (length standings) (conn_of tickets ticket) UnknownTicket
about_of (event.GiveBack lease) standings max leases tickets =
    held_of (length standings) (conn_of leases lease) UnknownLease
about_of (event.Keep lease) standings max leases tickets =
    held_of (length standings) (conn_of leases lease) UnknownLease
about_of (event.Clean n) standings max leases tickets =
    numbered_of (length standings) n UnknownConnection
about_of (event.Ask lease q) standings max leases tickets =
    held_of (length standings) (conn_of leases lease) UnknownLease
about_of (event.Send lease) standings max leases tickets =
    held_of (length standings) (conn_of leases lease) UnknownLease
about_of (event.Cancel lease) standings max leases tickets =
    held_of (length standings) (conn_of leases lease) UnknownLease
about_of (event.Work n) standings max leases tickets =
    numbered_of (length standings) n UnknownConnection
about_of (event.ToServer n count) standings max leases tickets =
    numbered_of (length standings) n UnknownConnection
about_of (event.ToClient n count) standings max leases tickets =
    numbered_of (length standings) n UnknownConnection
about_of (event.Cut n) standings max leases tickets =
    numbered_of (length standings) n UnknownConnection
about_of event.RestartServer standings max leases tickets = Missing UnknownConnection
about_of event.RestartClient standings max leases tickets = Missing UnknownConnection

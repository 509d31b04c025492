-- Cleaning: the pool resets a connection that was given back, before anybody is lent it again.
use Rattle.std.specs.Prelude.{ℕ, [], ◌∷◌, Bool, true, ◌&&◌, Some}
use Rattle.tds_packet.specs.declared.status.Reset.TheVariants.{Full}
use Rattle.tds_packet.specs.Resets.{strongest}
use Rattle.tds_request.specs.declared.request.Request.{Request}
use Rattle.tds_request.specs.declared.request.Request.TheVariants.{Batch}
use Rattle.tds_world.specs.declared.report.Place.TheVariants as place
use Rattle.tds_world.specs.Caller.{asks, sends_by, sends_last}
use Rattle.tds_world.specs.Connection.{Connection, In, is_idle}
use Rattle.tds_world.specs.Record.{Record, new_record}

-- What a cleaning asks: the batch `say clean`, which changes nothing.
abbrev pub clean_request : Request
clean_request = Batch (115 ∷ 97 ∷ 121 ∷ 32 ∷ 99 ∷ 108 ∷ 101 ∷ 97 ∷ 110 ∷ [])

-- A connection whose next request asks for a full reset. Nobody holds it, and it is free once nobody
-- waits for an answer.
abbrev pub aside : Connection → Connection
aside c = record c { mark = strongest (Some Full) c.mark; standing = In place.Draining }

-- The request of a cleaning, which is the pool's own: its lease is one of this number.
abbrev pub cleaning_record : ℕ → ℕ → ℕ → Connection → Record
cleaning_record lease number n c = new_record number lease n clean_request (aside c).mark c.heard

-- It is cleaned: the pool leases it to itself, under a lease that is over at once, so that no event can
-- cancel what it asks; and all of the request goes out, in one packet.
abbrev pub cleans : ℕ → ℕ → ℕ → ℕ → Connection → Connection
cleans room lease number n c =
    sends_by true room (cleaning_record lease number n c) (asks number lease n clean_request (aside c))

-- Whether it can be: nobody waits for an answer, and a packet has room for what is asked. With a setup
-- that a play takes it has: 504 bytes, and the request has 40.
abbrev pub can_clean : ℕ → ℕ → ℕ → ℕ → Connection → Bool
can_clean room lease number n c = is_idle c && sends_last room (cleaning_record lease number n c)

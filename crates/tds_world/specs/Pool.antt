-- What the pool does: lend the free connection with the lowest number or a new one, take it back,
-- keep it for its transaction, lend it again.
use Rattle.std.specs.Prelude.{ℕ, suc, ◌+◌, List, [], ◌∷◌, Bool, true, false, if◌then◌else◌, nat_lt, ◌==◌, ◌||◌, Option, Some, None}
use Rattle.tds_packet.specs.declared.status.Reset.{Reset}
use Rattle.tds_packet.specs.declared.status.Reset.TheVariants.{Full, KeepTransaction}
use Rattle.tds_packet.specs.Resets.{strongest}
use Rattle.tds_session.specs.declared.attention.OnAttention.{OnAttention}
use Rattle.tds_world.specs.declared.event.Setup.{Setup}
use Rattle.tds_world.specs.declared.outcome.AbandonOutcome.TheVariants as abandoned
use Rattle.tds_world.specs.declared.outcome.GiveBackOutcome.{GiveBackOutcome}
use Rattle.tds_world.specs.declared.outcome.GiveBackOutcome.TheVariants as returned
use Rattle.tds_world.specs.declared.outcome.Opened.TheVariants as opened
use Rattle.tds_world.specs.declared.outcome.Outcome.{Outcome}
use Rattle.tds_world.specs.declared.outcome.Outcome.TheVariants as outcome
use Rattle.tds_world.specs.declared.outcome.Refusal.{Refusal}
use Rattle.tds_world.specs.declared.outcome.Refusal.TheVariants as refusal
use Rattle.tds_world.specs.declared.report.Place.{Place}
use Rattle.tds_world.specs.declared.report.Place.TheVariants as place
use Rattle.tds_world.specs.Caller.{cancels}
use Rattle.tds_world.specs.Connection.{Connection, new_connection, Standing, In, Cut, is_cut, is_idle}
use Rattle.tds_world.specs.World.{World, Found, Missing, Opens, numbered, next_number, there}

-- What an event does to its connection: it is refused, or it has this outcome, and the connection
-- is this one after it.
pub data Acted : Type 0 where
  Refuses : (refusal : Refusal) → Acted
  Does : (outcome : Outcome) (connection : Connection) → Acted

-- Whether a connection is free.
abbrev pub is_free : Standing → Bool
is_free (In place.Free) = true
is_free _ = false

abbrev pub first_of : Bool → ℕ → Option ℕ → Option ℕ
first_of true n later = Some n
first_of false n later = later

-- The number of the first free connection of a list, whose first has number n.
abbrev pub lowest_free : ℕ → List Connection → Option ℕ
lowest_free n [] = None
lowest_free n (c ∷ cs) = first_of (is_free c.standing) n (lowest_free (suc n) cs)

-- How many connections are in the pool: those that aren't cut.
abbrev pub pool_count : List Connection → ℕ
pool_count [] = 0
pool_count (c ∷ cs) = (if is_cut c.standing then 0 else 1) + pool_count cs

-- The connection that the next lease gets: the free one with the lowest number, or else a new one,
-- if the pool has room.
abbrev pub to_lend_by : Setup → World → Option ℕ → Found
to_lend_by setup w (Some n) = there refusal.AllInUse n (numbered w.connections n)
to_lend_by setup w None =
    if nat_lt (pool_count w.connections) setup.max
    then Opens (next_number w.connections)
    else Missing refusal.AllInUse

abbrev pub to_lend : Setup → World → Found
to_lend setup w = to_lend_by setup w (lowest_free 1 w.connections)

-- A new connection is lent, under this lease.
abbrev pub opens : OnAttention → ℕ → ℕ → Acted
opens on_attention lease n =
    Does (outcome.Leased lease n opened.New) (new_connection on_attention (place.Leased lease))

-- A free connection is lent again. Its next request asks for a full reset.
abbrev pub lends : ℕ → ℕ → Connection → Acted
lends lease n c = Does (outcome.Leased lease n opened.Reused) (record c {
  mark = strongest (Some Full) c.mark;
  standing = In (place.Leased lease);
})

-- A kept connection is lent again. Its next request asks for a reset that keeps the transaction,
-- unless a full one is asked for already.
abbrev pub resumes : ℕ → ℕ → Connection → Acted
resumes lease n c = Does (outcome.Leased lease n opened.Resumed) (record c {
  mark = strongest (Some KeepTransaction) c.mark;
  standing = In (place.Leased lease);
})

-- A connection that is given back is free if nobody waits on it, and else it drains.
abbrev pub place_back : Bool → Place
place_back true = place.Free
place_back false = place.Draining

abbrev pub returned_as : Bool → GiveBackOutcome
returned_as true = returned.Free
returned_as false = returned.Draining

abbrev pub comes_back : Connection → Acted
comes_back c =
    Does (outcome.GivenBack (returned_as (is_idle c)))
    (record c { standing = In (place_back (is_idle c)) })

-- A lease is given back: what is underway is cancelled first. Of a cut connection nothing is left
-- to cancel.
abbrev pub gives_back_at : Standing → Connection → Acted
gives_back_at (In p) c = comes_back (cancels c)
gives_back_at Cut c = Does (outcome.GivenBack returned.Closed) c

abbrev pub gives_back : Connection → Acted
gives_back c = gives_back_at c.standing c

-- A ticket is abandoned. A kept connection is idle, so it is free then.
abbrev pub abandons_at : Standing → Connection → Acted
abandons_at (In p) c =
    Does (outcome.Abandoned abandoned.Free) (record c { standing = In place.Free })
abandons_at Cut c = Does (outcome.Abandoned abandoned.Closed) c

abbrev pub abandons : Connection → Acted
abandons c = abandons_at c.standing c

abbrev pub is_full : Option Reset → Bool
is_full (Some Full) = true
is_full _ = false

-- A lease becomes a ticket: on an idle connection, whose client heard of a transaction that no full
-- reset is to end.
abbrev pub keeps_by : Bool → Bool → ℕ → Connection → Acted
keeps_by false nothing ticket c = Refuses refusal.NotIdle
keeps_by true true ticket c = Refuses refusal.NothingToKeep
keeps_by true false ticket c =
    Does (outcome.Kept ticket) (record c { standing = In (place.Kept ticket) })

abbrev pub keeps : ℕ → Connection → Acted
keeps ticket c = keeps_by (is_idle c) (c.heard == 0 || is_full c.mark) ticket c

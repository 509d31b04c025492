-- What was trips on a connection leads to the session at its server's end.
use Rattle.std.proofs.Common.{◌≡◌, ◌∙◌, ℕ, Bool, true, false, List, [], ◌∷◌, refl, sym, ap, subst}
use Rattle.std.specs.Prelude.{Option, nat_lt, if◌then◌else◌}
use Rattle.tds_packet.specs.declared.status.Reset.{Reset}
use Rattle.tds_service.specs.Line.{Packet, OfRequest, Ignore, Attention}
use Rattle.tds_relay.specs.Law.{IsAway, WaitsAway, done_before, done_since}
use Rattle.tds_relay.specs.Pool as pool
use Rattle.tds_relay.specs.Pool.{Event, Sharing, pool_after, new_pool, turn}
use Rattle.tds_relay.specs.Giving.{Visit}
use Rattle.tds_state.specs.Pasts.{Remark}
use Rattle.laws_as_if_alone.specs.Alone.{AllOrderly}
use Rattle.laws_as_if_alone.specs.Serving.{ServerEnd, Moment, Server, World, fresh, goes_out, happens, logged_in, new_end, new_world, reached, reset_if, said, takes, takes_all, world_after}
use Rattle.laws_as_if_alone.specs.Telling.{AllParkedAtRest, RoundTrip, RoundTrips, IsParkedAtRest, Remarked, TellsAll, RemarkedEnd, all_trips_after, trips_after, trips_in, hears_all, moment_of, moments_of, no_trips, session_left, told_before}
use Rattle.laws_as_if_alone.specs.Turns.{AllParkedFresh, AsIfUnparked, IsParkedFresh}
use Rattle.laws_as_if_alone.specs.Visits.{AllSaid, Moments, world_in}
use Rattle.laws_as_if_alone.proofs.Turns.{alone_by_turns}
use Rattle.laws_as_if_alone.proofs.Visits.{turns_in_visits}

-- ---- One connection

abbrev IsTold : {V : Type 0} → Server V → RemarkedEnd V → Type 0
IsTold server told = session_left server told.trips ≡ told.end.session

one_told : {V : Type 0} (server : Server V) (t : Remarked V) (packet : Packet) (e : ServerEnd V) (es : List (RoundTrip V)) → session_left server es ≡ e.session
    → session_left server (trips_in t packet e.reset es) ≡ (takes server (moment_of t) packet e).session
one_told server t (OfRequest request first reset false) e es is = is
one_told server t (OfRequest request true reset true) e es is = ap (λ s. (t.spoken.does (reset_if server reset s)).after) is
one_told server t (OfRequest request false reset true) e es is = ap (λ s. (t.spoken.does (reset_if server e.reset s)).after) is
one_told server t (Ignore request) e es is = is
one_told server t Attention e es is = refl

all_told : {V : Type 0} (server : Server V) (t : Remarked V) (packets : List Packet) (told : RemarkedEnd V) → IsTold server told
    → session_left server (hears_all server t packets told).trips ≡ (takes_all server (moment_of t) packets told.end).session
all_told server t [] told is = is
all_told server t (packet ∷ packets) told is =
    all_told server t packets (record { end = takes server (moment_of t) packet told.end; trips = trips_in t packet told.end.reset told.trips })
    (one_told server t packet told.end told.trips is)

-- what came leaves the session
said_session : {V : Type 0} (n : ℕ) (event : Event) (e : ServerEnd V) → (said n event e).session ≡ e.session
said_session n (pool.Waits key) e = refl
said_session n (pool.Unwaits key) e = refl
said_session n pool.Serves e = refl
said_session n (pool.Brings gives way) e = refl
said_session n (pool.Does key action) e = refl
said_session n (pool.Leaves key gives way) e = refl
said_session n (pool.Renews key resumes) e = refl
said_session n (pool.Comes number part way) e = refl
said_session n (pool.Loses number) e = refl

-- one that logs in is in a new session
logged_by : {V : Type 0} (server : Server V) (b : Bool) (e : ServerEnd V) (es : List (RoundTrip V)) → session_left server es ≡ e.session
    → session_left server (if b then [] else es) ≡ (if b then new_end server else e).session
logged_by server true e es is = refl
logged_by server false e es is = is

-- ---- Every connection, along all moments

abbrev AllTold : {V : Type 0} → Server V → World V → RoundTrips V → Type 0
AllTold server w x = (n : ℕ) → session_left server (x n) ≡ (w.ends n).session

behind_told : {V : Type 0} (server : Server V) (w : World V) (x : RoundTrips V) (t : Remarked V) → AllTold server w x
    → AllTold server (happens turn server w (moment_of t)) (trips_after turn server w x t)
behind_told server w x t told = λ n.
    let logged = logged_by server (nat_lt w.pool.service.last n) (w.ends n) (x n) (told n) in
    let heard = said_session n t.event (logged_in server w.pool.service n (w.ends n)) in
    all_told server t (goes_out turn w.pool t.event n) (told_before server w x t n) (logged ∙ sym heard)

after_told : {V : Type 0} (server : Server V) (w : World V) (x : RoundTrips V) (ts : List (Remarked V)) → AllTold server w x
    → AllTold server (world_after turn server w (moments_of ts)) (all_trips_after turn server w x ts)
after_told server w x [] told = told
after_told server w x (t ∷ ts) told =
    after_told server (happens turn server w (moment_of t)) (trips_after turn server w x t) ts (behind_told server w x t told)

-- where a connection rests, the session that its next request finds is a new one
parked_fresh : {V E : Type 0} (server : Server V) (key : ℕ) (login : List Remark) (may : E → List (RoundTrip V)) (w : World V) (x : RoundTrips V) (t : Remarked V)
    → TellsAll server login may → AllTold server w x → IsParkedAtRest key server login may w x t.event → IsParkedFresh key server w (moment_of t)
parked_fresh server key login may w x t tells told p = record {
  gives = p.gives;
  way = p.way;
  leaves = p.leaves;
  hold = p.hold;
  seat = p.seat;
  rests = p.rests;
  session = ap (λ (o : Option Reset). reset_if server o (w.ends p.hold.number).session) p.unmarked ∙ sym (told p.hold.number) ∙ ap (session_left server) p.there ∙ tells.all p.since p.told;
}

all_fresh : {V E : Type 0} (server : Server V) (key : ℕ) (parks : Moment V → Bool) (login : List Remark) (may : E → List (RoundTrip V)) (w : World V) (x : RoundTrips V) (ts : List (Remarked V))
    → TellsAll server login may → AllTold server w x → AllParkedAtRest parks turn key server login may w x ts
    → AllParkedFresh parks turn key server w (moments_of ts)
all_fresh server key parks login may w x [] tells told parked = tt
all_fresh server key parks login may w x (t ∷ ts) tells told parked = (
  λ is. parked_fresh server key login may w x t tells told (parked.0 is),
  all_fresh server key parks login may (happens turn server w (moment_of t)) (trips_after turn server w x t) ts tells (behind_told server w x t told) parked.1,
)

pub alone_where_all_is_told : {V E : Type 0} (server : Server V) (sharing : Sharing) (key : ℕ) (parks : Moment V → Bool) (login : List Remark) (may : E → List (RoundTrip V)) (before since : List (Remarked V))
    → TellsAll server login may → IsAway key (reached server sharing (moments_of before)).pool
    → AllOrderly turn key server (reached server sharing (moments_of before)) (moments_of since)
    → AllParkedAtRest parks turn key server login may (reached server sharing (moments_of before)) (all_trips_after turn server (new_world server sharing) no_trips before) since
    → AsIfUnparked parks turn key server (fresh server) (reached server sharing (moments_of before)) (moments_of since) (world_after turn server (reached server sharing (moments_of before)) (moments_of since))
alone_where_all_is_told server sharing key parks login may before since tells away orderly parked =
    let told = after_told server (new_world server sharing) no_trips before (λ n. refl) in
    alone_by_turns server sharing key parks (moments_of before) (moments_of since) away orderly
    (all_fresh server key parks login may (reached server sharing (moments_of before)) (all_trips_after turn server (new_world server sharing) no_trips before) since tells told parked)

pub told_in_visits : {V E : Type 0} (server : Server V) (login : List Remark) (may : E → List (RoundTrip V)) (sharing : Sharing) (key : ℕ) (parks : Moment V → Bool) (v : Visit sharing key) (ms : Moments V v) (before since : List (Remarked V))
    → IsAway key (pool_after (new_pool sharing) (done_before v)) → WaitsAway key (pool_after (new_pool sharing) (done_before v)) (done_since v)
    → moments_of before ≡ ms.before → moments_of since ≡ ms.since → TellsAll server login may
    → AllSaid turn key server (world_in server ms) ms.since
    → AllParkedAtRest parks turn key server login may (world_in server ms) (all_trips_after turn server (new_world server sharing) no_trips before) since
    → AsIfUnparked parks turn key server (fresh server) (world_in server ms) ms.since (world_after turn server (world_in server ms) ms.since)
told_in_visits {V} server login may sharing key parks v ms before since away waits b s tells said parked =
    let at = after_told server (new_world server sharing) no_trips before (λ n. refl) in
    let told = subst (λ (xs : List (Moment V)). AllTold server (reached server sharing xs) (all_trips_after turn server (new_world server sharing) no_trips before)) b at in
    let fresh_at = all_fresh server key parks login may (world_in server ms) (all_trips_after turn server (new_world server sharing) no_trips before) since tells told parked in
    turns_in_visits server sharing key parks v ms away waits said (subst (λ (xs : List (Moment V)). AllParkedFresh parks turn key server (world_in server ms) xs) s fresh_at)

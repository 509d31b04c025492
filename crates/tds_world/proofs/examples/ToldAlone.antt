-- Four leases share a connection. The last one is told what it would be told alone.
use Rattle.std.specs.Prelude.{ℕ, ◌≡◌, refl, List, [], ◌∷◌, ◌++◌, map, Bool, true, false, filter, ◌==◌, Option, Some, None, codes}
use Rattle.tds_request.specs.declared.request.Request.TheVariants.{Batch}
use Rattle.tds_session.specs.declared.attention.OnAttention.TheVariants.{Keep}
use Rattle.tds_session.specs.Answer.{script_answers}
use Rattle.tds_session.specs.Session.{SessionState}
use Rattle.tds_token.specs.declared.token.Token.{Token}
use Rattle.tds_world.specs.declared.event.Event.{Event}
use Rattle.tds_world.specs.declared.event.Event.TheVariants as event
use Rattle.tds_world.specs.declared.event.Setup.{Setup}
use Rattle.tds_world.specs.declared.report.Place.TheVariants.{Free}
use Rattle.tds_world.specs.declared.report.RequestStatus.{RequestStatus}
use Rattle.tds_world.specs.declared.report.RequestStatus.TheVariants as status
use Rattle.tds_world.specs.alone.Alone.{Exchange, Progress, exchanges_of, left_alone, own_session}
use Rattle.tds_world.specs.Connection.{Connection, new_connection}
use Rattle.tds_world.specs.Events.{world_after}
use Rattle.tds_world.specs.Laws.{whole_answer}
use Rattle.tds_world.specs.Observed.{observed}
use Rattle.tds_world.specs.World.{World, new_world, numbered}
use Rattle.tds_world.proofs.examples.Shown.{with_max, rolling_back, session, value, done, error}

-- Another lease: a setting, and a transaction that stays open.
abbrev leaves_open : List Event
leaves_open =
    event.Lease ∷ event.Ask 1 (Batch (codes "set x 7;begin")) ∷ event.Send 1 ∷ event.ToServer 1 99 ∷
    event.Work 1 ∷ event.Work 1 ∷ event.Work 1 ∷ event.ToClient 1 99 ∷ event.GiveBack 1 ∷ []

-- Another one, which is cancelled in the middle of its answer.
abbrev is_cancelled : List Event
is_cancelled =
    event.Lease ∷ event.Ask 2 (Batch (codes "begin;say a")) ∷ event.Send 2 ∷ event.ToServer 1 99 ∷
    event.Work 1 ∷ event.Work 1 ∷ event.Cancel 2 ∷ event.ToServer 1 99 ∷ event.ToClient 1 999 ∷
    event.GiveBack 2 ∷ []

-- Another one, whose transaction is kept, and then abandoned.
abbrev is_abandoned : List Event
is_abandoned =
    event.Lease ∷ event.Ask 3 (Batch (codes "begin")) ∷ event.Send 3 ∷ event.ToServer 1 99 ∷
    event.Work 1 ∷ event.Work 1 ∷ event.Work 1 ∷ event.ToClient 1 999 ∷ event.Keep 3 ∷
    event.Abandon 1 ∷ []

-- What the lease of this number does: a request that is cancelled behind its second step, of which the
-- first one was delivered, and another one.
abbrev first : ℕ → List Event
first lease =
    event.Ask lease (Batch (codes "get x;begin;get x")) ∷ event.Send lease ∷ event.ToServer 1 99 ∷ []

abbrev then : ℕ → List Event
then lease =
    event.Work 1 ∷ event.ToClient 1 99 ∷ event.Work 1 ∷ event.Cancel lease ∷ event.ToServer 1 99 ∷
    event.ToClient 1 99 ∷ event.Ask lease (Batch (codes "get x;commit")) ∷ event.Send lease ∷
    event.ToServer 1 99 ∷ event.Work 1 ∷ event.Work 1 ∷ event.Work 1 ∷ event.ToClient 1 999 ∷ []

-- Shared, the server takes a reset first.
abbrev shared : List Event
shared = leaves_open ++ (is_cancelled ++ (is_abandoned ++ event.Lease ∷ (first 4 ++ event.Work 1 ∷ then 4)))

abbrev alone : List Event
alone = event.Lease ∷ (first 1 ++ then 1)

abbrev told_to : Setup → ℕ → List Event → List (RequestStatus × List Token)
told_to setup lease events =
    map (λ q. (q.status, q.tokens)) (filter (λ q. q.lease == lease) (observed setup script_answers events).requests)

-- Of the second request: its commit ends the transaction, or finds none where the cancel of the first one
-- rolled it back.
abbrev answers : List Token → List (RequestStatus × List Token)
answers ended =
    (status.Acknowledged, value 0 ∷ done 1 0 ∷ []) ∷
    (status.Finished, value 0 ∷ done 1 0 ∷ ended) ∷ []

-- Told the same, shared and alone; by a server that keeps the transaction at an attention, and by one that
-- rolls it back.
pub told_shared : told_to (with_max 1) 4 shared ≡ answers (done 1 0 ∷ done 0 0 ∷ [])
told_shared = refl

pub told_alone : told_to (with_max 1) 1 alone ≡ answers (done 1 0 ∷ done 0 0 ∷ [])
told_alone = refl

pub rolled_shared : told_to (rolling_back 1) 4 shared ≡ answers (error 50003 (codes "no transaction") ∷ done 2 0 ∷ [])
rolled_shared = refl

pub rolled_alone : told_to (rolling_back 1) 1 alone ≡ answers (error 50003 (codes "no transaction") ∷ done 2 0 ∷ [])
rolled_alone = refl

-- The sessions that they ran in: alike, and of other numbers.
abbrev ran_on : Setup → ℕ → List Event → List (Option SessionState)
ran_on setup lease events = map (λ q. q.ran) (filter (λ q. q.lease == lease) (observed setup script_answers events).requests)

pub ran_shared : ran_on (with_max 1) 4 shared ≡ Some (session 0 4) ∷ Some (session 4 5) ∷ []
ran_shared = refl

pub ran_alone : ran_on (with_max 1) 1 alone ≡ Some (session 0 1) ∷ Some (session 1 2) ∷ []
ran_alone = refl

pub ran_rolled : ran_on (rolling_back 1) 4 shared ≡ Some (session 0 4) ∷ Some (session 0 5) ∷ []
ran_rolled = refl

-- The definition itself, of the shared connection.
abbrev world : Setup → World
world setup = world_after setup script_answers shared new_world

abbrev of : Option Connection → Connection
of None = new_connection Keep Free
of (Some c) = c

abbrev connection : Setup → Connection
connection setup = of (numbered (world setup).connections 1)

abbrev so_far : ℕ → Bool → Progress
so_far steps rolled = record { done = steps; rolled = rolled }

-- How far the lease's requests got: of the first one two steps were done, its reset apart, and of the
-- second three. At the attention the first one's transaction is kept, or rolled back.
pub got_kept : map (λ (x : Exchange). x.got) (exchanges_of 4 (connection (with_max 1))) ≡ so_far 2 false ∷ so_far 3 false ∷ []
got_kept = refl

pub got_rolled : map (λ (x : Exchange). x.got) (exchanges_of 4 (connection (rolling_back 1))) ≡ so_far 2 true ∷ so_far 3 false ∷ []
got_rolled = refl

-- The same requests on a server of the lease's own, where each gets as far: the session that each finds
-- there, and all that it would be told.
abbrev run_alone : SessionState → List Exchange → List (SessionState × List Token)
run_alone own [] = []
run_alone own (x ∷ xs) =
    (own, whole_answer script_answers own x.request) ∷ run_alone (left_alone script_answers own x) xs

pub runs_alone : run_alone (own_session (numbered (world (with_max 1)).leases 4)) (exchanges_of 4 (connection (with_max 1))) ≡
    (session 0 1, value 0 ∷ done 1 0 ∷ done 1 0 ∷ value 0 ∷ done 1 0 ∷ done 0 0 ∷ []) ∷
    (session 1 2, value 0 ∷ done 1 0 ∷ done 1 0 ∷ done 0 0 ∷ []) ∷ []
runs_alone = refl

pub rolls_alone : run_alone (own_session (numbered (world (rolling_back 1)).leases 4)) (exchanges_of 4 (connection (rolling_back 1))) ≡
    (session 0 1, value 0 ∷ done 1 0 ∷ done 1 0 ∷ value 0 ∷ done 1 0 ∷ done 0 0 ∷ []) ∷
    (session 0 2, value 0 ∷ done 1 0 ∷ error 50003 (codes "no transaction") ∷ done 2 0 ∷ []) ∷ []
rolls_alone = refl

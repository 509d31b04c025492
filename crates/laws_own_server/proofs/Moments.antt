-- A run of one moment of a play goes on at each later one.
use Rattle.std.proofs.Common.{◌≡◌, ℕ, zero, suc, List, ◌++◌, sym, subst}
use Rattle.std.specs.Prelude.{Option, Some, None, slice_get}
use Rattle.std.specs.List.{AllByRecursion}
use Rattle.tds_token.specs.declared.token.Token.{Token}
use Rattle.tds_session.specs.Answer.{Answers}
use Rattle.tds_world.specs.declared.event.Event.{Event}
use Rattle.tds_world.specs.declared.event.Setup.{Setup}
use Rattle.tds_world.specs.Connection.{Connection, Cut, is_idle}
use Rattle.tds_world.specs.Entries.{Up, Down}
use Rattle.tds_world.specs.Events.{acts, world_after}
use Rattle.tds_world.specs.Lawful.{Lawful}
use Rattle.tds_world.specs.Laws.{Always}
use Rattle.tds_world.specs.Pool.{Acted, Refuses, Does}
use Rattle.tds_world.specs.Requests.{Nothing, RequestsAreSpelled, SendsRequests}
use Rattle.tds_world.specs.Sessions.{StayInRange}
use Rattle.tds_world.specs.World.{World, new_world, next_number, numbered}
use Rattle.tds_world.proofs.events.Agreement.{new_agrees}
use Rattle.tds_world.proofs.events.Grows.{Growth, Grown, Related, after_agrees, after_both, after_grow}
use Rattle.tds_world.proofs.events.Moves.{Both, FreeIn, KeptByMoves, MovesOver, Of, acted, by_moves, mark_by, standing_by}
use Rattle.tds_world.proofs.events.Words.{OfActed, OfSome}
use Rattle.tds_world.proofs.events.Worlds.{Any, always, at_number, each_both, each_follows}
use Rattle.laws_conforming_server.specs.Link.{Move}
use Rattle.laws_own_server.specs.Bench.{Log}
use Rattle.laws_own_server.specs.Runs.{AreRuns, GoOn, GoesOn, IsRunOf, RunsTo}
use Rattle.laws_own_server.proofs.Logs.{extends_log, extends_rest, log_of}
use Rattle.laws_own_server.proofs.Running.{Further, Going, Good, Known, Onward, Running, Steps, at_client, at_server, cancels_now, client_waiting, elsewhere, is_asked, known_kept, known_runs, onward_both, requests_both, sends_next, server_waiting, stays_so, works}
use Rattle.laws_own_server.proofs.Standing.{Leads, holds_stand}

-- ---- By moves

abbrev pub Onwards : Answers → Connection → World → Connection → List Up → List Down → Type 0
Onwards answers b w = Both Known (Going answers b)

going_on : (answers : Answers) (b c d : Connection) (ups ups_then : List Up) (downs downs_then : List Down) → Onward answers c ups downs d ups_then downs_then
    → Going answers b c ups downs → Going answers b d ups_then downs_then
going_on answers b c d ups ups_then downs downs_then p h = onward_both answers b c d b.to_server.waiting ups ups_then b.to_client.waiting downs downs_then h p

moves_on : (setup : Setup) (answers : Answers) (b : Connection) → KeptByMoves setup answers Known → MovesOver setup answers (λ i. Any) FreeIn (Onwards answers b)
moves_on setup answers b k = record {
  stands = λ w r n c x f h. (k.stands c (mark_by r c.mark) (standing_by w r (is_idle c) c.standing) h.0, going_on answers b c _ _ _ _ _ (elsewhere answers c (mark_by r c.mark) (standing_by w r (is_idle c) c.standing)) h.1);
  asked = λ w lease n q c x s i f h. (k.asked (next_number w.asked_on) lease n q c x i f h.0, going_on answers b c _ _ _ _ _ (is_asked answers c (next_number w.asked_on) lease n q) h.1);
  sent = λ w last q c i s l f h. (k.sent last q c i s l f h.0, going_on answers b c _ _ _ _ _ (sends_next answers last _ q c) h.1);
  cancelled = λ w p q c i a f h. (k.cancelled p q c i a f h.0, going_on answers b c _ _ _ _ _ (cancels_now answers p q c) h.1);
  worked = λ w c s ss i f h. (k.worked c s ss i f h.0, going_on answers b c _ _ _ _ _ (works answers c s ss i h.0) h.1);
  at_server = λ w c e es f h. (k.at_server c e es f h.0, going_on answers b c _ _ _ _ _ (at_server answers c e es h.0) h.1);
  at_client = λ w c e es f h. (k.at_client c e es f h.0, going_on answers b c _ _ _ _ _ (at_client answers c e es) h.1);
  server_waits = λ w c es n m h. (k.server_waits c es n m h.0, going_on answers b c _ _ _ _ _ (server_waiting answers c es n) h.1);
  client_waits = λ w c es n m h. (k.client_waits c es n m h.0, going_on answers b c _ _ _ _ _ (client_waiting answers c es n) h.1);
}

-- ---- By events

abbrev pub Then : Answers → Connection → Connection → Type 0
Then answers c d = Of Known c → Of Known d × Steps answers c d

acted_if : (K : Type 0) (P : Connection → Type 0) (a : Acted) → (K → OfActed P a) → OfActed (λ d. K → P d) a
acted_if K P (Refuses why) f = tt
acted_if K P (Does what c) f = f

then_growth : (setup : Setup) (answers : Answers) → KeptByMoves setup answers Known → Growth setup answers (Then answers)
then_growth setup answers k = record {
  same = λ c known. (known, stays_so answers c);
  then = λ b c d r q known.
      let one = r known in
      let two = q one.0 in
      (two.0, onward_both answers b c d b.to_server.waiting c.to_server.waiting d.to_server.waiting b.to_client.waiting c.to_client.waiting d.to_client.waiting one.1 two.1);
  acted = λ w e n c s. acted_if (Of Known c) (λ d. Of Known d × Steps answers c d) (acts setup answers w e n c)
      (λ known. acted setup answers (λ i. Any) (λ i j lease z. tt) (Onwards answers c) (λ v u d i j l m g. g) (moves_on setup answers c k) w e n c tt s (known, stays_so answers c));
  was_cut = λ c known. (k.stands c c.mark Cut known, elsewhere answers c c.mark Cut);
}

-- ---- At two moments

good_of : (answers : Answers) (c : Connection) → SendsRequests c → Of (Running answers) c → Good answers c c.to_server.waiting c.to_client.waiting
good_of answers c s h = h s.out (requests_both Nothing s.part s.out c.to_server.arrived c.to_server.waiting s.arrived s.waiting)

runs_to : (answers : Answers) (log : Log) (moves : List (Move Token)) (c : Connection) → Leads c.on_attention answers log moves c c.to_server.waiting c.to_client.waiting → RunsTo answers log moves c
runs_to answers log moves c l = record { runs = l.runs; sent = l.sent; came = l.came; stands = holds_stand c _ l.holds }

run_of : (answers : Answers) (c : Connection) → SendsRequests c → Of (Running answers) c → IsRunOf answers c
run_of answers c s h =
    let g : Good answers c c.to_server.waiting c.to_client.waiting = good_of answers c s h in
    record { log = log_of g.known; moves = g.moves; to = runs_to answers (log_of g.known) g.moves c (g.based.leads (log_of g.known) (extends_log g.known)) }

-- ---- After any events

all_known : (setup : Setup) (answers : Answers) (lawful : Lawful answers) (stay : StayInRange answers) (events : List Event)
    → AllByRecursion (Of (Both Known (Running answers))) (world_after setup answers events new_world).connections
all_known setup answers lawful stay events =
    always (Of (Both Known (Running answers))) setup answers events (by_moves setup answers (Both Known (Running answers)) (known_runs setup answers lawful stay))

pub plays_run : (setup : Setup) (answers : Answers) → Lawful answers → StayInRange answers → Always setup answers RequestsAreSpelled → Always setup answers (AreRuns answers)
plays_run setup answers lawful stay spelled events =
    let w : World = world_after setup answers events new_world in
    each_follows (λ c. Of (Both Known (Running answers)) c × SendsRequests c) (IsRunOf answers) w.connections
    (λ c h. run_of answers c h.1 h.0.1)
    (each_both (Of (Both Known (Running answers))) SendsRequests w.connections (all_known setup answers lawful stay events) (spelled events))

-- what holds of each holds of the one of a number
there : (P : Connection → Type 0) (o : Option Connection) (c : Connection) → o ≡ Some c → OfSome P o → P c
there P None c e h = let b : ⊥ = cc in absurd b
there P (Some d) c e h = let same : d ≡ c = cc in subst P same h

goes_on : (answers : Answers) (c d : Connection) → SendsRequests c → Of (Both Known (Running answers)) c → SendsRequests d → Then answers c d → GoesOn answers c d
goes_on answers c d s h t r =
    let g : Good answers c c.to_server.waiting c.to_client.waiting = good_of answers c s h.1 in
    let f : Further answers g.known g.moves d d.to_server.waiting d.to_client.waiting =
    (r h.0).1.forth g.known g.moves g.based t.out (requests_both Nothing t.part t.out d.to_server.arrived d.to_server.waiting t.arrived t.waiting) in
    let log : Log = log_of (f.more ++ g.known) in
    record {
      log = log;
      moves = g.moves;
      later = f.later;
      was = runs_to answers log g.moves c (g.based.leads log (extends_rest f.more g.known log (extends_log (f.more ++ g.known))));
      is = runs_to answers log (g.moves ++ f.later) d (f.based.leads log (extends_log (f.more ++ g.known)));
    }

related : (R : Connection → Connection → Type 0) (c d : Connection) (o : Option Connection) → o ≡ Some d → Related R c o → R c d
related R c d None e r = let b : ⊥ = cc in absurd b
related R c d (Some x) e r = let same : x ≡ d = cc in subst (λ (y : Connection). R c y) same r

grown_at : (R : Connection → Connection → Type 0) (bs cs : List Connection) (n : ℕ) (c d : Connection) → Grown R bs cs → numbered bs n ≡ Some c → numbered cs n ≡ Some d → R c d
grown_at R bs cs zero c d g e f = let b : ⊥ = cc in absurd b
grown_at R bs cs (suc n) c d g e f = related R c d (slice_get cs n) f (g n c e)

pub plays_go_on : (setup : Setup) (answers : Answers) → Lawful answers → StayInRange answers → Always setup answers RequestsAreSpelled → (events more : List Event)
    → GoOn answers (world_after setup answers events new_world) (world_after setup answers (events ++ more) new_world)
plays_go_on setup answers lawful stay spelled events more n c d e f =
    let w : World = world_after setup answers events new_world in
    let v : World = world_after setup answers (events ++ more) new_world in
    let k : KeptByMoves setup answers Known = known_kept setup answers lawful stay in
    let grown : Grown (Then answers) w.connections v.connections =
    subst (λ (x : World). Grown (Then answers) w.connections x.connections) (sym (after_both setup answers events more new_world))
    (after_grow setup answers (Then answers) more w (then_growth setup answers k) (after_agrees setup answers events new_world new_agrees)) in
    let here = there (Of (Both Known (Running answers))) (numbered w.connections n) c e (at_number (Of (Both Known (Running answers))) w.connections n (all_known setup answers lawful stay events)) in
    let sent = there SendsRequests (numbered w.connections n) c e (at_number SendsRequests w.connections n (spelled events)) in
    let sent_there = there SendsRequests (numbered v.connections n) d f (at_number SendsRequests v.connections n (spelled (events ++ more))) in
    goes_on answers c d sent here sent_there (grown_at (Then answers) w.connections v.connections n c d grown e f)

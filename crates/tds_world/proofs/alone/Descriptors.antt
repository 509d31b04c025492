-- Descriptors are left for each request that was asked: each step uses one at most, and the answers are
-- short and few.
use Rattle.std.proofs.Common.{◌≡◌, ◌≤◌, ◌-◌, ◌+◌, ◌*◌, ℕ, zero, suc, List, [], ◌∷◌, ◌++◌, map, length, Bool, true, false, eqb, refl, sym, ap, subst, ◌∙◌, Option, Some, None, option_map, arith}
use Rattle.std.proofs.lemmas.List.{length-map}
use Rattle.std.specs.List.{AllByRecursion}
use Rattle.tds_packet.specs.declared.status.Reset.{Reset}
use Rattle.tds_packet.specs.declared.status.Reset.TheVariants.{Full, KeepTransaction}
use Rattle.tds_request.specs.Layout.{Fits}
use Rattle.tds_session.specs.Answer as answer
use Rattle.tds_session.specs.Answer.{Answers}
use Rattle.tds_session.specs.Session.{SessionState, new_session, transacting, last_descriptor}
use Rattle.tds_world.specs.declared.event.Event.{Event}
use Rattle.tds_world.specs.declared.event.Setup.{Setup}
use Rattle.tds_world.specs.alone.Alone.{HasRoom, Progress, left_by, own_steps, session_after}
use Rattle.tds_world.specs.Arrivals.{server_acts, client_acts}
use Rattle.tds_world.specs.Bounds.{IsEvent}
use Rattle.tds_world.specs.Caller.{cancels_by, sends_by}
use Rattle.tds_world.specs.Connection.{Connection, records}
use Rattle.tds_world.specs.limits.Descriptors.{UseOneEach, UseFewDescriptors, most_steps, most_events}
use Rattle.tds_world.specs.Events.{world_after}
use Rattle.tds_world.specs.Lane.{passed}
use Rattle.tds_world.specs.Laws.{OfEachConnection}
use Rattle.tds_world.specs.Order.{number_if, numbers_on, RequestsInOrder}
use Rattle.tds_world.specs.Record.{Record, runs, when, if_numbered}
use Rattle.tds_world.specs.World.{World, new_world, numbered}
use Rattle.tds_world.proofs.events.Moves.{Free, KeptOver, by_moves_of}
use Rattle.tds_world.proofs.events.Worlds.{always_such, each_follows}
use Rattle.tds_world.proofs.requests.Cores.{Core, core_of, past_of, newest_of, SameCores, all_of, joined_cores, client_same, server_same, cancels_same_by, sends_same}
use Rattle.tds_world.proofs.requests.Runs.{runs_in}
use Rattle.tds_world.proofs.packets.Ranges.{cleaning_is_event}

-- ---- What is left behind so many steps

after_uses : (n : ℕ) (s : SessionState) (ss : List answer.Step) → UseOneEach s ss → (s.next_descriptor ≤ (session_after s n ss).next_descriptor) × ((session_after s n ss).next_descriptor ≤ s.next_descriptor + length ss)
after_uses zero s ss h = (let z : s.next_descriptor ≤ s.next_descriptor = omega arith in z, omega arith)
after_uses (suc n) s [] h = (omega arith, omega arith)
after_uses (suc n) s (t ∷ ts) h =
    let rest = after_uses n t.after ts h.2 in
    let one : s.next_descriptor ≤ t.after.next_descriptor = h.0 in
    let most : t.after.next_descriptor ≤ suc s.next_descriptor = h.1 in
    let low : t.after.next_descriptor ≤ (session_after t.after n ts).next_descriptor = rest.0 in
    let high : (session_after t.after n ts).next_descriptor ≤ t.after.next_descriptor + length ts = rest.1 in
    (omega arith, omega arith)

-- The longest answers to so many requests.
abbrev pub all_steps : List Record → ℕ
all_steps [] = 0
all_steps (q ∷ qs) = most_steps + all_steps qs

-- A session has descriptors left for all of them.
pub record HasLeft (s : SessionState) (qs : List Record) : Type 0 where
  pub some : 1 ≤ s.next_descriptor
  pub left : s.next_descriptor + all_steps qs ≤ last_descriptor

pub less_left : (s : SessionState) (q : Record) (qs : List Record) → HasLeft s (q ∷ qs) → HasLeft s qs
less_left s q qs h = record {
  some = h.some;
  left = (let z : s.next_descriptor + (most_steps + all_steps qs) ≤ last_descriptor = h.left in omega arith);
}

pub has_room : (answers : Answers) (s : SessionState) (q : Record) (qs : List Record) → UseFewDescriptors answers → Fits q.asking.request → HasLeft s (q ∷ qs) → HasRoom answers s q.asking.request
has_room answers s q qs u f h = record {
  some = h.some;
  left = (let z : s.next_descriptor + (most_steps + all_steps qs) ≤ last_descriptor = h.left in
      let y : length (own_steps answers s q.asking.request) ≤ most_steps = u.short s q.asking.request f in omega arith);
}

after_left : (answers : Answers) (s : SessionState) (q : Record) (qs : List Record) (n : ℕ) → UseFewDescriptors answers → Fits q.asking.request → HasLeft s (q ∷ qs) → HasLeft (session_after s n (own_steps answers s q.asking.request)) qs
after_left answers s q qs n u f h =
    let steps : List answer.Step = own_steps answers s q.asking.request in
    let uses = after_uses n s steps (u.each s q.asking.request) in
    let low : s.next_descriptor ≤ (session_after s n steps).next_descriptor = uses.0 in
    let high : (session_after s n steps).next_descriptor ≤ s.next_descriptor + length steps = uses.1 in
    let some : 1 ≤ s.next_descriptor = h.some in
    let z : s.next_descriptor + (most_steps + all_steps qs) ≤ last_descriptor = h.left in
    let y : length steps ≤ most_steps = u.short s q.asking.request f in
    record { some = omega arith; left = omega arith }

-- A rollback uses none.
rolled_left : (rolled : Bool) (s : SessionState) (qs : List Record) → HasLeft s qs → HasLeft (left_by rolled s) qs
rolled_left true s qs h = record { some = h.some; left = h.left }
rolled_left false s qs h = h

pub behind_left : (answers : Answers) (s : SessionState) (q : Record) (qs : List Record) (got : Progress) → UseFewDescriptors answers → Fits q.asking.request → HasLeft s (q ∷ qs) → HasLeft (left_by got.rolled (session_after s got.done (own_steps answers s q.asking.request))) qs
behind_left answers s q qs got u f h =
    rolled_left got.rolled (session_after s got.done (own_steps answers s q.asking.request)) qs (after_left answers s q qs got.done u f h)

-- A reset uses none.
pub reset_left : (mark : Option Reset) (s : SessionState) (qs : List Record) → HasLeft s qs → HasLeft (runs_in mark s) qs
reset_left None s qs h = h
reset_left (Some Full) s qs h = record { some = h.some; left = h.left }
reset_left (Some KeepTransaction) s qs h = record { some = h.some; left = h.left }

pub new_left : (qs : List Record) → HasLeft (transacting new_session) qs → HasLeft new_session qs
new_left qs h = record {
  some = (let z : 1 ≤ 1 = omega arith in z);
  left = (let z : 1 + 1 + all_steps qs ≤ last_descriptor = h.left in let y : 1 + all_steps qs ≤ last_descriptor = omega arith in y);
}

steps_count : (qs : List Record) → all_steps qs ≡ most_steps * length qs
steps_count [] = refl
steps_count (q ∷ qs) = let z : all_steps qs ≡ most_steps * length qs = steps_count qs in omega arith

pub many_left : (qs : List Record) → length qs ≤ most_events → HasLeft (transacting new_session) qs
many_left qs h = record {
  some = (let z : 1 ≤ 2 = omega arith in z);
  left = (let z : all_steps qs ≡ most_steps * length qs = steps_count qs in let y : 2 + all_steps qs ≤ last_descriptor = omega arith in y);
}

-- ---- The requests of a connection are few

one_more : (b : Bool) (k n : ℕ) (later : List ℕ) → length later ≤ n → length (number_if b k later) ≤ suc n
one_more true k n later h = let z : suc (length later) ≤ suc n = omega arith in z
one_more false k n later h = let z : length later ≤ suc n = omega arith in z

numbers_few : (m k : ℕ) (ns : List ℕ) → length (numbers_on m k ns) ≤ length ns
numbers_few m k [] = omega arith
numbers_few m k (n ∷ ns) = one_more (eqb n m) k (length ns) (numbers_on m (suc k) ns) (numbers_few m (suc k) ns)

pub few_on : (w : World) (n : ℕ) (c : Connection) → RequestsInOrder w → numbered w.connections n ≡ Some c → length w.asked_on ≤ most_events → length (records c) ≤ most_events
few_on w n c o t h =
    let same : length (records c) ≡ length (numbers_on n 1 w.asked_on) =
    sym (length-map (records c) (λ (q : Record). q.number)) ∙ ap length (o.each n c t).numbers in
    let few : length (numbers_on n 1 w.asked_on) ≤ length w.asked_on = numbers_few n 1 w.asked_on in
    omega arith

-- ---- Each request has a spelling

abbrev FitsCore : Core → Type 0
FitsCore x = Fits x.asking.request

abbrev FitsNewest : Option Core → Type 0
FitsNewest None = Unit {0}
FitsNewest (Some x) = FitsCore x

abbrev AllFit : Connection → Type 0
AllFit c = AllByRecursion FitsCore (past_of c) × FitsNewest (newest_of c)

fit_same : (c d : Connection) → SameCores c d → AllFit c → AllFit d
fit_same c d s h = (subst (AllByRecursion FitsCore) (sym s.0) h.0, subst FitsNewest (sym s.1) h.1)

and_last : (xs : List Core) (x : Core) → AllByRecursion FitsCore xs → FitsCore x → AllByRecursion FitsCore (xs ++ x ∷ [])
and_last [] x h k = (k, tt)
and_last (y ∷ ys) x h k = (h.0, and_last ys x h.1 k)

both_fit : (xs : List Core) (o : Option Core) → AllByRecursion FitsCore xs → FitsNewest o → AllByRecursion FitsCore (all_of xs o)
both_fit xs None h k = h
both_fit xs (Some x) h k = and_last xs x h k

-- All of them, older ones and the newest.
all_cores : (c : Connection) → AllFit c → AllByRecursion FitsCore (map core_of (records c))
all_cores c h = subst (AllByRecursion FitsCore) (sym (joined_cores c.past c.current)) (both_fit (past_of c) (newest_of c) h.0 h.1)

when_fits : (b : Bool) (s : SessionState) (t : answer.Step) (q : Record) → FitsCore (core_of q) → FitsCore (core_of (when b (runs s t) q))
when_fits true s t q h = h
when_fits false s t q h = h

map_fit : (n : ℕ) (s : SessionState) (t : answer.Step) (qs : List Record) → AllByRecursion FitsCore (map core_of qs) → AllByRecursion FitsCore (map core_of (map (if_numbered n (runs s t)) qs))
map_fit n s t [] h = tt
map_fit n s t (q ∷ qs) h = (when_fits (eqb q.number n) s t q h.0, map_fit n s t qs h.1)

option_fit : (n : ℕ) (s : SessionState) (t : answer.Step) (o : Option Record) → FitsNewest (option_map core_of o) → FitsNewest (option_map core_of (option_map (if_numbered n (runs s t)) o))
option_fit n s t None h = tt
option_fit n s t (Some q) h = when_fits (eqb q.number n) s t q h

fit_moves : (setup : Setup) (answers : Answers) → KeptOver setup answers IsEvent Free (λ c ups downs. AllFit c)
fit_moves setup answers = record {
  opened = λ lease. (tt, tt);
  stands = λ c m s h. h;
  asked = λ number lease n q c x is f h. (all_cores c h, x);
  sent = λ last q c is at b f h. fit_same c (sends_by last (setup.packet_size - 8) q c) (sends_same last (setup.packet_size - 8) q c is) h;
  cancelled = λ p q c is at f h. fit_same c (cancels_by p q c) (cancels_same_by p q c is) h;
  worked = λ c s ss is f h. (map_fit c.answering c.session s c.past h.0, option_fit c.answering c.session s c.current h.1);
  at_server = λ c e es f h. fit_same c (server_acts answers (record c { to_server = passed e c.to_server }) e) (server_same answers c e) h;
  at_client = λ c e es f h. fit_same c (client_acts (record c { to_client = passed e c.to_client }) e) (client_same c e) h;
  server_waits = λ c es k m h. h;
  client_waits = λ c es k m h. h;
}

of_records : (qs : List Record) → AllByRecursion FitsCore (map core_of qs) → AllByRecursion (λ (q : Record). Fits q.asking.request) qs
of_records [] h = tt
of_records (q ∷ qs) h = (h.0, of_records qs h.1)

pub all_fit : (setup : Setup) (answers : Answers) (events : List Event) → AllByRecursion IsEvent events → OfEachConnection (λ c. AllByRecursion (λ (q : Record). Fits q.asking.request) (records c)) (world_after setup answers events new_world)
all_fit setup answers events x =
    each_follows AllFit (λ c. AllByRecursion (λ (q : Record). Fits q.asking.request) (records c)) (world_after setup answers events new_world).connections
    (λ c h. of_records (records c) (all_cores c h))
    (always_such AllFit IsEvent setup answers events (by_moves_of setup answers IsEvent (λ c ups downs. AllFit c) cleaning_is_event (fit_moves setup answers)) x)

-- A request that ran did so in the transaction that its header names.
use Rattle.std.proofs.Common.{◌≡◌, ℕ, List, [], ◌∷◌, ◌++◌, ◌-◌, map, length, true, false, refl, sym, ap, subst, ◌∙◌, Option, Some, None, option_map}
use Rattle.std.specs.List.{AllByRecursion}
use Rattle.tds_session.specs.Answer as answer
use Rattle.tds_session.specs.Answer.{Answers}
use Rattle.tds_session.specs.Session.{SessionState}
use Rattle.tds_packet.specs.Resets.{strongest}
use Rattle.tds_packet.specs.declared.status.Reset.TheVariants.{Full, KeepTransaction}
use Rattle.tds_world.specs.declared.event.Setup.{Setup}
use Rattle.tds_world.specs.declared.report.Place.TheVariants as place
use Rattle.tds_world.specs.Arrivals.{works_on, server_acts, client_acts}
use Rattle.tds_world.specs.Bounds.{RanInOwn, OwnTransaction}
use Rattle.tds_world.specs.Caller.{sends_by, cancels_by}
use Rattle.tds_world.specs.Connection.{Connection, records, phase, is_idle, In}
use Rattle.tds_world.specs.Events.{world_after}
use Rattle.tds_world.specs.Lane.{passed}
use Rattle.tds_world.specs.Lawful.{Lawful}
use Rattle.tds_world.specs.Laws.{Always}
use Rattle.tds_world.specs.Phase.{phase_in, phase_of}
use Rattle.tds_world.specs.Record.{Record, runs, if_numbered}
use Rattle.tds_world.specs.World.{World, new_world, next_number}
use Rattle.tds_world.proofs.events.Moves.{Invariant, FreeIn, BothIn, MovesOver, NotedOver, Stand, Lends, Resumes, Before, restood, noted_on_top, by_noted_moves, AnyAt}
use Rattle.tds_world.proofs.events.Noted.{KeptIn, always_in}
use Rattle.tds_world.proofs.events.Worlds.{each_follows}
use Rattle.tds_world.proofs.flow.Busy.{Rests, Answering, busy_due}
use Rattle.tds_world.proofs.flow.Flow.{FlowIn, number_in, Sound}
use Rattle.tds_world.proofs.requests.Asking.{ByRan, Newest, RanOwn, Marked, NewestWith}
use Rattle.tds_world.proofs.requests.Cores.{Core, core_of, past_of, newest_of, SameCores, all_of, joined_cores, sends_same, cancels_same_by, server_same, client_same}
use Rattle.tds_world.proofs.requests.Marks.{works_marked, cancels_marked, sends_marked, asks_marked, marks_idle, up_marked, down_marked_at}
use Rattle.tds_world.proofs.requests.Numbers.{NumbersOf, InOrder, past_stays, InOrderWith, in_order_noted}
use Rattle.tds_world.proofs.requests.Rests.{SoundAndIdle}

-- ---- The older requests

abbrev OwnPast : Connection → Type 0
OwnPast c = AllByRecursion RanOwn (past_of c)

same_past : (c d : Connection) → SameCores c d → OwnPast c → OwnPast d
same_past c d e h = subst (AllByRecursion RanOwn) (sym e.0) h

-- The newest one did so too.
newest_own : (answers : Answers) (c : Connection) (q : Record) → ByRan answers c c.to_server.waiting c.to_client.waiting (phase_of q) q.asking q.ran → RanOwn (core_of q)
newest_own answers c q h = by_ran q.ran h
  where
    by_ran : (o : Option SessionState) → ByRan answers c c.to_server.waiting c.to_client.waiting (phase_of q) q.asking o → (s : SessionState) → o ≡ Some s → q.asking.descriptor ≡ s.descriptor
    by_ran None k s e = absurd (cc)
    by_ran (Some x) k s e = k.own ∙ ap (λ (y : SessionState). y.descriptor) (let is : x ≡ s = cc in is)

and_newest : (past : List Core) (x : Core) → AllByRecursion RanOwn past → RanOwn x → AllByRecursion RanOwn (past ++ x ∷ [])
and_newest [] x h k = (k, tt)
and_newest (p ∷ ps) x h k = (h.0, and_newest ps x h.1 k)

all_own : (answers : Answers) (c : Connection) (o : Option Record) → OwnPast c → Newest answers c c.to_server.waiting c.to_client.waiting o → AllByRecursion RanOwn (all_of (past_of c) (option_map core_of o))
all_own answers c None h k = h
all_own answers c (Some q) h k = and_newest (past_of c) (core_of q) h (newest_own answers c q k)

asks_own : (answers : Answers) (c : Connection) → Marked answers c → AllByRecursion RanOwn (map core_of (records c))
asks_own answers c h = subst (AllByRecursion RanOwn) (sym (joined_cores c.past c.current)) (all_own answers c c.current h.0 h.1)

-- ---- Each move

-- The answer that is due is the newest request's.
pub answers_newest : (c : Connection) (s : answer.Step) (ss : List answer.Step) → c.due ≡ s ∷ ss → Sound c → Answering (phase c) (number_in c.current) c.answering c.to_server.waiting
answers_newest c s ss e f =
    busy_due (phase c) (number_in c.current) c.answering c.to_server.waiting c.to_client.waiting c.parts s ss
    (subst (λ d. FlowIn (phase c) (number_in c.current) c.answering c.to_server.waiting c.to_client.waiting c.parts d) e f.0)

-- So the older ones stay as they are while the server works.
pub works_past : (n : ℕ) (c : Connection) (due : List answer.Step) → c.due ≡ due → Sound c → NumbersOf n (past_of c) (newest_of c) → (works_on c due).past ≡ c.past
works_past n c [] e f k = refl
works_past n c (s ∷ ss) e f k = by_newest c.current (answers_newest c s ss e f) k
  where
    by_newest : (o : Option Record) → Answering (phase_in o) (number_in o) c.answering c.to_server.waiting → NumbersOf n (past_of c) (option_map core_of o) → map (if_numbered c.answering (runs c.session s)) c.past ≡ c.past
    by_newest None a k = let z : true ≡ false = a.busy in absurd (cc)
    by_newest (Some q) a k =
        subst (λ r. map (if_numbered r (runs c.session s)) c.past ≡ c.past) (sym a.number) (past_stays q.number (runs c.session s) c.past k.1)

works_own : (answers : Answers) (n : ℕ) (c : Connection) (s : answer.Step) (ss : List answer.Step) → Lawful answers → c.due ≡ s ∷ ss → Sound c → NumbersOf n (past_of c) (newest_of c) → Marked answers c → Marked answers (works_on c (s ∷ ss))
works_own answers n c s ss l is f k h = (
  subst (λ qs. AllByRecursion RanOwn (map core_of qs)) (sym (works_past n c (s ∷ ss) is f k)) h.0,
  works_marked answers c (s ∷ ss) l is f h.1,
)

-- A free connection, and a kept one, is idle.
pub lend_idle : (c : Connection) → c.standing ≡ In place.Free → Rests c.standing (is_idle c) → is_idle c ≡ true
lend_idle c e h = subst (λ s. Rests s (is_idle c)) e h

pub resume_idle : (t : ℕ) (c : Connection) → c.standing ≡ In (place.Kept t) → Rests c.standing (is_idle c) → is_idle c ≡ true
resume_idle t c e h = subst (λ s. Rests s (is_idle c)) e h

-- One that stands elsewhere under another mark is idle.
stood_marked : (answers : Answers) (w : World) (r : Stand) (c : Connection) → Before r c → SoundAndIdle w c → Marked answers c → Marked answers (restood w r c)
stood_marked answers w Lends c b f h = (h.0, marks_idle answers c (strongest (Some Full) c.mark) (lend_idle c b f.1) f.0 h.1)
stood_marked answers w (Resumes t) c b f h = (h.0, marks_idle answers c (strongest (Some KeepTransaction) c.mark) (resume_idle t c b f.1) f.0 h.1)
stood_marked answers w r c b f h = h

abbrev MarkedWith : Answers → Invariant
MarkedWith answers c ups downs = OwnPast c × NewestWith answers c ups downs

marked_moves : (setup : Setup) (answers : Answers) → Lawful answers → MovesOver setup answers AnyAt InOrderWith (λ w. MarkedWith answers)
marked_moves setup answers l = record {
  stands = λ w r n c b f h. stood_marked answers w r c b f.0 h;
  asked = λ w lease n q c x s i f h. (asks_own answers c h, asks_marked answers (next_number w.asked_on) lease n q c i f.0.0);
  sent = λ w last q c i s b f h. (same_past c (sends_by last (setup.packet_size - 8) q c) (sends_same last (setup.packet_size - 8) q c i) h.0, sends_marked answers last (setup.packet_size - 8) q c i s h.1);
  cancelled = λ w p q c i at f h. (same_past c (cancels_by p q c) (cancels_same_by p q c i) h.0, cancels_marked answers p q c i at h.1);
  worked = λ w c s ss is f h. works_own answers (length w.asked_on) c s ss l is f.0.0 f.1 h;
  at_server = λ w c e es f h. (same_past c (server_acts answers (record c { to_server = passed e c.to_server }) e) (server_same answers c e) h.0, up_marked answers c e es h.1);
  at_client = λ w c e es f h. (same_past c (client_acts (record c { to_client = passed e c.to_client }) e) (client_same c e) h.0, down_marked_at answers c e es f.0.0 h.1);
  server_waits = λ w c es k m h. h;
  client_waits = λ w c es k m h. h;
}

-- In order, and marked.
abbrev pub WellMarked : Answers → World → Connection → Type 0
WellMarked answers w c = InOrder w c × Marked answers c

abbrev pub WellMarkedWith : Answers → World → Invariant
WellMarkedWith answers = BothIn InOrderWith (λ w. MarkedWith answers)

pub marked_noted : (setup : Setup) (answers : Answers) → Lawful answers → NotedOver setup answers AnyAt FreeIn (WellMarkedWith answers)
marked_noted setup answers l =
    noted_on_top setup answers AnyAt InOrderWith (λ w. MarkedWith answers) (in_order_noted setup answers l)
    (record { grows = λ w v c u d a h. h; opened = λ w n. (tt, tt); moves = marked_moves setup answers l })

pub marked_kept : (setup : Setup) (answers : Answers) → Lawful answers → KeptIn setup answers (WellMarked answers)
marked_kept setup answers l = by_noted_moves setup answers (WellMarkedWith answers) (marked_noted setup answers l)

-- ---- The law

of_cores : (c : Connection) (qs : List Record) → AllByRecursion RanOwn (map core_of qs) → AllByRecursion (RanInOwn c) qs
of_cores c [] h = tt
of_cores c (q ∷ qs) h = (h.0, of_cores c qs h.1)

pub own_transaction : (setup : Setup) (answers : Answers) → Lawful answers → Always setup answers OwnTransaction
own_transaction setup answers l events =
    let w : World = world_after setup answers events new_world in
    each_follows (WellMarked answers w) (λ c. AllByRecursion (RanInOwn c) (records c)) w.connections (λ c h. of_cores c (records c) (asks_own answers c h.1))
    (always_in setup answers (WellMarked answers) events (marked_kept setup answers l))

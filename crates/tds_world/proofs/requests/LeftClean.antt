-- What a cleaning leaves: where the newest request asks what a cleaning asks, each step that is due leaves
-- a fresh session, and once it ran the session is fresh.
use Rattle.std.proofs.Common.{◌≡◌, ◌-◌, ℕ, List, [], ◌∷◌, ◌++◌, Bool, true, false, eqb, refl, sym, ap, subst, ◌∙◌, Option, Some, None, option_map}
use Rattle.std.specs.List.{AllByRecursion}
use Rattle.tds_packet.specs.declared.status.Reset.TheVariants.{Full}
use Rattle.tds_session.specs.Answer as answer
use Rattle.tds_session.specs.Answer.{Answers}
use Rattle.tds_session.specs.Attention.{stop_by}
use Rattle.tds_session.specs.Session.{SessionState, IsFresh}
use Rattle.tds_world.specs.declared.event.Setup.{Setup}
use Rattle.tds_world.specs.Arrivals.{server_acts, client_acts, stops}
use Rattle.tds_world.specs.Caller.{cancels_by, sends_by}
use Rattle.tds_world.specs.Cleaning.{clean_request}
use Rattle.tds_world.specs.Connection.{Connection, phase, records, joined}
use Rattle.tds_world.specs.Entries.{Asking, Up, Part, End, Drop, Attention, Down, Step, Acknowledgement, Packet}
use Rattle.tds_world.specs.Events.{world_after}
use Rattle.tds_world.specs.Lane.{passed}
use Rattle.tds_world.specs.Lawful.{Lawful}
use Rattle.tds_world.specs.Laws.{Always, IsOwnAnswer}
use Rattle.tds_world.specs.left_clean.LeftClean.{AnswersClean, IsLeftClean, LeftClean}
use Rattle.tds_world.specs.Phase.{Phase, Settled, Asked, Sending, Reading, Cancelling, phase_of}
use Rattle.tds_world.specs.Record.{Record, is_finished, gives, acknowledges, runs, when, if_numbered}
use Rattle.tds_world.specs.World.{World, new_world}
use Rattle.tds_world.proofs.events.Moves.{BothIn, MovesOver, noted_on_top, by_noted_moves, AnyAt}
use Rattle.tds_world.proofs.events.Noted.{KeptIn, always_in}
use Rattle.tds_world.proofs.events.Worlds.{each_both, each_follows}
use Rattle.tds_world.proofs.flow.Flow.{Quiet, number_in}
use Rattle.tds_world.proofs.flow.Keeps.{ask_fits}
use Rattle.tds_world.proofs.flow.Stops.{rolls}
use Rattle.tds_world.proofs.requests.Asking.{ByRan, Newest, NewestWith}
use Rattle.tds_world.proofs.requests.OwnAnswers.{own_answers}
use Rattle.tds_world.proofs.requests.OwnTransactions.{WellMarked, WellMarkedWith, marked_noted}

-- What a cleaning asks.
abbrev pub AsksClean : Asking → Type 0
AsksClean a = (a.request ≡ clean_request) × (a.mark ≡ Some Full)

abbrev LeaveFresh : List answer.Step → Type 0
LeaveFresh steps = AllByRecursion (λ (step : answer.Step). IsFresh step.after) steps

abbrev IfRan : Option SessionState → Type 0 → Type 0
IfRan None P = Unit {0}
IfRan (Some s) P = P

-- Of the newest request, where these steps are due in this session.
abbrev CleansIn : List answer.Step → SessionState → Option Record → Type 0
CleansIn due session None = Unit {0}
CleansIn due session (Some q) = AsksClean q.asking → LeaveFresh due × IfRan q.ran (IsFresh session)

abbrev Cleans : Connection → Type 0
Cleans c = CleansIn c.due c.session c.current

if_ran : (o : Option SessionState) (P : Type 0) → P → IfRan o P
if_ran None P h = tt
if_ran (Some s) P h = h

ran_more : (o : Option SessionState) (P Q : Type 0) → (P → Q) → IfRan o P → IfRan o Q
ran_more None P Q f h = tt
ran_more (Some s) P Q f h = f h

-- ---- The caller

of_newest : (c : Connection) (q : Record) → c.current ≡ Some q → Cleans c → CleansIn c.due c.session (Some q)
of_newest c q e h = subst (CleansIn c.due c.session) e h

cancels_clean : (p : Phase) (q : Record) (c : Connection) → c.current ≡ Some q → Cleans c → Cleans (cancels_by p q c)
cancels_clean Settled q c e h = h
cancels_clean Cancelling q c e h = h
cancels_clean Asked q c e h = of_newest c q e h
cancels_clean Sending q c e h = of_newest c q e h
cancels_clean Reading q c e h = of_newest c q e h

sends_clean : (b : Bool) (room : ℕ) (q : Record) (c : Connection) → c.current ≡ Some q → Cleans c → Cleans (sends_by b room q c)
sends_clean true room q c e h = of_newest c q e h
sends_clean false room q c e h = of_newest c q e h

-- Where a request is asked no step is due.
none_due : (due : List answer.Step) → due ≡ [] → LeaveFresh due
none_due due e = subst LeaveFresh (sym e) tt

-- ---- A change of the newest request

any_change : (P : Record → Type 0) (b : Bool) (f : Record → Record) (q : Record) → P (f q) → P q → P (when b f q)
any_change P true f q g h = g
any_change P false f q g h = h

changed_clean : (due : List answer.Step) (session : SessionState) (r : ℕ) (f : Record → Record) (o : Option Record) → ((q : Record) → ((f q).asking ≡ q.asking) × ((f q).ran ≡ q.ran)) → CleansIn due session o → CleansIn due session (option_map (if_numbered r f) o)
changed_clean due session r f None same h = tt
changed_clean due session r f (Some q) same h =
    any_change (λ x. CleansIn due session (Some x)) (eqb q.number r) f q
    (λ k. let g = h (subst AsksClean (same q).0 k) in (g.0, subst (λ o. IfRan o (IsFresh session)) (sym (same q).1) g.1))
    h

client_clean : (c : Connection) (e : Down) → Cleans c → Cleans (client_acts (record c { to_client = passed e c.to_client }) e)
client_clean c (Step r i s) h = changed_clean c.due c.session r (gives s) c.current (λ q. (refl, refl)) h
client_clean c (Acknowledgement r i changes) h = changed_clean c.due c.session r acknowledges c.current (λ q. (refl, refl)) h

-- ---- The server works

works_clean : (c : Connection) (s : answer.Step) (ss : List answer.Step) (o : Option Record) → CleansIn (s ∷ ss) c.session o → CleansIn ss s.after (option_map (if_numbered c.answering (runs c.session s)) o)
works_clean c s ss None h = tt
works_clean c s ss (Some q) h =
    any_change (λ x. CleansIn ss s.after (Some x)) (eqb q.number c.answering) (runs c.session s) q
    (λ k. let g = h k in (g.0.1, g.0.0))
    (λ k. let g = h k in (g.0.1, if_ran q.ran (IsFresh s.after) g.0.0))

-- ---- An entry comes to the server

-- With its end the whole answer is due.
end_clean : (answers : Answers) (c : Connection) (r : ℕ) (a : Asking) (p : Packet) (es : List Up) (o : Option Record) → AnswersClean answers → Newest answers c (End r a p ∷ es) c.to_client.waiting o → CleansIn (answers c.session a.descriptor a.mark a.request) c.session o
end_clean answers c r a p es None clean f = tt
end_clean answers c r a p es (Some q) clean f = by_ran q.ran f
  where
    by_ran : (ran : Option SessionState) → ByRan answers c (End r a p ∷ es) c.to_client.waiting (phase_of q) q.asking ran → AsksClean q.asking → LeaveFresh (answers c.session a.descriptor a.mark a.request) × IfRan ran (IsFresh c.session)
    by_ran None g k =
        let request : a.request ≡ clean_request = ap (λ (x : Asking). x.request) g.ends.0 ∙ k.0 in
        let mark : a.mark ≡ Some Full = ap (λ (x : Asking). x.mark) g.ends.0 ∙ k.1 in (
          subst (λ x. LeaveFresh (answers c.session a.descriptor a.mark x)) (sym request)
              (subst (λ x. LeaveFresh (answers c.session a.descriptor x clean_request)) (sym mark) (clean c.session a.descriptor)),
          tt,
        )
    by_ran (Some x) g k = absurd g.ends

-- An attention leaves a fresh session so.
stop_fresh : (b : Bool) (s : SessionState) → IsFresh s → IsFresh (stop_by b s).after
stop_fresh true s h = (h.0, refl)
stop_fresh false s h = h

attention_clean : (c : Connection) (o : Option Record) → CleansIn c.due c.session o → CleansIn [] (stops c).after o
attention_clean c None h = tt
attention_clean c (Some q) h = λ k. (tt, ran_more q.ran (IsFresh c.session) (IsFresh (stops c).after) (stop_fresh (rolls c) c.session) (h k).1)

server_clean : (answers : Answers) (c : Connection) (e : Up) (es : List Up) → AnswersClean answers → NewestWith answers c (e ∷ es) c.to_client.waiting → Cleans c → Cleans (server_acts answers (record c { to_server = passed e c.to_server }) e)
server_clean answers c (Part r p) es clean f h = h
server_clean answers c (Drop r p) es clean f h = h
server_clean answers c (End r a p) es clean f h = end_clean answers c r a p es c.current clean f
server_clean answers c (Attention r) es clean f h = attention_clean c c.current h

-- ---- Each move

cleans_moves : (setup : Setup) (answers : Answers) → AnswersClean answers → MovesOver setup answers AnyAt (WellMarkedWith answers) (λ w c ups downs. Cleans c)
cleans_moves setup answers clean = record {
  stands = λ w r n c b f h. h;
  asked = λ w lease n q c x s i f h.
      let quiet : Quiet c.to_server.waiting c.to_client.waiting c.parts c.due =
      ask_fits (phase c) (number_in c.current) c.answering c.to_server.waiting c.to_client.waiting c.parts c.due i f.0.0.0.0 in
      λ k. (none_due c.due quiet.3, tt);
  sent = λ w last q c i s b f h. sends_clean last (setup.packet_size - 8) q c i h;
  cancelled = λ w p q c i at f h. cancels_clean p q c i h;
  worked = λ w c s ss is f h. works_clean c s ss c.current (subst (λ due. CleansIn due c.session c.current) is h);
  at_server = λ w c e es f h. server_clean answers c e es clean f.1.1 h;
  at_client = λ w c e es f h. client_clean c e h;
  server_waits = λ w c es k m h. h;
  client_waits = λ w c es k m h. h;
}

abbrev MarkedAndCleans : Answers → World → Connection → Type 0
MarkedAndCleans answers w c = WellMarked answers w c × Cleans c

cleans_kept : (setup : Setup) (answers : Answers) → Lawful answers → AnswersClean answers → KeptIn setup answers (MarkedAndCleans answers)
cleans_kept setup answers l clean =
    by_noted_moves setup answers (BothIn (WellMarkedWith answers) (λ w c ups downs. Cleans c))
    (noted_on_top setup answers AnyAt (WellMarkedWith answers) (λ w c ups downs. Cleans c) (marked_noted setup answers l)
    (record { grows = λ w v c u d a h. h; opened = λ w n. tt; moves = cleans_moves setup answers clean }))

-- ---- The law

last_of : (P : Record → Type 0) (qs : List Record) (q : Record) → AllByRecursion P (qs ++ q ∷ []) → P q
last_of P [] q h = h.0
last_of P (p ∷ ps) q h = last_of P ps q h.1

-- What is finished ran.
finished_ran : (answers : Answers) (q : Record) (ran : Option SessionState) (P : Type 0) → IsOwnAnswer answers q ran → is_finished q.fate ≡ true → IfRan ran P → P
finished_ran answers q None P own f h = let z : true ≡ false = sym f ∙ own.1 in absurd (cc)
finished_ran answers q (Some s) P own f h = h

abbrev OwnOf : Answers → Connection → Type 0
OwnOf answers c = AllByRecursion (λ q. IsOwnAnswer answers q q.ran) (records c)

is_left_clean : (answers : Answers) (c : Connection) → Cleans c → OwnOf answers c → IsLeftClean c
is_left_clean answers c h own = λ q i request mark f.
    let newest : IsOwnAnswer answers q q.ran =
    last_of (λ x. IsOwnAnswer answers x x.ran) c.past q (subst (λ o. AllByRecursion (λ x. IsOwnAnswer answers x x.ran) (joined c.past o)) i own) in
    finished_ran answers q q.ran (IsFresh c.session) newest f (of_newest c q i h (request, mark)).1

pub left_clean : (setup : Setup) (answers : Answers) → Lawful answers → AnswersClean answers → Always setup answers LeftClean
left_clean setup answers l clean events =
    let w : World = world_after setup answers events new_world in
    each_follows (λ c. MarkedAndCleans answers w c × OwnOf answers c) IsLeftClean w.connections (λ c h. is_left_clean answers c h.0.1 h.1)
    (each_both (MarkedAndCleans answers w) (OwnOf answers) w.connections
    (always_in setup answers (MarkedAndCleans answers) events (cleans_kept setup answers l clean)) (own_answers setup answers l events))

-- No connection that is whole is ever stuck.
use Rattle.std.proofs.Common.{◌≡◌, ◌≢◌, ℕ, zero, suc, List, [], ◌∷◌, ◌++◌, ◌+◌, ◌-◌, ◌≤◌, length, min, true, false, cond, refl, sym, ap, subst, ◌∙◌, Option, Some, None}
use Rattle.std.specs.Prelude.{replicate}
use Rattle.std.specs.List.{AllByRecursion}
use Rattle.tds_session.specs.Answer.{Answers}
use Rattle.tds_world.specs.declared.event.Event.{Event}
use Rattle.tds_world.specs.declared.event.Event.TheVariants as event
use Rattle.tds_world.specs.declared.event.Setup.{Setup}
use Rattle.tds_world.specs.declared.outcome.Refusal.TheVariants as refusal
use Rattle.tds_world.specs.declared.report.Place.TheVariants as place
use Rattle.tds_world.specs.Arrivals.{reach_client, to_server, to_client, works, drained}
use Rattle.tds_world.specs.Caller.{cancels, sends_last}
use Rattle.tds_world.specs.Connection.{Connection, Standing, In, Cut, is_cut, is_idle, phase, up_underway, down_underway}
use Rattle.tds_world.specs.Events.{about, acts, settles, happens_at, happens, sends_in, world_after}
use Rattle.tds_world.specs.Lawful.{Lawful}
use Rattle.tds_world.specs.Laws.{Always}
use Rattle.tds_world.specs.Phase.{Phase, Settled, Asked, Sending, Reading, Cancelling, is_settled}
use Rattle.tds_world.specs.Pool.{Acted, Refuses, Does}
use Rattle.tds_world.specs.Record.{Record}
use Rattle.tds_world.specs.rest.Rest.{rested, CanCancel, ComesToRest, BringsToRest, arriving, stopping, AreAll, answering, finishing, times, after_act, sends_next, AreEnough, NeverStuck}
use Rattle.tds_world.specs.World.{World, new_world, Found, Missing, Here, numbered, put_numbered, uncut_in, by_number, by_lease, not_cut}
use Rattle.tds_world.proofs.events.Agreement.{happens_agrees, new_agrees}
use Rattle.tds_world.proofs.events.Grows.{notes_leave, after_both, after_agrees}
use Rattle.tds_world.proofs.events.Moves.{cancels_stop}
use Rattle.tds_world.proofs.events.Noted.{always_in}
use Rattle.tds_world.proofs.events.Places.{FoundWith, about_stands, Agrees}
use Rattle.tds_world.proofs.events.Standings.{cancels_stand_in, works_stand, sends_stand, reach_server_stands, reach_client_stands}
use Rattle.tds_world.proofs.events.Words.{OfSome}
use Rattle.tds_world.proofs.events.Worlds.{always, at_number}
use Rattle.tds_world.proofs.flow.Busy.{Rests}
use Rattle.tds_world.proofs.flow.Fates.{is_sending, is_stopped}
use Rattle.tds_world.proofs.flow.Flow.{Sound}
use Rattle.tds_world.proofs.flow.Quiet.{sound_is_quiet}
use Rattle.tds_world.proofs.flow.Sound.{sound_kept}
use Rattle.tds_world.proofs.packets.Deliveries.{LanesWithin, within_kept}
use Rattle.tds_world.proofs.reports.Asks.{put_there}
use Rattle.tds_world.proofs.requests.Rests.{RestsIdle, SoundAndIdle, rests_kept}
use Rattle.tds_world.proofs.rest.Arriving.{IsGood, server_good, client_good, cancels_good, stopped_quiet, stopped_stays, stops, Worked, all_worked, finishes}
use Rattle.tds_world.proofs.rest.Becomes.{Follows, follows_same, all_sends_follow, answered_follows, finished, acknowledged}
use Rattle.tds_world.proofs.rest.Holders.{AllHeld, happens_hold, after_hold, always_held, lease_finds}
use Rattle.tds_world.proofs.rest.Sending.{left_fits, Sent, all_sent}
use Rattle.tds_world.proofs.rest.Stopping.{Stops, StopsIn, SoundAndStopped, stops_kept}

-- ---- One event

-- Leases have their connections, and connections their leases.
pub record Good (w : World) : Type 0 where
  pub agrees : Agrees w
  pub held : AllHeld w

good_then : (setup : Setup) (answers : Answers) (e : Event) (w : World) → Good w → Good (happens setup answers e w).1
good_then setup answers e w g = record { agrees = happens_agrees setup answers e w g.agrees; held = happens_hold setup answers e w g.agrees g.held }

good_after : (setup : Setup) (answers : Answers) (events : List Event) (w : World) → Good w → Good (world_after setup answers events w)
good_after setup answers events w g = record { agrees = after_agrees setup answers events w g.agrees; held = after_hold setup answers events w g.agrees g.held }

abbrev There : World → ℕ → Connection → Type 0
There w n c = numbered w.connections n ≡ Some c

settled_there : (e : Event) (n : ℕ) (w : World) (c : Connection) (a : Acted) → There w n c → There (settles e n w a).1 n (after_act c a)
settled_there e n w c (Refuses why) t = t
settled_there e n w c (Does what d) t =
    ap (λ cs. numbered cs n) (notes_leave e n d.heard (record w { connections = put_numbered n d w.connections }))
    ∙ put_there w.connections n c d t

pub number_finds : (w : World) (n : ℕ) (c : Connection) → There w n c → is_cut c.standing ≡ false → by_number w n ≡ Here n c
number_finds w n c t s =
    ap (λ o. uncut_in refusal.UnknownConnection n o) t ∙ ap (λ b. cond b (Missing refusal.UnknownConnection) (Here n c)) s

found_there : (setup : Setup) (w : World) (n : ℕ) (c : Connection) → Agrees w → by_number w n ≡ Here n c → (There w n c) × (is_cut c.standing ≡ false)
found_there setup w n c a e = subst (FoundWith w (λ s. is_cut s ≡ false)) e (about_stands setup w (event.Work n) a)

-- The connection after an event that found it.
then_there : (setup : Setup) (answers : Answers) (e : Event) (w : World) (n : ℕ) (c : Connection) (f : Found) → f ≡ Here n c → There w n c → There (happens_at setup answers e w f).1 n (after_act c (acts setup answers w e n c))
then_there setup answers e w n c f i t =
    subst (λ g. There (happens_at setup answers e w g).1 n (after_act c (acts setup answers w e n c))) (sym i)
    (settled_there e n w c (acts setup answers w e n c) t)

leased_whole : (l : ℕ) (s : Standing) → s ≡ In (place.Leased l) → is_cut s ≡ false
leased_whole l s e = ap is_cut e

lease_about : (w : World) (n : ℕ) (c : Connection) (l : ℕ) → Good w → There w n c → c.standing ≡ In (place.Leased l) → not_cut (by_lease w l) ≡ Here n c
lease_about w n c l g t s = lease_finds w n c l (g.held n c l t s) t (leased_whole l c.standing s)

-- ---- Events one after the other

sends_stand_by : (p : Phase) (room : ℕ) (o : Option Record) (c : Connection) → (after_act c (sends_in p room o c)).standing ≡ c.standing
sends_stand_by Settled room o c = refl
sends_stand_by Reading room o c = refl
sends_stand_by Cancelling room o c = refl
sends_stand_by Asked room None c = refl
sends_stand_by Sending room None c = refl
sends_stand_by Asked room (Some q) c = sends_stand (sends_last room q) room q c
sends_stand_by Sending room (Some q) c = sends_stand (sends_last room q) room q c

all_sends : (setup : Setup) (answers : Answers) (k : ℕ) (w : World) (n : ℕ) (c : Connection) (l : ℕ) → Good w → There w n c → c.standing ≡ In (place.Leased l) → There (world_after setup answers (replicate k (event.Send l)) w) n (times k (sends_next (setup.packet_size - 8)) c)
all_sends setup answers zero w n c l g t s = t
all_sends setup answers (suc k) w n c l g t s =
    let d : Connection = sends_next (setup.packet_size - 8) c in
    all_sends setup answers k (happens setup answers (event.Send l) w).1 n d l (good_then setup answers (event.Send l) w g)
    (then_there setup answers (event.Send l) w n c (about setup w (event.Send l)) (lease_about w n c l g t s) t)
    (sends_stand_by (phase c) (setup.packet_size - 8) c.current c ∙ s)

work_there : (setup : Setup) (answers : Answers) (w : World) (n : ℕ) (c : Connection) → There w n c → is_cut c.standing ≡ false → There (happens setup answers (event.Work n) w).1 n (works c)
work_there setup answers w n c t s = then_there setup answers (event.Work n) w n c (by_number w n) (number_finds w n c t s) t

up_there : (setup : Setup) (answers : Answers) (w : World) (n k : ℕ) (c : Connection) → There w n c → is_cut c.standing ≡ false → There (happens setup answers (event.ToServer n k) w).1 n (to_server answers k c)
up_there setup answers w n k c t s = then_there setup answers (event.ToServer n k) w n c (by_number w n) (number_finds w n c t s) t

down_there : (setup : Setup) (answers : Answers) (w : World) (n k : ℕ) (c : Connection) → There w n c → is_cut c.standing ≡ false → There (happens setup answers (event.ToClient n k) w).1 n (to_client k c)
down_there setup answers w n k c t s = then_there setup answers (event.ToClient n k) w n c (by_number w n) (number_finds w n c t s) t

all_works_stand : (k : ℕ) (c : Connection) → (times k works c).standing ≡ c.standing
all_works_stand zero c = refl
all_works_stand (suc k) c = all_works_stand k (works c) ∙ works_stand c c.due

all_works : (setup : Setup) (answers : Answers) (k : ℕ) (w : World) (n : ℕ) (c : Connection) → There w n c → is_cut c.standing ≡ false → There (world_after setup answers (replicate k (event.Work n)) w) n (times k works c)
all_works setup answers zero w n c t s = t
all_works setup answers (suc k) w n c t s =
    all_works setup answers k (happens setup answers (event.Work n) w).1 n (works c) (work_there setup answers w n c t s)
    (ap is_cut (works_stand c c.due) ∙ s)

-- ---- To rest

to_server_stands : (answers : Answers) (k : ℕ) (c : Connection) → (to_server answers k c).standing ≡ c.standing
to_server_stands answers k c = reach_server_stands answers c c.to_server.waiting (c.to_server.part + min k (up_underway c))

drained_rests : (s : Standing) → drained true s ≡ rested s
drained_rests (In place.Draining) = refl
drained_rests s = refl

-- An idle connection that was delivered to.
rests : (setup : Setup) (answers : Answers) (k : ℕ) (c d : Connection) → Lawful answers → IsGood d → d.standing ≡ c.standing → phase (to_client k d) ≡ Settled → ComesToRest c (to_client k d)
rests setup answers k c d l g s e = record {
  idle = e;
  quiet = sound_is_quiet (to_client k d) (client_good setup answers k d l g).0 e;
  stands =
      let r : Connection = reach_client d d.to_client.waiting (d.to_client.part + min k (down_underway d)) in
      ap (λ b. drained b r.standing) (ap is_settled e)
      ∙ (ap (λ x. drained true x) (reach_client_stands d d.to_client.waiting (d.to_client.part + min k (down_underway d)) ∙ s)
      ∙ drained_rests c.standing);
}

-- ---- With a cancel

arrives : (setup : Setup) (answers : Answers) (w : World) (n up down : ℕ) (b c : Connection) → Lawful answers → There w n c → is_cut c.standing ≡ false → c.standing ≡ b.standing → IsGood c → is_stopped (phase c) ≡ true → AreAll answers c up down → BringsToRest setup answers w n b (arriving n up down)
arrives setup answers w n up down b c l t s same g p m =
    let d : Connection = to_server answers up c in
    record {
      after = to_client down d;
      there = down_there setup answers (happens setup answers (event.ToServer n up) w).1 n down d (up_there setup answers w n up c t s)
          (ap is_cut (to_server_stands answers up c) ∙ s);
      rests = rests setup answers down b d l (server_good setup answers up c l g) (to_server_stands answers up c ∙ same)
          (stops setup answers up down c l g p m.up_all m.down_all);
    }

idle_stopped : (p : Phase) → is_settled p ≡ true → is_stopped p ≡ true
idle_stopped Settled e = refl
idle_stopped Asked e = absurd (cc)
idle_stopped Sending e = absurd (cc)
idle_stopped Reading e = absurd (cc)
idle_stopped Cancelling e = refl

-- What has nothing to send and can be cancelled is stopped.
not_reading : (p : Phase) → is_sending p ≡ false → p ≢ Reading → is_stopped p ≡ true
not_reading Settled e n = refl
not_reading Asked e n = absurd (cc)
not_reading Sending e n = absurd (cc)
not_reading Reading e n = absurd (n refl)
not_reading Cancelling e n = refl

-- What nobody has is stopped.
stops_at : (setup : Setup) (answers : Answers) (w : World) (n up down : ℕ) (c : Connection) → Lawful answers → There w n c → is_cut c.standing ≡ false → IsGood c → is_stopped (phase c) ≡ true → AreAll answers (cancels c) up down → BringsToRest setup answers w n c (arriving n up down)
stops_at setup answers w n up down c l t s f p m =
    arrives setup answers w n up down c c l t s refl f p (subst (λ d. AreAll answers d up down) (stopped_stays c p) m)

stops_by : (setup : Setup) (answers : Answers) (w : World) (n up down : ℕ) (c : Connection) (s : Standing) → Lawful answers → Good w → There w n c → c.standing ≡ s → is_cut c.standing ≡ false → IsGood c → RestsIdle c → Stops c → CanCancel c.standing (phase c) → AreAll answers (cancels c) up down → BringsToRest setup answers w n c (stopping s n up down)
stops_by setup answers w n up down c (In place.Free) l g t e s f i j r m =
    stops_at setup answers w n up down c l t s f (idle_stopped (phase c) (subst (λ x. Rests x (is_idle c)) e i)) m
stops_by setup answers w n up down c (In (place.Kept k)) l g t e s f i j r m =
    stops_at setup answers w n up down c l t s f (idle_stopped (phase c) (subst (λ x. Rests x (is_idle c)) e i)) m
stops_by setup answers w n up down c (In place.Draining) l g t e s f i j r m =
    stops_at setup answers w n up down c l t s f (not_reading (phase c) (subst (λ x. StopsIn x (phase c)) e j) (r e)) m
stops_by setup answers w n up down c (In (place.Leased k)) l g t e s f i j r m =
    let v : World = (happens setup answers (event.Cancel k) w).1 in
    let stand : (cancels c).standing ≡ c.standing = cancels_stand_in c.current c in
    let calm = arrives setup answers v n up down c (cancels c) l
    (then_there setup answers (event.Cancel k) w n c (about setup w (event.Cancel k)) (lease_about w n c k g t e) t)
    (ap is_cut stand ∙ s) stand (cancels_good setup answers c l f) (cancels_stop c) m in
    record { after = calm.after; there = calm.there; rests = calm.rests }
stops_by setup answers w n up down c Cut l g t e s f i j r m = let z : true ≡ false = sym (ap is_cut e) ∙ s in absurd (cc)

-- They bring it to rest, and its newest request is the same one.
pub record Did (setup : Setup) (answers : Answers) (w : World) (n : ℕ) (c : Connection) (events : List Event) : Type 0 where
  pub brings : BringsToRest setup answers w n c events
  pub follows : Follows c.current brings.after.current

-- ---- Without a cancel

answers_all : (setup : Setup) (answers : Answers) (w : World) (n up steps down : ℕ) (b c : Connection) → Lawful answers → There w n c → is_cut c.standing ≡ false → c.standing ≡ b.standing → IsGood c → is_sending (phase c) ≡ false → up_underway c ≤ up → length (to_server answers up c).due ≤ steps → down_underway (times steps works (to_server answers up c)) ≤ down → Follows b.current c.current → Did setup answers w n b (answering n up steps down)
answers_all setup answers w n up steps down b c l t s same g p m k j i =
    let d : Connection = to_server answers up c in
    let d_whole : is_cut d.standing ≡ false = ap is_cut (to_server_stands answers up c) ∙ s in
    let v : World = (happens setup answers (event.ToServer n up) w).1 in
    let u : World = world_after setup answers (replicate steps (event.Work n)) v in
    let e : Connection = times steps works d in
    let worked : Worked d e = all_worked setup answers steps d l (server_good setup answers up c l g) k in
    let e_there : There u n e = all_works setup answers steps v n d (up_there setup answers w n up c t s) d_whole in
    let last : There (happens setup answers (event.ToClient n down) u).1 n (to_client down e) =
    down_there setup answers u n down e e_there (ap is_cut (all_works_stand steps d) ∙ d_whole) in
    record {
      brings = record {
        after = to_client down e;
        there = subst (λ x. There x n (to_client down e)) (sym (after_both setup answers (replicate steps (event.Work n)) (event.ToClient n down ∷ []) v)) last;
        rests = rests setup answers down b e l worked.good (all_works_stand steps d ∙ (to_server_stands answers up c ∙ same))
            (finishes setup answers up steps down c l g p m k j);
      };
      follows = answered_follows setup answers up steps down c l g i;
    }

finishes_leased : (setup : Setup) (answers : Answers) (w : World) (n k packets up steps down : ℕ) (c : Connection) → Lawful answers → Good w → There w n c → c.standing ≡ In (place.Leased k) → is_cut c.standing ≡ false → IsGood c → AreEnough (setup.packet_size - 8) answers c packets up steps down → Did setup answers w n c (replicate packets (event.Send k) ++ answering n up steps down)
finishes_leased setup answers w n k packets up steps down c l g t e s f m =
    let room : ℕ = setup.packet_size - 8 in
    let d : Connection = times packets (sends_next room) c in
    let sent : Sent c d = all_sent room packets c f (left_fits room packets (phase c) c.current refl m.packets_all) in
    let v : World = world_after setup answers (replicate packets (event.Send k)) w in
    let did = answers_all setup answers v n up steps down c d l (all_sends setup answers packets w n c k g t e)
    (ap is_cut sent.stands ∙ s) sent.stands sent.good sent.nothing m.up_all m.steps_all m.down_all (all_sends_follow room packets c) in
    record {
      brings = record {
        after = did.brings.after;
        there = subst (λ x. There x n did.brings.after) (sym (after_both setup answers (replicate packets (event.Send k)) (answering n up steps down) w)) did.brings.there;
        rests = did.brings.rests;
      };
      follows = did.follows;
    }

-- One that sends nothing stays as it is.
sends_none : (p : Phase) (room : ℕ) (o : Option Record) (c : Connection) → is_sending p ≡ false → after_act c (sends_in p room o c) ≡ c
sends_none Settled room o c e = refl
sends_none Asked room o c e = absurd (cc)
sends_none Sending room o c e = absurd (cc)
sends_none Reading room o c e = refl
sends_none Cancelling room o c e = refl

none_sent : (room k : ℕ) (c : Connection) → is_sending (phase c) ≡ false → times k (sends_next room) c ≡ c
none_sent room zero c e = refl
none_sent room (suc k) c e =
    ap (λ d. times k (sends_next room) d) (sends_none (phase c) room c.current c e) ∙ none_sent room k c e

finishes_at : (setup : Setup) (answers : Answers) (w : World) (n packets up steps down : ℕ) (c : Connection) → Lawful answers → There w n c → is_cut c.standing ≡ false → IsGood c → is_sending (phase c) ≡ false → AreEnough (setup.packet_size - 8) answers c packets up steps down → Did setup answers w n c (answering n up steps down)
finishes_at setup answers w n packets up steps down c l t s f p m =
    let same : times packets (sends_next (setup.packet_size - 8)) c ≡ c = none_sent (setup.packet_size - 8) packets c p in
    answers_all setup answers w n up steps down c c l t s refl f p
    (subst (λ d. up_underway d ≤ up) same m.up_all)
    (subst (λ d. length (to_server answers up d).due ≤ steps) same m.steps_all)
    (subst (λ d. down_underway (times steps works (to_server answers up d)) ≤ down) same m.down_all) (follows_same c.current)

finishes_by : (setup : Setup) (answers : Answers) (w : World) (n packets up steps down : ℕ) (c : Connection) (s : Standing) → Lawful answers → Good w → There w n c → c.standing ≡ s → is_cut c.standing ≡ false → IsGood c → RestsIdle c → Stops c → AreEnough (setup.packet_size - 8) answers c packets up steps down → Did setup answers w n c (finishing s n packets up steps down)
finishes_by setup answers w n packets up steps down c (In place.Free) l g t e s f i j m =
    finishes_at setup answers w n packets up steps down c l t s f (stopped_quiet (phase c) (idle_stopped (phase c) (subst (λ x. Rests x (is_idle c)) e i))) m
finishes_by setup answers w n packets up steps down c (In (place.Kept k)) l g t e s f i j m =
    finishes_at setup answers w n packets up steps down c l t s f (stopped_quiet (phase c) (idle_stopped (phase c) (subst (λ x. Rests x (is_idle c)) e i))) m
finishes_by setup answers w n packets up steps down c (In place.Draining) l g t e s f i j m =
    finishes_at setup answers w n packets up steps down c l t s f (subst (λ x. StopsIn x (phase c)) e j) m
finishes_by setup answers w n packets up steps down c (In (place.Leased k)) l g t e s f i j m =
    finishes_leased setup answers w n k packets up steps down c l g t e s f m
finishes_by setup answers w n packets up steps down c Cut l g t e s f i j m = let z : true ≡ false = sym (ap is_cut e) ∙ s in absurd (cc)

-- ---- Both, after any events

pub of_there : (P : Connection → Type 0) (w : World) (n : ℕ) (c : Connection) → There w n c → AllByRecursion P w.connections → P c
of_there P w n c t h = subst (OfSome P) t (at_number P w.connections n h)

pub never_stuck : (setup : Setup) (answers : Answers) → Lawful answers → Always setup answers (NeverStuck setup answers)
never_stuck setup answers l events =
    let w : World = world_after setup answers events new_world in
    let good : Good w = record { agrees = after_agrees setup answers events new_world new_agrees; held = always_held setup answers events } in
    let sound : AllByRecursion Sound w.connections = always Sound setup answers events (sound_kept setup answers l) in
    let within : AllByRecursion LanesWithin w.connections = always LanesWithin setup answers events (within_kept setup answers) in
    let idle : AllByRecursion (SoundAndIdle w) w.connections = always_in setup answers SoundAndIdle events (rests_kept setup answers l) in
    let stopped : AllByRecursion (SoundAndStopped w) w.connections = always_in setup answers SoundAndStopped events (stops_kept setup answers l) in
    record {
      stops = λ n c up down e r m.
          let f = found_there setup w n c good.agrees e in
          stops_by setup answers w n up down c c.standing l good f.0 refl f.1 (of_there Sound w n c f.0 sound, of_there LanesWithin w n c f.0 within)
          (of_there (SoundAndIdle w) w n c f.0 idle).1 (of_there (SoundAndStopped w) w n c f.0 stopped).1 r m;
      finishes = λ n c packets up steps down e m.
          let f = found_there setup w n c good.agrees e in
          let did : Did setup answers w n c (finishing c.standing n packets up steps down) =
          finishes_by setup answers w n packets up steps down c c.standing l good f.0 refl f.1 (of_there Sound w n c f.0 sound, of_there LanesWithin w n c f.0 within)
          (of_there (SoundAndIdle w) w n c f.0 idle).1 (of_there (SoundAndStopped w) w n c f.0 stopped).1 m in
          record {
            brings = did.brings;
            finished = λ q i x. finished c.current did.brings.after q i did.follows did.brings.rests.idle x;
            acknowledged = λ q i x. acknowledged c.current did.brings.after q i did.follows did.brings.rests.idle x;
          };
    }

-- A connection that drains has nothing to send: it was stopped, or it is being cleaned.
use Rattle.std.proofs.Common.{◌≡◌, ℕ, List, ◌∷◌, ◌-◌, Bool, true, false, refl, sym, ap, subst, ◌∙◌, eqb, Option, Some, None, option_map}
use Rattle.tds_session.specs.Answer.{Answers}
use Rattle.tds_world.specs.declared.event.Setup.{Setup}
use Rattle.tds_world.specs.declared.report.Place.TheVariants as place
use Rattle.tds_world.specs.Arrivals.{server_acts, client_acts, works_on, drained}
use Rattle.tds_world.specs.Caller.{cancels_by, sends_by}
use Rattle.tds_world.specs.Connection.{Connection, phase, is_idle, Standing, In, Cut}
use Rattle.tds_world.specs.Entries.{Up, Part, Down, Step, Acknowledgement}
use Rattle.tds_world.specs.Lane.{passed}
use Rattle.tds_world.specs.Lawful.{Lawful}
use Rattle.tds_world.specs.Phase.{Phase, Settled, Asked, Sending, Reading, Cancelling, phase_in, phase_of, is_settled}
use Rattle.tds_world.specs.Pool.{place_back}
use Rattle.tds_world.specs.Record.{Record, gives, acknowledges, when, if_numbered}
use Rattle.tds_world.specs.World.{World}
use Rattle.tds_world.proofs.events.Moves.{Free, Both, Invariant, MovesOver, Stand, GivesBack, Drains, Before, restood, unnoted, noted_on_top, by_noted_moves, AnyAt}
use Rattle.tds_world.proofs.events.Noted.{KeptIn}
use Rattle.tds_world.proofs.events.Standings.{cancels_stand_by, sends_stand}
use Rattle.tds_world.proofs.events.Worlds.{Any}
use Rattle.tds_world.proofs.flow.Busy.{busy_down}
use Rattle.tds_world.proofs.flow.Fates.{is_sending, step_leaves, cancelled_leaves}
use Rattle.tds_world.proofs.flow.Flow.{number_in, Sound, SoundWith}
use Rattle.tds_world.proofs.flow.Sound.{sound_moves}
use Rattle.tds_world.proofs.rest.Arriving.{works_phase, server_leaves_newest}

abbrev pub StopsIn : Standing → Phase → Type 0
StopsIn (In place.Draining) p = is_sending p ≡ false
StopsIn (In place.Free) p = Unit {0}
StopsIn (In (place.Kept t)) p = Unit {0}
StopsIn (In (place.Leased l)) p = Unit {0}
StopsIn Cut p = Unit {0}

abbrev pub Stops : Connection → Type 0
Stops c = StopsIn c.standing (phase c)

-- What stops one phase stops another one that sends nothing either.
stops_more : (s : Standing) (p r : Phase) → (is_sending p ≡ false → is_sending r ≡ false) → StopsIn s p → StopsIn s r
stops_more (In place.Draining) p r f h = f h
stops_more s p r f h = tt

leased_stops : (l : ℕ) (s : Standing) (p : Phase) → s ≡ In (place.Leased l) → StopsIn s p
leased_stops l s p e = rw e tt

back_stops : (b : Bool) (p : Phase) → is_sending p ≡ false → StopsIn (In (place_back b)) p
back_stops true p e = tt
back_stops false p e = e

drained_stops : (b : Bool) (s : Standing) (p : Phase) → StopsIn s p → StopsIn (drained b s) p
drained_stops true (In place.Draining) p h = tt
drained_stops true (In place.Free) p h = tt
drained_stops true (In (place.Kept t)) p h = tt
drained_stops true (In (place.Leased l)) p h = tt
drained_stops true Cut p h = tt
drained_stops false s p h = h

stood_stops : (w : World) (r : Stand) (c : Connection) → Before r c → Stops c → Stops (restood w r c)
stood_stops w (GivesBack l) c b h = back_stops (is_idle c) (phase c) b
stood_stops w (Drains n k) c b h = drained_stops (is_idle c) c.standing (phase c) h
stood_stops w r c b h = tt

-- It stands where it stood.
then_stops : (c d : Connection) → d.standing ≡ c.standing → (is_sending (phase c) ≡ false → is_sending (phase d) ≡ false) → Stops c → Stops d
then_stops c d e f h = subst (λ s. StopsIn s (phase d)) (sym e) (stops_more c.standing (phase c) (phase d) f h)

sending_phase : (c : Connection) (q : Record) → c.current ≡ Some q → is_sending (phase_of q) ≡ true → is_sending (phase c) ≡ true
sending_phase c q i s = ap (λ o. is_sending (phase_in o)) i ∙ s

cancels_stop_by : (p : Phase) (q : Record) (c : Connection) → is_sending (phase c) ≡ false → is_sending (phase (cancels_by p q c)) ≡ false
cancels_stop_by Settled q c h = h
cancels_stop_by Cancelling q c h = h
cancels_stop_by Asked q c h = cancelled_leaves q.out
cancels_stop_by Sending q c h = cancelled_leaves q.out
cancels_stop_by Reading q c h = cancelled_leaves q.out

server_same : (answers : Answers) (c : Connection) (e : Up) → (server_acts answers c e).standing ≡ c.standing
server_same answers c (Part r p) = refl
server_same answers c e = refl

client_same : (c : Connection) (e : Down) → (client_acts c e).standing ≡ c.standing
client_same c (Step r place s) = refl
client_same c (Acknowledgement r place changes) = refl

pub of_either : (P : Record → Type 0) (b : Bool) (f : Record → Record) (q : Record) → P (f q) → P q → P (when b f q)
of_either P true f q g h = g
of_either P false f q g h = h

client_stops_by : (o : Option Record) (e : Down) (c : Connection) → c.current ≡ o → is_settled (phase_in o) ≡ false → is_sending (phase_in o) ≡ false → is_sending (phase (client_acts c e)) ≡ false
client_stops_by None e c i b h = let z : true ≡ false = b in absurd (cc)
client_stops_by (Some p) (Step q n s) c i b h =
    subst (λ o. is_sending (phase_in (option_map (if_numbered q (gives s)) o)) ≡ false) (sym i)
    (of_either (λ x. is_sending (phase_of x) ≡ false) (eqb p.number q) (gives s) p (step_leaves p.fate s.last p.out b h) h)
client_stops_by (Some p) (Acknowledgement q n changes) c i b h =
    subst (λ o. is_sending (phase_in (option_map (if_numbered q acknowledges) o)) ≡ false) (sym i)
    (of_either (λ x. is_sending (phase_of x) ≡ false) (eqb p.number q) acknowledges p refl h)

client_stops : (c : Connection) (e : Down) (es : List Down) → SoundWith c c.to_server.waiting (e ∷ es) → is_sending (phase c) ≡ false → is_sending (phase (client_acts (record c { to_client = passed e c.to_client }) e)) ≡ false
client_stops c e es f h =
    client_stops_by c.current e (record c { to_client = passed e c.to_client }) refl
    (busy_down (phase c) (number_in c.current) c.answering c.to_server.waiting e es c.parts c.due f.0) h

true_false : {A : Type 0} (b : Bool) → b ≡ true → b ≡ false → A
true_false b e f = let z : true ≡ false = sym e ∙ f in absurd (cc)

stops_moves : (setup : Setup) (answers : Answers) → MovesOver setup answers AnyAt (λ w. SoundWith) (λ w c ups downs. Stops c)
stops_moves setup answers = record {
  stands = λ w r n c b f h. stood_stops w r c b h;
  asked = λ w lease n q c x s i f h. leased_stops lease c.standing _ s;
  sent = λ w last q c i s b f h. then_stops c (sends_by last (setup.packet_size - 8) q c) (sends_stand last (setup.packet_size - 8) q c) (λ z. true_false (is_sending (phase c)) (sending_phase c q i s) z) h;
  cancelled = λ w p q c i at f h. then_stops c (cancels_by p q c) (cancels_stand_by p q c) (cancels_stop_by p q c) h;
  worked = λ w c s ss is f h. then_stops c (works_on c (s ∷ ss)) refl (λ z. ap is_sending (works_phase c (s ∷ ss)) ∙ z) h;
  at_server = λ w c e es f h.
      let p : Connection = record c { to_server = passed e c.to_server } in
      then_stops c (server_acts answers p e) (server_same answers p e) (λ z. ap (λ o. is_sending (phase_in o)) (server_leaves_newest answers p e) ∙ z) h;
  at_client = λ w c e es f h.
      let p : Connection = record c { to_client = passed e c.to_client } in
      then_stops c (client_acts p e) (client_same p e) (client_stops c e es f) h;
  server_waits = λ w c es k m h. h;
  client_waits = λ w c es k m h. h;
}

-- Sound, and with nothing to send where it drains.
abbrev pub SoundAndStopped : World → Connection → Type 0
SoundAndStopped w c = Sound c × Stops c

abbrev SoundStops : World → Invariant
SoundStops w = Both SoundWith (λ c ups downs. Stops c)

pub stops_kept : (setup : Setup) (answers : Answers) → Lawful answers → KeptIn setup answers SoundAndStopped
stops_kept setup answers l =
    by_noted_moves setup answers SoundStops
    (noted_on_top setup answers AnyAt (λ w. SoundWith) (λ w c ups downs. Stops c) (unnoted setup answers Any Free SoundWith (sound_moves setup answers l))
    (record { grows = λ w v c u d a h. h; opened = λ w n. tt; moves = stops_moves setup answers }))

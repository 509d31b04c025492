-- A connection that is free or kept is idle.
use Rattle.std.proofs.Common.{◌≡◌, ℕ, List, [], ◌∷◌, ◌-◌, Bool, true, false, refl, subst, ◌∙◌, Some, ap}
use Rattle.tds_session.specs.Answer as answer
use Rattle.tds_session.specs.Answer.{Answers}
use Rattle.tds_world.specs.declared.event.Setup.{Setup}
use Rattle.tds_world.specs.declared.report.Place.TheVariants as place
use Rattle.tds_world.specs.Arrivals.{server_acts, client_acts, works_on, drained}
use Rattle.tds_world.specs.Caller.{sends_by, cancels_by}
use Rattle.tds_world.specs.Connection.{Connection, phase, is_idle, Standing, In, Cut}
use Rattle.tds_world.specs.Entries.{Up, Part, Down, Step, Acknowledgement}
use Rattle.tds_world.specs.Lane.{passed}
use Rattle.tds_world.specs.Lawful.{Lawful}
use Rattle.tds_world.specs.Phase.{Phase, Settled, Asked, Sending, Reading, Cancelling, phase_in, phase_of, is_settled}
use Rattle.tds_world.specs.Pool.{place_back}
use Rattle.tds_world.specs.Record.{Record}
use Rattle.tds_world.specs.World.{World}
use Rattle.tds_world.proofs.events.Moves.{Invariant, Free, FreeIn, Both, MovesOver, NotedOver, Stand, Lends, Resumes, GivesBack, Keeps, Abandons, Drains, Cuts, Before, restood, unnoted, noted_on_top, by_noted_moves, AnyAt}
use Rattle.tds_world.proofs.events.Noted.{KeptIn}
use Rattle.tds_world.proofs.events.Worlds.{Any}
use Rattle.tds_world.proofs.flow.Busy.{Rests, rests_any, busy_down, busy_due, is_open}
use Rattle.tds_world.proofs.flow.Flow.{FlowIn, number_in, Sound, SoundWith}
use Rattle.tds_world.proofs.flow.Sound.{sound_moves}

abbrev pub RestsIdle : Connection → Type 0
RestsIdle c = Rests c.standing (is_idle c)

-- At a place that may be busy.
leased_rests : (l : ℕ) (b : Bool) (s : Standing) → s ≡ In (place.Leased l) → Rests s b
leased_rests l b s e = rw e tt

server_rests : (answers : Answers) (c : Connection) (e : Up) → RestsIdle c → RestsIdle (server_acts answers (record c { to_server = passed e c.to_server }) e)
server_rests answers c (Part r p) h = h
server_rests answers c e h = h

-- Something waits, so it has no such place.
down_is_busy : (c : Connection) (e : Down) (es : List Down) → SoundWith c c.to_server.waiting (e ∷ es) → RestsIdle c → (b : Bool) → Rests c.standing b
down_is_busy c e es f h b =
    rests_any c.standing b (subst (Rests c.standing) (busy_down (phase c) (number_in c.current) c.answering c.to_server.waiting e es c.parts c.due f.0) h)

pub client_rests : (c : Connection) (e : Down) (es : List Down) → SoundWith c c.to_server.waiting (e ∷ es) → RestsIdle c → RestsIdle (client_acts (record c { to_client = passed e c.to_client }) e)
client_rests c (Step r place s) es f h = down_is_busy c (Step r place s) es f h _
client_rests c (Acknowledgement r place changes) es f h = down_is_busy c (Acknowledgement r place changes) es f h _

drained_rests : (b : Bool) (s : Standing) → Rests s b → Rests (drained b s) b
drained_rests true (In place.Draining) h = refl
drained_rests true (In place.Free) h = h
drained_rests true (In (place.Kept t)) h = h
drained_rests true (In (place.Leased l)) h = tt
drained_rests true Cut h = tt
drained_rests false s h = h

works_rest : (c : Connection) (due : List answer.Step) → c.due ≡ due → Sound c → RestsIdle c → RestsIdle (works_on c due)
works_rest c [] e f h = h
works_rest c (s ∷ ss) e f h =
    let g : FlowIn (phase c) (number_in c.current) c.answering c.to_server.waiting c.to_client.waiting c.parts (s ∷ ss) =
    subst (λ d. FlowIn (phase c) (number_in c.current) c.answering c.to_server.waiting c.to_client.waiting c.parts d) e f.0 in
    rests_any c.standing _ (subst (Rests c.standing) (busy_due (phase c) (number_in c.current) c.answering c.to_server.waiting c.to_client.waiting c.parts s ss g).busy h)

back_rests : (b : Bool) → Rests (In (place_back b)) b
back_rests true = refl
back_rests false = tt

-- It stands elsewhere.
stood_rests : (w : World) (r : Stand) (c : Connection) → Before r c → RestsIdle c → RestsIdle (restood w r c)
stood_rests w Lends c b h = tt
stood_rests w (Resumes t) c b h = tt
stood_rests w (GivesBack l) c b h = back_rests (is_idle c)
stood_rests w (Keeps l) c b h = b.0
stood_rests w (Abandons t) c b h = subst (λ s. Rests s (is_idle c)) b h
stood_rests w (Drains n k) c b h = drained_rests (is_idle c) c.standing h
stood_rests w (Cuts n) c b h = tt

-- Somebody waits on it before.
cancels_rest : (p : Phase) (q : Record) (c : Connection) → Rests c.standing (is_settled p) → RestsIdle c → RestsIdle (cancels_by p q c)
cancels_rest Settled q c z h = h
cancels_rest Cancelling q c z h = h
cancels_rest Asked q c z h = rests_any c.standing _ z
cancels_rest Sending q c z h = rests_any c.standing _ z
cancels_rest Reading q c z h = rests_any c.standing _ z

sends_rest : (b : Bool) (room : ℕ) (q : Record) (c : Connection) → Rests c.standing false → RestsIdle (sends_by b room q c)
sends_rest true room q c z = rests_any c.standing _ z
sends_rest false room q c z = rests_any c.standing _ z

newest_idle : (c : Connection) (q : Record) (b : Bool) → c.current ≡ Some q → is_settled (phase_of q) ≡ b → RestsIdle c → Rests c.standing b
newest_idle c q b i e h = subst (Rests c.standing) (ap (λ o. is_settled (phase_in o)) i ∙ e) h

rests_moves : (setup : Setup) (answers : Answers) → MovesOver setup answers AnyAt (λ w. SoundWith) (λ w c ups downs. RestsIdle c)
rests_moves setup answers = record {
  stands = λ w r n c b f h. stood_rests w r c b h;
  asked = λ w lease n q c x s i f h. leased_rests lease _ c.standing s;
  sent = λ w last q c i s b f h. sends_rest last (setup.packet_size - 8) q c (newest_idle c q false i (is_open (phase_of q) s) h);
  cancelled = λ w p q c i at f h. cancels_rest p q c (newest_idle c q (is_settled p) i (ap is_settled at) h) h;
  worked = λ w c s ss is f h. works_rest c (s ∷ ss) is f h;
  at_server = λ w c e es f h. server_rests answers c e h;
  at_client = λ w c e es f h. client_rests c e es f h;
  server_waits = λ w c es k m h. h;
  client_waits = λ w c es k m h. h;
}

-- A connection is sound, and idle where it rests.
abbrev pub SoundAndIdle : World → Connection → Type 0
SoundAndIdle w c = Sound c × RestsIdle c

abbrev pub SoundRests : World → Invariant
SoundRests w = Both SoundWith (λ c ups downs. RestsIdle c)

pub rests_noted : (setup : Setup) (answers : Answers) → Lawful answers → NotedOver setup answers AnyAt FreeIn SoundRests
rests_noted setup answers l =
    noted_on_top setup answers AnyAt (λ w. SoundWith) (λ w c ups downs. RestsIdle c) (unnoted setup answers Any Free SoundWith (sound_moves setup answers l))
    (record { grows = λ w v c u d a h. h; opened = λ w n. tt; moves = rests_moves setup answers })

pub rests_kept : (setup : Setup) (answers : Answers) → Lawful answers → KeptIn setup answers SoundAndIdle
rests_kept setup answers l = by_noted_moves setup answers SoundRests (rests_noted setup answers l)

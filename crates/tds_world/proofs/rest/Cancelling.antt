-- Without cleanings a connection drains only where its request was cancelled.
use Rattle.std.proofs.Common.{◌≡◌, ◌≢◌, ℕ, List, [], ◌∷◌, ◌++◌, ◌-◌, ◌+◌, min, Bool, true, false, refl, sym, ap, subst, ◌∙◌, eqb, Option, Some, None, option_map}
use Rattle.std.specs.List.{AllByRecursion}
use Rattle.std.specs.Prelude.{◌==◌, ◌||◌}
use Rattle.tds_request.specs.declared.request.Request.{Request}
use Rattle.tds_session.specs.Answer.{Answers}
use Rattle.tds_world.specs.declared.event.Event.{Event}
use Rattle.tds_world.specs.declared.event.Event.TheVariants as event
use Rattle.tds_world.specs.declared.event.Setup.{Setup}
use Rattle.tds_world.specs.declared.report.Place.TheVariants as place
use Rattle.tds_world.specs.Arrivals.{client_acts, drained, reach_client, to_client, to_server, works}
use Rattle.tds_world.specs.Caller.{cancels_by, sends_by, sends_last}
use Rattle.tds_world.specs.Connection.{Connection, Standing, In, Cut, phase, is_idle, up_underway, down_underway}
use Rattle.tds_world.specs.Entries.{Down, Step, Acknowledgement}
use Rattle.tds_world.specs.Events.{acts, asks_by, sends_in, world_after}
use Rattle.tds_world.specs.Lane.{passed}
use Rattle.tds_world.specs.Lawful.{Lawful}
use Rattle.tds_world.specs.Losses.{Loss, Nothing, Failed, Played, bringing, met, link_of, cuts_after, world_then, world_with, with_cuts}
use Rattle.tds_world.specs.Phase.{Phase, Settled, Asked, Sending, Reading, Cancelling, phase_in, phase_of, is_settled}
use Rattle.tds_world.specs.Pool.{Acted, Refuses, Does, abandons_at, gives_back_at, is_full, keeps_by}
use Rattle.tds_world.specs.Record.{Record, gives, acknowledges, if_numbered}
use Rattle.tds_world.specs.WithLosses.{CleanNothing}
use Rattle.tds_world.specs.World.{World, new_world, next_number}
use Rattle.tds_world.specs.rest.Rest.{AllCanCancel, CanCancel, IsNoCleaning}
use Rattle.tds_world.proofs.events.Moves.{Both, Invariant, KeptOver, Of, by_moves_of, cancels_stop, on_top}
use Rattle.tds_world.proofs.events.Places.{StandsFor}
use Rattle.tds_world.proofs.events.Standings.{reach_client_stands, reach_server_stands, sends_stand, works_stand}
use Rattle.tds_world.proofs.events.Words.{OfActed}
use Rattle.tds_world.proofs.events.Worlds.{Any, Kept, always_such, each_follows}
use Rattle.tds_world.proofs.flow.Busy.{busy_down}
use Rattle.tds_world.proofs.flow.Fates.{is_sending, is_stopped, cancelled_stops, step_stops, stopped_sends_none}
use Rattle.tds_world.proofs.flow.Flow.{number_in, Sound, SoundWith}
use Rattle.tds_world.proofs.flow.Sound.{sound_kept, sound_moves}
use Rattle.tds_world.proofs.plays.Worlds.{plain_worlds}
use Rattle.tds_world.proofs.rest.Arriving.{works_phase, server_leaves_newest}
use Rattle.tds_world.proofs.rest.Stopping.{of_either}

-- ---- What was cancelled stays so until something is asked

abbrev AsksNothing : Event → Type 0
AsksNothing (event.Ask l q) = ⊥
AsksNothing (event.Clean n) = ⊥
AsksNothing e = Unit {0}

abbrev Stopped : Invariant
Stopped c ups downs = is_stopped (phase c) ≡ true

client_stops_by : (o : Option Record) (e : Down) (c : Connection) → c.current ≡ o → is_settled (phase_in o) ≡ false → is_stopped (phase_in o) ≡ true → is_stopped (phase (client_acts c e)) ≡ true
client_stops_by None e c i b h = absurd (cc)
client_stops_by (Some p) (Step q n s) c i b h =
    subst (λ o. is_stopped (phase_in (option_map (if_numbered q (gives s)) o)) ≡ true) (sym i)
    (of_either (λ x. is_stopped (phase_of x) ≡ true) (eqb p.number q) (gives s) p (step_stops p.fate s.last p.out b h) h)
client_stops_by (Some p) (Acknowledgement q n changes) c i b h =
    subst (λ o. is_stopped (phase_in (option_map (if_numbered q acknowledges) o)) ≡ true) (sym i)
    (of_either (λ x. is_stopped (phase_of x) ≡ true) (eqb p.number q) acknowledges p refl h)

client_stops : (c : Connection) (e : Down) (es : List Down) → SoundWith c c.to_server.waiting (e ∷ es) → is_stopped (phase c) ≡ true → is_stopped (phase (client_acts (record c { to_client = passed e c.to_client }) e)) ≡ true
client_stops c e es f h =
    client_stops_by c.current e (record c { to_client = passed e c.to_client }) refl
    (busy_down (phase c) (number_in c.current) c.answering c.to_server.waiting e es c.parts c.due f.0) h

cancels_leave : (p : Phase) (q : Record) (c : Connection) → is_stopped (phase c) ≡ true → is_stopped (phase (cancels_by p q c)) ≡ true
cancels_leave Settled q c h = h
cancels_leave Cancelling q c h = h
cancels_leave Asked q c h = cancelled_stops q.out
cancels_leave Sending q c h = cancelled_stops q.out
cancels_leave Reading q c h = cancelled_stops q.out

-- What has something to send isn't stopped.
not_both : {A : Type 0} (c : Connection) (q : Record) → c.current ≡ Some q → is_sending (phase_of q) ≡ true → is_stopped (phase c) ≡ true → A
not_both c q i s h =
    let e : is_sending (phase c) ≡ true = ap (λ o. is_sending (phase_in o)) i ∙ s in
    let z : true ≡ false = sym e ∙ stopped_sends_none (phase c) h in absurd (cc)

stopped_moves : (setup : Setup) (answers : Answers) → KeptOver setup answers AsksNothing SoundWith Stopped
stopped_moves setup answers = record {
  opened = λ lease. refl;
  stands = λ c m s h. h;
  asked = λ number lease n q c x i f h. absurd x;
  sent = λ last q c i s l f h. not_both c q i s h;
  cancelled = λ p q c i a f h. cancels_leave p q c h;
  worked = λ c s ss i f h. ap is_stopped (works_phase c (s ∷ ss)) ∙ h;
  at_server = λ c e es f h.
      ap (λ o. is_stopped (phase_in o)) (server_leaves_newest answers (record c { to_server = passed e c.to_server }) e) ∙ h;
  at_client = λ c e es f h. client_stops c e es f h;
  server_waits = λ c es n m h. h;
  client_waits = λ c es n m h. h;
}

abbrev StaysStopped : Connection → Type 0
StaysStopped c = Of (Both SoundWith Stopped) c

stopped_kept : (setup : Setup) (answers : Answers) → Lawful answers → Kept setup answers AsksNothing StaysStopped
stopped_kept setup answers l =
    by_moves_of setup answers AsksNothing (Both SoundWith Stopped) (λ k lease x. x)
    (on_top setup answers AsksNothing SoundWith Stopped (sound_moves setup answers l) (stopped_moves setup answers))

-- ---- Nothing but giving it back makes a connection drain

abbrev DrainsNoMore : Standing → Standing → Type 0
DrainsNoMore s t = t ≡ In place.Draining → s ≡ In place.Draining

same_no_more : (s t : Standing) → t ≡ s → DrainsNoMore s t
same_no_more s t e = λ d. sym e ∙ d

kept_no_more : (idle nothing : Bool) (ticket : ℕ) (c : Connection) → OfActed (λ d. DrainsNoMore c.standing d.standing) (keeps_by idle nothing ticket c)
kept_no_more false nothing ticket c = tt
kept_no_more true true ticket c = tt
kept_no_more true false ticket c = λ d. absurd (cc)

abandoned_no_more : (s : Standing) (c : Connection) → OfActed (λ d. DrainsNoMore c.standing d.standing) (abandons_at s c)
abandoned_no_more (In p) c = λ d. absurd (cc)
abandoned_no_more Cut c = λ d. d

sent_no_more : (p : Phase) (room : ℕ) (o : Option Record) (c : Connection) → OfActed (λ d. DrainsNoMore c.standing d.standing) (sends_in p room o c)
sent_no_more Asked room (Some q) c = same_no_more c.standing (sends_by (sends_last room q) room q c).standing (sends_stand (sends_last room q) room q c)
sent_no_more Sending room (Some q) c = same_no_more c.standing (sends_by (sends_last room q) room q c).standing (sends_stand (sends_last room q) room q c)
sent_no_more Asked room None c = tt
sent_no_more Sending room None c = tt
sent_no_more Settled room o c = tt
sent_no_more Reading room o c = tt
sent_no_more Cancelling room o c = tt

drained_no_more : (idle : Bool) (s : Standing) → DrainsNoMore s (drained idle s)
drained_no_more true (In place.Draining) = λ d. refl
drained_no_more true (In place.Free) = λ d. d
drained_no_more true (In (place.Leased l)) = λ d. d
drained_no_more true (In (place.Kept t)) = λ d. d
drained_no_more true Cut = λ d. d
drained_no_more false s = λ d. d

down_no_more : (n : ℕ) (c : Connection) → DrainsNoMore c.standing (to_client n c).standing
down_no_more n c =
    let k : ℕ = c.to_client.part + min n (down_underway c) in
    let d : Connection = reach_client c c.to_client.waiting k in
    λ z. sym (reach_client_stands c c.to_client.waiting k) ∙ drained_no_more (is_idle d) d.standing z

-- ---- Where it drains it was cancelled

abbrev WasStopped : Connection → Type 0
WasStopped c = c.standing ≡ In place.Draining → is_stopped (phase c) ≡ true

both_acted : (a : Acted) (s : Standing) → OfActed (λ d. DrainsNoMore s d.standing) a → (s ≡ In place.Draining → OfActed StaysStopped a) → OfActed WasStopped a
both_acted (Refuses why) s f g = tt
both_acted (Does what d) s f g = λ e. (g (f e)).1

other : (setup : Setup) (answers : Answers) (w : World) (e : Event) (n : ℕ) (c : Connection) → Lawful answers → AsksNothing e → StandsFor e c.standing → Sound c → WasStopped c → OfActed (λ d. DrainsNoMore c.standing d.standing) (acts setup answers w e n c) → OfActed WasStopped (acts setup answers w e n c)
other setup answers w e n c l x s f h g =
    both_acted (acts setup answers w e n c) c.standing g (λ z. (stopped_kept setup answers l).acted w e n c x s (f, h z))

back : (s : Standing) (c : Connection) → WasStopped c → OfActed WasStopped (gives_back_at s c)
back (In p) c h = λ z. cancels_stop c
back Cut c h = h

asked : (idle : Bool) (number lease n : ℕ) (q : Request) (c : Connection) → c.standing ≡ In (place.Leased lease) → OfActed WasStopped (asks_by idle number lease n q c)
asked true number lease n q c s = λ z. let y : In (place.Leased lease) ≡ In place.Draining = sym s ∙ z in absurd (cc)
asked false number lease n q c s = tt

acted : (setup : Setup) (answers : Answers) (w : World) (e : Event) (n : ℕ) (c : Connection) → Lawful answers → IsNoCleaning e → StandsFor e c.standing → Sound c → WasStopped c → OfActed WasStopped (acts setup answers w e n c)
acted setup answers w event.Lease n c l x s f h = λ z. absurd (cc)
acted setup answers w (event.Resume t) n c l x s f h = λ z. absurd (cc)
acted setup answers w (event.GiveBack k) n c l x s f h = back c.standing c h
acted setup answers w (event.Keep k) n c l x s f h =
    other setup answers w (event.Keep k) n c l tt s f h (kept_no_more (is_idle c) (c.heard == 0 || is_full c.mark) (next_number w.tickets) c)
acted setup answers w (event.Abandon t) n c l x s f h =
    other setup answers w (event.Abandon t) n c l tt s f h (abandoned_no_more c.standing c)
acted setup answers w (event.Clean i) n c l x s f h = absurd x
acted setup answers w (event.Ask k q) n c l x s f h = asked (is_idle c) (next_number w.asked_on) k n q c s
acted setup answers w (event.Send k) n c l x s f h =
    other setup answers w (event.Send k) n c l tt s f h (sent_no_more (phase c) (setup.packet_size - 8) c.current c)
acted setup answers w (event.Cancel k) n c l x s f h = λ z. cancels_stop c
acted setup answers w (event.Work i) n c l x s f h =
    other setup answers w (event.Work i) n c l tt s f h (same_no_more c.standing (works c).standing (works_stand c c.due))
acted setup answers w (event.ToServer i m) n c l x s f h =
    other setup answers w (event.ToServer i m) n c l tt s f h
    (same_no_more c.standing (to_server answers m c).standing (reach_server_stands answers c c.to_server.waiting (c.to_server.part + min m (up_underway c))))
acted setup answers w (event.ToClient i m) n c l x s f h =
    other setup answers w (event.ToClient i m) n c l tt s f h (down_no_more m c)
acted setup answers w (event.Cut i) n c l x s f h = λ z. absurd (cc)
acted setup answers w event.RestartServer n c l x s f h = tt
acted setup answers w event.RestartClient n c l x s f h = tt

abbrev SoundAndCancelled : Connection → Type 0
SoundAndCancelled c = Sound c × WasStopped c

and_acted : (a : Acted) → OfActed Sound a → OfActed WasStopped a → OfActed SoundAndCancelled a
and_acted (Refuses why) f g = tt
and_acted (Does what d) f g = (f, g)

cancelled_kept : (setup : Setup) (answers : Answers) → Lawful answers → Kept setup answers IsNoCleaning SoundAndCancelled
cancelled_kept setup answers l = let k : Kept setup answers Any Sound = sound_kept setup answers l in record {
  opened = λ lease. (k.opened lease, λ z. absurd (cc));
  acted = λ w e n c x s h. and_acted (acts setup answers w e n c) (k.acted w e n c tt s h.0) (acted setup answers w e n c l x s h.0 h.1);
  was_cut = λ c h. (k.was_cut c h.0, λ z. absurd (cc));
}

stopped_reads_none : (p : Phase) → is_stopped p ≡ true → p ≢ Reading
stopped_reads_none Settled e = λ r. absurd (cc)
stopped_reads_none Cancelling e = λ r. absurd (cc)
stopped_reads_none p e = absurd (cc)

all_can : (setup : Setup) (answers : Answers) (events : List Event) → Lawful answers → AllByRecursion IsNoCleaning events → AllCanCancel (world_after setup answers events new_world)
all_can setup answers events l x =
    each_follows SoundAndCancelled (λ c. CanCancel c.standing (phase c)) (world_after setup answers events new_world).connections
    (λ c h z. stopped_reads_none (phase c) (h.1 z))
    (always_such SoundAndCancelled IsNoCleaning setup answers events (cancelled_kept setup answers l) x)

-- ---- Over links that fail

bringing_cleans_none : (k : ℕ) (e : Event) → IsNoCleaning e → IsNoCleaning (bringing k e)
bringing_cleans_none k (event.Clean n) x = absurd x
bringing_cleans_none k event.Lease x = tt
bringing_cleans_none k e x = tt

plainly_clean_none : (l : Loss) (link : Option ℕ) (e : Event) (es : List Event) → IsNoCleaning e → AllByRecursion IsNoCleaning es → AllByRecursion IsNoCleaning ((met l e ∷ cuts_after l link) ++ es)
plainly_clean_none Nothing link e es x h = (x, h)
plainly_clean_none (Failed k) None e es x h = (bringing_cleans_none k e x, h)
plainly_clean_none (Failed k) (Some n) e es x h = (bringing_cleans_none k e x, (tt, h))

plain_clean_none : (setup : Setup) (answers : Answers) (ps : List Played) (w : World) → CleanNothing ps → AllByRecursion IsNoCleaning (with_cuts setup answers ps w)
plain_clean_none setup answers [] w x = tt
plain_clean_none setup answers (p ∷ ps) w x =
    let v : World = world_then setup answers w p in
    plainly_clean_none p.loss (link_of setup w p.event) p.event (with_cuts setup answers ps v) x.0 (plain_clean_none setup answers ps v x.1)

pub all_can_cancel : (setup : Setup) (answers : Answers) → Lawful answers → (ps : List Played) → CleanNothing ps → AllCanCancel (world_with setup answers ps new_world)
all_can_cancel setup answers l ps x =
    subst AllCanCancel (sym (plain_worlds setup answers ps new_world))
    (all_can setup answers (with_cuts setup answers ps new_world) l (plain_clean_none setup answers ps new_world x))

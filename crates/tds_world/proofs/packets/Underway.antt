-- Few bytes are underway to a client: each event sends at most one step, and one acknowledgement can
-- wait behind the steps.
use Rattle.std.proofs.Common.{◌≡◌, ◌≤◌, ◌*◌, ℕ, suc, List, [], ◌∷◌, ◌++◌, ◌-◌, ◌+◌, inl, inr, Bool, true, false, length, flat_map, ltb, min, refl, sym, ap, subst, Option, Some, None, arith}
use Rattle.std.proofs.lemmas.List.{length-append}
use Rattle.std.specs.List.{AllByRecursion}
use Rattle.std.specs.Prelude.{◌==◌, ◌||◌}
use Rattle.tds_request.specs.declared.request.Request.{Request}
use Rattle.tds_session.specs.Answer as answer
use Rattle.tds_session.specs.Answer.{Answers}
use Rattle.tds_token.specs.declared.env_change.EnvChange.{EnvChange}
use Rattle.tds_world.specs.declared.event.Event.{Event}
use Rattle.tds_world.specs.declared.event.Event.TheVariants as event
use Rattle.tds_world.specs.declared.event.Setup.{Setup}
use Rattle.tds_world.specs.declared.outcome.Refusal.TheVariants as refusal
use Rattle.tds_world.specs.Arrivals.{server_acts, client_acts, reach_server, reach_client, works_on, acknowledged_at}
use Rattle.tds_world.specs.Caller.{sends_last, sends_by, cancels_in, cancels_by}
use Rattle.tds_world.specs.Cleaning.{can_clean}
use Rattle.tds_world.specs.Connection.{Connection, phase, is_idle, Standing, In, Cut, is_cut, up_underway, down_underway}
use Rattle.tds_world.specs.Entries.{Up, Part, End, Drop, Attention, Down, Step, Acknowledgement, Packet, packet_bytes, up_bytes, down_bytes}
use Rattle.tds_world.specs.Events.{about, acts, asks_by, cleans_by, sends_in, happens_at, happens, world_after}
use Rattle.tds_world.specs.Lane.{passed, with_waiting}
use Rattle.tds_world.specs.Lawful.{Lawful}
use Rattle.tds_world.specs.Phase.{Phase, Settled, Asked, Sending, Reading, Cancelling, phase_of}
use Rattle.tds_world.specs.Pool.{is_free, gives_back_at, abandons_at, keeps_by, is_full, opens}
use Rattle.tds_world.specs.Record.{Record}
use Rattle.tds_world.specs.Sessions.{FitsStep, FitsAcknowledgement, IsInRange, StayInRange}
use Rattle.tds_world.specs.Steps.{OfSteps, OfAcknowledgements}
use Rattle.tds_world.specs.limits.Underway.{FewToClients}
use Rattle.tds_world.specs.World.{World, Found, Missing, Here, Opens, new_world, numbered, next_number, uncut_in}
use Rattle.tds_world.proofs.events.Happens.{happens_cases}
use Rattle.tds_world.proofs.events.Words.{OfSome, OfFound, OfActed, either}
use Rattle.tds_world.proofs.events.Worlds.{about_has, at_number, settled, all_cut, always, each_follows, each_both}
use Rattle.tds_world.proofs.flow.Flow.{FlowIn, StepsAndDue, OnlySteps, EndsInAcknowledgement, number_in, Sound}
use Rattle.tds_world.proofs.flow.Sound.{sound_kept}
use Rattle.tds_world.proofs.packets.Sessions.{all_in_range}

-- ---- How many steps wait

pub step_count : List Down → ℕ
step_count [] = 0
step_count (Step r place s ∷ es) = suc (step_count es)
step_count (Acknowledgement r place changes ∷ es) = step_count es

one_more : (r place : ℕ) (s : answer.Step) (es : List Down) → step_count (es ++ Step r place s ∷ []) ≡ suc (step_count es)
unfolding step_count
one_more r place s [] = refl
one_more r place s (Step q i t ∷ es) = ap suc (one_more r place s es)
one_more r place s (Acknowledgement q i changes ∷ es) = one_more r place s es

no_more : (r place : ℕ) (changes : List EnvChange) (es : List Down) → step_count (es ++ Acknowledgement r place changes ∷ []) ≡ step_count es
unfolding step_count
no_more r place changes [] = refl
no_more r place changes (Step q i t ∷ es) = ap suc (no_more r place changes es)
no_more r place changes (Acknowledgement q i others ∷ es) = no_more r place changes es

behind : (n : ℕ) (e : Down) (es : List Down) → step_count (e ∷ es) ≤ n → step_count es ≤ n
unfolding step_count
behind n (Step r place s) es h = omega (arith, h)
behind n (Acknowledgement r place changes) es h = h

abbrev pub AtMost : ℕ → Connection → Type 0
AtMost n c = step_count c.to_client.waiting ≤ n

more : (n : ℕ) (es : List Down) → step_count es ≤ n → step_count es ≤ suc n
more n es h = omega (arith, h)

-- ---- What each event sends

server_sends : (answers : Answers) (n : ℕ) (c : Connection) (e : Up) → AtMost n c → AtMost n (server_acts answers c e)
server_sends answers n c (Part r p) h = h
server_sends answers n c (End r a p) h = h
server_sends answers n c (Drop r p) h = h
server_sends answers n c (Attention r) h = subst (λ k. k ≤ n) (sym (no_more r (acknowledged_at c.due c.taken) _ c.to_client.waiting)) h

reach_server_sends : (answers : Answers) (n : ℕ) (c : Connection) (es : List Up) (k : ℕ) → AtMost n c → AtMost n (reach_server answers c es k)
reach_server_sends answers n c [] k h = h
reach_server_sends answers n c (e ∷ es) k h =
    let d : Connection = server_acts answers (record c { to_server = passed e c.to_server }) e in
    either (AtMost n) (ltb k (length (up_bytes e))) (record c { to_server = with_waiting (e ∷ es) k c.to_server }) (reach_server answers d es (k - length (up_bytes e))) h
    (reach_server_sends answers n d es (k - length (up_bytes e)) (server_sends answers n (record c { to_server = passed e c.to_server }) e h))

reach_client_leaves : (n : ℕ) (c : Connection) (es : List Down) (k : ℕ) → step_count es ≤ n → AtMost n (reach_client c es k)
reach_client_leaves n c [] k h = h
reach_client_leaves n c (e ∷ es) k h =
    let d : Connection = client_acts (record c { to_client = passed e c.to_client }) e in
    either (AtMost n) (ltb k (length (down_bytes e))) (record c { to_client = with_waiting (e ∷ es) k c.to_client }) (reach_client d es (k - length (down_bytes e))) h
    (reach_client_leaves n d es (k - length (down_bytes e)) (behind n e es h))

works_send : (n : ℕ) (c : Connection) (due : List answer.Step) → AtMost n c → AtMost (suc n) (works_on c due)
works_send n c [] h = more n c.to_client.waiting h
works_send n c (s ∷ ss) h =
    let count : step_count (c.to_client.waiting ++ Step c.answering (c.taken + 1) s ∷ []) ≡ suc (step_count c.to_client.waiting) = one_more c.answering (c.taken + 1) s c.to_client.waiting in
    omega (arith, count, h)

cancels_send : (n : ℕ) (p : Phase) (q : Record) (c : Connection) → AtMost n c → AtMost n (cancels_by p q c)
cancels_send n Settled q c h = h
cancels_send n p q c h = h

cancels_send_in : (n : ℕ) (o : Option Record) (c : Connection) → AtMost n c → AtMost n (cancels_in o c)
cancels_send_in n None c h = h
cancels_send_in n (Some q) c h = cancels_send n (phase_of q) q c h

back : (n : ℕ) (s : Standing) (c : Connection) → AtMost n c → OfActed (AtMost n) (gives_back_at s c)
back n (In p) c h = cancels_send_in n c.current c h
back n Cut c h = h

abandoned : (n : ℕ) (s : Standing) (c : Connection) → AtMost n c → OfActed (AtMost n) (abandons_at s c)
abandoned n (In p) c h = h
abandoned n Cut c h = h

kept : (n : ℕ) (idle nothing : Bool) (ticket : ℕ) (c : Connection) → AtMost n c → OfActed (AtMost n) (keeps_by idle nothing ticket c)
kept n false nothing ticket c h = tt
kept n true true ticket c h = tt
kept n true false ticket c h = h

asked : (n : ℕ) (b : Bool) (number lease k : ℕ) (q : Request) (c : Connection) → AtMost n c → OfActed (AtMost n) (asks_by b number lease k q c)
asked n true number lease k q c h = h
asked n false number lease k q c h = tt

sends : (n : ℕ) (b : Bool) (room : ℕ) (q : Record) (c : Connection) → AtMost n c → AtMost n (sends_by b room q c)
sends n true room q c h = h
sends n false room q c h = h

sent : (n : ℕ) (p : Phase) (room : ℕ) (o : Option Record) (c : Connection) → AtMost n c → OfActed (AtMost n) (sends_in p room o c)
sent n Asked room (Some q) c h = sends n (sends_last room q) room q c h
sent n Sending room (Some q) c h = sends n (sends_last room q) room q c h
sent n Asked room None c h = tt
sent n Sending room None c h = tt
sent n Settled room o c h = tt
sent n Reading room o c h = tt
sent n Cancelling room o c h = tt

cleaned : (n : ℕ) (free can : Bool) (room lease number k : ℕ) (c : Connection) → AtMost n c → OfActed (AtMost n) (cleans_by free can room lease number k c)
cleaned n false can room lease number k c h = tt
cleaned n true false room lease number k c h = tt
cleaned n true true room lease number k c h = h

acted : (setup : Setup) (answers : Answers) (n : ℕ) (w : World) (e : Event) (k : ℕ) (c : Connection) → AtMost n c → AtMost (suc n) c → OfActed (AtMost (suc n)) (acts setup answers w e k c)
acted setup answers n w event.Lease k c f h = h
acted setup answers n w (event.Resume t) k c f h = h
acted setup answers n w (event.GiveBack l) k c f h = back (suc n) c.standing c h
acted setup answers n w (event.Keep l) k c f h = kept (suc n) (is_idle c) (c.heard == 0 || is_full c.mark) (next_number w.tickets) c h
acted setup answers n w (event.Abandon t) k c f h = abandoned (suc n) c.standing c h
acted setup answers n w (event.Clean i) k c f h =
    cleaned (suc n) (is_free c.standing) (can_clean (setup.packet_size - 8) (next_number w.leases) (next_number w.asked_on) k c) (setup.packet_size - 8) (next_number w.leases) (next_number w.asked_on) k c h
acted setup answers n w (event.Ask l q) k c f h = asked (suc n) (is_idle c) (next_number w.asked_on) l k q c h
acted setup answers n w (event.Send l) k c f h = sent (suc n) (phase c) (setup.packet_size - 8) c.current c h
acted setup answers n w (event.Cancel l) k c f h = cancels_send_in (suc n) c.current c h
acted setup answers n w (event.Work i) k c f h = works_send n c c.due f
acted setup answers n w (event.ToServer i m) k c f h = reach_server_sends answers (suc n) c c.to_server.waiting (c.to_server.part + min m (up_underway c)) h
acted setup answers n w (event.ToClient i m) k c f h = reach_client_leaves (suc n) c c.to_client.waiting (c.to_client.part + min m (down_underway c)) h
acted setup answers n w (event.Cut i) k c f h = h
acted setup answers n w event.RestartServer k c f h = tt
acted setup answers n w event.RestartClient k c f h = tt

-- ---- After any events

abbrev pub Few : ℕ → World → Type 0
Few n w = AllByRecursion (AtMost n) w.connections

few_more : (n : ℕ) (w : World) → Few n w → Few (suc n) w
few_more n w h = each_follows (AtMost n) (AtMost (suc n)) w.connections (λ c k. more n c.to_client.waiting k) h

new_few : (n lease : ℕ) → step_count [] ≤ n
unfolding step_count
new_few n lease = omega arith

found : (setup : Setup) (answers : Answers) (n : ℕ) (e : Event) (w : World) (f : Found) → OfFound (AtMost n) f → Few (suc n) w → Few (suc n) (happens_at setup answers e w f).1
found setup answers n e w (Missing why) g h = h
found setup answers n e w (Here k c) g h = settled (AtMost (suc n)) e k w (acts setup answers w e k c) (acted setup answers n w e k c g (more n c.to_client.waiting g)) h
found setup answers n e w (Opens k) g h = settled (AtMost (suc n)) event.Lease k w (opens setup.on_attention (next_number w.leases) k) (new_few (suc n) k) h

at_event : (setup : Setup) (answers : Answers) (n : ℕ) (e : Event) (w : World) → Few n w → Few (suc n) (happens_at setup answers e w (about setup w e)).1
at_event setup answers n e w h = found setup answers n e w (about setup w e) (about_has (AtMost n) setup w e h) (few_more n w h)

pub happens_few_waits : (setup : Setup) (answers : Answers) (n : ℕ) (e : Event) (w : World) → Few n w → Few (suc n) (happens setup answers e w).1
happens_few_waits setup answers n e w h =
    happens_cases setup answers w (λ e r. Few (suc n) r.1)
    (all_cut (AtMost (suc n)) w.connections (λ c k. k) (few_more n w h))
    (all_cut (AtMost (suc n)) w.connections (λ c k. k) (few_more n w h))
    (λ e. at_event setup answers n e w h) e

after_few : (setup : Setup) (answers : Answers) (n : ℕ) (events : List Event) (w : World) → Few n w → Few (n + length events) (world_after setup answers events w)
after_few setup answers n [] w h =
    let same : n ≡ n + 0 = omega arith in subst (λ k. Few k w) same h
after_few setup answers n (e ∷ es) w h =
    let same : suc n + length es ≡ n + suc (length es) = omega arith in
    subst (λ k. Few k (world_after setup answers es (happens setup answers e w).1)) same
    (after_few setup answers (suc n) es (happens setup answers e w).1 (happens_few_waits setup answers n e w h))

-- ---- One acknowledgement at most

steps_due : (r : ℕ) (es : List Down) (due : List answer.Step) → StepsAndDue r es due → length es ≤ suc (step_count es)
unfolding step_count
steps_due r [] due h = omega arith
steps_due r (Step q i s ∷ es) due h = by_last s.last refl (λ e. steps_due r es due (h.2 e))
  where
    by_last : (b : Bool) → s.last ≡ b → (s.last ≡ false → length es ≤ suc (step_count es)) → suc (length es) ≤ suc (suc (step_count es))
    by_last true e k = let none : length es ≡ 0 = ap (λ (xs : List Down). length xs) (h.1 e).0 in omega (arith, none)
    by_last false e k = omega (arith, k e)
steps_due r (Acknowledgement q i changes ∷ es) due h = absurd h

only_steps : (r : ℕ) (es : List Down) → OnlySteps r es → length es ≤ suc (step_count es)
unfolding step_count
only_steps r [] h = omega arith
only_steps r (Step q i s ∷ es) h = omega (arith, only_steps r es h.1)
only_steps r (Acknowledgement q i changes ∷ es) h = absurd h

one_acknowledgement : (r : ℕ) (es : List Down) → EndsInAcknowledgement r es → length es ≤ suc (step_count es)
unfolding step_count
one_acknowledgement r [] h = absurd h
one_acknowledgement r (Step q i s ∷ es) h = omega (arith, one_acknowledgement r es h.1)
one_acknowledgement r (Acknowledgement q i changes ∷ es) h = let none : length es ≡ 0 = ap (λ (xs : List Down). length xs) h.1 in omega (arith, none)

none_waits : (es : List Down) → es ≡ [] → length es ≤ suc (step_count es)
none_waits es e = let none : length es ≡ 0 = ap (λ (xs : List Down). length xs) e in omega (arith, none)

waits : (p : Phase) (r a : ℕ) (ups : List Up) (downs : List Down) (parts : List ℕ) (due : List answer.Step) → FlowIn p r a ups downs parts due → length downs ≤ suc (step_count downs)
waits Settled r a ups downs parts due f = none_waits downs f.1
waits Asked r a ups downs parts due f = none_waits downs f.1
waits Sending r a ups downs parts due f = none_waits downs f.1
waits Reading r a ups downs parts due f = elim f [
  | inl h ↦ none_waits downs h.1
  | inr h ↦ steps_due r downs due h.3
]
waits Cancelling r a ups downs parts due f = elim f [
  | inl h ↦ none_waits downs h.1
  | inr k ↦ elim k [
    | inl h ↦ only_steps r downs h.2
    | inr h ↦ one_acknowledgement r downs h.3
  ]
]

-- ---- Their bytes

bytes_of : (p : Packet) → length (packet_bytes p) ≡ 8 + length p.body
bytes_of p = omega arith

-- Each of them fits a packet.
abbrev Fit : List Down → Type 0
Fit es = OfSteps FitsStep es × OfAcknowledgements FitsAcknowledgement es

entry_fits : (e : Down) (es : List Down) → Fit (e ∷ es) → length (down_bytes e) ≤ 512
entry_fits (Step r place s) es h = omega (arith, h.0.0.most)
entry_fits (Acknowledgement r place changes) es h = omega (arith, h.1.0.most)

rest_fits : (e : Down) (es : List Down) → Fit (e ∷ es) → Fit es
rest_fits (Step r place s) es h = (h.0.1, h.1)
rest_fits (Acknowledgement r place changes) es h = (h.0, h.1.1)

bytes_fit : (es : List Down) → Fit es → length (flat_map down_bytes es) ≤ 512 * length es
bytes_fit [] h = omega arith
bytes_fit (e ∷ es) h =
    omega (arith, length-append (down_bytes e) (flat_map down_bytes es), entry_fits e es h, bytes_fit es (rest_fits e es h))

of_waiting : (arrived waiting : List Down) → Fit (arrived ++ waiting) → Fit waiting
of_waiting [] waiting h = h
of_waiting (e ∷ es) waiting h = of_waiting es waiting (rest_fits e (es ++ waiting) h)

few_bytes : (n : ℕ) (c : Connection) → AtMost n c → Sound c → IsInRange c → down_underway c ≤ 512 * suc n
few_bytes n c a f r =
    omega (
      arith,
      a,
      waits (phase c) (number_in c.current) c.answering c.to_server.waiting c.to_client.waiting c.parts c.due f.0,
      bytes_fit c.to_client.waiting (of_waiting c.to_client.arrived c.to_client.waiting (r.sent, r.told)),
    )

-- ---- The law

-- Where so few steps wait after any events, few bytes do.
pub few_wait : (setup : Setup) (answers : Answers) → Lawful answers → StayInRange answers → (n : ℕ) (events : List Event) → Few n (world_after setup answers events new_world) → FewToClients n (world_after setup answers events new_world)
few_wait setup answers l a n events few =
    let w : World = world_after setup answers events new_world in
    each_follows (λ c. AtMost n c × (Sound c × IsInRange c)) (λ c. down_underway c ≤ 512 * suc n) w.connections
    (λ c h. few_bytes n c h.0 h.1.0 h.1.1)
    (each_both (AtMost n) (λ c. Sound c × IsInRange c) w.connections few
    (each_both Sound IsInRange w.connections (always Sound setup answers events (sound_kept setup answers l)) (all_in_range setup answers l a events)))

pub few_to_clients : (setup : Setup) (answers : Answers) → Lawful answers → StayInRange answers → (events : List Event) → FewToClients (length events) (world_after setup answers events new_world)
few_to_clients setup answers l a events =
    let none : 0 + length events ≡ length events = omega arith in
    few_wait setup answers l a (length events) events
    (subst (λ n. Few n (world_after setup answers events new_world)) none (after_few setup answers 0 events new_world tt))

-- ---- A cut sends none

pub new_few_waits : Few 0 new_world
new_few_waits = tt

cut_found : (setup : Setup) (answers : Answers) (n k : ℕ) (w : World) (o : Option Connection) → OfSome (AtMost n) o → Few n w → Few n (happens_at setup answers (event.Cut k) w (uncut_in refusal.UnknownConnection k o)).1
cut_found setup answers n k w None g h = h
cut_found setup answers n k w (Some c) g h =
    either (λ f. Few n (happens_at setup answers (event.Cut k) w f).1) (is_cut c.standing) (Missing refusal.UnknownConnection) (Here k c) h
    (settled (AtMost n) (event.Cut k) k w (acts setup answers w (event.Cut k) k c) g h)

pub cut_few_waits : (setup : Setup) (answers : Answers) (n k : ℕ) (w : World) → Few n w → Few n (happens setup answers (event.Cut k) w).1
cut_few_waits setup answers n k w h = cut_found setup answers n k w (numbered w.connections k) (at_number (AtMost n) w.connections k h) h

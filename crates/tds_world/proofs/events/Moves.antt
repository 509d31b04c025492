-- What each event does to a connection is made of a few moves. What every move keeps, every event keeps.
use Rattle.std.proofs.Common.{◌≡◌, ◌≤◌, ◌-◌, ◌+◌, ℕ, List, [], ◌∷◌, Bool, true, false, length, ltb, min, refl, sym, ap, ◌∙◌, inl, inr, Option, Some, None, flat_map, arith}
use Rattle.std.proofs.lemmas.Bool.Decides.{nat_tests}
use Rattle.std.proofs.lemmas.List.{length-append}
use Rattle.std.specs.Prelude.{◌==◌, ◌||◌, ◌&&◌}
use Rattle.tds_packet.specs.declared.status.Reset.{Reset}
use Rattle.tds_packet.specs.declared.status.Reset.TheVariants.{Full, KeepTransaction}
use Rattle.tds_request.specs.declared.request.Request.{Request}
use Rattle.tds_session.specs.Answer as answer
use Rattle.tds_session.specs.Answer.{Answers}
use Rattle.tds_packet.specs.Resets.{strongest}
use Rattle.tds_world.specs.declared.event.Event.{Event}
use Rattle.tds_world.specs.declared.event.Event.TheVariants as event
use Rattle.tds_world.specs.declared.event.Setup.{Setup}
use Rattle.tds_world.specs.declared.report.Place.TheVariants as place
use Rattle.tds_world.specs.Arrivals.{server_acts, client_acts, reach_server, reach_client, works, works_on, to_server, to_client, drained}
use Rattle.tds_world.specs.Caller.{asks, cancels_in, cancels_by, cancels, sends_by, sends_last}
use Rattle.tds_world.specs.Cleaning.{clean_request, cleaning_record, cleans}
use Rattle.tds_world.specs.Connection.{Connection, new_connection, phase, is_idle, Standing, In, Cut, up_underway, down_underway, cut}
use Rattle.tds_world.specs.Entries.{Up, up_bytes, Down, down_bytes}
use Rattle.tds_world.specs.Events.{acts, asks_by, cleans_by, sends_in, notes}
use Rattle.tds_world.specs.Lane.{passed, with_waiting}
use Rattle.tds_world.specs.Phase.{Phase, Settled, Asked, Sending, Reading, Cancelling, phase_of, phase_in}
use Rattle.tds_world.specs.Pool.{is_free, gives_back_at, abandons_at, keeps_by, is_full, place_back}
use Rattle.tds_world.specs.Record.{Record}
use Rattle.tds_world.specs.World.{World, new_world, next_number, put_numbered}
use Rattle.tds_world.proofs.events.Adds.{Adds, notes_add, cleaning_adds}
use Rattle.tds_world.proofs.events.Noted.{KeptIn, world_with}
use Rattle.tds_world.proofs.events.Places.{StandsFor, StandsAt, free_stands}
use Rattle.tds_world.proofs.events.Words.{OfActed, by_test}
use Rattle.tds_world.proofs.events.Worlds.{Any, Kept}
use Rattle.tds_world.proofs.flow.Fates.{is_sending, is_stopped, cancelled_stops, stopped_sends_none}

-- What is said of a connection on which these entries wait, either way.
abbrev pub Invariant : Type 1
Invariant = Connection → List Up → List Down → Type 0

abbrev pub Of : Invariant → Connection → Type 0
Of P c = P c c.to_server.waiting c.to_client.waiting

-- Nothing is said.
abbrev pub Free : Invariant
Free c ups downs = Unit {0}

abbrev pub Both : Invariant → Invariant → Invariant
Both Q P c ups downs = Q c ups downs × P c ups downs

-- ---- The moves

-- What such an invariant owes for each move, where another one holds already, for events of this kind.
pub record KeptOver (setup : Setup) (answers : Answers) (E : Event → Type 0) (Q P : Invariant) : Type 0 where
  pub opened : (lease : ℕ) → Of P (new_connection setup.on_attention (place.Leased lease))
  -- it stands elsewhere, under this mark
  pub stands : (c : Connection) (mark : Option Reset) (s : Standing) → Of P c → Of P (record c { mark = mark; standing = s })
  pub asked : (number lease n : ℕ) (q : Request) (c : Connection) → E (event.Ask lease q) → is_idle c ≡ true → Of Q c → Of P c → Of P (asks number lease n q c)
  pub sent : (last : Bool) (q : Record) (c : Connection) → c.current ≡ Some q → is_sending (phase_of q) ≡ true → sends_last (setup.packet_size - 8) q ≡ last → Of Q c → Of P c → Of P (sends_by last (setup.packet_size - 8) q c)
  pub cancelled : (p : Phase) (q : Record) (c : Connection) → c.current ≡ Some q → phase_of q ≡ p → Of Q c → Of P c → Of P (cancels_by p q c)
  pub worked : (c : Connection) (s : answer.Step) (ss : List answer.Step) → c.due ≡ s ∷ ss → Of Q c → Of P c → Of P (works_on c (s ∷ ss))
  -- an entry arrives, and the others still wait
  pub at_server : (c : Connection) (e : Up) (es : List Up) → Q c (e ∷ es) c.to_client.waiting → P c (e ∷ es) c.to_client.waiting → P (server_acts answers (record c { to_server = passed e c.to_server }) e) es (server_acts answers (record c { to_server = passed e c.to_server }) e).to_client.waiting
  pub at_client : (c : Connection) (e : Down) (es : List Down) → Q c c.to_server.waiting (e ∷ es) → P c c.to_server.waiting (e ∷ es) → P (client_acts (record c { to_client = passed e c.to_client }) e) (client_acts (record c { to_client = passed e c.to_client }) e).to_server.waiting es
  -- no more has come, and what has come is no more than there is
  pub server_waits : (c : Connection) (es : List Up) (k : ℕ) → k ≤ length (flat_map up_bytes es) → P c es c.to_client.waiting → Of P (record c { to_server = with_waiting es k c.to_server })
  pub client_waits : (c : Connection) (es : List Down) (k : ℕ) → k ≤ length (flat_map down_bytes es) → P c c.to_server.waiting es → Of P (record c { to_client = with_waiting es k c.to_client })

abbrev pub KeptByMoves : Setup → Answers → Invariant → Type 0
KeptByMoves setup answers P = KeptOver setup answers Any Free P

-- ---- The same in the light of what the world notes

-- How a connection comes to stand elsewhere.
pub data Stand : Type 0 where
  Lends : Stand
  Resumes : (ticket : ℕ) → Stand
  GivesBack : (lease : ℕ) → Stand
  Keeps : (lease : ℕ) → Stand
  Abandons : (ticket : ℕ) → Stand
  Drains : (conn count : ℕ) → Stand
  Cuts : (conn : ℕ) → Stand

abbrev pub event_of : Stand → Event
event_of Lends = event.Lease
event_of (Resumes ticket) = event.Resume ticket
event_of (GivesBack lease) = event.GiveBack lease
event_of (Keeps lease) = event.Keep lease
event_of (Abandons ticket) = event.Abandon ticket
event_of (Drains n count) = event.ToClient n count
event_of (Cuts n) = event.Cut n

-- What is known of the connection before.
abbrev pub Before : Stand → Connection → Type 0
Before Lends c = c.standing ≡ In place.Free
Before (Resumes ticket) c = c.standing ≡ In (place.Kept ticket)
Before (GivesBack lease) c = is_sending (phase c) ≡ false
Before (Keeps lease) c = (is_idle c ≡ true) × ((c.heard == 0 || is_full c.mark) ≡ false)
Before (Abandons ticket) c = c.standing ≡ In (place.Kept ticket)
Before (Drains n count) c = Unit {0}
Before (Cuts n) c = Unit {0}

abbrev pub mark_by : Stand → Option Reset → Option Reset
mark_by Lends mark = strongest (Some Full) mark
mark_by (Resumes ticket) mark = strongest (Some KeepTransaction) mark
mark_by e mark = mark

abbrev pub standing_by : World → Stand → Bool → Standing → Standing
standing_by w Lends idle s = In (place.Leased (next_number w.leases))
standing_by w (Resumes ticket) idle s = In (place.Leased (next_number w.leases))
standing_by w (GivesBack lease) idle s = In (place_back idle)
standing_by w (Keeps lease) idle s = In (place.Kept (next_number w.tickets))
standing_by w (Abandons ticket) idle s = In place.Free
standing_by w (Drains n count) idle s = drained idle s
standing_by w (Cuts n) idle s = Cut

abbrev pub restood : World → Stand → Connection → Connection
restood w r c = record c { mark = mark_by r c.mark; standing = standing_by w r (is_idle c) c.standing }

-- The world after it.
abbrev pub restood_in : World → Stand → ℕ → Connection → World
restood_in w r n c = world_with (event_of r) n w (restood w r c)

-- What a connection owes for each move of one that is there.
pub record MovesOver (setup : Setup) (answers : Answers) (E : ℕ → Event → Type 0) (Q P : World → Invariant) : Type 0 where
  -- the world after it is known already
  pub stands : (w : World) (r : Stand) (n : ℕ) (c : Connection) → Before r c → Of (Q (restood_in w r n c)) c → Of (P (restood_in w r n c)) c → Of (P (restood_in w r n c)) (restood w r c)
  pub asked : (w : World) (lease n : ℕ) (q : Request) (c : Connection) → E n (event.Ask lease q) → c.standing ≡ In (place.Leased lease) → is_idle c ≡ true → Of (Q w) c → Of (P w) c → Of (P (world_with (event.Ask lease q) n w (asks (next_number w.asked_on) lease n q c))) (asks (next_number w.asked_on) lease n q c)
  pub sent : (w : World) (last : Bool) (q : Record) (c : Connection) → c.current ≡ Some q → is_sending (phase_of q) ≡ true → sends_last (setup.packet_size - 8) q ≡ last → Of (Q w) c → Of (P w) c → Of (P w) (sends_by last (setup.packet_size - 8) q c)
  pub cancelled : (w : World) (p : Phase) (q : Record) (c : Connection) → c.current ≡ Some q → phase_of q ≡ p → Of (Q w) c → Of (P w) c → Of (P w) (cancels_by p q c)
  pub worked : (w : World) (c : Connection) (s : answer.Step) (ss : List answer.Step) → c.due ≡ s ∷ ss → Of (Q w) c → Of (P w) c → Of (P w) (works_on c (s ∷ ss))
  pub at_server : (w : World) (c : Connection) (e : Up) (es : List Up) → Q w c (e ∷ es) c.to_client.waiting → P w c (e ∷ es) c.to_client.waiting → P w (server_acts answers (record c { to_server = passed e c.to_server }) e) es (server_acts answers (record c { to_server = passed e c.to_server }) e).to_client.waiting
  pub at_client : (w : World) (c : Connection) (e : Down) (es : List Down) → Q w c c.to_server.waiting (e ∷ es) → P w c c.to_server.waiting (e ∷ es) → P w (client_acts (record c { to_client = passed e c.to_client }) e) (client_acts (record c { to_client = passed e c.to_client }) e).to_server.waiting es
  pub server_waits : (w : World) (c : Connection) (es : List Up) (k : ℕ) → k ≤ length (flat_map up_bytes es) → P w c es c.to_client.waiting → Of (P w) (record c { to_server = with_waiting es k c.to_server })
  pub client_waits : (w : World) (c : Connection) (es : List Down) (k : ℕ) → k ≤ length (flat_map down_bytes es) → P w c c.to_server.waiting es → Of (P w) (record c { to_client = with_waiting es k c.to_client })

-- Of a connection of any number.
abbrev pub AnyAt : ℕ → Event → Type 0
AnyAt n e = Unit {0}

-- What such an invariant owes. It doesn't fall when the world notes more.
pub record NotedOver (setup : Setup) (answers : Answers) (E : ℕ → Event → Type 0) (Q P : World → Invariant) : Type 0 where
  pub grows : (w v : World) (c : Connection) (ups : List Up) (downs : List Down) → Adds w v → P w c ups downs → P v c ups downs
  pub opened : (w : World) (n : ℕ) → Of (P (world_with event.Lease n w (new_connection setup.on_attention (place.Leased (next_number w.leases))))) (new_connection setup.on_attention (place.Leased (next_number w.leases)))
  pub moves : MovesOver setup answers E Q P

abbrev pub FreeIn : World → Invariant
FreeIn w = Free

abbrev pub BothIn : (World → Invariant) → (World → Invariant) → World → Invariant
BothIn Q P w = Both (Q w) (P w)

-- One that doesn't look at what is noted.
pub unnoted : (setup : Setup) (answers : Answers) (E : Event → Type 0) (Q P : Invariant) → KeptOver setup answers E Q P → NotedOver setup answers (λ n. E) (λ w. Q) (λ w. P)
unnoted setup answers E Q P k = record {
  grows = λ w v c u d a h. h;
  opened = λ w n. k.opened (next_number w.leases);
  moves = record {
    stands = λ w r n c b f h. k.stands c (mark_by r c.mark) (standing_by w r (is_idle c) c.standing) h;
    asked = λ w lease n q c x s i f h. k.asked (next_number w.asked_on) lease n q c x i f h;
    sent = λ w last q c i s l f h. k.sent last q c i s l f h;
    cancelled = λ w p q c i a f h. k.cancelled p q c i a f h;
    worked = λ w c s ss i f h. k.worked c s ss i f h;
    at_server = λ w c e es f h. k.at_server c e es f h;
    at_client = λ w c e es f h. k.at_client c e es f h;
    server_waits = λ w c es n m h. k.server_waits c es n m h;
    client_waits = λ w c es n m h. k.client_waits c es n m h;
  };
}

-- One on top of another.
pub noted_on_top : (setup : Setup) (answers : Answers) (E : ℕ → Event → Type 0) (Q P : World → Invariant) → NotedOver setup answers AnyAt FreeIn Q → NotedOver setup answers E Q P → NotedOver setup answers E FreeIn (BothIn Q P)
noted_on_top setup answers E Q P a b = let j : MovesOver setup answers AnyAt FreeIn Q = a.moves in let k : MovesOver setup answers E Q P = b.moves in record {
  grows = λ w v c u d x h. (a.grows w v c u d x h.0, b.grows w v c u d x h.1);
  opened = λ w n. (a.opened w n, b.opened w n);
  moves = record {
    stands = λ w r n c y f h. (j.stands w r n c y tt h.0, k.stands w r n c y h.0 h.1);
    asked = λ w lease n q c x s i f h. (j.asked w lease n q c tt s i tt h.0, k.asked w lease n q c x s i h.0 h.1);
    sent = λ w last q c i s l f h. (j.sent w last q c i s l tt h.0, k.sent w last q c i s l h.0 h.1);
    cancelled = λ w p q c i y f h. (j.cancelled w p q c i y tt h.0, k.cancelled w p q c i y h.0 h.1);
    worked = λ w c s ss i f h. (j.worked w c s ss i tt h.0, k.worked w c s ss i h.0 h.1);
    at_server = λ w c e es f h. (j.at_server w c e es tt h.0, k.at_server w c e es h.0 h.1);
    at_client = λ w c e es f h. (j.at_client w c e es tt h.0, k.at_client w c e es h.0 h.1);
    server_waits = λ w c es n m h. (j.server_waits w c es n m h.0, k.server_waits w c es n m h.1);
    client_waits = λ w c es n m h. (j.client_waits w c es n m h.0, k.client_waits w c es n m h.1);
  };
}

pub on_top : (setup : Setup) (answers : Answers) (E : Event → Type 0) (Q P : Invariant) → KeptByMoves setup answers Q → KeptOver setup answers E Q P → KeptOver setup answers E Free (Both Q P)
on_top setup answers E Q P j k = record {
  opened = λ lease. (j.opened lease, k.opened lease);
  stands = λ c m s h. (j.stands c m s h.0, k.stands c m s h.1);
  asked = λ number lease n q c x i f h. (j.asked number lease n q c tt i tt h.0, k.asked number lease n q c x i h.0 h.1);
  sent = λ last q c i s l f h. (j.sent last q c i s l tt h.0, k.sent last q c i s l h.0 h.1);
  cancelled = λ p q c i a f h. (j.cancelled p q c i a tt h.0, k.cancelled p q c i a h.0 h.1);
  worked = λ c s ss i f h. (j.worked c s ss i tt h.0, k.worked c s ss i h.0 h.1);
  at_server = λ c e es f h. (j.at_server c e es tt h.0, k.at_server c e es h.0 h.1);
  at_client = λ c e es f h. (j.at_client c e es tt h.0, k.at_client c e es h.0 h.1);
  server_waits = λ c es n m h. (j.server_waits c es n m h.0, k.server_waits c es n m h.1);
  client_waits = λ c es n m h. (j.client_waits c es n m h.0, k.client_waits c es n m h.1);
}

-- ---- Events are made of moves

cancels_stop_by : (p : Phase) (q : Record) (c : Connection) → phase_of q ≡ p → c.current ≡ Some q → is_stopped (phase (cancels_by p q c)) ≡ true
cancels_stop_by Settled q c e h = ap (λ o. is_stopped (phase_in o)) h ∙ ap is_stopped e
cancels_stop_by Cancelling q c e h = ap (λ o. is_stopped (phase_in o)) h ∙ ap is_stopped e
cancels_stop_by Asked q c e h = cancelled_stops q.out
cancels_stop_by Sending q c e h = cancelled_stops q.out
cancels_stop_by Reading q c e h = cancelled_stops q.out

cancels_stop_in : (o : Option Record) (c : Connection) → c.current ≡ o → is_stopped (phase (cancels_in o c)) ≡ true
cancels_stop_in None c e = ap (λ o. is_stopped (phase_in o)) e
cancels_stop_in (Some q) c e = cancels_stop_by (phase_of q) q c refl e

-- A cancel stops.
pub cancels_stop : (c : Connection) → is_stopped (phase (cancels c)) ≡ true
cancels_stop c = cancels_stop_in c.current c refl

come : {Entry : Type 0} (bytes : Entry → List ℕ) (e : Entry) (es : List Entry) (k : ℕ) → ltb k (length (bytes e)) ≡ true → k ≤ length (flat_map bytes (e ∷ es))
come bytes e es k t =
    let less : k ≤ length (bytes e) = grind (arith, nat_tests) in
    let size : length (flat_map bytes (e ∷ es)) ≡ length (bytes e) + length (flat_map bytes es) = length-append (bytes e) (flat_map bytes es) in
    rw size (omega arith)

none_come : 0 ≤ 0
none_come = omega arith

asks_none : (r : Stand) (n heard : ℕ) (w : World) → (notes (event_of r) n heard w).asked_on ≡ w.asked_on
asks_none Lends n heard w = refl
asks_none r n heard w = refl

-- What a move of one connection keeps, where it keeps too when the world notes something but a new request.
module _ (setup : Setup) (answers : Answers) (E : ℕ → Event → Type 0) (cleans_ask : (n k lease : ℕ) → E n (event.Clean k) → E n (event.Ask lease clean_request)) (P : World → Invariant) (noted : (w v : World) (c : Connection) (ups : List Up) (downs : List Down) → v.asked_on ≡ w.asked_on → Adds w v → P w c ups downs → P v c ups downs) (k : MovesOver setup answers E FreeIn P) where
  pub reaches_server : (w : World) (c : Connection) (es : List Up) (n : ℕ) → P w c es c.to_client.waiting → Of (P w) (reach_server answers c es n)
  reaches_server w c [] n h = k.server_waits w c [] 0 none_come h
  reaches_server w c (e ∷ es) n h =
      let d : Connection = server_acts answers (record c { to_server = passed e c.to_server }) e in
      by_test (Of (P w)) (ltb n (length (up_bytes e))) (record c { to_server = with_waiting (e ∷ es) n c.to_server }) (reach_server answers d es (n - length (up_bytes e)))
      (λ t. k.server_waits w c (e ∷ es) n (come up_bytes e es n t) h) (λ t. reaches_server w d es (n - length (up_bytes e)) (k.at_server w c e es tt h))

  pub reaches_client : (w : World) (c : Connection) (es : List Down) (n : ℕ) → P w c c.to_server.waiting es → Of (P w) (reach_client c es n)
  reaches_client w c [] n h = k.client_waits w c [] 0 none_come h
  reaches_client w c (e ∷ es) n h =
      let d : Connection = client_acts (record c { to_client = passed e c.to_client }) e in
      by_test (Of (P w)) (ltb n (length (down_bytes e))) (record c { to_client = with_waiting (e ∷ es) n c.to_client }) (reach_client d es (n - length (down_bytes e)))
      (λ t. k.client_waits w c (e ∷ es) n (come down_bytes e es n t) h) (λ t. reaches_client w d es (n - length (down_bytes e)) (k.at_client w c e es tt h))

  pub works_in : (w : World) (c : Connection) (due : List answer.Step) → c.due ≡ due → Of (P w) c → Of (P w) (works_on c due)
  works_in w c [] is h = h
  works_in w c (s ∷ ss) is h = k.worked w c s ss is tt h

  pub cancels_now : (w : World) (current : Option Record) (c : Connection) → c.current ≡ current → Of (P w) c → Of (P w) (cancels_in current c)
  cancels_now w None c is h = h
  cancels_now w (Some q) c is h = k.cancelled w (phase_of q) q c is refl tt h

  -- The world notes what is no new request.
  notes_now : (w : World) (e : Event) (n : ℕ) (c : Connection) → (notes e n c.heard (record w { connections = put_numbered n c w.connections })).asked_on ≡ w.asked_on → Of (P w) c → Of (P (world_with e n w c)) c
  notes_now w e n c is h = noted w (world_with e n w c) c c.to_server.waiting c.to_client.waiting is (notes_add e n c.heard w (put_numbered n c w.connections)) h

  stands_now : (w : World) (r : Stand) (n : ℕ) (c : Connection) → Before r c → Of (P w) c → Of (P (restood_in w r n c)) (restood w r c)
  stands_now w r n c b h =
      let cs : List Connection = put_numbered n (restood w r c) w.connections in
      k.stands w r n c b tt
      (noted w (restood_in w r n c) c c.to_server.waiting c.to_client.waiting (asks_none r n c.heard (record w { connections = cs })) (notes_add (event_of r) n c.heard w cs) h)

  back : (w : World) (l n : ℕ) (s : Standing) (c : Connection) → Of (P w) c → OfActed (λ d. Of (P (world_with (event.GiveBack l) n w d)) d) (gives_back_at s c)
  back w l n (In p) c h = stands_now w (GivesBack l) n (cancels c) (stopped_sends_none (phase (cancels c)) (cancels_stop c)) (cancels_now w c.current c refl h)
  back w l n Cut c h = notes_now w (event.GiveBack l) n c refl h

  abandoned : (w : World) (t n : ℕ) (s : Standing) (c : Connection) → c.standing ≡ s → StandsAt (place.Kept t) c.standing → Of (P w) c → OfActed (λ d. Of (P (world_with (event.Abandon t) n w d)) d) (abandons_at s c)
  abandoned w t n (In p) c is stood h = elim stood [
    | inl at ↦ stands_now w (Abandons t) n c at h
    | inr at ↦ let z : In p ≡ Cut = sym is ∙ at in absurd (cc)
  ]
  abandoned w t n Cut c is stood h = notes_now w (event.Abandon t) n c refl h

  kept : (w : World) (l n : ℕ) (idle nothing : Bool) (c : Connection) → is_idle c ≡ idle → (c.heard == 0 || is_full c.mark) ≡ nothing → Of (P w) c → OfActed (λ d. Of (P (world_with (event.Keep l) n w d)) d) (keeps_by idle nothing (next_number w.tickets) c)
  kept w l n false nothing c is some h = tt
  kept w l n true true c is some h = tt
  kept w l n true false c is some h = stands_now w (Keeps l) n c (is, some) h

  asks_now : (w : World) (b : Bool) (lease n : ℕ) (q : Request) (c : Connection) → is_idle c ≡ b → E n (event.Ask lease q) → c.standing ≡ In (place.Leased lease) → Of (P w) c → OfActed (λ d. Of (P (world_with (event.Ask lease q) n w d)) d) (asks_by b (next_number w.asked_on) lease n q c)
  asks_now w true lease n q c is x s h = k.asked w lease n q c x s is tt h
  asks_now w false lease n q c is x s h = tt

  sends_now : (w : World) (l n : ℕ) (p : Phase) (current : Option Record) (c : Connection) → c.current ≡ current → phase_in current ≡ p → Of (P w) c → OfActed (λ d. Of (P (world_with (event.Send l) n w d)) d) (sends_in p (setup.packet_size - 8) current c)
  sends_now w l n Asked (Some q) c is at h =
      notes_now w (event.Send l) n (sends_by (sends_last (setup.packet_size - 8) q) (setup.packet_size - 8) q c) refl (k.sent w (sends_last (setup.packet_size - 8) q) q c is (ap is_sending at) refl tt h)
  sends_now w l n Sending (Some q) c is at h =
      notes_now w (event.Send l) n (sends_by (sends_last (setup.packet_size - 8) q) (setup.packet_size - 8) q c) refl (k.sent w (sends_last (setup.packet_size - 8) q) q c is (ap is_sending at) refl tt h)
  sends_now w l n Asked None c is at h = tt
  sends_now w l n Sending None c is at h = tt
  sends_now w l n Settled current c is at h = tt
  sends_now w l n Reading current c is at h = tt
  sends_now w l n Cancelling current c is at h = tt

  -- It is lent, asks, sends all, and is given back without a cancel.
  cleans_now : (w : World) (i n : ℕ) (c : Connection) → is_idle c ≡ true → sends_last (setup.packet_size - 8) (cleaning_record (next_number w.leases) (next_number w.asked_on) n c) ≡ true → c.standing ≡ In place.Free → E n (event.Clean i) → Of (P w) c → let d : Connection = cleans (setup.packet_size - 8) (next_number w.leases) (next_number w.asked_on) n c in Of (P (world_with (event.Clean i) n w d)) d
  cleans_now w i n c idle last free x h =
      let room : ℕ = setup.packet_size - 8 in
      let l : ℕ = next_number w.leases in
      let q : Record = cleaning_record l (next_number w.asked_on) n c in
      let c1 : Connection = restood w Lends c in
      let w1 : World = restood_in w Lends n c in
      let c2 : Connection = asks (next_number w.asked_on) l n clean_request c1 in
      let w2 : World = world_with (event.Ask l clean_request) n w1 c2 in
      let c3 : Connection = sends_by true room q c2 in
      let h1 : Of (P w1) c1 = stands_now w Lends n c free h in
      let h2 : Of (P w2) c2 = k.asked w1 l n clean_request c1 (cleans_ask n i l x) refl idle tt h1 in
      let h3 : Of (P w2) c3 = k.sent w2 true q c2 refl refl last tt h2 in
      let d : Connection = restood w2 (GivesBack l) c3 in
      let w4 : World = restood_in w2 (GivesBack l) n c3 in
      let h4 : Of (P w4) d = stands_now w2 (GivesBack l) n c3 refl h3 in
      noted w4 (world_with (event.Clean i) n w d) d d.to_server.waiting d.to_client.waiting refl (cleaning_adds n c.heard w w4.connections (put_numbered n d w.connections)) h4

  cleaned : (w : World) (i n : ℕ) (free idle last : Bool) (c : Connection) → is_free c.standing ≡ free → is_idle c ≡ idle → sends_last (setup.packet_size - 8) (cleaning_record (next_number w.leases) (next_number w.asked_on) n c) ≡ last → E n (event.Clean i) → Of (P w) c → OfActed (λ d. Of (P (world_with (event.Clean i) n w d)) d) (cleans_by free (idle && last) (setup.packet_size - 8) (next_number w.leases) (next_number w.asked_on) n c)
  cleaned w i n false idle last c f e l x h = tt
  cleaned w i n true false last c f e l x h = tt
  cleaned w i n true true false c f e l x h = tt
  cleaned w i n true true true c f e l x h = cleans_now w i n c e l (free_stands c.standing f) x h

  pub acted : (w : World) (e : Event) (n : ℕ) (c : Connection) → E n e → StandsFor e c.standing → Of (P w) c → OfActed (λ d. Of (P (world_with e n w d)) d) (acts setup answers w e n c)
  acted w event.Lease n c x s h = stands_now w Lends n c s h
  acted w (event.Resume t) n c x s h = stands_now w (Resumes t) n c s h
  acted w (event.GiveBack l) n c x s h = back w l n c.standing c h
  acted w (event.Keep l) n c x s h = kept w l n (is_idle c) (c.heard == 0 || is_full c.mark) c refl refl h
  acted w (event.Abandon t) n c x s h = abandoned w t n c.standing c refl s h
  acted w (event.Clean i) n c x s h =
      cleaned w i n (is_free c.standing) (is_idle c) (sends_last (setup.packet_size - 8) (cleaning_record (next_number w.leases) (next_number w.asked_on) n c)) c refl refl refl x h
  acted w (event.Ask l q) n c x s h = asks_now w (is_idle c) l n q c refl x s h
  acted w (event.Send l) n c x s h = sends_now w l n (phase c) c.current c refl refl h
  acted w (event.Cancel l) n c x s h = notes_now w (event.Cancel l) n (cancels c) refl (cancels_now w c.current c refl h)
  acted w (event.Work i) n c x s h = notes_now w (event.Work i) n (works_on c c.due) refl (works_in w c c.due refl h)
  acted w (event.ToServer i m) n c x s h =
      notes_now w (event.ToServer i m) n (to_server answers m c) refl (reaches_server w c c.to_server.waiting (c.to_server.part + min m (up_underway c)) h)
  acted w (event.ToClient i m) n c x s h =
      stands_now w (Drains i m) n (reach_client c c.to_client.waiting (c.to_client.part + min m (down_underway c))) tt
      (reaches_client w c c.to_client.waiting (c.to_client.part + min m (down_underway c)) h)
  acted w (event.Cut i) n c x s h = stands_now w (Cuts i) n c tt h
  acted w event.RestartServer n c x s h = tt
  acted w event.RestartClient n c x s h = tt

  -- A restart cuts it too. No connection has number 0.
  pub restarted : (w : World) (c : Connection) → Of (P w) c → Of (P w) (cut c)
  restarted w c h = k.stands w (Cuts 0) 0 c tt tt h

-- What every move keeps, every event keeps.
pub by_noted_moves : (setup : Setup) (answers : Answers) (P : World → Invariant) → NotedOver setup answers AnyAt FreeIn P → KeptIn setup answers (λ w. Of (P w))
by_noted_moves setup answers P k =
    let noted : (w v : World) (c : Connection) (ups : List Up) (downs : List Down) → v.asked_on ≡ w.asked_on → Adds w v → P w c ups downs → P v c ups downs = λ w v c u d i a h. k.grows w v c u d a h in record {
      grows = λ w v c a h. k.grows w v c c.to_server.waiting c.to_client.waiting a h;
      opened = k.opened;
      acted = λ w e n c s f h. acted setup answers AnyAt (λ i j lease x. tt) P noted k.moves w e n c tt s h;
      was_cut = λ w c h. restarted setup answers AnyAt (λ i j lease x. tt) P noted k.moves w c h;
    }

-- Events of a kind of which a cleaning's request is too.
pub by_moves_of : (setup : Setup) (answers : Answers) (E : Event → Type 0) (P : Invariant) → ((k lease : ℕ) → E (event.Clean k) → E (event.Ask lease clean_request)) → KeptOver setup answers E Free P → Kept setup answers E (Of P)
by_moves_of setup answers E P asks_such k = record {
  opened = k.opened;
  acted = λ w e n c x s h. acted setup answers (λ i. E) (λ i j lease z. asks_such j lease z) (λ v. P) (λ v u d i j l m g. g) (unnoted setup answers E Free P k).moves w e n c x s h;
  was_cut = λ c h. k.stands c c.mark Cut h;
}

pub by_moves : (setup : Setup) (answers : Answers) (P : Invariant) → KeptByMoves setup answers P → Kept setup answers Any (Of P)
by_moves setup answers P k = by_moves_of setup answers Any P (λ k lease x. tt) k

-- ---- What every move keeps, each act of a connection keeps

pub to_server_keeps : (setup : Setup) (answers : Answers) (P : Invariant) → KeptByMoves setup answers P → (n : ℕ) (c : Connection) → Of P c → Of P (to_server answers n c)
to_server_keeps setup answers P k n c h =
    reaches_server setup answers (λ i. Any) (λ i j lease x. tt) (λ v. P) (λ v u d i j l m g. g) (unnoted setup answers Any Free P k).moves new_world c c.to_server.waiting (c.to_server.part + min n (up_underway c)) h

pub to_client_keeps : (setup : Setup) (answers : Answers) (P : Invariant) → KeptByMoves setup answers P → (n : ℕ) (c : Connection) → Of P c → Of P (to_client n c)
to_client_keeps setup answers P k n c h =
    let d : Connection = reach_client c c.to_client.waiting (c.to_client.part + min n (down_underway c)) in
    k.stands d d.mark (drained (is_idle d) d.standing)
    (reaches_client setup answers (λ i. Any) (λ i j lease x. tt) (λ v. P) (λ v u d i j l m g. g) (unnoted setup answers Any Free P k).moves new_world c c.to_client.waiting (c.to_client.part + min n (down_underway c)) h)

pub works_keeps : (setup : Setup) (answers : Answers) (P : Invariant) → KeptByMoves setup answers P → (c : Connection) → Of P c → Of P (works c)
works_keeps setup answers P k c h = works_in setup answers (λ i. Any) (λ i j lease x. tt) (λ v. P) (λ v u d i j l m g. g) (unnoted setup answers Any Free P k).moves new_world c c.due refl h

pub cancels_keeps : (setup : Setup) (answers : Answers) (P : Invariant) → KeptByMoves setup answers P → (c : Connection) → Of P c → Of P (cancels c)
cancels_keeps setup answers P k c h = cancels_now setup answers (λ i. Any) (λ i j lease x. tt) (λ v. P) (λ v u d i j l m g. g) (unnoted setup answers Any Free P k).moves new_world c.current c refl h

-- What is sent to a server is messages that spell requests.
use Rattle.std.proofs.Common.{◌≡◌, ◌-◌, ◌+◌, ℕ, List, [], ◌∷◌, ◌++◌, Bool, true, false, eqb, take, drop, refl, sym, ap, subst, ◌∙◌, Option, Some, None, option_map}
use Rattle.std.proofs.lemmas.List.{append_assoc, take-append-drop}
use Rattle.tds_request.specs.Layout.{request_spelling}
use Rattle.tds_session.specs.Answer as answer
use Rattle.tds_session.specs.Answer.{Answers}
use Rattle.tds_session.specs.Session.{SessionState}
use Rattle.tds_token.specs.declared.env_change.EnvChange.{EnvChange}
use Rattle.tds_world.specs.declared.event.Setup.{Setup}
use Rattle.tds_world.specs.Arrivals.{server_acts, client_acts, works_on}
use Rattle.tds_world.specs.Caller.{cancels_by, sends_by, next_packet, drop_packet}
use Rattle.tds_world.specs.Connection.{Connection}
use Rattle.tds_world.specs.Entries.{Up, Part, End, Drop, Attention, Down, Step, Acknowledgement}
use Rattle.tds_world.specs.Events.{world_after}
use Rattle.tds_world.specs.Lane.{passed, with_waiting}
use Rattle.tds_world.specs.Lawful.{Lawful}
use Rattle.tds_world.specs.Laws.{Always}
use Rattle.tds_world.specs.Phase.{Phase, Settled, Asked, Sending, Reading, Cancelling, phase_of, phase_by, phase_in, is_settled}
use Rattle.tds_world.specs.Record.{Record, Out, Begun, Whole, packets_of, gives, acknowledges, runs, cancelled, when, if_numbered, Fate}
use Rattle.tds_world.specs.Requests.{Message, Nothing, Partly, content_of, packets_in, AreRequests, SendsRequests, RequestsAreSpelled}
use Rattle.tds_world.specs.World.{new_world}
use Rattle.tds_world.proofs.events.Moves.{KeptOver, Both, on_top, by_moves}
use Rattle.tds_world.proofs.events.Worlds.{Any, always, each_follows}
use Rattle.tds_world.proofs.flow.Busy.{busy_down}
use Rattle.tds_world.proofs.flow.Flow.{FlowIn, number_in, SoundWith, Sound}
use Rattle.tds_world.proofs.flow.Sound.{sound_moves}
use Rattle.tds_world.proofs.flow.Fates.{step_leaves, cancelled_leaves, is_sending, when_going}

-- ---- The invariant: what is out of the newest request

abbrev OutBy : Phase → Record → Message → Type 0
OutBy Settled q m = m ≡ Nothing
OutBy Asked q m = (m ≡ Nothing) × (q.left ≡ request_spelling q.asking.descriptor q.asking.request)
OutBy Sending q m =
    (content : List ℕ) × (m ≡ Partly q.asking content (packets_of q.out))
    × (content ++ q.left ≡ request_spelling q.asking.descriptor q.asking.request)
OutBy Reading q m = m ≡ Nothing
OutBy Cancelling q m = m ≡ Nothing

abbrev OutIn : Option Record → Message → Type 0
OutIn None m = m ≡ Nothing
OutIn (Some q) m = OutBy (phase_of q) q m

record SpelledWith (c : Connection) (ups : List Up) : Type 0 where
  pub part : Message
  pub arrived : AreRequests Nothing c.to_server.arrived part
  pub parts : content_of part ≡ c.parts
  pub out : Message
  pub waiting : AreRequests part ups out
  pub newest : OutIn c.current out

abbrev Spelled : Connection → Type 0
Spelled c = SpelledWith c c.to_server.waiting

then_more : (m n out : Message) (xs ys : List Up) → AreRequests m xs n → AreRequests n ys out → AreRequests m (xs ++ ys) out
then_more m n out [] ys f g = subst (λ x. AreRequests x ys out) (sym f) g
then_more m n out (Part r p ∷ es) ys f g = (f.0, f.1, f.2, then_more (Partly f.0 (content_of m ++ p.body) (packets_in m + 1)) n out es ys f.3 g)
then_more m n out (End r a p ∷ es) ys f g = (f.0, f.1, f.2, then_more Nothing n out es ys f.3 g)
then_more m n out (Drop r p ∷ es) ys f g = (f.0, then_more Nothing n out es ys f.1 g)
then_more m n out (Attention r ∷ es) ys f g = (f.0, then_more Nothing n out es ys f.1 g)

-- ---- An entry arrives at the server

server_spelled : (answers : Answers) (c : Connection) (e : Up) (es : List Up) → SpelledWith c (e ∷ es) → SpelledWith (server_acts answers (record c { to_server = passed e c.to_server }) e) es
server_spelled answers c (Part r p) es h = record {
  part = Partly h.waiting.0 (content_of h.part ++ p.body) (packets_in h.part + 1);
  arrived = then_more Nothing h.part (Partly h.waiting.0 (content_of h.part ++ p.body) (packets_in h.part + 1)) c.to_server.arrived (Part r p ∷ []) h.arrived (h.waiting.0, h.waiting.1, h.waiting.2, refl);
  parts = ap (λ (xs : List ℕ). xs ++ p.body) h.parts;
  out = h.out;
  waiting = h.waiting.3;
  newest = h.newest;
}
server_spelled answers c (End r a p) es h = record {
  part = Nothing;
  arrived = then_more Nothing h.part Nothing c.to_server.arrived (End r a p ∷ []) h.arrived (h.waiting.0, h.waiting.1, h.waiting.2, refl);
  parts = refl;
  out = h.out;
  waiting = h.waiting.3;
  newest = h.newest;
}
server_spelled answers c (Drop r p) es h = record {
  part = Nothing;
  arrived = then_more Nothing h.part Nothing c.to_server.arrived (Drop r p ∷ []) h.arrived (h.waiting.0, refl);
  parts = refl;
  out = h.out;
  waiting = h.waiting.1;
  newest = h.newest;
}
server_spelled answers c (Attention r) es h = record {
  part = Nothing;
  arrived = then_more Nothing h.part Nothing c.to_server.arrived (Attention r ∷ []) h.arrived (h.waiting.0, refl);
  parts = refl;
  out = h.out;
  waiting = h.waiting.1;
  newest = h.newest;
}

-- The same, of a lane that says what waits.
arranged : (c : Connection) (ups : List Up) (k : ℕ) → SpelledWith c ups → Spelled (record c { to_server = with_waiting ups k c.to_server })
arranged c ups k h = record { part = h.part; arrived = h.arrived; parts = h.parts; out = h.out; waiting = h.waiting; newest = h.newest }

-- ---- An entry arrives at the client: the newest request is all out

nothing_out : (p : Phase) (q : Record) (m : Message) → is_sending p ≡ false → OutBy p q m → m ≡ Nothing
nothing_out Settled q m e h = h
nothing_out Asked q m e h = h.0
nothing_out Sending q m e h = absurd (cc)
nothing_out Reading q m e h = h
nothing_out Cancelling q m e h = h

out_nothing : (p : Phase) (q : Record) (m : Message) → is_sending p ≡ false → m ≡ Nothing → OutBy p q m
out_nothing Settled q m e h = h
out_nothing Asked q m e h = absurd (cc)
out_nothing Sending q m e h = absurd (cc)
out_nothing Reading q m e h = h
out_nothing Cancelling q m e h = h

not_sending : (p : Phase) (r a : ℕ) (ups : List Up) (e : Down) (es : List Down) (parts : List ℕ) (due : List answer.Step) → FlowIn p r a ups (e ∷ es) parts due → is_sending p ≡ false
not_sending Settled r a ups e es parts due f = refl
not_sending Asked r a ups e es parts due f = let z : e ∷ es ≡ [] = f.1 in absurd (cc)
not_sending Sending r a ups e es parts due f = let z : e ∷ es ≡ [] = f.1 in absurd (cc)
not_sending Reading r a ups e es parts due f = refl
not_sending Cancelling r a ups e es parts due f = refl

any_change : (P : Record → Type 0) (b : Bool) (f : Record → Record) (q : Record) → P (f q) → P q → P (when b f q)
any_change P true f q h g = h
any_change P false f q h g = g

step_out : (o : Option Record) (a r i : ℕ) (s : answer.Step) (ups : List Up) (es : List Down) (parts : List ℕ) (due : List answer.Step) (m : Message) → FlowIn (phase_in o) (number_in o) a ups (Step r i s ∷ es) parts due → OutIn o m → OutIn (option_map (if_numbered r (gives s)) o) m
step_out None a r i s ups es parts due m f h = h
step_out (Some q) a r i s ups es parts due m f h =
    let settled : is_settled (phase_of q) ≡ false = busy_down (phase_of q) q.number a ups (Step r i s) es parts due f in
    let sending : is_sending (phase_of q) ≡ false = not_sending (phase_of q) q.number a ups (Step r i s) es parts due f in
    any_change (λ x. OutBy (phase_of x) x m) (eqb q.number r) (gives s) q
    (out_nothing (phase_of (gives s q)) (gives s q) m (step_leaves q.fate s.last q.out settled sending) (nothing_out (phase_of q) q m sending h)) h

acknowledged_out : (o : Option Record) (a r i : ℕ) (changes : List EnvChange) (ups : List Up) (es : List Down) (parts : List ℕ) (due : List answer.Step) (m : Message) → FlowIn (phase_in o) (number_in o) a ups (Acknowledgement r i changes ∷ es) parts due → OutIn o m → OutIn (option_map (if_numbered r acknowledges) o) m
acknowledged_out None a r i changes ups es parts due m f h = h
acknowledged_out (Some q) a r i changes ups es parts due m f h =
    any_change (λ x. OutBy (phase_of x) x m) (eqb q.number r) acknowledges q
    (out_nothing (phase_of (acknowledges q)) (acknowledges q) m refl
    (nothing_out (phase_of q) q m (not_sending (phase_of q) q.number a ups (Acknowledgement r i changes) es parts due f) h)) h

client_spelled : (c : Connection) (e : Down) (es : List Down) → SoundWith c c.to_server.waiting (e ∷ es) → Spelled c → Spelled (client_acts (record c { to_client = passed e c.to_client }) e)
client_spelled c (Step r i s) es f h = record {
  part = h.part;
  arrived = h.arrived;
  parts = h.parts;
  out = h.out;
  waiting = h.waiting;
  newest = step_out c.current c.answering r i s c.to_server.waiting es c.parts c.due h.out f.0 h.newest;
}
client_spelled c (Acknowledgement r i changes) es f h = record {
  part = h.part;
  arrived = h.arrived;
  parts = h.parts;
  out = h.out;
  waiting = h.waiting;
  newest = acknowledged_out c.current c.answering r i changes c.to_server.waiting es c.parts c.due h.out f.0 h.newest;
}

same : (c d : Connection) → d.to_server ≡ c.to_server → d.parts ≡ c.parts → d.current ≡ c.current → Spelled c → Spelled d
same c d u p q h = record {
  part = h.part;
  arrived = subst (λ lane. AreRequests Nothing lane.arrived h.part) (sym u) h.arrived;
  parts = h.parts ∙ sym p;
  out = h.out;
  waiting = subst (λ lane. AreRequests h.part lane.waiting h.out) (sym u) h.waiting;
  newest = subst (λ o. OutIn o h.out) (sym q) h.newest;
}

runs_by : (p : Phase) (q : Record) (before : SessionState) (s : answer.Step) (m : Message) → OutBy p q m → OutBy p (runs before s q) m
runs_by Settled q before s m h = h
runs_by p q before s m h = h

runs_out : (o : Option Record) (c : Connection) (s : answer.Step) (m : Message) → OutIn o m → OutIn (option_map (if_numbered c.answering (runs c.session s)) o) m
runs_out None c s m h = h
runs_out (Some q) c s m h = any_change (λ x. OutBy (phase_of x) x m) (eqb q.number c.answering) (runs c.session s) q (runs_by (phase_of q) q c.session s m h) h

works_spelled : (c : Connection) (due : List answer.Step) → Spelled c → Spelled (works_on c due)
works_spelled c [] h = h
works_spelled c (s ∷ ss) h = record { part = h.part; arrived = h.arrived; parts = h.parts; out = h.out; waiting = h.waiting; newest = runs_out c.current c s h.out h.newest }

-- ---- What a caller does

-- More goes out behind what waits.
more_out : (c d : Connection) (more : List Up) (out : Message) (h : Spelled c) → d.to_server.arrived ≡ c.to_server.arrived → d.to_server.waiting ≡ c.to_server.waiting ++ more → d.parts ≡ c.parts → AreRequests h.out more out → OutIn d.current out → Spelled d
more_out c d more out h a u p f n = record {
  part = h.part;
  arrived = subst (λ es. AreRequests Nothing es h.part) (sym a) h.arrived;
  parts = h.parts ∙ sym p;
  out = out;
  waiting = subst (λ es. AreRequests h.part es out) (sym u) (then_more h.part h.out out c.to_server.waiting more h.waiting f);
  newest = n;
}

-- The next packet, the last one or another.
abbrev LastOut : Record → Message → Fate → Out → Type 0
LastOut q m fate out =
    q.out ≡ out → OutBy (phase_by fate out) q m
    → AreRequests m (End q.number q.asking (next_packet q 1 q.left) ∷ []) Nothing
    × (OutBy (phase_by fate (Whole (packets_of q.out + 1))) (record q { left = []; out = Whole (packets_of q.out + 1) }) Nothing)

last_out : (q : Record) (m : Message) (fate : Fate) (out : Out) → is_sending (phase_by fate out) ≡ true → LastOut q m fate out
last_out q m fate out = when_going (LastOut q m) (λ o h. (
  subst (λ x. AreRequests x (End q.number q.asking (next_packet q 1 q.left) ∷ []) Nothing) (sym h.0)
      (tt, ap (λ (x : Out). next_packet (record q { out = x }) 1 q.left) o, h.1, refl),
  refl,
)) (λ n o h. (
  subst (λ x. AreRequests x (End q.number q.asking (next_packet q 1 q.left) ∷ []) Nothing) (sym (h.1 ∙ ap (λ (x : Out). Partly q.asking h.0 (packets_of x)) o))
      (refl, ap (λ (x : Out). next_packet (record q { out = x }) 1 q.left) o, h.2, refl),
  refl,
)) fate out

abbrev PartOut : ℕ → Record → Message → Fate → Out → Type 0
PartOut room q m fate out =
    q.out ≡ out → OutBy (phase_by fate out) q m
    → (next : Message) × AreRequests m (Part q.number (next_packet q 0 (take room q.left)) ∷ []) next
    × OutBy (phase_by fate (Begun (packets_of q.out + 1))) (record q { left = drop room q.left; out = Begun (packets_of q.out + 1) }) next

part_out : (room : ℕ) (q : Record) (m : Message) (fate : Fate) (out : Out) → is_sending (phase_by fate out) ≡ true → PartOut room q m fate out
part_out room q m fate out = when_going (PartOut room q m) (λ o h. (
  Partly q.asking (take room q.left) 1,
  subst (λ x. AreRequests x (Part q.number (next_packet q 0 (take room q.left)) ∷ []) (Partly q.asking (take room q.left) 1)) (sym h.0)
      (q.asking, tt, ap (λ (x : Out). next_packet (record q { out = x }) 0 (take room q.left)) o, refl),
  (take room q.left, ap (λ (x : Out). Partly q.asking (take room q.left) (packets_of x + 1)) (sym o), take-append-drop room q.left ∙ h.1),
)) (λ n o h. (
  Partly q.asking (h.0 ++ take room q.left) (n + 1),
  subst (λ x. AreRequests x (Part q.number (next_packet q 0 (take room q.left)) ∷ []) (Partly q.asking (h.0 ++ take room q.left) (n + 1))) (sym (h.1 ∙ ap (λ (x : Out). Partly q.asking h.0 (packets_of x)) o))
      (q.asking, refl, ap (λ (x : Out). next_packet (record q { out = x }) 0 (take room q.left)) o, refl),
  (
    h.0 ++ take room q.left,
    ap (λ (x : Out). Partly q.asking (h.0 ++ take room q.left) (packets_of x + 1)) (sym o),
    append_assoc h.0 (take room q.left) (drop room q.left) ∙ (ap (λ (xs : List ℕ). h.0 ++ xs) (take-append-drop room q.left) ∙ h.2),
  ),
)) fate out

sends_spelled : (b : Bool) (room : ℕ) (q : Record) (c : Connection) → c.current ≡ Some q → is_sending (phase_of q) ≡ true → Spelled c → Spelled (sends_by b room q c)
sends_spelled true room q c i s h =
    let k = last_out q h.out q.fate q.out s refl (subst (λ o. OutIn o h.out) i h.newest) in
    more_out c (sends_by true room q c) (End q.number q.asking (next_packet q 1 q.left) ∷ []) Nothing h refl refl refl k.0 k.1
sends_spelled false room q c i s h =
    let k = part_out room q h.out q.fate q.out s refl (subst (λ o. OutIn o h.out) i h.newest) in
    more_out c (sends_by false room q c) (Part q.number (next_packet q 0 (take room q.left)) ∷ []) k.0 h refl refl refl k.1 k.2

cancelled_out : (q : Record) (m : Message) → m ≡ Nothing → OutIn (Some (cancelled q)) m
cancelled_out q m e = out_nothing (phase_of (cancelled q)) (cancelled q) m (cancelled_leaves q.out) e

dropped : (q : Record) (m : Message) (content : List ℕ) → m ≡ Partly q.asking content (packets_of q.out) → AreRequests m (Drop q.number (drop_packet q) ∷ Attention q.number ∷ []) Nothing
dropped q m content e = subst (λ x. AreRequests x (Drop q.number (drop_packet q) ∷ Attention q.number ∷ []) Nothing) (sym e) (refl, (refl, refl))

cancels_spelled_by : (p : Phase) (q : Record) (c : Connection) (h : Spelled c) → c.current ≡ Some q → OutBy p q h.out → Spelled (cancels_by p q c)
cancels_spelled_by Settled q c h e n = h
cancels_spelled_by Cancelling q c h e n = h
cancels_spelled_by Asked q c h e n = record { part = h.part; arrived = h.arrived; parts = h.parts; out = h.out; waiting = h.waiting; newest = cancelled_out q h.out n.0 }
cancels_spelled_by Sending q c h e n =
    more_out c (cancels_by Sending q c) (Drop q.number (drop_packet q) ∷ Attention q.number ∷ []) Nothing h refl
    (append_assoc c.to_server.waiting (Drop q.number (drop_packet q) ∷ []) (Attention q.number ∷ [])) refl
    (dropped q h.out n.0 n.1) (cancelled_out q Nothing refl)
cancels_spelled_by Reading q c h e n =
    more_out c (cancels_by Reading q c) (Attention q.number ∷ []) Nothing h refl refl refl (n, refl) (cancelled_out q Nothing refl)

settled_out : (p : Phase) (q : Record) (m : Message) → is_settled p ≡ true → OutBy p q m → m ≡ Nothing
settled_out Settled q m e h = h
settled_out p q m e h = absurd (cc)

idle_out : (o : Option Record) (m : Message) → is_settled (phase_in o) ≡ true → OutIn o m → m ≡ Nothing
idle_out None m e h = h
idle_out (Some q) m e h = settled_out (phase_of q) q m e h

spelled_kept : (setup : Setup) (answers : Answers) → KeptOver setup answers Any SoundWith (λ c ups downs. SpelledWith c ups)
spelled_kept setup answers = record {
  opened = λ lease. record { part = Nothing; arrived = refl; parts = refl; out = Nothing; waiting = refl; newest = refl };
  stands = λ c m s h. same c (record c { mark = m; standing = s }) refl refl refl h;
  asked = λ number lease n q c x e f h. record { part = h.part; arrived = h.arrived; parts = h.parts; out = h.out; waiting = h.waiting; newest = (idle_out c.current h.out e h.newest, refl) };
  sent = λ last q c i s b f h. sends_spelled last (setup.packet_size - 8) q c i s h;
  cancelled = λ p q c i at f h. cancels_spelled_by p q c h i (subst (λ x. OutBy x q h.out) at (subst (λ o. OutIn o h.out) i h.newest));
  worked = λ c s ss i f h. works_spelled c (s ∷ ss) h;
  at_server = λ c e es f h. server_spelled answers c e es h;
  at_client = λ c e es f h. client_spelled c e es f h;
  server_waits = λ c es k m h. arranged c es k h;
  client_waits = λ c es k m h. same c (record c { to_client = with_waiting es k c.to_client }) refl refl refl h;
}

pub requests_are_spelled : (setup : Setup) (answers : Answers) → Lawful answers → Always setup answers RequestsAreSpelled
requests_are_spelled setup answers l events =
    each_follows (λ c. Sound c × Spelled c) SendsRequests (world_after setup answers events new_world).connections
    (λ c h. record { part = h.1.part; arrived = h.1.arrived; parts = h.1.parts; out = h.1.out; waiting = h.1.waiting })
    (always (λ c. Sound c × Spelled c) setup answers events (by_moves setup answers (Both SoundWith (λ c ups downs. SpelledWith c ups)) (on_top setup answers Any SoundWith (λ c ups downs. SpelledWith c ups) (sound_moves setup answers l) (spelled_kept setup answers))))

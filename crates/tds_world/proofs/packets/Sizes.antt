-- At most 4,094 bytes wait for a server.
use Rattle.std.proofs.Common.{◌≡◌, ◌≤◌, ◌<◌, ◌+◌, ◌-◌, ◌*◌, ℕ, List, [], ◌∷◌, Bool, true, false, length, take, drop, refl, sym, ap, subst, ◌∙◌, Option, Some, None, option_map, min, arith, flat_map}
use Rattle.std.proofs.lemmas.Bool.Decides.{nat_tests}
use Rattle.std.proofs.lemmas.Grind.{flat_map-append}
use Rattle.std.proofs.lemmas.List.{length-append, length-take, length-drop}
use Rattle.std.specs.Prelude.{◌==◌, nat_le}
use Rattle.tds_request.specs.declared.request.Request.{Request}
use Rattle.tds_request.specs.declared.request.Request.TheVariants as request
use Rattle.tds_request.specs.Layout.{Fits, request_spelling, all_headers, body_of, text_bytes}
use Rattle.tds_session.specs.Answer as answer
use Rattle.tds_session.specs.Answer.{Answers}
use Rattle.tds_world.specs.declared.event.Setup.{Setup}
use Rattle.tds_world.specs.Arrivals.{server_acts, client_acts, works_on}
use Rattle.tds_world.specs.Bounds.{IsSetup, IsEvent, FewUnderway}
use Rattle.tds_world.specs.Caller.{cancels_by, sends_by, sends_last, next_packet, drop_packet, asks}
use Rattle.tds_world.specs.Connection.{Connection, phase, is_idle, up_underway}
use Rattle.tds_world.specs.Entries.{Up, Part, End, Drop, Attention, Down, Step, Acknowledgement, Packet, packet_bytes, up_bytes}
use Rattle.tds_world.specs.Events.{world_after}
use Rattle.tds_world.specs.Lane.{Lane, append, passed}
use Rattle.tds_world.specs.Lawful.{Lawful}
use Rattle.tds_world.specs.Laws.{AlwaysOf}
use Rattle.tds_world.specs.Phase.{Phase, Settled, Asked, Sending, Reading, Cancelling, phase_of, phase_by}
use Rattle.tds_world.specs.Record.{Record, Out, NotBegun, Begun, Whole, packets_of, gives, acknowledges, runs, when, if_numbered, Fate, is_cancelled}
use Rattle.tds_packet.specs.Resets.{header_descriptor}
use Rattle.tds_world.specs.World.{new_world}
use Rattle.tds_world.proofs.events.Moves.{KeptOver, Both, on_top, by_moves_of}
use Rattle.tds_world.proofs.events.Worlds.{Kept, always_such, each_follows}
use Rattle.tds_world.proofs.flow.Flow.{Quiet, number_in, Sound, SoundWith}
use Rattle.tds_world.proofs.flow.Keeps.{ask_fits}
use Rattle.tds_world.proofs.flow.Sound.{sound_moves}
use Rattle.tds_world.proofs.packets.Ranges.{cleaning_is_event, packet_least}
use Rattle.tds_world.proofs.flow.Fates.{step_cancels_none, is_sending, when_sending, when_reading, when_going}

-- ---- A request's message has at most 4,022 bytes

text_size : (units : List ℕ) → length (text_bytes units) ≡ 2 * length units
text_size [] = refl
text_size (u ∷ us) = let more : length (text_bytes us) ≡ 2 * length us = text_size us in omega arith

body_size : (q : Request) → Fits q → length (body_of q) ≤ 4000
body_size (request.Batch units) h = let most : length units ≤ 2000 = h.most in rw (text_size units) (omega arith)
body_size (request.Begin level) h = omega arith
body_size (request.Commit None) h = omega arith
body_size (request.Commit (Some isolation)) h = omega arith
body_size (request.Rollback None) h = omega arith
body_size (request.Rollback (Some isolation)) h = omega arith

pub message_size : (descriptor : ℕ) (q : Request) → Fits q → length (request_spelling descriptor q) ≤ 4022
message_size descriptor q h =
    let parts : length (request_spelling descriptor q) ≡ 22 + length (body_of q) = length-append (all_headers descriptor) (body_of q) in
    let body : length (body_of q) ≤ 4000 = body_size q h in
    omega arith

-- ---- How many bytes can wait, by how much of the newest request is out

-- What a cancel adds.
abbrev more_if : Bool → ℕ → ℕ
more_if true k = k
more_if false k = 0

-- With so many bytes not sent, these bytes can wait: nothing; full packets of at least 504 bytes, and
-- perhaps the word to drop them and the attention; all packets, of which all but one are full, and
-- perhaps the attention.
abbrev SizedBy : Out → Bool → ℕ → ℕ → Type 0
SizedBy NotBegun cancelled left size = (left ≤ 4022) × (size ≤ 0)
SizedBy (Begun n) cancelled left size =
    (b : ℕ) × (504 * n ≤ b) × (b + left ≤ 4022) × (1 ≤ left) × (size ≤ b + 8 * n + more_if cancelled 16)
SizedBy (Whole n) cancelled left size =
    (b : ℕ) × (504 * n ≤ b + 504) × (b ≤ 4022) × (size ≤ b + 8 * n + more_if cancelled 8)

abbrev SizedIn : Option Record → ℕ → Type 0
SizedIn None size = size ≤ 0
SizedIn (Some q) size = SizedBy q.out (is_cancelled q.fate) (length q.left) size

abbrev size_of : List Up → ℕ
size_of es = length (flat_map up_bytes es)

abbrev Sized : Connection → Type 0
Sized c = SizedIn c.current (size_of c.to_server.waiting)

few_by : (o : Out) (cancelled : Bool) (left size : ℕ) → SizedBy o cancelled left size → size ≤ 4094
few_by NotBegun cancelled left size h = let none : size ≤ 0 = h.1 in omega arith
few_by (Begun n) true left size h =
    let most : size ≤ h.0 + 8 * n + 16 = h.4 in let full : 504 * n ≤ h.0 = h.1 in let all : h.0 + left ≤ 4022 = h.2 in let some : 1 ≤ left = h.3 in omega arith
few_by (Begun n) false left size h =
    let most : size ≤ h.0 + 8 * n + 0 = h.4 in let full : 504 * n ≤ h.0 = h.1 in let all : h.0 + left ≤ 4022 = h.2 in let some : 1 ≤ left = h.3 in omega arith
few_by (Whole n) true left size h =
    let most : size ≤ h.0 + 8 * n + 8 = h.3 in let full : 504 * n ≤ h.0 + 504 = h.1 in let all : h.0 ≤ 4022 = h.2 in omega arith
few_by (Whole n) false left size h =
    let most : size ≤ h.0 + 8 * n + 0 = h.3 in let full : 504 * n ≤ h.0 + 504 = h.1 in let all : h.0 ≤ 4022 = h.2 in omega arith

few_in : (current : Option Record) (size : ℕ) → SizedIn current size → size ≤ 4094
few_in None size h = let none : size ≤ 0 = h in omega arith
few_in (Some q) size h = few_by q.out (is_cancelled q.fate) (length q.left) size h

-- Fewer may wait.
fewer_by : (o : Out) (cancelled : Bool) (left size less : ℕ) → less ≤ size → SizedBy o cancelled left size → SizedBy o cancelled left less
fewer_by NotBegun cancelled left size less f h = let most : size ≤ 0 = h.1 in (h.0, omega arith)
fewer_by (Begun n) cancelled left size less f h = let most : size ≤ h.0 + 8 * n + more_if cancelled 16 = h.4 in (h.0, h.1, h.2, h.3, omega arith)
fewer_by (Whole n) cancelled left size less f h = let most : size ≤ h.0 + 8 * n + more_if cancelled 8 = h.3 in (h.0, h.1, h.2, omega arith)

fewer_in : (current : Option Record) (size less : ℕ) → less ≤ size → SizedIn current size → SizedIn current less
fewer_in None size less f h = let most : size ≤ 0 = h in omega arith
fewer_in (Some q) size less f h = fewer_by q.out (is_cancelled q.fate) (length q.left) size less f h

-- ---- Deliveries

size_less : (e : Up) (es : List Up) → size_of es ≤ size_of (e ∷ es)
size_less e es = let whole : size_of (e ∷ es) ≡ length (up_bytes e) + size_of es = length-append (up_bytes e) (flat_map up_bytes es) in omega arith

-- An entry arrives at the server: the newest request stays, and less waits.
server_sized : (answers : Answers) (c : Connection) (e : Up) (es : List Up) → SizedIn c.current (size_of (e ∷ es)) → SizedIn (server_acts answers (record c { to_server = passed e c.to_server }) e).current (size_of es)
server_sized answers c (Part r p) es h = fewer_in c.current (size_of (Part r p ∷ es)) (size_of es) (size_less (Part r p) es) h
server_sized answers c (End r a p) es h = fewer_in c.current (size_of (End r a p ∷ es)) (size_of es) (size_less (End r a p) es) h
server_sized answers c (Drop r p) es h = fewer_in c.current (size_of (Drop r p ∷ es)) (size_of es) (size_less (Drop r p) es) h
server_sized answers c (Attention r) es h = fewer_in c.current (size_of (Attention r ∷ es)) (size_of es) (size_less (Attention r) es) h

-- A change that leaves how much is out.
changed_by : (b : Bool) (change : Record → Record) (q : Record) (size : ℕ) → SizedIn (Some (change q)) size → SizedIn (Some q) size → SizedIn (Some (when b change q)) size
changed_by true change q size f g = f
changed_by false change q size f g = g

-- More may wait of one that is cancelled.
cancelled_asked : (o : Out) (cancelled : Bool) (left size : ℕ) → SizedBy o cancelled left size → SizedBy o true left size
cancelled_asked NotBegun cancelled left size h = h
cancelled_asked (Begun n) true left size h = h
cancelled_asked (Begun n) false left size h = let most : size ≤ h.0 + 8 * n + 0 = h.4 in (h.0, h.1, h.2, h.3, omega arith)
cancelled_asked (Whole n) true left size h = h
cancelled_asked (Whole n) false left size h = let most : size ≤ h.0 + 8 * n + 0 = h.3 in (h.0, h.1, h.2, omega arith)

gives_sized : (r : ℕ) (s : answer.Step) (current : Option Record) (size : ℕ) → SizedIn current size → SizedIn (option_map (if_numbered r (gives s)) current) size
gives_sized r s None size h = h
gives_sized r s (Some q) size h = changed_by (q.number == r) (gives s) q size (subst (λ b. SizedBy q.out b (length q.left) size) (sym (step_cancels_none s.last q.fate)) h) h

acknowledges_sized : (r : ℕ) (current : Option Record) (size : ℕ) → SizedIn current size → SizedIn (option_map (if_numbered r acknowledges) current) size
acknowledges_sized r None size h = h
acknowledges_sized r (Some q) size h = changed_by (q.number == r) acknowledges q size (cancelled_asked q.out (is_cancelled q.fate) (length q.left) size h) h

client_sized : (c : Connection) (e : Down) → Sized c → Sized (client_acts c e)
client_sized c (Step r place s) h = gives_sized r s c.current (size_of c.to_server.waiting) h
client_sized c (Acknowledgement r place changes) h = acknowledges_sized r c.current (size_of c.to_server.waiting) h

works_sized : (c : Connection) (due : List answer.Step) → Sized c → Sized (works_on c due)
works_sized c [] h = h
works_sized c (s ∷ ss) h = runs_sized c.current h
  where
    runs_sized : (current : Option Record) → SizedIn current (size_of c.to_server.waiting) → SizedIn (option_map (if_numbered c.answering (runs c.session s)) current) (size_of c.to_server.waiting)
    runs_sized None g = g
    runs_sized (Some q) g = changed_by (q.number == c.answering) (runs c.session s) q (size_of c.to_server.waiting) g g

-- ---- Sends and cancels

packet_size_is : (p : Packet) → length (packet_bytes p) ≡ 8 + length p.body
packet_size_is p = omega arith

more_waits : (e : Up) (lane : Lane Up) → size_of (append e lane).waiting ≡ size_of lane.waiting + length (up_bytes e)
more_waits e lane =
    let last : length (flat_map up_bytes (e ∷ [])) ≡ length (up_bytes e) + 0 = length-append (up_bytes e) [] in
    ap (λ bs. length bs) (flat_map-append up_bytes lane.waiting (e ∷ []))
    ∙ (length-append (flat_map up_bytes lane.waiting) (flat_map up_bytes (e ∷ []))
    ∙ (let both : size_of lane.waiting + length (flat_map up_bytes (e ∷ [])) ≡ size_of lane.waiting + length (up_bytes e) = omega arith in both))

-- With some out, and all out.
cancelled_sending : (fate : Fate) (o : Out) (left size : ℕ) → phase_by fate o ≡ Sending → SizedBy o (is_cancelled fate) left size → SizedBy o true left (size + 16)
cancelled_sending fate o left size =
    when_sending (λ x y. SizedBy y (is_cancelled x) left size → SizedBy y true left (size + 16))
    (λ n h. let most : size ≤ h.0 + 8 * n + 0 = h.4 in (h.0, h.1, h.2, h.3, omega arith)) fate o

cancelled_reading : (fate : Fate) (o : Out) (left size : ℕ) → phase_by fate o ≡ Reading → SizedBy o (is_cancelled fate) left size → SizedBy o true left (size + 8)
cancelled_reading fate o left size =
    when_reading (λ x y. SizedBy y (is_cancelled x) left size → SizedBy y true left (size + 8))
    (λ n h. let most : size ≤ h.0 + 8 * n + 0 = h.3 in (h.0, h.1, h.2, omega arith)) fate o

cancels_sized_by : (p : Phase) (q : Record) (c : Connection) → phase_of q ≡ p → c.current ≡ Some q → Sized c → Sized (cancels_by p q c)
cancels_sized_by Settled q c e i h = h
cancels_sized_by Cancelling q c e i h = h
cancels_sized_by Asked q c e i h = cancelled_asked q.out (is_cancelled q.fate) (length q.left) (size_of c.to_server.waiting) (subst (λ o. SizedIn o (size_of c.to_server.waiting)) i h)
cancels_sized_by Sending q c e i h =
    let size : size_of (append (Attention q.number) (append (Drop q.number (drop_packet q)) c.to_server)).waiting ≡ size_of c.to_server.waiting + 16 =
    more_waits (Attention q.number) (append (Drop q.number (drop_packet q)) c.to_server)
    ∙ (let first : size_of (append (Drop q.number (drop_packet q)) c.to_server).waiting ≡ size_of c.to_server.waiting + 8 = more_waits (Drop q.number (drop_packet q)) c.to_server in
    let both : size_of (append (Drop q.number (drop_packet q)) c.to_server).waiting + 8 ≡ size_of c.to_server.waiting + 16 = omega arith in both) in
    subst (λ n. SizedBy q.out true (length q.left) n) (sym size)
    (cancelled_sending q.fate q.out (length q.left) (size_of c.to_server.waiting) e (subst (λ o. SizedIn o (size_of c.to_server.waiting)) i h))
cancels_sized_by Reading q c e i h =
    let size : size_of (append (Attention q.number) c.to_server).waiting ≡ size_of c.to_server.waiting + 8 = more_waits (Attention q.number) c.to_server in
    subst (λ n. SizedBy q.out true (length q.left) n) (sym size)
    (cancelled_reading q.fate q.out (length q.left) (size_of c.to_server.waiting) e (subst (λ o. SizedIn o (size_of c.to_server.waiting)) i h))

-- The rest of a request goes out, or a full packet of it.
last_sized : (fate : Fate) (o : Out) (left size : ℕ) → is_sending (phase_by fate o) ≡ true → SizedBy o (is_cancelled fate) left size → SizedBy (Whole (packets_of o + 1)) (is_cancelled fate) 0 (size + (8 + left))
last_sized fate o left size =
    when_going (λ x y. SizedBy y (is_cancelled x) left size → SizedBy (Whole (packets_of y + 1)) (is_cancelled x) 0 (size + (8 + left)))
    (λ h. let few : left ≤ 4022 = h.0 in let none : size ≤ 0 = h.1 in (left, omega arith, omega arith, omega arith))
    (λ n h. let full : 504 * n ≤ h.0 = h.1 in let all : h.0 + left ≤ 4022 = h.2 in let most : size ≤ h.0 + 8 * n + 0 = h.4 in
    (h.0 + left, omega arith, omega arith, omega arith)) fate o

more_sized : (fate : Fate) (o : Out) (room left size : ℕ) → is_sending (phase_by fate o) ≡ true → 504 ≤ room → room < left → SizedBy o (is_cancelled fate) left size → SizedBy (Begun (packets_of o + 1)) (is_cancelled fate) (left - room) (size + (8 + room))
more_sized fate o room left size e r l =
    when_going (λ x y. SizedBy y (is_cancelled x) left size → SizedBy (Begun (packets_of y + 1)) (is_cancelled x) (left - room) (size + (8 + room)))
    (λ h. let few : left ≤ 4022 = h.0 in let none : size ≤ 0 = h.1 in (room, omega arith, omega arith, omega arith, omega arith))
    (λ n h. let full : 504 * n ≤ h.0 = h.1 in let all : h.0 + left ≤ 4022 = h.2 in let most : size ≤ h.0 + 8 * n + 0 = h.4 in
    (h.0 + room, omega arith, omega arith, omega arith, omega arith)) fate o e

not_last : (n m : ℕ) → nat_le n m ≡ false → m < n
not_last n m e = grind (arith, nat_tests)

sends_sized : (b : Bool) (room : ℕ) (q : Record) (c : Connection) → sends_last room q ≡ b → 504 ≤ room → is_sending (phase_of q) ≡ true → c.current ≡ Some q → Sized c → Sized (sends_by b room q c)
sends_sized true room q c l r s i h =
    let size : size_of (append (End q.number q.asking (next_packet q 1 q.left)) c.to_server).waiting ≡ size_of c.to_server.waiting + (8 + length q.left) =
    more_waits (End q.number q.asking (next_packet q 1 q.left)) c.to_server
    ∙ ap (λ n. size_of c.to_server.waiting + n) (packet_size_is (next_packet q 1 q.left)) in
    subst (λ n. SizedBy (Whole (packets_of q.out + 1)) (is_cancelled q.fate) 0 n) (sym size)
    (last_sized q.fate q.out (length q.left) (size_of c.to_server.waiting) s (subst (λ o. SizedIn o (size_of c.to_server.waiting)) i h))
sends_sized false room q c l r s i h =
    let below : room < length q.left = not_last (length q.left) room l in
    let taken : length (take room q.left) ≡ room = length-take room q.left ∙ (let least : min room (length q.left) ≡ room = omega arith in least) in
    let size : size_of (append (Part q.number (next_packet q 0 (take room q.left))) c.to_server).waiting ≡ size_of c.to_server.waiting + (8 + room) =
    more_waits (Part q.number (next_packet q 0 (take room q.left))) c.to_server
    ∙ (ap (λ n. size_of c.to_server.waiting + n) (packet_size_is (next_packet q 0 (take room q.left)))
    ∙ ap (λ n. size_of c.to_server.waiting + (8 + n)) taken) in
    subst (λ n. SizedBy (Begun (packets_of q.out + 1)) (is_cancelled q.fate) (length (drop room q.left)) n) (sym size)
    (subst (λ n. SizedBy (Begun (packets_of q.out + 1)) (is_cancelled q.fate) n (size_of c.to_server.waiting + (8 + room))) (sym (length-drop room q.left))
    (more_sized q.fate q.out room (length q.left) (size_of c.to_server.waiting) s r below (subst (λ o. SizedIn o (size_of c.to_server.waiting)) i h)))

-- A new request, where nothing waits.
asks_sized : (number lease n : ℕ) (q : Request) (c : Connection) → Fits q → is_idle c ≡ true → Sound c → Sized (asks number lease n q c)
asks_sized number lease n q c f e s =
    let quiet : Quiet c.to_server.waiting c.to_client.waiting c.parts c.due =
    ask_fits (phase c) (number_in c.current) c.answering c.to_server.waiting c.to_client.waiting c.parts c.due e s.0 in
    (message_size (header_descriptor c.mark c.heard) q f, let none : size_of c.to_server.waiting ≡ 0 = ap size_of quiet.0 in omega arith)

-- ---- Each move

sized_moves : (setup : Setup) (answers : Answers) → IsSetup setup → KeptOver setup answers IsEvent SoundWith (λ c ups downs. SizedIn c.current (size_of ups))
sized_moves setup answers u =
    let room : 504 ≤ setup.packet_size - 8 = (let least : 512 ≤ setup.packet_size = packet_least setup u in omega arith) in record {
      opened = λ lease. let none : 0 ≤ 0 = omega arith in none;
      stands = λ c m s h. h;
      asked = λ number lease n q c x is f h. asks_sized number lease n q c x is f;
      sent = λ last q c is at b f h. sends_sized last (setup.packet_size - 8) q c b room at is h;
      cancelled = λ p q c is at f h. cancels_sized_by p q c at is h;
      worked = λ c s ss is f h. works_sized c (s ∷ ss) h;
      at_server = λ c e es f h. server_sized answers c e es h;
      at_client = λ c e es f h. client_sized (record c { to_client = passed e c.to_client }) e h;
      server_waits = λ c es k m h. h;
      client_waits = λ c es k m h. h;
    }

sized_kept : (setup : Setup) (answers : Answers) → IsSetup setup → Lawful answers → Kept setup answers IsEvent (λ c. Sound c × Sized c)
sized_kept setup answers u l =
    by_moves_of setup answers IsEvent (Both SoundWith (λ c ups downs. SizedIn c.current (size_of ups))) cleaning_is_event
    (on_top setup answers IsEvent SoundWith (λ c ups downs. SizedIn c.current (size_of ups)) (sound_moves setup answers l) (sized_moves setup answers u))

few_underway : (c : Connection) → Sound c × Sized c → up_underway c ≤ 4094
few_underway c h = let few : size_of c.to_server.waiting ≤ 4094 = few_in c.current (size_of c.to_server.waiting) h.1 in omega arith

pub few_are_underway : (setup : Setup) (answers : Answers) → IsSetup setup → Lawful answers → AlwaysOf IsEvent setup answers FewUnderway
few_are_underway setup answers u l events x =
    each_follows (λ c. Sound c × Sized c) (λ c. up_underway c ≤ 4094) (world_after setup answers events new_world).connections few_underway
    (always_such (λ c. Sound c × Sized c) IsEvent setup answers events (sized_kept setup answers u l) x)

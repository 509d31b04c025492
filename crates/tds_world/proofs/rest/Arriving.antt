-- How one connection comes to rest: what is left shrinks, phase by phase.
use Rattle.std.proofs.Common.{◌≡◌, ℕ, zero, suc, List, [], ◌∷◌, ◌+◌, ◌-◌, ◌≤◌, ◌<◌, min, ltb, eqb, inl, inr, Bool, true, false, refl, sym, ap, subst, ◌∙◌, length, drop, arith, flat_map, Option, Some, None, option_map}
use Rattle.std.proofs.lemmas.List.{length-append}
use Rattle.std.proofs.lemmas.Grind.{flat_map-append}
use Rattle.tds_session.specs.Answer as answer
use Rattle.tds_session.specs.Answer.{Answers}
use Rattle.tds_world.specs.declared.event.Setup.{Setup}
use Rattle.tds_world.specs.Arrivals.{server_acts, client_acts, reach_server, reach_client, to_server, to_client, works, works_on}
use Rattle.tds_world.specs.Caller.{cancels, cancels_in, cancels_by}
use Rattle.tds_world.specs.Connection.{Connection, phase, up_underway, down_underway}
use Rattle.tds_world.specs.Entries.{Up, Part, Attention, Down, Step, Acknowledgement, up_bytes, down_bytes}
use Rattle.tds_world.specs.Lane.{Lane, passed, with_waiting, underway, IsLongestFront}
use Rattle.tds_world.specs.Lawful.{Lawful}
use Rattle.tds_world.specs.Phase.{Phase, Settled, Asked, Sending, Reading, Cancelling, phase_in, phase_of, is_settled}
use Rattle.tds_world.specs.Record.{Record, gives, acknowledges, runs, when, if_numbered}
use Rattle.tds_world.specs.rest.Rest.{times}
use Rattle.tds_world.proofs.events.Moves.{to_server_keeps, to_client_keeps, works_keeps, cancels_keeps}
use Rattle.tds_world.proofs.events.Words.{either}
use Rattle.tds_world.proofs.flow.Busy.{busy_down}
use Rattle.tds_world.proofs.flow.Fates.{is_sending, is_stopped, step_leaves}
use Rattle.tds_world.proofs.flow.Flow.{FlowIn, number_in, SoundWith, Sound}
use Rattle.tds_world.proofs.flow.Keeps.{down_act_at}
use Rattle.tds_world.proofs.flow.Sound.{sound_moves}
use Rattle.tds_world.proofs.packets.Deliveries.{Within, LanesWithin, to_server_reached, to_client_reached, within_moves}

-- ---- All that is underway arrives

none_left : {Entry : Type 0} (bytes : Entry → List ℕ) (entries : List Entry) (k : ℕ) (front rest : List Entry) → length (flat_map bytes entries) ≤ k → IsLongestFront bytes entries k front rest → rest ≡ []
none_left bytes entries k front [] m l = refl
none_left bytes entries k front (e ∷ es) m l =
    let below : k < length (flat_map bytes front) + length (bytes e) = l.longest e es refl in
    let whole : length (flat_map bytes entries) ≡ length (flat_map bytes front) + length (flat_map bytes (e ∷ es)) =
    ap (λ xs. length (flat_map bytes xs)) l.split
    ∙ (ap (λ bs. length bs) (flat_map-append bytes front (e ∷ es)) ∙ length-append (flat_map bytes front) (flat_map bytes (e ∷ es))) in
    let size : length (flat_map bytes (e ∷ es)) ≡ length (bytes e) + length (flat_map bytes es) = length-append (bytes e) (flat_map bytes es) in
    let z : length (flat_map bytes front) + (length (bytes e) + length (flat_map bytes es)) ≤ k = subst (λ x. length (flat_map bytes front) + x ≤ k) size (subst (λ x. x ≤ k) whole m) in
    absurd (omega arith)

all_come : {Entry : Type 0} (bytes : Entry → List ℕ) (lane : Lane Entry) (n : ℕ) → Within bytes lane → underway bytes lane ≤ n → length (flat_map bytes lane.waiting) ≤ lane.part + min n (underway bytes lane)
all_come bytes lane n h m =
    let whole : lane.part ≤ length (flat_map bytes lane.waiting) = h in
    let most : length (flat_map bytes lane.waiting) - lane.part ≤ n = m in
    omega arith

pub server_has_all : (answers : Answers) (n : ℕ) (c : Connection) → LanesWithin c → up_underway c ≤ n → (to_server answers n c).to_server.waiting ≡ []
server_has_all answers n c w m =
    let r = (to_server_reached answers n c w).0 in
    none_left up_bytes c.to_server.waiting (c.to_server.part + min n (up_underway c)) r.front (to_server answers n c).to_server.waiting (all_come up_bytes c.to_server n w.0 m) r.longest

pub client_has_all : (n : ℕ) (c : Connection) → LanesWithin c → down_underway c ≤ n → (to_client n c).to_client.waiting ≡ []
client_has_all n c w m =
    let r = (to_client_reached n c w).0 in
    none_left down_bytes c.to_client.waiting (c.to_client.part + min n (down_underway c)) r.front (to_client n c).to_client.waiting (all_come down_bytes c.to_client n w.1 m) r.longest

-- ---- Where nothing is left, nobody waits

nothing_waits : (p : Phase) (r a : ℕ) (parts : List ℕ) → is_sending p ≡ false → FlowIn p r a [] [] parts [] → p ≡ Settled
nothing_waits Settled r a parts s f = refl
nothing_waits Asked r a parts s f = absurd (cc)
nothing_waits Sending r a parts s f = absurd (cc)
nothing_waits Reading r a parts s f = elim f [
  | inl h ↦ absurd h.0
  | inr h ↦ absurd h.3
]
nothing_waits Cancelling r a parts s f = elim f [
  | inl h ↦ absurd h.0
  | inr k ↦ elim k [
    | inl h ↦ let z : [] ≡ Attention r ∷ [] = h.0 in absurd (cc)
    | inr h ↦ absurd h.3
  ]
]

pub nobody_waits : (c : Connection) → Sound c → is_sending (phase c) ≡ false → c.to_server.waiting ≡ [] → c.to_client.waiting ≡ [] → c.due ≡ [] → phase c ≡ Settled
nobody_waits c f s u d e =
    nothing_waits (phase c) (number_in c.current) c.answering c.parts s
    (subst (λ xs. FlowIn (phase c) (number_in c.current) c.answering xs [] c.parts []) u
    (subst (λ ys. FlowIn (phase c) (number_in c.current) c.answering c.to_server.waiting ys c.parts []) d
    (subst (λ zs. FlowIn (phase c) (number_in c.current) c.answering c.to_server.waiting c.to_client.waiting c.parts zs) e f.0)))

-- ---- What each move leaves as it is

-- A delivery to the server: the requests.
pub server_leaves_newest : (answers : Answers) (c : Connection) (e : Up) → (server_acts answers c e).current ≡ c.current
server_leaves_newest answers c (Part r p) = refl
server_leaves_newest answers c e = refl

reach_server_leaves : (answers : Answers) (c : Connection) (es : List Up) (k : ℕ) → (reach_server answers c es k).current ≡ c.current
reach_server_leaves answers c [] k = refl
reach_server_leaves answers c (e ∷ es) k =
    let p : Connection = record c { to_server = passed e c.to_server } in
    either (λ (d : Connection). d.current ≡ c.current) (ltb k (length (up_bytes e))) (record c { to_server = with_waiting (e ∷ es) k c.to_server }) (reach_server answers (server_acts answers p e) es (k - length (up_bytes e))) refl
    (reach_server_leaves answers (server_acts answers p e) es (k - length (up_bytes e)) ∙ server_leaves_newest answers p e)

pub to_server_leaves : (answers : Answers) (n : ℕ) (c : Connection) → (to_server answers n c).current ≡ c.current
to_server_leaves answers n c = reach_server_leaves answers c c.to_server.waiting (c.to_server.part + min n (up_underway c))

-- Work: the phase, and what waits for the server.
runs_phase : (o : Option Record) (k : ℕ) (f : Record → Record) → ((q : Record) → phase_of (f q) ≡ phase_of q) → phase_in (option_map (if_numbered k f) o) ≡ phase_in o
runs_phase None k f g = refl
runs_phase (Some q) k f g = by_test (eqb q.number k)
  where
    by_test : (b : Bool) → phase_of (when b f q) ≡ phase_of q
    by_test true = g q
    by_test false = refl

pub works_phase : (c : Connection) (due : List answer.Step) → phase (works_on c due) ≡ phase c
works_phase c [] = refl
works_phase c (s ∷ ss) = runs_phase c.current c.answering (runs c.session s) (λ q. refl)

works_waiting : (c : Connection) (due : List answer.Step) → (works_on c due).to_server ≡ c.to_server
works_waiting c [] = refl
works_waiting c (s ∷ ss) = refl

works_due : (c : Connection) (due : List answer.Step) → c.due ≡ due → (works_on c due).due ≡ drop 1 due
works_due c [] e = e
works_due c (s ∷ ss) e = refl

-- A delivery to the client: one that has nothing to send gets nothing to send.
of_either : (P : Record → Type 0) (b : Bool) (f : Record → Record) (q : Record) → P (f q) → P q → P (when b f q)
of_either P true f q g h = g
of_either P false f q g h = h

client_leaves_by : (o : Option Record) (e : Down) (c : Connection) → c.current ≡ o → is_settled (phase_in o) ≡ false → is_sending (phase_in o) ≡ false → is_sending (phase (client_acts c e)) ≡ false
client_leaves_by None e c i b h = absurd (cc)
client_leaves_by (Some p) (Step q n s) c i b h =
    subst (λ o. is_sending (phase_in (option_map (if_numbered q (gives s)) o)) ≡ false) (sym i)
    (of_either (λ x. is_sending (phase_of x) ≡ false) (eqb p.number q) (gives s) p (step_leaves p.fate s.last p.out b h) h)
client_leaves_by (Some p) (Acknowledgement q n changes) c i b h =
    subst (λ o. is_sending (phase_in (option_map (if_numbered q acknowledges) o)) ≡ false) (sym i)
    (of_either (λ x. is_sending (phase_of x) ≡ false) (eqb p.number q) acknowledges p refl h)

client_leaves : (c : Connection) (e : Down) (es : List Down) → SoundWith c c.to_server.waiting (e ∷ es) → is_sending (phase c) ≡ false → is_sending (phase (client_acts (record c { to_client = passed e c.to_client }) e)) ≡ false
client_leaves c e es f h =
    client_leaves_by c.current e (record c { to_client = passed e c.to_client }) refl
    (busy_down (phase c) (number_in c.current) c.answering c.to_server.waiting e es c.parts c.due f.0) h

client_due : (c : Connection) (e : Down) → (client_acts c e).due ≡ c.due
client_due c (Step r place s) = refl
client_due c (Acknowledgement r place changes) = refl

reach_client_leaves : (c : Connection) (es : List Down) (k : ℕ) → SoundWith c c.to_server.waiting es → is_sending (phase c) ≡ false → (is_sending (phase (reach_client c es k)) ≡ false) × ((reach_client c es k).due ≡ c.due)
reach_client_leaves c [] k f h = (h, refl)
reach_client_leaves c (e ∷ es) k f h =
    let p : Connection = record c { to_client = passed e c.to_client } in
    let later = reach_client_leaves (client_acts p e) es (k - length (down_bytes e)) (down_act_at c e es f) (client_leaves c e es f h) in
    either (λ d. (is_sending (phase d) ≡ false) × (d.due ≡ c.due)) (ltb k (length (down_bytes e))) (record c { to_client = with_waiting (e ∷ es) k c.to_client }) (reach_client (client_acts p e) es (k - length (down_bytes e))) (h, refl)
    (later.0, later.1 ∙ client_due p e)

pub to_client_leaves : (n : ℕ) (c : Connection) → Sound c → is_sending (phase c) ≡ false → (is_sending (phase (to_client n c)) ≡ false) × ((to_client n c).due ≡ c.due)
to_client_leaves n c f h = reach_client_leaves c c.to_client.waiting (c.to_client.part + min n (down_underway c)) f h

-- ---- What each act keeps

-- Sound, and no more has come than there is.
abbrev pub IsGood : Connection → Type 0
IsGood c = Sound c × LanesWithin c

abbrev OfLanes : Connection → List Up → List Down → Type 0
OfLanes c ups downs = LanesWithin c

pub server_good : (setup : Setup) (answers : Answers) (n : ℕ) (c : Connection) → Lawful answers → IsGood c → IsGood (to_server answers n c)
server_good setup answers n c l g = (
  to_server_keeps setup answers SoundWith (sound_moves setup answers l) n c g.0,
  to_server_keeps setup answers OfLanes (within_moves setup answers) n c g.1,
)

pub client_good : (setup : Setup) (answers : Answers) (n : ℕ) (c : Connection) → Lawful answers → IsGood c → IsGood (to_client n c)
client_good setup answers n c l g = (
  to_client_keeps setup answers SoundWith (sound_moves setup answers l) n c g.0,
  to_client_keeps setup answers OfLanes (within_moves setup answers) n c g.1,
)

pub works_good : (setup : Setup) (answers : Answers) (c : Connection) → Lawful answers → IsGood c → IsGood (works c)
works_good setup answers c l g = (
  works_keeps setup answers SoundWith (sound_moves setup answers l) c g.0,
  works_keeps setup answers OfLanes (within_moves setup answers) c g.1,
)

pub cancels_good : (setup : Setup) (answers : Answers) (c : Connection) → Lawful answers → IsGood c → IsGood (cancels c)
cancels_good setup answers c l g = (
  cancels_keeps setup answers SoundWith (sound_moves setup answers l) c g.0,
  cancels_keeps setup answers OfLanes (within_moves setup answers) c g.1,
)

-- ---- To rest

-- Where nothing waits for the server and nothing is due.
comes_to_client : (setup : Setup) (answers : Answers) (n : ℕ) (c : Connection) → Lawful answers → IsGood c → is_sending (phase c) ≡ false → c.to_server.waiting ≡ [] → c.due ≡ [] → down_underway c ≤ n → phase (to_client n c) ≡ Settled
comes_to_client setup answers n c l g s u d m =
    let left = to_client_leaves n c g.0 s in
    nobody_waits (to_client n c) (client_good setup answers n c l g).0 left.0
    (ap (λ (l : Lane Up). l.waiting) (to_client_reached n c g.1).1 ∙ u)
    (client_has_all n c g.1 m) (left.1 ∙ d)

pub stopped_quiet : (p : Phase) → is_stopped p ≡ true → is_sending p ≡ false
stopped_quiet Settled e = refl
stopped_quiet Asked e = absurd (cc)
stopped_quiet Sending e = absurd (cc)
stopped_quiet Reading e = refl
stopped_quiet Cancelling e = refl

-- Its answer is stopped when all has come to the server.
stopped_due : (p : Phase) (r a : ℕ) (downs : List Down) (parts : List ℕ) (due : List answer.Step) → is_stopped p ≡ true → FlowIn p r a [] downs parts due → due ≡ []
stopped_due Settled r a downs parts due e f = f.3
stopped_due Asked r a downs parts due e f = absurd (cc)
stopped_due Sending r a downs parts due e f = absurd (cc)
stopped_due Reading r a downs parts due e f = absurd (cc)
stopped_due Cancelling r a downs parts due e f = elim f [
  | inl h ↦ absurd h.0
  | inr k ↦ elim k [
    | inl h ↦ let z : [] ≡ Attention r ∷ [] = h.0 in absurd (cc)
    | inr h ↦ h.2
  ]
]

-- One that is stopped already stays as it is.
stays_by : (p : Phase) (q : Record) (c : Connection) → is_stopped p ≡ true → cancels_by p q c ≡ c
stays_by Settled q c e = refl
stays_by Cancelling q c e = refl
stays_by Asked q c e = absurd (cc)
stays_by Sending q c e = absurd (cc)
stays_by Reading q c e = absurd (cc)

stays_in : (o : Option Record) (c : Connection) → is_stopped (phase_in o) ≡ true → cancels_in o c ≡ c
stays_in None c e = refl
stays_in (Some q) c e = stays_by (phase_of q) q c e

pub stopped_stays : (c : Connection) → is_stopped (phase c) ≡ true → cancels c ≡ c
stopped_stays c e = stays_in c.current c e

-- What is stopped comes to rest when all has arrived.
pub stops : (setup : Setup) (answers : Answers) (up down : ℕ) (c : Connection) → Lawful answers → IsGood c → is_stopped (phase c) ≡ true → up_underway c ≤ up → down_underway (to_server answers up c) ≤ down → phase (to_client down (to_server answers up c)) ≡ Settled
stops setup answers up down c l g s m k =
    let d : Connection = to_server answers up c in
    let same : phase d ≡ phase c = ap (λ o. phase_in o) (to_server_leaves answers up c) in
    let good : IsGood d = server_good setup answers up c l g in
    let none : d.to_server.waiting ≡ [] = server_has_all answers up c g.1 m in
    let still : is_stopped (phase d) ≡ true = ap is_stopped same ∙ s in
    comes_to_client setup answers down d l good (stopped_quiet (phase d) still) none
    (stopped_due (phase d) (number_in d.current) d.answering d.to_client.waiting d.parts d.due still
    (subst (λ xs. FlowIn (phase d) (number_in d.current) d.answering xs d.to_client.waiting d.parts d.due) none good.0.0)) k

-- ---- Without a cancel

-- Work, as often as steps are due.
drop_one : (A : Type 0) (xs : List A) (n : ℕ) → length xs ≤ suc n → length (drop 1 xs) ≤ n
drop_one A [] n h = omega arith
drop_one A (x ∷ xs) n h = let m : suc (length xs) ≤ suc n = h in omega arith

none_of : (A : Type 0) (xs : List A) → length xs ≤ 0 → xs ≡ []
none_of A [] h = refl
none_of A (x ∷ xs) h = let m : suc (length xs) ≤ 0 = h in absurd (omega arith)

pub record Worked (c d : Connection) : Type 0 where
  pub good : IsGood d
  pub phase : phase d ≡ phase c
  pub waiting : d.to_server ≡ c.to_server
  pub due : d.due ≡ []

pub all_worked : (setup : Setup) (answers : Answers) (n : ℕ) (c : Connection) → Lawful answers → IsGood c → length c.due ≤ n → Worked c (times n works c)
all_worked setup answers zero c l g m = record { good = g; phase = refl; waiting = refl; due = none_of answer.Step c.due m }
all_worked setup answers (suc n) c l g m =
    let later = all_worked setup answers n (works c) l (works_good setup answers c l g)
    (subst (λ ss. length ss ≤ n) (sym (works_due c c.due refl)) (drop_one answer.Step c.due n m)) in
    record {
      good = later.good;
      phase = later.phase ∙ works_phase c c.due;
      waiting = later.waiting ∙ works_waiting c c.due;
      due = later.due;
    }

-- One that has nothing to send comes to rest by deliveries and work.
pub finishes : (setup : Setup) (answers : Answers) (up steps down : ℕ) (c : Connection) → Lawful answers → IsGood c → is_sending (phase c) ≡ false → up_underway c ≤ up → length (to_server answers up c).due ≤ steps → down_underway (times steps works (to_server answers up c)) ≤ down → phase (to_client down (times steps works (to_server answers up c))) ≡ Settled
finishes setup answers up steps down c l g s m k j =
    let d : Connection = to_server answers up c in
    let worked : Worked d (times steps works d) = all_worked setup answers steps d l (server_good setup answers up c l g) k in
    comes_to_client setup answers down (times steps works d) l worked.good
    (ap is_sending worked.phase ∙ (ap (λ o. is_sending (phase_in o)) (to_server_leaves answers up c) ∙ s))
    (ap (λ (lane : Lane Up). lane.waiting) worked.waiting ∙ server_has_all answers up c g.1 m) worked.due j

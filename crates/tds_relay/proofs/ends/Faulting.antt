-- What is told of why an application or a connection is closed was met, along steps.
use Rattle.std.proofs.Common.{◌≡◌, ◌≢◌, ◌∙◌, ◌==◌, ◌⊎◌, ℕ, Bool, true, false, List, [], ◌∷◌, inl, inr, refl, sym, ap}
use Rattle.std.specs.Prelude.{Option, Some, None, Result, Ok, Err, if◌then◌else◌, option_map}
use Rattle.std.proofs.lemmas.Bool.{cases_eq, eqb-true}
use Rattle.tds_packet.specs.declared.status.Reset.{Reset}
use Rattle.tds_front.specs.declared.fault.FrontFault.{FrontFault}
use Rattle.tds_front.specs.declared.front.Fed.{Fed}
use Rattle.tds_front.specs.declared.front.Front.{Front}
use Rattle.tds_front.specs.Bytes.{fed}
use Rattle.tds_listen.specs.declared.fault.ListenFault.{ListenFault}
use Rattle.tds_wire.specs.declared.told.Token.{Token}
use Rattle.tds_service.specs.History.{Done}
use Rattle.tds_service.specs.Line as line
use Rattle.tds_service.specs.Line.{Answer, Packet}
use Rattle.tds_relay.specs.declared.pool.coming.What.{What}
use Rattle.tds_relay.specs.declared.pool.coming.What.TheVariants as whats
use Rattle.tds_relay.specs.declared.fault.Broken.{Broken}
use Rattle.tds_relay.specs.Pool as pool
use Rattle.tds_relay.specs.Pool.{Pool, Event, last_broken, broken_of, fault_among, fault_on, turn, whose}
use Rattle.tds_relay.specs.Faults.{AnswersFault, AreWrong, BreaksBy, BreaksOn, IsMet, IsMetOn, why_at, why_of}
use Rattle.tds_relay.specs.Core as core
use Rattle.tds_relay.specs.Core.{End, Open, Over, Core, HasEntered, IsQuiet, MayDoAlone, MayMove, Move, closes, dones_of_part, end_at, end_behind, event_if, feeds, end_goes_on, holder, lets_go, moved, sent_by, stops_of, end_told, what_in}
use Rattle.tds_relay.specs.Machine.{Machine, Step, Makes, Hands, Takes, Writes, Admits, Removes, MayAll, MayStep, after}
use Rattle.tds_relay.proofs.ends.Ending.{end_behind_is, end_by, whose_by}
use Rattle.tds_relay.proofs.ends.Modes.{IsNoPacket, broken_as, broken_behind}

-- ---- Of an application: its bytes alone do that

abbrev Keeps : (End → End) → Type 0
Keeps by = (end : End) → why_of (Some (by end)) ≡ why_of (Some end)

goes_keeps : (packets : List Packet) → Keeps (end_goes_on packets)
goes_keeps [] end = refl
goes_keeps (packet ∷ packets) (Open front withdrawn asks) = refl
goes_keeps (packet ∷ packets) (Over why) = refl

lets_keeps : Keeps lets_go
lets_keeps (Open front withdrawn asks) = refl
lets_keeps (Over why) = refl

closes_keeps : Keeps closes
closes_keeps (Open front withdrawn asks) = refl
closes_keeps (Over why) = refl

told_keeps : (what : What) → Keeps (end_told what)
told_keeps whats.Goes (Open front withdrawn asks) = refl
told_keeps whats.Finished (Open front withdrawn asks) = refl
told_keeps whats.Acknowledged (Open front true asks) = refl
told_keeps whats.Acknowledged (Open front false asks) = refl
told_keeps whats.Closed (Open front withdrawn asks) = refl
told_keeps whats.Goes (Over why) = refl
told_keeps whats.Finished (Over why) = refl
told_keeps whats.Acknowledged (Over why) = refl
told_keeps whats.Closed (Over why) = refl

map_keeps : (by : End → End) → Keeps by → (o : Option End) → why_of (option_map by o) ≡ why_of o
map_keeps by keeps None = refl
map_keeps by keeps (Some end) = keeps end

if_keeps : (by : End → End) → Keeps by → (b : Bool) (o : Option End) → why_of (if b then option_map by o else o) ≡ why_of o
if_keeps by keeps true o = map_keeps by keeps o
if_keeps by keeps false o = refl

whose_keeps : (by : End → End) → Keeps by → (key : ℕ) (who : Option ℕ) (o : Option End) → why_of (whose_by key who by o) ≡ why_of o
whose_keeps by keeps key None o = refl
whose_keeps by keeps key (Some other) o = if_keeps by keeps (other == key) o

quiet_why : (key : ℕ) (h : Core) (move : Move) → IsQuiet move → (o : Option End) → why_of (end_by key h move o) ≡ why_of o
quiet_why key h (core.Does event) quiet o = refl
quiet_why key h (core.Sends k action) quiet o = if_keeps (end_goes_on (sent_by h.pool (pool.Does k action))) (goes_keeps (sent_by h.pool (pool.Does k action))) (k == key) o
quiet_why key h (core.LetsGo k parks gives way) quiet o = if_keeps lets_go lets_keeps (k == key) o
quiet_why key h (core.Loses number) quiet o = whose_keeps closes closes_keeps key (holder h.pool number) o
quiet_why key h (core.Replaces number) quiet o = whose_keeps lets_go lets_keeps key (holder h.pool number) o
quiet_why key h (core.Comes number part way) quiet o = absurd quiet
quiet_why key h (core.Feeds k bytes) quiet o = absurd quiet
quiet_why key h (core.Closes k) quiet o = if_keeps closes closes_keeps (k == key) o
quiet_why key h (core.Enters k ends) quiet o = absurd quiet
quiet_why key h (core.Quits k gives way) quiet o = absurd quiet

brings_why : (front : Front) (withdrawn : Bool) (asks : Option Reset) (fault : FrontFault) (brings : Result Fed FrontFault) → why_of (Some (end_behind front withdrawn asks brings)) ≡ Some fault → brings ≡ Err fault
brings_why front withdrawn asks fault (Ok fed) e = absurd (let u : ⊥ = cc in u)
brings_why front withdrawn asks fault (Err was) e = let same : was ≡ fault = cc in ap (λ (x : FrontFault). let r : Result Fed FrontFault = Err x in r) same

fed_why : (bytes : List ℕ) (fault : FrontFault) (o : Option End) → why_of (option_map (feeds bytes) o) ≡ Some fault → (why_of o ≡ Some fault) ⊎ AreWrong fault bytes o
fed_why bytes fault None e = inl e
fed_why bytes fault (Some (Open front withdrawn asks)) e = inr (brings_why (fed front bytes).front withdrawn asks fault (fed front bytes).brings e)
fed_why bytes fault (Some (Over why)) e = inl e

takes_why : (key k : ℕ) (b : Bool) (bytes : List ℕ) (fault : FrontFault) (h : Machine) → (k == key) ≡ b → why_of (if b then option_map (feeds bytes) (end_at h.core.ends key) else end_at h.core.ends key) ≡ Some fault
    → (why_at key h ≡ Some fault) ⊎ BreaksBy key fault h (Takes k bytes)
takes_why key k true bytes fault h is e = elim (fed_why bytes fault (end_at h.core.ends key) e) [
  | inl same ↦ inl same
  | inr wrong ↦ inr (eqb-true k key is, wrong)
]
takes_why key k false bytes fault h is e = inl e

enters_why : (key k : ℕ) (fault : FrontFault) (h : Machine) (ends : core.EndList) → (key ≡ k) ⊎ (key ≢ k) → HasEntered k h.core.ends ends → why_of (end_at ends key) ≡ Some fault → why_at key h ≡ Some fault
enters_why key k fault h ends (inl same) entered e =
    absurd (let none : why_of (end_at ends key) ≡ None = ap (λ (x : ℕ). why_of (end_at ends x)) same ∙ ap why_of entered.begins in let u : Some fault ≡ None = sym e ∙ none in let v : ⊥ = cc in v)
enters_why key k fault h ends (inr differs) entered e = ap why_of (sym (entered.others_stay key differs)) ∙ e

quits_why : (b : Bool) (fault : FrontFault) (o : Option End) → why_of (if b then None else o) ≡ Some fault → why_of o ≡ Some fault
quits_why true fault o e = absurd (let u : ⊥ = cc in u)
quits_why false fault o e = e

-- where its end is that behind a move
abbrev Behind : ℕ → Machine → Move → Option End
Behind key h move = end_by key h.core move (end_at h.core.ends key)

behind_why : (key : ℕ) (fault : FrontFault) (h : Machine) (move : Move) → why_of (end_at (moved h.core move).ends key) ≡ Some fault → why_of (Behind key h move) ≡ Some fault
behind_why key fault h move e = sym (ap why_of (end_behind_is key h.core move)) ∙ e

one_why : (key : ℕ) (fault : FrontFault) (h : Machine) (step : Step) → MayStep h step → why_at key (after h step) ≡ Some fault → (why_at key h ≡ Some fault) ⊎ BreaksBy key fault h step
one_why key fault h (Makes move) may e = inl (sym (quiet_why key h.core move may.1 (end_at h.core.ends key)) ∙ behind_why key fault h move e)
one_why key fault h (Hands number header content part way manner) may e =
    let what = what_in (dones_of_part h.core.pool number part) in
    inl (sym (whose_keeps (end_told what) (told_keeps what) key (whose h.core.pool number) (end_at h.core.ends key)) ∙ behind_why key fault h (core.Comes number part way) e)
one_why key fault h (Takes k bytes) may e = takes_why key k (k == key) bytes fault h refl (behind_why key fault h (core.Feeds k bytes) e)
one_why key fault h (Writes k count) may e = inl e
one_why key fault h (Admits k ends queues) may e = inl (enters_why key k fault h ends (cases_eq key k) may.0 e)
one_why key fault h (Removes k gives way) may e = inl (quits_why (k == key) fault (end_at h.core.ends key) (behind_why key fault h (core.Quits k gives way) e))

pub is_met : (key : ℕ) (fault : FrontFault) (h : Machine) (steps : List Step) → MayAll h steps → IsMet key fault h steps
is_met key fault h [] may = λ e. inl e
is_met key fault h (step ∷ steps) may = λ e.
    elim (is_met key fault (after h step) steps may.1 e) [
      | inl before ↦ elim (one_why key fault h step may.0 before) [
        | inl first ↦ inl first
        | inr breaks ↦ inr (inl breaks)
      ]
      | inr later ↦ inr (inr later)
    ]

-- ---- Of a connection: its packets alone do that

if_fault : (n number : ℕ) (b : Bool) (was fault : ListenFault) → (n == number) ≡ b → (if b then Some was else None) ≡ Some fault → (n ≡ number) × (was ≡ fault)
if_fault n number true was fault is e = (eqb-true n number is, let same : was ≡ fault = cc in same)
if_fault n number false was fault is e = absurd (let u : ⊥ = cc in u)

abbrev MetBy : ℕ → ℕ → ListenFault → Answer → Option Broken → Type 0
MetBy n number fault answer had = (fault_among number had ≡ Some fault) ⊎ ((n ≡ number) × (answer ≡ line.Fault fault))

answer_met : (n number : ℕ) (fault : ListenFault) (answer : Answer) (had : Option Broken) → fault_among number (broken_of n answer had) ≡ Some fault → MetBy n number fault answer had
answer_met n number fault (line.Fault was) had e =
    let both = if_fault n number (n == number) was fault refl e in
    inr (both.0, ap (λ (x : ListenFault). line.Fault x) both.1)
answer_met n number fault (line.Refused why) had e = inl e
answer_met n number fault line.Marked had e = inl e
answer_met n number fault (line.Asked request descriptor) had e = inl e
answer_met n number fault line.Sent had e = inl e
answer_met n number fault line.Nothing had e = inl e
answer_met n number fault line.Already had e = inl e
answer_met n number fault (line.Unsent request) had e = inl e
answer_met n number fault (line.Stopped request) had e = inl e
answer_met n number fault line.More had e = inl e
answer_met n number fault (line.Finished request) had e = inl e
answer_met n number fault (line.Acked request) had e = inl e
answer_met n number fault line.Lost had e = inl e

dones_met : (n number : ℕ) (fault : ListenFault) (dones : List (Done Token)) (had : Option Broken) → fault_among number (last_broken n dones had) ≡ Some fault
    → (fault_among number had ≡ Some fault) ⊎ ((n ≡ number) × AnswersFault fault dones)
dones_met n number fault [] had e = inl e
dones_met n number fault (done ∷ dones) had e = answer_met n number fault done.answer had e

alone_no_packet : (h : Core) (event : Event) → MayDoAlone h event → IsNoPacket event
alone_no_packet h (pool.Waits key) may = tt
alone_no_packet h (pool.Unwaits key) may = tt
alone_no_packet h pool.Serves may = tt
alone_no_packet h (pool.Brings gives way) may = tt
alone_no_packet h (pool.Does key action) may = tt
alone_no_packet h (pool.Leaves key gives way) may = tt
alone_no_packet h (pool.Renews key resumes) may = tt
alone_no_packet h (pool.Comes number part way) may = may
alone_no_packet h (pool.Loses number) may = tt

quiet_on : (h : Core) (move : Move) → MayMove h move → IsQuiet move → (moved h move).pool.broken ≡ h.pool.broken
quiet_on h (core.Does event) may quiet = broken_as h.pool event (alone_no_packet h event may)
quiet_on h (core.Sends k action) may quiet = broken_as h.pool (pool.Does k action) tt
quiet_on h (core.LetsGo k parks gives way) may quiet = broken_as h.pool (pool.Leaves k gives way) tt
quiet_on h (core.Loses number) may quiet = broken_as h.pool (pool.Loses number) tt
quiet_on h (core.Replaces number) may quiet = broken_as h.pool (pool.Loses number) tt
quiet_on h (core.Comes number part way) may quiet = absurd quiet
quiet_on h (core.Feeds k bytes) may quiet = absurd quiet
quiet_on h (core.Closes k) may quiet = refl
quiet_on h (core.Enters k ends) may quiet = absurd quiet
quiet_on h (core.Quits k gives way) may quiet = absurd quiet

stops_on : (d : Pool) (key : ℕ) (b : Bool) → (pool.pool_after d (event_if b (pool.Does key pool.Stops))).broken ≡ d.broken
stops_on d key true = broken_as d (pool.Does key pool.Stops) tt
stops_on d key false = refl

one_on : (number : ℕ) (fault : ListenFault) (h : Machine) (step : Step) → MayStep h step → fault_on number (after h step).core.pool ≡ Some fault → (fault_on number h.core.pool ≡ Some fault) ⊎ BreaksOn number fault h step
one_on number fault h (Makes move) may e = inl (ap (fault_among number) (sym (quiet_on h.core move may.0 may.1)) ∙ e)
one_on number fault h (Hands n header content part way manner) may e =
    dones_met n number fault (dones_of_part h.core.pool n part) h.core.pool.broken (ap (fault_among number) (sym (broken_behind h.core.pool n part way)) ∙ e)
one_on number fault h (Takes k bytes) may e = inl (ap (fault_among number) (sym (stops_on h.core.pool k (stops_of bytes (end_at h.core.ends k)))) ∙ e)
one_on number fault h (Writes k count) may e = inl e
one_on number fault h (Admits k ends queues) may e = inl e
one_on number fault h (Removes k gives way) may e = inl (ap (fault_among number) (sym (broken_as h.core.pool (pool.Leaves k gives way) tt)) ∙ e)

pub is_met_on : (number : ℕ) (fault : ListenFault) (h : Machine) (steps : List Step) → MayAll h steps → IsMetOn number fault h steps
is_met_on number fault h [] may = λ e. inl e
is_met_on number fault h (step ∷ steps) may = λ e.
    elim (is_met_on number fault (after h step) steps may.1 e) [
      | inl before ↦ elim (one_on number fault h step may.0 before) [
        | inl first ↦ inl first
        | inr breaks ↦ inr (inl breaks)
      ]
      | inr later ↦ inr (inr later)
    ]

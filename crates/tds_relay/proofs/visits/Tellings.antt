-- An application is told of each reset that it asks for, once, along steps.
use Rattle.std.proofs.Common.{◌≡◌, ◌≢◌, ◌∙◌, ◌==◌, ◌&&◌, not, ℕ, Bool, true, false, List, [], ◌∷◌, ◌++◌, refl, sym, ap, subst}
use Rattle.std.specs.Prelude.{Option, Some, None, Result, Ok, Err, is_some, if◌then◌else◌, option_map}
use Rattle.std.proofs.lemmas.Bool.{eqb-true}
use Rattle.tds_packet.specs.declared.status.Reset.{Reset}
use Rattle.tds_front.specs.declared.fault.FrontFault.{FrontFault}
use Rattle.tds_front.specs.declared.front.Fed.{Fed}
use Rattle.tds_front.specs.declared.front.Front.{Front}
use Rattle.tds_front.specs.declared.front.Said.{Said}
use Rattle.tds_front.specs.declared.front.Said.TheVariants as said
use Rattle.tds_front.specs.Bytes.{fed, new_front}
use Rattle.tds_wire.specs.declared.told.Token.{Token}
use Rattle.tds_service.specs.Line.{Packet}
use Rattle.tds_service.specs.Parts.{Part}
use Rattle.tds_relay.specs.declared.pool.coming.What.{What}
use Rattle.tds_relay.specs.declared.pool.coming.What.TheVariants as whats
use Rattle.tds_relay.specs.Pool as pool
use Rattle.tds_relay.specs.Pool.{Sharing, owes_reset, whose}
use Rattle.tds_relay.specs.Giving.{StaysAll, StaysBy, Visit, machine_at_visit}
use Rattle.tds_relay.specs.Core as core
use Rattle.tds_relay.specs.Core.{End, Open, Over, Core, HasEntered, IsQuiet, Move, asks_by, closes, dones_of_part, end_at, end_behind, ends_behind, feeds, end_goes_on, holder, lets_go, moved, sent_by, end_told, what_in}
use Rattle.tds_relay.specs.Machine as machine
use Rattle.tds_relay.specs.Machine.{Machine, IsHanded, IsTold, Manner, MayAll, MayHand, MayStep, Step, Makes, Hands, Takes, Writes, Admits, Removes, Whole, Without, Withheld, after, after_all, end_whose, hears_of_reset, is_said, new_machine}
use Rattle.tds_relay.specs.Promises.{one_if}
use Rattle.tds_relay.specs.Telling.{Asks, AsksJust, ResetEvent, Hears, IsToldOnce, TakesBack, reset_asked, asked_by, asked_in, happen, happens, happens_to, heard_in, if_its, wants}
use Rattle.tds_relay.proofs.ends.Ending.{end_behind_is, end_by, whose_by}
use Rattle.tds_relay.proofs.visits.Stays.{came}

-- ---- Where it is at

-- What happens leads there.
pub record Leads (asks : Option Reset) (events : List ResetEvent) (o : Option End) : Type 0 where
  pub once : (later : List ResetEvent) → IsToldOnce (is_some (wants asks events)) later → IsToldOnce (is_some asks) (events ++ later)
  pub at : AsksJust (wants asks events) o

nothing : (asks : Option Reset) (o : Option End) → AsksJust asks o → Leads asks [] o
nothing asks o at = record { once = λ later told. told; at = at }

-- ---- A move that leaves that

abbrev Keeps : (End → End) → Type 0
Keeps by = (asks : Option Reset) (end : End) → AsksJust asks (Some end) → AsksJust asks (Some (by end))

goes_keeps : (packets : List Packet) → Keeps (end_goes_on packets)
goes_keeps [] asks end at = at
goes_keeps (packet ∷ packets) asks (Open front withdrawn is) at = at
goes_keeps (packet ∷ packets) asks (Over why) at = tt

lets_keeps : Keeps lets_go
lets_keeps asks (Open front withdrawn is) at = at
lets_keeps asks (Over why) at = tt

closes_keeps : Keeps closes
closes_keeps asks (Open front withdrawn is) at = tt
closes_keeps asks (Over why) at = tt

map_keeps : (by : End → End) → Keeps by → (asks : Option Reset) (o : Option End) → AsksJust asks o → AsksJust asks (option_map by o)
map_keeps by keeps asks None at = tt
map_keeps by keeps asks (Some end) at = keeps asks end at

if_keeps : (by : End → End) → Keeps by → (b : Bool) (asks : Option Reset) (o : Option End) → AsksJust asks o → AsksJust asks (if b then option_map by o else o)
if_keeps by keeps true asks o at = map_keeps by keeps asks o at
if_keeps by keeps false asks o at = at

whose_keeps : (by : End → End) → Keeps by → (key : ℕ) (who : Option ℕ) (asks : Option Reset) (o : Option End) → AsksJust asks o → AsksJust asks (whose_by key who by o)
whose_keeps by keeps key None asks o at = at
whose_keeps by keeps key (Some other) asks o at = if_keeps by keeps (other == key) asks o at

quiet_at : (key : ℕ) (h : Core) (move : Move) → IsQuiet move → (asks : Option Reset) (o : Option End) → AsksJust asks o → AsksJust asks (end_by key h move o)
quiet_at key h (core.Does event) quiet asks o at = at
quiet_at key h (core.Sends k action) quiet asks o at = if_keeps (end_goes_on (sent_by h.pool (pool.Does k action))) (goes_keeps (sent_by h.pool (pool.Does k action))) (k == key) asks o at
quiet_at key h (core.LetsGo k parks gives way) quiet asks o at = if_keeps lets_go lets_keeps (k == key) asks o at
quiet_at key h (core.Loses number) quiet asks o at = whose_keeps closes closes_keeps key (holder h.pool number) asks o at
quiet_at key h (core.Replaces number) quiet asks o at = whose_keeps lets_go lets_keeps key (holder h.pool number) asks o at
quiet_at key h (core.Comes number part way) quiet asks o at = absurd quiet
quiet_at key h (core.Feeds k bytes) quiet asks o at = absurd quiet
quiet_at key h (core.Closes k) quiet asks o at = if_keeps closes closes_keeps (k == key) asks o at
quiet_at key h (core.Enters k ends) quiet asks o at = absurd quiet
quiet_at key h (core.Quits k gives way) quiet asks o at = absurd quiet

-- ---- A packet

-- nothing is handed on where its end doesn't say it
withheld_leads : (what : What) (asks : Option Reset) (withdrawn : Bool) (is : Option Reset) (front : Front) → is_said what (Some (Open front withdrawn is)) ≡ false → is ≡ asks → AsksJust asks (Some (end_told what (Open front withdrawn is)))
withheld_leads whats.Goes asks true is front said at = at
withheld_leads whats.Finished asks true is front said at = at
withheld_leads whats.Acknowledged asks true is front said at = at
withheld_leads whats.Closed asks withdrawn is front said at = tt
withheld_leads whats.Goes asks false is front said at = absurd (let u : ⊥ = cc in u)
withheld_leads whats.Finished asks false is front said at = absurd (let u : ⊥ = cc in u)
withheld_leads whats.Acknowledged asks false is front said at = absurd (let u : ⊥ = cc in u)

-- it has heard one
heard_at : (what : What) (withdrawn : Bool) (is : Option Reset) (front : Front) → is_said what (Some (Open front withdrawn is)) ≡ true → AsksJust None (Some (end_told what (Open front withdrawn is)))
heard_at whats.Goes false is front said = refl
heard_at whats.Finished false is front said = refl
heard_at whats.Acknowledged false is front said = refl
heard_at whats.Closed false is front said = tt
heard_at what true is front said = absurd (let u : ⊥ = cc in u)

abbrev one_of : Bool → Bool → ℕ
one_of asks acknowledges = one_if (asks && not acknowledges)

-- with that it was told so often
one_leads : (asks : Option Reset) (acknowledges : Bool) (times : ℕ) (o : Option End) → times ≡ one_of (is_some asks) acknowledges → AsksJust None o → Leads asks (Hears acknowledges times ∷ []) o
one_leads asks acknowledges times o is at = record { once = λ later told. (is, told); at = at }

abbrev Handed : Bool → Option Reset → What → Manner → Part Token → Option End → Type 0
Handed owed asks what manner part o = IsHanded (is_said what o) manner → IsTold owed (hears_of_reset what o) manner part → AsksJust asks o → Leads asks (heard_in owed what manner part) (option_map (end_told what) o)

handed_by : (owed : Bool) (asks : Option Reset) (said withdrawn : Bool) (is : Option Reset) (what : What) (manner : Manner) (part : Part Token) (front : Front) → is_said what (Some (Open front withdrawn is)) ≡ said → IsHanded said manner
    → IsTold owed (hears_of_reset what (Some (Open front withdrawn is))) manner part → is ≡ asks → Leads asks (heard_in owed what manner part) (Some (end_told what (Open front withdrawn is)))
handed_by owed asks true withdrawn is what (Whole tells) part front e on times at =
    one_leads asks (machine.acknowledges what) _ _ (times ∙ ap (λ (r : Option Reset). one_of (is_some r) (machine.acknowledges what)) at) (heard_at what withdrawn is front e)
handed_by owed asks true withdrawn is what (Without tells bytes) part front e on times at =
    one_leads asks (machine.acknowledges what) _ _ (times ∙ ap (λ (r : Option Reset). one_of (is_some r) (machine.acknowledges what)) at) (heard_at what withdrawn is front e)
handed_by owed asks true withdrawn is what Withheld part front e on times at = absurd on
handed_by owed asks false withdrawn is what (Whole tells) part front e on times at = absurd (let u : ⊥ = cc in u)
handed_by owed asks false withdrawn is what (Without tells bytes) part front e on times at = absurd (let u : ⊥ = cc in u)
handed_by owed asks false withdrawn is what Withheld part front e on times at = nothing asks (Some (end_told what (Open front withdrawn is))) (withheld_leads what asks withdrawn is front e at)

told_over : (why : Option FrontFault) (what : What) → end_told what (Over why) ≡ Over why
told_over why whats.Goes = refl
told_over why whats.Finished = refl
told_over why whats.Acknowledged = refl
told_over why whats.Closed = refl

handed_leads : (owed : Bool) (asks : Option Reset) (what : What) (manner : Manner) (part : Part Token) (o : Option End) → Handed owed asks what manner part o
handed_leads owed asks what (Whole tells) part None on times at = absurd (let u : ⊥ = cc in u)
handed_leads owed asks what (Without tells bytes) part None on times at = absurd (let u : ⊥ = cc in u)
handed_leads owed asks what Withheld part None on times at = nothing asks None tt
handed_leads owed asks what (Whole tells) part (Some (Over why)) on times at = absurd (let u : ⊥ = cc in u)
handed_leads owed asks what (Without tells bytes) part (Some (Over why)) on times at = absurd (let u : ⊥ = cc in u)
handed_leads owed asks what Withheld part (Some (Over why)) on times at = nothing asks (Some (end_told what (Over why))) (subst (λ (e : End). AsksJust asks (Some e)) (sym (told_over why what)) tt)
handed_leads owed asks what manner part (Some (Open front withdrawn is)) on times at = handed_by owed asks (is_said what (Some (Open front withdrawn is))) withdrawn is what manner part front refl on times at

handed_if : (owed : Bool) (key k : ℕ) (b : Bool) (asks : Option Reset) (what : What) (manner : Manner) (part : Part Token) (o : Option End) → (k == key) ≡ b → (k ≡ key → Handed owed asks what manner part o) → AsksJust asks o
    → (k ≡ key → IsHanded (is_said what o) manner × IsTold owed (hears_of_reset what o) manner part)
    → Leads asks (if b then heard_in owed what manner part else []) (if b then option_map (end_told what) o else o)
handed_if owed key k true asks what manner part o e leads at may = let is = eqb-true k key e in leads is (may is).0 (may is).1 at
handed_if owed key k false asks what manner part o e leads at may = nothing asks o at

handed_whose : (key : ℕ) (h : Machine) (number : ℕ) (asks : Option Reset) (manner : Manner) (part : Part Token) (who : Option ℕ) → AsksJust asks (end_at h.core.ends key)
    → IsHanded (is_said (what_in (dones_of_part h.core.pool number part)) (end_whose who h.core.ends)) manner
    → IsTold (owes_reset number h.core.pool) (hears_of_reset (what_in (dones_of_part h.core.pool number part)) (end_whose who h.core.ends)) manner part
    → Leads asks (if_its key who (heard_in (owes_reset number h.core.pool) (what_in (dones_of_part h.core.pool number part)) manner part)) (whose_by key who (end_told (what_in (dones_of_part h.core.pool number part))) (end_at h.core.ends key))
handed_whose key h number asks manner part None at on times = nothing asks (end_at h.core.ends key) at
handed_whose key h number asks manner part (Some k) at on times =
    let what = what_in (dones_of_part h.core.pool number part) in
    handed_if (owes_reset number h.core.pool) key k (k == key) asks what manner part (end_at h.core.ends key) refl (λ is. handed_leads (owes_reset number h.core.pool) asks what manner part (end_at h.core.ends key)) at
    (λ is. (subst (λ (x : ℕ). IsHanded (is_said what (end_at h.core.ends x)) manner) is on, subst (λ (x : ℕ). IsTold (owes_reset number h.core.pool) (hears_of_reset what (end_at h.core.ends x)) manner part) is times))

-- ---- Its bytes

said_leads : (asks : Option Reset) (taken : Bool) (is : Option Reset) (front : Front) (answer : Said) → is ≡ asks → Leads asks (asked_by answer) (Some (Open front taken (asks_by answer is)))
said_leads asks taken is front said.Nothing at = nothing asks (Some (Open front taken is)) at
said_leads asks taken is front (said.Begin kind reset) at = record { once = λ later told. told; at = refl }
said_leads asks taken is front (said.Body count) at = nothing asks (Some (Open front taken is)) at
said_leads asks taken is front (said.End count) at = nothing asks (Some (Open front taken is)) at
said_leads asks taken is front (said.Forget gone) at = record { once = λ later told. told; at = refl }
said_leads asks taken is front said.Acknowledge at = record { once = λ later told. told; at = refl }
said_leads asks taken is front said.HandOn at = nothing asks (Some (Open front taken is)) at

fed_leads : (asks : Option Reset) (withdrawn : Bool) (is : Option Reset) (front : Front) (brings : Result Fed FrontFault) → is ≡ asks → Leads asks (reset_asked brings) (Some (end_behind front withdrawn is brings))
fed_leads asks withdrawn is front (Ok fed) at = said_leads asks _ is front fed.said at
fed_leads asks withdrawn is front (Err fault) at = nothing asks (Some (Over (Some fault))) tt

bytes_lead : (asks : Option Reset) (bytes : List ℕ) (o : Option End) → AsksJust asks o → Leads asks (asked_in bytes o) (option_map (feeds bytes) o)
bytes_lead asks bytes None at = nothing asks None tt
bytes_lead asks bytes (Some (Open front withdrawn is)) at = fed_leads asks withdrawn is (fed front bytes).front (fed front bytes).brings at
bytes_lead asks bytes (Some (Over why)) at = nothing asks (Some (Over why)) tt

fed_if : (asks : Option Reset) (b : Bool) (bytes : List ℕ) (o : Option End) → AsksJust asks o → Leads asks (if b then asked_in bytes o else []) (if b then option_map (feeds bytes) o else o)
fed_if asks true bytes o at = bytes_lead asks bytes o at
fed_if asks false bytes o at = nothing asks o at

-- ---- A step

leads_at : (key : ℕ) (h : Core) (move : Move) (asks : Option Reset) (events : List ResetEvent) → Leads asks events (end_by key h move (end_at h.ends key)) → Leads asks events (end_at (moved h move).ends key)
leads_at key h move asks events leads = subst (λ (o : Option End). Leads asks events o) (sym (end_behind_is key h move)) leads

quits_if : (k key : ℕ) (b : Bool) (asks : Option Reset) (o : Option End) → (k == key) ≡ b → key ≢ k → AsksJust asks o → AsksJust asks (if b then None else o)
quits_if k key true asks o e other at = tt
quits_if k key false asks o e other at = at

step_leads : (key : ℕ) (h : Machine) (step : Step) (asks : Option Reset) → MayStep h step → StaysBy key step → AsksJust asks (end_at h.core.ends key)
    → Leads asks (happens key h step) (end_at (after h step).core.ends key)
step_leads key h (Makes move) asks may stays at = leads_at key h.core move asks [] (nothing asks (end_by key h.core move (end_at h.core.ends key)) (quiet_at key h.core move may.1 asks (end_at h.core.ends key) at))
step_leads key h (Hands number header content part way manner) asks may stays at =
    leads_at key h.core (core.Comes number part way) asks _ (handed_whose key h number asks manner part (whose h.core.pool number) at may.handed_on may.told)
step_leads key h (Takes other bytes) asks may stays at =
    leads_at key h.core (core.Feeds other bytes) asks _ (fed_if asks (other == key) bytes (end_at h.core.ends key) at)
step_leads key h (Writes other count) asks may stays at = nothing asks (end_at h.core.ends key) at
step_leads key h (Admits other ends queues) asks may stays at =
    nothing asks (end_at ends key) (subst (λ (o : Option End). AsksJust asks o) (sym (may.0.others_stay key stays)) at)
step_leads key h (Removes other gives way) asks may stays at =
    leads_at key h.core (core.Quits other gives way) asks [] (nothing asks _ (quits_if other key (other == key) asks (end_at h.core.ends key) refl stays at))

-- ---- Along steps

wants_both : (asks : Option Reset) (xs ys : List ResetEvent) → wants asks (xs ++ ys) ≡ wants (wants asks xs) ys
wants_both asks [] ys = refl
wants_both asks (Asks reset ∷ xs) ys = wants_both reset xs ys
wants_both asks (TakesBack ∷ xs) ys = wants_both None xs ys
wants_both asks (Hears acknowledges times ∷ xs) ys = wants_both None xs ys

wants_along : (key : ℕ) (h : Machine) (steps : List Step) (asks : Option Reset) → MayAll h steps → StaysAll key steps → AsksJust asks (end_at h.core.ends key)
    → AsksJust (wants asks (happen key h steps)) (end_at (after_all h steps).core.ends key)
wants_along key h [] asks may stays at = at
wants_along key h (step ∷ steps) asks may stays at =
    let one = step_leads key h step asks may.0 stays.0 at in
    subst (λ (r : Option Reset). AsksJust r (end_at (after_all (after h step) steps).core.ends key)) (sym (wants_both asks (happens key h step) (happen key (after h step) steps)))
    (wants_along key (after h step) steps (wants asks (happens key h step)) may.1 stays.1 one.at)

pub told_along : (key : ℕ) (h : Machine) (steps : List Step) (asks : Option Reset) → MayAll h steps → StaysAll key steps → AsksJust asks (end_at h.core.ends key) → IsToldOnce (is_some asks) (happen key h steps)
told_along key h [] asks may stays at = tt
told_along key h (step ∷ steps) asks may stays at =
    let one = step_leads key h step asks may.0 stays.0 at in
    one.once (happen key (after h step) steps) (told_along key (after h step) steps (wants asks (happens key h step)) may.1 stays.1 one.at)

begun : (sharing : Sharing) (key : ℕ) (v : Visit sharing key) → MayAll (machine_at_visit v) v.since × AsksJust None (end_at (machine_at_visit v).core.ends key)
begun sharing key v =
    let c = came sharing key v in
    let entered : HasEntered key (after_all (new_machine sharing) v.before).core.ends v.ends = c.may_come.0 in
    let begins : end_at (machine_at_visit v).core.ends key ≡ Some (Open (new_front entered.size) false None) = ap (λ (h : Machine). end_at h.core.ends key) c.machine_is ∙ entered.begins in
    (c.may_since, subst (AsksJust None) (sym begins) refl)

pub told_visit : (sharing : Sharing) (key : ℕ) (v : Visit sharing key) → IsToldOnce false (happens_to v)
told_visit sharing key v = let at = begun sharing key v in told_along key (machine_at_visit v) v.since None at.0 v.stays at.1

-- its end has it as its bytes have said
pub wants_in : (sharing : Sharing) (key : ℕ) (v : Visit sharing key) → AsksJust (wants None (happens_to v)) (end_at (after_all (machine_at_visit v) v.since).core.ends key)
wants_in sharing key v = let at = begun sharing key v in wants_along key (machine_at_visit v) v.since None at.0 v.stays at.1

-- An application's end along moves: from where it enters it is a lawful server's end behind it.
use Rattle.std.proofs.Common.{◌≡◌, ◌≢◌, ◌∙◌, ◌==◌, ℕ, Bool, true, false, List, [], ◌∷◌, ◌++◌, refl, sym, ap, subst}
use Rattle.std.specs.Prelude.{Option, Some, None, if◌then◌else◌, option_map}
use Rattle.std.proofs.lemmas.Bool.{eqb-true}
use Rattle.tds_packet.specs.declared.status.Reset.{Reset}
use Rattle.tds_wire.specs.declared.told.Token.{Token}
use Rattle.tds_front.specs.declared.front.Front.{Front}
use Rattle.tds_front.specs.declared.stage.Stage.{Stage}
use Rattle.tds_front.specs.Bytes.{fed}
use Rattle.tds_front.specs.Passing.{FrontEvent, happenings_of, judged}
use Rattle.tds_front.specs.Rules as rules
use Rattle.tds_front.specs.Serving.{ServerIsAt, Ready, IsLawful, behind_brought}
use Rattle.tds_front.specs.Serving as serving
use Rattle.tds_front.specs.declared.fault.FrontFault.{FrontFault}
use Rattle.tds_service.specs.Line as line
use Rattle.tds_service.specs.Line.{Line, Packet, new_line}
use Rattle.tds_service.specs.History.{Done, acts_of, history, line_after}
use Rattle.tds_service.specs.Parts.{Part}
use Rattle.tds_service.specs.Service as calls
use Rattle.tds_service.specs.Service.{Service, Seat, Call, ServiceStep, lease_at, new_service, on, on_one, seat_numbered, service_after, step, steps}
use Rattle.tds_relay.specs.Pool as pool
use Rattle.tds_relay.specs.Pool.{Action, Pool, Event, Hearing, Sharing, PoolTurn, Way, pool_after, new_pool, turn, whose}
use Rattle.tds_relay.specs.Behind.{AllAnswerOnce, Stays, StaysIn, brought, events_along, gone_on, if_end_open, passed, passes, said_in, unless_withdrawn}
use Rattle.tds_relay.specs.Fronting.{AnswersOnce, calls_along, done_on}
use Rattle.tds_relay.specs.Core.{End, Open, Over, EndList, Core, IsPut, MayDo, MayMove, MayMoveAll, Move, dones_of_part, end_at, event_if, events_of, holder, moved, moved_all, new_core, sent_by, stops_of, end_told, what_in, what_of, end_goes_on, closes, lets_go, feeds}
use Rattle.tds_relay.specs.Core as core
use Rattle.tds_relay.proofs.promises.Bringing.{always_sound}
use Rattle.tds_relay.proofs.steps.Calling.{service_along}
use Rattle.tds_relay.proofs.promises.Caring.{Sound}
use Rattle.tds_relay.proofs.ends.Fronting.{out_of}
use Rattle.tds_relay.proofs.held.Seated.{AllSit, turn_sits}
use Rattle.tds_relay.proofs.ends.Outs.{once_split, out_after, out_both, tells_all}
use Rattle.tds_relay.proofs.ends.Leading.{Lawful}
use Rattle.tds_relay.proofs.ends.Standing.{Standing, ends_stand, puts_stand}
use Rattle.tds_relay.proofs.ends.Stopping.{Known, Told, hears_lawful}
use Rattle.tds_relay.proofs.ends.Feeding.{fed_lawful}
use Rattle.tds_relay.proofs.ends.Ending.{IsEndThere, whose_by, end_by, end_behind_is, passes_by}
use Rattle.tds_relay.proofs.ends.Turning.{StepOf, StoryOf}
use Rattle.tds_relay.proofs.ends.Moving.{Judges, LeavesBy, left_of}

-- ---- Events and calls, one behind the other

pub pool_both : (d : Pool) (xs ys : List Event) → pool_after d (xs ++ ys) ≡ pool_after (pool_after d xs) ys
pool_both d [] ys = refl
pool_both d (x ∷ xs) ys = pool_both (turn d x).pool xs ys

pub append_more : {X : Type 0} (xs ys zs : List X) → (xs ++ ys) ++ zs ≡ xs ++ (ys ++ zs)
append_more [] ys zs = refl
append_more {X} (x ∷ xs) ys zs = ap (λ (vs : List X). x ∷ vs) (append_more xs ys zs)

calls_both : (d : Pool) (xs ys : List Event) → calls_along d (xs ++ ys) ≡ calls_along d xs ++ calls_along (pool_after d xs) ys
calls_both d [] ys = refl
calls_both d (x ∷ xs) ys =
    ap (λ (all : List (Call Token)). (turn d x).calls ++ all) (calls_both (turn d x).pool xs ys)
    ∙ sym (append_more (turn d x).calls (calls_along (turn d x).pool xs) (calls_along (pool_after (turn d x).pool xs) ys))

steps_both : (s : Service) (xs ys : List (Call Token)) → steps s (xs ++ ys) ≡ steps s xs ++ steps (service_after s xs) ys
steps_both s [] ys = refl
steps_both s (x ∷ xs) ys = ap (λ (all : List (ServiceStep Token)). step s x ∷ all) (steps_both (step s x).service xs ys)

one_both : (b : Bool) (ds xs ys : List (Done Token)) → on_one b ds (xs ++ ys) ≡ on_one b ds xs ++ ys
one_both true ds xs ys = sym (append_more ds xs ys)
one_both false ds xs ys = refl

on_both : (n : ℕ) (xs ys : List (ServiceStep Token)) → on n (xs ++ ys) ≡ on n xs ++ on n ys
on_both n [] ys = refl
on_both n (x ∷ xs) ys = ap (λ (ds : List (Done Token)). on_one (x.number == n) x.dones ds) (on_both n xs ys) ∙ one_both (x.number == n) x.dones (on n xs) (on n ys)

-- what is done on a connection by events of this pool
abbrev pub done_from : ℕ → Pool → List Event → List (Done Token)
done_from n d events = on n (steps d.service (calls_along d events))

pub done_both : (n : ℕ) (d : Pool) (xs ys : List Event) → done_from n d (xs ++ ys) ≡ done_from n d xs ++ done_from n (pool_after d xs) ys
done_both n d xs ys =
    let zs = calls_along (pool_after d xs) ys in
    ap (λ (all : List (Call Token)). on n (steps d.service all)) (calls_both d xs ys)
    ∙ ap (λ (all : List (ServiceStep Token)). on n all) (steps_both d.service (calls_along d xs) zs)
    ∙ on_both n (steps d.service (calls_along d xs)) (steps (service_after d.service (calls_along d xs)) zs)
    ∙ ap (λ (s : Service). done_from n d xs ++ on n (steps s zs)) (sym (service_along d xs))

-- ---- What is known of each connection

abbrev pub outs_of : Sharing → List Event → ℕ → Bool
outs_of sharing events n = out_after false (done_on sharing n events)

-- Each history is that of a connection alone, and its line is what that leaves.
abbrev pub Alone : Type 0
Alone = (max n : ℕ) (all : List (Call Token)) → on n (steps (new_service max) all) ≡ history new_line (acts_of (on n (steps (new_service max) all)))

abbrev pub ByHistory : Type 0
ByHistory = (max n : ℕ) (all : List (Call Token)) (c : Seat) → seat_numbered n (service_after (new_service max) all).seats ≡ Some c
    → c.line ≡ line_after new_line (acts_of (on n (steps (new_service max) all)))

pub known_at : Alone → ByHistory → (sharing : Sharing) (events : List Event) (n : ℕ) (c : Seat) → seat_numbered n (pool_after (new_pool sharing) events).service.seats ≡ Some c → out_of c.line.stage (outs_of sharing events n) ≡ outs_of sharing events n
known_at alone by sharing events n c there =
    let all = calls_along (new_pool sharing) events in
    let ds = done_on sharing n events in
    let same : ds ≡ history new_line (acts_of ds) = alone sharing.most n all in
    let at : seat_numbered n (service_after (new_service sharing.most) all).seats ≡ Some c = ap (λ (s : Service). seat_numbered n s.seats) (sym (service_along (new_pool sharing) events)) ∙ there in
    let l : c.line ≡ line_after new_line (acts_of ds) = by sharing.most n all c at in
    let P : Line → List (Done Token) → Type 0 = λ (x : Line) (xs : List (Done Token)). out_of x.stage (out_after false xs) ≡ out_after false xs in
    let one : P (line_after new_line (acts_of ds)) (history new_line (acts_of ds)) = tells_all new_line (acts_of ds) false refl in
    let two : P (line_after new_line (acts_of ds)) ds = subst (λ (xs : List (Done Token)). P (line_after new_line (acts_of ds)) xs) (sym same) one in
    subst (λ (x : Line). P x ds) (sym l) two

-- ---- A core that moves led to

all_sit : (d : Pool) (events : List Event) → Sound d → AllSit d → ((e : Pool) (event : Event) → Sound e → Sound (turn e event).pool) → AllSit (pool_after d events)
all_sit d [] sound sit next = sit
all_sit d (event ∷ events) sound sit next = all_sit (turn d event).pool events (next d event sound) (turn_sits d sound sit event) next

pub always_sits : (sharing : Sharing) (events : List Event) → AllSit (pool_after (new_pool sharing) events)
always_sits sharing events = all_sit (new_pool sharing) events (always_sound sharing []) tt (λ e event sound. Rattle.tds_relay.proofs.promises.Bringing.turn_sound e event sound)

abbrev pub IsAt : Sharing → List Event → Core → Type 0
IsAt sharing events h = h.pool ≡ pool_after (new_pool sharing) events

pub sound_at : (sharing : Sharing) (events : List Event) (h : Core) → IsAt sharing events h → Sound h.pool
sound_at sharing events h is = subst Sound (sym is) (always_sound sharing events)

pub sits_at : (sharing : Sharing) (events : List Event) (h : Core) → IsAt sharing events h → AllSit h.pool
sits_at sharing events h is = subst AllSit (sym is) (always_sits sharing events)

pub next_at : (sharing : Sharing) (events : List Event) (h : Core) (move : Move) → IsAt sharing events h → IsAt sharing (events ++ events_of h move) (moved h move)
next_at sharing events h move is = ap (λ (d : Pool). pool_after d (events_of h move)) is ∙ sym (pool_both (new_pool sharing) events (events_of h move))

pub done_at : (sharing : Sharing) (events : List Event) (h : Core) (n : ℕ) (more : List Event) → IsAt sharing events h → done_on sharing n (events ++ more) ≡ done_on sharing n events ++ done_from n h.pool more
done_at sharing events h n more is = done_both n (new_pool sharing) events more ∙ ap (λ (d : Pool). done_on sharing n events ++ done_from n d more) (sym is)

pub leaves_at : (sharing : Sharing) (events : List Event) (h : Core) (move : Move) → IsAt sharing events h → (n : ℕ)
    → outs_of sharing (events ++ events_of h move) n ≡ out_after (outs_of sharing events n) (on n (steps h.pool.service (calls_along h.pool (events_of h move))))
leaves_at sharing events h move is n =
    ap (out_after false) (done_at sharing events h n (events_of h move) is) ∙ out_both false (done_on sharing n events) (done_from n h.pool (events_of h move))

-- ---- Moves, one behind the other

pub moved_both : (h : Core) (xs ys : List Move) → moved_all h (xs ++ ys) ≡ moved_all (moved_all h xs) ys
moved_both h [] ys = refl
moved_both h (x ∷ xs) ys = moved_both (moved h x) xs ys

pub may_both : (h : Core) (xs ys : List Move) → MayMoveAll h xs → MayMoveAll (moved_all h xs) ys → MayMoveAll h (xs ++ ys)
may_both h [] ys m n = n
may_both h (x ∷ xs) ys m n = (m.0, may_both (moved h x) xs ys m.1 n)

pub may_each : (h : Core) (xs ys : List Move) → MayMoveAll h (xs ++ ys) → MayMoveAll h xs × MayMoveAll (moved_all h xs) ys
may_each h [] ys may = (tt, may)
may_each h (x ∷ xs) ys may = let more = may_each (moved h x) xs ys may.1 in ((may.0, more.0), more.1)

-- ---- What is told of an application, behind moves

next_place : (outs : ℕ → Bool) (d : Pool) (key : ℕ) (p : ServerIsAt) (es : List FrontEvent) (stage : Stage) (end : End) → Told outs d key stage p es end → (q : ServerIsAt) × StoryOf outs d key q (Some end)
next_place outs d key p es stage (Open front w asks) next = (next.place, next.standing)
next_place outs d key p es stage (Over why) next = (p, next)

pub step_story : (outs : ℕ → Bool) (d : Pool) (key : ℕ) (p : ServerIsAt) (es : List FrontEvent) (o o2 : Option End) → StepOf outs d key p es o o2 → (q : ServerIsAt) × StoryOf outs d key q o2
step_story outs d key p es None None s = (p, s)
step_story outs d key p es None (Some (Open front w asks)) s = (Ready, s.0)
step_story outs d key p es None (Some (Over why)) s = absurd s
step_story outs d key p es (Some (Open front w asks)) None s = (p, s)
step_story outs d key p es (Some (Open front w asks)) (Some end) s = next_place outs d key p es front.stage end s
step_story outs d key p es (Some (Over why)) None s = (p, s)
step_story outs d key p es (Some (Over why)) (Some (Open front w asks)) s = absurd s
step_story outs d key p es (Some (Over was)) (Some (Over why)) s = (p, s)

-- ---- What passes, by the end as it was

pub passes_is : (key : ℕ) (h : Core) (move : Move) → passes_by key h move (end_at h.ends key) ≡ passes key h move
passes_is key h (core.Does event) = refl
passes_is key h (core.Sends k action) = refl
passes_is key h (core.LetsGo k parks gives way) = refl
passes_is key h (core.Loses n) = refl
passes_is key h (core.Replaces n) = refl
passes_is key h (core.Comes n part way) = refl
passes_is key h (core.Feeds k bytes) = refl
passes_is key h (core.Closes k) = refl
passes_is key h (core.Enters k ends) = refl
passes_is key h (core.Quits k gives way) = refl

-- ---- One that is over, or stays

if_nothing : (b : Bool) → (if b then (let x : List FrontEvent = [] in x) else []) ≡ []
if_nothing true = refl
if_nothing false = refl

whose_nothing : (key : ℕ) (who : Option ℕ) → Rattle.tds_relay.specs.Behind.if_whose key who [] ≡ []
whose_nothing key None = refl
whose_nothing key (Some k) = if_nothing (k == key)

over_passes : (why : Option FrontFault) (key : ℕ) (h : Core) (move : Move) → passes_by key h move (Some (Over why)) ≡ []
over_passes why key h (core.Does event) = refl
over_passes why key h (core.Sends k action) = if_nothing (k == key)
over_passes why key h (core.LetsGo k parks gives way) = refl
over_passes why key h (core.Loses n) = refl
over_passes why key h (core.Replaces n) = refl
over_passes why key h (core.Comes n part way) = whose_nothing key (whose h.pool n)
over_passes why key h (core.Feeds k bytes) = if_nothing (k == key)
over_passes why key h (core.Closes k) = refl
over_passes why key h (core.Enters k ends) = refl
over_passes why key h (core.Quits k gives way) = refl

goes_over : (why : Option FrontFault) (ps : List Packet) → end_goes_on ps (Over why) ≡ Over why
goes_over why [] = refl
goes_over why (p ∷ ps) = refl

told_over : (why : Option FrontFault) (what : Rattle.tds_relay.specs.declared.pool.coming.What.What) → end_told what (Over why) ≡ Over why
told_over why Rattle.tds_relay.specs.declared.pool.coming.What.TheVariants.Goes = refl
told_over why Rattle.tds_relay.specs.declared.pool.coming.What.TheVariants.Finished = refl
told_over why Rattle.tds_relay.specs.declared.pool.coming.What.TheVariants.Acknowledged = refl
told_over why Rattle.tds_relay.specs.declared.pool.coming.What.TheVariants.Closed = refl

if_over : (why : Option FrontFault) (b : Bool) (by : End → End) → by (Over why) ≡ Over why → (if b then option_map by (Some (Over why)) else Some (Over why)) ≡ Some (Over why)
if_over why true by e = ap (λ (x : End). Some x) e
if_over why false by e = refl

whose_over : (why : Option FrontFault) (key : ℕ) (who : Option ℕ) (by : End → End) → by (Over why) ≡ Over why → whose_by key who by (Some (Over why)) ≡ Some (Over why)
whose_over why key None by e = refl
whose_over why key (Some k) by e = if_over why (k == key) by e

quits_not : (key k : ℕ) (b : Bool) (o : Option End) → (k == key) ≡ b → key ≢ k → (if b then None else o) ≡ o
quits_not key k true o e not = absurd (not (sym (eqb-true k key e)))
quits_not key k false o e not = refl

entered_same : (key k : ℕ) (h : Core) (ends : EndList) → core.HasEntered k h.ends ends → key ≢ k → end_at ends key ≡ end_at h.ends key
entered_same key k h ends entered not = entered.others_stay key not

pub stays_over : (why : Option FrontFault) (key : ℕ) (h : Core) (move : Move) → MayMove h move → StaysIn key move → end_at h.ends key ≡ Some (Over why) → end_by key h move (end_at h.ends key) ≡ Some (Over why)
stays_over why key h (core.Does event) may stays e = e
stays_over why key h (core.Sends k action) may stays e =
    ap (λ (o : Option End). if k == key then option_map (end_goes_on (sent_by h.pool (pool.Does k action))) o else o) e ∙ if_over why (k == key) (end_goes_on (sent_by h.pool (pool.Does k action))) (goes_over why (sent_by h.pool (pool.Does k action)))
stays_over why key h (core.LetsGo k parks gives way) may stays e = ap (λ (o : Option End). if k == key then option_map lets_go o else o) e ∙ if_over why (k == key) lets_go refl
stays_over why key h (core.Loses n) may stays e =
    ap (λ (o : Option End). whose_by key (holder h.pool n) closes o) e ∙ whose_over why key (holder h.pool n) closes refl
stays_over why key h (core.Replaces n) may stays e =
    ap (λ (o : Option End). whose_by key (holder h.pool n) lets_go o) e ∙ whose_over why key (holder h.pool n) lets_go refl
stays_over why key h (core.Comes n part way) may stays e =
    let by : End → End = end_told (what_in (dones_of_part h.pool n part)) in
    ap (λ (o : Option End). whose_by key (whose h.pool n) by o) e ∙ whose_over why key (whose h.pool n) by (told_over why (what_in (dones_of_part h.pool n part)))
stays_over why key h (core.Feeds k bytes) may stays e = ap (λ (o : Option End). if k == key then option_map (feeds bytes) o else o) e ∙ if_over why (k == key) (feeds bytes) refl
stays_over why key h (core.Closes k) may stays e = ap (λ (o : Option End). if k == key then option_map closes o else o) e ∙ if_over why (k == key) closes refl
stays_over why key h (core.Enters k ends) may stays e = entered_same key k h ends may stays ∙ e
stays_over why key h (core.Quits k gives way) may stays e = quits_not key k (k == key) (end_at h.ends key) refl stays ∙ e

pub over_silent : (why : Option FrontFault) (key : ℕ) (h : Core) (moves : List Move) → end_at h.ends key ≡ Some (Over why) → MayMoveAll h moves → Stays key moves → passed key h moves ≡ []
over_silent why key h [] e may stays = refl
over_silent why key h (move ∷ moves) e may stays =
    let none : passes key h move ≡ [] = sym (passes_is key h move) ∙ ap (passes_by key h move) e ∙ over_passes why key h move in
    let next : end_at (moved h move).ends key ≡ Some (Over why) = end_behind_is key h move ∙ stays_over why key h move may.0 stays.0 e in
    ap (λ (es : List FrontEvent). es ++ passed key (moved h move) moves) none ∙ over_silent why key (moved h move) moves next may.1 stays.1

-- one that is there stays there
abbrev Is : Option End → Type 0
Is o = IsEndThere o

if_there : (b : Bool) (by : End → End) (o : Option End) → Is o → Is (if b then option_map by o else o)
if_there true by None i = i
if_there true by (Some end) i = tt
if_there false by o i = i

whose_there : (key : ℕ) (who : Option ℕ) (by : End → End) (o : Option End) → Is o → Is (whose_by key who by o)
whose_there key None by o i = i
whose_there key (Some k) by o i = if_there (k == key) by o i

pub stays_there : (key : ℕ) (h : Core) (move : Move) → MayMove h move → StaysIn key move → Is (end_at h.ends key) → Is (end_by key h move (end_at h.ends key))
stays_there key h (core.Does event) may stays i = i
stays_there key h (core.Sends k action) may stays i = if_there (k == key) (end_goes_on (sent_by h.pool (pool.Does k action))) (end_at h.ends key) i
stays_there key h (core.LetsGo k parks gives way) may stays i = if_there (k == key) lets_go (end_at h.ends key) i
stays_there key h (core.Loses n) may stays i = whose_there key (holder h.pool n) closes (end_at h.ends key) i
stays_there key h (core.Replaces n) may stays i = whose_there key (holder h.pool n) lets_go (end_at h.ends key) i
stays_there key h (core.Comes n part way) may stays i = whose_there key (whose h.pool n) (end_told (what_in (dones_of_part h.pool n part))) (end_at h.ends key) i
stays_there key h (core.Feeds k bytes) may stays i = if_there (k == key) (feeds bytes) (end_at h.ends key) i
stays_there key h (core.Closes k) may stays i = if_there (k == key) closes (end_at h.ends key) i
stays_there key h (core.Enters k ends) may stays i = subst Is (sym (entered_same key k h ends may stays)) i
stays_there key h (core.Quits k gives way) may stays i = subst Is (sym (quits_not key k (k == key) (end_at h.ends key) refl stays)) i

-- ---- What one move says is lawful

gone_lawful : (ps : List Packet) (p : ServerIsAt) (stage : Stage) → IsLawful p (happenings_of stage (gone_on ps))
gone_lawful [] p stage = tt
gone_lawful (line.OfRequest request first reset true ∷ ps) p stage = gone_lawful ps (behind_brought p serving.Whole) (rules.request_went_on stage)
gone_lawful (line.OfRequest request first reset false ∷ ps) p stage = gone_lawful ps (behind_brought p serving.More) (rules.request_went_on stage)
gone_lawful (line.Ignore request ∷ ps) p stage = gone_lawful ps p stage
gone_lawful (line.Attention ∷ ps) p stage = gone_lawful ps p stage

first_once : (b : Bool) (out : Bool) (ds others : List (Done Token)) → b ≡ true → AnswersOnce out (on_one b ds others) → AnswersOnce out ds
first_once true out ds others e once = (once_split out ds others once).0
first_once false out ds others e once = absurd (let u : ⊥ = cc in u)

came_by : (s : Service) (n : ℕ) (part : Part Token) (o : Option Seat) (out : Bool) (others : List (Done Token)) → seat_numbered n s.seats ≡ o
    → AnswersOnce out (on_one ((calls.hears {T = Token} s (calls.has_number n) part o).number == n) (calls.hears {T = Token} s (calls.has_number n) part o).dones others)
    → AnswersOnce out (calls.hears {T = Token} s (calls.has_number n) part o).dones
came_by s n part None out others e once = tt
came_by s n part (Some c) out others e once =
    first_once (c.number == n) out (calls.hears {T = Token} s (calls.has_number n) part (Some c)).dones others (Rattle.tds_relay.proofs.promises.Seats.found_meets (calls.has_number n) c s.seats e) once

comes_once : (d : Pool) (n : ℕ) (part : Part Token) (way : Way) (s : Service) (lease : Option ℕ) (hearing : Hearing) (out : Bool)
    → AnswersOnce out (on n (steps d.service ((pool.comes_by d (calls.Came n part) s n way lease hearing).calls ++ []))) → AnswersOnce out (dones_of_part d n part)
comes_once d n part way s lease pool.Goes out once = came_by d.service n part (seat_numbered n d.service.seats) out _ refl once
comes_once d n part way s lease pool.Settled out once = came_by d.service n part (seat_numbered n d.service.seats) out _ refl once
comes_once d n part way s lease pool.Wrong out once = came_by d.service n part (seat_numbered n d.service.seats) out _ refl once

came_once : (d : Pool) (n : ℕ) (part : Part Token) (way : Way) (out : Bool) → AnswersOnce out (done_from n d (pool.Comes n part way ∷ [])) → AnswersOnce out (dones_of_part d n part)
came_once d n part way out once =
    let heard = step {T = Token} d.service (calls.Came n part) in
    comes_once d n part way heard.service (lease_at (seat_numbered n d.service.seats)) (pool.hearing heard.dones) out once

module _ (h : Core) (key : ℕ) (outs outs2 : ℕ → Bool) (sound : Sound h.pool) (sit : AllSit h.pool) (judges : Judges h.pool key outs outs2 sound sit) (known : Known h.pool key outs outs2 sound sit) where
  abbrev d : Pool
  d = h.pool

  abbrev LawfulBy : Move → ServerIsAt → Front → Bool → Option Reset → Type 0
  LawfulBy move p front w asks = Lawful p front.stage (passes_by key h move (Some (Open front w asks)))

  sent_lawful : (action : Action) (p : ServerIsAt) (front : Front) (w : Bool) (asks : Option Reset) → IsPut action → MayDo action (Some (Open front w asks)) → Standing outs d key front.stage w p → LeavesBy h key outs outs2 sound sit judges known (core.Sends key action)
      → Lawful p front.stage (gone_on (sent_by d (pool.Does key action)))
  sent_lawful (pool.Puts count) p front w asks put may s leaves =
      let sent = puts_stand d key outs outs2 sound sit count front.stage w p s may known (left_of d key outs outs2 sound sit (pool.Does key (pool.Puts count)) leaves) in
      (gone_lawful (sent_by d (pool.Does key (pool.Puts count))) p front.stage, sent.whole)
  sent_lawful (pool.Ends count) p front w asks put may s leaves =
      let sent = ends_stand d key outs outs2 sound sit count front.stage w p s may (left_of d key outs outs2 sound sit (pool.Does key (pool.Ends count)) leaves) in
      (gone_lawful (sent_by d (pool.Does key (pool.Ends count))) p front.stage, sent.whole)
  sent_lawful pool.Asks p front w asks put may s leaves = absurd put
  sent_lawful pool.Stops p front w asks put may s leaves = absurd put

  sent_if : (k : ℕ) (action : Action) (b : Bool) (p : ServerIsAt) (front : Front) (w : Bool) (asks : Option Reset) → (k == key) ≡ b → IsPut action → (k ≡ key → MayDo action (Some (Open front w asks))) → Standing outs d key front.stage w p
      → LeavesBy h key outs outs2 sound sit judges known (core.Sends k action) → Lawful p front.stage (if b then gone_on (sent_by d (pool.Does k action)) else [])
  sent_if k action true p front w asks e put may s leaves =
      let is = eqb-true k key e in
      let P : ℕ → Type 0 = λ (x : ℕ). LeavesBy h key outs outs2 sound sit judges known (core.Sends x action) → Lawful p front.stage (gone_on (sent_by d (pool.Does x action))) in
      let here : P key = sent_lawful action p front w asks put (may is) s in
      let there : P k = subst P (sym is) here in
      there leaves
  sent_if k action false p front w asks e put may s leaves = (tt, tt)

  heard_if : (n k : ℕ) (part : Part Token) (way : Way) (b : Bool) (p : ServerIsAt) (front : Front) (w : Bool) → whose d n ≡ Some k → (k == key) ≡ b → Standing outs d key front.stage w p
      → AnswersOnce (outs n) (dones_of_part d n part) → Lawful p front.stage (if b then unless_withdrawn w (said_in (dones_of_part d n part)) else [])
  heard_if n k part way true p front w mine e s once =
      hears_lawful d key outs outs2 sound sit n part way front.stage w p s (mine ∙ ap (λ (x : ℕ). Some x) (eqb-true k key e)) once
  heard_if n k part way false p front w mine e s once = (tt, tt)

  heard_whose : (n : ℕ) (part : Part Token) (way : Way) (who : Option ℕ) (p : ServerIsAt) (front : Front) (w : Bool) → whose d n ≡ who → Standing outs d key front.stage w p → AnswersOnce (outs n) (dones_of_part d n part)
      → Lawful p front.stage (Rattle.tds_relay.specs.Behind.if_whose key who (unless_withdrawn w (said_in (dones_of_part d n part))))
  heard_whose n part way None p front w mine s once = (tt, tt)
  heard_whose n part way (Some k) p front w mine s once = heard_if n k part way (k == key) p front w mine refl s once

  fed_if : (bytes : List ℕ) (b : Bool) (p : ServerIsAt) (front : Front) → Lawful p front.stage (if b then brought front bytes else [])
  fed_if bytes true p front = fed_lawful front.stage p (judged front.due bytes) (fed front bytes).brings
  fed_if bytes false p front = (tt, tt)

  pub lawful_by : (move : Move) (p : ServerIsAt) (front : Front) (w : Bool) (asks : Option Reset) → end_at h.ends key ≡ Some (Open front w asks) → MayMove h move → Standing outs d key front.stage w p
      → LeavesBy h key outs outs2 sound sit judges known move → ((n : ℕ) → AnswersOnce (outs n) (done_from n d (events_of h move))) → LawfulBy move p front w asks
  lawful_by (core.Does event) p front w asks e may s leaves once = (tt, tt)
  lawful_by (core.Sends k action) p front w asks e may s leaves once =
      sent_if k action (k == key) p front w asks refl may.0 (λ is. subst (MayDo action) e (subst (λ (x : ℕ). MayDo action (end_at h.ends x)) is may.1)) s leaves
  lawful_by (core.LetsGo k parks gives way) p front w asks e may s leaves once = (tt, tt)
  lawful_by (core.Loses n) p front w asks e may s leaves once = (tt, tt)
  lawful_by (core.Replaces n) p front w asks e may s leaves once = (tt, tt)
  lawful_by (core.Comes n part way) p front w asks e may s leaves once = heard_whose n part way (whose d n) p front w refl s (came_once d n part way (outs n) (once n))
  lawful_by (core.Feeds k bytes) p front w asks e may s leaves once = fed_if bytes (k == key) p front
  lawful_by (core.Closes k) p front w asks e may s leaves once = (tt, tt)
  lawful_by (core.Enters k ends) p front w asks e may s leaves once = (tt, tt)
  lawful_by (core.Quits k gives way) p front w asks e may s leaves once = (tt, tt)

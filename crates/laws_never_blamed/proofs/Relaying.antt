-- What is seen between an application and its end of a relay, along steps, from where it enters.
use Rattle.std.proofs.Common.{◌≡◌, ◌∙◌, ◌==◌, ℕ, Bool, true, false, List, [], ◌∷◌, ◌++◌, refl, sym, ap, subst, append_assoc}
use Rattle.std.specs.Prelude.{Option, Some, None, if◌then◌else◌, option_map}
use Rattle.std.proofs.lemmas.Bool.{eqb-true}
use Rattle.std.proofs.lemmas.List.{append-nil}
use Rattle.tds_packet.specs.declared.status.Reset.{Reset}
use Rattle.tds_wire.specs.declared.told.Token.{Token}
use Rattle.tds_front.specs.declared.fault.FrontFault.{FrontFault}
use Rattle.tds_front.specs.declared.front.Front.{Front}
use Rattle.tds_front.specs.declared.stage.Stage.{Stage}
use Rattle.tds_front.specs.declared.stage.Stage.TheVariants as stages
use Rattle.tds_front.specs.Passing.{FrontEvent}
use Rattle.tds_front.specs.Rules as rules
use Rattle.tds_front.specs.Serving.{ServerIsAt}
use Rattle.tds_service.specs.Line.{Packet}
use Rattle.tds_service.specs.Parts.{Part}
use Rattle.tds_service.specs.Service.{on, steps}
use Rattle.tds_relay.specs.Behind.{StaysIn, events_along, passes}
use Rattle.tds_relay.specs.Pool as pool
use Rattle.tds_relay.specs.Pool.{Pool, Event, Sharing, Way, pool_after, new_pool, turn, whose}
use Rattle.tds_relay.specs.Giving.{StaysAll, StaysBy, Visit, done_in, machine_at_visit, moves_in}
use Rattle.tds_relay.specs.Core as core
use Rattle.tds_relay.specs.Core.{End, Open, Over, Enters, Core, IsQuiet, Move, closes, dones_of_part, end_at, events_of, end_goes_on, holder, lets_go, moved, moved_all, new_core, sent_by, end_told, what_in}
use Rattle.tds_relay.specs.Machine.{Machine, IsHanded, Manner, MayAll, MayStep, Step, Makes, Hands, Takes, Writes, Admits, Removes, Withheld, after, after_all, end_whose, is_said, moves_of, new_machine}
use Rattle.tds_relay.specs.Pool.{owes_reset}
use Rattle.tds_relay.proofs.ends.Ending.{end_behind_is, end_by, whose_by}
use Rattle.tds_relay.proofs.ends.Folding.{Alone, ByHistory, append_more, stays_over}
use Rattle.tds_relay.proofs.visits.Reached.{Entered, Goes, IsOver, Judging, Stands, Then, behind, enters}
use Rattle.tds_relay.proofs.visits.Stays.{came, core_after, may_moves, stays_move}
use Rattle.tds_judge.specs.Breaches.{agreed_last, size_told}
use Rattle.tds_judge.specs.Conversation.{IsLawful, Quiet, place_of}
use Rattle.tds_judge.specs.History.{Said}
use Rattle.laws_never_blamed.specs.Relayed.{AllSupposed, Sight, Side, goes_on_behind, relayed, sees_bytes, sees_handed, sees_its, sees_step, sees_steps}
use Rattle.laws_never_blamed.proofs.Sides.{Fine}
use Rattle.laws_never_blamed.proofs.Taken.{AtEnd, AtStage, begun_waits}
use Rattle.laws_never_blamed.proofs.Fed.{NowEnd, bytes_seen}
use Rattle.laws_never_blamed.proofs.Coming.{Plain, hands_seen, plain_front, plain_next}

-- ---- A move by which nothing is seen

abbrev Keeps : (End → End) → Type 0
Keeps by = (end : End) (begun : Bool) (past : List Said) → AtEnd (Some end) begun past → AtEnd (Some (by end)) begun past

went_at : (stage : Stage) (asks : Option Reset) (begun : Bool) (past : List Said) → AtStage stage asks begun past → AtStage (rules.request_went_on stage) asks begun past
went_at stages.Quiet asks begun past at = at
went_at (stages.Receiving kind gone) asks begun past at = at
went_at (stages.Underway false) asks begun past at = begun_waits asks begun past at.0 at.1
went_at (stages.Underway true) asks begun past at = at
went_at stages.Stopping asks begun past at = at
went_at (stages.Broken fault) asks begun past at = tt

goes_keeps : (packets : List Packet) → Keeps (end_goes_on packets)
goes_keeps [] end begun past at = at
goes_keeps (packet ∷ packets) (Open front withdrawn asks) begun past at = went_at front.stage asks begun past at
goes_keeps (packet ∷ packets) (Over why) begun past at = tt

lets_keeps : Keeps lets_go
lets_keeps (Open front withdrawn asks) begun past at = at
lets_keeps (Over why) begun past at = tt

closes_keeps : Keeps closes
closes_keeps (Open front withdrawn asks) begun past at = tt
closes_keeps (Over why) begun past at = tt

map_keeps : (by : End → End) → Keeps by → (o : Option End) (begun : Bool) (past : List Said) → AtEnd o begun past → AtEnd (option_map by o) begun past
map_keeps by keeps None begun past at = tt
map_keeps by keeps (Some end) begun past at = keeps end begun past at

if_keeps : (by : End → End) → Keeps by → (b : Bool) (o : Option End) (begun : Bool) (past : List Said) → AtEnd o begun past → AtEnd (if b then option_map by o else o) begun past
if_keeps by keeps true o begun past at = map_keeps by keeps o begun past at
if_keeps by keeps false o begun past at = at

whose_keeps : (by : End → End) → Keeps by → (key : ℕ) (who : Option ℕ) (o : Option End) (begun : Bool) (past : List Said) → AtEnd o begun past → AtEnd (whose_by key who by o) begun past
whose_keeps by keeps key None o begun past at = at
whose_keeps by keeps key (Some other) o begun past at = if_keeps by keeps (other == key) o begun past at

quiet_at : (key : ℕ) (h : Core) (move : Move) → IsQuiet move → (o : Option End) (begun : Bool) (past : List Said) → AtEnd o begun past → AtEnd (end_by key h move o) begun past
quiet_at key h (core.Does event) quiet o begun past at = at
quiet_at key h (core.Sends k action) quiet o begun past at =
    if_keeps (end_goes_on (sent_by h.pool (pool.Does k action))) (goes_keeps (sent_by h.pool (pool.Does k action))) (k == key) o begun past at
quiet_at key h (core.LetsGo k parks gives way) quiet o begun past at = if_keeps lets_go lets_keeps (k == key) o begun past at
quiet_at key h (core.Loses number) quiet o begun past at = whose_keeps closes closes_keeps key (holder h.pool number) o begun past at
quiet_at key h (core.Replaces number) quiet o begun past at = whose_keeps lets_go lets_keeps key (holder h.pool number) o begun past at
quiet_at key h (core.Comes number part way) quiet o begun past at = absurd quiet
quiet_at key h (core.Feeds k bytes) quiet o begun past at = absurd quiet
quiet_at key h (core.Closes k) quiet o begun past at = if_keeps closes closes_keeps (k == key) o begun past at
quiet_at key h (core.Enters k ends) quiet o begun past at = absurd quiet
quiet_at key h (core.Quits k gives way) quiet o begun past at = absurd quiet

-- ---- Where it begins

events_both : (h : Core) (before rest : List Move) → events_along h (before ++ rest) ≡ events_along h before ++ events_along (moved_all h before) rest
events_both h [] rest = refl
events_both h (move ∷ before) rest =
    ap (λ (es : List Event). events_of h move ++ es) (events_both (moved h move) before rest)
    ∙ sym (append_more (events_of h move) (events_along (moved h move) before) (events_along (moved_all (moved h move) before) rest))

moves_both : (xs ys : List Step) → moves_in (xs ++ ys) ≡ moves_in xs ++ moves_in ys
moves_both [] ys = refl
moves_both (x ∷ xs) ys = ap (λ (moves : List Move). moves_of x ++ moves) (moves_both xs ys) ∙ sym (append_assoc (moves_of x) (moves_in xs) (moves_in ys))

-- all that is done is what was done before it came, and since
visited : {sharing : Sharing} {key : ℕ} (v : Visit sharing key) (h : Core) → moved (moved_all (new_core sharing) (moves_in v.before)) (Enters key v.ends) ≡ h
    → done_in v ≡ (events_along (new_core sharing) (moves_in v.before) ++ []) ++ events_along h (moves_in v.since)
visited {sharing} {key} v h is =
    let before = moves_in v.before in
    let start = new_core sharing in
    ap (events_along start) (moves_both v.before (Admits key v.ends v.queues ∷ v.since))
    ∙ events_both start before (Enters key v.ends ∷ moves_in v.since)
    ∙ ap (λ (x : Core). events_along start before ++ events_along x (moves_in v.since)) is
    ∙ ap (λ (es : List Event). es ++ events_along h (moves_in v.since)) (sym (append-nil (events_along start before)))

nothing_fine : Fine []
unfolding IsLawful AllSupposed agreed_last size_told
nothing_fine = record { lawful = λ s. tt; agreed = refl; size = refl }

nothing_quiet : place_of [] ≡ Quiet
unfolding place_of
nothing_quiet = refl

begins : (front : Front) (w : Bool) (asks : Option Reset) → front.stage ≡ stages.Quiet → NowEnd (Some (Open front w asks)) false []
begins front w asks e = record { fine = nothing_fine; at = subst (λ (x : Stage). AtStage x asks false []) (sym e) (refl, nothing_quiet) }

module _ (s : Side) (sharing : Sharing) (key : ℕ) (alone : Alone) (by : ByHistory) (judges : Judging) where
  -- ---- Its own bytes come

  abbrev Sees : Machine → Step → Sight → Type 0
  Sees h step x = NowEnd (end_at (after h step).core.ends key) (sees_step s key h step x).begun (sees_step s key h step x).past

  fed_now : (h : Machine) (bytes : List ℕ) (o : Option End) (begun : Bool) (past : List Said) → NowEnd o begun past → NowEnd (option_map (core.feeds bytes) o) begun (sees_bytes s bytes o past)
  fed_now h bytes None begun past now = record { fine = now.fine; at = tt }
  fed_now h bytes (Some (Over why)) begun past now = record { fine = now.fine; at = tt }
  fed_now h bytes (Some (Open front w asks)) begun past now =
      bytes_seen s front w asks begun past bytes (judges front bytes).0 (judges front bytes).1 (record { fine = now.fine; at = now.at })

  takes_if : (h : Machine) (bytes : List ℕ) (b : Bool) (x : Sight) → NowEnd (end_at h.core.ends key) x.begun x.past
      → NowEnd (if b then option_map (core.feeds bytes) (end_at h.core.ends key) else end_at h.core.ends key)
      (if b then (let y : Sight = record { begun = x.begun; past = sees_bytes s bytes (end_at h.core.ends key) x.past } in y) else x).begun
      (if b then (let y : Sight = record { begun = x.begun; past = sees_bytes s bytes (end_at h.core.ends key) x.past } in y) else x).past
  takes_if h bytes true x now = fed_now h bytes (end_at h.core.ends key) x.begun x.past now
  takes_if h bytes false x now = now

  -- ---- A step

  at_moved : (h : Core) (move : Move) (begun : Bool) (past : List Said) → NowEnd (end_by key h move (end_at h.ends key)) begun past → NowEnd (end_at (moved h move).ends key) begun past
  at_moved h move begun past now = subst (λ (o : Option End). NowEnd o begun past) (sym (end_behind_is key h move)) now

  quits_if : (b : Bool) (o : Option End) (begun : Bool) (past : List Said) → NowEnd o begun past → NowEnd (if b then None else o) begun past
  quits_if true o begun past now = record { fine = now.fine; at = tt }
  quits_if false o begun past now = now

  makes_seen : (h : Machine) (move : Move) (x : Sight) → IsQuiet move → NowEnd (end_at h.core.ends key) x.begun x.past → Sees h (Makes move) x
  makes_seen h move x quiet now =
      at_moved h.core move x.begun x.past (record { fine = now.fine; at = quiet_at key h.core move quiet (end_at h.core.ends key) x.begun x.past now.at })

  takes_seen : (h : Machine) (other : ℕ) (bytes : List ℕ) (x : Sight) → NowEnd (end_at h.core.ends key) x.begun x.past → Sees h (Takes other bytes) x
  takes_seen h other bytes x now =
      let y = sees_step s key h (Takes other bytes) x in
      at_moved h.core (core.Feeds other bytes) y.begun y.past (takes_if h bytes (other == key) x now)

  removes_seen : (h : Machine) (other : ℕ) (gives : Bool) (way : Way) (x : Sight) → NowEnd (end_at h.core.ends key) x.begun x.past → Sees h (Removes other gives way) x
  removes_seen h other gives way x now = at_moved h.core (core.Quits other gives way) x.begun x.past (quits_if (other == key) (end_at h.core.ends key) x.begun x.past now)

  -- ---- Where it is over

  over_if : (b : Bool) (x y : Sight) → Fine x.past → Fine y.past → Fine (if b then y else x).past
  over_if true x y f g = g
  over_if false x y f g = f

  over_its : (who : Option ℕ) (x y : Sight) → Fine x.past → Fine y.past → Fine (sees_its key who x y).past
  over_its None x y f g = f
  over_its (Some other) x y f g = over_if (other == key) x y f g

  withheld_fine : (x : Sight) (part : Part Token) (manner : Manner) → manner ≡ Withheld → Fine x.past → Fine (sees_handed s x.begun x.past manner part)
  withheld_fine x part manner e f = subst (λ (m : Manner). Fine (sees_handed s x.begun x.past m part)) (sym e) f

  -- a packet for one that is over is withheld
  over_handed : (why : Option FrontFault) (h : Machine) (what : Rattle.tds_relay.specs.declared.pool.coming.What.What) (part : Part Token) (manner : Manner) (x : Sight) (other : ℕ) (b : Bool) → (other == key) ≡ b
      → IsHanded (is_said what (end_at h.core.ends other)) manner → end_at h.core.ends key ≡ Some (Over why) → Fine x.past
      → Fine (if b then (let y : Sight = record { begun = goes_on_behind x.begun manner part; past = sees_handed s x.begun x.past manner part } in y) else x).past
  over_handed why h what part manner x other true e on over f =
      let is : end_at h.core.ends other ≡ Some (Over why) = ap (end_at h.core.ends) (eqb-true other key e) ∙ over in
      let none : IsHanded (is_said what (Some (Over why))) manner = subst (λ (o : Option End). IsHanded (is_said what o) manner) is on in
      withheld_fine x part manner none f
  over_handed why h what part manner x other false e on over f = f

  over_whose : (why : Option FrontFault) (h : Machine) (what : Rattle.tds_relay.specs.declared.pool.coming.What.What) (part : Part Token) (manner : Manner) (x : Sight) (who : Option ℕ)
      → IsHanded (is_said what (end_whose who h.core.ends)) manner → end_at h.core.ends key ≡ Some (Over why) → Fine x.past
      → Fine (sees_its key who x (record { begun = goes_on_behind x.begun manner part; past = sees_handed s x.begun x.past manner part })).past
  over_whose why h what part manner x None on over f = f
  over_whose why h what part manner x (Some other) on over f = over_handed why h what part manner x other (other == key) refl on over f

  over_bytes : (why : Option FrontFault) (bytes : List ℕ) (o : Option End) (past : List Said) → o ≡ Some (Over why) → Fine past → Fine (sees_bytes s bytes o past)
  over_bytes why bytes o past e f = subst (λ (x : Option End). Fine (sees_bytes s bytes x past)) (sym e) f

  over_step : (why : Option FrontFault) (h : Machine) (step : Step) (x : Sight) → MayStep h step → end_at h.core.ends key ≡ Some (Over why) → Fine x.past → Fine (sees_step s key h step x).past
  over_step why h (Makes move) x may e f = f
  over_step why h (Hands number header content part way manner) x may e f =
      over_whose why h (what_in (dones_of_part h.core.pool number part)) part manner x (whose h.core.pool number) may.handed_on e f
  over_step why h (Takes other bytes) x may e f =
      over_if (other == key) x (record { begun = x.begun; past = sees_bytes s bytes (end_at h.core.ends key) x.past }) f (over_bytes why bytes (end_at h.core.ends key) x.past e f)
  over_step why h (Writes other count) x may e f = f
  over_step why h (Admits other ends queues) x may e f = f
  over_step why h (Removes other gives way) x may e f = f

  over_move : (why : Option FrontFault) (h : Core) (move : Move) → core.MayMove h move → StaysIn key move → end_at h.ends key ≡ Some (Over why) → end_at (moved h move).ends key ≡ Some (Over why)
  over_move why h move may stays e = end_behind_is key h move ∙ stays_over why key h move may stays e

  over_behind : (why : Option FrontFault) (h : Machine) (step : Step) → MayStep h step → StaysBy key step → end_at h.core.ends key ≡ Some (Over why) → end_at (after h step).core.ends key ≡ Some (Over why)
  over_behind why h (Makes move) may stays e = over_move why h.core move may.0 (stays_move key move may.1) e
  over_behind why h (Hands number header content part way manner) may stays e = over_move why h.core (core.Comes number part way) tt tt e
  over_behind why h (Takes other bytes) may stays e = over_move why h.core (core.Feeds other bytes) tt tt e
  over_behind why h (Writes other count) may stays e = e
  over_behind why h (Admits other ends queues) may stays e = over_move why h.core (Enters other ends) may.0 stays e
  over_behind why h (Removes other gives way) may stays e = over_move why h.core (core.Quits other gives way) tt stays e

  over_along : (why : Option FrontFault) (h : Machine) (steps : List Step) (x : Sight) → MayAll h steps → StaysAll key steps → end_at h.core.ends key ≡ Some (Over why) → Fine x.past
      → Fine (sees_steps s key h steps x).past
  over_along why h [] x may stays e f = f
  over_along why h (step ∷ steps) x may stays e f =
      over_along why (after h step) steps (sees_step s key h step x) may.1 stays.1 (over_behind why h step may.0 stays.0 e) (over_step why h step x may.0 e f)

  -- ---- Along steps

  -- behind a move
  next : (events : List Event) (h2 : Machine) (stage : Stage) (p : ServerIsAt) (es : List FrontEvent) (steps : List Step) (x : Sight) → MayAll h2 steps → StaysAll key steps
      → NowEnd (end_at h2.core.ends key) x.begun x.past → ((front : Front) (w : Bool) → Stands sharing key events h2.core front w → Fine (sees_steps s key h2 steps x).past)
      → Then sharing key events h2.core stage p es → Fine (sees_steps s key h2 steps x).past
  next events h2 stage p es steps x may stays now rest (Goes front w stands leads) = rest front w stands
  next events h2 stage p es steps x may stays now rest (IsOver why e) = over_along why h2 steps x may stays e now.fine

  along : (events : List Event) (h : Machine) (steps : List Step) (front : Front) (w : Bool) (x : Sight) → Stands sharing key events h.core front w → MayAll h steps → StaysAll key steps
      → Plain sharing (events ++ events_along h.core (moves_in steps)) → NowEnd (end_at h.core.ends key) x.begun x.past → Fine (sees_steps s key h steps x).past
  along events h [] front w x stands may stays plain now = now.fine
  along events h (Makes move ∷ steps) front w x stands may stays plain now =
      let h2 = after h (Makes move) in
      let events2 = events ++ events_of h.core move in
      let login = plain_next sharing events (events_of h.core move) (events_along h2.core (moves_in steps)) plain in
      let here = makes_seen h move x may.0.1 now in
      next events2 h2 front.stage stands.place (passes key h.core move) steps x may.1 stays.1 here
      (λ front2 v there. along events2 h2 steps front2 v x there may.1 stays.1 login here)
      (behind sharing key alone by judges events h.core move front w stands may.0.0 (stays_move key move may.0.1))
  along events h (Hands number header content part way manner ∷ steps) front w x stands may stays plain now =
      let move : Move = core.Comes number part way in
      let h2 = after h (Hands number header content part way manner) in
      let events2 = events ++ events_of h.core move in
      let login = plain_next sharing events (events_of h.core move) (events_along h2.core (moves_in steps)) plain in
      let first : Plain sharing (events ++ pool.Comes number part way ∷ []) = plain_front sharing events2 (events_along h2.core (moves_in steps)) login in
      let y = sees_step s key h (Hands number header content part way manner) x in
      let here = at_moved h.core move y.begun y.past (hands_seen s sharing key by events h front w stands number header content part way manner may.0 first x.begun x.past now) in
      next events2 h2 front.stage stands.place (passes key h.core move) steps y may.1 stays.1 here
      (λ front2 v there. along events2 h2 steps front2 v y there may.1 stays.1 login here)
      (behind sharing key alone by judges events h.core move front w stands tt tt)
  along events h (Takes other bytes ∷ steps) front w x stands may stays plain now =
      let move : Move = core.Feeds other bytes in
      let h2 = after h (Takes other bytes) in
      let events2 = events ++ events_of h.core move in
      let login = plain_next sharing events (events_of h.core move) (events_along h2.core (moves_in steps)) plain in
      let y = sees_step s key h (Takes other bytes) x in
      let here = takes_seen h other bytes x now in
      next events2 h2 front.stage stands.place (passes key h.core move) steps y may.1 stays.1 here
      (λ front2 v there. along events2 h2 steps front2 v y there may.1 stays.1 login here)
      (behind sharing key alone by judges events h.core move front w stands tt tt)
  along events h (Writes other count ∷ steps) front w x stands may stays plain now = along events (after h (Writes other count)) steps front w x stands may.1 stays.1 plain now
  along events h (Admits other ends queues ∷ steps) front w x stands may stays plain now =
      let move : Move = Enters other ends in
      let h2 = after h (Admits other ends queues) in
      let events2 = events ++ events_of h.core move in
      let login = plain_next sharing events (events_of h.core move) (events_along h2.core (moves_in steps)) plain in
      let here : NowEnd (end_at h2.core.ends key) x.begun x.past = subst (λ (o : Option End). NowEnd o x.begun x.past) (sym (may.0.0.others_stay key stays.0)) now in
      next events2 h2 front.stage stands.place (passes key h.core move) steps x may.1 stays.1 here
      (λ front2 v there. along events2 h2 steps front2 v x there may.1 stays.1 login here)
      (behind sharing key alone by judges events h.core move front w stands may.0.0 stays.0)
  along events h (Removes other gives way ∷ steps) front w x stands may stays plain now =
      let move : Move = core.Quits other gives way in
      let h2 = after h (Removes other gives way) in
      let events2 = events ++ events_of h.core move in
      let login = plain_next sharing events (events_of h.core move) (events_along h2.core (moves_in steps)) plain in
      let here = removes_seen h other gives way x now in
      next events2 h2 front.stage stands.place (passes key h.core move) steps x may.1 stays.1 here
      (λ front2 v there. along events2 h2 steps front2 v x there may.1 stays.1 login here)
      (behind sharing key alone by judges events h.core move front w stands tt stays.0)

  -- ---- Since it came

  start : (events : List Event) (h : Machine) (steps : List Step) → (entered : Entered sharing key events h.core) → MayAll h steps → StaysAll key steps → Plain sharing (events ++ events_along h.core (moves_in steps))
      → Fine (sees_steps s key h steps (record { begun = false; past = [] })).past
  start events h steps entered may stays plain =
      along events h steps entered.front entered.w (record { begun = false; past = [] }) entered.stands may stays plain
      (subst (λ (o : Option End). NowEnd o false []) (sym entered.stands.end_is) (begins entered.front entered.w entered.stands.asks entered.quiet))

  pub relayed_fine : (v : Visit sharing key) → Plain sharing (done_in v) → AllSupposed (relayed s v) → IsLawful (relayed s v)
  relayed_fine v plain supposed =
      let c = came sharing key v in
      let before = moves_in v.before in
      let h : Core = (after_all (new_machine sharing) v.before).core in
      let is : h ≡ moved_all (new_core sharing) before = core_after (new_machine sharing) v.before in
      let events : List Event = events_along (new_core sharing) before ++ [] in
      let entered : Entered sharing key events (moved (moved_all (new_core sharing) before) (Enters key v.ends)) =
      enters sharing key alone by judges before v.ends (may_moves (new_machine sharing) v.before c.may_before) (subst (λ (x : Core). core.HasEntered key x.ends v.ends) is c.may_come.0) in
      let came_is : moved (moved_all (new_core sharing) before) (Enters key v.ends) ≡ (machine_at_visit v).core =
      ap (λ (x : Core). moved x (Enters key v.ends)) (sym is) ∙ ap (λ (x : Machine). x.core) (sym c.machine_is) in
      let done : done_in v ≡ events ++ events_along (machine_at_visit v).core (moves_in v.since) = visited v (machine_at_visit v).core came_is in
      (start events (machine_at_visit v) v.since (subst (Entered sharing key events) came_is entered) c.may_since v.stays (subst (Plain sharing) done plain)).lawful supposed

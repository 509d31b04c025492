-- What is told of an application's end along moves, from where it enters: it is open, and where its stage is what passes it leads to; or it is over.
use Rattle.std.proofs.Common.{◌≡◌, ◌∙◌, ℕ, Bool, List, [], ◌∷◌, ◌++◌, refl, sym, ap, subst}
use Rattle.std.specs.Prelude.{Option, Some, None}
use Rattle.std.proofs.lemmas.List.{append-nil}
use Rattle.tds_packet.specs.declared.status.Reset.{Reset}
use Rattle.tds_front.specs.declared.front.Front.{Front}
use Rattle.tds_front.specs.declared.stage.Stage.{Stage}
use Rattle.tds_front.specs.declared.stage.Stage.TheVariants as stages
use Rattle.tds_front.specs.Bytes.{fed}
use Rattle.tds_front.specs.Passing.{FrontEvent, SaysOf, judged, stage_fed}
use Rattle.tds_front.specs.Serving.{ServerIsAt, Ready}
use Rattle.tds_front.specs.declared.fault.FrontFault.{FrontFault}
use Rattle.tds_service.specs.Service.{Seat, seat_numbered}
use Rattle.tds_relay.specs.Behind.{StaysIn, events_along, passes}
use Rattle.tds_relay.specs.Pool.{Pool, Event, Sharing, new_pool}
use Rattle.tds_relay.specs.Core.{End, Open, Over, EndList, Enters, Core, HasEntered, MayMove, MayMoveAll, Move, end_at, events_of, moved, moved_all, new_core}
use Rattle.tds_relay.proofs.ends.Ending.{IsEndThere, end_behind_is, passes_by}
use Rattle.tds_relay.proofs.ends.Folding.{Alone, ByHistory, IsAt, append_more, known_at, leaves_at, next_at, outs_of, passes_is, sits_at, sound_at, stays_there, step_story}
use Rattle.tds_relay.proofs.ends.Fronting.{out_of}
use Rattle.tds_relay.proofs.ends.Leading.{Leads}
use Rattle.tds_relay.proofs.ends.Turning.{StepOf, StoryOf}
use Rattle.tds_relay.proofs.ends.Moving.{step}
use Rattle.tds_relay.proofs.held.Ours.{Gone}
use Rattle.tds_relay.proofs.ends.Standing.{Standing}

-- bytes are a packet, or a refusal (tds_front)
abbrev pub Judging : Type 0
Judging = (front : Front) (bytes : List ℕ) → ((fed front bytes).front.stage ≡ stage_fed front.stage (judged front.due bytes) (fed front bytes).brings)
    × SaysOf front.stage (judged front.due bytes) (fed front bytes).brings

-- Its end is open, and tied to what it holds at the pool.
pub record Stands (sharing : Sharing) (key : ℕ) (events : List Event) (h : Core) (front : Front) (w : Bool) : Type 0 where
  pub is : IsAt sharing events h
  pub asks : Option Reset
  pub end_is : end_at h.ends key ≡ Some (Open front w asks)
  pub place : ServerIsAt
  pub standing : Standing (outs_of sharing events) h.pool key front.stage w place

-- Behind what passed it is so again, where that leads, or over.
pub data Then (sharing : Sharing) (key : ℕ) (events : List Event) (h : Core) (stage : Stage) (p : ServerIsAt) (es : List FrontEvent) : Type 0 where
  Goes : (front : Front) (w : Bool) → (s : Stands sharing key events h front w) → Leads stage p es front.stage s.place → Then sharing key events h stage p es
  IsOver : (why : Option FrontFault) → end_at h.ends key ≡ Some (Over why) → Then sharing key events h stage p es

-- An application has entered, and its end is as at first.
pub record Entered (sharing : Sharing) (key : ℕ) (events : List Event) (h : Core) : Type 0 where
  pub front : Front
  pub w : Bool
  pub stands : Stands sharing key events h front w
  pub quiet : front.stage ≡ stages.Quiet
  pub ready : stands.place ≡ Ready

module _ (sharing : Sharing) (key : ℕ) (alone : Alone) (by : ByHistory) (judges : Judging) where
  pub known_of : (events : List Event) (h : Core) → IsAt sharing events h → (n : ℕ) (c : Seat) → seat_numbered n h.pool.service.seats ≡ Some c → out_of c.line.stage (outs_of sharing events n) ≡ outs_of sharing events n
  known_of events h is n c there = known_at alone by sharing events n c (ap (λ (d : Pool). seat_numbered n d.service.seats) (sym is) ∙ there)

  abbrev Tale : List Event → Core → ServerIsAt → Type 0
  Tale events h p = StoryOf (outs_of sharing events) h.pool key p (end_at h.ends key)

  abbrev Steps : List Event → Core → Move → ServerIsAt → Option End → Option End → Type 0
  Steps events h move p o o2 = StepOf (outs_of sharing (events ++ events_of h move)) (moved h move).pool key p (passes_by key h move o) o o2

  steps : (events : List Event) (h : Core) (move : Move) (p : ServerIsAt) → IsAt sharing events h → MayMove h move → Tale events h p → Steps events h move p (end_at h.ends key) (end_at (moved h move).ends key)
  steps events h move p is may tale =
      let outs = outs_of sharing events in
      let outs2 = outs_of sharing (events ++ events_of h move) in
      let one = step h key outs outs2 (sound_at sharing events h is) (sits_at sharing events h is) judges (known_of events h is) move p may tale (leaves_at sharing events h move is) in
      subst (λ (o : Option End). Steps events h move p (end_at h.ends key) o) (sym (end_behind_is key h move)) one

  -- ---- Along any moves

  -- a core that was reached, and what is told there
  record At (events : List Event) (h : Core) : Type 0 where
    is : IsAt sharing events h
    place : ServerIsAt
    tale : Tale events h place

  at_next : (events : List Event) (h : Core) (move : Move) → MayMove h move → At events h → At (events ++ events_of h move) (moved h move)
  at_next events h move may at =
      let next = step_story (outs_of sharing (events ++ events_of h move)) (moved h move).pool key at.place (passes_by key h move (end_at h.ends key)) (end_at h.ends key) (end_at (moved h move).ends key)
      (steps events h move at.place at.is may at.tale) in
      record { is = next_at sharing events h move at.is; place = next.0; tale = next.1 }

  at_all : (events : List Event) (h : Core) (moves : List Move) → MayMoveAll h moves → At events h → At (events ++ events_along h moves) (moved_all h moves)
  at_all events h [] may at = subst (λ (es : List Event). At es h) (sym (append-nil events)) at
  at_all events h (move ∷ moves) may at =
      subst (λ (es : List Event). At es (moved_all (moved h move) moves)) (append_more events (events_of h move) (events_along (moved h move) moves))
      (at_all (events ++ events_of h move) (moved h move) moves may.1 (at_next events h move may.0 at))

  at_first : At [] (new_core sharing)
  at_first = record { is = refl; place = Ready; tale = (let gone : Gone key (new_pool sharing) = record { holds = refl; waits = refl } in gone) }

  -- ---- From where it enters

  -- before, it has nothing at the pool
  pub record Free (events : List Event) (h : Core) : Type 0 where
    pub is : IsAt sharing events h
    pub gone : Gone key h.pool

  pub before : (moves : List Move) → MayMoveAll (new_core sharing) moves → end_at (moved_all (new_core sharing) moves).ends key ≡ None → Free (events_along (new_core sharing) moves) (moved_all (new_core sharing) moves)
  before moves may free =
      let h = moved_all (new_core sharing) moves in
      let events = events_along (new_core sharing) moves in
      let at : At events h = at_all [] (new_core sharing) moves may at_first in
      record { is = at.is; gone = subst (λ (o : Option End). StoryOf (outs_of sharing events) h.pool key at.place o) free at.tale }

  entered_by : (events : List Event) (h : Core) (o o2 : Option End) (p : ServerIsAt) (es : List FrontEvent) → IsAt sharing events h → end_at h.ends key ≡ o2 → o ≡ None → IsEndThere o2
      → StepOf (outs_of sharing events) h.pool key p es o o2 → Entered sharing key events h
  entered_by events h None None p es is same e there s = absurd there
  entered_by events h None (Some (Open front w asks)) p es is same e there s =
      record { front = front; w = w; stands = record { is = is; asks = asks; end_is = same; place = Ready; standing = s.0 }; quiet = s.1; ready = refl }
  entered_by events h None (Some (Over why)) p es is same e there s = absurd s
  entered_by events h (Some end) o2 p es is same e there s = absurd (let u : ⊥ = cc in u)

  pub enters : (moves : List Move) (ends : EndList) → MayMoveAll (new_core sharing) moves → HasEntered key (moved_all (new_core sharing) moves).ends ends
      → Entered sharing key (events_along (new_core sharing) moves ++ []) (moved (moved_all (new_core sharing) moves) (Enters key ends))
  enters moves ends may entered =
      let h = moved_all (new_core sharing) moves in
      let move : Move = Enters key ends in
      let events = events_along (new_core sharing) moves in
      let at : At events h = at_all [] (new_core sharing) moves may at_first in
      let there : IsEndThere (end_at ends key) = subst IsEndThere (sym entered.begins) tt in
      entered_by (events ++ []) (moved h move) (end_at h.ends key) (end_at ends key) at.place [] (next_at sharing events h move at.is) refl entered.was_free there
      (steps events h move at.place at.is entered at.tale)

  -- ---- Behind one more

  then_by : (events : List Event) (h : Core) (p : ServerIsAt) (es : List FrontEvent) (front : Front) (w : Bool) (asks : Option Reset) (o2 : Option End) → IsAt sharing events h → end_at h.ends key ≡ o2 → IsEndThere o2
      → StepOf (outs_of sharing events) h.pool key p es (Some (Open front w asks)) o2 → Then sharing key events h front.stage p es
  then_by events h p es front w asks None is same there s = absurd there
  then_by events h p es front w asks (Some (Open next v then)) is same there s = Goes next v (record { is = is; asks = then; end_is = same; place = s.place; standing = s.standing }) s.leads
  then_by events h p es front w asks (Some (Over why)) is same there s = IsOver why same

  pub behind : (events : List Event) (h : Core) (move : Move) (front : Front) (w : Bool) → (s : Stands sharing key events h front w) → MayMove h move → StaysIn key move
      → Then sharing key (events ++ events_of h move) (moved h move) front.stage s.place (passes key h move)
  behind events h move front w s may stays =
      let h2 = moved h move in
      let events2 = events ++ events_of h move in
      let there : IsEndThere (end_at h2.ends key) = subst IsEndThere (sym (end_behind_is key h move)) (stays_there key h move may stays (subst IsEndThere (sym s.end_is) tt)) in
      let tale : Tale events h s.place = subst (λ (o : Option End). StoryOf (outs_of sharing events) h.pool key s.place o) (sym s.end_is) s.standing in
      let one : Steps events h move s.place (end_at h.ends key) (end_at h2.ends key) = steps events h move s.place s.is may tale in
      let two : StepOf (outs_of sharing events2) h2.pool key s.place (passes key h move) (end_at h.ends key) (end_at h2.ends key) =
      subst (λ (es : List FrontEvent). StepOf (outs_of sharing events2) h2.pool key s.place es (end_at h.ends key) (end_at h2.ends key)) (passes_is key h move) one in
      let three : StepOf (outs_of sharing events2) h2.pool key s.place (passes key h move) (Some (Open front w s.asks)) (end_at h2.ends key) =
      subst (λ (o : Option End). StepOf (outs_of sharing events2) h2.pool key s.place (passes key h move) o (end_at h2.ends key)) s.end_is two in
      then_by events2 h2 s.place (passes key h move) front w s.asks (end_at h2.ends key) (next_at sharing events h move s.is) refl there three

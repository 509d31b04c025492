-- What an application is given since it came is what its end says, one by one.
use Rattle.std.proofs.Common.{◌≡◌, ◌∙◌, ◌==◌, ℕ, Bool, true, false, List, [], ◌∷◌, ◌++◌, refl, sym, ap, subst}
use Rattle.std.specs.Prelude.{Option, Some, None}
use Rattle.std.proofs.lemmas.Bool.{eqb-true}
use Rattle.tds_front.specs.declared.front.Front.{Front}
use Rattle.tds_front.specs.declared.stage.Stage.{Stage}
use Rattle.tds_front.specs.declared.stage.Stage.TheVariants as stages
use Rattle.tds_front.specs.Passing.{FrontEvent, towards}
use Rattle.tds_front.specs.Serving.{ServerIsAt}
use Rattle.tds_packet.specs.declared.header.Header.{Header}
use Rattle.tds_front.specs.declared.fault.FrontFault.{FrontFault}
use Rattle.tds_relay.specs.Behind.{Stays, events_along, passed, passes}
use Rattle.tds_relay.specs.Pool.{Event, Sharing, whose}
use Rattle.tds_relay.specs.Giving.{AreSaid, Given, StaysAll, Visit, given, given_all, given_in, happens_in, machine_at_visit, if_its, moves_in}
use Rattle.tds_relay.specs.Core as core
use Rattle.tds_relay.specs.Core.{End, Over, Enters, Core, MayMoveAll, Move, dones_of_part, end_at, events_of, moved, moved_all, new_core, what_in}
use Rattle.tds_relay.specs.Machine.{Machine, Step, Makes, Hands, Takes, Writes, Admits, Removes, IsHanded, Manner, MayAll, MayStep, after, after_all, end_whose, handed, is_said, moves_of, new_machine, owed}
use Rattle.tds_relay.proofs.ends.Ending.{end_behind_is}
use Rattle.tds_relay.proofs.ends.Folding.{Alone, ByHistory, over_silent, stays_over}
use Rattle.tds_relay.proofs.ends.Leading.{stage_along}
use Rattle.tds_relay.proofs.visits.Handing.{hands_said}
use Rattle.tds_relay.proofs.visits.Owing.{taken_said}
use Rattle.tds_relay.proofs.visits.Reached.{Entered, Goes, IsOver, Judging, Stands, Then, behind, enters}
use Rattle.tds_relay.proofs.visits.Replies.{Said, gives, made_said, not_its, said_both}
use Rattle.tds_relay.proofs.visits.Stays.{came, core_after, may_moves, may_step, stays_move, stays_moves, stays_step}

-- ---- To one that is over nothing is given

its_nothing : (key other : ℕ) (o : Option Given) (b : Bool) → (other == key) ≡ b → (other ≡ key → o ≡ None) → if_its key (Some other) o ≡ []
its_nothing key other o true e none = ap (if_its key (Some other)) (none (eqb-true other key e))
its_nothing key other o false e none = not_its key other o e

not_handed : (manner : Manner) (header : Header) (content : List ℕ) → IsHanded false manner → handed manner header content ≡ None
not_handed manner header content e = ap (λ (m : Manner). handed m header content) e

hands_nothing : (why : Option FrontFault) (key : ℕ) (h : Machine) (number : ℕ) (header : Header) (content : List ℕ) (manner : Manner) (what : Rattle.tds_relay.specs.declared.pool.coming.What.What) (who : Option ℕ)
    → end_at h.core.ends key ≡ Some (Over why) → IsHanded (is_said what (end_whose who h.core.ends)) manner → if_its key who (handed manner header content) ≡ []
hands_nothing why key h number header content manner what None e on = refl
hands_nothing why key h number header content manner what (Some other) e on =
    its_nothing key other (handed manner header content) (other == key) refl
    (λ is. not_handed manner header content
    (let at : end_at h.core.ends other ≡ Some (Over why) = ap (end_at h.core.ends) is ∙ e in
    subst (λ (o : Option End). IsHanded (is_said what o) manner) at on))

over_given : (why : Option FrontFault) (key : ℕ) (h : Machine) (step : Step) → MayStep h step → end_at h.core.ends key ≡ Some (Over why) → given key h step ≡ []
over_given why key h (Makes move) may e = refl
over_given why key h (Hands number header content part way manner) may e =
    hands_nothing why key h number header content manner (what_in (dones_of_part h.core.pool number part)) (whose h.core.pool number) e may.handed_on
over_given why key h (Takes other bytes) may e =
    its_nothing key other (owed bytes (end_at h.core.ends other)) (other == key) refl (λ is. ap (owed bytes) (ap (end_at h.core.ends) is ∙ e))
over_given why key h (Writes other count) may e = refl
over_given why key h (Admits other ends queues) may e = refl
over_given why key h (Removes other gives way) may e = refl

-- it stays over
over_then : (why : Option FrontFault) (key : ℕ) (h : Core) (moves : List Move) → MayMoveAll h moves → Stays key moves → end_at h.ends key ≡ Some (Over why) → end_at (moved_all h moves).ends key ≡ Some (Over why)
over_then why key h [] may stays e = e
over_then why key h (move ∷ moves) may stays e =
    over_then why key (moved h move) moves may.1 stays.1 (end_behind_is key h move ∙ stays_over why key h move may.0 stays.0 e)

over_all : (why : Option FrontFault) (key : ℕ) (h : Machine) (steps : List Step) → MayAll h steps → StaysAll key steps → end_at h.core.ends key ≡ Some (Over why) → given_all key h steps ≡ []
over_all why key h [] may stays e = refl
over_all why key h (step ∷ steps) may stays e =
    ap (λ (all : List Given). all ++ given_all key (after h step) steps) (over_given why key h step may.0 e)
    ∙ over_all why key (after h step) steps may.1 stays.1 (over_then why key h.core (moves_of step) (may_step h step may.0) (stays_step key h step may.0 stays.0) e)

-- ---- Along steps

module _ (sharing : Sharing) (key : ℕ) (alone : Alone) (by : ByHistory) (judges : Judging) where
  -- behind one move
  said_next : (events : List Event) (h2 : Machine) (stage : Stage) (p : ServerIsAt) (es : List FrontEvent) (all : List Given) (steps : List Step) → MayAll h2 steps → StaysAll key steps → Said stage es all
      → ((front : Front) (w : Bool) → Stands sharing key events h2.core front w → Said front.stage (passed key h2.core (moves_in steps)) (given_all key h2 steps))
      → Then sharing key events h2.core stage p es → Said stage (es ++ passed key h2.core (moves_in steps)) (all ++ given_all key h2 steps)
  said_next events h2 stage p es all steps may stays first rest (Goes front w stands leads) =
      let more : List FrontEvent = passed key h2.core (moves_in steps) in
      said_both stage es more all (given_all key h2 steps) first
      (subst (λ (s : Stage). Said s more (given_all key h2 steps)) (sym leads.stage_is) (rest front w stands))
  said_next events h2 stage p es all steps may stays first rest (IsOver why e) =
      let more : List FrontEvent = passed key h2.core (moves_in steps) in
      let silent : more ≡ [] = over_silent why key h2.core (moves_in steps) e (may_moves h2 steps may) (stays_moves key h2 steps may stays) in
      let nothing : given_all key h2 steps ≡ [] = over_all why key h2 steps may stays e in
      said_both stage es more all (given_all key h2 steps) first
      (subst (λ (gs : List Given). Said (stage_along stage es) more gs) (sym nothing) (subst (λ (xs : List FrontEvent). Said (stage_along stage es) xs []) (sym silent) (λ begun. refl)))

  said_along : (events : List Event) (h : Machine) (steps : List Step) (front : Front) (w : Bool) → Stands sharing key events h.core front w → MayAll h steps → StaysAll key steps
      → Said front.stage (passed key h.core (moves_in steps)) (given_all key h steps)
  said_along events h [] front w s may stays = λ begun. refl
  said_along events h (Makes move ∷ steps) front w s may stays =
      let h2 = after h (Makes move) in
      let events2 = events ++ events_of h.core move in
      said_next events2 h2 front.stage s.place (passes key h.core move) [] steps may.1 stays.1 (made_said key h.core move front.stage may.0.1)
      (λ next v stands. said_along events2 h2 steps next v stands may.1 stays.1)
      (behind sharing key alone by judges events h.core move front w s may.0.0 (stays_move key move may.0.1))
  said_along events h (Hands number header content part way manner ∷ steps) front w s may stays =
      let move : Move = core.Comes number part way in
      let h2 = after h (Hands number header content part way manner) in
      let events2 = events ++ events_of h.core move in
      said_next events2 h2 front.stage s.place (passes key h.core move) (if_its key (whose h.core.pool number) (handed manner header content)) steps may.1 stays.1
      (hands_said sharing key events h front w s number header content part manner may.0 way)
      (λ next v stands. said_along events2 h2 steps next v stands may.1 stays.1)
      (behind sharing key alone by judges events h.core move front w s tt tt)
  said_along events h (Takes other bytes ∷ steps) front w s may stays =
      let move : Move = core.Feeds other bytes in
      let h2 = after h (Takes other bytes) in
      let events2 = events ++ events_of h.core move in
      said_next events2 h2 front.stage s.place (passes key h.core move) (if_its key (Some other) (owed bytes (end_at h.core.ends other))) steps may.1 stays.1
      (taken_said key h.core other bytes front w s.asks s.end_is (judges front bytes).1)
      (λ next v stands. said_along events2 h2 steps next v stands may.1 stays.1)
      (behind sharing key alone by judges events h.core move front w s tt tt)
  said_along events h (Writes other count ∷ steps) front w s may stays = said_along events (after h (Writes other count)) steps front w s may.1 stays.1
  said_along events h (Admits other ends queues ∷ steps) front w s may stays =
      let move : Move = Enters other ends in
      let h2 = after h (Admits other ends queues) in
      let events2 = events ++ events_of h.core move in
      said_next events2 h2 front.stage s.place (passes key h.core move) [] steps may.1 stays.1 (λ begun. refl)
      (λ next v stands. said_along events2 h2 steps next v stands may.1 stays.1)
      (behind sharing key alone by judges events h.core move front w s may.0.0 stays.0)
  said_along events h (Removes other gives way ∷ steps) front w s may stays =
      let move : Move = core.Quits other gives way in
      let h2 = after h (Removes other gives way) in
      let events2 = events ++ events_of h.core move in
      said_next events2 h2 front.stage s.place (passes key h.core move) [] steps may.1 stays.1 (λ begun. refl)
      (λ next v stands. said_along events2 h2 steps next v stands may.1 stays.1)
      (behind sharing key alone by judges events h.core move front w s tt stays.0)

  -- ---- Since it came

  said_entered : (events : List Event) (h : Machine) (steps : List Step) → Entered sharing key events h.core → MayAll h steps → StaysAll key steps
      → AreSaid (towards None stages.Quiet (passed key h.core (moves_in steps))) (given_all key h steps)
  said_entered events h steps entered may stays =
      let all : Said entered.front.stage (passed key h.core (moves_in steps)) (given_all key h steps) = said_along events h steps entered.front entered.w entered.stands may stays in
      subst (λ (stage : Stage). Said stage (passed key h.core (moves_in steps)) (given_all key h steps)) entered.quiet all None

  pub said_visit : (v : Visit sharing key) → AreSaid (happens_in v) (given_in v)
  said_visit v =
      let c = came sharing key v in
      let before = moves_in v.before in
      let h : Core = (after_all (new_machine sharing) v.before).core in
      let is : h ≡ moved_all (new_core sharing) before = core_after (new_machine sharing) v.before in
      let events : List Event = events_along (new_core sharing) before ++ [] in
      let entered : Entered sharing key events (moved (moved_all (new_core sharing) before) (Enters key v.ends)) =
      enters sharing key alone by judges before v.ends (may_moves (new_machine sharing) v.before c.may_before) (subst (λ (x : Core). core.HasEntered key x.ends v.ends) is c.may_come.0) in
      let came_is : moved (moved_all (new_core sharing) before) (Enters key v.ends) ≡ (machine_at_visit v).core =
      ap (λ (x : Core). moved x (Enters key v.ends)) (sym is) ∙ ap (λ (x : Machine). x.core) (sym c.machine_is) in
      said_entered events (machine_at_visit v) v.since (subst (Entered sharing key events) came_is entered) c.may_since v.stays

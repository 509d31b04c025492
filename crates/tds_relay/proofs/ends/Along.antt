-- An application's end along moves, from where it enters: behind it is a lawful server's end.
use Rattle.std.proofs.Common.{◌≡◌, ◌∙◌, ℕ, Bool, false, List, [], ◌∷◌, ◌++◌, refl, sym, ap, subst}
use Rattle.std.specs.Prelude.{Some}
use Rattle.std.proofs.lemmas.List.{append-nil}
use Rattle.tds_front.specs.declared.front.Front.{Front}
use Rattle.tds_front.specs.declared.stage.Stage.{Stage}
use Rattle.tds_front.specs.declared.stage.Stage.TheVariants as stages
use Rattle.tds_front.specs.Passing.{FrontEvent, EndsWhole, happenings_of}
use Rattle.tds_front.specs.Serving.{ServerIsAt, Ready, IsLawful}
use Rattle.tds_relay.specs.Behind.{AllAnswerOnce, Stay, Stays, events_along, passed, passed_in, passes}
use Rattle.tds_relay.specs.Pool.{Event, Sharing, pool_after}
use Rattle.tds_relay.specs.Fronting.{AnswersOnce, done_on}
use Rattle.tds_relay.specs.Core.{Open, EndList, Enters, Core, MayMove, MayMoveAll, Move, events_of, moved, moved_all, new_core}
use Rattle.tds_relay.proofs.ends.Ending.{passes_by}
use Rattle.tds_relay.proofs.ends.Folding.{Alone, ByHistory, IsAt, append_more, done_at, done_both, done_from, lawful_by, leaves_at, may_each, moved_both, outs_of, over_silent, passes_is, sits_at, sound_at}
use Rattle.tds_relay.proofs.ends.Leading.{Lawful, lawful_more}
use Rattle.tds_relay.proofs.ends.Outs.{once_split}
use Rattle.tds_relay.proofs.visits.Reached as reached
use Rattle.tds_relay.proofs.visits.Reached.{Entered, Goes, IsOver, Judging, Stands, Then, enters}

-- each server answers each request once at most
abbrev Answers : Sharing → List Event → Type 0
Answers sharing events = (number : ℕ) → AnswersOnce false (done_on sharing number events)

events_both : (h : Core) (before after : List Move) → events_along h (before ++ after) ≡ events_along h before ++ events_along (moved_all h before) after
events_both h [] after = refl
events_both h (move ∷ before) after =
    ap (λ (es : List Event). events_of h move ++ es) (events_both (moved h move) before after)
    ∙ sym (append_more (events_of h move) (events_along (moved h move) before) (events_along (moved_all (moved h move) before) after))

module _ (sharing : Sharing) (key : ℕ) (alone : Alone) (by : ByHistory) (judges : Judging) where
  -- ---- From where it stands

  once_of : (events : List Event) (h : Core) (move : Move) (more : List Event) → IsAt sharing events h → Answers sharing (events ++ (events_of h move ++ more)) → (n : ℕ)
      → AnswersOnce (outs_of sharing events n) (done_from n h.pool (events_of h move))
  once_of events h move more is once n =
      let es = events_of h move in
      let all : AnswersOnce false (done_on sharing n events ++ done_from n h.pool (es ++ more)) = subst (AnswersOnce false) (done_at sharing events h n (es ++ more) is) (once n) in
      let here : AnswersOnce (outs_of sharing events n) (done_from n h.pool (es ++ more)) = (once_split false (done_on sharing n events) (done_from n h.pool (es ++ more)) all).1 in
      let two : AnswersOnce (outs_of sharing events n) (done_from n h.pool es ++ done_from n (pool_after h.pool es) more) = subst (AnswersOnce (outs_of sharing events n)) (done_both n h.pool es more) here in
      (once_split (outs_of sharing events n) (done_from n h.pool es) (done_from n (pool_after h.pool es) more) two).0

  once_next : (events : List Event) (h : Core) (move : Move) (moves : List Move) → Answers sharing (events ++ events_along h (move ∷ moves))
      → Answers sharing ((events ++ events_of h move) ++ events_along (moved h move) moves)
  once_next events h move moves once =
      subst (λ (es : List Event). Answers sharing es) (sym (append_more events (events_of h move) (events_along (moved h move) moves))) once

  -- what one move says
  lawful_one : (events : List Event) (h : Core) (move : Move) (more : List Event) (front : Front) (w : Bool) → (s : Stands sharing key events h front w) → MayMove h move
      → Answers sharing (events ++ (events_of h move ++ more)) → Lawful s.place front.stage (passes key h move)
  lawful_one events h move more front w s may once =
      let one : Lawful s.place front.stage (passes_by key h move (Some (Open front w s.asks))) =
      lawful_by h key (outs_of sharing events) (outs_of sharing (events ++ events_of h move)) (sound_at sharing events h s.is) (sits_at sharing events h s.is) judges
      (reached.known_of sharing key alone by judges events h s.is) move s.place front w s.asks s.end_is may s.standing (leaves_at sharing events h move s.is) (once_of events h move more s.is once) in
      subst (λ (es : List FrontEvent). Lawful s.place front.stage es) (ap (passes_by key h move) (sym s.end_is) ∙ passes_is key h move) one

  -- and behind it others
  lawful_next : (events : List Event) (h : Core) (moves : List Move) (p : ServerIsAt) (stage : Stage) (es : List FrontEvent) → MayMoveAll h moves → Stays key moves → Lawful p stage es
      → Then sharing key events h stage p es
      → ((front : Front) (w : Bool) → (s : Stands sharing key events h front w) → Lawful s.place front.stage (passed key h moves)) → Lawful p stage (es ++ passed key h moves)
  lawful_next events h moves p stage es may stays one (Goes front w s leads) rest = lawful_more stage front.stage p s.place es (passed key h moves) leads one (rest front w s)
  lawful_next events h moves p stage es may stays one (IsOver why is) rest =
      let none : passed key h moves ≡ [] = over_silent why key h moves is may stays in
      let all : es ≡ es ++ passed key h moves = sym (append-nil es) ∙ ap (λ (xs : List FrontEvent). es ++ xs) (sym none) in
      subst (λ (xs : List FrontEvent). Lawful p stage xs) all one

  lawful_along : (events : List Event) (h : Core) (moves : List Move) (front : Front) (w : Bool) → (s : Stands sharing key events h front w) → MayMoveAll h moves → Stays key moves
      → Answers sharing (events ++ events_along h moves) → Lawful s.place front.stage (passed key h moves)
  lawful_along events h [] front w s may stays once = (tt, tt)
  lawful_along events h (move ∷ moves) front w s may stays once =
      let events2 = events ++ events_of h move in
      let h2 = moved h move in
      lawful_next events2 h2 moves s.place front.stage (passes key h move) may.1 stays.1 (lawful_one events h move (events_along h2 moves) front w s may.0 once)
      (reached.behind sharing key alone by judges events h move front w s may.0 stays.0)
      (λ next v t. lawful_along events2 h2 moves next v t may.1 stays.1 (once_next events h move moves once))

  -- ---- From where it enters

  abbrev Result : Core → List Move → Type 0
  Result h after = IsLawful Ready (happenings_of stages.Quiet (passed key h after)) × EndsWhole stages.Quiet (passed key h after)

  from_entered : (events : List Event) (h : Core) (after : List Move) → Entered sharing key events h → MayMoveAll h after → Stays key after → Answers sharing (events ++ events_along h after) → Result h after
  from_entered events h after entered may stays once =
      let es : List FrontEvent = passed key h after in
      let all : Lawful entered.stands.place entered.front.stage es = lawful_along events h after entered.front entered.w entered.stands may stays once in
      let ready : Lawful Ready entered.front.stage es = subst (λ (p : ServerIsAt). Lawful p entered.front.stage es) entered.ready all in
      subst (λ (stage : Stage). Lawful Ready stage es) entered.quiet ready

  lawful_entered : (ends : EndList) (before after : List Move) → MayMoveAll (new_core sharing) (before ++ Enters key ends ∷ after) → Stays key after
      → Answers sharing (events_along (new_core sharing) (before ++ Enters key ends ∷ after)) → Result (moved_all (new_core sharing) (before ++ Enters key ends ∷ [])) after
  lawful_entered ends before after may stays once =
      let h0 = new_core sharing in
      let split = may_each h0 before (Enters key ends ∷ after) may in
      let events = events_along h0 before in
      let h1 = moved_all h0 before in
      let h2 = moved h1 (Enters key ends) in
      let entered : Entered sharing key (events ++ []) h2 = enters sharing key alone by judges before ends split.0 split.1.0 in
      let once2 : Answers sharing ((events ++ []) ++ events_along h2 after) =
      subst (λ (es : List Event). Answers sharing es) (events_both h0 before (Enters key ends ∷ after) ∙ sym (append_more events [] (events_along h2 after))) once in
      subst (λ (h : Core). Result h after) (sym (moved_both h0 before (Enters key ends ∷ []))) (from_entered (events ++ []) h2 after entered split.1.1 stays once2)

-- ---- A stay

pub lawful_stay : (sharing : Sharing) (key : ℕ) → Alone → ByHistory → Judging → (s : Stay sharing key) → AllAnswerOnce s → IsLawful Ready (happenings_of stages.Quiet (passed_in s)) × EndsWhole stages.Quiet (passed_in s)
lawful_stay sharing key alone by judges s once = lawful_entered sharing key alone by judges s.ends s.before s.since s.may s.stays once

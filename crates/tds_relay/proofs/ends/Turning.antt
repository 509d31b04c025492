-- An application's end and what it holds at the pool, behind one event there: its own, or another's.
use Rattle.std.proofs.Common.{◌≡◌, ◌∙◌, ◌==◌, ℕ, Bool, true, false, List, [], ◌∷◌, refl, sym, ap, subst, inl, inr}
use Rattle.std.specs.Prelude.{Option, Some, None, not, if◌then◌else◌, option_map}
use Rattle.std.proofs.lemmas.Bool.{eqb-true, eq-eqb}
use Rattle.tds_packet.specs.declared.status.Reset.{Reset}
use Rattle.tds_wire.specs.declared.told.Token.{Token}
use Rattle.tds_front.specs.declared.front.Front.{Front}
use Rattle.tds_front.specs.declared.stage.Stage.TheVariants as stages
use Rattle.tds_front.specs.Passing.{FrontEvent}
use Rattle.tds_front.specs.Serving.{ServerIsAt, Ready}
use Rattle.tds_front.specs.declared.fault.FrontFault.{FrontFault}
use Rattle.tds_service.specs.Line.{Packet}
use Rattle.tds_service.specs.Parts.{Part}
use Rattle.tds_relay.specs.Pool as pool
use Rattle.tds_relay.specs.Pool.{Action, Pool, Event, Way, find_key, turn, whose}
use Rattle.tds_relay.specs.Behind.{gone_on, if_end_open, if_whose, said_in, unless_withdrawn}
use Rattle.tds_relay.specs.Core.{End, Open, Over, IfOpen, IsHere, IsNotPut, IsPut, MayDo, closes, dones_of_part, end_goes_on, holder, lets_go, sent_by, end_told, what_in}
use Rattle.tds_relay.proofs.promises.Caring.{Sound}
use Rattle.tds_relay.proofs.held.Lists.{places}
use Rattle.tds_relay.proofs.held.Seated.{AllSit}
use Rattle.tds_relay.proofs.held.Others.{IsOthers}
use Rattle.tds_relay.proofs.held.Ours.{Gone}
use Rattle.tds_relay.proofs.held.Away.{WaitsNot, WaitsOnce, stays_gone}
use Rattle.tds_relay.proofs.ends.Tying.{went_by}
use Rattle.tds_relay.proofs.ends.Standing.{AtPool, Leaves, Sent, Standing, apart_stands, asks_stand, at_pool, ends_stand, lacks_stand, lets_stand, puts_stand, renews_stand, replaced_stands, stays_next, stops_stand, unheard_stands, unlost_stands}
use Rattle.tds_relay.proofs.ends.Stopping.{Known, Told, pool_next, hears_stand, never_waits, quits_gone}
use Rattle.tds_relay.proofs.ends.Ending.{IsEndThere, whose_by}

-- ---- What is told of it

abbrev pub StoryOf : (ℕ → Bool) → Pool → ℕ → ServerIsAt → Option End → Type 0
StoryOf outs d key p None = Gone key d
StoryOf outs d key p (Some (Open front w asks)) = Standing outs d key front.stage w p
StoryOf outs d key p (Some (Over why)) = AtPool key d

abbrev pub StepOf : (ℕ → Bool) → Pool → ℕ → ServerIsAt → List FrontEvent → Option End → Option End → Type 0
StepOf outs d key p es None None = Gone key d
StepOf outs d key p es None (Some (Open front w asks)) = Standing outs d key front.stage w Ready × (front.stage ≡ stages.Quiet)
StepOf outs d key p es None (Some (Over why)) = ⊥
StepOf outs d key p es (Some (Open front w asks)) None = Gone key d
StepOf outs d key p es (Some (Open front w asks)) (Some end) = Told outs d key front.stage p es end
StepOf outs d key p es (Some (Over why)) None = Gone key d
StepOf outs d key p es (Some (Over why)) (Some (Open front w asks)) = ⊥
StepOf outs d key p es (Some (Over was)) (Some (Over why)) = AtPool key d

module _ (d : Pool) (key : ℕ) (outs outs2 : ℕ → Bool) (sound : Sound d) (sit : AllSit d) where
  abbrev Left : Event → Type 0
  Left event = Leaves d key outs outs2 sound sit event

  abbrev Behind : Event → ServerIsAt → List FrontEvent → Option End → Option End → Type 0
  Behind event p es o o2 = StepOf outs2 (turn d event).pool key p es o o2

  -- an event of another, for which nothing passes
  abbrev AreOthers : Event → Type 0
  AreOthers event = (n : ℕ) → IsOthers key n event

  pub apart_step : (event : Event) (p : ServerIsAt) (o : Option End) → StoryOf outs d key p o → AreOthers event → WaitsOnce key d event → WaitsNot key event → Left event → Behind event p [] o o
  apart_step event p None s others once not left = stays_gone d key s event not
  apart_step event p (Some (Open front w asks)) s others once not left =
      stays_next outs2 (turn d event).pool key front.stage w p (apart_stands d key outs outs2 sound sit event front.stage w p s others once left)
  apart_step event p (Some (Over why)) s others once not left = pool_next d key sound sit event s once

  -- ---- At the pool alone

  abbrev Away : Option End → Type 0
  Away o = IsEndThere o × (find_key key d.holds ≡ None) × (places key d.line ≡ [])

  waits_step : (p : ServerIsAt) (o : Option End) → StoryOf outs d key p o → Away o → Left (pool.Waits key) → Behind (pool.Waits key) p [] o o
  waits_step p None s away left = absurd away.0
  waits_step p (Some (Open front w asks)) (inl k) away left = absurd (never_waits d key sound sit (record { hold = k.hold; seat = k.seat; its = k.its }) away.1)
  waits_step p (Some (Open front w asks)) (inr k) away left =
      stays_next outs2 (turn d (pool.Waits key)).pool key front.stage w p (lacks_stand d key outs outs2 sound sit (pool.Waits key) front.stage w p k (λ is. (away.1, away.2)))
  waits_step p (Some (Over why)) s away left = pool_next d key sound sit (pool.Waits key) s (λ is. (away.1, away.2))

  action_step : (action : Action) (p : ServerIsAt) (o : Option End) → StoryOf outs d key p o → IsNotPut action → MayDo action o → Left (pool.Does key action) → Behind (pool.Does key action) p [] o o
  action_step action p None s not may left = stays_gone d key s (pool.Does key action) tt
  action_step action p (Some (Over why)) s not may left = pool_next d key sound sit (pool.Does key action) s tt
  action_step pool.Asks p (Some (Open front w asks)) s not may left =
      stays_next outs2 (turn d (pool.Does key pool.Asks)).pool key front.stage w p (asks_stand d key outs outs2 sound sit front.stage w p s left)
  action_step pool.Stops p (Some (Open front w asks)) s not may left =
      stays_next outs2 (turn d (pool.Does key pool.Stops)).pool key front.stage w p (stops_stand d key outs outs2 sound sit front.stage w p s (subst IsHere (sym may) tt) left)
  action_step (pool.Puts count) p (Some (Open front w asks)) s not may left = absurd not
  action_step (pool.Ends count) p (Some (Open front w asks)) s not may left = absurd not

  renews_step : (resumes : Bool) (p : ServerIsAt) (o : Option End) → StoryOf outs d key p o → Left (pool.Renews key resumes) → Behind (pool.Renews key resumes) p [] o o
  renews_step resumes p None s left = stays_gone d key s (pool.Renews key resumes) tt
  renews_step resumes p (Some (Open front w asks)) s left =
      stays_next outs2 (turn d (pool.Renews key resumes)).pool key front.stage w p (renews_stand d key outs outs2 sound sit resumes front.stage w p s left)
  renews_step resumes p (Some (Over why)) s left = pool_next d key sound sit (pool.Renews key resumes) s tt

  -- as of this application, or of another
  abbrev As : (ℕ → Event) → ℕ → ServerIsAt → List FrontEvent → Option End → Option End → Type 0
  As event k p es o o2 = Left (event k) → Behind (event k) p es o o2

  own : (event : ℕ → Event) (k : ℕ) (p : ServerIsAt) (es : List FrontEvent) (o o2 : Option End) → (k == key) ≡ true → As event key p es o o2 → As event k p es o o2
  own event k p es o o2 e h = subst (λ (x : ℕ). As event x p es o o2) (sym (eqb-true k key e)) h

  pub never : (k : ℕ) → (k == key) ≡ false → k ≡ key → ⊥
  never k e is =
      let u : true ≡ false = sym (eq-eqb k key is) ∙ e in
      let v : ⊥ = cc in
      v

  pub waits_if : (k : ℕ) (b : Bool) (p : ServerIsAt) (o : Option End) → (k == key) ≡ b → StoryOf outs d key p o → (k ≡ key → Away o) → As pool.Waits k p [] o o
  waits_if k true p o e s away = own pool.Waits k p [] o o e (waits_step p o s (away (eqb-true k key e)))
  waits_if k false p o e s away = apart_step (pool.Waits k) p o s (λ n. e) (λ is. absurd (never k e is)) e

  pub action_if : (k : ℕ) (action : Action) (b : Bool) (p : ServerIsAt) (o : Option End) → (k == key) ≡ b → StoryOf outs d key p o → (k ≡ key → IsNotPut action × MayDo action o) → As (λ x. pool.Does x action) k p [] o o
  action_if k action true p o e s may = (let m = may (eqb-true k key e) in own (λ x. pool.Does x action) k p [] o o e (action_step action p o s m.0 m.1))
  action_if k action false p o e s may = apart_step (pool.Does k action) p o s (λ n. e) tt tt

  pub renews_if : (k : ℕ) (resumes b : Bool) (p : ServerIsAt) (o : Option End) → (k == key) ≡ b → StoryOf outs d key p o → As (λ x. pool.Renews x resumes) k p [] o o
  renews_if k resumes true p o e s = own (λ x. pool.Renews x resumes) k p [] o o e (renews_step resumes p o s)
  renews_if k resumes false p o e s = apart_step (pool.Renews k resumes) p o s (λ n. e) tt tt

  -- ---- Its request goes on

  goes_over : (why : Option FrontFault) (ps : List Packet) → Over why ≡ end_goes_on ps (Over why)
  goes_over why [] = refl
  goes_over why (p ∷ ps) = refl

  goes_open : (ps : List Packet) (front : Front) (w : Bool) (asks : Option Reset) → Open (record front { stage = went_by ps front.stage }) w asks ≡ end_goes_on ps (Open front w asks)
  goes_open [] front w asks = refl
  goes_open (p ∷ ps) front w asks = refl

  sent_step : (action : Action) (front : Front) (w : Bool) (asks : Option Reset) (p : ServerIsAt) → Sent d key outs outs2 sound sit action front.stage w p
      → Behind (pool.Does key action) p (gone_on (sent_by d (pool.Does key action))) (Some (Open front w asks)) (Some (end_goes_on (sent_by d (pool.Does key action)) (Open front w asks)))
  sent_step action front w asks p s =
      let ps = sent_by d (pool.Does key action) in
      subst (λ (x : End). Told outs2 (turn d (pool.Does key action)).pool key front.stage p (gone_on ps) x) (goes_open ps front w asks) s.next

  sends_step : (action : Action) (p : ServerIsAt) (o : Option End) → StoryOf outs d key p o → IsPut action → MayDo action o → Known d key outs outs2 sound sit → Left (pool.Does key action)
      → Behind (pool.Does key action) p (if_end_open o (λ front withdrawn. gone_on (sent_by d (pool.Does key action)))) o (option_map (end_goes_on (sent_by d (pool.Does key action))) o)
  sends_step action p None s put may known left = stays_gone d key s (pool.Does key action) tt
  sends_step action p (Some (Over why)) s put may known left =
      subst (λ (x : End). StepOf outs2 (turn d (pool.Does key action)).pool key p [] (Some (Over why)) (Some x)) (goes_over why (sent_by d (pool.Does key action))) (pool_next d key sound sit (pool.Does key action) s tt)
  sends_step (pool.Puts count) p (Some (Open front w asks)) s put may known left =
      sent_step (pool.Puts count) front w asks p (puts_stand d key outs outs2 sound sit count front.stage w p s may known left)
  sends_step (pool.Ends count) p (Some (Open front w asks)) s put may known left =
      sent_step (pool.Ends count) front w asks p (ends_stand d key outs outs2 sound sit count front.stage w p s may left)
  sends_step pool.Asks p (Some (Open front w asks)) s put may known left = absurd put
  sends_step pool.Stops p (Some (Open front w asks)) s put may known left = absurd put

  pub sends_if : (k : ℕ) (action : Action) (b : Bool) (p : ServerIsAt) (o : Option End) → (k == key) ≡ b → StoryOf outs d key p o → IsPut action → (k ≡ key → MayDo action o) → Known d key outs outs2 sound sit → Left (pool.Does k action)
      → Behind (pool.Does k action) p (if b then if_end_open o (λ front withdrawn. gone_on (sent_by d (pool.Does k action))) else []) o (if b then option_map (end_goes_on (sent_by d (pool.Does k action))) o else o)
  sends_if k action true p o e s put may known left =
      let is = eqb-true k key e in
      let P : ℕ → Type 0 = λ (x : ℕ). Left (pool.Does x action)
      → Behind (pool.Does x action) p (if_end_open o (λ front withdrawn. gone_on (sent_by d (pool.Does x action)))) o (option_map (end_goes_on (sent_by d (pool.Does x action))) o) in
      let here : P key = sends_step action p o s put (may is) known in
      let there : P k = subst P (sym is) here in
      there left
  sends_if k action false p o e s put may known left = apart_step (pool.Does k action) p o s (λ n. e) tt tt left

  -- ---- It lets its connection go, or that is lost

  lets_step : (gives : Bool) (way : Way) (p : ServerIsAt) (o : Option End) → StoryOf outs d key p o → IfOpen IsHere o → Behind (pool.Leaves key gives way) p [] o (option_map lets_go o)
  lets_step gives way p None s may = stays_gone d key s (pool.Leaves key gives way) tt
  lets_step gives way p (Some (Open front w asks)) s may =
      stays_next outs2 (turn d (pool.Leaves key gives way)).pool key front.stage false p (lets_stand d key outs outs2 sound sit gives way front.stage w p s may)
  lets_step gives way p (Some (Over why)) s may = pool_next d key sound sit (pool.Leaves key gives way) s tt

  pub lets_if : (k : ℕ) (gives : Bool) (way : Way) (b : Bool) (p : ServerIsAt) (o : Option End) → (k == key) ≡ b → StoryOf outs d key p o → (k ≡ key → IfOpen IsHere o)
      → As (λ x. pool.Leaves x gives way) k p [] o (if b then option_map lets_go o else o)
  lets_if k gives way true p o e s may = own (λ x. pool.Leaves x gives way) k p [] o (option_map lets_go o) e (λ left. lets_step gives way p o s (may (eqb-true k key e)))
  lets_if k gives way false p o e s may = apart_step (pool.Leaves k gives way) p o s (λ n. e) tt tt

  unlost_step : (n : ℕ) (p : ServerIsAt) (o : Option End) → StoryOf outs d key p o → (holder d n ≡ Some key → ⊥) → Left (pool.Loses n) → Behind (pool.Loses n) p [] o o
  unlost_step n p None s apart left = stays_gone d key s (pool.Loses n) tt
  unlost_step n p (Some (Open front w asks)) s apart left =
      stays_next outs2 (turn d (pool.Loses n)).pool key front.stage w p (unlost_stands d key outs outs2 sound sit n front.stage w p s apart left)
  unlost_step n p (Some (Over why)) s apart left = pool_next d key sound sit (pool.Loses n) s tt

  lost_step : (n : ℕ) (p : ServerIsAt) (o : Option End) → StoryOf outs d key p o → Behind (pool.Loses n) p [] o (option_map closes o)
  lost_step n p None s = stays_gone d key s (pool.Loses n) tt
  lost_step n p (Some (Open front w asks)) s = pool_next d key sound sit (pool.Loses n) (at_pool outs d key front.stage w p s) tt
  lost_step n p (Some (Over why)) s = pool_next d key sound sit (pool.Loses n) s tt

  replaced_step : (n : ℕ) (p : ServerIsAt) (o : Option End) → StoryOf outs d key p o → IfOpen IsHere o → holder d n ≡ Some key → Behind (pool.Loses n) p [] o (option_map lets_go o)
  replaced_step n p None s may mine = stays_gone d key s (pool.Loses n) tt
  replaced_step n p (Some (Open front w asks)) s may mine =
      stays_next outs2 (turn d (pool.Loses n)).pool key front.stage false p (replaced_stands d key outs outs2 sound sit n front.stage w p s may mine)
  replaced_step n p (Some (Over why)) s may mine = pool_next d key sound sit (pool.Loses n) s tt

  -- somebody's, who is this application or another
  not_some : (k : ℕ) (who : Option ℕ) → who ≡ Some k → (k == key) ≡ false → who ≡ Some key → ⊥
  not_some k who e ne f = never k ne (let two : Some k ≡ Some key = sym e ∙ f in let one : k ≡ key = cc in one)

  not_none : (who : Option ℕ) → who ≡ None → who ≡ Some key → ⊥
  not_none who e f = (let two : None ≡ Some key = sym e ∙ f in let u : ⊥ = cc in u)

  loses_if : (n k : ℕ) (b : Bool) (p : ServerIsAt) (o : Option End) → holder d n ≡ Some k → (k == key) ≡ b → StoryOf outs d key p o → Left (pool.Loses n) → Behind (pool.Loses n) p [] o (if b then option_map closes o else o)
  loses_if n k true p o h e s left = lost_step n p o s
  loses_if n k false p o h e s left = unlost_step n p o s (not_some k (holder d n) h e) left

  pub loses_whose : (n : ℕ) (who : Option ℕ) (p : ServerIsAt) (o : Option End) → holder d n ≡ who → StoryOf outs d key p o → Left (pool.Loses n) → Behind (pool.Loses n) p [] o (whose_by key who closes o)
  loses_whose n None p o h s left = unlost_step n p o s (not_none (holder d n) h) left
  loses_whose n (Some k) p o h s left = loses_if n k (k == key) p o h refl s left

  replaces_if : (n k : ℕ) (b : Bool) (p : ServerIsAt) (o : Option End) → holder d n ≡ Some k → (k == key) ≡ b → StoryOf outs d key p o → (k ≡ key → IfOpen IsHere o) → Left (pool.Loses n)
      → Behind (pool.Loses n) p [] o (if b then option_map lets_go o else o)
  replaces_if n k true p o h e s may left =
      let is = eqb-true k key e in
      replaced_step n p o s (may is) (h ∙ ap (λ (x : ℕ). Some x) is)
  replaces_if n k false p o h e s may left = unlost_step n p o s (not_some k (holder d n) h e) left

  pub replaces_whose : (n : ℕ) (who : Option ℕ) (p : ServerIsAt) (o : Option End) → holder d n ≡ who → StoryOf outs d key p o → (who ≡ Some key → IfOpen IsHere o) → Left (pool.Loses n)
      → Behind (pool.Loses n) p [] o (whose_by key who lets_go o)
  replaces_whose n None p o h s may left = unlost_step n p o s (not_none (holder d n) h) left
  replaces_whose n (Some k) p o h s may left = replaces_if n k (k == key) p o h refl s (λ is. may (ap (λ (x : ℕ). Some x) is)) left

  -- ---- A packet comes

  abbrev Heard : ℕ → Part Token → Option End → List FrontEvent
  Heard n part o = if_end_open o (λ front withdrawn. unless_withdrawn withdrawn (said_in (dones_of_part d n part)))

  told_over : (why : Option FrontFault) (what : Rattle.tds_relay.specs.declared.pool.coming.What.What) → Over why ≡ end_told what (Over why)
  told_over why Rattle.tds_relay.specs.declared.pool.coming.What.TheVariants.Goes = refl
  told_over why Rattle.tds_relay.specs.declared.pool.coming.What.TheVariants.Finished = refl
  told_over why Rattle.tds_relay.specs.declared.pool.coming.What.TheVariants.Acknowledged = refl
  told_over why Rattle.tds_relay.specs.declared.pool.coming.What.TheVariants.Closed = refl

  heard_step : (n : ℕ) (part : Part Token) (way : Way) (p : ServerIsAt) (o : Option End) → StoryOf outs d key p o → whose d n ≡ Some key → Left (pool.Comes n part way)
      → Behind (pool.Comes n part way) p (Heard n part o) o (option_map (end_told (what_in (dones_of_part d n part))) o)
  heard_step n part way p None s mine left = stays_gone d key s (pool.Comes n part way) tt
  heard_step n part way p (Some (Open front w asks)) s mine left = hears_stand d key outs outs2 sound sit n part way front w asks p s mine left
  heard_step n part way p (Some (Over why)) s mine left =
      subst (λ (x : End). StepOf outs2 (turn d (pool.Comes n part way)).pool key p [] (Some (Over why)) (Some x)) (told_over why (what_in (dones_of_part d n part))) (pool_next d key sound sit (pool.Comes n part way) s tt)

  unheard_step : (n : ℕ) (part : Part Token) (way : Way) (p : ServerIsAt) (o : Option End) → StoryOf outs d key p o → (whose d n ≡ Some key → ⊥) → Left (pool.Comes n part way) → Behind (pool.Comes n part way) p [] o o
  unheard_step n part way p None s apart left = stays_gone d key s (pool.Comes n part way) tt
  unheard_step n part way p (Some (Open front w asks)) s apart left =
      stays_next outs2 (turn d (pool.Comes n part way)).pool key front.stage w p (unheard_stands d key outs outs2 sound sit n part way front.stage w p s apart left)
  unheard_step n part way p (Some (Over why)) s apart left = pool_next d key sound sit (pool.Comes n part way) s tt

  comes_if : (n k : ℕ) (part : Part Token) (way : Way) (b : Bool) (p : ServerIsAt) (o : Option End) → whose d n ≡ Some k → (k == key) ≡ b → StoryOf outs d key p o → Left (pool.Comes n part way)
      → Behind (pool.Comes n part way) p (if b then Heard n part o else []) o (if b then option_map (end_told (what_in (dones_of_part d n part))) o else o)
  comes_if n k part way true p o h e s left = heard_step n part way p o s (h ∙ ap (λ (x : ℕ). Some x) (eqb-true k key e)) left
  comes_if n k part way false p o h e s left = unheard_step n part way p o s (not_some k (whose d n) h e) left

  pub comes_whose : (n : ℕ) (part : Part Token) (way : Way) (who : Option ℕ) (p : ServerIsAt) (o : Option End) → whose d n ≡ who → StoryOf outs d key p o → Left (pool.Comes n part way)
      → Behind (pool.Comes n part way) p (if_whose key who (Heard n part o)) o (whose_by key who (end_told (what_in (dones_of_part d n part))) o)
  comes_whose n part way None p o h s left = unheard_step n part way p o s (not_none (whose d n) h) left
  comes_whose n part way (Some k) p o h s left = comes_if n k part way (k == key) p o h refl s left

  -- ---- It quits

  quits_step : (gives : Bool) (way : Way) (p : ServerIsAt) (o : Option End) → StoryOf outs d key p o → Behind (pool.Leaves key gives way) p [] o None
  quits_step gives way p None s = stays_gone d key s (pool.Leaves key gives way) tt
  quits_step gives way p (Some (Open front w asks)) s = quits_gone d key gives way sound (at_pool outs d key front.stage w p s)
  quits_step gives way p (Some (Over why)) s = quits_gone d key gives way sound s

  pub quits_if : (k : ℕ) (gives : Bool) (way : Way) (b : Bool) (p : ServerIsAt) (o : Option End) → (k == key) ≡ b → StoryOf outs d key p o → As (λ x. pool.Leaves x gives way) k p [] o (if b then None else o)
  quits_if k gives way true p o e s = own (λ x. pool.Leaves x gives way) k p [] o None e (λ left. quits_step gives way p o s)
  quits_if k gives way false p o e s = apart_step (pool.Leaves k gives way) p o s (λ n. e) tt tt

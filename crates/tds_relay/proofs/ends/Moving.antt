-- An application's end and what it holds at the pool, behind each move.
use Rattle.std.proofs.Common.{◌≡◌, ◌∙◌, ◌==◌, ℕ, Bool, true, false, List, [], ◌∷◌, ◌++◌, refl, sym, ap, subst, inl, inr}
use Rattle.std.specs.Prelude.{Option, Some, None, if◌then◌else◌, option_map}
use Rattle.std.proofs.lemmas.Bool.{eqb-true}
use Rattle.tds_wire.specs.declared.told.Token.{Token}
use Rattle.tds_front.specs.declared.front.Front.{Front}
use Rattle.tds_front.specs.declared.stage.Stage.{Stage}
use Rattle.tds_front.specs.Bytes.{fed, new_front}
use Rattle.tds_front.specs.Passing.{SaysOf, judged, stage_fed}
use Rattle.tds_front.specs.Serving.{ServerIsAt}
use Rattle.tds_service.specs.Service.{Call, on, steps}
use Rattle.tds_relay.specs.Pool as pool
use Rattle.tds_relay.specs.Pool.{Pool, Event, pool_after, find_key, turn, whose}
use Rattle.tds_relay.specs.Behind.{brought, if_end_open}
use Rattle.tds_relay.specs.Fronting.{calls_along}
use Rattle.tds_relay.specs.Core.{End, Open, Over, EndList, Core, HasEntered, IfOpen, IfWhose, IsThereAndAway, IsHere, IsOpenEnd, MayDo, MayDoAlone, MayMove, MayPart, Move, closes, end_at, event_if, events_of, feeds, holder, stops_by, stops_of}
use Rattle.tds_relay.specs.Core as core
use Rattle.tds_relay.proofs.promises.Caring.{Sound}
use Rattle.tds_relay.proofs.held.Lists.{places}
use Rattle.tds_relay.proofs.held.Seated.{AllSit}
use Rattle.tds_relay.proofs.held.Away.{gone_absent, no_place}
use Rattle.tds_relay.proofs.ends.Outs.{out_after}
use Rattle.tds_relay.proofs.ends.Tying as tying
use Rattle.tds_relay.proofs.ends.Standing.{Leaves, Standing, at_pool, stays_next}
use Rattle.tds_relay.proofs.ends.Stopping.{Known}
use Rattle.tds_relay.proofs.ends.Feeding.{LeavesIf, fed_next}
use Rattle.tds_relay.proofs.ends.Ending.{IsEndThere, end_by, passes_by}
use Rattle.tds_relay.proofs.ends.Turning.{StepOf, StoryOf, apart_step, comes_whose, action_if, lets_if, loses_whose, never, quits_if, renews_if, replaces_whose, sends_if, waits_if}
use Rattle.tds_relay.proofs.steps.Parked.{lets_here}

-- ---- Nothing is done at the pool

module _ (d : Pool) (key : ℕ) (outs outs2 : ℕ → Bool) (sound : Sound d) (sit : AllSit d) where
  abbrev Still : Type 0
  Still = (n : ℕ) → outs2 n ≡ outs n

  same_outs : (stage : Stage) (w : Bool) (p : ServerIsAt) → Still → Standing outs d key stage w p → Standing outs2 d key stage w p
  same_outs stage w p same (inl k) =
      inl (record { hold = k.hold; seat = k.seat; its = k.its; tied = subst (λ (x : Bool). tying.Tied stage w p k.seat.line.stage x) (sym (same k.hold.number)) k.tied })
  same_outs stage w p same (inr k) = inr k

  still_step : (p : ServerIsAt) (o : Option End) → StoryOf outs d key p o → Still → StepOf outs2 d key p [] o o
  still_step p None s still = s
  still_step p (Some (Open front w asks)) s still = stays_next outs2 d key front.stage w p (same_outs front.stage w p still s)
  still_step p (Some (Over why)) s still = s

  closes_step : (p : ServerIsAt) (o : Option End) → StoryOf outs d key p o → StepOf outs2 d key p [] o (option_map closes o)
  closes_step p None s = s
  closes_step p (Some (Open front w asks)) s = at_pool outs d key front.stage w p s
  closes_step p (Some (Over why)) s = s

  closes_if : (k : ℕ) (b : Bool) (p : ServerIsAt) (o : Option End) → (k == key) ≡ b → StoryOf outs d key p o → Still → StepOf outs2 d key p [] o (if b then option_map closes o else o)
  closes_if k true p o e s still = closes_step p o s
  closes_if k false p o e s still = still_step p o s still

  enters_step : (size : ℕ) (p : ServerIsAt) (o : Option End) → StoryOf outs d key p o → o ≡ None → StepOf outs2 d key p [] o (Some (Open (new_front size) false None))
  enters_step size p None s e =
      (inr (record { absent = gone_absent key d s; rests = record { here = tt; its = refl; ready = refl } }), refl)
  enters_step size p (Some end) s e = absurd (let u : ⊥ = cc in u)

  enters_if : (k : ℕ) (ends old : EndList) (b : Bool) (p : ServerIsAt) → (k == key) ≡ b → StoryOf outs d key p (end_at old key) → HasEntered k old ends → Still → StepOf outs2 d key p [] (end_at old key) (end_at ends key)
  enters_if k ends old true p e s entered still =
      let is = eqb-true k key e in
      let free : end_at old key ≡ None = subst (λ (x : ℕ). end_at old x ≡ None) is entered.was_free in
      let begins : end_at ends key ≡ Some (Open (new_front entered.size) false None) = subst (λ (x : ℕ). end_at ends x ≡ Some (Open (new_front entered.size) false None)) is entered.begins in
      subst (λ (x : Option End). StepOf outs2 d key p [] (end_at old key) x) (sym begins) (enters_step entered.size p (end_at old key) s free)
  enters_if k ends old false p e s entered still =
      let same : end_at ends key ≡ end_at old key = entered.others_stay key (λ is. never d key outs outs2 sound sit k e (sym is)) in
      subst (λ (x : Option End). StepOf outs2 d key p [] (end_at old key) x) (sym same) (still_step p (end_at old key) s still)

  -- ---- Bytes of an application

  abbrev pub Judges : Type 0
  Judges = (front : Front) (bytes : List ℕ) → ((fed front bytes).front.stage ≡ stage_fed front.stage (judged front.due bytes) (fed front bytes).brings)
      × SaysOf front.stage (judged front.due bytes) (fed front bytes).brings

  abbrev FedAt : List ℕ → Option End → ServerIsAt → Option End → Type 0
  FedAt bytes end p o = StepOf outs2 (pool_after d (event_if (stops_of bytes end) (pool.Does key pool.Stops))) key p (if_end_open o (λ front withdrawn. brought front bytes)) o (option_map (feeds bytes) o)

  abbrev FedLeaves : List ℕ → Option End → Type 0
  FedLeaves bytes end = LeavesIf d key outs outs2 sound sit (stops_of bytes end)

  feeds_step : (bytes : List ℕ) (p : ServerIsAt) (o : Option End) → StoryOf outs d key p o → Judges → Known d key outs outs2 sound sit → FedLeaves bytes o → FedAt bytes o p o
  feeds_step bytes p None s judges known leaves = s
  feeds_step bytes p (Some (Open front w asks)) s judges known leaves =
      let j = judges front bytes in
      fed_next d key outs outs2 sound sit (stops_by (fed front bytes).brings) front.stage (fed front bytes).front w asks p (judged front.due bytes) (fed front bytes).brings refl j.0 j.1 known leaves s
  feeds_step bytes p (Some (Over why)) s judges known leaves = s

  append_calls : (xs : List (Call Token)) → xs ++ [] ≡ xs
  append_calls [] = refl
  append_calls (x ∷ xs) = ap (λ (ys : List (Call Token)). x ∷ ys) (append_calls xs)

  pub left_of : (event : Event) → ((n : ℕ) → outs2 n ≡ out_after (outs n) (on n (steps d.service (calls_along d (event ∷ []))))) → Leaves d key outs outs2 sound sit event
  left_of event leaves n = leaves n ∙ ap (λ (xs : List (Call Token)). out_after (outs n) (on n (steps d.service xs))) (append_calls (turn d event).calls)

  -- of another
  fed_apart : (k : ℕ) (stops : Bool) (p : ServerIsAt) (o : Option End) → (k == key) ≡ false → StoryOf outs d key p o
      → ((n : ℕ) → outs2 n ≡ out_after (outs n) (on n (steps d.service (calls_along d (event_if stops (pool.Does k pool.Stops))))))
      → StepOf outs2 (pool_after d (event_if stops (pool.Does k pool.Stops))) key p [] o o
  fed_apart k true p o e s leaves = apart_step d key outs outs2 sound sit (pool.Does k pool.Stops) p o s (λ n. e) tt tt (left_of (pool.Does k pool.Stops) leaves)
  fed_apart k false p o e s leaves = still_step p o s leaves

  left_if : (stops : Bool) → ((n : ℕ) → outs2 n ≡ out_after (outs n) (on n (steps d.service (calls_along d (event_if stops (pool.Does key pool.Stops)))))) → LeavesIf d key outs outs2 sound sit stops
  left_if true leaves = left_of (pool.Does key pool.Stops) leaves
  left_if false leaves = leaves

  feeds_if : (k : ℕ) (bytes : List ℕ) (ends : EndList) (b : Bool) (p : ServerIsAt) → (k == key) ≡ b → StoryOf outs d key p (end_at ends key) → Judges → Known d key outs outs2 sound sit
      → ((n : ℕ) → outs2 n ≡ out_after (outs n) (on n (steps d.service (calls_along d (event_if (stops_of bytes (end_at ends k)) (pool.Does k pool.Stops))))))
      → StepOf outs2 (pool_after d (event_if (stops_of bytes (end_at ends k)) (pool.Does k pool.Stops))) key p (if b then if_end_open (end_at ends key) (λ front withdrawn. brought front bytes) else [])
      (end_at ends key) (if b then option_map (feeds bytes) (end_at ends key) else end_at ends key)
  feeds_if k bytes ends true p e s judges known leaves =
      let is = eqb-true k key e in
      let P : ℕ → Type 0 = λ (x : ℕ). ((n : ℕ) → outs2 n ≡ out_after (outs n) (on n (steps d.service (calls_along d (event_if (stops_of bytes (end_at ends x)) (pool.Does x pool.Stops))))))
      → StepOf outs2 (pool_after d (event_if (stops_of bytes (end_at ends x)) (pool.Does x pool.Stops))) key p (if_end_open (end_at ends key) (λ front withdrawn. brought front bytes))
      (end_at ends key) (option_map (feeds bytes) (end_at ends key)) in
      let here : P key = λ l. feeds_step bytes p (end_at ends key) s judges known (left_if (stops_of bytes (end_at ends key)) l) in
      let there : P k = subst P (sym is) here in
      there leaves
  feeds_if k bytes ends false p e s judges known leaves = fed_apart k (stops_of bytes (end_at ends k)) p (end_at ends key) e s leaves

-- ---- Any move

module _ (h : Core) (key : ℕ) (outs outs2 : ℕ → Bool) (sound : Sound h.pool) (sit : AllSit h.pool) (judges : Judges h.pool key outs outs2 sound sit) (known : Known h.pool key outs outs2 sound sit) where
  abbrev d : Pool
  d = h.pool

  abbrev o : Option End
  o = end_at h.ends key

  abbrev pub LeavesBy : Move → Type 0
  LeavesBy move = (n : ℕ) → outs2 n ≡ out_after (outs n) (on n (steps d.service (calls_along d (events_of h move))))

  abbrev pub Steps : Move → ServerIsAt → Type 0
  Steps move p = StepOf outs2 (pool_after d (events_of h move)) key p (passes_by key h move o) o (end_by key h move o)

  there_if : (e : Option End) → IsOpenEnd e → IsEndThere e
  there_if None not = absurd not
  there_if (Some (Open front withdrawn asks)) is = tt
  there_if (Some (Over why)) not = absurd not

  away_of : (k : ℕ) → IsThereAndAway h k → k ≡ key → IsEndThere o × (find_key key d.holds ≡ None) × (places key d.line ≡ [])
  away_of k away is = (
    there_if (end_at h.ends key) (subst (λ (x : ℕ). IsOpenEnd (end_at h.ends x)) is away.there),
    subst (λ (x : ℕ). find_key x d.holds ≡ None) is away.holds,
    subst (λ (x : ℕ). places x d.line ≡ []) is (no_place k d.line away.waits),
  )

  alone_steps : (event : Event) (p : ServerIsAt) → MayDoAlone h event → StoryOf outs d key p o → LeavesBy (core.Does event) → Steps (core.Does event) p
  alone_steps (pool.Waits k) p may s leaves =
      waits_if d key outs outs2 sound sit k (k == key) p o refl s (away_of k may.0) (left_of d key outs outs2 sound sit (pool.Waits k) leaves)
  alone_steps (pool.Unwaits k) p may s leaves =
      apart_step d key outs outs2 sound sit (pool.Unwaits k) p o s (λ n. tt) tt tt (left_of d key outs outs2 sound sit (pool.Unwaits k) leaves)
  alone_steps pool.Serves p may s leaves =
      apart_step d key outs outs2 sound sit pool.Serves p o s (λ n. tt) tt tt (left_of d key outs outs2 sound sit pool.Serves leaves)
  alone_steps (pool.Brings gives way) p may s leaves =
      apart_step d key outs outs2 sound sit (pool.Brings gives way) p o s (λ n. tt) tt tt (left_of d key outs outs2 sound sit (pool.Brings gives way) leaves)
  alone_steps (pool.Does k action) p may s leaves =
      action_if d key outs outs2 sound sit k action (k == key) p o refl s (λ is. (may.0, subst (λ (x : ℕ). MayDo action (end_at h.ends x)) is may.1))
      (left_of d key outs outs2 sound sit (pool.Does k action) leaves)
  alone_steps (pool.Leaves k gives way) p may s leaves = absurd may
  alone_steps (pool.Renews k resumes) p may s leaves =
      renews_if d key outs outs2 sound sit k resumes (k == key) p o refl s (left_of d key outs outs2 sound sit (pool.Renews k resumes) leaves)
  alone_steps (pool.Comes number part way) p may s leaves = absurd may
  alone_steps (pool.Loses number) p may s leaves = absurd may

  may_replace : (n : ℕ) (who : Option ℕ) → holder d n ≡ who → IfWhose (MayPart h) who → who ≡ Some key → IfOpen IsHere o
  may_replace n None e may is = absurd (let u : ⊥ = cc in u)
  may_replace n (Some k) e may is = let same : k ≡ key = cc in subst (λ (x : ℕ). IfOpen IsHere (end_at h.ends x)) same may.0

  pub step : (move : Move) (p : ServerIsAt) → MayMove h move → StoryOf outs d key p o → LeavesBy move → Steps move p
  step (core.Does event) p may s leaves = alone_steps event p may s leaves
  step (core.Sends k action) p may s leaves =
      sends_if d key outs outs2 sound sit k action (k == key) p o refl s may.0 (λ is. subst (λ (x : ℕ). MayDo action (end_at h.ends x)) is may.1) known
      (left_of d key outs outs2 sound sit (pool.Does k action) leaves)
  step (core.LetsGo k true gives way) p may s leaves =
      lets_if d key outs outs2 sound sit k gives way (k == key) p o refl s (λ is. subst (λ (x : ℕ). IfOpen IsHere (end_at h.ends x)) is (lets_here h k (inr may)))
      (left_of d key outs outs2 sound sit (pool.Leaves k gives way) leaves)
  step (core.LetsGo k false gives way) p may s leaves =
      lets_if d key outs outs2 sound sit k gives way (k == key) p o refl s (λ is. subst (λ (x : ℕ). IfOpen IsHere (end_at h.ends x)) is (lets_here h k (inl may.0)))
      (left_of d key outs outs2 sound sit (pool.Leaves k gives way) leaves)
  step (core.Loses n) p may s leaves =
      loses_whose d key outs outs2 sound sit n (holder d n) p o refl s (left_of d key outs outs2 sound sit (pool.Loses n) leaves)
  step (core.Replaces n) p may s leaves =
      replaces_whose d key outs outs2 sound sit n (holder d n) p o refl s (may_replace n (holder d n) refl may) (left_of d key outs outs2 sound sit (pool.Loses n) leaves)
  step (core.Comes n part way) p may s leaves =
      comes_whose d key outs outs2 sound sit n part way (whose d n) p o refl s (left_of d key outs outs2 sound sit (pool.Comes n part way) leaves)
  step (core.Feeds k bytes) p may s leaves = feeds_if d key outs outs2 sound sit k bytes h.ends (k == key) p refl s judges known leaves
  step (core.Closes k) p may s leaves = closes_if d key outs outs2 sound sit k (k == key) p o refl s leaves
  step (core.Enters k ends) p may s leaves = enters_if d key outs outs2 sound sit k ends h.ends (k == key) p refl s may leaves
  step (core.Quits k gives way) p may s leaves =
      quits_if d key outs outs2 sound sit k gives way (k == key) p o refl s (left_of d key outs outs2 sound sit (pool.Leaves k gives way) leaves)

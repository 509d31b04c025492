-- An application's end behind a packet that comes on its connection, and behind a stop of what has gone on.
use Rattle.std.proofs.Common.{◌≡◌, ◌∙◌, ◌==◌, ℕ, Bool, true, false, List, [], ◌∷◌, refl, sym, ap, subst, inl, inr}
use Rattle.std.specs.Prelude.{Some, None, Option, filter, not, if◌then◌else◌}
use Rattle.tds_packet.specs.declared.status.Reset.{Reset}
use Rattle.tds_relay.proofs.held.Lists.{Once, comm, none_filtered, places, theirs_none}
use Rattle.std.proofs.lemmas.Bool.{eqb-true, eq-eqb}
use Rattle.tds_relay.specs.declared.pool.Hold.{Hold}
use Rattle.tds_wire.specs.declared.told.Token.{Token}
use Rattle.tds_front.specs.declared.front.Front.{Front}
use Rattle.tds_front.specs.declared.stage.Stage.{Stage}
use Rattle.tds_front.specs.declared.stage.Stage.TheVariants as stages
use Rattle.tds_front.specs.Passing.{FrontEvent, EndsWhole, happenings_of}
use Rattle.tds_front.specs.Serving as serving
use Rattle.tds_front.specs.Serving.{ServerIsAt, Ready, IsLawful, behind_brought}
use Rattle.tds_service.specs.Line as line
use Rattle.tds_service.specs.Line.{line_turn}
use Rattle.tds_service.specs.History.{Done, history, line_after, done_by as done_so}
use Rattle.tds_service.specs.Parts.{Part, is_end}
use Rattle.tds_service.specs.Service.{Seat, seat_numbered, on}
use Rattle.tds_relay.specs.Pool as pool
use Rattle.tds_relay.specs.Pool.{Action, Pool, Event, Hearing, PoolTurn, Way, find_key, hearing_of, moves, turn, whose}
use Rattle.tds_relay.specs.Behind.{said_by, said_in, unless_withdrawn}
use Rattle.tds_relay.specs.Fronting.{AnswersOnce}
use Rattle.tds_relay.specs.Core.{End, Open, Over, dones_of_part, end_told, what_in, what_of}
use Rattle.tds_relay.proofs.promises.Caring.{Sound}
use Rattle.tds_relay.proofs.ends.Fronting.{out_of}
use Rattle.tds_relay.proofs.held.Seated.{AllSit}
use Rattle.tds_relay.proofs.held.Sparing.{remains}
use Rattle.tds_relay.proofs.held.Others.{Its, IsOthers, Passes, found, number_is, passes}
use Rattle.tds_relay.proofs.held.Ours.{Gone, Ours, acts_done, came_done, actions, heard_of, hears_right, hears_wrong, leaves_gone, loses_gone, with_came, with_line}
use Rattle.tds_relay.proofs.held.Kept.{Renewed, Rests, Lends, Goes, relent, renewed}
use Rattle.tds_relay.proofs.held.Away.{WaitsOnce, away, gone_absent}
use Rattle.tds_relay.proofs.ends.Outs.{HeardAs, Breaks, ReadsOn, ReadsEnd, SkipsOn, SkipsEnd, heard_as, out_after, out_by}
use Rattle.tds_relay.proofs.ends.Leading.{ForgetsFrom, IsGone}
use Rattle.tds_relay.proofs.ends.Tying.{GoneAt, SendsOut, ReadsOut, Stopped, Tied, gone_at, here_gone, stopped_reading, stopped_sending}
use Rattle.tds_relay.proofs.ends.Telling.{EndTied, heard_lawful, heard_tied}
use Rattle.tds_relay.proofs.ends.Standing.{AtPool, Holds, HoldsOne, Leaves, Next, Standing, absent_whose, lent_at, ours_hold, whose_number}

-- ---- Who quits neither holds nor waits

without_by : (key : ℕ) (b : Bool) → (key == key) ≡ b → b ≡ true → (if not b then key ∷ [] else []) ≡ []
without_by key true e t = refl
without_by key false e t = absurd (let u : ⊥ = cc in u)

without_none : (key : ℕ) (line : List ℕ) → Once key line → places key (pool.without key line) ≡ []
without_none key line (inl e) = none_filtered key (λ (x : ℕ). not (x == key)) line e
without_none key line (inr e) =
    comm (λ (x : ℕ). x == key) (λ (x : ℕ). not (x == key)) line ∙ ap (λ (xs : List ℕ). filter (λ (x : ℕ). not (x == key)) xs) e ∙ without_by key (key == key) refl (eq-eqb key key refl)

pub quits_gone : (d : Pool) (key : ℕ) (gives : Bool) (way : Way) → Sound d → AtPool key d → Gone key (turn d (pool.Leaves key gives way)).pool
quits_gone d key gives way sound (inl k) = leaves_gone d key k.hold k.seat gives way sound k.its
quits_gone d key gives way sound (inr x) =
    let t : turn d (pool.Leaves key gives way) ≡ moves d d.holds (pool.without key d.line) [] = ap (λ (y : Option Hold). pool.leaves d key gives way y) (theirs_none key d.holds x.none) in
    let gone : Gone key (moves d d.holds (pool.without key d.line) []).pool = record { holds = x.none; waits = without_none key d.line x.once } in
    subst (λ (y : PoolTurn). Gone key y.pool) (sym t) gone

-- ---- At the pool alone, behind any event

module _ (d : Pool) (key : ℕ) (sound : Sound d) (sit : AllSit d) where
  abbrev Then : Event → Type 0
  Then event = AtPool key (turn d event).pool

  gone_then : (event : Event) → Gone key (turn d event).pool → Then event
  gone_then event gone = inr (gone_absent key (turn d event).pool gone)

  others_then : (k : HoldsOne key d) (event : Event) → IsOthers key k.hold.number event → Then event
  others_then k event others =
      let h = k.hold in
      let c = k.seat in
      let t = turn d event in
      let ps : Passes d key h.number h t = passes d key h c sound sit k.its event others in
      let r = remains d.service c h.number h.lease t.calls (number_is d key h c sound k.its) k.its.lent sound.tidy k.its.there ps.spares in
      let there : seat_numbered h.number t.pool.service.seats ≡ Some c = subst (λ (x : Rattle.tds_service.specs.Service.Service). seat_numbered h.number x.seats ≡ Some c) (sym ps.service) r.0 in
      inl (record { hold = h; seat = c; its = record { sole = ps.sole; there = there; lent = k.its.lent; line = ps.line } })

  pub never_waits : (k : HoldsOne key d) → find_key key d.holds ≡ None → ⊥
  never_waits k none =
      let f = found d key k.hold k.seat sound k.its in
      let u : None ≡ Some k.hold = sym none ∙ f in
      let v : ⊥ = cc in
      v

  waits_then : (k : HoldsOne key d) (other : ℕ) (b : Bool) → (other == key) ≡ b → WaitsOnce key d (pool.Waits other) → Then (pool.Waits other)
  waits_then k other true e w = absurd (never_waits k (w (eqb-true other key e)).0)
  waits_then k other false e w = others_then k (pool.Waits other) e

  renewed_then : (k : HoldsOne key d) (resumes : Bool) → Renewed d key k.hold k.seat resumes → Then (pool.Renews key resumes)
  renewed_then k resumes (Rests none is) = inl (record { hold = k.hold; seat = k.seat; its = subst (λ (t : PoolTurn). Its t.pool key k.hold k.seat) (sym is) k.its })
  renewed_then k resumes (Lends ticket some given idle lent) = inl (record { hold = pool.holding k.hold.key lent.lease k.seat.number; seat = relent lent.lease k.seat; its = lent.its })
  renewed_then k resumes (Goes ticket some given idle gone) = gone_then (pool.Renews key resumes) gone

  does_then : (k : HoldsOne key d) (other : ℕ) (action : Action) (b : Bool) → (other == key) ≡ b → Then (pool.Does other action)
  does_then k other action true e =
      let is = eqb-true other key e in
      let did = actions d key k.hold k.seat action sound k.its in
      let here : Then (pool.Does key action) = inl (record { hold = k.hold; seat = with_line k.seat (line_after k.seat.line (acts_done k.seat.line action)); its = did.ours.its }) in
      subst (λ (x : ℕ). Then (pool.Does x action)) (sym is) here
  does_then k other action false e = others_then k (pool.Does other action) e

  leaves_then : (k : HoldsOne key d) (other : ℕ) (gives : Bool) (way : Way) (b : Bool) → (other == key) ≡ b → Then (pool.Leaves other gives way)
  leaves_then k other gives way true e =
      let is = eqb-true other key e in
      let here : Then (pool.Leaves key gives way) = gone_then (pool.Leaves key gives way) (leaves_gone d key k.hold k.seat gives way sound k.its) in
      subst (λ (x : ℕ). Then (pool.Leaves x gives way)) (sym is) here
  leaves_then k other gives way false e = others_then k (pool.Leaves other gives way) e

  renews_then : (k : HoldsOne key d) (other : ℕ) (resumes : Bool) (b : Bool) → (other == key) ≡ b → Then (pool.Renews other resumes)
  renews_then k other resumes true e =
      let is = eqb-true other key e in
      subst (λ (x : ℕ). Then (pool.Renews x resumes)) (sym is) (renewed_then k resumes (renewed d key k.hold k.seat sound k.its resumes))
  renews_then k other resumes false e = others_then k (pool.Renews other resumes) e

  right_then : (k : HoldsOne key d) (part : Part Token) (way : Way) → (heard_of k.seat.line part ≡ pool.Wrong → ⊥) → Then (pool.Comes k.hold.number part way)
  right_then k part way right =
      let ours = hears_right d key k.hold k.seat part way sound k.its right in
      inl (record { hold = k.hold; seat = with_came k.seat part; its = ours.its })

  hears_then : (k : HoldsOne key d) (part : Part Token) (way : Way) (hearing : Hearing) → heard_of k.seat.line part ≡ hearing → Then (pool.Comes k.hold.number part way)
  hears_then k part way pool.Goes e = right_then k part way (λ wrong. (let u : pool.Goes ≡ pool.Wrong = sym e ∙ wrong in let v : ⊥ = cc in v))
  hears_then k part way pool.Settled e = right_then k part way (λ wrong. (let u : pool.Settled ≡ pool.Wrong = sym e ∙ wrong in let v : ⊥ = cc in v))
  hears_then k part way pool.Wrong e = gone_then (pool.Comes k.hold.number part way) (hears_wrong d key k.hold k.seat part way k.its e)

  comes_then : (k : HoldsOne key d) (n : ℕ) (part : Part Token) (way : Way) (b : Bool) → (k.hold.number == n) ≡ b → Then (pool.Comes n part way)
  comes_then k n part way true e =
      subst (λ (x : ℕ). Then (pool.Comes x part way)) (eqb-true k.hold.number n e) (hears_then k part way (heard_of k.seat.line part) refl)
  comes_then k n part way false e = others_then k (pool.Comes n part way) e

  loses_then : (k : HoldsOne key d) (n : ℕ) (b : Bool) → (k.hold.number == n) ≡ b → Then (pool.Loses n)
  loses_then k n true e =
      subst (λ (x : ℕ). Then (pool.Loses x)) (eqb-true k.hold.number n e) (gone_then (pool.Loses k.hold.number) (loses_gone d key k.hold k.seat k.its))
  loses_then k n false e = others_then k (pool.Loses n) e

  holds_then : (k : HoldsOne key d) (event : Event) → WaitsOnce key d event → Then event
  holds_then k (pool.Waits other) w = waits_then k other (other == key) refl w
  holds_then k (pool.Unwaits other) w = others_then k (pool.Unwaits other) tt
  holds_then k pool.Serves w = others_then k pool.Serves tt
  holds_then k (pool.Brings gives way) w = others_then k (pool.Brings gives way) tt
  holds_then k (pool.Does other action) w = does_then k other action (other == key) refl
  holds_then k (pool.Leaves other gives way) w = leaves_then k other gives way (other == key) refl
  holds_then k (pool.Renews other resumes) w = renews_then k other resumes (other == key) refl
  holds_then k (pool.Comes n part way) w = comes_then k n part way (k.hold.number == n) refl
  holds_then k (pool.Loses n) w = loses_then k n (k.hold.number == n) refl

  pub pool_next : (event : Event) → AtPool key d → WaitsOnce key d event → AtPool key (turn d event).pool
  pool_next event (inl k) w = holds_then k event w
  pool_next event (inr absent) w = lent_at key (turn d event).pool (away d key absent sound event w)

-- ---- A packet that comes on its connection

-- what an end is then
abbrev pub Told : (ℕ → Bool) → Pool → ℕ → Stage → ServerIsAt → List FrontEvent → End → Type 0
Told outs d key stage p es (Open front w asks) = Next outs d key stage p es front.stage w
Told outs d key stage p es (Over why) = AtPool key d

module _ (d : Pool) (key : ℕ) (outs outs2 : ℕ → Bool) (sound : Sound d) (sit : AllSit d) where
  told_right : (k : HoldsOne key d) (part : Part Token) (way : Way) (stage : Stage) (p : ServerIsAt) (es : List FrontEvent) (end : End)
      → Ours d key k.hold k.seat (with_came k.seat part) (line.Come part ∷ []) (turn d (pool.Comes k.hold.number part way)) → Leaves d key outs outs2 sound sit (pool.Comes k.hold.number part way)
      → EndTied end stage p es (line_turn k.seat.line (line.Come part)).line.stage (out_by (outs k.hold.number) (done_so (line.Come part) (line_turn k.seat.line (line.Come part))))
      → Told outs2 (turn d (pool.Comes k.hold.number part way)).pool key stage p es end
  told_right k part way stage p es (Open front w asks) ours leaves t = record {
    place = t.0;
    standing = inl (ours_hold d key outs outs2 sound sit (pool.Comes k.hold.number part way) k.hold k.seat (with_came k.seat part) (line.Come part ∷ []) front.stage w t.0 ours leaves t.1);
    leads = t.2;
  }
  told_right k part way stage p es (Over why) ours leaves t = inl (record { hold = k.hold; seat = with_came k.seat part; its = ours.its })

  told_as : (k : HoldsOne key d) (part : Part Token) (way : Way) (front : Front) (w : Bool) (asks : Option Reset) (p : ServerIsAt) → Tied front.stage w p k.seat.line.stage (outs k.hold.number)
      → Leaves d key outs outs2 sound sit (pool.Comes k.hold.number part way) → HeardAs k.seat.line.stage (is_end part.close) (line_turn k.seat.line (line.Come part))
      → (heard_of k.seat.line part ≡ pool.Wrong → ⊥)
      → Told outs2 (turn d (pool.Comes k.hold.number part way)).pool key front.stage p (unless_withdrawn w (said_by (is_end part.close) (line_turn k.seat.line (line.Come part)).answer))
      (end_told (what_of (line_turn k.seat.line (line.Come part)).answer) (Open front w asks))
  told_as k part way front w asks p tied leaves heard right =
      let t = line_turn k.seat.line (line.Come part) in
      told_right k part way front.stage p (unless_withdrawn w (said_by (is_end part.close) t.answer)) (end_told (what_of t.answer) (Open front w asks))
      (hears_right d key k.hold k.seat part way sound k.its right) leaves
      (heard_tied front w asks p (outs k.hold.number) (is_end part.close) k.seat.line.stage t tied heard)

  abbrev Result : (k : HoldsOne key d) → Part Token → Way → Front → Bool → Option Reset → ServerIsAt → Type 0
  Result k part way front w asks p =
      Told outs2 (turn d (pool.Comes k.hold.number part way)).pool key front.stage p (unless_withdrawn w (said_by (is_end part.close) (line_turn k.seat.line (line.Come part)).answer))
      (end_told (what_of (line_turn k.seat.line (line.Come part)).answer) (Open front w asks))

  not_wrong : (k : HoldsOne key d) (part : Part Token) (answer : line.Answer) → (line_turn k.seat.line (line.Come part)).answer ≡ answer → (hearing_of answer ≡ pool.Wrong → ⊥) → heard_of k.seat.line part ≡ pool.Wrong → ⊥
  not_wrong k part answer a never wrong = never (ap hearing_of (sym a) ∙ wrong)

  told_by : (k : HoldsOne key d) (part : Part Token) (way : Way) (front : Front) (w : Bool) (asks : Option Reset) (p : ServerIsAt) → Tied front.stage w p k.seat.line.stage (outs k.hold.number)
      → Leaves d key outs outs2 sound sit (pool.Comes k.hold.number part way) → HeardAs k.seat.line.stage (is_end part.close) (line_turn k.seat.line (line.Come part)) → Result k part way front w asks p
  told_by k part way front w asks p tied leaves (Breaks fault a) =
      let wrong : heard_of k.seat.line part ≡ pool.Wrong = ap hearing_of a in
      let gone = hears_wrong d key k.hold k.seat part way k.its wrong in
      let d2 = (turn d (pool.Comes k.hold.number part way)).pool in
      let at : AtPool key d2 = inr (gone_absent key d2 gone) in
      subst (λ (x : line.Answer). Told outs2 d2 key front.stage p (unless_withdrawn w (said_by (is_end part.close) x)) (end_told (what_of x) (Open front w asks))) (sym a) at
  told_by k part way front w asks p tied leaves (ReadsOn is goes a sent l) =
      told_as k part way front w asks p tied leaves (ReadsOn is goes a sent l) (not_wrong k part line.More a (λ e. let u : ⊥ = cc in u))
  told_by k part way front w asks p tied leaves (ReadsEnd request is a sent l) =
      told_as k part way front w asks p tied leaves (ReadsEnd request is a sent l) (not_wrong k part (line.Finished request) a (λ e. let u : ⊥ = cc in u))
  told_by k part way front w asks p tied leaves (SkipsOn is a sent l) =
      told_as k part way front w asks p tied leaves (SkipsOn is a sent l) (not_wrong k part line.More a (λ e. let u : ⊥ = cc in u))
  told_by k part way front w asks p tied leaves (SkipsEnd request is a sent l) =
      told_as k part way front w asks p tied leaves (SkipsEnd request is a sent l) (not_wrong k part (line.Acked request) a (λ e. let u : ⊥ = cc in u))

  told_here : (k : HoldsOne key d) (part : Part Token) (way : Way) (front : Front) (w : Bool) (asks : Option Reset) (p : ServerIsAt) → Tied front.stage w p k.seat.line.stage (outs k.hold.number)
      → Leaves d key outs outs2 sound sit (pool.Comes k.hold.number part way)
      → Told outs2 (turn d (pool.Comes k.hold.number part way)).pool key front.stage p (unless_withdrawn w (said_in (dones_of_part d k.hold.number part))) (end_told (what_in (dones_of_part d k.hold.number part)) (Open front w asks))
  told_here k part way front w asks p tied leaves =
      subst (λ (ds : List (Done Token)). Told outs2 (turn d (pool.Comes k.hold.number part way)).pool key front.stage p (unless_withdrawn w (said_in ds)) (end_told (what_in ds) (Open front w asks)))
      (sym (came_done d key k.hold k.seat part k.its)) (told_by k part way front w asks p tied leaves (heard_as k.seat.line part))

  pub hears_stand : (n : ℕ) (part : Part Token) (way : Way) (front : Front) (w : Bool) (asks : Option Reset) (p : ServerIsAt) → Standing outs d key front.stage w p → whose d n ≡ Some key
      → Leaves d key outs outs2 sound sit (pool.Comes n part way)
      → Told outs2 (turn d (pool.Comes n part way)).pool key front.stage p (unless_withdrawn w (said_in (dones_of_part d n part))) (end_told (what_in (dones_of_part d n part)) (Open front w asks))
  hears_stand n part way front w asks p (inl k) mine leaves =
      let number = whose_number d key n k.hold k.seat sound k.its mine in
      let P : ℕ → Type 0 = λ (m : ℕ). Leaves d key outs outs2 sound sit (pool.Comes m part way)
      → Told outs2 (turn d (pool.Comes m part way)).pool key front.stage p (unless_withdrawn w (said_in (dones_of_part d m part))) (end_told (what_in (dones_of_part d m part)) (Open front w asks)) in
      let at : P k.hold.number = λ l. told_here (record { hold = k.hold; seat = k.seat; its = k.its }) part way front w asks p k.tied l in
      let done : P n = subst P number at in
      done leaves
  hears_stand n part way front w asks p (inr k) mine leaves = absurd (absent_whose d key n sound k.absent.none mine)

  -- what is said to it is lawful
  lawful_here : (k : HoldsOne key d) (part : Part Token) (way : Way) (stage : Stage) (w : Bool) (p : ServerIsAt) → Tied stage w p k.seat.line.stage (outs k.hold.number)
      → AnswersOnce (outs k.hold.number) (dones_of_part d k.hold.number part)
      → IsLawful p (happenings_of stage (unless_withdrawn w (said_in (dones_of_part d k.hold.number part)))) × EndsWhole stage (unless_withdrawn w (said_in (dones_of_part d k.hold.number part)))
  lawful_here k part way stage w p tied once =
      let did = came_done d key k.hold k.seat part k.its in
      let may = (subst (AnswersOnce (outs k.hold.number)) did once).0 in
      subst (λ (ds : List (Done Token)). IsLawful p (happenings_of stage (unless_withdrawn w (said_in ds))) × EndsWhole stage (unless_withdrawn w (said_in ds))) (sym did)
      (heard_lawful w p (outs k.hold.number) (is_end part.close) stage k.seat.line.stage (line_turn k.seat.line (line.Come part)) tied (heard_as k.seat.line part) may)

  pub hears_lawful : (n : ℕ) (part : Part Token) (way : Way) (stage : Stage) (w : Bool) (p : ServerIsAt) → Standing outs d key stage w p → whose d n ≡ Some key → AnswersOnce (outs n) (dones_of_part d n part)
      → IsLawful p (happenings_of stage (unless_withdrawn w (said_in (dones_of_part d n part)))) × EndsWhole stage (unless_withdrawn w (said_in (dones_of_part d n part)))
  hears_lawful n part way stage w p (inl k) mine once =
      let number = whose_number d key n k.hold k.seat sound k.its mine in
      let P : ℕ → Type 0 = λ (m : ℕ). AnswersOnce (outs m) (dones_of_part d m part)
      → IsLawful p (happenings_of stage (unless_withdrawn w (said_in (dones_of_part d m part)))) × EndsWhole stage (unless_withdrawn w (said_in (dones_of_part d m part))) in
      let at : P k.hold.number = λ o. lawful_here (record { hold = k.hold; seat = k.seat; its = k.its }) part way stage w p k.tied o in
      let done : P n = subst P number at in
      done once
  hears_lawful n part way stage w p (inr k) mine once = absurd (absent_whose d key n sound k.absent.none mine)

  -- ---- It stops what has gone on

  abbrev Stops : Event
  Stops = pool.Does key pool.Stops

  abbrev pub Known : Type 0
  Known = (n : ℕ) (c : Seat) → seat_numbered n d.service.seats ≡ Some c → out_of c.line.stage (outs n) ≡ outs n

  stopped_hold : (k : HoldsOne key d) (next : Stage) (w : Bool) (p : ServerIsAt) → Stopped k.seat.line (outs k.hold.number) → Tied next w p line.Cancelling (outs k.hold.number) → Leaves d key outs outs2 sound sit Stops
      → Holds outs2 (turn d Stops).pool key next w p
  stopped_hold k next w p stopped tied leaves =
      let l = k.seat.line in
      let acts = acts_done l pool.Stops in
      let did = actions d key k.hold k.seat pool.Stops sound k.its in
      let one : Tied next w p (line_after l acts).stage (outs k.hold.number) = subst (λ (s : line.LineStage). Tied next w p s (outs k.hold.number)) (sym stopped.stage_is) tied in
      let two : Tied next w p (line_after l acts).stage (out_after (outs k.hold.number) (history l acts)) = subst (λ (o : Bool). Tied next w p (line_after l acts).stage o) (sym stopped.out_is) one in
      ours_hold d key outs outs2 sound sit Stops k.hold k.seat (with_line k.seat (line_after l acts)) acts next w p did.ours leaves two

  -- it takes that back
  pub record TakenBack (p : ServerIsAt) : Type 0 where
    pub standing : Standing outs2 (turn d Stops).pool key stages.Quiet true Ready
    pub was : p ≡ Ready

  takes_at : (k : HoldsOne key d) (stage : Stage) (w : Bool) (p : ServerIsAt) → ForgetsFrom stage true → GoneAt stage w p k.seat.line.stage → Leaves d key outs outs2 sound sit Stops → TakenBack p
  takes_at k stage w p from (SendsOut its at is) leaves = record {
    standing = inl (stopped_hold k stages.Quiet true Ready (stopped_sending k.seat.line (outs k.hold.number) at) (refl, tt, refl) leaves);
    was = is;
  }
  takes_at k stage w p from (ReadsOut its at underway is) leaves = absurd (let u : ForgetsFrom (stages.Underway true) true = subst (λ (s : Stage). ForgetsFrom s true) underway from in u)

  forgets_gone : (stage : Stage) → ForgetsFrom stage true → IsGone stage
  forgets_gone stages.Quiet from = let u : ⊥ = cc in absurd u
  forgets_gone (stages.Receiving kind gone) from = from
  forgets_gone (stages.Underway gone) from = absurd from
  forgets_gone stages.Stopping from = from
  forgets_gone (stages.Broken fault) from = from

  pub takes_back : (stage : Stage) (w : Bool) (p : ServerIsAt) → Standing outs d key stage w p → ForgetsFrom stage true → Leaves d key outs outs2 sound sit Stops → TakenBack p
  takes_back stage w p (inl k) from leaves =
      takes_at (record { hold = k.hold; seat = k.seat; its = k.its }) stage w p from (gone_at k.seat.line.stage stage w p (outs k.hold.number) k.tied (forgets_gone stage from)) leaves
  takes_back stage w p (inr k) from leaves = absurd (here_gone stage k.rests.here (forgets_gone stage from))

  -- its attention is the server's
  hands_at : (k : HoldsOne key d) (stage : Stage) (w : Bool) (p : ServerIsAt) → GoneAt stage w p k.seat.line.stage → Known → Leaves d key outs outs2 sound sit Stops
      → Holds outs2 (turn d Stops).pool key stages.Stopping false (behind_brought p serving.Attention)
  hands_at k stage w p (SendsOut its at is) known leaves =
      let out = outs k.hold.number in
      let quiet : false ≡ out = ap (λ (s : line.LineStage). out_of s out) (sym at) ∙ known k.hold.number k.seat k.its.there in
      let place : behind_brought p serving.Attention ≡ serving.Stopping out = ap (λ (x : ServerIsAt). behind_brought x serving.Attention) is ∙ ap serving.Stopping quiet in
      stopped_hold k stages.Stopping false (behind_brought p serving.Attention) (stopped_sending k.seat.line out at) (refl, place) leaves
  hands_at k stage w p (ReadsOut its at underway is) known leaves =
      let out = outs k.hold.number in
      let quiet : true ≡ out = ap (λ (s : line.LineStage). out_of s out) (sym at) ∙ known k.hold.number k.seat k.its.there in
      let place : behind_brought p serving.Attention ≡ serving.Stopping out = ap (λ (x : ServerIsAt). behind_brought x serving.Attention) is ∙ ap serving.Stopping quiet in
      stopped_hold k stages.Stopping false (behind_brought p serving.Attention) (stopped_reading k.seat.line out at) (refl, place) leaves

  pub hands_on : (stage : Stage) (w : Bool) (p : ServerIsAt) → Standing outs d key stage w p → IsGone stage → Known → Leaves d key outs outs2 sound sit Stops
      → Standing outs2 (turn d Stops).pool key stages.Stopping false (behind_brought p serving.Attention)
  hands_on stage w p (inl k) gone known leaves =
      inl (hands_at (record { hold = k.hold; seat = k.seat; its = k.its }) stage w p (gone_at k.seat.line.stage stage w p (outs k.hold.number) k.tied gone) known leaves)
  hands_on stage w p (inr k) gone known leaves = absurd (here_gone stage k.rests.here gone)

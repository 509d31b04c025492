-- An application's end and what it holds at the pool, behind each event.
use Rattle.std.proofs.Common.{◌≡◌, ◌∙◌, ◌⊎◌, ◌==◌, ℕ, Bool, true, false, List, [], ◌∷◌, refl, sym, ap, subst, inl, inr}
use Rattle.std.specs.Prelude.{Option, Some, None, if◌then◌else◌}
use Rattle.std.proofs.lemmas.Bool.{eqb-true, eq-eqb}
use Rattle.tds_wire.specs.declared.told.Token.{Token}
use Rattle.tds_front.specs.declared.stage.Stage.{Stage}
use Rattle.tds_front.specs.Passing.{FrontEvent, EndsWhole}
use Rattle.tds_front.specs.Serving.{ServerIsAt}
use Rattle.tds_service.specs.Line as line
use Rattle.tds_service.specs.Line.{Act, Line, Packet}
use Rattle.tds_service.specs.History.{history, line_after}
use Rattle.tds_service.specs.Parts.{Part}
use Rattle.tds_service.specs.Service.{Leased, Seat, Service, has_number, seat_numbered, on, steps}
use Rattle.tds_service.specs.Ties.{sent_in}
use Rattle.tds_relay.specs.declared.pool.Hold.{Hold}
use Rattle.tds_relay.specs.Pool as pool
use Rattle.tds_relay.specs.Pool.{Action, Pool, Event, PoolTurn, Way, find_lease, find_number, key_of, turn, whose}
use Rattle.tds_relay.specs.Behind.{gone_on}
use Rattle.tds_relay.specs.Core.{IsBegun, IsHere, HasWholeRequest, holder, sent_by}
use Rattle.tds_relay.specs.Promises.{CaresFor, Each, IsCaredFor}
use Rattle.tds_relay.proofs.promises.Caring.{Sound}
use Rattle.tds_relay.proofs.ends.Fronting.{out_of}
use Rattle.tds_relay.proofs.held.Lists.{Among, among, among_one, theirs, theirs_none}
use Rattle.tds_relay.proofs.promises.Promised.{handed_to_holder}
use Rattle.tds_relay.proofs.held.Seated.{AllSit, both_each, each_found_by}
use Rattle.tds_relay.proofs.promises.Seats.{each_found, found_meets}
use Rattle.tds_relay.proofs.held.Sitting.{Sits}
use Rattle.tds_relay.proofs.held.Sparing.{remains}
use Rattle.tds_relay.proofs.held.Others.{Its, IsOthers, Passes, held, key_is, number_is, passes}
use Rattle.tds_relay.proofs.held.Ours.{Gone, Ours, acts_done, actions, actions_none, leaves_gone, loses_gone, own_whose, with_line}
use Rattle.tds_relay.proofs.held.Kept.{IsLent, Renewed, Rests, Lends, Goes, relent_lent, renewed}
use Rattle.tds_relay.proofs.held.Away.{IsAbsent, WaitsOnce, away, gone_absent}
use Rattle.tds_relay.proofs.ends.Outs.{out_after}
use Rattle.tds_relay.proofs.ends.Leading.{Leads, leads_nothing}
use Rattle.tds_relay.proofs.ends.Tying as tying
use Rattle.tds_relay.proofs.ends.Tying.{SentBy, Tied, asks_tied, ends_tied, idle_tied, puts_tied, ready, rests, stops_tied, went_by}

-- ---- At the pool alone

pub record HoldsOne (key : ℕ) (d : Pool) : Type 0 where
  pub hold : Hold
  pub seat : Seat
  pub its : Its d key hold seat

abbrev pub AtPool : ℕ → Pool → Type 0
AtPool key d = HoldsOne key d ⊎ IsAbsent key d

pub lent_at : (key : ℕ) (d : Pool) → IsLent key d ⊎ IsAbsent key d → AtPool key d
lent_at key d (inl lent) = inl (record { hold = lent.hold; seat = lent.seat; its = lent.its })
lent_at key d (inr absent) = inr absent

-- What stands where.
pub record Holds (outs : ℕ → Bool) (d : Pool) (key : ℕ) (stage : Stage) (w : Bool) (p : ServerIsAt) : Type 0 where
  pub hold : Hold
  pub seat : Seat
  pub its : Its d key hold seat
  pub tied : Tied stage w p seat.line.stage (outs hold.number)

pub record Lacks (d : Pool) (key : ℕ) (stage : Stage) (w : Bool) (p : ServerIsAt) : Type 0 where
  pub absent : IsAbsent key d
  pub rests : tying.Rests stage w p

abbrev pub Standing : (ℕ → Bool) → Pool → ℕ → Stage → Bool → ServerIsAt → Type 0
Standing outs d key stage w p = Holds outs d key stage w p ⊎ Lacks d key stage w p

pub at_pool : (outs : ℕ → Bool) (d : Pool) (key : ℕ) (stage : Stage) (w : Bool) (p : ServerIsAt) → Standing outs d key stage w p → AtPool key d
at_pool outs d key stage w p (inl k) = inl (record { hold = k.hold; seat = k.seat; its = k.its })
at_pool outs d key stage w p (inr k) = inr k.absent

-- An end moves, and what is behind it.
pub record Next (outs : ℕ → Bool) (d : Pool) (key : ℕ) (stage : Stage) (p : ServerIsAt) (es : List FrontEvent) (next : Stage) (w : Bool) : Type 0 where
  pub place : ServerIsAt
  pub standing : Standing outs d key next w place
  pub leads : Leads stage p es next place

pub stays_next : (outs : ℕ → Bool) (d : Pool) (key : ℕ) (stage : Stage) (w : Bool) (p : ServerIsAt) → Standing outs d key stage w p → Next outs d key stage p [] stage w
stays_next outs d key stage w p s = record { place = p; standing = s; leads = leads_nothing stage p }

lent_stands : (outs : ℕ → Bool) (d : Pool) (key : ℕ) (stage : Stage) (w : Bool) (p : ServerIsAt) → tying.Rests stage w p → IsLent key d ⊎ IsAbsent key d → Standing outs d key stage w p
lent_stands outs d key stage w p r (inl lent) = inl (record { hold = lent.hold; seat = lent.seat; its = lent.its; tied = idle_tied lent.seat.line.stage stage w p (outs lent.hold.number) lent.idle r })
lent_stands outs d key stage w p r (inr absent) = inr (record { absent = absent; rests = r })

-- ---- Whose a connection is

pub absent_whose : (d : Pool) (key n : ℕ) → Sound d → theirs key d.holds ≡ [] → whose d n ≡ Some key → ⊥
absent_whose d key n sound none e =
    let handed = handed_to_holder d n key sound e in
    let a = among handed.hold.lease key handed.hold d.holds handed.its (eq-eqb handed.hold.key key handed.key_is) in
    let never : ⊥ = subst (λ (hs : List Hold). Among handed.hold hs) none a in
    never

key_number_by : (n key : ℕ) (x y : Hold) (ys : List Hold) (a b : Bool) → (y.number == n) ≡ a → (y.key == key) ≡ b → (if a then Some y else find_number n ys) ≡ Some x → (x.key == key) ≡ true
    → (find_number n ys ≡ Some x → Among x (theirs key ys) × (x.number ≡ n)) → Among x (if b then y ∷ theirs key ys else theirs key ys) × (x.number ≡ n)
key_number_by n key x y ys true true e f g k ih = let same : x ≡ y = cc in (inl same, ap (λ (z : Hold). z.number) same ∙ eqb-true y.number n e)
key_number_by n key x y ys true false e f g k ih =
    let same : x ≡ y = cc in
    absurd (let u : true ≡ false = sym k ∙ ap (λ (z : Hold). z.key == key) same ∙ f in let v : ⊥ = cc in v)
key_number_by n key x y ys false true e f g k ih = let i = ih g in (inr i.0, i.1)
key_number_by n key x y ys false false e f g k ih = ih g

-- who is found by a number is among what its application holds
by_number : (n key : ℕ) (x : Hold) (hs : List Hold) → find_number n hs ≡ Some x → (x.key == key) ≡ true → Among x (theirs key hs) × (x.number ≡ n)
by_number n key x [] e k = absurd (let u : ⊥ = cc in u)
by_number n key x (y ∷ ys) e k = key_number_by n key x y ys (y.number == n) (y.key == key) refl refl e k (λ f. by_number n key x ys f k)

held_number : (d : Pool) (n key : ℕ) (o : Option Hold) → find_number n d.holds ≡ o → key_of o ≡ Some key → (x : Hold) × ((find_number n d.holds ≡ Some x) × (x.key ≡ key))
held_number d n key None f e = absurd (let u : ⊥ = cc in u)
held_number d n key (Some x) f e = (x, (f, let u : x.key ≡ key = cc in u))

-- whoever holds a connection holds it alone
pub holder_number : (d : Pool) (key n : ℕ) (h : Hold) (c : Seat) → Its d key h c → holder d n ≡ Some key → h.number ≡ n
holder_number d key n h c its e =
    let f = held_number d n key (find_number n d.holds) refl e in
    let x : Hold = f.0 in
    let b = by_number n key x d.holds f.1.0 (eq-eqb x.key key f.1.1) in
    let same : x ≡ h = among_one x h (theirs key d.holds) its.sole b.0 in
    ap (λ (z : Hold). z.number) (sym same) ∙ b.1

none_by : (l : ℕ) (h y : Hold) (ys : List Hold) (a b : Bool) → (y.number == h.number) ≡ b → (if a then Some y else find_lease l ys) ≡ Some h → (if b then Some y else find_number h.number ys) ≡ None
    → (find_lease l ys ≡ Some h → find_number h.number ys ≡ None → ⊥) → ⊥
none_by l h y ys a true e f g ih = let u : ⊥ = cc in u
none_by l h y ys true false e f g ih =
    let same : y ≡ h = cc in
    let yes : (y.number == h.number) ≡ true = eq-eqb y.number h.number (ap (λ (z : Hold). z.number) same) in
    let u : true ≡ false = sym yes ∙ e in
    let v : ⊥ = cc in
    v
none_by l h y ys false false e f g ih = ih f g

none_numbered : (l : ℕ) (h : Hold) (hs : List Hold) → find_lease l hs ≡ Some h → find_number h.number hs ≡ None → ⊥
none_numbered l h [] e f = let u : ⊥ = cc in u
none_numbered l h (y ∷ ys) e f = none_by l h y ys (y.lease == l) (y.number == h.number) refl e f (λ e2 f2. none_numbered l h ys e2 f2)

each_number_by : (P : Hold → Type 0) (n : ℕ) (h x : Hold) (xs : List Hold) (b : Bool) → (x.number == n) ≡ b → P x → (if b then Some x else find_number n xs) ≡ Some h → (find_number n xs ≡ Some h → P h × (h.number ≡ n)) → P h × (h.number ≡ n)
each_number_by P n h x xs true is p e f = let same : x ≡ h = cc in (subst P same p, ap (λ (z : Hold). z.number) (sym same) ∙ eqb-true x.number n is)
each_number_by P n h x xs false is p e f = f e

each_number : (P : Hold → Type 0) (n : ℕ) (h : Hold) (hs : List Hold) → Each P hs → find_number n hs ≡ Some h → P h × (h.number ≡ n)
each_number P n h [] k e = absurd (let u : ⊥ = cc in u)
each_number P n h (x ∷ xs) k e = each_number_by P n h x xs (x.number == n) refl k.0 e (λ f. each_number P n h xs k.1 f)

abbrev Founds : Pool → Hold → Type 0
Founds d x = Sits d.service x × (find_lease x.lease d.holds ≡ Some x)

same_hold : (d : Pool) (key : ℕ) (h : Hold) (c : Seat) (x : Hold) → Sound d → AllSit d → Its d key h c → find_number h.number d.holds ≡ Some x → x ≡ h
same_hold d key h c x sound sit its e =
    let f = each_number (Founds d) h.number x d.holds
    (both_each (λ (y : Hold). Sits d.service y) (λ (y : Hold). find_lease y.lease d.holds ≡ Some y) d.holds sit (each_found_by 0 d.service.given d.holds sound.rising)) e in
    let there : seat_numbered x.number d.service.seats ≡ Some c = subst (λ (k : ℕ). seat_numbered k d.service.seats ≡ Some c) (sym f.1) its.there in
    let at : c.place ≡ Leased x.lease = f.0.0.lent c there in
    let same : Leased h.lease ≡ Leased x.lease = sym its.lent ∙ at in
    let lease : h.lease ≡ x.lease = cc in
    let mine : find_lease x.lease d.holds ≡ Some h = subst (λ (k : ℕ). find_lease k d.holds ≡ Some h) lease (held d key h c sound its) in
    let two : Some x ≡ Some h = sym f.0.1 ∙ mine in
    let one : x ≡ h = cc in
    one

own_holder_by : (d : Pool) (key : ℕ) (h : Hold) (c : Seat) (o : Option Hold) → Sound d → AllSit d → Its d key h c → find_number h.number d.holds ≡ o → key_of o ≡ Some key
own_holder_by d key h c None sound sit its e = absurd (none_numbered h.lease h d.holds (held d key h c sound its) e)
own_holder_by d key h c (Some x) sound sit its e =
    ap (λ (z : Hold). Some z.key) (same_hold d key h c x sound sit its e) ∙ ap (λ (k : ℕ). Some k) (key_is d key h c sound its)

pub own_holder : (d : Pool) (key : ℕ) (h : Hold) (c : Seat) → Sound d → AllSit d → Its d key h c → holder d h.number ≡ Some key
own_holder d key h c sound sit its = own_holder_by d key h c (find_number h.number d.holds) sound sit its refl

-- what comes on another connection isn't handed to it
pub cared_number : (d : Pool) (h : Hold) (n : ℕ) (c : Seat) → Sound d → find_lease h.lease d.holds ≡ Some h → seat_numbered n d.service.seats ≡ Some c → c.place ≡ Leased h.lease → h.number ≡ n
cared_number d h n c sound held there lent =
    let cared : CaresFor d.holds c = each_found (CaresFor d.holds) (has_number n) c d.service.seats sound.cared there in
    let is : IsCaredFor d.holds c.number (Leased h.lease) c.line = subst (λ (p : Rattle.tds_service.specs.Service.Place). IsCaredFor d.holds c.number p c.line) lent cared in
    let same : h ≡ is.hold = let f = is.found in cc in
    let number : c.number ≡ n = eqb-true c.number n (found_meets (has_number n) c d.service.seats there) in
    ap (λ (x : Hold). x.number) same ∙ is.here ∙ number

pub whose_number : (d : Pool) (key n : ℕ) (h : Hold) (c : Seat) → Sound d → Its d key h c → whose d n ≡ Some key → h.number ≡ n
whose_number d key n h c sound its e =
    let handed = handed_to_holder d n key sound e in
    let a = among handed.hold.lease key handed.hold d.holds handed.its (eq-eqb handed.hold.key key handed.key_is) in
    let same : handed.hold ≡ h = among_one handed.hold h (theirs key d.holds) its.sole a in
    let lent : handed.seat.place ≡ Leased h.lease = handed.lent ∙ ap (λ (x : Hold). Leased x.lease) same in
    cared_number d h n handed.seat sound (held d key h c sound its) handed.there lent

-- ---- Behind an event

module _ (d : Pool) (key : ℕ) (outs outs2 : ℕ → Bool) (sound : Sound d) (sit : AllSit d) where
  -- what an event leaves of what is out
  abbrev pub Leaves : Event → Type 0
  Leaves event = (n : ℕ) → outs2 n ≡ out_after (outs n) (on n (steps d.service (turn d event).calls))

  pub others_hold : (event : Event) (stage : Stage) (w : Bool) (p : ServerIsAt) (k : Holds outs d key stage w p) → IsOthers key k.hold.number event → Leaves event → Holds outs2 (turn d event).pool key stage w p
  others_hold event stage w p k others leaves =
      let h = k.hold in
      let c = k.seat in
      let t = turn d event in
      let ps : Passes d key h.number h t = passes d key h c sound sit k.its event others in
      let r = remains d.service c h.number h.lease t.calls (number_is d key h c sound k.its) k.its.lent sound.tidy k.its.there ps.spares in
      let there : seat_numbered h.number t.pool.service.seats ≡ Some c = subst (λ (x : Service). seat_numbered h.number x.seats ≡ Some c) (sym ps.service) r.0 in
      let out : outs2 h.number ≡ outs h.number = leaves h.number ∙ ap (out_after (outs h.number)) r.1 in
      record {
        hold = h;
        seat = c;
        its = record { sole = ps.sole; there = there; lent = k.its.lent; line = ps.line };
        tied = subst (λ (o : Bool). Tied stage w p c.line.stage o) (sym out) k.tied;
      }

  -- an event of its own by which its line goes on
  pub ours_hold : (event : Event) (h : Hold) (c c2 : Seat) (acts : List (Act Token)) (next : Stage) (w : Bool) (p : ServerIsAt) → Ours d key h c c2 acts (turn d event) → Leaves event
      → Tied next w p (line_after c.line acts).stage (out_after (outs h.number) (history c.line acts)) → Holds outs2 (turn d event).pool key next w p
  ours_hold event h c c2 acts next w p ours leaves tied =
      let out : outs2 h.number ≡ out_after (outs h.number) (history c.line acts) = leaves h.number ∙ ap (out_after (outs h.number)) ours.out in
      let one : Tied next w p c2.line.stage (out_after (outs h.number) (history c.line acts)) =
      subst (λ (l : Line). Tied next w p l.stage (out_after (outs h.number) (history c.line acts))) (sym ours.line) tied in
      record { hold = h; seat = c2; its = ours.its; tied = subst (λ (o : Bool). Tied next w p c2.line.stage o) (sym out) one }

  pub lacks_stand : (event : Event) (stage : Stage) (w : Bool) (p : ServerIsAt) → Lacks d key stage w p → WaitsOnce key d event → Standing outs2 (turn d event).pool key stage w p
  lacks_stand event stage w p k once = lent_stands outs2 (turn d event).pool key stage w p k.rests (away d key k.absent sound event once)

  -- it is another's
  pub apart_stands : (event : Event) (stage : Stage) (w : Bool) (p : ServerIsAt) → Standing outs d key stage w p → ((n : ℕ) → IsOthers key n event) → WaitsOnce key d event → Leaves event
      → Standing outs2 (turn d event).pool key stage w p
  apart_stands event stage w p (inl k) others once leaves = inl (others_hold event stage w p k (others k.hold.number) leaves)
  apart_stands event stage w p (inr k) others once leaves = lacks_stand event stage w p k once

  -- it lets its connection go, or that is lost: nothing of it has gone on
  gone_stands : (event : Event) (stage : Stage) (w : Bool) (p : ServerIsAt) (out : Bool) (s : line.LineStage) → Tied stage w p s out → IsHere stage → Gone key (turn d event).pool
      → Standing outs2 (turn d event).pool key stage false p
  gone_stands event stage w p out s tied here gone = inr (record {
    absent = gone_absent key (turn d event).pool gone;
    rests = record { here = here; its = refl; ready = ready s stage w p out tied here };
  })

  let_open : (event : Event) (stage : Stage) (w : Bool) (p : ServerIsAt) → tying.Rests stage w p → Standing outs2 (turn d event).pool key stage w p → Standing outs2 (turn d event).pool key stage false p
  let_open event stage w p r s = subst (λ (b : Bool). Standing outs2 (turn d event).pool key stage b p) r.its s

  pub lets_stand : (gives : Bool) (way : Way) (stage : Stage) (w : Bool) (p : ServerIsAt) → Standing outs d key stage w p → IsHere stage
      → Standing outs2 (turn d (pool.Leaves key gives way)).pool key stage false p
  lets_stand gives way stage w p (inl k) here =
      gone_stands (pool.Leaves key gives way) stage w p (outs k.hold.number) k.seat.line.stage k.tied here (leaves_gone d key k.hold k.seat gives way sound k.its)
  lets_stand gives way stage w p (inr k) here =
      let_open (pool.Leaves key gives way) stage w p k.rests (lacks_stand (pool.Leaves key gives way) stage w p k tt)

  -- its connection is lost, and it stays
  pub replaced_stands : (n : ℕ) (stage : Stage) (w : Bool) (p : ServerIsAt) → Standing outs d key stage w p → IsHere stage → holder d n ≡ Some key → Standing outs2 (turn d (pool.Loses n)).pool key stage false p
  replaced_stands n stage w p (inl k) here e =
      let number = holder_number d key n k.hold k.seat k.its e in
      let gone : Gone key (turn d (pool.Loses n)).pool = subst (λ (m : ℕ). Gone key (turn d (pool.Loses m)).pool) number (loses_gone d key k.hold k.seat k.its) in
      gone_stands (pool.Loses n) stage w p (outs k.hold.number) k.seat.line.stage k.tied here gone
  replaced_stands n stage w p (inr k) here e = let_open (pool.Loses n) stage w p k.rests (lacks_stand (pool.Loses n) stage w p k tt)

  -- another's is lost
  apart_number : (n : ℕ) (h : Hold) (b : Bool) → (h.number == n) ≡ b → (h.number ≡ n → ⊥) → b ≡ false
  apart_number n h true e never = absurd (never (eqb-true h.number n e))
  apart_number n h false e never = refl

  pub unlost_stands : (n : ℕ) (stage : Stage) (w : Bool) (p : ServerIsAt) → Standing outs d key stage w p → (holder d n ≡ Some key → ⊥) → Leaves (pool.Loses n) → Standing outs2 (turn d (pool.Loses n)).pool key stage w p
  unlost_stands n stage w p (inl k) never leaves =
      let ne : (k.hold.number == n) ≡ false =
      (let b : (k.hold.number == n) ≡ false = apart_number n k.hold (k.hold.number == n) refl (λ is. never (subst (λ (m : ℕ). holder d m ≡ Some key) is (own_holder d key k.hold k.seat sound sit k.its))) in b) in
      inl (others_hold (pool.Loses n) stage w p k ne leaves)
  unlost_stands n stage w p (inr k) never leaves = lacks_stand (pool.Loses n) stage w p k tt

  -- what comes isn't its own
  pub unheard_stands : (n : ℕ) (part : Part Token) (way : Way) (stage : Stage) (w : Bool) (p : ServerIsAt) → Standing outs d key stage w p → (whose d n ≡ Some key → ⊥) → Leaves (pool.Comes n part way)
      → Standing outs2 (turn d (pool.Comes n part way)).pool key stage w p
  unheard_stands n part way stage w p (inl k) never leaves =
      let ne : (k.hold.number == n) ≡ false =
      (let b : (k.hold.number == n) ≡ false = apart_number n k.hold (k.hold.number == n) refl (λ is. never (subst (λ (m : ℕ). whose d m ≡ Some key) is (own_whose d key k.hold k.seat sound k.its))) in b) in
      inl (others_hold (pool.Comes n part way) stage w p k ne leaves)
  unheard_stands n part way stage w p (inr k) never leaves = lacks_stand (pool.Comes n part way) stage w p k tt

  -- it keeps its connection
  renewed_stands : (resumes : Bool) (stage : Stage) (w : Bool) (p : ServerIsAt) (k : Holds outs d key stage w p) → Renewed d key k.hold k.seat resumes → Leaves (pool.Renews key resumes)
      → Standing outs2 (turn d (pool.Renews key resumes)).pool key stage w p
  renewed_stands resumes stage w p k (Rests none is) leaves =
      let out : outs2 k.hold.number ≡ outs k.hold.number = leaves k.hold.number ∙ ap (λ (t : PoolTurn). out_after (outs k.hold.number) (on k.hold.number (steps d.service t.calls))) is in
      let same : Holds outs2 d key stage w p = record { hold = k.hold; seat = k.seat; its = k.its; tied = subst (λ (o : Bool). Tied stage w p k.seat.line.stage o) (sym out) k.tied } in
      inl (subst (λ (t : PoolTurn). Holds outs2 t.pool key stage w p) (sym is) same)
  renewed_stands resumes stage w p k (Lends ticket some given idle lent) leaves =
      lent_stands outs2 (turn d (pool.Renews key resumes)).pool key stage w p (rests k.seat.line.stage stage w p (outs k.hold.number) idle k.tied) (inl (relent_lent d key k.hold k.seat resumes idle lent))
  renewed_stands resumes stage w p k (Goes ticket some given idle gone) leaves =
      inr (record { absent = gone_absent key (turn d (pool.Renews key resumes)).pool gone; rests = rests k.seat.line.stage stage w p (outs k.hold.number) idle k.tied })

  pub renews_stand : (resumes : Bool) (stage : Stage) (w : Bool) (p : ServerIsAt) → Standing outs d key stage w p → Leaves (pool.Renews key resumes) → Standing outs2 (turn d (pool.Renews key resumes)).pool key stage w p
  renews_stand resumes stage w p (inl k) leaves = renewed_stands resumes stage w p k (renewed d key k.hold k.seat sound k.its resumes) leaves
  renews_stand resumes stage w p (inr k) leaves = lacks_stand (pool.Renews key resumes) stage w p k tt

  -- it asks, or takes back what has gone nowhere
  pub asks_stand : (stage : Stage) (w : Bool) (p : ServerIsAt) → Standing outs d key stage w p → Leaves (pool.Does key pool.Asks) → Standing outs2 (turn d (pool.Does key pool.Asks)).pool key stage w p
  asks_stand stage w p (inl k) leaves =
      let did = actions d key k.hold k.seat pool.Asks sound k.its in
      inl (ours_hold (pool.Does key pool.Asks) k.hold k.seat (with_line k.seat (line_after k.seat.line (acts_done k.seat.line pool.Asks))) (acts_done k.seat.line pool.Asks) stage w p did.ours leaves
      (asks_tied k.seat.line stage w p (outs k.hold.number) k.tied))
  asks_stand stage w p (inr k) leaves = lacks_stand (pool.Does key pool.Asks) stage w p k tt

  pub stops_stand : (stage : Stage) (w : Bool) (p : ServerIsAt) → Standing outs d key stage w p → IsHere stage → Leaves (pool.Does key pool.Stops) → Standing outs2 (turn d (pool.Does key pool.Stops)).pool key stage w p
  stops_stand stage w p (inl k) here leaves =
      let did = actions d key k.hold k.seat pool.Stops sound k.its in
      inl (ours_hold (pool.Does key pool.Stops) k.hold k.seat (with_line k.seat (line_after k.seat.line (acts_done k.seat.line pool.Stops))) (acts_done k.seat.line pool.Stops) stage w p did.ours leaves
      (stops_tied k.seat.line stage w p (outs k.hold.number) k.tied here))
  stops_stand stage w p (inr k) here leaves = lacks_stand (pool.Does key pool.Stops) stage w p k tt

  -- something of its request goes on
  pub record Sent (action : Action) (stage : Stage) (w : Bool) (p : ServerIsAt) : Type 0 where
    pub next : Next outs2 (turn d (pool.Does key action)).pool key stage p (gone_on (sent_by d (pool.Does key action))) (went_by (sent_by d (pool.Does key action)) stage) w
    pub whole : EndsWhole stage (gone_on (sent_by d (pool.Does key action)))

  sent_hold : (action : Action) (stage : Stage) (w : Bool) (p : ServerIsAt) (k : Holds outs d key stage w p) → SentBy stage w p (outs k.hold.number) k.seat.line (acts_done k.seat.line action) → Leaves (pool.Does key action)
      → Sent action stage w p
  sent_hold action stage w p k s leaves =
      let acts = acts_done k.seat.line action in
      let did = actions d key k.hold k.seat action sound k.its in
      let held : Holds outs2 (turn d (pool.Does key action)).pool key (went_by (sent_in (history k.seat.line acts)) stage) w s.place =
      ours_hold (pool.Does key action) k.hold k.seat (with_line k.seat (line_after k.seat.line acts)) acts (went_by (sent_in (history k.seat.line acts)) stage) w s.place did.ours leaves s.tied in
      let next : Next outs2 (turn d (pool.Does key action)).pool key stage p (gone_on (sent_in (history k.seat.line acts))) (went_by (sent_in (history k.seat.line acts)) stage) w =
      record { place = s.place; standing = inl held; leads = s.leads } in
      record {
        next = subst (λ (ps : List Packet). Next outs2 (turn d (pool.Does key action)).pool key stage p (gone_on ps) (went_by ps stage) w) (sym did.sent) next;
        whole = subst (λ (ps : List Packet). EndsWhole stage (gone_on ps)) (sym did.sent) s.whole;
      }

  sent_lacks : (action : Action) (stage : Stage) (w : Bool) (p : ServerIsAt) → Lacks d key stage w p → Sent action stage w p
  sent_lacks action stage w p k =
      let none : sent_by d (pool.Does key action) ≡ [] = actions_none d key action (theirs_none key d.holds k.absent.none) in
      let s : Standing outs2 (turn d (pool.Does key action)).pool key stage w p = lacks_stand (pool.Does key action) stage w p k tt in
      record {
        next = subst (λ (ps : List Packet). Next outs2 (turn d (pool.Does key action)).pool key stage p (gone_on ps) (went_by ps stage) w) (sym none)
            (stays_next outs2 (turn d (pool.Does key action)).pool key stage w p s);
        whole = subst (λ (ps : List Packet). EndsWhole stage (gone_on ps)) (sym none) tt;
      }

  pub puts_stand : (count : ℕ) (stage : Stage) (w : Bool) (p : ServerIsAt) → Standing outs d key stage w p → IsBegun stage
      → ((n : ℕ) (c : Seat) → seat_numbered n d.service.seats ≡ Some c → out_of c.line.stage (outs n) ≡ outs n) → Leaves (pool.Does key (pool.Puts count)) → Sent (pool.Puts count) stage w p
  puts_stand count stage w p (inl k) begun known leaves =
      sent_hold (pool.Puts count) stage w p k
      (puts_tied k.seat.line count stage w p (outs k.hold.number) k.tied begun (known k.hold.number k.seat k.its.there)) leaves
  puts_stand count stage w p (inr k) begun known leaves = sent_lacks (pool.Puts count) stage w p k

  pub ends_stand : (count : ℕ) (stage : Stage) (w : Bool) (p : ServerIsAt) → Standing outs d key stage w p → HasWholeRequest stage → Leaves (pool.Does key (pool.Ends count)) → Sent (pool.Ends count) stage w p
  ends_stand count stage w p (inl k) whole leaves =
      sent_hold (pool.Ends count) stage w p k (ends_tied k.seat.line count stage w p (outs k.hold.number) k.tied whole) leaves
  ends_stand count stage w p (inr k) whole leaves = sent_lacks (pool.Ends count) stage w p k

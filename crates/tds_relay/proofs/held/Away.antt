-- An application that holds no connection, behind any event: it holds none still, or is lent an idle one.
use Rattle.std.proofs.Common.{◌≡◌, ◌∙◌, ◌⊎◌, ◌==◌, ◌≤◌, ℕ, suc, Bool, true, false, not, List, [], ◌∷◌, ◌++◌, length, refl, sym, ap, subst, arith, inl, inr}
use Rattle.std.specs.Prelude.{Option, Some, None, filter, nat_lt, if◌then◌else◌, ◌||◌}
use Rattle.std.proofs.lemmas.Bool.{eqb-true}
use Rattle.tds_packet.specs.declared.status.Reset.TheVariants.{Full}
use Rattle.tds_wire.specs.declared.told.Token.{Token}
use Rattle.tds_service.specs.Line as line
use Rattle.tds_service.specs.Line.{Line, LineStage, new_line}
use Rattle.tds_service.specs.History.{line_after}
use Rattle.tds_service.specs.Service as calls
use Rattle.tds_service.specs.Service.{Service, ServiceStep, Call, Leased, Seat, find_by, is_lendable, lease_at, on, on_one, seat_numbered, step, steps, does}
use Rattle.tds_service.proofs.Numbered.{added_here, change_here}
use Rattle.tds_service.proofs.Tests.{above}
use Rattle.tds_relay.specs.declared.pool.Hold.{Hold}
use Rattle.tds_relay.specs.Pool as pool
use Rattle.tds_relay.specs.Pool.{Pool, Event, Action, PoolTurn, Way, Hearing, find_key, holding, lent_in, moves, ticket_in, turn, without_lease}
use Rattle.tds_relay.specs.Core.{is_in}
use Rattle.tds_relay.specs.Promises.{Each}
use Rattle.tds_relay.proofs.promises.Seats.{found_meets}
use Rattle.tds_relay.proofs.promises.Tidy.{UpTo}
use Rattle.tds_relay.proofs.promises.Caring.{Sound}
use Rattle.tds_relay.proofs.promises.Bringing.{lendable_idle}
use Rattle.tds_relay.proofs.held.Lists.{Once, first_other, found_key, line_one, line_other, none_behind, once_behind, once_filtered, none_filtered, places, theirs, theirs_none, theirs_one, theirs_other, theirs_still}
use Rattle.tds_relay.proofs.held.Sparing.{none_on}
use Rattle.tds_relay.proofs.held.Others.{Its}
use Rattle.tds_relay.proofs.held.Ours.{Gone}
use Rattle.tds_relay.proofs.held.Kept.{IsLent}

-- It holds none, and waits once at most.
pub record IsAbsent (key : ℕ) (d : Pool) : Type 0 where
  pub none : theirs key d.holds ≡ []
  pub once : Once key d.line

pub gone_absent : (key : ℕ) (d : Pool) → Gone key d → IsAbsent key d
gone_absent key d gone = record { none = gone.holds; once = inl gone.waits }

-- who doesn't wait has no place
no_place_by : (key k : ℕ) (ks : List ℕ) (b : Bool) → (b || is_in key ks) ≡ false → (is_in key ks ≡ false → places key ks ≡ []) → (if b then k ∷ places key ks else places key ks) ≡ []
no_place_by key k ks true e ih = absurd (let u : ⊥ = cc in u)
no_place_by key k ks false e ih = ih e

pub no_place : (key : ℕ) (line : List ℕ) → is_in key line ≡ false → places key line ≡ []
no_place key [] e = refl
no_place key (k ∷ ks) e = no_place_by key k ks (k == key) e (no_place key ks)

-- ---- What leaves it away

module _ (d : Pool) (key : ℕ) (none : theirs key d.holds ≡ []) (L : List ℕ → Type 0) (once : L d.line) (left : (p : ℕ → Bool) (line : List ℕ) → L line → L (filter p line)) where
  -- it holds none still, and the line is so still
  abbrev pub StaysOut : PoolTurn → Type 0
  StaysOut t = (theirs key t.pool.holds ≡ []) × L t.pool.line

  brings_away : (s : Service) (gives : Bool) (way : Way) (o : Option pool.Loan) → StaysOut (pool.brings_by d s gives way o)
  brings_away s gives way None = (none, once)
  brings_away s gives way (Some loan) = (none, once)

  does_away : (action : Action) (o : Option Hold) → StaysOut (pool.holder_does d action o)
  does_away action None = (none, once)
  does_away action (Some x) = (none, once)

  leaves_away : (other : ℕ) (gives : Bool) (way : Way) (o : Option Hold) → StaysOut (pool.leaves d other gives way o)
  leaves_away other gives way None = (none, left (λ (k : ℕ). not (k == other)) d.line once)
  leaves_away other gives way (Some x) =
      (theirs_still key (λ (y : Hold). not (y.lease == x.lease)) d.holds none, left (λ (k : ℕ). not (k == other)) d.line once)

  differs_by : (other : ℕ) (x : Hold) (b : Bool) → (x.key == key) ≡ b → find_key other d.holds ≡ Some x → b ≡ false
  differs_by other x true e found =
      let is : other ≡ key = sym (eqb-true x.key other (found_key other x d.holds found)) ∙ eqb-true x.key key e in
      let mine : find_key key d.holds ≡ Some x = subst (λ (k : ℕ). find_key k d.holds ≡ Some x) is found in
      let nobody = theirs_none key d.holds none in
      absurd (let u : None ≡ Some x = sym nobody ∙ mine in let v : ⊥ = cc in v)
  differs_by other x false e found = refl

  differs : (other : ℕ) (x : Hold) → find_key other d.holds ≡ Some x → (x.key == key) ≡ false
  differs other x found = let b : (x.key == key) ≡ false = differs_by other x (x.key == key) refl found in b

  renews_by_away : (other : ℕ) (x : Hold) (ticket : ℕ) (o : Option pool.Loan) (resumes : Bool) → find_key other d.holds ≡ Some x → StaysOut (pool.renews_by d x ticket o resumes)
  renews_by_away other x ticket o false e = (theirs_still key (λ (y : Hold). not (y.number == x.number)) d.holds none, once)
  renews_by_away other x ticket None true e = (theirs_still key (λ (y : Hold). not (y.number == x.number)) d.holds none, once)
  renews_by_away other x ticket (Some loan) true e = (
    theirs_other key (holding x.key loan.lease loan.number) (without_lease x.lease d.holds) [] (theirs_still key (λ (y : Hold). not (y.lease == x.lease)) d.holds none) (differs other x e),
    once,
  )

  keeps_by_away : (other : ℕ) (x : Hold) (resumes : Bool) (s : Service) (o : Option ℕ) → find_key other d.holds ≡ Some x → StaysOut (pool.keeps_by d x resumes s o)
  keeps_by_away other x resumes s None e = (none, once)
  keeps_by_away other x resumes s (Some ticket) e = renews_by_away other x ticket (lent_in (step {T = Token} s (calls.Resume ticket)).reply) resumes e

  renews_away : (other : ℕ) (resumes : Bool) (o : Option Hold) → find_key other d.holds ≡ o → StaysOut (pool.renews d resumes o)
  renews_away other resumes None e = (none, once)
  renews_away other resumes (Some x) e =
      let kept = step {T = Token} d.service (calls.Keep x.lease) in
      keeps_by_away other x resumes kept.service (ticket_in kept.reply) e

  comes_away : (number : ℕ) (call : Call Token) (s : Service) (way : Way) (o : Option ℕ) (hearing : Hearing) → StaysOut (pool.comes_by d call s number way o hearing)
  comes_away number call s way o pool.Goes = (none, once)
  comes_away number call s way o pool.Settled = (none, once)
  comes_away number call s way o pool.Wrong = (theirs_still key (λ (y : Hold). not (y.number == number)) d.holds none, once)

  serves_by_away : (k : ℕ) (others : List ℕ) (o : Option pool.Loan) → (k == key) ≡ false → L others → StaysOut (pool.serves_by d k others o)
  serves_by_away k others None ne behind = (none, once)
  serves_by_away k others (Some loan) ne behind = (theirs_other key (holding k loan.lease loan.number) d.holds [] none ne, behind)

  pub serves_others : (k : ℕ) (others : List ℕ) → d.line ≡ k ∷ others → (k == key) ≡ false → L others → StaysOut (turn d pool.Serves)
  serves_others k others waits ne behind =
      subst (λ (y : List ℕ). StaysOut (pool.serves d y)) (sym waits) (serves_by_away k others (lent_in (step {T = Token} d.service calls.Lease).reply) ne behind)

  pub serves_nobody : d.line ≡ [] → StaysOut (turn d pool.Serves)
  serves_nobody waits = subst (λ (y : List ℕ). StaysOut (pool.serves d y)) (sym waits) (none, once)

  -- So it is behind any event, where who comes to wait leaves the line so, and the line is served so.
  pub walk : (Q : Event → Type 0) → ((event : Event) → StaysOut (turn d event) → Q event) → Q pool.Serves → (event : Event) → ((other : ℕ) → event ≡ pool.Waits other → L (d.line ++ other ∷ [])) → Q event
  walk Q so served (pool.Waits other) waits = so (pool.Waits other) (none, waits other refl)
  walk Q so served (pool.Unwaits other) waits = so (pool.Unwaits other) (none, left (λ (k : ℕ). not (k == other)) d.line once)
  walk Q so served pool.Serves waits = served
  walk Q so served (pool.Brings gives way) waits =
      let lent = step {T = Token} d.service calls.Lease in
      so (pool.Brings gives way) (brings_away lent.service gives way (lent_in lent.reply))
  walk Q so served (pool.Does other action) waits = so (pool.Does other action) (does_away action (find_key other d.holds))
  walk Q so served (pool.Leaves other gives way) waits = so (pool.Leaves other gives way) (leaves_away other gives way (find_key other d.holds))
  walk Q so served (pool.Renews other resumes) waits = so (pool.Renews other resumes) (renews_away other resumes (find_key other d.holds) refl)
  walk Q so served (pool.Comes number part way) waits =
      let heard = step {T = Token} d.service (calls.Came number part) in
      so (pool.Comes number part way) (comes_away number (calls.Came number part) heard.service way (lease_at (seat_numbered number d.service.seats)) (pool.hearing heard.dones))
  walk Q so served (pool.Loses number) waits = so (pool.Loses number) (theirs_still key (λ (y : Hold). not (y.number == number)) d.holds none, once)

waits_once : (d : Pool) (key other : ℕ) (b : Bool) → Once key d.line → (other == key) ≡ b → (other ≡ key → places key d.line ≡ []) → Once key (d.line ++ other ∷ [])
waits_once d key other true once e away =
    let is : other ≡ key = eqb-true other key e in
    let line = line_one key d.line (away is) in
    inr (subst (λ (k : ℕ). places key (d.line ++ k ∷ []) ≡ key ∷ []) (sym is) line)
waits_once d key other false once e away = subst (λ (x : List ℕ). (x ≡ []) ⊎ (x ≡ key ∷ [])) (sym (line_other key other d.line e)) once

-- ---- It's lent one

-- It was clean, and is marked; or it's new, and nothing is done there yet.
pub data Origin (d : Pool) (number : ℕ) (l : Line) : Type 0 where
  Clean : (was : Line) → was.stage ≡ line.Idle → l ≡ line_after {T = Token} was (line.Mark Full ∷ []) → Origin d number l
  New : number ≡ suc d.service.last → l ≡ new_line → on number (steps d.service (turn d pool.Serves).calls) ≡ [] → Origin d number l

pub record IsServed (key : ℕ) (d : Pool) : Type 0 where
  pub hold : Hold
  pub seat : Seat
  pub its : Its (turn d pool.Serves).pool key hold seat
  pub origin : Origin d hold.number seat.line

pub full_idle : (l : Line) → l.stage ≡ line.Idle → (line_after {T = Token} l (line.Mark Full ∷ [])).stage ≡ line.Idle
full_idle l is = ap (λ (st : LineStage). (line.marks {T = Token} l Full st).line.stage) is ∙ is

pub origin_idle : (d : Pool) (number : ℕ) (l : Line) → Origin d number l → l.stage ≡ line.Idle
origin_idle d number l (Clean was idle is) = ap (λ (x : Line). x.stage) is ∙ full_idle was idle
origin_idle d number l (New at is out) = ap (λ (x : Line). x.stage) is

numbered_none : (last : ℕ) (cs : List Seat) → Each (UpTo last) cs → seat_numbered (suc last) cs ≡ None
numbered_none last [] h = refl
numbered_none last (c ∷ cs) h =
    let le : c.number ≤ last = h.0 in
    let ne : (c.number == suc last) ≡ false = above c.number (suc last) (omega arith) in
    rw ne (numbered_none last cs h.1)

module _ (d : Pool) (key k : ℕ) (others : List ℕ) (x : IsAbsent key d) (sound : Sound d) (waits : d.line ≡ k ∷ others) (mine : (k == key) ≡ true) where
  abbrev Served : Type 0
  Served = IsServed key d ⊎ IsAbsent key (turn d pool.Serves).pool

  is_first : (lease number : ℕ) (l : Line) → lent_in (step {T = Token} d.service calls.Lease).reply ≡ Some (record { lease = lease; number = number })
      → seat_numbered number (step {T = Token} d.service calls.Lease).service.seats ≡ Some (record { number = number; place = Leased lease; line = l }) → Origin d number l → Served
  is_first lease number l lent there origin =
      let h = holding k lease number in
      let c : Seat = record { number = number; place = Leased lease; line = l } in
      let t : turn d pool.Serves ≡ moves d (d.holds ++ h ∷ []) others (calls.Lease ∷ []) = ap (λ (y : List ℕ). pool.serves d y) waits ∙ ap (λ (y : Option pool.Loan). pool.serves_by d k others y) lent in
      let once : Once key (k ∷ others) = subst (λ (y : List ℕ). Once key y) waits x.once in
      let its : Its (turn d pool.Serves).pool key h c =
      subst (λ (y : PoolTurn). Its y.pool key h c) (sym t) (record { sole = theirs_one key h d.holds x.none mine; there = there; lent = refl; line = none_behind key k others once mine }) in
      inl (record { hold = h; seat = c; its = its; origin = origin })

  not_lent : lent_in (step {T = Token} d.service calls.Lease).reply ≡ None → Served
  not_lent none =
      let t : turn d pool.Serves ≡ moves d d.holds d.line [] = ap (λ (y : List ℕ). pool.serves d y) waits ∙ ap (λ (y : Option pool.Loan). pool.serves_by d k others y) none in
      inr (record { none = ap (λ (y : PoolTurn). theirs key y.pool.holds) t ∙ x.none; once = subst (λ (y : PoolTurn). Once key y.pool.line) (sym t) x.once })

  lent_used : (c : Seat) → find_by is_lendable d.service.seats ≡ Some c → Served
  lent_used c e =
      let lease = suc d.service.given in
      let l = line_after {T = Token} c.line (line.Mark Full ∷ []) in
      let did : step {T = Token} d.service calls.Lease ≡ does d.service lease is_lendable c (Some (Leased lease)) (line.Mark Full ∷ []) (calls.Lent lease c.number true) =
      ap (λ (o : Option Seat). calls.lends {T = Token} d.service o) e in
      let idle = lendable_idle c (found_meets is_lendable c d.service.seats e) in
      let there = change_here is_lendable c (Leased lease) l d.service.seats sound.tidy.distinct e in
      is_first lease c.number l (ap (λ (t : ServiceStep Token). lent_in t.reply) did) (ap (λ (t : ServiceStep Token). seat_numbered c.number t.service.seats) did ∙ there) (Clean c.line idle refl)

  lent_new : find_by is_lendable d.service.seats ≡ None → nat_lt (length d.service.seats) d.service.max ≡ true → Served
  lent_new e room =
      let lease = suc d.service.given in
      let number = suc d.service.last in
      let c : Seat = record { number = number; place = Leased lease; line = new_line } in
      let did : step {T = Token} d.service calls.Lease ≡ calls.opens d.service true =
      ap (λ (o : Option Seat). calls.lends {T = Token} d.service o) e ∙ ap (λ (b : Bool). calls.opens {T = Token} d.service b) room in
      let there : seat_numbered number (d.service.seats ++ c ∷ []) ≡ Some c = added_here c d.service.seats (numbered_none d.service.last d.service.seats sound.tidy.upto) in
      let lent : lent_in (step {T = Token} d.service calls.Lease).reply ≡ Some (record { lease = lease; number = number }) = ap (λ (t : ServiceStep Token). lent_in t.reply) did in
      let t : turn d pool.Serves ≡ moves d (d.holds ++ holding k lease number ∷ []) others (calls.Lease ∷ []) =
      ap (λ (y : List ℕ). pool.serves d y) waits ∙ ap (λ (y : Option pool.Loan). pool.serves_by d k others y) lent in
      let out : on number (steps d.service (turn d pool.Serves).calls) ≡ [] = ap (λ (y : PoolTurn). on number (steps d.service y.calls)) t
      ∙ ap (λ (y : ServiceStep Token). on_one (y.number == number) y.dones []) did ∙ none_on (0 == number) [] in
      is_first lease number new_line lent (ap (λ (y : ServiceStep Token). seat_numbered number y.service.seats) did ∙ there) (New refl refl out)

  lent_by_room : (b : Bool) → find_by is_lendable d.service.seats ≡ None → nat_lt (length d.service.seats) d.service.max ≡ b → Served
  lent_by_room true e room = lent_new e room
  lent_by_room false e room = not_lent (rw (e, room) refl)

  lent_by : (o : Option Seat) → find_by is_lendable d.service.seats ≡ o → Served
  lent_by None e = lent_by_room (nat_lt (length d.service.seats) d.service.max) e refl
  lent_by (Some c) e = lent_used c e

-- ---- Any event

abbrev Then : ℕ → Pool → Type 0
Then key d = IsLent key d ⊎ IsAbsent key d

-- It waits only where it doesn't.
abbrev pub WaitsOnce : ℕ → Pool → Event → Type 0
WaitsOnce key d (pool.Waits other) = other ≡ key → (find_key key d.holds ≡ None) × (places key d.line ≡ [])
WaitsOnce key d event = Unit {0}

module _ (d : Pool) (key : ℕ) (x : IsAbsent key d) (sound : Sound d) where
  abbrev L : List ℕ → Type 0
  L line = Once key line

  left : (p : ℕ → Bool) (line : List ℕ) → L line → L (filter p line)
  left p line once = once_filtered key p line once

  abbrev Q : PoolTurn → Type 0
  Q t = StaysOut d key x.none L x.once left t

  stays : (event : Event) → Q (turn d event) → IsAbsent key (turn d event).pool
  stays event p = record { none = p.0; once = p.1 }

  serves_first : (k : ℕ) (others : List ℕ) (b : Bool) → (k == key) ≡ b → d.line ≡ k ∷ others → IsServed key d ⊎ IsAbsent key (turn d pool.Serves).pool
  serves_first k others true mine waits = lent_by d key k others x sound waits mine (find_by is_lendable d.service.seats) refl
  serves_first k others false mine waits =
      inr (stays pool.Serves (serves_others d key x.none L x.once left k others waits mine (once_behind key k others (subst L waits x.once) mine)))

  serves_line : (waiting : List ℕ) → d.line ≡ waiting → IsServed key d ⊎ IsAbsent key (turn d pool.Serves).pool
  serves_line [] waits = inr (stays pool.Serves (serves_nobody d key x.none L x.once left waits))
  serves_line (k ∷ others) waits = serves_first k others (k == key) refl waits

  -- the line is served
  pub served : IsServed key d ⊎ IsAbsent key (turn d pool.Serves).pool
  served = serves_line d.line refl

  -- or anything else happens
  pub away_walk : (Q : Event → Type 0) → ((event : Event) → IsAbsent key (turn d event).pool → Q event) → Q pool.Serves → (event : Event) → ((other : ℕ) → event ≡ pool.Waits other → other ≡ key → places key d.line ≡ []) → Q event
  away_walk Q so serves event waits =
      walk d key x.none L x.once left Q (λ e p. so e (stays e p)) serves event (λ other is. waits_once d key other (other == key) x.once refl (waits other is))

  lent_then : IsServed key d ⊎ IsAbsent key (turn d pool.Serves).pool → Then key (turn d pool.Serves).pool
  lent_then (inl lent) = inl (record { hold = lent.hold; seat = lent.seat; its = lent.its; idle = origin_idle d lent.hold.number lent.seat.line lent.origin })
  lent_then (inr absent) = inr absent

  pub away : (event : Event) → WaitsOnce key d event → Then key (turn d event).pool
  away event once =
      away_walk (λ e. Then key (turn d e).pool) (λ e absent. inr absent) (lent_then served) event
      (λ other is mine. (let w : other ≡ key → (find_key key d.holds ≡ None) × (places key d.line ≡ []) = subst (λ (e : Event). WaitsOnce key d e) is once in (w mine).1))

-- ---- One that isn't there neither holds nor waits

-- It comes to wait no more.
abbrev pub WaitsNot : ℕ → Event → Type 0
WaitsNot key (pool.Waits other) = (other == key) ≡ false
WaitsNot key event = Unit {0}

module _ (d : Pool) (key : ℕ) (x : Gone key d) where
  abbrev G : List ℕ → Type 0
  G line = places key line ≡ []

  out : (p : ℕ → Bool) (line : List ℕ) → G line → G (filter p line)
  out p line none = none_filtered key p line none

  gone_by : (event : Event) → StaysOut d key x.holds G x.waits out (turn d event) → Gone key (turn d event).pool
  gone_by event p = record { holds = p.0; waits = p.1 }

  gone_serves : (waiting : List ℕ) → d.line ≡ waiting → Gone key (turn d pool.Serves).pool
  gone_serves [] waits = gone_by pool.Serves (serves_nobody d key x.holds G x.waits out waits)
  gone_serves (k ∷ others) waits =
      let f = first_other key k others (subst G waits x.waits) in
      gone_by pool.Serves (serves_others d key x.holds G x.waits out k others waits f.0 f.1)

  pub stays_gone : (event : Event) → WaitsNot key event → Gone key (turn d event).pool
  stays_gone event others =
      walk d key x.holds G x.waits out (λ e. Gone key (turn d e).pool) gone_by (gone_serves d.line refl) event
      (λ other is. (let ne : (other == key) ≡ false = subst (λ (e : Event). WaitsNot key e) is others in line_other key other d.line ne ∙ x.waits))

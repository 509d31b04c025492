-- No two applications hold one connection, behind any events.
use Rattle.std.proofs.Common.{◌≡◌, ◌≢◌, ◌∙◌, ◌==◌, ◌<◌, ◌≤◌, ℕ, suc, Bool, true, false, not, List, [], ◌∷◌, ◌++◌, length, refl, sym, ap, subst, arith}
use Rattle.std.specs.Prelude.{Option, Some, None, filter, nat_lt, if◌then◌else◌}
use Rattle.std.proofs.lemmas.Bool.{eqb-true, eq-eqb}
use Rattle.tds_packet.specs.declared.status.Reset.TheVariants.{Full, KeepTransaction}
use Rattle.tds_wire.specs.declared.told.Token.{Token}
use Rattle.tds_service.specs.Parts.{Part}
use Rattle.tds_service.specs.Line as line
use Rattle.tds_service.specs.Line.{Act, new_line}
use Rattle.tds_service.specs.History.{line_after}
use Rattle.tds_service.specs.Service as calls
use Rattle.tds_service.specs.Service.{Service, Reply, ServiceStep, Leased, Seat, find_by, change_by, has_ticket, is_lendable, is_idle, does, lease_at, nothing, seat_numbered, step, service_after}
use Rattle.tds_service.proofs.Numbered.{added_here, change_here}
use Rattle.tds_service.proofs.Tests.{above}
use Rattle.tds_relay.specs.declared.pool.Hold.{Hold}
use Rattle.tds_relay.specs.Pool as pool
use Rattle.tds_relay.specs.Pool.{Pool, Event, Hearing, Way, PoolTurn, pool_after, find_key, find_number, key_of, new_pool, holding, lent_in, moves, ticket_in, turn, without_lease, without_number}
use Rattle.tds_relay.specs.Promises.{Each}
use Rattle.tds_relay.specs.Ties.{IsReached}
use Rattle.tds_relay.proofs.held.Lists.{found_key}
use Rattle.tds_relay.proofs.held.Seated.{AllSit, both_each, each_key, turn_sits}
use Rattle.tds_relay.proofs.held.Sitting.{Sits}
use Rattle.tds_relay.proofs.promises.Bringing.{always_sound, turn_sound}
use Rattle.tds_relay.proofs.promises.Caring.{Sound}
use Rattle.tds_relay.proofs.promises.Holding.{Rising}
use Rattle.tds_relay.proofs.promises.Seats.{each_weaker}
use Rattle.tds_relay.proofs.promises.Tidy.{Tidy, UpTo, step_rises}

-- ---- Lists

abbrev pub Apart : List Hold → Type 0
Apart [] = Unit {0}
Apart (h ∷ hs) = Each (λ (x : Hold). x.number ≢ h.number) hs × Apart hs

filtered_if : (P : Hold → Type 0) (x : Hold) (xs : List Hold) (b : Bool) → P x → Each P xs → Each P (if b then x ∷ xs else xs)
filtered_if P x xs true h k = (h, k)
filtered_if P x xs false h k = k

each_kept : (P : Hold → Type 0) (p : Hold → Bool) (xs : List Hold) → Each P xs → Each P (filter p xs)
each_kept P p [] h = tt
each_kept P p (x ∷ xs) h = filtered_if P x (filter p xs) (p x) h.0 (each_kept P p xs h.1)

apart_if : (x : Hold) (xs : List Hold) (b : Bool) → Each (λ (y : Hold). y.number ≢ x.number) xs → Apart xs → Apart (if b then x ∷ xs else xs)
apart_if x xs true h k = (h, k)
apart_if x xs false h k = k

pub apart_kept : (p : Hold → Bool) (xs : List Hold) → Apart xs → Apart (filter p xs)
apart_kept p [] h = tt
apart_kept p (x ∷ xs) h = apart_if x (filter p xs) (p x) (each_kept (λ (y : Hold). y.number ≢ x.number) p xs h.0) (apart_kept p xs h.1)

each_more : (P : Hold → Type 0) (x : Hold) (xs : List Hold) → Each P xs → P x → Each P (xs ++ x ∷ [])
each_more P x [] h k = (k, tt)
each_more P x (y ∷ ys) h k = (h.0, each_more P x ys h.1 k)

apart_added : (x : Hold) (xs : List Hold) → Apart xs → Each (λ (y : Hold). x.number ≢ y.number) xs → Apart (xs ++ x ∷ [])
apart_added x [] h k = (tt, tt)
apart_added x (y ∷ ys) h k = (each_more (λ (z : Hold). z.number ≢ y.number) x ys h.0 k.0, apart_added x ys h.1 k.1)

-- each before the last was lent before it
before_last : (low high : ℕ) (x : Hold) (xs : List Hold) → Rising low high (xs ++ x ∷ []) → Each (λ (y : Hold). y.lease < x.lease) xs × (low < x.lease)
before_last low high x [] h = (tt, h.0)
before_last low high x (y ∷ ys) h =
    let k = before_last y.lease high x ys h.1 in
    let one : low < y.lease = h.0 in
    let two : y.lease < x.lease = k.1 in
    ((two, k.0), (let u : low < x.lease = omega arith in u))

front_of : (P : Hold → Type 0) (x : Hold) (xs : List Hold) → Each P (xs ++ x ∷ []) → Each P xs × P x
front_of P x [] h = (tt, h.0)
front_of P x (y ∷ ys) h = let k = front_of P x ys h.1 in ((h.0, k.0), k.1)

-- ---- The connection that is lent is there

module _ (s : Service) (tidy : Tidy s) where
  pub record IsThere (t : ServiceStep Token) (loan : pool.Loan) : Type 0 where
    pub seat : Seat
    pub there : seat_numbered loan.number t.service.seats ≡ Some seat

  abbrev LentThere : ServiceStep Token → Type 0
  LentThere t = (loan : pool.Loan) → lent_in t.reply ≡ Some loan → IsThere t loan

  none_there : (reply : Reply) → lent_in reply ≡ None → LentThere (nothing s reply)
  none_there reply none loan is = absurd (let u : None ≡ Some loan = sym none ∙ is in let v : ⊥ = cc in v)

  placed_there : (given : ℕ) (test : Seat → Bool) (d : Seat) (all : List (Act Token)) → find_by test s.seats ≡ Some d
      → LentThere (does s given test d (Some (Leased given)) all (calls.Lent given d.number true))
  placed_there given test d all e loan is =
      let l = line_after d.line all in
      let d2 : Seat = record { number = d.number; place = Leased given; line = l } in
      let one : pool.Loan = record { lease = given; number = d.number } in
      let here : seat_numbered d.number (change_by test (Some (Leased given)) l s.seats) ≡ Some d2 = change_here test d (Leased given) l s.seats tidy.distinct e in
      let same : one ≡ loan = cc in
      subst (λ (y : pool.Loan). IsThere (does s given test d (Some (Leased given)) all (calls.Lent given d.number true)) y) same (record { seat = d2; there = here })

  numbered_none : (last : ℕ) (cs : List Seat) → Each (UpTo last) cs → seat_numbered (suc last) cs ≡ None
  numbered_none last [] h = refl
  numbered_none last (c ∷ cs) h =
      let le : c.number ≤ last = h.0 in
      let ne : (c.number == suc last) ≡ false = above c.number (suc last) (omega arith) in
      rw ne (numbered_none last cs h.1)

  opened_there : (room : Bool) → LentThere (calls.opens {T = Token} s room)
  opened_there false loan is = none_there calls.AllInUse refl loan is
  opened_there true loan is =
      let c : Seat = record { number = suc s.last; place = Leased (suc s.given); line = new_line } in
      let one : pool.Loan = record { lease = suc s.given; number = suc s.last } in
      let here : seat_numbered (suc s.last) (s.seats ++ c ∷ []) ≡ Some c = added_here c s.seats (numbered_none s.last s.seats tidy.upto) in
      let same : one ≡ loan = cc in
      subst (λ (y : pool.Loan). IsThere (calls.opens {T = Token} s true) y) same (record { seat = c; there = here })

  lent_by : (o : Option Seat) → find_by is_lendable s.seats ≡ o → LentThere (calls.lends {T = Token} s o)
  lent_by None e = opened_there (nat_lt (length s.seats) s.max)
  lent_by (Some d) e = placed_there (suc s.given) is_lendable d (line.Mark Full ∷ []) e

  pub lent_there : LentThere (step s calls.Lease)
  lent_there = lent_by (find_by is_lendable s.seats) refl

  resumed_if : (ticket : ℕ) (d : Seat) (b : Bool) → find_by (has_ticket ticket) s.seats ≡ Some d
      → LentThere (if b then does s (suc s.given) (has_ticket ticket) d (Some (Leased (suc s.given))) (line.Mark KeepTransaction ∷ []) (calls.Lent (suc s.given) d.number true) else nothing s calls.NotNow)
  resumed_if ticket d true e = placed_there (suc s.given) (has_ticket ticket) d (line.Mark KeepTransaction ∷ []) e
  resumed_if ticket d false e = none_there calls.NotNow refl

  resumed_by : (ticket : ℕ) (o : Option Seat) → find_by (has_ticket ticket) s.seats ≡ o → LentThere (calls.resumes {T = Token} s (has_ticket ticket) o)
  resumed_by ticket None e = none_there calls.Unknown refl
  resumed_by ticket (Some d) e = resumed_if ticket d (is_idle d.line.stage) e

  pub resumed_there : (ticket : ℕ) → LentThere (step s (calls.Resume ticket))
  resumed_there ticket = resumed_by ticket (find_by (has_ticket ticket) s.seats) refl

-- ---- Behind each event

-- one that is lent is put behind those that are held
module _ (d : Pool) (sound : Sound d) (sit : AllSit d) (hs : List Hold) (x : Hold) (are : d.holds ≡ hs ++ x ∷ []) (seat : Seat) (there : seat_numbered x.number d.service.seats ≡ Some seat) where
  differs : (y : Hold) → Sits d.service x → Sits d.service y → y.lease < x.lease → x.number ≢ y.number
  differs y mine theirs lt = λ e.
      let one : seat.place ≡ Leased x.lease = mine.lent seat there in
      let two : seat.place ≡ Leased y.lease = theirs.lent seat (subst (λ (n : ℕ). seat_numbered n d.service.seats ≡ Some seat) e there) in
      let same : x.lease ≡ y.lease = (let u : Leased x.lease ≡ Leased y.lease = sym one ∙ two in cc) in
      let less : y.lease < x.lease = lt in
      let u : ⊥ = omega (arith, same, less) in u

  pub apart_last : Apart hs → Apart d.holds
  apart_last apart =
      let sits = front_of (λ (y : Hold). Sits d.service y) x hs (subst (Each (λ (y : Hold). Sits d.service y)) are sit) in
      let rise = before_last 0 d.service.given x hs (subst (Rising 0 d.service.given) are sound.rising) in
      subst Apart (sym are)
      (apart_added x hs apart (each_weaker (λ (y : Hold). Sits d.service y × (y.lease < x.lease)) (λ (y : Hold). x.number ≢ y.number) (λ y h. differs y sits.1 h.0 h.1) hs (both_each (λ (y : Hold). Sits d.service y) (λ (y : Hold). y.lease < x.lease) hs sits.0 rise.0)))

module _ (d : Pool) (sound : Sound d) (apart : Apart d.holds) where
  -- each pool that sits, where it is sound
  abbrev P : PoolTurn → Type 0
  P t = Sound t.pool → AllSit t.pool → Apart t.pool.holds

  serves_by : (k : ℕ) (others : List ℕ) (o : Option pool.Loan) → lent_in (step {T = Token} d.service calls.Lease).reply ≡ o → P (pool.serves_by d k others o)
  serves_by k others None e next sits = apart
  serves_by k others (Some loan) e next sits =
      let there = lent_there d.service sound.tidy loan e in
      apart_last (pool.serves_by d k others (Some loan)).pool next sits d.holds (holding k loan.lease loan.number) refl there.seat there.there apart

  serves : (waiting : List ℕ) → P (pool.serves d waiting)
  serves [] next sits = apart
  serves (k ∷ others) next sits = serves_by k others (lent_in (step {T = Token} d.service calls.Lease).reply) refl next sits

  brings : (gives : Bool) (way : Way) (s : Service) (o : Option pool.Loan) → P (pool.brings_by d s gives way o)
  brings gives way s None next sits = apart
  brings gives way s (Some loan) next sits = apart

  does_apart : (action : pool.Action) (o : Option Hold) → P (pool.holder_does d action o)
  does_apart action None next sits = apart
  does_apart action (Some h) next sits = apart

  leaves : (key : ℕ) (gives : Bool) (way : Way) (o : Option Hold) → P (pool.leaves d key gives way o)
  leaves key gives way None next sits = apart
  leaves key gives way (Some h) next sits = apart_kept (λ (y : Hold). not (y.lease == h.lease)) d.holds apart

  renews_by : (h : Hold) (ticket : ℕ) (o : Option pool.Loan) (resumes : Bool) → lent_in (step {T = Token} (step {T = Token} d.service (calls.Keep h.lease)).service (calls.Resume ticket)).reply ≡ o → P (pool.renews_by d h ticket o resumes)
  renews_by h ticket o false e next sits = apart_kept (λ (y : Hold). not (y.number == h.number)) d.holds apart
  renews_by h ticket None true e next sits = apart_kept (λ (y : Hold). not (y.number == h.number)) d.holds apart
  renews_by h ticket (Some loan) true e next sits =
      let s = (step {T = Token} d.service (calls.Keep h.lease)).service in
      let there = resumed_there s (step_rises d.service (calls.Keep h.lease) sound.tidy).tidy ticket loan e in
      apart_last (pool.renews_by d h ticket (Some loan) true).pool next sits (without_lease h.lease d.holds) (holding h.key loan.lease loan.number) refl there.seat there.there
      (apart_kept (λ (y : Hold). not (y.lease == h.lease)) d.holds apart)

  keeps_by : (h : Hold) (resumes : Bool) (o : Option ℕ) → P (pool.keeps_by d h resumes (step {T = Token} d.service (calls.Keep h.lease)).service o)
  keeps_by h resumes None next sits = apart
  keeps_by h resumes (Some ticket) next sits =
      renews_by h ticket (lent_in (step {T = Token} (step {T = Token} d.service (calls.Keep h.lease)).service (calls.Resume ticket)).reply) resumes refl next sits

  renews : (resumes : Bool) (o : Option Hold) → P (pool.renews d resumes o)
  renews resumes None next sits = apart
  renews resumes (Some h) next sits = keeps_by h resumes (ticket_in (step {T = Token} d.service (calls.Keep h.lease)).reply) next sits

  comes : (m : ℕ) (part : Part Token) (s : Service) (way : Way) (o : Option ℕ) (hearing : Hearing) → Apart (pool.comes_by d (calls.Came m part) s m way o hearing).pool.holds
  comes m part s way o pool.Goes = apart
  comes m part s way o pool.Settled = apart
  comes m part s way o pool.Wrong = apart_kept (λ (y : Hold). not (y.number == m)) d.holds apart

  pub turn_apart : (event : Event) → P (turn d event)
  turn_apart (pool.Waits key) next sits = apart
  turn_apart (pool.Unwaits key) next sits = apart
  turn_apart pool.Serves next sits = serves d.line next sits
  turn_apart (pool.Brings gives way) next sits =
      let lent = step {T = Token} d.service calls.Lease in
      brings gives way lent.service (lent_in lent.reply) next sits
  turn_apart (pool.Does key action) next sits = does_apart action (find_key key d.holds) next sits
  turn_apart (pool.Leaves key gives way) next sits = leaves key gives way (find_key key d.holds) next sits
  turn_apart (pool.Renews key resumes) next sits = renews resumes (find_key key d.holds) next sits
  turn_apart (pool.Comes m part way) next sits =
      let heard = step {T = Token} d.service (calls.Came m part) in
      comes m part heard.service way (lease_at (seat_numbered m d.service.seats)) (pool.hearing heard.dones)
  turn_apart (pool.Loses m) next sits = apart_kept (λ (y : Hold). not (y.number == m)) d.holds apart

all_apart : (d : Pool) (events : List Event) → Sound d → AllSit d → Apart d.holds → Apart (pool_after d events).holds
all_apart d [] sound sit apart = apart
all_apart d (event ∷ events) sound sit apart =
    let next : Sound (turn d event).pool = turn_sound d event sound in
    let sits : AllSit (turn d event).pool = turn_sits d sound sit event in
    all_apart (turn d event).pool events next sits (turn_apart d sound apart event next sits)

pub apart_at : (d : Pool) → IsReached d → Apart d.holds
apart_at d r = subst (λ (e : Pool). Apart e.holds) r.2 (all_apart (new_pool r.0) r.1 (always_sound r.0 []) tt tt)

-- ---- What is found

found_by : (b k : Bool) (key : ℕ) (h x : Hold) (xs : List Hold) → (x.number == h.number) ≡ k → (if b then Some x else find_key key xs) ≡ Some h → Each (λ (y : Hold). y.number ≢ x.number) xs
    → (find_key key xs ≡ Some h → find_number h.number xs ≡ Some h) → (if k then Some x else find_number h.number xs) ≡ Some h
found_by true true key h x xs is e others later = e
found_by true false key h x xs is e others later =
    let same : x ≡ h = cc in
    let here : (x.number == h.number) ≡ true = eq-eqb x.number h.number (ap (λ (y : Hold). y.number) same) in
    absurd (let u : true ≡ false = sym here ∙ is in let v : ⊥ = cc in v)
found_by false true key h x xs is e others later = absurd (each_key (λ (y : Hold). y.number ≢ x.number) key h xs others e (sym (eqb-true x.number h.number is)))
found_by false false key h x xs is e others later = later e

-- who holds a connection is who is found by its number
pub found_number : (key : ℕ) (h : Hold) (hs : List Hold) → Apart hs → find_key key hs ≡ Some h → find_number h.number hs ≡ Some h
found_number key h [] apart e = absurd (let u : ⊥ = cc in u)
found_number key h (x ∷ xs) apart e = found_by (x.key == key) (x.number == h.number) key h x xs refl e apart.0 (λ f. found_number key h xs apart.1 f)

pub its_holder : (key : ℕ) (h : Hold) (hs : List Hold) → Apart hs → find_key key hs ≡ Some h → key_of (find_number h.number hs) ≡ Some key
its_holder key h hs apart e = ap key_of (found_number key h hs apart e) ∙ ap (λ (k : ℕ). Some k) (eqb-true h.key key (found_key key h hs e))

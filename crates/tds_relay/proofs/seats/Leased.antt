-- The connection that is lent, by its number and by its lease.
use Rattle.std.proofs.Common.{◌≡◌, ◌≢◌, ◌∙◌, ◌==◌, ◌≤◌, ℕ, suc, Bool, true, false, List, [], ◌∷◌, ◌++◌, length, Option, Some, None, is_some, refl, sym, ap, subst, arith, if◌then◌else◌}
use Rattle.std.specs.Prelude.{nat_lt}
use Rattle.tds_packet.specs.declared.status.Reset.TheVariants.{Full}
use Rattle.tds_wire.specs.declared.told.Token.{Token}
use Rattle.tds_service.specs.declared.seat.Seat as seats
use Rattle.tds_service.specs.declared.service.Service as services
use Rattle.tds_service.specs.Index.{holder_in, holder_of, holders_in, number_held}
use Rattle.tds_service.specs.Line as line
use Rattle.tds_service.specs.Line.{new_line}
use Rattle.tds_service.specs.Service as calls
use Rattle.tds_service.specs.Service.{Service, ServiceStep, Place, Leased, Cleaning, Kept, Free, Draining, Seat, drained, find_by, has_lease, has_number, holds, is_lendable, lease_at, lease_in, seat_numbered, step}
use Rattle.tds_service.specs.Table.{seat_in, seats_in, service_in}
use Rattle.tds_service.proofs.Indexing.{lease_id}
use Rattle.tds_service.proofs.Numbered.{added_here, added_other, is_found}
use Rattle.tds_service.proofs.Tests.{above}
use Rattle.tds_relay.specs.Pool as pool
use Rattle.tds_relay.specs.Pool.{lent_in}
use Rattle.tds_relay.specs.Promises.{Each}
use Rattle.tds_relay.specs.Few.{HasNumber, has_seat}
use Rattle.tds_relay.proofs.held.Sitting.{lent_sits}
use Rattle.tds_relay.proofs.held.Numbers.{lent_there}
use Rattle.tds_relay.proofs.promises.Seats.{found_meets}
use Rattle.tds_relay.proofs.promises.Tidy.{Tidy, UpTo}
use Rattle.tds_relay.proofs.seats.Counting.{does_same, unequal}

-- ---- By its number

-- It was there, or it has come; and all others that were there are.
pub record Lends (had : Bool) (number : ℕ) (s t : Service) : Type 0 where
  pub here : has_seat number t ≡ true
  pub was : had ≡ true → has_seat number s ≡ true
  pub fresh : had ≡ false → has_seat number s ≡ false
  pub others : (other : ℕ) → other ≢ number → has_seat other t ≡ has_seat other s

numbered_none : (last : ℕ) (cs : List Seat) → Each (UpTo last) cs → seat_numbered (suc last) cs ≡ None
numbered_none last [] h = refl
numbered_none last (c ∷ cs) h =
    let le : c.number ≤ last = h.0 in
    let ne : (c.number == suc last) ≡ false = above c.number (suc last) (omega arith) in
    rw ne (numbered_none last cs h.1)

module _ (s : Service) (tidy : Tidy s) where
  abbrev Lent : ServiceStep Token → Type 0
  Lent t = (lease number : ℕ) (had : Bool) → t.reply ≡ calls.Lent lease number had → Lends had number s t.service

  opened_lends : (room : Bool) → Lent (calls.opens {T = Token} s room)
  opened_lends false lease number had e = absurd (let u : ⊥ = cc in u)
  opened_lends true lease number had e =
      let c : Seat = record { number = suc s.last; place = Leased (suc s.given); line = new_line } in
      let is : suc s.last ≡ number = cc in
      let new : had ≡ false = cc in
      let none : seat_numbered (suc s.last) s.seats ≡ None = numbered_none s.last s.seats tidy.upto in
      let here : seat_numbered (suc s.last) (s.seats ++ c ∷ []) ≡ Some c = added_here c s.seats none in
      record {
        here = subst (λ (k : ℕ). has_seat k (calls.opens {T = Token} s true).service ≡ true) is (ap is_some here);
        was = λ old. absurd (let u : true ≡ false = sym old ∙ new in let v : ⊥ = cc in v);
        fresh = λ f. subst (λ (k : ℕ). has_seat k s ≡ false) is (ap is_some none);
        others = λ other ne. ap is_some (added_other other c s.seats (unequal (suc s.last) other (λ same. ne (sym same ∙ is))));
      }

  lends_by : (o : Option Seat) → find_by is_lendable s.seats ≡ o → Lent (calls.lends {T = Token} s o)
  lends_by None e lease number had f = opened_lends (nat_lt (length s.seats) s.max) lease number had f
  lends_by (Some c) e lease number had f =
      let is : c.number ≡ number = cc in
      let t = (calls.lends {T = Token} s (Some c)).service in
      let same : (n : ℕ) → has_seat n t ≡ has_seat n s = λ n. does_same s n (suc s.given) is_lendable c (Leased (suc s.given)) (line.Mark Full ∷ []) (calls.Lent (suc s.given) c.number true) in
      let found : has_seat number s ≡ true = subst (λ (k : ℕ). has_seat k s ≡ true) is (ap is_some (is_found is_lendable c s.seats tidy.distinct e)) in
      let old : had ≡ true = cc in
      record {
        here = same number ∙ found;
        was = λ o. found;
        fresh = λ f. absurd (let u : true ≡ false = sym old ∙ f in let v : ⊥ = cc in v);
        others = λ other ne. same other;
      }

  pub lease_lends : Lent (step s calls.Lease)
  lease_lends = lends_by (find_by is_lendable s.seats) refl

-- ---- By its lease

holder_if : (b : Bool) (n lease : ℕ) (x : seats.Seat) (xs : List seats.Seat) (c : Seat) → (if b then Some (seat_in x) else seat_numbered n (seats_in xs)) ≡ Some c → has_lease lease c ≡ true
    → (seat_numbered n (seats_in xs) ≡ Some c → holder_of (holders_in xs) n ≡ Some lease) → (if b then holder_in x.place else holder_of (holders_in xs) n) ≡ Some lease
holder_if true n lease x xs c e meets ih =
    let same : seat_in x ≡ c = cc in
    lease_id lease x.place (subst (λ (y : Seat). has_lease lease y ≡ true) (sym same) meets)
holder_if false n lease x xs c e meets ih = ih e

-- whoever's number has a connection that this lease holds is held by it
holder_numbered : (n lease : ℕ) (cs : List seats.Seat) (c : Seat) → seat_numbered n (seats_in cs) ≡ Some c → has_lease lease c ≡ true → holder_of (holders_in cs) n ≡ Some lease
holder_numbered n lease [] c e meets = absurd (let u : ⊥ = cc in u)
holder_numbered n lease (x ∷ xs) c e meets = holder_if (x.number == n) n lease x xs c e meets (λ f. holder_numbered n lease xs c f meets)

-- No two connections are held by one lease.
pub on_number : (s : services.Service) (lease number : ℕ) (x : Seat) → Tidy (service_in s) → seat_numbered number (service_in s).seats ≡ Some x → has_lease lease x ≡ true → HasNumber lease number (service_in s)
on_number s lease number x tidy at meets = λ c found.
    let its : seat_numbered c.number (service_in s).seats ≡ Some c = is_found (has_lease lease) c (service_in s).seats tidy.distinct found in
    let one : number_held s.index.items lease ≡ Some c.number = s.indexed.1.0.1 c.number lease (holder_numbered c.number lease s.seats.items c its (found_meets (has_lease lease) c (service_in s).seats found)) in
    let two : number_held s.index.items lease ≡ Some number = s.indexed.1.0.1 number lease (holder_numbered number lease s.seats.items x at meets) in
    let u : Some c.number ≡ Some number = sym one ∙ two in
    cc

leased_holds : (place : Place) (lease : ℕ) → place ≡ Leased lease → holds lease place ≡ true
leased_holds place lease e = subst (λ (p : Place). holds lease p ≡ true) (sym e) (let t : (lease == lease) ≡ true = grind arith in t)

-- so is one that was lent
pub lent_on : (s : Service) (new : services.Service) (lease number : ℕ) (had : Bool) → Tidy s → Tidy (service_in new) → service_in new ≡ (step {T = Token} s calls.Lease).service
    → (step {T = Token} s calls.Lease).reply ≡ calls.Lent lease number had → HasNumber lease number (service_in new)
lent_on s new lease number had tidy next is reply =
    let loan : pool.Loan = record { lease = lease; number = number } in
    let e : lent_in (step {T = Token} s calls.Lease).reply ≡ Some loan = ap lent_in reply in
    let there = lent_there s tidy loan e in
    let sits = lent_sits s tidy 0 loan e in
    let place : there.seat.place ≡ Leased lease = sits.lent there.seat there.there in
    on_number new lease number there.seat next (subst (λ (t : Service). seat_numbered number t.seats ≡ Some there.seat) (sym is) there.there) (leased_holds there.seat.place lease place)

-- ---- Of which a packet came

pub lease_drained : (place : Place) (stage : line.LineStage) (lease : ℕ) → lease_in place ≡ Some lease → holds lease (drained place stage) ≡ true
lease_drained (Leased other) stage lease e = let same : other ≡ lease = cc in subst (λ (k : ℕ). (k == lease) ≡ true) (sym same) (let t : (lease == lease) ≡ true = grind arith in t)
lease_drained (Cleaning other) stage lease e = let same : other ≡ lease = cc in subst (λ (k : ℕ). (k == lease) ≡ true) (sym same) (let t : (lease == lease) ≡ true = grind arith in t)
lease_drained (Kept ticket) stage lease e = absurd (let u : ⊥ = cc in u)
lease_drained Free stage lease e = absurd (let u : ⊥ = cc in u)
lease_drained Draining stage lease e = absurd (let u : ⊥ = cc in u)

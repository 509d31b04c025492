-- A lending that has ended, and a connection that is being cleaned.
use Rattle.std.proofs.Common.{◌≡◌, ℕ, suc, Bool, true, false, ◌<◌, ◌≤◌, List, [], ◌∷◌, Option, Some, None, refl, sym, ap, subst, ◌∙◌, cond, arith}
use Rattle.std.proofs.Math.Dec.{eqb}
use Rattle.std.proofs.Math.Nat.{le_trans, le-suc, not-suc-le_self}
use Rattle.std.proofs.lemmas.Bool.{eqb-true, eqb-false}
use Rattle.std.specs.Prelude.{◌==◌, ◌&&◌, ◌≢◌, IsSome, IsSomeAnd, IfSome, is_none, option_map}
use Rattle.tds_client.specs.Session.{ClientSession, Stage, Idle, Sending, Reading, Cancelling, Broken}
use Rattle.tds_client.specs.Sending.{cancelled}
use Rattle.tds_pool.specs.declared.answers.GivenBack.TheVariants as given
use Rattle.tds_pool.specs.declared.lease.Lease.{Lease}
use Rattle.tds_pool.specs.declared.lease.Ticket.{Ticket}
use Rattle.tds_pool.specs.declared.lease.Turn.{Turn}
use Rattle.tds_pool.specs.declared.seat.Place.{Place}
use Rattle.tds_pool.specs.declared.seat.Place.TheVariants as places
use Rattle.tds_pool.specs.Connections.{Connection, numbered, changed_in, lending_ended_at, taken_out, next_turn, same_turn}
use Rattle.tds_pool.specs.Calls.{only, lent_to, kept_for, is_leased, is_kept, is_free, is_held, is_idle, is_cleaning, is_lendable, lent_next, put_back, rested, rests_at, settled, cancels, cancelled_and_settled, session_behind, given_back, abandoned, taken_back, new_connection, cleaned, cleaned_to, looked_at_clean, rests_clean, is_clean}
use Rattle.tds_pool.specs.History.{Seen, Move, Changes, Ends, TakesOut, Opens, moved, behind, IsOver}
use Rattle.tds_pool.proofs.Others.{by_number, changed_here, changed_other, taken_other, added_other}
use Rattle.tds_pool.proofs.Taken.{gone}
use Rattle.tds_pool.proofs.Seats.{taken}
use Rattle.tds_pool.proofs.Turns.{both_hold, same_is, next_grows, next_later}

-- ---- It stays over

abbrev Later : ℕ → Option Connection → Type 0
Later turn o = IfSome o (λ c. turn < c.turn.count)

later_mapped : (turn : ℕ) (f : Connection → Connection) → ((c : Connection) → c.turn.count ≤ (f c).turn.count) → (o : Option Connection) → Later turn o → Later turn (option_map f o)
later_mapped turn f grows None h = tt
later_mapped turn f grows (Some c) h = le_trans h (grows c)

later_changed : (n m turn : ℕ) (f : Connection → Connection) (cs : List Connection) → ((c : Connection) → (f c).number ≡ c.number) → ((c : Connection) → c.turn.count ≤ (f c).turn.count)
    → Later turn (numbered m cs) → Later turn (numbered m (changed_in n f cs))
later_changed n m turn f cs keeps grows h =
    by_number _ m n
    (λ is e. subst (Later turn) (sym (ap (λ (k : ℕ). numbered k (changed_in n f cs)) is ∙ changed_here n f cs keeps ∙ ap (λ (k : ℕ). option_map f (numbered k cs)) (sym is))) (later_mapped turn f grows (numbered m cs) h))
    (λ e. subst (Later turn) (sym (changed_other n m f cs keeps (eqb-false m n e))) h)

later_taken : (n m turn : ℕ) (cs : List Connection) → Later turn (numbered m cs) → Later turn (numbered m (taken_out n cs))
later_taken n m turn cs h =
    by_number _ m n
    (λ is e. subst (Later turn) (sym (ap (λ (k : ℕ). numbered k (taken_out n cs)) is ∙ gone n cs)) tt)
    (λ e. subst (Later turn) (sym (taken_other n m cs (eqb-false m n e))) h)

used_before : (n last : ℕ) → n ≤ last → n ≢ suc last
used_before n last h e = not-suc-le_self last (rw e at h)

record WasOver (number : ℕ) (turn : Turn) (p : Seen) : Type 0 where
  used : number ≤ p.last
  over : IsOver number turn p.connections

same_count : (n : ℕ) → n ≤ n
same_count n = omega arith

stays_over_once : (number : ℕ) (turn : Turn) (move : Move) (p : Seen) → WasOver number turn p → WasOver number turn (moved move p)
stays_over_once number turn (Changes n place client) p o =
    record { used = o.used; over = later_changed n number turn.count (λ (c : Connection). record c { place = place c; client = client c }) p.connections (λ c. refl) (λ c. same_count c.turn.count) o.over }
stays_over_once number turn (Ends n place) p o =
    record { used = o.used; over = later_changed n number turn.count (λ (c : Connection). record c { place = place c; turn = next_turn c.turn }) p.connections (λ c. refl) (λ c. next_grows c.turn) o.over }
stays_over_once number turn (TakesOut n) p o = record { used = o.used; over = later_taken n number turn.count p.connections o.over }
stays_over_once number turn (Opens key size) p o = record {
  used = le_trans o.used (le-suc p.last);
  over = subst (Later turn.count) (sym (added_other (new_connection p.name (suc p.last) key size) number p.connections (used_before number p.last o.used))) o.over;
}

stays_over : (number : ℕ) (turn : Turn) (moves : List Move) (p : Seen) → WasOver number turn p → WasOver number turn (behind moves p)
stays_over number turn [] p o = o
stays_over number turn (move ∷ moves) p o = stays_over number turn moves (moved move p) (stays_over_once number turn move p o)

pub over_for_ever : (number : ℕ) (turn : Turn) (p : Seen) (moves : List Move) → number ≤ p.last → IsOver number turn p.connections → IsOver number turn (behind moves p).connections
over_for_ever number turn p moves used over = (stays_over number turn moves p (record { used = used; over = over })).over

-- ---- What is over is unknown

-- a connection that has this key and this turn, and stands where l says
abbrev Stands : (Place → Bool) → ℕ → Turn → Connection → Bool
Stands l key turn c = (c.key == key) && (same_turn c.turn turn && l c.place)

later_differs : (turn now : Turn) → turn.count < now.count → same_turn now turn ≡ false
later_differs turn now h = by (same_turn now turn) refl where
  by : (b : Bool) → same_turn now turn ≡ b → b ≡ false
  by true e = let is : now.count ≡ turn.count = ap (λ (t : Turn). t.count) (same_is now turn e) in absurd (omega (arith, h, is))
  by false e = refl

nobody : (b l : Bool) (c : Connection) → cond (b && (false && l)) (Some c) None ≡ None
nobody true l c = refl
nobody false l c = refl

over_unknown : (l : Place → Bool) (key : ℕ) (turn : Turn) (o : Option Connection) → Later turn.count o → only (Stands l key turn) o ≡ None
over_unknown l key turn None h = refl
over_unknown l key turn (Some c) h =
    ap (λ (t : Bool). cond ((c.key == key) && (t && l c.place)) (Some c) None) (later_differs turn c.turn h) ∙ nobody (c.key == key) (l c.place) c

pub lease_over : (lease : Lease) (p : Seen) (moves : List Move) → lease.number ≤ p.last → IsOver lease.number lease.turn p.connections → lent_to lease (behind moves p).connections ≡ None
lease_over lease p moves used over = over_unknown is_leased lease.key lease.turn (numbered lease.number (behind moves p).connections) (over_for_ever lease.number lease.turn p moves used over)

pub ticket_over : (ticket : Ticket) (p : Seen) (moves : List Move) → ticket.number ≤ p.last → IsOver ticket.number ticket.turn p.connections → kept_for ticket (behind moves p).connections ≡ None
ticket_over ticket p moves used over = over_unknown is_kept ticket.key ticket.turn (numbered ticket.number (behind moves p).connections) (over_for_ever ticket.number ticket.turn p moves used over)

-- ---- What gives back ends a lending

abbrev Reached : ℕ → Turn → List Connection → Type 0
Reached n turn cs = IfSome (numbered n cs) (λ c. turn.count ≤ c.turn.count)

reached_mapped : (turn : Turn) (f : Connection → Connection) → ((c : Connection) → c.turn.count ≤ (f c).turn.count) → (o : Option Connection) → IfSome o (λ c. turn.count ≤ c.turn.count) → IfSome (option_map f o) (λ c. turn.count ≤ c.turn.count)
reached_mapped turn f grows None h = tt
reached_mapped turn f grows (Some c) h = le_trans h (grows c)

ended_mapped : (turn : Turn) (place : Place) (o : Option Connection) → turn.count < 18446744073709551615 → IfSome o (λ c. turn.count ≤ c.turn.count) → Later turn.count (option_map (λ (c : Connection). record c { place = place; turn = next_turn c.turn }) o)
ended_mapped turn place None more h = tt
ended_mapped turn place (Some c) more h = next_later turn.count c.turn h more

ends_over : (n : ℕ) (turn : Turn) (place : Place) (cs : List Connection) → turn.count < 18446744073709551615 → Reached n turn cs → IsOver n turn (lending_ended_at n place cs)
ends_over n turn place cs more h = subst (Later turn.count) (sym (changed_here n (λ (c : Connection). record c { place = place; turn = next_turn c.turn }) cs (λ c. refl))) (ended_mapped turn place (numbered n cs) more h)

rested_over : (n : ℕ) (turn : Turn) (o : Option Place) (cs : List Connection) → turn.count < 18446744073709551615 → Reached n turn cs → IsOver n turn (rested n o cs).connections
rested_over n turn None cs more h = subst (Later turn.count) (sym (gone n cs)) tt
rested_over n turn (Some places.Draining) cs more h = ends_over n turn places.Draining cs more h
rested_over n turn (Some places.Leased) cs more h = ends_over n turn places.Leased cs more h
rested_over n turn (Some places.Kept) cs more h = ends_over n turn places.Kept cs more h
rested_over n turn (Some places.Free) cs more h = ends_over n turn places.Free cs more h
rested_over n turn (Some places.Cleaning) cs more h = ends_over n turn places.Cleaning cs more h

-- what is found by a number has it
pub numbered_has : (n : ℕ) (cs : List Connection) (d : Connection) → numbered n cs ≡ Some d → d.number ≡ n
numbered_has n [] d h = absurd (cc)
numbered_has n (c ∷ cs) d h = by (eqb c.number n) refl h (numbered_has n cs d) where
  seen : (o : Option Connection) → ℕ
  seen None = 0
  seen (Some x) = x.number

  by : (b : Bool) → eqb c.number n ≡ b → cond b (Some c) (numbered n cs) ≡ Some d → (numbered n cs ≡ Some d → d.number ≡ n) → d.number ≡ n
  by true e is rest = sym (ap seen is) ∙ eqb-true c.number n e
  by false e is rest = rest is

settled_over : (n : ℕ) (turn : Turn) (cs : List Connection) → turn.count < 18446744073709551615 → Reached n turn cs → IsOver n turn (settled n cs).connections
settled_over n turn cs more h = by (numbered n cs) refl where
  by : (o : Option Connection) → numbered n cs ≡ o → IsOver n turn (put_back o cs).connections
  by None is = subst (Later turn.count) (sym is) tt
  by (Some d) is = subst (λ m. IsOver n turn (rested m (rests_at d.client.stage) cs).connections) (sym (numbered_has n cs d is)) (rested_over n turn (rests_at d.client.stage) cs more h)

-- two tests in a row
first_holds : (b l : Bool) (c : Connection) → IsSome (cond (b && l) (Some c) None) → b ≡ true
first_holds true l c h = refl
first_holds false l c h = absurd (cc)

second_holds : (b l : Bool) (c : Connection) → IsSome (cond (b && l) (Some c) None) → IsSome (cond l (Some c) None)
second_holds true l c h = h
second_holds false l c h = absurd (cc)

test_holds : (b : Bool) (c : Connection) → IsSome (cond b (Some c) None) → b ≡ true
test_holds true c h = refl
test_holds false c h = absurd (cc)

stood : (l : Place → Bool) (key : ℕ) (turn : Turn) (c : Connection) → IsSome (cond (Stands l key turn c) (Some c) None) → (c.turn ≡ turn) × (l c.place ≡ true)
stood l key turn c h =
    let rest = second_holds (eqb c.key key) (same_turn c.turn turn && l c.place) c h in
    (same_is c.turn turn (first_holds (same_turn c.turn turn) (l c.place) c rest), test_holds (l c.place) c (second_holds (same_turn c.turn turn) (l c.place) c rest))

is_reached : (n : ℕ) (turn : Turn) (cs : List Connection) (c : Connection) → numbered n cs ≡ Some c → c.turn ≡ turn → Reached n turn cs
is_reached n turn cs c is e = subst (λ o. IfSome o (λ (d : Connection). turn.count ≤ d.turn.count)) (sym is) (omega (arith, ap (λ (t : Turn). t.count) e))

-- of a connection that was found by its number
cancelled_over : (n : ℕ) (turn : Turn) (cs : List Connection) (c : Connection) → turn.count < 18446744073709551615 → numbered n cs ≡ Some c → c.turn ≡ turn → IsOver n turn (cancelled_and_settled (Some c) cs).connections
cancelled_over n turn cs c more is e =
    let f : Connection → Connection = λ (d : Connection). record d { client = session_behind (cancelled c.client) c.client } in
    let number : c.number ≡ n = numbered_has n cs c is in
    let reached : Reached n turn (changed_in n f cs) = subst (λ o. IfSome o (λ (d : Connection). turn.count ≤ d.turn.count)) (sym (changed_here n f cs (λ d. refl))) (reached_mapped turn f (λ d. same_count d.turn.count) (numbered n cs) (is_reached n turn cs c is e)) in
    subst (λ m. IsOver n turn (settled m (cancels m c.client cs)).connections) (sym number) (settled_over n turn (changed_in n f cs) more reached)

pub given_over : (lease : Lease) (cs : List Connection) → IsSome (lent_to lease cs) → lease.turn.count < 18446744073709551615 → IsOver lease.number lease.turn (given_back lease cs).connections
given_over lease cs known more = by (numbered lease.number cs) refl known where
  by : (o : Option Connection) → numbered lease.number cs ≡ o → IsSome (only (Stands is_leased lease.key lease.turn) o) → IsOver lease.number lease.turn (cancelled_and_settled (only (Stands is_leased lease.key lease.turn) o) cs).connections
  by None is some = absurd (cc)
  by (Some c) is some =
      let s = stood is_leased lease.key lease.turn c some in
      subst (λ o. IsOver lease.number lease.turn (cancelled_and_settled o cs).connections)
      (sym (taken (Stands is_leased lease.key lease.turn c) (Some c) None (test_holds (Stands is_leased lease.key lease.turn c) c some)))
      (cancelled_over lease.number lease.turn cs c more is s.0)

leased_is_held : (place : Place) → is_leased place ≡ true → is_held place ≡ true
leased_is_held places.Leased h = refl
leased_is_held places.Kept h = absurd (cc)
leased_is_held places.Free h = absurd (cc)
leased_is_held places.Draining h = absurd (cc)
leased_is_held places.Cleaning h = absurd (cc)

pub taken_back_over : (lease : Lease) (cs : List Connection) → IsSome (lent_to lease cs) → lease.turn.count < 18446744073709551615 → IsOver lease.number lease.turn (taken_back lease.number cs).connections
taken_back_over lease cs known more = by (numbered lease.number cs) refl known where
  by : (o : Option Connection) → numbered lease.number cs ≡ o → IsSome (only (Stands is_leased lease.key lease.turn) o) → IsOver lease.number lease.turn (cancelled_and_settled (only (λ (c : Connection). is_held c.place) o) cs).connections
  by None is some = absurd (cc)
  by (Some c) is some =
      let s = stood is_leased lease.key lease.turn c some in
      subst (λ o. IsOver lease.number lease.turn (cancelled_and_settled o cs).connections)
      (sym (taken (is_held c.place) (Some c) None (leased_is_held c.place s.1)))
      (cancelled_over lease.number lease.turn cs c more is s.0)

kept_is_held : (place : Place) → is_kept place ≡ true → is_held place ≡ true
kept_is_held places.Kept h = refl
kept_is_held places.Leased h = absurd (cc)
kept_is_held places.Free h = absurd (cc)
kept_is_held places.Draining h = absurd (cc)
kept_is_held places.Cleaning h = absurd (cc)

pub ticket_taken_back_over : (ticket : Ticket) (cs : List Connection) → IsSome (kept_for ticket cs) → ticket.turn.count < 18446744073709551615 → IsOver ticket.number ticket.turn (taken_back ticket.number cs).connections
ticket_taken_back_over ticket cs known more = by (numbered ticket.number cs) refl known where
  by : (o : Option Connection) → numbered ticket.number cs ≡ o → IsSome (only (Stands is_kept ticket.key ticket.turn) o) → IsOver ticket.number ticket.turn (cancelled_and_settled (only (λ (c : Connection). is_held c.place) o) cs).connections
  by None is some = absurd (cc)
  by (Some c) is some =
      let s = stood is_kept ticket.key ticket.turn c some in
      subst (λ o. IsOver ticket.number ticket.turn (cancelled_and_settled o cs).connections)
      (sym (taken (is_held c.place) (Some c) None (kept_is_held c.place s.1)))
      (cancelled_over ticket.number ticket.turn cs c more is s.0)

pub abandoned_over : (ticket : Ticket) (cs : List Connection) → IsSome (kept_for ticket cs) → ticket.turn.count < 18446744073709551615 → IsOver ticket.number ticket.turn (abandoned ticket cs).connections
abandoned_over ticket cs known more = by (numbered ticket.number cs) refl known where
  by : (o : Option Connection) → numbered ticket.number cs ≡ o → IsSome (only (Stands is_kept ticket.key ticket.turn) o) → IsOver ticket.number ticket.turn (put_back (only (Stands is_kept ticket.key ticket.turn) o) cs).connections
  by None is some = absurd (cc)
  by (Some c) is some =
      let s = stood is_kept ticket.key ticket.turn c some in
      subst (λ o. IsOver ticket.number ticket.turn (put_back o cs).connections)
      (sym (taken (Stands is_kept ticket.key ticket.turn c) (Some c) None (test_holds (Stands is_kept ticket.key ticket.turn c) c some)))
      (subst (λ m. IsOver ticket.number ticket.turn (rested m (rests_at c.client.stage) cs).connections) (sym (numbered_has ticket.number cs c is)) (rested_over ticket.number ticket.turn (rests_at c.client.stage) cs more (is_reached ticket.number ticket.turn cs c is s.0)))

pub taken_out_over : (lease : Lease) (cs : List Connection) → IsOver lease.number lease.turn (taken_out lease.number cs)
taken_out_over lease cs = subst (Later lease.turn.count) (sym (gone lease.number cs)) tt

-- ---- Cleaning

not_held : (place : Place) → is_cleaning place ≡ true → (is_leased place ≡ false) × (is_kept place ≡ false)
not_held places.Leased h = absurd (cc)
not_held places.Kept h = absurd (cc)
not_held places.Free h = absurd (cc)
not_held places.Draining h = absurd (cc)
not_held places.Cleaning h = (refl, refl)

nowhere : (a b : Bool) (c : Connection) → cond (a && (b && false)) (Some c) None ≡ None
nowhere true true c = refl
nowhere true false c = refl
nowhere false b c = refl

pub elsewhere : (l : Place → Bool) (key : ℕ) (turn : Turn) (c : Connection) → l c.place ≡ false → only (Stands l key turn) (Some c) ≡ None
elsewhere l key turn c h = ap (λ (t : Bool). cond ((c.key == key) && (same_turn c.turn turn && t)) (Some c) None) h ∙ nowhere (c.key == key) (same_turn c.turn turn) c

unknown_in : (lease : Lease) (o : Option Connection) → IsSomeAnd o (λ c. is_cleaning c.place ≡ true) → only (Stands is_leased lease.key lease.turn) o ≡ None
unknown_in lease None h = refl
unknown_in lease (Some c) h = elsewhere is_leased lease.key lease.turn c (not_held c.place h).0

pub cleaning_leaseless : (lease : Lease) (cs : List Connection) → IsSomeAnd (numbered lease.number cs) (λ c. is_cleaning c.place ≡ true) → lent_to lease cs ≡ None
cleaning_leaseless lease cs h = unknown_in lease (numbered lease.number cs) h

unkept_in : (ticket : Ticket) (o : Option Connection) → IsSomeAnd o (λ c. is_cleaning c.place ≡ true) → only (Stands is_kept ticket.key ticket.turn) o ≡ None
unkept_in ticket None h = refl
unkept_in ticket (Some c) h = elsewhere is_kept ticket.key ticket.turn c (not_held c.place h).1

pub cleaning_ticketless : (ticket : Ticket) (cs : List Connection) → IsSomeAnd (numbered ticket.number cs) (λ c. is_cleaning c.place ≡ true) → kept_for ticket cs ≡ None
cleaning_ticketless ticket cs h = unkept_in ticket (numbered ticket.number cs) h

free_only : (place : Place) (b : Bool) → (is_free place && b) ≡ true → is_cleaning place ≡ false
free_only places.Leased b h = absurd (cc)
free_only places.Kept b h = absurd (cc)
free_only places.Free b h = refl
free_only places.Draining b h = absurd (cc)
free_only places.Cleaning b h = absurd (cc)

pub next_is_not_cleaning : (cs : List Connection) → IfSome (lent_next cs) (λ c. is_cleaning c.place ≡ false)
next_is_not_cleaning [] = tt
next_is_not_cleaning (c ∷ cs) = by (is_lendable c) refl (next_is_not_cleaning cs) where
  by : (b : Bool) → is_lendable c ≡ b → IfSome (lent_next cs) (λ d. is_cleaning d.place ≡ false) → IfSome (cond b (Some c) (lent_next cs)) (λ d. is_cleaning d.place ≡ false)
  by true h rest = free_only c.place (is_idle c.client.stage) h
  by false h rest = rest

-- what a look at a cleaning answers
abbrev IsClean : Connection → Type 0
IsClean c = (c.client.heard.descriptor ≡ 0) × (c.client.heard.mark ≡ None) × (is_idle c.client.stage ≡ true)

none_is : {A : Type 0} (o : Option A) → is_none o ≡ true → o ≡ None
none_is None h = refl
none_is (Some x) h = absurd (cc)

free_is_clean : (n free : ℕ) (s : ClientSession) (stage : Stage) (cs : List Connection) → (cleaned_to n (rests_clean s stage) cs).answer ≡ given.Free free → (s.heard.descriptor ≡ 0) × (s.heard.mark ≡ None) × (is_idle stage ≡ true)
free_is_clean n free s Idle cs h = by (is_clean s) refl h where
  by : (b : Bool) → is_clean s ≡ b → (cleaned_to n (cond b (Some places.Free) None) cs).answer ≡ given.Free free → (s.heard.descriptor ≡ 0) × (s.heard.mark ≡ None) × (is_idle Idle ≡ true)
  by true e is =
      let both = both_hold (is_none s.heard.mark) (eqb s.heard.descriptor 0) e in
      (eqb-true s.heard.descriptor 0 both.1, none_is s.heard.mark both.0, refl)
  by false e is = absurd (cc)
free_is_clean n free s (Sending kind left packets) cs h = absurd (cc)
free_is_clean n free s Reading cs h = absurd (cc)
free_is_clean n free s Cancelling cs h = absurd (cc)
free_is_clean n free s (Broken fault) cs h = absurd (cc)

pub cleaned_clean : (number free : ℕ) (cs : List Connection) → (cleaned number cs).answer ≡ given.Free free → IsSomeAnd (numbered number cs) IsClean
cleaned_clean number free cs h = by (numbered number cs) h where
  within : (b : Bool) (c : Connection) → (looked_at_clean (cond b (Some c) None) cs).answer ≡ given.Free free → IsClean c
  within true c is = free_is_clean c.number free c.client c.client.stage cs is
  within false c is = absurd (cc)

  by : (o : Option Connection) → (looked_at_clean (only (λ (c : Connection). is_cleaning c.place) o) cs).answer ≡ given.Free free → IsSomeAnd o IsClean
  by None is = absurd (cc)
  by (Some c) is = within (is_cleaning c.place) c is

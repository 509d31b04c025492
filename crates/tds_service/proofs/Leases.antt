-- A connection is lent by one lease at a time.
use Rattle.std.proofs.Common.{◌≡◌, ◌∙◌, ℕ, Bool, true, false, List, [], ◌∷◌, refl, sym, ap, subst, inr}
use Rattle.std.specs.Prelude.{Option, Some, if◌then◌else◌}
use Rattle.tds_service.specs.Line.{new_line}
use Rattle.tds_service.specs.Service.{Place, Leased, Cleaning, Kept, Free, Draining, Seat, new_service, Call, find_by, seat_numbered, has_lease, holds, service_after}
use Rattle.tds_service.proofs.Numbered.{is_found, same_number}
use Rattle.tds_service.proofs.Idle.{behind}

meets_by : (test : Seat → Bool) (c d : Seat) (cs : List Seat) (b : Bool) → test c ≡ b → (if b then Some c else find_by test cs) ≡ Some d
    → (find_by test cs ≡ Some d → test d ≡ true) → test d ≡ true
meets_by test c d cs true e f ih = let same : c ≡ d = cc in ap test (sym same) ∙ e
meets_by test c d cs false e f ih = ih f

pub meets : (test : Seat → Bool) (cs : List Seat) (d : Seat) → find_by test cs ≡ Some d → test d ≡ true
meets test [] d e = cc
meets test (c ∷ cs) d e = meets_by test c d cs (test c) refl e (meets test cs d)

same_lease : (a b : ℕ) (place : Place) → holds a place ≡ true → holds b place ≡ true → a ≡ b
same_lease a b (Leased lease) e f = sym (same_number lease a e) ∙ same_number lease b f
same_lease a b (Cleaning lease) e f = sym (same_number lease a e) ∙ same_number lease b f
same_lease a b (Kept ticket) e f = cc
same_lease a b Free e f = cc
same_lease a b Draining e f = cc

some_same : (c d : Seat) (x : Option Seat) → x ≡ Some c → x ≡ Some d → c ≡ d
some_same c d x e f = let g : Some c ≡ Some d = sym e ∙ f in cc

pub one_lease_each : {T : Type 0} (max a b : ℕ) (calls : List (Call T)) (c d : Seat)
    → find_by (has_lease a) (service_after (new_service max) calls).seats ≡ Some c
    → find_by (has_lease b) (service_after (new_service max) calls).seats ≡ Some d
    → c.number ≡ d.number → a ≡ b
one_lease_each max a b calls c d e f same =
    let s = service_after (new_service max) calls in
    let tidy = (behind 0 new_line (new_service max) calls (record { fresh = λ m lt. refl; unique = tt }) (inr refl)).tidy in
    let at_c : seat_numbered c.number s.seats ≡ Some c = is_found (has_lease a) c s.seats tidy.unique e in
    let at_d : seat_numbered c.number s.seats ≡ Some d =
    subst (λ (k : ℕ). seat_numbered k s.seats ≡ Some d) (sym same) (is_found (has_lease b) d s.seats tidy.unique f) in
    let one : c ≡ d = some_same c d (seat_numbered c.number s.seats) at_c at_d in
    same_lease a b c.place (meets (has_lease a) s.seats c e) (ap (has_lease b) one ∙ meets (has_lease b) s.seats d f)

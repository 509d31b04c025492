-- Where the next packet is read from, behind a change of one connection; and how many packets go out of one.
use Rattle.std.proofs.Common.{◌≡◌, ◌≢◌, ◌∙◌, ◌==◌, ◌<◌, ◌+◌, ℕ, zero, suc, Bool, true, false, List, [], ◌∷◌, ◌++◌, length, get_or, take, drop, refl, sym, ap, arith}
use Rattle.std.proofs.Math.ListN.{set}
use Rattle.std.proofs.lemmas.Bool.Decides.{nat_tests}
use Rattle.std.specs.Prelude.{Option, None, Some, if◌then◌else◌}
use Rattle.tds_client.specs.Parts.{left_of}
use Rattle.tds_wire.specs.Reading.{Parser}
use Rattle.tds_service.specs.declared.place.Rest.{Rest}
use Rattle.tds_service.specs.declared.place.Rest.TheVariants as resting
use Rattle.tds_service.specs.declared.seat.Seat as code
use Rattle.tds_service.specs.declared.service.Service as services
use Rattle.tds_service.specs.Service.{Seat, has_number}
use Rattle.tds_service.specs.Table.{met, puts_by, reading_by, seat_in, without_closed, Keeps, KeepsBy}
use Rattle.tds_service.specs.Ties.{full_in}
use Rattle.tds_service.proofs.Tables.{Here, taken_set}

-- a seat with another connection, that has the same number and parser
pub keeps_set : (n : ℕ) (d y : code.Seat) (cs : List code.Seat) (i : ℕ) → i < length cs → y.number ≡ (get_or cs i d).number
    → y.connection.parser ≡ (get_or cs i d).connection.parser → reading_by (has_number n) (set cs i y) ≡ reading_by (has_number n) cs
keeps_set n d y [] i lt number parser = absurd (omega arith)
keeps_set n d y (c ∷ cs) zero lt number parser =
    ap (λ (m : ℕ). if m == n then Some y.connection.parser else reading_by (has_number n) cs) number
    ∙ ap (λ (r : Parser). if c.number == n then Some r else reading_by (has_number n) cs) parser
keeps_set n d y (c ∷ cs) (suc i) lt number parser =
    ap (λ (x : Option Parser). if c.number == n then Some c.connection.parser else x) (keeps_set n d y cs i (omega arith) number parser)

-- one of another number
pub keeps_other : (n : ℕ) (d y : code.Seat) (cs : List code.Seat) (i : ℕ) → i < length cs → y.number ≡ (get_or cs i d).number → n ≢ (get_or cs i d).number
    → reading_by (has_number n) (set cs i y) ≡ reading_by (has_number n) cs
keeps_other n d y [] i lt number other = absurd (omega arith)
keeps_other n d y (c ∷ cs) zero lt number other =
    let e : (c.number == n) ≡ false = grind (arith, nat_tests) in
    let f : (y.number == n) ≡ false = ap (λ (m : ℕ). m == n) number ∙ e in
    rw e (rw f refl)
keeps_other n d y (c ∷ cs) (suc i) lt number other =
    ap (λ (x : Option Parser). if c.number == n then Some c.connection.parser else x) (keeps_other n d y cs i (omega arith) number other)

-- another is taken out
pub keeps_taken : (n : ℕ) (d : code.Seat) (cs : List code.Seat) (i : ℕ) → i < length cs → n ≢ (get_or cs i d).number
    → reading_by (has_number n) (take i cs ++ drop (i + 1) cs) ≡ reading_by (has_number n) cs
keeps_taken n d [] i lt other = absurd (omega arith)
keeps_taken n d (c ∷ cs) zero lt other = let e : (c.number == n) ≡ false = grind (arith, nat_tests) in rw e refl
keeps_taken n d (c ∷ cs) (suc i) lt other =
    let e : suc i + 1 ≡ suc (i + 1) = omega arith in
    ap (λ (k : ℕ). reading_by (has_number n) (take (suc i) (c ∷ cs) ++ drop k (c ∷ cs))) e
    ∙ ap (λ (x : Option Parser). if c.number == n then Some c.connection.parser else x) (keeps_taken n d cs i (omega arith) other)

-- one is added
added_by : (b : Bool) (r s : Parser) (x y : Option Parser) → (x ≡ Some r → y ≡ Some r) → (if b then Some s else x) ≡ Some r → (if b then Some s else y) ≡ Some r
added_by true r s x y f e = e
added_by false r s x y f e = f e

pub keeps_added : (test : Seat → Bool) (r : Parser) (d : code.Seat) (cs : List code.Seat) → reading_by test cs ≡ Some r → reading_by test (cs ++ d ∷ []) ≡ Some r
keeps_added test r d [] e = absurd (let u : ⊥ = cc in u)
keeps_added test r d (c ∷ cs) e = added_by (test (seat_in c)) r c.connection.parser (reading_by test cs) (reading_by test (cs ++ d ∷ [])) (keeps_added test r d cs) e

-- what is added is found where nothing was
first_none : (b : Bool) (r s : Parser) (x y : Option Parser) → (x ≡ None → y ≡ Some s) → (if b then Some r else x) ≡ None → (if b then Some r else y) ≡ Some s
first_none true r s x y f e = absurd (let u : ⊥ = cc in u)
first_none false r s x y f e = f e

pub reads_added : (test : Seat → Bool) (d : code.Seat) (cs : List code.Seat) → reading_by test cs ≡ None → test (seat_in d) ≡ true → reading_by test (cs ++ d ∷ []) ≡ Some d.connection.parser
reads_added test d [] none e = rw e refl
reads_added test d (c ∷ cs) none e =
    first_none (test (seat_in c)) c.connection.parser d.connection.parser (reading_by test cs) (reading_by test (cs ++ d ∷ [])) (λ f. reads_added test d cs f e) none

-- ---- In a service

-- where the list of connections reads alike
pub keeps_in : (old new : services.Service) (lent news : List code.Seat) → lent ≡ old.seats.items → new.seats.items ≡ news
    → ((n : ℕ) → reading_by (has_number n) news ≡ reading_by (has_number n) lent) → Keeps old new
keeps_in old new lent news was is same n r e =
    ap (reading_by (has_number n)) is ∙ (same n ∙ (ap (reading_by (has_number n)) was ∙ e))

-- one that nobody holds is taken out where it is closed
pub keeps_resting : (rest : Rest) (number : ℕ) (old new : services.Service) (test : Seat → Bool) (lent news : List code.Seat) (i : ℕ) (here : Here test old.seats.items lent i) (y : code.Seat)
    → lent ≡ old.seats.items → news ≡ set lent i y → new.seats.items ≡ without_closed rest i news → number ≡ here.seat.number
    → ((n : ℕ) → reading_by (has_number n) news ≡ reading_by (has_number n) lent) → KeepsBy rest number old new
keeps_resting resting.Free number old new test lent news i here y was changed is numbered same = keeps_in old new lent news was is same
keeps_resting resting.Draining number old new test lent news i here y was changed is numbered same = keeps_in old new lent news was is same
keeps_resting resting.Closed number old new test lent news i here y was changed is numbered same = λ n r other e.
    let items = old.seats.items in
    let news_are = changed ∙ ap (λ (cs : List code.Seat). set cs i y) was in
    ap (reading_by (has_number n)) (is ∙ ap (without_closed resting.Closed i) news_are)
    ∙ (ap (reading_by (has_number n)) (taken_set i items y here.first.within)
    ∙ (keeps_taken n here.seat items i here.first.within (λ f. other (f ∙ (ap (λ (x : code.Seat). x.number) (sym here.at) ∙ sym numbered))) ∙ e))

-- ---- Packets that go out

puts_first : (test : Seat → Bool) (d : code.Seat) (bytes : List ℕ) (cs : List code.Seat) (i : ℕ) → i < length cs → met test cs i ≡ true → ((k : ℕ) → k < i → met test cs k ≡ false)
    → puts_by test cs bytes ≡ full_in (get_or cs i d).connection.client (left_of (get_or cs i d).connection.client.stage ++ bytes)
puts_first test d bytes [] i lt here before = absurd (omega arith)
puts_first test d bytes (c ∷ cs) zero lt here before = rw here refl
puts_first test d bytes (c ∷ cs) (suc i) lt here before =
    let first : test (seat_in c) ≡ false = before 0 (omega arith) in
    rw first (puts_first test d bytes cs i (omega arith) here (λ k h. before (suc k) (omega arith)))

pub puts_here : (test : Seat → Bool) (bytes : List ℕ) (items lent : List code.Seat) (i : ℕ) (here : Here test items lent i)
    → puts_by test items bytes ≡ full_in here.seat.connection.client (left_of here.seat.connection.client.stage ++ bytes)
puts_here test bytes items lent i here =
    puts_first test here.seat bytes items i here.first.within here.first.here here.first.before
    ∙ ap (λ (x : code.Seat). full_in x.connection.client (left_of x.connection.client.stage ++ bytes)) (sym here.at)

-- Whether a reader holds bytes.
use Rattle.std.proofs.Common.{◌≡◌, ◌≢◌, ◌∙◌, ◌≤◌, ℕ, Bool, true, false, List, [], ◌∷◌, ◌++◌, length, take, ap, refl, sym, subst, Option, Some, None, is_some}
use Rattle.std.proofs.lemmas.List.{length-take-le}
use Rattle.tds_packet.specs.declared.fault.PacketFault.{PacketFault}
use Rattle.tds_packet.specs.declared.kind.Direction.{Direction}
use Rattle.tds_packet.specs.Reading.{Reading, fault_of, with_taken}
use Rattle.tds_ends.specs.AllBytes.{new_reader}
use Rattle.tds_ends.specs.Light.{TellsEmpty}
use Rattle.tds_ends.proofs.AllBytes.{no_fault_yet}

-- ---- Whether it holds bytes

-- One that held some holds some.
pub still_some : (was : Bool) (held more : List ℕ) → was ≡ false → TellsEmpty was held → TellsEmpty was (held ++ more)
still_some true held more is some = absurd (cc)
still_some false [] more is some = absurd (some refl)
still_some false (x ∷ xs) more is some = λ e. absurd (cc)

pub holds_none : (is : Bool) (bytes : List ℕ) → is ≡ true → TellsEmpty is bytes → bytes ≡ []
holds_none true bytes is tells = tells
holds_none false bytes is tells = absurd (cc)

-- It was fed a slice.
pub fed_tells : (was is : Bool) (n : ℕ) (old new slice : List ℕ) → ((held more : List ℕ) → TellsEmpty was held → length more ≡ n → TellsEmpty is (held ++ more)) → n ≤ length slice → new ≡ old ++ take n slice → TellsEmpty was old → TellsEmpty is new
fed_tells was is n old new slice still few took tells =
    subst (TellsEmpty is) (sym took) (still old (take n slice) tells (length-take-le n slice few))

-- A header that has a fault is held.
pub faulty_some : (r : Reading) (fault : PacketFault) → fault_of r r.taken ≡ Some fault → r.taken ≢ []
faulty_some r fault found empty =
    let none : fault_of r [] ≡ None = no_fault_yet r in
    let some : fault_of r [] ≡ Some fault = sym (ap (fault_of r) empty) ∙ found in
    absurd (cc)

-- One that holds none is as new.
pub as_new : (r : Reading) (direction : Direction) (size : ℕ) → r.direction ≡ direction → size ≡ r.size → r.taken ≡ [] → new_reader direction size ≡ r
as_new r direction size reads same empty =
    ap (λ (d : Direction). new_reader d size) (sym reads) ∙ ap (λ (n : ℕ). new_reader r.direction n) same
    ∙ ap (λ (xs : List ℕ). with_taken r xs) (sym empty)

-- Whether there is something.
pub is_there : {A : Type 0} → (b : Bool) (o : Option A) → b ≡ true → b ≡ is_some o → o ≢ None
is_there b None there tells e = let z : false ≡ true = sym tells ∙ there in absurd (cc)
is_there b (Some x) there tells e = absurd (cc)

pub is_absent : {A : Type 0} → (b : Bool) (o : Option A) → b ≡ false → b ≡ is_some o → o ≡ None
is_absent b None absent tells = refl
is_absent b (Some x) absent tells = let z : true ≡ false = sym tells ∙ absent in absurd (cc)

-- The index of a table's ids, as connections are opened, lent, kept, ended and taken out.
use Rattle.std.proofs.Common.{◌≡◌, ◌∙◌, ◌&&◌, ◌<◌, ◌≤◌, ◌+◌, ℕ, zero, suc, Bool, true, false, List, [], ◌∷◌, ◌++◌, length, get_or, take, drop, refl, sym, ap, subst, arith}
use Rattle.std.proofs.Math.ListN.{set}
use Rattle.std.specs.Prelude.{◌≢◌, remove, Option, Some, None, slice_index, if◌then◌else◌}
use Rattle.tds_service.specs.declared.index.Indexed.{Indexed}
use Rattle.tds_service.specs.declared.place.Holder.{Holder as Who}
use Rattle.tds_service.specs.declared.place.Holder.TheVariants as whose
use Rattle.tds_service.specs.declared.place.Place as code_place
use Rattle.tds_service.specs.declared.place.Place.TheVariants as places
use Rattle.tds_service.specs.declared.place.Rest.{Rest}
use Rattle.tds_service.specs.declared.place.Rest.TheVariants as resting
use Rattle.tds_service.specs.declared.seat.Seat as code
use Rattle.tds_service.specs.Index.{IsIndex, FindEachOther, PutsAt, AddsId, ForgetsAny, ForgetsId, holder_in, holders_in, holder_of, number_held, one_held, held_among}
use Rattle.tds_service.specs.Line.{LineStage}
use Rattle.tds_service.specs.Rising.{RiseFrom, numbers_in}
use Rattle.tds_service.specs.Service.{Place, Leased, Cleaning, Kept, Free, Draining, holds, keeps, drained, find_by, is_free, is_idle}
use Rattle.tds_service.specs.Table.{FirstMet, IsAt, met, place_of, rest_of, seat_in, seats_in, test_of, id_of, without_closed}
use Rattle.tds_service.proofs.Ids.{numbered, clash, either, none_newer, some_same, same_number}
use Rattle.tds_service.proofs.Holders.{Holder, holder_at, holder_set, holder_taken, count_set, count_taken, fewer_held}
use Rattle.tds_service.proofs.Paired.{Into, into_more, into_less, into_spare, from_spare, to_between, from_between, between}
use Rattle.tds_service.proofs.Rising.{rises, mapped}
use Rattle.tds_service.proofs.Tables.{met_at, none_met, some_at}

-- ---- Who holds one

-- as the machine's place has it
abbrev named : Place → Option ℕ
named (Leased lease) = Some lease
named (Cleaning lease) = Some lease
named (Kept ticket) = Some ticket
named Free = None
named Draining = None

same_named : (p : code_place.Place) → holder_in p ≡ named (place_of p)
same_named (places.Leased lease) = refl
same_named (places.Cleaning lease) = refl
same_named (places.Kept ticket) = refl
same_named places.Free = refl
same_named places.Draining = refl

rested_named : (b : Bool) → named (if b then Free else Draining) ≡ None
rested_named true = refl
rested_named false = refl

drained_named : (p : Place) (stage : LineStage) → named (drained p stage) ≡ named p
drained_named (Leased lease) stage = refl
drained_named (Cleaning lease) stage = refl
drained_named (Kept ticket) stage = refl
drained_named Free stage = refl
drained_named Draining stage = rested_named (is_idle stage)

-- what came changes nobody's hold
pub drained_held : (p q : code_place.Place) (stage : LineStage) → place_of q ≡ drained (place_of p) stage → holder_in q ≡ holder_in p
drained_held p q stage is = same_named q ∙ (ap named is ∙ (drained_named (place_of p) stage ∙ sym (same_named p)))

pub lease_id : (lease : ℕ) (p : code_place.Place) → holds lease (place_of p) ≡ true → holder_in p ≡ Some lease
lease_id lease (places.Leased other) e = ap Some (same_number other lease e)
lease_id lease (places.Cleaning other) e = ap Some (same_number other lease e)
lease_id lease (places.Kept ticket) e = absurd (let u : ⊥ = cc in u)
lease_id lease places.Free e = absurd (let u : ⊥ = cc in u)
lease_id lease places.Draining e = absurd (let u : ⊥ = cc in u)

pub ticket_id : (ticket : ℕ) (p : code_place.Place) → keeps ticket (place_of p) ≡ true → holder_in p ≡ Some ticket
ticket_id ticket (places.Leased other) e = absurd (let u : ⊥ = cc in u)
ticket_id ticket (places.Cleaning other) e = absurd (let u : ⊥ = cc in u)
ticket_id ticket (places.Kept other) e = ap Some (same_number other ticket e)
ticket_id ticket places.Free e = absurd (let u : ⊥ = cc in u)
ticket_id ticket places.Draining e = absurd (let u : ⊥ = cc in u)

-- one that can be lent is nobody's
pub lendable_id : (p : code_place.Place) (idle : Bool) → (is_free (place_of p) && idle) ≡ true → holder_in p ≡ None
lendable_id (places.Leased other) idle e = absurd (let u : ⊥ = cc in u)
lendable_id (places.Cleaning other) idle e = absurd (let u : ⊥ = cc in u)
lendable_id (places.Kept other) idle e = absurd (let u : ⊥ = cc in u)
lendable_id places.Free idle e = refl
lendable_id places.Draining idle e = refl

-- ---- Who holds what stands in a table

abbrev pub entry : code.Seat → Holder
entry c = (c.number, holder_in c.place)

pub holders_length : (cs : List code.Seat) → length (holders_in cs) ≡ length cs
holders_length [] = refl
holders_length (c ∷ cs) = ap suc (holders_length cs)

pub holders_numbers : (cs : List code.Seat) → numbered (holders_in cs) ≡ numbers_in cs
holders_numbers [] = refl
holders_numbers (c ∷ cs) = ap (λ (ns : List ℕ). c.number ∷ ns) (holders_numbers cs)

holders_get : (cs : List code.Seat) (d : code.Seat) (i : ℕ) → i < length cs → get_or (holders_in cs) i (entry d) ≡ entry (get_or cs i d)
holders_get [] d i lt = absurd (omega (arith, lt))
holders_get (c ∷ cs) d zero lt = refl
holders_get (c ∷ cs) d (suc i) lt = holders_get cs d i (omega (arith, lt))

holders_put : (cs : List code.Seat) (y : code.Seat) (i : ℕ) → i < length cs → holders_in (set cs i y) ≡ set (holders_in cs) i (entry y)
holders_put [] y i lt = absurd (omega (arith, lt))
holders_put (c ∷ cs) y zero lt = refl
holders_put (c ∷ cs) y (suc i) lt = ap (λ (hs : List Holder). entry c ∷ hs) (holders_put cs y i (omega (arith, lt)))

holders_taken : (cs : List code.Seat) (i : ℕ) → i < length cs → holders_in (remove cs i) ≡ remove (holders_in cs) i
holders_taken [] i lt = absurd (omega (arith, lt))
holders_taken (c ∷ cs) zero lt = refl
holders_taken (c ∷ cs) (suc i) lt = ap (λ (hs : List Holder). entry c ∷ hs) (holders_taken cs i (omega (arith, lt)))

pub holders_added : (cs : List code.Seat) (c : code.Seat) → holders_in (cs ++ c ∷ []) ≡ holders_in cs ++ entry c ∷ []
holders_added [] c = refl
holders_added (d ∷ cs) c = ap (λ (hs : List Holder). entry d ∷ hs) (holders_added cs c)

-- one that is changed, and held as it was
pub holders_set : (d y : code.Seat) (cs : List code.Seat) (i : ℕ) → i < length cs → y.number ≡ (get_or cs i d).number → holder_in y.place ≡ holder_in (get_or cs i d).place
    → holders_in (set cs i y) ≡ holders_in cs
holders_set d y [] i lt same held = absurd (omega arith)
holders_set d y (c ∷ cs) zero lt same held =
    ap (λ (n : ℕ). (n, holder_in y.place) ∷ holders_in cs) same ∙ ap (λ (o : Option ℕ). (c.number, o) ∷ holders_in cs) held
holders_set d y (c ∷ cs) (suc i) lt same held = ap (λ (hs : List Holder). entry c ∷ hs) (holders_set d y cs i (omega arith) same held)

set_length : {A : Type 0} (xs : List A) (i : ℕ) (x : A) → i < length xs → length (set xs i x) ≡ length xs
set_length [] i x lt = absurd (omega (arith, lt))
set_length (y ∷ xs) zero x lt = refl
set_length (y ∷ xs) (suc i) x lt = ap suc (set_length xs i x (omega (arith, lt)))

remove_length : {A : Type 0} (xs : List A) (i : ℕ) → i < length xs → length (remove xs i) ≤ length xs
remove_length [] i lt = absurd (omega (arith, lt))
remove_length (y ∷ xs) zero lt = omega arith
remove_length (y ∷ xs) (suc i) lt = let less : length (remove xs i) ≤ length xs = remove_length xs i (omega (arith, lt)) in omega (arith, less)

parts_removed : {A : Type 0} (xs : List A) (i : ℕ) → i < length xs → take i xs ++ drop (i + 1) xs ≡ remove xs i
parts_removed [] i lt = absurd (omega (arith, lt))
parts_removed (x ∷ xs) zero lt = refl
parts_removed {A} (x ∷ xs) (suc i) lt =
    let e : suc i + 1 ≡ suc (i + 1) = omega arith in
    ap (λ (k : ℕ). take (suc i) (x ∷ xs) ++ drop k (x ∷ xs)) e ∙ ap (λ (ys : List A). x ∷ ys) (parts_removed xs i (omega (arith, lt)))

removed_set : {A : Type 0} (xs : List A) (i : ℕ) (y : A) → i < length xs → remove (set xs i y) i ≡ remove xs i
removed_set [] i y lt = absurd (omega (arith, lt))
removed_set (x ∷ xs) zero y lt = refl
removed_set {A} (x ∷ xs) (suc i) y lt = ap (λ (ys : List A). x ∷ ys) (removed_set xs i y (omega (arith, lt)))

abbrev first : Holder → ℕ
first h = h.0

abbrev second : Holder → Option ℕ
second h = h.1

module _ (cs : List code.Seat) (top i : ℕ) (c : code.Seat) (rising : RiseFrom 0 (numbers_in cs) top) (lt : i < length cs) (is : c ≡ get_or cs i c) where
  up : RiseFrom 0 (numbered (holders_in cs)) top
  up = subst (λ (ns : List ℕ). RiseFrom 0 ns top) (sym (holders_numbers cs)) rising

  inside : i < length (holders_in cs)
  inside = subst (λ (n : ℕ). i < n) (sym (holders_length cs)) lt

  stands : get_or (holders_in cs) i (entry c) ≡ entry c
  stands = holders_get cs c i lt ∙ ap entry (sym is)

  pub holder_here : holder_of (holders_in cs) c.number ≡ holder_in c.place
  holder_here =
      ap (λ (h : Holder). holder_of (holders_in cs) (first h)) (sym stands)
      ∙ (holder_at 0 top (holders_in cs) (entry c) i up inside ∙ ap second stands)

  pub puts_here : (y : code.Seat) → y.number ≡ c.number → PutsAt (holder_of (holders_in cs)) (holder_of (holders_in (set cs i y))) c.number (holder_in y.place)
  puts_here y numbers =
      subst (λ (hs : List Holder). PutsAt (holder_of (holders_in cs)) (holder_of hs) c.number (holder_in y.place)) (sym (holders_put cs y i lt))
      (subst (λ (n : ℕ). PutsAt (holder_of (holders_in cs)) (holder_of (set (holders_in cs) i (entry y))) n (holder_in y.place)) numbers
      (holder_set top (holders_in cs) (entry c) (entry y) i up inside (numbers ∙ sym (ap first stands))))

  pub puts_gone : PutsAt (holder_of (holders_in cs)) (holder_of (holders_in (remove cs i))) c.number None
  puts_gone =
      subst (λ (hs : List Holder). PutsAt (holder_of (holders_in cs)) (holder_of hs) c.number None) (sym (holders_taken cs i lt))
      (subst (λ (h : Holder). PutsAt (holder_of (holders_in cs)) (holder_of (remove (holders_in cs) i)) (first h) None) stands
      (holder_taken top (holders_in cs) (entry c) i up inside))

  pub count_here : (y : code.Seat) → one_held (holder_in c.place) (held_among (holders_in (set cs i y))) ≡ one_held (holder_in y.place) (held_among (holders_in cs))
  count_here y =
      subst (λ (hs : List Holder). one_held (holder_in c.place) (held_among hs) ≡ one_held (holder_in y.place) (held_among (holders_in cs))) (sym (holders_put cs y i lt))
      (subst (λ (h : Holder). one_held (second h) (held_among (set (holders_in cs) i (entry y))) ≡ one_held (holder_in y.place) (held_among (holders_in cs))) stands
      (count_set (holders_in cs) (entry c) (entry y) i inside))

  pub count_gone : one_held (holder_in c.place) (held_among (holders_in (remove cs i))) ≡ held_among (holders_in cs)
  count_gone =
      subst (λ (hs : List Holder). one_held (holder_in c.place) (held_among hs) ≡ held_among (holders_in cs)) (sym (holders_taken cs i lt))
      (subst (λ (h : Holder). one_held (second h) (held_among (remove (holders_in cs) i)) ≡ held_among (holders_in cs)) stands
      (count_taken (holders_in cs) (entry c) i inside))

  pub length_here : (y : code.Seat) → length (holders_in (set cs i y)) ≡ length (holders_in cs)
  length_here y = holders_length (set cs i y) ∙ (set_length cs i y lt ∙ sym (holders_length cs))

  pub length_gone : length (holders_in (remove cs i)) ≤ length (holders_in cs)
  length_gone = subst (λ (n : ℕ). n ≤ length (holders_in cs)) (sym (holders_length (remove cs i))) (subst (λ (n : ℕ). length (remove cs i) ≤ n) (sym (holders_length cs)) (remove_length cs i lt))

  -- where nobody holds it, there is room for one id more
  pub room_here : (idx : List Indexed) (given capacity : ℕ) → IsIndex (holders_in cs) idx given capacity → holder_in c.place ≡ None → length idx < capacity
  room_here idx given capacity index free =
      let fewer : held_among (holders_in cs) < length (holders_in cs) = fewer_held (holders_in cs) (entry c) i inside (ap second stands ∙ free) in
      omega (arith, fewer, index.1.1.0, index.1.1.1)

-- ---- What is done to the index

module _ (hs new : List Holder) (idx : List Indexed) (given capacity n : ℕ) (index : IsIndex hs idx given capacity) where
  abbrev ids : Into (number_held idx) (holder_of hs)
  ids = index.1.0.0

  abbrev holds_them : Into (holder_of hs) (number_held idx)
  holds_them = index.1.0.1

  -- one that was nobody's has the newest id
  pub index_more : (id more : ℕ) (next : List Indexed) → id ≡ suc given → holder_of hs n ≡ None → PutsAt (holder_of hs) (holder_of new) n (Some id)
      → held_among new ≡ suc (held_among hs) → length new ≤ more → AddsId idx next id n → IsIndex new next id more
  index_more id more next is free puts count fits added =
      let newer : number_held idx id ≡ None = none_newer 0 (suc given) idx id index.0 (omega (arith, is)) in (
        added.rises,
        (
          (
            into_more (number_held idx) (number_held next) (holder_of hs) (holder_of new) id n ids free added.puts puts,
            into_more (holder_of hs) (holder_of new) (number_held idx) (number_held next) n id holds_them newer puts added.puts,
          ),
          (added.len ∙ (ap suc index.1.1.0 ∙ sym count), fits),
        ),
      )

  -- one goes on from an id to the newest
  pub index_moved : (was id : ℕ) (between_them next : List Indexed) → id ≡ suc given → holder_of hs n ≡ Some was → PutsAt (holder_of hs) (holder_of new) n (Some id)
      → held_among new ≡ held_among hs → length new ≤ capacity → ForgetsId idx between_them was → AddsId between_them next id n → IsIndex new next id capacity
  index_moved was id between_them next is has puts count fits forgotten added =
      let middle = between (holder_of hs) n in
      let there : number_held idx was ≡ Some n = holds_them n was has in
      let one = into_less (number_held idx) (number_held between_them) (holder_of hs) middle was n ids has forgotten.puts (to_between (holder_of hs) n) in
      let two = into_less (holder_of hs) middle (number_held idx) (number_held between_them) n was holds_them there (to_between (holder_of hs) n) forgotten.puts in
      let newer : number_held between_them id ≡ None = none_newer 0 (suc given) between_them id (forgotten.rises (suc given) index.0) (omega (arith, is)) in (
        added.rises,
        (
          (
            into_more (number_held between_them) (number_held next) middle (holder_of new) id n one (to_between (holder_of hs) n).here added.puts (from_between (holder_of hs) (holder_of new) n (Some id) puts),
            into_more middle (holder_of new) (number_held between_them) (number_held next) n id two newer (from_between (holder_of hs) (holder_of new) n (Some id) puts) added.puts,
          ),
          (added.len ∙ (forgotten.len n there ∙ (index.1.1.0 ∙ sym count)), fits),
        ),
      )

  -- one is nobody's, or is there no more
  pub index_less : (was : ℕ) (next : List Indexed) → holder_of hs n ≡ Some was → PutsAt (holder_of hs) (holder_of new) n None
      → suc (held_among new) ≡ held_among hs → length new ≤ capacity → ForgetsId idx next was → IsIndex new next given capacity
  index_less was next has puts count fits forgotten =
      let there : number_held idx was ≡ Some n = holds_them n was has in
      let len : suc (length next) ≡ suc (held_among new) = forgotten.len n there ∙ (index.1.1.0 ∙ sym count) in (
        forgotten.rises (suc given) index.0,
        (
          (
            into_less (number_held idx) (number_held next) (holder_of hs) (holder_of new) was n ids has forgotten.puts puts,
            into_less (holder_of hs) (holder_of new) (number_held idx) (number_held next) n was holds_them there puts forgotten.puts,
          ),
          (omega (arith, len), fits),
        ),
      )

  -- nobody's is there no more
  pub index_same : holder_of hs n ≡ None → PutsAt (holder_of hs) (holder_of new) n None → held_among new ≡ held_among hs → length new ≤ capacity → IsIndex new idx given capacity
  index_same free puts count fits = (
    index.0,
    (
      (into_spare (number_held idx) (holder_of hs) (holder_of new) n ids free puts, from_spare (number_held idx) (holder_of hs) (holder_of new) n holds_them puts),
      (index.1.1.0 ∙ sym count, fits),
    ),
  )

-- ---- A table's

module _ (cs out : List code.Seat) (top i : ℕ) (c y : code.Seat) (idx : List Indexed) (given capacity : ℕ) (rising : RiseFrom 0 (numbers_in cs) top) (lt : i < length cs) (is : c ≡ get_or cs i c)
    (index : IsIndex (holders_in cs) idx given capacity) (numbers : y.number ≡ c.number) where
  abbrev fits_here : length (holders_in (set cs i y)) ≤ capacity
  fits_here = subst (λ (n : ℕ). n ≤ capacity) (sym (length_here cs top i c rising lt is y)) index.1.1.1

  pub index_lent : (id : ℕ) (next : List Indexed) → out ≡ set cs i y → id ≡ given + 1 → holder_in c.place ≡ None → holder_in y.place ≡ Some id → AddsId idx next id c.number
      → IsIndex (holders_in out) next id capacity
  index_lent id next changed newest free held added =
      let n : id ≡ suc given = omega (arith, newest) in
      let count : held_among (holders_in (set cs i y)) ≡ suc (held_among (holders_in cs)) =
      ap (λ (o : Option ℕ). one_held o (held_among (holders_in (set cs i y)))) (sym free) ∙ (count_here cs top i c rising lt is y ∙ ap (λ (o : Option ℕ). one_held o (held_among (holders_in cs))) held) in
      subst (λ (xs : List code.Seat). IsIndex (holders_in xs) next id capacity) (sym changed)
      (index_more (holders_in cs) (holders_in (set cs i y)) idx given capacity c.number index id capacity next n (holder_here cs top i c rising lt is ∙ free)
      (subst (λ (o : Option ℕ). PutsAt (holder_of (holders_in cs)) (holder_of (holders_in (set cs i y))) c.number o) held (puts_here cs top i c rising lt is y numbers)) count fits_here added)

  pub index_goes_on : (was id : ℕ) (between_them next : List Indexed) → out ≡ set cs i y → id ≡ given + 1 → holder_in c.place ≡ Some was → holder_in y.place ≡ Some id
      → ForgetsId idx between_them was → AddsId between_them next id c.number → IsIndex (holders_in out) next id capacity
  index_goes_on was id between_them next changed newest had held forgotten added =
      let n : id ≡ suc given = omega (arith, newest) in
      let count : suc (held_among (holders_in (set cs i y))) ≡ suc (held_among (holders_in cs)) =
      ap (λ (o : Option ℕ). one_held o (held_among (holders_in (set cs i y)))) (sym had) ∙ (count_here cs top i c rising lt is y ∙ ap (λ (o : Option ℕ). one_held o (held_among (holders_in cs))) held) in
      subst (λ (xs : List code.Seat). IsIndex (holders_in xs) next id capacity) (sym changed)
      (index_moved (holders_in cs) (holders_in (set cs i y)) idx given capacity c.number index was id between_them next n (holder_here cs top i c rising lt is ∙ had)
      (subst (λ (o : Option ℕ). PutsAt (holder_of (holders_in cs)) (holder_of (holders_in (set cs i y))) c.number o) held (puts_here cs top i c rising lt is y numbers)) (omega (arith, count)) fits_here forgotten added)

  index_ended : (was : ℕ) (next : List Indexed) → holder_in c.place ≡ Some was → holder_in y.place ≡ None → ForgetsId idx next was → IsIndex (holders_in (set cs i y)) next given capacity
  index_ended was next had free forgotten =
      let count : suc (held_among (holders_in (set cs i y))) ≡ held_among (holders_in cs) =
      ap (λ (o : Option ℕ). one_held o (held_among (holders_in (set cs i y)))) (sym had) ∙ (count_here cs top i c rising lt is y ∙ ap (λ (o : Option ℕ). one_held o (held_among (holders_in cs))) free) in
      index_less (holders_in cs) (holders_in (set cs i y)) idx given capacity c.number index was next (holder_here cs top i c rising lt is ∙ had)
      (subst (λ (o : Option ℕ). PutsAt (holder_of (holders_in cs)) (holder_of (holders_in (set cs i y))) c.number o) free (puts_here cs top i c rising lt is y numbers)) count fits_here forgotten

  abbrev fits_gone : length (holders_in (remove cs i)) ≤ capacity
  fits_gone = let less : length (holders_in (remove cs i)) ≤ length (holders_in cs) = length_gone cs top i c rising lt is in omega (arith, less, index.1.1.1)

  index_gone : (was : ℕ) (next : List Indexed) → holder_in c.place ≡ Some was → ForgetsId idx next was → IsIndex (holders_in (remove cs i)) next given capacity
  index_gone was next had forgotten =
      let count : suc (held_among (holders_in (remove cs i))) ≡ held_among (holders_in cs) =
      ap (λ (o : Option ℕ). one_held o (held_among (holders_in (remove cs i)))) (sym had) ∙ count_gone cs top i c rising lt is in
      index_less (holders_in cs) (holders_in (remove cs i)) idx given capacity c.number index was next (holder_here cs top i c rising lt is ∙ had) (puts_gone cs top i c rising lt is) count fits_gone forgotten

  -- nobody holds it, and it is taken out if it is to be closed
  pub index_rests : (rest : Rest) (was : ℕ) (next : List Indexed) → out ≡ without_closed rest i (set cs i y) → holder_in c.place ≡ Some was → IsAt (rest_of rest) y.place → ForgetsId idx next was
      → IsIndex (holders_in out) next given capacity
  index_rests resting.Free was next closed had at forgotten =
      subst (λ (xs : List code.Seat). IsIndex (holders_in xs) next given capacity) (sym closed) (index_ended was next had (same_named y.place ∙ ap named at) forgotten)
  index_rests resting.Draining was next closed had at forgotten =
      subst (λ (xs : List code.Seat). IsIndex (holders_in xs) next given capacity) (sym closed) (index_ended was next had (same_named y.place ∙ ap named at) forgotten)
  index_rests resting.Closed was next closed had at forgotten =
      let lent : i < length (set cs i y) = subst (λ (n : ℕ). i < n) (sym (set_length cs i y lt)) lt in
      subst (λ (xs : List code.Seat). IsIndex (holders_in xs) next given capacity) (sym (closed ∙ (parts_removed (set cs i y) i lent ∙ removed_set cs i y lt))) (index_gone was next had forgotten)

module _ (cs out : List code.Seat) (top i : ℕ) (c : code.Seat) (idx : List Indexed) (given capacity : ℕ) (rising : RiseFrom 0 (numbers_in cs) top) (lt : i < length cs) (is : c ≡ get_or cs i c)
    (index : IsIndex (holders_in cs) idx given capacity) where
  -- it is lost, whoever had it
  pub index_lost : (who : Option ℕ) (next : List Indexed) → out ≡ remove cs i → holder_in c.place ≡ who → ForgetsAny idx next who → IsIndex (holders_in out) next given capacity
  index_lost (Some was) next changed had forgotten =
      subst (λ (xs : List code.Seat). IsIndex (holders_in xs) next given capacity) (sym changed) (index_gone cs out top i c c idx given capacity rising lt is index refl was next had forgotten)
  index_lost None next changed free same =
      let less : length (holders_in (remove cs i)) ≤ length (holders_in cs) = length_gone cs top i c rising lt is in
      let count : held_among (holders_in (remove cs i)) ≡ held_among (holders_in cs) =
      ap (λ (o : Option ℕ). one_held o (held_among (holders_in (remove cs i)))) (sym free) ∙ count_gone cs top i c rising lt is in
      subst (λ (xs : List code.Seat). IsIndex (holders_in xs) next given capacity) (sym changed)
      (subst (λ (es : List Indexed). IsIndex (holders_in (remove cs i)) es given capacity) (sym same)
      (index_same (holders_in cs) (holders_in (remove cs i)) idx given capacity c.number index (holder_here cs top i c rising lt is ∙ free) (puts_gone cs top i c rising lt is) count (omega (arith, less, index.1.1.1))))

-- ---- Finding by an id

pub number_at : (cs : List code.Seat) (d : code.Seat) (k : ℕ) → k < length cs → slice_index (numbers_in cs) k ≡ (get_or cs k d).number
number_at [] d k lt = absurd (omega (arith, lt))
number_at (c ∷ cs) d zero lt = refl
number_at (c ∷ cs) d (suc k) lt = number_at cs d k (omega (arith, lt))

by_test : (b : Bool) → (b ≡ true → ⊥) → b ≡ false
by_test true never = absurd (never refl)
by_test false never = refl

-- numbers that rise are each at one place
below_it : (cs : List code.Seat) (top : ℕ) → RiseFrom 0 (numbers_in cs) top → (j k : ℕ) → j < k → k < length cs → slice_index (numbers_in cs) j < slice_index (numbers_in cs) k
below_it cs top rising j k lt inside = rises 0 (numbers_in cs) top rising j k lt (subst (λ (n : ℕ). k < n) (sym (mapped cs)) inside)

apart : (j k : ℕ) → (j < k → j ≡ k) → (k < j → j ≡ k) → j ≡ k
apart zero zero below above = refl
apart zero (suc k) below above = below (omega arith)
apart (suc j) zero below above = above (omega arith)
apart (suc j) (suc k) below above = ap suc (apart j k
    (λ lt. let e : suc j ≡ suc k = below (omega (arith, lt)) in omega (arith, e))
    (λ lt. let e : suc j ≡ suc k = above (omega (arith, lt)) in omega (arith, e)))

same_place : (cs : List code.Seat) (top : ℕ) → RiseFrom 0 (numbers_in cs) top → (j k : ℕ) → j < length cs → k < length cs → slice_index (numbers_in cs) j ≡ slice_index (numbers_in cs) k → j ≡ k
same_place cs top rising j k left right same =
    apart j k (λ lt. let less : slice_index (numbers_in cs) j < slice_index (numbers_in cs) k = below_it cs top rising j k lt right in absurd (omega (arith, less, same)))
    (λ lt. let less : slice_index (numbers_in cs) k < slice_index (numbers_in cs) j = below_it cs top rising k j lt left in absurd (omega (arith, less, same)))

module _ (cs : List code.Seat) (top : ℕ) (idx : List Indexed) (rising : RiseFrom 0 (numbers_in cs) top) (finds : FindEachOther (holders_in cs) idx) (who : Who) where
  who_id : (w : Who) (c : code.Seat) → test_of w (seat_in c) ≡ true → holder_in c.place ≡ Some (id_of w)
  who_id (whose.Lease lease) c e = lease_id lease c.place e
  who_id (whose.Ticket ticket) c e = ticket_id ticket c.place e

  -- the index has the number of each that this one holds
  pub its_number : (k : ℕ) → k < length cs → met (test_of who) cs k ≡ true → number_held idx (id_of who) ≡ Some (slice_index (numbers_in cs) k)
  its_number k lt e =
      let c = some_at cs k lt in
      let here : test_of who (seat_in c.0) ≡ true = ap (λ (x : code.Seat). test_of who (seat_in x)) c.1 ∙ (sym (met_at (test_of who) c.0 cs k lt) ∙ e) in
      finds.1 c.0.number (id_of who) (holder_here cs top k c.0 rising lt c.1 ∙ who_id who c.0 here)
      ∙ ap Some (ap (λ (x : code.Seat). x.number) c.1 ∙ sym (number_at cs c.0 k lt))

  not_met : (k : ℕ) → k < length cs → (number_held idx (id_of who) ≡ Some (slice_index (numbers_in cs) k) → ⊥) → met (test_of who) cs k ≡ false
  not_met k lt never = by_test (met (test_of who) cs k) (λ e. never (its_number k lt e))

  -- an id that isn't there holds nothing, nor one whose number isn't
  pub none_held : number_held idx (id_of who) ≡ None → find_by (test_of who) (seats_in cs) ≡ None
  none_held absent = none_met (test_of who) cs (λ k lt. not_met k lt (λ e. clash (number_held idx (id_of who)) (slice_index (numbers_in cs) k) absent e))

  pub none_numbered : (n : ℕ) → number_held idx (id_of who) ≡ Some n → ((k : ℕ) → k < length cs → slice_index (numbers_in cs) k ≢ n) → find_by (test_of who) (seats_in cs) ≡ None
  none_numbered n there absent = none_met (test_of who) cs (λ k lt. not_met k lt (λ e. absent k lt (sym (some_same n (slice_index (numbers_in cs) k) (sym there ∙ e)))))

  module _ (n i : ℕ) (there : number_held idx (id_of who) ≡ Some n) (lt : i < length cs) (is : slice_index (numbers_in cs) i ≡ n) where
    -- no other has its number
    elsewhere : (k : ℕ) → k < length cs → k ≢ i → met (test_of who) cs k ≡ false
    elsewhere k inside ne = not_met k inside (λ e. ne (same_place cs top rising k i inside lt (sym (some_same n (slice_index (numbers_in cs) k) (sym there ∙ e)) ∙ sym is)))

    pub first_held : met (test_of who) cs i ≡ true → FirstMet (test_of who) cs i
    first_held e = record {
      within = lt;
      here = e;
      before = λ k less. elsewhere k (omega (arith, less, lt)) (λ s. absurd (omega (arith, less, s)));
    }

    pub none_other : met (test_of who) cs i ≡ false → find_by (test_of who) (seats_in cs) ≡ None
    none_other not = none_met (test_of who) cs (λ k inside. either k i (met (test_of who) cs k ≡ false) (λ s. ap (met (test_of who) cs) s ∙ not) (λ ne. elsewhere k inside ne))

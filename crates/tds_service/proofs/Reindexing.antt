-- The index of a service, behind what was done to one connection.
use Rattle.std.proofs.Common.{◌≡◌, ◌∙◌, ◌<◌, ◌≤◌, ◌+◌, ℕ, suc, Bool, List, [], ◌∷◌, ◌++◌, length, get_or, sym, ap, subst, arith}
use Rattle.std.proofs.Math.ListN.{set}
use Rattle.std.specs.Prelude.{Option, Some, None, remove, vec_capacity}
use Rattle.std.specs.Vec.{with_items}
use Rattle.tds_service.specs.declared.index.Indexed.{Indexed}
use Rattle.tds_service.specs.declared.place.Rest.{Rest}
use Rattle.tds_service.specs.declared.seat.Seat as code
use Rattle.tds_service.specs.declared.service.Service as services
use Rattle.tds_service.specs.Index.{IsIndex, AddsId, ForgetsAny, ForgetsId, GoesOnAs, PutsAt, holder_in, holder_of, held_among, one_held, holders_in, number_held, ids_in}
use Rattle.tds_service.specs.Rising.{RiseFrom, numbers_in}
use Rattle.tds_service.specs.Service.{Seat}
use Rattle.tds_service.specs.Table.{IsAt, rest_of, without_closed}
use Rattle.tds_service.proofs.Holders.{Holder, few_held, none_new, holder_added, count_added}
use Rattle.tds_service.proofs.Ids.{numbered, one_longer}
use Rattle.tds_service.proofs.Indexing.{entry, holders_length, holders_numbers, holders_added, holder_here, room_here, index_more, index_lent, index_goes_on, index_rests, index_lost}
use Rattle.tds_service.proofs.Reached.{Reached}

-- the newest id is above all
pub newest_of : (s : services.Service) (id : ℕ) → id ≡ s.given + 1 → RiseFrom 0 (ids_in s.index.items) id
newest_of s id is = let n : suc s.given ≡ id = omega (arith, is) in subst (RiseFrom 0 (ids_in s.index.items)) n s.indexed.0

-- there is room for as many ids as there are
pub room_of : (s : services.Service) → length s.index.items ≤ vec_capacity s.index
room_of s =
    let few : held_among (holders_in s.seats.items) ≤ length (holders_in s.seats.items) = few_held (holders_in s.seats.items) in
    omega (arith, few, s.indexed.1.1.0, s.indexed.1.1.1)

-- and no more than connections
pub few_ids : (s : services.Service) → length s.index.items ≤ length s.seats.items
few_ids s =
    let few : held_among (holders_in s.seats.items) ≤ length (holders_in s.seats.items) = few_held (holders_in s.seats.items) in
    omega (arith, few, s.indexed.1.1.0, holders_length s.seats.items)

-- one that is new stands behind the others
pub opened_index : (s : services.Service) (new : code.Seat) (out : List code.Seat) (id capacity : ℕ) (idx next : List Indexed) → out ≡ s.seats.items ++ new ∷ [] → new.number ≡ suc s.last
    → holder_in new.place ≡ Some id → id ≡ s.given + 1 → suc (length s.seats.items) ≤ capacity → idx ≡ s.index.items → AddsId idx next id new.number → IsIndex (holders_in out) next id capacity
opened_index s new out id capacity idx next is numbers held newest room same added =
    let hs = holders_in s.seats.items in
    let n : id ≡ suc s.given = omega (arith, newest) in
    let up : RiseFrom 0 (numbered hs) (suc s.last) = subst (λ (ns : List ℕ). RiseFrom 0 ns (suc s.last)) (sym (holders_numbers s.seats.items)) s.rising in
    let behind : suc s.last ≤ new.number = omega (arith, numbers) in
    let fits : length (hs ++ entry new ∷ []) ≤ capacity = omega (arith, one_longer hs (entry new), holders_length s.seats.items, room) in
    subst (λ (xs : List Holder). IsIndex xs next id capacity) (sym (ap holders_in is ∙ holders_added s.seats.items new))
    (index_more hs (hs ++ entry new ∷ []) s.index.items s.given (vec_capacity s.index) new.number s.indexed id capacity next n (none_new 0 (suc s.last) hs new.number up behind)
    (subst (λ (o : Option ℕ). PutsAt (holder_of hs) (holder_of (hs ++ entry new ∷ [])) new.number o) held (holder_added (suc s.last) hs (entry new) up behind))
    (count_added hs (entry new) ∙ ap (λ (o : Option ℕ). one_held o (held_among hs)) held) fits (subst (λ (xs : List Indexed). AddsId xs next id new.number) same added))

-- one that is lost is there no more
pub lost_index : (s : services.Service) (out : List code.Seat) (i : ℕ) (c : code.Seat) (who : Option ℕ) (capacity : ℕ) (next : List Indexed) → i < length s.seats.items → c ≡ get_or s.seats.items i c
    → out ≡ remove s.seats.items i → who ≡ holder_in c.place → ForgetsAny s.index.items next who → capacity ≡ vec_capacity s.index → IsIndex (holders_in out) next s.given capacity
lost_index s out i c who capacity next lt at is holds forgotten same =
    subst (λ (n : ℕ). IsIndex (holders_in out) next s.given n) (sym same)
    (index_lost s.seats.items out (suc s.last) i c s.index.items s.given (vec_capacity s.index) s.rising lt at s.indexed who next is (sym holds) forgotten)

module _ {test : Seat → Bool} {old : services.Service} {lent news : List code.Seat} {index : ℕ} (at : Reached test old lent news index) where
  abbrev there : code.Seat
  there = at.here.seat

  -- who holds it is in the index
  pub found_id : (was number : ℕ) → holder_in there.place ≡ Some was → number ≡ there.number → number_held old.index.items was ≡ Some number
  found_id was number had is =
      old.indexed.1.0.1 there.number was (holder_here old.seats.items (suc old.last) index there old.rising at.here.first.within at.here.at ∙ had) ∙ ap Some (sym is)

  pub room_there : holder_in there.place ≡ None → length old.index.items < vec_capacity old.index
  room_there free =
      room_here old.seats.items (suc old.last) index there old.rising at.here.first.within at.here.at old.index.items old.given (vec_capacity old.index) old.indexed free

  changed_there : (y : code.Seat) → news ≡ set lent index y → news ≡ set old.seats.items index y
  changed_there y changed = changed ∙ ap (λ (cs : List code.Seat). set cs index y) at.same

  -- nobody had it, and this one has it
  pub lent_index : (y : code.Seat) (id number capacity : ℕ) (next : List Indexed) → news ≡ set lent index y → y.number ≡ there.number → holder_in there.place ≡ None → holder_in y.place ≡ Some id
      → id ≡ old.given + 1 → number ≡ there.number → AddsId old.index.items next id number → capacity ≡ vec_capacity old.index
      → IsIndex (holders_in (with_items old.seats news).items) next id capacity
  lent_index y id number capacity next changed numbers free held newest is added same =
      subst (λ (n : ℕ). IsIndex (holders_in (with_items old.seats news).items) next id n) (sym same)
      (index_lent old.seats.items (with_items old.seats news).items (suc old.last) index there y old.index.items old.given (vec_capacity old.index) old.rising at.here.first.within at.here.at old.indexed numbers
      id next (at.are ∙ changed_there y changed) newest free held (subst (AddsId old.index.items next id) is added))

  -- one had it, and this one has it now
  pub gone_on_index : (y : code.Seat) (was id number capacity : ℕ) (next : List Indexed) → news ≡ set lent index y → y.number ≡ there.number → holder_in there.place ≡ Some was → holder_in y.place ≡ Some id
      → id ≡ old.given + 1 → number ≡ there.number → GoesOnAs old.index.items next was id number → capacity ≡ vec_capacity old.index
      → IsIndex (holders_in (with_items old.seats news).items) next id capacity
  gone_on_index y was id number capacity next changed numbers had held newest is goes same =
      subst (λ (n : ℕ). IsIndex (holders_in (with_items old.seats news).items) next id n) (sym same)
      (index_goes_on old.seats.items (with_items old.seats news).items (suc old.last) index there y old.index.items old.given (vec_capacity old.index) old.rising at.here.first.within at.here.at old.indexed numbers
      was id goes.0 next (at.are ∙ changed_there y changed) newest had held goes.1 (subst (AddsId goes.0 next id) is goes.2))

  -- nobody has it any more, and it is taken out if it is to be closed
  pub rested_index : (y : code.Seat) (rest : Rest) (out : List code.Seat) (was capacity : ℕ) (next : List Indexed) → news ≡ set lent index y → out ≡ without_closed rest index (with_items old.seats news).items
      → y.number ≡ there.number → holder_in there.place ≡ Some was → IsAt (rest_of rest) y.place → ForgetsId old.index.items next was → capacity ≡ vec_capacity old.index
      → IsIndex (holders_in out) next old.given capacity
  rested_index y rest out was capacity next changed closed numbers had placed forgotten same =
      subst (λ (n : ℕ). IsIndex (holders_in out) next old.given n) (sym same)
      (index_rests old.seats.items out (suc old.last) index there y old.index.items old.given (vec_capacity old.index) old.rising at.here.first.within at.here.at old.indexed numbers
      rest was next (closed ∙ ap (without_closed rest index) (at.are ∙ changed_there y changed)) had placed forgotten)

  -- the numbers still rise
  pub rising_there : numbers_in news ≡ numbers_in lent → RiseFrom 0 (numbers_in (with_items old.seats news).items) (suc old.last)
  rising_there same = subst (λ (ns : List ℕ). RiseFrom 0 ns (suc old.last)) (sym (ap numbers_in at.are ∙ (same ∙ ap numbers_in at.same))) old.rising

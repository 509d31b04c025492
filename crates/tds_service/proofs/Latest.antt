-- What is known of a table without a look through it: at the place that was found last, and where each is held.
use Rattle.std.proofs.Common.{◌≡◌, ◌≤◌, ◌<◌, ℕ, Bool, true, false, List, [], ◌∷◌, suc, length, refl, ap, arith}
use Rattle.std.specs.Prelude.{Option, Some, None, slice_index}
use Rattle.tds_service.specs.declared.index.Indexed.{Indexed}
use Rattle.tds_service.specs.declared.place.Holder.{Holder as Who}
use Rattle.tds_service.specs.declared.seat.Seat as code
use Rattle.tds_service.specs.Index.{FindEachOther, held_among, holder_in, holders_in, one_held}
use Rattle.tds_service.specs.Rising.{RiseFrom, numbers_in}
use Rattle.tds_service.specs.Service.{find_by, is_idle, is_lendable}
use Rattle.tds_service.specs.Table.{FirstMet, met, seat_in, seats_in, test_of}
use Rattle.tds_service.specs.Ties.{line_in}
use Rattle.tds_service.proofs.Holders.{few_held}
use Rattle.tds_service.proofs.Indexing.{first_held, holders_length, its_number, lendable_id}

-- whichever place is looked at: what this one holds there is the first that it holds
pub held_first : (cs : List code.Seat) (top : ℕ) (idx : List Indexed) → RiseFrom 0 (numbers_in cs) top → FindEachOther (holders_in cs) idx → (who : Who) (i : ℕ)
    → i < length cs → met (test_of who) cs i ≡ true → FirstMet (test_of who) cs i
held_first cs top idx rising finds who i lt e =
    first_held cs top idx rising finds who (slice_index (numbers_in cs) i) i (its_number cs top idx rising finds who i lt e) lt refl e

by_test : (b : Bool) → (b ≡ true → ⊥) → b ≡ false
by_test true never = absurd (never refl)
by_test false never = refl

one_more : (o : Option ℕ) (n : ℕ) → one_held o n ≤ suc n
one_more None n = omega arith
one_more (Some id) n = omega arith

-- where each is held, none can be lent
pub all_held : (cs : List code.Seat) → length cs ≤ held_among (holders_in cs) → find_by is_lendable (seats_in cs) ≡ None
all_held [] all = refl
all_held (c ∷ cs) all =
    let count = held_among (holders_in cs) in
    let few : count ≤ length (holders_in cs) = few_held (holders_in cs) in
    let not : is_lendable (seat_in c) ≡ false =
    by_test (is_lendable (seat_in c)) (λ e.
    let same : one_held (holder_in c.place) count ≡ count = ap (λ (o : Option ℕ). one_held o count) (lendable_id c.place (is_idle (line_in c.connection).stage) e) in
    absurd (omega (arith, all, same, few, holders_length cs))) in
    let more : one_held (holder_in c.place) count ≤ suc count = one_more (holder_in c.place) count in
    rw not (all_held cs (omega (arith, all, more)))

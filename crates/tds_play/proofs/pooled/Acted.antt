-- An event at the ends of one connection of a play: what the play keeps where the pool's connection of that
-- number alone changes.
use Rattle.std.proofs.Common.{◌≡◌, ◌∙◌, inl, inr, ℕ, suc, ◌+◌, Bool, true, false, List, Option, Some, None, refl, sym, ap, subst, arith}
use Rattle.std.specs.List.{slice_get}
use Rattle.std.specs.Prelude.{IsSome, slice_set}
use Rattle.tds_pool.specs.Calls.{all_numbers, is_held}
use Rattle.tds_pool.specs.Connections.{Connection, PoolState, SameRest, connections, numbered, taken_out}
use Rattle.tds_pool.specs.declared.lease.Lease.{Lease}
use Rattle.tds_pool.specs.declared.lease.Ticket.{Ticket}
use Rattle.tds_pool.specs.declared.seat.Place.TheVariants.{Kept, Leased}
use Rattle.tds_play.specs.Pooled.{AreKnown, ArePooled, ChangesOne, IsThere, StaysAs, holder_at, lease_stamp, seat_in, seated_from, seated_in, ticket_stamp}
use Rattle.tds_play.specs.declared.seat.Held.{Held}
use Rattle.tds_play.proofs.pooled.Kept.{known_lost, known_unheld, pooled_cut, pooled_link, pooled_lost_by, pooled_pool, pooled_there}
use Rattle.tds_play.proofs.pooled.Known.{of_same}
use Rattle.tds_play.proofs.pooled.Numbers.{IsIn}
use Rattle.tds_play.proofs.pooled.Seated.{seated_set}
use Rattle.tds_play.proofs.pooled.Slots.{HeldBut, held_set, holder_is, holder_set}

-- ---- It is in the pool where it isn't cut

pub there_at : {E S : Type 0} (max size place : ℕ) (hs : List (Held E S)) (h : Held E S) (p : PoolState) → ArePooled max size hs p → slice_get hs place ≡ Some h → h.link.number ≡ suc place → IsThere h p
there_at {E} {S} max size place hs h p pooled at number = record { is_in = is_in; is_out = is_out }
  where
    some : (n : ℕ) → IsIn n (connections p) → IsSome (numbered n (connections p))
    some n it = subst (λ (o : Option Connection). IsSome o) (sym it.there) refl

    is_in : h.link.is_cut ≡ false → IsSome (numbered h.link.number (connections p))
    is_in lives = subst (λ (n : ℕ). IsSome (numbered n (connections p))) (sym number) (some (suc place) (pooled_there max size place hs h p pooled at lives))

    is_out : h.link.is_cut ≡ true → numbered h.link.number (connections p) ≡ None
    is_out cut = ap (λ (n : ℕ). numbered n (connections p)) number ∙ pooled_cut max size place hs h p pooled at cut

-- ---- Its seat, and those of the others

pub acted_seats : {E S : Type 0} (place : ℕ) (cut : Bool) (hs : List (Held E S)) (new : Held E S) (p q : PoolState) → new.link.number ≡ suc place → ChangesOne (suc place) cut p q → seated_from 1 (slice_set hs place new) (connections q) ≡ slice_set (seated_from 1 hs (connections p)) place (record { link = new.link; seat = seat_in new q })
acted_seats place cut hs new p q number changes =
    let one : 1 + place ≡ suc place = omega arith in
    seated_set 1 place hs new (connections p) (connections q) (λ m other. changes.others m (λ is. other (is ∙ sym one)))
    ∙ ap (λ (n : ℕ). slice_set (seated_from 1 hs (connections p)) place (seated_in new (numbered n (connections q)))) (one ∙ sym number)

-- ---- What the pool has

-- Its numbers are as they were where the link isn't cut, and else it is taken out.
pub pooled_by : {E S : Type 0} (max size place : ℕ) (hs : List (Held E S)) (old new : Held E S) (p q : PoolState) → ArePooled max size hs p → slice_get hs place ≡ Some old → (old.link.is_cut ≡ true → new.link.is_cut ≡ true) → (new.link.is_cut ≡ false → all_numbers (connections q) ≡ all_numbers (connections p)) → (new.link.is_cut ≡ true → all_numbers (connections q) ≡ all_numbers (taken_out (suc place) (connections p))) → SameRest p q → ArePooled max size (slice_set hs place new) q
pooled_by {E} {S} max size place hs old new p q pooled at stays live gone rest = by_cut new.link.is_cut refl old.link.is_cut refl
  where
    by_cut : (b : Bool) → new.link.is_cut ≡ b → (before : Bool) → old.link.is_cut ≡ before → ArePooled max size (slice_set hs place new) q
    by_cut true cut before was = pooled_lost_by max size place hs new p q pooled (gone cut) rest cut
    by_cut false lives true was = let bad : true ≡ false = sym (stays was) ∙ lives in absurd (cc)
    by_cut false lives false was =
        pooled_link max size place hs old new q (pooled_pool max size hs p q pooled (live lives) rest) at (lives ∙ sym was)

pub acted_pooled : {E S : Type 0} (max size place : ℕ) (hs : List (Held E S)) (old new : Held E S) (p q : PoolState) → ArePooled max size hs p → slice_get hs place ≡ Some old → (old.link.is_cut ≡ true → new.link.is_cut ≡ true) → ChangesOne (suc place) new.link.is_cut p q → ArePooled max size (slice_set hs place new) q
acted_pooled max size place hs old new p q pooled at stays changes =
    pooled_by max size place hs old new p q pooled at stays changes.live (λ cut. ap all_numbers (changes.gone cut)) changes.rest

-- ---- What leases and tickets stand for

pub acted_known : {E S : Type 0} (max size place : ℕ) (leases : List (Option Lease)) (tickets : List (Option Ticket)) (hs : List (Held E S)) (old new : Held E S) (p q : PoolState) → ArePooled max size hs p → AreKnown leases tickets hs (connections p) → slice_get hs place ≡ Some old → new.holder ≡ old.holder → (old.link.is_cut ≡ true → new.link.is_cut ≡ true) → ChangesOne (suc place) new.link.is_cut p q → AreKnown leases tickets (slice_set hs place new) (connections q)
acted_known {E} {S} max size place leases tickets hs old new p q pooled known at holder stays changes = by_cut new.link.is_cut refl old.link.is_cut refl
  where
    held : HeldBut (suc place) hs (slice_set hs place new)
    held = held_set hs place new

    same_holder : holder_at (slice_set hs place new) (suc place) ≡ holder_at hs (suc place)
    same_holder = holder_set hs place old new at ∙ ap Some holder ∙ sym (holder_is hs place old at)

    by_place : (c d : Connection) → numbered (suc place) (connections p) ≡ Some c → numbered (suc place) (connections q) ≡ Some d → StaysAs c d → AreKnown leases tickets (slice_set hs place new) (connections q)
    by_place c d before now (inl (stamp, same)) = record {
      leases_are = of_same Leased lease_stamp (λ (l : Lease). l.number) leases (suc place) hs (slice_set hs place new) (connections p) (connections q) c d known.leases_are changes.others held before now stamp same same_holder;
      tickets_are = of_same Kept ticket_stamp (λ (t : Ticket). t.number) tickets (suc place) hs (slice_set hs place new) (connections p) (connections q) c d known.tickets_are changes.others held before now stamp same same_holder;
    }
    by_place c d before now (inr unheld) =
        known_unheld leases tickets (suc place) hs (slice_set hs place new) (connections p) (connections q) c known changes.others held before
        (λ lent. let bad : false ≡ true = sym unheld ∙ ap is_held lent in absurd (cc))
        (λ kept. let bad : false ≡ true = sym unheld ∙ ap is_held kept in absurd (cc))

    by_cut : (b : Bool) → new.link.is_cut ≡ b → (before : Bool) → old.link.is_cut ≡ before → AreKnown leases tickets (slice_set hs place new) (connections q)
    by_cut true cut before was =
        subst (AreKnown leases tickets (slice_set hs place new)) (sym (changes.gone cut))
        (known_lost leases tickets (suc place) hs (slice_set hs place new) (connections p) known held)
    by_cut false lives true was = let bad : true ≡ false = sym (stays was) ∙ lives in absurd (cc)
    by_cut false lives false was =
        let it : IsIn (suc place) (connections p) = pooled_there max size place hs old p pooled at was in
        let then : IsIn (suc place) (connections q) = pooled_there max size place hs old q (pooled_pool max size hs p q pooled (changes.live lives) changes.rest) at was in
        by_place it.connection then.connection it.there then.there (changes.stays it.connection then.connection it.there then.there)

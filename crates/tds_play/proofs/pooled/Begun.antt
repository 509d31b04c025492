-- A lease or ticket that ends, and one that begins, on the connection at a place of a play.
use Rattle.std.proofs.Common.{◌≡◌, ◌∙◌, ℕ, suc, ◌<◌, ◌≤◌, Bool, true, false, List, [], ◌∷◌, ◌++◌, length, Option, Some, None, refl, sym, ap, subst, arith}
use Rattle.std.proofs.lemmas.Option.{slice_get_within}
use Rattle.std.specs.List.{slice_get}
use Rattle.std.specs.Prelude.{slice_set}
use Rattle.tds_pool.specs.Connections.{Connection, PoolState, connections, numbered}
use Rattle.tds_pool.specs.declared.lease.Lease.{Lease}
use Rattle.tds_pool.specs.declared.lease.Ticket.{Ticket}
use Rattle.tds_pool.specs.declared.seat.Place.TheVariants.{Kept, Leased}
use Rattle.tds_play.specs.Pooled.{AreKnown, ArePooled, holder_at, lease_stamp, stamp_of, ticket_stamp}
use Rattle.tds_play.specs.declared.seat.Held.{Held}
use Rattle.tds_play.proofs.pooled.Changes.{SameBut}
use Rattle.tds_play.proofs.pooled.Kept.{known_kept, known_lease_ended, known_lease_over, known_leased, known_ticket_ended, known_ticket_over, pooled_there}
use Rattle.tds_play.proofs.pooled.Known.{of_begun, of_gone}
use Rattle.tds_play.proofs.pooled.Numbers.{IsIn}
use Rattle.tds_play.proofs.pooled.Slots.{HeldBut, held_set, holder_is}

-- ---- One that ends

-- A connection that is in the pool no longer is nobody's.
pub known_still : {E S : Type 0} (leases : List (Option Lease)) (tickets : List (Option Ticket)) (n : ℕ) (hs new : List (Held E S)) (pcs then : List Connection) → AreKnown leases tickets hs pcs → SameBut n pcs then → HeldBut n hs new → numbered n then ≡ None → AreKnown leases tickets new then
known_still leases tickets n hs new pcs then known others held gone = record {
  leases_are = of_gone Leased lease_stamp (λ (l : Lease). l.number) leases n hs new pcs then known.leases_are others held gone;
  tickets_are = of_gone Kept ticket_stamp (λ (t : Ticket). t.number) tickets n hs new pcs then known.tickets_are others held gone;
}

pub lease_ended : {E S : Type 0} (max size place j : ℕ) (leases : List (Option Lease)) (tickets : List (Option Ticket)) (lease : Lease) (hs : List (Held E S)) (old new : Held E S) (p : PoolState) (then : List Connection) → ArePooled max size hs p → AreKnown leases tickets hs (connections p) → slice_get leases j ≡ Some (Some lease) → lease.number ≡ suc place → slice_get hs place ≡ Some old → SameBut (suc place) (connections p) then → (old.link.is_cut ≡ true → numbered (suc place) then ≡ None) → AreKnown (slice_set leases j None) tickets (slice_set hs place new) then
lease_ended {E} {S} max size place j leases tickets lease hs old new p then pooled known had number at others gone = by_cut old.link.is_cut refl
  where
    by_cut : (b : Bool) → old.link.is_cut ≡ b → AreKnown (slice_set leases j None) tickets (slice_set hs place new) then
    by_cut true cut =
        known_still (slice_set leases j None) tickets (suc place) hs (slice_set hs place new) (connections p) then
        (known_lease_over leases tickets j hs (connections p) known) others (held_set hs place new) (gone cut)
    by_cut false lives =
        let it : IsIn (suc place) (connections p) = pooled_there max size place hs old p pooled at lives in
        known_lease_ended leases tickets j lease hs (slice_set hs place new) (connections p) then it.connection known had
        (ap (λ (n : ℕ). numbered n (connections p)) number ∙ it.there)
        (subst (λ (n : ℕ). SameBut n (connections p) then) (sym number) others)
        (subst (λ (n : ℕ). HeldBut n hs (slice_set hs place new)) (sym number) (held_set hs place new))

pub ticket_ended : {E S : Type 0} (max size place j : ℕ) (leases : List (Option Lease)) (tickets : List (Option Ticket)) (ticket : Ticket) (hs : List (Held E S)) (old new : Held E S) (p : PoolState) (then : List Connection) → ArePooled max size hs p → AreKnown leases tickets hs (connections p) → slice_get tickets j ≡ Some (Some ticket) → ticket.number ≡ suc place → slice_get hs place ≡ Some old → SameBut (suc place) (connections p) then → (old.link.is_cut ≡ true → numbered (suc place) then ≡ None) → AreKnown leases (slice_set tickets j None) (slice_set hs place new) then
ticket_ended {E} {S} max size place j leases tickets ticket hs old new p then pooled known had number at others gone = by_cut old.link.is_cut refl
  where
    by_cut : (b : Bool) → old.link.is_cut ≡ b → AreKnown leases (slice_set tickets j None) (slice_set hs place new) then
    by_cut true cut =
        known_still leases (slice_set tickets j None) (suc place) hs (slice_set hs place new) (connections p) then
        (known_ticket_over leases tickets j hs (connections p) known) others (held_set hs place new) (gone cut)
    by_cut false lives =
        let it : IsIn (suc place) (connections p) = pooled_there max size place hs old p pooled at lives in
        known_ticket_ended leases tickets j ticket hs (slice_set hs place new) (connections p) then it.connection known had
        (ap (λ (n : ℕ). numbered n (connections p)) number ∙ it.there)
        (subst (λ (n : ℕ). SameBut n (connections p) then) (sym number) others)
        (subst (λ (n : ℕ). HeldBut n hs (slice_set hs place new)) (sym number) (held_set hs place new))

-- ---- One that begins

above : (place n : ℕ) → n ≡ suc place → 0 < n
above place n is = omega (arith, is)

within_is : (place n count : ℕ) → n ≡ suc place → place < count → n ≤ count
within_is place n count is within = omega (arith, is, within)

pub lease_begun : {E S : Type 0} (place : ℕ) (leases : List (Option Lease)) (tickets : List (Option Ticket)) (lease : Lease) (hs : List (Held E S)) (h : Held E S) (pcs : List Connection) (c : Connection) → AreKnown leases tickets hs pcs → slice_get hs place ≡ Some h → h.holder ≡ suc (length leases) → lease.number ≡ suc place → numbered (suc place) pcs ≡ Some c → stamp_of c ≡ lease_stamp lease → c.place ≡ Leased → AreKnown (leases ++ Some lease ∷ []) tickets hs pcs
lease_begun place leases tickets lease hs h pcs c known at holder number there stamp stands =
    known_leased leases tickets lease hs pcs c known (above place lease.number number)
    (within_is place lease.number (length hs) number (slice_get_within hs place h at))
    (ap (λ (n : ℕ). numbered n pcs) number ∙ there) stamp stands
    (ap (holder_at hs) number ∙ holder_is hs place h at ∙ ap Some holder)

pub ticket_begun : {E S : Type 0} (place : ℕ) (leases : List (Option Lease)) (tickets : List (Option Ticket)) (ticket : Ticket) (hs : List (Held E S)) (h : Held E S) (pcs : List Connection) (c : Connection) → AreKnown leases tickets hs pcs → slice_get hs place ≡ Some h → h.holder ≡ suc (length tickets) → ticket.number ≡ suc place → numbered (suc place) pcs ≡ Some c → stamp_of c ≡ ticket_stamp ticket → c.place ≡ Kept → AreKnown leases (tickets ++ Some ticket ∷ []) hs pcs
ticket_begun place leases tickets ticket hs h pcs c known at holder number there stamp stands =
    known_kept leases tickets ticket hs pcs c known (above place ticket.number number)
    (within_is place ticket.number (length hs) number (slice_get_within hs place h at))
    (ap (λ (n : ℕ). numbered n pcs) number ∙ there) stamp stands
    (ap (holder_at hs) number ∙ holder_is hs place h at ∙ ap Some holder)

-- Its connection was lost at once.
pub lease_begun_lost : {E S : Type 0} (place : ℕ) (leases : List (Option Lease)) (tickets : List (Option Ticket)) (lease : Lease) (hs : List (Held E S)) (h : Held E S) (pcs : List Connection) → AreKnown leases tickets hs pcs → slice_get hs place ≡ Some h → lease.number ≡ suc place → numbered (suc place) pcs ≡ None → AreKnown (leases ++ Some lease ∷ []) tickets hs pcs
lease_begun_lost {E} {S} place leases tickets lease hs h pcs known at number gone = record {
  leases_are = of_begun Leased lease_stamp (λ (l : Lease). l.number) leases lease hs pcs known.leases_are (record {
    first = above place lease.number number;
    last = within_is place lease.number (length hs) number (slice_get_within hs place h at);
    stands = λ c there. absurd (none c there);
    holds = λ c there. absurd (none c there);
  });
  tickets_are = known.tickets_are;
}
  where
    none : (c : Connection) → numbered lease.number pcs ≡ Some c → ⊥
    none c there = let bad : None ≡ Some c = sym gone ∙ ap (λ (n : ℕ). numbered n pcs) (sym number) ∙ there in cc

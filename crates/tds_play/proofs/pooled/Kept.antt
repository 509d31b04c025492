-- What a play keeps at each change of its pool: the numbers of what isn't cut, and what leases and tickets
-- stand for.
use Rattle.std.proofs.Common.{◌≡◌, ◌≢◌, ◌∙◌, ℕ, suc, ◌+◌, ◌<◌, ◌≤◌, true, false, List, [], ◌∷◌, ◌++◌, length, Option, Some, None, refl, sym, ap, subst, arith}
use Rattle.std.proofs.lemmas.Option.{slice_get_within}
use Rattle.std.specs.List.{slice_get}
use Rattle.std.specs.Prelude.{option_map, slice_set}
use Rattle.tds_pool.specs.Calls.{all_numbers}
use Rattle.tds_pool.specs.Connections.{Connection, PoolState, SameRest, changed_in, connections, numbered, taken_out}
use Rattle.tds_pool.specs.declared.lease.Lease.{Lease}
use Rattle.tds_pool.specs.declared.lease.Ticket.{Ticket}
use Rattle.tds_pool.specs.declared.seat.Place.TheVariants.{Kept, Leased}
use Rattle.tds_play.specs.Pooled.{AreKnown, ArePooled, holder_at, lease_stamp, numbers_in, stamp_of, ticket_stamp}
use Rattle.tds_play.specs.declared.seat.Held.{Held}
use Rattle.tds_play.proofs.pooled.Changes.{KeepsNumber, SameBut, added_numbers, changed_here, changed_others, taken_added, taken_gone, taken_others}
use Rattle.tds_play.proofs.pooled.Known.{known_new, of_begun, of_elsewhere, of_emptied, of_ended, of_filled, of_gone, of_room, of_same, of_unknown}
use Rattle.tds_play.proofs.pooled.Numbers.{IsIn, IsOfPlay, in_pool, not_in_pool, numbers_more, numbers_more_cut, numbers_set, numbers_taken, of_play}
use Rattle.tds_play.proofs.pooled.Slots.{HeldBut, length_set, many_more}

-- ---- What isn't cut is in the pool

one_more : (place : ℕ) → 1 + place ≡ suc place
one_more place = omega arith

pub pooled_there : {E S : Type 0} (max size place : ℕ) (hs : List (Held E S)) (h : Held E S) (p : PoolState) → ArePooled max size hs p → slice_get hs place ≡ Some h → h.link.is_cut ≡ false → IsIn (suc place) (connections p)
pooled_there max size place hs h p all at lives = subst (λ (n : ℕ). IsIn n (connections p)) (one_more place) (in_pool 1 place hs h (connections p) all.numbers at lives)

pub pooled_cut : {E S : Type 0} (max size place : ℕ) (hs : List (Held E S)) (h : Held E S) (p : PoolState) → ArePooled max size hs p → slice_get hs place ≡ Some h → h.link.is_cut ≡ true → numbered (suc place) (connections p) ≡ None
pooled_cut max size place hs h p all at cut = ap (λ (n : ℕ). numbered n (connections p)) (sym (one_more place)) ∙ not_in_pool 1 place hs h (connections p) all.numbers at cut

pub pooled_at : {E S : Type 0} (max size n : ℕ) (hs : List (Held E S)) (p : PoolState) (c : Connection) → ArePooled max size hs p → numbered n (connections p) ≡ Some c → IsOfPlay 1 n hs
pooled_at max size n hs p c all at = of_play 1 n hs (connections p) c all.numbers at

-- The next number is nobody's.
pub pooled_next : {E S : Type 0} (max size : ℕ) (hs : List (Held E S)) (p : PoolState) → ArePooled max size hs p → numbered (suc (length hs)) (connections p) ≡ None
pooled_next {E} {S} max size hs p all = by_found (numbered (suc (length hs)) (connections p)) refl
  where
    by_found : (o : Option Connection) → numbered (suc (length hs)) (connections p) ≡ o → o ≡ None
    by_found None e = refl
    by_found (Some c) e =
        let it : IsOfPlay 1 (suc (length hs)) hs = pooled_at max size (suc (length hs)) hs p c all e in
        let within : it.place < length hs = slice_get_within hs it.place it.held it.there in
        let at = it.at in
        let bad : ⊥ = omega (arith, within, at) in absurd bad

-- ---- The numbers at each change

pub pooled_pool : {E S : Type 0} (max size : ℕ) (hs : List (Held E S)) (p q : PoolState) → ArePooled max size hs p → all_numbers (connections q) ≡ all_numbers (connections p) → SameRest p q → ArePooled max size hs q
pooled_pool max size hs p q all same rest = record {
  numbers = same ∙ all.numbers;
  last = rest.last ∙ all.last;
  max_is = rest.max ∙ all.max_is;
  size_is = rest.size ∙ all.size_is;
}

pub pooled_link : {E S : Type 0} (max size place : ℕ) (hs : List (Held E S)) (old new : Held E S) (p : PoolState) → ArePooled max size hs p → slice_get hs place ≡ Some old → new.link.is_cut ≡ old.link.is_cut → ArePooled max size (slice_set hs place new) p
pooled_link max size place hs old new p all at same = record {
  numbers = all.numbers ∙ sym (numbers_set 1 place hs old new at same);
  last = all.last ∙ sym (length_set hs place new);
  max_is = all.max_is;
  size_is = all.size_is;
}

-- One is taken out, and its link is cut.
pub pooled_lost_by : {E S : Type 0} (max size place : ℕ) (hs : List (Held E S)) (new : Held E S) (p q : PoolState) → ArePooled max size hs p → all_numbers (connections q) ≡ all_numbers (taken_out (suc place) (connections p)) → SameRest p q → new.link.is_cut ≡ true → ArePooled max size (slice_set hs place new) q
pooled_lost_by max size place hs new p q all out rest cut = record {
  numbers = out ∙ ap (λ (n : ℕ). all_numbers (taken_out n (connections p))) (sym (one_more place)) ∙ numbers_taken 1 place hs new (connections p) all.numbers cut;
  last = rest.last ∙ all.last ∙ sym (length_set hs place new);
  max_is = rest.max ∙ all.max_is;
  size_is = rest.size ∙ all.size_is;
}

pub pooled_lost : {E S : Type 0} (max size place : ℕ) (hs : List (Held E S)) (new : Held E S) (p q : PoolState) → ArePooled max size hs p → connections q ≡ taken_out (suc place) (connections p) → SameRest p q → new.link.is_cut ≡ true → ArePooled max size (slice_set hs place new) q
pooled_lost max size place hs new p q all out rest cut = pooled_lost_by max size place hs new p q all (ap all_numbers out) rest cut

-- A new one comes behind all.
pub pooled_more : {E S : Type 0} (max size : ℕ) (hs : List (Held E S)) (h : Held E S) (c : Connection) (p q : PoolState) → ArePooled max size hs p → connections q ≡ connections p ++ c ∷ [] → c.number ≡ suc p.last → q.last ≡ suc p.last → q.max ≡ p.max → q.size ≡ p.size → h.link.is_cut ≡ false → ArePooled max size (hs ++ h ∷ []) q
pooled_more max size hs h c p q all added number last max_same size_same lives =
    let next : suc (length hs) ≡ 1 + length hs = omega arith in
    record {
      numbers =
          ap all_numbers added ∙ added_numbers c (connections p)
          ∙ ap (λ (ns : List ℕ). ns ++ c.number ∷ []) all.numbers
          ∙ ap (λ (n : ℕ). numbers_in 1 hs ++ n ∷ []) (number ∙ ap suc all.last ∙ next)
          ∙ sym (numbers_more 1 hs h lives);
      last = last ∙ ap suc all.last ∙ sym (many_more hs h);
      max_is = max_same ∙ all.max_is;
      size_is = size_same ∙ all.size_is;
    }

-- It came, and was lost at once.
pub pooled_more_lost : {E S : Type 0} (max size : ℕ) (hs : List (Held E S)) (h : Held E S) (c : Connection) (p q : PoolState) → ArePooled max size hs p → connections q ≡ taken_out c.number (connections p ++ c ∷ []) → c.number ≡ suc p.last → q.last ≡ suc p.last → q.max ≡ p.max → q.size ≡ p.size → h.link.is_cut ≡ true → ArePooled max size (hs ++ h ∷ []) q
pooled_more_lost max size hs h c p q all out number last max_same size_same cut =
    let none : numbered c.number (connections p) ≡ None = ap (λ (n : ℕ). numbered n (connections p)) (number ∙ ap suc all.last) ∙ pooled_next max size hs p all in
    record {
      numbers = ap all_numbers (out ∙ taken_added c (connections p) none) ∙ all.numbers ∙ sym (numbers_more_cut 1 hs h cut);
      last = last ∙ ap suc all.last ∙ sym (many_more hs h);
      max_is = max_same ∙ all.max_is;
      size_is = size_same ∙ all.size_is;
    }

-- ---- What leases and tickets stand for

-- A connection changes, but not its key, its turn, its place or its holder. It may be in the pool no longer.
pub known_changed : {E S : Type 0} (leases : List (Option Lease)) (tickets : List (Option Ticket)) (n : ℕ) (f : Connection → Connection) (hs new : List (Held E S)) (pcs : List Connection) → AreKnown leases tickets hs pcs → KeepsNumber f → ((c : Connection) → stamp_of (f c) ≡ stamp_of c) → ((c : Connection) → (f c).place ≡ c.place) → HeldBut n hs new → holder_at new n ≡ holder_at hs n → AreKnown leases tickets new (changed_in n f pcs)
known_changed {E} {S} leases tickets n f hs new pcs known number stamp place held holder = by_found (numbered n pcs) refl
  where
    others : SameBut n pcs (changed_in n f pcs)
    others = changed_others n f pcs number

    by_found : (o : Option Connection) → numbered n pcs ≡ o → AreKnown leases tickets new (changed_in n f pcs)
    by_found None e =
        let gone : numbered n (changed_in n f pcs) ≡ None = changed_here n f pcs number ∙ ap (option_map f) e in
        record {
          leases_are = of_gone Leased lease_stamp (λ (l : Lease). l.number) leases n hs new pcs (changed_in n f pcs) known.leases_are others held gone;
          tickets_are = of_gone Kept ticket_stamp (λ (t : Ticket). t.number) tickets n hs new pcs (changed_in n f pcs) known.tickets_are others held gone;
        }
    by_found (Some c) e =
        let now : numbered n (changed_in n f pcs) ≡ Some (f c) = changed_here n f pcs number ∙ ap (option_map f) e in
        record {
          leases_are = of_same Leased lease_stamp (λ (l : Lease). l.number) leases n hs new pcs (changed_in n f pcs) c (f c) known.leases_are others held e now (stamp c) (place c) holder;
          tickets_are = of_same Kept ticket_stamp (λ (t : Ticket). t.number) tickets n hs new pcs (changed_in n f pcs) c (f c) known.tickets_are others held e now (stamp c) (place c) holder;
        }

-- A link changes, and its holder not.
pub known_link : {E S : Type 0} (leases : List (Option Lease)) (tickets : List (Option Ticket)) (n : ℕ) (hs new : List (Held E S)) (pcs : List Connection) → AreKnown leases tickets hs pcs → HeldBut n hs new → holder_at new n ≡ holder_at hs n → AreKnown leases tickets new pcs
known_link {E} {S} leases tickets n hs new pcs known held holder = by_found (numbered n pcs) refl
  where
    by_found : (o : Option Connection) → numbered n pcs ≡ o → AreKnown leases tickets new pcs
    by_found None e = record {
      leases_are = of_gone Leased lease_stamp (λ (l : Lease). l.number) leases n hs new pcs pcs known.leases_are (λ m other. refl) held e;
      tickets_are = of_gone Kept ticket_stamp (λ (t : Ticket). t.number) tickets n hs new pcs pcs known.tickets_are (λ m other. refl) held e;
    }
    by_found (Some c) e = record {
      leases_are = of_same Leased lease_stamp (λ (l : Lease). l.number) leases n hs new pcs pcs c c known.leases_are (λ m other. refl) held e e refl refl holder;
      tickets_are = of_same Kept ticket_stamp (λ (t : Ticket). t.number) tickets n hs new pcs pcs c c known.tickets_are (λ m other. refl) held e e refl refl holder;
    }

-- A connection is taken out.
pub known_lost : {E S : Type 0} (leases : List (Option Lease)) (tickets : List (Option Ticket)) (n : ℕ) (hs new : List (Held E S)) (pcs : List Connection) → AreKnown leases tickets hs pcs → HeldBut n hs new → AreKnown leases tickets new (taken_out n pcs)
known_lost leases tickets n hs new pcs known held = record {
  leases_are = of_gone Leased lease_stamp (λ (l : Lease). l.number) leases n hs new pcs (taken_out n pcs) known.leases_are (taken_others n pcs) held (taken_gone n pcs);
  tickets_are = of_gone Kept ticket_stamp (λ (t : Ticket). t.number) tickets n hs new pcs (taken_out n pcs) known.tickets_are (taken_others n pcs) held (taken_gone n pcs);
}

-- A connection that is free, or drains, changes as it may: nobody holds it.
pub known_unheld : {E S : Type 0} (leases : List (Option Lease)) (tickets : List (Option Ticket)) (n : ℕ) (hs new : List (Held E S)) (pcs then : List Connection) (c : Connection) → AreKnown leases tickets hs pcs → SameBut n pcs then → HeldBut n hs new → numbered n pcs ≡ Some c → c.place ≢ Leased → c.place ≢ Kept → AreKnown leases tickets new then
known_unheld leases tickets n hs new pcs then c known others held there lent kept = record {
  leases_are = of_elsewhere Leased lease_stamp (λ (l : Lease). l.number) leases n hs new pcs then c known.leases_are others held there lent;
  tickets_are = of_elsewhere Kept ticket_stamp (λ (t : Ticket). t.number) tickets n hs new pcs then c known.tickets_are others held there kept;
}

-- A connection comes that the play didn't have.
pub known_more : {E S : Type 0} (leases : List (Option Lease)) (tickets : List (Option Ticket)) (n : ℕ) (hs new : List (Held E S)) (pcs then : List Connection) → AreKnown leases tickets hs pcs → SameBut n pcs then → HeldBut n hs new → length hs < n → AreKnown leases tickets new then
known_more leases tickets n hs new pcs then known others held far = record {
  leases_are = of_unknown Leased lease_stamp (λ (l : Lease). l.number) leases n hs new pcs then known.leases_are others held far;
  tickets_are = of_unknown Kept ticket_stamp (λ (t : Ticket). t.number) tickets n hs new pcs then known.tickets_are others held far;
}

-- An empty slot comes behind all.
pub known_lease_room : {E S : Type 0} (leases : List (Option Lease)) (tickets : List (Option Ticket)) (hs : List (Held E S)) (pcs : List Connection) → AreKnown leases tickets hs pcs → AreKnown (leases ++ None ∷ []) tickets hs pcs
known_lease_room leases tickets hs pcs known = record {
  leases_are = of_room Leased lease_stamp (λ (l : Lease). l.number) leases hs pcs known.leases_are;
  tickets_are = known.tickets_are;
}

pub known_ticket_room : {E S : Type 0} (leases : List (Option Lease)) (tickets : List (Option Ticket)) (hs : List (Held E S)) (pcs : List Connection) → AreKnown leases tickets hs pcs → AreKnown leases (tickets ++ None ∷ []) hs pcs
known_ticket_room leases tickets hs pcs known = record {
  leases_are = known.leases_are;
  tickets_are = of_room Kept ticket_stamp (λ (t : Ticket). t.number) tickets hs pcs known.tickets_are;
}

-- A lease begins in a slot behind all, or in one that is there.
pub known_leased : {E S : Type 0} (leases : List (Option Lease)) (tickets : List (Option Ticket)) (lease : Lease) (hs : List (Held E S)) (pcs : List Connection) (c : Connection) → AreKnown leases tickets hs pcs → 0 < lease.number → lease.number ≤ length hs → numbered lease.number pcs ≡ Some c → stamp_of c ≡ lease_stamp lease → c.place ≡ Leased → holder_at hs lease.number ≡ Some (suc (length leases)) → AreKnown (leases ++ Some lease ∷ []) tickets hs pcs
known_leased leases tickets lease hs pcs c known first last there stamp place holder = record {
  leases_are = of_begun Leased lease_stamp (λ (l : Lease). l.number) leases lease hs pcs known.leases_are (known_new Leased (suc (length leases)) (lease_stamp lease) lease.number hs pcs c first last there stamp place holder);
  tickets_are = known.tickets_are;
}

pub known_leased_at : {E S : Type 0} (leases : List (Option Lease)) (tickets : List (Option Ticket)) (j : ℕ) (lease : Lease) (hs : List (Held E S)) (pcs : List Connection) (c : Connection) → AreKnown leases tickets hs pcs → 0 < lease.number → lease.number ≤ length hs → numbered lease.number pcs ≡ Some c → stamp_of c ≡ lease_stamp lease → c.place ≡ Leased → holder_at hs lease.number ≡ Some (suc j) → AreKnown (slice_set leases j (Some lease)) tickets hs pcs
known_leased_at leases tickets j lease hs pcs c known first last there stamp place holder = record {
  leases_are = of_filled Leased lease_stamp (λ (l : Lease). l.number) leases j lease hs pcs known.leases_are (known_new Leased (suc j) (lease_stamp lease) lease.number hs pcs c first last there stamp place holder);
  tickets_are = known.tickets_are;
}

-- A ticket.
pub known_kept : {E S : Type 0} (leases : List (Option Lease)) (tickets : List (Option Ticket)) (ticket : Ticket) (hs : List (Held E S)) (pcs : List Connection) (c : Connection) → AreKnown leases tickets hs pcs → 0 < ticket.number → ticket.number ≤ length hs → numbered ticket.number pcs ≡ Some c → stamp_of c ≡ ticket_stamp ticket → c.place ≡ Kept → holder_at hs ticket.number ≡ Some (suc (length tickets)) → AreKnown leases (tickets ++ Some ticket ∷ []) hs pcs
known_kept leases tickets ticket hs pcs c known first last there stamp place holder = record {
  leases_are = known.leases_are;
  tickets_are = of_begun Kept ticket_stamp (λ (t : Ticket). t.number) tickets ticket hs pcs known.tickets_are (known_new Kept (suc (length tickets)) (ticket_stamp ticket) ticket.number hs pcs c first last there stamp place holder);
}

pub known_kept_at : {E S : Type 0} (leases : List (Option Lease)) (tickets : List (Option Ticket)) (j : ℕ) (ticket : Ticket) (hs : List (Held E S)) (pcs : List Connection) (c : Connection) → AreKnown leases tickets hs pcs → 0 < ticket.number → ticket.number ≤ length hs → numbered ticket.number pcs ≡ Some c → stamp_of c ≡ ticket_stamp ticket → c.place ≡ Kept → holder_at hs ticket.number ≡ Some (suc j) → AreKnown leases (slice_set tickets j (Some ticket)) hs pcs
known_kept_at leases tickets j ticket hs pcs c known first last there stamp place holder = record {
  leases_are = known.leases_are;
  tickets_are = of_filled Kept ticket_stamp (λ (t : Ticket). t.number) tickets j ticket hs pcs known.tickets_are (known_new Kept (suc j) (ticket_stamp ticket) ticket.number hs pcs c first last there stamp place holder);
}

-- A lease ends, and its connection changes as it may, since nobody holds it then.
pub known_lease_ended : {E S : Type 0} (leases : List (Option Lease)) (tickets : List (Option Ticket)) (j : ℕ) (lease : Lease) (hs new : List (Held E S)) (pcs then : List Connection) (c : Connection) → AreKnown leases tickets hs pcs → slice_get leases j ≡ Some (Some lease) → numbered lease.number pcs ≡ Some c → SameBut lease.number pcs then → HeldBut lease.number hs new → AreKnown (slice_set leases j None) tickets new then
known_lease_ended leases tickets j lease hs new pcs then c known had there others held = record {
  leases_are = of_ended Leased lease_stamp (λ (l : Lease). l.number) leases j lease hs new pcs then c known.leases_are had others held there;
  tickets_are =
      of_elsewhere Kept ticket_stamp (λ (t : Ticket). t.number) tickets lease.number hs new pcs then c known.tickets_are others held there
      (λ kept. let lent : c.place ≡ Leased = ((known.leases_are j lease had).stands c there).place_is in let bad : Leased ≡ Kept = sym lent ∙ kept in cc);
}

-- Its connection was in the pool no longer, and nothing changes.
pub known_lease_over : {E S : Type 0} (leases : List (Option Lease)) (tickets : List (Option Ticket)) (j : ℕ) (hs : List (Held E S)) (pcs : List Connection) → AreKnown leases tickets hs pcs → AreKnown (slice_set leases j None) tickets hs pcs
known_lease_over leases tickets j hs pcs known = record {
  leases_are = of_emptied Leased lease_stamp (λ (l : Lease). l.number) leases j hs pcs known.leases_are;
  tickets_are = known.tickets_are;
}

-- A ticket ends.
pub known_ticket_ended : {E S : Type 0} (leases : List (Option Lease)) (tickets : List (Option Ticket)) (j : ℕ) (ticket : Ticket) (hs new : List (Held E S)) (pcs then : List Connection) (c : Connection) → AreKnown leases tickets hs pcs → slice_get tickets j ≡ Some (Some ticket) → numbered ticket.number pcs ≡ Some c → SameBut ticket.number pcs then → HeldBut ticket.number hs new → AreKnown leases (slice_set tickets j None) new then
known_ticket_ended leases tickets j ticket hs new pcs then c known had there others held = record {
  leases_are =
      of_elsewhere Leased lease_stamp (λ (l : Lease). l.number) leases ticket.number hs new pcs then c known.leases_are others held there
      (λ lent. let kept : c.place ≡ Kept = ((known.tickets_are j ticket had).stands c there).place_is in let bad : Kept ≡ Leased = sym kept ∙ lent in cc);
  tickets_are = of_ended Kept ticket_stamp (λ (t : Ticket). t.number) tickets j ticket hs new pcs then c known.tickets_are had others held there;
}

pub known_ticket_over : {E S : Type 0} (leases : List (Option Lease)) (tickets : List (Option Ticket)) (j : ℕ) (hs : List (Held E S)) (pcs : List Connection) → AreKnown leases tickets hs pcs → AreKnown leases (slice_set tickets j None) hs pcs
known_ticket_over leases tickets j hs pcs known = record {
  leases_are = known.leases_are;
  tickets_are = of_emptied Kept ticket_stamp (λ (t : Ticket). t.number) tickets j hs pcs known.tickets_are;
}

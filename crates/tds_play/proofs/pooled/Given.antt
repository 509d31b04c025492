-- What the pool answers for the leases and tickets of a play: those of a connection that isn't cut are known, and
-- those of one that is cut are not.
use Rattle.std.proofs.Common.{◌≡◌, ◌∙◌, ℕ, suc, Bool, true, false, List, Option, Some, None, ap, cond}
use Rattle.std.proofs.lemmas.Bool.{eq-eqb}
use Rattle.std.specs.List.{slice_get}
use Rattle.std.specs.Prelude.{◌==◌, ◌&&◌}
use Rattle.tds_pool.specs.Calls.{is_kept, is_kept_for, is_leased, is_lent_for, kept_for, lent_to, only, standing}
use Rattle.tds_pool.specs.Connections.{Connection, PoolState, connections, numbered, same_turn}
use Rattle.tds_pool.specs.declared.lease.Lease.{Lease}
use Rattle.tds_pool.specs.declared.lease.Ticket.{Ticket}
use Rattle.tds_pool.specs.declared.lease.Turn.{Turn}
use Rattle.tds_pool.specs.declared.seat.Place.{Place}
use Rattle.tds_pool.specs.declared.seat.Place.TheVariants.{Kept, Leased}
use Rattle.tds_play.specs.Pooled.{AreKnown, ArePooled, Stamp, StandsAs, lease_stamp, stamp_of, ticket_stamp}
use Rattle.tds_play.specs.declared.seat.Held.{Held}
use Rattle.tds_play.proofs.pooled.Kept.{pooled_cut, pooled_there}
use Rattle.tds_play.proofs.pooled.Numbers.{IsIn}

-- A connection of the pool that passes this test, under this key.
passes : (test : Turn → Place → Bool) (key n : ℕ) (pcs : List Connection) (c : Connection) → numbered n pcs ≡ Some c → c.key ≡ key → test c.turn c.place ≡ true → standing test key n pcs ≡ Some c
passes test key n pcs c there same stands =
    ap (only (λ (d : Connection). (d.key == key) && test d.turn d.place)) there
    ∙ ap (λ (b : Bool). cond (b && test c.turn c.place) (Some c) None) (eq-eqb c.key key same)
    ∙ ap (λ (b : Bool). cond b (Some c) None) stands

key_of_stamp : {a b : Stamp} → a ≡ b → a.key ≡ b.key
key_of_stamp e = ap (λ (s : Stamp). s.key) e

turn_of_stamp : {a b : Stamp} → a ≡ b → a.turn ≡ b.turn
turn_of_stamp e = ap (λ (s : Stamp). s.turn) e

-- It is lent, or kept, for its own turn.
own_turn : (a pool count : Bool) → pool ≡ true → count ≡ true → a ≡ true → ((pool && count) && a) ≡ true
own_turn a true true p c e = e
own_turn a false count p c e = absurd (cc)
own_turn a true false p c e = absurd (cc)

for_turn : (stands : Place → Bool) (now turn : Turn) (place : Place) → now ≡ turn → stands place ≡ true → (same_turn now turn && stands place) ≡ true
for_turn stands now turn place is e =
    own_turn (stands place) (now.pool == turn.pool) (now.count == turn.count)
    (eq-eqb now.pool turn.pool (ap (λ (t : Turn). t.pool) is)) (eq-eqb now.count turn.count (ap (λ (t : Turn). t.count) is)) e

-- One that isn't there passes none.
pub unknown : (test : Turn → Place → Bool) (key n : ℕ) (pcs : List Connection) → numbered n pcs ≡ None → standing test key n pcs ≡ None
unknown test key n pcs gone = ap (only (λ (d : Connection). (d.key == key) && test d.turn d.place)) gone

-- The connection of a lease, which the pool knows.
pub record IsLent (lease : Lease) (pcs : List Connection) : Type 0 where
  pub connection : Connection
  pub there : numbered lease.number pcs ≡ Some connection
  pub known : lent_to lease pcs ≡ Some connection
  pub stamp_is : stamp_of connection ≡ lease_stamp lease
  pub place_is : connection.place ≡ Leased

pub record IsKept (ticket : Ticket) (pcs : List Connection) : Type 0 where
  pub connection : Connection
  pub there : numbered ticket.number pcs ≡ Some connection
  pub known : kept_for ticket pcs ≡ Some connection
  pub stamp_is : stamp_of connection ≡ ticket_stamp ticket
  pub place_is : connection.place ≡ Kept

pub lease_known : {E S : Type 0} (max size k place : ℕ) (leases : List (Option Lease)) (tickets : List (Option Ticket)) (lease : Lease) (hs : List (Held E S)) (h : Held E S) (p : PoolState) → ArePooled max size hs p → AreKnown leases tickets hs (connections p) → slice_get leases k ≡ Some (Some lease) → lease.number ≡ suc place → slice_get hs place ≡ Some h → h.link.is_cut ≡ false → IsLent lease (connections p)
lease_known max size k place leases tickets lease hs h p pooled known had number at lives =
    let it : IsIn (suc place) (connections p) = pooled_there max size place hs h p pooled at lives in
    let there : numbered lease.number (connections p) ≡ Some it.connection = ap (λ (n : ℕ). numbered n (connections p)) number ∙ it.there in
    let s : StandsAs (lease_stamp lease) Leased it.connection = (known.leases_are k lease had).stands it.connection there in
    record {
      connection = it.connection;
      there = there;
      known = passes (is_lent_for lease.turn) lease.key lease.number (connections p) it.connection there (key_of_stamp s.stamp_is) (for_turn is_leased it.connection.turn lease.turn it.connection.place (turn_of_stamp s.stamp_is) (ap is_leased s.place_is));
      stamp_is = s.stamp_is;
      place_is = s.place_is;
    }

pub ticket_known : {E S : Type 0} (max size k place : ℕ) (leases : List (Option Lease)) (tickets : List (Option Ticket)) (ticket : Ticket) (hs : List (Held E S)) (h : Held E S) (p : PoolState) → ArePooled max size hs p → AreKnown leases tickets hs (connections p) → slice_get tickets k ≡ Some (Some ticket) → ticket.number ≡ suc place → slice_get hs place ≡ Some h → h.link.is_cut ≡ false → IsKept ticket (connections p)
ticket_known max size k place leases tickets ticket hs h p pooled known had number at lives =
    let it : IsIn (suc place) (connections p) = pooled_there max size place hs h p pooled at lives in
    let there : numbered ticket.number (connections p) ≡ Some it.connection = ap (λ (n : ℕ). numbered n (connections p)) number ∙ it.there in
    let s : StandsAs (ticket_stamp ticket) Kept it.connection = (known.tickets_are k ticket had).stands it.connection there in
    record {
      connection = it.connection;
      there = there;
      known = passes (is_kept_for ticket.turn) ticket.key ticket.number (connections p) it.connection there (key_of_stamp s.stamp_is) (for_turn is_kept it.connection.turn ticket.turn it.connection.place (turn_of_stamp s.stamp_is) (ap is_kept s.place_is));
      stamp_is = s.stamp_is;
      place_is = s.place_is;
    }

-- Where the connection is cut, the pool knows neither.
pub lease_unknown : {E S : Type 0} (max size place : ℕ) (lease : Lease) (hs : List (Held E S)) (h : Held E S) (p : PoolState) → ArePooled max size hs p → lease.number ≡ suc place → slice_get hs place ≡ Some h → h.link.is_cut ≡ true → lent_to lease (connections p) ≡ None
lease_unknown max size place lease hs h p pooled number at cut =
    unknown (is_lent_for lease.turn) lease.key lease.number (connections p) (ap (λ (n : ℕ). numbered n (connections p)) number ∙ pooled_cut max size place hs h p pooled at cut)

pub ticket_unknown : {E S : Type 0} (max size place : ℕ) (ticket : Ticket) (hs : List (Held E S)) (h : Held E S) (p : PoolState) → ArePooled max size hs p → ticket.number ≡ suc place → slice_get hs place ≡ Some h → h.link.is_cut ≡ true → kept_for ticket (connections p) ≡ None
ticket_unknown max size place ticket hs h p pooled number at cut =
    unknown (is_kept_for ticket.turn) ticket.key ticket.number (connections p) (ap (λ (n : ℕ). numbered n (connections p)) number ∙ pooled_cut max size place hs h p pooled at cut)

-- The pool changes the connection at a place, and its link stays: a lease that is kept, a ticket that is resumed,
-- a connection that is lent again.
use Rattle.std.proofs.Common.{◌≡◌, ◌∙◌, ℕ, suc, min, length, Option, Some, sym, ap, arith}
use Rattle.std.proofs.lemmas.List.{length-map}
use Rattle.std.specs.List.{slice_get}
use Rattle.std.specs.Prelude.{option_map, slice_set}
use Rattle.tds_pool.specs.Calls.{all_numbers}
use Rattle.tds_pool.specs.Connections.{Connection, SameRest, changed_in, connections, numbered}
use Rattle.tds_pool.specs.declared.lease.Lease.{Lease}
use Rattle.tds_pool.specs.declared.lease.Ticket.{Ticket}
use Rattle.tds_world.specs.World.{World, next_number}
use Rattle.tds_world.specs.declared.event.Setup.{Setup}
use Rattle.tds_play.specs.declared.link.Link.{Link}
use Rattle.tds_play.specs.declared.player.Player.{Player}
use Rattle.tds_play.specs.declared.seat.Held.{Held}
use Rattle.tds_play.specs.Pipe.{Pipe}
use Rattle.tds_play.specs.Player.{AreHeld, RepresentsWorld}
use Rattle.tds_play.specs.Plays.{held_by}
use Rattle.tds_play.specs.Pooled.{ArePooled, seat_by, seat_in}
use Rattle.tds_play.specs.Seats.{Seat}
use Rattle.tds_play.specs.Steps.{AreFew}
use Rattle.tds_play.proofs.pooled.Changes.{KeepsNumber, SameBut, changed_here, changed_numbers, changed_others}
use Rattle.tds_play.proofs.pooled.Kept.{pooled_link, pooled_pool}
use Rattle.tds_play.proofs.pooled.Unseen.{first_next}

-- What the pool has there was the one connection, and is the other.
pub record ChangesInPlace {E S : Type 0} (place : ℕ) (was now : Connection) (old new : Player E S) (h k : Held E S) : Type 0 where
  pub others : SameBut (suc place) (connections old.pool) (connections new.pool)
  pub there : numbered (suc place) (connections new.pool) ≡ Some now
  pub seat_was : seat_in h old.pool ≡ seat_by h.holder (Some was)
  pub seat_now : seat_in k new.pool ≡ seat_by k.holder (Some now)
  pub columns : (seat_in k new.pool).client.columns ≡ (seat_in h old.pool).client.columns
  pub pooled : ArePooled old.max old.size (slice_set old.links.items place k) new.pool

pub changes_in_place : {E S : Type 0} (place : ℕ) (f : Connection → Connection) (c : Connection) (old new : Player E S) (h k : Held E S)
    → KeepsNumber f → (f c).client.columns ≡ c.client.columns → h.link.number ≡ suc place → k.link ≡ h.link
    → slice_get old.links.items place ≡ Some h → AreHeld old → numbered (suc place) (connections old.pool) ≡ Some c
    → connections new.pool ≡ changed_in (suc place) f (connections old.pool) → SameRest old.pool new.pool → ChangesInPlace place c (f c) old new h k
changes_in_place {E} {S} place f c old new h k keeps same number link at held there moved rest = record {
  others = λ m other. ap (numbered m) moved ∙ changed_others (suc place) f (connections old.pool) keeps m other;
  there = now;
  seat_was = seat_was;
  seat_now = seat_now;
  columns = ap (λ (x : Seat). x.client.columns) seat_now ∙ same ∙ sym (ap (λ (x : Seat). x.client.columns) seat_was);
  pooled = pooled_link old.max old.size place old.links.items h k new.pool
      (pooled_pool old.max old.size old.links.items old.pool new.pool held.pooled (ap all_numbers moved ∙ changed_numbers (suc place) f (connections old.pool) keeps) rest)
      at (ap (λ (l : Link E S). l.is_cut) link);
}
  where
    now : numbered (suc place) (connections new.pool) ≡ Some (f c)
    now = ap (numbered (suc place)) moved ∙ changed_here (suc place) f (connections old.pool) keeps ∙ ap (option_map f) there

    seat_was : seat_in h old.pool ≡ seat_by h.holder (Some c)
    seat_was = ap (λ (n : ℕ). seat_by h.holder (numbered n (connections old.pool))) number ∙ ap (seat_by h.holder) there

    seat_now : seat_in k new.pool ≡ seat_by k.holder (Some (f c))
    seat_now = ap (λ (n : ℕ). seat_by k.holder (numbered n (connections new.pool))) (ap (λ (l : Link E S). l.number) link ∙ number) ∙ ap (seat_by k.holder) now

-- ---- The number of the next lease or ticket is the model's

pub next_lease : {E S : Type 0} (setup : Setup) (engine : E) (player : Player E S) (pipes : ℕ → Option Pipe) (w : World) (next : ℕ) → RepresentsWorld setup engine player pipes w → AreFew 9999 player → next ≡ min (suc (length player.leases)) 4294967295 → next ≡ next_number w.leases
next_lease setup engine player pipes w next world few is =
    first_next (length player.leases) next 9999 is few.leases_few (omega arith)
    ∙ ap suc (sym (length-map player.leases (option_map (λ (l : Lease). l.number))) ∙ ap length world.leases ∙ length-map w.leases held_by)

pub next_ticket : {E S : Type 0} (setup : Setup) (engine : E) (player : Player E S) (pipes : ℕ → Option Pipe) (w : World) (next : ℕ) → RepresentsWorld setup engine player pipes w → AreFew 9999 player → next ≡ min (suc (length player.tickets)) 4294967295 → next ≡ next_number w.tickets
next_ticket setup engine player pipes w next world few is =
    first_next (length player.tickets) next 9999 is few.tickets_few (omega arith)
    ∙ ap suc (sym (length-map player.tickets (option_map (λ (t : Ticket). t.number))) ∙ ap length world.tickets ∙ length-map w.tickets held_by)

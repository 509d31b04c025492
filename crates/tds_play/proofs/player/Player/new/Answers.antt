use Rattle.std.proofs.Common.{◌≡◌, ◌∙◌, ℕ, List, [], length, Option, Some, ap, sym}
use Rattle.std.specs.Prelude.{slice_get}
use Rattle.tds_pool.specs.Calls.{all_numbers}
use Rattle.tds_pool.specs.Connections.{connections}
use Rattle.tds_pool.specs.declared.lease.Lease.{Lease}
use Rattle.tds_pool.specs.declared.lease.Ticket.{Ticket}
use Rattle.tds_play.specs.declared.player.Player.{Player}
use Rattle.tds_play.specs.declared.seat.Held.{Held}
use Rattle.tds_play.specs.Player.{AreHeld}
use Rattle.tds_play.specs.Pooled.{numbers_in}
use Rattle.tds_play.proofs.player.Player.new.Goals as goal

-- A player that has nothing yet.
held_at_first : {E S : Type 0} (player : Player E S) → player.links.items ≡ [] → player.leases ≡ [] → player.tickets ≡ [] → connections player.pool ≡ [] → player.pool.last ≡ 0 → player.pool.max ≡ player.max → player.pool.size ≡ player.size → AreHeld player
held_at_first {E} {S} player links leases tickets none last max size = record {
  pooled = record {
    numbers = ap all_numbers none ∙ ap (λ (hs : List (Held E S)). numbers_in 1 hs) (sym links);
    last = last ∙ ap length (sym links);
    max_is = max;
    size_is = size;
  };
  known = record {
    leases_are = λ k lease there. absurd (no_lease k lease (sym (ap (λ (ls : List (Option Lease)). slice_get ls k) leases) ∙ there));
    tickets_are = λ k ticket there. absurd (no_ticket k ticket (sym (ap (λ (ts : List (Option Ticket)). slice_get ts k) tickets) ∙ there));
  };
}
  where
    no_lease : (k : ℕ) (lease : Lease) → slice_get [] k ≡ Some (Some lease) → ⊥
    no_lease k lease there = cc

    no_ticket : (k : ℕ) (ticket : Ticket) → slice_get [] k ≡ Some (Some ticket) → ⊥
    no_ticket k ticket there = cc

pub returns-clause-pooled : goal.returns-clause-pooled
returns-clause-pooled g c =
    let pool = c.requires.pool in
    held_at_first (record { alloc = c.args.alloc; engine = c.args.engine; size = c.args.size; max = c.args.max; on_attention = c.args.on_attention; links = c.new.result; pool = c.args.pool; leases = c.new-2.result; tickets = c.new-3.result; asked_on = c.new-4.result })
    c.new.ensures.items c.new-2.ensures c.new-3.ensures c.requires.none pool.2 pool.0 pool.1

-- An event at the ends of a connection: what a player holds then.
use Rattle.std.proofs.Common.{◌≡◌, ◌∙◌, ℕ, suc, List, length, Option, Some, true, sym, ap, subst}
use Rattle.std.proofs.lemmas.List.{length-set}
use Rattle.std.specs.List.{slice_get}
use Rattle.std.specs.Prelude.{slice_set}
use Rattle.tds_pool.specs.Connections.{connections}
use Rattle.tds_pool.specs.declared.lease.Lease.{Lease}
use Rattle.tds_pool.specs.declared.lease.Ticket.{Ticket}
use Rattle.tds_play.specs.declared.player.Player.{Player}
use Rattle.tds_play.specs.declared.seat.Held.{Held}
use Rattle.tds_play.specs.Player.{AreHeld}
use Rattle.tds_play.specs.Pooled.{AreKnown, ChangesOne}
use Rattle.tds_play.specs.Steps.{GrowsByOne, SameSetup}
use Rattle.tds_play.proofs.pooled.Acted.{acted_known, acted_pooled}
use Rattle.tds_play.proofs.pooled.Unseen.{as_long, held_as}

-- ---- What is held

pub acts_held : {E S : Type 0} (place : ℕ) (old new : Player E S) (h k : Held E S) → AreHeld old → slice_get old.links.items place ≡ Some h → h.link.number ≡ suc place → k.holder ≡ h.holder → ChangesOne h.link.number k.link.is_cut old.pool new.pool → (h.link.is_cut ≡ true → k.link.is_cut ≡ true) → new.links.items ≡ slice_set old.links.items place k → new.leases ≡ old.leases → new.tickets ≡ old.tickets → SameSetup old new → AreHeld new
acts_held {E} {S} place old new h k held at number holder changes stays links leases tickets setup =
    held_as old new (slice_set old.links.items place k) links setup
    (acted_pooled old.max old.size place old.links.items h k old.pool new.pool held.pooled at stays here)
    (subst (λ (ls : List (Option Lease)). AreKnown ls new.tickets (slice_set old.links.items place k) (connections new.pool)) (sym leases)
    (subst (λ (ts : List (Option Ticket)). AreKnown old.leases ts (slice_set old.links.items place k) (connections new.pool)) (sym tickets)
    (acted_known old.max old.size place old.leases old.tickets old.links.items h k old.pool new.pool held.pooled held.known at holder stays here)))
  where
    here : ChangesOne (suc place) k.link.is_cut old.pool new.pool
    here = subst (λ (n : ℕ). ChangesOne n k.link.is_cut old.pool new.pool) number changes

pub acts_few : {E S : Type 0} (place : ℕ) (old new : Player E S) (k : Held E S) → new.links.items ≡ slice_set old.links.items place k → new.leases ≡ old.leases → new.tickets ≡ old.tickets → GrowsByOne old new
acts_few place old new k links leases tickets most f = record {
  links_few = as_long old.links.items new.links.items most (ap length links ∙ length-set old.links.items place k) f.links_few;
  leases_few = as_long old.leases new.leases most (ap length leases) f.leases_few;
  tickets_few = as_long old.tickets new.tickets most (ap length tickets) f.tickets_few;
}

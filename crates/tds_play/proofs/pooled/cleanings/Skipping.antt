-- A cleaning: its lease is over at once, and what a player holds then.
use Rattle.std.proofs.Common.{◌≡◌, ◌∙◌, ◌⊎◌, inl, inr, ℕ, suc, List, [], ◌∷◌, ◌++◌, length, ◌≤◌, Option, Some, None, true, refl, sym, ap, subst}
use Rattle.std.proofs.lemmas.List.{length-set}
use Rattle.std.specs.List.{slice_get}
use Rattle.std.specs.Prelude.{slice_set}
use Rattle.tds_pool.specs.Connections.{Connection, connections}
use Rattle.tds_pool.specs.declared.lease.Lease.{Lease}
use Rattle.tds_pool.specs.declared.lease.Ticket.{Ticket}
use Rattle.tds_world.specs.Losses.{Loss, Nothing, Failed, met}
use Rattle.tds_world.specs.declared.event.Event.TheVariants as event
use Rattle.tds_play.specs.declared.player.Player.{Player}
use Rattle.tds_play.specs.declared.seat.Held.{Held}
use Rattle.tds_play.specs.Player.{AreHeld}
use Rattle.tds_play.specs.Pooled.{AreKnown, AreLeases, ChangesOne}
use Rattle.tds_play.specs.Steps.{GrowsByOne, SameSetup}
use Rattle.tds_play.proofs.pooled.Acted.{acted_known, acted_pooled}
use Rattle.tds_play.proofs.pooled.Slots.{pushed}
use Rattle.tds_play.proofs.pooled.Unseen.{as_long, held_as, one_longer}

pub met_clean : (l : Loss) (n : ℕ) → met l (event.Clean n) ≡ event.Clean n
met_clean Nothing n = refl
met_clean (Failed k) n = refl

-- One that is over is no lease.
not_last : (leases : List (Option Lease)) (k : ℕ) (lease : Lease) → ((k ≡ length leases) × (None ≡ Some lease)) ⊎ (slice_get leases k ≡ Some (Some lease)) → slice_get leases k ≡ Some (Some lease)
not_last leases k lease (inl t) = let bad : None ≡ Some lease = t.1 in absurd (cc)
not_last leases k lease (inr at) = at

skipped : {E S : Type 0} (leases : List (Option Lease)) (hs : List (Held E S)) (pcs : List Connection) → AreLeases leases hs pcs → AreLeases (leases ++ None ∷ []) hs pcs
skipped leases hs pcs known k lease e = known k lease (not_last leases k lease (pushed leases None k lease e))

-- The leases then: as they were, or with one more that is over.
abbrev pub SkipsOne : List (Option Lease) → List (Option Lease) → Type 0
SkipsOne old new = (new ≡ old) ⊎ (new ≡ old ++ None ∷ [])

known_then : {E S : Type 0} (old new : List (Option Lease)) (tickets : List (Option Ticket)) (hs : List (Held E S)) (pcs : List Connection) → SkipsOne old new → AreKnown old tickets hs pcs → AreKnown new tickets hs pcs
known_then old new tickets hs pcs (inl same) known = subst (λ (ls : List (Option Lease)). AreKnown ls tickets hs pcs) (sym same) known
known_then old new tickets hs pcs (inr more) known =
    subst (λ (ls : List (Option Lease)). AreKnown ls tickets hs pcs) (sym more)
    (record { leases_are = skipped old hs pcs known.leases_are; tickets_are = known.tickets_are })

pub cleans_held : {E S : Type 0} (place : ℕ) (old new : Player E S) (h k : Held E S) → AreHeld old → slice_get old.links.items place ≡ Some h → h.link.number ≡ suc place → k.holder ≡ h.holder → ChangesOne h.link.number k.link.is_cut old.pool new.pool → (h.link.is_cut ≡ true → k.link.is_cut ≡ true) → new.links.items ≡ slice_set old.links.items place k → SkipsOne old.leases new.leases → new.tickets ≡ old.tickets → SameSetup old new → AreHeld new
cleans_held {E} {S} place old new h k held at number holder changes stays links leases tickets setup =
    held_as old new (slice_set old.links.items place k) links setup
    (acted_pooled old.max old.size place old.links.items h k old.pool new.pool held.pooled at stays here)
    (known_then old.leases new.leases new.tickets (slice_set old.links.items place k) (connections new.pool) leases
    (subst (λ (ts : List (Option Ticket)). AreKnown old.leases ts (slice_set old.links.items place k) (connections new.pool)) (sym tickets)
    (acted_known old.max old.size place old.leases old.tickets old.links.items h k old.pool new.pool held.pooled held.known at holder stays here)))
  where
    here : ChangesOne (suc place) k.link.is_cut old.pool new.pool
    here = subst (λ (n : ℕ). ChangesOne n k.link.is_cut old.pool new.pool) number changes

skips_few : (old new : List (Option Lease)) (most : ℕ) → SkipsOne old new → length old ≤ most → length new ≤ suc most
skips_few old new most (inl same) few = as_long old new most (ap length same) few
skips_few old new most (inr more) few = subst (λ (ls : List (Option Lease)). length ls ≤ suc most) (sym more) (one_longer old None most few)

pub cleans_few : {E S : Type 0} (place : ℕ) (old new : Player E S) (k : Held E S) → new.links.items ≡ slice_set old.links.items place k → SkipsOne old.leases new.leases → new.tickets ≡ old.tickets → GrowsByOne old new
cleans_few place old new k links leases tickets most f = record {
  links_few = as_long old.links.items new.links.items most (ap length links ∙ length-set old.links.items place k) f.links_few;
  leases_few = skips_few old.leases new.leases most leases f.leases_few;
  tickets_few = as_long old.tickets new.tickets most (ap length tickets) f.tickets_few;
}

-- A lease or ticket that ends on its connection, and an event at the ends of a connection: what a player holds then.
use Rattle.std.proofs.Common.{◌≡◌, ◌∙◌, ℕ, zero, suc, List, length, Option, Some, None, true, false, refl, sym, ap, subst}
use Rattle.std.proofs.lemmas.List.{length-set}
use Rattle.std.specs.List.{slice_get}
use Rattle.std.specs.Prelude.{IsSome, slice_set}
use Rattle.tds_pool.specs.Calls.{all_numbers, kept_for, lent_to}
use Rattle.tds_pool.specs.Connections as pool
use Rattle.tds_pool.specs.Connections.{PoolState, connections, numbered, taken_out}
use Rattle.tds_pool.specs.declared.lease.Lease.{Lease}
use Rattle.tds_pool.specs.declared.lease.Ticket.{Ticket}
use Rattle.tds_world.specs.declared.event.Event.TheVariants as event
use Rattle.tds_world.specs.declared.outcome.Outcome.{Outcome}
use Rattle.tds_world.specs.declared.outcome.Outcome.TheVariants as outcome
use Rattle.tds_world.specs.declared.outcome.Refusal.{Refusal}
use Rattle.tds_world.specs.Losses.{Failed, Loss, Nothing, met}
use Rattle.tds_world.specs.World as world
use Rattle.tds_play.specs.declared.player.Player.{Player}
use Rattle.tds_play.specs.declared.seat.Held.{Held}
use Rattle.tds_play.specs.Holdings.{ended_of}
use Rattle.tds_play.specs.Player.{AreHeld}
use Rattle.tds_play.specs.Pooled.{AreKnown, ArePooled, IsThere, Spares, numbers_kept, numbers_leased}
use Rattle.tds_play.specs.Steps.{GrowsByOne, IsNoted, SameSetup}
use Rattle.tds_play.proofs.pooled.Acted.{pooled_by}
use Rattle.tds_play.proofs.pooled.Begun.{lease_ended, ticket_ended}
use Rattle.tds_play.proofs.pooled.Changes.{SameBut}
use Rattle.tds_play.proofs.pooled.Ended.{numbers_ended}
use Rattle.tds_play.proofs.pooled.Given.{lease_known, ticket_known}
use Rattle.tds_play.proofs.pooled.Slots.{set_here}
use Rattle.tds_play.proofs.pooled.Unseen.{IsSlot, as_long, held_as}

-- ---- Before it ends

pub lent_there : {E S : Type 0} (player : Player E S) (place n : ℕ) (lease : Lease) (h : Held E S) → AreHeld player → slice_get player.links.items place ≡ Some h → IsSlot (λ (l : Lease). l.number) player.leases n (suc place) lease → h.link.is_cut ≡ false → IsSome (lent_to lease (connections player.pool))
lent_there player place n lease h held at slot lives =
    subst (λ (o : Option pool.Connection). IsSome o)
    (sym (lease_known player.max player.size slot.slot place player.leases player.tickets lease player.links.items h player.pool held.pooled held.known slot.at slot.conn_is at lives).known) refl

pub kept_there : {E S : Type 0} (player : Player E S) (place n : ℕ) (ticket : Ticket) (h : Held E S) → AreHeld player → slice_get player.links.items place ≡ Some h → IsSlot (λ (t : Ticket). t.number) player.tickets n (suc place) ticket → h.link.is_cut ≡ false → IsSome (kept_for ticket (connections player.pool))
kept_there player place n ticket h held at slot lives =
    subst (λ (o : Option pool.Connection). IsSome o)
    (sym (ticket_known player.max player.size slot.slot place player.leases player.tickets ticket player.links.items h player.pool held.pooled held.known slot.at slot.conn_is at lives).known) refl

-- The slot is empty once it was taken.
empty_slot : {A : Type 0} (xs : List (Option A)) (slot : ℕ) (x : A) → slice_get xs slot ≡ Some (Some x) → slice_get (slice_set xs slot None) slot ≡ Some None
empty_slot xs slot x at = set_here xs slot (Some x) None at

pub taken_slot : {A : Type 0} (number : A → ℕ) (xs : List (Option A)) (n conn : ℕ) (x : A) → IsSlot number xs n conn x → world.numbered (ended_of xs n) n ≡ Some None
taken_slot {A} number xs n conn x slot = subst (λ (m : ℕ). world.numbered (ended_of xs m) m ≡ Some None) (sym slot.is) (empty_slot xs slot.slot x slot.at)

-- ---- What is held then

-- Where the pool spares the others.
pub spared_others : {E S : Type 0} (place : ℕ) (h k : Held E S) (p q : PoolState) → h.link.number ≡ suc place → Spares h.link.number k.link.is_cut p q → SameBut (suc place) (connections p) (connections q)
spared_others place h k p q number spares m other = spares.others m (λ is. other (is ∙ number))

spared_pooled : {E S : Type 0} (place : ℕ) (old : Player E S) (h k : Held E S) (q : PoolState) → AreHeld old → slice_get old.links.items place ≡ Some h → h.link.number ≡ suc place → Spares h.link.number k.link.is_cut old.pool q → (h.link.is_cut ≡ true → k.link.is_cut ≡ true) → ArePooled old.max old.size (slice_set old.links.items place k) q
spared_pooled place old h k q held at number spares stays =
    pooled_by old.max old.size place old.links.items h k old.pool q held.pooled at stays spares.live
    (λ cut. spares.gone cut ∙ ap (λ (n : ℕ). all_numbers (taken_out n (connections old.pool))) number) spares.rest

gone_there : {E S : Type 0} (place : ℕ) (k : Held E S) (q : PoolState) → k.link.number ≡ suc place → IsThere k q → k.link.is_cut ≡ true → numbered (suc place) (connections q) ≡ None
gone_there place k q number there cut = ap (λ (n : ℕ). numbered n (connections q)) (sym number) ∙ there.is_out cut

pub lease_ends : {E S : Type 0} (place n : ℕ) (old new : Player E S) (h k : Held E S) (lease : Lease) → AreHeld old → slice_get old.links.items place ≡ Some h → h.link.number ≡ suc place → k.link.number ≡ h.link.number → IsSlot (λ (l : Lease). l.number) old.leases n (suc place) lease → Spares h.link.number k.link.is_cut old.pool new.pool → IsThere k new.pool → (h.link.is_cut ≡ true → k.link.is_cut ≡ true) → new.links.items ≡ slice_set old.links.items place k → new.leases ≡ ended_of old.leases n → new.tickets ≡ old.tickets → SameSetup old new → AreHeld new
lease_ends {E} {S} place n old new h k lease held at number same slot spares there stays links leases tickets setup =
    held_as old new (slice_set old.links.items place k) links setup (spared_pooled place old h k new.pool held at number spares stays)
    (subst (λ (ls : List (Option Lease)). AreKnown ls new.tickets (slice_set old.links.items place k) (connections new.pool)) (sym (leases ∙ ap (ended_of old.leases) slot.is))
    (subst (λ (ts : List (Option Ticket)). AreKnown (slice_set old.leases slot.slot None) ts (slice_set old.links.items place k) (connections new.pool)) (sym tickets)
    (lease_ended old.max old.size place slot.slot old.leases old.tickets lease old.links.items h k old.pool (connections new.pool) held.pooled held.known slot.at slot.conn_is at
    (spared_others place h k old.pool new.pool number spares) (λ cut. gone_there place k new.pool (same ∙ number) there (stays cut)))))

pub ticket_ends : {E S : Type 0} (place n : ℕ) (old new : Player E S) (h k : Held E S) (ticket : Ticket) → AreHeld old → slice_get old.links.items place ≡ Some h → h.link.number ≡ suc place → k.link.number ≡ h.link.number → IsSlot (λ (t : Ticket). t.number) old.tickets n (suc place) ticket → Spares h.link.number k.link.is_cut old.pool new.pool → IsThere k new.pool → (h.link.is_cut ≡ true → k.link.is_cut ≡ true) → new.links.items ≡ slice_set old.links.items place k → new.leases ≡ old.leases → new.tickets ≡ ended_of old.tickets n → SameSetup old new → AreHeld new
ticket_ends {E} {S} place n old new h k ticket held at number same slot spares there stays links leases tickets setup =
    held_as old new (slice_set old.links.items place k) links setup (spared_pooled place old h k new.pool held at number spares stays)
    (subst (λ (ls : List (Option Lease)). AreKnown ls new.tickets (slice_set old.links.items place k) (connections new.pool)) (sym leases)
    (subst (λ (ts : List (Option Ticket)). AreKnown old.leases ts (slice_set old.links.items place k) (connections new.pool)) (sym (tickets ∙ ap (ended_of old.tickets) slot.is))
    (ticket_ended old.max old.size place slot.slot old.leases old.tickets ticket old.links.items h k old.pool (connections new.pool) held.pooled held.known slot.at slot.conn_is at
    (spared_others place h k old.pool new.pool number spares) (λ cut. gone_there place k new.pool (same ∙ number) there (stays cut)))))

-- ---- What is noted, and how many there are

many_ended : {A : Type 0} (xs : List (Option A)) (n : ℕ) → length (ended_of xs n) ≡ length xs
many_ended xs zero = refl
many_ended xs (suc place) = length-set xs place None

pub lease_ends_few : {E S : Type 0} (place n : ℕ) (old new : Player E S) (k : Held E S) → new.links.items ≡ slice_set old.links.items place k → new.leases ≡ ended_of old.leases n → new.tickets ≡ old.tickets → GrowsByOne old new
lease_ends_few place n old new k links leases tickets most f = record {
  links_few = as_long old.links.items new.links.items most (ap length links ∙ length-set old.links.items place k) f.links_few;
  leases_few = as_long old.leases new.leases most (ap length leases ∙ many_ended old.leases n) f.leases_few;
  tickets_few = as_long old.tickets new.tickets most (ap length tickets) f.tickets_few;
}

pub ticket_ends_few : {E S : Type 0} (place n : ℕ) (old new : Player E S) (k : Held E S) → new.links.items ≡ slice_set old.links.items place k → new.leases ≡ old.leases → new.tickets ≡ ended_of old.tickets n → GrowsByOne old new
ticket_ends_few place n old new k links leases tickets most f = record {
  links_few = as_long old.links.items new.links.items most (ap length links ∙ length-set old.links.items place k) f.links_few;
  leases_few = as_long old.leases new.leases most (ap length leases) f.leases_few;
  tickets_few = as_long old.tickets new.tickets most (ap length tickets ∙ many_ended old.tickets n) f.tickets_few;
}

pub lease_ends_noted : {E S : Type 0} (n conn : ℕ) (old new : Player E S) (o : Outcome) → ((why : Refusal) → o ≡ outcome.Refused why → ⊥) → new.leases ≡ ended_of old.leases n → new.tickets ≡ old.tickets → new.asked_on.items ≡ old.asked_on.items → IsNoted (event.GiveBack n) conn old new o
lease_ends_noted n conn old new o never leases tickets asked = record {
  refused = λ why z. absurd (never why z);
  applied = λ applied. record {
    leases_are = ap numbers_leased leases ∙ numbers_ended (λ (l : Lease). l.number) old.leases n;
    tickets_are = ap numbers_kept tickets;
    asked_are = asked;
  };
}

pub ticket_ends_noted : {E S : Type 0} (n conn : ℕ) (old new : Player E S) (o : Outcome) → ((why : Refusal) → o ≡ outcome.Refused why → ⊥) → new.leases ≡ old.leases → new.tickets ≡ ended_of old.tickets n → new.asked_on.items ≡ old.asked_on.items → IsNoted (event.Abandon n) conn old new o
ticket_ends_noted n conn old new o never leases tickets asked = record {
  refused = λ why z. absurd (never why z);
  applied = λ applied. record {
    leases_are = ap numbers_leased leases;
    tickets_are = ap numbers_kept tickets ∙ numbers_ended (λ (t : Ticket). t.number) old.tickets n;
    asked_are = asked;
  };
}

-- Neither brings bytes, so it is met as it is.
pub met_back : (l : Loss) (n : ℕ) → met l (event.GiveBack n) ≡ event.GiveBack n
met_back Nothing n = refl
met_back (Failed k) n = refl

pub met_abandoned : (l : Loss) (n : ℕ) → met l (event.Abandon n) ≡ event.Abandon n
met_abandoned Nothing n = refl
met_abandoned (Failed k) n = refl

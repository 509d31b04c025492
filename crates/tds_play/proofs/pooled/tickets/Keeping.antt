-- A lease that becomes a ticket on its connection, a ticket that becomes a lease, and those that don't.
use Rattle.std.proofs.Common.{◌≡◌, ◌∙◌, ℕ, suc, ◌≤◌, min, List, [], ◌∷◌, ◌++◌, length, Option, Some, None, Bool, true, false, refl, sym, ap, subst, arith}
use Rattle.std.proofs.lemmas.List.{length-set}
use Rattle.std.specs.List.{slice_get}
use Rattle.std.specs.Prelude.{option_map, slice_set}
use Rattle.tds_client.specs.Session.{ClientSession}
use Rattle.tds_ends.specs.Stays.{PoolIsUnseen, RefinesIdle}
use Rattle.tds_session.specs.Answer.{Answers}
use Rattle.tds_pool.specs.Calls.{lent_to, refuses_keep, unless_open}
use Rattle.tds_pool.specs.Connections as pool
use Rattle.tds_pool.specs.Connections.{PoolState, SameRest, at_place, connections, numbered}
use Rattle.tds_pool.specs.declared.answers.PoolRefusal.{PoolRefusal}
use Rattle.tds_pool.specs.declared.lease.Lease.{Lease}
use Rattle.tds_pool.specs.declared.lease.Ticket.{Ticket}
use Rattle.tds_pool.specs.declared.seat.Place.TheVariants as pooled
use Rattle.tds_world.specs.declared.event.Event.TheVariants as event
use Rattle.tds_world.specs.declared.event.Setup.{Setup}
use Rattle.tds_world.specs.declared.outcome.Outcome.TheVariants as outcome
use Rattle.tds_world.specs.declared.outcome.Refusal.{Refusal}
use Rattle.tds_world.specs.declared.outcome.Refusal.TheVariants as refusals
use Rattle.tds_world.specs.declared.report.Place.TheVariants as places
use Rattle.tds_world.specs.Connection.{Connection}
use Rattle.tds_world.specs.World.{World, next_number}
use Rattle.tds_play.specs.declared.link.EventDone.{EventDone}
use Rattle.tds_play.specs.declared.player.Player.{Player}
use Rattle.tds_play.specs.declared.seat.Held.{Held}
use Rattle.tds_play.specs.Holdings.{ended_of}
use Rattle.tds_play.specs.Pipe.{Pipe}
use Rattle.tds_play.specs.Player.{AreHeld, ModelGivesEach, RepresentsWorld, all_of}
use Rattle.tds_play.specs.Plays.{IsReady, RepresentsConnection, acts_on}
use Rattle.tds_play.specs.Pooled.{AreKnown, keeps_not, lease_stamp, numbers_kept, numbers_leased, seat_by, seat_in, ticket_stamp}
use Rattle.tds_play.specs.Seats.{Seat, placed_at, unless_kept}
use Rattle.tds_play.specs.Seen.{done_as}
use Rattle.tds_play.specs.Steps.{AreFew, GrowsByOne, IsNoted, SameSetup, StepsAt}
use Rattle.tds_play.specs.Ties.{AreTied}
use Rattle.tds_play.proofs.Acting.{by_event, cut_alike, event_at, stands_in}
use Rattle.tds_play.proofs.Placed.{DoesWhole, kept_alike}
use Rattle.tds_play.proofs.pooled.Begun.{lease_ended, ticket_begun}
use Rattle.tds_play.proofs.pooled.Ended.{numbers_ended}
use Rattle.tds_play.proofs.pooled.Given.{IsLent, lease_known}
use Rattle.tds_play.proofs.pooled.InPlace.{ChangesInPlace, changes_in_place, next_ticket}
use Rattle.tds_play.proofs.pooled.Unseen.{IsSlot, as_long, first_next, held_as, number_at, one_longer, quiet_steps, refused_steps}
use Rattle.tds_play.proofs.pooled.Slots.{numbers_pushed, set_here}
use Rattle.tds_play.proofs.pooled.tickets.Unkept.{unkept_alike}

-- ---- A lease that is kept

-- What the pool answers of it.
pub record KeepsAs {E S : Type 0} (next : ℕ) (lease : Lease) (ticket : Ticket) (h k : Held E S) (old new : PoolState) : Type 0 where
  pub stamp : ticket_stamp ticket ≡ lease_stamp lease
  pub number : ticket.number ≡ lease.number
  pub holder : k.holder ≡ next
  pub live : h.link.is_cut ≡ false
  pub allowed : refuses_keep (lent_to lease (connections old)) ≡ None
  pub shown : connections new ≡ at_place lease.number pooled.Kept (connections old)
  pub rest : SameRest old new
  pub link : k.link ≡ h.link

abbrev keeps : pool.Connection → pool.Connection
keeps c = record c { place = pooled.Kept }

open_none : (s : ClientSession) → unless_open s s.stage ≡ None → unless_kept s ≡ None
open_none s none = sym (unkept_alike s) ∙ ap (option_map keeps_not) none

pub keeps_steps : {E S : Type 0} (answers : E → Answers) → PoolIsUnseen E → RefinesIdle → (place number next : ℕ) (old new : Player E S) (h k : Held E S) (lease : Lease) (ticket : Ticket) (pipes : ℕ → Option Pipe) (done : EventDone)
    → AreHeld old → AreFew 9999 old → slice_get old.links.items place ≡ Some h
    → IsSlot (λ (l : Lease). l.number) old.leases number (suc place) lease
    → next ≡ min (suc (length old.tickets)) 4294967295
    → KeepsAs next lease ticket h k old.pool new.pool
    → new.links.items ≡ slice_set old.links.items place k
    → new.leases ≡ ended_of old.leases number
    → new.tickets ≡ old.tickets ++ Some ticket ∷ []
    → new.asked_on.items ≡ old.asked_on.items
    → SameSetup old new
    → done ≡ done_as (outcome.Kept next)
    → AreTied (all_of old) pipes
    → StepsAt answers (event.Keep number) place old new pipes pipes [] [] done
keeps_steps {E} {S} answers unseen waits place number next old new h k lease ticket pipes done held few at slot is_next gives links leases tickets asked setup_same is tied =
    quiet_steps answers (event.Keep number) place old new h k pipes done tied at gives.link (ap (λ (d : EventDone). d.lost) is) (λ d. refl) links changes.others changes.columns
    (held_as old new (slice_set old.links.items place k) links setup_same changes.pooled still_known)
    setup_same grows noted acts
  where
    number_is : h.link.number ≡ suc place
    number_is = number_at old place h pipes tied at

    lent : IsLent lease (connections old.pool)
    lent = lease_known old.max old.size slot.slot place old.leases old.tickets lease old.links.items h old.pool held.pooled held.known slot.at slot.conn_is at gives.live

    there : numbered (suc place) (connections old.pool) ≡ Some lent.connection
    there = ap (λ (n : ℕ). numbered n (connections old.pool)) (sym slot.conn_is) ∙ lent.there

    moved : connections new.pool ≡ at_place (suc place) pooled.Kept (connections old.pool)
    moved = gives.shown ∙ ap (λ (n : ℕ). at_place n pooled.Kept (connections old.pool)) slot.conn_is

    changes : ChangesInPlace place lent.connection (keeps lent.connection) old new h k
    changes = changes_in_place place keeps lent.connection old new h k (λ d. refl) refl number_is gives.link at held there moved gives.rest

    holder_is : k.holder ≡ suc (length old.tickets)
    holder_is = gives.holder ∙ first_next (length old.tickets) next 9999 is_next few.tickets_few (omega arith)

    not_cut : h.link.is_cut ≡ true → numbered (suc place) (connections new.pool) ≡ None
    not_cut cut = let bad : true ≡ false = sym cut ∙ gives.live in absurd (cc)

    slots : new.leases ≡ slice_set old.leases slot.slot None
    slots = leases ∙ ap (ended_of old.leases) slot.is

    ended : AreKnown (slice_set old.leases slot.slot None) old.tickets (slice_set old.links.items place k) (connections new.pool)
    ended = lease_ended old.max old.size place slot.slot old.leases old.tickets lease old.links.items h k old.pool (connections new.pool) held.pooled held.known slot.at slot.conn_is at changes.others not_cut

    begun : AreKnown (slice_set old.leases slot.slot None) (old.tickets ++ Some ticket ∷ []) (slice_set old.links.items place k) (connections new.pool)
    begun =
        ticket_begun place (slice_set old.leases slot.slot None) old.tickets ticket (slice_set old.links.items place k) k (connections new.pool) (keeps lent.connection) ended
        (set_here old.links.items place h k at) holder_is (gives.number ∙ slot.conn_is) changes.there (lent.stamp_is ∙ sym gives.stamp) refl

    still_known : AreKnown new.leases new.tickets (slice_set old.links.items place k) (connections new.pool)
    still_known =
        subst (λ (ls : List (Option Lease)). AreKnown ls new.tickets (slice_set old.links.items place k) (connections new.pool)) (sym slots)
        (subst (λ (ts : List (Option Ticket)). AreKnown (slice_set old.leases slot.slot None) ts (slice_set old.links.items place k) (connections new.pool)) (sym tickets) begun)

    grows : GrowsByOne old new
    grows most f = record {
      links_few = as_long old.links.items new.links.items most (ap length links ∙ length-set old.links.items place k) f.links_few;
      leases_few = as_long old.leases new.leases most (ap length slots ∙ length-set old.leases slot.slot None) f.leases_few;
      tickets_few = subst (λ (ts : List (Option Ticket)). length ts ≤ suc most) (sym tickets) (one_longer old.tickets (Some ticket) most f.tickets_few);
    }

    noted : IsNoted (event.Keep number) (suc place) old new done.outcome
    noted = record {
      refused = λ why z. let bad : outcome.Kept next ≡ outcome.Refused why = sym (ap (λ (d : EventDone). d.outcome) is) ∙ z in absurd (cc);
      applied = λ applied. record {
        leases_are = ap numbers_leased leases ∙ numbers_ended (λ (l : Lease). l.number) old.leases number;
        tickets_are =
            ap numbers_kept tickets ∙ numbers_pushed (λ (t : Ticket). t.number) old.tickets (Some ticket)
            ∙ ap (λ (n : ℕ). numbers_kept old.tickets ++ Some n ∷ []) (gives.number ∙ slot.conn_is);
        asked_are = asked;
      };
    }

    acts : (setup : Setup) (engine : E) (w : World) (c : Connection) → RepresentsWorld setup engine old pipes w → ModelGivesEach E (answers engine) setup w
        → RepresentsConnection h.link.number setup.packet_size engine h.link (seat_in h old.pool) (pipes h.link.number) c
        → (h.link.is_cut ≡ false → IsReady (event.Keep number) c)
        → DoesWhole h.link.number setup.packet_size engine done h.link (seat_in k new.pool) (pipes h.link.number) (acts_on setup (answers engine) w (event.Keep number) h.link.number c) c
    acts setup engine w c world promised played ready =
        let told : next ≡ next_number w.tickets = next_ticket setup engine old pipes w next world few is_next in
        let unrefused : unless_kept (seat_in h old.pool).client ≡ None =
        ap (λ (x : Seat). unless_kept x.client) changes.seat_was
        ∙ open_none lent.connection.client (sym (ap refuses_keep lent.known) ∙ gives.allowed) in
        let stands : seat_in k new.pool ≡ placed_at (places.Kept (next_number w.tickets)) (seat_in h old.pool) =
        changes.seat_now
        ∙ ap (λ (n : ℕ). seat_by n (Some (keeps lent.connection))) (gives.holder ∙ told)
        ∙ sym (ap (placed_at (places.Kept (next_number w.tickets))) changes.seat_was) in
        by_event h.link.number setup.packet_size engine done h.link (seat_in k new.pool) (pipes h.link.number) c _ _
        (event_at setup (answers engine) w (event.Keep number) (event.Keep number) h.link.number c (seat_in h old.pool).place (stands_in h.link.number setup.packet_size engine h.link (seat_in h old.pool) (pipes h.link.number) c played gives.live) refl)
        (kept_alike unseen waits h.link.number setup.packet_size (next_number w.tickets) engine h.link (seat_in h old.pool) (seat_in k new.pool) (pipes h.link.number) c done played gives.live
        (λ why unkept. let bad : None ≡ Some why = sym unrefused ∙ unkept in absurd (cc))
        (λ none. (is ∙ ap (λ (n : ℕ). done_as (outcome.Kept n)) told, stands)))

-- ---- A lease that isn't kept

-- What the pool answers of it.
pub record KeepsNot {E S : Type 0} (lease : Lease) (why : Refusal) (h k : Held E S) (old new : PoolState) : Type 0 where
  pub same : k ≡ h
  pub pool : new ≡ old
  pub cut : h.link.is_cut ≡ true → why ≡ refusals.ConnectionCut
  pub refused : h.link.is_cut ≡ false → (r : PoolRefusal) → refuses_keep (lent_to lease (connections old)) ≡ Some r → why ≡ keeps_not r
  pub live : h.link.is_cut ≡ false → refuses_keep (lent_to lease (connections old)) ≡ None → ⊥

same_refusal : (a b : Refusal) → Some a ≡ Some b → a ≡ b
same_refusal a b e = cc

-- Why a play refuses it is what the pool said.
refused_by : (o : Option PoolRefusal) (unkept : Option Refusal) (why because : Refusal) → option_map keeps_not o ≡ unkept → ((r : PoolRefusal) → o ≡ Some r → why ≡ keeps_not r) → unkept ≡ Some because → why ≡ because
refused_by None unkept why because same refused is = let bad : None ≡ Some because = same ∙ is in absurd (cc)
refused_by (Some r) unkept why because same refused is = let e : Some (keeps_not r) ≡ Some because = same ∙ is in refused r refl ∙ same_refusal (keeps_not r) because e

none_by : (o : Option PoolRefusal) (unkept : Option Refusal) → option_map keeps_not o ≡ unkept → unkept ≡ None → o ≡ None
none_by None unkept same is = refl
none_by (Some r) unkept same is = let bad : Some (keeps_not r) ≡ None = same ∙ is in absurd (cc)

pub unkept_steps : {E S : Type 0} (answers : E → Answers) → PoolIsUnseen E → RefinesIdle → (place number : ℕ) (old new : Player E S) (h k : Held E S) (lease : Lease) (why : Refusal) (pipes : ℕ → Option Pipe) (done : EventDone)
    → AreHeld old → slice_get old.links.items place ≡ Some h
    → IsSlot (λ (l : Lease). l.number) old.leases number (suc place) lease
    → KeepsNot lease why h k old.pool new.pool
    → new.links.items ≡ slice_set old.links.items place k
    → new.leases ≡ old.leases → new.tickets ≡ old.tickets → new.asked_on.items ≡ old.asked_on.items
    → SameSetup old new → done ≡ done_as (outcome.Refused why)
    → AreTied (all_of old) pipes
    → StepsAt answers (event.Keep number) place old new pipes pipes [] [] done
unkept_steps {E} {S} answers unseen waits place number old new h k lease why pipes done held at slot gives links leases tickets asked setup_same is tied =
    refused_steps answers (event.Keep number) place old new h k pipes done why tied held at gives.same (λ d. refl) links gives.pool leases tickets asked setup_same is
    (λ setup engine w c world promised played ready. by_cut h.link.is_cut refl setup engine w c played)
  where
    number_is : h.link.number ≡ suc place
    number_is = number_at old place h pipes tied at

    lives : h.link.is_cut ≡ false → (setup : Setup) (engine : E) (w : World) (c : Connection)
        → RepresentsConnection h.link.number setup.packet_size engine h.link (seat_in h old.pool) (pipes h.link.number) c
        → DoesWhole h.link.number setup.packet_size engine done h.link (seat_in h old.pool) (pipes h.link.number) (acts_on setup (answers engine) w (event.Keep number) h.link.number c) c
    lives live setup engine w c played =
        let lent : IsLent lease (connections old.pool) = lease_known old.max old.size slot.slot place old.leases old.tickets lease old.links.items h old.pool held.pooled held.known slot.at slot.conn_is at live in
        let there : numbered (suc place) (connections old.pool) ≡ Some lent.connection = ap (λ (n : ℕ). numbered n (connections old.pool)) (sym slot.conn_is) ∙ lent.there in
        let seat_was : seat_in h old.pool ≡ seat_by h.holder (Some lent.connection) =
        ap (λ (n : ℕ). seat_by h.holder (numbered n (connections old.pool))) number_is ∙ ap (seat_by h.holder) there in
        let known : refuses_keep (lent_to lease (connections old.pool)) ≡ unless_open lent.connection.client lent.connection.client.stage = ap refuses_keep lent.known in
        let unkept : option_map keeps_not (refuses_keep (lent_to lease (connections old.pool))) ≡ unless_kept (seat_in h old.pool).client =
        ap (option_map keeps_not) known ∙ unkept_alike lent.connection.client ∙ sym (ap (λ (x : Seat). unless_kept x.client) seat_was) in
        by_event h.link.number setup.packet_size engine done h.link (seat_in h old.pool) (pipes h.link.number) c _ _
        (event_at setup (answers engine) w (event.Keep number) (event.Keep number) h.link.number c (seat_in h old.pool).place (stands_in h.link.number setup.packet_size engine h.link (seat_in h old.pool) (pipes h.link.number) c played live) refl)
        (kept_alike unseen waits h.link.number setup.packet_size (next_number w.tickets) engine h.link (seat_in h old.pool) (seat_in h old.pool) (pipes h.link.number) c done played live
        (λ because e. (is ∙ ap (λ (r : Refusal). done_as (outcome.Refused r)) (refused_by (refuses_keep (lent_to lease (connections old.pool))) (unless_kept (seat_in h old.pool).client) why because unkept (gives.refused live) e), refl))
        (λ none. absurd (gives.live live (none_by (refuses_keep (lent_to lease (connections old.pool))) (unless_kept (seat_in h old.pool).client) unkept none))))

    by_cut : (b : Bool) → h.link.is_cut ≡ b → (setup : Setup) (engine : E) (w : World) (c : Connection)
        → RepresentsConnection h.link.number setup.packet_size engine h.link (seat_in h old.pool) (pipes h.link.number) c
        → DoesWhole h.link.number setup.packet_size engine done h.link (seat_in h old.pool) (pipes h.link.number) (acts_on setup (answers engine) w (event.Keep number) h.link.number c) c
    by_cut true cut setup engine w c played =
        cut_alike h.link.number setup.packet_size engine h.link (seat_in h old.pool) (pipes h.link.number) setup (answers engine) w (event.Keep number) c done played cut
        (is ∙ ap (λ (r : Refusal). done_as (outcome.Refused r)) (gives.cut cut))
    by_cut false live setup engine w c played = lives live setup engine w c played

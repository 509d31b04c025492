-- A free connection that is lent again.
use Rattle.std.proofs.Common.{◌≡◌, ◌∙◌, ℕ, suc, ◌≤◌, min, List, [], ◌∷◌, ◌++◌, length, Option, Some, None, Bool, true, false, refl, sym, ap, subst, arith, map}
use Rattle.std.proofs.lemmas.List.{length-set}
use Rattle.std.specs.List.{slice_get}
use Rattle.std.specs.Prelude.{slice_set}
use Rattle.tds_client.specs.Session.{marked}
use Rattle.tds_ends.specs.Stays.{PoolIsUnseen, RefinesIdle}
use Rattle.tds_packet.specs.declared.status.Reset.TheVariants.{Full}
use Rattle.tds_session.specs.Answer.{Answers}
use Rattle.tds_pool.specs.Calls.{lent_again, lent_next}
use Rattle.tds_pool.specs.Calls as calls
use Rattle.tds_pool.specs.Connections as pool
use Rattle.tds_pool.specs.Connections.{PoolState, SameRest, connections, numbered}
use Rattle.tds_pool.specs.declared.lease.Lease.{Lease}
use Rattle.tds_pool.specs.declared.lease.Ticket.{Ticket}
use Rattle.tds_pool.specs.declared.seat.Place.TheVariants as pooled
use Rattle.tds_world.specs.declared.event.Event.TheVariants as event
use Rattle.tds_world.specs.declared.event.Setup.{Setup}
use Rattle.tds_world.specs.declared.outcome.Opened.TheVariants as opened
use Rattle.tds_world.specs.declared.outcome.Outcome.TheVariants as outcome
use Rattle.tds_world.specs.Connection.{Connection}
use Rattle.tds_world.specs.World.{World, next_number}
use Rattle.tds_play.specs.declared.link.EventDone.{EventDone}
use Rattle.tds_play.specs.declared.player.Player.{Player}
use Rattle.tds_play.specs.declared.seat.Held.{Held}
use Rattle.tds_play.specs.Pipe.{Pipe}
use Rattle.tds_play.specs.Player.{AreHeld, ModelGivesEach, RepresentsWorld, all_of}
use Rattle.tds_play.specs.Plays.{IsReady, RepresentsConnection, acts_on}
use Rattle.tds_play.specs.Pooled.{AreKnown, lease_stamp, numbers_kept, numbers_leased, seat_by, seat_in, stamp_of}
use Rattle.tds_play.specs.Seats.{lent_as}
use Rattle.tds_play.specs.Seen.{done_as}
use Rattle.tds_play.specs.Steps.{AreFew, GrowsByOne, IsNoted, SameSetup, StepsAt}
use Rattle.tds_play.specs.Ties.{AreTied}
use Rattle.tds_world.specs.Lending.{LendsIdle}
use Rattle.tds_play.specs.Lending.{Here, standing_of, lent as lent_of}
use Rattle.tds_play.specs.Noted.{about_of}
use Rattle.tds_play.proofs.pooled.Lends.{lent_here}
use Rattle.tds_play.proofs.Acting.{by_event, event_at, lent_alike, stands_in}
use Rattle.tds_play.proofs.Placed.{DoesWhole, RefinesMarks}
use Rattle.tds_play.proofs.pooled.Begun.{lease_begun}
use Rattle.tds_play.proofs.pooled.Choice.{lent_free, lent_there}
use Rattle.tds_play.proofs.pooled.InPlace.{ChangesInPlace, changes_in_place, next_lease}
use Rattle.tds_play.proofs.pooled.Kept.{known_unheld, pooled_cut}
use Rattle.tds_play.proofs.pooled.Unseen.{as_long, first_next, held_as, number_at, one_longer, quiet_steps}
use Rattle.tds_play.proofs.pooled.Slots.{held_set, numbers_pushed, set_here}

-- What the pool answers of it: it lends this connection, which was free, and the play notes who holds it.
pub record ReusedBy {E S : Type 0} (next : ℕ) (c : pool.Connection) (lease : Lease) (h k : Held E S) (old new : PoolState)
    : Type 0 where
  pub lent : calls.lent_next (connections old) ≡ Some c
  pub stamp : lease_stamp lease ≡ stamp_of c
  pub number : lease.number ≡ c.number
  pub shown : connections new ≡ lent_again c.number Full (connections old)
  pub rest : SameRest old new
  pub link : k.link ≡ h.link
  pub holder : k.holder ≡ next

abbrev lends : pool.Connection → pool.Connection
lends d = record d { place = pooled.Leased; client = marked d.client Full }

pub reused_steps : {E S : Type 0} (answers : E → Answers) → PoolIsUnseen E → RefinesIdle → RefinesMarks → (place next conn : ℕ) (old new : Player E S) (h k : Held E S) (c : pool.Connection) (lease : Lease) (pipes : ℕ → Option Pipe) (done : EventDone)
    → AreHeld old → AreFew 9999 old → slice_get old.links.items place ≡ Some h
    → c.number ≡ suc place
    → next ≡ min (suc (length old.leases)) 4294967295 → conn ≡ c.number
    → ReusedBy next c lease h k old.pool new.pool
    → new.links.items ≡ slice_set old.links.items place k
    → new.leases ≡ old.leases ++ Some lease ∷ []
    → new.tickets ≡ old.tickets
    → new.asked_on.items ≡ old.asked_on.items
    → SameSetup old new
    → done ≡ done_as (outcome.Leased next conn opened.Reused)
    → AreTied (all_of old) pipes
    → StepsAt answers event.Lease place old new pipes pipes [] [] done
reused_steps {E} {S} answers unseen waits marks place next conn old new h k c lease pipes done held few at is_place is_next is_conn gives links leases tickets asked setup_same is tied =
    quiet_steps answers event.Lease place old new h k pipes done tied at gives.link (ap (λ (d : EventDone). d.lost) is) (λ d. refl) links changes.others changes.columns
    (held_as old new (slice_set old.links.items place k) links setup_same changes.pooled still_known)
    setup_same grows noted acts
  where
    number_is : h.link.number ≡ suc place
    number_is = number_at old place h pipes tied at

    there : numbered (suc place) (connections old.pool) ≡ Some c
    there = ap (λ (n : ℕ). numbered n (connections old.pool)) (sym is_place) ∙ lent_there 1 old.links.items (connections old.pool) c held.pooled.numbers gives.lent

    lives : (b : Bool) → h.link.is_cut ≡ b → h.link.is_cut ≡ false
    lives true cut = let bad : None ≡ Some c = sym (pooled_cut old.max old.size place old.links.items h old.pool held.pooled at cut) ∙ there in absurd (cc)
    lives false live = live

    live : h.link.is_cut ≡ false
    live = lives h.link.is_cut refl

    moved : connections new.pool ≡ lent_again (suc place) Full (connections old.pool)
    moved = gives.shown ∙ ap (λ (n : ℕ). lent_again n Full (connections old.pool)) is_place

    changes : ChangesInPlace place c (lends c) old new h k
    changes = changes_in_place place lends c old new h k (λ d. refl) refl number_is gives.link at held there moved gives.rest

    holder_is : k.holder ≡ suc (length old.leases)
    holder_is = gives.holder ∙ first_next (length old.leases) next 9999 is_next few.leases_few (omega arith)

    conn_is : conn ≡ suc place
    conn_is = is_conn ∙ is_place

    free : c.place ≡ pooled.Free
    free = lent_free (connections old.pool) c gives.lent

    unheld : AreKnown old.leases old.tickets (slice_set old.links.items place k) (connections new.pool)
    unheld =
        known_unheld old.leases old.tickets (suc place) old.links.items (slice_set old.links.items place k) (connections old.pool) (connections new.pool) c held.known changes.others (held_set old.links.items place k) there
        (λ lent. let bad : pooled.Free ≡ pooled.Leased = sym free ∙ lent in cc)
        (λ kept. let bad : pooled.Free ≡ pooled.Kept = sym free ∙ kept in cc)

    begun : AreKnown (old.leases ++ Some lease ∷ []) old.tickets (slice_set old.links.items place k) (connections new.pool)
    begun =
        lease_begun place old.leases old.tickets lease (slice_set old.links.items place k) k (connections new.pool) (lends c) unheld
        (set_here old.links.items place h k at) holder_is (gives.number ∙ is_place) changes.there (sym gives.stamp) refl

    still_known : AreKnown new.leases new.tickets (slice_set old.links.items place k) (connections new.pool)
    still_known =
        subst (λ (ls : List (Option Lease)). AreKnown ls new.tickets (slice_set old.links.items place k) (connections new.pool)) (sym leases)
        (subst (λ (ts : List (Option Ticket)). AreKnown (old.leases ++ Some lease ∷ []) ts (slice_set old.links.items place k) (connections new.pool)) (sym tickets) begun)

    grows : GrowsByOne old new
    grows most f = record {
      links_few = as_long old.links.items new.links.items most (ap length links ∙ length-set old.links.items place k) f.links_few;
      leases_few = subst (λ (ls : List (Option Lease)). length ls ≤ suc most) (sym leases) (one_longer old.leases (Some lease) most f.leases_few);
      tickets_few = as_long old.tickets new.tickets most (ap length tickets) f.tickets_few;
    }

    noted : IsNoted event.Lease (suc place) old new done.outcome
    noted = record {
      refused = λ why z. let bad : outcome.Leased next conn opened.Reused ≡ outcome.Refused why = sym (ap (λ (d : EventDone). d.outcome) is) ∙ z in absurd (cc);
      applied = λ applied. record {
        leases_are =
            ap numbers_leased leases ∙ numbers_pushed (λ (l : Lease). l.number) old.leases (Some lease)
            ∙ ap (λ (n : ℕ). numbers_leased old.leases ++ Some n ∷ []) (gives.number ∙ is_place);
        tickets_are = ap numbers_kept tickets;
        asked_are = asked;
      };
    }

    acts : (setup : Setup) (engine : E) (w : World) (c' : Connection) → RepresentsWorld setup engine old pipes w → ModelGivesEach E (answers engine) setup w
        → RepresentsConnection h.link.number setup.packet_size engine h.link (seat_in h old.pool) (pipes h.link.number) c'
        → (h.link.is_cut ≡ false → IsReady event.Lease c')
        → DoesWhole h.link.number setup.packet_size engine done h.link (seat_in k new.pool) (pipes h.link.number) (acts_on setup (answers engine) w event.Lease h.link.number c') c'
    acts setup engine w c' world promised played ready =
        let told : next ≡ next_number w.leases = next_lease setup engine old pipes w next world few is_next in
        let stands : seat_in k new.pool ≡ lent_as next Full (seat_in h old.pool) =
        changes.seat_now
        ∙ ap (λ (n : ℕ). seat_by n (Some (lends c))) gives.holder
        ∙ sym (ap (lent_as next Full) changes.seat_was) in
        by_event h.link.number setup.packet_size engine done h.link (seat_in k new.pool) (pipes h.link.number) c' _ _
        (event_at setup (answers engine) w event.Lease event.Lease h.link.number c' (seat_in h old.pool).place (stands_in h.link.number setup.packet_size engine h.link (seat_in h old.pool) (pipes h.link.number) c' played live) refl)
        (lent_alike unseen waits marks h.link.number setup.packet_size next (next_number w.leases) Full opened.Reused engine h.link (seat_in h old.pool) (seat_in k new.pool) (pipes h.link.number) c' done played live (ready live) told
        (is ∙ ap (λ (n : ℕ). done_as (outcome.Leased next n opened.Reused)) (conn_is ∙ sym number_is)) (λ idle. stands))

-- The model finds it too.
pub reused_found : {E S : Type 0} (setup : Setup) (engine : E) (w : World) (place : ℕ) (player : Player E S) (c : pool.Connection) (pipes : ℕ → Option Pipe) → RepresentsWorld setup engine player pipes w → AreHeld player → LendsIdle setup w → calls.lent_next (connections player.pool) ≡ Some c → c.number ≡ suc place
    → Here place ≡ about_of event.Lease (map standing_of (all_of player)) player.max (numbers_leased player.leases) (numbers_kept player.tickets)
reused_found setup engine w place player c pipes is held idle lent number =
    sym (lent_here setup w engine player.links.items (connections player.pool) pipes c place held.pooled.numbers is.connections idle lent number)
    ∙ ap (λ (max : ℕ). lent_of (map standing_of (all_of player)) max) (sym is.max)

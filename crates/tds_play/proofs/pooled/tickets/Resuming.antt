-- A ticket that becomes a lease on its connection, and one that doesn't.
use Rattle.std.proofs.Common.{◌≡◌, ◌∙◌, ℕ, suc, ◌≤◌, min, List, [], ◌∷◌, ◌++◌, length, Option, Some, None, Bool, true, false, refl, sym, ap, subst, arith}
use Rattle.std.proofs.lemmas.List.{length-set}
use Rattle.std.specs.List.{slice_get}
use Rattle.std.specs.Prelude.{slice_set}
use Rattle.tds_client.specs.Session.{Idle, Stage, marked, unless_idle}
use Rattle.tds_ends.specs.Stays.{PoolIsUnseen, RefinesIdle}
use Rattle.tds_packet.specs.declared.status.Reset.TheVariants.{KeepTransaction}
use Rattle.tds_session.specs.Answer.{Answers}
use Rattle.tds_pool.specs.Calls.{kept_for, lent_again, refuses_resume}
use Rattle.tds_pool.specs.Calls as calls
use Rattle.tds_pool.specs.Connections as pool
use Rattle.tds_pool.specs.Connections.{PoolState, SameRest, connections, numbered}
use Rattle.tds_pool.specs.declared.lease.Lease.{Lease}
use Rattle.tds_pool.specs.declared.lease.Ticket.{Ticket}
use Rattle.tds_pool.specs.declared.seat.Place.TheVariants as pooled
use Rattle.tds_world.specs.declared.event.Event.TheVariants as event
use Rattle.tds_world.specs.declared.event.Setup.{Setup}
use Rattle.tds_world.specs.declared.outcome.Opened.TheVariants as opened
use Rattle.tds_world.specs.declared.outcome.Outcome.TheVariants as outcome
use Rattle.tds_world.specs.declared.outcome.Refusal.{Refusal}
use Rattle.tds_world.specs.declared.outcome.Refusal.TheVariants as refusals
use Rattle.tds_world.specs.Connection.{Connection}
use Rattle.tds_world.specs.World.{World, next_number}
use Rattle.tds_play.specs.declared.link.EventDone.{EventDone}
use Rattle.tds_play.specs.declared.player.Player.{Player}
use Rattle.tds_play.specs.declared.seat.Held.{Held}
use Rattle.tds_play.specs.Holdings.{ended_of}
use Rattle.tds_play.specs.Pipe.{Pipe}
use Rattle.tds_play.specs.Player.{AreHeld, ModelGivesEach, RepresentsWorld, all_of}
use Rattle.tds_play.specs.Plays.{IsReady, RepresentsConnection, acts_on}
use Rattle.tds_play.specs.Pooled.{AreKnown, lease_stamp, numbers_kept, numbers_leased, seat_by, seat_in, ticket_stamp}
use Rattle.tds_play.specs.Seats.{Seat, lent_as}
use Rattle.tds_play.specs.Seen.{done_as}
use Rattle.tds_play.specs.Steps.{AreFew, GrowsByOne, IsNoted, SameSetup, StepsAt}
use Rattle.tds_play.specs.Ties.{AreTied}
use Rattle.tds_play.proofs.Acting.{by_event, cut_alike, event_at, lent_alike, stands_in}
use Rattle.tds_play.proofs.Placed.{DoesWhole, RefinesMarks, idle_unless}
use Rattle.tds_play.proofs.pooled.Begun.{lease_begun, ticket_ended}
use Rattle.tds_play.proofs.pooled.Ended.{numbers_ended}
use Rattle.tds_play.proofs.pooled.Given.{IsKept, ticket_known}
use Rattle.tds_play.proofs.pooled.InPlace.{ChangesInPlace, changes_in_place, next_lease}
use Rattle.tds_play.proofs.pooled.Unseen.{IsSlot, as_long, first_next, held_as, number_at, one_longer, quiet_steps, refused_steps}
use Rattle.tds_play.proofs.pooled.Slots.{numbers_pushed, set_here}

-- ---- A ticket that is resumed

-- What the pool answers of it.
pub record ResumesAs {E S : Type 0} (next : ℕ) (ticket : Ticket) (lease : Lease) (h k : Held E S) (old new : PoolState) : Type 0 where
  pub stamp : lease_stamp lease ≡ ticket_stamp ticket
  pub number : lease.number ≡ ticket.number
  pub holder : k.holder ≡ next
  pub live : h.link.is_cut ≡ false
  pub shown : connections new ≡ lent_again ticket.number KeepTransaction (connections old)
  pub rest : SameRest old new
  pub link : k.link ≡ h.link

abbrev lends : pool.Connection → pool.Connection
lends c = record c { place = pooled.Leased; client = marked c.client KeepTransaction }

pub resumes_steps : {E S : Type 0} (answers : E → Answers) → PoolIsUnseen E → RefinesIdle → RefinesMarks → (place number next conn : ℕ) (old new : Player E S) (h k : Held E S) (ticket : Ticket) (lease : Lease) (pipes : ℕ → Option Pipe) (done : EventDone)
    → AreHeld old → AreFew 9999 old → slice_get old.links.items place ≡ Some h
    → IsSlot (λ (t : Ticket). t.number) old.tickets number (suc place) ticket
    → next ≡ min (suc (length old.leases)) 4294967295 → conn ≡ lease.number
    → ResumesAs next ticket lease h k old.pool new.pool
    → new.links.items ≡ slice_set old.links.items place k
    → new.leases ≡ old.leases ++ Some lease ∷ []
    → new.tickets ≡ ended_of old.tickets number
    → new.asked_on.items ≡ old.asked_on.items
    → SameSetup old new
    → done ≡ done_as (outcome.Leased next conn opened.Resumed)
    → AreTied (all_of old) pipes
    → StepsAt answers (event.Resume number) place old new pipes pipes [] [] done
resumes_steps {E} {S} answers unseen waits marks place number next conn old new h k ticket lease pipes done held few at slot is_next is_conn gives links leases tickets asked setup_same is tied =
    quiet_steps answers (event.Resume number) place old new h k pipes done tied at gives.link (ap (λ (d : EventDone). d.lost) is) (λ d. refl) links changes.others changes.columns
    (held_as old new (slice_set old.links.items place k) links setup_same changes.pooled still_known)
    setup_same grows noted acts
  where
    number_is : h.link.number ≡ suc place
    number_is = number_at old place h pipes tied at

    kept : IsKept ticket (connections old.pool)
    kept = ticket_known old.max old.size slot.slot place old.leases old.tickets ticket old.links.items h old.pool held.pooled held.known slot.at slot.conn_is at gives.live

    there : numbered (suc place) (connections old.pool) ≡ Some kept.connection
    there = ap (λ (n : ℕ). numbered n (connections old.pool)) (sym slot.conn_is) ∙ kept.there

    moved : connections new.pool ≡ lent_again (suc place) KeepTransaction (connections old.pool)
    moved = gives.shown ∙ ap (λ (n : ℕ). lent_again n KeepTransaction (connections old.pool)) slot.conn_is

    changes : ChangesInPlace place kept.connection (lends kept.connection) old new h k
    changes = changes_in_place place lends kept.connection old new h k (λ d. refl) refl number_is gives.link at held there moved gives.rest

    holder_is : k.holder ≡ suc (length old.leases)
    holder_is = gives.holder ∙ first_next (length old.leases) next 9999 is_next few.leases_few (omega arith)

    conn_is : conn ≡ suc place
    conn_is = is_conn ∙ gives.number ∙ slot.conn_is

    not_cut : h.link.is_cut ≡ true → numbered (suc place) (connections new.pool) ≡ None
    not_cut cut = let bad : true ≡ false = sym cut ∙ gives.live in absurd (cc)

    slots : new.tickets ≡ slice_set old.tickets slot.slot None
    slots = tickets ∙ ap (ended_of old.tickets) slot.is

    ended : AreKnown old.leases (slice_set old.tickets slot.slot None) (slice_set old.links.items place k) (connections new.pool)
    ended = ticket_ended old.max old.size place slot.slot old.leases old.tickets ticket old.links.items h k old.pool (connections new.pool) held.pooled held.known slot.at slot.conn_is at changes.others not_cut

    begun : AreKnown (old.leases ++ Some lease ∷ []) (slice_set old.tickets slot.slot None) (slice_set old.links.items place k) (connections new.pool)
    begun =
        lease_begun place old.leases (slice_set old.tickets slot.slot None) lease (slice_set old.links.items place k) k (connections new.pool) (lends kept.connection) ended
        (set_here old.links.items place h k at) holder_is (gives.number ∙ slot.conn_is) changes.there (kept.stamp_is ∙ sym gives.stamp) refl

    still_known : AreKnown new.leases new.tickets (slice_set old.links.items place k) (connections new.pool)
    still_known =
        subst (λ (ls : List (Option Lease)). AreKnown ls new.tickets (slice_set old.links.items place k) (connections new.pool)) (sym leases)
        (subst (λ (ts : List (Option Ticket)). AreKnown (old.leases ++ Some lease ∷ []) ts (slice_set old.links.items place k) (connections new.pool)) (sym slots) begun)

    grows : GrowsByOne old new
    grows most f = record {
      links_few = as_long old.links.items new.links.items most (ap length links ∙ length-set old.links.items place k) f.links_few;
      leases_few = subst (λ (ls : List (Option Lease)). length ls ≤ suc most) (sym leases) (one_longer old.leases (Some lease) most f.leases_few);
      tickets_few = as_long old.tickets new.tickets most (ap length slots ∙ length-set old.tickets slot.slot None) f.tickets_few;
    }

    noted : IsNoted (event.Resume number) (suc place) old new done.outcome
    noted = record {
      refused = λ why z. let bad : outcome.Leased next conn opened.Resumed ≡ outcome.Refused why = sym (ap (λ (d : EventDone). d.outcome) is) ∙ z in absurd (cc);
      applied = λ applied. record {
        leases_are =
            ap numbers_leased leases ∙ numbers_pushed (λ (l : Lease). l.number) old.leases (Some lease)
            ∙ ap (λ (n : ℕ). numbers_leased old.leases ++ Some n ∷ []) (gives.number ∙ slot.conn_is);
        tickets_are = ap numbers_kept tickets ∙ numbers_ended (λ (t : Ticket). t.number) old.tickets number;
        asked_are = asked;
      };
    }

    acts : (setup : Setup) (engine : E) (w : World) (c : Connection) → RepresentsWorld setup engine old pipes w → ModelGivesEach E (answers engine) setup w
        → RepresentsConnection h.link.number setup.packet_size engine h.link (seat_in h old.pool) (pipes h.link.number) c
        → (h.link.is_cut ≡ false → IsReady (event.Resume number) c)
        → DoesWhole h.link.number setup.packet_size engine done h.link (seat_in k new.pool) (pipes h.link.number) (acts_on setup (answers engine) w (event.Resume number) h.link.number c) c
    acts setup engine w c world promised played ready =
        let told : next ≡ next_number w.leases = next_lease setup engine old pipes w next world few is_next in
        let stands : seat_in k new.pool ≡ lent_as next KeepTransaction (seat_in h old.pool) =
        changes.seat_now
        ∙ ap (λ (n : ℕ). seat_by n (Some (lends kept.connection))) gives.holder
        ∙ sym (ap (lent_as next KeepTransaction) changes.seat_was) in
        by_event h.link.number setup.packet_size engine done h.link (seat_in k new.pool) (pipes h.link.number) c _ _
        (event_at setup (answers engine) w (event.Resume number) (event.Resume number) h.link.number c (seat_in h old.pool).place (stands_in h.link.number setup.packet_size engine h.link (seat_in h old.pool) (pipes h.link.number) c played gives.live) refl)
        (lent_alike unseen waits marks h.link.number setup.packet_size next (next_number w.leases) KeepTransaction opened.Resumed engine h.link (seat_in h old.pool) (seat_in k new.pool) (pipes h.link.number) c done played gives.live (ready gives.live) told
        (is ∙ ap (λ (n : ℕ). done_as (outcome.Leased next n opened.Resumed)) (conn_is ∙ sym number_is)) (λ idle. stands))

-- ---- A ticket that isn't resumed

-- What the pool answers of it.
pub record ResumesNot {E S : Type 0} (ticket : Ticket) (why : Refusal) (h k : Held E S) (old new : PoolState) : Type 0 where
  pub same : k ≡ h
  pub pool : new ≡ old
  pub cut : h.link.is_cut ≡ true → why ≡ refusals.ConnectionCut
  pub live : h.link.is_cut ≡ false → refuses_resume (kept_for ticket (connections old)) ≡ None → ⊥

-- A client that is idle is so for the pool too.
none_idle : (s : Stage) → unless_idle s ≡ None → calls.unless_idle s ≡ None
none_idle Idle e = refl
none_idle s e = absurd (cc)

pub unresumed_steps : {E S : Type 0} (answers : E → Answers) → RefinesIdle → (place number : ℕ) (old new : Player E S) (h k : Held E S) (ticket : Ticket) (why : Refusal) (pipes : ℕ → Option Pipe) (done : EventDone)
    → AreHeld old → slice_get old.links.items place ≡ Some h
    → IsSlot (λ (t : Ticket). t.number) old.tickets number (suc place) ticket
    → ResumesNot ticket why h k old.pool new.pool
    → new.links.items ≡ slice_set old.links.items place k
    → new.leases ≡ old.leases → new.tickets ≡ old.tickets → new.asked_on.items ≡ old.asked_on.items
    → SameSetup old new → done ≡ done_as (outcome.Refused why)
    → AreTied (all_of old) pipes
    → StepsAt answers (event.Resume number) place old new pipes pipes [] [] done
unresumed_steps {E} {S} answers waits place number old new h k ticket why pipes done held at slot gives links leases tickets asked setup_same is tied =
    refused_steps answers (event.Resume number) place old new h k pipes done why tied held at gives.same (λ d. refl) links gives.pool leases tickets asked setup_same is
    (λ setup engine w c world promised played ready. by_cut h.link.is_cut refl setup engine w c played ready)
  where
    number_is : h.link.number ≡ suc place
    number_is = number_at old place h pipes tied at

    never : h.link.is_cut ≡ false → (setup : Setup) (engine : E) (c : Connection)
        → RepresentsConnection h.link.number setup.packet_size engine h.link (seat_in h old.pool) (pipes h.link.number) c
        → IsReady (event.Resume number) c → ⊥
    never live setup engine c played idle =
        let kept : IsKept ticket (connections old.pool) = ticket_known old.max old.size slot.slot place old.leases old.tickets ticket old.links.items h old.pool held.pooled held.known slot.at slot.conn_is at live in
        let there : numbered (suc place) (connections old.pool) ≡ Some kept.connection = ap (λ (n : ℕ). numbered n (connections old.pool)) (sym slot.conn_is) ∙ kept.there in
        let seat_was : seat_in h old.pool ≡ seat_by h.holder (Some kept.connection) =
        ap (λ (n : ℕ). seat_by h.holder (numbered n (connections old.pool))) number_is ∙ ap (seat_by h.holder) there in
        let waiting : unless_idle (seat_in h old.pool).client.stage ≡ None = idle_unless waits (seat_in h old.pool).client c (played.lives live).stands.client idle in
        let waits_not : unless_idle kept.connection.client.stage ≡ None = sym (ap (λ (x : Seat). unless_idle x.client.stage) seat_was) ∙ waiting in
        gives.live live (ap refuses_resume kept.known ∙ none_idle kept.connection.client.stage waits_not)

    by_cut : (b : Bool) → h.link.is_cut ≡ b → (setup : Setup) (engine : E) (w : World) (c : Connection)
        → RepresentsConnection h.link.number setup.packet_size engine h.link (seat_in h old.pool) (pipes h.link.number) c
        → (h.link.is_cut ≡ false → IsReady (event.Resume number) c)
        → DoesWhole h.link.number setup.packet_size engine done h.link (seat_in h old.pool) (pipes h.link.number) (acts_on setup (answers engine) w (event.Resume number) h.link.number c) c
    by_cut true cut setup engine w c played ready =
        cut_alike h.link.number setup.packet_size engine h.link (seat_in h old.pool) (pipes h.link.number) setup (answers engine) w (event.Resume number) c done played cut
        (is ∙ ap (λ (r : Refusal). done_as (outcome.Refused r)) (gives.cut cut))
    by_cut false live setup engine w c played ready = absurd (never live setup engine c played (ready live))

-- The pool lends a connection: what a player makes of it, where it is lent again, where it is new, and where it is
-- refused.
use Rattle.std.proofs.Common.{◌≡◌, ◌≢◌, ◌∙◌, ℕ, suc, ◌<◌, ◌≤◌, min, List, [], ◌∷◌, ◌++◌, length, map, Option, Some, None, Bool, true, false, refl, sym, ap, subst, cond, arith}
use Rattle.std.proofs.Math.Dec.{ltb}
use Rattle.std.proofs.lemmas.Bool.Decides.{nat_tests}
use Rattle.std.proofs.lemmas.Option.{slice_get_within}
use Rattle.std.specs.List.{slice_get}
use Rattle.std.specs.Prelude.{IsSome, slice_set}
use Rattle.tds_client.specs.Session.{new_session}
use Rattle.tds_ends.specs.AllBytes.{ClientHasRead, new_reader}
use Rattle.tds_ends.specs.Stays.{PoolIsUnseen, RefinesIdle}
use Rattle.tds_packet.specs.declared.kind.Direction.TheVariants.{ToClient}
use Rattle.tds_session.specs.Answer.{Answers}
use Rattle.tds_pool.specs.Calls.{IsRefusal, all_numbers, lent_next, refuses_new}
use Rattle.tds_pool.specs.Connections as pool
use Rattle.tds_pool.specs.Connections.{PoolState, SameRest, connections}
use Rattle.tds_pool.specs.declared.answers.PoolRefusal.{PoolRefusal}
use Rattle.tds_pool.specs.declared.answers.PoolRefusal.TheVariants as refusals
use Rattle.tds_pool.specs.declared.lease.Lease.{Lease}
use Rattle.tds_world.specs.Connection as model
use Rattle.tds_world.specs.Lending.{LendsIdle}
use Rattle.tds_world.specs.Pool.{to_lend}
use Rattle.tds_world.specs.World as world
use Rattle.tds_world.specs.World.{World, Opens as ModelOpens, next_number}
use Rattle.tds_world.specs.declared.event.Event.TheVariants as event
use Rattle.tds_world.specs.declared.event.Setup.{Setup}
use Rattle.tds_world.specs.declared.outcome.Opened.TheVariants as opened
use Rattle.tds_world.specs.declared.outcome.Outcome.TheVariants as outcome
use Rattle.tds_world.specs.declared.outcome.Refusal.TheVariants.{AllInUse}
use Rattle.tds_world.specs.declared.report.Place.TheVariants.{Leased}
use Rattle.tds_play.specs.declared.link.EventDone.{EventDone}
use Rattle.tds_play.specs.declared.player.Player.{Player}
use Rattle.tds_play.specs.declared.seat.Held.{Held}
use Rattle.tds_play.specs.Lending.{Missing, Opens as OpensOne, standing_of, lent as lent_of}
use Rattle.tds_play.specs.Noted.{about_of}
use Rattle.tds_play.specs.Pipe.{BegunEvent, Pipe, traffic}
use Rattle.tds_play.specs.Player.{AreHeld, RepresentsWorld, all_of}
use Rattle.tds_play.specs.Plays.{RepresentsConnection, cut_where}
use Rattle.tds_play.specs.Pooled.{AreKnown, numbers_kept, numbers_leased}
use Rattle.tds_play.specs.Reads.{IsReading, given_by}
use Rattle.tds_play.specs.Seats.{Seat, seated}
use Rattle.tds_play.specs.Seen.{done_as}
use Rattle.tds_play.specs.Steps.{AreFew, OpensAs, ReusesAs, SameSetup, StepsAt}
use Rattle.tds_play.specs.Ties.{AreTied}
use Rattle.tds_play.proofs.Placed.{RefinesMarks}
use Rattle.tds_play.proofs.pooled.Choice.{lent_there, opened as model_opens}
use Rattle.tds_play.proofs.pooled.Kept.{pooled_at, pooled_pool}
use Rattle.tds_play.proofs.pooled.Lends.{lent_none}
use Rattle.tds_play.proofs.pooled.Numbers.{IsOfPlay}
use Rattle.tds_play.proofs.pooled.Opening.{LentAgain, LentNew}
use Rattle.tds_play.proofs.pooled.Reusing.{reused_steps}
use Rattle.tds_play.proofs.pooled.Settled.{cut_seat}
use Rattle.tds_play.proofs.pooled.Unseen.{held_as}
use Rattle.tds_pool.specs.declared.lease.Ticket.{Ticket}

-- ---- One that is lent again

-- It is one of the play.
pub again_there : {E S : Type 0} (conn : ℕ) (lease : Lease) (old : Player E S) (p : PoolState) → AreHeld old → LentAgain conn lease old.pool p → (0 < conn) × (conn ≤ length old.links.items)
again_there conn lease old p held l =
    let c : pool.Connection = l.connection in
    let it : IsOfPlay 1 c.number old.links.items = pooled_at old.max old.size c.number old.links.items old.pool c held.pooled (lent_there 1 old.links.items (connections old.pool) c held.pooled.numbers l.lent) in
    let within : it.place < length old.links.items = slice_get_within old.links.items it.place it.held it.there in
    let at = it.at in
    let is = l.conn_is in
    (omega (arith, at, is), omega (arith, at, is, within))

pub again_steps : {E S : Type 0} (answers : E → Answers) → PoolIsUnseen E → RefinesIdle → RefinesMarks → (next conn : ℕ) (lease : Lease) (old mid new : Player E S) (p : PoolState) (pipes : ℕ → Option Pipe) (done : EventDone)
    → AreHeld old → AreFew 9999 old → LentAgain conn lease old.pool p
    → next ≡ min (suc (length old.leases)) 4294967295
    → mid ≡ record old { pool = p; leases = mid.leases } → mid.leases ≡ old.leases ++ Some lease ∷ []
    → (r : ReusesAs conn next mid new) → done ≡ done_as (outcome.Leased next conn opened.Reused) → AreTied (all_of old) pipes
    → StepsAt answers event.Lease r.place old new pipes pipes [] [] done
again_steps {E} {S} answers unseen waits marks next conn lease old mid new p pipes done held few l is_next was begun r is tied =
    let k : Held E S = record r.was { holder = next } in
    let same_links : mid.links.items ≡ old.links.items = ap (λ (x : Player E S). x.links.items) was in
    let same_pool : new.pool ≡ p = ap (λ (x : Player E S). x.pool) r.rest ∙ ap (λ (x : Player E S). x.pool) was in
    reused_steps answers unseen waits marks r.place next conn old new r.was k l.connection lease pipes done held few
    (sym (ap (λ hs. slice_get hs r.place) same_links) ∙ r.at)
    (sym l.conn_is ∙ r.conn_is) is_next l.conn_is
    (record {
      lent = l.lent;
      stamp = l.stamp;
      number = l.number;
      shown = ap connections same_pool ∙ l.shown;
      rest = subst (λ (q : PoolState). SameRest old.pool q) (sym same_pool) l.rest;
      link = refl;
      holder = refl;
    })
    (r.links ∙ ap (λ hs. slice_set hs r.place k) same_links)
    (ap (λ (x : Player E S). x.leases) r.rest ∙ begun)
    (ap (λ (x : Player E S). x.tickets) r.rest ∙ ap (λ (x : Player E S). x.tickets) was)
    (ap (λ (x : Player E S). x.asked_on.items) r.rest ∙ ap (λ (x : Player E S). x.asked_on.items) was)
    (record {
      engine_is = ap (λ (x : Player E S). x.engine) r.rest ∙ ap (λ (x : Player E S). x.engine) was;
      max_is = ap (λ (x : Player E S). x.max) r.rest ∙ ap (λ (x : Player E S). x.max) was;
      size_is = ap (λ (x : Player E S). x.size) r.rest ∙ ap (λ (x : Player E S). x.size) was;
      told_is = ap (λ (x : Player E S). x.on_attention) r.rest ∙ ap (λ (x : Player E S). x.on_attention) was;
    })
    is tied

-- ---- One that is new

-- What it stands for, in its seat.
pub new_played : {E S : Type 0} (next conn : ℕ) (old mid new : Player E S) (p : PoolState) (pipes pipes' : ℕ → Option Pipe) (told still : List BegunEvent) (done : EventDone) (seat : Seat) → mid ≡ record old { pool = p; leases = mid.leases } → (o : OpensAs conn next mid new pipes pipes' told still done) → (done.lost ≡ false → seat ≡ seated (Leased next) (new_session old.size))
    → RepresentsConnection conn old.size old.engine o.link seat (pipes' conn) (cut_where done.lost (model.new_connection old.on_attention (Leased next)))
new_played {E} {S} next conn old mid new p pipes pipes' told still done seat was o lent = by_lost done.lost refl
  where
    played : RepresentsConnection conn old.size old.engine o.link (seated (Leased next) (new_session old.size)) (pipes' conn) (cut_where done.lost (model.new_connection old.on_attention (Leased next)))
    played = subst (λ (x : Player E S). RepresentsConnection conn x.size x.engine o.link (seated (Leased next) (new_session x.size)) (pipes' conn) (cut_where done.lost (model.new_connection x.on_attention (Leased next)))) was o.played

    by_lost : (b : Bool) → done.lost ≡ b → RepresentsConnection conn old.size old.engine o.link seat (pipes' conn) (cut_where done.lost (model.new_connection old.on_attention (Leased next)))
    by_lost true gone = cut_seat conn old.size old.engine o.link (seated (Leased next) (new_session old.size)) seat (pipes' conn) _ (o.uncut ∙ gone) played
    by_lost false whole = subst (λ (x : Seat). RepresentsConnection conn old.size old.engine o.link x (pipes' conn) (cut_where done.lost (model.new_connection old.on_attention (Leased next)))) (sym (lent whole)) played

pub new_reading : {E S : Type 0} (next conn : ℕ) (old mid new : Player E S) (p : PoolState) (pipes pipes' : ℕ → Option Pipe) (told still : List BegunEvent) (done : EventDone) (seat : Seat) → mid ≡ record old { pool = p; leases = mid.leases } → (o : OpensAs conn next mid new pipes pipes' told still done) → (done.lost ≡ false → seat ≡ seated (Leased next) (new_session old.size))
    → IsReading old.size o.link seat.client.columns (pipes' conn)
new_reading {E} {S} next conn old mid new p pipes pipes' told still done seat was o lent =
    let r : IsReading old.size o.link None (pipes' conn) = subst (λ (x : Player E S). IsReading x.size o.link None (pipes' conn)) was o.reading in
    record {
      server = r.server;
      client = λ live. subst (λ (k : Option ℕ). ClientHasRead (new_reader ToClient old.size) o.link.client_reader k (traffic (pipes' conn) ToClient).came (given_by o.link))
          (sym (ap (λ (x : Seat). x.client.columns) (lent (sym o.uncut ∙ live)))) (r.client live);
      told = r.told;
    }

-- The model opens one too.
room : (count max last : ℕ) → refuses_new count max last ≡ None → ltb count max ≡ true
room count max last e = by_room (ltb count max) e
  where
    by_room : (b : Bool) → cond b (cond (ltb last 4294967295) None (Some refusals.NumbersUsedUp)) (Some refusals.AllInUse) ≡ None → b ≡ true
    by_room true e = refl
    by_room false e = absurd (cc)

pub new_opens : {E S : Type 0} (setup : Setup) (w : World) (engine : E) (conn : ℕ) (lease : Lease) (old : Player E S) (p : PoolState) (pipes : ℕ → Option Pipe) → AreHeld old → RepresentsWorld setup engine old pipes w → LendsIdle setup w → LentNew conn lease old.pool p → to_lend setup w ≡ ModelOpens (next_number w.connections)
new_opens setup w engine conn lease old p pipes held is idle l =
    let max : old.pool.max ≡ setup.max = held.pooled.max_is ∙ is.max in
    model_opens setup w engine old.links.items (connections old.pool) pipes held.pooled.numbers is.connections idle l.none
    ∙ ap (λ (m : ℕ). cond (ltb (length (connections old.pool)) m) (ModelOpens (next_number w.connections)) (world.Missing AllInUse)) (sym max)
    ∙ ap (λ (b : Bool). cond b (ModelOpens (next_number w.connections)) (world.Missing AllInUse)) (room (length (connections old.pool)) old.pool.max old.pool.last l.allowed)

-- ---- One that is refused

none_left : (o : Option pool.Connection) → (IsSome o → ⊥) → o ≡ None
none_left None e = refl
none_left (Some c) e = absurd (e refl)

full : (count max last : ℕ) (why : PoolRefusal) → last ≤ 9999 → why ≢ refusals.Memory → IsRefusal (refuses_new count max last) why → ltb count max ≡ false
full count max last why few other e = by_room (ltb count max) e
  where
    small : ltb last 4294967295 ≡ true
    small = grind (arith, nat_tests, few)

    by_room : (b : Bool) → IsRefusal (cond b (cond (ltb last 4294967295) None (Some refusals.NumbersUsedUp)) (Some refusals.AllInUse)) why → b ≡ false
    by_room false e = refl
    by_room true e = absurd (other (subst (λ (b : Bool). IsRefusal (cond b None (Some refusals.NumbersUsedUp)) why) small e))

pub refused_found : {E S : Type 0} (setup : Setup) (engine : E) (w : World) (player : Player E S) (pipes : ℕ → Option Pipe) (why : PoolRefusal) → RepresentsWorld setup engine player pipes w → AreHeld player → AreFew 9999 player → LendsIdle setup w → (IsSome (lent_next (connections player.pool)) → ⊥) → why ≢ refusals.Memory → IsRefusal (refuses_new (length (connections player.pool)) player.pool.max player.pool.last) why
    → Missing AllInUse ≡ about_of event.Lease (map standing_of (all_of player)) player.max (numbers_leased player.leases) (numbers_kept player.tickets)
refused_found setup engine w player pipes why is held few idle nobody other refused =
    let pcs = connections player.pool in
    let last : player.pool.last ≤ 9999 = subst (λ (n : ℕ). n ≤ 9999) (sym held.pooled.last) few.links_few in
    let no_room : ltb (length pcs) setup.max ≡ false =
    ap (ltb (length pcs)) (sym (held.pooled.max_is ∙ is.max)) ∙ full (length pcs) player.pool.max player.pool.last why last other refused in
    sym (lent_none setup w engine player.links.items pcs pipes held.pooled.numbers is.connections idle (none_left (lent_next pcs) nobody)
    ∙ ap (λ (b : Bool). cond b OpensOne (Missing AllInUse)) no_room)
    ∙ ap (λ (max : ℕ). lent_of (map standing_of (all_of player)) max) (sym is.max)

pub refused_held : {E S : Type 0} (old new : Player E S) → AreHeld old → new.links.items ≡ old.links.items → connections new.pool ≡ connections old.pool → SameRest old.pool new.pool → new.leases ≡ old.leases → new.tickets ≡ old.tickets → SameSetup old new → AreHeld new
refused_held old new held links same rest leases tickets setup =
    held_as old new old.links.items links setup
    (pooled_pool old.max old.size old.links.items old.pool new.pool held.pooled (ap all_numbers same) rest)
    (subst (λ (ls : List (Option Lease)). AreKnown ls new.tickets old.links.items (connections new.pool)) (sym leases)
    (subst (λ (ts : List (Option Ticket)). AreKnown old.leases ts old.links.items (connections new.pool)) (sym tickets)
    (subst (AreKnown old.leases old.tickets old.links.items) (sym same) held.known)))

-- An event of a play: what it made of the player and what it came to in the model, by what it did.
use Rattle.std.proofs.Common.{◌≡◌, ◌≢◌, ◌∙◌, ℕ, suc, min, List, [], ◌∷◌, ◌++◌, length, length-append, map, Option, Some, Bool, refl, sym, ap, subst, arith}
use Rattle.std.specs.Prelude.{Err, IfOk, Ok, Result}
use Rattle.tds_packet.specs.declared.kind.Direction.{Direction}
use Rattle.tds_pool.specs.Connections.{PoolState}
use Rattle.tds_pool.specs.declared.lease.Lease.{Lease}
use Rattle.tds_session.specs.Answer.{Answers}
use Rattle.tds_world.specs.declared.event.Event.{Event}
use Rattle.tds_world.specs.declared.event.Event.TheVariants as event
use Rattle.tds_world.specs.declared.event.Setup.{Setup}
use Rattle.tds_world.specs.declared.outcome.Outcome.{Outcome}
use Rattle.tds_world.specs.declared.outcome.Outcome.TheVariants as outcome
use Rattle.tds_world.specs.declared.outcome.Refusal.{Refusal}
use Rattle.tds_world.specs.Connection.{Connection, cut}
use Rattle.tds_world.specs.Lending.{LendsIdle}
use Rattle.tds_world.specs.Losses.{link_of, number_of}
use Rattle.tds_world.specs.World.{World}
use Rattle.tds_play.specs.declared.link.EventDone.{EventDone}
use Rattle.tds_play.specs.declared.player.Player.{Player}
use Rattle.tds_play.specs.Failures.{Fails, FailsOn, HasNoFailure, LiveAreSound, Open, all_known}
use Rattle.tds_play.specs.Happening.{HappensAs}
use Rattle.tds_play.specs.Lending.{Found, Here, Missing, standing_of}
use Rattle.tds_play.specs.Noted.{about_of}
use Rattle.tds_play.specs.Pipe.{AreFaithfulTo, AreSameBeyond, BegunEvent, IsFaithful, AreSame, Pipe, traffic}
use Rattle.tds_play.specs.Player.{AreHeld, ModelGivesEach, RefinesEvent, RepresentsWorld, all_of}
use Rattle.tds_play.specs.Plays.{RepresentConnections}
use Rattle.tds_play.specs.Pooled.{numbers_kept, numbers_leased}
use Rattle.tds_play.specs.Reads.{AllRead, IsAbout, IsReading}
use Rattle.tds_play.specs.Seats.{Seated}
use Rattle.tds_play.specs.Seen.{done_as}
use Rattle.tds_play.specs.Steps.{AreFew, CutsSome, GrowsByOne, HoldsAs, OpensAs, SameSetup, StepsAt}
use Rattle.tds_play.specs.Ties.{AreTied, IsTied}
use Rattle.tds_play.proofs.Accounts.{none_lost, opens_lost, sound_push}
use Rattle.tds_play.proofs.AllPlayed.{as_many}
use Rattle.tds_play.proofs.Found.{IsAboutOne}
use Rattle.tds_play.proofs.Listed.{opened}
use Rattle.tds_play.proofs.plays.PlayerFinds.{FoundHere, client_restarts, found_alike, found_here, missing_alike, server_restarts}
use Rattle.tds_play.proofs.plays.PlayerOpens.{opens_alike}
use Rattle.tds_play.proofs.any_bytes.Answered.{none_delivered, read_opened, refuses_all}
use Rattle.tds_play.proofs.pooled.InPlace.{next_lease}
use Rattle.tds_play.proofs.pooled.Leasing.{new_opens, new_played, new_reading}
use Rattle.tds_play.proofs.pooled.Opening.{IsOpened, LentNew, OpenedBy, is_opened, opened_by}
use Rattle.tds_play.proofs.pooled.Restarting.{EndsAs, ends_all, ends_few, ends_held, ends_holds, ends_setup, few_by, holds_by, setup_by}
use Rattle.tds_play.proofs.pooled.Steps.{many_of, steps_lost, steps_reads, steps_refine, steps_sound, steps_tied, steps_beyond, steps_faithful, steps_here}

-- ---- Which event it is

-- It is of the event that it is.
pub happens_for : {E S B : Type 0} (answers : E → Answers) (e kind : Event) (old new : Player E S) (pipes pipes' : ℕ → Option Pipe) (told still : List BegunEvent) (r : Result EventDone B) → e ≡ kind → IfOk r (λ done. HappensAs answers kind old new pipes pipes' told still done) → IfOk r (λ done. HappensAs answers e old new pipes pipes' told still done)
happens_for answers e kind old new pipes pipes' told still r is s = subst (λ (x : Event). IfOk r (λ done. HappensAs answers x old new pipes pipes' told still done)) (sym is) s

-- What a play finds for an event, in each world that it stands for.
abbrev pub Finds : {E S : Type 0} → Event → Player E S → (ℕ → Option Pipe) → Found → Type 0
Finds {E} {S} e player pipes found =
    (setup : Setup) (engine : E) (w : World) → RepresentsWorld setup engine player pipes w → LendsIdle setup w
    → found ≡ about_of e (map standing_of (all_of player)) player.max (numbers_leased player.leases) (numbers_kept player.tickets)

-- ---- On one connection

pub steps_happen : {E S : Type 0} (answers : E → Answers) (e : Event) (place : ℕ) (old new : Player E S) (pipes pipes' : ℕ → Option Pipe) (told still : List BegunEvent) (done : EventDone)
    → AreTied (all_of old) pipes → IsAboutOne e → IsAbout e place → Finds e old pipes (Here place)
    → StepsAt answers e place old new pipes pipes' told still done → HappensAs answers e old new pipes pipes' told still done
steps_happen {E} {S} answers e place old new pipes pipes' told still done tied one about found s = record {
  tied = steps_tied answers e place old new pipes pipes' told still done s tied;
  held = s.held;
  grows = s.grows;
  begun = s.ties.begun;
  others = steps_beyond answers e place old new pipes pipes' told still done s;
  faithful = steps_faithful answers e place old new pipes pipes' told still done s;
  sound = steps_sound answers e place old new pipes pipes' told still done s tied;
  size = s.setup.size_is;
  reads = λ so_far. steps_reads answers e place old new pipes pipes' told still done s tied old.size so_far about;
  lost = λ setup engine w sound is promised.
      let here : FoundHere setup (answers engine) w e place = there setup engine w is promised in
      steps_lost answers e place old new pipes pipes' told still done s tied setup engine w here.connection sound is here.is;
  refines = λ setup engine w faithful is promised countable.
      let here : FoundHere setup (answers engine) w e place = there setup engine w is promised in
      steps_refine answers e place old new pipes pipes' told still done s setup engine w here.connection (steps_here answers e place old new pipes pipes' told still done s faithful) is promised here.is countable;
}
  where
    there : (setup : Setup) (engine : E) (w : World) → RepresentsWorld setup engine old pipes w → ModelGivesEach E (answers engine) setup w → FoundHere setup (answers engine) w e place
    there setup engine w is promised = found_here setup engine (answers engine) w e old pipes place is promised.idle one (found setup engine w is promised.idle)

pub all_steps_happen : {E S B : Type 0} (answers : E → Answers) (e : Event) (place : ℕ) (old new : Player E S) (pipes pipes' : ℕ → Option Pipe) (told still : List BegunEvent) (r : Result EventDone B)
    → AreTied (all_of old) pipes → IsAboutOne e → IsAbout e place → Finds e old pipes (Here place)
    → IfOk r (λ done. StepsAt answers e place old new pipes pipes' told still done) → IfOk r (λ done. HappensAs answers e old new pipes pipes' told still done)
all_steps_happen answers e place old new pipes pipes' told still (Ok done) tied one about found s = steps_happen answers e place old new pipes pipes' told still done tied one about found s
all_steps_happen answers e place old new pipes pipes' told still (Err why) tied one about found s = s

-- ---- On none

-- It is refused before it comes to a connection: the player is as it was.
pub refuses_happen : {E S : Type 0} (answers : E → Answers) (e : Event) (why : Refusal) (old new : Player E S) (pipes : ℕ → Option Pipe) (told : List BegunEvent) (done : EventDone)
    → AreTied (all_of old) pipes → IsAboutOne e → Finds e old pipes (Missing why)
    → AreHeld new → all_of new ≡ all_of old → new.links.items ≡ old.links.items → HoldsAs old new → SameSetup old new → GrowsByOne old new
    → done ≡ done_as (outcome.Refused why) → HappensAs answers e old new pipes pipes told told done
refuses_happen {E} {S} answers e why old new pipes told done tied one found held all links holds setup_same grows refused = record {
  tied = subst (λ (xs : List (Seated E S)). AreTied xs pipes) (sym all) tied;
  held = held;
  grows = grows;
  begun = refl;
  others = λ n beyond. refl;
  faithful = subst (λ (n : ℕ). AreFaithfulTo n pipes) (ap length links);
  sound = λ sound. subst (λ (xs : List (Seated E S)). LiveAreSound xs pipes) (sym all) sound;
  size = setup_same.size_is;
  reads = λ so_far read.
      refuses_all old.size (all_of new) pipes so_far e done.outcome why (ap (λ (d : EventDone). d.outcome) refused)
      (subst (λ (xs : List (Seated E S)). AllRead old.size xs pipes so_far) (sym all) read);
  lost = λ setup engine w sound is promised.
      none_lost e done (link_of setup w e) (length old.links.items) (length new.links.items) pipes pipes (ap (λ (d : EventDone). d.lost) refused) (ap length links) (λ n call. refl);
  refines = λ setup engine w faithful is promised countable.
      missing_alike setup engine (answers engine) w e new pipes done why
      (record {
        connections = subst (λ (xs : List (Seated E S)). RepresentConnections 1 setup.packet_size engine xs pipes w.connections) (sym all) is.connections;
        leases = holds.leases_are ∙ is.leases;
        tickets = holds.tickets_are ∙ is.tickets;
        asked = holds.asked_are ∙ is.asked;
        engine_is = setup_same.engine_is ∙ is.engine_is;
        max = setup_same.max_is ∙ is.max;
        told = setup_same.told_is ∙ is.told;
        size = setup_same.size_is ∙ is.size;
      })
      refused
      (found_alike setup engine (answers engine) w e old pipes (Missing why) is promised.idle one (found setup engine w is promised.idle));
}

-- ---- On a new one

pub opens_happen : {E S : Type 0} (answers : E → Answers) (next conn : ℕ) (lease : Lease) (old mid new : Player E S) (p : PoolState) (pipes pipes' : ℕ → Option Pipe) (told still : List BegunEvent) (done : EventDone)
    → AreTied (all_of old) pipes → AreHeld old → AreFew 9999 old → LentNew conn lease old.pool p → next ≡ min (suc (length old.leases)) 4294967295
    → mid ≡ record old { pool = p; leases = mid.leases } → mid.leases ≡ old.leases ++ Some lease ∷ []
    → OpensAs conn next mid new pipes pipes' told still done → HappensAs answers event.Lease old new pipes pipes' told still done
opens_happen {E} {S} answers next conn lease old mid new p pipes pipes' told still done tied held few lent is_next was begun o = record {
  tied = opened (all_of old) (all_of new) x pipes pipes' is.all tied (o.number ∙ at) (subst (λ (n : ℕ). IsTied o.link (pipes' n)) at o.ties.tied) same;
  held = is.held;
  grows = is.grows;
  begun = o.ties.begun;
  others = λ n beyond. o.ties.others n (λ e. beyond count (omega (arith, more)) (e ∙ here));
  faithful = λ all place less.
      let other : suc place ≢ conn = (λ e. let same : suc place ≡ suc count = e ∙ here in omega (arith, same, less)) in
      subst IsFaithful (o.ties.others (suc place) other) (all place (omega (arith, less, more)));
  sound = λ sound.
      subst (λ (xs : List (Seated E S)). LiveAreSound xs pipes') (sym is.all)
      (sound_push (all_of old) x pipes pipes' sound same
      (λ live. subst (λ (n : ℕ). HasNoFailure (pipes' n)) at (subst (λ (b : Bool). Fails (Open ∷ []) b (pipes' conn)) (sym o.uncut ∙ live) o.failed)));
  size = by.setup.size_is;
  reads = λ so_far all.
      none_delivered old.size (all_of new) pipes' so_far event.Lease done.outcome (λ n d. refl)
      (subst (λ (xs : List (Seated E S)). AllRead old.size xs pipes' so_far) (sym is.all)
      (read_opened old.size (all_of old) x pipes pipes' so_far all same
      (subst (λ (n : ℕ). IsReading old.size o.link is.seat.client.columns (pipes' n)) at (new_reading next conn old mid new p pipes pipes' told still done is.seat was o is.lent))
      (subst (λ (n : ℕ). (d : Direction) → (traffic (pipes' n) d).came ≡ []) at o.nothing)));
  lost = λ setup engine w sound world promised.
      subst (λ (n : ℕ). FailsOn event.Lease done.lost (link_of setup w event.Lease) (all_known count pipes) (all_known n pipes')) (sym more)
      (opens_lost done.lost (link_of setup w event.Lease) count pipes pipes'
      (subst (λ (n : ℕ). AreSame pipes pipes' n) here o.ties.others)
      (ap number_of (new_opens setup w engine conn lease old p pipes held world promised.idle lent)
      ∙ ap (λ (n : ℕ). Some (suc n)) (sym (sym (many_of old) ∙ as_many 1 setup.packet_size engine (all_of old) pipes w.connections world.connections)))
      (subst (λ (n : ℕ). Fails (Open ∷ []) done.lost (pipes' n)) here o.failed));
  refines = λ setup engine w faithful world promised countable.
      subst (λ (said : Outcome). RefinesEvent setup engine (answers engine) (record { outcome = said; lost = done.lost }) new pipes' event.Lease w) (sym o.outcome)
      (opens_alike setup engine (answers engine) w old new pipes pipes' x next conn done.lost world
      (new_opens setup w engine conn lease old p pipes held world promised.idle lent)
      (next_lease setup engine old pipes w next world few is_next)
      (at ∙ ap suc (as_many 1 setup.packet_size engine (all_of old) pipes w.connections world.connections))
      (new_played next conn old mid new p pipes pipes' told still done is.seat was o is.lent)
      o.ties.others is.all by.setup is.holds);
}
  where
    by : OpenedBy next conn lease.key lease o.link done.lost old new
    by = opened_by next conn lease old mid new p pipes pipes' told still done lent is_next was begun o

    is : IsOpened next o.link done.lost old new conn
    is = is_opened next conn lease.key lease o.link done.lost old new held few by

    x : Seated E S
    x = record { link = o.link; seat = is.seat }

    at : conn ≡ suc (length (all_of old))
    at = lent.conn_is ∙ ap suc held.pooled.last ∙ ap suc (sym (many_of old))

    same : AreSame pipes pipes' (suc (length (all_of old)))
    same = subst (λ (n : ℕ). AreSame pipes pipes' n) at o.ties.others

    count : ℕ
    count = length old.links.items

    here : conn ≡ suc count
    here = at ∙ ap suc (many_of old)

    more : length new.links.items ≡ suc count
    more = ap length by.links ∙ omega (arith, length-append old.links.items (record { link = o.link; holder = next } ∷ []))

-- ---- On all of them

-- The server is restarted: every connection is cut.
pub server_happens : {E S : Type 0} (answers : E → Answers) (e : Event) (old new : Player E S) (pipes pipes' : ℕ → Option Pipe) (told still : List BegunEvent)
    → e ≡ event.RestartServer → CutsSome old new pipes pipes' told still
    → ((size : ℕ) (engine : E) (cs : List Connection) → RepresentConnections 1 size engine (all_of old) pipes cs → RepresentConnections 1 size engine (all_of new) pipes' (map cut cs))
    → HappensAs answers e old new pipes pipes' told still (done_as outcome.RestartedServer)
server_happens answers e old new pipes pipes' told still same cuts refines = subst (λ (f : Event). HappensAs answers f old new pipes pipes' told still (done_as outcome.RestartedServer)) (sym same) (record {
  tied = cuts.tied;
  held = cuts.held;
  grows = few_by old new cuts.rest cuts.count;
  begun = cuts.begun;
  others = cuts.others;
  faithful = λ all. cuts.faithful (length old.links.items) (subst (λ (n : ℕ). AreFaithfulTo n pipes') cuts.count all);
  sound = cuts.sound;
  size = (setup_by old new cuts.rest).size_is;
  reads = λ so_far all. none_delivered old.size (all_of new) pipes' so_far event.RestartServer outcome.RestartedServer (λ n d. refl) (cuts.reads old.size so_far all);
  lost = λ setup engine w sound is promised.
      none_lost event.RestartServer (done_as outcome.RestartedServer) (link_of setup w event.RestartServer) (length old.links.items) (length new.links.items) pipes pipes' refl cuts.count cuts.failed;
  refines = λ setup engine w faithful is promised countable.
      server_restarts setup engine (answers engine) w old new pipes pipes' is (refines setup.packet_size engine w.connections is.connections) (setup_by old new cuts.rest) (holds_by old new cuts.rest);
})

-- The client is restarted: every lease and ticket ends too.
pub client_happens : {E S : Type 0} (answers : E → Answers) (e : Event) (old mid new : Player E S) (pipes pipes' : ℕ → Option Pipe) (told still : List BegunEvent)
    → e ≡ event.RestartClient → CutsSome old mid pipes pipes' told still → EndsAs mid new
    → ((size : ℕ) (engine : E) (cs : List Connection) → RepresentConnections 1 size engine (all_of old) pipes cs → RepresentConnections 1 size engine (all_of mid) pipes' (map cut cs))
    → HappensAs answers e old new pipes pipes' told still (done_as outcome.RestartedClient)
client_happens {E} {S} answers e old mid new pipes pipes' told still same cuts ends refines = subst (λ (f : Event). HappensAs answers f old new pipes pipes' told still (done_as outcome.RestartedClient)) (sym same) (record {
  tied = subst (λ (xs : List (Seated E S)). AreTied xs pipes') (sym all) cuts.tied;
  held = ends_held mid new ends cuts.held;
  grows = ends_few old mid new cuts.rest cuts.count ends;
  begun = cuts.begun;
  others = subst (λ (n : ℕ). AreSameBeyond n pipes pipes') (sym (ap (λ (p : Player E S). length p.links.items) ends.rest)) cuts.others;
  faithful = λ all. cuts.faithful (length old.links.items) (subst (λ (n : ℕ). AreFaithfulTo n pipes') (ap (λ (p : Player E S). length p.links.items) ends.rest ∙ cuts.count) all);
  sound = λ sound. subst (λ (xs : List (Seated E S)). LiveAreSound xs pipes') (sym all) (cuts.sound sound);
  size = (ends_setup old mid new cuts.rest ends).size_is;
  reads = λ so_far read.
      none_delivered old.size (all_of new) pipes' so_far event.RestartClient outcome.RestartedClient (λ n d. refl)
      (subst (λ (xs : List (Seated E S)). AllRead old.size xs pipes' so_far) (sym all) (cuts.reads old.size so_far read));
  lost = λ setup engine w sound is promised.
      none_lost event.RestartClient (done_as outcome.RestartedClient) (link_of setup w event.RestartClient) (length old.links.items) (length new.links.items) pipes pipes' refl
      (ap (λ (p : Player E S). length p.links.items) ends.rest ∙ cuts.count) cuts.failed;
  refines = λ setup engine w faithful is promised countable.
      client_restarts setup engine (answers engine) w old new pipes pipes' is
      (subst (λ (xs : List (Seated E S)). RepresentConnections 1 setup.packet_size engine xs pipes' (map cut w.connections)) (sym all) (refines setup.packet_size engine w.connections is.connections))
      (ends_setup old mid new cuts.rest ends) (ends_holds old mid new cuts.rest ends);
})
  where
    all : all_of new ≡ all_of mid
    all = ends_all mid new ends

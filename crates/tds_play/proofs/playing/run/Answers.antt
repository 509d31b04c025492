use Rattle.std.proofs.Common.{◌≡◌, ◌∙◌, ◌+◌, ◌<◌, ◌≤◌, ℕ, suc, Option, [], length, take, ap, subst, sym, arith, length-append}
use Rattle.tds_world.specs.Laws.{OfEachConnection}
use Rattle.tds_world.specs.Losses.{bringing, link_of, marked, with_cuts, world_with}
use Rattle.tds_world.specs.Order.{RequestsInOrder}
use Rattle.tds_session.specs.Answer.{Answers, answer_of}
use Rattle.tds_world.specs.Bounds.{IsEvent, IsSetup}
use Rattle.tds_world.specs.Events.{happens}
use Rattle.tds_world.specs.World.{World, new_world}
use Rattle.std.proofs.lemmas.List.{take_all}
use Rattle.tds_pool.specs.Connections.{connections}
use Rattle.tds_world.specs.declared.event.Event.{Event}
use Rattle.tds_world.specs.Observed.{request_reports}
use Rattle.tds_play.specs.Player.{ModelGivesEach, RefinesEvent, RepresentsWorld, all_of}
use Rattle.tds_play.specs.Pooled.{seated_from}
use Rattle.tds_play.specs.Seats.{Seated}
use Rattle.tds_play.specs.Steps.{AreFew}
use Rattle.tds_play.specs.declared.player.Player.{Player}
use Rattle.tds_play.specs.declared.seat.Held.{Held}
use Rattle.tds_ends.specs.ModelGives.{IsCountable, ModelGives}
use Rattle.tds_play.specs.Failures.{FailsOn, LiveAreSound, all_known}
use Rattle.tds_play.specs.Pipe.{AreFaithfulTo, AreSameBeyond, Pipe}
use Rattle.tds_play.specs.Ties.{AreTied}
use Rattle.tds_play.specs.declared.link.EventDone.{EventDone}
use Rattle.tds_world.specs.declared.event.Setup.{Setup}
use Rattle.tds_play.proofs.any_bytes.Told.{does_so, makes_all, makes_more, makes_none}
use Rattle.tds_play.proofs.Accounts.{told_none}
use Rattle.tds_play.proofs.Marking.{told_in_the_end, told_one_more, unfailing_in_the_end}
use Rattle.tds_play.proofs.Turns.{known_so_far, countable_then, of_play, of_play_then, one_event_more, in_the_end, none_tied, so_many, world_is}
use Rattle.std.proofs.Common.{List, refl}
use Rattle.tds_world.specs.declared.report.EventReport.{EventReport}
use Rattle.tds_world.proofs.plays.Worlds.{bringing_is}
use Rattle.tds_play.specs.Reads.{AllRead}
use Rattle.tds_play.proofs.any_bytes.Answered.{answers_of, none_read, read_more}
use Rattle.tds_play.proofs.any_bytes.Given.{read_in_the_end}
use Rattle.tds_play.proofs.Unasked.{just_told}
use Rattle.tds_play.proofs.playing.run.Goals as goal

-- Nothing stands in a player that has no links.
none_of : {E S : Type 0} (player : Player E S) → player.links.items ≡ [] → all_of player ≡ []
none_of {E} {S} player none = ap (λ (hs : List (Held E S)). seated_from 1 hs (connections player.pool)) none

few_then : {E S : Type 0} (player : Player E S) (i : ℕ) → AreFew i player → i < 10000 → AreFew 9999 player
few_then player i few less =
    let links = few.links_few in
    let leases = few.leases_few in
    let tickets = few.tickets_few in
    record { links_few = omega (arith, links, less); leases_few = omega (arith, leases, less); tickets_few = omega (arith, tickets, less) }

pub events-init : goal.events-init
events-init g c = record {
  tied = none_tied (all_of c.args.player.now) (g.C.EventCarrier.pipes c.args.carrier.now) (none_of c.args.player.now c.requires.begins);
  held = c.requires.held;
  few = c.requires.none;
  known = tt;
  count = ap length c.new-reports.ensures.items;
  within = omega (arith, ap length c.new-reports.ensures.items);
  sound = subst (λ (ls : List (Seated g.row.E.Denot g.row.E-Stmt.Denot)). LiveAreSound ls (g.C.EventCarrier.pipes c.args.carrier.now)) (sym (none_of c.args.player.now c.requires.begins)) (λ i d less. absurd (omega (arith, less)));
  size = refl;
  reads =
      subst (λ (rs : List EventReport). AllRead c.args.player.now.size (all_of c.args.player.now) (g.C.EventCarrier.pipes c.args.carrier.now) (answers_of (take 0 c.args.events.now) rs)) (sym c.new-reports.ensures.items)
      (none_read c.args.player.now.size (all_of c.args.player.now) (g.C.EventCarrier.pipes c.args.carrier.now) c.args.events.now (none_of c.args.player.now c.requires.begins));
  calls = λ setup is faithful play. makes_none setup _ c.args.events.now c.new-reports.result.items (g.C.EventCarrier.began c.args.carrier.now) (g.C.EventCarrier.pipes c.args.carrier.now);
  lost = λ setup is faithful play. rw (c.requires.begins) (told_none setup _ (g.C.EventCarrier.pipes c.args.carrier.now));
  refines = λ setup is faithful play. record { play = play; told = c.new-reports.ensures.items };
}

pub happen-requires-clause-few : goal.happen-requires-clause-few
happen-requires-clause-few g c = few_then c.events.player c.events.event-index c.events.invariant.few (omega (arith, c.events-test.true, c.requires.few))

pub happen-requires-clause-tied : goal.happen-requires-clause-tied
happen-requires-clause-tied g c = subst (AreTied (all_of c.events.player)) (sym c.in_ok-begin.ensures.still) c.events.invariant.tied

pub events-preserved : goal.events-preserved
events-preserved g c =
    let i : ℕ = c.events.event-index in
    let es = c.args.events.now in
    let e : Event = c.event-item.result in
    let inv = c.events.invariant in
    let engine = c.args.player.now.engine in
    let old = c.events.player in
    let new = c.happen.new.self in
    let done : EventDone = c.in_ok-done.done in
    let pipes : ℕ → Option Pipe = g.C.EventCarrier.pipes c.events.carrier in
    let begun : ℕ → Option Pipe = g.C.EventCarrier.pipes c.begin.new.self in
    let after : ℕ → Option Pipe = g.C.EventCarrier.pipes c.happen.new.carrier in
    let still : begun ≡ pipes = c.in_ok-begin.ensures.still in
    let answers : Answers = answer_of (g.E.Engine.statements_of engine) (g.E.Engine.step_of engine) in
    let said = c.in_ok-done.ensures in
    let known = known_so_far IsEvent es i e c.events-test.true c.event-item.is inv.known c.known.ensures in
    let less : i < 10000 = omega (arith, c.events-test.true, c.requires.few) in
    let many : length (take i es) ≡ i = so_many i es (omega (arith, c.events-test.true)) in
    let so_far : length (take i es) + length (take i es) < 20000 = omega (arith, many, less) in
    let rs = c.events.reports.items in
    let sound : LiveAreSound (all_of old) begun = subst (LiveAreSound (all_of old)) (sym still) inv.sound in
    let faithful : AreFaithfulTo (length new.links.items) after → AreFaithfulTo (length old.links.items) pipes = (λ all. subst (AreFaithfulTo (length old.links.items)) still (said.faithful all)) in
    let gives : (setup : Setup) → IsSetup setup → ModelGivesEach g.row.E.Denot answers setup (world_with setup answers (marked (take i es) rs) new_world) =
    (λ setup is. of_play (ModelGivesEach g.row.E.Denot answers setup) 20000 setup answers (take i es) rs so_far inv.known (λ fs all few. c.worlds_hold.ensures.before setup fs is all few)) in
    let countable : (setup : Setup) → IsSetup setup → (k : ℕ) → OfEachConnection IsCountable (happens setup answers (bringing k e) (world_with setup answers (marked (take i es) rs) new_world)).1 = (λ setup is k.
    countable_then g.row.E.Denot setup answers (happens setup answers (bringing k e) (world_with setup answers (marked (take i es) rs) new_world)).1
    (of_play_then (OfEachConnection (ModelGives g.row.E.Denot answers setup.packet_size)) 20000 setup answers (take i es) rs (bringing k e) so_far inv.known
    (bringing_is k e c.known.ensures) (λ fs all few. c.worlds_hold.ensures.each setup fs is all few))) in
    let fails : (setup : Setup) → IsSetup setup → RepresentsWorld setup engine old pipes (world_with setup answers (marked (take i es) rs) new_world)
    → FailsOn e done.lost (link_of setup (world_with setup answers (marked (take i es) rs) new_world) e) (all_known (length old.links.items) pipes) (all_known (length new.links.items) after) = (λ setup is play.
    let w : World = world_with setup answers (marked (take i es) rs) new_world in
    subst (λ (ps : ℕ → Option Pipe). FailsOn e done.lost (link_of setup w e) (all_known (length old.links.items) ps) (all_known (length new.links.items) after)) still
    (said.lost setup engine w sound (subst (λ (ps : ℕ → Option Pipe). RepresentsWorld setup engine old ps w) (sym still) play) (gives setup is))) in
    let refines : (setup : Setup) → IsSetup setup → AreFaithfulTo (length new.links.items) after → RepresentsWorld setup engine old pipes (world_with setup answers (marked (take i es) rs) new_world)
    → RefinesEvent setup engine answers done new after e (world_with setup answers (marked (take i es) rs) new_world) = (λ setup is all play.
    let w : World = world_with setup answers (marked (take i es) rs) new_world in
    said.refines setup engine w all (subst (λ (ps : ℕ → Option Pipe). RepresentsWorld setup engine old ps w) (sym still) play) (gives setup is) (countable setup is)) in
    record {
      tied = said.tied;
      held = said.held;
      few = subst (λ (n : ℕ). AreFew n new) (omega arith) (said.grows i inv.few);
      known = known;
      count = ap length c.in_ok-push.ensures.items ∙ length-append rs _ ∙ omega (arith, inv.count);
      within = omega (arith, c.events-test.true, inv.count, ap length c.in_ok-push.ensures.items ∙ length-append rs _);
      sound = said.sound sound;
      size = said.size ∙ inv.size;
      reads =
          let r : EventReport = record { outcome = done.outcome; lost = done.lost; snapshots = c.new.result } in
          let before : AllRead old.size (all_of old) begun (answers_of (take i es) rs) =
          subst (λ (ps : ℕ → Option Pipe). AllRead old.size (all_of old) ps (answers_of (take i es) rs)) (sym still)
          (subst (λ (size : ℕ). AllRead size (all_of old) pipes (answers_of (take i es) rs)) (sym inv.size) inv.reads) in
          read_more c.args.player.now.size old.size (all_of new) after es i e rs _ r
          c.events-test.true c.event-item.is inv.count c.in_ok-push.ensures.items inv.size (said.reads (answers_of (take i es) rs) before);
      lost = λ setup is all play.
          told_one_more setup answers es i e rs _ done c.new.result _ _ c.events-test.true c.event-item.is inv.count c.in_ok-push.ensures.items
          (fails setup is (inv.refines setup is (faithful all) play).play) (inv.lost setup is (faithful all) play);
      calls = λ setup is all play.
          let far = inv.refines setup is (faithful all) play in
          let w : World = world_with setup answers (marked (take i es) rs) new_world in
          let count : c.len.result ≡ length rs = omega (arith, c.len.ensures, c.events.reports.ok.0) in
          let number : c.next_number.result ≡ suc (length rs) = c.next_number.ensures.few (omega (arith, count, inv.count, less)) ∙ ap suc count in
          makes_more setup answers es i c.next_number.result e rs _ done c.new.result (g.C.EventCarrier.began c.args.carrier.now) (g.C.EventCarrier.began c.events.carrier) (g.C.EventCarrier.began c.happen.new.carrier) pipes after
          c.events-test.true c.event-item.is inv.count less number c.in_ok-push.ensures.items (λ tells. said.begun ∙ c.in_ok-begin.ensures.told tells)
          (does_so setup answers engine e done old new pipes after w inv.tied said.tied far.play (refines setup is all far.play).then
          (subst (λ (ps : ℕ → Option Pipe). AreSameBeyond (length new.links.items) ps after) still said.others) (fails setup is far.play))
          (inv.calls setup is (faithful all) play);
      refines = λ setup is all play.
          let far = inv.refines setup is (faithful all) play in
          one_event_more setup answers engine es i e old new pipes after rs _ done c.new.result
          c.events-test.true c.event-item.is inv.count (refines setup is all far.play)
          (c.new.ensures ∙ c.in_ok-snapshots.ensures) c.in_ok-push.ensures.items far;
    }

pub returns-clause-calls : goal.returns-clause-calls
returns-clause-calls g c = λ setup is faithful play.
    let engine = c.args.player.now.engine in
    makes_all setup (answer_of (g.E.Engine.statements_of engine) (g.E.Engine.step_of engine)) c.args.events.now c.events.event-index c.events.reports.items c.events.reports.items
    (g.C.EventCarrier.began c.args.carrier.now) (g.C.EventCarrier.began c.events.carrier) (g.C.EventCarrier.pipes c.events.carrier)
    (omega (arith, c.events-test.false)) refl (c.events.invariant.calls setup is (λ place less. faithful (suc place)) play)

pub returns-clause-unfailing : goal.returns-clause-unfailing
returns-clause-unfailing g c = λ setup requests is faithful play fine.
    let engine = c.args.player.now.engine in
    unfailing_in_the_end setup (answer_of (g.E.Engine.statements_of engine) (g.E.Engine.step_of engine)) c.args.events.now c.events.event-index (length c.events.player.links.items) (g.C.EventCarrier.pipes c.events.carrier) c.events.reports.items c.events.reports.items
    (omega (arith, c.events-test.false)) c.events.invariant.within refl (c.events.invariant.lost setup is (λ place less. faithful (suc place)) play) fine

pub returns-clause-lost : goal.returns-clause-lost
returns-clause-lost g c = λ setup is faithful play.
    let engine = c.args.player.now.engine in
    let far = c.events.invariant.refines setup is (λ place less. faithful (suc place)) play in
    told_in_the_end setup (answer_of (g.E.Engine.statements_of engine) (g.E.Engine.step_of engine)) engine c.args.events.now c.events.event-index c.events.player (g.C.EventCarrier.pipes c.events.carrier) c.events.reports.items c.events.reports.items
    (omega (arith, c.events-test.false)) refl far.play (c.events.invariant.lost setup is (λ place less. faithful (suc place)) play)

pub returns-clause-reads : goal.returns-clause-reads
returns-clause-reads g c = λ requests given.
    read_in_the_end c.args.player.now.size c.args.events.now c.events.event-index (all_of c.events.player) (g.C.EventCarrier.pipes c.events.carrier) c.events.reports.items c.events.reports.items requests requests
    (omega (arith, c.events-test.false)) refl refl c.events.invariant.reads given

pub returns-clause-stands : goal.returns-clause-stands
returns-clause-stands g c = λ setup is faithful play.
    let i : ℕ = c.events.event-index in
    let es = c.args.events.now in
    let rs = c.events.reports.items in
    let engine = c.args.player.now.engine in
    let answers : Answers = answer_of (g.E.Engine.statements_of engine) (g.E.Engine.step_of engine) in
    let far = c.events.invariant.refines setup is (λ place less. faithful (suc place)) play in
    let laws = c.of_marked_report.ensures in
    let over : length es ≤ i = omega (arith, c.events-test.false) in
    let whole : take i es ≡ es = take_all i es over in
    record {
      world = subst (λ (xs : List Event). RepresentsWorld setup engine c.events.player (g.C.EventCarrier.pipes c.events.carrier) (world_with setup answers (marked xs rs) new_world)) whole far.play;
      order = subst RequestsInOrder (sym (world_is setup answers (marked es rs) new_world)) (c.worlds_hold.ensures.order setup (with_cuts setup answers (marked es rs) new_world));
      whole = λ requests asked.
          in_the_end setup answers engine es i c.events.player (g.C.EventCarrier.pipes c.events.carrier) rs rs requests
          is c.events.invariant.known c.requires.few c.events.invariant.tied over far refl
          (subst (λ (xs : List Event). requests ≡ request_reports (world_with setup answers (marked xs rs) new_world) 1 (world_with setup answers (marked xs rs) new_world).asked_on) (sym whole) asked)
          (laws.whole setup answers es) (laws.plain setup answers es);
    }

pub happen-requires-clause-told : goal.happen-requires-clause-told
happen-requires-clause-told g c =
    just_told c.next_number.result (g.C.EventCarrier.began c.events.carrier) (g.C.EventCarrier.began c.begin.new.self) (g.C.EventCarrier.pipes c.events.carrier) (g.C.EventCarrier.pipes c.begin.new.self)
    c.in_ok-begin.ensures.told c.in_ok-begin.ensures.still

pub happen-requires-clause-sound : goal.happen-requires-clause-sound
happen-requires-clause-sound g c = subst (LiveAreSound (all_of c.events.player)) (sym c.in_ok-begin.ensures.still) c.events.invariant.sound

use Rattle.std.proofs.Common.{◌≡◌, ◌∙◌, inl, Some, false, ap, refl, rules, sym, subst, Bool, Option, option_map, ℕ}
use Rattle.std.specs.Prelude.{take}
use Rattle.tds_relay.specs.Fronts.{own_end, ends_in, given_by, core_in, machine_in, core_of_ends}
use Rattle.tds_relay.specs.Core.{closes_for, Open, asks_by, end_at}
use Rattle.tds_relay.specs.Queues.{Queues, queues_in, names_of}
use Rattle.tds_relay.specs.Ties.{Application, IsReached, pool_in}
use Rattle.tds_relay.proofs.steps.Fed.{closed_fed, end_open, end_there, ends_written, is_fed, refused_is, waits_refused}
use Rattle.tds_relay.proofs.steps.Fronts.{moved_same, ends_kept, moves_same, end_is}
use Rattle.tds_relay.proofs.steps.Queueing.{queues_kept}
use Rattle.tds_relay.proofs.steps.Told.{tells_fed, tells_refused}
use Rattle.slab.specs.Slab.{with_value, get}
use Rattle.tds_relay.proofs.steps.Asked.{asks_deaf, asks_fed, asks_links, asks_moved, asks_refused}
use Rattle.tds_relay.proofs.steps.Underway.{none_deaf, over_deaf, written_there}
use Rattle.tds_relay.proofs.steps.Staying.{stays_opens}
use Rattle.tds_relay.specs.Bodies.{Body, Obeys, body_in, body_of, going_of, CancelsSaid, standing_in}
use Rattle.tds_relay.specs.Waking.{PutsSaid}
use Rattle.tds_relay.proofs.steps.Bodied.{asks_kept, same_starts, shut, shut_starts}
use Rattle.tds_relay.proofs.steps.Carried.{carries_deaf, carries_fed, carries_moved, carries_refused}
use Rattle.tds_relay.proofs.steps.Renaming.{names_given}
use Rattle.tds_relay.specs.Closings.{Itself}
use Rattle.tds_relay.proofs.spared.Closings.{closes_both, closes_more}
use Rattle.tds_relay.proofs.spared.Sending.{kept_refl}
use Rattle.tds_relay.proofs.spared.Shutting.{closes_kept, closes_written, unclosed}
use Rattle.tds_front.specs.Bytes.{fed}
use Rattle.tds_front.specs.declared.front.Front.{Front}
use Rattle.tds_packet.specs.declared.status.Reset.{Reset}
use Rattle.tds_relay.specs.Reasons.{GivesReason, ItselfFor, ReasonBy, ReasonWith, room_left}
use Rattle.tds_relay.proofs.spared.Reasons.{may_before}
use Rattle.tds_relay.proofs.lending.Resting.{others_both, others_refl, written_rest}
use Rattle.tds_relay.proofs.spared.Elsewhere.{aside_refl}
use Rattle.tds_relay.specs.Reads.{waits_on}
use Rattle.tds_relay.proofs.steps.Tied.{goes_tied, relay_tied, slab_tied}
use Rattle.tds_relay.specs.Pool.{find_key}
use Rattle.tds_relay.proofs.steps.Heeding.{cancels_deaf, cancels_fed, cancels_moved, cancels_refused, tells_reached}
use Rattle.tds_relay.proofs.steps.Still.{puts_more, same_at}
use Rattle.tds_relay.proofs.spared.Rightly.{deaf_right, right_by, unkept_right}
use Rattle.tds_relay.specs.Asking.{IsTakenBack}
use Rattle.tds_relay.specs.Sparing.{IsKept}
use Rattle.tds_relay.proofs.spared.Starting.{unkept_over}
use Rattle.tds_relay.specs.declared.relay.Relay as code
use Rattle.tds_relay.proofs.lending.Earlier.{anew_refl}
use Rattle.tds_relay.proofs.lending.Tending.{tend_refl}
use Rattle.tds_relay.proofs.lending.Parting.{leaves_of}
use Rattle.tds_relay.proofs.relay.Relay.take.Goals as goal
use Rattle.tds_relay.specs.Places.{is_closed, own_reset, took_back}

pub returns-in-Err-clause-tells : goal.returns-in-Err-clause-tells
returns-in-Err-clause-tells c = λ first bytes t.
    let slab = c.args.self.now.applications in
    let a = c.in-Some.application.now in
    let es = ends_in slab in
    let here : is_closed a ≡ false = sym c.is_over.ensures ∙ c.if-is_over.false in
    let was = end_there slab c.args.key a c.in-Some.ensures.value ∙ ap Some (end_open a here) in
    let says = sym c.feed.ensures.brings ∙ c.in-Err.is in
    tells_refused c.args.key first bytes c.args.piece.now _ (machine_in c.args.self.now) (core_in c.expel_for.new.self) _ a.front (took_back a) (own_reset a) _ was
    (waits_refused c.args.key es c.args.piece.now a.front (took_back a) (own_reset a) _ (queues_in slab) was says)
    (refused_is c.args.key (pool_in c.args.self.now.pool) es c.args.piece.now a.front (took_back a) (own_reset a) _ was says)
    (moved_same (Application c.args.key) _ _ _ _ _ refl
    (sym (closed_fed (closes_for (Some c.in-Err.fault)) es _ c.args.key _ (own_end a) (ap (closes_for (Some c.in-Err.fault)) (end_open a here) ∙ sym (ap (closes_for (Some c.in-Err.fault)) (end_open c.feed.new.self (c.feed.ensures.over ∙ here)))) (end_there slab c.args.key a c.in-Some.ensures.value) (ends_written slab c.args.key _))) c.in_ok-expel_for-in-Err.ensures.moves)
    (c.in_ok-expel_for-in-Err.ensures.kept ∙ queues_kept slab c.args.key a _ c.in-Some.ensures.value c.feed.ensures.queue) t

pub returns-clause-tells : goal.returns-clause-tells
returns-clause-tells c = λ first bytes t.
    let slab = c.args.self.now.applications in
    let a = c.in-Some.application.now in
    let here : is_closed a ≡ false = sym c.is_over.ensures ∙ c.if-is_over.false in
    tells_fed c.args.key first bytes c.args.piece.now _ (pool_in c.args.self.now.pool) (ends_in slab) _ (queues_in slab) _ (core_in c.obey.new.self) c.in-Ok.fed.said
    c.in_ok-obey.ensures.moves
    (is_fed c.args.key slab a c.feed.new.self c.args.piece.now c.in-Ok.fed.count c.in-Ok.fed.said c.in-Some.ensures.value here (c.feed.ensures.over ∙ here) c.feed.ensures.withdrawn (c.in-Ok.ensures.asks here)
    c.feed.ensures.front (search rules)) refl
    (c.in_ok-obey.ensures.given ∙ ap (λ (ps : Queues). given_by c.args.key c.in-Ok.fed.said ps) (queues_kept slab c.args.key a _ c.in-Some.ensures.value c.feed.ensures.queue)) t

pub returns-in-Err-clause-asks : goal.returns-in-Err-clause-asks
returns-in-Err-clause-asks c = λ first bytes t.
    let slab = c.args.self.now.applications in
    let a = c.in-Some.application.now in
    let es = ends_in slab in
    let here : is_closed a ≡ false = sym c.is_over.ensures ∙ c.if-is_over.false in
    let was = end_there slab c.args.key a c.in-Some.ensures.value ∙ ap Some (end_open a here) in
    let says = sym c.feed.ensures.brings ∙ c.in-Err.is in
    asks_refused c.args.key first bytes c.args.piece.now _ _ (machine_in c.args.self.now) (core_in c.expel_for.new.self) _ a.front (took_back a) (own_reset a) _ was
    (waits_refused c.args.key es c.args.piece.now a.front (took_back a) (own_reset a) _ (queues_in slab) was says)
    (refused_is c.args.key (pool_in c.args.self.now.pool) es c.args.piece.now a.front (took_back a) (own_reset a) _ was says) says
    (moved_same (Application c.args.key) _ _ _ _ _ refl
    (sym (closed_fed (closes_for (Some c.in-Err.fault)) es _ c.args.key _ (own_end a) (ap (closes_for (Some c.in-Err.fault)) (end_open a here) ∙ sym (ap (closes_for (Some c.in-Err.fault)) (end_open c.feed.new.self (c.feed.ensures.over ∙ here)))) (end_there slab c.args.key a c.in-Some.ensures.value) (ends_written slab c.args.key _))) c.in_ok-expel_for-in-Err.ensures.moves)
    (c.in_ok-expel_for-in-Err.ensures.kept ∙ queues_kept slab c.args.key a _ c.in-Some.ensures.value c.feed.ensures.queue)
    (asks_links c.args.key first (machine_in c.args.self.now) bytes c.args.piece.now _ _ (stays_opens _ _ c.in_ok-expel_for-in-Err.ensures.read) t)

pub returns-clause-asks : goal.returns-clause-asks
returns-clause-asks c = λ first bytes t.
    let slab = c.args.self.now.applications in
    let a = c.in-Some.application.now in
    let here : is_closed a ≡ false = sym c.is_over.ensures ∙ c.if-is_over.false in
    asks_fed c.args.key first bytes c.args.piece.now _ _ _ (pool_in c.args.self.now.pool) (ends_in slab) _ (queues_in slab) _ (core_in c.obey.new.self) c.in-Ok.fed.said
    c.in_ok-obey.ensures.moves
    (is_fed c.args.key slab a c.feed.new.self c.args.piece.now c.in-Ok.fed.count c.in-Ok.fed.said c.in-Some.ensures.value here (c.feed.ensures.over ∙ here) c.feed.ensures.withdrawn (c.in-Ok.ensures.asks here)
    c.feed.ensures.front (search rules))
    c.in_ok-obey.ensures.underway c.in_ok-obey.ensures.read refl
    (c.in_ok-obey.ensures.given ∙ ap (λ (ps : Queues). given_by c.args.key c.in-Ok.fed.said ps) (queues_kept slab c.args.key a _ c.in-Some.ensures.value c.feed.ensures.queue)) t

pub returns-in_default-clause-asks : goal.returns-in_default-clause-asks
returns-in_default-clause-asks c = λ first bytes t.
    asks_deaf c.args.key first (machine_in c.args.self.now) bytes c.args.piece.now _ _ (none_deaf c.args.key c.args.self.now.applications (search rules)) t

pub returns-then-is_over-clause-asks : goal.returns-then-is_over-clause-asks
returns-then-is_over-clause-asks c = λ first bytes t.
    let slab = c.args.self.now.applications in
    let a = c.in-Some.application.now in
    asks_moved c.args.key first bytes _ _ (core_in c.args.self.now) (core_of_ends (pool_in c.args.self.now.pool) (ends_in (with_value slab c.args.key a))) (queues_in slab) (queues_in (with_value slab c.args.key a))
    (λ from m. moves_same (Application c.args.key) from _ _ _ _ refl (ends_kept slab c.args.key a a c.in-Some.ensures.value refl) m) (queues_kept slab c.args.key a a c.in-Some.ensures.value refl)
    (asks_deaf c.args.key first (machine_in c.args.self.now) bytes c.args.piece.now _ _ (over_deaf c.args.key slab a c.in-Some.ensures.value (sym c.is_over.ensures ∙ c.if-is_over.true)) t)

pub returns-in_default-clause-carries : goal.returns-in_default-clause-carries
returns-in_default-clause-carries c = λ first bytes at t.
    carries_deaf c.args.key first (machine_in c.args.self.now) bytes c.args.piece.now _ at (body_of c.args.key c.args.self.now) (none_deaf c.args.key c.args.self.now.applications (search rules)) t

pub returns-then-is_over-clause-carries : goal.returns-then-is_over-clause-carries
returns-then-is_over-clause-carries c = λ first bytes at t.
    let slab = c.args.self.now.applications in
    let a = c.in-Some.application.now in
    carries_moved c.args.key first bytes _ at (body_of c.args.key c.args.self.now) (body_in (get (with_value slab c.args.key a) c.args.key) (going_of c.args.key c.args.self.now)) (core_in c.args.self.now) (core_of_ends (pool_in c.args.self.now.pool) (ends_in (with_value slab c.args.key a))) (queues_in slab) (queues_in (with_value slab c.args.key a))
    (λ from m. moves_same (Application c.args.key) from _ _ _ _ refl (ends_kept slab c.args.key a a c.in-Some.ensures.value refl) m) (queues_kept slab c.args.key a a c.in-Some.ensures.value refl)
    (same_starts (body_of c.args.key c.args.self.now) (body_in (get (with_value slab c.args.key a) c.args.key) (going_of c.args.key c.args.self.now)) (asks_kept slab c.args.key a a c.in-Some.ensures.value (λ goes. refl) c.args.key (going_of c.args.key c.args.self.now)))
    (slab_tied (with_value slab c.args.key a) c.args.key (going_of c.args.key c.args.self.now) (λ end. goes_tied end c.args.self.now.pool.service c.args.self.now.links.items (find_key c.args.key c.args.self.now.pool.holds.items)))
    (carries_deaf c.args.key first (machine_in c.args.self.now) bytes c.args.piece.now _ at (body_of c.args.key c.args.self.now) (over_deaf c.args.key slab a c.in-Some.ensures.value (sym c.is_over.ensures ∙ c.if-is_over.true)) t)

pub returns-in-Err-clause-carries : goal.returns-in-Err-clause-carries
returns-in-Err-clause-carries c = λ first bytes at t.
    let slab = c.args.self.now.applications in
    let a = c.in-Some.application.now in
    let es = ends_in slab in
    let here : is_closed a ≡ false = sym c.is_over.ensures ∙ c.if-is_over.false in
    let was = end_there slab c.args.key a c.in-Some.ensures.value ∙ ap Some (end_open a here) in
    let says = sym c.feed.ensures.brings ∙ c.in-Err.is in
    carries_refused c.args.key first bytes c.args.piece.now _ at (body_of c.args.key c.args.self.now) (body_of c.args.key c.expel_for.new.self) (machine_in c.args.self.now) (core_in c.expel_for.new.self) _ a.front (took_back a) (own_reset a) _ was
    (waits_refused c.args.key es c.args.piece.now a.front (took_back a) (own_reset a) _ (queues_in slab) was says)
    (refused_is c.args.key (pool_in c.args.self.now.pool) es c.args.piece.now a.front (took_back a) (own_reset a) _ was says) says
    (moved_same (Application c.args.key) _ _ _ _ _ refl
    (sym (closed_fed (closes_for (Some c.in-Err.fault)) es _ c.args.key _ (own_end a) (ap (closes_for (Some c.in-Err.fault)) (end_open a here) ∙ sym (ap (closes_for (Some c.in-Err.fault)) (end_open c.feed.new.self (c.feed.ensures.over ∙ here)))) (end_there slab c.args.key a c.in-Some.ensures.value) (ends_written slab c.args.key _))) c.in_ok-expel_for-in-Err.ensures.moves)
    (c.in_ok-expel_for-in-Err.ensures.kept ∙ queues_kept slab c.args.key a _ c.in-Some.ensures.value c.feed.ensures.queue)
    (shut_starts c.expel_for.new.self.applications c.args.key (body_of c.args.key c.args.self.now) (going_of c.args.key c.expel_for.new.self) c.in_ok-expel_for-in-Err.ensures.over) (relay_tied c.args.key c.expel_for.new.self) t

pub returns-clause-carries : goal.returns-clause-carries
returns-clause-carries c = λ first bytes at t.
    let slab = c.args.self.now.applications in
    let a = c.in-Some.application.now in
    let here : is_closed a ≡ false = sym c.is_over.ensures ∙ c.if-is_over.false in
    let same = asks_kept slab c.args.key a c.feed.new.self c.in-Some.ensures.value c.feed.ensures.body c.args.key (going_of c.args.key c.args.self.now) in
    carries_fed c.args.key first bytes c.args.piece.now _ at (body_of c.args.key c.args.self.now) (body_of c.args.key c.obey.new.self) (pool_in c.args.self.now.pool) (ends_in slab) _ (queues_in slab) _ (core_in c.obey.new.self) c.in-Ok.fed.said
    c.in_ok-obey.ensures.moves
    (is_fed c.args.key slab a c.feed.new.self c.args.piece.now c.in-Ok.fed.count c.in-Ok.fed.said c.in-Some.ensures.value here (c.feed.ensures.over ∙ here) c.feed.ensures.withdrawn (c.in-Ok.ensures.asks here)
    c.feed.ensures.front (search rules))
    (subst (λ (b : Body). Obeys c.in-Ok.fed.said (take c.in-Ok.fed.count c.args.piece.now) b (body_of c.args.key c.obey.new.self)) same c.in_ok-obey.ensures.body) refl
    (c.in_ok-obey.ensures.given ∙ ap (λ (ps : Queues). given_by c.args.key c.in-Ok.fed.said ps) (queues_kept slab c.args.key a _ c.in-Some.ensures.value c.feed.ensures.queue))
    (λ d. shut_starts c.obey.new.self.applications c.args.key (body_of c.args.key c.args.self.now) (going_of c.args.key c.obey.new.self) d) (relay_tied c.args.key c.obey.new.self) t

pub returns-in_default-clause-cancels : goal.returns-in_default-clause-cancels
returns-in_default-clause-cancels c = λ first bytes at t.
    cancels_deaf c.args.key first (machine_in c.args.self.now) bytes c.args.piece.now _ at (standing_in c.args.key c.args.self.now) (none_deaf c.args.key c.args.self.now.applications (search rules)) t

pub returns-then-is_over-clause-cancels : goal.returns-then-is_over-clause-cancels
returns-then-is_over-clause-cancels c = λ first bytes at t.
    let slab = c.args.self.now.applications in
    let a = c.in-Some.application.now in
    cancels_moved c.args.key first bytes _ at (standing_in c.args.key c.args.self.now) (body_in (get (with_value slab c.args.key a) c.args.key) (going_of c.args.key c.args.self.now), λ (number : ℕ). waits_on number c.args.self.now.links.items) (core_in c.args.self.now) (core_of_ends (pool_in c.args.self.now.pool) (ends_in (with_value slab c.args.key a))) (queues_in slab) (queues_in (with_value slab c.args.key a))
    (λ from m. moves_same (Application c.args.key) from _ _ _ _ refl (ends_kept slab c.args.key a a c.in-Some.ensures.value refl) m) (queues_kept slab c.args.key a a c.in-Some.ensures.value refl)
    (inl (asks_kept slab c.args.key a a c.in-Some.ensures.value (λ goes. refl) c.args.key (going_of c.args.key c.args.self.now), λ number. same_at (waits_on number c.args.self.now.links.items)))
    (slab_tied (with_value slab c.args.key a) c.args.key (going_of c.args.key c.args.self.now) (λ end. goes_tied end c.args.self.now.pool.service c.args.self.now.links.items (find_key c.args.key c.args.self.now.pool.holds.items)))
    (cancels_deaf c.args.key first (machine_in c.args.self.now) bytes c.args.piece.now _ at (standing_in c.args.key c.args.self.now) (over_deaf c.args.key slab a c.in-Some.ensures.value (sym c.is_over.ensures ∙ c.if-is_over.true)) t)

pub returns-in-Err-clause-cancels : goal.returns-in-Err-clause-cancels
returns-in-Err-clause-cancels c = λ first bytes at t.
    let slab = c.args.self.now.applications in
    let a = c.in-Some.application.now in
    let es = ends_in slab in
    let here : is_closed a ≡ false = sym c.is_over.ensures ∙ c.if-is_over.false in
    let was = end_there slab c.args.key a c.in-Some.ensures.value ∙ ap Some (end_open a here) in
    let says = sym c.feed.ensures.brings ∙ c.in-Err.is in
    cancels_refused c.args.key first bytes c.args.piece.now _ at (standing_in c.args.key c.args.self.now) (standing_in c.args.key c.expel_for.new.self) (machine_in c.args.self.now) (core_in c.expel_for.new.self) _ a.front (took_back a) (own_reset a) _ was
    (waits_refused c.args.key es c.args.piece.now a.front (took_back a) (own_reset a) _ (queues_in slab) was says)
    (refused_is c.args.key (pool_in c.args.self.now.pool) es c.args.piece.now a.front (took_back a) (own_reset a) _ was says) says
    (moved_same (Application c.args.key) _ _ _ _ _ refl
    (sym (closed_fed (closes_for (Some c.in-Err.fault)) es _ c.args.key _ (own_end a) (ap (closes_for (Some c.in-Err.fault)) (end_open a here) ∙ sym (ap (closes_for (Some c.in-Err.fault)) (end_open c.feed.new.self (c.feed.ensures.over ∙ here)))) (end_there slab c.args.key a c.in-Some.ensures.value) (ends_written slab c.args.key _))) c.in_ok-expel_for-in-Err.ensures.moves)
    (c.in_ok-expel_for-in-Err.ensures.kept ∙ queues_kept slab c.args.key a _ c.in-Some.ensures.value c.feed.ensures.queue)
    (shut c.expel_for.new.self.applications c.args.key (going_of c.args.key c.expel_for.new.self) c.in_ok-expel_for-in-Err.ensures.over) (λ number. c.in_ok-expel_for-in-Err.ensures.read.fills number)
    (λ reached. leaves_of c.args.key c.args.self.now c.expel_for.new.self (c.in_ok-expel_for-in-Err.ensures.lets reached)) c.in_ok-expel_for-in-Err.ensures.over t

pub returns-clause-cancels : goal.returns-clause-cancels
returns-clause-cancels c = λ first bytes at t.
    let slab = c.args.self.now.applications in
    let a = c.in-Some.application.now in
    let here : is_closed a ≡ false = sym c.is_over.ensures ∙ c.if-is_over.false in
    let same = asks_kept slab c.args.key a c.feed.new.self c.in-Some.ensures.value c.feed.ensures.body c.args.key (going_of c.args.key c.args.self.now) in
    cancels_fed c.args.key first bytes c.args.piece.now _ at (standing_in c.args.key c.args.self.now) (standing_in c.args.key c.obey.new.self) (pool_in c.args.self.now.pool) (ends_in slab) _ (queues_in slab) _ (core_in c.obey.new.self) c.in-Ok.fed.said
    c.in_ok-obey.ensures.moves
    (is_fed c.args.key slab a c.feed.new.self c.args.piece.now c.in-Ok.fed.count c.in-Ok.fed.said c.in-Some.ensures.value here (c.feed.ensures.over ∙ here) c.feed.ensures.withdrawn (c.in-Ok.ensures.asks here)
    c.feed.ensures.front (search rules))
    (record {
      obeys = subst (λ (b : Body). Obeys c.in-Ok.fed.said (take c.in-Ok.fed.count c.args.piece.now) b (body_of c.args.key c.obey.new.self)) same c.in_ok-obey.ensures.body;
      fills = λ number. c.in_ok-obey.ensures.read.fills number;
      cancels = subst (λ (b : Body). CancelsSaid c.in-Ok.fed.said b (standing_in c.args.key c.obey.new.self)) same c.in_ok-obey.ensures.cancels;
      puts = subst (λ (b : Body). PutsSaid (IsReached first.core.pool) c.in-Ok.fed.said (take c.in-Ok.fed.count c.args.piece.now) (b, λ (number : ℕ). waits_on number c.args.self.now.links.items) (standing_in c.args.key c.obey.new.self)) same
          (puts_more (IsReached (pool_in c.args.self.now.pool)) (IsReached first.core.pool) c.in-Ok.fed.said (take c.in-Ok.fed.count c.args.piece.now) _ _ (tells_reached c.args.key first bytes c.args.piece.now (machine_in c.args.self.now) t.tells) c.in_ok-obey.ensures.puts);
      closes = tt;
    }) refl
    (c.in_ok-obey.ensures.given ∙ ap (λ (ps : Queues). given_by c.args.key c.in-Ok.fed.said ps) (queues_kept slab c.args.key a _ c.in-Some.ensures.value c.feed.ensures.queue))
    (λ d. (shut c.obey.new.self.applications c.args.key (going_of c.args.key c.obey.new.self) d, λ number. c.in_ok-obey.ensures.read.fills number)) (relay_tied c.args.key c.obey.new.self) t

pub returns-in-Err-clause-names : goal.returns-in-Err-clause-names
returns-in-Err-clause-names c =
    ap names_of (c.in_ok-expel_for-in-Err.ensures.kept ∙ queues_kept c.args.self.now.applications c.args.key c.in-Some.application.now _ c.in-Some.ensures.value c.feed.ensures.queue)

pub returns-clause-names : goal.returns-clause-names
returns-clause-names c =
    let slab = c.args.self.now.applications in
    ap names_of (c.in_ok-obey.ensures.given ∙ ap (λ (ps : Queues). given_by c.args.key c.in-Ok.fed.said ps) (queues_kept slab c.args.key c.in-Some.application.now _ c.in-Some.ensures.value c.feed.ensures.queue))
    ∙ names_given c.args.key c.in-Ok.fed.said (queues_in slab)

pub returns-then-is_over-clause-names : goal.returns-then-is_over-clause-names
returns-then-is_over-clause-names c = ap names_of (queues_kept c.args.self.now.applications c.args.key c.in-Some.application.now c.in-Some.application.now c.in-Some.ensures.value refl)

pub returns-then-is_over-clause-closes : goal.returns-then-is_over-clause-closes
returns-then-is_over-clause-closes c = closes_kept _ _ _ (ends_kept c.args.self.now.applications c.args.key c.in-Some.application.now c.in-Some.application.now c.in-Some.ensures.value refl) (queues_kept c.args.self.now.applications c.args.key c.in-Some.application.now c.in-Some.application.now c.in-Some.ensures.value refl) refl (kept_refl c.args.self.now.links.items) (unclosed _ _ refl)

pub returns-in-Err-clause-closes : goal.returns-in-Err-clause-closes
returns-in-Err-clause-closes c =
    let a = c.in-Some.application.now in
    let r = c.args.self.now in
    let here : is_closed a ≡ false = sym c.is_over.ensures ∙ c.if-is_over.false in
    let was = end_there r.applications c.args.key a c.in-Some.ensures.value ∙ ap Some (end_open a here) in
    let why : GivesReason c.args.piece.now c.args.key r =
    subst (ReasonBy c.args.piece.now c.args.key r) (sym was)
    (subst (ReasonWith c.args.piece.now c.args.key r (fed a.front c.args.piece.now).front (took_back a) (own_reset a)) (c.feed.ensures.brings) (subst (ReasonWith c.args.piece.now c.args.key r (fed a.front c.args.piece.now).front (took_back a) (own_reset a)) (sym c.in-Err.is) tt)) in
    closes_both (ItselfFor c.args.key (GivesReason c.args.piece.now c.args.key r)) _ _ _
    (closes_written _ c.args.self.now.applications c.args.key c.in-Some.application.now c.feed.new.self _ _ c.in-Some.ensures.value c.feed.ensures.over refl refl (queues_kept c.args.self.now.applications c.args.key c.in-Some.application.now c.feed.new.self c.in-Some.ensures.value c.feed.ensures.queue) refl (kept_refl c.args.self.now.links.items) (unclosed _ _ refl))
    (closes_more (Itself c.args.key) (ItselfFor c.args.key (GivesReason c.args.piece.now c.args.key r)) _ _ (λ other same. (same, why)) c.in_ok-expel_for-in-Err.ensures.closes)

pub returns-clause-closes : goal.returns-clause-closes
returns-clause-closes c =
    let slab = c.args.self.now.applications in
    let a = c.in-Some.application.now in
    let b = c.feed.new.self in
    let r = c.args.self.now in
    let piece = c.args.piece.now in
    let said = c.in-Ok.fed.said in
    let here : is_closed a ≡ false = sym c.is_over.ensures ∙ c.if-is_over.false in
    let was = end_there slab c.args.key a c.in-Some.ensures.value ∙ ap Some (end_open a here) in
    let behind : Front = (fed a.front piece).front in
    let now : end_at (ends_in (with_value slab c.args.key b)) c.args.key ≡ Some (Open behind (took_back a) (asks_by said (own_reset a))) =
    end_is (with_value slab c.args.key b) c.args.key ∙ ap (option_map own_end) (written_there slab c.args.key a b c.in-Some.ensures.value) ∙ ap Some (end_open b (c.feed.ensures.over ∙ here))
    ∙ ap (λ (f : Front). Some (Open f (took_back b) (own_reset b))) c.feed.ensures.front ∙ ap (λ (w : Bool). Some (Open behind w (own_reset b))) c.feed.ensures.withdrawn ∙ ap (λ (o : Option Reset). Some (Open behind (took_back a) o)) (c.in-Ok.ensures.asks here) in
    let same = asks_kept slab c.args.key a b c.in-Some.ensures.value c.feed.ensures.body c.args.key (going_of c.args.key r) in
    let rooms : room_left (get (with_value slab c.args.key b) c.args.key) ≡ room_left (get slab c.args.key) =
    ap room_left (written_there slab c.args.key a b c.in-Some.ensures.value) ∙ c.feed.ensures.room ∙ ap room_left c.in-Some.ensures.value in
    closes_both (ItselfFor c.args.key (GivesReason piece c.args.key r)) _ _ _
    (closes_written _ c.args.self.now.applications c.args.key c.in-Some.application.now c.feed.new.self _ _ c.in-Some.ensures.value c.feed.ensures.over refl refl (queues_kept c.args.self.now.applications c.args.key c.in-Some.application.now c.feed.new.self c.in-Some.ensures.value c.feed.ensures.queue) refl (kept_refl c.args.self.now.links.items) (unclosed _ _ refl))
    (closes_more _ (ItselfFor c.args.key (GivesReason piece c.args.key r)) _ _
    (λ other x. (
      x.0,
      subst (ReasonBy piece c.args.key r) (sym was)
          (subst (ReasonWith piece c.args.key r behind (took_back a) (own_reset a)) c.feed.ensures.brings (subst (ReasonWith piece c.args.key r behind (took_back a) (own_reset a)) (sym c.in-Ok.is)
          (may_before said (take c.in-Ok.fed.count piece) c.args.key _ _ _ _ r.pool r.links.items _ _ _ _ now rooms (queues_kept slab c.args.key a b c.in-Some.ensures.value c.feed.ensures.queue) same x.1))),
    ))
    c.in_ok-obey.ensures.closes)

pub returns-in_default-clause-others : goal.returns-in_default-clause-others
returns-in_default-clause-others c = λ reached. others_refl c.args.key c.args.self.now

pub returns-then-is_over-clause-others : goal.returns-then-is_over-clause-others
returns-then-is_over-clause-others c = λ reached. written_rest c.args.key _ c.args.self.now _ refl refl refl

pub returns-in-Err-clause-others : goal.returns-in-Err-clause-others
returns-in-Err-clause-others c = λ reached. others_both c.args.key c.args.self.now _ c.expel_for.new.self (written_rest c.args.key _ c.args.self.now _ refl refl refl) (c.in_ok-expel_for-in-Err.ensures.others reached)

pub returns-clause-others : goal.returns-clause-others
returns-clause-others c = λ reached. others_both c.args.key c.args.self.now _ c.obey.new.self (written_rest c.args.key _ c.args.self.now _ refl refl refl) (c.in_ok-obey.ensures.others reached)

pub returns-in_default-clause-aside : goal.returns-in_default-clause-aside
returns-in_default-clause-aside c = λ reached. aside_refl c.args.key c.args.self.now

pub returns-then-is_over-clause-aside : goal.returns-then-is_over-clause-aside
returns-then-is_over-clause-aside c = λ reached. aside_refl c.args.key c.args.self.now

pub returns-in-Err-clause-aside : goal.returns-in-Err-clause-aside
returns-in-Err-clause-aside c = λ reached. c.in_ok-expel_for-in-Err.ensures.aside reached

pub returns-clause-aside : goal.returns-clause-aside
returns-clause-aside c = λ reached. c.in_ok-obey.ensures.aside reached

pub returns-in_default-clause-right : goal.returns-in_default-clause-right
returns-in_default-clause-right c = λ right. right

pub returns-then-is_over-clause-right : goal.returns-then-is_over-clause-right
returns-then-is_over-clause-right c = λ right.
    let r = c.args.self.now in
    let a = c.in-Some.application.now in
    let slab = r.applications in
    let back : code.Relay = record r { applications = with_value slab c.args.key a } in
    unkept_right c.args.key back (unkept_over (with_value slab c.args.key a) c.args.key a (going_of c.args.key back) (sym (written_there slab c.args.key a a c.in-Some.ensures.value)) (sym c.is_over.ensures ∙ c.if-is_over.true))

pub returns-in-Err-clause-right : goal.returns-in-Err-clause-right
returns-in-Err-clause-right c = λ right. deaf_right c.args.key c.expel_for.new.self c.in_ok-expel_for-in-Err.ensures.over

pub returns-clause-right : goal.returns-clause-right
returns-clause-right c = λ right.
    let slab = c.args.self.now.applications in
    let a = c.in-Some.application.now in
    let b = c.feed.new.self in
    let r = c.args.self.now in
    let here : is_closed a ≡ false = sym c.is_over.ensures ∙ c.if-is_over.false in
    let was = end_there slab c.args.key a c.in-Some.ensures.value ∙ ap Some (end_open a here) in
    let now = end_is (with_value slab c.args.key b) c.args.key ∙ ap (option_map own_end) (written_there slab c.args.key a b c.in-Some.ensures.value) ∙ ap Some (end_open b (c.feed.ensures.over ∙ here)) in
    let fed_in : code.Relay = record r { applications = with_value slab c.args.key b } in
    let same = asks_kept slab c.args.key a b c.in-Some.ensures.value c.feed.ensures.body c.args.key (going_of c.args.key r) in
    c.in_ok-obey.ensures.right
    (right_by c.args.key r fed_in refl (λ taken. subst IsTakenBack (sym now) (c.feed.ensures.withdrawn ∙ subst IsTakenBack was taken)) (λ kept. subst IsKept same kept) (λ n some. some) right)

pub returns-in_default-clause-anew : goal.returns-in_default-clause-anew
returns-in_default-clause-anew c = λ reached. anew_refl c.args.self.now

pub returns-then-is_over-clause-anew : goal.returns-then-is_over-clause-anew
returns-then-is_over-clause-anew c = λ reached. anew_refl c.args.self.now

pub returns-in-Err-clause-anew : goal.returns-in-Err-clause-anew
returns-in-Err-clause-anew c = λ reached number hold found le. c.in_ok-expel_for-in-Err.ensures.answers.keeps number

pub returns-clause-anew : goal.returns-clause-anew
returns-clause-anew c = λ reached. c.in_ok-obey.ensures.anew reached

pub returns-in_default-clause-awaits : goal.returns-in_default-clause-awaits
returns-in_default-clause-awaits c = tend_refl (pool_in c.args.self.now.pool) c.args.self.now.links.items

pub returns-then-is_over-clause-awaits : goal.returns-then-is_over-clause-awaits
returns-then-is_over-clause-awaits c = tend_refl (pool_in c.args.self.now.pool) c.args.self.now.links.items

pub returns-in-Err-clause-awaits : goal.returns-in-Err-clause-awaits
returns-in-Err-clause-awaits c = c.in_ok-expel_for-in-Err.ensures.awaits

pub returns-clause-awaits : goal.returns-clause-awaits
returns-clause-awaits c = c.in_ok-obey.ensures.awaits

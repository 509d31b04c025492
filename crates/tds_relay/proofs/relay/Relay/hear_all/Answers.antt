use Rattle.std.proofs.Common.{◌≡◌, ◌∙◌, [], ap, inl, length, refl, suc, sym, rules, None, Some}
use Rattle.tds_relay.specs.Waiting.{LosesAt, ByPacket, HeardFor, IsItsHolders}
use Rattle.tds_relay.specs.Fronts.{core_in, ends_in, machine_in, told_by}
use Rattle.tds_relay.specs.Ordering.{opens_in}
use Rattle.tds_relay.specs.Queues.{names_of, queues_in}
use Rattle.tds_relay.specs.Reads.{answer_at, open_at, waits_on}
use Rattle.tds_relay.specs.Ties.{Connection, pool_in}
use Rattle.tds_relay.proofs.spared.Coming.{along_refl, one_along}
use Rattle.tds_relay.proofs.spared.Ordered.{ordered_more, ordered_refl}
use Rattle.tds_relay.proofs.spared.Waking.{one_wakes, wakes_same}
use Rattle.tds_relay.proofs.steps.Faults.{refused_next}
use Rattle.tds_relay.proofs.steps.Fronts.{moved_same}
use Rattle.tds_relay.proofs.steps.Reaching.{reached_on}
use Rattle.tds_relay.proofs.steps.Staying.{opens_refl, others_both, others_open, others_stay, stays_refl}
use Rattle.tds_relay.proofs.bytes.SetAnew.{anew_all, anew_begin, anew_left, anew_on}
use Rattle.tds_relay.proofs.steps.Asked.{empty_is}
use Rattle.tds_relay.proofs.bytes.Streaming.{heard_stays}
use Rattle.tds_relay.proofs.bytes.Turns.{some_is, streams_all, turned, turns_begin, turns_end}
use Rattle.tds_relay.specs.Closings.{register_in}
use Rattle.tds_relay.proofs.spared.Losing.{loses_by}
use Rattle.tds_relay.proofs.spared.Closings.{closes_refl, one_closes}
use Rattle.tds_relay.proofs.spared.Few.{none_both, none_heard, none_refl, none_stays}
use Rattle.tds_relay.proofs.spared.Only.{one_spares, spares_refl}
use Rattle.tds_relay.proofs.spared.Off.{off_none, one_off}
use Rattle.tds_relay.proofs.spared.Filling.{first_refl}
use Rattle.tds_relay.proofs.lending.Firsts.{one_first}
use Rattle.tds_relay.proofs.lending.Leases.{goes_given}
use Rattle.tds_relay.proofs.lending.Rests.{one_rests, rests_refl}
use Rattle.tds_relay.proofs.spared.Opening.{many_on}
use Rattle.tds_relay.proofs.spared.Counted.{one_lost}
use Rattle.tds_relay.proofs.lending.Drained.{cleans_nothing, one_cleans}
use Rattle.tds_relay.proofs.lending.Stilled.{still_next, still_refl}
use Rattle.tds_relay.proofs.lending.Dialled.{hears_next, hears_stays}
use Rattle.tds_relay.specs.Coming.{acknowledged_in, asking_in}
use Rattle.tds_relay.proofs.bytes.Telling.{tells_all, tells_begin, tells_left, tells_more}
use Rattle.tds_relay.proofs.steps.Answering.{told_since}
use Rattle.tds_relay.proofs.lending.Tending.{tend_all, tend_refl}
use Rattle.tds_relay.proofs.lending.Awaiting.{one_awaits}
use Rattle.tds_relay.proofs.relay.Relay.hear_all.Goals as goal

pub taking-init : goal.taking-init
taking-init c = record {
  turns = turns_begin (open_at c.args.number c.args.self.now.links.items) c.args.piece.now;
  goes = λ from h. h;
  names = refl;
  anew = anew_begin c.args.number (answer_at c.args.number c.args.self.now.links.items) (open_at c.args.number c.args.self.now.links.items) (machine_in c.args.self.now) c.args.self.now.pool.service c.args.piece.now;
  told = tells_begin c.args.number (asking_in c.args.self.now.applications) (open_at c.args.number c.args.self.now.links.items) (machine_in c.args.self.now) c.args.self.now.pool.service c.args.piece.now;
  others = others_open c.args.number _ _ (opens_refl c.args.self.now.links.items);
  bodies = λ reached. along_refl c.args.self.now;
  closes = closes_refl (HeardFor c.args.number c.args.piece.now c.args.self.now) (register_in c.args.self.now);
  spares = λ reached. spares_refl c.args.number _ (core_in c.args.self.now);
  refused = inl refl;
  ordered = ordered_refl c.args.self.now.orders.items;
  none = none_refl c.args.self.now.links.items;
  wakes = wakes_same (queues_in c.args.self.now.applications) c.args.self.now.applications c.args.self.now.orders.items refl;
  seated = λ s. s;
  opening = refl;
  apart = off_none c.args.number None c.args.self.now;
  many = (stays_refl c.args.self.now.links.items).few;
  counts = inl refl;
  cleans = λ reached free. cleans_nothing c.args.self.now.pool.service.given (waits_on c.args.number c.args.self.now.links.items);
  keeps = λ reached. first_refl (IsItsHolders c.args.number c.args.self.now) c.args.self.now;
  rests = λ seated key. rests_refl c.args.number key c.args.self.now;
  still = still_refl _ c.args.self.now.links.items;
  awaits = tend_refl (pool_in c.args.self.now.pool) c.args.self.now.links.items;
  given = hears_stays c.args.number c.args.self.now.links.items c.args.self.now.links.items (stays_refl c.args.self.now.links.items);
}

pub taking-preserved : goal.taking-preserved
taking-preserved c = record {
  turns =
      turned (open_at c.args.number c.taking.self.links.items) _ (open_at c.args.number c.heard.new.self.links.items) c.taking.rest.now _ _ c.taking.counter (length c.args.piece.now)
      (some_is c.taking.rest.now (sym c.is_empty.ensures ∙ c.if-is_empty.false)) c.behind-rest.ensures c.in_ok-count.ensures.takes c.in_ok-count.ensures.less
      (heard_stays c.args.number _ c.hear.new.self.links.items c.heard.new.self.links.items c.in_ok-heard.ensures.read c.in_ok-heard.ensures.gone) c.taking.invariant.turns;
  goes = λ from h. c.in_ok-heard.ensures.goes c.args.number from (c.in_ok-count.ensures.goes from (c.taking.invariant.goes from h));
  names = ap names_of c.in_ok-heard.ensures.kept ∙ c.in_ok-count.ensures.names ∙ c.taking.invariant.names;
  anew =
      anew_left c.args.number _ _ _ _ _ _ _ _ _ _ _ c.behind-rest.ensures
      (anew_on c.args.number _ _ _ _ _ _ _ _ _ _ _ _ _ _ _ _ _ _ _ _ c.taking.invariant.anew c.in_ok-count.ensures.continues
      (moved_same (Connection c.args.number) _ _ _ _ _ refl (ap (told_by _) c.in_ok-count.ensures.ends) c.in_ok-heard.ensures.moves)
      c.in_ok-heard.ensures.kept c.in_ok-heard.ensures.read c.in_ok-heard.ensures.gone c.in_ok-heard.ensures.stand c.in_ok-heard.ensures.begins);
  told =
      tells_left c.args.number _ _ _ _ _ _ _ _ _ _ _ c.behind-rest.ensures
      (tells_more c.args.number (asking_in c.args.self.now.applications) (asking_in c.taking.self.applications) (asking_in c.heard.new.self.applications) _ _ _ _ _ _ _ _ _ _ _ _ _ _ _ _ _ _ c.taking.invariant.told c.in_ok-count.ensures.told
      (moved_same (Connection c.args.number) _ _ _ _ _ refl (ap (told_by _) c.in_ok-count.ensures.ends) c.in_ok-heard.ensures.moves)
      c.in_ok-heard.ensures.kept c.in_ok-heard.ensures.read c.in_ok-heard.ensures.gone c.in_ok-heard.ensures.stand
      (told_since (acknowledged_in c.in_ok-count.heard) c.in_ok-count.heard c.taking.self.applications c.hear.new.self.applications (ends_in c.taking.self.applications) (asking_in c.heard.new.self.applications) c.in_ok-count.ensures.ends c.in_ok-count.ensures.asks c.in_ok-heard.ensures.told));
  others = others_stay c.args.number _ _ _ (others_both c.args.number _ _ _ c.taking.invariant.others c.in_ok-count.ensures.others) c.in_ok-heard.ensures.read;
  bodies = λ reached.
      one_along c.args.number c.args.self.now c.taking.self c.hear.new.self c.heard.new.self reached (c.taking.invariant.bodies reached) c.taking.invariant.goes c.in_ok-count.ensures.goes c.in_ok-count.ensures.asks c.in_ok-heard.ensures.bodies;
  closes =
      one_closes (LosesAt c.args.number c.in_ok-count.heard c.hear.new.self) (HeardFor c.args.number c.args.piece.now c.args.self.now) (register_in c.args.self.now) (register_in c.taking.self) (register_in c.hear.new.self) (register_in c.heard.new.self)
      (λ key why seated. ByPacket c.taking.self c.taking.rest.now c.taking.invariant.anew
      (record {
        opens = c.taking.invariant.others;
        goes = c.taking.invariant.apart;
        keeps = c.taking.invariant.keeps seated.reached;
        cleans = c.taking.invariant.cleans seated.reached;
        rests = c.taking.invariant.rests seated;
      })
      (loses_by c.args.number c.taking.rest.now _ c.taking.self c.hear.new.self _ key c.in_ok-count.ensures.hears refl c.in_ok-count.ensures.ends (c.in_ok-count.ensures.cleans (c.taking.invariant.seated seated).reached) c.in_ok-count.ensures.queues c.in_ok-count.ensures.asks (c.taking.invariant.seated seated) why))
      c.taking.invariant.closes c.in_ok-count.ensures.ends c.in_ok-count.ensures.names c.in_ok-count.ensures.same c.hear.ensures.orders c.hear.ensures.settings c.in_ok-heard.ensures.closes c.in_ok-heard.ensures.kept;
  spares = λ reached.
      one_spares c.args.number c.taking.rest.now _ (core_in c.args.self.now) c.taking.self c.hear.new.self c.heard.new.self _ (reached_on (Connection c.args.number) _ _ c.taking.invariant.goes reached) (c.taking.invariant.spares reached)
      c.in_ok-count.ensures.hears c.in_ok-count.ensures.ends c.in_ok-count.ensures.goes c.in_ok-heard.ensures.spares;
  refused =
      refused_next c.args.number (LosesAt c.args.number c.in_ok-count.heard c.hear.new.self) _ _ _ (register_in c.hear.new.self) (register_in c.heard.new.self)
      c.taking.invariant.refused c.in_ok-count.ensures.refused refl c.in_ok-heard.ensures.closes;
  ordered = ordered_more _ _ _ _ c.taking.invariant.ordered c.hear.ensures.orders c.in_ok-heard.ensures.ordered;
  none =
      none_both _ _ _ c.taking.invariant.none
      (none_both _ _ _ (none_heard _ _ (λ other. (c.in_ok-count.ensures.same other).0)) (none_stays _ _ c.in_ok-heard.ensures.read));
  wakes =
      one_wakes c.args.number (queues_in c.args.self.now.applications) c.taking.self c.hear.new.self c.heard.new.self _ c.taking.invariant.wakes c.in_ok-count.ensures.ends c.in_ok-count.ensures.names c.in_ok-count.ensures.puts c.hear.ensures.orders
      c.in_ok-heard.ensures.kept c.in_ok-heard.ensures.ordered c.in_ok-heard.ensures.moves c.in_ok-heard.ensures.wakes;
  seated = λ s. c.in_ok-heard.ensures.seated (c.in_ok-count.ensures.seated (c.taking.invariant.seated s));
  apart =
      one_off c.args.number c.taking.rest.now _ c.args.self.now c.taking.self c.hear.new.self c.heard.new.self _ c.taking.invariant.goes c.taking.invariant.apart c.taking.invariant.spares
      c.in_ok-count.ensures.hears c.in_ok-count.ensures.goes c.in_ok-count.ensures.off (λ other. (c.in_ok-count.ensures.same other).0) c.in_ok-count.ensures.asks c.in_ok-heard.ensures.apart;
  counts =
      one_lost c.args.number c.taking.rest.now _ c.args.self.now c.taking.self c.hear.new.self c.heard.new.self _ c.in_ok-count.ensures.hears c.hear.ensures.counts (λ other. (c.in_ok-count.ensures.same other).0) c.in_ok-heard.ensures.read
      c.in_ok-heard.ensures.counts c.taking.invariant.counts;
  cleans = λ reached free.
      let there = reached_on (Connection c.args.number) _ _ c.taking.invariant.goes reached in
      let behind = reached_on (Connection c.args.number) _ _ c.in_ok-count.ensures.goes there in
      one_cleans c.args.number c.args.self.now.pool.service.given c.taking.rest.now _ (waits_on c.args.number c.args.self.now.links.items) c.taking.self c.hear.new.self c.heard.new.self _ there
      (goes_given (Connection c.args.number) _ _ there c.in_ok-count.ensures.goes) (goes_given (Connection c.args.number) _ _ behind (c.in_ok-heard.ensures.goes c.args.number)) c.in_ok-count.ensures.leases
      (λ key. (c.taking.invariant.spares reached key (λ e. let u : None ≡ Some key = e in let v : ⊥ = cc in v) (λ e. let u : None ≡ Some key = sym free ∙ e in let v : ⊥ = cc in v)).0)
      c.in_ok-count.ensures.hears refl c.in_ok-count.ensures.cleans (λ other. (c.in_ok-count.ensures.same other).0) c.in_ok-heard.ensures.gone c.in_ok-heard.ensures.counts c.in_ok-heard.ensures.sent (c.taking.invariant.cleans reached free);
  keeps = λ reached.
      one_first c.args.number c.taking.rest.now _ c.args.self.now c.taking.self c.hear.new.self c.heard.new.self _ (reached_on (Connection c.args.number) _ _ c.taking.invariant.goes reached) (c.taking.invariant.keeps reached)
      (c.taking.invariant.spares reached) c.in_ok-count.ensures.hears refl c.in_ok-count.ensures.keeps
      (c.in_ok-heard.ensures.keeps (reached_on (Connection c.args.number) _ _ (λ from h. c.in_ok-count.ensures.goes from (c.taking.invariant.goes from h)) reached)).others;
  rests = λ seated key holds.
      let at = c.taking.invariant.seated seated in
      let behind = reached_on (Connection c.args.number) _ _ c.in_ok-count.ensures.goes at.reached in
      one_rests c.args.number c.taking.rest.now _ key c.taking.self c.hear.new.self c.heard.new.self _ at c.in_ok-count.ensures.hears refl (c.in_ok-heard.ensures.spares behind) holds c.args.self.now (c.taking.invariant.rests seated key)
      (c.in_ok-count.ensures.cleans at.reached) (λ other. (c.in_ok-count.ensures.same other).0) c.in_ok-count.ensures.asks (c.in_ok-heard.ensures.keeps behind) holds;
  still =
      still_next c.args.number c.taking.rest.now _ c.args.self.now.links.items c.taking.self c.hear.new.self c.heard.new.self _ c.taking.invariant.given c.in_ok-count.ensures.given c.taking.invariant.still c.in_ok-count.ensures.still
      c.in_ok-count.ensures.hears c.in_ok-heard.ensures.others c.in_ok-heard.ensures.sent;
  given = hears_next c.args.number c.args.self.now.links.items c.taking.self.links.items c.hear.new.self.links.items c.heard.new.self.links.items c.taking.invariant.given c.in_ok-count.ensures.given c.in_ok-heard.ensures.read;
  awaits =
      tend_all c.args.self.now c.taking.self c.heard.new.self (reached_on (Connection c.args.number) _ _ c.taking.invariant.goes) c.taking.invariant.awaits
      (one_awaits c.args.number c.in_ok-count.heard c.taking.self c.hear.new.self c.heard.new.self c.in_ok-count.ensures.goes c.in_ok-heard.ensures.goes c.in_ok-count.ensures.newly (λ n. (c.in_ok-count.ensures.same n).0) c.in_ok-heard.ensures.keeps c.in_ok-heard.ensures.sent);
  opening = c.heard.ensures.opening ∙ ap opens_in c.hear.ensures.orders ∙ c.taking.invariant.opening;
  many = many_on (length c.args.self.now.links.items) (length c.taking.self.links.items) (length c.hear.new.self.links.items) (length c.heard.new.self.links.items) c.taking.invariant.many c.in_ok-count.ensures.many c.in_ok-heard.ensures.read.few;
}

pub returns-clause-streams : goal.returns-clause-streams
returns-clause-streams c =
    let last : c.taking.counter ≡ suc (length c.args.piece.now) = search rules in
    streams_all c.args.number _ (open_at c.args.number c.taking.self.links.items) _ _ _ _ c.args.piece.now c.taking.rest.now
    (turns_end (open_at c.args.number c.taking.self.links.items) c.taking.rest.now c.taking.counter (length c.args.piece.now) last c.taking.invariant.turns) c.taking.invariant.anew.streams

pub returns-clause-anew : goal.returns-clause-anew
returns-clause-anew c =
    let last : c.taking.counter ≡ suc (length c.args.piece.now) = search rules in
    anew_all c.args.number _ _ _ (open_at c.args.number c.taking.self.links.items) _ _ _ _ c.args.piece.now c.taking.rest.now
    (turns_end (open_at c.args.number c.taking.self.links.items) c.taking.rest.now c.taking.counter (length c.args.piece.now) last c.taking.invariant.turns) c.taking.invariant.anew

pub returns-then-is_empty-clause-anew : goal.returns-then-is_empty-clause-anew
returns-then-is_empty-clause-anew c =
    let none : c.taking.rest.now ≡ [] = sym (empty_is c.taking.rest.now (sym c.is_empty.ensures ∙ c.if-is_empty.true)) in
    anew_all c.args.number _ _ _ (open_at c.args.number c.taking.self.links.items) _ _ _ _ c.args.piece.now c.taking.rest.now none c.taking.invariant.anew

pub returns-clause-told : goal.returns-clause-told
returns-clause-told c =
    let last : c.taking.counter ≡ suc (length c.args.piece.now) = search rules in
    tells_all c.args.number _ _ _ (open_at c.args.number c.taking.self.links.items) _ _ _ _ c.args.piece.now c.taking.rest.now
    (turns_end (open_at c.args.number c.taking.self.links.items) c.taking.rest.now c.taking.counter (length c.args.piece.now) last c.taking.invariant.turns) c.taking.invariant.told

pub returns-then-is_empty-clause-told : goal.returns-then-is_empty-clause-told
returns-then-is_empty-clause-told c =
    let none : c.taking.rest.now ≡ [] = sym (empty_is c.taking.rest.now (sym c.is_empty.ensures ∙ c.if-is_empty.true)) in
    tells_all c.args.number _ _ _ (open_at c.args.number c.taking.self.links.items) _ _ _ _ c.args.piece.now c.taking.rest.now none c.taking.invariant.told

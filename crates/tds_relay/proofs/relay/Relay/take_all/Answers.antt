use Rattle.std.proofs.Common.{◌∙◌, length, refl, rules, sym}
use Rattle.tds_relay.specs.Ties.{Application, pool_in}
use Rattle.tds_relay.specs.Fronts.{machine_in}
use Rattle.tds_relay.proofs.steps.Staying.{stays_both, stays_refl}
use Rattle.tds_relay.proofs.steps.Told.{tells_begin, tells_left}
use Rattle.tds_relay.proofs.bytes.Turns.{each_end, few, some_is, turned_each}
use Rattle.tds_relay.specs.Waiting.{ByPiece, HasReason}
use Rattle.tds_relay.specs.Reasons.{ItselfFor}
use Rattle.tds_relay.proofs.steps.Asked.{asks_begin, asks_left, empty_is}
use Rattle.tds_relay.specs.Bodies.{body_of, standing_in}
use Rattle.tds_relay.proofs.steps.Carried.{carries_begin, carries_left}
use Rattle.tds_relay.specs.Closings.{register_in}
use Rattle.tds_relay.proofs.spared.Closings.{closes_both, closes_more, closes_refl}
use Rattle.tds_relay.proofs.lending.Resting.{others_both, others_refl}
use Rattle.tds_relay.proofs.spared.Speaking.{reached_by}
use Rattle.tds_relay.proofs.spared.Elsewhere.{aside_both, aside_refl}
use Rattle.tds_relay.proofs.steps.Heeding.{cancels_begin, cancels_left}
use Rattle.tds_relay.proofs.steps.Tied.{relay_tied}
use Rattle.tds_relay.proofs.lending.Earlier.{anew_both, anew_refl}
use Rattle.tds_relay.proofs.lending.Tending.{tend_all, tend_refl}
use Rattle.tds_relay.proofs.relay.Relay.take_all.Goals as goal

pub taking-init : goal.taking-init
taking-init c = record {
  turns = few c.args.piece.now;
  goes = λ from h. h;
  names = refl;
  tells = tells_begin c.args.key (machine_in c.args.self.now) c.args.piece.now;
  asks = asks_begin c.args.key (machine_in c.args.self.now) c.args.piece.now c.args.self.now.links.items;
  read = stays_refl c.args.self.now.links.items;
  closes = closes_refl (ItselfFor c.args.key (HasReason c.args.key c.args.piece.now c.args.self.now)) (register_in c.args.self.now);
  carries = carries_begin c.args.key (machine_in c.args.self.now) c.args.piece.now (body_of c.args.key c.args.self.now) (relay_tied c.args.key c.args.self.now);
  cancels = cancels_begin c.args.key (machine_in c.args.self.now) c.args.piece.now (standing_in c.args.key c.args.self.now) (relay_tied c.args.key c.args.self.now);
  stand = λ n r h. h;
  seated = λ s. s;
  others = λ reached. others_refl c.args.key c.args.self.now;
  aside = λ reached. aside_refl c.args.key c.args.self.now;
  anew = λ reached. anew_refl c.args.self.now;
  awaits = tend_refl (pool_in c.args.self.now.pool) c.args.self.now.links.items;
  opening = refl;
  right = λ h. h;
}

pub taking-preserved : goal.taking-preserved
taking-preserved c = record {
  turns = turned_each c.taking.rest.now _ _ c.taking.counter (length c.args.piece.now) (some_is c.taking.rest.now (sym c.is_empty.ensures ∙ c.if-is_empty.false)) c.behind-rest.ensures c.in_ok-count.ensures.some c.taking.invariant.turns;
  goes = λ from h. c.in_ok-count.ensures.goes from (c.taking.invariant.goes from h);
  names = c.in_ok-count.ensures.names ∙ c.taking.invariant.names;
  tells = tells_left c.args.key _ _ _ _ _ c.behind-rest.ensures (c.in_ok-count.ensures.tells (machine_in c.args.self.now) c.args.piece.now c.taking.invariant.tells);
  asks = asks_left c.args.key _ _ _ _ _ _ c.behind-rest.ensures (c.in_ok-count.ensures.asks (machine_in c.args.self.now) c.args.piece.now c.taking.invariant.asks);
  read = stays_both _ _ _ c.taking.invariant.read c.in_ok-count.ensures.read;
  closes = closes_both (ItselfFor c.args.key (HasReason c.args.key c.args.piece.now c.args.self.now)) _ _ _ c.taking.invariant.closes
      (closes_more _ (ItselfFor c.args.key (HasReason c.args.key c.args.piece.now c.args.self.now)) _ _ (λ other x. (
        x.0,
        ByPiece c.taking.self c.taking.rest.now (record {
          carries = c.taking.invariant.carries;
          heeds = c.taking.invariant.cancels;
          stays = c.taking.invariant.read;
          aside = c.taking.invariant.aside;
          right = c.taking.invariant.right;
        }) x.1,
      )) c.in_ok-count.ensures.closes);
  carries = carries_left c.args.key _ _ _ _ _ _ _ c.behind-rest.ensures (c.in_ok-count.ensures.carries (machine_in c.args.self.now) c.args.piece.now (body_of c.args.key c.args.self.now) c.taking.invariant.carries);
  cancels = cancels_left c.args.key _ _ _ _ _ _ _ c.behind-rest.ensures (c.in_ok-count.ensures.cancels (machine_in c.args.self.now) c.args.piece.now (standing_in c.args.key c.args.self.now) c.taking.invariant.cancels);
  stand = λ n r h. c.in_ok-count.ensures.stand n r (c.taking.invariant.stand n r h);
  seated = λ s. c.in_ok-count.ensures.seated (c.taking.invariant.seated s);
  others = λ reached. others_both c.args.key c.args.self.now c.taking.self c.take.new.self (c.taking.invariant.others reached) (c.in_ok-count.ensures.others (reached_by c.args.key c.args.self.now.pool c.taking.self.pool c.taking.invariant.goes reached));
  aside = λ reached. aside_both c.args.key c.args.self.now c.taking.self c.take.new.self (c.taking.invariant.aside reached) (c.in_ok-count.ensures.aside (reached_by c.args.key c.args.self.now.pool c.taking.self.pool c.taking.invariant.goes reached));
  anew = λ reached.
      let by = Application c.args.key in
      let led = reached_by c.args.key c.args.self.now.pool c.taking.self.pool c.taking.invariant.goes reached in
      anew_both by by c.args.self.now c.taking.self c.take.new.self reached led c.taking.invariant.goes c.in_ok-count.ensures.goes (c.taking.invariant.anew reached) (c.in_ok-count.ensures.anew led);
  awaits = tend_all c.args.self.now c.taking.self c.take.new.self (reached_by c.args.key c.args.self.now.pool c.taking.self.pool c.taking.invariant.goes) c.taking.invariant.awaits c.in_ok-count.ensures.awaits;
  opening = c.take.ensures.opening ∙ c.taking.invariant.opening;
  right = λ h. c.in_ok-count.ensures.right (c.taking.invariant.right h);
}

pub returns-clause-tells : goal.returns-clause-tells
returns-clause-tells c = tells_left c.args.key _ _ _ _ _ (sym (each_end c.taking.rest.now c.taking.counter (length c.args.piece.now) (search rules) c.taking.invariant.turns)) c.taking.invariant.tells

pub returns-clause-asks : goal.returns-clause-asks
returns-clause-asks c = asks_left c.args.key _ _ _ _ _ _ (sym (each_end c.taking.rest.now c.taking.counter (length c.args.piece.now) (search rules) c.taking.invariant.turns)) c.taking.invariant.asks

pub returns-then-is_empty-clause-asks : goal.returns-then-is_empty-clause-asks
returns-then-is_empty-clause-asks c =
    asks_left c.args.key _ _ _ _ _ _ (empty_is c.taking.rest.now (sym c.is_empty.ensures ∙ c.if-is_empty.true)) c.taking.invariant.asks

pub returns-clause-carries : goal.returns-clause-carries
returns-clause-carries c = carries_left c.args.key _ _ _ _ _ _ _ (sym (each_end c.taking.rest.now c.taking.counter (length c.args.piece.now) (search rules) c.taking.invariant.turns)) c.taking.invariant.carries

pub returns-then-is_empty-clause-carries : goal.returns-then-is_empty-clause-carries
returns-then-is_empty-clause-carries c =
    carries_left c.args.key _ _ _ _ _ _ _ (empty_is c.taking.rest.now (sym c.is_empty.ensures ∙ c.if-is_empty.true)) c.taking.invariant.carries

pub returns-clause-cancels : goal.returns-clause-cancels
returns-clause-cancels c = cancels_left c.args.key _ _ _ _ _ _ _ (sym (each_end c.taking.rest.now c.taking.counter (length c.args.piece.now) (search rules) c.taking.invariant.turns)) c.taking.invariant.cancels

pub returns-then-is_empty-clause-cancels : goal.returns-then-is_empty-clause-cancels
returns-then-is_empty-clause-cancels c =
    cancels_left c.args.key _ _ _ _ _ _ _ (empty_is c.taking.rest.now (sym c.is_empty.ensures ∙ c.if-is_empty.true)) c.taking.invariant.cancels

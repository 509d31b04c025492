use Rattle.std.proofs.Common.{◌≡◌, ◌≤◌, ℕ, suc, length, ap, arith, refl, sym, ◌∙◌, inl, inr, rules, subst}
use Rattle.std.proofs.Math.Nat.{zero-add}
use Rattle.tds_relay.proofs.spared.Apart.{lends_nobody, lends_none, lends_on, served_shorter, unserved_on, unserved_refl}
use Rattle.tds_relay.proofs.spared.Ordered.{ordered_both, ordered_refl}
use Rattle.tds_relay.proofs.steps.Fronts.{moves_does}
use Rattle.tds_relay.proofs.steps.Reaching.{reaches_turn}
use Rattle.tds_relay.proofs.steps.Staying.{opens_both, opens_refl, stays_refl}
use Rattle.tds_relay.proofs.lending.Stilled.{still_lent, still_refl}
use Rattle.tds_relay.proofs.lending.Dialled.{given_lent, given_refl}
use Rattle.tds_relay.proofs.lending.Front.{lends_first, lent_front, lent_none}
use Rattle.tds_relay.proofs.lending.Fresh.{dials_both, dials_refl, features_kept, size_kept}
use Rattle.tds_relay.proofs.lending.Resting.{go_both, go_refl, reached_on_does, reached_serves, served_go}
use Rattle.tds_relay.specs.Closings.{IsWaiting, Itself, register_in}
use Rattle.tds_relay.specs.Waiting.{IsLentInVain}
use Rattle.tds_relay.proofs.spared.Turned.{lent_in_vain}
use Rattle.tds_relay.specs.Fronts.{core_in}
use Rattle.tds_relay.specs.Ties.{IsReached, pool_in, Serving}
use Rattle.tds_relay.proofs.spared.Lines.{served_waited}
use Rattle.tds_relay.proofs.spared.Closings.{closes_both, closes_more, closes_refl}
use Rattle.tds_relay.proofs.spared.Lasting.{last_both, last_more, last_start}
use Rattle.tds_relay.proofs.spared.Few.{few_lent, most_kept, none_refl}
use Rattle.tds_relay.proofs.seats.Pools.{unserved}
use Rattle.tds_relay.proofs.seats.Relays.{lent_if}
use Rattle.tds_relay.proofs.spared.Opening.{grows_both, grows_refl, lent_opens, on_last, opens_new_both, opens_none, opens_same, turn_last}
use Rattle.tds_relay.specs.Pool.{Pool, Serves, find_number}
use Rattle.tds_relay.proofs.spared.Filling.{lends_more, lends_nothing, lends_refl}
use Rattle.tds_relay.proofs.spared.Away.{away_lent, away_pool, away_refl}
use Rattle.tds_relay.proofs.lending.Earlier.{anew_refl, served_anew, turn_was}
use Rattle.tds_relay.proofs.lending.Leases.{on_given}
use Rattle.tds_relay.proofs.held.Numbers.{apart_at}
use Rattle.tds_relay.proofs.spared.Held.{sound_at}
use Rattle.tds_relay.proofs.steps.Answering.{ask_both, ask_refl}
use Rattle.tds_relay.proofs.relay.Relay.serve_line.Goals as goal

pub line-init : goal.line-init
line-init c =
    let old = c.args.self.now in
    let may = IsWaiting (pool_in old.pool).line in
    record {
      goes = λ by from h. h;
      kept = refl;
      moves = λ by from h. h;
      opens = opens_refl old.links.items;
      stand = λ n r h. h;
      going = go_refl old;
      asks = ask_refl old.applications;
      ordered = ordered_refl old.orders.items;
      unserved = unserved_refl (core_in old);
      lends = lends_none (core_in old);
      few = inl (none_refl old.links.items);
      shorter = zero-add (length old.pool.line.items);
      lasting = last_start may (register_in old);
      seated = λ s. s;
      counts = refl;
      opening = opens_none old;
      closes = closes_refl may (register_in old);
      vain = closes_refl (IsLentInVain old) (register_in old);
      fills = λ r. lends_refl old;
      many = grows_refl old;
      aside = λ r. away_refl old;
      given = given_refl old (stays_refl old.links.items);
      still = still_refl _ old.links.items;
      fresh = dials_refl old.size old.features old.links.items;
      anew = λ r. anew_refl old;
      behind = λ r sharing led. lends_first old;
    }

pub line-preserved : goal.line-preserved
line-preserved c = record {
  goes = λ by from h. c.in_ok-lend-in-Some.ensures.goes by from (reaches_turn by from _ _ _ _ _ c.in_ok-served.ensures.ok.0 tt (c.line.invariant.goes by from h));
  kept = c.in_ok-lend-in-Some.ensures.kept ∙ c.line.invariant.kept;
  moves = λ by from h. c.in_ok-lend-in-Some.ensures.moves by from (moves_does by from _ _ _ _ _ _ _ c.in_ok-served.ensures.ok.0 tt tt refl (c.line.invariant.moves by from h));
  opens = opens_both _ _ _ c.line.invariant.opens c.in_ok-lend-in-Some.ensures.opens;
  stand = λ n r h. c.in_ok-lend-in-Some.ensures.stand n r (c.in_ok-served.ensures.stand n r (c.line.invariant.stand n r h));
  going =
      go_both _ _ _ (λ r. reached_serves _ _ _ _ c.in_ok-served.ensures.ok.0 (reached_on_does _ _ c.line.invariant.goes r))
      (served_go _ _ _ c.line.invariant.goes c.line.invariant.going c.in_ok-served.ensures.holds refl refl) c.in_ok-lend-in-Some.ensures.goes_on;
  asks = ask_both c.args.self.now.applications c.line.self.applications c.lend.new.self.applications c.line.invariant.asks c.in_ok-lend-in-Some.ensures.asks;
  ordered = ordered_both _ _ _ c.line.invariant.ordered c.in_ok-lend-in-Some.ensures.ordered;
  few = few_lent _ _ _ _ _ (pool_in c.line.self.pool) _ c.in-Some.served (most_kept _ _ c.line.invariant.closes.told) (c.is_full.ensures.lends (search rules)) c.in_ok-served.ensures.ok.1 c.in-Some.is c.in_ok-lend-in-Some.ensures.few c.line.invariant.few;
  closes =
      closes_both (IsWaiting (pool_in c.args.self.now.pool).line) _ _ _ c.line.invariant.closes
      (closes_more _ (IsWaiting (pool_in c.args.self.now.pool).line) _ _
      (λ key e. served_waited (core_in c.args.self.now) (core_in c.line.self) _ c.in-Some.served c.line.invariant.unserved c.in_ok-served.ensures.ok.1 c.in-Some.is key e.0) c.in_ok-lend-in-Some.ensures.closes);
  vain =
      closes_both (IsLentInVain c.args.self.now) _ _ _ c.line.invariant.vain
      (closes_more _ (IsLentInVain c.args.self.now) _ _
      (λ key e. lent_in_vain c.args.self.now c.line.self c.serve.new.self _ c.in-Some.served key c.line.invariant.unserved c.in_ok-served.ensures.ok.1 c.in-Some.is c.in_ok-served.ensures.ok.0 c.line.invariant.moves
      (served_go _ _ _ c.line.invariant.goes c.line.invariant.going c.in_ok-served.ensures.holds refl refl) c.line.invariant.opens c.line.invariant.fills e.0 e.1) c.in_ok-lend-in-Some.ensures.closes);
  shorter =
      let gone : suc (length c.serve.new.self.line.items) ≡ length c.line.self.pool.line.items =
      served_shorter (pool_in c.line.self.pool) (pool_in c.serve.new.self) _ c.in-Some.served _ _ c.in_ok-served.ensures.ok.1 c.in-Some.is c.in_ok-served.ensures.ok.0 in
      let stays : length c.lend.new.self.pool.line.items ≡ length c.serve.new.self.line.items = ap (length {A = ℕ}) c.in_ok-lend-in-Some.ensures.alone.line in
      omega (arith, c.line.invariant.shorter, gone, stays);
  lasting =
      last_both (IsWaiting (pool_in c.args.self.now.pool).line) _ (register_in c.line.self) _ c.line.invariant.closes
      (closes_more _ (IsWaiting (pool_in c.args.self.now.pool).line) _ _
      (λ key e. served_waited (core_in c.args.self.now) (core_in c.line.self) _ c.in-Some.served c.line.invariant.unserved c.in_ok-served.ensures.ok.1 c.in-Some.is key e.0) c.in_ok-lend-in-Some.ensures.closes)
      c.line.invariant.lasting
      (last_more (Itself c.in-Some.served.hold.key) (IsWaiting (pool_in c.args.self.now.pool).line) _ _
      (served_waited (core_in c.args.self.now) (core_in c.line.self) _ c.in-Some.served c.line.invariant.unserved c.in_ok-served.ensures.ok.1 c.in-Some.is) c.in_ok-lend-in-Some.ensures.lasts);
  lends =
      lends_on _ _ _ _ _ _ c.in-Some.served _ _ c.line.invariant.lends c.in_ok-served.ensures.ok.1 c.in-Some.is c.in_ok-served.ensures.ok.0 refl c.in_ok-lend-in-Some.ensures.alone;
  unserved =
      unserved_on _ _ _ _ _ c.in-Some.served _ _ c.line.invariant.unserved c.in_ok-served.ensures.ok.1 c.in-Some.is c.in_ok-served.ensures.ok.0 refl c.in_ok-lend-in-Some.ensures.alone;
  seated = λ s.
      c.in_ok-lend-in-Some.ensures.seated
      (lent_if c.line.self.pool c.serve.new.self c.in-Some.served c.in-Some.served.had _ _ _ refl refl c.in_ok-served.ensures.ok.0 (subst (Serving (pool_in c.line.self.pool)) c.in-Some.is c.in_ok-served.ensures.ok.1) (c.line.invariant.seated s));
  counts = c.lend.ensures.counts ∙ c.line.invariant.counts;
  opening =
      opens_new_both c.args.self.now c.line.self c.lend.new.self c.line.invariant.opening
      (lent_opens c.in-Some.served c.line.self c.lend.new.self (pool_in c.serve.new.self) _ _ c.in_ok-served.ensures.ok.0 (subst (Serving (pool_in c.line.self.pool)) c.in-Some.is c.in_ok-served.ensures.ok.1) c.in_ok-lend-in-Some.ensures.opening
      (on_last (pool_in c.serve.new.self) (pool_in c.lend.new.self.pool) c.in_ok-lend-in-Some.ensures.goes));
  fills = λ r.
      lends_more c.args.self.now c.line.self c.lend.new.self c.serve.new.self _ c.in-Some.served
      (reached_serves _ _ _ _ c.in_ok-served.ensures.ok.0 (reached_on_does _ _ c.line.invariant.goes r)) c.in_ok-served.ensures.ok.0 c.in_ok-served.ensures.ok.1 c.in-Some.is
      (served_waited (core_in c.args.self.now) (core_in c.line.self) _ c.in-Some.served c.line.invariant.unserved c.in_ok-served.ensures.ok.1 c.in-Some.is c.in-Some.served.hold.key refl)
      (λ its. c.in_ok-lend-in-Some.ensures.own (reached_serves _ _ _ _ c.in_ok-served.ensures.ok.0 (reached_on_does _ _ c.line.invariant.goes r)) its) (c.line.invariant.fills r);
  many = grows_both c.args.self.now c.line.self c.lend.new.self c.line.invariant.many c.in_ok-lend-in-Some.ensures.many;
  anew = λ r.
      let mid = reached_on_does _ _ c.line.invariant.goes r in
      served_anew c.args.self.now c.line.self c.lend.new.self c.serve.new.self c.in-Some.served _ _ r c.line.invariant.goes mid (reached_serves _ _ _ _ c.in_ok-served.ensures.ok.0 mid) c.in_ok-served.ensures.ok.0
      (subst (Serving (pool_in c.line.self.pool)) c.in-Some.is c.in_ok-served.ensures.ok.1) c.in_ok-lend-in-Some.ensures.goes c.in_ok-lend-in-Some.ensures.elsewhere (c.line.invariant.anew r);
  behind = λ r sharing led.
      let mid = reached_on_does _ _ c.line.invariant.goes r in
      let next = reached_serves _ _ _ _ c.in_ok-served.ensures.ok.0 mid in
      lent_front c.args.self.now c.line.self c.lend.new.self c.serve.new.self _ c.in-Some.served sharing r led c.line.invariant.goes c.line.invariant.moves c.in_ok-served.ensures.ok.0 c.in_ok-served.ensures.ok.1 c.in-Some.is
      (served_waited (core_in c.args.self.now) (core_in c.line.self) _ c.in-Some.served c.line.invariant.unserved c.in_ok-served.ensures.ok.1 c.in-Some.is c.in-Some.served.hold.key refl) c.in_ok-served.ensures.holds c.line.invariant.going
      (c.line.invariant.fills r) (λ its. c.in_ok-lend-in-Some.ensures.own next its) (c.in_ok-lend-in-Some.ensures.others next) c.in_ok-lend-in-Some.ensures.behind (c.line.invariant.behind r sharing led)
      c.in_ok-lend-in-Some.ensures.goes c.in_ok-lend-in-Some.ensures.placed c.in_ok-lend-in-Some.ensures.alone c.in_ok-lend-in-Some.ensures.opens;
  aside = λ r.
      away_lent c.in-Some.served.hold.key c.args.self.now _ c.lend.new.self
      (served_waited (core_in c.args.self.now) (core_in c.line.self) _ c.in-Some.served c.line.invariant.unserved c.in_ok-served.ensures.ok.1 c.in-Some.is c.in-Some.served.hold.key refl)
      (away_pool c.args.self.now c.line.self _ (reached_on_does _ _ c.line.invariant.goes r) (c.line.invariant.aside r) c.in_ok-served.ensures.holds refl refl)
      (c.in_ok-lend-in-Some.ensures.others (reached_serves _ _ _ _ c.in_ok-served.ensures.ok.0 (reached_on_does _ _ c.line.invariant.goes r)));
  given =
      given_lent c.in-Some.served c.args.self.now c.line.self c.lend.new.self (pool_in c.serve.new.self) _ _ c.in_ok-served.ensures.ok.0 (subst (Serving (pool_in c.line.self.pool)) c.in-Some.is c.in_ok-served.ensures.ok.1)
      (on_last (pool_in c.args.self.now.pool) (pool_in c.line.self.pool) c.line.invariant.goes) c.line.invariant.given c.in_ok-lend-in-Some.ensures.given;
  still =
      still_lent c.in-Some.served c.args.self.now c.line.self c.lend.new.self (pool_in c.serve.new.self) _ _ c.in_ok-served.ensures.ok.0 (subst (Serving (pool_in c.line.self.pool)) c.in-Some.is c.in_ok-served.ensures.ok.1)
      (on_last (pool_in c.args.self.now.pool) (pool_in c.line.self.pool) c.line.invariant.goes) c.line.invariant.given c.line.invariant.still c.in_ok-lend-in-Some.ensures.still;
  fresh =
      dials_both c.args.self.now.size c.line.self.size c.args.self.now.features c.line.self.features c.args.self.now.links.items c.line.self.links.items c.lend.new.self.links.items
      (size_kept _ _ c.line.invariant.closes.told) (features_kept _ _ c.line.invariant.closes.told) c.line.invariant.fresh c.in_ok-lend-in-Some.ensures.fresh;
}

pub returns-in-None-clause-apart : goal.returns-in-None-clause-apart
returns-in-None-clause-apart c = λ key e. (c.line.invariant.unserved.was key e).1

pub returns-in-None-clause-moves : goal.returns-in-None-clause-moves
returns-in-None-clause-moves c = λ by from h. moves_does by from _ _ _ _ _ _ _ c.in_ok-served.ensures.ok.0 tt tt refl (c.line.invariant.moves by from h)

pub returns-in-None-clause-stand : goal.returns-in-None-clause-stand
returns-in-None-clause-stand c = λ n r h. c.in_ok-served.ensures.stand n r (c.line.invariant.stand n r h)

pub returns-in-None-clause-goes_on : goal.returns-in-None-clause-goes_on
returns-in-None-clause-goes_on c = served_go _ _ _ c.line.invariant.goes c.line.invariant.going c.in_ok-served.ensures.holds refl refl

pub returns-in-None-clause-goes : goal.returns-in-None-clause-goes
returns-in-None-clause-goes c = λ by from h. reaches_turn by from _ _ _ _ _ c.in_ok-served.ensures.ok.0 tt (c.line.invariant.goes by from h)

pub returns-then-is_full-clause-apart : goal.returns-then-is_full-clause-apart
returns-then-is_full-clause-apart c = λ key e. (c.line.invariant.unserved.was key e).1

pub returns-then-is_full-clause-served : goal.returns-then-is_full-clause-served
returns-then-is_full-clause-served c = inr (c.is_full.ensures.full (search rules))

pub returns-in-None-clause-seated : goal.returns-in-None-clause-seated
returns-in-None-clause-seated c = λ s.
    unserved (pool_in c.line.self.pool) (pool_in c.serve.new.self) _ _ c.line.self.links.items c.in_ok-served.ensures.ok.0 (subst (Serving (pool_in c.line.self.pool)) c.in-None.is c.in_ok-served.ensures.ok.1) (c.line.invariant.seated s)

pub returns-in-None-clause-opening : goal.returns-in-None-clause-opening
returns-in-None-clause-opening c = opens_new_both c.args.self.now c.line.self _ c.line.invariant.opening (opens_same c.line.self _ refl (turn_last Serves (pool_in c.line.self.pool) (pool_in c.serve.new.self) _ _ c.in_ok-served.ensures.ok.0))

pub returns-in-None-clause-lends : goal.returns-in-None-clause-lends
returns-in-None-clause-lends c = lends_nobody _ _ _ _ _ _ _ c.line.invariant.lends c.in_ok-served.ensures.ok.1 c.in-None.is c.in_ok-served.ensures.ok.0 refl

pub returns-then-is_full-clause-lends : goal.returns-then-is_full-clause-lends
returns-then-is_full-clause-lends c = c.line.invariant.lends

pub returns-in-None-clause-fills : goal.returns-in-None-clause-fills
returns-in-None-clause-fills c = λ r. lends_nothing c.args.self.now c.line.self c.serve.new.self _ c.in_ok-served.ensures.ok.0 c.in_ok-served.ensures.ok.1 c.in-None.is (c.line.invariant.fills r)

pub returns-in-None-clause-anew : goal.returns-in-None-clause-anew
returns-in-None-clause-anew c = λ r n h found le.
    let start = pool_in c.args.self.now.pool in
    let mid = pool_in c.line.self.pool in
    let reached : IsReached mid = reached_on_does _ _ c.line.invariant.goes r in
    let rises : start.service.given ≤ mid.service.given = on_given start mid r c.line.invariant.goes in
    let was : h.lease ≤ start.service.given = le in
    let less : h.lease ≤ mid.service.given = omega (arith, rises, was) in
    c.line.invariant.anew r n h (turn_was mid n h (apart_at mid reached) (sound_at mid reached).tidy less Serves (ap (λ (x : Pool). find_number n x.holds) (sym c.in_ok-served.ensures.ok.0.pool_is) ∙ found)) le

pub returns-in-None-clause-aside : goal.returns-in-None-clause-aside
returns-in-None-clause-aside c = λ r. away_pool c.args.self.now c.line.self _ (reached_on_does _ _ c.line.invariant.goes r) (c.line.invariant.aside r) c.in_ok-served.ensures.holds refl refl

pub returns-in-None-clause-behind : goal.returns-in-None-clause-behind
returns-in-None-clause-behind c = λ r sharing led.
    lent_none c.args.self.now c.line.self c.serve.new.self _ (reached_on_does _ _ c.line.invariant.goes r) c.in_ok-served.ensures.ok.0 c.in_ok-served.ensures.ok.1 c.in-None.is c.in_ok-served.ensures.holds (c.line.invariant.behind r sharing led)

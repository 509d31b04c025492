use Rattle.std.proofs.Common.{ℕ, ◌∙◌, ap, subst, sym, inl, inr, ◌≤◌, ◌≡◌, length, arith}
use Rattle.tds_relay.specs.Fronts.{core_in, machine_in}
use Rattle.tds_relay.specs.Ties.{pool_in, IsReached, Reaches, Neither}
use Rattle.tds_relay.proofs.steps.Stepping.{led_on, no_steps, steps_moved, steps_same, steps_whoever}
use Rattle.tds_relay.proofs.steps.Fullness.{full_queued}
use Rattle.tds_relay.proofs.steps.Staying.{opens_one_served, stays_behind, opens_alone}
use Rattle.tds_relay.proofs.bytes.Calls.{stand_back, stand_on}
use Rattle.tds_relay.specs.declared.pool.Pool as code
use Rattle.tds_relay.proofs.lending.Clients.{clients_behind, clients_served}
use Rattle.tds_relay.proofs.lending.Resting.{all_both, all_rest, asks_on, go_both, go_on, reached_on_does, rest_go}
use Rattle.tds_relay.specs.Reads.{queue_on, open_at, carried_there, waits_on}
use Rattle.tds_relay.proofs.spared.Starting.{started_on}
use Rattle.tds_relay.proofs.steps.Renaming.{names_on}
use Rattle.tds_relay.specs.Queues.{names_in, names_of}
use Rattle.tds_relay.proofs.spared.Ordered.{ordered_both, ordered_on, ordered_same}
use Rattle.tds_relay.proofs.spared.Lines.{waited_on}
use Rattle.tds_relay.specs.Closings.{IsWaiting, IsWho, NoKey, WhoOrWaiting, register_in}
use Rattle.tds_relay.specs.Core.{holder, is_in}
use Rattle.tds_relay.proofs.spared.Closings.{closes_both, closes_more, closes_nobody, closes_with, writes_behind, writes_stay}
use Rattle.tds_relay.proofs.spared.Few.{few_behind, most_kept, none_both, none_same, none_stays}
use Rattle.tds_relay.proofs.seats.Relays.{kept_seated, kept_there}
use Rattle.tds_relay.proofs.seats.Linked.{all_there}
use Rattle.tds_relay.proofs.steps.Reaching.{ok_more}
use Rattle.tds_relay.proofs.spared.Lasting.{last_all, last_from, last_links, last_same, last_then}
use Rattle.tds_relay.proofs.spared.Opening.{on_last, opens_new_on, opens_same, grows_both, grows_few, grows_on, grows_stays}
use Rattle.tds_relay.specs.Ordering.{opens_in}
use Rattle.tds_relay.proofs.spared.Apart.{lends_after}
use Rattle.tds_relay.proofs.spared.Filling.{carried_same, first_then, puts_on}
use Rattle.tds_relay.specs.Lent.{IsWithHolder}
use Rattle.tds_relay.specs.declared.link.Link.{Link}
use Rattle.tds_relay.specs.Reasons.{IsTurnedAwayAt}
use Rattle.tds_relay.proofs.spared.Turned.{opens_for}
use Rattle.tds_relay.specs.Waiting.{IsLentInVain, OpensOrLends}
use Rattle.tds_relay.proofs.lending.Dialled.{given_opened}
use Rattle.tds_relay.proofs.lending.Freed.{free_with}
use Rattle.tds_relay.proofs.lending.Front.{front_on}
use Rattle.tds_relay.proofs.lending.Fresh.{features_kept, new_behind, size_kept}
use Rattle.tds_relay.proofs.lending.Quiet.{opened_rests}
use Rattle.tds_relay.proofs.relay.Relay.opened.Goals as goal

pub returns-clause-steps : goal.returns-clause-steps
returns-clause-steps c =
    let old = machine_in c.args.self.now in
    steps_whoever c.serve_line.result old _ _ _ _
    (λ by.
    steps_moved by old _ _ _ _ (c.in_ok-start_on.ensures.moves by) c.in_ok-start_on.ensures.kept
    (steps_same by old _ _ _ _ _ _ (ap pool_in (c.in_ok-order_write_on.ensures.pool ∙ c.set_open.ensures.pool))
    (c.in_ok-order_write_on.ensures.ends ∙ c.set_open.ensures.ends) (c.in_ok-order_write_on.ensures.kept ∙ c.set_open.ensures.kept)
    (no_steps by old)))
    c.serve_line.ensures.moves c.serve_line.ensures.kept

pub returns-clause-opens : goal.returns-clause-opens
returns-clause-opens c =
    opens_one_served c.serve_line.result c.args.number _ _ _ _ c.set_open.ensures.opens c.set_open.ensures.waits c.set_open.ensures.answers c.set_open.ensures.seen
    (λ other. full_queued other c.args.self.now.links.items c.set_open.new.self.links.items (c.set_open.ensures.queues other))
    (stays_behind _ _ _ c.in_ok-order_write_on.ensures.links c.in_ok-start_on.ensures.read) c.serve_line.ensures.opens

pub returns-clause-stand : goal.returns-clause-stand
returns-clause-stand c = stand_on c.serve_line.result _ _ _ (stand_back _ _ _ (c.order_write_on.ensures.pool ∙ c.set_open.ensures.pool) c.in_ok-start_on.ensures.stand) c.serve_line.ensures.stand

pub returns-clause-goes_on : goal.returns-clause-goes_on
returns-clause-goes_on c =
    let same = c.order_write_on.ensures.pool ∙ c.set_open.ensures.pool in
    let led : IsReached (pool_in c.args.self.now.pool) → IsReached (pool_in c.order_write_on.new.self.pool) = λ r. subst (λ (d : code.Pool). IsReached (pool_in d)) (sym same) r in
    go_on c.serve_line.result c.args.self.now c.start_on.new.self c.serve_line.new.self
    (λ r. reached_on_does (pool_in c.order_write_on.new.self.pool) (pool_in c.start_on.new.self.pool) c.in_ok-start_on.ensures.goes (led r))
    (go_both c.args.self.now c.order_write_on.new.self c.start_on.new.self led
    (rest_go c.args.self.now c.order_write_on.new.self (λ r. all_both c.args.self.now c.set_open.new.self c.order_write_on.new.self c.set_open.ensures.same
    (all_rest c.set_open.new.self c.order_write_on.new.self c.order_write_on.ensures.pool c.in_ok-order_write_on.ensures.links
    (asks_on c.set_open.new.self c.order_write_on.new.self c.in_ok-order_write_on.ensures.asks))))
    c.in_ok-start_on.ensures.goes_on)
    c.serve_line.ensures.goes_on

pub returns-clause-starts : goal.returns-clause-starts
returns-clause-starts c = λ reached.
    let same = c.order_write_on.ensures.pool ∙ c.set_open.ensures.pool in
    started_on c.serve_line.result c.args.number c.args.self.now c.order_write_on.new.self c.start_on.new.self c.serve_line.new.self reached same
    (c.in_ok-order_write_on.ensures.ends ∙ c.set_open.ensures.ends)
    (λ other. ap (open_at other) c.in_ok-order_write_on.ensures.links ∙ c.set_open.ensures.opens other)
    (λ other. ap (waits_on other) c.in_ok-order_write_on.ensures.links ∙ c.set_open.ensures.waits other)
    (all_both c.args.self.now c.set_open.new.self c.order_write_on.new.self c.set_open.ensures.same
    (all_rest c.set_open.new.self c.order_write_on.new.self c.order_write_on.ensures.pool c.in_ok-order_write_on.ensures.links
    (asks_on c.set_open.new.self c.order_write_on.new.self c.in_ok-order_write_on.ensures.asks)))
    c.in_ok-start_on.ensures.goes_on c.serve_line.ensures.goes_on
    (λ r. reached_on_does (pool_in c.order_write_on.new.self.pool) (pool_in c.start_on.new.self.pool) c.in_ok-start_on.ensures.goes r)
    c.in_ok-start_on.ensures.waits c.in_ok-start_on.ensures.behind

pub returns-clause-names : goal.returns-clause-names
returns-clause-names c =
    names_on c.serve_line.result (names_in c.args.self.now.applications) c.start_on.new.self.applications c.serve_line.new.self.applications
    (ap names_of (c.in_ok-start_on.ensures.kept ∙ c.in_ok-order_write_on.ensures.kept ∙ c.set_open.ensures.kept)) c.serve_line.ensures.kept

pub returns-clause-ordered : goal.returns-clause-ordered
returns-clause-ordered c = ordered_on c.serve_line.result _ _ _ c.serve_line.ensures.ordered
    (ordered_both _ _ _ (ordered_both _ _ _ (ordered_same _ _ c.set_open.ensures.orders) c.in_ok-order_write_on.ensures.ordered) c.in_ok-start_on.ensures.ordered)

pub returns-clause-closes : goal.returns-clause-closes
returns-clause-closes c =
    let old = c.args.self.now in
    let at = c.order_write_on.new.self in
    let mid = c.start_on.new.self in
    let may = OpensOrLends c.args.number old in
    let same = c.order_write_on.ensures.pool ∙ c.set_open.ensures.pool in
    let led : IsReached (pool_in old.pool) → IsReached (pool_in at.pool) = λ r. subst (λ (d : code.Pool). IsReached (pool_in d)) (sym same) r in
    let first = closes_both NoKey _ _ _ c.set_open.ensures.closes c.in_ok-order_write_on.ensures.closes in
    let waiting : mid.pool.line.items ≡ old.pool.line.items = c.in_ok-start_on.ensures.alone.line ∙ ap (λ (d : code.Pool). d.line.items) same in
    let behind : (other : ℕ) → IsLentInVain mid other → OpensOrLends c.args.number old other = λ other lent. inr (record {
      was = ap (is_in other) (sym waiting) ∙ lent.waits;
      mid = mid;
      steps =
          steps_moved Neither (machine_in old) _ _ _ _ (c.in_ok-start_on.ensures.moves Neither) c.in_ok-start_on.ensures.kept
          (steps_same Neither (machine_in old) _ _ _ _ _ _ (ap pool_in same) (c.in_ok-order_write_on.ensures.ends ∙ c.set_open.ensures.ends) (c.in_ok-order_write_on.ensures.kept ∙ c.set_open.ensures.kept)
          (no_steps Neither (machine_in old)));
      waiting = waiting;
      links =
          opens_alone c.args.number old.links.items c.set_open.new.self.links.items mid.links.items c.set_open.ensures.opens c.set_open.ensures.waits c.set_open.ensures.answers c.set_open.ensures.seen
          (λ n. full_queued n old.links.items c.set_open.new.self.links.items (c.set_open.ensures.queues n)) (stays_behind _ _ _ c.in_ok-order_write_on.ensures.links c.in_ok-start_on.ensures.read);
      goes =
          go_both old at mid led
          (rest_go old at (λ r. all_both old c.set_open.new.self at c.set_open.ensures.same
          (all_rest c.set_open.new.self at c.order_write_on.ensures.pool c.in_ok-order_write_on.ensures.links (asks_on c.set_open.new.self at c.in_ok-order_write_on.ensures.asks))))
          c.in_ok-start_on.ensures.goes_on;
      keeps = λ reached.
          first_then c.args.number old at mid same
          (λ n. ap (carried_there n) c.in_ok-order_write_on.ensures.links ∙ carried_same n old.links.items c.set_open.new.self.links.items (c.set_open.ensures.queues n) (c.set_open.ensures.answers n)) (c.in_ok-start_on.ensures.keeps (led reached));
      lent = lent;
    }) in
    closes_with c.serve_line.result (IsLentInVain mid) may _ _ _ behind c.serve_line.ensures.vain
    (closes_both may _ _ _ (closes_nobody may _ _ first)
    (closes_more (λ other. IsWho (holder (pool_in at.pool) c.args.number) other × IsTurnedAwayAt other at) may _ _
    (λ key e. inl (opens_for c.args.number key old at same (c.in_ok-order_write_on.ensures.ends ∙ c.set_open.ensures.ends)
    (λ k goes. c.in_ok-order_write_on.ensures.asks k goes ∙ c.set_open.ensures.asks k goes)
    (record {
      opens = λ other. ap (open_at other) c.in_ok-order_write_on.ensures.links ∙ c.set_open.ensures.opens other;
      queues = λ other. ap (queue_on other) c.in_ok-order_write_on.ensures.links ∙ c.set_open.ensures.queues other;
    }) e)) c.in_ok-start_on.ensures.closes))

pub returns-clause-few : goal.returns-clause-few
returns-clause-few c = few_behind c.serve_line.result _ _ _ _ _ (most_kept _ _ (c.in_ok-start_on.ensures.closes.told ∙ c.in_ok-order_write_on.ensures.closes.told ∙ c.set_open.ensures.closes.told)) (none_both _ _ _ (none_same _ _ c.set_open.ensures.waits) (none_stays _ _ (stays_behind _ _ _ c.in_ok-order_write_on.ensures.links c.in_ok-start_on.ensures.read))) c.serve_line.ensures.few

pub returns-clause-writes : goal.returns-clause-writes
returns-clause-writes c =
    writes_stay c.serve_line.result (IsWaiting (pool_in c.start_on.new.self.pool).line) c.args.number (register_in c.start_on.new.self) (register_in c.serve_line.new.self) c.serve_line.ensures.closes
    (writes_behind _ c.args.number (register_in c.order_write_on.new.self) (register_in c.start_on.new.self) c.in_ok-start_on.ensures.closes c.in_ok-order_write_on.ensures.writes)

pub returns-clause-seated : goal.returns-clause-seated
returns-clause-seated c = λ s.
    c.serve_line.ensures.seated (c.in_ok-start_on.ensures.seated (kept_seated c.set_open.new.self c.order_write_on.new.self c.order_write_on.ensures.pool c.in_ok-order_write_on.ensures.links
    (kept_there c.args.self.now c.set_open.new.self c.set_open.ensures.pool (all_there c.args.self.now.links.items c.set_open.new.self.links.items c.set_open.ensures.many c.set_open.ensures.waits) s)))

pub returns-clause-goes : goal.returns-clause-goes
returns-clause-goes c =
    ok_more c.serve_line.result _ _ (λ g by from h. g by from (c.in_ok-start_on.ensures.goes by from
    (subst (λ (d : code.Pool). Reaches by from (pool_in d)) (sym (c.order_write_on.ensures.pool ∙ c.set_open.ensures.pool)) h))) c.serve_line.ensures.goes

pub returns-clause-lasts : goal.returns-clause-lasts
returns-clause-lasts c =
    let same = c.order_write_on.ensures.pool ∙ c.set_open.ensures.pool in
    let may = WhoOrWaiting (holder (pool_in c.args.self.now.pool) c.args.number) (pool_in c.args.self.now.pool).line in
    let first = closes_both NoKey _ _ _ c.set_open.ensures.closes c.in_ok-order_write_on.ensures.closes in
    last_then c.serve_line.result may (IsWaiting (pool_in c.start_on.new.self.pool).line) (register_in c.args.self.now) (register_in c.start_on.new.self) (register_in c.serve_line.new.self)
    (closes_both may _ _ _ (closes_nobody may _ _ first) (closes_more _ may _ _ (λ key e. inl (ap (λ (d : code.Pool). holder (pool_in d) c.args.number) (sym same) ∙ e.0)) c.in_ok-start_on.ensures.closes))
    (last_from may (IsWho (holder (pool_in c.order_write_on.new.self.pool) c.args.number)) NoKey (register_in c.args.self.now) (register_in c.order_write_on.new.self) (register_in c.start_on.new.self) first
    (last_all c.args.self.now.links.items c.set_open.new.self.links.items c.order_write_on.new.self.links.items (last_same c.args.self.now.links.items c.set_open.new.self.links.items c.set_open.ensures.waits) (last_links c.set_open.new.self.links.items c.order_write_on.new.self.links.items c.in_ok-order_write_on.ensures.links))
    (λ key e. inl (ap (λ (d : code.Pool). holder (pool_in d) c.args.number) (sym same) ∙ e)) c.in_ok-start_on.ensures.lasts)
    (λ key e. inr (ap (λ (d : code.Pool). is_in key (pool_in d).line) (sym same) ∙ waited_on (pool_in c.order_write_on.new.self.pool) (pool_in c.start_on.new.self.pool) c.in_ok-start_on.ensures.goes key e))
    c.serve_line.ensures.closes c.serve_line.ensures.lasts

pub returns-clause-opening : goal.returns-clause-opening
returns-clause-opening c =
    let same = c.order_write_on.ensures.pool ∙ c.set_open.ensures.pool in
    opens_new_on c.serve_line.result c.args.self.now c.start_on.new.self c.serve_line.new.self
    (opens_same c.args.self.now c.start_on.new.self (c.start_on.ensures.opening ∙ c.order_write_on.ensures.opening ∙ ap opens_in c.set_open.ensures.orders)
    (subst (λ (d : code.Pool). (pool_in d).service.last ≤ (pool_in c.start_on.new.self.pool).service.last) same (on_last (pool_in c.order_write_on.new.self.pool) (pool_in c.start_on.new.self.pool) c.in_ok-start_on.ensures.goes)))
    c.serve_line.ensures.opening

pub returns-clause-lends : goal.returns-clause-lends
returns-clause-lends c =
    lends_after c.serve_line.result c.args.number (core_in c.args.self.now) (core_in c.order_write_on.new.self) (core_in c.start_on.new.self) (core_in c.serve_line.new.self) (ap pool_in (c.order_write_on.ensures.pool ∙ c.set_open.ensures.pool))
    (c.in_ok-order_write_on.ensures.ends ∙ c.set_open.ensures.ends) c.in_ok-start_on.ensures.alone c.serve_line.ensures.lends

pub returns-clause-puts : goal.returns-clause-puts
returns-clause-puts c = λ reached.
    let same = c.order_write_on.ensures.pool ∙ c.set_open.ensures.pool in
    let led : IsReached (pool_in c.order_write_on.new.self.pool) = subst (λ (d : code.Pool). IsReached (pool_in d)) (sym same) reached in
    let old = c.args.self.now in
    let mid = c.start_on.new.self in
    puts_on c.serve_line.result (IsWithHolder c.args.number old) old mid c.serve_line.new.self reached
    (λ key e. ap (λ (d : code.Pool). is_in key (pool_in d).line) (sym same) ∙ waited_on (pool_in c.order_write_on.new.self.pool) (pool_in mid.pool) c.in_ok-start_on.ensures.goes key e)
    (first_then c.args.number old c.order_write_on.new.self mid same (λ n. ap (carried_there n) c.in_ok-order_write_on.ensures.links ∙ carried_same n old.links.items c.set_open.new.self.links.items (c.set_open.ensures.queues n) (c.set_open.ensures.answers n)) (c.in_ok-start_on.ensures.keeps led))
    (c.serve_line.ensures.fills (reached_on_does (pool_in c.order_write_on.new.self.pool) (pool_in mid.pool) c.in_ok-start_on.ensures.goes led))

pub returns-clause-many : goal.returns-clause-many
returns-clause-many c =
    let many : length c.order_write_on.new.self.links.items ≡ length c.args.self.now.links.items = ap (length {A = Link}) c.in_ok-order_write_on.ensures.links ∙ c.set_open.ensures.many in
    grows_on c.serve_line.result c.args.self.now c.start_on.new.self c.serve_line.new.self
    (grows_both c.args.self.now c.order_write_on.new.self c.start_on.new.self
    (grows_few c.args.self.now c.order_write_on.new.self (c.order_write_on.ensures.opening ∙ ap opens_in c.set_open.ensures.orders) (let le : length c.order_write_on.new.self.links.items ≤ length c.args.self.now.links.items = omega (arith, many) in le))
    (grows_stays c.order_write_on.new.self c.start_on.new.self c.start_on.ensures.opening c.in_ok-start_on.ensures.read)) c.serve_line.ensures.many

pub returns-clause-given : goal.returns-clause-given
returns-clause-given c =
    let same = c.order_write_on.ensures.pool ∙ c.set_open.ensures.pool in
    given_opened c.serve_line.result c.args.number c.args.self.now c.set_open.new.self c.start_on.new.self c.serve_line.new.self c.set_open.ensures.seen c.set_open.ensures.waits c.set_open.ensures.answers
    (λ other. full_queued other c.args.self.now.links.items c.set_open.new.self.links.items (c.set_open.ensures.queues other))
    (stays_behind _ _ _ c.in_ok-order_write_on.ensures.links c.in_ok-start_on.ensures.read)
    (subst (λ (d : code.Pool). (pool_in d).service.last ≤ (pool_in c.start_on.new.self.pool).service.last) same (on_last (pool_in c.order_write_on.new.self.pool) (pool_in c.start_on.new.self.pool) c.in_ok-start_on.ensures.goes))
    c.serve_line.ensures.given

pub returns-clause-fresh : goal.returns-clause-fresh
returns-clause-fresh c =
    let told = c.in_ok-start_on.ensures.closes.told ∙ c.in_ok-order_write_on.ensures.closes.told ∙ c.set_open.ensures.closes.told in
    new_behind c.serve_line.result c.args.self.now.size c.start_on.new.self.size c.args.self.now.features c.start_on.new.self.features c.args.self.now.links.items c.start_on.new.self.links.items c.serve_line.new.self.links.items (size_kept _ _ told) (features_kept _ _ told)
    (none_both _ _ _ (none_same _ _ c.set_open.ensures.waits) (none_stays _ _ (stays_behind _ _ _ c.in_ok-order_write_on.ensures.links c.in_ok-start_on.ensures.read))) c.serve_line.ensures.fresh

pub returns-clause-clients : goal.returns-clause-clients
returns-clause-clients c = λ reached.
    let same = c.order_write_on.ensures.pool ∙ c.set_open.ensures.pool in
    let old = c.args.self.now in
    let at = c.order_write_on.new.self in
    let mid = c.start_on.new.self in
    let led : IsReached (pool_in at.pool) = subst (λ (d : code.Pool). IsReached (pool_in d)) (sym same) reached in
    let first = all_both old c.set_open.new.self at c.set_open.ensures.same (all_rest c.set_open.new.self at c.order_write_on.ensures.pool c.in_ok-order_write_on.ensures.links (asks_on c.set_open.new.self at c.in_ok-order_write_on.ensures.asks)) in
    clients_served c.serve_line.result (IsWho (holder (pool_in old.pool) c.args.number)) old mid c.serve_line.new.self
    (clients_behind c.args.number old at mid same led first c.in_ok-start_on.ensures.goes_on (c.in_ok-start_on.ensures.clients led))
    (λ key not there. ap (λ (d : code.Pool). is_in key (pool_in d).line) (sym same) ∙ waited_on (pool_in at.pool) (pool_in mid.pool) c.in_ok-start_on.ensures.goes key there)
    (c.serve_line.ensures.aside (reached_on_does (pool_in at.pool) (pool_in mid.pool) c.in_ok-start_on.ensures.goes led))

pub returns-clause-rests : goal.returns-clause-rests
returns-clause-rests c = λ reached.
    opened_rests c.serve_line.result c.args.number c.args.self.now c.order_write_on.new.self c.start_on.new.self c.serve_line.new.self reached (c.order_write_on.ensures.pool ∙ c.set_open.ensures.pool)
    (λ n. ap (waits_on n) c.in_ok-order_write_on.ensures.links ∙ c.set_open.ensures.waits n) c.in_ok-start_on.ensures.goes c.in_ok-start_on.ensures.alone.line c.in_ok-start_on.ensures.rests c.serve_line.ensures.goes
    c.serve_line.ensures.aside c.serve_line.ensures.asks c.serve_line.ensures.fills

pub returns-clause-behind : goal.returns-clause-behind
returns-clause-behind c = λ reached sharing led.
    let number = c.args.number in
    let same = c.order_write_on.ensures.pool ∙ c.set_open.ensures.pool in
    let old = c.args.self.now in
    let at = c.order_write_on.new.self in
    let mid = c.start_on.new.self in
    let led_at : IsReached (pool_in old.pool) → IsReached (pool_in at.pool) = λ r. subst (λ (d : code.Pool). IsReached (pool_in d)) (sym same) r in
    let there =
    led_on sharing Neither (machine_in old) (machine_in mid)
    (steps_moved Neither (machine_in old) _ _ _ _ (c.in_ok-start_on.ensures.moves Neither) c.in_ok-start_on.ensures.kept
    (steps_same Neither (machine_in old) _ _ _ _ _ _ (ap pool_in same) (c.in_ok-order_write_on.ensures.ends ∙ c.set_open.ensures.ends) (c.in_ok-order_write_on.ensures.kept ∙ c.set_open.ensures.kept)
    (no_steps Neither (machine_in old)))) led in
    front_on c.serve_line.result sharing old mid c.serve_line.new.self reached there
    (subst (λ (d : code.Pool). (pool_in d).service.last ≤ (pool_in mid.pool).service.last) same (on_last (pool_in at.pool) (pool_in mid.pool) c.in_ok-start_on.ensures.goes))
    (free_with number old mid
    (first_then number old at mid same (λ n. ap (carried_there n) c.in_ok-order_write_on.ensures.links ∙ carried_same n old.links.items c.set_open.new.self.links.items (c.set_open.ensures.queues n) (c.set_open.ensures.answers n))
    (c.in_ok-start_on.ensures.keeps (led_at reached))))
    (λ key e. ap (λ (d : code.Pool). is_in key (pool_in d).line) (sym same) ∙ waited_on (pool_in at.pool) (pool_in mid.pool) c.in_ok-start_on.ensures.goes key e)
    (go_both old at mid led_at
    (rest_go old at (λ r. all_both old c.set_open.new.self at c.set_open.ensures.same
    (all_rest c.set_open.new.self at c.order_write_on.ensures.pool c.in_ok-order_write_on.ensures.links (asks_on c.set_open.new.self at c.in_ok-order_write_on.ensures.asks))))
    c.in_ok-start_on.ensures.goes_on)
    (c.serve_line.ensures.behind (reached_on_does (pool_in at.pool) (pool_in mid.pool) c.in_ok-start_on.ensures.goes (led_at reached)) sharing there)

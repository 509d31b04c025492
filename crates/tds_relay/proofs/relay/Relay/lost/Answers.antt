use Rattle.tds_relay.specs.Fronts.{core_in, machine_in}
use Rattle.tds_relay.proofs.spared.Apart.{lends_from, loses_only}
use Rattle.tds_relay.specs.Ties.{pool_in, Neither}
use Rattle.tds_relay.proofs.steps.Stepping.{led_on, no_steps, steps_moved, steps_whoever}
use Rattle.tds_relay.proofs.steps.Staying.{opens_served}
use Rattle.tds_relay.proofs.bytes.Calls.{stand_on}
use Rattle.tds_relay.proofs.lending.Clients.{clients_all, clients_served}
use Rattle.tds_relay.proofs.lending.Resting.{go_on, reached_on_does, rest_go}
use Rattle.tds_relay.proofs.steps.Reaching.{ok_more}
use Rattle.tds_relay.proofs.steps.Renaming.{names_on}
use Rattle.tds_relay.specs.Queues.{names_in, names_of}
use Rattle.std.proofs.Common.{ap, ◌∙◌, inl, inr, sym, ◌≡◌, ℕ}
use Rattle.tds_relay.proofs.spared.Ordered.{ordered_on}
use Rattle.tds_relay.specs.Closings.{IsWaiting, IsWho, NoKey, register_in}
use Rattle.tds_relay.specs.Core.{holder, is_in}
use Rattle.tds_relay.proofs.spared.Closings.{closes_more, closes_with}
use Rattle.tds_relay.proofs.spared.Few.{few_behind, most_kept, none_stays}
use Rattle.tds_relay.proofs.seats.Pools.{off_of}
use Rattle.tds_relay.proofs.spared.Lasting.{besides_on, but_others}
use Rattle.tds_relay.proofs.spared.Opening.{on_last, opens_new_on, opens_same, grows_on, grows_stays}
use Rattle.tds_relay.proofs.spared.Filling.{carried, first_lost, puts_on}
use Rattle.tds_relay.specs.Waiting.{IsLentInVain, LosesOrLends}
use Rattle.tds_relay.proofs.lending.Dialled.{given_served}
use Rattle.tds_relay.proofs.lending.Freed.{free_lost}
use Rattle.tds_relay.proofs.lending.Front.{front_on}
use Rattle.tds_relay.proofs.lending.Fresh.{features_kept, new_served, size_kept}
use Rattle.tds_relay.proofs.relay.Relay.lost.Goals as goal

pub returns-clause-steps : goal.returns-clause-steps
returns-clause-steps c =
    let old = machine_in c.args.self.now in
    steps_whoever c.serve_line.result old _ _ _ _ (λ by. steps_moved by old _ _ _ _ (c.in_ok-lose.ensures.moves by) c.in_ok-lose.ensures.kept (no_steps by old))
    c.serve_line.ensures.moves c.serve_line.ensures.kept

pub returns-clause-opens : goal.returns-clause-opens
returns-clause-opens c = opens_served c.serve_line.result _ _ _ c.in_ok-lose.ensures.read c.serve_line.ensures.opens

pub returns-clause-stand : goal.returns-clause-stand
returns-clause-stand c = stand_on c.serve_line.result _ _ _ c.in_ok-lose.ensures.stand c.serve_line.ensures.stand

pub returns-clause-goes_on : goal.returns-clause-goes_on
returns-clause-goes_on c = go_on c.serve_line.result c.args.self.now c.lose.new.self c.serve_line.new.self
    (λ r. reached_on_does (pool_in c.args.self.now.pool) (pool_in c.lose.new.self.pool) c.in_ok-lose.ensures.goes r)
    (rest_go c.args.self.now c.lose.new.self (λ r. c.in_ok-lose.ensures.rests r)) c.serve_line.ensures.goes_on

pub returns-clause-lost : goal.returns-clause-lost
returns-clause-lost c = ok_more c.serve_line.result _ _ (λ g by from h. g by from (c.in_ok-lose.ensures.lost by from h)) c.serve_line.ensures.goes

pub returns-clause-names : goal.returns-clause-names
returns-clause-names c = names_on c.serve_line.result (names_in c.args.self.now.applications) c.lose.new.self.applications c.serve_line.new.self.applications (ap names_of c.in_ok-lose.ensures.kept) c.serve_line.ensures.kept

pub returns-clause-only : goal.returns-clause-only
returns-clause-only c = loses_only c.serve_line.result c.args.number (core_in c.args.self.now) (core_in c.lose.new.self) (core_in c.serve_line.new.self) c.in_ok-lose.ensures.ends c.in_ok-lose.ensures.line c.serve_line.ensures.apart

pub returns-clause-ordered : goal.returns-clause-ordered
returns-clause-ordered c = ordered_on c.serve_line.result _ _ _ c.serve_line.ensures.ordered c.in_ok-lose.ensures.ordered

pub returns-clause-closes : goal.returns-clause-closes
returns-clause-closes c =
    let old = c.args.self.now in
    let mid = c.lose.new.self in
    let number = c.args.number in
    let behind : (other : ℕ) → IsLentInVain mid other → LosesOrLends number old other = λ other lent. inr (record {
      was = ap (is_in other) (sym c.in_ok-lose.ensures.line) ∙ lent.waits;
      mid = mid;
      steps = steps_moved Neither (machine_in old) _ _ _ _ (c.in_ok-lose.ensures.moves Neither) c.in_ok-lose.ensures.kept (no_steps Neither (machine_in old));
      waiting = c.in_ok-lose.ensures.line;
      links = c.in_ok-lose.ensures.read;
      goes = rest_go old mid (λ r. c.in_ok-lose.ensures.rests r);
      keeps = λ reached. first_lost number old mid c.in_ok-lose.ensures.holds (λ n differs. carried n old.links.items mid.links.items (c.in_ok-lose.ensures.queues n differs) (c.in_ok-lose.ensures.answers.keeps n));
      lent = lent;
    }) in
    closes_with c.serve_line.result (IsLentInVain mid) (LosesOrLends number old) _ _ _ behind c.serve_line.ensures.vain
    (closes_more (IsWho (holder (pool_in old.pool) number)) (LosesOrLends number old) _ _ (λ key e. inl e) c.in_ok-lose.ensures.closes)

pub returns-clause-few : goal.returns-clause-few
returns-clause-few c = few_behind c.serve_line.result _ _ _ _ _ (most_kept _ _ (c.in_ok-lose.ensures.closes.told)) (none_stays _ _ c.in_ok-lose.ensures.read) c.serve_line.ensures.few

pub returns-clause-seated : goal.returns-clause-seated
returns-clause-seated c = λ s. c.serve_line.ensures.seated (c.in_ok-lose.ensures.seated (off_of c.args.number (pool_in c.args.self.now.pool) c.args.self.now.links.items s))

pub returns-clause-lasts : goal.returns-clause-lasts
returns-clause-lasts c =
    besides_on c.serve_line.result (λ (other : ℕ). other ≡ c.args.number) (IsWaiting (pool_in c.args.self.now.pool).line) (IsWaiting (pool_in c.lose.new.self.pool).line) (IsWho (holder (pool_in c.args.self.now.pool) c.args.number))
    (register_in c.args.self.now) (register_in c.lose.new.self) (register_in c.serve_line.new.self) (λ key e. ap (is_in key) (sym c.in_ok-lose.ensures.line) ∙ e) c.in_ok-lose.ensures.closes
    (but_others c.args.number c.args.self.now.links.items c.lose.new.self.links.items c.in_ok-lose.ensures.others) c.serve_line.ensures.lasts

pub returns-clause-opening : goal.returns-clause-opening
returns-clause-opening c = opens_new_on c.serve_line.result c.args.self.now c.lose.new.self c.serve_line.new.self (opens_same c.args.self.now c.lose.new.self c.lose.ensures.opening (on_last (pool_in c.args.self.now.pool) (pool_in c.lose.new.self.pool) c.in_ok-lose.ensures.goes)) c.serve_line.ensures.opening

pub returns-clause-lends : goal.returns-clause-lends
returns-clause-lends c = lends_from c.serve_line.result _ _ _ _ _ c.in_ok-lose.ensures.line c.in_ok-lose.ensures.ends c.serve_line.ensures.lends

pub returns-clause-puts : goal.returns-clause-puts
returns-clause-puts c = λ reached.
    let old = c.args.self.now in
    let mid = c.lose.new.self in
    puts_on c.serve_line.result (λ (other : ℕ). other ≡ c.args.number) old mid c.serve_line.new.self reached (λ key e. ap (is_in key) (sym c.in_ok-lose.ensures.line) ∙ e)
    (first_lost c.args.number old mid c.in_ok-lose.ensures.holds (λ n differs. carried n old.links.items mid.links.items (c.in_ok-lose.ensures.queues n differs) (c.in_ok-lose.ensures.answers.keeps n)))
    (c.serve_line.ensures.fills (reached_on_does (pool_in old.pool) (pool_in mid.pool) c.in_ok-lose.ensures.goes reached))

pub returns-clause-many : goal.returns-clause-many
returns-clause-many c = grows_on c.serve_line.result c.args.self.now c.lose.new.self c.serve_line.new.self (grows_stays c.args.self.now c.lose.new.self c.lose.ensures.opening c.in_ok-lose.ensures.read) c.serve_line.ensures.many

pub returns-clause-given : goal.returns-clause-given
returns-clause-given c = given_served c.serve_line.result c.args.self.now c.lose.new.self c.serve_line.new.self c.in_ok-lose.ensures.read (on_last (pool_in c.args.self.now.pool) (pool_in c.lose.new.self.pool) c.in_ok-lose.ensures.goes) c.serve_line.ensures.given

pub returns-clause-fresh : goal.returns-clause-fresh
returns-clause-fresh c =
    new_served c.serve_line.result c.args.self.now.size c.lose.new.self.size c.args.self.now.features c.lose.new.self.features c.args.self.now.links.items c.lose.new.self.links.items c.serve_line.new.self.links.items (size_kept _ _ c.in_ok-lose.ensures.closes.told) (features_kept _ _ c.in_ok-lose.ensures.closes.told)
    c.in_ok-lose.ensures.read c.serve_line.ensures.fresh

pub returns-clause-clients : goal.returns-clause-clients
returns-clause-clients c = λ reached.
    let old = c.args.self.now in
    let mid = c.lose.new.self in
    clients_served c.serve_line.result NoKey old mid c.serve_line.new.self (clients_all NoKey old mid (c.in_ok-lose.ensures.rests reached)) (λ key not there. ap (is_in key) (sym c.in_ok-lose.ensures.line) ∙ there)
    (c.serve_line.ensures.aside (reached_on_does (pool_in old.pool) (pool_in mid.pool) c.in_ok-lose.ensures.goes reached))

pub returns-clause-behind : goal.returns-clause-behind
returns-clause-behind c = λ reached sharing led.
    let old = c.args.self.now in
    let mid = c.lose.new.self in
    let number = c.args.number in
    let there =
    led_on sharing Neither (machine_in old) (machine_in mid) (steps_moved Neither (machine_in old) _ _ _ _ (c.in_ok-lose.ensures.moves Neither) c.in_ok-lose.ensures.kept (no_steps Neither (machine_in old))) led in
    front_on c.serve_line.result sharing old mid c.serve_line.new.self reached there (on_last (pool_in old.pool) (pool_in mid.pool) c.in_ok-lose.ensures.goes)
    (free_lost number old mid c.in_ok-lose.ensures.holds c.in_ok-lose.ensures.gone
    (first_lost number old mid c.in_ok-lose.ensures.holds (λ n differs. carried n old.links.items mid.links.items (c.in_ok-lose.ensures.queues n differs) (c.in_ok-lose.ensures.answers.keeps n))))
    (λ key e. ap (is_in key) (sym c.in_ok-lose.ensures.line) ∙ e) (rest_go old mid (λ r. c.in_ok-lose.ensures.rests r))
    (c.serve_line.ensures.behind (reached_on_does (pool_in old.pool) (pool_in mid.pool) c.in_ok-lose.ensures.goes reached) sharing there)

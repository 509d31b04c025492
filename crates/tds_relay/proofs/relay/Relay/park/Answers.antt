use Rattle.std.proofs.Common.{◌≡◌, ◌∙◌, rules, sym, true, Some, ℕ, inl, subst}
use Rattle.tds_relay.specs.Closings.{IsWaiting, Itself, NoKey, register_in}
use Rattle.tds_relay.specs.Fronts.{ends_in, core_in, machine_in, may_park_in}
use Rattle.tds_relay.specs.Queues.{queues_in}
use Rattle.tds_relay.specs.Ties.{Application, Parking, pool_in}
use Rattle.tds_relay.proofs.spared.Closings.{closes_both, closes_more, closes_nobody}
use Rattle.tds_relay.proofs.spared.Few.{most_kept, none_stays}
use Rattle.tds_relay.proofs.spared.Lines.{waited_left}
use Rattle.tds_relay.proofs.spared.Ordered.{ordered_both}
use Rattle.tds_relay.proofs.spared.Parks.{asks_none, parked_apart, parked_few, parked_go, parks}
use Rattle.tds_relay.proofs.lending.Clients.{clients_others, clients_refl, clients_then}
use Rattle.tds_relay.proofs.lending.Resting.{go_both}
use Rattle.tds_relay.proofs.steps.Fronts.{moves_parks, no_moves}
use Rattle.tds_relay.proofs.steps.Reaching.{reached_on, reaches_left}
use Rattle.tds_relay.proofs.steps.Staying.{opens_both, stays_opens, stays_refl}
use Rattle.tds_relay.proofs.steps.Stepping.{led_on, no_steps, steps_moved, steps_moves}
use Rattle.tds_relay.proofs.visits.Parking.{parked_away}
use Rattle.tds_relay.proofs.spared.Lasting.{besides, but_refl, last_more}
use Rattle.tds_relay.specs.Places.{held_by}
use Rattle.tds_relay.specs.Cleaning.{CountsHold, cleaned_in}
use Rattle.tds_relay.specs.Pool.{find_key}
use Rattle.tds_relay.proofs.spared.Opening.{left_last, opens_new_both, opens_none, opens_same, grows_both, grows_refl, grows_stays}
use Rattle.tds_relay.proofs.spared.Apart.{lends_at}
use Rattle.tds_relay.proofs.spared.Filling.{first_own, puts_line, puts_nothing}
use Rattle.tds_relay.specs.Core.{holder}
use Rattle.tds_relay.proofs.spared.Freeing.{served_since}
use Rattle.tds_relay.proofs.spared.Cleaned.{since_served}
use Rattle.tds_relay.specs.Waiting.{IsLentByParting, IsLentInVain}
use Rattle.tds_relay.proofs.lending.Dialled.{given_refl, given_then}
use Rattle.tds_relay.proofs.lending.Freed.{free_own}
use Rattle.tds_relay.proofs.lending.Front.{front_first, lends_first}
use Rattle.tds_relay.proofs.lending.Fresh.{features_kept, new_refl, new_then, size_kept}
use Rattle.tds_relay.proofs.lending.Tending.{line_tends, tend_all, tend_refl}
use Rattle.tds_relay.proofs.relay.Relay.park.Goals as goal

pub returns-clause-left : goal.returns-clause-left
returns-clause-left c =
    let l = c.in_ok-release.ensures.leaving in
    λ yes. (l.0, l.1, λ by from h. c.in_ok-serve_line.ensures.goes by from (l.2 by from h))

pub returns-clause-away : goal.returns-clause-away
returns-clause-away c = λ sharing led yes.
    let rests : may_park_in c.args.self.now c.args.key ≡ true = sym c.may_park.ensures ∙ (search rules) in
    parked_away sharing c.args.key (machine_in c.args.self.now) (core_in c.release.new.self) (core_in c.serve_line.new.self) led (parks c.args.self.now c.args.key rests)
    c.in_ok-release.ensures.fronts c.in_ok-release.ensures.leaving c.in_ok-serve_line.ensures.goes c.in_ok-serve_line.ensures.apart

pub returns-clause-goes : goal.returns-clause-goes
returns-clause-goes c = λ from h. c.in_ok-serve_line.ensures.goes (Application c.args.key) from (reaches_left c.args.key from _ _ c.in_ok-release.ensures.leaving h)

pub returns-clause-steps : goal.returns-clause-steps
returns-clause-steps c =
    let old = c.args.self.now in
    let mid = c.release.new.self in
    let rests : may_park_in old c.args.key ≡ true = sym c.may_park.ensures ∙ (search rules) in
    steps_moved (Parking c.args.key) (machine_in old) (core_in mid) (core_in c.serve_line.new.self) (queues_in mid.applications) (queues_in c.serve_line.new.self.applications)
    (c.in_ok-serve_line.ensures.moves (Parking c.args.key)) c.in_ok-serve_line.ensures.kept
    (steps_moves (Parking c.args.key) (machine_in old) (core_in old) (core_in mid) (queues_in old.applications) (queues_in mid.applications)
    (moves_parks c.args.key (core_in old) (pool_in old.pool) (ends_in old.applications) (core_in mid) (parks old c.args.key rests) c.in_ok-release.ensures.lets_go (no_moves (Parking c.args.key) (core_in old)))
    c.in_ok-release.ensures.kept (no_steps (Parking c.args.key) (machine_in old)))

pub returns-clause-kept : goal.returns-clause-kept
returns-clause-kept c = c.in_ok-serve_line.ensures.kept ∙ c.in_ok-release.ensures.kept

pub returns-clause-few : goal.returns-clause-few
returns-clause-few c = parked_few _ _ _ _ _ (most_kept _ _ (c.in_ok-release.ensures.closes.told)) (none_stays _ _ c.in_ok-release.ensures.read) c.in_ok-serve_line.ensures.few

pub returns-clause-opens : goal.returns-clause-opens
returns-clause-opens c = opens_both _ _ _ (stays_opens _ _ c.in_ok-release.ensures.read) c.in_ok-serve_line.ensures.opens

pub returns-clause-stand : goal.returns-clause-stand
returns-clause-stand c = λ n r h. c.in_ok-serve_line.ensures.stand n r (c.in_ok-release.ensures.stand n r h)

pub returns-clause-goes_on : goal.returns-clause-goes_on
returns-clause-goes_on c =
    let old = c.args.self.now in
    let mid = c.release.new.self in
    let rests : may_park_in old c.args.key ≡ true = sym c.may_park.ensures ∙ (search rules) in
    go_both old mid c.serve_line.new.self
    (λ r. reached_on (Application c.args.key) (pool_in old.pool) (pool_in mid.pool) (λ from h. reaches_left c.args.key from (pool_in old.pool) (pool_in mid.pool) c.in_ok-release.ensures.leaving h) r)
    (parked_go c.args.key old mid (asks_none old c.args.key rests) c.in_ok-release.ensures.asks c.in_ok-release.ensures.others)
    c.in_ok-serve_line.ensures.goes_on

pub returns-clause-apart : goal.returns-clause-apart
returns-clause-apart c =
    let old = c.args.self.now in
    let rests : may_park_in old c.args.key ≡ true = sym c.may_park.ensures ∙ (search rules) in
    parked_apart (core_in old) (core_in c.release.new.self) (core_in c.serve_line.new.self) c.args.key (parks old c.args.key rests) c.in_ok-release.ensures.fronts c.in_ok-release.ensures.leaving c.in_ok-serve_line.ensures.apart

pub returns-clause-ordered : goal.returns-clause-ordered
returns-clause-ordered c = ordered_both _ _ _ c.in_ok-release.ensures.ordered c.in_ok-serve_line.ensures.ordered

pub returns-clause-closes : goal.returns-clause-closes
returns-clause-closes c =
    let old = c.args.self.now in
    let mid = c.release.new.self in
    let key = c.args.key in
    let may = IsLentByParting (Parking key) key old in
    let rests : may_park_in old key ≡ true = sym c.may_park.ensures ∙ (search rules) in
    let behind : (other : ℕ) → IsLentInVain mid other → IsLentByParting (Parking key) key old other = λ other lent. record {
      was = waited_left key (pool_in old.pool) (pool_in mid.pool) c.in_ok-release.ensures.leaving other lent.waits;
      mid = mid;
      steps =
          steps_moves (Parking key) (machine_in old) (core_in old) (core_in mid) (queues_in old.applications) (queues_in mid.applications)
          (moves_parks key (core_in old) (pool_in old.pool) (ends_in old.applications) (core_in mid) (parks old key rests) c.in_ok-release.ensures.lets_go (no_moves (Parking key) (core_in old)))
          c.in_ok-release.ensures.kept (no_steps (Parking key) (machine_in old));
      waiting = c.in_ok-release.ensures.line;
      links = c.in_ok-release.ensures.read;
      goes = parked_go key old mid (asks_none old key rests) c.in_ok-release.ensures.asks c.in_ok-release.ensures.others;
      keeps = λ reached. first_own key old mid (c.in_ok-release.ensures.keeps reached);
      lent = lent;
    } in
    closes_both may _ _ _ (closes_nobody may _ _ c.in_ok-release.ensures.closes) (closes_more (IsLentInVain mid) may _ _ behind c.in_ok-serve_line.ensures.vain)

pub returns-clause-ends : goal.returns-clause-ends
returns-clause-ends c = λ reached yes.
    let old = c.args.self.now in
    let mid = c.release.new.self in
    served_since c.args.key old mid c.serve_line.new.self reached (left_last c.args.key (pool_in old.pool) (pool_in mid.pool) c.in_ok-release.ensures.leaving) (c.in_ok-release.ensures.ends reached) c.in_ok-serve_line.ensures.given
    (c.in_ok-release.ensures.frees reached)
    (c.in_ok-serve_line.ensures.fills (reached_on (Application c.args.key) (pool_in old.pool) (pool_in mid.pool) (λ from h. reaches_left c.args.key from (pool_in old.pool) (pool_in mid.pool) c.in_ok-release.ensures.leaving h) reached))

pub returns-clause-seated : goal.returns-clause-seated
returns-clause-seated c = λ s. c.in_ok-serve_line.ensures.seated (c.in_ok-release.ensures.seated s)

pub returns-then-not-may_park-clause-lasts : goal.returns-then-not-may_park-clause-lasts
returns-then-not-may_park-clause-lasts c = inl (but_refl _ c.args.self.now.links.items)

pub returns-clause-lasts : goal.returns-clause-lasts
returns-clause-lasts c =
    let old = c.args.self.now in
    let mid = c.release.new.self in
    besides (λ (number : ℕ). held_by (pool_in old.pool) c.args.key ≡ Some number) (IsWaiting (pool_in old.pool).line) NoKey (register_in old) (register_in mid) (register_in c.serve_line.new.self) c.in_ok-release.ensures.closes
    c.in_ok-release.ensures.lasts
    (last_more (IsWaiting (pool_in mid.pool).line) (IsWaiting (pool_in old.pool).line) _ _ (waited_left c.args.key (pool_in old.pool) (pool_in mid.pool) c.in_ok-release.ensures.leaving) c.in_ok-serve_line.ensures.lasts)

pub returns-clause-counts : goal.returns-clause-counts
returns-clause-counts c = λ yes. subst (CountsHold (find_key c.args.key c.args.self.now.pool.holds.items) (cleaned_in c.args.self.now)) (sym c.serve_line.ensures.counts) c.in_ok-release.ensures.counts

pub returns-then-not-may_park-clause-opening : goal.returns-then-not-may_park-clause-opening
returns-then-not-may_park-clause-opening c = opens_none c.args.self.now

pub returns-clause-opening : goal.returns-clause-opening
returns-clause-opening c = opens_new_both c.args.self.now c.release.new.self c.serve_line.new.self (opens_same c.args.self.now c.release.new.self c.release.ensures.opening (left_last c.args.key (pool_in c.args.self.now.pool) (pool_in c.release.new.self.pool) c.in_ok-release.ensures.leaving)) c.in_ok-serve_line.ensures.opening

pub returns-clause-lends : goal.returns-clause-lends
returns-clause-lends c = λ is. lends_at _ _ _ _ _ c.in_ok-release.ensures.line c.in_ok-release.ensures.fronts c.in_ok-serve_line.ensures.lends

pub returns-then-not-may_park-clause-puts : goal.returns-then-not-may_park-clause-puts
returns-then-not-may_park-clause-puts c = λ reached. puts_nothing _ c.args.self.now

pub returns-clause-puts : goal.returns-clause-puts
returns-clause-puts c = λ reached.
    let old = c.args.self.now in
    let mid = c.release.new.self in
    puts_line (λ (number : ℕ). holder (pool_in old.pool) number ≡ Some c.args.key) old mid c.serve_line.new.self reached
    (waited_left c.args.key (pool_in old.pool) (pool_in mid.pool) c.in_ok-release.ensures.leaving) (first_own c.args.key old mid (c.in_ok-release.ensures.keeps reached))
    (c.in_ok-serve_line.ensures.fills (reached_on (Application c.args.key) (pool_in old.pool) (pool_in mid.pool) (λ from h. reaches_left c.args.key from (pool_in old.pool) (pool_in mid.pool) c.in_ok-release.ensures.leaving h) reached))

pub returns-then-not-may_park-clause-many : goal.returns-then-not-may_park-clause-many
returns-then-not-may_park-clause-many c = grows_refl c.args.self.now

pub returns-clause-many : goal.returns-clause-many
returns-clause-many c = grows_both c.args.self.now c.release.new.self c.serve_line.new.self (grows_stays c.args.self.now c.release.new.self c.release.ensures.opening c.in_ok-release.ensures.read) c.in_ok-serve_line.ensures.many

pub returns-clause-cleaned : goal.returns-clause-cleaned
returns-clause-cleaned c = λ reached yes.
    let old = c.args.self.now in
    let mid = c.release.new.self in
    since_served c.args.key (register_in old) old mid c.serve_line.new.self reached (left_last c.args.key (pool_in old.pool) (pool_in mid.pool) c.in_ok-release.ensures.leaving) (c.in_ok-release.ensures.cleaned reached) c.in_ok-serve_line.ensures.given
    c.serve_line.ensures.counts c.in_ok-release.ensures.closes
    (last_more (IsWaiting (pool_in mid.pool).line) (IsWaiting (pool_in old.pool).line) _ _ (waited_left c.args.key (pool_in old.pool) (pool_in mid.pool) c.in_ok-release.ensures.leaving) c.in_ok-serve_line.ensures.lasts)

pub returns-then-not-may_park-clause-given : goal.returns-then-not-may_park-clause-given
returns-then-not-may_park-clause-given c = given_refl c.args.self.now (stays_refl c.args.self.now.links.items)

pub returns-clause-given : goal.returns-clause-given
returns-clause-given c =
    given_then c.args.self.now c.release.new.self c.serve_line.new.self c.in_ok-release.ensures.read (left_last c.args.key (pool_in c.args.self.now.pool) (pool_in c.release.new.self.pool) c.in_ok-release.ensures.leaving) c.in_ok-serve_line.ensures.given

pub returns-then-not-may_park-clause-fresh : goal.returns-then-not-may_park-clause-fresh
returns-then-not-may_park-clause-fresh c = new_refl c.args.self.now.size c.args.self.now.features c.args.self.now.links.items

pub returns-clause-fresh : goal.returns-clause-fresh
returns-clause-fresh c =
    new_then c.args.self.now.size c.release.new.self.size c.args.self.now.features c.release.new.self.features c.args.self.now.links.items c.release.new.self.links.items c.serve_line.new.self.links.items (size_kept _ _ c.in_ok-release.ensures.closes.told) (features_kept _ _ c.in_ok-release.ensures.closes.told)
    c.in_ok-release.ensures.read c.in_ok-serve_line.ensures.fresh

pub returns-then-not-may_park-clause-clients : goal.returns-then-not-may_park-clause-clients
returns-then-not-may_park-clause-clients c = λ reached. clients_refl (Itself c.args.key) c.args.self.now

pub returns-clause-clients : goal.returns-clause-clients
returns-clause-clients c = λ reached.
    let key = c.args.key in
    let old = c.args.self.now in
    let mid = c.release.new.self in
    let led = reached_on (Application key) (pool_in old.pool) (pool_in mid.pool) (λ from h. reaches_left key from (pool_in old.pool) (pool_in mid.pool) c.in_ok-release.ensures.leaving h) reached in
    clients_then (Itself key) old mid c.serve_line.new.self (clients_others key old mid (c.in_ok-release.ensures.others reached))
    (λ other not there. waited_left key (pool_in old.pool) (pool_in mid.pool) c.in_ok-release.ensures.leaving other there) (c.in_ok-serve_line.ensures.aside led)

pub returns-then-not-may_park-clause-awaits : goal.returns-then-not-may_park-clause-awaits
returns-then-not-may_park-clause-awaits c = tend_refl (pool_in c.args.self.now.pool) c.args.self.now.links.items

pub returns-clause-awaits : goal.returns-clause-awaits
returns-clause-awaits c =
    let old = c.args.self.now in
    let mid = c.release.new.self in
    let led = reached_on (Application c.args.key) (pool_in old.pool) (pool_in mid.pool) (λ from h. reaches_left c.args.key from (pool_in old.pool) (pool_in mid.pool) c.in_ok-release.ensures.leaving h) in
    tend_all old mid c.serve_line.new.self led c.in_ok-release.ensures.awaits (line_tends mid c.serve_line.new.self c.in_ok-serve_line.ensures.goes c.in_ok-serve_line.ensures.fills)

pub returns-then-not-may_park-clause-behind : goal.returns-then-not-may_park-clause-behind
returns-then-not-may_park-clause-behind c = λ reached sharing led. lends_first c.args.self.now

pub returns-clause-behind : goal.returns-clause-behind
returns-clause-behind c = λ reached sharing led.
    let key = c.args.key in
    let old = c.args.self.now in
    let mid = c.release.new.self in
    let rests : may_park_in old key ≡ true = sym c.may_park.ensures ∙ (search rules) in
    let there =
    led_on sharing (Parking key) (machine_in old) (machine_in mid)
    (steps_moves (Parking key) (machine_in old) (core_in old) (core_in mid) (queues_in old.applications) (queues_in mid.applications)
    (moves_parks key (core_in old) (pool_in old.pool) (ends_in old.applications) (core_in mid) (parks old key rests) c.in_ok-release.ensures.lets_go (no_moves (Parking key) (core_in old)))
    c.in_ok-release.ensures.kept (no_steps (Parking key) (machine_in old))) led in
    let here = reached_on (Application key) (pool_in old.pool) (pool_in mid.pool) (λ from h. reaches_left key from (pool_in old.pool) (pool_in mid.pool) c.in_ok-release.ensures.leaving h) reached in
    front_first sharing old mid c.serve_line.new.self reached there (left_last key (pool_in old.pool) (pool_in mid.pool) c.in_ok-release.ensures.leaving) (free_own key old mid (c.in_ok-release.ensures.keeps reached))
    (waited_left key (pool_in old.pool) (pool_in mid.pool) c.in_ok-release.ensures.leaving) (parked_go key old mid (asks_none old key rests) c.in_ok-release.ensures.asks c.in_ok-release.ensures.others)
    (c.in_ok-serve_line.ensures.behind here sharing there)

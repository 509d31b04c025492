use Rattle.std.proofs.Common.{◌∙◌, ap, refl, slice_set, None, Option, Some, ◌≡◌, ℕ}
use Rattle.tds_relay.specs.Fronts.{ends_in, machine_in}
use Rattle.tds_relay.specs.Queues.{queues_in, names_in, names_of}
use Rattle.tds_relay.specs.Ties.{Application, pool_in}
use Rattle.tds_relay.specs.Core.{change_end, lets_go, holder}
use Rattle.tds_relay.proofs.spared.Apart.{lends_from}
use Rattle.tds_relay.proofs.steps.Fronts.{ends_quit, gone_stays}
use Rattle.tds_relay.proofs.steps.Queueing.{quits_is}
use Rattle.tds_relay.proofs.steps.Reaching.{ok_more, reached_on, reaches_left}
use Rattle.tds_relay.proofs.steps.Stepping.{led_on, no_steps, steps_on_ok, steps_quits}
use Rattle.tds_relay.proofs.steps.Staying.{opens_served}
use Rattle.tds_relay.proofs.bytes.Calls.{stand_on}
use Rattle.tds_relay.proofs.spared.Letting.{gone_go, removed_rest}
use Rattle.tds_relay.proofs.lending.Clients.{clients_others, clients_served}
use Rattle.tds_relay.proofs.lending.Resting.{go_on, others_both}
use Rattle.tds_relay.specs.Bodies.{body_in}
use Rattle.tds_relay.specs.declared.application.Application.{Application as AnApplication}
use Rattle.tds_relay.proofs.steps.Renaming.{names_left, names_on}
use Rattle.tds_relay.proofs.spared.Ordered.{ordered_on}
use Rattle.tds_relay.proofs.spared.Lines.{waited_left}
use Rattle.tds_relay.specs.Closings.{IsWaiting, Itself, NoKey, register_in, without_key}
use Rattle.tds_relay.proofs.spared.Closings.{closes_both, closes_nobody, closes_with}
use Rattle.tds_relay.proofs.spared.Sending.{kept_refl}
use Rattle.tds_relay.proofs.spared.Shutting.{closes_kept, unclosed}
use Rattle.tds_relay.proofs.spared.Freeing.{left_served}
use Rattle.tds_relay.proofs.spared.Few.{few_behind, most_kept, none_stays}
use Rattle.tds_relay.proofs.spared.Lasting.{besides_on, last_more_on}
use Rattle.tds_relay.specs.Places.{held_by}
use Rattle.tds_relay.proofs.spared.Cleaned.{counts_on, since_served_on}
use Rattle.tds_relay.specs.Cleaning.{cleaned_in}
use Rattle.tds_relay.specs.Pool.{find_key}
use Rattle.tds_relay.proofs.spared.Opening.{left_last, opens_new_on, opens_same, grows_on, grows_stays}
use Rattle.tds_relay.proofs.spared.Filling.{first_own, puts_on}
use Rattle.tds_relay.specs.Waiting.{IsLentByParting, IsLentInVain}
use Rattle.tds_relay.proofs.lending.Dialled.{given_served}
use Rattle.tds_relay.proofs.lending.Freed.{free_own}
use Rattle.tds_relay.proofs.lending.Front.{front_on}
use Rattle.tds_relay.proofs.lending.Fresh.{features_kept, new_served, size_kept}
use Rattle.tds_relay.proofs.lending.Tending.{tend_line, tend_on}
use Rattle.tds_relay.proofs.relay.Relay.left.Goals as goal

pub returns-clause-left : goal.returns-clause-left
returns-clause-left c =
    let l = c.in_ok-release.ensures.leaving in
    ok_more c.serve_line.result _ _ (λ g. (l.0, l.1, λ by from h. g by from (l.2 by from h))) c.serve_line.ensures.goes

pub returns-clause-steps : goal.returns-clause-steps
returns-clause-steps c =
    let old = c.args.self.now in
    let quit = ends_quit old.applications c.try_remove.new.self c.args.key c.try_remove.result c.try_remove.ensures.value c.try_remove.ensures.slots c.try_remove.ensures.absent in
    let gone = quits_is old.applications c.try_remove.new.self c.args.key c.try_remove.result c.try_remove.ensures.value c.try_remove.ensures.slots c.try_remove.ensures.absent in
    steps_on_ok c.serve_line.result (Application c.args.key) (machine_in old) _ _ _ _
    (steps_quits c.args.key (machine_in old) (pool_in old.pool) (ends_in old.applications) _ (queues_in old.applications) _ _ quit (c.in_ok-release.ensures.kept ∙ gone) c.in_ok-release.ensures.lets_go
    (no_steps (Application c.args.key) (machine_in old)))
    c.serve_line.ensures.moves c.serve_line.ensures.kept

pub returns-clause-opens : goal.returns-clause-opens
returns-clause-opens c = opens_served c.serve_line.result _ _ _ c.in_ok-release.ensures.read c.serve_line.ensures.opens

pub returns-clause-stand : goal.returns-clause-stand
returns-clause-stand c = stand_on c.serve_line.result _ _ _ c.in_ok-release.ensures.stand c.serve_line.ensures.stand

pub returns-clause-goes_on : goal.returns-clause-goes_on
returns-clause-goes_on c =
    let old = c.args.self.now in
    go_on c.serve_line.result old c.release.new.self c.serve_line.new.self
    (λ r. reached_on (Application c.args.key) (pool_in old.pool) (pool_in c.release.new.self.pool) (λ from h. reaches_left c.args.key from (pool_in old.pool) (pool_in c.release.new.self.pool) c.in_ok-release.ensures.leaving h) r)
    (gone_go c.args.key old _ c.release.new.self (λ goes. ap (λ (o : Option AnApplication). body_in o goes) c.try_remove.ensures.updates.changed) c.in_ok-release.ensures.asks
    (λ reached. removed_rest c.args.key old _ refl refl c.try_remove.ensures.updates.others) c.in_ok-release.ensures.others)
    c.serve_line.ensures.goes_on

pub returns-clause-names : goal.returns-clause-names
returns-clause-names c =
    let old = c.args.self.now.applications in
    let gone = quits_is old c.try_remove.new.self c.args.key c.try_remove.result c.try_remove.ensures.value c.try_remove.ensures.slots c.try_remove.ensures.absent in
    names_on c.serve_line.result (slice_set (names_in old) c.args.key None) c.release.new.self.applications c.serve_line.new.self.applications
    (ap names_of (c.in_ok-release.ensures.kept ∙ gone) ∙ names_left c.args.key (queues_in old)) c.serve_line.ensures.kept

pub returns-clause-ordered : goal.returns-clause-ordered
returns-clause-ordered c = ordered_on c.serve_line.result _ _ _ c.serve_line.ensures.ordered c.in_ok-release.ensures.ordered

pub returns-clause-closes : goal.returns-clause-closes
returns-clause-closes c =
    let old = c.args.self.now in
    let mid = c.release.new.self in
    let key = c.args.key in
    let may = IsLentByParting (Application key) key old in
    let quit = ends_quit old.applications c.try_remove.new.self key c.try_remove.result c.try_remove.ensures.value c.try_remove.ensures.slots c.try_remove.ensures.absent in
    let gone = quits_is old.applications c.try_remove.new.self key c.try_remove.result c.try_remove.ensures.value c.try_remove.ensures.slots c.try_remove.ensures.absent in
    let behind : (other : ℕ) → IsLentInVain mid other → IsLentByParting (Application key) key old other = λ other lent. record {
      was = waited_left key (pool_in old.pool) (pool_in mid.pool) c.in_ok-release.ensures.leaving other lent.waits;
      mid = mid;
      steps =
          steps_quits key (machine_in old) (pool_in old.pool) (ends_in old.applications) _ (queues_in old.applications) _ _ quit (c.in_ok-release.ensures.kept ∙ gone) c.in_ok-release.ensures.lets_go
          (no_steps (Application key) (machine_in old));
      waiting = c.in_ok-release.ensures.line;
      links = c.in_ok-release.ensures.read;
      goes =
          gone_go key old _ mid (λ goes. ap (λ (o : Option AnApplication). body_in o goes) c.try_remove.ensures.updates.changed) c.in_ok-release.ensures.asks
          (λ reached. removed_rest key old _ refl refl c.try_remove.ensures.updates.others) c.in_ok-release.ensures.others;
      keeps = λ reached. first_own key old mid (c.in_ok-release.ensures.keeps reached);
      lent = lent;
    } in
    closes_with c.serve_line.result (IsLentInVain mid) may _ _ _ behind c.serve_line.ensures.vain
    (closes_nobody may _ _ (closes_both NoKey _ _ _ (closes_kept NoKey (without_key key (register_in old)) _ quit gone refl (kept_refl old.links.items) (unclosed _ _ refl)) c.in_ok-release.ensures.closes))

pub returns-clause-ends : goal.returns-clause-ends
returns-clause-ends c = λ reached.
    let old = c.args.self.now in
    let mid = c.release.new.self in
    left_served c.serve_line.result c.args.key old mid c.serve_line.new.self reached (left_last c.args.key (pool_in old.pool) (pool_in mid.pool) c.in_ok-release.ensures.leaving) (c.in_ok-release.ensures.ends reached) c.serve_line.ensures.given
    (c.in_ok-release.ensures.frees reached)
    (c.serve_line.ensures.fills (reached_on (Application c.args.key) (pool_in old.pool) (pool_in mid.pool) (λ from h. reaches_left c.args.key from (pool_in old.pool) (pool_in mid.pool) c.in_ok-release.ensures.leaving h) reached))

pub returns-clause-few : goal.returns-clause-few
returns-clause-few c = few_behind c.serve_line.result _ _ _ _ _ (most_kept _ _ (c.in_ok-release.ensures.closes.told)) (none_stays _ _ c.in_ok-release.ensures.read) c.serve_line.ensures.few

pub returns-clause-seated : goal.returns-clause-seated
returns-clause-seated c = λ s. c.serve_line.ensures.seated (c.in_ok-release.ensures.seated s)

pub returns-clause-lasts : goal.returns-clause-lasts
returns-clause-lasts c =
    let old = c.args.self.now in
    let quit = ends_quit old.applications c.try_remove.new.self c.args.key c.try_remove.result c.try_remove.ensures.value c.try_remove.ensures.slots c.try_remove.ensures.absent in
    let gone = quits_is old.applications c.try_remove.new.self c.args.key c.try_remove.result c.try_remove.ensures.value c.try_remove.ensures.slots c.try_remove.ensures.absent in
    besides_on c.serve_line.result (λ (number : ℕ). held_by (pool_in old.pool) c.args.key ≡ Some number) (IsWaiting (pool_in old.pool).line) (IsWaiting (pool_in c.release.new.self.pool).line) NoKey
    (without_key c.args.key (register_in old)) (register_in c.release.new.self) (register_in c.serve_line.new.self) (waited_left c.args.key (pool_in old.pool) (pool_in c.release.new.self.pool) c.in_ok-release.ensures.leaving)
    (closes_both NoKey _ _ _ (closes_kept NoKey (without_key c.args.key (register_in old)) _ quit gone refl (kept_refl old.links.items) (unclosed _ _ refl)) c.in_ok-release.ensures.closes)
    c.in_ok-release.ensures.lasts c.serve_line.ensures.lasts

pub returns-clause-counts : goal.returns-clause-counts
returns-clause-counts c = counts_on c.serve_line.result (find_key c.args.key c.args.self.now.pool.holds.items) (cleaned_in c.args.self.now) (cleaned_in c.release.new.self) (cleaned_in c.serve_line.new.self) c.in_ok-release.ensures.counts c.serve_line.ensures.counts

pub returns-clause-opening : goal.returns-clause-opening
returns-clause-opening c = opens_new_on c.serve_line.result c.args.self.now c.release.new.self c.serve_line.new.self (opens_same c.args.self.now c.release.new.self c.release.ensures.opening (left_last c.args.key (pool_in c.args.self.now.pool) (pool_in c.release.new.self.pool) c.in_ok-release.ensures.leaving)) c.serve_line.ensures.opening

pub returns-clause-lends : goal.returns-clause-lends
returns-clause-lends c =
    let old = c.args.self.now in
    let quit = ends_quit old.applications c.try_remove.new.self c.args.key c.try_remove.result c.try_remove.ensures.value c.try_remove.ensures.slots c.try_remove.ensures.absent in
    lends_from c.serve_line.result _ _ _ _ _ c.in_ok-release.ensures.line
    (c.in_ok-release.ensures.fronts ∙ ap (change_end c.args.key lets_go) quit ∙ gone_stays (ends_in old.applications) c.args.key lets_go) c.serve_line.ensures.lends

pub returns-clause-puts : goal.returns-clause-puts
returns-clause-puts c = λ reached.
    let old = c.args.self.now in
    let mid = c.release.new.self in
    puts_on c.serve_line.result (λ (number : ℕ). holder (pool_in old.pool) number ≡ Some c.args.key) old mid c.serve_line.new.self reached
    (waited_left c.args.key (pool_in old.pool) (pool_in mid.pool) c.in_ok-release.ensures.leaving) (first_own c.args.key old mid (c.in_ok-release.ensures.keeps reached))
    (c.serve_line.ensures.fills (reached_on (Application c.args.key) (pool_in old.pool) (pool_in mid.pool) (λ from h. reaches_left c.args.key from (pool_in old.pool) (pool_in mid.pool) c.in_ok-release.ensures.leaving h) reached))

pub returns-clause-many : goal.returns-clause-many
returns-clause-many c = grows_on c.serve_line.result c.args.self.now c.release.new.self c.serve_line.new.self (grows_stays c.args.self.now c.release.new.self c.release.ensures.opening c.in_ok-release.ensures.read) c.serve_line.ensures.many

pub returns-clause-cleaned : goal.returns-clause-cleaned
returns-clause-cleaned c = λ reached.
    let old = c.args.self.now in
    let mid = c.release.new.self in
    let quit = ends_quit old.applications c.try_remove.new.self c.args.key c.try_remove.result c.try_remove.ensures.value c.try_remove.ensures.slots c.try_remove.ensures.absent in
    let gone = quits_is old.applications c.try_remove.new.self c.args.key c.try_remove.result c.try_remove.ensures.value c.try_remove.ensures.slots c.try_remove.ensures.absent in
    since_served_on c.serve_line.result c.args.key (without_key c.args.key (register_in old)) old mid c.serve_line.new.self reached (left_last c.args.key (pool_in old.pool) (pool_in mid.pool) c.in_ok-release.ensures.leaving) (c.in_ok-release.ensures.cleaned reached) c.serve_line.ensures.given
    c.serve_line.ensures.counts
    (closes_both NoKey _ _ _ (closes_kept NoKey (without_key c.args.key (register_in old)) _ quit gone refl (kept_refl old.links.items) (unclosed _ _ refl)) c.in_ok-release.ensures.closes)
    (last_more_on c.serve_line.result (IsWaiting (pool_in mid.pool).line) (IsWaiting (pool_in old.pool).line) (register_in mid) (register_in c.serve_line.new.self)
    (waited_left c.args.key (pool_in old.pool) (pool_in mid.pool) c.in_ok-release.ensures.leaving) c.serve_line.ensures.lasts)

pub returns-clause-given : goal.returns-clause-given
returns-clause-given c = given_served c.serve_line.result c.args.self.now c.release.new.self c.serve_line.new.self c.in_ok-release.ensures.read (left_last c.args.key (pool_in c.args.self.now.pool) (pool_in c.release.new.self.pool) c.in_ok-release.ensures.leaving) c.serve_line.ensures.given

pub returns-clause-fresh : goal.returns-clause-fresh
returns-clause-fresh c =
    new_served c.serve_line.result c.args.self.now.size c.release.new.self.size c.args.self.now.features c.release.new.self.features c.args.self.now.links.items c.release.new.self.links.items c.serve_line.new.self.links.items (size_kept _ _ c.in_ok-release.ensures.closes.told) (features_kept _ _ c.in_ok-release.ensures.closes.told)
    c.in_ok-release.ensures.read c.serve_line.ensures.fresh

pub returns-clause-clients : goal.returns-clause-clients
returns-clause-clients c = λ reached.
    let key = c.args.key in
    let old = c.args.self.now in
    let mid = c.release.new.self in
    let led = reached_on (Application key) (pool_in old.pool) (pool_in mid.pool) (λ from h. reaches_left key from (pool_in old.pool) (pool_in mid.pool) c.in_ok-release.ensures.leaving h) reached in
    clients_served c.serve_line.result (Itself key) old mid c.serve_line.new.self
    (clients_others key old mid (others_both key old _ mid (removed_rest key old _ refl refl c.try_remove.ensures.updates.others) (c.in_ok-release.ensures.others reached)))
    (λ other not there. waited_left key (pool_in old.pool) (pool_in mid.pool) c.in_ok-release.ensures.leaving other there) (c.serve_line.ensures.aside led)

pub returns-clause-awaits : goal.returns-clause-awaits
returns-clause-awaits c =
    let old = c.args.self.now in
    let mid = c.release.new.self in
    let led = reached_on (Application c.args.key) (pool_in old.pool) (pool_in mid.pool) (λ from h. reaches_left c.args.key from (pool_in old.pool) (pool_in mid.pool) c.in_ok-release.ensures.leaving h) in
    tend_on c.serve_line.result old mid c.serve_line.new.self led c.in_ok-release.ensures.awaits (tend_line c.serve_line.result mid c.serve_line.new.self c.serve_line.ensures.goes c.serve_line.ensures.fills)

pub returns-clause-behind : goal.returns-clause-behind
returns-clause-behind c = λ reached sharing led.
    let key = c.args.key in
    let old = c.args.self.now in
    let mid = c.release.new.self in
    let quit = ends_quit old.applications c.try_remove.new.self key c.try_remove.result c.try_remove.ensures.value c.try_remove.ensures.slots c.try_remove.ensures.absent in
    let gone = quits_is old.applications c.try_remove.new.self key c.try_remove.result c.try_remove.ensures.value c.try_remove.ensures.slots c.try_remove.ensures.absent in
    let there =
    led_on sharing (Application key) (machine_in old) (machine_in mid)
    (steps_quits key (machine_in old) (pool_in old.pool) (ends_in old.applications) _ (queues_in old.applications) _ _ quit (c.in_ok-release.ensures.kept ∙ gone) c.in_ok-release.ensures.lets_go (no_steps (Application key) (machine_in old))) led in
    let here = reached_on (Application key) (pool_in old.pool) (pool_in mid.pool) (λ from h. reaches_left key from (pool_in old.pool) (pool_in mid.pool) c.in_ok-release.ensures.leaving h) reached in
    front_on c.serve_line.result sharing old mid c.serve_line.new.self reached there (left_last key (pool_in old.pool) (pool_in mid.pool) c.in_ok-release.ensures.leaving) (free_own key old mid (c.in_ok-release.ensures.keeps reached))
    (waited_left key (pool_in old.pool) (pool_in mid.pool) c.in_ok-release.ensures.leaving)
    (gone_go key old _ mid (λ goes. ap (λ (o : Option AnApplication). body_in o goes) c.try_remove.ensures.updates.changed) c.in_ok-release.ensures.asks
    (λ r. removed_rest key old _ refl refl c.try_remove.ensures.updates.others) c.in_ok-release.ensures.others)
    (c.serve_line.ensures.behind here sharing there)

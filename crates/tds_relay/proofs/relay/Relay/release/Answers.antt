use Rattle.std.proofs.Common.{◌∙◌, ap, refl, rules, subst, sym, None, inl, inr, ℕ}
use Rattle.tds_relay.specs.Ties.{pool_in, Reaches}
use Rattle.tds_relay.proofs.steps.Fronts.{ends_more, lets_go_first, moved_same, moves_same}
use Rattle.tds_relay.proofs.steps.Reaching.{ok_more, ok_if, reaches_turned}
use Rattle.tds_relay.proofs.steps.Staying.{stays_from, stays_refl, stays_then}
use Rattle.tds_relay.proofs.bytes.Calls.{stand_at, stand_on}
use Rattle.tds_relay.proofs.spared.Letting.{left_rest, shut_rest, unheld_rest, left_reached}
use Rattle.tds_relay.specs.Pool.{find_key}
use Rattle.tds_relay.specs.declared.pool.Pool as code
use Rattle.tds_relay.proofs.spared.Ordered.{ordered_on, ordered_same}
use Rattle.tds_relay.specs.Closings.{IsWho, NoKey}
use Rattle.tds_relay.proofs.spared.Closings.{closes_on, closes_with}
use Rattle.tds_relay.proofs.spared.Cleaned.{left_by, nobody_left, shut_by, waits_none, counted_by, counts_none, counts_on, counts_some, failed_is, nobody_counted, shut_counted}
use Rattle.tds_relay.proofs.spared.Apart.{line_leaves}
use Rattle.tds_relay.proofs.seats.Relays.{closed_end, left_gone, left_none, left_there}
use Rattle.tds_relay.proofs.spared.Lasting.{but_same, held_but, held_number}
use Rattle.tds_relay.specs.Places.{held_by}
use Rattle.tds_relay.specs.Cleaning.{CountsOnce, cleaned_in}
use Rattle.tds_relay.proofs.spared.Freeing.{left_frees, left_keeps, nobody_frees, nobody_keeps}
use Rattle.tds_relay.proofs.spared.Begun.{answers_from, answers_same}
use Rattle.tds_relay.proofs.lending.Tending.{put_left, tend_left, tend_nobody, tend_shut}
use Rattle.tds_relay.proofs.lending.Parting.{let_go_by, let_go_same}
use Rattle.tds_relay.proofs.relay.Relay.release.Goals as goal

pub returns-in_default-clause-lets_go : goal.returns-in_default-clause-lets_go
returns-in_default-clause-lets_go c = lets_go_first c.args.key _ _ _ _ _ c.in_ok-left.ensures.turns.0 c.in_ok-left.ensures.turns.1 _ _ c.in_ok-left.ensures.turns.2 c.let_go.ensures.ends (λ by from h. moves_same by from _ _ _ _ (ap pool_in c.let_go.ensures.pool) refl h)

pub returns-then-left-clause-lets_go : goal.returns-then-left-clause-lets_go
returns-then-left-clause-lets_go c =
    ok_more c.send_unheld.result _ _ (λ m. lets_go_first c.args.key _ _ _ _ _ c.in_ok-left.ensures.turns.0 c.in_ok-left.ensures.turns.1 _ _ c.in_ok-left.ensures.turns.2 c.let_go.ensures.ends (λ by. moved_same by _ _ _ _ _ (ap pool_in c.let_go.ensures.pool) refl (m by))) c.send_unheld.ensures.moves

pub returns-else-left-clause-lets_go : goal.returns-else-left-clause-lets_go
returns-else-left-clause-lets_go c =
    ok_more c.close.result _ _ (λ e. lets_go_first c.args.key _ _ _ _ _ c.in_ok-left.ensures.turns.0 c.in_ok-left.ensures.turns.1 _ _ c.in_ok-left.ensures.turns.2 c.let_go.ensures.ends (λ by from h. moves_same by from _ _ _ _ (ap pool_in (c.close.ensures.pool ∙ c.let_go.ensures.pool)) e h)) c.close.ensures.ends

pub returns-in_default-clause-read : goal.returns-in_default-clause-read
returns-in_default-clause-read c = stays_then _ _ _ (stays_refl c.args.self.now.links.items) c.let_go.ensures.links

pub returns-then-left-clause-read : goal.returns-then-left-clause-read
returns-then-left-clause-read c = stays_from c.send_unheld.result _ _ _ c.let_go.ensures.links c.send_unheld.ensures.read

pub returns-else-left-clause-read : goal.returns-else-left-clause-read
returns-else-left-clause-read c = stays_from c.close.result _ _ _ c.let_go.ensures.links c.close.ensures.read

pub returns-in_default-clause-stand : goal.returns-in_default-clause-stand
returns-in_default-clause-stand c = stand_at _ _ _ c.in_ok-left.ensures.stand c.let_go.ensures.pool

pub returns-then-left-clause-stand : goal.returns-then-left-clause-stand
returns-then-left-clause-stand c = stand_on c.send_unheld.result _ _ _ (stand_at _ _ _ c.in_ok-left.ensures.stand c.let_go.ensures.pool) c.send_unheld.ensures.stand

pub returns-else-left-clause-stand : goal.returns-else-left-clause-stand
returns-else-left-clause-stand c = ok_if c.close.result _ (stand_at _ _ _ c.in_ok-left.ensures.stand (c.close.ensures.pool ∙ c.let_go.ensures.pool))

pub returns-in_default-clause-others : goal.returns-in_default-clause-others
returns-in_default-clause-others c = λ reached.
    unheld_rest c.args.key c.args.self.now c.let_go.new.self c.leave.new.self reached c.in_ok-left.ensures.others c.let_go.ensures.pool c.let_go.ensures.links c.let_go.ensures.asks

pub returns-then-left-clause-others : goal.returns-then-left-clause-others
returns-then-left-clause-others c = λ reached.
    left_rest c.send_unheld.result c.args.key c.in-Some.left (find_key c.args.key c.args.self.now.pool.holds.items) c.args.self.now _ c.send_unheld.new.self c.leave.new.self refl (search rules) reached c.in_ok-left.ensures.others c.let_go.ensures.pool c.let_go.ensures.links
    c.let_go.ensures.asks c.send_unheld.ensures.asks
    (c.send_unheld.ensures.sends (left_reached c.args.key c.args.self.now.pool c.leave.new.self c.let_go.new.self.pool _ _ _ _ c.in_ok-left.ensures.turns.2 c.let_go.ensures.pool reached))

pub returns-else-left-clause-others : goal.returns-else-left-clause-others
returns-else-left-clause-others c = λ reached.
    shut_rest c.close.result c.args.key c.in-Some.left (find_key c.args.key c.args.self.now.pool.holds.items) c.args.self.now c.let_go.new.self c.close.new.self c.leave.new.self refl (search rules) reached c.in_ok-left.ensures.others c.let_go.ensures.pool c.let_go.ensures.links
    c.let_go.ensures.asks c.close.ensures.pool c.close.ensures.asks c.close.ensures.others

pub returns-then-left-clause-leaving : goal.returns-then-left-clause-leaving
returns-then-left-clause-leaving c = ok_more c.send_unheld.result _ _
    (λ g. (
      c.in_ok-left.ensures.turns.0,
      c.in_ok-left.ensures.turns.1,
      λ by from h. g by from (subst (λ (d : code.Pool). Reaches by from (pool_in d)) (sym c.let_go.ensures.pool) (reaches_turned by from _ _ _ _ _ c.in_ok-left.ensures.turns.2 h)),
    )) c.send_unheld.ensures.goes

pub returns-in_default-clause-ordered : goal.returns-in_default-clause-ordered
returns-in_default-clause-ordered c = ordered_same _ _ c.let_go.ensures.orders

pub returns-then-left-clause-ordered : goal.returns-then-left-clause-ordered
returns-then-left-clause-ordered c = ordered_on c.send_unheld.result _ _ _ c.send_unheld.ensures.ordered (ordered_same _ _ c.let_go.ensures.orders)

pub returns-else-left-clause-ordered : goal.returns-else-left-clause-ordered
returns-else-left-clause-ordered c = ordered_on c.close.result _ _ _ c.close.ensures.ordered (ordered_same _ _ c.let_go.ensures.orders)

pub returns-in_default-clause-closes : goal.returns-in_default-clause-closes
returns-in_default-clause-closes c = c.let_go.ensures.closes

pub returns-then-left-clause-closes : goal.returns-then-left-clause-closes
returns-then-left-clause-closes c = closes_on c.send_unheld.result NoKey _ _ _ c.send_unheld.ensures.closes c.let_go.ensures.closes

pub returns-else-left-clause-closes : goal.returns-else-left-clause-closes
returns-else-left-clause-closes c = closes_with c.close.result (IsWho None) NoKey _ _ _ (λ key e. (let u : ⊥ = cc in u)) c.close.ensures.closes c.let_go.ensures.closes

pub returns-in_default-clause-ends : goal.returns-in_default-clause-ends
returns-in_default-clause-ends c = λ reached. nobody_left c.args.key (find_key c.args.key c.args.self.now.pool.holds.items) c.args.self.now c.let_go.new.self refl (search rules)

pub returns-then-left-clause-ends : goal.returns-then-left-clause-ends
returns-then-left-clause-ends c = λ reached.
    left_by c.send_unheld.result c.args.key c.in-Some.left (find_key c.args.key c.args.self.now.pool.holds.items) c.in_ok-left.ensures.turns.0 c.in_ok-left.ensures.turns.1 c.args.self.now c.let_go.new.self c.send_unheld.new.self c.leave.new.self _ _ c.let_go.new.self.outbox.items refl (search rules)
    (search rules) reached (search rules) c.in_ok-left.left c.in-Some.is c.in_ok-left.ensures.ends c.let_go.ensures.outbox c.in_ok-left.ensures.turns.2 c.let_go.ensures.pool c.let_go.ensures.links c.send_unheld.ensures.puts

pub returns-else-left-clause-ends : goal.returns-else-left-clause-ends
returns-else-left-clause-ends c = λ reached.
    shut_by c.close.result c.args.key c.in-Some.left (find_key c.args.key c.args.self.now.pool.holds.items) c.args.self.now c.close.new.self refl (search rules)
    (ok_more c.close.result _ _ (λ g. waits_none c.in-Some.left.number c.close.new.self.links.items g) c.close.ensures.gone)

pub returns-then-left-clause-fronts : goal.returns-then-left-clause-fronts
returns-then-left-clause-fronts c = ends_more c.send_unheld.result _ _ _ c.send_unheld.ensures.ends c.let_go.ensures.ends

pub returns-else-left-clause-fronts : goal.returns-else-left-clause-fronts
returns-else-left-clause-fronts c = ends_more c.close.result _ _ _ c.close.ensures.ends c.let_go.ensures.ends

pub returns-in_default-clause-seated : goal.returns-in_default-clause-seated
returns-in_default-clause-seated c = λ s. left_none c.args.key c.in_ok-left.ensures.turns.0 c.in_ok-left.ensures.turns.1 c.args.self.now c.let_go.new.self c.leave.new.self c.in_ok-left.left _ _ c.in_ok-left.ensures.turns.2 c.in_ok-left.ensures.seats c.let_go.ensures.pool c.let_go.ensures.links s c.in_default.is

pub returns-then-left-clause-seated : goal.returns-then-left-clause-seated
returns-then-left-clause-seated c = λ s. c.send_unheld.ensures.seated (left_there c.args.key c.in_ok-left.ensures.turns.0 c.in_ok-left.ensures.turns.1 c.args.self.now c.let_go.new.self c.leave.new.self c.in_ok-left.left _ _ c.in_ok-left.ensures.turns.2 c.in_ok-left.ensures.seats c.let_go.ensures.pool c.let_go.ensures.links s c.in-Some.left c.in-Some.is (search rules))

pub returns-else-left-clause-seated : goal.returns-else-left-clause-seated
returns-else-left-clause-seated c = λ s.
    closed_end c.close.result c.in-Some.left.number c.let_go.new.self.pool c.let_go.new.self.links.items c.close.new.self c.close.ensures.pool c.close.ensures.fewer c.close.ensures.gone c.close.ensures.others
    (left_gone c.args.key c.in_ok-left.ensures.turns.0 c.in_ok-left.ensures.turns.1 c.args.self.now c.let_go.new.self c.leave.new.self c.in_ok-left.left _ _ c.in_ok-left.ensures.turns.2 c.in_ok-left.ensures.seats c.let_go.ensures.pool c.let_go.ensures.links s c.in-Some.left c.in-Some.is (search rules))

pub returns-in_default-clause-lasts : goal.returns-in_default-clause-lasts
returns-in_default-clause-lasts c = but_same _ c.args.self.now.links.items c.let_go.new.self.links.items c.let_go.ensures.links

pub returns-then-left-clause-lasts : goal.returns-then-left-clause-lasts
returns-then-left-clause-lasts c =
    held_but c.send_unheld.result (held_by (pool_in c.args.self.now.pool) c.args.key) c.in-Some.left.number c.args.self.now.links.items c.let_go.new.self.links.items c.send_unheld.new.self.links.items
    (held_number (find_key c.args.key c.args.self.now.pool.holds.items) c.in-Some.left (search rules)) c.let_go.ensures.links c.send_unheld.ensures.others

pub returns-else-left-clause-lasts : goal.returns-else-left-clause-lasts
returns-else-left-clause-lasts c =
    held_but c.close.result (held_by (pool_in c.args.self.now.pool) c.args.key) c.in-Some.left.number c.args.self.now.links.items c.let_go.new.self.links.items c.close.new.self.links.items
    (held_number (find_key c.args.key c.args.self.now.pool.holds.items) c.in-Some.left (search rules)) c.let_go.ensures.links c.close.ensures.others

pub returns-in_default-clause-counts : goal.returns-in_default-clause-counts
returns-in_default-clause-counts c = counts_none (find_key c.args.key c.args.self.now.pool.holds.items) _ _ (search rules) c.let_go.ensures.counts

pub returns-in_default-clause-line : goal.returns-in_default-clause-line
returns-in_default-clause-line c =
    ap (λ (d : code.Pool). (pool_in d).line) c.let_go.ensures.pool ∙ line_leaves c.args.key c.in_ok-left.ensures.turns.0 c.in_ok-left.ensures.turns.1 _ _ _ _ c.in_ok-left.ensures.turns.2

pub returns-then-left-clause-line : goal.returns-then-left-clause-line
returns-then-left-clause-line c =
    ok_more c.send_unheld.result _ _
    (λ l. l ∙ ap (λ (d : code.Pool). (pool_in d).line) c.let_go.ensures.pool ∙ line_leaves c.args.key c.in_ok-left.ensures.turns.0 c.in_ok-left.ensures.turns.1 _ _ _ _ c.in_ok-left.ensures.turns.2) c.send_unheld.ensures.line

pub returns-else-left-clause-line : goal.returns-else-left-clause-line
returns-else-left-clause-line c =
    ok_if c.close.result _
    (ap (λ (d : code.Pool). (pool_in d).line) (c.close.ensures.pool ∙ c.let_go.ensures.pool) ∙ line_leaves c.args.key c.in_ok-left.ensures.turns.0 c.in_ok-left.ensures.turns.1 _ _ _ _ c.in_ok-left.ensures.turns.2)

pub returns-in_default-clause-keeps : goal.returns-in_default-clause-keeps
returns-in_default-clause-keeps c = λ reached.
    nobody_keeps c.args.key c.in_ok-left.ensures.turns.0 c.in_ok-left.ensures.turns.1 c.args.self.now c.let_go.new.self c.leave.new.self _ _ (find_key c.args.key c.args.self.now.pool.holds.items) refl (search rules) c.in_ok-left.ensures.turns.2
    c.let_go.ensures.pool c.let_go.ensures.links

pub returns-then-left-clause-keeps : goal.returns-then-left-clause-keeps
returns-then-left-clause-keeps c = λ reached.
    left_keeps c.args.key c.in_ok-left.ensures.turns.0 c.in_ok-left.ensures.turns.1 c.in-Some.left c.args.self.now c.let_go.new.self c.send_unheld.new.self c.leave.new.self _ _ reached c.in_ok-left.ensures.turns.2 c.let_go.ensures.pool c.let_go.ensures.links
    c.send_unheld.result (find_key c.args.key c.args.self.now.pool.holds.items) refl (search rules) c.send_unheld.ensures.holds c.send_unheld.ensures.queues c.send_unheld.ensures.answers

pub returns-else-left-clause-keeps : goal.returns-else-left-clause-keeps
returns-else-left-clause-keeps c = λ reached.
    left_keeps c.args.key c.in_ok-left.ensures.turns.0 c.in_ok-left.ensures.turns.1 c.in-Some.left c.args.self.now c.let_go.new.self c.close.new.self c.leave.new.self _ _ reached c.in_ok-left.ensures.turns.2 c.let_go.ensures.pool c.let_go.ensures.links
    c.close.result (find_key c.args.key c.args.self.now.pool.holds.items) refl (search rules) (ok_if c.close.result _ (inl (ap (λ (d : code.Pool). d.holds.items) c.close.ensures.pool))) c.close.ensures.queues c.close.ensures.answers

pub returns-in_default-clause-frees : goal.returns-in_default-clause-frees
returns-in_default-clause-frees c = λ reached. nobody_frees c.args.key c.args.self.now.pool.holds.items _ (find_key c.args.key c.args.self.now.pool.holds.items) refl (search rules)

pub returns-then-left-clause-frees : goal.returns-then-left-clause-frees
returns-then-left-clause-frees c = λ reached.
    left_frees c.args.key c.in_ok-left.ensures.turns.0 c.in_ok-left.ensures.turns.1 c.in-Some.left c.args.self.now c.let_go.new.self c.send_unheld.new.self c.leave.new.self _ _ reached c.in_ok-left.ensures.turns.2 c.let_go.ensures.pool c.let_go.ensures.links
    c.send_unheld.result c.send_unheld.ensures.holds

pub returns-else-left-clause-frees : goal.returns-else-left-clause-frees
returns-else-left-clause-frees c = λ reached.
    left_frees c.args.key c.in_ok-left.ensures.turns.0 c.in_ok-left.ensures.turns.1 c.in-Some.left c.args.self.now c.let_go.new.self c.close.new.self c.leave.new.self _ _ reached c.in_ok-left.ensures.turns.2 c.let_go.ensures.pool c.let_go.ensures.links
    c.close.result (ok_if c.close.result _ (inl (ap (λ (d : code.Pool). d.holds.items) c.close.ensures.pool)))

pub returns-then-left-clause-counts : goal.returns-then-left-clause-counts
returns-then-left-clause-counts c =
    ok_more c.send_unheld.result _ _
    (λ h. counts_some (find_key c.args.key c.args.self.now.pool.holds.items) c.in-Some.left (cleaned_in c.args.self.now) (cleaned_in c.send_unheld.new.self) (search rules)
    (subst (λ (p : ℕ × ℕ). CountsOnce p (cleaned_in c.send_unheld.new.self)) c.let_go.ensures.counts h)) c.send_unheld.ensures.counts

pub returns-else-left-clause-counts : goal.returns-else-left-clause-counts
returns-else-left-clause-counts c =
    counts_on c.close.result (find_key c.args.key c.args.self.now.pool.holds.items) (cleaned_in c.args.self.now) (c.let_go.new.self.cleanings, c.saturating_add-self.result) (cleaned_in c.close.new.self)
    (counts_some (find_key c.args.key c.args.self.now.pool.holds.items) c.in-Some.left _ _ (search rules) (inr (failed_is (cleaned_in c.args.self.now) (cleaned_in c.let_go.new.self) (c.let_go.new.self.cleanings, c.saturating_add-self.result) c.saturating_add-self.result c.let_go.ensures.counts c.saturating_add-self.ensures refl))) c.close.ensures.counts

pub returns-in_default-clause-cleaned : goal.returns-in_default-clause-cleaned
returns-in_default-clause-cleaned c = λ reached. nobody_counted c.args.key (find_key c.args.key c.args.self.now.pool.holds.items) c.args.self.now c.let_go.new.self refl (search rules)

pub returns-then-left-clause-cleaned : goal.returns-then-left-clause-cleaned
returns-then-left-clause-cleaned c = λ reached.
    counted_by c.send_unheld.result c.args.key c.in-Some.left (find_key c.args.key c.args.self.now.pool.holds.items) c.in_ok-left.ensures.turns.0 c.in_ok-left.ensures.turns.1 c.args.self.now c.let_go.new.self c.send_unheld.new.self c.leave.new.self _ _ refl (search rules)
    (search rules) reached c.in_ok-left.left c.in-Some.is c.in_ok-left.ensures.ends c.in_ok-left.ensures.turns.2 c.let_go.ensures.pool c.let_go.ensures.links c.let_go.ensures.counts (search rules) c.let_go.ensures.outbox c.send_unheld.ensures.cleaned

pub returns-else-left-clause-cleaned : goal.returns-else-left-clause-cleaned
returns-else-left-clause-cleaned c = λ reached.
    shut_counted c.close.result c.args.key c.in-Some.left (find_key c.args.key c.args.self.now.pool.holds.items) c.in_ok-left.left c.args.self.now c.close.new.self refl (search rules)
    (failed_is (cleaned_in c.args.self.now) (cleaned_in c.let_go.new.self) (cleaned_in c.close.new.self) c.saturating_add-self.result c.let_go.ensures.counts c.saturating_add-self.ensures c.close.ensures.counts)
    (ok_more c.close.result _ _ (λ g. waits_none c.in-Some.left.number c.close.new.self.links.items g) c.close.ensures.gone)
    c.in-Some.is (search rules) c.in_ok-left.ensures.shut

pub returns-in_default-clause-answers : goal.returns-in_default-clause-answers
returns-in_default-clause-answers c = answers_same c.args.self.now.links.items _ (c.let_go.ensures.links)

pub returns-then-left-clause-answers : goal.returns-then-left-clause-answers
returns-then-left-clause-answers c = answers_from c.send_unheld.result _ _ _ c.let_go.ensures.links c.send_unheld.ensures.answers

pub returns-else-left-clause-answers : goal.returns-else-left-clause-answers
returns-else-left-clause-answers c = answers_from c.close.result _ _ _ c.let_go.ensures.links c.close.ensures.answers

pub returns-in_default-clause-awaits : goal.returns-in_default-clause-awaits
returns-in_default-clause-awaits c =
    tend_nobody c.args.key c.in_ok-left.ensures.turns.0 c.in_ok-left.ensures.turns.1 c.args.self.now c.let_go.new.self c.let_go.new.self c.leave.new.self _ _ c.in_ok-left.ensures.turns.2 c.let_go.ensures.pool c.let_go.ensures.links
    (find_key c.args.key c.args.self.now.pool.holds.items) refl (search rules)

pub returns-then-left-clause-awaits : goal.returns-then-left-clause-awaits
returns-then-left-clause-awaits c =
    tend_left c.args.key c.in_ok-left.ensures.turns.0 c.in_ok-left.ensures.turns.1 c.args.self.now c.let_go.new.self c.send_unheld.new.self c.leave.new.self _ _ c.in_ok-left.ensures.turns.2 c.let_go.ensures.pool c.let_go.ensures.links
    c.send_unheld.result c.in-Some.left (find_key c.args.key c.args.self.now.pool.holds.items) refl (search rules)
    (λ reached. put_left c.in_ok-left.left c.in-Some.left _ _ c.let_go.new.self.outbox.items (pool_in c.args.self.now.pool).service (pool_in c.leave.new.self).service c.in-Some.is (search rules) (search rules) c.let_go.ensures.outbox (c.in_ok-left.ensures.newly reached))
    c.send_unheld.ensures.goes c.send_unheld.ensures.puts (returns-then-left-clause-keeps c)

pub returns-else-left-clause-awaits : goal.returns-else-left-clause-awaits
returns-else-left-clause-awaits c =
    tend_shut c.args.key c.in_ok-left.ensures.turns.0 c.in_ok-left.ensures.turns.1 c.args.self.now c.let_go.new.self c.close.new.self c.leave.new.self _ _ c.in_ok-left.ensures.turns.2 c.let_go.ensures.pool c.let_go.ensures.links
    c.close.result c.in-Some.left (find_key c.args.key c.args.self.now.pool.holds.items) refl (search rules) c.close.ensures.pool c.close.ensures.gone (returns-else-left-clause-keeps c)

pub returns-in_default-clause-lets : goal.returns-in_default-clause-lets
returns-in_default-clause-lets c = λ reached. let_go_same c.args.key c.args.self.now c.let_go.new.self c.let_go.ensures.links

pub returns-then-left-clause-lets : goal.returns-then-left-clause-lets
returns-then-left-clause-lets c = λ reached.
    let_go_by c.send_unheld.result c.args.key c.in-Some.left (find_key c.args.key c.args.self.now.pool.holds.items) c.args.self.now c.let_go.new.self c.send_unheld.new.self refl (search rules) c.let_go.ensures.links c.send_unheld.ensures.others
    (returns-then-left-clause-ends c reached)

pub returns-else-left-clause-lets : goal.returns-else-left-clause-lets
returns-else-left-clause-lets c = λ reached.
    let_go_by c.close.result c.args.key c.in-Some.left (find_key c.args.key c.args.self.now.pool.holds.items) c.args.self.now c.let_go.new.self c.close.new.self refl (search rules) c.let_go.ensures.links c.close.ensures.others (returns-else-left-clause-ends c reached)

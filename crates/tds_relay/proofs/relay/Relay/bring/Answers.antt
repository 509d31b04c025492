use Rattle.std.proofs.Common.{◌≡◌, ◌∙◌, ap, refl, rules, sym, true, inl, inr, false, arith, ◌≤◌, subst}
use Rattle.tds_relay.specs.Fronts.{ends_in, core_in, core_of_ends, machine_in}
use Rattle.tds_relay.specs.Ties.{Neither, pool_in, IsReached}
use Rattle.tds_relay.proofs.steps.Fronts.{moves_does}
use Rattle.tds_relay.proofs.steps.Reaching.{reaches_turn, reached_on}
use Rattle.tds_relay.proofs.steps.Stepping.{no_steps, steps_moved}
use Rattle.tds_relay.proofs.steps.Placed.{first_opens, none_there}
use Rattle.tds_relay.proofs.lending.Resting.{go_both, none_go, go_refl}
use Rattle.tds_relay.proofs.steps.Renaming.{first_called}
use Rattle.tds_relay.proofs.lending.Fresh.{features_kept, first_stays, size_kept}
use Rattle.tds_relay.specs.Queues.{names_of}
use Rattle.tds_relay.proofs.spared.Ordered.{ordered_both}
use Rattle.tds_relay.proofs.spared.Lines.{brought_line, waited}
use Rattle.tds_relay.proofs.spared.Apart.{lends_at, lends_none}
use Rattle.tds_relay.specs.Closings.{IsWaiting, register_in}
use Rattle.tds_relay.proofs.spared.Closings.{closes_both, closes_more, closes_nobody, closes_refl}
use Rattle.tds_relay.proofs.seats.Linked.{seated_pushed}
use Rattle.tds_relay.proofs.seats.Relays.{brought_none, brought_one, none_brought}
use Rattle.tds_relay.proofs.spared.Opening.{grows_brought, grows_refl, brought_low, on_last, opens_above, opens_new_both, opens_none, opens_same, turn_last}
use Rattle.std.specs.Prelude.{IfNone, IfSome, IsSome, None, Option}
use Rattle.tds_relay.specs.Cleaning.{IsLentBy, IsTooLong, CountsOnce, LendsNone, cleaned_in}
use Rattle.tds_relay.specs.Pool.{find_number}
use Rattle.tds_relay.specs.declared.pool.leaving.Left.{Left}
use Rattle.tds_relay.proofs.spared.Brought.{brought_holds, first_served, if_some, first_waits, lent_unheld}
use Rattle.tds_relay.proofs.spared.Freeing.{forget_none}
use Rattle.tds_relay.proofs.spared.Cleaned.{since_brought, too_long}
use Rattle.tds_relay.specs.Reasons.{HasNoRoom}
use Rattle.tds_relay.proofs.spared.Lasting.{last_more}
use Rattle.tds_relay.proofs.relay.Relay.bring.Goals as goal

pub returns-in_default-clause-goes : goal.returns-in_default-clause-goes
returns-in_default-clause-goes c = λ from h. reaches_turn Neither from _ _ _ _ _ c.in_ok-left.ensures.turns.2 refl h

pub returns-then-not-left-clause-goes : goal.returns-then-not-left-clause-goes
returns-then-not-left-clause-goes c = λ from h. reaches_turn Neither from _ _ _ _ _ c.in_ok-left.ensures.turns.2 refl h

pub returns-clause-goes : goal.returns-clause-goes
returns-clause-goes c = λ from h.
    c.in_ok-serve_line.ensures.goes Neither from
    (c.in_ok-send_unheld.ensures.goes Neither from (reaches_turn Neither from _ _ _ _ _ c.in_ok-left.ensures.turns.2 refl h))

pub returns-in_default-clause-steps : goal.returns-in_default-clause-steps
returns-in_default-clause-steps c =
    steps_moved Neither (machine_in c.args.self.now) _ _ _ _ (λ from h. moves_does Neither from _ _ _ _ _ _ _ c.in_ok-left.ensures.turns.2 tt refl refl h) refl (no_steps Neither (machine_in c.args.self.now))

pub returns-then-not-left-clause-steps : goal.returns-then-not-left-clause-steps
returns-then-not-left-clause-steps c =
    steps_moved Neither (machine_in c.args.self.now) _ _ _ _ (λ from h. moves_does Neither from _ _ _ _ _ _ _ c.in_ok-left.ensures.turns.2 tt refl refl h) refl (no_steps Neither (machine_in c.args.self.now))

pub returns-clause-steps : goal.returns-clause-steps
returns-clause-steps c =
    steps_moved Neither (machine_in c.args.self.now) _ _ _ _ (c.in_ok-serve_line.ensures.moves Neither) c.in_ok-serve_line.ensures.kept
    (steps_moved Neither (machine_in c.args.self.now) _ _ _ _ (c.in_ok-send_unheld.ensures.moves Neither) c.in_ok-send_unheld.ensures.kept
    (steps_moved Neither (machine_in c.args.self.now) _ _ _ _ (λ from h. moves_does Neither from _ _ _ _ _ _ _ c.in_ok-left.ensures.turns.2 tt refl refl h) refl (no_steps Neither (machine_in c.args.self.now))))

pub returns-clause-opens : goal.returns-clause-opens
returns-clause-opens c =
    let none : c.is_empty.result ≡ true = search rules in
    first_opens _ _ c.args.self.now.links.items _ _ _ (sym c.is_empty.ensures ∙ none) c.in_ok-push.ensures.items c.in_ok-link.ensures.number c.in_ok-link.ensures.unread refl c.in_ok-link.ensures.made.5
    c.in_ok-send_unheld.ensures.read c.in_ok-serve_line.ensures.opens

pub returns-clause-stand : goal.returns-clause-stand
returns-clause-stand c = λ n r h. c.in_ok-serve_line.ensures.stand n r (c.in_ok-send_unheld.ensures.stand n r (c.in_ok-left.ensures.stand n r h))

pub returns-in_default-clause-goes_on : goal.returns-in_default-clause-goes_on
returns-in_default-clause-goes_on c =
    let none : c.is_empty.result ≡ true = search rules in
    none_go c.args.self.now _ (none_there c.args.self.now.links.items (sym c.is_empty.ensures ∙ none)) (λ key goes. inl refl)

pub returns-then-not-left-clause-goes_on : goal.returns-then-not-left-clause-goes_on
returns-then-not-left-clause-goes_on c =
    let none : c.is_empty.result ≡ true = search rules in
    none_go c.args.self.now _ (none_there c.args.self.now.links.items (sym c.is_empty.ensures ∙ none)) (λ key goes. inl refl)

pub returns-clause-goes_on : goal.returns-clause-goes_on
returns-clause-goes_on c =
    let none : c.is_empty.result ≡ true = search rules in
    go_both c.args.self.now c.send_unheld.new.self c.serve_line.new.self
    (λ r. reached_on Neither _ _ (λ from h. c.in_ok-send_unheld.ensures.goes Neither from (reaches_turn Neither from _ _ _ _ _ c.in_ok-left.ensures.turns.2 refl h)) r)
    (none_go c.args.self.now c.send_unheld.new.self (none_there c.args.self.now.links.items (sym c.is_empty.ensures ∙ none)) c.in_ok-send_unheld.ensures.asks)
    c.in_ok-serve_line.ensures.goes_on

pub returns-then-not-is_empty-clause-goes_on : goal.returns-then-not-is_empty-clause-goes_on
returns-then-not-is_empty-clause-goes_on c = go_refl c.args.self.now

pub returns-clause-names : goal.returns-clause-names
returns-clause-names c = ap names_of (c.in_ok-serve_line.ensures.kept ∙ c.in_ok-send_unheld.ensures.kept)

pub returns-clause-named : goal.returns-clause-named
returns-clause-named c =
    let none : c.is_empty.result ≡ true = search rules in
    first_called _ c.args.tag _ c.args.self.now.links.items _ _ _ (sym c.is_empty.ensures ∙ none) c.in_ok-push.ensures.items refl refl
    c.in_ok-send_unheld.ensures.read c.in_ok-serve_line.ensures.opens

pub returns-clause-first : goal.returns-clause-first
returns-clause-first c = λ reached.
    let old = c.args.self.now in
    let mid = c.send_unheld.new.self in
    let left = c.in-Some.left in
    let lent : IsLentBy left.number (pool_in old.pool).service =
    subst (λ (o : Option Left). IfSome o (λ (it : Left). IsLentBy it.number (pool_in old.pool).service)) c.in-Some.is c.in_ok-left.ensures.lent in
    let one : left.number ≤ (pool_in c.bring.new.self).service.last = brought_low (pool_in old.pool) (pool_in c.bring.new.self) c.in_ok-left.ensures.turns.0 c.in_ok-left.ensures.turns.1 left.number _ _ reached lent c.in_ok-left.ensures.turns.2 in
    let two : (pool_in c.bring.new.self).service.last ≤ (pool_in mid.pool).service.last = on_last (pool_in c.bring.new.self) (pool_in mid.pool) c.in_ok-send_unheld.ensures.goes in
    let empty : c.is_empty.result ≡ true = search rules in
    first_stays c.args.tag left.number old mid c.serve_line.new.self _ c.push.new.self.items (none_there old.links.items (sym c.is_empty.ensures ∙ empty)) c.in_ok-push.ensures.items c.in_ok-link.ensures.number refl refl c.in_ok-link.ensures.made
    c.in_ok-send_unheld.ensures.read (omega (arith, one, two)) c.in_ok-serve_line.ensures.given (size_kept _ _ c.in_ok-send_unheld.ensures.closes.told) (features_kept _ _ c.in_ok-send_unheld.ensures.closes.told) c.in_ok-serve_line.ensures.fresh

pub returns-clause-ordered : goal.returns-clause-ordered
returns-clause-ordered c = ordered_both _ _ _ c.in_ok-send_unheld.ensures.ordered c.in_ok-serve_line.ensures.ordered

pub returns-clause-kept : goal.returns-clause-kept
returns-clause-kept c = c.in_ok-serve_line.ensures.kept ∙ c.in_ok-send_unheld.ensures.kept

pub returns-clause-closes : goal.returns-clause-closes
returns-clause-closes c =
    let old = pool_in c.args.self.now.pool in
    let mid = pool_in c.send_unheld.new.self.pool in (
      c.push.new.self.items,
      inr (_, c.in_ok-push.ensures.items, refl, refl, c.in_ok-link.ensures.made),
      closes_both (IsWaiting old.line) _ _ _ (closes_nobody (IsWaiting old.line) _ _ c.in_ok-send_unheld.ensures.closes)
          (closes_more (IsWaiting mid.line) (IsWaiting old.line) _ _
          (λ key. waited Neither old mid key (λ none. none) (λ from h. c.in_ok-send_unheld.ensures.goes Neither from (reaches_turn Neither from _ _ _ _ _ c.in_ok-left.ensures.turns.2 refl h)))
          c.in_ok-serve_line.ensures.closes),
    )

pub returns-then-not-is_empty-clause-closes : goal.returns-then-not-is_empty-clause-closes
returns-then-not-is_empty-clause-closes c = (c.args.self.now.links.items, inl refl, closes_refl (IsWaiting (pool_in c.args.self.now.pool).line) (register_in c.args.self.now))

pub returns-in_default-clause-closes : goal.returns-in_default-clause-closes
returns-in_default-clause-closes c = (c.args.self.now.links.items, inl refl, closes_refl (IsWaiting (pool_in c.args.self.now.pool).line) (register_in c.args.self.now))

pub returns-then-not-left-clause-closes : goal.returns-then-not-left-clause-closes
returns-then-not-left-clause-closes c = (c.args.self.now.links.items, inl refl, closes_refl (IsWaiting (pool_in c.args.self.now.pool).line) (register_in c.args.self.now))

pub returns-then-not-is_empty-clause-tries : goal.returns-then-not-is_empty-clause-tries
returns-then-not-is_empty-clause-tries c = λ reached.
    let some : c.is_empty.result ≡ false = search rules in
    (inl (sym c.is_empty.ensures ∙ some), refl)

pub returns-in_default-clause-tries : goal.returns-in_default-clause-tries
returns-in_default-clause-tries c = λ reached. (
  inr (subst (λ (o : Option Left). IfNone o (LendsNone (pool_in c.args.self.now.pool).service)) c.in_default.is c.in_ok-left.ensures.none),
  subst (λ (o : Option Left). IfNone o (pool_in c.bring.new.self ≡ pool_in c.args.self.now.pool)) c.in_default.is c.in_ok-left.ensures.same,
)

pub returns-then-not-left-clause-tries : goal.returns-then-not-left-clause-tries
returns-then-not-left-clause-tries c = λ reached.
    let gone : c.in-Some.left.is_there ≡ false = search rules in
    let there : c.in-Some.left.is_there ≡ true = subst (λ (o : Option Left). IfSome o (λ (it : Left). it.is_there ≡ true)) c.in-Some.is (c.in_ok-left.ensures.there reached) in
    absurd (let u : true ≡ false = sym there ∙ gone in let v : ⊥ = cc in v)

pub returns-in_default-clause-seated : goal.returns-in_default-clause-seated
returns-in_default-clause-seated c = λ s. brought_none c.in_ok-left.ensures.turns.0 c.in_ok-left.ensures.turns.1 c.args.self.now.pool c.bring.new.self _ _ c.args.self.now.links.items c.in_ok-left.field-0 c.in_ok-left.ensures.turns.2 c.in_ok-left.ensures.seats s c.in_default.is

pub returns-then-not-left-clause-seated : goal.returns-then-not-left-clause-seated
returns-then-not-left-clause-seated c = λ s.
    let empty : c.is_empty.result ≡ true = search rules in
    none_brought c.in-Some.left.number (pool_in c.bring.new.self) c.args.self.now.links.items (none_there c.args.self.now.links.items (sym c.is_empty.ensures ∙ empty))
    (brought_one c.in_ok-left.ensures.turns.0 c.in_ok-left.ensures.turns.1 c.args.self.now.pool c.bring.new.self _ _ c.args.self.now.links.items c.in_ok-left.field-0 c.in_ok-left.ensures.turns.2 c.in_ok-left.ensures.seats s c.in-Some.left false (none_there c.args.self.now.links.items (sym c.is_empty.ensures ∙ empty)) c.in-Some.is (search rules))

pub returns-clause-seated : goal.returns-clause-seated
returns-clause-seated c = λ s.
    let empty : c.is_empty.result ≡ true = search rules in
    c.in_ok-serve_line.ensures.seated (c.in_ok-send_unheld.ensures.seated
    (seated_pushed c.in-Some.left.number (pool_in c.bring.new.self) _ c.args.self.now.links.items c.push.new.self.items c.in_ok-push.ensures.items c.in_ok-link.ensures.number
    (brought_one c.in_ok-left.ensures.turns.0 c.in_ok-left.ensures.turns.1 c.args.self.now.pool c.bring.new.self _ _ c.args.self.now.links.items c.in_ok-left.field-0 c.in_ok-left.ensures.turns.2 c.in_ok-left.ensures.seats s c.in-Some.left true (none_there c.args.self.now.links.items (sym c.is_empty.ensures ∙ empty)) c.in-Some.is (search rules))))

pub returns-then-not-is_empty-clause-opening : goal.returns-then-not-is_empty-clause-opening
returns-then-not-is_empty-clause-opening c = opens_none c.args.self.now

pub returns-in_default-clause-opening : goal.returns-in_default-clause-opening
returns-in_default-clause-opening c = opens_same c.args.self.now _ refl (turn_last _ (pool_in c.args.self.now.pool) (pool_in c.bring.new.self) _ _ c.in_ok-left.ensures.turns.2)

pub returns-then-not-left-clause-opening : goal.returns-then-not-left-clause-opening
returns-then-not-left-clause-opening c = opens_same c.args.self.now _ refl (turn_last _ (pool_in c.args.self.now.pool) (pool_in c.bring.new.self) _ _ c.in_ok-left.ensures.turns.2)

pub returns-clause-opening : goal.returns-clause-opening
returns-clause-opening c =
    let one : (pool_in c.args.self.now.pool).service.last ≤ (pool_in c.bring.new.self).service.last = turn_last _ (pool_in c.args.self.now.pool) (pool_in c.bring.new.self) _ _ c.in_ok-left.ensures.turns.2 in
    let two : (pool_in c.bring.new.self).service.last ≤ (pool_in c.send_unheld.new.self.pool).service.last = on_last (pool_in c.bring.new.self) (pool_in c.send_unheld.new.self.pool) c.in_ok-send_unheld.ensures.goes in
    opens_new_both c.args.self.now c.send_unheld.new.self c.serve_line.new.self (opens_same c.args.self.now c.send_unheld.new.self c.send_unheld.ensures.opening (omega (arith, one, two))) c.in_ok-serve_line.ensures.opening

pub returns-then-not-is_empty-clause-lends : goal.returns-then-not-is_empty-clause-lends
returns-then-not-is_empty-clause-lends c = lends_none (core_in c.args.self.now)

pub returns-in_default-clause-lends : goal.returns-in_default-clause-lends
returns-in_default-clause-lends c =
    let line : (pool_in c.bring.new.self).line ≡ (pool_in c.args.self.now.pool).line =
    brought_line (pool_in c.args.self.now.pool) (pool_in c.bring.new.self) c.in_ok-left.ensures.turns.0 c.in_ok-left.ensures.turns.1 c.in_ok-left.ensures.turns.2.pool_is in
    lends_at _ _ _ _ (core_of_ends (pool_in c.bring.new.self) (ends_in c.args.self.now.applications)) line refl (lends_none (core_of_ends (pool_in c.bring.new.self) (ends_in c.args.self.now.applications)))

pub returns-then-not-left-clause-lends : goal.returns-then-not-left-clause-lends
returns-then-not-left-clause-lends c =
    let line : (pool_in c.bring.new.self).line ≡ (pool_in c.args.self.now.pool).line =
    brought_line (pool_in c.args.self.now.pool) (pool_in c.bring.new.self) c.in_ok-left.ensures.turns.0 c.in_ok-left.ensures.turns.1 c.in_ok-left.ensures.turns.2.pool_is in
    lends_at _ _ _ _ (core_of_ends (pool_in c.bring.new.self) (ends_in c.args.self.now.applications)) line refl (lends_none (core_of_ends (pool_in c.bring.new.self) (ends_in c.args.self.now.applications)))

pub returns-clause-lends : goal.returns-clause-lends
returns-clause-lends c =
    let line : (pool_in c.bring.new.self).line ≡ (pool_in c.args.self.now.pool).line =
    brought_line (pool_in c.args.self.now.pool) (pool_in c.bring.new.self) c.in_ok-left.ensures.turns.0 c.in_ok-left.ensures.turns.1 c.in_ok-left.ensures.turns.2.pool_is in
    lends_at _ _ _ _ _ (c.in_ok-send_unheld.ensures.line ∙ line) c.in_ok-send_unheld.ensures.ends c.in_ok-serve_line.ensures.lends

pub returns-clause-cleans : goal.returns-clause-cleans
returns-clause-cleans c = λ reached.
    let old = c.args.self.now in
    let mid = c.send_unheld.new.self in
    let left = c.in-Some.left in
    let empty : c.is_empty.result ≡ true = search rules in
    let there : left.is_there ≡ true = search rules in
    let lent : IsLentBy left.number (pool_in old.pool).service =
    subst (λ (o : Option Left). IfSome o (λ (it : Left). IsLentBy it.number (pool_in old.pool).service)) c.in-Some.is c.in_ok-left.ensures.lent in
    let puts = if_some _ c.in_ok-left.field-0 left c.in-Some.is (c.in_ok-left.ensures.cleans reached) there in
    let unheld : find_number left.number (pool_in c.bring.new.self).holds ≡ None =
    ap (find_number left.number) (brought_holds (pool_in old.pool) (pool_in c.bring.new.self) c.in_ok-left.ensures.turns.0 c.in_ok-left.ensures.turns.1 c.in_ok-left.ensures.turns.2.pool_is)
    ∙ lent_unheld (pool_in old.pool) lent.0 left.number lent.1 reached lent.2 in
    let led : IsReached (pool_in mid.pool) =
    reached_on Neither _ _ (λ from h. c.in_ok-send_unheld.ensures.goes Neither from (reaches_turn Neither from _ _ _ _ _ c.in_ok-left.ensures.turns.2 refl h)) reached in
    first_served left.number mid c.serve_line.new.self _ c.bring.new.out.items _ (search rules)
    (first_waits left.number old.links.items c.push.new.self.items _ (none_there old.links.items (sym c.is_empty.ensures ∙ empty)) c.in_ok-push.ensures.items c.in_ok-link.ensures.number c.in_ok-link.ensures.nothing)
    puts (c.in_ok-send_unheld.ensures.puts unheld) (forget_none left.number left.number c.bring.new.self.holds.items mid.pool.holds.items c.in_ok-send_unheld.ensures.holds unheld)
    c.in_ok-serve_line.ensures.opens (c.in_ok-serve_line.ensures.fills led)

pub returns-clause-counts : goal.returns-clause-counts
returns-clause-counts c = subst (CountsOnce (cleaned_in c.args.self.now)) (sym c.serve_line.ensures.counts) c.in_ok-send_unheld.ensures.counts

pub returns-clause-cleaned : goal.returns-clause-cleaned
returns-clause-cleaned c = λ reached.
    let old = c.args.self.now in
    let mid = c.send_unheld.new.self in
    let left = c.in-Some.left in
    let empty : c.is_empty.result ≡ true = search rules in
    let lent : IsLentBy left.number (pool_in old.pool).service =
    subst (λ (o : Option Left). IfSome o (λ (it : Left). IsLentBy it.number (pool_in old.pool).service)) c.in-Some.is c.in_ok-left.ensures.lent in
    let puts = if_some _ c.in_ok-left.field-0 left c.in-Some.is (c.in_ok-left.ensures.cleans reached) (search rules) in
    let unheld : find_number left.number (pool_in c.bring.new.self).holds ≡ None =
    ap (find_number left.number) (brought_holds (pool_in old.pool) (pool_in c.bring.new.self) c.in_ok-left.ensures.turns.0 c.in_ok-left.ensures.turns.1 c.in_ok-left.ensures.turns.2.pool_is)
    ∙ lent_unheld (pool_in old.pool) lent.0 left.number lent.1 reached lent.2 in
    let waits = first_waits left.number old.links.items c.push.new.self.items _ (none_there old.links.items (sym c.is_empty.ensures ∙ empty)) c.in_ok-push.ensures.items c.in_ok-link.ensures.number c.in_ok-link.ensures.nothing in
    let one : left.number ≤ (pool_in c.bring.new.self).service.last = brought_low (pool_in old.pool) (pool_in c.bring.new.self) c.in_ok-left.ensures.turns.0 c.in_ok-left.ensures.turns.1 left.number _ _ reached lent c.in_ok-left.ensures.turns.2 in
    let two : (pool_in c.bring.new.self).service.last ≤ (pool_in mid.pool).service.last = on_last (pool_in c.bring.new.self) (pool_in mid.pool) c.in_ok-send_unheld.ensures.goes in
    since_brought (IsTooLong old.size) (HasNoRoom left.number c.bring.new.out.items c.push.new.self.items) left.number old mid c.serve_line.new.self
    (too_long old.size left.number old.features _ old.links.items c.push.new.self.items _ _ (none_there old.links.items (sym c.is_empty.ensures ∙ empty)) c.in_ok-push.ensures.items c.in_ok-link.ensures.number c.in_ok-link.ensures.made
    c.in_ok-link.ensures.nothing (search rules) puts)
    (c.in_ok-send_unheld.ensures.cleaned unheld (subst IsSome (sym waits) refl)) (c.in_ok-serve_line.ensures.given.fills left.number (omega (arith, one, two))) c.serve_line.ensures.counts
    c.in_ok-send_unheld.ensures.closes.were_open
    (last_more (IsWaiting (pool_in mid.pool).line) (IsWaiting (pool_in old.pool).line) _ _
    (λ key. waited Neither (pool_in old.pool) (pool_in mid.pool) key (λ none. none) (λ from h. c.in_ok-send_unheld.ensures.goes Neither from (reaches_turn Neither from _ _ _ _ _ c.in_ok-left.ensures.turns.2 refl h)))
    c.in_ok-serve_line.ensures.lasts)

pub returns-clause-dials : goal.returns-clause-dials
returns-clause-dials c = λ reached.
    let old = c.args.self.now in
    let mid = c.send_unheld.new.self in
    let left = c.in-Some.left in
    let lent : IsLentBy left.number (pool_in old.pool).service =
    subst (λ (o : Option Left). IfSome o (λ (it : Left). IsLentBy it.number (pool_in old.pool).service)) c.in-Some.is c.in_ok-left.ensures.lent in
    let one : left.number ≤ (pool_in c.bring.new.self).service.last = brought_low (pool_in old.pool) (pool_in c.bring.new.self) c.in_ok-left.ensures.turns.0 c.in_ok-left.ensures.turns.1 left.number _ _ reached lent c.in_ok-left.ensures.turns.2 in
    let two : (pool_in c.bring.new.self).service.last ≤ (pool_in mid.pool).service.last = on_last (pool_in c.bring.new.self) (pool_in mid.pool) c.in_ok-send_unheld.ensures.goes in
    opens_above left.number old mid c.serve_line.new.self c.send_unheld.ensures.opening (omega (arith, one, two)) c.in_ok-serve_line.ensures.opening

pub returns-then-not-is_empty-clause-many : goal.returns-then-not-is_empty-clause-many
returns-then-not-is_empty-clause-many c = grows_refl c.args.self.now

pub returns-in_default-clause-many : goal.returns-in_default-clause-many
returns-in_default-clause-many c = grows_refl c.args.self.now

pub returns-then-not-left-clause-many : goal.returns-then-not-left-clause-many
returns-then-not-left-clause-many c = grows_refl c.args.self.now

pub returns-clause-many : goal.returns-clause-many
returns-clause-many c = grows_brought _ c.push.new.self.items c.args.self.now c.send_unheld.new.self c.serve_line.new.self c.in_ok-push.ensures.items c.in_ok-send_unheld.ensures.read.few c.send_unheld.ensures.opening c.in_ok-serve_line.ensures.many

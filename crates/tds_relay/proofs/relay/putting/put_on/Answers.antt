use Rattle.std.proofs.Common.{◌≡◌, ◌∙◌, ap, Bool, false, inl, inr, refl, rules, subst, sym, true}
use Rattle.tds_relay.specs.Asking.{SendsOn}
use Rattle.tds_relay.specs.Ties.{Reaches, pool_in}
use Rattle.tds_relay.proofs.steps.Reaching.{reaches_turn}
use Rattle.tds_relay.proofs.spared.Held.{action_both}
use Rattle.tds_relay.proofs.lending.Resting.{reached_does}
use Rattle.tds_relay.specs.Bodies.{ClientPuts}
use Rattle.tds_relay.proofs.steps.Going.{holds_stay, puts_last, puts_part}
use Rattle.tds_relay.specs.Pool.{Pool, Puts, Ends, find_key}
use Rattle.tds_relay.proofs.spared.Apart.{line_does}
use Rattle.tds_relay.specs.Reasons.{OfBytes, OfEnd}
use Rattle.tds_relay.proofs.seats.Pools.{both_keep, action_keeps, pool_keeps}
use Rattle.tds_relay.proofs.relay.putting.put_on.Goals as goal

pub returns-then-not-whole-clause-goes : goal.returns-then-not-whole-clause-goes
returns-then-not-whole-clause-goes c = λ by from h. reaches_turn by from _ _ _ _ _ c.in-Ok.ensures.ok.1 tt h

pub returns-in-Ok-finish-clause-goes : goal.returns-in-Ok-finish-clause-goes
returns-in-Ok-finish-clause-goes c = λ by from h. reaches_turn by from _ _ _ _ _ c.in-Ok-finish.ensures.ok.1 tt (reaches_turn by from _ _ _ _ _ c.in-Ok.ensures.ok.1 tt h)

pub returns-in_ok-unless_memory-in-Err-finish-clause-goes : goal.returns-in_ok-unless_memory-in-Err-finish-clause-goes
returns-in_ok-unless_memory-in-Err-finish-clause-goes c = λ by from h. subst (Reaches by from) (sym c.in-Err-finish.ensures.err) (reaches_turn by from _ _ _ _ _ c.in-Ok.ensures.ok.1 tt h)

pub returns-then-not-whole-clause-puts : goal.returns-then-not-whole-clause-puts
returns-then-not-whole-clause-puts c = inr (record { count = c.in-Ok.ensures.ok.0; mid = _; between = _; first = c.in-Ok.ensures.ok.1; last = inl (refl, refl) })

pub returns-in-Ok-finish-clause-puts : goal.returns-in-Ok-finish-clause-puts
returns-in-Ok-finish-clause-puts c = inr (record {
  count = c.in-Ok.ensures.ok.0;
  mid = _;
  between = _;
  first = c.in-Ok.ensures.ok.1;
  last = inr (search rules, c.in-Ok-finish.ensures.ok.0, c.in-Ok-finish.ensures.ok.1);
})

pub returns-in_ok-unless_memory-in-Err-finish-clause-puts : goal.returns-in_ok-unless_memory-in-Err-finish-clause-puts
returns-in_ok-unless_memory-in-Err-finish-clause-puts c =
    inr (record { count = c.in-Ok.ensures.ok.0; mid = _; between = _; first = c.in-Ok.ensures.ok.1; last = inl (c.in-Err-finish.ensures.err, c.in-Err-finish.ensures.nothing) })

pub returns-then-not-whole-clause-sends : goal.returns-then-not-whole-clause-sends
returns-then-not-whole-clause-sends c = λ e.
    let part : c.args.whole ≡ false = search rules in
    subst (λ (b : Bool). SendsOn b (pool_in c.put.new.self) c.args.key) (sym part) c.in-Ok.ensures.sends

pub returns-in-Ok-finish-clause-sends : goal.returns-in-Ok-finish-clause-sends
returns-in-Ok-finish-clause-sends c = λ e.
    let whole : c.args.whole ≡ true = search rules in
    subst (λ (b : Bool). SendsOn b (pool_in c.finish.new.self) c.args.key) (sym whole) c.in-Ok-finish.ensures.sends

pub returns-in-Ok-finish-clause-stand : goal.returns-in-Ok-finish-clause-stand
returns-in-Ok-finish-clause-stand c = λ n r h. c.in-Ok-finish.ensures.stand n r (c.in-Ok.ensures.stand n r h)

pub returns-in_ok-unless_memory-in-Err-finish-clause-stand : goal.returns-in_ok-unless_memory-in-Err-finish-clause-stand
returns-in_ok-unless_memory-in-Err-finish-clause-stand c = λ n r h. c.in-Err-finish.ensures.stand n r (c.in-Ok.ensures.stand n r h)

pub returns-in-Ok-finish-clause-others : goal.returns-in-Ok-finish-clause-others
returns-in-Ok-finish-clause-others c = action_both c.args.pool.now c.put.new.self c.finish.new.self c.args.key
    (reached_does _ _ c.args.key (Puts c.in-Ok.ensures.ok.0) _ _ c.in-Ok.ensures.ok.1 tt) c.put.ensures.others c.finish.ensures.others

pub returns-in_ok-unless_memory-in-Err-finish-clause-others : goal.returns-in_ok-unless_memory-in-Err-finish-clause-others
returns-in_ok-unless_memory-in-Err-finish-clause-others c = action_both c.args.pool.now c.put.new.self c.finish.new.self c.args.key
    (reached_does _ _ c.args.key (Puts c.in-Ok.ensures.ok.0) _ _ c.in-Ok.ensures.ok.1 tt) c.put.ensures.others c.finish.ensures.others

pub returns-then-not-whole-clause-body : goal.returns-then-not-whole-clause-body
returns-then-not-whole-clause-body c = λ e.
    let part : c.args.whole ≡ false = search rules in
    subst (λ (b : Bool). ClientPuts b c.args.bytes.now c.args.key c.args.pool.now c.put.new.self c.args.out.now.items c.put.new.out.items) (sym part)
    (puts_part c.args.bytes.now c.args.key c.args.pool.now c.put.new.self _ _ _ c.in-Ok.ensures.whose (holds_stay c.args.key _ (pool_in c.args.pool.now) (pool_in c.put.new.self) _ _ c.in-Ok.ensures.ok.1) c.in-Ok.ensures.puts)

pub returns-in-Ok-finish-clause-body : goal.returns-in-Ok-finish-clause-body
returns-in-Ok-finish-clause-body c = λ e.
    let whole : c.args.whole ≡ true = search rules in
    subst (λ (b : Bool). ClientPuts b c.args.bytes.now c.args.key c.args.pool.now c.finish.new.self c.args.out.now.items c.finish.new.out.items) (sym whole)
    (puts_last c.args.bytes.now c.args.key c.args.pool.now c.put.new.self c.finish.new.self _ _ _ _
    (puts_part c.args.bytes.now c.args.key c.args.pool.now c.put.new.self _ _ _ c.in-Ok.ensures.whose (holds_stay c.args.key _ (pool_in c.args.pool.now) (pool_in c.put.new.self) _ _ c.in-Ok.ensures.ok.1) c.in-Ok.ensures.puts)
    c.in-Ok-finish.ensures.whose (holds_stay c.args.key _ (pool_in c.put.new.self) (pool_in c.finish.new.self) _ _ c.in-Ok-finish.ensures.ok.1) c.in-Ok-finish.ensures.ends)

pub returns-then-not-whole-clause-line : goal.returns-then-not-whole-clause-line
returns-then-not-whole-clause-line c = line_does c.args.key _ _ _ _ _ c.in-Ok.ensures.ok.1

pub returns-in-Ok-finish-clause-line : goal.returns-in-Ok-finish-clause-line
returns-in-Ok-finish-clause-line c = line_does c.args.key _ _ _ _ _ c.in-Ok-finish.ensures.ok.1 ∙ line_does c.args.key _ _ _ _ _ c.in-Ok.ensures.ok.1

pub returns-in_ok-unless_memory-in-Err-finish-clause-line : goal.returns-in_ok-unless_memory-in-Err-finish-clause-line
returns-in_ok-unless_memory-in-Err-finish-clause-line c = ap (λ (d : Pool). d.line) c.in-Err-finish.ensures.err ∙ line_does c.args.key _ _ _ _ _ c.in-Ok.ensures.ok.1

pub returns-in-Err-clause-untaken : goal.returns-in-Err-clause-untaken
returns-in-Err-clause-untaken c = λ e hold its.
    OfBytes (record { hold = hold; its = its; refusal = c.in-Err.refusal; reason = c.in_ok-unless_memory-in-Err.ensures; refuses = c.in-Err.ensures.refused hold its })

pub returns-in_ok-unless_memory-in-Err-finish-clause-untaken : goal.returns-in_ok-unless_memory-in-Err-finish-clause-untaken
returns-in_ok-unless_memory-in-Err-finish-clause-untaken c = λ e hold its.
    let stays = holds_stay c.args.key _ (pool_in c.args.pool.now) (pool_in c.put.new.self) _ _ c.in-Ok.ensures.ok.1 in
    let later = ap (find_key c.args.key) stays ∙ its in
    OfEnd (search rules) c.put.new.self c.args.out.now.items c.put.new.out.items
    (puts_part c.args.bytes.now c.args.key c.args.pool.now c.put.new.self _ _ _ c.in-Ok.ensures.whose (holds_stay c.args.key _ (pool_in c.args.pool.now) (pool_in c.put.new.self) _ _ c.in-Ok.ensures.ok.1) c.in-Ok.ensures.puts)
    (record { hold = hold; its = later; refusal = c.in-Err-finish.refusal; reason = c.in_ok-unless_memory-in-Err-finish.ensures; refuses = c.in-Err-finish.ensures.refused hold later })

pub returns-then-not-whole-clause-seats : goal.returns-then-not-whole-clause-seats
returns-then-not-whole-clause-seats c = action_keeps c.args.key (Puts c.in-Ok.ensures.ok.0) (pool_in c.args.pool.now) (pool_in c.put.new.self) _ _ c.in-Ok.ensures.ok.1

pub returns-in-Ok-finish-clause-seats : goal.returns-in-Ok-finish-clause-seats
returns-in-Ok-finish-clause-seats c = both_keep (pool_in c.args.pool.now).service (pool_in c.put.new.self).service (pool_in c.finish.new.self).service
    (action_keeps c.args.key (Puts c.in-Ok.ensures.ok.0) (pool_in c.args.pool.now) (pool_in c.put.new.self) _ _ c.in-Ok.ensures.ok.1)
    (action_keeps c.args.key (Ends c.in-Ok-finish.ensures.ok.0) (pool_in c.put.new.self) (pool_in c.finish.new.self) _ _ c.in-Ok-finish.ensures.ok.1)

pub returns-in_ok-unless_memory-in-Err-finish-clause-seats : goal.returns-in_ok-unless_memory-in-Err-finish-clause-seats
returns-in_ok-unless_memory-in-Err-finish-clause-seats c = both_keep (pool_in c.args.pool.now).service (pool_in c.put.new.self).service (pool_in c.finish.new.self).service
    (action_keeps c.args.key (Puts c.in-Ok.ensures.ok.0) (pool_in c.args.pool.now) (pool_in c.put.new.self) _ _ c.in-Ok.ensures.ok.1)
    (pool_keeps (pool_in c.put.new.self) (pool_in c.finish.new.self) c.in-Err-finish.ensures.err)

pub returns-in-Err-clause-seats : goal.returns-in-Err-clause-seats
returns-in-Err-clause-seats c = pool_keeps (pool_in c.args.pool.now) (pool_in c.put.new.self) c.in-Err.ensures.err

pub returns-then-not-whole-clause-holds : goal.returns-then-not-whole-clause-holds
returns-then-not-whole-clause-holds c = holds_stay c.args.key _ (pool_in c.args.pool.now) (pool_in c.put.new.self) _ _ c.in-Ok.ensures.ok.1

pub returns-in-Ok-finish-clause-holds : goal.returns-in-Ok-finish-clause-holds
returns-in-Ok-finish-clause-holds c =
    holds_stay c.args.key _ (pool_in c.put.new.self) (pool_in c.finish.new.self) _ _ c.in-Ok-finish.ensures.ok.1
    ∙ holds_stay c.args.key _ (pool_in c.args.pool.now) (pool_in c.put.new.self) _ _ c.in-Ok.ensures.ok.1

pub returns-in_ok-unless_memory-in-Err-finish-clause-holds : goal.returns-in_ok-unless_memory-in-Err-finish-clause-holds
returns-in_ok-unless_memory-in-Err-finish-clause-holds c =
    ap (λ (d : Pool). d.holds) c.in-Err-finish.ensures.err ∙ holds_stay c.args.key _ (pool_in c.args.pool.now) (pool_in c.put.new.self) _ _ c.in-Ok.ensures.ok.1

pub returns-in-Err-clause-holds : goal.returns-in-Err-clause-holds
returns-in-Err-clause-holds c = ap (λ (d : Pool). d.holds) c.in-Err.ensures.err

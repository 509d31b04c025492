use Rattle.std.proofs.Common.{refl, rules}
use Rattle.tds_relay.proofs.spared.Aside.{left_others, none_others, led_at}
use Rattle.tds_relay.specs.Pool.{find_key}
use Rattle.tds_relay.proofs.spared.Cleaned.{ends_none, ends_some, shut_none, shut_some, text_is}
use Rattle.tds_relay.specs.Ties.{pool_in}
use Rattle.tds_relay.proofs.seats.Rests.{held_on}
use Rattle.tds_relay.proofs.lending.Tending.{put_text}
use Rattle.tds_relay.proofs.pool.Pool.leave.Goals as goal

pub returns-in_default-clause-others : goal.returns-in_default-clause-others
returns-in_default-clause-others c = none_others c.args.self.now _ c.args.key refl refl

pub returns-clause-others : goal.returns-clause-others
returns-clause-others c = left_others c.args.self.now _ c.args.key c.in-Some.hold (search rules) (search rules) c.in_ok-is_there.ensures.aside

pub returns-in_default-clause-ends : goal.returns-in_default-clause-ends
returns-in_default-clause-ends c = λ reached. ends_none c.args.self.now.service (find_key c.args.key c.args.self.now.holds.items) _ _

pub returns-clause-ends : goal.returns-clause-ends
returns-clause-ends c = λ reached. ends_some c.args.self.now.service (find_key c.args.key c.args.self.now.holds.items) c.in-Some.hold _ _ _ (search rules)
    (λ there. text_is c.cleaning_text.result.now _ _ _ c.cleaning_text.ensures (c.in_ok-is_there.ensures.ends (led_at (pool_in c.args.self.now) reached) there))

pub returns-in_default-clause-seats : goal.returns-in_default-clause-seats
returns-in_default-clause-seats c = λ reached n. refl

pub returns-clause-seats : goal.returns-clause-seats
returns-clause-seats c = λ reached. c.in_ok-is_there.ensures.seats (led_at (pool_in c.args.self.now) reached) (held_on (pool_in c.args.self.now) c.args.key c.in-Some.hold reached (search rules))

pub returns-clause-newly : goal.returns-clause-newly
returns-clause-newly c = λ reached there.
    put_text c.cleaning_text.result.now _ _ _ _ c.cleaning_text.ensures (c.in_ok-is_there.ensures.newly (led_at (pool_in c.args.self.now) reached) there)

pub returns-in_default-clause-shut : goal.returns-in_default-clause-shut
returns-in_default-clause-shut c = shut_none c.args.self.now.service (find_key c.args.key c.args.self.now.holds.items)

pub returns-clause-shut : goal.returns-clause-shut
returns-clause-shut c = shut_some c.args.self.now.service (find_key c.args.key c.args.self.now.holds.items) c.in-Some.hold _ (search rules) c.in_ok-is_there.ensures.shut

use Rattle.std.proofs.Common.{arith, ◌∙◌}
use Rattle.std.specs.Int.{w16}
use Rattle.tds_token.specs.declared.fault.TokenFault.TheVariants.{Cut}
use Rattle.tds_token.specs.Reading.{number_at}
use Rattle.tds_token.proofs.Listed.{counted, listed}
use Rattle.tds_token.proofs.Skipping.{faulty}
use Rattle.tds_token.proofs.columns.ColumnsRef.all.Goals as goal

pub unreachable-requires : goal.unreachable-requires
unreachable-requires c =
    let f = faulty _ c.number16.result (number_at Cut w16 c.self.inside.bytes.now) c.in_default.not-Ok c.number16.ensures in
    counted c.self.inside.bytes.now f.0 c.self.invariant f.1

pub overflow_cast-count : goal.overflow_cast-count
overflow_cast-count c =
    let l = listed c.self.inside.bytes.now c.in-Ok.count c.in-Ok.rest.now c.self.invariant c.in-Ok.ensures in
    search (arith, l.most)

pub new-requires-clause-whole : goal.new-requires-clause-whole
new-requires-clause-whole c = (listed c.self.inside.bytes.now c.in-Ok.count c.in-Ok.rest.now c.self.invariant c.in-Ok.ensures).whole

pub new-requires-clause-least : goal.new-requires-clause-least
new-requires-clause-least c = (listed c.self.inside.bytes.now c.in-Ok.count c.in-Ok.rest.now c.self.invariant c.in-Ok.ensures).least

pub new-requires-clause-most : goal.new-requires-clause-most
new-requires-clause-most c = (listed c.self.inside.bytes.now c.in-Ok.count c.in-Ok.rest.now c.self.invariant c.in-Ok.ensures).most

pub returns : goal.returns
returns c =
    c.new.ensures ∙ (listed c.self.inside.bytes.now c.in-Ok.count c.in-Ok.rest.now c.self.invariant c.in-Ok.ensures).columns ∙ c.self.view_is

use Rattle.std.proofs.Common.{◌≡◌, ◌<◌, ◌∙◌, length, subst, sym}
use Rattle.tds_numbers.specs.Table.{IsTable, number_at, without}
use Rattle.tds_numbers.proofs.Tables.{removed, table_without}
use Rattle.tds_numbers.proofs.numbers.Numbers.remove.Goals as goal

pub invariant_of-self : goal.invariant_of-self
invariant_of-self c =
    let there : c.args.place < length c.self.inside.entries.items = rw (← c.self.view_is) at c.requires in
    let is : c.remove.new.self.items ≡ without (number_at c.self.inside.entries.items c.args.place) c.self.inside.entries.items = c.remove.ensures.items ∙ removed c.self.inside.entries.items c.self.invariant.rising c.args.place there in
    subst IsTable (sym is) (table_without (number_at c.self.inside.entries.items c.args.place) c.self.inside.entries.items c.self.invariant)

pub returns : goal.returns
returns c =
    let there : c.args.place < length c.self.inside.entries.items = rw (← c.self.view_is) at c.requires in
    let is : c.remove.new.self.items ≡ without (number_at c.self.inside.entries.items c.args.place) c.self.inside.entries.items = c.remove.ensures.items ∙ removed c.self.inside.entries.items c.self.invariant.rising c.args.place there in
    rw c.self.view_is at is

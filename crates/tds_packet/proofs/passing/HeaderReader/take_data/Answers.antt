use Rattle.std.proofs.Common.{◌≡◌, ◌<◌, ap, sym, subst, ◌∙◌, min, length}
use Rattle.tds_packet.proofs.Passings.{data_count, data_place, data_says}
use Rattle.tds_packet.proofs.passing.HeaderReader.take_data.Goals as goal

counts : (c : goal.After-self-1) → c.min-count.result ≡ min c.self.inside.due (length c.args.piece.now)
counts c = c.min-count.ensures ∙ ap (λ d. min d (length c.args.piece.now)) c.from.ensures

due : (c : goal.After-self-1) → 0 < c.self.inside.due
due c = subst (λ p. 0 < p.due) (sym c.self.view_is) c.requires

pub returns-clause-count : goal.returns-clause-count
returns-clause-count c = rw (← c.self.view_is) (data_count c.self.inside _ c.args.piece.now (due c) (counts c))

pub returns-clause-place : goal.returns-clause-place
returns-clause-place c = rw (← c.self.view_is) (data_place c.self.inside _ c.args.piece.now (due c) (c.self.invariant.one (due c)) (counts c))

pub returns-clause-says : goal.returns-clause-says
returns-clause-says c = rw (← c.self.view_is) (data_says c.self.inside _ c.args.piece.now (due c) (counts c))

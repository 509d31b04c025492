use Rattle.tds_state.specs.Pasts.{HasPast}
use Rattle.tds_state.proofs.watch.Watch.hear.Given as goal

abbrev pub invariant-tokens : goal.invariant-tokens
invariant-tokens l = HasPast l.fn.self.tracker.session → HasPast l.self.tracker.session

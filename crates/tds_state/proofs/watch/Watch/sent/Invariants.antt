use Rattle.tds_state.specs.Pasts.{HasPast}
use Rattle.tds_state.proofs.watch.Watch.sent.Given as goal

abbrev pub invariant-pieces : goal.invariant-pieces
invariant-pieces l = HasPast l.fn.self.tracker.session → HasPast l.self.tracker.session

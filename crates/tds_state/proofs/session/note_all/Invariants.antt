use Rattle.std.proofs.Common.{◌≡◌, length}
use Rattle.tds_state.specs.Sessions.{all_noted}
use Rattle.tds_state.specs.States.{states_listed}
use Rattle.tds_state.proofs.session.note_all.Given as goal

abbrev pub invariant-states : goal.invariant-states
invariant-states l = record {
  noted : all_noted l.values l.is_recoverable (states_listed l.rest).states ≡ all_noted l.fn.values l.is_recoverable (states_listed l.states).states;
  whole : (states_listed l.rest).is_whole ≡ (states_listed l.states).is_whole;
}

abbrev pub decreases-states : goal.decreases-states
decreases-states l = length l.rest

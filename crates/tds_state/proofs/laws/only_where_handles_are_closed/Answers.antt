use Rattle.std.proofs.lemmas.Bool.{and_parts, not-true}
use Rattle.std.specs.List.{list_any}
use Rattle.std.specs.Prelude.{not}
use Rattle.tds_state.specs.Handles.{is_open_place}
use Rattle.tds_state.specs.Pasts.{session_said}
use Rattle.tds_state.proofs.Exchanged.{all_clear, none_open}
use Rattle.tds_state.proofs.Resting.{parts_of}
use Rattle.tds_state.proofs.laws.only_where_handles_are_closed.Goals as goal

pub returns-clause-handles : goal.returns-clause-handles
returns-clause-handles c past handle h some = none_open past handle some (parts_of (session_said past) h).closed

pub returns-clause-clear : goal.returns-clause-clear
returns-clause-clear c past h =
    let k = (session_said past).handles in
    all_clear past (not-true k.is_unclear (and_parts (not k.is_unclear) (not (list_any is_open_place k.places)) (parts_of (session_said past) h).closed).0)

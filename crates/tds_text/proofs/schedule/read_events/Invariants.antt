use Rattle.std.proofs.Common.{◌≡◌, ◌+◌, ◌++◌, List, Option, option_map, drop}
use Rattle.serde_json.specs.View.{items_view}
use Rattle.tds_text.specs.Schedule.{events_of, wrong_event}
use Rattle.tds_world.specs.declared.event.Event.{Event}
use Rattle.tds_text.proofs.schedule.read_events.Given as goal

-- the events that were found, and those that the values left spell
abbrev pub found_and_left : List Event → Option (List Event) → Option (List Event)
found_and_left found left = option_map (λ rest. found ++ rest) left

abbrev pub invariant-loop-index : goal.invariant-loop-index
invariant-loop-index l = record {
  found : events_of l.version (items_view l.values) ≡ found_and_left l.events.items (events_of l.version (items_view (drop l.index l.values)));
  passed : wrong_event l.version 1 (items_view l.values) ≡ wrong_event l.version (l.index + 1) (items_view (drop l.index l.values));
}

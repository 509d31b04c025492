-- Which JSON values spell a schedule.
use Rattle.std.specs.Prelude.{◌≡◌, ℕ, ◌+◌, ◌^◌, ◌==◌, List, [], ◌∷◌, Bool, true, false, if◌then◌else◌, Option, Some, None, option_map, option_and_then, is_some, IsUtf8, codes}
use Rattle.serde_json.specs.Data.{Data, Items, no_items, item, Members}
use Rattle.serde_json.specs.Events.{members_len}
use Rattle.serde_json.specs.Find.{get, as_array, as_bool, as_object}
use Rattle.serde_json.specs.Read.{read}
use Rattle.tds_world.specs.declared.event.Setup.{Setup}
use Rattle.tds_world.specs.declared.event.Event.{Event}
use Rattle.tds_text.specs.Fields.{both, such, whole_number, number_below}
use Rattle.tds_text.specs.declared.schedule.version.Version.{Version}
use Rattle.tds_session.specs.declared.attention.OnAttention.{OnAttention}
use Rattle.tds_session.specs.declared.attention.OnAttention.TheVariants.{Keep, RollBack}
use Rattle.tds_text.specs.declared.schedule.version.Version.TheVariants.{One, Two, Three, Four}
use Rattle.tds_text.specs.Versions.{version_numbered, keys_of}
use Rattle.tds_text.specs.Events.{event_of}

-- These bytes are the JSON text of this value.
abbrev pub IsJson : List ℕ → Data → Type 0
IsJson bytes value = IsUtf8 bytes × (read bytes ≡ Some value)

-- ---- outside the events

-- Whether a value is an object with so many keys; a parsed object has each of its keys once.
abbrev pub are_so_many : ℕ → Option Members → Bool
are_so_many count None = false
are_so_many count (Some members) = members_len members == count

abbrev pub has_keys : ℕ → Data → Bool
has_keys count value = are_so_many count (as_object value)

-- The version that `version` names.
abbrev pub version_named : Data → Option Version
version_named value = option_and_then version_numbered (option_and_then whole_number (get (codes "version") value))

-- The version of an object that has exactly as many keys as it; the other keys are asked for below.
abbrev pub version_of : Data → Option Version
version_of value = such (λ version. has_keys (keys_of version) value) (version_named value)

-- What an attention does to the transaction, by whether it rolls it back.
abbrev pub by_rollback : Bool → OnAttention
by_rollback true = RollBack
by_rollback false = Keep

-- `rollback_on_attention` is true or false, from version 3 on. Before it the transaction stays.
abbrev pub on_attention_of : Version → Data → Option OnAttention
on_attention_of One value = Some Keep
on_attention_of Two value = Some Keep
on_attention_of Three value = option_map by_rollback (option_and_then as_bool (get (codes "rollback_on_attention") value))
on_attention_of Four value = option_map by_rollback (option_and_then as_bool (get (codes "rollback_on_attention") value))

-- A setup of its three parts.
abbrev pub setup_from : Option ℕ → Option ℕ → Option OnAttention → Option Setup
setup_from packet_size max on_attention = option_map (λ p. record { packet_size = p.0; max = p.1.0; on_attention = p.1.1 }) (both packet_size (both max on_attention))

-- `packet_size` fits 16 bits, and `max` 8.
abbrev pub setup_of : Version → Data → Option Setup
setup_of version value =
    setup_from (option_and_then (number_below (2 ^ 16)) (get (codes "packet_size") value)) (option_and_then (number_below (2 ^ 8)) (get (codes "max") value)) (on_attention_of version value)

-- `events` is an array.
abbrev pub values_of : Data → Option Items
values_of value = option_and_then as_array (get (codes "events") value)

-- The outer object: its version, the setup, and the values that are to spell the events.
abbrev pub outer_of : Data → Option (Version × (Setup × Items))
outer_of value = option_and_then (λ version. option_map (λ p. (version, p)) (both (setup_of version value) (values_of value))) (version_of value)

-- ---- the events

-- An event, and the ones behind it.
abbrev pub followed_by : Option Event → Option (List Event) → Option (List Event)
followed_by event events = option_map (λ p. p.0 ∷ p.1) (both event events)

-- The events that values spell, if each spells one.
abbrev pub events_of : Version → Items → Option (List Event)
events_of version no_items = Some []
events_of version (item value values) = followed_by (event_of version value) (events_of version values)

-- The place of the first value that spells none, where the first value has this place.
abbrev pub wrong_event : Version → ℕ → Items → Option ℕ
wrong_event version place no_items = None
wrong_event version place (item value values) = if is_some (event_of version value) then wrong_event version (place + 1) values else Some place

-- ---- the whole

-- A value spells a setup and events, in the arrays of its version.
abbrev pub IsSchedule : Data → Setup → List Event → Type 0
IsSchedule value setup events = (version : Version) × (values : Items) × (outer_of value ≡ Some (version, (setup, values))) × (events_of version values ≡ Some events)

-- By the outer object, if there is one.
abbrev pub wrong_in : Option (Version × (Setup × Items)) → Option ℕ
wrong_in None = Some 0
wrong_in (Some (version, (setup, values))) = wrong_event version 1 values

-- The first wrong place of a value that spells no schedule: 0 outside the events, which are looked
-- at after it, from 1.
abbrev pub wrong_place : Data → Option ℕ
wrong_place value = wrong_in (outer_of value)

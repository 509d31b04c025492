-- A value spells a schedule exactly where no place of it is wrong.
use Rattle.std.proofs.Common.{◌≡◌, ◌+◌, ℕ, List, [], ◌∷◌, true, Option, Some, None, is_some, refl, ap, sym, ◌∙◌}
use Rattle.std.specs.Prelude.{if◌then◌else◌}
use Rattle.serde_json.specs.Data.{Data, Items, no_items, item}
use Rattle.tds_world.specs.declared.event.Setup.{Setup}
use Rattle.tds_world.specs.declared.event.Event.{Event}
use Rattle.tds_text.specs.declared.schedule.version.Version.{Version}
use Rattle.tds_text.specs.Events.{event_of}
use Rattle.tds_text.specs.Schedule.{followed_by, events_of, wrong_event, outer_of, wrong_in, wrong_place, IsSchedule}

-- an event and the ones behind it are there together
parts : (event : Option Event) (events : Option (List Event)) (found : List Event) → followed_by event events ≡ Some found
    → (is_some event ≡ true) × ((rest : List Event) × (events ≡ Some rest))
parts None events found h = absurd (cc)
parts (Some e) None found h = absurd (cc)
parts (Some e) (Some rest) found h = (refl, (rest, refl))

none_wrong : (version : Version) (place : ℕ) (values : Items) (events : List Event) → events_of version values ≡ Some events → wrong_event version place values ≡ None
none_wrong version place no_items events h = refl
none_wrong version place (item value values) events h =
    let both_there = parts (event_of version value) (events_of version values) events h in
    rw both_there.0 (none_wrong version (place + 1) values both_there.1.0 both_there.1.1)

joined : (version : Version) (event : Option Event) (place : ℕ) (values : Items)
    → (wrong_event version (place + 1) values ≡ None → (events : List Event) × (events_of version values ≡ Some events))
    → (if is_some event then wrong_event version (place + 1) values else Some place) ≡ None → (events : List Event) × (followed_by event (events_of version values) ≡ Some events)
joined version None place values behind h = absurd (cc)
joined version (Some e) place values behind h = let rest = behind h in (e ∷ rest.0, rw rest.1 refl)

all_spell : (version : Version) (place : ℕ) (values : Items) → wrong_event version place values ≡ None → (events : List Event) × (events_of version values ≡ Some events)
all_spell version place no_items h = ([], refl)
all_spell version place (item value values) h = joined version (event_of version value) place values (all_spell version (place + 1) values) h

-- the version, the setup and the values of an outer object
abbrev Outer : Type 0
Outer = Version × (Setup × Items)

pub right_nowhere_wrong : (value : Data) (setup : Setup) (events : List Event) → IsSchedule value setup events → wrong_place value ≡ None
right_nowhere_wrong value setup events h = rw h.2 (none_wrong h.0 1 h.1 events h.3)

outer_there : (outer : Option Outer) → wrong_in outer ≡ None
    → (version : Version) × (setup : Setup) × (events : List Event) × (values : Items) × (outer ≡ Some (version, (setup, values))) × (events_of version values ≡ Some events)
outer_there None h = absurd (cc)
outer_there (Some (version, (setup, values))) h = let found = all_spell version 1 values h in (version, setup, found.0, values, refl, found.1)

pub nowhere_wrong_right : (value : Data) → wrong_place value ≡ None → (setup : Setup) × (events : List Event) × IsSchedule value setup events
nowhere_wrong_right value h = let found = outer_there (outer_of value) h in (found.1, found.2, (found.0, found.3, found.4, found.5))

-- a value that is found is one
unfoldable found_or : {A : Type 0} → A → Option A → A
found_or d None = d
found_or d (Some x) = x

same : {A : Type 0} (o : Option A) (x y : A) → o ≡ Some x → o ≡ Some y → x ≡ y
unfolding found_or
same o x y h k = ap (found_or x) (sym h ∙ k)

-- a value spells one schedule
pub same_schedule : (value : Data) (setup other : Setup) (events others : List Event) → IsSchedule value setup events → IsSchedule value other others
    → (setup ≡ other) × (events ≡ others)
same_schedule value setup other events others h k =
    let outer : ◌≡◌ {A = Outer} (h.0, (setup, h.1)) (k.0, (other, k.1)) = same {A = Outer} (outer_of value) (h.0, (setup, h.1)) (k.0, (other, k.1)) h.2 k.2 in
    let version : h.0 ≡ k.0 = ap (λ (p : Outer). p.0) outer in
    let values : h.1 ≡ k.1 = ap (λ (p : Outer). p.1.1) outer in
    (ap (λ (p : Outer). p.1.0) outer, same (events_of h.0 h.1) events others h.3 (rw (version, values) k.3))

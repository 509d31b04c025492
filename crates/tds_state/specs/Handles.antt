-- The prepared handles that are open: each has a place, and 0 stands in a place that is free.
use Rattle.std.specs.Prelude.{ℕ, zero, suc, ◌==◌, ◌&&◌, ◌||◌, not, nat_lt, Bool, true, false, List, [], ◌∷◌, replicate, set, Option, Some, None, if◌then◌else◌}
use Rattle.std.specs.List.{list_any}
use Rattle.tds_state.specs.declared.asked.Call.{Call}
use Rattle.tds_state.specs.declared.asked.Call.TheVariants as calls
use Rattle.tds_state.specs.declared.handles.Handles.{Handles}
use Rattle.tds_state.specs.declared.handles.Returned.{Returned}
use Rattle.tds_state.specs.declared.handles.Returned.TheVariants as returned

-- there are 64 places
abbrev pub free_places : List ℕ
free_places = replicate 64 0

abbrev pub no_handles : Handles
no_handles = record { places = free_places; is_unclear = false; overlaps = false; returned = returned.Nothing; has_failed = false }

-- where a number stands first; behind all, where it stands nowhere
unfoldable pub place_of_handle : ℕ → List ℕ → ℕ
place_of_handle n [] = 0
place_of_handle n (first ∷ others) = if first == n then 0 else suc (place_of_handle n others)

-- the second number stands where the first one stood; where none did, which are open isn't clear
abbrev pub handle_put : ℕ → ℕ → Handles → Handles
handle_put old new h =
    if (old == new) || not (nat_lt (place_of_handle old h.places) 64) then record h { is_unclear = true }
    else record h { places = set h.places (place_of_handle old h.places) new }

-- ---- A request begins: a full reset closes all. Where one begins before the last answer has ended, it isn't clear whose answers come: what they
-- make or close isn't either.

-- it makes a handle or closes one
abbrev pub is_counted : Call → Bool
is_counted calls.Harmless = false
is_counted calls.Prepares = true
is_counted (calls.Unprepares n) = true
is_counted calls.Unknown = false

abbrev pub places_left : Bool → List ℕ → List ℕ
places_left true places = free_places
places_left false places = places

abbrev pub handles_begun : Bool → Bool → Call → Handles → Handles
handles_begun is_full is_quiet last h = record {
  places = places_left is_full h.places;
  is_unclear = (not is_full && h.is_unclear) || (not is_quiet && is_counted last);
  overlaps = (not is_full && h.overlaps) || not is_quiet;
  returned = returned.Nothing;
  has_failed = false;
}

-- ---- Its answer

-- a value is returned, a number of four bytes or another one
abbrev pub first_returned : Option ℕ → Returned
first_returned None = returned.Unclear
first_returned (Some n) = returned.One n

abbrev pub returned_behind : Returned → Option ℕ → Returned
returned_behind returned.Nothing value = first_returned value
returned_behind (returned.One n) value = returned.Unclear
returned_behind returned.Unclear value = returned.Unclear

abbrev pub value_returned : Option ℕ → Handles → Handles
value_returned value h = record h { returned = returned_behind h.returned value }

-- it tells an error, or it doesn't
abbrev pub failed_if : Bool → Handles → Handles
failed_if is h = record h { has_failed = is || h.has_failed }

-- ---- It has ended, and was an answer to this call

abbrev pub prepared_by : Returned → Handles → Handles
prepared_by returned.Nothing h = record h { is_unclear = true }
prepared_by (returned.One n) h = handle_put 0 n h
prepared_by returned.Unclear h = record h { is_unclear = true }

-- one that failed closes nothing, but what isn't open isn't clear either way
abbrev pub handles_unprepared : Bool → ℕ → Handles → Handles
handles_unprepared true n h = record (handle_put n 0 h) { places = h.places }
handles_unprepared false n h = handle_put n 0 h

abbrev pub unclear_if : Bool → Handles → Handles
unclear_if is h = record h { is_unclear = is || h.is_unclear }

abbrev pub handles_settled : Call → Handles → Handles
handles_settled calls.Harmless h = h
handles_settled calls.Prepares h = unclear_if h.overlaps (prepared_by h.returned h)
handles_settled (calls.Unprepares n) h = unclear_if h.overlaps (handles_unprepared h.has_failed n h)
handles_settled calls.Unknown h = h

-- ---- Whether none is open

abbrev pub is_open_place : ℕ → Bool
is_open_place n = not (n == 0)

abbrev pub are_closed : Handles → Bool
are_closed h = not h.is_unclear && not (list_any is_open_place h.places)

-- The end of one application, among all, behind a move; and what passes it.
use Rattle.std.proofs.Common.{◌≡◌, ◌==◌, ℕ, List, [], refl}
use Rattle.std.specs.Prelude.{Option, Some, None, if◌then◌else◌, option_map}
use Rattle.tds_front.specs.Passing.{FrontEvent}
use Rattle.tds_relay.specs.Pool as pool
use Rattle.tds_relay.specs.Pool.{whose}
use Rattle.tds_relay.specs.Behind.{brought, gone_on, if_end_open, if_same, if_whose, said_in, unless_withdrawn}
use Rattle.tds_relay.specs.Core.{End, EndList, Core, Move, change_whose, closes, dones_of_part, end_at, ends_behind, feeds, end_goes_on, holder, lets_go, sent_by, end_told, what_in}
use Rattle.tds_relay.specs.Core as core
use Rattle.tds_relay.proofs.steps.Slots.{changed_at, emptied_at}

-- its application is there
abbrev pub IsEndThere : Option End → Type 0
IsEndThere None = ⊥
IsEndThere (Some end) = Unit {0}

abbrev pub whose_by : ℕ → Option ℕ → (End → End) → Option End → Option End
whose_by key None by o = o
whose_by key (Some other) by o = if other == key then option_map by o else o

whose_at : (ends : EndList) (who : Option ℕ) (key : ℕ) (by : End → End) → end_at (change_whose who by ends) key ≡ whose_by key who by (end_at ends key)
whose_at ends None key by = refl
whose_at ends (Some other) key by = changed_at End ends other key by

-- where it was this
abbrev pub end_by : ℕ → Core → Move → Option End → Option End
end_by key h (core.Does event) o = o
end_by key h (core.Sends k action) o = if k == key then option_map (end_goes_on (sent_by h.pool (pool.Does k action))) o else o
end_by key h (core.LetsGo k parks gives way) o = if k == key then option_map lets_go o else o
end_by key h (core.Loses number) o = whose_by key (holder h.pool number) closes o
end_by key h (core.Replaces number) o = whose_by key (holder h.pool number) lets_go o
end_by key h (core.Comes number part way) o = whose_by key (whose h.pool number) (end_told (what_in (dones_of_part h.pool number part))) o
end_by key h (core.Feeds k bytes) o = if k == key then option_map (feeds bytes) o else o
end_by key h (core.Closes k) o = if k == key then option_map closes o else o
end_by key h (core.Enters k ends) o = end_at ends key
end_by key h (core.Quits k gives way) o = if k == key then None else o

pub end_behind_is : (key : ℕ) (h : Core) (move : Move) → end_at (ends_behind h move) key ≡ end_by key h move (end_at h.ends key)
end_behind_is key h (core.Does event) = refl
end_behind_is key h (core.Sends k action) = changed_at End h.ends k key (end_goes_on (sent_by h.pool (pool.Does k action)))
end_behind_is key h (core.LetsGo k parks gives way) = changed_at End h.ends k key lets_go
end_behind_is key h (core.Loses number) = whose_at h.ends (holder h.pool number) key closes
end_behind_is key h (core.Replaces number) = whose_at h.ends (holder h.pool number) key lets_go
end_behind_is key h (core.Comes number part way) = whose_at h.ends (whose h.pool number) key (end_told (what_in (dones_of_part h.pool number part)))
end_behind_is key h (core.Feeds k bytes) = changed_at End h.ends k key (feeds bytes)
end_behind_is key h (core.Closes k) = changed_at End h.ends k key closes
end_behind_is key h (core.Enters k ends) = refl
end_behind_is key h (core.Quits k gives way) = emptied_at End h.ends k key

-- and what passes it
abbrev pub passes_by : ℕ → Core → Move → Option End → List FrontEvent
passes_by key h (core.Sends k action) o = if_same key k (if_end_open o (λ front withdrawn. gone_on (sent_by h.pool (pool.Does k action))))
passes_by key h (core.Comes number part way) o = if_whose key (whose h.pool number) (if_end_open o (λ front withdrawn. unless_withdrawn withdrawn (said_in (dones_of_part h.pool number part))))
passes_by key h (core.Feeds k bytes) o = if_same key k (if_end_open o (λ front withdrawn. brought front bytes))
passes_by key h move o = []

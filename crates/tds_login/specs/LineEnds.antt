-- What is left of a batch without the ends of lines that command-line clients send behind it.
use Rattle.std.specs.Prelude.{ℕ, zero, suc, Bool, ◌-◌, ◌==◌, ◌&&◌, ◌||◌, nat_lt, List, slice_index, if◌then◌else◌}

-- a blank, a tab, or an end of a line, as a unit of two bytes
abbrev pub is_blank : ℕ → ℕ → Bool
is_blank low high = (high == 0) && ((low == 32) || (low == 9) || (low == 10) || (low == 13))

-- whether such a unit stands last among the first `end` bytes
abbrev pub ends_blank : List ℕ → ℕ → Bool
ends_blank bytes end = nat_lt 1 end && is_blank (slice_index bytes (end - 2)) (slice_index bytes (end - 1))

-- how many of the first `end` bytes are left: such a unit goes from their end while there are more than `least`
unfoldable pub left_of : List ℕ → ℕ → ℕ → ℕ
left_of bytes least zero = zero
left_of bytes least (suc zero) = suc zero
left_of bytes least (suc (suc end)) =
    if nat_lt least (suc (suc end)) && ends_blank bytes (suc (suc end))
    then left_of bytes least end
    else suc (suc end)

-- of a packet that is a whole batch, the headers and one unit stay
abbrev pub least_of : Bool → ℕ
least_of is_whole = if is_whole then 24 else 0

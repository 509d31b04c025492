-- What is not played at all.
use Rattle.std.specs.Prelude.{ℕ, nat_lt, Option, Some, None, if◌then◌else◌}
use Rattle.tds_world.specs.declared.event.Setup.{Setup}
use Rattle.tds_world.specs.Bounds.{is_in_range}
use Rattle.tds_play.specs.declared.refusal.PlayRefusal.{PlayRefusal}
use Rattle.tds_play.specs.declared.refusal.PlayRefusal.TheVariants.{TooManyEvents, WrongSetup, Memory, NotCleaned}
use Rattle.tds_play.specs.declared.refusal.Stop.{Stop}
use Rattle.tds_play.specs.declared.refusal.Stop.TheVariants as stops

-- The numbers of the refusals.
abbrev pub play_refusal_number : PlayRefusal → ℕ
play_refusal_number TooManyEvents = 1
play_refusal_number WrongSetup = 2
play_refusal_number Memory = 3
play_refusal_number NotCleaned = 4

-- Why there is no report of a play that ended in the middle.
abbrev pub of_stop : Stop → PlayRefusal
of_stop stops.Memory = Memory
of_stop stops.NotCleaned = NotCleaned

-- Why so many events with this setup are not played. That they are too many is looked at first.
unfoldable pub first_refusal : Setup → ℕ → Option PlayRefusal
first_refusal s events =
    if nat_lt 10000 events then Some TooManyEvents
    else if is_in_range s then None else Some WrongSetup

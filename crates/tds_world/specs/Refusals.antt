-- The numbers of the refusals.
use Rattle.std.specs.Prelude.{ℕ}
use Rattle.tds_world.specs.declared.outcome.Refusal.{Refusal}
use Rattle.tds_world.specs.declared.outcome.Refusal.TheVariants.{UnknownLease, UnknownTicket, UnknownConnection, NotIdle, NotSending, NothingToKeep, AllInUse, ConnectionCut, NotFree}

-- The number that a report shows.
abbrev pub refusal_number : Refusal → ℕ
refusal_number UnknownLease = 1
refusal_number UnknownTicket = 2
refusal_number UnknownConnection = 3
refusal_number NotIdle = 4
refusal_number NotSending = 5
refusal_number NothingToKeep = 6
refusal_number AllInUse = 7
refusal_number ConnectionCut = 8
refusal_number NotFree = 9

-- Whose request it is that is told: who asked it.
use Rattle.std.specs.Prelude.{◌≡◌, ℕ, ◌==◌, Bool, true, false, List, [], ◌∷◌, Option, Some}
use Rattle.tds_service.specs.Line as line
use Rattle.tds_service.specs.Line.{Answer, Told, Nobody, To}
use Rattle.tds_service.specs.History.{Done}
use Rattle.tds_service.specs.Service.{Call, Ask, Service, lease_at, seat_numbered, step}

-- By which lease a request was asked.
pub record Asker : Type 0 where
  pub lease : ℕ
  pub request : ℕ

abbrev pub asked_in : ℕ → Option Asker → Answer → Option Asker
asked_in lease before (line.Asked request descriptor) = Some (record { lease = lease; request = request })
asked_in lease before _ = before

abbrev pub asked_among : {T : Type 0} → ℕ → Option Asker → List (Done T) → Option Asker
asked_among lease before [] = before
asked_among lease before (d ∷ ds) = asked_among lease (asked_in lease before d.answer) ds

-- Who asked the newest request, behind a call that did this.
abbrev pub asker_by : {T : Type 0} → Option Asker → Call T → List (Done T) → Option Asker
asker_by before (Ask lease) ds = asked_among lease before ds
asker_by before _ ds = before

-- What is told is told to a request that the lease asked which holds the connection.
abbrev pub IsOwn : {T : Type 0} → Option Asker → Option ℕ → Told T → Type 0
IsOwn asker holder Nobody = Unit {0}
IsOwn asker holder (To request tokens) = (lease : ℕ) × (asker ≡ Some (record { lease = lease; request = request })) × (holder ≡ Some lease)

abbrev pub AreOwn : {T : Type 0} → Option Asker → Option ℕ → List (Done T) → Type 0
AreOwn asker holder [] = Unit {0}
AreOwn asker holder (d ∷ ds) = IsOwn asker holder d.told × AreOwn asker holder ds

abbrev pub OwnHere : {T : Type 0} → Bool → Option Asker → Option ℕ → List (Done T) → Type 0
OwnHere true asker holder ds = AreOwn asker holder ds
OwnHere false asker holder ds = Unit {0}

abbrev pub asker_here : {T : Type 0} → Bool → Option Asker → Call T → List (Done T) → Option Asker
asker_here true before call ds = asker_by before call ds
asker_here false before call ds = before

-- So it is on connection n, along these calls.
abbrev pub OwnAlong : {T : Type 0} → ℕ → Option Asker → Service → List (Call T) → Type 0
OwnAlong n asker s [] = Unit {0}
OwnAlong n asker s (call ∷ calls) =
    OwnHere ((step s call).number == n) asker (lease_at (seat_numbered n s.seats)) (step s call).dones
    × OwnAlong n (asker_here ((step s call).number == n) asker call (step s call).dones) (step s call).service calls

-- Which request an answer names: always the newest one of its connection.
use Rattle.std.specs.Prelude.{◌≡◌, ℕ, suc, List, [], ◌∷◌}
use Rattle.tds_service.specs.Line.{Answer, Asked, Unsent, Stopped, Finished, Acked}
use Rattle.tds_service.specs.History.{Done}

-- The number of the newest request behind an answer.
abbrev pub newest_by : ℕ → Answer → ℕ
newest_by n (Asked request descriptor) = request
newest_by n _ = n

-- A request that is asked has the next number. One that is cancelled, answered or acknowledged is the newest.
abbrev pub NamesBy : ℕ → Answer → Type 0
NamesBy n (Asked request descriptor) = request ≡ suc n
NamesBy n (Unsent request) = request ≡ n
NamesBy n (Stopped request) = request ≡ n
NamesBy n (Finished request) = request ≡ n
NamesBy n (Acked request) = request ≡ n
NamesBy n _ = Unit {0}

abbrev pub NamesNewest : {T : Type 0} → ℕ → List (Done T) → Type 0
NamesNewest n [] = Unit {0}
NamesNewest n (d ∷ ds) = NamesBy n d.answer × NamesNewest (newest_by n d.answer) ds

-- The requests of each connection are those of its link, whatever the pool has of it.
use Rattle.std.proofs.Common.{◌≡◌, ℕ, suc, List, [], ◌∷◌, map, refl, ap}
use Rattle.tds_pool.specs.Connections.{Connection}
use Rattle.tds_play.specs.Links.{newest_held, newest_first, newest_there}
use Rattle.tds_play.specs.Pooled.{seated_from}
use Rattle.tds_play.specs.declared.seat.Held.{Held}

pub newest_alike : {E S : Type 0} (number : ℕ) (hs : List (Held E S)) (pcs : List Connection) → map newest_held hs ≡ map newest_there (seated_from number hs pcs)
newest_alike number [] pcs = refl
newest_alike number (h ∷ hs) pcs = ap (λ rs. newest_first h.link ∷ rs) (newest_alike (suc number) hs pcs)

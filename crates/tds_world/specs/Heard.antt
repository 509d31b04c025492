-- What a client hears of each entry: all its changes together, and of a step the end of just the
-- reset that it asked for.
use Rattle.std.specs.Prelude.{ℕ, ◌≡◌, List, [], ◌∷◌, Option, Some, None}
use Rattle.tds_packet.specs.declared.status.Reset.{Reset}
use Rattle.tds_world.specs.Arrivals.{client_acts, heard_after, heard_behind}
use Rattle.tds_world.specs.Connection.{Connection}
use Rattle.tds_world.specs.Entries.{Down, Step, Acknowledgement}
use Rattle.tds_world.specs.Lane.{passed}
use Rattle.tds_world.specs.Laws.{OfEachConnection}
use Rattle.tds_world.specs.World.{World}

-- A reset that is taken meets the mark.
abbrev pub Meets : Option Reset → Option Reset → Type 0
Meets mark None = Unit {0}
Meets mark (Some r) = mark ≡ Some r

-- An entry's changes all apply to the descriptor heard, and a reset that it takes meets the mark. They
-- apply together here, under the reset that the step takes. `ChangesApply` (specs/Welcome) lets them
-- apply one after the other, as a client must that knows its mark alone.
abbrev pub IsHeardOn : Connection → Down → Type 0
IsHeardOn c (Step r place s) =
    ((descriptor : ℕ) × (heard_after c.heard s ≡ Some descriptor)) × Meets c.mark s.reset
IsHeardOn c (Acknowledgement r place changes) =
    (descriptor : ℕ) × (heard_behind c.heard changes ≡ Some descriptor)

-- Of these entries each is such where it arrives, one after the other.
abbrev pub AreHeardOn : Connection → List Down → Type 0
AreHeardOn c [] = Unit {0}
AreHeardOn c (e ∷ es) =
    IsHeardOn c e × AreHeardOn (client_acts (record c { to_client = passed e c.to_client }) e) es

abbrev pub ChangesAreHeard : World → Type 0
ChangesAreHeard w = OfEachConnection (λ c. AreHeardOn c c.to_client.waiting) w

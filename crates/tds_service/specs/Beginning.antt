-- How a new connection begins to read: what it was made for, and nothing read.
use Rattle.std.specs.Prelude.{◌≡◌, ℕ, [], None, Some}
use Rattle.tds_wire.specs.declared.features.Features.{Features}
use Rattle.tds_wire.specs.Reading.{IsReady, Parser}
use Rattle.tds_service.specs.declared.service.Service as services
use Rattle.tds_service.specs.Table.{reading_on}

-- It has room for so many columns of a result, its login acknowledged these features, and no message has begun.
pub record Begins (most : ℕ) (features : Features) (r : Parser) : Type 0 where
  pub ready : IsReady r
  pub start : r.start ≡ 0
  pub columns : r.walk.columns ≡ []
  pub room : r.walk.most ≡ most
  pub acknowledged : r.walk.features ≡ features

-- The connection of this number is new: it begins as the service was told that each does.
abbrev pub BeginsAt : ℕ → services.Service → services.Service → Type 0
BeginsAt number old new = reading_on number old ≡ None → (r : Parser) × (reading_on number new ≡ Some r) × Begins old.most old.features r

-- What it was told stays.
abbrev pub MakesAlike : services.Service → services.Service → Type 0
MakesAlike old new = (new.most ≡ old.most) × (new.features ≡ old.features)

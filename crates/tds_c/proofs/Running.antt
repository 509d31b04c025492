-- Tokens that were read one after the other.
use Rattle.std.proofs.Common.{ℕ, ◌+◌, ◌<◌, List, [], ◌∷◌, ◌++◌, length, slice_set, Some, Ok, refl}
use Rattle.tds_c.specs.declared.tokens.TdsCursor.{TdsCursor}
use Rattle.tds_c.specs.declared.tokens.TdsToken.{TdsToken}
use Rattle.tds_c.specs.Tokens.{GivesInTurn, HasRun, Reads}
use Rattle.tds_c.proofs.Rooms.{written_on}

pub given_on : (content : List ℕ) (first : TdsCursor) (read : List TdsToken) (place : TdsCursor) (t : TdsToken) (new : TdsCursor) → GivesInTurn content first read place → Reads content place new (Ok (Some t)) → GivesInTurn content first (read ++ t ∷ []) new
unfolding GivesInTurn
given_on content first [] place t new given reads = (new, rw given reads, refl)
given_on content first (x ∷ read) place t new given reads = (given.0, given.1, given_on content given.0 read place t new given.2 reads)

pub none_yet : (content : List ℕ) (cursor : TdsCursor) (room : List TdsToken) → HasRun content cursor cursor (record { before = room; after = room; count = 0 })
unfolding GivesInTurn
none_yet content cursor room = record { read = []; given = refl; written = (refl, refl) }

-- one more token was read
pub run_on : (content : List ℕ) (first place new : TdsCursor) (before after : List TdsToken) (t : TdsToken) (i : ℕ) → i < length before → Reads content place new (Ok (Some t))
    → HasRun content first place (record { before = before; after = after; count = i }) → HasRun content first new (record { before = before; after = slice_set after i t; count = i + 1 })
run_on content first place new before after t i within reads run = record {
  read = run.read ++ t ∷ [];
  given = given_on content first run.read place t new run.given reads;
  written = written_on run.read before after t i run.written within;
}

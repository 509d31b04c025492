-- What each export does to the walk and the memory that are handed to it.
use Rattle.std.specs.Prelude.{◌≡◌, ◌≤◌, ◌+◌, ℕ, List, [], length, Option, Some, None, Result, Ok, Err, if◌then◌else◌}
use Rattle.tds_wire.specs.declared.fault.Refusal.{Refusal}
use Rattle.tds_wire.specs.declared.lent.Fed.{Fed}
use Rattle.tds_wire.specs.declared.lent.LentWalk.{LentWalk}
use Rattle.tds_wire.specs.declared.memory.Memory.{Memory}
use Rattle.tds_wire.specs.declared.told.Token.{Token}
use Rattle.tds_wire.specs.Faults.{fault_number}
use Rattle.tds_wire.specs.Lent.{reading_of}
use Rattle.tds_wire.specs.Memory.{shapes_of}
use Rattle.tds_wire.specs.Reading.{IsReady, Parser, found_of, is_between, next_token, restarted}
use Rattle.tds_walk.specs.declared.token.TdsWireToken.{TdsWireToken}
use Rattle.tds_walk.specs.declared.walk.TdsWire.{TdsWire}
use Rattle.tds_walk.specs.Wire.{◌>>=◌, truth, walk_from}
use Rattle.tds_walk.specs.WireTokens.{Shows}

-- The parser that the value is, beside its memory. None where it is no walk's.
abbrev pub reading_from : TdsWire → Memory → Option Parser
reading_from walk memory = walk_from walk >>= λ w. Some (reading_of w memory)

-- A walk between two tokens that knows no columns, at the first byte of a message.
abbrev pub Begins : ℕ → ℕ → ℕ → TdsWire → Memory → ℕ → Type 0
Begins most encryption ranks walk memory answer =
    (w : LentWalk) × (answer ≡ 0) × (walk_from walk ≡ Some w) × IsReady (reading_of w memory) × (w.start ≡ 0) × (shapes_of memory ≡ [])
    × (w.cursor.most ≡ most) × (w.cursor.features ≡ record { encryption = truth encryption; ranks = truth ranks })

pub record Call : Type 0 where
  pub before : TdsWire
  pub after : TdsWire
  pub memory_before : Memory
  pub memory_after : Memory
  pub piece : List ℕ
  pub count : ℕ
  pub token_before : TdsWireToken
  pub token_after : TdsWireToken
  pub answer : ℕ

-- The token that ended, where one did.
abbrev pub TellsToken : Option Token → TdsWireToken → TdsWireToken → ℕ → Type 0
TellsToken (Some t) before after answer = (answer ≡ 0) × Shows after t t.told
TellsToken None before after answer = (answer ≡ 1) × (after ≡ before)

abbrev pub Tells : Result Fed Refusal → ℕ → TdsWireToken → TdsWireToken → ℕ → Type 0
Tells (Ok fed) count before after answer = (count ≡ fed.count) × TellsToken fed.token before after answer
Tells (Err refusal) count before after answer = (answer ≡ 70 + fault_number refusal.fault) × (count ≡ 0) × (after ≡ before)

-- The walk goes on behind the piece, up to the end of one token.
abbrev pub FeedsBy : Option LentWalk → Call → Type 0
FeedsBy (Some w) c =
    (next : LentWalk) × (found : Result Fed Refusal) × (walk_from c.after ≡ Some next)
    × (found_of found (reading_of next c.memory_after) c.piece ≡ next_token (reading_of w c.memory_before) c.piece)
    × (c.count ≤ length c.piece) × Tells found c.count c.token_before c.token_after c.answer
FeedsBy None c =
    (c.answer ≡ 20) × (c.after ≡ c.before) × (c.memory_after ≡ c.memory_before) × (c.count ≡ 0) × (c.token_after ≡ c.token_before)

abbrev pub Feeds : Call → Type 0
Feeds c = FeedsBy (walk_from c.before) c

abbrev pub StandsBy : Option LentWalk → Memory → ℕ → Type 0
StandsBy (Some w) memory answer = answer ≡ (if is_between (reading_of w memory) then 1 else 0)
StandsBy None memory answer = answer ≡ 20

abbrev pub Stands : TdsWire → Memory → ℕ → Type 0
Stands walk memory answer = StandsBy (walk_from walk) memory answer

abbrev pub RestartsBy : Option LentWalk → TdsWire → TdsWire → Memory → Memory → ℕ → Type 0
RestartsBy (Some w) before after old new answer =
    (next : LentWalk) × (answer ≡ 0) × (walk_from after ≡ Some next) × (reading_of next new ≡ restarted (reading_of w old))
RestartsBy None before after old new answer = (answer ≡ 20) × (after ≡ before) × (new ≡ old)

abbrev pub Restarts : TdsWire → TdsWire → Memory → Memory → ℕ → Type 0
Restarts before after old new answer = RestartsBy (walk_from before) before after old new answer

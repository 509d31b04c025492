-- What bytes do, one after another, up to the end of a token.
use Rattle.std.specs.Prelude.{ℕ, ◌-◌, nat_lt, List, [], ◌∷◌, ◌++◌, drop, if◌then◌else◌}
use Rattle.tds_wire.specs.declared.fault.WireFault.{WireFault}
use Rattle.tds_wire.specs.declared.due.Due.{Due}
use Rattle.tds_wire.specs.declared.due.Due.TheVariants.{Token, Number, Run, Broken}
use Rattle.tds_wire.specs.declared.due.Standing.{Standing}
use Rattle.tds_wire.specs.declared.due.Standing.TheVariants.{Between, Going, Failing}
use Rattle.tds_wire.specs.declared.cursor.Step.{Step}
use Rattle.tds_wire.specs.declared.cursor.Step.TheVariants as steps
use Rattle.tds_wire.specs.Layout.{Read, Got, Short, Wrong, Seen}
use Rattle.tds_wire.specs.Numbers.{width_of, shifted}
use Rattle.tds_wire.specs.Walking.{Walk, arrive, begun, ended, go, with_due, with_kind, with_run}

-- what a byte does
abbrev pub step_by : Due → Walk → ℕ → Walk
step_by Token w byte = begun (with_kind w byte) byte
step_by (Number f left value) w byte =
    if nat_lt 1 left
    then with_due w (Number f (left - 1) (shifted (width_of f) value byte))
    else arrive w f (shifted (width_of f) value byte)
step_by (Run left next) w byte = if nat_lt 1 left then with_run w (left - 1) next else go w next
step_by (Broken fault) w byte = w

unfoldable pub walk_step : Walk → ℕ → Walk
walk_step w byte = step_by w.at.due w byte

-- how the cursor stands: between two tokens, inside one, or broken
abbrev pub standing : Due → Standing
standing Token = Between
standing (Number f left value) = Going
standing (Run left next) = Going
standing (Broken fault) = Failing fault

-- where bytes lead up to the end of a token: over it with these bytes left, inside it, or to a fault, with those behind it
pub data Went : Type 0 where
  Over : Walk → List ℕ → Went
  Within : Walk → Went
  Failed : WireFault → List ℕ → Went

abbrev pub went_by : Standing → Walk → List ℕ → Went → Went
went_by Between w bytes onward = Over w bytes
went_by Going w bytes onward = onward
went_by (Failing fault) w bytes onward = Failed fault bytes

-- up to the end of a token, or no further if it is between two
unfoldable pub to_end : Walk → List ℕ → Went
to_end w [] = went_by (standing w.at.due) w [] (Within w)
to_end w (byte ∷ bytes) = went_by (standing w.at.due) w (byte ∷ bytes) (to_end (walk_step w byte) bytes)

abbrev pub went_on : Standing → List ℕ → Went → Went
went_on Between bytes onward = onward
went_on Going bytes onward = onward
went_on (Failing fault) bytes onward = Failed fault bytes

-- up to the end of a token, by a byte at least
unfoldable pub onward : Walk → List ℕ → Went
onward w [] = went_on (standing w.at.due) [] (Within w)
onward w (byte ∷ bytes) = went_on (standing w.at.due) (byte ∷ bytes) (to_end (walk_step w byte) bytes)

-- what one more piece does
abbrev pub then_piece : Went → List ℕ → Went
then_piece (Over w rest) piece = Over w (rest ++ piece)
then_piece (Within w) piece = onward w piece
then_piece (Failed fault rest) piece = Failed fault (rest ++ piece)

-- what a call has done, by what it answers
abbrev pub went_of : Step → Walk → List ℕ → Went
went_of (steps.Over count) w piece = Over w (drop count piece)
went_of steps.Within w piece = Within w
went_of (steps.Failed fault count) w piece = Failed fault (drop count piece)

-- before the first token of a message
abbrev pub walk_restarted : Walk → Walk
walk_restarted w = ended (record w { columns = [] })

-- ---- As the layout has it

-- where bytes led, in the layout's terms
abbrev pub seen_of : Walk → Seen
seen_of w = record { kind = w.at.kind; columns = w.columns }

abbrev pub seen : Went → Read Seen
seen (Over w rest) = Got (seen_of w) rest
seen (Within w) = Short
seen (Failed fault rest) = Wrong fault rest

-- What a call leaves as it was: the ends of all applications but one, or of all but those that wait for a connection.
use Rattle.std.specs.Prelude.{◌≡◌, ◌≢◌, ◌++◌, ℕ, false, List, Option, Some}
use Rattle.tds_relay.specs.Core.{EndList, Core, end_at, holder, is_in}

-- The end of each other application is as it was, and whoever waited waits.
pub record Alone (key : ℕ) (old new : Core) : Type 0 where
  pub ends : (other : ℕ) → other ≢ key → end_at new.ends other ≡ end_at old.ends other
  pub line : new.pool.line ≡ old.pool.line

-- So is that of each that doesn't wait.
abbrev pub UnlessServed : Core → Core → Type 0
UnlessServed old new = (key : ℕ) → is_in key old.pool.line ≡ false → end_at new.ends key ≡ end_at old.ends key

-- Of those who wait the first ones wait no more: the end of each other application is as it was.
pub record LendsInTurn (line : List ℕ) (ends : EndList) (new : Core) : Type 0 where
  pub lent : List ℕ
  pub are : line ≡ lent ++ new.pool.line
  pub apart : (key : ℕ) → is_in key lent ≡ false → end_at new.ends key ≡ end_at ends key

-- The end of each but this one, if there is one, is as it was, and whoever waited waits.
pub record AloneWho (who : Option ℕ) (old new : Core) : Type 0 where
  pub ends : (other : ℕ) → who ≢ Some other → end_at new.ends other ≡ end_at old.ends other
  pub line : new.pool.line ≡ old.pool.line

-- First something is done for this one, if there is one, and then those who wait are lent connections, in turn.
pub record LendsAfter (who : Option ℕ) (old new : Core) : Type 0 where
  pub ends : EndList
  pub others : (key : ℕ) → who ≢ Some key → end_at ends key ≡ end_at old.ends key
  pub lends : LendsInTurn old.pool.line ends new

-- Of the connections that are held one alone is lost, that of this number: the end of each application that neither holds it nor waits is as
-- it was.
abbrev pub LosesOnly : ℕ → Core → Core → Type 0
LosesOnly number old new =
    (key : ℕ) → holder old.pool number ≢ Some key → is_in key old.pool.line ≡ false → end_at new.ends key ≡ end_at old.ends key

-- Each but this one, if there is one, who doesn't hold the connection of this number holds it no more than before; and where he doesn't wait
-- either, he waits no more, and his end is as it was.
abbrev pub SparesOthers : ℕ → Option ℕ → Core → Core → Type 0
SparesOthers number who old new =
    (key : ℕ) → who ≢ Some key → holder old.pool number ≢ Some key → (holder new.pool number ≢ Some key)
    × (is_in key old.pool.line ≡ false → (is_in key new.pool.line ≡ false) × (end_at new.ends key ≡ end_at old.ends key))

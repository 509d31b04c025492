-- What each statement of the batch language is.
use Rattle.std.specs.Prelude.{◌≡◌, FitsSigned, true}
use Rattle.std.specs.Int.{w32}
use Rattle.tds_session.specs.Within.{IsWithin}
use Rattle.tds_session.specs.Words.{is_word}
use Rattle.tds_session.specs.declared.statement.Statement.{Statement}
use Rattle.tds_session.specs.declared.statement.Statement.TheVariants.{Say, Rows, Set, Get, Begin, Commit, Rollback, Fail}

-- what a statement speaks of is within its limits
abbrev pub IsStatement : Statement → Type 0
IsStatement (Say word) = is_word word ≡ true
IsStatement (Rows first count) = IsWithin 0 1000000 first × IsWithin 0 64 count
IsStatement (Set key value) = IsWithin 97 122 key × FitsSigned w32 value
IsStatement (Get key) = IsWithin 97 122 key
IsStatement Begin = Unit {0}
IsStatement Commit = Unit {0}
IsStatement Rollback = Unit {0}
IsStatement (Fail number) = IsWithin 1 999999 number

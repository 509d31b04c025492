use Rattle.std.proofs.Common.{◌≡◌, ◌-◌, ◌/◌, length}
use Rattle.tds_login.specs.Asked.{encryption_of, encryption_among}
use Rattle.tds_login.proofs.asked.encryption.Given as goal

-- what is found is found among the options that are left
abbrev pub invariant-loop-option : goal.invariant-loop-option
invariant-loop-option l =
    encryption_of l.fn.message ≡ encryption_among l.message l.option (length l.message / 5 - l.option)

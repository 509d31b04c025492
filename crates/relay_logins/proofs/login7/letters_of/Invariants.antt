use Rattle.std.proofs.Common.{◌≡◌, ◌++◌, length, string_bytes}
use Rattle.relay_logins.specs.Names.{letters_of}
use Rattle.relay_logins.proofs.login7.letters_of.Given as goal

-- with the letters of what is left, the name is that of all
abbrev pub invariant-loop-rest : goal.invariant-loop-rest
invariant-loop-rest l = string_bytes l.name ++ letters_of l.rest ≡ letters_of l.text

abbrev pub decreases-loop-rest : goal.decreases-loop-rest
decreases-loop-rest l = length l.rest

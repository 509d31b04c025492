use Rattle.std.proofs.Common.{sym}
use Rattle.std.proofs.lemmas.List.{take_min}
use Rattle.relay_logins.proofs.login7.name_at.Goals as goal

-- src/login7.rt
pub returns-in-Some : goal.returns-in-Some
returns-in-Some c = record { is = rw (sym c.in-Some.ensures) (rw (c.min.ensures, take_min 96 c.in-Some.text.now) at c.letters_of.ensures) }

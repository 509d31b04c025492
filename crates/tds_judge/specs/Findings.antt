-- Findings, by their numbers.
use Rattle.std.specs.Prelude.{ℕ, ◌==◌, ◌||◌, Bool, List, [], ◌∷◌, ◌++◌, if◌then◌else◌}
use Rattle.tds_judge.specs.declared.finding.Finding.{Finding}
use Rattle.tds_judge.specs.declared.finding.Level.{Level}
use Rattle.tds_judge.specs.declared.finding.Level.TheVariants.{Breach, Risk, Note}
use Rattle.tds_judge.specs.declared.finding.Name.{Name}
use Rattle.tds_judge.specs.declared.finding.Name.TheVariants as names
use Rattle.tds_judge.specs.declared.finding.Spot.{Spot}

abbrev pub number_of : Name → ℕ
number_of names.SecondAttention = 1
number_of names.AttentionUnanswered = 2
number_of names.AttentionIgnored = 3
number_of names.AcknowledgementUnasked = 4
number_of names.RequestWhileAnswering = 5
number_of names.AnswerUnread = 6
number_of names.CancelledBeginKept = 7
number_of names.WrongDescriptor = 8
number_of names.TransactionEndedUnheard = 9
number_of names.ResetEndsTransaction = 10
number_of names.IdleInTransaction = 11
number_of names.TransactionLeftByClose = 12
number_of names.ResetOnLaterPacket = 13
number_of names.BothResets = 14
number_of names.ResetUnanswered = 15
number_of names.ResetTwice = 16
number_of names.SessionReusedWithoutReset = 17
number_of names.TokenAfterFinalDone = 18
number_of names.NoFinalDone = 19
number_of names.CutToken = 20
number_of names.WrongToken = 21
number_of names.PacketSize = 22
number_of names.WrongLength = 23
number_of names.WrongAttention = 24
number_of names.UnfinishedMessage = 25
number_of names.UnclearChange = 26
number_of names.TakenUp = 27
number_of names.Encrypted = 28
number_of names.NotTds = 29
number_of names.OtherVersion = 30
number_of names.Compute = 31
number_of names.AnswerUnasked = 32
number_of names.LentWhileAnswering = 33
number_of names.ResetUnasked = 34
number_of names.WrongChange = 35
number_of names.NoneEnded = 36
number_of names.IgnoreUnended = 37
number_of names.WrongDirection = 38
number_of names.AcknowledgementNotLast = 39
number_of names.WrongHeaders = 40
number_of names.PacketNotFull = 41
number_of names.RequestBeforeLogin = 42
number_of names.ResetToldLate = 43
number_of names.AnswerBeforeEnd = 44
number_of names.ResetOnBulkLoad = 45

abbrev pub is_risk : ℕ → Bool
is_risk n =
    (n == 6) || (n == 10) || (n == 11) || (n == 12) || (n == 17) || (n == 18) || (n == 26)
    || (n == 36) || (n == 41) || (n == 43) || (n == 44) || (n == 45)

abbrev pub is_note : ℕ → Bool
is_note n = (n == 16) || (n == 27) || (n == 28) || (n == 29) || (n == 30) || (n == 31) || (n == 34)

-- what isn't a risk or a note is a breach of MS-TDS
abbrev pub level_of : ℕ → Level
level_of n = if is_risk n then Risk else if is_note n then Note else Breach

-- the judging of the connection ends with it
abbrev pub ends_judging : ℕ → Bool
ends_judging n =
    (n == 21) || (n == 23) || (n == 28) || (n == 29) || (n == 30) || (n == 31) || (n == 38)

-- the findings so far, and this one where it is
abbrev pub noted : List Finding → Spot → Bool → Name → ℕ → List Finding
noted xs spot is name value =
    if is then xs ++ (record { name = name; value = value; spot = spot }) ∷ [] else xs

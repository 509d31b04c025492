-- What the exports do by which a driver tells the client what it has heard of an answer.
use Rattle.std.specs.Prelude.{◌≡◌, ℕ, ◌==◌, ◌||◌, [], Option, Some, None, Result, Ok, Err, if◌then◌else◌}
use Rattle.tds_token.specs.declared.env_change.EnvChange.{EnvChange}
use Rattle.tds_token.specs.declared.env_change.EnvChange.TheVariants.{Begin, Commit, Rollback, ResetDone}
use Rattle.tds_client.specs.declared.sign.DoneKind.{DoneKind}
use Rattle.tds_client.specs.declared.sign.DoneKind.TheVariants.{Statement, Procedure, InProcedure}
use Rattle.tds_client.specs.declared.sign.Rules.TheVariants.{Any}
use Rattle.tds_client.specs.declared.sign.Sign.{Sign}
use Rattle.tds_client.specs.declared.sign.Sign.TheVariants as signs
use Rattle.tds_client.specs.declared.state.Taken.{Taken}
use Rattle.tds_client.specs.Machine.{message_ended, signed, tells}
use Rattle.tds_client.specs.Session.{ClientSession}
use Rattle.tds_client.specs.Taking.{broken_by}
use Rattle.tds_c.specs.declared.answers.Stop.{Stop}
use Rattle.tds_c.specs.declared.answers.Stop.TheVariants as stops
use Rattle.tds_c.specs.declared.client.TdsClient.{TdsClient}
use Rattle.tds_c.specs.declared.heard.Told.{Told}
use Rattle.tds_c.specs.declared.heard.Told.TheVariants.{Tell, Drop}
use Rattle.tds_c.specs.Calls.{value_of}
use Rattle.tds_c.specs.Plain.{client_of}

-- ---- The numbers

abbrev pub told_number : Told → ℕ
told_number Tell = 10
told_number Drop = 11

-- Of any server: 11 counts as a begin, 12 and 17 as an end (MS-TDS 2.2.7.9).
unfoldable pub change_from : ℕ → ℕ → Option EnvChange
change_from n descriptor =
    if (n == 8) || (n == 11) then Some (Begin descriptor)
    else if (n == 9) || (n == 12) then Some (Commit descriptor)
    else if (n == 10) || (n == 17) then Some (Rollback descriptor)
    else if n == 18 then Some ResetDone
    else None

-- By the token's byte (MS-TDS 2.2.7.6 to 2.2.7.8).
unfoldable pub done_kind_from : ℕ → Option DoneKind
done_kind_from n = if n == 0xFD then Some Statement else if n == 0xFE then Some Procedure else if n == 0xFF then Some InProcedure else None

-- ---- A token

-- What is answered of a token that is heard now: it is told in reading alone.
abbrev pub told_in : ClientSession → Told
told_in s = if tells s.stage then Tell else Drop

-- What the core makes of the sign: the client is that one, or it is broken by this fault.
abbrev pub HearsFrom : ClientSession → Sign → TdsClient → Result Told Stop → Type 0
HearsFrom s sign new (Ok told) = (next : ClientSession) × (signed Any s sign ≡ Ok next) × (new ≡ value_of next 0) × (told ≡ told_in s)
HearsFrom s sign new (Err (stops.Client fault)) = (signed Any s sign ≡ Err fault) × (new ≡ value_of (broken_by s fault) 0)
HearsFrom s sign new _ = ⊥

abbrev pub HearsBy : Option ClientSession → Sign → TdsClient → TdsClient → Result Told Stop → Type 0
HearsBy None sign old new result = (result ≡ Err stops.NoClient) × (new ≡ old)
HearsBy (Some s) sign old new result = HearsFrom s sign new result

abbrev pub Hears : Sign → TdsClient → TdsClient → Result Told Stop → Type 0
Hears sign old new result = HearsBy (client_of old []) sign old new result

-- A number that stands for nothing is refused, and nothing was done.
abbrev pub HearsChange : Option EnvChange → TdsClient → TdsClient → Result Told Stop → Type 0
HearsChange None old new result = (result ≡ Err stops.OutOfRange) × (new ≡ old)
HearsChange (Some change) old new result = Hears (signs.Change change) old new result

abbrev pub HearsDone : Option DoneKind → ℕ → TdsClient → TdsClient → Result Told Stop → Type 0
HearsDone None status old new result = (result ≡ Err stops.OutOfRange) × (new ≡ old)
HearsDone (Some kind) status old new result = Hears (signs.Done kind status) old new result

-- ---- The end of a message

abbrev pub EndsFrom : ClientSession → TdsClient → Result Taken Stop → Type 0
EndsFrom s new (Ok answer) =
    (next : ClientSession) × (message_ended Any s ≡ Ok (record { answer = answer; session = next })) × (new ≡ value_of next 0)
EndsFrom s new (Err (stops.Client fault)) = (message_ended Any s ≡ Err fault) × (new ≡ value_of (broken_by s fault) 0)
EndsFrom s new _ = ⊥

abbrev pub EndsBy : Option ClientSession → TdsClient → TdsClient → Result Taken Stop → Type 0
EndsBy None old new result = (result ≡ Err stops.NoClient) × (new ≡ old)
EndsBy (Some s) old new result = EndsFrom s new result

abbrev pub Ends : TdsClient → TdsClient → Result Taken Stop → Type 0
Ends old new result = EndsBy (client_of old []) old new result

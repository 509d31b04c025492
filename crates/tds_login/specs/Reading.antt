-- How a login is read: what each byte does, and what bytes do, one after another.
use Rattle.std.specs.Prelude.{ℕ, ◌+◌, ◌-◌, ◌*◌, ◌%◌, ◌==◌, ◌&&◌, ◌||◌, not, nat_lt, min, Bool, false, List, [], ◌∷◌, ◌++◌, take, Option, Some, None, Result, Ok, Err, if◌then◌else◌, slice_set, replicate}
use Rattle.tds_login.specs.declared.answer.LoginAnswer.{LoginAnswer}
use Rattle.tds_login.specs.declared.answer.LoginAnswer.TheVariants.{Prepare, LetIn, Refuse}
use Rattle.tds_login.specs.declared.login.Due.{Due}
use Rattle.tds_login.specs.declared.login.Due.TheVariants as due
use Rattle.tds_login.specs.declared.login.Login.{Login}
use Rattle.tds_login.specs.declared.login.LoginFault.{LoginFault}
use Rattle.tds_login.specs.declared.login.LoginFault.TheVariants.{WrongType, WrongLength, LongMessage, Over}
use Rattle.tds_login.specs.declared.login.Message.{Message}
use Rattle.tds_login.specs.declared.login.Message.TheVariants.{PreLogin, Login7}
use Rattle.tds_login.specs.declared.login.Stage.{Stage}
use Rattle.tds_login.specs.declared.login.Stage.TheVariants.{Start, Prepared, Broken}
use Rattle.tds_login.specs.Asked.{is_demanding, login_answer_of}

-- a login as a connection begins
abbrev pub new_login : Login
new_login = record {
  stage = Start;
  message = None;
  due = due.Type;
  ends = false;
  high = 0;
  missing = 0;
  count = 0;
  kept = replicate 256 0;
}

-- the login then, and what the byte brings: nothing, an answer, or a fault
pub record Step : Type 0 where
  pub login : Login
  pub brings : Result (Option LoginAnswer) LoginFault

abbrev pub goes_on : Login → Step
goes_on l = record { login = l; brings = Ok None }

abbrev pub fails : Login → LoginFault → Step
fails l fault = record { login = l; brings = Err fault }

-- ---- A packet's header (MS-TDS 2.2.3.1)

-- the type of the message that a packet with this type begins: PRELOGIN (18) once, or LOGIN7 (16)
abbrev pub message_begun : Stage → ℕ → Option Message
message_begun Start byte = if byte == 16 then Some Login7 else if byte == 18 then Some PreLogin else None
message_begun (Prepared demands) byte = if byte == 16 then Some Login7 else None
message_begun (Broken fault) byte = None

abbrev pub byte_of : Message → ℕ
byte_of PreLogin = 18
byte_of Login7 = 16

-- the type of the message that a packet belongs to: each packet of a message has the same
abbrev pub message_at : Option Message → Stage → ℕ → Option Message
message_at None stage byte = message_begun stage byte
message_at (Some message) stage byte = if byte == byte_of message then Some message else None

abbrev pub with_message : Login → Option Message → Step
with_message l None = fails l WrongType
with_message l (Some message) = goes_on (record l { message = Some message; due = due.Status })

-- whether a packet can't have this length: it is shorter than its header, or empty and not the last of its
-- message
abbrev pub is_wrong_length : ℕ → Bool → Bool
is_wrong_length count ends = nat_lt count 8 || ((count == 8) && not ends)

abbrev pub with_length : Login → ℕ → Step
with_length l count =
    if is_wrong_length count l.ends then fails l WrongLength
    else goes_on (record l { missing = count - 8; due = due.Skipped 4 })

-- ---- A message

-- how many bytes of a message are kept, and which
abbrev pub kept_of : Login → List ℕ
kept_of l = take (min 256 l.count) l.kept

-- what a message that is whole brings
abbrev pub demands_of : Stage → Bool
demands_of Start = false
demands_of (Prepared demands) = demands
demands_of (Broken fault) = false

abbrev pub answered : Login → Result LoginAnswer LoginFault → Step
answered l (Ok answer) = record { login = l; brings = Ok (Some answer) }
answered l (Err fault) = fails l fault

-- the login once a message is done with
abbrev pub between : Login → Login
between l = record l { message = None; due = due.Type; count = 0 }

abbrev pub message_done : Login → Option Message → Step
message_done l None = fails l WrongType
message_done l (Some PreLogin) = record {
  login = record (between l) { stage = Prepared (is_demanding (kept_of l)) };
  brings = Ok (Some Prepare);
}
message_done l (Some Login7) =
    answered (between l) (login_answer_of (kept_of l) l.count (demands_of l.stage))

-- behind a byte of a packet's data, or behind its header
abbrev pub behind : Login → Step
behind l =
    if nat_lt 0 l.missing then goes_on (record l { due = due.Data })
    else if l.ends then message_done l l.message
    else goes_on (record l { due = due.Type })

-- ---- A byte

-- the first 256 bytes of a message are kept; the others are counted
abbrev pub counted : Login → ℕ → Login
counted l byte = record l {
  kept = (if nat_lt l.count 256 then slice_set l.kept l.count byte else l.kept);
  count = l.count + 1;
  missing = l.missing - 1;
}

abbrev pub with_data : Login → ℕ → Step
with_data l byte =
    if nat_lt l.count 131071 then behind (counted l byte)
    else fails l LongMessage

abbrev pub skipped : Login → ℕ → Step
skipped l left = if nat_lt 1 left then goes_on (record l { due = due.Skipped (left - 1) }) else behind l

-- a byte of a login that isn't broken, by what is due
abbrev pub stepped : Login → Due → ℕ → Step
stepped l due.Type byte = with_message l (message_at l.message l.stage byte)
stepped l due.Status byte = goes_on (record l { ends = (byte % 2 == 1); due = due.HighLength })
stepped l due.HighLength byte = goes_on (record l { high = byte; due = due.LowLength })
stepped l due.LowLength byte = with_length l (256 * l.high + byte)
stepped l (due.Skipped left) byte = skipped l left
stepped l due.Data byte = with_data l byte

-- the fault that each later byte brings, if the login ends with this
abbrev pub fault_behind : Result (Option LoginAnswer) LoginFault → Option LoginFault
fault_behind (Err fault) = Some fault
fault_behind (Ok None) = None
fault_behind (Ok (Some Prepare)) = None
fault_behind (Ok (Some (LetIn terms))) = Some Over
fault_behind (Ok (Some (Refuse refusal))) = Some Over

abbrev pub broken_by : Login → Option LoginFault → Login
broken_by l None = l
broken_by l (Some fault) = record l { stage = Broken fault }

abbrev pub closed : Step → Step
closed s = record { login = broken_by s.login (fault_behind s.brings); brings = s.brings }

abbrev pub step_at : Stage → Login → ℕ → Step
step_at Start l byte = closed (stepped l l.due byte)
step_at (Prepared demands) l byte = closed (stepped l l.due byte)
step_at (Broken fault) l byte = fails l fault

-- what a byte does
unfoldable pub step : Login → ℕ → Step
step l byte = step_at l.stage l byte

-- ---- Bytes

-- the login behind these bytes
abbrev pub after : Login → List ℕ → Login
after l [] = l
after l (byte ∷ bytes) = after (step l byte).login bytes

abbrev pub answers_in : Result (Option LoginAnswer) LoginFault → List LoginAnswer
answers_in (Err fault) = []
answers_in (Ok None) = []
answers_in (Ok (Some answer)) = answer ∷ []

-- the answers that these bytes bring, in order
abbrev pub answers_to : Login → List ℕ → List LoginAnswer
answers_to l [] = []
answers_to l (byte ∷ bytes) = answers_in (step l byte).brings ++ answers_to (step l byte).login bytes

-- the login answers this fault from now on, if it answers one
abbrev pub fault_at : Stage → Option LoginFault
fault_at Start = None
fault_at (Prepared demands) = None
fault_at (Broken fault) = Some fault

abbrev pub fault_of : Login → Option LoginFault
fault_of l = fault_at l.stage

-- A lawful server's end, said once more: exchanges, one behind the other.
use Rattle.std.specs.Prelude.{◌≡◌, ℕ, zero, suc, List, [], ◌∷◌, ◌++◌}
use Rattle.tds_front.specs.Serving.{More, Whole, Ignored, Attention, Tokens, Ends, Acknowledges, ServerIsAt, Happening, Comes, Goes, Closes, behind_brought, behind_reply}

-- What comes behind an attention that stops an answer: so many tokens; or the answer's end crosses it (MS-TDS 2.2.1.7).
pub data Stop : Type 0 where
  Cut : (tokens : ℕ) → Stop
  Crossed : (tokens behind : ℕ) → Stop

-- A request's answer: it ends behind so many tokens, or it is stopped there.
pub data Answer : Type 0 where
  Ended : (tokens : ℕ) → Answer
  Stopped : (tokens : ℕ) (stop : Stop) → Answer

-- An exchange begins with so many packets that end no message.
pub data Exchange : Type 0 where
  -- then the request's last one, and its answer
  Asked : (packets : ℕ) (answer : Answer) → Exchange
  -- then one that says to ignore it, and no answer
  Forgotten : (packets : ℕ) → Exchange
  -- then, or where there are none, an attention alone, and its acknowledgement behind so many tokens
  Alone : (packets tokens : ℕ) → Exchange

-- ---- What happens in it, and then this

abbrev pub times : ℕ → Happening → List Happening → List Happening
times zero happening later = later
times (suc n) happening later = happening ∷ times n happening later

abbrev pub acknowledged : ℕ → List Happening → List Happening
acknowledged tokens later = times tokens (Goes Tokens) (Goes Acknowledges ∷ later)

abbrev pub stopped : Stop → List Happening → List Happening
stopped (Cut tokens) later = acknowledged tokens later
stopped (Crossed tokens behind) later = times tokens (Goes Tokens) (Goes Ends ∷ acknowledged behind later)

abbrev pub answered : Answer → List Happening → List Happening
answered (Ended tokens) later = times tokens (Goes Tokens) (Goes Ends ∷ later)
answered (Stopped tokens stop) later = times tokens (Goes Tokens) (Comes Attention ∷ stopped stop later)

abbrev pub exchanged : Exchange → List Happening → List Happening
exchanged (Asked packets answer) later = times packets (Comes More) (Comes Whole ∷ answered answer later)
exchanged (Forgotten packets) later = times packets (Comes More) (Comes Ignored ∷ later)
exchanged (Alone packets tokens) later = times packets (Comes More) (Comes Attention ∷ acknowledged tokens later)

abbrev pub all_of : List Exchange → List Happening
all_of [] = []
all_of (exchange ∷ exchanges) = exchanged exchange (all_of exchanges)

-- What has happened is exchanges, one behind the other, or a front of them: the last one may go on.
pub record IsFront (happenings : List Happening) : Type 0 where
  pub exchanges : List Exchange
  pub rest : List Happening
  pub all : happenings ++ rest ≡ all_of exchanges

-- ---- Faults

abbrev pub place_after : ServerIsAt → List Happening → ServerIsAt
place_after place [] = place
place_after place (Comes brought ∷ later) = place_after (behind_brought place brought) later
place_after place (Goes reply ∷ later) = place_after (behind_reply place reply) later
place_after place (Closes ∷ later) = place_after place later

-- nothing goes to the client
abbrev pub IsSilent : List Happening → Type 0
IsSilent [] = Unit {0}
IsSilent (Comes brought ∷ later) = IsSilent later
IsSilent (Goes reply ∷ later) = ⊥
IsSilent (Closes ∷ later) = IsSilent later

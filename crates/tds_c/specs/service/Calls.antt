-- What each export does: the machine's call on the table that the values are, or nothing, and why.
use Rattle.std.specs.Prelude.{◌≡◌, ◌<◌, ◌≤◌, ◌+◌, ℕ, Bool, true, false, List, [], ◌∷◌, length, take, Option, Some, None, Result, Ok, Err}
use Rattle.tds_wire.specs.declared.told.Token.{Token}
use Rattle.tds_service.specs.declared.place.Rest.{Rest}
use Rattle.tds_service.specs.declared.service.lending.Lent as leases
use Rattle.tds_service.specs.declared.refusal.Refusal.{Refusal}
use Rattle.tds_service.specs.declared.refusal.Refusal.TheVariants as refusals
use Rattle.tds_service.specs.Line.{LineStage}
use Rattle.tds_service.specs.Service.{Call, GiveBack, Keep, Lost, Reply, Back, Lent, Ticket, Did, Place, Leased, Cleaning, Kept, Free, Draining, Seat, Service, drained, does, find_by, has_number}
use Rattle.tds_service.specs.Table.{Denies, Steps, rest_of}
use Rattle.tds_c.specs.declared.service.answers.Stop.{Stop}
use Rattle.tds_c.specs.declared.service.answers.Stop.TheVariants as stops
use Rattle.tds_c.specs.declared.service.plain.TdsLent.{TdsLent}
use Rattle.tds_c.specs.declared.service.plain.TdsSeat.{TdsSeat}
use Rattle.tds_c.specs.declared.service.plain.TdsService.{TdsService}
use Rattle.tds_c.specs.service.Answers.{rest_number, stop_number}
use Rattle.tds_c.specs.service.Clients.{Apart, apart}
use Rattle.tds_c.specs.service.Plain.{table_of, used}
use Rattle.tds_c.specs.service.Table.{FirstMet}

-- A table with its array.
pub record Held : Type 0 where
  pub service : TdsService
  pub seats : List TdsSeat

abbrev pub Fits : Held → Type 0
Fits h = h.service.count ≤ length h.seats

-- What a new client has.
abbrev pub new_apart : ℕ → Apart
new_apart size = record { sent = 0; packets = 0; size = size; kind = 0; columns = 0 }

-- Each of these connections meets a test, by its number and what its client has.
abbrev pub Meet : (ℕ → Apart → Bool) → List TdsSeat → Type 0
Meet test [] = Unit {0}
Meet test (c ∷ cs) = (test c.number (apart c.client) ≡ true) × Meet test cs

-- The table's packet size stays. Whatever each of its connections met, it still meets: what its client has stays, and a new one's is new,
-- of that size.
pub record Leaves (old new : Held) : Type 0 where
  pub size : new.service.size ≡ old.service.size
  pub clients : (test : ℕ → Apart → Bool) → test (old.service.last + 1) (new_apart old.service.size) ≡ true
      → Meet test (used old.service old.seats) → Meet test (used new.service new.seats)

-- The machine does it, and writes this to the front of `out`.
abbrev pub DoesIt : Call Token → Held → Held → Reply → ℕ → List ℕ → Type 0
DoesIt call old new reply number bytes =
    Fits old × Steps call (table_of old.service old.seats) (table_of new.service new.seats) reply number [] bytes

-- Nothing is done: the array is too short for the table, there is no room for so many bytes, or the machine refuses it.
abbrev pub Stops : Call Token → Held → (room count : ℕ) → Stop → Type 0
Stops call h room count stops.NoTable = length h.seats < h.service.count
Stops call h room count stops.NoRoom = Fits h × (room < count)
Stops call h room count stops.OutOfRange = ⊥
Stops call h room count (stops.Refused refusal) = Fits h × Denies call (table_of h.service h.seats) refusal

-- 0, or why it wasn't done.
abbrev pub done_number : {A : Type 0} → Result A Stop → ℕ
done_number (Ok x) = 0
done_number (Err stop) = stop_number stop

-- ---- A lease

abbrev pub truth_number : Bool → ℕ
truth_number false = 0
truth_number true = 1

abbrev pub plain_lent : leases.Lent → TdsLent
plain_lent l = record { lease = l.lease; number = l.number; had = truth_number l.had }

abbrev pub Lending : Call Token → (old new : Held) → (before after : TdsLent) → Result leases.Lent Stop → Type 0
Lending call old new before after (Ok l) =
    (number : ℕ) × (after ≡ plain_lent l) × DoesIt call old new (Lent l.lease l.number l.had) number [] × Leaves old new
Lending call old new before after (Err stop) = (new ≡ old) × (after ≡ before) × Stops call old 0 0 stop

-- It is lent, or it isn't, as the number says.
abbrev pub Lends : Call Token → (old new : Held) → (before after : TdsLent) → ℕ → Type 0
Lends call old new before after n =
    (answer : Result leases.Lent Stop) × (n ≡ done_number answer) × Lending call old new before after answer

-- ---- The end of a lease

abbrev pub Ending : Call Token → (old new : Held) → (before after : ℕ) → Result (ℕ × Rest) Stop → Type 0
Ending call old new before after (Ok done) =
    (after ≡ done.0) × DoesIt call old new (Back (rest_of done.1)) done.0 [] × Leaves old new
Ending call old new before after (Err stop) = (new ≡ old) × (after ≡ before) × Stops call old 0 0 stop

abbrev pub ended_number : Result (ℕ × Rest) Stop → ℕ
ended_number (Ok done) = rest_number done.1
ended_number (Err stop) = stop_number stop

-- Where the connection is then is the number; which it was is written.
abbrev pub Ends : Call Token → (old new : Held) → (before after : ℕ) → ℕ → Type 0
Ends call old new before after n =
    (answer : Result (ℕ × Rest) Stop) × (n ≡ ended_number answer) × Ending call old new before after answer

-- ---- Bytes that are written

-- The caller's buffer, before and behind; how many bytes were written to its front.
pub record Buffer : Type 0 where
  pub before : List ℕ
  pub after : List ℕ
  pub count : ℕ

abbrev pub Giving : ℕ → (old new : Held) → Buffer → (before after : ℕ) → Result (ℕ × Rest) Stop → Type 0
Giving lease old new out before after (Ok done) =
    (after ≡ done.0) × (out.count ≤ length out.after)
    × DoesIt (GiveBack lease) old new (Back (rest_of done.1)) done.0 (take out.count out.after) × Leaves old new
Giving lease old new out before after (Err stop) =
    (new ≡ old) × (after ≡ before) × (out.after ≡ out.before) × Stops (GiveBack lease) old (length out.before) out.count stop

abbrev pub GivesBack : ℕ → (old new : Held) → Buffer → (before after : ℕ) → ℕ → Type 0
GivesBack lease old new out before after n =
    (answer : Result (ℕ × Rest) Stop) × (n ≡ ended_number answer) × Giving lease old new out before after answer

-- ---- A ticket; a loss

abbrev pub Keeping : ℕ → (old new : Held) → (before after : ℕ) → Result ℕ Stop → Type 0
Keeping lease old new before after (Ok ticket) =
    (number : ℕ) × (after ≡ ticket) × DoesIt (Keep lease) old new (Ticket ticket) number [] × Leaves old new
Keeping lease old new before after (Err stop) = (new ≡ old) × (after ≡ before) × Stops (Keep lease) old 0 0 stop

abbrev pub Keeps : ℕ → (old new : Held) → (before after : ℕ) → ℕ → Type 0
Keeps lease old new before after n =
    (answer : Result ℕ Stop) × (n ≡ done_number answer) × Keeping lease old new before after answer

abbrev pub Losing : ℕ → (old new : Held) → Result (Unit {0}) Stop → Type 0
Losing number old new (Ok x) = DoesIt (Lost number) old new (Back None) number [] × Leaves old new
Losing number old new (Err stop) = (new ≡ old) × Stops (Lost number) old 0 0 stop

abbrev pub Loses : ℕ → (old new : Held) → ℕ → Type 0
Loses number old new n = (answer : Result (Unit {0}) Stop) × (n ≡ done_number answer) × Losing number old new answer

-- ---- What drains

-- A connection that drains is free once it is idle, as the machine puts it behind what came.
abbrev pub drained_rest : Place → LineStage → Option (Option Place)
drained_rest Draining stage = Some (Some (drained Draining stage))
drained_rest _ stage = None

pub record Drains (number : ℕ) (s new : Service) (rest : Rest) : Type 0 where
  pub seat : Seat
  pub found : find_by (has_number number) s.seats ≡ Some seat
  pub rests : Some (rest_of rest) ≡ drained_rest seat.place seat.line.stage
  pub put : new ≡ (does {T = Token} s s.given (has_number number) seat (rest_of rest) [] Did).service

-- There is none of this number, or it doesn't drain.
abbrev pub DrainsNot : ℕ → Service → Refusal → Type 0
DrainsNot number s refusals.Unknown = find_by (has_number number) s.seats ≡ None
DrainsNot number s refusals.NotNow = (c : Seat) × (find_by (has_number number) s.seats ≡ Some c) × (drained_rest c.place c.line.stage ≡ None)
DrainsNot number s _ = ⊥

abbrev pub Settling : ℕ → (old new : Held) → Result Rest Stop → Type 0
Settling number old new (Ok rest) =
    Fits old × Drains number (table_of old.service old.seats) (table_of new.service new.seats) rest × Leaves old new
Settling number old new (Err stops.NoTable) = (new ≡ old) × (length old.seats < old.service.count)
Settling number old new (Err stops.NoRoom) = ⊥
Settling number old new (Err stops.OutOfRange) = ⊥
Settling number old new (Err (stops.Refused refusal)) = (new ≡ old) × Fits old × DrainsNot number (table_of old.service old.seats) refusal

abbrev pub rested_number : Result Rest Stop → ℕ
rested_number (Ok rest) = rest_number rest
rested_number (Err stop) = stop_number stop

abbrev pub Settles : ℕ → (old new : Held) → ℕ → Type 0
Settles number old new n = (answer : Result Rest Stop) × (n ≡ rested_number answer) × Settling number old new answer

-- ---- Where a connection stands in the array

abbrev pub Finding : (Seat → Bool) → Held → (before after : ℕ) → Result ℕ Stop → Type 0
Finding test h before after (Ok index) = (after ≡ index) × Fits h × FirstMet test (used h.service h.seats) index
Finding test h before after (Err stops.NoTable) = (after ≡ before) × (length h.seats < h.service.count)
Finding test h before after (Err stops.NoRoom) = ⊥
Finding test h before after (Err stops.OutOfRange) = ⊥
Finding test h before after (Err (stops.Refused refusal)) =
    (after ≡ before) × Fits h × (refusal ≡ refusals.Unknown) × (find_by test (table_of h.service h.seats).seats ≡ None)

abbrev pub Finds : (Seat → Bool) → Held → (before after : ℕ) → ℕ → Type 0
Finds test h before after n = (answer : Result ℕ Stop) × (n ≡ done_number answer) × Finding test h before after answer

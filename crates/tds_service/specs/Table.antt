-- The table of the code, as the machine's service.
use Rattle.std.specs.Prelude.{◌≡◌, ◌≢◌, ℕ, zero, suc, ◌<◌, ◌++◌, Bool, true, false, List, [], ◌∷◌, length, Option, Some, None, Result, take, drop, ◌+◌, if◌then◌else◌}
use Rattle.tds_wire.specs.declared.told.Token.{Token}
use Rattle.tds_wire.specs.Reading.{Parser}
use Rattle.tds_client.specs.declared.fault.ClientRefusal.{ClientRefusal}
use Rattle.tds_client.specs.declared.fault.ClientRefusal.TheVariants as clients
use Rattle.tds_client.specs.declared.message.MessageKind.{MessageKind}
use Rattle.tds_client.specs.Parts.{left_of}
use Rattle.tds_client.specs.Sending as sending
use Rattle.tds_client.specs.Sending.{Effect, IsRefusal}
use Rattle.tds_client.specs.Session.{ClientSession}
use Rattle.tds_client.specs.Streams.{opened}
use Rattle.tds_service.specs.declared.place.Place as code
use Rattle.tds_service.specs.declared.place.Place.TheVariants as places
use Rattle.tds_service.specs.declared.place.Rest.{Rest}
use Rattle.tds_service.specs.declared.place.Rest.TheVariants as rests
use Rattle.tds_service.specs.declared.place.Holder.{Holder}
use Rattle.tds_service.specs.declared.place.Holder.TheVariants as holders
use Rattle.tds_service.specs.declared.refusal.Refusal.{Refusal}
use Rattle.tds_service.specs.declared.refusal.Refusal.TheVariants as refusals
use Rattle.tds_service.specs.declared.seat.Seat as seats
use Rattle.tds_service.specs.declared.service.Service as services
use Rattle.tds_service.specs.Parts.{Part}
use Rattle.tds_service.specs.Line as lines
use Rattle.tds_service.specs.Line.{Line, Answer}
use Rattle.tds_service.specs.History.{Done}
use Rattle.tds_service.specs.Service as calls
use Rattle.tds_service.specs.Service.{find_by, Place, Leased, Cleaning, Kept, Free, Draining, Seat, Service, Call, ServiceStep, Reply, Unknown, AllInUse, NotNow, No, NoMemory, Lent, Ticket, Did, Back, lease_in, lease_at, has_lease, has_ticket, has_number, is_lendable, nothing, opens, step}
use Rattle.tds_service.specs.Ties.{line_in, full_in, sent_in, cancel_out, tokens_in, IsTo, Appends}

abbrev pub place_of : code.Place → Place
place_of (places.Leased lease) = Leased lease
place_of (places.Cleaning lease) = Cleaning lease
place_of (places.Kept ticket) = Kept ticket
place_of places.Free = Free
place_of places.Draining = Draining

-- Where it is: no place where it is closed.
abbrev pub rest_of : Rest → Option Place
rest_of rests.Free = Some Free
rest_of rests.Draining = Some Draining
rest_of rests.Closed = None

abbrev pub rests_of : Option Rest → Option (Option Place)
rests_of None = None
rests_of (Some rest) = Some (rest_of rest)

abbrev pub seat_in : seats.Seat → Seat
seat_in c = record { number = c.number; place = place_of c.place; line = line_in c.connection }

abbrev pub seats_in : List seats.Seat → List Seat
seats_in [] = []
seats_in (c ∷ cs) = seat_in c ∷ seats_in cs

abbrev pub service_in : services.Service → Service
service_in s = record { max = s.max; last = s.last; given = s.given; seats = seats_in s.seats.items }

-- Where a seat is that nobody holds; a closed one is taken out.
abbrev pub IsAt : Option Place → code.Place → Type 0
IsAt None place = Unit {0}
IsAt (Some rest) place = place_of place ≡ rest

abbrev pub without_closed : Rest → ℕ → List seats.Seat → List seats.Seat
without_closed rests.Free index cs = cs
without_closed rests.Draining index cs = cs
without_closed rests.Closed index cs = take index cs ++ drop (index + 1) cs

-- ---- Finding

abbrev pub test_of : Holder → Seat → Bool
test_of (holders.Lease lease) c = has_lease lease c
test_of (holders.Ticket ticket) c = has_ticket ticket c

abbrev pub id_of : Holder → ℕ
id_of (holders.Lease lease) = lease
id_of (holders.Ticket ticket) = ticket

-- whether the connection at an index meets a test
abbrev pub met : (Seat → Bool) → List seats.Seat → ℕ → Bool
met test [] k = false
met test (c ∷ cs) zero = test (seat_in c)
met test (c ∷ cs) (suc k) = met test cs k

-- it does, and none before it
pub record FirstMet (test : Seat → Bool) (cs : List seats.Seat) (index : ℕ) : Type 0 where
  pub within : index < length cs
  pub here : met test cs index ≡ true
  pub before : (k : ℕ) → k < index → met test cs k ≡ false

-- ---- Refusing

abbrev pub refusal_of : ClientRefusal → Refusal
refusal_of clients.NotIdle = refusals.NotIdle
refusal_of clients.NotSending = refusals.NotSending
refusal_of clients.Broken = refusals.Broken
refusal_of clients.Memory = refusals.Memory

-- A connection's refusal, as its service says it.
abbrev pub RefusedBy : Option ClientRefusal → Refusal → Type 0
RefusedBy first refusal = (why : ClientRefusal) × (refusal ≡ refusal_of why) × IsRefusal first why

-- Whether a reply says that nothing was done.
abbrev pub is_refused : Reply → Bool
is_refused (Lent lease number had) = false
is_refused (Ticket ticket) = false
is_refused Did = false
is_refused (Back place) = false
is_refused _ = true

-- Numbers of leases and of connections are left: there are 2^64 - 1 of each.
abbrev pub HasNumbers : Service → Type 0
HasNumbers s = (s.given < 18446744073709551615) × (s.last < 18446744073709551615)

-- Where a call is refused, the machine refuses it so; or memory was refused to one that would have been done.
abbrev pub RefusesIn : Service → ServiceStep Token → Refusal → Type 0
RefusesIn s t refusals.Unknown = t ≡ nothing s Unknown
RefusesIn s t refusals.AllInUse = t ≡ nothing s AllInUse
RefusesIn s t refusals.NotNow = t ≡ nothing s NotNow
RefusesIn s t refusals.NotIdle = t ≡ nothing s (No clients.NotIdle)
RefusesIn s t refusals.NotSending = t ≡ nothing s (No clients.NotSending)
RefusesIn s t refusals.Broken = t ≡ nothing s (No clients.Broken)
RefusesIn s t refusals.Memory = HasNumbers s → is_refused t.reply ≡ false

abbrev pub Denies : Call Token → Service → Refusal → Type 0
Denies call s refusal = RefusesIn s (step s call) refusal

-- ---- Doing

abbrev pub answers_in : List (Done Token) → List Answer
answers_in [] = []
answers_in (d ∷ ds) = d.answer ∷ answers_in ds

-- What a call did is what the machine does: the table behind it, the connection that it reached, what is replied, and the bytes
-- that go out there.
pub record StepsIn (t : ServiceStep Token) (new : Service) (reply : Reply) (number : ℕ) (before after : List ℕ) : Type 0 where
  pub service_is : new ≡ t.service
  pub reply_is : t.reply ≡ reply
  pub number_is : t.number ≡ number
  pub bytes : Appends (sent_in t.dones) before after

abbrev pub Steps : Call Token → Service → Service → Reply → ℕ → (before after : List ℕ) → Type 0
Steps call old new reply number before after = StepsIn (step old call) new reply number before after

-- The connection answered so to the one act of a call.
abbrev pub Answers : Call Token → Service → Answer → Type 0
Answers call s answer = answers_in (step s call).dones ≡ answer ∷ []

abbrev pub told_in : List (Done Token) → List Token
told_in [] = []
told_in (d ∷ ds) = tokens_in d.told ++ told_in ds

-- Nobody but this request is told.
abbrev pub AllTo : ℕ → List (Done Token) → Type 0
AllTo request [] = Unit {0}
AllTo request (d ∷ ds) = IsTo request d.told × AllTo request ds

-- A packet came on the connection of this number: the machine hears its part there, it answers so, what is told of it is appended,
-- and it is the newest request's, of the lease that holds the connection.
pub record Comes (s new : Service) (number : ℕ) (part : Part Token) (lease : Option ℕ) (request : ℕ) (answer : Answer) (before after : List Token) : Type 0 where
  pub steps : StepsIn (step s (calls.Came number part)) new Did number [] []
  pub answers : Answers (calls.Came number part) s answer
  pub told : after ≡ before ++ told_in (step s (calls.Came number part)).dones
  pub owner : AllTo request (step s (calls.Came number part)).dones
  pub holder : lease_at (find_by (has_number number) s.seats) ≡ lease

-- It is the number of the connection's newest request.
abbrev pub IsNewest : ℕ → ℕ → Service → Type 0
IsNewest number request s = (c : Seat) → find_by (has_number number) s.seats ≡ Some c → request ≡ c.line.asked

-- The same where nobody is told: what would be told is such a list.
abbrev pub ComesUntold : (s new : Service) → ℕ → Part Token → Option ℕ → ℕ → Answer → Type 0
ComesUntold s new number part lease request answer = (tokens : List Token) × Comes s new number part lease request answer [] tokens

-- Where the parser of the connection of this number stands.
abbrev pub reading_by : (Seat → Bool) → List seats.Seat → Option Parser
reading_by test [] = None
reading_by test (c ∷ cs) = if test (seat_in c) then Some c.connection.parser else reading_by test cs

abbrev pub reading_on : ℕ → services.Service → Option Parser
reading_on number s = reading_by (has_number number) s.seats.items

-- Where each connection's next packet is read from stays.
abbrev pub Keeps : services.Service → services.Service → Type 0
Keeps old new = (n : ℕ) (r : Parser) → reading_on n old ≡ Some r → reading_on n new ≡ Some r

-- So it does but for the connection of this number.
abbrev pub KeepsOthers : ℕ → services.Service → services.Service → Type 0
KeepsOthers number old new = (n : ℕ) (r : Parser) → n ≢ number → reading_on n old ≡ Some r → reading_on n new ≡ Some r

abbrev pub KeepsBy : Rest → ℕ → services.Service → services.Service → Type 0
KeepsBy rests.Free number old new = Keeps old new
KeepsBy rests.Draining number old new = Keeps old new
KeepsBy rests.Closed number old new = KeepsOthers number old new

-- How many packets go out as these bytes are put: all that are full and have a byte behind them.
abbrev pub puts_by : (Seat → Bool) → List seats.Seat → List ℕ → ℕ
puts_by test [] bytes = 0
puts_by test (c ∷ cs) bytes = if test (seat_in c) then full_in c.connection.client (left_of c.connection.client.stage ++ bytes) else puts_by test cs bytes

abbrev pub puts_on : ℕ → services.Service → List ℕ → ℕ
puts_on lease s bytes = puts_by (has_lease lease) s.seats.items bytes

-- ---- What a client holds of a request

abbrev pub client_by : (Seat → Bool) → List seats.Seat → Option ClientSession
client_by test [] = None
client_by test (c ∷ cs) = if test (seat_in c) then Some c.connection.client else client_by test cs

-- The client of the connection that this lease holds.
abbrev pub client_of : ℕ → services.Service → Option ClientSession
client_of lease s = client_by (has_lease lease) s.seats.items

-- The client of the connection that this lease holds was one, and is another.
pub record TurnsInto (lease : ℕ) (old new : services.Service) (before after : ClientSession) : Type 0 where
  pub was : client_of lease old ≡ Some before
  pub is : client_of lease new ≡ Some after

-- It began a message of this kind.
abbrev pub BeginsMessage : MessageKind → ℕ → services.Service → services.Service → Type 0
BeginsMessage kind lease old new = (s : ClientSession) × TurnsInto lease old new s (opened s kind)

-- It did this, and what goes out by that was appended.
pub record DoesAt (act : ClientSession → Result (Effect (Unit {0})) ClientRefusal) (lease : ℕ) (old new : services.Service) (before after : List ℕ) : Type 0 where
  pub session : ClientSession
  pub next : ClientSession
  pub moves : TurnsInto lease old new session next
  pub does : sending.Does (act session) tt next before after

-- What goes out by a cancel is appended.
abbrev pub CancelsOut : ℕ → services.Service → List ℕ → List ℕ → Type 0
CancelsOut lease old before after = (s : ClientSession) × (client_of lease old ≡ Some s) × (after ≡ before ++ cancel_out s.stage)

-- The clients stay of all connections that other leases hold.
abbrev pub KeepsClients : ℕ → services.Service → services.Service → Type 0
KeepsClients lease old new = (l : ℕ) → l ≢ lease → client_of l new ≡ client_of l old

-- So they do where it is another connection than that of this number.
abbrev pub KeepsClientsOff : ℕ → services.Service → services.Service → Type 0
KeepsClientsOff number old new = (l : ℕ) (c : Seat) → find_by (has_lease l) (seats_in old.seats.items) ≡ Some c → c.number ≢ number → client_of l new ≡ client_of l old

-- The answer of a request is being read on the connection of this number.
abbrev pub ReadsAt : Option Seat → Type 0
ReadsAt None = ⊥
ReadsAt (Some c) = c.line.stage ≡ lines.Reading

-- A new connection was added, and lent.
abbrev pub Opened : Service → Service → (lease number : ℕ) → Bool → Type 0
Opened old new lease number had =
    (length old.seats < old.max) × (new ≡ (opens {T = Token} old true).service) × (lease ≡ suc old.given) × (number ≡ suc old.last) × (had ≡ false)

-- A service: its connections, who holds each, and what each call does. One total function.
use Rattle.std.specs.Prelude.{ℕ, suc, ◌==◌, ◌&&◌, nat_lt, Bool, true, false, List, [], ◌∷◌, ◌++◌, length, Option, Some, None, if◌then◌else◌}
use Rattle.tds_packet.specs.declared.status.Reset.{Reset}
use Rattle.tds_client.specs.declared.fault.ClientRefusal.{ClientRefusal}
use Rattle.tds_packet.specs.declared.status.Reset.TheVariants.{Full, KeepTransaction}
use Rattle.tds_service.specs.Parts.{Part}
use Rattle.tds_service.specs.Line.{Line, new_line, LineStage, Idle, Sending, Reading, Cancelling, Broken}
use Rattle.tds_service.specs.Line as line
use Rattle.tds_service.specs.Line.{Act, line_turn}
use Rattle.tds_service.specs.History.{Done, history, line_after}
use Rattle.tds_service.specs.Refusing.{packets, refusal_in}

-- Who holds a connection.
pub data Place : Type 0 where
  Leased : (lease : ℕ) → Place
  -- by a lease too, to be cleaned
  Cleaning : (lease : ℕ) → Place
  Kept : (ticket : ℕ) → Place
  Free : Place
  Draining : Place

pub record Seat : Type 0 where
  pub number : ℕ
  pub place : Place
  pub line : Line

-- The most connections, how many there were, which are their numbers; how many leases and tickets were given, which are theirs.
pub record Service : Type 0 where
  pub max : ℕ
  pub last : ℕ
  pub given : ℕ
  pub seats : List Seat

abbrev pub new_service : ℕ → Service
new_service max = record { max = max; last = 0; given = 0; seats = [] }

pub data Call (T : Type 0) : Type 0 where
  Lease : Call T
  Resume : (ticket : ℕ) → Call T
  Ask : (lease : ℕ) → Call T
  -- bytes of a request, by which so many packets go out; its end, by which so many go out before its last one
  Put : (lease count : ℕ) → Call T
  Finish : (lease count : ℕ) → Call T
  Cancel : (lease : ℕ) → Call T
  GiveBack : (lease : ℕ) → Call T
  -- the connection of a number is lent to be cleaned; it was
  Clean : (number : ℕ) → Call T
  Cleaned : (lease : ℕ) → Call T
  Keep : (lease : ℕ) → Call T
  Abandon : (ticket : ℕ) → Call T
  Came : (number : ℕ) (part : Part T) → Call T
  Lost : (number : ℕ) → Call T
  -- one of these, to which memory was refused
  Without : (call : Call T) → Call T

pub data Reply : Type 0 where
  Unknown : Reply
  AllInUse : Reply
  NotNow : Reply
  -- the connection refuses it so; memory was refused
  No : (why : ClientRefusal) → Reply
  NoMemory : Reply
  -- a lease of this connection, which somebody had before or not
  Lent : (lease number : ℕ) (had : Bool) → Reply
  Ticket : (ticket : ℕ) → Reply
  -- what the connection answered
  Did : Reply
  -- where a connection is that nobody holds now: none where it was closed
  Back : (place : Option Place) → Reply

-- What a call did: the service behind it, the reply, which connection it reached (0 for none), and what came of it there.
pub record ServiceStep (T : Type 0) : Type 0 where
  pub service : Service
  pub reply : Reply
  pub number : ℕ
  pub dones : List (Done T)

abbrev pub nothing : {T : Type 0} → Service → Reply → ServiceStep T
nothing s reply = record { service = s; reply = reply; number = 0; dones = [] }

-- ---- Finding

abbrev pub holds : ℕ → Place → Bool
holds lease (Leased other) = other == lease
holds lease (Cleaning other) = other == lease
holds lease (Kept ticket) = false
holds lease Free = false
holds lease Draining = false

abbrev pub keeps : ℕ → Place → Bool
keeps ticket (Kept other) = other == ticket
keeps ticket _ = false

-- The lease that holds a connection, where one does.
abbrev pub lease_in : Place → Option ℕ
lease_in (Leased lease) = Some lease
lease_in (Cleaning lease) = Some lease
lease_in (Kept ticket) = None
lease_in Free = None
lease_in Draining = None

abbrev pub lease_at : Option Seat → Option ℕ
lease_at None = None
lease_at (Some c) = lease_in c.place

abbrev pub is_free : Place → Bool
is_free Free = true
is_free _ = false

abbrev pub is_idle : LineStage → Bool
is_idle Idle = true
is_idle _ = false

abbrev pub has_lease : ℕ → Seat → Bool
has_lease lease c = holds lease c.place

abbrev pub has_ticket : ℕ → Seat → Bool
has_ticket ticket c = keeps ticket c.place

abbrev pub has_number : ℕ → Seat → Bool
has_number n c = c.number == n

-- a free connection that is idle
abbrev pub is_lendable : Seat → Bool
is_lendable c = is_free c.place && is_idle c.line.stage

-- the first connection that meets a test
abbrev pub find_by : (Seat → Bool) → List Seat → Option Seat
find_by test [] = None
find_by test (c ∷ cs) = if test c then Some c else find_by test cs

abbrev pub seat_numbered : ℕ → List Seat → Option Seat
seat_numbered n cs = find_by (has_number n) cs

-- ---- What a call does on one connection

-- the first connection that meets the test is another, or is taken out
abbrev pub placed : ℕ → Option Place → Line → List Seat → List Seat
placed n None l cs = cs
placed n (Some place) l cs = (record { number = n; place = place; line = l }) ∷ cs

abbrev pub change_by : (Seat → Bool) → Option Place → Line → List Seat → List Seat
change_by test place l [] = []
change_by test place l (c ∷ cs) = if test c then placed c.number place l cs else c ∷ change_by test place l cs

abbrev pub does : {T : Type 0} → Service → ℕ → (Seat → Bool) → Seat → Option Place → List (Act T) → Reply → ServiceStep T
does s given test c place acts reply = record {
  service = record { max = s.max; last = s.last; given = given; seats = change_by test place (line_after c.line acts) s.seats };
  reply = reply;
  number = c.number;
  dones = history c.line acts;
}

-- where a connection is that nobody holds
abbrev pub rests : LineStage → Option Place
rests Idle = Some Free
rests (Sending begun) = Some Draining
rests Reading = Some Draining
rests Cancelling = Some Draining
rests (Broken fault) = None

-- where one is behind what came: a draining one is free once it is idle
abbrev pub drained : Place → LineStage → Place
drained (Leased lease) stage = Leased lease
drained (Cleaning lease) stage = Cleaning lease
drained (Kept ticket) stage = Kept ticket
drained Free stage = Free
drained Draining stage = if is_idle stage then Free else Draining

-- ---- The calls

-- Where the connection refuses the first act, nothing is done.
abbrev pub acts_unless : {T : Type 0} → Service → (Seat → Bool) → Seat → List (Act T) → Option ClientRefusal → ServiceStep T
acts_unless s test c all None = does s s.given test c (Some c.place) all Did
acts_unless s test c all (Some why) = nothing s (No why)

abbrev pub acts : {T : Type 0} → Service → (Seat → Bool) → Act T → List (Act T) → Option Seat → ServiceStep T
acts s test first all None = nothing s Unknown
acts s test first all (Some c) = acts_unless s test c all (refusal_in (line_turn c.line first).answer)

abbrev pub opens : {T : Type 0} → Service → Bool → ServiceStep T
opens s false = nothing s AllInUse
opens s true = record {
  service = record {
    max = s.max;
    last = suc s.last;
    given = suc s.given;
    seats = s.seats ++ (record { number = suc s.last; place = Leased (suc s.given); line = new_line }) ∷ [];
  };
  reply = Lent (suc s.given) (suc s.last) false;
  number = 0;
  dones = [];
}

abbrev pub lends : {T : Type 0} → Service → Option Seat → ServiceStep T
lends s None = opens s (nat_lt (length s.seats) s.max)
lends s (Some c) = does s (suc s.given) is_lendable c (Some (Leased (suc s.given))) (line.Mark Full ∷ []) (Lent (suc s.given) c.number true)

abbrev pub resumes : {T : Type 0} → Service → (Seat → Bool) → Option Seat → ServiceStep T
resumes s test None = nothing s Unknown
resumes s test (Some c) =
    if is_idle c.line.stage
    then does s (suc s.given) test c (Some (Leased (suc s.given))) (line.Mark KeepTransaction ∷ []) (Lent (suc s.given) c.number true)
    else nothing s NotNow

abbrev pub gives_back : {T : Type 0} → Service → (Seat → Bool) → Option Seat → ServiceStep T
gives_back s test None = nothing s Unknown
gives_back {T} s test (Some c) =
    let place = rests (line_after {T = T} c.line (line.Cancel ∷ [])).stage in
    does s s.given test c place (line.Cancel ∷ []) (Back place)

-- a transaction is open, and no full reset is about to end it
abbrev pub is_open : Option Reset → ℕ → Bool
is_open (Some Full) descriptor = false
is_open (Some KeepTransaction) descriptor = nat_lt 0 descriptor
is_open None descriptor = nat_lt 0 descriptor

-- a connection that can be lent is lent to be cleaned
abbrev pub cleans : {T : Type 0} → Service → (Seat → Bool) → Option Seat → ServiceStep T
cleans s test None = nothing s Unknown
cleans s test (Some c) =
    if is_lendable c
    then does s (suc s.given) test c (Some (Cleaning (suc s.given))) (line.Mark Full ∷ []) (Lent (suc s.given) c.number true)
    else nothing s NotNow

-- no reset is owed there, and no transaction is open
abbrev pub is_clean : Option Reset → ℕ → Bool
is_clean (Some reset) descriptor = false
is_clean None descriptor = descriptor == 0

-- where it is then: it is closed where it isn't clean; or it isn't time to ask
abbrev pub rests_clean : Bool → LineStage → Option (Option Place)
rests_clean clean Idle = Some (if clean then Some Free else None)
rests_clean clean (Sending begun) = None
rests_clean clean Reading = None
rests_clean clean Cancelling = None
rests_clean clean (Broken fault) = Some None

abbrev pub rests_cleaned : {T : Type 0} → Service → (Seat → Bool) → Seat → Option (Option Place) → ServiceStep T
rests_cleaned s test c None = nothing s NotNow
rests_cleaned s test c (Some place) = does s s.given test c place [] (Back place)

-- only one that is lent for this is looked at
abbrev pub clean_place : Place → Line → Option (Option Place)
clean_place (Cleaning lease) l = rests_clean (is_clean l.heard.mark l.heard.descriptor) l.stage
clean_place _ l = None

abbrev pub cleaned : {T : Type 0} → Service → (Seat → Bool) → Option Seat → ServiceStep T
cleaned s test None = nothing s Unknown
cleaned s test (Some c) = rests_cleaned s test c (clean_place c.place c.line)

-- idle, with a transaction that is open
abbrev pub may_keep : Seat → Bool
may_keep c = is_idle c.line.stage && is_open c.line.heard.mark c.line.heard.descriptor

abbrev pub keeps_it : {T : Type 0} → Service → (Seat → Bool) → Option Seat → ServiceStep T
keeps_it s test None = nothing s Unknown
keeps_it s test (Some c) =
    if may_keep c
    then does s (suc s.given) test c (Some (Kept (suc s.given))) [] (Ticket (suc s.given))
    else nothing s NotNow

abbrev pub abandons : {T : Type 0} → Service → (Seat → Bool) → Option Seat → ServiceStep T
abandons s test None = nothing s Unknown
abandons s test (Some c) = does s s.given test c (rests c.line.stage) [] (Back (rests c.line.stage))

abbrev pub hears : {T : Type 0} → Service → (Seat → Bool) → Part T → Option Seat → ServiceStep T
hears s test part None = nothing s Unknown
hears s test part (Some c) =
    does s s.given test c (Some (drained c.place (line_after c.line (line.Come part ∷ [])).stage)) (line.Come part ∷ []) Did

abbrev pub loses : {T : Type 0} → Service → (Seat → Bool) → Option Seat → ServiceStep T
loses s test None = nothing s Unknown
loses s test (Some c) = does s s.given test c None (line.Lose ∷ []) (Back None)

abbrev pub step : {T : Type 0} → Service → Call T → ServiceStep T
step s Lease = lends s (find_by is_lendable s.seats)
step s (Resume ticket) = resumes s (has_ticket ticket) (find_by (has_ticket ticket) s.seats)
step s (Ask lease) = acts s (has_lease lease) line.Ask (line.Ask ∷ []) (find_by (has_lease lease) s.seats)
step s (Put lease count) = acts s (has_lease lease) (line.Send false) (packets count) (find_by (has_lease lease) s.seats)
step s (Finish lease count) = acts s (has_lease lease) (line.Send true) (packets count ++ line.Send true ∷ []) (find_by (has_lease lease) s.seats)
step s (Cancel lease) = acts s (has_lease lease) line.Cancel (line.Cancel ∷ []) (find_by (has_lease lease) s.seats)
step s (GiveBack lease) = gives_back s (has_lease lease) (find_by (has_lease lease) s.seats)
step s (Clean number) = cleans s (has_number number) (find_by (has_number number) s.seats)
step s (Cleaned lease) = cleaned s (has_lease lease) (find_by (has_lease lease) s.seats)
step s (Keep lease) = keeps_it s (has_lease lease) (find_by (has_lease lease) s.seats)
step s (Abandon ticket) = abandons s (has_ticket ticket) (find_by (has_ticket ticket) s.seats)
step s (Came number part) = hears s (has_number number) part (find_by (has_number number) s.seats)
step s (Lost number) = loses s (has_number number) (find_by (has_number number) s.seats)
step s (Without call) = nothing s NoMemory

abbrev pub service_after : {T : Type 0} → Service → List (Call T) → Service
service_after s [] = s
service_after s (call ∷ calls) = service_after (step s call).service calls

abbrev pub steps : {T : Type 0} → Service → List (Call T) → List (ServiceStep T)
steps s [] = []
steps s (call ∷ calls) = step s call ∷ steps (step s call).service calls

-- ---- What was done on one connection

abbrev pub on_one : {T : Type 0} → Bool → List (Done T) → List (Done T) → List (Done T)
on_one false ds others = others
on_one true ds others = ds ++ others

abbrev pub on : {T : Type 0} → ℕ → List (ServiceStep T) → List (Done T)
on n [] = []
on n (t ∷ ts) = on_one (t.number == n) t.dones (on n ts)

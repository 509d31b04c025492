-- Which connections are lent, and how.
use Rattle.std.specs.Prelude.{◌≡◌, ℕ, Bool, true, false, List, [], ◌∷◌}
use Rattle.tds_packet.specs.declared.status.Reset.{Reset}
use Rattle.tds_packet.specs.declared.status.Reset.TheVariants.{Full, KeepTransaction}
use Rattle.tds_service.specs.Line.{Act}
use Rattle.tds_service.specs.Line as line
use Rattle.tds_service.specs.History.{Done}
use Rattle.tds_service.specs.Promises.{awaited_by_answer, awaited_by_packets}
use Rattle.tds_service.specs.Service.{Call, Lease, Resume, Ask, Put, Finish, Cancel, GiveBack, Cleaned, Keep, Abandon, Reply, Unknown, Lent, Service, ServiceStep, nothing, step, on}

-- Whether an answer or an acknowledgement is awaited behind what was done.
abbrev pub awaited : {T : Type 0} → Bool → List (Done T) → Bool
awaited b [] = b
awaited b (d ∷ ds) = awaited (awaited_by_answer (awaited_by_packets b d.sent) d.answer) ds

-- A connection that somebody had before is lent only where nothing is awaited on it.
abbrev pub LendsIdle : {T : Type 0} → List (ServiceStep T) → Reply → Type 0
LendsIdle before (Lent lease number true) = awaited false (on number before) ≡ false
LendsIdle before _ = Unit {0}

-- What is marked as it is lent again: a full reset, and for a ticket the one that keeps the transaction.
abbrev pub reset_of : {T : Type 0} → Call T → Reset
reset_of (Resume ticket) = KeepTransaction
reset_of _ = Full

abbrev pub marking : {T : Type 0} → Reset → Done T
marking reset = record { act = line.Mark reset; answer = line.Marked; sent = []; told = line.Nobody }

abbrev pub MarksBy : {T : Type 0} → Call T → Reply → List (Done T) → Type 0
MarksBy call (Lent lease number true) ds = ds ≡ marking (reset_of call) ∷ []
MarksBy call (Lent lease number false) ds = ds ≡ []
MarksBy call _ ds = Unit {0}

abbrev pub MarksReused : {T : Type 0} → List (Call T) → List (ServiceStep T) → Type 0
MarksReused [] [] = Unit {0}
MarksReused [] (t ∷ ts) = ⊥
MarksReused (call ∷ calls) [] = ⊥
MarksReused (call ∷ calls) (t ∷ ts) = MarksBy call t.reply t.dones × MarksReused calls ts

-- What whoever wants a lease is answered by a table.
abbrev pub leased : (T : Type 0) → Service → Reply
leased T s = (step {T = T} s Lease).reply

-- Whether a call is made with this lease.
abbrev pub IsWith : {T : Type 0} → ℕ → Call T → Type 0
IsWith lease (Ask other) = other ≡ lease
IsWith lease (Put other count) = other ≡ lease
IsWith lease (Finish other count) = other ≡ lease
IsWith lease (Cancel other) = other ≡ lease
IsWith lease (GiveBack other) = other ≡ lease
IsWith lease (Cleaned other) = other ≡ lease
IsWith lease (Keep other) = other ≡ lease
IsWith lease _ = ⊥

-- Whether a call is made with this ticket.
abbrev pub IsWithTicket : {T : Type 0} → ℕ → Call T → Type 0
IsWithTicket ticket (Resume other) = other ≡ ticket
IsWithTicket ticket (Abandon other) = other ≡ ticket
IsWithTicket ticket _ = ⊥

-- It reaches no connection, and the table stays.
abbrev pub nothing_known_of : (T : Type 0) → Service → ServiceStep T
nothing_known_of T s = nothing s Unknown

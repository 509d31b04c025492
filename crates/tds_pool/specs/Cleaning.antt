-- A connection that is being cleaned, whatever is called meanwhile.
use Rattle.std.specs.Prelude.{◌≡◌, ℕ, Bool, false, not, List, [], ◌∷◌, Option, Some, None, true, Result, Ok, Err, if◌then◌else◌}
use Rattle.tds_client.specs.declared.fault.ClientFault.{ClientFault}
use Rattle.tds_client.specs.declared.fault.ClientRefusal.{ClientRefusal}
use Rattle.tds_client.specs.declared.state.Sent.{Sent}
use Rattle.tds_client.specs.Session.{ClientSession, Stage, Cancelling, Idle, Sending, Reading, Broken, new_session}
use Rattle.tds_client.specs.Sending.{Effect, sent}
use Rattle.tds_client.specs.Taking.{ClientMove, taken, broken_by}
use Rattle.tds_packet.specs.declared.status.Reset.TheVariants.{Full, KeepTransaction}
use Rattle.tds_request.specs.declared.request.Request.{Request}
use Rattle.tds_pool.specs.declared.answers.PoolRefusal.{PoolRefusal}
use Rattle.tds_pool.specs.declared.lease.Lease.{Lease}
use Rattle.tds_pool.specs.declared.lease.Ticket.{Ticket}
use Rattle.tds_pool.specs.declared.seat.Place.TheVariants.{Free, Kept}
use Rattle.tds_pool.specs.Connections.{Connection, numbered, changed_in, at_place, with_client, taken_out}
use Rattle.tds_pool.specs.Calls.{only, lent_to, kept_for, is_lendable, is_cleaning, is_idle, is_clean, lent_again, refuses_keep, refuses_resume, given_back, abandoned, drained, closed, taken_back, free_one, refuses_clean, cleaning, not_cleaned, cleaned}
use Rattle.tds_pool.specs.History.{Seen, Opens, moved}

-- ---- The client that carries its packets

-- The connection of this number, unless it is being cleaned: the client of such a one is lent to nobody.
abbrev pub carried : ℕ → List Connection → Option Connection
carried number cs = only (λ (c : Connection). not (is_cleaning c.place)) (numbered number cs)

-- The client of the connection of this number.
abbrev pub client_or_new : Option Connection → ClientSession
client_or_new None = new_session 0
client_or_new (Some c) = c.client

abbrev pub client_at : ℕ → List Connection → ClientSession
client_at number cs = client_or_new (numbered number cs)

-- ---- Packets of a connection

-- The next packet of its request goes out. Or one comes, which ends its message or not, with these data.
pub data Packet : Type 0 where
  Out : Packet
  In : (ends : Bool) (bytes : List ℕ) → Packet

-- The client behind one. One that has nothing to send stays as it is, and a fault breaks it.
abbrev pub behind_sent : Result (Effect Sent) ClientRefusal → ClientSession → ClientSession
behind_sent (Ok effect) s = effect.session
behind_sent (Err refusal) s = s

abbrev pub behind_taken : Result ClientMove ClientFault → ClientSession → ClientSession
behind_taken (Ok move) s = move.session
behind_taken (Err fault) s = broken_by s fault

abbrev pub behind_packet : Packet → ClientSession → ClientSession
behind_packet Out s = behind_sent (sent s) s
behind_packet (In ends bytes) s = behind_taken (taken s ends bytes) s

-- The client behind some of them, the last one first.
abbrev pub behind_packets : List Packet → ClientSession → ClientSession
behind_packets [] s = s
behind_packets (packet ∷ before) s = behind_packet packet (behind_packets before s)

abbrev pub carries : ℕ → Packet → List Connection → List Connection
carries number packet cs = changed_in number (λ (c : Connection). record c { client = behind_packet packet c.client }) cs

-- ---- Calls

-- A call of a pool, where memory was there: what it was given, and what its caller did with what it lent. One that finds no
-- memory changes nothing, `clean` aside.
pub data Call : Type 0 where
  -- `lease` of a free connection, of this number
  LendsAgain : (number : ℕ) → Call
  -- `lease` of a new one, under this key, for packets of this size
  LendsNew : (key size : ℕ) → Call
  -- `client_mut` or `stored_client_mut`, and what was left of the client
  Uses : (lease : Lease) (client : ClientSession) → Call
  -- `at`, and what was left of the client
  Carries : (number : ℕ) (client : ClientSession) → Call
  -- `send` and `take`
  Moves : (number : ℕ) (packet : Packet) → Call
  Keeps : (lease : Lease) → Call
  Resumes : (ticket : Ticket) → Call
  GivesBack : (lease : Lease) → Call
  Abandons : (ticket : Ticket) → Call
  TakesBack : (number : ℕ) → Call
  LooksAtDrained : (number : ℕ) → Call
  Loses : (number : ℕ) → Call
  Closes : (number : ℕ) → Call
  Cleans : (number : ℕ) (request : Request) → Call
  -- `clean` that is refused so
  CleansNot : (number : ℕ) (refusal : PoolRefusal) → Call
  LooksAtCleaned : (number : ℕ) → Call

-- One list where there is such a thing, and the other one where there is none.
abbrev pub where_some : {A : Type 0} → Option A → List Connection → List Connection → List Connection
where_some None some none = none
where_some (Some x) some none = some

-- The pool with these connections.
abbrev pub with_these : Seen → List Connection → Seen
with_these p cs = record p { connections = cs }

-- The pool behind a call.
abbrev pub called : Call → Seen → Seen
called (LendsAgain number) p =
    with_these p (where_some (only is_lendable (numbered number p.connections)) (lent_again number Full p.connections) p.connections)
called (LendsNew key size) p = moved (Opens key size) p
called (Uses lease client) p =
    with_these p (where_some (lent_to lease p.connections) (with_client lease.number client p.connections) p.connections)
called (Carries number client) p =
    with_these p (where_some (carried number p.connections) (with_client number client p.connections) p.connections)
called (Moves number packet) p = with_these p (carries number packet p.connections)
called (Keeps lease) p =
    with_these p (where_some (refuses_keep (lent_to lease p.connections)) p.connections (at_place lease.number Kept p.connections))
called (Resumes ticket) p =
    with_these p (where_some (refuses_resume (kept_for ticket p.connections)) p.connections (lent_again ticket.number KeepTransaction p.connections))
called (GivesBack lease) p = with_these p (given_back lease p.connections).connections
called (Abandons ticket) p = with_these p (abandoned ticket p.connections).connections
called (TakesBack number) p = with_these p (taken_back number p.connections).connections
called (LooksAtDrained number) p = with_these p (drained number p.connections).connections
called (Loses number) p = with_these p (taken_out number p.connections)
called (Closes number) p = with_these p (closed number p.connections)
called (Cleans number request) p =
    with_these p (where_some (refuses_clean (free_one number p.connections)) p.connections (cleaning number request p.connections))
called (CleansNot number refusal) p =
    with_these p (where_some (free_one number p.connections) (not_cleaned refusal number p.connections) p.connections)
called (LooksAtCleaned number) p = with_these p (cleaned number p.connections).connections

-- ---- While it is being cleaned

abbrev pub is_cleaned : Option Connection → Bool
is_cleaned None = false
is_cleaned (Some c) = is_cleaning c.place

-- The pool behind some calls, up to the first behind which the connection of this number isn't being cleaned any more.
abbrev pub while_cleaned : ℕ → List Call → Seen → Seen
while_cleaned number [] p = p
while_cleaned number (call ∷ calls) p =
    if is_cleaned (numbered number p.connections) then while_cleaned number calls (called call p) else p

-- A connection whose cleaning began with this client: no call but `send` and `take` has touched its client, so no cancel has.
-- And where it isn't being cleaned any more, it is free, its reset was done, and it is idle and in no transaction.
pub record IsBehind (start : ClientSession) (c : Connection) : Type 0 where
  pub packets : List Packet
  pub asked : c.client ≡ behind_packets packets start
  pub clean : is_cleaning c.place ≡ false → (c.place ≡ Free) × (is_clean c.client ≡ true) × (is_idle c.client.stage ≡ true)

-- Whether an attention is out.
abbrev pub is_cancelling : Stage → Bool
is_cancelling Cancelling = true
is_cancelling _ = false

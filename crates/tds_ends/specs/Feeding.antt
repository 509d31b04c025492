-- What comes to an end: packets, one behind the other, and the beginning of the next one. What the end makes of
-- them is what its core makes of each, in order.
use Rattle.std.specs.Prelude.{ℕ, ◌≡◌, ◌≢◌, ◌⊎◌, List, [], ◌∷◌, ◌++◌, flat_map, Option, Some, None, Result, Ok, Err}
use Rattle.std.specs.List.{AllByRecursion}
use Rattle.tds_client.specs.declared.fault.ClientFault.{ClientFault}
use Rattle.tds_client.specs.declared.state.Taken.{Taken}
use Rattle.tds_client.specs.declared.state.Taken.TheVariants as took
use Rattle.tds_client.specs.Session.{ClientSession}
use Rattle.tds_client.specs.Taking as client
use Rattle.tds_packet.specs.declared.header.Header.{Header}
use Rattle.tds_packet.specs.Layout.{IsPacket, bits_of, has_bit}
use Rattle.tds_packet.specs.Reading.{Reading}
use Rattle.tds_packet.specs.Stream.{IsLess}
use Rattle.tds_server.specs.declared.fault.ServerFault.{ServerFault}
use Rattle.tds_server.specs.declared.outcome.ServerTook.{ServerTook}
use Rattle.tds_server.specs.State.{ServerState}
use Rattle.tds_server.specs.Taking as server
use Rattle.tds_session.specs.Answer.{Answers}
use Rattle.tds_token.specs.declared.token.Token.{Token}
use Rattle.tds_world.specs.declared.report.RequestStatus.{RequestStatus}
use Rattle.tds_world.specs.declared.report.RequestStatus.TheVariants as status

-- A packet that comes: its bytes, and what they are.
pub record Coming : Type 0 where
  pub bytes : List ℕ
  pub header : Header
  pub content : List ℕ

-- It is one that this reader reads.
abbrev pub IsComing : Reading → Coming → Type 0
IsComing r p = IsPacket r.direction r.size p.bytes p.header p.content

-- A packet begins with these bytes, and has more.
abbrev pub IsBegun : Reading → List ℕ → Type 0
IsBegun r front =
    (front ≡ []) ⊎ ((p : Coming) × (more : List ℕ) × (more ≢ []) × IsComing r p × (p.bytes ≡ front ++ more))

abbrev pub bytes_of : List Coming → List ℕ
bytes_of packets = flat_map (λ p. p.bytes) packets

-- The bytes are these packets, and then less than one.
pub record Comes (r : Reading) (bytes : List ℕ) (packets : List Coming) (rest : List ℕ) : Type 0 where
  pub each : AllByRecursion (IsComing r) packets
  pub begun : IsBegun r rest
  pub joined : bytes ≡ bytes_of packets ++ rest

-- The bytes are these packets, and then a rest that no packet begins: less than one, or a header with a
-- fault and what is behind it.
pub record Spells (r : Reading) (bytes : List ℕ) (packets : List Coming) (rest : List ℕ) : Type 0 where
  pub each : AllByRecursion (IsComing r) packets
  pub less : IsLess r rest
  pub joined : bytes ≡ bytes_of packets ++ rest

-- ---- At the server

-- The server, and all that it appended.
pub record Served (E : Type 0) : Type 0 where
  pub state : ServerState E
  pub reply : List ℕ

-- The server is that one, and so much has been appended.
abbrev pub IsServed : {E : Type 0} → ServerState E → List ℕ → Served E → Type 0
IsServed s reply then = (s ≡ then.state) × (reply ≡ then.reply)

abbrev pub unless_refused : {A : Type 0} → Result ServerTook ServerFault → Option A → Option A
unless_refused (Ok took) next = next
unless_refused (Err fault) next = None

-- The server takes the packets, one after the other. None, if it refuses one.
abbrev pub served : {E : Type 0} → Answers → ServerState E → List ℕ → List Coming → Option (Served E)
served answers s reply [] = Some (record { state = s; reply = reply })
served answers s reply (p ∷ ps) =
    unless_refused (server.taken answers s p.header p.content).answer
    (served answers (server.taken answers s p.header p.content).state (reply ++ (server.taken answers s p.header p.content).reply) ps)

-- ---- At the client

-- The client, what became of its request if that was settled, and all that its caller was told.
pub record Listened : Type 0 where
  pub session : ClientSession
  pub settled : Option RequestStatus
  pub told : List Token

-- The client is that one, that has become of its request, and so much has been told.
abbrev pub IsListened : ClientSession → Option RequestStatus → List Token → Listened → Type 0
IsListened s settled told then = (s ≡ then.session) × (settled ≡ then.settled) × (told ≡ then.told)

-- What a packet settles.
abbrev pub settled_by : Taken → Option RequestStatus → Option RequestStatus
settled_by took.More before = before
settled_by took.Finished before = Some status.Finished
settled_by took.Acknowledged before = Some status.Acknowledged
settled_by took.NoMemory before = before

abbrev pub on_taken : {A : Type 0} → Result client.ClientMove ClientFault → (client.ClientMove → Option A) → Option A
on_taken (Ok t) next = next t
on_taken (Err fault) next = None

-- The client takes the packets, one after the other. None, if it refuses one.
abbrev pub listened : ClientSession → Option RequestStatus → List Token → List Coming → Option Listened
listened s settled told [] = Some (record { session = s; settled = settled; told = told })
listened s settled told (p ∷ ps) =
    on_taken (client.taken s (has_bit (bits_of p.header.status) 1) p.content)
    (λ t. listened t.session (settled_by t.answer settled) (told ++ t.tokens) ps)

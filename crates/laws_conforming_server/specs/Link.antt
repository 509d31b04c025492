-- A connection with such a server at its other end: what is on its way, and what happens, one thing after the other.
use Rattle.std.specs.Prelude.{◌≡◌, ℕ, Bool, true, false, List, [], ◌∷◌, ◌++◌, Option, None, if◌then◌else◌}
use Rattle.tds_packet.specs.declared.status.Reset.{Reset}
use Rattle.tds_service.specs.Parts as parts
use Rattle.tds_service.specs.Parts.{Item, Close}
use Rattle.tds_service.specs.Line as line
use Rattle.tds_service.specs.Line.{Act, Answer, Packet, OfRequest, Ignore, Attention}
use Rattle.tds_service.specs.History.{Done}
use Rattle.laws_conforming_server.specs.Lawful.{Session, ServerStep, Says, Ends, Breaks, AnyServer}

-- ---- The server

-- Its session, the reset that the request which comes asks for, and what it has still to say.
pub record Server (V T : Type 0) : Type 0 where
  pub session : Session V
  pub reset : Option Reset
  pub due : List (ServerStep V T)

-- The request that was asked last, and the transaction that its header names.
pub record Asking : Type 0 where
  pub request : ℕ
  pub named : ℕ

-- A packet on its way, and for which request it went out.
pub record PacketUp : Type 0 where
  pub asking : Asking
  pub packet : Packet

-- A request is run as soon as its last packet is there, with the reset that its first one asks for (MS-TDS 2.2.3.1.2).
abbrev pub server_reads : {V T : Type 0} → AnyServer V T → Server V T → (request named : ℕ) → Option Reset → Bool → Server V T
server_reads engine server request named reset false = record { session = server.session; reset = reset; due = server.due }
server_reads engine server request named reset true =
    record { session = server.session; reset = None; due = engine.answers request server.session reset named }

-- A request that is to be ignored is forgotten (2.2.3.1.2). An attention stops the answer (2.2.1.7).
abbrev pub takes : {V T : Type 0} → AnyServer V T → Server V T → Asking → Packet → Server V T
takes engine server asking (OfRequest request first reset last) =
    server_reads engine server request asking.named (if first then reset else server.reset) last
takes engine server asking (Ignore request) = record { session = server.session; reset = None; due = server.due }
takes engine server asking Attention =
    record { session = server.session; reset = None; due = engine.stops asking.request server.session }

-- One message after the other: a request waits for the end of the answer before it, an attention doesn't.
abbrev pub MayTake : {V T : Type 0} → Packet → List (ServerStep V T) → Type 0
MayTake (OfRequest request first reset last) due = due ≡ []
MayTake (Ignore request) due = due ≡ []
MayTake Attention due = Unit {0}

abbrev pub session_behind : {V T : Type 0} → Session V → ServerStep V T → Session V
session_behind s (Says item after) = after
session_behind s Ends = s
session_behind s Breaks = s

-- ---- The connection

-- What went out and wasn't taken yet; the server; what it said and hasn't come yet; and the request that was asked last.
pub record Link (V T : Type 0) : Type 0 where
  pub up : List PacketUp
  pub server : Server V T
  pub down : List (ServerStep V T)
  pub asking : Asking

-- Behind a login.
abbrev pub new_link : {V T : Type 0} → AnyServer V T → Link V T
new_link engine = record {
  up = [];
  server = record { session = record { transaction = 0; settings = engine.settings }; reset = None; due = [] };
  down = [];
  asking = record { request = 0; named = 0 };
}

-- Something is done at the service's end; the server takes the next packet; or it says the next thing.
pub data Move (T : Type 0) : Type 0 where
  Here : (done : Done T) → Move T
  Takes : Move T
  Speaks : Move T

-- ---- What comes at the service's end is what is on its way, in order

abbrev pub IsEnd : {V T : Type 0} → Close → List (ServerStep V T) → Type 0
IsEnd parts.Goes down = Unit {0}
IsEnd parts.Ends (Ends ∷ down) = Unit {0}
IsEnd parts.Cut (Breaks ∷ down) = Unit {0}
IsEnd close down = ⊥

abbrev pub IsNext : {V T : Type 0} → List (Item T) → Close → List (ServerStep V T) → Type 0
IsNext [] close down = IsEnd close down
IsNext (item ∷ items) close (Says said after ∷ down) = (item ≡ said) × IsNext items close down
IsNext (item ∷ items) close down = ⊥

abbrev pub without_end : {V T : Type 0} → Close → List (ServerStep V T) → List (ServerStep V T)
without_end parts.Goes down = down
without_end close [] = []
without_end close (step ∷ down) = down

abbrev pub without : {V T : Type 0} → List (Item T) → Close → List (ServerStep V T) → List (ServerStep V T)
without [] close down = without_end close down
without (item ∷ items) close [] = []
without (item ∷ items) close (step ∷ down) = without items close down

abbrev pub HasSome : {V T : Type 0} → List (ServerStep V T) → Type 0
HasSome [] = ⊥
HasSome (step ∷ steps) = Unit {0}

-- A part without a token and without an end is the front of a token, which is on its way or is being said.
abbrev pub Comes : {V T : Type 0} → Act T → List (ServerStep V T) → List (ServerStep V T) → Type 0
Comes (line.Come part) down due = HasSome (down ++ due) × IsNext part.items part.close down
Comes act down due = Unit {0}

abbrev pub behind_act : {V T : Type 0} → Act T → List (ServerStep V T) → List (ServerStep V T)
behind_act (line.Come part) down = without part.items part.close down
behind_act act down = down

-- ---- Moves

abbrev pub asking_by : Asking → Answer → Asking
asking_by asking (line.Asked request named) = record { request = request; named = named }
asking_by asking answer = asking

abbrev pub ups : Asking → List Packet → List PacketUp
ups asking [] = []
ups asking (packet ∷ packets) = (record { asking = asking; packet = packet }) ∷ ups asking packets

abbrev pub done_here : {V T : Type 0} → Link V T → Done T → Link V T
done_here link d = record {
  up = link.up ++ ups link.asking d.sent;
  server = link.server;
  down = behind_act d.act link.down;
  asking = asking_by link.asking d.answer;
}

abbrev pub taken : {V T : Type 0} → AnyServer V T → Link V T → List PacketUp → Link V T
taken engine link [] = link
taken engine link (next ∷ others) =
    record { up = others; server = takes engine link.server next.asking next.packet; down = link.down; asking = link.asking }

abbrev pub spoken : {V T : Type 0} → Link V T → List (ServerStep V T) → Link V T
spoken link [] = link
spoken link (step ∷ due) = record {
  up = link.up;
  server = record { session = session_behind link.server.session step; reset = link.server.reset; due = due };
  down = link.down ++ step ∷ [];
  asking = link.asking;
}

abbrev pub goes : {V T : Type 0} → AnyServer V T → Link V T → Move T → Link V T
goes engine link (Here d) = done_here link d
goes engine link Takes = taken engine link link.up
goes engine link Speaks = spoken link link.server.due

abbrev pub TakesNext : {V T : Type 0} → List PacketUp → List (ServerStep V T) → Type 0
TakesNext [] due = ⊥
TakesNext (next ∷ others) due = MayTake next.packet due

abbrev pub May : {V T : Type 0} → Link V T → Move T → Type 0
May link (Here d) = Comes d.act link.down link.server.due
May link Takes = TakesNext link.up link.server.due
May link Speaks = HasSome link.server.due

-- ---- Runs

abbrev pub Runs : {V T : Type 0} → AnyServer V T → Link V T → List (Move T) → Type 0
Runs engine link [] = Unit {0}
Runs engine link (move ∷ moves) = May link move × Runs engine (goes engine link move) moves

abbrev pub link_after : {V T : Type 0} → AnyServer V T → Link V T → List (Move T) → Link V T
link_after engine link [] = link
link_after engine link (move ∷ moves) = link_after engine (goes engine link move) moves

abbrev pub here : {T : Type 0} → List (Move T) → List (Done T)
here [] = []
here (Here d ∷ moves) = d ∷ here moves
here (Takes ∷ moves) = here moves
here (Speaks ∷ moves) = here moves

-- What was done on a connection, and came there, is that of a run of this server from its login: at every moment only what it had
-- said by then had come.
pub record IsRun {V T : Type 0} (engine : AnyServer V T) (moves : List (Move T)) (ds : List (Done T)) : Type 0 where
  pub ours : here moves ≡ ds
  pub runs : Runs engine (new_link engine) moves

-- A server of one's own, beside the one of a connection that others had before: what it would answer.
use Rattle.std.specs.Prelude.{◌≡◌, ℕ, ◌==◌, true, false, List, [], ◌∷◌, ◌++◌, length, nat_lt, Option, Some, None, if◌then◌else◌}
use Rattle.tds_packet.specs.declared.status.Reset.{Reset}
use Rattle.tds_client.specs.declared.sign.Sign.{Sign}
use Rattle.tds_client.specs.declared.sign.Sign.TheVariants as signs
use Rattle.tds_service.specs.Line.{Act, Answer, Mark, Marked, Packet, OfRequest, Ignore, Attention}
use Rattle.laws_conforming_server.specs.Lawful.{Session, ServerStep, Says, Ends, Breaks, AnyServer, reset_by, reset_left}
use Rattle.laws_conforming_server.specs.Link.{Asking, PacketUp, Link, Move, Here, Takes, Speaks, goes, new_link, session_behind}
use Rattle.laws_conforming_server.specs.Starting.{owed_here, owed_next}
use Rattle.laws_conforming_server.specs.Answering.{or_later}

-- ---- What is answered behind a reset

abbrev pub IsChange : Sign → Type 0
IsChange signs.Nothing = ⊥
IsChange (signs.Change change) = Unit {0}
IsChange (signs.Done kind status) = ⊥

-- What a reset leaves of a session, or where it is done that session.
abbrev pub left_of_session : {V : Type 0} → V → Option Reset → Session V → Session V
left_of_session settings None s = s
left_of_session settings (Some reset) s = reset_by settings reset s

-- Changes alone, of which one is the reset's end. None changes what it leaves.
abbrev pub DoesReset : {V T : Type 0} → V → Option Reset → Session V → List (ServerStep V T) → Type 0
DoesReset settings reset s [] = reset ≡ None
DoesReset settings reset s (Says item after ∷ steps) =
    IsChange item.sign × (left_of_session settings reset after ≡ left_of_session settings reset s) × DoesReset settings (reset_left reset item.sign) after steps
DoesReset settings reset s (Ends ∷ steps) = ⊥
DoesReset settings reset s (Breaks ∷ steps) = ⊥

-- A request that asks for a reset is answered by that, and then as without one in the session that it leaves (MS-TDS 2.2.3.1.2).
pub record ResetsFirst {V T : Type 0} (engine : AnyServer V T) : Type 0 where
  pub resets : (request : ℕ) (s : Session V) (reset : Reset) (named : ℕ) → List (ServerStep V T)
  pub does : (request : ℕ) (s : Session V) (reset : Reset) (named : ℕ)
      → DoesReset engine.settings (Some reset) s (resets request s reset named)
  pub answers : (request : ℕ) (s : Session V) (reset : Reset) (named : ℕ)
      → engine.answers request s (Some reset) named
      ≡ resets request s reset named ++ engine.answers request (reset_by engine.settings reset s) None named

-- ---- A server of one's own

-- Its session, and what it has still to say. Nobody asks it for a reset.
pub record Own (V T : Type 0) : Type 0 where
  pub session : Session V
  pub due : List (ServerStep V T)

-- A mark is set where a lease begins: then it is a new one, or one in the transaction that is kept, without settings.
abbrev pub own_here : {V T : Type 0} → V → Option Reset → Session V → Act T → Answer → Own V T → Own V T
own_here settings owed s (Mark reset) Marked own = record { session = left_of_session settings owed s; due = [] }
own_here settings owed s act answer own = own

-- It takes the same packets, and answers in its own session, whose transaction their header names. An attention before the reset is
-- done stops all there: the request doesn't run.
abbrev pub own_takes : {V T : Type 0} → AnyServer V T → Option Reset → Asking → Packet → Own V T → Own V T
own_takes engine owed asking (OfRequest request first reset true) own =
    record { session = own.session; due = engine.answers request own.session None own.session.transaction }
own_takes engine owed asking (OfRequest request first reset false) own = own
own_takes engine owed asking (Ignore request) own = own
own_takes engine None asking Attention own = record { session = own.session; due = engine.stops asking.request own.session }
own_takes engine (Some reset) asking Attention own = record { session = own.session; due = [] }

abbrev pub own_taken : {V T : Type 0} → AnyServer V T → Option Reset → List PacketUp → Own V T → Own V T
own_taken engine owed [] own = own
own_taken engine owed (next ∷ others) own = own_takes engine owed next.asking next.packet own

abbrev pub own_says : {V T : Type 0} → Session V → List (ServerStep V T) → Own V T
own_says s [] = record { session = s; due = [] }
own_says s (step ∷ due) = record { session = session_behind s step; due = due }

-- While a reset is owed it waits; a transaction that is to be kept may be rolled back meanwhile, there as here. Then it says as much:
-- the next thing, but where more is due here than there, which tells of the reset.
abbrev pub own_speaks : {V T : Type 0} → V → Option Reset → Session V → List (ServerStep V T) → Own V T → Own V T
own_speaks settings owed s [] own = own
own_speaks settings (Some reset) s (step ∷ due) own = record { session = reset_by settings reset (session_behind s step); due = own.due }
own_speaks settings None s (step ∷ due) own = if nat_lt (length own.due) (length (step ∷ due)) then own else own_says own.session own.due

-- ---- Beside the other one

-- A connection, the reset that is owed there, and the server of one's own.
pub record Beside (V T : Type 0) : Type 0 where
  pub link : Link V T
  pub owed : Option Reset
  pub own : Own V T

-- Behind a login both are the same.
abbrev pub new_beside : {V T : Type 0} → AnyServer V T → Beside V T
new_beside engine =
    record { link = new_link engine; owed = None; own = record { session = (new_link engine).server.session; due = [] } }

abbrev pub goes_beside : {V T : Type 0} → AnyServer V T → Beside V T → Move T → Beside V T
goes_beside engine b (Here d) = record {
  link = goes engine b.link (Here d);
  owed = owed_here b.owed d.act d.answer;
  own = own_here engine.settings (owed_here b.owed d.act d.answer) b.link.server.session d.act d.answer b.own;
}
goes_beside engine b Takes =
    record { link = goes engine b.link Takes; owed = b.owed; own = own_taken engine b.owed b.link.up b.own }
goes_beside engine b Speaks = record {
  link = goes engine b.link Speaks;
  owed = owed_next b.owed b.link.server.due;
  own = own_speaks engine.settings b.owed b.link.server.session b.link.server.due b.own;
}

abbrev pub beside_after : {V T : Type 0} → AnyServer V T → Beside V T → List (Move T) → Beside V T
beside_after engine b [] = b
beside_after engine b (move ∷ moves) = beside_after engine (goes_beside engine b move) moves

-- Its session is the one of the other server, or where a reset is owed what that leaves; and what it has still to say is the end of
-- what the other one has.
pub record IsBeside {V T : Type 0} (settings : V) (b : Beside V T) : Type 0 where
  pub session : b.own.session ≡ left_of_session settings b.owed b.link.server.session
  pub before : List (ServerStep V T)
  pub due : b.link.server.due ≡ before ++ b.own.due

-- ---- What it answers

abbrev pub alone_by : {V T : Type 0} → AnyServer V T → Option Reset → ℕ → Asking → Packet → Own V T → Option (List (ServerStep V T))
alone_by engine owed r asking (OfRequest request first reset true) own =
    if request == r then Some (own_takes engine owed asking (OfRequest request first reset true) own).due else None
alone_by engine owed r asking packet own = None

abbrev pub alone_now : {V T : Type 0} → AnyServer V T → Option Reset → ℕ → List PacketUp → Own V T → Option (List (ServerStep V T))
alone_now engine owed r [] own = None
alone_now engine owed r (next ∷ others) own = alone_by engine owed r next.asking next.packet own

-- What is due there where the last packet of this request is taken. Nothing, where it isn't taken in this run.
abbrev pub answered_alone : {V T : Type 0} → AnyServer V T → Beside V T → ℕ → List (Move T) → List (ServerStep V T)
answered_alone engine b r [] = []
answered_alone engine b r (Here d ∷ moves) = answered_alone engine (goes_beside engine b (Here d)) r moves
answered_alone engine b r (Takes ∷ moves) = or_later (alone_now engine b.owed r b.link.up b.own) (answered_alone engine (goes_beside engine b Takes) r moves)
answered_alone engine b r (Speaks ∷ moves) = answered_alone engine (goes_beside engine b Speaks) r moves

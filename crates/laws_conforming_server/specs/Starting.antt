-- What a request finds where a reset is owed.
use Rattle.std.specs.Prelude.{◌≡◌, ℕ, ◌⊎◌, true, List, [], ◌∷◌, Option, Some, None, if◌then◌else◌}
use Rattle.tds_packet.specs.declared.status.Reset.{Reset}
use Rattle.tds_packet.specs.Resets.{strongest}
use Rattle.tds_service.specs.Line.{Act, Answer, Mark, Marked, Packet, OfRequest}
use Rattle.tds_service.specs.Service as service
use Rattle.tds_service.specs.Service.{Service}
use Rattle.laws_conforming_server.specs.Lawful.{Session, ServerStep, Says, Ends, Breaks, AnyServer, Leads, LeadsOut, reset_left}
use Rattle.laws_conforming_server.specs.Link.{Server, PacketUp, Link, Move, Here, Takes, Speaks, goes}

-- A reset is owed from where it is marked up to where the server says its end. Of two the stronger one is.
abbrev pub owed_here : {T : Type 0} → Option Reset → Act T → Answer → Option Reset
owed_here owed (Mark reset) Marked = strongest (Some reset) owed
owed_here owed act answer = owed

abbrev pub owed_by_step : {V T : Type 0} → Option Reset → ServerStep V T → Option Reset
owed_by_step owed (Says item after) = reset_left owed item.sign
owed_by_step owed Ends = owed
owed_by_step owed Breaks = owed

abbrev pub owed_next : {V T : Type 0} → Option Reset → List (ServerStep V T) → Option Reset
owed_next owed [] = owed
owed_next owed (step ∷ due) = owed_by_step owed step

-- A request that the server runs asks for the reset that is owed.
abbrev pub RunsAsOwed : {V T : Type 0} → Option Reset → Server V T → Packet → Type 0
RunsAsOwed owed server (OfRequest request first reset true) = (if first then reset else server.reset) ≡ owed
RunsAsOwed owed server packet = Unit {0}

abbrev pub NextAsOwed : {V T : Type 0} → Option Reset → Server V T → List PacketUp → Type 0
NextAsOwed owed server [] = Unit {0}
NextAsOwed owed server (next ∷ others) = RunsAsOwed owed server next.packet

-- Where one is owed nothing is run before it is done: the session is left as it is, but that its transaction may be rolled back,
-- until it is what that reset makes of it. So the first that is run finds what is set anew, and no transaction, or the one kept.
abbrev pub SaidAsOwed : {V T : Type 0} → V → Option Reset → Session V → List (ServerStep V T) → Type 0
SaidAsOwed settings (Some reset) s (Says item after ∷ due) = Leads settings (Some reset) s item.sign after ⊎ LeadsOut s item.sign after
SaidAsOwed settings owed s due = Unit {0}

-- So it is along these moves; where the connection is lost among them, also after that.
abbrev pub StartsFresh : {V T : Type 0} → AnyServer V T → Option Reset → Link V T → List (Move T) → Type 0
StartsFresh engine owed link [] = Unit {0}
StartsFresh engine owed link (Here d ∷ moves) = StartsFresh engine (owed_here owed d.act d.answer) (goes engine link (Here d)) moves
StartsFresh engine owed link (Takes ∷ moves) = NextAsOwed owed link.server link.up × StartsFresh engine owed (goes engine link Takes) moves
StartsFresh engine owed link (Speaks ∷ moves) =
    SaidAsOwed engine.settings owed link.server.session link.server.due
    × StartsFresh engine (owed_next owed link.server.due) (goes engine link Speaks) moves

-- ---- What is left behind

-- The reset that is owed behind these moves.
abbrev pub owed_after : {V T : Type 0} → AnyServer V T → Option Reset → Link V T → List (Move T) → Option Reset
owed_after engine owed link [] = owed
owed_after engine owed link (Here d ∷ moves) = owed_after engine (owed_here owed d.act d.answer) (goes engine link (Here d)) moves
owed_after engine owed link (Takes ∷ moves) = owed_after engine owed (goes engine link Takes) moves
owed_after engine owed link (Speaks ∷ moves) = owed_after engine (owed_next owed link.server.due) (goes engine link Speaks) moves

-- The server has done the reset that was marked last, and is in no transaction.
pub record IsLeftClean {V T : Type 0} (owed : Option Reset) (link : Link V T) : Type 0 where
  pub reset : owed ≡ None
  pub transaction : link.server.session.transaction ≡ 0

-- What a table answers where it is told that a cleaning is over.
abbrev pub cleaning_over : (T : Type 0) → Service → ℕ → service.ServiceStep T
cleaning_over T s lease = service.step s (service.Cleaned lease)

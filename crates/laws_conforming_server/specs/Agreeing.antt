-- Where both ends of a connection agree.
use Rattle.std.specs.Prelude.{◌≡◌, true, List, [], ◌∷◌, if◌then◌else◌}
use Rattle.tds_packet.specs.Resets.{header_descriptor}
use Rattle.tds_service.specs.Line.{Line, Packet, OfRequest}
use Rattle.laws_conforming_server.specs.Lawful.{AnyServer}
use Rattle.laws_conforming_server.specs.Link.{Asking, Server, PacketUp, Link, Move, Here, Takes, Speaks, goes}

-- Nothing is on its way, in neither direction, the server has nothing to say, and both ends are in one transaction, or in none.
pub record IsQuiet {V T : Type 0} (l : Line) (link : Link V T) : Type 0 where
  pub up : link.up ≡ []
  pub down : link.down ≡ []
  pub due : link.server.due ≡ []
  pub transaction : l.heard.descriptor ≡ link.server.session.transaction

-- The packet of a request that makes it whole names the transaction in which the server is then, or none under a full reset, which
-- ends that transaction first; and so did the answer by which it was asked.
abbrev pub RunsInNamed : {V T : Type 0} → Server V T → Asking → Packet → Type 0
RunsInNamed server asking (OfRequest request first reset true) =
    (asking.request ≡ request) × (asking.named ≡ header_descriptor (if first then reset else server.reset) server.session.transaction)
RunsInNamed server asking packet = Unit {0}

abbrev pub NextInNamed : {V T : Type 0} → Server V T → List PacketUp → Type 0
NextInNamed server [] = Unit {0}
NextInNamed server (next ∷ others) = RunsInNamed server next.asking next.packet

-- So it is of each request that the server takes, also behind a loss of the connection.
abbrev pub AllInNamed : {V T : Type 0} → AnyServer V T → Link V T → List (Move T) → Type 0
AllInNamed engine link [] = Unit {0}
AllInNamed engine link (Here d ∷ moves) = AllInNamed engine (goes engine link (Here d)) moves
AllInNamed engine link (Takes ∷ moves) = NextInNamed link.server link.up × AllInNamed engine (goes engine link Takes) moves
AllInNamed engine link (Speaks ∷ moves) = AllInNamed engine (goes engine link Speaks) moves

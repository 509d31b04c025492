-- How long the packets are that go out: those of one connection, and those of a table.
use Rattle.std.specs.Prelude.{◌≡◌, ℕ, List, [], ◌∷◌}
use Rattle.tds_packet.specs.Size.{IsPacketSize}
use Rattle.tds_service.specs.declared.connection.Connection.{Connection}
use Rattle.tds_service.specs.declared.seat.Seat as seats
use Rattle.tds_service.specs.declared.service.Service as services

-- A connection's packets are of this size, which one may have.
pub record Sized (size : ℕ) (c : Connection) : Type 0 where
  pub may : IsPacketSize size
  pub is : c.client.size ≡ size

-- The packet sizes of these connections.
abbrev pub sizes_in : List seats.Seat → List ℕ
sizes_in [] = []
sizes_in (c ∷ cs) = c.connection.client.size ∷ sizes_in cs

abbrev pub AreAll : ℕ → List ℕ → Type 0
AreAll size [] = Unit {0}
AreAll size (n ∷ ns) = (n ≡ size) × AreAll size ns

-- The packets of each connection of a table are of this size, and those of each that is to come.
pub record AllSized (size : ℕ) (s : services.Service) : Type 0 where
  pub may : IsPacketSize size
  pub next : s.size ≡ size
  pub are : AreAll size (sizes_in s.seats.items)

-- Of whatever size they are, they stay so.
abbrev pub KeepsSize : services.Service → services.Service → Type 0
KeepsSize old new = (size : ℕ) → AllSized size old → AllSized size new

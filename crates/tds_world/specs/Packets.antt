-- The packets that wait for a server: each is as long as its header says, and fits the packet size.
use Rattle.std.specs.Prelude.{ℕ, ◌≡◌, ◌+◌, ◌≤◌, length}
use Rattle.std.specs.List.{AllByRecursion}
use Rattle.tds_world.specs.declared.event.Setup.{Setup}
use Rattle.tds_world.specs.Entries.{Packet, up_packet}
use Rattle.tds_world.specs.Laws.{OfEachConnection}
use Rattle.tds_world.specs.World.{World}

-- Its header tells its length, which is at most this size.
pub record IsSized (size : ℕ) (p : Packet) : Type 0 where
  pub counted : p.header.length ≡ 8 + length p.body
  pub fits : p.header.length ≤ size

abbrev pub PacketsFit : Setup → World → Type 0
PacketsFit setup w =
    OfEachConnection
    (λ c. AllByRecursion (λ e. IsSized setup.packet_size (up_packet e)) c.to_server.waiting) w

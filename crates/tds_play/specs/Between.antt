-- A connection of the player and its connection of the model: both ends, and what lies between them.
use Rattle.std.specs.Prelude.{ℕ, ◌+◌, ◌≡◌, ◌≤◌, List, length, take, flat_map, Option}
use Rattle.tds_packet.specs.declared.kind.Direction.TheVariants.{ToServer, ToClient}
use Rattle.tds_world.specs.Connection.{Connection}
use Rattle.tds_world.specs.Entries.{up_bytes, down_bytes}
use Rattle.tds_world.specs.Lane.{Lane, sent_bytes, underway}
use Rattle.tds_play.specs.Pipe.{Pipe, Traffic, traffic}
use Rattle.tds_ends.specs.Stands.{MatchesClient, MatchesServer}
use Rattle.tds_play.specs.declared.link.Link.{Link}
use Rattle.tds_play.specs.Seats.{Seat}

-- One direction, at the carrier and in the model: the same bytes were handed over, and as many of them
-- came, in their order; the reader at its end holds what has come of the entry that is cut; and the
-- player counts what is underway.
pub record IsLane {Entry : Type 0} (bytes : Entry → List ℕ) (t : Traffic) (lane : Lane Entry)
    (taken : List ℕ) (count : ℕ) : Type 0 where
  pub handed : t.handed ≡ sent_bytes bytes lane
  pub came : length t.came ≡ length (flat_map bytes lane.arrived) + lane.part
  pub order : t.came ≡ take (length t.came) t.handed
  pub within : lane.part ≤ length (flat_map bytes lane.waiting)
  pub left : taken ≡ take lane.part (flat_map bytes lane.waiting)
  pub counts : count ≡ underway bytes lane

-- What a connection of the player, in its seat, stands for in the model.
pub record RepresentsEnds {E S : Type 0} (link : Link E S) (seat : Seat) (pipe : Option Pipe)
    (c : Connection) : Type 0 where
  pub client : MatchesClient seat.client c
  pub server : MatchesServer link.server c
  pub up : IsLane up_bytes (traffic pipe ToServer) c.to_server link.server_reader.taken link.to_server
  pub down : IsLane down_bytes (traffic pipe ToClient) c.to_client link.client_reader.taken link.to_client

-- Attentions among the bytes of a run.
use Rattle.std.specs.Prelude.{ℕ, suc, ◌≡◌, ◌≤◌, ◌<◌, List, ◌++◌, length, Option, Some}
use Rattle.std.specs.List.{flat_map}
use Rattle.tds_packet.specs.declared.kind.Direction.TheVariants.{ToServer, ToClient}
use Rattle.tds_play.specs.Pipe.{Pipe, traffic}
use Rattle.tds_world.specs.Bounds.{acknowledgement_count, attention_count}
use Rattle.tds_world.specs.Connection.{Connection}
use Rattle.tds_world.specs.Entries.{Down, Up, down_bytes, up_bytes}
use Rattle.tds_world.specs.World.{World, numbered}

-- What was handed over to the server is the packets of these entries, and what came to the client begins with
-- the packets of those: among the first is at most one attention more than acknowledgements among the others.
pub record HasOneAttentionIn (pipe : Option Pipe) : Type 0 where
  pub up : List Up
  pub down : List Down
  pub behind : List ℕ
  pub handed : (traffic pipe ToServer).handed ≡ flat_map up_bytes up
  pub came : (traffic pipe ToClient).came ≡ flat_map down_bytes down ++ behind
  pub few : attention_count up ≤ suc (acknowledgement_count down)

-- So it is on each connection of this world.
abbrev pub HaveOneAttention : World → (ℕ → Option Pipe) → Type 0
HaveOneAttention w pipes =
    (n : ℕ) (c : Connection) → 0 < n → n ≤ length w.connections → numbered w.connections n ≡ Some c
    → HasOneAttentionIn (pipes n)

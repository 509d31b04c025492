-- What the model says of each connection, in any world, that the ends rest on.
use Rattle.std.specs.Prelude.{ℕ, ◌≡◌, ◌≤◌, true, []}
use Rattle.tds_packet.specs.Reading.{Reading}
use Rattle.tds_packet.specs.declared.kind.Direction.TheVariants.{ToServer, ToClient}
use Rattle.tds_session.specs.Answer.{Answers}
use Rattle.tds_world.specs.Arrivals.{works, to_client}
use Rattle.tds_world.specs.Connection.{Connection, is_idle, up_underway, down_underway}
use Rattle.tds_world.specs.Deliveries.{DeliversOn}
use Rattle.tds_world.specs.Newest.{WorksOnNewest}
use Rattle.tds_world.specs.Steps.{EndsIfDue}
use Rattle.tds_ends.specs.Deliveries.{AllArrive, AllHeard}

-- So many bytes can be counted.
abbrev pub IsCountable : Connection → Type 0
IsCountable c = (up_underway c ≤ 18446744073709551615) × (down_underway c ≤ 18446744073709551615)

-- Packets have this greatest size.
pub record ModelGives (E : Type 0) (answers : Answers) (size : ℕ) (c : Connection) : Type 0 where
  pub delivers : DeliversOn answers c
  pub arrive : (r : Reading) → r.direction ≡ ToServer → r.size ≡ size → AllArrive E answers r c c.to_server.waiting
  pub heard : (r : Reading) → r.direction ≡ ToClient → r.size ≡ size → AllHeard r c c.to_client.waiting
  pub ends : EndsIfDue c.due
  -- Where nobody waits for an answer, the server holds no part of a request.
  pub rests : is_idle c ≡ true → c.parts ≡ []
  pub newest : WorksOnNewest c c.due
  -- What is done and heard is the newest request's.
  pub works_past : (works c).past ≡ c.past
  pub hears_past : (n : ℕ) → (to_client n c).past ≡ c.past
  pub countable : IsCountable c

-- One direction of a connection over TCP.
use Rattle.std.specs.Prelude.{ℕ, ◌+◌, ◌-◌, ◌≤◌, length}
use Rattle.tds_play.specs.Pipe.{Traffic}
use Rattle.tds_tcp.specs.declared.flow.Flow.TheInside.{Inside}

abbrev pub traffic_in : Inside → Traffic
traffic_in f = record {
  handed = f.handed;
  came = f.came;
  send_failures = f.send_failures;
  carry_failures = f.carry_failures;
}

-- With so many bytes more, no more than 8,192 are underway.
abbrev pub HasRoom : Traffic → ℕ → Type 0
HasRoom t more = (length t.handed - length t.came) + more ≤ 8192

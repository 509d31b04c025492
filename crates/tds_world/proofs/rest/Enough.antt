-- There are counts that are enough, for a setup that a play takes.
use Rattle.std.proofs.Common.{◌≤◌, ◌-◌, ◌*◌, ◌+◌, ℕ, zero, suc, length, arith, subst, sym, Option, Some, None}
use Rattle.std.proofs.Math.Nat.{suc-mul}
use Rattle.tds_session.specs.Answer.{Answers}
use Rattle.tds_world.specs.declared.event.Setup.{Setup}
use Rattle.tds_world.specs.Arrivals.{to_server, works}
use Rattle.tds_world.specs.Bounds.{IsSetup}
use Rattle.tds_world.specs.Caller.{cancels}
use Rattle.tds_world.specs.Connection.{Connection, phase, up_underway, down_underway}
use Rattle.tds_world.specs.Phase.{Phase, Settled, Asked, Sending, Reading, Cancelling}
use Rattle.tds_world.specs.Record.{Record}
use Rattle.tds_world.specs.rest.Rest.{AreAll, AreThere, AreEnough, HoldsAll, HoldAll, times, sends_next}
use Rattle.tds_world.proofs.packets.Ranges.{packet_least}

same : (n : ℕ) → n ≤ n
same n = omega arith

all_there : (answers : Answers) (c : Connection) → AreAll answers c (up_underway c) (down_underway (to_server answers (up_underway c) c))
all_there answers c = record { up_all = same (up_underway c); down_all = same (down_underway (to_server answers (up_underway c) c)) }

grows_by : (n room : ℕ) → 1 ≤ room → n ≤ n * room
grows_by zero room h = omega arith
grows_by (suc n) room h =
    let less : n ≤ n * room = grows_by n room h in
    subst (λ x. suc n ≤ x) (sym (suc-mul n room)) (let z : suc n ≤ n * room + room = omega arith in z)

abbrev pub packets_for : Option Record → ℕ
packets_for None = 1
packets_for (Some q) = suc (length q.left)

holds : (room : ℕ) (q : Record) → 1 ≤ room → HoldsAll room (suc (length q.left)) q
holds room q h =
    let all : suc (length q.left) ≤ suc (length q.left) * room = grows_by (suc (length q.left)) room h in
    record { some = omega arith; all = (let z : length q.left ≤ suc (length q.left) * room = omega arith in z) }

pub holds_in : (room : ℕ) (p : Phase) (o : Option Record) → 1 ≤ room → HoldAll room (packets_for o) p o
holds_in room Settled o h = tt
holds_in room Asked None h = tt
holds_in room Sending None h = tt
holds_in room Asked (Some q) h = holds room q h
holds_in room Sending (Some q) h = holds room q h
holds_in room Reading o h = tt
holds_in room Cancelling o h = tt

enough : (setup : Setup) (answers : Answers) (c : Connection) → IsSetup setup → (packets up steps down : ℕ) × AreEnough (setup.packet_size - 8) answers c packets up steps down
enough setup answers c h =
    let room : ℕ = setup.packet_size - 8 in
    let some : 512 ≤ setup.packet_size = packet_least setup h in
    let sent : Connection = times (packets_for c.current) (sends_next room) c in
    let come : Connection = to_server answers (up_underway sent) sent in
    let worked : Connection = times (length come.due) works come in (
      packets_for c.current,
      up_underway sent,
      length come.due,
      down_underway worked,
      record {
        packets_all = holds_in room (phase c) c.current (let z : 1 ≤ room = omega arith in z);
        up_all = same (up_underway sent);
        steps_all = same (length come.due);
        down_all = same (down_underway worked);
      },
    )

pub enough_there : (setup : Setup) (answers : Answers) (c : Connection) → IsSetup setup → AreThere setup answers c
enough_there setup answers c h = record {
  all = (up_underway (cancels c), down_underway (to_server answers (up_underway (cancels c)) (cancels c)), all_there answers (cancels c));
  enough = enough setup answers c h;
}

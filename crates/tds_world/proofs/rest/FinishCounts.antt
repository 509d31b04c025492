-- From some count on, so many packets, bytes and steps are enough.
use Rattle.std.proofs.Common.{◌≡◌, ◌≤◌, ◌+◌, ◌-◌, ◌*◌, ℕ, zero, suc, List, [], ◌∷◌, length, min, refl, sym, ap, subst, ◌∙◌, arith, Option, Some, None}
use Rattle.std.proofs.Math.Nat.{suc-mul}
use Rattle.tds_session.specs.Answer as answer
use Rattle.tds_session.specs.Answer.{Answers}
use Rattle.tds_world.specs.declared.event.Setup.{Setup}
use Rattle.tds_world.specs.Arrivals.{reach_server, to_server, works, works_on}
use Rattle.tds_world.specs.Bounds.{IsSetup}
use Rattle.tds_world.specs.Connection.{Connection, phase, up_underway, down_underway}
use Rattle.tds_world.specs.Lawful.{Lawful}
use Rattle.tds_world.specs.Phase.{Phase, Settled, Asked, Sending, Reading, Cancelling}
use Rattle.tds_world.specs.Record.{Record}
use Rattle.tds_world.specs.rest.Rest.{AreEnough, HoldsAll, HoldAll, times, sends_next}
use Rattle.tds_world.proofs.packets.Ranges.{packet_least}
use Rattle.tds_world.proofs.rest.Arriving.{IsGood, server_good, Worked, all_worked}
use Rattle.tds_world.proofs.rest.Enough.{packets_for, holds_in}
use Rattle.tds_world.proofs.rest.Sending.{left_fits, sends_not, Sent, all_sent}

-- More of what changes nothing changes nothing.
still : {A : Type 0} (change : A → A) (k : ℕ) (x : A) → change x ≡ x → times k change x ≡ x
still change zero x e = refl
still change (suc k) x e = ap (λ y. times k change y) e ∙ still change k x e

and_more : {A : Type 0} (change : A → A) (n k : ℕ) (x : A) → times (n + k) change x ≡ times k change (times n change x)
and_more change zero k x = ap (λ m. times m change x) (let z : 0 + k ≡ k = omega arith in z)
and_more change (suc n) k x = ap (λ m. times m change x) (let z : suc n + k ≡ suc (n + k) = omega arith in z) ∙ and_more change n k (change x)

enough_times : {A : Type 0} (change : A → A) (least n : ℕ) (x : A) → least ≤ n → change (times least change x) ≡ times least change x → times n change x ≡ times least change x
enough_times change least n x h e =
    let sum : n ≡ least + (n - least) = omega arith in
    ap (λ m. times m change x) sum ∙ (and_more change least (n - least) x ∙ still change (n - least) (times least change x) e)

all_bytes : (answers : Answers) (n : ℕ) (c : Connection) → up_underway c ≤ n → to_server answers n c ≡ to_server answers (up_underway c) c
all_bytes answers n c h =
    let same : min n (up_underway c) ≡ min (up_underway c) (up_underway c) = omega arith in
    ap (λ k. reach_server answers c c.to_server.waiting (c.to_server.part + k)) same

nothing_due : (c : Connection) (due : List answer.Step) → due ≡ [] → works_on c due ≡ c
nothing_due c [] e = refl
nothing_due c (s ∷ ss) e = absurd (cc)

more_rooms : (least n room : ℕ) → least ≤ n → least * room ≤ n * room
more_rooms zero n room h = let z : 0 * room ≡ 0 = omega arith in omega arith
more_rooms (suc least) zero room h = absurd (omega arith)
more_rooms (suc least) (suc n) room h =
    let more : least * room ≤ n * room = more_rooms least n room (omega arith) in
    subst (λ x. x ≤ suc n * room) (sym (suc-mul least room)) (subst (λ x. least * room + room ≤ x) (sym (suc-mul n room)) (omega arith))

more_packets : (room least n : ℕ) (q : Record) → least ≤ n → HoldsAll room least q → HoldsAll room n q
more_packets room least n q h k =
    let some : 1 ≤ least = k.some in
    let all : length q.left ≤ least * room = k.all in
    let grows : least * room ≤ n * room = more_rooms least n room h in
    record { some = omega arith; all = omega arith }

more_hold : (room least n : ℕ) (p : Phase) (o : Option Record) → least ≤ n → HoldAll room least p o → HoldAll room n p o
more_hold room least n Settled o h k = tt
more_hold room least n Asked None h k = tt
more_hold room least n Sending None h k = tt
more_hold room least n Asked (Some q) h k = more_packets room least n q h k
more_hold room least n Sending (Some q) h k = more_packets room least n q h k
more_hold room least n Reading o h k = tt
more_hold room least n Cancelling o h k = tt

pub finish_counts : (setup : Setup) (answers : Answers) (c : Connection) → IsSetup setup → Lawful answers → IsGood c → (least : ℕ) × ((packets up steps down : ℕ) → least ≤ packets → least ≤ up → least ≤ steps → least ≤ down → AreEnough (setup.packet_size - 8) answers c packets up steps down)
finish_counts setup answers c s l g =
    let room : ℕ = setup.packet_size - 8 in
    let big : 512 ≤ setup.packet_size = packet_least setup s in
    let some : 1 ≤ room = omega arith in
    let enough : ℕ = packets_for c.current in
    let held : HoldAll room enough (phase c) c.current = holds_in room (phase c) c.current some in
    let sent : Connection = times enough (sends_next room) c in
    let out : Sent c sent = all_sent room enough c g (left_fits room enough (phase c) c.current refl held) in
    let come : Connection = to_server answers (up_underway sent) sent in
    let worked : Connection = times (length come.due) works come in
    let done : Worked come worked = all_worked setup answers (length come.due) come l (server_good setup answers (up_underway sent) sent l out.good) (omega arith) in (
      enough + (up_underway sent + (length come.due + down_underway worked)),
      λ packets up steps down h i j k.
          let send : times packets (sends_next room) c ≡ sent = enough_times (sends_next room) enough packets c (omega arith) (sends_not (phase sent) room sent.current sent out.nothing) in
          let up_all : up_underway sent ≤ up = omega arith in
          let comes : to_server answers up sent ≡ come = all_bytes answers up sent up_all in
          let works_all : length come.due ≤ steps = omega arith in
          let work : times steps works come ≡ worked = enough_times works (length come.due) steps come works_all (nothing_due worked worked.due done.due) in
          let down_all : down_underway worked ≤ down = omega arith in
          record {
            packets_all = more_hold room enough packets (phase c) c.current (omega arith) held;
            up_all = subst (λ d. up_underway d ≤ up) (sym send) up_all;
            steps_all = subst (λ d. length (to_server answers up d).due ≤ steps) (sym send) (subst (λ d. length d.due ≤ steps) (sym comes) works_all);
            down_all = subst (λ d. down_underway (times steps works (to_server answers up d)) ≤ down) (sym send)
                (subst (λ d. down_underway (times steps works d) ≤ down) (sym comes)
                (subst (λ d. down_underway d ≤ down) (sym work) down_all));
          },
    )

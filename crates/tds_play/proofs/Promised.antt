-- The laws of the model, put together: what it promises of each world.
use Rattle.std.proofs.Common.{◌≡◌, ◌≤◌, ◌<◌, ◌*◌, ℕ, suc, List, [], ◌∷◌, true, refl, arith}
use Rattle.std.specs.List.{AllByRecursion}
use Rattle.tds_packet.specs.Reading.{Reading}
use Rattle.tds_packet.specs.declared.kind.Direction.TheVariants.{ToServer, ToClient}
use Rattle.tds_session.specs.Answer.{Answers}
use Rattle.tds_world.specs.Connection.{Connection, phase, up_underway, down_underway}
use Rattle.tds_world.specs.limits.Counts.{AreFew}
use Rattle.tds_world.specs.Deliveries.{DeliversOn}
use Rattle.tds_world.specs.Laws.{QuietIfIdle}
use Rattle.tds_world.specs.Newest.{ActsOnNewest, WorksOnNewest}
use Rattle.tds_world.specs.Phase.{Phase, Settled, is_settled}
use Rattle.tds_world.specs.Steps.{EndsIfDue}
use Rattle.tds_world.specs.World.{World}
use Rattle.tds_ends.specs.Deliveries.{AllArrive, AllHeard}
use Rattle.tds_play.specs.Player.{IsSmall}
use Rattle.tds_ends.specs.ModelGives.{ModelGives, IsCountable}

-- ---- A connection

abbrev Arrives : Type 0 → Answers → ℕ → Connection → Type 0
Arrives E answers size c =
    ((r : Reading) → r.direction ≡ ToServer → r.size ≡ size → AllArrive E answers r c c.to_server.waiting) × (up_underway c ≤ 4094)

abbrev IsHeard : ℕ → Connection → Type 0
IsHeard size c = (r : Reading) → r.direction ≡ ToClient → r.size ≡ size → AllHeard r c c.to_client.waiting

-- A connection is idle where its phase is settled.
settled : (p : Phase) → is_settled p ≡ true → p ≡ Settled
settled Settled e = refl
settled p e = absurd (cc)

countable : (n : ℕ) (c : Connection) → n ≤ 20000 → up_underway c ≤ 4094 → down_underway c ≤ 512 * suc n → IsCountable c
countable n c few up down = (omega (arith, up), omega (arith, few, down))

promised : (E : Type 0) (answers : Answers) (size n : ℕ) (c : Connection) → n ≤ 20000 → Arrives E answers size c → IsHeard size c → DeliversOn answers c → EndsIfDue c.due → QuietIfIdle c → WorksOnNewest c c.due → ActsOnNewest c → down_underway c ≤ 512 * suc n → ModelGives E answers size c
promised E answers size n c few arrives heard delivers ends quiet newest acts down = record {
  delivers = delivers;
  arrive = arrives.0;
  heard = heard;
  ends = ends;
  rests = λ e. (quiet (settled (phase c) e)).parts;
  newest = newest;
  works_past = acts.works_past;
  hears_past = acts.hears_past;
  countable = countable n c few arrives.1 down;
}

pub each_promised : (E : Type 0) (answers : Answers) (size n : ℕ) (cs : List Connection) → n ≤ 20000 → AllByRecursion (Arrives E answers size) cs → AllByRecursion (IsHeard size) cs → AllByRecursion (DeliversOn answers) cs → AllByRecursion (λ c. EndsIfDue c.due) cs → AllByRecursion QuietIfIdle cs → AllByRecursion (λ c. WorksOnNewest c c.due) cs → AllByRecursion ActsOnNewest cs → AllByRecursion (λ c. down_underway c ≤ 512 * suc n) cs → AllByRecursion (ModelGives E answers size) cs
each_promised E answers size n [] few a h d e q w s u = tt
each_promised E answers size n (c ∷ cs) few a h d e q w s u =
    (promised E answers size n c few a.0 h.0 d.0 e.0 q.0 w.0 s.0 u.0, each_promised E answers size n cs few a.1 h.1 d.1 e.1 q.1 w.1 s.1 u.1)

-- Before an event there are few of each.
pub small : (n : ℕ) (w : World) → n < 20000 → AreFew n w → IsSmall w
small n w few h = record {
  connections = omega (arith, few, h.connections);
  leases = omega (arith, few, h.leases);
  tickets = omega (arith, few, h.tickets);
  asked = omega (arith, few, h.asked);
}

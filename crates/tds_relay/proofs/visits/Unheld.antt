-- Who stands in the line holds no connection, wherever steps led to a relay from a new one.
use Rattle.std.proofs.Common.{◌≡◌, ◌∙◌, ◌||◌, ℕ, Bool, true, false, List, ◌∷◌, None, inl, inr, sym, ap}
use Rattle.std.proofs.lemmas.Bool.{eq-eqb}
use Rattle.tds_relay.specs.Core.{Core, is_in}
use Rattle.tds_relay.specs.Fronts.{Moved}
use Rattle.tds_relay.specs.Machine.{Machine, IsLedTo}
use Rattle.tds_relay.specs.Pool.{Pool, Sharing, find_key}
use Rattle.tds_relay.specs.Queues.{Queues}
use Rattle.tds_relay.specs.Ties.{Neither}
use Rattle.tds_relay.proofs.ends.Standing.{AtPool}
use Rattle.tds_relay.proofs.held.Lists.{theirs_none}
use Rattle.tds_relay.proofs.steps.Fronts.{no_moves}
use Rattle.tds_relay.proofs.steps.Stepping.{led_on, steps_of}
use Rattle.tds_relay.proofs.visits.Parking.{at_machine, out_of}

unheld_at : (key : ℕ) (d : Pool) → AtPool key d → is_in key d.line ≡ true → find_key key d.holds ≡ None
unheld_at key d (inl one) waits = absurd (let u : true ≡ false = sym waits ∙ out_of key d.line one.its.line in let v : ⊥ = cc in v)
unheld_at key d (inr absent) waits = theirs_none key d.holds absent.none

-- behind moves from there
pub unheld_behind : (sharing : Sharing) (key : ℕ) (a b : Core) (queues : Queues) → Moved Neither a b → IsLedTo sharing (record { core = a; queues = queues }) → is_in key b.pool.line ≡ true → find_key key b.pool.holds ≡ None
unheld_behind sharing key a b queues moved led waits =
    let from : Machine = record { core = a; queues = queues } in
    let h : Machine = record { core = b; queues = queues } in
    unheld_at key b.pool (at_machine sharing key h (led_on sharing Neither from h (steps_of Neither a b queues (moved a (no_moves Neither a))) led)).1 waits

-- the first one of the line
pub first_waits : (key k : ℕ) (line ks : List ℕ) → line ≡ k ∷ ks → k ≡ key → is_in key line ≡ true
first_waits key k line ks is same = ap (is_in key) is ∙ ap (λ (b : Bool). b || is_in key ks) (eq-eqb k key same)

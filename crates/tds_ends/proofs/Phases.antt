-- What the phase of a request says of it.
use Rattle.std.proofs.Common.{◌≡◌, ℕ, true, false, refl, subst, Option, Some, None, inl, inr}
use Rattle.std.specs.Prelude.{◌⊎◌}
use Rattle.tds_client.specs.declared.fault.ClientRefusal.TheVariants as refused
use Rattle.tds_client.specs.Session.{unless_idle}
use Rattle.tds_world.specs.Phase.{Phase, Settled, Asked, Sending, Reading, Cancelling, phase_by, phase_in, phase_of, is_settled}
use Rattle.tds_world.specs.PhaseTells.{PhaseTells}
use Rattle.tds_world.specs.Record.{Record, Begun, Whole, Fate, Open}
use Rattle.tds_ends.specs.Stands.{stage_by, stage_in}

-- A client is idle exactly where its newest request is settled.
idle_by : (p : Phase) (q : Record) → ((unless_idle (stage_by p q) ≡ None) × (is_settled p ≡ true)) ⊎ ((unless_idle (stage_by p q) ≡ Some refused.NotIdle) × (is_settled p ≡ false))
idle_by Settled q = inl (refl, refl)
idle_by Asked q = inr (refl, refl)
idle_by Sending q = inr (refl, refl)
idle_by Reading q = inr (refl, refl)
idle_by Cancelling q = inr (refl, refl)

pub idle_in : (current : Option Record) → ((unless_idle (stage_in current) ≡ None) × (is_settled (phase_in current) ≡ true)) ⊎ ((unless_idle (stage_in current) ≡ Some refused.NotIdle) × (is_settled (phase_in current) ≡ false))
idle_in None = inl (refl, refl)
idle_in (Some q) = idle_by (phase_of q) q

-- ---- What a phase tells

-- What is promised of the model: the phase of a request says what became of it, and how much of it is out.
abbrev pub PhasesTell : Type 0
PhasesTell = (q : Record) → PhaseTells (phase_of q) q.fate q.out

pub told_at : PhasesTell → (p : Phase) (q : Record) → phase_of q ≡ p → PhaseTells p q.fate q.out
told_at tells p q e = subst (λ (x : Phase). PhaseTells x q.fate q.out) e (tells q)

-- One that is open goes on with its next packet.
pub record GoesOn (fate : Fate) : Type 0 where
  pub more : (n : ℕ) → phase_by fate (Begun n) ≡ Sending
  pub last : (n : ℕ) → phase_by fate (Whole n) ≡ Reading

pub goes_on : (fate : Fate) → fate ≡ Open → GoesOn fate
goes_on fate is = rw is (record { more = λ n. refl; last = λ n. refl })

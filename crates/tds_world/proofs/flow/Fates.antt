-- A request's fate: what a phase says of it, and what a step and a cancel leave of it.
use Rattle.std.proofs.Common.{◌≡◌, ℕ, Bool, true, false, refl}
use Rattle.tds_world.specs.Phase.{Phase, Settled, Asked, Sending, Reading, Cancelling, phase_by, is_settled}
use Rattle.tds_world.specs.PhaseTells.{PhaseTells}
use Rattle.tds_world.specs.Record.{Fate, Open, Finished, Cancelled, Acknowledged, is_cancelled, stepped, Out, NotBegun, Begun, Whole}

-- a request that has something to send
abbrev pub is_sending : Phase → Bool
is_sending Settled = false
is_sending Asked = true
is_sending Sending = true
is_sending Reading = false
is_sending Cancelling = false

-- Nothing more of a request will be sent, and its answer is not waited for.
abbrev pub is_stopped : Phase → Bool
is_stopped Settled = true
is_stopped Asked = false
is_stopped Sending = false
is_stopped Reading = false
is_stopped Cancelling = true

-- One that is stopped sends nothing.
pub stopped_sends_none : (p : Phase) → is_stopped p ≡ true → is_sending p ≡ false
stopped_sends_none Settled e = refl
stopped_sends_none Asked e = absurd (cc)
stopped_sends_none Sending e = absurd (cc)
stopped_sends_none Reading e = refl
stopped_sends_none Cancelling e = refl

pub cancelled_stops : (out : Out) → is_stopped (phase_by Cancelled out) ≡ true
cancelled_stops NotBegun = refl
cancelled_stops (Begun n) = refl
cancelled_stops (Whole n) = refl

-- A step leaves a request stopped.
pub step_stops : (fate : Fate) (last : Bool) (out : Out) → is_settled (phase_by fate out) ≡ false → is_stopped (phase_by fate out) ≡ true → is_stopped (phase_by (stepped last fate) out) ≡ true
step_stops Open true out b e = refl
step_stops Open false out b e = e
step_stops Finished last out b e = absurd (cc)
step_stops Cancelled last out b e = e
step_stops Acknowledged last out b e = absurd (cc)

-- Nothing makes a request that is all out send again.
pub step_leaves : (fate : Fate) (last : Bool) (out : Out) → is_settled (phase_by fate out) ≡ false → is_sending (phase_by fate out) ≡ false → is_sending (phase_by (stepped last fate) out) ≡ false
step_leaves Open true out b e = refl
step_leaves Open false out b e = e
step_leaves Finished last out b e = absurd (cc)
step_leaves Cancelled last out b e = e
step_leaves Acknowledged last out b e = absurd (cc)

pub cancelled_leaves : (out : Out) → is_sending (phase_by Cancelled out) ≡ false
cancelled_leaves NotBegun = refl
cancelled_leaves (Begun n) = refl
cancelled_leaves (Whole n) = refl

-- A step neither cancels a request nor undoes that.
pub step_cancels_none : (last : Bool) (fate : Fate) → is_cancelled (stepped last fate) ≡ is_cancelled fate
step_cancels_none true Open = refl
step_cancels_none false Open = refl
step_cancels_none true Finished = refl
step_cancels_none false Finished = refl
step_cancels_none last Cancelled = refl
step_cancels_none last Acknowledged = refl

-- ---- What is shown for the one case that a phase leaves

pub when_asked : (P : Fate → Out → Type 0) → P Open NotBegun → (fate : Fate) (out : Out) → phase_by fate out ≡ Asked → P fate out
when_asked P h Open NotBegun e = h
when_asked P h Open (Begun n) e = absurd (cc)
when_asked P h Open (Whole n) e = absurd (cc)
when_asked P h Finished out e = absurd (cc)
when_asked P h Cancelled NotBegun e = absurd (cc)
when_asked P h Cancelled (Begun n) e = absurd (cc)
when_asked P h Cancelled (Whole n) e = absurd (cc)
when_asked P h Acknowledged out e = absurd (cc)

pub when_sending : (P : Fate → Out → Type 0) → ((n : ℕ) → P Open (Begun n)) → (fate : Fate) (out : Out) → phase_by fate out ≡ Sending → P fate out
when_sending P h Open NotBegun e = absurd (cc)
when_sending P h Open (Begun n) e = h n
when_sending P h Open (Whole n) e = absurd (cc)
when_sending P h Finished out e = absurd (cc)
when_sending P h Cancelled NotBegun e = absurd (cc)
when_sending P h Cancelled (Begun n) e = absurd (cc)
when_sending P h Cancelled (Whole n) e = absurd (cc)
when_sending P h Acknowledged out e = absurd (cc)

pub when_reading : (P : Fate → Out → Type 0) → ((n : ℕ) → P Open (Whole n)) → (fate : Fate) (out : Out) → phase_by fate out ≡ Reading → P fate out
when_reading P h Open NotBegun e = absurd (cc)
when_reading P h Open (Begun n) e = absurd (cc)
when_reading P h Open (Whole n) e = h n
when_reading P h Finished out e = absurd (cc)
when_reading P h Cancelled NotBegun e = absurd (cc)
when_reading P h Cancelled (Begun n) e = absurd (cc)
when_reading P h Cancelled (Whole n) e = absurd (cc)
when_reading P h Acknowledged out e = absurd (cc)

-- Some of it is still to go out.
pub when_going : (P : Fate → Out → Type 0) → P Open NotBegun → ((n : ℕ) → P Open (Begun n)) → (fate : Fate) (out : Out) → is_sending (phase_by fate out) ≡ true → P fate out
when_going P h k Open NotBegun e = h
when_going P h k Open (Begun n) e = k n
when_going P h k Open (Whole n) e = absurd (cc)
when_going P h k Finished out e = absurd (cc)
when_going P h k Cancelled NotBegun e = absurd (cc)
when_going P h k Cancelled (Begun n) e = absurd (cc)
when_going P h k Cancelled (Whole n) e = absurd (cc)
when_going P h k Acknowledged out e = absurd (cc)

-- ---- What a phase says

pub phase_tells : (fate : Fate) (out : Out) → PhaseTells (phase_by fate out) fate out
phase_tells Open NotBegun = (refl, refl)
phase_tells Open (Begun n) = (refl, n, refl)
phase_tells Open (Whole n) = (refl, n, refl)
phase_tells Finished out = λ e. absurd (cc)
phase_tells Cancelled NotBegun = λ e. absurd (cc)
phase_tells Cancelled (Begun n) = (refl, λ e. absurd (cc))
phase_tells Cancelled (Whole n) = (refl, λ e. absurd (cc))
phase_tells Acknowledged out = λ e. absurd (cc)

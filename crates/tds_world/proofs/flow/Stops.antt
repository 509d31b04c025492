-- What an attention does to the server's session.
use Rattle.std.proofs.Common.{◌≡◌, ◌⊎◌, ℕ, List, [], ◌∷◌, inl, inr, Bool, true, false, eqb, refl, Some, arith}
use Rattle.std.proofs.lemmas.Bool.Decides.{nat_tests}
use Rattle.tds_session.specs.declared.attention.OnAttention.{OnAttention}
use Rattle.tds_session.specs.declared.attention.OnAttention.TheVariants.{Keep, RollBack}
use Rattle.tds_session.specs.Answer as answer
use Rattle.tds_session.specs.Attention.{stop_by, rolls_back}
use Rattle.tds_session.specs.Session.{SessionState, is_in_transaction}
use Rattle.tds_world.specs.Arrivals.{heard_behind, is_midway}
use Rattle.tds_world.specs.Connection.{Connection}

same : (d : ℕ) → eqb d d ≡ true
same d = grind (arith, nat_tests)

-- What the acknowledgement tells is what happens to the transaction.
pub stop_heard : (b : Bool) (s : SessionState) → heard_behind s.descriptor (stop_by b s).changes ≡ Some (stop_by b s).after.descriptor
stop_heard false s = refl
stop_heard true s = rw (same s.descriptor) refl

-- Where it is rolled back there is one, the answer is in its middle, and the server is told to.
pub in_transaction : (o : OnAttention) (midway : Bool) (s : SessionState) → rolls_back o midway s ≡ true → is_in_transaction s ≡ true
in_transaction Keep midway s e = absurd (cc)
in_transaction RollBack true s e = e
in_transaction RollBack false s e = absurd (cc)

not_midway : (o : OnAttention) (midway : Bool) (s : SessionState) → midway ≡ false → rolls_back o midway s ≡ false
not_midway Keep midway s e = refl
not_midway RollBack true s e = absurd (cc)
not_midway RollBack false s e = refl

-- Whether the attention that comes now rolls back.
abbrev pub rolls : Connection → Bool
rolls c = rolls_back c.on_attention (is_midway c.taken c.due) c.session

none_taken : (taken : ℕ) (due : List answer.Step) → taken ≡ 0 → is_midway taken due ≡ false
none_taken taken [] e = refl
none_taken taken (s ∷ ss) e = rw e refl

-- With no answer due, or no step of it taken, it doesn't.
pub rolls_nothing : (c : Connection) → (c.due ≡ []) ⊎ (c.taken ≡ 0) → rolls c ≡ false
rolls_nothing c h = elim h [
  | inl e ↦ not_midway c.on_attention _ c.session (rw e refl)
  | inr e ↦ not_midway c.on_attention _ c.session (none_taken c.taken c.due e)
]

-- What an application asks, where its request may be done.
use Rattle.std.proofs.Common.{◌≡◌, ◌≢◌, ◌⊎◌, ℕ, true, false, Option, Some, None, inl, inr, eqb, refl, sym, subst}
use Rattle.std.proofs.lemmas.Bool.Decides.{eqb_tells}
use Rattle.std.proofs.lemmas.List.{get_or-set_other}
use Rattle.slab.specs.Slab.{Slab, get, with_value}
use Rattle.tds_relay.specs.declared.application.Application.{Application}
use Rattle.tds_relay.specs.Bodies.{Body, Nowhere, Spared, body_in}
use Rattle.tds_relay.specs.Coming.{MayBeDone}
use Rattle.tds_relay.proofs.steps.Underway.{written_there}

abbrev pub MayDo : Option Application → Option Application → Type 0
MayDo old new = (goes : Body) → Spared (body_in old goes) (body_in new goes) ⊎ ((body_in old goes ≡ goes) × (body_in new goes ≡ Nowhere))

written_by : (s : Slab Application) (key : ℕ) (a b : Application) → Some a ≡ get s key → MayDo (Some a) (Some b) → (k : ℕ) → ((eqb key k ≡ true) × (key ≡ k)) ⊎ ((eqb key k ≡ false) × (key ≢ k)) → MayDo (get s k) (get (with_value s key b) k)
written_by s key a b is here k (inl (e, equal)) =
    subst (λ (n : ℕ). MayDo (get s n) (get (with_value s key b) n)) equal
    (subst (λ (o : Option Application). MayDo o (get (with_value s key b) key)) is (subst (MayDo (Some a)) (sym (written_there s key a b is)) here))
written_by s key a b is here k (inr (e, other)) =
    subst (MayDo (get s k)) (sym (get_or-set_other s.slots key k (Some b) None (λ equal. other (sym equal)))) (λ goes. inl (inl refl))

widened : (a b : Application) (goes : Body) → (body_in (Some b) goes ≡ body_in (Some a) goes) ⊎ ((body_in (Some a) goes ≡ goes) × (body_in (Some b) goes ≡ Nowhere))
    → Spared (body_in (Some a) goes) (body_in (Some b) goes) ⊎ ((body_in (Some a) goes ≡ goes) × (body_in (Some b) goes ≡ Nowhere))
widened a b goes (inl e) = inl (inl e)
widened a b goes (inr d) = inr d

pub done_kept : (s : Slab Application) (key : ℕ) (a b : Application) → Some a ≡ get s key
    → ((goes : Body) → (body_in (Some b) goes ≡ body_in (Some a) goes) ⊎ ((body_in (Some a) goes ≡ goes) × (body_in (Some b) goes ≡ Nowhere))) → MayBeDone s (with_value s key b)
done_kept s key a b is done = λ k. written_by s key a b is (λ goes. widened a b goes (done goes)) k (eqb_tells key k)

-- The body of an application's request, where applications are written back one by one.
use Rattle.std.proofs.Common.{◌≡◌, ◌≢◌, ◌⊎◌, ◌∙◌, ℕ, Bool, true, false, List, Option, Some, None, inl, inr, eqb, refl, sym, ap, subst, option_map, if◌then◌else◌}
use Rattle.std.proofs.lemmas.Bool.Decides.{eqb_tells}
use Rattle.std.proofs.lemmas.List.{get_or-set_other}
use Rattle.std.specs.Prelude.{Result, Ok, Err, OnOk}
use Rattle.tds_front.specs.declared.fault.FrontFault.{FrontFault}
use Rattle.slab.specs.Slab.{Slab, get, with_value}
use Rattle.tds_relay.specs.declared.application.Application.{Application}
use Rattle.tds_relay.specs.declared.state.Asking.{Asking}
use Rattle.tds_relay.specs.declared.state.Asking.TheVariants as asking
use Rattle.tds_relay.specs.Bodies.{AskAsBefore, AskOn, Body, Closed, Closes, Grows, Nowhere, Shuts, Spared, Starts, Stays, body_by, body_in}
use Rattle.tds_relay.specs.Fronts.{own_end, ends_in}
use Rattle.tds_relay.specs.Core.{End, EndList, Open, Over, change_end, closes, end_at}
use Rattle.tds_relay.specs.Taking.{IsDeaf}
use Rattle.tds_relay.proofs.steps.Fronts.{end_is}
use Rattle.tds_relay.proofs.steps.Told.{deaf_closed}
use Rattle.tds_relay.proofs.steps.Underway.{written_there}
use Rattle.tds_relay.specs.Places.{is_closed, own_asking, own_fault, own_held, own_reset, took_back}

-- ---- One is written back

module _ (P : Option Application → Option Application → Type 0) (same : (o : Option Application) → P o o) (s : Slab Application) (key : ℕ) (a b : Application) (is : Some a ≡ get s key) (here : P (Some a) (Some b)) where
  written_by : (k : ℕ) → ((eqb key k ≡ true) × (key ≡ k)) ⊎ ((eqb key k ≡ false) × (key ≢ k)) → P (get s k) (get (with_value s key b) k)
  written_by k (inl (e, equal)) = subst (λ (n : ℕ). P (get s n) (get (with_value s key b) n)) equal (subst (λ (o : Option Application). P o (get (with_value s key b) key)) is (subst (P (Some a)) (sym (written_there s key a b is)) here))
  written_by k (inr (e, other)) = subst (P (get s k)) (sym (get_or-set_other s.slots key k (Some b) None (λ equal. other (sym equal)))) (same (get s k))

  each_written : (k : ℕ) → P (get s k) (get (with_value s key b) k)
  each_written k = written_by k (eqb_tells key k)

-- it asks what it asked
pub asks_kept : (s : Slab Application) (key : ℕ) (a b : Application) → Some a ≡ get s key → ((goes : Body) → body_in (Some b) goes ≡ body_in (Some a) goes) → AskAsBefore s (with_value s key b)
asks_kept s key a b is same =
    let P : Option Application → Option Application → Type 0 = λ old new. (goes : Body) → body_in new goes ≡ body_in old goes in
    each_written P (λ o goes. refl) s key a b is same

-- or is to be closed
pub asks_spared : (s : Slab Application) (key : ℕ) (a b : Application) → Some a ≡ get s key → ((goes : Body) → Spared (body_in (Some a) goes) (body_in (Some b) goes)) → AskOn s (with_value s key b)
asks_spared s key a b is same =
    let P : Option Application → Option Application → Type 0 = λ old new. (goes : Body) → Spared (body_in old goes) (body_in new goes) in
    each_written P (λ o goes. inl refl) s key a b is same

pub asks_closed : (s : Slab Application) (key : ℕ) (a b : Application) → Some a ≡ get s key → is_closed b ≡ true → AskOn s (with_value s key b)
asks_closed s key a b is over =
    let shuts : (goes : Body) → body_in (Some b) goes ≡ Closed = λ goes. ap (λ (o : Bool). if o then Closed else body_by (own_asking b) (own_held b) goes) over in
    asks_spared s key a b is (λ goes. inr (shuts goes))

pub there_body : (s : Slab Application) (key : ℕ) (a : Application) (goes : Body) → Some a ≡ get s key → body_in (get s key) goes ≡ body_in (Some a) goes
there_body s key a goes is = ap (λ (o : Option Application). body_in o goes) (sym is)

pub written_body : (s : Slab Application) (key : ℕ) (a b : Application) (goes : Body) → Some a ≡ get s key → body_in (get (with_value s key b) key) goes ≡ body_in (Some b) goes
written_body s key a b goes is = ap (λ (o : Option Application). body_in o goes) (written_there s key a b is)

-- ---- One behind the other

pub asks_refl : (s : Slab Application) → AskAsBefore s s
asks_refl s key goes = refl

pub asks_then : (s t u : Slab Application) → AskAsBefore s t → AskAsBefore t u → AskAsBefore s u
asks_then s t u f g key goes = g key goes ∙ f key goes

pub spared_both : (a b c : Body) → Spared a b → Spared b c → Spared a c
spared_both a b c (inl e) (inl f) = inl (f ∙ e)
spared_both a b c (inl e) (inr shut) = inr shut
spared_both a b c (inr shut) (inl f) = inr (f ∙ shut)
spared_both a b c (inr shut) (inr again) = inr again

pub on_then : (s t u : Slab Application) → AskOn s t → AskOn t u → AskOn s u
on_then s t u f g key goes = spared_both (body_in (get s key) goes) (body_in (get t key) goes) (body_in (get u key) goes) (f key goes) (g key goes)

pub asks_on : (s t : Slab Application) → AskAsBefore s t → AskOn s t
asks_on s t f key goes = inl (f key goes)

pub kept_on : (s t u : Slab Application) → AskAsBefore s t → AskOn t u → AskOn s u
kept_on s t u f g = on_then s t u (asks_on s t f) g

pub kept_on_ok : {A E : Type 0} (r : Result A E) (s t u : Slab Application) → AskAsBefore s t → OnOk r (AskOn t u) → OnOk r (AskOn s u)
kept_on_ok (Ok x) s t u f g = kept_on s t u f g
kept_on_ok (Err e) s t u f g = tt

pub on_then_ok : {A E : Type 0} (r : Result A E) (s t u : Slab Application) → AskOn s t → OnOk r (AskOn t u) → OnOk r (AskOn s u)
on_then_ok (Ok x) s t u f g = on_then s t u f g
on_then_ok (Err e) s t u f g = tt

pub spared_starts : (a b : Body) → Spared a b → Starts a b
spared_starts a b (inl e) = subst (Starts a) (sym e) Stays
spared_starts a b (inr shut) = subst (Starts a) (sym shut) Closes

-- ---- It is to be closed

shut_by : (why : Option FrontFault) (b : Bool) (end : End) (x : Body) → IsDeaf (Some (if b then Over why else end)) → ¬ IsDeaf (Some end) → (if b then Closed else x) ≡ Closed
shut_by why true end x deaf not = refl
shut_by why false end x deaf not = absurd (not deaf)

shut_in : (o : Option Application) (goes : Body) → IsDeaf (option_map own_end o) → body_in o goes ≡ Closed
shut_in None goes deaf = refl
shut_in (Some a) goes deaf = shut_by (own_fault a) (is_closed a) (Open a.front (took_back a) (own_reset a)) (body_by (own_asking a) (own_held a) goes) deaf (λ none. none)

pub shut : (s : Slab Application) (key : ℕ) (goes : Body) → IsDeaf (end_at (ends_in s) key) → body_in (get s key) goes ≡ Closed
shut s key goes deaf = shut_in (get s key) goes (subst IsDeaf (end_is s key) deaf)

pub shut_starts : (s : Slab Application) (key : ℕ) (b goes : Body) → IsDeaf (end_at (ends_in s) key) → Starts b (body_in (get s key) goes)
shut_starts s key b goes deaf = subst (Starts b) (sym (shut s key goes deaf)) Closes

pub closed_body : (key : ℕ) (s : Slab Application) (es : EndList) (goes : Body) → ends_in s ≡ change_end key closes es → body_in (get s key) goes ≡ Closed
closed_body key s es goes e = shut s key goes (subst (λ (x : EndList). IsDeaf (end_at x key)) (sym e) (deaf_closed key es))

-- ---- Nothing is asked

pub none_starts : (s : Slab Application) (key : ℕ) (goes : Body) → get s key ≡ None → Starts Nowhere (body_in (get s key) goes)
none_starts s key goes none = subst (λ (o : Option Application). Starts Nowhere (body_in o goes)) (sym none) Closes

nothing_by : (over : Bool) → Starts Nowhere (if over then Closed else Nowhere)
nothing_by true = Closes
nothing_by false = Stays

-- by what it asks, where it isn't to be closed
pub by_asking : (over : Bool) (x y : Asking) (held : List ℕ) (goes : Body) → (over ≡ false → x ≡ y) → (if over then Closed else body_by x held goes) ≡ (if over then Closed else body_by y held goes)
by_asking true x y held goes same = refl
by_asking false x y held goes same = ap (λ (z : Asking). body_by z held goes) (same refl)

pub nothing_starts : (s : Slab Application) (key : ℕ) (a b : Application) (goes : Body) → Some a ≡ get s key → (is_closed b ≡ false → own_asking b ≡ asking.Nothing) → Starts Nowhere (body_in (get (with_value s key b) key) goes)
nothing_starts s key a b goes is nothing =
    subst (Starts Nowhere) (sym (written_body s key a b goes is ∙ by_asking (is_closed b) (own_asking b) asking.Nothing (own_held b) goes nothing)) (nothing_by (is_closed b))

forgot_by : (a b : Body) → Starts Nowhere a → Spared a b → Starts Nowhere b
forgot_by a b s (inl e) = subst (Starts Nowhere) (sym e) s
forgot_by a b s (inr shut) = subst (Starts Nowhere) (sym shut) Closes

pub forgot_on : {A E : Type 0} (r : Result A E) (s t : Slab Application) (key : ℕ) → ((goes : Body) → Starts Nowhere (body_in (get s key) goes)) → OnOk r (AskOn s t) → OnOk r ((goes : Body) → Starts Nowhere (body_in (get t key) goes))
forgot_on (Ok x) s t key f on = λ goes. forgot_by (body_in (get s key) goes) (body_in (get t key) goes) (f goes) (on key goes)
forgot_on (Err e) s t key f on = tt

-- it asks what it asked, and then all go on
pub asks_kept_on : {A E : Type 0} (r : Result A E) (s u : Slab Application) (key : ℕ) (a b : Application) → Some a ≡ get s key → ((goes : Body) → body_in (Some b) goes ≡ body_in (Some a) goes) → OnOk r (AskOn (with_value s key b) u) → OnOk r (AskOn s u)
asks_kept_on r s u key a b is same on = kept_on_ok r s (with_value s key b) u (asks_kept s key a b is same) on

pub none_closed : (s : Slab Application) (key : ℕ) (goes : Body) → get s key ≡ None → Starts Closed (body_in (get s key) goes)
none_closed s key goes none = subst (λ (o : Option Application). Starts Closed (body_in o goes)) (sym none) Stays

pub none_grows : (whole : Bool) (more : List ℕ) (s : Slab Application) (key : ℕ) (b goes : Body) → get s key ≡ None → Grows whole more b (body_in (get s key) goes)
none_grows whole more s key b goes none = subst (λ (o : Option Application). Grows whole more b (body_in o goes)) (sym none) Shuts

pub same_starts : (a b : Body) → b ≡ a → Starts a b
same_starts a b same = subst (Starts a) (sym same) Stays

pub closed_starts : (a b : Body) → b ≡ Closed → Starts a b
closed_starts a b shut = subst (Starts a) (sym shut) Closes

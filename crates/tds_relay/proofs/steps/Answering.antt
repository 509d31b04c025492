-- What applications ask, as packets are told to them, and as what has waited goes on.
use Rattle.std.proofs.Common.{◌≡◌, ◌≢◌, ◌⊎◌, ◌∙◌, ℕ, Bool, true, false, List, Option, Some, None, inl, inr, eqb, refl, sym, ap, subst, if◌then◌else◌}
use Rattle.std.proofs.lemmas.Bool.Decides.{eqb_tells}
use Rattle.std.proofs.lemmas.List.{get_or-set_other}
use Rattle.std.specs.Prelude.{Result, Ok, Err, OnOk}
use Rattle.slab.specs.Slab.{Slab, get, with_value}
use Rattle.tds_relay.specs.declared.application.Application.{Application}
use Rattle.tds_relay.specs.declared.state.Asking.{Asking}
use Rattle.tds_relay.specs.declared.state.Asking.TheVariants as asking
use Rattle.tds_relay.specs.declared.pool.coming.Heard.{Heard}
use Rattle.tds_relay.specs.declared.pool.coming.What.{What}
use Rattle.tds_relay.specs.declared.pool.coming.What.TheVariants as whats
use Rattle.tds_relay.specs.Bodies.{AskAsBefore, AskOn, Astray, Body, Closed, Going, Kept, Nowhere, Spared, body_by, body_in}
use Rattle.tds_relay.specs.Coming.{AskAsTold, AskOrGo, GoesIf, IsGoing, StaysOrGoes, acknowledged_in, asking_in, body_behind, body_heard, body_told}
use Rattle.tds_relay.specs.Core.{End, EndList, end_at}
use Rattle.tds_relay.specs.Fronts.{ends_in, own_end}
use Rattle.tds_relay.specs.Sparing.{IsKept}
use Rattle.tds_relay.proofs.steps.Fed.{end_there}
use Rattle.tds_relay.proofs.steps.Underway.{written_there}
use Rattle.tds_relay.specs.Places.{is_closed, own_asking, own_held}

-- ---- Where nothing is told

pub spared_both : (a b c : Body) → Spared a b → Spared b c → Spared a c
spared_both a b c (inl e) (inl f) = inl (f ∙ e)
spared_both a b c (inr e) (inl f) = inr (f ∙ e)
spared_both a b c h (inr f) = inr f

pub before_on : (s t : Slab Application) → AskAsBefore s t → AskOn s t
before_on s t h = λ key goes. inl (h key goes)

pub on_both : (s t u : Slab Application) → AskOn s t → AskOn t u → AskOn s u
on_both s t u h k = λ key goes. spared_both (body_in (get s key) goes) (body_in (get t key) goes) (body_in (get u key) goes) (h key goes) (k key goes)

pub on_then : {A E : Type 0} (r : Result A E) (s t u : Slab Application) → AskOn s t → OnOk r (AskOn t u) → OnOk r (AskOn s u)
on_then (Ok x) s t u h k = on_both s t u h k
on_then (Err e) s t u h k = tt

-- ---- What has waited goes on

pub ask_refl : (s : Slab Application) → AskOrGo s s
ask_refl s = record { ask = λ key goes is. inl (inl refl) }

pub ask_on : (s t : Slab Application) → AskOn s t → AskOrGo s t
ask_on s t h = record { ask = λ key goes is. inl (h key goes) }

pub ask_ok : {A E : Type 0} (r : Result A E) (s t : Slab Application) → OnOk r (AskOn s t) → OnOk r (AskOrGo s t)
ask_ok (Ok x) s t h = ask_on s t h
ask_ok (Err e) s t h = tt

not_kept : (b : Body) → IsGoing b → IsKept b → ⊥
not_kept Closed goes kept = kept
not_kept Nowhere goes kept = kept
not_kept (Kept kind bytes whole) goes kept = goes
not_kept Astray goes kept = kept
not_kept (Going number client waits) goes kept = kept

closed_stays : (goes c : Body) → StaysOrGoes goes Closed c → c ≡ Closed
closed_stays goes c (inl (inl e)) = e
closed_stays goes c (inl (inr e)) = e
closed_stays goes c (inr k) = absurd k.0

goes_stays : (goes c : Body) → IsGoing goes → StaysOrGoes goes goes c → Spared goes c
goes_stays goes c is (inl h) = h
goes_stays goes c is (inr k) = absurd (not_kept goes is k.0)

goes_still : (goes a c : Body) → IsKept a → Spared goes c → StaysOrGoes goes a c
goes_still goes a c kept (inl e) = inr (kept, e)
goes_still goes a c kept (inr e) = inl (inr e)

both_go : (goes a b c : Body) → IsGoing goes → StaysOrGoes goes a b → StaysOrGoes goes b c → StaysOrGoes goes a c
both_go goes a b c is (inl (inl e)) k = subst (λ (x : Body). StaysOrGoes goes x c) e k
both_go goes a b c is (inl (inr e)) k = inl (inr (closed_stays goes c (subst (λ (x : Body). StaysOrGoes goes x c) e k)))
both_go goes a b c is (inr h) k = goes_still goes a c h.0 (goes_stays goes c is (subst (λ (x : Body). StaysOrGoes goes x c) h.1 k))

pub ask_both : (s t u : Slab Application) → AskOrGo s t → AskOrGo t u → AskOrGo s u
ask_both s t u h k = record { ask = λ key goes is. both_go goes (asking_in s key goes) (asking_in t key goes) (asking_in u key goes) is (h.ask key goes is) (k.ask key goes is) }

pub ask_then : {A E : Type 0} (r : Result A E) (s t u : Slab Application) → AskOrGo s t → OnOk r (AskOrGo t u) → OnOk r (AskOrGo s u)
ask_then (Ok x) s t u h k = ask_both s t u h k
ask_then (Err e) s t u h k = tt

pub ask_same : {A E : Type 0} (r : Result A E) (s t u : Slab Application) → t ≡ s → OnOk r (AskOrGo t u) → OnOk r (AskOrGo s u)
ask_same r s t u same h = subst (λ (x : Slab Application). OnOk r (AskOrGo x u)) same h

-- ---- Where one is written back

other_there : (s : Slab Application) (key : ℕ) (b : Application) (k : ℕ) → key ≢ k → get (with_value s key b) k ≡ get s k
other_there s key b k other = get_or-set_other s.slots key k (Some b) None (λ equal. other (sym equal))

kept_still : (over : Bool) (asks : Asking) (held : List ℕ) (g goes : Body) → IsGoing g → IsKept (if over then Closed else body_by asks held g) → (over ≡ false) × IsKept (if over then Closed else body_by asks held goes)
kept_still true asks held g goes is kept = absurd kept
kept_still false asking.Nothing held g goes is kept = absurd kept
kept_still false (asking.Waits kind whole) held g goes is kept = (refl, tt)
kept_still false asking.Goes held g goes is kept = absurd (not_kept g is kept)

it_goes : (b : Application) (goes : Body) → is_closed b ≡ false → own_asking b ≡ asking.Goes → body_in (Some b) goes ≡ goes
it_goes b goes here asks = ap (λ (x : Bool). if x then Closed else body_by (own_asking b) (own_held b) goes) here ∙ ap (λ (x : Asking). body_by x (own_held b) goes) asks

begun_by : (s : Slab Application) (key : ℕ) (a b : Application) (g : Body) → Some a ≡ get s key → IsGoing g → IsKept (asking_in s key g) → is_closed b ≡ is_closed a → (is_closed b ≡ false → own_asking b ≡ asking.Goes)
    → (k : ℕ) (goes : Body) → IsGoing goes → ((eqb key k ≡ true) × (key ≡ k)) ⊎ ((eqb key k ≡ false) × (key ≢ k)) → StaysOrGoes goes (asking_in s k goes) (asking_in (with_value s key b) k goes)
begun_by s key a b g is at kept over asks k goes going (inl (e, equal)) =
    let still = kept_still (is_closed a) (own_asking a) (own_held a) g goes at (subst (λ (o : Option Application). IsKept (body_in o g)) (sym is) kept) in
    subst (λ (n : ℕ). StaysOrGoes goes (asking_in s n goes) (asking_in (with_value s key b) n goes)) equal
    (inr (subst (λ (o : Option Application). IsKept (body_in o goes)) is still.1, ap (λ (o : Option Application). body_in o goes) (written_there s key a b is) ∙ it_goes b goes (over ∙ still.0) (asks (over ∙ still.0))))
begun_by s key a b g is at kept over asks k goes going (inr (e, other)) = inl (inl (ap (λ (o : Option Application). body_in o goes) (other_there s key b k other)))

-- it was kept, and goes on
pub ask_begun : (s : Slab Application) (key : ℕ) (a b : Application) (g : Body) → Some a ≡ get s key → IsGoing g → IsKept (asking_in s key g) → is_closed b ≡ is_closed a → (is_closed b ≡ false → own_asking b ≡ asking.Goes) → AskOrGo s (with_value s key b)
ask_begun s key a b g is at kept over asks = record { ask = λ k goes going. begun_by s key a b g is at kept over asks k goes going (eqb_tells key k) }

-- ---- Who is told

told_if : (b : Bool) (x y : Body) → x ≡ y → (if b then x else y) ≡ y
told_if true x y e = e
told_if false x y e = refl

heard_alike : (who : Option ℕ) (what : What) (key : ℕ) (end : Option End) (b : Body) → body_told what end b ≡ b → body_heard who what key end b ≡ b
heard_alike None what key end b e = refl
heard_alike (Some who) what key end b e = told_if (eqb who key) (body_told what end b) b e

alike_at : (h : Heard) (ends : EndList) (s t : Slab Application) → ((end : Option End) (b : Body) → body_told h.what end b ≡ b) → AskOn s t → (key : ℕ) (goes : Body)
    → Spared (body_heard h.key h.what key (end_at ends key) (asking_in s key goes)) (asking_in t key goes)
alike_at h ends s t same asks key goes =
    subst (λ (b : Body). Spared b (asking_in t key goes)) (sym (heard_alike h.key h.what key (end_at ends key) (asking_in s key goes) (same (end_at ends key) (asking_in s key goes)))) (asks key goes)

-- by that nothing is done
pub told_alike : (h : Heard) (ends : EndList) (s t : Slab Application) → ((end : Option End) (b : Body) → body_told h.what end b ≡ b) → AskOn s t → AskAsTold false (Some h) ends (asking_in s) (asking_in t)
told_alike h ends s t same asks = record { ask = λ key goes is. alike_at h ends s t same asks key goes }

pub tells_nobody : (h : Heard) (ends : EndList) (s : Slab Application) → h.key ≡ None → AskAsTold false (Some h) ends (asking_in s) (asking_in s)
tells_nobody h ends s none = record {
  ask = λ key goes is. subst (λ (who : Option ℕ). Spared (body_heard who h.what key (end_at ends key) (asking_in s key goes)) (asking_in s key goes)) (sym none) (inl refl);
}

pub tells_goes : (h : Heard) (ends : EndList) (s t : Slab Application) → h.what ≡ whats.Goes → AskAsBefore s t → AskAsTold false (Some h) ends (asking_in s) (asking_in t)
tells_goes h ends s t what same = told_alike h ends s t (λ end b. ap (λ (w : What). body_told w end b) what) (before_on s t same)

pub tells_closed : (h : Heard) (ends : EndList) (s t : Slab Application) → h.what ≡ whats.Closed → AskOn s t → AskAsTold false (Some h) ends (asking_in s) (asking_in t)
tells_closed h ends s t what asks = told_alike h ends s t (λ end b. ap (λ (w : What). body_told w end b) what) asks

pub tells_as : (h : Heard) (key : ℕ) (what : What) (ends : EndList) (old new : ℕ → Body → Body) → h.key ≡ Some key → h.what ≡ what → AskAsTold false (Some (record { key = Some key; what = what })) ends old new → AskAsTold false (Some h) ends old new
tells_as h key what ends old new is is_what t = record {
  ask = λ k goes going.
      subst (λ (w : What). Spared (body_heard h.key w k (end_at ends k) (old k goes)) (new k goes)) (sym is_what)
      (subst (λ (who : Option ℕ). Spared (body_heard who what k (end_at ends k) (old k goes)) (new k goes)) (sym is) (t.ask k goes going));
}

heard_its : (key k : ℕ) (what : What) (end : Option End) (b : Body) → eqb key k ≡ true → body_heard (Some key) what k end b ≡ body_told what end b
heard_its key k what end b e = ap (λ (x : Bool). if x then body_told what end b else b) e

heard_not : (key k : ℕ) (what : What) (end : Option End) (b : Body) → eqb key k ≡ false → body_heard (Some key) what k end b ≡ b
heard_not key k what end b e = ap (λ (x : Bool). if x then body_told what end b else b) e

module _ (s : Slab Application) (key : ℕ) (what : What) where
  there_by : (a b : Application) → Some a ≡ get s key → ((goes : Body) → IsGoing goes → body_in (Some b) goes ≡ body_told what (Some (own_end a)) (body_in (Some a) goes)) → (k : ℕ) (goes : Body) → IsGoing goes
      → ((eqb key k ≡ true) × (key ≡ k)) ⊎ ((eqb key k ≡ false) × (key ≢ k)) → Spared (body_heard (Some key) what k (end_at (ends_in s) k) (asking_in s k goes)) (asking_in (with_value s key b) k goes)
  there_by a b is done k goes going (inl (e, equal)) =
      let here : asking_in (with_value s key b) key goes ≡ body_told what (end_at (ends_in s) key) (asking_in s key goes) =
      ap (λ (o : Option Application). body_in o goes) (written_there s key a b is) ∙ done goes going
      ∙ ap (λ (x : Option End). body_told what x (body_in (Some a) goes)) (sym (end_there s key a is)) ∙ ap (λ (o : Option Application). body_told what (end_at (ends_in s) key) (body_in o goes)) is in
      let at : asking_in (with_value s key b) k goes ≡ body_told what (end_at (ends_in s) k) (asking_in s k goes) =
      subst (λ (n : ℕ). asking_in (with_value s key b) n goes ≡ body_told what (end_at (ends_in s) n) (asking_in s n goes)) equal here in
      inl (at ∙ sym (heard_its key k what (end_at (ends_in s) k) (asking_in s k goes) e))
  there_by a b is done k goes going (inr (e, other)) =
      inl (ap (λ (o : Option Application). body_in o goes) (other_there s key b k other) ∙ sym (heard_not key k what (end_at (ends_in s) k) (asking_in s k goes) e))

  -- it is there
  pub told_there : (a b : Application) → Some a ≡ get s key → ((goes : Body) → IsGoing goes → body_in (Some b) goes ≡ body_told what (Some (own_end a)) (body_in (Some a) goes))
      → AskAsTold false (Some (record { key = Some key; what = what })) (ends_in s) (asking_in s) (asking_in (with_value s key b))
  told_there a b is done = record { ask = λ k goes going. there_by a b is done k goes going (eqb_tells key k) }

  absent_by : get s key ≡ None → (k : ℕ) (goes : Body) → ((eqb key k ≡ true) × (key ≡ k)) ⊎ ((eqb key k ≡ false) × (key ≢ k)) → Spared (body_heard (Some key) what k (end_at (ends_in s) k) (asking_in s k goes)) (asking_in s k goes)
  absent_by none k goes (inl (e, equal)) = inr (ap (λ (o : Option Application). body_in o goes) (subst (λ (n : ℕ). get s n ≡ None) equal none))
  absent_by none k goes (inr (e, other)) = inl (sym (heard_not key k what (end_at (ends_in s) k) (asking_in s k goes) e))

  -- or it isn't
  pub told_absent : get s key ≡ None → AskAsTold false (Some (record { key = Some key; what = what })) (ends_in s) (asking_in s) (asking_in s)
  told_absent none = record { ask = λ k goes going. absent_by none k goes (eqb_tells key k) }

-- ---- Behind what is told

if_spared : (may : Bool) (goes a b : Body) → Spared a b → GoesIf may goes a b
if_spared true goes a b h = inl h
if_spared false goes a b h = h

-- they ask on
pub told_on : (may : Bool) (heard : Option Heard) (ends : EndList) (s t u : Slab Application) → AskAsTold false heard ends (asking_in s) (asking_in t) → AskOn t u → AskAsTold may heard ends (asking_in s) (asking_in u)
told_on may heard ends s t u told asks = record {
  ask = λ key goes is.
      let was : Body = body_behind heard key (end_at ends key) (asking_in s key goes) in
      if_spared may goes was (asking_in u key goes) (spared_both was (asking_in t key goes) (asking_in u key goes) (told.ask key goes is) (asks key goes));
}

pub told_more : {A E : Type 0} (r : Result A E) (may : Bool) (heard : Option Heard) (ends : EndList) (s t u v : Slab Application) → AskAsTold false heard ends (asking_in s) (asking_in t) → AskOn t u → OnOk r (AskOn u v)
    → OnOk r (AskAsTold may heard ends (asking_in s) (asking_in v))
told_more (Ok x) may heard ends s t u v told asks more = told_on may heard ends s t v told (on_both t u v asks more)
told_more (Err e) may heard ends s t u v told asks more = tt

pub told_same : {A E : Type 0} (r : Result A E) (may : Bool) (heard : Option Heard) (ends : EndList) (s t u v : Slab Application) → AskAsTold false heard ends (asking_in s) (asking_in t) → AskOn t u → OnOk r (AskAsBefore u v)
    → OnOk r (AskAsTold may heard ends (asking_in s) (asking_in v))
told_same (Ok x) may heard ends s t u v told asks more = told_on may heard ends s t v told (on_both t u v asks (before_on u v more))
told_same (Err e) may heard ends s t u v told asks more = tt

resumed : (heard : Option Heard) (ends : EndList) (s t u : Slab Application) → acknowledged_in heard ≡ true → AskAsTold false heard ends (asking_in s) (asking_in t) → AskOrGo t u → AskAsTold (acknowledged_in heard) heard ends (asking_in s) (asking_in u)
resumed heard ends s t u is told asks = record {
  ask = λ key goes going.
      let was : Body = body_behind heard key (end_at ends key) (asking_in s key goes) in
      subst (λ (b : Bool). GoesIf b goes was (asking_in u key goes)) (sym is)
      (both_go goes was (asking_in t key goes) (asking_in u key goes) going (inl (told.ask key goes going)) (asks.ask key goes going));
}

-- what has waited goes on
pub told_resumed : {A E : Type 0} (r : Result A E) (heard : Option Heard) (ends : EndList) (s t u v : Slab Application) → acknowledged_in heard ≡ true → AskAsTold false heard ends (asking_in s) (asking_in t) → AskOn t u → OnOk r (AskOrGo u v)
    → OnOk r (AskAsTold (acknowledged_in heard) heard ends (asking_in s) (asking_in v))
told_resumed (Ok x) heard ends s t u v is told asks more = resumed heard ends s t v is told (ask_both t u v (ask_on t u asks) more)
told_resumed (Err e) heard ends s t u v is told asks more = tt

-- its connection is lost
pub told_lost : {A E : Type 0} (r : Result A E) (heard : Option Heard) (ends : EndList) (s t : Slab Application) → heard ≡ None → OnOk r (AskOn s t) → OnOk r (AskAsTold (acknowledged_in heard) heard ends (asking_in s) (asking_in t))
told_lost (Ok x) heard ends s t none asks = subst (λ (o : Option Heard). AskAsTold (acknowledged_in o) o ends (asking_in s) (asking_in t)) (sym none) (record { ask = λ key goes is. asks key goes })
told_lost (Err e) heard ends s t none asks = tt

-- they ask what they asked before
pub told_since : (may : Bool) (heard : Option Heard) (s t : Slab Application) (ends : EndList) (new : ℕ → Body → Body) → ends_in t ≡ ends → AskAsBefore s t → AskAsTold may heard (ends_in t) (asking_in t) new
    → AskAsTold may heard ends (asking_in s) new
told_since may heard s t ends new same asks told = record {
  ask = λ key goes is.
      subst (λ (es : EndList). GoesIf may goes (body_behind heard key (end_at es key) (asking_in s key goes)) (new key goes)) same
      (subst (λ (b : Body). GoesIf may goes (body_behind heard key (end_at (ends_in t) key) b) (new key goes)) (asks key goes) (told.ask key goes is));
}

-- Where an application's request is, as the code has it.
use Rattle.std.proofs.Common.{◌≡◌, ◌⊎◌, ◌∙◌, ◌<◌, ◌≤◌, ◌==◌, ◌||◌, ◌++◌, ℕ, Bool, true, false, List, [], ◌∷◌, Option, Some, None, inl, inr, length, not, refl, sym, ap, subst, option_map, if◌then◌else◌}
use Rattle.std.proofs.lemmas.Bool.{cases_lt, eq-eqb}
use Rattle.std.proofs.lemmas.List.{get_or-set_same}
use Rattle.std.proofs.Math.ListN.{get_or-eq_default}
use Rattle.std.specs.Prelude.{Result, Ok, Err, OnOk}
use Rattle.slab.specs.Slab.{Slab, get, with_value}
use Rattle.tds_client.specs.declared.message.MessageKind.{MessageKind}
use Rattle.tds_relay.specs.declared.application.Application.{Application}
use Rattle.tds_relay.specs.declared.state.Asking.TheVariants as asking
use Rattle.tds_relay.specs.declared.pool.Hold.{Hold}
use Rattle.tds_relay.specs.declared.link.Link.{Link}
use Rattle.tds_relay.specs.Asking.{Closes, Drains, IsTakenBack, IsUnderway, Waits, waits_in, waits_of}
use Rattle.tds_relay.specs.Pool as pool
use Rattle.tds_relay.specs.Pool.{Pool, find_key, turn}
use Rattle.tds_relay.specs.Fronts.{own_end, ends_in, core_of_ends}
use Rattle.tds_relay.specs.Core.{End, EndList, Open, Over, change_end, closes, end_at, is_in}
use Rattle.tds_relay.specs.Taking.{IsDeaf}
use Rattle.tds_relay.proofs.steps.Fed.{end_open, end_there}
use Rattle.tds_relay.proofs.steps.Fronts.{end_is}
use Rattle.tds_relay.proofs.steps.Told.{deaf_closed}
use Rattle.tds_relay.specs.Places.{is_closed, own_asking, own_fault, own_reset, took_back}

-- ---- In the line

pub not_false : (b : Bool) → not b ≡ false → b ≡ true
not_false true e = refl
not_false false e = absurd (let u : ⊥ = cc in u)

or_true : (b : Bool) → (b || true) ≡ true
or_true true = refl
or_true false = refl

added_in : (key : ℕ) (line : List ℕ) → is_in key (line ++ key ∷ []) ≡ true
added_in key [] = ap (λ (b : Bool). b || false) (eq-eqb key key refl)
added_in key (k ∷ line) = ap (λ (b : Bool). (k == key) || b) (added_in key line) ∙ or_true (k == key)

pub in_line : (whole : Bool) (links : List Link) (key : ℕ) (d d1 : Pool) (es : EndList) → d1 ≡ (turn d (pool.Waits key)).pool → IsUnderway whole links key (core_of_ends d1 es)
in_line whole links key d d1 es e = Waits (subst (λ (x : Pool). is_in key x.line ≡ true) (sym e) (added_in key d.line))

-- it waits no more
out_if : (b : Bool) (key k : ℕ) (ks : List ℕ) → (k == key) ≡ b → is_in key ks ≡ false → is_in key (if not b then k ∷ ks else ks) ≡ false
out_if true key k ks e out = out
out_if false key k ks e out = ap (λ (b : Bool). b || is_in key ks) e ∙ out

pub out_of : (key : ℕ) (line : List ℕ) → is_in key (pool.without key line) ≡ false
out_of key [] = refl
out_of key (k ∷ line) = out_if (k == key) key k (pool.without key line) refl (out_of key line)

pub out_by : (key : ℕ) (d d1 : Pool) → d1 ≡ (turn d (pool.Unwaits key)).pool → is_in key d1.line ≡ false
out_by key d d1 e = ap (λ (x : Pool). is_in key x.line) e ∙ out_of key d.line

pub out_on : {A E : Type 0} (r : Result A E) (key : ℕ) (line next : List ℕ) → OnOk r (next ≡ line) → is_in key line ≡ false → OnOk r (is_in key next ≡ false)
out_on (Ok x) key line next same out = ap (is_in key) same ∙ out
out_on (Err e) key line next same out = tt

pub out_freed : {A E : Type 0} (r : Result A E) (key : ℕ) (line next : List ℕ) → OnOk r (next ≡ pool.without key line) → OnOk r (is_in key next ≡ false)
out_freed r key line next freed = out_on r key (pool.without key line) next freed (out_of key line)

out_does : (key : ℕ) (d : Pool) (action : pool.Action) (o : Option Hold) → (pool.holder_does d action o).pool.line ≡ d.line
out_does key d action None = refl
out_does key d action (Some hold) = refl

-- by what it does with the connection that it holds it comes into no line
pub out_still : (key : ℕ) (action : pool.Action) (d d1 : Pool) → d1 ≡ (turn d (pool.Does key action)).pool → is_in key d.line ≡ false → is_in key d1.line ≡ false
out_still key action d d1 e out = ap (λ (x : Pool). is_in key x.line) e ∙ ap (is_in key) (out_does key d action (find_key key d.holds)) ∙ out

-- ---- Its end

pub none_deaf : (key : ℕ) (s : Slab Application) → get s key ≡ None → IsDeaf (end_at (ends_in s) key)
none_deaf key s none = subst IsDeaf (sym (end_is s key ∙ ap (option_map own_end) none)) tt

pub over_deaf : (key : ℕ) (s : Slab Application) (a : Application) → Some a ≡ get s key → is_closed a ≡ true → IsDeaf (end_at (ends_in s) key)
over_deaf key s a is over = subst IsDeaf (sym (end_there s key a is ∙ ap (λ (b : Bool). let o : Option End = Some (if b then Over (own_fault a) else Open a.front (took_back a) (own_reset a)) in o) over)) tt

pub of_none : (whole : Bool) (links : List Link) (key : ℕ) (d : Pool) (s : Slab Application) → get s key ≡ None → IsUnderway whole links key (core_of_ends d (ends_in s))
of_none whole links key d s none = Closes (none_deaf key s none)

pub of_over : (whole : Bool) (links : List Link) (key : ℕ) (d : Pool) (s : Slab Application) (a : Application) → Some a ≡ get s key → is_closed a ≡ true → IsUnderway whole links key (core_of_ends d (ends_in s))
of_over whole links key d s a is over = Closes (over_deaf key s a is over)

drains_by : (whole : Bool) (links : List Link) (key : ℕ) (d : Pool) (s : Slab Application) (a : Application) (h : Hold) (b : Bool) → is_closed a ≡ b → Some a ≡ get s key → took_back a ≡ true → find_key key d.holds ≡ Some h
    → IsUnderway whole links key (core_of_ends d (ends_in s))
drains_by whole links key d s a h true over is back its = of_over whole links key d s a is over
drains_by whole links key d s a h false over is back its = Drains h its (subst IsTakenBack (sym (end_there s key a is ∙ ap Some (end_open a over))) back)

pub drains : (whole : Bool) (links : List Link) (key : ℕ) (d : Pool) (s : Slab Application) (a : Application) (h : Hold) → Some a ≡ get s key → took_back a ≡ true → find_key key d.holds ≡ Some h
    → IsUnderway whole links key (core_of_ends d (ends_in s))
drains whole links key d s a h is back its = drains_by whole links key d s a h (is_closed a) refl is back its

pub of_closed : (whole : Bool) (links : List Link) (key : ℕ) (d : Pool) (es es1 : EndList) → es1 ≡ change_end key closes es → IsUnderway whole links key (core_of_ends d es1)
of_closed whole links key d es es1 e = Closes (subst (λ (x : EndList). IsDeaf (end_at x key)) (sym e) (deaf_closed key es))

-- ---- What it asks

pub waits_here : (s : Slab Application) (key : ℕ) (a : Application) (whole : Bool) → Some a ≡ get s key → waits_of (get s key) ≡ Some whole → waits_in (own_asking a) ≡ Some whole
waits_here s key a whole is waits = ap waits_of is ∙ waits

near_by : (s : Slab Application) (key : ℕ) (a : Application) → Some a ≡ get s key → (key < length s.slots) ⊎ (length s.slots ≤ key) → key < length s.slots
near_by s key a is (inl near) = near
near_by s key a is (inr far) = absurd (let u : Some a ≡ None = is ∙ get_or-eq_default s.slots None far in let v : ⊥ = cc in v)

-- it is written back
pub written_there : (s : Slab Application) (key : ℕ) (a b : Application) → Some a ≡ get s key → get (with_value s key b) key ≡ Some b
written_there s key a b is = get_or-set_same s.slots key (Some b) None (near_by s key a is (cases_lt key (length s.slots)))

pub waits_written : (s : Slab Application) (key : ℕ) (a b : Application) (kind : MessageKind) (whole : Bool) → Some a ≡ get s key → own_asking b ≡ asking.Waits kind whole → waits_of (get (with_value s key b) key) ≡ Some whole
waits_written s key a b kind whole is waits = ap waits_of (written_there s key a b is) ∙ ap waits_in waits

-- What parking an application leaves.
use Rattle.std.proofs.Common.{◌≡◌, ◌≢◌, ◌∙◌, ◌⊎◌, ℕ, Bool, true, false, List, Option, Some, None, inl, inr, refl, sym, ap, subst, option_map, if◌then◌else◌}
use Rattle.std.specs.Prelude.{length, ◌≤◌}
use Rattle.std.proofs.lemmas.Bool.{cases_eq}
use Rattle.slab.specs.Slab.{get}
use Rattle.tds_relay.specs.declared.application.Application.{Application}
use Rattle.tds_relay.specs.declared.state.Asking.{Asking}
use Rattle.tds_relay.specs.declared.state.Asking.TheVariants as asking
use Rattle.tds_relay.specs.declared.link.Link.{Link}
use Rattle.tds_relay.specs.declared.relay.Relay as code
use Rattle.tds_relay.specs.Apart.{UnlessServed}
use Rattle.tds_relay.specs.Bodies.{AskOn, Body, Closed, Spared, body_by, body_in, body_of, going_of}
use Rattle.tds_relay.specs.Few.{Few, NoneNew}
use Rattle.tds_relay.specs.Fronts.{core_in, has_no_request, is_asking_nothing, may_park_in}
use Rattle.tds_relay.specs.Core.{End, EndList, Core, change_end, end_at, is_in, lets_go, may_park}
use Rattle.tds_relay.specs.Sparing.{AllGo, OthersRest, Rests}
use Rattle.tds_relay.specs.Ties.{IsReached, Leaving, pool_in}
use Rattle.tds_relay.proofs.spared.Apart.{set_apart}
use Rattle.tds_relay.proofs.spared.Lines.{waited_left}
use Rattle.tds_relay.proofs.lending.Resting.{go_one, rests_start}
use Rattle.tds_relay.proofs.steps.Fronts.{changed_at}
use Rattle.tds_relay.proofs.steps.Parked.{and_first, and_second, rested}
use Rattle.tds_relay.specs.Places.{is_closed, own_asking, own_held}

pub parks : (r : code.Relay) (key : ℕ) → may_park_in r key ≡ true → may_park (core_in r) key ≡ true
parks r key e = and_first (may_park (core_in r) key) (has_no_request (get r.applications key)) e

pub asks_none : (r : code.Relay) (key : ℕ) → may_park_in r key ≡ true → has_no_request (get r.applications key) ≡ true
asks_none r key e = and_second (may_park (core_in r) key) (has_no_request (get r.applications key)) e

-- ---- The ends

at_rest : (o : Option End) (h : Core) (key : ℕ) → may_park h key ≡ true → o ≡ option_map lets_go (end_at h.ends key) → o ≡ end_at h.ends key
at_rest o h key e is =
    let r = rested h key e in
    is ∙ ap (option_map lets_go) r.end ∙ sym r.end

kept_by : (h : Core) (key other : ℕ) (es : EndList) → (other ≡ key) ⊎ (other ≢ key) → may_park h key ≡ true → es ≡ change_end key lets_go h.ends → end_at es other ≡ end_at h.ends other
kept_by h key other es (inl same) e is =
    subst (λ (k : ℕ). end_at es k ≡ end_at h.ends k) (sym same)
    (at_rest (end_at es key) h key e (ap (λ (xs : EndList). end_at xs key) is ∙ changed_at h.ends key lets_go))
kept_by h key other es (inr differs) e is = ap (λ (xs : EndList). end_at xs other) is ∙ set_apart h.ends key other (option_map lets_go (end_at h.ends key)) differs

-- Who is at rest has nothing there that is let go with its connection.
pub ends_stay : (h : Core) (key : ℕ) (es : EndList) → may_park h key ≡ true → es ≡ change_end key lets_go h.ends → (other : ℕ) → end_at es other ≡ end_at h.ends other
ends_stay h key es e is other = kept_by h key other es (cases_eq other key) e is

pub out_by : (b c : Bool) → (b ≡ true → c ≡ true) → c ≡ false → b ≡ false
out_by true c f e = absurd (let u : true ≡ false = sym (f refl) ∙ e in let v : ⊥ = cc in v)
out_by false c f e = refl

pub parked_apart : (old mid new : Core) (key : ℕ) → may_park old key ≡ true → mid.ends ≡ change_end key lets_go old.ends → Leaving key old.pool mid.pool → UnlessServed mid new → UnlessServed old new
parked_apart old mid new key e is leaving served = λ other out.
    served other (out_by (is_in other mid.pool.line) (is_in other old.pool.line) (waited_left key old.pool mid.pool leaving other) out) ∙ ends_stay old key mid.ends e is other

-- ---- The requests

alike_by : (x : Asking) (held : List ℕ) (g h : Body) → is_asking_nothing x ≡ true → body_by x held g ≡ body_by x held h
alike_by asking.Nothing held g h e = refl
alike_by (asking.Waits kind whole) held g h e = refl
alike_by asking.Goes held g h e = absurd (let u : ⊥ = cc in u)

alike : (o : Option Application) (g h : Body) → has_no_request o ≡ true → body_in o g ≡ body_in o h
alike None g h e = refl
alike (Some a) g h e = ap (λ (b : Body). if is_closed a then Closed else b) (alike_by (own_asking a) (own_held a) g h e)

own_rests : (key : ℕ) (old mid : code.Relay) → has_no_request (get old.applications key) ≡ true → AskOn old.applications mid.applications → Rests (body_of key old) (body_of key mid)
own_rests key old mid none asks =
    inl (subst (λ (b : Body). Spared b (body_of key mid)) (alike (get old.applications key) (going_of key mid) (going_of key old) none) (asks key (going_of key mid)))

pub parked_go : (key : ℕ) (old mid : code.Relay) → has_no_request (get old.applications key) ≡ true → AskOn old.applications mid.applications → (IsReached (pool_in old.pool) → OthersRest key old mid) → AllGo old mid
parked_go key old mid none asks others = go_one key old mid (rests_start (body_of key old) (body_of key mid) (own_rests key old mid none asks)) others

-- ---- The connections

pub parked_few : (m n : ℕ) (a b c : List Link) → m ≡ n → NoneNew a b → Few m b c → Few n a c
parked_few m n a b c e h (inl none) = inl (λ number gone. none number (h number gone))
parked_few m n a b c e h (inr (ls, few, none)) = inr (ls, subst (λ (k : ℕ). length ls ≤ k) e few, none)

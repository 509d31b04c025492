-- Who stands in the line, and what waits on other connections.
use Rattle.std.proofs.Common.{◌≡◌, ◌<◌, ◌≤◌, ◌∙◌, ◌==◌, arith, if◌then◌else◌, ℕ, Bool, true, false, List, [], ◌∷◌, ◌++◌, Option, Some, None, refl, sym, ap, subst, option_map}
use Rattle.std.specs.Prelude.{IsSome, ◌||◌}
use Rattle.std.proofs.lemmas.Bool.{eq-eqb}
use Rattle.tds_packet.specs.declared.status.Reset.{Reset}
use Rattle.tds_client.specs.declared.message.MessageKind.{MessageKind}
use Rattle.tds_front.specs.declared.fault.FrontFault.{FrontFault}
use Rattle.tds_front.specs.declared.front.Front.{Front}
use Rattle.tds_front.specs.declared.stage.Stage.{Stage}
use Rattle.tds_front.specs.declared.stage.Stage.TheVariants as stages
use Rattle.tds_relay.specs.declared.application.Application.{Application}
use Rattle.tds_relay.specs.declared.state.Asking.{Asking}
use Rattle.tds_relay.specs.declared.state.Asking.TheVariants as asking
use Rattle.tds_relay.specs.Bodies.{Body, Closed, Kept, body_in}
use Rattle.tds_relay.specs.declared.relay.Relay as code
use Rattle.tds_relay.specs.Pool as pool
use Rattle.tds_relay.specs.Pool.{Pool, turn}
use Rattle.tds_relay.specs.Fronts.{own_end}
use Rattle.tds_relay.specs.Core.{End, EndList, IfOpen, IsBegun, Open, Over, change_whose, closes, end_at, is_in}
use Rattle.tds_relay.specs.Reasons.{IsUnbegun}
use Rattle.tds_relay.specs.Taking.{IsDeaf}
use Rattle.tds_relay.specs.Ties.{pool_in}
use Rattle.tds_relay.specs.Waiting.{KeepsInLine, StandsInLine}
use Rattle.tds_relay.specs.Waiting as waiting
use Rattle.tds_relay.proofs.steps.Fronts.{changed_at}
use Rattle.tds_relay.proofs.steps.Going.{waits_is}
use Rattle.tds_relay.specs.Places.{is_closed, own_asking, own_fault, own_held, own_reset, took_back}

or_last : (b : Bool) → (b || true) ≡ true
or_last true = refl
or_last false = refl

last_in : (key : ℕ) (line : List ℕ) → is_in key (line ++ key ∷ []) ≡ true
last_in key [] = ap (λ (b : Bool). b || false) (eq-eqb key key refl)
last_in key (k ∷ line) = ap (λ (b : Bool). (k == key) || b) (last_in key line) ∙ or_last (k == key)

pub stands_last : (r : code.Relay) (d : Pool) (key : ℕ) → pool_in r.pool ≡ (turn d (pool.Waits key)).pool → StandsInLine key r
stands_last r d key is = waiting.Stands (ap (λ (x : Pool). is_in key x.line) is ∙ last_in key d.line)

pub has_some : {A : Type 0} (o : Option A) (x : A) → o ≡ Some x → IsSome o
has_some o x is = subst IsSome (sym is) refl

closed_by : (o : Option End) → IsDeaf (option_map closes o)
closed_by None = tt
closed_by (Some (Open front withdrawn asks)) = tt
closed_by (Some (Over why)) = tt

pub lost_deaf : (key : ℕ) (o : Option ℕ) (es fs : EndList) → fs ≡ change_whose o closes es → o ≡ Some key → IsDeaf (end_at fs key)
lost_deaf key o es fs is whose =
    subst IsDeaf (sym (ap (λ (x : EndList). end_at x key) (is ∙ ap (λ (p : Option ℕ). change_whose p closes es) whose) ∙ changed_at es key closes)) (closed_by (end_at es key))

pub same_key : (a b : ℕ) (o : Option ℕ) → Some a ≡ o → o ≡ Some b → a ≡ b
same_key a b o e f = let u : Some a ≡ Some b = e ∙ f in cc

-- ---- What is kept of a request in the line

pub kept_more : (o : Option Application) (a b : Application) (g : Body) (kind k : MessageKind) (was w whole : Bool) (more : List ℕ) → o ≡ Some b → is_closed a ≡ false → own_asking a ≡ asking.Waits kind was → own_asking a ≡ asking.Waits k w
    → own_asking b ≡ asking.Waits kind whole → is_closed b ≡ is_closed a → own_held b ≡ own_held a ++ more → body_in o g ≡ Kept k (own_held a ++ more) whole
kept_more o a b g kind k was w whole more is here first second asked over held =
    let same : kind ≡ k = (let u : asking.Waits kind was ≡ asking.Waits k w = sym first ∙ second in cc) in
    ap (λ (x : Option Application). body_in x g) is ∙ waits_is b g kind whole asked ∙ ap (λ (x : Bool). if x then Closed else Kept kind (own_held b) whole) (over ∙ here)
    ∙ ap (λ (xs : List ℕ). Kept kind xs whole) held ∙ ap (λ (m : MessageKind). Kept m (own_held a ++ more) whole) same

pub nothing_waits : (x : Asking) (k : MessageKind) (w : Bool) → x ≡ asking.Nothing → x ≡ asking.Waits k w → ⊥
nothing_waits x k w e f = let u : asking.Nothing ≡ asking.Waits k w = sym e ∙ f in let v : ⊥ = cc in v

pub goes_waits : (x : Asking) (k : MessageKind) (w : Bool) → x ≡ asking.Goes → x ≡ asking.Waits k w → ⊥
goes_waits x k w e f = let u : asking.Goes ≡ asking.Waits k w = sym e ∙ f in let v : ⊥ = cc in v

pub no_application : (whole : Bool) (more : List ℕ) (o : Option Application) (b : Body) → o ≡ None → KeepsInLine whole more o b
no_application whole more o b e = subst (λ (x : Option Application). KeepsInLine whole more x b) (sym e) tt

pub fits_not : (n m : ℕ) → m < n → n ≤ m → ⊥
fits_not n m lt le = let a : m < n = lt in let b : n ≤ m = le in let u : ⊥ = omega (arith, a, b) in u

-- one that hasn't begun
not_begun : (stage : Stage) → IsBegun stage → IsUnbegun false stage → ⊥
not_begun stages.Quiet b u = b
not_begun (stages.Receiving kind gone) b u = let e : false ≡ true = u in let v : ⊥ = cc in v
not_begun (stages.Underway gone) b u = u
not_begun stages.Stopping b u = b
not_begun (stages.Broken fault) b u = b

open_begun : (over : Bool) (why : Option FrontFault) (front : Front) (withdrawn : Bool) (asks : Option Reset) → over ≡ false → IfOpen IsBegun (Some (if over then Over why else Open front withdrawn asks))
    → IfOpen (IsUnbegun false) (Some (if over then Over why else Open front withdrawn asks)) → ⊥
open_begun true why front withdrawn asks here b u = let v : ⊥ = cc in v
open_begun false why front withdrawn asks here b u = not_begun front.stage b u

pub begun_not : (a : Application) → is_closed a ≡ false → IfOpen IsBegun (Some (own_end a)) → IfOpen (IsUnbegun false) (Some (own_end a)) → ⊥
begun_not a here b u = open_begun (is_closed a) (own_fault a) a.front (took_back a) (own_reset a) here b u

-- Who may be parked.
use Rattle.std.proofs.Common.{◌≡◌, ◌∙◌, ◌⊎◌, ◌&&◌, ◌==◌, arith, ℕ, zero, suc, Bool, true, false, not, Option, Some, None, inl, inr, refl, sym, ap, subst}
use Rattle.std.specs.Prelude.{nat_lt, option_map, is_some}
use Rattle.std.proofs.lemmas.Bool.Decides.{nat_tests}
use Rattle.tds_packet.specs.declared.status.Reset.{Reset}
use Rattle.tds_packet.specs.declared.status.Reset.TheVariants.{Full, KeepTransaction}
use Rattle.tds_front.specs.declared.front.Front.{Front}
use Rattle.tds_front.specs.declared.stage.Stage.{Stage}
use Rattle.tds_front.specs.declared.stage.Stage.TheVariants as stages
use Rattle.tds_service.specs.Service.{Seat, is_clean, is_open, seat_numbered}
use Rattle.slab.specs.Slab.{Slab, get}
use Rattle.tds_relay.specs.declared.application.Application.{Application}
use Rattle.tds_relay.specs.declared.pool.Hold.{Hold}
use Rattle.tds_relay.specs.declared.pool.Mode.{Mode}
use Rattle.tds_relay.specs.declared.pool.Mode.TheVariants.{Sessions, Transactions}
use Rattle.tds_relay.specs.Pool.{Pool, find_key, owes_of}
use Rattle.tds_relay.specs.Core.{End, Open, Over, Core, IfOpen, IsHere, MayPart, end_at, is_at_end, may_park}
use Rattle.tds_relay.specs.Fronts.{own_end, ends_in, has_no_request}
use Rattle.tds_relay.specs.Law.{Rested}
use Rattle.tds_relay.specs.Places.{holds_clean, is_by_transactions, is_clean_of, is_clean_on, is_done_with}
use Rattle.tds_relay.proofs.steps.Fed.{end_there}
use Rattle.tds_relay.proofs.steps.Fronts as ends

-- ---- A connection is clean

at_least : (n : ℕ) → nat_lt 0 (suc n) ≡ true
at_least n = grind (arith, nat_tests)

not_zero : (n : ℕ) → (suc n == 0) ≡ false
not_zero n = grind (arith, nat_tests)

clean_is : (mark : Option Reset) (descriptor : ℕ) → (not (is_open mark descriptor) && not (is_some mark)) ≡ is_clean mark descriptor
clean_is None zero = refl
clean_is None (suc n) = ap (λ (b : Bool). not b && true) (at_least n) ∙ sym (not_zero n)
clean_is (Some Full) descriptor = refl
clean_is (Some KeepTransaction) zero = refl
clean_is (Some KeepTransaction) (suc n) = ap (λ (b : Bool). not b && false) (at_least n)

pub clean_by : (o : Option Seat) (opened : Bool) → Some opened ≡ option_map (λ (c : Seat). is_open c.line.heard.mark c.line.heard.descriptor) o → (not opened && not (owes_of o)) ≡ is_clean_of o
clean_by None opened e = absurd (let u : ⊥ = cc in u)
clean_by (Some c) opened e =
    let same : opened ≡ is_open c.line.heard.mark c.line.heard.descriptor = cc in
    ap (λ (b : Bool). not b && not (is_some c.line.heard.mark)) same ∙ clean_is c.line.heard.mark c.line.heard.descriptor

pub not_there : (o : Option Seat) → None ≡ option_map (λ (c : Seat). is_open c.line.heard.mark c.line.heard.descriptor) o → false ≡ is_clean_of o
not_there None e = refl
not_there (Some c) e = absurd (let u : ⊥ = cc in u)

-- ---- What it is to rest

pub and_first : (a b : Bool) → (a && b) ≡ true → a ≡ true
and_first true b e = refl
and_first false b e = e

pub and_second : (a b : Bool) → (a && b) ≡ true → b ≡ true
and_second true b e = e
and_second false b e = absurd (let u : ⊥ = cc in u)

mode_is : (mode : Mode) → is_by_transactions mode ≡ true → mode ≡ Transactions
mode_is Sessions e = absurd (let u : ⊥ = cc in u)
mode_is Transactions e = refl

record IsDone (stage : Stage) (withdrawn : Bool) (asks : Option Reset) : Type 0 where
  quiet : stage ≡ stages.Quiet
  took : withdrawn ≡ false
  told : asks ≡ None

done_is : (stage : Stage) (withdrawn : Bool) (asks : Option Reset) → is_done_with stage withdrawn asks ≡ true → IsDone stage withdrawn asks
done_is stages.Quiet false None e = record { quiet = refl; took = refl; told = refl }
done_is stages.Quiet false (Some reset) e = absurd (let u : ⊥ = cc in u)
done_is stages.Quiet true asks e = absurd (let u : ⊥ = cc in u)
done_is (stages.Receiving kind gone) withdrawn asks e = absurd (let u : ⊥ = cc in u)
done_is (stages.Underway gone) withdrawn asks e = absurd (let u : ⊥ = cc in u)
done_is stages.Stopping withdrawn asks e = absurd (let u : ⊥ = cc in u)
done_is (stages.Broken fault) withdrawn asks e = absurd (let u : ⊥ = cc in u)

record IsAtEnd (o : Option End) : Type 0 where
  front : Front
  end : o ≡ Some (Open front false None)
  quiet : front.stage ≡ stages.Quiet

end_is : (o : Option End) → is_at_end o ≡ true → IsAtEnd o
end_is None e = absurd (let u : ⊥ = cc in u)
end_is (Some (Open front withdrawn asks)) e =
    let d = done_is front.stage withdrawn asks e in
    record {
      front = front;
      end = ap (λ (w : Bool). Some (Open front w asks)) d.took ∙ ap (λ (r : Option Reset). Some (Open front false r)) d.told;
      quiet = d.quiet;
    }
end_is (Some (Over why)) e = absurd (let u : ⊥ = cc in u)

record HoldsClean (o : Option Hold) (d : Pool) : Type 0 where
  hold : Hold
  its : o ≡ Some hold
  clean : is_clean_on hold.number d ≡ true

hold_is : (o : Option Hold) (d : Pool) → holds_clean o d ≡ true → HoldsClean o d
hold_is None d e = absurd (let u : ⊥ = cc in u)
hold_is (Some hold) d e = record { hold = hold; its = refl; clean = e }

clean_says : (mark : Option Reset) (descriptor : ℕ) → is_clean mark descriptor ≡ true → (is_open mark descriptor ≡ false) × (is_some mark ≡ false)
clean_says None zero e = (refl, refl)
clean_says None (suc n) e = absurd (let u : false ≡ true = sym (not_zero n) ∙ e in let v : ⊥ = cc in v)
clean_says (Some reset) descriptor e = absurd (let u : ⊥ = cc in u)

seat_says : (o : Option Seat) → is_clean_of o ≡ true → (option_map (λ (c : Seat). is_open c.line.heard.mark c.line.heard.descriptor) o ≡ Some false) × (owes_of o ≡ false)
seat_says None e = absurd (let u : ⊥ = cc in u)
seat_says (Some c) e =
    let says = clean_says c.line.heard.mark c.line.heard.descriptor e in
    (ap (λ (b : Bool). Some b) says.0, says.1)

pub rested : (h : Core) (key : ℕ) → may_park h key ≡ true → Rested h key
rested h key e =
    let mode = is_by_transactions h.pool.mode in
    let ends = is_at_end (end_at h.ends key) in
    let holds = holds_clean (find_key key h.pool.holds) h.pool in
    let both : (ends && holds) ≡ true = and_second mode (ends && holds) e in
    let end = end_is (end_at h.ends key) (and_first ends holds both) in
    let held = hold_is (find_key key h.pool.holds) h.pool (and_second ends holds both) in
    let seat = seat_says (seat_numbered held.hold.number h.pool.service.seats) held.clean in
    record {
      mode = mode_is h.pool.mode (and_first mode (ends && holds) e);
      front = end.front;
      end = end.end;
      quiet = end.quiet;
      hold = held.hold;
      holds = held.its;
      closed = seat.0;
      told = seat.1;
    }

-- nothing of a request of it has gone on
pub lets_here : (h : Core) (key : ℕ) → MayPart h key ⊎ (may_park h key ≡ true) → IfOpen IsHere (end_at h.ends key)
lets_here h key (inl parts) = parts.0
lets_here h key (inr parks) =
    let r = rested h key parks in
    subst (IfOpen IsHere) (sym r.end) (subst IsHere (sym r.quiet) tt)

-- ---- As the code finds it

pub never : (m e h a : Bool) → (m ≡ false) ⊎ ((e ≡ false) ⊎ (a ≡ false)) → false ≡ ((m && (e && h)) && a)
never false e h a n = refl
never true false h a n = refl
never true true false a n = refl
never true true true false n = refl
never true true true true (inl x) = absurd (let u : ⊥ = cc in u)
never true true true true (inr (inl x)) = absurd (let u : ⊥ = cc in u)
never true true true true (inr (inr x)) = absurd (let u : ⊥ = cc in u)

pub where_at_end : (m e h a : Bool) → m ≡ true → e ≡ true → a ≡ true → h ≡ ((m && (e && h)) && a)
where_at_end true true true true x y z = refl
where_at_end true true false true x y z = refl
where_at_end false e h a x y z = absurd (let u : ⊥ = cc in u)
where_at_end true false h a x y z = absurd (let u : ⊥ = cc in u)
where_at_end true true h false x y z = absurd (let u : ⊥ = cc in u)

-- the end of one that is there, or isn't
pub its_end : (s : Slab Application) (key : ℕ) (a : Application) → Some a ≡ get s key → is_at_end (end_at (ends_in s) key) ≡ is_at_end (Some (own_end a))
its_end s key a is = ap is_at_end (end_there s key a is)

pub nobodys_end : (s : Slab Application) (key : ℕ) → get s key ≡ None → is_at_end (end_at (ends_in s) key) ≡ false
nobodys_end s key none = ap is_at_end (ends.end_is s key ∙ ap (option_map own_end) none)

pub its_request : (s : Slab Application) (key : ℕ) (a : Application) → Some a ≡ get s key → has_no_request (get s key) ≡ has_no_request (Some a)
its_request s key a is = ap has_no_request (sym is)

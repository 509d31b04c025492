-- The first connection, which is brought: it is held by nobody, and cleaned by a batch that asks for the full reset.
use Rattle.std.proofs.Common.{◌≡◌, ◌≢◌, ◌⊎◌, ◌∙◌, ◌==◌, ◌++◌, ℕ, suc, Bool, true, false, List, [], ◌∷◌, Option, Some, None, inl, inr, refl, sym, ap, subst, append-nil, option_map, if◌then◌else◌}
use Rattle.std.specs.Prelude.{IfSome, IsSome, length, nat_lt}
use Rattle.std.proofs.lemmas.Bool.{eq-eqb}
use Rattle.tds_client.specs.Session as session
use Rattle.tds_client.specs.Session.{ClientSession}
use Rattle.tds_packet.specs.Reading.{Reading}
use Rattle.tds_packet.specs.declared.status.Reset.TheVariants.{Full}
use Rattle.tds_wire.specs.declared.told.Token.{Token}
use Rattle.tds_service.specs.declared.service.Service as services
use Rattle.tds_service.specs.History.{line_after}
use Rattle.tds_service.specs.Line as line
use Rattle.tds_service.specs.Line.{LineStage, new_line}
use Rattle.tds_service.specs.Service as calls
use Rattle.tds_service.specs.Service.{Leased, Seat, Service, find_by, has_lease, is_idle, is_lendable, step}
use Rattle.tds_service.specs.Table.{client_of, service_in}
use Rattle.tds_service.specs.Ties.{cancel_out, stage_of}
use Rattle.tds_relay.specs.declared.pool.Hold.{Hold}
use Rattle.tds_relay.specs.declared.pool.leaving.Left.{Left}
use Rattle.tds_relay.specs.declared.link.Link.{Link}
use Rattle.tds_relay.specs.declared.relay.Relay as code
use Rattle.tds_relay.specs.Cleaning.{HasBroken, IsBrokenFor, CleansOnce, CleaningWaits, GoesOutAtEnd, IsCleaning, IsPutBehind, rests_once, text_of_cleaning}
use Rattle.tds_relay.specs.Cleaning as cleaning
use Rattle.tds_relay.specs.Pool as pool
use Rattle.tds_relay.specs.Pool.{Pool, find_number, holding, lent_in, serves, serves_by, turn}
use Rattle.tds_relay.specs.Lent.{LendsInLine}
use Rattle.tds_relay.specs.Core.{holder}
use Rattle.tds_relay.specs.Promises.{Each}
use Rattle.tds_relay.specs.Reads.{FillsAt, FillsBy, Opens as OpensLinks, bytes_on, if_open, open_at, open_waits, waits_on}
use Rattle.tds_relay.specs.Ties.{Application, IsReached, pool_in}
use Rattle.tds_relay.specs.TokenParsers.{IsLed}
use Rattle.tds_relay.proofs.bytes.Walking.{led_tidy}
use Rattle.tds_relay.proofs.held.Away.{full_idle}
use Rattle.tds_relay.proofs.held.Numbers.{Apart, apart_at}
use Rattle.tds_relay.proofs.promises.Seats.{each_added, each_changed, each_found, each_weaker, found_meets}
use Rattle.tds_relay.proofs.promises.Tidy.{Tidy, WithinIn, next_other}
use Rattle.tds_relay.proofs.spared.Filling.{each_last}
use Rattle.tds_relay.proofs.spared.Freeing.{lent_or, open_by}
use Rattle.tds_relay.proofs.spared.Marking.{both_true, line_at}
use Rattle.tds_relay.proofs.steps.Placed.{differs_by}
use Rattle.tds_relay.proofs.steps.Reaching.{reached_on, reaches_next}

-- ---- What is lent is idle

abbrev IsLentIdle : ℕ → Seat → Type 0
IsLentIdle lease c = has_lease lease c ≡ true → c.line.stage ≡ line.Idle

idle_is : (stage : LineStage) → is_idle stage ≡ true → stage ≡ line.Idle
idle_is line.Idle e = refl
idle_is (line.Sending begun) e = absurd (let u : ⊥ = cc in u)
idle_is line.Reading e = absurd (let u : ⊥ = cc in u)
idle_is line.Cancelling e = absurd (let u : ⊥ = cc in u)
idle_is (line.Broken fault) e = absurd (let u : ⊥ = cc in u)

module _ (s : Service) (tidy : Tidy s) where
  others_lent : (c : Seat) → WithinIn s.given c → IsLentIdle (suc s.given) c
  others_lent c within = λ is. absurd (let u : false ≡ true = sym (next_other s.given c.place within) ∙ is in let v : ⊥ = cc in v)

  opened_idle : (b : Bool) (lease number : ℕ) (had : Bool) → (calls.opens {T = Token} s b).reply ≡ calls.Lent lease number had
      → (lease ≡ suc s.given) × Each (IsLentIdle (suc s.given)) (calls.opens {T = Token} s b).service.seats
  opened_idle false lease number had e = absurd (let u : calls.AllInUse ≡ calls.Lent lease number had = e in let v : ⊥ = cc in v)
  opened_idle true lease number had e = (
    (let u : calls.Lent (suc s.given) (suc s.last) false ≡ calls.Lent lease number had = e in cc),
    each_added (IsLentIdle (suc s.given)) (record { number = suc s.last; place = Leased (suc s.given); line = new_line }) s.seats
        (each_weaker (WithinIn s.given) (IsLentIdle (suc s.given)) (λ c within. others_lent c within) s.seats tidy.within) (λ is. refl),
  )

  lent_idle : (o : Option Seat) (lease number : ℕ) (had : Bool) → find_by is_lendable s.seats ≡ o → (calls.lends {T = Token} s o).reply ≡ calls.Lent lease number had
      → (lease ≡ suc s.given) × Each (IsLentIdle (suc s.given)) (calls.lends {T = Token} s o).service.seats
  lent_idle None lease number had e reply = opened_idle (nat_lt (length s.seats) s.max) lease number had reply
  lent_idle (Some c) lease number had e reply = (
    (let u : calls.Lent (suc s.given) c.number true ≡ calls.Lent lease number had = reply in cc),
    each_changed (WithinIn s.given) (IsLentIdle (suc s.given)) is_lendable (Some (Leased (suc s.given))) (line_after {T = Token} c.line (line.Mark Full ∷ [])) c s.seats e tidy.distinct tidy.within (λ x within other. others_lent x within)
        (λ own. full_idle c.line (idle_is c.line.stage (both_true (calls.is_free c.place) (is_idle c.line.stage) (found_meets is_lendable c s.seats e)))),
  )

rests_idle : (stage : session.Stage) → stage_of stage ≡ line.Idle → (rests_once stage ≡ true) × (cancel_out stage ≡ [])
rests_idle session.Idle e = (refl, refl)
rests_idle (session.Sending kind left packets) e = absurd (let u : ⊥ = cc in u)
rests_idle session.Reading e = absurd (let u : ⊥ = cc in u)
rests_idle session.Cancelling e = absurd (let u : ⊥ = cc in u)
rests_idle (session.Broken fault) e = absurd (let u : ⊥ = cc in u)

lent_rests : (lease number : ℕ) (had : Bool) (s t : services.Service) (client : ClientSession) → IsLed (service_in s) → service_in t ≡ (step {T = Token} (service_in s) calls.Lease).service
    → (step {T = Token} (service_in s) calls.Lease).reply ≡ calls.Lent lease number had → client_of lease t ≡ Some client → (rests_once client.stage ≡ true) × (cancel_out client.stage ≡ [])
lent_rests lease number had s t client led is reply there =
    let old : Service = service_in s in
    let k = lent_idle old (led_tidy old led) (find_by is_lendable old.seats) lease number had refl reply in
    let each : Each (IsLentIdle lease) (service_in t).seats =
    subst (λ (n : ℕ). Each (IsLentIdle n) (service_in t).seats) (sym k.0) (subst (λ (x : Service). Each (IsLentIdle (suc old.given)) x.seats) (sym is) k.1) in
    let x = line_at lease t client there in
    let idle : x.seat.line.stage ≡ line.Idle = each_found (IsLentIdle lease) (has_lease lease) x.seat (service_in t).seats each x.found (found_meets (has_lease lease) x.seat (service_in t).seats x.found) in
    rests_idle client.stage (sym x.stage ∙ idle)

-- so it is cleaned, and nothing is cancelled there
cleaned_once : (text before out : List ℕ) (b : Bool) (first : List ℕ) → b ≡ true → first ≡ [] → CleansOnce b text first out → IsCleaning text out
cleaned_once text before out false first is none k = absurd (let u : ⊥ = cc in u)
cleaned_once text before out true first is none k =
    let same : out ≡ k.out = k.appended ∙ ap (λ (xs : List ℕ). xs ++ k.out) none in
    subst (IsCleaning text) (sym same) k.is

pub brought_cleans : (text : List ℕ) (lease number : ℕ) (had : Bool) (s t : services.Service) (before after : List ℕ) → text ≡ text_of_cleaning → IsLed (service_in s)
    → service_in t ≡ (step {T = Token} (service_in s) calls.Lease).service → (step {T = Token} (service_in s) calls.Lease).reply ≡ calls.Lent lease number had
    → IsPutBehind (GoesOutAtEnd text (client_of lease t)) before after → IsPutBehind (IsCleaning text_of_cleaning) before after
brought_cleans text lease number had s t before after same led is reply p =
    let rests = lent_rests lease number had s t p.is.session led is reply p.is.was in
    record {
      out = p.out;
      is = subst (λ (ys : List ℕ). IsCleaning ys p.out) same (cleaned_once text before p.out (rests_once p.is.session.stage) (cancel_out p.is.session.stage) rests.0 rests.1 p.is.does);
      appended = p.appended;
    }

not_broken : (stage : session.Stage) → rests_once stage ≡ true → HasBroken stage → ⊥
not_broken session.Idle e broken = broken
not_broken (session.Sending kind left packets) e broken = broken
not_broken session.Reading e broken = broken
not_broken session.Cancelling e broken = broken
not_broken (session.Broken fault) e broken = let u : false ≡ true = e in let v : ⊥ = cc in v

-- and is there still
pub brought_there : (b : Bool) (lease number : ℕ) (had : Bool) (s t : services.Service) → IsLed (service_in s) → service_in t ≡ (step {T = Token} (service_in s) calls.Lease).service
    → (step {T = Token} (service_in s) calls.Lease).reply ≡ calls.Lent lease number had → (b ≡ false → IsBrokenFor (client_of lease t)) → b ≡ true
brought_there true lease number had s t led is reply shut = refl
brought_there false lease number had s t led is reply shut =
    let broken = shut refl in
    absurd (not_broken broken.0.stage (lent_rests lease number had s t broken.0 led is reply broken.1).0 broken.2)

-- ---- Nobody holds it

waited_first : (d : Pool) (lease number : ℕ) (had : Bool) (ks : List ℕ) → d.line ≡ ks → (step {T = Token} d.service calls.Lease).reply ≡ calls.Lent lease number had
    → (key : ℕ) × ((serves (turn d (pool.Waits 0)).pool (ks ++ 0 ∷ [])).pool.holds ≡ d.holds ++ holding key lease number ∷ [])
waited_first d lease number had [] e reply = (0, ap (λ (r : calls.Reply). (serves_by (turn d (pool.Waits 0)).pool 0 [] (lent_in r)).pool.holds) reply)
waited_first d lease number had (k ∷ ks) e reply = (k, ap (λ (r : calls.Reply). (serves_by (turn d (pool.Waits 0)).pool k (ks ++ 0 ∷ []) (lent_in r)).pool.holds) reply)

before_last : (x : Hold) (hs : List Hold) → Apart (hs ++ x ∷ []) → find_number x.number hs ≡ None
before_last x [] apart = refl
before_last x (y ∷ ys) apart =
    let other : (y.number == x.number) ≡ false = differs_by (y.number == x.number) y.number x.number refl (λ s. each_last (λ (z : Hold). z.number ≢ y.number) x ys apart.0 (sym s)) in
    rw other (before_last x ys apart.1)

pub lent_unheld : (d : Pool) (lease number : ℕ) (had : Bool) → IsReached d → (step {T = Token} d.service calls.Lease).reply ≡ calls.Lent lease number had → find_number number d.holds ≡ None
lent_unheld d lease number had reached reply =
    let one : Pool = (turn d (pool.Waits 0)).pool in
    let two : Pool = (turn one pool.Serves).pool in
    let led : IsReached two = reached_on (Application 0) d two (λ from h. reaches_next (Application 0) from one pool.Serves tt (reaches_next (Application 0) from d (pool.Waits 0) refl h)) reached in
    let k = waited_first d lease number had d.line refl reply in
    before_last (holding k.0 lease number) d.holds (subst Apart k.1 (apart_at two led))

-- ---- At a relay

module _ (lent : Type 0) (out : List ℕ) (is : IsCleaning text_of_cleaning out) (mid : Option (List ℕ)) (h : (mid ≡ None) ⊎ (mid ≡ Some out)) where
  first_is : (waits : List ℕ) → mid ≡ Some waits → (mid ≡ None) ⊎ (mid ≡ Some out) → waits ≡ out
  first_is waits e (inl none) = absurd (let u : Some waits ≡ None = sym e ∙ none in let v : ⊥ = cc in v)
  first_is waits e (inr same) = (let u : Some waits ≡ Some out = sym e ∙ same in cc)

  first_more : (waits new : List ℕ) (w : Option (List ℕ)) (f : (more : List ℕ) × (new ≡ waits ++ more)) → mid ≡ Some waits → w ≡ Some new → lent ⊎ ((w ≡ None) ⊎ (w ≡ mid)) → CleaningWaits lent (Some new)
  first_more waits new w f m e (inl l) =
      subst (λ (xs : List ℕ). CleaningWaits lent (Some xs)) (ap (λ (xs : List ℕ). xs ++ f.0) (sym (first_is waits m h)) ∙ sym f.1) (cleaning.IsThere out f.0 is (inr l))
  first_more waits new w f m e (inr (inl none)) = absurd (let u : Some new ≡ None = sym e ∙ none in let v : ⊥ = cc in v)
  first_more waits new w f m e (inr (inr same)) =
      let one : waits ≡ new = (let u : Some waits ≡ Some new = sym m ∙ sym same ∙ e in cc) in
      subst (λ (xs : List ℕ). CleaningWaits lent (Some xs)) (append-nil out ∙ sym (first_is waits m h) ∙ one) (cleaning.IsThere out [] is (inl refl))

  first_then : (seen now : Option Reading) (x y w : Option (List ℕ)) → x ≡ if_open seen mid → FillsAt x y → y ≡ if_open now w → lent ⊎ ((w ≡ None) ⊎ (w ≡ mid)) → CleaningWaits lent y
  first_then seen now x None w e f g c = cleaning.IsGone
  first_then seen now None (Some new) w e f g c = absurd f
  first_then seen now (Some waits) (Some new) w e f g c = first_more waits new w f (open_by seen mid waits (sym e)) (open_by now w new (sym g)) c

put_first : (out outbox : List ℕ) (had now : Option (List ℕ)) → outbox ≡ out → had ≡ Some [] → FillsBy outbox had now → (now ≡ None) ⊎ (now ≡ Some out)
put_first out outbox had None same e f = inl refl
put_first out outbox None (Some new) same e f = absurd f
put_first out outbox (Some waits) (Some new) same e f =
    let none : waits ≡ [] = (let u : Some waits ≡ Some [] = e in cc) in
    inr (ap (λ (xs : List ℕ). Some xs) (f ∙ ap (λ (xs : List ℕ). xs ++ outbox) none ∙ same))

brought_by : (d : Pool) (s : Service) (gives : Bool) (way : pool.Way) (o : Option pool.Loan) → (pool.brings_by d s gives way o).pool.holds ≡ d.holds
brought_by d s gives way None = refl
brought_by d s gives way (Some lent) = refl

pub brought_holds : (d e : Pool) (gives : Bool) (way : pool.Way) → e ≡ (turn d (pool.Brings gives way)).pool → e.holds ≡ d.holds
brought_holds d e gives way is =
    ap (λ (x : Pool). x.holds) is ∙ brought_by d (step {T = Token} d.service calls.Lease).service gives way (lent_in (step {T = Token} d.service calls.Lease).reply)

pub if_some : (P : Left → Type 0) (o : Option Left) (left : Left) → o ≡ Some left → IfSome o P → P left
if_some P o left is k = subst (λ (p : Option Left). IfSome p P) is k

pub first_waits : (number : ℕ) (ls ms : List Link) (l : Link) → ls ≡ [] → ms ≡ ls ++ l ∷ [] → l.number ≡ number → bytes_on l ≡ [] → waits_on number ms ≡ Some []
first_waits number ls ms l empty more is none =
    let here : (l.number == number) ≡ true = eq-eqb l.number number is in
    ap (waits_on number) (more ∙ ap (λ (xs : List Link). xs ++ l ∷ []) empty) ∙ ap (λ (b : Bool). option_map bytes_on (if b then Some l else None)) here ∙ ap (λ (xs : List ℕ). Some xs) none

pub first_served : (number : ℕ) (mid new : code.Relay) (before outbox : List ℕ) (had : Option (List ℕ)) → before ≡ [] → had ≡ Some [] → (p : IsPutBehind (IsCleaning text_of_cleaning) before outbox)
    → FillsBy outbox had (waits_on number mid.links.items) → find_number number mid.pool.holds.items ≡ None → OpensLinks mid.links.items new.links.items → LendsInLine mid new
    → CleaningWaits (IsSome (holder (pool_in new.pool) number)) (open_waits number new.links.items)
first_served number mid new before outbox had empty none p fills unheld opens lends =
    first_then (IsSome (holder (pool_in new.pool) number)) p.out p.is (waits_on number mid.links.items)
    (put_first p.out outbox had (waits_on number mid.links.items) (p.appended ∙ ap (λ (xs : List ℕ). xs ++ p.out) empty) none fills)
    (open_at number mid.links.items) (open_at number new.links.items) (open_waits number mid.links.items) (open_waits number new.links.items) (waits_on number new.links.items) refl (opens.fills number) refl
    (lent_or number mid new unheld (lends number))

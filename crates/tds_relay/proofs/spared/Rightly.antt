-- Where a request isn't kept though the connection that its application holds is ready for it.
use Rattle.std.proofs.Common.{◌≡◌, ◌⊎◌, ◌∙◌, ℕ, true, false, List, Option, Some, None, inl, inr, refl, sym, ap, subst}
use Rattle.std.specs.Prelude.{IsSome, Result, Ok, Err, OnOk}
use Rattle.tds_packet.specs.Reading.{Reading}
use Rattle.tds_relay.specs.declared.pool.Hold.{Hold}
use Rattle.tds_relay.specs.declared.link.Link.{Link}
use Rattle.tds_relay.specs.declared.relay.Relay as code
use Rattle.tds_relay.specs.Asking.{IsTakenBack}
use Rattle.tds_relay.specs.Bodies.{Astray, Body, Closed, Closes, Goes, Going, Kept, Nowhere, Starts, Stays as Remains, Strays, body_of, going_of}
use Rattle.tds_relay.specs.Core.{end_at}
use Rattle.tds_relay.specs.Fronts.{ends_in}
use Rattle.tds_relay.specs.Pool.{find_key}
use Rattle.tds_relay.specs.Reads.{LinksStay, open_at, seen_at}
use Rattle.tds_relay.specs.Sparing.{Drains, IsKept, IsUnkept, Opens}
use Rattle.tds_relay.specs.Taking.{IsDeaf}
use Rattle.tds_relay.specs.Waiting.{GoesOrWaits, IsRightlyKept}
use Rattle.tds_relay.proofs.spared.Starting.{unkept_closed}
use Rattle.tds_relay.proofs.spared.Turned.{some_seen}
use Rattle.tds_relay.proofs.steps.Bodied.{shut}
use Rattle.tds_relay.proofs.steps.Staying.{at_refl}

not_both : (b : Body) → IsKept b → IsUnkept b → ⊥
not_both Closed kept un = kept
not_both Nowhere kept un = kept
not_both (Kept kind bytes whole) kept un = un
not_both Astray kept un = kept
not_both (Going number client waits) kept un = kept

pub unkept_right : (key : ℕ) (r : code.Relay) → IsUnkept (body_of key r) → IsRightlyKept key r
unkept_right key r un = λ kept ready. not_both (body_of key r) kept un

-- it is to be closed
pub deaf_right : (key : ℕ) (r : code.Relay) → IsDeaf (end_at (ends_in r.applications) key) → IsRightlyKept key r
deaf_right key r deaf = unkept_right key r (unkept_closed (body_of key r) (shut r.applications key (going_of key r) deaf))

pub deaf_right_on : {A E : Type 0} (o : Result A E) (key : ℕ) (r : code.Relay) → OnOk o (IsDeaf (end_at (ends_in r.applications) key)) → OnOk o (IsRightlyKept key r)
deaf_right_on (Ok x) key r deaf = deaf_right key r deaf
deaf_right_on (Err e) key r deaf = tt

-- it holds none
pub unheld_right : (key : ℕ) (r : code.Relay) → find_key key r.pool.holds.items ≡ None → IsRightlyKept key r
unheld_right key r none = λ kept ready. (let u : None ≡ Some ready.hold = sym none ∙ ready.its in let v : ⊥ = cc in v)

pub waits_right_on : {A E : Type 0} (o : Result A E) (key : ℕ) (a b : code.Relay) → OnOk o (b.pool.holds.items ≡ a.pool.holds.items) → find_key key a.pool.holds.items ≡ None → OnOk o (IsRightlyKept key b)
waits_right_on (Ok x) key a b same none = unheld_right key b (ap (find_key key) same ∙ none)
waits_right_on (Err e) key a b same none = tt

-- it goes on, or is held back
pub held_right : (key : ℕ) (r : code.Relay) → GoesOrWaits key r → IsRightlyKept key r
held_right key r (inl un) = unkept_right key r un
held_right key r (inr (Drains back)) = λ kept ready. ready.drained back
held_right key r (inr (Opens hold its none)) = λ kept ready.
    let same : hold ≡ ready.hold = (let u : Some hold ≡ Some ready.hold = sym its ∙ ready.its in cc) in
    let shut : open_at ready.hold.number r.links.items ≡ None = subst (λ (h : Hold). open_at h.number r.links.items ≡ None) same none in
    let u : false ≡ true = subst (λ (o : Option Reading). IsSome o) shut ready.open_there in
    let v : ⊥ = cc in
    v

pub held_right_on : {A E : Type 0} (o : Result A E) (key : ℕ) (r : code.Relay) → OnOk o (GoesOrWaits key r) → OnOk o (IsRightlyKept key r)
held_right_on (Ok x) key r goes = held_right key r goes
held_right_on (Err e) key r goes = tt

pub back_right : (key : ℕ) (r : code.Relay) → IsTakenBack (end_at (ends_in r.applications) key) ⊎ IsDeaf (end_at (ends_in r.applications) key) → IsRightlyKept key r
back_right key r (inl back) = λ kept ready. ready.drained back
back_right key r (inr deaf) = deaf_right key r deaf

nowhere_by : {a b : Body} → Starts a b → a ≡ Nowhere → IsUnkept b
nowhere_by Remains e = subst IsUnkept (sym e) tt
nowhere_by Closes e = tt
nowhere_by Strays e = absurd (let u : Astray ≡ Nowhere = e in let v : ⊥ = cc in v)
nowhere_by (Goes waits out from puts) e = tt

-- nothing of it is left
pub forgotten_right : (key : ℕ) (r : code.Relay) → Starts Nowhere (body_of key r) → IsRightlyKept key r
forgotten_right key r starts = unkept_right key r (nowhere_by starts refl)

-- It is as it was where it holds the same, and no connection was opened, nothing was kept, and nothing acknowledged.
pub right_by : (key : ℕ) (a b : code.Relay) → b.pool.holds.items ≡ a.pool.holds.items
    → (IsTakenBack (end_at (ends_in a.applications) key) → IsTakenBack (end_at (ends_in b.applications) key)) → (IsKept (body_of key b) → IsKept (body_of key a))
    → ((n : ℕ) → IsSome (open_at n b.links.items) → IsSome (open_at n a.links.items)) → IsRightlyKept key a → IsRightlyKept key b
right_by key a b holds back kept opens right = λ k ready.
    right (kept k) (record {
      hold = ready.hold;
      its = ap (find_key key) (sym holds) ∙ ready.its;
      open_there = opens ready.hold.number ready.open_there;
      drained = λ taken. ready.drained (back taken);
    })

pub opens_before : (a b : List Link) → LinksStay a b → (n : ℕ) → IsSome (open_at n b) → IsSome (open_at n a)
opens_before a b stays n some = some_seen (seen_at n b) (seen_at n a) (stays.seen n (seen_at n a) (at_refl (seen_at n a))) some

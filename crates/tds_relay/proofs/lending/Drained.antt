-- A connection that nobody holds is cleaned, and nothing else is put there, as something comes on it.
use Rattle.std.proofs.Common.{◌≡◌, ◌≢◌, ◌⊎◌, ◌∙◌, ◌++◌, ◌+◌, ◌≤◌, ℕ, suc, arith, List, [], Option, Some, None, inl, inr, refl, sym, ap, subst, append_assoc, append-nil}
use Rattle.std.specs.Prelude.{IsNone, IsSome, Result, Ok, Err, OnOk}
use Rattle.tds_packet.specs.Reading.{Reading}
use Rattle.tds_relay.specs.declared.pool.Hold.{Hold}
use Rattle.tds_relay.specs.declared.pool.coming.Heard.{Heard}
use Rattle.tds_relay.specs.declared.pool.coming.What.{What}
use Rattle.tds_relay.specs.declared.pool.coming.What.TheVariants as whats
use Rattle.tds_relay.specs.declared.link.Link.{Link}
use Rattle.tds_relay.specs.declared.relay.Relay as code
use Rattle.tds_relay.specs.Cleaning as cleaning
use Rattle.tds_relay.specs.Cleaning.{AreByLeases, CleansAlone, CleansOn, CountsHeard, CountsWhat, IsCleaning, MayClean, PutsByLease, text_of_cleaning}
use Rattle.tds_relay.specs.Pool.{find_number, key_of, whose}
use Rattle.tds_relay.specs.Core.{holder}
use Rattle.tds_relay.specs.Handing.{heard_key}
use Rattle.tds_relay.specs.Lent.{LendsInLine}
use Rattle.tds_relay.specs.Machine.{Machine}
use Rattle.tds_relay.specs.Reads.{FillsAt, FillsBy, Opens as OpensLinks, if_open, open_at, open_waits, reader_at, waits_on}
use Rattle.tds_relay.specs.Reasons.{Cleans, HearsNothing, IsHeardAs, IsIdle, IsLeftOpen}
use Rattle.tds_relay.specs.Sending.{sending_at}
use Rattle.tds_relay.specs.Ties.{IsReached, LedOn, pool_in}
use Rattle.tds_relay.proofs.spared.Cleaned.{waits_none}
use Rattle.tds_relay.proofs.spared.Freeing.{lent_or, open_by}
use Rattle.tds_relay.proofs.lending.Leases.{on_given}
use Rattle.tds_relay.proofs.spared.Off.{waits_sent}
use Rattle.tds_relay.proofs.spared.Only.{HeardApart, apart_or}

-- ---- What is put

pub cleans_nothing : (n : ℕ) (w : Option (List ℕ)) → CleansAlone n n w w
cleans_nothing n None = tt
cleans_nothing n (Some waits) = ([], record { count = 0; are = cleaning.NoCleaning; by_leases = (let u : n + 0 ≤ n = omega arith in u) }, sym (append-nil waits))

no_more : (from at to : ℕ) (out : List ℕ) → at ≤ to → AreByLeases from at out → AreByLeases from to out
no_more from at to out le a =
    let count : ℕ = a.count in
    let had : from + count ≤ at = a.by_leases in
    record { count = count; are = a.are; by_leases = (let u : from + count ≤ to = omega (arith, le, had) in u) }

and_one : (from at to : ℕ) (out more : List ℕ) → suc at ≤ to → IsCleaning text_of_cleaning more → AreByLeases from at out → AreByLeases from to (out ++ more)
and_one from at to out more le is a =
    let count : ℕ = a.count in
    let had : from + count ≤ at = a.by_leases in
    record { count = suc count; are = cleaning.AndACleaning count out more a.are is; by_leases = (let u : from + suc count ≤ to = omega (arith, le, had) in u) }

module _ (from at to : ℕ) (w y new outbox : List ℕ) (who : Option ℕ) (k : (out : List ℕ) × AreByLeases from at out × (y ≡ w ++ out)) (f : new ≡ y ++ outbox) (le : at ≤ to) where
  as_before : outbox ≡ [] → (out : List ℕ) × AreByLeases from to out × (new ≡ w ++ out)
  as_before none = (k.0, no_more from at to k.0 le k.1, f ∙ ap (λ (xs : List ℕ). y ++ xs) none ∙ append-nil y ∙ k.2)

  one_more : MayClean who [] outbox → PutsByLease [] outbox at to → (out : List ℕ) × AreByLeases from to out × (new ≡ w ++ out)
  one_more m (inl none) = as_before none
  one_more (inl none) (inr lt) = as_before none
  one_more (inr x) (inr lt) = (
    k.0 ++ x.1.out,
    and_one from at to k.0 x.1.out lt x.1.is k.1,
    f ∙ ap (λ (xs : List ℕ). y ++ xs) x.1.appended ∙ ap (λ (xs : List ℕ). xs ++ x.1.out) k.2 ∙ append_assoc w k.0 x.1.out,
  )

cleans_more : (from at to : ℕ) (w x y : Option (List ℕ)) (outbox : List ℕ) (who : Option ℕ) → at ≤ to → CleansAlone from at w x → FillsBy outbox x y → MayClean who [] outbox → PutsByLease [] outbox at to → CleansAlone from to w y
cleans_more from at to w x None outbox who le k f m p = tt
cleans_more from at to w None (Some new) outbox who le k f m p = absurd f
cleans_more from at to None (Some y) (Some new) outbox who le k f m p = absurd k
cleans_more from at to (Some w) (Some y) (Some new) outbox who le k f m p = one_more from at to w y new outbox who k f le m p

-- ---- By one packet

closed_or : (w : What) → (w ≡ whats.Closed) ⊎ (w ≢ whats.Closed)
closed_or whats.Goes = inr (λ e. let u : ⊥ = cc in u)
closed_or whats.Finished = inr (λ e. let u : ⊥ = cc in u)
closed_or whats.Acknowledged = inr (λ e. let u : ⊥ = cc in u)
closed_or whats.Closed = inl refl

no_key : (o : Option ℕ) → ((key : ℕ) → o ≢ Some key) → o ≡ None
no_key None f = refl
no_key (Some key) f = absurd (f key refl)

lost_alone : (from to : ℕ) (w : Option (List ℕ)) (number : ℕ) (c : code.Relay) → reader_at number c.links.items ≡ None → CleansAlone from to w (waits_on number c.links.items)
lost_alone from to w number c gone = subst (CleansAlone from to w) (sym (waits_none number c.links.items gone)) tt

closed_alone : (w : What) (key : Option ℕ) (number : ℕ) (b c : code.Relay) → w ≡ whats.Closed → key ≡ None → CountsWhat w key number b c → reader_at number c.links.items ≡ None
closed_alone w key number b c closed none counts =
    (subst (λ (o : Option ℕ). CountsWhat whats.Closed o number b c) none (subst (λ (x : What). CountsWhat x key number b c) closed counts)).1

heard_by : (from at to : ℕ) (o : Option Heard) (who : Option ℕ) (number : ℕ) (w : Option (List ℕ)) (b c : code.Relay) → at ≤ to → heard_key o ≡ None → Cleans who o [] b.outbox.items → (IsLeftOpen o → PutsByLease [] b.outbox.items at to)
    → (IsNone o → reader_at number c.links.items ≡ None) → CountsHeard number o b c
    → FillsBy b.outbox.items (waits_on number b.links.items) (waits_on number c.links.items) → CleansAlone from at w (waits_on number b.links.items) → CleansAlone from to w (waits_on number c.links.items)
heard_by from at to None who number w b c le none cleans leases gone counts fills k = lost_alone from to w number c (gone refl)
heard_by from at to (Some h) who number w b c le none cleans leases gone counts fills k =
    elim (closed_or h.what) [
      | inl closed ↦ lost_alone from to w number c (closed_alone h.what h.key number b c closed none counts)
      | inr stays ↦ cleans_more from at to w (waits_on number b.links.items) (waits_on number c.links.items) b.outbox.items who le k fills (cleans stays) (leases stays)
    ]

by_then : (outbox : List ℕ) (at mid to : ℕ) → mid ≤ to → PutsByLease [] outbox at mid → PutsByLease [] outbox at to
by_then outbox at mid to le (inl none) = inl none
by_then outbox at mid to le (inr lt) = inr (let u : suc at ≤ to = omega (arith, le, lt) in u)

pub one_cleans : (number from : ℕ) (left : List ℕ) (o : Option Heard) (w : Option (List ℕ)) (a b c : code.Relay) (new : Machine) → IsReached (pool_in a.pool) → a.pool.service.given ≤ b.pool.service.given → b.pool.service.given ≤ c.pool.service.given
    → (IsLeftOpen o → PutsByLease [] b.outbox.items a.pool.service.given b.pool.service.given) → ((key : ℕ) → holder (pool_in a.pool) number ≢ Some key)
    → (HearsNothing o × IsIdle a b) ⊎ IsHeardAs number left o a new → new.core.pool ≡ pool_in b.pool → (IsReached (pool_in a.pool) → Cleans (whose (pool_in a.pool) number) o [] b.outbox.items)
    → ((other : ℕ) → sending_at other b.links.items ≡ sending_at other a.links.items) → (IsNone o → reader_at number c.links.items ≡ None) → CountsHeard number o b c
    → (heard_key o ≡ None → FillsBy b.outbox.items (waits_on number b.links.items) (waits_on number c.links.items)) → CleansAlone from a.pool.service.given w (waits_on number a.links.items)
    → CleansAlone from c.pool.service.given w (waits_on number c.links.items)
one_cleans number from left o w a b c new reached heard done leases free hears same cleans sends gone counts fills k =
    let x : ℕ = a.pool.service.given in
    let y : ℕ = b.pool.service.given in
    let z : ℕ = c.pool.service.given in
    let first : x ≤ y = heard in
    let then : y ≤ z = done in
    let apart : HeardApart number o (pool_in a.pool) (pool_in b.pool) = apart_or number left o a b new reached hears same in
    let nobody : heard_key o ≡ None = no_key (heard_key o) (λ key e. free key (apart.whose key e)) in
    heard_by from x z o (whose (pool_in a.pool) number) number w b c (let u : x ≤ z = omega (arith, first, then) in u) nobody (cleans reached) (λ stays. by_then b.outbox.items x y z then (leases stays)) gone counts (fills nobody)
    (subst (CleansAlone from x w) (sym (waits_sent number a.links.items b.links.items (sends number))) k)

-- ---- What goes out by it is sent

pub not_left : (w v : What) → w ≡ v → v ≢ whats.Closed → w ≢ whats.Closed
not_left w v is other = λ e. other (sym is ∙ e)

pub sent_there : (number : ℕ) (a t b : code.Relay) → t.outbox.items ≡ a.outbox.items → t.links.items ≡ a.links.items → FillsBy t.outbox.items (waits_on number t.links.items) (waits_on number b.links.items)
    → FillsBy a.outbox.items (waits_on number a.links.items) (waits_on number b.links.items)
sent_there number a t b outbox links fills =
    subst (λ (xs : List ℕ). FillsBy xs (waits_on number a.links.items) (waits_on number b.links.items)) outbox
    (subst (λ (ls : List Link). FillsBy t.outbox.items (waits_on number ls) (waits_on number b.links.items)) links fills)

-- ---- And those who wait are served

more_behind : (from at : ℕ) (lent : Type 0) (a waits new : List ℕ) (v w : Option (List ℕ)) (k : (out : List ℕ) × AreByLeases from at out × (waits ≡ a ++ out)) (f : (more : List ℕ) × (new ≡ waits ++ more)) → v ≡ Some waits → w ≡ Some new
    → lent ⊎ ((w ≡ None) ⊎ (w ≡ v)) → (out : List ℕ) × (more : List ℕ) × AreByLeases from at out × (new ≡ (a ++ out) ++ more) × ((more ≡ []) ⊎ lent)
more_behind from at lent a waits new v w k f m e (inl l) = (k.0, f.0, k.1, f.1 ∙ ap (λ (xs : List ℕ). xs ++ f.0) k.2, inr l)
more_behind from at lent a waits new v w k f m e (inr (inl none)) = absurd (let u : Some new ≡ None = sym e ∙ none in let x : ⊥ = cc in x)
more_behind from at lent a waits new v w k f m e (inr (inr same)) =
    let is : new ≡ waits = (let u : Some new ≡ Some waits = sym e ∙ same ∙ m in cc) in
    (k.0, [], k.1, is ∙ k.2 ∙ sym (append-nil (a ++ k.0)), inl refl)

alone_then : (from at : ℕ) (lent : Type 0) (seen now : Option Reading) (o v x y w : Option (List ℕ)) → CleansAlone from at o v → x ≡ if_open seen v → FillsAt x y → y ≡ if_open now w → lent ⊎ ((w ≡ None) ⊎ (w ≡ v)) → CleansOn from at lent o y
alone_then from at lent seen now o v x None w k e f g c = tt
alone_then from at lent seen now o v None (Some new) w k e f g c = absurd f
alone_then from at lent seen now None v (Some waits) (Some new) w k e f g c = absurd (subst (CleansAlone from at None) (open_by seen v waits (sym e)) k)
alone_then from at lent seen now (Some a) v (Some waits) (Some new) w k e f g c =
    more_behind from at lent a waits new v w (subst (CleansAlone from at (Some a)) (open_by seen v waits (sym e)) k) f (open_by seen v waits (sym e)) (open_by now w new (sym g)) c

pub unheld : (o : Option Hold) → ((key : ℕ) → key_of o ≢ Some key) → o ≡ None
unheld None f = refl
unheld (Some h) f = absurd (f h.key refl)

pub alone_on : (from at to : ℕ) (o v : Option (List ℕ)) → at ≤ to → CleansAlone from at o v → CleansAlone from to o v
alone_on from at to o None le k = tt
alone_on from at to None (Some new) le k = absurd k
alone_on from at to (Some waits) (Some new) le k = (k.0, no_more from at to k.0 le k.1, k.2)

pub served_alone : {A E : Type 0} (r : Result A E) (number from : ℕ) (o : Option (List ℕ)) (mid new : code.Relay) → IsReached (pool_in mid.pool) → OnOk r (LedOn (pool_in mid.pool) (pool_in new.pool))
    → CleansAlone from mid.pool.service.given o (waits_on number mid.links.items) → ((key : ℕ) → holder (pool_in mid.pool) number ≢ Some key)
    → OnOk r (OpensLinks mid.links.items new.links.items) → OnOk r (LendsInLine mid new) → OnOk r (CleansOn from new.pool.service.given (IsSome (holder (pool_in new.pool) number)) o (open_waits number new.links.items))
served_alone (Ok x) number from o mid new reached on k free opens lends =
    alone_then from new.pool.service.given (IsSome (holder (pool_in new.pool) number)) (open_at number mid.links.items) (open_at number new.links.items) o (waits_on number mid.links.items) (open_waits number mid.links.items)
    (open_waits number new.links.items) (waits_on number new.links.items)
    (alone_on from mid.pool.service.given new.pool.service.given o (waits_on number mid.links.items) (on_given (pool_in mid.pool) (pool_in new.pool) reached on) k) refl (opens.fills number) refl
    (lent_or number mid new (unheld (find_number number mid.pool.holds.items) free) (lends number))
served_alone (Err x) number from o mid new reached on k free opens lends = tt

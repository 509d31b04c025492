-- Requests, as something comes on a connection.
use Rattle.std.proofs.Common.{◌≡◌, ◌⊎◌, ℕ, Bool, true, false, List, Option, Some, None, inl, inr, sym, ap, subst, if◌then◌else◌}
use Rattle.std.specs.Prelude.{Result, Ok, Err, OnOk}
use Rattle.slab.specs.Slab.{Slab, get}
use Rattle.tds_client.specs.Session.{ClientSession}
use Rattle.tds_service.specs.declared.service.Service as services
use Rattle.tds_service.specs.Table.{client_of}
use Rattle.tds_relay.specs.declared.application.Application.{Application}
use Rattle.tds_relay.specs.declared.state.Asking.{Asking}
use Rattle.tds_relay.specs.declared.state.Asking.TheVariants as asking
use Rattle.tds_relay.specs.declared.pool.Hold.{Hold}
use Rattle.tds_relay.specs.declared.link.Link.{Link}
use Rattle.tds_relay.specs.declared.relay.Relay as code
use Rattle.tds_relay.specs.Bodies.{AskAsBefore, AskOn, Astray, Body, Closed, Going, Kept, Nowhere, Spared, Starts, body_by, body_in, body_of, going, going_by, going_of}
use Rattle.tds_relay.specs.Coming.{AllAlong, Begins, Ends, GoesAlong, Hears, HearsOn, IsGoing, MayBeDone, Reads, Waits}
use Rattle.tds_relay.specs.Pool.{find_key}
use Rattle.tds_relay.specs.Reads.{waits_on}
use Rattle.tds_relay.specs.Sparing.{AllGo, AllRest, IsUnkept, OthersRest}
use Rattle.tds_relay.specs.Ties.{Connection, LedTo, IsReached, pool_in}
use Rattle.tds_relay.proofs.lending.Resting.{go_one, rests_start}
use Rattle.tds_relay.proofs.steps.Reaching.{reached_on}
use Rattle.tds_relay.specs.Places.{is_closed, own_asking, own_held}

-- ---- One after the other

pub along_then : {a b c : Body} → GoesAlong a b → GoesAlong b c → GoesAlong a c
along_then Ends k = k
along_then (Begins s more) k = Begins s (along_then more k)
along_then (Hears h more) k = Hears h (along_then more k)

pub along_refl : (r : code.Relay) → AllAlong r r
along_refl r = record { along = λ key. Ends }

pub along_both : (a b c : code.Relay) → AllAlong a b → AllAlong b c → AllAlong a c
along_both a b c h k = record { along = λ key. along_then (h.along key) (k.along key) }

pub along_on : {A E : Type 0} (r : Result A E) (a b c : code.Relay) → AllAlong a b → OnOk r (AllAlong b c) → OnOk r (AllAlong a c)
along_on (Ok x) a b c h k = along_both a b c h k
along_on (Err e) a b c h k = tt

-- ---- What goes on

by_going : (number : ℕ) (o : Option ClientSession) (waits : Option (List ℕ)) → IsGoing (going_by number o waits)
by_going number None waits = tt
by_going number (Some client) None = tt
by_going number (Some client) (Some bytes) = tt

is_going : (s : services.Service) (ls : List Link) (o : Option Hold) → IsGoing (going s ls o)
is_going s ls None = tt
is_going s ls (Some hold) = by_going hold.number (client_of hold.lease s) (waits_on hold.number ls)

pub goes_there : (key : ℕ) (r : code.Relay) → IsGoing (going_of key r)
goes_there key r = is_going r.pool.service r.links.items (find_key key r.pool.holds.items)

unkept : (b : Body) → IsGoing b → IsUnkept b
unkept Closed goes = absurd goes
unkept Nowhere goes = absurd goes
unkept (Kept kind bytes whole) goes = absurd goes
unkept Astray goes = tt
unkept (Going number client waits) goes = tt

hears_by : (b : Bool) (asks : Asking) (held : List ℕ) (from to : Body) → HearsOn from to → HearsOn (if b then Closed else body_by asks held from) (if b then Closed else body_by asks held to)
hears_by true asks held from to h = Waits
hears_by false asking.Nothing held from to h = Waits
hears_by false (asking.Waits kind whole) held from to h = Waits
hears_by false asking.Goes held from to h = h

hears_in : (o : Option Application) (from to : Body) → HearsOn from to → HearsOn (body_in o from) (body_in o to)
hears_in None from to h = Waits
hears_in (Some a) from to h = hears_by (is_closed a) (own_asking a) (own_held a) from to h

-- wherever it goes on
anywhere : (key : ℕ) (old new : code.Relay) → HearsOn (body_of key old) (body_in (get old.applications key) (going_of key new))
anywhere key old new = hears_in (get old.applications key) (going_of key old) (going_of key new) (Reads (goes_there key old) (unkept (going_of key new) (goes_there key new)))

-- ---- Where what they ask stays, or is done

done_by : (from to goes : Body) → IsGoing goes → Spared from to ⊎ ((from ≡ goes) × (to ≡ Nowhere)) → GoesAlong from to
done_by from to goes is (inl spared) = Begins (rests_start from to (inl spared)) Ends
done_by from to goes is (inr done) =
    Hears (subst (λ (b : Body). HearsOn b to) (sym done.0) (subst (λ (b : Body). HearsOn goes b) (sym done.1) (Reads is tt))) Ends

pub done_along : (old new : code.Relay) → MayBeDone old.applications new.applications → AllAlong old new
done_along old new may = record {
  along = λ key.
      let goes : Body = going_of key new in
      Hears (anywhere key old new) (done_by (body_in (get old.applications key) goes) (body_of key new) goes (goes_there key new) (may key goes));
}

pub asks_along : (old new : code.Relay) → AskOn old.applications new.applications → AllAlong old new
asks_along old new asks = done_along old new (λ key goes. inl (asks key goes))

-- and then they ask on
pub told_along : (old mid new : code.Relay) → MayBeDone old.applications mid.applications → AskOn mid.applications new.applications → IsReached (pool_in old.pool) → AllAlong old new
told_along old mid new done asks reached = along_both old mid new (done_along old mid done) (asks_along mid new asks)

pub same_along : (old new : code.Relay) → AskAsBefore old.applications new.applications → AllAlong old new
same_along old new asks = asks_along old new (λ key goes. inl (asks key goes))

pub alike_along : (old new : code.Relay) → new.applications ≡ old.applications → AllAlong old new
alike_along old new same = same_along old new (λ key goes. ap (λ (s : Slab Application). body_in (get s key) goes) same)

pub asks_along_on : {A E : Type 0} (r : Result A E) (old new : code.Relay) → OnOk r (AskOn old.applications new.applications) → OnOk r (AllAlong old new)
asks_along_on (Ok x) old new asks = asks_along old new asks
asks_along_on (Err e) old new asks = tt

pub same_along_on : {A E : Type 0} (r : Result A E) (old new : code.Relay) → OnOk r (AskAsBefore old.applications new.applications) → OnOk r (AllAlong old new)
same_along_on (Ok x) old new asks = same_along old new asks
same_along_on (Err e) old new asks = tt

-- ---- Where they stay, or start

pub rest_along : {A E : Type 0} (r : Result A E) (old new : code.Relay) → OnOk r (AllRest old new) → OnOk r (AllAlong old new)
rest_along (Ok x) old new h = record { along = λ key. Begins (rests_start (body_of key old) (body_of key new) (h.rest key)) Ends }
rest_along (Err e) old new h = tt

pub go_along : {A E : Type 0} (r : Result A E) (old new : code.Relay) → IsReached (pool_in old.pool) → OnOk r (AllGo old new) → OnOk r (AllAlong old new)
go_along (Ok x) old new reached h = record { along = λ key. Begins (h.go reached key) Ends }
go_along (Err e) old new reached h = tt

pub start_along : {A E : Type 0} (r : Result A E) (key : ℕ) (old new : code.Relay) → IsReached (pool_in old.pool) → OnOk r (Starts (body_of key old) (body_of key new)) → (IsReached (pool_in old.pool) → OnOk r (OthersRest key old new))
    → OnOk r (AllAlong old new)
start_along (Ok x) key old new reached own others = record { along = λ k. Begins ((go_one key old new own others).go reached k) Ends }
start_along (Err e) key old new reached own others = tt

pub body_along : {A E : Type 0} (r : Result A E) (a b c : code.Relay) → AllAlong a b → ((key : ℕ) → body_of key c ≡ body_of key b) → OnOk r (AllAlong a c)
body_along (Ok x) a b c h same = record { along = λ key. subst (λ (y : Body). GoesAlong (body_of key a) y) (sym (same key)) (h.along key) }
body_along (Err e) a b c h same = tt

-- ---- One packet

pub one_along : (number : ℕ) (a b c d : code.Relay) → IsReached (pool_in a.pool) → AllAlong a b → LedTo (Connection number) (pool_in a.pool) (pool_in b.pool) → LedTo (Connection number) (pool_in b.pool) (pool_in c.pool)
    → AskAsBefore b.applications c.applications → (IsReached (pool_in c.pool) → AllAlong c d) → AllAlong a d
one_along number a b c d reached h first next asks k =
    along_both a b d h (along_both b c d (same_along b c asks) (k (reached_on (Connection number) (pool_in a.pool) (pool_in c.pool) (λ from led. next from (first from led)) reached)))

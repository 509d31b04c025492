-- The client of a number, lent to whoever carries its packets.
use Rattle.std.proofs.Common.{◌≡◌, ◌∙◌, ℕ, Bool, true, false, not, List, Option, Some, None, Result, refl, sym, ap, subst, cond}
use Rattle.std.specs.Prelude.{IsSome, IfOk, option_map}
use Rattle.tds_client.specs.Sending.{Does, sent}
use Rattle.tds_client.specs.Session.{ClientSession}
use Rattle.tds_client.specs.Taking.{Takes, taken_of}
use Rattle.tds_client.specs.declared.fault.ClientFault.{ClientFault}
use Rattle.tds_client.specs.declared.fault.ClientRefusal.{ClientRefusal}
use Rattle.tds_client.specs.declared.state.Sent.{Sent}
use Rattle.tds_client.specs.declared.state.Taken.{Taken}
use Rattle.tds_packet.specs.declared.reader.PacketRef.{PacketRef}
use Rattle.tds_token.specs.declared.token.Token.{Token}
use Rattle.tds_pool.specs.Calls.{is_cleaning, only}
use Rattle.tds_pool.specs.Cleaning.{carried, client_at, client_or_new, is_cleaned}
use Rattle.tds_pool.specs.Connections.{Connection, numbered, with_client}
use Rattle.tds_pool.proofs.Others.{changed_here}

-- ---- One that is being cleaned is carried by nobody

abbrev Carried : Option Connection → Option Connection
Carried o = only (λ (c : Connection). not (is_cleaning c.place)) o

by_place : (b : Bool) (c : Connection) → b ≡ true → cond (not b) (Some c) None ≡ None
by_place true c h = refl
by_place false c h = absurd (cc)

and_else : (b : Bool) (c : Connection) → b ≡ false → cond (not b) (Some c) None ≡ Some c
and_else true c h = absurd (cc)
and_else false c h = refl

none_carried : (o : Option Connection) → is_cleaned o ≡ true → Carried o ≡ None
none_carried None h = refl
none_carried (Some c) h = by_place (is_cleaning c.place) c h

all_carried : (o : Option Connection) → is_cleaned o ≡ false → Carried o ≡ o
all_carried None h = refl
all_carried (Some c) h = and_else (is_cleaning c.place) c h

pub not_lent : (n : ℕ) (cs : List Connection) → is_cleaned (numbered n cs) ≡ true → None ≡ option_map (λ (c : Connection). c.client) (carried n cs)
not_lent n cs h = sym (ap (option_map (λ (c : Connection). c.client)) (none_carried (numbered n cs) h))

pub not_written : (n : ℕ) (cs : List Connection) → is_cleaned (numbered n cs) ≡ true → IsSome (carried n cs) → ⊥
not_written n cs h some = let bad : IsSome {T = Connection} None = subst (λ o. IsSome o) (none_carried (numbered n cs) h) some in absurd (cc)

pub as_numbered : (n : ℕ) (cs : List Connection) → is_cleaned (numbered n cs) ≡ false → carried n cs ≡ numbered n cs
as_numbered n cs h = all_carried (numbered n cs) h

-- ---- What was lent

abbrev client_of : Option Connection → Option ClientSession
client_of o = option_map (λ (c : Connection). c.client) o

some_there : (o : Option Connection) (s : ClientSession) → Some s ≡ client_of o → IsSome o
some_there None s h = absurd (cc)
some_there (Some c) s h = refl

some_was : (o : Option Connection) (s : ClientSession) → Some s ≡ client_of o → client_or_new o ≡ s
some_was None s h = absurd (cc)
some_was (Some c) s h = ap (seen s) (sym h) where
  seen : ClientSession → Option ClientSession → ClientSession
  seen s None = s
  seen s (Some t) = t

pub client_there : (n : ℕ) (cs : List Connection) (s : ClientSession) → Some s ≡ option_map (λ (c : Connection). c.client) (numbered n cs) → IsSome (numbered n cs)
client_there n cs s h = some_there (numbered n cs) s h

pub client_was : (n : ℕ) (cs : List Connection) (s : ClientSession) → Some s ≡ option_map (λ (c : Connection). c.client) (numbered n cs) → client_at n cs ≡ s
client_was n cs s h = some_was (numbered n cs) s h

mapped : (o : Option Connection) (t : ClientSession) → IsSome o → client_or_new (option_map (λ (c : Connection). record c { client = t }) o) ≡ t
mapped None t h = absurd (cc)
mapped (Some c) t h = refl

pub client_then : (n : ℕ) (cs xs : List Connection) (t : ClientSession) → IsSome (numbered n cs) → xs ≡ with_client n t cs → client_at n xs ≡ t
client_then n cs xs t there is =
    ap (client_at n) is
    ∙ ap client_or_new (changed_here n (λ (c : Connection). record c { client = t }) cs (λ c. refl))
    ∙ mapped (numbered n cs) t there

pub takes_by : (r : Result Taken ClientFault) (packet : PacketRef) (s t was then : ClientSession) (xs ys : List Token) → was ≡ s → then ≡ t
    → IfOk r (λ answer. Takes (taken_of s packet) answer s t xs ys) → IfOk r (λ answer. Takes (taken_of was packet) answer was then xs ys)
takes_by r packet s t was then xs ys e f h =
    subst (λ (x : ClientSession). IfOk r (λ answer. Takes (taken_of x packet) answer x then xs ys)) (sym e)
    (subst (λ (x : ClientSession). IfOk r (λ answer. Takes (taken_of s packet) answer s x xs ys)) (sym f) h)

pub sends_by : (r : Result Sent ClientRefusal) (s t was then : ClientSession) (xs ys : List ℕ) → was ≡ s → then ≡ t
    → IfOk r (λ answer. Does (sent s) answer t xs ys) → IfOk r (λ answer. Does (sent was) answer then xs ys)
sends_by r s t was then xs ys e f h =
    subst (λ (x : ClientSession). IfOk r (λ answer. Does (sent x) answer then xs ys)) (sym e)
    (subst (λ (x : ClientSession). IfOk r (λ answer. Does (sent s) answer x xs ys)) (sym f) h)

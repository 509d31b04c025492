-- What each application holds at a pool, behind what another does.
use Rattle.std.proofs.Common.{◌≡◌, ◌≢◌, ◌∙◌, ◌==◌, ◌+◌, ◌++◌, ℕ, Bool, true, false, not, List, [], ◌∷◌, Option, Some, None, inl, inr, refl, sym, ap, subst, arith, option_map, if◌then◌else◌}
use Rattle.std.specs.Prelude.{filter}
use Rattle.std.proofs.lemmas.Bool.{eqb-true, eq-eqb}
use Rattle.tds_client.specs.Session.{ClientSession}
use Rattle.tds_service.specs.declared.seat.Seat as seats
use Rattle.tds_service.specs.declared.service.Service as services
use Rattle.tds_service.specs.Service.{Leased, Seat, find_by, has_lease, has_number, seat_numbered}
use Rattle.tds_service.specs.Table.{KeepsClients, KeepsClientsOff, client_by, client_of, seat_in, seats_in}
use Rattle.tds_relay.specs.declared.pool.Pool as pools
use Rattle.tds_relay.specs.declared.pool.Hold.{Hold}
use Rattle.tds_relay.specs.Pool.{Pool, find_key, find_lease, find_number, key_of, without_number}
use Rattle.tds_relay.specs.Promises.{Each}
use Rattle.tds_relay.specs.Sparing.{AllHold, HeldConnection, HoldsOn, IsOff, OffHold, OthersHold, held_at, held_with_client}
use Rattle.tds_relay.specs.Ties.{IsReached, pool_in}
use Rattle.tds_relay.proofs.ends.Folding.{always_sits}
use Rattle.tds_relay.proofs.held.Lists.{found_key}
use Rattle.tds_relay.proofs.held.Seated.{AllSit, each_found_by, each_key}
use Rattle.tds_relay.proofs.held.Sitting.{Sits}
use Rattle.tds_relay.proofs.promises.Bringing.{always_sound}
use Rattle.tds_relay.proofs.promises.Caring.{Sound, found_held}
use Rattle.tds_relay.proofs.promises.Holding.{found_by_lease, none_above}
use Rattle.tds_relay.proofs.promises.Promised.{found_numbered}

-- ---- At a pool that was reached

pub sound_at : (d : Pool) → IsReached d → Sound d
sound_at d r = subst Sound r.2 (always_sound r.0 r.1)

pub sits_at : (d : Pool) → IsReached d → AllSit d
sits_at d r = subst AllSit r.2 (always_sits r.0 r.1)

-- no two hold by one lease
pub lease_apart : (d : Pool) (key other : ℕ) (g h : Hold) → Sound d → find_key key d.holds ≡ Some g → find_key other d.holds ≡ Some h → other ≢ key → h.lease ≢ g.lease
lease_apart d key other g h sound its theirs differs = λ e.
    let one : find_lease g.lease d.holds ≡ Some g = found_by_lease key 0 d.service.given g d.holds sound.rising its in
    let two : find_lease h.lease d.holds ≡ Some h = found_by_lease other 0 d.service.given h d.holds sound.rising theirs in
    let three : find_lease g.lease d.holds ≡ Some h = subst (λ (l : ℕ). find_lease l d.holds ≡ Some h) e two in
    let same : h ≡ g = (let u : Some h ≡ Some g = sym three ∙ one in cc) in
    differs (sym (eqb-true h.key other (found_key other h d.holds theirs)) ∙ ap (λ (x : Hold). x.key) same ∙ eqb-true g.key key (found_key key g d.holds its))

-- nor by one that is given later
pub lease_given : (d : Pool) (key : ℕ) (h : Hold) → Sound d → find_key key d.holds ≡ Some h → h.lease ≢ d.service.given + 1
lease_given d key h sound its = λ e.
    let held : find_lease h.lease d.holds ≡ Some h = found_by_lease key 0 d.service.given h d.holds sound.rising its in
    let none : find_lease h.lease d.holds ≡ None = none_above 0 d.service.given h.lease d.holds sound.rising (omega (arith, e)) in
    let u : None ≡ Some h = sym none ∙ held in
    let v : ⊥ = cc in v

-- ---- Where there is a client, there is a connection

found_if : (b : Bool) (test : Seat → Bool) (c : seats.Seat) (cs : List seats.Seat) (client : ClientSession) → (if b then Some c.connection.client else client_by test cs) ≡ Some client
    → (client_by test cs ≡ Some client → (x : Seat) × (find_by test (seats_in cs) ≡ Some x)) → (x : Seat) × ((if b then Some (seat_in c) else find_by test (seats_in cs)) ≡ Some x)
found_if true test c cs client e later = (seat_in c, refl)
found_if false test c cs client e later = later e

pub client_found : (test : Seat → Bool) (cs : List seats.Seat) (client : ClientSession) → client_by test cs ≡ Some client → (x : Seat) × (find_by test (seats_in cs) ≡ Some x)
client_found test [] client e = absurd (let u : ⊥ = cc in u)
client_found test (c ∷ cs) client e = found_if (test (seat_in c)) test c cs client e (λ f. client_found test cs client f)

-- the one that is held
pub record Seated (d : Pool) (h : Hold) : Type 0 where
  pub seat : Seat
  pub found : find_by (has_lease h.lease) d.service.seats ≡ Some seat
  pub place : seat.place ≡ Leased h.lease
  pub number : h.number ≡ seat.number
  pub numbered : seat_numbered h.number d.service.seats ≡ Some seat

pub seated : (d : pools.Pool) (key : ℕ) (h : Hold) (client : ClientSession) → Sound (pool_in d) → find_key key d.holds.items ≡ Some h → client_of h.lease d.service ≡ Some client → Seated (pool_in d) h
seated d key h client sound its there =
    let f = client_found (has_lease h.lease) d.service.seats.items client there in
    let held : find_lease h.lease d.holds.items ≡ Some h = found_by_lease key 0 (pool_in d).service.given h d.holds.items sound.rising its in
    let at = found_held (pool_in d) h f.0 sound held f.1 in
    let numbered : find_by (has_number f.0.number) (pool_in d).service.seats ≡ Some f.0 = found_numbered (has_lease h.lease) f.0 (pool_in d).service.seats sound.tidy.distinct f.1 in
    record {
      seat = f.0;
      found = f.1;
      place = at.0;
      number = at.1;
      numbered = subst (λ (n : ℕ). find_by (has_number n) (pool_in d).service.seats ≡ Some f.0) (sym at.1) numbered;
    }

-- another hold of its number is by its lease
pub same_lease : (d : Pool) (h g : Hold) → Seated d h → Sits d.service g → g.number ≡ h.number → g.lease ≡ h.lease
same_lease d h g at sits number =
    let there : seat_numbered g.number d.service.seats ≡ Some at.seat = subst (λ (n : ℕ). seat_numbered n d.service.seats ≡ Some at.seat) (sym number) at.numbered in
    let place : Leased g.lease ≡ Leased h.lease = sym (sits.lent at.seat there) ∙ at.place in
    cc

-- ---- What is held

held_of : (h : Hold) (o : Option ClientSession) (held : HeldConnection) → option_map (λ (c : ClientSession). let x : HeldConnection = (h.number, c) in x) o ≡ Some held → (o ≡ Some held.1) × (h.number ≡ held.0)
held_of h None held e = absurd (let u : ⊥ = cc in u)
held_of h (Some c) held e =
    let x : HeldConnection = (h.number, c) in
    let same : x ≡ held = (let u : Some x ≡ Some held = e in cc) in
    (ap (λ (y : HeldConnection). Some y.1) same, ap (λ (y : HeldConnection). y.0) same)

pub record Holds (d : pools.Pool) (key : ℕ) (held : HeldConnection) : Type 0 where
  pub hold : Hold
  pub its : find_key key d.holds.items ≡ Some hold
  pub there : client_of hold.lease d.service ≡ Some held.1
  pub number : hold.number ≡ held.0

holds_by : (d : pools.Pool) (key : ℕ) (held : HeldConnection) (o : Option Hold) → find_key key d.holds.items ≡ o → held_with_client d.service o ≡ Some held → Holds d key held
holds_by d key held None e is = absurd (let u : ⊥ = cc in u)
holds_by d key held (Some h) e is =
    let x = held_of h (client_of h.lease d.service) held is in
    record { hold = h; its = e; there = x.0; number = x.1 }

pub holds : (d : pools.Pool) (key : ℕ) (held : HeldConnection) → held_at key d ≡ Some held → Holds d key held
holds d key held e = holds_by d key held (find_key key d.holds.items) refl e

pub is_held : (d : pools.Pool) (key : ℕ) (h : Hold) (client : ClientSession) → find_key key d.holds.items ≡ Some h → client_of h.lease d.service ≡ Some client → held_at key d ≡ Some (h.number, client)
is_held d key h client its there =
    ap (held_with_client d.service) its ∙ ap (option_map (λ (c : ClientSession). let x : HeldConnection = (h.number, c) in x)) there

-- Where a connection that is held stays so, with its client.
abbrev pub Stays : pools.Pool → pools.Pool → ℕ → Type 0
Stays d e key = (h : Hold) (client : ClientSession) → find_key key d.holds.items ≡ Some h → client_of h.lease d.service ≡ Some client
    → (find_key key e.holds.items ≡ Some h) × (client_of h.lease e.service ≡ client_of h.lease d.service)

on_by : (d e : pools.Pool) (key : ℕ) (o : Option HeldConnection) → held_at key d ≡ o → Stays d e key → HoldsOn key d e
on_by d e key None is stays = inr is
on_by d e key (Some held) is stays =
    let x = holds d key held is in
    let k = stays x.hold held.1 x.its x.there in
    let client : client_of x.hold.lease e.service ≡ Some held.1 = k.1 ∙ x.there in
    inl (is_held e key x.hold held.1 k.0 client ∙ sym (is_held d key x.hold held.1 x.its x.there))

pub holds_on : (d e : pools.Pool) (key : ℕ) → Stays d e key → HoldsOn key d e
holds_on d e key stays = on_by d e key (held_at key d) refl stays

pub on_refl : (d : pools.Pool) (key : ℕ) → HoldsOn key d d
on_refl d key = inl refl

pub held_as : (key : ℕ) (old new : pools.Pool) → new.holds.items ≡ old.holds.items → new.service ≡ old.service → HoldsOn key old new
held_as key old new holds service =
    inl (ap (λ (s : services.Service). held_with_client s (find_key key new.holds.items)) service ∙ ap (λ (hs : List Hold). held_with_client old.service (find_key key hs)) holds)

pub on_both : (d e f : pools.Pool) (key : ℕ) → HoldsOn key d e → HoldsOn key e f → HoldsOn key d f
on_both d e f key (inl h) (inl k) = inl (k ∙ h)
on_both d e f key (inl h) (inr k) = inr (sym h ∙ k)
on_both d e f key (inr h) k = inr h

-- ---- Lists

kept_by : (p : Hold → Bool) (key : ℕ) (h x : Hold) (xs : List Hold) (b k : Bool) → (x.key == key) ≡ b → p x ≡ k → (if b then Some x else find_key key xs) ≡ Some h → p h ≡ true
    → (find_key key xs ≡ Some h → find_key key (filter p xs) ≡ Some h) → find_key key (if k then x ∷ filter p xs else filter p xs) ≡ Some h
kept_by p key h x xs true true e q f kept later = rw e f
kept_by p key h x xs true false e q f kept later =
    let same : x ≡ h = cc in
    absurd (let u : true ≡ false = sym kept ∙ ap p (sym same) ∙ q in let v : ⊥ = cc in v)
kept_by p key h x xs false true e q f kept later = rw e (later f)
kept_by p key h x xs false false e q f kept later = later f

pub kept_key : (p : Hold → Bool) (key : ℕ) (h : Hold) (hs : List Hold) → find_key key hs ≡ Some h → p h ≡ true → find_key key (filter p hs) ≡ Some h
kept_key p key h [] e kept = absurd (let u : ⊥ = cc in u)
kept_key p key h (x ∷ xs) e kept = kept_by p key h x xs (x.key == key) (p x) refl refl e kept (λ f. kept_key p key h xs f kept)

added_by : (key : ℕ) (h x y : Hold) (ys : List Hold) (b : Bool) → (if b then Some y else find_key key ys) ≡ Some h → (find_key key ys ≡ Some h → find_key key (ys ++ x ∷ []) ≡ Some h)
    → (if b then Some y else find_key key (ys ++ x ∷ [])) ≡ Some h
added_by key h x y ys true e later = e
added_by key h x y ys false e later = later e

pub added_key : (key : ℕ) (h x : Hold) (hs : List Hold) → find_key key hs ≡ Some h → find_key key (hs ++ x ∷ []) ≡ Some h
added_key key h x [] e = absurd (let u : ⊥ = cc in u)
added_key key h x (y ∷ ys) e = added_by key h x y ys (y.key == key) e (λ f. added_key key h x ys f)

record Numbered (P : Hold → Type 0) (n : ℕ) (hs : List Hold) : Type 0 where
  hold : Hold
  found : find_number n hs ≡ Some hold
  number : hold.number ≡ n
  has : P hold

numbered_if : (P : Hold → Type 0) (n : ℕ) (x : Hold) (xs : List Hold) (b : Bool) → (x.number == n) ≡ b → P x → (b ≡ false → Numbered P n xs) → Numbered P n (x ∷ xs)
numbered_if P n x xs true e p later = record { hold = x; found = rw e refl; number = eqb-true x.number n e; has = p }
numbered_if P n x xs false e p later =
    let k : Numbered P n xs = later refl in
    let same : find_number n (x ∷ xs) ≡ find_number n xs = rw e refl in
    record { hold = k.hold; found = same ∙ k.found; number = k.number; has = k.has }

first_or : (key : ℕ) (h x : Hold) (xs : List Hold) (b : Bool) → (if b then Some x else find_key key xs) ≡ Some h → (x.number == h.number) ≡ false → find_key key xs ≡ Some h
first_or key h x xs true e other =
    let same : x ≡ h = cc in
    let here : (x.number == h.number) ≡ true = eq-eqb x.number h.number (ap (λ (y : Hold). y.number) same) in
    absurd (let u : true ≡ false = sym here ∙ other in let v : ⊥ = cc in v)
first_or key h x xs false e other = e

numbered : (P : Hold → Type 0) (key : ℕ) (h : Hold) (hs : List Hold) → Each P hs → find_key key hs ≡ Some h → Numbered P h.number hs
numbered P key h [] each e = absurd (let u : ⊥ = cc in u)
numbered P key h (x ∷ xs) each e =
    numbered_if P h.number x xs (x.number == h.number) refl each.0 (λ other. numbered P key h xs each.1 (first_or key h x xs (x.key == key) e other))

-- ---- Whose it is

both : (P Q : Hold → Type 0) (hs : List Hold) → Each P hs → Each Q hs → Each (λ (x : Hold). P x × Q x) hs
both P Q [] h k = tt
both P Q (x ∷ xs) h k = ((h.0, k.0), both P Q xs h.1 k.1)

-- who holds a connection, with its client, is who is found by its number
pub holder_is : (d : pools.Pool) (key : ℕ) (held : HeldConnection) → IsReached (pool_in d) → held_at key d ≡ Some held → key_of (find_number held.0 d.holds.items) ≡ Some key
holder_is d key held reached e =
    let sound : Sound (pool_in d) = sound_at (pool_in d) reached in
    let sit : AllSit (pool_in d) = sits_at (pool_in d) reached in
    let x = holds d key held e in
    let h = x.hold in
    let at : Seated (pool_in d) h = seated d key h held.1 sound x.its x.there in
    let hs : List Hold = d.holds.items in
    let P : Hold → Type 0 = λ (y : Hold). Sits (pool_in d).service y in
    let Q : Hold → Type 0 = λ (y : Hold). find_lease y.lease hs ≡ Some y in
    let found : Numbered (λ (y : Hold). P y × Q y) h.number hs = numbered (λ (y : Hold). P y × Q y) key h hs (both P Q hs sit (each_found_by 0 (pool_in d).service.given hs sound.rising)) x.its in
    let g = found.hold in
    let lease : g.lease ≡ h.lease = same_lease (pool_in d) h g at found.has.0 found.number in
    let one : find_lease h.lease hs ≡ Some g = subst (λ (l : ℕ). find_lease l hs ≡ Some g) lease found.has.1 in
    let two : find_lease h.lease hs ≡ Some h = found_by_lease key 0 (pool_in d).service.given h hs sound.rising x.its in
    let same : g ≡ h = (let u : Some g ≡ Some h = sym one ∙ two in cc) in
    ap (λ (n : ℕ). key_of (find_number n hs)) (sym x.number) ∙ ap key_of found.found ∙ ap (λ (y : Hold). Some y.key) same
    ∙ ap (λ (k : ℕ). Some k) (eqb-true h.key key (found_key key h hs x.its))

-- nobody else holds it
pub off_others : (d : pools.Pool) (key other : ℕ) (g : Hold) → IsReached (pool_in d) → find_key key d.holds.items ≡ Some g → other ≢ key → IsOff g.number other d
off_others d key other g reached its differs = λ client e.
    let sound : Sound (pool_in d) = sound_at (pool_in d) reached in
    let held : HeldConnection = (g.number, client) in
    let x = holds d other held e in
    let at : Seated (pool_in d) x.hold = seated d other x.hold client sound x.its x.there in
    let sits : Sits (pool_in d).service g = each_key (λ (y : Hold). Sits (pool_in d).service y) key g d.holds.items (sits_at (pool_in d) reached) its in
    let lease : g.lease ≡ x.hold.lease = same_lease (pool_in d) x.hold g at sits (sym x.number) in
    lease_apart (pool_in d) key other g x.hold sound its x.its differs (sym lease)

-- ---- What is done

-- nothing
pub action_refl : (d : pools.Pool) (key : ℕ) → OthersHold key d d
action_refl d key = record { hold = λ reached other differs. inl refl }

pub action_same : (d e : pools.Pool) (key : ℕ) → e ≡ d → OthersHold key d e
action_same d e key same = record { hold = λ reached other differs. inl (ap (held_at other) same) }

pub action_both : (d e f : pools.Pool) (key : ℕ) → (IsReached (pool_in d) → IsReached (pool_in e)) → OthersHold key d e → OthersHold key e f → OthersHold key d f
action_both d e f key led h k = record { hold = λ reached other differs. on_both d e f other (h.hold reached other differs) (k.hold (led reached) other differs) }

pub all_hold : (d : pools.Pool) → AllHold d d
all_hold d = record { hold = λ reached key. inl refl }

-- on what one of them holds
pub action_others : (d e : pools.Pool) (key : ℕ) (g : Hold) → find_key key d.holds.items ≡ Some g → e.holds.items ≡ d.holds.items → KeepsClients g.lease d.service e.service → OthersHold key d e
action_others d e key g its same keeps = record {
  hold = λ reached other differs.
      holds_on d e other (λ h client theirs there. (ap (find_key other) same ∙ theirs, keeps h.lease (lease_apart (pool_in d) key other g h (sound_at (pool_in d) reached) its theirs differs)));
}

-- one is lent another
pub lent_all : (d e : pools.Pool) (x : Hold) → e.holds.items ≡ d.holds.items ++ x ∷ [] → KeepsClients (d.service.given + 1) d.service e.service → AllHold d e
lent_all d e x more keeps = record {
  hold = λ reached key.
      holds_on d e key (λ h client its there. (ap (find_key key) more ∙ added_key key h x d.holds.items its, keeps h.lease (lease_given (pool_in d) key h (sound_at (pool_in d) reached) its)));
}

pub same_all : (d e : pools.Pool) → e.holds.items ≡ d.holds.items → KeepsClients (d.service.given + 1) d.service e.service → AllHold d e
same_all d e same keeps = record {
  hold = λ reached key.
      holds_on d e key (λ h client its there. (ap (find_key key) same ∙ its, keeps h.lease (lease_given (pool_in d) key h (sound_at (pool_in d) reached) its)));
}

pub not_equal : (b : Bool) (n m : ℕ) → (n == m) ≡ b → n ≢ m → not b ≡ true
not_equal true n m e differs = absurd (differs (eqb-true n m e))
not_equal false n m e differs = refl

-- one is lost
pub lost_off : (number : ℕ) (d e : pools.Pool) → e.holds.items ≡ without_number number d.holds.items → KeepsClientsOff number d.service e.service → OffHold number d e
lost_off number d e left keeps = record {
  hold = λ reached key off.
      holds_on d e key (λ h client its there.
      let sound : Sound (pool_in d) = sound_at (pool_in d) reached in
      let at : Seated (pool_in d) h = seated d key h client sound its there in
      let differs : h.number ≢ number = λ same. off client (is_held d key h client its there ∙ ap (λ (n : ℕ). let held : HeldConnection = (n, client) in Some held) same) in (
        ap (find_key key) left ∙ kept_key (λ (x : Hold). not (x.number == number)) key h d.holds.items its (not_equal (h.number == number) h.number number refl differs),
        keeps h.lease at.seat at.found (λ same. differs (at.number ∙ same)),
      ));
}

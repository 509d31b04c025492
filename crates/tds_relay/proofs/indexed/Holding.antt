-- What is held, beside what stands by its ids.
use Rattle.std.proofs.Common.{◌≡◌, ◌∙◌, ℕ, Bool, true, false, ◌==◌, List, [], ◌∷◌, ◌++◌, refl, sym, ap}
use Rattle.std.specs.Prelude.{filter, Option, Some, if◌then◌else◌}
use Rattle.tds_relay.specs.declared.pool.Hold.{Hold}
use Rattle.tds_relay.specs.declared.index.Indexed.{Indexed}
use Rattle.tds_relay.specs.Pool.{find_key, find_lease, find_number}
use Rattle.tds_relay.specs.Sorted.{Climbs, first, ids_in, one_if, under}
use Rattle.tds_relay.specs.Holding.{IsIndexBy, key_in, lease_in, number_in}
use Rattle.tds_relay.proofs.indexed.Index.{no, yes}

both_kept : (b c : Bool) (p q : Hold → Bool) (h : Hold) (xs ys : List Hold) → p h ≡ b → q h ≡ c → filter p xs ≡ filter q ys
    → filter p (if c then h ∷ xs else xs) ≡ filter q (if b then h ∷ ys else ys)
both_kept true true p q h xs ys e f is = yes (p h) (h ∷ filter p xs) (filter p xs) e ∙ (ap (λ (hs : List Hold). h ∷ hs) is ∙ sym (yes (q h) (h ∷ filter q ys) (filter q ys) f))
both_kept true false p q h xs ys e f is = is ∙ sym (no (q h) (h ∷ filter q ys) (filter q ys) f)
both_kept false true p q h xs ys e f is = no (p h) (h ∷ filter p xs) (filter p xs) e ∙ is
both_kept false false p q h xs ys e f is = is

pub either_order : (p q : Hold → Bool) (hs : List Hold) → filter p (filter q hs) ≡ filter q (filter p hs)
either_order p q [] = refl
either_order p q (h ∷ hs) = both_kept (p h) (q h) p q h (filter q hs) (filter p hs) refl refl (either_order p q hs)

kept_last : (p : Hold → Bool) (h x : Hold) (b : Bool) (ys more : List Hold) → ys ≡ more → (if b then h ∷ ys else ys) ≡ (if b then h ∷ more else more)
kept_last p h x b ys more e = ap (λ (zs : List Hold). if b then h ∷ zs else zs) e

if_append : (b : Bool) (h : Hold) (xs ys : List Hold) → (if b then h ∷ (xs ++ ys) else xs ++ ys) ≡ (if b then h ∷ xs else xs) ++ ys
if_append true h xs ys = refl
if_append false h xs ys = refl

pub filter_more : (p : Hold → Bool) (hs : List Hold) (x : Hold) → filter p (hs ++ x ∷ []) ≡ filter p hs ++ (if p x then x ∷ [] else [])
filter_more p [] x = refl
filter_more p (h ∷ hs) x =
    ap (λ (zs : List Hold). if p h then h ∷ zs else zs) (filter_more p hs x)
    ∙ if_append (p h) h (filter p hs) (if p x then x ∷ [] else [])

pub more_by : (id_of : Hold → ℕ) (hs : List Hold) (x : Hold) (old new : List (Indexed Hold)) → IsIndexBy id_of hs old → Climbs (ids_in new)
    → ((other : ℕ) → under other new ≡ under other old ++ one_if (id_of x) other x) → IsIndexBy id_of (hs ++ x ∷ []) new
more_by id_of hs x old new is up puts = record {
  climbs = up;
  finds = λ id. puts id ∙ (ap (λ (ys : List Hold). ys ++ one_if (id_of x) id x) (is.finds id) ∙ sym (filter_more (λ (h : Hold). id_of h == id) hs x));
}

pub less_by : (id_of : Hold → ℕ) (p : Hold → Bool) (hs : List Hold) (old new : List (Indexed Hold)) → IsIndexBy id_of hs old → Climbs (ids_in new)
    → ((id : ℕ) → under id new ≡ filter p (under id old)) → IsIndexBy id_of (filter p hs) new
less_by id_of p hs old new is up drops = record {
  climbs = up;
  finds = λ id. drops id ∙ (ap (filter p) (is.finds id) ∙ either_order p (λ (h : Hold). id_of h == id) hs);
}

pub none_by : (id_of : Hold → ℕ) → IsIndexBy id_of [] []
none_by id_of = record { climbs = tt; finds = λ id. refl }

first_if : (b : Bool) (h : Hold) (hs : List Hold) → first (if b then h ∷ hs else hs) ≡ (if b then Some h else first hs)
first_if true h hs = refl
first_if false h hs = refl

pub first_key : (key : ℕ) (hs : List Hold) → first (filter (λ (h : Hold). key_in h == key) hs) ≡ find_key key hs
first_key key [] = refl
first_key key (h ∷ hs) = first_if (h.key == key) h (filter (λ (x : Hold). key_in x == key) hs) ∙ ap (λ (o : Option Hold). if h.key == key then Some h else o) (first_key key hs)

pub first_lease : (lease : ℕ) (hs : List Hold) → first (filter (λ (h : Hold). lease_in h == lease) hs) ≡ find_lease lease hs
first_lease lease [] = refl
first_lease lease (h ∷ hs) = first_if (h.lease == lease) h (filter (λ (x : Hold). lease_in x == lease) hs) ∙ ap (λ (o : Option Hold). if h.lease == lease then Some h else o) (first_lease lease hs)

pub first_number : (number : ℕ) (hs : List Hold) → first (filter (λ (h : Hold). number_in h == number) hs) ≡ find_number number hs
first_number number [] = refl
first_number number (h ∷ hs) = first_if (h.number == number) h (filter (λ (x : Hold). number_in x == number) hs) ∙ ap (λ (o : Option Hold). if h.number == number then Some h else o) (first_number number hs)

-- What waits on connections, and what is ordered.
use Rattle.std.proofs.Common.{◌≡◌, ◌⊎◌, ◌∙◌, ◌==◌, not, ℕ, Bool, true, false, List, [], ◌∷◌, ◌++◌, Option, Some, None, inl, inr, refl, sym, ap, append_assoc, option_map, slice_index_or, slice_set, zero, suc, if◌then◌else◌}
use Rattle.tds_relay.specs.declared.link.Link.{Link}
use Rattle.tds_relay.specs.declared.order.Order.{Order}
use Rattle.tds_relay.specs.declared.outgoing.Outgoing.{Outgoing}
use Rattle.tds_relay.specs.Closings.{is_shut}
use Rattle.tds_relay.specs.Queues.{queue_in}
use Rattle.tds_relay.specs.Ordering.{IsOrdered, StayOrdered}
use Rattle.tds_relay.specs.Reads.{Seen, HoldsOnLinks, StaysAt, bytes_on, link_at, opened_seen, seen_at, seen_of, waits_on, with_open, without_link}
use Rattle.tds_relay.specs.Sending.{IsToWrite, IsWritten, NamedWaiting, called_at, name_in, sending_at, sending_of}
use Rattle.tds_relay.proofs.steps.Staying.{at_refl}

-- ---- What is ordered

pub is_ordered_on : (x : Order) (a b : List Order) → StayOrdered a b → IsOrdered x a → IsOrdered x b
is_ordered_on x a b s o = record { before = o.before; behind = o.behind ++ s.0; are = s.1 ∙ ap (λ (xs : List Order). xs ++ s.0) o.are ∙ append_assoc o.before (x ∷ o.behind) s.0 }

pub ordered_last : (x : Order) (a b : List Order) → b ≡ a ++ x ∷ [] → IsOrdered x b
ordered_last x a b is = record { before = a; behind = []; are = is }

no_room : (y : Order) (zs behind : List Order) → [] ≡ zs ++ y ∷ behind → ⊥
no_room y [] behind e = let u : ⊥ = cc in u
no_room y (z ∷ zs) behind e = let u : ⊥ = cc in u

ordered_behind : (y z : Order) (all : List Order) → IsOrdered y all → IsOrdered y (z ∷ all)
ordered_behind y z all o = record { before = z ∷ o.before; behind = o.behind; are = ap (λ (xs : List Order). z ∷ xs) o.are }

ordered_again : (y x z : Order) (all : List Order) → IsOrdered y all ⊎ (y ≡ x) → IsOrdered y (z ∷ all) ⊎ (y ≡ x)
ordered_again y x z all (inl o) = inl (ordered_behind y z all o)
ordered_again y x z all (inr e) = inr e

among : (y x : Order) (all before behind : List Order) → all ++ x ∷ [] ≡ before ++ y ∷ behind → IsOrdered y all ⊎ (y ≡ x)
among y x [] [] behind e =
    let f : x ∷ [] ≡ y ∷ behind = e in
    let u : x ≡ y = cc in
    inr (sym u)
among y x [] (z ∷ zs) behind e =
    let f : x ∷ [] ≡ z ∷ (zs ++ y ∷ behind) = e in
    let u : [] ≡ zs ++ y ∷ behind = cc in
    absurd (no_room y zs behind u)
among y x (w ∷ ws) [] behind e =
    let f : w ∷ (ws ++ x ∷ []) ≡ y ∷ behind = e in
    let u : w ≡ y = cc in
    inl (record { before = []; behind = ws; are = ap (λ (o : Order). o ∷ ws) u })
among y x (w ∷ ws) (z ∷ zs) behind e =
    let f : w ∷ (ws ++ x ∷ []) ≡ z ∷ (zs ++ y ∷ behind) = e in
    let u : ws ++ x ∷ [] ≡ zs ++ y ∷ behind = cc in
    ordered_again y x w ws (among y x ws zs behind u)

-- what is ordered behind one more was so before, or is that one
pub ordered_or_last : (y x : Order) (a b : List Order) → b ≡ a ++ x ∷ [] → IsOrdered y b → IsOrdered y a ⊎ (y ≡ x)
ordered_or_last y x a b is o = among y x a o.before o.behind (sym is ∙ o.are)

-- ---- Connections that have what they had

abbrev seen_name : Option Seen → Option ℕ
seen_name None = None
seen_name (Some s) = s.2

abbrev some_bytes : Option (List ℕ) → List ℕ
some_bytes None = []
some_bytes (Some bytes) = bytes

sending_both : (l m : Link) → m.tag ≡ l.tag → bytes_on m ≡ bytes_on l → option_map sending_of (Some m) ≡ option_map sending_of (Some l)
sending_both l m name bytes =
    ap (λ (t : Option ℕ). let s : NamedWaiting = (t, bytes_on m) in Some s) name ∙ ap (λ (xs : List ℕ). let s : NamedWaiting = (l.tag, xs) in Some s) bytes

sending_by : (o p : Option Link) → StaysAt (option_map seen_of o) (option_map seen_of p) → option_map bytes_on p ≡ option_map bytes_on o → option_map sending_of p ≡ option_map sending_of o
sending_by None None h e = refl
sending_by (Some l) None h e = absurd (let u : ⊥ = cc in u)
sending_by None (Some m) h e = absurd (let u : ⊥ = cc in u)
sending_by (Some l) (Some m) h e = sending_both l m (sym (ap seen_name h)) (ap some_bytes e)

-- Each is called as it was, and what waited there waits.
pub record AreKept (ls ms : List Link) : Type 0 where
  pub sees : HoldsOnLinks ls ms
  pub waits : (number : ℕ) → waits_on number ms ≡ waits_on number ls

pub kept_refl : (ls : List Link) → AreKept ls ls
kept_refl ls = record { sees = λ number had h. h; waits = λ number. refl }

pub sending_kept : (ls ms : List Link) → AreKept ls ms → (number : ℕ) → sending_at number ms ≡ sending_at number ls
sending_kept ls ms k number = sending_by (link_at number ls) (link_at number ms) (k.sees number (seen_at number ls) (at_refl (seen_at number ls))) (k.waits number)

opened_by : (b : Bool) (o p : Option Link) → option_map seen_of p ≡ (if b then option_map with_open (option_map seen_of o) else option_map seen_of o) → option_map bytes_on p ≡ option_map bytes_on o
    → option_map sending_of p ≡ option_map sending_of o
opened_by b None None s e = refl
opened_by b (Some l) None s e = absurd (let u : ⊥ = cc in u)
opened_by b None (Some m) s e = absurd (let u : ⊥ = cc in u)
opened_by true (Some l) (Some m) s e = sending_both l m (ap seen_name s) (ap some_bytes e)
opened_by false (Some l) (Some m) s e = sending_both l m (ap seen_name s) (ap some_bytes e)

-- one is opened
pub sending_opened : (number : ℕ) (ls ms : List Link) → ((other : ℕ) → seen_at other ms ≡ opened_seen number other ls) → ((other : ℕ) → waits_on other ms ≡ waits_on other ls) → (other : ℕ) → sending_at other ms ≡ sending_at other ls
sending_opened number ls ms seen waits other = opened_by (other == number) (link_at other ls) (link_at other ms) (seen other) (waits other)

-- ---- More is put on one

name_by : (out : List ℕ) (o p : Option Link) → StaysAt (option_map seen_of o) (option_map seen_of p) → option_map bytes_on p ≡ option_map (λ (waits : List ℕ). waits ++ out) (option_map bytes_on o)
    → name_in (option_map sending_of p) ≡ name_in (option_map sending_of o)
name_by out None None h e = refl
name_by out (Some l) None h e = absurd (let u : ⊥ = cc in u)
name_by out None (Some m) h e = absurd (let u : ⊥ = cc in u)
name_by out (Some l) (Some m) h e = sym (ap seen_name h)

-- it is called as it was
pub called_filled : (number : ℕ) (out : List ℕ) (ls ms : List Link) → HoldsOnLinks ls ms → waits_on number ms ≡ option_map (λ (waits : List ℕ). waits ++ out) (waits_on number ls) → called_at number ms ≡ called_at number ls
called_filled number out ls ms sees waits = name_by out (link_at number ls) (link_at number ms) (sees number (seen_at number ls) (at_refl (seen_at number ls))) waits

-- and the others have what they had
pub sending_other : (number other : ℕ) (ls ms : List Link) → HoldsOnLinks ls ms → waits_on other ms ≡ waits_on other ls → sending_at other ms ≡ sending_at other ls
sending_other number other ls ms sees waits = sending_by (link_at other ls) (link_at other ms) (sees other (seen_at other ls) (at_refl (seen_at other ls))) waits

pub written_by : (s : Option NamedWaiting) (all : List Order) → IsToWrite (name_in s) all → IsWritten s all
written_by None all w = tt
written_by (Some s) all w = inr w

-- ---- One is taken out

none_left : (b : Bool) (number : ℕ) (x : Link) (xs : List Link) → (x.number == number) ≡ b → link_at number xs ≡ None → link_at number (if not b then x ∷ xs else xs) ≡ None
none_left true number x xs e rest = rest
none_left false number x xs e rest = ap (λ (b : Bool). if b then Some x else link_at number xs) e ∙ rest

pub taken_link : (number : ℕ) (ls : List Link) → link_at number (without_link number ls) ≡ None
taken_link number [] = refl
taken_link number (x ∷ xs) = none_left (x.number == number) number x (without_link number xs) refl (taken_link number xs)

-- ---- One is put behind them

-- the connection of a number is as it was, or it is this one
pub data Pushed (l : Link) : Option Link → Option Link → Type 0 where
  Same : {o : Option Link} → Pushed l o o
  Comes : Pushed l None (Some l)

pushed_one : (b : Bool) (l : Link) → Pushed l None (if b then Some l else None)
pushed_one true l = Comes
pushed_one false l = Same

pushed_or : (b : Bool) (l x : Link) (o p : Option Link) → Pushed l o p → Pushed l (if b then Some x else o) (if b then Some x else p)
pushed_or true l x o p h = Same
pushed_or false l x o p h = h

pub pushed : (ls : List Link) (l : Link) (number : ℕ) → Pushed l (link_at number ls) (link_at number (ls ++ l ∷ []))
pushed [] l number = pushed_one (l.number == number) l
pushed (x ∷ xs) l number = pushed_or (x.number == number) l x (link_at number xs) (link_at number (xs ++ l ∷ [])) (pushed xs l number)

-- ---- One is written back

either_as : {A : Type 0} (f : Link → A) (b : Bool) (l m : Link) (o p : Option Link) → f l ≡ f m → option_map f o ≡ option_map f p → option_map f (if b then Some l else o) ≡ option_map f (if b then Some m else p)
either_as f true l m o p same rest = ap Some same
either_as f false l m o p same rest = rest

pub written_as : {A : Type 0} (f : Link → A) (ls : List Link) (i : ℕ) (d m : Link) → m.number ≡ (slice_index_or ls i d).number → f m ≡ f (slice_index_or ls i d) → (n : ℕ) → option_map f (link_at n (slice_set ls i m)) ≡ option_map f (link_at n ls)
written_as f [] i d m number same n = refl
written_as f (x ∷ xs) zero d m number same n =
    ap (λ (k : ℕ). option_map f (if k == n then Some m else link_at n xs)) number
    ∙ either_as f (x.number == n) m x (link_at n xs) (link_at n xs) same refl
written_as f (x ∷ xs) (suc i) d m number same n =
    either_as f (x.number == n) x x (link_at n (slice_set xs i m)) (link_at n xs) refl (written_as f xs i d m number same n)

shut_as : (o p : Option Link) → option_map (λ (l : Link). l.is_open) p ≡ option_map (λ (l : Link). l.is_open) o → is_shut (option_map seen_of p) ≡ is_shut (option_map seen_of o)
shut_as None None e = refl
shut_as (Some l) None e = absurd (let u : ⊥ = cc in u)
shut_as None (Some m) e = absurd (let u : ⊥ = cc in u)
shut_as (Some l) (Some m) e = let u : m.is_open ≡ l.is_open = cc in ap not u

-- with its name, what waited there, and whether it is open
pub same_written : (ls : List Link) (i : ℕ) (d m : Link) → m.number ≡ (slice_index_or ls i d).number → sending_of m ≡ sending_of (slice_index_or ls i d) → m.is_open ≡ (slice_index_or ls i d).is_open → (n : ℕ)
    → (sending_at n (slice_set ls i m) ≡ sending_at n ls) × (is_shut (seen_at n (slice_set ls i m)) ≡ is_shut (seen_at n ls))
same_written ls i d m number sends opens n = (written_as sending_of ls i d m number sends n, shut_as (link_at n ls) (link_at n (slice_set ls i m)) (written_as (λ (l : Link). l.is_open) ls i d m number opens n))

pub sending_same : (l m : Link) → m.tag ≡ l.tag → m.out ≡ l.out → sending_of m ≡ sending_of l
sending_same l m tag out =
    ap (λ (t : Option ℕ). let s : NamedWaiting = (t, bytes_on m) in s) tag ∙ ap (λ (o : Outgoing). let s : NamedWaiting = (l.tag, (queue_in o).bytes) in s) out

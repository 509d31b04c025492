-- What connections are called, along what is done to them; and applications.
use Rattle.std.proofs.Common.{◌≡◌, ◌==◌, inl, inr, ℕ, zero, suc, Bool, true, false, List, [], ◌∷◌, ◌++◌, Option, Some, None, refl, sym, subst, slice_index_or, slice_set, option_map, if◌then◌else◌}
use Rattle.tds_relay.specs.declared.link.Link.{Link}
use Rattle.tds_relay.specs.Reads.{CalledAt, IsCalled, Seen, StaysAt, link_at, seen_at, seen_of}

-- one that is yet to be opened may be there instead
to_open : (is_open : Bool) (tag : Option ℕ) (o : Option Seen) → IsCalled false None o → IsCalled is_open tag o
to_open is_open tag None h = tt
to_open is_open tag (Some s) (inl h) = inr h
to_open is_open tag (Some s) (inr h) = inr h

pub is_called_on : (is_open : Bool) (tag : Option ℕ) (o p : Option Seen) → IsCalled is_open tag o → CalledAt o p → IsCalled is_open tag p
is_called_on is_open tag None p h k = to_open is_open tag p k
is_called_on is_open tag (Some s) p (inl h) k =
    subst (λ (b : Bool). IsCalled b tag p) h.0 (subst (λ (t : Option ℕ). IsCalled s.1 t p) h.1 k)
is_called_on is_open tag (Some s) p (inr h) k =
    to_open is_open tag p (subst (λ (b : Bool). IsCalled b None p) h.0 (subst (λ (t : Option ℕ). IsCalled s.1 t p) h.1 k))

pub called_refl : (o : Option Seen) → CalledAt o o
called_refl None = tt
called_refl (Some s) = inl (refl, refl)

pub called_both : (o p q : Option Seen) → CalledAt o p → CalledAt p q → CalledAt o q
called_both None p q h k = is_called_on false None p q h k
called_both (Some s) p q h k = is_called_on s.1 s.2 p q h k

called_gone : (o : Option Seen) → CalledAt o None
called_gone None = tt
called_gone (Some s) = tt

-- it is seen as it was
pub called_stays : (o p : Option Seen) → StaysAt o p → CalledAt o p
called_stays o None h = called_gone o
called_stays o (Some s) h = subst (λ (x : Option Seen). CalledAt x (Some s)) (sym h) (called_refl (Some s))

pub called_same : (o p : Option Seen) → p ≡ o → CalledAt o p
called_same o p e = subst (λ (x : Option Seen). CalledAt o x) (sym e) (called_refl o)

-- ---- One more is there

one_called : (b : Bool) (l : Link) → l.is_open ≡ false → l.tag ≡ None → CalledAt None (option_map seen_of (if b then Some l else None))
one_called true l closed unnamed = inl (closed, unnamed)
one_called false l closed unnamed = tt

behind_called : (b : Bool) (x : Link) (o p : Option Link) → CalledAt (option_map seen_of o) (option_map seen_of p)
    → CalledAt (option_map seen_of (if b then Some x else o)) (option_map seen_of (if b then Some x else p))
behind_called true x o p h = called_refl (Some (seen_of x))
behind_called false x o p h = h

pub pushed_called : (ls : List Link) (l : Link) → l.is_open ≡ false → l.tag ≡ None → (number : ℕ) → CalledAt (seen_at number ls) (seen_at number (ls ++ l ∷ []))
pushed_called [] l closed unnamed number = one_called (l.number == number) l closed unnamed
pushed_called (x ∷ xs) l closed unnamed number = behind_called (x.number == number) x (link_at number xs) (link_at number (xs ++ l ∷ [])) (pushed_called xs l closed unnamed number)

-- ---- One is written back

-- it is called so and open or not
abbrev pub IsAlike : Link → Link → Type 0
IsAlike l m = (m.is_open ≡ l.is_open) × (m.tag ≡ l.tag)

either_called : (b : Bool) (l m : Link) (o p : Option Link) → IsAlike l m → CalledAt (option_map seen_of o) (option_map seen_of p)
    → CalledAt (option_map seen_of (if b then Some l else o)) (option_map seen_of (if b then Some m else p))
either_called true l m o p alike rest = inl alike
either_called false l m o p alike rest = rest

pub written_called : (ls : List Link) (i : ℕ) (d m : Link) → m.number ≡ (slice_index_or ls i d).number → IsAlike (slice_index_or ls i d) m → (n : ℕ) → CalledAt (seen_at n ls) (seen_at n (slice_set ls i m))
written_called [] i d m number alike n = tt
written_called (x ∷ xs) zero d m number alike n =
    subst (λ (k : ℕ). CalledAt (seen_at n (x ∷ xs)) (option_map seen_of (if k == n then Some m else link_at n xs))) (sym number)
    (either_called (x.number == n) x m (link_at n xs) (link_at n xs) alike (called_refl (seen_at n xs)))
written_called (x ∷ xs) (suc i) d m number alike n =
    either_called (x.number == n) x x (link_at n xs) (link_at n (slice_set xs i m)) (refl, refl) (written_called xs i d m number alike n)

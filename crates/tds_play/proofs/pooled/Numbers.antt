-- The numbers of a pool are those of the connections that aren't cut: what is found by a number, and what
-- each change makes of them.
use Rattle.std.proofs.Common.{◌≡◌, ◌∙◌, ℕ, zero, suc, ◌+◌, ◌<◌, Bool, true, false, List, [], ◌∷◌, ◌++◌, length, Some, None, refl, sym, ap, subst, arith}
use Rattle.std.specs.List.{slice_get}
use Rattle.std.specs.Prelude.{slice_set}
use Rattle.tds_pool.specs.Calls.{all_numbers}
use Rattle.tds_pool.specs.Connections.{Connection, numbered, taken_out}
use Rattle.tds_play.specs.Pooled.{number_unless, numbers_in}
use Rattle.tds_play.specs.declared.seat.Held.{Held}
use Rattle.tds_play.proofs.pooled.Changes.{by_number, first_is, first_not, taken_first, taken_later, taken_none}

-- The head and the rest of the numbers of a pool whose first connection isn't cut.
pub head_is : (c : Connection) (cs : List Connection) (n : ℕ) (ns : List ℕ) → all_numbers (c ∷ cs) ≡ n ∷ ns → c.number ≡ n
head_is c cs n ns same = let e : c.number ∷ all_numbers cs ≡ n ∷ ns = same in cc

pub rest_is : (c : Connection) (cs : List Connection) (n : ℕ) (ns : List ℕ) → all_numbers (c ∷ cs) ≡ n ∷ ns → all_numbers cs ≡ ns
rest_is c cs n ns same = let e : c.number ∷ all_numbers cs ≡ n ∷ ns = same in cc

-- A number below all of them is none's.
below_all : {E S : Type 0} (number : ℕ) (hs : List (Held E S)) (pcs : List Connection) (m : ℕ) → all_numbers pcs ≡ numbers_in number hs → m < number → numbered m pcs ≡ None
below_all number [] [] m same below = refl
below_all number [] (c ∷ cs) m same below = let e : c.number ∷ all_numbers cs ≡ [] = same in absurd (cc)
below_all {E} {S} number (h ∷ hs) pcs m same below = by_cut h.link.is_cut pcs (λ cs is. below_all (suc number) hs cs m is (omega (arith, below))) same
  where
    by_cut : (b : Bool) (pcs : List Connection) → ((cs : List Connection) → all_numbers cs ≡ numbers_in (suc number) hs → numbered m cs ≡ None) → all_numbers pcs ≡ number_unless b number (numbers_in (suc number) hs) → numbered m pcs ≡ None
    by_cut true pcs rest is = rest pcs is
    by_cut false [] rest is = refl
    by_cut false (c ∷ cs) rest is =
        let first : c.number ≡ number = head_is c cs number (numbers_in (suc number) hs) is in
        first_not c cs m (λ e. let bad : ⊥ = omega (arith, below, first, e) in bad)
        ∙ rest cs (rest_is c cs number (numbers_in (suc number) hs) is)

-- One that isn't cut is in the pool.
pub record IsIn (number : ℕ) (pcs : List Connection) : Type 0 where
  pub connection : Connection
  pub there : numbered number pcs ≡ Some connection

pub in_pool : {E S : Type 0} (number place : ℕ) (hs : List (Held E S)) (h : Held E S) (pcs : List Connection) → all_numbers pcs ≡ numbers_in number hs → slice_get hs place ≡ Some h → h.link.is_cut ≡ false → IsIn (number + place) pcs
in_pool number place [] h pcs same at lives = absurd (cc)
in_pool {E} {S} number zero (k ∷ hs) h pcs same at lives =
    let is : k ≡ h = cc in
    by_list pcs (subst (λ (b : Bool). all_numbers pcs ≡ number_unless b number (numbers_in (suc number) hs)) (ap (λ (x : Held E S). x.link.is_cut) is ∙ lives) same)
  where
    by_list : (pcs : List Connection) → all_numbers pcs ≡ number ∷ numbers_in (suc number) hs → IsIn (number + 0) pcs
    by_list [] e = absurd (cc)
    by_list (c ∷ cs) e =
        let first : c.number ≡ number + 0 = head_is c cs number (numbers_in (suc number) hs) e ∙ omega arith in
        record { connection = c; there = first_is c cs (number + 0) first }
in_pool {E} {S} number (suc place) (k ∷ hs) h pcs same at lives = by_cut k.link.is_cut pcs (λ cs is. in_pool (suc number) place hs h cs is at lives) same
  where
    next : suc number + place ≡ number + suc place
    next = omega arith

    by_cut : (b : Bool) (pcs : List Connection) → ((cs : List Connection) → all_numbers cs ≡ numbers_in (suc number) hs → IsIn (suc number + place) cs) → all_numbers pcs ≡ number_unless b number (numbers_in (suc number) hs) → IsIn (number + suc place) pcs
    by_cut true pcs rest is = subst (λ (n : ℕ). IsIn n pcs) next (rest pcs is)
    by_cut false [] rest is = absurd (cc)
    by_cut false (c ∷ cs) rest is =
        let first : c.number ≡ number = head_is c cs number (numbers_in (suc number) hs) is in
        let found : IsIn (suc number + place) cs = rest cs (rest_is c cs number (numbers_in (suc number) hs) is) in
        record {
          connection = found.connection;
          there = first_not c cs (number + suc place) (λ e. let bad : ⊥ = omega (arith, first, e) in bad) ∙ ap (λ (n : ℕ). numbered n cs) (sym next) ∙ found.there;
        }

-- One that is cut is not.
pub not_in_pool : {E S : Type 0} (number place : ℕ) (hs : List (Held E S)) (h : Held E S) (pcs : List Connection) → all_numbers pcs ≡ numbers_in number hs → slice_get hs place ≡ Some h → h.link.is_cut ≡ true → numbered (number + place) pcs ≡ None
not_in_pool number place [] h pcs same at cut = absurd (cc)
not_in_pool {E} {S} number zero (k ∷ hs) h pcs same at cut =
    let is : k ≡ h = cc in
    below_all (suc number) hs pcs (number + 0) (subst (λ (b : Bool). all_numbers pcs ≡ number_unless b number (numbers_in (suc number) hs)) (ap (λ (x : Held E S). x.link.is_cut) is ∙ cut) same) (omega arith)
not_in_pool {E} {S} number (suc place) (k ∷ hs) h pcs same at cut = by_cut k.link.is_cut pcs (λ cs is. not_in_pool (suc number) place hs h cs is at cut) same
  where
    next : suc number + place ≡ number + suc place
    next = omega arith

    by_cut : (b : Bool) (pcs : List Connection) → ((cs : List Connection) → all_numbers cs ≡ numbers_in (suc number) hs → numbered (suc number + place) cs ≡ None) → all_numbers pcs ≡ number_unless b number (numbers_in (suc number) hs) → numbered (number + suc place) pcs ≡ None
    by_cut true pcs rest is = ap (λ (n : ℕ). numbered n pcs) (sym next) ∙ rest pcs is
    by_cut false [] rest is = absurd (cc)
    by_cut false (c ∷ cs) rest is =
        let first : c.number ≡ number = head_is c cs number (numbers_in (suc number) hs) is in
        first_not c cs (number + suc place) (λ e. let bad : ⊥ = omega (arith, first, e) in bad)
        ∙ ap (λ (n : ℕ). numbered n cs) (sym next)
        ∙ rest cs (rest_is c cs number (numbers_in (suc number) hs) is)

-- Each one of the pool is a connection of the play, and none that is cut.
pub record IsOfPlay {E S : Type 0} (number m : ℕ) (hs : List (Held E S)) : Type 0 where
  pub place : ℕ
  pub at : m ≡ number + place
  pub held : Held E S
  pub there : slice_get hs place ≡ Some held
  pub lives : held.link.is_cut ≡ false

pub of_play : {E S : Type 0} (number m : ℕ) (hs : List (Held E S)) (pcs : List Connection) (c : Connection) → all_numbers pcs ≡ numbers_in number hs → numbered m pcs ≡ Some c → IsOfPlay number m hs
of_play number m [] [] c same is = absurd (cc)
of_play number m [] (d ∷ ds) c same is = let e : d.number ∷ all_numbers ds ≡ [] = same in absurd (cc)
of_play {E} {S} number m (h ∷ hs) pcs c same is = by_cut h.link.is_cut refl pcs (λ cs e found. later (of_play (suc number) m hs cs c e found)) same is
  where
    later : IsOfPlay (suc number) m hs → IsOfPlay number m (h ∷ hs)
    later o = record { place = suc o.place; at = omega (arith, o.at); held = o.held; there = o.there; lives = o.lives }

    by_cut : (b : Bool) → h.link.is_cut ≡ b → (pcs : List Connection) → ((cs : List Connection) → all_numbers cs ≡ numbers_in (suc number) hs → numbered m cs ≡ Some c → IsOfPlay number m (h ∷ hs)) → all_numbers pcs ≡ number_unless b number (numbers_in (suc number) hs) → numbered m pcs ≡ Some c → IsOfPlay number m (h ∷ hs)
    by_cut true cut pcs rest e found = rest pcs e found
    by_cut false lives [] rest e found = absurd (cc)
    by_cut false lives (d ∷ ds) rest e found =
        by_number _ d.number m
        (λ at z. let first : d.number ≡ number = head_is d ds number (numbers_in (suc number) hs) e in record { place = 0; at = omega (arith, at, first); held = h; there = refl; lives = lives })
        (λ other z. rest ds (rest_is d ds number (numbers_in (suc number) hs) e) (sym (first_not d ds m other) ∙ found))

-- ---- What changes make of them

-- A link that is cut as it was before.
pub numbers_set : {E S : Type 0} (number place : ℕ) (hs : List (Held E S)) (old new : Held E S) → slice_get hs place ≡ Some old → new.link.is_cut ≡ old.link.is_cut → numbers_in number (slice_set hs place new) ≡ numbers_in number hs
numbers_set number place [] old new at same = refl
numbers_set {E} {S} number zero (h ∷ hs) old new at same =
    let is : h ≡ old = cc in
    ap (λ (b : Bool). number_unless b number (numbers_in (suc number) hs)) (same ∙ sym (ap (λ (x : Held E S). x.link.is_cut) is))
numbers_set number (suc place) (h ∷ hs) old new at same = ap (number_unless h.link.is_cut number) (numbers_set (suc number) place hs old new at same)

-- One more, which isn't cut, or is.
pub numbers_more : {E S : Type 0} (number : ℕ) (hs : List (Held E S)) (h : Held E S) → h.link.is_cut ≡ false → numbers_in number (hs ++ h ∷ []) ≡ numbers_in number hs ++ (number + length hs) ∷ []
numbers_more number [] h lives =
    let here : number ≡ number + 0 = omega arith in
    ap (λ (b : Bool). number_unless b number []) lives ∙ ap (λ (n : ℕ). n ∷ []) here
numbers_more {E} {S} number (k ∷ hs) h lives =
    let next : suc number + length hs ≡ number + suc (length hs) = omega arith in
    ap (number_unless k.link.is_cut number) (numbers_more (suc number) hs h lives)
    ∙ by_cut k.link.is_cut (numbers_in (suc number) hs) (suc number + length hs)
    ∙ ap (λ (n : ℕ). number_unless k.link.is_cut number (numbers_in (suc number) hs) ++ n ∷ []) next
  where
    by_cut : (b : Bool) (ns : List ℕ) (n : ℕ) → number_unless b number (ns ++ n ∷ []) ≡ number_unless b number ns ++ n ∷ []
    by_cut true ns n = refl
    by_cut false ns n = refl

pub numbers_more_cut : {E S : Type 0} (number : ℕ) (hs : List (Held E S)) (h : Held E S) → h.link.is_cut ≡ true → numbers_in number (hs ++ h ∷ []) ≡ numbers_in number hs
numbers_more_cut number [] h cut = ap (λ (b : Bool). number_unless b number []) cut
numbers_more_cut number (k ∷ hs) h cut = ap (number_unless k.link.is_cut number) (numbers_more_cut (suc number) hs h cut)

-- One that is taken out, and cut.
pub numbers_taken : {E S : Type 0} (number place : ℕ) (hs : List (Held E S)) (new : Held E S) (pcs : List Connection) → all_numbers pcs ≡ numbers_in number hs → new.link.is_cut ≡ true → all_numbers (taken_out (number + place) pcs) ≡ numbers_in number (slice_set hs place new)
numbers_taken number place [] new [] same cut = refl
numbers_taken number place [] new (c ∷ cs) same cut = let e : c.number ∷ all_numbers cs ≡ [] = same in absurd (cc)
numbers_taken {E} {S} number zero (h ∷ hs) new pcs same cut =
    by_cut h.link.is_cut pcs same
    ∙ sym (ap (λ (b : Bool). number_unless b number (numbers_in (suc number) hs)) cut)
  where
    here : number + 0 ≡ number
    here = omega arith

    gone : (cs : List Connection) → all_numbers cs ≡ numbers_in (suc number) hs → taken_out (number + 0) cs ≡ cs
    gone cs is = taken_none (number + 0) cs (below_all (suc number) hs cs (number + 0) is (omega arith))

    by_cut : (b : Bool) (pcs : List Connection) → all_numbers pcs ≡ number_unless b number (numbers_in (suc number) hs) → all_numbers (taken_out (number + 0) pcs) ≡ numbers_in (suc number) hs
    by_cut true pcs is = ap all_numbers (gone pcs is) ∙ is
    by_cut false [] is = absurd (cc)
    by_cut false (c ∷ cs) is =
        let first : c.number ≡ number + 0 = head_is c cs number (numbers_in (suc number) hs) is ∙ sym here in
        let rest : all_numbers cs ≡ numbers_in (suc number) hs = rest_is c cs number (numbers_in (suc number) hs) is in
        ap all_numbers (taken_first (number + 0) c cs first ∙ gone cs rest) ∙ rest
numbers_taken {E} {S} number (suc place) (h ∷ hs) new pcs same cut = by_cut h.link.is_cut pcs (λ cs is. numbers_taken (suc number) place hs new cs is cut) same
  where
    next : suc number + place ≡ number + suc place
    next = omega arith

    by_cut : (b : Bool) (pcs : List Connection) → ((cs : List Connection) → all_numbers cs ≡ numbers_in (suc number) hs → all_numbers (taken_out (suc number + place) cs) ≡ numbers_in (suc number) (slice_set hs place new)) → all_numbers pcs ≡ number_unless b number (numbers_in (suc number) hs) → all_numbers (taken_out (number + suc place) pcs) ≡ number_unless b number (numbers_in (suc number) (slice_set hs place new))
    by_cut true pcs rest is = ap (λ (n : ℕ). all_numbers (taken_out n pcs)) (sym next) ∙ rest pcs is
    by_cut false [] rest is = absurd (cc)
    by_cut false (c ∷ cs) rest is =
        let first : c.number ≡ number = head_is c cs number (numbers_in (suc number) hs) is in
        ap all_numbers (taken_later (number + suc place) c cs (λ e. let bad : ⊥ = omega (arith, first, e) in bad))
        ∙ ap (λ (n : ℕ). n ∷ all_numbers (taken_out (number + suc place) cs)) first
        ∙ ap (λ (n : ℕ). number ∷ all_numbers (taken_out n cs)) (sym next)
        ∙ ap (λ (ns : List ℕ). number ∷ ns) (rest cs (rest_is c cs number (numbers_in (suc number) hs) is))

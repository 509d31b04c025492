-- All connections of a play and those of the model, when one changes or is added.
use Rattle.std.proofs.Common.{◌≡◌, ◌∙◌, ℕ, zero, suc, ◌+◌, ◌<◌, List, [], ◌∷◌, ◌++◌, length, map, get_or, set, Option, Some, refl, sym, ap, subst, arith}
use Rattle.std.specs.List.{slice_get}
use Rattle.tds_world.specs.Connection.{Connection, Standing}
use Rattle.tds_world.specs.World.{put}
use Rattle.tds_play.specs.Seats.{Seated}
use Rattle.tds_play.specs.Lending.{standing_of}
use Rattle.tds_play.specs.Pipe.{Pipe, AreSame}
use Rattle.tds_play.specs.Plays.{RepresentsConnection, RepresentConnections}

-- There are as many.
pub as_many : {E S : Type 0} (n size : ℕ) (engine : E) (ls : List (Seated E S)) (pipes : ℕ → Option Pipe) (cs : List Connection) → RepresentConnections n size engine ls pipes cs → length ls ≡ length cs
as_many n size engine [] pipes [] all = refl
as_many n size engine [] pipes (c ∷ cs) all = absurd all
as_many n size engine (l ∷ ls) pipes [] all = absurd all
as_many n size engine (l ∷ ls) pipes (c ∷ cs) all = ap suc (as_many (suc n) size engine ls pipes cs all.1)

-- Each stands where its connection does.
pub same_standings : {E S : Type 0} (n size : ℕ) (engine : E) (ls : List (Seated E S)) (pipes : ℕ → Option Pipe) (cs : List Connection) → RepresentConnections n size engine ls pipes cs → map standing_of ls ≡ map (λ c. c.standing) cs
same_standings n size engine [] pipes [] all = refl
same_standings n size engine [] pipes (c ∷ cs) all = absurd all
same_standings n size engine (l ∷ ls) pipes [] all = absurd all
same_standings n size engine (l ∷ ls) pipes (c ∷ cs) all =
    ap (λ (s : Standing). s ∷ map standing_of ls) all.0.standing
    ∙ ap (λ (ss : List Standing). c.standing ∷ ss) (same_standings (suc n) size engine ls pipes cs all.1)

-- The connection at a place, which has this number.
pub played_at : {E S : Type 0} (n m size : ℕ) (engine : E) (ls : List (Seated E S)) (pipes : ℕ → Option Pipe) (cs : List Connection) (i : ℕ) (d : Seated E S) (c : Connection) → RepresentConnections n size engine ls pipes cs → slice_get cs i ≡ Some c → m ≡ n + i → RepresentsConnection m size engine (get_or ls i d).link (get_or ls i d).seat (pipes m) c
played_at n m size engine [] pipes [] i d c all e at = absurd (cc)
played_at n m size engine [] pipes (b ∷ cs) i d c all e at = absurd all
played_at n m size engine (l ∷ ls) pipes [] i d c all e at = absurd all
played_at {E} {S} n m size engine (l ∷ ls) pipes (b ∷ cs) zero d c all e at =
    let same : n ≡ m = omega (arith, at) in
    let is : b ≡ c = cc in
    subst (λ (k : ℕ). RepresentsConnection k size engine l.link l.seat (pipes k) c) same (subst (λ (x : Connection). RepresentsConnection n size engine l.link l.seat (pipes n) x) is all.0)
played_at n m size engine (l ∷ ls) pipes (b ∷ cs) (suc i) d c all e at =
    played_at (suc n) m size engine ls pipes cs i d c all.1 e (omega (arith, at))

-- Another connection changes.
pub elsewhere : {E S : Type 0} (n m size : ℕ) (engine : E) (ls : List (Seated E S)) (pipes pipes' : ℕ → Option Pipe) (cs : List Connection) → m < n → AreSame pipes pipes' m → RepresentConnections n size engine ls pipes cs → RepresentConnections n size engine ls pipes' cs
elsewhere n m size engine [] pipes pipes' [] less same all = all
elsewhere n m size engine [] pipes pipes' (c ∷ cs) less same all = all
elsewhere n m size engine (l ∷ ls) pipes pipes' [] less same all = all
elsewhere n m size engine (l ∷ ls) pipes pipes' (c ∷ cs) less same all = (
  subst (λ (p : Option Pipe). RepresentsConnection n size engine l.link l.seat p c) (sym (same n (λ z. absurd (omega (arith, z, less))))) all.0,
  elsewhere (suc n) m size engine ls pipes pipes' cs (omega (arith, less)) same all.1,
)

-- The connection at a place changes, and no other.
pub set_played : {E S : Type 0} (n m size : ℕ) (engine : E) (ls : List (Seated E S)) (pipes pipes' : ℕ → Option Pipe) (cs : List Connection) (i : ℕ) (l' : Seated E S) (c' : Connection) → RepresentConnections n size engine ls pipes cs → i < length ls → m ≡ n + i → AreSame pipes pipes' m → RepresentsConnection m size engine l'.link l'.seat (pipes' m) c' → RepresentConnections n size engine (set ls i l') pipes' (put i c' cs)
set_played n m size engine [] pipes pipes' cs i l' c' all less at same is = absurd (omega (arith, less))
set_played n m size engine (l ∷ ls) pipes pipes' [] i l' c' all less at same is = absurd all
set_played n m size engine (l ∷ ls) pipes pipes' (c ∷ cs) zero l' c' all less at same is =
    let here : m ≡ n = omega (arith, at) in (
      subst (λ (k : ℕ). RepresentsConnection k size engine l'.link l'.seat (pipes' k) c') here is,
      elsewhere (suc n) m size engine ls pipes pipes' cs (omega (arith, at)) same all.1,
    )
set_played n m size engine (l ∷ ls) pipes pipes' (c ∷ cs) (suc i) l' c' all less at same is = (
  subst (λ (p : Option Pipe). RepresentsConnection n size engine l.link l.seat p c) (sym (same n (λ z. absurd (omega (arith, z, at))))) all.0,
  set_played (suc n) m size engine ls pipes pipes' cs i l' c' all.1 (omega (arith, less)) (omega (arith, at)) same is,
)

-- One is added behind them all.
pub push_played : {E S : Type 0} (n m size : ℕ) (engine : E) (ls : List (Seated E S)) (pipes pipes' : ℕ → Option Pipe) (cs : List Connection) (l' : Seated E S) (c' : Connection) → RepresentConnections n size engine ls pipes cs → m ≡ n + length cs → AreSame pipes pipes' m → RepresentsConnection m size engine l'.link l'.seat (pipes' m) c' → RepresentConnections n size engine (ls ++ l' ∷ []) pipes' (put (length cs) c' cs)
push_played n m size engine [] pipes pipes' [] l' c' all at same is =
    let here : m ≡ n = omega (arith, at) in (subst (λ (k : ℕ). RepresentsConnection k size engine l'.link l'.seat (pipes' k) c') here is, all)
push_played n m size engine [] pipes pipes' (c ∷ cs) l' c' all at same is = absurd all
push_played n m size engine (l ∷ ls) pipes pipes' [] l' c' all at same is = absurd all
push_played n m size engine (l ∷ ls) pipes pipes' (c ∷ cs) l' c' all at same is = (
  subst (λ (p : Option Pipe). RepresentsConnection n size engine l.link l.seat p c) (sym (same n (λ z. absurd (omega (arith, z, at))))) all.0,
  push_played (suc n) m size engine ls pipes pipes' cs l' c' all.1 (omega (arith, at)) same is,
)

-- A connection that stays as it was is put where it is.
pub put_same : {A : Type 0} (xs : List A) (i : ℕ) (x : A) → slice_get xs i ≡ Some x → put i x xs ≡ xs
put_same [] i x e = absurd (cc)
put_same (y ∷ xs) zero x e = let is : y ≡ x = cc in ap (λ z. z ∷ xs) (sym is)
put_same (y ∷ xs) (suc i) x e = ap (λ ys. y ∷ ys) (put_same xs i x e)

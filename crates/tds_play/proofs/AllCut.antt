-- All connections of a play are cut, one after the other.
use Rattle.std.proofs.Common.{◌≡◌, ◌∙◌, ℕ, zero, suc, ◌<◌, Bool, true, List, [], ◌∷◌, length, map, get_or, set, Option, Some, refl, sym, ap, subst, arith}
use Rattle.std.specs.List.{slice_get}
use Rattle.tds_world.specs.declared.report.Place.{Place}
use Rattle.tds_world.specs.Connection.{Connection, Standing, Cut, cut}
use Rattle.tds_world.specs.World.{put}
use Rattle.tds_play.specs.Seats.{Seated}
use Rattle.tds_play.specs.Lending.{standing_by}
use Rattle.tds_play.specs.Pipe.{Pipe, AreSame}
use Rattle.tds_play.specs.Plays.{RepresentsConnection, RepresentConnections}
use Rattle.tds_play.proofs.AllPlayed.{as_many, played_at, set_played}

-- ---- One connection

-- The connection at a place, whose number is one more.
pub played_there : {E S : Type 0} (size : ℕ) (engine : E) (ls : List (Seated E S)) (pipes : ℕ → Option Pipe) (cs : List Connection) (i : ℕ) (x : Seated E S) (c : Connection) → x ≡ get_or ls i x → RepresentConnections 1 size engine ls pipes cs → slice_get cs i ≡ Some c → RepresentsConnection (suc i) size engine x.link x.seat (pipes (suc i)) c
played_there size engine ls pipes cs i x c is all there =
    subst (λ l. RepresentsConnection (suc i) size engine l.link l.seat (pipes (suc i)) c) (sym is)
    (played_at 1 (suc i) size engine ls pipes cs i x c all there (omega (arith)))

-- It changes, and no other one.
pub put_played : {E S : Type 0} (size : ℕ) (engine : E) (ls : List (Seated E S)) (pipes pipes' : ℕ → Option Pipe) (cs : List Connection) (i n : ℕ) (new : Seated E S) (c : Connection) → RepresentConnections 1 size engine ls pipes cs → i < length ls → n ≡ suc i → AreSame pipes pipes' n → RepresentsConnection n size engine new.link new.seat (pipes' n) c → RepresentConnections 1 size engine (set ls i new) pipes' (put i c cs)
put_played size engine ls pipes pipes' cs i n new c all less number same is =
    set_played 1 n size engine ls pipes pipes' cs i new c all less (omega (arith, number)) same is

-- A connection that is cut already stays as it was.
pub cut_again : (c : Connection) → c.standing ≡ Cut → c ≡ cut c
cut_again c e = ap (λ (s : Standing). record c { standing = s }) e

is_cut_by : (b : Bool) (p : Place) (s : Standing) → standing_by b p ≡ s → b ≡ true → s ≡ Cut
is_cut_by b p s e is = sym e ∙ ap (λ (x : Bool). standing_by x p) is

pub stays_cut : {E S : Type 0} (size : ℕ) (engine : E) (ls : List (Seated E S)) (pipes : ℕ → Option Pipe) (cs : List Connection) (i : ℕ) (x : Seated E S) (c : Connection) → x ≡ get_or ls i x → i < length ls → x.link.is_cut ≡ true → slice_get cs i ≡ Some c → RepresentConnections 1 size engine ls pipes cs → RepresentConnections 1 size engine (set ls i x) pipes (put i (cut c) cs)
stays_cut size engine ls pipes cs i x c is less gone there all =
    let played : RepresentsConnection (suc i) size engine x.link x.seat (pipes (suc i)) c = played_there size engine ls pipes cs i x c is all there in
    put_played size engine ls pipes pipes cs i (suc i) x (cut c) all less refl (λ n z. refl)
    (subst (RepresentsConnection (suc i) size engine x.link x.seat (pipes (suc i))) (cut_again c (is_cut_by x.link.is_cut x.seat.place c.standing played.standing gone)) played)

-- What an event makes of the connection that a link stands for.
pub put_changed : {E S : Type 0} (size : ℕ) (engine : E) (ls : List (Seated E S)) (pipes pipes' : ℕ → Option Pipe) (cs : List Connection) (i : ℕ) (x y : Seated E S) (c d : Connection) → x ≡ get_or ls i x → i < length ls → AreSame pipes pipes' x.link.number → slice_get cs i ≡ Some c → RepresentConnections 1 size engine ls pipes cs → (RepresentsConnection x.link.number size engine x.link x.seat (pipes x.link.number) c → RepresentsConnection x.link.number size engine y.link y.seat (pipes' x.link.number) d) → RepresentConnections 1 size engine (set ls i y) pipes' (put i d cs)
put_changed size engine ls pipes pipes' cs i x y c d is less same there all then =
    let played : RepresentsConnection (suc i) size engine x.link x.seat (pipes (suc i)) c = played_there size engine ls pipes cs i x c is all there in
    put_played size engine ls pipes pipes' cs i x.link.number y d all less played.numbered same
    (then (subst (λ (n : ℕ). RepresentsConnection n size engine x.link x.seat (pipes n) c) (sym played.numbered) played))

-- ---- All of them

-- The first so many connections are cut.
abbrev pub cut_front : ℕ → List Connection → List Connection
cut_front zero cs = cs
cut_front (suc k) [] = []
cut_front (suc k) (c ∷ cs) = cut c ∷ cut_front k cs

pub cut_whole : (cs : List Connection) → cut_front (length cs) cs ≡ map cut cs
cut_whole [] = refl
cut_whole (c ∷ cs) = ap (λ (ds : List Connection). cut c ∷ ds) (cut_whole cs)

-- The next connection is as it was, and is cut then.
pub record IsNextCut (k : ℕ) (cs : List Connection) : Type 0 where
  pub connection : Connection
  pub there : slice_get (cut_front k cs) k ≡ Some connection
  pub then : put k (cut connection) (cut_front k cs) ≡ cut_front (suc k) cs

pub next_cut : (k : ℕ) (cs : List Connection) → k < length cs → IsNextCut k cs
next_cut k [] less = absurd (omega (arith, less))
next_cut zero (c ∷ cs) less = record { connection = c; there = refl; then = refl }
next_cut (suc k) (c ∷ cs) less =
    let rest : IsNextCut k cs = next_cut k cs (omega (arith, less)) in
    record {
      connection = rest.connection;
      there = rest.there;
      then = ap (λ (ds : List Connection). cut c ∷ ds) rest.then;
    }

many_cut : (k : ℕ) (cs : List Connection) → length (cut_front k cs) ≡ length cs
many_cut zero cs = refl
many_cut (suc k) [] = refl
many_cut (suc k) (c ∷ cs) = ap suc (many_cut k cs)

-- The next one is cut.
pub cuts_next : {E S : Type 0} (size : ℕ) (engine : E) (ls ls' : List (Seated E S)) (pipes pipes' : ℕ → Option Pipe) (cs : List Connection) (k j : ℕ) → k < length ls → j ≡ suc k → RepresentConnections 1 size engine ls pipes (cut_front k cs) → ((ds : List Connection) (c : Connection) → slice_get ds k ≡ Some c → RepresentConnections 1 size engine ls pipes ds → RepresentConnections 1 size engine ls' pipes' (put k (cut c) ds)) → RepresentConnections 1 size engine ls' pipes' (cut_front j cs)
cuts_next size engine ls ls' pipes pipes' cs k j less after all then =
    let long : k < length cs = omega (arith, less, as_many 1 size engine ls pipes (cut_front k cs) all, many_cut k cs) in
    let next : IsNextCut k cs = next_cut k cs long in
    subst (RepresentConnections 1 size engine ls' pipes') (next.then ∙ ap (λ (n : ℕ). cut_front n cs) (sym after)) (then (cut_front k cs) next.connection next.there all)

-- All of them are cut in the end.
pub cuts_whole : {E S : Type 0} (size : ℕ) (engine : E) (ls ls' : List (Seated E S)) (pipes pipes' : ℕ → Option Pipe) (cs : List Connection) (k : ℕ) → k ≡ length ls → RepresentConnections 1 size engine ls pipes cs → RepresentConnections 1 size engine ls' pipes' (cut_front k cs) → RepresentConnections 1 size engine ls' pipes' (map cut cs)
cuts_whole size engine ls ls' pipes pipes' cs k end before all =
    subst (RepresentConnections 1 size engine ls' pipes')
    (ap (λ (n : ℕ). cut_front n cs) (end ∙ as_many 1 size engine ls pipes cs before) ∙ cut_whole cs) all

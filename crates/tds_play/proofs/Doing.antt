-- What is told of an event that is done.
use Rattle.std.specs.Prelude.{IfOk}
use Rattle.std.proofs.Common.{◌≡◌, ◌∙◌, ℕ, Bool, sym, subst, Option, Some, None, Result, Ok}
use Rattle.tds_world.specs.declared.outcome.Outcome.{Outcome}
use Rattle.tds_world.specs.Connection.{Connection}
use Rattle.tds_world.specs.Pool.{Acted}
use Rattle.tds_play.specs.Pipe.{Pipe}
use Rattle.tds_play.specs.Plays.{RefinesAct, RepresentsConnection, after, cut_where, outcome_of}
use Rattle.tds_play.specs.declared.link.EventDone.{EventDone}
use Rattle.tds_play.specs.declared.link.Link.{Link}
use Rattle.tds_play.specs.Seats.{Seat}

pub does_so : {E S : Type 0} (number size : ℕ) (engine : E) (done : EventDone) (what : Outcome) (lost : Bool) (new : Link E S) (seat : Seat) (pipe : Option Pipe) (acted : Acted) (c : Connection)
    → done ≡ record { outcome = what; lost = lost } → what ≡ outcome_of acted
    → RepresentsConnection number size engine new seat pipe (cut_where lost (after acted c))
    → RefinesAct number size engine done new seat pipe acted c
does_so {E} {S} number size engine done what lost new seat pipe acted c is same then =
    subst (λ (d : EventDone). RefinesAct number size engine d new seat pipe acted c) (sym is) (record { outcome = same; played = then })

-- The end of an event, on the connection of this number.
pub ended : {E S : Type 0} (n m size : ℕ) (engine : E) (mid new : Link E S) (seat : Seat) (before after : ℕ → Option Pipe) (lost : Bool) (c : Connection)
    → m ≡ n
    → (RepresentsConnection m size engine mid seat (before m) c → RepresentsConnection m size engine new seat (after m) (cut_where lost c))
    → RepresentsConnection n size engine mid seat (before n) c → RepresentsConnection n size engine new seat (after n) (cut_where lost c)
ended {E} {S} n m size engine mid new seat before after lost c at ends =
    subst (λ (k : ℕ). RepresentsConnection k size engine mid seat (before k) c → RepresentsConnection k size engine new seat (after k) (cut_where lost c)) at ends

-- So it did what the act does.
pub ends_so : {E S : Type 0} (n m size : ℕ) (engine : E) (done : EventDone) (what : Outcome) (lost : Bool) (mid new : Link E S) (seat : Seat) (old last : ℕ → Option Pipe) (acted : Acted) (c : Connection)
    → m ≡ n → done ≡ record { outcome = what; lost = lost } → what ≡ outcome_of acted
    → ((d : Connection) → RepresentsConnection m size engine mid seat (old m) d → RepresentsConnection m size engine new seat (last m) (cut_where lost d))
    → RepresentsConnection n size engine mid seat (old n) (after acted c)
    → RefinesAct n size engine done new seat (last n) acted c
ends_so n m size engine done what lost mid new seat old last acted c at is same ends then =
    does_so n size engine done what lost new seat (last n) acted c is same
    (ended n m size engine mid new seat old last lost (after acted c) at (ends (after acted c)) then)

-- ---- What a call answered

pub ok_so : {A B : Type 0} (r : Result A B) (x : A) (Q : A → Type 0) → r ≡ Ok x → IfOk r Q → Q x
ok_so r x Q is h = subst (λ y. IfOk y Q) is h

pub some_is : {A : Type 0} (x y : A) (o : Option A) → o ≡ Some x → o ≡ Some y → x ≡ y
some_is x y o e f = let same : Some x ≡ Some y = sym e ∙ f in cc

pub some_told : {A B : Type 0} (x : A) (o : Option A) (r : Result (Option A) B) → o ≡ Some x → r ≡ Ok o → r ≡ Ok None → ⊥
some_told x o r is told none = absurd (cc)

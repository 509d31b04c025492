-- A request that is done with is told nothing, and isn't finished again.
use Rattle.std.proofs.Common.{◌≡◌, ◌∙◌, ◌<◌, ◌≤◌, ◌==◌, ◌||◌, ℕ, Bool, true, false, List, [], ◌∷◌, ◌++◌, refl, sym, ap, arith}
use Rattle.std.specs.Prelude.{Result, Ok, Err, if◌then◌else◌}
use Rattle.std.proofs.lemmas.Bool.Decides.{nat_tests}
use Rattle.tds_client.specs.declared.heard.Heard.{Heard}
use Rattle.tds_client.specs.declared.heard.FinalDone.{FinalDone}
use Rattle.tds_client.specs.declared.heard.FinalDone.TheVariants.{Awaited, Answered, Acknowledged}
use Rattle.tds_listen.specs.declared.fault.ListenFault.{ListenFault}
use Rattle.tds_service.specs.Parts.{Part, hear_part, heard_until, is_end, items_told}
use Rattle.tds_service.specs.Line.{Line, LineStage, Idle, Sending, Reading, Cancelling, Broken, Act, Mark, Ask, Send, Cancel, Come, Lose, Turn, reads, skips, skips_to_end, line_turn}
use Rattle.tds_service.specs.History.{Done, done_by, given, told_to}
use Rattle.laws_conforming_server.specs.Lawful.{ServerStep, told_of}
use Rattle.laws_conforming_server.specs.Link.{here}
use Rattle.laws_conforming_server.specs.Answering.{Begins, finishes, is_finished}
use Rattle.laws_conforming_server.proofs.Coming.{line}
use Rattle.laws_conforming_server.proofs.Plans.{Planned, Does, Takes, Speaks, moves_by}

pub same : (n : ℕ) → (n == n) ≡ true
same n = grind (arith, nat_tests)

pub below : (n r : ℕ) → r < n → (n == r) ≡ false
below n r h = grind (arith, nat_tests)

pub above : (n r : ℕ) → n < r → (n == r) ≡ false
above n r h = grind (arith, nat_tests)

-- ---- What is told of an answer

-- What this request is given is a beginning of it, and all of it where the request is finished.
pub record IsOwn {V T : Type 0} (r : ℕ) (ds : List (Done T)) (steps : List (ServerStep V T)) : Type 0 where
  pub begins : Begins (given r ds) (told_of steps)
  pub whole : finishes r ds ≡ true → given r ds ≡ told_of steps

-- It speaks of what is told of them alone.
pub own_alike : {V T : Type 0} (r : ℕ) (ds : List (Done T)) (xs ys : List (ServerStep V T)) → told_of xs ≡ told_of ys → IsOwn r ds xs → IsOwn r ds ys
own_alike {V} {T} r ds xs ys e o = record {
  begins = (o.begins.0, o.begins.1 ∙ e);
  whole = λ (w : finishes r ds ≡ true). o.whole w ∙ e;
}

-- It is told nothing.
pub record Silent {T : Type 0} (r : ℕ) (ds : List (Done T)) : Type 0 where
  pub given_nothing : given r ds ≡ []
  pub unfinished : finishes r ds ≡ false

pub record Untold {T : Type 0} (r : ℕ) (d : Done T) : Type 0 where
  pub told : told_to r d.told ≡ []
  pub finished : is_finished r d.answer ≡ false

pub own_silent : {V T : Type 0} (r : ℕ) (ds : List (Done T)) (steps : List (ServerStep V T)) → Silent r ds → IsOwn r ds steps
own_silent {V} {T} r ds steps s = record {
  begins = (told_of steps, ap (λ (xs : List T). xs ++ told_of steps) s.given_nothing);
  whole = λ (e : finishes r ds ≡ true). let b : ⊥ = cc (s.unfinished, e) in absurd b;
}

pub own_untold : {V T : Type 0} (r : ℕ) (d : Done T) (ds : List (Done T)) (steps : List (ServerStep V T)) → Untold r d → IsOwn r ds steps → IsOwn r (d ∷ ds) steps
own_untold {V} {T} r d ds steps u o =
    let e : given r (d ∷ ds) ≡ given r ds = ap (λ (xs : List T). xs ++ given r ds) u.told in
    let f : finishes r (d ∷ ds) ≡ finishes r ds = ap (λ (b : Bool). b || finishes r ds) u.finished in
    record {
      begins = (o.begins.0, ap (λ (xs : List T). xs ++ o.begins.0) e ∙ o.begins.1);
      whole = λ (w : finishes r (d ∷ ds) ≡ true). e ∙ o.whole (sym f ∙ w);
    }

silent_untold : {T : Type 0} (r : ℕ) (d : Done T) (ds : List (Done T)) → Untold r d → Silent r ds → Silent r (d ∷ ds)
silent_untold {T} r d ds u s = record {
  given_nothing = ap (λ (xs : List T). xs ++ given r ds) u.told ∙ s.given_nothing;
  unfinished = ap (λ (b : Bool). b || finishes r ds) u.finished ∙ s.unfinished;
}

-- ---- Requests that are done with

abbrev pub IsPast : LineStage → ℕ → ℕ → Type 0
IsPast Idle n r = r ≤ n
IsPast (Sending begun) n r = r < n
IsPast Reading n r = r < n
IsPast Cancelling n r = r ≤ n
IsPast (Broken fault) n r = Unit {0}

abbrev pub IsPastOn : Line → ℕ → Type 0
IsPastOn l r = IsPast l.stage l.asked r

abbrev pub StaysPast : {T : Type 0} → ℕ → Act T → Turn T → Type 0
StaysPast r a t = Untold r (done_by a t) × IsPastOn t.line r

pub to_other : {T : Type 0} (n r : ℕ) (tokens : List T) → (n == r) ≡ false → (if n == r then tokens else []) ≡ []
to_other {T} n r tokens e = ap (λ (b : Bool). if b then tokens else []) e

past_reads : {T : Type 0} (n r : ℕ) (h : Heard) (part : Part T) (ends : Bool) (u : Heard) (result : Result Heard ListenFault) → r < n
    → StaysPast r (Come part) (reads (line n Reading h) part ends u result)
past_reads n r h part ends u (Err fault) p = (record { told = refl; finished = refl }, tt)
past_reads n r h part false u (Ok heard) p = (record { told = to_other n r (items_told part.items) (below n r p); finished = refl }, p)
past_reads n r h part true u (Ok heard) p = (record { told = to_other n r (items_told part.items) (below n r p); finished = below n r p }, omega arith)

past_skips_to_end : {T : Type 0} (n r : ℕ) (h heard : Heard) (part : Part T) (done : FinalDone) → r ≤ n
    → StaysPast r (Come part) (skips_to_end (line n Cancelling h) heard done)
past_skips_to_end n r h heard part Awaited p = (record { told = refl; finished = refl }, p)
past_skips_to_end n r h heard part Answered p = (record { told = refl; finished = refl }, p)
past_skips_to_end n r h heard part Acknowledged p = (record { told = refl; finished = refl }, p)

past_skips : {T : Type 0} (n r : ℕ) (h : Heard) (part : Part T) (ends : Bool) (u : Heard) (result : Result Heard ListenFault) → r ≤ n
    → StaysPast r (Come part) (skips (line n Cancelling h) ends u result)
past_skips n r h part ends u (Err fault) p = (record { told = refl; finished = refl }, tt)
past_skips n r h part false u (Ok heard) p = (record { told = refl; finished = refl }, p)
past_skips n r h part true u (Ok heard) p = past_skips_to_end n r h heard part heard.done p

pub past_step : {T : Type 0} (n r : ℕ) (stage : LineStage) (h : Heard) (a : Act T) → IsPast stage n r → StaysPast r a (line_turn (line n stage h) a)
past_step n r Idle h (Mark reset) p = (record { told = refl; finished = refl }, p)
past_step n r Idle h Ask p = (record { told = refl; finished = refl }, omega arith)
past_step n r Idle h (Send last) p = (record { told = refl; finished = refl }, p)
past_step n r Idle h Cancel p = (record { told = refl; finished = refl }, p)
past_step n r Idle h (Come part) p = (record { told = refl; finished = refl }, tt)
past_step n r Idle h Lose p = (record { told = refl; finished = refl }, tt)
past_step n r (Sending begun) h (Mark reset) p = (record { told = refl; finished = refl }, p)
past_step n r (Sending begun) h Ask p = (record { told = refl; finished = refl }, p)
past_step n r (Sending begun) h (Send false) p = (record { told = refl; finished = refl }, p)
past_step n r (Sending begun) h (Send true) p = (record { told = refl; finished = refl }, p)
past_step n r (Sending false) h Cancel p = (record { told = refl; finished = refl }, omega arith)
past_step n r (Sending true) h Cancel p = (record { told = refl; finished = refl }, omega arith)
past_step n r (Sending begun) h (Come part) p = (record { told = refl; finished = refl }, tt)
past_step n r (Sending begun) h Lose p = (record { told = refl; finished = refl }, tt)
past_step n r Reading h (Mark reset) p = (record { told = refl; finished = refl }, p)
past_step n r Reading h Ask p = (record { told = refl; finished = refl }, p)
past_step n r Reading h (Send last) p = (record { told = refl; finished = refl }, p)
past_step n r Reading h Cancel p = (record { told = refl; finished = refl }, omega arith)
past_step n r Reading h (Come part) p = past_reads n r h part (is_end part.close) (heard_until false h part.items) (hear_part false h part) p
past_step n r Reading h Lose p = (record { told = refl; finished = refl }, tt)
past_step n r Cancelling h (Mark reset) p = (record { told = refl; finished = refl }, p)
past_step n r Cancelling h Ask p = (record { told = refl; finished = refl }, p)
past_step n r Cancelling h (Send last) p = (record { told = refl; finished = refl }, p)
past_step n r Cancelling h Cancel p = (record { told = refl; finished = refl }, p)
past_step n r Cancelling h (Come part) p = past_skips n r h part (is_end part.close) (heard_until true h part.items) (hear_part true h part) p
past_step n r Cancelling h Lose p = (record { told = refl; finished = refl }, tt)
past_step n r (Broken fault) h (Mark reset) p = (record { told = refl; finished = refl }, tt)
past_step n r (Broken fault) h Ask p = (record { told = refl; finished = refl }, tt)
past_step n r (Broken fault) h (Send last) p = (record { told = refl; finished = refl }, tt)
past_step n r (Broken fault) h Cancel p = (record { told = refl; finished = refl }, tt)
past_step n r (Broken fault) h (Come part) p = (record { told = refl; finished = refl }, tt)
past_step n r (Broken fault) h Lose p = (record { told = refl; finished = refl }, tt)

pub past : {T : Type 0} (r : ℕ) (l : Line) (plan : List (Planned T)) → IsPastOn l r → Silent r (here (moves_by l plan))
past r l [] p = record { given_nothing = refl; unfinished = refl }
past r l (Does a ∷ plan) p =
    let s = past_step l.asked r l.stage l.heard a p in
    silent_untold r (done_by a (line_turn l a)) (here (moves_by (line_turn l a).line plan)) s.0 (past r (line_turn l a).line plan s.1)
past r l (Takes ∷ plan) p = past r l plan p
past r l (Speaks ∷ plan) p = past r l plan p

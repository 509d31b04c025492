-- Behind a loss of the connection nobody is told anything.
use Rattle.std.proofs.Common.{◌≡◌, ◌∙◌, ◌||◌, ℕ, Bool, true, false, List, [], ◌∷◌, ◌++◌, refl, sym, ap, append_assoc}
use Rattle.tds_client.specs.declared.heard.Heard.{Heard}
use Rattle.tds_service.specs.Line.{Line, LineStage, Idle, Sending, Reading, Cancelling, Broken, Act, Lose, new_line, line_turn}
use Rattle.tds_service.specs.History.{Done, done_by, given, history, line_after, told_to}
use Rattle.laws_conforming_server.specs.Lawful.{ServerStep, told_of}
use Rattle.laws_conforming_server.specs.Answering.{Begins, finishes, is_finished}
use Rattle.laws_conforming_server.proofs.Coming.{append_nothing, line}
use Rattle.laws_conforming_server.proofs.Past.{IsOwn, IsPastOn, Silent, StaysPast, past_step}

silent_acts : {T : Type 0} (r : ℕ) (l : Line) (acts : List (Act T)) → IsPastOn l r → Silent r (history l acts)
silent_acts r l [] p = record { given_nothing = refl; unfinished = refl }
silent_acts {T} r l (a ∷ acts) p =
    let s : StaysPast r a (line_turn l a) = past_step l.asked r l.stage l.heard a p in
    let ih : Silent r (history (line_turn l a).line acts) = silent_acts r (line_turn l a).line acts s.1 in
    record {
      given_nothing = ap (λ (xs : List T). xs ++ given r (history (line_turn l a).line acts)) s.0.told ∙ ih.given_nothing;
      unfinished = ap (λ (b : Bool). b || finishes r (history (line_turn l a).line acts)) s.0.finished ∙ ih.unfinished;
    }

-- the loss itself
lost_step : {T : Type 0} (n r : ℕ) (stage : LineStage) (h : Heard) → StaysPast {T = T} r Lose (line_turn (line n stage h) Lose)
lost_step n r Idle h = (record { told = refl; finished = refl }, tt)
lost_step n r (Sending begun) h = (record { told = refl; finished = refl }, tt)
lost_step n r Reading h = (record { told = refl; finished = refl }, tt)
lost_step n r Cancelling h = (record { told = refl; finished = refl }, tt)
lost_step n r (Broken fault) h = (record { told = refl; finished = refl }, tt)

silent_lost : {T : Type 0} (r : ℕ) (l : Line) (after : List (Act T)) → Silent r (history l (Lose ∷ after))
silent_lost {T} r l after =
    let s : StaysPast {T = T} r Lose (line_turn l Lose) = lost_step l.asked r l.stage l.heard in
    let rest : Silent r (history (line_turn {T = T} l Lose).line after) = silent_acts r (line_turn {T = T} l Lose).line after s.1 in
    record {
      given_nothing = ap (λ (xs : List T). xs ++ given r (history (line_turn {T = T} l Lose).line after)) s.0.told ∙ rest.given_nothing;
      unfinished = ap (λ (b : Bool). b || finishes r (history (line_turn {T = T} l Lose).line after)) s.0.finished ∙ rest.unfinished;
    }

-- ---- What was told before

history_both : {T : Type 0} (l : Line) (xs ys : List (Act T)) → history l (xs ++ ys) ≡ history l xs ++ history (line_after l xs) ys
history_both l [] ys = refl
history_both {T} l (x ∷ xs) ys = ap (λ (ds : List (Done T)). done_by x (line_turn l x) ∷ ds) (history_both (line_turn l x).line xs ys)

given_both : {T : Type 0} (r : ℕ) (xs ys : List (Done T)) → given r (xs ++ ys) ≡ given r xs ++ given r ys
given_both r [] ys = refl
given_both {T} r (d ∷ xs) ys = ap (λ (ts : List T). told_to r d.told ++ ts) (given_both r xs ys) ∙ sym (append_assoc (told_to r d.told) (given r xs) (given r ys))

or_both : (a b c : Bool) → (a || (b || c)) ≡ ((a || b) || c)
or_both true b c = refl
or_both false b c = refl

finishes_both : {T : Type 0} (r : ℕ) (xs ys : List (Done T)) → finishes r (xs ++ ys) ≡ finishes r xs || finishes r ys
finishes_both r [] ys = refl
finishes_both r (d ∷ xs) ys =
    ap (λ (b : Bool). is_finished r d.answer || b) (finishes_both r xs ys) ∙ or_both (is_finished r d.answer) (finishes r xs) (finishes r ys)

or_false : (a : Bool) → (a || false) ≡ a
or_false true = refl
or_false false = refl

pub told_before : {T : Type 0} (before after : List (Act T)) (r : ℕ) → given r (history new_line (before ++ Lose ∷ after)) ≡ given r (history new_line before)
told_before {T} before after r =
    ap (given r) (history_both new_line before (Lose ∷ after))
    ∙ given_both r (history new_line before) (history (line_after new_line before) (Lose ∷ after))
    ∙ ap (λ (ts : List T). given r (history new_line before) ++ ts) (silent_lost r (line_after new_line before) after).given_nothing
    ∙ append_nothing (given r (history new_line before))

pub finished_before : {T : Type 0} (before after : List (Act T)) (r : ℕ) → finishes r (history new_line (before ++ Lose ∷ after)) ≡ finishes r (history new_line before)
finished_before before after r =
    ap (finishes r) (history_both new_line before (Lose ∷ after))
    ∙ finishes_both r (history new_line before) (history (line_after new_line before) (Lose ∷ after))
    ∙ ap (λ (b : Bool). finishes r (history new_line before) || b) (silent_lost r (line_after new_line before) after).unfinished
    ∙ or_false (finishes r (history new_line before))

pub own_before_loss : {V T : Type 0} (before after : List (Act T)) (r : ℕ) (steps : List (ServerStep V T)) → IsOwn r (history new_line (before ++ Lose ∷ after)) steps
    → Begins (given r (history new_line before)) (told_of steps)
own_before_loss {V} {T} before after r steps o =
    (o.begins.0, ap (λ (ts : List T). ts ++ o.begins.0) (sym (told_before before after r)) ∙ o.begins.1)

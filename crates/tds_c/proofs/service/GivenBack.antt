-- An idle connection that is given back: nothing is cancelled, and it is free.
use Rattle.std.proofs.Common.{◌≡◌, ◌∙◌, ℕ, Bool, true, List, [], ◌∷◌, take, refl, sym, ap, subst}
use Rattle.std.specs.Prelude.{Some}
use Rattle.tds_wire.specs.declared.told.Token.{Token}
use Rattle.tds_service.specs.declared.place.Rest.TheVariants as rest
use Rattle.tds_service.specs.History.{line_after}
use Rattle.tds_service.specs.Line.{Line, Cancel, Nothing, LineStage, Idle, Sending, Reading, Cancelling, Broken, Turn, cancels, quiet, line_turn}
use Rattle.tds_service.specs.Service as calls
use Rattle.tds_service.specs.Service.{Free, Seat, Service, Back, is_idle, rests, does, find_by}
use Rattle.tds_service.specs.Table.{StepsIn}
use Rattle.tds_service.specs.Ties.{AreBytes}
use Rattle.tds_c.specs.declared.service.plain.TdsSeat.{TdsSeat}
use Rattle.tds_c.specs.service.Plain.{line_of, seat_of, seats_of, stage_of}
use Rattle.tds_c.proofs.service.Steps.{Here, gives_back}

stays : (l : Line) (s : LineStage) → is_idle s ≡ true → cancels {T = Token} l s ≡ quiet l Nothing
stays l Idle e = refl
stays l (Sending begun) e = absurd (let u : ⊥ = cc in u)
stays l Reading e = absurd (let u : ⊥ = cc in u)
stays l Cancelling e = absurd (let u : ⊥ = cc in u)
stays l (Broken fault) e = absurd (let u : ⊥ = cc in u)

is_free : (s : LineStage) → is_idle s ≡ true → rests s ≡ Some Free
is_free Idle e = refl
is_free (Sending begun) e = absurd (let u : ⊥ = cc in u)
is_free Reading e = absurd (let u : ⊥ = cc in u)
is_free Cancelling e = absurd (let u : ⊥ = cc in u)
is_free (Broken fault) e = absurd (let u : ⊥ = cc in u)

turned : (x : TdsSeat) → is_idle (stage_of x.client) ≡ true → line_turn {T = Token} (line_of x) Cancel ≡ quiet (line_of x) Nothing
turned x idle = stays (line_of x) (stage_of x.client) idle

pub idle_after : (x c : TdsSeat) → x ≡ c → is_idle (stage_of x.client) ≡ true → line_of x ≡ line_after {T = Token} (line_of c) (Cancel ∷ [])
idle_after x c same idle =
    sym (ap (λ (t : Turn Token). t.line) (turned x idle)) ∙ ap (λ (z : TdsSeat). (line_turn {T = Token} (line_of z) Cancel).line) same

pub gives_idle : (s new : Service) (test : Seat → Bool) (count : ℕ) (seats : List TdsSeat) (i : ℕ) (here : Here test count seats i) (x : TdsSeat)
    → s.seats ≡ seats_of (take count seats) → x ≡ here.seat → is_idle (stage_of x.client) ≡ true
    → new ≡ (does {T = Token} s s.given test (seat_of here.seat) (Some Free) (Cancel ∷ []) (Back (Some Free))).service
    → StepsIn (calls.gives_back {T = Token} s test (find_by test s.seats)) new (Back (Some Free)) x.number [] []
gives_idle s new test count seats i here x table same idle did =
    gives_back s new test count seats i here x x rest.Free [] [] table same (sym (ap (λ (t : Turn Token). t.line) (turned x idle)))
    (sym (is_free (stage_of x.client) idle)) (subst (λ (t : Turn Token). AreBytes t.sent []) (sym (turned x idle)) refl) refl did

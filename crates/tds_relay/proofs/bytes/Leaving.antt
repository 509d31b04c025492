-- TokenParsers stand where they stood as a connection is lost, or let go.
use Rattle.std.proofs.Common.{◌≡◌, ◌∙◌, ℕ, Bool, List, [], ◌∷◌, refl, sym, ap, subst}
use Rattle.std.specs.Prelude.{Option, Some, None}
use Rattle.std.proofs.lemmas.Bool.{eqb-true}
use Rattle.tds_wire.specs.declared.told.Token.{Token}
use Rattle.tds_service.specs.declared.place.Rest.{Rest}
use Rattle.tds_service.specs.declared.place.Rest.TheVariants as rests
use Rattle.tds_service.specs.declared.service.Service as services
use Rattle.tds_service.specs.Beginning.{MakesAlike}
use Rattle.tds_service.specs.Line as line
use Rattle.tds_service.specs.Line.{Act}
use Rattle.tds_service.specs.History.{line_after}
use Rattle.tds_service.specs.Service as calls
use Rattle.tds_service.specs.Service.{Service, Call, Place, Seat, find_by, change_by, has_lease, has_number, clean_place, rests_cleaned, does, seat_numbered, step}
use Rattle.tds_service.specs.Sizes.{KeepsSize}
use Rattle.tds_service.specs.Table.{KeepsOthers, KeepsBy, StepsIn, reading_on, rest_of, service_in}
use Rattle.tds_service.proofs.Numbered.{change_out}
use Rattle.tds_relay.specs.Ties.{lost_by}
use Rattle.tds_relay.specs.TokenParsers.{AllStand, IsLed}
use Rattle.tds_relay.proofs.promises.Seats.{Distinct, found_meets}
use Rattle.tds_relay.proofs.bytes.Walking.{Opens, gone_stand, keeps_stand, led_tidy, seat_unread}

-- ---- One that is lost

out_at : (s : Service) (number : ℕ) (o : Option Seat) → Distinct s.seats → seat_numbered number s.seats ≡ o → seat_numbered number (calls.loses {T = Token} s (has_number number) o).service.seats ≡ None
out_at s number None distinct e = e
out_at s number (Some c) distinct e =
    let l = line_after {T = Token} c.line (line.Lose ∷ []) in
    let same : c.number ≡ number = eqb-true c.number number (found_meets (has_number number) c s.seats e) in
    subst (λ (k : ℕ). seat_numbered k (change_by (has_number number) None l s.seats) ≡ None) same (change_out (has_number number) c l s.seats distinct e)

lost_out : (s : Service) (number : ℕ) → IsLed s → seat_numbered number (lost_by s number).seats ≡ None
lost_out s number led = out_at s number (seat_numbered number s.seats) (led_tidy s led).distinct refl

pub lost_gone : (old new : services.Service) (number : ℕ) → service_in new ≡ lost_by (service_in old) number → IsLed (service_in old) → reading_on number new ≡ None
lost_gone old new number is led =
    seat_unread number new (subst (λ (s : Service). seat_numbered number s.seats ≡ None) (sym is) (lost_out (service_in old) number led))

pub lost_stand : (old new : services.Service) (number : ℕ) → service_in new ≡ lost_by (service_in old) number → MakesAlike old new → KeepsSize old new → KeepsOthers number old new → AllStand old new
lost_stand old new number is alike sized keeps =
    gone_stand old new (calls.Lost number) number is (λ opened. opened) alike sized keeps
    (λ led. subst (λ (s : Service). seat_numbered number s.seats ≡ None) (sym is) (lost_out (service_in old) number led))

-- ---- One that is let go

back_out : (s : Service) (test : Seat → Bool) (c : Seat) (place : Option Place) (all : List (Act Token)) (number : ℕ) → Distinct s.seats → find_by test s.seats ≡ Some c
    → place ≡ None → c.number ≡ number → seat_numbered number (does s s.given test c place all (calls.Back place)).service.seats ≡ None
back_out s test c place all number distinct e none same =
    let l = line_after c.line all in
    let out : seat_numbered number (change_by test None l s.seats) ≡ None =
    subst (λ (k : ℕ). seat_numbered k (change_by test None l s.seats) ≡ None) same (change_out test c l s.seats distinct e) in
    subst (λ (o : Option Place). seat_numbered number (change_by test o l s.seats) ≡ None) (sym none) out

given_out : (s : Service) (test : Seat → Bool) (o : Option Seat) (number : ℕ) → Distinct s.seats → find_by test s.seats ≡ o → (calls.gives_back {T = Token} s test o).reply ≡ calls.Back None
    → (calls.gives_back {T = Token} s test o).number ≡ number → seat_numbered number (calls.gives_back {T = Token} s test o).service.seats ≡ None
given_out s test None number distinct e reply is = absurd (let u : ⊥ = cc in u)
given_out s test (Some c) number distinct e reply is =
    let place = calls.rests (line_after {T = Token} c.line (line.Cancel ∷ [])).stage in
    let none : place ≡ None = cc in
    back_out s test c place (line.Cancel ∷ []) number distinct e none is

cleaned_out_by : (s : Service) (test : Seat → Bool) (c : Seat) (o : Option (Option Place)) (number : ℕ) → Distinct s.seats → find_by test s.seats ≡ Some c
    → (rests_cleaned {T = Token} s test c o).reply ≡ calls.Back None → (rests_cleaned {T = Token} s test c o).number ≡ number → seat_numbered number (rests_cleaned {T = Token} s test c o).service.seats ≡ None
cleaned_out_by s test c None number distinct e reply is = absurd (let u : ⊥ = cc in u)
cleaned_out_by s test c (Some place) number distinct e reply is =
    let none : place ≡ None = cc in
    back_out s test c place [] number distinct e none is

cleaned_out : (s : Service) (test : Seat → Bool) (o : Option Seat) (number : ℕ) → Distinct s.seats → find_by test s.seats ≡ o → (calls.cleaned {T = Token} s test o).reply ≡ calls.Back None
    → (calls.cleaned {T = Token} s test o).number ≡ number → seat_numbered number (calls.cleaned {T = Token} s test o).service.seats ≡ None
cleaned_out s test None number distinct e reply is = absurd (let u : ⊥ = cc in u)
cleaned_out s test (Some c) number distinct e reply is = cleaned_out_by s test c (clean_place c.place c.line) number distinct e reply is

-- By its call it is closed, or all are kept.
back_stand : (old new : services.Service) (call : Call Token) (rest : Rest) (number : ℕ) → service_in new ≡ (step (service_in old) call).service
    → (rest_of rest ≡ None → IsLed (service_in old) → seat_numbered number (service_in new).seats ≡ None) → (Opens call → ⊥) → MakesAlike old new → KeepsSize old new → KeepsBy rest number old new → AllStand old new
back_stand old new call rests.Free number is gone never alike sized keeps = keeps_stand old new call is never alike sized keeps
back_stand old new call rests.Draining number is gone never alike sized keeps = keeps_stand old new call is never alike sized keeps
back_stand old new call rests.Closed number is gone never alike sized keeps = gone_stand old new call number is never alike sized keeps (gone refl)

pub given_back_stand : (old new : services.Service) (lease number : ℕ) (rest : Rest) (before after : List ℕ)
    → StepsIn (step {T = Token} (service_in old) (calls.GiveBack lease)) (service_in new) (calls.Back (rest_of rest)) number before after → MakesAlike old new → KeepsSize old new → KeepsBy rest number old new → AllStand old new
given_back_stand old new lease number rest before after one alike sized keeps =
    back_stand old new (calls.GiveBack lease) rest number one.service_is
    (λ none led.
    let s = service_in old in
    subst (λ (t : Service). seat_numbered number t.seats ≡ None) (sym one.service_is)
    (given_out s (has_lease lease) (find_by (has_lease lease) s.seats) number (led_tidy s led).distinct refl (one.reply_is ∙ ap calls.Back none) one.number_is)) (λ opened. opened) alike sized keeps

pub cleaned_stand : (old new : services.Service) (lease number : ℕ) (rest : Rest) (before after : List ℕ)
    → StepsIn (step {T = Token} (service_in old) (calls.Cleaned lease)) (service_in new) (calls.Back (rest_of rest)) number before after → MakesAlike old new → KeepsSize old new → KeepsBy rest number old new → AllStand old new
cleaned_stand old new lease number rest before after one alike sized keeps =
    back_stand old new (calls.Cleaned lease) rest number one.service_is
    (λ none led.
    let s = service_in old in
    subst (λ (t : Service). seat_numbered number t.seats ≡ None) (sym one.service_is)
    (cleaned_out s (has_lease lease) (find_by (has_lease lease) s.seats) number (led_tidy s led).distinct refl (one.reply_is ∙ ap calls.Back none) one.number_is)) (λ opened. opened) alike sized keeps

-- Connections that are given back, cleaned, and forgotten: whether they stay.
use Rattle.std.proofs.Common.{◌≡◌, ◌∙◌, ℕ, Bool, true, false, List, [], ◌∷◌, Option, Some, None, is_some, refl, sym, ap, subst, if◌then◌else◌}
use Rattle.tds_wire.specs.declared.told.Token.{Token}
use Rattle.tds_service.specs.declared.place.Rest.{Rest}
use Rattle.tds_service.specs.declared.service.Service as services
use Rattle.tds_service.specs.Parts.{Part}
use Rattle.tds_service.specs.Line as line
use Rattle.tds_service.specs.History.{line_after}
use Rattle.tds_service.specs.Service as calls
use Rattle.tds_service.specs.Service.{Call, Seat, Service, ServiceStep, change_by, drained, find_by, has_lease, has_number, lease_at, lease_in, seat_numbered, step, service_after}
use Rattle.tds_service.specs.Table.{StepsIn, rest_of, service_in}
use Rattle.tds_service.proofs.Numbered.{change_here}
use Rattle.tds_relay.specs.declared.pool.coming.What.{What}
use Rattle.tds_relay.specs.declared.pool.coming.What.TheVariants as whats
use Rattle.tds_relay.specs.declared.pool.Hold.{Hold}
use Rattle.tds_relay.specs.Pool.{Pool, Way, cleaning, find_key}
use Rattle.tds_relay.specs.Few.{HasNumber, KeepsSeats, SeatIs, SeatStays, has_seat, is_left}
use Rattle.tds_relay.specs.Ties.{IsReached, Makes, is_sent, lost_by}
use Rattle.tds_relay.specs.TokenParsers.{IsLed}
use Rattle.tds_relay.proofs.bytes.Walking.{led_on, led_tidy}
use Rattle.tds_relay.proofs.promises.Caring.{Sound, found_held}
use Rattle.tds_relay.proofs.promises.Holding.{found_by_lease}
use Rattle.tds_relay.proofs.promises.Seats.{found_meets}
use Rattle.tds_relay.proofs.spared.Held.{sound_at}
use Rattle.tds_relay.proofs.promises.Tidy.{Tidy}
use Rattle.tds_relay.proofs.seats.Counting.{Keeps, cleaned_stays, cleaning_stays, given_stays, gone_both, lost_stays, same_stays, stays_both, step_same}
use Rattle.tds_relay.proofs.seats.Leased.{Lends, lease_drained, lease_lends, lent_on, on_number}
use Rattle.std.proofs.lemmas.Bool.{eqb-true}

-- a call by which none comes or goes
pub kept_stays : (number : ℕ) (s t : Service) (call : Call Token) → Keeps call → t ≡ (step s call).service → SeatStays true number s t
kept_stays number s t call keeps is = subst (SeatStays true number s) (sym is) (same_stays number s (step s call).service (λ n. step_same s n call keeps))

pub call_keeps : (s t : Service) (call : Call Token) → Keeps call → t ≡ (step s call).service → KeepsSeats s t
call_keeps s t call keeps is = λ n. ap (has_seat n) is ∙ step_same s n call keeps

-- one that is refused
pub same_keeps : (s t : Service) → t ≡ s → KeepsSeats s t
same_keeps s t is = λ n. ap (has_seat n) is

pub alike_stays : (number : ℕ) (s t : Service) → t ≡ s → SeatStays true number s t
alike_stays number s t is = same_stays number s t (same_keeps s t is)

-- it is forgotten
pub forgot_stays : (number : ℕ) (s t : Service) → IsLed s → t ≡ lost_by s number → SeatStays false number s t
forgot_stays number s t led is = subst (SeatStays false number s) (sym is) (lost_stays s (led_tidy s led).distinct number)

then_gone : (stays : Bool) (number : ℕ) (s t u : Service) → SeatStays stays number s t → SeatStays false number t u → SeatStays false number s u
then_gone true number s t u h k = stays_both false number s t u h k
then_gone false number s t u h k = gone_both false number s t u h k

pub then_forgot : (stays : Bool) (number : ℕ) (s t u : Service) → SeatStays stays number s t → IsLed t → u ≡ lost_by t number → SeatStays false number s u
then_forgot stays number s t u h led is = then_gone stays number s t u h (forgot_stays number t u led is)

-- it is given back
pub back_stays : (stays : Bool) (s t : Service) (lease number : ℕ) (rest : Rest) (m : ℕ) (before after : List ℕ) → IsLed s → HasNumber lease number s
    → StepsIn (step {T = Token} s (calls.GiveBack lease)) t (calls.Back (rest_of rest)) m before after → is_some (rest_of rest) ≡ stays → SeatStays stays number s t
back_stays stays s t lease number rest m before after led on one is =
    subst (λ (b : Bool). SeatStays b number s t) is
    (subst (SeatStays (is_some (rest_of rest)) number s) (sym one.service_is) (given_stays s (led_tidy s led).distinct number lease (rest_of rest) on one.reply_is))

pub back_led : (s t : Service) (lease : ℕ) (rest : Rest) (m : ℕ) (before after : List ℕ) → IsLed s → StepsIn (step {T = Token} s (calls.GiveBack lease)) t (calls.Back (rest_of rest)) m before after → IsLed t
back_led s t lease rest m before after led one = led_on s t (calls.GiveBack lease) one.service_is led

-- and cleaned
pub made_stays : (s t : Service) (number : ℕ) (is_there : Bool) (way : Way) (before after : List ℕ) → IsLed s → is_there ≡ is_sent way → Makes (cleaning s number way) s t before after → SeatStays is_there number s t
made_stays s t number is_there way before after led is made =
    subst (λ (b : Bool). SeatStays b number s t) (sym is)
    (subst (SeatStays (is_sent way) number s) (sym made.service_is) (cleaning_stays s number way (led_tidy s led)))

pub free_stays : (s t u : Service) (lease number : ℕ) (rest : Rest) (m : ℕ) (a b x y : List ℕ) (is_there : Bool) → IsLed s → HasNumber lease number s
    → StepsIn (step {T = Token} s (calls.GiveBack lease)) t (calls.Back (rest_of rest)) m a b → is_some (rest_of rest) ≡ true
    → (way : Way) × (is_there ≡ is_sent way) × Makes (cleaning t number way) t u x y → SeatStays is_there number s u
free_stays s t u lease number rest m a b x y is_there led on one is made =
    stays_both is_there number s t u (back_stays true s t lease number rest m a b led on one is)
    (made_stays t u number is_there made.0 x y (back_led s t lease rest m a b led one) made.1 made.2)

-- it was cleaned
pub rest_stays : (stays : Bool) (s t : Service) (lease number : ℕ) (rest : Rest) (m : ℕ) (before after : List ℕ) → IsLed s → HasNumber lease number s
    → StepsIn (step {T = Token} s (calls.Cleaned lease)) t (calls.Back (rest_of rest)) m before after → is_some (rest_of rest) ≡ stays → SeatStays stays number s t
rest_stays stays s t lease number rest m before after led on one is =
    subst (λ (b : Bool). SeatStays b number s t) is
    (subst (SeatStays (is_some (rest_of rest)) number s) (sym one.service_is) (cleaned_stays s (led_tidy s led).distinct number lease (rest_of rest) on one.reply_is))

-- it is lent, and then let go
pub lent_is : (has had : Bool) (number : ℕ) (s t u : Service) → Lends had number s t → SeatStays has number t u → SeatIs has number s u
lent_is true had number s t u h k = record { here = k.here ∙ h.here; others = λ other ne. k.others other ne ∙ h.others other ne }
lent_is false had number s t u h k = record { here = k.here; others = λ other ne. k.others other ne ∙ h.others other ne }

pub brought_is : (has had : Bool) (lease number m : ℕ) (s : Service) (new : services.Service) (u : Service) (before after : List ℕ) → IsLed s
    → StepsIn (step {T = Token} s calls.Lease) (service_in new) (calls.Lent lease number had) m before after
    → (IsLed (service_in new) → HasNumber lease number (service_in new) → SeatStays has number (service_in new) u) → SeatIs has number s u
brought_is has had lease number m s new u before after led one stays =
    let next : IsLed (service_in new) = led_on s (service_in new) calls.Lease one.service_is led in
    let lends : Lends had number s (service_in new) = subst (Lends had number s) (sym one.service_is) (lease_lends s (led_tidy s led) lease number had one.reply_is) in
    lent_is has had number s (service_in new) u lends
    (stays next (lent_on s new lease number had (led_tidy s led) (led_tidy (service_in new) next) one.service_is one.reply_is))

-- ---- A packet came

seat_lease : (o : Option Seat) (lease : ℕ) → lease_at o ≡ Some lease → (c : Seat) × (o ≡ Some c) × (lease_in c.place ≡ Some lease)
seat_lease None lease e = absurd (let u : ⊥ = cc in u)
seat_lease (Some c) lease e = (c, refl, e)

came_at : (s : Service) (number lease : ℕ) (part : Part Token) (c : Seat) → Tidy s → seat_numbered number s.seats ≡ Some c → lease_in c.place ≡ Some lease
    → (x : Seat) × (seat_numbered number (step s (calls.Came number part)).service.seats ≡ Some x) × (has_lease lease x ≡ true)
came_at s number lease part c tidy e is =
    let l = line_after c.line (line.Come part ∷ []) in
    let place = drained c.place l.stage in
    let x : Seat = record { number = c.number; place = place; line = l } in
    let its : c.number ≡ number = eqb-true c.number number (found_meets (has_number number) c s.seats e) in
    let here : seat_numbered c.number (change_by (has_number number) (Some place) l s.seats) ≡ Some x = change_here (has_number number) c place l s.seats tidy.distinct e in
    let at : seat_numbered number (change_by (has_number number) (Some place) l s.seats) ≡ Some x =
    subst (λ (k : ℕ). seat_numbered k (change_by (has_number number) (Some place) l s.seats) ≡ Some x) its here in
    let P : Option Seat → Type 0 = λ o. seat_numbered number (calls.hears s (has_number number) part o).service.seats ≡ Some x in
    (x, subst P (sym e) at, lease_drained c.place l.stage lease is)

-- by whose lease it is held, it is held still
pub came_on : (s : Service) (new : services.Service) (number : ℕ) (part : Part Token) (o : Option ℕ) → IsLed s → service_in new ≡ (step s (calls.Came number part)).service → lease_at (seat_numbered number s.seats) ≡ o
    → (lease : ℕ) → o ≡ Some lease → HasNumber lease number (service_in new)
came_on s new number part o led is holder lease e =
    let found = seat_lease (seat_numbered number s.seats) lease (holder ∙ e) in
    let at = came_at s number lease part found.0 (led_tidy s led) found.1 found.2 in
    on_number new lease number at.0 (led_tidy (service_in new) (led_on s (service_in new) (calls.Came number part) is led)) (subst (λ (t : Service). seat_numbered number t.seats ≡ Some at.0) (sym is) at.1) at.2

pub heard_stays : (stays : Bool) (number : ℕ) (s t u : Service) (part : Part Token) → t ≡ (step s (calls.Came number part)).service → SeatStays stays number t u → SeatStays stays number s u
heard_stays stays number s t u part is k = stays_both stays number s t u (kept_stays number s t (calls.Came number part) tt is) k

-- ---- At a pool

-- an application's hold names the connection that its lease has
pub held_on : (d : Pool) (key : ℕ) (h : Hold) → IsReached d → find_key key d.holds ≡ Some h → HasNumber h.lease h.number d.service
held_on d key h reached its = λ c found.
    let sound : Sound d = sound_at d reached in
    sym (found_held d h c sound (found_by_lease key 0 d.service.given h d.holds sound.rising its) found).1

-- by what is left of it
pub if_left : (is_there : Bool) (what : What) (number : ℕ) (s t : Service) → what ≡ (if is_there then whats.Goes else whats.Closed) → SeatStays is_there number s t → SeatStays (is_left what) number s t
if_left true what number s t is k = subst (λ (w : What). SeatStays (is_left w) number s t) (sym is) k
if_left false what number s t is k = subst (λ (w : What). SeatStays (is_left w) number s t) (sym is) k

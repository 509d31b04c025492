-- What is asked, put and ended on a connection leaves the request there, sent so far.
use Rattle.std.proofs.Common.{◌≡◌, ◌∙◌, ◌++◌, ℕ, zero, suc, Bool, true, false, List, [], ◌∷◌, Option, Some, None, refl, sym, ap, subst, option_map, if◌then◌else◌}
use Rattle.tds_client.specs.declared.fault.ClientRefusal.{ClientRefusal}
use Rattle.tds_client.specs.declared.heard.Heard.{Heard}
use Rattle.tds_wire.specs.declared.told.Token.{Token}
use Rattle.tds_service.specs.Line as line
use Rattle.tds_service.specs.Line.{Act, Line, line_turn}
use Rattle.tds_service.specs.History.{line_after}
use Rattle.tds_service.specs.Refusing.{packets, refusal_in}
use Rattle.tds_service.specs.Service as calls
use Rattle.tds_service.specs.Service.{Call, Did, Place, Reply, Seat, Service, acts, acts_unless, change_by, find_by, has_lease, step}
use Rattle.tds_relay.specs.declared.pool.Hold.{Hold}
use Rattle.tds_relay.specs.Asking.{IsSent, SendsOn, stage_by}
use Rattle.tds_relay.specs.Pool.{Pool, find_key}

-- ---- On one line

abbrev line_at : ℕ → line.LineStage → Heard → Line
line_at n s h = record { asked = n; stage = s; heard = h }

abbrev Ends : ℕ → List (Act Token)
Ends count = packets count ++ line.Send true ∷ []

puts_sent : (n : ℕ) (begun : Bool) (h : Heard) (count : ℕ) → IsSent false (Some (line_after (line_at n (line.Sending begun) h) (packets {T = Token} count)).stage)
puts_sent n begun h zero = refl
puts_sent n begun h (suc count) = puts_sent n true h count

ends_sent : (n : ℕ) (begun : Bool) (h : Heard) (count : ℕ) → IsSent true (Some (line_after (line_at n (line.Sending begun) h) (Ends count)).stage)
ends_sent n begun h zero = refl
ends_sent n begun h (suc count) = ends_sent n true h count

-- where the first act isn't refused
abbrev Goes : Line → Act Token → List (Act Token) → Bool → Type 0
Goes l first all whole = refusal_in (line_turn l first).answer ≡ None → IsSent whole (Some (line_after l all).stage)

asks_at : (n : ℕ) (s : line.LineStage) (h : Heard) → Goes (line_at n s h) line.Ask (line.Ask ∷ []) false
asks_at n line.Idle h e = refl
asks_at n (line.Sending begun) h e = absurd (let u : ⊥ = cc in u)
asks_at n line.Reading h e = absurd (let u : ⊥ = cc in u)
asks_at n line.Cancelling h e = absurd (let u : ⊥ = cc in u)
asks_at n (line.Broken fault) h e = absurd (let u : ⊥ = cc in u)

puts_at : (n : ℕ) (s : line.LineStage) (h : Heard) (count : ℕ) → Goes (line_at n s h) (line.Send false) (packets count) false
puts_at n line.Idle h count e = absurd (let u : ⊥ = cc in u)
puts_at n (line.Sending begun) h count e = puts_sent n begun h count
puts_at n line.Reading h count e = absurd (let u : ⊥ = cc in u)
puts_at n line.Cancelling h count e = absurd (let u : ⊥ = cc in u)
puts_at n (line.Broken fault) h count e = absurd (let u : ⊥ = cc in u)

ends_at : (n : ℕ) (s : line.LineStage) (h : Heard) (count : ℕ) → Goes (line_at n s h) (line.Send true) (Ends count) true
ends_at n line.Idle h count e = absurd (let u : ⊥ = cc in u)
ends_at n (line.Sending begun) h count e = ends_sent n begun h count
ends_at n line.Reading h count e = absurd (let u : ⊥ = cc in u)
ends_at n line.Cancelling h count e = absurd (let u : ⊥ = cc in u)
ends_at n (line.Broken fault) h count e = absurd (let u : ⊥ = cc in u)

-- ---- By a lease

abbrev with_line : Seat → Line → Seat
with_line c l = record { number = c.number; place = c.place; line = l }

found_by : (lease : ℕ) (c x : Seat) (l : Line) (xs : List Seat) (b : Bool) → has_lease lease x ≡ b → (if b then Some x else find_by (has_lease lease) xs) ≡ Some c
    → (find_by (has_lease lease) xs ≡ Some c → find_by (has_lease lease) (change_by (has_lease lease) (Some c.place) l xs) ≡ Some (with_line c l))
    → find_by (has_lease lease) (if b then (record { number = x.number; place = c.place; line = l }) ∷ xs else x ∷ change_by (has_lease lease) (Some c.place) l xs) ≡ Some (with_line c l)
found_by lease c x l xs true is e more =
    let same : x ≡ c = cc in
    let has : has_lease lease c ≡ true = subst (λ (y : Seat). has_lease lease y ≡ true) same is in
    ap (λ (b : Bool). let o : Option Seat = if b then Some (record { number = x.number; place = c.place; line = l }) else find_by (has_lease lease) xs in o) has ∙ ap (λ (y : Seat). Some (record { number = y.number; place = c.place; line = l })) same
found_by lease c x l xs false is e more =
    ap (λ (b : Bool). let o : Option Seat = if b then Some x else find_by (has_lease lease) (change_by (has_lease lease) (Some c.place) l xs) in o) is ∙ more e

-- the one of the lease stays the lease's
pub found_changed : (lease : ℕ) (c : Seat) (l : Line) (cs : List Seat) → find_by (has_lease lease) cs ≡ Some c → find_by (has_lease lease) (change_by (has_lease lease) (Some c.place) l cs) ≡ Some (with_line c l)
found_changed lease c l [] e = absurd (let u : ⊥ = cc in u)
found_changed lease c l (x ∷ xs) e = found_by lease c x l xs (has_lease lease x) refl e (found_changed lease c l xs)

unless_sent : (s : Service) (lease : ℕ) (c : Seat) (all : List (Act Token)) (whole : Bool) (why : Option ClientRefusal) → find_by (has_lease lease) s.seats ≡ Some c
    → (acts_unless s (has_lease lease) c all why).reply ≡ Did → (why ≡ None → IsSent whole (Some (line_after c.line all).stage)) → IsSent whole (stage_by (acts_unless s (has_lease lease) c all why).service lease)
unless_sent s lease c all whole (Some why) e did goes = absurd (let u : ⊥ = cc in u)
unless_sent s lease c all whole None e did goes =
    subst (λ (o : Option Seat). IsSent whole (option_map (λ (x : Seat). x.line.stage) o)) (sym (found_changed lease c (line_after c.line all) s.seats e)) (goes refl)

acts_sent : (s : Service) (lease : ℕ) (first : Act Token) (all : List (Act Token)) (whole : Bool) (o : Option Seat) → find_by (has_lease lease) s.seats ≡ o
    → (acts s (has_lease lease) first all o).reply ≡ Did → ((l : Line) → Goes l first all whole) → IsSent whole (stage_by (acts s (has_lease lease) first all o).service lease)
acts_sent s lease first all whole None e did goes = absurd (let u : ⊥ = cc in u)
acts_sent s lease first all whole (Some c) e did goes = unless_sent s lease c all whole (refusal_in (line_turn c.line first).answer) e did (goes c.line)

asks_sent : (s : Service) (lease : ℕ) → (step {T = Token} s (calls.Ask lease)).reply ≡ Did → IsSent false (stage_by (step {T = Token} s (calls.Ask lease)).service lease)
asks_sent s lease did = acts_sent s lease line.Ask (line.Ask ∷ []) false (find_by (has_lease lease) s.seats) refl did (λ l. asks_at l.asked l.stage l.heard)

put_sent : (s : Service) (lease count : ℕ) → (step {T = Token} s (calls.Put lease count)).reply ≡ Did → IsSent false (stage_by (step {T = Token} s (calls.Put lease count)).service lease)
put_sent s lease count did = acts_sent s lease (line.Send false) (packets count) false (find_by (has_lease lease) s.seats) refl did (λ l. puts_at l.asked l.stage l.heard count)

ended_sent : (s : Service) (lease count : ℕ) → (step {T = Token} s (calls.Finish lease count)).reply ≡ Did → IsSent true (stage_by (step {T = Token} s (calls.Finish lease count)).service lease)
ended_sent s lease count did = acts_sent s lease (line.Send true) (Ends count) true (find_by (has_lease lease) s.seats) refl did (λ l. ends_at l.asked l.stage l.heard count)

-- ---- At the pool

abbrev pub behind : Pool → Service → Pool
behind d s = record d { service = s }

sends_on : (d : Pool) (s : Service) (key : ℕ) (h : Hold) (whole : Bool) → find_key key d.holds ≡ Some h → IsSent whole (stage_by s h.lease) → SendsOn whole (behind d s) key
sends_on d s key h whole its sent = record { hold = h; its = its; sent = sent }

-- at a pool where the same is held, and the same is out
pub sends_alike : (whole : Bool) (d e : Pool) (key : ℕ) → e.holds ≡ d.holds → e.service ≡ d.service → SendsOn whole d key → SendsOn whole e key
sends_alike whole d e key holds service h = record {
  hold = h.hold;
  its = ap (find_key key) holds ∙ h.its;
  sent = subst (λ (s : Service). IsSent whole (stage_by s h.hold.lease)) (sym service) h.sent;
}

pub asks_on : (d : Pool) (s : Service) (key : ℕ) (h : Hold) → find_key key d.holds ≡ Some h → s ≡ (step {T = Token} d.service (calls.Ask h.lease)).service
    → (step {T = Token} d.service (calls.Ask h.lease)).reply ≡ Did → SendsOn false (behind d s) key
asks_on d s key h its is did = sends_on d s key h false its (subst (λ (x : Service). IsSent false (stage_by x h.lease)) (sym is) (asks_sent d.service h.lease did))

pub puts_on : (d : Pool) (s : Service) (key count : ℕ) (h : Hold) → find_key key d.holds ≡ Some h → s ≡ (step {T = Token} d.service (calls.Put h.lease count)).service
    → (step {T = Token} d.service (calls.Put h.lease count)).reply ≡ Did → SendsOn false (behind d s) key
puts_on d s key count h its is did = sends_on d s key h false its (subst (λ (x : Service). IsSent false (stage_by x h.lease)) (sym is) (put_sent d.service h.lease count did))

pub ends_on : (d : Pool) (s : Service) (key count : ℕ) (h : Hold) → find_key key d.holds ≡ Some h → s ≡ (step {T = Token} d.service (calls.Finish h.lease count)).service
    → (step {T = Token} d.service (calls.Finish h.lease count)).reply ≡ Did → SendsOn true (behind d s) key
ends_on d s key count h its is did = sends_on d s key h true its (subst (λ (x : Service). IsSent true (stage_by x h.lease)) (sym is) (ended_sent d.service h.lease count did))

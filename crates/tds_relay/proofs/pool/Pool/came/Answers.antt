use Rattle.std.proofs.Common.{◌≡◌, ◌∙◌, refl, sym, ap, subst, rules, false, inl, inr}
use Rattle.std.specs.Prelude.{Option, Some, None, ◌≢◌, ℕ}
use Rattle.tds_wire.specs.Reading.{Parser}
use Rattle.tds_service.specs.Line as line
use Rattle.tds_service.specs.Packets.{packet_part}
use Rattle.tds_service.specs.Table.{reading_on, service_in}
use Rattle.tds_relay.specs.declared.pool.coming.What.TheVariants as whats
use Rattle.tds_service.specs.declared.refusal.Refusal.TheVariants as refusals
use Rattle.tds_service.specs.declared.service.Service as services
use Rattle.tds_service.specs.Service.{Seat, lease_at}
use Rattle.tds_relay.specs.Pool.{Comes, NotLent, whose_by, find_key}
use Rattle.tds_relay.specs.Ties.{Turns, pool_in, part_on}
use Rattle.tds_relay.specs.Fronts.{IsWhat}
use Rattle.tds_relay.specs.Core.{dones_of_part}
use Rattle.tds_relay.proofs.steps.Fronts.{is_what, nobodys_what, what_answers}
use Rattle.tds_relay.proofs.steps.Made.{ok_both, came_settled, came_unknown, came_wrong, unread}
use Rattle.tds_relay.proofs.bytes.Heard.{came_read, lost_read, unknown_read}
use Rattle.tds_relay.specs.TokenParsers.{AllRead}
use Rattle.tds_relay.proofs.steps.Reaching.{ok_if}
use Rattle.tds_service.specs.Service as calls
use Rattle.tds_relay.proofs.bytes.Walking.{led_on}
use Rattle.tds_relay.specs.Few.{SeatStays, is_left}
use Rattle.tds_relay.proofs.seats.Counting.{unknown_stays}
use Rattle.tds_relay.proofs.seats.Pools.{lost_at}
use Rattle.tds_relay.proofs.seats.Rests.{came_on, heard_stays, kept_stays}
use Rattle.tds_relay.proofs.spared.Aside.{came_off, held_same, kept_off, led_at, lost_held}
use Rattle.tds_relay.proofs.spared.Cleaned.{nobodys}
use Rattle.tds_relay.specs.Holding.{Held as Holds}
use Rattle.tds_relay.specs.Cleaning.{PutsByLease, IsCleanedBy}
use Rattle.tds_relay.proofs.lending.Leases.{came_given, if_all}
use Rattle.tds_relay.proofs.lending.Awaiting.{came_here, came_was}
use Rattle.tds_relay.proofs.pool.Pool.came.Goals as goal

pub returns-in_ok-what-in-Finished-clause-ok : goal.returns-in_ok-what-in-Finished-clause-ok
returns-in_ok-what-in-Finished-clause-ok c =
    let d = pool_in c.args.self.now in
    let came = c.in-Ok.ensures.ok in
    let comes = came.2.1 in
    let settled = c.in_ok-what-in-Finished.ensures.settles in
    let answers = rw c.in-Finished.is at comes.answers in
    let P : Option Parser → Type 0 = λ o. Turns (Comes c.args.number (part_on o c.args.bytes.now c.args.ends) settled.0) d (pool_in c.settle.new.self) c.args.out.now.items c.settle.new.out.items in (
      settled.0,
      subst P (sym came.1)
          (came_settled d (pool_in c.settle.new.self) c.args.number (packet_part came.0 c.args.bytes.now c.args.ends) settled.0 (service_in c.heard.new.self) c.in-Ok.came.lease (line.Finished c.in-Ok.came.request)
          c.args.out.now.items c.settle.new.out.items comes.steps answers refl comes.holder settled.1),
    )

pub returns-in_ok-what-in-Acknowledged-clause-ok : goal.returns-in_ok-what-in-Acknowledged-clause-ok
returns-in_ok-what-in-Acknowledged-clause-ok c =
    let d = pool_in c.args.self.now in
    let came = c.in-Ok.ensures.ok in
    let comes = came.2.1 in
    let settled = c.in_ok-what-in-Acknowledged.ensures.settles in
    let answers = rw c.in-Acknowledged.is at comes.answers in
    let P : Option Parser → Type 0 = λ o. Turns (Comes c.args.number (part_on o c.args.bytes.now c.args.ends) settled.0) d (pool_in c.settle-in-Acknowledged.new.self) c.args.out.now.items c.settle-in-Acknowledged.new.out.items in (
      settled.0,
      subst P (sym came.1)
          (came_settled d (pool_in c.settle-in-Acknowledged.new.self) c.args.number (packet_part came.0 c.args.bytes.now c.args.ends) settled.0 (service_in c.heard.new.self) c.in-Ok.came.lease (line.Acked c.in-Ok.came.request)
          c.args.out.now.items c.settle-in-Acknowledged.new.out.items comes.steps answers refl comes.holder settled.1),
    )

pub returns-in-Err-clause-ok : goal.returns-in-Err-clause-ok
returns-in-Err-clause-ok c =
    let d = pool_in c.args.self.now in
    let part = part_on (reading_on c.args.number c.args.self.now.service) c.args.bytes.now c.args.ends in
    let same : c.heard.new.self ≡ c.args.self.now.service = search rules in
    let P : services.Service → Type 0 = λ s. Turns (Comes c.args.number part NotLent) d (record d { service = service_in s }) c.args.out.now.items c.args.out.now.items in
    ok_both c.unheard.result (c.in-Err.refusal ≢ refusals.Memory) (λ heard. heard.key ≡ None) _
    (λ never heard nobody. (
      NotLent,
      subst P (sym same)
          (came_unknown d c.args.number part NotLent c.args.out.now.items (unread c.args.self.now.service c.args.number c.args.bytes.now c.args.ends c.in-Err.refusal c.in-Err.ensures.refused never)),
    ))
    c.unheard.ensures.unknown c.unheard.ensures.nobody

pub returns-in-Err-clause-whose : goal.returns-in-Err-clause-whose
returns-in-Err-clause-whose c =
    let d = pool_in c.args.self.now in
    ok_both c.unheard.result (c.in-Err.refusal ≢ refusals.Memory) (λ heard. heard.key ≡ None) _
    (λ never heard nobody.
    let unknown = unread c.args.self.now.service c.args.number c.args.bytes.now c.args.ends c.in-Err.refusal c.in-Err.ensures.refused never in
    nobody ∙ sym (ap (λ (o : Option Seat). whose_by (lease_at o) d.holds) unknown))
    c.unheard.ensures.unknown c.unheard.ensures.nobody

pub returns-in_ok-what-in-Finished-clause-heard : goal.returns-in_ok-what-in-Finished-clause-heard
returns-in_ok-what-in-Finished-clause-heard c =
    let d = pool_in c.args.self.now in
    let came = c.in-Ok.ensures.ok in
    let answers = rw c.in-Finished.is at came.2.1.answers in
    let P : Option Parser → Type 0 = λ o. IsWhat c.key_by-key.result c.in_ok-what-in-Finished.what (dones_of_part d c.args.number (part_on o c.args.bytes.now c.args.ends)) in
    subst P (sym came.1)
    (is_what c.key_by-key.result whats.Finished c.in_ok-what-in-Finished.what (dones_of_part d c.args.number (packet_part came.0 c.args.bytes.now c.args.ends)) (λ key its. c.in_ok-what-in-Finished.ensures.what key (sym c.key_by-key.ensures ∙ its))
    (what_answers (line.Finished c.in-Ok.came.request) (dones_of_part d c.args.number (packet_part came.0 c.args.bytes.now c.args.ends)) answers))

pub returns-in_ok-what-in-Acknowledged-clause-heard : goal.returns-in_ok-what-in-Acknowledged-clause-heard
returns-in_ok-what-in-Acknowledged-clause-heard c =
    let d = pool_in c.args.self.now in
    let came = c.in-Ok.ensures.ok in
    let answers = rw c.in-Acknowledged.is at came.2.1.answers in
    let P : Option Parser → Type 0 = λ o. IsWhat c.key_by-key.result c.in_ok-what-in-Acknowledged.what (dones_of_part d c.args.number (part_on o c.args.bytes.now c.args.ends)) in
    subst P (sym came.1)
    (is_what c.key_by-key.result whats.Acknowledged c.in_ok-what-in-Acknowledged.what (dones_of_part d c.args.number (packet_part came.0 c.args.bytes.now c.args.ends)) (λ key its. c.in_ok-what-in-Acknowledged.ensures.what key (sym c.key_by-key.ensures ∙ its))
    (what_answers (line.Acked c.in-Ok.came.request) (dones_of_part d c.args.number (packet_part came.0 c.args.bytes.now c.args.ends)) answers))

pub returns-in_ok-lose-in-Fault-clause-heard : goal.returns-in_ok-lose-in-Fault-clause-heard
returns-in_ok-lose-in-Fault-clause-heard c =
    let d = pool_in c.args.self.now in
    let came = c.in-Ok.ensures.ok in
    let answers = rw c.in-Fault.is at came.2.1.answers in
    let P : Option Parser → Type 0 = λ o. IsWhat c.key_by-key.result whats.Closed (dones_of_part d c.args.number (part_on o c.args.bytes.now c.args.ends)) in
    subst P (sym came.1)
    (is_what c.key_by-key.result whats.Closed whats.Closed (dones_of_part d c.args.number (packet_part came.0 c.args.bytes.now c.args.ends)) (λ key its. refl)
    (what_answers (line.Fault _) (dones_of_part d c.args.number (packet_part came.0 c.args.bytes.now c.args.ends)) answers))

pub returns-in-Err-clause-heard : goal.returns-in-Err-clause-heard
returns-in-Err-clause-heard c =
    ok_both c.unheard.result (c.in-Err.refusal ≢ refusals.Memory) (λ heard. heard.key ≡ None) _
    (λ never heard nobody. nobodys_what heard.key heard.what _ nobody) c.unheard.ensures.unknown c.unheard.ensures.nobody

pub returns-in-Err-clause-read : goal.returns-in-Err-clause-read
returns-in-Err-clause-read c =
    let same : c.heard.new.self ≡ c.args.self.now.service = search rules in
    let never : c.in-Err.refusal ≢ refusals.Memory = λ m. let u : refusals.Unknown ≡ refusals.Memory = sym c.in-Err.ensures.unknown ∙ m in let v : ⊥ = cc in v in
    let none = unread c.args.self.now.service c.args.number c.args.bytes.now c.args.ends c.in-Err.refusal c.in-Err.ensures.refused never in
    ok_if c.unheard.result _
    (subst (λ (s : services.Service). AllRead c.args.number c.args.ends c.args.bytes.now c.args.self.now.service s) (sym same) (unknown_read c.args.self.now.service c.args.number c.args.ends c.args.bytes.now none))

pub returns-in-More-clause-read : goal.returns-in-More-clause-read
returns-in-More-clause-read c =
    let came = c.in-Ok.ensures.ok in
    came_read c.args.self.now.service c.heard.new.self _ (packet_part came.0 c.args.bytes.now c.args.ends) c.args.number c.args.ends c.args.bytes.now came.0 came.1 came.2.1.steps.service_is (λ r e. rw c.in-More.is at (c.in-Ok.ensures.reads r e)) c.in-Ok.ensures.makes c.in-Ok.ensures.sizes c.in-Ok.ensures.others (λ n r h. h)

pub returns-in_ok-what-in-Finished-clause-read : goal.returns-in_ok-what-in-Finished-clause-read
returns-in_ok-what-in-Finished-clause-read c =
    let came = c.in-Ok.ensures.ok in
    came_read c.args.self.now.service c.heard.new.self _ (packet_part came.0 c.args.bytes.now c.args.ends) c.args.number c.args.ends c.args.bytes.now came.0 came.1 came.2.1.steps.service_is (λ r e. rw c.in-Finished.is at (c.in-Ok.ensures.reads r e)) c.in-Ok.ensures.makes c.in-Ok.ensures.sizes c.in-Ok.ensures.others c.in_ok-what-in-Finished.ensures.stand

pub returns-in_ok-what-in-Acknowledged-clause-read : goal.returns-in_ok-what-in-Acknowledged-clause-read
returns-in_ok-what-in-Acknowledged-clause-read c =
    let came = c.in-Ok.ensures.ok in
    came_read c.args.self.now.service c.heard.new.self _ (packet_part came.0 c.args.bytes.now c.args.ends) c.args.number c.args.ends c.args.bytes.now came.0 came.1 came.2.1.steps.service_is (λ r e. rw c.in-Acknowledged.is at (c.in-Ok.ensures.reads r e)) c.in-Ok.ensures.makes c.in-Ok.ensures.sizes c.in-Ok.ensures.others c.in_ok-what-in-Acknowledged.ensures.stand

pub returns-in_ok-lose-in-Fault-clause-read : goal.returns-in_ok-lose-in-Fault-clause-read
returns-in_ok-lose-in-Fault-clause-read c =
    let came = c.in-Ok.ensures.ok in
    let next = c.in-Ok.ensures.reads came.0 came.1 in
    lost_read c.args.self.now.service c.heard.new.self _ (packet_part came.0 c.args.bytes.now c.args.ends) c.args.number c.args.ends c.args.bytes.now came.0 next.0 came.1 next.1 came.2.1.steps.service_is c.in-Ok.ensures.makes c.in-Ok.ensures.sizes c.in-Ok.ensures.others c.in_ok-lose-in-Fault.ensures.stand c.in_ok-lose-in-Fault.ensures.gone

pub returns-in_ok-lose-in-Fault-clause-ok : goal.returns-in_ok-lose-in-Fault-clause-ok
returns-in_ok-lose-in-Fault-clause-ok c =
    let d = pool_in c.args.self.now in
    let came = c.in-Ok.ensures.ok in
    let answers = rw c.in-Fault.is at came.2.1.answers in
    let P : Option Parser → Type 0 = λ o. Turns (Comes c.args.number (part_on o c.args.bytes.now c.args.ends) NotLent) d (record (pool_in c.lose.new.self) { broken = Some (record { number = c.args.number; fault = c.in-Fault.fault }) }) c.args.out.now.items c.args.out.now.items in (
      NotLent,
      subst P (sym came.1)
          (came_wrong d (pool_in c.lose.new.self) c.args.number (packet_part came.0 c.args.bytes.now c.args.ends) NotLent (service_in c.heard.new.self) c.in-Fault.fault c.args.out.now.items came.2.1.steps answers
          c.in_ok-lose-in-Fault.ensures.turns),
    )

pub returns-in_ok-what-in-Finished-clause-seats : goal.returns-in_ok-what-in-Finished-clause-seats
returns-in_ok-what-in-Finished-clause-seats c = λ reached.
    let came = c.in-Ok.ensures.ok in
    let s = service_in c.args.self.now.service in
    let led = led_at (pool_in c.args.self.now) reached in
    heard_stays _ c.args.number s (service_in c.heard.new.self) (service_in c.settle.new.self.service) (packet_part came.0 c.args.bytes.now c.args.ends) came.2.1.steps.service_is
    (c.in_ok-what-in-Finished.ensures.seats (led_on s (service_in c.heard.new.self) (calls.Came c.args.number (packet_part came.0 c.args.bytes.now c.args.ends)) came.2.1.steps.service_is led)
    (came_on s c.heard.new.self c.args.number (packet_part came.0 c.args.bytes.now c.args.ends) c.in-Ok.came.lease led came.2.1.steps.service_is came.2.1.holder) refl)

pub returns-in_ok-what-in-Acknowledged-clause-seats : goal.returns-in_ok-what-in-Acknowledged-clause-seats
returns-in_ok-what-in-Acknowledged-clause-seats c = λ reached.
    let came = c.in-Ok.ensures.ok in
    let s = service_in c.args.self.now.service in
    let led = led_at (pool_in c.args.self.now) reached in
    heard_stays _ c.args.number s (service_in c.heard.new.self) (service_in c.settle-in-Acknowledged.new.self.service) (packet_part came.0 c.args.bytes.now c.args.ends) came.2.1.steps.service_is
    (c.in_ok-what-in-Acknowledged.ensures.seats (led_on s (service_in c.heard.new.self) (calls.Came c.args.number (packet_part came.0 c.args.bytes.now c.args.ends)) came.2.1.steps.service_is led)
    (came_on s c.heard.new.self c.args.number (packet_part came.0 c.args.bytes.now c.args.ends) c.in-Ok.came.lease led came.2.1.steps.service_is came.2.1.holder) refl)

pub returns-in-More-clause-seats : goal.returns-in-More-clause-seats
returns-in-More-clause-seats c = λ reached.
    let came = c.in-Ok.ensures.ok in
    kept_stays c.args.number (service_in c.args.self.now.service) (service_in c.heard.new.self) (calls.Came c.args.number (packet_part came.0 c.args.bytes.now c.args.ends)) tt came.2.1.steps.service_is

pub returns-in_ok-lose-in-Fault-clause-seats : goal.returns-in_ok-lose-in-Fault-clause-seats
returns-in_ok-lose-in-Fault-clause-seats c = λ reached.
    let came = c.in-Ok.ensures.ok in
    let s = service_in c.args.self.now.service in
    let t = service_in c.heard.new.self in
    heard_stays false c.args.number s t (service_in c.lose.new.self.service) (packet_part came.0 c.args.bytes.now c.args.ends) came.2.1.steps.service_is
    (lost_at c.args.number _ (pool_in c.lose.new.self) _ _ (led_on s t (calls.Came c.args.number (packet_part came.0 c.args.bytes.now c.args.ends)) came.2.1.steps.service_is (led_at (pool_in c.args.self.now) reached)) c.in_ok-lose-in-Fault.ensures.turns)

pub returns-in-Err-clause-seats : goal.returns-in-Err-clause-seats
returns-in-Err-clause-seats c = λ reached.
    let same : c.heard.new.self ≡ c.args.self.now.service = search rules in
    ok_both c.unheard.result (c.in-Err.refusal ≢ refusals.Memory) (λ heard. heard.key ≡ None) _
    (λ never heard nobody.
    subst (λ (x : services.Service). SeatStays (is_left heard.what) c.args.number (service_in c.args.self.now.service) (service_in x)) (sym same)
    (unknown_stays (is_left heard.what) c.args.number (service_in c.args.self.now.service) (unread c.args.self.now.service c.args.number c.args.bytes.now c.args.ends c.in-Err.refusal c.in-Err.ensures.refused never)))
    c.unheard.ensures.unknown c.unheard.ensures.nobody

pub returns-in_ok-what-in-Finished-clause-cleans : goal.returns-in_ok-what-in-Finished-clause-cleans
returns-in_ok-what-in-Finished-clause-cleans c = λ reached lasts.
    let came = c.in-Ok.ensures.ok in
    nobodys c.in-Ok.came.lease c.key_by-key.result (pool_in c.args.self.now).holds c.args.out.now.items _ c.key_by-key.ensures
    (c.in_ok-what-in-Finished.ensures.cleans (led_on (service_in c.args.self.now.service) (service_in c.heard.new.self) (calls.Came c.args.number (packet_part came.0 c.args.bytes.now c.args.ends)) came.2.1.steps.service_is (led_at (pool_in c.args.self.now) reached)) lasts)

pub returns-in_ok-what-in-Acknowledged-clause-cleans : goal.returns-in_ok-what-in-Acknowledged-clause-cleans
returns-in_ok-what-in-Acknowledged-clause-cleans c = λ reached lasts.
    let came = c.in-Ok.ensures.ok in
    nobodys c.in-Ok.came.lease c.key_by-key.result (pool_in c.args.self.now).holds c.args.out.now.items _ c.key_by-key.ensures
    (c.in_ok-what-in-Acknowledged.ensures.cleans (led_on (service_in c.args.self.now.service) (service_in c.heard.new.self) (calls.Came c.args.number (packet_part came.0 c.args.bytes.now c.args.ends)) came.2.1.steps.service_is (led_at (pool_in c.args.self.now) reached)) lasts)

pub returns-in-More-clause-off : goal.returns-in-More-clause-off
returns-in-More-clause-off c =
    let came = c.in-Ok.ensures.ok in
    came_off c.args.number c.args.self.now _ c.heard.new.self (packet_part came.0 c.args.bytes.now c.args.ends) came.2.1.steps.service_is c.in-Ok.ensures.clients (held_same c.args.number c.args.self.now.holds.items c.heard.new.self)
    (λ key h its differs. its)

pub returns-in_ok-what-in-Finished-clause-off : goal.returns-in_ok-what-in-Finished-clause-off
returns-in_ok-what-in-Finished-clause-off c =
    let came = c.in-Ok.ensures.ok in
    came_off c.args.number c.args.self.now c.settle.new.self c.heard.new.self (packet_part came.0 c.args.bytes.now c.args.ends) came.2.1.steps.service_is c.in-Ok.ensures.clients c.in_ok-what-in-Finished.ensures.aside
    (λ key h its differs. ap (λ (hs : Holds). find_key key hs.items) c.settle.ensures.holds ∙ its)

pub returns-in_ok-what-in-Acknowledged-clause-off : goal.returns-in_ok-what-in-Acknowledged-clause-off
returns-in_ok-what-in-Acknowledged-clause-off c =
    let came = c.in-Ok.ensures.ok in
    came_off c.args.number c.args.self.now c.settle-in-Acknowledged.new.self c.heard.new.self (packet_part came.0 c.args.bytes.now c.args.ends) came.2.1.steps.service_is c.in-Ok.ensures.clients c.in_ok-what-in-Acknowledged.ensures.aside
    (λ key h its differs. ap (λ (hs : Holds). find_key key hs.items) c.settle-in-Acknowledged.ensures.holds ∙ its)

pub returns-in_ok-lose-in-Fault-clause-off : goal.returns-in_ok-lose-in-Fault-clause-off
returns-in_ok-lose-in-Fault-clause-off c =
    let came = c.in-Ok.ensures.ok in
    came_off c.args.number c.args.self.now _ c.heard.new.self (packet_part came.0 c.args.bytes.now c.args.ends) came.2.1.steps.service_is c.in-Ok.ensures.clients
    (lost_held c.args.number c.args.self.now.holds.items c.heard.new.self c.lose.new.self.service c.in_ok-lose-in-Fault.ensures.clients)
    (λ key h its differs. ap (find_key key) c.in_ok-lose-in-Fault.ensures.holds ∙ kept_off c.args.number key h c.args.self.now.holds.items its differs)

pub returns-in-Err-clause-holds : goal.returns-in-Err-clause-holds
returns-in-Err-clause-holds c = ok_if c.unheard.result _ (inl refl)

pub returns-in-More-clause-holds : goal.returns-in-More-clause-holds
returns-in-More-clause-holds c = inl refl

pub returns-in_ok-what-in-Finished-clause-holds : goal.returns-in_ok-what-in-Finished-clause-holds
returns-in_ok-what-in-Finished-clause-holds c = inl (ap (λ (hs : Holds). hs.items) c.settle.ensures.holds)

pub returns-in_ok-what-in-Acknowledged-clause-holds : goal.returns-in_ok-what-in-Acknowledged-clause-holds
returns-in_ok-what-in-Acknowledged-clause-holds c = inl (ap (λ (hs : Holds). hs.items) c.settle-in-Acknowledged.ensures.holds)

pub returns-in_ok-lose-in-Fault-clause-holds : goal.returns-in_ok-lose-in-Fault-clause-holds
returns-in_ok-lose-in-Fault-clause-holds c = inr c.in_ok-lose-in-Fault.ensures.holds

pub returns-in-Err-clause-leases : goal.returns-in-Err-clause-leases
returns-in-Err-clause-leases c = if_all c.unheard.result (λ heard left. inl refl)

pub returns-in-More-clause-leases : goal.returns-in-More-clause-leases
returns-in-More-clause-leases c = λ left. inl refl

pub returns-in_ok-what-in-Finished-clause-leases : goal.returns-in_ok-what-in-Finished-clause-leases
returns-in_ok-what-in-Finished-clause-leases c =
    let came = c.in-Ok.ensures.ok in
    subst (λ (n : ℕ). c.in_ok-what-in-Finished.what ≢ whats.Closed → PutsByLease c.args.out.now.items c.settle.new.out.items n c.settle.new.self.service.given)
    (came_given (service_in c.args.self.now.service) (service_in c.heard.new.self) c.args.number (packet_part came.0 c.args.bytes.now c.args.ends) came.2.1.steps.service_is) c.in_ok-what-in-Finished.ensures.leases

pub returns-in_ok-what-in-Acknowledged-clause-leases : goal.returns-in_ok-what-in-Acknowledged-clause-leases
returns-in_ok-what-in-Acknowledged-clause-leases c =
    let came = c.in-Ok.ensures.ok in
    subst (λ (n : ℕ). c.in_ok-what-in-Acknowledged.what ≢ whats.Closed → PutsByLease c.args.out.now.items c.settle-in-Acknowledged.new.out.items n c.settle-in-Acknowledged.new.self.service.given)
    (came_given (service_in c.args.self.now.service) (service_in c.heard.new.self) c.args.number (packet_part came.0 c.args.bytes.now c.args.ends) came.2.1.steps.service_is) c.in_ok-what-in-Acknowledged.ensures.leases

pub returns-in_ok-lose-in-Fault-clause-leases : goal.returns-in_ok-lose-in-Fault-clause-leases
returns-in_ok-lose-in-Fault-clause-leases c = λ left. absurd (left refl)

pub returns-in-Err-clause-newly : goal.returns-in-Err-clause-newly
returns-in-Err-clause-newly c = λ reached.
    let same : c.heard.new.self ≡ c.args.self.now.service = search rules in
    if_all c.unheard.result (λ heard left. record { here = λ l at. inl (subst (λ (x : services.Service). IsCleanedBy c.args.number l (service_in x)) same at, refl) })

pub returns-in-More-clause-newly : goal.returns-in-More-clause-newly
returns-in-More-clause-newly c = λ reached left.
    let came = c.in-Ok.ensures.ok in
    record {
      here = λ l at. inl (
        came_was c.args.number l (service_in c.args.self.now.service) (service_in c.heard.new.self) c.args.number (packet_part came.0 c.args.bytes.now c.args.ends) (led_at (pool_in c.args.self.now) reached) came.2.1.steps.service_is at,
        refl,
      );
    }

pub returns-in_ok-what-in-Finished-clause-newly : goal.returns-in_ok-what-in-Finished-clause-newly
returns-in_ok-what-in-Finished-clause-newly c = λ reached left.
    let came = c.in-Ok.ensures.ok in
    let s = service_in c.args.self.now.service in
    let t = service_in c.heard.new.self in
    let part = packet_part came.0 c.args.bytes.now c.args.ends in
    let led = led_at (pool_in c.args.self.now) reached in
    came_here c.in-Ok.came.lease c.key_by-key.result (pool_in c.args.self.now).holds c.args.number c.args.out.now.items c.settle.new.out.items s t (service_in c.settle.new.self.service) c.args.number part led came.2.1.steps.service_is c.key_by-key.ensures
    (c.in_ok-what-in-Finished.ensures.newly (led_on s t (calls.Came c.args.number part) came.2.1.steps.service_is led) left)

pub returns-in_ok-what-in-Acknowledged-clause-newly : goal.returns-in_ok-what-in-Acknowledged-clause-newly
returns-in_ok-what-in-Acknowledged-clause-newly c = λ reached left.
    let came = c.in-Ok.ensures.ok in
    let s = service_in c.args.self.now.service in
    let t = service_in c.heard.new.self in
    let part = packet_part came.0 c.args.bytes.now c.args.ends in
    let led = led_at (pool_in c.args.self.now) reached in
    came_here c.in-Ok.came.lease c.key_by-key.result (pool_in c.args.self.now).holds c.args.number c.args.out.now.items c.settle-in-Acknowledged.new.out.items s t (service_in c.settle-in-Acknowledged.new.self.service) c.args.number part led came.2.1.steps.service_is c.key_by-key.ensures
    (c.in_ok-what-in-Acknowledged.ensures.newly (led_on s t (calls.Came c.args.number part) came.2.1.steps.service_is led) left)

pub returns-in_ok-lose-in-Fault-clause-newly : goal.returns-in_ok-lose-in-Fault-clause-newly
returns-in_ok-lose-in-Fault-clause-newly c = λ reached left. absurd (left refl)

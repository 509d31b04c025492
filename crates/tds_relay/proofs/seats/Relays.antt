-- The connections of a relay and of its service, call behind call.
use Rattle.std.proofs.lemmas.Bool.{cases_eq}
use Rattle.std.proofs.Common.{◌≡◌, ◌≢◌, ◌∙◌, ◌≤◌, arith, length, inl, inr, ℕ, Bool, true, false, List, [], Option, Some, None, refl, sym, ap, subst}
use Rattle.std.specs.Prelude.{Result, Ok, Err, OnOk, IfOk}
use Rattle.tds_service.specs.declared.service.Service as services
use Rattle.tds_service.specs.Service.{Service}
use Rattle.tds_service.specs.Table.{service_in}
use Rattle.tds_relay.specs.declared.pool.Pool as pools
use Rattle.tds_relay.specs.declared.pool.Served.{Served}
use Rattle.tds_relay.specs.declared.pool.coming.Heard.{Heard}
use Rattle.tds_relay.specs.declared.pool.leaving.Left.{Left}
use Rattle.tds_relay.specs.declared.pool.leaving.Renewed.{Renewed}
use Rattle.tds_relay.specs.declared.link.Link.{Link}
use Rattle.tds_relay.specs.declared.relay.Relay as code
use Rattle.tds_relay.specs.Pool as pool
use Rattle.tds_relay.specs.Pool.{Pool, Sharing, Way, new_pool}
use Rattle.tds_relay.specs.Lent.{AllLast}
use Rattle.tds_relay.specs.Reads.{LinksStay, reader_at, waits_on}
use Rattle.tds_relay.specs.Few.{AreSeated, AreSeatedBut, AreSeatedOff, BringsSeat, TakenOut, HearsSeat, IsSeated, IsSeatedBehind, IsSeatedBut, IsSeatedIf, IsSeatedOff, KeepsSeats, LeavesSeat, RenewsSeat, SeatIs, SeatStays, has_seat, is_left}
use Rattle.tds_relay.specs.Told.{is_there}
use Rattle.tds_relay.specs.Ties.{IsReached, Serving, Turns, pool_in}
use Rattle.tds_relay.proofs.seats.Pools.{seated_is, seated_on, seated_out, seated_stays, served_again, served_new, turned}
use Rattle.tds_relay.proofs.seats.Linked.{SameThere, but_as, but_gone, gone_there, lasting_there, off_as, seated_as, seated_gone}

-- ---- A new one

pub new_seated : (sharing : Sharing) (d : Pool) (ls : List Link) → d ≡ new_pool sharing → ls ≡ [] → AreSeated d ls
new_seated sharing d ls is none =
    let empty : AreSeated (new_pool sharing) [] = record { reached = (sharing, [], refl); each = λ number. refl; few = (let t : 0 ≤ 0 = omega arith in t) } in
    subst (λ (x : Pool). AreSeated x ls) (sym is) (subst (AreSeated (new_pool sharing)) (sym none) empty)

-- ---- Where the pool is as it was

pub at_pool : (d e : pools.Pool) (ls : List Link) → e ≡ d → AreSeated (pool_in d) ls → AreSeated (pool_in e) ls
at_pool d e ls same s = subst (λ (x : pools.Pool). AreSeated (pool_in x) ls) (sym same) s

pub but_pool : (number : ℕ) (has : Bool) (d e : pools.Pool) (ls : List Link) → e ≡ d → AreSeatedBut number has (pool_in d) ls → AreSeatedBut number has (pool_in e) ls
but_pool number has d e ls same s = subst (λ (x : pools.Pool). AreSeatedBut number has (pool_in x) ls) (sym same) s

pub kept_there : (a b : code.Relay) → b.pool ≡ a.pool → SameThere a.links.items b.links.items → IsSeated a → IsSeated b
kept_there a b same there s = at_pool a.pool b.pool b.links.items same (seated_as (pool_in a.pool) a.links.items b.links.items there s)

pub kept_seated : (a b : code.Relay) → b.pool ≡ a.pool → b.links.items ≡ a.links.items → IsSeated a → IsSeated b
kept_seated a b same links s = at_pool a.pool b.pool b.links.items same (subst (AreSeated (pool_in a.pool)) (sym links) s)

pub kept_end : {A E : Type 0} (r : Result A E) (a b : code.Relay) → b.pool ≡ a.pool → OnOk r (b.links.items ≡ a.links.items) → IsSeated a → OnOk r (IsSeated b)
kept_end (Ok x) a b same links s = kept_seated a b same links s
kept_end (Err e) a b same links s = tt

pub pool_seated : (d e : Pool) (ls : List Link) → e ≡ d → AreSeated d ls → AreSeated e ls
pool_seated d e ls same s = subst (λ (x : Pool). AreSeated x ls) (sym same) s

pub pool_kept : (d : pools.Pool) (ls : List Link) (r : code.Relay) → r.pool ≡ d → r.links.items ≡ ls → AreSeated (pool_in d) ls → IsSeated r
pool_kept d ls r same links s = at_pool d r.pool r.links.items same (subst (AreSeated (pool_in d)) (sym links) s)

pub pool_lasting : (d : pools.Pool) (ls : List Link) (r : code.Relay) → r.pool ≡ d → AllLast ls r.links.items → LinksStay ls r.links.items → AreSeated (pool_in d) ls → IsSeated r
pool_lasting d ls r same last stays s = at_pool d r.pool r.links.items same (seated_as (pool_in d) ls r.links.items (lasting_there ls r.links.items last stays) s)

pub pool_but : (number : ℕ) (d : pools.Pool) (ls : List Link) (r : code.Relay) → r.pool ≡ d → r.links.items ≡ ls → AreSeatedBut number false (pool_in d) ls → IsSeatedBut number false r
pool_but number d ls r same links s = but_pool number false d r.pool r.links.items same (subst (AreSeatedBut number false (pool_in d)) (sym links) s)

-- whoever waits, or waits no more
pub serviced_seated : (event : pool.Event) (d e : pools.Pool) (ls : List Link) (before after : List ℕ) → Turns event (pool_in d) (pool_in e) before after → e.service ≡ d.service → AreSeated (pool_in d) ls → AreSeated (pool_in e) ls
serviced_seated event d e ls before after turns same s =
    seated_on (pool_in d) (pool_in e) ls (turned event (pool_in d) (pool_in e) before after turns) (λ n. ap (λ (x : services.Service). has_seat n (service_in x)) same) s

pub unwaited : (key : ℕ) (d : pools.Pool) (r : code.Relay) (ls : List Link) → Turns (pool.Unwaits key) (pool_in d) (pool_in r.pool) [] [] → r.pool.service ≡ d.service → r.links.items ≡ ls → AreSeated (pool_in d) ls → IsSeated r
unwaited key d r ls turns same links s = subst (AreSeated (pool_in r.pool)) (sym links) (serviced_seated (pool.Unwaits key) d r.pool ls [] [] turns same s)

-- and each connection lasts
pub lasting_seated : (a b : code.Relay) → b.pool ≡ a.pool → AllLast a.links.items b.links.items → LinksStay a.links.items b.links.items → IsSeated a → IsSeated b
lasting_seated a b same last stays s = kept_there a b same (lasting_there a.links.items b.links.items last stays) s

-- ---- One is closed that the pool has no more

pub closed_seated : (number : ℕ) (d : pools.Pool) (ls : List Link) (new : code.Relay) → new.pool ≡ d → TakenOut number ls new.links.items → reader_at number new.links.items ≡ None
    → ((other : ℕ) → other ≢ number → waits_on other new.links.items ≡ waits_on other ls) → AreSeatedBut number false (pool_in d) ls → IsSeated new
closed_seated number d ls new same out gone others s = seated_gone number (pool_in new.pool) ls new.links.items out gone others (but_pool number false d new.pool ls same s)

pub closed_end : {A E : Type 0} (r : Result A E) (number : ℕ) (d : pools.Pool) (ls : List Link) (new : code.Relay) → new.pool ≡ d → OnOk r (TakenOut number ls new.links.items) → OnOk r (reader_at number new.links.items ≡ None)
    → OnOk r ((other : ℕ) → other ≢ number → waits_on other new.links.items ≡ waits_on other ls) → AreSeatedBut number false (pool_in d) ls → OnOk r (IsSeated new)
closed_end (Ok x) number d ls new same out gone others s = closed_seated number d ls new same out gone others s
closed_end (Err e) number d ls new same out gone others s = tt

-- ---- One is let go

module _ (key : ℕ) (gives : Bool) (way : Way) (a b : code.Relay) (d : pools.Pool) (o : Option Left) (before after : List ℕ)
    (turns : Turns (pool.Leaves key gives way) (pool_in a.pool) (pool_in d) before after) (seats : IsReached (pool_in a.pool) → LeavesSeat o (pool_in a.pool).service (pool_in d).service)
    (same : b.pool ≡ d) (links : b.links.items ≡ a.links.items) (s : IsSeated a) where
  led : IsReached (pool_in a.pool) → IsReached (pool_in d)
  led r = turned (pool.Leaves key gives way) (pool_in a.pool) (pool_in d) before after turns r

  here : AreSeated (pool_in d) a.links.items → IsSeated b
  here k = at_pool d b.pool b.links.items same (subst (AreSeated (pool_in d)) (sym links) k)

  pub left_none : o ≡ None → IsSeated b
  left_none none =
      here (seated_on (pool_in a.pool) (pool_in d) a.links.items led (subst (λ (p : Option Left). LeavesSeat p (pool_in a.pool).service (pool_in d).service) none (seats s.reached)) s)

  stays : (left : Left) (is : Bool) → o ≡ Some left → left.is_there ≡ is → SeatStays is left.number (pool_in a.pool).service (pool_in d).service
  stays left is some there =
      subst (λ (x : Bool). SeatStays x left.number (pool_in a.pool).service (pool_in d).service) there
      (subst (λ (p : Option Left). LeavesSeat p (pool_in a.pool).service (pool_in d).service) some (seats s.reached))

  pub left_there : (left : Left) → o ≡ Some left → left.is_there ≡ true → IsSeated b
  left_there left some there = here (seated_stays left.number (pool_in a.pool) (pool_in d) a.links.items led (stays left true some there) s)

  pub left_gone : (left : Left) → o ≡ Some left → left.is_there ≡ false → IsSeatedBut left.number false b
  left_gone left some there =
      but_pool left.number false d b.pool b.links.items same
      (subst (AreSeatedBut left.number false (pool_in d)) (sym links) (seated_out left.number (pool_in a.pool) (pool_in d) a.links.items led (stays left false some there) s))

-- ---- One is brought

module _ (gives : Bool) (way : Way) (d e : pools.Pool) (before after : List ℕ) (ls : List Link) (o : Option Left) (turns : Turns (pool.Brings gives way) (pool_in d) (pool_in e) before after)
    (seats : IsReached (pool_in d) → BringsSeat o (pool_in d).service (pool_in e).service) (s : AreSeated (pool_in d) ls) where
  brings_led : IsReached (pool_in d) → IsReached (pool_in e)
  brings_led r = turned (pool.Brings gives way) (pool_in d) (pool_in e) before after turns r

  pub brought_none : o ≡ None → AreSeated (pool_in e) ls
  brought_none none = seated_on (pool_in d) (pool_in e) ls brings_led (subst (λ (p : Option Left). BringsSeat p (pool_in d).service (pool_in e).service) none (seats s.reached)) s

  pub brought_one : (left : Left) (has : Bool) → ls ≡ [] → o ≡ Some left → left.is_there ≡ has → AreSeatedBut left.number has (pool_in e) ls
  brought_one left has none some is =
      seated_is has left.number (pool_in d) (pool_in e) ls brings_led
      (subst (λ (b : Bool). SeatIs b left.number (pool_in d).service (pool_in e).service) is (subst (λ (p : Option Left). BringsSeat p (pool_in d).service (pool_in e).service) some (seats s.reached)))
      (ap (is_there left.number) none) s

-- and given up, where there are none
pub none_brought : (number : ℕ) (d : Pool) (ls : List Link) → ls ≡ [] → AreSeatedBut number false d ls → AreSeated d ls
none_brought number d ls none s = record {
  reached = s.off.reached;
  each = λ n. elim (cases_eq n number) [
    | inl same ↦ subst (λ (k : ℕ). has_seat k d.service ≡ is_there k ls) (sym same) (s.here ∙ sym (ap (is_there number) none))
    | inr ne ↦ s.off.others n ne
  ];
  few =
      let c : ℕ = length d.service.seats in
      let empty : length ls ≡ 0 = ap (length {A = Link}) none in
      let t : length ls ≤ c = omega (arith, empty) in t;
}

-- ---- One is lent

pub lent_if : (d e : pools.Pool) (served : Served) (had : Bool) (before after : List ℕ) (r : code.Relay) → served.had ≡ had → r.pool ≡ e → Turns pool.Serves (pool_in d) (pool_in e) before after → Serving (pool_in d) (Some served)
    → AreSeated (pool_in d) r.links.items → IsSeatedIf had served.hold.number true r
lent_if d e served true before after r had same t serving s = at_pool e r.pool r.links.items same (served_again (pool_in d) (pool_in e) served before after r.links.items t serving s had)
lent_if d e served false before after r had same t serving s =
    but_pool served.hold.number true e r.pool r.links.items same (served_new (pool_in d) (pool_in e) served before after r.links.items t serving s had)

pub if_had : (b had : Bool) (number : ℕ) (r : code.Relay) → had ≡ b → IsSeatedIf had number true r → IsSeatedIf b number true r
if_had b had number r is s = subst (λ (x : Bool). IsSeatedIf x number true r) is s

-- ---- A packet was heard

heard_by : (left : Bool) (number : ℕ) (d : Pool) (new : code.Relay) (ls : List Link) → (IsReached d → IsReached (pool_in new.pool)) → SeatStays left number d.service (pool_in new.pool).service
    → SameThere ls new.links.items → AreSeated d ls → IsSeatedIf left number false new
heard_by true number d new ls led stays same s = seated_as (pool_in new.pool) ls new.links.items same (seated_stays number d (pool_in new.pool) ls led stays s)
heard_by false number d new ls led stays same s = but_as number false (pool_in new.pool) ls new.links.items same (seated_out number d (pool_in new.pool) ls led stays s)

pub heard_on : (heard : Option Heard) (number : ℕ) (d : Pool) (new : code.Relay) (ls : List Link) → (IsReached d → IsReached (pool_in new.pool)) → (IsReached d → HearsSeat heard number d.service (pool_in new.pool).service)
    → SameThere ls new.links.items → AreSeated d ls → IsSeatedBehind heard number new
heard_on None number d new ls led seats same s = seated_as (pool_in new.pool) ls new.links.items same (seated_on d (pool_in new.pool) ls led (seats s.reached) s)
heard_on (Some heard) number d new ls led seats same s = heard_by (is_left heard.what) number d new ls led (seats s.reached) same s

pub behind_on : {A E : Type 0} (r : Result (A × Option Heard) E) (number : ℕ) (d : Pool) (new : code.Relay) (ls : List Link) → (OnOk r (IsReached d → IsReached (pool_in new.pool)))
    → IfOk r (λ heard. HearsSeat heard.1 number d.service (pool_in new.pool).service) → SameThere ls new.links.items → AreSeated d ls → IfOk r (λ heard. IsSeatedBehind heard.1 number new)
behind_on (Ok x) number d new ls led seats same s = heard_on x.1 number d new ls led (λ reached. seats) same s
behind_on (Err e) number d new ls led seats same s = tt

-- ---- One is renewed

module _ (key : ℕ) (resumes : Bool) (d e : pools.Pool) (before after : List ℕ) (ls : List Link) (turns : Turns (pool.Renews key resumes) (pool_in d) (pool_in e) before after) (s : AreSeated (pool_in d) ls) where
  pub renewed_on : KeepsSeats (pool_in d).service (pool_in e).service → AreSeated (pool_in e) ls
  renewed_on keeps = seated_on (pool_in d) (pool_in e) ls (turned (pool.Renews key resumes) (pool_in d) (pool_in e) before after turns) keeps s

  pub renewed_out : (number : ℕ) → SeatStays false number (pool_in d).service (pool_in e).service → AreSeatedBut number false (pool_in e) ls
  renewed_out number stays = seated_out number (pool_in d) (pool_in e) ls (turned (pool.Renews key resumes) (pool_in d) (pool_in e) before after turns) stays s

pub renews_keep : (o p : Renewed) (s t : Service) → o ≡ p → RenewsSeat o s t → RenewsSeat p s t
renews_keep o p s t is k = subst (λ (x : Renewed). RenewsSeat x s t) is k

pub off_kept : (number : ℕ) (a b : code.Relay) → b.pool ≡ a.pool → SameThere a.links.items b.links.items → IsSeatedOff number a → IsSeatedOff number b
off_kept number a b same there s = subst (λ (x : pools.Pool). AreSeatedOff number (pool_in x) b.links.items) (sym same) (off_as number (pool_in a.pool) a.links.items b.links.items there s)

pub but_kept : (number : ℕ) (has : Bool) (a b : code.Relay) → b.pool ≡ a.pool → SameThere a.links.items b.links.items → IsSeatedBut number has a → IsSeatedBut number has b
but_kept number has a b same there s = but_pool number has a.pool b.pool b.links.items same (but_as number has (pool_in a.pool) a.links.items b.links.items there s)

pub but_lasting : (number : ℕ) (has : Bool) (a b : code.Relay) → b.pool ≡ a.pool → AllLast a.links.items b.links.items → LinksStay a.links.items b.links.items → IsSeatedBut number has a → IsSeatedBut number has b
but_lasting number has a b same last stays s = but_kept number has a b same (lasting_there a.links.items b.links.items last stays) s

pub links_there : (a b : List Link) → b ≡ a → SameThere a b
links_there a b same = record {
  there = λ number. ap (is_there number) same;
  few = (let e : length b ≡ length a = ap (length {A = Link}) same in let t : length b ≤ length a = omega (arith, e) in t);
}

pub lost_but : {A E : Type 0} (r : Result A E) (number : ℕ) (new : code.Relay) → OnOk r (reader_at number new.links.items ≡ None) → OnOk r (IsSeated new) → OnOk r (IsSeatedBut number false new)
lost_but (Ok x) number new gone s = but_gone number (pool_in new.pool) new.links.items (gone_there number new.links.items gone) s
lost_but (Err e) number new gone s = tt

-- ---- Behind a packet

pub behind_stays : (o : Option Heard) (heard : Heard) (number : ℕ) (r : code.Relay) → o ≡ Some heard → is_left heard.what ≡ true → IsSeatedBehind o number r → IsSeated r
behind_stays o heard number r is left s =
    subst (λ (b : Bool). IsSeatedIf b number false r) left (subst (λ (p : Option Heard). IsSeatedBehind p number r) is s)

pub behind_out : (o : Option Heard) (heard : Heard) (number : ℕ) (r : code.Relay) → o ≡ Some heard → is_left heard.what ≡ false → IsSeatedBehind o number r → IsSeatedBut number false r
behind_out o heard number r is left s =
    subst (λ (b : Bool). IsSeatedIf b number false r) left (subst (λ (p : Option Heard). IsSeatedBehind p number r) is s)

pub behind_none : (o : Option Heard) (number : ℕ) (r : code.Relay) → o ≡ None → IsSeatedBehind o number r → IsSeated r
behind_none o number r is s = subst (λ (p : Option Heard). IsSeatedBehind p number r) is s

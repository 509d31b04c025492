-- A cleaning goes out of what has drained, as a packet is heard.
use Rattle.std.proofs.Common.{◌≡◌, ◌≢◌, ◌⊎◌, ◌∙◌, ℕ, suc, Bool, true, false, List, [], ◌∷◌, Option, Some, None, is_some, option_map, inl, inr, refl, sym, ap, subst, ◌&&◌}
use Rattle.std.specs.Prelude.{IsSome}
use Rattle.std.proofs.lemmas.Bool.{cases_eq}
use Rattle.tds_wire.specs.declared.told.Token.{Token}
use Rattle.tds_service.specs.Parts.{Part}
use Rattle.tds_service.specs.Service as calls
use Rattle.tds_service.specs.Service.{Cleaning, Place, Seat, Service, has_number, lease_at, lease_in, seat_numbered, service_after, step}
use Rattle.tds_relay.specs.declared.pool.Hold.{Hold}
use Rattle.tds_relay.specs.declared.pool.coming.Heard.{Heard}
use Rattle.tds_relay.specs.declared.pool.coming.What.{What}
use Rattle.tds_relay.specs.declared.pool.coming.What.TheVariants as whats
use Rattle.tds_relay.specs.declared.link.Link.{Link}
use Rattle.tds_relay.specs.declared.relay.Relay as code
use Rattle.tds_relay.specs.Cleaning.{CleaningsWaitAt, CleansHere, CleansNobodys, EndsInCleaning, IsCleanedBy, IsCleaning, IsPutBehind, text_of_cleaning}
use Rattle.tds_relay.specs.Few.{HearsSeat, has_seat, is_left}
use Rattle.tds_relay.specs.Handing.{heard_key}
use Rattle.tds_relay.specs.Pool.{Pool, cleaned_by, find_number, key_of, whose, whose_by}
use Rattle.tds_relay.specs.Promises.{CaresFor, IsCaredFor}
use Rattle.tds_relay.specs.Reads.{FillsBy, StaysAt, bytes_on, carried_there, link_at, waits_on}
use Rattle.tds_relay.specs.Sending.{NamedWaiting, sending_at, sending_of}
use Rattle.tds_relay.specs.Ties.{Connection, IsReached, LedTo, pool_in}
use Rattle.tds_relay.specs.TokenParsers.{IsLed}
use Rattle.tds_relay.specs.Waiting.{IsOnOrHeld, KeepsHeard}
use Rattle.tds_relay.proofs.bytes.Walking.{led_tidy}
use Rattle.tds_relay.proofs.lending.Newly.{all_was, cleaned_off, led_was, other_number}
use Rattle.tds_relay.proofs.lending.Tending.{nothing_put, place_there, put_ends, same_stays, stays_two, unheld, waits_carried}
use Rattle.tds_relay.proofs.promises.Seats.{each_found}
use Rattle.tds_relay.proofs.spared.Held.{sound_at}
use Rattle.tds_relay.proofs.steps.Reaching.{reached_on}

-- ---- At the pool

pub came_was : (n lease : ℕ) (s t : Service) (m : ℕ) (part : Part Token) → IsLed s → t ≡ (step s (calls.Came m part)).service → IsCleanedBy n lease t → IsCleanedBy n lease s
came_was n lease s t m part led is at = all_was n lease s (calls.Came m part ∷ []) (led_tidy s led) (tt, tt) (subst (λ (x : Service). IsCleanedBy n lease x) is at)

pub settled_was : (n lease : ℕ) (s t : Service) (m l : ℕ) → IsLed s → t ≡ service_after s (cleaned_by s m l) → IsCleanedBy n lease t → IsCleanedBy n lease s
settled_was n lease s t m l led is at = all_was n lease s (cleaned_by s m l) (led_tidy s led) (cleaned_off n s m l) (subst (λ (x : Service). IsCleanedBy n lease x) is at)

here_by : (lease who : Option ℕ) (holds : List Hold) (Was Is Put : Type 0) → who ≡ whose_by lease holds → (Is → Was) → (before after : List ℕ) → (Is × (after ≡ before)) ⊎ ((lease ≡ None) × Put) → (Was × (after ≡ before)) ⊎ ((who ≡ None) × Put)
here_by lease who holds Was Is Put is was before after (inl x) = inl (was x.0, x.1)
here_by lease who holds Was Is Put is was before after (inr x) = inr (is ∙ ap (λ (o : Option ℕ). whose_by o holds) x.0, x.1)

-- behind the packet
pub came_here : (lease who : Option ℕ) (holds : List Hold) (number : ℕ) (before after : List ℕ) (s t u : Service) (m : ℕ) (part : Part Token) → IsLed s → t ≡ (step s (calls.Came m part)).service → who ≡ whose_by lease holds
    → CleansHere lease number before after t u → CleansHere who number before after s u
came_here lease who holds number before after s t u m part led came is h = record {
  here = λ l at.
      here_by lease who holds (IsCleanedBy number l s) (IsCleanedBy number l t) (IsPutBehind (IsCleaning text_of_cleaning) before after) is (came_was number l s t m part led came) before after (h.here l at);
}

-- what is being cleaned is nobody's
cleaned_whose : (d : Pool) (n lease : ℕ) → IsReached d → IsCleanedBy n lease d.service → whose d n ≡ None
cleaned_whose d n lease reached at =
    let there = place_there (seat_numbered n d.service.seats) lease at in
    let cares : CaresFor d.holds there.0 = each_found (CaresFor d.holds) (has_number n) there.0 d.service.seats (sound_at d reached).cared there.1 in
    let clean : IsCaredFor d.holds there.0.number (Cleaning lease) there.0.line = subst (λ (p : Place). IsCaredFor d.holds there.0.number p there.0.line) there.2 cares in
    ap (λ (o : Option Seat). whose_by (lease_at o) d.holds) there.1 ∙ ap (λ (p : Place). whose_by (lease_in p) d.holds) there.2 ∙ ap key_of clean.unheld

is_open : (what : What) (had has : Bool) → has ≡ true → has ≡ (is_left what && had) → what ≢ whats.Closed
is_open what had has there here = λ closed.
    let u : (is_left what && had) ≡ false = ap (λ (w : What). is_left w && had) closed in
    let v : true ≡ false = sym there ∙ here ∙ u in
    let w : ⊥ = cc in
    w

nobodys_by : (number lease : ℕ) (d : Pool) (who : Option ℕ) (before after : List ℕ) → IsReached d → who ≡ whose d number
    → (IsCleanedBy number lease d.service × (after ≡ before)) ⊎ ((who ≡ None) × IsPutBehind (IsCleaning text_of_cleaning) before after)
    → (who ≡ None) × ((IsCleanedBy number lease d.service × (after ≡ before)) ⊎ IsPutBehind (IsCleaning text_of_cleaning) before after)
nobodys_by number lease d who before after reached is (inl x) = (is ∙ cleaned_whose d number lease reached x.0, inl x)
nobodys_by number lease d who before after reached is (inr x) = (x.0, inr x.1)

pub nobodys_cleaned : (number : ℕ) (d : Pool) (s : Service) (heard : Heard) (before after : List ℕ) → IsReached d → heard.key ≡ whose d number → (heard.what ≢ whats.Closed → CleansHere heard.key number before after d.service s)
    → HearsSeat (Some heard) number d.service s → CleansNobodys heard.key number before after d.service s
nobodys_cleaned number d s heard before after reached is h seats = record {
  here = λ lease at.
      let there = place_there (seat_numbered number s.seats) lease at in
      let stays : heard.what ≢ whats.Closed = is_open heard.what (has_seat number d.service) (has_seat number s) (ap is_some there.1) seats.here in
      nobodys_by number lease d heard.key before after reached is ((h stays).here lease at);
}

-- nothing is heard
pub unheard_cleaned : (number : ℕ) (s : Service) (before after : List ℕ) → after ≡ before → CleansNobodys None number before after s s
unheard_cleaned number s before after same = record { here = λ lease at. (refl, inl (at, same)) }

-- ---- At the relay

waiting_of : (o : Option Link) → option_map (λ (s : NamedWaiting). s.1) (option_map sending_of o) ≡ option_map bytes_on o
waiting_of None = refl
waiting_of (Some l) = refl

waits_sending : (n : ℕ) (ls ms : List Link) → sending_at n ms ≡ sending_at n ls → waits_on n ms ≡ waits_on n ls
waits_sending n ls ms e = sym (waiting_of (link_at n ms)) ∙ ap (option_map (λ (s : NamedWaiting). s.1)) e ∙ waiting_of (link_at n ls)

module _ (number : ℕ) (heard : Option Heard) (old mid new : code.Relay) (hears : LedTo (Connection number) (pool_in old.pool) (pool_in mid.pool)) (goes : (other : ℕ) → LedTo (Connection other) (pool_in mid.pool) (pool_in new.pool))
    (newly : IsReached (pool_in old.pool) → CleansNobodys (heard_key heard) number [] mid.outbox.items (pool_in old.pool).service (pool_in mid.pool).service)
    (same : (n : ℕ) → sending_at n mid.links.items ≡ sending_at n old.links.items) (keeps : IsReached (pool_in mid.pool) → KeepsHeard number heard mid new)
    (sent : heard_key heard ≡ None → FillsBy mid.outbox.items (waits_on number mid.links.items) (waits_on number new.links.items)) where
  abbrev Awaits : ℕ → ℕ → Type 0
  Awaits n lease =
      EndsInCleaning (waits_on n new.links.items) ⊎ (IsCleanedBy n lease (pool_in old.pool).service × StaysAt (waits_on n old.links.items) (waits_on n new.links.items))

  waits_same : (n : ℕ) → StaysAt (waits_on n old.links.items) (waits_on n mid.links.items)
  waits_same n = same_stays (waits_on n old.links.items) (waits_on n mid.links.items) (waits_sending n old.links.items mid.links.items (same n))

  here_awaits : (lease : ℕ) → heard_key heard ≡ None → (IsCleanedBy number lease (pool_in old.pool).service × (mid.outbox.items ≡ [])) ⊎ IsPutBehind (IsCleaning text_of_cleaning) [] mid.outbox.items → Awaits number lease
  here_awaits lease none (inl x) = inr (
    x.0,
    stays_two (waits_on number old.links.items) (waits_on number mid.links.items) (waits_on number new.links.items) (waits_same number) (nothing_put (waits_on number mid.links.items) (waits_on number new.links.items) mid.outbox.items x.1 (sent none)),
  )
  here_awaits lease none (inr put) = inl (put_ends (waits_on number mid.links.items) (waits_on number new.links.items) mid.outbox.items ([], put) (sent none))

  kept_by : (n : ℕ) → n ≢ number → find_number n mid.pool.holds.items ≡ None
      → IsOnOrHeld number (heard_key heard) mid n ⊎ ((find_number n new.pool.holds.items ≡ find_number n mid.pool.holds.items) × (carried_there n new.links.items ≡ carried_there n mid.links.items))
      → StaysAt (waits_on n mid.links.items) (waits_on n new.links.items)
  kept_by n ne none (inl (inl e)) = absurd (ne e)
  kept_by n ne none (inl (inr x)) = absurd (let u : false ≡ true = subst (λ (o : Option ℕ). IsSome o) (sym x.1 ∙ ap key_of none) x.0 in let v : ⊥ = cc in v)
  kept_by n ne none (inr k) = same_stays (waits_on n mid.links.items) (waits_on n new.links.items) (waits_carried n mid.links.items new.links.items k.1)

  else_awaits : (n lease : ℕ) → n ≢ number → IsReached (pool_in old.pool) → IsReached (pool_in mid.pool) → IsCleanedBy n lease (pool_in mid.pool).service → Awaits n lease
  else_awaits n lease ne reached led there = inr (
    led_was n number (pool_in old.pool) (pool_in mid.pool) ne reached hears lease there,
    stays_two (waits_on n old.links.items) (waits_on n mid.links.items) (waits_on n new.links.items) (waits_same n) (kept_by n ne (unheld (pool_in mid.pool) n lease led there) ((keeps led).others n)),
  )

  pub one_awaits : CleaningsWaitAt old new
  one_awaits = record {
    each = λ reached n lease at.
        let led : IsReached (pool_in mid.pool) = reached_on (Connection number) (pool_in old.pool) (pool_in mid.pool) hears reached in
        let there : IsCleanedBy n lease (pool_in mid.pool).service = led_was n (suc n) (pool_in mid.pool) (pool_in new.pool) (other_number n) led (goes (suc n)) lease at in
        elim (cases_eq n number) [
          | inl e ↦
              (let h = (newly reached).here lease (subst (λ (k : ℕ). IsCleanedBy k lease (pool_in mid.pool).service) e there) in
              subst (λ (k : ℕ). Awaits k lease) (sym e) (here_awaits lease h.0 h.1))
          | inr ne ↦ else_awaits n lease ne reached led there
        ];
  }

-- Clients of connections that are held, while another one is given back and cleaned.
use Rattle.std.proofs.Common.{◌≡◌, ◌≢◌, ◌⊎◌, ◌∙◌, ◌==◌, ◌<◌, ◌≤◌, ◌+◌, ◌++◌, ℕ, suc, Bool, true, false, not, List, [], ◌∷◌, Option, Some, None, inl, inr, refl, sym, ap, subst, arith, if◌then◌else◌}
use Rattle.std.proofs.lemmas.Bool.{cases_lt, eqb-true}
use Rattle.tds_client.specs.Session.{ClientSession}
use Rattle.tds_client.specs.declared.fault.ClientRefusal.{ClientRefusal}
use Rattle.tds_packet.specs.declared.status.Reset.TheVariants.{Full}
use Rattle.tds_wire.specs.declared.told.Token.{Token}
use Rattle.tds_service.specs.History.{line_after}
use Rattle.tds_service.specs.Line as line
use Rattle.tds_service.specs.Line.{Act, Line, LineStage}
use Rattle.tds_service.specs.Refusing.{packets, refusal_in}
use Rattle.tds_service.specs.Parts.{Part}
use Rattle.tds_service.specs.Service as calls
use Rattle.tds_service.specs.Service.{Call, Cleaning, Draining, Free, Kept, Leased, Place, Reply, Seat, Service, ServiceStep, acts_unless, does, find_by, has_lease, has_number, is_lendable, nothing, rests, step}
use Rattle.tds_service.specs.Table.{KeepsClients, KeepsClientsOff, client_of, service_in}
use Rattle.tds_service.specs.declared.service.Service as services
use Rattle.tds_relay.specs.Pool.{Pool, find_key, find_lease, new_pool, without_lease, without_number}
use Rattle.tds_relay.specs.Promises.{Each, CaresFor, IsCaredFor}
use Rattle.tds_relay.specs.Sparing.{AsideHeld, AsideStay, HeldConnection, IsAside, OffHold, OthersHold, held_with_client}
use Rattle.tds_relay.specs.Ties.{IsReached, pool_in}
use Rattle.tds_relay.specs.TokenParsers.{IsLed}
use Rattle.tds_relay.specs.declared.pool.Pool as pools
use Rattle.tds_relay.specs.declared.pool.Hold.{Hold}
use Rattle.tds_relay.proofs.bytes.Walking.{led_on, led_tidy}
use Rattle.tds_relay.proofs.promises.Caring.{Sound}
use Rattle.tds_relay.proofs.promises.Holding.{found_by_lease, none_above}
use Rattle.tds_relay.proofs.promises.Seats.{Fits, each_changed, each_found, each_weaker, found_meets}
use Rattle.tds_relay.proofs.promises.Tidy.{Tidy, step_rises}
use Rattle.tds_relay.proofs.spared.Held.{added_key, client_found, holds_on, is_held, kept_key, lease_apart, not_equal, off_others, sound_at}
use Rattle.tds_relay.specs.Fronting.{calls_along}
use Rattle.tds_relay.proofs.steps.Calling.{service_along}

-- ---- Where a connection is that has been cleaned

abbrev IsBare : Option (Option Place) → Type 0
IsBare None = Unit {0}
IsBare (Some None) = Unit {0}
IsBare (Some (Some (Leased lease))) = ⊥
IsBare (Some (Some (Cleaning lease))) = ⊥
IsBare (Some (Some (Kept ticket))) = ⊥
IsBare (Some (Some Free)) = Unit {0}
IsBare (Some (Some Draining)) = ⊥

bare_if : (clean : Bool) → IsBare (Some (if clean then Some Free else None))
bare_if true = tt
bare_if false = tt

bare_clean : (clean : Bool) (stage : LineStage) → IsBare (calls.rests_clean clean stage)
bare_clean clean line.Idle = bare_if clean
bare_clean clean (line.Sending begun) = tt
bare_clean clean line.Reading = tt
bare_clean clean line.Cancelling = tt
bare_clean clean (line.Broken fault) = tt

bare_place : (place : Place) (l : Line) → IsBare (calls.clean_place place l)
bare_place (Leased lease) l = tt
bare_place (Cleaning lease) l = bare_clean (calls.is_clean l.heard.mark l.heard.descriptor) l.stage
bare_place (Kept ticket) l = tt
bare_place Free l = tt
bare_place Draining l = tt

-- ---- Behind a call that lends nothing to this lease

module _ (lease number : ℕ) where
  abbrev Apart : Seat → Type 0
  Apart c = has_lease lease c ≡ true → c.number ≢ number

  module _ (s : Service) (tidy : Tidy s) (le : lease ≤ s.given) (apart : Each Apart s.seats) where
    each_does : (given : ℕ) (test : Seat → Bool) (c : Seat) (place : Option Place) (all : List (Act Token)) (reply : Reply) → find_by test s.seats ≡ Some c → Fits Apart c.number place (line_after c.line all)
        → Each Apart (does s given test c place all reply).service.seats
    each_does given test c place all reply e fits = each_changed Apart Apart test place (line_after c.line all) c s.seats e tidy.distinct apart (λ x h other. h) fits

    each_unless : (test : Seat → Bool) (c : Seat) (all : List (Act Token)) (why : Option ClientRefusal) → find_by test s.seats ≡ Some c → Each Apart (acts_unless s test c all why).service.seats
    each_unless test c all None e =
        each_does s.given test c (Some c.place) all calls.Did e (let h : Apart c = each_found Apart test c s.seats apart e in h)
    each_unless test c all (Some why) e = apart

    each_acts : (test : Seat → Bool) (first : Act Token) (all : List (Act Token)) (o : Option Seat) → find_by test s.seats ≡ o → Each Apart (calls.acts s test first all o).service.seats
    each_acts test first all None e = apart
    each_acts test first all (Some c) e = each_unless test c all (refusal_in (line.line_turn c.line first).answer) e

    rests_fit : (n : ℕ) (stage : LineStage) (l : Line) → Fits Apart n (rests stage) l
    rests_fit n line.Idle l = λ e. absurd (let u : false ≡ true = e in let v : ⊥ = cc in v)
    rests_fit n (line.Sending begun) l = λ e. absurd (let u : false ≡ true = e in let v : ⊥ = cc in v)
    rests_fit n line.Reading l = λ e. absurd (let u : false ≡ true = e in let v : ⊥ = cc in v)
    rests_fit n line.Cancelling l = λ e. absurd (let u : false ≡ true = e in let v : ⊥ = cc in v)
    rests_fit n (line.Broken fault) l = tt

    each_gives : (test : Seat → Bool) (o : Option Seat) → find_by test s.seats ≡ o → Each Apart (calls.gives_back {T = Token} s test o).service.seats
    each_gives test None e = apart
    each_gives test (Some c) e =
        let stage = (line_after {T = Token} c.line (line.Cancel ∷ [])).stage in
        each_does s.given test c (rests stage) (line.Cancel ∷ []) (calls.Back (rests stage)) e (rests_fit c.number stage (line_after {T = Token} c.line (line.Cancel ∷ [])))

    each_if : (b : Bool) (t u : ServiceStep Token) → Each Apart t.service.seats → Each Apart u.service.seats → Each Apart (if b then t else u).service.seats
    each_if true t u h k = h
    each_if false t u h k = k

    each_cleans : (test : Seat → Bool) (o : Option Seat) → find_by test s.seats ≡ o → Each Apart (calls.cleans {T = Token} s test o).service.seats
    each_cleans test None e = apart
    each_cleans test (Some c) e =
        each_if (is_lendable c) (does s (suc s.given) test c (Some (Cleaning (suc s.given))) (line.Mark Full ∷ []) (calls.Lent (suc s.given) c.number true)) (nothing s calls.NotNow)
        (each_does (suc s.given) test c (Some (Cleaning (suc s.given))) (line.Mark Full ∷ []) (calls.Lent (suc s.given) c.number true) e
        (λ is. absurd (let same : suc s.given ≡ lease = eqb-true (suc s.given) lease is in let u : ⊥ = omega (arith, same, le) in u))) apart

    each_keeps : (test : Seat → Bool) (o : Option Seat) → find_by test s.seats ≡ o → Each Apart (calls.keeps_it {T = Token} s test o).service.seats
    each_keeps test None e = apart
    each_keeps test (Some c) e =
        each_if (calls.may_keep c) (does s (suc s.given) test c (Some (Kept (suc s.given))) [] (calls.Ticket (suc s.given))) (nothing s calls.NotNow)
        (each_does (suc s.given) test c (Some (Kept (suc s.given))) [] (calls.Ticket (suc s.given)) e (λ is. absurd (let u : false ≡ true = is in let v : ⊥ = cc in v))) apart

    holds_if : (b : Bool) → calls.holds lease (if b then Free else Draining) ≡ true → calls.holds lease Draining ≡ true
    holds_if true e = e
    holds_if false e = e

    holds_drained : (place : Place) (stage : LineStage) → calls.holds lease (calls.drained place stage) ≡ true → calls.holds lease place ≡ true
    holds_drained (Leased other) stage e = e
    holds_drained (Cleaning other) stage e = e
    holds_drained (Kept ticket) stage e = e
    holds_drained Free stage e = e
    holds_drained Draining stage e = holds_if (calls.is_idle stage) e

    each_hears : (test : Seat → Bool) (part : Part Token) (o : Option Seat) → find_by test s.seats ≡ o → Each Apart (calls.hears s test part o).service.seats
    each_hears test part None e = apart
    each_hears test part (Some c) e =
        let stage = (line_after c.line (line.Come part ∷ [])).stage in
        let own : Apart c = each_found Apart test c s.seats apart e in
        each_does s.given test c (Some (calls.drained c.place stage)) (line.Come part ∷ []) calls.Did e (λ is. own (holds_drained c.place stage is))

    each_rests : (test : Seat → Bool) (c : Seat) (o : Option (Option Place)) → find_by test s.seats ≡ Some c → IsBare o → Each Apart (calls.rests_cleaned {T = Token} s test c o).service.seats
    each_rests test c None e bare = apart
    each_rests test c (Some None) e bare = each_does s.given test c None [] (calls.Back None) e tt
    each_rests test c (Some (Some (Leased other))) e bare = absurd bare
    each_rests test c (Some (Some (Cleaning other))) e bare = absurd bare
    each_rests test c (Some (Some (Kept ticket))) e bare = absurd bare
    each_rests test c (Some (Some Free)) e bare = each_does s.given test c (Some Free) [] (calls.Back (Some Free)) e (λ is. absurd (let u : false ≡ true = is in let v : ⊥ = cc in v))
    each_rests test c (Some (Some Draining)) e bare = absurd bare

    each_cleaned : (test : Seat → Bool) (o : Option Seat) → find_by test s.seats ≡ o → Each Apart (calls.cleaned {T = Token} s test o).service.seats
    each_cleaned test None e = apart
    each_cleaned test (Some c) e = each_rests test c (calls.clean_place c.place c.line) e (bare_place c.place c.line)

  -- such a call
  abbrev pub IsMild : Call Token → Type 0
  IsMild calls.Lease = ⊥
  IsMild (calls.Resume ticket) = ⊥
  IsMild (calls.Ask other) = Unit {0}
  IsMild (calls.Put other count) = Unit {0}
  IsMild (calls.Finish other count) = Unit {0}
  IsMild (calls.Cancel other) = ⊥
  IsMild (calls.GiveBack other) = Unit {0}
  IsMild (calls.Clean m) = Unit {0}
  IsMild (calls.Cleaned other) = Unit {0}
  IsMild (calls.Keep other) = Unit {0}
  IsMild (calls.Abandon ticket) = ⊥
  IsMild (calls.Came m part) = Unit {0}
  IsMild (calls.Lost m) = ⊥
  IsMild (calls.Without call) = ⊥

  each_step : (s : Service) (call : Call Token) → IsMild call → Tidy s → lease ≤ s.given → Each Apart s.seats → Each Apart (step s call).service.seats
  each_step s calls.Lease m tidy le h = absurd m
  each_step s (calls.Resume ticket) m tidy le h = absurd m
  each_step s (calls.Ask other) m tidy le h = each_acts s tidy le h (has_lease other) line.Ask (line.Ask ∷ []) (find_by (has_lease other) s.seats) refl
  each_step s (calls.Put other count) m tidy le h = each_acts s tidy le h (has_lease other) (line.Send false) (packets count) (find_by (has_lease other) s.seats) refl
  each_step s (calls.Finish other count) m tidy le h = each_acts s tidy le h (has_lease other) (line.Send true) (packets count ++ line.Send true ∷ []) (find_by (has_lease other) s.seats) refl
  each_step s (calls.Cancel other) m tidy le h = absurd m
  each_step s (calls.GiveBack other) m tidy le h = each_gives s tidy le h (has_lease other) (find_by (has_lease other) s.seats) refl
  each_step s (calls.Clean n) m tidy le h = each_cleans s tidy le h (has_number n) (find_by (has_number n) s.seats) refl
  each_step s (calls.Cleaned other) m tidy le h = each_cleaned s tidy le h (has_lease other) (find_by (has_lease other) s.seats) refl
  each_step s (calls.Keep other) m tidy le h = each_keeps s tidy le h (has_lease other) (find_by (has_lease other) s.seats) refl
  each_step s (calls.Abandon ticket) m tidy le h = absurd m
  each_step s (calls.Came n part) m tidy le h = each_hears s tidy le h (has_number n) part (find_by (has_number n) s.seats) refl
  each_step s (calls.Lost n) m tidy le h = absurd m
  each_step s (calls.Without call) m tidy le h = absurd m

  pub aside_step : (s t : Service) (call : Call Token) → IsMild call → t ≡ (step s call).service → IsAside lease number s → IsAside lease number t
  aside_step s t call m is a =
      let tidy = led_tidy s a.led in
      let rises : s.given ≤ (step s call).service.given = (step_rises s call tidy).rises in
      let le : lease ≤ s.given = a.given in
      let more : lease ≤ (step s call).service.given = omega (arith, rises, le) in
      record {
        led = led_on s t call is a.led;
        given = subst (λ (x : Service). lease ≤ x.given) (sym is) more;
        apart = subst (λ (x : Service). Each Apart x.seats) (sym is) (each_step s call m tidy a.given a.apart);
      }

-- ---- The lease of a cleaning

lease_if : (s : Service) (c : Seat) (b : Bool) (test : Seat → Bool) (l m : ℕ) (had : Bool)
    → (if b then does {T = Token} s (suc s.given) test c (Some (Cleaning (suc s.given))) (line.Mark Full ∷ []) (calls.Lent (suc s.given) c.number true) else nothing s calls.NotNow).reply ≡ calls.Lent l m had → l ≡ suc s.given
lease_if s c true test l m had e = (let u : calls.Lent (suc s.given) c.number true ≡ calls.Lent l m had = e in cc)
lease_if s c false test l m had e = absurd (let u : calls.NotNow ≡ calls.Lent l m had = e in let v : ⊥ = cc in v)

lease_of : (s : Service) (test : Seat → Bool) (o : Option Seat) (l m : ℕ) (had : Bool) → (calls.cleans {T = Token} s test o).reply ≡ calls.Lent l m had → l ≡ suc s.given
lease_of s test None l m had e = absurd (let u : calls.Unknown ≡ calls.Lent l m had = e in let v : ⊥ = cc in v)
lease_of s test (Some c) l m had e = lease_if s c (is_lendable c) test l m had e

pub clean_lease : (s : Service) (n l m : ℕ) (had : Bool) → (step {T = Token} s (calls.Clean n)).reply ≡ calls.Lent l m had → l ≡ suc s.given
clean_lease s n l m had e = lease_of s (has_number n) (find_by (has_number n) s.seats) l m had e

-- ---- Clients that stay

abbrev pub AsideFor : ℕ → ℕ → services.Service → services.Service → Type 0
AsideFor lease number s t = (client : ClientSession) → IsAside lease number (service_in s) → client_of lease s ≡ Some client → client_of lease t ≡ Some client

pub forgot_for : (lease number : ℕ) (s t : services.Service) → KeepsClientsOff number s t → AsideFor lease number s t
forgot_for lease number s t keeps = λ client aside there.
    let f = client_found (has_lease lease) s.seats.items client there in
    let apart : f.0.number ≢ number = each_found (λ (c : Seat). has_lease lease c ≡ true → c.number ≢ number) (has_lease lease) f.0 (service_in s).seats aside.apart f.1 (found_meets (has_lease lease) f.0 (service_in s).seats f.1) in
    keeps lease f.0 f.1 apart ∙ there

-- a call by another lease, and what is behind it
pub called_for : (lease own number : ℕ) (s t u : services.Service) (call : Call Token) → IsMild lease number call → service_in t ≡ (step (service_in s) call).service → KeepsClients own s t → lease ≢ own → AsideFor lease number t u
    → AsideFor lease number s u
called_for lease own number s t u call mild is keeps other later = λ client aside there.
    later client (aside_step lease number (service_in s) (service_in t) call mild is aside) (keeps lease other ∙ there)

-- one that is refused
pub refused_for : (lease own number : ℕ) (s t u : services.Service) → service_in t ≡ service_in s → KeepsClients own s t → lease ≢ own → AsideFor lease number t u → AsideFor lease number s u
refused_for lease own number s t u same keeps other later = λ client aside there.
    later client (subst (λ (x : Service). IsAside lease number x) (sym same) aside) (keeps lease other ∙ there)

pub same_for : (lease number : ℕ) (s t u : services.Service) → t ≡ s → AsideFor lease number t u → AsideFor lease number s u
same_for lease number s t u same later = subst (λ (x : services.Service). AsideFor lease number x u) same later

pub refl_for : (lease number : ℕ) (s : services.Service) → AsideFor lease number s s
refl_for lease number s = λ client aside there. there

pub above_given : (s : Service) (lease : ℕ) → lease ≤ s.given → lease ≢ s.given + 1
above_given s lease le e = let u : ⊥ = omega (arith, le, e) in u

pub lent_given : (s : Service) (n l m : ℕ) (had : Bool) (lease : ℕ) → (step {T = Token} s (calls.Clean n)).reply ≡ calls.Lent l m had → lease ≤ s.given → lease ≢ l
lent_given s n l m had lease e le same =
    let new : l ≡ suc s.given = clean_lease s n l m had e in
    let u : ⊥ = omega (arith, le, same, new) in u

-- ---- Those that others hold

within_by : (d : Pool) (h : Hold) → (d.service.given < h.lease) ⊎ (h.lease ≤ d.service.given) → Sound d → find_lease h.lease d.holds ≡ Some h → h.lease ≤ d.service.given
within_by d h (inl above) sound held =
    absurd (let none : find_lease h.lease d.holds ≡ None = none_above 0 d.service.given h.lease d.holds sound.rising above in let u : None ≡ Some h = sym none ∙ held in let v : ⊥ = cc in v)
within_by d h (inr le) sound held = le

cared_apart : (hs : List Hold) (lease number n : ℕ) (h : Hold) (place : Place) (l : Line) → find_lease lease hs ≡ Some h → h.number ≢ number → IsCaredFor hs n place l
    → calls.holds lease place ≡ true → n ≢ number
cared_apart hs lease number n h (Leased other) l held differs c is same =
    let one : other ≡ lease = eqb-true other lease is in
    let found : find_lease lease hs ≡ Some c.hold = subst (λ (k : ℕ). find_lease k hs ≡ Some c.hold) one c.found in
    let hold : c.hold ≡ h = (let u : Some c.hold ≡ Some h = sym found ∙ held in cc) in
    differs (sym (ap (λ (x : Hold). x.number) hold) ∙ c.here ∙ same)
cared_apart hs lease number n h (Cleaning other) l held differs c is same =
    let one : other ≡ lease = eqb-true other lease is in
    let none : find_lease lease hs ≡ None = subst (λ (k : ℕ). find_lease k hs ≡ None) one c.unheld in
    let u : None ≡ Some h = sym none ∙ held in
    let v : ⊥ = cc in v
cared_apart hs lease number n h (Kept ticket) l held differs c is same = absurd c
cared_apart hs lease number n h Free l held differs c is same = let u : false ≡ true = is in let v : ⊥ = cc in v
cared_apart hs lease number n h Draining l held differs c is same = let u : false ≡ true = is in let v : ⊥ = cc in v

pub led_at : (d : Pool) → IsReached d → IsLed d.service
led_at d r = (r.0.most, calls_along (new_pool r.0) r.1, sym (service_along (new_pool r.0) r.1) ∙ ap (λ (e : Pool). e.service) r.2)

-- one that is another's leaves them
left_where : (d e : pools.Pool) (key : ℕ) (g : Hold) → find_key key d.holds.items ≡ Some g
    → ((other : ℕ) (h : Hold) → find_key other d.holds.items ≡ Some h → h.lease ≢ g.lease → h.number ≢ g.number → find_key other e.holds.items ≡ Some h) → AsideStay g.lease g.number d.service e.service → OthersHold key d e
left_where d e key g its found stay = record {
  hold = λ reached other differs.
      holds_on d e other (λ h client theirs there.
      let sound : Sound (pool_in d) = sound_at (pool_in d) reached in
      let apart : h.lease ≢ g.lease = lease_apart (pool_in d) key other g h sound its theirs differs in
      let off : h.number ≢ g.number = λ same. off_others d key other g reached its differs client (is_held d other h client theirs there ∙ ap (λ (n : ℕ). let x : HeldConnection = (n, client) in Some x) same) in
      let held : find_lease h.lease d.holds.items ≡ Some h = found_by_lease other 0 (pool_in d).service.given h d.holds.items sound.rising theirs in
      let aside : IsAside h.lease g.number (pool_in d).service = record {
        led = led_at (pool_in d) reached;
        given = within_by (pool_in d) h (cases_lt (pool_in d).service.given h.lease) sound held;
        apart = each_weaker (CaresFor d.holds.items) (λ (c : Seat). has_lease h.lease c ≡ true → c.number ≢ g.number) (λ c cared is. cared_apart d.holds.items h.lease g.number c.number h c.place c.line held off cared is)
            (pool_in d).service.seats sound.cared;
      } in (
        found other h theirs apart off,
        stay h.lease client apart aside there ∙ sym there,
      ));
}

kept_lease : (other lease : ℕ) (h : Hold) (hs : List Hold) → find_key other hs ≡ Some h → h.lease ≢ lease → find_key other (without_lease lease hs) ≡ Some h
kept_lease other lease h hs theirs apart = kept_key (λ (x : Hold). not (x.lease == lease)) other h hs theirs (not_equal (h.lease == lease) h.lease lease refl apart)

-- one that is given back
pub left_others : (d e : pools.Pool) (key : ℕ) (g : Hold) → find_key key d.holds.items ≡ Some g → e.holds.items ≡ without_lease g.lease d.holds.items → AsideStay g.lease g.number d.service e.service → OthersHold key d e
left_others d e key g its left stay = left_where d e key g its (λ other h theirs apart off. ap (find_key other) left ∙ kept_lease other g.lease h d.holds.items theirs apart) stay

-- where there is none
pub none_others : (d e : pools.Pool) (key : ℕ) → e.holds.items ≡ d.holds.items → e.service ≡ d.service → OthersHold key d e
none_others d e key holds service = record {
  hold = λ reached other differs.
      inl (ap (λ (s : services.Service). held_with_client s (find_key other e.holds.items)) service ∙ ap (λ (hs : List Hold). held_with_client d.service (find_key other hs)) holds);
}

-- ---- One that is kept with its transaction

kept_given : (lease number own : ℕ) (s t : services.Service) → service_in t ≡ (step {T = Token} (service_in s) (calls.Keep own)).service → IsAside lease number (service_in s) → lease ≢ t.given + 1
kept_given lease number own s t is aside = above_given (service_in t) lease (aside_step lease number (service_in s) (service_in t) (calls.Keep own) tt is aside).given

-- lent again, by another lease
pub renewed_others : (d e : pools.Pool) (key : ℕ) (g x : Hold) (t : services.Service) → find_key key d.holds.items ≡ Some g → e.holds.items ≡ without_lease g.lease d.holds.items ++ x ∷ []
    → service_in t ≡ (step {T = Token} (service_in d.service) (calls.Keep g.lease)).service → KeepsClients g.lease d.service t → KeepsClients (t.given + 1) t e.service → OthersHold key d e
renewed_others d e key g x t its left is keeps again =
    left_where d e key g its
    (λ other h theirs apart off. ap (find_key other) left ∙ added_key other h x (without_lease g.lease d.holds.items) (kept_lease other g.lease h d.holds.items theirs apart))
    (λ lease client apart aside there. again lease (kept_given lease g.number g.lease d.service t is aside) ∙ keeps lease apart ∙ there)

-- or lost, where that is refused
pub unkept_others : (d e : pools.Pool) (key : ℕ) (g : Hold) (t u : services.Service) → find_key key d.holds.items ≡ Some g → e.holds.items ≡ without_number g.number d.holds.items
    → service_in t ≡ (step {T = Token} (service_in d.service) (calls.Keep g.lease)).service → KeepsClients g.lease d.service t → service_in u ≡ service_in t → KeepsClients (t.given + 1) t u → KeepsClientsOff g.number u e.service
    → OthersHold key d e
unkept_others d e key g t u its left is keeps same again cut =
    left_where d e key g its
    (λ other h theirs apart off. ap (find_key other) left ∙ kept_key (λ (x : Hold). not (x.number == g.number)) other h d.holds.items theirs (not_equal (h.number == g.number) h.number g.number refl off))
    (λ lease client apart aside there.
    called_for lease g.lease g.number d.service t e.service (calls.Keep g.lease) tt is keeps apart
    (refused_for lease (t.given + 1) g.number t u e.service same again (kept_given lease g.number g.lease d.service t is aside) (forgot_for lease g.number u e.service cut)) client aside there)

pub led_kept : (s t u : services.Service) (own : ℕ) → service_in t ≡ (step {T = Token} (service_in s) (calls.Keep own)).service → service_in u ≡ service_in t → IsLed (service_in s) → IsLed (service_in u)
led_kept s t u own is same led = subst IsLed (sym same) (led_on (service_in s) (service_in t) (calls.Keep own) is led)

-- ---- Behind what comes on a connection

-- one that another holds is another's
aside_at : (d : Pool) (key number : ℕ) (h : Hold) → Sound d → IsReached d → find_key key d.holds ≡ Some h → h.number ≢ number → IsAside h.lease number d.service
aside_at d key number h sound reached its off =
    let held : find_lease h.lease d.holds ≡ Some h = found_by_lease key 0 d.service.given h d.holds sound.rising its in
    record {
      led = led_at d reached;
      given = within_by d h (cases_lt d.service.given h.lease) sound held;
      apart = each_weaker (CaresFor d.holds) (λ (c : Seat). has_lease h.lease c ≡ true → c.number ≢ number) (λ c cared is. cared_apart d.holds h.lease number c.number h c.place c.line held off cared is) d.service.seats sound.cared;
    }

-- a packet is heard, and then something is done that leaves those aside
pub came_off : (number : ℕ) (d e : pools.Pool) (t : services.Service) (part : Part Token) → service_in t ≡ (step (service_in d.service) (calls.Came number part)).service → KeepsClientsOff number d.service t
    → AsideHeld number d.holds.items t e.service → ((key : ℕ) (h : Hold) → find_key key d.holds.items ≡ Some h → h.number ≢ number → find_key key e.holds.items ≡ Some h) → OffHold number d e
came_off number d e t part is keeps later kept = record {
  hold = λ reached key off.
      holds_on d e key (λ h client its there.
      let sound : Sound (pool_in d) = sound_at (pool_in d) reached in
      let differs : h.number ≢ number = λ same. off client (is_held d key h client its there ∙ ap (λ (n : ℕ). let x : HeldConnection = (n, client) in Some x) same) in
      let aside : IsAside h.lease number (pool_in d).service = aside_at (pool_in d) key number h sound reached its differs in
      let held : find_lease h.lease d.holds.items ≡ Some h = found_by_lease key 0 (pool_in d).service.given h d.holds.items sound.rising its in
      let behind : IsAside h.lease number (service_in t) = aside_step h.lease number (service_in d.service) (service_in t) (calls.Came number part) tt is aside in
      let first : client_of h.lease t ≡ Some client = forgot_for h.lease number d.service t keeps client aside there in
      (kept key h its differs, later h client held behind first ∙ sym there));
}

-- where it was lost, by the list of what is held
pub kept_off : (number key : ℕ) (h : Hold) (hs : List Hold) → find_key key hs ≡ Some h → h.number ≢ number → find_key key (without_number number hs) ≡ Some h
kept_off number key h hs its differs = kept_key (λ (x : Hold). not (x.number == number)) key h hs its (not_equal (h.number == number) h.number number refl differs)

pub off_same : (number : ℕ) (d e : pools.Pool) → e.holds.items ≡ d.holds.items → e.service ≡ d.service → OffHold number d e
off_same number d e holds service = record {
  hold = λ reached key off.
      inl (ap (λ (s : services.Service). held_with_client s (find_key key e.holds.items)) service ∙ ap (λ (hs : List Hold). held_with_client d.service (find_key key hs)) holds);
}

-- ---- Where a message has ended

lease_given_up : (holds : List Hold) (l : ℕ) (h : Hold) → find_lease l holds ≡ None → find_lease h.lease holds ≡ Some h → h.lease ≢ l
lease_given_up holds l h none held same =
    let u : None ≡ Some h = sym (subst (λ (k : ℕ). find_lease k holds ≡ None) (sym same) none) ∙ held in
    let v : ⊥ = cc in v

-- a cleaning's, which nobody holds
pub cleaned_held : (number l : ℕ) (holds : List Hold) (s t : services.Service) → find_lease l holds ≡ None → AsideStay l number s t → AsideHeld number holds s t
cleaned_held number l holds s t none stay = λ h client held aside there. stay h.lease client (lease_given_up holds l h none held) aside there

-- or a drained one's
pub drained_held : (number : ℕ) (holds : List Hold) (s t : services.Service) → ((but : ℕ) → AsideStay but number s t) → AsideHeld number holds s t
drained_held number holds s t stay = λ h client held aside there.
    stay (suc h.lease) h.lease client (λ same. let u : ⊥ = omega (arith, same) in u) aside there

pub held_same : (number : ℕ) (holds : List Hold) (s : services.Service) → AsideHeld number holds s s
held_same number holds s = λ h client held aside there. there

pub lost_held : (number : ℕ) (holds : List Hold) (s t : services.Service) → KeepsClientsOff number s t → AsideHeld number holds s t
lost_held number holds s t keeps = λ h client held aside there. forgot_for h.lease number s t keeps client aside there

-- Where an application holds a connection, what others do leaves it there, and so does what comes on other connections.
use Rattle.std.proofs.Common.{◌≡◌, ◌∙◌, ◌==◌, ◌≤◌, ℕ, suc, Bool, true, false, not, List, [], ◌∷◌, ◌++◌, refl, sym, ap, subst, arith, inl, inr}
use Rattle.std.specs.Prelude.{Option, Some, None, ◌⊎◌}
use Rattle.std.proofs.lemmas.Bool.{eqb-true, eq-eqb}
use Rattle.tds_wire.specs.declared.told.Token.{Token}
use Rattle.tds_service.specs.Parts.{Part}
use Rattle.tds_service.specs.Service as calls
use Rattle.tds_service.specs.Service.{Service, Call, Place, Leased, Seat, has_lease, has_number, lease_at, seat_numbered, step, service_after}
use Rattle.tds_service.specs.History.{Done}
use Rattle.tds_service.proofs.Tests.{above}
use Rattle.tds_relay.specs.declared.pool.Hold.{Hold}
use Rattle.tds_relay.specs.Pool as pool
use Rattle.tds_relay.specs.Pool.{Pool, Event, Action, Way, PoolTurn, Hearing, find_key, find_lease, without_lease, without_number, holding, moves, cleaning, cleaning_by, releasing, frees, lent_in, ticket_in, turn}
use Rattle.tds_relay.proofs.promises.Seats.{each_found, found_meets}
use Rattle.tds_relay.proofs.promises.Tidy.{Tidy, WithinAt, WithinIn, step_rises}
use Rattle.tds_relay.proofs.promises.Holding.{found_by_lease}
use Rattle.tds_relay.proofs.promises.Phases.{IsIdleAt, Other, Phase, of_one}
use Rattle.tds_relay.proofs.promises.Caring.{Sound}
use Rattle.tds_relay.proofs.promises.Bringing.{Brought, brought}
use Rattle.tds_relay.proofs.held.Lists.{theirs, places, theirs_found, theirs_kept, theirs_other, found_key, first_other, line_other, none_filtered}
use Rattle.tds_relay.proofs.held.Sparing.{Spares, SparesAll, if_all_spare, spares}
use Rattle.tds_relay.proofs.held.Sitting.{Sits}
use Rattle.tds_relay.proofs.held.Seated.{AllSit, each_key}

-- An application holds one connection, and doesn't wait.
pub record Its (d : Pool) (key : ℕ) (h : Hold) (c : Seat) : Type 0 where
  pub sole : theirs key d.holds ≡ h ∷ []
  pub there : seat_numbered h.number d.service.seats ≡ Some c
  pub lent : c.place ≡ Leased h.lease
  pub line : places key d.line ≡ []

module _ (d : Pool) (key : ℕ) (h : Hold) (c : Seat) (sound : Sound d) (its : Its d key h c) where
  pub found : find_key key d.holds ≡ Some h
  found = theirs_found key h d.holds its.sole

  pub held : find_lease h.lease d.holds ≡ Some h
  held = found_by_lease key 0 d.service.given h d.holds sound.rising found

  pub key_is : h.key ≡ key
  key_is = eqb-true h.key key (found_key key h d.holds found)

  pub number_is : c.number ≡ h.number
  number_is = eqb-true c.number h.number (found_meets (has_number h.number) c d.service.seats its.there)

  pub within : h.lease ≤ d.service.given
  within =
      let w : WithinAt d.service.given c.place = each_found (WithinIn d.service.given) (has_number h.number) c d.service.seats sound.tidy.within its.there in
      let v : WithinAt d.service.given (Leased h.lease) = subst (λ (p : Place). WithinAt d.service.given p) its.lent w in
      v

-- A lease that others have, or that is given later, is another one.
differ_by : (d : Pool) (key other : ℕ) (h x : Hold) (b : Bool) → (h.lease == x.lease) ≡ b → find_lease h.lease d.holds ≡ Some h → find_lease x.lease d.holds ≡ Some x → h.key ≡ key → (x.key == other) ≡ true
    → (other == key) ≡ false → b ≡ false
differ_by d key other h x true e held other_held k x_key ne =
    let lease : h.lease ≡ x.lease = eqb-true h.lease x.lease e in
    let found : find_lease x.lease d.holds ≡ Some h = subst (λ (l : ℕ). find_lease l d.holds ≡ Some h) lease held in
    let same : x ≡ h = cc in
    let is : x.key ≡ key = ap (λ (y : Hold). y.key) same ∙ k in
    let o : x.key ≡ other = eqb-true x.key other x_key in
    let yes : (other == key) ≡ true = eq-eqb other key (sym o ∙ is) in
    absurd (let u : true ≡ false = sym yes ∙ ne in let v : ⊥ = cc in v)
differ_by d key other h x false e held other_held k x_key ne = refl

later : (lease given : ℕ) → lease ≤ given → (lease == suc given) ≡ false
later lease given le = above lease (suc given) (omega arith)

cleaning_spares : (lease n number other : ℕ) (way : Way) → (lease == other) ≡ false → (n == number) ≡ false → SparesAll lease n (cleaning_by number other way)
cleaning_spares lease n number other (pool.Sent put finish) e ne = (tt, (e, (e, (e, tt))))
cleaning_spares lease n number other pool.NotLent e ne = (ne, tt)
cleaning_spares lease n number other pool.NotAsked e ne = (tt, (ne, tt))
cleaning_spares lease n number other pool.NotPut e ne = (tt, (e, (ne, tt)))
cleaning_spares lease n number other (pool.NotEnded put) e ne = (tt, (e, (e, (ne, tt))))

releasing_spares : (s : Service) (lease n other number : ℕ) (gives : Bool) (way : Way) → Tidy s → lease ≤ s.given → (lease == other) ≡ false → (n == number) ≡ false → SparesAll lease n (releasing s other number gives way)
releasing_spares s lease n other number false way tidy le e ne = (ne, tt)
releasing_spares s lease n other number true way tidy le e ne =
    let given = step {T = Token} s (calls.GiveBack other) in
    let rises : s.given ≤ given.service.given = (step_rises s (calls.GiveBack other) tidy).rises in (
      e,
      if_all_spare lease n (frees given.reply) (cleaning given.service number way) [] (cleaning_spares lease n number (suc given.service.given) way (later lease given.service.given (omega arith)) ne) tt,
    )

-- What a turn by others leaves.
pub record Passes (d : Pool) (key n : ℕ) (h : Hold) (t : PoolTurn) : Type 0 where
  pub service : t.pool.service ≡ service_after d.service t.calls
  pub spares : SparesAll h.lease n t.calls
  pub sole : theirs key t.pool.holds ≡ h ∷ []
  pub line : places key t.pool.line ≡ []

-- An event that isn't the application's, nor comes on its connection.
abbrev pub IsOthers : ℕ → ℕ → Event → Type 0
IsOthers key n (pool.Waits other) = (other == key) ≡ false
IsOthers key n (pool.Unwaits other) = Unit {0}
IsOthers key n pool.Serves = Unit {0}
IsOthers key n (pool.Brings gives way) = Unit {0}
IsOthers key n (pool.Does other action) = (other == key) ≡ false
IsOthers key n (pool.Leaves other gives way) = (other == key) ≡ false
IsOthers key n (pool.Renews other resumes) = (other == key) ≡ false
IsOthers key n (pool.Comes number part way) = (n == number) ≡ false
IsOthers key n (pool.Loses number) = (n == number) ≡ false

unequal : (b : Bool) → b ≡ false → not b ≡ true
unequal true e = absurd (let u : ⊥ = cc in u)
unequal false e = refl

-- the connection that is brought is another
brought_by : (d : Pool) (h : Hold) (c : Seat) (b : Brought d) (t : Bool) → (h.number == b.number) ≡ t → c.number ≡ h.number → c.place ≡ Leased h.lease → h.lease ≤ d.service.given
    → seat_numbered h.number (step {T = Token} d.service calls.Lease).service.seats ≡ Some c → t ≡ false
brought_by d h c b true e number lent le there =
    let X : Seat → Type 0 = IsIdleAt (Leased (suc d.service.given)) in
    let O : Seat → Type 0 = Other d.holds (suc d.service.given) in
    let here : Phase b.number X O c = each_found (Phase b.number X O) (has_number h.number) c (step {T = Token} d.service calls.Lease).service.seats b.phase there in
    let one : (c.number == b.number) ≡ true = subst (λ (k : ℕ). (k == b.number) ≡ true) (sym number) e in
    let idle : IsIdleAt (Leased (suc d.service.given)) c = of_one (c.number == b.number) (X c) (O c) one here in
    let same : Leased h.lease ≡ Leased (suc d.service.given) = sym lent ∙ idle.is_at in
    let lease : h.lease ≡ suc d.service.given = cc in
    absurd (let u : ⊥ = omega (arith, lease, le) in u)
brought_by d h c b false e number lent le there = refl

module _ (d : Pool) (key : ℕ) (h : Hold) (c : Seat) (sound : Sound d) (sit : AllSit d) (its : Its d key h c) where
  abbrev P : PoolTurn → Type 0
  P t = Passes d key h.number h t

  rests_pass : (waiting : List ℕ) → places key waiting ≡ [] → P (moves d d.holds waiting [])
  rests_pass waiting e = record { service = refl; spares = tt; sole = its.sole; line = e }

  differs : (other : ℕ) (x : Hold) → find_key other d.holds ≡ Some x → (other == key) ≡ false → (h.lease == x.lease) ≡ false
  differs other x e ne =
      let b : (h.lease == x.lease) ≡ false = differ_by d key other h x (h.lease == x.lease) refl (held d key h c sound its) (found_by_lease other 0 d.service.given x d.holds sound.rising e)
      (key_is d key h c sound its) (found_key other x d.holds e) ne in
      b

  rises : (call : Call Token) → h.lease ≤ (step {T = Token} d.service call).service.given
  rises call =
      let r : d.service.given ≤ (step {T = Token} d.service call).service.given = (step_rises d.service call sound.tidy).rises in
      let w : h.lease ≤ d.service.given = within d key h c sound its in
      omega arith

  number_by : (other : ℕ) (x : Hold) (b : Bool) → (h.number == x.number) ≡ b → find_key other d.holds ≡ Some x → (h.lease == x.lease) ≡ false → b ≡ false
  number_by other x true e found ne =
      let number : h.number ≡ x.number = eqb-true h.number x.number e in
      let sits : Sits d.service x = each_key (λ (y : Hold). Sits d.service y) other x d.holds sit found in
      let at : c.place ≡ Leased x.lease = sits.lent c (subst (λ (k : ℕ). seat_numbered k d.service.seats ≡ Some c) number its.there) in
      let same : Leased h.lease ≡ Leased x.lease = sym its.lent ∙ at in
      let lease : h.lease ≡ x.lease = cc in
      let u : true ≡ false = sym (eq-eqb h.lease x.lease lease) ∙ ne in
      absurd (let v : ⊥ = cc in v)
  number_by other x false e found ne = refl

  numbers_differ : (other : ℕ) (x : Hold) → find_key other d.holds ≡ Some x → (h.lease == x.lease) ≡ false → (h.number == x.number) ≡ false
  numbers_differ other x found ne = let b : (h.number == x.number) ≡ false = number_by other x (h.number == x.number) refl found ne in b

  serves_by_pass : (k : ℕ) (others : List ℕ) (o : Option pool.Loan) → (k == key) ≡ false → places key others ≡ [] → P (pool.serves_by d k others o)
  serves_by_pass k others None ne e = rests_pass d.line its.line
  serves_by_pass k others (Some loan) ne e = record {
    service = refl;
    spares = (tt, tt);
    sole = theirs_other key (holding k loan.lease loan.number) d.holds (h ∷ []) its.sole ne;
    line = e;
  }

  serves_pass : (waiting : List ℕ) → places key waiting ≡ [] → P (pool.serves d waiting)
  serves_pass [] e = rests_pass d.line its.line
  serves_pass (k ∷ others) e =
      let f = first_other key k others e in
      serves_by_pass k others (lent_in (step {T = Token} d.service calls.Lease).reply) f.0 f.1

  brings_pass : (gives : Bool) (way : Way) → (lent_in (step {T = Token} d.service calls.Lease).reply ≡ None) ⊎ Brought d → P (pool.brings d gives way)
  brings_pass gives way (inl none) =
      let s = (step {T = Token} d.service calls.Lease).service in
      subst (λ (o : Option pool.Loan). P (pool.brings_by d s gives way o)) (sym none) (rests_pass d.line its.line)
  brings_pass gives way (inr b) =
      let s = (step {T = Token} d.service calls.Lease).service in
      let all : List (Call Token) = releasing s (suc d.service.given) b.number gives way in
      let c_is : c.number ≡ h.number = number_is d key h c sound its in
      let here : seat_numbered c.number d.service.seats ≡ Some c = subst (λ (k : ℕ). seat_numbered k d.service.seats ≡ Some c) (sym c_is) its.there in
      let behind : seat_numbered c.number s.seats ≡ Some c = (spares d.service c h.lease its.lent sound.tidy.distinct here calls.Lease tt).stays in
      let there : seat_numbered h.number s.seats ≡ Some c = subst (λ (k : ℕ). seat_numbered k s.seats ≡ Some c) c_is behind in
      let apart : (h.number == b.number) ≡ false = (let t : (h.number == b.number) ≡ false = brought_by d h c b (h.number == b.number) refl c_is its.lent (within d key h c sound its) there in t) in
      let t : P (moves d d.holds d.line (calls.Lease ∷ all)) = record {
        service = refl;
        spares = (
          tt,
          releasing_spares s h.lease h.number (suc d.service.given) b.number gives way (step_rises d.service calls.Lease sound.tidy).tidy (rises calls.Lease)
              (later h.lease d.service.given (within d key h c sound its)) apart,
        );
        sole = its.sole;
        line = its.line;
      } in
      subst (λ (o : Option pool.Loan). P (pool.brings_by d s gives way o)) (sym b.lent) t

  action_spares : (other : ℕ) (action : Action) → (h.lease == other) ≡ false → Spares h.lease h.number (pool.call_of other action)
  action_spares other pool.Asks e = e
  action_spares other (pool.Puts count) e = e
  action_spares other (pool.Ends count) e = e
  action_spares other pool.Stops e = e

  does_pass : (other : ℕ) (action : Action) (o : Option Hold) → find_key other d.holds ≡ o → (other == key) ≡ false → P (pool.holder_does d action o)
  does_pass other action None e ne = rests_pass d.line its.line
  does_pass other action (Some x) e ne = record { service = refl; spares = (action_spares x.lease action (differs other x e ne), tt); sole = its.sole; line = its.line }

  without_its : (x : Hold) → (h.lease == x.lease) ≡ false → theirs key (without_lease x.lease d.holds) ≡ h ∷ []
  without_its x e = theirs_kept key h (λ (y : Hold). not (y.lease == x.lease)) d.holds its.sole (unequal (h.lease == x.lease) e)

  leaves_pass : (other : ℕ) (gives : Bool) (way : Way) (o : Option Hold) → find_key other d.holds ≡ o → (other == key) ≡ false → P (pool.leaves d other gives way o)
  leaves_pass other gives way None e ne = rests_pass (pool.without other d.line) (none_filtered key (λ (k : ℕ). not (k == other)) d.line its.line)
  leaves_pass other gives way (Some x) e ne = record {
    service = refl;
    spares = releasing_spares d.service h.lease h.number x.lease x.number gives way sound.tidy (within d key h c sound its) (differs other x e ne) (numbers_differ other x e (differs other x e ne));
    sole = without_its x (differs other x e ne);
    line = none_filtered key (λ (k : ℕ). not (k == other)) d.line its.line;
  }

  -- without another number
  without_others : (m : ℕ) → (h.number == m) ≡ false → theirs key (without_number m d.holds) ≡ h ∷ []
  without_others m e = theirs_kept key h (λ (y : Hold). not (y.number == m)) d.holds its.sole (unequal (h.number == m) e)

  closed_pass : (other : ℕ) (x : Hold) → find_key other d.holds ≡ Some x → (other == key) ≡ false → P (moves d (without_number x.number d.holds) d.line (calls.Keep x.lease ∷ calls.Lost x.number ∷ []))
  closed_pass other x found apart =
      let e = differs other x found apart in
      let ne = numbers_differ other x found e in
      record { service = refl; spares = (e, (ne, tt)); sole = without_others x.number ne; line = its.line }

  renews_by_pass : (other : ℕ) (x : Hold) (ticket : ℕ) (o : Option pool.Loan) (resumes : Bool) → find_key other d.holds ≡ Some x → (other == key) ≡ false → P (pool.renews_by d x ticket o resumes)
  renews_by_pass other x ticket o false e ne = closed_pass other x e ne
  renews_by_pass other x ticket None true e ne = closed_pass other x e ne
  renews_by_pass other x ticket (Some loan) true e ne =
      let is : x.key ≡ other = eqb-true x.key other (found_key other x d.holds e) in
      let no : (x.key == key) ≡ false = subst (λ (k : ℕ). (k == key) ≡ false) (sym is) ne in
      record {
        service = refl;
        spares = (differs other x e ne, (tt, tt));
        sole = theirs_other key (holding x.key loan.lease loan.number) (without_lease x.lease d.holds) (h ∷ []) (without_its x (differs other x e ne)) no;
        line = its.line;
      }

  keeps_by_pass : (other : ℕ) (x : Hold) (resumes : Bool) (s : Service) (o : Option ℕ) → find_key other d.holds ≡ Some x → (other == key) ≡ false → P (pool.keeps_by d x resumes s o)
  keeps_by_pass other x resumes s None e ne = rests_pass d.line its.line
  keeps_by_pass other x resumes s (Some ticket) e ne = renews_by_pass other x ticket (lent_in (step {T = Token} s (calls.Resume ticket)).reply) resumes e ne

  renews_pass : (other : ℕ) (resumes : Bool) (o : Option Hold) → find_key other d.holds ≡ o → (other == key) ≡ false → P (pool.renews d resumes o)
  renews_pass other resumes None e ne = rests_pass d.line its.line
  renews_pass other resumes (Some x) e ne =
      let kept = step {T = Token} d.service (calls.Keep x.lease) in
      keeps_by_pass other x resumes kept.service (ticket_in kept.reply) e ne

  -- what settles there
  unleased_by : (l : ℕ) (b : Bool) → (h.lease == l) ≡ b → find_lease l d.holds ≡ None → b ≡ false
  unleased_by l true e none =
      let lease : h.lease ≡ l = eqb-true h.lease l e in
      let found : find_lease l d.holds ≡ Some h = subst (λ (k : ℕ). find_lease k d.holds ≡ Some h) lease (held d key h c sound its) in
      absurd (let u : None ≡ Some h = sym none ∙ found in let v : ⊥ = cc in v)
  unleased_by l false e none = refl

  settles_of_spares : (s : Service) (m l : ℕ) (way : Way) (o : Option Hold) → (h.number == m) ≡ false → find_lease l d.holds ≡ o → SparesAll h.lease h.number (pool.settles_of s m l way o)
  settles_of_spares s m l way (Some x) nm e = tt
  settles_of_spares s m l way None nm e =
      let ne : (h.lease == l) ≡ false = (let b : (h.lease == l) ≡ false = unleased_by l (h.lease == l) refl e in b) in
      let b = frees (step {T = Token} s (calls.Cleaned l)).reply in
      (ne, if_all_spare h.lease h.number b [] (calls.Lost m ∷ []) tt (nm, tt))

  settles_spares : (s : Service) (m : ℕ) (way : Way) (o : Option ℕ) → (h.number == m) ≡ false → h.lease ≤ s.given → SparesAll h.lease h.number (pool.settles d.holds s m way o)
  settles_spares s m way (Some l) nm le = settles_of_spares s m l way (find_lease l d.holds) nm refl
  settles_spares s m way None nm le = cleaning_spares h.lease h.number m (suc s.given) way (later h.lease s.given le) nm

  comes_by_pass : (m : ℕ) (part : Part Token) (s : Service) (way : Way) (o : Option ℕ) (dones : List (Done Token)) (hearing : Hearing) → (h.number == m) ≡ false → h.lease ≤ s.given
      → P (pool.with_broken m dones (pool.comes_by d (calls.Came m part) s m way o hearing))
  comes_by_pass m part s way o dones pool.Goes e le = record { service = refl; spares = (e, tt); sole = its.sole; line = its.line }
  comes_by_pass m part s way o dones pool.Settled e le = record { service = refl; spares = (e, settles_spares s m way o e le); sole = its.sole; line = its.line }
  comes_by_pass m part s way o dones pool.Wrong e le = record { service = refl; spares = (e, (e, tt)); sole = without_others m e; line = its.line }

  pub passes : (event : Event) → IsOthers key h.number event → P (turn d event)
  passes (pool.Waits other) e = rests_pass (d.line ++ other ∷ []) (line_other key other d.line e ∙ its.line)
  passes (pool.Unwaits other) e = rests_pass (pool.without other d.line) (none_filtered key (λ (k : ℕ). not (k == other)) d.line its.line)
  passes pool.Serves e = serves_pass d.line its.line
  passes (pool.Brings gives way) e = brings_pass gives way (brought d sound)
  passes (pool.Does other action) e = does_pass other action (find_key other d.holds) refl e
  passes (pool.Leaves other gives way) e = leaves_pass other gives way (find_key other d.holds) refl e
  passes (pool.Renews other resumes) e = renews_pass other resumes (find_key other d.holds) refl e
  passes (pool.Comes m part way) e =
      let heard = step {T = Token} d.service (calls.Came m part) in
      comes_by_pass m part heard.service way (lease_at (seat_numbered m d.service.seats)) heard.dones (pool.hearing heard.dones) e (rises (calls.Came m part))
  passes (pool.Loses m) e = record { service = refl; spares = (e, tt); sole = without_others m e; line = its.line }

-- All moments together, where an application is parked in some of them.
use Rattle.std.proofs.Common.{◌≡◌, ◌∙◌, ◌==◌, ℕ, Bool, true, false, List, [], ◌∷◌, ◌++◌, length, refl, sym, ap, subst, inl, inr}
use Rattle.std.specs.Prelude.{Option, Some, if◌then◌else◌}
use Rattle.std.proofs.lemmas.Bool.{eq-eqb}
use Rattle.tds_packet.specs.declared.status.Reset.TheVariants.{Full}
use Rattle.tds_wire.specs.declared.told.Token.{Token}
use Rattle.tds_service.specs.Parts.{Item}
use Rattle.tds_service.specs.Line as line
use Rattle.tds_service.specs.Line.{LineStage}
use Rattle.tds_service.specs.Service.{Seat, seat_numbered}
use Rattle.laws_conforming_server.specs.Lawful.{Session}
use Rattle.tds_relay.specs.declared.pool.Hold.{Hold}
use Rattle.tds_relay.specs.Law.{IsAway}
use Rattle.tds_relay.specs.Pool.{Sharing, find_key, turn}
use Rattle.tds_relay.proofs.held.Lists.{none_theirs, theirs_found}
use Rattle.tds_relay.proofs.held.Seated.{AllSit, turn_sits}
use Rattle.tds_relay.proofs.promises.Bringing.{turn_sound}
use Rattle.tds_relay.proofs.promises.Caring.{Sound}
use Rattle.laws_as_if_alone.specs.Alone.{AllOrderly, asks_at, count_behind, ends_at, ends_by, given, given_in, line_at, underway}
use Rattle.laws_as_if_alone.specs.Serving.{ServerAsk, Resets, ServerEnd, Moment, Server, World, answers_alone, fresh, happens, reached, world_after}
use Rattle.laws_as_if_alone.specs.Turns.{AllParkedFresh, AsIfUnparked, IsParkedFresh, asks_but, asks_in}
use Rattle.laws_as_if_alone.proofs.Own.{Follows, Stands, StandsAt}
use Rattle.laws_as_if_alone.proofs.Story.{Next, Story, underway_held, underway_none}
use Rattle.laws_as_if_alone.proofs.Told.{Goes, joined, one_moment, reached_holds, then_more}

-- ---- In which session it is parked

module _ {V : Type 0} (server : Server V) (key : ℕ) (s : Session V) (w : World V) (m : Moment V) (p : IsParkedFresh key server w m) where
  its_hold : find_key key w.pool.holds ≡ Some p.hold
  its_hold = theirs_found key p.hold w.pool.holds p.rests.holds

  by_stage : (c : Seat) (e : ServerEnd V) → c.line.stage ≡ line.Idle → StandsAt server s c.line.stage c.line.heard.mark e → StandsAt server s line.Idle c.line.heard.mark e
  by_stage c e idle stands = subst (λ (x : LineStage). StandsAt server s x c.line.heard.mark e) idle stands

  in_session : Story server key s w → s ≡ fresh server
  in_session (inl k) =
      let hold : k.hold ≡ p.hold = (let u : k.hold ∷ [] ≡ p.hold ∷ [] = sym k.its.sole ∙ p.rests.holds in cc) in
      let there : Some k.seat ≡ Some p.seat = sym k.its.there ∙ ap (λ (h : Hold). seat_numbered h.number w.pool.service.seats) hold ∙ p.rests.there in
      let seat : k.seat ≡ p.seat = cc in
      let one : Stands server s k.seat.line (w.ends p.hold.number) = subst (λ (h : Hold). Stands server s k.seat.line (w.ends h.number)) hold k.stands in
      let two : Stands server s p.seat.line (w.ends p.hold.number) = subst (λ (c : Seat). Stands server s c.line (w.ends p.hold.number)) seat one in
      sym (by_stage p.seat (w.ends p.hold.number) p.rests.idle two) ∙ p.session
  in_session (inr x) = absurd (let u : [] ≡ p.hold ∷ [] = sym x.none ∙ p.rests.holds in let v : ⊥ = cc in v)

  nothing : underway key w ≡ []
  nothing = underway_held key w p.hold p.seat line.Idle its_hold p.rests.there p.rests.idle

  asks_reset : (count : ℕ) → asks_at key server w m count m.event ≡ Resets Full ∷ []
  asks_reset count =
      let at : asks_at key server w m count m.event ≡ (if key == key then ends_by w.pool count (find_key key w.pool.holds) else []) = ap (asks_at key server w m count) p.leaves in
      let own : (if key == key then ends_by {V = V} w.pool count (find_key key w.pool.holds) else []) ≡ ends_by w.pool count (find_key key w.pool.holds) =
      ap (λ (b : Bool). if b then ends_by {V = V} w.pool count (find_key key w.pool.holds) else []) (eq-eqb key key refl) in
      let held : ends_by {V = V} w.pool count (find_key key w.pool.holds) ≡ ends_at count (line_at (seat_numbered p.hold.number w.pool.service.seats)).stage = ap (ends_by w.pool count) its_hold in
      let seated : ends_at {V = V} count (line_at (seat_numbered p.hold.number w.pool.service.seats)).stage ≡ ends_at count p.seat.line.stage = ap (λ (o : Option Seat). ends_at count (line_at o).stage) p.rests.there in
      at ∙ own ∙ held ∙ seated ∙ ap (ends_at count) p.rests.idle

  -- so nothing is asked by it
  parked : (count : ℕ) (next : Session V) (items behind : List (Item Token)) → Story server key s w → Follows server count s (underway key w) (asks_at key server w m count m.event) items next behind
      → Follows server count s (underway key w) [] items next behind
  parked count next items behind story follows =
      let f : Follows server count s (underway key w) (Resets Full ∷ []) items next behind = subst (λ (xs : List (ServerAsk V)). Follows server count s (underway key w) xs items next behind) (asks_reset count) follows in
      let none : items ++ behind ≡ [] = ap (λ (xs : List (Item Token)). xs ++ behind) f.0 ∙ f.1.2 in
      (f.1.1 ∙ sym (in_session story), nothing ∙ sym none)

-- ---- All of them

asked_so : {V : Type 0} (server : Server V) (key count : ℕ) (s : Session V) (w : World V) (m : Moment V) (parks : Moment V → Bool) (b : Bool) → parks m ≡ b → Story server key s w → (parks m ≡ true → IsParkedFresh key server w m)
    → (n : Next server key count s w m) → Follows server count s (underway key w) (if b then [] else asks_at key server w m count m.event) (given_in key w.pool m.event) n.next (underway key (happens turn server w m))
asked_so server key count s w m parks true e story fresh n = parked server key s w m (fresh e) count n.next (given_in key w.pool m.event) (underway key (happens turn server w m)) story n.follows
asked_so server key count s w m parks false e story fresh n = n.follows

told : {V : Type 0} (server : Server V) (key count : ℕ) (parks : Moment V → Bool) (s : Session V) (w : World V) (ms : List (Moment V)) (said : List (Item Token)) → length said ≡ count → Story server key s w → Sound w.pool
    → AllSit w.pool → AllOrderly turn key server w ms → AllParkedFresh parks turn key server w ms
    → Goes server said (underway key w) s (asks_but parks turn key server count w ms) (given turn key server w ms ++ underway key (world_after turn server w ms))
told server key count parks s w [] said is story sound sit orderly fresh = refl
told {V} server key count parks s w (m ∷ ms) said is story sound sit orderly fresh =
    let n = one_moment server key count s w m story sound sit orderly.0 in
    let w2 = happens turn server w m in
    let now = asks_in parks key server w m count in
    let items = given_in key w.pool m.event in
    let count2 = count_behind count now items in
    let behind = given turn key server w2 ms ++ underway key (world_after turn server w2 ms) in
    then_more server count s n.next said (underway key w) items (underway key w2) behind now (asks_but parks turn key server count2 w2 ms) is
    (asked_so server key count s w m parks (parks m) refl story fresh.0 n)
    (λ more size. told server key count2 parks n.next w2 ms more size n.story (turn_sound w.pool m.event sound) (turn_sits w.pool sound sit m.event) orderly.1 fresh.1)
    ∙ ap (λ (x : List (Item Token)). said ++ x) (sym (joined items (given turn key server w2 ms) (underway key (world_after turn server w2 ms))))

pub alone_by_turns : {V : Type 0} (server : Server V) (sharing : Sharing) (key : ℕ) (parks : Moment V → Bool) (before moments : List (Moment V)) → IsAway key (reached server sharing before).pool
    → AllOrderly turn key server (reached server sharing before) moments → AllParkedFresh parks turn key server (reached server sharing before) moments
    → AsIfUnparked parks turn key server (fresh server) (reached server sharing before) moments (world_after turn server (reached server sharing before) moments)
alone_by_turns {V} server sharing key parks before moments away uncut all =
    let w = reached server sharing before in
    let none = none_theirs key w.pool.holds away.holds in
    let story : Story server key (fresh server) w = inr (record { none = none; session = refl; once = inl away.waits }) in
    let holds = reached_holds server sharing before in
    let so = told server key 0 parks (fresh server) w moments [] refl story holds.0 holds.1 uncut all in
    sym so ∙ ap (λ (x : List (Item Token)). answers_alone server x (fresh server) (asks_but parks turn key server 0 w moments)) (underway_none key w none)

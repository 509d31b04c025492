-- All moments together: what an application is given, and what is underway to it, is what it's answered alone.
use Rattle.std.proofs.Common.{◌≡◌, ◌∙◌, ◌==◌, ◌+◌, ℕ, Bool, true, false, List, [], ◌∷◌, ◌++◌, length, take, refl, sym, ap, subst, inl, inr}
use Rattle.std.specs.Prelude.{Some, None}
use Rattle.std.proofs.lemmas.Bool.{eqb-true}
use Rattle.std.proofs.lemmas.List.{length-append}
use Rattle.std.proofs.Math.Seq.{take-append_seam}
use Rattle.tds_wire.specs.declared.told.Token.{Token}
use Rattle.tds_service.specs.Parts.{Item, Part}
use Rattle.tds_service.specs.Line as line
use Rattle.tds_service.specs.Line.{LineStage}
use Rattle.tds_service.specs.Service.{Seat}
use Rattle.laws_conforming_server.specs.Lawful.{Session, reset_by}
use Rattle.tds_relay.specs.declared.pool.Hold.{Hold}
use Rattle.tds_relay.specs.Law.{IsAway}
use Rattle.tds_relay.specs.Pool as pool
use Rattle.tds_relay.specs.Pool.{Event, Sharing, find_key, new_pool, turn}
use Rattle.tds_relay.specs.Promises.{comes_to_wait}
use Rattle.tds_relay.proofs.promises.Caring.{Sound}
use Rattle.tds_relay.proofs.promises.Bringing.{always_sound, turn_sound}
use Rattle.laws_as_if_alone.specs.Serving.{ServerAsk, Runs, Resets, Stops, Finds, Ends, Moment, Server, World, answers_alone, but_news, fresh, happens, new_world, reached, world_after}
use Rattle.laws_as_if_alone.specs.Alone.{AllOrderly, AsIfAlone, IsAtRest, IsOrderly, all_asks, asks_at, count_behind, found_next, given, given_in, underway}
use Rattle.tds_relay.proofs.held.Lists.{none_theirs}
use Rattle.tds_relay.proofs.held.Seated.{AllSit, turn_sits}
use Rattle.tds_relay.proofs.held.Others.{IsOthers, Its, found}
use Rattle.laws_as_if_alone.proofs.Own.{Answers, Follows, Stands, StandsAt}
use Rattle.laws_as_if_alone.proofs.Story.{Holding, Next, Story, others_next, underway_held, underway_none}
use Rattle.laws_as_if_alone.proofs.Held.{comes_next, does_next, leaves_next, loses_next}
use Rattle.laws_as_if_alone.proofs.Renewed.{renews_next}
use Rattle.laws_as_if_alone.proofs.Away.{away_next}

-- ---- One moment

module _ {V : Type 0} (server : Server V) (key count : ℕ) (s : Session V) (w : World V) (m : Moment V) (k : Holding server key s w) (sound : Sound w.pool) (sit : AllSit w.pool) (orderly : IsOrderly key w m) where
  of_others : (event : Event) → m.event ≡ event → IsOthers key k.hold.number event → Next server key count s w m
  of_others event is h = others_next server key count s w m k sound sit (subst (λ (x : Event). IsOthers key k.hold.number x) (sym is) h)

  waits_by : (other : ℕ) (b : Bool) → (other == key) ≡ b → m.event ≡ pool.Waits other → Next server key count s w m
  waits_by other true e is =
      let same : other ≡ key = eqb-true other key e in
      let away : IsAway key w.pool = orderly.waits (ap comes_to_wait is ∙ ap (λ (x : ℕ). x ∷ []) same) in
      let here : find_key key w.pool.holds ≡ Some k.hold = found w.pool key k.hold k.seat sound k.its in
      absurd (let u : None ≡ Some k.hold = sym away.holds ∙ here in let v : ⊥ = cc in v)
  waits_by other false e is = of_others (pool.Waits other) is e

  does_by : (other : ℕ) (action : pool.Action) (b : Bool) → (other == key) ≡ b → m.event ≡ pool.Does other action → Next server key count s w m
  does_by other action true e is = does_next server key count s w action m k (is ∙ ap (λ (x : ℕ). pool.Does x action) (eqb-true other key e)) sound
  does_by other action false e is = of_others (pool.Does other action) is e

  leaves_by : (other : ℕ) (gives : Bool) (way : pool.Way) (b : Bool) → (other == key) ≡ b → m.event ≡ pool.Leaves other gives way → Next server key count s w m
  leaves_by other gives way true e is = leaves_next server key count s w gives way m k (is ∙ ap (λ (x : ℕ). pool.Leaves x gives way) (eqb-true other key e)) sound
  leaves_by other gives way false e is = of_others (pool.Leaves other gives way) is e

  renews_by : (other : ℕ) (resumes : Bool) (b : Bool) → (other == key) ≡ b → m.event ≡ pool.Renews other resumes → Next server key count s w m
  renews_by other resumes true e is = renews_next server key count s w resumes m k (is ∙ ap (λ (x : ℕ). pool.Renews x resumes) (eqb-true other key e)) sound
  renews_by other resumes false e is = of_others (pool.Renews other resumes) is e

  comes_by : (number : ℕ) (part : Part Token) (way : pool.Way) (b : Bool) → (k.hold.number == number) ≡ b → m.event ≡ pool.Comes number part way → Next server key count s w m
  comes_by number part way true e is =
      comes_next server key count s w part way m k (is ∙ ap (λ (x : ℕ). pool.Comes x part way) (sym (eqb-true k.hold.number number e))) sound orderly
  comes_by number part way false e is = of_others (pool.Comes number part way) is e

  loses_by : (number : ℕ) (b : Bool) → (k.hold.number == number) ≡ b → m.event ≡ pool.Loses number → Next server key count s w m
  loses_by number true e is = loses_next server key count s w m k (is ∙ ap (λ (x : ℕ). pool.Loses x) (sym (eqb-true k.hold.number number e))) sound
  loses_by number false e is = of_others (pool.Loses number) is e

  held_by : (event : Event) → m.event ≡ event → Next server key count s w m
  held_by (pool.Waits other) is = waits_by other (other == key) refl is
  held_by (pool.Unwaits other) is = of_others (pool.Unwaits other) is tt
  held_by pool.Serves is = of_others pool.Serves is tt
  held_by (pool.Brings gives way) is = of_others (pool.Brings gives way) is tt
  held_by (pool.Does other action) is = does_by other action (other == key) refl is
  held_by (pool.Leaves other gives way) is = leaves_by other gives way (other == key) refl is
  held_by (pool.Renews other resumes) is = renews_by other resumes (other == key) refl is
  held_by (pool.Comes number part way) is = comes_by number part way (k.hold.number == number) refl is
  held_by (pool.Loses number) is = loses_by number (k.hold.number == number) refl is

  held_next : Next server key count s w m
  held_next = held_by m.event refl

pub one_moment : {V : Type 0} (server : Server V) (key count : ℕ) (s : Session V) (w : World V) (m : Moment V) → Story server key s w → Sound w.pool → AllSit w.pool → IsOrderly key w m → Next server key count s w m
one_moment server key count s w m (inl k) sound sit orderly = held_next server key count s w m k sound sit orderly
one_moment server key count s w m (inr x) sound sit orderly = away_next server key count s w m x sound orderly

-- ---- All of them

pub joined : (xs ys zs : List (Item Token)) → (xs ++ ys) ++ zs ≡ xs ++ (ys ++ zs)
joined [] ys zs = refl
joined (x ∷ xs) ys zs = ap (λ (ws : List (Item Token)). x ∷ ws) (joined xs ys zs)

no_more : (xs : List (Item Token)) → xs ++ [] ≡ xs
no_more [] = refl
no_more (x ∷ xs) = ap (λ (ws : List (Item Token)). x ∷ ws) (no_more xs)

-- What was given since the last request, and what is given and underway from here on.
abbrev pub Goes : {V : Type 0} → Server V → List (Item Token) → List (Item Token) → Session V → List (ServerAsk V) → List (Item Token) → Type 0
Goes server said before s asked behind = answers_alone server (said ++ before) s asked ≡ said ++ behind

-- an answer that is over
over : {V : Type 0} (server : Server V) (answer said began before : List (Item Token)) (s next : Session V) (asked : List (ServerAsk V)) (items behind : List (Item Token)) → answer ≡ said → before ≡ began → next ≡ s → items ≡ []
    → Goes server [] before next asked behind → answer ++ answers_alone server began s asked ≡ said ++ (items ++ behind)
over {V} server answer said began before s next asked items behind a b n i more =
    let more2 : answers_alone server began s asked ≡ behind =
    ap (λ (x : Session V). answers_alone server began x asked) (sym n) ∙ ap (λ (x : List (Item Token)). answers_alone server x next asked) (sym b) ∙ more in
    ap (λ (x : List (Item Token)). x ++ answers_alone server began s asked) a ∙ ap (λ (x : List (Item Token)). said ++ x) more2
    ∙ ap (λ (x : List (Item Token)). said ++ (x ++ behind)) (sym i)

asks_one : {V : Type 0} (server : Server V) (count : ℕ) (s next : Session V) (said before items began behind : List (Item Token)) (ask : ServerAsk V) (asked : List (ServerAsk V)) → length said ≡ count → items ≡ []
    → Answers server count s before ask next began → Goes server [] began next asked behind → Goes server said before s (ask ∷ asked) (items ++ behind)
asks_one {V} server count s next said before items began behind (Runs request) asked is i h more =
    over server (said ++ before) said (but_news (request s).items) began (request s).after next asked items behind (ap (λ (x : List (Item Token)). said ++ x) h.0 ∙ no_more said) h.2 h.1 i more
asks_one {V} server count s next said before items began behind (Resets reset) asked is i h more =
    over server (said ++ before) said [] began (reset_by server.settings reset s) next asked items behind (ap (λ (x : List (Item Token)). said ++ x) h.0 ∙ no_more said) h.2 h.1 i more
asks_one {V} server count s next said before items began behind (Stops number) asked is i h more =
    over server (take number (said ++ before)) said [] began s next asked items behind
    (ap (λ (x : ℕ). take x (said ++ before)) (h.0 ∙ sym is) ∙ take-append_seam said before) h.2 h.1 i more
asks_one {V} server count s next said before items began behind (Finds session) asked is i h more =
    over server (said ++ before) said [] began session next asked items behind (ap (λ (x : List (Item Token)). said ++ x) h.0 ∙ no_more said) h.2 h.1 i more
asks_one {V} server count s next said before items began behind (Ends number) asked is i h more =
    over server (take number (said ++ before)) said [] began (fresh server) next asked items behind
    (ap (λ (x : ℕ). take x (said ++ before)) (h.0 ∙ sym is) ∙ take-append_seam said before) h.2 h.1 i more

-- One moment, and then the others.
pub then_more : {V : Type 0} (server : Server V) (count : ℕ) (s next : Session V) (said before items began behind : List (Item Token)) (now asked : List (ServerAsk V)) → length said ≡ count
    → Follows server count s before now items next began
    → ((more : List (Item Token)) → length more ≡ count_behind count now items → Goes server more began next asked behind) → Goes server said before s (now ++ asked) (items ++ behind)
then_more {V} server count s next said before items began behind [] asked is h more =
    let size : length (said ++ items) ≡ count + length items = length-append said items ∙ ap (λ (x : ℕ). x + length items) is in
    let on = more (said ++ items) size in
    ap (λ (x : List (Item Token)). answers_alone server (said ++ x) s asked) h.1 ∙ ap (λ (x : List (Item Token)). answers_alone server x s asked) (sym (joined said items began))
    ∙ ap (λ (x : Session V). answers_alone server ((said ++ items) ++ began) x asked) (sym h.0) ∙ on ∙ joined said items behind
then_more {V} server count s next said before items began behind (ask ∷ []) asked is h more =
    asks_one server count s next said before items began behind ask asked is h.0 h.1 (more [] refl)
then_more {V} server count s next said before items began behind (ask ∷ another ∷ now) asked is h more = absurd h

told : {V : Type 0} (server : Server V) (key count : ℕ) (s : Session V) (w : World V) (ms : List (Moment V)) (said : List (Item Token)) → length said ≡ count → Story server key s w → Sound w.pool
    → AllSit w.pool → AllOrderly turn key server w ms
    → Goes server said (underway key w) s (all_asks turn key server count w ms) (given turn key server w ms ++ underway key (world_after turn server w ms))
told server key count s w [] said is story sound sit orderly = refl
told {V} server key count s w (m ∷ ms) said is story sound sit orderly =
    let n = one_moment server key count s w m story sound sit orderly.0 in
    let w2 = happens turn server w m in
    let now = asks_at key server w m count m.event in
    let items = given_in key w.pool m.event in
    let count2 = count_behind count now items in
    let behind = given turn key server w2 ms ++ underway key (world_after turn server w2 ms) in
    then_more server count s n.next said (underway key w) items (underway key w2) behind now (all_asks turn key server count2 w2 ms) is n.follows
    (λ more size. told server key count2 n.next w2 ms more size n.story (turn_sound w.pool m.event sound) (turn_sits w.pool sound sit m.event) orderly.1)
    ∙ ap (λ (x : List (Item Token)). said ++ x) (sym (joined items (given turn key server w2 ms) (underway key (world_after turn server w2 ms))))

abbrev Holds : {V : Type 0} → World V → Type 0
Holds w = Sound w.pool × AllSit w.pool

all_hold : {V : Type 0} (server : Server V) (w : World V) (ms : List (Moment V)) → Holds w → Holds (world_after turn server w ms)
all_hold server w [] h = h
all_hold server w (m ∷ ms) h = all_hold server (happens turn server w m) ms (turn_sound w.pool m.event h.0, turn_sits w.pool h.0 h.1 m.event)

pub reached_holds : {V : Type 0} (server : Server V) (sharing : Sharing) (before : List (Moment V)) → Holds (reached server sharing before)
reached_holds server sharing before = all_hold server (new_world server sharing) before (always_sound sharing [], tt)

pub as_if_alone : {V : Type 0} (server : Server V) (sharing : Sharing) (key : ℕ) (before moments : List (Moment V)) → IsAway key (reached server sharing before).pool
    → AllOrderly turn key server (reached server sharing before) moments
    → AsIfAlone turn key server (fresh server) (reached server sharing before) moments (world_after turn server (reached server sharing before) moments)
as_if_alone {V} server sharing key before moments away uncut =
    let w = reached server sharing before in
    let none = none_theirs key w.pool.holds away.holds in
    let story : Story server key (fresh server) w = inr (record { none = none; session = refl; once = inl away.waits }) in
    let all = told server key 0 (fresh server) w moments [] refl story (reached_holds server sharing before).0 (reached_holds server sharing before).1 uncut in
    sym all ∙ ap (λ (x : List (Item Token)). answers_alone server x (fresh server) (all_asks turn key server 0 w moments)) (underway_none key w none)

pub goes_on : {V : Type 0} (server : Server V) (sharing : Sharing) (key : ℕ) (before moments : List (Moment V)) (h : Hold) (c : Seat) → IsAtRest key (reached server sharing before).pool h c
    → AllOrderly turn key server (reached server sharing before) moments
    → AsIfAlone turn key server (found_next server (reached server sharing before) h c) (reached server sharing before) moments (world_after turn server (reached server sharing before) moments)
goes_on {V} server sharing key before moments h c rest uncut =
    let w = reached server sharing before in
    let s = found_next server w h c in
    let idle : StandsAt server s line.Idle c.line.heard.mark (w.ends h.number) = refl in
    let stands : Stands server s c.line (w.ends h.number) = subst (λ (x : LineStage). StandsAt server s x c.line.heard.mark (w.ends h.number)) (sym rest.idle) idle in
    let its : Its w.pool key h c = record { sole = rest.holds; there = rest.there; lent = rest.lent; line = rest.waits } in
    let sound = (reached_holds server sharing before).0 in
    let story : Story server key s w = inl (record { hold = h; seat = c; its = its; stands = stands }) in
    let all = told server key 0 s w moments [] refl story sound (reached_holds server sharing before).1 uncut in
    let nothing : underway key w ≡ [] = underway_held key w h c line.Idle (found w.pool key h c sound its) rest.there rest.idle in
    sym all ∙ ap (λ (x : List (Item Token)). answers_alone server x s (all_asks turn key server 0 w moments)) nothing

-- Whoever shares with it, it's given the same where it asks the same.
pub given_alike : {V : Type 0} (server : Server V) (sharing alike : Sharing) (key other : ℕ) (before there moments others : List (Moment V)) → IsAway key (reached server sharing before).pool → IsAway other (reached server alike there).pool
    → AllOrderly turn key server (reached server sharing before) moments → AllOrderly turn other server (reached server alike there) others
    → all_asks turn key server 0 (reached server sharing before) moments ≡ all_asks turn other server 0 (reached server alike there) others
    → given turn key server (reached server sharing before) moments ++ underway key (world_after turn server (reached server sharing before) moments)
    ≡ given turn other server (reached server alike there) others ++ underway other (world_after turn server (reached server alike there) others)
given_alike {V} server sharing alike key other before there moments others away gone uncut whole same =
    as_if_alone server sharing key before moments away uncut ∙ ap (λ (x : List (ServerAsk V)). answers_alone server [] (fresh server) x) same
    ∙ sym (as_if_alone server alike other there others gone whole)

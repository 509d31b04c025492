-- What an application is given and what is underway to it, one moment after the other, beside what it's answered alone.
use Rattle.std.proofs.Common.{◌≡◌, ◌∙◌, ◌==◌, ◌≤◌, ℕ, Bool, true, false, List, [], refl, sym, ap, subst, arith, inl, inr}
use Rattle.std.specs.Prelude.{Option, Some, None, ◌⊎◌, nat_lt, if◌then◌else◌}
use Rattle.std.proofs.lemmas.Bool.{eqb-true, eq-eqb}
use Rattle.tds_wire.specs.declared.told.Token.{Token}
use Rattle.tds_service.specs.Parts.{Item}
use Rattle.tds_service.specs.Line.{Packet, LineStage}
use Rattle.tds_service.specs.Service.{Service, Seat, has_number, seat_numbered}
use Rattle.laws_conforming_server.specs.Lawful.{Session}
use Rattle.tds_relay.specs.declared.pool.Hold.{Hold}
use Rattle.tds_relay.specs.Pool as pool
use Rattle.tds_relay.specs.Pool.{Pool, Event, PoolTurn, find_key, find_lease, key_of, turn, whose, whose_by}
use Rattle.tds_relay.proofs.promises.Seats.{each_found}
use Rattle.tds_relay.proofs.promises.Tidy.{UpTo}
use Rattle.tds_relay.proofs.promises.Caring.{Sound}
use Rattle.laws_as_if_alone.specs.Serving.{ServerAsk, ServerEnd, Moment, Server, World, fresh, goes_out, happens, logged_in, packets_in, said, takes_all}
use Rattle.laws_as_if_alone.specs.Alone.{asks_at, ends_at, given_at, given_in, heard_of, if_its, line_at, line_of, settles_by, underway, underway_by, unless_wrong}
use Rattle.tds_relay.proofs.held.Lists.{Once, theirs, theirs_found, theirs_none}
use Rattle.tds_relay.proofs.held.Sparing.{remains}
use Rattle.tds_relay.proofs.held.Seated.{AllSit}
use Rattle.tds_relay.proofs.held.Others.{Its, IsOthers, Passes, found, number_is, passes}
use Rattle.tds_relay.proofs.ends.Standing.{whose_number}
use Rattle.laws_as_if_alone.proofs.Own.{Follows, Stands}

-- It holds a connection, whose server's end keeps step with a server of its own, which is in this session; or it holds none.
pub record Holding {V : Type 0} (server : Server V) (key : ℕ) (s : Session V) (w : World V) : Type 0 where
  pub hold : Hold
  pub seat : Seat
  pub its : Its w.pool key hold seat
  pub stands : Stands server s seat.line (w.ends hold.number)

pub record IsAbsent {V : Type 0} (server : Server V) (key : ℕ) (s : Session V) (w : World V) : Type 0 where
  pub none : theirs key w.pool.holds ≡ []
  pub session : s ≡ fresh server
  pub once : Once key w.pool.line

abbrev pub Story : {V : Type 0} → Server V → ℕ → Session V → World V → Type 0
Story server key s w = Holding server key s w ⊎ IsAbsent server key s w

pub record Next {V : Type 0} (server : Server V) (key count : ℕ) (s : Session V) (w : World V) (m : Moment V) : Type 0 where
  pub next : Session V
  pub story : Story server key next (happens turn server w m)
  pub follows : Follows server count s (underway key w) (asks_at key server w m count m.event) (given_in key w.pool m.event) next (underway key (happens turn server w m))

pub moved : {V : Type 0} (server : Server V) (count : ℕ) (s next : Session V) (before before2 : List (Item Token)) (asked asked2 : List (ServerAsk V)) (items items2 behind behind2 : List (Item Token))
    → before ≡ before2 → asked ≡ asked2 → items ≡ items2 → behind ≡ behind2 → Follows server count s before2 asked2 items2 next behind2 → Follows server count s before asked items next behind
moved {V} server count s next before before2 asked asked2 items items2 behind behind2 b a i v h =
    let one : Follows server count s before asked2 items2 next behind2 = subst (λ (x : List (Item Token)). Follows server count s x asked2 items2 next behind2) (sym b) h in
    let two : Follows server count s before asked items2 next behind2 = subst (λ (x : List (ServerAsk V)). Follows server count s before x items2 next behind2) (sym a) one in
    let three : Follows server count s before asked items next behind2 = subst (λ (x : List (Item Token)). Follows server count s before asked x next behind2) (sym i) two in
    subst (λ (x : List (Item Token)). Follows server count s before asked items next x) (sym v) three

-- ---- What is underway

pub underway_held : {V : Type 0} (key : ℕ) (w : World V) (h : Hold) (c : Seat) (l : LineStage) → find_key key w.pool.holds ≡ Some h → seat_numbered h.number w.pool.service.seats ≡ Some c
    → c.line.stage ≡ l → underway key w ≡ given_at l (w.ends h.number).due
underway_held key w h c l found there is =
    ap (underway_by w) found ∙ ap (λ (x : Option Seat). given_at (line_at x).stage (w.ends h.number).due) there ∙ ap (λ (st : LineStage). given_at st (w.ends h.number).due) is

pub underway_none : {V : Type 0} (key : ℕ) (w : World V) → theirs key w.pool.holds ≡ [] → underway key w ≡ []
underway_none key w e = ap (underway_by w) (theirs_none key w.pool.holds e)

-- ---- Whose what comes is

another_by : {X : Type 0} (key other : ℕ) (xs : List X) (b : Bool) → (other == key) ≡ b → (Some other ≡ Some key → ⊥) → (if b then xs else []) ≡ []
another_by key other xs true e never = absurd (never (ap (λ (k : ℕ). Some k) (eqb-true other key e)))
another_by key other xs false e never = refl

pub not_its : {X : Type 0} (key : ℕ) (o : Option ℕ) (xs : List X) → (o ≡ Some key → ⊥) → if_its key o xs ≡ []
not_its key None xs never = refl
not_its key (Some other) xs never = another_by key other xs (other == key) refl never

pub its_own : {X : Type 0} (key : ℕ) (o : Option ℕ) (xs : List X) → o ≡ Some key → if_its key o xs ≡ xs
its_own key o xs e =
    let same : (key == key) ≡ true = eq-eqb key key refl in
    ap (λ (x : Option ℕ). if_its key x xs) e ∙ rw same refl

-- what comes on another connection isn't handed to it
other_whose : (d : Pool) (key n : ℕ) (h : Hold) (c : Seat) → Sound d → Its d key h c → (h.number == n) ≡ false → whose d n ≡ Some key → ⊥
other_whose d key n h c sound its ne e =
    let yes : (h.number == n) ≡ true = eq-eqb h.number n (whose_number d key n h c sound its e) in
    let u : true ≡ false = sym yes ∙ ne in
    let v : ⊥ = cc in
    v

-- ---- A moment of others, while it holds one

last_over : (last n : ℕ) → n ≤ last → nat_lt last n ≡ false
last_over last n le = grind arith

pub logged : {V : Type 0} (server : Server V) (s : Service) (n : ℕ) (e : ServerEnd V) → n ≤ s.last → logged_in server s n e ≡ e
logged server s n e le = rw (last_over s.last n le) refl

pub seated : (d : Pool) (key : ℕ) (h : Hold) (c : Seat) → Sound d → Its d key h c → h.number ≤ d.service.last
seated d key h c sound its =
    let le : c.number ≤ d.service.last = each_found (UpTo d.service.last) (has_number h.number) c d.service.seats sound.tidy.upto its.there in
    let is = number_is d key h c sound its in
    subst (λ (k : ℕ). k ≤ d.service.last) is le

said_same : {V : Type 0} (key n : ℕ) (event : Event) (e : ServerEnd V) → IsOthers key n event → said n event e ≡ e
said_same key n (pool.Waits other) e h = refl
said_same key n (pool.Unwaits other) e h = refl
said_same key n pool.Serves e h = refl
said_same key n (pool.Brings gives way) e h = refl
said_same key n (pool.Does other action) e h = refl
said_same key n (pool.Leaves other gives way) e h = refl
said_same key n (pool.Renews other resumes) e h = refl
said_same key n (pool.Comes number part way) e h =
    let ne : (number == n) ≡ false = grind arith in
    rw ne refl
said_same key n (pool.Loses number) e h = refl

others_ask : {V : Type 0} (server : Server V) (key count : ℕ) (w : World V) (h : Hold) (c : Seat) (m : Moment V) (event : Event) → Sound w.pool → Its w.pool key h c → IsOthers key h.number event
    → asks_at key server w m count event ≡ []
others_ask server key count w h c m (pool.Waits other) sound its k = refl
others_ask server key count w h c m (pool.Unwaits other) sound its k = refl
others_ask server key count w h c m pool.Serves sound its k = refl
others_ask server key count w h c m (pool.Brings gives way) sound its k = refl
others_ask server key count w h c m (pool.Does other action) sound its k = rw k refl
others_ask server key count w h c m (pool.Leaves other gives way) sound its k = rw k refl
others_ask server key count w h c m (pool.Renews other resumes) sound its k = rw k refl
others_ask server key count w h c m (pool.Comes number part way) sound its k =
    not_its key (whose w.pool number) (settles_by server (w.ends number) count part (line_of w.pool number)) (other_whose w.pool key number h c sound its k)
others_ask server key count w h c m (pool.Loses number) sound its k =
    not_its key (whose w.pool number) (ends_at count (line_of w.pool number).stage) (other_whose w.pool key number h c sound its k)

others_given : (d : Pool) (key : ℕ) (h : Hold) (c : Seat) (event : Event) → Sound d → Its d key h c → IsOthers key h.number event → given_in key d event ≡ []
others_given d key h c (pool.Waits other) sound its k = refl
others_given d key h c (pool.Unwaits other) sound its k = refl
others_given d key h c pool.Serves sound its k = refl
others_given d key h c (pool.Brings gives way) sound its k = refl
others_given d key h c (pool.Does other action) sound its k = refl
others_given d key h c (pool.Leaves other gives way) sound its k = refl
others_given d key h c (pool.Renews other resumes) sound its k = refl
others_given d key h c (pool.Comes number part way) sound its k = not_its key (whose d number) (unless_wrong (heard_of (line_of d number) part) (given_at (line_of d number).stage part.items) []) (other_whose d key number h c sound its k)
others_given d key h c (pool.Loses number) sound its k = refl

-- It goes on with the same hold: what went out on its connection, what was asked by it and what was given.
pub goes_on : {V : Type 0} (server : Server V) (key count : ℕ) (s : Session V) (w : World V) (m : Moment V) (h : Hold) (c c2 : Seat) (ps : List Packet) (e : ServerEnd V) (asked : List (ServerAsk V)) (items : List (Item Token))
    → Sound w.pool → Its w.pool key h c → Its (turn w.pool m.event).pool key h c2 → goes_out turn w.pool m.event h.number ≡ ps → said h.number m.event (w.ends h.number) ≡ e
    → asks_at key server w m count m.event ≡ asked → given_in key w.pool m.event ≡ items
    → (next : Session V) → Stands server next c2.line (takes_all server m ps e)
    → Follows server count s (given_at c.line.stage (w.ends h.number).due) asked items next (given_at c2.line.stage (takes_all server m ps e).due) → Next server key count s w m
goes_on {V} server key count s w m h c c2 ps e asked items sound its its2 out is asks given next stands follows =
    let base : logged_in server w.pool.service h.number (w.ends h.number) ≡ w.ends h.number = logged server w.pool.service h.number (w.ends h.number) (seated w.pool key h c sound its) in
    let at : said h.number m.event (logged_in server w.pool.service h.number (w.ends h.number)) ≡ e = ap (λ (x : ServerEnd V). said h.number m.event x) base ∙ is in
    let end : (happens turn server w m).ends h.number ≡ takes_all server m ps e =
    ap (λ (x : ServerEnd V). takes_all server m (goes_out turn w.pool m.event h.number) x) at ∙ ap (λ (x : List Packet). takes_all server m x e) out in
    let before : underway key w ≡ given_at c.line.stage (w.ends h.number).due = underway_held key w h c c.line.stage (found w.pool key h c sound its) its.there refl in
    let found2 : find_key key (happens turn server w m).pool.holds ≡ Some h = theirs_found key h (turn w.pool m.event).pool.holds its2.sole in
    let behind : underway key (happens turn server w m) ≡ given_at c2.line.stage (takes_all server m ps e).due =
    underway_held key (happens turn server w m) h c2 c2.line.stage found2 its2.there refl ∙ ap (λ (x : ServerEnd V). given_at c2.line.stage x.due) end in
    record {
      next = next;
      story = inl (record { hold = h; seat = c2; its = its2; stands = subst (λ (x : ServerEnd V). Stands server next c2.line x) (sym end) stands });
      follows = moved server count s next (underway key w) (given_at c.line.stage (w.ends h.number).due) (asks_at key server w m count m.event) asked (given_in key w.pool m.event) items
          (underway key (happens turn server w m)) (given_at c2.line.stage (takes_all server m ps e).due) before asks given behind follows;
    }

-- It goes away: what was asked by that, and what was underway.
pub goes_away : {V : Type 0} (server : Server V) (key count : ℕ) (s : Session V) (w : World V) (m : Moment V) (h : Hold) (c : Seat) (asked : List (ServerAsk V)) → Sound w.pool → Its w.pool key h c
    → theirs key (turn w.pool m.event).pool.holds ≡ [] → Once key (turn w.pool m.event).pool.line → asks_at key server w m count m.event ≡ asked → given_in key w.pool m.event ≡ []
    → Follows server count s (given_at c.line.stage (w.ends h.number).due) asked [] (fresh server) [] → Next server key count s w m
goes_away {V} server key count s w m h c asked sound its none once asks given follows =
    let due = given_at c.line.stage (w.ends h.number).due in
    let before : underway key w ≡ due = underway_held key w h c c.line.stage (found w.pool key h c sound its) its.there refl in
    let behind : underway key (happens turn server w m) ≡ [] = underway_none key (happens turn server w m) none in
    record {
      next = fresh server;
      story = inr (record { none = none; session = refl; once = once });
      follows = moved server count s (fresh server) (underway key w) due (asks_at key server w m count m.event) asked (given_in key w.pool m.event) [] (underway key (happens turn server w m)) []
          before asks given behind follows;
    }

pub others_next : {V : Type 0} (server : Server V) (key count : ℕ) (s : Session V) (w : World V) (m : Moment V) (k : Holding server key s w) → Sound w.pool → AllSit w.pool
    → IsOthers key k.hold.number m.event → Next server key count s w m
others_next {V} server key count s w m k sound sit others =
    let d = w.pool in
    let h = k.hold in
    let c = k.seat in
    let t = turn d m.event in
    let p : Passes d key h.number h t = passes d key h c sound sit k.its m.event others in
    let r = remains d.service c h.number h.lease t.calls (number_is d key h c sound k.its) k.its.lent sound.tidy k.its.there p.spares in
    let there : seat_numbered h.number t.pool.service.seats ≡ Some c = subst (λ (x : Service). seat_numbered h.number x.seats ≡ Some c) (sym p.service) r.0 in
    goes_on server key count s w m h c c [] (w.ends h.number) [] [] sound k.its (record { sole = p.sole; there = there; lent = k.its.lent; line = p.line })
    (ap packets_in r.1) (said_same key h.number m.event (w.ends h.number) others) (others_ask server key count w h c m m.event sound k.its others) (others_given d key h c m.event sound k.its others)
    s k.stands (refl, refl)

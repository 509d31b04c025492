-- A moment while an application holds no connection; and where it's lent one.
use Rattle.std.proofs.Common.{◌≡◌, ◌∙◌, ◌==◌, ℕ, suc, Bool, true, false, List, [], ◌∷◌, refl, sym, ap, subst, arith, inl, inr}
use Rattle.std.specs.Prelude.{Option, Some, ◌⊎◌, nat_lt, if◌then◌else◌}
use Rattle.tds_packet.specs.declared.status.Reset.TheVariants.{Full}
use Rattle.tds_wire.specs.declared.told.Token.{Token}
use Rattle.tds_service.specs.Parts.{Item}
use Rattle.tds_service.specs.Line as line
use Rattle.tds_service.specs.Line.{Line, LineStage, new_line}
use Rattle.tds_service.specs.History.{line_after}
use Rattle.tds_service.specs.Service.{Service, on, steps}
use Rattle.laws_conforming_server.specs.Lawful.{Session}
use Rattle.tds_relay.specs.declared.pool.Hold.{Hold}
use Rattle.tds_relay.specs.Law.{IsAway}
use Rattle.tds_relay.specs.Pool as pool
use Rattle.tds_relay.specs.Pool.{Pool, Event, find_key, turn, whose}
use Rattle.tds_relay.specs.Promises.{comes_to_wait}
use Rattle.tds_relay.proofs.promises.Caring.{Sound}
use Rattle.laws_as_if_alone.specs.Serving.{ServerAsk, Resets, ServerEnd, Moment, Server, World, fresh, goes_out, happens, logged_in, new_end, packets_in, said, takes_all}
use Rattle.laws_as_if_alone.specs.Alone.{IsOrderly, asks_at, does_by, ends_at, ends_by, given_at, given_in, heard_of, keeping_asks_by, line_of, settles_by, underway, unless_wrong}
use Rattle.tds_relay.proofs.held.Lists.{places, theirs, theirs_found, theirs_none}
use Rattle.tds_relay.proofs.held.Others.{Its}
use Rattle.tds_relay.proofs.held.Away as away
use Rattle.tds_relay.proofs.ends.Standing.{absent_whose}
use Rattle.laws_as_if_alone.proofs.Own.{Follows, Stands, StandsAt}
use Rattle.laws_as_if_alone.proofs.Story.{IsAbsent, Next, moved, not_its, underway_held, underway_none}

-- ---- Nothing is asked nor given

absent_given : (d : Pool) (key : ℕ) (event : Event) → Sound d → theirs key d.holds ≡ [] → given_in key d event ≡ []
absent_given d key (pool.Waits other) sound none = refl
absent_given d key (pool.Unwaits other) sound none = refl
absent_given d key pool.Serves sound none = refl
absent_given d key (pool.Brings gives way) sound none = refl
absent_given d key (pool.Does other action) sound none = refl
absent_given d key (pool.Leaves other gives way) sound none = refl
absent_given d key (pool.Renews other resumes) sound none = refl
absent_given d key (pool.Comes number part way) sound none = not_its key (whose d number) (unless_wrong (heard_of (line_of d number) part) (given_at (line_of d number).stage part.items) []) (absent_whose d key number sound none)
absent_given d key (pool.Loses number) sound none = refl

-- It asks nothing, or for a reset of a session that is new.
abbrev AsksFresh : {V : Type 0} → List (ServerAsk V) → Type 0
AsksFresh {V} asked = (asked ≡ []) ⊎ (asked ≡ Resets Full ∷ [])

if_none : {X : Type 0} (b : Bool) (xs : List X) → xs ≡ [] → (if b then xs else []) ≡ []
if_none true xs e = e
if_none false xs e = refl

if_reset : {V : Type 0} (b : Bool) (asked : List (ServerAsk V)) → asked ≡ Resets Full ∷ [] → AsksFresh (if b then asked else [])
if_reset true asked e = inr e
if_reset false asked e = inl refl

absent_asks : {V : Type 0} (server : Server V) (key count : ℕ) (w : World V) (m : Moment V) (event : Event) → Sound w.pool → theirs key w.pool.holds ≡ [] → AsksFresh (asks_at key server w m count event)
absent_asks server key count w m (pool.Waits other) sound none = inl refl
absent_asks server key count w m (pool.Unwaits other) sound none = inl refl
absent_asks server key count w m pool.Serves sound none = inl refl
absent_asks server key count w m (pool.Brings gives way) sound none = inl refl
absent_asks {V} server key count w m (pool.Does other action) sound none =
    inl (if_none (other == key) (does_by w.pool m count action (find_key key w.pool.holds)) (ap (λ (x : Option Hold). does_by w.pool m count action x) (theirs_none key w.pool.holds none)))
absent_asks {V} server key count w m (pool.Leaves other gives way) sound none =
    if_reset (other == key) (ends_by w.pool count (find_key key w.pool.holds)) (ap (λ (x : Option Hold). ends_by {V = V} w.pool count x) (theirs_none key w.pool.holds none))
absent_asks {V} server key count w m (pool.Renews other resumes) sound none =
    inl (if_none (other == key) (keeping_asks_by w.pool resumes (find_key key w.pool.holds)) (ap (λ (x : Option Hold). keeping_asks_by {V = V} w.pool resumes x) (theirs_none key w.pool.holds none)))
absent_asks server key count w m (pool.Comes number part way) sound none =
    inl (not_its key (whose w.pool number) (settles_by server (w.ends number) count part (line_of w.pool number)) (absent_whose w.pool key number sound none))
absent_asks server key count w m (pool.Loses number) sound none =
    inl (not_its key (whose w.pool number) (ends_at count (line_of w.pool number).stage) (absent_whose w.pool key number sound none))

fresh_follows : {V : Type 0} (server : Server V) (count : ℕ) (s : Session V) (asked : List (ServerAsk V)) (before items behind : List (Item Token)) → AsksFresh asked → s ≡ fresh server → before ≡ [] → items ≡ [] → behind ≡ []
    → Follows server count s before asked items (fresh server) behind
fresh_follows {V} server count s asked before items behind (inl e) anew b i v = moved server count s (fresh server) before [] asked [] items [] behind [] b e i v (sym anew, refl)
fresh_follows {V} server count s asked before items behind (inr e) anew b i v =
    moved server count s (fresh server) before [] asked (Resets Full ∷ []) items [] behind [] b e i v (refl, (refl, refl, refl))

-- It stays away.
stays_away : {V : Type 0} (server : Server V) (key count : ℕ) (s : Session V) (w : World V) (m : Moment V) → IsAbsent server key s w → Sound w.pool → away.IsAbsent key (turn w.pool m.event).pool
    → Next server key count s w m
stays_away server key count s w m k sound absent = record {
  next = fresh server;
  story = inr (record { none = absent.none; session = refl; once = absent.once });
  follows = fresh_follows server count s (asks_at key server w m count m.event) (underway key w) (given_in key w.pool m.event) (underway key (happens turn server w m))
      (absent_asks server key count w m m.event sound k.none) k.session (underway_none key w k.none) (absent_given w.pool key m.event sound k.none) (underway_none key (happens turn server w m) absent.none);
}

-- ---- It's lent one

full_stands : {V : Type 0} (server : Server V) (s : Session V) (l : Line) (e : ServerEnd V) → l.stage ≡ line.Idle → s ≡ fresh server → Stands server s (line_after {T = Token} l (line.Mark Full ∷ [])) e
full_stands {V} server s l e is anew =
    let k : StandsAt server s line.Idle (Some Full) e = sym anew in
    let m : Stands server s (line.marked l Full) e = subst (λ (st : LineStage). StandsAt server s st (Some Full) e) (sym is) k in
    let P : line.Turn Token → Type 0 = λ (x : line.Turn Token). Stands server s x.line e in
    let done : P (line.marks {T = Token} l Full l.stage) = subst P (sym (ap (λ (st : LineStage). line.marks {T = Token} l Full st) is)) m in
    done

-- a server behind a login is one of its own
new_logged : {V : Type 0} (server : Server V) (s : Service) (ends : ℕ → ServerEnd V) (n : ℕ) → n ≡ suc s.last → logged_in server s n (ends n) ≡ new_end server
new_logged server s ends n is =
    ap (λ (k : ℕ). logged_in server s k (ends k)) is ∙ (let more : nat_lt s.last (suc s.last) ≡ true = grind arith in rw more refl)

module _ {V : Type 0} (server : Server V) (key count : ℕ) (s : Session V) (w : World V) (m : Moment V) (x : IsAbsent server key s w) (sound : Sound w.pool) where
  origin_stands : (n : ℕ) (l : Line) → m.event ≡ pool.Serves → away.Origin w.pool n l → Stands server s l ((happens turn server w m).ends n)
  origin_stands n l is (away.Clean was idle marked) =
      let e = (happens turn server w m).ends n in
      subst (λ (y : Line). Stands server s y e) (sym marked) (full_stands server s was e idle x.session)
  origin_stands n l is (away.New number new nothing) =
      let d = w.pool in
      let e = logged_in server d.service n (w.ends n) in
      let out : goes_out turn d m.event n ≡ [] = ap (λ (y : Event). packets_in (on n (steps d.service (turn d y).calls))) is ∙ ap packets_in nothing in
      let end : (happens turn server w m).ends n ≡ new_end server = ap (λ (y : List line.Packet). takes_all server m y (said n m.event e)) out
      ∙ ap (λ (y : Event). said n y e) is ∙ new_logged server d.service w.ends n number in
      let fresh_one : Stands server s new_line ((happens turn server w m).ends n) = subst (λ (y : ServerEnd V). Stands server s new_line y) (sym end) (sym x.session) in
      subst (λ (y : Line). Stands server s y ((happens turn server w m).ends n)) (sym new) fresh_one

  is_lent : m.event ≡ pool.Serves → away.IsServed key w.pool → Next server key count s w m
  is_lent is lent =
      let d = w.pool in
      let h = lent.hold in
      let c = lent.seat in
      let its : Its (turn d m.event).pool key h c = subst (λ (y : Event). Its (turn d y).pool key h c) (sym is) lent.its in
      let asks : asks_at key server w m count m.event ≡ [] = ap (λ (y : Event). asks_at key server w m count y) is in
      let nothing : given_in key d m.event ≡ [] = ap (λ (y : Event). given_in key d y) is in
      let before = underway_none key w x.none in
      let behind : underway key (happens turn server w m) ≡ [] =
      underway_held key (happens turn server w m) h c line.Idle (theirs_found key h (turn d m.event).pool.holds its.sole) its.there (away.origin_idle d h.number c.line lent.origin) in
      record {
        next = s;
        story = inl (record { hold = h; seat = c; its = its; stands = origin_stands h.number c.line is lent.origin });
        follows = moved server count s s (underway key w) [] (asks_at key server w m count m.event) [] (given_in key d m.event) [] (underway key (happens turn server w m)) [] before asks nothing behind (refl, refl);
      }

  -- ---- Any event

  stays : (event : Event) → away.IsAbsent key (turn w.pool event).pool → m.event ≡ event → Next server key count s w m
  stays event absent is = stays_away server key count s w m x sound (subst (λ (y : Event). away.IsAbsent key (turn w.pool y).pool) (sym is) absent)

  lent_or_not : away.IsServed key w.pool ⊎ away.IsAbsent key (turn w.pool pool.Serves).pool → m.event ≡ pool.Serves → Next server key count s w m
  lent_or_not (inl lent) is = is_lent is lent
  lent_or_not (inr absent) is = stays pool.Serves absent is

  pub away_next : IsOrderly key w m → Next server key count s w m
  away_next orderly =
      let k : away.IsAbsent key w.pool = record { none = x.none; once = x.once } in
      let waits : (other : ℕ) → m.event ≡ pool.Waits other → other ≡ key → places key w.pool.line ≡ [] =
      λ other is mine. (subst (λ (y : Event). comes_to_wait y ≡ key ∷ [] → IsAway key w.pool) is orderly.waits (ap (λ (n : ℕ). n ∷ []) mine)).waits in
      away.away_walk w.pool key k sound (λ (event : Event). m.event ≡ event → Next server key count s w m) stays (lent_or_not (away.served w.pool key k sound)) m.event waits refl

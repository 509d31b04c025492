-- A moment of the application itself, while it holds a connection, and what comes there.
use Rattle.std.proofs.Common.{◌≡◌, ◌∙◌, ◌==◌, ℕ, Bool, true, List, [], ◌∷◌, ◌++◌, length, drop, refl, sym, ap, subst, inl}
use Rattle.std.specs.Prelude.{Option, Some, None}
use Rattle.tds_packet.specs.declared.status.Reset.{Reset}
use Rattle.tds_client.specs.declared.fault.ClientRefusal.{ClientRefusal}
use Rattle.tds_wire.specs.declared.told.Token.{Token}
use Rattle.tds_service.specs.Parts.{Item, Part}
use Rattle.tds_service.specs.Line as line
use Rattle.tds_service.specs.Line.{Line, Act, Packet, LineStage, line_turn}
use Rattle.tds_service.specs.History.{history, line_after}
use Rattle.tds_service.specs.Refusing.{refusal_in}
use Rattle.tds_service.specs.Service.{Seat}
use Rattle.laws_conforming_server.specs.Lawful.{Session}
use Rattle.tds_relay.specs.declared.pool.Hold.{Hold}
use Rattle.tds_relay.specs.Pool as pool
use Rattle.tds_relay.specs.Pool.{Action, Pool, Event, Hearing, PoolTurn, Way, find_key, find_lease, moves, turn, whose, without_lease, without_number}
use Rattle.tds_relay.proofs.promises.Caring.{Sound}
use Rattle.laws_as_if_alone.specs.Serving.{ServerAsk, ServerEnd, Moment, Server, World, fresh, goes_out, packets_in, said}
use Rattle.laws_as_if_alone.specs.Alone.{IsNextAt, IsOrderly, IsSaid, asks_at, does_at, does_by, ends_at, ends_by, given_at, given_in, heard_of, line_at, line_of, settles_at, settles_by, unless_wrong}
use Rattle.tds_relay.proofs.held.Others.{found}
use Rattle.tds_relay.proofs.held.Ours.{Gone, Ours, acts_done, acts_of_action, acts_unless_refused, actions, first_of, hears_right, hears_wrong, leaves_gone, loses_gone, own_whose, same_number, with_came, with_line}
use Rattle.laws_as_if_alone.proofs.Own.{Acted, Follows, Hears, Stands, StandsAt, come_end, comes_heard, action_acted, refused_asks, same_acted}
use Rattle.laws_as_if_alone.proofs.Story.{Holding, Next, goes_away, goes_on, its_own}

-- ---- An action

action_acts : {V : Type 0} (server : Server V) (m : Moment V) (count : ℕ) (s : Session V) (l : Line) (action : Action) (e : ServerEnd V) (why : Option ClientRefusal) → refusal_in (line_turn l (first_of action)).answer ≡ why
    → Stands server s l e → let acts = acts_unless_refused why (acts_of_action action) in Acted server m count s l.stage e (line_after l acts) (packets_in (history l acts)) (does_at m count action l.stage)
action_acts server m count s l action e None is stands = action_acted server m count s l action e is stands
action_acts {V} server m count s l action e (Some why) is stands =
    subst (λ (x : List (ServerAsk V)). Acted server m count s l.stage e l [] x) (sym (refused_asks server m count s l action why is)) (same_acted server m count s l e stands)

-- a moment is that event
pub ours_at : (d : Pool) (key : ℕ) (h : Hold) (c c2 : Seat) (acts : List (Act Token)) (event event2 : Event) → event ≡ event2 → Ours d key h c c2 acts (turn d event2) → Ours d key h c c2 acts (turn d event)
ours_at d key h c c2 acts event event2 is ours = subst (λ (x : Event). Ours d key h c c2 acts (turn d x)) (sym is) ours

pub does_next : {V : Type 0} (server : Server V) (key count : ℕ) (s : Session V) (w : World V) (action : Action) (m : Moment V) (k : Holding server key s w) → m.event ≡ pool.Does key action → Sound w.pool
    → Next server key count s w m
does_next {V} server key count s w action m k is sound =
    let d = w.pool in
    let h = k.hold in
    let c = k.seat in
    let acts = acts_done c.line action in
    let c2 : Seat = with_line c (line_after c.line acts) in
    let o = ours_at d key h c c2 acts m.event (pool.Does key action) is (actions d key h c action sound k.its).ours in
    let asks : asks_at key server w m count m.event ≡ does_at m count action c.line.stage =
    ap (λ (x : Event). asks_at key server w m count x) is ∙ (let same : (key == key) ≡ true = same_number key in rw same refl)
    ∙ ap (λ (x : Option Hold). does_by d m count action x) (found d key h c sound k.its) ∙ ap (λ (x : Option Seat). does_at m count action (line_at x).stage) k.its.there in
    let a = action_acts server m count s c.line action (w.ends h.number) (refusal_in (line_turn c.line (first_of action)).answer) refl k.stands in
    goes_on server key count s w m h c c2 (packets_in (history c.line acts)) (w.ends h.number) (does_at m count action c.line.stage) [] sound k.its o.its (ap packets_in o.out)
    (ap (λ (x : Event). said h.number x (w.ends h.number)) is) asks (ap (λ (x : Event). given_in key d x) is) a.next a.stands a.follows

-- ---- What comes on its connection

said_here : {V : Type 0} (n : ℕ) (part : Part Token) (way : Way) (e : ServerEnd V) → said n (pool.Comes n part way) e ≡ record { session = e.session; reset = e.reset; due = drop (length part.items) e.due }
said_here n part way e = let same : (n == n) ≡ true = same_number n in rw same refl

right_is : {X : Type 0} (hearing : Hearing) (right wrong : List X) → (hearing ≡ pool.Wrong → ⊥) → unless_wrong hearing right wrong ≡ right
right_is pool.Goes right wrong never = refl
right_is pool.Settled right wrong never = refl
right_is pool.Wrong right wrong never = absurd (never refl)

heard_next : {V : Type 0} (server : Server V) (key count : ℕ) (s : Session V) (w : World V) (part : Part Token) (way : Way) (m : Moment V) (k : Holding server key s w)
    → m.event ≡ pool.Comes k.hold.number part way → Sound w.pool → IsOrderly key w m → (heard_of k.seat.line part ≡ pool.Wrong → ⊥) → Next server key count s w m
heard_next {V} server key count s w part way m k is sound orderly right =
    let d = w.pool in
    let h = k.hold in
    let c = k.seat in
    let e = w.ends h.number in
    let mine = own_whose d key h c sound k.its in
    let saying : IsSaid key w (pool.Comes h.number part way) = subst (λ (x : Event). IsSaid key w x) is orderly.said in
    let says : (heard_of c.line part ≡ pool.Wrong → ⊥) → IsNextAt c.line.stage part e.due =
    subst (λ (x : Option Seat). (heard_of (line_at x) part ≡ pool.Wrong → ⊥) → IsNextAt (line_at x).stage part e.due) k.its.there (saying mine) in
    let hears : Hears server m count s part c.line.stage e (line_turn c.line (line.Come part)) = comes_heard server m count s c.line part e c.line.stage k.stands (says right) right in
    let l = (line_turn c.line (line.Come part)).line in
    let c2 : Seat = with_came c part in
    let o = ours_at d key h c c2 (line.Come part ∷ []) m.event (pool.Comes h.number part way) is (hears_right d key h c part way sound k.its right) in
    let out : goes_out turn d m.event h.number ≡ [] = ap packets_in o.out ∙ ap (λ (x : List Packet). x ++ []) hears.sent in
    let e2 = come_end server m count s part e in
    let told : said h.number m.event e ≡ e2 = ap (λ (x : Event). said h.number x e) is ∙ said_here h.number part way e in
    let asked : List (ServerAsk V) = settles_at server e c.line.stage l in
    let asks : asks_at key server w m count m.event ≡ asked = ap (λ (x : Event). asks_at key server w m count x) is
    ∙ its_own key (whose d h.number) (settles_by server e count part (line_of d h.number)) mine ∙ ap (λ (x : Option Seat). settles_by server e count part (line_at x)) k.its.there
    ∙ right_is (heard_of c.line part) asked (ends_at count c.line.stage) right in
    let items : List (Item Token) = given_at c.line.stage part.items in
    let given : given_in key d m.event ≡ items = ap (λ (x : Event). given_in key d x) is
    ∙ its_own key (whose d h.number) (unless_wrong (heard_of (line_of d h.number) part) (given_at (line_of d h.number).stage part.items) []) mine
    ∙ ap (λ (x : Option Seat). unless_wrong (heard_of (line_at x) part) (given_at (line_at x).stage part.items) []) k.its.there ∙ right_is (heard_of c.line part) items [] right in
    goes_on server key count s w m h c c2 [] e2 asked items sound k.its o.its out told asks given hears.next hears.stands hears.follows

-- ---- It is closed

gone_at : (d : Pool) (key : ℕ) (event event2 : Event) → event ≡ event2 → Gone key (turn d event2).pool → Gone key (turn d event).pool
gone_at d key event event2 is gone = subst (λ (x : Event). Gone key (turn d x).pool) (sym is) gone

wrong_is : {X : Type 0} (hearing : Hearing) (right wrong : List X) → hearing ≡ pool.Wrong → unless_wrong hearing right wrong ≡ wrong
wrong_is pool.Goes right wrong e = absurd (let u : ⊥ = cc in u)
wrong_is pool.Settled right wrong e = absurd (let u : ⊥ = cc in u)
wrong_is pool.Wrong right wrong e = refl

pub ends_follow : {V : Type 0} (server : Server V) (count : ℕ) (s : Session V) (stage : LineStage) (mark : Option Reset) (e : ServerEnd V) → StandsAt server s stage mark e
    → Follows server count s (given_at stage e.due) (ends_at count stage) [] (fresh server) []
ends_follow server count s line.Idle mark e h = (refl, (refl, refl, refl))
ends_follow server count s (line.Sending begun) mark e h = (refl, (refl, refl, refl))
ends_follow server count s line.Reading mark e h = (refl, (refl, refl, refl))
ends_follow server count s line.Cancelling mark e h = (refl, (refl, refl, refl))
ends_follow server count s (line.Broken fault) mark e h = absurd h

-- by what comes
wrong_next : {V : Type 0} (server : Server V) (key count : ℕ) (s : Session V) (w : World V) (part : Part Token) (way : Way) (m : Moment V) (k : Holding server key s w)
    → m.event ≡ pool.Comes k.hold.number part way → Sound w.pool → heard_of k.seat.line part ≡ pool.Wrong → Next server key count s w m
wrong_next {V} server key count s w part way m k is sound wrong =
    let d = w.pool in
    let h = k.hold in
    let c = k.seat in
    let e = w.ends h.number in
    let gone = gone_at d key m.event (pool.Comes h.number part way) is (hears_wrong d key h c part way k.its wrong) in
    let mine = own_whose d key h c sound k.its in
    let asks : asks_at key server w m count m.event ≡ ends_at count c.line.stage = ap (λ (x : Event). asks_at key server w m count x) is
    ∙ its_own key (whose d h.number) (settles_by server e count part (line_of d h.number)) mine ∙ ap (λ (x : Option Seat). settles_by server e count part (line_at x)) k.its.there
    ∙ wrong_is (heard_of c.line part) (settles_at server e c.line.stage (line_turn c.line (line.Come part)).line) (ends_at count c.line.stage) wrong in
    let given : given_in key d m.event ≡ [] = ap (λ (x : Event). given_in key d x) is
    ∙ its_own key (whose d h.number) (unless_wrong (heard_of (line_of d h.number) part) (given_at (line_of d h.number).stage part.items) []) mine
    ∙ ap (λ (x : Option Seat). unless_wrong (heard_of (line_at x) part) (given_at (line_at x).stage part.items) []) k.its.there ∙ wrong_is (heard_of c.line part) (given_at c.line.stage part.items) [] wrong in
    goes_away server key count s w m h c (ends_at count c.line.stage) sound k.its gone.holds (inl gone.waits) asks given (ends_follow server count s c.line.stage c.line.heard.mark e k.stands)

heard_by : {V : Type 0} (server : Server V) (key count : ℕ) (s : Session V) (w : World V) (part : Part Token) (way : Way) (m : Moment V) (k : Holding server key s w)
    → m.event ≡ pool.Comes k.hold.number part way → Sound w.pool → IsOrderly key w m → (hearing : Hearing) → heard_of k.seat.line part ≡ hearing → Next server key count s w m
heard_by server key count s w part way m k is sound orderly pool.Goes e = heard_next server key count s w part way m k is sound orderly (λ wrong. let u : ⊥ = cc in u)
heard_by server key count s w part way m k is sound orderly pool.Settled e = heard_next server key count s w part way m k is sound orderly (λ wrong. let u : ⊥ = cc in u)
heard_by server key count s w part way m k is sound orderly pool.Wrong e = wrong_next server key count s w part way m k is sound e

pub comes_next : {V : Type 0} (server : Server V) (key count : ℕ) (s : Session V) (w : World V) (part : Part Token) (way : Way) (m : Moment V) (k : Holding server key s w)
    → m.event ≡ pool.Comes k.hold.number part way → Sound w.pool → IsOrderly key w m → Next server key count s w m
comes_next server key count s w part way m k is sound orderly = heard_by server key count s w part way m k is sound orderly (heard_of k.seat.line part) refl

-- by a loss
pub loses_next : {V : Type 0} (server : Server V) (key count : ℕ) (s : Session V) (w : World V) (m : Moment V) (k : Holding server key s w) → m.event ≡ pool.Loses k.hold.number → Sound w.pool
    → Next server key count s w m
loses_next {V} server key count s w m k is sound =
    let d = w.pool in
    let h = k.hold in
    let c = k.seat in
    let gone = gone_at d key m.event (pool.Loses h.number) is (loses_gone d key h c k.its) in
    let asks : asks_at key server w m count m.event ≡ ends_at count c.line.stage = ap (λ (x : Event). asks_at key server w m count x) is
    ∙ its_own key (whose d h.number) (ends_at count (line_of d h.number).stage) (own_whose d key h c sound k.its) ∙ ap (λ (x : Option Seat). ends_at count (line_at x).stage) k.its.there in
    goes_away server key count s w m h c (ends_at count c.line.stage) sound k.its gone.holds (inl gone.waits) asks (ap (λ (x : Event). given_in key d x) is)
    (ends_follow server count s c.line.stage c.line.heard.mark (w.ends h.number) k.stands)

-- ---- It lets it go

pub leaves_next : {V : Type 0} (server : Server V) (key count : ℕ) (s : Session V) (w : World V) (gives : Bool) (way : Way) (m : Moment V) (k : Holding server key s w)
    → m.event ≡ pool.Leaves key gives way → Sound w.pool → Next server key count s w m
leaves_next {V} server key count s w gives way m k is sound =
    let d = w.pool in
    let h = k.hold in
    let c = k.seat in
    let gone = gone_at d key m.event (pool.Leaves key gives way) is (leaves_gone d key h c gives way sound k.its) in
    let asks : asks_at key server w m count m.event ≡ ends_at count c.line.stage =
    ap (λ (x : Event). asks_at key server w m count x) is ∙ (let same : (key == key) ≡ true = same_number key in rw same refl)
    ∙ ap (λ (x : Option Hold). ends_by d count x) (found d key h c sound k.its) ∙ ap (λ (x : Option Seat). ends_at count (line_at x).stage) k.its.there in
    let nothing : given_in key d m.event ≡ [] = ap (λ (x : Event). given_in key d x) is in
    goes_away server key count s w m h c (ends_at count c.line.stage) sound k.its gone.holds (inl gone.waits) asks nothing (ends_follow server count s c.line.stage c.line.heard.mark (w.ends h.number) k.stands)

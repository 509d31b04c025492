-- What an application's own events do at the pool while it holds a connection, and what comes there.
use Rattle.std.proofs.Common.{◌≡◌, ◌∙◌, ◌==◌, ℕ, Bool, true, false, not, List, [], ◌∷◌, ◌++◌, refl, sym, ap, subst}
use Rattle.std.specs.Prelude.{Option, Some, None}
use Rattle.std.proofs.lemmas.Bool.{eq-eqb}
use Rattle.tds_client.specs.declared.fault.ClientRefusal.{ClientRefusal}
use Rattle.tds_wire.specs.declared.told.Token.{Token}
use Rattle.tds_service.specs.Parts.{Part}
use Rattle.tds_service.specs.Line as line
use Rattle.tds_service.specs.Line.{Line, Act, Packet, LineStage, line_turn}
use Rattle.tds_service.specs.History.{Done, history, line_after}
use Rattle.tds_service.specs.Refusing.{packets, refusal_in}
use Rattle.tds_service.specs.Service as calls
use Rattle.tds_service.specs.Service.{Service, ServiceStep, Call, Place, Leased, Cleaning, Kept, Free, Draining, Seat, find_by, change_by, has_lease, has_number, has_ticket, is_idle, is_open, keeps, may_keep, lease_at, lease_in, seat_numbered, on, on_one, step, steps, acts_unless, does, nothing, drained}
use Rattle.tds_service.specs.Ties.{sent_in}
use Rattle.tds_service.proofs.Numbered.{change_here}
use Rattle.tds_relay.specs.declared.pool.Hold.{Hold}
use Rattle.tds_relay.specs.Pool as pool
use Rattle.tds_relay.specs.Pool.{Action, Pool, Event, Hearing, PoolTurn, Way, find_key, find_lease, holding, lent_in, moves, ticket_in, turn, whose, whose_by, key_of, without_lease, without_number}
use Rattle.tds_relay.specs.Core.{dones_of_part, sent_by}
use Rattle.tds_relay.proofs.promises.Seats.{found_other}
use Rattle.tds_relay.proofs.promises.Caring.{Sound, found_held}
use Rattle.tds_relay.proofs.promises.Promised.{found_numbered}
use Rattle.tds_relay.proofs.held.Lists.{none_filtered, places, theirs, theirs_left}
use Rattle.tds_relay.proofs.held.Sparing.{none_on}
use Rattle.tds_relay.proofs.held.Others.{Its, found, held, key_is, number_is}

pub same_number : (n : ℕ) → (n == n) ≡ true
same_number n = eq-eqb n n refl

pub not_same : (n : ℕ) → not (n == n) ≡ false
not_same n = let same : (n == n) ≡ true = same_number n in rw same refl

-- ---- Found by its lease

by_lease_of : (d : Pool) (h : Hold) (c : Seat) (o : Option Seat) → find_by (has_lease h.lease) d.service.seats ≡ o → Sound d → find_lease h.lease d.holds ≡ Some h
    → seat_numbered h.number d.service.seats ≡ Some c → c.place ≡ Leased h.lease → o ≡ Some c
by_lease_of d h c None e sound held there lent =
    let fails : has_lease h.lease c ≡ false = found_other (has_number h.number) (has_lease h.lease) c d.service.seats there e in
    let meets : has_lease h.lease c ≡ true = rw lent (same_number h.lease) in
    let u : true ≡ false = sym meets ∙ fails in
    absurd (let v : ⊥ = cc in v)
by_lease_of d h c (Some x) e sound held there lent =
    let at = found_held d h x sound held e in
    let number : x.number ≡ h.number = sym at.1 in
    let mine : find_by (has_number x.number) d.service.seats ≡ Some x = found_numbered (has_lease h.lease) x d.service.seats sound.tidy.distinct e in
    let here : seat_numbered h.number d.service.seats ≡ Some x = subst (λ (k : ℕ). seat_numbered k d.service.seats ≡ Some x) number mine in
    sym here ∙ there

pub by_lease : (d : Pool) (key : ℕ) (h : Hold) (c : Seat) → Sound d → Its d key h c → find_by (has_lease h.lease) d.service.seats ≡ Some c
by_lease d key h c sound its =
    let e : find_by (has_lease h.lease) d.service.seats ≡ Some c = by_lease_of d h c (find_by (has_lease h.lease) d.service.seats) refl sound (held d key h c sound its) its.there its.lent in
    e

pub own_whose : (d : Pool) (key : ℕ) (h : Hold) (c : Seat) → Sound d → Its d key h c → whose d h.number ≡ Some key
own_whose d key h c sound its =
    ap (λ (o : Option Seat). whose_by (lease_at o) d.holds) its.there ∙ ap (λ (p : Place). whose_by (lease_in p) d.holds) its.lent
    ∙ ap key_of (held d key h c sound its) ∙ ap (λ (k : ℕ). Some k) (key_is d key h c sound its)

-- ---- An action

abbrev pub first_of : Action → Act Token
first_of pool.Asks = line.Ask
first_of (pool.Puts count) = line.Send false
first_of (pool.Ends count) = line.Send true
first_of pool.Stops = line.Cancel

abbrev pub acts_of_action : Action → List (Act Token)
acts_of_action pool.Asks = line.Ask ∷ []
acts_of_action (pool.Puts count) = packets count
acts_of_action (pool.Ends count) = packets count ++ line.Send true ∷ []
acts_of_action pool.Stops = line.Cancel ∷ []

-- nothing, where the first is refused
abbrev pub acts_unless_refused : Option ClientRefusal → List (Act Token) → List (Act Token)
acts_unless_refused None acts = acts
acts_unless_refused (Some why) acts = []

abbrev pub acts_done : Line → Action → List (Act Token)
acts_done l action = acts_unless_refused (refusal_in (line_turn l (first_of action)).answer) (acts_of_action action)

action_step : (d : Pool) (h : Hold) (c : Seat) (action : Action) → find_by (has_lease h.lease) d.service.seats ≡ Some c
    → step d.service (pool.call_of h.lease action) ≡ acts_unless d.service (has_lease h.lease) c (acts_of_action action) (refusal_in (line_turn c.line (first_of action)).answer)
action_step d h c pool.Asks e = rw e refl
action_step d h c (pool.Puts count) e = rw e refl
action_step d h c (pool.Ends count) e = rw e refl
action_step d h c pool.Stops e = rw e refl

abbrev pub with_line : Seat → Line → Seat
with_line c l = record { number = c.number; place = c.place; line = l }

pub on_here : (b : Bool) (ds : List (Done Token)) → b ≡ true → on_one b ds [] ≡ ds ++ []
on_here true ds e = refl
on_here false ds e = absurd (let u : ⊥ = cc in u)

pub append_done : (ds : List (Done Token)) → ds ++ [] ≡ ds
append_done [] = refl
append_done (d ∷ ds) = ap (λ (x : List (Done Token)). d ∷ x) (append_done ds)

append_sent : (ps : List Packet) → ps ++ [] ≡ ps
append_sent [] = refl
append_sent (p ∷ ps) = ap (λ (x : List Packet). p ∷ x) (append_sent ps)

-- What a step did on its connection.
pub record Acted (n : ℕ) (c : Seat) (acts : List (Act Token)) (t : ServiceStep Token) : Type 0 where
  pub there : seat_numbered n t.service.seats ≡ Some (with_line c (line_after c.line acts))
  pub out : on_one (t.number == n) t.dones [] ≡ history c.line acts
  pub sent : sent_in t.dones ≡ sent_in (history c.line acts)

unless_acted : (d : Pool) (h : Hold) (c : Seat) (all : List (Act Token)) (why : Option ClientRefusal) → Sound d → find_by (has_lease h.lease) d.service.seats ≡ Some c
    → seat_numbered h.number d.service.seats ≡ Some c → c.number ≡ h.number → Acted h.number c (acts_unless_refused why all) (acts_unless d.service (has_lease h.lease) c all why)
unless_acted d h c all None sound by there number =
    let l = line_after c.line all in
    let seats = change_by (has_lease h.lease) (Some c.place) l d.service.seats in
    let here : seat_numbered c.number seats ≡ Some (with_line c l) = change_here (has_lease h.lease) c c.place l d.service.seats sound.tidy.distinct by in
    record {
      there = subst (λ (k : ℕ). seat_numbered k seats ≡ Some (with_line c l)) number here;
      out = on_here (c.number == h.number) (history c.line all) (eq-eqb c.number h.number number) ∙ append_done (history c.line all);
      sent = refl;
    }
unless_acted d h c all (Some why) sound by there number = record { there = there; out = none_on (0 == h.number) []; sent = refl }

action_acted : (d : Pool) (key : ℕ) (h : Hold) (c : Seat) (action : Action) → Sound d → Its d key h c → Acted h.number c (acts_done c.line action) (step d.service (pool.call_of h.lease action))
action_acted d key h c action sound its =
    let by = by_lease d key h c sound its in
    subst (λ (t : ServiceStep Token). Acted h.number c (acts_done c.line action) t) (sym (action_step d h c action by))
    (unless_acted d h c (acts_of_action action) (refusal_in (line_turn c.line (first_of action)).answer) sound by its.there (number_is d key h c sound its))

-- An application's connection, behind an event of its own.
pub record Ours (d : Pool) (key : ℕ) (h : Hold) (c c2 : Seat) (acts : List (Act Token)) (t : PoolTurn) : Type 0 where
  pub its : Its t.pool key h c2
  pub line : c2.line ≡ line_after c.line acts
  pub out : on h.number (steps d.service t.calls) ≡ history c.line acts

pub record Actions (d : Pool) (key : ℕ) (h : Hold) (c : Seat) (action : Action) : Type 0 where
  pub ours : Ours d key h c (with_line c (line_after c.line (acts_done c.line action))) (acts_done c.line action) (turn d (pool.Does key action))
  pub sent : sent_by d (pool.Does key action) ≡ sent_in (history c.line (acts_done c.line action))

pub actions : (d : Pool) (key : ℕ) (h : Hold) (c : Seat) (action : Action) → Sound d → Its d key h c → Actions d key h c action
actions d key h c action sound its =
    let f = found d key h c sound its in
    let o = action_acted d key h c action sound its in
    let acts = acts_done c.line action in
    let c2 : Seat = with_line c (line_after c.line acts) in
    let t2 : PoolTurn = pool.with_figures (pool.figures_behind action (step {T = Token} d.service (pool.call_of h.lease action)).dones d.figures) (moves d d.holds d.line (pool.call_of h.lease action ∷ [])) in
    let t : turn d (pool.Does key action) ≡ t2 = ap (λ (x : Option Hold). pool.holder_does d action x) f in
    let its2 : Its t2.pool key h c2 = record { sole = its.sole; there = o.there; lent = its.lent; line = its.line } in
    let ours2 : Ours d key h c c2 acts t2 = record { its = its2; line = refl; out = o.out } in
    record {
      ours = subst (λ (x : PoolTurn). Ours d key h c c2 acts x) (sym t) ours2;
      sent = ap (λ (x : PoolTurn). Rattle.tds_relay.specs.Ties.sent_along d.service x.calls) t ∙ append_sent (sent_in (step d.service (pool.call_of h.lease action)).dones) ∙ o.sent;
    }

-- where it holds none, nothing is done
pub actions_none : (d : Pool) (key : ℕ) (action : Action) → find_key key d.holds ≡ None → sent_by d (pool.Does key action) ≡ []
actions_none d key action e = ap (λ (o : Option Hold). Rattle.tds_relay.specs.Ties.sent_along d.service (pool.holder_does d action o).calls) e

-- ---- What comes on its connection

came_step : (d : Pool) (h : Hold) (c : Seat) (part : Part Token) → seat_numbered h.number d.service.seats ≡ Some c
    → step d.service (calls.Came h.number part)
    ≡ does d.service d.service.given (has_number h.number) c (Some (drained c.place (line_after c.line (line.Come part ∷ [])).stage)) (line.Come part ∷ []) calls.Did
came_step d h c part e = ap (λ (o : Option Seat). calls.hears d.service (has_number h.number) part o) e

pub came_done : (d : Pool) (key : ℕ) (h : Hold) (c : Seat) (part : Part Token) → Its d key h c → dones_of_part d h.number part ≡ history c.line (line.Come part ∷ [])
came_done d key h c part its = ap (λ (x : ServiceStep Token). x.dones) (came_step d h c part its.there)

abbrev pub heard_of : Line → Part Token → Hearing
heard_of l part = pool.hearing_of (line_turn l (line.Come part)).answer

-- Where it's heard as right, nothing more is done.
came_by : (d : Pool) (key : ℕ) (h : Hold) (c : Seat) (part : Part Token) (way : Way) (s : Service) (hearing : Hearing) → Sound d → Its d key h c → (hearing ≡ pool.Wrong → ⊥)
    → pool.comes_by d (calls.Came h.number part) s h.number way (lease_at (seat_numbered h.number d.service.seats)) hearing ≡ moves d d.holds d.line (calls.Came h.number part ∷ [])
came_by d key h c part way s pool.Goes sound its right = refl
came_by d key h c part way s pool.Settled sound its right =
    let nothing : pool.settles d.holds s h.number way (lease_at (seat_numbered h.number d.service.seats)) ≡ [] =
    ap (λ (o : Option Seat). pool.settles d.holds s h.number way (lease_at o)) its.there ∙ ap (λ (p : Place). pool.settles d.holds s h.number way (lease_in p)) its.lent
    ∙ ap (λ (o : Option Hold). pool.settles_of s h.number h.lease way o) (held d key h c sound its) in
    ap (λ (all : List (Call Token)). moves d d.holds d.line (calls.Came h.number part ∷ all)) nothing
came_by d key h c part way s pool.Wrong sound its right = absurd (right refl)

came_drained : (c : Seat) (lease : ℕ) (stage : LineStage) → c.place ≡ Leased lease → drained c.place stage ≡ Leased lease
came_drained c lease stage e = rw e refl

abbrev pub with_came : Seat → Part Token → Seat
with_came c part =
    let l = (line_turn c.line (line.Come part)).line in
    record { number = c.number; place = drained c.place l.stage; line = l }

pub hears_right : (d : Pool) (key : ℕ) (h : Hold) (c : Seat) (part : Part Token) (way : Way) → Sound d → Its d key h c → (heard_of c.line part ≡ pool.Wrong → ⊥)
    → Ours d key h c (with_came c part) (line.Come part ∷ []) (turn d (pool.Comes h.number part way))
hears_right d key h c part way sound its right =
    let heard = step {T = Token} d.service (calls.Came h.number part) in
    let did = came_step d h c part its.there in
    let hearing : pool.hearing heard.dones ≡ heard_of c.line part = ap (λ (x : ServiceStep Token). pool.hearing x.dones) did in
    let l = (line_turn c.line (line.Come part)).line in
    let t2 : PoolTurn = pool.with_broken h.number heard.dones (moves d d.holds d.line (calls.Came h.number part ∷ [])) in
    let t : turn d (pool.Comes h.number part way) ≡ t2 =
    ap (pool.with_broken h.number heard.dones) (came_by d key h c part way heard.service (pool.hearing heard.dones) sound its (λ wrong. right (sym hearing ∙ wrong))) in
    let place = drained c.place l.stage in
    let c2 : Seat = with_came c part in
    let number = number_is d key h c sound its in
    let seats = change_by (has_number h.number) (Some place) l d.service.seats in
    let here : seat_numbered c.number seats ≡ Some c2 = change_here (has_number h.number) c place l d.service.seats sound.tidy.distinct its.there in
    let at : seat_numbered h.number seats ≡ Some c2 = subst (λ (x : ℕ). seat_numbered x seats ≡ Some c2) number here in
    let there : seat_numbered h.number heard.service.seats ≡ Some c2 = ap (λ (x : ServiceStep Token). seat_numbered h.number x.service.seats) did ∙ at in
    let its2 : Its t2.pool key h c2 = record { sole = its.sole; there = there; lent = came_drained c h.lease l.stage its.lent; line = its.line } in
    let out : on h.number (steps d.service t2.calls) ≡ history c.line (line.Come part ∷ []) = ap (λ (x : ServiceStep Token). on_one (x.number == h.number) x.dones []) did
    ∙ on_here (c.number == h.number) (history c.line (line.Come part ∷ [])) (eq-eqb c.number h.number number) in
    let ours2 : Ours d key h c c2 (line.Come part ∷ []) t2 = record { its = its2; line = refl; out = out } in
    subst (λ (x : PoolTurn). Ours d key h c c2 (line.Come part ∷ []) x) (sym t) ours2

-- ---- It is gone: the application holds none, and doesn't wait

pub record Gone (key : ℕ) (d : Pool) : Type 0 where
  pub holds : theirs key d.holds ≡ []
  pub waits : places key d.line ≡ []

wrong_by : (d : Pool) (h : Hold) (part : Part Token) (way : Way) (s : Service) (hearing : Hearing) → hearing ≡ pool.Wrong
    → pool.comes_by d (calls.Came h.number part) s h.number way (lease_at (seat_numbered h.number d.service.seats)) hearing
    ≡ moves d (without_number h.number d.holds) d.line (calls.Came h.number part ∷ calls.Lost h.number ∷ [])
wrong_by d h part way s pool.Goes e = absurd (let u : ⊥ = cc in u)
wrong_by d h part way s pool.Settled e = absurd (let u : ⊥ = cc in u)
wrong_by d h part way s pool.Wrong e = refl

lost_gone : (d : Pool) (key : ℕ) (h : Hold) (c : Seat) (all : List (Call Token)) → Its d key h c → Gone key (moves d (without_number h.number d.holds) d.line all).pool
lost_gone d key h c all its = record { holds = theirs_left key h (λ (x : Hold). not (x.number == h.number)) d.holds its.sole (not_same h.number); waits = its.line }

pub hears_wrong : (d : Pool) (key : ℕ) (h : Hold) (c : Seat) (part : Part Token) (way : Way) → Its d key h c → heard_of c.line part ≡ pool.Wrong → Gone key (turn d (pool.Comes h.number part way)).pool
hears_wrong d key h c part way its wrong =
    let heard = step {T = Token} d.service (calls.Came h.number part) in
    let hearing : pool.hearing heard.dones ≡ heard_of c.line part = ap (λ (x : ServiceStep Token). pool.hearing x.dones) (came_step d h c part its.there) in
    let all : List (Call Token) = calls.Came h.number part ∷ calls.Lost h.number ∷ [] in
    let t2 : PoolTurn = pool.with_broken h.number heard.dones (moves d (without_number h.number d.holds) d.line all) in
    let t : turn d (pool.Comes h.number part way) ≡ t2 = ap (pool.with_broken h.number heard.dones) (wrong_by d h part way heard.service (pool.hearing heard.dones) (hearing ∙ wrong)) in
    let gone = lost_gone d key h c all its in
    let gone2 : Gone key t2.pool = record { holds = gone.holds; waits = gone.waits } in
    subst (λ (x : PoolTurn). Gone key x.pool) (sym t) gone2

pub loses_gone : (d : Pool) (key : ℕ) (h : Hold) (c : Seat) → Its d key h c → Gone key (turn d (pool.Loses h.number)).pool
loses_gone d key h c its = lost_gone d key h c (calls.Lost h.number ∷ []) its

pub leaves_gone : (d : Pool) (key : ℕ) (h : Hold) (c : Seat) (gives : Bool) (way : Way) → Sound d → Its d key h c → Gone key (turn d (pool.Leaves key gives way)).pool
leaves_gone d key h c gives way sound its =
    let f = found d key h c sound its in
    let t2 : PoolTurn = moves d (without_lease h.lease d.holds) (pool.without key d.line) (pool.releasing d.service h.lease h.number gives way) in
    let t : turn d (pool.Leaves key gives way) ≡ t2 = ap (λ (x : Option Hold). pool.leaves d key gives way x) f in
    let gone : Gone key t2.pool = record {
      holds = theirs_left key h (λ (x : Hold). not (x.lease == h.lease)) d.holds its.sole (not_same h.lease);
      waits = none_filtered key (λ (x : ℕ). not (x == key)) d.line its.line;
    } in
    subst (λ (x : PoolTurn). Gone key x.pool) (sym t) gone

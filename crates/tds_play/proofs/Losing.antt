-- A delivery and an event as they were met, where the carrier may have failed.
use Rattle.std.specs.Prelude.{IfOk}
use Rattle.std.proofs.Common.{◌≡◌, ◌≤◌, ◌+◌, ℕ, min, Bool, true, false, refl, sym, ap, subst, Option, Result, Ok, Err, arith}
use Rattle.tds_session.specs.Answer.{Answers}
use Rattle.tds_world.specs.declared.event.Event.{Event}
use Rattle.tds_world.specs.declared.event.Event.TheVariants as event
use Rattle.tds_world.specs.declared.outcome.Outcome.{Outcome}
use Rattle.tds_world.specs.declared.outcome.Outcome.TheVariants as outcome
use Rattle.tds_world.specs.Arrivals.{reach_client, reach_server, to_client, to_server, drains}
use Rattle.tds_world.specs.Connection.{Connection, down_underway, up_underway}
use Rattle.tds_world.specs.Losses.{bringing, came_in, loss_by, met}
use Rattle.tds_world.specs.Pool.{Acted}
use Rattle.tds_play.specs.Pipe.{Pipe}
use Rattle.tds_play.specs.Plays.{RefinesAct, RepresentsConnection, after, count_by, count_of, cut_where, delivers_down, delivers_up, loss_of, outcome_of}
use Rattle.tds_play.specs.Seen.{done_as}
use Rattle.tds_play.specs.declared.link.EventDone.{EventDone}
use Rattle.tds_play.specs.declared.link.Link.{Link}
use Rattle.tds_play.specs.Seats.{Seat}

-- ---- Which event it was

-- Only a delivery is met with fewer bytes.
pub plain_met : (lost : Bool) (o : Outcome) (e : Event) → ((k : ℕ) → bringing k e ≡ e) → met (loss_by lost o) e ≡ e
plain_met true o e same = same (came_in o)
plain_met false o e same = refl

pub up_met : (lost : Bool) (o : Outcome) (n count : ℕ) → met (loss_by lost o) (event.ToServer n count) ≡ event.ToServer n (count_by lost o count)
up_met true o n count = refl
up_met false o n count = refl

pub down_met : (lost : Bool) (o : Outcome) (n count : ℕ) → met (loss_by lost o) (event.ToClient n count) ≡ event.ToClient n (count_by lost o count)
down_met true o n count = refl
down_met false o n count = refl

-- ---- What a delivery came to

pub delivered_up : {E S : Type 0} (number size most k : ℕ) (engine : E) (done : EventDone) (lost : Bool) (new : Link E S) (seat : Seat) (pipe : Option Pipe) (answers : Answers) (c : Connection)
    → done ≡ record { outcome = outcome.ToServer k; lost = lost } → (lost ≡ false → k ≡ min most (up_underway c)) → k ≤ up_underway c
    → RepresentsConnection number size engine new seat pipe (cut_where lost (to_server answers k c))
    → RefinesAct number size engine done new seat pipe (delivers_up answers (count_of done most) c) c
delivered_up {E} {S} number size most k engine done true new seat pipe answers c is all less played =
    subst (λ (d : EventDone). RefinesAct number size engine d new seat pipe (delivers_up answers (count_of d most) c) c) (sym is)
    (record { outcome = ap outcome.ToServer (omega (arith, less)); played = played })
delivered_up {E} {S} number size most k engine done false new seat pipe answers c is all less played =
    let same : k ≡ min most (up_underway c) = all refl in
    let reached : min k (up_underway c) ≡ min most (up_underway c) = omega (arith, same) in
    subst (λ (d : EventDone). RefinesAct number size engine d new seat pipe (delivers_up answers (count_of d most) c) c) (sym is)
    (record {
      outcome = ap outcome.ToServer same;
      played = subst (λ (x : ℕ). RepresentsConnection number size engine new seat pipe (reach_server answers c c.to_server.waiting (c.to_server.part + x))) reached played;
    })

pub delivered_down : {E S : Type 0} (number size most k : ℕ) (engine : E) (done : EventDone) (lost : Bool) (new : Link E S) (seat : Seat) (pipe : Option Pipe) (c : Connection)
    → done ≡ record { outcome = outcome.ToClient k; lost = lost } → (lost ≡ false → k ≡ min most (down_underway c)) → k ≤ down_underway c
    → RepresentsConnection number size engine new seat pipe (cut_where lost (to_client k c))
    → RefinesAct number size engine done new seat pipe (delivers_down (count_of done most) c) c
delivered_down {E} {S} number size most k engine done true new seat pipe c is all less played =
    subst (λ (d : EventDone). RefinesAct number size engine d new seat pipe (delivers_down (count_of d most) c) c) (sym is)
    (record { outcome = ap outcome.ToClient (omega (arith, less)); played = played })
delivered_down {E} {S} number size most k engine done false new seat pipe c is all less played =
    let same : k ≡ min most (down_underway c) = all refl in
    let reached : min k (down_underway c) ≡ min most (down_underway c) = omega (arith, same) in
    subst (λ (d : EventDone). RefinesAct number size engine d new seat pipe (delivers_down (count_of d most) c) c) (sym is)
    (record {
      outcome = ap outcome.ToClient same;
      played = subst (λ (x : ℕ). RepresentsConnection number size engine new seat pipe (drains (reach_client c c.to_client.waiting (c.to_client.part + x)))) reached played;
    })

-- ---- What an event came to

-- An event that can't meet the carrier.
pub whole_alike : {E S : Type 0} (number size : ℕ) (engine : E) (done : EventDone) (new : Link E S) (seat : Seat) (pipe : Option Pipe) (acts : Event → Acted) (e : Event) (c : Connection)
    → (done ≡ done_as (outcome_of (acts e))) × RepresentsConnection number size engine new seat pipe (after (acts e) c)
    → RefinesAct number size engine done new seat pipe (acts (met (loss_of done) e)) c
whole_alike {E} {S} number size engine done new seat pipe acts e c h =
    subst (λ (d : EventDone). RefinesAct number size engine d new seat pipe (acts (met (loss_of d) e)) c) (sym h.0) (record { outcome = refl; played = h.1 })

pub whole_ok : {E S B : Type 0} (number size : ℕ) (engine : E) (r : Result EventDone B) (new : Link E S) (seat : Seat) (pipe : Option Pipe) (acts : Event → Acted) (e : Event) (c : Connection)
    → IfOk r (λ done. (done ≡ done_as (outcome_of (acts e))) × RepresentsConnection number size engine new seat pipe (after (acts e) c))
    → IfOk r (λ done. RefinesAct number size engine done new seat pipe (acts (met (loss_of done) e)) c)
whole_ok number size engine (Ok done) new seat pipe acts e c h = whole_alike number size engine done new seat pipe acts e c h
whole_ok number size engine (Err why) new seat pipe acts e c h = h

-- What was done is what the event does as it was met.
pub met_ok : {E S B : Type 0} (number size : ℕ) (engine : E) (r : Result EventDone B) (new : Link E S) (seat : Seat) (pipe : Option Pipe) (c : Connection) (acted does : EventDone → Acted)
    → ((done : EventDone) → acted done ≡ does done)
    → IfOk r (λ done. RefinesAct number size engine done new seat pipe (does done) c)
    → IfOk r (λ done. RefinesAct number size engine done new seat pipe (acted done) c)
met_ok number size engine (Ok done) new seat pipe c acted does same h = subst (λ (a : Acted). RefinesAct number size engine done new seat pipe a c) (sym (same done)) h
met_ok number size engine (Err why) new seat pipe c acted does same h = h

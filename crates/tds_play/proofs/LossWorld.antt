-- The world after an event with its loss: the event's own, and its connection is cut.
use Rattle.std.proofs.Common.{◌≡◌, ◌∙◌, ℕ, zero, suc, ◌≤◌, Bool, true, false, cond, List, [], ◌∷◌, length, Option, Some, refl, sym, ap, subst, arith}
use Rattle.std.proofs.lemmas.Option.{slice_get_within}
use Rattle.std.specs.List.{slice_get}
use Rattle.tds_session.specs.Answer.{Answers}
use Rattle.tds_world.specs.declared.event.Event.{Event}
use Rattle.tds_world.specs.declared.event.Event.TheVariants as event
use Rattle.tds_world.specs.declared.event.Setup.{Setup}
use Rattle.tds_world.specs.declared.outcome.Opened.TheVariants as opened
use Rattle.tds_world.specs.declared.outcome.Outcome.{Outcome}
use Rattle.tds_world.specs.declared.outcome.Outcome.TheVariants as outcome
use Rattle.tds_world.specs.declared.outcome.Refusal.TheVariants as refusal
use Rattle.tds_world.specs.declared.report.Place.TheVariants.{Leased}
use Rattle.tds_world.specs.Connection.{Connection, Standing, In, Cut, is_cut, cut, new_connection}
use Rattle.tds_world.specs.Events.{happens, happens_at, settles, world_after}
use Rattle.tds_world.specs.Losses.{bringing, came_in, cuts, link_of, loss_by, met, number_of, world_then}
use Rattle.tds_world.specs.Pool.{Acted, Refuses, Does, opens, to_lend}
use Rattle.tds_world.specs.World.{World, next_number, put, uncut_in}
use Rattle.tds_world.specs.World as world
use Rattle.tds_world.proofs.events.Grows.{notes_leave}
use Rattle.tds_play.specs.Plays.{after, cut_where}
use Rattle.tds_play.proofs.AllCut.{cut_again}
use Rattle.tds_play.proofs.AllPlayed.{put_same}

-- ---- What is put at a place

pub put_there : {A : Type 0} (xs : List A) (i : ℕ) (x : A) → i ≤ length xs → slice_get (put i x xs) i ≡ Some x
put_there [] zero x most = refl
put_there [] (suc i) x most = absurd (omega (arith, most))
put_there (y ∷ xs) zero x most = refl
put_there (y ∷ xs) (suc i) x most = put_there xs i x (omega (arith, most))

put_twice : {A : Type 0} (xs : List A) (i : ℕ) (x y : A) → i ≤ length xs → put i y (put i x xs) ≡ put i y xs
put_twice [] zero x y most = refl
put_twice [] (suc i) x y most = absurd (omega (arith, most))
put_twice (z ∷ xs) zero x y most = refl
put_twice (z ∷ xs) (suc i) x y most = ap (λ ys. z ∷ ys) (put_twice xs i x y (omega (arith, most)))

-- ---- A world with other connections

-- It differs from that world in these connections alone.
pub record IsMoved (new old : World) (cs : List Connection) : Type 0 where
  pub connections : new.connections ≡ cs
  pub leases : new.leases ≡ old.leases
  pub tickets : new.tickets ≡ old.tickets
  pub asked : new.asked_on ≡ old.asked_on

-- Where a connection is cut. One that is cut already stays as it is.
cut_then : (setup : Setup) (answers : Answers) (w : World) (place : ℕ) (d : Connection) → slice_get w.connections place ≡ Some d
    → IsMoved (happens setup answers (event.Cut (suc place)) w).1 w (put place (cut d) w.connections)
cut_then setup answers w place d there =
    subst (λ (o : Option Connection). IsMoved (happens_at setup answers (event.Cut (suc place)) w (uncut_in refusal.UnknownConnection (suc place) o)).1 w (put place (cut d) w.connections))
    (sym there) (by_standing d.standing refl)
  where
    by_standing : (s : Standing) → d.standing ≡ s → IsMoved (happens_at setup answers (event.Cut (suc place)) w (cond (is_cut s) (world.Missing refusal.UnknownConnection) (world.Here (suc place) d))).1 w (put place (cut d) w.connections)
    by_standing (In p) e = record { connections = refl; leases = refl; tickets = refl; asked = refl }
    by_standing Cut e = record {
      connections = sym (put_same w.connections place d there) ∙ ap (λ (x : Connection). put place x w.connections) (cut_again d e);
      leases = refl;
      tickets = refl;
      asked = refl;
    }

-- Where an event moved the connection at a place, and the connection is cut then.
cut_moved : (setup : Setup) (answers : Answers) (w : World) (cs : List Connection) (place : ℕ) (d : Connection) → place ≤ length cs
    → w.connections ≡ put place d cs → IsMoved (happens setup answers (event.Cut (suc place)) w).1 w (put place (cut d) cs)
cut_moved setup answers w cs place d most at =
    let there : slice_get w.connections place ≡ Some d = ap (λ (xs : List Connection). slice_get xs place) at ∙ put_there cs place d most in
    let then : IsMoved (happens setup answers (event.Cut (suc place)) w).1 w (put place (cut d) w.connections) = cut_then setup answers w place d there in
    record {
      connections = then.connections ∙ ap (put place (cut d)) at ∙ put_twice cs place d (cut d) most;
      leases = then.leases;
      tickets = then.tickets;
      asked = then.asked;
    }

-- ---- An event with its loss

-- The connections after an event that settled on one.
settled_at : (e : Event) (place : ℕ) (w : World) (c : Connection) (acted : Acted) → slice_get w.connections place ≡ Some c
    → (settles e (suc place) w acted).1.connections ≡ put place (after acted c) w.connections
settled_at e place w c (Refuses why) there = sym (put_same w.connections place c there)
settled_at e place w c (Does what d) there = notes_leave e (suc place) d.heard (record w { connections = put place d w.connections })

-- An event that moved the connection at a place, which is cut where it was lost.
moved_by : (setup : Setup) (answers : Answers) (w then : World) (e : Event) (place : ℕ) (d : Connection) (lost : Bool) (o : Outcome) → place ≤ length w.connections
    → (happens setup answers (met (loss_by lost o) e) w).1 ≡ then
    → then.connections ≡ put place d w.connections
    → (lost ≡ true → link_of setup w e ≡ Some (suc place))
    → IsMoved (world_then setup answers w (record { event = e; loss = loss_by lost o })) then (put place (cut_where lost d) w.connections)
moved_by setup answers w then e place d false o most is at link =
    subst (λ (x : World). IsMoved x then (put place d w.connections)) (sym is) (record { connections = at; leases = refl; tickets = refl; asked = refl })
moved_by setup answers w then e place d true o most is at link =
    subst (λ (n : Option ℕ). IsMoved (world_after setup answers (bringing (came_in o) e ∷ cuts n) w) then (put place (cut d) w.connections)) (sym (link refl))
    (subst (λ (x : World). IsMoved (happens setup answers (event.Cut (suc place)) x).1 then (put place (cut d) w.connections)) (sym is)
    (cut_moved setup answers then w.connections place d most at))

-- An event that settles on a connection.
pub settled_moved : (setup : Setup) (answers : Answers) (w : World) (e : Event) (place : ℕ) (c : Connection) (acted : Acted) (lost : Bool) (o : Outcome) → slice_get w.connections place ≡ Some c
    → happens setup answers (met (loss_by lost o) e) w ≡ settles (met (loss_by lost o) e) (suc place) w acted
    → (lost ≡ true → link_of setup w e ≡ Some (suc place))
    → IsMoved (world_then setup answers w (record { event = e; loss = loss_by lost o })) (settles (met (loss_by lost o) e) (suc place) w acted).1 (put place (cut_where lost (after acted c)) w.connections)
settled_moved setup answers w e place c acted lost o there is link =
    moved_by setup answers w (settles (met (loss_by lost o) e) (suc place) w acted).1 e place (after acted c) lost o
    (omega (arith, slice_get_within w.connections place c there))
    (ap (λ (next : Outcome × World). next.1) is)
    (settled_at (met (loss_by lost o) e) place w c acted there) link

lease_met : (setup : Setup) (answers : Answers) (w : World) (lost : Bool) (o : Outcome) → happens setup answers (met (loss_by lost o) event.Lease) w ≡ happens_at setup answers event.Lease w (to_lend setup w)
lease_met setup answers w true o = refl
lease_met setup answers w false o = refl

-- A lease that opens a connection.
pub opened_outcome : (setup : Setup) (answers : Answers) (w : World) (lost : Bool) (o : Outcome) → to_lend setup w ≡ world.Opens (next_number w.connections)
    → (happens setup answers (met (loss_by lost o) event.Lease) w).0 ≡ outcome.Leased (next_number w.leases) (next_number w.connections) opened.New
opened_outcome setup answers w lost o lends =
    ap (λ (next : Outcome × World). next.0) (lease_met setup answers w lost o ∙ ap (happens_at setup answers event.Lease w) lends)

pub opened_moved : (setup : Setup) (answers : Answers) (w : World) (lost : Bool) (o : Outcome) → to_lend setup w ≡ world.Opens (next_number w.connections)
    → IsMoved (world_then setup answers w (record { event = event.Lease; loss = loss_by lost o }))
    (settles event.Lease (next_number w.connections) w (opens setup.on_attention (next_number w.leases) (next_number w.connections))).1
    (put (length w.connections) (cut_where lost (new_connection setup.on_attention (Leased (next_number w.leases)))) w.connections)
opened_moved setup answers w lost o lends =
    moved_by setup answers w (settles event.Lease (next_number w.connections) w (opens setup.on_attention (next_number w.leases) (next_number w.connections))).1 event.Lease (length w.connections) (new_connection setup.on_attention (Leased (next_number w.leases))) lost o
    (omega arith)
    (ap (λ (next : Outcome × World). next.1) (lease_met setup answers w lost o ∙ ap (happens_at setup answers event.Lease w) lends))
    refl
    (λ z. ap number_of lends)

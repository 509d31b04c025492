-- What a report marks as lost.
use Rattle.std.proofs.Common.{◌≡◌, suc, List, [], ◌∷◌, ◌++◌, length, map, Bool, true, false, refl, sym, ap, ◌∙◌}
use Rattle.std.specs.List.{AllByRecursion}
use Rattle.tds_session.specs.Answer.{Answers}
use Rattle.tds_world.specs.declared.event.Event.{Event}
use Rattle.tds_world.specs.declared.event.Setup.{Setup}
use Rattle.tds_world.specs.declared.outcome.Outcome.{Outcome}
use Rattle.tds_world.specs.declared.report.EventReport.{EventReport}
use Rattle.tds_world.specs.Bounds.{IsEvent}
use Rattle.tds_world.specs.Losses.{Nothing, Played, loss_by, loss_in, world_then, event_reports_with, marked}
use Rattle.tds_world.specs.WithLosses.{AreEvents, AreMarked, LosesNothing, events_of}
use Rattle.tds_world.specs.World.{World}

pub events : (es : List Event) (rs : List EventReport) → events_of (marked es rs) ≡ es
events [] rs = refl
events (e ∷ es) [] = ap (λ xs. e ∷ xs) (events es [])
events (e ∷ es) (r ∷ rs) = ap (λ xs. e ∷ xs) (events es rs)

pub known : (es : List Event) (rs : List EventReport) → AllByRecursion IsEvent es → AreEvents (marked es rs)
known [] rs x = tt
known (e ∷ es) [] x = (x.0, known es [] x.1)
known (e ∷ es) (r ∷ rs) x = (x.0, known es rs x.1)

not_lost : (b : Bool) (o : Outcome) → b ≡ false → loss_by b o ≡ Nothing
not_lost true o e = absurd (cc)
not_lost false o e = refl

pub unlost : (es : List Event) (rs : List EventReport) → AllByRecursion (λ (r : EventReport). r.lost ≡ false) rs → LosesNothing (marked es rs)
unlost [] rs x = tt
unlost (e ∷ es) [] x = (refl, unlost es [] tt)
unlost (e ∷ es) (r ∷ rs) x = (not_lost r.lost r.outcome x.0, unlost es rs x.1)

pub front : (es fs : List Event) (rs : List EventReport) → (qs : List Played) × (marked (es ++ fs) rs ≡ marked es rs ++ qs)
front [] fs rs = (marked fs rs, refl)
front (e ∷ es) fs [] =
    let f : (qs : List Played) × (marked (es ++ fs) [] ≡ marked es [] ++ qs) = front es fs [] in
    let p : Played = record { event = e; loss = Nothing } in
    (f.0, ap (λ xs. p ∷ xs) f.1)
front (e ∷ es) fs (r ∷ rs) =
    let f : (qs : List Played) × (marked (es ++ fs) rs ≡ marked es rs ++ qs) = front es fs rs in
    let p : Played = record { event = e; loss = loss_in r } in
    (f.0, ap (λ xs. p ∷ xs) f.1)

pub behind : (es fs : List Event) (rs ss : List EventReport) → length es ≡ length rs → marked (es ++ fs) (rs ++ ss) ≡ marked es rs ++ marked fs ss
behind [] fs [] ss i = refl
behind [] fs (r ∷ rs) ss i = absurd (cc)
behind (e ∷ es) fs [] ss i = absurd (cc)
behind (e ∷ es) fs (r ∷ rs) ss i =
    let p : Played = record { event = e; loss = loss_in r } in
    ap (λ xs. p ∷ xs) (behind es fs rs ss (let less : length es ≡ length rs = cc in less))

pub count : (setup : Setup) (answers : Answers) (ps : List Played) (w : World) → length (event_reports_with setup answers ps w) ≡ length ps
count setup answers [] w = refl
count setup answers (p ∷ ps) w = ap suc (count setup answers ps (world_then setup answers w p))

mapped : {A B : Type 0} (f : A → B) (xs : List A) → length (map f xs) ≡ length xs
mapped f [] = refl
mapped f (x ∷ xs) = ap suc (mapped f xs)

pub each : (setup : Setup) (answers : Answers) (es : List Event) (rs : List EventReport) (w : World) → rs ≡ event_reports_with setup answers (marked es rs) w → length rs ≡ length es
each setup answers es rs w e =
    ap (λ (xs : List EventReport). length xs) e
    ∙ (count setup answers (marked es rs) w
    ∙ (sym (mapped (λ (p : Played). p.event) (marked es rs))
    ∙ ap (λ (xs : List Event). length xs) (events es rs)))

pub marks : (setup : Setup) (answers : Answers) (ps : List Played) (w : World) → AreMarked setup answers ps w → marked (events_of ps) (event_reports_with setup answers ps w) ≡ ps
marks setup answers [] w x = refl
marks setup answers (p ∷ ps) w x =
    let v : World = world_then setup answers w p in
    ap (λ l. (let q : Played = record { event = p.event; loss = l } in q) ∷ marked (events_of ps) (event_reports_with setup answers ps v)) (sym x.0)
    ∙ ap (λ qs. p ∷ qs) (marks setup answers ps v x.1)

-- The worlds of a play over links that fail are those of the plain schedule that it stands for.
use Rattle.std.proofs.Common.{◌≡◌, ℕ, List, [], ◌∷◌, ◌++◌, refl, sym, ap, subst, ◌∙◌, Option, Some, None}
use Rattle.std.specs.List.{AllByRecursion}
use Rattle.tds_session.specs.Answer.{Answers}
use Rattle.tds_world.specs.declared.event.Event.{Event}
use Rattle.tds_world.specs.declared.event.Event.TheVariants as event
use Rattle.tds_world.specs.declared.event.Setup.{Setup}
use Rattle.tds_world.specs.Bounds.{IsEvent}
use Rattle.tds_world.specs.Events.{happens, world_after}
use Rattle.tds_world.specs.Losses.{Loss, Nothing, Failed, Played, bringing, met, link_of, cuts_after, plainly, world_then, world_with, with_cuts, report_then, event_reports_with, observed_with}
use Rattle.tds_world.specs.Observed.{event_reports, observed, report_of}
use Rattle.tds_world.specs.WithLosses.{AreEvents, LosesNothing, AlwaysWith, events_of}
use Rattle.tds_world.specs.World.{World, new_world}
use Rattle.tds_world.proofs.events.Grows.{after_both}
use Rattle.tds_world.proofs.reports.Asks.{one_behind}

pub plain_worlds : (setup : Setup) (answers : Answers) (ps : List Played) (w : World) → world_with setup answers ps w ≡ world_after setup answers (with_cuts setup answers ps w) w
plain_worlds setup answers [] w = refl
plain_worlds setup answers (p ∷ ps) w =
    let v : World = world_then setup answers w p in
    plain_worlds setup answers ps v ∙ sym (after_both setup answers (plainly setup w p) (with_cuts setup answers ps v) w)

-- What holds of the world after any events holds of the world after any play.
pub always_with : (P : World → Type 0) (setup : Setup) (answers : Answers) → ((events : List Event) → P (world_after setup answers events new_world)) → AlwaysWith setup answers P
always_with P setup answers h ps = subst P (sym (plain_worlds setup answers ps new_world)) (h (with_cuts setup answers ps new_world))

-- ---- Its events

pub bringing_is : (k : ℕ) (e : Event) → IsEvent e → IsEvent (bringing k e)
bringing_is k event.Lease x = x
bringing_is k e x = x

-- The events that one stands for, and others behind them.
plainly_are : (l : Loss) (link : Option ℕ) (e : Event) (es : List Event) → IsEvent e → AllByRecursion IsEvent es → AllByRecursion IsEvent ((met l e ∷ cuts_after l link) ++ es)
plainly_are Nothing link e es x h = (x, h)
plainly_are (Failed k) None e es x h = (bringing_is k e x, h)
plainly_are (Failed k) (Some n) e es x h = (bringing_is k e x, (tt, h))

pub plain_events : (setup : Setup) (answers : Answers) (ps : List Played) (w : World) → AreEvents ps → AllByRecursion IsEvent (with_cuts setup answers ps w)
plain_events setup answers [] w x = tt
plain_events setup answers (p ∷ ps) w x =
    let v : World = world_then setup answers w p in
    plainly_are p.loss (link_of setup w p.event) p.event (with_cuts setup answers ps v) x.0 (plain_events setup answers ps v x.1)

-- ---- A front and the rest

pub world_fronts : (setup : Setup) (answers : Answers) (ps qs : List Played) (w : World) → world_with setup answers (ps ++ qs) w ≡ world_with setup answers qs (world_with setup answers ps w)
world_fronts setup answers [] qs w = refl
world_fronts setup answers (p ∷ ps) qs w = world_fronts setup answers ps qs (world_then setup answers w p)

pub schedule_fronts : (setup : Setup) (answers : Answers) (ps qs : List Played) (w : World) → with_cuts setup answers (ps ++ qs) w ≡ with_cuts setup answers ps w ++ with_cuts setup answers qs (world_with setup answers ps w)
schedule_fronts setup answers [] qs w = refl
schedule_fronts setup answers (p ∷ ps) qs w =
    let v : World = world_then setup answers w p in
    ap (λ es. plainly setup w p ++ es) (schedule_fronts setup answers ps qs v)
    ∙ sym (one_behind (plainly setup w p) (with_cuts setup answers ps v) (with_cuts setup answers qs (world_with setup answers ps v)))

pub told_fronts : (setup : Setup) (answers : Answers) (ps qs : List Played) (w : World) → event_reports_with setup answers (ps ++ qs) w ≡ event_reports_with setup answers ps w ++ event_reports_with setup answers qs (world_with setup answers ps w)
told_fronts setup answers [] qs w = refl
told_fronts setup answers (p ∷ ps) qs w =
    ap (λ rs. report_then setup answers w p ∷ rs) (told_fronts setup answers ps qs (world_then setup answers w p))

-- ---- Nothing is lost

pub lost_no_event : (setup : Setup) (answers : Answers) (ps : List Played) (w : World) → LosesNothing ps → with_cuts setup answers ps w ≡ events_of ps
lost_no_event setup answers [] w x = refl
lost_no_event setup answers (p ∷ ps) w x = by_loss p.loss x.0 (λ v. lost_no_event setup answers ps v x.1)
  where
    by_loss : (l : Loss) → l ≡ Nothing → ((v : World) → with_cuts setup answers ps v ≡ events_of ps) → (met l p.event ∷ cuts_after l (link_of setup w p.event)) ++ with_cuts setup answers ps (world_after setup answers (met l p.event ∷ cuts_after l (link_of setup w p.event)) w) ≡ p.event ∷ events_of ps
    by_loss Nothing e h = ap (λ es. p.event ∷ es) (h (happens setup answers p.event w).1)
    by_loss (Failed k) e h = absurd (cc)

pub lost_no_world : (setup : Setup) (answers : Answers) (ps : List Played) (w : World) → LosesNothing ps → world_with setup answers ps w ≡ world_after setup answers (events_of ps) w
lost_no_world setup answers ps w x =
    plain_worlds setup answers ps w ∙ ap (λ es. world_after setup answers es w) (lost_no_event setup answers ps w x)

told_plainly : (setup : Setup) (answers : Answers) (ps : List Played) (w : World) → LosesNothing ps → event_reports_with setup answers ps w ≡ event_reports setup answers (events_of ps) w
told_plainly setup answers [] w x = refl
told_plainly setup answers (p ∷ ps) w x = by_loss p.loss x.0 (λ v. told_plainly setup answers ps v x.1)
  where
    by_loss : (l : Loss) → l ≡ Nothing → ((v : World) → event_reports_with setup answers ps v ≡ event_reports setup answers (events_of ps) v) → event_reports_with setup answers (record { event = p.event; loss = l } ∷ ps) w ≡ event_reports setup answers (p.event ∷ events_of ps) w
    by_loss Nothing e h =
        ap (λ rs. report_then setup answers w (record { event = p.event; loss = Nothing }) ∷ rs) (h (happens setup answers p.event w).1)
    by_loss (Failed k) e h = absurd (cc)

pub lost_no_report : (setup : Setup) (answers : Answers) (ps : List Played) → LosesNothing ps → observed_with setup answers ps ≡ observed setup answers (events_of ps)
lost_no_report setup answers ps x =
    ap (λ v. report_of v (event_reports_with setup answers ps new_world)) (lost_no_world setup answers ps new_world x)
    ∙ ap (report_of (world_after setup answers (events_of ps) new_world)) (told_plainly setup answers ps new_world x)

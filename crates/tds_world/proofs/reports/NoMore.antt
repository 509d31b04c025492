-- A request that a report shows as cancelled is given no more tokens.
use Rattle.std.proofs.Common.{◌≡◌, ℕ, suc, List, [], ◌∷◌, ◌++◌, Bool, true, false, refl, sym, ap, subst, ◌∙◌, Some}
use Rattle.std.specs.List.{AllByRecursion}
use Rattle.tds_session.specs.Answer.{Answers}
use Rattle.tds_world.specs.declared.event.Event.{Event}
use Rattle.tds_world.specs.declared.event.Setup.{Setup}
use Rattle.tds_world.specs.Connection.{Connection, records, is_cut}
use Rattle.tds_world.specs.Events.{about, acts, settles, happens_at, happens, world_after}
use Rattle.tds_world.specs.Lawful.{Lawful}
use Rattle.tds_world.specs.Laws.{request_in, request_on}
use Rattle.tds_world.specs.Observed.{event_reports, report_on, request_report, request_reports}
use Rattle.tds_world.specs.Phase.{phase_by, status_by}
use Rattle.tds_world.specs.Pool.{Acted, Refuses, Does}
use Rattle.tds_world.specs.Record.{Record, Out, NotBegun, Begun, Whole, Fate, Open, Finished, Cancelled, Acknowledged, is_cancelled}
use Rattle.tds_world.specs.Reports.{Ask, asked_in, IsCancelled, GivesNoMore, ShowsNothingAfterCancel}
use Rattle.tds_world.specs.World.{World, Found, Missing, Here, Opens, new_world, numbered, put_numbered}
use Rattle.tds_world.proofs.events.Agreement.{new_agrees}
use Rattle.tds_world.proofs.events.Grows.{Grown, after_grow, after_both, after_agrees}
use Rattle.tds_world.proofs.events.Happens.{happens_cases}
use Rattle.tds_world.proofs.events.Worlds.{at_number}
use Rattle.tds_world.proofs.reports.Asks.{AreAsked, IsReported, on_some, all_asked, nothing_more, one_behind}
use Rattle.tds_world.proofs.requests.Given.{Follows, Later, growth, in_grown}
use Rattle.tds_world.proofs.requests.Order.{asked_then, notes_asked, asked_cases}

-- ---- What is asked later comes behind

-- The requests of the one world are the first ones of the other.
abbrev pub AsksMore : List ℕ → List ℕ → Type 0
AsksMore ns ms = (more : List ℕ) × (ms ≡ ns ++ more)

same_asked : (ns : List ℕ) → AsksMore ns ns
same_asked ns = ([], nothing_more ns)

then_more : (e : Event) (n : ℕ) (ns : List ℕ) → AsksMore ns (asked_then e n ns)
then_more e n ns = asked_cases n ns (AsksMore ns) (same_asked ns) (n ∷ [], refl) e

settles_more : (e : Event) (n : ℕ) (w : World) (a : Acted) → AsksMore w.asked_on (settles e n w a).1.asked_on
settles_more e n w (Refuses why) = same_asked w.asked_on
settles_more e n w (Does what c) =
    let m : AsksMore w.asked_on (asked_then e n w.asked_on) = then_more e n w.asked_on in
    (m.0, notes_asked e n c.heard (record w { connections = put_numbered n c w.connections }) ∙ m.1)

found_more : (setup : Setup) (answers : Answers) (e : Event) (w : World) (f : Found) → AsksMore w.asked_on (happens_at setup answers e w f).1.asked_on
found_more setup answers e w (Missing why) = same_asked w.asked_on
found_more setup answers e w (Here n c) = settles_more e n w (acts setup answers w e n c)
found_more setup answers e w (Opens n) = same_asked w.asked_on

happens_more : (setup : Setup) (answers : Answers) (e : Event) (w : World) → AsksMore w.asked_on (happens setup answers e w).1.asked_on
happens_more setup answers e w =
    happens_cases setup answers w (λ e r. AsksMore w.asked_on r.1.asked_on)
    (same_asked w.asked_on)
    (same_asked w.asked_on)
    (λ e. found_more setup answers e w (about setup w e)) e

pub after_more : (setup : Setup) (answers : Answers) (events : List Event) (w : World) → AsksMore w.asked_on (world_after setup answers events w).asked_on
after_more setup answers [] w = same_asked w.asked_on
after_more setup answers (e ∷ es) w =
    let m : AsksMore w.asked_on (happens setup answers e w).1.asked_on = happens_more setup answers e w in
    let k : AsksMore (happens setup answers e w).1.asked_on (world_after setup answers es (happens setup answers e w).1).asked_on = after_more setup answers es (happens setup answers e w).1 in
    (m.0 ++ k.0, k.1 ∙ (ap (λ ns. ns ++ k.0) m.1 ∙ one_behind w.asked_on m.0 k.0))

-- ---- What is shown as cancelled is

shown_cancelled : (fate : Fate) (cut : Bool) (out : Out) → IsCancelled (status_by fate cut (phase_by fate out)) → is_cancelled fate ≡ true
shown_cancelled Finished cut out c = absurd c
shown_cancelled Acknowledged cut out c = refl
shown_cancelled Cancelled cut out c = refl
shown_cancelled Open true NotBegun c = absurd c
shown_cancelled Open true (Begun n) c = absurd c
shown_cancelled Open true (Whole n) c = absurd c
shown_cancelled Open false NotBegun c = absurd c
shown_cancelled Open false (Begun n) c = absurd c
shown_cancelled Open false (Whole n) c = absurd c

-- ---- The reports

-- The request of this number is reported alone in a later world.
abbrev pub StillReported : World → ℕ → ℕ → Record → Type 0
StillReported v n k q = (p : Record) × IsReported (λ c r. Unit {0}) k (numbered v.connections n) p × Later q p

each_any : (qs : List Record) → AllByRecursion (λ (q : Record). Unit {0}) qs
each_any [] = tt
each_any (q ∷ qs) = (tt, each_any qs)

pub all_any : (cs : List Connection) → AllByRecursion (λ c. AllByRecursion (λ (q : Record). Unit {0}) (records c)) cs
all_any [] = tt
all_any (c ∷ cs) = (each_any (records c), all_any cs)

pub still_reported : (w v : World) (n k : ℕ) (q : Record) → Grown Follows w.connections v.connections → request_on w n k ≡ Some q → StillReported v n k q
still_reported w v n k q g e =
    let l : (p : Record) × (request_in k (numbered v.connections n) ≡ Some p) × Later q p = in_grown k n w.connections v.connections q g e in
    (l.0, on_some (λ c r. Unit {0}) k (numbered v.connections n) l.0 (at_number (λ c. AllByRecursion (λ (q : Record). Unit {0}) (records c)) v.connections n (all_any v.connections)) l.1, l.2)

gives_no_more : (w v : World) (k : ℕ) (ns more : List ℕ) (xs : List Ask) → Grown Follows w.connections v.connections → AreAsked w k ns xs → GivesNoMore (request_reports w k ns) (request_reports v k (ns ++ more))
gives_no_more w v k [] more xs g a = tt
gives_no_more w v k (n ∷ ns) more [] g a = absurd a
gives_no_more w v k (n ∷ ns) more (x ∷ xs) g a =
    let q : Record = a.0.request in
    let r : IsReported (λ c q. Unit {0}) k (numbered w.connections n) q =
    on_some (λ c q. Unit {0}) k (numbered w.connections n) q (at_number (λ c. AllByRecursion (λ (q : Record). Unit {0}) (records c)) w.connections n (all_any w.connections)) a.0.there in
    let s : StillReported v n k q = still_reported w v n k q g a.0.there in
    let one : GivesNoMore (request_report (is_cut r.on.standing) q ∷ request_reports w (suc k) ns) (request_report (is_cut s.1.on.standing) s.0 ∷ request_reports v (suc k) (ns ++ more)) = (
      λ c. s.2.given (shown_cancelled q.fate (is_cut r.on.standing) q.out c),
      gives_no_more w v (suc k) ns more xs g a.1,
    ) in
    subst (λ rs. GivesNoMore (rs ++ request_reports w (suc k) ns) (report_on k (numbered v.connections n) ++ request_reports v (suc k) (ns ++ more))) (sym r.alone)
    (subst (λ rs. GivesNoMore (request_report (is_cut r.on.standing) q ∷ request_reports w (suc k) ns) (rs ++ request_reports v (suc k) (ns ++ more))) (sym s.1.alone) one)

pub nothing_after_cancel_is_shown : (setup : Setup) (answers : Answers) → Lawful answers → ShowsNothingAfterCancel setup answers
nothing_after_cancel_is_shown setup answers l events later =
    let w : World = world_after setup answers events new_world in
    let v : World = world_after setup answers later w in
    let m : AsksMore w.asked_on v.asked_on = after_more setup answers later w in
    let grown : Grown Follows w.connections v.connections = after_grow setup answers Follows later w (growth setup answers) (after_agrees setup answers events new_world new_agrees) in
    subst (λ u. GivesNoMore (request_reports w 1 w.asked_on) (request_reports u 1 u.asked_on)) (sym (after_both setup answers events later new_world))
    (subst (λ ns. GivesNoMore (request_reports w 1 w.asked_on) (request_reports v 1 ns)) (sym m.1)
    (gives_no_more w v 1 w.asked_on m.0 (asked_in events (event_reports setup answers events new_world)) grown (all_asked setup answers events)))

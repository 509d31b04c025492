-- From a cleaning on, until the connection is lent, an idle client has a fresh server.
use Rattle.std.proofs.Common.{◌≡◌, ◌≢◌, ◌-◌, ℕ, List, [], ◌∷◌, ◌++◌, Bool, true, false, eqb, refl, sym, ap, subst, ◌∙◌, Option, Some, None, arith}
use Rattle.std.proofs.lemmas.Bool.Decides.{nat_tests}
use Rattle.std.specs.List.{AllByRecursion}
use Rattle.tds_session.specs.Answer.{Answers}
use Rattle.tds_session.specs.Session.{IsFresh}
use Rattle.tds_world.specs.declared.event.Event.{Event}
use Rattle.tds_world.specs.declared.event.Event.TheVariants as event
use Rattle.tds_world.specs.declared.event.Setup.{Setup}
use Rattle.tds_world.specs.declared.outcome.Outcome.{Outcome}
use Rattle.tds_world.specs.declared.outcome.Outcome.TheVariants as outcome
use Rattle.tds_world.specs.declared.outcome.Refusal.TheVariants as refusal
use Rattle.tds_world.specs.declared.report.EventReport.{EventReport}
use Rattle.tds_world.specs.Cleaning.{can_clean, cleans}
use Rattle.tds_world.specs.Connection.{Connection, phase, is_cut, cut}
use Rattle.tds_world.specs.Events.{about, acts, cleans_by, settles, happens_at, happens, world_after}
use Rattle.tds_world.specs.Lawful.{Lawful}
use Rattle.tds_world.specs.left_clean.LeftClean.{AnswersClean, IsLeftClean}
use Rattle.tds_world.specs.left_clean.LeftCleanShown.{IsFreshIfIdle, lent_here, FreshUntilLent, FreshIfCleaned, EachLeftClean, ShowsLeftClean}
use Rattle.tds_world.specs.Losses.{Loss, Nothing, Failed, Played, met, link_of, cuts_after, world_then, report_then, event_reports_with}
use Rattle.tds_world.specs.Observed.{snapshots}
use Rattle.tds_world.specs.Phase.{Settled, phase_by, phase_in}
use Rattle.tds_world.specs.Pool.{Acted, Refuses, Does, is_free, opens}
use Rattle.tds_world.specs.Record.{Record, Fate, Open, Finished, Cancelled, Acknowledged, Out, NotBegun, Begun, Whole, is_finished, is_cancelled}
use Rattle.tds_world.specs.WithLosses.{AlwaysToldWith, events_of}
use Rattle.tds_world.specs.World.{World, Found, Missing, Here, Opens, new_world, numbered, next_number, put_numbered, by_number, uncut_in}
use Rattle.tds_world.proofs.events.Agreement.{new_agrees}
use Rattle.tds_world.proofs.events.Grows.{notes_leave, after_both, after_agrees}
use Rattle.tds_world.proofs.events.Happens.{happens_cases}
use Rattle.tds_world.proofs.events.Places.{StandsFor, FoundWith, about_stands, Agrees, none_at_end}
use Rattle.tds_world.proofs.events.Words.{OfSome, either}
use Rattle.tds_world.proofs.events.Worlds.{always, at_number}
use Rattle.tds_world.proofs.flow.Flow.{Sound}
use Rattle.tds_world.proofs.flow.Sound.{sound_kept}
use Rattle.tds_world.proofs.reports.Asks.{put_there, same_number}
use Rattle.tds_world.proofs.reports.Reports.{idle_settled}
use Rattle.tds_world.proofs.reports.Rest.{each_seen}
use Rattle.tds_world.proofs.requests.LeftClean.{left_clean}
use Rattle.tds_world.proofs.plays.Cleaned.{CleanedIn, Aside, Leaves, acted, put_other, cut_there}

-- ---- One event

-- Connection n was cleaned; it is aside, unless it was lent.
record WasCleaned (n : ℕ) (w : World) (lent : Bool) : Type 0 where
  pub on : Connection
  pub there : numbered w.connections n ≡ Some on
  pub cleaned : CleanedIn on.current
  pub aside : lent ≡ false → Aside on.standing

-- A world that events lead to.
abbrev Reached : Setup → Answers → World → Type 0
Reached setup answers w = (events : List Event) × (w ≡ world_after setup answers events new_world)

reached_then : (setup : Setup) (answers : Answers) (e : Event) (w : World) → Reached setup answers w → Reached setup answers (happens setup answers e w).1
reached_then setup answers e w r =
    (r.0 ++ e ∷ [], ap (λ v. (happens setup answers e v).1) r.1 ∙ sym (after_both setup answers r.0 (e ∷ []) new_world))

of_there : (P : Connection → Type 0) (w : World) (n : ℕ) (c : Connection) → numbered w.connections n ≡ Some c → AllByRecursion P w.connections → P c
of_there P w n c t h = subst (OfSome P) t (at_number P w.connections n h)

reached_agrees : (setup : Setup) (answers : Answers) (w : World) → Reached setup answers w → Agrees w
reached_agrees setup answers w r = subst Agrees (sym r.1) (after_agrees setup answers r.0 new_world new_agrees)

reached_sound : (setup : Setup) (answers : Answers) (w : World) → Lawful answers → Reached setup answers w → AllByRecursion Sound w.connections
reached_sound setup answers w l r = subst (λ (v : World). AllByRecursion Sound v.connections) (sym r.1) (always Sound setup answers r.0 (sound_kept setup answers l))

-- It stays where another connection is put.
elsewhere : (n m : ℕ) (w v : World) (d : Connection) (lent now : Bool) → m ≢ n → v.connections ≡ put_numbered m d w.connections → (now ≡ false → lent ≡ false) → WasCleaned n w lent → WasCleaned n v now
elsewhere n m w v d lent now differ e f h = record {
  on = h.on;
  there = ap (λ cs. numbered cs n) e ∙ put_other m n d h.on w.connections differ h.there;
  cleaned = h.cleaned;
  aside = λ z. h.aside (f z);
}

settled_here : (n : ℕ) (e : Event) (w : World) (c : Connection) (a : Acted) → numbered w.connections n ≡ Some c → Leaves n a → WasCleaned n w false → WasCleaned n (settles e n w a).1 (lent_here n (settles e n w a).0)
settled_here n e w c (Refuses why) t k h = record { on = h.on; there = h.there; cleaned = h.cleaned; aside = λ z. h.aside refl }
settled_here n e w c (Does what d) t k h = record {
  on = d;
  there = ap (λ cs. numbered cs n) (notes_leave e n d.heard (record w { connections = put_numbered n d w.connections })) ∙ put_there w.connections n c d t;
  cleaned = k.0;
  aside = k.1;
}

settled_elsewhere : (n m : ℕ) (e : Event) (w : World) (a : Acted) → m ≢ n → WasCleaned n w false → WasCleaned n (settles e m w a).1 (lent_here n (settles e m w a).0)
settled_elsewhere n m e w (Refuses why) differ h = record { on = h.on; there = h.there; cleaned = h.cleaned; aside = λ z. h.aside refl }
settled_elsewhere n m e w (Does what d) differ h =
    elsewhere n m w (settles e m w (Does what d)).1 d false (lent_here n what) differ (notes_leave e m d.heard (record w { connections = put_numbered m d w.connections })) (λ z. refl) h

by_eq : (P : Type 0) (m n : ℕ) → (m ≡ n → P) → (m ≢ n → P) → P
by_eq P m n f g = by_test (eqb m n) refl
  where
    by_test : (b : Bool) → eqb m n ≡ b → P
    by_test true e = f (grind (arith, nat_tests))
    by_test false e = g (λ z. let y : true ≡ false = sym (same_number n) ∙ (ap (λ x. eqb x n) (sym z) ∙ e) in absurd (cc))

found_then : (setup : Setup) (answers : Answers) (n : ℕ) (e : Event) (w : World) (f : Found) → Lawful answers → FoundWith w (StandsFor e) f → AllByRecursion Sound w.connections → WasCleaned n w false → WasCleaned n (happens_at setup answers e w f).1 (lent_here n (happens_at setup answers e w f).0)
found_then setup answers n e w (Missing why) l g s h = record { on = h.on; there = h.there; cleaned = h.cleaned; aside = λ z. h.aside refl }
found_then setup answers n e w (Here m c) l g s h =
    by_eq (WasCleaned n (settles e m w (acts setup answers w e m c)).1 (lent_here n (settles e m w (acts setup answers w e m c)).0)) m n
    (λ z. subst (λ i. WasCleaned n (settles e i w (acts setup answers w e i c)).1 (lent_here n (settles e i w (acts setup answers w e i c)).0)) (sym z)
    (let t : numbered w.connections n ≡ Some c = subst (λ i. numbered w.connections i ≡ Some c) z g.0 in
    let same : h.on ≡ c = (let q : Some h.on ≡ Some c = sym h.there ∙ t in cc) in
    settled_here n e w c (acts setup answers w e n c) t
    (acted setup answers w e n c l g.1 (of_there Sound w n c t s) (subst (λ (x : Connection). CleanedIn x.current) same h.cleaned) (subst (λ (x : Connection). Aside x.standing) same (h.aside refl))) h))
    (λ z. settled_elsewhere n m e w (acts setup answers w e m c) z h)
found_then setup answers n e w (Opens m) l g s h =
    settled_elsewhere n m event.Lease w (opens setup.on_attention (next_number w.leases) m)
    (λ z. none_at_end w.connections h.on (subst (λ i. numbered w.connections i ≡ Some h.on) (sym z ∙ g) h.there)) h

happens_then : (setup : Setup) (answers : Answers) (n : ℕ) (e : Event) (w : World) → Lawful answers → Reached setup answers w → WasCleaned n w false → WasCleaned n (happens setup answers e w).1 (lent_here n (happens setup answers e w).0)
happens_then setup answers n e w l r h =
    happens_cases setup answers w (λ e p. WasCleaned n p.1 (lent_here n p.0))
    (record { on = cut h.on; there = cut_there w.connections n h.on h.there; cleaned = h.cleaned; aside = λ z. tt })
    (record { on = cut h.on; there = cut_there w.connections n h.on h.there; cleaned = h.cleaned; aside = λ z. tt })
    (λ e. found_then setup answers n e w (about setup w e) l (about_stands setup w e (reached_agrees setup answers w r)) (reached_sound setup answers w l r) h) e

cut_found : (setup : Setup) (answers : Answers) (n k : ℕ) (w : World) (f : Found) (lent : Bool) → FoundWith w (StandsFor (event.Cut k)) f → WasCleaned n w lent → WasCleaned n (happens_at setup answers (event.Cut k) w f).1 lent
cut_found setup answers n k w (Missing why) lent g h = h
cut_found setup answers n k w (Here m c) lent g h =
    by_eq (WasCleaned n (happens_at setup answers (event.Cut k) w (Here m c)).1 lent) m n
    (λ z. let t : numbered w.connections n ≡ Some c = subst (λ i. numbered w.connections i ≡ Some c) z g.0 in
    let same : h.on ≡ c = (let q : Some h.on ≡ Some c = sym h.there ∙ t in cc) in
    record {
      on = cut c;
      there = subst (λ i. numbered (put_numbered i (cut c) w.connections) n ≡ Some (cut c)) (sym z) (put_there w.connections n c (cut c) t);
      cleaned = subst (λ (x : Connection). CleanedIn x.current) same h.cleaned;
      aside = λ y. tt;
    })
    (λ z. elsewhere n m w (happens_at setup answers (event.Cut k) w (Here m c)).1 (cut c) lent lent z refl (λ y. y) h)
cut_found setup answers n k w (Opens m) lent g h =
    elsewhere n m w (happens_at setup answers (event.Cut k) w (Opens m)).1 _ lent lent
    (λ z. none_at_end w.connections h.on (subst (λ i. numbered w.connections i ≡ Some h.on) (sym z ∙ g) h.there)) refl (λ y. y) h

cut_then : (setup : Setup) (answers : Answers) (n k : ℕ) (w : World) (lent : Bool) → Reached setup answers w → WasCleaned n w lent → WasCleaned n (happens setup answers (event.Cut k) w).1 lent
cut_then setup answers n k w lent r h =
    cut_found setup answers n k w (by_number w k) lent (about_stands setup w (event.Cut k) (reached_agrees setup answers w r)) h

-- ---- What is shown

finished_by : (fate : Fate) (out : Out) → is_cancelled fate ≡ false → phase_by fate out ≡ Settled → is_finished fate ≡ true
finished_by Open NotBegun e p = absurd (cc)
finished_by Open (Begun n) e p = absurd (cc)
finished_by Open (Whole n) e p = absurd (cc)
finished_by Finished out e p = refl
finished_by Cancelled out e p = let z : true ≡ false = e in absurd (cc)
finished_by Acknowledged out e p = let z : true ≡ false = e in absurd (cc)

fresh_by : (c : Connection) (o : Option Record) → c.current ≡ o → CleanedIn o → phase_in o ≡ Settled → IsLeftClean c → IsFresh c.session
fresh_by c None e h p l = absurd h
fresh_by c (Some q) e h p l = l q e h.0.0 h.0.1 (finished_by q.fate q.out h.1 p)

reached_left : (setup : Setup) (answers : Answers) (w : World) → Lawful answers → AnswersClean answers → Reached setup answers w → AllByRecursion IsLeftClean w.connections
reached_left setup answers w l clean r = subst (λ (v : World). AllByRecursion IsLeftClean v.connections) (sym r.1) (left_clean setup answers l clean r.0)

shown_fresh : (setup : Setup) (answers : Answers) (n : ℕ) (w : World) (lent : Bool) → Lawful answers → AnswersClean answers → Reached setup answers w → WasCleaned n w lent → AllByRecursion (IsFreshIfIdle n) (snapshots w)
shown_fresh setup answers n w lent l clean r h =
    each_seen (IsFreshIfIdle n) w (λ m c p t s is idle.
    let here : numbered w.connections n ≡ Some c = subst (λ i. numbered w.connections i ≡ Some c) is t in
    let same : h.on ≡ c = (let q : Some h.on ≡ Some c = sym h.there ∙ here in cc) in
    fresh_by c c.current refl (subst (λ (x : Connection). CleanedIn x.current) same h.cleaned) (idle_settled (phase c) idle)
    (of_there IsLeftClean w n c here (reached_left setup answers w l clean r)))

-- ---- One event of a play, and its cut where its link failed

reached_after : (setup : Setup) (answers : Answers) (es : List Event) (w : World) → Reached setup answers w → Reached setup answers (world_after setup answers es w)
reached_after setup answers es w r =
    (r.0 ++ es, ap (λ v. world_after setup answers es v) r.1 ∙ sym (after_both setup answers r.0 es new_world))

-- Behind the event, the cut.
cuts_then : (setup : Setup) (answers : Answers) (n : ℕ) (l : Loss) (link : Option ℕ) (w : World) (lent : Bool) → Reached setup answers w → WasCleaned n w lent → WasCleaned n (world_after setup answers (cuts_after l link) w) lent
cuts_then setup answers n Nothing link w lent r h = h
cuts_then setup answers n (Failed k) None w lent r h = h
cuts_then setup answers n (Failed k) (Some m) w lent r h = cut_then setup answers n m w lent r h

walks : (setup : Setup) (answers : Answers) (n : ℕ) (ps : List Played) (w : World) → Lawful answers → AnswersClean answers → Reached setup answers w → WasCleaned n w false → FreshUntilLent n (event_reports_with setup answers ps w)
walks setup answers n [] w l clean r h = tt
walks setup answers n (p ∷ ps) w l clean r h =
    let e : Event = met p.loss p.event in
    let v : World = world_then setup answers w p in
    let at : Reached setup answers v = reached_after setup answers (e ∷ cuts_after p.loss (link_of setup w p.event)) w r in
    let g : WasCleaned n v (lent_here n (happens setup answers e w).0) =
    cuts_then setup answers n p.loss (link_of setup w p.event) (happens setup answers e w).1 (lent_here n (happens setup answers e w).0) (reached_then setup answers e w r) (happens_then setup answers n e w l r h) in (
      shown_fresh setup answers n v (lent_here n (happens setup answers e w).0) l clean at g,
      λ z. walks setup answers n ps v l clean at (subst (WasCleaned n v) z g),
    )

-- ---- Where it is cleaned

abbrev IsBegun : ℕ → Outcome → World → Type 0
IsBegun n (outcome.Cleaning lease request) w = WasCleaned n w false
IsBegun n o w = Unit {0}

begun_by : (free can : Bool) (room lease number n : ℕ) (w : World) (c : Connection) → numbered w.connections n ≡ Some c → let p = settles (event.Clean n) n w (cleans_by free can room lease number n c) in IsBegun n p.0 p.1
begun_by false can room lease number n w c t = tt
begun_by true false room lease number n w c t = tt
begun_by true true room lease number n w c t = record {
  on = cleans room lease number n c;
  there = put_there w.connections n c (cleans room lease number n c) t;
  cleaned = ((refl, refl), refl);
  aside = λ z. tt;
}

clean_begins : (setup : Setup) (answers : Answers) (n : ℕ) (w : World) (o : Option Connection) → numbered w.connections n ≡ o → let p = happens_at setup answers (event.Clean n) w (uncut_in refusal.UnknownConnection n o) in IsBegun n p.0 p.1
clean_begins setup answers n w None t = tt
clean_begins setup answers n w (Some c) t =
    either (λ f. IsBegun n (happens_at setup answers (event.Clean n) w f).0 (happens_at setup answers (event.Clean n) w f).1) (is_cut c.standing) (Missing refusal.UnknownConnection) (Here n c) tt
    (begun_by (is_free c.standing) (can_clean (setup.packet_size - 8) (next_number w.leases) (next_number w.asked_on) n c) (setup.packet_size - 8) (next_number w.leases) (next_number w.asked_on) n w c t)

-- From there on it is shown.
from_clean : (setup : Setup) (answers : Answers) (n : ℕ) (o : Outcome) (r : EventReport) (ps : List Played) (v : World) → Lawful answers → AnswersClean answers → Reached setup answers v → r.snapshots ≡ snapshots v → IsBegun n o v → FreshIfCleaned (event.Clean n) o (r ∷ event_reports_with setup answers ps v)
from_clean setup answers n (outcome.Cleaning lease request) r ps v l clean at shown h =
    (subst (AllByRecursion (IsFreshIfIdle n)) (sym shown) (shown_fresh setup answers n v false l clean at h), λ z. walks setup answers n ps v l clean at h)
from_clean setup answers n o r ps v l clean at shown h = tt

begun_cut : (setup : Setup) (answers : Answers) (n : ℕ) (o : Outcome) (l : Loss) (link : Option ℕ) (w : World) → Reached setup answers w → IsBegun n o w → IsBegun n o (world_after setup answers (cuts_after l link) w)
begun_cut setup answers n (outcome.Cleaning lease request) l link w r h = cuts_then setup answers n l link w false r h
begun_cut setup answers n o l link w r h = tt

-- What brings bytes is no cleaning.
met_clean : (l : Loss) (n : ℕ) → met l (event.Clean n) ≡ event.Clean n
met_clean Nothing n = refl
met_clean (Failed k) n = refl

one_left : (setup : Setup) (answers : Answers) (l : Loss) (e : Event) (r : EventReport) (ps : List Played) (w : World) → Lawful answers → AnswersClean answers → Reached setup answers w → let v : World = world_after setup answers (met l e ∷ cuts_after l (link_of setup w e)) w in r.snapshots ≡ snapshots v → FreshIfCleaned e (happens setup answers (met l e) w).0 (r ∷ event_reports_with setup answers ps v)
one_left setup answers l (event.Clean n) r ps w law clean at =
    subst (λ x. let v : World = world_after setup answers (x ∷ cuts_after l (link_of setup w (event.Clean n))) w in r.snapshots ≡ snapshots v → FreshIfCleaned (event.Clean n) (happens setup answers x w).0 (r ∷ event_reports_with setup answers ps v)) (sym (met_clean l n))
    (λ shown. let p = happens setup answers (event.Clean n) w in
    let u : World = world_after setup answers (cuts_after l (link_of setup w (event.Clean n))) p.1 in
    from_clean setup answers n p.0 r ps u law clean (reached_after setup answers (event.Clean n ∷ cuts_after l (link_of setup w (event.Clean n))) w at) shown
    (begun_cut setup answers n p.0 l (link_of setup w (event.Clean n)) p.1 (reached_then setup answers (event.Clean n) w at) (clean_begins setup answers n w (numbered w.connections n) refl)))
one_left setup answers l e r ps w law clean at = λ shown. tt

each_left : (setup : Setup) (answers : Answers) (ps : List Played) (w : World) → Lawful answers → AnswersClean answers → Reached setup answers w → EachLeftClean (events_of ps) (event_reports_with setup answers ps w)
each_left setup answers [] w l clean r = tt
each_left setup answers (p ∷ ps) w l clean r =
    let v : World = world_then setup answers w p in (
      one_left setup answers p.loss p.event (report_then setup answers w p) ps w l clean r refl,
      each_left setup answers ps v l clean (reached_after setup answers (met p.loss p.event ∷ cuts_after p.loss (link_of setup w p.event)) w r),
    )

pub left_clean_is_shown : (setup : Setup) (answers : Answers) → Lawful answers → AnswersClean answers → AlwaysToldWith setup answers ShowsLeftClean
left_clean_is_shown setup answers l clean ps = each_left setup answers ps new_world l clean ([], refl)

-- What is told of each event of a play, and what is told of the plain events that it stands for.
use Rattle.std.proofs.Common.{◌≡◌, ℕ, List, [], ◌∷◌, ◌++◌, Bool, true, cond, false, refl, sym, ap, ◌∙◌, Option, Some, None}
use Rattle.std.specs.List.{AllByRecursion}
use Rattle.std.specs.Prelude.{◌-◌}
use Rattle.tds_request.specs.declared.request.Request.{Request}
use Rattle.tds_session.specs.Answer.{Answers}
use Rattle.tds_world.specs.declared.event.Event.{Event}
use Rattle.tds_world.specs.declared.event.Event.TheVariants as event
use Rattle.tds_world.specs.declared.event.Setup.{Setup}
use Rattle.tds_world.specs.declared.outcome.Outcome.{Outcome}
use Rattle.tds_world.specs.declared.outcome.Outcome.TheVariants as outcome
use Rattle.tds_world.specs.declared.report.EventReport.{EventReport}
use Rattle.tds_world.specs.declared.report.Report.{Report}
use Rattle.tds_world.specs.declared.report.Snapshot.{Snapshot}
use Rattle.tds_world.specs.Cleaning.{can_clean}
use Rattle.tds_world.specs.Connection.{Connection, phase, Standing, In, Cut}
use Rattle.tds_world.specs.Events.{about, cleans_by, sends_in, settles, happens_at, happens, world_after}
use Rattle.tds_world.specs.Losses.{Loss, Nothing, Failed, Played, bringing, met, link_of, cuts_after, is_lost, world_then, with_cuts, report_then, event_reports_with}
use Rattle.tds_world.specs.Observed.{snapshots, event_report, event_reports}
use Rattle.tds_world.specs.Phase.{Phase, Asked, Sending}
use Rattle.tds_world.specs.Pool.{is_free, gives_back_at}
use Rattle.tds_world.specs.Record.{Record}
use Rattle.tds_world.specs.Reports.{Ask, asked_by, asked_in, makes, kept_in, KeepsIfResumed, OfEachOutcome}
use Rattle.tds_world.specs.WithLosses.{events_of}
use Rattle.tds_world.specs.World.{World, Found, Missing, Here, Opens, next_number}

-- What is told of an event of a play: the outcome of the event as it was met, and what is seen after the
-- last of the plain events that it stands for. Of what is told of these, R holds.
pub record Tells (R : EventReport → Type 0) (r : EventReport) : Type 0 where
  pub event : EventReport
  pub last : EventReport
  pub event_told : R event
  pub last_told : R last
  pub outcome : r.outcome ≡ event.outcome
  pub snapshots : r.snapshots ≡ last.snapshots
  pub unlost : r.lost ≡ false → R r

-- What is told of one event, which lost this and has this link.
abbrev told_of : Setup → Answers → Loss → Option ℕ → Event → World → EventReport
told_of setup answers l link e w = record {
  outcome = (happens setup answers (met l e) w).0;
  lost = is_lost l;
  snapshots = snapshots (world_after setup answers (met l e ∷ cuts_after l link) w);
}

one_tells : (R : EventReport → Type 0) (setup : Setup) (answers : Answers) (l : Loss) (link : Option ℕ) (e : Event) (es : List Event) (w : World) → AllByRecursion R (event_reports setup answers ((met l e ∷ cuts_after l link) ++ es) w) → Tells R (told_of setup answers l link e w) × AllByRecursion R (event_reports setup answers es (world_after setup answers (met l e ∷ cuts_after l link) w))
one_tells R setup answers Nothing link e es w h = (
  record {
    event = event_report (happens setup answers e w);
    last = event_report (happens setup answers e w);
    event_told = h.0;
    last_told = h.0;
    outcome = refl;
    snapshots = refl;
    unlost = λ x. h.0;
  },
  h.1,
)
one_tells R setup answers (Failed k) None e es w h = (
  record {
    event = event_report (happens setup answers (bringing k e) w);
    last = event_report (happens setup answers (bringing k e) w);
    event_told = h.0;
    last_told = h.0;
    outcome = refl;
    snapshots = refl;
    unlost = λ x. absurd (cc);
  },
  h.1,
)
one_tells R setup answers (Failed k) (Some n) e es w h = (
  record {
    event = event_report (happens setup answers (bringing k e) w);
    last = event_report (happens setup answers (event.Cut n) (happens setup answers (bringing k e) w).1);
    event_told = h.0;
    last_told = h.1.0;
    outcome = refl;
    snapshots = refl;
    unlost = λ x. absurd (cc);
  },
  h.1.1,
)

pub each_tells : (R : EventReport → Type 0) (setup : Setup) (answers : Answers) (ps : List Played) (w : World) → AllByRecursion R (event_reports setup answers (with_cuts setup answers ps w) w) → AllByRecursion (Tells R) (event_reports_with setup answers ps w)
each_tells R setup answers [] w h = tt
each_tells R setup answers (p ∷ ps) w h =
    let v : World = world_then setup answers w p in
    let s = one_tells R setup answers p.loss (link_of setup w p.event) p.event (with_cuts setup answers ps v) w h in
    (s.0, each_tells R setup answers ps v s.1)

each_then : (P Q : EventReport → Type 0) (rs : List EventReport) → ((r : EventReport) → P r → Q r) → AllByRecursion P rs → AllByRecursion Q rs
each_then P Q [] f h = tt
each_then P Q (r ∷ rs) f h = (f r h.0, each_then P Q rs f h.1)

-- What R says of the plain events, Q says of those of the play.
pub each_follows : (R Q : EventReport → Type 0) (setup : Setup) (answers : Answers) (ps : List Played) (w : World) → ((r : EventReport) → Tells R r → Q r) → AllByRecursion R (event_reports setup answers (with_cuts setup answers ps w) w) → AllByRecursion Q (event_reports_with setup answers ps w)
each_follows R Q setup answers ps w f h =
    each_then (Tells R) Q (event_reports_with setup answers ps w) f (each_tells R setup answers ps w h)

-- ---- The requests that were asked

same_asked : (l : ℕ) (q : Request) (r s : EventReport) (o : Outcome) → r.snapshots ≡ s.snapshots → asked_by (event.Ask l q) r o ≡ asked_by (event.Ask l q) s o
same_asked l q r s (outcome.Asked n) e =
    ap (λ shown. (let a : Ask = record { number = n; lease = l; request = q; cleans = false; snapshots = shown } in a) ∷ []) e
same_asked l q r s (outcome.Leased a b c) e = refl
same_asked l q r s o e = refl

same_cleaning : (n : ℕ) (r s : EventReport) (o : Outcome) → asked_by (event.Clean n) r o ≡ asked_by (event.Clean n) s o
same_cleaning n r s (outcome.Cleaning l k) = refl
same_cleaning n r s (outcome.Leased a b c) = refl
same_cleaning n r s o = refl

asked_failed : (setup : Setup) (answers : Answers) (k : ℕ) (e : Event) (w : World) → asked_by e (told_of setup answers (Failed k) (link_of setup w e) e w) (happens setup answers (bringing k e) w).0 ≡ asked_by (bringing k e) (event_report (happens setup answers (bringing k e) w)) (happens setup answers (bringing k e) w).0
asked_failed setup answers k (event.Ask l q) w =
    same_asked l q (told_of setup answers (Failed k) None (event.Ask l q) w) (event_report (happens setup answers (event.Ask l q) w)) (happens setup answers (event.Ask l q) w).0 refl
asked_failed setup answers k (event.Clean n) w =
    same_cleaning n (told_of setup answers (Failed k) (link_of setup w (event.Clean n)) (event.Clean n) w) (event_report (happens setup answers (event.Clean n) w)) (happens setup answers (event.Clean n) w).0
asked_failed setup answers k event.Lease w = refl
asked_failed setup answers k e w = refl

asked_now : (setup : Setup) (answers : Answers) (l : Loss) (e : Event) (w : World) → asked_by e (told_of setup answers l (link_of setup w e) e w) (happens setup answers (met l e) w).0 ≡ asked_by (met l e) (event_report (happens setup answers (met l e) w)) (happens setup answers (met l e) w).0
asked_now setup answers Nothing e w = refl
asked_now setup answers (Failed k) e w = asked_failed setup answers k e w

-- A cut asks nothing.
asked_then : (setup : Setup) (answers : Answers) (l : Loss) (link : Option ℕ) (e : Event) (es : List Event) (w : World) → asked_in ((met l e ∷ cuts_after l link) ++ es) (event_reports setup answers ((met l e ∷ cuts_after l link) ++ es) w) ≡ asked_by (met l e) (event_report (happens setup answers (met l e) w)) (happens setup answers (met l e) w).0 ++ asked_in es (event_reports setup answers es (world_after setup answers (met l e ∷ cuts_after l link) w))
asked_then setup answers Nothing link e es w = refl
asked_then setup answers (Failed k) None e es w = refl
asked_then setup answers (Failed k) (Some n) e es w = refl

pub same_asks : (setup : Setup) (answers : Answers) (ps : List Played) (w : World) → asked_in (events_of ps) (event_reports_with setup answers ps w) ≡ asked_in (with_cuts setup answers ps w) (event_reports setup answers (with_cuts setup answers ps w) w)
same_asks setup answers [] w = refl
same_asks setup answers (p ∷ ps) w =
    let v : World = world_then setup answers w p in
    ap (λ xs. asked_by p.event (report_then setup answers w p) (happens setup answers (met p.loss p.event) w).0 ++ xs) (same_asks setup answers ps v)
    ∙ (ap (λ xs. xs ++ asked_in (with_cuts setup answers ps v) (event_reports setup answers (with_cuts setup answers ps v) v)) (asked_now setup answers p.loss p.event w)
    ∙ sym (asked_then setup answers p.loss (link_of setup w p.event) p.event (with_cuts setup answers ps v) w))

-- ---- The tickets that were made

-- What makes a ticket uses no link.
no_lease : (setup : Setup) (answers : Answers) (t : ℕ) (w : World) (f : Found) → makes t (happens_at setup answers event.Lease w f).0 ≡ false
no_lease setup answers t w (Missing why) = refl
no_lease setup answers t w (Here n c) = refl
no_lease setup answers t w (Opens n) = refl

back : (t l n : ℕ) (w : World) (s : Standing) (c : Connection) → makes t (settles (event.GiveBack l) n w (gives_back_at s c)).0 ≡ false
back t l n w (In p) c = refl
back t l n w Cut c = refl

no_back : (setup : Setup) (answers : Answers) (t l : ℕ) (w : World) (f : Found) → makes t (happens_at setup answers (event.GiveBack l) w f).0 ≡ false
no_back setup answers t l w (Missing why) = refl
no_back setup answers t l w (Here n c) = back t l n w c.standing c
no_back setup answers t l w (Opens n) = refl

sent : (t l n : ℕ) (w : World) (p : Phase) (room : ℕ) (current : Option Record) (c : Connection) → makes t (settles (event.Send l) n w (sends_in p room current c)).0 ≡ false
sent t l n w Asked room None c = refl
sent t l n w Sending room None c = refl
sent t l n w p room current c = refl

no_send : (setup : Setup) (answers : Answers) (t l : ℕ) (w : World) (f : Found) → makes t (happens_at setup answers (event.Send l) w f).0 ≡ false
no_send setup answers t l w (Missing why) = refl
no_send setup answers t l w (Here n c) = sent t l n w (phase c) (setup.packet_size - 8) c.current c
no_send setup answers t l w (Opens n) = refl

no_cancel : (setup : Setup) (answers : Answers) (t l : ℕ) (w : World) (f : Found) → makes t (happens_at setup answers (event.Cancel l) w f).0 ≡ false
no_cancel setup answers t l w (Missing why) = refl
no_cancel setup answers t l w (Here n c) = refl
no_cancel setup answers t l w (Opens n) = refl

no_work : (setup : Setup) (answers : Answers) (t k : ℕ) (w : World) (f : Found) → makes t (happens_at setup answers (event.Work k) w f).0 ≡ false
no_work setup answers t k w (Missing why) = refl
no_work setup answers t k w (Here n c) = refl
no_work setup answers t k w (Opens n) = refl

no_to_server : (setup : Setup) (answers : Answers) (t k m : ℕ) (w : World) (f : Found) → makes t (happens_at setup answers (event.ToServer k m) w f).0 ≡ false
no_to_server setup answers t k m w (Missing why) = refl
no_to_server setup answers t k m w (Here n c) = refl
no_to_server setup answers t k m w (Opens n) = refl

no_to_client : (setup : Setup) (answers : Answers) (t k m : ℕ) (w : World) (f : Found) → makes t (happens_at setup answers (event.ToClient k m) w f).0 ≡ false
no_to_client setup answers t k m w (Missing why) = refl
no_to_client setup answers t k m w (Here n c) = refl
no_to_client setup answers t k m w (Opens n) = refl

no_cut : (setup : Setup) (answers : Answers) (t k : ℕ) (w : World) (f : Found) → makes t (happens_at setup answers (event.Cut k) w f).0 ≡ false
no_cut setup answers t k w (Missing why) = refl
no_cut setup answers t k w (Here n c) = refl
no_cut setup answers t k w (Opens n) = refl

cleaned : (t k n : ℕ) (w : World) (free can : Bool) (room lease number : ℕ) (c : Connection) → makes t (settles (event.Clean k) n w (cleans_by free can room lease number n c)).0 ≡ false
cleaned t k n w false can room lease number c = refl
cleaned t k n w true false room lease number c = refl
cleaned t k n w true true room lease number c = refl

no_clean : (setup : Setup) (answers : Answers) (t k : ℕ) (w : World) (f : Found) → makes t (happens_at setup answers (event.Clean k) w f).0 ≡ false
no_clean setup answers t k w (Missing why) = refl
no_clean setup answers t k w (Here n c) =
    cleaned t k n w (is_free c.standing) (can_clean (setup.packet_size - 8) (next_number w.leases) (next_number w.asked_on) n c) (setup.packet_size - 8) (next_number w.leases) (next_number w.asked_on) c
no_clean setup answers t k w (Opens n) = refl

makes_none : (setup : Setup) (answers : Answers) (t k n : ℕ) (e : Event) (w : World) → link_of setup w e ≡ Some n → makes t (happens setup answers (bringing k e) w).0 ≡ false
makes_none setup answers t k n event.Lease w x = no_lease setup answers t w (about setup w event.Lease)
makes_none setup answers t k n (event.GiveBack l) w x = no_back setup answers t l w (about setup w (event.GiveBack l))
makes_none setup answers t k n (event.Clean i) w x = no_clean setup answers t i w (about setup w (event.Clean i))
makes_none setup answers t k n (event.Send l) w x = no_send setup answers t l w (about setup w (event.Send l))
makes_none setup answers t k n (event.Cancel l) w x = no_cancel setup answers t l w (about setup w (event.Cancel l))
makes_none setup answers t k n (event.Work i) w x = no_work setup answers t i w (about setup w (event.Work i))
makes_none setup answers t k n (event.ToServer i m) w x = no_to_server setup answers t i k w (about setup w (event.ToServer i k))
makes_none setup answers t k n (event.ToClient i m) w x = no_to_client setup answers t i k w (about setup w (event.ToClient i k))
makes_none setup answers t k n e w x = absurd (cc)

-- Where neither the event nor its cut made the ticket, the later ones are looked at.
passes : (t : ℕ) (a b : EventReport) (shown : List Snapshot) (rs : List EventReport) → makes t a.outcome ≡ false → makes t b.outcome ≡ false → cond (makes t a.outcome) shown (kept_in t rs) ≡ kept_in t (a ∷ b ∷ rs)
passes t a b shown rs e f =
    ap (λ x. cond x shown (kept_in t rs)) e
    ∙ (sym (ap (λ x. cond x b.snapshots (kept_in t rs)) f)
    ∙ sym (ap (λ x. cond x a.snapshots (kept_in t (b ∷ rs))) e))

kept_now : (setup : Setup) (answers : Answers) (t : ℕ) (l : Loss) (link : Option ℕ) (e : Event) (es : List Event) (w : World) → link_of setup w e ≡ link → cond (makes t (happens setup answers (met l e) w).0) (snapshots (world_after setup answers (met l e ∷ cuts_after l link) w)) (kept_in t (event_reports setup answers es (world_after setup answers (met l e ∷ cuts_after l link) w))) ≡ kept_in t (event_reports setup answers ((met l e ∷ cuts_after l link) ++ es) w)
kept_now setup answers t Nothing link e es w x = refl
kept_now setup answers t (Failed k) None e es w x = refl
kept_now setup answers t (Failed k) (Some n) e es w x =
    let p : Outcome × World = happens setup answers (bringing k e) w in
    let q : Outcome × World = happens setup answers (event.Cut n) p.1 in
    passes t (event_report p) (event_report q) (snapshots q.1) (event_reports setup answers es q.1)
    (makes_none setup answers t k n e w x) (no_cut setup answers t n p.1 (about setup p.1 (event.Cut n)))

pub same_kept : (setup : Setup) (answers : Answers) (t : ℕ) (ps : List Played) (w : World) → kept_in t (event_reports_with setup answers ps w) ≡ kept_in t (event_reports setup answers (with_cuts setup answers ps w) w)
same_kept setup answers t [] w = refl
same_kept setup answers t (p ∷ ps) w =
    let v : World = world_then setup answers w p in
    ap (λ xs. cond (makes t (happens setup answers (met p.loss p.event) w).0) (snapshots v) xs) (same_kept setup answers t ps v)
    ∙ kept_now setup answers t p.loss (link_of setup w p.event) p.event (with_cuts setup answers ps v) w refl

-- ---- The leases that were resumed

resumes_met : (r : Report) (l : Loss) (e : Event) (o : Outcome) → KeepsIfResumed r (met l e) o → KeepsIfResumed r e o
resumes_met r Nothing e o h = h
resumes_met r (Failed k) (event.Resume t) o h = h
resumes_met r (Failed k) e o h = tt

one_resumes : (r : Report) (setup : Setup) (answers : Answers) (l : Loss) (link : Option ℕ) (e : Event) (es : List Event) (w : World) → OfEachOutcome (KeepsIfResumed r) ((met l e ∷ cuts_after l link) ++ es) (event_reports setup answers ((met l e ∷ cuts_after l link) ++ es) w) → KeepsIfResumed r e (happens setup answers (met l e) w).0 × OfEachOutcome (KeepsIfResumed r) es (event_reports setup answers es (world_after setup answers (met l e ∷ cuts_after l link) w))
one_resumes r setup answers Nothing link e es w h = h
one_resumes r setup answers (Failed k) None e es w h = (resumes_met r (Failed k) e (happens setup answers (bringing k e) w).0 h.0, h.1)
one_resumes r setup answers (Failed k) (Some n) e es w h = (resumes_met r (Failed k) e (happens setup answers (bringing k e) w).0 h.0, h.1.1)

pub each_resumes : (r : Report) (setup : Setup) (answers : Answers) (ps : List Played) (w : World) → OfEachOutcome (KeepsIfResumed r) (with_cuts setup answers ps w) (event_reports setup answers (with_cuts setup answers ps w) w) → OfEachOutcome (KeepsIfResumed r) (events_of ps) (event_reports_with setup answers ps w)
each_resumes r setup answers [] w h = tt
each_resumes r setup answers (p ∷ ps) w h =
    let v : World = world_then setup answers w p in
    let s = one_resumes r setup answers p.loss (link_of setup w p.event) p.event (with_cuts setup answers ps v) w h in
    (s.0, each_resumes r setup answers ps v s.1)

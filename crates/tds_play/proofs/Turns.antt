-- A play, event by event, is the model's.
use Rattle.std.proofs.Common.{◌≡◌, ◌∙◌, ◌<◌, ◌≤◌, ◌+◌, ℕ, zero, suc, List, [], ◌∷◌, ◌++◌, length, length-append, take, slice_index_or, Bool, true, false, Option, Some, None, refl, sym, ap, subst, arith, length-take-le}
use Rattle.std.specs.Prelude.{slice_get}
use Rattle.std.specs.List.{AllByRecursion, filter_map}
use Rattle.std.proofs.lemmas.List.{take_more, take_all}
use Rattle.std.proofs.lemmas.Option.{slice_get_within}
use Rattle.tds_packet.specs.declared.kind.Direction.{Direction}
use Rattle.tds_packet.specs.declared.kind.Direction.TheVariants.{ToServer, ToClient}
use Rattle.tds_session.specs.Answer.{Answers}
use Rattle.tds_world.specs.declared.event.Event.{Event}
use Rattle.tds_world.specs.declared.event.Setup.{Setup}
use Rattle.tds_world.specs.declared.outcome.Outcome.{Outcome}
use Rattle.tds_world.specs.declared.report.EventReport.{EventReport}
use Rattle.tds_world.specs.declared.report.Place.{Place}
use Rattle.tds_world.specs.declared.report.Report.{Report}
use Rattle.tds_world.specs.declared.report.RequestReport.{RequestReport}
use Rattle.tds_world.specs.declared.report.Snapshot.{Snapshot}
use Rattle.tds_world.specs.Bounds.{IsEvent, IsSetup}
use Rattle.tds_world.specs.Connection.{Connection, Standing, is_cut}
use Rattle.tds_world.specs.Events.{happens, world_after}
use Rattle.tds_world.specs.Laws.{OfEachConnection}
use Rattle.tds_world.specs.Losses.{Loss, Nothing, Failed, Played, cuts_after, event_reports_with, is_lost, link_of, loss_by, loss_in, marked, met, observed_with, plainly, report_then, with_cuts, world_then, world_with}
use Rattle.tds_world.specs.WithLosses.{IsReportWith, MarksNothing}
use Rattle.tds_world.specs.Observed.{observed, snapshots, request_reports, bytes_in, bytes_of}
use Rattle.tds_world.specs.World.{World, new_world, numbered}
use Rattle.tds_world.proofs.plays.Worlds.{bringing_is}
use Rattle.tds_play.specs.declared.link.EventDone.{EventDone}
use Rattle.tds_play.specs.declared.link.Link.{Link}
use Rattle.tds_play.specs.Seats.{Seat, Seated}
use Rattle.tds_play.specs.declared.player.Player.{Player}
use Rattle.tds_play.specs.Lending.{standing_by}
use Rattle.tds_play.specs.Pipe.{Pipe, IsOpen, is_cut_at, traffic}
use Rattle.tds_play.specs.Player.{RepresentsWorld, RefinesEvent, all_of}
use Rattle.tds_play.specs.Plays.{RepresentConnections, RepresentsConnection, loss_of}
use Rattle.tds_ends.specs.ModelGives.{ModelGives, IsCountable}
use Rattle.tds_play.specs.Seen.{seen_of}
use Rattle.tds_play.specs.Ties.{AreTied, IsTied}
use Rattle.tds_play.specs.WholePlay.{IsCutAs, IsReportOfPlay, come_on}
use Rattle.tds_play.proofs.AllPlayed.{as_many, played_at}
use Rattle.tds_play.proofs.Snapshots.{all_seen_alike}

-- ---- The plain schedule

world_joined : (setup : Setup) (answers : Answers) (es fs : List Event) (w : World)
    → world_after setup answers (es ++ fs) w ≡ world_after setup answers fs (world_after setup answers es w)
world_joined setup answers [] fs w = refl
world_joined setup answers (e ∷ es) fs w = world_joined setup answers es fs (happens setup answers e w).1

-- The world of a play is the one after its plain schedule.
pub world_is : (setup : Setup) (answers : Answers) (ps : List Played) (w : World)
    → world_with setup answers ps w ≡ world_after setup answers (with_cuts setup answers ps w) w
world_is setup answers [] w = refl
world_is setup answers (p ∷ ps) w =
    world_is setup answers ps (world_then setup answers w p)
    ∙ sym (world_joined setup answers (plainly setup w p) (with_cuts setup answers ps (world_then setup answers w p)) w)

few_plainly : (l : Loss) (link : Option ℕ) → length (cuts_after l link) ≤ 1
few_plainly Nothing link = omega arith
few_plainly (Failed k) None = omega arith
few_plainly (Failed k) (Some n) = omega arith

-- Each event of a play stands for two plain ones at most.
pub few_plain : (setup : Setup) (answers : Answers) (ps : List Played) (w : World) → length (with_cuts setup answers ps w) ≤ length ps + length ps
few_plain setup answers [] w = omega arith
few_plain setup answers (p ∷ ps) w =
    let then : World = world_then setup answers w p in
    omega (arith, length-append (plainly setup w p) (with_cuts setup answers ps then), few_plainly p.loss (link_of setup w p.event), few_plain setup answers ps then)

-- ---- One event more

world_one_more : (setup : Setup) (answers : Answers) (ps : List Played) (p : Played) (w : World)
    → world_with setup answers (ps ++ p ∷ []) w ≡ world_then setup answers (world_with setup answers ps w) p
world_one_more setup answers [] p w = refl
world_one_more setup answers (q ∷ qs) p w = world_one_more setup answers qs p (world_then setup answers w q)

reports_one_more : (setup : Setup) (answers : Answers) (ps : List Played) (p : Played) (w : World)
    → event_reports_with setup answers (ps ++ p ∷ []) w ≡ event_reports_with setup answers ps w ++ report_then setup answers (world_with setup answers ps w) p ∷ []
reports_one_more setup answers [] p w = refl
reports_one_more setup answers (q ∷ qs) p w =
    ap (λ rs. report_then setup answers w q ∷ rs) (reports_one_more setup answers qs p (world_then setup answers w q))

pub marked_one_more : (es : List Event) (e : Event) (rs : List EventReport) (r : EventReport) → length rs ≡ length es
    → marked (es ++ e ∷ []) (rs ++ r ∷ []) ≡ marked es rs ++ record { event = e; loss = loss_in r } ∷ []
marked_one_more [] e [] r same = refl
marked_one_more [] e (s ∷ ss) r same = absurd (omega (arith, same))
marked_one_more (f ∷ fs) e [] r same = absurd (omega (arith, same))
marked_one_more (f ∷ fs) e (s ∷ ss) r same =
    ap (λ (ps : List Played). record { event = f; loss = loss_in s } ∷ ps) (marked_one_more fs e ss r (omega (arith, same)))

few_marked : (es : List Event) (rs : List EventReport) → length (marked es rs) ≤ length es
few_marked [] rs = omega arith
few_marked (e ∷ es) [] = omega (arith, few_marked es [])
few_marked (e ∷ es) (r ∷ rs) = omega (arith, few_marked es rs)

pub one_taken : (es : List Event) (i : ℕ) (e : Event) → i < length es → e ≡ slice_index_or es i e → take (i + 1) es ≡ take i es ++ e ∷ []
one_taken es i e less is = take_more es i e less ∙ ap (λ x. take i es ++ x ∷ []) (sym is)

pub all_so_far : {A : Type 0} (P : A → Type 0) (xs : List A) (x : A) → AllByRecursion P xs → P x → AllByRecursion P (xs ++ x ∷ [])
all_so_far P [] x h p = (p, tt)
all_so_far P (y ∷ ys) x h p = (h.0, all_so_far P ys x h.1 p)

pub known_so_far : (P : Event → Type 0) (es : List Event) (i : ℕ) (e : Event) → i < length es → e ≡ slice_index_or es i e
    → AllByRecursion P (take i es) → P e → AllByRecursion P (take (i + 1) es)
known_so_far P es i e less is h p = subst (AllByRecursion P) (sym (one_taken es i e less is)) (all_so_far P (take i es) e h p)

each_countable : (E : Type 0) (answers : Answers) (size : ℕ) (cs : List Connection) → AllByRecursion (ModelGives E answers size) cs → AllByRecursion IsCountable cs
each_countable E answers size [] h = tt
each_countable E answers size (c ∷ cs) h = (h.0.countable, each_countable E answers size cs h.1)

met_known : (l : Loss) (e : Event) → IsEvent e → IsEvent (met l e)
met_known Nothing e known = known
met_known (Failed k) e known = bringing_is k e known

plainly_known : (l : Loss) (link : Option ℕ) (e : Event) → IsEvent e → AllByRecursion IsEvent (met l e ∷ cuts_after l link)
plainly_known Nothing link e known = (known, tt)
plainly_known (Failed k) None e known = (bringing_is k e known, tt)
plainly_known (Failed k) (Some n) e known = (bringing_is k e known, (tt, tt))

all_joined : {A : Type 0} (P : A → Type 0) (xs ys : List A) → AllByRecursion P xs → AllByRecursion P ys → AllByRecursion P (xs ++ ys)
all_joined P [] ys h k = k
all_joined P (x ∷ xs) ys h k = (h.0, all_joined P xs ys h.1 k)

-- What the events of a play stand for are events of the program too.
plain_known : (setup : Setup) (answers : Answers) (es : List Event) (rs : List EventReport) (w : World) → AllByRecursion IsEvent es
    → AllByRecursion IsEvent (with_cuts setup answers (marked es rs) w)
plain_known setup answers [] rs w known = tt
plain_known setup answers (e ∷ es) [] w known =
    let p : Played = record { event = e; loss = Nothing } in
    all_joined IsEvent (plainly setup w p) (with_cuts setup answers (marked es []) (world_then setup answers w p))
    (known.0, tt) (plain_known setup answers es [] (world_then setup answers w p) known.1)
plain_known setup answers (e ∷ es) (r ∷ rs) w known =
    let p : Played = record { event = e; loss = loss_in r } in
    all_joined IsEvent (plainly setup w p) (with_cuts setup answers (marked es rs) (world_then setup answers w p))
    (plainly_known (loss_in r) (link_of setup w e) e known.0)
    (plain_known setup answers es rs (world_then setup answers w p) known.1)

-- What holds of the world after any few events holds of the world of a play.
pub of_play : (P : World → Type 0) (n : ℕ) (setup : Setup) (answers : Answers) (es : List Event) (rs : List EventReport)
    → length es + length es < n → AllByRecursion IsEvent es
    → ((fs : List Event) → AllByRecursion IsEvent fs → length fs < n → P (world_after setup answers fs new_world))
    → P (world_with setup answers (marked es rs) new_world)
of_play P n setup answers es rs few known law =
    subst P (sym (world_is setup answers (marked es rs) new_world))
    (law (with_cuts setup answers (marked es rs) new_world) (plain_known setup answers es rs new_world known)
    (omega (arith, few_plain setup answers (marked es rs) new_world, few_marked es rs, few)))

-- So it is after one plain event more.
pub of_play_then : (P : World → Type 0) (n : ℕ) (setup : Setup) (answers : Answers) (es : List Event) (rs : List EventReport) (e : Event)
    → length es + length es < n → AllByRecursion IsEvent es → IsEvent e
    → ((fs : List Event) → AllByRecursion IsEvent fs → length fs ≤ n → P (world_after setup answers fs new_world))
    → P (happens setup answers e (world_with setup answers (marked es rs) new_world)).1
of_play_then P n setup answers es rs e few known one law =
    let plain : List Event = with_cuts setup answers (marked es rs) new_world in
    subst (λ (x : World). P (happens setup answers e x).1) (sym (world_is setup answers (marked es rs) new_world))
    (subst P (world_joined setup answers plain (e ∷ []) new_world)
    (law (plain ++ e ∷ []) (all_so_far IsEvent plain e (plain_known setup answers es rs new_world known) one)
    (omega (arith, length-append plain (e ∷ []), few_plain setup answers (marked es rs) new_world, few_marked es rs, few))))

-- The bytes of a world whose promises hold can be counted.
pub countable_then : (E : Type 0) (setup : Setup) (answers : Answers) (w : World)
    → OfEachConnection (ModelGives E answers setup.packet_size) w → OfEachConnection IsCountable w
countable_then E setup answers w h = each_countable E answers setup.packet_size w.connections h

pub so_many : {A : Type 0} (i : ℕ) (xs : List A) → i ≤ length xs → length (take i xs) ≡ i
so_many i xs most = length-take-le i xs most

-- ---- So far

-- After these events, with the losses that their reports mark, the player is the model's world, and
-- this is what the model tells of them.
pub record IsSoFar {E S : Type 0} (setup : Setup) (answers : Answers) (engine : E) (events : List Event) (player : Player E S)
    (pipes : ℕ → Option Pipe) (reports : List EventReport) : Type 0 where
  pub play : RepresentsWorld setup engine player pipes (world_with setup answers (marked events reports) new_world)
  pub told : reports ≡ event_reports_with setup answers (marked events reports) new_world

report_as : Outcome → Bool → List Snapshot → EventReport
report_as what lost seen = record { outcome = what; lost = lost; snapshots = seen }

marks_lost : (b : Bool) (o : Outcome) → b ≡ is_lost (loss_by b o)
marks_lost true o = refl
marks_lost false o = refl

told_of : {E S : Type 0} (setup : Setup) (engine : E) (answers : Answers) (done : EventDone) (player : Player E S) (pipes : ℕ → Option Pipe) (e : Event) (w : World) (seen : List Snapshot)
    → RefinesEvent setup engine answers done player pipes e w
    → seen ≡ snapshots (world_then setup answers w (record { event = e; loss = loss_of done }))
    → report_as done.outcome done.lost seen ≡ report_then setup answers w (record { event = e; loss = loss_of done })
unfolding report_as
told_of setup engine answers done player pipes e w seen alike shown =
    let then : World = world_then setup answers w (record { event = e; loss = loss_of done }) in
    ap (λ (o : Outcome). report_as o done.lost seen) alike.outcome
    ∙ ap (λ (b : Bool). report_as (happens setup answers (met (loss_of done) e) w).0 b seen) (marks_lost done.lost done.outcome)
    ∙ ap (λ (ss : List Snapshot). report_as (happens setup answers (met (loss_of done) e) w).0 (is_lost (loss_of done)) ss) shown

pub one_event_more : {E S : Type 0} (setup : Setup) (answers : Answers) (engine : E) (es : List Event) (i : ℕ) (e : Event) (player then : Player E S)
    (pipes after : ℕ → Option Pipe) (reports told : List EventReport) (done : EventDone) (seen : List Snapshot)
    → i < length es → e ≡ slice_index_or es i e → length reports ≡ i
    → RefinesEvent setup engine answers done then after e (world_with setup answers (marked (take i es) reports) new_world)
    → seen ≡ filter_map seen_of (all_of then)
    → told ≡ reports ++ record { outcome = done.outcome; lost = done.lost; snapshots = seen } ∷ []
    → IsSoFar setup answers engine (take i es) player pipes reports → IsSoFar setup answers engine (take (i + 1) es) then after told
unfolding report_as
one_event_more setup answers engine es i e player then pipes after reports told done seen less is count alike shown more far =
    let w : World = world_with setup answers (marked (take i es) reports) new_world in
    let p : Played = record { event = e; loss = loss_of done } in
    let r : EventReport = record { outcome = done.outcome; lost = done.lost; snapshots = seen } in
    let taken : take (i + 1) es ≡ take i es ++ e ∷ [] = one_taken es i e less is in
    let ps : marked (take (i + 1) es) told ≡ marked (take i es) reports ++ p ∷ [] =
    ap (λ xs. marked xs told) taken ∙ ap (marked (take i es ++ e ∷ [])) more
    ∙ marked_one_more (take i es) e reports r (omega (arith, count, so_many i es (omega (arith, less)))) in
    let world : world_with setup answers (marked (take (i + 1) es) told) new_world ≡ world_then setup answers w p =
    ap (λ xs. world_with setup answers xs new_world) ps ∙ world_one_more setup answers (marked (take i es) reports) p new_world in
    let same : seen ≡ snapshots (world_then setup answers w p) =
    shown ∙ all_seen_alike 1 setup.packet_size engine (all_of then) after (world_then setup answers w p).connections alike.then.connections in
    record {
      play = subst (RepresentsWorld setup engine then after) (sym world) alike.then;
      told =
          more
          ∙ ap (λ x. reports ++ x ∷ []) (told_of setup engine answers done then after e w seen alike same)
          ∙ ap (λ rs. rs ++ report_then setup answers w p ∷ []) far.told
          ∙ sym (ap (λ xs. event_reports_with setup answers xs new_world) ps ∙ reports_one_more setup answers (marked (take i es) reports) p new_world);
    }

-- No connection is tied to anything before any event.
pub none_tied : {E S : Type 0} (links : List (Seated E S)) (pipes : ℕ → Option Pipe) → links ≡ [] → AreTied links pipes
none_tied links pipes none =
    subst (λ ls. AreTied ls pipes) (sym none)
    (record { numbered = λ i d less. absurd (omega (arith, less)); tied = λ i d less. absurd (omega (arith, less)) })

-- ---- The end

bytes_at : {E S : Type 0} (n m i size : ℕ) (engine : E) (links : List (Seated E S)) (pipes : ℕ → Option Pipe) (cs : List Connection) (direction : Direction)
    → RepresentConnections n size engine links pipes cs → i < length cs → m ≡ n + i → (traffic (pipes m) direction).handed ≡ bytes_in direction (slice_get cs i)
bytes_at n m i size engine [] pipes [] direction all less at = absurd (omega (arith, less))
bytes_at n m i size engine [] pipes (c ∷ cs) direction all less at = absurd all
bytes_at n m i size engine (l ∷ ls) pipes [] direction all less at = absurd all
bytes_at n m zero size engine (l ∷ ls) pipes (c ∷ cs) ToServer all less at =
    let here : m ≡ n = omega (arith, at) in ap (λ (k : ℕ). (traffic (pipes k) ToServer).handed) here ∙ all.0.to_server
bytes_at n m zero size engine (l ∷ ls) pipes (c ∷ cs) ToClient all less at =
    let here : m ≡ n = omega (arith, at) in ap (λ (k : ℕ). (traffic (pipes k) ToClient).handed) here ∙ all.0.to_client
bytes_at n m (suc i) size engine (l ∷ ls) pipes (c ∷ cs) direction all less at =
    bytes_at (suc n) m i size engine ls pipes cs direction all.1 (omega (arith, less)) (omega (arith, at))

pub bytes_handed : {E S : Type 0} (size : ℕ) (engine : E) (links : List (Seated E S)) (pipes : ℕ → Option Pipe) (w : World) (n : ℕ) (direction : Direction)
    → RepresentConnections 1 size engine links pipes w.connections → 0 < n → n ≤ length w.connections → (traffic (pipes n) direction).handed ≡ bytes_of w n direction
bytes_handed size engine links pipes w zero direction all some most = absurd (omega (arith, some))
bytes_handed size engine links pipes w (suc i) direction all some most =
    bytes_at 1 (suc i) i size engine links pipes w.connections direction all (omega (arith, most)) (omega arith)

-- ---- What came

came_on : {E S : Type 0} (number size : ℕ) (engine : E) (link : Link E S) (seat : Seat) (p : Option Pipe) (c : Connection) (direction : Direction)
    → RepresentsConnection number size engine link seat p c → (traffic p direction).came ≡ come_on direction c
came_on number size engine link seat p c ToServer is = is.came_up
came_on number size engine link seat p c ToClient is = is.came_down

pub bytes_carried : {E S : Type 0} (size : ℕ) (engine : E) (links : List (Seated E S)) (pipes : ℕ → Option Pipe) (cs : List Connection) (n : ℕ) (c : Connection) (direction : Direction)
    → RepresentConnections 1 size engine links pipes cs → numbered cs n ≡ Some c → (traffic (pipes n) direction).came ≡ come_on direction c
bytes_carried size engine links pipes cs zero c direction all at = absurd (cc)
bytes_carried size engine [] pipes [] (suc i) c direction all at = absurd (cc)
bytes_carried size engine [] pipes (d ∷ cs) (suc i) c direction all at = absurd all
bytes_carried size engine (l ∷ ls) pipes cs (suc i) c direction all at =
    came_on (suc i) size engine (slice_index_or (l ∷ ls) i l).link (slice_index_or (l ∷ ls) i l).seat (pipes (suc i)) c direction
    (played_at 1 (suc i) size engine (l ∷ ls) pipes cs i l c all at (omega arith))

-- ---- What is cut

cut_by : (b : Bool) (place : Place) (s : Standing) (p : Option Pipe) → standing_by b place ≡ s
    → (b ≡ true → is_cut_at p ≡ true) → (b ≡ false → IsOpen p) → IsCutAs (is_cut s) p
cut_by true place s None at gone live = let no : false ≡ true = gone refl in absurd (cc)
cut_by true place s (Some p) at gone live = gone refl ∙ ap is_cut at
cut_by false place s None at gone live = absurd (live refl)
cut_by false place s (Some p) at gone live = (live refl).0 ∙ ap is_cut at

-- Where a connection of the play lives, the carrier holds it open; where not, it was cut there too.
cut_as : {E S : Type 0} (number size : ℕ) (engine : E) (link : Link E S) (seat : Seat) (p : Option Pipe) (c : Connection)
    → RepresentsConnection number size engine link seat p c → IsTied link p → IsCutAs (is_cut c.standing) p
cut_as number size engine link seat p c is tied =
    cut_by link.is_cut seat.place c.standing p is.standing is.gone (λ live. (tied.holds live).is_open)

pub all_cut : {E S : Type 0} (size : ℕ) (engine : E) (links : List (Seated E S)) (pipes : ℕ → Option Pipe) (cs : List Connection) (n : ℕ) (c : Connection)
    → RepresentConnections 1 size engine links pipes cs → AreTied links pipes → numbered cs n ≡ Some c → IsCutAs (is_cut c.standing) (pipes n)
all_cut size engine links pipes cs zero c all tied at = absurd (cc)
all_cut size engine [] pipes [] (suc i) c all tied at = absurd (cc)
all_cut size engine [] pipes (d ∷ cs) (suc i) c all tied at = absurd all
all_cut size engine (l ∷ ls) pipes cs (suc i) c all tied at =
    let less : i < length (l ∷ ls) = omega (arith, slice_get_within cs i c at, as_many 1 size engine (l ∷ ls) pipes cs all) in
    cut_as (suc i) size engine (slice_index_or (l ∷ ls) i l).link (slice_index_or (l ∷ ls) i l).seat (pipes (suc i)) c
    (played_at 1 (suc i) size engine (l ∷ ls) pipes cs i l c all at (omega arith)) (tied.tied i l less)

pub in_the_end : {E S : Type 0} (setup : Setup) (answers : Answers) (engine : E) (es : List Event) (i : ℕ) (player : Player E S)
    (pipes : ℕ → Option Pipe) (so_far reports : List EventReport) (requests : List RequestReport)
    → IsSetup setup → AllByRecursion IsEvent (take i es) → length es ≤ 10000 → AreTied (all_of player) pipes
    → length es ≤ i → IsSoFar setup answers engine (take i es) player pipes so_far → reports ≡ so_far
    → requests ≡ request_reports (world_with setup answers (marked (take i es) so_far) new_world) 1 (world_with setup answers (marked (take i es) so_far) new_world).asked_on
    → ((r : Report) → IsReportWith setup answers es r → MarksNothing r → r ≡ observed setup answers es)
    → ((r : Report) → MarksNothing r → world_with setup answers (marked es r.events) new_world ≡ world_after setup answers es new_world)
    → IsReportOfPlay setup answers es (record { events = reports; requests = requests }) pipes
in_the_end setup answers engine es i player pipes so_far reports requests in_range known few tied over far same asked plain_report plain_world =
    let whole : take i es ≡ es = take_all i es over in
    let ps : marked (take i es) so_far ≡ marked es reports = ap (λ xs. marked xs so_far) whole ∙ ap (marked es) (sym same) in
    let w : World = world_with setup answers (marked es reports) new_world in
    let all : RepresentConnections 1 setup.packet_size engine (all_of player) pipes w.connections =
    subst (λ xs. RepresentConnections 1 setup.packet_size engine (all_of player) pipes (world_with setup answers xs new_world).connections) ps far.play.connections in
    let told : record { events = reports; requests = requests } ≡ observed_with setup answers (marked es reports) =
    ap (λ (rs : List EventReport). record { events = rs; requests = requests }) (same ∙ far.told ∙ ap (λ xs. event_reports_with setup answers xs new_world) ps)
    ∙ ap (λ (qs : List RequestReport). record { events = event_reports_with setup answers (marked es reports) new_world; requests = qs })
    (asked ∙ ap (λ xs. request_reports (world_with setup answers xs new_world) 1 (world_with setup answers xs new_world).asked_on) ps) in
    record {
      in_range = in_range;
      known = subst (AllByRecursion IsEvent) whole known;
      few = few;
      told = told;
      bytes = λ n direction some most. bytes_handed setup.packet_size engine (all_of player) pipes w n direction all some most;
      carried = λ n c direction at. bytes_carried setup.packet_size engine (all_of player) pipes w.connections n c direction all at;
      cuts = λ n c at. all_cut setup.packet_size engine (all_of player) pipes w.connections n c all tied at;
      plain = λ nothing. record {
        told = plain_report (record { events = reports; requests = requests }) told nothing;
        world = plain_world (record { events = reports; requests = requests }) nothing;
      };
    }

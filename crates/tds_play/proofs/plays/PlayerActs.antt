-- A play that does an event on one of its connections stands for the world that does, also where the
-- event is lost.
use Rattle.std.proofs.Common.{◌≡◌, ◌∙◌, ℕ, zero, suc, ◌-◌, ◌==◌, ◌||◌, Bool, true, false, ◌<◌, List, [], ◌∷◌, length, get_or, set, Option, Some, None, refl, sym, ap, subst, arith}
use Rattle.std.proofs.lemmas.Option.{slice_get_within}
use Rattle.std.specs.List.{AllByRecursion, slice_get}
use Rattle.tds_request.specs.declared.request.Request.{Request}
use Rattle.tds_session.specs.Answer.{Answers}
use Rattle.tds_world.specs.declared.event.Event.{Event}
use Rattle.tds_world.specs.declared.event.Event.TheVariants as event
use Rattle.tds_world.specs.declared.event.Setup.{Setup}
use Rattle.tds_world.specs.declared.outcome.Outcome.{Outcome}
use Rattle.tds_world.specs.declared.outcome.Outcome.TheVariants as outcome
use Rattle.tds_world.specs.declared.outcome.Refusal.{Refusal}
use Rattle.tds_world.specs.declared.report.Place.{Place}
use Rattle.tds_world.specs.Cleaning.{can_clean}
use Rattle.tds_world.specs.Connection.{Connection, Standing, In, Cut, is_cut, is_idle, phase}
use Rattle.tds_world.specs.Events.{asks_by, cleans_by, happens, notes, sends_in, settles}
use Rattle.tds_world.specs.Laws.{OfEachConnection}
use Rattle.tds_world.specs.Losses.{Loss, Nothing, Failed, bringing, link_of, met, world_then}
use Rattle.tds_world.specs.Phase.{Phase, Settled, Asked, Sending, Reading, Cancelling}
use Rattle.tds_world.specs.Pool.{Acted, Refuses, Does, abandons_at, gives_back_at, is_free, is_full, keeps_by}
use Rattle.tds_world.specs.Record.{Record}
use Rattle.tds_world.specs.World.{World, next_number, put, put_numbered}
use Rattle.tds_world.proofs.events.Grows.{notes_leave}
use Rattle.tds_play.specs.declared.link.EventDone.{EventDone}
use Rattle.tds_play.specs.Seats.{Seated}
use Rattle.tds_play.specs.declared.player.Player.{Player}
use Rattle.tds_play.specs.Lending.{standing_by}
use Rattle.tds_play.specs.Noted.{asked_after, leases_after, tickets_after}
use Rattle.tds_play.specs.Pipe.{Pipe, AreSame}
use Rattle.tds_play.specs.Player.{RefinesEvent, IsFound, RepresentsWorld, all_of}
use Rattle.tds_play.specs.Steps.{HoldsAs, HoldsBehind, SameSetup}
use Rattle.tds_ends.specs.ModelGives.{IsCountable}
use Rattle.tds_play.specs.Plays.{RepresentConnections, RefinesAct, RepresentsConnection, IsReady, MayLose, acts_at, acts_on, after, cut_where, holdings_of, loss_of, outcome_of}
use Rattle.tds_play.proofs.AllCut.{played_there, put_changed}
use Rattle.tds_play.proofs.LossWorld.{IsMoved, put_there, settled_moved}
use Rattle.tds_play.proofs.Held.{asked_noted, leases_noted, tickets_noted}

-- ---- What applies is no refusal

abbrev pub NeverRefused : Acted → Type 0
NeverRefused (Refuses why) = Unit {0}
NeverRefused (Does what c) = (why : Refusal) → what ≡ outcome.Refused why → ⊥

back_never : (s : Standing) (c : Connection) → NeverRefused (gives_back_at s c)
back_never (In p) c = λ why e. cc
back_never Cut c = λ why e. cc

abandoned_never : (s : Standing) (c : Connection) → NeverRefused (abandons_at s c)
abandoned_never (In p) c = λ why e. cc
abandoned_never Cut c = λ why e. cc

kept_never : (idle nothing : Bool) (ticket : ℕ) (c : Connection) → NeverRefused (keeps_by idle nothing ticket c)
kept_never false nothing ticket c = tt
kept_never true true ticket c = tt
kept_never true false ticket c = λ why e. cc

asked_never : (idle : Bool) (number lease n : ℕ) (q : Request) (c : Connection) → NeverRefused (asks_by idle number lease n q c)
asked_never true number lease n q c = λ why e. cc
asked_never false number lease n q c = tt

cleaned_never : (free can : Bool) (room lease number n : ℕ) (c : Connection) → NeverRefused (cleans_by free can room lease number n c)
cleaned_never false can room lease number n c = tt
cleaned_never true false room lease number n c = tt
cleaned_never true true room lease number n c = λ why e. cc

sent_never : (p : Phase) (room : ℕ) (o : Option Record) (c : Connection) → NeverRefused (sends_in p room o c)
sent_never Settled room o c = tt
sent_never Asked room None c = tt
sent_never Asked room (Some q) c = λ why e. cc
sent_never Sending room None c = tt
sent_never Sending room (Some q) c = λ why e. cc
sent_never Reading room o c = tt
sent_never Cancelling room o c = tt

in_never : (place : Place) (setup : Setup) (answers : Answers) (w : World) (e : Event) (n : ℕ) (c : Connection) → NeverRefused (acts_at (In place) setup answers w e n c)
in_never place setup answers w (event.GiveBack lease) n c = back_never c.standing c
in_never place setup answers w (event.Keep lease) n c = kept_never (is_idle c) (c.heard == 0 || is_full c.mark) (next_number w.tickets) c
in_never place setup answers w (event.Abandon ticket) n c = abandoned_never c.standing c
in_never place setup answers w (event.Clean k) n c =
    cleaned_never (is_free c.standing) (can_clean (setup.packet_size - 8) (next_number w.leases) (next_number w.asked_on) n c) (setup.packet_size - 8) (next_number w.leases) (next_number w.asked_on) n c
in_never place setup answers w (event.Ask lease q) n c = asked_never (is_idle c) (next_number w.asked_on) lease n q c
in_never place setup answers w (event.Send lease) n c = sent_never (phase c) (setup.packet_size - 8) c.current c
in_never place setup answers w event.RestartServer n c = tt
in_never place setup answers w event.RestartClient n c = tt
in_never place setup answers w e n c = λ why is. cc

cut_never : (setup : Setup) (answers : Answers) (w : World) (e : Event) (n : ℕ) (c : Connection) → NeverRefused (acts_at Cut setup answers w e n c)
cut_never setup answers w (event.GiveBack lease) n c = λ why e. cc
cut_never setup answers w (event.Abandon ticket) n c = λ why e. cc
cut_never setup answers w e n c = tt

at_never : (s : Standing) (setup : Setup) (answers : Answers) (w : World) (e : Event) (n : ℕ) (c : Connection) → NeverRefused (acts_at s setup answers w e n c)
at_never (In place) setup answers w e n c = in_never place setup answers w e n c
at_never Cut setup answers w e n c = cut_never setup answers w e n c

pub never_refused : (setup : Setup) (answers : Answers) (w : World) (e : Event) (n : ℕ) (c : Connection) → NeverRefused (acts_on setup answers w e n c)
never_refused setup answers w e n c = at_never c.standing setup answers w e n c

-- ---- Each connection

-- What holds of each connection holds of the one at a place.
pub all_at : {A : Type 0} (P : A → Type 0) (xs : List A) (i : ℕ) (x : A) → AllByRecursion P xs → slice_get xs i ≡ Some x → P x
all_at P [] i x all e = absurd (cc)
all_at P (y ∷ xs) zero x all e = let is : y ≡ x = cc in subst P is all.0
all_at P (y ∷ xs) (suc i) x all e = all_at P xs i x all.1 e

-- So of what an event makes of its connection.
pub after_at : (P : Connection → Type 0) (w : World) (e : Event) (place : ℕ) (c : Connection) (acted : Acted) → slice_get w.connections place ≡ Some c → OfEachConnection P (settles e (suc place) w acted).1 → P (after acted c)
after_at P w e place c (Refuses why) there all = all_at P w.connections place c all there
after_at P w e place c (Does what d) there all =
    let now : World = record w { connections = put place d w.connections } in
    all_at P (put place d w.connections) place d (subst (AllByRecursion P) (notes_leave e (suc place) d.heard now) all)
    (put_there w.connections place d (omega (arith, slice_get_within w.connections place c there)))

stands_cut : (b : Bool) (p : Place) (s : Standing) → standing_by b p ≡ s → b ≡ is_cut s
stands_cut true p s e = ap is_cut e
stands_cut false p s e = ap is_cut e

pub lives_by : (b : Bool) (p : Place) (s : Standing) → standing_by b p ≡ s → b ≡ false → is_cut s ≡ false
lives_by b p s e is = sym (ap is_cut e) ∙ ap (λ (x : Bool). is_cut (standing_by x p)) is

-- ---- The whole player

-- What an event, as it was met, came to on its connection, and all connections then.
pub record RefinesActs {E S : Type 0} (size : ℕ) (engine : E) (place : ℕ) (c : Connection) (cs : List Connection) (acted : Acted) (done : EventDone) (ls : List (Seated E S)) (pipes : ℕ → Option Pipe) : Type 0 where
  pub same : done.outcome ≡ outcome_of acted
  pub all : RepresentConnections 1 size engine ls pipes (put place (cut_where done.lost (after acted c)) cs)

pub acts_alike : {E S : Type 0} (setup : Setup) (engine : E) (answers : Answers) (w : World) (e : Event) (place : ℕ) (c : Connection) (player : Player E S) (pipes pipes' : ℕ → Option Pipe) (x y : Seated E S) (done : EventDone)
    → RepresentsWorld setup engine player pipes w → x ≡ get_or (all_of player) place x → place < length (all_of player)
    → AreSame pipes pipes' x.link.number → IsFound setup answers w e place c
    → ((k : ℕ) → OfEachConnection IsCountable (happens setup answers (bringing k e) w).1)
    → (RepresentsConnection x.link.number setup.packet_size engine x.link x.seat (pipes x.link.number) c
    → ((k : ℕ) → IsCountable (after (acts_on setup answers w (bringing k e) x.link.number c) c)) → (x.link.is_cut ≡ false → IsReady e c)
    → RefinesAct x.link.number setup.packet_size engine done y.link y.seat (pipes' x.link.number) (acts_on setup answers w (met (loss_of done) e) x.link.number c) c)
    → RefinesActs setup.packet_size engine place c w.connections (acts_on setup answers w (met (loss_of done) e) (suc place) c) done (set (all_of player) place y) pipes'
acts_alike {E} {S} setup engine answers w e place c player pipes pipes' x y done is link_is less same_others found countable act =
    let played : RepresentsConnection (suc place) setup.packet_size engine x.link x.seat (pipes (suc place)) c = played_there setup.packet_size engine (all_of player) pipes w.connections place x c link_is is.connections found.there in
    let number : x.link.number ≡ suc place = played.numbered in
    let m : Event = met (loss_of done) e in
    let counts : (k : ℕ) → IsCountable (after (acts_on setup answers w (bringing k e) x.link.number c) c) = (λ k.
    subst (λ (n : ℕ). IsCountable (after (acts_on setup answers w (bringing k e) n c) c)) (sym number)
    (after_at IsCountable w (bringing k e) place c (acts_on setup answers w (bringing k e) (suc place) c) found.there
    (subst (λ (next : Outcome × World). OfEachConnection IsCountable next.1) (found.settles (Failed k)) (countable k)))) in
    let is_ready : (x.link.is_cut ≡ false → IsReady e c) = (λ lives. found.ready (lives_by x.link.is_cut x.seat.place c.standing played.standing lives)) in
    record {
      same = subst (λ (n : ℕ). done.outcome ≡ outcome_of (acts_on setup answers w m n c)) number
          (act (subst (λ (n : ℕ). RepresentsConnection n setup.packet_size engine x.link x.seat (pipes n) c) (sym number) played) counts is_ready).outcome;
      all = subst (λ (n : ℕ). RepresentConnections 1 setup.packet_size engine (set (all_of player) place y) pipes' (put place (cut_where done.lost (after (acts_on setup answers w m n c) c)) w.connections)) number
          (put_changed setup.packet_size engine (all_of player) pipes pipes' w.connections place x y c (cut_where done.lost (after (acts_on setup answers w m x.link.number c) c)) link_is less same_others found.there is.connections
          (λ p. (act p counts is_ready).played));
    }

-- An event that may be lost uses the link of the connection at this place.
pub lost_there : {E S : Type 0} (setup : Setup) (engine : E) (answers : Answers) (w : World) (e : Event) (place : ℕ) (c : Connection) (player : Player E S) (pipes : ℕ → Option Pipe) (x : Seated E S) (lost : Bool)
    → RepresentsWorld setup engine player pipes w → x ≡ get_or (all_of player) place x → IsFound setup answers w e place c
    → (lost ≡ true → MayLose x.link.is_cut e) → lost ≡ true → link_of setup w e ≡ Some (suc place)
lost_there setup engine answers w e place c player pipes x lost is link_is found loses failed =
    let played : RepresentsConnection (suc place) setup.packet_size engine x.link x.seat (pipes (suc place)) c = played_there setup.packet_size engine (all_of player) pipes w.connections place x c link_is is.connections found.there in
    found.link (subst (λ (b : Bool). MayLose b e) (stands_cut x.link.is_cut x.seat.place c.standing played.standing) (loses failed))

-- What an event came to and what the world is then, by what it came to on its connection.
settled_outcome : (e : Event) (n : ℕ) (w : World) (acted : Acted) → outcome_of acted ≡ (settles e n w acted).0
settled_outcome e n w (Refuses why) = refl
settled_outcome e n w (Does what d) = refl

refused_world : (e : Event) (n : ℕ) (w : World) (acted : Acted) (why : Refusal) → NeverRefused acted → outcome_of acted ≡ outcome.Refused why → (settles e n w acted).1 ≡ w
refused_world e n w (Refuses because) why never is = refl
refused_world e n w (Does what d) why never is = absurd (never why is)

applied_notes : {A : Type 0} (f : World → A) (e : Event) (n : ℕ) (w : World) (acted : Acted) (noted : A) → ((why : Refusal) → outcome_of acted ≡ outcome.Refused why → ⊥)
    → ((heard : ℕ) (cs : List Connection) → noted ≡ f (notes e n heard (record w { connections = cs }))) → noted ≡ f (settles e n w acted).1
applied_notes f e n w (Refuses because) noted applied is = absurd (applied because refl)
applied_notes f e n w (Does what d) noted applied is = is d.heard (put_numbered n d w.connections)

-- A delivery of other bytes is noted as it is.
noted_met : (l : Loss) (e : Event) (n heard : ℕ) (w : World) → notes e n heard w ≡ notes (met l e) n heard w
noted_met Nothing e n heard w = refl
noted_met (Failed k) event.Lease n heard w = refl
noted_met l e n heard w = refl

-- An event that was refused is not noted.
pub refused_alike : {E S : Type 0} (setup : Setup) (engine : E) (answers : Answers) (w : World) (e : Event) (place : ℕ) (c : Connection) (player new : Player E S) (pipes pipes' : ℕ → Option Pipe) (done : EventDone) (why : Refusal)
    → RepresentsWorld setup engine player pipes w → IsFound setup answers w e place c
    → (done.lost ≡ true → link_of setup w e ≡ Some (suc place))
    → RefinesActs setup.packet_size engine place c w.connections (acts_on setup answers w (met (loss_of done) e) (suc place) c) done (all_of new) pipes'
    → SameSetup player new → HoldsAs player new → done.outcome ≡ outcome.Refused why
    → RefinesEvent setup engine answers done new pipes' e w
refused_alike setup engine answers w e place c player new pipes pipes' done why is found link acts kept holds refused =
    let m : Event = met (loss_of done) e in
    let acted : Acted = acts_on setup answers w m (suc place) c in
    let moved : IsMoved (world_then setup answers w (record { event = e; loss = loss_of done })) (settles m (suc place) w acted).1 (put place (cut_where done.lost (after acted c)) w.connections) =
    settled_moved setup answers w e place c acted done.lost done.outcome found.there (found.settles (loss_of done)) link in
    let same : (settles m (suc place) w acted).1 ≡ w = refused_world m (suc place) w acted why (never_refused setup answers w m (suc place) c) (sym acts.same ∙ refused) in
    record {
      outcome = acts.same ∙ settled_outcome m (suc place) w acted ∙ sym (ap (λ (next : Outcome × World). next.0) (found.settles (loss_of done)));
      then = record {
        connections = subst (RepresentConnections 1 setup.packet_size engine (all_of new) pipes') (sym moved.connections) acts.all;
        leases = holds.leases_are ∙ is.leases ∙ ap (λ (x : World). holdings_of x.leases) (sym same) ∙ ap holdings_of (sym moved.leases);
        tickets = holds.tickets_are ∙ is.tickets ∙ ap (λ (x : World). holdings_of x.tickets) (sym same) ∙ ap holdings_of (sym moved.tickets);
        asked = holds.asked_are ∙ is.asked ∙ ap (λ (x : World). x.asked_on) (sym same) ∙ sym moved.asked;
        engine_is = kept.engine_is ∙ is.engine_is;
        max = kept.max_is ∙ is.max;
        size = kept.size_is ∙ is.size;
        told = kept.told_is ∙ is.told;
      };
    }

-- One that applied is.
pub noted_alike : {E S : Type 0} (setup : Setup) (engine : E) (answers : Answers) (w : World) (e : Event) (place : ℕ) (c : Connection) (player new : Player E S) (pipes pipes' : ℕ → Option Pipe) (done : EventDone)
    → RepresentsWorld setup engine player pipes w → IsFound setup answers w e place c
    → (done.lost ≡ true → link_of setup w e ≡ Some (suc place))
    → RefinesActs setup.packet_size engine place c w.connections (acts_on setup answers w (met (loss_of done) e) (suc place) c) done (all_of new) pipes'
    → SameSetup player new → HoldsBehind e (suc place) player new
    → ((why : Refusal) → done.outcome ≡ outcome.Refused why → ⊥)
    → RefinesEvent setup engine answers done new pipes' e w
noted_alike setup engine answers w e place c player new pipes pipes' done is found link acts kept holds applied =
    let l : Loss = loss_of done in
    let m : Event = met l e in
    let acted : Acted = acts_on setup answers w m (suc place) c in
    let moved : IsMoved (world_then setup answers w (record { event = e; loss = l })) (settles m (suc place) w acted).1 (put place (cut_where done.lost (after acted c)) w.connections) =
    settled_moved setup answers w e place c acted done.lost done.outcome found.there (found.settles l) link in
    let does : (why : Refusal) → outcome_of acted ≡ outcome.Refused why → ⊥ = (λ why z. applied why (acts.same ∙ z)) in
    record {
      outcome = acts.same ∙ settled_outcome m (suc place) w acted ∙ sym (ap (λ (next : Outcome × World). next.0) (found.settles l));
      then = record {
        connections = subst (RepresentConnections 1 setup.packet_size engine (all_of new) pipes') (sym moved.connections) acts.all;
        leases =
            holds.leases_are
            ∙ ap (leases_after e (suc place)) is.leases
            ∙ applied_notes (λ x. holdings_of x.leases) m (suc place) w acted (leases_after e (suc place) (holdings_of w.leases)) does
            (λ heard cs. leases_noted e (suc place) heard (record w { connections = cs }) ∙ ap (λ (x : World). holdings_of x.leases) (noted_met l e (suc place) heard (record w { connections = cs })))
            ∙ ap holdings_of (sym moved.leases);
        tickets =
            holds.tickets_are
            ∙ ap (tickets_after e (suc place)) is.tickets
            ∙ applied_notes (λ x. holdings_of x.tickets) m (suc place) w acted (tickets_after e (suc place) (holdings_of w.tickets)) does
            (λ heard cs. tickets_noted e (suc place) heard (record w { connections = cs }) ∙ ap (λ (x : World). holdings_of x.tickets) (noted_met l e (suc place) heard (record w { connections = cs })))
            ∙ ap holdings_of (sym moved.tickets);
        asked =
            holds.asked_are
            ∙ ap (asked_after e (suc place)) is.asked
            ∙ applied_notes (λ x. x.asked_on) m (suc place) w acted (asked_after e (suc place) w.asked_on) does
            (λ heard cs. asked_noted e (suc place) heard (record w { connections = cs }) ∙ ap (λ (x : World). x.asked_on) (noted_met l e (suc place) heard (record w { connections = cs })))
            ∙ sym moved.asked;
        engine_is = kept.engine_is ∙ is.engine_is;
        max = kept.max_is ∙ is.max;
        size = kept.size_is ∙ is.size;
        told = kept.told_is ∙ is.told;
      };
    }

-- A carrier is told of each event of a play, and what each does there.
use Rattle.std.proofs.Common.{◌≡◌, ◌∙◌, ◌+◌, ◌<◌, ◌≤◌, ℕ, suc, List, [], ◌∷◌, ◌++◌, length, take, slice_index_or, Option, Bool, true, append_assoc, refl, sym, ap, subst, arith}
use Rattle.std.proofs.lemmas.List.{append-nil, take_all}
use Rattle.tds_pool.specs.Connections.{connections}
use Rattle.tds_session.specs.Answer.{Answers}
use Rattle.tds_world.specs.declared.event.Event.{Event}
use Rattle.tds_world.specs.declared.event.Setup.{Setup}
use Rattle.tds_world.specs.declared.report.EventReport.{EventReport}
use Rattle.tds_world.specs.declared.report.Snapshot.{Snapshot}
use Rattle.tds_world.specs.Losses.{Played, link_of, marked, world_then, world_with}
use Rattle.tds_world.specs.World.{World, new_world}
use Rattle.tds_play.specs.Calls.{CarrierDoes, DoInTurn, MakesCalls, StandsAs, next_there}
use Rattle.tds_play.specs.declared.link.EventDone.{EventDone}
use Rattle.tds_play.specs.declared.player.Player.{Player}
use Rattle.tds_play.specs.Failures.{FailsOn, all_known}
use Rattle.tds_play.specs.Pipe.{AreSameBeyond, BegunEvent, Pipe}
use Rattle.tds_play.specs.Player.{RepresentsWorld, all_of}
use Rattle.tds_play.specs.Plays.{loss_of}
use Rattle.tds_play.specs.Ties.{AreTied}
use Rattle.tds_play.proofs.AllPlayed.{as_many}
use Rattle.tds_play.proofs.Marking.{marks_lost}
use Rattle.tds_play.proofs.Turns.{all_cut, bytes_carried, bytes_handed, marked_one_more, one_taken, so_many}
use Rattle.tds_play.proofs.pooled.Seated.{seated_length}

-- ---- One event

pub stands_as : {E S : Type 0} (setup : Setup) (engine : E) (player : Player E S) (pipes : ℕ → Option Pipe) (w : World)
    → AreTied (all_of player) pipes → RepresentsWorld setup engine player pipes w → StandsAs w pipes
stands_as setup engine player pipes w tied is = record {
  handed = λ n direction some most. bytes_handed setup.packet_size engine (all_of player) pipes w n direction is.connections some most;
  came = λ n c direction at. bytes_carried setup.packet_size engine (all_of player) pipes w.connections n c direction is.connections at;
  cut = λ n c at. all_cut setup.packet_size engine (all_of player) pipes w.connections n c is.connections tied at;
}

-- It has as many connections as the world.
many_in : {E S : Type 0} (setup : Setup) (engine : E) (player : Player E S) (pipes : ℕ → Option Pipe) (w : World)
    → RepresentsWorld setup engine player pipes w → length player.links.items ≡ length w.connections
many_in setup engine player pipes w is =
    sym (seated_length 1 player.links.items (connections player.pool)) ∙ as_many 1 setup.packet_size engine (all_of player) pipes w.connections is.connections

pub does_so : {E S : Type 0} (setup : Setup) (answers : Answers) (engine : E) (e : Event) (done : EventDone) (old new : Player E S) (before after : ℕ → Option Pipe) (w : World)
    → AreTied (all_of old) before → AreTied (all_of new) after
    → RepresentsWorld setup engine old before w
    → RepresentsWorld setup engine new after (world_then setup answers w (record { event = e; loss = loss_of done }))
    → AreSameBeyond (length new.links.items) before after
    → FailsOn e done.lost (link_of setup w e) (all_known (length old.links.items) before) (all_known (length new.links.items) after)
    → CarrierDoes setup answers w (record { event = e; loss = loss_of done }) before after
does_so setup answers engine e done old new before after w tied tied' was is others fails =
    let p : Played = record { event = e; loss = loss_of done } in
    let then : World = world_then setup answers w p in
    record {
      begins = stands_as setup engine old before w tied was;
      ends = stands_as setup engine new after then tied' is;
      others = subst (λ (n : ℕ). AreSameBeyond n before after) (many_in setup engine new after then is) others;
      fails =
          subst (λ (b : Bool). FailsOn e b (link_of setup w e) (all_known (length w.connections) before) (all_known (length then.connections) after)) (marks_lost done.lost done.outcome)
          (subst (λ (n : ℕ). FailsOn e done.lost (link_of setup w e) (all_known n before) (all_known (length then.connections) after)) (many_in setup engine old before w was)
          (subst (λ (n : ℕ). FailsOn e done.lost (link_of setup w e) (all_known (length old.links.items) before) (all_known n after)) (many_in setup engine new after then is) fails));
    }

-- ---- One after the other

-- What is there when an event begins that comes behind others.
next_more : (bs : List BegunEvent) (b : BegunEvent) (last last' : ℕ → Option Pipe) → last ≡ b.pipes → next_there (bs ++ b ∷ []) last' ≡ next_there bs last
next_more [] b last last' is = sym is
next_more (c ∷ bs) b last last' is = refl

pub one_more_does : (setup : Setup) (answers : Answers) (n : ℕ) (ps : List Played) (bs : List BegunEvent) (p : Played) (b : BegunEvent) (last last' : ℕ → Option Pipe) (w : World)
    → DoInTurn setup answers n ps bs last w → last ≡ b.pipes → b.event ≡ n + length ps
    → CarrierDoes setup answers (world_with setup answers ps w) p b.pipes last'
    → DoInTurn setup answers n (ps ++ p ∷ []) (bs ++ b ∷ []) last' w
one_more_does setup answers n [] [] p b last last' w far is at does = (at ∙ omega arith, does, tt)
one_more_does setup answers n [] (c ∷ bs) p b last last' w far is at does = absurd far
one_more_does setup answers n (q ∷ ps) [] p b last last' w far is at does = absurd far
one_more_does setup answers n (q ∷ ps) (c ∷ bs) p b last last' w far is at does = (
  far.0,
  subst (CarrierDoes setup answers w q c.pipes) (sym (next_more bs b last last' is)) far.1,
  one_more_does setup answers (suc n) ps bs p b last last' (world_then setup answers w q) far.2 is (at ∙ omega arith) does,
)

pub makes_none : {is_told : Bool} (setup : Setup) (answers : Answers) (es : List Event) (rs : List EventReport) (told : List BegunEvent) (pipes : ℕ → Option Pipe) → MakesCalls is_told setup answers (marked (take 0 es) rs) told told pipes
makes_none setup answers es rs told pipes = record {
  told = [];
  since = λ tells. sym (append-nil told);
  calls = tt;
}

marked_long : (es : List Event) (rs : List EventReport) → length (marked es rs) ≡ length es
marked_long [] rs = refl
marked_long (e ∷ es) [] = ap suc (marked_long es [])
marked_long (e ∷ es) (r ∷ rs) = ap suc (marked_long es rs)

pub makes_more : {is_told : Bool} (setup : Setup) (answers : Answers) (es : List Event) (i number : ℕ) (e : Event) (reports then : List EventReport) (done : EventDone) (seen : List Snapshot)
    (old told still : List BegunEvent) (before last : ℕ → Option Pipe)
    → i < length es → e ≡ slice_index_or es i e → length reports ≡ i → i < 10000 → number ≡ suc (length reports)
    → then ≡ reports ++ record { outcome = done.outcome; lost = done.lost; snapshots = seen } ∷ []
    → (is_told ≡ true → still ≡ told ++ record { event = number; pipes = before } ∷ [])
    → CarrierDoes setup answers (world_with setup answers (marked (take i es) reports) new_world) (record { event = e; loss = loss_of done }) before last
    → MakesCalls is_told setup answers (marked (take i es) reports) old told before → MakesCalls is_told setup answers (marked (take (i + 1) es) then) old still last
makes_more {is_told} setup answers es i number e reports then done seen old told still before last less is count few at more begun does far =
    let p : Played = record { event = e; loss = loss_of done } in
    let r : EventReport = record { outcome = done.outcome; lost = done.lost; snapshots = seen } in
    let b : BegunEvent = record { event = number; pipes = before } in
    let same : length reports ≡ length (take i es) = omega (arith, count, so_many i es (omega (arith, less))) in
    let ps : marked (take (i + 1) es) then ≡ marked (take i es) reports ++ p ∷ [] =
    ap (λ xs. marked xs then) (one_taken es i e less is) ∙ ap (marked (take i es ++ e ∷ [])) more
    ∙ marked_one_more (take i es) e reports r same in
    subst (λ (xs : List Played). MakesCalls is_told setup answers xs old still last) (sym ps)
    (record {
      told = far.told ++ b ∷ [];
      since = λ tells. begun tells ∙ ap (λ (bs : List BegunEvent). bs ++ b ∷ []) (far.since tells) ∙ append_assoc old far.told (b ∷ []);
      calls = one_more_does setup answers 1 (marked (take i es) reports) far.told p b before last new_world far.calls refl
          (at ∙ omega (arith, count, few, so_many i es (omega (arith, less)), marked_long (take i es) reports)) does;
    })

pub makes_all : {is_told : Bool} (setup : Setup) (answers : Answers) (es : List Event) (i : ℕ) (so_far reports : List EventReport) (old new : List BegunEvent) (pipes : ℕ → Option Pipe)
    → length es ≤ i → reports ≡ so_far → MakesCalls is_told setup answers (marked (take i es) so_far) old new pipes → MakesCalls is_told setup answers (marked es reports) old new pipes
makes_all {is_told} setup answers es i so_far reports old new pipes over same far =
    let ps : marked (take i es) so_far ≡ marked es reports = ap (λ xs. marked xs so_far) (take_all i es over) ∙ ap (marked es) (sym same) in
    subst (λ (xs : List Played). MakesCalls is_told setup answers xs old new pipes) ps far

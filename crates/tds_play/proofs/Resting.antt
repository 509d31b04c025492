-- A play that cleans nothing, each of whose connections comes to rest by a cancel; and which event each failure was in.
use Rattle.std.proofs.Common.{◌≡◌, ◌∙◌, ◌++◌, ℕ, zero, suc, Bool, true, false, List, [], ◌∷◌, Option, Some, None, refl, sym, ap, subst}
use Rattle.std.specs.List.{AllByRecursion}
use Rattle.std.specs.Prelude.{Err, IfOk, Ok, Result, if◌then◌else◌}
use Rattle.tds_session.specs.Answer.{Answers}
use Rattle.tds_world.specs.declared.event.Event.{Event}
use Rattle.tds_world.specs.declared.event.Setup.{Setup}
use Rattle.tds_world.specs.declared.outcome.Refusal.{Refusal}
use Rattle.tds_world.specs.declared.outcome.Refusal.TheVariants.{UnknownConnection}
use Rattle.tds_world.specs.declared.report.ClientView.TheVariants as view
use Rattle.tds_world.specs.declared.report.EventReport.{EventReport}
use Rattle.tds_world.specs.declared.report.Report.{Report}
use Rattle.tds_world.specs.declared.report.Snapshot.{Snapshot}
use Rattle.tds_world.specs.Connection.{Connection, Cut, In, Standing, is_cut, phase}
use Rattle.tds_world.specs.Losses.{Played, event_reports_with, marked, observed_with, world_then, world_with}
use Rattle.tds_world.specs.Observed.{seen, snapshots, snapshots_from}
use Rattle.tds_world.specs.Phase.{Asked, Cancelling, Phase, Reading, Sending, Settled, state_of}
use Rattle.tds_world.specs.rest.Rest.{AllCanCancel, CanCancel, IsNoCleaning, NeverStuck}
use Rattle.tds_world.specs.rest.RestShown.{CanCancelShown, last_of, last_snapshots}
use Rattle.tds_world.specs.WithLosses.{CleanNothing}
use Rattle.tds_world.specs.World.{Here, Missing, World, new_world, numbered, uncut_in}
use Rattle.tds_play.specs.Calls.{DoInTurn, FailInTurn, MakesCalls, MarksFailures}
use Rattle.tds_play.specs.Failures.{TellFailures}
use Rattle.tds_play.specs.Pipe.{BegunEvent, Pipe}
use Rattle.tds_play.specs.Stopping.{AllStop}
use Rattle.tds_play.specs.WholePlay.{CanAllStop}
use Rattle.tds_play.proofs.plays.PlayerActs.{all_at}

-- ---- Without a cleaning

pub clean_nothing : (es : List Event) (rs : List EventReport) → AllByRecursion IsNoCleaning es → CleanNothing (marked es rs)
clean_nothing [] rs none = tt
clean_nothing (e ∷ es) [] none = (none.0, clean_nothing es [] none.1)
clean_nothing (e ∷ es) (r ∷ rs) none = (none.0, clean_nothing es rs none.1)

here_by : (why : Refusal) (b : Bool) (n : ℕ) (d c : Connection) → (if b then Missing why else Here n d) ≡ Here n c → Some d ≡ Some c
here_by why true n d c is = absurd (cc)
here_by why false n d c is = cc

here_is : (why : Refusal) (n : ℕ) (o : Option Connection) (c : Connection) → uncut_in why n o ≡ Here n c → o ≡ Some c
here_is why n None c is = absurd (cc)
here_is why n (Some d) c is = here_by why (is_cut d.standing) n d c is

cancels_at : (cs : List Connection) (n : ℕ) (c : Connection) → AllByRecursion (λ (d : Connection). CanCancel d.standing (phase d)) cs → numbered cs n ≡ Some c → CanCancel c.standing (phase c)
cancels_at cs zero c all at = absurd (cc)
cancels_at cs (suc n) c all at = all_at (λ (d : Connection). CanCancel d.standing (phase d)) cs n c all at

can_all_stop : (setup : Setup) (answers : Answers) (w : World) → AllCanCancel w → NeverStuck setup answers w → CanAllStop setup answers w
can_all_stop setup answers w all never n c up down at enough =
    never.stops n c up down at (cancels_at w.connections n c all (here_is UnknownConnection n (numbered w.connections n) c at)) enough

reading_is : (p : Phase) → state_of p ≡ view.Reading → p ≡ Reading
reading_is Settled is = absurd (cc)
reading_is Asked is = absurd (cc)
reading_is Sending is = absurd (cc)
reading_is Reading is = refl
reading_is Cancelling is = absurd (cc)

one_shown : (n : ℕ) (c : Connection) (s : Standing) (xs : List Snapshot) → CanCancel s (phase c) → AllByRecursion CanCancelShown xs → AllByRecursion CanCancelShown (seen n c s ++ xs)
one_shown n c (In p) xs can all = (λ draining reading. can (ap In draining) (reading_is (phase c) reading), all)
one_shown n c Cut xs can all = all

each_shown : (n : ℕ) (cs : List Connection) → AllByRecursion (λ (c : Connection). CanCancel c.standing (phase c)) cs → AllByRecursion CanCancelShown (snapshots_from n cs)
each_shown n [] all = tt
each_shown n (c ∷ cs) all = one_shown n c c.standing (snapshots_from (suc n) cs) all.0 (each_shown (suc n) cs all.1)

-- What is shown last is what is seen in the end.
last_is : (setup : Setup) (answers : Answers) (ps : List Played) (w : World) (shown : List Snapshot) → shown ≡ snapshots w → last_of shown (event_reports_with setup answers ps w) ≡ snapshots (world_with setup answers ps w)
last_is setup answers [] w shown is = is
last_is setup answers (p ∷ ps) w shown is = last_is setup answers ps (world_then setup answers w p) (snapshots (world_then setup answers w p)) refl

pub all_stop : (setup : Setup) (answers : Answers) (ps : List Played) (report : Report) → report ≡ observed_with setup answers ps → AllCanCancel (world_with setup answers ps new_world) → NeverStuck setup answers (world_with setup answers ps new_world)
    → AllStop setup answers (world_with setup answers ps new_world) report
all_stop setup answers ps report told all never =
    let w : World = world_with setup answers ps new_world in
    record {
      world = can_all_stop setup answers w all never;
      shown = subst (AllByRecursion CanCancelShown) (sym (ap last_snapshots told ∙ last_is setup answers ps new_world [] refl)) (each_shown 1 w.connections all);
    }

-- ---- Which event

fail_in_turn : (setup : Setup) (answers : Answers) (n : ℕ) (ps : List Played) (bs : List BegunEvent) (last : ℕ → Option Pipe) (w : World) → DoInTurn setup answers n ps bs last w → FailInTurn setup answers ps bs last w
fail_in_turn setup answers n [] [] last w does = tt
fail_in_turn setup answers n [] (b ∷ bs) last w does = does
fail_in_turn setup answers n (p ∷ ps) [] last w does = does
fail_in_turn setup answers n (p ∷ ps) (b ∷ bs) last w does =
    (does.1.fails, fail_in_turn setup answers (suc n) ps bs last (world_then setup answers w p) does.2)

pub marks_failures : {is_told : Bool} (setup : Setup) (answers : Answers) (ps : List Played) (old new : List BegunEvent) (pipes : ℕ → Option Pipe) → MakesCalls is_told setup answers ps old new pipes → TellFailures setup answers ps pipes → MarksFailures is_told setup answers ps old new pipes
marks_failures setup answers ps old new pipes makes whole = record {
  told = makes.told;
  since = makes.since;
  each = fail_in_turn setup answers 1 ps makes.told pipes new_world makes.calls;
  whole = whole;
}

pub both_so : {A B : Type 0} (r : Result A B) (P Q R : A → Type 0) → ((x : A) → P x → Q x → R x) → IfOk r P → IfOk r Q → IfOk r R
both_so (Ok x) P Q R goes p q = goes x p q
both_so (Err why) P Q R goes p q = tt

-- On each connection of a table all comes out as if it were the only one: so the laws of one hold there.
use Rattle.std.proofs.Common.{◌≡◌, ◌∙◌, ℕ, List, sym, subst}
use Rattle.std.specs.Prelude.{None, true}
use Rattle.tds_service.specs.Service.{is_clean}
use Rattle.tds_service.specs.Line.{Idle, new_line}
use Rattle.tds_service.specs.History.{Done, acts_of, history, line_after}
use Rattle.laws_conforming_server.specs.Lawful.{AnyServer, IsLawful}
use Rattle.laws_conforming_server.specs.Link.{IsRun, Move, link_after, new_link}
use Rattle.laws_conforming_server.specs.Answering.{NoFault, answered}
use Rattle.laws_conforming_server.specs.Working.{CanGo, Waits}
use Rattle.laws_conforming_server.specs.Starting.{IsLeftClean, StartsFresh, owed_after}
use Rattle.laws_conforming_server.specs.Agreeing.{AllInNamed, IsQuiet}
use Rattle.laws_conforming_server.specs.Alone.{IsBeside, ResetsFirst, answered_alone, beside_after, new_beside}
use Rattle.laws_conforming_server.proofs.Past.{IsOwn}
use Rattle.laws_conforming_server.proofs.Runs.{ends_alone, goes_on, idle_quiet, leaves_clean, never_faults, own_answer, runs_fresh, runs_in_named, told_alone}

-- What was done there is a history of a connection by itself.
abbrev pub Alone : {T : Type 0} → List (Done T) → Type 0
Alone ds = ds ≡ history new_line (acts_of ds)

alone_run : {V T : Type 0} (engine : AnyServer V T) (moves : List (Move T)) (ds : List (Done T)) → Alone ds → IsRun engine moves ds → IsRun engine moves (history new_line (acts_of ds))
alone_run engine moves ds a run = record { ours = run.ours ∙ a; runs = run.runs }

pub own_there : {V T : Type 0} (engine : AnyServer V T) (moves : List (Move T)) (ds : List (Done T)) (r : ℕ) → Alone ds → IsLawful engine → IsRun engine moves ds
    → IsOwn r ds (answered engine (new_link engine) r moves)
own_there {V} {T} engine moves ds r a lawful run =
    subst (λ (xs : List (Done T)). IsOwn r xs (answered engine (new_link engine) r moves)) (sym a)
    (own_answer engine (acts_of ds) moves r lawful (alone_run engine moves ds a run))

pub no_fault_there : {V T : Type 0} (engine : AnyServer V T) (moves : List (Move T)) (ds : List (Done T)) → Alone ds → IsLawful engine → IsRun engine moves ds → NoFault ds
no_fault_there {V} {T} engine moves ds a lawful run =
    subst (λ (xs : List (Done T)). NoFault xs) (sym a) (never_faults engine (acts_of ds) moves lawful (alone_run engine moves ds a run))

pub quiet_there : {V T : Type 0} (engine : AnyServer V T) (moves : List (Move T)) (ds : List (Done T)) → Alone ds → IsLawful engine → IsRun engine moves ds
    → (line_after new_line (acts_of ds)).stage ≡ Idle → IsQuiet (line_after new_line (acts_of ds)) (link_after engine (new_link engine) moves)
quiet_there engine moves ds a lawful run = idle_quiet engine (acts_of ds) moves lawful (alone_run engine moves ds a run)

pub named_there : {V T : Type 0} (engine : AnyServer V T) (moves : List (Move T)) (ds : List (Done T)) → Alone ds → IsLawful engine → IsRun engine moves ds
    → AllInNamed engine (new_link engine) moves
named_there engine moves ds a lawful run = runs_in_named engine (acts_of ds) moves lawful (alone_run engine moves ds a run)

pub fresh_there : {V T : Type 0} (engine : AnyServer V T) (moves : List (Move T)) (ds : List (Done T)) → Alone ds → IsLawful engine → IsRun engine moves ds
    → StartsFresh engine None (new_link engine) moves
fresh_there engine moves ds a lawful run = runs_fresh engine (acts_of ds) moves lawful (alone_run engine moves ds a run)

pub goes_on_there : {V T : Type 0} (engine : AnyServer V T) (moves : List (Move T)) (ds : List (Done T)) → Alone ds → IsLawful engine → IsRun engine moves ds
    → Waits (line_after new_line (acts_of ds)).stage → CanGo (link_after engine (new_link engine) moves)
goes_on_there engine moves ds a lawful run = goes_on engine (acts_of ds) moves lawful (alone_run engine moves ds a run)

pub clean_there : {V T : Type 0} (engine : AnyServer V T) (moves : List (Move T)) (ds : List (Done T)) → Alone ds → IsLawful engine → IsRun engine moves ds
    → (line_after new_line (acts_of ds)).stage ≡ Idle
    → is_clean (line_after new_line (acts_of ds)).heard.mark (line_after new_line (acts_of ds)).heard.descriptor ≡ true
    → IsLeftClean (owed_after engine None (new_link engine) moves) (link_after engine (new_link engine) moves)
clean_there engine moves ds a lawful run = leaves_clean engine (acts_of ds) moves lawful (alone_run engine moves ds a run)

pub alone_there : {V T : Type 0} (engine : AnyServer V T) (moves : List (Move T)) (ds : List (Done T)) (r : ℕ) → Alone ds → IsLawful engine → ResetsFirst engine → IsRun engine moves ds
    → IsOwn r ds (answered_alone engine (new_beside engine) r moves)
alone_there {V} {T} engine moves ds r a lawful first run =
    subst (λ (xs : List (Done T)). IsOwn r xs (answered_alone engine (new_beside engine) r moves)) (sym a)
    (told_alone engine (acts_of ds) moves r lawful first (alone_run engine moves ds a run))

pub beside_there : {V T : Type 0} (engine : AnyServer V T) (moves : List (Move T)) (ds : List (Done T)) → Alone ds → IsLawful engine → ResetsFirst engine → IsRun engine moves ds
    → IsBeside engine.settings (beside_after engine (new_beside engine) moves)
beside_there engine moves ds a lawful first run = ends_alone engine (acts_of ds) moves lawful first (alone_run engine moves ds a run)

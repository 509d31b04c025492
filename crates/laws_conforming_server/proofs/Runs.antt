-- A run from the login, as a plan; and the laws of it.
use Rattle.std.proofs.Common.{◌≡◌, ◌∙◌, ℕ, zero, suc, true, List, refl, sym, ap, subst, arith, inl}
use Rattle.std.specs.Prelude.{None}
use Rattle.tds_service.specs.Service.{is_clean}
use Rattle.tds_service.specs.Line.{Line, Act, Idle, new_line}
use Rattle.tds_service.specs.History.{Done, history, line_after}
use Rattle.laws_conforming_server.specs.Lawful.{AnyServer, IsLawful}
use Rattle.laws_conforming_server.specs.Link.{IsRun, Move, Runs, here, link_after, new_link}
use Rattle.laws_conforming_server.specs.Answering.{NoFault, answered}
use Rattle.laws_conforming_server.specs.Working.{CanGo, Waits}
use Rattle.laws_conforming_server.specs.Starting.{IsLeftClean, StartsFresh, owed_after}
use Rattle.laws_conforming_server.specs.Agreeing.{AllInNamed, IsQuiet}
use Rattle.laws_conforming_server.specs.Alone.{IsBeside, ResetsFirst, answered_alone, beside_after, new_beside}
use Rattle.laws_conforming_server.proofs.Flow.{FlowOn}
use Rattle.laws_conforming_server.proofs.Plans.{Follows, Planned, acts_in, flow_after, follows, moves_by}
use Rattle.laws_conforming_server.proofs.Past.{IsOwn, own_alike, own_silent, past}
use Rattle.laws_conforming_server.proofs.Own.{OwnOf, ds_by}
use Rattle.laws_conforming_server.proofs.Later.{own_later}
use Rattle.laws_conforming_server.proofs.Starts.{starts_fresh}
use Rattle.laws_conforming_server.proofs.Leaves.{Knows, clean_on, knows_after}
use Rattle.laws_conforming_server.proofs.Works.{can_go}
use Rattle.laws_conforming_server.proofs.Agrees.{no_fault, quiet_on}
use Rattle.laws_conforming_server.proofs.Named.{all_named}
use Rattle.laws_conforming_server.proofs.Besides.{AsAlone, as_alone, twin_new}

-- Behind a login all is quiet.
pub new_flow : {V T : Type 0} (engine : AnyServer V T) → FlowOn engine new_line (new_link engine)
new_flow engine = record { up = refl; still = record { down = refl; due = refl; transaction = refl; done = refl } }

run_of : {V T : Type 0} (engine : AnyServer V T) (acts : List (Act T)) (moves : List (Move T)) → IsRun engine moves (history new_line acts) → Follows new_line acts moves
run_of engine acts moves run = follows new_line acts moves run.ours

planned : {V T : Type 0} (engine : AnyServer V T) (acts : List (Act T)) (moves : List (Move T)) (run : IsRun engine moves (history new_line acts)) (f : Follows new_line acts moves)
    → Runs engine (new_link engine) (moves_by new_line f.plan)
planned {V} {T} engine acts moves run f = subst (λ (ms : List (Move T)). Runs engine (new_link engine) ms) f.moves_are run.runs

pub never_faults : {V T : Type 0} (engine : AnyServer V T) (acts : List (Act T)) (moves : List (Move T)) → IsLawful engine
    → IsRun engine moves (history new_line acts) → NoFault (history new_line acts)
never_faults {V} {T} engine acts moves lawful run =
    let f = run_of engine acts moves run in
    subst (λ (ds : List (Done T)). NoFault ds) (ap here (sym f.moves_are) ∙ run.ours)
    (no_fault engine lawful new_line (new_link engine) f.plan tt (new_flow engine) (planned engine acts moves run f))

flow_of : {V T : Type 0} (engine : AnyServer V T) (acts : List (Act T)) (moves : List (Move T)) → IsLawful engine
    → IsRun engine moves (history new_line acts) → FlowOn engine (line_after new_line acts) (link_after engine (new_link engine) moves)
flow_of {V} {T} engine acts moves lawful run =
    let f = run_of engine acts moves run in
    subst (λ (xs : List (Act T)). FlowOn engine (line_after new_line xs) (link_after engine (new_link engine) moves)) (sym f.acts_are)
    (subst (λ (ms : List (Move T)). FlowOn engine (line_after new_line (acts_in f.plan)) (link_after engine (new_link engine) ms)) (sym f.moves_are)
    (flow_after engine lawful new_line (new_link engine) f.plan (new_flow engine) (planned engine acts moves run f)))

pub idle_quiet : {V T : Type 0} (engine : AnyServer V T) (acts : List (Act T)) (moves : List (Move T)) → IsLawful engine
    → IsRun engine moves (history new_line acts) → (line_after new_line acts).stage ≡ Idle
    → IsQuiet (line_after new_line acts) (link_after engine (new_link engine) moves)
idle_quiet engine acts moves lawful run e =
    quiet_on engine (line_after new_line acts) (link_after engine (new_link engine) moves) e (flow_of engine acts moves lawful run)

pub goes_on : {V T : Type 0} (engine : AnyServer V T) (acts : List (Act T)) (moves : List (Move T)) → IsLawful engine
    → IsRun engine moves (history new_line acts) → Waits (line_after new_line acts).stage → CanGo (link_after engine (new_link engine) moves)
goes_on engine acts moves lawful run w =
    let l : Line = line_after new_line acts in
    can_go engine l.asked l.stage l.heard (link_after engine (new_link engine) moves) w (flow_of engine acts moves lawful run)

pub runs_in_named : {V T : Type 0} (engine : AnyServer V T) (acts : List (Act T)) (moves : List (Move T)) → IsLawful engine
    → IsRun engine moves (history new_line acts) → AllInNamed engine (new_link engine) moves
runs_in_named {V} {T} engine acts moves lawful run =
    let f = run_of engine acts moves run in
    subst (λ (ms : List (Move T)). AllInNamed engine (new_link engine) ms) (sym f.moves_are)
    (all_named engine lawful new_line (new_link engine) f.plan tt (new_flow engine) (planned engine acts moves run f))

-- What each request is told is of its own answer. There is no request 0.
own_zero : {V T : Type 0} (engine : AnyServer V T) (plan : List (Planned T)) → OwnOf engine 0 new_line (new_link engine) plan
own_zero engine plan = own_silent 0 (ds_by new_line plan) _ (past 0 new_line plan (omega arith))

own_planned : {V T : Type 0} (engine : AnyServer V T) (lawful : IsLawful engine) (r : ℕ) (plan : List (Planned T)) → Runs engine (new_link engine) (moves_by new_line plan)
    → OwnOf engine r new_line (new_link engine) plan
own_planned engine lawful zero plan runs = own_zero engine plan
own_planned engine lawful (suc r) plan runs = own_later engine lawful (suc r) 0 Idle new_line.heard (new_link engine) plan (new_flow engine) (omega arith) runs

pub own_answer : {V T : Type 0} (engine : AnyServer V T) (acts : List (Act T)) (moves : List (Move T)) (r : ℕ) → IsLawful engine
    → IsRun engine moves (history new_line acts) → IsOwn r (history new_line acts) (answered engine (new_link engine) r moves)
own_answer {V} {T} engine acts moves r lawful run =
    let f = run_of engine acts moves run in
    subst (λ (ds : List (Done T)). IsOwn r ds (answered engine (new_link engine) r moves)) run.ours
    (subst (λ (ms : List (Move T)). IsOwn r (here ms) (answered engine (new_link engine) r ms)) (sym f.moves_are)
    (own_planned engine lawful r f.plan (planned engine acts moves run f)))

-- Nothing is owed behind a login.
pub runs_fresh : {V T : Type 0} (engine : AnyServer V T) (acts : List (Act T)) (moves : List (Move T)) → IsLawful engine
    → IsRun engine moves (history new_line acts) → StartsFresh engine None (new_link engine) moves
runs_fresh {V} {T} engine acts moves lawful run =
    let f = run_of engine acts moves run in
    subst (λ (ms : List (Move T)). StartsFresh engine None (new_link engine) ms) (sym f.moves_are)
    (starts_fresh engine lawful None new_line (new_link engine) f.plan tt (new_flow engine) refl (inl (inl refl)) (planned engine acts moves run f))

pub leaves_clean : {V T : Type 0} (engine : AnyServer V T) (acts : List (Act T)) (moves : List (Move T)) → IsLawful engine
    → IsRun engine moves (history new_line acts) → (line_after new_line acts).stage ≡ Idle
    → is_clean (line_after new_line acts).heard.mark (line_after new_line acts).heard.descriptor ≡ true
    → IsLeftClean (owed_after engine None (new_link engine) moves) (link_after engine (new_link engine) moves)
leaves_clean {V} {T} engine acts moves lawful run e c =
    let f = run_of engine acts moves run in
    clean_on engine (owed_after engine None (new_link engine) moves) (line_after new_line acts) (link_after engine (new_link engine) moves) e
    (flow_of engine acts moves lawful run)
    (subst (λ (xs : List (Act T)). Knows (owed_after engine None (new_link engine) moves) (line_after new_line xs) (link_after engine (new_link engine) moves)) (sym f.acts_are)
    (subst (λ (ms : List (Move T)). Knows (owed_after engine None (new_link engine) ms) (line_after new_line (acts_in f.plan)) (link_after engine (new_link engine) ms)) (sym f.moves_are)
    (knows_after engine lawful None new_line (new_link engine) f.plan (new_flow engine) (λ _. refl) (planned engine acts moves run f)))) c

-- Both servers are the same behind a login.
runs_alone : {V T : Type 0} (engine : AnyServer V T) (acts : List (Act T)) (moves : List (Move T)) (r : ℕ) → IsLawful engine → ResetsFirst engine
    → IsRun engine moves (history new_line acts) → AsAlone engine r (new_beside engine) moves
runs_alone {V} {T} engine acts moves r lawful first run =
    let f = run_of engine acts moves run in
    let fresh = runs_fresh engine acts moves lawful run in
    let named = runs_in_named engine acts moves lawful run in
    subst (λ (ms : List (Move T)). AsAlone engine r (new_beside engine) ms) (sym f.moves_are)
    (as_alone engine lawful first r None (new_beside engine).own new_line (new_link engine) f.plan (new_flow engine)
    (twin_new T engine.settings None (new_link engine).server.session)
    (subst (λ (ms : List (Move T)). StartsFresh engine None (new_link engine) ms) f.moves_are fresh)
    (subst (λ (ms : List (Move T)). AllInNamed engine (new_link engine) ms) f.moves_are named)
    (planned engine acts moves run f))

pub told_alone : {V T : Type 0} (engine : AnyServer V T) (acts : List (Act T)) (moves : List (Move T)) (r : ℕ) → IsLawful engine → ResetsFirst engine
    → IsRun engine moves (history new_line acts) → IsOwn r (history new_line acts) (answered_alone engine (new_beside engine) r moves)
told_alone engine acts moves r lawful first run =
    own_alike r (history new_line acts) (answered engine (new_link engine) r moves) (answered_alone engine (new_beside engine) r moves)
    (runs_alone engine acts moves r lawful first run).told (own_answer engine acts moves r lawful run)

pub ends_alone : {V T : Type 0} (engine : AnyServer V T) (acts : List (Act T)) (moves : List (Move T)) → IsLawful engine → ResetsFirst engine
    → IsRun engine moves (history new_line acts) → IsBeside engine.settings (beside_after engine (new_beside engine) moves)
ends_alone engine acts moves lawful first run = (runs_alone engine acts moves 0 lawful first run).ends

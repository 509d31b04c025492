-- A run of a connection by itself, with what its client does in the place of what came of it.
use Rattle.std.proofs.Common.{◌≡◌, ◌∙◌, List, [], ◌∷◌, refl, ap}
use Rattle.tds_service.specs.Line.{Line, Act, line_turn}
use Rattle.tds_service.specs.History.{Done, done_by, history, line_after}
use Rattle.laws_conforming_server.specs.Lawful.{AnyServer, IsLawful}
use Rattle.laws_conforming_server.specs.Link as links
use Rattle.laws_conforming_server.specs.Link.{Link, Move, Runs, goes, here, link_after}
use Rattle.laws_conforming_server.proofs.Flow.{FlowOn}
use Rattle.laws_conforming_server.proofs.Taking.{keeps_takes}
use Rattle.laws_conforming_server.proofs.Keeps.{keeps_act, keeps_speaks}

pub data Planned (T : Type 0) : Type 0 where
  Does : (act : Act T) → Planned T
  Takes : Planned T
  Speaks : Planned T

abbrev pub moves_by : {T : Type 0} → Line → List (Planned T) → List (Move T)
moves_by l [] = []
moves_by l (Does a ∷ plan) = links.Here (done_by a (line_turn l a)) ∷ moves_by (line_turn l a).line plan
moves_by l (Takes ∷ plan) = links.Takes ∷ moves_by l plan
moves_by l (Speaks ∷ plan) = links.Speaks ∷ moves_by l plan

abbrev pub acts_in : {T : Type 0} → List (Planned T) → List (Act T)
acts_in [] = []
acts_in (Does a ∷ plan) = a ∷ acts_in plan
acts_in (Takes ∷ plan) = acts_in plan
acts_in (Speaks ∷ plan) = acts_in plan

pub record Follows {T : Type 0} (l : Line) (acts : List (Act T)) (moves : List (Move T)) : Type 0 where
  pub plan : List (Planned T)
  pub moves_are : moves ≡ moves_by l plan
  pub acts_are : acts ≡ acts_in plan

first_same : {A : Type 0} (x y : A) (xs ys : List A) → x ∷ xs ≡ y ∷ ys → (x ≡ y) × (xs ≡ ys)
first_same x y xs ys e = (cc, cc)

follows_act : {T : Type 0} (l : Line) (d : Done T) (a : Act T) (acts : List (Act T)) (moves : List (Move T)) → d ≡ done_by a (line_turn l a)
    → Follows (line_turn l a).line acts moves → Follows l (a ∷ acts) (links.Here d ∷ moves)
follows_act {T} l d a acts moves e f = record {
  plan = Does a ∷ f.plan;
  moves_are = ap (λ (x : Done T). links.Here x ∷ moves) e ∙ ap (λ (ms : List (Move T)). links.Here (done_by a (line_turn l a)) ∷ ms) f.moves_are;
  acts_are = ap (λ (xs : List (Act T)). a ∷ xs) f.acts_are;
}

pub follows : {T : Type 0} (l : Line) (acts : List (Act T)) (moves : List (Move T)) → here moves ≡ history l acts → Follows l acts moves
follows l [] [] e = record { plan = []; moves_are = refl; acts_are = refl }
follows l (a ∷ acts) [] e = let b : ⊥ = cc in absurd b
follows l [] (links.Here d ∷ moves) e = let b : ⊥ = cc in absurd b
follows l (a ∷ acts) (links.Here d ∷ moves) e =
    let both = first_same d (done_by a (line_turn l a)) (here moves) (history (line_turn l a).line acts) e in
    follows_act l d a acts moves both.0 (follows (line_turn l a).line acts moves both.1)
follows {T} l acts (links.Takes ∷ moves) e =
    let f = follows l acts moves e in
    record { plan = Takes ∷ f.plan; moves_are = ap (λ (ms : List (Move T)). links.Takes ∷ ms) f.moves_are; acts_are = f.acts_are }
follows {T} l acts (links.Speaks ∷ moves) e =
    let f = follows l acts moves e in
    record { plan = Speaks ∷ f.plan; moves_are = ap (λ (ms : List (Move T)). links.Speaks ∷ ms) f.moves_are; acts_are = f.acts_are }

-- The invariant holds behind each run.
pub flow_after : {V T : Type 0} (engine : AnyServer V T) (lawful : IsLawful engine) (l : Line) (link : Link V T) (plan : List (Planned T))
    → FlowOn engine l link → Runs engine link (moves_by l plan)
    → FlowOn engine (line_after l (acts_in plan)) (link_after engine link (moves_by l plan))
flow_after engine lawful l link [] f runs = f
flow_after engine lawful l link (Does a ∷ plan) f runs =
    flow_after engine lawful (line_turn l a).line (goes engine link (links.Here (done_by a (line_turn l a)))) plan
    (keeps_act engine l.asked l.stage l.heard link a f runs.0) runs.1
flow_after engine lawful l link (Takes ∷ plan) f runs =
    flow_after engine lawful l (goes engine link links.Takes) plan (keeps_takes engine lawful l.asked l.stage l.heard link f runs.0) runs.1
flow_after engine lawful l link (Speaks ∷ plan) f runs =
    flow_after engine lawful l (goes engine link links.Speaks) plan (keeps_speaks engine l.asked l.stage l.heard link f runs.0) runs.1

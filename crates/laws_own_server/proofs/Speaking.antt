-- Moves, one behind the other; and a server that says many things.
use Rattle.std.proofs.Common.{◌≡◌, ◌∙◌, List, [], ◌∷◌, ◌++◌, refl, sym, ap, subst}
use Rattle.std.proofs.lemmas.List.{append-nil, append_assoc}
use Rattle.tds_service.specs.History.{Done}
use Rattle.laws_conforming_server.specs.Lawful.{Session, ServerStep, AnyServer}
use Rattle.laws_conforming_server.specs.Link.{HasSome, Link, Move, Here, Takes, Speaks, Runs, goes, here, link_after, session_behind, spoken}

pub runs_both : {V T : Type 0} (engine : AnyServer V T) (link : Link V T) (moves more : List (Move T))
    → Runs engine link moves → Runs engine (link_after engine link moves) more → Runs engine link (moves ++ more)
runs_both engine link [] more a b = b
runs_both engine link (move ∷ moves) more a b = (a.0, runs_both engine (goes engine link move) moves more a.1 b)

pub after_both : {V T : Type 0} (engine : AnyServer V T) (link : Link V T) (moves more : List (Move T))
    → link_after engine link (moves ++ more) ≡ link_after engine (link_after engine link moves) more
after_both engine link [] more = refl
after_both engine link (move ∷ moves) more = after_both engine (goes engine link move) moves more

pub here_both : {T : Type 0} (moves more : List (Move T)) → here (moves ++ more) ≡ here moves ++ here more
here_both [] more = refl
here_both {T} (Here d ∷ moves) more = ap (λ (ds : List (Done T)). d ∷ ds) (here_both moves more)
here_both (Takes ∷ moves) more = here_both moves more
here_both (Speaks ∷ moves) more = here_both moves more

-- ---- Many things are said

abbrev pub speaks : {V T : Type 0} → List (ServerStep V T) → List (Move T)
speaks [] = []
speaks (step ∷ steps) = Speaks ∷ speaks steps

abbrev pub behind_all : {V T : Type 0} → Session V → List (ServerStep V T) → Session V
behind_all s [] = s
behind_all s (step ∷ steps) = behind_all (session_behind s step) steps

abbrev pub all_spoken : {V T : Type 0} → Link V T → List (ServerStep V T) → List (ServerStep V T) → Link V T
all_spoken link steps rest = record {
  up = link.up;
  server = record { session = behind_all link.server.session steps; reset = link.server.reset; due = rest };
  down = link.down ++ steps;
  asking = link.asking;
}

pub speaks_here : {V T : Type 0} (steps : List (ServerStep V T)) → here (speaks steps) ≡ []
speaks_here [] = refl
speaks_here (step ∷ steps) = speaks_here steps

same_link : {V T : Type 0} (link : Link V T) (rest : List (ServerStep V T)) → link.server.due ≡ rest → link ≡ all_spoken link [] rest
same_link {V} {T} link rest e =
    ap (λ (due : List (ServerStep V T)). record {
      up = link.up;
      server = record { session = link.server.session; reset = link.server.reset; due = due };
      down = link.down;
      asking = link.asking;
    }) e
    ∙ ap (λ (down : List (ServerStep V T)). record {
      up = link.up;
      server = record { session = link.server.session; reset = link.server.reset; due = rest };
      down = down;
      asking = link.asking;
    }) (sym (append-nil link.down))

step_more : {V T : Type 0} (down : List (ServerStep V T)) (step : ServerStep V T) (steps : List (ServerStep V T)) → (down ++ step ∷ []) ++ steps ≡ down ++ step ∷ steps
step_more down step steps = append_assoc down (step ∷ []) steps

pub says_all : {V T : Type 0} (engine : AnyServer V T) (link : Link V T) (steps rest : List (ServerStep V T)) → link.server.due ≡ steps ++ rest
    → Runs engine link (speaks steps) × (link_after engine link (speaks steps) ≡ all_spoken link steps rest)
says_all {V} {T} engine link [] rest e = (tt, same_link link rest e)
says_all {V} {T} engine link (step ∷ steps) rest e =
    let next : Link V T = spoken link (step ∷ (steps ++ rest)) in
    let ih = says_all engine next steps rest refl in (
      (
        subst (λ (due : List (ServerStep V T)). HasSome due) (sym e) tt,
        subst (λ (due : List (ServerStep V T)). Runs engine (spoken link due) (speaks steps)) (sym e) ih.0,
      ),
      ap (λ (due : List (ServerStep V T)). link_after engine (spoken link due) (speaks steps)) e ∙ ih.1
          ∙ ap (λ (down : List (ServerStep V T)). record {
            up = link.up;
            server = record { session = behind_all (session_behind link.server.session step) steps; reset = link.server.reset; due = rest };
            down = down;
            asking = link.asking;
          }) (step_more link.down step steps),
    )

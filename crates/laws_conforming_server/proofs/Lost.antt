-- Behind a loss of the connection the server goes on with what is on its way to it.
use Rattle.std.proofs.Common.{◌≡◌, ℕ, List, [], ◌∷◌, ◌++◌, refl, sym, subst}
use Rattle.tds_client.specs.declared.heard.Heard.{Heard}
use Rattle.tds_service.specs.Line.{LineStage}
use Rattle.laws_conforming_server.specs.Lawful.{ServerStep, AnyServer, IsLawful}
use Rattle.laws_conforming_server.specs.Link.{Link, PacketUp, HasSome, TakesNext, spoken, taken}
use Rattle.laws_conforming_server.proofs.Flow.{Flow}
use Rattle.laws_conforming_server.proofs.Taking.{keeps_takes}
use Rattle.laws_conforming_server.proofs.Keeps.{keeps_speaks}

-- What came since then counts as on its way still.
abbrev pub with_down : {V T : Type 0} → Link V T → List (ServerStep V T) → Link V T
with_down link down = record { up = link.up; server = link.server; down = down; asking = link.asking }

-- As the client was when the connection was lost.
abbrev pub Was : {V T : Type 0} → AnyServer V T → ℕ → LineStage → Heard → List (ServerStep V T) → Link V T → Type 0
Was engine n stage h down link = Flow engine n stage h (with_down link down)

taken_down : {V T : Type 0} (engine : AnyServer V T) (link : Link V T) (down : List (ServerStep V T)) (u : List PacketUp)
    → with_down (taken engine link u) down ≡ taken engine (with_down link down) u
taken_down engine link down [] = refl
taken_down engine link down (next ∷ others) = refl

pub was_takes : {V T : Type 0} (engine : AnyServer V T) (lawful : IsLawful engine) (n : ℕ) (stage : LineStage) (h : Heard) (down : List (ServerStep V T)) (link : Link V T)
    → Was engine n stage h down link → TakesNext link.up link.server.due → Was engine n stage h down (taken engine link link.up)
was_takes {V} {T} engine lawful n stage h down link f t =
    subst (λ (k : Link V T). Flow engine n stage h k) (sym (taken_down engine link down link.up))
    (keeps_takes engine lawful n stage h (with_down link down) f t)

abbrev pub said_down : {V T : Type 0} → List (ServerStep V T) → List (ServerStep V T) → List (ServerStep V T)
said_down down [] = down
said_down down (step ∷ due) = down ++ step ∷ []

pub spoken_down : {V T : Type 0} (link : Link V T) (down due : List (ServerStep V T)) → with_down (spoken link due) (said_down down due) ≡ spoken (with_down link down) due
spoken_down link down [] = refl
spoken_down link down (step ∷ due) = refl

pub was_speaks : {V T : Type 0} (engine : AnyServer V T) (n : ℕ) (stage : LineStage) (h : Heard) (down : List (ServerStep V T)) (link : Link V T)
    → Was engine n stage h down link → HasSome link.server.due → Was engine n stage h (said_down down link.server.due) (spoken link link.server.due)
was_speaks {V} {T} engine n stage h down link f t =
    subst (λ (k : Link V T). Flow engine n stage h k) (sym (spoken_down link down link.server.due))
    (keeps_speaks engine n stage h (with_down link down) f t)

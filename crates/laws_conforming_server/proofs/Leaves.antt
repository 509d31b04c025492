-- What the client knows of resets where it is idle is what the server did of them.
use Rattle.std.proofs.Common.{◌≡◌, ◌∙◌, ◌==◌, ℕ, true, List, [], ◌∷◌, refl, sym, subst, arith}
use Rattle.std.specs.Prelude.{Option, Some, None}
use Rattle.std.proofs.lemmas.Bool.Decides.{nat_tests}
use Rattle.tds_packet.specs.declared.status.Reset.{Reset}
use Rattle.tds_client.specs.declared.heard.Heard.{Heard}
use Rattle.tds_service.specs.Line.{Line, LineStage, Idle, Sending, Reading, Cancelling, Broken, Act, Mark, Ask, Send, Cancel, Come, Lose, line_turn}
use Rattle.tds_service.specs.History.{done_by, line_after}
use Rattle.tds_service.specs.Service.{is_clean}
use Rattle.laws_conforming_server.specs.Lawful.{AnyServer, IsLawful}
use Rattle.laws_conforming_server.specs.Link as links
use Rattle.laws_conforming_server.specs.Link.{Link, Move, Runs, Comes, goes, link_after}
use Rattle.laws_conforming_server.specs.Starting.{IsLeftClean, owed_after, owed_here, owed_next}
use Rattle.laws_conforming_server.proofs.Flow.{Quiet, Flow, FlowOn}
use Rattle.laws_conforming_server.proofs.Coming.{line}
use Rattle.laws_conforming_server.proofs.Taking.{keeps_takes}
use Rattle.laws_conforming_server.proofs.Keeps.{keeps_act, keeps_speaks}
use Rattle.laws_conforming_server.proofs.Plans.{Planned, Does, Takes, Speaks, moves_by, acts_in}
use Rattle.laws_conforming_server.proofs.Agrees.{NotBroken}
use Rattle.laws_conforming_server.proofs.Starts.{Owes, OwesBehind, owes_act, owes_spoken, owes_still, owes_taken}

-- so it is unless the client is broken, which it stays
abbrev pub Knows : {V T : Type 0} → Option Reset → Line → Link V T → Type 0
Knows owed l link = NotBroken l.stage → Owes owed l.heard link

knows_act : {V T : Type 0} (engine : AnyServer V T) (owed : Option Reset) (n : ℕ) (stage : LineStage) (h : Heard) (link : Link V T) (a : Act T)
    → Flow engine n stage h link → Comes a link.down link.server.due → (NotBroken stage → Owes owed h link)
    → NotBroken (line_turn (line n stage h) a).line.stage → OwesBehind owed link a (line_turn (line n stage h) a)
knows_act engine owed n Idle h link a f c k b = owes_act engine owed n Idle h link a tt f c (k tt)
knows_act engine owed n (Sending begun) h link a f c k b = owes_act engine owed n (Sending begun) h link a tt f c (k tt)
knows_act engine owed n Reading h link a f c k b = owes_act engine owed n Reading h link a tt f c (k tt)
knows_act engine owed n Cancelling h link a f c k b = owes_act engine owed n Cancelling h link a tt f c (k tt)
knows_act engine owed n (Broken fault) h link (Mark reset) f c k b = absurd b
knows_act engine owed n (Broken fault) h link Ask f c k b = absurd b
knows_act engine owed n (Broken fault) h link (Send last) f c k b = absurd b
knows_act engine owed n (Broken fault) h link Cancel f c k b = absurd b
knows_act engine owed n (Broken fault) h link (Come part) f c k b = absurd b
knows_act engine owed n (Broken fault) h link Lose f c k b = absurd b

pub knows_after : {V T : Type 0} (engine : AnyServer V T) (lawful : IsLawful engine) (owed : Option Reset) (l : Line) (link : Link V T) (plan : List (Planned T))
    → FlowOn engine l link → Knows owed l link → Runs engine link (moves_by l plan)
    → Knows (owed_after engine owed link (moves_by l plan)) (line_after l (acts_in plan)) (link_after engine link (moves_by l plan))
knows_after engine lawful owed l link [] f k runs = k
knows_after engine lawful owed l link (Does a ∷ plan) f k runs =
    knows_after engine lawful (owed_here owed a (line_turn l a).answer) (line_turn l a).line (goes engine link (links.Here (done_by a (line_turn l a)))) plan
    (keeps_act engine l.asked l.stage l.heard link a f runs.0)
    (knows_act engine owed l.asked l.stage l.heard link a f runs.0 k) runs.1
knows_after engine lawful owed l link (Takes ∷ plan) f k runs =
    knows_after engine lawful owed l (goes engine link links.Takes) plan (keeps_takes engine lawful l.asked l.stage l.heard link f runs.0)
    (λ (b : NotBroken l.stage). owes_taken engine owed l.heard link link.up (k b)) runs.1
knows_after engine lawful owed l link (Speaks ∷ plan) f k runs =
    knows_after engine lawful (owed_next owed link.server.due) l (goes engine link links.Speaks) plan (keeps_speaks engine l.asked l.stage l.heard link f runs.0)
    (λ (b : NotBroken l.stage). owes_spoken owed l.heard link link.server.due runs.0 (k b)) runs.1

-- ---- Clean

zero_is : (d : ℕ) → (d == 0) ≡ true → d ≡ 0
zero_is d e = grind (arith, nat_tests)

no_mark : (mark : Option Reset) (d : ℕ) → is_clean mark d ≡ true → mark ≡ None
no_mark None d e = refl
no_mark (Some reset) d e = let b : ⊥ = cc in absurd b

no_transaction : (mark : Option Reset) (d : ℕ) → is_clean mark d ≡ true → d ≡ 0
no_transaction None d e = zero_is d e
no_transaction (Some reset) d e = let b : ⊥ = cc in absurd b

clean_idle : {V T : Type 0} (owed : Option Reset) (h : Heard) (link : Link V T) → Quiet h link → Owes owed h link → is_clean h.mark h.descriptor ≡ true
    → IsLeftClean owed link
clean_idle owed h link q o c = record {
  reset = owes_still owed h link q.still o ∙ no_mark h.mark h.descriptor c;
  transaction = sym q.still.transaction ∙ no_transaction h.mark h.descriptor c;
}

pub clean_on : {V T : Type 0} (engine : AnyServer V T) (owed : Option Reset) (l : Line) (link : Link V T) → l.stage ≡ Idle → FlowOn engine l link → Knows owed l link
    → is_clean l.heard.mark l.heard.descriptor ≡ true → IsLeftClean owed link
clean_on engine owed l link e f k c =
    clean_idle owed l.heard link (subst (λ (s : LineStage). Flow engine l.asked s l.heard link) e f)
    (k (subst (λ (s : LineStage). NotBroken s) (sym e) tt)) c

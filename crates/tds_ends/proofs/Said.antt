-- What lawful answers say: a step that takes a reset tells its end alone, and any other has the DONEs
-- that a client can hear.
use Rattle.std.proofs.Common.{ℕ, refl, sym, subst, List, [], ◌∷◌, Option, Some, None}
use Rattle.std.specs.List.{AllByRecursion}
use Rattle.tds_packet.specs.declared.status.Reset.{Reset}
use Rattle.tds_request.specs.declared.request.Request.{Request}
use Rattle.tds_session.specs.Answer.{Answers, Step}
use Rattle.tds_session.specs.Session.{SessionState, after_reset}
use Rattle.tds_world.specs.Dones.{HasDones, HaveDones}
use Rattle.tds_world.specs.Lawful.{Lawful, TakesNoReset}
use Rattle.tds_ends.specs.Hearing.{IsSaid, IsSaidBy}

-- Each answer's steps are said.
abbrev pub AreSaid : Answers → Type 0
AreSaid answers =
    (s : SessionState) (descriptor : ℕ) (reset : Option Reset) (q : Request) → AllByRecursion IsSaid (answers s descriptor reset q)

without_reset : (ss : List Step) → TakesNoReset ss → AllByRecursion HasDones ss → AllByRecursion IsSaid ss
without_reset [] n h = tt
without_reset (s ∷ ss) n h = (subst (λ (o : Option Reset). IsSaidBy o s) (sym n.0) (0, 0, h.0), without_reset ss n.1 h.1)

pub answers_said : (answers : Answers) → Lawful answers → HaveDones answers → AreSaid answers
answers_said answers l h s d None q = without_reset (answers s d None q) (l.only s d q) (h s d None q)
answers_said answers l h s d (Some r) q =
    subst (AllByRecursion IsSaid) (sym (l.resets s d r q))
    ((refl, refl), without_reset (answers (after_reset r s) d None q) (l.only (after_reset r s) d q) (h (after_reset r s) d None q))

-- Breaches over a whole run.
use Rattle.std.proofs.Common.{◌≡◌, ◌∙◌, ◌||◌, Bool, ℕ, List, [], ◌∷◌, ◌++◌, refl, sym, ap}
use Rattle.std.proofs.Math.Bool.{or-false, or_assoc}
use Rattle.tds_judge.specs.declared.finding.Direction.{Direction}
use Rattle.tds_judge.specs.declared.finding.Finding.{Finding}
use Rattle.tds_judge.specs.declared.talk.Limits.{Limits}
use Rattle.tds_judge.specs.declared.talk.Talk.{Talk}
use Rattle.tds_judge.specs.Findings.{number_of}
use Rattle.tds_judge.specs.Framing.{Run, steps}
use Rattle.tds_judge.specs.History.{Said, Tells, found_in, further, talk_behind}
use Rattle.tds_judge.specs.Talking.{talk_by}
use Rattle.tds_judge.specs.Noting.{told_by}
use Rattle.tds_judge.specs.Told.{Breaks, has_breach, is_breach, is_breach_number, is_broken}
use Rattle.tds_judge.proofs.Each.{breach_told}
use Rattle.tds_judge.proofs.Notes.{appended}
use Rattle.tds_judge.proofs.Telling.{steps_so}

breach_append : (xs ys : List Finding) → has_breach (xs ++ ys) ≡ has_breach xs || has_breach ys
breach_append [] ys = refl
breach_append (x ∷ xs) ys = ap (λ (b : Bool). is_breach_number (number_of x.name) || b) (breach_append xs ys) ∙ sym (or_assoc (is_breach_number (number_of x.name)) (has_breach xs) (has_breach ys))

-- a history behind a history
behind_both : (later past : List Said) → further later (talk_behind past) ≡ talk_behind (later ++ past)
unfolding further
behind_both [] past = refl
behind_both (x ∷ later) past = ap (λ (t : Talk). talk_by t x.spot.time x.event) (behind_both later past)

broken : (limits : Limits) (events past : List Said) (xs : List Finding) → has_breach (found_in limits events (talk_behind past) xs) ≡ has_breach xs || is_broken past events
unfolding found_in is_broken
broken limits [] past xs = sym (or-false (has_breach xs))
broken limits (x ∷ later) past xs =
    ap has_breach (appended (found_in limits later (talk_behind past) xs) limits (further later (talk_behind past)) x.spot x.event)
    ∙ (breach_append (found_in limits later (talk_behind past) xs) (told_by [] limits (further later (talk_behind past)) x.spot x.event)
    ∙ (ap (λ (b : Bool). b || has_breach (told_by [] limits (further later (talk_behind past)) x.spot x.event)) (broken limits later past xs)
    ∙ (ap (λ (t : Talk). (has_breach xs || is_broken past later) || has_breach (told_by [] limits t x.spot x.event)) (behind_both later past)
    ∙ (ap (λ (b : Bool). (has_breach xs || is_broken past later) || b) (breach_told limits (later ++ past) x.spot x.event)
    ∙ or_assoc (has_breach xs) (is_broken past later) (is_breach (later ++ past) x.event)))))

pub breaks_by : (past : List Said) (before after : Run) → before.judge.talk ≡ talk_behind past → (h : Tells before after)
    → has_breach after.told ≡ has_breach before.told || is_broken past h.events
breaks_by past before after so h =
    ap has_breach (h.told ∙ ap (λ (t : Talk). found_in before.judge.limits h.events t before.told) so) ∙ broken before.judge.limits h.events past before.told

breaks : (past : List Said) (before after : Run) → before.judge.talk ≡ talk_behind past → Tells before after → Breaks past before after
breaks past before after so h = record { tells = h; found = breaks_by past before after so h }

pub steps_break : (d : Direction) (time : ℕ) (bytes : List ℕ) (past : List Said) (run : Run) → run.judge.talk ≡ talk_behind past → Breaks past run (steps d time bytes run)
steps_break d time bytes past run so = breaks past run (steps d time bytes run) so (steps_so d time bytes run)

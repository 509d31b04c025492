-- What holds of each step of each answer holds of each step that was sent or is due, as that it is one
-- of an answer; and each message towards a client ends once.
use Rattle.std.proofs.Common.{◌≡◌, ◌+◌, ℕ, List, [], ◌∷◌, ◌++◌, Bool, cond, refl, sym, ap, subst, ◌∙◌, Option}
use Rattle.std.proofs.lemmas.List.{append_assoc}
use Rattle.std.specs.List.{AllByRecursion}
use Rattle.tds_packet.specs.declared.status.Reset.{Reset}
use Rattle.tds_request.specs.declared.request.Request.{Request}
use Rattle.tds_session.specs.Answer as answer
use Rattle.tds_session.specs.Answer.{Answers, EndsOnce}
use Rattle.tds_session.specs.Session.{SessionState}
use Rattle.tds_token.specs.declared.env_change.EnvChange.{EnvChange}
use Rattle.tds_world.specs.declared.event.Setup.{Setup}
use Rattle.tds_world.specs.Arrivals.{acknowledged_at}
use Rattle.tds_world.specs.Entries.{Down, Step, Acknowledgement}
use Rattle.tds_world.specs.Events.{world_after}
use Rattle.tds_world.specs.Lawful.{Lawful}
use Rattle.tds_world.specs.Laws.{Always}
use Rattle.tds_world.specs.Steps.{sent_down, IsStepOf, OfSteps, OfAcknowledgements, StepsAreOfAnswers, AreMessages, out_of, MessagesEndOnce, EndsIfDue, AnswersEndOnce}
use Rattle.tds_world.specs.World.{new_world}
use Rattle.tds_world.proofs.events.Worlds.{always, each_follows}
use Rattle.tds_world.proofs.flow.Flow.{Sound}
use Rattle.tds_world.proofs.packets.Sent.{Saying, Sent, Keeps, sent_kept}

-- ---- Each step is one of an answer

pub with_step : (P : answer.Step → Type 0) (sent : List Down) (r place : ℕ) (s : answer.Step) → P s → OfSteps P sent → OfSteps P (sent ++ Step r place s ∷ [])
with_step P [] r place s p h = (p, tt)
with_step P (Step q i t ∷ es) r place s p h = (h.0, with_step P es r place s p h.1)
with_step P (Acknowledgement q i changes ∷ es) r place s p h = with_step P es r place s p h

pub with_acknowledgement : (P : answer.Step → Type 0) (sent : List Down) (r place : ℕ) (changes : List EnvChange) → OfSteps P sent → OfSteps P (sent ++ Acknowledgement r place changes ∷ [])
with_acknowledgement P [] r place changes h = tt
with_acknowledgement P (Step q i t ∷ es) r place changes h = (h.0, with_acknowledgement P es r place changes h.1)
with_acknowledgement P (Acknowledgement q i others ∷ es) r place changes h = with_acknowledgement P es r place changes h

pub told_same : (P : List EnvChange → Type 0) (sent : List Down) (r place : ℕ) (s : answer.Step) → OfAcknowledgements P sent → OfAcknowledgements P (sent ++ Step r place s ∷ [])
told_same P [] r place s h = tt
told_same P (Step q i t ∷ es) r place s h = told_same P es r place s h
told_same P (Acknowledgement q i changes ∷ es) r place s h = (h.0, told_same P es r place s h.1)

pub told_more : (P : List EnvChange → Type 0) (sent : List Down) (r place : ℕ) (changes : List EnvChange) → P changes → OfAcknowledgements P sent → OfAcknowledgements P (sent ++ Acknowledgement r place changes ∷ [])
told_more P [] r place changes p h = (p, tt)
told_more P (Step q i t ∷ es) r place changes p h = told_more P es r place changes p h
told_more P (Acknowledgement q i others ∷ es) r place changes p h = (h.0, told_more P es r place changes p h.1)

-- P holds of each step of each answer.
abbrev pub OfAnswers : Answers → (answer.Step → Type 0) → Type 0
OfAnswers answers P =
    (s : SessionState) (descriptor : ℕ) (reset : Option Reset) (q : Request)
    → AllByRecursion P (answers s descriptor reset q)

abbrev pub StepsSaid : (answer.Step → Type 0) → Saying
StepsSaid P s sent due taken = OfSteps P sent × AllByRecursion P due

pub steps_said : (answers : Answers) (P : answer.Step → Type 0) → OfAnswers answers P → Keeps answers (StepsSaid P)
steps_said answers P a = record {
  first = (tt, tt);
  asked = λ s sent taken d m q h. (h.0, a s d m q);
  stopped = λ s sent due taken r rolls t h. (with_acknowledgement P sent r (acknowledged_at due taken) _ h.0, tt);
  worked = λ s sent t ts taken r h. (with_step P sent r (taken + 1) t h.1.0 h.0, h.1.1);
}

each_of : (answers : Answers) (s : SessionState) (descriptor : ℕ) (reset : Option Reset) (q : Request) (before rest : List answer.Step) → answers s descriptor reset q ≡ before ++ rest → AllByRecursion (IsStepOf answers) rest
each_of answers s descriptor reset q before [] e = tt
each_of answers s descriptor reset q before (t ∷ ts) e = (
  record { session = s; descriptor = descriptor; reset = reset; request = q; before = before; behind = ts; is = e },
  each_of answers s descriptor reset q (before ++ t ∷ []) ts (e ∙ sym (append_assoc before (t ∷ []) ts)),
)

of_answers : (answers : Answers) → OfAnswers answers (IsStepOf answers)
of_answers answers s descriptor reset q = each_of answers s descriptor reset q [] (answers s descriptor reset q) refl

pub steps_are_of_answers : (setup : Setup) (answers : Answers) → Lawful answers → Always setup answers (StepsAreOfAnswers answers)
steps_are_of_answers setup answers l events =
    each_follows (λ c. Sound c × Sent (StepsSaid (IsStepOf answers)) c) (λ c. OfSteps (IsStepOf answers) (sent_down c) × AllByRecursion (IsStepOf answers) c.due) (world_after setup answers events new_world).connections (λ c h. h.1)
    (always (λ c. Sound c × Sent (StepsSaid (IsStepOf answers)) c) setup answers events (sent_kept setup answers (StepsSaid (IsStepOf answers)) l (steps_said answers (IsStepOf answers) (of_answers answers))))

-- ---- Messages

ends_rest : (ss : List answer.Step) → EndsOnce ss → EndsIfDue ss
ends_rest [] h = tt
ends_rest (s ∷ ss) h = h

none_out : (ss : List answer.Step) → out_of ss 0 ≡ 0
none_out [] = refl
none_out (s ∷ ss) = refl

next_place : (due : List answer.Step) (taken : ℕ) → acknowledged_at due taken ≡ out_of due taken + 1
next_place [] taken = refl
next_place (s ∷ ss) taken = refl

acknowledged : (before : ℕ) (sent : List Down) (out r place : ℕ) (changes : List EnvChange) → place ≡ out + 1 → AreMessages before sent out → AreMessages before (sent ++ Acknowledgement r place changes ∷ []) 0
acknowledged before [] out r place changes e h = (e ∙ ap (λ n. n + 1) (sym h), refl)
acknowledged before (Step q i s ∷ es) out r place changes e h = (h.0, acknowledged (cond s.last 0 (before + 1)) es out r place changes e h.1)
acknowledged before (Acknowledgement q i others ∷ es) out r place changes e h = (h.0, acknowledged 0 es out r place changes e h.1)

stepped : (before : ℕ) (sent : List Down) (out r next : ℕ) (s : answer.Step) → cond s.last 0 (out + 1) ≡ next → AreMessages before sent out → AreMessages before (sent ++ Step r (out + 1) s ∷ []) next
stepped before [] out r next s e h = (ap (λ n. n + 1) (sym h), ap (λ n. cond s.last 0 (n + 1)) h ∙ e)
stepped before (Step q i t ∷ es) out r next s e h = (h.0, stepped (cond t.last 0 (before + 1)) es out r next s e h.1)
stepped before (Acknowledgement q i changes ∷ es) out r next s e h = (h.0, stepped 0 es out r next s e h.1)

-- The last step ends the message, and another one does not.
goes_on : (s : answer.Step) (ss : List answer.Step) (taken : ℕ) → EndsOnce (s ∷ ss) → cond s.last 0 (taken + 1) ≡ out_of ss (taken + 1)
goes_on s [] taken h = ap (λ (b : Bool). cond b 0 (taken + 1)) h
goes_on s (t ∷ ts) taken h = ap (λ (b : Bool). cond b 0 (taken + 1)) h.0

rest_ends : (s : answer.Step) (ss : List answer.Step) → EndsOnce (s ∷ ss) → EndsIfDue ss
rest_ends s [] h = tt
rest_ends s (t ∷ ts) h = h.1

abbrev Messages : Saying
Messages s sent due taken = AreMessages 0 sent (out_of due taken) × EndsIfDue due

messages_kept : (answers : Answers) → Lawful answers → Keeps answers Messages
messages_kept answers l = record {
  first = (refl, tt);
  asked = λ s sent taken d m q h. (subst (AreMessages 0 sent) (sym (none_out (answers s d m q))) h.0, ends_rest (answers s d m q) (l.ends s d m q));
  stopped = λ s sent due taken r rolls t h. (acknowledged 0 sent (out_of due taken) r (acknowledged_at due taken) _ (next_place due taken) h.0, tt);
  worked = λ s sent t ts taken r h. (stepped 0 sent taken r (out_of ts (taken + 1)) t (goes_on t ts taken h.1) h.0, rest_ends t ts h.1);
}

pub messages_end_once : (setup : Setup) (answers : Answers) → Lawful answers → Always setup answers MessagesEndOnce
messages_end_once setup answers l events =
    each_follows (λ c. Sound c × Sent Messages c) (λ c. AreMessages 0 (sent_down c) (out_of c.due c.taken)) (world_after setup answers events new_world).connections (λ c h. h.1.0)
    (always (λ c. Sound c × Sent Messages c) setup answers events (sent_kept setup answers Messages l (messages_kept answers l)))

pub answers_end_once : (setup : Setup) (answers : Answers) → Lawful answers → Always setup answers AnswersEndOnce
answers_end_once setup answers l events =
    each_follows (λ c. Sound c × Sent Messages c) (λ c. EndsIfDue c.due) (world_after setup answers events new_world).connections (λ c h. h.1.1)
    (always (λ c. Sound c × Sent Messages c) setup answers events (sent_kept setup answers Messages l (messages_kept answers l)))

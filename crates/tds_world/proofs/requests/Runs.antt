-- The first step of an answer: the reset that it takes, and the session that the request runs in.
use Rattle.std.proofs.Common.{◌≡◌, ℕ, List, [], ◌∷◌, ◌++◌, refl, sym, ap, subst, ◌∙◌, Option, Some, None}
use Rattle.tds_packet.specs.declared.status.Reset.{Reset}
use Rattle.tds_packet.specs.declared.status.Reset.TheVariants.{Full, KeepTransaction}
use Rattle.tds_request.specs.declared.request.Request.{Request}
use Rattle.tds_session.specs.Answer as answer
use Rattle.tds_session.specs.Answer.{Answers, reset_step}
use Rattle.tds_session.specs.Session.{SessionState, after_reset}
use Rattle.tds_token.specs.declared.env_change.EnvChange.{EnvChange}
use Rattle.tds_world.specs.Arrivals.{heard_behind}
use Rattle.tds_world.specs.Entries.{Down, Step, Acknowledgement}
use Rattle.tds_world.specs.Heard.{Meets}
use Rattle.tds_world.specs.Lawful.{Lawful, TakesNoReset}
use Rattle.tds_world.specs.Record.{ran_in}
use Rattle.tds_packet.specs.Resets.{header_descriptor}
use Rattle.tds_world.proofs.flow.Flow.{Hears}
use Rattle.tds_world.proofs.requests.Asking.{NoSteps, NoResets, MeetsMark}

-- The session that a request with this mark runs in, of the one before it.
abbrev pub runs_in : Option Reset → SessionState → SessionState
runs_in None s = s
runs_in (Some r) s = after_reset r s

pub record FirstStep (s : SessionState) (mark : Option Reset) (first : answer.Step) (more : List answer.Step) : Type 0 where
  pub reset : first.reset ≡ mark
  pub rest : TakesNoReset more
  pub ran : ran_in None first.reset s first.after ≡ runs_in mark s

with_reset : (s : SessionState) (r : Reset) (first : answer.Step) (rest : List answer.Step) → first ≡ reset_step r s → TakesNoReset rest → FirstStep s (Some r) first rest
with_reset s r first rest e h =
    subst (λ x. FirstStep s (Some r) x rest) (sym e) (record { reset = refl; rest = h; ran = refl })

pub first_step : (answers : Answers) → Lawful answers → (s : SessionState) (descriptor : ℕ) (mark : Option Reset) (q : Request) (first : answer.Step) (rest : List answer.Step) → first ∷ rest ≡ answers s descriptor mark q → FirstStep s mark first rest
first_step answers l s descriptor None q first rest e =
    let none : TakesNoReset (first ∷ rest) = subst TakesNoReset (sym e) (l.only s descriptor q) in
    record { reset = none.0; rest = none.1; ran = ap (λ r. ran_in None r s first.after) none.0 }
first_step answers l s descriptor (Some r) q first rest e =
    let k : first ∷ rest ≡ reset_step r s ∷ answers (after_reset r s) descriptor None q = e ∙ l.resets s descriptor r q in
    let is : first ≡ reset_step r s = cc in
    let tail : rest ≡ answers (after_reset r s) descriptor None q = cc in
    with_reset s r first rest is (subst TakesNoReset (sym tail) (l.only (after_reset r s) descriptor q))

-- Where no step and no change waits, the client has heard the server's descriptor.
pub heard_now : (heard descriptor : ℕ) (downs : List Down) → NoSteps downs → Hears heard downs descriptor → heard ≡ descriptor
heard_now heard descriptor [] n h = h
heard_now heard descriptor (Step r place s ∷ es) n h = absurd n
heard_now heard descriptor (Acknowledgement r place changes ∷ es) n h =
    let stays : Some heard ≡ Some h.0 = ap (λ xs. heard_behind heard xs) (sym n.0) ∙ h.1 in
    let is : heard ≡ h.0 = cc in
    is ∙ heard_now h.0 descriptor es n.1 h.2

-- So the header names the transaction that the request runs in.
pub names_own : (mark : Option Reset) (s : SessionState) (heard : ℕ) → heard ≡ s.descriptor → header_descriptor mark heard ≡ (runs_in mark s).descriptor
names_own None s heard e = e
names_own (Some Full) s heard e = refl
names_own (Some KeepTransaction) s heard e = e

-- ---- Steps that wait

meets_itself : (m : Option Reset) → Meets m m
meets_itself None = tt
meets_itself (Some r) = refl

pub first_waits : (mark : Option Reset) (r place : ℕ) (s : answer.Step) (downs : List Down) → s.reset ≡ mark → NoSteps downs → MeetsMark mark (downs ++ Step r place s ∷ [])
first_waits mark r place s [] e n = (subst (Meets mark) (sym e) (meets_itself mark), tt)
first_waits mark r place s (Step q i t ∷ es) e n = absurd n
first_waits mark r place s (Acknowledgement q i changes ∷ es) e n = first_waits mark r place s es e n.1

no_resets_more : (r place : ℕ) (s : answer.Step) (downs : List Down) → s.reset ≡ None → NoResets downs → NoResets (downs ++ Step r place s ∷ [])
no_resets_more r place s [] e h = (e, tt)
no_resets_more r place s (Step q i t ∷ es) e h = (h.0, no_resets_more r place s es e h.1)
no_resets_more r place s (Acknowledgement q i changes ∷ es) e h = no_resets_more r place s es e h

pub next_waits : (mark : Option Reset) (r place : ℕ) (s : answer.Step) (downs : List Down) → s.reset ≡ None → MeetsMark mark downs → MeetsMark mark (downs ++ Step r place s ∷ [])
next_waits mark r place s [] e h = (subst (Meets mark) (sym e) tt, tt)
next_waits mark r place s (Step q i t ∷ es) e h = (h.0, no_resets_more r place s es e h.1)
next_waits mark r place s (Acknowledgement q i changes ∷ es) e h = next_waits mark r place s es e h

-- Without a reset among them, any mark is met.
pub none_meet : (mark : Option Reset) (downs : List Down) → NoResets downs → MeetsMark mark downs
none_meet mark [] h = tt
none_meet mark (Step r place s ∷ es) h = (subst (Meets mark) (sym h.0) tt, h.1)
none_meet mark (Acknowledgement r place changes ∷ es) h = none_meet mark es h

pub no_steps_ack : (r place : ℕ) (changes : List EnvChange) (downs : List Down) → changes ≡ [] → NoSteps downs → NoSteps (downs ++ Acknowledgement r place changes ∷ [])
no_steps_ack r place changes [] e h = (e, tt)
no_steps_ack r place changes (Step q i t ∷ es) e h = absurd h
no_steps_ack r place changes (Acknowledgement q i others ∷ es) e h = (h.0, no_steps_ack r place changes es e h.1)

no_resets_ack : (r place : ℕ) (changes : List EnvChange) (downs : List Down) → NoResets downs → NoResets (downs ++ Acknowledgement r place changes ∷ [])
no_resets_ack r place changes [] h = tt
no_resets_ack r place changes (Step q i t ∷ es) h = (h.0, no_resets_ack r place changes es h.1)
no_resets_ack r place changes (Acknowledgement q i others ∷ es) h = no_resets_ack r place changes es h

pub meets_ack : (mark : Option Reset) (r place : ℕ) (changes : List EnvChange) (downs : List Down) → MeetsMark mark downs → MeetsMark mark (downs ++ Acknowledgement r place changes ∷ [])
meets_ack mark r place changes [] h = tt
meets_ack mark r place changes (Step q i t ∷ es) h = (h.0, no_resets_ack r place changes es h.1)
meets_ack mark r place changes (Acknowledgement q i others ∷ es) h = meets_ack mark r place changes es h

-- A server's next step, at the server and in the model.
use Rattle.std.proofs.Common.{◌≡◌, ◌≢◌, ◌∙◌, ℕ, ◌+◌, ◌%◌, Bool, true, false, refl, sym, ap, subst, List, [], ◌∷◌, arith}
use Rattle.std.proofs.lemmas.Bool.Decides.{nat_tests}
use Rattle.std.specs.Prelude.{nat_lt}
use Rattle.tds_server.specs.Packets.{answer_packet}
use Rattle.tds_server.specs.State as server
use Rattle.tds_server.specs.State.{ServerState}
use Rattle.tds_server.specs.Working.{worked, works_in, phase_behind, worked_by}
use Rattle.tds_session.specs.Answer as answer
use Rattle.tds_world.specs.declared.outcome.WorkOutcome.TheVariants as outcome
use Rattle.tds_world.specs.Arrivals.{works_on}
use Rattle.tds_world.specs.Connection.{Connection}
use Rattle.tds_world.specs.Entries.{Step, down_bytes}
use Rattle.tds_world.specs.Events.{work_outcome}
use Rattle.tds_session.specs.Answer.{EndsOnce}
use Rattle.tds_world.specs.Steps.{EndsIfDue}
use Rattle.tds_ends.specs.Refines.{RefinesWork, worked_outcome}
use Rattle.tds_ends.specs.Stands.{MatchesServer, MatchesPhase, Sends}
use Rattle.tds_ends.proofs.Lanes.{appended, unsent}

-- A server at this does the same as the connection from which this is due.
record IsAlike {E : Type 0} (s : ServerState E) (c : Connection) (phase : server.Phase) (due : List answer.Step) : Type 0 where
  outcome : work_outcome due ≡ worked_outcome (works_in s phase).answer
  matches : MatchesServer (works_in s phase).state (works_on c due)
  sends : Sends down_bytes (works_in s phase).packet c.to_client (works_on c due).to_client

idle_alike : {E : Type 0} (s : ServerState E) (c : Connection) (due : List answer.Step) → due ≡ [] → MatchesServer s c → (outcome.Idle ≡ work_outcome due) × MatchesServer s (works_on c due) × Sends down_bytes [] c.to_client (works_on c due).to_client
idle_alike s c due none m = subst (λ (d : List answer.Step). (outcome.Idle ≡ work_outcome d) × MatchesServer s (works_on c d) × Sends down_bytes [] c.to_client (works_on c d).to_client) (sym none) (refl, m, unsent down_bytes c.to_client)

-- Behind a step that isn't the last one more is due.
next_place : (taken : ℕ) → ((taken + 1) % 256 + 1) % 256 ≡ (taken + 1 + 1) % 256
next_place taken = omega arith

last_ends : (s : answer.Step) (ss : List answer.Step) → EndsOnce (s ∷ ss) → s.last ≡ true → ss ≡ []
last_ends s [] ends last = refl
last_ends s (t ∷ ts) ends last = absurd (cc)

more_due : (s : answer.Step) (ss : List answer.Step) → EndsOnce (s ∷ ss) → s.last ≡ false → ss ≢ []
more_due s [] ends more = absurd (cc)
more_due s (t ∷ ts) ends more = λ e. absurd (cc)

outcome_last : (s : answer.Step) (ss : List answer.Step) → EndsOnce (s ∷ ss) → work_outcome (s ∷ ss) ≡ worked_outcome (worked_by s.last)
outcome_last s [] ends = ap (λ (b : Bool). worked_outcome (worked_by b)) (sym ends)
outcome_last s (t ∷ ts) ends = ap (λ (b : Bool). worked_outcome (worked_by b)) (sym ends.0)

begun_behind : (taken : ℕ) → true ≡ nat_lt 0 (taken + 1)
begun_behind taken = grind (arith, nat_tests)

phase_behind_matches : (b : Bool) (c : Connection) (s : answer.Step) (ss : List answer.Step) (id : ℕ) → s.last ≡ b → EndsOnce (s ∷ ss) → c.parts ≡ [] → id ≡ (c.taken + 1) % 256 → MatchesPhase (phase_behind b ss id) (works_on c (s ∷ ss))
phase_behind_matches true c s ss id last ends parts at = (parts, last_ends s ss ends last)
phase_behind_matches false c s ss id last ends parts at = (parts, refl, more_due s ss ends last, ap (λ (n : ℕ). (n + 1) % 256) at ∙ next_place c.taken, begun_behind c.taken)

does_alike : {E : Type 0} (s : ServerState E) (c : Connection) (step : answer.Step) (rest : List answer.Step) (id : ℕ) (begun : Bool) → s.on_attention ≡ c.on_attention → EndsOnce (step ∷ rest) → c.parts ≡ [] → id ≡ (c.taken + 1) % 256 → IsAlike s c (server.Answering (step ∷ rest) id begun) (step ∷ rest)
does_alike s c step rest id begun told ends parts at = record {
  outcome = outcome_last step rest ends;
  matches = record { told = told; session = refl; phase = phase_behind_matches step.last c step rest id refl ends parts at };
  sends = appended down_bytes (answer_packet id step.last step.tokens) (Step c.answering (c.taken + 1) step) c.to_client (ap (λ (n : ℕ). answer_packet n step.last step.tokens) (sym at));
}

due_alike : {E : Type 0} (s : ServerState E) (c : Connection) (due : List answer.Step) (id : ℕ) (begun : Bool) → s.on_attention ≡ c.on_attention → EndsIfDue due → due ≢ [] → c.parts ≡ [] → id ≡ (c.taken + 1) % 256 → IsAlike s c (server.Answering due id begun) due
due_alike s c [] id begun told ends some parts at = absurd (some refl)
due_alike s c (step ∷ rest) id begun told ends some parts at = does_alike s c step rest id begun told ends parts at

by_phase : {E : Type 0} (s : ServerState E) (c : Connection) (phase : server.Phase) → MatchesServer s c → MatchesPhase phase c → EndsIfDue c.due → IsAlike s c phase c.due
by_phase s c server.Waiting m p ends = let k = idle_alike s c c.due p.1 m in record { outcome = sym k.0; matches = k.1; sends = k.2 }
by_phase s c (server.Receiving message) m p ends = let k = idle_alike s c c.due p.2 m in record { outcome = sym k.0; matches = k.1; sends = k.2 }
by_phase s c (server.Answering due id begun) m p ends = subst (λ (d : List answer.Step). IsAlike s c (server.Answering d id begun) c.due) (sym p.1) (due_alike s c c.due id begun m.told ends p.2 p.0 p.3)
by_phase s c (server.Broken fault) m p ends = absurd p

pub work_alike : {E : Type 0} (s : ServerState E) (c : Connection) → MatchesServer s c → EndsIfDue c.due → RefinesWork c (worked s)
work_alike s c m ends =
    let k : IsAlike s c s.phase c.due = by_phase s c s.phase m m.phase ends in
    record { outcome = k.outcome; matches = k.matches; sends = k.sends }

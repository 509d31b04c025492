-- On each connection all is a lawful server's.
use Rattle.std.proofs.Common.{◌≡◌, ◌∙◌, ℕ, suc, Bool, true, false, List, [], ◌∷◌, refl, sym, ap, subst}
use Rattle.std.specs.Prelude.{Some, Result, Ok, Err}
use Rattle.tds_packet.specs.declared.status.Reset.{Reset}
use Rattle.tds_packet.specs.Resets.{strongest}
use Rattle.tds_wire.specs.declared.told.Token.{Token}
use Rattle.tds_client.specs.declared.fault.ClientFault.{ClientFault}
use Rattle.tds_client.specs.declared.fault.ClientFault.TheVariants as faults
use Rattle.tds_client.specs.declared.heard.Heard.{Heard}
use Rattle.tds_client.specs.declared.heard.FinalDone.{FinalDone}
use Rattle.tds_client.specs.declared.heard.FinalDone.TheVariants.{Awaited, Answered, Acknowledged}
use Rattle.tds_client.specs.Hearing.{with_done}
use Rattle.tds_listen.specs.declared.fault.ListenFault.{ListenFault}
use Rattle.tds_service.specs.Parts.{Part, is_end, hear_part, heard_until}
use Rattle.tds_service.specs.Line as line
use Rattle.tds_service.specs.Line.{Line, Act, LineStage, Turn, new_line, cause, left_by, reads, skips, skips_to_end}
use Rattle.tds_service.specs.History.{Done, history, line_after, acts_of}
use Rattle.tds_front.specs.Serving.{ServerIsAt, Ready, Executing, Stopping, Broken, IsLawful}
use Rattle.tds_front.specs.Exchanges.{place_after}
use Rattle.tds_relay.specs.Fronting.{AnswersOnce, MayEnd, happened, is_left_out, is_out_behind, with_heard, with_sent}

abbrev pub line_at : ℕ → LineStage → Heard → Line
line_at n s h = record { asked = n; stage = s; heard = h }

abbrev with_mark : Heard → Reset → Heard
with_mark h reset = record { descriptor = h.descriptor; mark = strongest (Some reset) h.mark; done = h.done }

-- where its server is, and whether a whole request is out
abbrev pub place_of : LineStage → Bool → ServerIsAt
place_of line.Idle out = Ready
place_of (line.Sending begun) out = Ready
place_of line.Reading out = Executing
place_of line.Cancelling out = Stopping out
place_of (line.Broken fault) out = Broken

abbrev pub out_of : LineStage → Bool → Bool
out_of line.Idle out = false
out_of (line.Sending begun) out = false
out_of line.Reading out = true
out_of line.Cancelling out = out
out_of (line.Broken fault) out = out

-- what is to be shown of acts: all is lawful, and an idle connection's server is ready
abbrev Goes : ServerIsAt → Bool → Line → List (Act Token) → Type 0
Goes p out l acts =
    (AnswersOnce out (history l acts) → IsLawful p (happened (history l acts)))
    × ((line_after l acts).stage ≡ line.Idle → place_after p (happened (history l acts)) ≡ Ready)

-- the same, behind what a packet comes to that ends its message or not
abbrev GoesBehind : ServerIsAt → Bool → Bool → Turn Token → List (Act Token) → Type 0
GoesBehind p out ends t acts =
    (MayEnd out ends t.answer × AnswersOnce (is_left_out (is_out_behind out t.sent) ends t.answer) (history t.line acts)
    → IsLawful p (with_sent t.sent (with_heard ends t.answer (happened (history t.line acts)))))
    × ((line_after t.line acts).stage ≡ line.Idle → place_after p (with_sent t.sent (with_heard ends t.answer (happened (history t.line acts)))) ≡ Ready)

-- nothing is said, or what may be said
past : {A B C D : Type 0} → (A → B) × C → (D × A → B) × C
past r = (λ k. r.0 k.1, r.1)

says : {A B C D : Type 0} → (A → B) × C → (D × A → Unit {0} × B) × C
says r = (λ k. (tt, r.0 k.1), r.1)

-- a broken connection says nothing
silent : (n : ℕ) (fault : ClientFault) (h : Heard) (p : ServerIsAt) (out : Bool) (acts : List (Act Token)) → Goes p out (line_at n (line.Broken fault) h) acts
silent n fault h p out [] = (λ k. tt, λ e. cc)
silent n fault h p out (line.Mark reset ∷ acts) = past (silent n fault h p out acts)
silent n fault h p out (line.Ask ∷ acts) = past (silent n fault h p out acts)
silent n fault h p out (line.Send last ∷ acts) = past (silent n fault h p out acts)
silent n fault h p out (line.Cancel ∷ acts) = past (silent n fault h p out acts)
silent n fault h p out (line.Come part ∷ acts) = past (silent n fault h p out acts)
silent n fault h p out (line.Lose ∷ acts) = past (silent n fault h p out acts)

abbrev Each : ℕ → List (Act Token) → Type 0
Each n acts = (s : LineStage) (h : Heard) (out : Bool) → Goes (place_of s out) (out_of s out) (line_at n s h) acts

reads_on : (n : ℕ) (h : Heard) (part : Part Token) (ends : Bool) (u : Heard) (r : Result Heard ListenFault) (acts : List (Act Token)) → Each n acts
    → GoesBehind Executing true ends (reads (line_at n line.Reading h) part ends u r) acts
reads_on n h part ends u (Err fault) acts later = past (silent n (cause fault) (left_by fault u) Executing true acts)
reads_on n h part false u (Ok heard) acts later = says (later line.Reading heard true)
reads_on n h part true u (Ok heard) acts later = says (later line.Idle (with_done heard Awaited) false)

-- an answer ends behind its attention
crosses : (n : ℕ) (h : Heard) (out : Bool) (acts : List (Act Token)) → Each n acts
    → GoesBehind (Stopping out) out true (line.quiet (line_at n line.Cancelling h) line.More) acts
crosses n h true acts later = says (later line.Cancelling h false)
crosses n h false acts later = (λ k. absurd (let u : false ≡ true = k.0 refl in let v : ⊥ = cc in v), (later line.Cancelling h false).1)

skips_end_on : (n : ℕ) (h heard : Heard) (out : Bool) (done : FinalDone) (acts : List (Act Token)) → Each n acts
    → GoesBehind (Stopping out) out true (skips_to_end (line_at n line.Cancelling h) heard done) acts
skips_end_on n h heard out Awaited acts later = crosses n (with_done heard Awaited) out acts later
skips_end_on n h heard out Answered acts later = crosses n (with_done heard Awaited) out acts later
skips_end_on n h heard out Acknowledged acts later = says (later line.Idle (with_done heard Awaited) false)

skips_on : (n : ℕ) (h : Heard) (out ends : Bool) (u : Heard) (r : Result Heard ListenFault) (acts : List (Act Token)) → Each n acts
    → GoesBehind (Stopping out) out ends (skips (line_at n line.Cancelling h) ends u r) acts
skips_on n h out ends u (Err fault) acts later = past (silent n (cause fault) (left_by fault u) (Stopping out) out acts)
skips_on n h out false u (Ok heard) acts later = says (later line.Cancelling heard out)
skips_on n h out true u (Ok heard) acts later = skips_end_on n h heard out heard.done acts later

rests : (s : LineStage) (out : Bool) → s ≡ line.Idle → place_of s out ≡ Ready
rests line.Idle out e = refl
rests (line.Sending begun) out e = cc
rests line.Reading out e = absurd (let u : ⊥ = cc in u)
rests line.Cancelling out e = absurd (let u : ⊥ = cc in u)
rests (line.Broken fault) out e = absurd (let u : ⊥ = cc in u)

goes : (n : ℕ) (s : LineStage) (h : Heard) (out : Bool) (acts : List (Act Token)) → Goes (place_of s out) (out_of s out) (line_at n s h) acts
goes n s h out [] = (λ k. tt, rests s out)
goes n line.Idle h out (line.Mark reset ∷ acts) = past (goes n line.Idle (with_mark h reset) out acts)
goes n line.Idle h out (line.Ask ∷ acts) = past (goes (suc n) (line.Sending false) h out acts)
goes n line.Idle h out (line.Send last ∷ acts) = past (goes n line.Idle h out acts)
goes n line.Idle h out (line.Cancel ∷ acts) = past (goes n line.Idle h out acts)
goes n line.Idle h out (line.Come part ∷ acts) = past (silent n faults.AnswerInIdle h Ready false acts)
goes n line.Idle h out (line.Lose ∷ acts) = past (silent n faults.Lost h Ready false acts)
goes n (line.Sending begun) h out (line.Mark reset ∷ acts) = past (goes n (line.Sending begun) h out acts)
goes n (line.Sending begun) h out (line.Ask ∷ acts) = past (goes n (line.Sending begun) h out acts)
goes n (line.Sending begun) h out (line.Send false ∷ acts) = past (goes n (line.Sending true) h out acts)
goes n (line.Sending begun) h out (line.Send true ∷ acts) = past (goes n line.Reading h out acts)
goes n (line.Sending false) h out (line.Cancel ∷ acts) = past (goes n line.Idle h out acts)
goes n (line.Sending true) h out (line.Cancel ∷ acts) = past (goes n line.Cancelling h false acts)
goes n (line.Sending begun) h out (line.Come part ∷ acts) = past (silent n faults.AnswerInSending h Ready false acts)
goes n (line.Sending begun) h out (line.Lose ∷ acts) = past (silent n faults.Lost h Ready false acts)
goes n line.Reading h out (line.Mark reset ∷ acts) = past (goes n line.Reading h out acts)
goes n line.Reading h out (line.Ask ∷ acts) = past (goes n line.Reading h out acts)
goes n line.Reading h out (line.Send last ∷ acts) = past (goes n line.Reading h out acts)
goes n line.Reading h out (line.Cancel ∷ acts) = past (goes n line.Cancelling h true acts)
goes n line.Reading h out (line.Come part ∷ acts) =
    reads_on n h part (is_end part.close) (heard_until false h part.items) (hear_part false h part) acts (λ s g o. goes n s g o acts)
goes n line.Reading h out (line.Lose ∷ acts) = past (silent n faults.Lost h Executing true acts)
goes n line.Cancelling h out (line.Mark reset ∷ acts) = past (goes n line.Cancelling h out acts)
goes n line.Cancelling h out (line.Ask ∷ acts) = past (goes n line.Cancelling h out acts)
goes n line.Cancelling h out (line.Send last ∷ acts) = past (goes n line.Cancelling h out acts)
goes n line.Cancelling h out (line.Cancel ∷ acts) = past (goes n line.Cancelling h out acts)
goes n line.Cancelling h out (line.Come part ∷ acts) =
    skips_on n h out (is_end part.close) (heard_until true h part.items) (hear_part true h part) acts (λ s g o. goes n s g o acts)
goes n line.Cancelling h out (line.Lose ∷ acts) = past (silent n faults.Lost h (Stopping out) out acts)
goes n (line.Broken fault) h out acts = silent n fault h Broken out acts

-- ---- Of any history of a new connection

pub lawful_of : (ds : List (Done Token)) → ds ≡ history new_line (acts_of ds) → AnswersOnce false ds → IsLawful Ready (happened ds)
lawful_of ds alone once =
    subst (λ (xs : List (Done Token)). IsLawful Ready (happened xs)) (sym alone)
    ((goes 0 line.Idle new_line.heard false (acts_of ds)).0 (subst (AnswersOnce false) alone once))

pub ready_of : (ds : List (Done Token)) (l : Line) → ds ≡ history new_line (acts_of ds) → l ≡ line_after new_line (acts_of ds) → l.stage ≡ line.Idle
    → place_after Ready (happened ds) ≡ Ready
ready_of ds l alone is idle =
    let at : (line_after new_line (acts_of ds)).stage ≡ line.Idle = ap (λ (x : Line). x.stage) (sym is) ∙ idle in
    ap (λ (xs : List (Done Token)). place_after Ready (happened xs)) alone ∙ (goes 0 line.Idle new_line.heard false (acts_of ds)).1 at

-- Where an application's end is, beside where the line of its connection is, and the place behind its end.
use Rattle.std.proofs.Common.{◌≡◌, ℕ, zero, suc, Bool, true, false, List, [], ◌∷◌, ◌++◌, refl, sym, ap, subst}
use Rattle.tds_wire.specs.declared.told.Token.{Token}
use Rattle.tds_client.specs.declared.heard.Heard.{Heard}
use Rattle.tds_front.specs.declared.stage.Stage.{Stage}
use Rattle.tds_front.specs.declared.stage.Stage.TheVariants as stages
use Rattle.tds_front.specs.Passing.{FrontEvent, GoesOn, Says, EndsWhole, happenings_of}
use Rattle.tds_front.specs.Rules as rules
use Rattle.tds_front.specs.Serving.{ServerIsAt, Ready, Executing}
use Rattle.tds_service.specs.Line as line
use Rattle.tds_service.specs.Line.{Line, Act, Answer, Packet, Turn, line_turn}
use Rattle.tds_service.specs.History.{history, line_after}
use Rattle.tds_service.specs.Refusing.{packets}
use Rattle.tds_service.specs.Ties.{sent_in}
use Rattle.tds_relay.specs.Pool as pool
use Rattle.tds_relay.specs.Behind.{gone_on}
use Rattle.tds_relay.specs.Core.{IsBegun, IsHere, HasWholeRequest}
use Rattle.tds_relay.proofs.ends.Fronting.{line_at, out_of, place_of}
use Rattle.tds_relay.proofs.ends.Outs.{out_after}
use Rattle.tds_relay.proofs.ends.Leading.{IsGone, Leads, leads_nothing}
use Rattle.tds_relay.proofs.held.Ours.{acts_done}

-- An end has something of its request on the connection exactly where the line has; and where it took that back, the place behind it is as
-- if nothing had been.
abbrev pub TiedAt : Stage → line.LineStage → Type 0
TiedAt stage line.Idle = IsHere stage
TiedAt stage (line.Sending false) = IsHere stage
TiedAt stage (line.Sending true) = IsGone stage
TiedAt stage line.Reading = stage ≡ stages.Underway true
TiedAt stage line.Cancelling = stage ≡ stages.Stopping
TiedAt stage (line.Broken fault) = ⊥

abbrev pub Tied : Stage → Bool → ServerIsAt → line.LineStage → Bool → Type 0
Tied stage true p l out = (l ≡ line.Cancelling) × IsHere stage × (p ≡ Ready)
Tied stage false p l out = TiedAt stage l × (p ≡ place_of l out)

pub here_gone : (stage : Stage) → IsHere stage → IsGone stage → ⊥
here_gone stages.Quiet h g = g
here_gone (stages.Receiving kind gone) h g = let u : ⊥ = cc in u
here_gone (stages.Underway gone) h g = let u : ⊥ = cc in u
here_gone stages.Stopping h g = h
here_gone (stages.Broken fault) h g = h

not_here_underway : (stage : Stage) → stage ≡ stages.Underway true → IsHere stage → ⊥
not_here_underway stage e h = let u : IsHere (stages.Underway true) = subst IsHere e h in let v : ⊥ = cc in v

not_here_stopping : (stage : Stage) → stage ≡ stages.Stopping → IsHere stage → ⊥
not_here_stopping stage e h = let u : IsHere stages.Stopping = subst IsHere e h in u

-- ---- A request is asked; nothing of it passes the end

abbrev StageAfter : Line → pool.Action → line.LineStage
StageAfter l action = (line_after l (acts_done l action)).stage

abbrev OutAfter : Bool → Line → pool.Action → Bool
OutAfter out l action = out_after out (history l (acts_done l action))

asks_at : (n : ℕ) (s : line.LineStage) (h : Heard) (stage : Stage) (w : Bool) (p : ServerIsAt) (out : Bool) → Tied stage w p s out
    → Tied stage w p (StageAfter (line_at n s h) pool.Asks) (OutAfter out (line_at n s h) pool.Asks)
asks_at n line.Idle h stage true p out t = let e : line.Idle ≡ line.Cancelling = t.0 in absurd (let u : ⊥ = cc in u)
asks_at n line.Idle h stage false p out t = t
asks_at n (line.Sending begun) h stage w p out t = t
asks_at n line.Reading h stage w p out t = t
asks_at n line.Cancelling h stage w p out t = t
asks_at n (line.Broken fault) h stage w p out t = t

pub asks_tied : (l : Line) (stage : Stage) (w : Bool) (p : ServerIsAt) (out : Bool) → Tied stage w p l.stage out → Tied stage w p (StageAfter l pool.Asks) (OutAfter out l pool.Asks)
asks_tied l stage w p out t = asks_at l.asked l.stage l.heard stage w p out t

-- ---- It is taken back where nothing of it has gone on

stops_at : (n : ℕ) (s : line.LineStage) (h : Heard) (stage : Stage) (w : Bool) (p : ServerIsAt) (out : Bool) → Tied stage w p s out → IsHere stage
    → Tied stage w p (StageAfter (line_at n s h) pool.Stops) (OutAfter out (line_at n s h) pool.Stops)
stops_at n line.Idle h stage w p out t here = t
stops_at n (line.Sending false) h stage true p out t here = let e : line.Sending false ≡ line.Cancelling = t.0 in absurd (let u : ⊥ = cc in u)
stops_at n (line.Sending false) h stage false p out t here = t
stops_at n (line.Sending true) h stage true p out t here = let e : line.Sending true ≡ line.Cancelling = t.0 in absurd (let u : ⊥ = cc in u)
stops_at n (line.Sending true) h stage false p out t here = absurd (here_gone stage here t.0)
stops_at n line.Reading h stage true p out t here = let e : line.Reading ≡ line.Cancelling = t.0 in absurd (let u : ⊥ = cc in u)
stops_at n line.Reading h stage false p out t here = absurd (not_here_underway stage t.0 here)
stops_at n line.Cancelling h stage w p out t here = t
stops_at n (line.Broken fault) h stage w p out t here = t

pub stops_tied : (l : Line) (stage : Stage) (w : Bool) (p : ServerIsAt) (out : Bool) → Tied stage w p l.stage out → IsHere stage → Tied stage w p (StageAfter l pool.Stops) (OutAfter out l pool.Stops)
stops_tied l stage w p out t here = stops_at l.asked l.stage l.heard stage w p out t here

-- ---- Where it lets its connection go, the place behind it is ready

ready_at : (s : line.LineStage) (stage : Stage) (w : Bool) (p : ServerIsAt) (out : Bool) → Tied stage w p s out → IsHere stage → p ≡ Ready
ready_at s stage true p out t here = t.2
ready_at line.Idle stage false p out t here = t.1
ready_at (line.Sending begun) stage false p out t here = t.1
ready_at line.Reading stage false p out t here = absurd (not_here_underway stage t.0 here)
ready_at line.Cancelling stage false p out t here = absurd (not_here_stopping stage t.0 here)
ready_at (line.Broken fault) stage false p out t here = absurd t.0

pub ready : (s : line.LineStage) (stage : Stage) (w : Bool) (p : ServerIsAt) (out : Bool) → Tied stage w p s out → IsHere stage → p ≡ Ready
ready s stage w p out t here = ready_at s stage w p out t here

-- where the line is idle, nothing has gone on
pub record Rests (stage : Stage) (w : Bool) (p : ServerIsAt) : Type 0 where
  pub here : IsHere stage
  pub its : w ≡ false
  pub ready : p ≡ Ready

rests_at : (stage : Stage) (w : Bool) (p : ServerIsAt) (out : Bool) → Tied stage w p line.Idle out → Rests stage w p
rests_at stage true p out t = let e : line.Idle ≡ line.Cancelling = t.0 in absurd (let u : ⊥ = cc in u)
rests_at stage false p out t = record { here = t.0; its = refl; ready = t.1 }

pub rests : (s : line.LineStage) (stage : Stage) (w : Bool) (p : ServerIsAt) (out : Bool) → s ≡ line.Idle → Tied stage w p s out → Rests stage w p
rests s stage w p out e t = rests_at stage w p out (subst (λ (x : line.LineStage). Tied stage w p x out) e t)

tied_idle : (stage : Stage) (w : Bool) (p : ServerIsAt) (out : Bool) → Rests stage w p → Tied stage w p line.Idle out
tied_idle stage w p out r = subst (λ (b : Bool). Tied stage b p line.Idle out) (sym r.its) (let t : Tied stage false p line.Idle out = (r.here, r.ready) in t)

pub idle_tied : (s : line.LineStage) (stage : Stage) (w : Bool) (p : ServerIsAt) (out : Bool) → s ≡ line.Idle → Rests stage w p → Tied stage w p s out
idle_tied s stage w p out e r = subst (λ (x : line.LineStage). Tied stage w p x out) (sym e) (tied_idle stage w p out r)

-- ---- It is stopped where something of it has gone on

pub data GoneAt (stage : Stage) (w : Bool) (p : ServerIsAt) (s : line.LineStage) : Type 0 where
  SendsOut : w ≡ false → s ≡ line.Sending true → p ≡ Ready → GoneAt stage w p s
  ReadsOut : w ≡ false → s ≡ line.Reading → stage ≡ stages.Underway true → p ≡ Executing → GoneAt stage w p s

pub gone_at : (s : line.LineStage) (stage : Stage) (w : Bool) (p : ServerIsAt) (out : Bool) → Tied stage w p s out → IsGone stage → GoneAt stage w p s
gone_at s stage true p out t gone = absurd (here_gone stage t.1 gone)
gone_at line.Idle stage false p out t gone = absurd (here_gone stage t.0 gone)
gone_at (line.Sending false) stage false p out t gone = absurd (here_gone stage t.0 gone)
gone_at (line.Sending true) stage false p out t gone = SendsOut refl refl t.1
gone_at line.Reading stage false p out t gone = ReadsOut refl refl t.0 t.1
gone_at line.Cancelling stage false p out t gone = absurd (let u : IsGone stages.Stopping = subst IsGone t.0 gone in u)
gone_at (line.Broken fault) stage false p out t gone = absurd t.0

-- an attention goes out
pub record Stopped (l : Line) (out : Bool) : Type 0 where
  pub stage_is : StageAfter l pool.Stops ≡ line.Cancelling
  pub out_is : OutAfter out l pool.Stops ≡ out

pub stopped_sending : (l : Line) (out : Bool) → l.stage ≡ line.Sending true → Stopped l out
stopped_sending l out e = subst (λ (s : line.LineStage). Stopped (line_at l.asked s l.heard) out) (sym e) (record { stage_is = refl; out_is = refl })

pub stopped_reading : (l : Line) (out : Bool) → l.stage ≡ line.Reading → Stopped l out
stopped_reading l out e = subst (λ (s : line.LineStage). Stopped (line_at l.asked s l.heard) out) (sym e) (record { stage_is = refl; out_is = refl })

-- ---- Something of it goes on

abbrev pub went_by : List Packet → Stage → Stage
went_by [] stage = stage
went_by (packet ∷ packets) stage = rules.request_went_on stage

went_again : (stage : Stage) → rules.request_went_on (rules.request_went_on stage) ≡ rules.request_went_on stage
went_again stages.Quiet = refl
went_again (stages.Receiving kind gone) = refl
went_again (stages.Underway gone) = refl
went_again stages.Stopping = refl
went_again (stages.Broken fault) = refl

went_gone : (stage : Stage) → IsBegun stage → IsGone (rules.request_went_on stage)
went_gone stages.Quiet b = b
went_gone (stages.Receiving kind gone) b = refl
went_gone (stages.Underway gone) b = refl
went_gone stages.Stopping b = b
went_gone (stages.Broken fault) b = b

went_whole : (stage : Stage) → HasWholeRequest stage → rules.request_went_on stage ≡ stages.Underway true
went_whole stages.Quiet b = absurd b
went_whole (stages.Receiving kind gone) b = absurd b
went_whole (stages.Underway gone) b = refl
went_whole stages.Stopping b = absurd b
went_whole (stages.Broken fault) b = absurd b

whole_again : (stage : Stage) → HasWholeRequest stage → HasWholeRequest (rules.request_went_on stage)
whole_again stages.Quiet b = b
whole_again (stages.Receiving kind gone) b = b
whole_again (stages.Underway gone) b = tt
whole_again stages.Stopping b = b
whole_again (stages.Broken fault) b = b

ends_at : (stage : Stage) → HasWholeRequest stage → Rattle.tds_front.specs.Passing.EndsAt true stage
ends_at stages.Quiet b = b
ends_at (stages.Receiving kind gone) b = b
ends_at (stages.Underway gone) b = tt
ends_at stages.Stopping b = absurd b
ends_at (stages.Broken fault) b = absurd b

-- what goes on by acts of a connection that has begun to send
abbrev Ways : ℕ → Heard → List (Act Token) → List FrontEvent
Ways n h acts = gone_on (sent_in (history (line_at n (line.Sending true) h) acts))

goes_more : (stage next : Stage) (q : ServerIsAt) (es : List FrontEvent) → Leads (rules.request_went_on stage) Ready es next q → Leads stage Ready (GoesOn false ∷ es) next q
goes_more stage next q es leads = record { stage_is = leads.stage_is; place_is = leads.place_is }

puts_lead : (n : ℕ) (h : Heard) (count : ℕ) (rest : List (Act Token)) (stage next : Stage) (q : ServerIsAt) → rules.request_went_on stage ≡ stage → Leads stage Ready (Ways n h rest) next q
    → Leads stage Ready (Ways n h (packets count ++ rest)) next q
puts_lead n h zero rest stage next q same leads = leads
puts_lead n h (suc count) rest stage next q same leads =
    let es = Ways n h (packets count ++ rest) in
    goes_more stage next q es (subst (λ (s : Stage). Leads s Ready es next q) (sym same) (puts_lead n h count rest stage next q same leads))

puts_whole : (n : ℕ) (h : Heard) (count : ℕ) (rest : List (Act Token)) (stage : Stage) → rules.request_went_on stage ≡ stage → EndsWhole stage (Ways n h rest) → EndsWhole stage (Ways n h (packets count ++ rest))
puts_whole n h zero rest stage same whole = whole
puts_whole n h (suc count) rest stage same whole =
    (tt, subst (λ (s : Stage). EndsWhole s (Ways n h (packets count ++ rest))) (sym same) (puts_whole n h count rest stage same whole))

puts_line : (n : ℕ) (h : Heard) (count : ℕ) (rest : List (Act Token)) → line_after (line_at n (line.Sending true) h) (packets count ++ rest) ≡ line_after (line_at n (line.Sending true) h) rest
puts_line n h zero rest = refl
puts_line n h (suc count) rest = puts_line n h count rest

puts_out : (n : ℕ) (h : Heard) (count : ℕ) (rest : List (Act Token)) (out : Bool)
    → out_after out (history (line_at n (line.Sending true) h) (packets count ++ rest)) ≡ out_after out (history (line_at n (line.Sending true) h) rest)
puts_out n h zero rest out = refl
puts_out n h (suc count) rest out = puts_out n h count rest out

append_acts : (acts : List (Act Token)) → acts ++ [] ≡ acts
append_acts [] = refl
append_acts (act ∷ acts) = ap (λ (xs : List (Act Token)). act ∷ xs) (append_acts acts)

pub record SentBy (stage : Stage) (w : Bool) (p : ServerIsAt) (out : Bool) (l : Line) (acts : List (Act Token)) : Type 0 where
  pub place : ServerIsAt
  pub tied : Tied (went_by (sent_in (history l acts)) stage) w place (line_after l acts).stage (out_after out (history l acts))
  pub leads : Leads stage p (gone_on (sent_in (history l acts))) (went_by (sent_in (history l acts)) stage) place
  pub whole : EndsWhole stage (gone_on (sent_in (history l acts)))

sent_nothing : (l : Line) (stage : Stage) (w : Bool) (p : ServerIsAt) (out : Bool) → Tied stage w p l.stage out → SentBy stage w p out l []
sent_nothing l stage w p out t = record { place = p; tied = t; leads = leads_nothing stage p; whole = tt }

-- packets that don't end it
sent_more : (n : ℕ) (h : Heard) (begun : Bool) (count : ℕ) (stage : Stage) (out : Bool) → IsBegun stage → false ≡ out
    → SentBy stage false Ready out (line_at n (line.Sending begun) h) (line.Send false ∷ packets count ++ [])
sent_more n h begun count stage out b e =
    let next = rules.request_went_on stage in
    let same = went_again stage in
    record {
      place = Ready;
      tied = subst (λ (l : Line). Tied next false Ready l.stage (out_after out (history (line_at n (line.Sending true) h) (packets count ++ [])))) (sym (puts_line n h count []))
          (let t : Tied next false Ready (line.Sending true) (out_after out (history (line_at n (line.Sending true) h) (packets count ++ []))) = (went_gone stage b, refl) in t);
      leads = goes_more stage next Ready (Ways n h (packets count ++ [])) (puts_lead n h count [] next next Ready same (leads_nothing next Ready));
      whole = (tt, puts_whole n h count [] next same tt);
    }

sent_puts : (n : ℕ) (h : Heard) (begun : Bool) (count : ℕ) (stage : Stage) (out : Bool) → IsBegun stage → Tied stage false Ready (line.Sending begun) out → false ≡ out
    → SentBy stage false Ready out (line_at n (line.Sending begun) h) (packets count)
sent_puts n h begun zero stage out b t e = sent_nothing (line_at n (line.Sending begun) h) stage false Ready out t
sent_puts n h begun (suc count) stage out b t e =
    subst (λ (acts : List (Act Token)). SentBy stage false Ready out (line_at n (line.Sending begun) h) (line.Send false ∷ acts)) (append_acts (packets count)) (sent_more n h begun count stage out b e)

-- and that end it
sent_ends : (n : ℕ) (h : Heard) (begun : Bool) (count : ℕ) (stage : Stage) (out : Bool) → HasWholeRequest stage → SentBy stage false Ready out (line_at n (line.Sending begun) h) (packets count ++ line.Send true ∷ [])
sent_ends n h begun zero stage out b = record {
  place = Executing;
  tied = (went_whole stage b, refl);
  leads = record { stage_is = refl; place_is = refl };
  whole = (ends_at stage b, tt);
}
sent_ends n h begun (suc count) stage out b =
    let next = rules.request_went_on stage in
    let same = went_again stage in
    let rest : List (Act Token) = line.Send true ∷ [] in
    let last : Leads next Ready (Ways n h rest) next Executing = record { stage_is = same; place_is = refl } in
    record {
      place = Executing;
      tied = subst (λ (l : Line). Tied next false Executing l.stage (out_after out (history (line_at n (line.Sending true) h) (packets count ++ rest)))) (sym (puts_line n h count rest))
          (let t : Tied next false Executing line.Reading (out_after out (history (line_at n (line.Sending true) h) (packets count ++ rest))) = (went_whole stage b, refl) in t);
      leads = goes_more stage next Executing (Ways n h (packets count ++ rest)) (puts_lead n h count rest next next Executing same last);
      whole = (tt, puts_whole n h count rest next same (ends_at next (whole_again stage b), tt));
    }

at_ready : (stage : Stage) (p : ServerIsAt) (out : Bool) (l : Line) (acts : List (Act Token)) → p ≡ Ready → SentBy stage false Ready out l acts → SentBy stage false p out l acts
at_ready stage p out l acts e s = subst (λ (x : ServerIsAt). SentBy stage false x out l acts) (sym e) s

puts_at : (n : ℕ) (s : line.LineStage) (h : Heard) (count : ℕ) (stage : Stage) (w : Bool) (p : ServerIsAt) (out : Bool) → Tied stage w p s out → IsBegun stage → out_of s out ≡ out
    → SentBy stage w p out (line_at n s h) (acts_done (line_at n s h) (pool.Puts count))
puts_at n line.Idle h count stage w p out t b e = sent_nothing (line_at n line.Idle h) stage w p out t
puts_at n (line.Sending begun) h count stage true p out t b e = let e : line.Sending begun ≡ line.Cancelling = t.0 in absurd (let u : ⊥ = cc in u)
puts_at n (line.Sending begun) h count stage false p out t b e =
    at_ready stage p out (line_at n (line.Sending begun) h) (packets count) t.1 (sent_puts n h begun count stage out b (subst (λ (x : ServerIsAt). Tied stage false x (line.Sending begun) out) t.1 t) e)
puts_at n line.Reading h count stage w p out t b e = sent_nothing (line_at n line.Reading h) stage w p out t
puts_at n line.Cancelling h count stage w p out t b e = sent_nothing (line_at n line.Cancelling h) stage w p out t
puts_at n (line.Broken fault) h count stage w p out t b e = sent_nothing (line_at n (line.Broken fault) h) stage w p out t

ends_by : (n : ℕ) (s : line.LineStage) (h : Heard) (count : ℕ) (stage : Stage) (w : Bool) (p : ServerIsAt) (out : Bool) → Tied stage w p s out → HasWholeRequest stage
    → SentBy stage w p out (line_at n s h) (acts_done (line_at n s h) (pool.Ends count))
ends_by n line.Idle h count stage w p out t b = sent_nothing (line_at n line.Idle h) stage w p out t
ends_by n (line.Sending begun) h count stage true p out t b = let e : line.Sending begun ≡ line.Cancelling = t.0 in absurd (let u : ⊥ = cc in u)
ends_by n (line.Sending begun) h count stage false p out t b = at_ready stage p out (line_at n (line.Sending begun) h) (packets count ++ line.Send true ∷ []) t.1 (sent_ends n h begun count stage out b)
ends_by n line.Reading h count stage w p out t b = sent_nothing (line_at n line.Reading h) stage w p out t
ends_by n line.Cancelling h count stage w p out t b = sent_nothing (line_at n line.Cancelling h) stage w p out t
ends_by n (line.Broken fault) h count stage w p out t b = sent_nothing (line_at n (line.Broken fault) h) stage w p out t

pub puts_tied : (l : Line) (count : ℕ) (stage : Stage) (w : Bool) (p : ServerIsAt) (out : Bool) → Tied stage w p l.stage out → IsBegun stage → out_of l.stage out ≡ out
    → SentBy stage w p out l (acts_done l (pool.Puts count))
puts_tied l count stage w p out t b e = puts_at l.asked l.stage l.heard count stage w p out t b e

pub ends_tied : (l : Line) (count : ℕ) (stage : Stage) (w : Bool) (p : ServerIsAt) (out : Bool) → Tied stage w p l.stage out → HasWholeRequest stage → SentBy stage w p out l (acts_done l (pool.Ends count))
ends_tied l count stage w p out t b = ends_by l.asked l.stage l.heard count stage w p out t b

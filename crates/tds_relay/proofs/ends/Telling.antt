-- Where an application's end is behind a packet that comes, and that what is said to it is lawful.
use Rattle.std.proofs.Common.{◌≡◌, ◌∙◌, ℕ, Bool, true, false, List, [], ◌∷◌, refl, sym, ap, subst}
use Rattle.std.specs.Prelude.{Option}
use Rattle.tds_packet.specs.declared.status.Reset.{Reset}
use Rattle.tds_wire.specs.declared.told.Token.{Token}
use Rattle.tds_front.specs.declared.front.Front.{Front}
use Rattle.tds_front.specs.declared.stage.Stage.{Stage}
use Rattle.tds_front.specs.declared.stage.Stage.TheVariants as stages
use Rattle.tds_front.specs.Passing.{FrontEvent, Says, EndsWhole, happenings_of}
use Rattle.tds_front.specs.Rules as rules
use Rattle.tds_front.specs.Serving as serving
use Rattle.tds_front.specs.Serving.{ServerIsAt, Ready, Executing, Stopping, IsLawful, MayGo, behind_brought, behind_reply}
use Rattle.tds_service.specs.Line as line
use Rattle.tds_service.specs.Line.{Line, Act, Answer, Packet, Turn, line_turn}
use Rattle.tds_relay.specs.Behind.{said_by, unless_withdrawn}
use Rattle.tds_relay.specs.Fronting.{MayEnd, is_left_out, is_out_behind}
use Rattle.tds_relay.specs.Core.{End, Open, Over, IsHere, end_told, what_of}
use Rattle.tds_relay.proofs.ends.Outs.{HeardAs, Breaks, ReadsOn, ReadsEnd, SkipsOn, SkipsEnd}
use Rattle.tds_relay.proofs.ends.Leading.{Leads, leads_nothing}
use Rattle.tds_relay.proofs.ends.Tying.{Tied}

-- ---- A packet comes

abbrev pub EndTied : End → Stage → ServerIsAt → List FrontEvent → line.LineStage → Bool → Type 0
EndTied (Open front w asks) stage p es l out = (q : ServerIsAt) × Tied front.stage w q l out × Leads stage p es front.stage q
EndTied (Over why) stage p es l out = Unit {0}

-- an end hears what its service answers
abbrev EndHeard : Front → Bool → Option Reset → ServerIsAt → Bool → Answer → line.LineStage → Bool → Type 0
EndHeard front w asks p ends answer l out = EndTied (end_told (what_of answer) (Open front w asks)) front.stage p (unless_withdrawn w (said_by ends answer)) l out

abbrev LeftBy : Bool → Bool → Turn Token → Bool
LeftBy out ends t = is_left_out (is_out_behind out t.sent) ends t.answer

answered_here : (stage : Stage) → stage ≡ stages.Underway true → IsHere (rules.answered stage)
answered_here stage e = subst (λ (s : Stage). IsHere (rules.answered s)) (sym e) tt

acknowledged_here : (stage : Stage) → stage ≡ stages.Stopping → IsHere (rules.acknowledged stage)
acknowledged_here stage e = subst (λ (s : Stage). IsHere (rules.acknowledged s)) (sym e) tt

reads_on_tied : (front : Front) (w : Bool) (asks : Option Reset) (p : ServerIsAt) (out : Bool) → Tied front.stage w p line.Reading out → (o : Bool) → EndHeard front w asks p false line.More line.Reading o
reads_on_tied front true asks p out t o = let e : line.Reading ≡ line.Cancelling = t.0 in absurd (let u : ⊥ = cc in u)
reads_on_tied front false asks p out t o = (p, (t.0, t.1), record { stage_is = refl; place_is = refl })

reads_end_tied : (front : Front) (w : Bool) (asks : Option Reset) (p : ServerIsAt) (out ends : Bool) (request : ℕ) → Tied front.stage w p line.Reading out → (o : Bool) → EndHeard front w asks p ends (line.Finished request) line.Idle o
reads_end_tied front true asks p out ends request t o = let e : line.Reading ≡ line.Cancelling = t.0 in absurd (let u : ⊥ = cc in u)
reads_end_tied front false asks p out ends request t o =
    (Ready, (answered_here front.stage t.0, refl), record { stage_is = refl; place_is = ap (λ (x : ServerIsAt). behind_reply x serving.Ends) t.1 })

skips_on_tied : (front : Front) (w : Bool) (asks : Option Reset) (p : ServerIsAt) (out ends : Bool) → Tied front.stage w p line.Cancelling out → EndHeard front w asks p ends line.More line.Cancelling (is_left_out out ends line.More)
skips_on_tied front true asks p out ends t = (p, (refl, t.1, t.2), leads_nothing front.stage p)
skips_on_tied front false asks p out false t = (p, (t.0, t.1), record { stage_is = refl; place_is = refl })
skips_on_tied front false asks p out true t =
    let same : rules.answered front.stage ≡ front.stage = ap rules.answered t.0 ∙ sym t.0 in
    (Stopping false, (t.0, refl), record { stage_is = same; place_is = ap (λ (x : ServerIsAt). behind_reply x serving.Ends) t.1 })

skips_end_tied : (front : Front) (w : Bool) (asks : Option Reset) (p : ServerIsAt) (out ends : Bool) (request : ℕ) → Tied front.stage w p line.Cancelling out → (o : Bool) → EndHeard front w asks p ends (line.Acked request) line.Idle o
skips_end_tied front true asks p out ends request t o = (p, (t.1, t.2), leads_nothing front.stage p)
skips_end_tied front false asks p out ends request t o =
    (Ready, (acknowledged_here front.stage t.0, refl), record { stage_is = refl; place_is = ap (λ (x : ServerIsAt). behind_reply x serving.Acknowledges) t.1 })

-- by the answer and the stage that the line has then
by_turn : (front : Front) (w : Bool) (asks : Option Reset) (p : ServerIsAt) (out ends : Bool) (t : Turn Token) (answer : Answer) (stage : line.LineStage) → t.answer ≡ answer → t.sent ≡ [] → t.line.stage ≡ stage
    → EndHeard front w asks p ends answer stage (is_left_out out ends answer) → EndHeard front w asks p ends t.answer t.line.stage (LeftBy out ends t)
by_turn front w asks p out ends t answer stage a s l h =
    let one : EndHeard front w asks p ends t.answer stage (is_left_out out ends t.answer) = subst (λ (x : Answer). EndHeard front w asks p ends x stage (is_left_out out ends x)) (sym a) h in
    let two : EndHeard front w asks p ends t.answer t.line.stage (is_left_out out ends t.answer) = subst (λ (x : line.LineStage). EndHeard front w asks p ends t.answer x (is_left_out out ends t.answer)) (sym l) one in
    subst (λ (x : List Packet). EndHeard front w asks p ends t.answer t.line.stage (is_left_out (is_out_behind out x) ends t.answer)) (sym s) two

pub heard_tied : (front : Front) (w : Bool) (asks : Option Reset) (p : ServerIsAt) (out ends : Bool) (s : line.LineStage) (t : Turn Token) → Tied front.stage w p s out → HeardAs s ends t
    → EndHeard front w asks p ends t.answer t.line.stage (LeftBy out ends t)
heard_tied front w asks p out ends s t tied (Breaks fault a) = subst (λ (x : Answer). EndHeard front w asks p ends x t.line.stage (is_left_out (is_out_behind out t.sent) ends x)) (sym a) tt
heard_tied front w asks p out ends s t tied (ReadsOn is goes a sent l) =
    by_turn front w asks p out ends t line.More line.Reading a sent l
    (subst (λ (b : Bool). EndHeard front w asks p b line.More line.Reading (is_left_out out b line.More)) (sym goes)
    (reads_on_tied front w asks p out (subst (λ (x : line.LineStage). Tied front.stage w p x out) is tied) (is_left_out out false line.More)))
heard_tied front w asks p out ends s t tied (ReadsEnd request is a sent l) =
    by_turn front w asks p out ends t (line.Finished request) line.Idle a sent l
    (reads_end_tied front w asks p out ends request (subst (λ (x : line.LineStage). Tied front.stage w p x out) is tied) false)
heard_tied front w asks p out ends s t tied (SkipsOn is a sent l) =
    by_turn front w asks p out ends t line.More line.Cancelling a sent l (skips_on_tied front w asks p out ends (subst (λ (x : line.LineStage). Tied front.stage w p x out) is tied))
heard_tied front w asks p out ends s t tied (SkipsEnd request is a sent l) =
    by_turn front w asks p out ends t (line.Acked request) line.Idle a sent l
    (skips_end_tied front w asks p out ends request (subst (λ (x : line.LineStage). Tied front.stage w p x out) is tied) false)

-- ---- And what is said to it is lawful

abbrev HeardLawful : Bool → ServerIsAt → Bool → Answer → Stage → Type 0
HeardLawful w p ends answer stage =
    IsLawful p (happenings_of stage (unless_withdrawn w (said_by ends answer))) × EndsWhole stage (unless_withdrawn w (said_by ends answer))

withdrawn_lawful : (p : ServerIsAt) (ends : Bool) (answer : Answer) (stage : Stage) → HeardLawful true p ends answer stage
withdrawn_lawful p ends answer stage = (tt, tt)

reads_lawful : (p : ServerIsAt) (answer : Answer) (reply : serving.ServerReply) (stage : Stage) (q : ServerIsAt) → p ≡ q → MayGo q reply → IsLawful p (happenings_of stage (Says reply ∷ [])) × EndsWhole stage (Says reply ∷ [])
reads_lawful p answer reply stage q e may = ((subst (λ (x : ServerIsAt). MayGo x reply) (sym e) may, tt), tt)

tokens_go : (out : Bool) → MayGo (Stopping out) serving.Tokens
tokens_go true = tt
tokens_go false = tt

acknowledges_goes : (out : Bool) → MayGo (Stopping out) serving.Acknowledges
acknowledges_goes true = tt
acknowledges_goes false = tt

ends_go : (out : Bool) → out ≡ true → MayGo (Stopping out) serving.Ends
ends_go true e = tt
ends_go false e = absurd (let u : ⊥ = cc in u)

reads_on_lawful : (w : Bool) (p : ServerIsAt) (out : Bool) (stage : Stage) → Tied stage w p line.Reading out → HeardLawful w p false line.More stage
reads_on_lawful true p out stage t = (tt, tt)
reads_on_lawful false p out stage t = reads_lawful p line.More serving.Tokens stage Executing t.1 tt

reads_end_lawful : (w : Bool) (p : ServerIsAt) (out ends : Bool) (request : ℕ) (stage : Stage) → Tied stage w p line.Reading out → HeardLawful w p ends (line.Finished request) stage
reads_end_lawful true p out ends request stage t = (tt, tt)
reads_end_lawful false p out ends request stage t = reads_lawful p (line.Finished request) serving.Ends stage Executing t.1 tt

skips_on_lawful : (w : Bool) (p : ServerIsAt) (out ends : Bool) (stage : Stage) → Tied stage w p line.Cancelling out → MayEnd out ends line.More → HeardLawful w p ends line.More stage
skips_on_lawful true p out ends stage t may = (tt, tt)
skips_on_lawful false p out false stage t may = reads_lawful p line.More serving.Tokens stage (Stopping out) t.1 (tokens_go out)
skips_on_lawful false p out true stage t may = reads_lawful p line.More serving.Ends stage (Stopping out) t.1 (ends_go out (may refl))

skips_end_lawful : (w : Bool) (p : ServerIsAt) (out ends : Bool) (request : ℕ) (stage : Stage) → Tied stage w p line.Cancelling out → HeardLawful w p ends (line.Acked request) stage
skips_end_lawful true p out ends request stage t = (tt, tt)
skips_end_lawful false p out ends request stage t = reads_lawful p (line.Acked request) serving.Acknowledges stage (Stopping out) t.1 (acknowledges_goes out)

breaks_lawful : (w : Bool) (p : ServerIsAt) (ends : Bool) (fault : Rattle.tds_listen.specs.declared.fault.ListenFault.ListenFault) (stage : Stage) → HeardLawful w p ends (line.Fault fault) stage
breaks_lawful true p ends fault stage = (tt, tt)
breaks_lawful false p ends fault stage = (tt, tt)

pub heard_lawful : (w : Bool) (p : ServerIsAt) (out ends : Bool) (stage : Stage) (s : line.LineStage) (t : Turn Token) → Tied stage w p s out → HeardAs s ends t → MayEnd out ends t.answer
    → HeardLawful w p ends t.answer stage
heard_lawful w p out ends stage s t tied (Breaks fault a) may = subst (λ (x : Answer). HeardLawful w p ends x stage) (sym a) (breaks_lawful w p ends fault stage)
heard_lawful w p out ends stage s t tied (ReadsOn is goes a sent l) may =
    subst (λ (x : Answer). HeardLawful w p ends x stage) (sym a) (subst (λ (b : Bool). HeardLawful w p b line.More stage) (sym goes)
    (reads_on_lawful w p out stage (subst (λ (x : line.LineStage). Tied stage w p x out) is tied)))
heard_lawful w p out ends stage s t tied (ReadsEnd request is a sent l) may =
    subst (λ (x : Answer). HeardLawful w p ends x stage) (sym a) (reads_end_lawful w p out ends request stage (subst (λ (x : line.LineStage). Tied stage w p x out) is tied))
heard_lawful w p out ends stage s t tied (SkipsOn is a sent l) may =
    subst (λ (x : Answer). HeardLawful w p ends x stage) (sym a)
    (skips_on_lawful w p out ends stage (subst (λ (x : line.LineStage). Tied stage w p x out) is tied) (subst (λ (x : Answer). MayEnd out ends x) a may))
heard_lawful w p out ends stage s t tied (SkipsEnd request is a sent l) may =
    subst (λ (x : Answer). HeardLawful w p ends x stage) (sym a) (skips_end_lawful w p out ends request stage (subst (λ (x : line.LineStage). Tied stage w p x out) is tied))

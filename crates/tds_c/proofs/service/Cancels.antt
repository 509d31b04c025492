-- A cancel on a seat is the core's.
use Rattle.std.proofs.Common.{◌≡◌, ◌∙◌, ◌==◌, ℕ, Bool, true, false, List, [], ◌++◌, refl, sym, ap, subst}
use Rattle.std.specs.Prelude.{Result, Ok, if◌then◌else◌}
use Rattle.tds_packet.specs.declared.kind.Kind.{Kind}
use Rattle.tds_client.specs.declared.fault.ClientFault.{ClientFault}
use Rattle.tds_client.specs.declared.fault.ClientRefusal.{ClientRefusal}
use Rattle.tds_client.specs.declared.state.Cancelled.{Cancelled}
use Rattle.tds_client.specs.declared.state.Cancelled.TheVariants as cancels
use Rattle.tds_client.specs.Packets.{stop_bytes, ignore}
use Rattle.tds_client.specs.Sending.{Effect, cancelled, cancelled_in, cancelled_sending}
use Rattle.tds_client.specs.Session as session
use Rattle.tds_client.specs.Session.{ClientSession, with_stage}
use Rattle.tds_wire.specs.declared.told.Token.{Token}
use Rattle.tds_service.specs.Line as line
use Rattle.tds_service.specs.Line.{Answer, Line, LineStage, Idle, Sending, Reading, Cancelling, Broken, not_begun, line_turn}
use Rattle.tds_service.specs.Ties.{begun_of, cancel_answer}
use Rattle.tds_c.specs.declared.service.plain.TdsSeat.{TdsSeat}
use Rattle.tds_c.specs.service.Clients.{cancel_bytes, cancel_bytes_at, cancelled_seat, session_of, stage_with}
use Rattle.tds_c.specs.service.Plain.{fault_of, kind_at, line_of, stage_at, stage_of}
use Rattle.tds_c.specs.service.Table.{seen}

abbrev Done : Type 0
Done = Result (Effect Cancelled) ClientRefusal

abbrev done : Cancelled → ClientSession → List ℕ → Done
done how s bytes = Ok (record { answer = how; session = s; bytes = bytes })

-- the answers differ
same_how : (n : ℕ) (a b : Cancelled) → cancel_answer n a ≡ cancel_answer n b → a ≡ b
same_how n cancels.Nothing cancels.Nothing e = refl
same_how n cancels.Nothing cancels.Already e = absurd (let u : ⊥ = cc in u)
same_how n cancels.Nothing cancels.Unsent e = absurd (let u : ⊥ = cc in u)
same_how n cancels.Nothing cancels.Asked e = absurd (let u : ⊥ = cc in u)
same_how n cancels.Already cancels.Nothing e = absurd (let u : ⊥ = cc in u)
same_how n cancels.Already cancels.Already e = refl
same_how n cancels.Already cancels.Unsent e = absurd (let u : ⊥ = cc in u)
same_how n cancels.Already cancels.Asked e = absurd (let u : ⊥ = cc in u)
same_how n cancels.Unsent cancels.Nothing e = absurd (let u : ⊥ = cc in u)
same_how n cancels.Unsent cancels.Already e = absurd (let u : ⊥ = cc in u)
same_how n cancels.Unsent cancels.Unsent e = refl
same_how n cancels.Unsent cancels.Asked e = absurd (let u : ⊥ = cc in u)
same_how n cancels.Asked cancels.Nothing e = absurd (let u : ⊥ = cc in u)
same_how n cancels.Asked cancels.Already e = absurd (let u : ⊥ = cc in u)
same_how n cancels.Asked cancels.Unsent e = absurd (let u : ⊥ = cc in u)
same_how n cancels.Asked cancels.Asked e = refl

-- a request of which no packet is out, or some
begun_by : (a b c d : Bool) (fault : ClientFault) (begun x : Bool)
    → (if a then Idle else if b then Sending begun else if c then Reading else if d then Cancelling else Broken fault) ≡ Sending x → x ≡ begun
begun_by true b c d fault begun x e = absurd (let u : ⊥ = cc in u)
begun_by false true c d fault begun x e = cc
begun_by false false true d fault begun x e = absurd (let u : ⊥ = cc in u)
begun_by false false false true fault begun x e = absurd (let u : ⊥ = cc in u)
begun_by false false false false fault begun x e = absurd (let u : ⊥ = cc in u)

pub begun_at : (n out fault : ℕ) (b : Bool) → stage_at n out fault ≡ Sending b → b ≡ begun_of out
unfolding stage_at
begun_at n out fault b e = begun_by (n == 0) (n == 1) (n == 2) (n == 3) (fault_of fault) (begun_of out) b e

unsent : (s : ClientSession) (kind : Kind) (packets : ℕ) (b : Bool) → (packets == 0) ≡ b → false ≡ not_begun b
    → (let r : Done = Ok (cancelled_sending s kind packets) in r) ≡ done cancels.Unsent (with_stage s session.Idle) []
unfolding cancelled_sending
unsent s kind packets true e begun = rw e refl
unsent s kind packets false e begun = absurd (let u : ⊥ = cc in u)

sent : (s : ClientSession) (kind : Kind) (packets : ℕ) (b : Bool) → (packets == 0) ≡ b → true ≡ not_begun b
    → (let r : Done = Ok (cancelled_sending s kind packets) in r) ≡ done cancels.Asked (with_stage s session.Cancelling) (ignore kind packets ++ stop_bytes)
unfolding cancelled_sending
sent s kind packets true e begun = absurd (let u : ⊥ = cc in u)
sent s kind packets false e begun = rw e refl

never : (l : Line) (fault : ClientFault) (how : Cancelled) → (line.cancels {T = Token} l (Broken fault)).answer ≡ cancel_answer l.asked how → ⊥
never l fault cancels.Nothing e = let u : ⊥ = cc in u
never l fault cancels.Already e = let u : ⊥ = cc in u
never l fault cancels.Unsent e = let u : ⊥ = cc in u
never l fault cancels.Asked e = let u : ⊥ = cc in u

-- where it answers so, the client is there, and these bytes go out
by_stage : (t : ClientSession) (kind : Kind) (packets : ℕ) (left : List ℕ) (l : Line) (st : LineStage) (how : Cancelled)
    → ((b : Bool) → st ≡ Sending b → b ≡ begun_of packets) → (line.cancels {T = Token} l st).answer ≡ cancel_answer l.asked how
    → cancelled_in (with_stage t (stage_with l.stage kind packets left)) (stage_with st kind packets left)
    ≡ done how (with_stage t (stage_with (line.cancels {T = Token} l st).line.stage kind packets left)) (cancel_bytes_at (seen st) kind packets)
by_stage t kind packets left l Idle how begun e =
    ap (λ (h : Cancelled). done h (with_stage t (stage_with l.stage kind packets left)) []) (same_how l.asked cancels.Nothing how e)
by_stage t kind packets left l (Sending false) how begun e =
    unsent (with_stage t (stage_with l.stage kind packets left)) kind packets (packets == 0) refl (begun false refl)
    ∙ ap (λ (h : Cancelled). done h (with_stage t session.Idle) []) (same_how l.asked cancels.Unsent how e)
by_stage t kind packets left l (Sending true) how begun e =
    sent (with_stage t (stage_with l.stage kind packets left)) kind packets (packets == 0) refl (begun true refl)
    ∙ ap (λ (h : Cancelled). done h (with_stage t session.Cancelling) (ignore kind packets ++ stop_bytes)) (same_how l.asked cancels.Asked how e)
by_stage t kind packets left l Reading how begun e =
    ap (λ (h : Cancelled). done h (with_stage t session.Cancelling) stop_bytes) (same_how l.asked cancels.Asked how e)
by_stage t kind packets left l Cancelling how begun e =
    ap (λ (h : Cancelled). done h (with_stage t (stage_with l.stage kind packets left)) []) (same_how l.asked cancels.Already how e)
by_stage t kind packets left l (Broken fault) how begun e = absurd (never l fault how e)

pub cancels_so : (c y : TdsSeat) (how : Cancelled) (bytes left : List ℕ) → y ≡ cancelled_seat c → line_of y ≡ (line_turn {T = Token} (line_of c) line.Cancel).line
    → (line_turn {T = Token} (line_of c) line.Cancel).answer ≡ cancel_answer c.asked how → bytes ≡ cancel_bytes c
    → cancelled (session_of c left) ≡ Ok (record { answer = how; session = session_of y left; bytes = bytes })
cancels_so c y how bytes left is moved answers bytes_are =
    let kind = kind_at c.client.kind in
    let out = c.client.packets in
    let s = session_of c left in
    let stage_is : (line_of (cancelled_seat c)).stage ≡ (line_turn {T = Token} (line_of c) line.Cancel).line.stage =
    ap (λ (z : TdsSeat). (line_of z).stage) (sym is) ∙ ap (λ (l : Line). l.stage) moved in
    by_stage s kind out left (line_of c) (stage_of c.client) how (begun_at c.client.stage out c.client.fault) answers
    ∙ ap (λ (stage : LineStage). done how (with_stage s (stage_with stage kind out left)) (cancel_bytes c)) (sym stage_is)
    ∙ ap (λ (z : TdsSeat). done how (session_of z left) (cancel_bytes c)) (sym is)
    ∙ ap (λ (b : List ℕ). done how (session_of y left) b) (sym bytes_are)

-- What comes: the code's client hears what the machine does.
use Rattle.std.proofs.Common.{◌≡◌, ◌∙◌, ◌&&◌, ℕ, Bool, true, false, List, [], refl, sym, ap, subst}
use Rattle.std.specs.Prelude.{Option, Some, None, Result, Ok, Err, MatchResult, IfOk, IfErr, not, if◌then◌else◌}
use Rattle.tds_packet.specs.declared.status.Reset.{Reset}
use Rattle.tds_wire.specs.declared.told.Token.{Token}
use Rattle.tds_wire.specs.Reading.{Parser, Found, Sees, Inside, Refuses, is_between, next_token}
use Rattle.tds_client.specs.declared.fault.ClientFault.{ClientFault}
use Rattle.tds_client.specs.declared.fault.ClientFault.TheVariants as faults
use Rattle.tds_client.specs.declared.heard.Heard.{Heard}
use Rattle.tds_client.specs.declared.heard.FinalDone.{FinalDone}
use Rattle.tds_client.specs.declared.heard.FinalDone.TheVariants.{Awaited, Answered, Acknowledged}
use Rattle.tds_client.specs.declared.sign.Rules.TheVariants.{Any}
use Rattle.tds_client.specs.declared.sign.Sign.TheVariants as signs
use Rattle.tds_client.specs.declared.state.Taken.{Taken}
use Rattle.tds_client.specs.Hearing.{◌>>=◌, hear_sign, may_end}
use Rattle.tds_client.specs.Machine.{ItemMove, signed, signed_in, ended_in, tells, with_heard, end_read, end_skipped}
use Rattle.tds_client.specs.Session as session
use Rattle.tds_client.specs.Session.{ClientSession}
use Rattle.tds_client.specs.Taking.{broken_by}
use Rattle.tds_listen.specs.declared.fault.ListenFault.{ListenFault}
use Rattle.tds_listen.specs.declared.fault.ListenFault.TheVariants as listens
use Rattle.tds_listen.specs.Faults.{broken_at, broken_at_end}
use Rattle.tds_listen.specs.Hearing.{Move, heard_by, heard_end, moved_by, next_heard, settled_by, told_if, without_mark}
use Rattle.tds_listen.specs.Signs.{sign_of}
use Rattle.tds_service.specs.Parts.{Part, Goes, Ends, Cut, close_by, close_part, items_told, unless_owed, until_by}
use Rattle.tds_service.specs.Line as line
use Rattle.tds_service.specs.Line.{Line, Turn, comes, reads, skips, skips_to_end, line_turn}
use Rattle.tds_service.specs.Ties.{stage_of, line_of, Hears, IsTo, Stands, end_at, items_of, part_of, taken_answer, tokens_in}
use Rattle.tds_service.proofs.Alike.{line_at}

abbrev okay : {A : Type 0} (E : Type 0) → A → Result A E
okay E a = Ok a

abbrev wrong : {E : Type 0} (A : Type 0) → E → Result A E
wrong A e = Err e

ok_same : {A : Type 0} (E : Type 0) (a b : A) → okay E a ≡ okay E b → a ≡ b
ok_same E a b e = cc

wrong_same : {E : Type 0} (A : Type 0) (a b : E) → wrong A a ≡ wrong A b → a ≡ b
wrong_same A a b e = cc

not_wrong : {A E B : Type 0} (a : A) (e : E) → okay E a ≡ wrong A e → B
not_wrong a e h = absurd (let u : ⊥ = cc in u)

-- ---- Whether anything is awaited

-- A sign of nothing is heard where an answer or an acknowledgement is awaited, and changes nothing.
quiet_in : (s next : ClientSession) (k : session.Stage) → signed_in Any k s signs.Nothing ≡ Ok next → next ≡ s
quiet_in s next session.Idle h = absurd (let u : ⊥ = cc in u)
quiet_in s next (session.Sending kind left packets) h = absurd (let u : ⊥ = cc in u)
quiet_in s next session.Reading h = sym (ok_same ClientFault s next h)
quiet_in s next session.Cancelling h = sym (ok_same ClientFault s next h)
quiet_in s next (session.Broken fault) h = absurd (let u : ⊥ = cc in u)

pub quietly : (s next : ClientSession) → signed Any s signs.Nothing ≡ Ok next → next ≡ s
quietly s next h = quiet_in s next s.stage h

-- ---- A piece

-- The machine's turn is what the client's move is.
abbrev pub Moves : ℕ → ClientSession → Turn Token → Result Move ListenFault → Type 0
Moves n s t (Ok move) =
    (line_of n move.session ≡ t.line) × (t.answer ≡ line.More) × (tokens_in t.told ≡ items_told (items_of move.told)) × IsTo n t.told × (t.sent ≡ [])
Moves n s t (Err fault) = (line_of n (broken_at s fault) ≡ t.line) × (t.answer ≡ line.Fault fault) × (tokens_in t.told ≡ []) × IsTo n t.told × (t.sent ≡ [])

abbrev moved_at : session.Stage → ClientSession → Found → Result Move ListenFault
moved_at k s (Sees token r rest) =
    heard_by (signed_in Any k s (sign_of token)) (λ next. Ok (record { told = told_if (tells k) token; session = next; reading = r; rest = rest }))
moved_at k s (Inside r) = Ok (record { told = None; session = s; reading = r; rest = [] })
moved_at k s (Refuses refusal) = Err (listens.Wire refusal)

module _ (n : ℕ) (s : ClientSession) where
  at_stage : (k : session.Stage) (heard : Heard) → s.stage ≡ k → line_of n (with_heard s heard) ≡ record { asked = n; stage = stage_of k; heard = heard }
  at_stage k heard e = ap (λ (k : session.Stage). let l : Line = record { asked = n; stage = stage_of k; heard = heard } in l) e

  lost_at : (k : session.Stage) → s.stage ≡ k → line_of n (session.lost s) ≡ record { asked = n; stage = stage_of (session.lost_stage k); heard = s.heard }
  lost_at k e = ap (λ (k : session.Stage). let l : Line = record { asked = n; stage = stage_of (session.lost_stage k); heard = s.heard } in l) e

  reads_token : (token : Token) (r : Parser) (rest : List ℕ) (x : Result Heard ClientFault) → s.stage ≡ session.Reading
      → Moves n s (reads (line_at n s session.Reading) (part_of (Sees token r rest)) false (until_by s.heard x (λ next. next)) (heard_by (x >>= λ next. Ok next) (λ next. close_part false Goes next)))
      (heard_by (x >>= λ heard. Ok (with_heard s heard)) (λ next. Ok (record { told = Some token; session = next; reading = r; rest = rest })))
  reads_token token r rest (Ok heard) e = (at_stage session.Reading heard e, refl, refl, refl, refl)
  reads_token token r rest (Err fault) e = (refl, refl, refl, tt, refl)

  skips_token : (token : Token) (r : Parser) (rest : List ℕ) (x : Result Heard ClientFault) → s.stage ≡ session.Cancelling
      → Moves n s (skips (line_at n s session.Cancelling) false (until_by s.heard x (λ next. next)) (heard_by (x >>= λ next. Ok next) (λ next. close_part true Goes next)))
      (heard_by (x >>= λ heard. Ok (with_heard s heard)) (λ next. Ok (record { told = None; session = next; reading = r; rest = rest })))
  skips_token token r rest (Ok heard) e = (at_stage session.Cancelling heard e, refl, refl, tt, refl)
  skips_token token r rest (Err fault) e = (refl, refl, refl, tt, refl)

  comes_in : (k : session.Stage) (f : Found) (next : ClientSession) → s.stage ≡ k → signed_in Any k s signs.Nothing ≡ Ok next
      → Moves n s (comes (line_at n s k) (part_of f) (stage_of k)) (moved_at k s f)
  comes_in session.Idle f next e h = absurd (let u : ⊥ = cc in u)
  comes_in (session.Sending kind left packets) f next e h = absurd (let u : ⊥ = cc in u)
  comes_in session.Reading (Sees token r rest) next e h = reads_token token r rest (hear_sign Any false s.heard (sign_of token)) e
  comes_in session.Reading (Inside r) next e h = (at_stage session.Reading s.heard e, refl, refl, refl, refl)
  comes_in session.Reading (Refuses refusal) next e h = (lost_at session.Reading e, refl, refl, tt, refl)
  comes_in session.Cancelling (Sees token r rest) next e h = skips_token token r rest (hear_sign Any true s.heard (sign_of token)) e
  comes_in session.Cancelling (Inside r) next e h = (at_stage session.Cancelling s.heard e, refl, refl, tt, refl)
  comes_in session.Cancelling (Refuses refusal) next e h = (lost_at session.Cancelling e, refl, refl, tt, refl)
  comes_in (session.Broken fault) f next e h = absurd (let u : ⊥ = cc in u)

  at_found : (f : Found) → Moves n s (comes (line_of n s) (part_of f) (stage_of s.stage)) (moved_at s.stage s f)
      → (r : Parser) (piece : List ℕ) → next_token r piece ≡ f → Moves n s (line_turn (line_of n s) (line.Come (part_of (next_token r piece)))) (next_heard s r piece)
  at_found (Sees token r rest) m reading piece e =
      subst (λ (f : Found). Moves n s (line_turn (line_of n s) (line.Come (part_of f))) (moved_by s f)) (sym e) m
  at_found (Inside r) m reading piece e =
      subst (λ (f : Found). Moves n s (line_turn (line_of n s) (line.Come (part_of f))) (moved_by s f)) (sym e) m
  at_found (Refuses refusal) m reading piece e =
      subst (λ (f : Found). Moves n s (line_turn (line_of n s) (line.Come (part_of f))) (moved_by s f)) (sym e) m

  pub comes_alike : (r : Parser) (piece : List ℕ) (next : ClientSession) → signed Any s signs.Nothing ≡ Ok next
      → Moves n s (line_turn (line_of n s) (line.Come (part_of (next_token r piece)))) (next_heard s r piece)
  comes_alike r piece next h = at_found (next_token r piece) (comes_in s.stage (next_token r piece) next refl h) r piece refl

  -- What comes where nothing is awaited.
  unawaited_in : (k : session.Stage) (part : Part Token) (fault : ClientFault) → signed_in Any k s signs.Nothing ≡ Err fault
      → Moves n s (comes (line_at n s k) part (stage_of k)) (Err (listens.Client fault))
  unawaited_in session.Idle part fault h =
      subst (λ (f : ClientFault). Moves n s (comes (line_at n s session.Idle) part line.Idle) (Err (listens.Client f))) (wrong_same ClientSession _ fault h) (refl, refl, refl, tt, refl)
  unawaited_in (session.Sending kind left packets) part fault h =
      let k = session.Sending kind left packets in
      subst (λ (f : ClientFault). Moves n s (comes (line_at n s k) part (stage_of k)) (Err (listens.Client f))) (wrong_same ClientSession _ fault h) (refl, refl, refl, tt, refl)
  unawaited_in session.Reading part fault h = not_wrong s fault h
  unawaited_in session.Cancelling part fault h = not_wrong s fault h
  unawaited_in (session.Broken other) part fault h =
      let k = session.Broken other in
      subst (λ (f : ClientFault). Moves n s (comes (line_at n s k) part (stage_of k)) (Err (listens.Client f))) (wrong_same ClientSession _ fault h) (refl, refl, refl, tt, refl)

  pub unawaited_alike : (part : Part Token) (fault : ClientFault) → signed Any s signs.Nothing ≡ Err fault
      → Hears part (line_of n s) (line_of n (broken_by s fault)) (line.Fault (listens.Client fault)) []
  unawaited_alike part fault h =
      let m = unawaited_in s.stage part fault h in record { line_is = m.0; answer_is = m.1; told_is = m.2; owner = m.3; quiet = m.4 }

  -- ---- The end of a message

  abbrev pub Closes : Turn Token → Result ItemMove ListenFault → Type 0
  Closes t (Ok move) =
      (line_of n move.session ≡ t.line) × (t.answer ≡ taken_answer n move.answer) × (tokens_in t.told ≡ []) × IsTo n t.told × (t.sent ≡ [])
  Closes t (Err fault) = (line_of n (broken_at_end s fault) ≡ t.line) × (t.answer ≡ line.Fault fault) × (tokens_in t.told ≡ []) × IsTo n t.told × (t.sent ≡ [])

  abbrev ended_at : session.Stage → Bool → Result ItemMove ListenFault
  ended_at k between =
      if tells k && not between then Err listens.Cut
      else heard_by (ended_in Any k s) (λ move. settled_by move.answer move)

  abbrev closing : Bool → Part Token
  closing between = record { items = []; close = if between then Ends else Cut }

  reads_mark : (mark : Option Reset)
      → Closes (reads (line_at n s session.Reading) (closing true) true s.heard (unless_owed mark s.heard)) (without_mark mark (end_read s))
  reads_mark None = (refl, refl, refl, refl, refl)
  reads_mark (Some reset) = (refl, refl, refl, tt, refl)

  reads_end : (may : Bool)
      → Closes (reads (line_at n s session.Reading) (closing true) true s.heard (close_by false may s.heard))
      (heard_by (if may then Ok (end_read s) else Err faults.NoFinalDone) (λ move. settled_by move.answer move))
  reads_end true = reads_mark s.heard.mark
  reads_end false = (refl, refl, refl, tt, refl)

  skips_done : (done : FinalDone)
      → Closes (skips_to_end {T = Token} (line_at n s session.Cancelling) s.heard done)
      (settled_by (end_skipped s done).answer (end_skipped s done))
  skips_done Awaited = (refl, refl, refl, tt, refl)
  skips_done Answered = (refl, refl, refl, tt, refl)
  skips_done Acknowledged = (refl, refl, refl, tt, refl)

  skips_end : (may : Bool)
      → Closes (skips {T = Token} (line_at n s session.Cancelling) true s.heard (close_by true may s.heard))
      (heard_by (if may then Ok (end_skipped s s.heard.done) else Err faults.NoFinalDone) (λ move. settled_by move.answer move))
  skips_end true = skips_done s.heard.done
  skips_end false = (refl, refl, refl, tt, refl)

  ends_in : (k : session.Stage) (between : Bool) → s.stage ≡ k → Closes (comes (line_at n s k) (closing between) (stage_of k)) (ended_at k between)
  ends_in session.Idle between e = (refl, refl, refl, tt, refl)
  ends_in (session.Sending kind left packets) between e = (refl, refl, refl, tt, refl)
  ends_in session.Reading true e = reads_end (may_end Any false s.heard.done)
  ends_in session.Reading false e = (lost_at session.Reading e, refl, refl, tt, refl)
  ends_in session.Cancelling true e = skips_end (may_end Any true s.heard.done)
  ends_in session.Cancelling false e = skips_end (may_end Any true s.heard.done)
  ends_in (session.Broken fault) between e = (refl, refl, refl, tt, refl)

  pub ends_alike : (r : Parser) → Closes (line_turn (line_of n s) (line.Come (end_at r))) (heard_end s r)
  ends_alike r = ends_in s.stage (is_between r) refl

-- ---- By what a call answers

hears_ok : (n : ℕ) (s next : ClientSession) (r reading : Parser) (piece left : List ℕ) (some : Option Token) (tokens : List Token)
    → signed Any s signs.Nothing ≡ Ok s
    → next_heard s r piece ≡ Ok (record { told = some; session = next; reading = reading; rest = left }) → tokens ≡ items_told (items_of some)
    → Hears (part_of (next_token r piece)) (line_of n s) (line_of n next) line.More tokens
hears_ok n s next r reading piece left some tokens h e is =
    let m = subst (Moves n s (line_turn (line_of n s) (line.Come (part_of (next_token r piece))))) e (comes_alike n s r piece s h) in
    record { line_is = m.0; answer_is = m.1; told_is = m.2 ∙ sym is; owner = m.3; quiet = m.4 }

pub came_ok : (n : ℕ) (s first next : ClientSession) (r reading : Parser) (piece left : List ℕ) (some : Option Token) (tokens : List Token)
    → signed Any s signs.Nothing ≡ Ok first
    → next_heard first r piece ≡ Ok (record { told = some; session = next; reading = reading; rest = left }) → tokens ≡ items_told (items_of some)
    → Hears (part_of (next_token r piece)) (line_of n s) (line_of n next) line.More tokens
came_ok n s first next r reading piece left some tokens h e is =
    let same = quietly s first h in
    hears_ok n s next r reading piece left some tokens (h ∙ ap (okay ClientFault) same)
    (subst (λ (x : ClientSession). next_heard x r piece ≡ Ok (record { told = some; session = next; reading = reading; rest = left })) same e) is

hears_fault : (n : ℕ) (s : ClientSession) (r : Parser) (piece : List ℕ) (fault : ListenFault) → signed Any s signs.Nothing ≡ Ok s → next_heard s r piece ≡ Err fault
    → Hears (part_of (next_token r piece)) (line_of n s) (line_of n (broken_at s fault)) (line.Fault fault) []
hears_fault n s r piece fault h e =
    let m = subst (Moves n s (line_turn (line_of n s) (line.Come (part_of (next_token r piece))))) e (comes_alike n s r piece s h) in
    record { line_is = m.0; answer_is = m.1; told_is = m.2; owner = m.3; quiet = m.4 }

pub came_fault : (n : ℕ) (s first next : ClientSession) (r : Parser) (piece : List ℕ) (fault : ListenFault) → signed Any s signs.Nothing ≡ Ok first
    → next_heard first r piece ≡ Err fault → next ≡ broken_at first fault
    → Hears (part_of (next_token r piece)) (line_of n s) (line_of n next) (line.Fault fault) []
came_fault n s first next r piece fault h e is =
    let same = quietly s first h in
    subst (λ (x : ClientSession). Hears (part_of (next_token r piece)) (line_of n s) (line_of n x) (line.Fault fault) [])
    (sym (is ∙ ap (λ (x : ClientSession). broken_at x fault) same))
    (hears_fault n s r piece fault (h ∙ ap (okay ClientFault) same) (subst (λ (x : ClientSession). next_heard x r piece ≡ Err fault) same e))

pub came_unawaited : (n : ℕ) (s next : ClientSession) (part : Part Token) (fault : ClientFault) → signed Any s signs.Nothing ≡ Err fault → next ≡ broken_by s fault
    → Hears part (line_of n s) (line_of n next) (line.Fault (listens.Client fault)) []
came_unawaited n s next part fault h is =
    subst (λ (x : ClientSession). Hears part (line_of n s) (line_of n x) (line.Fault (listens.Client fault)) []) (sym is) (unawaited_alike n s part fault h)

-- where the parser stands
stands_in : (s : ClientSession) (f : Found) (next : ClientSession) (reading : Parser) (left : List ℕ) (some : Option Token)
    → moved_by s f ≡ Ok (record { told = some; session = next; reading = reading; rest = left }) → Stands f reading left
stands_in s (Sees token r rest) next reading left some e = sees (signed Any s (sign_of token)) e
  where
    sees : (x : Result ClientSession ClientFault)
        → heard_by {B = Move} x (λ next. Ok (record { told = told_if (tells s.stage) token; session = next; reading = r; rest = rest })) ≡ Ok (record { told = some; session = next; reading = reading; rest = left })
        → Stands (Sees token r rest) reading left
    sees (Ok session) e =
        let same = ok_same ListenFault _ _ e in (sym (ap (λ (m : Move). m.reading) same), sym (ap (λ (m : Move). m.rest) same))
    sees (Err fault) e = absurd (let u : ⊥ = cc in u)
stands_in s (Inside r) next reading left some e =
    let same = ok_same ListenFault _ _ e in (sym (ap (λ (m : Move). m.reading) same), sym (ap (λ (m : Move). m.rest) same))
stands_in s (Refuses refusal) next reading left some e = absurd (let u : ⊥ = cc in u)

pub stands : (s next : ClientSession) (r reading : Parser) (piece left : List ℕ) (some : Option Token)
    → next_heard s r piece ≡ Ok (record { told = some; session = next; reading = reading; rest = left }) → Stands (next_token r piece) reading left
stands s next r reading piece left some e = stands_in s (next_token r piece) next reading left some e

module _ (n : ℕ) (s next : ClientSession) (r : Parser) where
  pub ended_ok : (answer : Taken) → heard_end s r ≡ Ok (record { answer = answer; session = next })
      → Hears (end_at r) (line_of n s) (line_of n next) (taken_answer n answer) []
  ended_ok answer e =
      let m = subst (Closes n s (line_turn (line_of n s) (line.Come (end_at r)))) e (ends_alike n s r) in
      record { line_is = m.0; answer_is = m.1; told_is = m.2; owner = m.3; quiet = m.4 }

  pub ended_fault : (fault : ListenFault) → heard_end s r ≡ Err fault → next ≡ broken_at_end s fault → Hears (end_at r) (line_of n s) (line_of n next) (line.Fault fault) []
  ended_fault fault e is =
      let m = subst (Closes n s (line_turn (line_of n s) (line.Come (end_at r)))) e (ends_alike n s r) in
      record { line_is = ap (line_of n) is ∙ m.0; answer_is = m.1; told_is = m.2; owner = m.3; quiet = m.4 }

  pub ends_ok : (result : Result Taken ListenFault)
      → MatchResult result (λ answer. heard_end s r ≡ Ok (record { answer = answer; session = next })) (λ fault. heard_end s r ≡ Err fault)
      → IfOk result (λ answer. Hears (end_at r) (line_of n s) (line_of n next) (taken_answer n answer) [])
  ends_ok (Ok answer) e = ended_ok answer e
  ends_ok (Err fault) e = tt

  pub ends_fault : (result : Result Taken ListenFault)
      → MatchResult result (λ answer. heard_end s r ≡ Ok (record { answer = answer; session = next })) (λ fault. heard_end s r ≡ Err fault)
      → IfErr result (λ fault. next ≡ broken_at_end s fault)
      → IfErr result (λ fault. Hears (end_at r) (line_of n s) (line_of n next) (line.Fault fault) [])
  ends_fault (Ok answer) e is = tt
  ends_fault (Err fault) e is = ended_fault fault e is

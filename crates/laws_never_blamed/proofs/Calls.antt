-- Each call of a client, and each packet that comes, is played on the wire by its acts; and so are all of them.
use Rattle.std.proofs.Common.{◌≡◌, ◌∙◌, ◌+◌, ◌≤◌, ◌<◌, ◌^◌, ◌==◌, ℕ, suc, Bool, true, false, List, [], ◌∷◌, ◌++◌, length, take, drop, Option, Some, None, refl, sym, ap, subst, arith, if◌then◌else◌}
use Rattle.std.proofs.lemmas.Bool.{leb-true}
use Rattle.std.proofs.lemmas.List.{append-nil, append_cancel_left}
use Rattle.std.specs.Prelude.{Result, Ok, Err, nat_le}
use Rattle.tds_packet.specs.declared.kind.Kind.{Kind}
use Rattle.tds_packet.specs.declared.status.Reset.{Reset}
use Rattle.tds_packet.specs.declared.status.Reset.TheVariants.{Full, KeepTransaction}
use Rattle.tds_packet.specs.Resets.{header_descriptor, mark_bit}
use Rattle.tds_packet.specs.Sent.{end_bit}
use Rattle.tds_packet.specs.Size.{IsPacketSize}
use Rattle.tds_request.specs.declared.request.Request.{Request}
use Rattle.tds_request.specs.declared.request.Request.TheVariants as requests
use Rattle.tds_request.specs.Layout.{body_of}
use Rattle.tds_client.specs.declared.fault.ClientRefusal.{ClientRefusal}
use Rattle.tds_client.specs.declared.message.MessageKind.{MessageKind}
use Rattle.tds_client.specs.declared.message.MessageKind.TheVariants.{Batch, Transaction}
use Rattle.tds_client.specs.declared.state.Cancelled.{Cancelled}
use Rattle.tds_client.specs.declared.state.Cancelled.TheVariants as cancels
use Rattle.tds_client.specs.declared.state.Sent.{Sent}
use Rattle.tds_client.specs.declared.state.Sent.TheVariants as sents
use Rattle.tds_client.specs.Packets.{stop_bytes, ignore, packet_bytes}
use Rattle.tds_client.specs.Parts.{left_of}
use Rattle.tds_client.specs.Sending.{Effect, cancelled, cancelled_in, cancelled_sending, room, sent, sent_in, sent_of, started}
use Rattle.tds_client.specs.Session as session
use Rattle.tds_client.specs.Session.{ClientSession, lost, marked, unless_idle, with_stage}
use Rattle.tds_client.specs.Streams.{finished, finished_in, packets_are, put, put_in}
use Rattle.tds_wire.specs.declared.told.Token.{Token}
use Rattle.tds_wire.specs.Reading.{Parser}
use Rattle.tds_client.specs.declared.heard.Heard.{Heard}
use Rattle.tds_client.specs.declared.heard.FinalDone.{FinalDone}
use Rattle.tds_client.specs.declared.heard.FinalDone.TheVariants.{Awaited, Answered, Acknowledged}
use Rattle.tds_listen.specs.declared.fault.ListenFault.{ListenFault}
use Rattle.tds_service.specs.Parts.{Part, hear_part, heard_until, is_end}
use Rattle.tds_service.specs.Line as line
use Rattle.tds_service.specs.Line.{Act, Line, Attention, Ignore, line_turn}
use Rattle.tds_service.specs.History.{Done, done_by, history}
use Rattle.tds_service.specs.Refusing.{packets}
use Rattle.tds_service.specs.Ties.{full_in, stage_of}
use Rattle.tds_judge.specs.declared.finding.Direction.TheVariants.{ToServer, ToClient}
use Rattle.tds_judge.specs.Conversation.{Piece, Bytes, Closes, piece_seen, seen}
use Rattle.tds_judge.specs.Framing.{Run}
use Rattle.laws_never_blamed.specs.Called.{AreCalled, Appends, Call, Called, End, Hears, IsDone, IsTyped, Mark, Start, Send, Open, Put, Finish, Cancel, Lose, Come, acts_by, acts_of, handed, line_at, new_end, piece_by}
use Rattle.laws_never_blamed.specs.Seen.{Watch, watch_by}
use Rattle.laws_never_blamed.specs.Spelled.{AreShown, IsIn, Pen, Shown, Wire, dones, headers_of, new_watch, new_wire, pieces}
use Rattle.laws_never_blamed.proofs.Plays.{Fits, Plays, dones_both, fits_more, history_both, one, seen_both, sends_full, sends_last, sends_more, sends_one}

-- ---- Where a client is

-- A request that is being sent has a packet's data left.
abbrev pub Holds : ℕ → Pen → session.Stage → Type 0
Holds named pen session.Idle = Unit {0}
Holds named pen (session.Sending kind left packets) = Fits named pen kind packets (packets == 0) left
Holds named pen session.Reading = Unit {0}
Holds named pen session.Cancelling = Unit {0}
Holds named pen (session.Broken fault) = Unit {0}

abbrev pub wire_of : Pen → End → Wire
wire_of pen e = record { pen = pen; reading = e.reading; is_first = e.is_first }

-- the same end, where its client is elsewhere, and where it is that one
abbrev at : End → session.Stage → End
at e stage = record e { client = with_stage e.client stage }

abbrev becomes : End → ClientSession → End
becomes e client = record e { client = client }

record Goes (e : End) (w : Watch) (pen : Pen) (acts : List (Act Token)) (piece : Piece) (behind : End) : Type 0 where
  watch : Watch
  pen_behind : Pen
  plays : Plays (line_at e) w (wire_of pen e) acts piece (line_at behind) watch (wire_of pen_behind behind)
  holds : Holds watch.named pen_behind behind.client.stage

-- ---- Marks, and asking

mark_goes : (e : End) (stage : session.Stage) (w : Watch) (pen : Pen) (reset : Reset) (t : ℕ) → unless_idle stage ≡ None
    → Goes (at e stage) w pen (line.Mark reset ∷ []) (Bytes ToServer t []) (becomes e (marked (with_stage e.client stage) reset))
mark_goes e session.Idle w pen reset t idle = record {
  watch = w;
  pen_behind = pen;
  plays = one (line_at (at e session.Idle)) w (wire_of pen e) (line.Mark reset) t [] (wire_of pen e) ((refl, refl), refl, refl);
  holds = tt;
}
mark_goes e (session.Sending kind left packets) w pen reset t idle = absurd (let u : ⊥ = cc in u)
mark_goes e session.Reading w pen reset t idle = absurd (let u : ⊥ = cc in u)
mark_goes e session.Cancelling w pen reset t idle = absurd (let u : ⊥ = cc in u)
mark_goes e (session.Broken fault) w pen reset t idle = absurd (let u : ⊥ = cc in u)

abbrev named_in : ClientSession → ℕ
named_in s = header_descriptor s.heard.mark s.heard.descriptor

named_few : (mark : Option Reset) (descriptor : ℕ) → descriptor < 2 ^ 64 → header_descriptor mark descriptor < 2 ^ 64
named_few None descriptor few = few
named_few (Some Full) descriptor few = omega arith
named_few (Some KeepTransaction) descriptor few = few

-- a request is begun, with this much of it
ask_goes : (e : End) (stage : session.Stage) (w : Watch) (pen : Pen) (t : ℕ) (kind : Kind) (left : List ℕ) → unless_idle stage ≡ None
    → Fits (named_in e.client) pen kind 0 true left
    → Goes (at e stage) w pen (line.Ask ∷ []) (Bytes ToServer t []) (record e { asked = suc e.asked; client = with_stage e.client (session.Sending kind left 0) })
ask_goes e session.Idle w pen t kind left idle fits = record {
  watch = record { named = named_in e.client; begun = w.begun };
  pen_behind = pen;
  plays = one (line_at (at e session.Idle)) w (wire_of pen e) line.Ask t [] (wire_of pen e) ((refl, refl), refl, refl);
  holds = fits;
}
ask_goes e (session.Sending kind' left' packets) w pen t kind left idle fits = absurd (let u : ⊥ = cc in u)
ask_goes e session.Reading w pen t kind left idle fits = absurd (let u : ⊥ = cc in u)
ask_goes e session.Cancelling w pen t kind left idle fits = absurd (let u : ⊥ = cc in u)
ask_goes e (session.Broken fault) w pen t kind left idle fits = absurd (let u : ⊥ = cc in u)

fits_open : (s : ClientSession) (pen : Pen) (kind : MessageKind) → s.heard.descriptor < 2 ^ 64 → Fits (named_in s) pen (packets_are kind) 0 true (headers_of kind (named_in s))
fits_open s pen kind few = (kind, [], refl, sym (append-nil (headers_of kind (named_in s))), named_few s.heard.mark s.heard.descriptor few)

start_goes : (e : End) (w : Watch) (pen : Pen) (t : ℕ) (request : Request) → unless_idle e.client.stage ≡ None → e.client.heard.descriptor < 2 ^ 64
    → Goes e w pen (line.Ask ∷ []) (Bytes ToServer t []) (record e { asked = suc e.asked; client = started e.client request })
start_goes e w pen t (requests.Batch units) idle few =
    ask_goes e e.client.stage w pen t _ _ idle (Batch, body_of (requests.Batch units), refl, refl, named_few e.client.heard.mark e.client.heard.descriptor few)
start_goes e w pen t (requests.Begin isolation) idle few =
    ask_goes e e.client.stage w pen t _ _ idle (Transaction, body_of (requests.Begin isolation), refl, refl, named_few e.client.heard.mark e.client.heard.descriptor few)
start_goes e w pen t (requests.Commit anew) idle few =
    ask_goes e e.client.stage w pen t _ _ idle (Transaction, body_of (requests.Commit anew), refl, refl, named_few e.client.heard.mark e.client.heard.descriptor few)
start_goes e w pen t (requests.Rollback anew) idle few =
    ask_goes e e.client.stage w pen t _ _ idle (Transaction, body_of (requests.Rollback anew), refl, refl, named_few e.client.heard.mark e.client.heard.descriptor few)

-- ---- What is appended

abbrev okay : {A : Type 0} → Effect A → Result (Effect A) ClientRefusal
okay x = Ok x

ok_same : {A : Type 0} (x y : Effect A) → okay x ≡ okay y → x ≡ y
ok_same x y is = cc

-- what a call does is an effect, which is played
abbrev Effects : {A : Type 0} → End → Watch → Pen → ℕ → List (Act Token) → Effect A → Type 0
Effects e w pen t acts x = Goes e w pen acts (Bytes ToServer t x.bytes) (becomes e x.session)

appends_goes : {A : Type 0} (wanted : Result (Effect A) ClientRefusal) (answer : A) (e : End) (w : Watch) (pen : Pen) (t : ℕ) (acts : List (Act Token)) (bytes : List ℕ) (behind : End)
    → ((x : Effect A) → wanted ≡ Ok x → Effects e w pen t acts x) → Appends wanted answer e bytes behind → Goes e w pen acts (Bytes ToServer t bytes) behind
appends_goes {A = A} wanted answer e w pen t acts bytes behind effects (before, (more, is, appended), end) =
    let x : Effect A = record { answer = answer; session = behind.client; bytes = more } in
    let same : more ≡ bytes = sym (append_cancel_left before bytes more appended) in
    subst (λ (b : End). Goes e w pen acts (Bytes ToServer t bytes) b) (sym end) (subst (λ (xs : List ℕ). Goes e w pen acts (Bytes ToServer t xs) (becomes e behind.client)) same (effects x is))

-- ---- Packets of a request

record Sized (s : ClientSession) : Type 0 where
  wide : 504 ≤ room s
  narrow : room s ≤ 32759

sized : (s : ClientSession) → IsPacketSize s.size → Sized s
sized s size =
    let low : 512 ≤ s.size = size.0 in
    let high : s.size ≤ 32767 = size.1 in
    record { wide = omega (arith, low); narrow = omega (arith, high) }

abbrev sent_by : ClientSession → Kind → List ℕ → ℕ → Bool → Effect Sent
sent_by s kind left packets last =
    if last
    then record { answer = sents.Last; session = with_stage s session.Reading; bytes = packet_bytes kind (end_bit true + mark_bit packets s.heard.mark) packets left }
    else record {
      answer = sents.More;
      session = with_stage s (session.Sending kind (drop (room s) left) (packets + 1));
      bytes = packet_bytes kind (end_bit false + mark_bit packets s.heard.mark) packets (take (room s) left);
    }

send_by : (e : End) (w : Watch) (pen : Pen) (t : ℕ) (kind : Kind) (left : List ℕ) (packets : ℕ) (last : Bool) → Sized e.client → nat_le (length left) (room e.client) ≡ last
    → Fits w.named pen kind packets (packets == 0) left
    → Effects (at e (session.Sending kind left packets)) w pen t (line.Send last ∷ []) (sent_by e.client kind left packets last)
send_by e w pen t kind left packets true s is fits =
    let few : length left ≤ room e.client = leb-true _ _ is in
    let sends = sends_one e.asked t e.client.heard w (wire_of pen e) kind packets true left [] (omega (arith, few, s.narrow)) fits in
    record { watch = w; pen_behind = sends.pen; plays = sends.plays; holds = tt }
send_by e w pen t kind left packets false s is fits =
    let sends = sends_more e.asked t e.client.heard w (wire_of pen e) kind (room e.client) packets left s.wide s.narrow fits in
    record { watch = w; pen_behind = sends.pen; plays = sends.plays; holds = sends.fits }

send_goes : (e : End) (stage : session.Stage) (w : Watch) (pen : Pen) (t : ℕ) (x : Effect Sent) → Sized e.client → Holds w.named pen stage → sent_in (with_stage e.client stage) stage ≡ Ok x
    → Effects (at e stage) w pen t (line.Send (nat_le (length (left_of stage)) (room e.client)) ∷ []) x
unfolding sent_of
send_goes e session.Idle w pen t x s holds is = absurd (let u : ⊥ = cc in u)
send_goes e (session.Sending kind left packets) w pen t x s holds is =
    subst (Effects (at e (session.Sending kind left packets)) w pen t (line.Send (nat_le (length left) (room e.client)) ∷ [])) (ok_same _ x is)
    (send_by e w pen t kind left packets (nat_le (length left) (room e.client)) s refl holds)
send_goes e session.Reading w pen t x s holds is = absurd (let u : ⊥ = cc in u)
send_goes e session.Cancelling w pen t x s holds is = absurd (let u : ⊥ = cc in u)
send_goes e (session.Broken fault) w pen t x s holds is = absurd (let u : ⊥ = cc in u)

put_goes : (e : End) (stage : session.Stage) (w : Watch) (pen : Pen) (t : ℕ) (part : List ℕ) (x : Effect (Unit {0})) → Sized e.client → Holds w.named pen stage
    → put_in (with_stage e.client stage) part stage ≡ Ok x → Effects (at e stage) w pen t (packets (full_in e.client (left_of stage ++ part))) x
put_goes e session.Idle w pen t part x s holds is = absurd (let u : ⊥ = cc in u)
put_goes e (session.Sending kind left count) w pen t part x s holds is =
    let fits = fits_more w.named pen kind count (count == 0) left part holds in
    let sends = sends_full e.asked t e.client.heard w (wire_of pen e) kind (room e.client) (full_in e.client (left ++ part)) count (left ++ part) s.wide s.narrow fits in
    subst (Effects (at e (session.Sending kind left count)) w pen t (packets (full_in e.client (left ++ part)))) (ok_same _ x is)
    (record { watch = w; pen_behind = sends.pen; plays = sends.plays; holds = sends.fits })
put_goes e session.Reading w pen t part x s holds is = absurd (let u : ⊥ = cc in u)
put_goes e session.Cancelling w pen t part x s holds is = absurd (let u : ⊥ = cc in u)
put_goes e (session.Broken fault) w pen t part x s holds is = absurd (let u : ⊥ = cc in u)

finish_goes : (e : End) (stage : session.Stage) (w : Watch) (pen : Pen) (t : ℕ) (x : Effect (Unit {0})) → Sized e.client → Holds w.named pen stage
    → finished_in (with_stage e.client stage) stage ≡ Ok x → Effects (at e stage) w pen t (packets (full_in e.client (left_of stage)) ++ line.Send true ∷ []) x
finish_goes e session.Idle w pen t x s holds is = absurd (let u : ⊥ = cc in u)
finish_goes e (session.Sending kind left count) w pen t x s holds is =
    let sends = sends_last e.asked t e.client.heard w (wire_of pen e) kind (room e.client) count left s.wide s.narrow holds in
    subst (Effects (at e (session.Sending kind left count)) w pen t (packets (full_in e.client left) ++ line.Send true ∷ [])) (ok_same _ x is)
    (record { watch = w; pen_behind = sends.pen; plays = sends.plays; holds = tt })
finish_goes e session.Reading w pen t x s holds is = absurd (let u : ⊥ = cc in u)
finish_goes e session.Cancelling w pen t x s holds is = absurd (let u : ⊥ = cc in u)
finish_goes e (session.Broken fault) w pen t x s holds is = absurd (let u : ⊥ = cc in u)

-- ---- Cancelling, and a loss

abbrev cancelled_by : ClientSession → Kind → ℕ → Bool → Effect Cancelled
cancelled_by s kind packets none =
    if none
    then record { answer = cancels.Unsent; session = with_stage s session.Idle; bytes = [] }
    else record { answer = cancels.Asked; session = with_stage s session.Cancelling; bytes = ignore kind packets ++ stop_bytes }

-- The line's stage by whether nothing is out.
abbrev line_by : End → Bool → Line
line_by e none = record { asked = e.asked; stage = line.Sending (line.not_begun none); heard = e.client.heard }

record Stops (e : End) (w : Watch) (pen : Pen) (t : ℕ) (none : Bool) (x : Effect Cancelled) : Type 0 where
  plays : Plays (line_by e none) w (wire_of pen e) (line.Cancel ∷ []) (Bytes ToServer t x.bytes) (line_at (becomes e x.session)) w (wire_of pen e)
  holds : Holds w.named pen x.session.stage

stops : (e : End) (w : Watch) (pen : Pen) (t : ℕ) (kind : Kind) (left : List ℕ) (packets : ℕ) (none : Bool) → Fits w.named pen kind packets none left
    → Stops e w pen t none (cancelled_by e.client kind packets none)
stops e w pen t kind left packets true fits = record {
  plays = one (line_by e true) w (wire_of pen e) line.Cancel t [] (wire_of pen e) ((refl, refl), refl, refl);
  holds = tt;
}
stops e w pen t kind left packets false fits =
    let ended : ignore kind packets ≡ ignore (packets_are pen.kind) pen.packets =
    ap (λ (k : Kind). ignore k packets) fits.0 ∙ ap (ignore (packets_are pen.kind)) (sym fits.1) in
    record {
      plays = one (line_by e false) w (wire_of pen e) line.Cancel t (ignore kind packets ++ stop_bytes) (wire_of pen e)
          ((ignore kind packets, stop_bytes, pen, refl, (ended, refl), (stop_bytes, [], pen, sym (append-nil stop_bytes), (refl, refl), (refl, refl))), refl, refl);
      holds = tt;
    }

cancel_goes : (e : End) (stage : session.Stage) (w : Watch) (pen : Pen) (t : ℕ) (x : Effect Cancelled) → Holds w.named pen stage → cancelled_in (with_stage e.client stage) stage ≡ Ok x
    → Effects (at e stage) w pen t (line.Cancel ∷ []) x
unfolding cancelled_sending
cancel_goes e session.Idle w pen t x holds is =
    subst (Effects (at e session.Idle) w pen t (line.Cancel ∷ [])) (ok_same _ x is) (record {
      watch = w;
      pen_behind = pen;
      plays = one (line_at (at e session.Idle)) w (wire_of pen e) line.Cancel t [] (wire_of pen e) ((refl, refl), refl, refl);
      holds = tt;
    })
cancel_goes e (session.Sending kind left packets) w pen t x holds is =
    let s = stops e w pen t kind left packets (packets == 0) holds in
    subst (Effects (at e (session.Sending kind left packets)) w pen t (line.Cancel ∷ [])) (ok_same _ x is) (record { watch = w; pen_behind = pen; plays = s.plays; holds = s.holds })
cancel_goes e session.Reading w pen t x holds is =
    subst (Effects (at e session.Reading) w pen t (line.Cancel ∷ [])) (ok_same _ x is) (record {
      watch = w;
      pen_behind = pen;
      plays = one (line_at (at e session.Reading)) w (wire_of pen e) line.Cancel t stop_bytes (wire_of pen e)
          ((stop_bytes, [], pen, sym (append-nil stop_bytes), (refl, refl), (refl, refl)), refl, refl);
      holds = tt;
    })
cancel_goes e session.Cancelling w pen t x holds is =
    subst (Effects (at e session.Cancelling) w pen t (line.Cancel ∷ [])) (ok_same _ x is) (record {
      watch = w;
      pen_behind = pen;
      plays = one (line_at (at e session.Cancelling)) w (wire_of pen e) line.Cancel t [] (wire_of pen e) ((refl, refl), refl, refl);
      holds = tt;
    })
cancel_goes e (session.Broken fault) w pen t x holds is = absurd (let u : ⊥ = cc in u)

lose_goes : (e : End) (stage : session.Stage) (w : Watch) (pen : Pen) (t : ℕ) → Goes (at e stage) w pen (line.Lose ∷ []) (Closes t) (becomes e (lost (with_stage e.client stage)))
lose_goes e session.Idle w pen t =
    record { watch = w; pen_behind = pen; plays = one (line_at (at e session.Idle)) w (wire_of pen e) line.Lose t [] (wire_of pen e) refl; holds = tt }
lose_goes e (session.Sending kind left packets) w pen t = record {
  watch = w;
  pen_behind = pen;
  plays = one (line_at (at e (session.Sending kind left packets))) w (wire_of pen e) line.Lose t [] (wire_of pen e) refl;
  holds = tt;
}
lose_goes e session.Reading w pen t =
    record { watch = w; pen_behind = pen; plays = one (line_at (at e session.Reading)) w (wire_of pen e) line.Lose t [] (wire_of pen e) refl; holds = tt }
lose_goes e session.Cancelling w pen t =
    record { watch = w; pen_behind = pen; plays = one (line_at (at e session.Cancelling)) w (wire_of pen e) line.Lose t [] (wire_of pen e) refl; holds = tt }
lose_goes e (session.Broken fault) w pen t =
    record { watch = w; pen_behind = pen; plays = one (line_at (at e (session.Broken fault))) w (wire_of pen e) line.Lose t [] (wire_of pen e) refl; holds = tt }

-- ---- What comes: no request is being sent behind it

abbrev NotSending : line.LineStage → Type 0
NotSending (line.Sending begun) = ⊥
NotSending _ = Unit {0}

reads_not : (l : Line) (part : Part Token) (ends : Bool) (until : Heard) (r : Result Heard ListenFault) → NotSending (line.reads l part ends until r).line.stage
reads_not l part ends until (Err fault) = tt
reads_not l part false until (Ok h) = tt
reads_not l part true until (Ok h) = tt

skipped_not : (l : Line) (h : Heard) (done : FinalDone) → NotSending (line.skips_to_end {T = Token} l h done).line.stage
skipped_not l h Awaited = tt
skipped_not l h Answered = tt
skipped_not l h Acknowledged = tt

skips_not : (l : Line) (ends : Bool) (until : Heard) (r : Result Heard ListenFault) → NotSending (line.skips {T = Token} l ends until r).line.stage
skips_not l ends until (Err fault) = tt
skips_not l false until (Ok h) = tt
skips_not l true until (Ok h) = skipped_not l h h.done

comes_not : (l : Line) (part : Part Token) (stage : line.LineStage) → NotSending (line.comes l part stage).line.stage
comes_not l part line.Idle = tt
comes_not l part (line.Sending begun) = tt
comes_not l part line.Reading = reads_not l part (is_end part.close) (heard_until false l.heard part.items) (hear_part false l.heard part)
comes_not l part line.Cancelling = skips_not l (is_end part.close) (heard_until true l.heard part.items) (hear_part true l.heard part)
comes_not l part (line.Broken fault) = tt

holds_none : (named : ℕ) (pen : Pen) (stage : session.Stage) → NotSending (stage_of stage) → Holds named pen stage
holds_none named pen session.Idle other = tt
holds_none named pen (session.Sending kind left packets) other = absurd other
holds_none named pen session.Reading other = tt
holds_none named pen session.Cancelling other = tt
holds_none named pen (session.Broken fault) other = tt

come_goes : (e : End) (w : Watch) (pen : Pen) (part : Part Token) (t : ℕ) (bytes : List ℕ) (behind : End)
    → IsIn e.reading e.is_first part (line_turn (line_at e) (line.Come part)).answer bytes behind.reading → Hears e part behind
    → Goes e w pen (line.Come part ∷ []) (Bytes ToClient t bytes) behind
come_goes e w pen part t bytes behind is hears =
    let l = line_at e in
    let v = watch_by (done_by (line.Come part) (line_turn l (line.Come part))) w in
    record {
      watch = v;
      pen_behind = pen;
      plays = subst (λ (k : Line). Plays l w (wire_of pen e) (line.Come part ∷ []) (Bytes ToClient t bytes) k v (wire_of pen behind)) (sym hears.line_is)
          (one l w (wire_of pen e) (line.Come part) t bytes (wire_of pen behind) (is, refl, hears.later));
      holds = holds_none v.named pen behind.client.stage
          (subst NotSending (sym (ap (λ (k : Line). k.stage) hears.line_is)) (comes_not l part l.stage));
    }

-- ---- Each of them

no_bytes : (e : End) (w : Watch) (pen : Pen) (acts : List (Act Token)) (t : ℕ) (bytes : List ℕ) (next behind : End) → bytes ≡ [] → behind ≡ next
    → Goes e w pen acts (Bytes ToServer t []) next → Goes e w pen acts (Bytes ToServer t bytes) behind
no_bytes e w pen acts t bytes next behind none is goes =
    subst (λ (xs : List ℕ). Goes e w pen acts (Bytes ToServer t xs) behind) (sym none) (subst (Goes e w pen acts (Bytes ToServer t [])) (sym is) goes)

goes : (e : End) (w : Watch) (pen : Pen) (call : Call) (t : ℕ) (bytes : List ℕ) (behind : End) → IsTyped e.client → Holds w.named pen e.client.stage → IsDone e call bytes behind
    → Goes e w pen (acts_by e.client call) (piece_by call t bytes) behind
goes e w pen (Mark reset) t bytes behind typed holds (idle, none, is) = no_bytes e w pen _ t bytes _ behind none is (mark_goes e e.client.stage w pen reset t idle)
goes e w pen (Start request) t bytes behind typed holds (idle, none, is) = no_bytes e w pen _ t bytes _ behind none is (start_goes e w pen t request idle typed.descriptor)
goes e w pen Send t bytes behind typed holds (answer, appends) =
    appends_goes (sent e.client) answer e w pen t _ bytes behind (λ x is. send_goes e e.client.stage w pen t x (sized e.client typed.size) holds is) appends
goes e w pen (Open kind) t bytes behind typed holds (idle, none, is) =
    no_bytes e w pen _ t bytes _ behind none is (ask_goes e e.client.stage w pen t (packets_are kind) (headers_of kind (named_in e.client)) idle (fits_open e.client pen kind typed.descriptor))
goes e w pen (Put part) t bytes behind typed holds appends =
    appends_goes (put e.client part) tt e w pen t _ bytes behind (λ x is. put_goes e e.client.stage w pen t part x (sized e.client typed.size) holds is) appends
goes e w pen Finish t bytes behind typed holds appends =
    appends_goes (finished e.client) tt e w pen t _ bytes behind (λ x is. finish_goes e e.client.stage w pen t x (sized e.client typed.size) holds is) appends
goes e w pen Cancel t bytes behind typed holds (answer, appends) =
    appends_goes (cancelled e.client) answer e w pen t _ bytes behind (λ x is. cancel_goes e e.client.stage w pen t x holds is) appends
goes e w pen Lose t bytes behind typed holds (none, is) = subst (Goes e w pen (line.Lose ∷ []) (Closes t)) (sym is) (lose_goes e e.client.stage w pen t)
goes e w pen (Come part) t bytes behind typed holds (is, hears) = come_goes e w pen part t bytes behind is hears

-- ---- All of them

pub record AllShown (l : Line) (w : Watch) (wire : Wire) (acts : List (Act Token)) (ps : List Piece) : Type 0 where
  pub shown : List Shown
  pub done : dones shown ≡ history l acts
  pub spelled : AreShown w wire shown
  pub handed : (run : Run) → seen (pieces shown) run ≡ seen ps run

behind_one : (l after : Line) (w v : Watch) (wire behind : Wire) (first others : List (Act Token)) (piece : Piece) (ps : List Piece)
    → Plays l w wire first piece after v behind → AllShown after v behind others ps → AllShown l w wire (first ++ others) (piece ∷ ps)
unfolding seen
behind_one l after w v wire behind first others piece ps plays rest = record {
  shown = plays.shown ++ rest.shown;
  done =
      dones_both plays.shown rest.shown
      ∙ (ap (λ (ds : List (Done Token)). ds ++ dones rest.shown) plays.done
      ∙ (ap (λ (ds : List (Done Token)). history l first ++ ds) (rest.done ∙ ap (λ (k : Line). history k others) (sym plays.line_is)) ∙ sym (history_both l first others)));
  spelled = plays.spelled rest.shown rest.spelled;
  handed = λ run. seen_both plays.shown rest.shown run ∙ (ap (seen (pieces rest.shown)) (plays.handed run) ∙ rest.handed (piece_seen piece run));
}

all_shown : (e : End) (w : Watch) (pen : Pen) (calls : List Called) → IsTyped e.client → Holds w.named pen e.client.stage → AreCalled e calls
    → AllShown (line_at e) w (wire_of pen e) (acts_of e calls) (handed calls)
all_shown e w pen [] typed holds called = record { shown = []; done = refl; spelled = tt; handed = λ run. refl }
all_shown e w pen (x ∷ xs) typed holds (done, typed_behind, called) =
    let g = goes e w pen x.call x.time x.bytes x.behind typed holds done in
    behind_one (line_at e) (line_at x.behind) w g.watch (wire_of pen e) (wire_of g.pen_behind x.behind) (acts_by e.client x.call) (acts_of x.behind xs) (piece_by x.call x.time x.bytes) (handed xs)
    g.plays (all_shown x.behind g.watch g.pen_behind xs typed_behind g.holds called)

pub called_shows : (size : ℕ) (r : Parser) (calls : List Called) → IsPacketSize size → AreCalled (new_end size r) calls
    → AllShown line.new_line new_watch (new_wire r) (acts_of (new_end size r) calls) (handed calls)
called_shows size r calls lawful called =
    all_shown (new_end size r) new_watch (record { kind = Batch; packets = 0 }) calls (record { size = lawful; descriptor = omega arith }) tt called

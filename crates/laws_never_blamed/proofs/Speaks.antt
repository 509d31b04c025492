-- All that is shown to a judge: what is seen of it, until the connection is lost.
use Rattle.std.proofs.Common.{◌≡◌, ◌∙◌, ◌&&◌, nat_lt, Bool, true, false, ℕ, List, [], ◌∷◌, None, refl, sym, ap, subst, if◌then◌else◌}
use Rattle.std.specs.Prelude.{Result, Ok, Err}
use Rattle.tds_packet.specs.declared.status.Reset.{Reset}
use Rattle.tds_client.specs.declared.heard.Heard.{Heard}
use Rattle.tds_client.specs.declared.heard.FinalDone.{FinalDone}
use Rattle.tds_client.specs.declared.heard.FinalDone.TheVariants.{Awaited, Answered, Acknowledged}
use Rattle.tds_listen.specs.declared.fault.ListenFault.{ListenFault}
use Rattle.tds_wire.specs.declared.told.Token.{Token}
use Rattle.tds_wire.specs.Reading.{Parser}
use Rattle.tds_service.specs.Parts.{Part, hear_part, heard_until, is_end}
use Rattle.tds_service.specs.Line as line
use Rattle.tds_service.specs.Line.{Act, Answer, Line, Packet, LineStage, Idle, Sending, Reading as Awaiting, Cancelling, Broken, line_turn}
use Rattle.tds_service.specs.History.{Done, done_by, history}
use Rattle.laws_conforming_server.specs.Answering.{IsNoFault, NoFault, UnlessLost}
use Rattle.tds_judge.specs.declared.finding.Direction.TheVariants.{ToServer, ToClient}
use Rattle.tds_judge.specs.declared.finding.Spot.{Spot}
use Rattle.tds_judge.specs.declared.frame.Frame.{Frame}
use Rattle.tds_judge.specs.declared.frame.Part.{Part as FramePart}
use Rattle.tds_judge.specs.declared.talk.Event.TheVariants as events
use Rattle.tds_judge.specs.Conversation.{Piece, Bytes, Lends, Closes, piece_seen, seen}
use Rattle.tds_judge.specs.Framing.{Run, closed, event_said, is_lost, steps, stops}
use Rattle.tds_judge.specs.History.{Said, found_in, further}
use Rattle.tds_judge.proofs.InRuns.{Cuts, stopped}
use Rattle.laws_never_blamed.specs.Seen.{Eye, Watch, sees, sees_come, sees_done, sees_outs, watch_by}
use Rattle.laws_never_blamed.specs.Spelled.{AreOut, AreSeen, AreShown, IsSeen, IsShown, Pen, Shown, Wire, dones, piece_by, pieces}
use Rattle.laws_never_blamed.proofs.Acts.{line_at, quiet_reads, quiet_skips}
use Rattle.laws_never_blamed.proofs.Heads.{Base, run_at}
use Rattle.laws_never_blamed.proofs.Out.{Behind, Edge, First, Rests}
use Rattle.laws_never_blamed.proofs.Shows.{GoesOn, OutAt, State, comes, sends_first, sends_later, stops_reading, stops_sending}

-- ---- What shows nothing

same_wire : (wire behind : Wire) → behind.pen ≡ wire.pen → behind.reading ≡ wire.reading → behind.is_first ≡ wire.is_first → wire ≡ behind
same_wire wire behind pen reading first = sym (ap (λ (p : Pen). record behind { pen = p }) pen ∙ (ap (λ (r : Parser). record wire { reading = r; is_first = behind.is_first }) reading ∙ ap (λ (b : Bool). record wire { is_first = b }) first))

keeps : (base : Base) (t named : ℕ) (stage after : LineStage) (begun : Bool) (wire behind : Wire) (bytes : List ℕ) (run : Run) (past : List Said)
    → State base stage begun wire run past → ((c : Frame) → OutAt stage wire.pen c → OutAt after wire.pen c)
    → AreOut named wire.pen [] bytes behind.pen → behind.reading ≡ wire.reading → behind.is_first ≡ wire.is_first
    → GoesOn base after begun behind (steps ToServer t bytes run) (λ eye. past)
unfolding steps
keeps base t named stage after begun wire behind bytes run past state out sent reading first =
    subst (λ (x : Wire). GoesOn base after begun x (steps ToServer t bytes run) (λ eye. past)) (same_wire wire behind sent.1 reading first)
    (record {
      eye = record { spot = λ past. record { direction = ToServer; offset = 0; time = 0 }; length = λ past. 0; fills = λ past. false; headers = λ past. false; bulk = λ past. false };
      state = record {
        client = state.client;
        server = state.server;
        parser = state.parser;
        run_is = ap (λ (xs : List ℕ). steps ToServer t xs run) sent.0 ∙ state.run_is;
        out = out state.client state.out;
        into = state.into;
      };
    })

-- ---- Each act but a loss

abbrev NotLose : Act Token → Type 0
NotLose line.Lose = ⊥
NotLose _ = Unit {0}

abbrev Shows : Base → ℕ → LineStage → Heard → Watch → Wire → Act Token → ℕ → List ℕ → Wire → Run → List Said → Type 0
Shows base n stage h w wire act t bytes behind run past =
    GoesOn base (line_turn (line_at n stage h) act).line.stage (watch_by (done_by act (line_turn (line_at n stage h) act)) w).begun behind (piece_seen (piece_by act t bytes) run)
    (λ eye. sees_done eye w past (done_by act (line_turn (line_at n stage h) act)))

mark_shows : (base : Base) (n : ℕ) (stage : LineStage) (h : Heard) (w : Watch) (wire : Wire) (reset : Reset) (t : ℕ) (bytes : List ℕ) (behind : Wire) (run : Run) (past : List Said)
    → State base stage w.begun wire run past → IsShown w.named wire (done_by (line.Mark reset) (line_turn (line_at n stage h) (line.Mark reset))) bytes (line.Mark reset) behind
    → Shows base n stage h w wire (line.Mark reset) t bytes behind run past
mark_shows base n Idle h w wire reset t bytes behind run past state shown = keeps base t w.named Idle Idle w.begun wire behind bytes run past state (λ c out. out) shown.0 shown.1 shown.2
mark_shows base n (Sending begun) h w wire reset t bytes behind run past state shown = keeps base t w.named (Sending begun) (Sending begun) w.begun wire behind bytes run past state (λ c out. out) shown.0 shown.1 shown.2
mark_shows base n Awaiting h w wire reset t bytes behind run past state shown = keeps base t w.named Awaiting Awaiting w.begun wire behind bytes run past state (λ c out. out) shown.0 shown.1 shown.2
mark_shows base n Cancelling h w wire reset t bytes behind run past state shown = keeps base t w.named Cancelling Cancelling w.begun wire behind bytes run past state (λ c out. out) shown.0 shown.1 shown.2
mark_shows base n (Broken fault) h w wire reset t bytes behind run past state shown = absurd state.out

ask_shows : (base : Base) (n : ℕ) (stage : LineStage) (h : Heard) (w : Watch) (wire : Wire) (t : ℕ) (bytes : List ℕ) (behind : Wire) (run : Run) (past : List Said)
    → State base stage w.begun wire run past → IsShown w.named wire (done_by line.Ask (line_turn (line_at n stage h) line.Ask)) bytes line.Ask behind → Shows base n stage h w wire line.Ask t bytes behind run past
ask_shows base n Idle h w wire t bytes behind run past state shown = keeps base t w.named Idle (Sending false) w.begun wire behind bytes run past state (λ c out. out) shown.0 shown.1 shown.2
ask_shows base n (Sending begun) h w wire t bytes behind run past state shown = keeps base t w.named (Sending begun) (Sending begun) w.begun wire behind bytes run past state (λ c out. out) shown.0 shown.1 shown.2
ask_shows base n Awaiting h w wire t bytes behind run past state shown = keeps base t w.named Awaiting Awaiting w.begun wire behind bytes run past state (λ c out. out) shown.0 shown.1 shown.2
ask_shows base n Cancelling h w wire t bytes behind run past state shown = keeps base t w.named Cancelling Cancelling w.begun wire behind bytes run past state (λ c out. out) shown.0 shown.1 shown.2
ask_shows base n (Broken fault) h w wire t bytes behind run past state shown = absurd state.out

send_shows : (base : Base) (n : ℕ) (stage : LineStage) (h : Heard) (w : Watch) (wire : Wire) (last : Bool) (t : ℕ) (bytes : List ℕ) (behind : Wire) (run : Run) (past : List Said)
    → State base stage w.begun wire run past → IsShown w.named wire (done_by (line.Send last) (line_turn (line_at n stage h) (line.Send last))) bytes (line.Send last) behind
    → Shows base n stage h w wire (line.Send last) t bytes behind run past
send_shows base n Idle h w wire last t bytes behind run past state shown = keeps base t w.named Idle Idle w.begun wire behind bytes run past state (λ c out. out) shown.0 shown.1 shown.2
send_shows base n (Sending false) h w wire last t bytes behind run past state shown = sends_first base t n w.named h.mark last w.begun wire behind bytes run past state shown.0 shown.1 shown.2
send_shows base n (Sending true) h w wire last t bytes behind run past state shown = sends_later base t n w.named None last w.begun wire behind bytes run past state shown.0 shown.1 shown.2
send_shows base n Awaiting h w wire last t bytes behind run past state shown = keeps base t w.named Awaiting Awaiting w.begun wire behind bytes run past state (λ c out. out) shown.0 shown.1 shown.2
send_shows base n Cancelling h w wire last t bytes behind run past state shown = keeps base t w.named Cancelling Cancelling w.begun wire behind bytes run past state (λ c out. out) shown.0 shown.1 shown.2
send_shows base n (Broken fault) h w wire last t bytes behind run past state shown = absurd state.out

cancel_shows : (base : Base) (n : ℕ) (stage : LineStage) (h : Heard) (w : Watch) (wire : Wire) (t : ℕ) (bytes : List ℕ) (behind : Wire) (run : Run) (past : List Said)
    → State base stage w.begun wire run past → IsShown w.named wire (done_by line.Cancel (line_turn (line_at n stage h) line.Cancel)) bytes line.Cancel behind
    → Shows base n stage h w wire line.Cancel t bytes behind run past
cancel_shows base n Idle h w wire t bytes behind run past state shown = keeps base t w.named Idle Idle w.begun wire behind bytes run past state (λ c out. out) shown.0 shown.1 shown.2
cancel_shows base n (Sending false) h w wire t bytes behind run past state shown = keeps base t w.named (Sending false) Idle w.begun wire behind bytes run past state (λ c out. out) shown.0 shown.1 shown.2
cancel_shows base n (Sending true) h w wire t bytes behind run past state shown = stops_sending base t n w.named w.begun wire behind bytes run past state shown.0 shown.1 shown.2
cancel_shows base n Awaiting h w wire t bytes behind run past state shown = stops_reading base t w.named w.begun wire behind bytes run past state shown.0 shown.1 shown.2
cancel_shows base n Cancelling h w wire t bytes behind run past state shown = keeps base t w.named Cancelling Cancelling w.begun wire behind bytes run past state (λ c out. out) shown.0 shown.1 shown.2
cancel_shows base n (Broken fault) h w wire t bytes behind run past state shown = absurd state.out

reads_out : (l : Line) (part : Part Token) (ends : Bool) (until : Heard) (r : Result Heard ListenFault) (pen : Pen) (c : Frame) → Rests c → IsNoFault (line.reads l part ends until r).answer
    → OutAt (line.reads l part ends until r).line.stage pen c
reads_out l part ends until (Err fault) pen c rests well = absurd well
reads_out l part false until (Ok h) pen c rests well = rests
reads_out l part true until (Ok h) pen c rests well = rests

skipped_out : (l : Line) (h : Heard) (done : FinalDone) (pen : Pen) (c : Frame) → Rests c → OutAt (line.skips_to_end {T = Token} l h done).line.stage pen c
skipped_out l h Awaited pen c rests = rests
skipped_out l h Answered pen c rests = rests
skipped_out l h Acknowledged pen c rests = rests

skips_out : (l : Line) (ends : Bool) (until : Heard) (r : Result Heard ListenFault) (pen : Pen) (c : Frame) → Rests c → IsNoFault (line.skips {T = Token} l ends until r).answer
    → OutAt (line.skips {T = Token} l ends until r).line.stage pen c
skips_out l ends until (Err fault) pen c rests well = absurd well
skips_out l false until (Ok h) pen c rests well = rests
skips_out l true until (Ok h) pen c rests well = skipped_out l h h.done pen c rests

come_shows : (cuts : Cuts) (base : Base) (n : ℕ) (stage : LineStage) (h : Heard) (w : Watch) (wire : Wire) (part : Part Token) (t : ℕ) (bytes : List ℕ) (behind : Wire) (run : Run) (past : List Said)
    → IsNoFault (line_turn (line_at n stage h) (line.Come part)).answer → State base stage w.begun wire run past
    → IsShown w.named wire (done_by (line.Come part) (line_turn (line_at n stage h) (line.Come part))) bytes (line.Come part) behind → Shows base n stage h w wire (line.Come part) t bytes behind run past
come_shows cuts base n Awaiting h w wire part t bytes behind run past well state shown =
    let l = line_at n Awaiting h in
    let r = hear_part false h part in
    let until = heard_until false h part.items in
    subst (λ (sent : List Packet). GoesOn base (line.reads l part (is_end part.close) until r).line.stage (if is_end part.close then false else true) behind (steps ToClient t bytes run)
    (λ eye. sees_come eye w.begun (sees_outs eye w.named past sent) part)) (sym (quiet_reads l part (is_end part.close) until r w.named).0)
    (comes cuts base t w.begun wire behind bytes run past Awaiting (line.reads l part (is_end part.close) until r).line.stage part (line.reads l part (is_end part.close) until r).answer
    state state.out (reads_out l part (is_end part.close) until r behind.pen state.client state.out well) shown.0 well)
come_shows cuts base n Cancelling h w wire part t bytes behind run past well state shown =
    let l = line_at n Cancelling h in
    let r = hear_part true h part in
    let until = heard_until true h part.items in
    subst (λ (sent : List Packet). GoesOn base (line.skips {T = Token} l (is_end part.close) until r).line.stage (if is_end part.close then false else true) behind (steps ToClient t bytes run)
    (λ eye. sees_come eye w.begun (sees_outs eye w.named past sent) part)) (sym (quiet_skips l (is_end part.close) until r w.named).0)
    (comes cuts base t w.begun wire behind bytes run past Cancelling (line.skips {T = Token} l (is_end part.close) until r).line.stage part (line.skips {T = Token} l (is_end part.close) until r).answer
    state state.out (skips_out l (is_end part.close) until r behind.pen state.client state.out well) shown.0 well)
come_shows cuts base n Idle h w wire part t bytes behind run past well state shown = absurd well
come_shows cuts base n (Sending begun) h w wire part t bytes behind run past well state shown = absurd well
come_shows cuts base n (Broken fault) h w wire part t bytes behind run past well state shown = absurd well

shows : (cuts : Cuts) (base : Base) (n : ℕ) (stage : LineStage) (h : Heard) (w : Watch) (wire : Wire) (act : Act Token) (t : ℕ) (bytes : List ℕ) (behind : Wire) (run : Run) (past : List Said)
    → NotLose act → IsNoFault (line_turn (line_at n stage h) act).answer → State base stage w.begun wire run past → IsShown w.named wire (done_by act (line_turn (line_at n stage h) act)) bytes act behind
    → Shows base n stage h w wire act t bytes behind run past
shows cuts base n stage h w wire (line.Mark reset) t bytes behind run past other well state shown = mark_shows base n stage h w wire reset t bytes behind run past state shown
shows cuts base n stage h w wire line.Ask t bytes behind run past other well state shown = ask_shows base n stage h w wire t bytes behind run past state shown
shows cuts base n stage h w wire (line.Send last) t bytes behind run past other well state shown = send_shows base n stage h w wire last t bytes behind run past state shown
shows cuts base n stage h w wire line.Cancel t bytes behind run past other well state shown = cancel_shows base n stage h w wire t bytes behind run past state shown
shows cuts base n stage h w wire (line.Come part) t bytes behind run past other well state shown = come_shows cuts base n stage h w wire part t bytes behind run past well state shown
shows cuts base n stage h w wire line.Lose t bytes behind run past other well state shown = absurd other

-- ---- None but a loss answers that it is lost

abbrev NotLost : Answer → Type 0
NotLost line.Lost = ⊥
NotLost _ = Unit {0}

reads_kept : (l : Line) (part : Part Token) (ends : Bool) (until : Heard) (r : Result Heard ListenFault) → NotLost (line.reads l part ends until r).answer
reads_kept l part ends until (Err fault) = tt
reads_kept l part false until (Ok h) = tt
reads_kept l part true until (Ok h) = tt

skipped_kept : (l : Line) (h : Heard) (done : FinalDone) → NotLost (line.skips_to_end {T = Token} l h done).answer
skipped_kept l h Awaited = tt
skipped_kept l h Answered = tt
skipped_kept l h Acknowledged = tt

skips_kept : (l : Line) (ends : Bool) (until : Heard) (r : Result Heard ListenFault) → NotLost (line.skips {T = Token} l ends until r).answer
skips_kept l ends until (Err fault) = tt
skips_kept l false until (Ok h) = tt
skips_kept l true until (Ok h) = skipped_kept l h h.done

kept : (n : ℕ) (stage : LineStage) (h : Heard) (act : Act Token) → NotLose act → NotLost (line_turn (line_at n stage h) act).answer
kept n Idle h (line.Mark reset) other = tt
kept n (Sending begun) h (line.Mark reset) other = tt
kept n Awaiting h (line.Mark reset) other = tt
kept n Cancelling h (line.Mark reset) other = tt
kept n (Broken fault) h (line.Mark reset) other = tt
kept n Idle h line.Ask other = tt
kept n (Sending begun) h line.Ask other = tt
kept n Awaiting h line.Ask other = tt
kept n Cancelling h line.Ask other = tt
kept n (Broken fault) h line.Ask other = tt
kept n Idle h (line.Send last) other = tt
kept n (Sending begun) h (line.Send last) other = tt
kept n Awaiting h (line.Send last) other = tt
kept n Cancelling h (line.Send last) other = tt
kept n (Broken fault) h (line.Send last) other = tt
kept n Idle h line.Cancel other = tt
kept n (Sending false) h line.Cancel other = tt
kept n (Sending true) h line.Cancel other = tt
kept n Awaiting h line.Cancel other = tt
kept n Cancelling h line.Cancel other = tt
kept n (Broken fault) h line.Cancel other = tt
kept n Idle h (line.Come part) other = tt
kept n (Sending begun) h (line.Come part) other = tt
kept n Awaiting h (line.Come part) other = reads_kept (line_at n Awaiting h) part (is_end part.close) (heard_until false h part.items) (hear_part false h part)
kept n Cancelling h (line.Come part) other = skips_kept (line_at n Cancelling h) (is_end part.close) (heard_until true h part.items) (hear_part true h part)
kept n (Broken fault) h (line.Come part) other = tt
kept n stage h line.Lose other = absurd other

seen_on : (answer : Answer) (w : Watch) (past : List Said) (d : Done Token) (behind : Watch → List Said → Type 0) (all : List Said) → NotLost answer
    → (eye : Eye) → behind (watch_by d w) (sees_done eye w past d) → IsSeen answer w past d behind all
seen_on line.Lost w past d behind all other eye so = absurd other
seen_on _ w past d behind all other eye so = (eye, so)

well_on : (answer : Answer) (Rest : Type 0) → NotLost answer → UnlessLost answer Rest → Rest
well_on line.Lost Rest other rest = absurd other
well_on _ Rest other rest = rest

-- ---- A loss

pub record Ends (base : Base) (run : Run) (all : List Said) : Type 0 where
  pub talk : run.judge.talk ≡ further all base.talk
  pub limits : run.judge.limits ≡ base.limits
  pub told : run.told ≡ found_in base.limits all base.talk base.told

piece_stopped : (piece : Piece) (run : Run) → run.judge.parser ≡ None → piece_seen piece run ≡ run
unfolding event_said closed
piece_stopped (Bytes d t bytes) run none = stopped d t bytes run.judge run.told none
piece_stopped (Lends t) run none = rw none refl
piece_stopped (Closes t) run none = rw none refl

all_stopped : (ps : List Piece) (run : Run) → run.judge.parser ≡ None → seen ps run ≡ run
unfolding seen
all_stopped [] run none = refl
all_stopped (p ∷ ps) run none = ap (seen ps) (piece_stopped p run none) ∙ all_stopped ps run none

edge_closes : (c : Frame) → Edge c → (is_lost c.part && nat_lt 0 c.offset) ≡ false
edge_closes c (Behind part) = ap (λ (p : FramePart). is_lost p && nat_lt 0 c.offset) part
edge_closes c (First part offset) = ap (λ (p : FramePart). is_lost p && nat_lt 0 c.offset) part ∙ ap (λ (n : ℕ). nat_lt 0 n) offset

out_closes : (stage : LineStage) (pen : Pen) (c : Frame) → OutAt stage pen c → (is_lost c.part && nat_lt 0 c.offset) ≡ false
out_closes Idle pen c out = edge_closes c out.edge
out_closes (Sending false) pen c out = edge_closes c out.edge
out_closes (Sending true) pen c out = ap (λ (p : FramePart). is_lost p && nat_lt 0 c.offset) out.part
out_closes Awaiting pen c out = edge_closes c out.edge
out_closes Cancelling pen c out = edge_closes c out.edge
out_closes (Broken fault) pen c out = absurd out

abbrev place_eye : Spot → Eye
place_eye spot = record { spot = λ past. spot; length = λ past. 0; fills = λ past. false; headers = λ past. false; bulk = λ past. false }

closes_at : (base : Base) (t : ℕ) (c s : Frame) (j : Parser) (past : List Said) → (is_lost c.part && nat_lt 0 c.offset) ≡ false
    → closed t (run_at base c s j past) ≡ stops (record { direction = ToServer; offset = c.offset; time = t }) events.Closed (run_at base c s j past)
unfolding closed
closes_at base t c s j past e = rw e refl

ends_at : (base : Base) (t : ℕ) (c s : Frame) (j : Parser) (past : List Said) (ps : List Piece) → (is_lost c.part && nat_lt 0 c.offset) ≡ false
    → Ends base (seen ps (closed t (run_at base c s j past))) (sees (place_eye (record { direction = ToServer; offset = c.offset; time = t })) past events.Closed)
unfolding further found_in
ends_at base t c s j past ps e =
    let spot : Spot = record { direction = ToServer; offset = c.offset; time = t } in
    let behind : Run = stops spot events.Closed (run_at base c s j past) in
    let is : seen ps (closed t (run_at base c s j past)) ≡ behind = ap (seen ps) (closes_at base t c s j past e) ∙ all_stopped ps behind refl in
    record {
      talk = ap (λ (r : Run). r.judge.talk) is;
      limits = ap (λ (r : Run). r.judge.limits) is;
      told = ap (λ (r : Run). r.told) is;
    }

lost_answer : (l : Line) (stage : LineStage) → (line.line_loses {T = Token} l stage).answer ≡ line.Lost
lost_answer l Idle = refl
lost_answer l (Sending begun) = refl
lost_answer l Awaiting = refl
lost_answer l Cancelling = refl
lost_answer l (Broken fault) = refl

-- ---- All of them

pub record All (base : Base) (w : Watch) (past : List Said) (ds : List (Done Token)) (run : Run) : Type 0 where
  pub all : List Said
  pub seen : AreSeen w past ds all
  pub ends : Ends base run all

goes_on : (base : Base) (l : Line) (w : Watch) (wire behind : Wire) (act : Act Token) (x : Shown) (xs : List Shown) (run : Run) (past : List Said) (ds : List (Done Token))
    → NotLost (line_turn l act).answer → x.done ≡ done_by act (line_turn l act)
    → (goes : GoesOn base (line_turn l act).line.stage (watch_by (done_by act (line_turn l act)) w).begun behind (piece_seen (piece_by act x.time x.bytes) run) (λ eye. sees_done eye w past (done_by act (line_turn l act))))
    → All base (watch_by (done_by act (line_turn l act)) w) (sees_done goes.eye w past (done_by act (line_turn l act))) ds (seen (pieces xs) (piece_seen (piece_by act x.time x.bytes) run))
    → All base w past (done_by act (line_turn l act) ∷ ds) (seen (pieces (x ∷ xs)) run)
unfolding seen
goes_on base l w wire behind act x xs run past ds other is goes rest =
    let d = done_by act (line_turn l act) in
    record {
      all = rest.all;
      seen = seen_on d.answer w past d (λ v before. AreSeen v before ds rest.all) rest.all other goes.eye rest.seen;
      ends = subst (λ (r : Run). Ends base r rest.all) (ap (λ (e : Done Token). seen (pieces xs) (piece_seen (piece_by e.act x.time x.bytes) run)) (sym is)) rest.ends;
    }

loses_there : (base : Base) (l : Line) (w : Watch) (wire : Wire) (x : Shown) (xs : List Shown) (run : Run) (past : List Said) (ds : List (Done Token))
    → x.done ≡ done_by line.Lose (line_turn l line.Lose) → State base l.stage w.begun wire run past → All base w past (done_by line.Lose (line_turn l line.Lose) ∷ ds) (seen (pieces (x ∷ xs)) run)
unfolding seen
loses_there base l w wire x xs run past ds is state =
    let d : Done Token = done_by line.Lose (line_turn l line.Lose) in
    let spot : Spot = record { direction = ToServer; offset = state.client.offset; time = x.time } in
    let end = ends_at base x.time state.client state.server state.parser past (pieces xs) (out_closes l.stage wire.pen state.client state.out) in
    record {
      all = sees (place_eye spot) past events.Closed;
      seen = subst (λ (a : Answer). IsSeen a w past d (λ v before. AreSeen v before ds (sees (place_eye spot) past events.Closed)) (sees (place_eye spot) past events.Closed))
          (sym (lost_answer l l.stage)) (place_eye spot, refl);
      ends = subst (λ (r : Run). Ends base r (sees (place_eye spot) past events.Closed))
          (ap (λ (r : Run). seen (pieces xs) (closed x.time r)) (sym state.run_is) ∙ ap (λ (e : Done Token). seen (pieces xs) (piece_seen (piece_by e.act x.time x.bytes) run)) (sym is)) end;
    }

abbrev Later : Base → Line → List (Act Token) → List Shown → Type 0
Later base l acts xs =
    (w : Watch) (wire : Wire) (run : Run) (past : List Said) → NoFault (history l acts) → AreShown w wire xs → State base l.stage w.begun wire run past → All base w past (history l acts) (seen (pieces xs) run)

speaks_on : (cuts : Cuts) (base : Base) (l : Line) (w : Watch) (wire : Wire) (run : Run) (past : List Said) (act : Act Token) (acts : List (Act Token)) (x : Shown) (xs : List Shown)
    → NotLose act → x.done ≡ done_by act (line_turn l act) → NoFault (history l (act ∷ acts)) → AreShown w wire (x ∷ xs) → State base l.stage w.begun wire run past → Later base (line_turn l act).line acts xs
    → All base w past (history l (act ∷ acts)) (seen (pieces (x ∷ xs)) run)
speaks_on cuts base l w wire run past act acts x xs other first well all state later =
    let (behind, shown, more) = all in
    let d = done_by act (line_turn l act) in
    let goes = shows cuts base l.asked l.stage l.heard w wire act x.time x.bytes behind run past other well.0 state
    (subst (λ (e : Done Token). IsShown w.named wire e x.bytes e.act behind) first shown) in
    goes_on base l w wire behind act x xs run past (history (line_turn l act).line acts) (kept l.asked l.stage l.heard act other) first goes
    (later (watch_by d w) behind (piece_seen (piece_by act x.time x.bytes) run) (sees_done goes.eye w past d)
    (well_on d.answer (NoFault (history (line_turn l act).line acts)) (kept l.asked l.stage l.heard act other) well.1)
    (subst (λ (e : Done Token). AreShown (watch_by e w) behind xs) first more) goes.state)

pub speaks : (cuts : Cuts) (base : Base) (l : Line) (w : Watch) (wire : Wire) (run : Run) (past : List Said) (acts : List (Act Token)) (shown : List Shown)
    → dones shown ≡ history l acts → NoFault (history l acts) → AreShown w wire shown → State base l.stage w.begun wire run past → All base w past (history l acts) (seen (pieces shown) run)
unfolding seen
speaks cuts base l w wire run past [] [] is well shown state = record {
  all = past;
  seen = refl;
  ends = record {
    talk = ap (λ (r : Run). r.judge.talk) state.run_is;
    limits = ap (λ (r : Run). r.judge.limits) state.run_is;
    told = ap (λ (r : Run). r.told) state.run_is;
  };
}
speaks cuts base l w wire run past [] (x ∷ xs) is well shown state = absurd cc
speaks cuts base l w wire run past (act ∷ acts) [] is well shown state = absurd cc
speaks cuts base l w wire run past (line.Lose ∷ acts) (x ∷ xs) is well shown state =
    let first : x.done ≡ done_by line.Lose (line_turn l line.Lose) = cc in
    loses_there base l w wire x xs run past (history (line_turn {T = Token} l line.Lose).line acts) first state
speaks cuts base l w wire run past (act ∷ acts) (x ∷ xs) is well shown state =
    let first : x.done ≡ done_by act (line_turn l act) = cc in
    let rest : dones xs ≡ history (line_turn l act).line acts = cc in
    speaks_on cuts base l w wire run past act acts x xs tt first well shown state
    (λ v wire run past well shown state. speaks cuts base (line_turn l act).line v wire run past acts xs rest well shown state)
